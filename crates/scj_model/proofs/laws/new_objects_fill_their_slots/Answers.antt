use Rattle.scj_model.proofs.Slots.{hidden_counted, slots_counted}
use Rattle.scj_model.proofs.laws.new_objects_fill_their_slots.Goals as goal

pub returns : goal.returns
returns c = record { hidden = λ p class. hidden_counted p class; all = λ p class. slots_counted p class }
