use Rattle.std.specs.Prelude.{slice_get}
use Rattle.std.proofs.Common.{◌∙◌, ◌-◌, List, ap, length, sym}
use Rattle.scj_model.specs.declared.events.Event.{Event}
use Rattle.plain_machine.proofs.EndLaws.{last_is}
use Rattle.plain_machine.proofs.watched.last_reported.Goals as goal

pub returns : goal.returns
returns c =
    c.copied.ensures
    ∙ (c.last.ensures.value
    ∙ (ap (λ (xs : List Event). slice_get xs (length xs - 1)) c.deref.ensures.value
    ∙ sym (last_is c.args.at.now.reported.items)))
