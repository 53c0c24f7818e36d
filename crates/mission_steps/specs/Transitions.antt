-- Transitions of the code, as the definitions see them.
use Rattle.scj_model.specs.Sequencer.{SeqEffect, Continues, TakesSafelet, TakesSequencer, TakesMission, LacksSequencer, LacksMission, BeginsMission, BeginsExecution, SkipsExecution, EndsExecution, ClosesMission, Transition}
use Rattle.mission_steps.specs.declared.transitions.SeqEffect.{SeqEffect as Coded}
use Rattle.mission_steps.specs.declared.transitions.SeqEffect.TheVariants as coded
use Rattle.mission_steps.specs.declared.transitions.Transition.{Transition as CodedTransition}

abbrev pub effect_seen : Coded → SeqEffect
effect_seen coded.Continues = Continues
effect_seen (coded.TakesSafelet r) = TakesSafelet r
effect_seen (coded.TakesSequencer r) = TakesSequencer r
effect_seen (coded.TakesMission r) = TakesMission r
effect_seen (coded.LacksSequencer safelet) = LacksSequencer safelet
effect_seen coded.LacksMission = LacksMission
effect_seen (coded.BeginsMission r) = BeginsMission r
effect_seen coded.BeginsExecution = BeginsExecution
effect_seen coded.SkipsExecution = SkipsExecution
effect_seen coded.EndsExecution = EndsExecution
effect_seen coded.ClosesMission = ClosesMission

abbrev pub transition_seen : CodedTransition → Transition
transition_seen t = record { phase = t.phase; operation = t.operation; effect = effect_seen t.effect }
