-- No release of a handler class with Yes finds its memory full: the handlers' rows tell the storage of the form.
use Rattle.std.proofs.Common.{ℕ, List}
use Rattle.scj_tree.specs.Forest.{Forest}
use Rattle.scj_model.specs.Code.{Code, code_of}
use Rattle.scj_model.specs.Plan.{Plan}
use Rattle.scj_model.specs.State.{State}
use Rattle.scj_model.specs.Choice.{by_list}
use Rattle.scj_model.specs.Reached.{Reached, Arrived}
use Rattle.accepted_laws.specs.Programs.{IsAcceptedProgram}
use Rattle.accepted_laws.proofs.Typed.{behind_children}
use Rattle.accepted_laws.proofs.TypesBelow.{BehindChildren}
use Rattle.scope_sound.specs.Sound.{HasFacts}
use Rattle.scope_sound.proofs.Safe.{has_facts}
use Rattle.certain_faults.proofs.RunsOfNodes.{ClassesAskNothing}
use Rattle.certain_faults.proofs.Runs.{all_explained, classes_ask_nothing, invariant_of}
use Rattle.memory_needs.specs.Causes.{storage}
use Rattle.memory_bounds.specs.Theorem.{Storage, NeverFull, RowsReport}
use Rattle.memory_bounds.proofs.AllCounted.{are_counted}
use Rattle.memory_bounds.proofs.FormProgram.{rows_report}
use Rattle.memory_bounds.proofs.Programs.{first}
use Rattle.memory_bounds.proofs.Runs.{never_full}

module _ (forest : Forest) (accepted : IsAcceptedProgram forest) (storage : Storage)
    (reports : (plan : Plan) (choices : List ℕ) (s : State) → Reached (code_of forest) plan (by_list choices) Arrived s →
    RowsReport storage s) where
  abbrev code : Code
  code = code_of forest

  behind : BehindChildren (code_of forest).program
  unfolding code_of
  behind = behind_children forest accepted.whole

  facts : HasFacts (code_of forest)
  facts = has_facts forest accepted

  bare : ClassesAskNothing (code_of forest)
  bare = classes_ask_nothing forest accepted

  pub never_full_in : NeverFull (code_of forest) storage
  never_full_in plan choices s place row table step h may of reported e =
      never_full (code_of forest) facts storage table reported.bound (first forest accepted) plan choices
      (λ t k. are_counted (code_of forest) facts.bodies behind table plan.readings t
      (invariant_of (code_of forest) facts bare plan choices Arrived t k)
      (all_explained (code_of forest) facts bare plan choices Arrived t k))
      (λ t k. reports plan choices t k) s h place row of reported step e

-- and they do in each run
pub never_full_at : (forest : Forest) → IsAcceptedProgram forest →
    NeverFull (code_of forest) (storage (code_of forest).program)
unfolding code_of
never_full_at forest accepted =
    never_full_in forest accepted (storage (code_of forest).program) (λ plan choices s h.
    rows_report forest accepted plan choices s h)
