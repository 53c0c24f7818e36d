-- What a release does in execution, START or an operation, leaves all releases of classes with Yes bounded.
use Rattle.std.specs.Prelude.{Option, Some, slice_get}
use Rattle.std.proofs.Common.{◌≡◌, ℕ, ◌<◌, List, ◌∷◌, true, ◌∙◌, ap}
use Rattle.scj_rules.specs.Words.{◌>>=◌}
use Rattle.scj_tree.specs.Forest.{ChildrenFirst}
use Rattle.scj_model.specs.declared.operations.Op.{Op}
use Rattle.scj_model.specs.declared.plans.ReadingRow.{ReadingRow}
use Rattle.scj_model.specs.Code.{Code}
use Rattle.scj_model.specs.State.{Frame, Activity, Started, Release, ReleaseStatus, ReleaseAt, State, activity_in, activity_of, is_exec}
use Rattle.scj_model.specs.Steps.{Step}
use Rattle.scj_model.specs.Apply.{applied}
use Rattle.scj_model.specs.Run.{effect_at, position_of_op, ref_op}
use Rattle.mission_sound.specs.Invariant.{Invariant}
use Rattle.priority_laws.specs.Started.{started_as, started_in, started_at}
use Rattle.priority_laws.proofs.ReleaseMoves.{LeavesOthers}
use Rattle.memory_needs.specs.Need.{Table, too_much}
use Rattle.memory_bounds.specs.Weights.{IsBound, op_weight}
use Rattle.memory_bounds.specs.Accounting.{IsCounted}
use Rattle.memory_bounds.specs.Theorem.{Storage, AreBounded, RowsReport}
use Rattle.memory_bounds.proofs.Begins.{new_is_empty}
use Rattle.memory_bounds.proofs.Others.{Situated}
use Rattle.memory_bounds.proofs.Spares.{PutsInto}
use Rattle.memory_bounds.proofs.ReleaseTurn.{SameHandler, turn_keeps}
use Rattle.memory_bounds.proofs.Standing.{IsNext}
use Rattle.memory_bounds.proofs.Turns.{operation_keeps}
use Rattle.memory_bounds.proofs.Starts.{start_stays}

-- what has to be known of the next operation of a started release
pub record IsReckoned (code : Code) (table : Table) (rows : List ReadingRow) (s : State) (f : Frame) (op : Op)
    (rest : List Op) : Type 0 where
  pub puts : PutsInto s f.area (effect_at code rows s f op rest)
  pub situated : Situated s (effect_at code rows s f op rest)
  pub counted : op_weight code table op < too_much → IsCounted code table op (effect_at code rows s f op rest)

-- and of all of them, and of the handlers' rows
pub record AreReckoned (code : Code) (storage : Storage) (table : Table) (rows : List ReadingRow) (s : State) : Type 0 where
  pub effects : (index : ℕ) (r : Release) (a : Activity) (f : Frame) (below : List Frame) (op : Op) (rest : List Op) →
      slice_get s.releases index ≡ Some r → r.status ≡ Started a → a.frames ≡ f ∷ below → f.rest ≡ op ∷ rest →
      IsReckoned code table rows s f op rest
  pub reports : RowsReport storage s

module _ (code : Code) (storage : Storage) (table : Table) (bound : IsBound code table)
    (first : ChildrenFirst 0 code.program.nodes) (rows : List ReadingRow) (s : State) (i : Invariant code s)
    (b : AreBounded code storage table s) (known : AreReckoned code storage table rows s)
    (exec : is_exec s.phase ≡ true) (index : ℕ) (r : Release) (there : slice_get s.releases index ≡ Some r) where
  operates : (a : Activity) (f : Frame) (below : List Frame) (op : Op) (rest : List Op) (step : Step) →
      IsNext s index r a f below op rest →
      applied code s (ReleaseAt index) a below (position_of_op code op) (effect_at code rows s f op rest) ≡ Some step →
      LeavesOthers s step.state index → SameHandler step.state index r.handler → AreBounded code storage table step.state
  unfolding started_at started_in activity_of activity_in
  operates a f below op rest step next does leaves same =
      (let is : activity_of s (ReleaseAt index) ≡ Some a =
      ap (λ (o : Option Release). o >>= (λ x. activity_in x.status)) there ∙ ap activity_in next.status in
      let began : started_at s.releases index ≡ Some (started_as r.handler a) =
      ap (λ (o : Option Release). o >>= started_in) there
      ∙ ap (λ (x : ReleaseStatus). started_in (record r { status = x })) next.status in
      let k = known.effects index r a f below op rest there next.status next.frames next.ops in
      operation_keeps code storage table bound first rows s i b index r there a is began f below next.frames op rest next.ops
      k.puts k.situated k.counted step does leaves same)

  pub release_keeps : (step : Step) → ref_op code rows s (ReleaseAt index) ≡ Some step →
      AreBounded code storage table step.state
  release_keeps step e =
      turn_keeps code rows s (AreBounded code storage table) exec index r there operates
      (λ row scope body waits is_row is leaves same.
      start_stays code storage table bound s b index r there row scope body is_row is known.reports
      (new_is_empty code s i.memories.memory) leaves same) step e
