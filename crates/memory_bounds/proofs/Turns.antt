-- A turn of a release in execution leaves all releases of classes with Yes bounded, if what it does is as it was reckoned.
use Rattle.std.specs.Prelude.{Option, Some, None, slice_get, option_map}
use Rattle.std.proofs.Common.{◌≡◌, ℕ, ◌==◌, ◌<◌, List, ◌∷◌, Bool, true, false, refl, sym, ◌∙◌, ap, subst, arith}
use Rattle.std.proofs.lemmas.Bool.Decides.{nat_tests}
use Rattle.scj_rules.specs.Words.{◌>>=◌}
use Rattle.scj_tree.specs.Forest.{ChildrenFirst}
use Rattle.accepted_laws.proofs.Tools.{some_inj}
use Rattle.scj_model.specs.declared.handlers.HandlerRow.{HandlerRow}
use Rattle.scj_model.specs.declared.operations.Op.{Op}
use Rattle.scj_model.specs.declared.plans.ReadingRow.{ReadingRow}
use Rattle.scj_model.specs.Code.{Code}
use Rattle.scj_model.specs.State.{Frame, Activity, Release, ReleaseAt, State, activity_in, activity_of}
use Rattle.scj_model.specs.Registry.{handler_row}
use Rattle.scj_model.specs.Steps.{Step}
use Rattle.scj_model.specs.Apply.{applied}
use Rattle.scj_model.specs.Run.{effect_at, position_of_op}
use Rattle.mission_sound.specs.Invariant.{Invariant}
use Rattle.priority_laws.specs.Started.{StartedRelease, started_as, started_in, started_at}
use Rattle.priority_laws.proofs.ReleaseMoves.{LeavesOthers}
use Rattle.memory_needs.specs.Need.{Table, too_much}
use Rattle.memory_bounds.specs.Weights.{IsBound, op_weight, ops_weight}
use Rattle.memory_bounds.specs.Accounting.{IsCounted}
use Rattle.memory_bounds.specs.Bounded.{IsBounded}
use Rattle.memory_bounds.specs.Theorem.{Storage, IsYes, AreBounded}
use Rattle.memory_bounds.proofs.Kept.{weight_is_small}
use Rattle.memory_bounds.proofs.Applied.{BoundedAfter}
use Rattle.memory_bounds.proofs.Others.{Situated}
use Rattle.memory_bounds.proofs.Steps.{keeps}
use Rattle.memory_bounds.proofs.Spares.{PutsInto, effect_spares}
use Rattle.memory_bounds.proofs.Apart.{other_stays}

pub started_activity : (t : State) (q : ℕ) (w : StartedRelease) → started_at t.releases q ≡ Some w →
    activity_of t (ReleaseAt q) ≡ Some w.activity
unfolding started_at started_in activity_of
started_activity t q w e = of (slice_get t.releases q) e
  where
    by : (handler : ℕ) (o : Option Activity) → option_map (started_as handler) o ≡ Some w → o ≡ Some w.activity
    by handler None e = absurd (cc (e))
    by handler (Some a) e =
        let same : started_as handler a ≡ w = some_inj (started_as handler a) w e in
        ap (λ (v : StartedRelease). Some v.activity) same

    of : (o : Option Release) → o >>= started_in ≡ Some w → o >>= (λ x. activity_in x.status) ≡ Some w.activity
    of None e = absurd (cc (e))
    of (Some x) e = by x.handler (activity_in x.status) e

-- what a bounded release has left weighs little, and so does its next operation
pub small_next : (code : Code) (table : Table) (s : State) (f : Frame) (below : List Frame) (op : Op) (rest : List Op) →
    f.rest ≡ op ∷ rest → IsBounded code table s (f ∷ below) → op_weight code table op < too_much
unfolding ops_weight
small_next code table s f below op rest next before =
    let all = weight_is_small code table s f below before in
    let e = ap (ops_weight code table) next in omega (arith, all, e)

module _ (code : Code) (storage : Storage) (table : Table) (bound : IsBound code table)
    (first : ChildrenFirst 0 code.program.nodes) (rows : List ReadingRow) (s : State) (i : Invariant code s)
    (b : AreBounded code storage table s) (index : ℕ) (r : Release) (there : slice_get s.releases index ≡ Some r)
    (a : Activity) (is : activity_of s (ReleaseAt index) ≡ Some a)
    (began : started_at s.releases index ≡ Some (started_as r.handler a)) (f : Frame) (below : List Frame)
    (frames : a.frames ≡ f ∷ below) (op : Op) (rest : List Op) (next : f.rest ≡ op ∷ rest)
    (puts : PutsInto s f.area (effect_at code rows s f op rest)) (situated : Situated s (effect_at code rows s f op rest))
    (counted : op_weight code table op < too_much → IsCounted code table op (effect_at code rows s f op rest)) (step : Step)
    (does : applied code s (ReleaseAt index) a below (position_of_op code op) (effect_at code rows s f op rest) ≡ Some step)
    (leaves : LeavesOthers s step.state index)
    (same_handler : (w : StartedRelease) → started_at step.state.releases index ≡ Some w → w.handler ≡ r.handler) where
  row_before : (handler : ℕ) (row : HandlerRow) → handler_row step.state.registry handler ≡ Some row →
      handler_row s.registry handler ≡ Some row
  row_before handler row e =
      ap (λ (registry : List HandlerRow). handler_row registry handler) (sym leaves.registry) ∙ e

  own : (w : StartedRelease) (row : HandlerRow) → started_at step.state.releases index ≡ Some w →
      handler_row step.state.registry w.handler ≡ Some row → IsYes code storage table row.class →
      IsBounded code table step.state w.activity.frames
  unfolding BoundedAfter
  own w row e row_is reported =
      let mine : handler_row s.registry r.handler ≡ Some row =
      ap (handler_row s.registry) (sym (same_handler w e)) ∙ row_before w.handler row row_is in
      let before : IsBounded code table s (f ∷ below) =
      subst (IsBounded code table s) frames (b.is index (started_as r.handler a) row began mine reported) in
      keeps code table bound first rows s index a is f below before op rest next (counted (small_next code table s f below op rest next before)) situated step does
      w.activity (started_activity step.state index w e)

  other : (q : ℕ) → (index ≡ q → ⊥) → (w : StartedRelease) (row : HandlerRow) →
      started_at step.state.releases q ≡ Some w → handler_row step.state.registry w.handler ≡ Some row →
      IsYes code storage table row.class → IsBounded code table step.state w.activity.frames
  other q differ w row e row_is reported =
      let was : started_at s.releases q ≡ Some w = sym (leaves.others q differ) ∙ e in
      other_stays code s i.base i.memories (ReleaseAt index) (ReleaseAt q) (λ same. differ (cc (same))) a w.activity is
      (started_activity s q w was) table f below frames step.state
      (effect_spares code table s (ReleaseAt index) a (position_of_op code op) below f.area (effect_at code rows s f op rest)
      puts step does)
      (b.is q w row was (row_before w.handler row row_is) reported)

  pub operation_keeps : AreBounded code storage table step.state
  operation_keeps = record { is = λ q w row e row_is reported. of q w row e row_is reported (index == q) refl }
    where
      of : (q : ℕ) (w : StartedRelease) (row : HandlerRow) → started_at step.state.releases q ≡ Some w →
          handler_row step.state.registry w.handler ≡ Some row → IsYes code storage table row.class → (c : Bool) →
          (index == q) ≡ c → IsBounded code table step.state w.activity.frames
      of q w row e row_is reported true p =
          let same : index ≡ q = grind (arith, nat_tests) in
          own w row (ap (started_at step.state.releases) same ∙ e) row_is reported
      of q w row e row_is reported false p =
          let differ : index ≡ q → ⊥ = grind (arith, nat_tests) in
          other q differ w row e row_is reported
