-- A unit that is spent, and what is noted of it.
use Rattle.std.specs.Prelude.{Bool, false, Option, Some, None, max, option_map, slice_get, unwrap_or, if◌then◌else◌}
use Rattle.std.proofs.Common.{◌≡◌, ◌∙◌, ℕ, suc, ◌+◌, List, [], ◌∷◌, ◌++◌, refl, ap, sym, subst, arith}
use Rattle.scj_rules.specs.Words.{◌>>=◌, holds}
use Rattle.scj_model.specs.Arrivals.{arrivals}
use Rattle.scj_model.specs.Choice.{by_priority}
use Rattle.scj_model.specs.Code.{code_of}
use Rattle.op_list.specs.Listed.{Listing}
use Rattle.scj_model.specs.Memory.{reserved}
use Rattle.scj_model.specs.Plan.{Plan}
use Rattle.scj_model.specs.Run.{RunSoFar, has_ended, next_unit, one_unit}
use Rattle.scj_model.specs.Sequencer.{phase_after}
use Rattle.scj_model.specs.State.{MemoryArea, Object, State}
use Rattle.scj_model.specs.Steps.{Step, reporting}
use Rattle.area_needs.specs.declared.refusals.Refusal.{Refusal}
use Rattle.area_needs.specs.Needs.{Needs, after_one_more, after_operation, after_unit, looked_at, needs_after, with_refusal}
use Rattle.area_needs.specs.Refusals.{refused_at}
use Rattle.area_growth.specs.Growth.{AreSituated, GoesOn, StaysSame, StaysStill, makes, opens, still}
use Rattle.area_growth.proofs.Growing.{same_still, still_then_still}
use Rattle.area_growth.proofs.Units.{acts_go, arrivals_same, phase_still}
use Rattle.area_tables.specs.declared.tables.AreaTable.{AreaTable}
use Rattle.area_tables.specs.Standing.{Reports}
use Rattle.region_heap.specs.Contents.{Contents}
use Rattle.region_heap.specs.Kept.{used_bytes}
use Rattle.run_state.specs.declared.states.RunState.{RunState}
use Rattle.run_state.specs.Seen.{state_of}
use Rattle.unit_steps.specs.Alike.{IsAlike, same, over}
use Rattle.unit_steps.specs.Refused.{followed, operated}
use Rattle.unit_steps.proofs.UnitJoins.{operated_acts, unit_goes_on}
use Rattle.unit_steps.proofs.RunsOn.{one_more}
use Rattle.plain_machine.specs.UnderWay.{IsBetween, run_at}
use Rattle.plain_machine.specs.Watched.{ReportsNeeds, class_count}
use Rattle.plain_machine.specs.declared.under_way.UnderWay.{UnderWay}

-- the memory of states that are alike is the same
pub areas_alike : (s t : State) → IsAlike s t → t.areas ≡ s.areas
areas_alike s t same = refl
areas_alike s t (over activity e none) = refl

pub objects_alike : (s t : State) → IsAlike s t → t.objects ≡ s.objects
objects_alike s t same = refl
objects_alike s t (over activity e none) = refl

pub memory_areas : (code : Listing) (st : RunState) → (state_of code st).areas ≡ st.memory.areas
unfolding state_of
memory_areas code st = refl

pub memory_objects : (code : Listing) (st : RunState) → (state_of code st).objects ≡ st.memory.objects
unfolding state_of
memory_objects code st = refl

-- ---- the memory

-- arrivals change nothing
pub goes_from : (s t u : State) → StaysSame s t → GoesOn t u → GoesOn s u
goes_from s t u g (still h) = still (still_then_still s t u (same_still s t g) h)
goes_from s t u g (makes area o e l others) =
    makes area
    (ap (λ (xs : List MemoryArea). holds (slice_get xs area) (λ x. x.is_open)) (sym g.areas) ∙ o)
    (e ∙ g.areas) (let h = g.used area in omega (arith, h, l)) (λ a d. others a d ∙ g.used a)
goes_from s t u g (opens area o e others) =
    opens area o (e ∙ ap (λ (xs : List MemoryArea). xs ++ area ∷ []) g.areas) (λ a. others a ∙ g.used a)

-- what follows the operation
pub record Follows (code : Listing) (done result : Step) : Type 0 where
  pub phase : Step
  pub is : phase_after (code_of code.program) done.state ≡ Some phase
  pub areas : result.state.areas ≡ phase.state.areas
  pub objects : result.state.objects ≡ phase.state.objects

pub follows : (code : Listing) (done result : Step) → followed (code_of code.program) done ≡ Some result → Follows code done result
follows code done result e = go (phase_after (code_of code.program) done.state) refl e
  where
    go : (o : Option Step) → phase_after (code_of code.program) done.state ≡ o →
        (option_map (λ (second : Step). reporting second.state (done.events ++ second.events)) o
        >>= (λ (r : Step). Some (reporting (next_unit r.state) r.events))) ≡ Some result →
        Follows code done result
    go None k h = absurd (cc (h))
    go (Some phase) k h = record {
      phase = phase;
      is = k;
      areas = sym (ap (λ (o : Option Step). (unwrap_or o done).state.areas) h);
      objects = sym (ap (λ (o : Option Step). (unwrap_or o done).state.objects) h);
    }

pub still_following : (code : Listing) (done result : Step) (f : Follows code done result) →
    StaysStill done.state f.phase.state → StaysStill done.state result.state
still_following code done result f g =
    still_then_still done.state f.phase.state result.state g
    (same_still f.phase.state result.state
    (record { areas = f.areas; used = λ a. ap (λ (os : List Object). used_bytes os a) f.objects }))

-- ---- what was needed

module _ (code : Listing) (plan : Plan) (n : ℕ) (was : RunState) (refusal : Option Refusal) (done result : Step) where
  abbrev s : State
  s = state_of code was

  abbrev so_far : Needs
  so_far = needs_after (code_of code.program) plan n

  abbrev noted : Needs
  noted = with_refusal refusal so_far

  pub needs_are : (run_at code.program plan n).state ≡ s → has_ended (run_at code.program plan n) ≡ false →
      refusal ≡ refused_at (code_of code.program) plan.readings by_priority (arrivals (code_of code.program) plan s).state →
      operated (code_of code.program) plan by_priority s ≡ Some done → followed (code_of code.program) done ≡ Some result →
      needs_after (code_of code.program) plan (n + 1) ≡ record noted {
        reserved = max (max noted.reserved (reserved done.state)) (reserved result.state);
      }
  unfolding needs_after after_one_more after_unit after_operation looked_at
  needs_are before goes_on refused op fol =
      let acted = operated_acts code plan by_priority s done op in
      let next : n + 1 ≡ suc n = omega arith in
      ap (λ (m : ℕ). needs_after (code_of code.program) plan m) next
      ∙ (ap (λ (b : Bool). if b then so_far else after_unit (code_of code.program) plan (run_at code.program plan n).state so_far) goes_on
      ∙ (ap (λ (t : State). after_unit (code_of code.program) plan t so_far) before
      ∙ (ap (λ (o : Option Step). looked_at o (after_operation (code_of code.program) plan.readings (arrivals (code_of code.program) plan s).state so_far))
      (unit_goes_on code plan by_priority was done op ∙ fol)
      ∙ (ap (λ (o : Option Step). looked_at (Some result)
      (looked_at o (with_refusal (refused_at (code_of code.program) plan.readings by_priority (arrivals (code_of code.program) plan s).state) so_far)))
      acted.1
      ∙ (ap (λ (r : Option Refusal). looked_at (Some result) (looked_at (Some acted.0) (with_refusal r so_far)))
      (sym refused)
      ∙ ap (λ (t : State). record noted { reserved = max (max noted.reserved (reserved t)) (reserved result.state) })
      acted.2)))))

-- ---- the table, from one unit to the next

-- what is noted of a refusal, and what a look at a memory gives
abbrev pub Notes : Option Refusal → AreaTable → AreaTable → Type 0
Notes refusal old new =
    (count : ℕ) (s : State) (needs : Needs) → Reports count s needs old → Reports count s (with_refusal refusal needs) new

abbrev pub Looks : Contents → AreaTable → AreaTable → Type 0
Looks m old new =
    (count : ℕ) (s t : State) (needs : Needs) → Reports count s needs old → GoesOn s t → m.areas ≡ t.areas →
    m.objects ≡ t.objects → Reports count t (record needs { reserved = max needs.reserved (reserved t) }) new

pub unit_reports : (code : Listing) (plan : Plan) (was : UnderWay) (first last : RunState) (refusal : Option Refusal)
    (done result : Step) (old noted looked again : AreaTable) → IsBetween code plan was →
    ReportsNeeds code.program plan was.state.unit old →
    AreSituated (code_of code.program) plan.readings (arrivals (code_of code.program) plan (state_of code was.state)).state →
    operated (code_of code.program) plan by_priority (state_of code was.state) ≡ Some done →
    IsAlike done.state (state_of code first) → followed (code_of code.program) done ≡ Some result →
    IsAlike result.state (state_of code last) →
    refusal ≡ refused_at (code_of code.program) plan.readings by_priority
    (arrivals (code_of code.program) plan (state_of code was.state)).state →
    Notes refusal old noted → Looks first.memory noted looked → Looks last.memory looked again →
    ReportsNeeds code.program plan (was.state.unit + 1) again
unit_reports code plan was first last refusal done result old noted looked again between reports situated op alike fol
    alike_end refused notes looks looks_again =
    let s : State = state_of code was.state in
    let n : ℕ = was.state.unit in
    let acted = operated_acts code plan by_priority s done op in
    let gone : GoesOn (arrivals (code_of code.program) plan s).state done.state =
    subst (λ (t : State). GoesOn (arrivals (code_of code.program) plan s).state t) acted.2
    ((acts_go (code_of code.program) plan.readings by_priority (arrivals (code_of code.program) plan s).state situated).is acted.0 acted.1) in
    let goes : GoesOn s done.state =
    goes_from s (arrivals (code_of code.program) plan s).state done.state (arrivals_same (code_of code.program) plan s) gone in
    let f : Follows code done result = follows code done result fol in
    let ends : StaysStill done.state result.state =
    still_following code done result f ((phase_still (code_of code.program) done.state).is f.phase f.is) in
    let there : Reports (class_count code.program) s (needs_after (code_of code.program) plan n) old =
    subst (λ (t : State). Reports (class_count code.program) t (needs_after (code_of code.program) plan n) old) between.state reports in
    let after_operation = looks (class_count code.program) s done.state (with_refusal refusal (needs_after (code_of code.program) plan n))
    (notes (class_count code.program) s (needs_after (code_of code.program) plan n) there) goes
    (sym (memory_areas code first) ∙ areas_alike done.state (state_of code first) alike)
    (sym (memory_objects code first) ∙ objects_alike done.state (state_of code first) alike) in
    let after_unit = looks_again (class_count code.program) done.state result.state _ after_operation (still ends)
    (sym (memory_areas code last) ∙ areas_alike result.state (state_of code last) alike_end)
    (sym (memory_objects code last) ∙ objects_alike result.state (state_of code last) alike_end) in
    let unit_is : one_unit (code_of code.program) plan by_priority (run_at code.program plan n).state ≡ Some result =
    ap (one_unit (code_of code.program) plan by_priority) between.state ∙ (unit_goes_on code plan by_priority was.state done op ∙ fol) in
    let next : n + 1 ≡ suc n = omega arith in
    let state_is : (run_at code.program plan (n + 1)).state ≡ result.state =
    ap (λ (m : ℕ). (run_at code.program plan m).state) next
    ∙ ap (λ (r : RunSoFar). r.state) (one_more (code_of code.program) plan by_priority n between.goes_on result unit_is) in
    subst (λ (t : State). Reports (class_count code.program) t (needs_after (code_of code.program) plan (n + 1)) again) (sym state_is)
    (subst (λ (needs : Needs). Reports (class_count code.program) result.state needs again)
    (sym (needs_are code plan n was.state refusal done result between.state between.goes_on refused op fol)) after_unit)
