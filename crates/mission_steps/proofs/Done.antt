-- Transitions that are done, and what follows the operation of a unit, by their cases.
use Rattle.std.specs.Prelude.{Bool, true, false, Option, Some, None, if◌then◌else◌, option_map, not, ◌&&◌, ◌||◌}
use Rattle.scj_rules.specs.Words.{◌>>=◌}
use Rattle.std.proofs.Common.{◌≡◌, ◌∙◌, ℕ, List, [], refl, ap, sym}
use Rattle.std.proofs.lemmas.List.{length-map}
use Rattle.scj_base.specs.declared.values.Value.{Value}
use Rattle.scj_model.specs.Code.{code_of}
use Rattle.op_list.specs.Listed.{Listing}
use Rattle.scj_model.specs.State.{Object, State, is_exec}
use Rattle.scj_model.specs.Memory.{closed}
use Rattle.scj_model.specs.Steps.{Step, silently}
use Rattle.scj_model.specs.Sequencer.{ClosesMission, EndsExecution, TakesMission, after_execution, after_operation, goes_to, has_started, innermost, phase_after, seq_applied, transition, transition_done, without_innermost}
use Rattle.scj_model.specs.declared.operations.SeqOp.TheVariants.{CleanUp}
use Rattle.scj_model.specs.declared.phases.Phase.TheVariants.{Cleanup}
use Rattle.scj_rules.specs.Classes.{is_empty}
use Rattle.region_heap.specs.Contents.{Contents, with_memory}
use Rattle.run_releases.specs.Rows.{StoredReleases, release_seen}
use Rattle.run_releases.specs.Releases.{mission_begun}
use Rattle.run_state.specs.declared.states.RunState.{RunState}
use Rattle.run_state.specs.Seen.{state_of}
use Rattle.mission_steps.specs.declared.transitions.Transition.{Transition as CodedTransition}
use Rattle.mission_steps.specs.Transitions.{transition_seen}

-- ---- missions that are taken and closed

pub mission_taken : (code : Listing) (st : RunState) (rs : StoredReleases) (mission : ℕ) →
    rs ≡ mission_begun st.releases →
    state_of code (record st { mission = Some mission; is_end_asked = false; releases = rs })
    ≡ (seq_applied (code_of code.program) (state_of code st) (TakesMission mission)).state
unfolding state_of seq_applied
mission_taken code st rs mission e =
    ap (λ (x : StoredReleases).
    state_of code (record st { mission = Some mission; is_end_asked = false; releases = x })) e
    ∙ ap (λ (n : ℕ). (let s : State = record (state_of code st) {
      mission = Some mission;
      is_end_asked = false;
      earlier_releases = n;
    } in s)) (sym (length-map st.releases.rows (release_seen code)))

pub mission_left : (code : Listing) (st : RunState) (m : Contents) (areas : List ℕ) →
    ((s : State) → closed (with_memory s st.memory) (innermost st.activity.areas) ≡ with_memory s m) →
    areas ≡ without_innermost st.activity.areas →
    (let s : State = record (state_of code (record st { memory = m; mission = None })) {
      activity = record (state_of code st).activity { areas = areas };
      registry = [];
    } in s)
    ≡ (seq_applied (code_of code.program) (state_of code st) ClosesMission).state
unfolding state_of seq_applied
mission_left code st m areas closes left =
    ap (λ (xs : List ℕ). (let s : State = record (state_of code (record st { memory = m; mission = None })) {
      activity = record (state_of code st).activity { areas = xs };
      registry = [];
    } in s)) left
    ∙ ap (λ (t : State). (let s : State = record t {
      activity = record (state_of code st).activity { areas = without_innermost st.activity.areas };
      registry = [];
      mission = None;
    } in s)) (sym (closes (state_of code st)))

-- ---- what follows

module _ (code : Listing) (s : State) where
  abbrev over_by : Bool → Bool → Option ℕ → Option Step
  over_by asked started mission =
      if asked && not started
      then option_map (transition_done (code_of code.program) s) (mission >>= (λ r. goes_to Cleanup (CleanUp r) EndsExecution))
      else Some (silently s)

  pub over_not_asked : s.is_end_asked ≡ false → after_execution (code_of code.program) s ≡ Some (silently s)
  over_not_asked e = ap (λ (b : Bool). over_by b (has_started s) s.mission) e

  still_started : (b : Bool) → over_by b true s.mission ≡ Some (silently s)
  still_started true = refl
  still_started false = refl

  pub over_still_started : has_started s ≡ true → after_execution (code_of code.program) s ≡ Some (silently s)
  over_still_started e =
      ap (λ (b : Bool). over_by s.is_end_asked b s.mission) e ∙ still_started s.is_end_asked

  over_asked : s.is_end_asked ≡ true → has_started s ≡ false →
      after_execution (code_of code.program) s ≡ over_by true false s.mission
  over_asked e f =
      ap (λ (b : Bool). over_by b (has_started s) s.mission) e ∙ ap (λ (b : Bool). over_by true b s.mission) f

  pub over_without_mission : s.is_end_asked ≡ true → has_started s ≡ false → s.mission ≡ None →
      after_execution (code_of code.program) s ≡ None
  over_without_mission e f g = over_asked e f ∙ ap (over_by true false) g

  pub over_now : (mission : ℕ) → s.is_end_asked ≡ true → has_started s ≡ false → s.mission ≡ Some mission →
      after_execution (code_of code.program) s
      ≡ Some (transition_done (code_of code.program) s
      (record { phase = Cleanup; operation = CleanUp mission; effect = EndsExecution }))
  over_now mission e f g = over_asked e f ∙ ap (over_by true false) g

  abbrev after_by : Bool → Option Value → Option Step
  after_by executes outcome =
      if executes then after_execution (code_of code.program) s
      else (elim outcome [ None ↦ Some (silently s) | Some value ↦ after_operation (code_of code.program) s value ])

  pub after_in_execution : is_exec s.phase ≡ true → phase_after (code_of code.program) s ≡ after_execution (code_of code.program) s
  unfolding phase_after
  after_in_execution e = ap (λ (b : Bool). after_by b s.outcome) e

  pub after_under_way : is_exec s.phase ≡ false → s.outcome ≡ None → phase_after (code_of code.program) s ≡ Some (silently s)
  unfolding phase_after
  after_under_way e f = ap (λ (b : Bool). after_by b s.outcome) e ∙ ap (after_by false) f

  pub after_done : (value : Value) → is_exec s.phase ≡ false → s.outcome ≡ Some value →
      phase_after (code_of code.program) s ≡ after_operation (code_of code.program) s value
  unfolding phase_after
  after_done value e f = ap (λ (b : Bool). after_by b s.outcome) e ∙ ap (after_by false) f

  pub follows : (value : Value) (skips : Bool) (found : Option CodedTransition) →
      skips ≡ (is_empty s.registry || s.is_end_asked) →
      option_map transition_seen found ≡ transition s.mission_sequencer skips s.operation value →
      after_operation (code_of code.program) s value ≡ option_map (transition_done (code_of code.program) s) (option_map transition_seen found)
  follows value skips found e f =
      ap (option_map (transition_done (code_of code.program) s))
      (ap (λ (b : Bool). transition s.mission_sequencer b s.operation value) (sym e) ∙ sym f)

-- ---- what is told of an object by its class

pub by_class : {A : Type 0} (found : Option Object) (without : A) (of_class : ℕ → A) (class : Option ℕ) →
    class ≡ option_map (λ (o : Object). o.class) found →
    (elim class as (λ _. A) [ None ↦ without | Some c ↦ of_class c ])
    ≡ (elim found as (λ _. A) [ None ↦ without | Some o ↦ of_class o.class ])
by_class {A} found without of_class class e =
    ap (λ (c : Option ℕ). elim c as (λ _. A) [ None ↦ without | Some n ↦ of_class n ]) e ∙ go found
  where
    go : (o : Option Object) →
        (elim (option_map (λ (x : Object). x.class) o) as (λ _. A) [ None ↦ without | Some n ↦ of_class n ])
        ≡ (elim o as (λ _. A) [ None ↦ without | Some x ↦ of_class x.class ])
    go None = refl
    go (Some x) = refl
