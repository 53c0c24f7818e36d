-- In each state that a run comes to, whichever release acts in each unit, the frames of each started release are a chain.
use Rattle.std.specs.Prelude.{Option, Some, None, codes, slice_get, if◌then◌else◌}
use Rattle.std.proofs.Common.{◌≡◌, ℕ, ◌==◌, List, [], ◌∷◌, ◌++◌, length, Bool, true, false, refl, sym, ◌∙◌, ap, subst, arith}
use Rattle.std.proofs.lemmas.Bool.Decides.{nat_tests}
use Rattle.scj_base.specs.declared.faults.RunFault.TheVariants.{StoreFull}
use Rattle.scj_rules.specs.Bodies.{body_named, class_position}
use Rattle.scj_rules.specs.Words.{◌>>=◌}
use Rattle.scj_rules.specs.declared.views.Body.{Body}
use Rattle.accepted_laws.proofs.Lists.{get_last}
use Rattle.accepted_laws.proofs.Tools.{some_inj}
use Rattle.accepted_laws.proofs.TypesBelow.{BehindChildren}
use Rattle.scj_model.specs.declared.handlers.HandlerRow.{HandlerRow}
use Rattle.scj_model.specs.declared.operations.Op.{Op}
use Rattle.scj_model.specs.declared.plans.ReadingRow.{ReadingRow}
use Rattle.scj_model.specs.Apply.{applied}
use Rattle.scj_model.specs.Choice.{by_list}
use Rattle.scj_model.specs.Code.{Code}
use Rattle.scj_model.specs.Effects.{Effect, Makes, SetsHidden, new_frame}
use Rattle.scj_model.specs.Memory.{has_store_for, with_area}
use Rattle.scj_model.specs.Plan.{Plan}
use Rattle.scj_model.specs.Reached.{Moment, Arrived, Reached}
use Rattle.scj_model.specs.Registry.{handler_row}
use Rattle.scj_model.specs.Run.{effect_at, no_activity, position_of_op, ref_op, started_with, turn_taken, with_turn}
use Rattle.scj_model.specs.Sequencer.{innermost}
use Rattle.scj_model.specs.State.{MemoryArea, Frame, Activity, Release, ReleaseStatus, Started, ReleaseAt, State, TurnOf, activity_in, activity_of, area_at, is_exec, with_activity}
use Rattle.scj_model.specs.Steps.{Step, fault_in, opening, silently}
use Rattle.scope_flow.specs.Facts.{Facts}
use Rattle.frame_sound.specs.EffectsFine.{Fine as EffectIsFine}
use Rattle.frame_sound.specs.Fine.{list_of}
use Rattle.frame_sound.specs.Places.{world_of}
use Rattle.frame_sound.proofs.Changes.{changed_at}
use Rattle.mission_sound.specs.Bases.{areas_of}
use Rattle.mission_sound.specs.Invariant.{Invariant}
use Rattle.mission_sound.proofs.Phases.{time_passes}
use Rattle.priority_laws.specs.Started.{StartedRelease, started_as, started_at, started_in}
use Rattle.priority_laws.proofs.ReleaseMoves.{LeavesOthers}
use Rattle.priority_laws.proofs.Still.{IsStill, still_turn}
use Rattle.scope_sound.specs.Sound.{HasFacts}
use Rattle.certain_faults.proofs.Jobs.{Jobs, jobs_still}
use Rattle.certain_faults.proofs.RunsOfNodes.{ClassesAskNothing}
use Rattle.certain_faults.proofs.Runs.{All, all_explained, invariant_of}
use Rattle.memory_needs.specs.Reach.{handler_body}
use Rattle.memory_bounds.proofs.Chains.{AreasStay, Chain, Lowest, chain_stays}
use Rattle.memory_bounds.proofs.ChainSteps.{After, faults_with, own_step, same_areas}
use Rattle.memory_bounds.proofs.LinkedEffects.{links}
use Rattle.memory_bounds.proofs.Reckoned.{exec_is_no_init, slots_there}
use Rattle.memory_bounds.proofs.ReleaseTurn.{SameHandler, turn_keeps}
use Rattle.memory_bounds.proofs.Resting.{start_spares}
use Rattle.memory_bounds.proofs.Spares.{PutsInto, effect_spares}
use Rattle.memory_bounds.proofs.Standing.{IsNext, fine, stand}
use Rattle.memory_bounds.proofs.StartedRuns.{all_states}
use Rattle.memory_bounds.proofs.Turns.{started_activity}

pub record AreChained (code : Code) (s : State) : Type 0 where
  pub is : (q : ℕ) (w : StartedRelease) (row : HandlerRow) → started_at s.releases q ≡ Some w →
      handler_row s.registry w.handler ≡ Some row → Chain code s row w.activity.frames

chained_still : (code : Code) (s t : State) → IsStill s t → AreChained code s → AreChained code t
chained_still code s t k b = record {
  is = λ q w row there row_is. chain_stays code s t (same_areas s t k.areas) row w.activity.frames
      (b.is q w row (sym (k.started q) ∙ there)
      (ap (λ (registry : List HandlerRow). handler_row registry w.handler) (sym k.registry) ∙ row_is));
}

-- ---- a step that leaves the other releases alone

module _ (code : Code) (s t : State) (b : AreChained code s) (index handler : ℕ) (leaves : LeavesOthers s t index)
    (same_handler : SameHandler t index handler) (stay : AreasStay s t)
    (own : (w : StartedRelease) (row : HandlerRow) → started_at t.releases index ≡ Some w →
    handler_row s.registry handler ≡ Some row → Chain code t row w.activity.frames) where
  row_before : (h : ℕ) (row : HandlerRow) → handler_row t.registry h ≡ Some row → handler_row s.registry h ≡ Some row
  row_before h row e = ap (λ (registry : List HandlerRow). handler_row registry h) (sym leaves.registry) ∙ e

  step_keeps : AreChained code t
  step_keeps = record { is = λ q w row e row_is. of q w row e row_is (index == q) refl }
    where
      of : (q : ℕ) (w : StartedRelease) (row : HandlerRow) → started_at t.releases q ≡ Some w →
          handler_row t.registry w.handler ≡ Some row → (c : Bool) → (index == q) ≡ c →
          Chain code t row w.activity.frames
      of q w row e row_is true p =
          let same : index ≡ q = grind (arith, nat_tests) in
          let here : started_at t.releases index ≡ Some w = ap (started_at t.releases) same ∙ e in
          own w row here
          (ap (handler_row s.registry) (sym (same_handler w here)) ∙ row_before w.handler row row_is)
      of q w row e row_is false p =
          let differ : index ≡ q → ⊥ = grind (arith, nat_tests) in
          chain_stays code s t stay row w.activity.frames
          (b.is q w row (sym (leaves.others q differ) ∙ e) (row_before w.handler row row_is))

-- ---- an operation

module _ (code : Code) (facts : Facts code) (behind : BehindChildren code.program) (rows : List ReadingRow) (s : State)
    (i : Invariant code s) (held : Jobs (All code) s) (exec : is_exec s.phase ≡ true) (b : AreChained code s)
    (index : ℕ) (r : Release) (there : slice_get s.releases index ≡ Some r) where
  module _ (a : Activity) (f : Frame) (below : List Frame) (op : Op) (rest : List Op)
      (next : IsNext s index r a f below op rest) where
    of_effect : (e : Effect) → effect_at code rows s f op rest ≡ e →
        EffectIsFine code (world_of s) (list_of (areas_of i.base) (f ∷ below))
        (stand code facts rows s i index r a f below op rest next).0.class
        (stand code facts rows s i index r a f below op rest next).0.sig (record f { rest = rest }) e
    of_effect e same =
        subst (EffectIsFine code (world_of s) (list_of (areas_of i.base) (f ∷ below))
        (stand code facts rows s i index r a f below op rest next).0.class
        (stand code facts rows s i index r a f below op rest next).0.sig (record f { rest = rest })) same
        (fine code facts rows s i index r a f below op rest next)

    puts : PutsInto s f.area (effect_at code rows s f op rest)
    puts = record {
      makes = λ h class values e. (of_effect (Makes h class values) e).is.goes.same.area;
      hidden = λ h slot values e o found.
          slots_there code s i.memories.memory.heap slot values (of_effect (SetsHidden h slot values) e).is.1 o found;
    }

    began : started_at s.releases index ≡ Some (started_as r.handler a)
    unfolding started_at started_in activity_in
    began =
        ap (λ (o : Option Release). o >>= started_in) there
        ∙ ap (λ (x : ReleaseStatus). started_in (record r { status = x })) next.status

    is_active : activity_of s (ReleaseAt index) ≡ Some a
    unfolding activity_of activity_in
    is_active = ap (λ (o : Option Release). o >>= (λ x. activity_in x.status)) there ∙ ap activity_in next.status

    pub operates : (step : Step) →
        applied code s (ReleaseAt index) a below (position_of_op code op) (effect_at code rows s f op rest) ≡ Some step →
        LeavesOthers s step.state index → SameHandler step.state index r.handler → AreChained code step.state
    operates step does leaves same_handler =
        step_keeps code s step.state b index r.handler leaves same_handler
        (effect_spares code (λ z. 0) s (ReleaseAt index) a (position_of_op code op) below f.area
        (effect_at code rows s f op rest) puts step does).areas
        (λ w row e row_is.
        (let chain : Chain code s row (f ∷ below) =
        subst (Chain code s row) next.frames (b.is index (started_as r.handler a) row began row_is) in
        (own_step code row index s a is_active (position_of_op code op) f below chain (exec_is_no_init s.phase exec)
        (effect_at code rows s f op rest) (links code facts behind rows s i held index r a f below op rest next).links step
        does).is w.activity (started_activity step.state index w e)))

  -- ---- START

  module _ (row : HandlerRow) (scope : ℕ) (body : Body)
      (is_body : body_named code.program row.class (codes "handleAsyncEvent") ≡ Some body) where
    first_chain : After code row index (started_with code s index row scope body)
    unfolding started_with opening activity_of activity_in with_activity new_frame handler_body
    first_chain = of (has_store_for s row.bytes)
      where
        x : MemoryArea
        x = record { scope = scope; parent = innermost s.activity.areas; bytes = row.bytes; is_open = true }

        t : State
        t = with_area s scope (innermost s.activity.areas) row.bytes

        first : Frame
        first = record (new_frame code body None (Some row.at) (length s.areas) []) { opened = Some (length s.areas) }

        a : Activity
        a = record { frames = first ∷ []; areas = length s.areas ∷ s.activity.areas; priority = row.priority }

        lowest : Lowest code (with_activity t (ReleaseAt index) a) row body (Some (length s.areas))
        lowest = record {
          is = is_body;
          takes = record {
            each = λ n q.
                (let same : length s.areas ≡ n = some_inj (length s.areas) n q in
                let at_n : area_at (with_activity t (ReleaseAt index) a) n ≡ Some x =
                ap (λ (k : ℕ). slice_get (s.areas ++ x ∷ []) k) (sym same) ∙ get_last s.areas x in
                (x, at_n, omega arith));
          };
        }

        of : (c : Bool) → After code row index
            (if c then silently (with_activity t (ReleaseAt index) a)
            else fault_in s (ReleaseAt index) no_activity (class_position code.program row.class) StoreFull)
        of true = record {
          is = λ left e.
              (let is : activity_of (with_activity t (ReleaseAt index) a) (ReleaseAt index) ≡ Some a =
              ap (λ (o : Option Release). o >>= (λ r. activity_in r.status))
              (changed_at (λ (r : Release). record r { status = Started a }) index s.releases r there) in
              let same : a ≡ left = some_inj a left (sym is ∙ e) in
              subst (λ (z : Activity). Chain code (with_activity t (ReleaseAt index) a) row z.frames) same (lowest, tt));
        }
        of false = faults_with code row index s no_activity (class_position code.program row.class) StoreFull

    pub starts : handler_row s.registry r.handler ≡ Some row →
        LeavesOthers s (started_with code s index row scope body).state index →
        SameHandler (started_with code s index row scope body).state index r.handler →
        AreChained code (started_with code s index row scope body).state
    starts is_row leaves same_handler =
        step_keeps code s (started_with code s index row scope body).state b index r.handler leaves same_handler
        (start_spares code s index row scope body 0).areas
        (λ w other e other_is.
        (let same : row ≡ other = some_inj row other (sym is_row ∙ other_is) in
        subst (λ (z : HandlerRow). Chain code (started_with code s index row scope body).state z w.activity.frames) same
        (first_chain.is w.activity (started_activity (started_with code s index row scope body).state index w e))))

  pub keeps : (step : Step) → ref_op code rows s (ReleaseAt index) ≡ Some step → AreChained code step.state
  keeps step e =
      turn_keeps code rows s (AreChained code) exec index r there
      (λ a f below op rest step next does leaves same. operates a f below op rest next step does leaves same)
      (λ row scope body waits is_row is leaves same. starts row scope body is is_row leaves same) step e

-- ---- all states

module _ (code : Code) (facts : HasFacts code) (bare : ClassesAskNothing code) (behind : BehindChildren code.program)
    (plan : Plan) (choices : List ℕ) where
  pub all_chained : (moment : Moment) (s : State) → Reached code plan (by_list choices) moment s → AreChained code s
  unfolding turn_taken
  all_chained moment s h =
      all_states code facts plan choices (AreChained code)
      (λ t none. record { is = λ q w row there row_is. absurd (none q w there) })
      (chained_still code)
      (λ s h b exec index r there step e.
      keeps code facts.bodies behind plan.readings (with_turn s (TurnOf index))
      (time_passes code s s.unit (Some (TurnOf index)) (invariant_of code facts bare plan choices Arrived s h))
      (jobs_still (All code) s (with_turn s (TurnOf index)) refl refl (all_explained code facts bare plan choices Arrived s h))
      exec (chained_still code s (with_turn s (TurnOf index)) (still_turn s (TurnOf index)) b) index r there step e)
      moment s h
