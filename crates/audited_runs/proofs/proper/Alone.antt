-- The events of a run of an accepted program have proper parts.
use Rattle.std.proofs.Common.{◌≡◌, ℕ, zero, suc, ◌≤◌, ◌<◌, Bool, true, false, All, List, [], ◌∷◌, ◌++◌, length, Option, Some, None, if◌then◌else◌, refl, sym, ap, ◌∙◌, subst, arith}
use Rattle.std.specs.Prelude.{is_some, option_map, slice_get, unwrap_or}
use Rattle.std.specs.List.{list_all}
use Rattle.std.proofs.lemmas.Bool.{or_parts}
use Rattle.std.proofs.lemmas.List.Elements.{All-append}
use Rattle.scj_base.specs.declared.positions.Position.{Position}
use Rattle.scj_base.specs.declared.values.Value.{Value}
use Rattle.scj_base.specs.Lexeme.{is_name, is_text_byte}
use Rattle.scj_rules.specs.Bodies.{class_position, safelet_class}
use Rattle.scj_rules.specs.Words.{◌>>=◌}
use Rattle.scj_tree.specs.declared.nodes.Node.{Node}
use Rattle.scj_model.specs.declared.events.Event.TheVariants as event
use Rattle.scj_model.specs.declared.handlers.HandlerRow.{HandlerRow}
use Rattle.scj_model.specs.declared.operations.Op.{Op}
use Rattle.scj_model.specs.declared.operations.SeqOp.TheVariants.{GetSequencer, OpenMission}
use Rattle.scj_model.specs.Code.{Code}
use Rattle.scj_model.specs.Plan.{Plan}
use Rattle.scj_model.specs.TraceText.{label}
use Rattle.scj_model.specs.State.{Object, Frame, Activity, Release, Job, ReleaseAt, State, activity_in, activity_of, object_at, is_over}
use Rattle.scj_model.specs.Steps.{Step}
use Rattle.scj_model.specs.Effects.{Effect, Goes, Prints, Makes, Stores, StoresStatic, SetsHidden, SetsCeiling, Calls, Opens, Leaves, AsksRegistration, AsksRelease, AsksTermination, Faults, Stuck}
use Rattle.scj_model.specs.Apply.{class_name, class_name_at}
use Rattle.scj_model.specs.Arrivals.{arrivals}
use Rattle.scj_model.specs.Choice.{by_priority}
use Rattle.scj_model.specs.Reached.{Between, Arrived, Operated, Moment, Reached, at_first, on_arrival, on_operation, on_phase}
use Rattle.scj_model.specs.Registry.{handler_row, new_row}
use Rattle.scj_model.specs.Run.{acts, continued, effect_at, empty_state, environment, has_ended, one_more_unit, one_unit, position_of_op, run, RunSoFar, trace}
use Rattle.scj_model.specs.Safety.{job_may_act}
use Rattle.scj_model.specs.Sequencer.{phase_after, position_of_object}
use Rattle.scj_model.proofs.Reaching.{reached_keeps, reached_run}
use Rattle.priority_laws.specs.Handlers.{IsPriority, PrioritiesAreRight, IsHandlerClass, ActiveAreAtMostHighest}
use Rattle.priority_laws.specs.InOrder.{IsInOrder}
use Rattle.priority_laws.specs.Premises.{Does, SparesPriorities}
use Rattle.priority_laws.specs.Rising.{Rises, priority_under}
use Rattle.priority_laws.specs.Started.{StartedRelease, own_priority, started_as, started_at, started_in}
use Rattle.priority_laws.proofs.ChosenTurns.{own_below}
use Rattle.priority_laws.proofs.Executions.{row_right}
use Rattle.priority_laws.proofs.OperationShapes.{formed_at, scene_of}
use Rattle.priority_laws.proofs.ReachedOrder.{ordered}
use Rattle.priority_laws.proofs.ReleaseMoves.{StandsAs}
use Rattle.priority_laws.proofs.RightObjects.{right_row}
use Rattle.priority_laws.proofs.RightRuns.{bounded_priorities, right_priorities}
use Rattle.priority_laws.proofs.Shapes.{Formed}
use Rattle.priority_laws.proofs.Still.{still_arrivals}
use Rattle.audited_runs.proofs.OneUnit.{UnitParts, unit_parts}
use Rattle.audited_runs.proofs.proper.Backing.{Backs, RegistersWell}
use Rattle.audited_runs.proofs.proper.Phases.{arrivals_good, phase_good}
use Rattle.audited_runs.proofs.proper.Steps.{Good, GoodIf, IsProper, none_proper, one_proper}
use Rattle.audited_runs.proofs.proper.Turns.{Backed, acts_good}

last_there : (rows : List HandlerRow) (row : HandlerRow) → slice_get (rows ++ row ∷ []) (length rows) ≡ Some row
last_there [] row = refl
last_there (r ∷ rows) row = last_there rows row

-- ---- the operation of a job in a state with right priorities

module _ (code : Code) (plan : Plan) (spares : SparesPriorities code)
    (names : (class : ℕ) → class < length code.program.classes → is_name (class_name code class) ≡ true)
    (s : State) (reached : Reached code plan by_priority Arrived s) where
  right : PrioritiesAreRight code s
  right = right_priorities code plan spares reached

  order : IsInOrder s
  order = (ordered code plan reached).order

  bounded : ActiveAreAtMostHighest s
  bounded = bounded_priorities code plan spares reached

  registers : (job : Job) (op : Op) (f : Frame) (r : ℕ) → Does code plan.readings s job op (AsksRegistration f r) →
      (o : Object) → slice_get s.objects r ≡ Some o → RegistersWell code r o
  registers job op f r does o there =
      let c : IsHandlerClass code.program o.class =
      spares.registrations plan s job op f r o reached does there in
      record {
        named = names o.class c.is_class;
        priority = (right_row code s right (record s { registry = s.registry ++ new_row code.program r o ∷ [] }) refl r o
            there c refl).rows.is (length s.registry) (new_row code.program r o)
            (last_there s.registry (new_row code.program r o));
      }

  -- ---- the priority that comes back

  record IsStarted (p : ℕ) (a : Activity) : Type 0 where
    handler : ℕ
    there : started_at s.releases p ≡ Some (started_as handler a)

  started : (p : ℕ) (a : Activity) → activity_of s (ReleaseAt p) ≡ Some a → IsStarted p a
  unfolding activity_of started_at started_in
  started p a e = by (slice_get s.releases p) refl e
    where
      in_it : (x : Release) → slice_get s.releases p ≡ Some x → activity_in x.status ≡ Some a → IsStarted p a
      in_it x f g =
          record {
            handler = x.handler;
            there = ap (λ (o : Option Release). o >>= started_in) f ∙ ap (λ (o : Option Activity). option_map (started_as x.handler) o) g;
          }

      by : (o : Option Release) → slice_get s.releases p ≡ o → (o >>= (λ r. activity_in r.status)) ≡ Some a →
          IsStarted p a
      by None f g = absurd (cc (g))
      by (Some x) f g = in_it x f g

  own_right : (w : StartedRelease) (p : ℕ) → started_at s.releases p ≡ Some w → IsPriority (own_priority s w)
  own_right w p there = go (handler_row s.registry w.handler) refl (order.rows.is p w there)
    where
      go : (o : Option HandlerRow) → handler_row s.registry w.handler ≡ o → is_some o ≡ true →
          IsPriority (elim o as (λ _. ℕ) [ None ↦ 0 | Some row ↦ row.priority ])
      go None e i = absurd (cc (i))
      go (Some row) e i = row_right right.rows w.handler row e

  comes_back : (p : ℕ) (a : Activity) (f : Frame) (below : List Frame) → activity_of s (ReleaseAt p) ≡ Some a →
      a.frames ≡ f ∷ below → IsPriority (priority_under f a.priority)
  comes_back p a f below is frames =
      let k : IsStarted p a = started p a is in
      let w : StartedRelease = started_as k.handler a in
      let own : IsPriority (own_priority s w) = own_right w p k.there in
      let rise : Rises (own_priority s w) a.priority (f ∷ below) =
      subst (λ fs. Rises (own_priority s w) a.priority fs) frames (order.rise.is p w k.there) in
      let low = own_below (own_priority s w) (priority_under f a.priority) below rise.1 in
      let most = bounded.is p w k.there in
      let up = rise.0 in
      let least = own.0 in
      (omega (arith, least, low), omega (arith, up, most))

  -- ---- all operations

  module _ (F : Position → Type 0)
      (places : (job : Job) (a : Activity) (f : Frame) (below : List Frame) (op : Op) (rest : List Op) →
      activity_of s job ≡ Some a → a.frames ≡ f ∷ below → f.rest ≡ op ∷ rest →
      ((h : Frame) (value : Option Value) → effect_at code plan.readings s f op rest ≡ Leaves h value → ⊥) →
      F (position_of_op code op)) where
    backs : (job : Job) (a : Activity) (f : Frame) (below : List Frame) (op : Op) (rest : List Op) →
        job_may_act s job ≡ true → activity_of s job ≡ Some a → a.frames ≡ f ∷ below → f.rest ≡ op ∷ rest →
        Backs F code s.objects job a (position_of_op code op) (effect_at code plan.readings s f op rest)
    backs job a f below op rest may is frames ops =
        go (effect_at code plan.readings s f op rest) refl (formed_at code (environment plan.readings s) f rest op)
      where
        here : (e : Effect) → effect_at code plan.readings s f op rest ≡ e →
            ((h : Frame) (value : Option Value) → e ≡ Leaves h value → ⊥) → F (position_of_op code op)
        here e same other =
            places job a f below op rest is frames ops (λ h value k. other h value (sym same ∙ k))

        does : (e : Effect) → effect_at code plan.readings s f op rest ≡ e → Does code plan.readings s job op e
        does e same =
            record {
              may = may;
              activity = a;
              is_activity = is;
              frame = f;
              below = below;
              frames = frames;
              rest = rest;
              ops = ops;
              is_effect = same;
            }

        leaves : (h : Frame) → StandsAs (record f { rest = rest }) h → (p : ℕ) → job ≡ ReleaseAt p →
            IsPriority (unwrap_or h.saved a.priority)
        leaves h stands p same =
            subst (λ o. IsPriority (unwrap_or o a.priority)) (sym stands.saved)
            (comes_back p a f below (ap (activity_of s) (sym same) ∙ is) frames)

        go : (e : Effect) → effect_at code plan.readings s f op rest ≡ e →
            Formed (scene_of code (environment plan.readings s) f rest op) e →
            Backs F code s.objects job a (position_of_op code op) e
        go (Goes h) same formed = tt
        go (Prints h text value) same formed = tt
        go (Makes h class slots) same formed = here (Makes h class slots) same (λ g v k. cc (k))
        go (Stores h r slot value) same formed = here (Stores h r slot value) same (λ g v k. cc (k))
        go (StoresStatic h n value) same formed = here (StoresStatic h n value) same (λ g v k. cc (k))
        go (SetsHidden h r values) same formed = here (SetsHidden h r values) same (λ g v k. cc (k))
        go (SetsCeiling h r ceiling) same formed = here (SetsCeiling h r ceiling) same (λ g v k. cc (k))
        go (Calls h g) same formed = here (Calls h g) same (λ x v k. cc (k))
        go (Opens h g scope bytes) same formed = here (Opens h g scope bytes) same (λ x v k. cc (k))
        go (Leaves h value) same formed = leaves h formed.is
        go (AsksRegistration h r) same formed = (
          here (AsksRegistration h r) same (λ g v k. cc (k)),
          registers job op h r (does (AsksRegistration h r) same),
        )
        go (AsksRelease h r) same formed = here (AsksRelease h r) same (λ g v k. cc (k))
        go (AsksTermination h r) same formed = here (AsksTermination h r) same (λ g v k. cc (k))
        go (Faults fault) same formed = here (Faults fault) same (λ g v k. cc (k))
        go Stuck same formed = here Stuck same (λ g v k. cc (k))

-- ---- all units

-- what is known of the places of faults, and of the names of missions
pub record Placed (F : Position → Type 0) (code : Code) (plan : Plan) : Type 0 where
  pub operations : (s : State) → Reached code plan by_priority Arrived s → (job : Job) (a : Activity) (f : Frame)
      (below : List Frame) (op : Op) (rest : List Op) →
      activity_of s job ≡ Some a → a.frames ≡ f ∷ below → f.rest ≡ op ∷ rest →
      ((h : Frame) (value : Option Value) → effect_at code plan.readings s f op rest ≡ Leaves h value → ⊥) →
      F (position_of_op code op)
  pub starts : (s : State) → Reached code plan by_priority Arrived s → (handler : ℕ) (row : HandlerRow) →
      handler_row s.registry handler ≡ Some row → F (class_position code.program row.class)
  pub safelet : (class : ℕ) → safelet_class code.program ≡ Some class → F (class_position code.program class)
  pub mission : (s : State) → Reached code plan by_priority Arrived s → (r : ℕ) (o : Object) →
      s.operation ≡ OpenMission r → object_at s r ≡ Some o → F (class_position code.program o.class)
  pub asks : (s : State) → Reached code plan by_priority Operated s → (r : ℕ) → s.operation ≡ GetSequencer r →
      F (position_of_object code s r)
  pub opens : (s : State) → Reached code plan by_priority Operated s → (r : ℕ) → s.operation ≡ OpenMission r →
      is_name (class_name_at code s r) ≡ true

module _ (nodes : List Node) (F : Position → Type 0) (code : Code) (plan : Plan) (spares : SparesPriorities code)
    (names : (class : ℕ) → class < length code.program.classes → is_name (class_name code class) ≡ true)
    (labels : (id : ℕ) → list_all is_text_byte (label nodes id) ≡ true) (placed : Placed F code plan) where
  backed : (s : State) → Reached code plan by_priority Arrived s → Backed F code plan.readings s
  backed s reached =
      record {
        ceilings = (right_priorities code plan spares reached).ceilings;
        effects = backs code plan spares names s reached F (placed.operations s reached);
        starts = placed.starts s reached;
        safelet = placed.safelet;
        mission = placed.mission s reached;
      }

  record IsFew (moment : Moment) (s : State) : Type 0 where
    reached : Reached code plan by_priority moment s
    few : length s.registry ≤ 64

  not_over : (s : State) → Reached code plan by_priority Arrived s → is_over s.phase ≡ false
  not_over s (on_arrival t h e) = ap is_over (still_arrivals code plan t).phase ∙ e

  op_good : (s : State) → Reached code plan by_priority Arrived s → length s.registry ≤ 64 →
      GoodIf (Good nodes F) (acts code plan.readings by_priority s)
  op_good s reached few =
      acts_good nodes F code plan.readings labels s few (backed s reached) (not_over s reached)

  last_good : (s : State) → Reached code plan by_priority Operated s → length s.registry ≤ 64 →
      GoodIf (Good nodes F) (phase_after code s)
  last_good s reached few = phase_good nodes F code s few (placed.asks s reached) (placed.opens s reached)

  pub few_rows : {moment : Moment} {s : State} → Reached code plan by_priority moment s → length s.registry ≤ 64
  unfolding empty_state
  few_rows h =
      (reached_keeps code plan by_priority IsFew (record { reached = at_first; few = omega arith })
      (λ s g e. record {
        reached = on_arrival s g.reached e;
        few = (arrivals_good nodes F code plan s g.few).few;
      })
      (λ s step g e. record {
        reached = on_operation s step g.reached e;
        few = ((op_good s g.reached g.few).is step e).few;
      })
      (λ s step g e. record {
        reached = on_phase s step g.reached e;
        few = ((last_good s g.reached g.few).is step e).few;
      }) h).few

  unit_proper : (s : State) (u : Step) → Reached code plan by_priority Between s → is_over s.phase ≡ false →
      one_unit code plan by_priority s ≡ Some u → All (IsProper nodes F) u.events
  unit_proper s u reached lives e =
      let parts : UnitParts code plan s u = unit_parts code plan s u e in
      let a : State = (arrivals code plan s).state in
      let at : Reached code plan by_priority Arrived a = on_arrival s reached lives in
      let after : Reached code plan by_priority Operated parts.op.state = on_operation a parts.op at parts.is_op in
      subst (λ (x : Step). All (IsProper nodes F) x.events) (sym parts.is)
      (All-append (IsProper nodes F) ((arrivals code plan s).events ++ parts.op.events) parts.last.events
      (All-append (IsProper nodes F) (arrivals code plan s).events parts.op.events
      (arrivals_good nodes F code plan s (few_rows reached)).events
      ((op_good a at (few_rows at)).is parts.op parts.is_op).events)
      ((last_good parts.op.state after (few_rows after)).is parts.last parts.is_last).events)

  run_proper : (n : ℕ) → All (IsProper nodes F) (run code plan by_priority n).events
  unfolding run one_more_unit continued
  run_proper zero = none_proper nodes F
  run_proper (suc n) = by (has_ended so_far) refl (run_proper n)
    where
      so_far : RunSoFar
      so_far = run code plan by_priority n

      more : (o : Option Step) → one_unit code plan by_priority so_far.state ≡ o → has_ended so_far ≡ false →
          All (IsProper nodes F) so_far.events → All (IsProper nodes F) (continued so_far o).events
      more None e lives before = before
      more (Some u) e lives before =
          All-append (IsProper nodes F) so_far.events u.events before
          (unit_proper so_far.state u (reached_run code plan by_priority n)
          (or_parts (is_over so_far.state.phase) so_far.is_stuck lives).0 e)

      by : (b : Bool) → has_ended so_far ≡ b → All (IsProper nodes F) so_far.events →
          All (IsProper nodes F)
          (if b then so_far else continued so_far (one_unit code plan by_priority so_far.state)).events
      by true e before = before
      by false e before = more (one_unit code plan by_priority so_far.state) refl e before

  pub trace_proper : (n : ℕ) → All (IsProper nodes F) (trace code plan n)
  unfolding trace
  trace_proper n = by (has_ended (run code plan by_priority n))
    where
      by : (b : Bool) →
          All (IsProper nodes F) ((run code plan by_priority n).events ++ (if b then [] else event.Stopped n ∷ []))
      by true = All-append (IsProper nodes F) (run code plan by_priority n).events [] (run_proper n) (none_proper nodes F)
      by false =
          All-append (IsProper nodes F) (run code plan by_priority n).events (event.Stopped n ∷ []) (run_proper n)
          (one_proper nodes F (event.Stopped n) tt)
