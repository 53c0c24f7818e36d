-- What is told of the rows of handlers in each state of a run, and that arrivals keep it.
use Rattle.std.specs.Prelude.{nat_lt, Option, Some, None, if◌then◌else◌, length, slice_get}
use Rattle.std.proofs.Common.{◌≡◌, ℕ, Bool, true, false, not, List, [], ◌∷◌, refl, sym, ◌∙◌, ap, subst}
use Rattle.scj_base.specs.declared.values.Value.{Value}
use Rattle.scj_base.specs.declared.values.Value.TheVariants.{At}
use Rattle.scj_model.specs.declared.operations.Op.{Op}
use Rattle.scj_model.specs.declared.operations.SeqOp.TheVariants.{OpenMission}
use Rattle.scj_model.specs.declared.handlers.HandlerRow.{HandlerRow}
use Rattle.scj_model.specs.Code.{Code}
use Rattle.scj_model.specs.declared.events.Event.{Event}
use Rattle.scj_model.specs.declared.events.Event.TheVariants.{Miss}
use Rattle.scj_model.specs.declared.plans.Fire.{Fire}
use Rattle.scj_model.specs.Plan.{Plan}
use Rattle.scj_model.specs.Arrivals.{arrivals, due_handlers, executes_since, fired, fired_at, fired_handler, fires_due}
use Rattle.scj_model.specs.Apply.{most_waiting, release_taken, waiting_of}
use Rattle.scj_model.specs.Choice.{by_list}
use Rattle.scj_model.specs.Registry.{handler_row}
use Rattle.scj_model.specs.State.{Object, Activity, State, is_init}
use Rattle.scj_model.specs.Steps.{Step, for_each, silently, reporting}
use Rattle.scj_model.specs.Reached.{Moment, Between, Arrived, Operated, Reached}
use Rattle.mission_sound.specs.Bases.{areas_of}
use Rattle.mission_sound.specs.Invariant.{Invariant}
use Rattle.scope_sound.proofs.OneBase.{one_base}
use Rattle.scope_sound.proofs.InAnyOrder.{reached_is_sound}
use Rattle.scope_sound.proofs.Operated.{operated}
use Rattle.scope_sound.specs.Sound.{HasFacts, SoundAt}
use Rattle.certain_faults.proofs.GivenAsBound.{GivesSo}
use Rattle.certain_faults.proofs.RunsOfNodes.{ClassesAskNothing}
use Rattle.memory_bounds.specs.Theorem.{RowsReport, Storage}
use Rattle.memory_bounds.proofs.Above.{AllLack}
use Rattle.memory_bounds.proofs.Forms.{FormFacts}
use Rattle.memory_bounds.proofs.InitSteps.{InInit, Making, Stands, Reported}
use Rattle.memory_bounds.proofs.Makers.{Made}
use Rattle.memory_bounds.proofs.Unnamed.{RowsLack}

-- ---- arrivals leave the static fields alone

each_static : {A : Type 0} (values : List Value) (step : State → A → Step) →
    ((s : State) (x : A) → s.statics ≡ values → (step s x).state.statics ≡ values) → (xs : List A) (s : State) →
    s.statics ≡ values → (for_each step xs s).state.statics ≡ values
unfolding for_each
each_static values step h [] s e = e
each_static values step h (x ∷ xs) s e = each_static values step h xs (step s x).state (h s x e)

taken_static : (values : List Value) (s : State) (handler : ℕ) → s.statics ≡ values →
    (release_taken s handler).state.statics ≡ values
unfolding release_taken
taken_static values s handler e = go (not (nat_lt (length (waiting_of s handler)) most_waiting)) _ _ e e
  where
    go : (b : Bool) (x y : Step) → x.state.statics ≡ values → y.state.statics ≡ values →
        (if b then x else y).state.statics ≡ values
    go true x y h k = h
    go false x y h k = k

fired_static : (code : Code) (values : List Value) (s : State) (fire : Fire) → s.statics ≡ values →
    (fired code s fire).state.statics ≡ values
unfolding fired
fired_static code values s fire e = of (fired_handler code s fire.handler) (Miss s.unit fire.handler ∷ [])
  where
    of : (o : Option ℕ) (events : List Event) → (elim o as (λ z. Step) [
      | Some handler ↦ release_taken s handler
      | None ↦ reporting s events
    ]).state.statics ≡ values
    of None events = e
    of (Some handler) events = taken_static values s handler e

at_static : (code : Code) (values : List Value) (fires : List Fire) (s : State) (index : ℕ) → s.statics ≡ values →
    (fired_at code fires s index).state.statics ≡ values
at_static code values fires s index e = of (slice_get fires index)
  where
    of : (o : Option Fire) →
        (elim o as (λ z. Step) [ None ↦ silently s | Some fire ↦ fired code s fire ]).state.statics ≡ values
    of None = e
    of (Some fire) = fired_static code values s fire e

pub arrivals_static : (code : Code) (plan : Plan) (s : State) → (arrivals code plan s).state.statics ≡ s.statics
unfolding arrivals
arrivals_static code plan s =
    each_static s.statics (fired_at code plan.fires) (λ t index e. at_static code s.statics plan.fires t index e)
    (fires_due (executes_since s) s.unit plan.fires) (for_each release_taken (due_handlers s) s).state
    (each_static s.statics release_taken (λ t handler e. taken_static s.statics t handler e) (due_handlers s) s refl)

-- ---- rows

pub same_rows : (storage : Storage) (s t : State) → t.registry ≡ s.registry → RowsReport storage s → RowsReport storage t
same_rows storage s t e h handler row bytes there reported =
    h handler row bytes (ap (λ (xs : List HandlerRow). handler_row xs handler) (sym e) ∙ there) reported

module _ (code : Code) (facts : HasFacts code) (bare : ClassesAskNothing code) (storage : Storage)
    (Inner : Op → Type 0) (OnWay : ℕ → Type 0) (forms : FormFacts code storage Inner OnWay) where
  -- ---- states with the same memory and frames

  module _ (s t : State) (statics : t.statics ≡ s.statics) (objects : t.objects ≡ s.objects)
      (outcome : (u : ℕ) → t.outcome ≡ Some (At u) → s.outcome ≡ Some (At u)) (registry : t.registry ≡ s.registry)
      (activity : t.activity ≡ s.activity) where
    still_stands : (u : ℕ) (x : Object) → Stands code facts bare storage Inner OnWay forms s u x →
        Stands code facts bare storage Inner OnWay forms t u x
    still_stands u x (Reported k) = Reported k
    still_stands u x (Making c) =
        Making (record {
          heap = record {
            statics = subst (AllLack u) (sym statics) c.heap.statics;
            objects = λ r y e. c.heap.objects r y (ap (λ (xs : List Object). slice_get xs r) (sym objects) ∙ e);
            object = ap (λ (xs : List Object). slice_get xs u) objects ∙ c.heap.object;
            outcome = λ e. c.heap.outcome (outcome u e);
            rows = subst (RowsLack u) (sym registry) c.heap.rows;
          };
          frames =
              subst (λ (a : Activity). Made code Inner OnWay (GivesSo code) u a.frames) (sym activity) c.frames;
        })

    pub still_in : (i : Invariant code s) → ((j : Invariant code t) → areas_of j.base ≡ areas_of i.base) →
        InInit code facts bare storage Inner OnWay forms s → InInit code facts bare storage Inner OnWay forms t
    still_in i same h = record {
      first = h.first;
      base = λ j. same j ∙ h.base i;
      objects = λ u x n there le reported.
          still_stands u x (h.objects u x n (ap (λ (xs : List Object). slice_get xs u) (sym objects) ∙ there) le reported);
    }

    pub same_base : (i : Invariant code s) (j : Invariant code t) → areas_of j.base ≡ areas_of i.base
    same_base i j = sym (one_base code s t i.base j.base activity i.memories j.memories)

  -- what is shown of the state after an operation
  pub record After (t : State) : Type 0 where
    pub init : is_init t.phase ≡ true → InInit code facts bare storage Inner OnWay forms t
    pub opened : (r : ℕ) (v : Value) → t.operation ≡ OpenMission r → t.outcome ≡ Some v →
        InInit code facts bare storage Inner OnWay forms t
    pub rows : RowsReport storage t

  -- ---- a run

  module _ (plan : Plan) (choices : List ℕ) where
    -- after the memory of a mission was opened
    abbrev pub Opened : Moment → State → Type 0
    Opened Operated s =
        (r : ℕ) (v : Value) → s.operation ≡ OpenMission r → s.outcome ≡ Some v →
        InInit code facts bare storage Inner OnWay forms s
    Opened Between s = Unit {0}
    Opened Arrived s = Unit {0}

    pub record ReportsAt (moment : Moment) (s : State) : Type 0 where
      pub reached : Reached code plan (by_list choices) moment s
      pub init : is_init s.phase ≡ true → InInit code facts bare storage Inner OnWay forms s
      pub opened : Opened moment s
      pub rows : RowsReport storage s

    pub sound : (moment : Moment) (s : State) → Reached code plan (by_list choices) moment s → SoundAt code moment s
    sound moment s h =
        reached_is_sound code facts (operated code facts.bodies facts.sequencer) plan choices moment s h
