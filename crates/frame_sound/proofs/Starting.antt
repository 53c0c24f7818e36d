-- START has a result, and the job that it starts stands.
use Rattle.std.specs.Prelude.{Option, Some, None, slice_get, ◌||◌, ◌==◌, ◌++◌, codes, if◌then◌else◌}
use Rattle.std.proofs.Common.{◌≡◌, ℕ, ◌<◌, List, [], ◌∷◌, length, Bool, true, false, refl, sym, ◌∙◌, ap, subst, arith, inl, inr}
use Rattle.std.proofs.lemmas.Bool.Decides.{nat_tests}
use Rattle.scj_base.specs.declared.faults.RunFault.TheVariants.{StoreFull}
use Rattle.scj_base.specs.declared.positions.Position.{Position}
use Rattle.scj_rules.specs.declared.views.Body.{Body}
use Rattle.scj_rules.specs.Bodies.{body_named, class_position}
use Rattle.scj_rules.specs.ScopeRules.{defined_by_chain}
use Rattle.scj_rules.specs.Words.{is_among, ◌>>=◌}
use Rattle.scj_rules.specs.Classes.{is_sub}
use Rattle.accepted_laws.proofs.Lists.{get_left}
use Rattle.accepted_laws.proofs.Tools.{some_inj}
use Rattle.scj_model.specs.declared.handlers.HandlerRow.{HandlerRow}
use Rattle.scj_model.specs.Code.{Code}
use Rattle.scj_model.specs.State.{MemoryArea, Frame, Activity, Release, ReleaseAt, Started, State, activity_of, activity_in, with_activity}
use Rattle.scj_model.specs.Registry.{handler_row}
use Rattle.scj_model.specs.Memory.{has_store_for, with_area}
use Rattle.scj_model.specs.Steps.{Step, fault_in, opening, silently}
use Rattle.scj_model.specs.Effects.{new_frame}
use Rattle.scj_model.specs.Sequencer.{innermost}
use Rattle.scj_model.specs.Run.{no_activity, start_op, started_with}
use Rattle.scope_flow.specs.Facts.{Facts}
use Rattle.scope_flow.specs.Signatures.{IsConcrete}
use Rattle.scope_flow.specs.Slots.{IsOfType}
use Rattle.frame_sound.specs.Places.{World}
use Rattle.frame_sound.specs.Fine.{HeapFine, MemoryFine, Ready, Stands, held_option}
use Rattle.frame_sound.specs.Others.{KeepsOthers}
use Rattle.frame_sound.specs.Starts.{HandlerFine, HasStarted, Starts}
use Rattle.frame_sound.proofs.Changes.{changed_at, look}
use Rattle.frame_sound.proofs.KeptAreas.{class_and_above}
use Rattle.frame_sound.proofs.NewAreas.{body_begins_in, list_fine, new_on, runs_in_new, still_on}
use Rattle.frame_sound.proofs.OpenAreas.{areas_open}
use Rattle.frame_sound.proofs.Opens.{heap_more, statics_more}
use Rattle.frame_sound.proofs.Others.{keeps_then, memory_keeps, object_is}
use Rattle.frame_sound.proofs.OthersOfChanges.{activity_keeps}
use Rattle.frame_sound.proofs.OthersOfEffects.{fault_keeps}
use Rattle.frame_sound.proofs.OwnEnds.{fault_keeps_registry, faulted}
use Rattle.frame_sound.proofs.OwnJobs.{areas_stay, memory_stays, registry_stays}

innermost_on : (list : List ℕ) (a : ℕ) → innermost list ≡ Some a → is_among a list ≡ true
unfolding innermost
innermost_on [] a e = absurd (cc (e))
innermost_on (x ∷ xs) a e =
    let same : x ≡ a = some_inj x a e in
    let t : (a == x) ≡ true = grind (arith, nat_tests) in ap (λ b. b || is_among a xs) t

class_of_concrete : (code : Code) → Facts code → (class : ℕ) → IsConcrete code.program class →
    class < length code.program.classes
unfolding IsOfType
class_of_concrete code facts class concrete = let x = facts.concrete class concrete in x.0

-- a waiting release becomes a started one
begins_activity : (s : State) (index : ℕ) (r : Release) → slice_get s.releases index ≡ Some r → (a : Activity) →
    activity_of (with_activity s (ReleaseAt index) a) (ReleaseAt index) ≡ Some a
unfolding activity_of with_activity activity_in
begins_activity s index r there a =
    ap (λ (o : Option Release). o >>= (λ r. activity_in r.status))
    (changed_at (λ (r : Release). record r { status = Started a }) index s.releases r there)

module _ (code : Code) (facts : Facts code) (s : State) (index : ℕ) (r : Release)
    (there : slice_get s.releases index ≡ Some r) (row : HandlerRow) (memory : MemoryFine code s)
    (h : HandlerFine code s row) where
  abbrev low : List ℕ
  low = s.activity.areas

  abbrev inner : ℕ
  inner = h.may_open.inner

  abbrev new : MemoryArea
  new = record { scope = h.scope; parent = Some inner; bytes = row.bytes; is_open = true }

  abbrev more : World
  more = look (λ b. slice_get (s.areas ++ new ∷ []) b) s.objects

  abbrev frame : Frame
  frame =
      record (new_frame code h.handled.body None (Some row.at) (length s.areas) []) { opened = Some (length s.areas) }

  abbrev activity : Activity
  activity = record { frames = frame ∷ []; areas = length s.areas ∷ low; priority = row.priority }

  inner_on : is_among inner low ≡ true
  inner_on = innermost_on low inner h.may_open.is_inner

  heap : HeapFine code.program more
  heap = heap_more s.areas new (λ r. slice_get s.objects r) code.program memory.heap

  ready : Ready code more (length s.areas ∷ low) h.handled.on h.handled.sig frame None
  unfolding new_frame
  ready =
      body_begins_in code facts more (length s.areas ∷ low)
      (list_fine s.areas s.objects low h.scope inner row.bytes h.may_open.fine inner_on h.may_open.unnamed) heap
      (length s.areas)
      (new_on s.areas s.objects low h.scope inner row.bytes h.may_open.fine inner_on h.may_open.unnamed)
      row.at h.on_list.object h.on_list.found
      (still_on s.areas s.objects low h.scope inner row.bytes h.may_open.fine inner_on h.may_open.unnamed
      h.on_list.object.area h.on_list.on_list) h.handled.on
      (class_and_above code h.on_list.object.class h.handled.on
      (subst (λ c. c < length code.program.classes) (sym h.is_class)
      (class_of_concrete code facts row.class h.concrete))
      (ap (λ c. is_sub code.program.classes c h.handled.on) h.is_class ∙ h.handled.above)) h.handled.body h.handled.sig
      h.handled.runs None
      (runs_in_new s.areas s.objects low h.scope inner row.bytes h.may_open.fine inner_on h.may_open.unnamed
      (Some row.at)
      h.handled.sig.runs_in h.handled.runs_in) h.handled.takes (length s.areas)

  stands : Stands code (s.areas ++ new ∷ []) s.objects s.statics low (frame ∷ [])
  unfolding held_option
  stands =
      record {
        areas_fine = areas_open code.program s.areas memory.areas h.scope inner h.may_open.area.scope row.bytes
            h.may_open.area h.may_open.is_area refl h.may_open.is_parent;
        heap = heap;
        statics_fine = statics_more s.areas new (λ r. slice_get s.objects r) code.program s.statics memory.statics;
        frames_fine = (
          record { class = h.handled.on; sig = h.handled.sig; kind = None; fits = tt; ready = ready },
          list_fine s.areas s.objects low h.scope inner row.bytes h.may_open.fine inner_on h.may_open.unnamed,
          tt,
          tt,
        );
      }

  abbrev opened : State
  opened = with_area s h.scope (Some inner) row.bytes

  started : HasStarted code s index row h.scope inner (with_activity opened (ReleaseAt index) activity)
  started =
      record {
        stands = record {
          activity = activity;
          is = begins_activity opened index r there activity;
          is_list = refl;
          stands = memory_stays code opened (ReleaseAt index) activity low (frame ∷ []) stands;
        };
        frame = frame;
        are = refl;
        opened = refl;
        priority = refl;
        areas = areas_stay opened (ReleaseAt index) activity;
      }

  abbrev at : Position
  at = class_position code.program row.class

  starts_with : Starts code s index row h (Some (started_with code s index row h.scope h.handled.body))
  unfolding started_with opening
  starts_with =
      subst (λ o. Starts code s index row h (Some (with_inner o))) (sym h.may_open.is_inner)
      (go (has_store_for s row.bytes))
    where
      with_inner : Option ℕ → Step
      with_inner o =
          if has_store_for s row.bytes
          then silently (with_activity (with_area s h.scope o row.bytes) (ReleaseAt index) activity)
          else fault_in s (ReleaseAt index) no_activity at StoreFull

      go : (t : Bool) → Starts code s index row h
          (Some (if t then silently (with_activity opened (ReleaseAt index) activity)
          else fault_in s (ReleaseAt index) no_activity at StoreFull))
      go true =
          record {
            step = _;
            is = refl;
            either = inl started;
            registry = registry_stays opened (ReleaseAt index) activity;
          }
      go false =
          record {
            step = _;
            is = refl;
            either = inr (faulted code s (ReleaseAt index) no_activity (r, there) memory at StoreFull);
            registry = fault_keeps_registry s (ReleaseAt index) no_activity at StoreFull;
          }

  -- the operation itself
  start_is : handler_row s.registry r.handler ≡ Some row →
      start_op code s index r ≡ Some (started_with code s index row h.scope h.handled.body)
  unfolding start_op
  start_is e =
      ap (λ (o : Option HandlerRow). o >>= (λ row. defined_by_chain code.program row.class >>= (λ scope.
      body_named code.program row.class (codes "handleAsyncEvent") >>= (λ body.
      Some (started_with code s index row scope body))))) e
      ∙ (ap (λ o. o >>= (λ scope. body_named code.program row.class (codes "handleAsyncEvent") >>= (λ body.
      Some (started_with code s index row scope body)))) h.handled.defines
      ∙ ap (λ o. o >>= (λ body. Some (started_with code s index row h.scope body))) h.handled.is)

  pub starts : handler_row s.registry r.handler ≡ Some row → Starts code s index row h (start_op code s index r)
  starts e = subst (Starts code s index row h) (sym (start_is e)) starts_with

-- ---- the others

pub start_keeps : (code : Code) (s : State) (index : ℕ) (r : Release) (step : Step) →
    start_op code s index r ≡ Some step →
    KeepsOthers s (ReleaseAt index) [] step.state
unfolding start_op started_with opening
start_keeps code s index r step e = by_row (handler_row s.registry r.handler) e
  where
    by_room : (row : HandlerRow) (scope : ℕ) (a : Activity) (t : Bool) →
        KeepsOthers s (ReleaseAt index) [] (if t
        then silently (with_activity (with_area s scope (innermost s.activity.areas) row.bytes) (ReleaseAt index) a)
        else fault_in s (ReleaseAt index) no_activity (class_position code.program row.class) StoreFull).state
    by_room row scope a true =
        keeps_then s (ReleaseAt index) [] (with_area s scope (innermost s.activity.areas) row.bytes) _ (λ p e. e)
        (memory_keeps s (ReleaseAt index) [] _ s.objects s.statics
        (λ b x there. inl (get_left s.areas _ b x there)) (object_is s))
        (activity_keeps _ (ReleaseAt index) [] a)
    by_room row scope a false =
        fault_keeps s (ReleaseAt index) no_activity (class_position code.program row.class) StoreFull

    by_body : (row : HandlerRow) (scope : ℕ) (o : Option Body) →
        o >>= (λ body. Some (started_with code s index row scope body)) ≡ Some step →
        KeepsOthers s (ReleaseAt index) [] step.state
    by_body row scope None e = absurd (cc (e))
    by_body row scope (Some body) e =
        subst (λ (q : Step). KeepsOthers s (ReleaseAt index) [] q.state) (some_inj _ step e)
        (by_room row scope _ (has_store_for s row.bytes))

    by_scope : (row : HandlerRow) (o : Option ℕ) → o >>= (λ scope.
        body_named code.program row.class (codes "handleAsyncEvent") >>= (λ body.
        Some (started_with code s index row scope body))) ≡ Some step → KeepsOthers s (ReleaseAt index) [] step.state
    by_scope row None e = absurd (cc (e))
    by_scope row (Some scope) e = by_body row scope (body_named code.program row.class (codes "handleAsyncEvent")) e

    by_row : (o : Option HandlerRow) → o >>= (λ row. defined_by_chain code.program row.class >>= (λ scope.
        body_named code.program row.class (codes "handleAsyncEvent") >>= (λ body.
        Some (started_with code s index row scope body)))) ≡ Some step → KeepsOthers s (ReleaseAt index) [] step.state
    by_row None e = absurd (cc (e))
    by_row (Some row) e = by_scope row (defined_by_chain code.program row.class) e
