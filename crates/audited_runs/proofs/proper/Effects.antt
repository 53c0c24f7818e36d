-- What an effect of an operation tells has proper parts.
use Rattle.std.proofs.Common.{◌≡◌, ℕ, ◌+◌, ◌≤◌, ◌==◌, nat_lt, true, false, not, All, List, [], ◌∷◌, ◌++◌, length, Option, Some, None, refl, sym, ap, ◌∙◌, subst, arith}
use Rattle.std.specs.Prelude.{filter, is_some, slice_get, unwrap_or}
use Rattle.std.specs.List.{list_all}
use Rattle.std.proofs.lemmas.Bool.Decides.{nat_tests}
use Rattle.std.proofs.lemmas.List.{length_push}
use Rattle.std.proofs.lemmas.List.Elements.{All-cons, All-map}
use Rattle.accepted_laws.proofs.Lists.{get_within}
use Rattle.scj_base.specs.declared.positions.Position.{Position}
use Rattle.scj_base.specs.declared.faults.RunFault.{RunFault}
use Rattle.scj_base.specs.declared.values.Value.{Value}
use Rattle.scj_base.specs.Lexeme.{is_text_byte}
use Rattle.scj_rules.specs.Words.{◌>>=◌}
use Rattle.scj_tree.specs.declared.nodes.Node.{Node}
use Rattle.scj_model.specs.declared.events.Event.TheVariants as event
use Rattle.scj_model.specs.declared.handlers.HandlerRow.{HandlerRow}
use Rattle.scj_model.specs.Code.{Code}
use Rattle.scj_model.specs.TraceText.{label}
use Rattle.scj_model.specs.State.{Object, Frame, Activity, Ended, Release, Job, TheSequencer, ReleaseAt, State, with_activity, with_status, object_at, is_exec, is_init, is_waiting}
use Rattle.scj_model.specs.Registry.{handler_number, most_handlers, new_row}
use Rattle.scj_model.specs.Memory.{area_with_scope, closed, has_room, has_store_for, with_area, with_object}
use Rattle.scj_model.specs.Steps.{Step, allocating, closed_all, fault_in, job_ended, opening, silently, reporting}
use Rattle.scj_model.specs.Effects.{Effect, Goes, Prints, Makes, Stores, StoresStatic, SetsHidden, SetsCeiling, Calls, Opens, Leaves, AsksRegistration, AsksRelease, AsksTermination, Faults, Stuck, monitor_of}
use Rattle.scj_model.specs.Apply.{applied, asks_for_end, called, ceiling_entered, frame_left, is_full, is_sequencer, most_waiting, opened_in, registered, release_taken, released, releases_of, returned, takes_releases, report_priority, termination, termination_asked, waiting_of, with_frame, without}
use Rattle.priority_laws.specs.Handlers.{CeilingsArePriorities, IsPriority}
use Rattle.audited_runs.proofs.Arriving.{HasRow, numbered}
use Rattle.audited_runs.proofs.proper.Backing.{Backs, RegistersWell}
use Rattle.audited_runs.proofs.proper.Steps.{Good, GoodIf, IsProper, either_good, elim_proper, good_if, good_option, good_silent, good_then, if_proper, mapped_good, none_proper, nothing_good, one_proper, some_good, two_proper}

-- ---- the registry of a state that differs elsewhere

pub registry_with : (s : State) (job : Job) (a : Activity) → (with_activity s job a).registry ≡ s.registry
unfolding with_activity
registry_with s TheSequencer a = refl
registry_with s (ReleaseAt p) a = refl

pub registry_closed : (s : State) (o : Option ℕ) → (closed s o).registry ≡ s.registry
unfolding closed
registry_closed s None = refl
registry_closed s (Some a) = refl

registry_closed_all : (fs : List Frame) (s : State) → (closed_all s fs).registry ≡ s.registry
unfolding closed_all
registry_closed_all [] s = refl
registry_closed_all (f ∷ fs) s = registry_closed_all fs (closed s f.opened) ∙ registry_closed s f.opened

pub few_as : (s t : State) → t.registry ≡ s.registry → length s.registry ≤ 64 → length t.registry ≤ 64
few_as s t e h = subst (λ (rows : List HandlerRow). length rows ≤ 64) (sym e) h

pub few_with : (s : State) (job : Job) (a : Activity) → length s.registry ≤ 64 →
    length (with_activity s job a).registry ≤ 64
few_with s job a h = few_as s (with_activity s job a) (registry_with s job a) h

-- a handler that has a row has a number from 1 to 64
pub row_number : (registry : List HandlerRow) (handler : ℕ) → HasRow registry handler → length registry ≤ 64 →
    (1 ≤ handler) × (handler ≤ 64)
row_number registry handler h few =
    let l = get_within registry h.k h.row h.there in
    let e = h.is_next in (omega (arith, e), omega (arith, e, l, few))

module _ (nodes : List Node) (F : Position → Type 0) where
  -- ---- what every effect may do

  pub good_fault : (s : State) (job : Job) (a : Activity) (position : Position) (fault : RunFault) → length s.registry ≤ 64 →
      F position → Good nodes F (fault_in s job a position fault)
  unfolding fault_in
  good_fault s TheSequencer a position fault few h =
      record {
        events = two_proper nodes F (event.Fault s.unit fault position) (event.Halted s.unit) h tt;
        few = few;
      }
  good_fault s (ReleaseAt p) a position fault few h =
      record {
        events = All-cons (IsProper nodes F) (event.Fault s.unit fault position) _ h
            (elim_proper nodes F (slice_get s.releases p) (λ (r : Release). event.End s.unit r.handler r.number ∷ [])
            (λ r. one_proper nodes F (event.End s.unit r.handler r.number) tt));
        few = few_as s (with_status (closed_all s a.frames) p Ended) (registry_closed_all a.frames s) few;
      }

  pub good_ended : (s : State) (job : Job) (a : Activity) (value : Option Value) → length s.registry ≤ 64 →
      Good nodes F (job_ended s job a value)
  unfolding job_ended
  good_ended s TheSequencer a value few = record { events = none_proper nodes F; few = few }
  good_ended s (ReleaseAt p) a value few =
      record {
        events = elim_proper nodes F (slice_get s.releases p) (λ (r : Release). event.End s.unit r.handler r.number ∷ [])
            (λ r. one_proper nodes F (event.End s.unit r.handler r.number) tt);
        few = few;
      }

  prio_proper : (s : State) (job : Job) (before after : ℕ) → ((p : ℕ) → job ≡ ReleaseAt p → IsPriority after) →
      All (IsProper nodes F) (report_priority s job before after)
  prio_proper s TheSequencer before after h =
      if_proper nodes F (before == after) [] [] (none_proper nodes F) (none_proper nodes F)
  prio_proper s (ReleaseAt p) before after h =
      if_proper nodes F (before == after) [] _ (none_proper nodes F)
      (elim_proper nodes F (slice_get s.releases p) (λ (r : Release). event.Prio s.unit r.handler after ∷ [])
      (λ r. one_proper nodes F (event.Prio s.unit r.handler after) (h p refl)))

  pub good_opening : (s : State) (job : Job) (a : Activity) (position : Position) (scope : ℕ) (parent : Option ℕ) (bytes : ℕ)
      (next : State → ℕ → Step) → length s.registry ≤ 64 → F position →
      ((t : State) (n : ℕ) → length t.registry ≤ 64 → Good nodes F (next t n)) →
      Good nodes F (opening s job a position scope parent bytes next)
  unfolding opening
  good_opening s job a position scope parent bytes next few h more =
      good_if (Good nodes F) (has_store_for s bytes) _ _ (λ e. more (with_area s scope parent bytes) (length s.areas) few)
      (λ e. good_fault s job a position _ few h)

  pub good_made : (s : State) (job : Job) (a : Activity) (position : Position) (class area : ℕ) (slots : List Value)
      (next : State → ℕ → Step) → length s.registry ≤ 64 → F position →
      ((t : State) (n : ℕ) → length t.registry ≤ 64 → Good nodes F (next t n)) →
      Good nodes F (allocating s job a position class area slots next)
  unfolding allocating
  good_made s job a position class area slots next few h more =
      good_if (Good nodes F) (has_room s area (length slots)) _ _
      (λ e. more (with_object s class area slots) (length s.objects) few) (λ e. good_fault s job a position _ few h)

  -- ---- releases

  pub good_taken : (s : State) (handler : ℕ) → length s.registry ≤ 64 → HasRow s.registry handler →
      Good nodes F (release_taken s handler)
  unfolding release_taken
  good_taken s handler few has =
      good_if (Good nodes F) (not (nat_lt (length (waiting_of s handler)) most_waiting)) _ _
      (λ e. record {
        events = one_proper nodes F (event.Lost s.unit handler) (row_number s.registry handler has few);
        few = few;
      })
      (λ e. record {
        events = one_proper nodes F (event.Arrive s.unit handler (length (releases_of s handler) + 1)) tt;
        few = few;
      })

  good_released : (s : State) (r : ℕ) → length s.registry ≤ 64 → Good nodes F (released s r)
  unfolding released handler_number
  good_released s r few =
      good_if (Good nodes F) (takes_releases s) _ _
      (λ e. good_option (Good nodes F) (handler_number s.registry r) _ _ (λ f. good_silent nodes F s few)
      (λ handler f. good_taken s handler few
      (numbered (λ (row : HandlerRow). row.at == r) s.registry handler f)))
      (λ e. good_silent nodes F s few)

  good_asked : (s : State) (r : ℕ) → length s.registry ≤ 64 → Good nodes F (termination_asked s r)
  unfolding termination_asked termination
  good_asked s r few =
      good_if (Good nodes F) (asks_for_end s.mission s.phase s.is_end_asked r) _ _
      (λ e. good_if (Good nodes F) (is_exec s.phase) _ _
      (λ f. record {
        events = All-cons (IsProper nodes F) (event.Terminate s.unit) _ tt
            (All-map (IsProper nodes F) (λ (x : Release). event.Drop s.unit x.handler x.number)
            (filter (λ (x : Release). is_waiting x.status) s.releases) (λ k d l. tt));
        few = few;
      })
      (λ f. record { events = none_proper nodes F; few = few }))
      (λ e. good_silent nodes F s few)

  module _ (code : Code) (s : State) (few : length s.registry ≤ 64)
      (labels : (id : ℕ) → list_all is_text_byte (label nodes id) ≡ true)
      (ceilings : CeilingsArePriorities s.objects) (job : Job) (a : Activity) (below : List Frame) (position : Position) where
    good_frame : (t : State) (f : Frame) → length t.registry ≤ 64 → Good nodes F (silently (with_frame t job a f below))
    good_frame t f few_t = good_silent nodes F _ (few_with t job (record a { frames = f ∷ below }) few_t)

    -- ---- calls and leaving

    entered : (g : Frame) (ceiling : ℕ) → ceiling_entered code s g ≡ Some ceiling → IsPriority ceiling
    unfolding ceiling_entered
    entered g ceiling e = by (monitor_of code g) e
      where
        there : (r : ℕ) (o : Option Object) → object_at s r ≡ o → (o >>= (λ (x : Object). Some x.ceiling)) ≡ Some ceiling →
            IsPriority ceiling
        there r None f k = absurd (cc (k))
        there r (Some x) f k =
            subst IsPriority (ap (λ (o : Option ℕ). unwrap_or o 0) k) (ceilings.is r x f)

        by : (m : Option ℕ) → ((m >>= object_at s) >>= (λ (x : Object). Some x.ceiling)) ≡ Some ceiling →
            IsPriority ceiling
        by None k = absurd (cc (k))
        by (Some r) k = there r (object_at s r) refl k

    good_called : (frames : List Frame) (g : Frame) → F position → Good nodes F (called code s job a frames position g)
    unfolding called
    good_called frames g h =
        good_if (Good nodes F) (is_full frames) _ _ (λ e. good_fault s job a position _ few h)
        (λ e. good_option (Good nodes F) (ceiling_entered code s g) _ _
        (λ f. good_silent nodes F _ (few_with s job (record a { frames = g ∷ frames }) few))
        (λ ceiling f. good_if (Good nodes F) (nat_lt ceiling a.priority) _ _ (λ k. good_fault s job a position _ few h)
        (λ k. record {
          events = prio_proper s job a.priority ceiling (λ p same. entered g ceiling f);
          few = few_with s job _ few;
        })))

    good_opens : (frames : List Frame) (g : Frame) (scope bytes : ℕ) → F position →
        Good nodes F (opened_in s job a frames position g scope bytes)
    unfolding opened_in
    good_opens frames g scope bytes h =
        good_if (Good nodes F) (is_some (area_with_scope s scope a.areas)) _ _ (λ e. good_fault s job a position _ few h)
        (λ e. good_if (Good nodes F) (is_full frames) _ _ (λ f. good_fault s job a position _ few h)
        (λ f. good_opening s job a position scope (Some g.area) bytes _ few h
        (λ t n few_t. good_silent nodes F _ (few_with t job _ few_t))))

    good_left : (f : Frame) (value : Option Value) →
        ((p : ℕ) → job ≡ ReleaseAt p → IsPriority (unwrap_or f.saved a.priority)) →
        Good nodes F (frame_left s job a f below value)
    unfolding frame_left
    good_left f value h =
        good_then nodes F
        (reporting (closed s f.opened) (report_priority s job a.priority (unwrap_or f.saved a.priority)))
        (λ t. elim below as (λ _. Step) [
          | [] ↦ job_ended t job after value
          | g ∷ gs ↦ silently (with_activity t job after)
        ])
        (record { events = prio_proper s job a.priority (unwrap_or f.saved a.priority) h; few = few_closed })
        (go below)
      where
        after : Activity
        after =
            record a {
              frames = returned value below;
              areas = without f.opened a.areas;
              priority = unwrap_or f.saved a.priority;
            }

        few_closed : length (closed s f.opened).registry ≤ 64
        few_closed = few_as s (closed s f.opened) (registry_closed s f.opened) few

        go : (fs : List Frame) →
            Good nodes F
            (elim fs as (λ _. Step) [
              | [] ↦ job_ended (closed s f.opened) job after value
              | g ∷ gs ↦ silently (with_activity (closed s f.opened) job after)
            ])
        go [] = good_ended (closed s f.opened) job after value few_closed
        go (g ∷ gs) = good_silent nodes F _ (few_with (closed s f.opened) job after few_closed)

    -- ---- registration

    one_more : (rows : List HandlerRow) (row : HandlerRow) → length rows + 1 ≤ 64 → length (rows ++ row ∷ []) ≤ 64
    one_more rows row l = subst (λ n. n ≤ 64) (sym (length_push rows row)) l

    has_place : (n : ℕ) → not (nat_lt n most_handlers) ≡ false → n + 1 ≤ 64
    has_place n e = grind (arith, nat_tests, e)

    good_registered : (f : Frame) (r : ℕ) (o : Object) → F position → RegistersWell code r o →
        Good nodes F (registered code s job a position r o (with_frame s job a f below))
    unfolding registered
    good_registered f r o h well =
        good_if (Good nodes F) (not (is_init s.phase)) _ _ (λ e. good_fault s job a position _ few h)
        (λ e. good_if (Good nodes F) (is_some (handler_number s.registry r)) _ _ (λ k. good_frame s f few)
        (λ k. good_if (Good nodes F) (not (nat_lt (length s.registry) most_handlers)) _ _
        (λ l. good_fault s job a position _ few h)
        (λ l. record {
          events = one_proper nodes F _ (has_place (length s.registry) l, well.named, well.priority);
          few = subst
              (λ (rows : List HandlerRow). length (rows ++ new_row code.program r o ∷ []) ≤ 64)
              (sym (registry_with s job (record a { frames = f ∷ below })))
              (one_more s.registry (new_row code.program r o) (has_place (length s.registry) l));
        })))

    -- ---- all effects

    pub good_applied : (e : Effect) → Backs F code s.objects job a position e → GoodIf (Good nodes F) (applied code s job a below position e)
    unfolding applied
    good_applied (Goes f) h = some_good (Good nodes F) _ (good_frame s f few)
    good_applied (Prints f text value) h =
        some_good (Good nodes F) _
        (record {
          events = one_proper nodes F (event.Print s.unit text value) (labels text);
          few = few_with s job (record a { frames = f ∷ below }) few;
        })
    good_applied (Makes f class slots) h =
        some_good (Good nodes F) _ (good_made s job a position class f.area slots _ few h (λ t n few_t. good_frame t _ few_t))
    good_applied (Stores f r slot value) h = some_good (Good nodes F) _ (good_frame (record s { objects = _ }) f few)
    good_applied (StoresStatic f n value) h = some_good (Good nodes F) _ (good_frame (record s { statics = _ }) f few)
    good_applied (SetsHidden f r values) h = some_good (Good nodes F) _ (good_frame (record s { objects = _ }) f few)
    good_applied (SetsCeiling f r ceiling) h =
        either_good (Good nodes F) (is_sequencer job) _ _
        (λ e. some_good (Good nodes F) _ (good_frame (record s { objects = _ }) f few))
        (λ e. some_good (Good nodes F) _ (good_fault s job a position _ few h))
    good_applied (Calls f g) h = some_good (Good nodes F) _ (good_called (f ∷ below) g h)
    good_applied (Opens f g scope bytes) h = some_good (Good nodes F) _ (good_opens (f ∷ below) g scope bytes h)
    good_applied (Leaves f value) h = some_good (Good nodes F) _ (good_left f value h)
    good_applied (AsksRegistration f r) h =
        mapped_good (Good nodes F) (object_at s r) _ (λ o e. good_registered f r o h.0 (h.1 o e))
    good_applied (AsksRelease f r) h =
        some_good (Good nodes F) _
        (good_released (with_frame s job a f below) r (few_with s job (record a { frames = f ∷ below }) few))
    good_applied (AsksTermination f r) h =
        some_good (Good nodes F) _
        (good_asked (with_frame s job a f below) r (few_with s job (record a { frames = f ∷ below }) few))
    good_applied (Faults fault) h = some_good (Good nodes F) _ (good_fault s job a position fault few h)
    good_applied Stuck h = nothing_good (Good nodes F)
