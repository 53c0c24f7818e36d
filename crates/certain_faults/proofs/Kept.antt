-- The next operation of a job keeps what is known of the frames of each job.
use Rattle.std.specs.Prelude.{Option, Some, None, slice_set, if◌then◌else◌, not, nat_lt, is_some, length, option_map, unwrap_or}
use Rattle.std.proofs.Common.{◌≡◌, ℕ, List, [], ◌∷◌, Bool, true, false, refl, sym, subst}
use Rattle.scj_base.specs.declared.faults.RunFault.TheVariants.{MemoryFull, StoreFull, ScopedCycle, CeilingViolation, NotInitializing, TooManyHandlers, DepthFull}
use Rattle.scj_base.specs.declared.faults.RunFault.{RunFault}
use Rattle.scj_base.specs.declared.positions.Position.{Position}
use Rattle.scj_base.specs.declared.values.Value.{Value}
use Rattle.scj_base.specs.declared.values.Value.TheVariants.{Null, At}
use Rattle.scj_rules.specs.declared.views.Body.{Body}
use Rattle.scj_model.specs.declared.events.Event.{Event}
use Rattle.scj_model.specs.declared.handlers.HandlerRow.{HandlerRow}
use Rattle.scj_model.specs.Code.{Code}
use Rattle.scj_model.specs.State.{Object, Frame, Activity, Job, TheSequencer, ReleaseAt, State, changed, object_at, with_activity, is_init}
use Rattle.scj_model.specs.Memory.{has_room, has_store_for, with_area, with_object, with_slot, closed, area_with_scope}
use Rattle.scj_model.specs.Registry.{handler_number, most_handlers}
use Rattle.scj_model.specs.Steps.{Step, silently, reporting, fault_in, allocating, opening, job_ended}
use Rattle.scj_model.specs.Effects.{Effect, Goes, Prints, Makes, Stores, StoresStatic, SetsHidden, SetsCeiling, Calls, Opens, Leaves, AsksRegistration, AsksRelease, AsksTermination, Faults, Stuck}
use Rattle.scj_model.specs.Apply.{with_frame, with_first, with_ceiling, applied, is_sequencer, called, ceiling_entered, is_full, opened_in, returned, without, frame_left, report_priority, registered}
use Rattle.reference_sound.proofs.Closing.{one_closes}
use Rattle.certain_faults.proofs.Frames.{Explained, Waits, Fine}
use Rattle.certain_faults.proofs.Jobs.{Jobs, jobs_still, jobs_of, jobs_on, jobs_ended, jobs_faulted, Lead, leads, none_leads, released_jobs, asked_jobs}
use Rattle.certain_faults.proofs.Passes.{Passes}

module _ (code : Code) (G : Body → Bool → Type 0) where
  -- the frames of a job: each frame under another one waits for that one's body
  abbrev pub Under : Body → List Frame → Type 0
  Under body [] = Unit {0}
  Under body (f ∷ fs) = Waits code G f body × Under f.body fs

  abbrev pub Frames : List Frame → Type 0
  Frames [] = Unit {0}
  Frames (f ∷ fs) = Explained code f × Under f.body fs

  -- what an effect leaves of the frame that acts
  abbrev pub KeepsBody : Body → Effect → Type 0
  KeepsBody body (Goes h) = h.body ≡ body
  KeepsBody body (Prints h label value) = h.body ≡ body
  KeepsBody body (Makes h class slots) = h.body ≡ body
  KeepsBody body (Stores h r slot value) = h.body ≡ body
  KeepsBody body (StoresStatic h position value) = h.body ≡ body
  KeepsBody body (SetsHidden h r values) = h.body ≡ body
  KeepsBody body (SetsCeiling h r ceiling) = h.body ≡ body
  KeepsBody body (Calls h g) = h.body ≡ body
  KeepsBody body (Opens h g scope bytes) = h.body ≡ body
  KeepsBody body (Leaves h value) = (b : Bool) → G body b → is_some value ≡ b
  KeepsBody body (AsksRegistration h r) = h.body ≡ body
  KeepsBody body (AsksRelease h r) = h.body ≡ body
  KeepsBody body (AsksTermination h r) = h.body ≡ body
  KeepsBody body (Faults fault) = Unit {0}
  KeepsBody body Stuck = Unit {0}

  module _ (s : State) (held : Jobs Frames s) (job : Job) (activity : Activity) (body : Body) (below : List Frame)
      (under : Under body below) (position : Position) where
    abbrev Kept : Effect → Type 0
    Kept e = Lead Frames (applied code s job activity below position e)

    with_top : (m : State) → Jobs Frames m → (a : Activity) (k : Frame) → a.frames ≡ k ∷ below → k.body ≡ body →
        Explained code k → Jobs Frames (with_activity m job a)
    with_top m h a k are same x =
        jobs_on Frames m job a
        (subst (λ (fs : List Frame). Frames fs) (sym are) (x, subst (λ (b : Body). Under b below) (sym same) under)) h

    goes_on : (m : State) → Jobs Frames m → (k : Frame) → k.body ≡ body → Explained code k →
        Jobs Frames (with_frame m job activity k below)
    goes_on m h k same x = with_top m h (record activity { frames = k ∷ below }) k refl same x

    faulted : (fault : RunFault) → Jobs Frames (fault_in s job activity position fault).state
    faulted fault = jobs_faulted Frames s job activity position fault held

    made : (h : Frame) (class : ℕ) (values : List Value) → h.body ≡ body →
        ((r : ℕ) → Explained code (record h { operands = At r ∷ h.operands })) → Kept (Makes h class values)
    unfolding applied allocating
    made h class values same x = go (has_room s h.area (length values))
      where
        go : (t : Bool) → Lead Frames
            (Some (if t then silently (with_frame (with_object s class h.area values) job activity
            (record h { operands = At (length s.objects) ∷ h.operands }) below)
            else fault_in s job activity position MemoryFull))
        go true =
            leads Frames _
            (goes_on (with_object s class h.area values) (jobs_still Frames s (with_object s class h.area values) refl refl held)
            (record h { operands = At (length s.objects) ∷ h.operands }) same (x (length s.objects)))
        go false = leads Frames _ (faulted MemoryFull)

    ceiling_set : (h : Frame) (r ceiling : ℕ) → h.body ≡ body → Explained code h → Kept (SetsCeiling h r ceiling)
    unfolding applied
    ceiling_set h r ceiling same x = go (is_sequencer job)
      where
        go : (t : Bool) → Lead Frames
            (if t then Some
            (silently
            (with_frame (record s { objects = changed (with_ceiling ceiling) r s.objects }) job activity h below))
            else Some (fault_in s job activity position NotInitializing))
        go true =
            leads Frames _
            (goes_on (record s { objects = changed (with_ceiling ceiling) r s.objects })
            (jobs_still Frames s (record s { objects = changed (with_ceiling ceiling) r s.objects }) refl refl held) h same x)
        go false = leads Frames _ (faulted NotInitializing)

    -- a frame above the one that acts
    two : (h g : Frame) → h.body ≡ body → Explained code g → Waits code G h g.body → Frames (g ∷ h ∷ below)
    two h g same x w = (x, (w, subst (λ (b : Body). Under b below) (sym same) under))

    calls_on : (h g : Frame) → h.body ≡ body → Waits code G h g.body → Explained code g → Kept (Calls h g)
    unfolding applied called
    calls_on h g same w x = go (is_full (h ∷ below)) (ceiling_entered code s g)
      where
        by_ceiling : (ceiling : ℕ) (t : Bool) (events : List Event) → Jobs Frames
            (if t then fault_in s job activity position CeilingViolation
            else reporting
            (with_activity s job (record activity {
              frames = record g { saved = Some activity.priority } ∷ (h ∷ below);
              priority = ceiling;
            })) events).state
        by_ceiling ceiling true events = faulted CeilingViolation
        by_ceiling ceiling false events =
            jobs_on Frames s job (record activity {
              frames = record g { saved = Some activity.priority } ∷ (h ∷ below);
              priority = ceiling;
            })
            (two h (record g { saved = Some activity.priority }) same
            (record { stack = x.stack; passes = x.passes; shadows = x.shadows }) w) held

        go : (t : Bool) (o : Option ℕ) → Lead Frames (Some
            (if t then fault_in s job activity position DepthFull
            else (elim o as (λ z. Step) [
              | None ↦ silently (with_activity s job (record activity { frames = g ∷ (h ∷ below) }))
              | Some ceiling ↦
                  if nat_lt ceiling activity.priority then fault_in s job activity position CeilingViolation
                  else reporting
                  (with_activity s job (record activity {
                    frames = record g { saved = Some activity.priority } ∷ (h ∷ below);
                    priority = ceiling;
                  }))
                  (report_priority s job activity.priority ceiling)
            ])))
        go true o = leads Frames _ (faulted DepthFull)
        go false None =
            leads Frames _
            (jobs_on Frames s job (record activity { frames = g ∷ (h ∷ below) }) (two h g same x w) held)
        go false (Some ceiling) = leads Frames _ (by_ceiling ceiling (nat_lt ceiling activity.priority) _)

    opens_on : (h g : Frame) (scope bytes : ℕ) → h.body ≡ body → Waits code G h g.body → Explained code g →
        Kept (Opens h g scope bytes)
    unfolding applied opened_in opening
    opens_on h g scope bytes same w x =
        go (is_some (area_with_scope s scope activity.areas)) (is_full (h ∷ below)) (has_store_for s bytes)
      where
        opened : Activity
        opened =
            record activity {
              frames = record g { area = length s.areas; opened = Some (length s.areas) } ∷ (h ∷ below);
              areas = length s.areas ∷ activity.areas;
            }

        go : (t u v : Bool) → Lead Frames (Some
            (if t then fault_in s job activity position ScopedCycle
            else (if u then fault_in s job activity position DepthFull
            else (if v then silently (with_activity (with_area s scope (Some g.area) bytes) job opened)
            else fault_in s job activity position StoreFull))))
        go true u v = leads Frames _ (faulted ScopedCycle)
        go false true v = leads Frames _ (faulted DepthFull)
        go false false true =
            leads Frames _
            (jobs_on Frames (with_area s scope (Some g.area) bytes) job opened
            (two h (record g { area = length s.areas; opened = Some (length s.areas) }) same
            (record { stack = x.stack; passes = x.passes; shadows = x.shadows }) w)
            (jobs_still Frames s (with_area s scope (Some g.area) bytes) refl refl held))
        go false false false = leads Frames _ (faulted StoreFull)

    -- the frame below goes on with what the body gave
    given_back : (value : Option Value) → ((b : Bool) → G body b → is_some value ≡ b) → (fs : List Frame) →
        Under body fs →
        Frames (returned value fs)
    unfolding returned
    given_back None r [] u = tt
    given_back (Some v) r [] u = tt
    given_back None r (f ∷ fs) u = (
      record { stack = u.0.stack; passes = u.0.passes; shadows = u.0.returns None r },
      u.1,
    )
    given_back (Some v) r (f ∷ fs) u = (
      record { stack = u.0.stack; passes = u.0.passes; shadows = u.0.returns (Some v) r },
      u.1,
    )

    left_on : (h : Frame) (value : Option Value) → ((b : Bool) → G body b → is_some value ≡ b) → Kept (Leaves h value)
    unfolding applied frame_left job_ended
    left_on h value r =
        leads Frames _
        (left below under (record activity {
          frames = returned value below;
          areas = without h.opened activity.areas;
          priority = unwrap_or h.saved activity.priority;
        }) refl)
      where
        u : State
        u = closed s h.opened

        h_u : Jobs Frames u
        h_u = let c = one_closes s h.opened in jobs_still Frames s (closed s h.opened) c.releases c.activity held

        ended : (j : Job) (after : Activity) → Frames after.frames → Jobs Frames (job_ended (closed s h.opened) j after value).state
        ended TheSequencer after x =
            jobs_of Frames (closed s h.opened)
            (record (closed s h.opened) { activity = after; outcome = Some (unwrap_or value Null) }) refl x h_u
        ended (ReleaseAt n) after x = jobs_ended Frames (closed s h.opened) n h_u

        left : (fs : List Frame) → Under body fs → (after : Activity) → after.frames ≡ returned value fs →
            Jobs Frames (elim fs as (λ z. Step) [
              | [] ↦ job_ended (closed s h.opened) job after value
              | g ∷ gs ↦ silently (with_activity (closed s h.opened) job after)
            ]).state
        left [] x after e =
            ended job after (subst (λ (ks : List Frame). Frames ks) (sym e) (given_back value r [] x))
        left (g ∷ gs) x after e =
            jobs_on Frames (closed s h.opened) job after
            (subst (λ (ks : List Frame). Frames ks) (sym e) (given_back value r (g ∷ gs) x)) h_u

    registers_on : (h : Frame) (r : ℕ) → h.body ≡ body → Explained code h → Kept (AsksRegistration h r)
    unfolding applied registered
    registers_on h r same x = go (object_at s r)
      where
        plain : Jobs Frames (with_frame s job activity h below)
        plain = goes_on s held h same x

        one : (b u v : Bool) (rows : List HandlerRow) (events : List Event) →
            Jobs Frames (if b then fault_in s job activity position NotInitializing
            else (if u then silently (with_frame s job activity h below)
            else (if v then fault_in s job activity position TooManyHandlers
            else reporting (record (with_frame s job activity h below) { registry = rows }) events))).state
        one true u v rows events = faulted NotInitializing
        one false true v rows events = plain
        one false false true rows events = faulted TooManyHandlers
        one false false false rows events =
            jobs_still Frames (with_frame s job activity h below)
            (record (with_frame s job activity h below) { registry = rows }) refl refl plain

        go : (o : Option Object) → Lead Frames
            (option_map (λ (o : Object). registered code s job activity position r o (with_frame s job activity h below)) o)
        go None = none_leads Frames
        go (Some o) =
            leads Frames _
            (one (not (is_init s.phase)) (is_some (handler_number s.registry r))
            (not (nat_lt (length s.registry) most_handlers))
            _ _)

    pub effect_kept : (e : Effect) → KeepsBody body e → Fine code G (Passes code) (Unit {0}) e → Kept e
    unfolding applied
    effect_kept (Goes h) b x = leads Frames _ (goes_on s held h b x.is)
    effect_kept (Prints h label value) b x = leads Frames _ (goes_on s held h b x.is)
    effect_kept (Makes h class values) b x = made h class values b x.is
    effect_kept (Stores h r slot v) b x =
        leads Frames _
        (goes_on (with_slot s r slot v) (jobs_still Frames s (with_slot s r slot v) refl refl held) h b x.is)
    effect_kept (StoresStatic h n v) b x =
        leads Frames _
        (goes_on (record s { statics = slice_set s.statics n v })
        (jobs_still Frames s (record s { statics = slice_set s.statics n v }) refl refl held) h b x.is)
    effect_kept (SetsHidden h r values) b x =
        leads Frames _
        (goes_on (record s { objects = changed (with_first values) r s.objects })
        (jobs_still Frames s (record s { objects = changed (with_first values) r s.objects }) refl refl held) h b x.is)
    effect_kept (SetsCeiling h r ceiling) b x = ceiling_set h r ceiling b x.is
    effect_kept (Calls h g) b x = calls_on h g b x.is.0 x.is.1
    effect_kept (Opens h g scope bytes) b x = opens_on h g scope bytes b x.is.0 x.is.1
    effect_kept (Leaves h v) b x = left_on h v b
    effect_kept (AsksRegistration h r) b x = registers_on h r b x.is
    effect_kept (AsksRelease h r) b x =
        leads Frames _ (released_jobs Frames (with_frame s job activity h below) r (goes_on s held h b x.is))
    effect_kept (AsksTermination h r) b x =
        leads Frames _ (asked_jobs Frames (with_frame s job activity h below) r (goes_on s held h b x.is))
    effect_kept (Faults fault) b x = leads Frames _ (faulted fault)
    effect_kept Stuck b x = none_leads Frames
