-- An effect without a call, an opening or a leaving keeps the invariant for the job that acts, in the state.
use Rattle.std.specs.Prelude.{Option, Some, None, slice_get, slice_set, ◌++◌, option_to_list, if◌then◌else◌, ℤ}
use Rattle.std.proofs.Common.{◌≡◌, ℕ, List, [], ◌∷◌, length, Bool, true, false, refl, sym, ◌∙◌, ap, inl, inr}
use Rattle.scj_base.specs.declared.faults.RunFault.{RunFault}
use Rattle.scj_base.specs.declared.faults.RunFault.TheVariants.{MemoryFull, NotInitializing}
use Rattle.scj_base.specs.declared.positions.Position.{Position}
use Rattle.scj_base.specs.declared.values.Value.{Value}
use Rattle.scj_base.specs.declared.values.Value.TheVariants.{At}
use Rattle.scj_rules.specs.Words.{◌>>=◌}
use Rattle.scj_model.specs.declared.events.Event.{Event}
use Rattle.scj_model.specs.declared.events.Event.TheVariants.{Print}
use Rattle.scj_model.specs.Code.{Code}
use Rattle.scj_model.specs.State.{Frame, Activity, Release, Started, Job, TheSequencer, ReleaseAt, State, changed, activity_in, activity_of, with_activity, with_status}
use Rattle.scj_model.specs.Memory.{has_room, with_object, with_slot}
use Rattle.scj_model.specs.Steps.{Step, silently, reporting, fault_in, allocating}
use Rattle.scj_model.specs.Effects.{Effect, Goes, Prints, Makes, Stores, StoresStatic, SetsHidden, SetsCeiling}
use Rattle.scj_model.specs.Apply.{with_frame, with_first, with_ceiling, applied, is_sequencer}
use Rattle.scope_flow.specs.Signatures.{Signature}
use Rattle.scope_flow.specs.Facts.{Facts}
use Rattle.frame_sound.specs.Fine.{list_of, Stands}
use Rattle.frame_sound.specs.EffectsFine.{IsSame, EffectFine}
use Rattle.frame_sound.specs.OwnJob.{KeepsOperation, JobGoesOn, KeepsItsJob, lowest, opened_by}
use Rattle.frame_sound.proofs.Changes.{look, changed_at}
use Rattle.frame_sound.proofs.OwnEnds.{fault_keeps_registry, faulted, job_there, same_areas}
use Rattle.frame_sound.proofs.Kept.{ActsHere, goes_keeps, stores_keep, hidden_keep, ceiling_keeps, static_keeps, makes_keep}

-- ---- the activity of a job in a state

pub same_activity : (s t : State) (job : Job) → t.releases ≡ s.releases → t.activity ≡ s.activity →
    activity_of t job ≡ activity_of s job
unfolding activity_of
same_activity s t TheSequencer e f = ap (λ a. Some a) f
same_activity s t (ReleaseAt index) e f =
    ap (λ (rs : List Release). slice_get rs index >>= (λ r. activity_in r.status)) e

pub set_activity : (s : State) (job : Job) (a b : Activity) → activity_of s job ≡ Some a →
    activity_of (with_activity s job b) job ≡ Some b
unfolding activity_of with_activity activity_in
set_activity s TheSequencer a b e = refl
set_activity s (ReleaseAt index) a b e = go (slice_get s.releases index) refl e
  where
    go : (o : Option Release) → slice_get s.releases index ≡ o → o >>= (λ r. activity_in r.status) ≡ Some a →
        slice_get (with_status s index (Started b)).releases index >>= (λ r. activity_in r.status) ≡ Some b
    go None f g = absurd (cc (g))
    go (Some r) f g =
        ap (λ (o : Option Release). o >>= (λ r. activity_in r.status))
        (changed_at (λ (r : Release). record r { status = Started b }) index s.releases r f)

pub memory_stays : (code : Code) (s : State) (job : Job) (b : Activity) (base : List ℕ) (frames : List Frame) →
    Stands code s.areas s.objects s.statics base frames →
    Stands code (with_activity s job b).areas (with_activity s job b).objects (with_activity s job b).statics base
    frames
unfolding with_activity
memory_stays code s TheSequencer b base frames h = h
memory_stays code s (ReleaseAt index) b base frames h = h

-- ---- the frame with which a job began

same_itself : (f : Frame) → IsSame f f
same_itself f = record { body = refl; called_at = refl; this = refl; area = refl; saved = refl; opened = refl }

pub lowest_same : (f h : Frame) (below : List Frame) → IsSame f h → IsSame (lowest f below) (lowest h below)
unfolding lowest
lowest_same f h [] same = same
lowest_same f h (g ∷ gs) same = same_itself (lowest g gs)

pub same_with : (f h : Frame) (operands : List Value) → IsSame f h → IsSame f (record h { operands = operands })
same_with f h operands same =
    record { body = same.body; called_at = same.called_at; this = same.this; area = same.area; saved = same.saved; opened = same.opened }

pub areas_stay : (s : State) (job : Job) (b : Activity) → (with_activity s job b).areas ≡ s.areas
unfolding with_activity
areas_stay s TheSequencer b = refl
areas_stay s (ReleaseAt index) b = refl

pub operation_stays : (s : State) (job : Job) (b : Activity) → KeepsOperation s (with_activity s job b)
unfolding with_activity
operation_stays s TheSequencer b = record { phase = refl; operation = refl }
operation_stays s (ReleaseAt index) b = record { phase = refl; operation = refl }

pub outcome_stays : (s : State) (job : Job) (b : Activity) → (with_activity s job b).outcome ≡ s.outcome
unfolding with_activity
outcome_stays s TheSequencer b = refl
outcome_stays s (ReleaseAt index) b = refl

pub operation_then : (s t u : State) → KeepsOperation s t → KeepsOperation t u → KeepsOperation s u
operation_then s t u x y = record { phase = y.phase ∙ x.phase; operation = y.operation ∙ x.operation }

pub registry_stays : (s : State) (job : Job) (b : Activity) → (with_activity s job b).registry ≡ s.registry
unfolding with_activity
registry_stays s TheSequencer b = refl
registry_stays s (ReleaseAt index) b = refl

module _ (code : Code) (facts : Facts code) (s : State) (job : Job) (activity : Activity)
    (is : activity_of s job ≡ Some activity) (base : List ℕ) (f : Frame) (below : List Frame)
    (is_list : activity.areas ≡ list_of base (f ∷ below)) (c : ℕ) (sig : Signature)
    (m : ActsHere code s.areas s.objects s.statics base f below c sig) (position : Position) where
  -- the job with this frame, in a state in which at most objects and static fields are others
  pub stands_with : (t : State) → t ≡ record s { objects = t.objects; statics = t.statics } → (k : Frame) → IsSame f k →
      Stands code t.areas t.objects t.statics base (k ∷ below) →
      JobGoesOn code s job base f below (with_frame t job activity k below)
  stands_with t only k same stands =
      record {
        stands = record {
          activity = record activity { frames = k ∷ below };
          is = set_activity t job activity (record activity { frames = k ∷ below })
              (same_activity s t job (ap (λ (u : State). u.releases) only) (ap (λ (u : State). u.activity) only) ∙ is);
          is_list = is_list ∙ ap (λ (o : Option ℕ). option_to_list o ++ list_of base below) (sym same.opened);
          stands = memory_stays code t job (record activity { frames = k ∷ below }) base (k ∷ below) stands;
        };
        top = k;
        others = below;
        are = refl;
        same = lowest_same f k below same;
        operation = operation_then s t (with_frame t job activity k below)
            (record { phase = ap (λ (u : State). u.phase) only; operation = ap (λ (u : State). u.operation) only })
            (operation_stays t job (record activity { frames = k ∷ below }));
        outcome = outcome_stays t job (record activity { frames = k ∷ below }) ∙ ap (λ (u : State). u.outcome) only;
        areas = same_areas code s (with_frame t job activity k below) (f ∷ below) (k ∷ below)
            (areas_stay t job (record activity { frames = k ∷ below }) ∙ ap (λ (u : State). u.areas) only)
            (ap (λ (o : Option ℕ). option_to_list o ++ opened_by below) same.opened);
      }

  abbrev Result : Option Step → Type 0
  Result o = KeepsItsJob code s job activity base f below o

  goes_with : (t : State) → t ≡ record s { objects = t.objects; statics = t.statics } → (k : Frame) → IsSame f k →
      Stands code t.areas t.objects t.statics base (k ∷ below) → (events : List Event) →
      Result (Some (reporting (with_frame t job activity k below) events))
  goes_with t only k same stands events =
      record {
        step = _;
        is = refl;
        either = inl (stands_with t only k same stands);
        registry =
            inl (registry_stays t job (record activity { frames = k ∷ below }) ∙ ap (λ (u : State). u.registry) only);
      }

  -- a fault
  pub faults_so : (fault : RunFault) → Result (Some (fault_in s job activity position fault))
  faults_so fault =
      record {
        step = _;
        is = refl;
        either =
            inr
            (inr
            (faulted code s job activity (job_there s job activity is)
            (record { areas = m.areas_fine; heap = m.heap; statics = m.statics_fine })
            position fault));
        registry = inl (fault_keeps_registry s job activity position fault);
      }

  abbrev Kept : Effect → Type 0
  Kept e = Result (applied code s job activity below position e)

  abbrev Asks : Effect → Type 0
  Asks e = EffectFine code (look (λ a. slice_get s.areas a) s.objects) (list_of base (f ∷ below)) c sig f e

  pub plain_goes : (h : Frame) → Asks (Goes h) → Kept (Goes h)
  unfolding applied
  plain_goes h g =
      goes_with s refl h g.same
      (goes_keeps code facts s.areas s.objects s.statics base f below c sig m h g) []

  pub prints_keep : (h : Frame) (label : ℕ) (value : ℤ) → Asks (Prints h label value) → Kept (Prints h label value)
  unfolding applied
  prints_keep h label value g =
      goes_with s refl h g.same
      (goes_keeps code facts s.areas s.objects s.statics base f below c sig m h g)
      (Print s.unit label value ∷ [])

  pub stores_kept : (h : Frame) (r slot : ℕ) (v : Value) → Asks (Stores h r slot v) → Kept (Stores h r slot v)
  unfolding applied
  stores_kept h r slot v x =
      goes_with (with_slot s r slot v) refl h x.0.same
      (stores_keep code facts s.areas s.objects s.statics base f below c sig m h r slot v x.0 x.1) []

  pub statics_kept : (h : Frame) (n : ℕ) (v : Value) → Asks (StoresStatic h n v) → Kept (StoresStatic h n v)
  unfolding applied
  statics_kept h n v x =
      goes_with (record s { statics = slice_set s.statics n v }) refl h x.0.same
      (static_keeps code facts s.areas s.objects s.statics base f below c sig m h n v x.0 x.1) []

  pub hidden_kept : (h : Frame) (r : ℕ) (vs : List Value) → Asks (SetsHidden h r vs) → Kept (SetsHidden h r vs)
  unfolding applied
  hidden_kept h r vs x =
      goes_with (record s { objects = changed (with_first vs) r s.objects }) refl h x.0.same
      (hidden_keep code facts s.areas s.objects s.statics base f below c sig m h r vs x.0 x.1) []

  pub makes_kept : (h : Frame) (class : ℕ) (vs : List Value) → Asks (Makes h class vs) → Kept (Makes h class vs)
  unfolding applied allocating
  makes_kept h class vs x = go (has_room s h.area (length vs))
    where
      operands : List Value
      operands = At (length s.objects) ∷ h.operands

      go : (t : Bool) → Result
          (Some (if t then silently (with_frame (with_object s class h.area vs) job activity
          (record h { operands = At (length s.objects) ∷ h.operands }) below)
          else fault_in s job activity position MemoryFull))
      go true =
          goes_with (with_object s class h.area vs) refl (record h { operands = operands })
          (same_with f h operands x.goes.same)
          (makes_keep code facts s.areas s.objects s.statics base f below c sig m h class vs x) []
      go false = faults_so MemoryFull

  pub ceiling_kept : (h : Frame) (r ceiling : ℕ) → Asks (SetsCeiling h r ceiling) → Kept (SetsCeiling h r ceiling)
  unfolding applied
  ceiling_kept h r ceiling x = go (is_sequencer job)
    where
      go : (t : Bool) → Result
          (if t then Some
          (silently
          (with_frame (record s { objects = changed (with_ceiling ceiling) r s.objects }) job activity h below))
          else Some (fault_in s job activity position NotInitializing))
      go true =
          goes_with (record s { objects = changed (with_ceiling ceiling) r s.objects }) refl h x.0.same
          (ceiling_keeps code facts s.areas s.objects s.statics base f below c sig m h r ceiling x.0) []
      go false = faults_so NotInitializing
