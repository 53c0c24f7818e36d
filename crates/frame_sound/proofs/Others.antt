-- What a job's operation leaves as it was, one change of the state after the other.
use Rattle.std.specs.Prelude.{Option, Some, None, slice_get, ◌&&◌, ◌++◌, not}
use Rattle.std.proofs.Common.{◌≡◌, ℕ, List, [], Bool, true, refl, sym, ◌∙◌, ap, ◌⊎◌, inl, inr}
use Rattle.std.proofs.lemmas.List.{append-nil, append_assoc}
use Rattle.scj_base.specs.declared.values.Value.{Value}
use Rattle.scj_model.specs.declared.handlers.HandlerRow.{HandlerRow}
use Rattle.scj_model.specs.declared.operations.SeqOp.{SeqOp}
use Rattle.scj_model.specs.declared.phases.Phase.{Phase}
use Rattle.scj_model.specs.State.{MemoryArea, Object, Frame, Activity, ReleaseStatus, Waits, Dropped, Release, Job, TheSequencer, ReleaseAt, State, area_at, is_exec, object_at}
use Rattle.frame_sound.specs.OwnJob.{closed_if}
use Rattle.frame_sound.specs.Others.{AreaStays, IsRegistered, OnlyTakenWait, KeepsOthers, ObjectStays, ReleaseStays, SequencerStays}

-- ---- what doesn't change

pub area_is : (s : State) (frames : List Frame) (a : ℕ) (x : MemoryArea) → area_at s a ≡ Some x → AreaStays s frames a x
area_is s frames a x e = inl e

pub object_is : (s : State) (r : ℕ) (o : Object) → object_at s r ≡ Some o → ObjectStays s r o
object_is s r o e = record { object = o; found = e; class = refl; area = refl; size = refl }

pub release_is : (s : State) (job : Job) (index : ℕ) (r : Release) → slice_get s.releases index ≡ Some r →
    ReleaseStays s job index r
release_is s job index r e = record { release = r; found = e; handler = refl; number = refl; status = inl refl }

-- there is no release at a place where there is none
pub never : {A : Type 0} (releases : List Release) (index : ℕ) (r : Release) → slice_get releases index ≡ None →
    slice_get releases index ≡ Some r → A
never releases index r e f = absurd (cc (e, f))

pub same_rows : (rows : List HandlerRow) → (more : List HandlerRow) × (rows ≡ rows ++ more)
same_rows rows = ([], sym (append-nil rows))

-- ---- one change

-- a state with other memory, releases and handlers
module _ (s : State) (job : Job) (frames : List Frame) where
  abbrev Keeps : State → Type 0
  Keeps after = KeepsOthers s job frames after

  pub memory_keeps : (areas : List MemoryArea) (objects : List Object) (statics : List Value) →
      ((a : ℕ) (x : MemoryArea) → area_at s a ≡ Some x → AreaStays (record s { areas = areas }) frames a x) →
      ((r : ℕ) (o : Object) → object_at s r ≡ Some o → ObjectStays (record s { objects = objects }) r o) →
      Keeps (record s { areas = areas; objects = objects; statics = statics })
  memory_keeps areas objects statics ha ho =
      record {
        areas = ha;
        objects = λ r o e. (let x = ho r o e in
            record { object = x.object; found = x.found; class = x.class; area = x.area; size = x.size });
        releases = λ index r e. record { release = r; found = e; handler = refl; number = refl; status = inl refl };
        new_releases = λ index r e f. never s.releases index r e f;
        waiting = λ e h. h;
        registry = same_rows s.registry;
        activity = inr (refl, refl);
        sequencer = inl (refl, refl);
        mission = record {
          store = refl;
          unit = refl;
          safelet = refl;
          mission_sequencer = refl;
          mission = refl;
          origin = refl;
          earlier_releases = refl;
          last_choice = refl;
          is_end_asked = λ e. e;
        };
      }

  pub releases_keep : (releases : List Release) (rows : List HandlerRow) (asked : Bool) →
      ((index : ℕ) (r : Release) → slice_get s.releases index ≡ Some r →
      ReleaseStays (record s { releases = releases }) job index r) →
      ((index : ℕ) (r : Release) → slice_get s.releases index ≡ None → slice_get releases index ≡ Some r →
      (r.status ≡ Waits) × IsRegistered (record s { registry = rows }) r.handler) →
      (OnlyTakenWait s → OnlyTakenWait (record s { releases = releases; is_end_asked = asked })) →
      ((more : List HandlerRow) × (rows ≡ s.registry ++ more)) →
      (s.is_end_asked ≡ true → asked ≡ true) →
      Keeps (record s { releases = releases; registry = rows; is_end_asked = asked })
  releases_keep releases rows asked hr hn hw hg ha =
      record {
        areas = λ a x e. inl e;
        objects = λ r o e. record { object = o; found = e; class = refl; area = refl; size = refl };
        releases = λ index r e. (let x = hr index r e in
            record { release = x.release; found = x.found; handler = x.handler; number = x.number; status = x.status });
        new_releases = hn;
        waiting = λ e. hw;
        registry = hg;
        activity = inr (refl, refl);
        sequencer = inl (refl, refl);
        mission = record {
          store = refl;
          unit = refl;
          safelet = refl;
          mission_sequencer = refl;
          mission = refl;
          origin = refl;
          earlier_releases = refl;
          last_choice = refl;
          is_end_asked = ha;
        };
      }

  -- the sequencer's own part of the state
  pub sequencer_keeps : (phase : Phase) (operation : SeqOp) (outcome : Option Value) (activity : Activity) →
      job ≡ TheSequencer →
      SequencerStays s job (record s { phase = phase; operation = operation; outcome = outcome; activity = activity }) →
      Keeps (record s { phase = phase; operation = operation; outcome = outcome; activity = activity })
  sequencer_keeps phase operation outcome activity is stays =
      record {
        areas = λ a x e. inl e;
        objects = λ r o e. record { object = o; found = e; class = refl; area = refl; size = refl };
        releases = λ index r e. record { release = r; found = e; handler = refl; number = refl; status = inl refl };
        new_releases = λ index r e f. never s.releases index r e f;
        waiting = λ e h index r there w. ap (λ p. is_exec p && not s.is_end_asked) e ∙ h index r there w;
        registry = same_rows s.registry;
        activity = inl is;
        sequencer = stays;
        mission = record {
          store = refl;
          unit = refl;
          safelet = refl;
          mission_sequencer = refl;
          mission = refl;
          origin = refl;
          earlier_releases = refl;
          last_choice = refl;
          is_end_asked = λ e. e;
        };
      }

  pub nothing_keeps : Keeps s
  nothing_keeps = memory_keeps s.areas s.objects s.statics (area_is s frames) (object_is s)

  -- ---- one change after the other

  -- the first one brings no new release
  pub keeps_then : (t u : State) →
      ((index : ℕ) → slice_get s.releases index ≡ None → slice_get t.releases index ≡ None) →
      Keeps t → KeepsOthers t job frames u → Keeps u
  keeps_then t u none x y =
      record {
        areas = λ a b e. area_then a b (x.areas a b e);
        objects = λ r o e. (let p = x.objects r o e in let q = y.objects r p.object p.found in
            record {
              object = q.object;
              found = q.found;
              class = q.class ∙ p.class;
              area = q.area ∙ p.area;
              size = q.size ∙ p.size;
            });
        releases = λ index r e. (let p = x.releases index r e in let q = y.releases index p.release p.found in
            record {
              release = q.release;
              found = q.found;
              handler = q.handler ∙ p.handler;
              number = q.number ∙ p.number;
              status = status_then index r.status p.release.status q.release.status p.status q.status;
            });
        new_releases = λ index r e f. y.new_releases index r (none index e) f;
        waiting = λ e h. (let p = phase_between x.sequencer y.sequencer e in y.waiting (e ∙ sym p) (x.waiting p h));
        registry = (
          x.registry.0 ++ y.registry.0,
          y.registry.1
              ∙ (ap (λ rows. rows ++ y.registry.0) x.registry.1 ∙ append_assoc s.registry x.registry.0 y.registry.0),
        );
        activity = activity_then x.activity y.activity;
        sequencer = sequencer_then x.sequencer y.sequencer;
        mission = record {
          store = y.mission.store ∙ x.mission.store;
          unit = y.mission.unit ∙ x.mission.unit;
          safelet = y.mission.safelet ∙ x.mission.safelet;
          mission_sequencer = y.mission.mission_sequencer ∙ x.mission.mission_sequencer;
          mission = y.mission.mission ∙ x.mission.mission;
          origin = y.mission.origin ∙ x.mission.origin;
          earlier_releases = y.mission.earlier_releases ∙ x.mission.earlier_releases;
          last_choice = y.mission.last_choice ∙ x.mission.last_choice;
          is_end_asked = λ e. y.mission.is_end_asked (x.mission.is_end_asked e);
        };
      }
    where
      area_then : (a : ℕ) (b : MemoryArea) → AreaStays t frames a b → AreaStays u frames a b
      area_then a b (inl e) = y.areas a b e
      area_then a b (inr h) =
          elim (y.areas a (closed_if true b) h.1) as (λ z. AreaStays u frames a b)
          [ inl g ↦ inr (h.0, g) | inr g ↦ inr (h.0, g.1) ]

      status_then : (index : ℕ) (p q r : ReleaseStatus) →
          (q ≡ p) ⊎ ((job ≡ ReleaseAt index) ⊎ ((p ≡ Waits) × (q ≡ Dropped))) →
          (r ≡ q) ⊎ ((job ≡ ReleaseAt index) ⊎ ((q ≡ Waits) × (r ≡ Dropped))) →
          (r ≡ p) ⊎ ((job ≡ ReleaseAt index) ⊎ ((p ≡ Waits) × (r ≡ Dropped)))
      status_then index p q r (inl e) (inl f) = inl (f ∙ e)
      status_then index p q r (inl e) (inr (inl f)) = inr (inl f)
      status_then index p q r (inl e) (inr (inr f)) = inr (inr (sym e ∙ f.0, f.1))
      status_then index p q r (inr (inl e)) f = inr (inl e)
      status_then index p q r (inr (inr e)) (inl f) = inr (inr (e.0, f ∙ e.1))
      status_then index p q r (inr (inr e)) (inr (inl f)) = inr (inl f)
      status_then index p q r (inr (inr e)) (inr (inr f)) = inr (inr (e.0, f.1))

      phase_between : SequencerStays s job t → SequencerStays t job u → u.phase ≡ s.phase → t.phase ≡ s.phase
      phase_between (inl p) q e = p.0
      phase_between (inr p) (inl q) e = sym q.0 ∙ e
      phase_between (inr p) (inr q) e = p.1 ∙ (sym q.1 ∙ e)

      activity_then : (job ≡ TheSequencer) ⊎ ((t.activity ≡ s.activity) × (t.outcome ≡ s.outcome)) →
          (job ≡ TheSequencer) ⊎ ((u.activity ≡ t.activity) × (u.outcome ≡ t.outcome)) →
          (job ≡ TheSequencer) ⊎ ((u.activity ≡ s.activity) × (u.outcome ≡ s.outcome))
      activity_then (inl e) f = inl e
      activity_then (inr e) (inl f) = inl f
      activity_then (inr e) (inr f) = inr (f.0 ∙ e.0, f.1 ∙ e.1)

      sequencer_then : SequencerStays s job t → SequencerStays t job u → SequencerStays s job u
      sequencer_then (inl e) (inl f) = inl (f.0 ∙ e.0, f.1 ∙ e.1)
      sequencer_then (inl e) (inr f) = inr f
      sequencer_then (inr e) (inl f) = inr (e.0, f.0 ∙ e.1, f.1 ∙ e.2)
      sequencer_then (inr e) (inr f) = inr f
