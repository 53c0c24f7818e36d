-- What the others have of a job's own activity and status and of areas that are closed; and that the other jobs stand.
use Rattle.scj_model.specs.Apply.{takes_releases}
use Rattle.std.specs.Prelude.{Option, Some, None, slice_get, ◌==◌, option_map, option_to_list}
use Rattle.std.proofs.Common.{◌≡◌, ℕ, List, Bool, true, false, refl, sym, ◌∙◌, ap, subst, arith, ◌⊎◌, inl, inr, true≢false}
use Rattle.std.proofs.lemmas.Bool.Decides.{nat_tests}
use Rattle.scj_rules.specs.Words.{is_among, ◌>>=◌}
use Rattle.scj_model.specs.State.{MemoryArea, Frame, Activity, ReleaseStatus, Waits, Started, Dropped, Release, Job, TheSequencer, ReleaseAt, State, activity_in, activity_of, area_at, changed, with_activity, with_status, is_waiting}
use Rattle.scj_model.specs.Memory.{closed}
use Rattle.scj_model.specs.Steps.{closed_all}
use Rattle.frame_sound.specs.OwnJob.{closed_if, opened_by}
use Rattle.frame_sound.specs.Others.{OnlyTakenWait, AreaStays, KeepsOthers, OthersStand, ReleaseStays}
use Rattle.frame_sound.proofs.Changes.{changed_at, changed_from, changed_off}
use Rattle.frame_sound.proofs.OwnEnds.{closed_all_at, closed_all_is, closed_at, closed_is}
use Rattle.frame_sound.proofs.Others.{memory_keeps, object_is, releases_keep, same_rows, sequencer_keeps}

-- ---- the job's own activity and status

module _ (s : State) (n : ℕ) (status : ReleaseStatus) where
  abbrev with_this : Release → Release
  with_this r = record r { status = status }

  pub status_none : (index : ℕ) → slice_get s.releases index ≡ None →
      slice_get (with_status s n status).releases index ≡ None
  status_none index e = go (slice_get (changed with_this n s.releases) index) refl
    where
      go : (o : Option Release) → slice_get (changed with_this n s.releases) index ≡ o →
          slice_get (changed with_this n s.releases) index ≡ None
      go None f = f
      go (Some r) f =
          absurd (elim (changed_from with_this n s.releases index r f) as (λ z. ⊥) [
            | inl g ↦ cc (e, g)
            | inr g ↦ (let x : slice_get s.releases index ≡ Some g.0 = ap (slice_get s.releases) g.3 ∙ g.1 in cc (e, x))
          ])

  pub status_keeps : (frames : List Frame) → is_waiting status ≡ false →
      KeepsOthers s (ReleaseAt n) frames (with_status s n status)
  status_keeps frames acts =
      releases_keep s (ReleaseAt n) frames (changed with_this n s.releases) s.registry s.is_end_asked
      (λ index r e. stays index r e (n == index) refl)
      (λ index r e f. (let x = status_none index e in absurd (cc (x, f)))) waiting (same_rows s.registry) (λ e. e)
    where
      waiting : OnlyTakenWait s → OnlyTakenWait (record s { releases = changed with_this n s.releases })
      waiting h index r there w =
          elim (changed_from with_this n s.releases index r there) as (λ z. takes_releases s ≡ true) [
            | inl g ↦ h index r g w
            | inr g ↦ absurd (true≢false (sym w ∙ (ap (λ (q : Release). is_waiting q.status) (sym g.2) ∙ acts)))
          ]

      stays : (index : ℕ) (r : Release) → slice_get s.releases index ≡ Some r → (t : Bool) → (n == index) ≡ t →
          ReleaseStays (record s { releases = changed with_this n s.releases }) (ReleaseAt n) index r
      stays index r e true t =
          let same : n ≡ index = grind (arith, nat_tests) in
          record {
            release = with_this r;
            found = ap (slice_get (changed with_this n s.releases)) (sym same)
                ∙ changed_at with_this n s.releases r (ap (slice_get s.releases) same ∙ e);
            handler = refl;
            number = refl;
            status = inr (inl (ap ReleaseAt same));
          }
      stays index r e false t =
          record {
            release = r;
            found = changed_off with_this n s.releases index (λ same. grind (arith, nat_tests)) ∙ e;
            handler = refl;
            number = refl;
            status = inl refl;
          }

pub activity_none : (s : State) (job : Job) (a : Activity) (index : ℕ) → slice_get s.releases index ≡ None →
    slice_get (with_activity s job a).releases index ≡ None
unfolding with_activity
activity_none s TheSequencer a index e = e
activity_none s (ReleaseAt n) a index e = status_none s n (Started a) index e

pub activity_keeps : (s : State) (job : Job) (frames : List Frame) (a : Activity) →
    KeepsOthers s job frames (with_activity s job a)
unfolding with_activity is_waiting
activity_keeps s TheSequencer frames a =
    sequencer_keeps s TheSequencer frames s.phase s.operation s.outcome a refl (inl (refl, refl))
activity_keeps s (ReleaseAt n) frames a = status_keeps s n (Started a) frames refl

-- ---- closing

module _ (s : State) (job : Job) (frames : List Frame) where
  stays_if : (t : State) (a : ℕ) (x : MemoryArea) (b : Bool) → (b ≡ true → is_among a (opened_by frames) ≡ true) →
      area_at t a ≡ Some (closed_if b x) → AreaStays t frames a x
  stays_if t a x true h e = inr (h refl, e)
  stays_if t a x false h e = inl e

  pub closed_keeps : (o : Option ℕ) →
      ((a : ℕ) → is_among a (option_to_list o) ≡ true → is_among a (opened_by frames) ≡ true) →
      KeepsOthers s job frames (closed s o)
  closed_keeps o own =
      subst (KeepsOthers s job frames) (sym (closed_is s o))
      (memory_keeps s job frames (closed s o).areas s.objects s.statics
      (λ a x e. stays_if (record s { areas = (closed s o).areas }) a x (is_among a (option_to_list o)) (own a)
      (closed_at s o a ∙ ap (option_map (closed_if (is_among a (option_to_list o)))) e)) (object_is s))

  pub closed_all_keeps : KeepsOthers s job frames (closed_all s frames)
  closed_all_keeps =
      subst (KeepsOthers s job frames) (sym (closed_all_is s frames))
      (memory_keeps s job frames (closed_all s frames).areas s.objects s.statics
      (λ a x e. stays_if (record s { areas = (closed_all s frames).areas }) a x (is_among a (opened_by frames)) (λ t. t)
      (closed_all_at s frames a ∙ ap (option_map (closed_if (is_among a (opened_by frames)))) e)) (object_is s))

-- ---- the other jobs

abbrev found : Option Release → Option Activity
found o = o >>= (λ r. activity_in r.status)

pub others_stand : (s : State) (job : Job) (frames : List Frame) (after : State) → KeepsOthers s job frames after →
    OthersStand s job after
unfolding activity_of activity_in
others_stand s job frames after k TheSequencer other =
    elim k.activity as (λ z. Some after.activity ≡ Some s.activity) [
      | inl e ↦ absurd (other (sym e))
      | inr e ↦ ap (λ a. Some a) e.0
    ]
others_stand s job frames after k (ReleaseAt index) other = go (slice_get s.releases index) refl
  where
    waits : (p : ReleaseStatus) → p ≡ Waits → activity_in p ≡ None
    waits p e = ap activity_in e

    new : slice_get s.releases index ≡ None → (o : Option Release) → slice_get after.releases index ≡ o → found o ≡ None
    new e None f = refl
    new e (Some r) f = waits r.status (k.new_releases index r e f).0

    old : (r q : ReleaseStatus) → (q ≡ r) ⊎ ((job ≡ ReleaseAt index) ⊎ ((r ≡ Waits) × (q ≡ Dropped))) →
        activity_in q ≡ activity_in r
    old r q (inl e) = ap activity_in e
    old r q (inr (inl e)) = absurd (other (sym e))
    old r q (inr (inr e)) = ap activity_in e.1 ∙ sym (waits r e.0)

    go : (o : Option Release) → slice_get s.releases index ≡ o →
        found (slice_get after.releases index) ≡ found (slice_get s.releases index)
    go None e = new e (slice_get after.releases index) refl ∙ sym (ap found e)
    go (Some r) e =
        let x = k.releases index r e in
        ap found x.found ∙ (old r.status x.release.status x.status ∙ sym (ap found e))
