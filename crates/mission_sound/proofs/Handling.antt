-- What is known of handlers and releases stays known: where memory changes, where a job goes on or ends, where a
-- release is taken in, where an end is asked, and where a handler is registered.
use Rattle.std.specs.Prelude.{Some, slice_get, ◌++◌, ◌&&◌, ◌||◌, not, map, if◌then◌else◌}
use Rattle.std.specs.List.{list_any}
use Rattle.std.proofs.Common.{◌≡◌, ℕ, zero, suc, List, [], ◌∷◌, Bool, true, false, refl, sym, ◌∙◌, ap, subst, true≢false, ◌⊎◌, inl, inr}
use Rattle.accepted_laws.proofs.Lists.{get_left, get_either}
use Rattle.accepted_laws.proofs.Tools.{some_inj}
use Rattle.scj_model.specs.declared.handlers.HandlerRow.{HandlerRow}
use Rattle.scj_model.specs.Code.{Code}
use Rattle.scj_model.specs.State.{ReleaseStatus, Dropped, Release, State, with_status, is_waiting, is_started, is_exec}
use Rattle.scj_model.specs.Registry.{handler_row}
use Rattle.scj_model.specs.Apply.{takes_releases, dropped_release}
use Rattle.frame_sound.specs.Places.{world_of}
use Rattle.frame_sound.proofs.Changes.{changed_from}
use Rattle.frame_sound.proofs.Keeps.{ObjectsAreKept}
use Rattle.mission_sound.specs.Bases.{Base}
use Rattle.mission_sound.specs.Invariant.{RowFine, HandlersFine}
use Rattle.mission_sound.proofs.Carried.{row_kept}
use Rattle.mission_sound.proofs.Jobs.{none_passes}
use Rattle.mission_sound.proofs.Rows.{HasRow}

-- ---- small steps

-- where each element fails a test, none passes it
pub all_fail : {A : Type 0} (test : A → Bool) (xs : List A) →
    ((i : ℕ) (x : A) → slice_get xs i ≡ Some x → test x ≡ false) → list_any test xs ≡ false
all_fail test [] h = refl
all_fail test (y ∷ xs) h =
    ap (λ b. b || list_any test xs) (h 0 y refl) ∙ all_fail test xs (λ i x there. h (suc i) x there)

-- a release waits or is started
abbrev pub is_live : ReleaseStatus → Bool
is_live status = is_waiting status || is_started status

module _ (code : Code) (base : Base) where
  -- ---- where registry, releases and the phase are as before

  pub handlers_stay : (s t : State) → ObjectsAreKept (world_of s) (world_of t) → HandlersFine code s base →
      HandlersFine code (record t {
        phase = s.phase;
        is_end_asked = s.is_end_asked;
        releases = s.releases;
        registry = s.registry;
      }) base
  handlers_stay s t kept h =
      record {
        rows = λ k row there. row_kept code.program (world_of s) (world_of t) kept base row (h.rows k row there);
        handled = h.handled;
        none_started = h.none_started;
        none_waits = h.none_waits;
      }

  -- ---- a release goes on, or ends

  pub status_changes : (s : State) (n : ℕ) (status : ReleaseStatus) → is_waiting status ≡ false →
      ((r : Release) → slice_get s.releases n ≡ Some r → is_live status ≡ true → is_live r.status ≡ true) →
      (is_exec s.phase ≡ false → is_started status ≡ false) → HandlersFine code s base →
      HandlersFine code (with_status s n status) base
  status_changes s n status no_wait live outside h =
      record {
        rows = h.rows;
        handled = λ place r there alive. handled place r alive (was place r there);
        none_started = λ e. all_fail (λ (r : Release). is_started r.status) (with_status s n status).releases
            (λ i r there. started e i r (was i r there));
        none_waits = λ e. all_fail (λ (r : Release). is_waiting r.status) (with_status s n status).releases
            (λ i r there. waits e i r (was i r there));
      }
    where
      with_this : Release → Release
      with_this r = record r { status = status }

      Was : ℕ → Release → Type 0
      Was i r =
          (slice_get s.releases i ≡ Some r)
          ⊎ ((x : Release) × (slice_get s.releases n ≡ Some x) × (with_this x ≡ r) × (i ≡ n))

      was : (i : ℕ) (r : Release) → slice_get (with_status s n status).releases i ≡ Some r → Was i r
      was i r there = changed_from with_this n s.releases i r there

      handled : (i : ℕ) (r : Release) → is_live r.status ≡ true → Was i r → HasRow s.registry r.handler
      handled i r alive (inl there) = h.handled i r there alive
      handled i r alive (inr x) =
          subst (λ (r : Release). HasRow s.registry r.handler) x.2
          (h.handled n x.0 x.1 (live x.0 x.1 (ap (λ (r : Release). is_live r.status) x.2 ∙ alive)))

      started : is_exec s.phase ≡ false → (i : ℕ) (r : Release) → Was i r → is_started r.status ≡ false
      started e i r (inl there) =
          none_passes (λ (r : Release). is_started r.status) s.releases i r (h.none_started e) there
      started e i r (inr x) = ap (λ (r : Release). is_started r.status) (sym x.2) ∙ outside e

      waits : takes_releases s ≡ false → (i : ℕ) (r : Release) → Was i r → is_waiting r.status ≡ false
      waits e i r (inl there) =
          none_passes (λ (r : Release). is_waiting r.status) s.releases i r (h.none_waits e) there
      waits e i r (inr x) = ap (λ (r : Release). is_waiting r.status) (sym x.2) ∙ no_wait

  -- ---- one more release waits

  pub release_waits : (s : State) (new : Release) → is_started new.status ≡ false → takes_releases s ≡ true →
      HasRow s.registry new.handler → HandlersFine code s base →
      HandlersFine code (record s { releases = s.releases ++ new ∷ [] }) base
  release_waits s new not_started takes has_row h =
      record {
        rows = h.rows;
        handled = λ place r there alive.
            elim (get_either s.releases new place r there) as (λ z. HasRow s.registry r.handler) [
              | inl old ↦ h.handled place r old alive
              | inr same ↦ subst (λ (r : Release). HasRow s.registry r.handler) same has_row
            ];
        none_started = λ e. all_fail (λ (r : Release). is_started r.status) (s.releases ++ new ∷ []) (λ i r there.
            elim (get_either s.releases new i r there) as (λ z. is_started r.status ≡ false) [
              | inl old ↦ none_passes (λ (r : Release). is_started r.status) s.releases i r (h.none_started e) old
              | inr same ↦ ap (λ (r : Release). is_started r.status) (sym same) ∙ not_started
            ]);
        none_waits = λ e. absurd (true≢false (sym takes ∙ e));
      }

  -- ---- an end is asked

  dropped_waits : (r : Release) → is_waiting (dropped_release r).status ≡ false
  unfolding dropped_release is_waiting
  dropped_waits r = go (is_waiting r.status) refl
    where
      go : (b : Bool) → is_waiting r.status ≡ b →
          is_waiting (if b then record r { status = Dropped } else r).status ≡ false
      go true e = refl
      go false e = e

  dropped_live : (r : Release) → is_live (dropped_release r).status ≡ true → dropped_release r ≡ r
  unfolding dropped_release is_waiting is_started
  dropped_live r = go (is_waiting r.status)
    where
      go : (b : Bool) → is_live (if b then record r { status = Dropped } else r).status ≡ true →
          (if b then record r { status = Dropped } else r) ≡ r
      go true e = absurd (true≢false (sym e))
      go false e = refl

  get_dropped : (rs : List Release) (i : ℕ) (r : Release) → slice_get (map dropped_release rs) i ≡ Some r →
      (x : Release) × (slice_get rs i ≡ Some x) × (dropped_release x ≡ r)
  get_dropped [] i r e = absurd (cc (e))
  get_dropped (x ∷ rs) zero r e = (x, refl, some_inj (dropped_release x) r e)
  get_dropped (x ∷ rs) (suc i) r e = get_dropped rs i r e

  pub end_asked : (s : State) → is_exec s.phase ≡ true → HandlersFine code s base →
      HandlersFine code (record s { is_end_asked = true; releases = map dropped_release s.releases }) base
  end_asked s e h =
      record {
        rows = h.rows;
        handled = λ place r there alive. (let x = get_dropped s.releases place r there in
            let same : r ≡ x.0 = sym x.2 ∙ dropped_live x.0 (ap (λ (r : Release). is_live r.status) x.2 ∙ alive) in
            h.handled place r (x.1 ∙ ap (λ (r : Release). Some r) (sym same)) alive);
        none_started = λ f. absurd (true≢false (sym e ∙ f));
        none_waits = λ f. all_fail (λ (r : Release). is_waiting r.status) (map dropped_release s.releases) (λ i r there.
            (let x = get_dropped s.releases i r there in
            ap (λ (r : Release). is_waiting r.status) (sym x.2) ∙ dropped_waits x.0));
      }

  pub end_kept : (s : State) → is_exec s.phase ≡ false → HandlersFine code s base →
      HandlersFine code (record s { is_end_asked = true }) base
  end_kept s e h =
      record {
        rows = h.rows;
        handled = h.handled;
        none_started = h.none_started;
        none_waits = λ f. h.none_waits (ap (λ (b : Bool). b && not s.is_end_asked) e);
      }

  -- ---- a handler is registered

  row_still : (rows : List HandlerRow) (new : HandlerRow) (handler : ℕ) (row : HandlerRow) →
      handler_row rows handler ≡ Some row → handler_row (rows ++ new ∷ []) handler ≡ Some row
  row_still rows new zero row e = e
  row_still rows new (suc k) row e = get_left rows (new ∷ []) k row e

  pub row_added : (s : State) (new : HandlerRow) → RowFine code.program (world_of s) base new →
      HandlersFine code s base → HandlersFine code (record s { registry = s.registry ++ new ∷ [] }) base
  row_added s new fine h =
      record {
        rows = λ k row there.
            elim (get_either s.registry new k row there) as (λ z. RowFine code.program (world_of s) base row) [
              | inl old ↦ h.rows k row old
              | inr same ↦ subst (RowFine code.program (world_of s) base) same fine
            ];
        handled = λ place r there alive. (let x = h.handled place r there alive in
            (x.0, row_still s.registry new r.handler x.0 x.1));
        none_started = h.none_started;
        none_waits = h.none_waits;
      }
