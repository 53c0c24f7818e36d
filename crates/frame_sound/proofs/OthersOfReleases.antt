-- What the others have of handlers that are registered, and of releases that are taken in or dropped.
use Rattle.scj_model.specs.Registry.{handler_number, handler_row}
use Rattle.std.specs.Prelude.{None, slice_get, ◌++◌, if◌then◌else◌, map, option_map, Option, Some, position, ◌+◌, ◌==◌, ◌&&◌, not}
use Rattle.std.proofs.Common.{◌≡◌, List, [], ◌∷◌, Bool, true, false, refl, sym, ◌∙◌, ap, ◌⊎◌, inl, inr, ℕ, suc, arith, subst, true≢false}
use Rattle.accepted_laws.proofs.Fields.{position-cons}
use Rattle.accepted_laws.proofs.Tools.{some_inj}
use Rattle.accepted_laws.proofs.Lists.{get_either, get_left}
use Rattle.scj_model.specs.declared.handlers.HandlerRow.{HandlerRow}
use Rattle.scj_model.specs.State.{Frame, ReleaseStatus, Waits, Started, Ended, Dropped, Release, Job, ReleaseAt, State, is_waiting, is_exec}
use Rattle.scj_model.specs.Apply.{dropped_release, takes_releases}
use Rattle.frame_sound.specs.Others.{KeepsOthers, IsRegistered}
use Rattle.frame_sound.proofs.OwnRequests.{get_mapped}
use Rattle.frame_sound.proofs.Others.{never, releases_keep, release_is, same_rows}

position_found : {A : Type 0} (test : A → Bool) (xs : List A) (k : ℕ) → position test xs ≡ Some k →
    (x : A) × (slice_get xs k ≡ Some x)
position_found {A} test [] k e = absurd (cc (e))
position_found {A} test (x ∷ xs) k e = go (test x) (sym (position-cons test x xs) ∙ e) (position_found test xs)
  where
    behind : (o : Option ℕ) → position test xs ≡ o → option_map (λ k. 1 + k) o ≡ Some k →
        ((k : ℕ) → position test xs ≡ Some k → (y : A) × (slice_get xs k ≡ Some y)) →
        (y : A) × (slice_get (x ∷ xs) k ≡ Some y)
    behind None f g ih = absurd (cc (g))
    behind (Some j) f g ih =
        let n : suc j ≡ k = (let m : 1 + j ≡ k = some_inj (1 + j) k g in omega (arith, m)) in
        let y = ih j f in (y.0, ap (slice_get (x ∷ xs)) (sym n) ∙ y.1)

    go : (b : Bool) → (if b then Some 0 else option_map (λ k. 1 + k) (position test xs)) ≡ Some k →
        ((k : ℕ) → position test xs ≡ Some k → (y : A) × (slice_get xs k ≡ Some y)) →
        (y : A) × (slice_get (x ∷ xs) k ≡ Some y)
    go true g ih = (x, ap (slice_get (x ∷ xs)) (sym (some_inj 0 k g)))
    go false g ih = behind (position test xs) refl g ih

-- the number of a registered handler is that of its row
pub handler_is : (registry : List HandlerRow) (r handler : ℕ) → handler_number registry r ≡ Some handler →
    (row : HandlerRow) × (handler_row registry handler ≡ Some row)
unfolding handler_number
handler_is registry r handler e = go (position (λ (row : HandlerRow). row.at == r) registry) refl e
  where
    go : (o : Option ℕ) → position (λ (row : HandlerRow). row.at == r) registry ≡ o →
        option_map (λ k. k + 1) o ≡ Some handler → (row : HandlerRow) × (handler_row registry handler ≡ Some row)
    go None f g = absurd (cc (g))
    go (Some k) f g =
        let x = position_found (λ (row : HandlerRow). row.at == r) registry k f in
        let n : suc k ≡ handler = (let m : k + 1 ≡ handler = some_inj (k + 1) handler g in omega (arith, m)) in
        (x.0, ap (handler_row registry) (sym n) ∙ x.1)

module _ (t : State) (job : Job) (frames : List Frame) where
  pub row_keeps : (row : HandlerRow) → KeepsOthers t job frames (record t { registry = t.registry ++ row ∷ [] })
  row_keeps row =
      releases_keep t job frames t.releases (t.registry ++ row ∷ []) t.is_end_asked (release_is t job)
      (λ index r e f. never t.releases index r e f)
      (λ h. h) (row ∷ [], refl) (λ e. e)

  pub taken_keeps : (q : Release) → q.status ≡ Waits → IsRegistered t q.handler → takes_releases t ≡ true →
      KeepsOthers t job frames (record t { releases = t.releases ++ q ∷ [] })
  taken_keeps q waits registered takes =
      releases_keep t job frames (t.releases ++ q ∷ []) t.registry t.is_end_asked
      (λ index r e. record {
        release = r;
        found = get_left t.releases (q ∷ []) index r e;
        handler = refl;
        number = refl;
        status = inl refl;
      })
      (λ index r e f. elim (get_either t.releases q index r f) as (λ z. (r.status ≡ Waits) × IsRegistered t r.handler) [
        | inl g ↦ absurd (cc (e, g))
        | inr g ↦ subst (λ (x : Release). (x.status ≡ Waits) × IsRegistered t x.handler) g (waits, registered)
      ])
      (λ h index r there w. elim (get_either t.releases q index r there) as (λ z. takes_releases t ≡ true) [
        | inl g ↦ h index r g w
        | inr g ↦ takes
      ]) (same_rows t.registry) (λ e. e)

  -- outside execution none waits
  pub asked_keeps : is_exec t.phase ≡ false → KeepsOthers t job frames (record t { is_end_asked = true })
  asked_keeps outside =
      releases_keep t job frames t.releases t.registry true (release_is t job)
      (λ index r e f. never t.releases index r e f)
      (λ h index r there w. absurd (true≢false (sym (h index r there w) ∙ ap (λ b. b && not t.is_end_asked) outside)))
      (same_rows t.registry) (λ e. refl)

  record IsDropped (r q : Release) : Type 0 where
    pub handler : q.handler ≡ r.handler
    pub number : q.number ≡ r.number
    pub status : (q.status ≡ r.status) ⊎ ((r.status ≡ Waits) × (q.status ≡ Dropped))

  waits_if : (p : ReleaseStatus) → is_waiting p ≡ true → p ≡ Waits
  unfolding is_waiting
  waits_if Waits e = refl
  waits_if (Started a) e = absurd (cc (e))
  waits_if Ended e = absurd (cc (e))
  waits_if Dropped e = absurd (cc (e))

  is_dropped : (r : Release) → IsDropped r (dropped_release r)
  unfolding dropped_release
  is_dropped r = go (is_waiting r.status) refl
    where
      go : (b : Bool) → is_waiting r.status ≡ b → IsDropped r (if b then record r { status = Dropped } else r)
      go true e = record { handler = refl; number = refl; status = inr (waits_if r.status e, refl) }
      go false e = record { handler = refl; number = refl; status = inl refl }

  none_waits : (r : Release) → is_waiting (dropped_release r).status ≡ false
  unfolding dropped_release is_waiting
  none_waits r = go r.status
    where
      go : (p : ReleaseStatus) →
          is_waiting (if is_waiting p then record r { status = Dropped } else record r { status = p }).status ≡ false
      go Waits = refl
      go (Started a) = refl
      go Ended = refl
      go Dropped = refl

  waits_not : (o : Option Release) (r : Release) → option_map dropped_release o ≡ Some r → is_waiting r.status ≡ false
  waits_not None r e = absurd (cc (e))
  waits_not (Some q) r e =
      ap (λ (x : Release). is_waiting x.status) (sym (some_inj (dropped_release q) r e)) ∙ none_waits q

  pub dropped_keep : KeepsOthers t job frames
      (record t { is_end_asked = true; releases = map dropped_release t.releases })
  dropped_keep =
      releases_keep t job frames (map dropped_release t.releases) t.registry true
      (λ index r e. (let d = is_dropped r in
      record {
        release = dropped_release r;
        found = get_mapped dropped_release t.releases index ∙ ap (option_map dropped_release) e;
        handler = d.handler;
        number = d.number;
        status = elim d.status as (λ z. ((dropped_release r).status ≡ r.status)
            ⊎ ((job ≡ ReleaseAt index) ⊎ ((r.status ≡ Waits) × ((dropped_release r).status ≡ Dropped)))) [
              | inl g ↦ inl g
              | inr g ↦ inr (inr g)
            ];
      }))
      (λ index r e f. (let none : slice_get (map dropped_release t.releases) index ≡ None =
      get_mapped dropped_release t.releases index ∙ ap (option_map dropped_release) e in absurd (cc (none, f))))
      (λ h index r there w. absurd (true≢false (sym w
      ∙ waits_not (slice_get t.releases index) r (sym (get_mapped dropped_release t.releases index) ∙ there))))
      (same_rows t.registry) (λ e. refl)
