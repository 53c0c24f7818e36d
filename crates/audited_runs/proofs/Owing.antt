-- A choice that is owed when a unit begins is told in it; and what a unit leaves for the first line of the next ones.
use Rattle.std.proofs.Common.{◌≡◌, ℕ, ◌+◌, ◌<◌, ◌==◌, nat_lt, Bool, true, false, not, ◌&&◌, ◌||◌, length, drop, inl, inr, Option, Some, None, if◌then◌else◌, refl, sym, ap, ◌∙◌, subst, arith}
use Rattle.std.specs.Prelude.{option_map, slice_get}
use Rattle.std.proofs.lemmas.Bool.Decides.{nat_tests}
use Rattle.std.proofs.lemmas.Option.{slice_get-map}
use Rattle.accepted_laws.proofs.Lists.{get_within}
use Rattle.scj_rules.specs.Words.{holds}
use Rattle.scj_model.specs.Choice.{chosen}
use Rattle.scj_model.specs.Run.{is_same_turn}
use Rattle.scj_model.specs.State.{Release as ReleaseNow, State, Turn, IdleTurn, TurnOf}
use Rattle.release_turns.proofs.OtherReleases.{MoreWait}
use Rattle.trace_audit.specs.Passing.{is_above, is_first, is_from, is_in_order, misses_no_choice}
use Rattle.trace_audit.specs.Replay.{Replay, differs, is_executing}
use Rattle.trace_audit.specs.StandsFor.{release_seen}
use Rattle.audited_runs.proofs.InUnit.{Kept, Opened, asks, asks_is}
use Rattle.audited_runs.proofs.Changes.{get_drop}
use Rattle.audited_runs.proofs.Executing.{Alike, Executes, LastIs, LastPlace}
use Rattle.audited_runs.proofs.Choosing.{differs_as, turn_of}
use Rattle.audited_runs.proofs.Turning.{HasChoice, is_last}
use Rattle.audited_runs.proofs.Urgencies.{none_was_chosen, was_chosen}

-- ---- the last choice after arrivals

within_all : (s : State) (r : Replay) (p : ℕ) → Executes s r → LastPlace s.earlier_releases r p →
    p < length s.releases
within_all s r p h last = go (slice_get s.releases p) refl
  where
    there : option_map release_seen (slice_get (drop s.earlier_releases s.releases) last.q) ≡ Some last.release
    there =
        sym (slice_get-map release_seen (drop s.earlier_releases s.releases) last.q)
        ∙ (ap (λ rs. slice_get rs last.q) h.stands.releases ∙ last.there)

    go : (o : Option ReleaseNow) → slice_get s.releases p ≡ o → p < length s.releases
    go None e =
        absurd (cc (
          there,
          ap (option_map release_seen) (get_drop s.earlier_releases p last.q s.releases last.at ∙ e),
        ))
    go (Some x) e = get_within s.releases p x e

none_from : (o : Option ℕ) → is_same_turn (turn_of o) IdleTurn ≡ true → o ≡ None
unfolding is_same_turn
none_from None e = refl
none_from (Some p) e = absurd (cc (e))

place_from : (o : Option ℕ) (p : ℕ) → is_same_turn (turn_of o) (TurnOf p) ≡ true → o ≡ Some p
unfolding is_same_turn
place_from None p e = absurd (cc (e))
place_from (Some n) p e = let same : n ≡ p = grind (arith, nat_tests, e) in ap (λ k. Some k) same

same_place : (p : ℕ) → is_same_turn (TurnOf p) (TurnOf p) ≡ true
unfolding is_same_turn
same_place p = grind (arith, nat_tests)

same_idle : is_same_turn IdleTurn IdleTurn ≡ true
unfolding is_same_turn
same_idle = refl

-- where the last choice is chosen after arrivals, it was chosen before
module _ (s t : State) (r : Replay) (h : Executes s r) (alike : Alike s t) (wait : MoreWait s.releases t.releases) where
  last_before : (o : Option Turn) → LastIs s.earlier_releases r o → holds o (is_same_turn (turn_of (chosen t))) ≡ true →
      holds o (is_same_turn (turn_of (chosen s))) ≡ true
  last_before None last e = absurd (cc (e))
  last_before (Some IdleTurn) last e =
      ap (λ o. is_same_turn (turn_of o) IdleTurn)
      (none_was_chosen s t wait.more alike.registry wait.is (none_from (chosen t) e)) ∙ same_idle
  last_before (Some (TurnOf p)) last e =
      ap (λ o. is_same_turn (turn_of o) (TurnOf p))
      (was_chosen s t wait.more alike.registry wait.is p (within_all s r p h last) (place_from (chosen t) p e))
      ∙ same_place p

  was_last : is_last t ≡ true → is_last s ≡ true
  was_last e =
      last_before s.last_choice h.last (sym (ap (λ o. holds o (is_same_turn (turn_of (chosen t)))) alike.last) ∙ e)

  -- so a choice that is owed is told
  pub owed_is_reported : differs r ≡ true → is_last t ≡ false
  owed_is_reported e = go (is_last t) refl
    where
      go : (b : Bool) → is_last t ≡ b → is_last t ≡ false
      go true f = absurd (cc (e, differs_as s r h ∙ ap not (was_last f)))
      go false f = f

-- ---- the first line of a later unit

above_later : (o : Option ℕ) (unit : ℕ) → is_above o unit ≡ true → is_above o (unit + 1) ≡ true
above_later None unit e = refl
above_later (Some u) unit e = grind (arith, nat_tests, e)

above_next : (unit : ℕ) → nat_lt unit (unit + 1) ≡ true
above_next unit = grind (arith, nat_tests)

pub next_is_first : (unit : ℕ) (r after : Replay) → is_first r unit ≡ true → Kept unit r after →
    is_first after (unit + 1) ≡ true
next_is_first unit r after first (inl e) =
    subst (λ (x : Replay). is_first x (unit + 1) ≡ true) e (above_later r.unit unit first)
next_is_first unit r after first (inr k) = ap (λ o. is_above o (unit + 1)) k.is_unit ∙ above_next unit

pub first_in_order : (r : Replay) (unit : ℕ) → is_first r unit ≡ true → is_in_order r unit ≡ true
first_in_order r unit first = go r.unit first
  where
    go : (o : Option ℕ) → is_above o unit ≡ true → is_from o unit ≡ true
    go None e = refl
    go (Some u) e = grind (arith, nat_tests, e)

-- ---- no choice is missed by the next unit's lines

asks_none : (r : Replay) (unit : ℕ) → asks r unit None ≡ true
unfolding asks
asks_none r unit = refl

-- the first test of what a line asks, and the second
asked : (r : Replay) (u unit : ℕ) → nat_lt u unit ≡ true → is_executing r ≡ true → asks r unit (Some u) ≡ true →
    (not r.owes_choice || r.has_choice) ≡ true
unfolding asks
asked r u unit l exec e =
    left (not r.owes_choice || r.has_choice) (not (differs r) || (unit == u + 1))
    (sym (ap (λ b. if b
    then (not r.owes_choice || r.has_choice) && (not (differs r) || (unit == u + 1))
    else true) (both (is_executing r) (nat_lt u unit) exec l)) ∙ e)
  where
    both : (a b : Bool) → a ≡ true → b ≡ true → (a && b) ≡ true
    both true true f g = refl
    both true false f g = g
    both false b f g = f

    left : (a b : Bool) → (a && b) ≡ true → a ≡ true
    left true b f = refl
    left false b f = f

-- what is asked is met where nothing is owed and Pick is the last choice
met : (r : Replay) (u unit : ℕ) → (is_executing r ≡ true → (not r.owes_choice || r.has_choice) ≡ true) →
    (is_executing r ≡ true → (not (differs r) || (unit == u + 1)) ≡ true) → asks r unit (Some u) ≡ true
unfolding asks
met r u unit h k = go (is_executing r) refl (nat_lt u unit)
  where
    both : (a b : Bool) → a ≡ true → b ≡ true → (a && b) ≡ true
    both true true f g = refl
    both true false f g = g
    both false b f g = f

    go : (e : Bool) → is_executing r ≡ e → (l : Bool) →
        (if e && l then (not r.owes_choice || r.has_choice) && (not (differs r) || (unit == u + 1)) else true) ≡ true
    go true e true =
        both (not r.owes_choice || r.has_choice) (not (differs r) || (unit == u + 1)) (h e) (k e)
    go true e false = refl
    go false e l = refl

not_above : (unit : ℕ) → nat_lt unit unit ≡ false
not_above unit = grind (arith, nat_tests)

module _ (unit : ℕ) (r after : Replay) (first : is_first r unit ≡ true) (ready : misses_no_choice r unit ≡ true)
    (reported : is_executing r ≡ true → differs r ≡ true → HasChoice unit after) where
  -- no line stood in the unit, so Pick is the last choice
  agrees : r ≡ after → is_executing r ≡ true → differs r ≡ false
  agrees same exec = go (differs r) refl
    where
      go : (b : Bool) → differs r ≡ b → differs r ≡ false
      go true e =
          let k : HasChoice unit after = reported exec e in
          let at : r.unit ≡ Some unit = ap (λ (x : Replay). x.unit) same ∙ k.is_unit in
          absurd (cc (first, ap (λ o. is_above o unit) at ∙ not_above unit))
      go false e = e

  still_ready : r ≡ after → misses_no_choice r (unit + 1) ≡ true
  still_ready same = asks_is r (unit + 1) ∙ go r.unit refl
    where
      go : (o : Option ℕ) → r.unit ≡ o → asks r (unit + 1) o ≡ true
      go None e = asks_none r (unit + 1)
      go (Some u) e =
          met r u (unit + 1)
          (λ exec. asked r u unit (sym (ap (λ o. is_above o unit) e) ∙ first) exec
          (sym (ap (asks r unit) e) ∙ (sym (asks_is r unit) ∙ ready)))
          (λ exec. ap (λ b. not b || (unit + 1 == u + 1)) (agrees same exec))

  opened_ready_next : Opened unit r after → misses_no_choice after (unit + 1) ≡ true
  opened_ready_next k =
      asks_is after (unit + 1)
      ∙ (ap (asks after (unit + 1)) k.is_unit
      ∙ met after unit (unit + 1) (λ exec. paid (is_executing r) (differs r) refl refl owes) (λ exec. last (differs after)))
    where
      owes : after.owes_choice ≡ (is_executing r && differs r)
      owes =
          k.owes
          ∙ ap (λ (b : Bool). (if b
          then record r { unit = Some unit; owes_choice = is_executing r && differs r; has_choice = false }
          else r).owes_choice) first

      paid : (a b : Bool) → is_executing r ≡ a → differs r ≡ b → after.owes_choice ≡ (a && b) →
          (not after.owes_choice || after.has_choice) ≡ true
      paid true true e f o =
          ap (λ c. not after.owes_choice || c) (reported e f).has ∙ right (not after.owes_choice)
        where
          right : (b : Bool) → (b || true) ≡ true
          right true = refl
          right false = refl
      paid true false e f o = ap (λ c. not c || after.has_choice) o
      paid false b e f o = ap (λ c. not c || after.has_choice) o

      same_test : (n : ℕ) → (n == n) ≡ true
      same_test n = grind (arith, nat_tests)

      last : (b : Bool) → (not b || (unit + 1 == unit + 1)) ≡ true
      last true = same_test (unit + 1)
      last false = refl

  pub next_is_ready : Kept unit r after → misses_no_choice after (unit + 1) ≡ true
  next_is_ready (inl e) = subst (λ (x : Replay). misses_no_choice x (unit + 1) ≡ true) e (still_ready e)
  next_is_ready (inr k) = opened_ready_next k
