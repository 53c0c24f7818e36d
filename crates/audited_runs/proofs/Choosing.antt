-- Pick is the last choice where the machine's choice is, and not where it isn't; so the lines `run` and `idle` come where
-- a choice is told.
use Rattle.std.proofs.Common.{◌≡◌, ℕ, ◌+◌, ◌==◌, Bool, true, false, not, ◌&&◌, drop, ◌⊎◌, inl, inr, Option, Some, None, refl, sym, ap, ◌∙◌, subst, arith}
use Rattle.std.specs.Prelude.{option_map, slice_get}
use Rattle.std.proofs.lemmas.Bool.{and_parts}
use Rattle.accepted_laws.proofs.Positions.{get_map}
use Rattle.scj_rules.specs.Words.{holds}
use Rattle.scj_model.specs.Choice.{chosen}
use Rattle.scj_model.specs.Run.{is_same_turn}
use Rattle.scj_model.specs.State.{Release as ReleaseNow, State, Turn, IdleTurn, TurnOf}
use Rattle.priority_laws.proofs.Urgency.{IsChosen, is_chosen}
use Rattle.trace_audit.specs.declared.choices.Choice.{Choice}
use Rattle.trace_audit.specs.declared.choices.Choice.TheVariants.{Idle as Nobody, Chosen}
use Rattle.trace_audit.specs.declared.releases.Release.{Release}
use Rattle.trace_audit.specs.Replay.{Releases, Replay, choice_at, differs, is_same_choice, picked, picked_index}
use Rattle.trace_audit.specs.StandsFor.{StandsFor, release_seen}
use Rattle.trace_audit.proofs.ChosenLaws.{pick_is_choice}
use Rattle.audited_runs.proofs.Changes.{get_drop}
use Rattle.accepted_laws.proofs.Tools.{some_inj}
use Rattle.priority_laws.proofs.AreaLists.{number_cases, same_number, same_test}
use Rattle.audited_runs.proofs.Named.{other_test}
use Rattle.audited_runs.proofs.Executing.{Executes, LastIs}

abbrev pub turn_of : Option ℕ → Turn
turn_of o = elim o as (λ z. Turn) [ None ↦ IdleTurn | Some index ↦ TurnOf index ]

-- ---- what is picked

-- nobody is chosen and nobody picked, or a release of the mission is
pub data Picks (s : State) (r : Replay) : Type 0 where
  nobody : (chosen_none : chosen s ≡ None) (place_none : picked_index r.all ≡ None) (none : picked r.all ≡ Nobody) →
      Picks s r
  somebody : (q p : ℕ) (x : ReleaseNow) (at : p ≡ s.earlier_releases + q) (is_chosen : chosen s ≡ Some p)
      (there : slice_get s.releases p ≡ Some x) (seen : slice_get r.all.releases q ≡ Some (release_seen x))
      (is_picked : picked r.all ≡ Chosen x.handler x.number) → Picks s r

seen_there : (s : State) (all : Releases) (p q : ℕ) (x : ReleaseNow) → StandsFor s all → p ≡ s.earlier_releases + q →
    slice_get s.releases p ≡ Some x → slice_get all.releases q ≡ Some (release_seen x)
seen_there s all p q x stands at there =
    sym (ap (λ rs. slice_get rs q) stands.releases)
    ∙ get_map release_seen (drop s.earlier_releases s.releases) q x
    (get_drop s.earlier_releases p q s.releases at ∙ there)

pub picks : (s : State) (r : Replay) → StandsFor s r.all → Picks s r
picks s r stands = go (picked_index r.all) refl
  where
    choice : chosen s ≡ option_map (λ (n : ℕ). s.earlier_releases + n) (picked_index r.all)
    choice = pick_is_choice s r.all stands

    go : (o : Option ℕ) → picked_index r.all ≡ o → Picks s r
    go None e =
        nobody (choice ∙ ap (option_map (λ (n : ℕ). s.earlier_releases + n)) e) e (ap (choice_at r.all.releases) e)
    go (Some q) e =
        let chosen_so : chosen s ≡ Some (s.earlier_releases + q) =
        choice ∙ ap (option_map (λ (n : ℕ). s.earlier_releases + n)) e in
        let k : IsChosen s (s.earlier_releases + q) = is_chosen s (s.earlier_releases + q) chosen_so in
        let seen : slice_get r.all.releases q ≡ Some (release_seen k.release) =
        seen_there s r.all (s.earlier_releases + q) q k.release stands refl k.is_there in
        somebody q (s.earlier_releases + q) k.release refl chosen_so k.is_there seen
        (ap (choice_at r.all.releases) e
        ∙ ap (λ o. elim o as (λ _. Choice) [ None ↦ Nobody | Some x ↦ Chosen x.handler x.number ]) seen)

-- ---- the same choice, and the same turn

-- two releases have the same name where they stand at the same place
same_names : (s : State) (r : Replay) → Executes s r → (p q : ℕ) (x y : Release) → slice_get r.all.releases p ≡ Some x →
    slice_get r.all.releases q ≡ Some y → ((x.handler == y.handler) && (x.number == y.number)) ≡ (p == q)
same_names s r h p q x y at_p at_q = go (number_cases p q)
  where
    go : (p ≡ q) ⊎ (p ≡ q → ⊥) → ((x.handler == y.handler) && (x.number == y.number)) ≡ (p == q)
    go (inl e) =
        let same : x ≡ y = some_inj x y (sym at_p ∙ (ap (slice_get r.all.releases) e ∙ at_q)) in
        (subst (λ z. ((x.handler == z.handler) && (x.number == z.number)) ≡ true) same
        (ap (λ b. b && (x.number == x.number)) (same_test x.handler) ∙ same_test x.number))
        ∙ sym (subst (λ z. (p == z) ≡ true) e (same_test p))
    go (inr apart) = not_same ((x.handler == y.handler) && (x.number == y.number)) refl ∙ sym (other_test p q apart)
      where
        not_same : (b : Bool) → ((x.handler == y.handler) && (x.number == y.number)) ≡ b →
            ((x.handler == y.handler) && (x.number == y.number)) ≡ false
        not_same true t =
            let parts = and_parts (x.handler == y.handler) (x.number == y.number) t in
            absurd (apart (h.named.once p q x y at_p at_q (same_number x.handler y.handler parts.0)
            (same_number x.number y.number parts.1)))
        not_same false t = t

moved_test : (e p q m n : ℕ) → m ≡ e + p → n ≡ e + q → (p == q) ≡ (m == n)
moved_test e p q m n f g = go (number_cases p q)
  where
    go : (p ≡ q) ⊎ (p ≡ q → ⊥) → (p == q) ≡ (m == n)
    go (inl k) =
        (subst (λ z. (p == z) ≡ true) k (same_test p))
        ∙ sym (let same : m ≡ n = omega (arith, f, g, k) in subst (λ z. (m == z) ≡ true) same (same_test m))
    go (inr k) = other_test p q k ∙ sym (other_test m n (λ same. k (omega (arith, f, g, same))))

-- whether the last choice is Pick, by what was the last choice
same_last : (s : State) (r : Replay) → Executes s r → Picks s r → (o : Option Turn) → LastIs s.earlier_releases r o →
    holds r.last_choice (is_same_choice (picked r.all)) ≡ holds o (is_same_turn (turn_of (chosen s)))
unfolding is_same_turn
same_last s r h k None last = ap (λ c. holds c (is_same_choice (picked r.all))) last
same_last s r h (nobody none place_none pick) (Some IdleTurn) last =
    ap (λ c. holds c (is_same_choice (picked r.all))) last
    ∙ (ap (λ c. is_same_choice c Nobody) pick ∙ sym (ap (λ o. is_same_turn (turn_of o) IdleTurn) none))
same_last s r h (somebody q p x at is there seen pick) (Some IdleTurn) last =
    ap (λ c. holds c (is_same_choice (picked r.all))) last
    ∙ (ap (λ c. is_same_choice c Nobody) pick ∙ sym (ap (λ o. is_same_turn (turn_of o) IdleTurn) is))
same_last s r h (nobody none place_none pick) (Some (TurnOf n)) last =
    ap (λ c. holds c (is_same_choice (picked r.all))) last.named
    ∙ (ap (λ c. is_same_choice c (Chosen last.release.handler last.release.number)) pick
    ∙ sym (ap (λ o. is_same_turn (turn_of o) (TurnOf n)) none))
same_last s r h (somebody q p x at is there seen pick) (Some (TurnOf n)) last =
    ap (λ c. holds c (is_same_choice (picked r.all))) last.named
    ∙ (ap (λ c. is_same_choice c (Chosen last.release.handler last.release.number)) pick
    ∙ (same_names s r h q last.q (release_seen x) last.release seen last.there
    ∙ (moved_test s.earlier_releases q last.q p n at last.at
    ∙ sym (ap (λ o. is_same_turn (turn_of o) (TurnOf n)) is))))

-- Pick isn't the last choice where the machine's choice isn't
pub differs_as : (s : State) (r : Replay) → Executes s r →
    differs r ≡ not (holds s.last_choice (is_same_turn (turn_of (chosen s))))
differs_as s r h = ap not (same_last s r h (picks s r h.stands) s.last_choice h.last)
