-- The first of what some bodies and nodes show that are reached, found one after the other.
use Rattle.std.specs.Prelude.{◌⊎◌, Option, Some, None, Contains}
use Rattle.std.proofs.Common.{◌≡◌, inl, inr, ℕ, List, [], Bool, refl, sym, subst, ⊎_elim, ◌∷◌}
use Rattle.scj_rules.proofs.ReportLemmas.{Contains-head, Contains-tail, Contains-cases, none_contained}
use Rattle.scj_model.specs.Code.{Code}
use Rattle.memory_needs.specs.declared.shown.Shown.{Shown}
use Rattle.memory_needs.specs.Chosen.{first_of, IsChosen, IsAll}
use Rattle.memory_needs.specs.ClassShown.{recursion_at, reached_at, first_shown}
use Rattle.memory_needs.proofs.Choosing.{chosen_more, chosen_same}

-- what an option holds is all of it
pub all_of : (o : Option Shown) → IsAll (λ s. o ≡ Some s) o
all_of None = record { that = tt; all = λ s k. k }
all_of (Some b) = record { that = refl; all = λ s k. k }

module _ (code : Code) (marks loops : List Bool) (shown : List (Option Shown)) where
  -- what the bodies and nodes of these numbers show
  pub data ShownAmong (ids : List ℕ) (s : Shown) : Type 0 where
    at_body : (b : ℕ) → Contains ids b → recursion_at code marks loops b ≡ Some s → ShownAmong ids s
    at_node : (id : ℕ) → Contains ids id → reached_at marks shown id ≡ Some s → ShownAmong ids s

  pub chosen_among : (ids : List ℕ) (best : Option Shown) (Before : Shown → Type 0) → IsChosen Before best →
      IsChosen (λ s. Before s ⊎ ShownAmong ids s)
      (first_shown code marks loops shown best ids)
  unfolding first_shown
  chosen_among [] best Before h =
      chosen_same Before (λ s. Before s ⊎ ShownAmong [] s) best (λ s k. inl k) (λ s k. only s k) h
    where
      only : (s : Shown) → Before s ⊎ ShownAmong [] s → Before s
      only s (inl k) = k
      only s (inr (at_body b c e)) = absurd (none_contained b c)
      only s (inr (at_node b c e)) = absurd (none_contained b c)
  chosen_among (id ∷ ids) best Before h =
      chosen_same
      (λ s. ((Before s ⊎ (recursion_at code marks loops id ≡ Some s))
      ⊎ (reached_at marks shown id ≡ Some s)) ⊎ ShownAmong ids s)
      (λ s. Before s ⊎ ShownAmong (id ∷ ids) s)
      (first_shown code marks loops shown
      (first_of (first_of best (recursion_at code marks loops id))
      (reached_at marks shown id)) ids)
      to from
      (chosen_among ids
      (first_of (first_of best (recursion_at code marks loops id))
      (reached_at marks shown id))
      (λ s. (Before s ⊎ (recursion_at code marks loops id ≡ Some s))
      ⊎ (reached_at marks shown id ≡ Some s))
      (chosen_more (λ s. Before s ⊎ (recursion_at code marks loops id ≡ Some s))
      (λ s. reached_at marks shown id ≡ Some s)
      (first_of best (recursion_at code marks loops id)) (reached_at marks shown id)
      (chosen_more Before (λ s. recursion_at code marks loops id ≡ Some s) best
      (recursion_at code marks loops id) h
      (all_of (recursion_at code marks loops id)))
      (all_of (reached_at marks shown id))))
    where
      to : (s : Shown) →
          ((Before s ⊎ (recursion_at code marks loops id ≡ Some s))
          ⊎ (reached_at marks shown id ≡ Some s)) ⊎ ShownAmong ids s →
          Before s ⊎ ShownAmong (id ∷ ids) s
      to s (inl (inl (inl k))) = inl k
      to s (inl (inl (inr e))) = inr (at_body id (Contains-head id ids) e)
      to s (inl (inr e)) = inr (at_node id (Contains-head id ids) e)
      to s (inr (at_body b c e)) = inr (at_body b (Contains-tail id ids b c) e)
      to s (inr (at_node b c e)) = inr (at_node b (Contains-tail id ids b c) e)

      from : (s : Shown) → Before s ⊎ ShownAmong (id ∷ ids) s →
          ((Before s ⊎ (recursion_at code marks loops id ≡ Some s))
          ⊎ (reached_at marks shown id ≡ Some s)) ⊎ ShownAmong ids s
      from s (inl k) = inl (inl (inl k))
      from s (inr (at_body b c e)) =
          ⊎_elim
          (λ (q : id ≡ b).
          inl (inl (inr (subst (λ m. recursion_at code marks loops m ≡ Some s) (sym q) e))))
          (λ d. inr (at_body b d e)) (Contains-cases id ids b c)
      from s (inr (at_node b c e)) =
          ⊎_elim
          (λ (q : id ≡ b). inl (inr (subst (λ m. reached_at marks shown m ≡ Some s) (sym q) e)))
          (λ d. inr (at_node b d e)) (Contains-cases id ids b c)
