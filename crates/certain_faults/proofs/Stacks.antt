-- What is known of the operands of a frame, the last one first; and when one stack knows no more than another one.
use Rattle.std.proofs.Common.{◌≡◌, ℕ, zero, suc, List, [], ◌∷◌, ◌⊎◌, inl, inr, refl, ap, ◌∙◌}
use Rattle.certain_faults.specs.declared.known.Known.{Known}
use Rattle.certain_faults.specs.declared.known.Known.TheVariants.{Unknown, Exactly, Object}
use Rattle.certain_faults.specs.declared.known.Left.{Left}
use Rattle.certain_faults.specs.declared.known.Left.TheVariants.{Forgets, Zero, One, Two, Four}
use Rattle.certain_faults.specs.Known.{unary_known, binary_known}

-- ---- stacks

abbrev pub Stack : Type 0
Stack = ℕ → Known

abbrev pub nothing : Stack
nothing = λ n. Unknown

abbrev pub put : Known → Stack → Stack
put k s = λ n. elim n as (λ z. Known) [ zero ↦ k | suc m ↦ s m ]

abbrev pub taken : Stack → Stack
taken s = λ n. s (suc n)

abbrev pub dropped : ℕ → Stack → Stack
dropped zero s = s
dropped (suc n) s = taken (dropped n s)

pub dropped_taken : (n : ℕ) (s : Stack) → dropped n (taken s) ≡ taken (dropped n s)
dropped_taken zero s = refl
dropped_taken (suc n) s = ap taken (dropped_taken n s)

-- behind a node, and behind several nodes
unfoldable pub with_left : Left → Stack → Stack
with_left Forgets s = nothing
with_left Zero s = s
with_left (One a) s = put a s
with_left (Two a b) s = put b (put a s)
with_left (Four a b c d) s = put d (put c (put b (put a s)))

abbrev pub with_all : (ℕ → Left) → List ℕ → Stack → Stack
with_all left [] s = s
with_all left (x ∷ xs) s = with_all left xs (with_left (left x) s)

-- ---- what is known

abbrev pub NoMore : Known → Known → Type 0
NoMore a b = (a ≡ Unknown) ⊎ (a ≡ b)

pub record Less (s t : Stack) : Type 0 where
  pub is : (n : ℕ) → NoMore (s n) (t n)

pub less_same : (s : Stack) → Less s s
less_same s = record { is = λ n. inr refl }

pub less_nothing : (s : Stack) → Less nothing s
less_nothing s = record { is = λ n. inl refl }

pub less_then : (s t u : Stack) → Less s t → Less t u → Less s u
less_then s t u a b = record { is = λ n. go n (a.is n) (b.is n) }
  where
    go : (n : ℕ) → NoMore (s n) (t n) → NoMore (t n) (u n) → NoMore (s n) (u n)
    go n (inl e) k = inl e
    go n (inr e) (inl k) = inl (e ∙ k)
    go n (inr e) (inr k) = inr (e ∙ k)

pub less_top : (a b : Known) (s t : Stack) → NoMore a b → Less s t → Less (put a s) (put b t)
less_top a b s t top h = record { is = λ n. go n }
  where
    go : (n : ℕ) → NoMore (put a s n) (put b t n)
    go zero = top
    go (suc n) = h.is n

pub less_put : (k : Known) (s t : Stack) → Less s t → Less (put k s) (put k t)
less_put k s t h = less_top k k s t (inr refl) h

pub less_unknown : (k : Known) (s t : Stack) → Less s t → Less (put Unknown s) (put k t)
less_unknown k s t h = less_top Unknown k s t (inl refl) h

pub less_taken : (s t : Stack) → Less s t → Less (taken s) (taken t)
less_taken s t h = record { is = λ n. h.is (suc n) }

pub less_dropped : (count : ℕ) (s t : Stack) → Less s t → Less (dropped count s) (dropped count t)
less_dropped zero s t h = h
less_dropped (suc count) s t h =
    less_taken (dropped count s) (dropped count t) (less_dropped count s t h)

pub less_left : (l : Left) (s t : Stack) → Less s t → Less (with_left l s) (with_left l t)
unfolding with_left
less_left Forgets s t h = less_nothing nothing
less_left Zero s t h = h
less_left (One a) s t h = less_put a s t h
less_left (Two a b) s t h = less_put b (put a s) (put a t) (less_put a s t h)
less_left (Four a b c d) s t h =
    less_put d (put c (put b (put a s))) (put c (put b (put a t)))
    (less_put c (put b (put a s)) (put b (put a t))
    (less_put b (put a s) (put a t) (less_put a s t h)))

pub less_all : (left : ℕ → Left) (xs : List ℕ) (s t : Stack) → Less s t →
    Less (with_all left xs s) (with_all left xs t)
less_all left [] s t h = h
less_all left (x ∷ xs) s t h =
    less_all left xs (with_left (left x) s) (with_left (left x) t) (less_left (left x) s t h)

-- ---- operators

pub unary_no_more : (operator : ℕ) (a b : Known) → NoMore a b →
    NoMore (unary_known operator a) (unary_known operator b)
unfolding unary_known
unary_no_more operator a b (inl e) = inl (ap (unary_known operator) e)
unary_no_more operator a b (inr e) = inr (ap (unary_known operator) e)

right_unknown : (operator : ℕ) (a : Known) → binary_known operator a Unknown ≡ Unknown
unfolding binary_known
right_unknown operator Unknown = refl
right_unknown operator (Exactly v) = refl
right_unknown operator Object = refl

pub binary_no_more : (operator : ℕ) (a b c d : Known) → NoMore a b → NoMore c d →
    NoMore (binary_known operator a c) (binary_known operator b d)
unfolding binary_known
binary_no_more operator a b c d (inl e) k = inl (ap (λ x. binary_known operator x c) e)
binary_no_more operator a b c d (inr e) (inl k) =
    inl (ap (binary_known operator a) k ∙ right_unknown operator a)
binary_no_more operator a b c d (inr e) (inr k) =
    inr (ap (λ x. binary_known operator x c) e ∙ ap (binary_known operator b) k)
