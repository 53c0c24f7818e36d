-- The highest frame, lent.
use borrow.Follows.Closed.{read_of}
use Rattle.std.proofs.Common.{◌≡◌, ℕ, ◌-◌, ◌<◌, ◌↔◌, List, [], ◌∷◌, Option, Some, None, IsSome, IfSome, IfNone, MutBor, length, reverse, set, get_or, refl, ap, sym, ◌∙◌, take, arith}
use Rattle.std.specs.Option.{ghost_name_of}
use Rattle.job_frames.specs.Frames.{StoredFrame, below}
use Rattle.job_frames.proofs.Reversed.{last_apart, last_written, others_below}

pub read_same : (o : Option (MutBor StoredFrame)) (F G : StoredFrame → List StoredFrame) (v : List StoredFrame) →
    (IsSome o → (w : StoredFrame) → F w ≡ G w) → read_of (ghost_name_of o) F v ≡ read_of (ghost_name_of o) G v
read_same (Some r) F G v h = λ t. read_of (ghost_name_of (Some r)) (λ (w : StoredFrame). h refl w t) v
read_same None F G v h = refl

pub top_lent : (items : List StoredFrame) (n : ℕ) → n ≡ length items → (o : Option (MutBor StoredFrame)) →
    (IsSome o ↔ (0 < n)) →
    read_of (ghost_name_of o) (λ (w : StoredFrame). reverse (set items (n - 1) w)) (reverse items)
    ≡ read_of (ghost_name_of o) (λ (w : StoredFrame). w ∷ below (reverse items)) (reverse items)
top_lent items n e o h =
    read_same o (λ (w : StoredFrame). reverse (set items (n - 1) w)) (λ (w : StoredFrame). w ∷ below (reverse items))
    (reverse items)
    (λ some w.
    ap (λ (m : ℕ). reverse (set items (m - 1) w)) e ∙ last_written items w (omega (arith, e, h.0 some)))

pub top_is : (items : List StoredFrame) (n : ℕ) → n ≡ length items → (o : Option (MutBor StoredFrame)) →
    (IsSome o ↔ (0 < n)) → IfSome o (λ x. x.now ≡ get_or items (n - 1) x.now) →
    IfSome o (λ x. reverse items ≡ x.now ∷ below (reverse items))
top_is items n e (Some x) h v =
    last_apart items x.now (omega (arith, e, h.0 refl))
    ∙ ap (λ (m : ℕ). get_or items (m - 1) x.now ∷ reverse (take (length items - 1) items)) (sym e)
    ∙ ap (λ y. y ∷ reverse (take (length items - 1) items)) (sym v)
    ∙ ap (λ below. x.now ∷ below) (others_below items)
top_is items n e None h v = tt

pub no_top : (items : List StoredFrame) (n : ℕ) → n ≡ length items → (o : Option (MutBor StoredFrame)) →
    (IsSome o ↔ (0 < n)) → IfNone o (reverse items ≡ [])
no_top items n e (Some x) h = tt
no_top [] n e None h = refl
no_top (x ∷ xs) n e None h = absurd (cc (h.1 (omega (arith, e))))
