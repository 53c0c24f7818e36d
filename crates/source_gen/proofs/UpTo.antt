-- Lines of numbers, one more at a time.
use Rattle.std.proofs.Common.{◌≡◌, ℕ, ◌+◌, List, ◌++◌, refl, sym, ap, ◌∙◌, append-nil, append_assoc, add-one}
use Rattle.source_gen.specs.Generated.{up_to}

one_more : (line : ℕ → List ℕ) (i : ℕ) → up_to line (i + 1) ≡ up_to line i ++ line (i + 1)
unfolding up_to
one_more line i = rw add-one refl

pub begun : (line : ℕ → List ℕ) (old : List ℕ) → old ≡ old ++ up_to line 0
unfolding up_to
begun line old = sym (append-nil old)

-- what stands there up to a number, and the line of the next number behind it
pub continued : (line : ℕ → List ℕ) (i : ℕ) (old : List ℕ) {now next : List ℕ} → now ≡ old ++ up_to line i →
    next ≡ now ++ line (i + 1) → next ≡ old ++ up_to line (i + 1)
continued line i old {now} {next} up_to_here here =
    here ∙ ap (λ (t : List ℕ). t ++ line (i + 1)) up_to_here ∙ append_assoc old (up_to line i) (line (i + 1))
    ∙ ap (λ (t : List ℕ). old ++ t) (sym (one_more line i))
