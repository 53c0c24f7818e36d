-- The classes of arrays, behind those that have names.
use Rattle.std.proofs.Common.{◌≡◌, ℕ, ◌+◌, ◌-◌, ◌<◌, ◌≤◌, ◌==◌, length, refl, ap, arith, Some, None, Bool, true, false, not, ◌||◌, nat_lt, if◌then◌else◌}
use Rattle.std.proofs.lemmas.Bool.Decides.{nat_tests}
use Rattle.std.proofs.lemmas.Bool.{lt-ltb}
use Rattle.scj_rules.specs.Contexts.{Declarations}
use Rattle.scj_rules.specs.Layout.{element_kind}
use Rattle.object_layout.specs.Arrays.{kind_behind}

module _ (p : Declarations) (class count : ℕ) (named : count ≡ length p.names) where
  pub no_array : class < count → element_kind p class ≡ None
  unfolding element_kind
  no_array l = (let t : nat_lt class (length p.names) ≡ true = lt-ltb class (length p.names) (omega (arith, l, named))
      in rw t refl)

  pub kind_of_array : count ≤ class → kind_behind (class - count) count ≡ element_kind p class
  unfolding element_kind kind_behind
  kind_of_array l =
      let n : ℕ = length p.names in
      let t : nat_lt class n ≡ false = grind (arith, nat_tests, named, l) in
      let a : (class - count == 0) ≡ (class == n) = grind (arith, nat_tests, named, l) in
      let b : (class - count == 1) ≡ (class == n + 1) = grind (arith, nat_tests, named, l) in
      let d : nat_lt (class - count) (2 + count) ≡ nat_lt class (n + 2 + n) = grind (arith, nat_tests, named, l) in
      rw (t, a, b, d) refl
