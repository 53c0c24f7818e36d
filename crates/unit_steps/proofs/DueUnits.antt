-- A handler is not due before its first unit.
use Rattle.std.proofs.Common.{◌≡◌, ℕ, ◌<◌, ◌-◌, ◌%◌, ◌==◌, ◌&&◌, nat_lt, not, Bool, true, false, ap, arith, refl}
use Rattle.std.proofs.lemmas.Bool.{ne_eqb}
use Rattle.std.proofs.lemmas.Bool.Decides.{nat_tests}
use Rattle.scj_model.specs.declared.handlers.HandlerKind.{HandlerKind}
use Rattle.scj_model.specs.declared.handlers.HandlerKind.TheVariants.{Periodic, OneShot, Aperiodic}
use Rattle.scj_model.specs.Arrivals.{is_due_after}

pub not_due_before : (kind : HandlerKind) (first period unit : ℕ) → unit < first →
    is_due_after kind first period unit ≡ false
unfolding is_due_after
not_due_before Periodic first period unit before =
    let is_before : nat_lt unit first ≡ true = grind (arith, nat_tests) in
    ap (λ (b : Bool). not b && ((unit - first) % period == 0)) is_before
not_due_before OneShot first period unit before = ne_eqb unit first (λ e. omega (arith, e, before))
not_due_before Aperiodic first period unit before = refl
