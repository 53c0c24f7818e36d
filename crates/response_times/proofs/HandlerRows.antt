-- The rows of handlers are within the limits.
use Rattle.std.proofs.Common.{◌≡◌, ◌≤◌, ℕ, zero, suc, List, [], ◌∷◌, length, All, Option, Some, refl, ap, subst, arith}
use Rattle.std.specs.Prelude.{slice_get, unwrap_or}
use Rattle.response_bounds.specs.declared.rows.Declared.{Declared}
use Rattle.response_bounds.specs.Rows.{AreDeclared, IsDeclared, most_rows}
use Rattle.response_times.specs.declared.handlers.HandlerClaim.{HandlerClaim}
use Rattle.response_times.specs.DeclaredOf.{IsHandler, rows_of, claims_of}

each_declared : (handlers : List HandlerClaim) → All IsHandler handlers → (k : ℕ) (row : Declared) →
    slice_get (rows_of handlers) k ≡ Some row → IsDeclared row
each_declared [] h k row e = absurd (cc (e))
each_declared (handler ∷ handlers) h zero row e =
    subst IsDeclared (ap (λ (o : Option Declared). unwrap_or o handler.row) e) (h zero handler (omega arith)).row
each_declared (handler ∷ handlers) h (suc k) row e =
    each_declared handlers (λ j d l. h (suc j) d (omega (arith, l))) k row e

pub rows_count : (handlers : List HandlerClaim) → length (rows_of handlers) ≡ length handlers
rows_count [] = refl
rows_count (handler ∷ handlers) = ap suc (rows_count handlers)

pub claims_count : (handlers : List HandlerClaim) → length (claims_of handlers) ≡ length (rows_of handlers)
claims_count [] = refl
claims_count (handler ∷ handlers) = ap suc (claims_count handlers)

pub are_declared : (handlers : List HandlerClaim) → 1 ≤ length handlers → length handlers ≤ most_rows →
    All IsHandler handlers → AreDeclared (rows_of handlers)
are_declared handlers some few h =
    let count : length (rows_of handlers) ≡ length handlers = rows_count handlers in
    record {
      some = omega (arith, count, some);
      few = omega (arith, count, few);
      each = each_declared handlers h;
    }
