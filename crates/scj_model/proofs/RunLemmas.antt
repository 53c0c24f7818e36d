-- Lemmas on runs: one result, what more units tell, and when a handler is due.
use Rattle.std.proofs.Common.{◌≡◌, ◌↔◌, ◌<◌, ◌≤◌, ℕ, zero, suc, ◌+◌, ◌-◌, ◌*◌, ◌/◌, ◌%◌, ◌==◌, nat_lt, Bool, true, false, not, ◌&&◌, List, [], ◌++◌, Option, Some, None, if◌then◌else◌, refl, sym, ap, ◌∙◌, subst, arith}
use Rattle.std.specs.Prelude.{unwrap_or}
use Rattle.std.proofs.Math.Nat.{mod-eq-sub-div-mul, div-mul-le_self, mul-mod_left}
use Rattle.std.proofs.lemmas.Bool.Decides.{nat_tests}
use Rattle.std.proofs.lemmas.List.{append-nil, append_assoc}
use Rattle.scj_model.specs.declared.events.Event.{Event}
use Rattle.scj_model.specs.declared.handlers.HandlerKind.{HandlerKind}
use Rattle.scj_model.specs.declared.handlers.HandlerKind.TheVariants.{Periodic, OneShot, Aperiodic}
use Rattle.scj_model.specs.declared.handlers.HandlerRow.{HandlerRow}
use Rattle.scj_model.specs.Code.{Code}
use Rattle.scj_model.specs.Plan.{Plan}
use Rattle.scj_model.specs.State.{State}
use Rattle.scj_model.specs.Steps.{Step, reporting}
use Rattle.scj_model.specs.Arrivals.{is_due, is_due_after}
use Rattle.scj_model.specs.Choice.{Policy}
use Rattle.scj_model.specs.Run.{RunSoFar, has_ended, continued, one_more_unit, one_unit, run}

-- ---- one result

pub one_of : (o : Option Step) (a b : State) (es fs : List Event) → o ≡ Some (reporting a es) → o ≡ Some (reporting b fs) → (a ≡ b) × (es ≡ fs)
one_of o a b es fs h k =
    let e : Some (reporting a es) ≡ Some (reporting b fs) = sym h ∙ k in
    (ap (λ (r : Option Step). (unwrap_or r (reporting a es)).state) e, ap (λ (r : Option Step). (unwrap_or r (reporting a es)).events) e)

-- ---- more units tell more

abbrev pub Grows : RunSoFar → RunSoFar → Type 0
Grows before after = (more : List Event) × (after.events ≡ before.events ++ more)

continued_grows : (is_over : Bool) (r : RunSoFar) (o : Option Step) → Grows r (if is_over then r else continued r o)
unfolding continued
continued_grows true r o = ([], sym (append-nil r.events))
continued_grows false r None = ([], sym (append-nil r.events))
continued_grows false r (Some result) = (result.events, refl)

unit_grows : (code : Code) (plan : Plan) (policy : Policy) (r : RunSoFar) → Grows r (one_more_unit code plan policy r)
unfolding one_more_unit
unit_grows code plan policy r = continued_grows (has_ended r) r (one_unit code plan policy r.state)

grows_on : (a b c : RunSoFar) → Grows a b → Grows b c → Grows a c
grows_on a b c h k = (h.0 ++ k.0, k.1 ∙ (ap (λ (es : List Event). es ++ k.0) h.1 ∙ append_assoc a.events h.0 k.0))

pub run_grows : (code : Code) (plan : Plan) (policy : Policy) (n k : ℕ) → Grows (run code plan policy n) (run code plan policy (n + k))
unfolding run
run_grows code plan policy n zero =
    let e : n ≡ n + 0 = omega arith in
    subst (λ (m : ℕ). Grows (run code plan policy n) (run code plan policy m)) e ([], sym (append-nil (run code plan policy n).events))
run_grows code plan policy n (suc k) =
    let e : suc (n + k) ≡ n + suc k = omega arith in
    subst (λ (m : ℕ). Grows (run code plan policy n) (run code plan policy m)) e
    (grows_on (run code plan policy n) (run code plan policy (n + k)) (run code plan policy (suc (n + k)))
    (run_grows code plan policy n k)
    (unit_grows code plan policy (run code plan policy (n + k))))

-- ---- when a handler is due

due_tests : (p x b unit : ℕ) → (not (nat_lt unit b) && (x % p == 0)) ≡ true → (b ≤ unit) × (x % p ≡ 0)
due_tests p x b unit h = (grind (arith, nat_tests), grind (arith, nat_tests))

tests_due : (p x b unit : ℕ) → b ≤ unit → x % p ≡ 0 → (not (nat_lt unit b) && (x % p == 0)) ≡ true
tests_due p x b unit k l = grind (arith, nat_tests)

whole_periods : (p x : ℕ) → x % p ≡ 0 → x / p * p ≡ x
whole_periods p x h = omega (arith, h, mod-eq-sub-div-mul x p, div-mul-le_self x p)

due_after : (first period unit : ℕ) → is_due_after Periodic first period unit ≡ true → (i : ℕ) × (unit ≡ first + i * period)
unfolding is_due_after
due_after first period unit h =
    let t : (first ≤ unit) × ((unit - first) % period ≡ 0) = due_tests period (unit - first) first unit h in
    ((unit - first) / period, omega (arith, t.0, whole_periods period (unit - first) t.1))

after_due : (first period unit : ℕ) → 0 < period → (i : ℕ) × (unit ≡ first + i * period) → is_due_after Periodic first period unit ≡ true
unfolding is_due_after
after_due first period unit p h =
    let e : unit - first ≡ h.0 * period = omega (arith, h.1) in
    let z : (unit - first) % period ≡ 0 = ap (λ (x : ℕ). x % period) e ∙ mul-mod_left h.0 period in
    tests_due period (unit - first) first unit (omega (arith, h.1)) z

-- a handler of the kind is due as one of that kind is
due_by_kind : (kind : HandlerKind) (origin unit : ℕ) (row : HandlerRow) → row.kind ≡ kind → is_due origin unit row ≡ is_due_after kind (origin + row.start) row.period unit
unfolding is_due
due_by_kind kind origin unit row e = ap (λ (k : HandlerKind). is_due_after k (origin + row.start) row.period unit) e

pub periodic_due : (origin unit : ℕ) (row : HandlerRow) → row.kind ≡ Periodic → 0 < row.period → (is_due origin unit row ≡ true) ↔ ((i : ℕ) × (unit ≡ origin + row.start + i * row.period))
periodic_due origin unit row e p =
    let same : is_due origin unit row ≡ is_due_after Periodic (origin + row.start) row.period unit = due_by_kind Periodic origin unit row e in
    (λ h. due_after (origin + row.start) row.period unit (sym same ∙ h), λ h. same ∙ after_due (origin + row.start) row.period unit p h)

one_shot_due_at : (first period unit : ℕ) → (is_due_after OneShot first period unit ≡ true) ↔ (unit ≡ first)
unfolding is_due_after
one_shot_due_at first period unit = (λ h. grind (arith, nat_tests), λ h. grind (arith, nat_tests))

pub one_shot_due : (origin unit : ℕ) (row : HandlerRow) → row.kind ≡ OneShot → (is_due origin unit row ≡ true) ↔ (unit ≡ origin + row.start)
one_shot_due origin unit row e =
    let same : is_due origin unit row ≡ is_due_after OneShot (origin + row.start) row.period unit = due_by_kind OneShot origin unit row e in
    (λ h. (one_shot_due_at (origin + row.start) row.period unit).0 (sym same ∙ h), λ h. same ∙ (one_shot_due_at (origin + row.start) row.period unit).1 h)

pub aperiodic_due : (origin unit : ℕ) (row : HandlerRow) → row.kind ≡ Aperiodic → is_due origin unit row ≡ false
unfolding is_due_after
aperiodic_due origin unit row e = due_by_kind Aperiodic origin unit row e
