use Rattle.std.proofs.Common.{◌≡◌, ◌≤◌, ◌<◌, ◌+◌, ℕ, List, sym, subst, arith}
use Rattle.std.specs.Prelude.{slice_index}
use Rattle.response_bounds.specs.declared.rows.Declared.{Declared}
use Rattle.response_bounds.specs.Levels.{NoneBelow, added_at, level_demand}
use Rattle.response_bounds.specs.Rows.{AreDeclared}
use Rattle.response_bounds.proofs.Levels.{demand_added, none_further, none_to_demand}
use Rattle.response_bounds.proofs.sweep.further.Goals as goal

to_demand : (rows : List Declared) (level x d : ℕ) → AreDeclared rows → d ≡ level_demand rows level x →
    NoneBelow rows level x → NoneBelow rows level d
to_demand rows level x d declared e h =
    subst (λ k. NoneBelow rows level k) (sym e) (none_to_demand rows level x declared h)

looked_through : (rows : List Declared) (level x d r : ℕ) (added now : List ℕ) → AreDeclared rows →
    d ≡ level_demand rows level x → now ≡ added →
    ((k : ℕ) → slice_index added k ≤ added_at rows level (x + k)) →
    ((demand : ℕ → ℕ) → d ≤ demand x → ((k : ℕ) → demand (x + k) + slice_index now k ≤ demand (x + k + 1)) →
    (y : ℕ) → x ≤ y → y < r → y < demand y) →
    NoneBelow rows level x → NoneBelow rows level r
looked_through rows level x d r added now declared e same cells looked h =
    none_further rows level x r h
    (looked (level_demand rows level) (omega (arith, e))
    (λ k. demand_added rows level (x + k) (slice_index now k) declared
    (subst (λ (xs : List ℕ). slice_index xs k ≤ added_at rows level (x + k)) (sym same) (cells k))))

pub returns-then-demand-units-ge-FAR-clause-none : goal.returns-then-demand-units-ge-FAR-clause-none
returns-then-demand-units-ge-FAR-clause-none c =
    λ h. to_demand c.args.rows.now c.args.level c.args.units c.args.demand c.requires.declared c.requires.demand h

pub returns-clause-none : goal.returns-clause-none
returns-clause-none c =
    λ h. looked_through c.args.rows.now c.args.level c.args.units c.args.demand c.look_on.result c.in_ok-added.added.items
    c.deref.result.now c.requires.declared c.requires.demand c.deref.ensures.value c.in_ok-added.ensures.at_most
    c.look_on.ensures.none h
