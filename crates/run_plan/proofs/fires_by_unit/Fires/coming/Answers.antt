use Rattle.std.proofs.Common.{◌≡◌, ◌∙◌, [], arith, drop, sym, take_while}
use Rattle.std.proofs.lemmas.Bool.{eqb-true}
use Rattle.std.proofs.lemmas.List.{nil_from_length}
use Rattle.std.proofs.lemmas.List.Sorted.{IsNonDecreasingBy-from_sort}
use Rattle.run_plan.specs.Index.{AreByUnit, count_before, from_mission, from_start}
use Rattle.run_plan.proofs.FireOrder.{before_fits, same_before, sorted_since, sorted_starting, starts, unit_of}
use Rattle.run_plan.proofs.fires_by_unit.Fires.coming.Goals as goal

pub due_from-starting-requires : goal.due_from-starting-requires
due_from-starting-requires c =
    let start : AreByUnit (from_start c.args.self.now) c.as_slice.result.now = rw (← c.self.view_is, c.as_slice.ensures.value) c.self.invariant.1 in
    omega (arith, c.requires, same_before _ _ start c.args.unit, before_fits c.as_slice.result.now c.args.unit)

pub due_since-of_mission-requires : goal.due_since-of_mission-requires
due_since-of_mission-requires c =
    let mission : AreByUnit (from_mission c.args.self.now) c.as_slice-2.result.now = rw (← c.self.view_is, c.as_slice-2.ensures.value) c.self.invariant.2 in
    IsNonDecreasingBy-from_sort unit_of _ mission.ordered

pub returns-then-is_empty : goal.returns-then-is_empty
returns-then-is_empty c =
    let start : AreByUnit (from_start c.args.self.now) c.as_slice.result.now = rw (← c.self.view_is, c.as_slice.ensures.value) c.self.invariant.1 in
    let mission : AreByUnit (from_mission c.args.self.now) c.as_slice-2.result.now = rw (← c.self.view_is, c.as_slice-2.ensures.value) c.self.invariant.2 in
    let none : c.due_since-of_mission.result.now ≡ [] = nil_from_length _ (eqb-true _ _ (sym c.is_empty.ensures ∙ c.if-is_empty.true)) in
    rw (c.due_from-starting.ensures, c.requires)
    (sorted_starting c.args.origin c.args.unit c.args.self.now _ _ start mission (sym c.due_since-of_mission.ensures ∙ none))

pub returns-then-is_empty-2 : goal.returns-then-is_empty-2
returns-then-is_empty-2 c =
    let start : AreByUnit (from_start c.args.self.now) c.as_slice.result.now = rw (← c.self.view_is, c.as_slice.ensures.value) c.self.invariant.1 in
    let mission : AreByUnit (from_mission c.args.self.now) c.as_slice-2.result.now = rw (← c.self.view_is, c.as_slice-2.ensures.value) c.self.invariant.2 in
    let none : c.due_from-starting.result.now ≡ [] = nil_from_length _ (eqb-true _ _ (sym c.is_empty-else-is_empty.ensures ∙ c.if-is_empty-2.true)) in
    let due : take_while (starts c.args.origin c.args.unit) (drop (count_before (from_start c.args.self.now) c.args.unit) c.as_slice.result.now) ≡ [] = rw (← c.requires) (sym c.due_from-starting.ensures ∙ none) in
    rw c.due_since-of_mission.ensures (sorted_since c.args.origin c.args.unit c.args.self.now _ _ start mission due)
