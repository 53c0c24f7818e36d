use Rattle.std.specs.Prelude.{List, drop}
use Rattle.std.proofs.Common.{◌≡◌, ◌∙◌, ◌+◌, ℕ, ap, arith, sym}
use Rattle.scj_model.specs.Memory.{rounded_up}
use Rattle.region_heap.specs.declared.open_areas.Area.{Area}
use Rattle.region_heap.specs.OpenAreas.{open_areas}
use Rattle.area_tables.specs.Rows.{reserved_by}
use Rattle.area_tables.proofs.OpenLists.{drop_at, drop_past, is_within}
use Rattle.area_tables.proofs.looks.reserved_in.Goals as goal

pub loop-area-smaller : goal.loop-area-smaller
loop-area-smaller c =
    let within = is_within (open_areas c.args.memory.now.objects 0 c.args.memory.now.areas) c.loop-area.i c.in-Some.area
    c.in-Some.ensures in
    omega (arith, within, c.in-Some-checked_add-2.ensures)

pub loop-area-preserved : goal.loop-area-preserved
unfolding reserved_by
loop-area-preserved c =
    let listed : List Area = open_areas c.args.memory.now.objects 0 c.args.memory.now.areas in
    let within = is_within listed c.loop-area.i c.in-Some.area c.in-Some.ensures in
    let next : c.in-Some-checked_add-2.next ≡ c.loop-area.i + 1 = omega (arith, c.in-Some-checked_add-2.ensures) in
    let parts : reserved_by (drop c.loop-area.i listed)
    ≡ rounded_up c.in-Some.area.bytes + reserved_by (drop c.in-Some-checked_add-2.next listed) =
    ap (λ (found : List Area). reserved_by found) (drop_at listed c.loop-area.i c.in-Some.area c.in-Some.ensures)
    ∙ ap (λ (n : ℕ). rounded_up c.in-Some.area.bytes + reserved_by (drop n listed)) (sym next) in
    record {
      left = omega (arith, parts, c.in-Some-checked_add.ensures, c.in_ok-rounded_up.ensures, c.loop-area.invariant.left);
      within = omega (arith, within, next);
    }

pub returns : goal.returns
unfolding reserved_by
returns c =
    let listed : List Area = open_areas c.args.memory.now.objects 0 c.args.memory.now.areas in
    let none = ap (λ (found : List Area). reserved_by found) (drop_past listed c.loop-area.i c.in_default.ensures) in
    omega (arith, none, c.loop-area.invariant.left)
