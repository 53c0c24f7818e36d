use Rattle.std.specs.Prelude.{List, drop}
use Rattle.std.proofs.Common.{◌≡◌, ◌∙◌, ◌∷◌, ◌+◌, ℕ, ap, arith, sym}
use Rattle.region_heap.specs.declared.open_areas.Area.{Area}
use Rattle.region_heap.specs.OpenAreas.{open_areas}
use Rattle.area_tables.specs.declared.rows.NeedRow.{NeedRow}
use Rattle.area_tables.specs.Rows.{all_used}
use Rattle.area_tables.proofs.OpenLists.{drop_at, drop_past, is_past, is_within}
use Rattle.area_tables.proofs.looks.note_all_used.Goals as goal

pub loop-area-smaller : goal.loop-area-smaller
loop-area-smaller c =
    let within = is_within (open_areas c.args.memory.now.objects 0 c.args.memory.now.areas) c.loop-area.i c.in-Some.area
    c.in-Some.ensures in
    omega (arith, within, c.in-Some-checked_add.ensures)

pub loop-area-preserved : goal.loop-area-preserved
unfolding all_used
loop-area-preserved c =
    let listed : List Area = open_areas c.args.memory.now.objects 0 c.args.memory.now.areas in
    let within = is_within listed c.loop-area.i c.in-Some.area c.in-Some.ensures in
    let next : c.in-Some-checked_add.next ≡ c.loop-area.i + 1 = omega (arith, c.in-Some-checked_add.ensures) in
    record {
      left = ap (λ (rows : List NeedRow). all_used (drop c.in-Some-checked_add.next listed) rows) c.note_used.ensures
          ∙ (ap (λ (n : ℕ). all_used (c.in-Some.area ∷ drop n listed) c.loop-area.rows.items) next
          ∙ (sym (ap (λ (found : List Area). all_used found c.loop-area.rows.items)
          (drop_at listed c.loop-area.i c.in-Some.area c.in-Some.ensures)) ∙ c.loop-area.invariant.left));
      within = omega (arith, within, next);
    }

pub returns-clause-noted : goal.returns-clause-noted
unfolding all_used
returns-clause-noted c =
    let listed : List Area = open_areas c.args.memory.now.objects 0 c.args.memory.now.areas in
    sym (ap (λ (found : List Area). all_used found c.loop-area.rows.items)
    (drop_past listed c.loop-area.i c.in_default.ensures)) ∙ c.loop-area.invariant.left

pub returns-clause-count : goal.returns-clause-count
returns-clause-count c =
    let listed : List Area = open_areas c.args.memory.now.objects 0 c.args.memory.now.areas in
    omega (arith, is_past listed c.loop-area.i c.in_default.ensures, c.loop-area.invariant.within)
