use Rattle.std.specs.Prelude.{List, OnOk}
use Rattle.std.proofs.Common.{◌≡◌, arith, subst, sym}
use Rattle.region_heap.specs.OpenAreas.{open_areas}
use Rattle.area_tables.specs.declared.rows.NeedRow.{NeedRow}
use Rattle.area_tables.proofs.Reporting.{newest_none, newest_some, none_newer}
use Rattle.area_tables.proofs.tables.AreaTable.note_newest.Goals as goal

pub returns-then-count-self-clause-rows : goal.returns-then-count-self-clause-rows
returns-then-count-self-clause-rows c =
    sym (none_newer (open_areas c.args.memory.now.objects 0 c.args.memory.now.areas) c.args.self.now.open_count
    c.args.self.now.rows.items (omega (arith, c.requires, c.if-count-self.true)))

pub returns-in-Some-clause-rows : goal.returns-in-Some-clause-rows
returns-in-Some-clause-rows c =
    subst (λ (rows : List NeedRow). OnOk c.note_opened.result (c.note_opened.new.rows.items ≡ rows))
    (sym (newest_some (open_areas c.args.memory.now.objects 0 c.args.memory.now.areas) c.args.self.now.open_count
    c.args.count c.args.self.now.rows.items c.requires (omega (arith, c.if-count-self.false)) c.in-Some.area
    c.in-Some.ensures))
    c.note_opened.ensures

pub returns-in-None-clause-rows : goal.returns-in-None-clause-rows
returns-in-None-clause-rows c =
    sym (newest_none (open_areas c.args.memory.now.objects 0 c.args.memory.now.areas) c.args.self.now.open_count
    c.args.count c.args.self.now.rows.items c.requires (omega (arith, c.if-count-self.false)) c.in-None.ensures)
