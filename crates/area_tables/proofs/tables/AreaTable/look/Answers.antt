use Rattle.std.specs.Prelude.{List, max}
use Rattle.std.proofs.Common.{◌∙◌, ℕ, ap}
use Rattle.region_heap.specs.OpenAreas.{open_areas}
use Rattle.area_tables.specs.declared.rows.NeedRow.{NeedRow}
use Rattle.area_tables.specs.Rows.{newest_noted}
use Rattle.area_tables.proofs.Reporting.{look_reports}
use Rattle.area_tables.proofs.tables.AreaTable.look.Goals as goal

pub returns : goal.returns
returns c = λ count s t needs reports goes areas objects.
    look_reports count s t needs c.args.self.now _ c.args.memory.now.objects c.args.memory.now.areas reports goes areas
    objects
    (c.in_ok-note_newest.ensures.rows
    ∙ ap (λ (rows : List NeedRow). newest_noted (open_areas c.args.memory.now.objects 0 c.args.memory.now.areas)
    c.args.self.now.open_count rows) c.in_ok-count.ensures.noted)
    c.in_ok-count.ensures.count
    (c.max-self.ensures
    ∙ (ap (λ (n : ℕ). max n c.in_ok-reserved.reserved) c.note_newest.ensures.reserved
    ∙ ap (λ (n : ℕ). max c.args.self.now.reserved n) c.in_ok-reserved.ensures))
