use Rattle.std.proofs.Common.{ap, refl}
use Rattle.std.proofs.lemmas.Option.{slice_get_read}
use Rattle.region_heap.specs.declared.rows.AreaRow.{AreaRow}
use Rattle.region_heap.proofs.makers.mark_at.Goals as goal

pub returns : goal.returns
returns c =
    record {
      row = c.index-areas-k.result;
      is = slice_get_read _ _ _ _ refl c.requires c.index-areas-k.is;
      mark_is = ap (λ (z : AreaRow). z.mark) c.index-areas-k.is;
    }
