use Rattle.std.proofs.Common.{◌≡◌, refl}
use Rattle.std.specs.Prelude.{Some, slice_get}
use Rattle.std.proofs.lemmas.Option.{slice_get_read}
use Rattle.region_heap.proofs.makers.note_object.Goals as goal

pub returns-clause-noted : goal.returns-clause-noted
returns-clause-noted c =
    let is : slice_get c.args.areas.now.items c.args.k ≡ Some c.index-row.result.now =
    slice_get_read _ _ _ _ refl c.requires.there c.index-row.ensures in
    record { row = c.index-row.result.now; is = is; areas_are = refl; objects_are = c.push_reserved.ensures.items }
