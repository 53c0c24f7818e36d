use Rattle.std.proofs.Common.{◌≡◌, ◌^◌, ◌<◌, arith, refl}
use Rattle.scj_model.specs.Memory.{rounded_up}
use Rattle.region_heap.specs.Rows.{end_after}
use Rattle.region_heap.proofs.Rounding.{rounded_whole}
use Rattle.region_heap.proofs.spaces.push_area.Goals as goal

pub returns-clause-pushed : goal.returns-clause-pushed
returns-clause-pushed c =
    let start : c.end_of-start.result ≡ end_after 0 c.args.areas.now.items =
    rw c.deref.ensures.value at c.end_of-start.ensures in
    let few : rounded_up c.args.bytes < 2 ^ 64 = omega (arith, c.requires.words) in
    let bytes : c.words_bytes.result ≡ rounded_up c.args.bytes = c.words_bytes.ensures few in
    record {
      row = _;
      is = c.push_reserved.ensures.items;
      area_is = refl;
      scope_is = refl;
      bytes_is = refl;
      start_is = start;
      mark_is = refl;
      end_is = omega (arith, bytes, rounded_whole c.args.bytes);
      base_is = refl;
    }
