-- An object is made: the words keep what the memory of the run is then.
use Rattle.std.specs.List.{sum_by}
use Rattle.std.proofs.Common.{◌≡◌, ◌∙◌, ◌+◌, ◌*◌, ◌≤◌, List, [], ◌∷◌, length, ap, arith, length-append, length-set}
use Rattle.region_heap.specs.declared.rows.ObjectRow.{ObjectRow}
use Rattle.region_heap.specs.Kept.{IsKept, all_live_bytes, live_bytes, row_bytes}
use Rattle.region_heap.specs.Rows.{end_after, object_rows}
use Rattle.region_heap.proofs.Opening.{mark_within}
use Rattle.region_heap.proofs.RowChanges.{few_rows}
use Rattle.region_heap.proofs.Stacks.{used_within}
use Rattle.region_heap.proofs.Sums.{live_more}
use Rattle.region_heap.proofs.NewObject.{Making, after, made, all, test, rows, listing, is_open, bytes, was, row_was}
use Rattle.region_heap.proofs.NewObjectLies.{laid, placed, apart, inside}
use Rattle.region_heap.proofs.NewObjectRows.{each_row, has_row, in_order, based, stack, sums, listed}

module _ (making : Making) where
  pub made_kept : IsKept making.us (rows making) (listing making) (after making)
  made_kept =
      record {
        firsts = omega (arith, making.kept.firsts, length-append making.past.firsts (making.row.mark ∷ []), length-append (all making) ((made making) ∷ []));
        laid = λ p o l. laid making p o (was making p o l);
        placed = λ p o l. placed making p o (was making p o l);
        apart = λ p q x y h lx ly. apart making p q x y h (was making p x lx) (was making q y ly);
        listed = listed making;
        inside = inside making;
        rows = λ i x e. each_row making i x (row_was making i x e);
        has_row = has_row making;
        in_order = λ i j x y h ex ey. in_order making i j x y h (row_was making i x ex) (row_was making j y ey);
        stacked = (stack making).0;
        based = λ i x e. based making i x (row_was making i x e);
        end = omega (arith, (stack making).1, making.kept.end, making.laid_out.within.long);
        reserved = omega (arith, making.kept.reserved, (stack making).1);
        open_rows = length-set making.areas making.k making.next ∙ making.kept.open_rows;
        live = omega (arith, live_more (all making) (test making) (made making) (is_open making), making.kept.live, sums making);
      }

  -- there is room for one more row
  pub room_for_row : 2 * length making.objects + 2 ≤ length making.ws
  unfolding all_live_bytes
  room_for_row =
      let few : 16 * length making.objects ≤ sum_by row_bytes making.areas = few_live in
      let all_used : sum_by row_bytes (rows making) + 8 * 0 ≤ 8 * end_after 0 (rows making) =
      used_within 0 (rows making) (stack making).0 (λ i x e. mark_within (after making).contents x (each_row making i x (row_was making i x e))) in
      omega (arith, few, all_used, sums making, (stack making).1, making.kept.end, bytes making)
    where
      few_live : 16 * length making.objects ≤ sum_by row_bytes making.areas
      few_live =
          let h = few_rows (test making) 0 (all making) making.past.firsts in
          let long : length making.objects ≡ length (object_rows (test making) 0 (all making) making.past.firsts) =
          ap (λ (xs : List ObjectRow). length xs) making.kept.listed in
          let live : sum_by (live_bytes (test making)) (all making) ≡ sum_by row_bytes making.areas = making.kept.live in
          omega (arith, h, long, live)
