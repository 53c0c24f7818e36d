-- What a heap keeps after each of its changes.
use Rattle.std.specs.Prelude.{slice_set}
use Rattle.std.proofs.Common.{◌≡◌, ◌∙◌, ℕ, ◌/◌, ◌≤◌, List, [], length, refl, ap, sym, arith, length-set, None, Some, Bor}
use Rattle.scj_base.specs.declared.values.Value.{Value}
use Rattle.scj_model.specs.State.{Object}
use Rattle.scj_model.specs.Apply.{with_ceiling}
use Rattle.region_heap.specs.declared.changes.Change.TheVariants.{Begun, SetSlot, SetCeiling, SetStatic}
use Rattle.region_heap.specs.declared.rows.AreaRow.{AreaRow}
use Rattle.region_heap.specs.declared.rows.ObjectRow.{ObjectRow}
use Rattle.region_heap.specs.Contents.{Contents, changing_object, setting_static, with_value}
use Rattle.region_heap.specs.History.{Past, after}
use Rattle.region_heap.specs.Kept.{IsCounted, IsKept, all_live_bytes, reserved_bytes}
use Rattle.region_heap.specs.Rows.{object_rows}
use Rattle.region_heap.specs.Words.{Words}
use Rattle.region_heap.specs.Written.{IsChangedIn, there, nowhere}
use Rattle.region_heap.proofs.ChangedKept.{changed_kept}
use Rattle.region_heap.proofs.Lists.{changed_long}

pub few_words : (bytes areas objects : ℕ) (values : List Value) (ws : Words) (m : Contents) →
    IsCounted bytes areas objects values ws m → length ws ≤ 8388608
few_words bytes areas objects values ws m c = omega (arith, c.words, c.most)

-- ---- at first

pub nothing_kept : (ws : Words) (store : ℕ) (statics : List Value) →
    IsKept ws [] [] (record {
      contents = record { store = store; areas = []; objects = []; statics = statics };
      firsts = [];
    })
unfolding object_rows reserved_bytes all_live_bytes
nothing_kept ws store statics =
    record {
      firsts = refl;
      laid = λ p o l. absurd (let f : None ≡ Some o = l.found in cc);
      placed = λ p o l. absurd (let f : None ≡ Some o = l.found in cc);
      apart = λ p q x y h l k. absurd (let f : None ≡ Some x = l.found in cc);
      listed = refl;
      inside = λ p o e. absurd (cc);
      rows = λ k row e. absurd (cc);
      has_row = λ a t. absurd (cc);
      in_order = λ i j x y h e f. absurd (cc);
      stacked = tt;
      based = λ k row e. absurd (cc);
      end = omega arith;
      reserved = refl;
      open_rows = refl;
      live = refl;
    }

-- ---- an object or a static field is changed

module _ (bytes area_count object_count : ℕ) (values : List Value) (ws us : Words) (m : Contents)
    (counted : IsCounted bytes area_count object_count values ws m) where
  pub counted_changed : (r : ℕ) (change : Object → Object) → length us ≡ length ws →
      IsCounted bytes area_count object_count values us (changing_object m r change)
  counted_changed r change long =
      record {
        store = counted.store;
        most = counted.most;
        words = long ∙ counted.words;
        areas = counted.areas;
        objects = counted.objects ∙ sym (changed_long change r m.objects);
        statics = counted.statics;
      }

pub changed_words : (ws us : Words) (rows : List ObjectRow) (r : ℕ) (change : Object → Object) →
    IsChangedIn ws rows r change us → length us ≡ length ws
changed_words ws us rows r change (there first h c) = c.within.long
changed_words ws us rows r change (nowhere h e) = ap (λ (xs : Words). length xs) e

pub slot_kept : (ws us : Words) (areas : List AreaRow) (objects : List ObjectRow) (m : Past) (r slot : ℕ)
    (value : Value) →
    IsKept ws areas objects m → IsChangedIn ws objects r (with_value slot value) us →
    IsKept us areas objects (record m { contents = changing_object m.contents r (with_value slot value) })
slot_kept ws us areas objects m r slot value kept done =
    changed_kept ws us areas objects m r (with_value slot value) kept (λ o. refl)
    (λ o l. length-set o.slots slot value) done

pub ceiling_kept : (ws us : Words) (areas : List AreaRow) (objects : List ObjectRow) (m : Past) (r ceiling : ℕ) →
    IsKept ws areas objects m → IsChangedIn ws objects r (with_ceiling ceiling) us →
    IsKept us areas objects (record m { contents = changing_object m.contents r (with_ceiling ceiling) })
ceiling_kept ws us areas objects m r ceiling kept done =
    changed_kept ws us areas objects m r (with_ceiling ceiling) kept (λ o. refl) (λ o l. refl) done

-- ---- what each change makes of the past

pub after_begun : (m : Past) (store : ℕ) (statics : Bor (List Value)) → after m (Begun store statics)
    ≡ record {
      contents = record { store = store; areas = []; objects = []; statics = statics.now };
      firsts = [];
    }
unfolding after
after_begun m store statics = refl

pub after_slot : (m : Past) (r slot : ℕ) (value : Bor Value) →
    after m (SetSlot r slot value) ≡ record m { contents = changing_object m.contents r (with_value slot value.now) }
unfolding after
after_slot m r slot value = refl

pub after_ceiling : (m : Past) (r ceiling : ℕ) →
    after m (SetCeiling r ceiling) ≡ record m { contents = changing_object m.contents r (with_ceiling ceiling) }
unfolding after
after_ceiling m r ceiling = refl

pub after_static : (m : Past) (index : ℕ) (value : Bor Value) →
    after m (SetStatic index value) ≡ record m { contents = setting_static m.contents index value.now }
unfolding after
after_static m index value = refl

pub counted_nothing : (store : ℕ) (statics : List Value) (ws : Words) → store ≤ 67108864 → length ws ≡ store / 8 →
    IsCounted store 0 0 statics ws (record { store = store; areas = []; objects = []; statics = statics })
counted_nothing store statics ws most long =
    record { store = refl; most = most; words = long; areas = refl; objects = refl; statics = refl }

pub static_kept : (ws : Words) (areas : List AreaRow) (objects : List ObjectRow) (m : Past) (index : ℕ)
    (value : Value) →
    IsKept ws areas objects m → IsKept ws areas objects (record m { contents = setting_static m.contents index value })
static_kept ws areas objects m index value kept =
    record {
      firsts = kept.firsts;
      laid = λ p o l. kept.laid p o (record { found = l.found; is_open = l.is_open });
      placed = λ p o l. kept.placed p o (record { found = l.found; is_open = l.is_open });
      apart = λ p q x y h lx ly. kept.apart p q x y h (record { found = lx.found; is_open = lx.is_open })
          (record { found = ly.found; is_open = ly.is_open });
      listed = kept.listed;
      inside = kept.inside;
      rows = λ k row e. let r = kept.rows k row e in
          record {
            area = r.area;
            is = r.is;
            is_open = r.is_open;
            scope = r.scope;
            bytes = r.bytes;
            used = r.used;
            room = r.room;
            words = r.words;
          };
      has_row = kept.has_row;
      in_order = kept.in_order;
      stacked = kept.stacked;
      based = kept.based;
      end = kept.end;
      reserved = kept.reserved;
      open_rows = kept.open_rows;
      live = kept.live;
    }

pub counted_static : (bytes area_count object_count : ℕ) (values : List Value) (ws : Words) (m : Contents) (index : ℕ)
    (value : Value) → IsCounted bytes area_count object_count values ws m →
    IsCounted bytes area_count object_count (slice_set values index value) ws (setting_static m index value)
counted_static bytes area_count object_count values ws m index value c =
    record {
      store = c.store;
      most = c.most;
      words = c.words;
      areas = c.areas;
      objects = c.objects;
      statics = ap (λ (xs : List Value). slice_set xs index value) c.statics;
    }
