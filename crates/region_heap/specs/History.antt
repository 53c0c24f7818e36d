-- The memory of a run as it comes from one change after the other, and the word at which each object was made.
use Rattle.std.specs.Prelude.{ℕ, List, [], ◌∷◌, ◌++◌, replicate}
use Rattle.scj_model.specs.Apply.{with_ceiling, with_first}
use Rattle.region_heap.specs.declared.changes.Change.{Change}
use Rattle.region_heap.specs.declared.changes.Change.TheVariants.{Begun, Opened, Closed, Made, MadeArray, SetSlot, SetHidden, SetCeiling, SetStatic}
use Rattle.region_heap.specs.Contents.{Contents, changing_object, closing_area, hidden_slots, making_object, opening_area, setting_static, with_value}

-- what the memory holds, and the first word of each object, also of those that are over
pub record Past : Type 0 where
  pub contents : Contents
  pub firsts : List ℕ

abbrev pub unbegun : Past
unbegun = record { contents = record { store = 0; areas = []; objects = []; statics = [] }; firsts = [] }

unfoldable pub after : Past → Change → Past
after m (Begun store statics) =
    record { contents = record { store = store; areas = []; objects = []; statics = statics.now }; firsts = [] }
after m (Opened scope parent bytes) = record m { contents = opening_area m.contents scope parent bytes }
after m (Closed area) = record m { contents = closing_area m.contents area }
after m (Made class area slots first) =
    record { contents = making_object m.contents class area slots.now; firsts = m.firsts ++ first ∷ [] }
after m (MadeArray class area count value first) =
    record {
      contents = making_object m.contents class area (replicate count value.now);
      firsts =
          m.firsts ++ first ∷ [];
    }
after m (SetSlot r slot value) = record m { contents = changing_object m.contents r (with_value slot value.now) }
after m (SetHidden r hidden) = record m {
  contents = changing_object m.contents r (with_first
      (hidden_slots hidden.now));
}
after m (SetCeiling r ceiling) = record m { contents = changing_object m.contents r (with_ceiling ceiling) }
after m (SetStatic index value) = record m { contents = setting_static m.contents index value.now }
