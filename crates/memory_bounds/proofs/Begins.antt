-- START: the first frame of a release, in an area that is empty and large enough.
use Rattle.std.specs.Prelude.{Option, Some, None, slice_get, if◌then◌else◌, map, filter, sum}
use Rattle.std.proofs.Common.{◌≡◌, ℕ, suc, ◌<◌, ◌≤◌, List, [], ◌∷◌, length, Bool, true, false, ◌==◌, refl, sym, ◌∙◌, ap, subst, arith}
use Rattle.std.proofs.lemmas.Bool.Decides.{nat_tests}
use Rattle.std.proofs.lemmas.Option.{slice_get_within}
use Rattle.scj_base.specs.declared.faults.RunFault.TheVariants.{StoreFull}
use Rattle.scj_rules.specs.Words.{◌>>=◌}
use Rattle.scj_rules.specs.Bodies.{class_position}
use Rattle.scj_rules.specs.Layout.{size_with_slots}
use Rattle.scj_rules.specs.declared.views.Body.{Body}
use Rattle.accepted_laws.proofs.Lists.{get_left, get_last}
use Rattle.accepted_laws.proofs.Tools.{some_inj}
use Rattle.scj_model.specs.declared.handlers.HandlerRow.{HandlerRow}
use Rattle.scj_model.specs.Code.{Code}
use Rattle.scj_model.specs.State.{MemoryArea, Object, Frame, Activity, Release, ReleaseAt, Started, State, area_at, activity_in, activity_of, with_activity}
use Rattle.scj_model.specs.Memory.{used, has_store_for, with_area}
use Rattle.scj_model.specs.Steps.{silently, fault_in, opening}
use Rattle.scj_model.specs.Sequencer.{innermost}
use Rattle.scj_model.specs.Effects.{new_frame}
use Rattle.scj_model.specs.Ops.{body_ops}
use Rattle.scj_model.specs.Run.{started_with, no_activity}
use Rattle.frame_sound.specs.Fine.{MemoryFine}
use Rattle.frame_sound.proofs.Changes.{changed_at}
use Rattle.memory_needs.specs.Need.{Table, too_much}
use Rattle.memory_bounds.specs.Weights.{IsBound, ops_weight}
use Rattle.memory_bounds.specs.Bounded.{IsBounded}
use Rattle.memory_bounds.proofs.Kept.{opens_one, none_bounded, others_keep}
use Rattle.memory_bounds.proofs.Applied.{get_past, stays, same_areas, BoundedAfter, faults_with}

-- where each object lies in an area that is there, the next area is empty
none_lies : (areas : List MemoryArea) (objects : List Object) →
    ((r : ℕ) (o : Object) → slice_get objects r ≡ Some o → (x : MemoryArea) × (slice_get areas o.area ≡ Some x)) →
    filter (λ (o : Object). o.area == length areas) objects ≡ []
none_lies areas [] h = refl
none_lies areas (o ∷ os) h =
    let first = h 0 o refl in
    let l : o.area < length areas = slice_get_within areas o.area first.0 first.1 in
    let e : (o.area == length areas) ≡ false = grind (arith, nat_tests) in
    rw e (none_lies areas os (λ r p q. h (suc r) p q))

pub new_is_empty : (code : Code) (s : State) → MemoryFine code s → used s (length s.areas) ≡ 0
unfolding used
new_is_empty code s fine =
    let e = none_lies s.areas s.objects (λ r o there. (let x = fine.heap r o there in (x.area, x.is_area))) in
    ap (λ (os : List Object). sum (map (λ (o : Object). size_with_slots (length o.slots)) os)) e

module _ (code : Code) (table : Table) (bound : IsBound code table) (s : State) (index : ℕ) (r : Release)
    (there : slice_get s.releases index ≡ Some r) (row : HandlerRow) (scope : ℕ) (body : Body)
    (empty : used s (length s.areas) ≡ 0) (fits : table body ≤ row.bytes) (small : row.bytes < too_much) where
  pub start_bounded : BoundedAfter code table index (started_with code s index row scope body)
  unfolding started_with opening BoundedAfter activity_of activity_in with_activity new_frame used
  start_bounded = stored (has_store_for s row.bytes)
    where
      x : MemoryArea
      x = record { scope = scope; parent = innermost s.activity.areas; bytes = row.bytes; is_open = true }

      t : State
      t = with_area s scope (innermost s.activity.areas) row.bytes

      first : Frame
      first = record (new_frame code body None (Some row.at) (length s.areas) []) { opened = Some (length s.areas) }

      a : Activity
      a = record { frames = first ∷ []; areas = length s.areas ∷ s.activity.areas; priority = row.priority }

      areas : (n : ℕ) (y : MemoryArea) → area_at s n ≡ Some y →
          (z : MemoryArea) × (area_at t n ≡ Some z) × (z.bytes ≡ y.bytes)
      areas n y e = (y, get_left s.areas (x ∷ []) n y e, refl)

      none : area_at s (length s.areas) ≡ None
      none = get_past s.areas

      weights : ops_weight code table (body_ops code body) ≤ row.bytes
      weights = let e = bound.bodies body in omega (arith, e, fits, small)

      b : IsBounded code table t (first ∷ [])
      b = opens_one code table s t first [] (length s.areas) x none (get_last s.areas x) empty (stays code table s t refl areas)
          refl refl weights small (none_bounded code table s)

      kept : IsBounded code table (with_activity t (ReleaseAt index) a) (first ∷ [])
      kept = others_keep code table t (with_activity t (ReleaseAt index) a) (first ∷ [])
          (λ n h. (stays code table t (with_activity t (ReleaseAt index) a) refl (same_areas code table t (with_activity t (ReleaseAt index) a) refl)).in_use n)
          (same_areas code table t (with_activity t (ReleaseAt index) a) refl) b

      next : BoundedAfter code table index (silently (with_activity t (ReleaseAt index) a))
      next left e =
          let is : activity_of (with_activity t (ReleaseAt index) a) (ReleaseAt index) ≡ Some a =
          ap (λ (o : Option Release). o >>= (λ r. activity_in r.status))
          (changed_at (λ (r : Release). record r { status = Started a }) index s.releases r there) in
          let same : a ≡ left = some_inj a left (sym is ∙ e) in
          subst (λ (z : Activity). IsBounded code table (with_activity t (ReleaseAt index) a) z.frames) same kept

      stored : (c : Bool) → BoundedAfter code table index
          (if c then silently (with_activity t (ReleaseAt index) a)
          else fault_in s (ReleaseAt index) no_activity (class_position code.program row.class) StoreFull)
      stored true = next
      stored false = faults_with code table index s no_activity (class_position code.program row.class) StoreFull
