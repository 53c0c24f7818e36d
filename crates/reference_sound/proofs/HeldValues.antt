-- Operations on values, variables and operators, and new objects: what a frame's locals refer to after them, its locals
-- and its operands referred to before them; and new objects refer to nothing. And the literals of fields.
use Rattle.std.specs.Prelude.{Option, if◌then◌else◌, slice_get, unsigned_abs}
use Rattle.std.specs.Int.{is_negative}
use Rattle.std.proofs.Common.{ℕ, List, []}
use Rattle.std.proofs.lemmas.List.Elements.{All-nil}
use Rattle.scj_base.specs.declared.faults.RunFault.TheVariants.{ArrayIndex, NegativeSize, DivideByZero, ClassCast}
use Rattle.scj_base.specs.declared.values.Value.{Value}
use Rattle.scj_base.specs.declared.values.Value.TheVariants.{Int, Bool as Truth, Null, At}
use Rattle.scj_rules.specs.Classes.{is_sub}
use Rattle.scj_rules.specs.Layout.{slot_of, static_index, element_kind, literal_written}
use Rattle.scj_rules.specs.Words.{◌>>=◌}
use Rattle.scj_model.specs.declared.operations.Op.{Op}
use Rattle.scj_model.specs.declared.operations.Op.TheVariants.{Push as PUSH, This as THIS, Load as LOAD, Get as GET, GetStatic as GETSTATIC, Length as LENGTH, Elem as ELEM, Unary as UNARY, Bin as BIN, And as AND, Or as OR, Alloc as ALLOC, AllocArray as ALLOCARRAY, Cast as CAST, Init as INIT}
use Rattle.scj_model.specs.Arithmetic.{binary_value, unary_value}
use Rattle.scj_model.specs.Code.{Code, binding, part}
use Rattle.scj_model.specs.Memory.{literal_value, new_elements}
use Rattle.scj_model.specs.Ops.{put_in_front}
use Rattle.scj_model.specs.State.{MemoryArea, Frame}
use Rattle.scj_model.specs.Effects.{Makes, Faults, Stuck, given, pushes}
use Rattle.scj_model.specs.Operations.{Environment, effect_of, index_in, bound_local, bound_field, bound_static, bound_class, operator_of}
use Rattle.frame_sound.specs.Places.{World}
use Rattle.reference_sound.specs.References.{IfReference, EachReference}
use Rattle.reference_sound.proofs.Plain.{written_plain, slots_plain, elements_plain}
use Rattle.reference_sound.proofs.EffectSteps.{stops, faults, goes, any_given, any_choice, any_if, any_pop, any_int, any_truth, any_object}
use Rattle.reference_sound.specs.EffectsHold.{Holding}

module _ (code : Code) (areas : ℕ → Option MemoryArea) (world : Environment) (Q : ℕ → Type 0) (f : Frame)
    (locals : EachReference Q f.locals) (operands : EachReference Q f.operands) where
  abbrev w : World
  w = record { areas = areas; objects = world.object_at }

  abbrev pub Does : Op → Type 0
  Does op = Holding w Q (effect_of code world f op)

  empty : EachReference Q []
  empty = All-nil (IfReference Q)

  -- ---- values, variables and operators

  pub push_holds : (id : ℕ) → Does (PUSH id)
  unfolding effect_of
  push_holds id = any_given w Q (part code literal_value id) _ (λ v e. goes w Q _ locals)

  pub this_holds : (id : ℕ) → Does (THIS id)
  unfolding effect_of
  this_holds id = any_given w Q f.this _ (λ r e. goes w Q _ locals)

  pub load_holds : (id : ℕ) → Does (LOAD id)
  unfolding effect_of
  load_holds id =
      any_given w Q (bound_local (binding code id)) _
      (λ k e. any_given w Q (slice_get f.locals k) _ (λ v e. goes w Q _ locals))

  pub get_holds : (id : ℕ) → Does (GET id)
  unfolding effect_of
  get_holds id =
      any_given w Q (bound_field (binding code id)) _ (λ field e.
      any_pop w Q f.operands _ operands (λ v below hv hb.
      any_object w Q v _ (λ r e.
      any_given w Q (world.object_at r) _
      (λ o e. any_given w Q (slot_of code.program o.class field) _
      (λ slot e. any_given w Q (slice_get o.slots slot) _ (λ value e. goes w Q _ locals))))))

  pub get_static_holds : (id : ℕ) → Does (GETSTATIC id)
  unfolding effect_of
  get_static_holds id =
      any_given w Q (bound_static (binding code id)) _
      (λ field e. any_given w Q (static_index code.program field) _
      (λ index e. any_given w Q (slice_get world.statics index) _ (λ value e. goes w Q _ locals)))

  pub length_holds : (id : ℕ) → Does (LENGTH id)
  unfolding effect_of
  length_holds id =
      any_pop w Q f.operands _ operands (λ v below hv hb.
      any_object w Q v _ (λ r e. any_given w Q (world.object_at r) _ (λ o e. goes w Q _ locals)))

  pub elem_holds : (id : ℕ) → Does (ELEM id)
  unfolding effect_of
  elem_holds id =
      any_pop w Q f.operands _ operands (λ v below hv hb.
      any_pop w Q below _ hb (λ u lower hu hl.
      any_object w Q u _ (λ r e.
      any_int w Q v _ (λ i.
      any_given w Q (world.object_at r) _ (λ o e.
      any_choice w Q (index_in o.slots i) _ _ (faults w Q ArrayIndex) (λ k.
      any_given w Q (slice_get o.slots k) _ (λ value e. goes w Q _ locals)))))))

  pub unary_holds : (id : ℕ) → Does (UNARY id)
  unfolding effect_of
  unary_holds id =
      any_given w Q (part code operator_of id) _ (λ operator e.
      any_pop w Q f.operands _ operands
      (λ v below hv hb. any_given w Q (unary_value operator v) _ (λ value e. goes w Q _ locals)))

  pub bin_holds : (id : ℕ) → Does (BIN id)
  unfolding effect_of
  bin_holds id =
      any_given w Q (part code operator_of id) _ (λ operator e.
      any_pop w Q f.operands _ operands (λ v below hv hb.
      any_pop w Q below _ hb (λ u lower hu hl.
      any_if w Q _ _ _ (faults w Q DivideByZero)
      (any_given w Q (binary_value operator u v) _ (λ value e. goes w Q _ locals)))))

  pub and_holds : (id : ℕ) → Does (AND id)
  unfolding effect_of
  and_holds id =
      any_pop w Q f.operands _ operands (λ v below hv hb.
      any_truth w Q v _ (λ b.
      any_given w Q (put_in_front code (AND id) b) _
      (λ ops e. any_if w Q b _ _ (goes w Q _ locals) (goes w Q _ locals))))

  pub or_holds : (id : ℕ) → Does (OR id)
  unfolding effect_of
  or_holds id =
      any_pop w Q f.operands _ operands (λ v below hv hb.
      any_truth w Q v _ (λ b.
      any_given w Q (put_in_front code (OR id) b) _
      (λ ops e. any_if w Q b _ _ (goes w Q _ locals) (goes w Q _ locals))))

  cast_one : (class : ℕ) (below : List Value) (v : Value) →
      Holding w Q (elim v [
        | Null ↦ pushes (record f { operands = below }) Null
        | At r ↦ given (world.object_at r) (λ o.
            if is_sub code.program.classes o.class class then pushes (record f { operands = below }) (At r)
            else Faults ClassCast)
        | Int z ↦ Stuck
        | Truth b ↦ Stuck
      ])
  cast_one class below Null = goes w Q _ locals
  cast_one class below (At r) =
      any_given w Q (world.object_at r) _ (λ o e. any_if w Q _ _ _ (goes w Q _ locals) (faults w Q ClassCast))
  cast_one class below (Int z) = stops w Q
  cast_one class below (Truth b) = stops w Q

  pub cast_holds : (id : ℕ) → Does (CAST id)
  unfolding effect_of
  cast_holds id =
      any_given w Q (bound_class (binding code id)) _ (λ class e.
      any_pop w Q f.operands _ operands (λ v below hv hb. cast_one class below v))

  -- ---- new objects

  pub alloc_holds : (id : ℕ) → Does (ALLOC id)
  unfolding effect_of
  alloc_holds id =
      any_given w Q (bound_class (binding code id)) _
      (λ class e. record { is = (locals, slots_plain (λ r. ⊥) code.program class) })

  pub alloc_array_holds : (id : ℕ) → Does (ALLOCARRAY id)
  unfolding effect_of
  alloc_array_holds id =
      any_given w Q (bound_class (binding code id)) _ (λ class e.
      any_given w Q (element_kind code.program class) _ (λ kind e.
      any_pop w Q f.operands _ operands (λ v below hv hb.
      any_int w Q v _ (λ n.
      any_if w Q (is_negative n) (Faults NegativeSize)
      (Makes (record f { operands = below }) class (new_elements kind (unsigned_abs n))) (faults w Q NegativeSize)
      (record { is = (locals, elements_plain (λ r. ⊥) kind (unsigned_abs n)) })))))

  pub init_holds : (id : ℕ) → Does (INIT id)
  unfolding effect_of
  init_holds id =
      any_given w Q (part code literal_written id >>= part code literal_value) _ (λ value e.
      any_given w Q (bound_field (binding code id)) _ (λ field g.
      any_given w Q f.this _ (λ r g.
      any_given w Q (world.object_at r) _ (λ o found.
      any_given w Q (slot_of code.program o.class field) _ (λ slot g.
      record {
        is = (
          locals,
          record {
            object = o;
            found = found;
            around = written_plain _ code (slice_get code.program.nodes id >>= literal_written) value e;
          },
        );
      })))))
