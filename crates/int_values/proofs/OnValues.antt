-- Operations on values, variables and operators, and new objects: the numbers have 32 bits where those before them have.
use Rattle.std.proofs.Common.{◌≡◌, ℕ, All, true, false, List, ◌∷◌, length, Some, if◌then◌else◌, ap, ◌∙◌}
use Rattle.std.specs.Prelude.{slice_get, unsigned_abs}
use Rattle.std.specs.Int.{is_negative}
use Rattle.std.proofs.lemmas.List.Elements.{All-cons}
use Rattle.scj_base.specs.declared.faults.RunFault.TheVariants.{ArrayIndex, NegativeSize, DivideByZero, ClassCast}
use Rattle.scj_base.specs.declared.values.Value.{Value}
use Rattle.scj_base.specs.declared.values.Value.TheVariants.{Int, Bool as Truth, Null, At}
use Rattle.scj_rules.specs.Classes.{is_sub}
use Rattle.scj_rules.specs.Layout.{slot_of, static_index, element_kind, literal_written}
use Rattle.scj_rules.specs.Words.{◌>>=◌}
use Rattle.scj_model.specs.declared.operations.Op.{Op}
use Rattle.scj_model.specs.declared.operations.Op.TheVariants.{Push as PUSH, This as THIS, Load as LOAD, Get as GET, GetStatic as GETSTATIC, Length as LENGTH, Elem as ELEM, Unary as UNARY, Bin as BIN, And as AND, Or as OR, Alloc as ALLOC, AllocArray as ALLOCARRAY, Cast as CAST, Init as INIT}
use Rattle.scj_model.specs.Arithmetic.{binary_value, unary_value}
use Rattle.scj_model.specs.Code.{Code, binding, part}
use Rattle.scj_model.specs.Memory.{literal_value, new_elements}
use Rattle.scj_model.specs.Ops.{put_in_front}
use Rattle.scj_model.specs.State.{Frame}
use Rattle.scj_model.specs.Effects.{Makes, Faults, Stuck, given, pushes}
use Rattle.scj_model.specs.Operations.{Environment, effect_of, index_in, bound_local, bound_field, bound_static, bound_class, operator_of}
use Rattle.int_values.specs.Ints.{FitsInt, FrameFits}
use Rattle.int_values.proofs.Begins.{elements_fit, node_fits, slots_fit, written_fits}
use Rattle.int_values.proofs.Effects.{Asks}
use Rattle.int_values.proofs.Known.{Known, TakesElement, all_at, length_fits, slot_is_behind}
use Rattle.int_values.proofs.Operators.{binary_fits, unary_fits}
use Rattle.int_values.proofs.SmallSteps.{any_choice, any_given, any_if, any_int, any_object, any_pop, any_truth, faults, frame_fits, goes_with, popped, stops}

module _ (code : Code) (world : Environment) (known : Known code world) (f : Frame) (fits : FrameFits f) where
  abbrev pub Does : Op → Type 0
  Does op = Asks (effect_of code world f op)

  -- one more operand, on these
  more : (value : Value) (below : List Value) → FitsInt value → All FitsInt below → All FitsInt (value ∷ below)
  more value below h hb = All-cons FitsInt value below h hb

  -- ---- values and variables

  pub push_fits : (id : ℕ) → Does (PUSH id)
  unfolding effect_of
  push_fits id =
      any_given (part code literal_value id) _ (λ v e.
      goes_with _ fits.locals (more v f.operands (node_fits code.program.nodes known.nodes id v e) fits.operands))

  pub this_fits : (id : ℕ) → Does (THIS id)
  unfolding effect_of
  this_fits id = any_given f.this _ (λ r e. goes_with _ fits.locals (more (At r) f.operands tt fits.operands))

  pub load_fits : (id : ℕ) → Does (LOAD id)
  unfolding effect_of
  load_fits id =
      any_given (bound_local (binding code id)) _ (λ k e.
      any_given (slice_get f.locals k) _ (λ v g.
      goes_with _ fits.locals (more v f.operands (all_at FitsInt f.locals k v fits.locals g) fits.operands)))

  pub get_fits : (id : ℕ) → Does (GET id)
  unfolding effect_of
  get_fits id =
      any_given (bound_field (binding code id)) _ (λ field e.
      any_pop f.operands _ fits.operands (λ v below hv hb.
      any_object v _ (λ r g.
      any_given (world.object_at r) _ (λ o found.
      any_given (slot_of code.program o.class field) _ (λ slot at.
      any_given (slice_get o.slots slot) _ (λ value there.
      goes_with _ fits.locals
      (more value below
      ((known.objects r o found).fields slot value (slot_is_behind code.program o.class field slot at) there) hb)))))))

  pub get_static_fits : (id : ℕ) → Does (GETSTATIC id)
  unfolding effect_of
  get_static_fits id =
      any_given (bound_static (binding code id)) _ (λ field e.
      any_given (static_index code.program field) _ (λ index g.
      any_given (slice_get world.statics index) _ (λ value there.
      goes_with _ fits.locals
      (more value f.operands (all_at FitsInt world.statics index value known.statics there) fits.operands))))

  pub length_is_fit : (id : ℕ) → Does (LENGTH id)
  unfolding effect_of
  length_is_fit id =
      any_pop f.operands _ fits.operands (λ v below hv hb.
      any_object v _ (λ r e.
      any_given (world.object_at r) _ (λ o found.
      goes_with _ fits.locals
      (more _ below (length_fits (length o.slots) (known.objects r o found).short) hb))))

  pub elem_fits : TakesElement code world f → (id : ℕ) → Does (ELEM id)
  unfolding effect_of
  elem_fits arrays id =
      popped f.operands _ fits.operands (λ v below e hv hb.
      popped below _ hb (λ u lower g hu hl.
      any_object u _ (λ r k.
      any_int v _ hv (λ i z.
      any_given (world.object_at r) _ (λ o found.
      any_choice (index_in o.slots i) _ _ (faults ArrayIndex) (λ n.
      any_given (slice_get o.slots n) _ (λ value there.
      goes_with _ fits.locals (more value lower (element v r lower o n value
      (e ∙ ap (λ (xs : List Value). v ∷ xs) (g ∙ ap (λ (x : Value). x ∷ lower) k)) found there) hl))))))))
    where
      element : (v : Value) (r : ℕ) (lower : List Value) (o : _) (n : ℕ) (value : Value) →
          f.operands ≡ v ∷ At r ∷ lower → world.object_at r ≡ Some o → slice_get o.slots n ≡ Some value → FitsInt value
      element v r lower o n value e found there =
          let t = arrays v r lower o e found in
          all_at FitsInt o.slots n value ((known.objects r o found).elements t.0 t.1) there

  -- ---- operators

  pub unary_is_fit : (id : ℕ) → Does (UNARY id)
  unfolding effect_of
  unary_is_fit id =
      any_given (part code operator_of id) _ (λ operator e.
      any_pop f.operands _ fits.operands (λ v below hv hb.
      any_given (unary_value operator v) _ (λ value is.
      goes_with _ fits.locals (more value below (unary_fits operator v value is) hb))))

  pub bin_fits : (id : ℕ) → Does (BIN id)
  unfolding effect_of
  bin_fits id =
      any_given (part code operator_of id) _ (λ operator e.
      any_pop f.operands _ fits.operands (λ v below hv hb.
      any_pop below _ hb (λ u lower hu hl.
      any_if _ _ _ (faults DivideByZero)
      (any_given (binary_value operator u v) _ (λ value is.
      goes_with _ fits.locals (more value lower (binary_fits operator u v value hu is) hl))))))

  pub and_fits : (id : ℕ) → Does (AND id)
  unfolding effect_of
  and_fits id =
      any_pop f.operands _ fits.operands (λ v below hv hb.
      any_truth v _ (λ b.
      any_given (put_in_front code (AND id) b) _ (λ ops e.
      any_if b _ _ (goes_with _ fits.locals hb) (goes_with _ fits.locals (more (Truth false) below tt hb)))))

  pub or_fits : (id : ℕ) → Does (OR id)
  unfolding effect_of
  or_fits id =
      any_pop f.operands _ fits.operands (λ v below hv hb.
      any_truth v _ (λ b.
      any_given (put_in_front code (OR id) b) _ (λ ops e.
      any_if b _ _ (goes_with _ fits.locals (more (Truth true) below tt hb)) (goes_with _ fits.locals hb))))

  cast_one : (class : ℕ) (below : List Value) → All FitsInt below → (v : Value) →
      Asks (elim v [
        | Null ↦ pushes (record f { operands = below }) Null
        | At r ↦ given (world.object_at r) (λ o.
            if is_sub code.program.classes o.class class then pushes (record f { operands = below }) (At r)
            else Faults ClassCast)
        | Int z ↦ Stuck
        | Truth b ↦ Stuck
      ])
  cast_one class below hb Null = goes_with _ fits.locals (more Null below tt hb)
  cast_one class below hb (At r) =
      any_given (world.object_at r) _ (λ o e.
      any_if _ _ _ (goes_with _ fits.locals (more (At r) below tt hb)) (faults ClassCast))
  cast_one class below hb (Int z) = stops
  cast_one class below hb (Truth b) = stops

  pub cast_fits : (id : ℕ) → Does (CAST id)
  unfolding effect_of
  cast_fits id =
      any_given (bound_class (binding code id)) _ (λ class e.
      any_pop f.operands _ fits.operands (λ v below hv hb. cast_one class below hb v))

  -- ---- new objects

  pub alloc_fits : (id : ℕ) → Does (ALLOC id)
  unfolding effect_of
  alloc_fits id =
      any_given (bound_class (binding code id)) _ (λ class e. record { is = (fits, slots_fit code.program class) })

  pub alloc_array_fits : (id : ℕ) → Does (ALLOCARRAY id)
  unfolding effect_of
  alloc_array_fits id =
      any_given (bound_class (binding code id)) _ (λ class e.
      any_given (element_kind code.program class) _ (λ kind g.
      any_pop f.operands _ fits.operands (λ v below hv hb.
      any_int v _ hv (λ n z.
      any_if (is_negative n) (Faults NegativeSize)
      (Makes (record f { operands = below }) class (new_elements kind (unsigned_abs n))) (faults NegativeSize)
      (record { is = (frame_fits _ fits.locals hb, elements_fit kind (unsigned_abs n)) })))))

  pub init_fits : (id : ℕ) → Does (INIT id)
  unfolding effect_of
  init_fits id =
      any_given (part code literal_written id >>= part code literal_value) _ (λ value e.
      any_given (bound_field (binding code id)) _ (λ field g.
      any_given f.this _ (λ r g.
      any_given (world.object_at r) _ (λ o found.
      any_given (slot_of code.program o.class field) _ (λ slot g.
      record { is = (fits, written_fits code.program.nodes known.nodes (slice_get code.program.nodes id >>= literal_written) value e) })))))
