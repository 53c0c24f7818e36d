-- What lies under the operands that an operation takes is left alone: where the others don't name an object, nothing that
-- the operation does names it.
use Rattle.std.specs.Prelude.{Option, Some, None, slice_get, slice_set, if◌then◌else◌, ℤ, pos, unsigned_abs, codes, map, replicate, option_map, not}
use Rattle.std.specs.Int.{is_negative}
use Rattle.std.proofs.Common.{◌≡◌, ℕ, zero, suc, List, [], ◌∷◌, ◌++◌, length, Bool, true, false, ◌==◌, ◌-◌, ◌+◌, ◌≤◌, ◌⊎◌, refl, sym, ◌∙◌, ap, subst, arith, inl, inr}
use Rattle.scj_base.specs.declared.faults.RunFault.{RunFault}
use Rattle.scj_base.specs.declared.faults.RunFault.TheVariants.{NullPointer, ArrayIndex, NegativeSize, DivideByZero, ClassCast, BadPriority, BadPeriod, BadPort}
use Rattle.scj_base.specs.declared.values.Value.{Value}
use Rattle.scj_base.specs.declared.values.Value.TheVariants.{Int, Bool as Truth, Null, At}
use Rattle.scj_base.specs.Vocabulary.{sign_equal, sign_not_equal, sign_minus, sign_tilde, sign_not}
use Rattle.scj_builtins.specs.Framework.{mission_sequencer, periodic_handler, aperiodic_handler}
use Rattle.scj_tree.specs.declared.nodes.Node.{Node}
use Rattle.scj_tree.specs.declared.nodes.Node.TheVariants.{Number as NumberNode, True, False, Null as NullNode}
use Rattle.scj_rules.specs.declared.views.Body.{Body}
use Rattle.scj_rules.specs.declared.views.SlotKind.{SlotKind}
use Rattle.scj_rules.specs.declared.views.SlotKind.TheVariants.{Number, Truth as TruthKind, Reference}
use Rattle.scj_rules.specs.declared.views.Declared.{Declared}
use Rattle.scj_rules.specs.Words.{is_among, ◌>>=◌}
use Rattle.scj_rules.specs.Views.{variable_at}
use Rattle.scj_rules.specs.Classes.{is_sub, superclasses, instance_fields}
use Rattle.scj_rules.specs.ScopeRules.{defined_by_chain}
use Rattle.scj_rules.specs.Layout.{kind_of_type, literal_written, slot_of, static_index, element_kind}
use Rattle.scj_rules.specs.Bodies.{body_named, body_of, constructor_body}
use Rattle.scj_model.specs.declared.operations.Op.{Op}
use Rattle.scj_model.specs.declared.operations.Op.TheVariants.{Push as PUSH, This as THIS, Load as LOAD, Get as GET, GetStatic as GETSTATIC, Length as LENGTH, Elem as ELEM, Unary as UNARY, Bin as BIN, And as AND, Or as OR, Alloc as ALLOC, Construct as CONSTRUCT, AllocArray as ALLOCARRAY, Call as CALL, CallStatic as CALLSTATIC, Cast as CAST, Enter as ENTER, ExecuteIn as EXECUTEIN, Same as SAME, SetCeiling as SETCEILING, Print as PRINT, Read as READ, Register as REGISTER, Release as RELEASE, Terminate as TERMINATE, Zero as ZERO, Store as STORE, Put as PUT, PutStatic as PUTSTATIC, PutElem as PUTELEM, If as IF, Loop as LOOP, LeaveWith as LEAVEWITH, Leave as LEAVE, Drop as DROP, Init as INIT, Super as SUPER, Params as PARAMS}
use Rattle.scj_model.specs.Code.{Code, binding, part}
use Rattle.scj_model.specs.State.{Object, Frame}
use Rattle.scj_model.specs.Ops.{put_in_front}
use Rattle.scj_model.specs.Effects.{Effect, Goes, Prints, Makes, Stores, StoresStatic, SetsHidden, SetsCeiling, Calls, Opens, Leaves, AsksRegistration, AsksRelease, AsksTermination, Faults, Stuck, given, pop, pop_from, as_int, as_truth, as_reference, as_object, pushes, branch, locals_of, new_frame}
use Rattle.scj_model.specs.Memory.{literal_value, default_value, hidden_values, new_slots, new_elements}
use Rattle.scj_model.specs.Arithmetic.{entry, int_operators, comparisons, are_equal, of_ints, on_ints, binary_value, divides_by_zero, unary_value}
use Rattle.scj_model.specs.Operations.{Environment, effect_of, bound_local, bound_field, bound_static, bound_class, bound_method, bound_static_method, operator_of, argument_count, index_in, push_op, this_op, load_op, with_field, get_op, get_static_op, length_op, elem_op, unary_op, bin_op, and_op, or_op, cast_op, alloc_op, alloc_array_op, constructs, construct_op, super_count, super_op, call_op, call_static_op, with_run, enter_op, execute_in_op, if_op, loop_op, assigned, first_argument, init_op, zero_op, store_op, put_op, put_static_op, put_elem_op, with_area, are_one_area, same_op, set_ceiling_op, is_priority, print_op, is_port, read_op, register_op, release_op, terminate_op, leave_with_op, leave_op, drop_op, times_of, periodic_parameters, right_parameters, params_op}

-- ---- what doesn't name the object u

abbrev pub AllLack : ℕ → List Value → Type 0
AllLack u [] = Unit {0}
AllLack u (v ∷ vs) = (v ≡ At u → ⊥) × AllLack u vs

pub record Lack (u : ℕ) (f : Frame) : Type 0 where
  pub locals : AllLack u f.locals
  pub operands : AllLack u f.operands
  pub this : f.this ≡ Some u → ⊥

-- a frame with the `this` of another one, in which only what lies under may name it; n operands may be taken
pub record Kept (u : ℕ) (under : List Value) (this : Option ℕ) (n : ℕ) (f : Frame) : Type 0 where
  pub locals : AllLack u f.locals
  pub above : List Value
  pub lack : AllLack u above
  pub is : f.operands ≡ above ++ under
  pub enough : (under ≡ []) ⊎ (n ≤ length above)
  pub is_this : f.this ≡ this

-- no value that the effect moves is the object, and it isn't the one that is changed or asked for
abbrev pub Moves : ℕ → List Value → Option ℕ → Effect → Type 0
Moves u under this (Goes f) = Kept u under this 0 f
Moves u under this (Prints f label z) = Kept u under this 0 f
Moves u under this (Makes f class slots) = Kept u under this 0 f × AllLack u slots
Moves u under this (Stores f r slot v) = Kept u under this 0 f × (r ≡ u → ⊥) × (v ≡ At u → ⊥)
Moves u under this (StoresStatic f place v) = Kept u under this 0 f × (v ≡ At u → ⊥)
Moves u under this (SetsHidden f r vs) = Kept u under this 0 f × (r ≡ u → ⊥) × AllLack u vs
Moves u under this (SetsCeiling f r ceiling) = Kept u under this 0 f × (r ≡ u → ⊥)
Moves u under this (Calls f g) = Kept u under this 0 f × Lack u g
Moves u under this (Opens f g scope bytes) = Kept u under this 0 f × Lack u g
Moves u under this (Leaves f v) = Kept u under this 0 f × (v ≡ Some (At u) → ⊥)
Moves u under this (AsksRegistration f r) = Kept u under this 0 f × (r ≡ u → ⊥)
Moves u under this (AsksRelease f r) = Kept u under this 0 f
Moves u under this (AsksTermination f r) = Kept u under this 0 f
Moves u under this (Faults x) = Unit {0}
Moves u under this Stuck = Unit {0}

pub record Spares (u : ℕ) (under : List Value) (this : Option ℕ) (e : Effect) : Type 0 where
  pub is : Moves u under this e

-- at least as many operands as the operation takes
unfoldable pub pops : Code → Op → ℕ
pops code (PUSH id) = 0
pops code (THIS id) = 0
pops code (LOAD id) = 0
pops code (GET id) = 1
pops code (GETSTATIC id) = 0
pops code (LENGTH id) = 1
pops code (ELEM id) = 2
pops code (UNARY id) = 1
pops code (BIN id) = 2
pops code (AND id) = 1
pops code (OR id) = 1
pops code (ALLOC id) = 0
pops code (CONSTRUCT id) = super_count code id + 1
pops code (ALLOCARRAY id) = 1
pops code (CALL id) = super_count code id + 1
pops code (CALLSTATIC id) = super_count code id + 0
pops code (CAST id) = 1
pops code (ENTER id) = 2
pops code (EXECUTEIN id) = 2
pops code (SAME id) = 2
pops code (SETCEILING id) = 2
pops code (PRINT id) = 1
pops code (READ id) = 1
pops code (REGISTER id) = 1
pops code (RELEASE id) = 1
pops code (TERMINATE id) = 1
pops code (ZERO id) = 0
pops code (STORE id) = 1
pops code (PUT id) = 2
pops code (PUTSTATIC id) = 1
pops code (PUTELEM id) = 3
pops code (IF id) = 1
pops code (LOOP id) = 1
pops code (LEAVEWITH id) = 1
pops code LEAVE = 0
pops code (DROP id) = 1
pops code (INIT id) = 0
pops code (SUPER id) = super_count code id + 1
pops code (PARAMS id) = 6

-- it looks at the object for which the frame runs
unfoldable pub UsesThis : Op → Type 0
UsesThis (THIS id) = Unit {0}
UsesThis (INIT id) = Unit {0}
UsesThis (PARAMS id) = Unit {0}
UsesThis _ = ⊥

-- ---- lists

module _ (u : ℕ) where
  pub got : (vs : List Value) (k : ℕ) (v : Value) → AllLack u vs → slice_get vs k ≡ Some v → v ≡ At u → ⊥
  got [] k v l e q = cc (e)
  got (w ∷ vs) zero v l e q = (let same : w ≡ v = cc (e) in l.0 (same ∙ q))
  got (w ∷ vs) (suc k) v l e q = got vs k v l.1 e q

  pub set : (vs : List Value) (k : ℕ) (v : Value) → AllLack u vs → (v ≡ At u → ⊥) → AllLack u (slice_set vs k v)
  set [] k v l n = tt
  set (w ∷ vs) zero v l n = (n, l.1)
  set (w ∷ vs) (suc k) v l n = (l.0, set vs k v l.1 n)

  pub joined : (vs ws : List Value) → AllLack u vs → AllLack u ws → AllLack u (vs ++ ws)
  joined [] ws l m = m
  joined (v ∷ vs) ws l m = (l.0, joined vs ws l.1 m)

  pub copies : (n : ℕ) (v : Value) → (v ≡ At u → ⊥) → AllLack u (replicate n v)
  copies zero v n = tt
  copies (suc k) v n = (n, copies k v n)

  pub default_lacks : (k : SlotKind) → default_value k ≡ At u → ⊥
  unfolding default_value
  default_lacks Number q = cc (q)
  default_lacks TruthKind q = cc (q)
  default_lacks Reference q = cc (q)

  defaults : (ds : List Declared) →
      AllLack u (map (λ (f : Declared). default_value (kind_of_type f.declared_type)) ds)
  defaults [] = tt
  defaults (d ∷ ds) = (default_lacks (kind_of_type d.declared_type), defaults ds)

  -- ---- values that operations give

  literal_lacks : (n : Node) (v : Value) → literal_value n ≡ Some v → v ≡ At u → ⊥
  unfolding literal_value
  literal_lacks (NumberNode position x b) v e q = cc (e, q)
  literal_lacks (True position) v e q = cc (e, q)
  literal_lacks (False position) v e q = cc (e, q)
  literal_lacks (NullNode position) v e q = cc (e, q)
  literal_lacks _ v e q = cc (e)

  pub literal_in : (o : Option Node) (v : Value) → (o >>= literal_value) ≡ Some v → v ≡ At u → ⊥
  literal_in None v e q = cc (e)
  literal_in (Some n) v e q = literal_lacks n v e q

  pub unary_lacks : (operator : ℕ) (w v : Value) → unary_value operator w ≡ Some v → v ≡ At u → ⊥
  unfolding unary_value
  unary_lacks operator (Int x) v e q = of (operator == sign_minus) (operator == sign_tilde) _ _ e
    where
      of : (a b : Bool) (x y : ℤ) → (if a then Some (Int x) else (if b then Some (Int y) else None)) ≡ Some v → ⊥
      of true b x y e = cc (e, q)
      of false true x y e = cc (e, q)
      of false false x y e = cc (e)
  unary_lacks operator (Truth b) v e q = of (operator == sign_not) e
    where
      of : (a : Bool) → (if a then Some (Truth (not b)) else None) ≡ Some v → ⊥
      of true e = cc (e, q)
      of false e = cc (e)
  unary_lacks operator Null v e q = cc (e)
  unary_lacks operator (At r) v e q = cc (e)

  ints_lack : (operator : ℕ) (x y : ℤ) (v : Value) → of_ints operator x y ≡ Some v → v ≡ At u → ⊥
  unfolding of_ints
  ints_lack operator x y v e q = of (entry int_operators operator) (entry comparisons operator) e
    where
      of : (f : Option (ℤ → ℤ → ℤ)) (g : Option (ℤ → ℤ → Bool)) →
          elim f [ Some f ↦ Some (Int (f x y)) | None ↦ option_map (λ (g : ℤ → ℤ → Bool). Truth (g x y)) g ] ≡ Some v → ⊥
      of (Some f) g e = cc (e, q)
      of None (Some g) e = cc (e, q)
      of None None e = cc (e)

  on_ints_lack : (operator : ℕ) (l r v : Value) → on_ints operator l r ≡ Some v → v ≡ At u → ⊥
  unfolding on_ints
  on_ints_lack operator (Int x) (Int y) v e q = ints_lack operator x y v e q
  on_ints_lack operator _ _ v e q = cc (e)

  pub binary_lacks : (operator : ℕ) (l r v : Value) → binary_value operator l r ≡ Some v → v ≡ At u → ⊥
  unfolding binary_value
  binary_lacks operator l r v e q = of (operator == sign_equal) (operator == sign_not_equal) (are_equal l r) e
    where
      of : (a b : Bool) (o : Option Bool) →
          (if a then option_map (λ b. Truth b) o
          else (if b then option_map (λ b. Truth (not b)) o else on_ints operator l r)) ≡ Some v → ⊥
      of true b (Some x) e = cc (e, q)
      of true b None e = cc (e)
      of false true (Some x) e = cc (e, q)
      of false true None e = cc (e)
      of false false o e = on_ints_lack operator l r v e q

  hidden_lack : (code : Code) (class : ℕ) → AllLack u (hidden_values code.program class)
  unfolding hidden_values
  hidden_lack code class =
      of (is_among periodic_handler (superclasses code.program.classes class))
      (is_among aperiodic_handler (superclasses code.program.classes class))
    where
      of : (a b : Bool) → AllLack u (if a then Int (pos 1) ∷ Int (pos 0) ∷ Int (pos 0) ∷ Int (pos 1) ∷ []
          else (if b then Int (pos 1) ∷ Int (pos 0) ∷ [] else []))
      of true b = ((λ q. cc (q)), ((λ q. cc (q)), ((λ q. cc (q)), ((λ q. cc (q)), tt))))
      of false true = ((λ q. cc (q)), ((λ q. cc (q)), tt))
      of false false = tt

  pub slots_lack : (code : Code) (class : ℕ) → AllLack u (new_slots code.program class)
  unfolding new_slots
  slots_lack code class =
      joined (hidden_values code.program class) _ (hidden_lack code class)
      (defaults (instance_fields code.program.classes class))

  pub frame_lacks : (code : Code) (body : Body) (at this : Option ℕ) (area : ℕ) (arguments : List Value) →
      (this ≡ Some u → ⊥) → AllLack u arguments → Lack u (new_frame code body at this area arguments)
  unfolding new_frame
  frame_lacks code body at this area arguments n l = record {
    locals = joined arguments (replicate (locals_of code body - length arguments) Null) l
        (copies (locals_of code body - length arguments) Null (λ q. cc (q)));
    operands = tt;
    this = n;
  }

  other : (r : ℕ) → (At r ≡ At u → ⊥) → r ≡ u → ⊥
  other r n e = n (ap (λ x. At x) e)

  some_other : (r : ℕ) → (At r ≡ At u → ⊥) → Some r ≡ Some u → ⊥
  some_other r n e = (let same : r ≡ u = cc (e) in n (ap (λ x. At x) same))

-- ---- small steps

module _ (u : ℕ) (under : List Value) (this : Option ℕ) where
  stuck : Spares u under this Stuck
  stuck = record { is = tt }

  fault : (x : RunFault) → Spares u under this (Faults x)
  fault x = record { is = tt }

  fewer : (f : Frame) (n m : ℕ) → Kept u under this n f → m ≤ n → Kept u under this m f
  fewer f n m l le = record {
    locals = l.locals;
    above = l.above;
    lack = l.lack;
    is = l.is;
    enough = of l.enough;
    is_this = l.is_this;
  }
    where
      of : (under ≡ []) ⊎ (n ≤ length l.above) → (under ≡ []) ⊎ (m ≤ length l.above)
      of (inl e) = inl e
      of (inr q) = inr (omega (arith, q, le))

  goes : (f : Frame) → Kept u under this 0 f → Spares u under this (Goes f)
  goes f l = record { is = l }

  stores : (f : Frame) (r slot : ℕ) (v : Value) → Kept u under this 0 f → (r ≡ u → ⊥) → (v ≡ At u → ⊥) →
      Spares u under this (Stores f r slot v)
  stores f r slot v l n m = record { is = (l, n, m) }

  hidden_set : (f : Frame) (r : ℕ) (vs : List Value) → Kept u under this 0 f → (r ≡ u → ⊥) → AllLack u vs →
      Spares u under this (SetsHidden f r vs)
  hidden_set f r vs l n a = record { is = (l, n, a) }

  makes : (f : Frame) (class : ℕ) (slots : List Value) → Kept u under this 0 f → AllLack u slots →
      Spares u under this (Makes f class slots)
  makes f class slots l a = record { is = (l, a) }

  static_stored : (f : Frame) (index : ℕ) (v : Value) → Kept u under this 0 f → (v ≡ At u → ⊥) →
      Spares u under this (StoresStatic f index v)
  static_stored f index v l n = record { is = (l, n) }

  ceiling_set : (f : Frame) (r ceiling : ℕ) → Kept u under this 0 f → (r ≡ u → ⊥) →
      Spares u under this (SetsCeiling f r ceiling)
  ceiling_set f r ceiling l n = record { is = (l, n) }

  printed : (f : Frame) (label : ℕ) (z : ℤ) → Kept u under this 0 f → Spares u under this (Prints f label z)
  printed f label z l = record { is = l }

  registration : (f : Frame) (r : ℕ) → Kept u under this 0 f → (r ≡ u → ⊥) → Spares u under this (AsksRegistration f r)
  registration f r l n = record { is = (l, n) }

  release_asked : (f : Frame) (r : ℕ) → Kept u under this 0 f → Spares u under this (AsksRelease f r)
  release_asked f r l = record { is = l }

  termination : (f : Frame) (r : ℕ) → Kept u under this 0 f → Spares u under this (AsksTermination f r)
  termination f r l = record { is = l }

  left_with : (f : Frame) (v : Value) → Kept u under this 0 f → (v ≡ At u → ⊥) → Spares u under this (Leaves f (Some v))
  left_with f v l n = record { is = (l, λ e. (let same : v ≡ At u = cc (e) in n same)) }

  opens : (code : Code) (f : Frame) (body : Body) (at own : Option ℕ) (area : ℕ) (scope bytes : ℕ) →
      Kept u under this 0 f → (own ≡ Some u → ⊥) →
      Spares u under this (Opens f (new_frame code body at own area []) scope bytes)
  opens code f body at own area scope bytes l n =
      record { is = (l, frame_lacks u code body at own area [] n tt) }

  calls : (code : Code) (f : Frame) (body : Body) (at own : Option ℕ) (area : ℕ) (arguments : List Value) →
      Kept u under this 0 f → (own ≡ Some u → ⊥) → AllLack u arguments →
      Spares u under this (Calls f (new_frame code body at own area arguments))
  calls code f body at own area arguments l n a =
      record { is = (l, frame_lacks u code body at own area arguments n a) }

  with_given : {A : Type 0} (o : Option A) (next : A → Effect) → ((x : A) → o ≡ Some x → Spares u under this (next x)) →
      Spares u under this (given o next)
  with_given None next k = stuck
  with_given (Some x) next k = k x refl

  with_pop : (n : ℕ) (f : Frame) (next : Value → Frame → Effect) → Kept u under this (suc n) f →
      ((v : Value) → (v ≡ At u → ⊥) → (h : Frame) → Kept u under this n h → Spares u under this (next v h)) →
      Spares u under this (pop f next)
  with_pop n f next l k = of f.operands l.above l.lack l.is l.enough
    where
      of : (vs above : List Value) → AllLack u above → vs ≡ above ++ under → (under ≡ []) ⊎ (suc n ≤ length above) →
          Spares u under this (elim vs [ [] ↦ Stuck | value ∷ below ↦ next value (record f { operands = below }) ])
      of [] above a e c = stuck
      of (v ∷ vs) [] a e (inl none) = absurd (let q = e ∙ none in cc (q))
      of (v ∷ vs) [] a e (inr few) = absurd (omega (arith, few))
      of (v ∷ vs) (w ∷ ws) a e c =
          let same : v ≡ w = cc (e) in
          let tail : vs ≡ ws ++ under = cc (e) in
          k v (λ q. a.0 (sym same ∙ q)) (record f { operands = vs })
          (record {
            locals = l.locals;
            above = ws;
            lack = a.1;
            is = tail;
            enough = less c;
            is_this = l.is_this;
          })
        where
          less : (under ≡ []) ⊎ (suc n ≤ length (w ∷ ws)) → (under ≡ []) ⊎ (n ≤ length ws)
          less (inl none) = inl none
          less (inr q) = inr (omega (arith, q))

  -- m more may be taken afterwards
  with_pop_from : (m count : ℕ) (f : Frame) (taken : List Value) (next : List Value → Frame → Effect) →
      Kept u under this (count + m) f → AllLack u taken →
      ((vs : List Value) → AllLack u vs → (h : Frame) → Kept u under this m h → Spares u under this (next vs h)) →
      Spares u under this (pop_from count f taken next)
  with_pop_from m zero f taken next l a k = k taken a f (fewer f (zero + m) m l (omega arith))
  with_pop_from m (suc count) f taken next l a k =
      with_pop (count + m) f (λ value g. pop_from count g (value ∷ taken) next)
      (fewer f (suc count + m) (suc (count + m)) l (omega arith))
      (λ v n h r. with_pop_from m count h (v ∷ taken) next r (n, a) k)

  with_int : (v : Value) (next : ℤ → Effect) → ((z : ℤ) → Spares u under this (next z)) → Spares u under this (as_int v next)
  with_int (Int z) next k = k z
  with_int _ next k = stuck

  with_truth : (v : Value) (next : Bool → Effect) → ((b : Bool) → Spares u under this (next b)) → Spares u under this (as_truth v next)
  with_truth (Truth b) next k = k b
  with_truth _ next k = stuck

  with_reference : (v : Value) (next : ℕ → Effect) → (v ≡ At u → ⊥) →
      ((r : ℕ) → (At r ≡ At u → ⊥) → Spares u under this (next r)) → Spares u under this (as_reference v next)
  with_reference (At r) next n k = k r n
  with_reference _ next n k = stuck

  with_object : (v : Value) (next : ℕ → Effect) → (v ≡ At u → ⊥) →
      ((r : ℕ) → (At r ≡ At u → ⊥) → Spares u under this (next r)) → Spares u under this (as_object v next)
  with_object (At r) next n k = k r n
  with_object Null next n k = fault NullPointer
  with_object _ next n k = stuck

  with_test : (b : Bool) (x y : Effect) → Spares u under this x → Spares u under this y → Spares u under this (if b then x else y)
  with_test true x y k l = k
  with_test false x y k l = l

  pushing : (f : Frame) (v : Value) → Kept u under this 0 f → (v ≡ At u → ⊥) → Spares u under this (pushes f v)
  pushing f v l n =
      goes (record f { operands = v ∷ f.operands })
      (record {
        locals = l.locals;
        above = v ∷ l.above;
        lack = (n, l.lack);
        is = ap (λ (xs : List Value). v ∷ xs) l.is;
        enough = inr (omega arith);
        is_this = l.is_this;
      })

  module _ (code : Code) (top : Frame) where
    with_branch : (op : Op) (next : Bool → Frame → Effect) → Kept u under this 1 top →
        ((b : Bool) (h : Frame) → Kept u under this 0 h → Spares u under this (next b h)) →
        Spares u under this (branch code op top next)
    with_branch op next self k =
        with_pop 0 top _ self (λ v n h l. with_truth v _ (λ b. with_given (put_in_front code op b) _ (λ ops e.
        k b (record h { rest = ops ++ h.rest })
        (record {
          locals = l.locals;
          above = l.above;
          lack = l.lack;
          is = l.is;
          enough = l.enough;
          is_this = l.is_this;
        }))))

    module _ (world : Environment) (objects : (r : ℕ) (o : Object) → world.object_at r ≡ Some o → AllLack u o.slots)
        (statics : AllLack u world.statics) (id : ℕ) where
      push_lacks : Kept u under this 0 top → Spares u under this (push_op code top id)
      push_lacks self =
          with_given (part code literal_value id) _ (λ v e.
          pushing top v self (literal_in u (slice_get code.program.nodes id) v e))

      this_lacks : (top.this ≡ Some u → ⊥) → Kept u under this 0 top → Spares u under this (this_op top)
      this_lacks own self =
          with_given top.this _ (λ r e. pushing top (At r) self (λ q. let same : r ≡ u = cc (q) in
          own (e ∙ ap (λ x. Some x) same)))

      load_lacks : Kept u under this 0 top → Spares u under this (load_op code top id)
      load_lacks self =
          with_given (bound_local (binding code id)) _ (λ k e. with_given (slice_get top.locals k) _ (λ v t.
          pushing top v self (got u top.locals k v self.locals t)))

      field_lacks : (r field : ℕ) (next : Object → ℕ → Effect) →
          ((o : Object) → AllLack u o.slots → (slot : ℕ) → Spares u under this (next o slot)) →
          Spares u under this (with_field code world r field next)
      field_lacks r field next k =
          with_given (world.object_at r) _ (λ o e. with_given (slot_of code.program o.class field) _ (λ slot q.
          k o (objects r o e) slot))

      get_lacks : Kept u under this 1 top → Spares u under this (get_op code world top id)
      get_lacks self =
          with_given (bound_field (binding code id)) _ (λ field e.
          with_pop 0 top _ self (λ object n f l. with_object object _ n (λ r m.
          field_lacks r field _ (λ o a slot. with_given (slice_get o.slots slot) _ (λ v t.
          pushing f v l (got u o.slots slot v a t))))))

      get_static_lacks : Kept u under this 0 top → Spares u under this (get_static_op code world top id)
      get_static_lacks self =
          with_given (bound_static (binding code id)) _ (λ field e.
          with_given (static_index code.program field) _ (λ place q.
          with_given (slice_get world.statics place) _ (λ v t.
          pushing top v self (got u world.statics place v statics t))))

      length_lacks : Kept u under this 1 top → Spares u under this (length_op world top)
      length_lacks self =
          with_pop 0 top _ self (λ array n f l. with_object array _ n (λ r m.
          with_given (world.object_at r) _ (λ o e. pushing f (Int (pos (length o.slots))) l (λ q. cc (q)))))

      at_index : (o : Option ℕ) (next : ℕ → Effect) → ((k : ℕ) → Spares u under this (next k)) →
          Spares u under this (elim o [ None ↦ Faults ArrayIndex | Some k ↦ next k ])
      at_index None next k = fault ArrayIndex
      at_index (Some x) next k = k x

      elem_lacks : Kept u under this 2 top → Spares u under this (elem_op world top)
      elem_lacks self =
          with_pop 1 top _ self (λ index n f l. with_pop 0 f _ l (λ array m f l. with_object array _ m (λ r p.
          with_int index _ (λ i. with_given (world.object_at r) _ (λ o e.
          at_index (index_in o.slots i) _ (λ k. with_given (slice_get o.slots k) _ (λ v t.
          pushing f v l (got u o.slots k v (objects r o e) t))))))))

      unary_does : Kept u under this 1 top → Spares u under this (unary_op code top id)
      unary_does self =
          with_given (part code operator_of id) _ (λ operator e. with_pop 0 top _ self (λ operand n f l.
          with_given (unary_value operator operand) _ (λ v t. pushing f v l (unary_lacks u operator operand v t))))

      bin_does : Kept u under this 2 top → Spares u under this (bin_op code top id)
      bin_does self =
          with_given (part code operator_of id) _ (λ operator e.
          with_pop 1 top _ self (λ right n f l. with_pop 0 f _ l (λ left m f l.
          with_test (divides_by_zero operator right) _ _ (fault DivideByZero)
          (with_given (binary_value operator left right) _ (λ v t.
          pushing f v l (binary_lacks u operator left right v t))))))

      and_lacks : Kept u under this 1 top → Spares u under this (and_op code top id)
      and_lacks self = with_branch (AND id) _ self (λ b h l. with_test b _ _ (goes h l) (pushing h (Truth false) l (λ q. cc (q))))

      or_lacks : Kept u under this 1 top → Spares u under this (or_op code top id)
      or_lacks self = with_branch (OR id) _ self (λ b h l. with_test b _ _ (pushing h (Truth true) l (λ q. cc (q))) (goes h l))

      if_lacks : Kept u under this 1 top → Spares u under this (if_op code top id)
      if_lacks self = with_branch (IF id) _ self (λ b h l. goes h l)

      loop_lacks : Kept u under this 1 top → Spares u under this (loop_op code top id)
      loop_lacks self = with_branch (LOOP id) _ self (λ b h l. goes h l)

      cast_lacks : Kept u under this 1 top → Spares u under this (cast_op code world top id)
      cast_lacks self =
          with_given (bound_class (binding code id)) _ (λ class e. with_pop 0 top _ self (λ operand n f l.
          of class f l operand n))
        where
          of : (class : ℕ) (f : Frame) → Kept u under this 0 f → (operand : Value) → (operand ≡ At u → ⊥) →
              Spares u under this (elim operand [
                | Null ↦ pushes f Null
                | At r ↦ given (world.object_at r) (λ o.
                    if is_sub code.program.classes o.class class then pushes f (At r) else Faults ClassCast)
                | Int z ↦ Stuck
                | Truth b ↦ Stuck
              ])
          of class f l Null n = pushing f Null l n
          of class f l (At r) n =
              with_given (world.object_at r) _ (λ o e. with_test (is_sub code.program.classes o.class class) _ _
              (pushing f (At r) l n) (fault ClassCast))
          of class f l (Int z) n = stuck
          of class f l (Truth b) n = stuck

      alloc_lacks : Kept u under this 0 top → Spares u under this (alloc_op code top id)
      alloc_lacks self =
          with_given (bound_class (binding code id)) _ (λ class e.
          makes top class (new_slots code.program class) self (slots_lack u code class))

      alloc_array_lacks : Kept u under this 1 top → Spares u under this (alloc_array_op code top id)
      alloc_array_lacks self =
          with_given (bound_class (binding code id)) _ (λ class e.
          with_given (element_kind code.program class) _ (λ kind q.
          with_pop 0 top _ self (λ count n f l. with_int count _ (λ z.
          with_test (is_negative z) _ _ (fault NegativeSize)
          (makes f class (new_elements kind (unsigned_abs z)) l
          (copies u (unsigned_abs z) (default_value kind) (default_lacks u kind)))))))

      constructs_lacks : (class count : ℕ) (keeps : Bool) → Kept u under this (count + 1) top →
          Spares u under this (constructs code top id class count keeps)
      constructs_lacks class count keeps self =
          with_given (constructor_body code.program class) _ (λ body e.
          with_pop_from 1 count top [] _ self tt (λ arguments a f l. with_pop 0 f _ l (λ object n g m.
          with_reference object _ n (λ r p. of body arguments a f g (fewer f 1 0 l (omega arith)) m r p keeps))))
        where
          of : (body : Body) (arguments : List Value) → AllLack u arguments → (f g : Frame) → Kept u under this 0 f →
              Kept u under this 0 g → (r : ℕ) → (At r ≡ At u → ⊥) → (keeps : Bool) →
              Spares u under this (Calls (if keeps then f else g) (new_frame code body (Some id) (Some r) f.area arguments))
          of body arguments a f g l m r p true =
              calls code f body (Some id) (Some r) f.area arguments l (some_other u r p) a
          of body arguments a f g l m r p false =
              calls code g body (Some id) (Some r) f.area arguments m (some_other u r p) a

      -- the arguments of the node
      counted : (count : ℕ) → part code argument_count id ≡ Some count → super_count code id ≡ count
      counted count q =
          ap (λ (o : Option ℕ). elim o as (λ z. ℕ) [ None ↦ 0 | Some c ↦ c ]) q

      construct_lacks : Kept u under this (super_count code id + 1) top → Spares u under this (construct_op code top id)
      construct_lacks self =
          with_given (bound_class (binding code id)) _ (λ class e. with_given (part code argument_count id) _ (λ count q.
          constructs_lacks class count true
          (subst (λ c. Kept u under this (c + 1) top) (counted count q) self)))

      super_lacks : Kept u under this (super_count code id + 1) top → Spares u under this (super_op code top id)
      super_lacks self =
          with_given (bound_class (binding code id)) _ (λ class e.
          constructs_lacks class (super_count code id) false self)

      call_lacks : Kept u under this (super_count code id + 1) top → Spares u under this (call_op code world top id)
      call_lacks self =
          with_given (bound_method (binding code id)) _ (λ method e. with_given (part code argument_count id) _ (λ count q.
          with_pop_from 1 count top [] _ (subst (λ c. Kept u under this (c + 1) top) (counted count q) self) tt
          (λ arguments a f l. with_pop 0 f _ l (λ object n f l.
          with_object object _ n (λ r p. with_given (world.object_at r) _ (λ o s.
          with_given (body_of code.program o.class method) _ (λ body t.
          calls code f body (Some id) (Some r) f.area arguments l (some_other u r p) a)))))))

      call_static_lacks : Kept u under this (super_count code id + 0) top → Spares u under this (call_static_op code top id)
      call_static_lacks self =
          with_given (bound_static_method (binding code id)) _ (λ method e.
          with_given (part code argument_count id) _ (λ count q.
          with_given (body_of code.program method.0 method.1) _ (λ body t.
          with_pop_from 0 count top [] _ (subst (λ c. Kept u under this (c + 0) top) (counted count q) self) tt
          (λ arguments a f l.
          calls code f body (Some id) None f.area arguments l (λ x. cc (x)) a))))

      run_lacks : (r : ℕ) (next : Object → Body → Effect) → ((o : Object) (body : Body) → Spares u under this (next o body)) →
          Spares u under this (with_run code world r next)
      run_lacks r next k =
          with_given (world.object_at r) _ (λ o e.
          with_given (body_named code.program o.class (codes "run")) _ (λ body q. k o body))

      enter_lacks : Kept u under this 2 top → Spares u under this (enter_op code world top id)
      enter_lacks self =
          with_pop 1 top _ self (λ runnable n f l. with_pop 0 f _ l (λ size m f l. with_object runnable _ n (λ r p.
          with_int size _ (λ z. with_test (is_negative z) _ _ (fault NegativeSize)
          (run_lacks r _ (λ o body. with_given (defined_by_chain code.program o.class) _ (λ scope e.
          opens code f body (Some id) (Some r) f.area scope (unsigned_abs z) l (some_other u r p))))))))

      execute_in_lacks : Kept u under this 2 top → Spares u under this (execute_in_op code world top id)
      execute_in_lacks self =
          with_pop 1 top _ self (λ runnable n f l. with_pop 0 f _ l (λ object m f l. with_object object _ m (λ place p.
          with_object runnable _ n (λ r s. with_given (world.object_at place) _ (λ there e.
          run_lacks r _ (λ o body. calls code f body (Some id) (Some r) there.area [] l (some_other u r s) tt))))))

      -- ---- stores and the framework

      with_locals : (f : Frame) (ls : List Value) → Kept u under this 0 f → AllLack u ls →
          Kept u under this 0 (record f { locals = ls })
      with_locals f ls l a = record {
        locals = a;
        above = l.above;
        lack = l.lack;
        is = l.is;
        enough = l.enough;
        is_this = l.is_this;
      }

      init_lacks : (top.this ≡ Some u → ⊥) → Kept u under this 0 top → Spares u under this (init_op code world top id)
      init_lacks own self =
          with_given (part code literal_written id >>= part code literal_value) _ (λ value e.
          with_given (bound_field (binding code id)) _ (λ field q. with_given top.this _ (λ r t.
          field_lacks r field _ (λ o a slot. stores top r slot value self
          (λ same. own (t ∙ ap (λ x. Some x) same)) (written value (part code literal_written id) e)))))
        where
          written : (v : Value) (o : Option ℕ) → (o >>= part code literal_value) ≡ Some v → v ≡ At u → ⊥
          written v None e q = cc (e)
          written v (Some x) e q = literal_in u (slice_get code.program.nodes x) v e q

      zero_lacks : Kept u under this 0 top → Spares u under this (zero_op code top id)
      zero_lacks self =
          with_given (bound_local (binding code id)) _ (λ k e.
          with_given (variable_at code.program.nodes id) _ (λ (d : Declared) q.
          goes (record top { locals = slice_set top.locals k (default_value (kind_of_type d.declared_type)) })
          (with_locals top _ self
          (set u top.locals k (default_value (kind_of_type d.declared_type)) self.locals
          (default_lacks u (kind_of_type d.declared_type))))))

      store_lacks : Kept u under this 1 top → Spares u under this (store_op code top id)
      store_lacks self =
          with_given (assigned code id >>= bound_local) _ (λ k e. with_pop 0 top _ self (λ v n f l.
          goes (record f { locals = slice_set f.locals k v }) (with_locals f _ l (set u f.locals k v l.locals n))))

      put_lacks : Kept u under this 2 top → Spares u under this (put_op code world top id)
      put_lacks self =
          with_given (assigned code id >>= bound_field) _ (λ field e.
          with_pop 1 top _ self (λ v n f l. with_pop 0 f _ l (λ object m f l. with_object object _ m (λ r p.
          field_lacks r field _ (λ o a slot. stores f r slot v l (other u r p) n)))))

      put_static_lacks : Kept u under this 1 top → Spares u under this (put_static_op code top id)
      put_static_lacks self =
          with_given (assigned code id >>= bound_static) _ (λ field e.
          with_given (static_index code.program field) _ (λ place q.
          with_pop 0 top _ self (λ v n f l. static_stored f place v l n)))

      put_elem_lacks : Kept u under this 3 top → Spares u under this (put_elem_op world top)
      put_elem_lacks self =
          with_pop 2 top _ self (λ v n f l. with_pop 1 f _ l (λ index m f l. with_pop 0 f _ l (λ array p f l.
          with_object array _ p (λ r s. with_int index _ (λ i. with_given (world.object_at r) _ (λ o e.
          at_index (index_in o.slots i) _ (λ k. stores f r k v l (other u r s) n)))))))

      with_area_of : (v : Value) (next : Option ℕ → Effect) → ((a : Option ℕ) → Spares u under this (next a)) →
          Spares u under this (with_area world v next)
      with_area_of Null next k = k None
      with_area_of (At r) next k = with_given (world.object_at r) _ (λ o e. k (Some o.area))
      with_area_of _ next k = stuck

      same_lacks : Kept u under this 2 top → Spares u under this (same_op world top)
      same_lacks self =
          with_pop 1 top _ self (λ second n f l. with_pop 0 f _ l (λ first m f l.
          with_area_of first _ (λ a. with_area_of second _ (λ b. pushing f (Truth (are_one_area a b)) l (λ q. cc (q))))))

      set_ceiling_lacks : Kept u under this 2 top → Spares u under this (set_ceiling_op top)
      set_ceiling_lacks self =
          with_pop 1 top _ self (λ ceiling n f l. with_pop 0 f _ l (λ object m f l. with_object object _ m (λ r p.
          with_int ceiling _ (λ c. with_test (is_priority c) _ _ (ceiling_set f r (unsigned_abs c) l (other u r p)) (fault BadPriority)))))

      print_lacks : Kept u under this 1 top → Spares u under this (print_op code top id)
      print_lacks self =
          with_given (part code first_argument id) _ (λ label e. with_pop 0 top _ self (λ v n f l. with_int v _ (λ z.
          printed f label z l)))

      read_lacks : Kept u under this 1 top → Spares u under this (read_op world top)
      read_lacks self =
          with_pop 0 top _ self (λ port n f l. with_int port _ (λ z. with_test (is_port z) _ _
          (pushing f (Int (world.reading (unsigned_abs z))) l (λ q. cc (q))) (fault BadPort)))

      register_lacks : Kept u under this 1 top → Spares u under this (register_op top)
      register_lacks self = with_pop 0 top _ self (λ v n f l. with_object v _ n (λ r m. registration f r l (other u r m)))

      release_lacks : Kept u under this 1 top → Spares u under this (release_op top)
      release_lacks self = with_pop 0 top _ self (λ v n f l. with_object v _ n (λ r m. release_asked f r l))

      terminate_lacks : Kept u under this 1 top → Spares u under this (terminate_op top)
      terminate_lacks self = with_pop 0 top _ self (λ v n f l. with_object v _ n (λ r m. termination f r l))

      leave_with_lacks : Kept u under this 1 top → Spares u under this (leave_with_op top)
      leave_with_lacks self =
          with_pop 0 top _ self (λ v n f l. left_with f v l n)

      leave_lacks : Kept u under this 0 top → Spares u under this (leave_op top)
      leave_lacks self = record { is = (self, λ e. cc (e)) }

      drop_lacks : Kept u under this 1 top → Spares u under this (drop_op top)
      drop_lacks self = with_pop 0 top _ self (λ v n f l. goes f l)

      periodic_lacks : (f : Frame) (r : ℕ) (vs : List Value) → Kept u under this 0 f → (r ≡ u → ⊥) →
          Spares u under this (periodic_parameters f r vs)
      periodic_lacks f r (Int priority ∷ Int sms ∷ Int sns ∷ Int pms ∷ Int pns ∷ Int storage ∷ []) l n =
          with_test (not (is_priority priority)) _ _ (fault BadPriority) (of (times_of sms sns pms pns))
        where
          of : (o : Option (ℕ × ℕ)) → Spares u under this (elim o [
            | None ↦ Faults BadPeriod
            | Some times ↦
                if is_negative storage then Faults NegativeSize
                else SetsHidden f r (Int priority ∷ Int storage ∷ Int (pos times.0) ∷ Int (pos times.1) ∷ [])
          ])
          of None = fault BadPeriod
          of (Some times) = with_test (is_negative storage) _ _ (fault NegativeSize) (hidden_set f r _ l n
              ((λ q. cc (q)), ((λ q. cc (q)), ((λ q. cc (q)), ((λ q. cc (q)), tt)))))
      periodic_lacks f r _ l n = stuck

      right_lacks : (vs : List Value) (next : ℤ → ℤ → Effect) → ((a b : ℤ) → Spares u under this (next a b)) →
          Spares u under this (right_parameters vs next)
      right_lacks (Int priority ∷ Int storage ∷ []) next k =
          with_test (not (is_priority priority)) _ _ (fault BadPriority)
          (with_test (is_negative storage) _ _ (fault NegativeSize) (k priority storage))
      right_lacks _ next k = stuck

      params_lacks : (top.this ≡ Some u → ⊥) → Kept u under this 6 top → Spares u under this (params_op code top id)
      params_lacks own self =
          with_given (bound_class (binding code id)) _ (λ superclass e. with_given top.this _ (λ r t.
          with_test (superclass == periodic_handler) _ _
          (with_pop_from 0 6 top [] _ self tt (λ vs a f l. periodic_lacks f r vs l (differs r t)))
          (with_test (superclass == mission_sequencer) _ _
          (with_pop_from 0 2 top [] _ (fewer top 6 2 self (omega arith)) tt (λ vs a f l. right_lacks vs _ (λ a b. goes f l)))
          (with_pop_from 0 2 top [] _ (fewer top 6 2 self (omega arith)) tt (λ vs a f l. right_lacks vs _ (λ a b.
          hidden_set f r (Int a ∷ Int b ∷ []) l (differs r t) ((λ q. cc (q)), ((λ q. cc (q)), tt))))))))
        where
          differs : (r : ℕ) → top.this ≡ Some r → r ≡ u → ⊥
          differs r t same = own (t ∙ ap (λ x. Some x) same)

    -- no operation of such a frame names the object
    pub operation_spares : (world : Environment) →
        ((r : ℕ) (o : Object) → world.object_at r ≡ Some o → AllLack u o.slots) → AllLack u world.statics →
        (op : Op) → (UsesThis op → top.this ≡ Some u → ⊥) → Kept u under this (pops code op) top →
        Spares u under this (effect_of code world top op)
    unfolding effect_of pops UsesThis
    operation_spares world objects statics (PUSH id) own self = push_lacks world objects statics id self
    operation_spares world objects statics (THIS id) own self = this_lacks world objects statics id (own tt) self
    operation_spares world objects statics (LOAD id) own self = load_lacks world objects statics id self
    operation_spares world objects statics (GET id) own self = get_lacks world objects statics id self
    operation_spares world objects statics (GETSTATIC id) own self = get_static_lacks world objects statics id self
    operation_spares world objects statics (LENGTH id) own self = length_lacks world objects statics id self
    operation_spares world objects statics (ELEM id) own self = elem_lacks world objects statics id self
    operation_spares world objects statics (UNARY id) own self = unary_does world objects statics id self
    operation_spares world objects statics (BIN id) own self = bin_does world objects statics id self
    operation_spares world objects statics (AND id) own self = and_lacks world objects statics id self
    operation_spares world objects statics (OR id) own self = or_lacks world objects statics id self
    operation_spares world objects statics (ALLOC id) own self = alloc_lacks world objects statics id self
    operation_spares world objects statics (CONSTRUCT id) own self = construct_lacks world objects statics id self
    operation_spares world objects statics (ALLOCARRAY id) own self = alloc_array_lacks world objects statics id self
    operation_spares world objects statics (CALL id) own self = call_lacks world objects statics id self
    operation_spares world objects statics (CALLSTATIC id) own self = call_static_lacks world objects statics id self
    operation_spares world objects statics (CAST id) own self = cast_lacks world objects statics id self
    operation_spares world objects statics (ENTER id) own self = enter_lacks world objects statics id self
    operation_spares world objects statics (EXECUTEIN id) own self = execute_in_lacks world objects statics id self
    operation_spares world objects statics (SAME id) own self = same_lacks world objects statics id self
    operation_spares world objects statics (SETCEILING id) own self = set_ceiling_lacks world objects statics id self
    operation_spares world objects statics (PRINT id) own self = print_lacks world objects statics id self
    operation_spares world objects statics (READ id) own self = read_lacks world objects statics id self
    operation_spares world objects statics (REGISTER id) own self = register_lacks world objects statics id self
    operation_spares world objects statics (RELEASE id) own self = release_lacks world objects statics id self
    operation_spares world objects statics (TERMINATE id) own self = terminate_lacks world objects statics id self
    operation_spares world objects statics (ZERO id) own self = zero_lacks world objects statics id self
    operation_spares world objects statics (STORE id) own self = store_lacks world objects statics id self
    operation_spares world objects statics (PUT id) own self = put_lacks world objects statics id self
    operation_spares world objects statics (PUTSTATIC id) own self = put_static_lacks world objects statics id self
    operation_spares world objects statics (PUTELEM id) own self = put_elem_lacks world objects statics id self
    operation_spares world objects statics (IF id) own self = if_lacks world objects statics id self
    operation_spares world objects statics (LOOP id) own self = loop_lacks world objects statics id self
    operation_spares world objects statics (LEAVEWITH id) own self = leave_with_lacks world objects statics id self
    operation_spares world objects statics LEAVE own self = leave_lacks world objects statics 0 self
    operation_spares world objects statics (DROP id) own self = drop_lacks world objects statics id self
    operation_spares world objects statics (INIT id) own self = init_lacks world objects statics id (own tt) self
    operation_spares world objects statics (SUPER id) own self = super_lacks world objects statics id self
    operation_spares world objects statics (PARAMS id) own self = params_lacks world objects statics id (own tt) self
