-- The operands of frames are what is known of them: each operation of a frame keeps that.
use Rattle.std.specs.Prelude.{Option, Some, None, is_some, slice_get, slice_set, ℤ, pos, length, unsigned_abs, ◌==◌, not, option_map, codes, nat_lt}
use Rattle.std.specs.Int.{is_negative}
use Rattle.std.proofs.Common.{◌≡◌, ℕ, zero, suc, ◌+◌, List, [], ◌∷◌, ◌++◌, Bool, true, false, refl, sym, ap, ◌∙◌, subst, arith, if◌then◌else◌, append-nil}
use Rattle.scj_base.specs.declared.faults.RunFault.{RunFault}
use Rattle.scj_base.specs.declared.faults.RunFault.TheVariants.{NullPointer, ArrayIndex, NegativeSize, DivideByZero, ClassCast, BadPriority, BadPeriod, BadPort}
use Rattle.scj_base.specs.declared.values.Value.{Value}
use Rattle.scj_base.specs.declared.values.Value.TheVariants.{Int, Bool as Truth, Null, At}
use Rattle.scj_builtins.specs.Framework.{mission_sequencer, periodic_handler}
use Rattle.scj_tree.specs.declared.nodes.Node.{Node}
use Rattle.scj_tree.specs.declared.nodes.Node.TheVariants.{While, For}
use Rattle.scj_rules.specs.declared.views.Body.{Body}
use Rattle.scj_rules.specs.declared.views.Body.TheVariants.{Written, Empty}
use Rattle.scj_rules.specs.declared.views.Declared.{Declared}
use Rattle.scj_rules.specs.Words.{◌>>=◌}
use Rattle.scj_rules.specs.Views.{variable_at}
use Rattle.scj_rules.specs.Classes.{is_sub}
use Rattle.scj_rules.specs.ScopeRules.{defined_by_chain}
use Rattle.scj_rules.specs.Layout.{slot_of, static_index, element_kind, literal_written, kind_of_type}
use Rattle.scj_rules.specs.Bodies.{body_named, body_of, constructor_body}
use Rattle.scj_model.specs.declared.operations.Op.{Op}
use Rattle.scj_model.specs.declared.operations.Op.TheVariants.{Push as PUSH, This as THIS, Load as LOAD, Get as GET, GetStatic as GETSTATIC, Length as LENGTH, Elem as ELEM, Unary as UNARY, Bin as BIN, And as AND, Or as OR, Alloc as ALLOC, Construct as CONSTRUCT, AllocArray as ALLOCARRAY, Call as CALL, CallStatic as CALLSTATIC, Cast as CAST, Enter as ENTER, ExecuteIn as EXECUTEIN, Same as SAME, SetCeiling as SETCEILING, Print as PRINT, Read as READ, Register as REGISTER, Release as RELEASE, Terminate as TERMINATE, Zero as ZERO, Store as STORE, Put as PUT, PutStatic as PUTSTATIC, PutElem as PUTELEM, If as IF, Loop as LOOP, LeaveWith as LEAVEWITH, Leave as LEAVE, Drop as DROP, Init as INIT, Super as SUPER, Params as PARAMS}
use Rattle.scj_model.specs.Code.{Code, binding, part}
use Rattle.scj_model.specs.State.{Object, Frame}
use Rattle.scj_model.specs.Memory.{literal_value, default_value, new_slots, new_elements}
use Rattle.scj_model.specs.Arithmetic.{binary_value, divides_by_zero, unary_value}
use Rattle.scj_model.specs.Ops.{ops_of, body_ops, leaves_value, put_in_front, right_operand, if_parts, iteration_ops, optional_ops}
use Rattle.scj_model.specs.Effects.{as_reference, Effect, Goes, Prints, Makes, Stores, StoresStatic, SetsHidden, SetsCeiling, Calls, Opens, Leaves, AsksRegistration, AsksRelease, AsksTermination, Faults, Stuck, given, pop, pop_from, pop_all, pushes, as_object, new_frame}
use Rattle.scj_model.specs.Operations.{Environment, effect_of, bound_local, bound_field, bound_static, bound_class, bound_method, bound_static_method, operator_of, assigned, argument_count, first_argument, super_count, with_field, with_run, with_area, are_one_area, index_in, is_port, is_priority, periodic_parameters, right_parameters, times_of, constructs}
use Rattle.priority_laws.proofs.OperationCases.{on_given, on_if, on_int, on_reference, on_object, on_truth}
use Rattle.certain_faults.specs.declared.known.Known.{Known}
use Rattle.certain_faults.specs.declared.known.Known.TheVariants.{Unknown, Exactly, Object as AnObject}
use Rattle.certain_faults.specs.declared.known.Left.{Left}
use Rattle.certain_faults.specs.declared.known.Left.TheVariants.{Forgets, Zero, One, Two, Four}
use Rattle.certain_faults.specs.Known.{known, unary_known, binary_known, left_by_literal, left_by}
use Rattle.certain_faults.proofs.Stacks.{Stack, nothing, put, taken, dropped, dropped_taken, with_left, Less, less_nothing, less_unknown, less_same}
use Rattle.certain_faults.proofs.Passes.{asked, unary_by, binary_by, behind_right, behind_arguments, with_result, behind_call, behind_static_call, part_left, left_below, step, Passes, passes_less, Any, any_none, any_then, any_op}
use Rattle.certain_faults.proofs.RunsOfNodes.{ClassesAskNothing, nodes_run, nodes_run_anywhere}

-- ---- values

abbrev pub Holds : Known → Option Value → Type 0
Holds Unknown o = Unit {0}
Holds (Exactly v) o = o ≡ Some v
Holds AnObject o = (r : ℕ) × (o ≡ Some (At r))

pub record Shadows (s : Stack) (operands : List Value) : Type 0 where
  pub is : (n : ℕ) → Holds (s n) (slice_get operands n)

pub shadows_nothing : (operands : List Value) → Shadows nothing operands
shadows_nothing operands = record { is = λ n. tt }

pub shadows_put : (k : Known) (s : Stack) (v : Value) (operands : List Value) → Holds k (Some v) → Shadows s operands →
    Shadows (put k s) (v ∷ operands)
shadows_put k s v operands h x = record { is = λ n. go n }
  where
    go : (n : ℕ) → Holds (put k s n) (slice_get (v ∷ operands) n)
    go zero = h
    go (suc n) = x.is n

pub shadows_taken : (s : Stack) (v : Value) (operands : List Value) → Shadows s (v ∷ operands) →
    Shadows (taken s) operands
shadows_taken s v operands x = record { is = λ n. x.is (suc n) }

-- ---- frames

-- a frame that goes on: its operations meet what is known of the operands, as P says
pub record ExplainedBy (P : List Op → Stack → Type 0) (f : Frame) : Type 0 where
  pub stack : Stack
  pub passes : P f.rest stack
  pub shadows : Shadows stack f.operands

abbrev pub Explained : Code → Frame → Type 0
Explained code f = ExplainedBy (Passes code) f

-- a frame under one that runs this body, of which may be said whether it gives a value
abbrev pub with_given : Option Value → List Value → List Value
with_given None operands = operands
with_given (Some v) operands = v ∷ operands

pub record WaitsBy (P : List Op → Stack → Type 0) (Gives : Body → Bool → Type 0) (f : Frame) (body : Body) : Type 0 where
  pub stack : Stack
  pub passes : P f.rest stack
  pub returns : (v : Option Value) → ((b : Bool) → Gives body b → is_some v ≡ b) →
      Shadows stack (with_given v f.operands)

abbrev pub Waits : Code → (Body → Bool → Type 0) → Frame → Body → Type 0
Waits code Gives f body = WaitsBy (Passes code) Gives f body

-- the body that an operation calls gives no value where it is a constructor's, and one where what is bound leaves one.
-- The object of a call stands behind the arguments
abbrev pub GivesAsBound : Code → (Body → Bool → Type 0) → Environment → Frame → Op → Type 0
GivesAsBound code G world f (CONSTRUCT id) =
    (class : ℕ) (body : Body) → bound_class (binding code id) ≡ Some class →
    constructor_body code.program class ≡ Some body → G body false
GivesAsBound code G world f (CALL id) =
    (method count r : ℕ) (o : Object) (body : Body) → bound_method (binding code id) ≡ Some method →
    part code argument_count id ≡ Some count → slice_get f.operands count ≡ Some (At r) →
    world.object_at r ≡ Some o → body_of code.program o.class method ≡ Some body →
    G body (leaves_value (binding code id))
GivesAsBound code G world f (CALLSTATIC id) =
    (method : ℕ × ℕ) (body : Body) → bound_static_method (binding code id) ≡ Some method →
    body_of code.program method.0 method.1 ≡ Some body → G body (leaves_value (binding code id))
GivesAsBound code G world f _ = Unit {0}

-- the right operand of an operation may come in front of those that are left, and so may any part where nothing is known
abbrev pub GoesInFront : Code → (List Op → Stack → Type 0) → List Op → ℕ → Type 0
GoesInFront code P rest id =
    (x : ℕ) → part code right_operand id ≡ Some x → (s : Stack) → P rest (with_left (left_by code x) s) →
    P (ops_of code x ++ rest) s

abbrev pub AnyInFront : Code → (List Op → Stack → Type 0) → List Op → Type 0
AnyInFront code P rest = (xs : List Op) → Any code xs → P rest nothing → P (xs ++ rest) nothing

-- what an operation needs besides: L is what is known of a frame that leaves
abbrev pub InFront : Code → (List Op → Stack → Type 0) → Type 0 → List Op → Op → Type 0
InFront code P L rest (AND id) = GoesInFront code P rest id
InFront code P L rest (OR id) = GoesInFront code P rest id
InFront code P L rest (IF id) = AnyInFront code P rest
InFront code P L rest (LOOP id) = AnyInFront code P rest
InFront code P L rest (LEAVEWITH id) = L
InFront code P L rest LEAVE = L
InFront code P L rest _ = Unit {0}

module _ (code : Code) (G : Body → Bool → Type 0) (P : List Op → Stack → Type 0) (L : Type 0) where
  abbrev pub IsExplained : Effect → Type 0
  IsExplained (Goes h) = ExplainedBy P h
  IsExplained (Prints h label value) = ExplainedBy P h
  IsExplained (Makes h class slots) = (r : ℕ) → ExplainedBy P (record h { operands = At r ∷ h.operands })
  IsExplained (Stores h r slot value) = ExplainedBy P h
  IsExplained (StoresStatic h place value) = ExplainedBy P h
  IsExplained (SetsHidden h r values) = ExplainedBy P h
  IsExplained (SetsCeiling h r ceiling) = ExplainedBy P h
  IsExplained (Calls h g) = WaitsBy P G h g.body × Explained code g
  IsExplained (Opens h g scope bytes) = WaitsBy P G h g.body × Explained code g
  IsExplained (Leaves h value) = L
  IsExplained (AsksRegistration h r) = ExplainedBy P h
  IsExplained (AsksRelease h r) = ExplainedBy P h
  IsExplained (AsksTermination h r) = ExplainedBy P h
  IsExplained (Faults fault) = Unit {0}
  IsExplained Stuck = Unit {0}

  pub record Fine (e : Effect) : Type 0 where
    pub is : IsExplained e

  stuck : Fine Stuck
  stuck = record { is = tt }

  faults : (x : RunFault) → Fine (Faults x)
  faults x = record { is = tt }

  module _ (bare : ClassesAskNothing code) where
    -- ---- new frames

    body_passes : (body : Body) → Passes code (body_ops code body) nothing
    unfolding body_ops asked
    body_passes (Written node) =
        subst (λ (xs : List Op). Passes code xs nothing) (append-nil (ops_of code node))
        (((nodes_run_anywhere code bare node).is nothing).is None [] tt)
    body_passes Empty = (less_nothing nothing, tt, tt)

    pub new_explained : (body : Body) (called_at this : Option ℕ) (area : ℕ) (arguments : List Value) →
        Explained code (new_frame code body called_at this area arguments)
    unfolding new_frame
    new_explained body called_at this area arguments =
        record { stack = nothing; passes = body_passes body; shadows = shadows_nothing [] }

    -- ---- one operation: `rest` are the operations behind it

    module _ (rest : List Op) (less : (s t : Stack) → Less s t → P rest s → P rest t) where
      -- a frame on the way, of whose operands this is known
      pub record Stands (s : Stack) (h : Frame) : Type 0 where
        pub same : h.rest ≡ rest
        pub shadows : Shadows s h.operands

      stands_less : (h : Frame) → h.rest ≡ rest → Stands nothing h
      stands_less h e = record { same = e; shadows = shadows_nothing h.operands }

      explained : (s : Stack) (h : Frame) → Stands s h → P rest s → ExplainedBy P h
      explained s h x p =
          record {
            stack = s;
            passes = subst (λ (xs : List Op). P xs s) (sym x.same) p;
            shadows = x.shadows;
          }

      on_popped : (s : Stack) (h : Frame) (next : Value → Frame → Effect) → Stands s h →
          ((v : Value) (k : Frame) → h.operands ≡ v ∷ k.operands → Holds (s 0) (Some v) → Stands (taken s) k →
          Fine (next v k)) → Fine (pop h next)
      on_popped s h next x more = go h.operands refl
        where
          go : (vs : List Value) → h.operands ≡ vs →
              Fine (elim vs as (λ z. Effect) [ [] ↦ Stuck | value ∷ below ↦ next value (record h { operands = below }) ])
          go [] e = stuck
          go (v ∷ below) e =
              (let y : Shadows s (v ∷ below) = subst (Shadows s) e x.shadows in
              more v (record h { operands = below }) e (y.is 0)
              (record { same = x.same; shadows = shadows_taken s v below y }))

      on_pop : (s : Stack) (h : Frame) (next : Value → Frame → Effect) → Stands s h →
          ((v : Value) (k : Frame) → Holds (s 0) (Some v) → Stands (taken s) k → Fine (next v k)) → Fine (pop h next)
      on_pop s h next x more = on_popped s h next x (λ v k e holds y. more v k holds y)

      -- the operands that are left stood behind those that are popped
      abbrev StoodBehind : ℕ → Frame → Frame → Type 0
      StoodBehind count h k = (n : ℕ) → slice_get h.operands (count + n) ≡ slice_get k.operands n

      on_popped_from : (count : ℕ) (s : Stack) (h : Frame) (got : List Value) (next : List Value → Frame → Effect) →
          Stands s h →
          ((vs : List Value) (k : Frame) → StoodBehind count h k → Stands (dropped count s) k → Fine (next vs k)) →
          Fine (pop_from count h got next)
      on_popped_from zero s h got next x more =
          more got h (λ n. ap (slice_get h.operands) (let same : zero + n ≡ n = omega arith in same)) x
      on_popped_from (suc count) s h got next x more =
          on_popped s h (λ v g. pop_from count g (v ∷ got) next) x
          (λ v k e holds y. on_popped_from count (taken s) k (v ∷ got) next y
          (λ vs l b z. more vs l (λ n. ap (λ (us : List Value). slice_get us (suc count + n)) e
          ∙ ap (slice_get (v ∷ k.operands)) (let same : suc count + n ≡ suc (count + n) = omega arith in same) ∙ b n)
          (subst (λ (t : Stack). Stands t l) (dropped_taken count s) z)))

      on_pop_all : (count : ℕ) (s : Stack) (h : Frame) (next : List Value → Frame → Effect) → Stands s h →
          ((vs : List Value) (k : Frame) → Stands (dropped count s) k → Fine (next vs k)) →
          Fine (pop_all count h next)
      on_pop_all count s h next x more = on_popped_from count s h [] next x (λ vs k b z. more vs k z)

      on_reference_at : (v : Value) (next : ℕ → Effect) → ((r : ℕ) → v ≡ At r → Fine (next r)) →
          Fine (as_reference v next)
      on_reference_at (At r) next h = h r refl
      on_reference_at Null next h = stuck
      on_reference_at (Int z) next h = stuck
      on_reference_at (Truth b) next h = stuck

      on_object_at : (v : Value) (next : ℕ → Effect) → ((r : ℕ) → v ≡ At r → Fine (next r)) → Fine (as_object v next)
      on_object_at (At r) next h = h r refl
      on_object_at Null next h = faults NullPointer
      on_object_at (Int z) next h = stuck
      on_object_at (Truth b) next h = stuck

      pushed : (k : Known) (s : Stack) (h : Frame) (v : Value) → Stands s h → Holds k (Some v) →
          P rest (put k s) → Fine (pushes h v)
      pushed k s h v x holds p =
          record {
            is = record {
              stack = put k s;
              passes = subst (λ (xs : List Op). P xs (put k s)) (sym x.same) p;
              shadows = shadows_put k s v h.operands holds x.shadows;
            };
          }

      -- the next effect that asks for nothing more
      goes : (s : Stack) (h : Frame) → Stands s h → P rest s → Fine (Goes h)
      goes s h x p = record { is = explained s h x p }

      calls_plain : (s : Stack) (h : Frame) (body : Body) (called_at this : Option ℕ) (area : ℕ)
          (arguments : List Value) → Stands s h → P rest nothing →
          Fine (Calls h (new_frame code body called_at this area arguments))
      unfolding new_frame
      calls_plain s h body called_at this area arguments x p =
          record {
            is = (
              record {
                stack = nothing;
                passes = subst (λ (xs : List Op). P xs nothing) (sym x.same) p;
                returns = λ v e. shadows_nothing (with_given v h.operands);
              },
              record { stack = nothing; passes = body_passes body; shadows = shadows_nothing [] },
            );
          }

      calls_constructor : (s : Stack) (h : Frame) (body : Body) (called_at this : Option ℕ) (area : ℕ)
          (arguments : List Value) → G body false → Stands s h → P rest s →
          Fine (Calls h (new_frame code body called_at this area arguments))
      unfolding new_frame
      calls_constructor s h body called_at this area arguments g x p =
          record {
            is = (
              record {
                stack = s;
                passes = subst (λ (xs : List Op). P xs s) (sym x.same) p;
                returns = λ v e. nothing_given v (e false g);
              },
              record { stack = nothing; passes = body_passes body; shadows = shadows_nothing [] },
            );
          }
        where
          nothing_given : (v : Option Value) → is_some v ≡ false → Shadows s (with_given v h.operands)
          nothing_given None e = x.shadows
          nothing_given (Some v) e = absurd (cc (e))

      -- the method leaves a value as is bound
      calls_method : (gives : Bool) (s : Stack) (h : Frame) (body : Body) (called_at this : Option ℕ) (area : ℕ)
          (arguments : List Value) → G body gives → Stands s h → P rest (with_result gives s) →
          Fine (Calls h (new_frame code body called_at this area arguments))
      unfolding new_frame
      calls_method false s h body called_at this area arguments g x p =
          calls_plain s h body called_at this area arguments x p
      calls_method true s h body called_at this area arguments g x p =
          record {
            is = (
              record {
                stack = put Unknown s;
                passes = subst (λ (xs : List Op). P xs (put Unknown s)) (sym x.same) p;
                returns = λ v e. one_given v (e true g);
              },
              record { stack = nothing; passes = body_passes body; shadows = shadows_nothing [] },
            );
          }
        where
          one_given : (v : Option Value) → is_some v ≡ true → Shadows (put Unknown s) (with_given v h.operands)
          one_given None e = absurd (cc (e))
          one_given (Some v) e = shadows_put Unknown s v h.operands tt x.shadows

      -- ---- operators

      unary_holds : (operator : ℕ) (k : Known) (v value : Value) → Holds k (Some v) →
          unary_value operator v ≡ Some value → Holds (unary_known operator k) (Some value)
      unfolding unary_known known
      unary_holds operator Unknown v value h e = tt
      unary_holds operator AnObject v value h e = tt
      unary_holds operator (Exactly w) v value h e =
          let same : v ≡ w = cc (h) in
          subst (λ (o : Option Value). Holds (known o) (Some value)) (sym (ap (unary_value operator) (sym same) ∙ e))
          (holds_known value)
        where
          holds_known : (value : Value) → Holds (known (Some value)) (Some value)
          holds_known value = refl

      binary_holds : (operator : ℕ) (a b : Known) (l r value : Value) → Holds a (Some l) → Holds b (Some r) →
          divides_by_zero operator r ≡ false → binary_value operator l r ≡ Some value →
          Holds (binary_known operator a b) (Some value)
      unfolding binary_known known
      binary_holds operator (Exactly x) (Exactly y) l r value h k safe e =
          let left : l ≡ x = cc (h) in
          let right : r ≡ y = cc (k) in
          let gives : binary_value operator x y ≡ Some value =
          ap (λ z. binary_value operator z y) (sym left) ∙ ap (binary_value operator l) (sym right) ∙ e in
          let test : divides_by_zero operator y ≡ false = ap (divides_by_zero operator) (sym right) ∙ safe in
          subst (λ (b : Bool). Holds (if b then Unknown else known (binary_value operator x y)) (Some value)) (sym test)
          (subst (λ (o : Option Value). Holds (known o) (Some value)) (sym gives) (holds_known value))
        where
          holds_known : (value : Value) → Holds (known (Some value)) (Some value)
          holds_known value = refl
      binary_holds operator Unknown b l r value h k safe e = tt
      binary_holds operator AnObject b l r value h k safe e = tt
      binary_holds operator (Exactly x) Unknown l r value h k safe e = tt
      binary_holds operator (Exactly x) AnObject l r value h k safe e = tt

      -- ---- parts that are put in front

      right_in_front : (l : Left) (s : Stack) → Less (behind_right l s) (with_left l (taken s))
      unfolding with_left
      right_in_front Forgets s = less_nothing nothing
      right_in_front Zero s = less_nothing _
      right_in_front (One a) s = less_unknown a (taken s) (taken s) (less_same (taken s))
      right_in_front (Two a b) s = less_nothing _
      right_in_front (Four a b c d) s = less_nothing _

      right_left_out : (l : Left) (s : Stack) → Less (behind_right l s) (put Unknown (taken s))
      right_left_out Forgets s = less_nothing _
      right_left_out Zero s = less_nothing _
      right_left_out (One a) s = less_same _
      right_left_out (Two a b) s = less_nothing _
      right_left_out (Four a b c d) s = less_nothing _

      below_in_front : (id right : ℕ) (s : Stack) →
          Less (behind_right (left_below code id right) s) (with_left (left_by code right) (taken s))
      below_in_front id right s = go (nat_lt right id)
        where
          go : (b : Bool) →
              Less (behind_right (if b then left_by code right else Forgets) s) (with_left (left_by code right) (taken s))
          go true = right_in_front (left_by code right) s
          go false = less_nothing _

      -- the right operand comes next
      comes_next : (id : ℕ) (s : Stack) (k : Frame) (right : ℕ) → part code right_operand id ≡ Some right →
          GoesInFront code P rest id → Stands (taken s) k →
          P rest (behind_right (left_below code id right) s) →
          ExplainedBy P (record k { rest = ops_of code right ++ k.rest })
      comes_next id s k right is node x p =
          record {
            stack = taken s;
            passes = subst (λ (xs : List Op). P (ops_of code right ++ xs) (taken s)) (sym x.same)
                (node right is (taken s)
                (less (behind_right (left_below code id right) s)
                (with_left (left_by code right) (taken s)) (below_in_front id right s) p));
            shadows = x.shadows;
          }

      left_out : (l : Left) (s : Stack) (k : Frame) (v : Value) → Stands (taken s) k →
          P rest (behind_right l s) → Fine (pushes (record k { rest = [] ++ k.rest }) v)
      left_out l s k v x p =
          pushed Unknown (taken s) (record k { rest = [] ++ k.rest }) v
          (record { same = x.same; shadows = x.shadows }) tt
          (less (behind_right l s) (put Unknown (taken s)) (right_left_out l s) p)

      some_is : {A : Type 0} (a b : A) → Some a ≡ Some b → a ≡ b
      some_is a b e = cc (e)

      -- any operations that go through anywhere, in front of those that are left
      in_front : AnyInFront code P rest → (xs : List Op) (k : Frame) → k.rest ≡ rest → Any code xs → P rest nothing →
          Fine (Goes (record k { rest = xs ++ k.rest }))
      in_front any xs k same a p =
          record {
            is = record {
              stack = nothing;
              passes = subst (λ (ys : List Op). P (xs ++ ys) nothing) (sym same) (any xs a p);
              shadows = shadows_nothing k.operands;
            };
          }

      any_option : (o : Option ℕ) → Any code (optional_ops code o)
      unfolding optional_ops
      any_option None = any_none code
      any_option (Some x) = nodes_run_anywhere code bare x

      any_iteration : (id : ℕ) (node : Node) (turn : List Op) → iteration_ops code id node ≡ Some turn → Any code turn
      unfolding iteration_ops asked
      any_iteration id (While place condition body) turn e =
          subst (Any code) (some_is _ turn e)
          (any_then code (ops_of code body) (ops_of code condition ++ LOOP id ∷ []) (nodes_run_anywhere code bare body)
          (any_then code (ops_of code condition) (LOOP id ∷ []) (nodes_run_anywhere code bare condition)
          (any_op code (LOOP id) refl (λ r. tt))))
      any_iteration id (For place first condition step body) turn e =
          subst (Any code) (some_is _ turn e)
          (any_then code (ops_of code body) (ops_of code step ++ (ops_of code condition ++ LOOP id ∷ []))
          (nodes_run_anywhere code bare body)
          (any_then code (ops_of code step) (ops_of code condition ++ LOOP id ∷ []) (nodes_run_anywhere code bare step)
          (any_then code (ops_of code condition) (LOOP id ∷ []) (nodes_run_anywhere code bare condition)
          (any_op code (LOOP id) refl (λ r. tt)))))
      any_iteration id node turn e = absurd (cc (e))

      -- ---- the operations

      module _ (world : Environment) (f : Frame) (s : Stack) (x : Stands s f) where
        abbrev pub IsLeft : Op → Type 0
        IsLeft op = P rest (step code op s)

        on_field : (r field : ℕ) (next : Object → ℕ → Effect) → ((o : Object) (slot : ℕ) → Fine (next o slot)) →
            Fine (with_field code world r field next)
        on_field r field next h =
            on_given Fine stuck faults (world.object_at r) _
            (λ o e. on_given Fine stuck faults (slot_of code.program o.class field) _ (λ slot k. h o slot))

        on_run : (r : ℕ) (next : Object → Body → Effect) → ((o : Object) (body : Body) → Fine (next o body)) →
            Fine (with_run code world r next)
        on_run r next h =
            on_given Fine stuck faults (world.object_at r) _
            (λ o e. on_given Fine stuck faults (body_named code.program o.class (codes "run")) _ (λ body k. h o body))

        on_area : (v : Value) (next : Option ℕ → Effect) → ((a : Option ℕ) → Fine (next a)) →
            Fine (with_area world v next)
        on_area Null next h = h None
        on_area (At r) next h = on_given Fine stuck faults (world.object_at r) _ (λ (o : Object) e. h (Some o.area))
        on_area (Int z) next h = stuck
        on_area (Truth b) next h = stuck

        pushes_literal : (o : Option Value) → P rest (with_left (left_by_literal o) s) →
            Fine (given o (λ value. pushes f value))
        unfolding left_by_literal with_left
        pushes_literal None p = stuck
        pushes_literal (Some v) p = pushed (Exactly v) s f v x refl p

        unary_fine : (o : Option ℕ) → P rest (put (unary_by o (s 0)) (taken s)) →
            Fine (given o (λ operator. pop f (λ operand f. given (unary_value operator operand) (λ value. pushes f value))))
        unary_fine None p = stuck
        unary_fine (Some operator) p =
            on_pop s f _ x (λ v k holds y. on_given Fine stuck faults (unary_value operator v) _
            (λ value e. pushed (unary_known operator (s 0)) (taken s) k value y
            (unary_holds operator (s 0) v value holds e) p))

        bin_fine : (o : Option ℕ) → P rest (put (binary_by o (s 1) (s 0)) (taken (taken s))) →
            Fine (given o (λ operator. pop f (λ right f. pop f (λ left f.
            if divides_by_zero operator right then Faults DivideByZero
            else given (binary_value operator left right) (λ value. pushes f value)))))
        bin_fine None p = stuck
        bin_fine (Some operator) p =
            on_pop s f _ x (λ right k holds_right y. on_pop (taken s) k _ y (λ left l holds_left z.
            on_if Fine stuck faults (divides_by_zero operator right) _ _ (λ e. faults DivideByZero)
            (λ safe. on_given Fine stuck faults (binary_value operator left right) _
            (λ value e. pushed (binary_known operator (s 1) (s 0)) (taken (taken s)) l value z
            (binary_holds operator (s 1) (s 0) left right value holds_left holds_right safe e) p))))

        and_fine : (id : ℕ) → IsLeft (AND id) → GoesInFront code P rest id → Fine (effect_of code world f (AND id))
        unfolding effect_of step put_in_front
        and_fine id p node = on_pop s f _ x (λ v k holds y. on_truth Fine stuck faults v _ (λ b. front b k y))
          where
            chosen : (b : Bool) (k : Frame) → Stands (taken s) k → (o : Option ℕ) → part code right_operand id ≡ o →
                P rest (behind_right (part_left code id o) s) →
                (ops : List Op) → option_map (λ right. if b then ops_of code right else []) o ≡ Some ops →
                Fine (if b then Goes (record k { rest = ops ++ k.rest })
                else pushes (record k { rest = ops ++ k.rest }) (Truth false))
            chosen b k y None is q ops e = absurd (cc (e))
            chosen true k y (Some right) is q ops e =
                subst (λ (xs : List Op). Fine (Goes (record k { rest = xs ++ k.rest }))) (some_is (ops_of code right) ops e)
                (record { is = comes_next id s k right is node y q })
            chosen false k y (Some right) is q ops e =
                subst (λ (xs : List Op). Fine (pushes (record k { rest = xs ++ k.rest }) (Truth false))) (some_is [] ops e)
                (left_out (left_below code id right) s k (Truth false) y q)

            front : (b : Bool) (k : Frame) → Stands (taken s) k →
                Fine (given (put_in_front code (AND id) b) (λ ops.
                if b then Goes (record k { rest = ops ++ k.rest })
                else pushes (record k { rest = ops ++ k.rest }) (Truth false)))
            front b k y =
                on_given Fine stuck faults
                (option_map (λ right. if b then ops_of code right else []) (part code right_operand id)) _
                (λ ops e. chosen b k y (part code right_operand id) refl p ops e)

        or_fine : (id : ℕ) → IsLeft (OR id) → GoesInFront code P rest id → Fine (effect_of code world f (OR id))
        unfolding effect_of step put_in_front
        or_fine id p node = on_pop s f _ x (λ v k holds y. on_truth Fine stuck faults v _ (λ b. front b k y))
          where
            chosen : (b : Bool) (k : Frame) → Stands (taken s) k → (o : Option ℕ) → part code right_operand id ≡ o →
                P rest (behind_right (part_left code id o) s) →
                (ops : List Op) → option_map (λ right. if b then [] else ops_of code right) o ≡ Some ops →
                Fine (if b then pushes (record k { rest = ops ++ k.rest }) (Truth true)
                else Goes (record k { rest = ops ++ k.rest }))
            chosen b k y None is q ops e = absurd (cc (e))
            chosen false k y (Some right) is q ops e =
                subst (λ (xs : List Op). Fine (Goes (record k { rest = xs ++ k.rest }))) (some_is (ops_of code right) ops e)
                (record { is = comes_next id s k right is node y q })
            chosen true k y (Some right) is q ops e =
                subst (λ (xs : List Op). Fine (pushes (record k { rest = xs ++ k.rest }) (Truth true))) (some_is [] ops e)
                (left_out (left_below code id right) s k (Truth true) y q)

            front : (b : Bool) (k : Frame) → Stands (taken s) k →
                Fine (given (put_in_front code (OR id) b) (λ ops.
                if b then pushes (record k { rest = ops ++ k.rest }) (Truth true)
                else Goes (record k { rest = ops ++ k.rest })))
            front b k y =
                on_given Fine stuck faults
                (option_map (λ right. if b then [] else ops_of code right) (part code right_operand id)) _
                (λ ops e. chosen b k y (part code right_operand id) refl p ops e)

        if_fine : (id : ℕ) → P rest nothing → AnyInFront code P rest → Fine (effect_of code world f (IF id))
        unfolding effect_of put_in_front
        if_fine id p any = on_pop s f _ x (λ v k holds y. on_truth Fine stuck faults v _ (λ b. front b k y))
          where
            any_chosen : (b : Bool) (o : Option (ℕ × Option ℕ)) (ops : List Op) →
                option_map (λ (parts : ℕ × Option ℕ). if b then ops_of code parts.0 else optional_ops code parts.1) o
                ≡ Some ops → Any code ops
            any_chosen b None ops e = absurd (cc (e))
            any_chosen true (Some parts) ops e =
                subst (Any code) (some_is (ops_of code parts.0) ops e) (nodes_run_anywhere code bare parts.0)
            any_chosen false (Some parts) ops e =
                subst (Any code) (some_is (optional_ops code parts.1) ops e) (any_option parts.1)

            front : (b : Bool) (k : Frame) → Stands (taken s) k →
                Fine (given (put_in_front code (IF id) b) (λ ops. Goes (record k { rest = ops ++ k.rest })))
            front b k y =
                on_given Fine stuck faults
                (option_map (λ (parts : ℕ × Option ℕ). if b then ops_of code parts.0 else optional_ops code parts.1)
                (part code if_parts id)) _
                (λ ops e. in_front any ops k y.same (any_chosen b (part code if_parts id) ops e) p)

        loop_fine : (id : ℕ) → P rest nothing → AnyInFront code P rest → Fine (effect_of code world f (LOOP id))
        unfolding effect_of put_in_front
        loop_fine id p any = on_pop s f _ x (λ v k holds y. on_truth Fine stuck faults v _ (λ b. front b k y))
          where
            of_node : (o : Option Node) (turn : List Op) → (o >>= iteration_ops code id) ≡ Some turn → Any code turn
            of_node None turn e = absurd (cc (e))
            of_node (Some node) turn e = any_iteration id node turn e

            any_chosen : (b : Bool) (o : Option (List Op)) → ((turn : List Op) → o ≡ Some turn → Any code turn) →
                (ops : List Op) → option_map (λ turn. if b then turn else []) o ≡ Some ops → Any code ops
            any_chosen b None h ops e = absurd (cc (e))
            any_chosen true (Some turn) h ops e = subst (Any code) (some_is turn ops e) (h turn refl)
            any_chosen false (Some turn) h ops e = subst (Any code) (some_is [] ops e) (any_none code)

            front : (b : Bool) (k : Frame) → Stands (taken s) k →
                Fine (given (put_in_front code (LOOP id) b) (λ ops. Goes (record k { rest = ops ++ k.rest })))
            front b k y =
                on_given Fine stuck faults
                (option_map (λ turn. if b then turn else []) (part code (iteration_ops code id) id)) _
                (λ ops e. in_front any ops k y.same
                (any_chosen b (part code (iteration_ops code id) id)
                (λ turn q. of_node (slice_get code.program.nodes id) turn q) ops e) p)

        construct_fine : (id : ℕ) → IsLeft (CONSTRUCT id) → GivesAsBound code G world f (CONSTRUCT id) →
            Fine (effect_of code world f (CONSTRUCT id))
        unfolding effect_of step
        construct_fine id p c =
            on_given Fine stuck faults (bound_class (binding code id)) _ (λ class e. counted class e
            (part code argument_count id) p)
          where
            counted : (class : ℕ) → bound_class (binding code id) ≡ Some class → (o : Option ℕ) →
                P rest (behind_arguments o s) →
                Fine (given o (λ count. constructs code f id class count true))
            counted class e None q = stuck
            counted class e (Some count) q =
                on_given Fine stuck faults (constructor_body code.program class) _ (λ body k.
                on_pop_all count s f _ x (λ arguments g y.
                on_popped (dropped count s) g _ y (λ object h are holds z.
                on_reference_at object _ (λ r at.
                calls_constructor (put AnObject (taken (dropped count s))) g body (Some id) (Some r) g.area arguments
                (c class body e k) (record {
                  same = y.same;
                  shadows =
                      subst (Shadows (put AnObject (taken (dropped count s)))) (sym are)
                      (shadows_put AnObject (taken (dropped count s)) object h.operands (r, ap (λ v. Some v) at) z.shadows);
                }) q))))

        call_fine : (id : ℕ) → IsLeft (CALL id) → GivesAsBound code G world f (CALL id) →
            Fine (effect_of code world f (CALL id))
        unfolding effect_of step
        call_fine id p c =
            on_given Fine stuck faults (bound_method (binding code id)) _
            (λ method e. counted method e (part code argument_count id) refl p)
          where
            counted : (method : ℕ) → bound_method (binding code id) ≡ Some method → (o : Option ℕ) →
                part code argument_count id ≡ o → P rest (behind_call (leaves_value (binding code id)) o s) →
                Fine (given o (λ count. pop_all count f (λ arguments g. pop g (λ object k. as_object object (λ r.
                given (world.object_at r) (λ o. given (body_of code.program o.class method) (λ body.
                Calls k (new_frame code body (Some id) (Some r) k.area arguments))))))))
            counted method e None is q = stuck
            counted method e (Some count) is q =
                on_popped_from count s f [] _ x (λ arguments g b y. on_popped (dropped count s) g _ y (λ object k h holds z.
                on_object_at object _ (λ r at.
                on_given Fine stuck faults (world.object_at r) _ (λ o there.
                on_given Fine stuck faults (body_of code.program o.class method) _ (λ body u.
                calls_method (leaves_value (binding code id)) (taken (dropped count s)) k body (Some id) (Some r) k.area
                arguments
                (c method count r o body e is (popped count g object k b h ∙ ap (λ (v : Value). Some v) at) there u) z q)))))
              where
                popped : (count : ℕ) (g : Frame) (object : Value) (k : Frame) → StoodBehind count f g →
                    g.operands ≡ object ∷ k.operands → slice_get f.operands count ≡ Some object
                popped count g object k b h =
                    ap (slice_get f.operands) (let same : count ≡ count + 0 = omega arith in same)
                    ∙ b 0 ∙ ap (λ (us : List Value). slice_get us 0) h

        call_static_fine : (id : ℕ) → IsLeft (CALLSTATIC id) → GivesAsBound code G world f (CALLSTATIC id) →
            Fine (effect_of code world f (CALLSTATIC id))
        unfolding effect_of step
        call_static_fine id p c =
            on_given Fine stuck faults (bound_static_method (binding code id)) _
            (λ method e. counted method e (part code argument_count id) p)
          where
            counted : (method : ℕ × ℕ) → bound_static_method (binding code id) ≡ Some method → (o : Option ℕ) →
                P rest (behind_static_call (leaves_value (binding code id)) o s) →
                Fine (given o (λ count. given (body_of code.program method.0 method.1) (λ body.
                pop_all count f (λ arguments g. Calls g (new_frame code body (Some id) None g.area arguments)))))
            counted method e None q = stuck
            counted method e (Some count) q =
                on_given Fine stuck faults (body_of code.program method.0 method.1) _ (λ body u.
                on_pop_all count s f _ x (λ arguments g y.
                calls_method (leaves_value (binding code id)) (dropped count s) g body (Some id) None g.area arguments
                (c method body e u) y q))

        -- a form is read
        periodic_fine : (r : ℕ) (g : Frame) → g.rest ≡ rest → (values : List Value) → P rest nothing →
            Fine (periodic_parameters g r values)
        periodic_fine r g same (Int priority ∷ Int sms ∷ Int sns ∷ Int pms ∷ Int pns ∷ Int storage ∷ []) p =
            on_if Fine stuck faults (not (is_priority priority)) _ _ (λ e. faults BadPriority)
            (λ e. timed (times_of sms sns pms pns))
          where
            timed : (o : Option (ℕ × ℕ)) → Fine (elim o as (λ z. Effect) [
              | None ↦ Faults BadPeriod
              | Some times ↦
                  if is_negative storage then Faults NegativeSize
                  else SetsHidden g r (Int priority ∷ Int storage ∷ Int (pos times.0) ∷ Int (pos times.1) ∷ [])
            ])
            timed None = faults BadPeriod
            timed (Some times) =
                on_if Fine stuck faults (is_negative storage) _ _ (λ e. faults NegativeSize)
                (λ e. record { is = explained nothing g (stands_less g same) p })
        periodic_fine r g same _ p = stuck

        right_fine : (values : List Value) (next : ℤ → ℤ → Effect) → ((a b : ℤ) → Fine (next a b)) →
            Fine (right_parameters values next)
        right_fine (Int priority ∷ Int storage ∷ []) next h =
            on_if Fine stuck faults (not (is_priority priority)) _ _ (λ e. faults BadPriority)
            (λ e. on_if Fine stuck faults (is_negative storage) _ _ (λ k. faults NegativeSize) (λ k. h priority storage))
        right_fine _ next h = stuck

        element_stored : (r k : ℕ) (value : Value) (g : Frame) (o : Option ℕ) → g.rest ≡ rest →
            P rest nothing →
            Fine (elim o as (λ z. Effect) [ None ↦ Faults ArrayIndex | Some k ↦ Stores g r k value ])
        element_stored r k value g None same p = faults ArrayIndex
        element_stored r k value g (Some n) same p = record { is = explained nothing g (stands_less g same) p }

        element_read : (slots : List Value) (g : Frame) (o : Option ℕ) → Stands (taken (taken s)) g →
            P rest (put Unknown (taken (taken s))) →
            Fine (elim o as (λ z. Effect)
            [ None ↦ Faults ArrayIndex | Some k ↦ given (slice_get slots k) (λ value. pushes g value) ])
        element_read slots g None y p = faults ArrayIndex
        element_read slots g (Some k) y p =
            on_given Fine stuck faults (slice_get slots k) _ (λ value e. pushed Unknown (taken (taken s)) g value y tt p)

        cast_fine : (class : ℕ) (g : Frame) → Stands (taken s) g → P rest (put Unknown (taken s)) →
            (v : Value) →
            Fine (elim v as (λ z. Effect) [
              | Null ↦ pushes g Null
              | At r ↦ given (world.object_at r)
                  (λ o. if is_sub code.program.classes o.class class then pushes g (At r) else Faults ClassCast)
              | Int z ↦ Stuck
              | Truth b ↦ Stuck
            ])
        cast_fine class g y p Null = pushed Unknown (taken s) g Null y tt p
        cast_fine class g y p (At r) =
            on_given Fine stuck faults (world.object_at r) _ (λ o e.
            on_if Fine stuck faults (is_sub code.program.classes o.class class) _ _
            (λ k. pushed Unknown (taken s) g (At r) y tt p) (λ k. faults ClassCast))
        cast_fine class g y p (Int z) = stuck
        cast_fine class g y p (Truth b) = stuck

        array_made : (k : Frame) (class : ℕ) (values : List Value) → Stands (taken s) k →
            P rest (put AnObject (taken s)) → Fine (Makes k class values)
        array_made k class values y p =
            record {
              is = λ r. record {
                stack = put AnObject (taken s);
                passes = subst (λ (xs : List Op). P xs (put AnObject (taken s))) (sym y.same) p;
                shadows = shadows_put AnObject (taken s) (At r) k.operands (r, refl) y.shadows;
              };
            }

        object_made : (class : ℕ) (values : List Value) → P rest (put AnObject s) → Fine (Makes f class values)
        object_made class values p =
            record {
              is = λ r. record {
                stack = put AnObject s;
                passes = subst (λ (xs : List Op). P xs (put AnObject s)) (sym x.same) p;
                shadows = shadows_put AnObject s (At r) f.operands (r, refl) x.shadows;
              };
            }

        plainly : (g : Frame) → g.rest ≡ rest → P rest nothing → ExplainedBy P g
        plainly g same p = explained nothing g (stands_less g same) p

        goes_plainly : (g : Frame) → g.rest ≡ rest → P rest nothing → Fine (Goes g)
        goes_plainly g same p = record { is = plainly g same p }

        prints : (g : Frame) (label : ℕ) (z : ℤ) → g.rest ≡ rest → P rest nothing → Fine (Prints g label z)
        prints g label z same p = record { is = plainly g same p }

        stores : (g : Frame) (r slot : ℕ) (v : Value) → g.rest ≡ rest → P rest nothing →
            Fine (Stores g r slot v)
        stores g r slot v same p = record { is = plainly g same p }

        stores_static : (g : Frame) (n : ℕ) (v : Value) → g.rest ≡ rest → P rest nothing →
            Fine (StoresStatic g n v)
        stores_static g n v same p = record { is = plainly g same p }

        sets_hidden : (g : Frame) (r : ℕ) (values : List Value) → g.rest ≡ rest → P rest nothing →
            Fine (SetsHidden g r values)
        sets_hidden g r values same p = record { is = plainly g same p }

        sets_ceiling : (g : Frame) (r n : ℕ) → g.rest ≡ rest → P rest nothing → Fine (SetsCeiling g r n)
        sets_ceiling g r n same p = record { is = plainly g same p }

        registers : (g : Frame) (r : ℕ) → g.rest ≡ rest → P rest nothing → Fine (AsksRegistration g r)
        registers g r same p = record { is = plainly g same p }

        releases : (g : Frame) (r : ℕ) → g.rest ≡ rest → P rest nothing → Fine (AsksRelease g r)
        releases g r same p = record { is = plainly g same p }

        terminates : (g : Frame) (r : ℕ) → g.rest ≡ rest → P rest nothing → Fine (AsksTermination g r)
        terminates g r same p = record { is = plainly g same p }

        leaves : (g : Frame) (v : Option Value) → L → Fine (Leaves g v)
        leaves g v l = record { is = l }

        pub operation_fine : (op : Op) → IsLeft op → GivesAsBound code G world f op → InFront code P L rest op →
            Fine (effect_of code world f op)
        unfolding effect_of step new_frame
        operation_fine (PUSH id) p c n = pushes_literal (part code literal_value id) p
        operation_fine (THIS id) p c n =
            on_given Fine stuck faults f.this _ (λ r e. pushed AnObject s f (At r) x (r, refl) p)
        operation_fine (LOAD id) p c n =
            on_given Fine stuck faults (bound_local (binding code id)) _ (λ k e.
            on_given Fine stuck faults (slice_get f.locals k) _ (λ v h. pushed Unknown s f v x tt p))
        operation_fine (GET id) p c n =
            on_given Fine stuck faults (bound_field (binding code id)) _ (λ field e.
            on_pop s f _ x (λ object k holds y. on_object Fine stuck faults object _ (λ r.
            on_field r field _ (λ o slot.
            on_given Fine stuck faults (slice_get o.slots slot) _ (λ v h. pushed Unknown (taken s) k v y tt p)))))
        operation_fine (GETSTATIC id) p c n =
            on_given Fine stuck faults (bound_static (binding code id)) _ (λ field e.
            on_given Fine stuck faults (static_index code.program field) _ (λ place h.
            on_given Fine stuck faults (slice_get world.statics place) _ (λ v k. pushed Unknown s f v x tt p)))
        operation_fine (LENGTH id) p c n =
            on_pop s f _ x (λ array k holds y. on_object Fine stuck faults array _ (λ r.
            on_given Fine stuck faults (world.object_at r) _ (λ o e.
            pushed Unknown (taken s) k (Int (pos (length o.slots))) y tt p)))
        operation_fine (ELEM id) p c n =
            on_pop s f _ x (λ index k holds y. on_pop (taken s) k _ y (λ array l h z.
            on_object Fine stuck faults array _ (λ r. on_int Fine stuck faults index _ (λ i.
            on_given Fine stuck faults (world.object_at r) _ (λ o e.
            element_read o.slots l (index_in o.slots i) z p)))))
        operation_fine (UNARY id) p c n = unary_fine (part code operator_of id) p
        operation_fine (BIN id) p c n = bin_fine (part code operator_of id) p
        operation_fine (AND id) p c n = and_fine id p n
        operation_fine (OR id) p c n = or_fine id p n
        operation_fine (ALLOC id) p c n =
            on_given Fine stuck faults (bound_class (binding code id)) _
            (λ class e. object_made class (new_slots code.program class) p)
        operation_fine (CONSTRUCT id) p c n = construct_fine id p c
        operation_fine (ALLOCARRAY id) p c n =
            on_given Fine stuck faults (bound_class (binding code id)) _ (λ class e.
            on_given Fine stuck faults (element_kind code.program class) _ (λ kind h.
            on_pop s f _ x (λ count k holds y. on_int Fine stuck faults count _ (λ n.
            on_if Fine stuck faults (is_negative n) (Faults NegativeSize)
            (Makes k class (new_elements kind (unsigned_abs n))) (λ t. faults NegativeSize)
            (λ t. array_made k class (new_elements kind (unsigned_abs n)) y p)))))
        operation_fine (CALL id) p c n = call_fine id p c
        operation_fine (CALLSTATIC id) p c n = call_static_fine id p c
        operation_fine (CAST id) p c n =
            on_given Fine stuck faults (bound_class (binding code id)) _ (λ class e.
            on_pop s f _ x (λ v k holds y. cast_fine class k y p v))
        operation_fine (ENTER id) p c n =
            on_pop s f _ x (λ runnable k h y. on_pop (taken s) k _ y (λ size l i z.
            on_object Fine stuck faults runnable _ (λ r. on_int Fine stuck faults size _ (λ bytes.
            on_if Fine stuck faults (is_negative bytes) _ _ (λ t. faults NegativeSize) (λ t.
            on_run r _ (λ o body. on_given Fine stuck faults (defined_by_chain code.program o.class) _ (λ scope e.
            opens_fine l body r (unsigned_abs bytes) scope z p)))))))
          where
            opens_fine : (l : Frame) (body : Body) (r bytes scope : ℕ) → Stands (taken (taken s)) l →
                P rest nothing →
                Fine (Opens l (new_frame code body (Some id) (Some r) l.area []) scope bytes)
            opens_fine l body r bytes scope z q =
                record {
                  is = (
                    record {
                      stack = nothing;
                      passes = subst (λ (xs : List Op). P xs nothing) (sym z.same) q;
                      returns = λ v e. shadows_nothing (with_given v l.operands);
                    },
                    record { stack = nothing; passes = body_passes body; shadows = shadows_nothing [] },
                  );
                }
        operation_fine (EXECUTEIN id) p c n =
            on_pop s f _ x (λ runnable k h y. on_pop (taken s) k _ y (λ object l i z.
            on_object Fine stuck faults object _ (λ place. on_object Fine stuck faults runnable _ (λ r.
            on_given Fine stuck faults (world.object_at place) _ (λ there e.
            on_run r _ (λ o body.
            calls_plain (taken (taken s)) l body (Some id) (Some r) there.area [] z p))))))
        operation_fine (SAME id) p c n =
            on_pop s f _ x (λ second k h y. on_pop (taken s) k _ y (λ first l i z.
            on_area first _ (λ a. on_area second _ (λ b.
            pushed Unknown (taken (taken s)) l (Truth (are_one_area a b)) z tt p))))
        operation_fine (SETCEILING id) p c n =
            on_pop s f _ x (λ ceiling k h y. on_pop (taken s) k _ y (λ object l i z.
            on_object Fine stuck faults object _ (λ r. on_int Fine stuck faults ceiling _ (λ n.
            on_if Fine stuck faults (is_priority n) _ _ (λ t. sets_ceiling l r (unsigned_abs n) z.same p)
            (λ t. faults BadPriority)))))
        operation_fine (PRINT id) p c n =
            on_given Fine stuck faults (part code first_argument id) _ (λ label e.
            on_pop s f _ x (λ v k h y. on_int Fine stuck faults v _ (λ z. prints k label z y.same p)))
        operation_fine (READ id) p c n =
            on_pop s f _ x (λ v k h y. on_int Fine stuck faults v _ (λ z.
            on_if Fine stuck faults (is_port z) _ _
            (λ t. pushed Unknown (taken s) k (Int (world.reading (unsigned_abs z))) y tt p) (λ t. faults BadPort)))
        operation_fine (REGISTER id) p c n =
            on_pop s f _ x (λ v k h y. on_object Fine stuck faults v _ (λ r. registers k r y.same p))
        operation_fine (RELEASE id) p c n =
            on_pop s f _ x (λ v k h y. on_object Fine stuck faults v _ (λ r. releases k r y.same p))
        operation_fine (TERMINATE id) p c n =
            on_pop s f _ x (λ v k h y. on_object Fine stuck faults v _ (λ r. terminates k r y.same p))
        operation_fine (ZERO id) p c n =
            on_given Fine stuck faults (bound_local (binding code id)) _ (λ k e.
            on_given Fine stuck faults (variable_at code.program.nodes id) _ (λ (d : Declared) h.
            goes_plainly (record f { locals = slice_set f.locals k (default_value (kind_of_type d.declared_type)) })
            x.same p))
        operation_fine (STORE id) p c n =
            on_given Fine stuck faults (assigned code id >>= bound_local) _ (λ k e.
            on_pop s f _ x (λ v g h y.
            goes_plainly (record g { locals = slice_set g.locals k v }) y.same p))
        operation_fine (PUT id) p c n =
            on_given Fine stuck faults (assigned code id >>= bound_field) _ (λ field e.
            on_pop s f _ x (λ v k h y. on_pop (taken s) k _ y (λ object l i z.
            on_object Fine stuck faults object _ (λ r.
            on_field r field _ (λ o slot. stores l r slot v z.same p)))))
        operation_fine (PUTSTATIC id) p c n =
            on_given Fine stuck faults (assigned code id >>= bound_static) _ (λ field e.
            on_given Fine stuck faults (static_index code.program field) _ (λ place t.
            on_pop s f _ x (λ v k h y. stores_static k place v y.same p)))
        operation_fine (PUTELEM id) p c n =
            on_pop s f _ x (λ v k h y. on_pop (taken s) k _ y (λ index l i z.
            on_pop (taken (taken s)) l _ z (λ array m j w.
            on_object Fine stuck faults array _ (λ r. on_int Fine stuck faults index _ (λ n.
            on_given Fine stuck faults (world.object_at r) _ (λ o e.
            element_stored r 0 v m (index_in o.slots n) w.same p))))))
        operation_fine (IF id) p c n = if_fine id p n
        operation_fine (LOOP id) p c n = loop_fine id p n
        operation_fine (LEAVEWITH id) p c n = on_pop s f _ x (λ v k h y. leaves k (Some v) n)
        operation_fine LEAVE p c n = leaves f None n
        operation_fine (DROP id) p c n = on_pop s f _ x (λ v k h y. goes_plainly k y.same p)
        operation_fine (INIT id) p c n =
            on_given Fine stuck faults (part code literal_written id >>= part code literal_value) _ (λ v e.
            on_given Fine stuck faults (bound_field (binding code id)) _ (λ field h.
            on_given Fine stuck faults f.this _ (λ r t.
            on_field r field _ (λ o slot. stores f r slot v x.same p))))
        operation_fine (SUPER id) p c n =
            on_given Fine stuck faults (bound_class (binding code id)) _ (λ superclass e.
            on_given Fine stuck faults (constructor_body code.program superclass) _ (λ body h.
            on_pop_all (super_count code id) s f _ x (λ arguments g y.
            on_pop (dropped (super_count code id) s) g _ y (λ object k t z.
            on_reference Fine stuck faults object _ (λ r.
            calls_plain (taken (dropped (super_count code id) s)) k body (Some id) (Some r) g.area arguments z p)))))
        operation_fine (PARAMS id) p c n =
            on_given Fine stuck faults (bound_class (binding code id)) _ (λ superclass e.
            on_given Fine stuck faults f.this _ (λ r t.
            on_if Fine stuck faults (superclass == periodic_handler) _ _
            (λ a. on_pop_all 6 s f _ x (λ values g y. periodic_fine r g y.same values p))
            (λ a. on_if Fine stuck faults (superclass == mission_sequencer) _ _
            (λ b. on_pop_all 2 s f _ x (λ values g y. right_fine values _ (λ m n. goes_plainly g y.same p)))
            (λ b. on_pop_all 2 s f _ x (λ values g y.
            right_fine values _ (λ m n. sets_hidden g r (Int m ∷ Int n ∷ []) y.same p))))))

-- ---- where the operations that are left pass

module _ (code : Code) (bare : ClassesAskNothing code) (rest : List Op) where
  pass_behind : AnyInFront code (Passes code) rest
  pass_behind xs a p = (a.is nothing).is None rest p

  right_passes : (id : ℕ) → GoesInFront code (Passes code) rest id
  right_passes id x e s p = (nodes_run code bare x s).is None rest p

  pub pass_in_front : (op : Op) → InFront code (Passes code) (Unit {0}) rest op
  pass_in_front (AND id) = right_passes id
  pass_in_front (OR id) = right_passes id
  pass_in_front (IF id) = pass_behind
  pass_in_front (LOOP id) = pass_behind
  pass_in_front (LEAVEWITH id) = tt
  pass_in_front LEAVE = tt
  pass_in_front _ = tt
