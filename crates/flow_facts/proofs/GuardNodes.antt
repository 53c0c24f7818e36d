-- The operations that nodes add to those of their parts, by the kinds of nodes, where the parts stand in the first parts of
-- the same `if`s.
use Rattle.std.specs.Prelude.{flat_map}
use Rattle.std.proofs.Common.{◌≡◌, ℕ, List, [], ◌∷◌, ◌++◌, Option, Some, None, Bool, true, false, ◌==◌, if◌then◌else◌}
use Rattle.scj_base.specs.Vocabulary.{sign_and_and, sign_or_or}
use Rattle.scj_builtins.specs.Framework.{managed_memory_enter_private_memory, managed_memory_execute_in_area_of, managed_memory_alloc_in_same, services_set_ceiling, trace_print, device_read, mission_request_termination, aperiodic_handler_release, periodic_handler_register, aperiodic_handler_register}
use Rattle.scj_tree.specs.Shape.{optional}
use Rattle.scj_rules.specs.declared.typing.Binding.{Binding}
use Rattle.scj_rules.specs.declared.typing.Binding.TheVariants.{Length, Local as LocalVariable, Field as InstanceField, Static, Method as MethodBound, StaticMethod, Builtin, Class as ClassNamed}
use Rattle.scj_rules.specs.Words.{is_among}
use Rattle.scj_rules.specs.Classes.{is_user_class}
use Rattle.scj_rules.specs.Types.{has_form}
use Rattle.scj_rules.specs.Guards.{ifs_around}
use Rattle.scj_rules.proofs.ChainLemmas.{among-behind}
use Rattle.scj_model.specs.declared.operations.Op.{Op}
use Rattle.scj_model.specs.declared.operations.Op.TheVariants.{This as THIS, Load as LOAD, Get as GET, GetStatic as GETSTATIC, Length as LENGTH, Bin as BIN, And as AND, Or as OR, Alloc as ALLOC, Construct as CONSTRUCT, Call as CALL, CallStatic as CALLSTATIC, Enter as ENTER, ExecuteIn as EXECUTEIN, Same as SAME, SetCeiling as SETCEILING, Print as PRINT, Read as READ, Register as REGISTER, Release as RELEASE, Terminate as TERMINATE, Super as SUPER, Params as PARAMS}
use Rattle.scj_model.specs.Code.{Code}
use Rattle.scj_model.specs.Ops.{name_ops, access_ops, binary_ops, new_ops, receiver_ops, builtin_ops, call_ops, super_ops}
use Rattle.scope_flow.specs.Guards.{IsPlain, StandsIn, Adds}
use Rattle.scope_flow.proofs.Rests.{here, adds_none, adds_op, adds_both, adds_behind, adds_all}
use Rattle.scj_rules.specs.declared.views.Body.{Body}

module _ (code : Code) (body : Body) (around : List ℕ) (sub : ℕ → List Op) (x : ℕ) where
  abbrev A : List Op → Type 0
  A ops = Adds code body around ops

  abbrev Kids : List ℕ → Type 0
  Kids ids = (y : ℕ) → is_among y ids ≡ true → A (sub y)

  none : A []
  none = adds_none code body around

  op : (o : Op) → IsPlain code o → StandsIn code around o → A (o ∷ [])
  op o is_plain stands = adds_op code body around o is_plain stands

  both : (xs ys : List Op) → A xs → A ys → A (xs ++ ys)
  both xs ys f s = adds_both code body around xs ys f s

  behind : (xs : List Op) (o : Op) → A xs → IsPlain code o → StandsIn code around o → A (xs ++ o ∷ [])
  behind xs o f is_plain stands = adds_behind code body around xs o f is_plain stands

  all : (ids : List ℕ) → Kids ids → A (flat_map sub ids)
  all ids k = adds_all code body around sub ids k

  pub either : (t : Bool) (xs ys : List Op) → A xs → A ys → A (if t then xs else ys)
  either true xs ys f s = f
  either false xs ys f s = s

  pub name_adds : (o : Binding) → A (name_ops x o)
  unfolding name_ops IsPlain StandsIn
  name_adds (LocalVariable k) = op (LOAD x) tt tt
  name_adds (InstanceField k) = both (THIS x ∷ []) (GET x ∷ []) (op (THIS x) tt tt) (op (GET x) tt tt)
  name_adds (Static k) = op (GETSTATIC x) tt tt
  name_adds _ = none

  pub access_adds : (object : ℕ) (o : Binding) → A (sub object) → A (access_ops sub x object o)
  unfolding access_ops IsPlain StandsIn
  access_adds object (InstanceField k) a = behind (sub object) (GET x) a tt tt
  access_adds object (Static k) a = op (GETSTATIC x) tt tt
  access_adds object Length a = behind (sub object) (LENGTH x) a tt tt
  access_adds object _ a = none

  pub binary_adds : (operator left right : ℕ) → ifs_around code.program.nodes x ≡ around → A (sub left) → A (sub right) → A (binary_ops sub x operator left right)
  unfolding binary_ops IsPlain StandsIn
  binary_adds operator left right stands f s =
      either (operator == sign_and_and) (sub left ++ AND x ∷ []) _ (behind (sub left) (AND x) f tt stands)
      (either (operator == sign_or_or) (sub left ++ OR x ∷ []) _ (behind (sub left) (OR x) f tt stands)
      (both (sub left) (sub right ++ BIN x ∷ []) f (behind (sub right) (BIN x) s tt tt)))

  pub new_adds : (arguments : List ℕ) (o : Binding) → Kids arguments → A (new_ops sub x arguments o)
  unfolding new_ops IsPlain StandsIn
  new_adds arguments (ClassNamed class) k =
      both (ALLOC x ∷ []) (flat_map sub arguments ++ CONSTRUCT x ∷ []) (op (ALLOC x) tt tt)
      (behind (flat_map sub arguments) (CONSTRUCT x) (all arguments k) tt tt)
  new_adds arguments _ k = all arguments k

  receiver_adds : (object : Option ℕ) (arguments : List ℕ) → Kids (optional object ++ arguments) →
      A (receiver_ops sub x object)
  unfolding receiver_ops IsPlain StandsIn
  receiver_adds None arguments k = op (THIS x) tt tt
  receiver_adds (Some object) arguments k = k object (here object arguments)

  builtin_adds : (object : Option ℕ) (arguments : List ℕ) (method : ℕ) → A (receiver_ops sub x object) →
      A (flat_map sub arguments) → A (builtin_ops sub x object arguments method)
  unfolding builtin_ops IsPlain StandsIn
  builtin_adds object arguments method r a =
      either (method == managed_memory_enter_private_memory) _ _ (behind args (ENTER x) a tt tt)
      (either (method == managed_memory_execute_in_area_of) _ _ (behind args (EXECUTEIN x) a tt tt)
      (either (method == managed_memory_alloc_in_same) _ _ (behind args (SAME x) a tt tt)
      (either (method == services_set_ceiling) _ _ (behind args (SETCEILING x) a tt tt)
      (either (method == trace_print) _ _ (behind args (PRINT x) a tt tt)
      (either (method == device_read) _ _ (behind args (READ x) a tt tt)
      (either (method == mission_request_termination) _ _ (behind on (TERMINATE x) r tt tt)
      (either (method == aperiodic_handler_release) _ _ (behind on (RELEASE x) r tt tt)
      (either (is_among method (periodic_handler_register ∷ aperiodic_handler_register ∷ [])) _ _
      (behind on (REGISTER x) r tt tt) none))))))))
    where
      args : List Op
      args = flat_map sub arguments

      on : List Op
      on = receiver_ops sub x object

  pub call_adds : (object : Option ℕ) (arguments : List ℕ) (o : Binding) → Kids (optional object ++ arguments) →
      A (call_ops sub x object arguments o)
  unfolding call_ops IsPlain StandsIn
  call_adds object arguments o k = go o
    where
      args : A (flat_map sub arguments)
      args = all arguments (λ y a. k y (among-behind y (optional object) arguments a))

      go : (o : Binding) → A (call_ops sub x object arguments o)
      go (MethodBound t) =
          both (receiver_ops sub x object) (flat_map sub arguments ++ CALL x ∷ []) (receiver_adds object arguments k)
          (behind (flat_map sub arguments) (CALL x) args tt tt)
      go (StaticMethod t) = behind (flat_map sub arguments) (CALLSTATIC x) args tt tt
      go (Builtin t) = builtin_adds object arguments t.id (receiver_adds object arguments k) args
      go _ = none

  pub super_adds : (arguments : List ℕ) (o : Binding) → Kids arguments → A (super_ops sub x arguments o)
  unfolding super_ops IsPlain StandsIn
  super_adds arguments (ClassNamed superclass) k =
      either (is_user_class superclass) _ _
      (both (THIS x ∷ []) (flat_map sub arguments ++ SUPER x ∷ []) (op (THIS x) tt tt)
      (behind (flat_map sub arguments) (SUPER x) (all arguments k) tt tt))
      (either (has_form superclass) _ _ (behind (flat_map sub arguments) (PARAMS x) (all arguments k) tt tt) none)
  super_adds arguments _ k = none
