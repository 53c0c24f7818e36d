-- The operations of one node stand at it or at its parts, but for the one that ends a body.
use Rattle.std.proofs.Common.{◌≡◌, ℕ, ◌==◌, Bool, true, false, List, [], ◌∷◌, ◌++◌, Option, Some, None, if◌then◌else◌, refl, sym, ◌∙◌, subst}
use Rattle.std.specs.Prelude.{flat_map, is_some, slice_get}
use Rattle.accepted_laws.proofs.Tools.{some_inj}
use Rattle.scj_base.specs.Vocabulary.{sign_and_and, sign_or_or}
use Rattle.scj_builtins.specs.Framework.{aperiodic_handler_register, aperiodic_handler_release, device_read, managed_memory_enter_private_memory, managed_memory_execute_in_area_of, managed_memory_alloc_in_same, mission_request_termination, periodic_handler_register, services_set_ceiling, trace_print}
use Rattle.scj_tree.specs.declared.nodes.Node.{Node}
use Rattle.scj_tree.specs.declared.nodes.Node.TheVariants.{SimpleName, FieldAccess, Element}
use Rattle.scj_rules.specs.declared.typing.Binding.{Binding}
use Rattle.scj_rules.specs.declared.typing.Binding.TheVariants.{Local, Field, Static, Length, Class as ClassNamed, Method, StaticMethod, Builtin}
use Rattle.scj_rules.specs.declared.views.Declared.{Declared}
use Rattle.scj_rules.specs.Classes.{is_user_class}
use Rattle.scj_rules.specs.Types.{has_form}
use Rattle.scj_rules.specs.Words.{is_among}
use Rattle.scj_model.specs.declared.operations.Op.{Op}
use Rattle.scj_model.specs.declared.operations.Op.TheVariants.{This as THIS, Load as LOAD, Get as GET, GetStatic as GETSTATIC, Length as LENGTH, Bin as BIN, And as AND, Or as OR, Alloc as ALLOC, Construct as CONSTRUCT, Call as CALL, CallStatic as CALLSTATIC, Enter as ENTER, ExecuteIn as EXECUTEIN, Same as SAME, SetCeiling as SETCEILING, Print as PRINT, Read as READ, Register as REGISTER, Release as RELEASE, Terminate as TERMINATE, Store as STORE, Put as PUT, PutStatic as PUTSTATIC, PutElem as PUTELEM, LeaveWith as LEAVEWITH, Leave as LEAVE, Super as SUPER, Params as PARAMS}
use Rattle.scj_model.specs.Code.{Code}
use Rattle.scj_model.specs.Ops.{access_ops, assign_ops, binary_ops, builtin_ops, call_ops, name_ops, new_ops, node_of, receiver_ops, return_ops, super_ops}

abbrev pub Stands : List Node → ℕ → Type 0
Stands nodes id = is_some (slice_get nodes id) ≡ true

-- declared at nodes
abbrev pub AllDeclared : List Node → List Declared → Type 0
AllDeclared nodes [] = Unit {0}
AllDeclared nodes (f ∷ fs) = Stands nodes f.node × AllDeclared nodes fs

module _ (code : Code) where
  abbrev OpStands : Op → Type 0
  OpStands op = (id : ℕ) → node_of op ≡ Some id → Stands code.program.nodes id

  abbrev pub AllStand : List Op → Type 0
  AllStand [] = Unit {0}
  AllStand (op ∷ ops) = OpStands op × AllStand ops

  pub both : (xs ys : List Op) → AllStand xs → AllStand ys → AllStand (xs ++ ys)
  both [] ys h k = k
  both (x ∷ xs) ys h k = (h.0, both xs ys h.1 k)

  pub either : (b : Bool) (xs ys : List Op) → AllStand xs → AllStand ys → AllStand (if b then xs else ys)
  either true xs ys h k = h
  either false xs ys h k = k

  pub all_of : (ops : ℕ → List Op) → ((k : ℕ) → AllStand (ops k)) → (ks : List ℕ) → AllStand (flat_map ops ks)
  all_of ops h [] = tt
  all_of ops h (k ∷ ks) = both (ops k) (flat_map ops ks) (h k) (all_of ops h ks)

  pub leave : AllStand (LEAVE ∷ [])
  unfolding node_of
  leave = ((λ id e. absurd (cc (e))), tt)

  -- ---- the operations of one node

  module _ (ops : ℕ → List Op) (h : (k : ℕ) → AllStand (ops k)) (id : ℕ) (here : Stands code.program.nodes id) where
    at : (op : Op) → node_of op ≡ Some id → OpStands op
    at op is i e = subst (Stands code.program.nodes) (some_inj id i (sym is ∙ e)) here

    pub one : (op : Op) → node_of op ≡ Some id → AllStand (op ∷ [])
    one op is = (at op is, tt)

    pub behind_part : (k : ℕ) (op : Op) → node_of op ≡ Some id → AllStand (ops k ++ op ∷ [])
    behind_part k op is = both (ops k) (op ∷ []) (h k) (one op is)

    behind_all : (ks : List ℕ) (op : Op) → node_of op ≡ Some id → AllStand (flat_map ops ks ++ op ∷ [])
    behind_all ks op is = both (flat_map ops ks) (op ∷ []) (all_of ops h ks) (one op is)

    pub of_name : (b : Binding) → AllStand (name_ops id b)
    unfolding name_ops node_of
    of_name (Local k) = one (LOAD id) refl
    of_name (Field k) = (at (THIS id) refl, one (GET id) refl)
    of_name (Static k) = one (GETSTATIC id) refl
    of_name _ = tt

    pub of_access : (object : ℕ) (b : Binding) → AllStand (access_ops ops id object b)
    unfolding access_ops node_of
    of_access object (Field k) = behind_part object (GET id) refl
    of_access object (Static k) = one (GETSTATIC id) refl
    of_access object Length = behind_part object (LENGTH id) refl
    of_access object _ = tt

    pub of_binary : (operator left right : ℕ) → AllStand (binary_ops ops id operator left right)
    unfolding binary_ops node_of
    of_binary operator left right =
        either (operator == sign_and_and) _ _ (behind_part left (AND id) refl)
        (either (operator == sign_or_or) _ _ (behind_part left (OR id) refl)
        (both (ops left) _ (h left) (behind_part right (BIN id) refl)))

    pub of_new : (arguments : List ℕ) (b : Binding) → AllStand (new_ops ops id arguments b)
    unfolding new_ops node_of
    of_new arguments (ClassNamed class) = (at (ALLOC id) refl, behind_all arguments (CONSTRUCT id) refl)
    of_new arguments _ = all_of ops h arguments

    of_receiver : (object : Option ℕ) → AllStand (receiver_ops ops id object)
    unfolding receiver_ops node_of
    of_receiver None = one (THIS id) refl
    of_receiver (Some object) = h object

    on_receiver : (object : Option ℕ) (op : Op) → node_of op ≡ Some id → AllStand (receiver_ops ops id object ++ op ∷ [])
    on_receiver object op is = both (receiver_ops ops id object) (op ∷ []) (of_receiver object) (one op is)

    of_builtin : (object : Option ℕ) (arguments : List ℕ) (method : ℕ) →
        AllStand (builtin_ops ops id object arguments method)
    unfolding builtin_ops node_of
    of_builtin object arguments method =
        either (method == managed_memory_enter_private_memory) _ _ (behind_all arguments (ENTER id) refl)
        (either (method == managed_memory_execute_in_area_of) _ _ (behind_all arguments (EXECUTEIN id) refl)
        (either (method == managed_memory_alloc_in_same) _ _ (behind_all arguments (SAME id) refl)
        (either (method == services_set_ceiling) _ _ (behind_all arguments (SETCEILING id) refl)
        (either (method == trace_print) _ _ (behind_all arguments (PRINT id) refl)
        (either (method == device_read) _ _ (behind_all arguments (READ id) refl)
        (either (method == mission_request_termination) _ _ (on_receiver object (TERMINATE id) refl)
        (either (method == aperiodic_handler_release) _ _ (on_receiver object (RELEASE id) refl)
        (either (is_among method (periodic_handler_register ∷ aperiodic_handler_register ∷ [])) _ _
        (on_receiver object (REGISTER id) refl) tt))))))))

    pub of_call : (object : Option ℕ) (arguments : List ℕ) (b : Binding) → AllStand (call_ops ops id object arguments b)
    unfolding call_ops node_of
    of_call object arguments (Method t) =
        both (receiver_ops ops id object) _ (of_receiver object) (behind_all arguments (CALL id) refl)
    of_call object arguments (StaticMethod t) = behind_all arguments (CALLSTATIC id) refl
    of_call object arguments (Builtin t) = of_builtin object arguments t.id
    of_call object arguments _ = tt

    pub of_assign : (value : ℕ) (b : Binding) (target : Node) → AllStand (assign_ops ops id value b target)
    unfolding assign_ops node_of
    of_assign value (Local k) (SimpleName position name) = behind_part value (STORE id) refl
    of_assign value (Field k) (SimpleName position name) = (at (THIS id) refl, behind_part value (PUT id) refl)
    of_assign value (Field k) (FieldAccess position name object) =
        both (ops object) _ (h object) (behind_part value (PUT id) refl)
    of_assign value (Static k) _ = behind_part value (PUTSTATIC id) refl
    of_assign value _ (Element position array index) =
        both (ops array) _ (h array) (both (ops index) _ (h index) (behind_part value (PUTELEM id) refl))
    of_assign value _ _ = tt

    pub of_return : (value : Option ℕ) → AllStand (return_ops ops id value)
    unfolding return_ops node_of
    of_return None = leave
    of_return (Some value) = behind_part value (LEAVEWITH id) refl

    pub of_super : (arguments : List ℕ) (b : Binding) → AllStand (super_ops ops id arguments b)
    unfolding super_ops node_of
    of_super arguments (ClassNamed superclass) =
        either (is_user_class superclass) _ _ (at (THIS id) refl, behind_all arguments (SUPER id) refl)
        (either (has_form superclass) _ _ (behind_all arguments (PARAMS id) refl) tt)
    of_super arguments _ = tt
