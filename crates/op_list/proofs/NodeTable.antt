-- What the parts of each kind of node stand for.
use Rattle.std.proofs.Common.{◌≡◌, ℕ, ◌<◌, Bool, true, false, ◌==◌, List, [], ◌∷◌, ◌++◌, flat_map, Option, Some, None, if◌then◌else◌}
use Rattle.scj_base.specs.Vocabulary.{sign_and_and, sign_or_or}
use Rattle.scj_builtins.specs.Framework.{mission_request_termination, periodic_handler_register, aperiodic_handler_register, aperiodic_handler_release, managed_memory_enter_private_memory, managed_memory_execute_in_area_of, managed_memory_alloc_in_same, services_set_ceiling, trace_print, device_read}
use Rattle.scj_tree.specs.declared.nodes.Node.{Node}
use Rattle.scj_tree.specs.declared.nodes.Node.TheVariants.{SimpleName, FieldAccess, Element}
use Rattle.scj_tree.specs.Forest.{AllBelow}
use Rattle.scj_tree.specs.Shape.{optional}
use Rattle.scj_rules.specs.declared.typing.Binding.{Binding}
use Rattle.scj_rules.specs.declared.typing.Binding.TheVariants.{Local, Field, Static, Length, Class as ClassNamed, Method, StaticMethod, Builtin}
use Rattle.scj_rules.specs.Words.{is_among}
use Rattle.scj_model.specs.declared.operations.Op.{Op}
use Rattle.scj_model.specs.declared.operations.Op.TheVariants.{This as THIS, Load as LOAD, Get as GET, GetStatic as GETSTATIC, Length as LENGTH, Bin as BIN, And as AND, Or as OR, Alloc as ALLOC, Construct as CONSTRUCT, Call as CALL, CallStatic as CALLSTATIC, Enter as ENTER, ExecuteIn as EXECUTEIN, Same as SAME, SetCeiling as SETCEILING, Print as PRINT, Read as READ, Register as REGISTER, Release as RELEASE, Terminate as TERMINATE, Store as STORE, Put as PUT, PutStatic as PUTSTATIC, PutElem as PUTELEM, LeaveWith as LEAVEWITH, Leave as LEAVE, Drop as DROP}
use Rattle.scj_model.specs.Code.{Code}
use Rattle.scj_model.specs.Ops.{name_ops, access_ops, binary_ops, new_ops, receiver_ops, builtin_ops, call_ops, assign_ops, return_ops}
use Rattle.op_list.specs.declared.parts.Part.{Part}
use Rattle.op_list.specs.declared.parts.Part.TheVariants.{Emit}
use Rattle.op_list.specs.Parts.{items_at, all_items, name_parts, access_parts, binary_parts, new_parts, receiver_part, builtin_parts, call_parts, assign_parts, dropped_parts, return_parts}
use Rattle.op_list.proofs.StandFor.{StandFor, nothing, pick, visit, emit, last, items, items_alone}

-- the nodes of an assignment's target that are visited
unfoldable pub target_ids : Node → List ℕ
target_ids (FieldAccess position name object) = object ∷ []
target_ids (Element position array index) = array ∷ index ∷ []
target_ids _ = []

module _ (code : Code) (id : ℕ) (sub : ℕ → List Op) where
  abbrev none : StandFor code id sub [] []
  none = nothing code id sub

  own : (op : Op) → StandFor code id sub (Emit op ∷ []) (op ∷ [])
  own op = last code id sub op

  pub name_stands : (b : Binding) → StandFor code id sub (name_parts id b) (name_ops id b)
  unfolding name_parts name_ops
  name_stands (Local k) = own (LOAD id)
  name_stands (Field k) = emit code id sub (THIS id) _ _ (own (GET id))
  name_stands (Static k) = own (GETSTATIC id)
  name_stands _ = none

  pub access_stands : (object : ℕ) → object < id → (b : Binding) →
      StandFor code id sub (access_parts id object b) (access_ops sub id object b)
  unfolding access_parts access_ops
  access_stands object l (Field k) = visit code id sub object _ _ l (own (GET id))
  access_stands object l (Static k) = own (GETSTATIC id)
  access_stands object l Length = visit code id sub object _ _ l (own (LENGTH id))
  access_stands object l _ = none

  pub binary_stands : (operator left right : ℕ) → left < id → right < id →
      StandFor code id sub (binary_parts id operator left right) (binary_ops sub id operator left right)
  unfolding binary_parts binary_ops
  binary_stands operator left right l r =
      pick code id sub (operator == sign_and_and) _ _ _ _ (visit code id sub left _ _ l (own (AND id)))
      (pick code id sub (operator == sign_or_or) _ _ _ _ (visit code id sub left _ _ l (own (OR id)))
      (visit code id sub left _ _ l (visit code id sub right _ _ r (own (BIN id)))))

  pub new_stands : (xs : List ℕ) → items_at code.program.nodes id ≡ xs → AllBelow id xs → (b : Binding) →
      StandFor code id sub (new_parts id b) (new_ops sub id xs b)
  unfolding new_parts new_ops
  new_stands xs e h (ClassNamed class) =
      emit code id sub (ALLOC id) _ _ (items code id sub xs _ _ e h (own (CONSTRUCT id)))
  new_stands xs e h _ = items_alone code id sub xs e h

  -- the receiver, in front of others
  receiver_stands : (o : Option ℕ) (ps : List Part) (os : List Op) → AllBelow id (optional o) →
      StandFor code id sub ps os → StandFor code id sub (receiver_part id o ∷ ps) (receiver_ops sub id o ++ os)
  unfolding receiver_part receiver_ops AllBelow
  receiver_stands None ps os h t = emit code id sub (THIS id) ps os t
  receiver_stands (Some object) ps os h t = visit code id sub object ps os h.0 t

  module _ (o : Option ℕ) (xs : List ℕ) (e : items_at code.program.nodes id ≡ xs) (h : AllBelow id (optional o))
      (k : AllBelow id xs) where
    with_items : (op : Op) → StandFor code id sub (all_items id ∷ Emit op ∷ []) (flat_map sub xs ++ op ∷ [])
    with_items op = items code id sub xs _ _ e k (own op)

    with_receiver : (op : Op) →
        StandFor code id sub (receiver_part id o ∷ Emit op ∷ []) (receiver_ops sub id o ++ op ∷ [])
    with_receiver op = receiver_stands o _ _ h (own op)

    builtin_stands : (method : ℕ) → StandFor code id sub (builtin_parts id o method) (builtin_ops sub id o xs method)
    unfolding builtin_parts builtin_ops
    builtin_stands method =
        pick code id sub (method == managed_memory_enter_private_memory) _ _ _ _ (with_items (ENTER id))
        (pick code id sub (method == managed_memory_execute_in_area_of) _ _ _ _ (with_items (EXECUTEIN id))
        (pick code id sub (method == managed_memory_alloc_in_same) _ _ _ _ (with_items (SAME id))
        (pick code id sub (method == services_set_ceiling) _ _ _ _ (with_items (SETCEILING id))
        (pick code id sub (method == trace_print) _ _ _ _ (with_items (PRINT id))
        (pick code id sub (method == device_read) _ _ _ _ (with_items (READ id))
        (pick code id sub (method == mission_request_termination) _ _ _ _ (with_receiver (TERMINATE id))
        (pick code id sub (method == aperiodic_handler_release) _ _ _ _ (with_receiver (RELEASE id))
        (pick code id sub (is_among method (periodic_handler_register ∷ aperiodic_handler_register ∷ [])) _ _ _ _
        (with_receiver (REGISTER id)) none))))))))

    pub call_stands : (b : Binding) → StandFor code id sub (call_parts id o b) (call_ops sub id o xs b)
    unfolding call_parts call_ops
    call_stands (Method t) = receiver_stands o _ _ h (with_items (CALL id))
    call_stands (StaticMethod t) = with_items (CALLSTATIC id)
    call_stands (Builtin t) = builtin_stands t.id
    call_stands _ = none

  pub dropped_stands : (x : ℕ) → x < id → (b : Bool) →
      StandFor code id sub (dropped_parts id x b) (sub x ++ (if b then DROP id ∷ [] else []))
  unfolding dropped_parts
  dropped_stands x l true = visit code id sub x _ _ l (own (DROP id))
  dropped_stands x l false = visit code id sub x _ _ l none

  pub return_stands : (o : Option ℕ) → AllBelow id (optional o) →
      StandFor code id sub (return_parts id o) (return_ops sub id o)
  unfolding return_parts return_ops AllBelow
  return_stands None h = own LEAVE
  return_stands (Some x) h = visit code id sub x _ _ h.0 (own (LEAVEWITH id))

  pub assign_stands : (value : ℕ) → value < id → (node : Node) → AllBelow id (target_ids node) → (b : Binding) →
      StandFor code id sub (assign_parts id value b node) (assign_ops sub id value b node)
  unfolding assign_parts assign_ops target_ids AllBelow
  assign_stands value l (SimpleName position name) h (Local k) = visit code id sub value _ _ l (own (STORE id))
  assign_stands value l (SimpleName position name) h (Field k) =
      emit code id sub (THIS id) _ _ (visit code id sub value _ _ l (own (PUT id)))
  assign_stands value l (FieldAccess position name object) h (Field k) =
      visit code id sub object _ _ h.0 (visit code id sub value _ _ l (own (PUT id)))
  assign_stands value l node h (Static k) = visit code id sub value _ _ l (own (PUTSTATIC id))
  assign_stands value l (Element position array index) h b =
      visit code id sub array _ _ h.0
      (visit code id sub index _ _ h.1.0 (visit code id sub value _ _ l (own (PUTELEM id))))
  assign_stands value l _ h _ = none
