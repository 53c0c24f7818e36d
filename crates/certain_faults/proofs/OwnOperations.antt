-- A node that is certain to end with a fault has an operation of its own, which stands where the node does.
use Rattle.std.specs.Prelude.{Option, Some, None, slice_get, ◌==◌}
use Rattle.std.proofs.Common.{◌≡◌, ℕ, List, [], ◌∷◌, Bool, true, false, refl, ap, subst, arith, if◌then◌else◌}
use Rattle.std.proofs.lemmas.Bool.Decides.{nat_tests}
use Rattle.scj_base.specs.declared.positions.Position.{Position}
use Rattle.scj_base.specs.declared.faults.RunFault.{RunFault}
use Rattle.scj_builtins.specs.Framework.{managed_memory_enter_private_memory, services_set_ceiling, device_read}
use Rattle.scj_tree.specs.declared.nodes.Node.{Node}
use Rattle.scj_tree.specs.declared.nodes.Node.TheVariants.{Binary, Call, NewArray, SuperCall}
use Rattle.scj_rules.specs.declared.typing.Binding.{Binding}
use Rattle.scj_rules.specs.declared.typing.Binding.TheVariants.{Builtin}
use Rattle.scj_rules.specs.Words.{◌>>=◌}
use Rattle.scj_rules.specs.Views.{nowhere}
use Rattle.scj_model.specs.declared.operations.Op.{Op}
use Rattle.scj_model.specs.declared.operations.Op.TheVariants.{Bin as BIN, AllocArray as ALLOCARRAY, Enter as ENTER, SetCeiling as SETCEILING, Read as READ, Params as PARAMS}
use Rattle.scj_model.specs.Code.{Code, binding, position_of_node}
use Rattle.scj_model.specs.Ops.{node_of}
use Rattle.scj_model.specs.Run.{position_of_op}
use Rattle.certain_faults.specs.Known.{left_by}
use Rattle.certain_faults.specs.Faults.{port_fault, size_fault, ceiling_fault, call_fault, fault_at_node, certain_fault, call_operation, operation_of, FaultsFor}

module _ (code : Code) (op : Op) where
  some_node : (id : ℕ) (a : Op) → node_of a ≡ Some id → Some a ≡ Some op → node_of op ≡ Some id
  some_node id a e same = subst (λ (o : Op). node_of o ≡ Some id) (let t : a ≡ op = cc (same) in t) e

  call_node : (id method : ℕ) → call_operation id method ≡ Some op → node_of op ≡ Some id
  unfolding call_operation node_of
  call_node id method e =
      go (method == managed_memory_enter_private_memory) (method == services_set_ceiling) (method == device_read) e
    where
      go : (a b c : Bool) →
          (if a then Some (ENTER id) else (if b then Some (SETCEILING id) else (if c then Some (READ id) else None)))
          ≡ Some op → node_of op ≡ Some id
      go true b c k = some_node id (ENTER id) refl k
      go false true c k = some_node id (SETCEILING id) refl k
      go false false true k = some_node id (READ id) refl k
      go false false false k = absurd (cc (k))

  bound_node : (id : ℕ) (b : Binding) →
      (elim b as (λ z. Option Op) [ Builtin t ↦ call_operation id t.id | _ ↦ None ]) ≡ Some op → node_of op ≡ Some id
  bound_node id (Builtin t) e = call_node id t.id e
  bound_node id b e = absurd (cc (e))

  own_node : (id : ℕ) (node : Node) → operation_of code id node ≡ Some op → node_of op ≡ Some id
  unfolding operation_of node_of
  own_node id (Binary position operator l r) e = some_node id (BIN id) refl e
  own_node id (NewArray position element size) e = some_node id (ALLOCARRAY id) refl e
  own_node id (Call position name object arguments) e = bound_node id (binding code id) e
  own_node id (SuperCall position arguments) e = some_node id (PARAMS id) refl e
  own_node id node e = absurd (cc (e))

  pub own_position : (fault : RunFault) (x : FaultsFor code op fault) → position_of_op code op ≡ position_of_node code x.id
  own_position fault x =
      ap (λ (o : Option ℕ). elim o as (λ z. Position) [ None ↦ nowhere | Some node ↦ position_of_node code node ])
      (own_node x.id x.node x.is_operation)

module _ (code : Code) (id : ℕ) (fault : RunFault) where
  abbrev Has : Node → Type 0
  Has node = (op : Op) × (operation_of code id node ≡ Some op)

  call_has : (xs : List ℕ) (b : Binding) → call_fault (left_by code) xs b ≡ Some fault →
      (op : Op) × ((elim b as (λ z. Option Op) [ Builtin t ↦ call_operation id t.id | _ ↦ None ]) ≡ Some op)
  unfolding call_fault call_operation
  call_has (x ∷ []) (Builtin t) e = go (t.id == device_read) refl e
    where
      go : (b : Bool) → (t.id == device_read) ≡ b → (if b then port_fault (left_by code x) else None) ≡ Some fault →
          (op : Op) × (call_operation id t.id ≡ Some op)
      go true same k =
          (let read : t.id ≡ device_read = grind (arith, nat_tests) in (READ id, ap (call_operation id) read))
      go false same k = absurd (cc (k))
  call_has (x ∷ y ∷ []) (Builtin t) e =
      go (t.id == managed_memory_enter_private_memory) refl (t.id == services_set_ceiling) refl e
    where
      go : (b : Bool) → (t.id == managed_memory_enter_private_memory) ≡ b → (c : Bool) →
          (t.id == services_set_ceiling) ≡ c →
          (if b then size_fault (left_by code x) (left_by code y)
          else (if c then ceiling_fault (left_by code x) (left_by code y) else None)) ≡ Some fault →
          (op : Op) × (call_operation id t.id ≡ Some op)
      go true same c other k =
          (let enter : t.id ≡ managed_memory_enter_private_memory = grind (arith, nat_tests) in
          (ENTER id, ap (call_operation id) enter))
      go false other true same k =
          (let set : t.id ≡ services_set_ceiling = grind (arith, nat_tests) in
          (SETCEILING id, ap (call_operation id) set))
      go false other false same k = absurd (cc (k))
  call_has [] (Builtin t) e = absurd (cc (e))
  call_has (x ∷ y ∷ z ∷ xs) (Builtin t) e = absurd (cc (e))
  call_has xs b e = absurd (cc (e))

  node_has : (node : Node) → fault_at_node code id node ≡ Some fault → Has node
  unfolding fault_at_node operation_of
  node_has (Binary position operator l r) e = (BIN id, refl)
  node_has (NewArray position element size) e = (ALLOCARRAY id, refl)
  node_has (Call position name object arguments) e = call_has arguments (binding code id) e
  node_has (SuperCall position arguments) e = (PARAMS id, refl)
  node_has node e = absurd (cc (e))

  pub has_operation : certain_fault code id ≡ Some fault → (op : Op) × ((x : FaultsFor code op fault) × (x.id ≡ id))
  unfolding certain_fault
  has_operation e = go (slice_get code.program.nodes id) refl e
    where
      go : (o : Option Node) → slice_get code.program.nodes id ≡ o → (o >>= fault_at_node code id) ≡ Some fault →
          (op : Op) × ((x : FaultsFor code op fault) × (x.id ≡ id))
      go None there k = absurd (cc (k))
      go (Some node) there k =
          (let h = node_has node k in (
            h.0,
            (record { id = id; node = node; is_there = there; is_operation = h.1; is_certain = e }, refl),
          ))
