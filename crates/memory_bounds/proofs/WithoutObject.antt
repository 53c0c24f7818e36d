-- In an accepted program no node in the arguments of a super call looks at the object that is being made (T13).
use Rattle.std.specs.Prelude.{Option, Some, None, if◌then◌else◌, option_map, slice_get}
use Rattle.std.proofs.Common.{◌≡◌, ℕ, List, Bool, true, false, not, ◌&&◌, ◌||◌, refl, sym, ◌∙◌, ap, true≢false}
use Rattle.scj_base.specs.declared.positions.Position.{Position}
use Rattle.scj_tree.specs.declared.nodes.Node.{Node}
use Rattle.scj_tree.specs.declared.nodes.Node.TheVariants.{Call, SimpleName, SuperCall, This}
use Rattle.scj_tree.specs.Forest.{Forest, IsForest}
use Rattle.scj_tree.specs.Shape.{children}
use Rattle.scj_rules.specs.declared.contexts.Context.{Context}
use Rattle.scj_rules.specs.declared.typing.Binding.{Binding}
use Rattle.scj_rules.specs.declared.typing.Binding.TheVariants.{Builtin, Field as InstanceField, Local as LocalVariable, Method, Static, StaticMethod}
use Rattle.scj_rules.specs.declared.typing.Receiver.{Receiver}
use Rattle.scj_rules.specs.declared.typing.Receiver.TheVariants.{Own as own_object}
use Rattle.scj_rules.specs.declared.typing.Target.{Target}
use Rattle.scj_rules.specs.Words.{holds, is_among}
use Rattle.scj_rules.specs.Bindings.{binding_of, field_binding, meaning_binding, method_binding, plain_or, target, variable_binding}
use Rattle.scj_rules.specs.Classes.{FoundMethod}
use Rattle.scj_rules.specs.Contexts.{Declarations, child_context, context, declarations_of, has_object, is_static_member, is_super_call}
use Rattle.scj_rules.specs.Phases.{IsAccepted}
use Rattle.scj_rules.specs.TypeRules.{Types, is_instance_field, lacks_method, lacks_object_of_method}
use Rattle.scj_rules.specs.declared.typing.Meaning.{Meaning}
use Rattle.scj_rules.specs.declared.typing.Meaning.TheVariants.{Class as a_class, Field as a_field, Nothing as nothing, Variable as a_variable}
use Rattle.scj_rules.specs.Types.{call_receiver, called_method, is_value, meaning, names_class}
use Rattle.accepted_laws.specs.Judgements.{Inside, binding_at_node, type_at_node}
use Rattle.accepted_laws.specs.Sorts.{IsWellSorted}
use Rattle.accepted_laws.proofs.Contexts.{child_context_is}
use Rattle.accepted_nodes.proofs.ScopesComplete.{call_rules}
use Rattle.accepted_nodes.proofs.TypeBreaks.{right_call, right_name, right_this}
use Rattle.accepted_nodes.proofs.TypesComplete.{unbroken}
use Rattle.accepted_facts.proofs.NameFacts.{binding_is}
use Rattle.flow_facts.proofs.CallParts.{call_parts}
use Rattle.scj_model.specs.Code.{code_of}
use Rattle.memory_bounds.proofs.Inner.{StandWithoutObject}

-- what a node is bound to tells of its meaning and of the method that it calls
instance_field : (p : Declarations) (id k : ℕ) (m : Meaning) → meaning_binding p id m ≡ InstanceField k →
    is_instance_field m ≡ true
unfolding meaning_binding field_binding variable_binding is_instance_field
instance_field p id k (a_field f) e = of f.field.modifiers.is_static _ e
  where
    of : (b : Bool) (o : Option ℕ) → plain_or (λ k. if b then Static k else InstanceField k) o ≡ InstanceField k →
        not b ≡ true
    of false o e = refl
    of true None e = absurd (cc (e))
    of true (Some n) e = absurd (cc (e))
instance_field p id k (a_variable v) e = of _ e
  where
    of : (o : Option ℕ) → plain_or (λ k. LocalVariable k) o ≡ InstanceField k → is_instance_field (a_variable v) ≡ true
    of None e = absurd (cc (e))
    of (Some n) e = absurd (cc (e))
instance_field p id k (a_class class) e = absurd (cc (e))
instance_field p id k nothing e = absurd (cc (e))

calls_plain : (p : Declarations) (types : Types) (r : Receiver) (arguments : List ℕ) (f : FoundMethod) (t : Target) →
    method_binding p types r arguments f ≡ Method t → f.method.declared.modifiers.is_static ≡ false
unfolding method_binding
calls_plain p types r arguments f t e = of f.method.builtin _ e
  where
    by : (b : Bool) (k : Target) → (if b then StaticMethod k else Method k) ≡ Method t → b ≡ false
    by true k e = absurd (cc (e))
    by false k e = refl

    numbered : (o : Option ℕ) → plain_or (λ n.
        if f.method.declared.modifiers.is_static then StaticMethod (target types r f arguments n)
        else Method (target types r f arguments n)) o ≡ Method t → f.method.declared.modifiers.is_static ≡ false
    numbered None e = absurd (cc (e))
    numbered (Some n) e = by f.method.declared.modifiers.is_static _ e

    of : (o m : Option ℕ) → (elim o as (λ z. Binding) [
      | Some n ↦ Builtin (target types r f arguments n)
      | None ↦ plain_or (λ n. if f.method.declared.modifiers.is_static then StaticMethod (target types r f arguments n)
          else Method (target types r f arguments n)) m
    ]) ≡ Method t → f.method.declared.modifiers.is_static ≡ false
    of (Some n) m e = absurd (cc (e))
    of None m e = numbered m e

module _ (forest : Forest) (accepted : IsAccepted forest) (whole : IsForest forest) (sorted : IsWellSorted forest.nodes)
  where
    abbrev p : Declarations
    p = declarations_of forest

    abbrev types : Types
    types = type_at_node p

    -- a node stands in the arguments of a super call
    abbrev pub InSuper : ℕ → Type 0
    InSuper id = (context p id).in_super_call ≡ true

    lacks_one : (id : ℕ) → InSuper id → not (has_object p id) ≡ true
    unfolding has_object
    lacks_one id h =
        ap (λ t. not (not t && not (holds (context p id).member (is_static_member p.nodes)))) h

    both : (a b : Bool) → (a && b) ≡ false → b ≡ true → a ≡ false
    both true b e h = absurd (true≢false (sym h ∙ e))
    both false b e h = refl

    called : (id c : ℕ) (name : List ℕ) (f : FoundMethod) → called_method p (own_object c) name ≡ Some f →
        f.method.declared.modifiers.is_static ≡ false → lacks_method p (own_object c) name ≡ false →
        lacks_object_of_method p id name (own_object c) ≡ false → not (has_object p id) ≡ false
    unfolding names_class is_value
    called id c name f m plain l e =
        both (not (has_object p id)) _ e
        (ap
        (λ t. not t && holds (called_method p (own_object c) name)
        (λ (f : FoundMethod). not f.method.declared.modifiers.is_static)) l
        ∙ ap (λ (o : Option FoundMethod). holds o (λ (f : FoundMethod). not f.method.declared.modifiers.is_static)) m
        ∙ ap not plain)

    in_super : (id x : ℕ) (node : Node) → slice_get forest.nodes id ≡ Some node → is_among x (children node) ≡ true →
        (context p x).in_super_call ≡ (is_super_call node || (context p id).in_super_call)
    unfolding child_context
    in_super id x node there among =
        ap (λ (c : Context). c.in_super_call) (child_context_is forest whole id x node there among)

    -- `code_of` is opened here alone
    pub without_object : StandWithoutObject (code_of forest) InSuper
    unfolding code_of declarations_of children is_super_call binding_of call_receiver
    without_object = record {
      first = λ call x position arguments there among. in_super call x (SuperCall position arguments) there among;
      down = λ id x node there among h. in_super id x node there among ∙ or_true (is_super_call node) h;
      this = λ id position there h.
          none id h (right_this p types id position (unbroken forest accepted whole sorted id (This position) there));
      field = λ id k position name there bound h. of_field id k position name there bound h;
      call = λ b c id position name arguments t there inside bound h. of_call b c id position name arguments t there inside bound h;
    }
      where
        or_true : (a : Bool) {b : Bool} → b ≡ true → (a || b) ≡ true
        or_true true h = refl
        or_true false h = h

        none : (id : ℕ) → InSuper id → not (has_object p id) ≡ false → ⊥
        none id h e = true≢false (sym (lacks_one id h) ∙ e)

        of_field : (id k : ℕ) (position : Position) (name : List ℕ) → slice_get forest.nodes id ≡ Some (SimpleName position name) →
            binding_at_node p id ≡ InstanceField k → InSuper id → ⊥
        of_field id k position name there bound h =
            true≢false
            (sym (instance_field p id k (meaning p id name)
            (sym (binding_is forest accepted whole sorted id (SimpleName position name) there) ∙ bound))
            ∙ both (is_instance_field (meaning p id name)) (not (has_object p id))
            (right_name p types id position name
            (unbroken forest accepted whole sorted id (SimpleName position name) there)).has_object (lacks_one id h))

        of_call : (b c id : ℕ) (position : Position) (name arguments : List ℕ) (t : Target) →
            slice_get forest.nodes id ≡ Some (Call position name None arguments) → Inside p b c id →
            binding_at_node p id ≡ Method t → InSuper id → ⊥
        of_call b c id position name arguments t there inside bound h =
            of (called_method p (own_object c) name) refl
            (sym (ap (λ o. plain_or (λ r. plain_or (method_binding p types r arguments) (called_method p r name)) o)
            receiver)
            ∙ (sym (binding_is forest accepted whole sorted id (Call position name None arguments) there) ∙ bound))
          where
            receiver : call_receiver p types id None ≡ Some (own_object c)
            receiver = ap (option_map (λ class. own_object class)) inside.class

            of : (o : Option FoundMethod) → called_method p (own_object c) name ≡ o →
                plain_or (method_binding p types (own_object c) arguments) o ≡ Method t → ⊥
            of None e k = cc (k)
            of (Some f) e k =
                (let x = call_parts forest accepted whole sorted b c id position name None arguments there inside in
                let w = right_call p types id position name None arguments
                (unbroken forest accepted whole sorted id (Call position name None arguments) there) in
                let rules = call_rules forest accepted whole sorted id name None arguments (own_object c) x.ts receiver x.typed
                w in
                none id h (called id c name f e (calls_plain p types (own_object c) arguments f t k) rules.has_method
                rules.has_object))
