-- The parts of any call: its receiver, its arguments, and what the rules on uses say of it.
use Rattle.std.proofs.Common.{◌≡◌, ℕ, List, [], ◌++◌, refl, sym, ap, ◌∙◌, Option, Some, None, Bool, true, false, true≢false, option_map, is_some, slice_get, if◌then◌else◌, ◌==◌}
use Rattle.scj_base.specs.declared.findings.Rule.TheVariants.{E2}
use Rattle.scj_base.specs.declared.positions.Position.{Position}
use Rattle.scj_builtins.specs.Framework.{managed_memory}
use Rattle.scj_tree.specs.declared.nodes.Node.{Node}
use Rattle.scj_tree.specs.declared.nodes.Node.TheVariants.{Call}
use Rattle.scj_tree.specs.Forest.{Forest, IsForest}
use Rattle.scj_tree.specs.Shape.{children}
use Rattle.scj_rules.specs.declared.typing.Receiver.{Receiver}
use Rattle.scj_rules.specs.declared.typing.Receiver.TheVariants.{Own as own_object}
use Rattle.scj_rules.specs.declared.typing.Ty.{Ty}
use Rattle.scj_rules.specs.Words.{is_among, holds, broken, found_at}
use Rattle.scj_rules.specs.Classes.{FoundMethod, is_user_class}
use Rattle.scj_rules.specs.Contexts.{Declarations, declarations_of, object_of, declared_before}
use Rattle.scj_rules.specs.Types.{call_receiver, all_types, method_called}
use Rattle.scj_rules.specs.TypeRules.{Types}
use Rattle.scj_rules.specs.UseRules.{Scopes, receiver_scope, current_at, of_user, called_user_method, misfits_call, e3_of_call, use_breaks, e1, e2, e3, e4_and_e5, e6, e7, e8, e9, e10}
use Rattle.scj_rules.specs.Phases.{IsAccepted}
use Rattle.scj_rules.proofs.ChainLemmas.{or_right, same_number}
use Rattle.accepted_laws.specs.Judgements.{type_at_node, scope_at_node, Inside, Judged}
use Rattle.accepted_laws.specs.Kinds.{Kind}
use Rattle.accepted_laws.specs.Sorts.{HasRightChildren, IsWellSorted, is_argument, is_expression}
use Rattle.accepted_laws.proofs.Breaks.{both_empty}
use Rattle.accepted_nodes.proofs.FormParts.{takes_parts}
use Rattle.accepted_nodes.proofs.ScopesComplete.{arguments_typed}
use Rattle.accepted_nodes.proofs.TypesComplete.{ValueAt, value_at, child_at, all_of, of_expression, same_first, receiver_there}
use Rattle.accepted_nodes.proofs.ValueChildren.{not_first}
use Rattle.accepted_facts.specs.Expressions.{Operand}
use Rattle.accepted_facts.proofs.AccessFacts.{operand_at, type_of_value}

user_is : (f : FoundMethod) → f.method.builtin ≡ None → of_user (Some f) ≡ Some f
user_is f n = ap (λ (o : Option ℕ). if is_some o then None else Some f) n

pub user_not_memory : (class : ℕ) → is_user_class class ≡ true → (class == managed_memory) ≡ false
user_not_memory class u = go (class == managed_memory) refl
  where
    go : (t : Bool) → (class == managed_memory) ≡ t → (class == managed_memory) ≡ false
    go false e = e
    go true e = absurd (true≢false (sym u ∙ ap is_user_class (same_number class managed_memory e)))

module _ (forest : Forest) (accepted : IsAccepted forest) (whole : IsForest forest) (sorted : IsWellSorted forest.nodes)
  where
    abbrev p : Declarations
    p = declarations_of forest

    abbrev types : Types
    types = type_at_node p

    abbrev scopes : Scopes
    scopes = scope_at_node p

    abbrev At : ℕ → ℕ → ℕ → ℕ → Type 0
    At b c id x = ValueAt forest accepted whole sorted b c id x

    -- ---- arguments and receiver

    pub record CallParts (b c id : ℕ) (name : List ℕ) (object : Option ℕ) (arguments : List ℕ) : Type 0 where
      pub values : (x : ℕ) → is_among x arguments ≡ true → At b c id x
      pub operands : (x : ℕ) (k : Kind) → is_among x arguments ≡ true → Judged p x (Some k) → Operand p b c id x k
      pub r : Receiver
      pub is_receiver : call_receiver p types id object ≡ Some r
      pub ts : List Ty
      pub typed : all_types types arguments ≡ Some ts

    pub call_parts : (b c id : ℕ) (position : Position) (name : List ℕ) (object : Option ℕ) (arguments : List ℕ) →
        slice_get forest.nodes id ≡ Some (Call position name object arguments) → Inside p b c id →
        CallParts b c id name object arguments
    unfolding children is_argument is_expression object_of takes_parts HasRightChildren declared_before call_receiver
    call_parts b c id position name None arguments there inside =
        let node : Node = Call position name None arguments in
        let s = sorted.each id node there in
        let values : (x : ℕ) → is_among x arguments ≡ true → At b c id x =
        λ x among. child_at forest accepted whole sorted b c id node there inside refl x among
        (all_of forest accepted whole sorted x arguments s.1 among) refl refl in
        let ts = arguments_typed forest accepted whole sorted b c id arguments values in
        record {
          values = values;
          operands = λ x k among j. operand_at forest accepted whole sorted b c id x node k there among refl
              (values x among) j;
          r = own_object c;
          is_receiver = ap (option_map (λ class. own_object class)) inside.class;
          ts = ts.0;
          typed = ts.1;
        }
    call_parts b c id position name (Some object) arguments there inside =
        let node : Node = Call position name (Some object) arguments in
        let s = sorted.each id node there in
        let o = of_expression forest accepted whole sorted object s.0 in
        let values : (x : ℕ) → is_among x arguments ≡ true → At b c id x =
        λ x among. child_at forest accepted whole sorted b c id node there inside refl x
        (or_right (x == object) (is_among x arguments) among)
        (all_of forest accepted whole sorted x arguments s.1 among)
        (not_first forest whole accepted id x object node arguments there refl among) refl in
        let ts = arguments_typed forest accepted whole sorted b c id arguments values in
        let r = receiver_there forest accepted whole sorted object o.node o.is_there
        (λ k. type_of_value forest accepted whole sorted b c id object
        (value_at forest accepted whole sorted b c id node there inside refl object
        (same_first forest accepted whole sorted object arguments) o k refl)) in
        record {
          values = values;
          operands = λ x k among j. operand_at forest accepted whole sorted b c id x node k there
              (or_right (x == object) (is_among x arguments) among) refl (values x among) j;
          r = r.0;
          is_receiver = r.1;
          ts = ts.0;
          typed = ts.1;
        }

    -- ---- the rules on uses

    -- E3 at a call of a user's method
    pub passed_rightly : (id : ℕ) (position : Position) (name : List ℕ) (object : Option ℕ) (arguments : List ℕ) →
        use_breaks p types scopes id (Call position name object arguments) ≡ [] →
        found_at (called_user_method p types id object name)
        (e3_of_call p scopes (receiver_scope p scopes id object) (current_at p id) arguments) ≡ []
    unfolding use_breaks e1 e2 e3
    passed_rightly id position name object arguments e =
        let node : Node = Call position name object arguments in
        let one =
        both_empty
        (broken (holds (called_user_method p types id object name) (misfits_call p scopes id object)) E2 position)
        (found_at (called_user_method p types id object name)
        (e3_of_call p scopes (receiver_scope p scopes id object) (current_at p id) arguments)
        ++ (e4_and_e5 p types scopes id node
        ++ (e6 p types scopes id node
        ++ (e7 p types scopes id node
        ++ (e8 p types scopes id node ++ (e9 p types scopes id node ++ e10 p types scopes id node)))))) e in
        (both_empty
        (found_at (called_user_method p types id object name)
        (e3_of_call p scopes (receiver_scope p scopes id object) (current_at p id) arguments))
        (e4_and_e5 p types scopes id node
        ++ (e6 p types scopes id node
        ++ (e7 p types scopes id node
        ++ (e8 p types scopes id node ++ (e9 p types scopes id node ++ e10 p types scopes id node))))) one.1).0

    pub user_called : (id : ℕ) (name : List ℕ) (object : Option ℕ) (f : FoundMethod) →
        method_called p types id object name ≡ Some f → f.method.builtin ≡ None →
        called_user_method p types id object name ≡ Some f
    user_called id name object f m n = ap of_user m ∙ user_is f n
