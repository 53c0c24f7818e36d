-- Literals, `this` and expressions in parentheses.
use Rattle.std.proofs.Common.{◌≡◌, ℕ, List, [], ◌∷◌, refl, ap, Option, Some, Bool, true, not, slice_get}
use Rattle.scj_base.specs.declared.positions.Position.{Position}
use Rattle.scj_tree.specs.declared.nodes.Node.{Node}
use Rattle.scj_tree.specs.declared.nodes.Node.TheVariants.{Parenthesized, Number, True, False, Null, This as ThisNode}
use Rattle.scj_tree.specs.Forest.{Forest, IsForest}
use Rattle.scj_tree.specs.Shape.{children}
use Rattle.scj_rules.specs.declared.typing.Scope.TheVariants.{Any}
use Rattle.scj_rules.specs.declared.typing.Ty.{Ty}
use Rattle.scj_rules.specs.declared.typing.Ty.TheVariants.{NullTy, Class as ClassTy}
use Rattle.scj_rules.specs.Words.{is_among}
use Rattle.scj_rules.specs.Contexts.{Declarations, declarations_of, object_of, declared_before}
use Rattle.scj_rules.specs.TypeRules.{type_of}
use Rattle.scj_rules.specs.UseRules.{scope_of}
use Rattle.scj_rules.specs.Phases.{IsAccepted}
use Rattle.accepted_laws.specs.Judgements.{type_at_node, scope_at_node, Inside, Judged, Child, OwnObject}
use Rattle.accepted_laws.specs.Kinds.{Kind, number, truth, reference, kind_of}
use Rattle.accepted_laws.specs.Sorts.{HasRightChildren, IsWellSorted, is_argument, is_expression}
use Rattle.accepted_laws.proofs.Contexts.{known_same}
use Rattle.accepted_nodes.proofs.FormParts.{takes_parts}
use Rattle.accepted_nodes.proofs.ScopesComplete.{scope_is}
use Rattle.accepted_nodes.proofs.TypesComplete.{at_p, type_is, ValueAt, child_at, of_expression, same_first}
use Rattle.accepted_nodes.proofs.ValueFacts.{this_is_own}
use Rattle.accepted_facts.specs.Expressions.{Operand, Operands}
use Rattle.accepted_facts.proofs.AccessFacts.{int_judged, boolean_judged}
use Rattle.scope_flow.specs.ValueFacts.{HasValue, HaveValues, HasObject, ThisFact}
use Rattle.flow_facts.proofs.GivenKinds.{judged_once, judged_as}

-- ---- operands and own objects, in the words of runs

pub value_of : (p : Declarations) (b c id x : ℕ) (k : Kind) → Operand p b c id x k → HasValue p b c id x (Some k)
value_of p b c id x k o = (o.child, o.judged)

pub values_of : (p : Declarations) (b c id : ℕ) (xs : List ℕ) (ks : List Kind) → Operands p b c id xs ks →
    HaveValues p b c id xs ks
values_of p b c id [] [] h = tt
values_of p b c id (x ∷ xs) (k ∷ ks) h = (value_of p b c id x k h.0, values_of p b c id xs ks h.1)
values_of p b c id [] (k ∷ ks) h = absurd h
values_of p b c id (x ∷ xs) [] h = absurd h

unfoldable pub object_of_own : (p : Declarations) (b c : ℕ) → (own : OwnObject p b c) → HasObject p b c
object_of_own p b c own = record { for_object = ap not own.has_object; home = own.home; is_home = own.is_home }

module _ (forest : Forest) (accepted : IsAccepted forest) (whole : IsForest forest) (sorted : IsWellSorted forest.nodes)
  where
    abbrev p : Declarations
    p = declarations_of forest

    pub number_fact : (id : ℕ) (position : Position) (value : ℕ) (is_negative : Bool) (o : Option Kind) →
        slice_get forest.nodes id ≡ Some (Number position value is_negative) → Judged p id o → o ≡ Some number
    unfolding type_of
    number_fact id position value is_negative o there j =
        judged_once p id o (Some number) j
        (int_judged forest accepted whole sorted id
        (type_is forest accepted whole sorted id (Number position value is_negative) there))

    pub true_fact : (id : ℕ) (position : Position) (o : Option Kind) → slice_get forest.nodes id ≡ Some (True position) →
        Judged p id o → o ≡ Some truth
    unfolding type_of
    true_fact id position o there j =
        judged_once p id o (Some truth) j
        (boolean_judged forest accepted whole sorted id (type_is forest accepted whole sorted id (True position) there))

    pub false_fact : (id : ℕ) (position : Position) (o : Option Kind) → slice_get forest.nodes id ≡ Some (False position) →
        Judged p id o → o ≡ Some truth
    unfolding type_of
    false_fact id position o there j =
        judged_once p id o (Some truth) j
        (boolean_judged forest accepted whole sorted id (type_is forest accepted whole sorted id (False position) there))

    null_judged : (id : ℕ) → type_at_node p id ≡ Some NullTy → Judged p id (Some (reference NullTy Any))
    unfolding Judged kind_of
    null_judged id e = ap (λ (o : Option Ty). kind_of o (scope_at_node p id)) e

    pub null_fact : (id : ℕ) (position : Position) (o : Option Kind) → slice_get forest.nodes id ≡ Some (Null position) →
        Judged p id o → o ≡ Some (reference NullTy Any)
    unfolding type_of
    null_fact id position o there j =
        judged_once p id o (Some (reference NullTy Any)) j
        (null_judged id (type_is forest accepted whole sorted id (Null position) there))

    pub this_fact : (b c id : ℕ) (position : Position) (o : Option Kind) → slice_get forest.nodes id ≡ Some (ThisNode position) →
        Inside p b c id → Judged p id o → ThisFact p b c o
    this_fact b c id position o there inside j =
        let t =
        this_is_own forest accepted whole sorted b c id position
        (at_p forest accepted whole sorted id (ThisNode position) there) inside in
        let own = t.0 in
        record {
          own = record { for_object = ap not own.has_object; home = own.home; is_home = own.is_home };
          is_given = judged_once p id o (Some (reference (ClassTy c) own.home)) j t.1;
        }

    -- a child that is a value, before which nothing is declared
    pub child_of : (b c id x : ℕ) (node : Node) → slice_get forest.nodes id ≡ Some node →
        is_among x (children node) ≡ true → declared_before forest.nodes node x ≡ [] →
        ValueAt forest accepted whole sorted b c id x → Child p b c id x
    child_of b c id x node there among none v =
        record { smaller = v.less; inside = v.inside; known = known_same forest whole id x node there among none }

    pub parenthesized_fact : (b c id inner : ℕ) (position : Position) (o : Option Kind) →
        slice_get forest.nodes id ≡ Some (Parenthesized position inner) → Inside p b c id → Judged p id o →
        HasValue p b c id inner o
    unfolding children is_argument is_expression object_of takes_parts HasRightChildren declared_before type_of scope_of
    parenthesized_fact b c id inner position o there inside j =
        let node : Node = Parenthesized position inner in
        let first = same_first forest accepted whole sorted inner [] in
        let x = child_at forest accepted whole sorted b c id node there inside refl inner first
        (of_expression forest accepted whole sorted inner (sorted.each id node there)) refl refl in (
          child_of b c id inner node there first refl x,
          judged_as p id inner o (type_is forest accepted whole sorted id node there)
              (scope_is forest accepted whole sorted id node there) j,
        )
