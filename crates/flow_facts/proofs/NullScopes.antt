-- What has the type of null lies anywhere: it is `null`, in parentheses or not.
use Rattle.std.proofs.Common.{◌≡◌, ℕ, zero, suc, ◌<◌, List, [], refl, sym, ap, ◌∙◌, arith, Option, Some, None, Bool, true, false, ◌&&◌, true≢false, ◌⊎◌, inl, inr, option_and_then, option_map, slice_get, if◌then◌else◌}
use Rattle.scj_tree.specs.declared.nodes.Node.{Node}
use Rattle.scj_tree.specs.declared.nodes.Node.TheVariants.{Binary, Unary, Cast, Parenthesized, SimpleName, FieldAccess, Call, Element, New, NewArray, Text, Number, True, False, Null, This as ThisNode}
use Rattle.scj_tree.specs.Forest.{Forest, IsForest}
use Rattle.scj_tree.specs.Shape.{children}
use Rattle.scj_rules.specs.declared.typing.FoundField.{FoundField}
use Rattle.scj_rules.specs.declared.typing.Meaning.{Meaning}
use Rattle.scj_rules.specs.declared.typing.Meaning.TheVariants.{Class as a_class, Field as a_field, Nothing as nothing, Variable as a_variable}
use Rattle.scj_rules.specs.declared.typing.Receiver.{Receiver}
use Rattle.scj_rules.specs.declared.typing.Scope.{Scope}
use Rattle.scj_rules.specs.declared.typing.Scope.TheVariants.{Any}
use Rattle.scj_rules.specs.declared.typing.Ty.{Ty}
use Rattle.scj_rules.specs.declared.typing.Ty.TheVariants.{Int, Bool as Boolean, Void, NullTy, Label, Class as ClassTy, IntArray, BoolArray, ClassArray}
use Rattle.scj_rules.specs.declared.views.WrittenType.{WrittenType}
use Rattle.scj_rules.specs.declared.views.WrittenType.TheVariants.{Class as class_type, ClassArray as class_array}
use Rattle.scj_rules.specs.Views.{variable_at}
use Rattle.scj_rules.specs.Classes.{ClassRow, FoundMethod, class_number}
use Rattle.scj_rules.specs.Contexts.{Declarations, declarations_of, context}
use Rattle.scj_rules.specs.Types.{type_written, binary_type, unary_type, is_boolean, is_int, are_comparable, element_type, array_of, meaning, receiver, call_receiver, called_method, accessed_field, is_length_of_array, all_types}
use Rattle.scj_rules.specs.TypeRules.{Types, type_of, type_of_meaning, access_type, call_type, declared_type_of, written_type}
use Rattle.scj_rules.specs.UseRules.{Scopes, scope_of}
use Rattle.scj_rules.specs.Phases.{IsAccepted}
use Rattle.scj_rules.proofs.ParentLemmas.{child-less}
use Rattle.accepted_laws.specs.Judgements.{type_at_node, scope_at_node}
use Rattle.accepted_laws.specs.Kinds.{number, truth, reference, kind_of}
use Rattle.accepted_laws.specs.Sorts.{HasRightChildren, IsWellSorted, is_argument, is_expression}
use Rattle.accepted_laws.proofs.SortSteps.{expression_is_argument}
use Rattle.accepted_laws.proofs.Tools.{some_inj}
use Rattle.accepted_nodes.proofs.ScopesComplete.{of_option, scope_is}
use Rattle.accepted_nodes.proofs.TypesComplete.{type_is, same_first}

abbrev NotNull : Option Ty → Type 0
NotNull o = o ≡ Some NullTy → ⊥

int_not : NotNull (Some Int)
int_not e = (let f : Int ≡ NullTy = some_inj Int NullTy e in cc (f))

boolean_not : NotNull (Some Boolean)
boolean_not e = (let f : Boolean ≡ NullTy = some_inj Boolean NullTy e in cc (f))

none_not : NotNull None
none_not e = cc (e)

class_not : (c : ℕ) → NotNull (Some (ClassTy c))
class_not c e = (let f : ClassTy c ≡ NullTy = some_inj (ClassTy c) NullTy e in cc (f))

if_not : (t : Bool) (a b : Option Ty) → NotNull a → NotNull b → NotNull (if t then a else b)
if_not true a b h k e = h e
if_not false a b h k e = k e

class_named_not : (o : Option ℕ) → NotNull (option_map (λ class. ClassTy class) o)
class_named_not None = none_not
class_named_not (Some c) = class_not c

array_named_not : (o : Option ℕ) → NotNull (option_map (λ class. ClassArray class) o)
array_named_not None e = none_not e
array_named_not (Some c) e = (let f : ClassArray c ≡ NullTy = some_inj (ClassArray c) NullTy e in cc (f))

-- no written type is that of null
written_not : (names : List (List ℕ)) (w : WrittenType) → NotNull (type_written names w)
unfolding type_written
written_not names (class_type name) e = class_named_not (class_number names name) e
written_not names (class_array name) e = array_named_not (class_number names name) e
written_not names _ e = cc (e)

binary_not : (rows : List ClassRow) (operator : ℕ) (a b : Ty) → NotNull (binary_type rows operator a b)
unfolding binary_type
binary_not rows operator a b e =
    if_not _ _ _ (if_not (is_boolean a && is_boolean b) (Some Boolean) None boolean_not none_not)
    (if_not _ _ _ (if_not (is_int a && is_int b) (Some Boolean) None boolean_not none_not)
    (if_not _ _ _ (if_not (are_comparable rows a b) (Some Boolean) None boolean_not none_not)
    (if_not (is_int a && is_int b) (Some Int) None int_not none_not)))
    e

unary_not : (operator : ℕ) (a : Ty) → NotNull (unary_type operator a)
unfolding unary_type
unary_not operator a e = if_not _ _ _ (if_not (is_boolean a) (Some Boolean) None boolean_not none_not)
    (if_not (is_int a) (Some Int) None int_not none_not) e

element_not : (a : Ty) → NotNull (element_type a)
unfolding element_type
element_not IntArray = int_not
element_not BoolArray = boolean_not
element_not (ClassArray c) = class_not c
element_not _ = none_not

array_not : (a : Ty) → NotNull (array_of a)
unfolding array_of
array_not Int e = (let f : IntArray ≡ NullTy = some_inj IntArray NullTy e in cc (f))
array_not Boolean e = (let f : BoolArray ≡ NullTy = some_inj BoolArray NullTy e in cc (f))
array_not (ClassTy c) e = (let f : ClassArray c ≡ NullTy = some_inj (ClassArray c) NullTy e in cc (f))
array_not _ e = none_not e

-- `null` or an expression in parentheses
unfoldable is_null_or_inner : Node → Bool
is_null_or_inner (Null position) = true
is_null_or_inner (Parenthesized position inner) = true
is_null_or_inner _ = false

-- a kind has the scope of its node, unless it is that of null
pub own_scope : (o : Option Ty) (q : Option Scope) (a s : Scope) (u : Ty) → q ≡ Some a →
    kind_of o q ≡ Some (reference u s) → (o ≡ Some NullTy) ⊎ (s ≡ a)
unfolding kind_of
own_scope (Some NullTy) q a s u e k = inl refl
own_scope (Some (ClassTy c)) q a s u e k =
    inr (let f : reference (ClassTy c) a ≡ reference u s = some_inj _ _ (sym (ap (kind_of (Some (ClassTy c))) e) ∙ k) in
    let g : a ≡ s = cc (f) in sym g)
own_scope (Some IntArray) q a s u e k =
    inr (let f : reference IntArray a ≡ reference u s = some_inj _ _ (sym (ap (kind_of (Some IntArray)) e) ∙ k) in
    let g : a ≡ s = cc (f) in sym g)
own_scope (Some BoolArray) q a s u e k =
    inr (let f : reference BoolArray a ≡ reference u s = some_inj _ _ (sym (ap (kind_of (Some BoolArray)) e) ∙ k) in
    let g : a ≡ s = cc (f) in sym g)
own_scope (Some (ClassArray c)) q a s u e k =
    inr
    (let f : reference (ClassArray c) a ≡ reference u s = some_inj _ _ (sym (ap (kind_of (Some (ClassArray c))) e) ∙ k)
    in let g : a ≡ s = cc (f) in sym g)
own_scope (Some Int) q a s u e k = absurd (let f : number ≡ reference u s = some_inj _ _ k in cc (f))
own_scope (Some Boolean) q a s u e k = absurd (let f : truth ≡ reference u s = some_inj _ _ k in cc (f))
own_scope (Some Void) q a s u e k = absurd (cc (k))
own_scope (Some Label) q a s u e k = absurd (cc (k))
own_scope None q a s u e k = absurd (cc (k))

module _ (forest : Forest) (accepted : IsAccepted forest) (whole : IsForest forest) (sorted : IsWellSorted forest.nodes)
  where
    abbrev p : Declarations
    p = declarations_of forest

    abbrev types : Types
    types = type_at_node p

    abbrev scopes : Scopes
    scopes = scope_at_node p

    meaning_not : (m : Meaning) → NotNull (type_of_meaning p m)
    unfolding type_of_meaning
    meaning_not (a_variable v) e =
        (let d = of_option (variable_at p.nodes v) (declared_type_of p) NullTy e in let w = d.0 in
        written_not p.names w.declared_type d.2)
    meaning_not (a_field f) e = written_not p.names f.field.declared_type e
    meaning_not (a_class c) e = none_not e
    meaning_not nothing e = none_not e

    access_not : (r : Receiver) (name : List ℕ) → NotNull (access_type p r name)
    unfolding access_type
    access_not r name = if_not (is_length_of_array r name) (Some Int) _ int_not
        (λ e. (let f = of_option (accessed_field p r name) (λ (f : FoundField). declared_type_of p f.field) NullTy e in
        let g = f.0 in written_not p.names g.field.declared_type f.2))

    call_not : (r : Receiver) (name : List ℕ) → NotNull (call_type p r name)
    unfolding call_type
    call_not r name e =
        (let f = of_option (called_method p r name) (λ (f : FoundMethod). declared_type_of p f.method.declared) NullTy e
        in let g = f.0 in written_not p.names g.method.declared.declared_type f.2)

    expression_not : (id : ℕ) (node : Node) → is_argument node ≡ true → is_null_or_inner node ≡ false →
        NotNull (type_of p types id node)
    unfolding type_of is_argument is_expression is_null_or_inner
    expression_not id (Null position) k n e = true≢false n
    expression_not id (Parenthesized position inner) k n e = true≢false n
    expression_not id (Number position value is_negative) k n e = int_not e
    expression_not id (True position) k n e = boolean_not e
    expression_not id (False position) k n e = boolean_not e
    expression_not id (Text position text) k n e = (let f : Label ≡ NullTy = some_inj Label NullTy e in cc (f))
    expression_not id (ThisNode position) k n e = class_named_not (context p id).class e
    expression_not id (SimpleName position name) k n e = meaning_not (meaning p id name) e
    expression_not id (Binary position operator left operand) k n e =
        let a = of_option (types left) (λ a. option_and_then (binary_type p.classes operator a) (types operand)) NullTy e
        in
        let b = of_option (types operand) (binary_type p.classes operator a.0) NullTy a.2 in
        binary_not p.classes operator a.0 b.0 b.2
    expression_not id (Unary position operator operand) k n e =
        (let a = of_option (types operand) (unary_type operator) NullTy e in unary_not operator a.0 a.2)
    expression_not id (Cast position name_position name operand) k n e =
        (let a = of_option (types operand) (λ t. option_map (λ class. ClassTy class) (class_number p.names name)) NullTy e
        in class_named_not (class_number p.names name) a.2)
    expression_not id (FieldAccess position name object) k n e =
        (let a = of_option (receiver p types object) (λ r. access_type p r name) NullTy e in access_not a.0 name a.2)
    expression_not id (Call position name object arguments) k n e =
        let a =
        of_option (call_receiver p types id object)
        (λ r. option_and_then (λ ts. call_type p r name) (all_types types arguments)) NullTy e in
        let b = of_option (all_types types arguments) (λ ts. call_type p a.0 name) NullTy a.2 in call_not a.0 name b.2
    expression_not id (Element position array index) k n e =
        let a = of_option (types array) (λ a. option_and_then (λ i. element_type a) (types index)) NullTy e in
        let b = of_option (types index) (λ i. element_type a.0) NullTy a.2 in element_not a.0 b.2
    expression_not id (New position name_position name arguments) k n e =
        if_not _ None (option_and_then (λ ts. option_map (λ class. ClassTy class) (class_number p.names name))
        (all_types types arguments)) none_not
        (λ e.
        (let a = of_option (all_types types arguments)
        (λ ts. option_map (λ class. ClassTy class) (class_number p.names name)) NullTy e in
        class_named_not (class_number p.names name) a.2)) e
    expression_not id (NewArray position element size) k n e =
        let a = of_option (types size) (λ n. option_and_then array_of (written_type p element)) NullTy e in
        let b = of_option (written_type p element) array_of NullTy a.2 in array_not b.0 b.2
    expression_not id _ k n e = true≢false (sym k)

    abbrev LiesBelow : ℕ → Type 0
    LiesBelow n = (x : ℕ) (node : Node) → x < n → slice_get forest.nodes x ≡ Some node → is_argument node ≡ true →
        types x ≡ Some NullTy → scopes x ≡ Some Any

    null_step : (x : ℕ) (node : Node) → slice_get forest.nodes x ≡ Some node → is_argument node ≡ true →
        types x ≡ Some NullTy → LiesBelow x → scopes x ≡ Some Any
    unfolding type_of scope_of is_null_or_inner HasRightChildren children is_argument
    null_step x (Null position) there k e ih = scope_is forest accepted whole sorted x (Null position) there
    null_step x (Parenthesized position inner) there k e ih =
        let node : Node = Parenthesized position inner in
        let o = sorted.each x node there in
        let less = child-less forest whole x inner node there (same_first forest accepted whole sorted inner []) in
        scope_is forest accepted whole sorted x node there ∙ ih inner o.node less o.is_there (wide o.node o.passes)
        (sym (type_is forest accepted whole sorted x node there) ∙ e)
      where
        wide : (n : Node) → is_expression n ≡ true → is_argument n ≡ true
        wide n h = expression_is_argument n h
    null_step x node there k e ih = absurd (other (is_null_or_inner node) refl)
      where
        other : (t : Bool) → is_null_or_inner node ≡ t → ⊥
        other false n = expression_not x node k n (sym (type_is forest accepted whole sorted x node there) ∙ e)
        other true n = true≢false (sym n)

    lies_below : (n : ℕ) → LiesBelow n
    lies_below zero x node l there k e = absurd (omega (arith, l))
    lies_below (suc n) x node l there k e = step (lies_below n)
      where
        step : LiesBelow n → scopes x ≡ Some Any
        step ih = null_step x node there k e (λ y m h. ih y m (omega (arith, h, l)))

    pub null_lies : (x : ℕ) (node : Node) → slice_get forest.nodes x ≡ Some node → is_argument node ≡ true →
        types x ≡ Some NullTy → scopes x ≡ Some Any
    null_lies x node there k e = lies_below (suc x) x node (omega arith) there k e
