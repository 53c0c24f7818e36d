-- What a call or a `new` that stands as a statement has in an accepted program: it leaves a value where it has one.
use Rattle.std.proofs.Common.{◌≡◌, ℕ, List, [], refl, sym, ap, ◌∙◌, subst, Option, Some, None, Bool, true, false, not, true≢false, is_some, option_and_then, option_map, slice_get, if◌then◌else◌}
use Rattle.scj_base.specs.declared.positions.Position.{Position}
use Rattle.scj_tree.specs.declared.nodes.Node.{Node}
use Rattle.scj_tree.specs.declared.nodes.Node.TheVariants.{ExpressionStatement, Call, New}
use Rattle.scj_tree.specs.Forest.{Forest, IsForest}
use Rattle.scj_tree.specs.Shape.{children}
use Rattle.scj_rules.specs.declared.typing.Binding.{Binding}
use Rattle.scj_rules.specs.declared.typing.Binding.TheVariants.{Plain, Method, StaticMethod, Builtin}
use Rattle.scj_rules.specs.declared.typing.Receiver.{Receiver}
use Rattle.scj_rules.specs.declared.typing.Ty.{Ty}
use Rattle.scj_rules.specs.declared.typing.Ty.TheVariants.{Void, Class as ClassTy, ClassArray, Int, Bool as Boolean, Label, IntArray, BoolArray}
use Rattle.scj_rules.specs.declared.views.WrittenType.TheVariants.{Void as void_type, Int as int_type, Boolean as boolean_type, Long as long_type, Text as text_type, IntArray as int_array, BooleanArray as boolean_array, Class as class_type, ClassArray as class_array}
use Rattle.scj_rules.specs.Classes.{FoundMethod, class_number, method_named, method_number}
use Rattle.scj_rules.specs.ClassRules.{is_same_type}
use Rattle.scj_rules.specs.Contexts.{Declarations, declarations_of, object_of, declared_before}
use Rattle.scj_rules.specs.Types.{type_written, class_of_receiver, called_method, call_receiver, all_types, is_form_part}
use Rattle.scj_rules.specs.TypeRules.{Types, type_of, call_type, declared_type_of, class_type_named}
use Rattle.scj_rules.specs.Bindings.{binding_of, bindings_in, class_binding, method_binding, plain_or, target, user_method_binding}
use Rattle.scj_rules.specs.Phases.{IsAccepted}
use Rattle.accepted_laws.specs.Judgements.{Inside, Judged, IsValue, type_at_node, scope_at_node, binding_at_node}
use Rattle.accepted_laws.specs.Kinds.{Kind, kind_of}
use Rattle.accepted_laws.specs.Sorts.{HasRightChildren, IsWellSorted, is_argument, is_expression, is_invocation}
use Rattle.accepted_laws.proofs.InnerNodes.{is_inner}
use Rattle.accepted_laws.proofs.Tools.{some_inj}
use Rattle.accepted_nodes.proofs.FormParts.{takes_parts}
use Rattle.accepted_nodes.proofs.FoundMembers.{own_found}
use Rattle.accepted_nodes.proofs.ScopesComplete.{of_option}
use Rattle.accepted_nodes.proofs.TypesComplete.{type_is, same_first, of_class, at_p}
use Rattle.accepted_nodes.proofs.ValueFacts.{typed_of}
use Rattle.accepted_facts.proofs.CallFacts.{method_has_number}
use Rattle.accepted_facts.proofs.JudgedValues.{judged}
use Rattle.accepted_facts.proofs.NameFacts.{binding_is}
use Rattle.accepted_facts.proofs.OverridingKinds.{same_type}
use Rattle.accepted_facts.proofs.StatementFacts.{statement_value, void_no_kind}
use Rattle.scj_model.specs.Code.{Code}
use Rattle.scj_model.specs.Ops.{leaves_value}
use Rattle.scope_flow.specs.StatementFacts.{InvocationFact}
use Rattle.scj_rules.specs.declared.views.WrittenType.{WrittenType}
use Rattle.accepted_nodes.proofs.DeclaredTypes.{new_names_class}
use Rattle.accepted_laws.proofs.Contexts.{known_same}

invocation_is_argument : (n : Node) → is_invocation n ≡ true → is_argument n ≡ true
unfolding is_invocation is_argument is_expression
invocation_is_argument (Call position name object arguments) e = refl
invocation_is_argument (New position name_position name arguments) e = refl
invocation_is_argument _ e = absurd (true≢false (sym e))

invocation_is_expression : (n : Node) → is_invocation n ≡ true → is_expression n ≡ true
unfolding is_invocation is_expression
invocation_is_expression (Call position name object arguments) e = refl
invocation_is_expression (New position name_position name arguments) e = refl
invocation_is_expression _ e = absurd (true≢false (sym e))

class_no_void : (o : Option ℕ) → option_map (λ class. ClassTy class) o ≡ Some Void → ⊥
class_no_void None e = cc (e)
class_no_void (Some c) e = (let f : ClassTy c ≡ Void = some_inj (ClassTy c) Void e in cc (f))

array_no_void : (o : Option ℕ) → option_map (λ class. ClassArray class) o ≡ Some Void → ⊥
array_no_void None e = cc (e)
array_no_void (Some c) e = (let f : ClassArray c ≡ Void = some_inj (ClassArray c) Void e in cc (f))

-- a type is void exactly where it is written so
void_written : (names : List (List ℕ)) (w : WrittenType) → type_written names w ≡ Some Void →
    is_same_type w void_type ≡ true
unfolding type_written is_same_type
void_written names int_type e = absurd (let f : Int ≡ Void = some_inj Int Void e in cc (f))
void_written names boolean_type e = absurd (let f : Boolean ≡ Void = some_inj Boolean Void e in cc (f))
void_written names void_type e = refl
void_written names long_type e = absurd (cc (e))
void_written names text_type e = absurd (let f : Label ≡ Void = some_inj Label Void e in cc (f))
void_written names int_array e = absurd (let f : IntArray ≡ Void = some_inj IntArray Void e in cc (f))
void_written names boolean_array e = absurd (let f : BoolArray ≡ Void = some_inj BoolArray Void e in cc (f))
void_written names (class_type name) e = absurd (class_no_void (class_number names name) e)
void_written names (class_array name) e = absurd (array_no_void (class_number names name) e)

written_void : (names : List (List ℕ)) (w : WrittenType) (t : Ty) → type_written names w ≡ Some t → (t ≡ Void → ⊥) →
    is_same_type w void_type ≡ false
unfolding type_written
written_void names w t e n = go (is_same_type w void_type) refl
  where
    go : (b : Bool) → is_same_type w void_type ≡ b → is_same_type w void_type ≡ false
    go false s = s
    go true s = absurd (n (some_inj t Void (sym e ∙ ap (type_written names) (same_type w void_type s))))

module _ (forest : Forest) (accepted : IsAccepted forest) (whole : IsForest forest) (sorted : IsWellSorted forest.nodes)
  where
    abbrev p : Declarations
    p = declarations_of forest

    abbrev types : Types
    types = type_at_node p

    abbrev code : Code
    code = record { program = p; bindings = bindings_in p }

    -- a call leaves a value unless its method is void
    method_leaves : (r : Receiver) (arguments : List ℕ) (f : FoundMethod) →
        (is_some f.method.builtin ≡ false → (n : ℕ) × (method_number p.nodes p.users f.method.declared.node ≡ Some n)) →
        leaves_value (method_binding p types r arguments f) ≡ not (is_same_type f.method.declared.declared_type void_type)
    unfolding method_binding target leaves_value
    method_leaves r arguments f number = go f.method.builtin refl
      where
        by_static : (n : ℕ) (t : Bool) →
            leaves_value
            (if t then StaticMethod (target types r f arguments n) else Method (target types r f arguments n)) ≡ not
            (is_same_type f.method.declared.declared_type void_type)
        by_static n true = refl
        by_static n false = refl

        go : (o : Option ℕ) → f.method.builtin ≡ o →
            leaves_value
            (elim o as (λ _. Binding) [
              | Some number ↦ Builtin (target types r f arguments number)
              | None ↦ plain_or (user_method_binding types r arguments f)
                  (method_number p.nodes p.users f.method.declared.node)
            ]) ≡ not
            (is_same_type f.method.declared.declared_type void_type)
        go (Some n) e = refl
        go None e =
            (let n = number (ap is_some e) in
            ap (λ (o : Option ℕ). leaves_value (plain_or (user_method_binding types r arguments f) o)) n.1
            ∙ by_static n.0 f.method.declared.modifiers.is_static)

    record CallLeaves (x : ℕ) (t : Ty) : Type 0 where
      method : FoundMethod
      leaves : leaves_value (binding_at_node p x) ≡ not (is_same_type method.method.declared.declared_type void_type)
      typed : declared_type_of p method.method.declared ≡ Some t

    call_leaves : (x : ℕ) (position : Position) (name : List ℕ) (object : Option ℕ) (arguments : List ℕ) (t : Ty) →
        slice_get forest.nodes x ≡ Some (Call position name object arguments) → types x ≡ Some t → CallLeaves x t
    unfolding type_of call_type binding_of
    call_leaves x position name object arguments t there typed =
        let node : Node = Call position name object arguments in
        let r =
        of_option (call_receiver p types x object)
        (λ r. option_and_then (λ ts. call_type p r name) (all_types types arguments)) t
        (sym (type_is forest accepted whole sorted x node there) ∙ typed) in
        let ts = of_option (all_types types arguments) (λ ts. call_type p r.0 name) t r.2 in
        let f = of_option (called_method p r.0 name) (λ (f : FoundMethod). declared_type_of p f.method.declared) t ts.2 in
        let q = of_class (class_of_receiver r.0) (λ class. method_named p.classes class name) f.0 f.1 in
        let y = own_found forest accepted whole sorted q.0 name f.0 q.2 in
        let bound = binding_is forest accepted whole sorted x node there
        ∙ ap
        (λ (o : Option Receiver). plain_or
        (λ r. plain_or (method_binding p types r arguments) (called_method p r name)) o) r.1
        ∙ ap (λ (o : Option FoundMethod). plain_or (method_binding p types r.0 arguments) o) f.1 in
        record {
          method = f.0;
          leaves = ap leaves_value bound
              ∙ method_leaves r.0 arguments f.0 (λ b. method_has_number forest accepted whole sorted y.0 name f.0 y.1 b);
          typed = f.2;
        }

    new_leaves : (x : ℕ) (position name_position : Position) (name arguments : List ℕ) →
        slice_get forest.nodes x ≡ Some (New position name_position name arguments) → is_form_part p x ≡ false →
        leaves_value (binding_at_node p x) ≡ true
    unfolding binding_of leaves_value
    new_leaves x position name_position name arguments there part =
        let n = new_names_class forest accepted sorted x position name_position name arguments
        (at_p forest accepted whole sorted x (New position name_position name arguments) there) in
        ap leaves_value (binding_is forest accepted whole sorted x (New position name_position name arguments) there
        ∙ ap (λ t. if t then Plain else class_binding (class_number p.names name)) part ∙ ap class_binding n.1)

    new_no_void : (x : ℕ) (position name_position : Position) (name arguments : List ℕ) →
        slice_get forest.nodes x ≡ Some (New position name_position name arguments) → types x ≡ Some Void → ⊥
    unfolding type_of
    new_no_void x position name_position name arguments there e =
        go (is_form_part p x) (sym (type_is forest accepted whole sorted x (New position name_position name arguments) there)
        ∙ e)
      where
        go : (t : Bool) →
            (if t then None else option_and_then (λ ts. class_type_named p name) (all_types types arguments))
            ≡ Some Void → ⊥
        go true h = cc (h)
        go false h =
            (let q = of_option (all_types types arguments) (λ ts. class_type_named p name) Void h in
            class_no_void (class_number p.names name) q.2)

    void_of : (x : ℕ) → Judged p x None → types x ≡ Some Void
    unfolding Judged
    void_of x j = j

    value_of : (x : ℕ) (k : Kind) → Judged p x (Some k) → (t : Ty) × (types x ≡ Some t) × (t ≡ Void → ⊥)
    unfolding Judged
    value_of x k j =
        let t = typed_of (types x) (scope_at_node p x) k j in (
          t.0,
          t.1,
          λ v. void_no_kind (scope_at_node p x) k
              (sym (ap (λ (o : Option Ty). kind_of o (scope_at_node p x)) (t.1 ∙ ap (λ t. Some t) v)) ∙ j),
        )

    pub call_value : (x : ℕ) (position : Position) (name : List ℕ) (object : Option ℕ) (arguments : List ℕ)
        (gives : Option Kind) → slice_get forest.nodes x ≡ Some (Call position name object arguments) →
        Judged p x gives → leaves_value (binding_at_node p x) ≡ is_some gives
    call_value x position name object arguments None there j =
        let q = call_leaves x position name object arguments Void there (void_of x j) in
        q.leaves ∙ ap not (void_written p.names q.method.method.declared.declared_type q.typed)
    call_value x position name object arguments (Some k) there j =
        let t = value_of x k j in
        let q = call_leaves x position name object arguments t.0 there t.1 in
        q.leaves ∙ ap not (written_void p.names q.method.method.declared.declared_type t.0 q.typed t.2)

    leaves : (x : ℕ) (node : Node) (gives : Option Kind) → slice_get forest.nodes x ≡ Some node →
        is_invocation node ≡ true → IsValue p x node → Judged p x gives →
        leaves_value (binding_at_node p x) ≡ is_some gives
    unfolding is_invocation
    leaves x (Call position name object arguments) gives there k v j =
        call_value x position name object arguments gives there j
    leaves x (New position name_position name arguments) None there k v j =
        absurd (new_no_void x position name_position name arguments there (void_of x j))
    leaves x (New position name_position name arguments) (Some k2) there k v j =
        new_leaves x position name_position name arguments there v.no_form_part
    leaves x _ gives there k v j = absurd (true≢false (sym k))

    pub invocation_fact : (b c id expression : ℕ) (position : Position) →
        slice_get forest.nodes id ≡ Some (ExpressionStatement position expression) → Inside p b c id →
        InvocationFact code b c id expression
    unfolding HasRightChildren children is_inner object_of takes_parts declared_before
    invocation_fact b c id expression position there inside =
        let node : Node = ExpressionStatement position expression in
        let o = sorted.each id node there in
        let first = same_first forest accepted whole sorted expression [] in
        let v = statement_value forest accepted whole sorted b c id expression node there inside refl first
        (record { node = o.node; is_there = o.is_there; passes = invocation_is_argument o.node o.passes }) refl refl
        in
        let same : v.node ≡ o.node = some_inj v.node o.node (sym v.is_there ∙ o.is_there) in
        let value = subst (IsValue p expression) same v.value in
        let j = judged forest accepted whole sorted b c expression o.node o.is_there v.inside value
        (invocation_is_expression o.node o.passes) in
        record {
          gives = j.0;
          expression_is = (
            record {
              smaller = v.less;
              inside = v.inside;
              known = known_same forest whole id expression node there
                  first refl;
            },
            j.1,
          );
          is = leaves expression o.node j.0 o.is_there o.passes value j.1;
        }
