-- Elements of arrays, new arrays and casts.
use Rattle.std.proofs.Common.{◌≡◌, ℕ, ◌<◌, ◌≤◌, List, length, refl, sym, ap, ◌∙◌, subst, Option, Some, None, true, false, ◌||◌, true≢false, ◌⊎◌, inl, inr, option_and_then, option_map, slice_get}
use Rattle.scj_base.specs.declared.positions.Position.{Position}
use Rattle.scj_tree.specs.declared.nodes.Node.TheVariants.{Element, NewArray, Cast}
use Rattle.scj_tree.specs.Forest.{Forest, IsForest}
use Rattle.scj_rules.specs.declared.scopes.ClassScope.{ClassScope}
use Rattle.scj_rules.specs.declared.scopes.ClassScope.TheVariants.{Unannotated as unannotated, Annotated as annotated, Missing as scopeless}
use Rattle.scj_rules.specs.declared.typing.Binding.TheVariants.{Class as ClassNamed}
use Rattle.scj_rules.specs.declared.typing.Scope.{Scope}
use Rattle.scj_rules.specs.declared.typing.Scope.TheVariants.{Any, This, Caller, In, Unknown, Lost}
use Rattle.scj_rules.specs.declared.typing.Ty.{Ty}
use Rattle.scj_rules.specs.declared.typing.Ty.TheVariants.{Int, Bool as Boolean, Void, NullTy, Label, Class as ClassTy, IntArray, BoolArray, ClassArray}
use Rattle.scj_rules.specs.Views.{type_at}
use Rattle.scj_rules.specs.Bindings.{array_class, class_binding, binding_of}
use Rattle.scj_rules.specs.Classes.{ClassRow}
use Rattle.scj_rules.specs.Contexts.{Declarations, declarations_of}
use Rattle.scj_rules.specs.StaticScopes.{are_same_scope, beside, fits, class_scope, scope_or, this_in, current_in}
use Rattle.scj_rules.specs.Types.{assigns, are_same, is_array, element_type, array_of}
use Rattle.scj_rules.specs.TypeRules.{written_type}
use Rattle.scj_rules.specs.UseRules.{scope_of_element, scope_in_class}
use Rattle.scj_rules.specs.Phases.{IsAccepted}
use Rattle.accepted_laws.specs.Judgements.{type_at_node, scope_at_node, binding_at_node, Inside, Judged}
use Rattle.accepted_laws.specs.Kinds.{Kind, number, truth, reference, kind_of, seen_as, seen_kind}
use Rattle.accepted_laws.specs.Sorts.{IsWellSorted}
use Rattle.accepted_laws.proofs.Tools.{some_inj}
use Rattle.accepted_nodes.proofs.Uses.{same_scope}
use Rattle.accepted_facts.proofs.ArrayFacts.{element_facts, new_array_facts, cast_facts}
use Rattle.accepted_facts.proofs.ClassBounds.{names_and_classes, named_is_class}
use Rattle.accepted_facts.proofs.NameFacts.{binding_is}
use Rattle.scj_model.specs.Code.{Code, code_of}
use Rattle.scope_flow.specs.Slots.{kind_of_elements}
use Rattle.scope_flow.specs.Signatures.{Signature, IsBody, SlotsReach}
use Rattle.scope_flow.specs.ValueFacts.{ElementFact, NewArrayFact, CastFact}
use Rattle.flow_facts.proofs.ArrayClasses.{NamesClass, array_class_is, names_class, array_lies, array_reaches}
use Rattle.flow_facts.proofs.GivenKinds.{gives_value, valued}
use Rattle.flow_facts.proofs.Literals.{value_of}

-- ---- elements

record ElementKind (p : Declarations) (type : Ty) (scope : Scope) (k : Kind) : Type 0 where
  kind : Kind
  are : kind_of_elements p type ≡ Some kind
  seen : k ≡ seen_kind scope Caller kind

element_of : (p : Declarations) (type : Ty) (scope : Scope) (k : Kind) →
    kind_of (element_type type) (scope_of_element p (Some scope) type) ≡ Some k → ElementKind p type scope k
unfolding kind_of element_type scope_of_element scope_in_class kind_of_elements seen_kind seen_as this_in
element_of p IntArray scope k e = record { kind = number; are = refl; seen = sym (some_inj number k e) }
element_of p BoolArray scope k e = record { kind = truth; are = refl; seen = sym (some_inj truth k e) }
element_of p (ClassArray c) scope k e = of (go (class_scope p c) e)
  where
    Found : ClassScope → Type 0
    Found s =
        (r : Scope) ×
        (option_map (λ r. reference (ClassTy c) r) (scope_or s (Some This)) ≡ Some (reference (ClassTy c) r)) ×
        (k ≡ reference (ClassTy c) (seen_as scope Caller r))

    of : Found (class_scope p c) → ElementKind p (ClassArray c) scope k
    of q = record { kind = reference (ClassTy c) q.0; are = q.1; seen = q.2 }

    go : (s : ClassScope) → kind_of (Some (ClassTy c)) (scope_or s (Some (beside scope))) ≡ Some k → Found s
    go unannotated e = (This, refl, sym (some_inj (reference (ClassTy c) (beside scope)) k e))
    go (annotated n) e = (In n, refl, sym (some_inj (reference (ClassTy c) (In n)) k e))
    go scopeless e = absurd (cc (e))
element_of p _ scope k e = absurd (cc (e))

-- ---- casts

cast_no_array : (rows : List ClassRow) (t : Ty) (class : ℕ) →
    (assigns rows t (ClassTy class) || assigns rows (ClassTy class) t) ≡ true → is_array t ≡ false
unfolding assigns are_same is_array
cast_no_array rows IntArray class e = absurd (true≢false (sym e))
cast_no_array rows BoolArray class e = absurd (true≢false (sym e))
cast_no_array rows (ClassArray c) class e = absurd (true≢false (sym e))
cast_no_array rows _ class e = refl

null_any : (o : Option Ty) (s : Option Scope) (r : Scope) → kind_of o s ≡ Some (reference NullTy r) → r ≡ Any
unfolding kind_of
null_any (Some NullTy) s r e = (let f : reference NullTy Any ≡ reference NullTy r = some_inj _ _ e in cc (f))
null_any (Some Int) s r e = absurd (let f : number ≡ reference NullTy r = some_inj _ _ e in cc (f))
null_any (Some Boolean) s r e = absurd (let f : truth ≡ reference NullTy r = some_inj _ _ e in cc (f))
null_any (Some Void) s r e = absurd (cc (e))
null_any (Some Label) s r e = absurd (cc (e))
null_any None s r e = absurd (cc (e))
null_any (Some (ClassTy c)) None r e = absurd (cc (e))
null_any (Some IntArray) None r e = absurd (cc (e))
null_any (Some BoolArray) None r e = absurd (cc (e))
null_any (Some (ClassArray c)) None r e = absurd (cc (e))
null_any (Some (ClassTy c)) (Some s) r e =
    absurd (let f : reference (ClassTy c) s ≡ reference NullTy r = some_inj _ _ e in cc (f))
null_any (Some IntArray) (Some s) r e =
    absurd (let f : reference IntArray s ≡ reference NullTy r = some_inj _ _ e in cc (f))
null_any (Some BoolArray) (Some s) r e =
    absurd (let f : reference BoolArray s ≡ reference NullTy r = some_inj _ _ e in cc (f))
null_any (Some (ClassArray c)) (Some s) r e =
    absurd (let f : reference (ClassArray c) s ≡ reference NullTy r = some_inj _ _ e in cc (f))

-- what fits a named scope is null, or lies there
named_fit : (s : Scope) (n : ℕ) → fits s (In n) ≡ true → (s ≡ Any) ⊎ (In n ≡ s)
unfolding fits are_same_scope
named_fit Any n e = inl refl
named_fit This n e = inr (sym (same_scope This (In n) e))
named_fit Caller n e = inr (sym (same_scope Caller (In n) e))
named_fit (In m) n e = inr (sym (same_scope (In m) (In n) e))
named_fit Unknown n e = absurd (true≢false (sym e))
named_fit Lost n e = absurd (true≢false (sym e))

record CastScope (class : ℕ) (scope : Scope) (k : Kind) : Type 0 where
  seen : Scope
  lies : (scope ≡ Any) ⊎ (seen ≡ scope)
  is : k ≡ reference (ClassTy class) seen

cast_scope : (p : Declarations) (class : ℕ) (type : Ty) (scope : Scope) (other : Option Scope) (k : Kind) →
    ((n : ℕ) → class_scope p class ≡ annotated n → fits scope (In n) ≡ true) → (scope ≡ Any) ⊎ (other ≡ Some scope)
    → kind_of (Some (ClassTy class)) (scope_in_class p class other) ≡ Some k → CastScope class scope k
unfolding kind_of scope_in_class
cast_scope p class type scope other k fit there e = go (class_scope p class) refl e
  where
    unseen : (o : Option Scope) → (scope ≡ Any) ⊎ (o ≡ Some scope) → kind_of (Some (ClassTy class)) o ≡ Some k →
        CastScope class scope k
    unseen None t e = absurd (cc (e))
    unseen (Some r) (inl a) e = record { seen = r; lies = inl a; is = sym (some_inj (reference (ClassTy class) r) k e) }
    unseen (Some r) (inr s) e =
        record { seen = r; lies = inr (some_inj r scope s); is = sym (some_inj (reference (ClassTy class) r) k e) }

    go : (s : ClassScope) → class_scope p class ≡ s → kind_of (Some (ClassTy class)) (scope_or s other) ≡ Some k →
        CastScope class scope k
    go unannotated c e = unseen other there e
    go (annotated n) c e =
        record {
          seen = In n;
          lies = named_fit scope n (fit n c);
          is = sym
              (some_inj (reference (ClassTy class) (In n)) k e);
        }
    go scopeless c e = absurd (cc (e))

module _ (forest : Forest) (accepted : IsAccepted forest) (whole : IsForest forest) (sorted : IsWellSorted forest.nodes)
  where
    abbrev p : Declarations
    p = declarations_of forest

    abbrev code : Code
    code = code_of forest

    pub element_fact : (b c id array index : ℕ) (position : Position) (o : Option Kind) →
        slice_get forest.nodes id ≡ Some (Element position array index) → Inside p b c id → Judged p id o →
        ElementFact p b c id array index o
    unfolding gives_value
    element_fact b c id array index position o there inside j =
        let v = valued forest accepted whole sorted id (Element position array index) o there refl j in
        let f = element_facts forest accepted whole sorted b c id array index position v.0 there inside v.2 in
        let e = element_of p f.type f.scope v.0 f.gives in
        record {
          type = f.type;
          scope = f.scope;
          array_is = value_of p b c id array (reference f.type f.scope) f.array_is;
          index_is = value_of p b c id index number f.index_is;
          kind = e.kind;
          elements = e.are;
          is_given = v.1 ∙ ap (λ k. Some k) e.seen;
        }

    -- the scope that is current in a body
    pub is_current : (b c : ℕ) (sig : Signature) (now : Scope) → IsBody p b c sig → current_in p c b ≡ Some now →
        now ≡ sig.runs_in
    is_current b c sig now body e = some_inj now sig.runs_in (sym e ∙ body.runs_in)

    array_bound : (id element size class : ℕ) (position : Position) (of array : Ty) →
        slice_get forest.nodes id ≡ Some (NewArray position element size) → written_type p element ≡ Some of →
        array_of of ≡ Some array → array_class p array ≡ Some class → binding_at_node p id ≡ ClassNamed class
    unfolding binding_of
    array_bound id element size class position of array there e a k =
        binding_is forest accepted whole sorted id (NewArray position element size) there
        ∙ ap (λ (o : Option Ty). class_binding (option_and_then (array_class p) (option_and_then array_of o))) e
        ∙ ap (λ (o : Option Ty). class_binding (option_and_then (array_class p) o)) a ∙ ap class_binding k

    class_array_of : (of : Ty) (c : ℕ) → array_of of ≡ Some (ClassArray c) → of ≡ ClassTy c
    unfolding array_of
    class_array_of (ClassTy d) c e =
        (let f : ClassArray d ≡ ClassArray c = some_inj (ClassArray d) (ClassArray c) e in let g : d ≡ c = cc (f) in
        ap (λ d. ClassTy d) g)
    class_array_of Int c e = absurd (let f : IntArray ≡ ClassArray c = some_inj IntArray (ClassArray c) e in cc (f))
    class_array_of Boolean c e = absurd (let f : BoolArray ≡ ClassArray c = some_inj BoolArray (ClassArray c) e in cc (f))
    class_array_of _ c e = absurd (cc (e))

    pub new_array_fact : (b c : ℕ) (sig : Signature) (id element size : ℕ) (position : Position) (o : Option Kind) →
        IsBody p b c sig → slice_get forest.nodes id ≡ Some (NewArray position element size) → Inside p b c id →
        Judged p id o → NewArrayFact code b c sig id size o
    unfolding code_of gives_value
    new_array_fact b c sig id element size position o body there inside j =
        let v = valued forest accepted whole sorted id (NewArray position element size) o there refl j in
        let f = new_array_facts forest accepted whole sorted b c id element size position v.0 there inside v.2 in
        let now : f.now ≡ sig.runs_in = is_current b c sig f.now body f.is_now in
        let named : NamesClass p f.of =
        λ d e. (let m = names_class p (type_at p.nodes element) d (f.is_element ∙ ap (λ t. Some t) e) in
        subst (λ n. d < n) (sym (names_and_classes forest)) (named_is_class forest m.0 d m.1)) in
        let a = array_class_is p f.of f.array f.is_array_of named in
        let behind : length p.classes ≤ a.class = subst (λ n. n ≤ a.class) (names_and_classes forest) a.behind in
        record {
          class = a.class;
          is = array_bound id element size a.class position f.of f.array there f.is_element f.is_array_of a.numbered;
          slot = a.slot;
          elements = a.elements;
          type = f.array;
          is_type = a.is_type;
          lies = array_lies forest accepted a.class sig.runs_in behind;
          reach =
              subst (SlotsReach p a.class) now
              (array_reaches forest accepted a.class f.array f.now a.is_type
              (λ d s e k. f.outer d s (class_array_of f.of d (f.is_array_of ∙ ap (λ t. Some t) e)) k));
          count_is = value_of p b c id size number f.size_is;
          is_given = v.1 ∙ ap (λ k. Some k) (f.gives ∙ ap (λ s. reference f.array s) now);
        }

    -- what has the type of null lies anywhere
    null_scope : (x : ℕ) (t : Ty) (s : Scope) → Judged p x (Some (reference t s)) → t ≡ NullTy → s ≡ Any
    unfolding Judged
    null_scope x t s j e =
        null_any (type_at_node p x) (scope_at_node p x) s
        (subst (λ t. kind_of (type_at_node p x) (scope_at_node p x) ≡ Some (reference t s)) e j)

    pub cast_fact : (b c id operand : ℕ) (position name_position : Position) (name : List ℕ) (o : Option Kind) →
        slice_get forest.nodes id ≡ Some (Cast position name_position name operand) → Inside p b c id → Judged p id o →
        CastFact code b c id operand o
    unfolding code_of gives_value
    cast_fact b c id operand position name_position name o there inside j =
        let v = valued forest accepted whole sorted id (Cast position name_position name operand) o there refl j in
        let f = cast_facts forest accepted whole sorted b c id operand position name_position name v.0 there inside v.2 in
        let given = f.operand_is in
        let lies : (f.scope ≡ Any) ⊎ (scope_at_node p operand ≡ Some f.scope) =
        elim f.is_null_or_there as (λ z. (f.scope ≡ Any) ⊎ (scope_at_node p operand ≡ Some f.scope))
        [ inl t ↦ inl (null_scope operand f.type f.scope given.judged t) | inr s ↦ inr s ] in
        let s = cast_scope p f.class f.type f.scope (scope_at_node p operand) v.0 f.lies lies f.gives in
        record {
          class = f.class;
          is = f.binding;
          type = f.type;
          scope = f.scope;
          operand_is = value_of p b c id operand (reference f.type f.scope) given;
          is_no_array = cast_no_array p.classes f.type f.class f.related;
          seen = s.seen;
          lies = s.lies;
          is_given = v.1 ∙ ap (λ k. Some k) s.is;
        }
