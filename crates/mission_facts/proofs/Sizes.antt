-- The bytes that safelets and missions declare: a size method returns a constant (T14).
use Rattle.std.proofs.Common.{◌≡◌, ℕ, List, [], ◌∷◌, sym, ap, ◌∙◌, refl, Option, Some, None, Bool, true, false, not, ◌&&◌, true≢false, option_and_then, slice_get, if◌then◌else◌}
use Rattle.scj_base.specs.declared.findings.Rule.TheVariants.{T10, T14}
use Rattle.scj_base.specs.declared.positions.Position.{Position}
use Rattle.scj_builtins.specs.declared.methods.FrameworkMethod.{FrameworkMethod}
use Rattle.scj_tree.specs.declared.nodes.Node.{Node}
use Rattle.scj_tree.specs.declared.nodes.Node.TheVariants.{Block, Return, Number, Method as MethodNode}
use Rattle.scj_tree.specs.Forest.{Forest, IsForest}
use Rattle.scj_rules.specs.declared.views.WrittenType.TheVariants.{Long as long_type}
use Rattle.scj_rules.specs.Definitions.{read}
use Rattle.scj_rules.specs.Words.{holds, broken}
use Rattle.scj_rules.specs.Views.{DeclaredMethod, method_of, type_at}
use Rattle.scj_rules.specs.Classes.{FoundMethod, result_written}
use Rattle.scj_rules.specs.ClassRules.{is_same_type, is_result_of}
use Rattle.scj_rules.specs.Contexts.{Declarations, declarations_of, context}
use Rattle.scj_rules.specs.TypeRules.{is_number, returns_number, is_size_body, has_framework_size, misfits_size, misfits_long, ends_without_return, type_breaks, t1, t2, t3, t4, t5, t6, t7, t8, t9, t10, t11, t12, t13, t14}
use Rattle.scj_rules.specs.Bodies.{number_literal, number_returned, size_constant, declared_size}
use Rattle.scj_rules.specs.Phases.{IsAccepted}
use Rattle.accepted_laws.specs.Judgements.{type_at_node}
use Rattle.accepted_laws.specs.Sorts.{IsWellSorted}
use Rattle.accepted_laws.proofs.Breaks.{both_empty, right, no_break_at_node}
use Rattle.accepted_laws.proofs.MethodNodes.{method_node}
use Rattle.accepted_laws.proofs.Tools.{some_inj}
use Rattle.accepted_facts.proofs.OverridingKinds.{or_false, and_true}
use Rattle.mission_facts.proofs.Implemented.{IsImplemented}
use Rattle.mission_facts.proofs.Searches.{some_is}
use Rattle.mission_facts.proofs.Results.{long_result}

abbrev Right : Option Bool → Type 0
Right o = holds o (λ right. right) ≡ true

-- what is right at each node is right at a number
at_number : (nodes : List Node) (test : Node → Option Bool) (reading : Node → Option ℕ) →
    ((n : Node) → Right (test n) → (v : ℕ) × (reading n ≡ Some v)) → (id : ℕ) → Right (read nodes test id) →
    (v : ℕ) × (read nodes reading id ≡ Some v)
at_number nodes test reading each id e = go (slice_get nodes id) e
  where
    go : (o : Option Node) → Right (option_and_then test o) → (v : ℕ) × (option_and_then reading o ≡ Some v)
    go None e = absurd (true≢false (sym e))
    go (Some n) e = each n e

a_number : (n : Node) → Right (is_number n) → (v : ℕ) × (number_literal n ≡ Some v)
unfolding is_number number_literal
a_number (Number position value negative) e =
    (value, ap (λ t. if t then None else Some value) (plain negative (and_true (not negative) _ e).0))
  where
    plain : (t : Bool) → not t ≡ true → t ≡ false
    plain true e = absurd (true≢false (sym e))
    plain false e = refl
a_number _ e = absurd (true≢false (sym e))

a_return : (nodes : List Node) (n : Node) → Right (returns_number nodes n) →
    (v : ℕ) × (number_returned nodes n ≡ Some v)
unfolding returns_number number_returned
a_return nodes (Return position (Some value)) e = at_number nodes is_number number_literal a_number value e
a_return nodes _ e = absurd (true≢false (sym e))

a_body : (nodes : List Node) (n : Node) → Right (is_size_body nodes n) → (v : ℕ) × (size_constant nodes n ≡ Some v)
unfolding is_size_body size_constant
a_body nodes (Block position (statement ∷ [])) e =
    at_number nodes (returns_number nodes) (number_returned nodes) (a_return nodes) statement e
a_body nodes _ e = absurd (true≢false (sym e))

module _ (forest : Forest) (accepted : IsAccepted forest) (whole : IsForest forest) (sorted : IsWellSorted forest.nodes)
  where
    abbrev p : Declarations
    p = declarations_of forest

    method_form : (id result_type body : ℕ) (position : Position) (name : List ℕ) (flags parameters : Option ℕ) →
        type_breaks p (type_at_node p) id (MethodNode position name flags result_type parameters (Some body)) ≡ [] →
        misfits_long p id name result_type (Some body) ≡ false
    unfolding type_breaks t1 t2 t3 t4 t5 t6 t7 t8 t9 t10 t11 t12 t13 t14
    method_form id result_type body position name flags parameters e =
        right (misfits_long p id name result_type (Some body)) T14 position
        (both_empty (broken (ends_without_return p result_type body) T10 position)
        (broken (misfits_long p id name result_type (Some body)) T14 position) e).1

    right_body : (id b : ℕ) (name : List ℕ) → misfits_size p id name (Some b) ≡ false →
        Right (read p.nodes (is_size_body p.nodes) b)
    unfolding misfits_size
    right_body id b name e =
        not_false (holds (read p.nodes (is_size_body p.nodes) b) (λ right. right))
        (or_false (not (holds (context p id).class (λ class. has_framework_size p class name))) _ e).1
      where
        not_false : (t : Bool) → not t ≡ false → t ≡ true
        not_false true e = refl
        not_false false e = absurd (true≢false e)

    -- the body of a method that gives `long`
    size_body : (id b : ℕ) (node : Node) (m : DeclaredMethod) → slice_get p.nodes id ≡ Some node →
        method_of p.nodes id node ≡ Some m → m.declared.declared_type ≡ long_type → m.body ≡ Some b →
        Right (read p.nodes (is_size_body p.nodes) b)
    unfolding method_of is_same_type
    size_body id b (MethodNode position name flags result_type parameters (Some body)) m stands is long e =
        let n = no_break_at_node forest accepted id
        (MethodNode position name flags result_type parameters (Some body)) stands in
        let written : type_at p.nodes result_type ≡ long_type =
        ap (λ (m : DeclaredMethod). m.declared.declared_type) (some_inj _ m is) ∙ long in
        let same : body ≡ b =
        some_inj body b (ap (λ (m : DeclaredMethod). m.body) (some_inj _ m is) ∙ e) in
        let size : misfits_size p id name (Some body) ≡ false =
        sym (ap (λ t. is_same_type t long_type && misfits_size p id name (Some body)) written)
        ∙ method_form id result_type body position name flags parameters n.no_type_rule in
        right_body id b name (ap (λ b. misfits_size p id name (Some b)) (sym same) ∙ size)
    size_body id b (MethodNode position name flags result_type parameters None) m stands is long e =
        absurd (let z : None ≡ Some b = ap (λ (m : DeclaredMethod). m.body) (some_inj _ m is) ∙ e in cc (z))
    size_body id b _ m stands is long e = absurd (cc (is))

    -- a concrete class declares the bytes that the framework asks
    pub declares_size : (class : ℕ) (m : FrameworkMethod) → IsImplemented forest accepted whole sorted class m →
        result_written m.gives ≡ long_type → (bytes : ℕ) × (declared_size p class m.name ≡ Some bytes)
    unfolding declared_size
    declares_size class m x long =
        let f : FoundMethod = x.method in
        let t = long_result p class f.method.declared.name f.method.declared.declared_type
        (ap (is_result_of p class f.method.declared.name f.method.declared.declared_type) (sym long) ∙ x.result) in
        let n = method_node p.nodes f.method.declared.node f.method x.is_user.is_there in
        let b = some_is f.method.body x.has_body in
        let size = size_body f.method.declared.node b.0 n.node f.method n.is_there n.is t b.1 in
        let v = at_number p.nodes (is_size_body p.nodes) (size_constant p.nodes) (a_body p.nodes) b.0 size in (
          v.0,
          ap (λ (o : Option FoundMethod). option_and_then (read p.nodes (size_constant p.nodes))
              (option_and_then (λ (f : FoundMethod). f.method.body) o)) x.is
              ∙ ap (option_and_then (read p.nodes (size_constant p.nodes))) b.1 ∙ v.1,
        )
