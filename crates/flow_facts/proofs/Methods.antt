-- What the body of a method of an accepted program has.
use Rattle.std.proofs.Common.{◌≡◌, ℕ, List, [], ◌∷◌, ◌++◌, refl, sym, ap, ◌∙◌, Option, Some, Bool, true, false, not, ◌&&◌, true≢false, ◌==◌, option_and_then, slice_get, if◌then◌else◌}
use Rattle.scj_base.specs.declared.positions.Position.{Position}
use Rattle.scj_tree.specs.declared.nodes.Node.{Node}
use Rattle.scj_tree.specs.declared.nodes.Node.TheVariants.{Block, Method as MethodNode}
use Rattle.scj_tree.specs.Forest.{Forest, IsForest}
use Rattle.scj_tree.specs.Shape.{children, optional}
use Rattle.scj_rules.specs.declared.contexts.Context.{Context}
use Rattle.scj_rules.specs.declared.views.WrittenType.TheVariants.{Void as void_type}
use Rattle.scj_rules.specs.Words.{is_among, broken, or_else}
use Rattle.scj_rules.specs.Views.{type_at, method_of}
use Rattle.scj_rules.specs.ClassRules.{is_same_type}
use Rattle.scj_rules.specs.Contexts.{Declarations, declarations_of, context, child_context, declared_before, is_member, parameters_before}
use Rattle.scj_rules.specs.TypeRules.{always_returns, ends_without_return, type_breaks, t1, t2, t3, t4, t5, t6, t7, t8, t9, t10, t11, t12, t13, t14}
use Rattle.scj_rules.specs.Phases.{IsAccepted}
use Rattle.scj_rules.proofs.ChainLemmas.{or_right, among-behind}
use Rattle.scj_rules.proofs.ParentLemmas.{child-less}
use Rattle.accepted_laws.specs.Judgements.{Inside, type_at_node}
use Rattle.accepted_laws.specs.Sorts.{Of, HasRightChildren, IsWellSorted, is_block, is_statement}
use Rattle.accepted_laws.specs.Variables.{parameter_list}
use Rattle.accepted_laws.proofs.Breaks.{both_empty, right}
use Rattle.accepted_laws.proofs.ClassNumbers.{no_class_number}
use Rattle.accepted_laws.proofs.Contexts.{child_context_is}
use Rattle.accepted_laws.proofs.InnerNodes.{member_no_class}
use Rattle.accepted_nodes.proofs.TypesComplete.{at_p, same_first, unbroken}
use Rattle.accepted_facts.proofs.OverridingKinds.{same_type}
use Rattle.scope_flow.specs.Signatures.{Signature, IsBody}
use Rattle.scope_flow.specs.Facts.{BodyFact, MethodFact}
use Rattle.flow_facts.proofs.KnownParameters.{member_child_known}
use Rattle.flow_facts.proofs.Returns.{void_given}
use Rattle.scj_base.specs.declared.findings.Rule.TheVariants.{T10}

block_is_statement : (n : Node) → is_block n ≡ true → is_statement n ≡ true
unfolding is_block is_statement
block_is_statement (Block position statements) e = refl
block_is_statement _ e = absurd (true≢false (sym e))

second_of_and : (a b : Bool) → (not a && not b) ≡ false → a ≡ false → b ≡ true
second_of_and true b e h = absurd (true≢false h)
second_of_and false true e h = refl
second_of_and false false e h = absurd (true≢false e)

module _ (forest : Forest) (accepted : IsAccepted forest) (whole : IsForest forest) (sorted : IsWellSorted forest.nodes)
  where
    abbrev p : Declarations
    p = declarations_of forest

    abbrev nodes : List Node
    nodes = forest.nodes

    -- what stands directly in a member
    pub inside_member : (b c x : ℕ) (node child : Node) → slice_get nodes b ≡ Some node → is_member node ≡ true →
        (context p b).class ≡ Some c → is_among x (children node) ≡ true → slice_get nodes x ≡ Some child →
        Inside p b c x
    unfolding child_context declarations_of
    inside_member b c x node child there member class among is =
        let e = child_context_is forest whole b x node there among in
        let none = no_class_number forest whole b node there (member_no_class node member) in
        record {
          here = (child, is);
          class = ap (λ (c : Context). c.class) e ∙ ap (λ (o : Option ℕ). or_else o (context p b).class) none ∙ class;
          member = ap (λ (c : Context). c.member) e ∙ ap (λ t. if t then Some b else (context p b).member) member;
        }

    -- the block of a method or a constructor
    pub body_fact : (b c body : ℕ) (node : Node) → slice_get nodes b ≡ Some node → is_member node ≡ true →
        (context p b).class ≡ Some c → is_among body (children node) ≡ true → Of is_block nodes body
        → ((parameters_before nodes (parameter_list node) body) ≡ declared_before nodes node body) → BodyFact p b c body
    unfolding declarations_of
    body_fact b c body node there member class among o declares =
        record {
          smaller = child-less forest whole b body node there among;
          is = record {
            node = o.node;
            is_there = o.is_there;
            is_statement = block_is_statement o.node o.passes;
            inside = inside_member b c body node o.node there member class among o.is_there;
          };
          known = member_child_known forest accepted whole sorted b body node there member among (sym declares);
        }

    always_ends : (b result_type body : ℕ) (position : Position) (name : List ℕ) (flags parameters : Option ℕ) →
        slice_get nodes b ≡ Some (MethodNode position name flags result_type parameters (Some body)) →
        ends_without_return p result_type body ≡ false
    unfolding type_breaks t1 t2 t3 t4 t5 t6 t7 t8 t9 t10 t11 t12 t13
    always_ends b result_type body position name flags parameters there =
        let node : Node = MethodNode position name flags result_type parameters (Some body) in
        right (ends_without_return p result_type body) T10 position
        (both_empty (broken (ends_without_return p result_type body) T10 position) (t14 p (type_at_node p) b node)
        (unbroken forest accepted whole sorted b node there)).0

    pub method_fact : (b c result_type body : ℕ) (sig : Signature) (position : Position) (name : List ℕ)
        (flags parameters : Option ℕ) →
        slice_get nodes b ≡ Some (MethodNode position name flags result_type parameters (Some body)) →
        (context p b).class ≡ Some c → IsBody p b c sig → MethodFact p b c sig result_type body
    unfolding HasRightChildren children declared_before is_member parameter_list method_of
    method_fact b c result_type body sig position name flags parameters there class is_body =
        let node : Node = MethodNode position name flags result_type parameters (Some body) in
        let s = sorted.each b node there in
        let among : is_among body (optional flags ++ (result_type ∷ optional parameters ++ body ∷ [])) ≡ true
        = among-behind body (optional flags) _
        (or_right (body == result_type) _
        (among-behind body (optional parameters) (body ∷ []) (same_first forest accepted whole sorted body []))) in
        let method = ap (option_and_then (method_of p.nodes b)) (at_p forest accepted whole sorted b node there) in
        record {
          body_is = body_fact b c body node there refl class among s.3 refl;
          is_void =
              λ e.
              (sym is_body.gives ∙ void_given forest accepted whole sorted b c _ method
              (same_type (type_at p.nodes result_type) void_type e));
          returns = λ e. second_of_and (is_same_type (type_at p.nodes result_type) void_type) (always_returns p body)
              (always_ends b result_type body position name flags parameters there) e;
        }
