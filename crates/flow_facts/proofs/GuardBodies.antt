-- The operations of bodies: they stand in the first part of no `if`.
use Rattle.std.specs.List.{cons_option}
use Rattle.std.specs.Prelude.{map}
use Rattle.std.proofs.Common.{◌≡◌, ℕ, ◌<◌, List, [], ◌∷◌, ◌++◌, refl, sym, ap, ◌∙◌, subst, true≢false, append-nil, Option, Some, None, true, false, if◌then◌else◌, slice_get}
use Rattle.scj_tree.specs.declared.nodes.Node.{Node}
use Rattle.scj_tree.specs.declared.nodes.Node.TheVariants.{Class, Method as MethodNode, Constructor, SuperCall}
use Rattle.scj_tree.specs.Forest.{Forest, IsForest}
use Rattle.scj_tree.specs.Recursion.{below}
use Rattle.scj_tree.specs.Shape.{optional, children}
use Rattle.scj_rules.specs.declared.views.Body.TheVariants.{Written}
use Rattle.scj_rules.specs.declared.views.Declared.{Declared}
use Rattle.scj_rules.specs.CheckedProgram.{IsReadFromTexts}
use Rattle.scj_rules.specs.Words.{is_among}
use Rattle.scj_rules.specs.Views.{type_at}
use Rattle.scj_rules.specs.ClassRules.{is_same_type}
use Rattle.scj_rules.specs.Contexts.{Declarations, declarations_of, context, is_member, parent_in}
use Rattle.scj_rules.specs.declared.views.WrittenType.TheVariants.{Void as void_type}
use Rattle.scj_rules.specs.Bindings.{bindings_in}
use Rattle.scj_rules.specs.Bodies.{class_node, class_of_body}
use Rattle.scj_rules.specs.Layout.{fields_with_literal}
use Rattle.scj_rules.specs.Guards.{is_first_part, ifs_around}
use Rattle.scj_rules.specs.Phases.{IsAccepted}
use Rattle.scj_rules.proofs.ChainLemmas.{among-behind}
use Rattle.scj_rules.proofs.ParentLemmas.{parent-is}
use Rattle.accepted_laws.specs.Judgements.{Inside}
use Rattle.accepted_laws.specs.Sorts.{IsWellSorted, Of}
use Rattle.accepted_laws.proofs.Children.{parent_of_member, class_has_no_parent}
use Rattle.accepted_laws.proofs.InnerNodes.{is_inner, is_no_class, inner_statement}
use Rattle.scj_model.specs.declared.operations.Op.{Op}
use Rattle.scj_model.specs.declared.operations.Op.TheVariants.{Leave as LEAVE, Init as INIT}
use Rattle.scj_model.specs.Code.{Code, binding}
use Rattle.scj_model.specs.Ops.{method_ops, super_ops, unwritten_super_ops, literal_ops, constructor_ops, node_ops, ops_of}
use Rattle.scope_flow.specs.Facts.{OptionSuperFact, BodyFact, EntryFact}
use Rattle.scope_flow.specs.Guards.{IsPlain, StandsIn, Rest, at_end, Adds}
use Rattle.scope_flow.specs.Signatures.{Signature, IsBody, may_run}
use Rattle.scope_flow.proofs.Flows.{ops_at}
use Rattle.scope_flow.proofs.Known.{below_lt}
use Rattle.scope_flow.proofs.Rests.{here, later, adds_none, adds_op, adds_both, adds_behind}
use Rattle.flow_facts.proofs.ClassNodes.{member_at}
use Rattle.flow_facts.proofs.EntryKinds.{entry_fact}
use Rattle.flow_facts.proofs.GuardNodes.{either, super_adds}
use Rattle.flow_facts.proofs.GuardRests.{other_around, inner_adds}
use Rattle.flow_facts.proofs.IfsAround.{child_around, top_around}
use Rattle.flow_facts.proofs.Methods.{inside_member}

module _ (forest : Forest) (accepted : IsAccepted forest) (whole : IsForest forest) (sorted : IsWellSorted forest.nodes)
    (is_read : IsReadFromTexts forest) where
  abbrev p : Declarations
  p = declarations_of forest

  abbrev code : Code
  code = record { program = p; bindings = bindings_in p }

  abbrev around : ℕ → List ℕ
  around x = ifs_around forest.nodes x

  -- ---- a member stands in no `if`

  class_first : (y : ℕ) (node : Node) → is_no_class node ≡ false → is_first_part y node ≡ false
  unfolding is_no_class is_first_part
  class_first y (Class position name flags header members) e = refl
  class_first y _ e = absurd (true≢false e)

  class_around : (k : ℕ) (node : Node) → slice_get forest.nodes k ≡ Some node → is_no_class node ≡ false →
      around k ≡ []
  class_around k node there class = go (parent_in forest.nodes k) refl
    where
      go : (o : Option ℕ) → parent_in forest.nodes k ≡ o → around k ≡ []
      go None e = top_around forest whole k node there e
      go (Some m) e =
          absurd (let is = parent-is forest whole k m e node in
          true≢false (sym (class_has_no_parent forest whole sorted m k is.node node is.there is.among there) ∙ class))

  member_around : (b : ℕ) (node : Node) → slice_get forest.nodes b ≡ Some node → is_member node ≡ true → around b ≡ []
  member_around b node there member = go (parent_in forest.nodes b) refl
    where
      go : (o : Option ℕ) → parent_in forest.nodes b ≡ o → around b ≡ []
      go None e = top_around forest whole b node there e
      go (Some k) e =
          let is = parent-is forest whole b k e node in
          let class = parent_of_member forest whole sorted k b is.node node is.there is.among there member in
          child_around forest whole k b is.node is.there is.among
          ∙ (ap (λ t. cons_option (if t then Some k else None) (around k)) (class_first b is.node class)
          ∙ class_around k is.node is.there class)

  -- ---- by the kinds of bodies

  module _ (b c : ℕ) where
    abbrev A : List Op → Type 0
    A ops = Adds code (Written b) [] ops

    abbrev sub : ℕ → List Op
    sub = below [] b (ops_of code)

    none : A []
    none = adds_none code (Written b) []

    op : (o : Op) → IsPlain code o → StandsIn code [] o → A (o ∷ [])
    op o is_plain stands = adds_op code (Written b) [] o is_plain stands

    both : (xs ys : List Op) → A xs → A ys → A (xs ++ ys)
    both xs ys f s = adds_both code (Written b) [] xs ys f s

    -- what stands directly in a member
    part_adds : (x : ℕ) (node : Node) → slice_get forest.nodes b ≡ Some node → is_member node ≡ true →
        is_among x (children node) ≡ true → is_first_part x node ≡ false → (x < b) → Inside p b c x →
        Of is_inner forest.nodes x → A (sub x)
    part_adds x node there member among first less inside o =
        subst A (sym (below_lt [] b (ops_of code) x less))
        (subst (λ a. Adds code (Written b) a (ops_of code x))
        (other_around forest accepted whole sorted is_read b x node there among first
        ∙ member_around b node there member)
        (inner_adds forest accepted whole sorted is_read b c x inside o))

    body_adds : (body : ℕ) (node : Node) → slice_get forest.nodes b ≡ Some node → is_member node ≡ true →
        is_among body (children node) ≡ true → is_first_part body node ≡ false → BodyFact p b c body → A (sub body)
    unfolding declarations_of
    body_adds body node there member among first f =
        part_adds body node there member among first f.smaller f.is.inside
        (record {
          node = f.is.node;
          is_there = f.is.is_there;
          passes = inner_statement f.is.node f.is.is_statement;
        })

    unwritten_super_adds : (class : ℕ) → A (unwritten_super_ops code sub class)
    unfolding unwritten_super_ops
    unwritten_super_adds class = go (class_node p class)
      where
        go : (o : Option ℕ) →
            A (elim o as (λ _. List Op) [ None ↦ [] | Some node ↦ super_ops sub node [] (binding code node) ])
        go None = none
        go (Some node) =
            super_adds code (Written b) [] sub node [] (binding code node) (λ y a. absurd (true≢false (sym a)))

    literal_adds : (fs : List Declared) → A (map (λ (f : Declared). INIT f.node) fs)
    unfolding IsPlain StandsIn
    literal_adds [] = none
    literal_adds (f ∷ fs) =
        both (INIT f.node ∷ []) (map (λ (f : Declared). INIT f.node) fs) (op (INIT f.node) tt tt) (literal_adds fs)

    leaving : (body : List Op) → A body → A (body ++ LEAVE ∷ [])
    unfolding IsPlain StandsIn
    leaving body a = adds_behind code (Written b) [] body LEAVE a tt tt

    abbrev super_part : Option ℕ → ℕ → List Op
    super_part super_call class =
        elim super_call as (λ _. List Op) [ None ↦ unwritten_super_ops code sub class | Some call ↦ sub call ]

    constructor_adds : (super_call : Option ℕ) (body : List Op) → ((class : ℕ) → A (super_part super_call class)) →
        A body → A (constructor_ops code sub b super_call body)
    unfolding constructor_ops literal_ops
    constructor_adds super_call body s a = go (class_of_body p b)
      where
        go : (o : Option ℕ) →
            A (elim o as (λ _. List Op) [
              | None ↦ []
              | Some class ↦ super_part super_call class ++ (literal_ops code class ++ (body ++ LEAVE ∷ []))
            ])
        go None = none
        go (Some class) =
            both (super_part super_call class) (literal_ops code class ++ (body ++ LEAVE ∷ [])) (s class)
            (both (literal_ops code class) (body ++ LEAVE ∷ []) (literal_adds (fields_with_literal p class))
            (leaving body a))

    written_super_adds : (sig : Signature) (super_call : Option ℕ) (node : Node) →
        slice_get forest.nodes b ≡ Some node → is_member node ≡ true → (context p b).class ≡ Some c →
        ((call : ℕ) → super_call ≡ Some call →
        (is_among call (children node) ≡ true) × (is_first_part call node ≡ false)) →
        OptionSuperFact code b c sig super_call → (class : ℕ) → A (super_part super_call class)
    unfolding is_inner declarations_of
    written_super_adds sig None node there member class among f k = unwritten_super_adds k
    written_super_adds sig (Some call) node there member class among f k =
        let m = among call refl in
        part_adds call node there member m.0 m.1 f.smaller
        (inside_member forest accepted whole sorted b c call node (SuperCall f.position f.arguments) there member class m.0
        f.is_there)
        (record { node = SuperCall f.position f.arguments; is_there = f.is_there; passes = refl })

    entry_adds : (sig : Signature) (node : Node) → slice_get forest.nodes b ≡ Some node → may_run node ≡ true →
        IsBody p b c sig → EntryFact code b c sig node → A (node_ops code sub b node)
    unfolding node_ops method_ops may_run EntryFact children is_member is_first_part
    entry_adds sig (MethodNode position name flags result_type parameters (Some body)) there e is f =
        let node : Node = MethodNode position name flags result_type parameters (Some body) in
        let a =
        body_adds body node there refl
        (among-behind body (optional flags) (result_type ∷ (optional parameters ++ body ∷ []))
        (later body result_type (optional parameters ++ body ∷ [])
        (among-behind body (optional parameters) (body ∷ []) (here body [])))) refl f.body_is in
        either code (Written b) [] sub b (is_same_type (type_at p.nodes result_type) void_type) (sub body ++ LEAVE ∷ [])
        (sub body)
        (leaving (sub body) a) a
    entry_adds sig (MethodNode position name flags result_type parameters None) there e is f = absurd (true≢false (sym e))
    entry_adds sig (Constructor position name flags parameters super_call body) there e is f =
        let node : Node = Constructor position name flags parameters super_call body in
        let m = member_at forest accepted whole sorted b c node there refl is.is_class in
        constructor_adds super_call (sub body)
        (written_super_adds sig super_call node there refl m.1 (λ call is_call. (
          among-behind call (optional flags) (optional parameters ++ (optional super_call ++ body ∷ []))
              (among-behind call (optional parameters) (optional super_call ++ body ∷ [])
              (subst (λ o. is_among call (optional o ++ body ∷ []) ≡ true) (sym is_call) (here call (body ∷ [])))),
          refl,
        )) f.0.super_fact)
        (body_adds body node there refl
        (among-behind body (optional flags) (optional parameters ++ (optional super_call ++ body ∷ []))
        (among-behind body (optional parameters) (optional super_call ++ body ∷ [])
        (among-behind body (optional super_call) (body ∷ []) (here body [])))) refl f.1)
    entry_adds sig (Class position name flags header members) there e is f =
        constructor_adds None [] (λ k. unwritten_super_adds k) none
    entry_adds sig _ there e is f = absurd (true≢false (sym e))

  pub body_rest : (b c : ℕ) (sig : Signature) → IsBody p b c sig → Rest code (Written b) [] (ops_of code b)
  unfolding declarations_of
  body_rest b c sig is =
      subst (Rest code (Written b) [])
      (append-nil (node_ops code (below [] b (ops_of code)) b is.node) ∙ sym (ops_at code b is.node is.is_there))
      (entry_adds b c sig is.node is.is_there is.runs is (entry_fact forest accepted whole sorted is_read b c sig is) []
      (at_end []))
