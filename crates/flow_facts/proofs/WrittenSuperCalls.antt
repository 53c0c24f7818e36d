-- The super call that is written in a constructor of an accepted program: its place, and what it calls.
use Rattle.std.proofs.Common.{◌≡◌, ℕ, List, [], ◌∷◌, ◌++◌, refl, sym, ap, ◌∙◌, subst, Option, Some, true, true≢false, option_and_then, slice_get}
use Rattle.scj_base.specs.declared.positions.Position.{Position}
use Rattle.scj_tree.specs.declared.nodes.Node.{Node}
use Rattle.scj_tree.specs.declared.nodes.Node.TheVariants.{Constructor, SuperCall}
use Rattle.scj_tree.specs.Forest.{Forest, IsForest}
use Rattle.scj_tree.specs.Shape.{children, optional}
use Rattle.scj_rules.specs.CheckedProgram.{IsReadFromTexts}
use Rattle.scj_rules.specs.declared.contexts.Context.{Context}
use Rattle.scj_rules.specs.Words.{is_among, or_else}
use Rattle.scj_rules.specs.Views.{DeclaredConstructor, constructor_of, super_arguments}
use Rattle.scj_rules.specs.Classes.{is_user_class, superclass_in}
use Rattle.scj_rules.specs.Contexts.{Declarations, declarations_of, context, child_context, declared_before, is_member, is_super_call}
use Rattle.scj_rules.specs.StaticScopes.{this_in}
use Rattle.scj_rules.specs.Types.{constructor_in, form_parts, has_form}
use Rattle.scj_rules.specs.Bindings.{bindings_in}
use Rattle.scj_rules.specs.Phases.{IsAccepted}
use Rattle.scj_rules.proofs.ChainLemmas.{among-behind}
use Rattle.scj_rules.proofs.ParentLemmas.{child-less}
use Rattle.accepted_laws.specs.Judgements.{Inside}
use Rattle.accepted_laws.specs.Sorts.{HasRightChildren, IsWellSorted}
use Rattle.accepted_laws.specs.Variables.{parameter_list}
use Rattle.accepted_laws.proofs.ClassNumbers.{no_class_number}
use Rattle.accepted_laws.proofs.Contexts.{child_context_is}
use Rattle.accepted_laws.proofs.InnerNodes.{member_no_class}
use Rattle.accepted_laws.proofs.Tools.{some_inj}
use Rattle.accepted_nodes.proofs.FormParts.{form_of}
use Rattle.accepted_nodes.proofs.TypesComplete.{same_first}
use Rattle.accepted_facts.specs.Calls.{SuperCallFacts, PassesToConstructor}
use Rattle.accepted_facts.proofs.SuperCalls.{super_call_facts}
use Rattle.scj_model.specs.Code.{Code}
use Rattle.scope_flow.specs.Facts.{SuperCallFact, FormFact, WrittenSuperFact}
use Rattle.scope_flow.specs.Signatures.{Signature}
use Rattle.flow_facts.proofs.ClassNodes.{MemberAt}
use Rattle.flow_facts.proofs.FormNumbers.{smaller}
use Rattle.flow_facts.proofs.Forms.{form_fact}
use Rattle.flow_facts.proofs.KnownParameters.{member_child_known}
use Rattle.flow_facts.proofs.Literals.{values_of}
use Rattle.flow_facts.proofs.OneConstructor.{one_constructor}
use Rattle.flow_facts.proofs.SuperConstructors.{called, user_no_form}
use Rattle.flow_facts.proofs.SuperParts.{HasSuper, has_super, form_there, home_named}
use Rattle.scope_flow.specs.Needs.{CallsConstructor}

module _ (forest : Forest) (accepted : IsAccepted forest) (whole : IsForest forest) (sorted : IsWellSorted forest.nodes)
    (is_read : IsReadFromTexts forest) where
  abbrev p : Declarations
  p = declarations_of forest

  abbrev nodes : List Node
  nodes = forest.nodes

  abbrev code : Code
  code = record { program = p; bindings = bindings_in p }

  abbrev Member : ℕ → ℕ → Type 0
  Member b c = MemberAt forest accepted whole sorted b c

  call_node : (call : ℕ) (node : Node) → slice_get nodes call ≡ Some node → is_super_call node ≡ true →
      (position : Position) × (arguments : List ℕ) × (slice_get nodes call ≡ Some (SuperCall position arguments))
  unfolding is_super_call
  call_node call (SuperCall position arguments) there e = (position, arguments, there)
  call_node call _ there e = absurd (true≢false (sym e))

  -- the constructor of the class, with its super call
  written_constructor : (b c call : ℕ) (position position2 : Position) (name arguments : List ℕ) (flags parameters : Option ℕ)
      (body : ℕ) → slice_get nodes b ≡ Some (Constructor position name flags parameters (Some call) body) →
      slice_get nodes call ≡ Some (SuperCall position2 arguments) → Member b c → (context p b).class ≡ Some c
      → (con : DeclaredConstructor) × (constructor_in p.classes c ≡ Some con) × (con.super_call ≡ Some arguments)
  unfolding constructor_of super_arguments declarations_of
  written_constructor b c call position position2 name arguments flags parameters body there at m class = (
    _,
    one_constructor forest accepted whole sorted b c _ (ap (option_and_then (constructor_of nodes b)) there) m
        class,
    ap (option_and_then super_arguments) at,
  )

  module _ (b c call : ℕ) (sig : Signature) (position position2 : Position) (name arguments : List ℕ) (flags parameters : Option ℕ)
      (body : ℕ) (there : slice_get nodes b ≡ Some (Constructor position name flags parameters (Some call) body))
      (at : slice_get nodes call ≡ Some (SuperCall position2 arguments))
      (m : Member b c) (class : (context p b).class ≡ Some c) (home : this_in p c ≡ Some sig.runs_in) where
    abbrev node : Node
    node = Constructor position name flags parameters (Some call) body

    among : is_among call (children node) ≡ true
    unfolding children
    among = among-behind call (optional flags) (optional parameters ++ (call ∷ body ∷ []))
        (among-behind call (optional parameters) (call ∷ body ∷ [])
        (same_first forest accepted whole sorted call (body ∷ [])))

    inside : Inside p b c call
    unfolding child_context is_member declarations_of
    inside =
        let e = child_context_is forest whole b call node there among in
        let none = no_class_number forest whole b node there (member_no_class node refl) in
        record {
          here = (SuperCall position2 arguments, at);
          class = ap (λ (c : Context). c.class) e ∙ ap (λ (o : Option ℕ). or_else o (context p b).class) none ∙ class;
          member = ap (λ (c : Context). c.member) e;
        }

    s : HasSuper forest accepted whole sorted is_read c
    s = has_super forest accepted whole sorted is_read c m.k m.at

    facts : SuperCallFacts p b c call s.superclass arguments
    facts = super_call_facts forest accepted whole sorted b c call s.superclass position2 arguments at inside
        (ap (option_and_then (superclass_in p.classes)) inside.class ∙ s.up)

    user_part : is_user_class s.superclass ≡ true → SuperCallFact code b c sig call arguments s.superclass
    user_part user = by_passed (facts.passes (user_no_form s.superclass user))
      where
        same : facts.home ≡ sig.runs_in
        same = some_inj facts.home sig.runs_in (sym facts.is_home ∙ home)

        by_passed : PassesToConstructor p b c call s.superclass arguments facts.home →
            SuperCallFact code b c sig call arguments s.superclass
        by_passed q =
            record {
              kinds = q.passes.given;
              arguments_are = values_of p b c call arguments q.passes.given q.passes.operands;
              above = s.above;
              constructor = subst (λ h. CallsConstructor p s.superclass h q.passes.given) same
                  (called forest accepted whole sorted is_read s.superclass facts.home q.passes.given q.taken
                  s.above_within user q.takes
                  (home_named forest accepted whole sorted is_read c facts.home facts.is_home) q.passes.fit);
            }

    form_part_of : has_form s.superclass ≡ true → FormFact code b c call arguments s.superclass
    form_part_of form =
        let parts = form_there forest accepted whole sorted is_read c m.k s.superclass m.at s.up form in
        let f = form_of forest whole accepted c parts.0 parts.1 in
        let con = written_constructor b c call position position2 name arguments flags parameters body there at m class in
        let one : f.constructor ≡ con.0 = some_inj f.constructor con.0 (sym f.is_constructor ∙ con.1) in
        let same : f.arguments ≡ arguments =
        some_inj f.arguments arguments (sym f.are_arguments ∙ ap (λ (c : DeclaredConstructor). c.super_call) one
        ∙ con.2) in
        let up : f.superclass ≡ s.superclass = some_inj f.superclass s.superclass (sym f.is_superclass ∙ s.up) in
        form_fact forest accepted whole sorted b c call s.superclass arguments parts.0 s.within s.up form
        (record { position = position2; is_there = at; inside = inside; form = parts.1 })
        (ap (λ n. form_parts p n arguments) (sym up) ∙ ap (form_parts p f.superclass) (sym same) ∙ f.parts_are)

    pub written_super_fact : WrittenSuperFact code b c sig call
    unfolding children declared_before parameter_list is_member declarations_of
    written_super_fact =
        record {
          smaller = child-less forest whole b call node there among;
          position = position2;
          arguments = arguments;
          is_there = at;
          are_smaller =
              smaller forest accepted whole sorted call arguments
              (λ e a. child-less forest whole call e (SuperCall position2 arguments) at a);
          known = member_child_known forest accepted whole sorted b call node there refl among refl;
          super_fact =
              record {
                superclass = s.superclass;
                is = facts.binding;
                user = user_part;
                form = λ e form. form_part_of
                    form;
              };
        }

  pub super_fact_at : (b c call : ℕ) (sig : Signature) (position : Position) (name : List ℕ) (flags parameters : Option ℕ)
      (body : ℕ) → slice_get nodes b ≡ Some (Constructor position name flags parameters (Some call) body) → Member b c →
      (context p b).class ≡ Some c → this_in p c ≡ Some sig.runs_in → WrittenSuperFact code b c sig call
  unfolding HasRightChildren
  super_fact_at b c call sig position name flags parameters body there m class home =
      let o = (sorted.each b (Constructor position name flags parameters (Some call) body) there).2 in
      let n = call_node call o.node o.is_there o.passes in
      written_super_fact b c call sig position n.0 name n.1 flags parameters body there n.2 m class home
