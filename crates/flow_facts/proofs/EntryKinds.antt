-- Each body of an accepted program has the facts of its kind: a method's, a written constructor's, and a class's whose
-- constructor isn't written.
use Rattle.std.proofs.Common.{◌≡◌, ℕ, List, [], ◌∷◌, ◌++◌, refl, sym, ap, ◌∙◌, Option, Some, None, true, false, not, true≢false, is_some, option_and_then, slice_get}
use Rattle.scj_base.specs.declared.positions.Position.{Position}
use Rattle.scj_tree.specs.declared.nodes.Node.{Node}
use Rattle.scj_tree.specs.declared.nodes.Node.TheVariants.{Class, Method as MethodNode, Constructor}
use Rattle.scj_tree.specs.Forest.{Forest, IsForest}
use Rattle.scj_tree.specs.Shape.{children, optional}
use Rattle.scj_rules.specs.CheckedProgram.{IsReadFromTexts}
use Rattle.scj_rules.specs.declared.typing.Scope.{Scope}
use Rattle.scj_rules.specs.Words.{holds}
use Rattle.scj_rules.specs.Views.{DeclaredConstructor, DeclaredMethod, modifiers_at, method_at, method_of, constructor_of}
use Rattle.scj_rules.specs.Contexts.{Declarations, declarations_of, context, declared_before, is_member, is_static_member, member_flags}
use Rattle.scj_rules.specs.StaticScopes.{this_in, current_in, runs_in}
use Rattle.scj_rules.specs.Types.{constructor_in}
use Rattle.scj_rules.specs.Bindings.{bindings_in}
use Rattle.scj_rules.specs.Phases.{IsAccepted}
use Rattle.scj_rules.proofs.ChainLemmas.{among-behind}
use Rattle.accepted_laws.specs.Sorts.{HasRightChildren, IsWellSorted, is_class}
use Rattle.accepted_laws.specs.Variables.{parameter_list}
use Rattle.accepted_laws.proofs.InnerNodes.{is_no_class}
use Rattle.accepted_nodes.proofs.TypesComplete.{same_first}
use Rattle.scj_model.specs.Code.{Code}
use Rattle.scope_flow.specs.Facts.{ConstructorFact, MethodFact, BodyFact, OptionSuperFact, EntryFact}
use Rattle.scope_flow.specs.Signatures.{Signature, IsBody, may_run}
use Rattle.flow_facts.proofs.ClassNodes.{ClassAt, MemberAt, member_at, class_body_at}
use Rattle.flow_facts.proofs.FieldLiterals.{literal_facts}
use Rattle.flow_facts.proofs.Methods.{body_fact, method_fact}
use Rattle.flow_facts.proofs.OneConstructor.{one_constructor}
use Rattle.flow_facts.proofs.Returns.{none_given}
use Rattle.flow_facts.proofs.SuperParts.{Unwritten, unwritten_super_fact}
use Rattle.flow_facts.proofs.WrittenSuperCalls.{super_fact_at}
use Rattle.flow_facts.proofs.Constructors.{constructor_parts}

module _ (forest : Forest) (accepted : IsAccepted forest) (whole : IsForest forest) (sorted : IsWellSorted forest.nodes)
    (is_read : IsReadFromTexts forest) where
  abbrev p : Declarations
  p = declarations_of forest

  abbrev nodes : List Node
  nodes = forest.nodes

  abbrev code : Code
  code = record { program = p; bindings = bindings_in p }

  -- ---- what constructs an object runs where it lies

  record Constructing (b c : ℕ) (sig : Signature) : Type 0 where
    no_method : method_at p.nodes b ≡ None
    plain : is_static_member p.nodes b ≡ false
    k : ℕ
    at : ClassAt forest accepted whole sorted c k

  home_is : (b c : ℕ) (sig : Signature) → IsBody p b c sig → method_at p.nodes b ≡ None → this_in p c ≡ Some sig.runs_in
  unfolding current_in
  home_is b c sig body none =
      sym
      (ap (λ (o : Option DeclaredMethod). elim o as (λ _. Option Scope) [ Some m ↦ runs_in p c m | None ↦ this_in p c ])
      none) ∙ body.runs_in

  constructor_fact : (b c : ℕ) (sig : Signature) (super_call : Option ℕ) → (body : IsBody p b c sig) →
      Constructing b c sig → OptionSuperFact code b c sig super_call → ConstructorFact code b c sig super_call
  constructor_fact b c sig super_call body x s =
      record {
        is_class = body.is_class;
        own = record { for_object = ap not x.plain; home = sig.runs_in; is_home = home_is b c sig body x.no_method };
        runs = refl;
        gives = sym body.gives ∙ none_given forest accepted whole sorted b c x.no_method;
        super_fact = s;
        literals = literal_facts forest accepted whole sorted is_read c x.k sig.runs_in x.at;
      }

  -- ---- a written constructor

  plain_constructor : (b : ℕ) (position : Position) (name : List ℕ) (flags parameters super_call : Option ℕ) (body : ℕ) →
      slice_get nodes b ≡ Some (Constructor position name flags parameters super_call body) →
      (method_at p.nodes b ≡ None) × (is_static_member p.nodes b ≡ false)
  unfolding constructor_of declarations_of
  plain_constructor b position name flags parameters super_call body there =
      let k =
      constructor_parts forest accepted whole sorted is_read b
      (Constructor position name flags parameters super_call body) _ there refl in
      (k.no_method, k.plain)

  none_written : (b c body : ℕ) (position : Position) (name : List ℕ) (flags parameters : Option ℕ) →
      slice_get nodes b ≡ Some (Constructor position name flags parameters None body) →
      MemberAt forest accepted whole sorted b c → (context p b).class ≡ Some c →
      Unwritten forest accepted whole sorted is_read c
  unfolding constructor_of declarations_of
  none_written b c body position name flags parameters there m class =
      ap (λ (o : Option DeclaredConstructor). holds o (λ (con : DeclaredConstructor). is_some con.super_call))
      (one_constructor forest accepted whole sorted b c _ (ap (option_and_then (constructor_of nodes b)) there) m
      class)

  super_part : (b c body : ℕ) (sig : Signature) (position : Position) (name : List ℕ) (flags parameters : Option ℕ)
      (super_call : Option ℕ) → slice_get nodes b ≡ Some (Constructor position name flags parameters super_call body) →
      MemberAt forest accepted whole sorted b c → (context p b).class ≡ Some c → this_in p c ≡ Some sig.runs_in →
      OptionSuperFact code b c sig super_call
  super_part b c body sig position name flags parameters None there m class home =
      λ node is. unwritten_super_fact forest accepted whole sorted is_read b c m.k node sig m.at
      (none_written b c body position name flags parameters there m class) home is
  super_part b c body sig position name flags parameters (Some call) there m class home =
      super_fact_at forest accepted whole sorted is_read b c call sig position name flags parameters body there m class
      home

  block_of : (b c body : ℕ) (position : Position) (name : List ℕ) (flags parameters super_call : Option ℕ) →
      slice_get nodes b ≡ Some (Constructor position name flags parameters super_call body) →
      (context p b).class ≡ Some c → BodyFact p b c body
  unfolding HasRightChildren children declared_before is_member parameter_list
  block_of b c body position name flags parameters super_call there class =
      let node : Node = Constructor position name flags parameters super_call body in
      body_fact forest accepted whole sorted b c body node there refl class
      (among-behind body (optional flags) (optional parameters ++ (optional super_call ++ body ∷ []))
      (among-behind body (optional parameters) (optional super_call ++ body ∷ [])
      (among-behind body (optional super_call) (body ∷ []) (same_first forest accepted whole sorted body []))))
      (sorted.each b node there).3 refl

  written_constructor_fact : (b c body : ℕ) (sig : Signature) (position : Position) (name : List ℕ)
      (flags parameters super_call : Option ℕ) →
      slice_get nodes b ≡ Some (Constructor position name flags parameters super_call body) → IsBody p b c sig →
      ConstructorFact code b c sig super_call × BodyFact p b c body
  unfolding is_member
  written_constructor_fact b c body sig position name flags parameters super_call there is =
      let m = member_at forest accepted whole sorted b c (Constructor position name flags parameters super_call body) there
      refl is.is_class in
      let plain = plain_constructor b position name flags parameters super_call body there in (
        constructor_fact b c sig super_call is (record { no_method = plain.0; plain = plain.1; k = m.0.k; at = m.0.at })
            (super_part b c body sig position name flags parameters super_call there m.0 m.1 (home_is b c sig is plain.0)),
        block_of b c body position name flags parameters super_call there m.1,
      )

  -- ---- a class whose constructor isn't written

  plain_class : (b : ℕ) (position : Position) (name : List ℕ) (flags header : Option ℕ) (members : List ℕ) →
      slice_get nodes b ≡ Some (Class position name flags header members) → (method_at p.nodes b ≡ None) ×
      (is_static_member p.nodes b ≡ false)
  unfolding method_of member_flags declarations_of
  plain_class b position name flags header members there = (
    ap (option_and_then (method_of nodes b)) there,
    ap (λ (o : Option Node). holds (option_and_then member_flags o) (λ flags. (modifiers_at nodes flags).is_static))
        there,
  )

  class_fact : (b c : ℕ) (sig : Signature) (position : Position) (name : List ℕ) (flags header : Option ℕ) (members : List ℕ) →
      slice_get nodes b ≡ Some (Class position name flags header members) → constructor_in p.classes c ≡ None →
      IsBody p b c sig → ConstructorFact code b c sig None
  unfolding is_no_class
  class_fact b c sig position name flags header members there none is =
      let a =
      class_body_at forest accepted whole sorted b c (Class position name flags header members) there refl is.is_class
      in
      let plain = plain_class b position name flags header members there in
      constructor_fact b c sig None is (record { no_method = plain.0; plain = plain.1; k = b; at = a })
      (λ node e. unwritten_super_fact forest accepted whole sorted is_read b c b node sig a
      (ap (λ (o : Option DeclaredConstructor). holds o (λ (con : DeclaredConstructor). is_some con.super_call))
      none) (home_is b c sig is plain.0) e)

  -- ---- all bodies

  method_entry : (b c result_type body : ℕ) (sig : Signature) (position : Position) (name : List ℕ)
      (flags parameters : Option ℕ) →
      slice_get nodes b ≡ Some (MethodNode position name flags result_type parameters (Some body)) → IsBody p b c sig →
      MethodFact p b c sig result_type body
  unfolding is_member
  method_entry b c result_type body sig position name flags parameters there is =
      method_fact forest accepted whole sorted b c result_type body sig position name flags parameters there
      (member_at forest accepted whole sorted b c (MethodNode position name flags result_type parameters (Some body))
      there refl is.is_class).1 is

  by_kind : (b c : ℕ) (sig : Signature) (node : Node) → slice_get nodes b ≡ Some node → may_run node ≡ true →
      (is_class node ≡ true → constructor_in p.classes c ≡ None) → IsBody p b c sig → EntryFact code b c sig node
  unfolding EntryFact may_run is_class
  by_kind b c sig (MethodNode position name flags result_type parameters (Some body)) there e n is =
      method_entry b c result_type body sig position name flags parameters there is
  by_kind b c sig (MethodNode position name flags result_type parameters None) there e n is = absurd (true≢false (sym e))
  by_kind b c sig (Constructor position name flags parameters super_call body) there e n is =
      written_constructor_fact b c body sig position name flags parameters super_call there is
  by_kind b c sig (Class position name flags header members) there e n is =
      class_fact b c sig position name flags header members there (n refl) is
  by_kind b c sig _ there e n is = absurd (true≢false (sym e))

  pub entry_fact : (b c : ℕ) (sig : Signature) (body : IsBody p b c sig) → EntryFact code b c sig body.node
  unfolding declarations_of
  entry_fact b c sig body = by_kind b c sig body.node body.is_there body.runs body.unwritten body
