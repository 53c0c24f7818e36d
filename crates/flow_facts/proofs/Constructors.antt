-- The bodies of constructors: those that are written, and a class itself where its constructor isn't.
use Rattle.std.proofs.Common.{◌≡◌, ℕ, List, [], ◌∷◌, ◌++◌, map, refl, sym, ap, ◌∙◌, subst, Option, Some, None, Bool, true, false, not, ◌||◌, ◌==◌, true≢false, option_and_then, option_map, unwrap_or, is_some, slice_get, if◌then◌else◌}
use Rattle.scj_base.specs.declared.findings.Rule.TheVariants.{C11}
use Rattle.scj_base.specs.declared.positions.Position.{Position}
use Rattle.scj_builtins.specs.Framework.{object}
use Rattle.scj_tree.specs.declared.nodes.Node.{Node}
use Rattle.scj_tree.specs.declared.nodes.Node.TheVariants.{Class, Constructor}
use Rattle.scj_tree.specs.Forest.{Forest, IsForest, joined}
use Rattle.scj_tree.specs.Shape.{children, optional}
use Rattle.scj_rules.specs.declared.contexts.Context.{Context}
use Rattle.scj_rules.specs.declared.typing.Scope.{Scope}
use Rattle.scj_rules.specs.declared.views.Body.{Body}
use Rattle.scj_rules.specs.declared.views.Body.TheVariants.{Written, Empty}
use Rattle.scj_rules.specs.declared.views.Declared.{Declared}
use Rattle.scj_rules.specs.declared.views.Modifiers.{Modifiers}
use Rattle.scj_rules.specs.Definitions.{read}
use Rattle.scj_rules.specs.Words.{or_else, holds}
use Rattle.scj_rules.specs.Views.{WrittenClass, DeclaredMethod, DeclaredConstructor, method_at, method_of, constructor_of, modifiers_at, parameters_of as parameters_at_node}
use Rattle.scj_rules.specs.Bodies.{class_at_node, class_of_body, class_node, constructor_body}
use Rattle.scj_rules.specs.CheckedProgram.{IsReadFromTexts}
use Rattle.scj_rules.specs.Classes.{ClassRow}
use Rattle.scj_rules.specs.ClassRules.{c9, c11, node_breaks, has_class_words, has_method_words, is_misplaced_on_constructor, is_named_as_class}
use Rattle.scj_rules.specs.Contexts.{Declarations, declarations_of, context, number_of_class, parameter_nodes, is_member, member_flags, is_static_member}
use Rattle.scj_rules.specs.StaticScopes.{this_in, runs_in, current_in, declaration_scope, scoped_variable, constructor_parameter_scope}
use Rattle.scj_rules.specs.AnnotationRules.{result_scope}
use Rattle.scj_rules.specs.Types.{constructor_in, constructor_parameters}
use Rattle.scj_rules.specs.TypeRules.{declared_type_of}
use Rattle.scj_rules.specs.UseRules.{variable_scope_at}
use Rattle.scj_rules.specs.Phases.{IsAccepted}
use Rattle.accepted_laws.specs.Kinds.{Kind, kind_of, kind_of_variable}
use Rattle.accepted_laws.specs.Sorts.{IsWellSorted, is_class as is_a_class}
use Rattle.accepted_laws.specs.Variables.{body_parameters, parameter_list}
use Rattle.accepted_laws.proofs.Breaks.{right, no_break_at_node}
use Rattle.accepted_laws.proofs.Children.{class_outermost}
use Rattle.accepted_laws.proofs.ClassNumbers.{IsClassNode, is_class_node, user_class_is}
use Rattle.accepted_laws.proofs.DeclarationScopes.{this_has_scope}
use Rattle.accepted_laws.proofs.Fields.{In as Element}
use Rattle.accepted_laws.proofs.InnerNodes.{is_no_class}
use Rattle.accepted_laws.proofs.Tools.{some_inj}
use Rattle.accepted_nodes.proofs.DeclaredScopes.{at_variable}
use Rattle.accepted_nodes.proofs.FormParts.{bound}
use Rattle.accepted_facts.specs.Calls.{ConstructorTakes, kind_of_constructor_parameter}
use Rattle.accepted_facts.proofs.NewFacts.{constructor_stands}
use Rattle.accepted_facts.proofs.Parameters.{IsParameter, listed_parameter, behind, at_front}
use Rattle.scope_flow.specs.Signatures.{kinds_of_variables, parameters_of, kind_of_result, kind_given, may_run, IsBody}
use Rattle.flow_facts.proofs.Bodies.{AreDeclared, parameters_declared, kinds_declared, signature, make_body}
use Rattle.flow_facts.proofs.ClassNodes.{users_nodes}

third : (a b c d e f : Bool) → (a || b || c || d || e || f) ≡ false → c ≡ false
third true b c d e f h = absurd (true≢false h)
third false true c d e f h = absurd (true≢false h)
third false false true d e f h = absurd (true≢false h)
third false false false d e f h = refl

module _ (forest : Forest) (accepted : IsAccepted forest) (whole : IsForest forest) (sorted : IsWellSorted forest.nodes)
    (is_read : IsReadFromTexts forest) where
  abbrev p : Declarations
  p = declarations_of forest

  -- ---- what a constructor is

  constructor_parameter : (b c q : ℕ) (position : Position) (name : List ℕ) (flags parameters super_call : Option ℕ) (body : ℕ)
      (n : Node) (d : Declared) →
      slice_get forest.nodes b ≡ Some (Constructor position name flags parameters super_call body) →
      (context p b).class ≡ Some c
      → parameters ≡ Some q → slice_get forest.nodes q ≡ Some n → (ds : List Declared) →
      parameters_at_node p.nodes n ≡ Some ds → Element d ds → IsParameter forest accepted whole sorted b c d
  unfolding children is_member is_no_class
  constructor_parameter b c q position name flags parameters super_call body n d stands class e listed ds k h =
      listed_parameter forest accepted whole sorted b c q (Constructor position name flags parameters super_call body) n d
      stands refl refl class
      (behind forest accepted whole sorted q (optional flags) _
      (at_front forest accepted whole sorted q parameters (optional super_call ++ body ∷ []) e)) listed ds k h

  of_constructor : (b c : ℕ) (node : Node) (con : DeclaredConstructor) (d : Declared) →
      slice_get forest.nodes b ≡ Some node → constructor_of p.nodes b node ≡ Some con → (context p b).class ≡ Some c →
      Element d con.parameters → IsParameter forest accepted whole sorted b c d
  unfolding constructor_of declarations_of
  of_constructor b c (Constructor position name flags parameters super_call body) con d stands is class h =
      go parameters refl
      (subst (Element d) (sym (ap (λ (m : DeclaredConstructor). m.parameters) (some_inj _ con is))) h)
    where
      none : Element d [] → ⊥
      none h = elim h [ ]

      by_list : (q : ℕ) → parameters ≡ Some q → (n : Node) → slice_get forest.nodes q ≡ Some n →
          (ds : Option (List Declared)) → parameters_at_node forest.nodes n ≡ ds → Element d (unwrap_or ds []) →
          IsParameter forest accepted whole sorted b c d
      by_list q e n listed None k h = absurd (none h)
      by_list q e n listed (Some ds) k h =
          constructor_parameter b c q position name flags parameters super_call body n d stands class e listed ds k h

      listed : (q : ℕ) → parameters ≡ Some q → (n : Option Node) → slice_get forest.nodes q ≡ n →
          Element d (unwrap_or (option_and_then (parameters_at_node forest.nodes) n) []) →
          IsParameter forest accepted whole sorted b c d
      listed q e None at h = absurd (none h)
      listed q e (Some n) at h = by_list q e n at (parameters_at_node forest.nodes n) refl h

      go : (o : Option ℕ) → parameters ≡ o →
          Element d (unwrap_or (option_and_then (read forest.nodes (parameters_at_node forest.nodes)) o) []) →
          IsParameter forest accepted whole sorted b c d
      go None e h = absurd (none h)
      go (Some q) e h = listed q e (slice_get forest.nodes q) refl h
  of_constructor b c _ con d stands is class h = absurd (cc (is))

  -- what the node of a constructor says of it: it is no method, and isn't static (C11)
  pub record AtConstructor (b : ℕ) (con : DeclaredConstructor) : Type 0 where
    pub node : Node
    pub stands : slice_get p.nodes b ≡ Some node
    pub is : constructor_of p.nodes b node ≡ Some con
    pub runs : may_run node ≡ true
    pub number : con.node ≡ b
    pub no_method : method_at p.nodes b ≡ None
    pub plain : is_static_member p.nodes b ≡ false
    pub parameters : body_parameters p b ≡ con.parameters

  pub constructor_parts : (b : ℕ) (node : Node) (con : DeclaredConstructor) → slice_get p.nodes b ≡ Some node →
      constructor_of p.nodes b node ≡ Some con → AtConstructor b con
  unfolding constructor_of method_of member_flags node_breaks c9 c11 may_run body_parameters parameter_list
      declarations_of
  constructor_parts b (Constructor position name flags parameters super_call body) con stands is =
      let node : Node = Constructor position name flags parameters super_call body in
      let m : Modifiers = modifiers_at p.nodes flags in
      let e =
      right (is_misplaced_on_constructor p b name m) C11 position
      (no_break_at_node forest accepted b node stands).no_class_rule in
      record {
        node = node;
        stands = stands;
        is = is;
        runs = refl;
        number = ap (λ (m : DeclaredConstructor). m.node) (sym (some_inj _ con is));
        no_method = ap (option_and_then (method_of p.nodes b)) stands;
        plain =
            ap
            (λ (o : Option Node). holds (option_and_then member_flags o)
            (λ flags. (modifiers_at p.nodes flags).is_static)) stands
            ∙ third (has_class_words m) (has_method_words m) m.is_static m.is_abstract (is_some m.scope)
            (not (is_named_as_class p b name)) e;
        parameters =
            ap
            (λ (o : Option Node). unwrap_or
            (option_and_then (read p.nodes (parameters_at_node p.nodes)) (option_and_then parameter_list o)) []) stands
            ∙ ap (λ (m : DeclaredConstructor). m.parameters) (some_inj _ con is);
      }
  constructor_parts b _ con stands is = absurd (cc (is))

  parameter_kind : (b c : ℕ) (con : DeclaredConstructor) (d : Declared) → AtConstructor b con →
      (context p b).class ≡ Some c → Element d con.parameters →
      kind_of_variable p d.node ≡ kind_of_constructor_parameter p c d
  unfolding current_in kind_of_variable kind_of_constructor_parameter declarations_of
  parameter_kind b c con d k class h =
      let i = of_constructor b c k.node con d k.stands k.is class h in
      let scope : variable_scope_at p d.node ≡ constructor_parameter_scope p c d =
      ap (option_and_then (declaration_scope p))
      (at_variable forest accepted whole sorted d.node b c d i.class i.member i.is_there)
      ∙ ap (λ (o : Option DeclaredMethod). declaration_scope p
      (scoped_variable c (elim o as (λ _. Option Scope) [ Some m ↦ runs_in p c m | None ↦ this_in p c ])
      (is_static_member p.nodes b) d)) k.no_method
      ∙ ap (λ t. declaration_scope p (scoped_variable c (this_in p c) t d)) k.plain in
      ap (λ (o : Option Declared). kind_of (option_and_then (declared_type_of p) o) (variable_scope_at p d.node))
      i.is_there ∙ ap (kind_of (declared_type_of p d)) scope

  -- ---- the body that `new` runs

  -- a constructor with its signature: it gives nothing, and runs where its own object lies
  pub record Constructs (class : ℕ) (taken : List Kind) : Type 0 where
    pub b : ℕ
    pub is : (class == object) ≡ false → constructor_body p class ≡ Some (Written b)
    pub home : Scope
    pub is_home : this_in p class ≡ Some home
    pub body : IsBody p b class (signature taken None home)
    pub takes : kinds_of_variables p (parameters_of p b) ≡ Some taken

  taken_of : (class : ℕ) (con : DeclaredConstructor) (taken : List Kind) → constructor_in p.classes class ≡ Some con →
      ConstructorTakes p class taken → map (kind_of_constructor_parameter p class) con.parameters ≡ map
      (λ (k : Kind). Some k) taken
  unfolding constructor_parameters
  taken_of class con taken e t =
      sym
      (ap
      (λ (o : Option DeclaredConstructor). map (kind_of_constructor_parameter p class)
      (elim o as (λ _. List Declared) [ None ↦ [] | Some c ↦ c.parameters ])) e) ∙ t.are

  constructor_no_class : (b : ℕ) (node : Node) (con : DeclaredConstructor) → constructor_of p.nodes b node ≡ Some con →
      is_a_class node ≡ true → ⊥
  unfolding constructor_of is_a_class
  constructor_no_class b (Constructor position name flags parameters super_call body) con e h = true≢false (sym h)
  constructor_no_class b _ con e h = cc (e)

  written_constructor : (class : ℕ) (con : DeclaredConstructor) (taken : List Kind) →
      constructor_in p.classes class ≡ Some con → ConstructorTakes p class taken → Constructs class taken
  unfolding constructor_body class_of_body kind_given current_in
  written_constructor class con taken e t =
      let s = constructor_stands forest accepted whole sorted class con e in
      let n = bound (slice_get p.nodes s.b) (constructor_of p.nodes s.b) con s.is_there in
      let k = constructor_parts s.b n.0 con n.1 n.2 in
      let h = this_has_scope forest accepted whole sorted class in
      let takes = kinds_declared p (kind_of_constructor_parameter p class) (parameters_of p s.b) con.parameters taken
      (subst (AreDeclared p.nodes (parameters_of p s.b)) k.parameters
      (parameters_declared forest accepted whole sorted is_read s.b))
      (λ d i. parameter_kind s.b class con d k s.class_is i) (taken_of class con taken e t) in
      record {
        b = s.b;
        is = λ o. (
            ap (λ t. if t then Some Empty else (elim (constructor_in p.classes class) as (λ _. Option Body)
            [ Some c ↦ Some (Written c.node) | None ↦ option_map (λ node. Written node) (class_node p class) ])) o
            ∙ ap (λ (o : Option DeclaredConstructor). elim o as (λ _. Option Body)
            [ Some c ↦ Some (Written c.node) | None ↦ option_map (λ node. Written node) (class_node p class) ]) e
            ∙ ap (λ n. Some (Written n)) k.number);
        home = h.0;
        is_home = h.1;
        body =
            (make_body forest accepted whole sorted is_read s.b class k.node taken None h.0 h.0 k.stands k.runs
            (λ e. absurd (constructor_no_class s.b k.node con k.is e))
            (ap (λ o. or_else o (class_at_node p s.b)) s.class_is)
            (ap (λ (o : Option DeclaredMethod). elim o as (λ _. Option Kind)
            [ None ↦ None | Some m ↦ kind_of_result p m.declared.declared_type (result_scope p class m) ])
            k.no_method) takes
            (ap (λ (o : Option DeclaredMethod). elim o as (λ _. Option Scope)
            [ Some m ↦ runs_in p class m | None ↦ this_in p class ]) k.no_method ∙ h.1) h.1).0;
        takes = takes;
      }

  -- where no constructor is written, it is the class itself
  outermost_class : (x : ℕ) (c : WrittenClass) → (n : IsClassNode forest.nodes x c) → (context p x).class ≡ None
  outermost_class x c n =
      ap (λ (c : Context). c.class)
      (class_outermost forest whole sorted x (Class n.position c.name n.flags n.header c.members) n.is_there
      (is_class_node forest.nodes x c n))

  numbered_class : (x class : ℕ) → number_of_class (joined forest.files) x ≡ Some class →
      class_at_node p x ≡ Some class
  numbered_class x class e = ap (λ ids. number_of_class ids x) (users_nodes forest accepted whole sorted) ∙ e

  none_taken : (class : ℕ) (taken : List Kind) → constructor_in p.classes class ≡ None →
      ConstructorTakes p class taken → taken ≡ []
  unfolding constructor_parameters
  none_taken class [] e t = refl
  none_taken class (k ∷ ks) e t =
      absurd (
      let z : [] ≡ Some k ∷ map (λ (k : Kind). Some k) ks =
      sym
      (ap
      (λ (o : Option DeclaredConstructor). map (kind_of_constructor_parameter p class)
      (elim o as (λ _. List Declared) [ None ↦ [] | Some c ↦ c.parameters ])) e) ∙ t.are in cc (z))

  class_itself : (class : ℕ) (row : ClassRow) (c : WrittenClass) → slice_get p.classes class ≡ Some row →
      row.written ≡ Some c → constructor_in p.classes class ≡ None → Constructs class []
  unfolding constructor_body class_of_body kind_given current_in method_of may_run parameters_of parameter_list
      kinds_of_variables declarations_of
  class_itself class row c stands is none =
      let u = user_class_is forest whole accepted sorted class row c stands is in
      let n = u.node in
      let node : Node = Class n.position c.name n.flags n.header c.members in
      let h = this_has_scope forest accepted whole sorted class in
      let no_method : method_at p.nodes c.node ≡ None = ap (option_and_then (method_of p.nodes c.node)) n.is_there in
      let no_parameters : parameters_of p c.node ≡ [] =
      ap
      (λ (o : Option Node). elim (option_and_then (read p.nodes parameter_nodes) (option_and_then parameter_list o))
      as (λ _. List ℕ) [ None ↦ [] | Some list ↦ list ]) n.is_there in
      let takes : kinds_of_variables p (parameters_of p c.node) ≡ Some [] = ap (kinds_of_variables p) no_parameters in
      record {
        b = c.node;
        is = λ o. (
            ap (λ t. if t then Some Empty else (elim (constructor_in p.classes class) as (λ _. Option Body)
            [ Some c ↦ Some (Written c.node) | None ↦ option_map (λ node. Written node) (class_node p class) ])) o
            ∙ ap (λ (o : Option DeclaredConstructor). elim o as (λ _. Option Body)
            [ Some c ↦ Some (Written c.node) | None ↦ option_map (λ node. Written node) (class_node p class) ]) none
            ∙ ap (λ (o : Option ClassRow). option_map (λ node. Written node)
            (option_map (λ (c : WrittenClass). c.node) (option_and_then (λ (row : ClassRow). row.written) o)))
            stands
            ∙ ap (λ (o : Option WrittenClass). option_map (λ node. Written node)
            (option_map (λ (c : WrittenClass). c.node) o)) is);
        home = h.0;
        is_home = h.1;
        body =
            (make_body forest accepted whole sorted is_read c.node class node [] None h.0 h.0 n.is_there refl
            (λ e. none)
            (ap (λ o. or_else o (class_at_node p c.node)) (outermost_class c.node c n)
            ∙ numbered_class c.node class u.numbered)
            (ap (λ (o : Option DeclaredMethod). elim o as (λ _. Option Kind)
            [ None ↦ None | Some m ↦ kind_of_result p m.declared.declared_type (result_scope p class m) ])
            no_method) takes
            (ap (λ (o : Option DeclaredMethod). elim o as (λ _. Option Scope)
            [ Some m ↦ runs_in p class m | None ↦ this_in p class ]) no_method ∙ h.1) h.1).0;
        takes = takes;
      }

  -- the constructor of a user class
  pub constructs : (class : ℕ) (row : ClassRow) (c : WrittenClass) (taken : List Kind) →
      slice_get p.classes class ≡ Some row → row.written ≡ Some c → ConstructorTakes p class taken →
      Constructs class taken
  constructs class row c taken stands is t = go (constructor_in p.classes class) refl
    where
      go : (o : Option DeclaredConstructor) → constructor_in p.classes class ≡ o → Constructs class taken
      go (Some con) e = written_constructor class con taken e t
      go None e = subst (Constructs class) (sym (none_taken class taken e t)) (class_itself class row c stands is e)
