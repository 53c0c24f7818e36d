-- Bodies of methods and constructors, and what they take: the parameters, as the first variables.
use Rattle.std.proofs.Common.{◌≡◌, ℕ, List, [], ◌∷◌, ◌++◌, map, filter_map, refl, sym, ap, ◌∙◌, subst, Option, Some, None, true, true≢false, option_and_then, unwrap_or, is_some, slice_get}
use Rattle.std.specs.List.{cons_option}
use Rattle.scj_tree.specs.declared.nodes.Node.{Node}
use Rattle.scj_tree.specs.declared.nodes.Node.TheVariants.{Method as MethodNode, Parameters, Parameter}
use Rattle.scj_tree.specs.Forest.{Forest, IsForest}
use Rattle.scj_rules.specs.declared.typing.Scope.{Scope}
use Rattle.scj_rules.specs.declared.views.Declared.{Declared}
use Rattle.scj_rules.specs.declared.views.WrittenType.{WrittenType}
use Rattle.scj_rules.specs.declared.views.WrittenType.TheVariants.{Int as int_type, Boolean as boolean_type, Void as void_type, Long as long_type, Text as text_type, IntArray as int_array, BooleanArray as boolean_array, Class as class_type, ClassArray as class_array}
use Rattle.scj_rules.specs.Definitions.{read}
use Rattle.scj_rules.specs.Words.{is_among, or_else}
use Rattle.scj_rules.specs.Views.{DeclaredMethod, variable_at, variable_of, method_of, parameters_of as parameters_at_node}
use Rattle.scj_rules.specs.Bodies.{class_of_body, class_at_node}
use Rattle.scj_rules.specs.CheckedProgram.{IsReadFromTexts}
use Rattle.scj_rules.specs.Classes.{FoundMethod}
use Rattle.scj_rules.specs.Contexts.{Declarations, declarations_of, parameter_nodes}
use Rattle.scj_rules.specs.LimitRules.{variables_of}
use Rattle.scj_rules.specs.StaticScopes.{this_in, current_in, runs_in}
use Rattle.scj_rules.specs.AnnotationRules.{result_scope}
use Rattle.scj_rules.specs.Types.{type_written, constructor_in}
use Rattle.scj_rules.specs.TypeRules.{declared_type_of}
use Rattle.scj_rules.specs.UseRules.{variable_scope_at}
use Rattle.scj_rules.specs.Phases.{IsAccepted}
use Rattle.accepted_laws.specs.Kinds.{Kind, kind_of, kind_of_variable, IsRealKind}
use Rattle.accepted_laws.specs.Overriding.{IsUserMethod}
use Rattle.accepted_laws.specs.Sorts.{Of, AllOf, HasRightChildren, IsWellSorted, is_parameter, is_class}
use Rattle.accepted_laws.specs.Variables.{body_parameters, parameter_list}
use Rattle.accepted_laws.proofs.ClassSorts.{are_intervals}
use Rattle.accepted_laws.proofs.DeclarationScopes.{this_has_scope}
use Rattle.accepted_laws.proofs.Fields.{In, here, there, in_among}
use Rattle.accepted_laws.proofs.Lists.{get_left}
use Rattle.accepted_laws.proofs.MemberParameters.{begin_with_parameters}
use Rattle.accepted_laws.proofs.MemberVariables.{variable_once}
use Rattle.accepted_laws.proofs.MethodNodes.{method_node}
use Rattle.accepted_laws.proofs.RealScopes.{variable_is_real}
use Rattle.accepted_laws.proofs.Tools.{some_inj}
use Rattle.accepted_nodes.proofs.ScopesComplete.{of_option}
use Rattle.accepted_facts.specs.Methods.{Takes, kind_of_parameter, kinds_taken, kind_given as kind_given_by}
use Rattle.accepted_facts.proofs.Parameters.{parameter_stands, parameter_scope_is}
use Rattle.scope_flow.specs.Signatures.{Signature, kinds_of_variables, parameters_of, kind_of_result, kind_given, may_run, IsBody}
use Rattle.flow_facts.proofs.HeldFields.{in_get}

-- ---- declared parameters

-- the nodes declare these variables, one by one
abbrev pub AreDeclared : List Node → List ℕ → List Declared → Type 0
AreDeclared nodes [] [] = Unit {0}
AreDeclared nodes (x ∷ xs) (d ∷ ds) = (variable_at nodes x ≡ Some d) × (d.node ≡ x) × AreDeclared nodes xs ds
AreDeclared nodes [] (d ∷ ds) = ⊥
AreDeclared nodes (x ∷ xs) [] = ⊥

parameter_made : (nodes : List Node) (x : ℕ) (node : Node) → is_parameter node ≡ true → (d : Declared) ×
    (variable_of nodes x node ≡ Some d) × (d.node ≡ x)
unfolding is_parameter variable_of
parameter_made nodes x (Parameter position name flags declared_type) e = (_, refl, refl)
parameter_made nodes x _ e = absurd (true≢false (sym e))

parameter_at : (nodes : List Node) (x : ℕ) → Of is_parameter nodes x → (d : Declared) × (variable_at nodes x ≡ Some d) ×
    (d.node ≡ x)
parameter_at nodes x o =
    (let q = parameter_made nodes x o.node o.passes in
    (q.0, ap (option_and_then (variable_of nodes x)) o.is_there ∙ q.1, q.2))

all_declared : (nodes : List Node) (xs : List ℕ) → AllOf is_parameter nodes xs →
    AreDeclared nodes xs (filter_map (variable_at nodes) xs)
all_declared nodes [] h = tt
all_declared nodes (x ∷ xs) h =
    let d = parameter_at nodes x h.0 in
    subst (AreDeclared nodes (x ∷ xs))
    (sym (ap (λ (o : Option Declared). cons_option o (filter_map (variable_at nodes) xs)) d.1))
    (d.1, d.2, all_declared nodes xs h.1)

nodes_are : (nodes : List Node) (xs : List ℕ) (ds : List Declared) → AreDeclared nodes xs ds →
    map (λ (d : Declared). d.node) ds ≡ xs
nodes_are nodes [] [] h = refl
nodes_are nodes (x ∷ xs) (d ∷ ds) h = ap (λ n. n ∷ map (λ (d : Declared). d.node) ds) h.1
    ∙ ap (λ ns. x ∷ ns) (nodes_are nodes xs ds h.2)
nodes_are nodes [] (d ∷ ds) h = absurd h
nodes_are nodes (x ∷ xs) [] h = absurd h

-- ---- what is taken

kinds_cons : (p : Declarations) (v : ℕ) (vs : List ℕ) (k : Kind) (ks : List Kind) → kind_of_variable p v ≡ Some k →
    kinds_of_variables p vs ≡ Some ks → kinds_of_variables p (v ∷ vs) ≡ Some (k ∷ ks)
unfolding kinds_of_variables
kinds_cons p v vs k ks e h =
    ap (option_and_then (λ k. option_and_then (λ ks. Some (k ∷ ks)) (kinds_of_variables p vs))) e
    ∙ ap (option_and_then (λ ks. Some (k ∷ ks))) h

kinds_nil : (p : Declarations) → kinds_of_variables p [] ≡ Some []
unfolding kinds_of_variables
kinds_nil p = refl

-- the kinds of parameters, by their declarations
pub kinds_declared : (p : Declarations) (f : Declared → Option Kind) (xs : List ℕ) (ds : List Declared)
    (ks : List Kind) → AreDeclared p.nodes xs ds → ((d : Declared) → In d ds → kind_of_variable p d.node ≡ f d) →
    map f ds ≡ map (λ (k : Kind). Some k) ks → kinds_of_variables p xs ≡ Some ks
kinds_declared p f [] [] [] h g e = kinds_nil p
kinds_declared p f (x ∷ xs) (d ∷ ds) (k ∷ ks) h g e =
    let first : f d ≡ Some k = cc (e) in
    let others : map f ds ≡ map (λ (k : Kind). Some k) ks = cc (e) in
    kinds_cons p x xs k ks (ap (kind_of_variable p) (sym h.1) ∙ g d here ∙ first)
    (kinds_declared p f xs ds ks h.2 (λ d i. g d (there i)) others)
kinds_declared p f [] [] (k ∷ ks) h g e = absurd (cc (e))
kinds_declared p f (x ∷ xs) (d ∷ ds) [] h g e = absurd (cc (e))
kinds_declared p f [] (d ∷ ds) ks h g e = absurd h
kinds_declared p f (x ∷ xs) [] ks h g e = absurd h

-- kinds of declared variables
abbrev pub AllReal : List Kind → Type 0
AllReal [] = Unit {0}
AllReal (k ∷ ks) = IsRealKind k × AllReal ks

pub taken_real : (p : Declarations) (vs : List ℕ) (ks : List Kind) → kinds_of_variables p vs ≡ Some ks → AllReal ks
unfolding kinds_of_variables
taken_real p [] ks e = subst AllReal (some_inj [] ks e) tt
taken_real p (v ∷ vs) ks e =
    let a = of_option (kind_of_variable p v) (λ k. option_and_then (λ ks. Some (k ∷ ks)) (kinds_of_variables p vs)) ks e
    in
    let b = of_option (kinds_of_variables p vs) (λ ks. Some (a.0 ∷ ks)) ks a.2 in
    subst AllReal (some_inj (a.0 ∷ b.0) ks b.2) (variable_is_real p v a.0 a.1, taken_real p vs b.0 b.1)

-- ---- results

pub result_kind : (p : Declarations) (t : WrittenType) (s : Option Scope) → (t ≡ long_type → ⊥) →
    kind_of_result p t s ≡ kind_of (type_written p.names t) s
unfolding kind_of_result
result_kind p long_type s n = absurd (n refl)
result_kind p int_type s n = refl
result_kind p boolean_type s n = refl
result_kind p void_type s n = refl
result_kind p text_type s n = refl
result_kind p int_array s n = refl
result_kind p boolean_array s n = refl
result_kind p (class_type name) s n = refl
result_kind p (class_array name) s n = refl

abbrev pub signature : List Kind → Option Kind → Scope → Signature
signature takes gives runs_in = record { takes = takes; gives = gives; runs_in = runs_in }

module _ (forest : Forest) (accepted : IsAccepted forest) (whole : IsForest forest) (sorted : IsWellSorted forest.nodes)
    (is_read : IsReadFromTexts forest) where
  abbrev p : Declarations
  p = declarations_of forest

  pub parameters_declared : (b : ℕ) → AreDeclared p.nodes (parameters_of p b) (body_parameters p b)
  unfolding parameters_of body_parameters parameter_nodes parameters_at_node HasRightChildren declarations_of
  parameters_declared b = go (read p.nodes parameter_list b)
    where
      of : (q : ℕ) (node : Node) → slice_get forest.nodes q ≡ Some node →
          AreDeclared p.nodes (elim (parameter_nodes node) as (λ _. List ℕ) [ None ↦ [] | Some list ↦ list ])
          (unwrap_or (parameters_at_node p.nodes node) [])
      of q (Parameters position list) e = all_declared p.nodes list (sorted.each q (Parameters position list) e)
      of q _ e = tt

      at : (q : ℕ) (o : Option Node) → slice_get forest.nodes q ≡ o →
          AreDeclared p.nodes
          (elim (option_and_then parameter_nodes o) as (λ _. List ℕ) [ None ↦ [] | Some list ↦ list ])
          (unwrap_or (option_and_then (parameters_at_node p.nodes) o) [])
      at q None e = tt
      at q (Some node) e = of q node e

      go : (o : Option ℕ) →
          AreDeclared p.nodes
          (elim (option_and_then (read p.nodes parameter_nodes) o) as (λ _. List ℕ) [ None ↦ [] | Some list ↦ list ])
          (unwrap_or (option_and_then (read p.nodes (parameters_at_node p.nodes)) o) [])
      go None = tt
      go (Some q) = at q (slice_get forest.nodes q) refl

  begins : (b : ℕ) → (more : List ℕ) × (variables_of p b ≡ parameters_of p b ++ more)
  begins b =
      let q = begin_with_parameters forest whole sorted (are_intervals forest is_read) b in (
        q.others,
        q.is
            ∙ ap (λ ns. ns ++ q.others)
            (nodes_are p.nodes (parameters_of p b) (body_parameters p b) (parameters_declared b)),
      )

  first_stands : (b i v : ℕ) → slice_get (variables_of p b) i ≡ Some v → is_among v (parameters_of p b) ≡ true →
      slice_get (parameters_of p b) i ≡ Some v
  first_stands b i v e h =
      let q = begins b in
      let k = in_get (parameters_of p b) v (in_among v (parameters_of p b) h) in
      let stands : slice_get (variables_of p b) k.0 ≡ Some v = ap (λ vs. slice_get vs k.0) q.1
      ∙ get_left (parameters_of p b) q.0 k.0 v k.1 in
      subst (λ i. slice_get (parameters_of p b) i ≡ Some v) (variable_once forest b k.0 i v stands e) k.1

  -- a body, from its parts
  pub make_body : (b class : ℕ) (node : Node) (takes : List Kind) (gives : Option Kind) (runs home : Scope) →
      slice_get p.nodes b ≡ Some node → may_run node ≡ true →
      (is_class node ≡ true → constructor_in p.classes class ≡ None) → class_of_body p b ≡ Some class →
      kind_given p class b ≡ gives → kinds_of_variables p (parameters_of p b) ≡ Some takes
      → current_in p class b ≡ Some runs → this_in p class ≡ Some home →
      (body : IsBody p b class (signature takes gives runs)) × (body.home ≡ home)
  make_body b class node takes gives runs home stands may unwritten is_class given taken current is_home =
      let q = begins b in (
        record {
          node = node;
          is_there = stands;
          runs = may;
          unwritten = unwritten;
          is_class = is_class;
          gives = given;
          more = q.0;
          variables = q.1;
          first = first_stands b;
          takes = taken;
          runs_in = current;
          home = home;
          is_home = is_home;
        },
        refl,
      )

  -- ---- methods

  method_runs : (b : ℕ) (node : Node) (m : DeclaredMethod) → method_of p.nodes b node ≡ Some m → is_some m.body ≡ true →
      may_run node ≡ true
  unfolding method_of may_run
  method_runs b (MethodNode position name flags result_type parameters (Some body)) m e h = refl
  method_runs b (MethodNode position name flags result_type parameters None) m e h =
      absurd (true≢false (sym h ∙ ap (λ (m : DeclaredMethod). is_some m.body) (sym (some_inj _ m e))))
  method_runs b _ m e h = absurd (cc (e))

  method_no_class : (b : ℕ) (node : Node) (m : DeclaredMethod) → method_of p.nodes b node ≡ Some m →
      is_class node ≡ true → ⊥
  unfolding method_of is_class
  method_no_class b (MethodNode position name flags result_type parameters body) m e h = true≢false (sym h)
  method_no_class b _ m e h = cc (e)

  method_parameters : (b : ℕ) (node : Node) (m : DeclaredMethod) → slice_get p.nodes b ≡ Some node →
      method_of p.nodes b node ≡ Some m → body_parameters p b ≡ m.parameters
  unfolding body_parameters method_of parameter_list
  method_parameters b (MethodNode position name flags result_type parameters body) m stands e =
      ap (λ (o : Option Node). unwrap_or
      (option_and_then (read p.nodes (parameters_at_node p.nodes)) (option_and_then parameter_list o)) []) stands
      ∙ ap (λ (m : DeclaredMethod). m.parameters) (some_inj _ m e)
  method_parameters b _ m stands e = absurd (cc (e))

  method_kind : (f : FoundMethod) → IsUserMethod p f → (d : Declared) → In d f.method.parameters →
      kind_of_variable p d.node ≡ kind_of_parameter p f d
  unfolding kind_of_variable kind_of_parameter
  method_kind f user d h =
      let s = parameter_stands forest accepted whole sorted f d user h in
      ap (λ (o : Option Declared). kind_of (option_and_then (declared_type_of p) o) (variable_scope_at p d.node))
      s.is_there
      ∙ ap (kind_of (declared_type_of p d)) (parameter_scope_is forest accepted whole sorted f d user s)

  pub method_takes : (f : FoundMethod) (taken : List Kind) → IsUserMethod p f → Takes p f taken →
      kinds_of_variables p (parameters_of p f.method.declared.node) ≡ Some taken
  unfolding kinds_taken
  method_takes f taken user t =
      let b : ℕ = f.method.declared.node in
      let n = method_node p.nodes b f.method user.is_there in
      let same = method_parameters b n.node f.method n.is_there n.is in
      kinds_declared p (kind_of_parameter p f) (parameters_of p b) f.method.parameters taken
      (subst (AreDeclared p.nodes (parameters_of p b)) same (parameters_declared b)) (method_kind f user) t.are

  method_given : (f : FoundMethod) → IsUserMethod p f → (f.method.declared.declared_type ≡ long_type → ⊥) →
      kind_given p f.on f.method.declared.node ≡ kind_given_by p f
  unfolding kind_given kind_given_by
  method_given f user n =
      ap (λ (o : Option DeclaredMethod). elim o as (λ _. Option Kind)
      [ None ↦ None | Some m ↦ kind_of_result p m.declared.declared_type (result_scope p f.on m) ]) user.is_there
      ∙ result_kind p f.method.declared.declared_type (result_scope p f.on f.method) n

  pub method_body : (f : FoundMethod) (taken : List Kind) (runs : Scope) → IsUserMethod p f →
      is_some f.method.body ≡ true → Takes p f taken → (f.method.declared.declared_type ≡ long_type → ⊥) →
      runs_in p f.on f.method ≡ Some runs
      → IsBody p f.method.declared.node f.on (signature taken (kind_given_by p f) runs)
  unfolding class_of_body current_in
  method_body f taken runs user has t n r =
      let b : ℕ = f.method.declared.node in
      let m = method_node p.nodes b f.method user.is_there in
      let h = this_has_scope forest accepted whole sorted f.on in
      (make_body b f.on m.node taken (kind_given_by p f) runs h.0 m.is_there (method_runs b m.node f.method m.is has)
      (λ e. absurd (method_no_class b m.node f.method m.is e))
      (ap (λ o. or_else o (class_at_node p b)) user.stands_in_class) (method_given f user n)
      (method_takes f taken user t)
      (ap (λ (o : Option DeclaredMethod). elim o as (λ _. Option Scope)
      [ Some m ↦ runs_in p f.on m | None ↦ this_in p f.on ]) user.is_there ∙ r) h.1).0
