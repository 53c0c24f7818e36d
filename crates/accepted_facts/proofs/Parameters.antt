-- The parameters of a user's method are variables of its body, and have kinds.
use Rattle.std.proofs.Common.{◌≡◌, ℕ, List, [], ◌∷◌, ◌++◌, map, refl, sym, ap, ◌∙◌, subst, Option, Some, None, true, option_and_then, unwrap_or, slice_get, if◌then◌else◌, ◌==◌}
use Rattle.scj_base.specs.declared.positions.Position.{Position}
use Rattle.scj_tree.specs.declared.nodes.Node.{Node}
use Rattle.scj_tree.specs.declared.nodes.Node.TheVariants.{Method as MethodNode, Parameters, Parameter, Local, LocalWithValue}
use Rattle.scj_tree.specs.Forest.{Forest, IsForest}
use Rattle.scj_tree.specs.Shape.{children, optional}
use Rattle.scj_rules.specs.declared.contexts.Context.{Context}
use Rattle.scj_rules.specs.declared.typing.Scope.{Scope}
use Rattle.scj_rules.specs.declared.typing.Ty.{Ty}
use Rattle.scj_rules.specs.declared.views.Declared.{Declared}
use Rattle.scj_rules.specs.Definitions.{read}
use Rattle.scj_rules.specs.Words.{is_among, or_else, holds}
use Rattle.scj_rules.specs.Views.{DeclaredMethod, variable_at, variable_of, method_of, modifiers_at, parameters_of}
use Rattle.scj_rules.specs.Classes.{FoundMethod}
use Rattle.scj_rules.specs.Contexts.{Declarations, declarations_of, context, child_context, is_member, is_static_member, member_flags}
use Rattle.scj_rules.specs.StaticScopes.{runs_in, this_in, current_in, declaration_scope, scoped_variable, parameter_scope}
use Rattle.scj_rules.specs.UseRules.{variable_scope_at}
use Rattle.scj_rules.specs.Phases.{IsAccepted}
use Rattle.scj_rules.proofs.ChainLemmas.{or_left, or_right, is_same_number}
use Rattle.accepted_laws.specs.Kinds.{Kind, kind_of}
use Rattle.accepted_laws.specs.Overriding.{IsUserMethod}
use Rattle.accepted_laws.specs.Sorts.{IsWellSorted}
use Rattle.accepted_laws.proofs.ClassNumbers.{no_class_number}
use Rattle.accepted_laws.proofs.Contexts.{child_context_is}
use Rattle.accepted_laws.proofs.MethodNodes.{method_node}
use Rattle.accepted_laws.proofs.Fields.{In, here, there}
use Rattle.accepted_laws.proofs.InnerNodes.{is_no_class}
use Rattle.accepted_laws.proofs.Interfaces.{mapped_in}
use Rattle.accepted_laws.proofs.Subtypes.{among_in}
use Rattle.accepted_laws.proofs.Tools.{some_inj}
use Rattle.accepted_nodes.proofs.DeclaredScopes.{at_variable, variable_has_scope}
use Rattle.accepted_nodes.proofs.DeclaredTypes.{variable_has_type}
use Rattle.accepted_nodes.proofs.FormParts.{bound}
use Rattle.accepted_facts.proofs.DeclaredKinds.{has_kind, variable_holds}
use Rattle.accepted_facts.specs.Methods.{Takes, kind_of_parameter, kinds_taken}

variable_number : (nodes : List Node) (x : ℕ) (node : Node) (d : Declared) → variable_of nodes x node ≡ Some d → d.node ≡ x
unfolding variable_of
variable_number nodes x (Parameter position name flags declared_type) d e = sym (ap (λ (d : Declared). d.node) (some_inj _ d e))
variable_number nodes x (Local position name flags declared_type) d e = sym (ap (λ (d : Declared). d.node) (some_inj _ d e))
variable_number nodes x (LocalWithValue position name_position name flags declared_type value) d e = sym (ap (λ (d : Declared). d.node) (some_inj _ d e))
variable_number nodes x _ d e = absurd (cc (e))

module _ (forest : Forest) (accepted : IsAccepted forest) (whole : IsForest forest) (sorted : IsWellSorted forest.nodes) where
  abbrev p : Declarations
  p = declarations_of forest

  -- a parameter stands in the member that takes it
  pub record IsParameter (b c : ℕ) (d : Declared) : Type 0 where
    pub is_there : variable_at p.nodes d.node ≡ Some d
    pub class : (context p d.node).class ≡ Some c
    pub member : (context p d.node).member ≡ Some b

  pub listed_parameter : (b c q : ℕ) (node list_node : Node) (d : Declared) → slice_get forest.nodes b ≡ Some node → is_member node ≡ true → is_no_class node ≡ true → (context p b).class ≡ Some c → is_among q (children node) ≡ true
      → slice_get forest.nodes q ≡ Some list_node → (ds : List Declared) → parameters_of p.nodes list_node ≡ Some ds → In d ds → IsParameter b c d
  unfolding child_context parameters_of children is_member is_no_class declarations_of
  listed_parameter b c q node (Parameters position list) d at member plain class among stands ds e h =
      let m = mapped_in (variable_at forest.nodes) d list (subst (In d) (sym (some_inj _ ds e)) h) in
      let n = bound (slice_get forest.nodes m.0) (variable_of forest.nodes m.0) d m.2 in
      let same : d.node ≡ m.0 = variable_number forest.nodes m.0 n.0 d n.2 in
      let up = child_context_is forest whole b q node at among in
      let down = child_context_is forest whole q m.0 (Parameters position list) stands (among_in m.0 list m.1) in
      let class_q : (context p q).class ≡ Some c = ap (λ (x : Context). x.class) up ∙ ap (λ o. or_else o (context p b).class) (no_class_number forest whole b node at plain) ∙ class in
      let member_q : (context p q).member ≡ Some b = ap (λ (x : Context). x.member) up ∙ ap (λ t. if t then Some b else (context p b).member) member in
      record {
        is_there = ap (variable_at p.nodes) same ∙ m.2;
        class = ap (λ x. (context p x).class) same ∙ ap (λ (x : Context). x.class) down ∙ ap (λ o. or_else o (context p q).class) (no_class_number forest whole q (Parameters position list) stands refl) ∙ class_q;
        member = ap (λ x. (context p x).member) same ∙ ap (λ (x : Context). x.member) down ∙ member_q;
      }
  listed_parameter b c q node _ d at member plain class among stands ds e h = absurd (cc (e))

  pub behind : (q : ℕ) (xs ys : List ℕ) → is_among q ys ≡ true → is_among q (xs ++ ys) ≡ true
  behind q [] ys h = h
  behind q (x ∷ xs) ys h = or_right (q == x) (is_among q (xs ++ ys)) (behind q xs ys h)

  pub at_front : (q : ℕ) (o : Option ℕ) (ys : List ℕ) → o ≡ Some q → is_among q (optional o ++ ys) ≡ true
  at_front q o ys e = ap (λ o. is_among q (optional o ++ ys)) e ∙ or_left (q == q) _ (is_same_number q q refl)

  method_parameter : (b c q : ℕ) (position : Position) (name : List ℕ) (flags parameters : Option ℕ) (result_type : ℕ) (body : Option ℕ) (n : Node) (d : Declared) → slice_get forest.nodes b ≡ Some (MethodNode position name flags result_type parameters body) → (context p b).class ≡ Some c
      → parameters ≡ Some q → slice_get forest.nodes q ≡ Some n → (ds : List Declared) → parameters_of p.nodes n ≡ Some ds → In d ds → IsParameter b c d
  unfolding children is_member is_no_class
  method_parameter b c q position name flags parameters result_type body n d at class e stands ds k h =
      listed_parameter b c q (MethodNode position name flags result_type parameters body) n d at refl refl class
      (behind q (optional flags) _ (or_right (q == result_type) _ (at_front q parameters (optional body) e))) stands ds k h

  of_method : (b c : ℕ) (node : Node) (m : DeclaredMethod) (d : Declared) → slice_get forest.nodes b ≡ Some node → method_of p.nodes b node ≡ Some m → (context p b).class ≡ Some c → In d m.parameters → IsParameter b c d
  unfolding method_of declarations_of
  of_method b c (MethodNode position name flags result_type parameters body) m d at is class h = go parameters refl (subst (In d) (sym (ap (λ (m : DeclaredMethod). m.parameters) (some_inj _ m is))) h)
    where
      none : In d [] → ⊥
      none h = elim h [ ]

      by_list : (q : ℕ) → parameters ≡ Some q → (n : Node) → slice_get forest.nodes q ≡ Some n → (ds : Option (List Declared)) → parameters_of forest.nodes n ≡ ds → In d (unwrap_or ds []) → IsParameter b c d
      by_list q e n stands None k h = absurd (none h)
      by_list q e n stands (Some ds) k h = method_parameter b c q position name flags parameters result_type body n d at class e stands ds k h

      listed : (q : ℕ) → parameters ≡ Some q → (n : Option Node) → slice_get forest.nodes q ≡ n → In d (unwrap_or (option_and_then (parameters_of forest.nodes) n) []) → IsParameter b c d
      listed q e None stands h = absurd (none h)
      listed q e (Some n) stands h = by_list q e n stands (parameters_of forest.nodes n) refl h

      go : (o : Option ℕ) → parameters ≡ o → In d (unwrap_or (option_and_then (read forest.nodes (parameters_of forest.nodes)) o) []) → IsParameter b c d
      go None e h = absurd (none h)
      go (Some q) e h = listed q e (slice_get forest.nodes q) refl h
  of_method b c _ m d at is class h = absurd (cc (is))

  -- the parameters of a user's method are variables of its body
  pub parameter_stands : (f : FoundMethod) (d : Declared) → IsUserMethod p f → In d f.method.parameters → IsParameter f.method.declared.node f.on d
  unfolding declarations_of
  parameter_stands f d u h = (let n = method_node p.nodes f.method.declared.node f.method u.is_there in of_method f.method.declared.node f.on n.node f.method d n.is_there n.is u.stands_in_class h)

  static_is : (b : ℕ) (node : Node) (m : DeclaredMethod) → slice_get p.nodes b ≡ Some node → method_of p.nodes b node ≡ Some m → is_static_member p.nodes b ≡ m.declared.modifiers.is_static
  unfolding method_of member_flags
  static_is b (MethodNode position name flags result_type parameters body) m at is =
      ap (λ (o : Option Node). holds (option_and_then member_flags o) (λ flags. (modifiers_at p.nodes flags).is_static)) at ∙ ap (λ (m : DeclaredMethod). m.declared.modifiers.is_static) (some_inj _ m is)
  static_is b _ m at is = absurd (cc (is))

  -- the scope of a parameter is that of its variable
  pub parameter_scope_is : (f : FoundMethod) (d : Declared) → IsUserMethod p f → IsParameter f.method.declared.node f.on d → variable_scope_at p d.node ≡ parameter_scope p f.on f.method d
  unfolding current_in
  parameter_scope_is f d u i =
      let n = method_node p.nodes f.method.declared.node f.method u.is_there in
      ap (option_and_then (declaration_scope p)) (at_variable forest accepted whole sorted d.node f.method.declared.node f.on d i.class i.member i.is_there)
      ∙ ap (λ (o : Option DeclaredMethod). declaration_scope p (scoped_variable f.on (elim o as (λ _. Option Scope) [ Some m ↦ runs_in p f.on m | None ↦ this_in p f.on ]) (is_static_member p.nodes f.method.declared.node) d)) u.is_there
      ∙ ap (λ t. declaration_scope p (scoped_variable f.on (runs_in p f.on f.method) t d)) (static_is f.method.declared.node n.node f.method n.is_there n.is)

  -- and it has a kind
  pub parameter_has_kind : (f : FoundMethod) (d : Declared) → IsUserMethod p f → In d f.method.parameters → (k : Kind) × (kind_of_parameter p f d ≡ Some k)
  unfolding kind_of_parameter
  parameter_has_kind f d u h =
      let i = parameter_stands f d u h in
      let t = variable_has_type forest accepted sorted d.node d i.is_there in
      let k = has_kind t.0 (parameter_scope p f.on f.method d) (variable_holds forest sorted d.node d t.0 i.is_there t.1)
      (λ r. (let s = variable_has_scope forest accepted whole sorted d.node f.method.declared.node f.on d t.0 i.is_there i.class i.member t.1 r in (s.0, sym (parameter_scope_is f d u i) ∙ s.1))) in
      (k.0, ap (λ (o : Option Ty). kind_of o (parameter_scope p f.on f.method d)) t.1 ∙ k.1)

  all_kinds : (f : FoundMethod) (ds : List Declared) → ((d : Declared) → In d ds → (k : Kind) × (kind_of_parameter p f d ≡ Some k)) → (ks : List Kind) × (map (kind_of_parameter p f) ds ≡ map (λ (k : Kind). Some k) ks)
  all_kinds f [] h = ([], refl)
  all_kinds f (d ∷ ds) h =
      let k = h d here in
      let q = all_kinds f ds (λ x i. h x (there i)) in
      (k.0 ∷ q.0, ap (λ (o : Option Kind). o ∷ map (kind_of_parameter p f) ds) k.1 ∙ ap (λ os. Some k.0 ∷ os) q.1)

  -- the parameters of a user's method have kinds
  pub takes_kinds : (f : FoundMethod) → IsUserMethod p f → (ks : List Kind) × Takes p f ks
  unfolding kinds_taken
  takes_kinds f u = (let q = all_kinds f f.method.parameters (λ d h. parameter_has_kind f d u h) in (q.0, record { are = q.1 }))
