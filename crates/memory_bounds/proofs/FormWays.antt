-- In an accepted program the classes on the way to a form have constructors that lead there.
use Rattle.std.specs.Prelude.{Option, Some, None, if◌then◌else◌, option_map, slice_get}
use Rattle.std.proofs.Common.{◌≡◌, ◌⊎◌, ℕ, ◌==◌, ◌||◌, List, [], ◌∷◌, ◌++◌, Bool, true, false, refl, sym, ◌∙◌, ap, inl, inr, true≢false}
use Rattle.scj_base.specs.declared.positions.Position.{Position}
use Rattle.scj_builtins.specs.Framework.{object}
use Rattle.scj_tree.specs.declared.nodes.Node.{Node}
use Rattle.scj_tree.specs.declared.nodes.Node.TheVariants.{Class, Constructor, SuperCall}
use Rattle.scj_tree.specs.Forest.{Forest}
use Rattle.scj_tree.specs.Shape.{children, optional}
use Rattle.scj_rules.specs.declared.contexts.Context.{Context}
use Rattle.scj_rules.specs.declared.typing.Binding.TheVariants.{Class as ClassNamed}
use Rattle.scj_rules.specs.declared.views.Body.{Body}
use Rattle.scj_rules.specs.declared.views.Body.TheVariants.{Empty, Written}
use Rattle.scj_rules.specs.Words.{is_among, or_else, ◌>>=◌}
use Rattle.scj_rules.specs.Bindings.{binding_of, plain_or}
use Rattle.scj_rules.specs.Bodies.{class_node, class_of_body, constructor_body}
use Rattle.scj_rules.specs.Classes.{ClassRow, is_user_class, superclass_in}
use Rattle.scj_rules.specs.Contexts.{Declarations, child_context, context, declarations_of, is_member}
use Rattle.scj_rules.specs.Types.{constructor_in}
use Rattle.scj_rules.specs.Views.{DeclaredConstructor, WrittenClass, constructor_of}
use Rattle.scj_rules.proofs.ChainLemmas.{is_same_number, same_number}
use Rattle.accepted_laws.specs.Judgements.{binding_at_node}
use Rattle.accepted_laws.specs.Programs.{IsAcceptedProgram}
use Rattle.accepted_laws.specs.Sorts.{IsWellSorted}
use Rattle.accepted_laws.proofs.ClassNumbers.{UserClass, name_denotes, no_class_number, user_class_is}
use Rattle.accepted_laws.proofs.ClassSorts.{well_sorted}
use Rattle.accepted_laws.proofs.Contexts.{child_context_is}
use Rattle.accepted_laws.proofs.Dispatch.{written_of}
use Rattle.accepted_laws.proofs.InnerNodes.{is_no_class}
use Rattle.accepted_laws.proofs.Interfaces.{row_is}
use Rattle.accepted_laws.proofs.Rows.{get_from_within}
use Rattle.accepted_laws.proofs.Tools.{some_inj}
use Rattle.accepted_nodes.proofs.FormParts.{bound}
use Rattle.accepted_facts.proofs.NameFacts.{binding_is}
use Rattle.accepted_facts.proofs.NewFacts.{constructor_stands}
use Rattle.flow_facts.proofs.ClassFacts.{framework_number}
use Rattle.flow_facts.proofs.ClassNodes.{member_at}
use Rattle.scj_model.specs.Code.{code_of}
use Rattle.memory_bounds.proofs.FormBodies.{OnTheWay}
use Rattle.memory_bounds.proofs.FormClass.{OnWay, goes_on, way_user}

-- what is written in a list is written behind others
pub behind_others : (x : ℕ) (xs ys : List ℕ) → is_among x ys ≡ true → is_among x (xs ++ ys) ≡ true
behind_others x [] ys h = h
behind_others x (z ∷ xs) ys h = go (x == z) (behind_others x xs ys h)
  where
    go : (t : Bool) → is_among x (xs ++ ys) ≡ true → (t || is_among x (xs ++ ys)) ≡ true
    go true k = refl
    go false k = k

pub before_others : (x : ℕ) (ys : List ℕ) → is_among x (x ∷ ys) ≡ true
before_others x ys = ap (λ t. t || is_among x ys) (is_same_number x x refl)

-- a constructor is a node
constructor_is : (nodes : List Node) (x : ℕ) (n : Node) (con : DeclaredConstructor) → constructor_of nodes x n ≡ Some con →
    ((position : Position) × (name : List ℕ) × (flags : Option ℕ) × (parameters : Option ℕ) × (call : Option ℕ) × (inner : ℕ) ×
    (n ≡ Constructor position name flags parameters call inner)) × (con.node ≡ x)
unfolding constructor_of
constructor_is nodes x (Constructor position name flags parameters call inner) con e =
    ((position, name, flags, parameters, call, inner, refl), sym (ap (λ (c : DeclaredConstructor). c.node) (some_inj _ con e)))
constructor_is nodes x _ con e = absurd (cc (e))

named_up : (o : Option ℕ) (s : ℕ) → plain_or (λ c. ClassNamed c) o ≡ ClassNamed s → o ≡ Some s
named_up None s e = absurd (cc (e))
named_up (Some c) s e = ap (λ n. Some n) (let same : c ≡ s = cc (e) in same)

same_body : (x b : ℕ) → Some (Written x) ≡ Some (Written b) → x ≡ b
same_body x b e = cc (e)

module _ (forest : Forest) (a : IsAcceptedProgram forest) where
  abbrev p : Declarations
  p = declarations_of forest

  sorted : IsWellSorted forest.nodes
  sorted = well_sorted forest a.is_read

  -- the class as it is written
  record IsWritten (class : ℕ) : Type 0 where
    row : ClassRow
    is_row : slice_get p.classes class ≡ Some row
    written : WrittenClass
    is : row.written ≡ Some written
    user : UserClass forest class written

  is_written : (class : ℕ) → OnWay forest a class → IsWritten class
  is_written class way =
      elim (row_is forest a.is_accepted class r.0 r.1) as (λ z. IsWritten class) [
        | inl k ↦ absurd (true≢false (sym (way_user forest a class way)
            ∙ framework_number forest a.is_accepted class r.0 r.1 k.unwritten))
        | inr u ↦ record {
          row = r.0;
          is_row = r.1;
          written = u.2.class;
          is = written_of forest a.is_accepted a.whole sorted u.0 r.0 u.2;
          user = user_class_is forest a.whole a.is_accepted sorted class r.0 u.2.class r.1
              (written_of forest a.is_accepted a.whole sorted u.0 r.0 u.2);
        }
      ]
    where
      r : (row : ClassRow) × (slice_get p.classes class ≡ Some row)
      r = get_from_within p.classes class way.within

  class_there : (class : ℕ) (w : IsWritten class) → class_node p class ≡ Some w.written.node
  class_there class w =
      ap (λ (o : Option ClassRow). option_map (λ (c : WrittenClass). c.node) (o >>= (λ (row : ClassRow). row.written)))
      w.is_row
      ∙ ap (option_map (λ (c : WrittenClass). c.node)) w.is

  no_object : (class : ℕ) → OnWay forest a class → (class == object) ≡ false
  no_object class way = go (class == object) refl
    where
      go : (t : Bool) → (class == object) ≡ t → (class == object) ≡ false
      go false e = e
      go true e =
          absurd (true≢false (sym (way_user forest a class way) ∙ ap is_user_class (same_number class object e)))

  abbrev made : Option DeclaredConstructor → Option ℕ → Option Body
  made o n =
      elim o as (λ z. Option Body) [ Some c ↦ Some (Written c.node) | None ↦ option_map (λ node. Written node) n ]

  body_is : (class : ℕ) → OnWay forest a class → constructor_body p class ≡ made (constructor_in p.classes class) (class_node p class)
  unfolding constructor_body
  body_is class way =
      ap (λ t. if t then Some Empty else made (constructor_in p.classes class) (class_node p class)) (no_object class way)

  node_of : (class b : ℕ) (node : Node) → OnWay forest a class → constructor_body p class ≡ Some (Written b) →
      slice_get p.nodes b ≡ Some node →
      ((position : Position) × (name : List ℕ) × (flags : Option ℕ) × (parameters : Option ℕ) × (call : Option ℕ) × (inner : ℕ) ×
      (node ≡ Constructor position name flags parameters call inner))
      ⊎ ((position : Position) × (name : List ℕ) × (flags header : Option ℕ) × (members : List ℕ) ×
      (node ≡ Class position name flags header members))
  unfolding declarations_of
  node_of class b node way is there = of (constructor_in p.classes class) refl (sym (body_is class way) ∙ is)
    where
      w : IsWritten class
      w = is_written class way

      of : (o : Option DeclaredConstructor) → constructor_in p.classes class ≡ o → made o (class_node p class) ≡ Some (Written b) →
          ((position : Position) × (name : List ℕ) × (flags : Option ℕ) × (parameters : Option ℕ) × (call : Option ℕ) × (inner : ℕ) ×
          (node ≡ Constructor position name flags parameters call inner))
          ⊎ ((position : Position) × (name : List ℕ) × (flags header : Option ℕ) × (members : List ℕ) ×
          (node ≡ Class position name flags header members))
      of (Some con) e k =
          (let s = constructor_stands forest a.is_accepted a.whole sorted class con e in
          let n = bound (slice_get p.nodes s.b) (constructor_of p.nodes s.b) con s.is_there in
          let c = constructor_is p.nodes s.b n.0 con n.2 in
          let same : s.b ≡ b = sym c.1 ∙ same_body con.node b k in
          let one : node ≡ n.0 = some_inj node n.0 (sym there ∙ (ap (slice_get p.nodes) (sym same) ∙ n.1)) in
          inl (c.0.0, c.0.1, c.0.2, c.0.3, c.0.4, c.0.5, one ∙ c.0.6))
      of None e k =
          (let same : w.written.node ≡ b =
          same_body w.written.node b (sym (ap (option_map (λ node. Written node)) (class_there class w)) ∙ k) in
          let n = w.user.node in
          inr (
            n.position,
            w.written.name,
            n.flags,
            n.header,
            w.written.members,
            some_inj node (Class n.position w.written.name n.flags n.header w.written.members)
                (sym there ∙ (ap (slice_get p.nodes) (sym same) ∙ n.is_there)),
          ))

  -- the super call of a constructor stands in its class
  pub call_stands : (b c call : ℕ) (position : Position) (name : List ℕ) (flags parameters : Option ℕ) (inner : ℕ) →
      class_of_body p b ≡ Some c →
      slice_get forest.nodes b ≡ Some (Constructor position name flags parameters (Some call) inner) →
      (context p call).class ≡ Some c
  unfolding child_context children is_member is_no_class
  call_stands b c call position name flags parameters inner class there =
      ap (λ (x : Context). x.class)
      (child_context_is forest a.whole b call (Constructor position name flags parameters (Some call) inner) there among)
      ∙ (ap (λ (o : Option ℕ). or_else o (context p b).class)
      (no_class_number forest a.whole b (Constructor position name flags parameters (Some call) inner) there refl)
      ∙ (member_at forest a.is_accepted a.whole sorted b c
      (Constructor position name flags parameters (Some call) inner) there refl class).1)
    where
      among : is_among call (children (Constructor position name flags parameters (Some call) inner)) ≡ true
      among =
          behind_others call (optional flags) (optional parameters ++ (call ∷ (inner ∷ [])))
          (behind_others call (optional parameters) (call ∷ (inner ∷ [])) (before_others call (inner ∷ [])))

  pub up_of_call : (b c call superclass : ℕ) (position : Position) (name : List ℕ) (flags parameters : Option ℕ) (inner : ℕ) →
      class_of_body p b ≡ Some c →
      slice_get forest.nodes b ≡ Some (Constructor position name flags parameters (Some call) inner) → (at : Position)
      (arguments : List ℕ) → slice_get forest.nodes call ≡ Some (SuperCall at arguments) →
      binding_at_node p call ≡ ClassNamed superclass → superclass_in p.classes c ≡ Some superclass
  unfolding binding_of
  up_of_call b c call superclass position name flags parameters inner class there at arguments is e =
      sym (ap (λ (o : Option ℕ). o >>= superclass_in p.classes)
      (call_stands b c call position name flags parameters inner class there))
      ∙ named_up ((context p call).class >>= superclass_in p.classes) superclass
      (sym (binding_is forest a.is_accepted a.whole sorted call (SuperCall at arguments) is) ∙ e)

  up_of_class : (c node superclass : ℕ) → OnWay forest a c → class_node p c ≡ Some node →
      binding_at_node p node ≡ ClassNamed superclass → superclass_in p.classes c ≡ Some superclass
  unfolding binding_of
  up_of_class c node superclass way is e =
      (let w = is_written c way in
      let n = w.user.node in
      let same : w.written.node ≡ node = some_inj w.written.node node (sym (class_there c w) ∙ is) in
      let named = name_denotes forest a.whole a.is_accepted sorted c w.row w.written w.is_row w.is in
      ap (λ (o : Option ℕ). o >>= superclass_in p.classes) (sym named)
      ∙ named_up _ superclass
      (sym (binding_is forest a.is_accepted a.whole sorted w.written.node
      (Class n.position w.written.name n.flags n.header w.written.members) n.is_there)
      ∙ (ap (binding_at_node p) same ∙ e)))

  pub on_the_way : OnTheWay (code_of forest) (OnWay forest a)
  unfolding code_of declarations_of
  on_the_way = record {
    node = λ class b node way is there. node_of class b node way is there;
    empty = λ class way e. none class way e;
    class_there = λ class way. ((is_written class way).written.node, class_there class (is_written class way));
    written = λ b c call superclass position name flags parameters inner way class there at arguments is e.
        goes_on forest a c superclass way
        (up_of_call b c call superclass position name flags parameters inner class there at arguments is e);
    unwritten = λ c node superclass way is e. goes_on forest a c superclass way (up_of_class c node superclass way is e);
  }
    where
      none : (class : ℕ) → OnWay forest a class → constructor_body p class ≡ Some Empty → ⊥
      none class way e = of (constructor_in p.classes class) (class_node p class) (sym (body_is class way) ∙ e)
        where
          of : (o : Option DeclaredConstructor) (n : Option ℕ) → made o n ≡ Some Empty → ⊥
          of (Some con) n k = cc (k)
          of None (Some n) k = cc (k)
          of None None k = cc (k)
