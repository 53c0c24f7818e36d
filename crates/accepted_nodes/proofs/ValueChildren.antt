-- The children of an expression that stand for values: they stand in the same body, and are no names of classes and no
-- parts of a form.
use Rattle.std.proofs.Common.{◌≡◌, ℕ, ◌+◌, ◌≤◌, List, ◌∷◌, refl, sym, ap, ◌∙◌, subst, arith, Option, Some, None, Bool, true, false, true≢false, option_and_then, slice_get, if◌then◌else◌, ◌==◌}
use Rattle.scj_tree.specs.declared.nodes.Node.{Node}
use Rattle.scj_tree.specs.declared.nodes.Node.TheVariants.{Class, Field, Method, Constructor, SimpleName}
use Rattle.scj_tree.specs.Counts.{times}
use Rattle.scj_tree.specs.Forest.{Forest, IsForest}
use Rattle.scj_tree.specs.Shape.{children}
use Rattle.scj_rules.specs.declared.typing.FoundField.{FoundField}
use Rattle.scj_rules.specs.declared.typing.Meaning.{Meaning}
use Rattle.scj_rules.specs.declared.typing.Meaning.TheVariants.{Class as a_class, Field as a_field, Nothing as nothing, Variable as a_variable}
use Rattle.scj_rules.specs.Words.{is_among, holds}
use Rattle.scj_rules.specs.Classes.{field_named, class_number}
use Rattle.scj_rules.specs.Contexts.{Declarations, declarations_of, context, child_context, object_of, is_member, variable_named}
use Rattle.scj_rules.specs.Types.{meaning, class_meaning, class_in, class_at_name}
use Rattle.scj_rules.specs.Phases.{IsAccepted}
use Rattle.scj_rules.proofs.ChainLemmas.{same_number, is_same_number}
use Rattle.scj_rules.proofs.ParentLemmas.{children_apart, times-among}
use Rattle.accepted_laws.specs.Judgements.{Inside, IsValue}
use Rattle.accepted_laws.specs.Sorts.{Of, is_argument}
use Rattle.accepted_laws.proofs.ClassNumbers.{no_class_number}
use Rattle.accepted_laws.proofs.Contexts.{child_context_is, inside_same}
use Rattle.accepted_nodes.proofs.FormParts.{takes_parts, no_part}
use Rattle.accepted_laws.proofs.InnerNodes.{is_inner, inner_no_class}

pub inner_no_member : (n : Node) → is_inner n ≡ true → is_member n ≡ false
unfolding is_inner is_member
inner_no_member (Class position name flags header members) e = refl
inner_no_member (Field position name flags declared_type equals value) e = absurd (true≢false (sym e))
inner_no_member (Method position name flags result_type parameters body) e = absurd (true≢false (sym e))
inner_no_member (Constructor position name flags parameters super_call body) e = absurd (true≢false (sym e))
inner_no_member _ e = refl

-- a name that doesn't stand before a dot denotes no class
pub no_class_name : (p : Declarations) (x : ℕ) (child : Node) → (context p x).before_dot ≡ false → class_at_name p x child ≡ None
unfolding class_at_name class_in meaning class_meaning
no_class_name p x (SimpleName position name) e = go (variable_named p x name) (option_and_then (λ class. field_named p.classes class name) (context p x).class)
  where
    go : (v : Option ℕ) (f : Option FoundField)
        → class_in (elim v as (λ _. Meaning) [ Some v ↦ a_variable v | None ↦ elim f as (λ _. Meaning) [ Some f ↦ a_field f | None ↦ if (context p x).before_dot then (elim (class_number p.names name) as (λ _. Meaning) [ None ↦ nothing | Some class ↦ a_class class ]) else nothing ] ]) ≡ None
    go (Some v) f = refl
    go None (Some f) = refl
    go None None = ap (λ t. class_in (if t then (elim (class_number p.names name) as (λ _. Meaning) [ None ↦ nothing | Some class ↦ a_class class ]) else nothing)) e
no_class_name p x _ e = refl

module _ (forest : Forest) (whole : IsForest forest) (accepted : IsAccepted forest) where
  abbrev p : Declarations
  p = declarations_of forest

  -- a child of what is no class and no member stands where its parent does
  pub inside_child : (b c k x : ℕ) (node child : Node) → Inside p b c k → slice_get forest.nodes k ≡ Some node → is_inner node ≡ true → is_among x (children node) ≡ true → slice_get forest.nodes x ≡ Some child → Inside p b c x
  unfolding declarations_of
  inside_child b c k x node child inside there inner among is =
      let q = inside_same forest whole k x node there among (inner_no_member node inner) (no_class_number forest whole k node there (inner_no_class node inner)) b c inside.class inside.member in
      record { here = (child, is); class = q.0; member = q.1 }

  pub value_child : (k x : ℕ) (node : Node) → slice_get forest.nodes k ≡ Some node → is_among x (children node) ≡ true → (o : Of is_argument forest.nodes x) → holds (object_of node) (λ object. object == x) ≡ false → takes_parts p k node ≡ false → IsValue p x o.node
  unfolding child_context
  value_child k x node there among o plain takes =
      record {
        is_argument = o.passes;
        no_class = no_class_name p x o.node (ap (λ c. c.before_dot) (child_context_is forest whole k x node there among) ∙ plain);
        no_form_part = no_part forest whole accepted k x node there among takes;
      }

  -- a child stands once among the children: behind the first it is another
  pub not_first : (k x y : ℕ) (node : Node) (ids : List ℕ) → slice_get forest.nodes k ≡ Some node → children node ≡ y ∷ ids → is_among x ids ≡ true → (y == x) ≡ false
  unfolding times
  not_first k x y node ids there are among = go (y == x) refl
    where
      go : (t : Bool) → (y == x) ≡ t → (y == x) ≡ false
      go false e = e
      go true e =
          let once : times x (y ∷ ids) ≤ 1 = subst (λ ids. times x ids ≤ 1) are (children_apart forest whole k node there x) in
          let first : (x == y) ≡ true = (let s : y ≡ x = same_number y x e in is_same_number x y (sym s)) in
          let counted : (if true then 1 else 0) + times x ids ≤ 1 = subst (λ t. (if t then 1 else 0) + times x ids ≤ 1) first once in
          absurd (let l = times-among x ids among in omega (arith, l, counted))
