-- The classes of a program and their fields stand at nodes of it; so a concrete class of the framework's kinds has a
-- place in the sources.
use Rattle.std.proofs.Common.{◌≡◌, ℕ, zero, suc, Bool, true, false, not, List, [], ◌∷◌, Option, Some, None, if◌then◌else◌, ◌⊎◌, inl, inr, refl, sym, ap, ◌∙◌, subst}
use Rattle.std.specs.Prelude.{filter, filter_map, is_some, option_map, slice_get}
use Rattle.std.specs.List.{cons_option}
use Rattle.accepted_laws.proofs.Tools.{some_inj}
use Rattle.accepted_laws.proofs.Rows.{IsFrameworkRow, IsUserRow, counted_is_written, row_of}
use Rattle.scj_tree.specs.Forest.{Forest}
use Rattle.scj_tree.specs.Shape.{position_of}
use Rattle.scj_tree.specs.declared.nodes.Node.{Node}
use Rattle.scj_tree.specs.declared.nodes.Node.TheVariants as node
use Rattle.scj_rules.specs.declared.views.Declared.{Declared}
use Rattle.scj_rules.specs.Bodies.{class_node}
use Rattle.scj_rules.specs.Classes.{ClassRow, class_nodes, own_instance_fields, user_classes, user_row}
use Rattle.scj_rules.specs.Contexts.{Declarations, declarations_of}
use Rattle.scj_rules.specs.Layout.{field_literal, fields_with_literal}
use Rattle.scj_rules.specs.Phases.{IsAccepted}
use Rattle.scj_rules.specs.Views.{WrittenClass, class_at, class_of, field_at, field_of}
use Rattle.scj_rules.specs.Words.{◌>>=◌}
use Rattle.audited_runs.proofs.proper.Nodes.{AllDeclared, Stands}

-- ---- lists

record ComesFrom {A B : Type 0} (f : A → Option B) (y : B) : Type 0 where
  x : A
  is : f x ≡ Some y

mapped_at : {A B : Type 0} (f : A → Option B) (xs : List A) (j : ℕ) (y : B) → slice_get (filter_map f xs) j ≡ Some y →
    ComesFrom f y
mapped_at f [] j y e = absurd (cc (e))
mapped_at {A} {B} f (x ∷ xs) j y e = go (f x) refl j e (λ i g. mapped_at f xs i y g)
  where
    go : (o : Option B) → f x ≡ o → (j : ℕ) → slice_get (cons_option o (filter_map f xs)) j ≡ Some y →
        ((i : ℕ) → slice_get (filter_map f xs) i ≡ Some y → ComesFrom f y) → ComesFrom f y
    go None g j e more = more j e
    go (Some z) g zero e more = record { x = x; is = g ∙ ap (λ (o : Option B). o) e }
    go (Some z) g (suc j) e more = more j e

-- ---- nodes of classes and fields

pub record IsAt (nodes : List Node) (c : WrittenClass) : Type 0 where
  pub node : Node
  pub there : slice_get nodes c.node ≡ Some node
  pub placed : position_of node ≡ c.position

class_stands : (nodes : List Node) (id : ℕ) (c : WrittenClass) → class_at nodes id ≡ Some c → IsAt nodes c
unfolding class_of position_of
class_stands nodes id c e = go (slice_get nodes id) refl e
  where
    go : (o : Option Node) → slice_get nodes id ≡ o → (o >>= class_of nodes id) ≡ Some c → IsAt nodes c
    go None f g = absurd (cc (g))
    go (Some (node.Class place name flags header members)) f g =
        subst (λ (d : WrittenClass). IsAt nodes d) (some_inj _ c g)
        (record { node = node.Class place name flags header members; there = f; placed = refl })
    go (Some _) f g = absurd (cc (g))

field_stands : (nodes : List Node) (id : ℕ) (d : Declared) → field_at nodes id ≡ Some d → Stands nodes d.node
unfolding field_of
field_stands nodes id d e = go (slice_get nodes id) refl e
  where
    go : (o : Option Node) → slice_get nodes id ≡ o → (o >>= field_of nodes id) ≡ Some d → Stands nodes d.node
    go None f g = absurd (cc (g))
    go (Some (node.Field place name flags declared_type equals value)) f g =
        subst (λ (x : Declared). Stands nodes x.node) (some_inj _ d g) (ap is_some f)
    go (Some _) f g = absurd (cc (g))

fields_stand : (nodes : List Node) (ids : List ℕ) → AllDeclared nodes (filter_map (field_at nodes) ids)
fields_stand nodes [] = tt
fields_stand nodes (id ∷ ids) = go (field_at nodes id) refl (fields_stand nodes ids)
  where
    go : (o : Option Declared) → field_at nodes id ≡ o → AllDeclared nodes (filter_map (field_at nodes) ids) →
        AllDeclared nodes (cons_option o (filter_map (field_at nodes) ids))
    go None e more = more
    go (Some d) e more = (field_stands nodes id d e, more)

filtered_stand : (nodes : List Node) (test : Declared → Bool) (fs : List Declared) → AllDeclared nodes fs →
    AllDeclared nodes (filter test fs)
filtered_stand nodes test [] h = tt
filtered_stand nodes test (f ∷ fs) h = go (test f) (filtered_stand nodes test fs h.1)
  where
    go : (b : Bool) → AllDeclared nodes (filter test fs) →
        AllDeclared nodes (if b then f ∷ filter test fs else filter test fs)
    go true more = (h.0, more)
    go false more = more

-- ---- rows

module _ (forest : Forest) (accepted : IsAccepted forest) where
  abbrev p : Declarations
  p = declarations_of forest

  abbrev IsRow : ℕ → ClassRow → Type 0
  IsRow class row = IsFrameworkRow class row ⊎ ((j : ℕ) × IsUserRow forest.nodes (user_classes forest) j row)

  row_cases : (class : ℕ) (row : ClassRow) → slice_get p.classes class ≡ Some row → IsRow class row
  unfolding declarations_of
  row_cases class row e =
      elim (row_of forest.nodes (user_classes forest) class row
      (ap (λ rows. slice_get rows class) (sym (counted_is_written forest accepted)) ∙ e)) as (λ _. IsRow class row)
      [ inl h ↦ inl h | inr h ↦ inr (h.0, h.2) ]

  written_is : (row : ClassRow) (j : ℕ) → IsUserRow forest.nodes (user_classes forest) j row → (c : WrittenClass) →
      row.written ≡ Some c → IsAt forest.nodes c
  unfolding user_row user_classes
  written_is row j u c e =
      let same : u.class ≡ c = some_inj u.class c (sym (ap (λ (r : ClassRow). r.written) u.is) ∙ e) in
      let k : ComesFrom (class_at forest.nodes) u.class =
      mapped_at (class_at forest.nodes) (class_nodes forest) j u.class u.is_there in
      subst (λ (d : WrittenClass). IsAt forest.nodes d) same (class_stands forest.nodes k.x u.class k.is)

  pub written_at : (class : ℕ) (row : ClassRow) (c : WrittenClass) → slice_get p.classes class ≡ Some row →
      row.written ≡ Some c → IsAt forest.nodes c
  written_at class row c e w = by (row_cases class row e)
    where
      by : IsRow class row → IsAt forest.nodes c
      by (inl h) = absurd (let n = h.unwritten in cc (n, w))
      by (inr h) = written_is row h.0 h.1 c w

  pub class_nodes_stand : (class id : ℕ) → class_node p class ≡ Some id → Stands forest.nodes id
  class_nodes_stand class id e = go (slice_get p.classes class) refl e
    where
      of_row : (row : ClassRow) → slice_get p.classes class ≡ Some row → (o : Option WrittenClass) → row.written ≡ o →
          option_map (λ (c : WrittenClass). c.node) o ≡ Some id → Stands forest.nodes id
      of_row row f None w g = absurd (cc (g))
      of_row row f (Some c) w g =
          let k : IsAt forest.nodes c = written_at class row c f w in
          subst (Stands forest.nodes) (some_inj c.node id g) (ap is_some k.there)

      go : (o : Option ClassRow) → slice_get p.classes class ≡ o →
          option_map (λ (c : WrittenClass). c.node) (o >>= (λ (row : ClassRow). row.written)) ≡ Some id →
          Stands forest.nodes id
      go None f g = absurd (cc (g))
      go (Some row) f g = of_row row f row.written refl g

  row_fields : (class : ℕ) (row : ClassRow) → IsRow class row → AllDeclared forest.nodes row.fields
  unfolding user_row
  row_fields class row (inl h) = subst (AllDeclared forest.nodes) (sym h.declares_nothing) tt
  row_fields class row (inr h) =
      subst (λ (r : ClassRow). AllDeclared forest.nodes r.fields) (sym h.1.is)
      (fields_stand forest.nodes h.1.class.members)

  pub literals_stand : (class : ℕ) → AllDeclared forest.nodes (fields_with_literal p class)
  unfolding fields_with_literal own_instance_fields
  literals_stand class =
      filtered_stand forest.nodes (λ f. is_some (field_literal p f)) (own_instance_fields p.classes class)
      (go (slice_get p.classes class) refl)
    where
      go : (o : Option ClassRow) → slice_get p.classes class ≡ o →
          AllDeclared forest.nodes (elim o as (λ _. List Declared) [
            | None ↦ []
            | Some row ↦ filter (λ (f : Declared). not f.modifiers.is_static) row.fields
          ])
      go None e = tt
      go (Some row) e =
          filtered_stand forest.nodes (λ (f : Declared). not f.modifiers.is_static) row.fields
          (row_fields class row (row_cases class row e))
