-- What calls run are bodies of the program.
use Rattle.std.proofs.Common.{◌≡◌, ℕ, ◌+◌, Bool, true, false, ◌==◌, List, [], ◌∷◌, length, Option, Some, None, is_some, option_map, option_and_then, slice_get, if◌then◌else◌, refl, sym, ap, subst, ◌⊎◌, inl, inr}
use Rattle.scj_builtins.specs.Framework.{framework_classes, mission_clean_up, object}
use Rattle.scj_tree.specs.declared.nodes.Node.{Node}
use Rattle.scj_tree.specs.declared.nodes.Node.TheVariants.{Class, Method, Constructor}
use Rattle.scj_tree.specs.Forest.{Forest}
use Rattle.scj_rules.specs.declared.views.Body.{Body}
use Rattle.scj_rules.specs.declared.views.Body.TheVariants.{Written, Empty}
use Rattle.scj_rules.specs.Words.{◌>>=◌}
use Rattle.scj_rules.specs.Views.{DeclaredConstructor, WrittenClass, constructor_at, constructor_of, method_of}
use Rattle.scj_rules.specs.Classes.{ClassRow, FoundMethod, framework_rows_from, method_named, user_row}
use Rattle.scj_rules.specs.Contexts.{Declarations, declarations_of}
use Rattle.scj_rules.specs.Types.{constructor_in}
use Rattle.scj_rules.specs.Bodies.{body_named, body_of, body_of_method, class_node, constructor_body, invoked_method, method_name}
use Rattle.accepted_laws.specs.Overriding.{IsUserMethod}
use Rattle.accepted_laws.specs.Programs.{IsAcceptedProgram}
use Rattle.accepted_laws.specs.Sorts.{IsWellSorted, Of}
use Rattle.accepted_laws.proofs.ClassNumbers.{user_class_is}
use Rattle.accepted_laws.proofs.ClassSorts.{well_sorted}
use Rattle.accepted_laws.proofs.Dispatch.{on_superclass, user_method}
use Rattle.accepted_laws.proofs.Fields.{In, here}
use Rattle.accepted_laws.proofs.Interfaces.{mapped_in, row_is}
use Rattle.accepted_laws.proofs.Rows.{IsFrameworkRow, IsUserRow}
use Rattle.accepted_laws.proofs.Tools.{some_inj}
use Rattle.op_list.specs.Listed.{is_body, IsBodyAmong}

-- ---- nodes that name bodies

method_is_body : (nodes : List Node) (id : ℕ) (node : Option Node) → slice_get nodes id ≡ node →
    is_some (option_and_then (method_of nodes id) node) ≡ true → Of is_body nodes id
unfolding method_of is_body
method_is_body nodes id None stands e = absurd (cc (e))
method_is_body nodes id (Some (Method position name flags result_type parameters body)) stands e =
    record { node = Method position name flags result_type parameters body; is_there = stands; passes = refl }
method_is_body nodes id (Some _) stands e = absurd (cc (e))

constructor_is_body : (nodes : List Node) (id : ℕ) (node : Option Node) (c : DeclaredConstructor) →
    slice_get nodes id ≡ node → option_and_then (constructor_of nodes id) node ≡ Some c → Of is_body nodes c.node
unfolding constructor_of is_body
constructor_is_body nodes id None c stands e = absurd (cc (e))
constructor_is_body nodes id (Some (Constructor position name flags parameters super_call body)) c stands e =
    let number : id ≡ c.node = ap (λ (c : DeclaredConstructor). c.node) (some_inj _ c e) in
    subst (Of is_body nodes) number
    (record { node = Constructor position name flags parameters super_call body; is_there = stands; passes = refl })
constructor_is_body nodes id (Some _) c stands e = absurd (cc (e))

module _ (forest : Forest) (accepted : IsAcceptedProgram forest) where
  abbrev p : Declarations
  p = declarations_of forest

  abbrev Among : Body → Type 0
  Among = IsBodyAmong p.nodes

  sorted : IsWellSorted forest.nodes
  sorted = well_sorted forest accepted.is_read

  -- ---- methods

  user_is_body : (f : FoundMethod) → IsUserMethod p f → Among (Written f.method.declared.node)
  unfolding IsBodyAmong
  user_is_body f u =
      method_is_body p.nodes f.method.declared.node (slice_get p.nodes f.method.declared.node) refl (ap is_some u.is_there)

  found_among : (class : ℕ) (name : List ℕ) (f : FoundMethod) (body : Body) →
      method_named p.classes class name ≡ Some f → body_of_method f ≡ Some body → Among body
  unfolding body_of_method IsBodyAmong
  found_among class name f body at e = go f.method.builtin refl e
    where
      framework : (b : Bool) → (if b then Some Empty else None) ≡ Some body → Among body
      framework true e = subst Among (some_inj _ body e) tt
      framework false e = absurd (cc (e))

      go : (o : Option ℕ) → f.method.builtin ≡ o →
          (elim o as (λ _. Option Body) [
            | None ↦ Some (Written f.method.declared.node)
            | Some method ↦ if method == mission_clean_up then Some Empty else None
          ]) ≡ Some body → Among body
      go None none e =
          let on = on_superclass forest accepted.is_accepted accepted.whole sorted class name f at (ap is_some none) in
          let user = user_method forest accepted.is_accepted accepted.whole sorted on.0 name f on.2 (ap is_some none) in
          subst Among (some_inj _ body e) (user_is_body f user)
      go (Some method) some e = framework (method == mission_clean_up) e

  -- what a class has for a name
  pub named_among : (class : ℕ) (name : List ℕ) (body : Body) → body_named p class name ≡ Some body → Among body
  unfolding body_named
  named_among class name body e = go (method_named p.classes class name) refl e
    where
      go : (o : Option FoundMethod) → method_named p.classes class name ≡ o → (o >>= body_of_method) ≡ Some body →
          Among body
      go None at e = absurd (cc (e))
      go (Some f) at e = found_among class name f body at e

  -- what a call of a method runs
  pub called_among : (class method : ℕ) (body : Body) → body_of p class method ≡ Some body → Among body
  unfolding body_of invoked_method body_named
  called_among class method body e = go (method_name p method) e
    where
      go : (o : Option (List ℕ)) → (o >>= method_named p.classes class >>= body_of_method) ≡ Some body → Among body
      go None e = absurd (cc (e))
      go (Some name) e = named_among class name body e

  -- ---- constructors

  in_row : (class : ℕ) (row : ClassRow) (c : DeclaredConstructor) → slice_get p.classes class ≡ Some row →
      In c row.constructors → Of is_body p.nodes c.node
  unfolding user_row
  in_row class row c there_ among = go (row_is forest accepted.is_accepted class row there_)
    where
      go : IsFrameworkRow class row
          ⊎ ((j : ℕ) × (class ≡ length (framework_rows_from 0 framework_classes) + j) × IsUserRow p.nodes p.users j row) →
          Of is_body p.nodes c.node
      go (inl k) = elim (subst (In c) k.constructs_nothing among) [ ]
      go (inr u) =
          let at = mapped_in (constructor_at p.nodes) c u.2.class.members
          (subst (In c) (ap (λ (r : ClassRow). r.constructors) u.2.is) among) in
          constructor_is_body p.nodes at.0 (slice_get p.nodes at.0) c refl at.2

  written_among : (class : ℕ) (c : DeclaredConstructor) → constructor_in p.classes class ≡ Some c →
      Of is_body p.nodes c.node
  unfolding constructor_in
  written_among class c e = go (slice_get p.classes class) refl e
    where
      first : (row : ClassRow) → slice_get p.classes class ≡ Some row → (cs : List DeclaredConstructor) →
          row.constructors ≡ cs → (elim cs as (λ _. Option DeclaredConstructor) [ [] ↦ None | d ∷ ds ↦ Some d ]) ≡ Some c →
          Of is_body p.nodes c.node
      first row there_ [] is e = absurd (cc (e))
      first row there_ (d ∷ ds) is e =
          in_row class row c there_
          (subst (In c) (sym is) (subst (λ (d : DeclaredConstructor). In c (d ∷ ds)) (sym (some_inj d c e)) here))

      go : (o : Option ClassRow) → slice_get p.classes class ≡ o →
          (o >>= (λ (row : ClassRow). elim row.constructors as (λ _. Option DeclaredConstructor) [
            | [] ↦ None
            | d ∷ ds ↦ Some d
          ])) ≡ Some c → Of is_body p.nodes c.node
      go None there_ e = absurd (cc (e))
      go (Some row) there_ e = first row there_ row.constructors refl e

  class_among : (class node : ℕ) → class_node p class ≡ Some node → Of is_body p.nodes node
  unfolding is_body declarations_of
  class_among class node e = go (slice_get p.classes class) refl e
    where
      written : (row : ClassRow) → slice_get p.classes class ≡ Some row → (o : Option WrittenClass) → row.written ≡ o →
          option_map (λ (c : WrittenClass). c.node) o ≡ Some node → Of is_body p.nodes node
      written row there_ None is e = absurd (cc (e))
      written row there_ (Some c) is e =
          let user = user_class_is forest accepted.whole accepted.is_accepted sorted class row c there_ is in
          subst (Of is_body p.nodes) (some_inj c.node node e)
          (record {
            node = Class user.node.position c.name user.node.flags user.node.header c.members;
            is_there = user.node.is_there;
            passes = refl;
          })

      go : (o : Option ClassRow) → slice_get p.classes class ≡ o →
          option_map (λ (c : WrittenClass). c.node) (o >>= (λ (row : ClassRow). row.written)) ≡ Some node →
          Of is_body p.nodes node
      go None there_ e = absurd (cc (e))
      go (Some row) there_ e = written row there_ row.written refl e

  -- what `new` runs
  pub constructor_among : (class : ℕ) (body : Body) → constructor_body p class ≡ Some body → Among body
  unfolding constructor_body IsBodyAmong
  constructor_among class body e = go (class == object) (constructor_in p.classes class) refl e
    where
      unwritten : (o : Option ℕ) → class_node p class ≡ o → option_map (λ node. Written node) o ≡ Some body → Among body
      unwritten None is e = absurd (cc (e))
      unwritten (Some node) is e = subst Among (some_inj _ body e) (class_among class node is)

      go : (b : Bool) (o : Option DeclaredConstructor) → constructor_in p.classes class ≡ o →
          (if b then Some Empty
          else (elim o as (λ _. Option Body) [
            | Some c ↦ Some (Written c.node)
            | None ↦ option_map (λ node. Written node) (class_node p class)
          ])) ≡ Some body → Among body
      go true o is e = subst Among (some_inj _ body e) tt
      go false (Some c) is e = subst Among (some_inj _ body e) (written_among class c is)
      go false None is e = unwritten (class_node p class) refl e
