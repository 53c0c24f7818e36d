-- In an accepted program no constructor is synchronized: C11 is broken at one that is.
use Rattle.std.proofs.Common.{◌≡◌, ℕ, zero, suc, Bool, true, false, not, ◌||◌, List, [], ◌∷◌, inl, inr, Option, Some, None, if◌then◌else◌, refl, sym, ap, ◌∙◌, subst}
use Rattle.std.specs.Prelude.{slice_get, filter_map, option_map, is_some, ◌==◌}
use Rattle.scj_base.specs.declared.findings.Rule.TheVariants.{C11}
use Rattle.scj_builtins.specs.Framework.{object}
use Rattle.scj_tree.specs.declared.nodes.Node.{Node}
use Rattle.scj_tree.specs.declared.nodes.Node.TheVariants.{Class, Constructor}
use Rattle.scj_tree.specs.Forest.{Forest}
use Rattle.scj_rules.specs.declared.views.Body.{Body}
use Rattle.scj_rules.specs.declared.views.Body.TheVariants.{Written as written, Empty as empty}
use Rattle.scj_rules.specs.declared.views.Modifiers.{Modifiers}
use Rattle.scj_rules.specs.Words.{holds, ◌>>=◌}
use Rattle.scj_rules.specs.Definitions.{read}
use Rattle.scj_rules.specs.Views.{WrittenClass, DeclaredConstructor, class_of, class_at, constructor_of, constructor_at, modifiers_at}
use Rattle.scj_rules.specs.Classes.{ClassRow, class_nodes, user_classes, user_row}
use Rattle.scj_rules.specs.Contexts.{Declarations, declarations_of, member_flags}
use Rattle.scj_rules.specs.ClassRules.{c9, c11, node_breaks, has_class_words, has_method_words, is_misplaced_on_constructor, is_named_as_class}
use Rattle.scj_rules.specs.ScopeRules.{user_class_in}
use Rattle.scj_rules.specs.Types.{constructor_in}
use Rattle.scj_rules.specs.Bodies.{class_node, constructor_body, is_synchronized_body}
use Rattle.scj_rules.specs.Phases.{IsAccepted}
use Rattle.accepted_laws.proofs.Breaks.{both_empty, right, no_break_at_node}
use Rattle.accepted_laws.proofs.Fields.{In, here, there}
use Rattle.accepted_laws.proofs.Interfaces.{row_is, mapped_in}
use Rattle.accepted_laws.proofs.Tools.{some_inj}
use Rattle.scj_model.specs.Code.{code_of}
use Rattle.priority_laws.specs.Premises.{is_synchronized, ConstructorsEnterNothing}

-- ---- tests

-- a constructor that no word is misplaced on
not_last : (a b c d e f : Bool) → (a || b || c || d || e || f) ≡ false → b ≡ false
not_last a true c d e f h = absurd (first a h)
  where
    first : (a : Bool) → (a || true || c || d || e || f) ≡ false → ⊥
    first true h = cc (h)
    first false h = cc (h)
not_last a false c d e f h = refl

last_false : (a b : Bool) → (a || b) ≡ false → b ≡ false
last_false true b h = absurd (cc (h))
last_false false b h = h

got : {A : Type 0} (xs : List A) (j : ℕ) (x : A) → slice_get xs j ≡ Some x → In x xs
got [] j x e = absurd (cc (e))
got (y ∷ xs) zero x e = subst (λ z. In z (y ∷ xs)) (some_inj y x e) here
got (y ∷ xs) (suc j) x e = there (got xs j x e)

pub found : {A B : Type 0} (o : Option A) (f : A → Option B) (b : B) → (o >>= f) ≡ Some b → (a : A) × (o ≡ Some a) ×
    (f a ≡ Some b)
found None f b e = absurd (cc (e))
found (Some a) f b e = (a, refl, e)

module _ (forest : Forest) (accepted : IsAccepted forest) where
  abbrev p : Declarations
  p = declarations_of forest

  -- ---- written constructors

  at_constructor : (id : ℕ) (node : Node) (c : DeclaredConstructor) → slice_get p.nodes id ≡ Some node →
      constructor_of p.nodes id node ≡ Some c → is_synchronized_body p c.node ≡ false
  unfolding constructor_of is_synchronized_body node_breaks c11 member_flags
  at_constructor id (Constructor position name flags parameters super_call body) c stands e =
      let m : Modifiers = modifiers_at p.nodes flags in
      let n = no_break_at_node forest accepted id (Constructor position name flags parameters super_call body) stands in
      let broken_not =
      (both_empty (c9 p (Constructor position name flags parameters super_call body))
      (c11 p id (Constructor position name flags parameters super_call body)) n.no_class_rule).1 in
      let test : is_misplaced_on_constructor p id name m ≡ false =
      right (is_misplaced_on_constructor p id name m) C11 position broken_not in
      let words : (is_some m.runs_in || m.is_synchronized) ≡ false =
      not_last (has_class_words m) (has_method_words m) m.is_static m.is_abstract (is_some m.scope)
      (not (is_named_as_class p id name)) test in
      let plain : m.is_synchronized ≡ false = last_false (is_some m.runs_in) m.is_synchronized words in
      let same : c.node ≡ id = ap (λ (x : DeclaredConstructor). x.node) (sym (some_inj _ c e)) in
      ap (λ i. holds (read p.nodes member_flags i) (λ flags. (modifiers_at p.nodes flags).is_synchronized)) same
      ∙ (ap (λ (o : Option Node). holds (o >>= member_flags) (λ flags. (modifiers_at p.nodes flags).is_synchronized))
      stands ∙ plain)
  at_constructor id _ c stands e = absurd (cc (e))

  head_in : (cs : List DeclaredConstructor) (c : DeclaredConstructor) →
      (elim cs as (λ z. Option DeclaredConstructor) [ [] ↦ None | d ∷ ds ↦ Some d ]) ≡ Some c → In c cs
  head_in [] c e = absurd (cc (e))
  head_in (d ∷ ds) c e = subst (λ x. In x (d ∷ ds)) (some_inj d c e) here

  none_in : {A : Type 0} (c : DeclaredConstructor) → In c [] → A
  none_in c h = elim h [ ]

  written_plain : (class : ℕ) (c : DeclaredConstructor) → constructor_in p.classes class ≡ Some c →
      is_synchronized_body p c.node ≡ false
  unfolding constructor_in user_row
  written_plain class c e =
      let a =
      found (slice_get p.classes class)
      (λ (row : ClassRow). elim row.constructors as (λ z. Option DeclaredConstructor)
      [ [] ↦ None | d ∷ ds ↦ Some d ]) c e in
      let i = head_in a.0.constructors c a.2 in
      elim (row_is forest accepted class a.0 a.1) as (λ z. is_synchronized_body p c.node ≡ false) [
        | inl k ↦ none_in c (subst (In c) k.constructs_nothing i)
        | inr u ↦ user a.0 i u.2.class (ap (λ (r : ClassRow). r.constructors) u.2.is)
      ]
    where
      user : (row : ClassRow) → In c row.constructors → (w : WrittenClass) →
          row.constructors ≡ filter_map (constructor_at p.nodes) w.members → is_synchronized_body p c.node ≡ false
      user row i w e =
          let m = mapped_in (constructor_at p.nodes) c w.members (subst (In c) e i) in
          let n = found (slice_get p.nodes m.0) (constructor_of p.nodes m.0) c m.2 in
          at_constructor m.0 n.0 c n.1 n.2

  -- ---- classes whose constructor isn't written

  at_class : (id : ℕ) (node : Node) (c : WrittenClass) → slice_get p.nodes id ≡ Some node →
      class_of p.nodes id node ≡ Some c → is_synchronized_body p c.node ≡ false
  unfolding class_of is_synchronized_body member_flags
  at_class id (Class position name flags header members) c stands e =
      let same : c.node ≡ id = ap (λ (x : WrittenClass). x.node) (sym (some_inj _ c e)) in
      ap (λ i. holds (read p.nodes member_flags i) (λ flags. (modifiers_at p.nodes flags).is_synchronized)) same
      ∙ ap (λ (o : Option Node). holds (o >>= member_flags) (λ flags. (modifiers_at p.nodes flags).is_synchronized))
      stands
  at_class id _ c stands e = absurd (cc (e))

  class_plain : (class : ℕ) (c : WrittenClass) → user_class_in p.classes class ≡ Some c →
      is_synchronized_body p c.node ≡ false
  unfolding user_row user_classes declarations_of
  class_plain class c e =
      let a = found (slice_get p.classes class) (λ (row : ClassRow). row.written) c e in
      elim (row_is forest accepted class a.0 a.1) as (λ z. is_synchronized_body p c.node ≡ false) [
        | inl k ↦ absurd (cc (a.2, k.unwritten))
        | inr u ↦ user u.2.class (got (user_classes forest) u.0 u.2.class u.2.is_there)
            (some_inj u.2.class c (sym (ap (λ (r : ClassRow). r.written) u.2.is) ∙ a.2))
      ]
    where
      user : (w : WrittenClass) → In w (user_classes forest) → w ≡ c → is_synchronized_body p c.node ≡ false
      user w i same =
          let m = mapped_in (class_at p.nodes) w (class_nodes forest) i in
          let n = found (slice_get p.nodes m.0) (class_of p.nodes m.0) w m.2 in
          subst (λ (x : WrittenClass). is_synchronized_body p x.node ≡ false) same (at_class m.0 n.0 w n.1 n.2)

  -- ---- both

  pub constructors_plain : ConstructorsEnterNothing (code_of forest)
  unfolding code_of constructor_body
  constructors_plain = record { is = λ class body e. go class body (class == object) e }
    where
      by : (class : ℕ) (body : Body) (o : Option DeclaredConstructor) → constructor_in p.classes class ≡ o →
          (elim o as (λ z. Option Body)
          [ Some c ↦ Some (written c.node) | None ↦ option_map (λ node. written node) (class_node p class) ])
          ≡ Some body → is_synchronized (code_of forest) body ≡ false
      by class body (Some c) is e =
          subst (λ b. is_synchronized (code_of forest) b ≡ false) (some_inj (written c.node) body e)
          (written_plain class c is)
      by class body None is e = node (user_class_in p.classes class) refl e
        where
          node : (o : Option WrittenClass) → user_class_in p.classes class ≡ o →
              option_map (λ node. written node) (option_map (λ (c : WrittenClass). c.node) o) ≡ Some body →
              is_synchronized (code_of forest) body ≡ false
          node None k e = absurd (cc (e))
          node (Some c) k e =
              subst (λ b. is_synchronized (code_of forest) b ≡ false) (some_inj (written c.node) body e)
              (class_plain class c k)

      go : (class : ℕ) (body : Body) (t : Bool) →
          (if t then Some empty else (elim (constructor_in p.classes class) as (λ z. Option Body)
          [ Some c ↦ Some (written c.node) | None ↦ option_map (λ node. written node) (class_node p class) ]))
          ≡ Some body → is_synchronized (code_of forest) body ≡ false
      go class body true e = subst (λ b. is_synchronized (code_of forest) b ≡ false) (some_inj empty body e) refl
      go class body false e = by class body (constructor_in p.classes class) refl e
