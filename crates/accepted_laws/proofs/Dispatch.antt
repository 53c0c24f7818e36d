-- Dispatch in an accepted program: what a class has for a user's method of a class above it is that method, or a method
-- that overrides it rightly.
use Rattle.std.proofs.Common.{◌≡◌, ℕ, ◌+◌, ◌<◌, ◌≤◌, zero, suc, List, [], ◌∷◌, ◌++◌, length, find, refl, sym, ap, ◌∙◌, subst, arith, Option, Some, None, Bool, true, false, not, true≢false, slice_get, ◌==◌, option_and_then, option_map, is_some, ◌⊎◌, inl, inr, nat_lt}
use Rattle.std.proofs.lemmas.Bool.Decides.{nat_tests}
use Rattle.std.proofs.lemmas.Option.{slice_get_within}
use Rattle.scj_base.specs.Bytes.{is_same}
use Rattle.scj_base.specs.declared.findings.Rule.TheVariants.{C6}
use Rattle.scj_builtins.specs.Framework.{framework_classes, object}
use Rattle.scj_tree.specs.declared.nodes.Node.{Node}
use Rattle.scj_tree.specs.declared.nodes.Node.TheVariants.{Method}
use Rattle.scj_tree.specs.Forest.{Forest, IsForest}
use Rattle.scj_rules.specs.Words.{is_among, broken, found_at, holds}
use Rattle.scj_rules.specs.Views.{DeclaredMethod, method_of, method_at}
use Rattle.scj_rules.specs.Classes.{ClassRow, FoundMethod, first_user_class, is_user_class, framework_rows_from, superclass_in, superclasses, own_method, method_named, method_above, user_row}
use Rattle.scj_rules.specs.ClassRules.{c6, overrides_wrongly, is_wrong_override, has_types_of, have_same_types, is_result_of, both_static}
use Rattle.scj_rules.specs.Contexts.{Declarations, declarations_of, context}
use Rattle.scj_rules.specs.AnnotationRules.{a6_of, a7_and_a8_of, a6_to_a8}
use Rattle.scj_rules.specs.Phases.{IsAccepted}
use Rattle.scj_rules.proofs.ChainLemmas.{or_cases, or_right, same_number}
use Rattle.scj_rules.proofs.WithinLemmas.{counted-stays}
use Rattle.accepted_laws.specs.Overriding.{IsUserMethod, OverridesRightly, OverridesInSteps, itself, by_step, Dispatches}
use Rattle.accepted_laws.specs.Sorts.{IsWellSorted}
use Rattle.accepted_laws.proofs.Breaks.{both_empty, right, no_break_at_node}
use Rattle.accepted_laws.proofs.ClassNumbers.{member_class, framework_count}
use Rattle.accepted_laws.proofs.Fields.{In, here, there, in_find, along_in}
use Rattle.accepted_laws.proofs.Interfaces.{row_is, mapped_in, own_of_framework, interfaces_give_framework_methods}
use Rattle.accepted_laws.proofs.Overrides.{on_chain, above_is, named_is, scopes_same}
use Rattle.accepted_laws.proofs.Rows.{IsFrameworkRow, IsUserRow, at_class_unbroken}
use Rattle.accepted_laws.proofs.ClassChains.{acyclic, top_row}
use Rattle.accepted_laws.proofs.ScopesOfClasses.{chain_is, no_annotation_break}
use Rattle.accepted_laws.proofs.Subtypes.{among_in}
use Rattle.accepted_laws.proofs.Tools.{some_inj}
use Rattle.accepted_laws.proofs.MethodNodes.{flat_none, find_passes, and_true, three, not_false, same_bytes, IsMethodNode, method_node}

module _ (forest : Forest) (accepted : IsAccepted forest) where
  abbrev p : Declarations
  p = declarations_of forest

  abbrev next : ℕ → Option ℕ
  next = superclass_in p.classes

  -- the declaration that a class has itself
  pub record OwnDeclaration (class : ℕ) (name : List ℕ) (f : FoundMethod) : Type 0 where
    pub row : ClassRow
    pub is_row : slice_get p.classes class ≡ Some row
    pub among : In f.method row.methods
    pub on : f.on ≡ class
    pub same_name : name ≡ f.method.declared.name

  pub own_declaration : (class : ℕ) (name : List ℕ) (f : FoundMethod) → own_method p.classes name class ≡ Some f → OwnDeclaration class name f
  unfolding own_method
  own_declaration class name f e = go (slice_get p.classes class) refl e
    where
      found : (row : ClassRow) → slice_get p.classes class ≡ Some row → (o : Option DeclaredMethod) → find (λ (m : DeclaredMethod). is_same name m.declared.name) row.methods ≡ o → option_map (λ (m : DeclaredMethod). record { on = class; method = m }) o ≡ Some f → OwnDeclaration class name f
      found row s None h e = absurd (cc (e))
      found row s (Some m) h e =
          let same : m ≡ f.method = ap (λ (f : FoundMethod). f.method) (some_inj _ f e) in
          record {
            row = row;
            is_row = s;
            among = subst (λ z. In z row.methods) same (in_find (λ (m : DeclaredMethod). is_same name m.declared.name) m row.methods h);
            on = sym (ap (λ (f : FoundMethod). f.on) (some_inj _ f e));
            same_name = same_bytes name m.declared.name (find_passes (λ (m : DeclaredMethod). is_same name m.declared.name) m row.methods h) ∙ ap (λ (m : DeclaredMethod). m.declared.name) same;
          }

      go : (o : Option ClassRow) → slice_get p.classes class ≡ o → option_map (λ (m : DeclaredMethod). record { on = class; method = m }) (option_and_then (λ (row : ClassRow). find (λ (m : DeclaredMethod). is_same name m.declared.name) row.methods) o) ≡ Some f → OwnDeclaration class name f
      go None s e = absurd (cc (e))
      go (Some row) s e = found row s _ refl e

  module _ (whole : IsForest forest) (sorted : IsWellSorted forest.nodes) where
    pub written_of : (j : ℕ) (row : ClassRow) → (u : IsUserRow p.nodes p.users j row) → row.written ≡ Some u.class
    unfolding user_row
    written_of j row u = ap (λ (r : ClassRow). r.written) u.is

    -- a method of a user class stands at a member's node
    method_at_member : (class j : ℕ) (row : ClassRow) → slice_get p.classes class ≡ Some row → (u : IsUserRow p.nodes p.users j row) → (m : DeclaredMethod) → In m row.methods
        → (x : ℕ) × IsMethodNode p.nodes x m × ((context p x).class ≡ Some class)
    unfolding user_row
    method_at_member class j row e u m h =
        let q = mapped_in (method_at p.nodes) m u.class.members (subst (In m) (ap (λ (r : ClassRow). r.methods) u.is) h) in
        (q.0, method_node p.nodes q.0 m q.2, member_class forest whole accepted sorted class row u.class e (written_of j row u) q.0 (among_in q.0 u.class.members q.1))

    user_number : (class j : ℕ) → class ≡ first_user_class + j → is_user_class class ≡ true
    user_number class j e = go (nat_lt class first_user_class) refl
      where
        go : (t : Bool) → nat_lt class first_user_class ≡ t → not (nat_lt class first_user_class) ≡ true
        go true s = absurd (let l : class < first_user_class = grind (arith, nat_tests) in omega (arith, l, e))
        go false s = ap not s

    -- what a class declares is a user's method, or the framework's
    pub user_method : (class : ℕ) (name : List ℕ) (f : FoundMethod) → own_method p.classes name class ≡ Some f → is_some f.method.builtin ≡ false → IsUserMethod p f
    user_method class name f e n = go (row_is forest accepted class d.row d.is_row)
      where
        d : OwnDeclaration class name f
        d = own_declaration class name f e

        go : IsFrameworkRow class d.row ⊎ ((j : ℕ) × (class ≡ length (framework_rows_from 0 framework_classes) + j) × IsUserRow p.nodes p.users j d.row) → IsUserMethod p f
        go (inl k) = absurd (true≢false (sym (own_of_framework forest accepted class d.row name f d.is_row k e) ∙ n))
        go (inr u) =
            let q = method_at_member class u.0 d.row d.is_row u.2 f.method d.among in
            let m = q.1 in
            record {
              is_class = subst (λ c. c < length p.classes) (sym d.on) (slice_get_within p.classes class d.row d.is_row);
              on_user_class = user_number f.on u.0 (d.on ∙ u.1 ∙ ap (λ n. n + u.0) framework_count);
              not_builtin = m.not_builtin;
              is_there = ap (method_at p.nodes) m.number ∙ ap (option_and_then (method_of p.nodes q.0)) m.is_there ∙ m.is;
              stands_in_class = ap (λ x. (context p x).class) m.number ∙ q.2 ∙ ap (λ c. Some c) (sym d.on);
            }

    -- the rules on annotations of methods at the node of a method
    pub methods_unbroken : (class id : ℕ) (node : Node) (m : DeclaredMethod) → slice_get p.nodes id ≡ Some node → method_of p.nodes id node ≡ Some m → (context p id).class ≡ Some class → a6_of p class m ++ a7_and_a8_of p class m ≡ []
    unfolding a6_to_a8 method_of
    methods_unbroken class id (Method position name flags result_type parameters body) m stands is c =
        let n = no_break_at_node forest accepted id (Method position name flags result_type parameters body) stands in
        let b = no_annotation_break p id (Method position name flags result_type parameters body) n.no_annotation_rule in
        let at : method_at p.nodes id ≡ Some m = ap (option_and_then (method_of p.nodes id)) stands ∙ is in
        sym (ap (λ (o : Option ℕ). found_at o (λ class. found_at (method_at p.nodes id) (λ (m : DeclaredMethod). a6_of p class m ++ a7_and_a8_of p class m))) c
        ∙ ap (λ (o : Option DeclaredMethod). found_at o (λ (m : DeclaredMethod). a6_of p class m ++ a7_and_a8_of p class m)) at)
        ∙ b.methods
    methods_unbroken class id _ m stands is c = absurd (cc (is))

    -- a method of a class overrides what is above it rightly
    pub overrides_rightly : (class : ℕ) (name : List ℕ) (g f : FoundMethod) → own_method p.classes name class ≡ Some g → is_some g.method.builtin ≡ false → method_above p.classes class name ≡ Some f → OverridesRightly p class g.method f
    unfolding c6 has_types_of
    overrides_rightly class name g f e n up = go (row_is forest accepted class d.row d.is_row)
      where
        d : OwnDeclaration class name g
        d = own_declaration class name g e

        above : method_above p.classes class g.method.declared.name ≡ Some f
        above = ap (method_above p.classes class) (sym d.same_name) ∙ up

        of_user : (j : ℕ) → IsUserRow p.nodes p.users j d.row → OverridesRightly p class g.method f
        of_user j u =
            let q = method_at_member class j d.row d.is_row u g.method d.among in
            let n6 = at_class_unbroken forest accepted class d.row u.class d.is_row (written_of j d.row u) in
            let broken6 : overrides_wrongly p class g.method ≡ false = right (overrides_wrongly p class g.method) C6 g.method.declared.position (flat_none (λ (m : DeclaredMethod). broken (overrides_wrongly p class m) C6 m.declared.position) g.method d.row.methods n6.override_types d.among) in
            let wrong : is_wrong_override p class g.method f.method ≡ false = sym (ap (λ (o : Option FoundMethod). holds o (λ (f : FoundMethod). is_wrong_override p class g.method f.method)) above) ∙ broken6 in
            let all = three (has_types_of p class g.method f.method) (both_static g.method f.method) f.method.overridable (not_false _ wrong) in
            let types = and_true (have_same_types g.method.parameters f.method.parameters) (is_result_of p class g.method.declared.name g.method.declared.declared_type f.method.declared.declared_type) all.0 in
            let m6 = both_empty (a6_of p class g.method) (a7_and_a8_of p class g.method) (methods_unbroken class q.0 q.1.node g.method q.1.is_there q.1.is q.2) in
            record {
              same_parameters = types.0;
              right_result = types.1;
              both_are_static = all.1;
              overridable = all.2;
              same_scopes = λ plain user. scopes_same p (counted-stays forest) (acyclic forest accepted) (interfaces_give_framework_methods forest accepted) class g.method f m6.0 plain above user;
            }

        go : IsFrameworkRow class d.row ⊎ ((j : ℕ) × (class ≡ length (framework_rows_from 0 framework_classes) + j) × IsUserRow p.nodes p.users j d.row) → OverridesRightly p class g.method f
        go (inl k) = absurd (true≢false (sym (own_of_framework forest accepted class d.row name g d.is_row k e) ∙ n))
        go (inr u) = of_user u.0 u.2

    -- ---- along the chain

    abbrev Found_in : ℕ → List ℕ → FoundMethod → Type 0
    Found_in a name f = (g : FoundMethod) × (method_named p.classes a name ≡ Some g) × IsUserMethod p g × OverridesInSteps p f g

    user_is_user : (f : FoundMethod) → IsUserMethod p f → is_some f.method.builtin ≡ false
    user_is_user f u = ap is_some u.not_builtin

    -- what is found on the chain of superclasses
    pub on_superclass : (class : ℕ) (name : List ℕ) (f : FoundMethod) → method_named p.classes class name ≡ Some f → is_some f.method.builtin ≡ false → (y : ℕ) × In y (superclasses p.classes class) × (own_method p.classes name y ≡ Some f)
    on_superclass class name f e u =
        along_in (own_method p.classes name) (superclasses p.classes class) f (on_chain p (counted-stays forest) (acyclic forest accepted) (interfaces_give_framework_methods forest accepted) class name f e u)

    none_on_object : (name : List ℕ) (h : FoundMethod) → method_named p.classes object name ≡ Some h → is_some h.method.builtin ≡ false → ⊥
    none_on_object name h e u = go q.0 q.1 q.2
      where
        q : (y : ℕ) × In y (superclasses p.classes object) × (own_method p.classes name y ≡ Some h)
        q = on_superclass object name h e u

        t : (row : ClassRow) × (slice_get p.classes object ≡ Some row) × (row.superclass ≡ None) × (row.interfaces ≡ []) × (row.written ≡ None)
        t = top_row forest accepted

        alone : superclasses p.classes object ≡ object ∷ []
        alone = chain_is forest accepted object (slice_get_within p.classes object t.0 t.1)
            ∙ ap (λ (o : Option ℕ). object ∷ (elim o as (λ _. List ℕ) [ None ↦ [] | Some b ↦ superclasses p.classes b ])) (ap (λ (o : Option ClassRow). option_and_then (λ (row : ClassRow). row.superclass) o) t.1 ∙ t.2)

        only : (y : ℕ) → In y (object ∷ []) → y ≡ object
        only y here = refl
        only y (there h) = elim h [ ]

        framework : IsFrameworkRow object t.0 → own_method p.classes name object ≡ Some h → ⊥
        framework k o = true≢false (sym (own_of_framework forest accepted object t.0 name h t.1 k o) ∙ u)

        go : (y : ℕ) → In y (superclasses p.classes object) → own_method p.classes name y ≡ Some h → ⊥
        go y i o =
            let same = only y (subst (In y) alone i) in
            let at : own_method p.classes name object ≡ Some h = ap (own_method p.classes name) (sym same) ∙ o in
            elim (row_is forest accepted object t.0 t.1) as (λ z. ⊥)
            [ inl k ↦ framework k at | inr w ↦ (let z : None ≡ Some w.2.class = sym t.4 ∙ written_of w.0 t.0 w.2 in cc (z)) ]

    -- what a class declares under a user's method is a user's method
    declared_by_user : (a x : ℕ) (name : List ℕ) (h g : FoundMethod) → superclass_in p.classes a ≡ Some x → method_named p.classes x name ≡ Some h → is_some h.method.builtin ≡ false → own_method p.classes name a ≡ Some g → is_some g.method.builtin ≡ false
    declared_by_user a x name h g up e u own = go (row_is forest accepted a d.row d.is_row)
      where
        d : OwnDeclaration a name g
        d = own_declaration a name g own

        next_is : superclass_in p.classes a ≡ d.row.superclass
        next_is = ap (λ (o : Option ClassRow). option_and_then (λ (row : ClassRow). row.superclass) o) d.is_row

        under_object : d.row.superclass ≡ Some object → ⊥
        under_object s = (let same : Some x ≡ Some object = sym up ∙ next_is ∙ s in none_on_object name h (ap (λ y. method_named p.classes y name) (sym (some_inj x object same)) ∙ e) u)

        go : IsFrameworkRow a d.row ⊎ ((j : ℕ) × (a ≡ length (framework_rows_from 0 framework_classes) + j) × IsUserRow p.nodes p.users j d.row) → is_some g.method.builtin ≡ false
        go (inl k) = absurd (elim k.extends_object as (λ z. ⊥) [ inl s ↦ under_object s | inr s ↦ (let z : None ≡ Some x = sym (next_is ∙ s.0) ∙ up in cc (z)) ])
        go (inr w) = (let q = method_at_member a w.0 d.row d.is_row w.2 g.method d.among in ap is_some q.1.not_builtin)

    one_down : (a x : ℕ) (name : List ℕ) (f : FoundMethod) → a < length p.classes → superclass_in p.classes a ≡ Some x → Found_in x name f → Found_in a name f
    one_down a x name f l up q = go (own_method p.classes name a) refl
      where
        named : method_named p.classes a name ≡ elim (own_method p.classes name a) as (λ _. Option FoundMethod) [ None ↦ Some q.0 | Some g ↦ Some g ]
        named = named_is p (counted-stays forest) (acyclic forest accepted) (interfaces_give_framework_methods forest accepted) a x name q.0 l up q.1 (user_is_user q.0 q.2)

        above : method_above p.classes a name ≡ Some q.0
        above = above_is p (counted-stays forest) (acyclic forest accepted) (interfaces_give_framework_methods forest accepted) a x name q.0 up q.1 (user_is_user q.0 q.2)

        above_class : is_among q.0.on (superclasses p.classes a) ≡ true
        above_class =
            let w = on_superclass x name q.0 q.1 (user_is_user q.0 q.2) in
            let o = own_declaration w.0 name q.0 w.2 in
            let c : superclasses p.classes a ≡ a ∷ superclasses p.classes x = chain_is forest accepted a l ∙ ap (λ (o : Option ℕ). a ∷ (elim o as (λ _. List ℕ) [ None ↦ [] | Some b ↦ superclasses p.classes b ])) up in
            ap (is_among q.0.on) c ∙ ap (λ y. is_among y (a ∷ superclasses p.classes x)) o.on ∙ or_right (w.0 == a) _ (among_in w.0 (superclasses p.classes x) w.1)

        go : (o : Option FoundMethod) → own_method p.classes name a ≡ o → Found_in a name f
        go None s = (q.0, named ∙ ap (λ (o : Option FoundMethod). elim o as (λ _. Option FoundMethod) [ None ↦ Some q.0 | Some g ↦ Some g ]) s, q.2, q.3)
        go (Some g) s =
            let user = declared_by_user a x name q.0 g up q.1 (user_is_user q.0 q.2) s in
            let d = own_declaration a name g s in (
              g,
              named ∙ ap (λ (o : Option FoundMethod). elim o as (λ _. Option FoundMethod) [ None ↦ Some q.0 | Some g ↦ Some g ]) s,
              user_method a name g s user,
              by_step (subst (λ c. OverridesRightly p c g.method q.0) (sym d.on) (overrides_rightly a name g q.0 s user above)) (user_method a name g s user) (subst (λ c. is_among q.0.on (superclasses p.classes c) ≡ true) (sym d.on) above_class) q.3,
            )

    dispatch_down : (d a b : ℕ) (name : List ℕ) (f : FoundMethod) → a < length p.classes → length (superclasses p.classes a) ≤ d → is_among b (superclasses p.classes a) ≡ true → method_named p.classes b name ≡ Some f → IsUserMethod p f → Found_in a name f
    dispatch_down zero a b name f l m h e u = absurd (let c : length (superclasses p.classes a) ≡ suc (length (elim (next a) as (λ _. List ℕ) [ None ↦ [] | Some b ↦ superclasses p.classes b ])) = ap length (chain_is forest accepted a l) in omega (arith, c, m))
    dispatch_down (suc d) a b name f l m h e u = go (next a) refl (or_cases (b == a) _ (sym (ap (is_among b) (chain_is forest accepted a l)) ∙ h)) (dispatch_down d)
      where
        go : (o : Option ℕ) → next a ≡ o → ((b == a) ≡ true) ⊎ (is_among b (elim (next a) as (λ _. List ℕ) [ None ↦ [] | Some b ↦ superclasses p.classes b ]) ≡ true)
            → ((a b : ℕ) (name : List ℕ) (f : FoundMethod) → a < length p.classes → length (superclasses p.classes a) ≤ d → is_among b (superclasses p.classes a) ≡ true → method_named p.classes b name ≡ Some f → IsUserMethod p f → Found_in a name f)
            → Found_in a name f
        go o s (inl k) ih = (f, ap (λ c. method_named p.classes c name) (sym (same_number b a k)) ∙ e, u, itself)
        go None s (inr k) ih = absurd (true≢false (sym (sym (ap (λ (o : Option ℕ). is_among b (elim o as (λ _. List ℕ) [ None ↦ [] | Some b ↦ superclasses p.classes b ])) s) ∙ k)))
        go (Some x) s (inr k) ih =
            let c : length (superclasses p.classes a) ≡ suc (length (superclasses p.classes x)) = ap length (chain_is forest accepted a l) ∙ ap (λ (o : Option ℕ). suc (length (elim o as (λ _. List ℕ) [ None ↦ [] | Some b ↦ superclasses p.classes b ]))) s in
            one_down a x name f l s
            (ih x b name f (counted-stays forest a x s) (omega (arith, c, m)) (sym (ap (λ (o : Option ℕ). is_among b (elim o as (λ _. List ℕ) [ None ↦ [] | Some b ↦ superclasses p.classes b ])) s) ∙ k) e u)

    -- what a class has for a user's method of a class above it
    pub dispatches : (a b : ℕ) (name : List ℕ) (f : FoundMethod) → a < length p.classes → is_among b (superclasses p.classes a) ≡ true → method_named p.classes b name ≡ Some f → IsUserMethod p f → Dispatches p a name f
    dispatches a b name f l h e u =
        let q = dispatch_down (length (superclasses p.classes a)) a b name f l (omega arith) h e u in
        record { method = q.0; is = q.1; is_user = q.2; overrides = q.3 }
