-- A class of an accepted program has one constructor at most (C5, C11): where one stands in it, that is the class's.
use Rattle.std.proofs.Common.{◌≡◌, ℕ, List, [], ◌∷◌, filter_map, refl, sym, ap, ◌∙◌, subst, Option, Some, None, Bool, true, false, not, ◌||◌, true≢false, ◌⊎◌, inl, inr, option_and_then, slice_get, if◌then◌else◌, is_some}
use Rattle.std.specs.List.{cons_option}
use Rattle.scj_base.specs.Bytes.{is_same, is_one_of}
use Rattle.scj_base.specs.declared.findings.Rule.TheVariants.{C5, C11}
use Rattle.scj_tree.specs.declared.nodes.Node.{Node}
use Rattle.scj_tree.specs.declared.nodes.Node.TheVariants.{Constructor}
use Rattle.scj_tree.specs.Forest.{Forest, IsForest}
use Rattle.scj_rules.specs.declared.scopes.Written.{Written}
use Rattle.scj_rules.specs.declared.views.Modifiers.{Modifiers}
use Rattle.scj_rules.specs.Definitions.{read}
use Rattle.scj_rules.specs.Words.{holds, named_twice}
use Rattle.scj_rules.specs.Views.{DeclaredConstructor, modifiers_at, constructor_at, constructor_of, callable_name}
use Rattle.scj_rules.specs.Classes.{ClassRow, user_row}
use Rattle.scj_rules.specs.ClassRules.{c5, c9, c11, node_breaks, callable_names, has_class_words, has_method_words, is_named_as_class, is_misplaced_on_constructor}
use Rattle.scj_rules.specs.Contexts.{Declarations, declarations_of, context}
use Rattle.scj_rules.specs.Types.{constructor_in}
use Rattle.scj_rules.specs.Phases.{IsAccepted}
use Rattle.accepted_laws.specs.Sorts.{IsWellSorted}
use Rattle.accepted_laws.proofs.Breaks.{both_empty, right, no_break_at_node}
use Rattle.accepted_laws.proofs.Fields.{In as Element, here as at_head, there as in_tail, in_among}
use Rattle.accepted_laws.proofs.Interfaces.{mapped_in}
use Rattle.accepted_laws.proofs.MethodNodes.{same_bytes}
use Rattle.accepted_laws.proofs.Positions.{same_name}
use Rattle.accepted_laws.proofs.Rows.{at_class_unbroken, none_broken}
use Rattle.accepted_laws.proofs.Tools.{some_inj}
use Rattle.accepted_nodes.proofs.FormParts.{bound}
use Rattle.accepted_facts.proofs.StatementFacts.{or_false, not_false}
use Rattle.flow_facts.proofs.ClassNodes.{MemberAt}
use Rattle.accepted_laws.proofs.ClassNumbers.{member_class}
use Rattle.accepted_laws.proofs.Subtypes.{among_in}
use Rattle.flow_facts.proofs.NamesOnce.{head_or_tail, not_earlier}

-- ---- no name twice

abbrev name_of : Written → List ℕ
name_of w = w.name

-- what is made of an element is made of the list
in_made : {A B : Type 0} (f : A → Option B) (x : A) (y : B) (xs : List A) → Element x xs → f x ≡ Some y →
    Element y (filter_map f xs)
in_made f x y [] h e = elim h [ ]
in_made f x y (z ∷ xs) h e = go (f z) refl (head_or_tail h) (λ h. in_made f x y xs h e)
  where
    go : (o : Option _) → f z ≡ o → (x ≡ z) ⊎ Element x xs → (Element x xs → Element y (filter_map f xs)) →
        Element y (cons_option o (filter_map f xs))
    go None a (inl s) ih = absurd (let q : None ≡ Some y = sym a ∙ ap f (sym s) ∙ e in cc (q))
    go None a (inr h) ih = ih h
    go (Some u) a (inl s) ih =
        (let same : u ≡ y = some_inj u y (sym a ∙ ap f (sym s) ∙ e) in
        subst (λ v. Element y (v ∷ filter_map f xs)) (sym same) at_head)
    go (Some u) a (inr h) ih = in_tail (ih h)

-- a name that is named later is no earlier one
member_not_earlier : (f : ℕ → Option Written) (ms : List ℕ) (earlier : List (List ℕ)) →
    named_twice name_of earlier (filter_map f ms) ≡ [] → (m : ℕ) (v : Written) → Element m ms → f m ≡ Some v →
    is_one_of v.name earlier ≡ false
member_not_earlier f ms earlier e m v h k = not_earlier name_of (filter_map f ms) earlier e v (in_made f m v ms h k)

-- members of one name are one member
named_once : (f : ℕ → Option Written) (ms : List ℕ) (earlier : List (List ℕ)) →
    named_twice name_of earlier (filter_map f ms) ≡ [] → (b m : ℕ) (w v : Written) → Element b ms → Element m ms →
    f b ≡ Some w → f m ≡ Some v → w.name ≡ v.name → b ≡ m
unfolding named_twice
named_once f [] earlier e b m w v h i k l n = elim h [ ]
named_once f (x ∷ ms) earlier e b m w v h i k l n =
    go (f x) refl e (head_or_tail h) (head_or_tail i) (λ earlier e h i. named_once f ms earlier e b m w v h i k l n)
  where
    later : (u : Written) (y : ℕ) (z : Written) → named_twice name_of (u.name ∷ earlier) (filter_map f ms) ≡ [] →
        Element y ms → f y ≡ Some z → z.name ≡ u.name → ⊥
    later u y z e h k n =
        let no = member_not_earlier f ms (u.name ∷ earlier) e y z h k in
        true≢false (sym (ap (λ name. is_same z.name name) (sym n) ∙ same_name z.name)
        ∙ (or_false (is_same z.name u.name) (is_one_of z.name earlier) no).0)

    go : (o : Option Written) → f x ≡ o → named_twice name_of earlier (cons_option o (filter_map f ms)) ≡ [] →
        (b ≡ x) ⊎ Element b ms → (m ≡ x) ⊎ Element m ms →
        ((earlier : List (List ℕ)) → named_twice name_of earlier (filter_map f ms) ≡ [] → Element b ms → Element m ms →
        b ≡ m) → b ≡ m
    go o a e (inl s) (inl t) ih = s ∙ sym t
    go None a e (inl s) (inr i) ih = absurd (let z : None ≡ Some w = sym a ∙ ap f (sym s) ∙ k in cc (z))
    go None a e (inr h) (inl t) ih = absurd (let z : None ≡ Some v = sym a ∙ ap f (sym t) ∙ l in cc (z))
    go None a e (inr h) (inr i) ih = ih earlier e h i
    go (Some u) a e (inl s) (inr i) ih =
        let rest =
        (both_empty (if is_one_of u.name earlier then u ∷ [] else [])
        (named_twice name_of (u.name ∷ earlier) (filter_map f ms)) e).1 in
        let same : u ≡ w = some_inj u w (sym a ∙ ap f (sym s) ∙ k) in
        absurd (later u m v rest i l (sym n ∙ ap name_of (sym same)))
    go (Some u) a e (inr h) (inl t) ih =
        let rest =
        (both_empty (if is_one_of u.name earlier then u ∷ [] else [])
        (named_twice name_of (u.name ∷ earlier) (filter_map f ms)) e).1 in
        let same : u ≡ v = some_inj u v (sym a ∙ ap f (sym t) ∙ l) in
        absurd (later u b w rest h k (n ∙ ap name_of (sym same)))
    go (Some u) a e (inr h) (inr i) ih =
        ih (u.name ∷ earlier)
        (both_empty (if is_one_of u.name earlier then u ∷ [] else [])
        (named_twice name_of (u.name ∷ earlier) (filter_map f ms)) e).1 h i

last_of_six : (a b c d e f : Bool) → (a || b || c || d || e || not f) ≡ false → f ≡ true
last_of_six true b c d e f h = absurd (true≢false h)
last_of_six false true c d e f h = absurd (true≢false h)
last_of_six false false true d e f h = absurd (true≢false h)
last_of_six false false false true e f h = absurd (true≢false h)
last_of_six false false false false true f h = absurd (true≢false h)
last_of_six false false false false false f h = not_false f h

module _ (forest : Forest) (accepted : IsAccepted forest) (whole : IsForest forest) (sorted : IsWellSorted forest.nodes)
  where
    abbrev p : Declarations
    p = declarations_of forest

    abbrev nodes : List Node
    nodes = forest.nodes

    -- a constructor has the name of its class (C11)
    record NamedAsClass (b c : ℕ) (row : ClassRow) : Type 0 where
      name : Written
      is : read p.nodes callable_name b ≡ Some name
      same : is_same row.name name.name ≡ true

    named_as_class : (b c : ℕ) (row : ClassRow) (node : Node) (con : DeclaredConstructor) →
        slice_get p.nodes b ≡ Some node → constructor_of p.nodes b node ≡ Some con → (context p b).class ≡ Some c →
        slice_get p.classes c ≡ Some row → NamedAsClass b c row
    unfolding constructor_of node_breaks c9 c11 callable_name declarations_of
    named_as_class b c row (Constructor position name flags parameters super_call body) con there is class e =
        let m : Modifiers = modifiers_at p.nodes flags in
        let h =
        right (is_misplaced_on_constructor p b name m) C11 position
        (no_break_at_node forest accepted b (Constructor position name flags parameters super_call body)
        there).no_class_rule in
        record {
          name = _;
          is = ap (option_and_then callable_name) there;
          same =
              sym (ap
              (λ (o : Option ℕ). holds o
              (λ class. holds (slice_get p.classes class) (λ (row : ClassRow). is_same row.name name))) class
              ∙ ap (λ (o : Option ClassRow). holds o (λ (row : ClassRow). is_same row.name name)) e)
              ∙ named_last (has_class_words m) (has_method_words m) m.is_static m.is_abstract (is_some m.scope)
              (is_named_as_class p b name) h;
        }
      where
        named_last : (a b c d e f : Bool) → (a || b || c || d || e || not f) ≡ false → f ≡ true
        named_last a b c d e f h = last_of_six a b c d e f h
    named_as_class b c row _ con there is class e = absurd (cc (is))

    members_once : (b c : ℕ) (m : MemberAt forest accepted whole sorted b c) →
        named_twice name_of [] (callable_names p m.at.class) ≡ []
    unfolding c5
    members_once b c m = none_broken (λ (w : Written). w.position) C5 (named_twice name_of [] (callable_names p m.at.class))
        (at_class_unbroken forest accepted c m.at.row m.at.class m.at.is_row m.at.written).method_twice

    -- the constructor that stands at a node of a class is the class's
    pub one_constructor : (b c : ℕ) (con : DeclaredConstructor) → constructor_at p.nodes b ≡ Some con →
        MemberAt forest accepted whole sorted b c → (context p b).class ≡ Some c → constructor_in p.classes c ≡ Some con
    unfolding constructor_in user_row
    one_constructor b c con e m class =
        ap (λ (o : Option ClassRow). option_and_then
        (λ (row : ClassRow). elim row.constructors as (λ _. Option DeclaredConstructor)
        [ [] ↦ None | c ∷ cs ↦ Some c ]) o) m.at.is_row
        ∙ ap (λ (row : ClassRow). elim row.constructors as (λ _. Option DeclaredConstructor)
        [ [] ↦ None | c ∷ cs ↦ Some c ]) m.at.of_class
        ∙ first (filter_map (constructor_at p.nodes) m.at.class.members) refl
        (in_made (constructor_at p.nodes) b con m.at.class.members (in_among b m.at.class.members m.among) e)
      where
        members : List ℕ
        members = m.at.class.members

        same_member : (d : DeclaredConstructor) → Element d (filter_map (constructor_at p.nodes) members) → d ≡ con
        same_member d h =
            let q = mapped_in (constructor_at p.nodes) d members h in
            let at_b = bound (slice_get p.nodes b) (constructor_of p.nodes b) con e in
            let at_q = bound (slice_get p.nodes q.0) (constructor_of p.nodes q.0) d q.2 in
            let class_q = member_class forest whole accepted sorted c m.at.row m.at.class m.at.is_row m.at.written q.0
            (among_in q.0 members q.1) in
            let x = named_as_class b c m.at.row at_b.0 con at_b.1 at_b.2 class m.at.is_row in
            let y = named_as_class q.0 c m.at.row at_q.0 d at_q.1 at_q.2 class_q m.at.is_row in
            let one : b ≡ q.0 =
            named_once (read p.nodes callable_name) members [] (members_once b c m) b q.0 x.name y.name
            (in_among b members m.among) q.1 x.is y.is (sym (same_bytes m.at.row.name x.name.name x.same)
            ∙ same_bytes m.at.row.name y.name.name y.same) in
            some_inj d con (sym q.2 ∙ ap (constructor_at p.nodes) (sym one) ∙ e)

        first : (cs : List DeclaredConstructor) → filter_map (constructor_at p.nodes) members ≡ cs →
            Element con (filter_map (constructor_at p.nodes) members) →
            (elim cs as (λ _. Option DeclaredConstructor) [ [] ↦ None | c ∷ cs ↦ Some c ]) ≡ Some con
        first [] s h = absurd (none (subst (Element con) s h))
          where
            none : Element con [] → ⊥
            none h = elim h [ ]
        first (d ∷ cs) s h = ap (λ d. Some d) (same_member d (subst (Element d) (sym s) at_head))
