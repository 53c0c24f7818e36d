-- The definitions of scopes that the classes of an accepted program write: each makes the scope of its name, and none
-- of the rules on it is broken.
use Rattle.std.proofs.Common.{◌≡◌, ℕ, ◌<◌, ◌+◌, List, [], ◌∷◌, ◌++◌, length, find, sym, ap, ◌∙◌, subst, refl, Option, Some, None, Bool, true, false, not, ◌&&◌, ◌==◌, true≢false, ◌⊎◌, inl, inr, option_and_then, option_map, slice_get, is_some, if◌then◌else◌}
use Rattle.std.specs.List.{list_any}
use Rattle.scj_base.specs.Bytes.{is_same}
use Rattle.scj_base.specs.declared.findings.Rule.TheVariants.{S1, S2, S4, S5, S6}
use Rattle.scj_tree.specs.declared.nodes.Node.{Node}
use Rattle.scj_tree.specs.Forest.{Forest, IsForest, joined}
use Rattle.scj_rules.specs.declared.scopes.Definition.{Definition}
use Rattle.scj_rules.specs.Definitions.{read, flags_of, define_scope_of, values_of, written_of, definition, definition_with, definition_of, in_front, definitions_in, definitions, immortal, is_reserved, first_definition}
use Rattle.scj_rules.specs.Words.{chain_behind, is_among, holds, found_at}
use Rattle.scj_rules.specs.Views.{WrittenClass}
use Rattle.scj_rules.specs.Classes.{ClassRow, superclasses, classes_above, superclass_in}
use Rattle.scj_rules.specs.Contexts.{Declarations, declarations_of, number_of_class}
use Rattle.scj_rules.specs.ScopeRules.{scope_of_definition, scope_number, definition_in, defined_by, defined_by_chain, is_defined_already, has_unknown_parent, is_wrong_class, has_definition_above, has_wrong_parent, lacks_scope, needs_scope, definition_breaks, scope_breaks, s1, s2, s3, s4, s5, s6}
use Rattle.scj_rules.specs.Phases.{IsAccepted}
use Rattle.scj_rules.proofs.ChainLemmas.{or_cases, or_left, or_right, same_number, is_same_number}
use Rattle.accepted_laws.specs.Sorts.{IsWellSorted}
use Rattle.accepted_laws.proofs.Breaks.{both_empty, right, no_break_at_class}
use Rattle.accepted_laws.proofs.Fields.{In as Element, in_find, in_among, along_in}
use Rattle.accepted_laws.proofs.Positions.{same_name, position_least}
use Rattle.accepted_laws.proofs.ScopesOfClasses.{chain_is}
use Rattle.accepted_laws.proofs.Subtypes.{above_below, among_in}
use Rattle.accepted_laws.proofs.Tools.{some_inj}
use Rattle.accepted_nodes.proofs.ScopesComplete.{of_option}
use Rattle.accepted_facts.proofs.OverridingKinds.{or_false}
use Rattle.flow_facts.proofs.ClassNodes.{users_nodes}
use Rattle.flow_facts.proofs.HeldFields.{in_get}
use Rattle.flow_facts.proofs.SlotScopes.{in_head}
use Rattle.mission_facts.proofs.Lines.{one_line}
use Rattle.mission_facts.proofs.Searches.{found_there, along_there, any_there, there_any, some_is}

-- ---- what is written

written_by : (nodes : List Node) (class : ℕ) (d : Definition) → definition_of nodes class ≡ Some d → d.class ≡ class
unfolding definition_of definition_with
written_by nodes class d e =
    let v =
    of_option (option_and_then (read nodes values_of)
    (option_and_then (read nodes define_scope_of) (read nodes flags_of class)))
    (definition_with nodes class) d e
    in
    let s =
    of_option (read nodes written_of v.0.0)
    (λ scope. option_and_then (λ parent. Some (definition class scope parent)) (read nodes written_of v.0.1)) d v.2
    in
    let q = of_option (read nodes written_of v.0.1) (λ parent. Some (definition class s.0 parent)) d s.2 in
    ap (λ (d : Definition). d.class) (sym (some_inj (definition class s.0 q.0) d q.2))

in_definitions : (nodes : List Node) (classes : List ℕ) (d : Definition) → Element d (definitions_in nodes classes) →
    is_among d.class classes ≡ true
unfolding definitions_in
in_definitions nodes [] d h = elim h [ ]
in_definitions nodes (c ∷ cs) d h = go (definition_of nodes c) refl (in_definitions nodes cs d) h
  where
    go : (o : Option Definition) → definition_of nodes c ≡ o →
        (Element d (definitions_in nodes cs) → is_among d.class cs ≡ true) →
        Element d (in_front o (definitions_in nodes cs)) → is_among d.class (c ∷ cs) ≡ true
    go None e ih h = or_right (d.class == c) (is_among d.class cs) (ih h)
    go (Some x) e ih h = elim (in_head d x (definitions_in nodes cs) h) as (λ z. is_among d.class (c ∷ cs) ≡ true) [
      | inl s ↦ or_left (d.class == c) (is_among d.class cs)
          (is_same_number d.class c (ap (λ (d : Definition). d.class) (sym s) ∙ written_by nodes c x e))
      | inr k ↦ or_right (d.class == c) (is_among d.class cs) (ih k)
    ]

known_scope : (o : Option ℕ) (x : ℕ) → is_some o ≡ true → holds o (λ s. not (s == x)) ≡ false → o ≡ Some x
known_scope None x e h = absurd (true≢false (sym e))
known_scope (Some s) x e h = go (s == x) refl h
  where
    go : (t : Bool) → (s == x) ≡ t → not t ≡ false → Some s ≡ Some x
    go true e h = ap (λ n. Some n) (same_number s x e)
    go false e h = absurd (true≢false h)

-- the name IMMORTAL is reserved
not_reserved : (name : List ℕ) → is_reserved name ≡ false → is_same name immortal ≡ false
unfolding is_reserved
not_reserved name e = (or_false (is_same name immortal) _ e).0

module _ (forest : Forest) (accepted : IsAccepted forest) (whole : IsForest forest) (sorted : IsWellSorted forest.nodes)
  where
    abbrev p : Declarations
    p = declarations_of forest

    -- the definition that a class writes, and the rules on it
    pub record IsDefined (class : ℕ) (d : Definition) : Type 0 where
      pub row : ClassRow
      pub stands : slice_get p.classes class ≡ Some row
      pub written : WrittenClass
      pub is : row.written ≡ Some written
      pub among : Element d p.scopes
      pub new_scope : is_defined_already p class d ≡ false
      pub known_parent : has_unknown_parent p d ≡ false
      pub right_class : is_wrong_class p class ≡ false
      pub right_parent : has_wrong_parent p class d ≡ false

    pub is_defined : (class : ℕ) (d : Definition) → definition_in p class ≡ Some d → IsDefined class d
    unfolding definition_in scope_breaks definition_breaks s1 s2 s3 s4 s5
    is_defined class d e =
        let c =
        of_option (option_and_then (λ (row : ClassRow). row.written) (slice_get p.classes class))
        (λ (c : WrittenClass). find (λ (d : Definition). d.class == c.node) p.scopes) d e in
        let r = of_option (slice_get p.classes class) (λ (row : ClassRow). row.written) c.0 c.1 in
        let unbroken = (no_break_at_class forest accepted class r.0 c.0 r.1 r.2).no_scope_rule in
        let at : found_at (Some d) (λ d. s1 p class d ++ s2 p class d ++ s3 p class d ++ s4 p class d ++ s5 p class d)
        ≡ [] =
        ap (λ (o : Option Definition). found_at o
        (λ d. s1 p class d ++ s2 p class d ++ s3 p class d ++ s4 p class d ++ s5 p class d)) (sym e)
        ∙ (both_empty (definition_breaks p class) (s6 p class c.0) unbroken).0 in
        let b4 = both_empty (s1 p class d ++ s2 p class d ++ s3 p class d ++ s4 p class d) (s5 p class d) at in
        let b3 = both_empty (s1 p class d ++ s2 p class d ++ s3 p class d) (s4 p class d) b4.0 in
        let b2 = both_empty (s1 p class d ++ s2 p class d) (s3 p class d) b3.0 in
        let b1 = both_empty (s1 p class d) (s2 p class d) b2.0 in
        record {
          row = r.0;
          stands = r.1;
          written = c.0;
          is = r.2;
          among = in_find (λ (d : Definition). d.class == c.0.node) d p.scopes c.2;
          new_scope = right (is_defined_already p class d) S1 d.scope.position b1.0;
          known_parent = right (has_unknown_parent p d) S2 d.parent.position b1.1;
          right_class = right (is_wrong_class p class) S4 d.scope.position b3.1;
          right_parent = right (has_wrong_parent p class d) S5 d.parent.position b4.1;
        }

    -- each definition is one of a class of the program
    numbered : (d : Definition) → Element d p.scopes → is_some (scope_of_definition p d) ≡ true
    unfolding declarations_of definitions number_of_class
    numbered d h =
        let among : is_among d.class (joined forest.files) ≡ true =
        in_definitions forest.nodes (joined forest.files) d h in
        let k = in_get (joined forest.files) d.class (in_among d.class (joined forest.files) among) in
        let least =
        position_least (λ other. d.class == other) (joined forest.files) k.0 d.class k.1
        (is_same_number d.class d.class refl) in
        ap (λ ids. is_some (number_of_class ids d.class)) (users_nodes forest accepted whole sorted)
        ∙ ap (λ (o : Option ℕ). is_some (option_map (λ n. 16 + n) o)) least.1

    -- a definition makes the scope of its name
    pub makes_its_scope : (class : ℕ) (d : Definition) → IsDefined class d → scope_number p d.scope.name ≡ Some class
    unfolding scope_number first_definition
    makes_its_scope class d x =
        let parts = or_false (is_reserved d.scope.name) _ x.new_scope in
        let first = found_there (λ (e : Definition). is_same d.scope.name e.scope.name) d p.scopes x.among
        (same_name d.scope.name) in
        let listed =
        in_find (λ (e : Definition). is_same d.scope.name e.scope.name) first.0 p.scopes first.1 in
        let number : scope_number p d.scope.name ≡ scope_of_definition p first.0 =
        ap (λ t. if t then Some 0 else option_and_then (scope_of_definition p)
        (first_definition p.scopes d.scope.name))
        (not_reserved d.scope.name parts.0)
        ∙ ap (λ t. option_and_then (scope_of_definition p) (if t then None else find
        (λ (e : Definition). is_same d.scope.name e.scope.name) p.scopes)) parts.0
        ∙ ap (option_and_then (scope_of_definition p)) first.1 in
        known_scope (scope_number p d.scope.name) class (ap is_some number ∙ numbered first.0 listed) parts.1

    -- ---- the scope that a class defines

    -- a class of the chain defines the scope that the chain does
    pub record IsDefiner (class scope : ℕ) : Type 0 where
      pub above : is_among scope (superclasses p.classes class) ≡ true
      pub definition : Definition
      pub writes : definition_in p scope ≡ Some definition
      pub defined : IsDefined scope definition

    pub definer_of : (class scope : ℕ) → defined_by_chain p class ≡ Some scope → IsDefiner class scope
    unfolding defined_by_chain defined_by
    definer_of class scope e =
        let q = along_in (defined_by p) (superclasses p.classes class) scope e in
        let d = of_option (definition_in p q.0) (λ (d : Definition). scope_number p d.scope.name) scope q.2 in
        let x = is_defined q.0 d.0 d.1 in
        let same : q.0 ≡ scope = some_inj q.0 scope (sym (makes_its_scope q.0 d.0 x) ∙ d.2) in
        subst (IsDefiner class) same
        (record {
          above = among_in q.0 (superclasses p.classes class) q.1;
          definition = d.0;
          writes = d.1;
          defined = x;
        })

    -- where a class of the chain writes a definition, the chain defines a scope
    pub defines : (class : ℕ) → list_any (λ d. is_some (definition_in p d)) (superclasses p.classes class) ≡ true →
        (scope : ℕ) × (defined_by_chain p class ≡ Some scope)
    unfolding defined_by_chain defined_by
    defines class h =
        let q = any_there (λ d. is_some (definition_in p d)) (superclasses p.classes class) h in
        let d = some_is (definition_in p q.0) q.2 in
        along_there (defined_by p) q.0 q.0 (superclasses p.classes class) q.1
        (ap (option_and_then (λ (d : Definition). scope_number p d.scope.name)) d.1
        ∙ makes_its_scope q.0 d.0 (is_defined q.0 d.0 d.1))

    -- a concrete class of missions or handlers defines one
    pub needed_is_defined : (class : ℕ) (row : ClassRow) (c : WrittenClass) → slice_get p.classes class ≡ Some row →
        row.written ≡ Some c → c.modifiers.is_abstract ≡ false → needs_scope p class ≡ true →
        (scope : ℕ) × (defined_by_chain p class ≡ Some scope)
    unfolding scope_breaks s6
    needed_is_defined class row c stands is plain need =
        let unbroken = (no_break_at_class forest accepted class row c stands is).no_scope_rule in
        let any : Bool = list_any (λ d. is_some (definition_in p d)) (superclasses p.classes class) in
        let e : lacks_scope p class c.modifiers.is_abstract ≡ false =
        right (lacks_scope p class c.modifiers.is_abstract) S6 c.position
        (both_empty (definition_breaks p class) (s6 p class c) unbroken).1 in
        defines class (last any (sym (ap (λ t. not t && (needs_scope p class && not any)) plain
        ∙ ap (λ t. t && not any) need) ∙ e))
      where
        last : (t : Bool) → not t ≡ false → t ≡ true
        last true e = refl
        last false e = absurd (true≢false e)

    behind : (s : ℕ) → classes_above p.classes s
        ≡ elim (superclass_in p.classes s) as (λ _. List ℕ) [ None ↦ [] | Some b ↦ superclasses p.classes b ]
    unfolding classes_above superclasses chain_behind declarations_of
    behind s = refl

    -- no class above one that writes a definition writes one
    alone_above : (s t : ℕ) (d e : Definition) → s < length p.classes → definition_in p t ≡ Some e → IsDefined s d →
        is_among t (superclasses p.classes s) ≡ true → s ≡ t
    alone_above s t d e l writes x h =
        go (or_cases (t == s) _ (sym (ap (is_among t) (chain_is forest accepted s l)) ∙ h))
      where
        none_above : has_definition_above p s ≡ false
        none_above = (or_false _ (has_definition_above p s) x.right_class).1

        go : ((t == s) ≡ true)
            ⊎ (is_among t (elim (superclass_in p.classes s) as (λ _. List ℕ)
            [ None ↦ [] | Some b ↦ superclasses p.classes b ]) ≡ true) → s ≡ t
        go (inl k) = sym (same_number t s k)
        go (inr k) =
            absurd (true≢false
            (sym (there_any (λ above. is_some (definition_in p above)) t (classes_above p.classes s)
            (in_among t (classes_above p.classes s) (ap (is_among t) (behind s) ∙ k)) (ap is_some writes))
            ∙ none_above))

    -- a class and one above it define one scope, where both define any
    pub one_scope : (class above s t : ℕ) → class < length p.classes →
        is_among above (superclasses p.classes class) ≡ true →
        IsDefiner class s → IsDefiner above t → is_among t (superclasses p.classes class) ≡ true → s ≡ t
    one_scope class above s t l h x y k =
        elim (one_line forest accepted class s t l x.above k) as (λ z. s ≡ t) [
          | inl f ↦ alone_above s t x.definition y.definition (above_below forest accepted class s l x.above) y.writes
              x.defined f
          | inr f ↦ sym (alone_above t s y.definition x.definition (above_below forest accepted class t l k) x.writes
              y.defined f)
        ]
