-- Abstract methods that user classes declare and that stay open.
use Rattle.std.proofs.Common.{◌≡◌, ℕ, ◌≤◌, Bool, true, false, ◌&&◌, ◌||◌, List, [], ◌∷◌, ◌++◌, filter, filter_map, find, flat_map, map, Option, None, Some, refl, sym, ap, ◌∙◌, arith, is_some, option_map, unwrap_or}
use Rattle.std.specs.BTreeMap.{is_at}
use Rattle.std.specs.Cmp.Lexicographic.{slice_cmp}
use Rattle.std.specs.List.{list_any, position_or_len}
use Rattle.std.specs.Map.{lookup, values_of}
use Rattle.std.specs.Ordering.{nat_cmp}
use Rattle.std.proofs.lemmas.Bool.Decides.{nat_tests}
use Rattle.std.proofs.lemmas.Cmp.{nat_list_eq_equiv}
use Rattle.std.proofs.lemmas.Grind.{common_steps}
use Rattle.std.proofs.lemmas.List.Folds.{Any-from_list_any, find-append, find_at, list_any-append, list_any_at}
use Rattle.std.proofs.lemmas.Map.Keys.{any_passes_from_place}
use Rattle.scj_base.specs.Bytes.{is_same}
use Rattle.scj_tree.specs.declared.nodes.Node.{Node}
use Rattle.scj_tree.specs.Forest.{Forest}
use Rattle.scj_rules.specs.Words.{along, holds}
use Rattle.scj_rules.specs.Views.{DeclaredMethod, method_at}
use Rattle.scj_rules.specs.Classes.{ClassRow, FoundMethod, first_user_class, is_user_class, method_named, own_method, superclasses}
use Rattle.scj_rules.specs.ClassRules.{is_left_open, own_abstract_methods, stays_open}
use Rattle.scj_rules.specs.Contexts.{Declarations, declarations_of}
use Rattle.method_rows.specs.Methods.{found_method, method_from}
use Rattle.method_rows.proofs.MethodLemmas.{no_number}
use Rattle.class_rows.specs.declared.fields.FieldRef.{FieldRef as Member}
use Rattle.class_rows.specs.declared.members.MemberKind.TheVariants.{Method}
use Rattle.class_rows.specs.Members.{name_at, found_at, is_abstract, is_abstract_at, member, members_of, members_on, nearest_named}
use Rattle.class_rows.specs.Tables.{members_in}
use Rattle.class_rows.proofs.MemberLemmas.{find_passes}
use Rattle.class_rows.proofs.OwnLemmas.{methods_along, no_members, list_read}
use Rattle.class_rows.proofs.SoundLemmas.{row_sound, other_methods}
use Rattle.symbol_table.specs.declared.scopes.Scope.{Scope}
use Rattle.symbol_table.specs.Symbols.{declared_abstract_methods, leaves_declared_open}
use Rattle.symbol_table.specs.Scopes.{IsScope, classes_of, is_left, leaves_at, rows_of}
use Rattle.symbol_table.proofs.LookLemmas.{by_users, same_name}

-- ---- a member that is an abstract method, and its name

abbrev is_tested : (List ℕ → Bool) → DeclaredMethod → Bool
is_tested test d = is_abstract d && test d.declared.name

any_found : {A : Type 0} (test : A → Bool) (xs : List A) → is_some (find test xs) ≡ list_any test xs
any_found test [] = refl
any_found test (x ∷ xs) = grind (arith, common_steps, any_found test xs)

module _ (nodes : List Node) where
  abbrev passes : (List ℕ → Bool) → Member → Bool
  passes test m = holds (method_at nodes m.node) (is_tested test)

  abbrev is_named : List ℕ → Member → Bool
  is_named name m = holds (name_at Method nodes m.node) (is_same name)

  -- the first of a tested name, where it is an abstract method, is one that passes
  first_passes : (test : List ℕ → Bool) (name : List ℕ) (ms : List Member) (m : Member) →
      find (is_named name) ms ≡ Some m → is_abstract_at nodes m ≡ true → test name ≡ true → passes test m ≡ true
  unfolding name_at
  first_passes test name ms m e a h =
      let named = find_passes (is_named name) ms m e in grind (arith, common_steps, named, a, h, same_name name)

  first_any : (test : List ℕ → Bool) (name : List ℕ) (ms : List Member) (m : Member) → find (is_named name) ms
      ≡ Some m → is_abstract_at nodes m ≡ true → test name ≡ true → list_any (passes test) ms ≡ true
  first_any test name ms m e a h = any_passes_from_place (passes test) ms (position_or_len (is_named name) ms) m
      (sym (find_at (is_named name) ms) ∙ e) (first_passes test name ms m e a h)

  -- and back: one that passes has a tested name, of which there is a first one
  abbrev called : Member → List ℕ
  called m = unwrap_or (name_at Method nodes m.node) []

  passing_tested : (test : List ℕ → Bool) (m : Member) → passes test m ≡ true → test (called m) ≡ true
  unfolding name_at
  passing_tested test m h = grind (arith, common_steps, h)

  passing_named : (test : List ℕ → Bool) (m : Member) → passes test m ≡ true → is_named (called m) m ≡ true
  unfolding name_at
  passing_named test m h = let same = nat_list_eq_equiv.refl (called m) in grind (arith, common_steps, h, same)

  some_tested : (test : List ℕ → Bool) (ms : List Member) → list_any (passes test) ms ≡ true →
      (name : List ℕ) × (test name ≡ true) × (is_some (find (is_named name) ms) ≡ true)
  some_tested test ms h =
      let any = Any-from_list_any (passes test) ms h in
      let name = called any.1 in (
        name,
        passing_tested test any.1 any.4,
        any_found (is_named name) ms
            ∙ list_any_at (is_named name) ms any.0 any.1 any.2
            (ap (is_named name) any.3 ∙ passing_named test any.1 any.4),
      )

any_mapped : {A B : Type 0} (p : B → Bool) (f : A → B) (xs : List A) →
    list_any (λ x. p (f x)) xs ≡ list_any p (map f xs)
any_mapped p f [] = refl
any_mapped p f (x ∷ xs) = ap (λ b. p (f x) || b) (any_mapped p f xs)

value_any : {K X : Type 0} (p : X → Bool) (test : K → Bool) (es : List (K × X)) (v : X) → lookup test es ≡ Some v →
    p v ≡ true → list_any p (values_of es) ≡ true
value_any p test [] v e h = cc
value_any p test (x ∷ es) v e h = grind (arith, common_steps, value_any p test es v, e, h)

-- ---- the abstract methods of user classes, as members

abbrev is_open : Option FoundMethod → Bool
is_open o = holds o (λ (f : FoundMethod). is_abstract f.method)

module _ (forest : Forest) (at : ℕ) where
  abbrev p : Declarations
  p = declarations_of forest

  abbrev stays : List ℕ → Bool
  stays name = is_open (method_named p.classes at name)

  -- a declared method is left open where the one of its name is abstract
  left_declared : (d : DeclaredMethod) (o : Option FoundMethod) → d.builtin ≡ None →
      holds o (λ (f : FoundMethod). stays_open p at d f.method) ≡ is_open o
  left_declared d None e = refl
  left_declared d (Some f) e = rw e (grind (arith, common_steps))

  tests_on : (class : ℕ) (ids : List ℕ)
      → list_any (is_left_open p at) (filter is_abstract (filter_map (method_at forest.nodes) ids))
      ≡ list_any (passes forest.nodes stays) (map (member class) ids)
  unfolding is_left_open
  tests_on class [] = refl
  tests_on class (id ∷ ids) =
      let own = no_number forest.nodes id in
      grind (arith, common_steps, own, left_declared, tests_on class ids)

  user_abstract : (class : ℕ) → first_user_class ≤ class → own_abstract_methods p.classes class
      ≡ filter is_abstract (filter_map (method_at forest.nodes) (members_in p class))
  user_abstract class h =
      let methods = list_read (λ (row : ClassRow). row.methods) (method_at forest.nodes) (λ row. refl) forest class
      (λ row e. (row_sound forest class row e).methods ∙ sym (other_methods forest.nodes class row.written h)) in
      grind (arith, common_steps, methods)

  tests_of : (classes : List ℕ)
      → list_any (is_left_open p at) (flat_map (own_abstract_methods p.classes) (filter is_user_class classes))
      ≡ list_any (passes forest.nodes stays) (members_of forest classes)
  tests_of [] = refl
  tests_of (c ∷ cs) =
      let own = list_any-append (is_left_open p at) (own_abstract_methods p.classes c)
      (flat_map (own_abstract_methods p.classes) (filter is_user_class cs)) in
      let both = list_any-append (passes forest.nodes stays) (members_on forest c) (members_of forest cs) in
      let here = tests_on c (members_in p c) in
      grind (arith, common_steps, nat_tests, no_members forest c, user_abstract c, own, both, here, tests_of cs)

-- ---- what a scope tells

found_abstract : (nodes : List Node) (m : Member) → is_abstract (found_at nodes m).method ≡ is_abstract_at nodes m
unfolding found_method method_from
found_abstract nodes m = grind (arith, common_steps)

module _ (forest : Forest) (scope : Scope) (s : IsScope forest scope) where
  abbrev rows : List ClassRow
  rows = rows_of forest

  abbrev nodes : List Node
  nodes = forest.nodes

  abbrev at : ℕ
  at = scope.level.class

  abbrev own : List Member
  own = members_on forest at

  abbrev above : List Member
  above = members_of forest (classes_of scope.above.path)

  abbrev nearest : List ℕ → Option Member
  nearest name = nearest_named Method nodes name (own ++ above)

  abbrev left : List ℕ → Bool
  left = is_left rows at

  abbrev these : List ℕ → Bool
  these = stays forest at

  nearest_is : (name : List ℕ) → along (own_method rows name) (filter is_user_class (superclasses rows at))
      ≡ option_map (found_at nodes) (nearest name)
  nearest_is name = grind (arith, common_steps, methods_along forest name (superclasses rows at), s.under.chain)

  -- where a name is left, its nearest member is an abstract method
  nearest_left : (name : List ℕ) → left name ≡ true →
      (m : Member) × (nearest name ≡ Some m) × (is_abstract_at nodes m ≡ true)
  nearest_left name h =
      let m = unwrap_or (nearest name) (member 0 0) in
      let found = nearest_is name in
      let abstract = found_abstract nodes m in
      (m, grind (arith, common_steps, h, found), grind (arith, common_steps, h, found, abstract))

  -- where the user classes give a method, it counts
  counts : (name : List ℕ) → is_some (nearest name) ≡ true → these name ≡ left name
  counts name h = grind (arith, common_steps, h, by_users forest scope s name, nearest_is name)

  leaves_is : leaves_declared_open (declarations_of forest) at ≡ list_any (passes nodes these) (own ++ above)
  unfolding leaves_declared_open declared_abstract_methods
  leaves_is = grind (arith, common_steps, tests_of forest at (superclasses rows at), s.under.chain)

  left_open : (name : List ℕ) → left name ≡ true → leaves_declared_open (declarations_of forest) at ≡ true
  left_open name h =
      let m = nearest_left name h in
      leaves_is ∙ first_any nodes these name (own ++ above) m.0 m.1 m.2 (counts name (ap is_some m.1) ∙ h)

  abbrev own_left : Bool
  own_left = list_any (passes nodes left) own

  abbrev others_left : Bool
  others_left = list_any (passes nodes left) (values_of scope.above.methods.abstracts.entries)

  -- a name that is left is one of the class itself, or one that is open above
  found_left : (name : List ℕ) → left name ≡ true → (own_left || others_left) ≡ true
  found_left name h =
      let m = nearest_left name h in
      let parts = find-append (is_named nodes name) own above in
      let mine = first_any nodes left name own m.0 in
      let theirs = first_passes nodes left name above m.0 in
      let value = value_any (passes nodes left) (is_at (slice_cmp nat_cmp name)) scope.above.methods.abstracts.entries
      m.0 in
      let abstracts = s.above.methods.reported.abstracts name in
      grind (arith, common_steps, m.1, m.2, h, parts, mine, theirs, value, abstracts, s.above.methods.nearest name)

  abbrev own_nodes_left : Bool
  own_nodes_left = list_any (leaves_at nodes rows at) (members_in (declarations_of forest) at)

  own_is : own_nodes_left ≡ own_left
  own_is = any_mapped (passes nodes left) (member at) (members_in (declarations_of forest) at)

  pub leaves_by_own : true ≡ own_nodes_left → true ≡ leaves_declared_open (declarations_of forest) at
  leaves_by_own h = let t = some_tested nodes left own (sym (h ∙ own_is)) in sym (left_open t.0 t.1)

  pub leaves_by_others : false ≡ own_nodes_left → others_left ≡ leaves_declared_open (declarations_of forest) at
  leaves_by_others h =
      let found = λ (e : others_left ≡ true).
      let t = some_tested nodes left (values_of scope.above.methods.abstracts.entries) e in left_open t.0 t.1 in
      let back = λ (e : leaves_declared_open (declarations_of forest) at ≡ true).
      let t = some_tested nodes these (own ++ above) (sym leaves_is ∙ e) in
      found_left t.0 (sym (counts t.0 t.2) ∙ t.1) in
      grind (arith, common_steps, h, own_is, found, back)
