-- The members of all classes in one list, and what is entered under their names and nodes.
use Rattle.std.proofs.Common.{◌≡◌, ℕ, zero, suc, ◌+◌, ◌-◌, ◌<◌, ◌≤◌, ◌==◌, nat_lt, Bool, true, false, cond, get_or, List, [], ◌∷◌, ◌++◌, length, drop, map, filter, flat_map, slice_get, Option, Some, None, option_map, option_and_then, refl, sym, ap, ◌∙◌, arith, append_assoc, if◌then◌else◌}
use Rattle.std.specs.List.{find, filter_map, position, position_from}
use Rattle.std.specs.Option.{option_or}
use Rattle.std.proofs.lemmas.Bool.{true≢false}
use Rattle.std.proofs.lemmas.Bool.Decides.{nat_tests}
use Rattle.std.proofs.lemmas.Grind.{common_steps}
use Rattle.std.proofs.lemmas.Cmp.{nat_list_eq_equiv}
use Rattle.std.proofs.lemmas.Slice.Eq.{bytes_eq-Decides}
use Rattle.std.proofs.lemmas.Iterator.Adapters.{position_from-zero}
use Rattle.std.proofs.lemmas.List.{drop_more, at_drop_all}
use Rattle.std.proofs.lemmas.List.Concat.{flat_map-append}
use Rattle.std.proofs.lemmas.List.Folds.{find-append, flat_map-map}
use Rattle.std.proofs.lemmas.Option.{slice_get_past}
use Rattle.scj_base.specs.Bytes.{is_same}
use Rattle.scj_builtins.specs.declared.classes.FrameworkClass.{FrameworkClass}
use Rattle.scj_builtins.specs.Framework.{framework_classes, framework_methods}
use Rattle.scj_tree.specs.declared.nodes.Node.{Node}
use Rattle.scj_tree.specs.Forest.{Forest}
use Rattle.scj_rules.specs.declared.views.Declared.{Declared}
use Rattle.scj_rules.specs.Words.{holds}
use Rattle.scj_rules.specs.Views.{WrittenClass, field_at}
use Rattle.scj_rules.specs.Classes.{ClassRow, field_nodes, field_number, method_nodes, method_number, counted_from, user_classes, class_names, written_rows, user_row, framework_row, framework_rows_from}
use Rattle.scj_rules.specs.Contexts.{Declarations, declarations_of}
use Rattle.class_rows.specs.declared.members.OwnKey.{OwnKey}
use Rattle.class_rows.specs.declared.members.MemberKind.{MemberKind}
use Rattle.class_rows.specs.declared.members.MemberKind.TheVariants.{Field, Method}
use Rattle.class_rows.specs.Members.{is_member, name_at, first_named, first_declared, is_like, member_nodes, number_at, first_number, own_key, is_same_own, in_class}
use Rattle.class_rows.specs.Tables.{members_in, class_written}
use Rattle.class_rows.proofs.FieldLemmas.{field_there}
use Rattle.class_rows.proofs.RowLemmas.{keeps}
use Rattle.class_rows.proofs.SoundLemmas.{members_of}

-- ---- the list of their nodes

abbrev pub own_nodes : MemberKind → List Node → ClassRow → List ℕ
own_nodes kind nodes row = filter (is_member kind nodes) (members_of row.written)

-- those of the classes from a number on
abbrev pub nodes_left : MemberKind → Forest → ℕ → List ℕ
nodes_left kind forest n = flat_map (own_nodes kind forest.nodes) (drop n (declarations_of forest).written)

left_more : (kind : MemberKind) (nodes : List Node) (rows : List ClassRow) (n : ℕ) → n < length rows
    → filter (is_member kind nodes) (members_of (option_and_then (λ (row : ClassRow). row.written) (slice_get rows n)))
    ++ flat_map (own_nodes kind nodes) (drop (n + 1) rows) ≡ flat_map (own_nodes kind nodes) (drop n rows)
left_more kind nodes [] n h = absurd (omega (arith, h))
left_more kind nodes (r ∷ rows) zero h = refl
left_more kind nodes (r ∷ rows) (suc n) h = let next : suc n + 1 ≡ suc (n + 1) = omega arith in
    rw next (left_more kind nodes rows n (omega (arith, h)))

pub nodes_more : (kind : MemberKind) (forest : Forest) (n : ℕ) (ids : List ℕ) →
    n < length (declarations_of forest).written
    → (ids ++ filter (is_member kind forest.nodes) (members_in (declarations_of forest) n))
    ++ nodes_left kind forest (n + 1) ≡ ids ++ nodes_left kind forest n
unfolding members_in class_written
nodes_more kind forest n ids h =
    append_assoc ids (filter (is_member kind forest.nodes) (members_in (declarations_of forest) n))
    (nodes_left kind forest (n + 1))
    ∙ ap (λ (xs : List ℕ). ids ++ xs) (left_more kind forest.nodes (declarations_of forest).written n h)

pub nodes_end : (kind : MemberKind) (forest : Forest) (n : ℕ) → length (declarations_of forest).written ≤ n →
    nodes_left kind forest n ≡ []
nodes_end kind forest n h = at_drop_all (flat_map (own_nodes kind forest.nodes)) (declarations_of forest).written n h

-- what only user classes have
of_framework : {A : Type 0} (f : ClassRow → List A) → ((n : ℕ) (c : FrameworkClass) → f (framework_row n c) ≡ []) →
    (n : ℕ) (cs : List FrameworkClass) → flat_map f (framework_rows_from n cs) ≡ []
unfolding framework_rows_from
of_framework f none n [] = refl
of_framework f none n (c ∷ cs) = rw (none n c) (of_framework f none (n + 1) cs)

of_users : {A : Type 0} (f : ClassRow → List A) → ((n : ℕ) (c : FrameworkClass) → f (framework_row n c) ≡ []) →
    (nodes : List Node) (users : List WrittenClass)
    → flat_map f (written_rows nodes users) ≡ flat_map (λ c. f (user_row nodes (class_names users) c)) users
unfolding written_rows
of_users f none nodes users =
    flat_map-append f (framework_rows_from 0 framework_classes) (map (user_row nodes (class_names users)) users)
    ∙ ap (λ xs. xs ++ flat_map f (map (user_row nodes (class_names users)) users))
    (of_framework f none 0 framework_classes) ∙ flat_map-map f (user_row nodes (class_names users)) users

abbrev row_fields : ClassRow → List ℕ
row_fields row = map (λ (f : Declared). f.node) row.fields

fields_counted : (p : Declarations) (class : ℕ) (xs : List ClassRow) →
    flat_map row_fields (counted_from p.names p.written class xs) ≡ flat_map row_fields xs
unfolding counted_from
fields_counted p class [] = refl
fields_counted p class (row ∷ more) =
    ap (λ ys. ys ++ flat_map row_fields (counted_from p.names p.written (class + 1) more))
    (keeps row_fields (λ r. refl) p class row) ∙ ap (λ ys. row_fields row ++ ys) (fields_counted p (class + 1) more)

fields_listed : (nodes : List Node) (ids : List ℕ) →
    filter (is_member Field nodes) ids ≡ map (λ (f : Declared). f.node) (filter_map (field_at nodes) ids)
unfolding is_member
fields_listed nodes [] = refl
fields_listed nodes (id ∷ ids) = grind (arith, common_steps, field_there nodes id, fields_listed nodes ids)

pub nodes_all : (kind : MemberKind) (forest : Forest) → nodes_left kind forest 0 ≡ member_nodes kind forest
unfolding member_nodes is_member declarations_of field_nodes method_nodes user_row framework_row
nodes_all Field forest =
    let users = user_classes forest in
    of_users (own_nodes Field forest.nodes) (λ n c. refl) forest.nodes users
    ∙ (λ i. flat_map (λ (c : WrittenClass). fields_listed forest.nodes c.members i) users) ∙ sym (of_users row_fields (λ n c. refl) forest.nodes users)
    ∙ sym (fields_counted (declarations_of forest) 0 (declarations_of forest).written)
nodes_all Method forest = of_users (own_nodes Method forest.nodes) (λ n c. refl) forest.nodes (user_classes forest)

-- ---- names

-- one member more before those that are entered
pub find_back : (test : ℕ → Bool) (members : List ℕ) (at id : ℕ) → 0 < at → at ≤ length members →
    id ≡ get_or members (at - 1) id →
    cond (test id) (Some id) (find test (drop at members)) ≡ find test (drop (at - 1) members)
find_back test members at id some within is_id =
    let back : at - 1 + 1 ≡ at = omega arith in
    let here : drop (at - 1) members ≡ id ∷ drop at members = drop_more members (at - 1) id (omega arith)
    ∙ ap (λ (x : ℕ). x ∷ drop (at - 1 + 1) members) (sym is_id) ∙ ap (λ (n : ℕ). id ∷ drop n members) back in
    sym (ap (find test) here)

-- a member with the name or without one, before those that are entered
pub first_entered : (kind : MemberKind) (nodes : List Node) (key name ids : List ℕ) (at id : ℕ) → 0 < at →
    at ≤ length ids → id ≡ get_or ids (at - 1) id → Some name ≡ name_at kind nodes id → cond (is_same name key)
    (Some id) (first_named kind nodes key (drop at ids)) ≡ first_named kind nodes key (drop (at - 1) ids)
first_entered kind nodes key name ids at id some within is_id named =
    ap (λ (t : Bool). cond t (Some id) (first_named kind nodes key (drop at ids)))
    (nat_list_eq_equiv.symm name key ∙ ap (λ (o : Option (List ℕ)). holds o (is_same key)) named)
    ∙ find_back (λ i. holds (name_at kind nodes i) (is_same key)) ids at id some within is_id

-- the same under a class and the first of the name
pub own_entered : (test : ℕ → Bool) (class : ℕ) (key : OwnKey) (members : List ℕ) (at id first : ℕ)
    (old found : Option ℕ) → 0 < at → at ≤ length members → id ≡ get_or members (at - 1) id →
    (first == key.first) ≡ test id → found ≡ option_or (in_class class key (find test (drop at members))) old
    → cond (is_same_own (own_key class first) key) (Some id) found
    ≡ option_or (in_class class key (find test (drop (at - 1) members))) old
own_entered test class key members at id first old found some within is_id same before =
    grind (arith, common_steps, before, same, find_back test members at id some within is_id)

-- what is found for a key after the classes below a number
abbrev pub named_below : Forest → (ℕ → Bool) → ℕ → ℕ → Option ℕ
named_below forest test class n = if nat_lt class n then find test (members_in (declarations_of forest) class) else None

pub names_none : (forest : Forest) (test : ℕ → Bool) (class : ℕ) (found : Option ℕ) → found ≡ None →
    found ≡ named_below forest test class 0
names_none forest test class found e = (let t : nat_lt class 0 ≡ false = grind (arith, nat_tests) in rw t e)

pub names_more : (forest : Forest) (test : ℕ → Bool) (key : OwnKey) (n : ℕ) (old new : Option ℕ) →
    old ≡ named_below forest test key.class n →
    new ≡ option_or (in_class n key (find test (members_in (declarations_of forest) n))) old →
    new ≡ named_below forest test key.class (n + 1)
names_more forest test key n old new h k = grind (arith, common_steps, nat_tests)

-- all classes are entered
pub names_all : (forest : Forest) (test : ℕ → Bool) (class n : ℕ) → length (declarations_of forest).written ≤ n →
    named_below forest test class n ≡ find test (members_in (declarations_of forest) class)
unfolding members_in class_written
names_all forest test class n h =
    grind (arith, common_steps, nat_tests, slice_get_past (declarations_of forest).written class, h)

-- ---- the first of a name stands for it

pub find_passes : {A : Type 0} (test : A → Bool) (xs : List A) (x : A) → find test xs ≡ Some x → test x ≡ true
find_passes test [] x h = cc
find_passes test (y ∷ xs) x h = grind (arith, common_steps, h, find_passes test xs x)

both_names : (name also : List ℕ) (o : Option (List ℕ)) → holds o (is_same name) ≡ true →
    holds o (is_same also) ≡ true → is_same name also ≡ true
both_names name also None h k = absurd (true≢false (sym h))
both_names name also (Some own) h k = ap (is_same name) ((bytes_eq-Decides also own).0 k) ∙ h

unnamed : (kind : MemberKind) (nodes : List Node) (name : List ℕ) (id : ℕ) → is_member kind nodes id ≡ false →
    holds (name_at kind nodes id) (is_same name) ≡ false
unfolding is_member name_at
unnamed Field nodes name id e = grind (arith, common_steps, e)
unnamed Method nodes name id e = grind (arith, common_steps, e)

module _ (kind : MemberKind) (forest : Forest) (name : List ℕ) where
  abbrev named : List ℕ → ℕ → Bool
  named also id = holds (name_at kind forest.nodes id) (is_same also)

  like_name : (first : ℕ) (also : List ℕ) (o : Option ℕ) → Some first ≡ first_declared kind forest name →
      first_declared kind forest also ≡ o → holds o (λ other. other == first) ≡ is_same name also
  like_name first also None h k =
      let same : is_same name also ≡ true → name ≡ also = (bytes_eq-Decides name also).0 in
      grind (arith, common_steps, h, k, same)
  like_name first also (Some other) h k =
      let same : is_same name also ≡ true → name ≡ also = (bytes_eq-Decides name also).0 in
      let mine = find_passes (named name) (member_nodes kind forest) first (sym h) in
      let its = find_passes (named also) (member_nodes kind forest) other k in
      grind (arith, common_steps, nat_tests, h, k, same, mine, its, both_names name also)

  pub like_named : (firsts : List ℕ → Option ℕ) → ((also : List ℕ) → firsts also ≡ first_declared kind forest also) →
      (first : ℕ) → Some first ≡ first_declared kind forest name → (members : List ℕ)
      → find (is_like kind forest.nodes firsts first) members ≡ first_named kind forest.nodes name members
  like_named firsts are first h members =
      λ i. find (λ id. go (name_at kind forest.nodes id) i) members
    where
      go : (o : Option (List ℕ)) → holds (option_and_then firsts o) (λ other. other == first) ≡ holds o (is_same name)
      go None = refl
      go (Some also) = like_name first also (firsts also) h (sym (are also))

  -- where no class has a member of the name, none of a class has
  none_filtered : (xs : List ℕ) → find (named name) (filter (is_member kind forest.nodes) xs) ≡ None →
      find (named name) xs ≡ None
  none_filtered [] h = refl
  none_filtered (x ∷ xs) h = grind (arith, common_steps, h, none_filtered xs, unnamed kind forest.nodes name x)

  none_in : (rows : List ClassRow) (i : ℕ) (row : ClassRow) →
      find (named name) (flat_map (own_nodes kind forest.nodes) rows) ≡ None → slice_get rows i ≡ Some row →
      find (named name) (members_of row.written) ≡ None
  none_in [] i row h e = cc
  none_in (r ∷ rows) zero row h e =
      let parts = find-append (named name) (own_nodes kind forest.nodes r) (flat_map (own_nodes kind forest.nodes) rows) in
      grind (arith, common_steps, h, e, parts, none_filtered (members_of r.written))
  none_in (r ∷ rows) (suc i) row h e =
      let parts = find-append (named name) (own_nodes kind forest.nodes r) (flat_map (own_nodes kind forest.nodes) rows) in
      grind (arith, common_steps, h, e, parts, none_in rows i row)

  pub none_declared : (class : ℕ) → None ≡ first_declared kind forest name →
      None ≡ first_named kind forest.nodes name (members_in (declarations_of forest) class)
  unfolding members_in class_written
  none_declared class h =
      let none = ap (find (named name)) (nodes_all kind forest) ∙ sym h in
      grind (arith, common_steps, none, none_in (declarations_of forest).written class)

-- ---- numbers

from_first : {A : Type 0} (test : A → Bool) (first i : ℕ) (xs : List A) →
    position_from test (first + i) xs ≡ option_map (λ index. first + index) (position_from test i xs)
from_first test first i [] = refl
from_first test first i (x ∷ xs) =
    (let e : first + i + 1 ≡ first + (i + 1) = omega arith in
    ap (λ (n : ℕ). cond (test x) (Some (first + i)) (position_from test n xs)) e)
    ∙ ap (cond (test x) (Some (first + i))) (from_first test first (i + 1) xs) ∙ grind (arith, common_steps)

pub places_all : {A : Type 0} (test : A → Bool) (first : ℕ) (xs : List A) →
    position_from test (first + 0) xs ≡ option_map (λ index. first + index) (position test xs)
places_all test first xs =
    from_first test first 0 xs ∙ ap (option_map (λ index. first + index)) (sym (position_from-zero test xs))

no_shift : (o : Option ℕ) → option_map (λ index. 0 + index) o ≡ o
no_shift None = refl
no_shift (Some k) = ap (λ (n : ℕ). Some n) (let e : 0 + k ≡ k = omega arith in e)

pub numbers_are : (kind : MemberKind) (forest : Forest) (id first : ℕ) (ids : List ℕ) → first ≡ first_number kind →
    ids ≡ member_nodes kind forest
    → option_map (λ index. first + index) (position (λ other. id == other) ids) ≡ number_at kind forest id
unfolding number_at member_nodes field_number method_number framework_methods
numbers_are Field forest id first ids e h =
    rw (e, h) (no_shift (position (λ other. id == other) (field_nodes (declarations_of forest).classes)))
numbers_are Method forest id first ids e h = rw (e, h) refl
