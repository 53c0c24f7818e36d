-- Superclasses and parents of scopes are numbers of classes of the program.
use Rattle.std.proofs.Common.{◌≡◌, ℕ, ◌+◌, ◌<◌, zero, suc, List, [], ◌∷◌, ◌++◌, length, map, refl, sym, ap, ◌∙◌, subst, arith, Option, Some, None, Bool, true, false, slice_get, nat_lt, cond, ◌==◌, if◌then◌else◌, option_and_then, position, length-append, option_map, ◌⊎◌, ◌↔◌, ⊎_elim, inl, inr, ◌||◌}
use Rattle.std.proofs.lemmas.Bool.Decides.{nat_tests}
use Rattle.std.specs.List.{position_or_len}
use Rattle.scj_tree.specs.declared.nodes.Node.{Node}
use Rattle.scj_tree.specs.Forest.{Forest}
use Rattle.scj_builtins.specs.declared.classes.FrameworkClass.{FrameworkClass}
use Rattle.scj_builtins.specs.Framework.{framework_classes, object}
use Rattle.scj_rules.specs.declared.scopes.Written.{Written}
use Rattle.scj_base.specs.Bytes.{is_same}
use Rattle.scj_rules.specs.Words.{is_among, chain, StaysBelow}
use Rattle.scj_rules.specs.Views.{WrittenClass}
use Rattle.scj_rules.specs.Classes.{ClassRow, class_names, class_number, framework_row, framework_rows_from, superclass_written, user_row, written_rows, superclass_in, counted_row, counted_from, is_well_headed, user_classes, first_user_class}
use Rattle.scj_rules.specs.Contexts.{Declarations, declarations_of, number_of_class}
use Rattle.scj_rules.specs.declared.scopes.Definition.{Definition}
use Rattle.scj_rules.specs.Definitions.{immortal, first_definition}
use Rattle.scj_rules.specs.ScopeRules.{immortal_scope, scope_number, scope_of_definition, parent_scope, definition_in, is_outer}
use Rattle.scj_rules.specs.Chains.{Follows}
use Rattle.scj_rules.proofs.ChainLemmas.{chain_reaches, or_left, or_right, or_cases, same_number, is_same_number}

pub position-below : {X : Type 0} (test : X → Bool) (xs : List X) (k : ℕ) → position test xs ≡ Some k → k < length xs
position-below test xs k h = go (nat_lt (position_or_len test xs) (length xs)) refl h
  where
    go : (t : Bool) → nat_lt (position_or_len test xs) (length xs) ≡ t →
        cond t (Some (position_or_len test xs)) None ≡ Some k → k < length xs
    go true e h =
        let same : position_or_len test xs ≡ k = cc in
        (let P : ℕ → Type 0 = λ x. x < length xs in subst P same (grind (arith, nat_tests)))
    go false e h = cc

length-map : {X Y : Type 0} (f : X → Y) (xs : List X) → length (map f xs) ≡ length xs
length-map f [] = refl
length-map f (x ∷ xs) = ap suc (length-map f xs)

-- the superclass of each row is a number below n
abbrev RowWithin : ℕ → ClassRow → Type 0
RowWithin n row = (s : ℕ) → row.superclass ≡ Some s → s < n

AllWithin : ℕ → List ClassRow → Type 0
AllWithin n [] = Unit {0}
AllWithin n (row ∷ rows) = RowWithin n row × AllWithin n rows

within-get : (n : ℕ) (rows : List ClassRow) (a : ℕ) (row : ClassRow) → AllWithin n rows → slice_get rows a ≡ Some row →
    RowWithin n row
unfolding AllWithin
within-get n [] a row h e = cc
within-get n (r ∷ rows) zero row h e = subst (RowWithin n) (let same : r ≡ row = cc in same) h.0
within-get n (r ∷ rows) (suc a) row h e = within-get n rows a row h.1 e

stays-below : (n : ℕ) (rows : List ClassRow) → AllWithin n rows → StaysBelow (superclass_in rows) n
stays-below n rows h a b e = go (slice_get rows a) refl e
  where
    go : (o : Option ClassRow) → slice_get rows a ≡ o →
        option_and_then (λ (row : ClassRow). row.superclass) o ≡ Some b → b < n
    go None e k = cc
    go (Some row) e k = within-get n rows a row h e b k

within-append : (n : ℕ) (xs ys : List ClassRow) → AllWithin n xs → AllWithin n ys → AllWithin n (xs ++ ys)
unfolding AllWithin
within-append n [] ys h k = k
within-append n (x ∷ xs) ys h k = (h.0, within-append n xs ys h.1 k)

object-within : (n s : ℕ) (t : Bool) → 0 < n → (if t then None else Some object) ≡ Some s → s < n
object-within n s true l e = cc
object-within n s false l e =
    let same : 0 ≡ s = cc in
    (let P : ℕ → Type 0 = λ x. x < n in subst P same l)

framework-within : (n number : ℕ) (cs : List FrameworkClass) → 0 < n → AllWithin n (framework_rows_from number cs)
unfolding AllWithin framework_rows_from framework_row
framework-within n number [] l = tt
framework-within n number (c ∷ cs) l =
    (λ s e. object-within n s (number == object) l e, framework-within n (number + 1) cs l)

superclass-within : (names : List (List ℕ)) (extends : Option Written) → 0 < length names → (s : ℕ) →
    superclass_written names extends ≡ Some s → s < length names
unfolding superclass_written class_number
superclass-within names None l s e =
    let same : 0 ≡ s = cc in
    (let P : ℕ → Type 0 = λ x. x < length names in subst P same l)
superclass-within names (Some w) l s e = position-below (is_same w.name) names s e

users-within : (nodes : List Node) (names : List (List ℕ)) (users : List WrittenClass) → 0 < length names →
    AllWithin (length names) (map (user_row nodes names) users)
unfolding AllWithin user_row
users-within nodes names [] l = tt
users-within nodes names (c ∷ users) l = (superclass-within names c.extends l, users-within nodes names users l)

pub length-framework : (number : ℕ) (cs : List FrameworkClass) → length (framework_rows_from number cs) ≡ length cs
unfolding framework_rows_from
length-framework number [] = refl
length-framework number (c ∷ cs) = ap suc (length-framework (number + 1) cs)

length-names : (users : List WrittenClass) → length (class_names users) ≡ length framework_classes + length users
unfolding class_names
length-names users = length-append (map (λ (c : FrameworkClass). c.name) framework_classes)
    (map (λ (c : WrittenClass). c.name) users)
    ∙ (let a = length-map (λ (c : FrameworkClass). c.name) framework_classes in
    let b = length-map (λ (c : WrittenClass). c.name) users in rw (a, b) refl)

length-written : (nodes : List Node) (users : List WrittenClass) →
    length (written_rows nodes users) ≡ length (class_names users)
unfolding written_rows
length-written nodes users =
    length-append (framework_rows_from 0 framework_classes) (map (user_row nodes (class_names users)) users)
    ∙ (let a = length-framework 0 framework_classes in let b = length-map (user_row nodes (class_names users)) users in
    rw (a, b) (sym (length-names users)))

pub length-counted : (names : List (List ℕ)) (all : List ClassRow) (class : ℕ) (rows : List ClassRow) →
    length (counted_from names all class rows) ≡ length rows
unfolding counted_from
length-counted names all class [] = refl
length-counted names all class (row ∷ rows) = ap suc (length-counted names all (class + 1) rows)

-- each class has a name
pub as_many_names : (forest : Forest) → length (declarations_of forest).classes ≡ length (declarations_of forest).names
unfolding declarations_of
as_many_names forest =
    let users = user_classes forest in
    let rows = written_rows forest.nodes users in
    length-counted (class_names users) rows 0 rows ∙ length-written forest.nodes users

pub user_count : (forest : Forest) → length (declarations_of forest).classes ≡ first_user_class
    + length (user_classes forest)
unfolding declarations_of framework_classes
user_count forest = as_many_names forest ∙ length-names (user_classes forest)

some-names : (users : List WrittenClass) → 0 < length (class_names users)
unfolding framework_classes
some-names users = rw (length-names users) (omega arith)

written-within : (nodes : List Node) (users : List WrittenClass) →
    AllWithin (length (class_names users)) (written_rows nodes users)
unfolding written_rows
written-within nodes users =
    within-append (length (class_names users)) (framework_rows_from 0 framework_classes)
    (map (user_row nodes (class_names users)) users)
    (framework-within (length (class_names users)) 0 framework_classes (some-names users))
    (users-within nodes (class_names users) users (some-names users))

counted-row-within : (n : ℕ) (names : List (List ℕ)) (all : List ClassRow) (class : ℕ) (row : ClassRow) → 0 < n →
    RowWithin n row → RowWithin n (counted_row names all class row)
unfolding counted_row
counted-row-within n names all class row l h = go row.written
  where
    reset : ClassRow
    reset = record row { superclass = Some object; interfaces = [] }

    pick : (t : Bool) → RowWithin n (if t then row else record row { superclass = Some object; interfaces = [] })
    pick true = h
    pick false = λ s e. object-within n s false l e

    go : (o : Option WrittenClass) →
        RowWithin n
        (elim o [
          | None ↦ row
          | Some c ↦ if is_well_headed names all class c then row else record row
              { superclass = Some object; interfaces = [] }
        ])
    go None = h
    go (Some c) = pick (is_well_headed names all class c)

counted-within : (n : ℕ) (names : List (List ℕ)) (all : List ClassRow) (class : ℕ) (rows : List ClassRow) → 0 < n →
    AllWithin n rows → AllWithin n (counted_from names all class rows)
unfolding AllWithin counted_from
counted-within n names all class [] l h = tt
counted-within n names all class (row ∷ rows) l h =
    (counted-row-within n names all class row l h.0, counted-within n names all (class + 1) rows l h.1)

-- the superclasses of the classes of a program, as written and as they count
pub written-stays : (forest : Forest) → StaysBelow (superclass_in (declarations_of forest).written)
    (length (declarations_of forest).written)
unfolding declarations_of
written-stays forest =
    let users = user_classes forest in
    let h = stays-below (length (class_names users)) (written_rows forest.nodes users)
    (written-within forest.nodes users) in
    (let P : ℕ → Type 0 = λ n. StaysBelow (superclass_in (written_rows forest.nodes users)) n in
    subst P (sym (length-written forest.nodes users)) h)

pub counted-stays : (forest : Forest) → StaysBelow (superclass_in (declarations_of forest).classes)
    (length (declarations_of forest).classes)
unfolding declarations_of
counted-stays forest =
    let users = user_classes forest in
    let rows = written_rows forest.nodes users in
    let counted = counted_from (class_names users) rows 0 rows in
    let h =
    stays-below (length (class_names users)) counted
    (counted-within (length (class_names users)) (class_names users) rows 0 rows (some-names users)
    (written-within forest.nodes users)) in
    (let P : ℕ → Type 0 = λ n. StaysBelow (superclass_in counted) n in subst P (sym (as_many_names forest)) h)

-- ---- the parents of scopes

number-within : (nodes : List ℕ) (node k : ℕ) → number_of_class nodes node ≡ Some k →
    k < first_user_class + length nodes
unfolding number_of_class
number-within nodes node k h = go (position (λ other. node == other) nodes) refl h
  where
    go : (o : Option ℕ) → position (λ other. node == other) nodes ≡ o →
        option_map (λ j. first_user_class + j) o ≡ Some k → k < first_user_class + length nodes
    go None e h = cc
    go (Some j) e h =
        let same : first_user_class + j ≡ k = cc in
        let l : j < length nodes = position-below (λ other. node == other) nodes j e in
        (let P : ℕ → Type 0 = λ x. x < first_user_class + length nodes in subst P same (omega (arith, l)))

abbrev user_nodes : Declarations → List ℕ
user_nodes p = map (λ (c : WrittenClass). c.node) p.users

named-within : (p : Declarations) (s : ℕ) (o : Option Definition) → option_and_then (scope_of_definition p) o ≡ Some s →
    s < first_user_class + length (user_nodes p)
named-within p s None h = cc
named-within p s (Some d) h = number-within (user_nodes p) d.class s h

scope-within : (p : Declarations) (name : List ℕ) (s : ℕ) → scope_number p name ≡ Some s →
    s < first_user_class + length (user_nodes p)
unfolding scope_number
scope-within p name s h = go (is_same name immortal) h
  where
    go : (t : Bool) →
        (if t then Some immortal_scope else option_and_then (scope_of_definition p) (first_definition p.scopes name))
        ≡ Some s → s < first_user_class + length (user_nodes p)
    go true h =
        let same : 0 ≡ s = cc in
        (let P : ℕ → Type 0 = λ x. x < first_user_class + length (user_nodes p) in subst P same (omega arith))
    go false h = named-within p s (first_definition p.scopes name) h

parent-within : (p : Declarations) (a b : ℕ) → parent_scope p a ≡ Some b → b < first_user_class + length (user_nodes p)
unfolding parent_scope
parent-within p a b h = go (definition_in p a) h
  where
    go : (o : Option Definition) → option_and_then (λ (d : Definition). scope_number p d.parent.name) o ≡ Some b →
        b < first_user_class + length (user_nodes p)
    go None h = cc
    go (Some d) h = scope-within p d.parent.name b h

length-classes : (forest : Forest) → length (declarations_of forest).classes ≡ first_user_class + length
    (user_nodes (declarations_of forest))
unfolding declarations_of
length-classes forest =
    user_count forest
    ∙ sym (ap (λ (n : ℕ). first_user_class + n) (length-map (λ (c : WrittenClass). c.node) (user_classes forest)))

-- the parents of the scopes of a program are numbers of its classes
pub parents-stay : (forest : Forest) → StaysBelow (parent_scope (declarations_of forest))
    (length (declarations_of forest).classes)
parents-stay forest a b h =
    (let P : ℕ → Type 0 = λ n. b < n in
    subst P (sym (length-classes forest)) (parent-within (declarations_of forest) a b h))

-- the root is outer of all, and any other scope of itself and of what it is reached from
pub outer-reaches : (forest : Forest) (a b : ℕ) → b < length (declarations_of forest).classes
    → (is_outer (declarations_of forest) a b ≡ true) ↔
    ((a ≡ immortal_scope) ⊎ ((b ≡ a) ⊎ Follows (parent_scope (declarations_of forest)) b a))
unfolding is_outer
outer-reaches forest a b l = (
  there,
  ⊎_elim (λ (e : a ≡ immortal_scope). or_left _ _ (is_same_number a immortal_scope e))
      (λ (r : (b ≡ a) ⊎ Follows (parent_scope (declarations_of forest)) b a). or_right _ _ (reaches.1 r)),
)
  where
    reaches : (is_among a (chain (parent_scope (declarations_of forest)) (length (declarations_of forest).classes) b)
        ≡ true) ↔ ((b ≡ a) ⊎ Follows (parent_scope (declarations_of forest)) b a)
    reaches = chain_reaches (parent_scope (declarations_of forest)) (length (declarations_of forest).classes) b a
        (parents-stay forest) l

    there : ((a == immortal_scope)
        || is_among a (chain (parent_scope (declarations_of forest)) (length (declarations_of forest).classes) b))
        ≡ true
        → (a ≡ immortal_scope) ⊎ ((b ≡ a) ⊎ Follows (parent_scope (declarations_of forest)) b a)
    there h = ⊎_elim (λ (e : (a == immortal_scope) ≡ true). inl (same_number a immortal_scope e))
        (λ (e : is_among a (chain (parent_scope (declarations_of forest)) (length (declarations_of forest).classes) b)
        ≡ true). inr (reaches.0 e))
        (or_cases (a == immortal_scope)
        (is_among a (chain (parent_scope (declarations_of forest)) (length (declarations_of forest).classes) b)) h)
