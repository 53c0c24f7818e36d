-- Subtypes are what steps from class to superclass or interface reach.
use Rattle.std.proofs.Common.{◌≡◌, ℕ, ◌+◌, ◌<◌, ◌≤◌, zero, suc, List, [], ◌∷◌, ◌++◌, length, map, get_or, refl, sym, ap, ◌∙◌, subst, arith, add-zero, Option, Some, None, option_map, option_and_then, is_some, Bool, true, false, true≢false, not, cond, if◌then◌else◌, ◌==◌, eqb, ◌&&◌, slice_get, filter, ◌⊎◌, inl, inr, ⊎_elim, ◌↔◌}
use Rattle.std.proofs.lemmas.Bool.{cases_Bool}
use Rattle.std.proofs.lemmas.Option.{slice_get_within, slice_get-get_or}
use Rattle.std.proofs.lemmas.Map.Steps.{length-le_from_distinct_below}
use Rattle.std.specs.List.{IsDistinct, filter_map, flat_map, cons_option}
use Rattle.scj_builtins.specs.declared.kinds.ClassKind.TheVariants.{Abstract as abstract_class, Concrete as concrete_class}
use Rattle.scj_builtins.specs.declared.classes.FrameworkClass.{FrameworkClass}
use Rattle.scj_builtins.specs.Framework.{framework_classes, object}
use Rattle.scj_tree.specs.declared.nodes.Node.{Node}
use Rattle.scj_tree.specs.Forest.{Forest}
use Rattle.scj_rules.specs.declared.scopes.Written.{Written}
use Rattle.scj_rules.specs.Words.{is_among, holds, chain, StaysBelow}
use Rattle.scj_rules.specs.Views.{WrittenClass}
use Rattle.scj_rules.specs.Classes.{ClassRow, class_names, class_number, user_classes, framework_row, framework_rows_from, superclass_written, user_row, written_rows, counted_row, counted_from, is_well_headed, is_empty, superclass_in, interfaces_in, superclasses, classes_above, all_interfaces, is_super, is_sub, is_cyclic, is_implemented, kinds_of, with_kinds, brings_too_many, is_forbidden_interface, is_forbidden_superclass, forbidden_interfaces, forbidden_supers, unknown_supers}
use Rattle.scj_rules.specs.Contexts.{declarations_of}
use Rattle.scj_rules.specs.Chains.{Follows, one, more, Reaches, here, after}
use Rattle.scj_rules.proofs.ChainLemmas.{same_number, is_same_number, or_cases, or_left, or_right, or_first_false, none_same, on_chain_follows, chain_reaches, chain_comes_back, among-behind, among-front, among-cases}
use Rattle.scj_rules.proofs.WithinLemmas.{written-stays, counted-stays, length-counted}

-- ---- rows as they are written: of a framework class, or of a user class

data Origin (nodes : List Node) (names : List (List ℕ)) (class : ℕ) : ClassRow → Type 0 where
  of_framework : (c : FrameworkClass) → Origin nodes names class (framework_row class c)
  of_user : (c : WrittenClass) → Origin nodes names class (user_row nodes names c)

Origins : List Node → List (List ℕ) → ℕ → List ClassRow → Type 0
Origins nodes names class [] = Unit {0}
Origins nodes names class (row ∷ rows) = Origin nodes names class row × Origins nodes names (class + 1) rows

origin-at : (nodes : List Node) (names : List (List ℕ)) (class : ℕ) (rows : List ClassRow) (i : ℕ) (row : ClassRow) →
    Origins nodes names class rows → slice_get rows i ≡ Some row → Origin nodes names (class + i) row
unfolding Origins
origin-at nodes names class [] i row s e = cc
origin-at nodes names class (r ∷ rows) zero row s e =
    let same : r ≡ row = cc in
    let first : Origin nodes names (class + 0) r = rw (add-zero class) s.0 in
    subst (Origin nodes names (class + 0)) same first
origin-at nodes names class (r ∷ rows) (suc i) row s e =
    let later : Origin nodes names (class + 1 + i) row = origin-at nodes names (class + 1) rows i row s.1 e in
    let same : class + 1 + i ≡ class + suc i = omega arith in
    (let P : ℕ → Type 0 = λ n. Origin nodes names n row in subst P same later)

origins-append : (nodes : List Node) (names : List (List ℕ)) (class : ℕ) (xs ys : List ClassRow) →
    Origins nodes names class xs → Origins nodes names (class + length xs) ys → Origins nodes names class (xs ++ ys)
unfolding Origins
origins-append nodes names class [] ys s t =
    (let P : ℕ → Type 0 = λ n. Origins nodes names n ys in subst P (add-zero class) t)
origins-append nodes names class (x ∷ xs) ys s t =
    let same : class + suc (length xs) ≡ class + 1 + length xs = omega arith in (
      s.0,
      origins-append nodes names (class + 1) xs ys s.1 (let P : ℕ → Type 0 = λ n. Origins nodes names n ys in
          subst P same t),
    )

framework-origins : (nodes : List Node) (names : List (List ℕ)) (class : ℕ) (cs : List FrameworkClass) →
    Origins nodes names class (framework_rows_from class cs)
unfolding Origins framework_rows_from
framework-origins nodes names class [] = tt
framework-origins nodes names class (c ∷ cs) = (of_framework c, framework-origins nodes names (class + 1) cs)

user-origins : (nodes : List Node) (names : List (List ℕ)) (class : ℕ) (users : List WrittenClass) →
    Origins nodes names class (map (user_row nodes names) users)
unfolding Origins
user-origins nodes names class [] = tt
user-origins nodes names class (c ∷ users) = (of_user c, user-origins nodes names (class + 1) users)

pub counted-at : (names : List (List ℕ)) (all : List ClassRow) (class : ℕ) (rows : List ClassRow) (k : ℕ) →
    slice_get (counted_from names all class rows) k ≡ option_map (counted_row names all (class + k)) (slice_get rows k)
unfolding counted_from
counted-at names all class [] k = refl
counted-at names all class (row ∷ rows) zero = ap (λ (n : ℕ). Some (counted_row names all n row)) (sym (add-zero class))
counted-at names all class (row ∷ rows) (suc k) =
    let same : class + 1 + k ≡ class + suc k = omega arith in
    counted-at names all (class + 1) rows k
    ∙ ap (λ (n : ℕ). option_map (counted_row names all n) (slice_get rows k)) same

-- the first row of all
record IsFirst (rows : List ClassRow) : Type 0 where
  class : FrameworkClass
  is : slice_get rows 0 ≡ Some (framework_row 0 class)

first-of : (cs : List FrameworkClass) (ys : List ClassRow) → 0 < length cs → IsFirst (framework_rows_from 0 cs ++ ys)
unfolding framework_rows_from
first-of [] ys l = absurd (omega (arith, l))
first-of (c ∷ cs) ys l = record { class = c; is = refl }

-- ---- tests and lists

none-some : (y : ℕ) → None ≡ Some y → ⊥
none-some y e = cc

is-not-false : (b : Bool) → not b ≡ true → b ≡ false
is-not-false true h = sym h
is-not-false false h = refl

is-not-true : (b : Bool) → not b ≡ false → b ≡ true
is-not-true true h = refl
is-not-true false h = sym h

all-three : (a b c : Bool) → (a && b && c) ≡ true → (a ≡ true) × ((b ≡ true) × (c ≡ true))
all-three true true true h = (refl, (refl, refl))
all-three true true false h = absurd (true≢false (sym h))
all-three true false c h = absurd (true≢false (sym h))
all-three false b c h = absurd (true≢false (sym h))

empty-second : (t : Bool) (w : Written) (ws : List Written) → is_empty ((if t then w ∷ [] else []) ++ ws) ≡ true →
    is_empty ws ≡ true
unfolding is_empty
empty-second true w ws h = absurd (true≢false (sym h))
empty-second false w ws h = h

empty-first : (t : Bool) (w : Written) (ws : List Written) → is_empty ((if t then w ∷ [] else []) ++ ws) ≡ true →
    t ≡ false
unfolding is_empty
empty-first true w ws h = absurd (true≢false (sym h))
empty-first false w ws h = refl

-- what a list of lists has, one of the lists has
record IsInOne (f : ℕ → List ℕ) (b : ℕ) (xs : List ℕ) : Type 0 where
  member : ℕ
  there : is_among member xs ≡ true
  has : is_among b (f member) ≡ true

in-one : (f : ℕ → List ℕ) (b : ℕ) (xs : List ℕ) → is_among b (flat_map f xs) ≡ true → IsInOne f b xs
in-one f b [] h = absurd (true≢false (sym h))
in-one f b (x ∷ xs) h =
    ⊎_elim
    (λ (e : is_among b (f x) ≡ true). record {
      member = x;
      there = or_left (x == x) (is_among x xs)
          (is_same_number x x refl);
      has = e;
    })
    (λ (e : is_among b (flat_map f xs) ≡ true).
    let r : IsInOne f b xs = in-one f b xs e in
    record { member = r.member; there = or_right (r.member == x) (is_among r.member xs) r.there; has = r.has })
    (among-cases b (f x) (flat_map f xs) h)

from-one : (f : ℕ → List ℕ) (b d : ℕ) (xs : List ℕ) → is_among d xs ≡ true → is_among b (f d) ≡ true →
    is_among b (flat_map f xs) ≡ true
from-one f b d [] h k = absurd (true≢false (sym h))
from-one f b d (x ∷ xs) h k =
    ⊎_elim
    (λ (e : (d == x) ≡ true). among-front b (f x) (flat_map f xs) (let P : ℕ → Type 0 = λ y. is_among b (f y) ≡ true in
    subst P (same_number d x e) k))
    (λ (e : is_among d xs ≡ true). among-behind b (f x) (flat_map f xs) (from-one f b d xs e k))
    (or_cases (d == x) (is_among d xs) h)

up-or-none : (y : ℕ) (t : Bool) → (if t then None else Some object) ≡ Some y → y ≡ object
up-or-none y true h = absurd (none-some y h)
up-or-none y false h = let same : object ≡ y = cc in sym same

holds-number : (c : ℕ) (o : Option ℕ) → holds o (λ x. x == c) ≡ true → o ≡ Some c
holds-number c None h = absurd (true≢false (sym h))
holds-number c (Some x) h = ap (λ (y : ℕ). Some y) (same_number x c h)

-- ---- the names in headers that are well formed

known-super : (names : List (List ℕ)) (ws : List Written) (o : Option Written)
    → is_empty
    (filter (λ (w : Written). not (is_some (class_number names w.name))) (elim o [ None ↦ ws | Some e ↦ e ∷ ws ]))
    ≡ true → superclass_written names o ≡ None → ⊥
unfolding is_empty superclass_written
known-super names ws None h k = cc
known-super names ws (Some e) h k = go (class_number names e.name) h k
  where
    go : (q : Option ℕ)
        → is_empty (cond (not (is_some q)) (e ∷ filter (λ (w : Written). not (is_some (class_number names w.name))) ws)
        (filter (λ (w : Written). not (is_some (class_number names w.name))) ws)) ≡ true
        → q ≡ None → ⊥
    go None h k = true≢false (sym h)
    go (Some class) h k = cc

abbrev IsImplemented : List ClassRow → ℕ → Type 0
IsImplemented rows i = holds (slice_get rows i) (λ (row : ClassRow). is_implemented row.kind) ≡ true

one-implemented : (names : List (List ℕ)) (rows : List ClassRow) (before : List ℕ) (w : Written) (ws : List Written)
    (i class : ℕ)
    → is_empty ((if is_forbidden_interface rows before class then w ∷ [] else [])
    ++ forbidden_interfaces names rows (with_kinds before (kinds_of rows class)) ws) ≡ true → (i == class) ≡ true →
    IsImplemented rows i
one-implemented names rows before w ws i class h e =
    let allowed : is_forbidden_interface rows before class ≡ false =
    empty-first (is_forbidden_interface rows before class) w
    (forbidden_interfaces names rows (with_kinds before (kinds_of rows class)) ws) h in
    let good : IsImplemented rows class =
    is-not-true (holds (slice_get rows class) (λ (row : ClassRow). is_implemented row.kind))
    (or_first_false (not (holds (slice_get rows class) (λ (row : ClassRow). is_implemented row.kind)))
    (brings_too_many before (kinds_of rows class)) allowed) in
    subst (IsImplemented rows) (sym (same_number i class e)) good

all-implemented : (names : List (List ℕ)) (rows : List ClassRow) (before : List ℕ) (ws : List Written) →
    is_empty (forbidden_interfaces names rows before ws) ≡ true
    → (i : ℕ) → is_among i (filter_map (λ (w : Written). class_number names w.name) ws) ≡ true → IsImplemented rows i
unfolding forbidden_interfaces
all-implemented names rows before [] h i k = absurd (true≢false (sym k))
all-implemented names rows before (w ∷ ws) h i k =
    go (λ more-kinds. all-implemented names rows more-kinds ws) (class_number names w.name) h k
  where
    go : ((kinds : List ℕ) → is_empty (forbidden_interfaces names rows kinds ws) ≡ true → (j : ℕ) →
        is_among j (filter_map (λ (v : Written). class_number names v.name) ws) ≡ true → IsImplemented rows j)
        → (q : Option ℕ)
        → is_empty (elim q [
          | None ↦ forbidden_interfaces names rows before ws
          | Some class ↦ (if is_forbidden_interface rows before class then w ∷ [] else [])
              ++ forbidden_interfaces names rows (with_kinds before (kinds_of rows class)) ws
        ]) ≡ true
        → is_among i (cons_option q (filter_map (λ (v : Written). class_number names v.name) ws)) ≡ true →
        IsImplemented rows i
    go rest None h k = rest before h i k
    go rest (Some class) h k =
        ⊎_elim
        (λ (e : (i == class) ≡ true). one-implemented names rows before w ws i class h e)
        (λ (e : is_among i (filter_map (λ (v : Written). class_number names v.name) ws) ≡ true).
        rest (with_kinds before (kinds_of rows class))
        (empty-second (is_forbidden_interface rows before class) w
        (forbidden_interfaces names rows (with_kinds before (kinds_of rows class)) ws) h) i e)
        (or_cases (i == class) (is_among i (filter_map (λ (v : Written). class_number names v.name) ws)) k)

header-implemented : (names : List (List ℕ)) (rows : List ClassRow) (c : WrittenClass) →
    is_empty (forbidden_supers names rows c) ≡ true
    → (i : ℕ) → is_among i (filter_map (λ (w : Written). class_number names w.name) c.implements) ≡ true →
    IsImplemented rows i
unfolding forbidden_supers
header-implemented names rows c h i k = go c.extends h
  where
    named : (e : Written) (q : Option ℕ)
        → is_empty (elim q [
          | None ↦ forbidden_interfaces names rows [] c.implements
          | Some class ↦ (if is_forbidden_superclass rows class then e ∷ [] else [])
              ++ forbidden_interfaces names rows (kinds_of rows class) c.implements
        ]) ≡ true → IsImplemented rows i
    named e None h = all-implemented names rows [] c.implements h i k
    named e (Some class) h =
        all-implemented names rows (kinds_of rows class) c.implements
        (empty-second (is_forbidden_superclass rows class) e
        (forbidden_interfaces names rows (kinds_of rows class) c.implements) h) i k

    go : (o : Option Written)
        → is_empty (elim o [
          | None ↦ forbidden_interfaces names rows [] c.implements
          | Some e ↦ elim (class_number names e.name) [
            | None ↦ forbidden_interfaces names rows [] c.implements
            | Some class ↦ (if is_forbidden_superclass rows class then e ∷ [] else [])
                ++ forbidden_interfaces names rows (kinds_of rows class) c.implements
          ]
        ]) ≡ true → IsImplemented rows i
    go None h = all-implemented names rows [] c.implements h i k
    go (Some e) h = named e (class_number names e.name) h

-- ---- the classes as they count

module _ (nodes : List Node) (names : List (List ℕ)) (rows : List ClassRow) (origins : Origins nodes names 0 rows)
    (first : IsFirst rows)
    (stays_written : StaysBelow (superclass_in rows) (length rows))
    (stays : StaysBelow (superclass_in (counted_from names rows 0 rows)) (length (counted_from names rows 0 rows)))
  where
    abbrev counted : List ClassRow
    counted = counted_from names rows 0 rows

    abbrev next : ℕ → Option ℕ
    next = superclass_in counted

    abbrev faces : ℕ → List ℕ
    faces = interfaces_in counted

    counts-at : (k : ℕ) → slice_get counted k ≡ option_map (counted_row names rows k) (slice_get rows k)
    counts-at k = counted-at names rows 0 rows k
        ∙ (let same : 0 + k ≡ k = omega arith in
        ap (λ (n : ℕ). option_map (counted_row names rows n) (slice_get rows k)) same)

    origin : (k : ℕ) (row : ClassRow) → slice_get rows k ≡ Some row → Origin nodes names k row
    origin k row e =
        let same : 0 + k ≡ k = omega arith in
        (let P : ℕ → Type 0 = λ n. Origin nodes names n row in
        subst P same (origin-at nodes names 0 rows k row origins e))

    framework-counts : (k : ℕ) (c : FrameworkClass) → slice_get rows k ≡ Some (framework_row k c) →
        slice_get counted k ≡ Some (framework_row k c)
    unfolding counted_row framework_row
    framework-counts k c e = counts-at k ∙ ap (option_map (counted_row names rows k)) e

    object-last : next object ≡ None
    unfolding framework_row
    object-last = ap (λ (o : Option ClassRow). option_and_then (λ (row : ClassRow). row.superclass) o)
        (framework-counts object first.class first.is)

    object-faces : faces object ≡ []
    unfolding framework_row
    object-faces = ap (λ (o : Option ClassRow). elim o as (λ _. List ℕ) [ None ↦ [] | Some row ↦ row.interfaces ])
        (framework-counts object first.class first.is)

    stuck : (x y : ℕ) → next x ≡ None → Follows next x y → ⊥
    stuck x y n (one e) = none-some y (sym n ∙ e)
    stuck x y n (more {b = z} e f) = none-some z (sym n ∙ e)

    object-stuck : (x y : ℕ) → x ≡ object → Follows next x y → ⊥
    object-stuck x y e f = stuck x y (ap next e ∙ object-last) f

    -- a step to the superclass is one to Object, or one that is written, of a class that is on no cycle
    abbrev IsStep : ℕ → ℕ → Type 0
    IsStep k y = (y ≡ object) ⊎ ((superclass_in rows k ≡ Some y) × (is_cyclic rows k ≡ false))

    written-step : (k y : ℕ) (row : ClassRow) → Origin nodes names k row → slice_get rows k ≡ Some row →
        (counted_row names rows k row).superclass ≡ Some y → IsStep k y
    unfolding counted_row framework_row user_row is_well_headed
    written-step k y row (of_framework c) f h = inl (up-or-none y (k == object) h)
    written-step k y row (of_user c) f h = go (is_well_headed names rows k c) refl h
      where
        go : (t : Bool) → is_well_headed names rows k c ≡ t →
            (if t then user_row nodes names c else record
            (user_row nodes names c) { superclass = Some object; interfaces = [] }).superclass ≡ Some y → IsStep k y
        go false e h = let same : object ≡ y = cc in inl (sym same)
        go true e h =
            let good = all-three (is_empty (unknown_supers names c)) (not (is_cyclic rows k))
            (is_empty (forbidden_supers names rows c)) e in
            inr (
              ap (λ (o : Option ClassRow). option_and_then (λ (r : ClassRow). r.superclass) o) f ∙ h,
              is-not-false (is_cyclic rows k) good.1.0,
            )

    step-up : (k y : ℕ) → next k ≡ Some y → IsStep k y
    step-up k y e =
        go (slice_get rows k) refl
        (sym (ap (λ (o : Option ClassRow). option_and_then (λ (r : ClassRow). r.superclass) o) (counts-at k)) ∙ e)
      where
        go : (o : Option ClassRow) → slice_get rows k ≡ o →
            option_and_then (λ (r : ClassRow). r.superclass) (option_map (counted_row names rows k) o) ≡ Some y →
            IsStep k y
        go None f h = absurd (none-some y h)
        go (Some row) f h = written-step k y row (origin k row f) f h

    follows-written : (x y : ℕ) → Follows next x y → (y ≡ object) ⊎ Follows (superclass_in rows) x y
    follows-written x y (one e) =
        ⊎_elim (λ (h : y ≡ object). inl h)
        (λ (h : (superclass_in rows x ≡ Some y) × (is_cyclic rows x ≡ false)). inr (one h.0)) (step-up x y e)
    follows-written x y (more {b = z} e f) =
        ⊎_elim
        (λ (h : z ≡ object). absurd (object-stuck z y h f))
        (λ (h : (superclass_in rows x ≡ Some z) × (is_cyclic rows x ≡ false)).
        ⊎_elim (λ (g : y ≡ object). inl g) (λ (g : Follows (superclass_in rows) z y). inr (more h.0 g))
        (follows-written z y f))
        (step-up x z e)

    record FirstStep (x y : ℕ) : Type 0 where
      second : ℕ
      step : next x ≡ Some second
      rest : (second ≡ y) ⊎ Follows next second y

    first-step : (x y : ℕ) → Follows next x y → FirstStep x y
    first-step x y (one e) = record { second = y; step = e; rest = inl refl }
    first-step x y (more {b = z} e f) = record { second = z; step = e; rest = inr f }

    no-cycle : (x : ℕ) → Follows next x x → ⊥
    unfolding classes_above
    no-cycle x f =
        let s : FirstStep x x = first-step x x f in
        ⊎_elim
        (λ (h : s.second ≡ object).
        ⊎_elim (λ (e : s.second ≡ x). object-stuck x x (sym e ∙ h) f)
        (λ (g : Follows next s.second x). object-stuck s.second x h g) s.rest)
        (λ (h : (superclass_in rows x ≡ Some s.second) × (is_cyclic rows x ≡ false)).
        ⊎_elim
        (λ (e : x ≡ object). object-stuck x x e f)
        (λ (g : Follows (superclass_in rows) x x). true≢false
        (sym ((chain_comes_back (superclass_in rows) (length rows) x stays_written).1 g) ∙ h.1))
        (follows-written x x f))
        (step-up x s.second s.step)

    -- a class without a superclass is Object
    end-of : (k : ℕ) (row : ClassRow) → Origin nodes names k row → (counted_row names rows k row).superclass ≡ None →
        k ≡ object
    unfolding counted_row framework_row user_row is_well_headed
    end-of k row (of_framework c) h = go (k == object) refl h
      where
        go : (t : Bool) → (k == object) ≡ t → (if t then None else Some object) ≡ None → k ≡ object
        go true e h = same_number k object e
        go false e h = absurd (none-some object (sym h))
    end-of k row (of_user c) h = go (is_well_headed names rows k c) refl h
      where
        go : (t : Bool) → is_well_headed names rows k c ≡ t →
            (if t then user_row nodes names c else record
            (user_row nodes names c) { superclass = Some object; interfaces = [] }).superclass ≡ None → k ≡ object
        go false e h = absurd (none-some object (sym h))
        go true e h =
            let good = all-three (is_empty (unknown_supers names c)) (not (is_cyclic rows k))
            (is_empty (forbidden_supers names rows c)) e in
            absurd (known-super names c.implements c.extends good.0 h)

    end-is-object : (k : ℕ) → k < length rows → next k ≡ None → k ≡ object
    end-is-object k l e =
        let there : slice_get rows k ≡ Some (get_or rows k (framework_row 0 first.class)) =
        slice_get-get_or rows k (framework_row 0 first.class) l in
        end-of k (get_or rows k (framework_row 0 first.class))
        (origin k (get_or rows k (framework_row 0 first.class)) there)
        (sym (ap (λ (o : Option ClassRow). option_and_then (λ (r : ClassRow). r.superclass) o)
        (counts-at k ∙ ap (option_map (counted_row names rows k)) there)) ∙ e)

    -- the chain of a class ends, since it has no more classes than there are
    record HasEnd (a : ℕ) : Type 0 where
      final : ℕ
      last : next final ≡ None
      reached : (a ≡ final) ⊎ Follows next a final

    ends : (bound a : ℕ) → HasEnd a ⊎ (length (chain next bound a) ≡ bound)
    unfolding chain
    ends zero a = inr refl
    ends (suc bound) a = go (ends bound) (next a) refl
      where
        go : ((c : ℕ) → HasEnd c ⊎ (length (chain next bound c) ≡ bound)) → (o : Option ℕ) → next a ≡ o
            → HasEnd a ⊎ (length (a ∷ elim o as (λ _. List ℕ) [ None ↦ [] | Some b ↦ chain next bound b ]) ≡ suc bound)
        go rest None e = inl (record { final = a; last = e; reached = inl refl })
        go rest (Some b) e =
            ⊎_elim
            (λ (h : HasEnd b).
            inl (record {
              final = h.final;
              last = h.last;
              reached =
                  inr
                  (⊎_elim (λ (s : b ≡ h.final). one (e ∙ ap (λ (x : ℕ). Some x) s))
                  (λ (f : Follows next b h.final). more e f) h.reached);
            }))
            (λ (l : length (chain next bound b) ≡ bound). inr (ap suc l))
            (rest b)

    not-again : (a b bound : ℕ) → next a ≡ Some b → is_among a (chain next bound b) ≡ false
    not-again a b bound e =
        ⊎_elim
        (λ (h : is_among a (chain next bound b) ≡ true).
        absurd
        (no-cycle a (⊎_elim (λ (s : b ≡ a). one (e ∙ ap (λ (x : ℕ). Some x) s)) (λ (f : Follows next b a). more e f)
        (on_chain_follows next a b bound h))))
        (λ (h : is_among a (chain next bound b) ≡ false). h)
        (cases_Bool (is_among a (chain next bound b)))

    chain-distinct : (bound a : ℕ) → IsDistinct eqb (chain next bound a)
    unfolding chain IsDistinct
    chain-distinct zero a = tt
    chain-distinct (suc bound) a = go (chain-distinct bound) (next a) refl
      where
        go : ((c : ℕ) → IsDistinct eqb (chain next bound c)) → (o : Option ℕ) → next a ≡ o →
            IsDistinct eqb (a ∷ elim o as (λ _. List ℕ) [ None ↦ [] | Some b ↦ chain next bound b ])
        go rest None e = (tt, tt)
        go rest (Some b) e = (none_same a (chain next bound b) (not-again a b bound e), rest b)

    follows-below : (a q : ℕ) → Follows next a q → q < length counted
    follows-below a q (one e) = stays a q e
    follows-below a q (more {b = z} e f) = follows-below z q f

    reached-below : (a q : ℕ) → a < length counted → (a ≡ q) ⊎ Follows next a q → q < length counted
    reached-below a q l r = ⊎_elim (λ (e : a ≡ q). (let P : ℕ → Type 0 = λ x. x < length counted in subst P e l))
        (λ (f : Follows next a q). follows-below a q f) r

    reaches-object : (a : ℕ) → a < length counted → (a ≡ object) ⊎ Follows next a object
    reaches-object a l =
        ⊎_elim
        (λ (h : HasEnd a).
        let inside : h.final < length rows =
        omega (arith, reached-below a h.final l h.reached, length-counted names rows 0 rows) in
        let same : h.final ≡ object = end-is-object h.final inside h.last in
        (let P : ℕ → Type 0 = λ x. (a ≡ x) ⊎ Follows next a x in subst P same h.reached))
        (λ (long : length (chain next (suc (length counted)) a) ≡ suc (length counted)).
        let few : length (chain next (suc (length counted)) a) ≤ length counted =
        length-le_from_distinct_below (chain next (suc (length counted)) a) (length counted)
        (chain-distinct (suc (length counted)) a)
        (λ q h. reached-below a q l (on_chain_follows next q a (suc (length counted)) h)) in
        absurd (omega (arith, long, few)))
        (ends (suc (length counted)) a)

    -- the interfaces of a class are classes of the framework
    record IsFramework (i : ℕ) : Type 0 where
      class : FrameworkClass
      is : slice_get counted i ≡ Some (framework_row i class)

    user-kind : (c : WrittenClass) → is_implemented (user_row nodes names c).kind ≡ true → ⊥
    unfolding user_row is_implemented
    user-kind c h = go c.modifiers.is_abstract h
      where
        go : (a : Bool) → is_implemented (if a then abstract_class else concrete_class) ≡ true → ⊥
        go true h = true≢false (sym h)
        go false h = true≢false (sym h)

    implemented-is : (i : ℕ) → IsImplemented rows i → IsFramework i
    implemented-is i h = go (slice_get rows i) refl h
      where
        by-origin : (row : ClassRow) → Origin nodes names i row → slice_get rows i ≡ Some row →
            is_implemented row.kind ≡ true → IsFramework i
        by-origin row (of_framework c) e k = record { class = c; is = framework-counts i c e }
        by-origin row (of_user c) e k = absurd (user-kind c k)

        go : (o : Option ClassRow) → slice_get rows i ≡ o →
            holds o (λ (row : ClassRow). is_implemented row.kind) ≡ true → IsFramework i
        go None e k = absurd (true≢false (sym k))
        go (Some row) e k = by-origin row (origin i row e) e k

    face-of : (a i : ℕ) (row : ClassRow) → Origin nodes names a row →
        is_among i (counted_row names rows a row).interfaces ≡ true → IsImplemented rows i
    unfolding counted_row framework_row user_row is_well_headed
    face-of a i row (of_framework c) h = absurd (true≢false (sym h))
    face-of a i row (of_user c) h = go (is_well_headed names rows a c) refl h
      where
        go : (t : Bool) → is_well_headed names rows a c ≡ t →
            is_among i
            (if t then user_row nodes names c else record
            (user_row nodes names c) { superclass = Some object; interfaces = [] }).interfaces ≡ true →
            IsImplemented rows i
        go false e h = absurd (true≢false (sym h))
        go true e h =
            let good = all-three (is_empty (unknown_supers names c)) (not (is_cyclic rows a))
            (is_empty (forbidden_supers names rows c)) e in
            header-implemented names rows c good.1.1 i h

    face-implemented : (a i : ℕ) → is_among i (faces a) ≡ true → IsImplemented rows i
    face-implemented a i h =
        go (slice_get rows a) refl
        (sym
        (ap (λ (o : Option ClassRow). is_among i (elim o as (λ _. List ℕ) [ None ↦ [] | Some row ↦ row.interfaces ]))
        (counts-at a)) ∙ h)
      where
        go : (o : Option ClassRow) → slice_get rows a ≡ o →
            is_among i
            (elim (option_map (counted_row names rows a) o) as (λ _. List ℕ) [ None ↦ [] | Some row ↦ row.interfaces ])
            ≡ true → IsImplemented rows i
        go None e k = absurd (true≢false (sym k))
        go (Some row) e k = face-of a i row (origin a row e) k

    face-is : (a i : ℕ) → is_among i (faces a) ≡ true → IsFramework i
    face-is a i h = implemented-is i (face-implemented a i h)

    framework-step : (i y : ℕ) → IsFramework i → next i ≡ Some y → y ≡ object
    unfolding framework_row
    framework-step i y f e =
        up-or-none y (i == object)
        (sym (ap (λ (o : Option ClassRow). option_and_then (λ (r : ClassRow). r.superclass) o) f.is) ∙ e)

    framework-follows : (i y : ℕ) → IsFramework i → Follows next i y → y ≡ object
    framework-follows i y f (one e) = framework-step i y f e
    framework-follows i y f (more {b = z} e g) = absurd (object-stuck z y (framework-step i z f e) g)

    framework-faces : (i : ℕ) → IsFramework i → faces i ≡ []
    unfolding framework_row
    framework-faces i f =
        ap (λ (o : Option ClassRow). elim o as (λ _. List ℕ) [ None ↦ [] | Some row ↦ row.interfaces ]) f.is

    -- ---- the law

    super-up : (a b : ℕ) → next a ≡ Some b → is_super counted a b ≡ true
    unfolding is_super
    super-up a b e =
        or_left (holds (next a) (λ c. c == b)) (is_among b (faces a)) (ap (λ (o : Option ℕ). holds o (λ c. c == b)) e
        ∙ is_same_number b b refl)

    super-face : (a b : ℕ) → is_among b (faces a) ≡ true → is_super counted a b ≡ true
    unfolding is_super
    super-face a b h = or_right (holds (next a) (λ c. c == b)) (is_among b (faces a)) h

    up-reaches : (a b : ℕ) → Follows next a b → Reaches (is_super counted) a b
    up-reaches a b (one e) = after (super-up a b e) here
    up-reaches a b (more {b = z} e f) = after (super-up a z e) (up-reaches z b f)

    chain-reaches : (a b : ℕ) → (a ≡ b) ⊎ Follows next a b → Reaches (is_super counted) a b
    chain-reaches a b r =
        ⊎_elim (λ (e : a ≡ b). (let P : ℕ → Type 0 = λ x. Reaches (is_super counted) a x in subst P e here))
        (λ (f : Follows next a b). up-reaches a b f) r

    then-step : (a d b : ℕ) → Reaches (is_super counted) a d → is_super counted d b ≡ true →
        Reaches (is_super counted) a b
    then-step a d b here h = after h here
    then-step a d b (after {b = z} e r) h = after e (then-step z d b r h)

    abbrev above : ℕ → List ℕ
    above a = chain next (length counted) a

    on-chain : (a b : ℕ) → a < length counted → (a ≡ b) ⊎ Follows next a b → is_among b (above a) ≡ true
    on-chain a b l r = (chain_reaches next (length counted) a b stays l).1 r

    sub-reaches : (a b : ℕ) → is_sub counted a b ≡ true → Reaches (is_super counted) a b
    unfolding is_sub superclasses all_interfaces
    sub-reaches a b h =
        ⊎_elim
        (λ (k : is_among b (above a) ≡ true). chain-reaches a b (on_chain_follows next b a (length counted) k))
        (λ (k : is_among b (flat_map faces (above a)) ≡ true).
        let r : IsInOne faces b (above a) = in-one faces b (above a) k in
        then-step a r.member b (chain-reaches a r.member (on_chain_follows next r.member a (length counted) r.there))
        (super-face r.member b r.has))
        (or_cases (is_among b (above a)) (is_among b (flat_map faces (above a))) h)

    step-reached : (a c d : ℕ) → next a ≡ Some c → (c ≡ d) ⊎ Follows next c d → (a ≡ d) ⊎ Follows next a d
    step-reached a c d e r =
        inr (⊎_elim (λ (s : c ≡ d). one (e ∙ ap (λ (x : ℕ). Some x) s)) (λ (f : Follows next c d). more e f) r)

    by-superclass : (a b c : ℕ) → a < length counted → next a ≡ Some c → is_sub counted c b ≡ true →
        is_sub counted a b ≡ true
    unfolding is_sub superclasses all_interfaces
    by-superclass a b c l e h =
        ⊎_elim
        (λ (k : is_among b (above c) ≡ true).
        or_left (is_among b (above a)) (is_among b (flat_map faces (above a)))
        (on-chain a b l (step-reached a c b e (on_chain_follows next b c (length counted) k))))
        (λ (k : is_among b (flat_map faces (above c)) ≡ true).
        let r : IsInOne faces b (above c) = in-one faces b (above c) k in
        or_right (is_among b (above a)) (is_among b (flat_map faces (above a)))
        (from-one faces b r.member (above a)
        (on-chain a r.member l
        (step-reached a c r.member e (on_chain_follows next r.member c (length counted) r.there))) r.has))
        (or_cases (is_among b (above c)) (is_among b (flat_map faces (above c))) h)

    by-interface : (a b c : ℕ) → a < length counted → is_among c (faces a) ≡ true → is_sub counted c b ≡ true →
        is_sub counted a b ≡ true
    unfolding is_sub superclasses all_interfaces
    by-interface a b c l e h =
        let f : IsFramework c = face-is a c e in
        ⊎_elim
        (λ (k : is_among b (above c) ≡ true).
        ⊎_elim
        (λ (s : c ≡ b).
        or_right (is_among b (above a)) (is_among b (flat_map faces (above a)))
        (from-one faces b a (above a) (on-chain a a l (inl refl)) (let P : ℕ → Type 0 = λ x. is_among x (faces a) ≡ true
        in subst P s e)))
        (λ (g : Follows next c b).
        let P : ℕ → Type 0 = λ x. is_among x (above a) ≡ true in
        or_left (is_among b (above a)) (is_among b (flat_map faces (above a)))
        (subst P (sym (framework-follows c b f g)) (on-chain a object l (reaches-object a l))))
        (on_chain_follows next b c (length counted) k))
        (λ (k : is_among b (flat_map faces (above c)) ≡ true).
        let r : IsInOne faces b (above c) = in-one faces b (above c) k in
        let none : faces r.member ≡ [] = ⊎_elim (λ (s : c ≡ r.member). ap faces (sym s) ∙ framework-faces c f)
        (λ (g : Follows next c r.member). ap faces (framework-follows c r.member f g) ∙ object-faces)
        (on_chain_follows next r.member c (length counted) r.there) in
        absurd (true≢false (sym r.has ∙ ap (λ (xs : List ℕ). is_among b xs) none)))
        (or_cases (is_among b (above c)) (is_among b (flat_map faces (above c))) h)

    interface-below : (i : ℕ) → IsFramework i → i < length counted
    interface-below i f = slice_get_within counted i (framework_row i f.class) f.is

    reaches-sub : (a b : ℕ) → a < length counted → Reaches (is_super counted) a b → is_sub counted a b ≡ true
    unfolding is_sub superclasses is_super
    reaches-sub a b l here = or_left (is_among a (above a)) (is_among a (all_interfaces counted a))
        (on-chain a a l (inl refl))
    reaches-sub a b l (after {b = c} e r) =
        ⊎_elim
        (λ (k : holds (next a) (λ x. x == c) ≡ true).
        let up : next a ≡ Some c = holds-number c (next a) k in
        by-superclass a b c l up (reaches-sub c b (stays a c up) r))
        (λ (k : is_among c (faces a) ≡ true).
        by-interface a b c l k (reaches-sub c b (interface-below c (face-is a c k)) r))
        (or_cases (holds (next a) (λ x. x == c)) (is_among c (faces a)) e)

-- ---- the classes of a program

module _ (forest : Forest) where
  abbrev all_names : List (List ℕ)
  all_names = class_names (user_classes forest)

  abbrev users : List ClassRow
  users = map (user_row forest.nodes all_names) (user_classes forest)

  origins-of : Origins forest.nodes all_names 0 (framework_rows_from 0 framework_classes ++ users)
  origins-of =
      origins-append forest.nodes all_names 0 (framework_rows_from 0 framework_classes) users
      (framework-origins forest.nodes all_names 0 framework_classes)
      (user-origins forest.nodes all_names (0 + length (framework_rows_from 0 framework_classes)) (user_classes forest))

  first-row : IsFirst (framework_rows_from 0 framework_classes ++ users)
  unfolding framework_classes
  first-row = first-of framework_classes users (omega arith)

  -- the interfaces of a class as it counts may be implemented
  pub interfaces-implemented : (class i : ℕ) →
      is_among i (interfaces_in (declarations_of forest).classes class) ≡ true →
      holds (slice_get (declarations_of forest).written i) (λ (row : ClassRow). is_implemented row.kind) ≡ true
  unfolding declarations_of written_rows framework_classes
  interfaces-implemented class i h =
      face-implemented forest.nodes all_names (written_rows forest.nodes (user_classes forest)) origins-of first-row
      (written-stays forest) (counted-stays forest) class i h

  pub subtypes-reached : (a b : ℕ) → a < length (declarations_of forest).classes
      → (is_sub (declarations_of forest).classes a b ≡ true) ↔ Reaches (is_super (declarations_of forest).classes) a b
  unfolding declarations_of written_rows framework_classes
  subtypes-reached a b l =
      let rows = written_rows forest.nodes (user_classes forest) in (
        sub-reaches forest.nodes all_names rows origins-of first-row (written-stays forest) (counted-stays forest) a b,
        reaches-sub forest.nodes all_names rows origins-of first-row (written-stays forest) (counted-stays forest) a b
            l,
      )
