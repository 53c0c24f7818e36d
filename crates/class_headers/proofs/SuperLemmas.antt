-- What is forbidden in a header, part by part, and tests over lists.
use Rattle.std.proofs.Common.{◌≡◌, ℕ, ◌<◌, nat_lt, Bool, true, false, not, ◌&&◌, ◌==◌, arith, List, [], ◌∷◌, ◌++◌, filter, flat_map, get_or, Option, Some, None, refl, sym, ap, ◌∙◌, option_map, option_and_then, unwrap_or}
use Rattle.std.specs.List.{list_any, filter_map, list_all}
use Rattle.std.proofs.lemmas.Grind.{common_steps}
use Rattle.std.proofs.lemmas.List.Folds.{Any-from_list_any, list_any_at}
use Rattle.scj_rules.specs.declared.scopes.Written.{Written}
use Rattle.scj_rules.specs.Words.{is_among}
use Rattle.scj_rules.specs.Classes.{ClassRow, superclasses, all_interfaces, kinds, kinds_of, with_kinds, forbidden_interfaces, supers_named, forbidden_supers, is_empty}
use Rattle.scj_rules.proofs.ChainLemmas.{same_number, is_same_number}
use Rattle.class_headers.specs.Supers.{is_known, is_known_if_there, knows_supers, forbidden_name, kinds_named, forbidden_in}
use Rattle.class_headers.specs.Ways.{has_bit}
use Rattle.class_headers.specs.Columns.{kind_count}
use Rattle.scj_rules.specs.Views.{WrittenClass}
use Rattle.scj_rules.specs.Contexts.{Declarations}

pub bools : (s t : Bool) → (s ≡ true → t ≡ true) → (t ≡ true → s ≡ true) → s ≡ t
bools true t f g = sym (f refl)
bools false true f g = g refl
bools false false f g = refl

-- lists with the same numbers answer tests alike
any_within : (p : ℕ → Bool) (xs ys : List ℕ) → ((x : ℕ) → is_among x xs ≡ true → is_among x ys ≡ true) →
    list_any p xs ≡ true → list_any p ys ≡ true
any_within p xs ys h k =
    let a = Any-from_list_any p xs k in
    let here = list_any_at (λ m. a.1 == m) xs a.0 a.1 a.2 (is_same_number a.1 (get_or xs a.0 a.1) (sym a.3)) in
    let b = Any-from_list_any (λ m. a.1 == m) ys (h a.1 here) in
    list_any_at p ys b.0 b.1 b.2 (ap p (b.3 ∙ sym (same_number a.1 b.1 b.4)) ∙ a.4)

pub any_alike : (p : ℕ → Bool) (xs ys : List ℕ) → ((x : ℕ) → is_among x xs ≡ is_among x ys) →
    list_any p xs ≡ list_any p ys
any_alike p xs ys h = bools (list_any p xs) (list_any p ys) (any_within p xs ys (λ x k. sym (h x) ∙ k))
    (any_within p ys xs (λ x k. h x ∙ k))

pub any_flat : (p : ℕ → Bool) (f : ℕ → List ℕ) (xs : List ℕ) →
    list_any (λ x. list_any p (f x)) xs ≡ list_any p (flat_map f xs)
any_flat p f [] = refl
any_flat p f (x ∷ xs) = grind (arith, common_steps, any_flat p f xs)

-- ---- the kinds of a class

filter_alike : (p q : ℕ → Bool) → ((k : ℕ) → k < kind_count → p k ≡ q k) → (ks : List ℕ) →
    list_all (λ k. nat_lt k kind_count) ks ≡ true → filter p ks ≡ filter q ks
filter_alike p q h [] e = refl
filter_alike p q h (k ∷ ks) e = grind (arith, common_steps, h k, filter_alike p q h ks)

pub kinds_are : (rows : List ClassRow) (class bits : ℕ) (found : List ℕ) → found ≡ filter (has_bit bits) kinds →
    ((k : ℕ) → k < kind_count → has_bit bits k ≡ is_among k (superclasses rows class ++ all_interfaces rows class))
    → found ≡ kinds_of rows class
unfolding kinds_of
kinds_are rows class bits found e reported =
    e ∙ filter_alike (has_bit bits) (λ k. is_among k (superclasses rows class ++ all_interfaces rows class)) reported kinds
    refl

-- ---- names that aren't known

abbrev extends_of : Option WrittenClass → Option Written
extends_of o = option_and_then (λ (c : WrittenClass). c.extends) o

abbrev implements_of : Option WrittenClass → List Written
implements_of o = unwrap_or (option_map (λ (c : WrittenClass). c.implements) o) []

are_all_known : (names : List (List ℕ)) (written : ℕ → Option Written) (ids : List ℕ) →
    list_all (λ id. is_known_if_there names (written id)) ids ≡ list_all (is_known names) (filter_map written ids)
are_all_known names written [] = refl
are_all_known names written (id ∷ ids) = grind (arith, common_steps, are_all_known names written ids)

none_unknown : (known : Written → Bool) (ws : List Written) →
    is_empty (filter (λ w. not (known w)) ws) ≡ list_all known ws
unfolding is_empty
none_unknown known [] = refl
none_unknown known (w ∷ ws) = grind (arith, common_steps, none_unknown known ws)

header_known : (p : Declarations) (o : Option WrittenClass) →
    (is_known_if_there p.names (extends_of o) && list_all (is_known p.names) (implements_of o)) ≡ knows_supers p o
unfolding knows_supers
header_known p None = refl
header_known p (Some c) = grind (arith, common_steps, none_unknown (is_known p.names) (supers_named c))

pub all_known : (p : Declarations) (o : Option WrittenClass) (extends : Option Written) (written : ℕ → Option Written)
    (ids : List ℕ) → extends ≡ extends_of o → filter_map written ids ≡ implements_of o
    → (is_known_if_there p.names extends && list_all (λ id. is_known_if_there p.names (written id)) ids)
    ≡ knows_supers p o
all_known p o extends written ids e h = grind (arith, common_steps, are_all_known p.names written ids, header_known p o)

-- ---- names that are forbidden

-- no name after `implements`, and one more
pub none_forbidden : (p : Declarations) (there : List ℕ) → forbidden_interfaces p.names p.written there [] ≡ []
unfolding forbidden_interfaces
none_forbidden p there = refl

pub one_forbidden : (p : Declarations) (there : List ℕ) (w : Written) (ws found : List Written)
    → (found ++ forbidden_name p true there w)
    ++ forbidden_interfaces p.names p.written (with_kinds there (kinds_named p w)) ws
    ≡ found ++ forbidden_interfaces p.names p.written there (w ∷ ws)
unfolding forbidden_interfaces forbidden_name kinds_named with_kinds
one_forbidden p there w ws found = grind (arith, common_steps)

-- both parts of a header
pub forbidden_with : (p : Declarations) (o : Option WrittenClass) (e : Written) → Some e ≡ extends_of o
    → forbidden_name p false [] e ++ forbidden_interfaces p.names p.written (kinds_named p e) (implements_of o)
    ≡ forbidden_in p o
unfolding forbidden_in forbidden_supers forbidden_name kinds_named
forbidden_with p None e s = cc
forbidden_with p (Some c) e s = let up : c.extends ≡ Some e = sym s in rw up (grind (arith, common_steps))

pub forbidden_without : (p : Declarations) (o : Option WrittenClass) → None ≡ extends_of o →
    forbidden_interfaces p.names p.written [] (implements_of o) ≡ forbidden_in p o
unfolding forbidden_in forbidden_supers forbidden_interfaces
forbidden_without p None s = refl
forbidden_without p (Some c) s = let up : c.extends ≡ None = sym s in rw up refl
