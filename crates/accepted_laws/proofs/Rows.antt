-- In an accepted program the rows of classes that count are those that are written: each is the framework's or a user's.
use Rattle.std.proofs.Common.{◌≡◌, ℕ, ◌+◌, ◌<◌, zero, suc, List, [], ◌∷◌, ◌++◌, length, map, refl, sym, ap, ◌∙◌, subst, arith, Option, Some, None, Bool, true, false, not, ◌&&◌, slice_get, ◌==◌, if◌then◌else◌, ◌⊎◌, inl, inr}
use Rattle.std.proofs.lemmas.Bool.Decides.{nat_tests}
use Rattle.scj_base.specs.declared.findings.Rule.{Rule}
use Rattle.scj_base.specs.declared.positions.Position.{Position}
use Rattle.scj_builtins.specs.declared.classes.FrameworkClass.{FrameworkClass}
use Rattle.scj_builtins.specs.Framework.{framework_classes, object}
use Rattle.scj_tree.specs.declared.nodes.Node.{Node}
use Rattle.scj_tree.specs.Forest.{Forest}
use Rattle.scj_rules.specs.declared.scopes.Written.{Written}
use Rattle.scj_rules.specs.Words.{broken_at_each}
use Rattle.scj_rules.specs.Views.{WrittenClass}
use Rattle.scj_rules.specs.Classes.{ClassRow, framework_row, framework_methods_on, framework_rows_from, user_row, written_rows, superclass_in, is_cyclic, unknown_supers, forbidden_supers, is_empty, is_well_headed, counted_row, counted_from, class_names}
use Rattle.scj_rules.specs.ClassRules.{c1, c2, c3, c4, c5, c6, c7, c10, class_breaks}
use Rattle.scj_rules.specs.Contexts.{Declarations, declarations_of}
use Rattle.scj_rules.specs.Phases.{IsAccepted}
use Rattle.accepted_laws.specs.Unbroken.{NoClassBreak}
use Rattle.accepted_laws.proofs.Breaks.{both_empty, right, no_break_at_class}

-- ---- the rules on classes, one by one

pub no_class_break : (p : Declarations) (class : ℕ) (row : ClassRow) (c : WrittenClass) → class_breaks p class row c ≡ [] → NoClassBreak p class row c
unfolding class_breaks
no_class_break p class row c e =
    let a1 = both_empty (c1 p class c) (c2 p c ++ (c3 p class c ++ (c4 p class row ++ (c5 p c ++ (c6 p class row ++ (c7 p class c row ++ c10 p c)))))) e in
    let a2 = both_empty (c2 p c) (c3 p class c ++ (c4 p class row ++ (c5 p c ++ (c6 p class row ++ (c7 p class c row ++ c10 p c))))) a1.1 in
    let a3 = both_empty (c3 p class c) (c4 p class row ++ (c5 p c ++ (c6 p class row ++ (c7 p class c row ++ c10 p c)))) a2.1 in
    let a4 = both_empty (c4 p class row) (c5 p c ++ (c6 p class row ++ (c7 p class c row ++ c10 p c))) a3.1 in
    let a5 = both_empty (c5 p c) (c6 p class row ++ (c7 p class c row ++ c10 p c)) a4.1 in
    let a6 = both_empty (c6 p class row) (c7 p class c row ++ c10 p c) a5.1 in
    let a7 = both_empty (c7 p class c row) (c10 p c) a6.1 in
    record { class_twice = a1.0; unknown_super = a2.0; class_cycle = a3.0; field_twice = a4.0; method_twice = a5.0; override_types = a6.0; left_open = a7.0; forbidden_super = a7.1 }

pub at_class_unbroken : (forest : Forest) → IsAccepted forest → (class : ℕ) (row : ClassRow) (c : WrittenClass) → slice_get (declarations_of forest).classes class ≡ Some row → row.written ≡ Some c
    → NoClassBreak (declarations_of forest) class row c
at_class_unbroken forest a class row c there is =
    let n = no_break_at_class forest a class row c there is in no_class_break (declarations_of forest) class row c n.no_class_rule

pub none_broken : {A : Type 0} (position : A → Position) (rule : Rule) (xs : List A) → broken_at_each position rule xs ≡ [] → xs ≡ []
none_broken position rule [] e = refl
none_broken position rule (x ∷ xs) e = absurd (cc (e))

-- ---- rows that count

counted_get : (names : List (List ℕ)) (all : List ClassRow) (from : ℕ) (xs : List ClassRow) (k : ℕ) (row : ClassRow) → slice_get xs k ≡ Some row
    → slice_get (counted_from names all from xs) k ≡ Some (counted_row names all (from + k) row)
unfolding counted_from
counted_get names all from [] k row e = absurd (cc (e))
counted_get names all from (x ∷ xs) zero row e =
    let same : x ≡ row = cc (e) in
    let a : from ≡ from + 0 = omega arith in
    ap (λ m. Some (counted_row names all m x)) a ∙ ap (λ r. Some (counted_row names all (from + 0) r)) same
counted_get names all from (x ∷ xs) (suc k) row e =
    let a : (from + 1) + k ≡ from + suc k = omega arith in
    counted_get names all (from + 1) xs k row e ∙ ap (λ m. Some (counted_row names all m row)) a

counted_written : (names : List (List ℕ)) (all : List ClassRow) (k : ℕ) (row : ClassRow) → (counted_row names all k row).written ≡ row.written
unfolding counted_row
counted_written names all k row = go row.written
  where
    pick : (t : Bool) → (if t then row else record row { superclass = Some object; interfaces = [] }).written ≡ row.written
    pick true = refl
    pick false = refl

    go : (o : Option WrittenClass) → (elim o as (λ _. ClassRow) [ None ↦ row | Some c ↦ if is_well_headed names all k c then row else record row { superclass = Some object; interfaces = [] } ]).written ≡ row.written
    go None = refl
    go (Some c) = pick (is_well_headed names all k c)

counted_same : (names : List (List ℕ)) (all : List ClassRow) (from : ℕ) (xs : List ClassRow) → ((k : ℕ) (row : ClassRow) → slice_get xs k ≡ Some row → counted_row names all (from + k) row ≡ row)
    → counted_from names all from xs ≡ xs
unfolding counted_from
counted_same names all from [] h = refl
counted_same names all from (x ∷ xs) h =
    let a : from ≡ from + 0 = omega arith in
    ap (λ r. r ∷ counted_from names all (from + 1) xs) (ap (λ m. counted_row names all m x) a ∙ h zero x refl)
    ∙ ap (λ ys. x ∷ ys) (counted_same names all (from + 1) xs (λ k row e. (let b : (from + 1) + k ≡ from + suc k = omega arith in ap (λ m. counted_row names all m row) b ∙ h (suc k) row e)))

all_three : (a b c : Bool) → a ≡ true → b ≡ false → c ≡ true → (a && not b && c) ≡ true
all_three a b c e f g = rw (e, f, g) refl

pub well_headed : (p : Declarations) (class : ℕ) (row : ClassRow) (c : WrittenClass) → NoClassBreak p class row c → is_well_headed p.names p.written class c ≡ true
unfolding is_well_headed is_empty c2 c3 c10
well_headed p class row c n =
    all_three (is_empty (unknown_supers p.names c)) (is_cyclic p.written class) (is_empty (forbidden_supers p.names p.written c))
    (ap (is_empty {A = Written}) (none_broken _ _ (unknown_supers p.names c) n.unknown_super))
    (right (is_cyclic p.written class) _ c.position n.class_cycle)
    (ap (is_empty {A = Written}) (none_broken _ _ (forbidden_supers p.names p.written c) n.forbidden_super))

module _ (forest : Forest) (accepted : IsAccepted forest) where
  abbrev p : Declarations
  p = declarations_of forest

  at_counted : (k : ℕ) (row : ClassRow) → slice_get p.written k ≡ Some row → slice_get p.classes k ≡ Some (counted_row p.names p.written (0 + k) row)
  unfolding declarations_of
  at_counted k row e = counted_get p.names p.written 0 p.written k row e

  row_same : (k : ℕ) (row : ClassRow) → slice_get p.written k ≡ Some row → counted_row p.names p.written (0 + k) row ≡ row
  unfolding counted_row
  row_same k row e = go row.written refl
    where
      headed : (c : WrittenClass) → row.written ≡ Some c → is_well_headed p.names p.written (0 + k) c ≡ true
      headed c w =
          let a : 0 + k ≡ k = omega arith in
          ap (λ m. is_well_headed p.names p.written m c) a
          ∙ well_headed p k (counted_row p.names p.written (0 + k) row) c (at_class_unbroken forest accepted k (counted_row p.names p.written (0 + k) row) c (at_counted k row e) (counted_written p.names p.written (0 + k) row ∙ w))

      go : (o : Option WrittenClass) → row.written ≡ o → (elim o as (λ _. ClassRow) [ None ↦ row | Some c ↦ if is_well_headed p.names p.written (0 + k) c then row else record row { superclass = Some object; interfaces = [] } ]) ≡ row
      go None w = refl
      go (Some c) w = ap (λ t. if t then row else record row { superclass = Some object; interfaces = [] }) (headed c w)

  -- the rows that count for the rules on members are those that are written
  pub counted_is_written : p.classes ≡ p.written
  unfolding declarations_of
  counted_is_written = counted_same p.names p.written 0 p.written row_same

-- ---- rows of the framework and of the user

get_append : {A : Type 0} (xs ys : List A) (k : ℕ) (z : A) → slice_get (xs ++ ys) k ≡ Some z → (slice_get xs k ≡ Some z) ⊎ ((j : ℕ) × (k ≡ length xs + j) × (slice_get ys j ≡ Some z))
get_append [] ys k z e = inr (k, (let a : k ≡ 0 + k = omega arith in a), e)
get_append (x ∷ xs) ys zero z e = inl e
get_append (x ∷ xs) ys (suc k) z e = elim (get_append xs ys k z e) as (λ s. (slice_get (x ∷ xs) (suc k) ≡ Some z) ⊎ ((j : ℕ) × (suc k ≡ length (x ∷ xs) + j) × (slice_get ys j ≡ Some z)))
    [ inl h ↦ inl h | inr h ↦ inr (h.0, (let f = h.1 in let a : suc k ≡ suc (length xs) + h.0 = omega (arith, f) in a), h.2) ]

-- a row of the framework: no class of the sources, with the superclass Object but for Object itself
pub record IsFrameworkRow (k : ℕ) (row : ClassRow) : Type 0 where
  pub unwritten : row.written ≡ None
  pub implements_nothing : row.interfaces ≡ []
  pub declares_nothing : row.fields ≡ []
  pub constructs_nothing : row.constructors ≡ []
  pub methods : row.methods ≡ framework_methods_on k
  pub extends_object : (row.superclass ≡ Some object) ⊎ ((row.superclass ≡ None) × (k ≡ object))

framework_get : (from : ℕ) (cs : List FrameworkClass) (k : ℕ) (row : ClassRow) → slice_get (framework_rows_from from cs) k ≡ Some row → IsFrameworkRow (from + k) row
unfolding framework_rows_from framework_row
framework_get from [] k row e = absurd (cc (e))
framework_get from (c ∷ cs) zero row e =
    let same : framework_row from c ≡ row = cc (e) in
    let a : from ≡ from + 0 = omega arith in
    subst (λ m. IsFrameworkRow m row) a (subst (IsFrameworkRow from) same (record { unwritten = refl; implements_nothing = refl; declares_nothing = refl; constructs_nothing = refl; methods = refl; extends_object = super (from == object) refl }))
  where
    super : (t : Bool) → (from == object) ≡ t → ((if t then None else Some object) ≡ Some object) ⊎ (((if t then None else Some object) ≡ None) × (from ≡ object))
    super true e = inr (refl, (let q : from ≡ object = grind (arith, nat_tests) in q))
    super false e = inl refl
framework_get from (c ∷ cs) (suc k) row e =
    let a : (from + 1) + k ≡ from + suc k = omega arith in
    subst (λ m. IsFrameworkRow m row) a (framework_get (from + 1) cs k row e)

-- a row of the user is that of its written class
pub record IsUserRow (nodes : List Node) (users : List WrittenClass) (j : ℕ) (row : ClassRow) : Type 0 where
  pub class : WrittenClass
  pub is_there : slice_get users j ≡ Some class
  pub is : row ≡ user_row nodes (class_names users) class

user_get : (nodes : List Node) (names : List (List ℕ)) (users : List WrittenClass) (j : ℕ) (row : ClassRow) → slice_get (map (user_row nodes names) users) j ≡ Some row
    → (c : WrittenClass) × (slice_get users j ≡ Some c) × (row ≡ user_row nodes names c)
user_get nodes names [] j row e = absurd (cc (e))
user_get nodes names (c ∷ users) zero row e = (c, refl, (let same : user_row nodes names c ≡ row = cc (e) in sym same))
user_get nodes names (c ∷ users) (suc j) row e = user_get nodes names users j row e

pub row_of : (nodes : List Node) (users : List WrittenClass) (k : ℕ) (row : ClassRow) → slice_get (written_rows nodes users) k ≡ Some row
    → IsFrameworkRow k row ⊎ ((j : ℕ) × (k ≡ length (framework_rows_from 0 framework_classes) + j) × IsUserRow nodes users j row)
unfolding written_rows
row_of nodes users k row e = elim (get_append (framework_rows_from 0 framework_classes) (map (user_row nodes (class_names users)) users) k row e)
    as (λ s. IsFrameworkRow k row ⊎ ((j : ℕ) × (k ≡ length (framework_rows_from 0 framework_classes) + j) × IsUserRow nodes users j row)) [
      | inl h ↦ inl (let a : 0 + k ≡ k = omega arith in subst (λ m. IsFrameworkRow m row) a (framework_get 0 framework_classes k row h))
      | inr h ↦ inr (h.0, h.1, (let q = user_get nodes (class_names users) users h.0 row h.2 in record { class = q.0; is_there = q.1; is = q.2 }))
    ]

-- the row of Object
pub top_written : (nodes : List Node) (users : List WrittenClass) → (row : ClassRow) × (slice_get (written_rows nodes users) object ≡ Some row) × (row.superclass ≡ None) × (row.interfaces ≡ []) × (row.written ≡ None)
unfolding written_rows framework_classes framework_rows_from framework_row
top_written nodes users = (_, refl, refl, refl, refl)

pub object_is_top : (nodes : List Node) (users : List WrittenClass) → superclass_in (written_rows nodes users) object ≡ None
unfolding written_rows framework_classes framework_rows_from framework_row
object_is_top nodes users = refl

-- a number within a list has an element
pub get_from_within : {A : Type 0} (xs : List A) (k : ℕ) → k < length xs → (x : A) × (slice_get xs k ≡ Some x)
get_from_within [] k l = absurd (omega (arith, l))
get_from_within (x ∷ xs) zero l = (x, refl)
get_from_within (x ∷ xs) (suc k) l = get_from_within xs k (omega (arith, l))
