-- The classes of which objects are made: those of the user that aren't abstract, and Object.
use Rattle.std.proofs.Common.{◌≡◌, ℕ, zero, suc, ◌+◌, ◌-◌, ◌<◌, ◌≤◌, nat_lt, List, [], ◌∷◌, length, length-append, map, refl, sym, ap, ◌∙◌, subst, arith, Some, Bool, true, false, not, ◌&&◌, true≢false, ◌⊎◌, inl, inr, slice_get, if◌then◌else◌}
use Rattle.std.proofs.lemmas.Bool.Decides.{nat_tests}
use Rattle.std.proofs.lemmas.Option.{slice_get_within}
use Rattle.scj_builtins.specs.declared.classes.FrameworkClass.{FrameworkClass}
use Rattle.scj_builtins.specs.declared.kinds.ClassKind.TheVariants.{Concrete as concrete_class, Abstract as abstract_class}
use Rattle.scj_builtins.specs.Framework.{framework_classes, object}
use Rattle.scj_tree.specs.Forest.{Forest, IsForest}
use Rattle.scj_rules.specs.Views.{WrittenClass}
use Rattle.scj_rules.specs.Classes.{ClassRow, first_user_class, is_user_class, framework_row, framework_rows_from, user_row, written_rows}
use Rattle.scj_rules.specs.Contexts.{Declarations, declarations_of}
use Rattle.scj_rules.specs.Types.{is_concrete}
use Rattle.scj_rules.specs.Phases.{IsAccepted}
use Rattle.accepted_laws.specs.Sorts.{IsWellSorted}
use Rattle.accepted_laws.proofs.ClassNumbers.{framework_count}
use Rattle.accepted_laws.proofs.Dispatch.{written_of}
use Rattle.accepted_laws.proofs.Lists.{get_left}
use Rattle.accepted_laws.proofs.MethodNodes.{and_true}
use Rattle.accepted_laws.proofs.Positions.{get_right, get_map, length_map}
use Rattle.accepted_laws.proofs.Rows.{IsUserRow, counted_is_written, get_from_within}
use Rattle.accepted_laws.proofs.Tools.{some_inj}
use Rattle.accepted_nodes.proofs.FormParts.{held}
use Rattle.scope_flow.specs.Signatures.{IsConcrete}

none_concrete : List FrameworkClass → Bool
none_concrete [] = true
none_concrete (c ∷ cs) = not (is_concrete c.kind) && none_concrete cs

not_true : (t : Bool) → not t ≡ true → t ≡ false
not_true true e = absurd (true≢false (sym e))
not_true false e = refl

rows_not_concrete : (n : ℕ) (cs : List FrameworkClass) → none_concrete cs ≡ true → (k : ℕ) (row : ClassRow) →
    slice_get (framework_rows_from n cs) k ≡ Some row → is_concrete row.kind ≡ false
unfolding framework_rows_from framework_row none_concrete
rows_not_concrete n [] h k row e = absurd (cc (e))
rows_not_concrete n (c ∷ cs) h zero row e =
    ap (λ (r : ClassRow). is_concrete r.kind) (sym (some_inj (framework_row n c) row e))
    ∙ not_true (is_concrete c.kind) (and_true (not (is_concrete c.kind)) (none_concrete cs) h).0
rows_not_concrete n (c ∷ cs) h (suc k) row e =
    rows_not_concrete (n + 1) cs (and_true (not (is_concrete c.kind)) (none_concrete cs) h).1 k row e

-- the first alone is concrete
first_concrete : (c : FrameworkClass) (cs : List FrameworkClass) → none_concrete cs ≡ true → (k : ℕ) (row : ClassRow) →
    slice_get (framework_rows_from 0 (c ∷ cs)) k ≡ Some row → is_concrete row.kind ≡ true → k ≡ 0
unfolding framework_rows_from
first_concrete c cs h zero row e k = refl
first_concrete c cs h (suc k) row e t = absurd (true≢false (sym t ∙ rows_not_concrete 1 cs h k row e))

object_alone : (k : ℕ) (row : ClassRow) → slice_get (framework_rows_from 0 framework_classes) k ≡ Some row →
    is_concrete row.kind ≡ true → k ≡ object
unfolding framework_classes is_concrete none_concrete
object_alone k row e t = first_concrete _ _ refl k row e t

-- a user class of which objects are made
pub record IsWritten (p : Declarations) (class : ℕ) : Type 0 where
  pub row : ClassRow
  pub stands : slice_get p.classes class ≡ Some row
  pub declared : WrittenClass
  pub is : row.written ≡ Some declared
  pub plain : declared.modifiers.is_abstract ≡ false
  pub is_users : is_user_class class ≡ true

module _ (forest : Forest) (accepted : IsAccepted forest) (whole : IsForest forest) (sorted : IsWellSorted forest.nodes)
  where
    abbrev p : Declarations
    p = declarations_of forest

    of_user : (class j : ℕ) (row : ClassRow) → slice_get p.classes class ≡ Some row → is_concrete row.kind ≡ true →
        is_user_class class ≡ true → IsUserRow p.nodes p.users j row → IsWritten p class
    unfolding user_row is_concrete
    of_user class j row e k user u =
        record {
          is_users = user;
          row = row;
          stands = e;
          declared = u.class;
          is = written_of forest accepted whole sorted
              j row u;
          plain = go u.class.modifiers.is_abstract (sym (ap (λ (r : ClassRow). is_concrete r.kind) u.is) ∙ k);
        }
      where
        go : (t : Bool) → is_concrete (if t then abstract_class else concrete_class) ≡ true → t ≡ false
        go true e = absurd (true≢false (sym e))
        go false e = refl

    of_framework : (class : ℕ) (row : ClassRow) → slice_get p.classes class ≡ Some row → is_concrete row.kind ≡ true →
        class < first_user_class → class ≡ object
    unfolding declarations_of written_rows
    of_framework class row e k l =
        let few : class < length (framework_rows_from 0 framework_classes) =
        subst (λ n. class < n) (sym framework_count) l in
        let r = get_from_within (framework_rows_from 0 framework_classes) class few in
        let stands : slice_get p.written class ≡ Some row =
        ap (λ rows. slice_get rows class) (sym (counted_is_written forest accepted)) ∙ e in
        let same : r.0 ≡ row =
        some_inj r.0 row
        (sym
        (get_left (framework_rows_from 0 framework_classes) (map (user_row p.nodes p.names) p.users) class r.0 r.1)
        ∙ stands) in
        object_alone class row (r.1 ∙ ap (λ x. Some x) same) k

    -- behind the classes of the framework stand those of the user
    pub behind : (class : ℕ) (row : ClassRow) → slice_get p.classes class ≡ Some row → first_user_class ≤ class →
        (j : ℕ) × IsUserRow p.nodes p.users j row
    unfolding declarations_of written_rows
    behind class row e least =
        let rows : List ClassRow = framework_rows_from 0 framework_classes in
        let users : List ClassRow = map (user_row p.nodes p.names) p.users in
        let j : ℕ = class - first_user_class in
        let stands : slice_get p.written class ≡ Some row =
        ap (λ rows. slice_get rows class) (sym (counted_is_written forest accepted)) ∙ e in
        let total : class < length p.written = slice_get_within p.written class row stands in
        let sum : length p.written ≡ length rows + length users = length-append rows users in
        let same : length users ≡ length p.users = length_map (user_row p.nodes p.names) p.users in
        let count : length rows ≡ first_user_class = framework_count in
        let c = get_from_within p.users j (omega (arith, total, sum, same, count, least)) in
        let index : length rows + j ≡ class = omega (arith, count, least) in
        let found : slice_get p.written class ≡ Some (user_row p.nodes p.names c.0) = ap (slice_get p.written) (sym index)
        ∙ get_right rows users j (user_row p.nodes p.names c.0) (get_map (user_row p.nodes p.names) p.users j c.0 c.1)
        in
        (j, record { class = c.0; is_there = c.1; is = some_inj row (user_row p.nodes p.names c.0) (sym stands ∙ found) })

    -- a class of which objects are made is a user's, or Object
    pub concrete_is : (class : ℕ) → IsConcrete p class → IsWritten p class ⊎ (class ≡ object)
    concrete_is class c =
        let r = held (slice_get p.classes class) (λ (row : ClassRow). is_concrete row.kind) c in
        go (nat_lt class first_user_class) refl r.0 r.1 r.2
      where
        go : (t : Bool) → nat_lt class first_user_class ≡ t → (row : ClassRow) → slice_get p.classes class ≡ Some row →
            is_concrete row.kind ≡ true → IsWritten p class ⊎ (class ≡ object)
        go true h row e k =
            inr (let l : class < first_user_class = grind (arith, nat_tests) in of_framework class row e k l)
        go false h row e k =
            (let l : first_user_class ≤ class = grind (arith, nat_tests) in let u = behind class row e l in
            inl (of_user class u.0 row e k (ap not h) u.1))
