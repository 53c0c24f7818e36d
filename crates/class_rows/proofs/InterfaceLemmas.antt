-- Only Runnable and Safelet are implemented by classes as they count, and none has a method of both.
use Rattle.std.proofs.Common.{◌≡◌, ℕ, zero, suc, ◌+◌, Bool, true, false, cond, not, ◌&&◌, ◌||◌, ◌==◌, List, [], ◌∷◌, ◌++◌, map, filter, flat_map, slice_get, Option, Some, None, option_map, unwrap_or, refl, sym, ap, ◌∙◌, arith, if◌then◌else◌, ◌⊎◌, inl, inr}
use Rattle.std.specs.List.{list_all}
use Rattle.std.proofs.lemmas.Bool.{true≢false}
use Rattle.std.proofs.lemmas.Bool.Decides.{nat_tests}
use Rattle.std.proofs.lemmas.Grind.{common_steps}
use Rattle.std.proofs.lemmas.List.Elements.{filter-append}
use Rattle.std.proofs.lemmas.List.Folds.{list_all-append}
use Rattle.std.proofs.lemmas.Slice.Eq.{bytes_eq-Decides}
use Rattle.scj_base.specs.Bytes.{is_same}
use Rattle.scj_builtins.specs.declared.classes.FrameworkClass.{FrameworkClass}
use Rattle.scj_builtins.specs.Framework.{framework_classes, framework_methods, runnable, safelet}
use Rattle.scj_tree.specs.declared.nodes.Node.{Node}
use Rattle.scj_tree.specs.Forest.{Forest}
use Rattle.scj_rules.specs.Words.{along, holds, is_among, or_else}
use Rattle.scj_rules.specs.Views.{WrittenClass, DeclaredMethod}
use Rattle.scj_rules.specs.Classes.{ClassRow, FoundMethod, all_interfaces, class_names, framework_method, framework_methods_on, framework_row, framework_rows_from, interfaces_in, is_implemented, own_method, superclasses, user_classes, user_row, written_rows}
use Rattle.scj_rules.specs.Contexts.{declarations_of}
use Rattle.scj_rules.proofs.ChainLemmas.{is_same_number, or_left, or_right}
use Rattle.scj_rules.proofs.SubtypeLemmas.{interfaces-implemented}
use Rattle.method_rows.specs.Methods.{framework_method_on, no_method}
use Rattle.class_headers.specs.declared.ways.Way.{Way}
use Rattle.class_headers.specs.Ways.{no_way, has_bit}
use Rattle.class_headers.specs.Columns.{AreWaysOf}
use Rattle.scj_tree.specs.Recursion.{lookup}
use Rattle.class_rows.specs.Members.{rows_of}
use Rattle.class_rows.specs.Walks.{IsRoot, is_framework, is_known, implemented_method}
use Rattle.class_rows.proofs.OwnLemmas.{framework_own, method_in, on_method}
use Rattle.class_rows.proofs.WalkLemmas.{along_append}

abbrev are_known : List ℕ → Bool
are_known = list_all is_known

-- ---- the classes that may be implemented

-- those of the framework from a number on
first_known : ℕ → List FrameworkClass → Bool
first_known n [] = true
first_known n (c ∷ cs) = (not (is_implemented c.kind) || is_known n) && first_known (n + 1) cs

framework_known : first_known 0 framework_classes ≡ true
unfolding first_known framework_classes is_implemented
framework_known = refl

abbrev may_be : Option ClassRow → Bool
may_be o = holds o (λ (row : ClassRow). is_implemented row.kind)

module _ (nodes : List Node) (names : List (List ℕ)) where
  no_user : (users : List WrittenClass) (k : ℕ) → may_be (slice_get (map (user_row nodes names) users) k) ≡ false
  unfolding user_row is_implemented
  no_user [] k = refl
  no_user (c ∷ users) zero = grind (arith, common_steps)
  no_user (c ∷ users) (suc k) = no_user users k

  known_at : (users : List WrittenClass) (cs : List FrameworkClass) (n k : ℕ) → first_known n cs ≡ true → may_be
      (slice_get (framework_rows_from n cs ++ map (user_row nodes names) users) k) ≡ true → is_known (n + k) ≡ true
  unfolding first_known framework_rows_from framework_row
  known_at users [] n k t h = absurd (true≢false (sym h ∙ no_user users k))
  known_at users (c ∷ cs) n zero t h = grind (arith, common_steps, nat_tests, t, h)
  known_at users (c ∷ cs) n (suc k) t h =
      let same : n + suc k ≡ n + 1 + k = omega arith in
      ap is_known same ∙ known_at users cs (n + 1) k (grind (arith, common_steps, t)) h

implemented_known : (forest : Forest) (k : ℕ) → may_be (slice_get (declarations_of forest).written k) ≡ true →
    is_known k ≡ true
unfolding declarations_of written_rows
implemented_known forest k h =
    (let e : k ≡ 0 + k = omega arith in ap is_known e)
    ∙ known_at forest.nodes (class_names (user_classes forest)) (user_classes forest) framework_classes 0 k
    framework_known h

all_from : (test : ℕ → Bool) (xs : List ℕ) → ((x : ℕ) → is_among x xs ≡ true → test x ≡ true) → list_all test xs ≡ true
all_from test [] h = refl
all_from test (x ∷ xs) h = rw (h x (or_left (x == x) (is_among x xs) (is_same_number x x refl)))
    (all_from test xs (λ y k. h y (or_right (y == x) (is_among y xs) k)))

interfaces_known : (forest : Forest) (class : ℕ) → are_known (interfaces_in (rows_of forest) class) ≡ true
interfaces_known forest class = all_from is_known (interfaces_in (rows_of forest) class)
    (λ x h. implemented_known forest x (interfaces-implemented forest class x h))

flat_known : (f : ℕ → List ℕ) → ((x : ℕ) → are_known (f x) ≡ true) → (xs : List ℕ) → are_known (flat_map f xs) ≡ true
flat_known f h [] = refl
flat_known f h (x ∷ xs) = list_all-append is_known (f x) (flat_map f xs) ∙ rw (h x) (flat_known f h xs)

all_known : (forest : Forest) (class : ℕ) → are_known (all_interfaces (rows_of forest) class) ≡ true
unfolding all_interfaces
all_known forest class = flat_known (interfaces_in (rows_of forest)) (interfaces_known forest)
    (superclasses (rows_of forest) class)

-- ---- what is found along such interfaces

known_one : (x : ℕ) → is_known x ≡ true → (x == runnable) ≡ false → x ≡ safelet
known_one x k e = grind (arith, nat_tests)

known_other : (x : ℕ) → is_known x ≡ true → (x == safelet) ≡ false → x ≡ runnable
known_other x k e = grind (arith, nat_tests)

-- along them only one can have something
along_one : {B : Type 0} (f : ℕ → Option B) (i : ℕ) → ((x : ℕ) → is_known x ≡ true → (x == i) ≡ false → f x ≡ None) →
    (xs : List ℕ) → are_known xs ≡ true → along f xs ≡ (if is_among i xs then f i else None)
unfolding along
along_one f i none [] k = refl
along_one f i none (x ∷ xs) k = grind (arith, common_steps, nat_tests, k, along_one f i none xs, none x)

pub known_marked : (forest : Forest) (ways : List Way) (class interface : ℕ) → AreWaysOf (rows_of forest) ways →
    is_known interface ≡ true → has_bit (lookup no_way ways class).implemented interface
    ≡ is_among interface (all_interfaces (rows_of forest) class)
known_marked forest ways class interface w e = w.implemented interface class (grind (arith, nat_tests))

none_among : (interface : ℕ) → is_known interface ≡ false → (xs : List ℕ) → are_known xs ≡ true →
    is_among interface xs ≡ false
none_among interface e [] k = refl
none_among interface e (x ∷ xs) k = grind (arith, common_steps, nat_tests, k, e, none_among interface e xs)

pub unknown_not_implemented : (forest : Forest) (class interface : ℕ) → is_known interface ≡ false →
    is_among interface (all_interfaces (rows_of forest) class) ≡ false
unknown_not_implemented forest class interface e =
    none_among interface e (all_interfaces (rows_of forest) class) (all_known forest class)

-- ---- methods of the two

abbrev run_method : DeclaredMethod
run_method = unwrap_or (slice_get (framework_methods_on runnable) 0) no_method

abbrev run_name : List ℕ
run_name = run_method.declared.name

only_run : (name : List ℕ) →
    method_in name (framework_methods_on runnable) ≡ cond (is_same name run_name) (Some run_method) None
unfolding framework_methods framework_methods_on framework_method
only_run name = refl

no_run : method_in run_name (framework_methods_on safelet) ≡ None
unfolding framework_methods framework_methods_on framework_method
no_run = refl

not_both : (forest : Forest) (name : List ℕ) →
    (own_method (rows_of forest) name runnable ≡ None) ⊎ (own_method (rows_of forest) name safelet ≡ None)
unfolding framework_method_on
not_both forest name = go (is_same name run_name) refl
  where
    go : (t : Bool) → is_same name run_name ≡ t →
        (own_method (rows_of forest) name runnable ≡ None) ⊎ (own_method (rows_of forest) name safelet ≡ None)
    go false e =
        inl (framework_own forest runnable name (omega arith)
        ∙ ap (option_map (on_method runnable)) (only_run name ∙ ap (λ (t : Bool). cond t (Some run_method) None) e))
    go true e =
        inr (framework_own forest safelet name (omega arith)
        ∙ ap (option_map (on_method safelet))
        (ap (λ (n : List ℕ). method_in n (framework_methods_on safelet)) ((bytes_eq-Decides name run_name).0 e)
        ∙ no_run))

module _ (forest : Forest) (class : ℕ) (name : List ℕ) where
  abbrev rows : List ClassRow
  rows = rows_of forest

  abbrev own : ℕ → Option FoundMethod
  own = own_method rows name

  found_either : or_else (implemented_method rows class name runnable) (implemented_method rows class name safelet)
      ≡ along own (all_interfaces rows class)
  found_either = go (not_both forest name)
    where
      all : List ℕ
      all = all_interfaces rows class

      go : (own runnable ≡ None) ⊎ (own safelet ≡ None) → or_else (implemented_method rows class name runnable)
          (implemented_method rows class name safelet) ≡ along own all
      go (inl e) =
          let along_it = along_one own safelet (λ x k n. ap own (known_other x k n) ∙ e) all (all_known forest class) in
          grind (arith, common_steps, e, along_it)
      go (inr e) =
          let along_it = along_one own runnable (λ x k n. ap own (known_one x k n) ∙ e) all (all_known forest class) in
          grind (arith, common_steps, e, along_it)

  pub by_runnable : (m : FoundMethod) → Some m ≡ implemented_method rows class name runnable →
      Some m ≡ along own (all_interfaces rows class)
  by_runnable m e = ap (λ o. or_else o (implemented_method rows class name safelet)) e ∙ found_either

  pub by_safelet : None ≡ implemented_method rows class name runnable →
      implemented_method rows class name safelet ≡ along own (all_interfaces rows class)
  by_safelet e = ap (λ o. or_else o (implemented_method rows class name safelet)) e ∙ found_either

  -- the interfaces are the framework's
  known_stay : (xs : List ℕ) → are_known xs ≡ true → filter is_framework xs ≡ xs
  known_stay [] k = refl
  known_stay (x ∷ xs) k = grind (arith, common_steps, nat_tests, k, known_stay xs)

  pub framework_append : (xs : List ℕ) → or_else (along own (filter is_framework xs))
      (along own (all_interfaces rows class)) ≡ along own (filter is_framework (xs ++ all_interfaces rows class))
  framework_append xs = along_append own (filter is_framework xs) (all_interfaces rows class)
      ∙ ap (λ ys. along own (filter is_framework xs ++ ys))
      (sym (known_stay (all_interfaces rows class) (all_known forest class)))
      ∙ ap (along own) (sym (filter-append is_framework xs (all_interfaces rows class)))

-- ---- roots

filter_twice : (test : ℕ → Bool) (xs : List ℕ) → filter test (filter test xs) ≡ filter test xs
filter_twice test [] = refl
filter_twice test (x ∷ xs) = grind (arith, common_steps, filter_twice test xs)

-- a root has the same of the framework's classes on its chain
pub same_framework : (rows : List ClassRow) (class root : ℕ) → IsRoot rows class root
    → filter is_framework (superclasses rows root) ≡ filter is_framework (superclasses rows class)
same_framework rows class root e = rw e (filter_twice is_framework (superclasses rows class))
