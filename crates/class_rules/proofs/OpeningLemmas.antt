-- The abstract methods that a class has: those of the user classes above it, and those of the framework, row after row.
use Rattle.std.proofs.Common.{◌≡◌, ◌<◌, ◌≤◌, ℕ, zero, suc, ◌+◌, Bool, false, not, nat_lt, ◌||◌, List, [], ◌∷◌, drop, slice_get, Some, refl, sym, ap, ◌∙◌, arith, ◌&&◌, ◌==◌, ◌++◌, append-nil, map, filter, flat_map}
use Rattle.std.specs.List.{list_any}
use Rattle.std.proofs.lemmas.Bool.Decides.{nat_tests}
use Rattle.std.proofs.lemmas.Grind.{common_steps}
use Rattle.std.proofs.lemmas.List.{drop_all}
use Rattle.std.proofs.lemmas.List.Elements.{filter-append}
use Rattle.std.proofs.lemmas.List.Folds.{list_any-append}
use Rattle.scj_builtins.specs.declared.methods.FrameworkMethod.{FrameworkMethod}
use Rattle.scj_builtins.specs.Framework.{framework_methods, framework_method_count}
use Rattle.scj_tree.specs.Forest.{Forest}
use Rattle.scj_rules.specs.Words.{holds, is_among}
use Rattle.scj_rules.specs.Views.{DeclaredMethod}
use Rattle.scj_rules.specs.Classes.{first_user_class, is_sub, ClassRow, is_user_class, framework_method, framework_methods_on, superclasses, all_interfaces}
use Rattle.scj_rules.specs.ClassRules.{is_left_open, own_abstract_methods, abstract_methods}
use Rattle.scj_rules.specs.Contexts.{Declarations, declarations_of}
use Rattle.scj_rules.proofs.ChainLemmas.{is_same_number}
use Rattle.class_rows.specs.Members.{is_abstract}
use Rattle.class_rows.specs.Walks.{is_known}
use Rattle.class_rows.proofs.InterfaceLemmas.{unknown_not_implemented}
use Rattle.class_rows.proofs.OwnLemmas.{list_in}
use Rattle.class_rows.proofs.RowLemmas.{as_written}
use Rattle.class_rows.proofs.SoundLemmas.{row_sound, framework_there, first_methods}
use Rattle.symbol_table.specs.Symbols.{declared_abstract_methods, leaves_declared_open}
use Rattle.class_rules.specs.Members.{is_row_left}

-- ---- the framework's methods by their numbers

abbrev is_beyond : FrameworkMethod → Bool
is_beyond m = not (nat_lt m.on first_user_class)

none_beyond : list_any is_beyond framework_methods ≡ false
unfolding framework_methods
none_beyond = refl

-- the rows from one on
pub rows_from : {A : Type 0} (f : A → Bool) (k : ℕ) (xs : List A) →
    list_any f (drop k xs) ≡ (holds (slice_get xs k) f || list_any f (drop (k + 1) xs))
rows_from f zero [] = refl
rows_from f (suc k) [] = let e : suc k + 1 ≡ suc (k + 1) = omega arith in rw e refl
rows_from f zero (x ∷ xs) = refl
rows_from f (suc k) (x ∷ xs) = let e : suc k + 1 ≡ suc (k + 1) = omega arith in rw e (rows_from f k xs)

pub rows_end : (k : ℕ) → framework_method_count ≤ k → drop k framework_methods ≡ []
unfolding framework_methods
rows_end k h = drop_all k framework_methods h

-- ---- abstract methods that pass a test, in the rows and in the source

module _ (q : DeclaredMethod → Bool) where
  abbrev passes : FrameworkMethod → Bool
  passes m = m.is_abstract && q (framework_method m)

  abbrev is_any_of : List ℕ → List FrameworkMethod → Bool
  is_any_of classes ms = list_any (λ (m : FrameworkMethod). is_among m.on classes && passes m) ms

  on_one : (c : ℕ) (ms : List FrameworkMethod)
      → list_any q (filter is_abstract (map framework_method (filter (λ (m : FrameworkMethod). m.on == c) ms)))
      ≡ list_any (λ (m : FrameworkMethod). (m.on == c) && passes m) ms
  unfolding framework_method
  on_one c [] = refl
  on_one c (m ∷ ms) = grind (arith, common_steps, on_one c ms)

  on_more : (c : ℕ) (cs : List ℕ) (ms : List FrameworkMethod) → is_any_of (c ∷ cs) ms
      ≡ (list_any (λ (m : FrameworkMethod). (m.on == c) && passes m) ms || is_any_of cs ms)
  on_more c cs [] = refl
  on_more c cs (m ∷ ms) = grind (arith, common_steps, on_more c cs ms)

  on_none : (ms : List FrameworkMethod) → is_any_of [] ms ≡ false
  on_none [] = refl
  on_none (m ∷ ms) = on_none ms

  none_on : (c : ℕ) (ms : List FrameworkMethod) → first_user_class ≤ c → list_any is_beyond ms ≡ false →
      list_any (λ (m : FrameworkMethod). (m.on == c) && passes m) ms ≡ false
  none_on c [] l h = refl
  none_on c (m ∷ ms) l h = grind (arith, common_steps, nat_tests, l, h, none_on c ms l)

  module _ (forest : Forest) where
    abbrev own : ℕ → List DeclaredMethod
    own = own_abstract_methods (declarations_of forest).classes

    framework_own : (c : ℕ) → c < first_user_class → own c ≡ filter is_abstract (framework_methods_on c)
    framework_own c l =
        let there = framework_there forest c l in
        let read = as_written (list_in (λ (row : ClassRow). row.methods)) (λ row. refl) forest c in
        let methods = (row_sound forest c there.0 there.1).methods in
        grind (arith, common_steps, read, there.1, methods, first_methods forest.nodes c there.0.written l)

    split : (cs : List ℕ) → list_any q (flat_map own cs)
        ≡ (list_any q (flat_map own (filter is_user_class cs)) || is_any_of cs framework_methods)
    unfolding framework_methods_on
    split [] = sym (on_none framework_methods)
    split (c ∷ cs) =
        let first = list_any-append q (own c) (flat_map own cs) in
        let users = list_any-append q (own c) (flat_map own (filter is_user_class cs)) in
        let rows = on_more c cs framework_methods in
        let framework = λ (l : c < first_user_class). ap (list_any q) (framework_own c l) ∙ on_one c framework_methods
        in
        let none = λ (l : first_user_class ≤ c). none_on c framework_methods l none_beyond in
        grind (arith, common_steps, nat_tests, first, users, rows, framework, none, split cs)

-- ---- a class with what it implements

-- no user class is implemented
none_kept : (xs : List ℕ) → ((c : ℕ) → is_known c ≡ false → is_among c xs ≡ false) → filter is_user_class xs ≡ []
none_kept [] h = refl
none_kept (x ∷ xs) h =
    let here = h x in
    let later = none_kept xs (λ c k. grind (arith, common_steps, h c k)) in
    let same = is_same_number x x refl in
    grind (arith, common_steps, nat_tests, here, later, same)

module _ (forest : Forest) (class : ℕ) where
  abbrev p : Declarations
  p = declarations_of forest

  pub leaves_open_split : list_any (is_left_open p class) (abstract_methods p.classes class)
      ≡ (leaves_declared_open p class || list_any (is_row_left p class) framework_methods)
  unfolding abstract_methods leaves_declared_open declared_abstract_methods is_sub
  leaves_open_split =
      let above = superclasses p.classes class in
      let interfaces = all_interfaces p.classes class in
      split (is_left_open p class) forest (above ++ interfaces) ∙ simp (
        list_any-append,
        filter-append,
        none_kept interfaces (unknown_not_implemented forest class),
        append-nil,
      )
