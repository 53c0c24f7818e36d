-- What the names of a class that is entered or left stand for, and what a scope tells of the class that it is at.
use Rattle.std.proofs.Common.{◌≡◌, ℕ, ◌<◌, ◌≤◌, ◌-◌, Bool, true, false, not, List, [], ◌∷◌, ◌++◌, length, get_or, take, drop, filter, Option, None, Some, sym, ap, ◌∙◌, arith, option_and_then, option_map, if◌then◌else◌}
use Rattle.std.specs.Option.{option_or}
use Rattle.std.proofs.lemmas.Bool.Decides.{nat_tests}
use Rattle.std.proofs.lemmas.Cmp.{nat_list_eq_equiv}
use Rattle.std.proofs.lemmas.Grind.{common_steps}
use Rattle.std.proofs.lemmas.List.{take_rest}
use Rattle.std.proofs.lemmas.Slice.Eq.{bytes_eq-Decides}
use Rattle.scj_base.specs.Bytes.{is_same}
use Rattle.scj_tree.specs.Forest.{Forest}
use Rattle.scj_rules.specs.Words.{along, or_else, chain_behind}
use Rattle.scj_rules.specs.Classes.{first_user_class, is_user_class, own_method, ClassRow, FoundMethod, all_interfaces, classes_above, field_named, framework_row_named, method_above, method_named, superclass_in, superclasses}
use Rattle.scj_rules.specs.Contexts.{declarations_of}
use Rattle.class_rows.specs.declared.members.MemberKind.{MemberKind}
use Rattle.class_rows.specs.declared.fields.FieldRef.{FieldRef as Member}
use Rattle.class_rows.specs.Fields.{found_field}
use Rattle.class_rows.specs.Members.{first_named, found_at, name_at, nearest_in, nearest_now, IsNearestAbove}
use Rattle.class_rows.specs.Tables.{members_in}
use Rattle.class_rows.specs.Walks.{is_framework}
use Rattle.class_rows.proofs.InterfaceLemmas.{framework_append}
use Rattle.class_rows.proofs.OwnLemmas.{fields_along, first_on, methods_along, nearest_on}
use Rattle.class_rows.proofs.WalkLemmas.{along_append, along_front}
use Rattle.symbol_table.specs.declared.scopes.Scope.{Scope}
use Rattle.symbol_table.specs.Scopes.{classes_of, rows_of, with_class, IsScope, IsSplit}

-- ---- names, of one member after the other

pub first_left : (k : ℕ) (xs : List ℕ) → 1 ≤ length xs → k ≡ get_or xs 0 k → xs ≡ k ∷ take (length xs - 1) (drop 1 xs)
first_left k [] some here = absurd (omega (arith, some))
first_left k (x ∷ xs) some here = rw (take_rest (x ∷ xs) 1) (ap (λ c. c ∷ xs) (sym here))

pub same_name : (xs ys : List ℕ) → is_same xs ys ≡ true → xs ≡ ys
same_name xs ys h = (bytes_eq-Decides xs ys).0 h

module _ (kind : MemberKind) (forest : Forest) (name : List ℕ) where
  -- what a name stands for with a class or without
  pub standing_is : (class : ℕ) (above member : Option Member) (is_entered : Bool) →
      IsNearestAbove kind forest class name above
      → member ≡ (if is_entered then option_or (first_on kind forest name class) above else above) →
      member ≡ nearest_in kind forest name (with_class is_entered class (classes_above (rows_of forest) class))
  standing_is class above member true n e =
      let whole = nearest_on kind forest name class (classes_above (rows_of forest) class) in
      grind (arith, common_steps, e, n.nearest, whole)
  standing_is class above member false n e = e ∙ n.nearest

  -- a name that no member of the class has stands for the same with it and without
  pub same_without : (class : ℕ) (path : List ℕ) (is_entered : Bool) → first_named kind forest.nodes name
      (members_in (declarations_of forest) class) ≡ None → nearest_in kind forest name
      (with_class (not is_entered) class path) ≡ nearest_in kind forest name (with_class is_entered class path)
  same_without class path true h = grind (arith, common_steps, h, nearest_on kind forest name class path)
  same_without class path false h = grind (arith, common_steps, h, nearest_on kind forest name class path)

  -- one member more whose name stands for what it is to, before the others
  pub one_renewed : (after : List ℕ → Option Member) (id : ℕ) (rest own : List ℕ) (was now member : Option Member) →
      Some own ≡ name_at kind forest.nodes id → member ≡ after own → now ≡ (if is_same own name then member else was) →
      (first_named kind forest.nodes name (id ∷ rest) ≡ None → was ≡ after name) →
      first_named kind forest.nodes name rest ≡ None → now ≡ after name
  one_renewed after id rest own was now member e m n w h =
      let turned = nat_list_eq_equiv.symm own name in
      grind (arith, common_steps, e, m, n, w, h, turned, same_name own name)

-- ---- what a scope tells

module _ (forest : Forest) (class : ℕ) (name : List ℕ) where
  abbrev own : ℕ → Option FoundMethod
  own = own_method (rows_of forest) name

  abbrev implemented : List ℕ
  implemented = all_interfaces (rows_of forest) class

  -- the user classes of a list first, and then the framework's with the interfaces
  split : (xs : List ℕ) → IsSplit xs → along own (xs ++ implemented)
      ≡ or_else (along own (filter is_user_class xs)) (along own (filter is_framework (xs ++ implemented)))
  split xs h =
      let parts = along_append own (filter is_user_class xs) (filter is_framework xs) in
      let whole = along_append own (filter is_user_class xs ++ filter is_framework xs) implemented in
      grind (arith, common_steps, h, whole, parts, framework_append forest class name xs)

module _ (forest : Forest) (scope : Scope) (s : IsScope forest scope) where
  abbrev rows : List ClassRow
  rows = rows_of forest

  abbrev at : ℕ
  at = scope.level.class

  abbrev above : List ℕ
  above = classes_of scope.above.path

  module _ (name : List ℕ) where
    abbrev own_at : ℕ → Option FoundMethod
    own_at = own_method rows name

    abbrev nearest : Option FoundMethod
    nearest = option_map (found_at forest.nodes) (nearest_now scope.above.methods name)

    users_above : along own_at (filter is_user_class above) ≡ nearest
    users_above = grind (arith, common_steps, methods_along forest name above, s.above.methods.nearest name)

    pub above_is : first_user_class ≤ at → method_above rows at name
        ≡ or_else nearest (framework_row_named rows at name)
    unfolding method_above framework_row_named
    above_is h =
        let user : is_user_class at ≡ true = grind (arith, nat_tests, h) in
        let parts : IsSplit above = grind (arith, common_steps, user, s.under.chain, s.under.split) in
        let whole = split forest at name above parts in
        grind (arith, common_steps, user, s.under.chain, s.under.behind, whole, users_above)

    pub named_is : method_named rows at name ≡ or_else (own_at at) (method_above rows at name)
    unfolding method_named method_above
    named_is = grind (arith, s.under.chain, s.under.behind, along_front own_at at (above ++ all_interfaces rows at))

    abbrev by_chain : Option FoundMethod
    by_chain = along own_at (filter is_user_class (superclasses rows at))

    pub by_users : method_named rows at name ≡ or_else by_chain (framework_row_named rows at name)
    unfolding method_named framework_row_named
    by_users = split forest at name (superclasses rows at) s.under.split

    pub user_method : first_user_class ≤ at → by_chain ≡ or_else (own_at at) nearest
    user_method h =
        let user : is_user_class at ≡ true = grind (arith, nat_tests, h) in
        grind (arith, user, s.under.chain, along_front own_at at (filter is_user_class above), users_above)

    pub framework_method : at < first_user_class → by_chain ≡ nearest
    framework_method h =
        let user : is_user_class at ≡ false = grind (arith, nat_tests, h) in
        grind (arith, user, s.under.chain, users_above)

    pub field_is : option_and_then (λ class. field_named rows class name) (superclass_in rows at)
        ≡ option_map (found_field forest.nodes) (nearest_now scope.above.fields name)
    unfolding field_named classes_above chain_behind superclasses along
    field_is = grind (arith, common_steps, s.under.behind, fields_along forest name above, s.above.fields.nearest name)
