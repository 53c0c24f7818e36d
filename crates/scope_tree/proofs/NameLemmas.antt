-- The scopes by their names, from the last class on.
use Rattle.std.proofs.Common.{◌≡◌, ℕ, suc, ◌+◌, ◌-◌, ◌<◌, ◌≤◌, true, List, ◌∷◌, length, drop, get_or, slice_get, Option, Some, None, refl, sym, ap, ◌∙◌, arith, ⊎_elim, if◌then◌else◌, option_and_then}
use Rattle.std.proofs.Math.Seq.{drop-cons}
use Rattle.std.specs.Cmp.Lexicographic.{slice_cmp}
use Rattle.std.specs.Ordering.{nat_cmp, is_eq}
use Rattle.std.proofs.lemmas.Bool.{cases_lt}
use Rattle.std.proofs.lemmas.List.{drop_all}
use Rattle.std.proofs.lemmas.Cmp.{nat_list_eq_equiv}
use Rattle.std.proofs.lemmas.Map.Text.{is_eq-slice_cmp}
use Rattle.std.proofs.lemmas.Option.{slice_get-get_or}
use Rattle.std.proofs.lemmas.Slice.Eq.{bytes_eq-Decides}
use Rattle.scj_base.specs.Bytes.{is_same}
use Rattle.scj_tree.specs.Forest.{Forest, IsForest}
use Rattle.scj_rules.specs.declared.scopes.Definition.{Definition}
use Rattle.scj_rules.specs.Definitions.{is_reserved, first_definition, definition_of, definitions_in, definitions, in_front}
use Rattle.scj_rules.specs.Classes.{class_nodes, first_user_class}
use Rattle.scj_rules.specs.Contexts.{Declarations, declarations_of}
use Rattle.scj_rules.specs.ScopeRules.{definition_in, scope_of_definition}
use Rattle.program_facts.specs.Tables.{entered}
use Rattle.scope_tree.proofs.DefinitionLemmas.{class_count, definition_at_place, no_definition_below, scope_at_place}

pub ordered_same : (xs ys : List ℕ) → is_eq (slice_cmp nat_cmp xs ys) ≡ is_same ys xs
ordered_same xs ys = is_eq-slice_cmp xs ys ∙ nat_list_eq_equiv.symm xs ys

-- the scope of a name by the definitions of the classes from a number on
abbrev pub scope_from : Forest → ℕ → List ℕ → Option ℕ
scope_from forest n name = option_and_then (scope_of_definition (declarations_of forest))
    (first_definition (definitions_in forest.nodes (drop (n - first_user_class) (class_nodes forest))) name)

-- a definition in front of others
in_front_first : (scope : Definition → Option ℕ) (class : ℕ) (d : Definition) (ds : List Definition) (name : List ℕ)
    → scope d ≡ Some class
    → (if is_reserved d.scope.name then option_and_then scope (first_definition ds name)
    else (if is_same name d.scope.name then Some class else option_and_then scope (first_definition ds name)))
    ≡ option_and_then scope (first_definition (d ∷ ds) name)
unfolding first_definition
in_front_first scope class d ds name h =
    let like : is_same name d.scope.name ≡ true → is_reserved name ≡ is_reserved d.scope.name =
    λ e. ap is_reserved ((bytes_eq-Decides name d.scope.name).0 e) in
    grind (arith, h, like)

module _ (forest : Forest) (whole : IsForest forest) where
  abbrev p : Declarations
  p = declarations_of forest

  -- no class is left behind the last
  pub none_from : (n : ℕ) (found : Option ℕ) (name : List ℕ) → n ≡ length p.classes → found ≡ None →
      found ≡ scope_from forest n name
  unfolding definitions_in first_definition
  none_from n found name e none =
      let l : length (class_nodes forest) ≤ n - first_user_class = omega (arith, e, class_count forest whole) in
      grind (arith, drop_all (n - first_user_class) (class_nodes forest) l, none)

  -- one class more
  pub entered_from : (m n : ℕ) (found : Option ℕ) (name : List ℕ) → m ≡ n + 1 → m ≤ length p.classes →
      found ≡ scope_from forest m name → entered (definition_in p n) n name found ≡ scope_from forest n name
  unfolding definitions_in
  entered_from m n found name e l before = ⊎_elim
      (λ (low : n < first_user_class).
      let none : definition_in p n ≡ None = no_definition_below forest n low in
      let same : m - first_user_class ≡ n - first_user_class = omega (arith, low, e) in
      rw none (before ∙ ap (λ k. option_and_then (scope_of_definition p)
      (first_definition (definitions_in forest.nodes (drop k (class_nodes forest))) name)) same))
      (λ (high : first_user_class ≤ n). user (n - first_user_class) (omega (arith, high)) refl)
      (cases_lt n first_user_class)
    where
      go : (k x : ℕ) → n ≡ first_user_class + k → slice_get (class_nodes forest) k ≡ Some x → (rest : List ℕ)
          (o : Option Definition) → definition_of forest.nodes x ≡ o
          → entered o n name
          (option_and_then (scope_of_definition p) (first_definition (definitions_in forest.nodes rest) name))
          ≡ option_and_then (scope_of_definition p)
          (first_definition (in_front o (definitions_in forest.nodes rest)) name)
      go k x e there rest None f = refl
      go k x e there rest (Some d) f =
          in_front_first (scope_of_definition p) n d (definitions_in forest.nodes rest) name
          (scope_at_place forest whole k x d there f ∙ ap Some (sym e))

      user : (k : ℕ) → n ≡ first_user_class + k → k ≡ n - first_user_class
          → entered (definition_in p n) n name found ≡ scope_from forest n name
      user k f same =
          let ids : List ℕ = class_nodes forest in
          let inside : k < length ids = omega (arith, l, e, f, class_count forest whole) in
          let x : ℕ = get_or ids k 0 in
          let there : slice_get ids k ≡ Some x = slice_get-get_or ids k 0 inside in
          let here : drop (n - first_user_class) ids ≡ x ∷ drop (suc k) ids = ap (λ i. drop i ids) (sym same)
          ∙ drop-cons ids k 0 inside in
          let next : m - first_user_class ≡ suc k = omega (arith, e, f) in
          let written = definition_at_place forest whole k x there in
          let behind = go k x f there (drop (suc k) ids) (definition_of forest.nodes x) refl in
          grind (arith, here, next, before, f, written, behind)

  pub all_from : (name : List ℕ) → scope_from forest 0 name
      ≡ option_and_then (scope_of_definition p) (first_definition p.scopes name)
  unfolding declarations_of definitions
  all_from name = refl
