-- What the tables of a program hold: the scopes by their names, what is said of classes, where methods run and fields
-- lie, and the scopes of variables.
use Rattle.std.specs.Prelude.{◌≡◌, ◌<◌, ◌^◌, ℕ, List, length, slice_get, Option, Some, None, is_some, unwrap_or, if◌then◌else◌}
use Rattle.std.specs.BTreeMap.{BTreeMap, get}
use Rattle.std.specs.Cmp.Lexicographic.{slice_cmp}
use Rattle.std.specs.Ordering.{nat_cmp}
use Rattle.scj_base.specs.Bytes.{is_same}
use Rattle.scj_tree.specs.Forest.{Forest}
use Rattle.scj_tree.specs.Recursion.{listed}
use Rattle.scj_rules.specs.Words.{◌>>=◌}
use Rattle.scj_rules.specs.declared.contexts.Context.{Context}
use Rattle.scj_rules.specs.declared.scopes.Definition.{Definition}
use Rattle.scj_rules.specs.declared.typing.Scope.{Scope}
use Rattle.scj_rules.specs.Definitions.{is_reserved, first_definition}
use Rattle.scj_rules.specs.Views.{method_at, field_at}
use Rattle.scj_rules.specs.Contexts.{Declarations, declarations_of, contexts_in, in_class}
use Rattle.scj_rules.specs.ScopeRules.{defined_by_chain, parent_scope, scope_of_definition}
use Rattle.scj_rules.specs.StaticScopes.{is_implied_immortal, class_scope, runs_in, field_scope}
use Rattle.scj_rules.specs.UseRules.{variable_scope_at}
use Rattle.class_rows.specs.Fields.{no_field}
use Rattle.method_rows.specs.Methods.{no_method}
use Rattle.program_facts.specs.declared.meanings.NodeMeaning.{NodeMeaning}
use Rattle.program_facts.specs.declared.tables.ScopeNames.{ScopeNames}
use Rattle.program_facts.specs.declared.tables.ScopeRow.{ScopeRow}
use Rattle.program_facts.specs.declared.tables.ScopeTree.{ScopeTree}
use Rattle.program_facts.specs.declared.tables.Runs.{Runs}
use Rattle.program_facts.specs.declared.tables.Variables.{Variables}
use Rattle.program_facts.specs.Meanings.{AreMeanings}

-- ---- scopes by their names

-- the scope under a name
abbrev pub scope_named : ScopeNames → List ℕ → Option ℕ
scope_named names name = get (slice_cmp nat_cmp) names.scopes name

-- the names find the scope that the first definition of each makes
abbrev pub FindsScopes : Declarations → ScopeNames → Type 0
FindsScopes p names =
    (name : List ℕ) → scope_named names name ≡ (first_definition p.scopes name >>= scope_of_definition p)

-- the same, where there are no more classes than numbers of them
pub record IsNaming (p : Declarations) (names : ScopeNames) : Type 0 where
  pub few : length p.classes < 2 ^ 32
  pub finds : FindsScopes p names

-- what is found under a name once the definition of a class, where it writes one, is put before those that find `other`
abbrev pub entered : Option Definition → ℕ → List ℕ → Option ℕ → Option ℕ
entered None class name other = other
entered (Some d) class name other =
    if is_reserved d.scope.name then other else (if is_same name d.scope.name then Some class else other)

-- ---- classes

-- what is said of a class
unfoldable pub row_of : Declarations → ℕ → ScopeRow
row_of p class =
    record { chained = defined_by_chain p class; parent = parent_scope p class; scope = class_scope p class }

-- each row that is there tells what f gives for its number
pub record AreRowsOf {A : Type 0} (f : ℕ → A) (rows : List A) : Type 0 where
  pub reported : (number : ℕ) (row : A) → slice_get rows number ≡ Some row → row ≡ f number

-- the marks of what is implied of classes, and the rows of classes are those of the program
pub record IsTreeOf (forest : Forest) (tree : ScopeTree) : Type 0 where
  pub marked : AreRowsOf (is_implied_immortal (declarations_of forest)) tree.implied.items
  pub said : AreRowsOf (row_of (declarations_of forest)) tree.rows.items

-- both tell it of each class
pub record IsWholeTree (forest : Forest) (tree : ScopeTree) : Type 0 where
  pub marks : tree.implied.items ≡ listed (is_implied_immortal (declarations_of forest))
      (length (declarations_of forest).classes)
  pub rows : tree.rows.items ≡ listed (row_of (declarations_of forest)) (length (declarations_of forest).classes)

-- ---- members and variables

-- what is said of the member that a node declares, in a class: of a method where it runs, of a field where it lies
unfoldable pub scope_of_member : Declarations → ℕ → ℕ → Option Scope
scope_of_member p class id =
    if is_some (method_at p.nodes id) then runs_in p class (unwrap_or (method_at p.nodes id) no_method)
    else (if is_some (field_at p.nodes id) then field_scope p class (unwrap_or (field_at p.nodes id) (no_field id))
    else None)

-- the same in its class
unfoldable pub run_at : Declarations → ℕ → Option Scope
run_at p id = in_class p id (λ class. scope_of_member p class id)

-- each row tells what is said of its node
abbrev pub AreRunRows : Declarations → BTreeMap ℕ (Option Scope) → Type 0
AreRunRows p rows = (id : ℕ) (row : Option Scope) → get nat_cmp rows id ≡ Some row → row ≡ run_at p id

-- the rows are those of the program
pub record AreRuns (forest : Forest) (runs : Runs) : Type 0 where
  pub reported : AreRunRows (declarations_of forest) runs.rows

-- each row tells of a variable the scope that it has
abbrev pub AreVariables : Forest → Variables → Type 0
AreVariables forest variables = (id : ℕ) (scope : Scope) → get nat_cmp variables.rows id ≡ Some scope →
    variable_scope_at (declarations_of forest) id ≡ Some scope

-- ---- all parts

-- the contexts and the names of scopes are those of the program, and so is each table that is there
pub record AreFacts (forest : Forest) (contexts : List Context) (names : ScopeNames) (meanings : List NodeMeaning)
    (tree : Option ScopeTree) (runs : Option Runs) (variables : Option Variables) : Type 0 where
  pub own_contexts : contexts ≡ contexts_in forest
  pub own_names : IsNaming (declarations_of forest) names
  pub own_meanings : AreMeanings forest meanings
  pub own_tree : (reported : ScopeTree) → tree ≡ Some reported → IsTreeOf forest reported
  pub own_runs : (reported : Runs) → runs ≡ Some reported → AreRuns forest reported
  pub own_variables : (reported : Variables) → variables ≡ Some reported → AreVariables forest reported
