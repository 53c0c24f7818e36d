-- The bodies under a class, class by class.
use Rattle.std.specs.Prelude.{Option, Some, None, filter, filter_map, flat_map, if◌then◌else◌, option_to_list}
use Rattle.std.proofs.Common.{◌≡◌, ℕ, List, [], ◌∷◌, ◌++◌, length, Bool, true, false, refl, sym, ◌∙◌, ap, append-nil}
use Rattle.scj_tree.specs.Forest.{Forest}
use Rattle.scj_tree.specs.Recursion.{joined_below}
use Rattle.scj_rules.specs.declared.views.Body.{Body}
use Rattle.scj_rules.specs.declared.views.Body.TheVariants.{Written, Empty}
use Rattle.scj_rules.specs.ClassRules.{numbers_from}
use Rattle.scj_rules.proofs.NumberLemmas.{joined_all}
use Rattle.scj_rules.specs.Contexts.{Declarations, declarations_of}
use Rattle.scj_model.specs.Code.{code_of}
use Rattle.memory_needs.specs.declared.code.Asked.{Asked}
use Rattle.memory_needs.specs.declared.code.Asked.TheVariants.{Method, Run}
use Rattle.memory_needs.specs.Targets.{is_concrete_under, classes_under, dispatched, runs_under}
use Rattle.memory_needs.specs.Edges.{written_nodes}
use Rattle.memory_needs.specs.Sites.{asked_body, class_nodes, nodes_under}

pub written_both : (xs ys : List Body) → written_nodes (xs ++ ys) ≡ written_nodes xs ++ written_nodes ys
unfolding written_nodes
written_both [] ys = refl
written_both (Written n ∷ xs) ys = ap (λ ns. n ∷ ns) (written_both xs ys)
written_both (Empty ∷ xs) ys = written_both xs ys

module _ (p : Declarations) (on : ℕ) (asked : Asked) where
  -- the bodies of some classes
  bodies : List ℕ → List Body
  bodies classes = filter_map (asked_body p asked) (filter (is_concrete_under p on) classes)

  one_class : (class : ℕ) (classes : List ℕ) →
      written_nodes (filter_map (asked_body p asked) (filter (is_concrete_under p on) (class ∷ classes)))
      ≡ class_nodes p on asked class ++ written_nodes (filter_map (asked_body p asked) (filter (is_concrete_under p on) classes))
  unfolding class_nodes written_nodes
  one_class class classes = of (is_concrete_under p on class) (asked_body p asked class) refl
    where
      rest : List Body
      rest = filter_map (asked_body p asked) (filter (is_concrete_under p on) classes)

      of : (b : Bool) (o : Option Body) → asked_body p asked class ≡ o →
          written_nodes (filter_map (asked_body p asked)
          (if b then class ∷ filter (is_concrete_under p on) classes else filter (is_concrete_under p on) classes))
          ≡ (if b then written_nodes (option_to_list (asked_body p asked class)) else [])
          ++ written_nodes (filter_map (asked_body p asked) (filter (is_concrete_under p on) classes))
      of false o e = refl
      of true None e = rw e refl
      of true (Some body) e = rw e (written_both (body ∷ []) (filter_map (asked_body p asked) (filter (is_concrete_under p on) classes)))

  classes_joined : (classes : List ℕ) →
      written_nodes (filter_map (asked_body p asked) (filter (is_concrete_under p on) classes))
      ≡ flat_map (class_nodes p on asked) classes
  unfolding written_nodes
  classes_joined [] = refl
  classes_joined (class ∷ classes) =
      one_class class classes ∙ ap (λ ns. class_nodes p on asked class ++ ns) (classes_joined classes)

  pub under_is : written_nodes (filter_map (asked_body p asked) (classes_under p on)) ≡ nodes_under p on asked
  unfolding classes_under
  under_is = classes_joined (numbers_from 0 p.classes) ∙ joined_all (class_nodes p on asked) p.classes

pub dispatched_is : (p : Declarations) (on method : ℕ) →
    written_nodes (dispatched p on method) ≡ nodes_under p on (Method method)
unfolding dispatched asked_body
dispatched_is p on method = under_is p on (Method method)

pub runs_are : (p : Declarations) (on : ℕ) → written_nodes (runs_under p on) ≡ nodes_under p on Run
unfolding runs_under asked_body
runs_are p on = under_is p on Run

-- none yet
pub none_joined : (f : ℕ → List ℕ) (first : List ℕ) → first ≡ first ++ joined_below f 0
unfolding joined_below
none_joined f first = sym (append-nil first)

-- the classes of code are those of the program
pub classes_are : (forest : Forest) → length (code_of forest).program.classes ≡ length (declarations_of forest).classes
unfolding code_of
classes_are forest = refl
