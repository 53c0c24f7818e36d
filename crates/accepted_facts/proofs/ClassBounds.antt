-- The class that a name denotes is a class.
use Rattle.std.proofs.Common.{◌≡◌, ℕ, ◌<◌, List, length, sym, subst, Some}
use Rattle.scj_base.specs.Bytes.{is_same}
use Rattle.scj_tree.specs.Forest.{Forest}
use Rattle.scj_rules.specs.Classes.{class_number}
use Rattle.scj_rules.specs.Contexts.{declarations_of}
use Rattle.scj_rules.proofs.WithinLemmas.{as_many_names, position-below}

-- as many names as classes
pub names_and_classes : (forest : Forest) → length (declarations_of forest).names ≡ length (declarations_of forest).classes
names_and_classes forest = sym (as_many_names forest)

-- what a name denotes is a class
pub named_is_class : (forest : Forest) (name : List ℕ) (class : ℕ) → class_number (declarations_of forest).names name ≡ Some class → class < length (declarations_of forest).classes
unfolding class_number
named_is_class forest name class e = subst (λ n. class < n) (names_and_classes forest) (position-below (is_same name) (declarations_of forest).names class e)
