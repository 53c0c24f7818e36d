-- Methods that a class inherits as those of an interface, asked of class after class.
use Rattle.std.proofs.Common.{◌≡◌, ℕ, Bool, true, false, ◌&&◌, ◌==◌, List, [], ◌∷◌, refl, ◌∙◌, arith, is_some}
use Rattle.std.specs.BTreeSet.{contains}
use Rattle.std.specs.List.{list_any}
use Rattle.std.specs.Ordering.{nat_cmp}
use Rattle.std.proofs.lemmas.List.Folds.{list_any_none}
use Rattle.std.proofs.lemmas.Bool.Decides.{nat_tests}
use Rattle.std.proofs.lemmas.Grind.{common_steps}
use Rattle.std.proofs.lemmas.Slice.Eq.{bytes_eq-Decides}
use Rattle.scj_base.specs.Bytes.{is_same}
use Rattle.scj_rules.specs.Words.{is_among}
use Rattle.scj_rules.specs.Classes.{all_interfaces, own_method}
use Rattle.scj_rules.specs.ClassRules.{has_method_of_node, inherits_as, numbers_from}
use Rattle.scj_rules.specs.Contexts.{Declarations}
use Rattle.scj_rules.proofs.ChainLemmas.{same_number}
use Rattle.class_rows.specs.declared.inherited.Inherited.{Inherited}
use Rattle.class_rows.specs.Inherited.{is_inherited_as, AreInherited}

-- a member of a list is looked for, where a test holds
one_interface : (test : ℕ → Bool) (a : ℕ) (xs : List ℕ) →
    list_any (λ i. is_among i (a ∷ []) && test i) xs ≡ (is_among a xs && test a)
one_interface test a [] = refl
one_interface test a (x ∷ xs) = grind (arith, nat_tests, one_interface test a xs)

-- where the interface has a method of the name, the class inherits it that implements the interface
pub inherits_is : (p : Declarations) (interface node : ℕ) (name : List ℕ) (class : ℕ) →
    inherits_as p (interface ∷ []) node name class ≡ (is_some (own_method p.classes name interface)
    && (is_among interface (all_interfaces p.classes class) && has_method_of_node p node name class))
unfolding inherits_as
inherits_is p interface node name class =
    let one = one_interface (λ i. is_some (own_method p.classes name i)) interface (all_interfaces p.classes class) in
    grind (arith, nat_tests, one)

-- no class inherits a method of a name that the interface doesn't have
pub none_inherits : (p : Declarations) (interface node : ℕ) (name : List ℕ) →
    false ≡ is_some (own_method p.classes name interface) → is_inherited_as p interface node name ≡ false
none_inherits p interface node name h = list_any_none (inherits_as p (interface ∷ []) node name)
    (numbers_from 0 p.classes) (λ i d l. inherits_is p interface _ _ _ ∙ rw (← h) refl)

-- what is told by the nodes of the methods of the name, where no class is still to tell of it
pub reported_by_nodes : (p : Declarations) (reported : Inherited) (interface node : ℕ) (name : List ℕ) →
    (reported.interface == interface) ≡ true → is_same reported.name name ≡ true → AreInherited p [] reported
    → contains nat_cmp reported.nodes node ≡ is_inherited_as p interface node name
reported_by_nodes p reported interface node name e same are =
    let kind : reported.interface ≡ interface = same_number reported.interface interface e in
    let text : reported.name ≡ name = (bytes_eq-Decides reported.name name).0 same in
    grind (arith, common_steps, are node, kind, text)
