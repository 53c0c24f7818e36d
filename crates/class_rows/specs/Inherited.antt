-- Methods that classes inherit as those of an interface.
use Rattle.std.specs.Prelude.{◌≡◌, ℕ, Bool, ◌||◌, List, [], ◌∷◌}
use Rattle.std.specs.BTreeSet.{contains}
use Rattle.std.specs.List.{list_any}
use Rattle.std.specs.Ordering.{nat_cmp}
use Rattle.scj_rules.specs.ClassRules.{inherits_as, numbers_from}
use Rattle.scj_rules.specs.Contexts.{Declarations}
use Rattle.class_rows.specs.declared.inherited.Inherited.{Inherited}
use Rattle.class_rows.specs.declared.inherited.InheritedMethods.{InheritedMethods}

-- some class inherits the method of a name at a node as one of the interface
abbrev pub is_inherited_as : Declarations → ℕ → ℕ → List ℕ → Bool
is_inherited_as p interface node name = list_any (inherits_as p (interface ∷ []) node name) (numbers_from 0 p.classes)

-- the nodes that are there, with those of what the others still have to tell, are those of all methods of the name that
-- classes inherit as the interface's
abbrev pub AreInherited : Declarations → List ℕ → Inherited → Type 0
AreInherited p others reported = (node : ℕ) →
    (contains nat_cmp reported.nodes node || list_any (inherits_as p (reported.interface ∷ []) node reported.name) others)
    ≡ is_inherited_as p reported.interface node reported.name

-- the same of each name of `Safelet` and `Runnable`
pub record AreInheritedMethods (p : Declarations) (others : List ℕ) (reported : InheritedMethods) : Type 0 where
  pub get_sequencer : AreInherited p others reported.get_sequencer
  pub immortal_memory_size : AreInherited p others reported.immortal_memory_size
  pub initialize_application : AreInherited p others reported.initialize_application
  pub run : AreInherited p others reported.run
