-- What a walk along a chain has left, what is told of the classes above a class, and what the interfaces of a chain of
-- classes give.
use Rattle.std.specs.Prelude.{◌≡◌, ◌≤◌, ◌+◌, ℕ, Bool, not, ◌||◌, ◌==◌, List, [], length, filter, Option, Some, None, if◌then◌else◌}
use Rattle.scj_builtins.specs.Framework.{runnable, safelet}
use Rattle.scj_tree.specs.Recursion.{lookup}
use Rattle.scj_rules.specs.Words.{is_among, chain}
use Rattle.scj_rules.specs.Classes.{ClassRow, FoundMethod, all_interfaces, is_user_class, own_method, superclass_in, superclasses}
use Rattle.class_rows.specs.declared.ancestries.Ancestry.{Ancestry}

-- a chain from a number that may be missing
abbrev pub chain_from : (ℕ → Option ℕ) → ℕ → Option ℕ → List ℕ
chain_from next bound None = []
chain_from next bound (Some a) = chain next bound a

-- the class is one of the framework's
abbrev pub is_framework : ℕ → Bool
is_framework class = not (is_user_class class)

-- those of the classes that are asked: all, or the framework's alone
abbrev pub asked : Bool → List ℕ → List ℕ
asked of_framework classes = if of_framework then filter is_framework classes else classes

-- the chain of the root is what the chain of the class has of the framework's classes
abbrev pub IsRoot : List ClassRow → ℕ → ℕ → Type 0
IsRoot rows class root = superclasses rows root ≡ filter is_framework (superclasses rows class)

-- the ancestor stands so many classes up the chain of the class; of the classes whose chains are no longer than the
-- ancestor's, both chains have the same
pub record IsAncestor (rows : List ClassRow) (class ancestor distance : ℕ) : Type 0 where
  pub steps : distance + length (superclasses rows ancestor) ≡ length (superclasses rows class)
  pub same : (other : ℕ) → length (superclasses rows other) ≤ length (superclasses rows ancestor) →
      is_among other (superclasses rows class) ≡ is_among other (superclasses rows ancestor)

-- what is told of the classes above a class is right; of the classes whose chains are no shorter than its own, its chain
-- has the class alone
pub record IsAncestry (rows : List ClassRow) (class : ℕ) (reported : Ancestry) : Type 0 where
  pub root : IsRoot rows class reported.root
  pub depth : reported.depth ≡ length (superclasses rows class)
  pub ancestor : IsAncestor rows class reported.ancestor reported.distance
  pub above : (above : ℕ) → superclass_in rows class ≡ Some above → IsAncestor rows class above 1
  pub alone : (other : ℕ) → length (superclasses rows class) ≤ length (superclasses rows other) →
      is_among other (superclasses rows class) ≡ (other == class)

-- what is told is right
abbrev pub AreAncestries : List ClassRow → List (Option Ancestry) → Type 0
AreAncestries rows reported =
    (class : ℕ) (ancestry : Ancestry) → lookup None reported class ≡ Some ancestry → IsAncestry rows class ancestry

-- a class may implement the interface, where its header has nothing forbidden
abbrev pub is_known : ℕ → Bool
is_known interface = (interface == runnable) || (interface == safelet)

-- the method of a name that an interface declares itself, where a class of the chain implements it
abbrev pub implemented_method : List ClassRow → ℕ → List ℕ → ℕ → Option FoundMethod
implemented_method rows class name interface =
    if is_among interface (all_interfaces rows class) then own_method rows name interface else None
