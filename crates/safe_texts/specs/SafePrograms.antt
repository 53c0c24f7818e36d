-- What it means that the program of some texts is safe, and which texts a call takes.
use Rattle.std.specs.Prelude.{ℕ, ◌<◌, ◌≤◌, ◌^◌, List, [], ◌∷◌, length}
use Rattle.scj_tree.specs.Forest.{Forest}
use Rattle.scj_rules.specs.Phases.{IsAccepted}
use Rattle.scj_rules.specs.Syntax.{Reads}
use Rattle.scj_model.specs.Code.{code_of}
use Rattle.scj_model.specs.Safety.{IsSafe}

-- no text is longer than a call reads one
abbrev pub AreShort : List (List ℕ) → Type 0
AreShort [] = Unit {0}
AreShort (text ∷ texts) = (length text ≤ 1048576) × AreShort texts

-- a call takes 16 files at most
pub record AreWithinLimits (texts : List (List ℕ)) : Type 0 where
  pub few : length texts ≤ 16
  pub short : AreShort texts

-- the checker holds a program of 16 files at most, and a node's number has 32 bits
pub record IsSmall (forest : Forest) : Type 0 where
  pub files : length forest.files ≤ 16
  pub nodes : length forest.nodes < 2 ^ 32

-- the program that the texts are breaks no rule, and is safe
pub record IsSafeProgram (texts : List (List ℕ)) : Type 0 where
  pub program : Forest
  pub reads : Reads texts program
  pub breaks_none : IsAccepted program
  pub is_safe : IsSafe (code_of program)
