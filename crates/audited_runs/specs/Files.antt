-- What the text of a trace asks besides the program's verdict and the plan's limits.
use Rattle.std.specs.Prelude.{◌≡◌, ◌<◌, ◌+◌, ◌^◌, ℕ, true, All, List, length}
use Rattle.scj_tree.specs.Forest.{Forest}
use Rattle.scj_rules.specs.Syntax.{Reads}
use Rattle.source_nodes.specs.Nodes.{AreShort}
use Rattle.trace_audit.specs.Parts.{is_file_name}

-- the program was read from these texts, none of which is so long that the number of a line has more than 64 bits, and
-- each text has the name of a file
pub record IsReadFromFiles (texts : List (List ℕ)) (forest : Forest) (files : List (List ℕ)) : Type 0 where
  pub reads : Reads texts forest
  pub longest : ℕ
  pub are_short : AreShort longest texts
  pub is_small : longest + 1 < 2 ^ 64
  pub as_many : length files ≡ length texts
  pub named : All (λ name. is_file_name name ≡ true) files
