use Rattle.std.proofs.Common.{◌≡◌, [], ◌++◌}
use Rattle.scj_show.specs.Symbols.{canonical}
use Rattle.scj_show.specs.Works.{pending, work}
use Rattle.scj_show.proofs.shows.print.Given as goal

-- what is printed and what is left to be printed are what is to be printed
abbrev pub invariant-loop-part : goal.invariant-loop-part
invariant-loop-part l = record {
  whole : l.text.items ++ canonical (pending l.program.nodes l.waiting) ≡ l.initial.text.items
      ++ canonical (pending l.program.nodes l.initial.waiting);
  empty : l.parts ≡ [];
}

abbrev pub decreases-loop-part : goal.decreases-loop-part
decreases-loop-part l = work l.program.nodes l.waiting
