use Rattle.std.proofs.Common.{◌≡◌, length, take}
use Rattle.scj_tree.specs.Recursion.{listed}
use Rattle.scj_rules.specs.Contexts.{declarations_of}
use Rattle.node_contexts.specs.Numbers.{number_before, AreCounted}
use Rattle.node_contexts.proofs.numbers.count_variables.Given as goal

-- the nodes so far are counted, and numbered in a row for all
abbrev pub invariant-loop-index : goal.invariant-loop-index
invariant-loop-index l = record {
  whole : length l.numbers.items ≡ length l.program.nodes;
  numbered : take l.index l.numbers.items ≡ listed (number_before (declarations_of l.program)) l.index;
  counted : AreCounted (declarations_of l.program) l.index l.counts.items;
}
