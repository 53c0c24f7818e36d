use Rattle.std.proofs.Common.{◌≡◌, None}
use Rattle.scj_tree.specs.Recursion.{lookup, bottom_up, joined_below}
use Rattle.scj_rules.specs.Contexts.{declarations_of}
use Rattle.scj_rules.specs.TypeRules.{type_of_next, types_in}
use Rattle.program_facts.specs.Meanings.{AreMeanings}
use Rattle.type_check.proofs.PassLemmas.{breaks_at}
use Rattle.type_check.proofs.types.check_types.Given as goal

-- the types of the nodes so far, what is broken at them, and their rows
abbrev pub invariant-loop-number : goal.invariant-loop-number
invariant-loop-number l = record {
  typed : l.types.items ≡ bottom_up None (type_of_next (declarations_of l.facts)) l.number;
  noted : l.found.items ≡ joined_below
      (breaks_at (declarations_of l.facts) (lookup None (types_in (declarations_of l.facts)))) l.number;
  right : AreMeanings l.facts l.rows.items;
}
