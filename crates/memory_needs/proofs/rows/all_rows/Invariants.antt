use Rattle.scj_tree.specs.Recursion.{joined_below}
use Rattle.scj_model.specs.Code.{code_of}
use Rattle.memory_needs.specs.RowLists.{if_picked, AreRowsFor}
use Rattle.memory_needs.specs.Rows.{is_concrete_handler}
use Rattle.memory_needs.proofs.rows.all_rows.Given as goal

abbrev pub invariant-loop-number : goal.invariant-loop-number
invariant-loop-number l =
    AreRowsFor (code_of l.code) (joined_below (if_picked (is_concrete_handler (code_of l.code).program)) l.number)
    l.rows.items
