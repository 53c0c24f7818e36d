use Rattle.std.proofs.Common.{◌++◌, List, [], ap, ◌∙◌, sym}
use Rattle.scj_tree.specs.Recursion.{joined_below}
use Rattle.scj_tree.proofs.RecursionLemmas.{joined_next}
use Rattle.scj_model.specs.Code.{Code, code_of}
use Rattle.certain_faults.specs.declared.found.CertainFault.{CertainFault}
use Rattle.certain_faults.specs.Places.{found_at}
use Rattle.certain_faults.proofs.pass.faults_by_node.Goals as goal

pub loop-number-init : goal.loop-number-init
unfolding joined_below
loop-number-init c = c.new-found.ensures.items

pub loop-number-preserved : goal.loop-number-preserved
loop-number-preserved c =
    let code : Code = code_of c.args.checked.now.program in
    let noted = rw c.at.ensures at c.in_ok-note.ensures in
    noted ∙ ap (λ (fs : List CertainFault). fs ++ found_at code c.loop-number.number) c.loop-number.invariant
    ∙ sym (joined_next (found_at code) c.loop-number.number [])
