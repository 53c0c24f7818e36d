use Rattle.std.proofs.Common.{length, sym, ap, ◌∙◌}
use Rattle.std.proofs.lemmas.List.Filters.{dedup_is}
use Rattle.scj_model.specs.Code.{code_of}
use Rattle.certain_faults.specs.Report.{is_same_fault}
use Rattle.certain_faults.proofs.CodeLemmas.{nodes_are}
use Rattle.certain_faults.proofs.PassLemmas.{report_of, rows_report}
use Rattle.certain_faults.proofs.pass.certain_faults.Goals as goal

pub faults_by_node-requires : goal.faults_by_node-requires
faults_by_node-requires c =
    rows_report (code_of c.args.checked.now.program) c.deref.result.now (length c.args.checked.now.program.nodes)
    (sym (ap length (nodes_are c.args.checked.now.program))) (c.deref.ensures.value ∙ c.in_ok-rows.ensures)

pub returns : goal.returns
returns c =
    let kept = dedup_is is_same_fault c.sort_unstable.new.self.items c.dedup.new.self.items c.dedup.ensures.filtered
    in
    rw kept
    (report_of (code_of c.args.checked.now.program) (length c.args.checked.now.program.nodes)
    (sym (ap length (nodes_are c.args.checked.now.program))) c.in_ok-found.found.items
    c.sort_unstable.new.self.items c.in_ok-found.ensures c.sort_unstable.ensures.sorted
    c.sort_unstable.ensures.permutation)
