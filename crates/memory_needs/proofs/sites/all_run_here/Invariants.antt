use Rattle.scj_model.specs.Code.{code_of}
use Rattle.memory_needs.specs.Edges.{runs_here}
use Rattle.memory_needs.specs.Sites.{IsTable}
use Rattle.memory_needs.proofs.sites.all_run_here.Given as goal

abbrev pub invariant-loop-id : goal.invariant-loop-id
invariant-loop-id l = IsTable (runs_here (code_of l.code)) l.id l.table.items
