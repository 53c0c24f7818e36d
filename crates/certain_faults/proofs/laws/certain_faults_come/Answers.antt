use Rattle.certain_faults.proofs.Theorem.{certain_in_any_order, certain_by_priority}
use Rattle.certain_faults.proofs.laws.certain_faults_come.Goals as goal

pub returns : goal.returns
returns c =
    record {
      any_order = λ plan choices moment s job op fault reached x next.
          certain_in_any_order c.args.checked.now.program c.checked_is_accepted.ensures plan choices moment s job op fault
          reached x next;
      by_priority = λ plan moment s job op fault reached x next.
          certain_by_priority c.args.checked.now.program c.checked_is_accepted.ensures plan moment s job op fault reached
          x next;
    }
