-- Each accepted program has all facts that the proofs about its runs ask.
use Rattle.scj_tree.specs.Forest.{Forest}
use Rattle.accepted_laws.specs.Programs.{IsAcceptedProgram}
use Rattle.accepted_laws.proofs.ClassSorts.{well_sorted}
use Rattle.scj_model.specs.Code.{code_of}
use Rattle.scope_flow.specs.Facts.{Facts}
use Rattle.flow_facts.proofs.AllExpressions.{expression_facts}
use Rattle.flow_facts.proofs.ClassFacts.{of_assigned_type, concrete_of_itself, inherits_scope}
use Rattle.flow_facts.proofs.GuardParts.{guard_facts}
use Rattle.flow_facts.proofs.HeldFields.{class_no_array}
use Rattle.flow_facts.proofs.EntryKinds.{entry_fact}
use Rattle.flow_facts.proofs.StatementKinds.{statement_fact}

pub all_facts : (forest : Forest) → IsAcceptedProgram forest → Facts (code_of forest)
unfolding code_of
all_facts forest a =
    let accepted = a.is_accepted in
    let sorted = well_sorted forest a.is_read in
    record {
      expressions = λ b c sig id node gives body inside stands judged.
          expression_facts forest a b c sig id node gives body inside stands judged;
      statements = λ b c sig id node body is stands.
          statement_fact forest accepted a.whole sorted a.is_read b c sig id node body is stands;
      entries = λ b c sig body. entry_fact forest accepted a.whole sorted a.is_read b c sig body;
      assigned = λ class t u h k. of_assigned_type forest accepted class t u h k;
      concrete = λ class h. concrete_of_itself forest accepted class h;
      classes = λ class l. class_no_array forest accepted a.whole sorted class l;
      guards = guard_facts forest accepted a.whole sorted a.is_read;
      inherits = λ c above n h k. inherits_scope forest accepted a.whole sorted c above n h k;
    }
