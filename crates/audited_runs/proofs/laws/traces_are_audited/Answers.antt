use Rattle.std.proofs.Common.{◌∙◌, length}
use Rattle.scj_model.specs.Code.{code_of}
use Rattle.scj_model.specs.Run.{trace}
use Rattle.source_nodes.proofs.Reading.{nodes_fit}
use Rattle.trace_audit.proofs.TextLaws.{audit_of_text}
use Rattle.audited_runs.proofs.Accepted.{traces_are_audited}
use Rattle.audited_runs.proofs.proper.Known.{all_forms}
use Rattle.audited_runs.proofs.laws.traces_are_audited.Goals as goal

pub returns-clause-events : goal.returns-clause-events
returns-clause-events c = λ forest accepted plan. traces_are_audited forest accepted plan

pub returns-clause-texts : goal.returns-clause-texts
returns-clause-texts c =
    λ texts forest files read accepted plan keeps.
    audit_of_text forest.nodes files plan (trace (code_of forest) plan plan.units)
    (all_forms forest accepted (length texts) read.longest (nodes_fit texts forest read.longest read.reads read.are_short)
    plan files read.as_many read.named read.is_small keeps)
    ∙ traces_are_audited forest accepted plan
