use Rattle.std.proofs.Common.{refl}
use Rattle.area_needs.specs.Needs.{with_refusal}
use Rattle.area_tables.proofs.Reporting.{reports_refusal}
use Rattle.area_tables.proofs.tables.AreaTable.note.Goals as goal

pub returns-in-Some : goal.returns-in-Some
returns-in-Some c = λ count s needs reports.
    rw c.in-Some.is
    (reports_refusal count s needs c.args.self.now _ c.in-Some.refusal reports c.note_refused.ensures refl refl)

pub returns-in-None : goal.returns-in-None
unfolding with_refusal
returns-in-None c = λ count s needs reports. rw c.in-None.is reports
