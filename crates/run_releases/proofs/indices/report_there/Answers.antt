use Rattle.run_releases.proofs.Reporting.{reported_nowhere}
use Rattle.run_releases.proofs.indices.report_there.Goals as goal

pub returns-in-None : goal.returns-in-None
returns-in-None c =
    reported_nowhere c.args.reported.now.items c.args.rows.now c.args.unit c.args.index c.in-None.ensures
