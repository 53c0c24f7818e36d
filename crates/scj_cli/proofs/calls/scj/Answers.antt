use Rattle.scj_cli.proofs.EndLaws.{exact, long_exactly, never_absent}
use Rattle.scj_cli.proofs.calls.scj.Goals as goal

pub returns-clause-exact : goal.returns-clause-exact
returns-clause-exact g c = exact _ _ c.finish.ensures.ends

pub returns-clause-too_long : goal.returns-clause-too_long
returns-clause-too_long g c = long_exactly _ _ c.finish.ensures.ends

pub returns-clause-absent : goal.returns-clause-absent
returns-clause-absent g c = never_absent _ _ c.finish.ensures.ends
