use Rattle.std.proofs.Common.{refl, arith}
use Rattle.std.proofs.lemmas.Grind.{common_steps}
use Rattle.class_rows.proofs.NearestLemmas.{reported_of}
use Rattle.class_rows.proofs.nearest.NearestMembers.report.Goals as goal

pub returns-clause-reported : goal.returns-clause-reported
returns-clause-reported c = λ other.
    grind (arith, common_steps, rw c.number.ensures at (c.in_ok-insert.ensures.updates.0 other))

pub returns-clause-nearest : goal.returns-clause-nearest
returns-clause-nearest c = λ kind forest path chain behind split a.
    reported_of kind forest c.args.self.now _ c.args.class path refl refl refl
    (λ other. rw c.number.ensures at (c.in_ok-insert.ensures.updates.0 other)) chain behind split a
