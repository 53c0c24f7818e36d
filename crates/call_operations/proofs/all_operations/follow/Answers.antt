use Rattle.std.proofs.Common.{refl}
use Rattle.op_list.specs.Meanings.{effect_by}
use Rattle.job_frames.specs.EffectsSeen.{effect_seen}
use Rattle.call_operations.specs.Choosing.{ChoosesIfAny, choosing}
use Rattle.call_operations.proofs.all_operations.follow.Goals as goal

pub returns-in-Stuck-clause-does : goal.returns-in-Stuck-clause-does
unfolding effect_by effect_seen
returns-in-Stuck-clause-does c = record { is = rw c.in-Stuck.is refl }

pub returns-in-GetStatic-clause-does : goal.returns-in-GetStatic-clause-does
unfolding effect_by
returns-in-GetStatic-clause-does c =
    rw c.in-GetStatic.is
    (c.get_static.ensures.does c.args.code.now c.args.world.plan.now.readings c.args.world.unit)

pub returns-in-And-clause-does : goal.returns-in-And-clause-does
unfolding effect_by ChoosesIfAny choosing
returns-in-And-clause-does c =
    rw c.in-And.is (c.and.ensures.does c.args.code.now c.args.id (rw c.in-And.is at c.requires))

pub returns-in-Or-clause-does : goal.returns-in-Or-clause-does
unfolding effect_by ChoosesIfAny choosing
returns-in-Or-clause-does c =
    rw c.in-Or.is (c.or.ensures.does c.args.code.now c.args.id (rw c.in-Or.is at c.requires))

pub returns-in-If-clause-does : goal.returns-in-If-clause-does
unfolding effect_by ChoosesIfAny choosing
returns-in-If-clause-does c =
    rw c.in-If.is (c.choose.ensures.does c.args.code.now c.args.id (rw c.in-If.is at c.requires))

pub returns-in-Loop-clause-does : goal.returns-in-Loop-clause-does
unfolding effect_by ChoosesIfAny choosing
returns-in-Loop-clause-does c =
    rw c.in-Loop.is (c.iterate.ensures.does c.args.code.now c.args.id (rw c.in-Loop.is at c.requires))
