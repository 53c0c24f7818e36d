use Rattle.std.proofs.Common.{arith}
use Rattle.std.proofs.lemmas.Bool.Decides.{nat_tests}
use Rattle.std.proofs.lemmas.Grind.{common_steps}
use Rattle.class_rows.proofs.WalkLemmas.{further, object_reported, right_above, reported_under}
use Rattle.class_rows.proofs.tables.ClassTable.next_ancestry.Goals as goal

pub returns-in_default : goal.returns-in_default
returns-in_default c =
    object_reported c.args.self.now c.args.class c.in_default.ensures (grind (arith, common_steps, nat_tests))

pub returns-then-near-far : goal.returns-then-near-far
returns-then-near-far c =
    reported_under _ _ _ _ _ _ _ c.in-Some.ensures (omega (arith, c.if-near-class_count.false, c.class_count.ensures))
    c.in_ok-near.ensures (c.in_ok-root.ensures _) (right_above _ _ _)

pub returns : goal.returns
returns c =
    reported_under _ _ _ _ _ _ _ c.in-Some.ensures (omega (arith, c.if-near-class_count.false, c.class_count.ensures))
    c.in_ok-near.ensures (c.in_ok-root.ensures _)
    (λ e. further _ (further _ (right_above _ _ _ e) c.in_ok-near.ensures.ancestor) c.in_ok-far.ensures.ancestor)
