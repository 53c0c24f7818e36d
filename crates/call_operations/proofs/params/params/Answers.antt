use Rattle.call_operations.proofs.params.params.Goals as goal

pub returns-then-eq-clause-does : goal.returns-then-eq-clause-does
returns-then-eq-clause-does c code = rw (c.in-Some.is, ← c.if-eq.ensures) (c.periodic.ensures.does code)
