use Rattle.std.proofs.Common.{◌∙◌, sym}
use Rattle.unit_steps.proofs.OpenScopes.{refused_is}
use Rattle.unit_steps.proofs.refusals.refused_in.Goals as goal

pub returns-clause-refused : goal.returns-clause-refused
returns-clause-refused c = λ s.
    refused_is s c.args.memory.now c.args.area c.args.count c.in_ok-scope.scope c.in_ok-bytes.bytes
    (sym (c.has_room.ensures s) ∙ c.if-has_room.false) c.in_ok-scope.ensures (c.in_ok-bytes.ensures.bytes s)
