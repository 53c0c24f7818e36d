use Rattle.std.specs.Prelude.{false, true}
use Rattle.std.proofs.Common.{◌≡◌, ◌∙◌, ◌^◌, ◌<◌, arith}
use Rattle.scj_rules.specs.Layout.{size_with_slots}
use Rattle.unit_steps.proofs.OpenScopes.{any_state}
use Rattle.unit_steps.proofs.refusals.bytes_refused.Goals as goal

pub unreachable-requires : goal.unreachable-requires
unreachable-requires c =
    let clash : true ≡ false = c.in-Ok.ensures.room any_state ∙ c.requires.full any_state in
    cc (clash)

pub returns-in-Some-clause-bytes : goal.returns-in-Some-clause-bytes
unfolding size_with_slots
returns-in-Some-clause-bytes c = λ s.
    let small : size_with_slots c.args.count < 2 ^ 64 = omega (arith, c.if-count.false) in
    let used = c.in-Err.ensures.used s in
    let asked = c.in-Err.ensures.asked small in
    omega (arith, used, asked, c.in-Some.ensures)
