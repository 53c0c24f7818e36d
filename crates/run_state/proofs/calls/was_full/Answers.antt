use Rattle.std.specs.Prelude.{nat_lt}
use Rattle.std.proofs.Common.{ℕ, ap}
use Rattle.run_state.proofs.CallLemmas.{full_below}
use Rattle.run_state.proofs.calls.was_full.Goals as goal

pub returns-clause-full : goal.returns-clause-full
returns-clause-full c = λ code g before h. full_below code g before c.args.activity.now c.depth.result h c.depth.ensures

pub returns-clause-deep : goal.returns-clause-deep
returns-clause-deep c = ap (λ (n : ℕ). nat_lt 64 n) c.depth.ensures
