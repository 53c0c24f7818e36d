use Rattle.std.proofs.Common.{◌≡◌, ◌++◌, ◌-◌, take, replicate}
use Rattle.scj_base.proofs.words.fill.Given as goal

-- the bytes so far, and zero behind them
abbrev pub invariant-loop-i : goal.invariant-loop-i
invariant-loop-i l = l.all ≡ take l.i l.bytes ++ replicate (64 - l.i) 0
