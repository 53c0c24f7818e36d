use Rattle.std.proofs.Common.{◌-◌, arith}
use Rattle.class_headers.specs.NamedNumbers.{found_under}
use Rattle.class_headers.proofs.PartLemmas.{one_more_numbered}
use Rattle.class_headers.proofs.names.index_of.Goals as goal

pub loop-number-preserved : goal.loop-number-preserved
loop-number-preserved c = record {
  within = omega (arith, c.loop-number.invariant.within);
  few = c.in_ok-enter.ensures.few;
  numbered = λ other.
      one_more_numbered c.args.names.now (c.loop-number.number - 1) c.loop-number.number c.index-names-number.result
      other (found_under c.loop-number.index other) (found_under c.enter.new.self other)
      (omega (arith, c.loop-number.invariant.within, c.loop-number-test.true)) (omega (arith, c.loop-number-test.true))
      c.index-names-number.is (c.loop-number.invariant.numbered other)
      (c.in_ok-enter.ensures.entered other);
}
