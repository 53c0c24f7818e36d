use Rattle.std.proofs.Common.{◌≡◌, ◌+◌, ◌≤◌, ◌<◌, ◌∙◌, ◌==◌, ◌&&◌, Bool, Some, None, false, if◌then◌else◌, sym, ap, length, arith}
use Rattle.trace_audit.specs.declared.answers.Audit.TheVariants.{No, Yes}
use Rattle.trace_audit.specs.Lines.{line_of}
use Rattle.trace_audit.specs.Replay.{Replay}
use Rattle.trace_audit.specs.Passing.{begun, entry_done, fits_entry, passes}
use Rattle.trace_audit.specs.Audits.{audit_from, audit_of, lines_of}
use Rattle.trace_audit.specs.Seen.{replay_seen}
use Rattle.trace_audit.proofs.LineLaws.{audit_last, fits_of_passes, line_goes_on, line_stops, no_line_stops, parted_shorter, passes_alike}
use Rattle.trace_audit.proofs.audits.audit.Goals as goal

pub loop-bytes-init : goal.loop-bytes-init
unfolding audit_of
loop-bytes-init c =
    record {
      same = ap (λ (r : Replay). audit_from c.args.plan.now r 1 (lines_of c.args.trace.now))
          (sym c.new-replay.ensures.seen);
      kept = c.new-replay.ensures.kept;
      bound = omega arith;
    }

pub returns-in_default-line_of : goal.returns-in_default-line_of
returns-in_default-line_of c =
    let none : line_of c.in-Some.bytes.now ≡ None = cc in
    sym (c.loop-bytes.invariant.same
    ∙ no_line_stops c.args.plan.now (replay_seen c.loop-bytes.replay) c.loop-bytes.number c.loop-bytes.rest.now
    c.in-Some.bytes.now c.in-Some.others.now c.in-Some.ensures none)

pub returns-then-not-passes : goal.returns-then-not-passes
returns-then-not-passes c =
    let is : line_of c.in-Some.bytes.now ≡ Some c.in-Some-line_of.line = cc in
    let fails : passes c.args.plan.now (replay_seen c.loop-bytes.replay) c.in-Some-line_of.line ≡ false =
    passes_alike c.in_ok-plan.plan c.args.plan.now (replay_seen c.loop-bytes.replay) c.in-Some-line_of.line
    c.in_ok-plan.ensures c.passes.ensures.value ∙ c.if-not-passes.true in
    sym (c.loop-bytes.invariant.same
    ∙ line_stops c.args.plan.now (replay_seen c.loop-bytes.replay) c.loop-bytes.number c.loop-bytes.rest.now
    c.in-Some.bytes.now c.in-Some.others.now c.in-Some-line_of.line c.in-Some.ensures is fails)

pub take-requires-clause-fits : goal.take-requires-clause-fits
take-requires-clause-fits c =
    ap (λ (r : Replay). fits_entry r.all c.in-Some-line_of.line.entry) c.passes.ensures.seen
    ∙ fits_of_passes c.args.plan.now (replay_seen c.loop-bytes.replay) c.in-Some-line_of.line
    (passes_alike c.in_ok-plan.plan c.args.plan.now (replay_seen c.loop-bytes.replay)
    c.in-Some-line_of.line c.in_ok-plan.ensures c.passes.ensures.value ∙ c.if-not-passes.false)

pub overflow_add-number : goal.overflow_add-number
overflow_add-number c =
    let shorter : length c.in-Some.others.now + 1 ≤ length c.loop-bytes.rest.now =
    parted_shorter c.loop-bytes.rest.now c.in-Some.bytes.now c.in-Some.others.now c.in-Some.ensures in
    let bound = c.loop-bytes.invariant.bound in
    omega (arith, shorter, bound)

pub loop-bytes-smaller : goal.loop-bytes-smaller
loop-bytes-smaller c =
    let shorter : length c.in-Some.others.now + 1 ≤ length c.loop-bytes.rest.now =
    parted_shorter c.loop-bytes.rest.now c.in-Some.bytes.now c.in-Some.others.now c.in-Some.ensures in
    let less : length c.in-Some.others.now < length c.loop-bytes.rest.now = omega (arith, shorter) in
    less

pub loop-bytes-preserved : goal.loop-bytes-preserved
loop-bytes-preserved c =
    let is : line_of c.in-Some.bytes.now ≡ Some c.in-Some-line_of.line = cc in
    let shorter : length c.in-Some.others.now + 1 ≤ length c.loop-bytes.rest.now =
    parted_shorter c.loop-bytes.rest.now c.in-Some.bytes.now c.in-Some.others.now c.in-Some.ensures in
    let bound = c.loop-bytes.invariant.bound in
    record {
      same = c.loop-bytes.invariant.same
          ∙ (line_goes_on c.args.plan.now (replay_seen c.loop-bytes.replay) c.loop-bytes.number
          c.loop-bytes.rest.now c.in-Some.bytes.now c.in-Some.others.now c.in-Some-line_of.line c.in-Some.ensures is
          (passes_alike c.in_ok-plan.plan c.args.plan.now (replay_seen c.loop-bytes.replay)
          c.in-Some-line_of.line c.in_ok-plan.ensures c.passes.ensures.value ∙ c.if-not-passes.false)
          ∙ (sym (ap (λ (r : Replay). audit_from c.args.plan.now
          (entry_done (begun r c.in-Some-line_of.line.unit) c.in-Some-line_of.line.unit
          c.in-Some-line_of.line.entry) (c.loop-bytes.number + 1)
          (lines_of c.in-Some.others.now)) c.passes.ensures.seen)
          ∙ sym (ap (λ (r : Replay). audit_from c.args.plan.now r (c.loop-bytes.number + 1)
          (lines_of c.in-Some.others.now)) c.in_ok-take.ensures.seen)));
      kept = c.in_ok-take.ensures.kept;
      bound = omega (arith, shorter, bound);
    }

pub returns : goal.returns
returns c =
    c.ended.ensures
    ∙ (ap (λ (b : Bool). if (length c.loop-bytes.rest.now == 0) && b then Yes else No c.loop-bytes.number)
    c.is_over.ensures
    ∙ sym (c.loop-bytes.invariant.same
    ∙ audit_last c.args.plan.now (replay_seen c.loop-bytes.replay) c.loop-bytes.number c.loop-bytes.rest.now
    c.in_default.ensures))
