use Rattle.std.proofs.Common.{◌≡◌, ◌∙◌, ◌-◌, ℕ, suc, List, length, reverse, take, ap, subst, sym, arith}
use Rattle.std.proofs.lemmas.List.{take_all}
use Rattle.scj_model.specs.Steps.{closed_all}
use Rattle.job_frames.specs.declared.frames.Frame.{Frame as StoredFrame}
use Rattle.job_frames.specs.Frames.{frames_of}
use Rattle.region_heap.specs.Contents.{with_memory}
use Rattle.run_state.specs.Standing.{CloseInOrder}
use Rattle.run_state.proofs.EndLemmas.{closed_next, closes_next, closes_top}
use Rattle.run_state.proofs.ends.close_all.Goals as goal

pub loop-left-init : goal.loop-left-init
loop-left-init c =
    let all = take_all (length c.args.frames.now) c.args.frames.now (omega arith) in
    record {
      within = omega arith;
      closes = subst (λ (fs : List StoredFrame). CloseInOrder c.args.memory.now (reverse fs)) (sym all) c.requires;
      same = λ code s. ap (λ (fs : List StoredFrame). closed_all (with_memory s c.args.memory.now)
          (frames_of code (reverse fs))) (sym all);
    }

pub close_of-requires : goal.close_of-requires
close_of-requires c = λ f e.
    let one : c.loop-left.left ≡ suc (c.loop-left.left - 1) = omega (arith, c.loop-left-test.true) in
    closes_top c.loop-left.memory c.args.frames.now (c.loop-left.left - 1) f (sym e)
    (subst (λ (n : ℕ). CloseInOrder c.loop-left.memory (reverse (take n c.args.frames.now))) one
    c.loop-left.invariant.closes)

pub loop-left-preserved : goal.loop-left-preserved
loop-left-preserved c =
    let one : c.loop-left.left ≡ suc (c.loop-left.left - 1) = omega (arith, c.loop-left-test.true) in
    record {
      within = omega (arith, c.loop-left.invariant.within);
      closes = closes_next c.loop-left.memory c.close_of.new.memory c.args.frames.now (c.loop-left.left - 1)
          (omega (arith, one, c.loop-left.invariant.within)) c.close_of.ensures
          (subst (λ (n : ℕ). CloseInOrder c.loop-left.memory (reverse (take n c.args.frames.now))) one
          c.loop-left.invariant.closes);
      same = λ code s. c.loop-left.invariant.same code s
          ∙ (ap (λ (n : ℕ). closed_all (with_memory s c.loop-left.memory)
          (frames_of code (reverse (take n c.args.frames.now)))) one
          ∙ closed_next code s c.loop-left.memory c.close_of.new.memory c.args.frames.now (c.loop-left.left - 1)
          (omega (arith, one, c.loop-left.invariant.within)) c.close_of.ensures);
    }

pub returns : goal.returns
unfolding closed_all
returns c = λ code s.
    let none : c.loop-left.left ≡ 0 = omega (arith, c.loop-left-test.false) in
    c.loop-left.invariant.same code s
    ∙ ap (λ (n : ℕ). closed_all (with_memory s c.loop-left.memory)
    (frames_of code (reverse (take n c.args.frames.now)))) none
