use Rattle.std.proofs.Common.{◌∙◌, ◌-◌, ap, arith, sym}
use Rattle.std.specs.Prelude.{option_map, Some}
use Rattle.scj_model.specs.Choice.{Candidate}
use Rattle.run_releases.proofs.Choosing.{all_chosen, none_behind, one_before}
use Rattle.run_releases.proofs.choice.choose.Goals as goal

pub loop-left-init : goal.loop-left-init
loop-left-init c =
    record {
      within = omega arith;
      best = none_behind c.args.registry.now c.args.rows.now c.args.indices.now _ (omega arith);
    }

pub loop-left-preserved : goal.loop-left-preserved
loop-left-preserved c =
    record {
      within = omega arith;
      best =
          c.preferred-found.ensures
          ∙ rw c.candidate_there.ensures
          (one_before c.args.registry.now c.args.rows.now c.args.indices.now (c.loop-left.left - 1) c.loop-left.left
          c.loop-left.found (omega arith) (omega arith) c.loop-left.invariant.best);
    }

pub returns-in-Some : goal.returns-in-Some
returns-in-Some c =
    ap (λ (x : Candidate). Some x.index) c.candidate.view_is
    ∙ (ap (option_map (λ (x : Candidate). x.index)) (sym c.in-Some.is)
    ∙ all_chosen c.args.registry.now c.args.rows.now c.args.indices.now c.loop-left.left c.loop-left.found
    (omega arith) c.loop-left.invariant.best)

pub returns-in-None : goal.returns-in-None
returns-in-None c =
    ap (option_map (λ (x : Candidate). x.index)) (sym c.in-None.is)
    ∙ all_chosen c.args.registry.now c.args.rows.now c.args.indices.now c.loop-left.left c.loop-left.found
    (omega arith) c.loop-left.invariant.best
