use Rattle.std.proofs.Common.{rules}
use Rattle.std.proofs.lemmas.List.Sorted.{answers_always}
use Rattle.scj_model.specs.declared.plans.Fire.{Fire}
use Rattle.run_plan.proofs.fires_by_unit.sorted_by_unit.Goals as goal

pub returns : goal.returns
returns c =
    record {
      ordered = c.in_ok-sort_by_key.ensures.sorted (λ (fire : Fire). fire.at) (answers_always _ _ _ (λ f a r g h. search rules));
      stable = c.in_ok-sort_by_key.ensures.stable (λ (fire : Fire). fire.at) (answers_always _ _ _ (λ f a r g h. search rules));
    }
