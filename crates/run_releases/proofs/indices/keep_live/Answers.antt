use Rattle.std.proofs.Common.{rules}
use Rattle.std.proofs.lemmas.Fn.{filter_same}
use Rattle.run_releases.specs.Counts.{is_live_at}
use Rattle.run_releases.proofs.indices.keep_live.Goals as goal

pub returns : goal.returns
returns c =
    filter_same _ (is_live_at c.args.rows.now) _ (λ x b f' k. search rules) _ _ c.retain.ensures.filtered
