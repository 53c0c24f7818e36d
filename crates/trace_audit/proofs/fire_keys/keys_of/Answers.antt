use Rattle.std.proofs.Common.{◌≡◌, ◌∙◌, ◌<◌, ap, true, false, length, get_or, rules, of_calls}
use Rattle.std.specs.BTreeSet.{BTreeSet, contains}
use Rattle.trace_audit.specs.Fires.{FireKey, is_same_from, key_at, key_cmp}
use Rattle.trace_audit.proofs.FireLaws.{no_more_key, one_more_key}
use Rattle.trace_audit.proofs.fire_keys.keys_of.Goals.{then-eq+in_ok-insert, else-eq}
use Rattle.trace_audit.proofs.fire_keys.keys_of.Goals as goal

pub loop-fire-preserved : goal.loop-fire-preserved
loop-fire-preserved c =
    let within : c.loop-fire.fire-index < length c.args.fires.now = search rules in
    let is : get_or c.args.fires.now c.loop-fire.fire-index c.fire-item.result ≡ c.fire-item.result = search rules in
    elim c.if-eq.branch [
      | then-eq+in_ok-insert w ↦ λ at name.
          let kind : is_same_from c.args.from c.fire-item.result.from ≡ true = search (rules, of_calls) in
          ap (λ (keys : BTreeSet FireKey). contains key_cmp keys (key_at at name)) w.keys-is
          ∙ one_more_key c.args.from c.args.fires.now c.loop-fire.fire-index c.fire-item.result at name w.key_at.result
          (contains key_cmp c.loop-fire.keys (key_at at name)) within is kind w.key_at.ensures (c.loop-fire.invariant at name)
          (w.in_ok-insert.ensures.updates.0 (key_at at name))
      | else-eq w ↦ λ at name.
          let kind : is_same_from c.args.from c.fire-item.result.from ≡ false = search (rules, of_calls) in
          ap (λ (keys : BTreeSet FireKey). contains key_cmp keys (key_at at name)) w.keys-is
          ∙ no_more_key c.args.from c.args.fires.now c.loop-fire.fire-index c.fire-item.result at name within is kind
          (c.loop-fire.invariant at name)
    ]
