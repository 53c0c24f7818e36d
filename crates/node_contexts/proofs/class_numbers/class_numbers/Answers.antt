use Rattle.std.proofs.Common.{◌≤◌, ◌-◌, List, ℕ, Option, None, arith, ap, ◌∙◌, length, length-set}
use Rattle.std.proofs.lemmas.List.{length-replicate, length-take-le}
use Rattle.scj_tree.specs.Recursion.{lookup}
use Rattle.scj_tree.proofs.RecursionLemmas.{lookup-replicate}
use Rattle.scj_rules.specs.Contexts.{number_of_class}
use Rattle.node_contexts.proofs.ListLemmas.{none_among, numbered_last}
use Rattle.node_contexts.proofs.class_numbers.class_numbers.Goals as goal

pub loop-rest-init : goal.loop-rest-init
loop-rest-init c =
    record {
      within = omega arith;
      whole = ap length c.in_ok-numbers.ensures ∙ length-replicate c.len-2.result None ∙ c.len-2.ensures.value;
      exact = λ id. none_among c.as_slice-rest.result.now (lookup None c.in_ok-numbers.numbers.items id) id
          (ap (λ (ns : List (Option ℕ)). lookup None ns id) c.in_ok-numbers.ensures
          ∙ lookup-replicate None c.len-2.result id)
          ∙ ap (λ (ids : List ℕ). number_of_class ids id) (c.as_slice-rest.ensures.value ∙ c.in_ok-all.ensures);
    }

pub loop-rest-preserved : goal.loop-rest-preserved
loop-rest-preserved c =
    let rest = c.loop-rest.rest.now in
    let numbers = c.loop-rest.numbers.items in
    let some : 1 ≤ length rest = c.in-len1-up.len_at_least in
    let short = length-take-le (length rest - 1) rest (omega (arith, some)) in
    rw c.in_ok-put.ensures.new record {
      within = omega (arith, short, c.loop-rest.invariant.within);
      whole = length-set _ _ _ ∙ c.loop-rest.invariant.whole;
      exact = λ id. numbered_last rest c.node-item.result c.at-class.result numbers id some c.node-item.is
          c.in_ok-put.ensures.within c.at-class.ensures ∙ c.loop-rest.invariant.exact id;
    }
