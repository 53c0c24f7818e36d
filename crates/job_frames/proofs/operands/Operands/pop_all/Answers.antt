use Rattle.std.proofs.Common.{◌≡◌, ◌++◌, ◌-◌, List, reverse, take, drop, ap, sym, ◌∙◌}
use Rattle.std.proofs.lemmas.List.{take_rest}
use Rattle.scj_base.specs.declared.values.Value.{Value}
use Rattle.job_frames.proofs.Reversed.{front_apart}
use Rattle.job_frames.proofs.operands.Operands.pop_all.Goals as goal

pub returns-clause-some : goal.returns-clause-some
returns-clause-some c =
    let items = c.self.inside.items.items in
    let left = c.len-2.result - c.args.count in
    let taken : c.in_ok-taken.taken.items ≡ drop left items =
    c.in_ok-taken.ensures.items ∙ take_rest c.as_slice.result.now left
    ∙ ap (λ (values : List Value). drop left values) c.as_slice.ensures.value in
    let kept : c.truncate.new.self.items ≡ take left items = c.truncate.ensures.items in
    rw (← c.self.view_is) (
    front_apart items left
    ∙ ap (λ (values : List Value). reverse values ++ reverse (take left items)) (sym taken)
    ∙ ap (λ (values : List Value). reverse c.in_ok-taken.taken.items ++ reverse values) (sym kept)
    )
