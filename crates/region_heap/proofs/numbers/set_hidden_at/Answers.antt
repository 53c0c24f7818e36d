use Rattle.std.proofs.Common.{◌∙◌, ◌<◌, ◌≤◌, Bool, arith, ap, length, sym}
use Rattle.std.specs.Prelude.{not}
use Rattle.region_heap.specs.Words.{object_in}
use Rattle.region_heap.proofs.HiddenFields.{refuses_by_size, refuses_few, small}
use Rattle.region_heap.proofs.Slots.{object_count}
use Rattle.region_heap.proofs.numbers.set_hidden_at.Goals as goal

pub put_numbers-requires-clause-count : goal.put_numbers-requires-clause-count
put_numbers-requires-clause-count c =
    omega (arith, c.if-count_at-hidden.false, c.count_at.ensures, object_count c.args.words.now c.args.first)

pub put_numbers-requires-clause-small : goal.put_numbers-requires-clause-small
put_numbers-requires-clause-small c =
    small c.args.hidden.now (sym c.is_one_too_large.ensures ∙ c.if-is_one_too_large.false)

pub returns-then-count_at-hidden-clause-refuses : goal.returns-then-count_at-hidden-clause-refuses
returns-then-count_at-hidden-clause-refuses c =
    let few : length (object_in c.args.words.now c.args.first).slots < length c.args.hidden.now =
    omega (arith, c.count_at.ensures, c.if-count_at-hidden.true) in
    sym (ap (λ (b : Bool). not b) (refuses_few (object_in c.args.words.now c.args.first) c.args.hidden.now few))

pub returns-then-is_one_too_large-clause-refuses : goal.returns-then-is_one_too_large-clause-refuses
returns-then-is_one_too_large-clause-refuses c =
    let enough : length c.args.hidden.now ≤ length (object_in c.args.words.now c.args.first).slots =
    omega (arith, c.count_at.ensures, c.if-count_at-hidden.false) in
    sym (ap (λ (b : Bool). not b) (refuses_by_size (object_in c.args.words.now c.args.first) c.args.hidden.now enough
    ∙ (sym c.is_one_too_large.ensures ∙ c.if-is_one_too_large.true)))

pub returns-clause-refuses : goal.returns-clause-refuses
returns-clause-refuses c =
    let enough : length c.args.hidden.now ≤ length (object_in c.args.words.now c.args.first).slots =
    omega (arith, c.count_at.ensures, c.if-count_at-hidden.false) in
    sym (ap (λ (b : Bool). not b) (refuses_by_size (object_in c.args.words.now c.args.first) c.args.hidden.now enough
    ∙ (sym c.is_one_too_large.ensures ∙ c.if-is_one_too_large.false)))
