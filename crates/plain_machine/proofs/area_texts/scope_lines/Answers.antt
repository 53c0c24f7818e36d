use Rattle.std.proofs.Common.{◌≡◌, ◌∙◌, ◌+◌, ◌-◌, ◌++◌, ℕ, ap, arith, drop, length, refl, take}
use Rattle.scj_rules.specs.Contexts.{declarations_of}
use Rattle.plain_machine.specs.AreaTexts.{lines_from}
use Rattle.plain_machine.proofs.RowTexts.{last_line, next_line}
use Rattle.plain_machine.proofs.area_texts.scope_lines.Goals as goal

pub loop-others-preserved : goal.loop-others-preserved
loop-others-preserved c =
    let p = declarations_of c.args.classes.now in
    let next : c.in-Some.next ≡ c.loop-others.scope + 1 = omega (arith, c.in-Some.ensures) in
    let behind = take (length c.loop-others.others.now - 1) (drop 1 c.loop-others.others.now) in
    ap (λ (n : ℕ). c.push_row.new.text.items ++ lines_from p n behind) next
    ∙ next_line p c.loop-others.scope _ _ c.loop-others.others.now c.loop-others.text.items
    c.push_row.new.text.items _ c.in-len1-up.len_at_least c.in_ok-push_row.ensures refl
    c.loop-others.invariant

pub returns : goal.returns
returns c =
    last_line (declarations_of c.args.classes.now) c.loop-others.scope c.loop-others.others.now
    c.loop-others.text.items _ c.in_default.len_below c.loop-others.invariant
