use Rattle.std.proofs.Common.{ℕ, ◌<◌, length, arith}
use Rattle.std.proofs.lemmas.Grind.{common_steps}
use Rattle.std.proofs.lemmas.List.Elements.{All-rest}
use Rattle.scj_rules.specs.Contexts.{declarations_of}
use Rattle.symbol_table.proofs.LookLemmas.{first_left}
use Rattle.class_table.proofs.classes.note_each.Goals as goal

pub loop-others-preserved : goal.loop-others-preserved
loop-others-preserved c =
    let l = c.loop-others.invariant in
    let here = c.in_ok-go_to.ensures.at in
    let whole = first_left c.class-item.result c.loop-others.others.now c.in-len1-up.len_at_least c.class-item.is in
    let P : ℕ → Type 0 = λ class. class < length (declarations_of c.args.table.now.forest).classes in
    record {
      same = rw here l.same;
      classes = All-rest P c.class-item.result _ c.loop-others.others.now whole l.classes;
      left = grind (arith, common_steps, whole, here);
      reported = λ h. (rw (here, l.same) at c.in_ok-note_inherited_methods.ensures) _ (rw whole at (l.reported h));
    }
