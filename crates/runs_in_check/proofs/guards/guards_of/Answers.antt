use Rattle.std.proofs.Common.{Option, None, ap, ◌∙◌}
use Rattle.scj_tree.specs.Recursion.{lookup}
use Rattle.scj_rules.specs.declared.typing.Guard.{Guard}
use Rattle.scj_rules.specs.Contexts.{Declarations, declarations_of}
use Rattle.scj_rules.specs.TypeRules.{Types}
use Rattle.runs_in_check.specs.Guards.{left_from}
use Rattle.runs_in_check.proofs.Walks.{left_from_start, no_guard}
use Rattle.runs_in_check.proofs.guards.guards_of.Goals as goal

pub returns-then-not-is_any_asked : goal.returns-then-not-is_any_asked
returns-then-not-is_any_asked c =
    let p : Declarations = declarations_of c.args.facts.now in
    let ts : Types = lookup None c.args.types.now in
    record {
      exact = λ number. rw c.new-rows.ensures.empty
          (no_guard p ts (c.is_any_asked.ensures c.if-not-is_any_asked.true) number);
      around = λ filled. absurd (filled c.new-rows.ensures.len);
    }

pub returns : goal.returns
unfolding declarations_of
returns c =
    let p : Declarations = declarations_of c.args.facts.now in
    record {
      exact = λ number. c.undo_all.ensures number
          ∙ ap (λ (o : Option Guard). left_from p 0 number o) (c.in_ok-rows.ensures number)
          ∙ left_from_start p (lookup None c.args.types.now) number;
      around = λ filled id. rw c.program.ensures at (c.in_ok-parents.ensures id);
    }
