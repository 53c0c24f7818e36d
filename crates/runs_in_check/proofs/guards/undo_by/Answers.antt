use Rattle.std.proofs.Common.{◌≡◌, ◌==◌, ◌+◌, Option, Some, sym, ap, ◌∙◌}
use Rattle.std.specs.HashMap.{get}
use Rattle.scj_rules.specs.declared.typing.Guard.{Guard}
use Rattle.scj_rules.specs.Contexts.{Declarations, declarations_of}
use Rattle.scj_rules.specs.Guards.{assigned_at}
use Rattle.runs_in_check.specs.Guards.{left_from}
use Rattle.runs_in_check.proofs.Walks.{left_from_assigned, left_from_plain}
use Rattle.runs_in_check.proofs.guards.undo_by.Goals as goal

pub returns-in-Some : goal.returns-in-Some
unfolding declarations_of
returns-in-Some c = λ number.
    let p : Declarations = declarations_of c.args.facts.now in
    let there : assigned_at p c.args.id ≡ Some c.in-Some.x = sym c.assigned_at.ensures ∙ c.in-Some.is in
    ap (λ (o : Option Guard). left_from p (c.args.id + 1) number o) (rw c.program.ensures at (c.undo.ensures number))
    ∙ left_from_assigned p c.args.id c.requires.within c.in-Some.x number
    (get ◌==◌ c.args.rows.now number) there

pub returns-in-None : goal.returns-in-None
unfolding declarations_of
returns-in-None c = λ number.
    left_from_plain (declarations_of c.args.facts.now) c.args.id c.requires.within number
    (get ◌==◌ c.args.rows.now number) (sym c.assigned_at.ensures ∙ c.in-None.is)
