use Rattle.std.proofs.Common.{List, [], ◌∷◌, ◌++◌, ap, sym, ◌∙◌}
use Rattle.std.proofs.lemmas.List.{append-nil}
use Rattle.scj_model.specs.declared.events.Event.{Event}
use Rattle.scj_model.specs.declared.events.Event.TheVariants.{Run}
use Rattle.scj_model.specs.State.{Release}
use Rattle.run_state.proofs.SeenLemmas.{reported_of, reported_of_none}
use Rattle.unit_steps.proofs.turns.report_run.Goals as goal

pub returns-in_ok-report-in-Some : goal.returns-in_ok-report-in-Some
returns-in_ok-report-in-Some c = λ code.
    c.in_ok-report-in-Some.ensures ∙ ap (λ (es : List Event). c.args.reported.now.items ++ es)
    (sym (reported_of code c.args.state.now c.args.index (λ (r : Release). Run c.args.state.now.unit r.handler r.number
    ∷ [])
    c.in-Some.release.now c.in-Some.ensures))

pub returns-in-None : goal.returns-in-None
returns-in-None c = λ code.
    sym (append-nil c.args.reported.now.items) ∙ ap (λ (es : List Event). c.args.reported.now.items ++ es)
    (sym (reported_of_none code c.args.state.now c.args.index
    (λ (r : Release). Run c.args.state.now.unit r.handler r.number ∷ []) c.in-None.ensures))
