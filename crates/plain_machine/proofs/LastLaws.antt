-- A unit after which a run is over tells its end last.
use Rattle.std.specs.Prelude.{Option, Some, None, is_some, ◌||◌, ◌++◌}
use Rattle.std.specs.List.{last_or, list_any}
use Rattle.std.proofs.Common.{◌≡◌, inl, inr, ℕ, ◌+◌, Bool, true, false, List, [], ◌∷◌, refl, sym, ap, ◌∙◌, subst, append-nil}
use Rattle.scj_rules.specs.Words.{◌>>=◌}
use Rattle.scj_model.specs.declared.events.Event.{Event}
use Rattle.scj_model.specs.declared.events.Event.TheVariants.{Mission, Register, Exec, Arrive, Lost, Miss, Run, Idle, Prio, Print, Fault, End, Terminate, Drop, Cleanup, Done, Halted, Stopped}
use Rattle.scj_model.specs.Choice.{by_priority}
use Rattle.scj_model.specs.Code.{code_of}
use Rattle.scj_model.specs.LastLine.{EndsInLastLine, HasNoLastLine, is_last_line}
use Rattle.scj_model.specs.Plan.{Plan}
use Rattle.scj_model.specs.Run.{RunSoFar, has_ended}
use Rattle.scj_model.specs.State.{is_over}
use Rattle.scj_model.proofs.LastLines.{IsReported, reported_run}
use Rattle.scj_model.proofs.Reaching.{left_false}
use Rattle.op_list.specs.Listed.{Listing}
use Rattle.plain_machine.specs.Ends.{end_of, end_reported}
use Rattle.plain_machine.specs.UnderWay.{HasSpent, run_at}
use Rattle.plain_machine.specs.declared.under_way.UnderWay.{UnderWay}
use Rattle.plain_machine.proofs.EndLaws.{last_behind}
use Rattle.plain_machine.proofs.UnderLaws.{over_after}

reports_end : (event : Event) → is_last_line event ≡ true → is_some (end_reported event) ≡ true
unfolding is_last_line end_reported
reports_end (Mission unit class) e = absurd (cc (e))
reports_end (Register unit handler class priority) e = absurd (cc (e))
reports_end (Exec unit) e = absurd (cc (e))
reports_end (Arrive unit handler n) e = absurd (cc (e))
reports_end (Lost unit handler) e = absurd (cc (e))
reports_end (Miss unit name) e = absurd (cc (e))
reports_end (Run unit handler n) e = absurd (cc (e))
reports_end (Idle unit) e = absurd (cc (e))
reports_end (Prio unit handler priority) e = absurd (cc (e))
reports_end (Print unit text value) e = absurd (cc (e))
reports_end (Fault unit fault position) e = absurd (cc (e))
reports_end (End unit handler n) e = absurd (cc (e))
reports_end (Terminate unit) e = absurd (cc (e))
reports_end (Drop unit handler n) e = absurd (cc (e))
reports_end (Cleanup unit) e = absurd (cc (e))
reports_end (Done unit) e = refl
reports_end (Halted unit) e = refl
reports_end (Stopped unit) e = refl

any_last : (before : List Event) (last : Event) → is_last_line last ≡ true →
    list_any is_last_line (before ++ last ∷ []) ≡ true
any_last [] last e = ap (λ (b : Bool). b || false) e
any_last (x ∷ xs) last e =
    ap (λ (b : Bool). is_last_line x || b) (any_last xs last e) ∙ or_true (is_last_line x)
  where
    or_true : (b : Bool) → (b || true) ≡ true
    or_true true = refl
    or_true false = refl

-- where no event of a front is a last line, and all end in one, what comes behind the front tells an end
last_behind_front : (front reported : List Event) → HasNoLastLine front → EndsInLastLine (front ++ reported) →
    is_some (end_of reported) ≡ true
unfolding end_of
last_behind_front front [] none ends =
    absurd
    (let whole : front ≡ ends.before ++ ends.last ∷ [] = sym (append-nil front) ∙ ends.are in
    let clash : false ≡ true =
    sym none ∙ (ap (list_any is_last_line) whole ∙ any_last ends.before ends.last ends.ends) in
    cc (clash))
last_behind_front front (y ∷ ys) none ends =
    let found : last_or (Some y) ys ≡ Some ends.last =
    sym (last_behind None front y ys)
    ∙ (ap (last_or None) ends.are ∙ last_behind None ends.before ends.last []) in
    ap (λ (o : Option Event). is_some (o >>= end_reported)) found ∙ reports_end ends.last ends.ends

no_last_before : (r : RunSoFar) → IsReported r → has_ended r ≡ false → HasNoLastLine r.events
no_last_before r (inl going) e = going.no_last
no_last_before r (inr closed) e =
    absurd (let clash : true ≡ false = sym closed.over ∙ left_false (is_over r.state.phase) r.is_stuck e in cc (clash))

last_after : (r : RunSoFar) → IsReported r → is_over r.state.phase ≡ true → EndsInLastLine r.events
last_after r (inl going) e = absurd (let clash : false ≡ true = sym going.goes_on ∙ e in cc (clash))
last_after r (inr closed) e = closed.ends

pub reports_last : (code : Listing) (plan : Plan) (n : ℕ) (at : UnderWay) → HasSpent code plan n at →
    has_ended (run_at code.program plan n) ≡ false → is_over at.state.phase ≡ true →
    is_some (end_of at.reported.items) ≡ true
reports_last code plan n at spent goes_on e =
    last_behind_front (run_at code.program plan n).events at.reported.items
    (no_last_before (run_at code.program plan n) (reported_run (code_of code.program) plan by_priority n) goes_on)
    (subst EndsInLastLine spent.reported
    (last_after (run_at code.program plan (n + 1)) (reported_run (code_of code.program) plan by_priority (n + 1))
    (over_after code plan n at spent e)))
