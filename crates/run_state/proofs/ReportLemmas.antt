-- Whether another priority is told.
use Rattle.std.proofs.Common.{◌≡◌, ◌≢◌, ℕ, List, [], ◌∷◌, ◌++◌, sym}
use Rattle.std.proofs.lemmas.Bool.{eq-eqb, ne_eqb}
use Rattle.std.proofs.lemmas.List.{append-nil}
use Rattle.scj_model.specs.declared.events.Event.{Event}
use Rattle.scj_model.specs.declared.events.Event.TheVariants.{Prio}
use Rattle.scj_model.specs.State.{Job, Release, State}
use Rattle.scj_model.specs.Steps.{of_release}
use Rattle.scj_model.specs.Apply.{report_priority}

pub reported_same : (s : State) (job : Job) (before after : ℕ) (reported : List Event) → before ≡ after →
    reported ≡ reported ++ report_priority s job before after
reported_same s job before after reported e =
    rw (eq-eqb before after e) (sym (append-nil reported))

pub reported_other : (s : State) (job : Job) (before after : ℕ) (first second : List Event) → before ≢ after →
    second ≡ first ++ of_release s job (λ (r : Release). Prio s.unit r.handler after ∷ []) →
    second ≡ first ++ report_priority s job before after
reported_other s job before after first second n h =
    rw (ne_eqb before after n) h
