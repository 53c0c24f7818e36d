-- What is put behind what was put before, and where a run breaks off.
use Rattle.std.specs.Prelude.{◌++◌, Option}
use Rattle.std.proofs.Common.{◌≡◌, ◌≤◌, ℕ, List, sym, ap, ◌∙◌, subst}
use Rattle.scj_io.specs.Puts.{SinkRun, sink_run, PutWhole, PutFront}
use Rattle.scj_io.proofs.PutLaws.{PutFront-more, PutWhole-nothing, PutWhole-then-front}
use Rattle.scj_tree.specs.Forest.{Forest}
use Rattle.scj_model.specs.Plan.{Plan}
use Rattle.plain_machine.specs.Machines.{IsBroken, MachineSeen, having_spent}
use Rattle.plain_machine.specs.Printing.{BreaksOffIn}
use Rattle.plain_machine.specs.Runs.{BreaksOff, PutPart}
use Rattle.plain_machine.specs.Reported.{BreaksOffFrom, next_text, reported_text}
use Rattle.plain_machine.specs.declared.runs.RunError.{RunError}
use Rattle.plain_machine.specs.declared.runs.RunError.TheVariants.{Memory, Failed}
use Rattle.plain_machine.proofs.PartLaws.{PutPart-nothing, PutPart-more, PutPart-then}
use Rattle.plain_machine.proofs.TextLaws.{begins_next, next_begins_trace, nothing_reported}

-- before the first unit there is nothing to be put
pub nothing_put : (forest : Forest) (plan : Plan) (names : List (List ℕ)) (n : ℕ) (taken : Option (List ℕ))
    (faults : ℕ) → n ≡ 0 → PutWhole (sink_run taken taken faults faults) (reported_text forest plan names n)
nothing_put forest plan names n taken faults e =
    subst (λ (bytes : List ℕ). PutWhole (sink_run taken taken faults faults) bytes)
    (sym (ap (reported_text forest plan names) e ∙ nothing_reported forest plan names)) (PutWhole-nothing taken faults)

-- a step breaks off in the midst of what it puts
pub breaks_in : (forest : Forest) (plan : Plan) (names : List (List ℕ)) (n : ℕ) (out : SinkRun) (bytes : List ℕ) →
    n ≤ plan.units → next_text forest plan names n ≡ reported_text forest plan names n ++ bytes → (stop : RunError) →
    BreaksOffIn bytes out stop → BreaksOffFrom forest plan names n out stop
breaks_in forest plan names n out bytes within parts stop broke =
    record { within = within; broke = record { bytes = bytes; parts = parts; holds = broke } }

-- before anything was put
pub breaks_before : (forest : Forest) (plan : Plan) (names : List (List ℕ)) (n : ℕ) (taken : Option (List ℕ))
    (faults : ℕ) → n ≤ plan.units → BreaksOffFrom forest plan names n (sink_run taken taken faults faults) Memory
breaks_before forest plan names n taken faults within =
    let begins = begins_next forest plan names n in
    record {
      within = within;
      broke = record { bytes = begins.0; parts = begins.1; holds = PutPart-nothing taken faults begins.0 };
    }

-- a run of which some text was put breaks off where a step of it does
pub breaks_off : (forest : Forest) (plan : Plan) (names : List (List ℕ)) (n : ℕ) (t u v : Option (List ℕ))
    (k l m : ℕ) → PutWhole (sink_run t u k l) (reported_text forest plan names n) → (stop : RunError) →
    BreaksOffFrom forest plan names n (sink_run u v l m) stop → BreaksOff forest plan names (sink_run t v k m) stop
breaks_off forest plan names n t u v k l m put Memory from =
    let more = next_begins_trace forest plan names n from.within in
    subst (λ (bytes : List ℕ). PutPart (sink_run t v k m) bytes) (sym more.1)
    (PutPart-more (subst (λ (bytes : List ℕ). PutPart (sink_run t v k m) bytes) (sym from.broke.parts)
    (PutPart-then put from.broke.holds)) more.0)
breaks_off forest plan names n t u v k l m put Failed from =
    let more = next_begins_trace forest plan names n from.within in
    subst (λ (bytes : List ℕ). PutFront (sink_run t v k m) bytes) (sym more.1)
    (PutFront-more (subst (λ (bytes : List ℕ). PutFront (sink_run t v k m) bytes) (sym from.broke.parts)
    (PutWhole-then-front put from.broke.holds)) more.0)

-- so does a machine that has spent some units and put what they tell
pub broken_run : (was before after : MachineSeen) → before ≡ having_spent before.spent was →
    (t u v : Option (List ℕ)) (k l m : ℕ) →
    PutWhole (sink_run t u k l) (reported_text was.program was.plan was.names before.spent) → (stop : RunError) →
    IsBroken before after (sink_run u v l m) stop →
    BreaksOff was.program was.plan was.names (sink_run t v k m) stop
broken_run was before after same t u v k l m put stop broken =
    breaks_off was.program was.plan was.names before.spent t u v k l m put stop
    (subst
    (λ (x : MachineSeen). BreaksOffFrom x.program x.plan x.names before.spent (sink_run u v l m) stop) same
    broken.broke)
