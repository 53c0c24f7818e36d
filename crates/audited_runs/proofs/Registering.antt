-- A handler is registered: its line, and what it leaves.
use Rattle.std.proofs.Common.{◌≡◌, ℕ, ◌+◌, ◌==◌, true, List, [], ◌∷◌, ◌++◌, length, inr, refl, sym, ap, ◌∙◌, subst}
use Rattle.accepted_laws.proofs.Positions.{length_map}
use Rattle.scj_model.specs.declared.events.Event.TheVariants as event
use Rattle.scj_model.specs.declared.handlers.HandlerRow.{HandlerRow}
use Rattle.scj_model.specs.declared.operations.SeqOp.{SeqOp}
use Rattle.scj_model.specs.declared.operations.SeqOp.TheVariants.{OpenImmortal, AllocSafelet, ConstructSafelet, InitializeApplication, GetSequencer, GetNextMission, OpenMission, Initialize, CleanUp, Execute, Finished}
use Rattle.scj_model.specs.Plan.{Plan}
use Rattle.scj_model.specs.TraceText.{unit_of}
use Rattle.scj_model.specs.State.{State, is_exec, is_init, is_over}
use Rattle.mission_sound.specs.Invariant.{phase_of}
use Rattle.trace_audit.specs.declared.lines.Entry.TheVariants.{Register}
use Rattle.trace_audit.specs.Passing.{begun, entry_done, entry_passes, rest_done, table_done}
use Rattle.trace_audit.specs.Printed.{entry_reported}
use Rattle.trace_audit.specs.Replay.{HandlerSeen, Replay}
use Rattle.trace_audit.specs.StandsFor.{StandsFor}
use Rattle.audited_runs.proofs.Reported.{reported_one}
use Rattle.audited_runs.proofs.InUnit.{line_opens, line_passes}
use Rattle.audited_runs.proofs.Named.{AreNamed, named_handler}
use Rattle.audited_runs.proofs.Stands.{stands_registered}
use Rattle.audited_runs.proofs.Executing.{Beside, SameCore, core_begun}
use Rattle.priority_laws.proofs.AreaLists.{same_test}
use Rattle.audited_runs.proofs.Following.{Around, HoldsFor, Initializes, SeqReported, Sequences, initializes_core, since_out}

-- ---- a handler is registered

register_passes : (plan : Plan) (s : State) (r : Replay) (unit priority : ℕ) → StandsFor s r.all →
    entry_passes plan r unit (Register (length s.registry + 1) priority) ≡ true
unfolding entry_passes
register_passes plan s r unit priority stands =
    let same : length s.registry ≡ length r.all.handlers =
    sym (length_map (λ (row : HandlerRow). row.priority) s.registry)
    ∙ (ap length stands.handlers ∙ length_map (λ (h : HandlerSeen). h.priority) r.all.handlers) in
    ap (λ n. n + 1 == length r.all.handlers + 1) same ∙ same_test (length r.all.handlers + 1)

register_over : (b : Replay) (unit handler priority : ℕ) → (entry_done b unit (Register handler priority)).is_over ≡ b.is_over
unfolding rest_done
register_over b unit handler priority = refl

register_since : (b : Replay) (unit handler priority : ℕ) →
    (entry_done b unit (Register handler priority)).executes_since ≡ b.executes_since
unfolding rest_done
register_since b unit handler priority = refl

-- the state in which the handler is registered
abbrev pub with_row : State → HandlerRow → State
with_row s row = record s { registry = s.registry ++ row ∷ [] }

registered_initializes : (s t : State) (b : Replay) (unit handler : ℕ) (row : HandlerRow) → Beside s t →
    Initializes s b → Initializes (with_row t row) (entry_done b unit (Register handler row.priority))
unfolding rest_done table_done
registered_initializes s t b unit handler row beside h =
    record {
      stands = stands_registered s (with_row t row) b.all row h.stands
          (ap (λ rows. rows ++ row ∷ []) beside.alike.registry) beside.alike.earlier beside.releases;
      named = subst (λ rs. AreNamed (b.all.handlers ++ record { priority = row.priority; arrived = 0 } ∷ []) rs)
          (sym h.none)
          (named_handler b.all.handlers row.priority (subst (λ rs. AreNamed b.all.handlers rs) h.none h.named));
      none = h.none;
    }

record IsInitialize (op : SeqOp) : Type 0 where
  mission : ℕ
  is : op ≡ Initialize mission

init_op : (op : SeqOp) → is_init (phase_of op) ≡ true → IsInitialize op
unfolding phase_of is_init
init_op OpenImmortal e = absurd (cc (e))
init_op AllocSafelet e = absurd (cc (e))
init_op (ConstructSafelet object) e = absurd (cc (e))
init_op (InitializeApplication object) e = absurd (cc (e))
init_op (GetSequencer object) e = absurd (cc (e))
init_op (GetNextMission object) e = absurd (cc (e))
init_op (OpenMission object) e = absurd (cc (e))
init_op (Initialize object) e = record { mission = object; is = refl }
init_op (CleanUp object) e = absurd (cc (e))
init_op Execute e = absurd (cc (e))
init_op Finished e = absurd (cc (e))

pub register_reported : (plan : Plan) (s t : State) (r : Replay) (row : HandlerRow) (class : List ℕ) →
    Sequences plan s r → Around s t → is_init s.phase ≡ true →
    SeqReported plan s.unit r (with_row t row) (event.Register s.unit (length s.registry + 1) class row.priority ∷ [])
unfolding entry_reported unit_of
register_reported plan s t r row class h a init =
    let op : IsInitialize s.operation = init_op s.operation (sym (ap is_init h.fits) ∙ init) in
    let begins : Initializes s r = subst (λ (o : SeqOp). HoldsFor s r o) op.is h.holds in
    let b : Replay = begun r s.unit in
    let core : SameCore r b = core_begun r s.unit in
    let after : Replay = entry_done b s.unit (Register (length s.registry + 1) row.priority) in
    record {
      after = after;
      is = reported_one plan r after (event.Register s.unit (length s.registry + 1) class row.priority)
          (line_passes plan s.unit r (event.Register s.unit (length s.registry + 1) class row.priority) h.live refl
          (λ e. cc (e)) (register_passes plan s r s.unit row.priority begins.stands));
      kept = inr (line_opens s.unit r (Register (length s.registry + 1) row.priority) h.live.in_order);
      holds = subst (λ (o : SeqOp). HoldsFor (with_row t row) after o) (sym (a.operation ∙ op.is))
          (registered_initializes s t b s.unit (length s.registry + 1) row a.beside
          (initializes_core s r b core begins));
      since = register_since b s.unit (length s.registry + 1) row.priority
          ∙ (core.since ∙ (h.since ∙ (since_out s h.out
          ∙ sym (since_out (with_row t row) (ap is_exec a.beside.alike.phase ∙ h.out)))));
      over = register_over b s.unit (length s.registry + 1) row.priority
          ∙ (core.over ∙ (h.live.goes_on ∙ sym (ap is_over a.beside.alike.phase ∙ h.goes_on)));
    }
