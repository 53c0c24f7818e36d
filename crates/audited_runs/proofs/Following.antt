-- A replay follows the state of a run between two units, by the operation that the sequencer does next; and what the
-- lines of the sequencer leave of that.
use Rattle.std.proofs.Common.{◌≡◌, ℕ, Bool, true, false, List, [], ◌∷◌, length, inr, Some, None, if◌then◌else◌, refl, sym, ap, ◌∙◌, subst}
use Rattle.scj_base.specs.declared.positions.Position.{Position}
use Rattle.scj_base.specs.declared.faults.RunFault.{RunFault}
use Rattle.scj_model.specs.declared.events.Event.{Event}
use Rattle.scj_model.specs.declared.events.Event.TheVariants as event
use Rattle.scj_model.specs.declared.operations.SeqOp.{SeqOp}
use Rattle.scj_model.specs.declared.operations.SeqOp.TheVariants.{OpenImmortal, AllocSafelet, ConstructSafelet, InitializeApplication, GetSequencer, GetNextMission, OpenMission, Initialize, CleanUp, Execute, Finished}
use Rattle.scj_model.specs.declared.phases.Phase.TheVariants.{Over}
use Rattle.scj_model.specs.Arrivals.{executes_since}
use Rattle.scj_model.specs.Plan.{Plan}
use Rattle.scj_model.specs.TraceText.{unit_of}
use Rattle.scj_model.specs.State.{Activity, State, TheSequencer, is_exec, is_over}
use Rattle.scj_model.specs.Steps.{fault_in}
use Rattle.mission_sound.specs.Invariant.{phase_of}
use Rattle.trace_audit.specs.declared.lines.Entry.TheVariants.{Halted}
use Rattle.trace_audit.specs.Passing.{begun, entry_done, entry_passes, is_first, misses_no_choice, rest_done}
use Rattle.trace_audit.specs.Printed.{entry_reported}
use Rattle.trace_audit.specs.Replay.{Releases, Replay}
use Rattle.trace_audit.specs.StandsFor.{StandsFor}
use Rattle.audited_runs.proofs.Reported.{reported, reported_one, reported_then}
use Rattle.audited_runs.proofs.InUnit.{Kept, Live, kept_then, line_opens, line_passes, live_kept}
use Rattle.audited_runs.proofs.Named.{Named}
use Rattle.audited_runs.proofs.Stands.{stands_same}
use Rattle.audited_runs.proofs.Executing.{Beside, Executes, LastIs, SameCore, core_begun, executes_core, since_alike}
use Rattle.audited_runs.proofs.Acting.{Silent, fault_reports_none, none_reported}
use Rattle.audited_runs.proofs.Arrivals.{silent_same}

-- ---- between two units

-- in the initialisation of a mission: no release arrived
pub record Initializes (s : State) (r : Replay) : Type 0 where
  pub stands : StandsFor s r.all
  pub named : Named r.all
  pub none : r.all.releases ≡ []

-- before a mission is open: there are no handlers, and all releases are of earlier missions
pub record OpensMission (s : State) : Type 0 where
  pub registry : s.registry ≡ []
  pub earlier : s.earlier_releases ≡ length s.releases

abbrev pub HoldsFor : State → Replay → SeqOp → Type 0
HoldsFor s r OpenImmortal = s.registry ≡ []
HoldsFor s r AllocSafelet = s.registry ≡ []
HoldsFor s r (ConstructSafelet object) = s.registry ≡ []
HoldsFor s r (InitializeApplication object) = s.registry ≡ []
HoldsFor s r (GetSequencer object) = s.registry ≡ []
HoldsFor s r (GetNextMission object) = s.registry ≡ []
HoldsFor s r (OpenMission object) = OpensMission s
HoldsFor s r (Initialize object) = Initializes s r
HoldsFor s r (CleanUp object) = Unit {0}
HoldsFor s r Execute = Executes s r
HoldsFor s r Finished = Unit {0}

pub record Follows (s : State) (r : Replay) : Type 0 where
  pub holds : HoldsFor s r s.operation
  pub since : r.executes_since ≡ executes_since s
  pub over : r.is_over ≡ is_over s.phase
  pub first : is_first r s.unit ≡ true
  pub ready : misses_no_choice r s.unit ≡ true

-- ---- where only memory is another one

pub executes_beside : (s t : State) (r : Replay) → Beside s t → Executes s r → Executes t r
executes_beside s t r b h =
    record {
      stands = stands_same s t r.all b.alike.registry b.alike.earlier b.releases h.stands;
      named = h.named;
      last = subst (λ o. LastIs t.earlier_releases r o) (sym b.alike.last)
          (subst (λ e. LastIs e r s.last_choice) (sym b.alike.earlier) h.last);
      exec = ap is_exec b.alike.phase ∙ h.exec;
      since = h.since ∙ sym (since_alike s t b.alike);
    }

pub initializes_core : (s : State) (r after : Replay) → SameCore r after → Initializes s r → Initializes s after
initializes_core s r after same h =
    record {
      stands = subst (λ (all : Releases). StandsFor s all) (sym same.all) h.stands;
      named = subst (λ (all : Releases). Named all) (sym same.all) h.named;
      none = ap (λ (all : Releases). all.releases) same.all ∙ h.none;
    }

initializes_beside : (s t : State) (r : Replay) → Beside s t → Initializes s r → Initializes t r
initializes_beside s t r b h =
    record {
      stands = stands_same s t r.all b.alike.registry b.alike.earlier b.releases h.stands;
      named = h.named;
      none = h.none;
    }

pub holds_beside : (s t : State) (r after : Replay) → Beside s t → SameCore r after → (op : SeqOp) → HoldsFor s r op →
    HoldsFor t after op
holds_beside s t r after b same OpenImmortal h = b.alike.registry ∙ h
holds_beside s t r after b same AllocSafelet h = b.alike.registry ∙ h
holds_beside s t r after b same (ConstructSafelet object) h = b.alike.registry ∙ h
holds_beside s t r after b same (InitializeApplication object) h = b.alike.registry ∙ h
holds_beside s t r after b same (GetSequencer object) h = b.alike.registry ∙ h
holds_beside s t r after b same (GetNextMission object) h = b.alike.registry ∙ h
holds_beside s t r after b same (OpenMission object) h =
    record {
      registry = b.alike.registry ∙ h.registry;
      earlier = b.alike.earlier ∙ (h.earlier ∙ ap length (sym b.releases));
    }
holds_beside s t r after b same (Initialize object) h =
    initializes_core t r after same (initializes_beside s t r b h)
holds_beside s t r after b same (CleanUp object) h = tt
holds_beside s t r after b same Execute h = executes_core t r after same (executes_beside s t r b h)
holds_beside s t r after b same Finished h = tt

-- ---- steps of the sequencer

pub record SeqReported (plan : Plan) (unit : ℕ) (r : Replay) (t : State) (es : List Event) : Type 0 where
  pub after : Replay
  pub is : reported plan r es ≡ Some after
  pub kept : Kept unit r after
  pub holds : HoldsFor t after t.operation
  pub since : after.executes_since ≡ executes_since t
  pub over : after.is_over ≡ is_over t.phase

-- before the operation of a unit outside execution
pub record Sequences (plan : Plan) (s : State) (r : Replay) : Type 0 where
  pub live : Live plan s.unit r
  pub out : is_exec s.phase ≡ false
  pub goes_on : is_over s.phase ≡ false
  pub fits : s.phase ≡ phase_of s.operation
  pub holds : HoldsFor s r s.operation
  pub since : r.executes_since ≡ executes_since s

-- only memory and frames are others
pub record Around (s t : State) : Type 0 where
  pub beside : Beside s t
  pub operation : t.operation ≡ s.operation

pub around_reported : (plan : Plan) (s t : State) (r : Replay) (es : List Event) → Sequences plan s r → Around s t →
    Silent plan s.unit r es → SeqReported plan s.unit r t es
around_reported plan s t r es h a silent =
    record {
      after = silent.after;
      is = silent.is;
      kept = silent.kept;
      holds = subst (λ (op : SeqOp). HoldsFor t silent.after op) (sym a.operation)
          (holds_beside s t r silent.after a.beside silent.core s.operation h.holds);
      since = silent.core.since ∙ (h.since ∙ sym (since_alike s t a.beside.alike));
      over = silent.goes_on ∙ sym (ap is_over a.beside.alike.phase ∙ h.goes_on);
    }

pub quiet_reported : (plan : Plan) (s t : State) (r : Replay) → Sequences plan s r → Around s t →
    SeqReported plan s.unit r t []
quiet_reported plan s t r h a = around_reported plan s t r [] h a (silent_same plan s.unit r h.live)

-- ---- a fault halts the run

halted_over : (b : Replay) (unit : ℕ) → (entry_done b unit Halted).is_over ≡ true
unfolding rest_done
halted_over b unit = refl

halted_since : (b : Replay) (unit : ℕ) → (entry_done b unit Halted).executes_since ≡ b.executes_since
unfolding rest_done
halted_since b unit = refl

halted_passes : (plan : Plan) (r : Replay) (unit : ℕ) → entry_passes plan r unit Halted ≡ true
unfolding entry_passes
halted_passes plan r unit = refl

-- the state of a run that was halted
abbrev pub halted : State → State
halted s = record s { phase = Over; operation = Finished; outcome = None }

pub since_out : (s : State) → is_exec s.phase ≡ false → executes_since s ≡ None
unfolding executes_since
since_out s out = ap (λ (b : Bool). if b then Some s.origin else None) out

-- the rest of a run that was halted
pub record HaltReported (plan : Plan) (unit : ℕ) (r : Replay) (es : List Event) : Type 0 where
  pub after : Replay
  pub is : reported plan r es ≡ Some after
  pub kept : Kept unit r after
  pub since : after.executes_since ≡ r.executes_since
  pub over : after.is_over ≡ true

pub halt_reported : (plan : Plan) (unit : ℕ) (r : Replay) (position : Position) (fault : RunFault) → Live plan unit r →
    HaltReported plan unit r (event.Fault unit fault position ∷ event.Halted unit ∷ [])
unfolding entry_reported unit_of
halt_reported plan unit r position fault live =
    let one : Silent plan unit r (event.Fault unit fault position ∷ []) =
    none_reported plan unit r (event.Fault unit fault position) (fault_reports_none unit fault position) live refl in
    let m : Replay = one.after in
    let live_m : Live plan unit m = live_kept plan unit r m live one.kept one.goes_on in
    let core : SameCore m (begun m unit) = core_begun m unit in
    record {
      after = entry_done (begun m unit) unit Halted;
      is = reported_then plan r m (entry_done (begun m unit) unit Halted) (event.Fault unit fault position ∷ [])
          (event.Halted unit ∷ []) one.is
          (reported_one plan m (entry_done (begun m unit) unit Halted) (event.Halted unit)
          (line_passes plan unit m (event.Halted unit) live_m refl (λ e. cc (e)) (halted_passes plan m unit)));
      kept = kept_then unit r m (entry_done (begun m unit) unit Halted) one.kept
          (inr (line_opens unit m Halted live_m.in_order));
      since = halted_since (begun m unit) unit ∙ (core.since ∙ one.core.since);
      over = halted_over (begun m unit) unit;
    }

pub faults_reported : (plan : Plan) (s : State) (r : Replay) (activity : Activity) (position : Position) (fault : RunFault) →
    Sequences plan s r →
    SeqReported plan s.unit r (fault_in s TheSequencer activity position fault).state
    (fault_in s TheSequencer activity position fault).events
unfolding fault_in is_over is_exec executes_since
faults_reported plan s r activity position fault h =
    let k : HaltReported plan s.unit r (event.Fault s.unit fault position ∷ event.Halted s.unit ∷ []) =
    halt_reported plan s.unit r position fault h.live in
    record {
      after = k.after;
      is = k.is;
      kept = k.kept;
      holds = tt;
      since = k.since ∙ (h.since ∙ since_out s h.out);
      over = k.over;
    }
