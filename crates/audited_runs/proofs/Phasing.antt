-- The lines of what follows an operation: that a mission begins, that execution begins, is left out or is over, and that
-- there is no further mission.
use Rattle.std.proofs.Common.{◌≡◌, ℕ, zero, suc, ◌+◌, Bool, true, false, List, [], ◌∷◌, inl, inr, Option, Some, None, if◌then◌else◌, refl, sym, ap, ◌∙◌, subst}
use Rattle.std.specs.Prelude.{is_none, slice_get, option_map}
use Rattle.std.specs.List.{list_any}
use Rattle.std.proofs.lemmas.Bool.{or_parts}
use Rattle.scj_model.specs.declared.events.Event.{Event}
use Rattle.scj_model.specs.declared.events.Event.TheVariants as event
use Rattle.scj_model.specs.declared.operations.SeqOp.{SeqOp}
use Rattle.scj_model.specs.declared.operations.SeqOp.TheVariants.{Initialize, CleanUp, Execute, Finished}
use Rattle.scj_model.specs.Arrivals.{executes_since}
use Rattle.scj_model.specs.Choice.{Candidate, candidate, handler_priority, most_urgent}
use Rattle.scj_model.specs.Plan.{Plan}
use Rattle.scj_model.specs.TraceText.{unit_of}
use Rattle.scj_model.specs.State.{ReleaseStatus, Waits, Started, Ended, Dropped, Release, State, is_exec, is_over, is_started, is_waiting}
use Rattle.trace_audit.specs.declared.lines.Entry.TheVariants.{Mission, Exec as ExecEntry, Cleanup as CleanupEntry, Done, Stopped}
use Rattle.trace_audit.specs.Passing.{begun, entry_done, entry_passes, rest_done, table_done}
use Rattle.trace_audit.specs.Printed.{entry_reported}
use Rattle.trace_audit.specs.Replay.{Releases, Replay, candidates_from, picked_index}
use Rattle.trace_audit.specs.StandsFor.{StandsFor}
use Rattle.audited_runs.proofs.Reported.{reported, reported_none, reported_one, reported_then}
use Rattle.audited_runs.proofs.InUnit.{Kept, Live, kept_then, line_opens, line_passes, live_kept}
use Rattle.accepted_laws.proofs.Tools.{some_inj}
use Rattle.audited_runs.proofs.Named.{Named, named_nothing}
use Rattle.audited_runs.proofs.Stands.{stands_first, stands_same}
use Rattle.audited_runs.proofs.Executing.{Executes, SameCore, core_begun}
use Rattle.audited_runs.proofs.Following.{HoldsFor, Initializes, OpensMission, SeqReported}

-- ---- nothing is told

pub quiet_phase : (plan : Plan) (unit : ℕ) (m : Replay) (t : State) → HoldsFor t m t.operation →
    m.executes_since ≡ executes_since t → m.is_over ≡ is_over t.phase → SeqReported plan unit m t []
quiet_phase plan unit m t holds since over =
    record { after = m; is = reported_none plan m; kept = inl refl; holds = holds; since = since; over = over }

-- ---- a line without parts

-- an entry whose line stands for itself
pub record LineReported (plan : Plan) (unit : ℕ) (m : Replay) (e : Event) : Type 0 where
  pub is : reported plan m (e ∷ []) ≡ Some (entry_done (begun m unit) unit (entry_reported e))
  pub kept : Kept unit m (entry_done (begun m unit) unit (entry_reported e))

pub line_reported_so : (plan : Plan) (unit : ℕ) (m : Replay) (e : Event) → Live plan unit m → unit_of e ≡ unit →
    (entry_reported e ≡ Stopped → ⊥) → entry_passes plan m unit (entry_reported e) ≡ true → LineReported plan unit m e
line_reported_so plan unit m e live at other passes =
    record {
      is = reported_one plan m (entry_done (begun m unit) unit (entry_reported e)) e
          (line_passes plan unit m e live at other passes);
      kept = inr (line_opens unit m (entry_reported e) live.in_order);
    }

-- ---- `done`

pub done_reported : (plan : Plan) (unit : ℕ) (m : Replay) (t : State) → Live plan unit m →
    m.executes_since ≡ executes_since t → t.operation ≡ Finished → is_over t.phase ≡ true →
    SeqReported plan unit m t (event.Done unit ∷ [])
unfolding entry_reported unit_of entry_passes rest_done table_done
done_reported plan unit m t live since op over =
    let k : LineReported plan unit m (event.Done unit) =
    line_reported_so plan unit m (event.Done unit) live refl (λ e. cc (e)) refl in
    let core : SameCore m (begun m unit) = core_begun m unit in
    record {
      after = entry_done (begun m unit) unit Done;
      is = k.is;
      kept = k.kept;
      holds = subst (λ (o : SeqOp). HoldsFor t (entry_done (begun m unit) unit Done) o) (sym op) tt;
      since = core.since ∙ since;
      over = sym over;
    }

-- ---- `mission`

pub none_at : (test : Release → Bool) (rs : List Release) (index : ℕ) (r : Release) → list_any test rs ≡ false →
    slice_get rs index ≡ Some r → test r ≡ false
none_at test [] index r h there = absurd (cc (there))
none_at test (x ∷ rs) zero r h there =
    subst (λ y. test y ≡ false) (some_inj x r there) (or_parts (test x) (list_any test rs) h).0
none_at test (x ∷ rs) (suc index) r h there =
    none_at test rs index r (or_parts (test x) (list_any test rs) h).1 there

-- who neither waits nor is started is no candidate
pub no_candidate : (s : State) (index : ℕ) (r : Release) → is_waiting r.status ≡ false → is_started r.status ≡ false →
    candidate s index r ≡ None
unfolding candidate is_waiting is_started
no_candidate s index r w st = go r.status w st
  where
    go : (status : ReleaseStatus) → is_waiting status ≡ false → is_started status ≡ false →
        elim status as (λ _. Option Candidate) [
          | Waits ↦ Some (record { index = index; priority = handler_priority s r.handler; is_started = false })
          | Started activity ↦ Some (record { index = index; priority = activity.priority; is_started = true })
          | Ended ↦ None
          | Dropped ↦ None
        ] ≡ None
    go Waits w st = absurd (cc (w))
    go (Started a) w st = absurd (cc (st))
    go Ended w st = refl
    go Dropped w st = refl

mission_begins : (t : State) (b : Replay) (unit : ℕ) → OpensMission t →
    list_any (λ (r : Release). is_waiting r.status) t.releases ≡ false →
    list_any (λ (r : Release). is_started r.status) t.releases ≡ false → Initializes t (entry_done b unit Mission)
unfolding rest_done table_done
mission_begins t b unit opens w st =
    record {
      stands = stands_first t opens.registry opens.earlier
          (λ index r there. no_candidate t index r
          (none_at (λ (x : Release). is_waiting x.status) t.releases index r w there)
          (none_at (λ (x : Release). is_started x.status) t.releases index r st there));
      named = named_nothing;
      none = refl;
    }

mission_core : (b : Replay) (unit : ℕ) →
    ((entry_done b unit Mission).executes_since ≡ b.executes_since) × ((entry_done b unit Mission).is_over ≡ b.is_over)
unfolding rest_done
mission_core b unit = (refl, refl)

pub mission_reported : (plan : Plan) (unit : ℕ) (m : Replay) (t : State) (class : List ℕ) (object : ℕ) →
    Live plan unit m → m.executes_since ≡ executes_since t → t.operation ≡ Initialize object →
    is_over t.phase ≡ false → OpensMission t →
    list_any (λ (r : Release). is_waiting r.status) t.releases ≡ false →
    list_any (λ (r : Release). is_started r.status) t.releases ≡ false →
    SeqReported plan unit m t (event.Mission unit class ∷ [])
unfolding entry_reported unit_of entry_passes
mission_reported plan unit m t class object live since op over opens w st =
    let k : LineReported plan unit m (event.Mission unit class) =
    line_reported_so plan unit m (event.Mission unit class) live refl (λ e. cc (e)) refl in
    let core : SameCore m (begun m unit) = core_begun m unit in
    record {
      after = entry_done (begun m unit) unit Mission;
      is = k.is;
      kept = k.kept;
      holds = subst (λ (o : SeqOp). HoldsFor t (entry_done (begun m unit) unit Mission) o) (sym op)
          (mission_begins t (begun m unit) unit opens w st);
      since = (mission_core (begun m unit) unit).0 ∙ (core.since ∙ since);
      over = (mission_core (begun m unit) unit).1 ∙ (core.over ∙ (live.goes_on ∙ sym over));
    }

-- ---- `exec`

-- the state in which execution begins with the next unit
abbrev pub begins_execution : State → State
begins_execution s = record s { origin = s.unit + 1; last_choice = None }

exec_core : (b : Replay) (unit : ℕ) →
    ((entry_done b unit ExecEntry).executes_since ≡ Some (unit + 1)) × ((entry_done b unit ExecEntry).is_over ≡ b.is_over)
    × ((entry_done b unit ExecEntry).all ≡ b.all)
unfolding rest_done table_done
exec_core b unit = (refl, refl, refl)

exec_begins : (s : State) (b : Replay) → Initializes s b → is_exec s.phase ≡ true →
    Executes (begins_execution s) (entry_done b s.unit ExecEntry)
unfolding rest_done table_done executes_since
exec_begins s b h exec =
    record {
      stands = stands_same s (begins_execution s) b.all refl refl refl h.stands;
      named = h.named;
      last = refl;
      exec = exec;
      since = sym (ap (λ (b : Bool). if b then Some (s.unit + 1) else None) exec);
    }

initializes_begun : (s : State) (m : Replay) (unit : ℕ) → Initializes s m → Initializes s (begun m unit)
initializes_begun s m unit h =
    let core : SameCore m (begun m unit) = core_begun m unit in
    record {
      stands = subst (λ (all : Releases). StandsFor s all) (sym core.all) h.stands;
      named = subst (λ (all : Releases). Named all) (sym core.all) h.named;
      none = ap (λ (all : Releases). all.releases) core.all ∙ h.none;
    }

pub exec_reported : (plan : Plan) (m : Replay) (s : State) → Live plan s.unit m → Initializes s m →
    is_exec s.phase ≡ true → s.operation ≡ Execute → is_over s.phase ≡ false →
    SeqReported plan s.unit m (begins_execution s) (event.Exec s.unit ∷ [])
unfolding entry_reported unit_of entry_passes
exec_reported plan m s live h exec op over =
    let k : LineReported plan s.unit m (event.Exec s.unit) =
    line_reported_so plan s.unit m (event.Exec s.unit) live refl (λ e. cc (e)) refl in
    let core : SameCore m (begun m s.unit) = core_begun m s.unit in
    let e : Executes (begins_execution s) (entry_done (begun m s.unit) s.unit ExecEntry) =
    exec_begins s (begun m s.unit) (initializes_begun s m s.unit h) exec in
    record {
      after = entry_done (begun m s.unit) s.unit ExecEntry;
      is = k.is;
      kept = k.kept;
      holds = subst (λ (o : SeqOp). HoldsFor (begins_execution s) (entry_done (begun m s.unit) s.unit ExecEntry) o)
          (sym op) e;
      since = e.since;
      over = (exec_core (begun m s.unit) s.unit).1 ∙ (core.over ∙ (live.goes_on ∙ sym over));
    }

-- ---- `cleanup`

cleanup_core : (b : Replay) (unit : ℕ) →
    ((entry_done b unit CleanupEntry).executes_since ≡ None) × ((entry_done b unit CleanupEntry).is_over ≡ b.is_over)
unfolding rest_done
cleanup_core b unit = (refl, refl)

pub cleanup_reported : (plan : Plan) (unit : ℕ) (m : Replay) (t : State) (object : ℕ) → Live plan unit m →
    picked_index m.all ≡ None → executes_since t ≡ None → t.operation ≡ CleanUp object → is_over t.phase ≡ false →
    SeqReported plan unit m t (event.Cleanup unit ∷ [])
unfolding entry_reported unit_of entry_passes
cleanup_reported plan unit m t object live none since op over =
    let k : LineReported plan unit m (event.Cleanup unit) =
    line_reported_so plan unit m (event.Cleanup unit) live refl (λ e. cc (e)) (ap is_none none) in
    let core : SameCore m (begun m unit) = core_begun m unit in
    record {
      after = entry_done (begun m unit) unit CleanupEntry;
      is = k.is;
      kept = k.kept;
      holds = subst (λ (o : SeqOp). HoldsFor t (entry_done (begun m unit) unit CleanupEntry) o) (sym op) tt;
      since = (cleanup_core (begun m unit) unit).0 ∙ sym since;
      over = (cleanup_core (begun m unit) unit).1 ∙ (core.over ∙ (live.goes_on ∙ sym over));
    }

none_picked : (all : Releases) → all.releases ≡ [] → picked_index all ≡ None
unfolding picked_index candidates_from most_urgent
none_picked all e =
    ap (λ rs. option_map (λ (c : Candidate). c.index) (most_urgent (candidates_from all.handlers 0 rs))) e

pub skipped_reported : (plan : Plan) (unit : ℕ) (m : Replay) (t : State) (object : ℕ) → Live plan unit m →
    m.all.releases ≡ [] → executes_since t ≡ None → t.operation ≡ CleanUp object → is_over t.phase ≡ false →
    SeqReported plan unit m t (event.Exec unit ∷ event.Cleanup unit ∷ [])
unfolding entry_reported unit_of entry_passes
skipped_reported plan unit m t object live empty since op over =
    let k : LineReported plan unit m (event.Exec unit) =
    line_reported_so plan unit m (event.Exec unit) live refl (λ e. cc (e)) refl in
    let core : SameCore m (begun m unit) = core_begun m unit in
    let n : Replay = entry_done (begun m unit) unit ExecEntry in
    let goes : n.is_over ≡ false = (exec_core (begun m unit) unit).1 ∙ (core.over ∙ live.goes_on) in
    let rest : SeqReported plan unit n t (event.Cleanup unit ∷ []) =
    cleanup_reported plan unit n t object (live_kept plan unit m n live k.kept goes)
    (none_picked n.all
    (ap (λ (all : Releases). all.releases) ((exec_core (begun m unit) unit).2 ∙ core.all) ∙ empty)) since op over in
    record {
      after = rest.after;
      is = reported_then plan m n rest.after (event.Exec unit ∷ []) (event.Cleanup unit ∷ []) k.is rest.is;
      kept = kept_then unit m n rest.after k.kept rest.kept;
      holds = rest.holds;
      since = rest.since;
      over = rest.over;
    }
