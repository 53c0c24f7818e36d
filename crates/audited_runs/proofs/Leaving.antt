-- Nobody is left where execution ends; and which operation of the sequencer execution is.
use Rattle.std.proofs.Common.{◌≡◌, Bool, true, false, not, ◌&&◌, None, refl, ap, ◌∙◌}
use Rattle.scj_model.specs.declared.operations.SeqOp.{SeqOp}
use Rattle.scj_model.specs.declared.operations.SeqOp.TheVariants.{OpenImmortal, AllocSafelet, ConstructSafelet, InitializeApplication, GetSequencer, GetNextMission, OpenMission, Initialize, CleanUp, Execute, Finished}
use Rattle.scj_model.specs.Apply.{takes_releases}
use Rattle.scj_model.specs.Choice.{candidate}
use Rattle.scj_model.specs.Sequencer.{has_started}
use Rattle.scj_model.specs.State.{Release, State, is_exec, is_started, is_waiting}
use Rattle.mission_sound.specs.Invariant.{has_waiting, phase_of}
use Rattle.priority_laws.proofs.Urgency.{IsChosen, is_chosen}
use Rattle.trace_audit.specs.Replay.{Replay, picked_index}
use Rattle.audited_runs.proofs.Executing.{Executes}
use Rattle.audited_runs.proofs.Choosing.{Picks, nobody, picks, somebody}
use Rattle.audited_runs.proofs.Phasing.{no_candidate, none_at}

-- ---- nobody is left where execution ends

pub none_left : (t : State) (m : Replay) → Executes t m → has_waiting t ≡ false → has_started t ≡ false →
    picked_index m.all ≡ None
none_left t m h waits started = go (picks t m h.stands)
  where
    go : Picks t m → picked_index m.all ≡ None
    go (nobody none place_none pick) = place_none
    go (somebody q p x at is there seen pick) =
        let k : IsChosen t p = is_chosen t p is in
        let none : candidate t p k.release ≡ None =
        no_candidate t p k.release
        (none_at (λ (r : Release). is_waiting r.status) t.releases p k.release waits k.is_there)
        (none_at (λ (r : Release). is_started r.status) t.releases p k.release started k.is_there) in
        absurd (cc (none, k.is_candidate))

pub exec_op : (op : SeqOp) → is_exec (phase_of op) ≡ true → op ≡ Execute
unfolding phase_of is_exec
exec_op OpenImmortal e = absurd (cc (e))
exec_op AllocSafelet e = absurd (cc (e))
exec_op (ConstructSafelet object) e = absurd (cc (e))
exec_op (InitializeApplication object) e = absurd (cc (e))
exec_op (GetSequencer object) e = absurd (cc (e))
exec_op (GetNextMission object) e = absurd (cc (e))
exec_op (OpenMission object) e = absurd (cc (e))
exec_op (Initialize object) e = absurd (cc (e))
exec_op (CleanUp object) e = absurd (cc (e))
exec_op Execute e = refl
exec_op Finished e = absurd (cc (e))

pub not_true : (b : Bool) → not b ≡ true → b ≡ false
not_true true e = absurd (cc (e))
not_true false e = refl

pub no_more : (t : State) → t.is_end_asked ≡ true → takes_releases t ≡ false
no_more t e = ap (λ b. is_exec t.phase && not b) e ∙ never (is_exec t.phase)
  where
    never : (b : Bool) → (b && false) ≡ false
    never true = refl
    never false = refl
