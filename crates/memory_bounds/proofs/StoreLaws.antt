-- No release that the machine chooses finds the store too small, where it is as large as is needed.
use Rattle.std.specs.Prelude.{Option, Some, None, Result, Ok, Err, IfOk, Contains, slice_get, codes}
use Rattle.std.proofs.Common.{◌≡◌, ℕ, ◌≤◌, List, [], ◌∷◌, Bool, true, false, inl, inr, refl, sym, ◌∙◌, ap, subst}
use Rattle.scj_base.specs.declared.faults.RunFault.{RunFault}
use Rattle.scj_base.specs.declared.faults.RunFault.TheVariants.{StoreFull}
use Rattle.scj_base.specs.declared.positions.Position.{Position}
use Rattle.scj_tree.specs.Forest.{Forest}
use Rattle.scj_rules.specs.Bodies.{body_named}
use Rattle.scj_rules.specs.ScopeRules.{defined_by_chain}
use Rattle.scj_rules.specs.Views.{nowhere}
use Rattle.scj_rules.specs.Words.{◌>>=◌}
use Rattle.accepted_laws.specs.Programs.{IsAcceptedProgram}
use Rattle.accepted_laws.proofs.Tools.{some_inj}
use Rattle.accepted_laws.proofs.Typed.{behind_children}
use Rattle.scj_model.specs.declared.events.Event.TheVariants.{Fault}
use Rattle.scj_model.specs.declared.operations.Op.{Op}
use Rattle.scj_model.specs.Choice.{by_priority}
use Rattle.scj_model.specs.Code.{Code, code_of}
use Rattle.scj_model.specs.Plan.{Plan}
use Rattle.scj_model.specs.Reached.{Arrived, Reached}
use Rattle.scj_model.specs.Registry.{handler_row}
use Rattle.scj_model.specs.Run.{effect_at, frame_op, no_activity, position_of_op, ref_op, release_op_of, start_op, started_with}
use Rattle.scj_model.specs.Apply.{applied}
use Rattle.scj_model.specs.State.{Activity, Dropped, Ended, Frame, Release, ReleaseAt, ReleaseStatus, Started, State, TurnOf, Waits, activity_in, activity_of, is_exec}
use Rattle.scj_model.specs.Steps.{Step}
use Rattle.certain_faults.proofs.Jobs.{Jobs}
use Rattle.certain_faults.proofs.Runs.{All, all_explained, classes_ask_nothing}
use Rattle.memory_needs.specs.declared.answers.BoundRow.{BoundRow}
use Rattle.memory_needs.specs.Rows.{AllSuffice, AreRows, IsRoom, ReportsStore, handler_classes, store_needed}
use Rattle.memory_bounds.specs.Theorem.{NeedSuffices, NeverLacksStore}
use Rattle.memory_bounds.proofs.ChainSteps.{EffectLinks}
use Rattle.memory_bounds.proofs.Counted.{is_memory_fault}
use Rattle.memory_bounds.proofs.LinkedEffects.{IsLinked, links}
use Rattle.memory_bounds.proofs.StoreRooms.{entering_has_store, facts, i, k, listed, starting_has_store}
use Rattle.memory_bounds.proofs.Reported.{HasRoom, ReportsNone, applied_none, never_reported, started_none}

-- of the faults of memory, this one
is_store_full : RunFault → Bool
is_store_full StoreFull = true
is_store_full _ = false

only_store_full : (x : RunFault) → is_memory_fault x ≡ false → is_store_full x ≡ false
unfolding is_store_full
only_store_full StoreFull e = absurd (cc (e))
only_store_full _ e = refl

record NoneReported (o : Option Step) : Type 0 where
  is : (step : Step) → o ≡ Some step → ReportsNone is_store_full only_store_full step

none_of : {A : Type 0} (o : Option A) (f : A → Option Step) → ((a : A) → o ≡ Some a → NoneReported (f a)) →
    NoneReported (o >>= f)
none_of None f h = record { is = λ step e. absurd (cc (e)) }
none_of (Some a) f h = h a refl

module _ (forest : Forest) (a : IsAcceptedProgram forest) (rows : List BoundRow) (are : AreRows (code_of forest) rows)
    (all : AllSuffice rows) (rooms : ℕ → ℕ)
    (are_rooms : (class : ℕ) → Contains (handler_classes (code_of forest).program) class →
    IsRoom (code_of forest) class (rooms class)) where
  abbrev code : Code
  code = code_of forest

  module _ (plan : Plan) (suffices : store_needed (code_of forest).program rooms ≤ plan.store) (s : State)
      (reached : Reached (code_of forest) plan by_priority Arrived s) (exec : is_exec s.phase ≡ true) (index : ℕ)
      (turn : by_priority s ≡ Some (TurnOf index)) where
    abbrev r : Release
    r = (k forest a rows are all rooms are_rooms plan s reached exec index turn).release

    there : slice_get s.releases index ≡ Some r
    there = (k forest a rows are all rooms are_rooms plan s reached exec index turn).is_there

    held : Jobs (All (code_of forest)) s
    held =
        all_explained (code_of forest) (facts forest a rows are all rooms are_rooms plan s reached exec)
        (classes_ask_nothing forest a) plan (listed forest a rows are all rooms are_rooms plan s reached exec).0 Arrived s
        (listed forest a rows are all rooms are_rooms plan s reached exec).1

    -- ---- an operation

    module _ (b : Activity) (status : r.status ≡ Started b) where
      active : activity_of s (ReleaseAt index) ≡ Some b
      unfolding activity_of activity_in
      active = ap (λ (o : Option Release). o >>= (λ x. activity_in x.status)) there ∙ ap activity_in status

      linked : (f : Frame) (below : List Frame) → b.frames ≡ f ∷ below → (op : Op) (rest : List Op) →
          f.rest ≡ op ∷ rest → IsLinked (code_of forest) f (effect_at (code_of forest) plan.readings s f op rest)
      unfolding code_of
      linked f below frames op rest next =
          links (code_of forest) (facts forest a rows are all rooms are_rooms plan s reached exec).bodies
          (behind_children forest a.whole) plan.readings s (i forest a rows are all rooms are_rooms plan s reached exec) held
          index r b f below op rest (record { there = there; status = status; frames = frames; ops = next })

      room : (f : Frame) (below : List Frame) → b.frames ≡ f ∷ below → (op : Op) (rest : List Op) →
          f.rest ≡ op ∷ rest →
          HasRoom is_store_full only_store_full (code_of forest) s index b below (position_of_op (code_of forest) op)
          (effect_at (code_of forest) plan.readings s f op rest)
      unfolding is_store_full
      room f below frames op rest next =
          let l = linked f below frames op rest next in
          record {
            makes = λ h class values q. inl refl;
            opens = λ h g scope bytes q. inr
                (entering_has_store forest a rows are all rooms are_rooms plan s reached exec suffices index b f below active
                frames bytes g.body (subst (EffectLinks (code_of forest) f) q l.links).1);
            full = l.full;
          }

      module _ (step : Step) where
        by_ops : (f : Frame) (below : List Frame) → b.frames ≡ f ∷ below → (ops : List Op) → f.rest ≡ ops →
            (elim ops as (λ z. Option Step) [
              | [] ↦ None
              | op ∷ rest ↦ applied (code_of forest) s (ReleaseAt index) b below (position_of_op (code_of forest) op)
                  (effect_at (code_of forest) plan.readings s f op rest)
            ]) ≡ Some step → ReportsNone is_store_full only_store_full step
        by_ops f below frames [] next q = absurd (cc (q))
        by_ops f below frames (op ∷ rest) next q =
            applied_none is_store_full only_store_full (code_of forest) s index b below (position_of_op (code_of forest) op)
            (effect_at (code_of forest) plan.readings s f op rest) (room f below frames op rest next) step q

        by_frames : (fs : List Frame) → b.frames ≡ fs →
            (elim fs as (λ z. Option Step) [
              | [] ↦ None
              | f ∷ below ↦ elim f.rest [
                | [] ↦ None
                | op ∷ rest ↦ applied (code_of forest) s (ReleaseAt index) b below (position_of_op (code_of forest) op)
                    (effect_at (code_of forest) plan.readings s f op rest)
              ]
            ]) ≡ Some step → ReportsNone is_store_full only_store_full step
        by_frames [] frames q = absurd (cc (q))
        by_frames (f ∷ below) frames q = by_ops f below frames f.rest refl q

        operated_reports : frame_op (code_of forest) plan.readings s (ReleaseAt index) b ≡ Some step →
            ReportsNone is_store_full only_store_full step
        unfolding frame_op
        operated_reports e = by_frames b.frames refl e

    -- ---- a start

    by_status : (status : ReleaseStatus) → r.status ≡ status → NoneReported (elim status as (λ z. Option Step) [
      | Waits ↦ start_op (code_of forest) s index r
      | Started activity ↦ frame_op (code_of forest) plan.readings s (ReleaseAt index) activity
      | Ended ↦ None
      | Dropped ↦ None
    ])
    unfolding start_op
    by_status Waits e =
        none_of (handler_row s.registry r.handler) _ (λ x is_row.
        none_of (defined_by_chain (code_of forest).program x.class) _ (λ scope is_scope.
        none_of (body_named (code_of forest).program x.class (codes "handleAsyncEvent")) _ (λ body is_body. record {
          is = λ step reported.
              subst (ReportsNone is_store_full only_store_full)
              (some_inj (started_with (code_of forest) s index x scope body) step reported)
              (started_none is_store_full only_store_full (code_of forest) s index no_activity [] nowhere x scope body
              (inr (starting_has_store forest a rows are all rooms are_rooms plan s reached exec index turn x e is_row
              suffices)));
        })))
    by_status (Started b) e = record { is = λ step reported. operated_reports b e step reported }
    by_status Ended e = record { is = λ step reported. absurd (cc (reported)) }
    by_status Dropped e = record { is = λ step reported. absurd (cc (reported)) }

    reports_none : (step : Step) → ref_op (code_of forest) plan.readings s (ReleaseAt index) ≡ Some step →
        ReportsNone is_store_full only_store_full step
    unfolding ref_op release_op_of
    reports_none step e =
        (by_status r.status refl).is step
        (sym (ap (λ (o : Option Release). o >>= release_op_of (code_of forest) plan.readings s index) there) ∙ e)

    pub never_full : (step : Step) → ref_op (code_of forest) plan.readings s (ReleaseAt index) ≡ Some step →
        (unit : ℕ) (pos : Position) → Contains step.events (Fault unit StoreFull pos) → ⊥
    unfolding is_store_full
    never_full step e = never_reported is_store_full only_store_full step (reports_none step e) StoreFull refl

-- ---- what is told is enough

pub never_lacks : (forest : Forest) → IsAcceptedProgram forest → (rows : List BoundRow) → AreRows (code_of forest) rows →
    (bytes : ℕ) → ReportsStore (code_of forest) rows (Some bytes) → NeverLacksStore (code_of forest) bytes
never_lacks forest a rows are bytes reported plan s index step large reached exec turn e =
    never_full forest a rows are reported.0 reported.1.rooms reported.1.are_rooms plan
    (subst (λ n. n ≤ plan.store) reported.1.is large) s reached exec index turn step e

pub need_suffices : (forest : Forest) → IsAcceptedProgram forest → (rows : List BoundRow) →
    AreRows (code_of forest) rows → (need : Option ℕ) → ReportsStore (code_of forest) rows need →
    NeedSuffices (code_of forest) need
need_suffices forest a rows are need reported bytes is =
    never_lacks forest a rows are bytes (subst (ReportsStore (code_of forest) rows) is reported)

-- of rows and a need that are found, if any are
pub need_found : {A E : Type 0} (forest : Forest) → IsAcceptedProgram forest → (rows : A → List BoundRow)
    (need : A → Option ℕ) (o : Result A E) → IfOk o (λ found. AreRows (code_of forest) (rows found)) →
    IfOk o (λ found. ReportsStore (code_of forest) (rows found) (need found)) →
    IfOk o (λ found. NeedSuffices (code_of forest) (need found))
need_found forest a rows need (Ok found) are reported = need_suffices forest a (rows found) are (need found) reported
need_found forest a rows need (Err e) are reported = tt
