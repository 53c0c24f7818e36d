-- In each state that a run comes to, whichever release acts in each unit, all releases of classes with Yes are bounded,
-- and so none of them finds its memory full.
use Rattle.std.specs.Prelude.{Option, Some, None, codes, Contains}
use Rattle.std.proofs.Common.{◌≡◌, ℕ, List, [], ◌∷◌, Bool, true, false, inl, inr, refl, sym, ◌∙◌, ap, subst}
use Rattle.scj_base.specs.declared.faults.RunFault.{RunFault}
use Rattle.scj_base.specs.declared.faults.RunFault.TheVariants.{MemoryFull}
use Rattle.scj_base.specs.declared.positions.Position.{Position}
use Rattle.scj_rules.specs.Bodies.{body_named}
use Rattle.scj_rules.specs.ScopeRules.{defined_by_chain}
use Rattle.scj_rules.specs.Words.{◌>>=◌}
use Rattle.scj_tree.specs.Forest.{ChildrenFirst}
use Rattle.accepted_laws.proofs.Tools.{some_inj}
use Rattle.scj_model.specs.declared.events.Event.TheVariants.{Fault}
use Rattle.scj_model.specs.declared.handlers.HandlerRow.{HandlerRow}
use Rattle.scj_model.specs.declared.operations.Op.{Op}
use Rattle.scj_model.specs.Code.{Code}
use Rattle.scj_model.specs.Plan.{Plan}
use Rattle.scj_model.specs.State.{Frame, Activity, Waits, Started, Ended, Dropped, Release, ReleaseStatus, ReleaseAt, State, TurnOf, activity_in, activity_of, is_exec}
use Rattle.scj_model.specs.Registry.{handler_row}
use Rattle.scj_model.specs.Steps.{Step}
use Rattle.scj_rules.specs.Views.{nowhere}
use Rattle.scj_model.specs.Apply.{applied}
use Rattle.scj_model.specs.Choice.{by_list}
use Rattle.scj_model.specs.Run.{turn_taken, with_turn, ref_op, release_op_of, start_op, started_with, no_activity, frame_op, effect_at, position_of_op}
use Rattle.scj_model.specs.Reached.{Moment, Arrived, Reached}
use Rattle.mission_sound.proofs.Phases.{time_passes}
use Rattle.priority_laws.specs.Started.{started_as, started_at, started_in}
use Rattle.priority_laws.proofs.Still.{still_turn}
use Rattle.scope_sound.specs.Sound.{HasFacts, SoundAt}
use Rattle.scope_sound.proofs.InAnyOrder.{reached_is_sound}
use Rattle.scope_sound.proofs.Operated.{operated}
use Rattle.memory_needs.specs.Need.{Table}
use Rattle.memory_bounds.specs.Weights.{IsBound}
use Rattle.memory_bounds.specs.Bounded.{IsBounded}
use Rattle.memory_bounds.specs.Theorem.{Storage, IsYes, IsReleaseOf, AreBounded, RowsReport}
use Rattle.memory_bounds.proofs.Counted.{is_memory_fault}
use Rattle.memory_bounds.proofs.Reckoned.{AreCounted, are_reckoned}
use Rattle.memory_bounds.proofs.ReleaseKeeps.{AreReckoned, release_keeps}
use Rattle.memory_bounds.proofs.Resting.{bounded_still}
use Rattle.memory_bounds.proofs.StartedRuns.{all_states}
use Rattle.memory_bounds.proofs.Steps.{finds}
use Rattle.memory_bounds.proofs.Reported.{ReportsNone, HasRoom, applied_none, started_none, never_reported}
use Rattle.memory_bounds.proofs.Turns.{small_next}

-- of the faults of memory, this one
pub is_memory_full : RunFault → Bool
is_memory_full MemoryFull = true
is_memory_full _ = false

pub only_memory_full : (x : RunFault) → is_memory_fault x ≡ false → is_memory_full x ≡ false
unfolding is_memory_full
only_memory_full MemoryFull e = absurd (cc (e))
only_memory_full _ e = refl

module _ (code : Code) (facts : HasFacts code) (storage : Storage) (table : Table) (bound : IsBound code table)
    (first : ChildrenFirst 0 code.program.nodes) (plan : Plan) (choices : List ℕ)
    (counted : (s : State) → Reached code plan (by_list choices) Arrived s → AreCounted code table plan.readings s)
    (reports : (s : State) → Reached code plan (by_list choices) Arrived s → RowsReport storage s) where
  sound : (moment : Moment) (s : State) → Reached code plan (by_list choices) moment s → SoundAt code moment s
  sound moment s h =
      reached_is_sound code facts (operated code facts.bodies facts.sequencer) plan choices moment s h

  known : (s : State) → Reached code plan (by_list choices) Arrived s → is_exec s.phase ≡ true → (index : ℕ) →
      AreReckoned code storage table plan.readings (with_turn s (TurnOf index))
  known s h exec index =
      are_reckoned code storage table facts.bodies plan.readings (with_turn s (TurnOf index))
      (time_passes code s s.unit (Some (TurnOf index)) (sound Arrived s h).0.settled.invariant) exec
      (record {
        is = λ q r a f below op rest next small.
            (counted s h).is q r a f below op rest
            (record { there = next.there; status = next.status; frames = next.frames; ops = next.ops }) small;
      })
      (reports s h)

  pub all_bounded : (moment : Moment) (s : State) → Reached code plan (by_list choices) moment s →
      AreBounded code storage table s
  unfolding turn_taken
  all_bounded moment s h =
      all_states code facts plan choices (AreBounded code storage table)
      (λ t none. record { is = λ q w row there row_is reported. absurd (none q w there) })
      (bounded_still code storage table)
      (λ s h b exec index r there step e.
      release_keeps code storage table bound first plan.readings (with_turn s (TurnOf index))
      (time_passes code s s.unit (Some (TurnOf index)) (sound Arrived s h).0.settled.invariant)
      (bounded_still code storage table s (with_turn s (TurnOf index)) (still_turn s (TurnOf index)) b)
      (known s h exec index) exec index r there step e) moment s h

  -- ---- no full memory

  module _ (s : State) (h : Reached code plan (by_list choices) Arrived s) (index : ℕ) (row : HandlerRow)
      (of : IsReleaseOf s index row) (reported : IsYes code storage table row.class) where
    abbrev r : Release
    r = of.release

    module _ (a : Activity) (status : r.status ≡ Started a) where
      is : activity_of s (ReleaseAt index) ≡ Some a
      unfolding activity_of activity_in
      is = ap (λ (o : Option Release). o >>= (λ x. activity_in x.status)) of.is ∙ ap activity_in status

      began : started_at s.releases index ≡ Some (started_as of.release.handler a)
      unfolding started_at started_in activity_in
      began =
          ap (λ (o : Option Release). o >>= started_in) of.is
          ∙ ap (λ (x : ReleaseStatus). started_in (record r { status = x })) status

      mine : IsBounded code table s a.frames
      mine = (all_bounded Arrived s h).is index (started_as of.release.handler a) row began of.is_row reported

      room : (f : Frame) (below : List Frame) → a.frames ≡ f ∷ below → (op : Op) (rest : List Op) →
          f.rest ≡ op ∷ rest →
          HasRoom is_memory_full only_memory_full code s index a below (position_of_op code op) (effect_at code plan.readings s f op rest)
      unfolding is_memory_full
      room f below frames op rest next =
          let here : IsBounded code table s (f ∷ below) = subst (IsBounded code table s) frames mine in
          let k = (counted s h).is index of.release a f below op rest
          (record { there = of.is; status = status; frames = frames; ops = next })
          (small_next code table s f below op rest next here) in
          record {
            makes = λ g class values q. inr
                (finds code table bound first plan.readings s index a is f below here op rest next k.is g class values q);
            opens = λ h g scope bytes q. inl refl;
            full = k.full;
          }

      module _ (step : Step) where
        by_ops : (f : Frame) (below : List Frame) → a.frames ≡ f ∷ below → (ops : List Op) → f.rest ≡ ops →
            (elim ops as (λ z. Option Step) [
              | [] ↦ None
              | op ∷ rest ↦ applied code s (ReleaseAt index) a below (position_of_op code op)
                  (effect_at code plan.readings s f op rest)
            ]) ≡ Some step → ReportsNone is_memory_full only_memory_full step
        by_ops f below frames [] next q = absurd (cc (q))
        by_ops f below frames (op ∷ rest) next q =
            applied_none is_memory_full only_memory_full code s index a below (position_of_op code op) (effect_at code plan.readings s f op rest)
            (room f below frames op rest next) step q

        by_frames : (fs : List Frame) → a.frames ≡ fs →
            (elim fs as (λ z. Option Step) [
              | [] ↦ None
              | f ∷ below ↦ elim f.rest [
                | [] ↦ None
                | op ∷ rest ↦ applied code s (ReleaseAt index) a below (position_of_op code op)
                    (effect_at code plan.readings s f op rest)
              ]
            ]) ≡ Some step → ReportsNone is_memory_full only_memory_full step
        by_frames [] frames q = absurd (cc (q))
        by_frames (f ∷ below) frames q = by_ops f below frames f.rest refl q

        operated_reports : frame_op code plan.readings s (ReleaseAt index) a ≡ Some step → ReportsNone is_memory_full only_memory_full step
        unfolding frame_op
        operated_reports e = by_frames a.frames refl e

    record NoneReported (o : Option Step) : Type 0 where
      is : (step : Step) → o ≡ Some step → ReportsNone is_memory_full only_memory_full step

    none_of : {A : Type 0} (o : Option A) (f : A → Option Step) → ((a : A) → NoneReported (f a)) → NoneReported (o >>= f)
    none_of None f h = record { is = λ step e. absurd (cc (e)) }
    none_of (Some a) f h = h a

    by_status : (status : ReleaseStatus) → r.status ≡ status → NoneReported (elim status as (λ z. Option Step) [
      | Waits ↦ start_op code s index r
      | Started activity ↦ frame_op code plan.readings s (ReleaseAt index) activity
      | Ended ↦ None
      | Dropped ↦ None
    ])
    unfolding start_op is_memory_full
    by_status Waits e =
        none_of (handler_row s.registry of.release.handler) _ (λ x.
        none_of (defined_by_chain code.program x.class) _ (λ scope.
        none_of (body_named code.program x.class (codes "handleAsyncEvent")) _ (λ body. record {
          is = λ step k.
              subst (ReportsNone is_memory_full only_memory_full) (some_inj (started_with code s index x scope body) step k)
              (started_none is_memory_full only_memory_full code s index no_activity [] nowhere x scope body (inl refl));
        })))
    by_status (Started a) e = record { is = λ step k. operated_reports a e step k }
    by_status Ended e = record { is = λ step k. absurd (cc (k)) }
    by_status Dropped e = record { is = λ step k. absurd (cc (k)) }

    pub reports_none : (step : Step) → ref_op code plan.readings s (ReleaseAt index) ≡ Some step → ReportsNone is_memory_full only_memory_full step
    unfolding ref_op release_op_of
    reports_none step e =
        (by_status of.release.status refl).is step
        (sym (ap (λ (o : Option Release). o >>= release_op_of code plan.readings s index) of.is) ∙ e)

    pub never_full : (step : Step) → ref_op code plan.readings s (ReleaseAt index) ≡ Some step →
        (unit : ℕ) (pos : Position) → Contains step.events (Fault unit MemoryFull pos) → ⊥
    unfolding is_memory_full
    never_full step e = never_reported is_memory_full only_memory_full step (reports_none step e) MemoryFull refl
