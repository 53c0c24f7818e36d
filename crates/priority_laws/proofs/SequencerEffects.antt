-- Each effect of an operation of a sequencer's frame outside execution.
use Rattle.std.proofs.Common.{◌≡◌, ℕ, false, not, List, [], ◌∷◌, ◌++◌, length, Option, Some, None, refl, sym, ap, ◌∙◌, subst}
use Rattle.std.specs.Prelude.{is_some, nat_lt, slice_set, unwrap_or, option_to_list}
use Rattle.scj_base.specs.declared.positions.Position.{Position}
use Rattle.scj_base.specs.declared.faults.RunFault.{RunFault}
use Rattle.scj_base.specs.declared.values.Value.{Value}
use Rattle.scj_model.specs.Code.{Code}
use Rattle.scj_model.specs.State.{Object, Frame, Activity, TheSequencer, State, with_activity, object_at, changed, is_exec, is_init}
use Rattle.scj_model.specs.Registry.{handler_number, most_handlers}
use Rattle.scj_model.specs.Memory.{closed, has_room, has_store_for, area_with_scope, with_area, with_object, with_slot}
use Rattle.scj_model.specs.Steps.{Step, job_ended, fault_in, allocating, opening, silently}
use Rattle.scj_model.specs.Effects.{Effect, Goes, Prints, Makes, Stores, StoresStatic, SetsHidden, SetsCeiling, Calls, Opens, Leaves, AsksRegistration, AsksRelease, AsksTermination, Faults, Stuck}
use Rattle.scj_model.specs.Apply.{is_full, ceiling_entered, called, opened_in, returned, without, frame_left, registered, with_frame, with_first, with_ceiling, applied}
use Rattle.scj_model.proofs.Reaching.{Gives, gives_some}
use Rattle.priority_laws.specs.Started.{started_at}
use Rattle.priority_laws.specs.Nesting.{opened_by, NestsForSequencer}
use Rattle.priority_laws.proofs.AreaMoves.{AreasMove, areas_stay, area_added}
use Rattle.priority_laws.proofs.StepCases.{step_if, step_option, gives_nothing, gives_mapped}
use Rattle.priority_laws.proofs.Still.{still_released, still_asked}
use Rattle.priority_laws.proofs.ReleaseMoves.{StandsAs, opened_same, opened_returned}
use Rattle.priority_laws.proofs.Shapes.{IsNew, Shaped}
use Rattle.priority_laws.proofs.SequencerMoves.{SequencerMoves, sequencer_still, goes_with, comes_to_end, rest_left, front_closed}

-- ---- what closing an area leaves alone

pub closed_releases : (s : State) (a : Option ℕ) → (closed s a).releases ≡ s.releases
unfolding closed
closed_releases s None = refl
closed_releases s (Some a) = refl

closed_phase : (s : State) (a : Option ℕ) → (closed s a).phase ≡ s.phase
unfolding closed
closed_phase s None = refl
closed_phase s (Some a) = refl

pub closed_outcome : (s : State) (a : Option ℕ) → (closed s a).outcome ≡ s.outcome
unfolding closed
closed_outcome s None = refl
closed_outcome s (Some a) = refl

returned_none : (value : Option Value) → returned value [] ≡ []
unfolding returned
returned_none None = refl
returned_none (Some value) = refl

module _ (code : Code) (s : State) (none : (q : ℕ) → started_at s.releases q ≡ None) (quiet : is_exec s.phase ≡ false)
    (idle : s.outcome ≡ None) (n : NestsForSequencer s) where
  -- a fault halts the run
  pub halts : (a : Activity) (position : Position) (fault : RunFault) →
      SequencerMoves s (fault_in s TheSequencer a position fault).state
  unfolding fault_in is_exec
  halts a position fault =
      record {
        none = none;
        inside = λ e. absurd (cc (e));
        done = λ v e. absurd (cc (e));
        areas = areas_stay s.areas s.activity.areas;
        base = n.base;
        is_list = n.is_list;
      }

  -- ---- the frame that acts

  module _ (f : Frame) (below : List Frame) (frames : s.activity.frames ≡ f ∷ below) where
    stands_first : (h : Frame) → StandsAs f h → opened_by s.activity.frames ≡ opened_by (h ∷ below)
    stands_first h k = ap opened_by frames ∙ sym (opened_same f h below k)

    stays : (u : State) → u.releases ≡ s.releases → u.phase ≡ s.phase → u.outcome ≡ s.outcome → u.areas ≡ s.areas →
        (h : Frame) → StandsAs f h → SequencerMoves s (with_frame u TheSequencer s.activity h below)
    stays u releases phase outcome areas h k =
        goes_with s none quiet idle u releases phase outcome (record s.activity { frames = h ∷ below })
        (subst (λ xs. AreasMove s.areas xs s.activity.areas s.activity.areas) (sym areas)
        (areas_stay s.areas s.activity.areas))
        n.base (n.is_list ∙ ap (λ xs. xs ++ n.base) (stands_first h k))

    calls : (h g : Frame) (priority : ℕ) → StandsAs f h → g.opened ≡ None →
        SequencerMoves s
        (with_activity s TheSequencer (record s.activity { frames = g ∷ h ∷ below; priority = priority }))
    calls h g priority k opened =
        goes_with s none quiet idle s refl refl refl (record s.activity { frames = g ∷ h ∷ below; priority = priority })
        (areas_stay s.areas s.activity.areas) n.base
        (n.is_list
        ∙ ap (λ xs. xs ++ n.base)
        (stands_first h k ∙ sym (ap (λ (o : Option ℕ). option_to_list o ++ opened_by (h ∷ below)) opened)))

    called_moves : (h g : Frame) → StandsAs f h → IsNew g → (position : Position) →
        SequencerMoves s (called code s TheSequencer s.activity (h ∷ below) position g).state
    unfolding called
    called_moves h g k new position =
        step_if (SequencerMoves s) (is_full (h ∷ below)) _ _ (λ e. halts s.activity position _)
        (λ e. step_option (SequencerMoves s) (ceiling_entered code s g) _ _
        (λ e. calls h g s.activity.priority k new.opened)
        (λ ceiling e. step_if (SequencerMoves s) (nat_lt ceiling s.activity.priority) _ _
        (λ e. halts s.activity position _)
        (λ e. calls h (record g { saved = Some s.activity.priority }) ceiling k new.opened)))

    opened_moves : (h g : Frame) (scope bytes : ℕ) → StandsAs f h → (position : Position) →
        SequencerMoves s (opened_in s TheSequencer s.activity (h ∷ below) position g scope bytes).state
    unfolding opened_in opening
    opened_moves h g scope bytes k position =
        step_if (SequencerMoves s) (is_some (area_with_scope s scope s.activity.areas)) _ _
        (λ e. halts s.activity position _)
        (λ e. step_if (SequencerMoves s) (is_full (h ∷ below)) _ _ (λ e. halts s.activity position _)
        (λ e. step_if (SequencerMoves s) (has_store_for s bytes) _ _
        (λ e. goes_with s none quiet idle (with_area s scope (Some g.area) bytes) refl refl refl
        (record s.activity {
          frames = record g { area = length s.areas; opened = Some (length s.areas) } ∷ h
              ∷ below;
          areas = length s.areas ∷ s.activity.areas;
        })
        (area_added s.areas _ s.activity.areas) n.base
        (ap (λ xs. length s.areas ∷ xs) (n.is_list ∙ ap (λ xs. xs ++ n.base) (stands_first h k))))
        (λ e. halts s.activity position _)))

    made_moves : (h : Frame) (class : ℕ) (slots : List Value) (position : Position) (next : State → ℕ → Step)
        → ((u : State) (q : ℕ) → u.releases ≡ s.releases → u.phase ≡ s.phase → u.outcome ≡ s.outcome →
        u.areas ≡ s.areas → SequencerMoves s (next u q).state)
        → SequencerMoves s (allocating s TheSequencer s.activity position class h.area slots next).state
    unfolding allocating
    made_moves h class slots position next more =
        step_if (SequencerMoves s) (has_room s h.area (length slots)) _ _
        (λ e. more (with_object s class h.area slots) (length s.objects) refl refl refl refl)
        (λ e. halts s.activity position _)

    left_moves : (h : Frame) (value : Option Value) → StandsAs f h →
        SequencerMoves s (frame_left s TheSequencer s.activity h below value).state
    unfolding frame_left job_ended
    left_moves h value k = go below refl
      where
        after : Activity
        after =
            record s.activity {
              frames = returned value below;
              areas = without h.opened s.activity.areas;
              priority = unwrap_or h.saved
                  s.activity.priority;
            }

        go : (fs : List Frame) → below ≡ fs →
            SequencerMoves s
            (elim fs as (λ z. Step) [
              | [] ↦ job_ended (closed s h.opened) TheSequencer after value
              | g
                  ∷ gs ↦ silently (with_activity (closed s h.opened) TheSequencer after)
            ]).state
        go [] e =
            comes_to_end s none quiet idle (closed s h.opened) (closed_releases s h.opened)
            (closed_phase s h.opened) after _
            (ap (returned value) e ∙ returned_none value) (front_closed s n h below (stands_first h k))
        go (g ∷ gs) e =
            goes_with s none quiet idle (closed s h.opened) (closed_releases s h.opened) (closed_phase s h.opened)
            (closed_outcome s h.opened) after
            (front_closed s n h below (stands_first h k)) n.base
            (rest_left s n h below (stands_first h k) ∙ ap (λ xs. xs ++ n.base) (sym (opened_returned value below)))

    registered_moves : (h : Frame) (q : ℕ) (o : Object) → StandsAs f h → (position : Position) →
        SequencerMoves s
        (registered code s TheSequencer s.activity position q o (with_frame s TheSequencer s.activity h below)).state
    unfolding registered
    registered_moves h q o k position =
        let m : SequencerMoves s (with_frame s TheSequencer s.activity h below) = stays s refl refl refl refl h k in
        step_if (SequencerMoves s) (not (is_init s.phase)) _ _ (λ e. halts s.activity position _)
        (λ e. step_if (SequencerMoves s) (is_some (handler_number s.registry q)) _ _ (λ e. m)
        (λ e. step_if (SequencerMoves s) (not (nat_lt (length s.registry) most_handlers)) _ _
        (λ e. halts s.activity position _)
        (λ e. record
        { none = m.none; inside = m.inside; done = m.done; areas = m.areas; base = m.base; is_list = m.is_list })))

    pub applied_moves : (position : Position) (e : Effect) → Shaped f e →
        Gives (SequencerMoves s) (applied code s TheSequencer s.activity below position e)
    unfolding applied
    applied_moves position (Goes h) x = gives_some _ _ (stays s refl refl refl refl h x.is)
    applied_moves position (Prints h label value) x = gives_some _ _ (stays s refl refl refl refl h x.is)
    applied_moves position (Makes h class slots) x =
        gives_some _ _
        (made_moves h class slots position _
        (λ u q releases phase outcome areas. stays u releases phase outcome areas _
        (record { body = x.is.body; this = x.is.this; saved = x.is.saved; opened = x.is.opened })))
    applied_moves position (Stores h q slot value) x =
        gives_some _ _ (stays (with_slot s q slot value) refl refl refl refl h x.is)
    applied_moves position (StoresStatic h k value) x =
        gives_some _ _ (stays (record s { statics = slice_set s.statics k value }) refl refl refl refl h x.is)
    applied_moves position (SetsHidden h q values) x =
        gives_some _ _
        (stays (record s { objects = changed (with_first values) q s.objects }) refl refl refl refl h x.is)
    applied_moves position (SetsCeiling h q ceiling) x =
        gives_some _ _
        (stays (record s { objects = changed (with_ceiling ceiling) q s.objects }) refl refl refl refl h x.is)
    applied_moves position (Calls h g) x = gives_some _ _ (called_moves h g x.is.0 x.is.1 position)
    applied_moves position (Opens h g scope bytes) x = gives_some _ _ (opened_moves h g scope bytes x.is.0 position)
    applied_moves position (Leaves h value) x = gives_some _ _ (left_moves h value x.is)
    applied_moves position (AsksRegistration h q) x =
        gives_mapped _ (object_at s q) _ (λ o e. registered_moves h q o x.is position)
    applied_moves position (AsksRelease h q) x =
        gives_some _ _
        (sequencer_still s (with_frame s TheSequencer s.activity h below) _ (stays s refl refl refl refl h x.is)
        (still_released (with_frame s TheSequencer s.activity h below) q))
    applied_moves position (AsksTermination h q) x =
        gives_some _ _
        (sequencer_still s (with_frame s TheSequencer s.activity h below) _ (stays s refl refl refl refl h x.is)
        (still_asked (with_frame s TheSequencer s.activity h below) q))
    applied_moves position (Faults fault) x = gives_some _ _ (halts s.activity position fault)
    applied_moves position Stuck x = gives_nothing _
