-- In each state that a run of an accepted program comes to, each frame of each job is small.
use Rattle.std.specs.Prelude.{Option, Some, None, is_some, slice_get}
use Rattle.std.proofs.Common.{◌≡◌, ◌≤◌, ℕ, zero, suc, List, [], ◌∷◌, length, refl, ◌∙◌, subst, arith}
use Rattle.scj_base.specs.declared.values.Value.{Value}
use Rattle.scj_base.specs.declared.values.Value.TheVariants.{Null}
use Rattle.scj_tree.specs.Forest.{Forest}
use Rattle.scj_rules.specs.declared.views.Body.{Body}
use Rattle.accepted_laws.specs.Kinds.{Kind}
use Rattle.accepted_laws.specs.Programs.{IsAcceptedProgram}
use Rattle.accepted_laws.proofs.Tools.{some_inj}
use Rattle.scj_model.specs.Code.{Code, code_of}
use Rattle.scj_model.specs.Plan.{Plan}
use Rattle.scj_model.specs.State.{Frame, State}
use Rattle.scj_model.specs.Choice.{by_list, by_priority}
use Rattle.scj_model.specs.Reached.{Moment, Reached}
use Rattle.scj_model.proofs.Following.{by_some_list, fair_listed, priority_is_fair}
use Rattle.scope_flow.specs.Signatures.{Signature, Runs, variables_in}
use Rattle.frame_sound.specs.Places.{World, Held, world_of}
use Rattle.frame_sound.specs.Fine.{FramesFine, Under as FineUnder}
use Rattle.mission_sound.specs.Bases.{areas_of}
use Rattle.scope_sound.specs.Sound.{HasFacts}
use Rattle.scope_sound.proofs.Safe.{has_facts}
use Rattle.certain_faults.proofs.Frames.{with_given}
use Rattle.certain_faults.proofs.GivenAsBound.{GivesSo}
use Rattle.frame_sizes.specs.Sizes.{IsSmall, FramesAreSmall}
use Rattle.frame_sizes.proofs.Counts.{fits_room}
use Rattle.frame_sizes.proofs.Frames.{Counted, CountedWaiting}
use Rattle.frame_sizes.proofs.Entries.{bodies_fit}
use Rattle.frame_sizes.proofs.Kept.{Under}
use Rattle.frame_sizes.proofs.Limits.{limits_of, few_variables}
use Rattle.frame_sizes.proofs.Frames.{BodiesFit}
use Rattle.frame_sizes.proofs.Runs.{All, all_explained, invariant_of}

module _ (code : Code) (variables : (body : Body) (c : ℕ) (sig : Signature) → Runs code.program body c sig →
    length (variables_in code.program body) ≤ 32) (w : World) where
  few_locals : (f : Frame) (n : ℕ) → length f.locals ≡ n → n ≤ 32 → length f.locals ≤ 32
  few_locals f n e l = omega (arith, e, l)

  counted_small : (f : Frame) → length f.locals ≤ 32 → Counted code f → IsSmall f
  counted_small f l x =
      (let few = x.few in let room = fits_room code f.rest x.depth x.fits in
      record { operands = omega (arith, few, room); locals = l })

  -- a value as the body above gives one has room too
  waiting_small : (f : Frame) (body : Body) (c : ℕ) (sig : Signature) → Runs code.program body c sig →
      length f.locals ≤ 32 → CountedWaiting code (GivesSo code) f body → IsSmall f
  waiting_small f body c sig runs l x =
      (let few = x.returns (given sig.gives) (λ b g. as_given sig.gives ∙ g c sig runs) in
      let more = longer (given sig.gives) f.operands in
      let room = fits_room code f.rest x.depth x.fits in
      record { operands = omega (arith, few, more, room); locals = l })
    where
      given : Option Kind → Option Value
      given None = None
      given (Some k) = Some Null

      as_given : (o : Option Kind) → is_some (given o) ≡ is_some o
      as_given None = refl
      as_given (Some k) = refl

      longer : (v : Option Value) (operands : List Value) → length operands ≤ length (with_given v operands)
      longer None operands = omega arith
      longer (Some v) operands = omega arith

  under_small : (base : List ℕ) (frames : List Frame) (given : Option Held) → FineUnder code w base frames given →
      (body : Body) (c : ℕ) (sig : Signature) → Runs code.program body c sig →
      Under code (GivesSo code) body frames → (index : ℕ) (f : Frame) → slice_get frames index ≡ Some f → IsSmall f
  under_small base [] given fine body c sig runs u index f e = absurd (cc (e))
  under_small base (g ∷ gs) given fine body c sig runs u zero f e =
      let own = fine.0.ready.runs in
      subst IsSmall (some_inj g f e)
      (waiting_small g body c sig runs
      (few_locals g _ fine.0.ready.locals.long (variables g.body fine.0.class fine.0.sig own))
      (u.0.is fine.0.class fine.0.sig own))
  under_small base (g ∷ gs) given fine body c sig runs u (suc index) f e =
      under_small base gs _ fine.2 g.body fine.0.class fine.0.sig fine.0.ready.runs u.1 index f e

  pub frames_small : (base : List ℕ) (frames : List Frame) → FramesFine code w base frames → All code frames →
      (index : ℕ) (f : Frame) → slice_get frames index ≡ Some f → IsSmall f
  frames_small base [] fine x index f e = absurd (cc (e))
  frames_small base (g ∷ gs) fine x zero f e =
      let own = fine.0.ready.runs in
      subst IsSmall (some_inj g f e)
      (counted_small g (few_locals g _ fine.0.ready.locals.long (variables g.body fine.0.class fine.0.sig own))
      (x.0.is fine.0.class fine.0.sig own))
  frames_small base (g ∷ gs) fine x (suc index) f e =
      under_small base gs _ fine.2 g.body fine.0.class fine.0.sig fine.0.ready.runs x.1 index f e

module _ (forest : Forest) (accepted : IsAcceptedProgram forest) (plan : Plan) where
  variables : (body : Body) (c : ℕ) (sig : Signature) → Runs (code_of forest).program body c sig →
      length (variables_in (code_of forest).program body) ≤ 32
  unfolding code_of
  variables body c sig runs = few_variables forest accepted body c sig runs

  pub small_in_any_order : (choices : List ℕ) (moment : Moment) (s : State) →
      Reached (code_of forest) plan (by_list choices) moment s → FramesAreSmall s
  small_in_any_order choices moment s reached job activity index f is at =
      let facts : HasFacts (code_of forest) = has_facts forest accepted in
      let static : BodiesFit (code_of forest) =
      bodies_fit (code_of forest) facts.bodies (limits_of forest accepted) in
      let i = invariant_of (code_of forest) facts static plan choices moment s reached in
      let held = all_explained (code_of forest) facts static plan choices moment s reached in
      frames_small (code_of forest) variables (world_of s) (areas_of i.base) activity.frames
      (i.memories.jobs job activity is).frames (held.are job activity is) index f at

  pub small_by_priority : (moment : Moment) (s : State) → Reached (code_of forest) plan by_priority moment s →
      FramesAreSmall s
  small_by_priority moment s reached =
      let l = by_some_list (code_of forest) plan moment s
      (fair_listed (code_of forest) plan by_priority priority_is_fair reached) in
      small_in_any_order l.0 moment s l.1
