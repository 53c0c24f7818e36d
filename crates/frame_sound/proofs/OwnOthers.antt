-- The next operation of a job that stands leaves all others as they were.
use Rattle.std.specs.Prelude.{Some, None, slice_get, ◌||◌, option_to_list}
use Rattle.std.proofs.Common.{◌≡◌, ℕ, ◌≤◌, List, ◌∷◌, length, true, sym, ◌∙◌, ap, subst, arith}
use Rattle.scj_base.specs.declared.values.Value.{Value}
use Rattle.scj_rules.specs.Words.{is_among}
use Rattle.scj_rules.specs.Contexts.{Declarations}
use Rattle.scj_rules.specs.Layout.{slots}
use Rattle.accepted_laws.proofs.Tools.{some_inj}
use Rattle.scj_model.specs.declared.plans.ReadingRow.{ReadingRow}
use Rattle.scj_model.specs.Code.{Code}
use Rattle.scj_model.specs.State.{Frame, Job, Object, State}
use Rattle.scj_model.specs.Steps.{Step}
use Rattle.scj_model.specs.Effects.{Effect, Goes, Prints, Makes, Stores, StoresStatic, SetsHidden, SetsCeiling, Calls, Opens, Leaves, AsksRegistration, AsksRelease, AsksTermination, Faults, Stuck}
use Rattle.scj_model.specs.Run.{effect_at, frame_op, position_of_op}
use Rattle.scope_flow.specs.Facts.{Facts}
use Rattle.scope_flow.specs.Signatures.{Signature}
use Rattle.scope_flow.specs.Slots.{array_type}
use Rattle.frame_sound.specs.Places.{World}
use Rattle.frame_sound.specs.Fine.{HeapFine, list_of}
use Rattle.frame_sound.specs.EffectsFine.{EffectFine, HiddenFine}
use Rattle.frame_sound.specs.OwnJob.{JobStands, opened_by}
use Rattle.frame_sound.specs.Others.{KeepsOthers}
use Rattle.frame_sound.proofs.Changes.{look}
use Rattle.frame_sound.proofs.HiddenSlots.{hidden_fit}
use Rattle.frame_sound.proofs.OwnEnds.{among_both}
use Rattle.frame_sound.proofs.OwnSteps.{HasNext, effect_is_fine, has_next, here, op_is, waits}
use Rattle.frame_sound.proofs.OthersOfEffects.{StaysWithin, applied_keeps}

-- what a fine effect sets of an object's slots are some of them
hidden_within : (p : Declarations) (w : World) (r : ℕ) (values : List Value) → HeapFine p w → HiddenFine p w r values →
    (o : Object) → w.objects r ≡ Some o → length values ≤ length o.slots
hidden_within p w r values heap x o there =
    let same : x.object ≡ o = some_inj x.object o (sym x.found ∙ there) in
    let none : array_type p o.class ≡ None = ap (λ (q : Object). array_type p q.class) (sym same) ∙ x.is_no_array in
    let l : length values ≤ slots p o.class = subst (λ (q : Object). length values ≤ slots p q.class) same
    (hidden_fit p x.object.class (length values) x.is_no_array (λ i l. (x.are_hidden i l).1)) in
    let n = (heap r o there).is_full none in omega (arith, l, n)

own_first : (f : Frame) (below : List Frame) (a : ℕ) → is_among a (option_to_list f.opened) ≡ true →
    is_among a (opened_by (f ∷ below)) ≡ true
own_first f below a e =
    among_both a (option_to_list f.opened) (opened_by below) ∙ ap (λ t. t || is_among a (opened_by below)) e

module _ (code : Code) (s : State) (list : List ℕ) (c : ℕ) (sig : Signature) (f : Frame) (below frames : List Frame)
    (own : opened_by frames ≡ opened_by (f ∷ below))
    (heap : HeapFine code.program (look (λ a. slice_get s.areas a) s.objects)) where
  stays_within : (e : Effect) → EffectFine code (look (λ a. slice_get s.areas a) s.objects) list c sig f e →
      StaysWithin s frames e
  stays_within (Leaves h v) x =
      λ a e. subst (λ l. is_among a l ≡ true) (sym own)
      (own_first f below a (ap (λ o. is_among a (option_to_list o)) (sym x.0.opened) ∙ e))
  stays_within (SetsHidden h r values) x =
      hidden_within code.program (look (λ a. slice_get s.areas a) s.objects) r values heap x.1
  stays_within (Goes h) x = tt
  stays_within (Prints h label value) x = tt
  stays_within (Makes h class values) x = tt
  stays_within (Stores h r slot v) x = tt
  stays_within (StoresStatic h n v) x = tt
  stays_within (SetsCeiling h r ceiling) x = tt
  stays_within (Calls h g) x = tt
  stays_within (Opens h g scope bytes) x = tt
  stays_within (AsksRegistration h r) x = tt
  stays_within (AsksRelease h r) x = tt
  stays_within (AsksTermination h r) x = tt
  stays_within (Faults fault) x = tt
  stays_within Stuck x = tt

pub others_kept : (code : Code) (facts : Facts code) (rows : List ReadingRow) (s : State) (job : Job) (base : List ℕ)
    (stands : JobStands code s job base) (f : Frame) (below : List Frame) (has : stands.activity.frames ≡ f ∷ below)
    (step : Step) → frame_op code rows s job stands.activity ≡ Some step →
    KeepsOthers s job stands.activity.frames step.state
others_kept code facts rows s job base stands f below has step e =
    let n : HasNext code facts rows s job base stands f below has =
    has_next code facts rows s job base stands f below has in
    let effect = effect_at code rows s f n.op n.rest in
    let waits = waits code facts rows s job base stands f below has in
    let k = applied_keeps code s job stands.activity below (position_of_op code n.op) effect
    (stays_within code s (list_of base (f ∷ below)) waits.class waits.sig (record f { rest = n.rest }) below
    stands.activity.frames (ap opened_by has) (here code facts rows s job base stands f below has).heap effect
    (effect_is_fine code facts rows s job base stands f below has n.op n.rest n.is)) in
    k.is step (sym (op_is code facts rows s job base stands f below has n.op n.rest n.is) ∙ e)
