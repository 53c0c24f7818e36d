use Rattle.std.specs.Prelude.{true}
use Rattle.std.proofs.Common.{◌≡◌, ℕ, ℤ, List, ap, rules, subst}
use Rattle.scj_model.specs.declared.events.Event.{Event}
use Rattle.scj_model.specs.Code.{code_of}
use Rattle.op_list.specs.Listed.{Listing}
use Rattle.scj_model.specs.State.{Frame}
use Rattle.scj_model.specs.Effects.{Effect, Prints}
use Rattle.scj_model.specs.Apply.{applied}
use Rattle.job_frames.specs.declared.activities.Activity.{Activity as StoredActivity}
use Rattle.job_frames.specs.EffectsSeen.{effect_seen}
use Rattle.job_frames.specs.Frames.{activity_seen, frame_of, frames_of}
use Rattle.run_state.specs.declared.states.Acting.{Acting}
use Rattle.run_state.specs.declared.states.RunState.{RunState}
use Rattle.run_state.specs.Seen.{job_seen, state_of}
use Rattle.run_state.specs.Steps.{IsApplied, IsTry}
use Rattle.unit_steps.proofs.applied.apply.Goals as goal

pub returns-in_ok-goes-in-Goes : goal.returns-in_ok-goes-in-Goes
unfolding effect_seen
returns-in_ok-goes-in-Goes c =
    rw c.in-Goes.is
    (c.in_ok-goes-in-Goes.ensures c.args.code.now c.args.reported.now.items)

-- the value that is handed on is the one of the effect
printed_alike : (code : Listing) (was : RunState) (acting : Acting) (activity : StoredActivity) (effect : Frame → Effect)
    (st : RunState) (before after : List Event) (label : ℕ) (value : ℤ) →
    IsApplied code was acting activity effect true st before after →
    ((f : Frame) → effect f ≡ Prints f label value) →
    IsApplied code was acting activity (λ f. Prints f label value) true st before after
printed_alike code was acting activity effect st before after label value h same = record {
  tried = λ f below e.
      subst
      (λ (x : Effect).
      IsTry code
      (applied (code_of code.program) (state_of code was) (job_seen acting.job) (activity_seen code activity) (frames_of code below)
      acting.position x) true st before after)
      (same (frame_of code f)) (h.tried f below e);
}

pub returns-in_ok-prints-in-Prints : goal.returns-in_ok-prints-in-Prints
unfolding effect_seen
returns-in_ok-prints-in-Prints c =
    rw c.in-Prints.is
    (printed_alike c.args.code.now c.args.state.now c.args.acting c.args.activity _ c.prints.new.state
    c.args.reported.now.items c.prints.new.reported.items c.in-Prints.label c.in-Prints.value
    (c.in_ok-prints-in-Prints.ensures c.args.code.now)
    (λ f. ap (λ (v : ℤ). Prints f c.in-Prints.label v) (search rules)))

pub returns-in_ok-makes-in-Makes : goal.returns-in_ok-makes-in-Makes
unfolding effect_seen
returns-in_ok-makes-in-Makes c =
    rw c.in-Makes.is
    (c.in_ok-makes-in-Makes.ensures c.args.code.now)

pub returns-in_ok-makes_array-in-MakesArray : goal.returns-in_ok-makes_array-in-MakesArray
unfolding effect_seen
returns-in_ok-makes_array-in-MakesArray c =
    rw c.in-MakesArray.is
    (c.in_ok-makes_array-in-MakesArray.ensures c.args.code.now)

pub returns-in_ok-stores-in-Stores : goal.returns-in_ok-stores-in-Stores
unfolding effect_seen
returns-in_ok-stores-in-Stores c =
    rw c.in-Stores.is
    (c.in_ok-stores-in-Stores.ensures c.args.code.now c.args.reported.now.items)

pub returns-in_ok-stores_static-in-StoresStatic : goal.returns-in_ok-stores_static-in-StoresStatic
unfolding effect_seen
returns-in_ok-stores_static-in-StoresStatic c =
    rw c.in-StoresStatic.is
    (c.in_ok-stores_static-in-StoresStatic.ensures c.args.code.now c.args.reported.now.items)

pub returns-in_ok-sets_hidden-in-SetsHidden : goal.returns-in_ok-sets_hidden-in-SetsHidden
unfolding effect_seen
returns-in_ok-sets_hidden-in-SetsHidden c =
    rw c.in-SetsHidden.is
    (c.in_ok-sets_hidden-in-SetsHidden.ensures c.args.code.now c.args.reported.now.items)

pub returns-in_ok-sets_ceiling-in-SetsCeiling : goal.returns-in_ok-sets_ceiling-in-SetsCeiling
unfolding effect_seen
returns-in_ok-sets_ceiling-in-SetsCeiling c =
    rw c.in-SetsCeiling.is
    (c.in_ok-sets_ceiling-in-SetsCeiling.ensures c.args.code.now)

pub returns-in_ok-calls-in-Calls : goal.returns-in_ok-calls-in-Calls
unfolding effect_seen
returns-in_ok-calls-in-Calls c = rw c.in-Calls.is c.in_ok-calls-in-Calls.ensures

pub returns-in_ok-opens-in-Opens : goal.returns-in_ok-opens-in-Opens
unfolding effect_seen
returns-in_ok-opens-in-Opens c = rw c.in-Opens.is c.in_ok-opens-in-Opens.ensures

pub returns-in_ok-leaves-in-Leaves : goal.returns-in_ok-leaves-in-Leaves
unfolding effect_seen
returns-in_ok-leaves-in-Leaves c =
    rw c.in-Leaves.is
    (c.in_ok-leaves-in-Leaves.ensures c.args.code.now)

pub returns-in_ok-faults-in-Faults : goal.returns-in_ok-faults-in-Faults
unfolding effect_seen
returns-in_ok-faults-in-Faults c =
    rw c.in-Faults.is
    (c.in_ok-faults-in-Faults.ensures c.args.code.now)

pub returns-in-AsksRegistration : goal.returns-in-AsksRegistration
unfolding effect_seen
returns-in-AsksRegistration c = rw c.in-AsksRegistration.is c.asks_registration.ensures

pub returns-in-AsksRelease : goal.returns-in-AsksRelease
unfolding effect_seen
returns-in-AsksRelease c = rw c.in-AsksRelease.is c.asks_release.ensures

pub returns-in-AsksTermination : goal.returns-in-AsksTermination
unfolding effect_seen
returns-in-AsksTermination c = rw c.in-AsksTermination.is c.asks_termination.ensures

pub returns-in-Stuck : goal.returns-in-Stuck
unfolding effect_seen
returns-in-Stuck c =
    rw c.in-Stuck.is
    (c.is_stuck.ensures.applied c.args.code.now c.args.state.now c.args.state.now c.args.acting
    c.args.activity c.args.reported.now.items
    c.args.reported.now.items)

pub makes-requires-clause-open : goal.makes-requires-clause-open
makes-requires-clause-open c = rw c.in-Makes.is at c.requires.effect

pub makes-requires-clause-closes : goal.makes-requires-clause-closes
makes-requires-clause-closes c = c.requires.stands.closes

pub makes-requires-clause-numbers : goal.makes-requires-clause-numbers
makes-requires-clause-numbers c = c.requires.numbers.objects

pub makes_array-requires-clause-open : goal.makes_array-requires-clause-open
makes_array-requires-clause-open c = rw c.in-MakesArray.is at c.requires.effect

pub makes_array-requires-clause-closes : goal.makes_array-requires-clause-closes
makes_array-requires-clause-closes c = c.requires.stands.closes

pub makes_array-requires-clause-numbers : goal.makes_array-requires-clause-numbers
makes_array-requires-clause-numbers c = c.requires.numbers.objects

pub sets_ceiling-requires : goal.sets_ceiling-requires
sets_ceiling-requires c = c.requires.stands.closes

pub leaves-requires : goal.leaves-requires
leaves-requires c = c.requires.stands.closes

pub faults-requires : goal.faults-requires
faults-requires c = c.requires.stands.closes

pub calls-requires-clause-closes : goal.calls-requires-clause-closes
calls-requires-clause-closes c = c.requires.stands.closes

pub calls-requires-clause-live : goal.calls-requires-clause-live
calls-requires-clause-live c = rw c.in-Calls.is at c.requires.effect

pub asks_registration-requires-clause-closes : goal.asks_registration-requires-clause-closes
asks_registration-requires-clause-closes c = c.requires.stands.closes

pub asks_registration-requires-clause-live : goal.asks_registration-requires-clause-live
asks_registration-requires-clause-live c = rw c.in-AsksRegistration.is at c.requires.effect
