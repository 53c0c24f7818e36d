-- What follows an operation can be done in a memory in which the operation's object lies in an open area.
use Rattle.std.specs.Prelude.{Bool, true, false, Option, Some, None, unwrap_or, ◌==◌, ◌||◌}
use Rattle.std.proofs.Common.{◌≡◌, ℕ, List, [], ◌∷◌, arith, ap, subst}
use Rattle.std.proofs.lemmas.Bool.Decides.{nat_tests}
use Rattle.scj_base.specs.declared.values.Value.{Value}
use Rattle.scj_base.specs.declared.values.Value.TheVariants.{At, Null, Int, Bool as Truth}
use Rattle.scj_rules.specs.Words.{is_among}
use Rattle.scj_model.specs.declared.operations.SeqOp.{SeqOp}
use Rattle.scj_model.specs.declared.operations.SeqOp.TheVariants.{OpenImmortal, AllocSafelet, ConstructSafelet, InitializeApplication, GetSequencer, GetNextMission, OpenMission, Initialize, CleanUp, Execute, Finished}
use Rattle.scj_model.specs.Sequencer.{Transition, innermost, transition}
use Rattle.region_heap.specs.Contents.{Contents}
use Rattle.run_state.specs.Standing.{ClosesLast}
use Rattle.mission_steps.specs.Standing.{CanFollow, IsOnLive}

-- the innermost area is one of them
pub innermost_among : (areas : List ℕ) (a : ℕ) → Some a ≡ innermost areas → is_among a areas ≡ true
unfolding innermost
innermost_among [] a e = absurd (cc)
innermost_among (x ∷ xs) a e =
    let same : x ≡ a = cc in
    subst (λ (y : ℕ). is_among y (x ∷ xs) ≡ true) same
    (let t : (x == x) ≡ true = grind (arith, nat_tests) in ap (λ (c : Bool). c || is_among x xs) t)

module _ (m : Contents) (areas : List ℕ) (t : Transition) where
  to : (x : Transition) → Some x ≡ Some t → CanFollow m areas x.effect → CanFollow m areas t.effect
  to x e h = subst (λ (y : Transition). CanFollow m areas y.effect)
      (ap (λ (o : Option Transition). unwrap_or o t) e) h

  pub can_follow : (known : Option ℕ) (skips : Bool) (operation : SeqOp) (value : Value) →
      IsOnLive m operation → ClosesLast m (innermost areas) → transition known skips operation value ≡ Some t →
      CanFollow m areas t.effect
  unfolding transition
  can_follow known skips OpenImmortal value live closes e = to _ e tt
  can_follow known skips AllocSafelet (At r) live closes e = to _ e tt
  can_follow known skips AllocSafelet Null live closes e = absurd (cc)
  can_follow known skips AllocSafelet (Int n) live closes e = absurd (cc)
  can_follow known skips AllocSafelet (Truth b) live closes e = absurd (cc)
  can_follow known skips (ConstructSafelet r) value live closes e = to _ e tt
  can_follow known skips (InitializeApplication r) value live closes e = to _ e tt
  can_follow known skips (GetSequencer r) (At q) live closes e = to _ e tt
  can_follow known skips (GetSequencer r) Null live closes e = to _ e live
  can_follow known skips (GetSequencer r) (Int n) live closes e = to _ e live
  can_follow known skips (GetSequencer r) (Truth b) live closes e = to _ e live
  can_follow known skips (GetNextMission r) (At q) live closes e = to _ e tt
  can_follow known skips (GetNextMission r) Null live closes e = to _ e tt
  can_follow known skips (GetNextMission r) (Int n) live closes e = to _ e tt
  can_follow known skips (GetNextMission r) (Truth b) live closes e = to _ e tt
  can_follow known skips (OpenMission r) value live closes e = to _ e live
  can_follow known true (Initialize r) value live closes e = to _ e tt
  can_follow known false (Initialize r) value live closes e = to _ e tt
  can_follow None skips (CleanUp r) value live closes e = absurd (cc)
  can_follow (Some q) skips (CleanUp r) value live closes e = to _ e closes
  can_follow known skips Execute value live closes e = absurd (cc)
  can_follow known skips Finished value live closes e = absurd (cc)
