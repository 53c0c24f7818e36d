-- What follows an operation of the sequencer: initialisation begins where the memory of a mission was opened, and the rows are
-- kept or given up.
use Rattle.std.specs.Prelude.{Option, Some, None, if◌then◌else◌}
use Rattle.std.proofs.Common.{◌≡◌, ◌⊎◌, ℕ, Bool, true, false, [], refl, sym, ◌∙◌, ap, subst, inl, inr}
use Rattle.scj_base.specs.declared.values.Value.{Value}
use Rattle.scj_base.specs.declared.values.Value.TheVariants.{At, Bool as BoolValue, Int, Null}
use Rattle.scj_rules.specs.Words.{◌>>=◌}
use Rattle.accepted_laws.proofs.Tools.{some_inj}
use Rattle.scj_model.specs.declared.operations.SeqOp.{SeqOp}
use Rattle.scj_model.specs.declared.operations.SeqOp.TheVariants.{OpenImmortal, AllocSafelet, ConstructSafelet, InitializeApplication, GetSequencer, GetNextMission, OpenMission, Initialize, CleanUp, Execute, Finished}
use Rattle.scj_model.specs.Code.{Code}
use Rattle.scj_model.specs.State.{State, is_init}
use Rattle.scj_model.specs.declared.phases.Phase.TheVariants.{Init}
use Rattle.scj_model.specs.Steps.{fault_in}
use Rattle.scj_model.specs.Sequencer.{SeqEffect, Continues, TakesSafelet, TakesSequencer, TakesMission, LacksSequencer, LacksMission, BeginsMission, BeginsExecution, SkipsExecution, EndsExecution, ClosesMission, Transition, seq_applied, transition, innermost}
use Rattle.scj_model.specs.Memory.{closed}

-- the next phase isn't initialisation, or the memory of a mission is open
pub data Ways (op : SeqOp) : Transition → Type 0 where
  Leaves : {t : Transition} → is_init t.phase ≡ false → Ways op t
  Begins : (r : ℕ) → op ≡ OpenMission r →
      Ways op (record { phase = Init; operation = Initialize r; effect = BeginsMission r })

pub record AllWays (op : SeqOp) (o : Option Transition) : Type 0 where
  pub are : (t : Transition) → o ≡ Some t → Ways op t

way : (op : SeqOp) (t : Transition) → Ways op t → AllWays op (Some t)
way op t w = record { are = λ u e. subst (Ways op) (some_inj t u e) w }

no_way : (op : SeqOp) → AllWays op None
no_way op = record { are = λ u e. absurd (cc (e)) }

if_way : (op : SeqOp) (b : Bool) (t u : Transition) → Ways op t → Ways op u → AllWays op (if b then Some t else Some u)
if_way op true t u v w = way op t v
if_way op false t u v w = way op u w

known_way : (op : SeqOp) (o : Option ℕ) (f : ℕ → Transition) → ((q : ℕ) → Ways op (f q)) →
    AllWays op (o >>= (λ q. Some (f q)))
known_way op None f h = no_way op
known_way op (Some q) f h = way op (f q) (h q)

pub ways : (known : Option ℕ) (skips : Bool) (op : SeqOp) (value : Value) → AllWays op (transition known skips op value)
unfolding transition is_init
ways known skips OpenImmortal value = way _ _ (Leaves refl)
ways known skips AllocSafelet (At r) = way _ _ (Leaves refl)
ways known skips AllocSafelet Null = no_way _
ways known skips AllocSafelet (Int n) = no_way _
ways known skips AllocSafelet (BoolValue b) = no_way _
ways known skips (ConstructSafelet r) value = way _ _ (Leaves refl)
ways known skips (InitializeApplication r) value = way _ _ (Leaves refl)
ways known skips (GetSequencer r) (At q) = way _ _ (Leaves refl)
ways known skips (GetSequencer r) Null = way _ _ (Leaves refl)
ways known skips (GetSequencer r) (Int n) = way _ _ (Leaves refl)
ways known skips (GetSequencer r) (BoolValue b) = way _ _ (Leaves refl)
ways known skips (GetNextMission r) (At q) = way _ _ (Leaves refl)
ways known skips (GetNextMission r) Null = way _ _ (Leaves refl)
ways known skips (GetNextMission r) (Int n) = way _ _ (Leaves refl)
ways known skips (GetNextMission r) (BoolValue b) = way _ _ (Leaves refl)
ways known skips (OpenMission r) value = way _ _ (Begins r refl)
ways known skips (Initialize r) value = if_way _ skips _ _ (Leaves refl) (Leaves refl)
ways known skips (CleanUp r) value = known_way _ known _ (λ q. Leaves refl)
ways known skips Execute value = no_way _
ways known skips Finished value = no_way _

-- what an effect makes of the phase and the rows
pub record Kept (s t : State) : Type 0 where
  pub init : is_init t.phase ≡ true → is_init s.phase ≡ true
  pub registry : (t.registry ≡ s.registry) ⊎ (t.registry ≡ [])

closing : (s : State) (o : Option ℕ) → (closed s o).phase ≡ s.phase
unfolding closed
closing s None = refl
closing s (Some a) = refl

pub effect_keeps : (code : Code) (s : State) (effect : SeqEffect) → Kept s (seq_applied code s effect).state
unfolding seq_applied fault_in closed is_init
effect_keeps code s Continues = record { init = λ k. k; registry = inl refl }
effect_keeps code s (TakesSafelet r) = record { init = λ k. k; registry = inl refl }
effect_keeps code s (TakesSequencer r) = record { init = λ k. k; registry = inl refl }
effect_keeps code s (TakesMission r) = record { init = λ k. k; registry = inl refl }
effect_keeps code s (LacksSequencer safelet) = record { init = λ k. absurd (cc (k)); registry = inl refl }
effect_keeps code s LacksMission = record { init = λ k. k; registry = inl refl }
effect_keeps code s (BeginsMission r) = record { init = λ k. k; registry = inl refl }
effect_keeps code s BeginsExecution = record { init = λ k. k; registry = inl refl }
effect_keeps code s SkipsExecution = record { init = λ k. k; registry = inl refl }
effect_keeps code s EndsExecution = record { init = λ k. k; registry = inl refl }
effect_keeps code s ClosesMission = record {
  init = λ k. ap is_init (sym (closing s (innermost s.activity.areas))) ∙ k;
  registry = inr refl;
}
