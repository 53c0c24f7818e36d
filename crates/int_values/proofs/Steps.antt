-- Steps: what holds of one, by the cases in which it is made; and that its numbers have 32 bits.
use Rattle.std.proofs.Common.{◌≡◌, All, Bool, true, false, List, [], ◌∷◌, ◌++◌, Option, Some, None, if◌then◌else◌, refl, subst}
use Rattle.std.specs.Prelude.{option_map}
use Rattle.std.proofs.lemmas.List.Elements.{All-append, All-cons, All-nil}
use Rattle.scj_rules.specs.Contexts.{Declarations}
use Rattle.scj_rules.specs.Words.{◌>>=◌}
use Rattle.accepted_laws.proofs.Tools.{some_inj}
use Rattle.scj_model.specs.declared.events.Event.{Event}
use Rattle.scj_model.specs.State.{State}
use Rattle.scj_model.specs.Steps.{Step, silently, reporting, then_do, then_try}
use Rattle.int_values.specs.Ints.{PrintsInt, StateFits, StepFits}

-- ---- what holds of steps, by the cases in which they are made

module _ (Q : Step → Type 0) where
  pub record GoodIf (o : Option Step) : Type 0 where
    pub is : (x : Step) → o ≡ Some x → Q x

  pub good_if : (b : Bool) (x y : Step) → (b ≡ true → Q x) → (b ≡ false → Q y) → Q (if b then x else y)
  good_if true x y h k = h refl
  good_if false x y h k = k refl

  pub good_option : {A : Type 0} (o : Option A) (x : Step) (f : A → Step) → (o ≡ None → Q x) →
      ((a : A) → o ≡ Some a → Q (f a)) → Q (elim o as (λ _. Step) [ None ↦ x | Some a ↦ f a ])
  good_option None x f h k = h refl
  good_option (Some a) x f h k = k a refl

  pub some_good : (x : Step) → Q x → GoodIf (Some x)
  some_good x h = record { is = λ y e. subst (λ (z : Step). Q z) (some_inj x y e) h }

  pub nothing_good : GoodIf None
  nothing_good = record { is = λ y e. absurd (cc (e)) }

  pub either_good : (b : Bool) (o p : Option Step) → (b ≡ true → GoodIf o) → (b ≡ false → GoodIf p) →
      GoodIf (if b then o else p)
  either_good true o p h k = h refl
  either_good false o p h k = k refl

  pub bind_good : {A : Type 0} (o : Option A) (f : A → Option Step) → ((a : A) → o ≡ Some a → GoodIf (f a)) →
      GoodIf (o >>= f)
  bind_good None f h = nothing_good
  bind_good (Some a) f h = h a refl

  pub mapped_good : {A : Type 0} (o : Option A) (f : A → Step) → ((a : A) → o ≡ Some a → Q (f a)) →
      GoodIf (option_map f o)
  mapped_good None f h = nothing_good
  mapped_good (Some a) f h = some_good (f a) (h a refl)

-- ---- numbers

module _ (p : Declarations) where
  pub one_event : (e : Event) → PrintsInt e → All PrintsInt (e ∷ [])
  one_event e h = All-cons PrintsInt e [] h (All-nil PrintsInt)

  pub two_events : (e f : Event) → PrintsInt e → PrintsInt f → All PrintsInt (e ∷ f ∷ [])
  two_events e f h k = All-cons PrintsInt e (f ∷ []) h (one_event f k)

  pub if_events : (b : Bool) (es fs : List Event) → All PrintsInt es → All PrintsInt fs →
      All PrintsInt (if b then es else fs)
  if_events true es fs h k = h
  if_events false es fs h k = k

  pub elim_events : {A : Type 0} (o : Option A) (report : A → List Event) → ((a : A) → All PrintsInt (report a)) →
      All PrintsInt (elim o as (λ _. List Event) [ None ↦ [] | Some a ↦ report a ])
  elim_events None report h = All-nil PrintsInt
  elim_events (Some a) report h = h a

  pub silent_fits : (s : State) → StateFits p s → StepFits p (silently s)
  silent_fits s h = record { state = h; events = All-nil PrintsInt }

  pub then_fits : (first : Step) (next : State → Step) → StepFits p first → StepFits p (next first.state) →
      StepFits p (then_do first next)
  then_fits first next h k =
      record { state = k.state; events = All-append PrintsInt first.events (next first.state).events h.events k.events }

  pub tried_fits : (first : Step) (next : State → Option Step) → All PrintsInt first.events →
      GoodIf (StepFits p) (next first.state) → GoodIf (StepFits p) (then_try first next)
  tried_fits first next h k = go (next first.state) k
    where
      go : (o : Option Step) → GoodIf (StepFits p) o →
          GoodIf (StepFits p) (option_map (λ (second : Step). reporting second.state (first.events ++ second.events)) o)
      go None g = nothing_good (StepFits p)
      go (Some second) g =
          some_good (StepFits p) (reporting second.state (first.events ++ second.events))
          (record {
            state = (g.is second refl).state;
            events = All-append PrintsInt first.events second.events h (g.is second refl).events;
          })
