-- Steps whose events have proper parts, as far as the program and its states say, and whose registry is as small as it
-- may be.
use Rattle.std.proofs.Common.{◌≡◌, ◌≤◌, Bool, true, false, All, List, [], ◌∷◌, ◌++◌, length, Option, Some, None, if◌then◌else◌, refl}
use Rattle.std.specs.Prelude.{option_map}
use Rattle.std.specs.List.{list_all}
use Rattle.std.proofs.lemmas.List.Elements.{All-append, All-cons, All-nil}
use Rattle.scj_base.specs.declared.positions.Position.{Position}
use Rattle.scj_base.specs.Lexeme.{is_name, is_text_byte}
use Rattle.scj_tree.specs.declared.nodes.Node.{Node}
use Rattle.scj_model.specs.declared.events.Event.{Event}
use Rattle.scj_model.specs.declared.events.Event.TheVariants as event
use Rattle.scj_model.specs.State.{State}
use Rattle.scj_model.specs.Steps.{Step, silently, reporting, then_do, then_try}
use Rattle.scj_model.specs.TraceText.{label}
use Rattle.trace_audit.specs.Printed.{IsHandlerNumber, IsPriorityNumber}
pub use Rattle.int_values.proofs.Steps.{GoodIf, bind_good, either_good, good_if, good_option, mapped_good, nothing_good, some_good}

-- names are names, texts texts, and the numbers of handlers and priorities as large as they may be; F is asked of the
-- places of faults
abbrev pub IsProper : List Node → (Position → Type 0) → Event → Type 0
IsProper nodes F (event.Mission unit class) = is_name class ≡ true
IsProper nodes F (event.Register unit handler class priority) =
    (handler ≤ 64) × (is_name class ≡ true) × IsPriorityNumber priority
IsProper nodes F (event.Lost unit handler) = IsHandlerNumber handler
IsProper nodes F (event.Prio unit handler priority) = IsPriorityNumber priority
IsProper nodes F (event.Print unit text value) = list_all is_text_byte (label nodes text) ≡ true
IsProper nodes F (event.Fault unit fault place) = F place
IsProper nodes F e = Unit {0}

module _ (nodes : List Node) (F : Position → Type 0) where
  pub record Good (x : Step) : Type 0 where
    pub events : All (IsProper nodes F) x.events
    pub few : length x.state.registry ≤ 64

  -- ---- events

  pub none_proper : All (IsProper nodes F) []
  none_proper = All-nil (IsProper nodes F)

  pub one_proper : (e : Event) → IsProper nodes F e → All (IsProper nodes F) (e ∷ [])
  one_proper e h = All-cons (IsProper nodes F) e [] h none_proper

  pub two_proper : (e f : Event) → IsProper nodes F e → IsProper nodes F f → All (IsProper nodes F) (e ∷ f ∷ [])
  two_proper e f h k = All-cons (IsProper nodes F) e (f ∷ []) h (one_proper f k)

  pub if_proper : (b : Bool) (es fs : List Event) → All (IsProper nodes F) es → All (IsProper nodes F) fs →
      All (IsProper nodes F) (if b then es else fs)
  if_proper true es fs h k = h
  if_proper false es fs h k = k

  pub elim_proper : {A : Type 0} (o : Option A) (report : A → List Event) →
      ((a : A) → All (IsProper nodes F) (report a)) →
      All (IsProper nodes F) (elim o as (λ _. List Event) [ None ↦ [] | Some a ↦ report a ])
  elim_proper None report h = none_proper
  elim_proper (Some a) report h = h a

  -- ---- steps

  pub good_silent : (s : State) → length s.registry ≤ 64 → Good (silently s)
  good_silent s few = record { events = none_proper; few = few }

  pub good_then : (first : Step) (next : State → Step) → Good first → Good (next first.state) →
      Good (then_do first next)
  good_then first next h k =
      record {
        events = All-append (IsProper nodes F) first.events (next first.state).events h.events k.events;
        few = k.few;
      }

  pub tried_good : (first : Step) (next : State → Option Step) → All (IsProper nodes F) first.events →
      GoodIf Good (next first.state) → GoodIf Good (then_try first next)
  tried_good first next h k = go (next first.state) k
    where
      go : (o : Option Step) → GoodIf Good o →
          GoodIf Good (option_map (λ (second : Step). reporting second.state (first.events ++ second.events)) o)
      go None g = nothing_good Good
      go (Some second) g =
          some_good Good (reporting second.state (first.events ++ second.events))
          (record {
            events = All-append (IsProper nodes F) first.events second.events h (g.is second refl).events;
            few = (g.is second refl).few;
          })
