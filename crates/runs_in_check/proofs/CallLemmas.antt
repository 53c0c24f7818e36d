-- Calls and assignments by their parts: each argument in turn with the parameter of its number, and what is broken at a
-- call by the method that it invokes.
use Rattle.std.proofs.Common.{◌≡◌, ◌+◌, ◌<◌, ◌≤◌, ◌++◌, ℕ, zero, suc, Bool, false, List, [], ◌∷◌, length, drop, get_or, Option, None, Some, slice_get, refl, ap, ◌∙◌, arith, append-nil, append_assoc}
use Rattle.std.proofs.lemmas.List.{drop_all, drop_more}
use Rattle.scj_base.specs.declared.findings.Found.{Found}
use Rattle.scj_base.specs.declared.findings.Rule.{Rule}
use Rattle.scj_base.specs.declared.findings.Rule.TheVariants.{E2}
use Rattle.scj_base.specs.declared.positions.Position.{Position}
use Rattle.scj_tree.specs.declared.nodes.Node.TheVariants.{Call}
use Rattle.scj_rules.specs.declared.views.Declared.{Declared}
use Rattle.scj_rules.specs.declared.typing.Scope.{Scope}
use Rattle.scj_rules.specs.declared.typing.Receiver.{Receiver}
use Rattle.scj_rules.specs.Words.{broken, found_at, ◌>>=◌}
use Rattle.scj_rules.specs.Classes.{FoundMethod}
use Rattle.scj_rules.specs.Contexts.{declarations_of}
use Rattle.scj_rules.specs.Types.{call_receiver, called_method, method_called}
use Rattle.scj_rules.specs.UseRules.{current_at, receiver_scope, scope_of, scope_of_call, misfit_arguments, misfits_call, e3_of_call, e3_of_constructor, e1, e2, e3, e4_and_e5, e6, e7, e8, e9, e10, use_breaks}
use Rattle.runs_in_check.specs.declared.calls.Callee.{Callee}
use Rattle.runs_in_check.specs.declared.calls.Callee.TheVariants.{Method, Constructor}
use Rattle.program_facts.specs.declared.reported.At.{At}
use Rattle.program_facts.specs.Reported.{declared, types, scopes}
use Rattle.runs_in_check.specs.Phase.{parameters_of, seen_scope, argument_breaks, misfits_from, e3_of, entry_breaks}

-- an assignment of a value that fits breaks nothing
pub right_assign : (test : Bool) (o : Option Rule) (position : Position) → false ≡ test →
    found_at o (λ rule. broken test rule position) ≡ []
right_assign test None position h = refl
right_assign test (Some rule) position h = rw (← h) refl

-- ---- arguments

module _ (at : At) (callee : Callee) where
  -- a value that has no scope fits
  pub none_misfits : (o : Option Declared) (id : ℕ) → None ≡ scopes at id → argument_breaks at callee o id ≡ []
  unfolding argument_breaks
  none_misfits None id h = refl
  none_misfits (Some d) id h = rw (← h) refl

  step : (ds : List Declared) (i id : ℕ) (rest : List ℕ)
      → misfits_from at callee (drop i ds) (id ∷ rest)
      ≡ argument_breaks at callee (slice_get ds i) id ++ misfits_from at callee (drop (suc i) ds) rest
  unfolding misfit_arguments argument_breaks declarations_of
  step [] zero id rest = refl
  step [] (suc i) id rest = refl
  step (d ∷ ds) zero id rest = refl
  step (d ∷ ds) (suc i) id rest = step ds i id rest

  -- one argument more is noted
  pub arguments_more : (found : List Found) (ds : List Declared) (ids : List ℕ) (i id : ℕ) → i < length ids →
      id ≡ get_or ids i id
      → (found ++ argument_breaks at callee (slice_get ds i) id)
      ++ misfits_from at callee (drop (i + 1) ds) (drop (i + 1) ids)
      ≡ found ++ misfits_from at callee (drop i ds) (drop i ids)
  arguments_more found ds ids i id l e =
      let next : i + 1 ≡ suc i = omega arith in
      rw (drop_more ids i id l, ← e, step ds i id (drop (i + 1) ids), next) (append_assoc found _ _)

  past : (ds : List Declared) → misfits_from at callee ds [] ≡ []
  unfolding misfit_arguments
  past [] = refl
  past (d ∷ ds) = refl

  -- all are noted
  pub arguments_all : (found : List Found) (ds : List Declared) (ids : List ℕ) (i : ℕ) → length ids ≤ i →
      found ++ misfits_from at callee (drop i ds) (drop i ids) ≡ found
  arguments_all found ds ids i l = rw (drop_all i ids l)
      (ap (λ (fs : List Found). found ++ fs) (past (drop i ds)) ∙ append-nil found)

-- ---- calls

pub e3_over_arguments : (at : At) (callee : Callee) (ids : List ℕ) →
    e3_of at callee ids ≡ misfits_from at callee (parameters_of at.facts.now callee) ids
unfolding e3_of e3_of_call e3_of_constructor parameters_of seen_scope
e3_over_arguments at (Method m object) ids = refl
e3_over_arguments at (Constructor class object) ids = refl

module _ (at : At) (position : Position) (name : List ℕ) (object : Option ℕ) where
  abbrev broken_there : List ℕ → List Found
  broken_there ids = use_breaks (declared at) (types at) (scopes at) at.id (Call position name object ids)

  pub no_call : (found : List Found) (ids : List ℕ) →
      None ≡ method_called (declared at) (types at) at.id object name → found ++ broken_there ids ≡ found
  unfolding use_breaks e1 e2 e3 e4_and_e5 e6 e7 e8 e9 e10
  no_call found (o ∷ r ∷ []) h = rw (← h) (append-nil found)
  no_call found _ h = rw (← h) (append-nil found)

  pub user_call : (f : FoundMethod) (ids : List ℕ) →
      Some f ≡ method_called (declared at) (types at) at.id object name → None ≡ f.method.builtin
      → broken_there ids
      ≡ broken (misfits_call (declared at) (scopes at) at.id object f) E2 position
      ++ e3_of_call (declared at) (scopes at) (receiver_scope (declared at) (scopes at) at.id object)
      (current_at (declared at) at.id) ids f
  unfolding use_breaks e1 e2 e3 e4_and_e5 e6 e7 e8 e9 e10
  user_call f (o ∷ r ∷ []) h k = rw (← h, ← k) (simp append-nil)
  user_call f _ h k = rw (← h, ← k) (simp append-nil)

  pub framework_call : (f : FoundMethod) (number : ℕ) (ids : List ℕ) →
      Some f ≡ method_called (declared at) (types at) at.id object name → Some number ≡ f.method.builtin
      → broken_there ids ≡ entry_breaks at position number ids
  unfolding use_breaks e1 e2 e3 e4_and_e5 e6 e7 e8 e9 e10 entry_breaks
  framework_call f number (o ∷ r ∷ []) h k = rw (← h, ← k) refl
  framework_call f number _ h k = rw (← h, ← k) refl

  abbrev of_method : FoundMethod → Option Scope
  of_method = scope_of_call (declared at) (receiver_scope (declared at) (scopes at) at.id object)
      (current_at (declared at) at.id)

  pub scope_there : (ids : List ℕ) → scope_of (declared at) (types at) (scopes at) at.id (Call position name object ids)
      ≡ (method_called (declared at) (types at) at.id object name >>= of_method)
  unfolding scope_of
  scope_there ids = go (call_receiver (declared at) (types at) at.id object)
    where
      go : (r : Option Receiver) → (r >>= (λ r. called_method (declared at) r name >>= of_method))
          ≡ ((r >>= (λ r. called_method (declared at) r name)) >>= of_method)
      go None = refl
      go (Some r) = refl
