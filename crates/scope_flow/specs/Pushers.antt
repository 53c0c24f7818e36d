-- Who pushed an operand, and what its static scope is.
use Rattle.std.specs.Prelude.{◌≡◌, ℕ, List, [], ◌∷◌, Option, Some, None}
use Rattle.scj_rules.specs.declared.typing.Scope.{Scope}
use Rattle.scj_rules.specs.Contexts.{Declarations}
use Rattle.scj_rules.specs.StaticScopes.{this_in}
use Rattle.accepted_laws.specs.Kinds.{Kind, reference, fresh, kind_of_variable}
use Rattle.accepted_laws.specs.Judgements.{Judged}

-- an expression pushed it, or an operation that pushes `this`: that of the expression `this`, of a simple name of a
-- field, of a receiver that isn't written, or of a super part
pub data Pusher : Type 0 where
  expression : (id : ℕ) → Pusher
  own_object : Pusher

-- the scope of a kind; a number and a truth value have none
unfoldable pub scope_in : Kind → Option Scope
scope_in (reference t s) = Some s
scope_in (fresh c s) = Some s
scope_in _ = None

-- the static scope of an expression
abbrev pub IsScopeOfExpression : Declarations → ℕ → Scope → Type 0
IsScopeOfExpression p id s = (kind : Kind) × Judged p id (Some kind) × (scope_in kind ≡ Some s)

-- of a variable
abbrev pub IsScopeOfVariable : Declarations → ℕ → Scope → Type 0
IsScopeOfVariable p v s = (kind : Kind) × (kind_of_variable p v ≡ Some kind) × (scope_in kind ≡ Some s)

-- the static scope of what was pushed, in a body of the class c
abbrev pub IsScopeOf : Declarations → ℕ → Pusher → Scope → Type 0
IsScopeOf p c (expression id) s = IsScopeOfExpression p id s
IsScopeOf p c own_object s = this_in p c ≡ Some s

-- the scope of a kind is that of what was pushed
abbrev pub IsPushed : Declarations → ℕ → Pusher → Kind → Type 0
IsPushed p c pusher k = (s : Scope) → scope_in k ≡ Some s → IsScopeOf p c pusher s

abbrev pub ArePushed : Declarations → ℕ → List Pusher → List Kind → Type 0
ArePushed p c [] [] = Unit {0}
ArePushed p c (q ∷ qs) (k ∷ ks) = IsPushed p c q k × ArePushed p c qs ks
ArePushed p c [] (k ∷ ks) = ⊥
ArePushed p c (q ∷ qs) [] = ⊥

-- the same of an expression
abbrev pub IsKindOfExpression : Declarations → ℕ → Kind → Type 0
IsKindOfExpression p id k = (s : Scope) → scope_in k ≡ Some s → IsScopeOfExpression p id s

-- of a call that leaves a value
abbrev pub IsGivenBy : Declarations → ℕ → Option Kind → Type 0
IsGivenBy p id o = (k : Kind) → o ≡ Some k → IsKindOfExpression p id k

-- the scope of a receiver: that of its expression, or where none is written that of `this`
abbrev pub IsScopeOfReceiver : Declarations → ℕ → Option ℕ → Scope → Type 0
IsScopeOfReceiver p c None s = this_in p c ≡ Some s
IsScopeOfReceiver p c (Some object) s = IsScopeOfExpression p object s
