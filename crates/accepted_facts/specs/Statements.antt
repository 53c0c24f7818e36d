-- What a statement of an accepted program has, kind by kind: its values with their kinds, and where they go.
use Rattle.std.specs.Prelude.{◌≡◌, ◌⊎◌, ◌<◌, ℕ, true, false, Some}
use Rattle.scj_rules.specs.declared.views.WrittenType.TheVariants.{Long as long_type}
use Rattle.scj_rules.specs.Definitions.{read}
use Rattle.scj_rules.specs.Words.{holds}
use Rattle.scj_rules.specs.Views.{DeclaredMethod, method_at}
use Rattle.scj_rules.specs.Contexts.{Declarations}
use Rattle.scj_rules.specs.Guards.{is_guarded_store}
use Rattle.scj_rules.specs.StaticScopes.{fits}
use Rattle.scj_rules.specs.AnnotationRules.{result_scope}
use Rattle.scj_rules.specs.Types.{assigns}
use Rattle.scj_rules.specs.TypeRules.{declared_type_of, is_length_target}
use Rattle.accepted_laws.specs.Judgements.{type_at_node, Inside, Judged}
use Rattle.accepted_laws.specs.Kinds.{Kind, number, truth, reference, kind_of, kind_of_variable, unscoped}
use Rattle.accepted_facts.specs.Expressions.{Operand}

-- a value of the first kind may go where one of the second is expected, both as they are seen from one place: their types
-- may be assigned (JLS 5.2), and their scopes fit
abbrev pub FitsAsSeen : Declarations → Kind → Kind → Type 0
FitsAsSeen p number number = Unit {0}
FitsAsSeen p truth truth = Unit {0}
FitsAsSeen p (reference t s) (reference u r) = (assigns p.classes t u ≡ true) × (fits s r ≡ true)
FitsAsSeen p _ _ = ⊥

-- where a guard allows the store of a value, its type alone is asked
abbrev pub IsAllowedByGuard : Declarations → ℕ → ℕ → ℕ → Kind → Kind → Type 0
IsAllowedByGuard p id target value given expected =
    FitsAsSeen p given (unscoped expected) × (is_guarded_store p (type_at_node p) id target value ≡ true)

-- the value of an assignment fits its target, or a guard allows the store; and the target isn't the length of an array
-- (JLS 15.26)
pub record AssignFacts (p : Declarations) (b c id target value : ℕ) : Type 0 where
  pub expected : Kind
  pub target_is : Operand p b c id target expected
  pub is_no_length : holds (read p.nodes (is_length_target p (type_at_node p)) target) (λ b. b) ≡ false
  pub given : Kind
  pub value_is : Operand p b c id value given
  pub fit : FitsAsSeen p given expected ⊎ IsAllowedByGuard p id target value given expected

-- the condition of a `for` stands in the same body and is a truth value (JLS 14.14.1). It may name the variable that the
-- `for` declares, so it is no operand, which knows what is in scope at the statement
pub record ForFacts (p : Declarations) (b c id condition : ℕ) : Type 0 where
  pub smaller : condition < id
  pub inside : Inside p b c condition
  pub judged : Judged p condition (Some truth)

-- the value with which a local is declared fits it (JLS 14.4)
pub record InitialValueFacts (p : Declarations) (b c id value : ℕ) : Type 0 where
  pub expected : Kind
  pub variable_is : kind_of_variable p id ≡ Some expected
  pub given : Kind
  pub value_is : Operand p b c id value given
  pub fit : FitsAsSeen p given expected

-- a value is returned from a method whose result it fits: a number from one of result `long`, and else what fits the kind
-- of the result (JLS 14.17)
pub record ReturnFacts (p : Declarations) (b c id value : ℕ) : Type 0 where
  pub method : DeclaredMethod
  pub is_method : method_at p.nodes b ≡ Some method
  pub given : Kind
  pub value_is : Operand p b c id value given
  pub fit :
      ((method.declared.declared_type ≡ long_type) × (given ≡ number))
      ⊎ ((expected : Kind) × (kind_of (declared_type_of p method.declared) (result_scope p c method) ≡ Some expected)
      × FitsAsSeen p given expected)
