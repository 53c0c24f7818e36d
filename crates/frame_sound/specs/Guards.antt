-- What a frame knows of guards: in the first part of a guard the objects of its two subjects lie in one area; and what the
-- operations directly before a guard, or before a store that one allows, have pushed so far.
use Rattle.std.specs.Prelude.{◌≡◌, ℕ, Bool, true, List, ◌∷◌, slice_get, Option, Some, None}
use Rattle.scj_base.specs.declared.values.Value.{Value}
use Rattle.scj_base.specs.declared.values.Value.TheVariants.{Bool as Truth, At}
use Rattle.scj_rules.specs.declared.typing.Guard.{Guard}
use Rattle.scj_rules.specs.declared.typing.Subject.{Subject}
use Rattle.scj_rules.specs.declared.typing.Subject.TheVariants.{This as this_object, Variable as the_variable}
use Rattle.scj_rules.specs.declared.views.Body.{Body}
use Rattle.scj_rules.specs.Words.{is_among}
use Rattle.scj_rules.specs.Contexts.{Declarations}
use Rattle.accepted_laws.specs.Kinds.{Kind}
use Rattle.scj_model.specs.declared.operations.Op.{Op}
use Rattle.scj_model.specs.declared.operations.Op.TheVariants.{Same as SAME, Put as PUT, If as IF}
use Rattle.scj_model.specs.Code.{Code}
use Rattle.scj_model.specs.State.{Object}
use Rattle.scope_flow.specs.Signatures.{variables_in}
use Rattle.scope_flow.specs.Guards.{guard_of, AsksGuard, PutsByGuard, StandsIn, Rest}
use Rattle.frame_sound.specs.Places.{World}

-- the value of a subject in a frame: its object, or one of its locals
pub data IsValueOf (p : Declarations) (body : Body) (this : Option ℕ) (locals : List Value) : Subject → Value → Type 0 where
  of_this : (r : ℕ) → this ≡ Some r → IsValueOf p body this locals this_object (At r)
  of_variable : (v local : ℕ) (value : Value) → slice_get (variables_in p body) local ≡ Some v →
      ((j : ℕ) → slice_get (variables_in p body) j ≡ Some v → j ≡ local) → slice_get locals local ≡ Some value →
      IsValueOf p body this locals (the_variable v) value

-- two references to objects of one area
pub record AreTogether (w : World) (a b : Value) : Type 0 where
  pub r : ℕ
  pub s : ℕ
  pub is_first : a ≡ At r
  pub is_second : b ≡ At s
  pub first : Object
  pub second : Object
  pub first_found : w.objects r ≡ Some first
  pub second_found : w.objects s ≡ Some second
  pub one_area : first.area ≡ second.area

-- the objects of the subjects of a guard lie in one area
pub record GuardHolds (p : Declarations) (w : World) (body : Body) (this : Option ℕ) (locals : List Value)
    (guard : Guard) : Type 0 where
  pub first : Value
  pub second : Value
  pub first_is : IsValueOf p body this locals guard.first first
  pub second_is : IsValueOf p body this locals guard.second second
  pub together : AreTogether w first second

-- how far a frame is on the way to a guard, or to a store that a guard allows. A frame that waits for a value is on no such
-- way
pub data Progress (code : Code) (w : World) (body : Body) (this : Option ℕ) (locals : List Value) (around : List ℕ) :
    Option Kind → List Value → List Op → Type 0 where
  on_no_way : (t : Option Kind) (vs : List Value) (ops : List Op) → Rest code body around ops →
      Progress code w body this locals around t vs ops
  asks_second : (number id : ℕ) (first second : Op) (ops : List Op) (a : Value) (vs : List Value)
      (guard : AsksGuard code body number first second) → StandsIn code around (IF number) →
      Rest code body around ops → IsValueOf code.program body this locals guard.guard.first a →
      Progress code w body this locals around None (a ∷ vs) (second ∷ (SAME id ∷ (IF number ∷ ops)))
  asks_both : (number id : ℕ) (first second : Op) (ops : List Op) (a b : Value) (vs : List Value)
      (guard : AsksGuard code body number first second) → StandsIn code around (IF number) →
      Rest code body around ops → IsValueOf code.program body this locals guard.guard.first a →
      IsValueOf code.program body this locals guard.guard.second b →
      Progress code w body this locals around None (b ∷ (a ∷ vs)) (SAME id ∷ (IF number ∷ ops))
  is_answered : (number : ℕ) (guard : Guard) (answer : Bool) (ops : List Op) (vs : List Value) →
      guard_of code number ≡ Some guard → StandsIn code around (IF number) → Rest code body around ops →
      (answer ≡ true → GuardHolds code.program w body this locals guard) →
      Progress code w body this locals around None (Truth answer ∷ vs) (IF number ∷ ops)
  puts_value : (id : ℕ) (object value : Op) (ops : List Op) (a : Value) (vs : List Value)
      (puts : PutsByGuard code body id object value) → StandsIn code around (PUT id) → Rest code body around ops →
      IsValueOf code.program body this locals puts.holder a →
      Progress code w body this locals around None (a ∷ vs) (value ∷ (PUT id ∷ ops))
  puts_both : (id : ℕ) (object value : Op) (ops : List Op) (a b : Value) (vs : List Value)
      (puts : PutsByGuard code body id object value) → StandsIn code around (PUT id) → Rest code body around ops →
      IsValueOf code.program body this locals puts.holder a →
      IsValueOf code.program body this locals puts.stored b →
      Progress code w body this locals around None (b ∷ (a ∷ vs)) (PUT id ∷ ops)

-- of a frame that goes on with these operations, once it has a value of this kind if any
pub record GuardsFine (code : Code) (w : World) (body : Body) (this : Option ℕ) (locals : List Value) (t : Option Kind)
    (operands : List Value) (ops : List Op) : Type 0 where
  pub around : List ℕ
  pub holds : (number : ℕ) (guard : Guard) → is_among number around ≡ true → guard_of code number ≡ Some guard →
      GuardHolds code.program w body this locals guard
  pub progress : Progress code w body this locals around t operands ops
