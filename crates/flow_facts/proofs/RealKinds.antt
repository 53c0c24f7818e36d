-- The kinds of what is declared are real: none has the scope of null.
use Rattle.std.proofs.Common.{◌≡◌, refl, subst, Option, Some, true}
use Rattle.scj_rules.specs.declared.typing.Scope.{Scope}
use Rattle.scj_rules.specs.declared.typing.Scope.TheVariants.{Any, This, Caller, In, Unknown, Lost}
use Rattle.scj_rules.specs.declared.typing.Ty.{Ty}
use Rattle.scj_rules.specs.declared.typing.Ty.TheVariants.{Int, Bool as Boolean, Class as ClassTy, IntArray, BoolArray, ClassArray}
use Rattle.accepted_laws.specs.Kinds.{Kind, number, truth, reference, kind_of, IsReal, IsRealKind, NamesArea, yes, fresh}
use Rattle.accepted_laws.proofs.Tools.{some_inj}
use Rattle.accepted_facts.proofs.DeclaredKinds.{holds_values}
use Rattle.scope_flow.specs.Signatures.{IsKnownResult}
use Rattle.scope_flow.specs.Slots.{IsSlotKind, IsImmortal}

pub real_value : (t : Ty) (s : Option Scope) (k : Kind) → holds_values t ≡ true →
    ((scope : Scope) → s ≡ Some scope → IsReal scope) → kind_of (Some t) s ≡ Some k → IsRealKind k
unfolding kind_of holds_values
real_value Int s k h a e = subst IsRealKind (some_inj number k e) tt
real_value Boolean s k h a e = subst IsRealKind (some_inj truth k e) tt
real_value (ClassTy c) (Some s) k h a e = subst IsRealKind (some_inj (reference (ClassTy c) s) k e) (a s refl)
real_value IntArray (Some s) k h a e = subst IsRealKind (some_inj (reference IntArray s) k e) (a s refl)
real_value BoolArray (Some s) k h a e = subst IsRealKind (some_inj (reference BoolArray s) k e) (a s refl)
real_value (ClassArray c) (Some s) k h a e = subst IsRealKind (some_inj (reference (ClassArray c) s) k e) (a s refl)
real_value _ _ k h a e = absurd (cc (h, e))

-- what slots and static fields hold is real
pub slot_is_real : (k : Kind) → IsSlotKind k → IsRealKind k
unfolding IsSlotKind
slot_is_real number h = tt
slot_is_real truth h = tt
slot_is_real yes h = tt
slot_is_real (fresh c s) h = absurd h
slot_is_real (reference t This) h = tt
slot_is_real (reference t (In n)) h = tt
slot_is_real (reference t Caller) h = absurd h
slot_is_real (reference t Any) h = absurd h
slot_is_real (reference t Unknown) h = absurd h
slot_is_real (reference t Lost) h = absurd h

pub immortal_is_real : (k : Kind) → IsImmortal k → IsRealKind k
unfolding IsImmortal
immortal_is_real number h = tt
immortal_is_real truth h = tt
immortal_is_real yes h = tt
immortal_is_real (fresh c s) h = absurd h
immortal_is_real (reference t (In n)) h = tt
immortal_is_real (reference t This) h = absurd h
immortal_is_real (reference t Caller) h = absurd h
immortal_is_real (reference t Any) h = absurd h
immortal_is_real (reference t Unknown) h = absurd h
immortal_is_real (reference t Lost) h = absurd h

-- a scope that names an area isn't unknown
pub known_result : (t : Ty) (s : Scope) → NamesArea s → IsKnownResult (reference t s)
known_result t This h = tt
known_result t Caller h = tt
known_result t (In n) h = tt
known_result t Any h = tt
known_result t Unknown h = h
known_result t Lost h = tt
