-- What is broken at a call, where its receiver and its method are told.
use Rattle.std.proofs.Common.{◌≡◌, ℕ, Bool, true, false, not, ◌&&◌, List, [], ◌++◌, Option, Some, None, is_some, option_and_then, if◌then◌else◌, refl, append-nil}
use Rattle.scj_base.specs.declared.findings.Found.{Found}
use Rattle.scj_base.specs.declared.findings.Rule.TheVariants.{T3, T5, T6, T13}
use Rattle.scj_base.specs.declared.positions.Position.{Position}
use Rattle.scj_tree.specs.declared.nodes.Node.TheVariants.{Call}
use Rattle.scj_rules.specs.declared.typing.Receiver.{Receiver}
use Rattle.scj_rules.specs.Words.{broken, holds}
use Rattle.scj_rules.specs.Classes.{FoundMethod}
use Rattle.scj_rules.specs.Contexts.{Declarations}
use Rattle.scj_rules.specs.Types.{all_types, is_no_reference, call_receiver, called_method}
use Rattle.scj_rules.specs.TypeRules.{Types, type_breaks, t1, t2, t3, t4, t5, t6, t7, t8, t9, t10, t11, t12, t13, t14, lacks_method, misfits_method, cannot_be_called, lacks_object}
use Rattle.type_rules.specs.Parameters.{breaks_on}

pub typed_test : {A : Type 0} (o : Option A) (b : Bool) → holds o (λ _. b) ≡ (b && is_some o)
typed_test None true = refl
typed_test None false = refl
typed_test (Some x) true = refl
typed_test (Some x) false = refl

pub typed_then : {A B : Type 0} (o : Option A) (x : Option B) →
    option_and_then (λ _. x) o ≡ (if is_some o then x else None)
typed_then None x = refl
typed_then (Some y) x = refl

module _ (p : Declarations) (types : Types) (id : ℕ) (position : Position) (name : List ℕ) (object : Option ℕ)
    (arguments : List ℕ) where
  none : (n l t : Bool) → broken (n && t) T3 position ++ (broken ((not n && true) && t) T5 position
      ++ (broken (not (not n && true) && false) T6 position
      ++ (broken ((l && (not (not n && true) && false)) && t) T13 position ++ [])))
      ≡ broken (n && t) T3 position ++ (broken (not n && t) T5 position ++ [])
  none true true t = refl
  none true false t = refl
  none false true t = refl
  none false false t = refl

  typed : (b : Bool) → holds (all_types types arguments) (λ _. b) ≡ (b && is_some (all_types types arguments))
  typed b = typed_test (all_types types arguments) b

  by_method : (r : Receiver) (m : Option FoundMethod) → Some r ≡ call_receiver p types id object →
      m ≡ called_method p r name →
      type_breaks p types id (Call position name object arguments) ≡ breaks_on p types id position r m arguments
  unfolding type_breaks t1 t2 t3 t4 t5 t6 t7 t8 t9 t10 t11 t12 t13 t14 lacks_method misfits_method breaks_on
  by_method r None h k =
      let n = is_no_reference r in
      let apart = lacks_object p id r && (not (not n && true) && false) in
      rw (← h, ← k) (rw (typed n, typed (not n && true), typed apart) (none n (lacks_object p id r) _))
  by_method r (Some f) h k =
      let lacks = not (is_no_reference r) && cannot_be_called p r f in
      let apart = lacks_object p id r && (not lacks && not f.method.declared.modifiers.is_static) in
      rw (← h, ← k) (rw (typed (is_no_reference r), typed lacks, typed apart) refl)

  pub call_breaks : (r : Receiver) → Some r ≡ call_receiver p types id object →
      type_breaks p types id (Call position name object arguments)
      ≡ breaks_on p types id position r (called_method p r name) arguments
  call_breaks r h = by_method r (called_method p r name) h refl

  pub no_breaks : (found : List Found) → None ≡ call_receiver p types id object →
      found ++ type_breaks p types id (Call position name object arguments) ≡ found
  unfolding type_breaks t1 t2 t3 t4 t5 t6 t7 t8 t9 t10 t11 t12 t13 t14
  no_breaks found h = rw (← h) (append-nil found)
