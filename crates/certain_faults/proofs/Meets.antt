-- Where the operands are what is known of them, the operation of a node that is certain to end with a fault ends with
-- it.
use Rattle.std.specs.Prelude.{Option, Some, None, slice_get, ℤ, pos, negsuc, ◌==◌, ◌&&◌, ◌%◌, ◌*◌, ◌/◌, nat_lt, not, is_some, option_map, unsigned_abs}
use Rattle.std.specs.Int.{is_negative}
use Rattle.std.proofs.Common.{◌≡◌, ℕ, suc, ◌+◌, List, [], ◌∷◌, Bool, true, false, ◌⊎◌, inl, inr, refl, sym, ap, ◌∙◌, subst, arith, if◌then◌else◌}
use Rattle.std.proofs.lemmas.Bool.Decides.{nat_tests}
use Rattle.scj_base.specs.declared.faults.RunFault.{RunFault}
use Rattle.scj_base.specs.declared.faults.RunFault.TheVariants.{NullPointer, NegativeSize, DivideByZero, BadPriority, BadPeriod, BadPort}
use Rattle.scj_base.specs.declared.values.Value.{Value}
use Rattle.scj_base.specs.declared.values.Value.TheVariants.{Int, Bool as Truth, Null, At}
use Rattle.scj_rules.specs.Words.{◌>>=◌}
use Rattle.scj_rules.specs.Layout.{element_kind}
use Rattle.scj_rules.specs.ScopeRules.{defined_by_chain}
use Rattle.scj_model.specs.declared.operations.Op.TheVariants.{Bin as BIN, AllocArray as ALLOCARRAY, Enter as ENTER, SetCeiling as SETCEILING, Read as READ}
use Rattle.scj_model.specs.Code.{Code, binding, part}
use Rattle.scj_model.specs.State.{Frame}
use Rattle.scj_model.specs.Memory.{new_elements}
use Rattle.scj_model.specs.Arithmetic.{binary_value, divides_by_zero}
use Rattle.scj_model.specs.Effects.{Effect, Makes, SetsHidden, SetsCeiling, Opens, Faults, Stuck, given, pop, as_int, as_object, pushes, new_frame}
use Rattle.scj_model.specs.Operations.{Environment, effect_of, bound_class, operator_of, is_port, is_priority, units_of, times_of, periodic_parameters, right_parameters, with_run}
use Rattle.certain_faults.specs.declared.known.Known.{Known}
use Rattle.certain_faults.specs.declared.known.Known.TheVariants.{Unknown, Exactly, Object}
use Rattle.certain_faults.specs.declared.known.Left.{Left}
use Rattle.certain_faults.specs.declared.known.Left.TheVariants.{Forgets, Zero, One, Two, Four}
use Rattle.certain_faults.specs.Faults.{fault_if, known_number, is_known, division_fault, length_fault, port_fault, size_fault, ceiling_fault, is_wrong_time, is_known_time, times_fault, storage_fault, priority_fault}
use Rattle.certain_faults.proofs.Stacks.{Stack, nothing, put, taken, with_left, Less}
use Rattle.certain_faults.proofs.Frames.{Holds, Shadows}

-- an effect that isn't stuck is this fault
pub record Ends (fault : RunFault) (e : Effect) : Type 0 where
  pub is : (e ≡ Stuck → ⊥) → e ≡ Faults fault

abbrev pub Operands : Stack → List Value → Type 0
Operands s vs = (n : ℕ) → Holds (s n) (slice_get vs n)

pub operands_are : (asked s : Stack) (vs : List Value) → Less asked s → Shadows s vs → Operands asked vs
operands_are asked s vs l x n = go (l.is n) (x.is n)
  where
    go : (asked n ≡ Unknown) ⊎ (asked n ≡ s n) → Holds (s n) (slice_get vs n) → Holds (asked n) (slice_get vs n)
    go (inl e) h = subst (λ k. Holds k (slice_get vs n)) (sym e) tt
    go (inr e) h = subst (λ k. Holds k (slice_get vs n)) (sym e) h

-- what ENTER and SETCEILING do with their operands
abbrev opens_with : Code → Environment → ℕ → Frame → ℕ → ℤ → Effect
opens_with code world id l r bytes =
    with_run code world r (λ o body. given (defined_by_chain code.program o.class) (λ scope.
    Opens l (new_frame code body (Some id) (Some r) l.area []) scope (unsigned_abs bytes)))

abbrev behind_size : Code → Environment → ℕ → Frame → ℕ → ℤ → Effect
behind_size code world id l r bytes =
    if is_negative bytes then Faults NegativeSize else opens_with code world id l r bytes

abbrev entered : Code → Environment → ℕ → Frame → Value → Value → Effect
entered code world id l v w = as_object v (λ r. as_int w (λ bytes. behind_size code world id l r bytes))

abbrev behind_object : Frame → ℕ → ℤ → Effect
behind_object l r c = if is_priority c then SetsCeiling l r (unsigned_abs c) else Faults BadPriority

abbrev ceiled : Frame → Value → Value → Effect
ceiled l v w = as_object w (λ r. as_int v (λ c. behind_object l r c))

module _ (fault : RunFault) where
  pub ends_stuck : Ends fault Stuck
  ends_stuck = record { is = λ h. absurd (h refl) }

  ends_now : (x : RunFault) → Some x ≡ Some fault → Ends fault (Faults x)
  ends_now x e = record { is = λ h. (let same : x ≡ fault = cc (e) in ap Faults same) }

  pub ends_given : {A : Type 0} (o : Option A) (next : A → Effect) → ((a : A) → o ≡ Some a → Ends fault (next a)) →
      Ends fault (given o next)
  ends_given None next h = ends_stuck
  ends_given (Some a) next h = h a refl

  pub ends_pop : (s : Stack) (f : Frame) (next : Value → Frame → Effect) → Operands s f.operands →
      ((v : Value) (k : Frame) → Holds (s 0) (Some v) → Operands (taken s) k.operands → Ends fault (next v k)) →
      Ends fault (pop f next)
  ends_pop s f next x more = go f.operands x
    where
      go : (vs : List Value) → Operands s vs →
          Ends fault
          (elim vs as (λ z. Effect) [ [] ↦ Stuck | value ∷ below ↦ next value (record f { operands = below }) ])
      go [] y = ends_stuck
      go (v ∷ below) y = more v (record f { operands = below }) (y 0) (λ n. y (suc n))

  pub none_some : {x : RunFault} → None ≡ Some x → ⊥
  none_some e = cc (e)

  -- ---- a test of a number that is known

  -- a number of which a test is known to hold
  known_test : (test : ℤ → Bool) (k : Known) (v : Value) → is_known test k ≡ true → Holds k (Some v) →
      (z : ℤ) × (v ≡ Int z) × (test z ≡ true)
  unfolding is_known
  known_test test (Exactly (Int z)) v e h = (z, cc (h), e)
  known_test test (Exactly (Truth b)) v e h = absurd (cc (e))
  known_test test (Exactly Null) v e h = absurd (cc (e))
  known_test test (Exactly (At r)) v e h = absurd (cc (e))
  known_test test Unknown v e h = absurd (cc (e))
  known_test test Object v e h = absurd (cc (e))

  if_is : (b : Bool) (x : RunFault) → fault_if b x ≡ Some fault → (b ≡ true) × (Some x ≡ Some fault)
  if_is true x e = (refl, e)
  if_is false x e = absurd (cc (e))

  holds_null : (v : Value) → Holds (Exactly Null) (Some v) → v ≡ Null
  holds_null v h = cc (h)

  holds_object : (v : Value) → Holds Object (Some v) → (r : ℕ) × (v ≡ At r)
  holds_object v h = (h.0, cc (h.1))

  ends_int : (v : Value) (z : ℤ) (next : ℤ → Effect) → v ≡ Int z → Ends fault (next z) → Ends fault (as_int v next)
  ends_int v z next e h = subst (λ (w : Value). Ends fault (as_int w next)) (sym e) h

  ends_object : (v : Value) (r : ℕ) (next : ℕ → Effect) → v ≡ At r → Ends fault (next r) →
      Ends fault (as_object v next)
  ends_object v r next e h = subst (λ (w : Value). Ends fault (as_object w next)) (sym e) h

  ends_true : (b : Bool) (x y : Effect) → b ≡ true → Ends fault x → Ends fault (if b then x else y)
  ends_true b x y e h = subst (λ (t : Bool). Ends fault (if t then x else y)) (sym e) h

  ends_false : (b : Bool) (x y : Effect) → b ≡ false → Ends fault y → Ends fault (if b then x else y)
  ends_false b x y e h = subst (λ (t : Bool). Ends fault (if t then x else y)) (sym e) h

  -- ---- operators

  pub bin_ends : (code : Code) (world : Environment) (f : Frame) (id operator : ℕ) (right : Left) →
      part code operator_of id ≡ Some operator → division_fault operator right ≡ Some fault →
      Operands (with_left right nothing) f.operands → Ends fault (effect_of code world f (BIN id))
  unfolding effect_of division_fault with_left
  bin_ends code world f id operator (One (Exactly v)) e k x =
      ends_given (part code operator_of id) _ (λ o same.
      ends_pop (put (Exactly v) nothing) f (λ r g. pop g (λ l m. if divides_by_zero o r then Faults DivideByZero
      else given (binary_value o l r) (λ value. pushes m value))) x (λ w g h y.
      ends_pop nothing g (λ l m. if divides_by_zero o w then Faults DivideByZero
      else given (binary_value o l w) (λ value. pushes m value)) y (λ l m i z.
      let test = if_is (divides_by_zero operator v) DivideByZero k in
      let now : divides_by_zero o w ≡ true =
      ap (λ (q : ℕ). divides_by_zero q w) (let t : o ≡ operator = cc (same, e) in t)
      ∙ (ap (divides_by_zero operator) (let t : w ≡ v = cc (h) in t) ∙ test.0) in
      ends_true (divides_by_zero o w) (Faults DivideByZero)
      (given (binary_value o l w) (λ value. pushes m value)) now (ends_now DivideByZero test.1))))
  bin_ends code world f id operator (One Unknown) e k x = absurd (none_some k)
  bin_ends code world f id operator (One Object) e k x = absurd (none_some k)
  bin_ends code world f id operator Forgets e k x = absurd (none_some k)
  bin_ends code world f id operator Zero e k x = absurd (none_some k)
  bin_ends code world f id operator (Two a b) e k x = absurd (none_some k)
  bin_ends code world f id operator (Four a b c d) e k x = absurd (none_some k)

  -- ---- arrays

  pub array_ends : (code : Code) (world : Environment) (f : Frame) (id : ℕ) (size : Left) →
      length_fault size ≡ Some fault → Operands (with_left size nothing) f.operands →
      Ends fault (effect_of code world f (ALLOCARRAY id))
  unfolding effect_of length_fault with_left
  array_ends code world f id (One size) k x =
      ends_given (bound_class (binding code id)) _ (λ class e.
      ends_given (element_kind code.program class) _ (λ kind i.
      ends_pop (put size nothing) f (λ v g. as_int v (λ n. if is_negative n then Faults NegativeSize
      else Makes g class (new_elements kind (unsigned_abs n)))) x (λ v g h y.
      let test = if_is (is_known is_negative size) NegativeSize k in
      let z = known_test is_negative size v test.0 h in
      ends_int v z.0 (λ n. if is_negative n then Faults NegativeSize
      else Makes g class (new_elements kind (unsigned_abs n))) z.1
      (ends_true (is_negative z.0) (Faults NegativeSize) (Makes g class (new_elements kind (unsigned_abs z.0))) z.2
      (ends_now NegativeSize test.1)))))
  array_ends code world f id Forgets k x = absurd (none_some k)
  array_ends code world f id Zero k x = absurd (none_some k)
  array_ends code world f id (Two a b) k x = absurd (none_some k)
  array_ends code world f id (Four a b c d) k x = absurd (none_some k)

  -- ---- ports

  not_true : (b : Bool) → not b ≡ true → b ≡ false
  not_true true e = absurd (cc (e))
  not_true false e = refl

  pub read_ends : (code : Code) (world : Environment) (f : Frame) (id : ℕ) (port : Left) → port_fault port ≡ Some fault →
      Operands (with_left port nothing) f.operands → Ends fault (effect_of code world f (READ id))
  unfolding effect_of port_fault with_left
  read_ends code world f id (One port) k x =
      ends_pop (put port nothing) f (λ v g. as_int v (λ z.
      if is_port z then pushes g (Int (world.reading (unsigned_abs z))) else Faults BadPort)) x (λ v g h y.
      let test = if_is (is_known (λ z. not (is_port z)) port) BadPort k in
      let z = known_test (λ z. not (is_port z)) port v test.0 h in
      ends_int v z.0 (λ n. if is_port n then pushes g (Int (world.reading (unsigned_abs n))) else Faults BadPort) z.1
      (ends_false (is_port z.0) (pushes g (Int (world.reading (unsigned_abs z.0)))) (Faults BadPort)
      (not_true (is_port z.0) z.2) (ends_now BadPort test.1)))
  read_ends code world f id Forgets k x = absurd (none_some k)
  read_ends code world f id Zero k x = absurd (none_some k)
  read_ends code world f id (Two a b) k x = absurd (none_some k)
  read_ends code world f id (Four a b c d) k x = absurd (none_some k)

  -- ---- areas

  pub enter_ends : (code : Code) (world : Environment) (f : Frame) (id : ℕ) (size runnable : Left) →
      size_fault size runnable ≡ Some fault →
      Operands (with_left runnable (with_left size nothing)) f.operands →
      Ends fault (effect_of code world f (ENTER id))
  unfolding effect_of size_fault with_left
  enter_ends code world f id (One size) (One Object) k x =
      ends_pop (put Object (put size nothing)) f (λ v g. pop g (λ w l. entered code world id l v w)) x (λ v g h y.
      ends_pop (put size nothing) g (λ w l. entered code world id l v w) y (λ w l i t.
      let test = if_is (is_known is_negative size) NegativeSize k in
      let z = known_test is_negative size w test.0 i in
      let o = holds_object v h in
      ends_object v o.0 (λ r. as_int w (λ bytes. behind_size code world id l r bytes)) o.1
      (ends_int w z.0 (λ bytes. behind_size code world id l o.0 bytes) z.1
      (ends_true (is_negative z.0) (Faults NegativeSize) (opens_with code world id l o.0 z.0) z.2
      (ends_now NegativeSize test.1)))))
  enter_ends code world f id (One size) (One Unknown) k x = absurd (none_some k)
  enter_ends code world f id (One size) (One (Exactly v)) k x = absurd (none_some k)
  enter_ends code world f id (One size) Forgets k x = absurd (none_some k)
  enter_ends code world f id (One size) Zero k x = absurd (none_some k)
  enter_ends code world f id (One size) (Two a b) k x = absurd (none_some k)
  enter_ends code world f id (One size) (Four a b c d) k x = absurd (none_some k)
  enter_ends code world f id Forgets r k x = absurd (none_some k)
  enter_ends code world f id Zero r k x = absurd (none_some k)
  enter_ends code world f id (Two a b) r k x = absurd (none_some k)
  enter_ends code world f id (Four a b c d) r k x = absurd (none_some k)

  -- ---- ceilings

  null_ends : (v : Value) (next : ℕ → Effect) → v ≡ Null → Some NullPointer ≡ Some fault → Ends fault (as_object v next)
  null_ends v next e k = subst (λ (u : Value). Ends fault (as_object u next)) (sym e) (ends_now NullPointer k)

  pub ceiling_ends : (code : Code) (world : Environment) (f : Frame) (id : ℕ) (object ceiling : Left) →
      ceiling_fault object ceiling ≡ Some fault →
      Operands (with_left ceiling (with_left object nothing)) f.operands →
      Ends fault (effect_of code world f (SETCEILING id))
  unfolding effect_of ceiling_fault with_left
  ceiling_ends code world f id (One (Exactly Null)) (One ceiling) k x =
      ends_pop (put ceiling (put (Exactly Null) nothing)) f (λ v g. pop g (λ w l. ceiled l v w)) x (λ v g h y.
      ends_pop (put (Exactly Null) nothing) g (λ w l. ceiled l v w) y (λ w l i t.
      null_ends w (λ r. as_int v (λ c. behind_object l r c)) (holds_null w i) k))
  ceiling_ends code world f id (One Object) (One ceiling) k x =
      ends_pop (put ceiling (put Object nothing)) f (λ v g. pop g (λ w l. ceiled l v w)) x (λ v g h y.
      ends_pop (put Object nothing) g (λ w l. ceiled l v w) y (λ w l i t.
      let test = if_is (is_known (λ z. not (is_priority z)) ceiling) BadPriority k in
      let z = known_test (λ z. not (is_priority z)) ceiling v test.0 h in
      let o = holds_object w i in
      ends_object w o.0 (λ r. as_int v (λ c. behind_object l r c)) o.1
      (ends_int v z.0 (λ c. behind_object l o.0 c) z.1
      (ends_false (is_priority z.0) (SetsCeiling l o.0 (unsigned_abs z.0)) (Faults BadPriority)
      (not_true (is_priority z.0) z.2) (ends_now BadPriority test.1)))))
  ceiling_ends code world f id (One (Exactly (Int z))) u k x = absurd (none_some k)
  ceiling_ends code world f id (One (Exactly (Truth b))) u k x = absurd (none_some k)
  ceiling_ends code world f id (One (Exactly (At r))) u k x = absurd (none_some k)
  ceiling_ends code world f id (One Unknown) u k x = absurd (none_some k)
  ceiling_ends code world f id (One (Exactly Null)) Forgets k x = absurd (none_some k)
  ceiling_ends code world f id (One (Exactly Null)) Zero k x = absurd (none_some k)
  ceiling_ends code world f id (One (Exactly Null)) (Two a b) k x = absurd (none_some k)
  ceiling_ends code world f id (One (Exactly Null)) (Four a b c d) k x = absurd (none_some k)
  ceiling_ends code world f id (One Object) Forgets k x = absurd (none_some k)
  ceiling_ends code world f id (One Object) Zero k x = absurd (none_some k)
  ceiling_ends code world f id (One Object) (Two a b) k x = absurd (none_some k)
  ceiling_ends code world f id (One Object) (Four a b c d) k x = absurd (none_some k)
  ceiling_ends code world f id Forgets u k x = absurd (none_some k)
  ceiling_ends code world f id Zero u k x = absurd (none_some k)
  ceiling_ends code world f id (Two a b) u k x = absurd (none_some k)
  ceiling_ends code world f id (Four a b c d) u k x = absurd (none_some k)

  -- ---- forms

  -- a test that is known to hold of a number holds of the number that is there
  test_holds : (test : ℤ → Bool) (k : Known) (z : ℤ) → is_known test k ≡ true → Holds k (Some (Int z)) → test z ≡ true
  test_holds test k z e h =
      let t = known_test test k (Int z) e h in
      ap test (let same : z ≡ t.0 = cc (t.1) in same) ∙ t.2

  never_negative : (n : ℕ) → is_negative (pos n) ≡ false
  never_negative n = grind (arith, nat_tests)

  negative_none : (m n : ℤ) → is_negative m ≡ true → units_of m n ≡ None
  negative_none (pos a) n e = absurd (cc (e, never_negative a))
  negative_none (negsuc a) n e = refl

  none_or : (b : Bool) (u v : ℕ) → not (is_some (if b then Some u else None)) ≡ true →
      (if b then Some v else None) ≡ None
  none_or true u v e = absurd (cc (e))
  none_or false u v e = refl

  wrong_none : (m n : ℤ) → not (is_some (units_of (pos 0) n)) ≡ true → units_of m n ≡ None
  wrong_none (pos a) (pos b) e =
      none_or ((b % 1000 == 0) && nat_lt b 1000000) (1000 * 0 + b / 1000) (1000 * a + b / 1000) e
  wrong_none (pos a) (negsuc b) e = refl
  wrong_none (negsuc a) n e = refl

  module _ (ms ns : Known) (m n : ℤ) (h : Holds ms (Some (Int m))) (k : Holds ns (Some (Int n))) where
    wrong_time : is_wrong_time ms ns ≡ true → units_of m n ≡ None
    unfolding is_wrong_time
    wrong_time e = go (is_known is_negative ms) refl e
      where
        go : (b : Bool) → is_known is_negative ms ≡ b →
            (if b then true else is_known (λ z. not (is_some (units_of (pos 0) z))) ns) ≡ true → units_of m n ≡ None
        go true t u = negative_none m n (test_holds is_negative ms m t h)
        go false t u = wrong_none m n (test_holds (λ z. not (is_some (units_of (pos 0) z))) ns n u k)

  -- a test of a number that is known tells of the number that is there
  test_is : (test : ℤ → Bool) (k : Known) (z : ℤ) → is_some (known_number k) ≡ true → Holds k (Some (Int z)) →
      is_known test k ≡ test z
  unfolding known_number is_known
  test_is test (Exactly (Int y)) z e h = ap test (let same : y ≡ z = cc (h) in same)
  test_is test (Exactly (Truth b)) z e h = absurd (cc (e))
  test_is test (Exactly Null) z e h = absurd (cc (e))
  test_is test (Exactly (At r)) z e h = absurd (cc (e))
  test_is test Unknown z e h = absurd (cc (e))
  test_is test Object z e h = absurd (cc (e))

  -- a time that is known and not wrong
  record IsRight (m n : ℤ) : Type 0 where
    a : ℕ
    b : ℕ
    ms : m ≡ pos a
    ns : n ≡ pos b
    whole : ((b % 1000 == 0) && nat_lt b 1000000) ≡ true

  right_time : (m n : ℤ) → is_negative m ≡ false → not (is_some (units_of (pos 0) n)) ≡ false → IsRight m n
  right_time (pos a) (pos b) e f =
      record { a = a; b = b; ms = refl; ns = refl; whole = go ((b % 1000 == 0) && nat_lt b 1000000) refl f }
    where
      go : (t : Bool) → ((b % 1000 == 0) && nat_lt b 1000000) ≡ t →
          not (is_some (if t then Some (1000 * 0 + b / 1000) else None)) ≡ false →
          ((b % 1000 == 0) && nat_lt b 1000000) ≡ true
      go true u v = u
      go false u v = absurd (cc (v))
  right_time (pos a) (negsuc b) e f = absurd (cc (f))
  right_time (negsuc a) n e f = absurd (cc (e))

  right_units : (m n : ℤ) (x : IsRight m n) → units_of m n ≡ Some (1000 * x.a + x.b / 1000)
  right_units m n x =
      ap (λ z. units_of z n) x.ms ∙ ap (units_of (pos x.a)) x.ns
      ∙ ap (λ (t : Bool). if t then Some (1000 * x.a + x.b / 1000) else None) x.whole

  both_are : (t u : Bool) → (t && u) ≡ true → (t ≡ true) × (u ≡ true)
  both_are true true e = (refl, refl)
  both_are true false e = absurd (cc (e))
  both_are false u e = absurd (cc (e))

  -- ---- the numbers of a form, each of which is what is known of it

  module _ (r : ℕ) (g : Frame) (kp ksms ksns kpms kpns kst : Known) (priority sms sns pms pns storage : ℤ)
      (hp : Holds kp (Some (Int priority))) (hsms : Holds ksms (Some (Int sms))) (hsns : Holds ksns (Some (Int sns)))
      (hpms : Holds kpms (Some (Int pms))) (hpns : Holds kpns (Some (Int pns))) (hst : Holds kst (Some (Int storage)))
    where
      abbrev Timed : Option (ℕ × ℕ) → Effect
      Timed o = elim o as (λ z. Effect) [
        | None ↦ Faults BadPeriod
        | Some times ↦
            if is_negative storage then Faults NegativeSize
            else SetsHidden g r (Int priority ∷ Int storage ∷ Int (pos times.0) ∷ Int (pos times.1) ∷ [])
      ]

      none_timed : times_of sms sns pms pns ≡ None → Some BadPeriod ≡ Some fault →
          Ends fault (Timed (times_of sms sns pms pns))
      none_timed e k = subst (λ (o : Option (ℕ × ℕ)). Ends fault (Timed o)) (sym e) (ends_now BadPeriod k)

      stored : storage_fault kst ≡ Some fault → (o : Option (ℕ × ℕ)) → (t : ℕ × ℕ) → o ≡ Some t → Ends fault (Timed o)
      unfolding storage_fault
      stored k o t e =
          let test = if_is (is_known is_negative kst) NegativeSize k in
          subst (λ (o : Option (ℕ × ℕ)). Ends fault (Timed o)) (sym e)
          (subst (λ (b : Bool). Ends fault (if b then Faults NegativeSize
          else SetsHidden g r (Int priority ∷ Int storage ∷ Int (pos t.0) ∷ Int (pos t.1) ∷ [])))
          (sym (test_holds is_negative kst storage test.0 hst)) (ends_now NegativeSize test.1))

      abbrev Behind : ℕ → Option ℕ → Option (ℕ × ℕ)
      Behind start period = option_map (λ p. (start, p)) period

      start_wrong : units_of sms sns ≡ None → times_of sms sns pms pns ≡ None
      start_wrong e = ap (λ (o : Option ℕ). o >>= (λ start. Behind start (units_of pms pns))) e

      none_behind : (period : Option ℕ) → ((start : ℕ) → Behind start period ≡ None) → (o : Option ℕ) →
          (o >>= (λ start. Behind start period)) ≡ None
      none_behind period h None = refl
      none_behind period h (Some start) = h start

      period_wrong : units_of pms pns ≡ None → times_of sms sns pms pns ≡ None
      period_wrong e = none_behind (units_of pms pns) (λ start. ap (Behind start) e) (units_of sms sns)

      right_of : (ms ns : Known) (m n : ℤ) → Holds ms (Some (Int m)) → Holds ns (Some (Int n)) →
          is_known_time ms ns ≡ true → is_wrong_time ms ns ≡ false → IsRight m n
      unfolding is_known_time is_wrong_time
      right_of ms ns m n h k t w =
          let both = both_are (is_some (known_number ms)) (is_some (known_number ns)) t in
          let negative = test_is is_negative ms m both.0 h in
          let whole = test_is (λ z. not (is_some (units_of (pos 0) z))) ns n both.1 k in
          go (is_known is_negative ms) refl w negative whole
        where
          go : (b : Bool) → is_known is_negative ms ≡ b →
              (if b then true else is_known (λ z. not (is_some (units_of (pos 0) z))) ns) ≡ false →
              is_known is_negative ms ≡ is_negative m →
              is_known (λ z. not (is_some (units_of (pos 0) z))) ns ≡ not (is_some (units_of (pos 0) n)) → IsRight m n
          go true a w p q = absurd (cc (w))
          go false a w p q = right_time m n (sym p ∙ a) (sym q ∙ w)

      times_right : is_known_time ksms ksns ≡ true → is_known_time kpms kpns ≡ true → is_wrong_time ksms ksns ≡ false →
          is_wrong_time kpms kpns ≡ false → (t : ℕ × ℕ) × (times_of sms sns pms pns ≡ Some t)
      times_right ks kq ws wp =
          let start = right_of ksms ksns sms sns hsms hsns ks ws in
          let period = right_of kpms kpns pms pns hpms hpns kq wp in (
            (1000 * start.a + start.b / 1000, 1000 * period.a + period.b / 1000),
            ap (λ (o : Option ℕ). o >>= (λ start. Behind start (units_of pms pns))) (right_units sms sns start)
                ∙ ap (Behind (1000 * start.a + start.b / 1000)) (right_units pms pns period),
          )

      times_end : (next : Option RunFault) → next ≡ storage_fault kst →
          times_fault ksms ksns kpms kpns next ≡ Some fault → Ends fault (Timed (times_of sms sns pms pns))
      unfolding times_fault
      times_end next same e =
          go (is_wrong_time ksms ksns) refl (is_wrong_time kpms kpns) refl (is_known_time ksms ksns) refl
          (is_known_time kpms kpns) refl e
        where
          go : (a : Bool) → is_wrong_time ksms ksns ≡ a → (b : Bool) → is_wrong_time kpms kpns ≡ b → (u : Bool) →
              is_known_time ksms ksns ≡ u → (v : Bool) → is_known_time kpms kpns ≡ v →
              (if a then Some BadPeriod else (if b then Some BadPeriod else (if u && v then next else None)))
              ≡ Some fault →
              Ends fault (Timed (times_of sms sns pms pns))
          go true t b x u p v q e = none_timed (start_wrong (wrong_time ksms ksns sms sns hsms hsns t)) e
          go false t true x u p v q e = none_timed (period_wrong (wrong_time kpms kpns pms pns hpms hpns x)) e
          go false t false x true p true q e =
              (let right = times_right p q t x in
              stored (sym same ∙ e) (times_of sms sns pms pns) right.0 right.1)
          go false t false x true p false q e = absurd (none_some e)
          go false t false x false p v q e = absurd (none_some e)

      -- a priority, and what is asked behind it
      priority_ends : (next : Option RunFault) (then_ : Effect) → priority_fault kp next ≡ Some fault →
          (next ≡ Some fault → Ends fault then_) →
          Ends fault (if not (is_priority priority) then Faults BadPriority else then_)
      unfolding priority_fault
      priority_ends next then_ e more =
          go (is_known (λ z. not (is_priority z)) kp) refl (is_known is_priority kp) refl e
        where
          go : (a : Bool) → is_known (λ z. not (is_priority z)) kp ≡ a → (b : Bool) → is_known is_priority kp ≡ b →
              (if a then Some BadPriority else (if b then next else None)) ≡ Some fault →
              Ends fault (if not (is_priority priority) then Faults BadPriority else then_)
          go true t b u k =
              subst (λ (b : Bool). Ends fault (if b then Faults BadPriority else then_))
              (sym (test_holds (λ z. not (is_priority z)) kp priority t hp)) (ends_now BadPriority k)
          go false t true u k =
              subst (λ (b : Bool). Ends fault (if b then Faults BadPriority else then_))
              (sym (ap not (test_holds is_priority kp priority u hp))) (more k)
          go false t false u k = absurd (none_some k)

      pub periodic_ends : priority_fault kp (times_fault ksms ksns kpms kpns (storage_fault kst)) ≡ Some fault →
          Ends fault
          (periodic_parameters g r (Int priority ∷ Int sms ∷ Int sns ∷ Int pms ∷ Int pns ∷ Int storage ∷ []))
      periodic_ends e =
          priority_ends (times_fault ksms ksns kpms kpns (storage_fault kst)) (Timed (times_of sms sns pms pns)) e
          (λ k. times_end (storage_fault kst) refl k)

      pub parameters_end : (next : ℤ → ℤ → Effect) → priority_fault kp (storage_fault kst) ≡ Some fault →
          Ends fault (right_parameters (Int priority ∷ Int storage ∷ []) next)
      unfolding storage_fault
      parameters_end next e =
          priority_ends (storage_fault kst)
          (if is_negative storage then Faults NegativeSize else next priority storage) e
          (λ k. (let test = if_is (is_known is_negative kst) NegativeSize k in
          subst (λ (b : Bool). Ends fault (if b then Faults NegativeSize else next priority storage))
          (sym (test_holds is_negative kst storage test.0 hst)) (ends_now NegativeSize test.1)))
