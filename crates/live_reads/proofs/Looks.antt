-- What operations do with a value of which they ask for an object, by two look-ups that agree there.
use Rattle.std.specs.Prelude.{ℤ, pos, unsigned_abs, codes, length, Option, Some, None, slice_get, if◌then◌else◌}
use Rattle.std.specs.Int.{is_negative}
use Rattle.std.proofs.Common.{◌≡◌, ◌∙◌, ℕ, zero, suc, Bool, true, false, List, [], ◌∷◌, refl, ap, ap₂}
use Rattle.scj_base.specs.declared.values.Value.{Value}
use Rattle.scj_base.specs.declared.values.Value.TheVariants.{Int, Bool as Truth, Null, At}
use Rattle.scj_model.specs.Code.{Code}
use Rattle.scj_model.specs.State.{Object, Frame}
use Rattle.scj_base.specs.declared.faults.RunFault.TheVariants.{ArrayIndex, NegativeSize, ClassCast}
use Rattle.scj_rules.specs.Classes.{is_sub}
use Rattle.scj_rules.specs.ScopeRules.{defined_by_chain}
use Rattle.scj_rules.specs.Layout.{slot_of}
use Rattle.scj_rules.specs.Bodies.{body_named, body_of}
use Rattle.scj_model.specs.Effects.{Effect, Stores, Calls, Opens, new_frame, Stuck, Faults, given, pop, pop_from, as_int, as_object, pushes}
use Rattle.scj_model.specs.Operations.{Environment, index_in, with_area, are_one_area}

-- two look-ups agree at what a value refers to, at what values refer to, and at what a frame refers to
abbrev pub Agrees : (ℕ → Option Object) → (ℕ → Option Object) → Value → Type 0
Agrees g h (At r) = g r ≡ h r
Agrees g h _ = Unit {0}

abbrev pub AllAgree : (ℕ → Option Object) → (ℕ → Option Object) → List Value → Type 0
AllAgree g h [] = Unit {0}
AllAgree g h (v ∷ vs) = Agrees g h v × AllAgree g h vs

pub record FrameAgrees (g h : ℕ → Option Object) (f : Frame) : Type 0 where
  pub operands : AllAgree g h f.operands
  pub this : (r : ℕ) → f.this ≡ Some r → g r ≡ h r

pub given_same : {A : Type 0} (o : Option A) (n k : A → Effect) → ((x : A) → n x ≡ k x) → given o n ≡ given o k
given_same None n k h = refl
given_same (Some x) n k h = h x

pub found_same : {A : Type 0} (o p : Option A) (n : A → Effect) → o ≡ p → given o n ≡ given p n
found_same o p n e = ap (λ q. given q n) e

pub as_int_same : (v : Value) (n k : ℤ → Effect) → ((z : ℤ) → n z ≡ k z) → as_int v n ≡ as_int v k
as_int_same (Int z) n k h = h z
as_int_same (Truth b) n k h = refl
as_int_same Null n k h = refl
as_int_same (At r) n k h = refl

pub if_same : (b : Bool) (x y z : Effect) → y ≡ z → (if b then x else y) ≡ (if b then x else z)
if_same true x y z e = refl
if_same false x y z e = e

module _ (g h : ℕ → Option Object) where
  pub as_object_same : (v : Value) (n k : ℕ → Effect) → Agrees g h v → ((r : ℕ) → g r ≡ h r → n r ≡ k r) →
      as_object v n ≡ as_object v k
  as_object_same (Int z) n k a e = refl
  as_object_same (Truth b) n k a e = refl
  as_object_same Null n k a e = refl
  as_object_same (At r) n k a e = e r a

  pub pop_same : (f : Frame) (n k : Value → Frame → Effect) → AllAgree g h f.operands →
      ((v : Value) (x : Frame) → Agrees g h v → AllAgree g h x.operands → n v x ≡ k v x) → pop f n ≡ pop f k
  pop_same f n k a e = go f.operands a
    where
      go : (vs : List Value) → AllAgree g h vs →
          (elim vs as (λ z. Effect) [ [] ↦ Stuck | value ∷ below ↦ n value (record f { operands = below }) ])
          ≡ (elim vs as (λ z. Effect) [ [] ↦ Stuck | value ∷ below ↦ k value (record f { operands = below }) ])
      go [] b = refl
      go (v ∷ vs) b = e v (record f { operands = vs }) b.0 b.1

  pub pop_from_same : (count : ℕ) (f : Frame) (taken : List Value) (n k : List Value → Frame → Effect) →
      AllAgree g h f.operands →
      ((vs : List Value) (x : Frame) → AllAgree g h x.operands → n vs x ≡ k vs x) →
      pop_from count f taken n ≡ pop_from count f taken k
  pop_from_same zero f taken n k a e = e taken f a
  pop_from_same (suc count) f taken n k a e =
      pop_same f _ _ a (λ v x q rest. pop_from_same count x (v ∷ taken) n k rest e)

-- what operations do with the value of which they ask for an object, by a look-up
abbrev pub Look : Type 0
Look = ℕ → Option Object

abbrev pub get_of : Code → Look → ℕ → Value → Frame → Effect
get_of code look field v x =
    as_object v (λ r. given (look r) (λ (o : Object). given (slot_of code.program o.class field) (λ slot.
    given (slice_get o.slots slot) (λ value. pushes x value))))

abbrev pub length_of : Look → Value → Frame → Effect
length_of look v x = as_object v (λ r. given (look r) (λ (o : Object). pushes x (Int (pos (length o.slots)))))

abbrev pub elem_of : Look → Value → Value → Frame → Effect
elem_of look index v x =
    as_object v (λ r. as_int index (λ i. given (look r) (λ (o : Object). elim (index_in o.slots i) [
      | None ↦ Faults ArrayIndex
      | Some k ↦ given (slice_get o.slots k) (λ value. pushes x value)
    ])))

abbrev pub call_of : Code → Look → ℕ → ℕ → List Value → Value → Frame → Effect
call_of code look id method arguments v x =
    as_object v (λ r. given (look r) (λ (o : Object). given (body_of code.program o.class method) (λ body.
    Calls x (new_frame code body (Some id) (Some r) x.area arguments))))

abbrev pub enter_of : Code → Look → ℕ → Value → Value → Frame → Effect
enter_of code look id runnable size x =
    as_object runnable (λ r. as_int size (λ bytes.
    if is_negative bytes then Faults NegativeSize
    else given (look r) (λ (o : Object). given (body_named code.program o.class (codes "run")) (λ body.
    given (defined_by_chain code.program o.class) (λ scope.
    Opens x (new_frame code body (Some id) (Some r) x.area []) scope (unsigned_abs bytes))))))

abbrev pub execute_of : Code → Look → ℕ → Value → Value → Frame → Effect
execute_of code look id runnable object x =
    as_object object (λ position. as_object runnable (λ r. given (look position) (λ (there : Object).
    given (look r) (λ (o : Object). given (body_named code.program o.class (codes "run")) (λ body.
    Calls x (new_frame code body (Some id) (Some r) there.area []))))))

abbrev pub one_area_of : Environment → Value → Value → Frame → Effect
one_area_of world second first x =
    with_area world first (λ a. with_area world second (λ b. pushes x (Truth (are_one_area a b))))

abbrev pub put_of : Code → Look → ℕ → Value → Value → Frame → Effect
put_of code look field value v x =
    as_object v (λ r. given (look r) (λ (o : Object). given (slot_of code.program o.class field) (λ slot.
    Stores x r slot value)))

abbrev pub put_elem_of : Look → Value → Value → Value → Frame → Effect
put_elem_of look value index v x =
    as_object v (λ r. as_int index (λ i. given (look r) (λ (o : Object). elim (index_in o.slots i) [
      | None ↦ Faults ArrayIndex
      | Some k ↦ Stores x r k value
    ])))

abbrev pub init_of : Code → Look → Frame → Value → ℕ → ℕ → Effect
init_of code look f value field r =
    given (look r) (λ (o : Object). given (slot_of code.program o.class field) (λ slot. Stores f r slot value))

pub given_at : {A : Type 0} (o : Option A) (n k : A → Effect) → ((x : A) → o ≡ Some x → n x ≡ k x) → given o n ≡ given o k
given_at None n k h = refl
given_at (Some x) n k h = h x refl

-- what a cast does with its operand
abbrev pub cast_of : Code → Look → ℕ → Value → Frame → Effect
cast_of code look class operand f =
    elim operand [
      | Null ↦ pushes f Null
      | At r ↦ given (look r) (λ (o : Object).
          if is_sub code.program.classes o.class class then pushes f (At r) else Faults ClassCast)
      | Int z ↦ Stuck
      | Truth b ↦ Stuck
    ]

module _ (code : Code) (w : Environment) (h : ℕ → Option Object) where
  abbrev w2 : Environment
  w2 = record w { object_at = h }

  abbrev g : Look
  g = w.object_at

  pub get_value : (field : ℕ) (v : Value) (x : Frame) → Agrees g h v → get_of code g field v x ≡ get_of code h field v x
  get_value field (Int z) x a = refl
  get_value field (Truth b) x a = refl
  get_value field Null x a = refl
  get_value field (At r) x a = found_same (g r) (h r) _ a

  pub length_value : (v : Value) (x : Frame) → Agrees g h v → length_of g v x ≡ length_of h v x
  length_value (Int z) x a = refl
  length_value (Truth b) x a = refl
  length_value Null x a = refl
  length_value (At r) x a = found_same (g r) (h r) _ a

  pub call_value : (id method : ℕ) (arguments : List Value) (v : Value) (x : Frame) → Agrees g h v → call_of code g id method arguments v x ≡ call_of code h id method arguments v x
  call_value id method arguments (Int z) x a = refl
  call_value id method arguments (Truth b) x a = refl
  call_value id method arguments Null x a = refl
  call_value id method arguments (At r) x a = found_same (g r) (h r) _ a

  pub put_value : (field : ℕ) (value : Value) (v : Value) (x : Frame) → Agrees g h v → put_of code g field value v x ≡ put_of code h field value v x
  put_value field value (Int z) x a = refl
  put_value field value (Truth b) x a = refl
  put_value field value Null x a = refl
  put_value field value (At r) x a = found_same (g r) (h r) _ a

  pub cast_value : (class : ℕ) (v : Value) (x : Frame) → Agrees g h v → cast_of code g class v x ≡ cast_of code h class v x
  cast_value class (Int z) x a = refl
  cast_value class (Truth b) x a = refl
  cast_value class Null x a = refl
  cast_value class (At r) x a = found_same (g r) (h r) _ a

  pub elem_value : (index v : Value) (x : Frame) → Agrees g h v → elem_of g index v x ≡ elem_of h index v x
  elem_value (Truth b) v x a = refl
  elem_value Null v x a = refl
  elem_value (At q) v x a = refl
  elem_value (Int i) (Int z) x a = refl
  elem_value (Int i) (Truth b) x a = refl
  elem_value (Int i) Null x a = refl
  elem_value (Int i) (At r) x a = found_same (g r) (h r) _ a

  pub put_elem_value : (value : Value) (index v : Value) (x : Frame) → Agrees g h v → put_elem_of g value index v x ≡ put_elem_of h value index v x
  put_elem_value value (Truth b) v x a = refl
  put_elem_value value Null v x a = refl
  put_elem_value value (At q) v x a = refl
  put_elem_value value (Int i) (Int z) x a = refl
  put_elem_value value (Int i) (Truth b) x a = refl
  put_elem_value value (Int i) Null x a = refl
  put_elem_value value (Int i) (At r) x a = found_same (g r) (h r) _ a

  pub enter_value : (id : ℕ) (index v : Value) (x : Frame) → Agrees g h v → enter_of code g id v index x ≡ enter_of code h id v index x
  enter_value id (Truth b) v x a = refl
  enter_value id Null v x a = refl
  enter_value id (At q) v x a = refl
  enter_value id (Int i) (Int z) x a = refl
  enter_value id (Int i) (Truth b) x a = refl
  enter_value id (Int i) Null x a = refl
  enter_value id (Int i) (At r) x a = if_same (is_negative i) _ _ _ (found_same (g r) (h r) _ a)

  pub execute_value : (id : ℕ) (runnable object : Value) (x : Frame) → Agrees g h runnable → Agrees g h object →
      execute_of code g id runnable object x ≡ execute_of code h id runnable object x
  execute_value id runnable (Int z) x a b = refl
  execute_value id runnable (Truth z) x a b = refl
  execute_value id runnable Null x a b = refl
  execute_value id (Int z) (At position) x a b = refl
  execute_value id (Truth z) (At position) x a b = refl
  execute_value id Null (At position) x a b = refl
  execute_value id (At r) (At position) x a b =
      ap₂ (λ (p q : Option Object). given p (λ (there : Object). given q (λ (o : Object).
      given (body_named code.program o.class (codes "run")) (λ body.
      Calls x (new_frame code body (Some id) (Some r) there.area []))))) b a

  -- the area of a value, where what is done with it is the same
  pub area_value : (v : Value) (n k : Option ℕ → Effect) → Agrees g h v → ((a : Option ℕ) → n a ≡ k a) →
      with_area w v n ≡ with_area w2 v k
  area_value (Int z) n k a e = refl
  area_value (Truth b) n k a e = refl
  area_value Null n k a e = e None
  area_value (At r) n k a e =
      found_same (g r) (h r) (λ (o : Object). n (Some o.area)) a
      ∙ given_same (h r) (λ (o : Object). n (Some o.area)) (λ (o : Object). k (Some o.area)) (λ o. e (Some o.area))
