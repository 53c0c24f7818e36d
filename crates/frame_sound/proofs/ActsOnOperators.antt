-- The operators: each is defined on operands of the kinds that the rules ask, and its value is of the kind that they
-- give.
use Rattle.std.specs.Prelude.{Option, Some, None, ◌==◌, ◌||◌, not, is_some, if◌then◌else◌, ℤ, option_map}
use Rattle.std.proofs.Common.{◌≡◌, ℕ, List, ◌∷◌, Bool, true, false, refl, sym, ◌∙◌, ap, subst, inl, inr}
use Rattle.scj_base.specs.declared.faults.RunFault.TheVariants.{DivideByZero}
use Rattle.scj_base.specs.declared.values.Value.{Value}
use Rattle.scj_base.specs.declared.values.Value.TheVariants.{Int, Bool as Truth, Null, At}
use Rattle.scj_base.specs.Vocabulary.{sign_equal, sign_not_equal, sign_minus, sign_not, sign_tilde}
use Rattle.accepted_laws.specs.Kinds.{Kind, number, truth, reference}
use Rattle.accepted_laws.proofs.Tools.{some_inj}
use Rattle.scj_model.specs.declared.operations.Op.TheVariants.{Unary as UNARY, Bin as BIN}
use Rattle.scj_model.specs.Arithmetic.{entry, int_operators, comparisons, are_equal, of_ints, on_ints, binary_value, divides_by_zero, unary_value}
use Rattle.scj_model.specs.Effects.{Faults, given, pushes}
use Rattle.scj_model.specs.Operations.{effect_of}
use Rattle.scope_flow.specs.Needs.{kind_of_unary, kind_of_ints, kind_of_equality, kind_of_binary}
use Rattle.frame_sound.specs.Places.{Place, held, an_object, Has}
use Rattle.frame_sound.proofs.Scenes.{Scene, memory, den, Holds, HoldAll, FlowsOn, Ok, take, next_taken, pop_fine, given_fine, goes_fine}
use Rattle.frame_sound.proofs.ActsOnValues.{Does, ValueOf}

module _ (m : Scene) where
  number_of : (z : ℤ) (k : Kind) → Some number ≡ Some k → ValueOf m (Some (Int z)) k
  unfolding held
  number_of z k e =
      record { value = Int z; is = refl; has = subst (λ k. Holds m k (Int z)) (some_inj number k e) (z, refl) }

  truth_of : (b : Bool) (k : Kind) → Some truth ≡ Some k → ValueOf m (Some (Truth b)) k
  unfolding held
  truth_of b k e =
      record { value = Truth b; is = refl; has = subst (λ k. Holds m k (Truth b)) (some_inj truth k e) (b, refl) }

  -- ---- one operand

  unary_number : (operator : ℕ) (z : ℤ) (k : Kind) → kind_of_unary operator number ≡ Some k →
      ValueOf m (unary_value operator (Int z)) k
  unfolding kind_of_unary unary_value
  unary_number operator z k e = go (operator == sign_minus) (operator == sign_tilde) _ _ e
    where
      go : (a b : Bool) (x y : ℤ) → (if a || b then Some number else None) ≡ Some k →
          ValueOf m (if a then Some (Int x) else (if b then Some (Int y) else None)) k
      go true b x y e = number_of x k e
      go false true x y e = number_of y k e
      go false false x y e = absurd (cc (e))

  unary_truth : (operator : ℕ) (b : Bool) (k : Kind) → kind_of_unary operator truth ≡ Some k →
      ValueOf m (unary_value operator (Truth b)) k
  unfolding kind_of_unary unary_value
  unary_truth operator b k e = go (operator == sign_not) e
    where
      go : (a : Bool) → (if a then Some truth else None) ≡ Some k →
          ValueOf m (if a then Some (Truth (not b)) else None) k
      go true e = truth_of (not b) k e
      go false e = absurd (cc (e))

  unary_gives : (operator : ℕ) (operand k : Kind) → kind_of_unary operator operand ≡ Some k → (v : Value) →
      Holds m operand v → ValueOf m (unary_value operator v) k
  unfolding held kind_of_unary
  unary_gives operator number k e v h =
      subst (λ x. ValueOf m (unary_value operator x) k) (sym h.1) (unary_number operator h.0 k e)
  unary_gives operator truth k e v h =
      subst (λ x. ValueOf m (unary_value operator x) k) (sym h.1) (unary_truth operator h.0 k e)
  unary_gives operator _ k e v h = absurd (cc (e))

  pub unary_fine : (id : ℕ) → Does m (UNARY id)
  unfolding effect_of
  unary_fine id l r =
      let n = r.needed in
      let x = take m n.operand n.others n.takes in
      let y = unary_gives n.operator n.operand n.kind n.gives x.v x.has in
      given_fine m _ _ n.operator n.is
      (pop_fine m m.frame.operands _ x.v x.rest x.is
      (given_fine m _ _ y.value y.is
      (goes_fine m l _ (n.kind ∷ n.others) (y.has, x.have) (subst (FlowsOn m m.frame.rest m.known) n.leaves r.goes))))

  -- ---- two operands

  -- what is compared is equal or isn't
  equality_gives : (operator : ℕ) (k : Kind) → kind_of_equality operator ≡ Some k → (left right : Value) (b : Bool) →
      are_equal left right ≡ Some b → ValueOf m (binary_value operator left right) k
  unfolding binary_value
  equality_gives operator k e left right b f =
      subst (λ (o : Option Bool). ValueOf m (if operator == sign_equal then option_map (λ b. Truth b) o
      else (if operator == sign_not_equal then option_map (λ b. Truth (not b)) o else on_ints operator left right)) k)
      (sym f) (go (operator == sign_equal) (operator == sign_not_equal) e)
    where
      go : (x y : Bool) → (if x || (y || false) then Some truth else None) ≡ Some k →
          ValueOf m (if x then Some (Truth b) else (if y then Some (Truth (not b)) else on_ints operator left right)) k
      go true y e = truth_of b k e
      go false true e = truth_of (not b) k e
      go false false e = absurd (cc (e))

  ints_give : (operator : ℕ) (k : Kind) → kind_of_ints operator ≡ Some k → (x y : ℤ) →
      ValueOf m (of_ints operator x y) k
  unfolding kind_of_ints of_ints
  ints_give operator k e x y = go (entry int_operators operator) (entry comparisons operator) e
    where
      go : (f : Option (ℤ → ℤ → ℤ)) (g : Option (ℤ → ℤ → Bool)) →
          (if is_some f then Some number else (if is_some g then Some truth else None)) ≡ Some k →
          ValueOf m (elim f [ Some f ↦ Some (Int (f x y)) | None ↦ option_map (λ (g : ℤ → ℤ → Bool). Truth (g x y)) g ])
          k
      go (Some f) g e = number_of (f x y) k e
      go None (Some g) e = truth_of (g x y) k e
      go None None e = absurd (cc (e))

  numbers_give : (operator : ℕ) (k : Kind) → kind_of_binary operator number number ≡ Some k → (x y : ℤ) →
      ValueOf m (binary_value operator (Int x) (Int y)) k
  unfolding kind_of_binary binary_value are_equal on_ints
  numbers_give operator k e x y = go (operator == sign_equal) (operator == sign_not_equal) _ e
    where
      go : (a b s : Bool) → (if a || (b || false) then Some truth else kind_of_ints operator) ≡ Some k →
          ValueOf m (if a then Some (Truth s) else (if b then Some (Truth (not s)) else of_ints operator x y)) k
      go true b s e = truth_of s k e
      go false true s e = truth_of (not s) k e
      go false false s e = ints_give operator k e x y

  references_equal : (t u : _) (a b : Place) (x y : Value) → Has m.code.program (memory m) (an_object t a) x →
      Has m.code.program (memory m) (an_object u b) y → (z : Bool) × (are_equal x y ≡ Some z)
  unfolding are_equal
  references_equal t u a b x y (inl e) (inl f) = (true, ap (λ z. are_equal z y) e ∙ ap (are_equal Null) f)
  references_equal t u a b x y (inl e) (inr f) = (false, ap (λ z. are_equal z y) e ∙ ap (are_equal Null) f.is)
  references_equal t u a b x y (inr e) (inl f) = (false, ap (λ z. are_equal z y) e.is ∙ ap (are_equal (At e.r)) f)
  references_equal t u a b x y (inr e) (inr f) =
      (_, ap (λ z. are_equal z y) e.is ∙ ap (are_equal (At e.r)) f.is)

  binary_gives : (operator : ℕ) (left right k : Kind) → kind_of_binary operator left right ≡ Some k →
      (x y : Value) → Holds m left x → Holds m right y → ValueOf m (binary_value operator x y) k
  unfolding held kind_of_binary are_equal
  binary_gives operator number number k e x y h i =
      subst (λ z. ValueOf m (binary_value operator z y) k) (sym h.1)
      (subst (λ z. ValueOf m (binary_value operator (Int h.0) z) k) (sym i.1) (numbers_give operator k e h.0 i.0))
  binary_gives operator truth truth k e x y h i =
      subst (λ z. ValueOf m (binary_value operator z y) k) (sym h.1)
      (subst (λ z. ValueOf m (binary_value operator (Truth h.0) z) k) (sym i.1)
      (equality_gives operator k e (Truth h.0) (Truth i.0) _ refl))
  binary_gives operator (reference t s) (reference u r) k e x y h i =
      let q = references_equal t u (den m s) (den m r) x y h i in equality_gives operator k e x y q.0 q.1
  binary_gives operator _ _ k e x y h i = absurd (cc (e))

  pub bin_fine : (id : ℕ) → Does m (BIN id)
  unfolding effect_of
  bin_fine id l r =
      let n = r.needed in
      let x = take m n.right (n.left ∷ n.others) n.takes in
      let y = next_taken m n.left n.others x.rest x.have in
      given_fine m _ _ n.operator n.is
      (pop_fine m m.frame.operands _ x.v x.rest x.is
      (pop_fine m x.rest _ y.v y.rest y.is
      (go x.v y.v y.rest y.have (binary_gives n.operator n.left n.right n.kind n.gives y.v x.v y.has x.has)
      (divides_by_zero n.operator x.v))))
    where
      go : (right left : Value) (rest : List Value) → HoldAll m r.needed.others rest →
          ValueOf m (binary_value r.needed.operator left right) r.needed.kind → (t : Bool) →
          Ok m (if t then Faults DivideByZero
          else given (binary_value r.needed.operator left right)
          (λ value. pushes (record m.frame { operands = rest }) value))
      go right left rest have y true = record { is = tt }
      go right left rest have y false =
          given_fine m _ _ y.value y.is
          (goes_fine m l _ (r.needed.kind ∷ r.needed.others) (y.has, have)
          (subst (FlowsOn m m.frame.rest m.known) r.needed.leaves r.goes))
