-- What operators give has no scope: they give numbers and truth values.
use Rattle.std.specs.Prelude.{Option, Some, None, ◌||◌, ◌==◌, if◌then◌else◌, is_some}
use Rattle.scj_base.specs.Vocabulary.{sign_minus, sign_not, sign_tilde}
use Rattle.std.proofs.Common.{◌≡◌, ℕ, Bool, true, false, refl, sym, ◌∙◌, ap}
use Rattle.scj_model.specs.Arithmetic.{entry, int_operators, comparisons}
use Rattle.accepted_laws.specs.Kinds.{Kind, number, truth, reference}
use Rattle.accepted_laws.proofs.Tools.{some_inj}
use Rattle.scj_model.specs.Code.{Code}
use Rattle.scope_flow.specs.Pushers.{expression, scope_in, IsPushed}
use Rattle.scope_flow.specs.Needs.{kind_of_unary, kind_of_ints, is_equality, kind_of_equality, kind_of_binary}

module _ (code : Code) (c : ℕ) where
  -- operators give numbers and truth values
  plain_if : (id : ℕ) (t : Bool) (j k : Kind) (o : Option Kind) → scope_in j ≡ None →
      (o ≡ Some k → IsPushed code.program c (expression id) k) → (if t then Some j else o) ≡ Some k →
      IsPushed code.program c (expression id) k
  plain_if id true j k o plain other e s h =
      absurd (let x : None ≡ Some s = sym plain ∙ (ap scope_in (some_inj j k e) ∙ h) in cc (x))
  plain_if id false j k o plain other e s h = other e s h

  pub plain_unary : (id operator : ℕ) (j k : Kind) → kind_of_unary operator j ≡ Some k →
      IsPushed code.program c (expression id) k
  unfolding kind_of_unary scope_in
  plain_unary id operator number k e =
      plain_if id ((operator == sign_minus) || (operator == sign_tilde)) number k None refl (λ n. absurd (cc (n))) e
  plain_unary id operator truth k e =
      plain_if id (operator == sign_not) truth k None refl (λ n. absurd (cc (n))) e
  plain_unary id operator _ k e = absurd (cc (e))

  plain_equality : (id operator : ℕ) (k : Kind) → kind_of_equality operator ≡ Some k →
      IsPushed code.program c (expression id) k
  unfolding scope_in
  plain_equality id operator k e =
      plain_if id (is_equality operator) truth k None refl (λ n. absurd (cc (n))) e

  plain_ints : (id operator : ℕ) (k : Kind) → kind_of_ints operator ≡ Some k →
      IsPushed code.program c (expression id) k
  unfolding kind_of_ints scope_in
  plain_ints id operator k e =
      plain_if id (is_some (entry int_operators operator)) number k _ refl
      (λ f. plain_if id (is_some (entry comparisons operator)) truth k None refl (λ n. absurd (cc (n))) f) e

  pub plain_binary : (id operator : ℕ) (i j k : Kind) → kind_of_binary operator i j ≡ Some k →
      IsPushed code.program c (expression id) k
  unfolding kind_of_binary scope_in
  plain_binary id operator number number k e =
      plain_if id (is_equality operator) truth k _ refl (λ f. plain_ints id operator k f) e
  plain_binary id operator truth truth k e = plain_equality id operator k e
  plain_binary id operator (reference t s) (reference u r) k e = plain_equality id operator k e
  plain_binary id operator _ _ k e = absurd (cc (e))
