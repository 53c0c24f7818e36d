-- What productions begin with and may be followed by, as tests on lexemes.
use Rattle.std.proofs.Common.{ap, arith, refl, sym, ◌∙◌}
use Rattle.std.proofs.lemmas.Bool.{eqb-true, le-leb, leb-true}
use Rattle.std.specs.Prelude.{Bool, List, None, Option, Some, [], false, is_some, nat_le, not, suc, true, ℕ, ◌&&◌, ◌==◌, ◌||◌, ◌∷◌, ◌≡◌, ◌≤◌}
use Rattle.parser_machine.specs.Operands.{is_operand_start}
use Rattle.scj_base.specs.Vocabulary.{sign_dot, sign_left_bracket, sign_left_parenthesis}
use Rattle.scj_base.specs.declared.positions.Position.{Position}
use Rattle.scj_tree.specs.Expressions.{Level, PostRead, Unary1Read, UnaryRead, binary, call_of, cast, complement, element_of, false_value, field_of, minimum_number, minimum_unary, minus, negation, new_booleans, new_ints, new_object, new_references, null_value, number, operand, parenthesized, parenthesized_name, plain_unary, post_unary, simple_call, simple_name, this_value, tighter, true_value}
use Rattle.scj_tree.specs.Lexemes.{Lexeme, a_name, a_number, a_sign, a_text, a_word, the_end}
use Rattle.scj_tree.specs.Terminals.{compound, is_unary1_start, level, stepping}
use Rattle.scj_tree.specs.declared.nodes.Node.{Node}
use Rattle.scj_tree.specs.declared.parsed_parts.PostKind.{PostKind}
use mathlib.Core.Bool.{true≢false}

-- ---- truth values and numbers

pub or_left : (a b : Bool) → (a || b) ≡ false → a ≡ false
or_left false b e = refl
or_left true b e = e

pub or_right : (a b : Bool) → (a || b) ≡ false → b ≡ false
or_right false b e = e
or_right true b e = absurd (true≢false e)

pub and_left : (a b : Bool) → (a && b) ≡ true → a ≡ true
and_left true b e = refl
and_left false b e = e

pub and_right : (a b : Bool) → (a && b) ≡ true → b ≡ true
and_right true b e = e
and_right false b e = absurd (true≢false (sym e))

pub both : (a b : Bool) → a ≡ true → b ≡ true → (a && b) ≡ true
both true b e f = f
both false b e f = e

pub not_true : (a : Bool) → not a ≡ true → a ≡ false
not_true false e = refl
not_true true e = absurd (true≢false (sym e))

pub not_false : (a : Bool) → a ≡ false → not a ≡ true
not_false false e = refl
not_false true e = absurd (true≢false e)

pub never : {A : Type 0} → false ≡ true → A
never e = absurd (true≢false (sym e))

-- numbers that a test tells apart are different
pub differs : (f : ℕ → Bool) (n k : ℕ) → f n ≡ true → f k ≡ false → (n == k) ≡ false
differs f n k e g = decide (n == k) (λ h. true≢false (sym e ∙ (ap f (eqb-true n k h) ∙ g)))
  where
    decide : (b : Bool) → (b ≡ true → Prim.⊥) → b ≡ false
    decide true impossible = absurd (impossible refl)
    decide false impossible = refl

pub none_of : (r : Option ℕ) → is_some r ≡ false → r ≡ None
none_of None e = refl
none_of (Some x) e = absurd (true≢false e)

-- ---- behind an operand

-- a sign that goes on with a name, a call or an element
unfoldable pub calls_on : ℕ → Bool
calls_on n = n == sign_left_parenthesis || (is_some (compound n) || is_some (stepping n))

unfoldable pub continues : ℕ → Bool
continues n = n == sign_dot || (n == sign_left_bracket || calls_on n)

-- the lexemes do not go on with a name
unfoldable pub follows : List Lexeme → Bool
follows (a_sign n p ∷ o) = not (calls_on n)
follows _ = true

-- the lexemes do not go on with an expression of a level
unfoldable pub ends : ℕ → List Lexeme → Bool
ends n (a_sign m p ∷ o) = nat_le (level m) n && not (continues m)
ends n _ = true

pub follows_of : (n : ℕ) (o : List Lexeme) → ends n o ≡ true → follows o ≡ true
unfolding follows ends continues
follows_of n [] e = refl
follows_of n (a_name w p ∷ o) e = refl
follows_of n (a_word w p ∷ o) e = refl
follows_of n (a_number w p ∷ o) e = refl
follows_of n (a_text w p ∷ o) e = refl
follows_of n (a_sign m p ∷ o) e =
    not_false _
    (or_right (m == sign_left_bracket) (calls_on m) (or_right (m == sign_dot) _ (not_true _ (and_right _ _ e))))
follows_of n (the_end p ∷ o) e = refl

pub ends_up : (n : ℕ) (o : List Lexeme) → ends n o ≡ true → ends (suc n) o ≡ true
unfolding ends
ends_up n [] e = refl
ends_up n (a_name w p ∷ o) e = refl
ends_up n (a_word w p ∷ o) e = refl
ends_up n (a_number w p ∷ o) e = refl
ends_up n (a_text w p ∷ o) e = refl
ends_up n (a_sign m p ∷ o) e = let h : level m ≤ n = leb-true _ _ (and_left _ _ e) in
    both _ _ (le-leb (level m) (suc n) (omega (arith, h))) (and_right _ _ e)
ends_up n (the_end p ∷ o) e = refl

-- an operator is no such sign
unfoldable operates : ℕ → Bool
operates n = nat_le 1 (level n)

no_compound : (n : ℕ) → operates n ≡ true → compound n ≡ None
unfolding operates level compound
no_compound n e =
    rw (d 36 refl)
    (rw (d 37 refl)
    (rw (d 38 refl)
    (rw (d 39 refl)
    (rw (d 40 refl)
    (rw (d 41 refl) (rw (d 42 refl) (rw (d 43 refl) (rw (d 44 refl) (rw (d 45 refl) (rw (d 46 refl) refl))))))))))
  where
    d : (k : ℕ) → operates k ≡ false → (n == k) ≡ false
    d k = differs operates n k e

no_stepping : (n : ℕ) → operates n ≡ true → stepping n ≡ None
unfolding operates level stepping
no_stepping n e = rw (differs operates n 34 e refl) (rw (differs operates n 35 e refl) refl)

pub operator_ends : (n : ℕ) → nat_le 1 (level n) ≡ true → continues n ≡ false
unfolding operates level continues calls_on
operator_ends n e =
    rw (differs operates n sign_dot e refl)
    (rw (differs operates n sign_left_bracket e refl)
    (rw (differs operates n sign_left_parenthesis e refl) (rw (no_compound n e) (rw (no_stepping n e) refl))))

pub operator_rest : (n : ℕ) (p : Position) (o : List Lexeme) → nat_le 1 (level n) ≡ true →
    ends (level n) (a_sign n p ∷ o) ≡ true
unfolding ends
operator_rest n p o e = both _ _ (le-leb (level n) (level n) (omega arith)) (not_false _ (operator_ends n e))

-- ---- what an expression begins with

unfoldable pub begins_operand : List Lexeme → Bool
begins_operand [] = false
begins_operand (t ∷ o) = is_operand_start t

mutual
  unfolding begins_operand is_operand_start is_unary1_start

  pub level_begins : {n : ℕ} {N N1 : List Node} {i o : List Lexeme} {e : ℕ} → Level n N i N1 o e →
      begins_operand i ≡ true
  level_begins (operand d) = unary_begins d
  level_begins (tighter d) = level_begins d
  level_begins (binary h l r) = level_begins l

  unary_begins : {N N1 : List Node} {i o : List Lexeme} {e : ℕ} → UnaryRead N i N1 o e → begins_operand i ≡ true
  unary_begins (minus h d) = refl
  unary_begins (minimum_unary d) = post_begins d
  unary_begins (plain_unary d) = unary1_begins d

  unary1_begins : {N N1 : List Node} {i o : List Lexeme} {e : ℕ} → Unary1Read N i N1 o e → begins_operand i ≡ true
  unary1_begins (negation d) = refl
  unary1_begins (complement d) = refl
  unary1_begins (cast h d) = refl
  unary1_begins (post_unary d) = post_begins d

  pub post_begins : {m : Bool} {k : PostKind} {p : Position} {N N1 : List Node} {i o : List Lexeme} {e : ℕ} →
      PostRead m k p N i N1 o e → begins_operand i ≡ true
  post_begins simple_name = refl
  post_begins (simple_call a) = refl
  post_begins (field_of d) = post_begins d
  post_begins (call_of d a) = post_begins d
  post_begins (element_of h d x) = post_begins d
  post_begins (number h) = refl
  post_begins minimum_number = refl
  post_begins true_value = refl
  post_begins false_value = refl
  post_begins null_value = refl
  post_begins this_value = refl
  post_begins (parenthesized h d) = refl
  post_begins (parenthesized_name h) = refl
  post_begins (new_object a) = refl
  post_begins (new_ints d) = refl
  post_begins (new_booleans d) = refl
  post_begins (new_references d) = refl
