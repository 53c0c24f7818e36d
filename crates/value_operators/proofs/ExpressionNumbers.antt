-- Reading an expression keeps what fits: 2147483648 is read only behind a `-`.
use Rattle.std.proofs.Common.{ℕ, Bool, List}
use Rattle.scj_base.specs.declared.positions.Position.{Position}
use Rattle.scj_tree.specs.declared.nodes.Node.{Node}
use Rattle.scj_tree.specs.declared.parsed_parts.PostKind.{PostKind}
use Rattle.scj_tree.specs.Lexemes.{Lexeme}
use Rattle.scj_tree.specs.Expressions.{Level, UnaryRead, Unary1Read, PostRead, ArgumentRead, ArgumentsBegun, ArgumentsRead, operand, tighter, binary, minus, minimum_unary, plain_unary, negation, complement, cast, post_unary, simple_name, simple_call, field_of, call_of, element_of, number, minimum_number, true_value, false_value, null_value, this_value, parenthesized, parenthesized_name, new_object, new_ints, new_booleans, new_references, expression_argument, text_argument, no_argument_yet, argument_and_comma, no_arguments, arguments}
use Rattle.value_operators.specs.Literals.{HasInt}
use Rattle.value_operators.proofs.Numbers.{Fits, made, behind, behind2, behind3, number_first, below}

mutual
  unfolding HasInt

  pub level_fits : {n : ℕ} {N N1 : List Node} {i o : List Lexeme} {id : ℕ} → Level n N i N1 o id → Fits N i → Fits N1 o
  level_fits (operand d) h = unary_fits d h
  level_fits (tighter d) h = level_fits d h
  level_fits (binary e l r) h = made _ (level_fits r (behind (level_fits l h))) tt

  unary_fits : {N N1 : List Node} {i o : List Lexeme} {id : ℕ} → UnaryRead N i N1 o id → Fits N i → Fits N1 o
  unary_fits (minus e d) h = made _ (unary_fits d (behind h)) tt
  unary_fits (minimum_unary d) h = post_fits d h
  unary_fits (plain_unary d) h = unary1_fits d h

  unary1_fits : {N N1 : List Node} {i o : List Lexeme} {id : ℕ} → Unary1Read N i N1 o id → Fits N i → Fits N1 o
  unary1_fits (negation d) h = made _ (unary_fits d (behind h)) tt
  unary1_fits (complement d) h = made _ (unary_fits d (behind h)) tt
  unary1_fits (cast e d) h = made _ (unary1_fits d (behind3 h)) tt
  unary1_fits (post_unary d) h = post_fits d h

  pub post_fits : {minimum : Bool} {kind : PostKind} {p : Position} {N N1 : List Node} {i o : List Lexeme} {id : ℕ} →
      PostRead minimum kind p N i N1 o id → Fits N i → Fits N1 o
  post_fits simple_name h = made _ (behind h) tt
  post_fits (simple_call d) h = made _ (arguments_fit d (behind2 h)) tt
  post_fits (field_of d) h = made _ (behind2 (post_fits d h)) tt
  post_fits (call_of d e) h = made _ (arguments_fit e (behind3 (post_fits d h))) tt
  post_fits (element_of e d x) h = made _ (behind (level_fits x (behind (post_fits d h)))) tt
  post_fits (number e) h = made _ (behind h) (below _ e (number_first h))
  post_fits minimum_number h = made _ (behind2 h) (number_first (behind h))
  post_fits true_value h = made _ (behind h) tt
  post_fits false_value h = made _ (behind h) tt
  post_fits null_value h = made _ (behind h) tt
  post_fits this_value h = made _ (behind h) tt
  post_fits (parenthesized e d) h = made _ (behind (level_fits d (behind h))) tt
  post_fits (parenthesized_name e) h = made _ (made _ (behind3 h) tt) tt
  post_fits (new_object d) h = made _ (arguments_fit d (behind3 h)) tt
  post_fits (new_ints d) h = made _ (behind (level_fits d (made _ (behind3 h) tt))) tt
  post_fits (new_booleans d) h = made _ (behind (level_fits d (made _ (behind3 h) tt))) tt
  post_fits (new_references d) h = made _ (behind (level_fits d (made _ (behind3 h) tt))) tt

  argument_fits : {N N1 : List Node} {i o : List Lexeme} {id : ℕ} → ArgumentRead N i N1 o id → Fits N i → Fits N1 o
  argument_fits (expression_argument d) h = level_fits d h
  argument_fits text_argument h = made _ (behind h) tt

  arguments_begun_fit : {N N1 : List Node} {i o : List Lexeme} {ids : List ℕ} → ArgumentsBegun N i N1 o ids →
      Fits N i → Fits N1 o
  arguments_begun_fit no_argument_yet h = h
  arguments_begun_fit (argument_and_comma d e) h = behind (argument_fits e (arguments_begun_fit d h))

  pub arguments_fit : {N N1 : List Node} {i o : List Lexeme} {ids : List ℕ} → ArgumentsRead N i N1 o ids →
      Fits N i → Fits N1 o
  arguments_fit no_arguments h = behind h
  arguments_fit (arguments d e) h = behind (argument_fits e (arguments_begun_fit d h))
