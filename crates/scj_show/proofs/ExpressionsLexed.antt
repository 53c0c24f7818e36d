-- A text may hold the lexemes of an expression that was read from a source.
use Rattle.std.proofs.Common.{ℕ, Bool, List, refl}
use Rattle.scj_base.specs.declared.positions.Position.{Position}
use Rattle.scj_tree.specs.declared.nodes.Node.{Node}
use Rattle.scj_tree.specs.declared.parsed_parts.PostKind.{PostKind}
use Rattle.scj_tree.specs.Lexemes.{Lexeme}
use Rattle.scj_tree.specs.Expressions.{Level, UnaryRead, Unary1Read, PostRead, ArgumentRead, ArgumentsBegun, ArgumentsRead, operand, tighter, binary, minus, minimum_unary, plain_unary, negation, complement, cast, post_unary, simple_name, simple_call, field_of, call_of, element_of, number, minimum_number, true_value, false_value, null_value, this_value, parenthesized, parenthesized_name, new_object, new_ints, new_booleans, new_references, expression_argument, text_argument, no_argument_yet, argument_and_comma, no_arguments, arguments}
use Rattle.scj_tree.specs.Forest.{ChildrenFirst}
use Rattle.scj_show.specs.Parts.{parts_of, call_parts, argument_in_brackets, brackets, class_type_parts, object_and_dot, sign_if_set}
use Rattle.scj_show.specs.Symbols.{own_symbols}
use Rattle.scj_show.proofs.Sources.{AreOfSource, behind, behind2, behind3, name_first, text_first, number_first, sign_first}
use Rattle.scj_show.proofs.Rests.{level_rest, post_rest, arguments_begun_rest}
use Rattle.scj_show.proofs.Again.{Front, front-then, front-put, front-at}
use Rattle.scj_show.proofs.ExpressionsAgain.{level_front, argument_front, arguments_front}
use Rattle.scj_show.proofs.NodesLexed.{IsLexed, AllLexed, none_lexed, last, whole_part, name_part, word_part, sign_part, number_part, node_lexed, text_lexed, all-put, in_parentheses_lexed}

mutual
  unfolding own_symbols parts_of call_parts argument_in_brackets brackets class_type_parts object_and_dot sign_if_set

  pub level_lexed : {n : ℕ} {W N N1 : List Node} {i o : List Lexeme} {id : ℕ} → ChildrenFirst 0 W →
      Level n N i N1 o id → AreOfSource i → Front N1 W → IsLexed W id
  level_lexed first (operand d) a f = unary_lexed first d a f
  level_lexed first (tighter d) a f = level_lexed first d a f
  level_lexed first (binary h d e) a f =
      let f1 = front-put _ _ f in
      let a1 = level_rest d a in
      node_lexed first (front-at _ _ f) refl
      (whole_part (level_lexed first d a (front-then (level_front e) f1))
      (sign_part (sign_first a1) (whole_part (level_lexed first e (behind a1) f1) last)))

  unary_lexed : {W N N1 : List Node} {i o : List Lexeme} {id : ℕ} → ChildrenFirst 0 W → UnaryRead N i N1 o id →
      AreOfSource i → Front N1 W → IsLexed W id
  unary_lexed first (minus h d) a f =
      node_lexed first (front-at _ _ f) refl
      (sign_part refl (whole_part (unary_lexed first d (behind a) (front-put _ _ f)) last))
  unary_lexed first (minimum_unary d) a f = post_lexed first d a f
  unary_lexed first (plain_unary d) a f = unary1_lexed first d a f

  unary1_lexed : {W N N1 : List Node} {i o : List Lexeme} {id : ℕ} → ChildrenFirst 0 W → Unary1Read N i N1 o id →
      AreOfSource i → Front N1 W → IsLexed W id
  unary1_lexed first (negation d) a f =
      node_lexed first (front-at _ _ f) refl
      (sign_part refl (whole_part (unary_lexed first d (behind a) (front-put _ _ f)) last))
  unary1_lexed first (complement d) a f =
      node_lexed first (front-at _ _ f) refl
      (sign_part refl (whole_part (unary_lexed first d (behind a) (front-put _ _ f)) last))
  unary1_lexed first (cast h d) a f =
      node_lexed first (front-at _ _ f) refl
      (sign_part refl
      (name_part (name_first (behind a))
      (sign_part refl (whole_part (unary1_lexed first d (behind3 a) (front-put _ _ f)) last))))
  unary1_lexed first (post_unary d) a f = post_lexed first d a f

  pub post_lexed : {minimum : Bool} {kind : PostKind} {p : Position} {W N N1 : List Node} {i o : List Lexeme} {id : ℕ} →
      ChildrenFirst 0 W → PostRead minimum kind p N i N1 o id → AreOfSource i → Front N1 W → IsLexed W id
  post_lexed first simple_name a f = node_lexed first (front-at _ _ f) refl (name_part (name_first a) last)
  post_lexed first (simple_call d) a f =
      node_lexed first (front-at _ _ f) refl
      (name_part (name_first a) (in_parentheses_lexed (arguments_lexed first d (behind2 a) (front-put _ _ f))))
  post_lexed first (field_of d) a f =
      node_lexed first (front-at _ _ f) refl
      (whole_part (post_lexed first d a (front-put _ _ f))
      (sign_part refl (name_part (name_first (behind (post_rest d a))) last)))
  post_lexed first (call_of d e) a f =
      let f1 = front-put _ _ f in
      let a1 = post_rest d a in
      node_lexed first (front-at _ _ f) refl
      (whole_part (post_lexed first d a (front-then (arguments_front e) f1))
      (sign_part refl
      (name_part (name_first (behind a1)) (in_parentheses_lexed (arguments_lexed first e (behind3 a1) f1)))))
  post_lexed first (element_of h d e) a f =
      let f1 = front-put _ _ f in
      node_lexed first (front-at _ _ f) refl
      (whole_part (post_lexed first d a (front-then (level_front e) f1))
      (sign_part refl (whole_part (level_lexed first e (behind (post_rest d a)) f1) (sign_part refl last))))
  post_lexed first (number h) a f = node_lexed first (front-at _ _ f) refl (number_part (number_first a) last)
  post_lexed first minimum_number a f =
      node_lexed first (front-at _ _ f) refl (sign_part refl (number_part (number_first (behind a)) last))
  post_lexed first true_value a f = node_lexed first (front-at _ _ f) refl (word_part refl last)
  post_lexed first false_value a f = node_lexed first (front-at _ _ f) refl (word_part refl last)
  post_lexed first null_value a f = node_lexed first (front-at _ _ f) refl (word_part refl last)
  post_lexed first this_value a f = node_lexed first (front-at _ _ f) refl (word_part refl last)
  post_lexed first (parenthesized h d) a f =
      node_lexed first (front-at _ _ f) refl
      (sign_part refl (whole_part (level_lexed first d (behind a) (front-put _ _ f)) (sign_part refl last)))
  post_lexed first (parenthesized_name h) a f =
      node_lexed first (front-at _ _ f) refl
      (sign_part refl
      (whole_part (node_lexed first (front-at _ _ (front-put _ _ f)) refl (name_part (name_first (behind a)) last))
      (sign_part refl last)))
  post_lexed first (new_object d) a f =
      node_lexed first (front-at _ _ f) refl
      (word_part refl
      (name_part (name_first (behind a))
      (in_parentheses_lexed (arguments_lexed first d (behind3 a) (front-put _ _ f)))))
  post_lexed first (new_ints d) a f =
      let f1 = front-put _ _ f in
      let element = node_lexed first (front-at _ _ (front-then (level_front d) f1)) refl (word_part refl last) in
      node_lexed first (front-at _ _ f) refl
      (word_part refl
      (whole_part element (sign_part refl (whole_part (level_lexed first d (behind3 a) f1) (sign_part refl last)))))
  post_lexed first (new_booleans d) a f =
      let f1 = front-put _ _ f in
      let element = node_lexed first (front-at _ _ (front-then (level_front d) f1)) refl (word_part refl last) in
      node_lexed first (front-at _ _ f) refl
      (word_part refl
      (whole_part element (sign_part refl (whole_part (level_lexed first d (behind3 a) f1) (sign_part refl last)))))
  post_lexed first (new_references d) a f =
      let f1 = front-put _ _ f in
      let element = node_lexed first (front-at _ _ (front-then (level_front d) f1)) refl
      (name_part (name_first (behind a)) last) in
      node_lexed first (front-at _ _ f) refl
      (word_part refl
      (whole_part element (sign_part refl (whole_part (level_lexed first d (behind3 a) f1) (sign_part refl last)))))

  argument_lexed : {W N N1 : List Node} {i o : List Lexeme} {id : ℕ} → ChildrenFirst 0 W → ArgumentRead N i N1 o id →
      AreOfSource i → Front N1 W → IsLexed W id
  argument_lexed first (expression_argument d) a f = level_lexed first d a f
  argument_lexed first text_argument a f = text_lexed first (front-at _ _ f) (text_first a)

  arguments_begun_lexed : {W N N1 : List Node} {i o : List Lexeme} {ids : List ℕ} → ChildrenFirst 0 W →
      ArgumentsBegun N i N1 o ids → AreOfSource i → Front N1 W → AllLexed W ids
  arguments_begun_lexed first no_argument_yet a f = none_lexed
  arguments_begun_lexed first (argument_and_comma d e) a f =
      all-put (arguments_begun_lexed first d a (front-then (argument_front e) f))
      (argument_lexed first e (arguments_begun_rest d a) f)

  pub arguments_lexed : {W N N1 : List Node} {i o : List Lexeme} {ids : List ℕ} → ChildrenFirst 0 W →
      ArgumentsRead N i N1 o ids → AreOfSource i → Front N1 W → AllLexed W ids
  arguments_lexed first no_arguments a f = none_lexed
  arguments_lexed first (arguments d e) a f =
      all-put (arguments_begun_lexed first d a (front-then (argument_front e) f))
      (argument_lexed first e (arguments_begun_rest d a) f)
