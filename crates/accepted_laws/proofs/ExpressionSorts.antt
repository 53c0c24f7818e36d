-- The children of an expression that was read are of the right sorts: by the grammar of expressions.
use Rattle.std.specs.Prelude.{Bool, List, None, false, length, ℕ}
use Rattle.std.proofs.Common.{refl}
use Rattle.scj_base.specs.declared.positions.Position.{Position}
use Rattle.scj_tree.specs.declared.nodes.Node.{Node}
use Rattle.scj_tree.specs.declared.nodes.Node.TheVariants.{IntType, BooleanType, ClassType, SimpleName}
use Rattle.scj_tree.specs.declared.parsed_parts.PostKind.{PostKind}
use Rattle.scj_tree.specs.declared.parsed_parts.PostKind.TheVariants.{Variable, Invocation}
use Rattle.scj_tree.specs.Lexemes.{Lexeme}
use Rattle.scj_tree.specs.Nodes.{put}
use Rattle.scj_tree.specs.Shape.{children}
use Rattle.scj_tree.specs.Expressions.{ArgumentRead, ArgumentsBegun, ArgumentsRead, Level, PostRead, Unary1Read, UnaryRead, argument_and_comma, arguments, binary, call_of, cast, complement, element_of, expression_argument, false_value, field_of, minimum_number, minimum_unary, minus, negation, new_booleans, new_ints, new_object, new_references, no_argument_yet, no_arguments, null_value, number, operand, parenthesized, parenthesized_name, plain_unary, post_unary, simple_call, simple_name, text_argument, this_value, tighter, true_value}
use Rattle.accepted_laws.specs.Sorts.{Of, HasRightChildren, is_expression, is_argument, is_element_type, is_target, is_invocation}
use Rattle.accepted_laws.proofs.SortSteps.{Reads, ReadsAll, made, stays, goes_then, of_later, of_last, one_more, wider, expression_is_argument}

mutual
  unfolding HasRightChildren children is_expression is_element_type is_argument

  pub level_sorted : {n : ℕ} {N N1 : List Node} {i o : List Lexeme} {id : ℕ} → Level n N i N1 o id → Reads is_expression N N1 id
  level_sorted (operand d) = unary_sorted d
  level_sorted (tighter d) = level_sorted d
  level_sorted (binary e l r) =
      let a = level_sorted l in let b = level_sorted r in
      made is_expression _ (goes_then a.goes b.goes) refl (of_later is_expression b.goes a.is, b.is)

  pub unary_sorted : {N N1 : List Node} {i o : List Lexeme} {id : ℕ} → UnaryRead N i N1 o id → Reads is_expression N N1 id
  unary_sorted (minus e d) = let a = unary_sorted d in made is_expression _ a.goes refl a.is
  unary_sorted (minimum_unary d) = post_sorted d
  unary_sorted (plain_unary d) = unary1_sorted d

  pub unary1_sorted : {N N1 : List Node} {i o : List Lexeme} {id : ℕ} → Unary1Read N i N1 o id → Reads is_expression N N1 id
  unary1_sorted (negation d) = let a = unary_sorted d in made is_expression _ a.goes refl a.is
  unary1_sorted (complement d) = let a = unary_sorted d in made is_expression _ a.goes refl a.is
  unary1_sorted (cast e d) = let a = unary1_sorted d in made is_expression _ a.goes refl a.is
  unary1_sorted (post_unary d) = post_sorted d

  pub post_sorted : {minimum : Bool} {kind : PostKind} {p : Position} {N N1 : List Node} {i o : List Lexeme} {id : ℕ} → PostRead minimum kind p N i N1 o id → Reads is_expression N N1 id
  post_sorted simple_name = made is_expression _ stays refl tt
  post_sorted (simple_call a) = let x = arguments_sorted a in made is_expression _ x.goes refl (tt, x.are)
  post_sorted (field_of d) = let a = post_sorted d in made is_expression _ a.goes refl a.is
  post_sorted (call_of d b) = let a = post_sorted d in let x = arguments_sorted b in made is_expression _ (goes_then a.goes x.goes) refl (of_later is_expression x.goes a.is, x.are)
  post_sorted (element_of h d x) = let a = post_sorted d in let b = level_sorted x in made is_expression _ (goes_then a.goes b.goes) refl (of_later is_expression b.goes a.is, b.is)
  post_sorted (number e) = made is_expression _ stays refl tt
  post_sorted minimum_number = made is_expression _ stays refl tt
  post_sorted true_value = made is_expression _ stays refl tt
  post_sorted false_value = made is_expression _ stays refl tt
  post_sorted null_value = made is_expression _ stays refl tt
  post_sorted this_value = made is_expression _ stays refl tt
  post_sorted (parenthesized e d) = let a = level_sorted d in made is_expression _ a.goes refl a.is
  post_sorted (parenthesized_name {N = N} {w = w} {q = q} e) = let a : Reads is_expression N (put N (SimpleName q w)) (length N) = made is_expression (SimpleName q w) stays refl tt in made is_expression _ a.goes refl a.is
  post_sorted (new_object a) = let x = arguments_sorted a in made is_expression _ x.goes refl x.are
  post_sorted (new_ints {N = N} {q = q} d) = let t : Reads is_element_type N (put N (IntType q false)) (length N) = made is_element_type (IntType q false) stays refl tt in let a = level_sorted d in made is_expression _ (goes_then t.goes a.goes) refl (of_later is_element_type a.goes t.is, a.is)
  post_sorted (new_booleans {N = N} {q = q} d) = let t : Reads is_element_type N (put N (BooleanType q false)) (length N) = made is_element_type (BooleanType q false) stays refl tt in let a = level_sorted d in made is_expression _ (goes_then t.goes a.goes) refl (of_later is_element_type a.goes t.is, a.is)
  post_sorted (new_references {N = N} {w = w} {q = q} d) = let t : Reads is_element_type N (put N (ClassType q w None false)) (length N) = made is_element_type (ClassType q w None false) stays refl tt in let a = level_sorted d in made is_expression _ (goes_then t.goes a.goes) refl (of_later is_element_type a.goes t.is, a.is)

  pub argument_sorted : {N N1 : List Node} {i o : List Lexeme} {id : ℕ} → ArgumentRead N i N1 o id → Reads is_argument N N1 id
  argument_sorted (expression_argument d) = wider is_expression is_argument expression_is_argument (level_sorted d)
  argument_sorted text_argument = made is_argument _ stays refl tt

  pub begun_sorted : {N N1 : List Node} {i o : List Lexeme} {ids : List ℕ} → ArgumentsBegun N i N1 o ids → ReadsAll is_argument N N1 ids
  begun_sorted no_argument_yet = record { goes = stays; are = tt }
  begun_sorted (argument_and_comma d a) = one_more is_argument _ _ (begun_sorted d) (argument_sorted a)

  pub arguments_sorted : {N N1 : List Node} {i o : List Lexeme} {ids : List ℕ} → ArgumentsRead N i N1 o ids → ReadsAll is_argument N N1 ids
  arguments_sorted no_arguments = record { goes = stays; are = tt }
  arguments_sorted (arguments d a) = one_more is_argument _ _ (begun_sorted d) (argument_sorted a)

-- what reads as a variable may stand before `=`
pub target_is : {m : Bool} {p : Position} {N N1 : List Node} {i o : List Lexeme} {id : ℕ} → PostRead m Variable p N i N1 o id → Of is_target N1 id
unfolding is_target
target_is simple_name = of_last is_target _ _ refl
target_is (field_of d) = of_last is_target _ _ refl
target_is (element_of h d x) = of_last is_target _ _ refl

-- what reads as an invocation may stand before `;`
pub invocation_is : {m : Bool} {p : Position} {N N1 : List Node} {i o : List Lexeme} {id : ℕ} → PostRead m Invocation p N i N1 o id → Of is_invocation N1 id
unfolding is_invocation
invocation_is (simple_call a) = of_last is_invocation _ _ refl
invocation_is (call_of d b) = of_last is_invocation _ _ refl
invocation_is (new_object a) = of_last is_invocation _ _ refl
