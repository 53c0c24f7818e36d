-- What is read of expressions has fitting words and places.
use Rattle.std.specs.Prelude.{ℕ, Bool, List}
use Rattle.scj_base.specs.declared.positions.Position.{Position}
use Rattle.scj_tree.specs.declared.nodes.Node.{Node}
use Rattle.scj_tree.specs.declared.parsed_parts.PostKind.{PostKind}
use Rattle.scj_tree.specs.Lexemes.{Lexeme}
use Rattle.scj_tree.specs.Expressions.{Level, UnaryRead, Unary1Read, PostRead, ArgumentRead, ArgumentsBegun, ArgumentsRead, operand, tighter, binary, minus, minimum_unary, plain_unary, negation, complement, cast, post_unary, simple_name, simple_call, field_of, call_of, element_of, number, minimum_number, true_value, false_value, null_value, this_value, parenthesized, parenthesized_name, new_object, new_ints, new_booleans, new_references, expression_argument, text_argument, no_argument_yet, argument_and_comma, no_arguments, arguments}
use Rattle.scj_tree.specs.Shape.{position_of}
use Rattle.scj_tree.specs.Nodes.{put}
use Rattle.source_nodes.specs.Nodes.{HasWords}
use Rattle.value_operators.specs.Literals.{HasInt}
use Rattle.source_nodes.proofs.Fits.{Fine, NodeFits, behind, behind2, behind3, below, fine_put}

-- what is read, and where it stands
pub record FineAt (Q : Position → Type 0) (p : Position) (N : List Node) (o : List Lexeme) : Type 0 where
  pub fine : Fine Q N o
  pub place : Q p

at : {Q : Position → Type 0} {N : List Node} {o : List Lexeme} (p : Position) (node : Node) → Q p → NodeFits Q node → Fine Q N o →
    FineAt Q p (put N node) o
at p node h k f = record { fine = fine_put node k f; place = h }

mutual
  unfolding position_of HasWords HasInt

  pub level_fine : {Q : Position → Type 0} {n : ℕ} {N N1 : List Node} {i o : List Lexeme} {id : ℕ} → Level n N i N1 o id →
      Fine Q N i → Fine Q N1 o
  level_fine (operand d) f = unary_fine d f
  level_fine (tighter d) f = level_fine d f
  level_fine (binary h d e) f =
      let g = level_fine d f in fine_put _ (record { place = g.lexemes.0; words = tt }) (level_fine e (behind g))

  unary_fine : {Q : Position → Type 0} {N N1 : List Node} {i o : List Lexeme} {id : ℕ} → UnaryRead N i N1 o id →
      Fine Q N i → Fine Q N1 o
  unary_fine (minus h d) f = fine_put _ (record { place = f.lexemes.0; words = tt }) (unary_fine d (behind f))
  unary_fine (minimum_unary d) f = (post_fine d f).fine
  unary_fine (plain_unary d) f = unary1_fine d f

  unary1_fine : {Q : Position → Type 0} {N N1 : List Node} {i o : List Lexeme} {id : ℕ} → Unary1Read N i N1 o id →
      Fine Q N i → Fine Q N1 o
  unary1_fine (negation d) f = fine_put _ (record { place = f.lexemes.0; words = tt }) (unary_fine d (behind f))
  unary1_fine (complement d) f = fine_put _ (record { place = f.lexemes.0; words = tt }) (unary_fine d (behind f))
  unary1_fine (cast h d) f = fine_put _ (record { place = f.lexemes.0; words = tt }) (unary1_fine d (behind3 f))
  unary1_fine (post_unary d) f = (post_fine d f).fine

  pub post_fine : {Q : Position → Type 0} {minimum : Bool} {kind : PostKind} {p : Position} {N N1 : List Node} {i o : List Lexeme}
      {id : ℕ} → PostRead minimum kind p N i N1 o id → Fine Q N i → FineAt Q p N1 o
  post_fine simple_name f = at _ _ f.lexemes.0.0 (record { place = f.lexemes.0.0; words = tt }) (behind f)
  post_fine (simple_call d) f =
      at _ _ f.lexemes.0.0 (record { place = f.lexemes.0.0; words = tt }) (arguments_fine d (behind2 f))
  post_fine (field_of d) f =
      let g = (post_fine d f).fine in
      at _ _ (behind g).lexemes.0.0 (record { place = (behind g).lexemes.0.0; words = tt }) (behind2 g)
  post_fine (call_of d e) f =
      let g = (post_fine d f).fine in
      at _ _ (behind g).lexemes.0.0 (record { place = (behind g).lexemes.0.0; words = tt }) (arguments_fine e (behind3 g))
  post_fine (element_of h d e) f =
      let g = (post_fine d f).fine in
      at _ _ g.lexemes.0 (record { place = g.lexemes.0; words = tt }) (behind (level_fine e (behind g)))
  post_fine (number h) f =
      at _ _ f.lexemes.0.0 (record { place = f.lexemes.0.0; words = below _ h f.lexemes.0.1 }) (behind f)
  post_fine minimum_number f =
      at _ _ f.lexemes.0 (record { place = f.lexemes.0; words = (behind f).lexemes.0.1 }) (behind2 f)
  post_fine true_value f = at _ _ f.lexemes.0 (record { place = f.lexemes.0; words = tt }) (behind f)
  post_fine false_value f = at _ _ f.lexemes.0 (record { place = f.lexemes.0; words = tt }) (behind f)
  post_fine null_value f = at _ _ f.lexemes.0 (record { place = f.lexemes.0; words = tt }) (behind f)
  post_fine this_value f = at _ _ f.lexemes.0 (record { place = f.lexemes.0; words = tt }) (behind f)
  post_fine (parenthesized h d) f =
      at _ _ f.lexemes.0 (record { place = f.lexemes.0; words = tt }) (behind (level_fine d (behind f)))
  post_fine (parenthesized_name h) f =
      at _ _ f.lexemes.0 (record { place = f.lexemes.0; words = tt })
      (fine_put _ (record { place = (behind f).lexemes.0.0; words = tt }) (behind3 f))
  post_fine (new_object d) f =
      at _ _ f.lexemes.0 (record { place = f.lexemes.0; words = tt }) (arguments_fine d (behind3 f))
  post_fine (new_ints d) f =
      at _ _ f.lexemes.0 (record { place = f.lexemes.0; words = tt })
      (behind (level_fine d (fine_put _ (record { place = (behind f).lexemes.0; words = tt }) (behind3 f))))
  post_fine (new_booleans d) f =
      at _ _ f.lexemes.0 (record { place = f.lexemes.0; words = tt })
      (behind (level_fine d (fine_put _ (record { place = (behind f).lexemes.0; words = tt }) (behind3 f))))
  post_fine (new_references d) f =
      at _ _ f.lexemes.0 (record { place = f.lexemes.0; words = tt })
      (behind (level_fine d (fine_put _ (record { place = (behind f).lexemes.0.0; words = tt }) (behind3 f))))

  argument_fine : {Q : Position → Type 0} {N N1 : List Node} {i o : List Lexeme} {id : ℕ} → ArgumentRead N i N1 o id →
      Fine Q N i → Fine Q N1 o
  argument_fine (expression_argument d) f = level_fine d f
  argument_fine text_argument f =
      fine_put _ (record { place = f.lexemes.0.0; words = f.lexemes.0.1 }) (behind f)

  arguments_begun_fine : {Q : Position → Type 0} {N N1 : List Node} {i o : List Lexeme} {ids : List ℕ} →
      ArgumentsBegun N i N1 o ids → Fine Q N i → Fine Q N1 o
  arguments_begun_fine no_argument_yet f = f
  arguments_begun_fine (argument_and_comma d e) f = behind (argument_fine e (arguments_begun_fine d f))

  pub arguments_fine : {Q : Position → Type 0} {N N1 : List Node} {i o : List Lexeme} {ids : List ℕ} →
      ArgumentsRead N i N1 o ids → Fine Q N i → Fine Q N1 o
  arguments_fine no_arguments f = behind f
  arguments_fine (arguments d e) f = behind (argument_fine e (arguments_begun_fine d f))
