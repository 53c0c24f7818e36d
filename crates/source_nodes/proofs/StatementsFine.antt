-- What is read of statements has fitting words and places.
use Rattle.std.proofs.Common.{arith}
use Rattle.std.specs.Prelude.{ℕ, List, Option}
use Rattle.scj_base.specs.declared.positions.Position.{Position}
use Rattle.scj_tree.specs.declared.nodes.Node.{Node}
use Rattle.scj_tree.specs.Lexemes.{Lexeme}
use Rattle.scj_tree.specs.Statements.{AssignmentRead, assignment, compound_assignment, step_assignment, LocalTypeRead, plain_local, flagged_local, StatementRead, block, empty, local, local_with_value, assign_statement, call_statement, if_alone, if_else, while_statement, for_local, for_assignment, return_alone, return_value, StatementsRead, no_statement, one_statement_more}
use Rattle.scj_tree.specs.Shape.{position_of}
use Rattle.value_operators.specs.Literals.{HasInt}
use Rattle.source_nodes.specs.Nodes.{HasWords}
use Rattle.source_nodes.proofs.Fits.{Fine, behind, behind2, fine_flags, fine_put}
use Rattle.source_nodes.proofs.HeadersFine.{row_fine, type_fine}
use Rattle.source_nodes.proofs.ExpressionsFine.{level_fine, post_fine}

-- nodes put one behind the other
pub assignment_fine : {Q : Position → Type 0} {N N1 : List Node} {i o : List Lexeme} {id : ℕ} → AssignmentRead N i N1 o id →
    Fine Q N i → Fine Q N1 o
unfolding position_of HasWords HasInt
assignment_fine (assignment d e) f =
    let g = (post_fine d f).fine in
    fine_put _ (record { place = g.lexemes.0; words = tt }) (level_fine e (behind g))
assignment_fine (compound_assignment h d) f =
    let name = f.lexemes.0.0 in
    let sign = (behind f).lexemes.0 in
    fine_put _ (record { place = sign; words = tt })
    (fine_put _ (record { place = sign; words = tt })
    (fine_put _ (record { place = sign; words = tt })
    (level_fine d
    (fine_put _ (record { place = name; words = tt }) (fine_put _ (record { place = name; words = tt }) (behind2 f))))))
assignment_fine (step_assignment h) f =
    let name = f.lexemes.0.0 in
    let sign = (behind f).lexemes.0 in
    fine_put _ (record { place = sign; words = tt })
    (fine_put _ (record { place = sign; words = tt })
    (fine_put _ (record { place = sign; words = omega arith })
    (fine_put _ (record { place = name; words = tt }) (fine_put _ (record { place = name; words = tt }) (behind2 f)))))

local_type_fine : {Q : Position → Type 0} {N N1 : List Node} {i o : List Lexeme} {flags : Option ℕ} {t : ℕ} →
    LocalTypeRead N i N1 o flags t → Fine Q N i → Fine Q N1 o
local_type_fine (plain_local d) f = type_fine d f
local_type_fine (flagged_local {flags = flags} h d e) f =
    let r = row_fine d f in type_fine e (fine_flags flags r.fit r.fine)

mutual
  unfolding position_of HasWords

  pub statement_fine : {Q : Position → Type 0} {N N1 : List Node} {i o : List Lexeme} {id : ℕ} → StatementRead N i N1 o id →
      Fine Q N i → Fine Q N1 o
  statement_fine (block d) f =
      fine_put _ (record { place = f.lexemes.0; words = tt }) (behind (statements_fine d (behind f)))
  statement_fine empty f = fine_put _ (record { place = f.lexemes.0; words = tt }) (behind f)
  statement_fine (local d) f =
      let g = local_type_fine d f in fine_put _ (record { place = g.lexemes.0.0; words = tt }) (behind2 g)
  statement_fine (local_with_value d e) f =
      let g = local_type_fine d f in
      fine_put _ (record { place = (behind g).lexemes.0; words = tt }) (behind (level_fine e (behind2 g)))
  statement_fine (assign_statement d) f = behind (assignment_fine d f)
  statement_fine (call_statement d) f =
      let g = post_fine d f in fine_put _ (record { place = g.place; words = tt }) (behind g.fine)
  statement_fine (if_alone d e h) f =
      fine_put _ (record { place = f.lexemes.0; words = tt }) (statement_fine e (behind (level_fine d (behind2 f))))
  statement_fine (if_else d e g) f =
      fine_put _ (record { place = f.lexemes.0; words = tt })
      (statement_fine g (behind (statement_fine e (behind (level_fine d (behind2 f))))))
  statement_fine (while_statement d e) f =
      fine_put _ (record { place = f.lexemes.0; words = tt }) (statement_fine e (behind (level_fine d (behind2 f))))
  statement_fine (for_local t d e g s) f =
      let h = type_fine t (behind2 f) in
      let k = behind (level_fine d (behind2 h)) in
      let l = level_fine e (fine_put _ (record { place = (behind h).lexemes.0; words = tt }) k) in
      fine_put _ (record { place = f.lexemes.0; words = tt })
      (statement_fine s (behind (assignment_fine g (behind l))))
  statement_fine (for_assignment d e g s) f =
      let h = behind (assignment_fine d (behind2 f)) in
      fine_put _ (record { place = f.lexemes.0; words = tt })
      (statement_fine s (behind (assignment_fine g (behind (level_fine e h)))))
  statement_fine return_alone f = fine_put _ (record { place = f.lexemes.0; words = tt }) (behind2 f)
  statement_fine (return_value d) f =
      fine_put _ (record { place = f.lexemes.0; words = tt }) (behind (level_fine d (behind f)))

  pub statements_fine : {Q : Position → Type 0} {N N1 : List Node} {i o : List Lexeme} {ids : List ℕ} →
      StatementsRead N i N1 o ids → Fine Q N i → Fine Q N1 o
  statements_fine no_statement f = f
  statements_fine (one_statement_more d e) f = statement_fine e (statements_fine d f)
