-- Reading a statement keeps what fits.
use Rattle.std.proofs.Common.{ℕ, ◌<◌, List, Option, arith}
use Rattle.scj_base.specs.Lexeme.{greatest_number}
use Rattle.scj_tree.specs.declared.nodes.Node.{Node}
use Rattle.scj_tree.specs.Lexemes.{Lexeme}
use Rattle.scj_tree.specs.Statements.{AssignmentRead, assignment, compound_assignment, step_assignment, LocalTypeRead, plain_local, flagged_local, StatementRead, block, empty, local, local_with_value, assign_statement, call_statement, if_alone, if_else, while_statement, for_local, for_assignment, return_alone, return_value, StatementsRead, no_statement, one_statement_more}
use Rattle.value_operators.specs.Literals.{HasInt}
use Rattle.value_operators.proofs.Numbers.{Fits, made, behind, behind2}
use Rattle.value_operators.proofs.HeaderNumbers.{type_fits, row_fits, flags_fit}
use Rattle.value_operators.proofs.ExpressionNumbers.{level_fits, post_fits}

one_is_int : 1 < greatest_number
one_is_int = omega arith

assignment_fits : {N N1 : List Node} {i o : List Lexeme} {id : ℕ} → AssignmentRead N i N1 o id → Fits N i → Fits N1 o
unfolding HasInt
assignment_fits (assignment d e) h = made _ (level_fits e (behind (post_fits d h))) tt
assignment_fits (compound_assignment e d) h =
    made _ (made _ (made _ (level_fits d (made _ (made _ (behind2 h) tt) tt)) tt) tt) tt
assignment_fits (step_assignment e) h = made _ (made _ (made _ (made _ (made _ (behind2 h) tt) tt) one_is_int) tt) tt

local_type_fits : {N N1 : List Node} {i o : List Lexeme} {flags : Option ℕ} {t : ℕ} →
    LocalTypeRead N i N1 o flags t → Fits N i → Fits N1 o
local_type_fits (plain_local d) h = type_fits d h
local_type_fits (flagged_local e d t) h = type_fits t (flags_fit _ (row_fits d h))

mutual
  unfolding HasInt

  statement_fits : {N N1 : List Node} {i o : List Lexeme} {id : ℕ} → StatementRead N i N1 o id → Fits N i → Fits N1 o
  statement_fits (block d) h = made _ (behind (statements_fit d (behind h))) tt
  statement_fits empty h = made _ (behind h) tt
  statement_fits (local d) h = made _ (behind2 (local_type_fits d h)) tt
  statement_fits (local_with_value d e) h = made _ (behind (level_fits e (behind2 (local_type_fits d h)))) tt
  statement_fits (assign_statement d) h = behind (assignment_fits d h)
  statement_fits (call_statement d) h = made _ (behind (post_fits d h)) tt
  statement_fits (if_alone c s e) h = made _ (statement_fits s (behind (level_fits c (behind2 h)))) tt
  statement_fits (if_else c s e) h =
      made _ (statement_fits e (behind (statement_fits s (behind (level_fits c (behind2 h)))))) tt
  statement_fits (while_statement c s) h = made _ (statement_fits s (behind (level_fits c (behind2 h)))) tt
  statement_fits (for_local t e c u s) h =
      let first = made _ (behind (level_fits e (behind2 (type_fits t (behind2 h))))) tt in
      made _ (statement_fits s (behind (assignment_fits u (behind (level_fits c first))))) tt
  statement_fits (for_assignment f c u s) h =
      let first = behind (assignment_fits f (behind2 h)) in
      made _ (statement_fits s (behind (assignment_fits u (behind (level_fits c first))))) tt
  statement_fits return_alone h = made _ (behind2 h) tt
  statement_fits (return_value e) h = made _ (behind (level_fits e (behind h))) tt

  pub statements_fit : {N N1 : List Node} {i o : List Lexeme} {ids : List ℕ} → StatementsRead N i N1 o ids →
      Fits N i → Fits N1 o
  statements_fit no_statement h = h
  statements_fit (one_statement_more d e) h = statement_fits e (statements_fit d h)
