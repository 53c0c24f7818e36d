-- A text may hold the lexemes of a statement that was read from a source.
use Rattle.std.proofs.Common.{◌≡◌, ℕ, List, Option, Some, slice_get, refl, arith}
use Rattle.scj_base.specs.declared.positions.Position.{Position}
use Rattle.scj_tree.specs.declared.nodes.Node.{Node}
use Rattle.scj_tree.specs.declared.nodes.Node.TheVariants.{Assign}
use Rattle.scj_tree.specs.Lexemes.{Lexeme}
use Rattle.scj_tree.specs.Statements.{AssignmentRead, assignment, compound_assignment, step_assignment, LocalTypeRead, plain_local, flagged_local, StatementRead, block, empty, local, local_with_value, assign_statement, call_statement, if_alone, if_else, while_statement, for_local, for_assignment, return_alone, return_value, StatementsRead, no_statement, one_statement_more}
use Rattle.scj_tree.specs.Forest.{ChildrenFirst}
use Rattle.scj_show.specs.Parts.{parts_of, bare_parts, block_end, alternative, return_parts, maybe, sign_if_set}
use Rattle.scj_show.specs.Symbols.{own_symbols}
use Rattle.scj_show.proofs.Sources.{AreOfSource, behind, behind2, name_first}
use Rattle.scj_show.proofs.Rests.{row_rest, type_rest, level_rest, post_rest, assignment_rest, local_type_rest, statement_rest, statements_rest}
use Rattle.scj_show.proofs.Again.{Front, front-then, front-put, front-at}
use Rattle.scj_show.proofs.ExpressionsAgain.{level_front}
use Rattle.scj_show.proofs.HeadersAgain.{type_front}
use Rattle.scj_show.proofs.AssignmentsAgain.{assignment_front, compound_operator, stepping_operator}
use Rattle.scj_show.proofs.StatementsAgain.{statement_front}
use Rattle.scj_show.proofs.NodesLexed.{IsLexed, IsBareLexed, AllLexed, none_lexed, MaybeLexed, not_lexed, last, whole_part, bare_part, name_part, word_part, sign_part, number_part, node_lexed, bare_lexed, and_then, all-put, maybe_lexed, each_lexed}
use Rattle.scj_show.proofs.ExpressionsLexed.{level_lexed, post_lexed}
use Rattle.scj_show.proofs.DeclarationsLexed.{type_lexed, flags_lexed}

-- ---- assignments

-- an assignment, whole and bare
pub record IsAssigned (W : List Node) (id : ℕ) : Type 0 where
  pub whole : IsLexed W id
  pub bare : IsBareLexed W id

assign_lexed : {W : List Node} {id x e : ℕ} {p : Position} → ChildrenFirst 0 W → slice_get W id ≡ Some (Assign p x e) →
    IsLexed W x → IsLexed W e → IsAssigned W id
unfolding own_symbols parts_of bare_parts
assign_lexed first at h k =
    record {
      whole = node_lexed first at refl (whole_part h (sign_part refl (whole_part k (sign_part refl last))));
      bare = bare_lexed first at (whole_part h (sign_part refl (whole_part k last)));
    }

assignment_lexed : {W N N1 : List Node} {i o : List Lexeme} {id : ℕ} → ChildrenFirst 0 W → AssignmentRead N i N1 o id →
    AreOfSource i → Front N1 W → IsAssigned W id
unfolding own_symbols parts_of sign_if_set
assignment_lexed first (assignment d e) a f =
    let f1 = front-put _ _ f in
    assign_lexed first (front-at _ _ f) (post_lexed first d a (front-then (level_front e) f1))
    (level_lexed first e (behind (post_rest d a)) f1)
assignment_lexed first (compound_assignment {n = n} {op = op} h d) a f =
    let f1 = front-put _ _ f in
    let f2 = front-put _ _ f1 in
    let f3 = front-put _ _ f2 in
    let f4 = front-then (level_front d) f3 in
    let target = node_lexed first (front-at _ _ (front-put _ _ f4)) refl (name_part (name_first a) last) in
    let left = node_lexed first (front-at _ _ f4) refl (name_part (name_first a) last) in
    let right =
    node_lexed first (front-at _ _ f2) refl
    (sign_part refl (whole_part (level_lexed first d (behind2 a) f3) (sign_part refl last))) in
    assign_lexed first (front-at _ _ f) target
    (node_lexed first (front-at _ _ f1) refl
    (whole_part left (sign_part (compound_operator n op h).listed (whole_part right last))))
assignment_lexed first (step_assignment {n = n} {op = op} h) a f =
    let f1 = front-put _ _ f in
    let f2 = front-put _ _ f1 in
    let f3 = front-put _ _ f2 in
    let target = node_lexed first (front-at _ _ (front-put _ _ f3)) refl (name_part (name_first a) last) in
    let left = node_lexed first (front-at _ _ f3) refl (name_part (name_first a) last) in
    let right = node_lexed first (front-at _ _ f2) refl (number_part (omega arith) last) in
    assign_lexed first (front-at _ _ f) target
    (node_lexed first (front-at _ _ f1) refl
    (whole_part left (sign_part (stepping_operator n op h).listed (whole_part right last))))

-- ---- statements

record LocalLexed (W : List Node) (flags : Option ℕ) (t : ℕ) : Type 0 where
  of_flags : MaybeLexed W flags
  of_type : IsLexed W t

local_type_lexed : {W N N1 : List Node} {i o : List Lexeme} {flags : Option ℕ} {t : ℕ} → ChildrenFirst 0 W →
    LocalTypeRead N i N1 o flags t → AreOfSource i → Front N1 W → LocalLexed W flags t
local_type_lexed first (plain_local d) a f = record { of_flags = not_lexed; of_type = type_lexed first d a f }
local_type_lexed first (flagged_local h d e) a f =
    record {
      of_flags = flags_lexed first d a (front-then (type_front e) f);
      of_type = type_lexed first e
          (row_rest d a) f;
    }

mutual
  unfolding own_symbols parts_of block_end alternative return_parts maybe

  statement_lexed : {W N N1 : List Node} {i o : List Lexeme} {id : ℕ} → ChildrenFirst 0 W → StatementRead N i N1 o id →
      AreOfSource i → Front N1 W → IsLexed W id
  statement_lexed first (block d) a f =
      node_lexed first (front-at _ _ f) refl
      (sign_part refl
      (and_then (each_lexed (statements_lexed first d (behind a) (front-put _ _ f))) (sign_part refl last)))
  statement_lexed first empty a f = node_lexed first (front-at _ _ f) refl (sign_part refl last)
  statement_lexed first (local d) a f =
      let l = local_type_lexed first d a (front-put _ _ f) in
      node_lexed first (front-at _ _ f) refl
      (and_then (maybe_lexed l.of_flags)
      (whole_part l.of_type (name_part (name_first (local_type_rest d a)) (sign_part refl last))))
  statement_lexed first (local_with_value d e) a f =
      let f1 = front-put _ _ f in
      let a1 = local_type_rest d a in
      let l = local_type_lexed first d a (front-then (level_front e) f1) in
      node_lexed first (front-at _ _ f) refl
      (and_then (maybe_lexed l.of_flags)
      (whole_part l.of_type
      (name_part (name_first a1)
      (sign_part refl (whole_part (level_lexed first e (behind2 a1) f1) (sign_part refl last))))))
  statement_lexed first (assign_statement d) a f = (assignment_lexed first d a f).whole
  statement_lexed first (call_statement d) a f =
      node_lexed first (front-at _ _ f) refl (whole_part (post_lexed first d a (front-put _ _ f)) (sign_part refl last))
  statement_lexed first (if_alone d e h) a f =
      let f1 = front-put _ _ f in
      node_lexed first (front-at _ _ f) refl
      (word_part refl
      (sign_part refl
      (whole_part (level_lexed first d (behind2 a) (front-then (statement_front e) f1))
      (sign_part refl (whole_part (statement_lexed first e (behind (level_rest d (behind2 a))) f1) last)))))
  statement_lexed first (if_else d e g) a f =
      let f1 = front-put _ _ f in
      let f2 = front-then (statement_front g) f1 in
      let a1 = behind (level_rest d (behind2 a)) in
      node_lexed first (front-at _ _ f) refl
      (word_part refl
      (sign_part refl
      (whole_part (level_lexed first d (behind2 a) (front-then (statement_front e) f2))
      (sign_part refl
      (whole_part (statement_lexed first e a1 f2)
      (word_part refl (whole_part (statement_lexed first g (behind (statement_rest e a1)) f1) last)))))))
  statement_lexed first (while_statement d e) a f =
      let f1 = front-put _ _ f in
      node_lexed first (front-at _ _ f) refl
      (word_part refl
      (sign_part refl
      (whole_part (level_lexed first d (behind2 a) (front-then (statement_front e) f1))
      (sign_part refl (whole_part (statement_lexed first e (behind (level_rest d (behind2 a))) f1) last)))))
  statement_lexed first (for_local t e c u s) a f =
      let f5 = front-put _ _ f in
      let f4 = front-then (statement_front s) f5 in
      let f3 = front-then (assignment_front u) f4 in
      let f2 = front-then (level_front c) f3 in
      let f1 = front-put _ _ f2 in
      let a1 = type_rest t (behind2 a) in
      let a2 = behind (level_rest e (behind2 a1)) in
      let a3 = behind (level_rest c a2) in
      let a4 = behind (assignment_rest u a3) in
      let begin =
      node_lexed first (front-at _ _ f2) refl
      (whole_part (type_lexed first t (behind2 a) (front-then (level_front e) f1))
      (name_part (name_first a1)
      (sign_part refl (whole_part (level_lexed first e (behind2 a1) f1) (sign_part refl last))))) in
      node_lexed first (front-at _ _ f) refl
      (word_part refl
      (sign_part refl
      (whole_part begin
      (whole_part (level_lexed first c a2 f3)
      (sign_part refl
      (bare_part (assignment_lexed first u a3 f4).bare
      (sign_part refl (whole_part (statement_lexed first s a4 f5) last))))))))
  statement_lexed first (for_assignment e c u s) a f =
      let f4 = front-put _ _ f in
      let f3 = front-then (statement_front s) f4 in
      let f2 = front-then (assignment_front u) f3 in
      let f1 = front-then (level_front c) f2 in
      let a1 = behind (assignment_rest e (behind2 a)) in
      let a2 = behind (level_rest c a1) in
      let a3 = behind (assignment_rest u a2) in
      node_lexed first (front-at _ _ f) refl
      (word_part refl
      (sign_part refl
      (whole_part (assignment_lexed first e (behind2 a) f1).whole
      (whole_part (level_lexed first c a1 f2)
      (sign_part refl
      (bare_part (assignment_lexed first u a2 f3).bare
      (sign_part refl (whole_part (statement_lexed first s a3 f4) last))))))))
  statement_lexed first return_alone a f = node_lexed first (front-at _ _ f) refl (word_part refl (sign_part refl last))
  statement_lexed first (return_value d) a f =
      node_lexed first (front-at _ _ f) refl
      (word_part refl (whole_part (level_lexed first d (behind a) (front-put _ _ f)) (sign_part refl last)))

  pub statements_lexed : {W N N1 : List Node} {i o : List Lexeme} {ids : List ℕ} → ChildrenFirst 0 W →
      StatementsRead N i N1 o ids → AreOfSource i → Front N1 W → AllLexed W ids
  statements_lexed first no_statement a f = none_lexed
  statements_lexed first (one_statement_more d e) a f =
      all-put (statements_lexed first d a (front-then (statement_front e) f))
      (statement_lexed first e (statements_rest d a) f)
