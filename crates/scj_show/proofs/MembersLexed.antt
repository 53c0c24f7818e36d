-- A text may hold the lexemes of the classes that were read from a source.
use Rattle.std.proofs.Common.{ℕ, List, refl}
use Rattle.scj_tree.specs.declared.nodes.Node.{Node}
use Rattle.scj_tree.specs.Lexemes.{Lexeme}
use Rattle.scj_tree.specs.Grammar.{LiteralRead, number_literal, negative_literal, true_literal, false_literal, null_literal, MemberRead, field, field_with_value, bare_method, method, constructor, constructor_with_super, MembersRead, no_member, one_member_more, ClassRead, class, ClassesRead, no_class, one_class_more}
use Rattle.scj_tree.specs.Forest.{ChildrenFirst}
use Rattle.scj_show.specs.Parts.{parts_of, bare_parts, class_parts, field_parts, method_parts, constructor_parts, super_call_parts, body_or_semicolon, body_with_call, block_end, assigned, sign_if_set}
use Rattle.scj_show.specs.Symbols.{own_symbols}
use Rattle.scj_show.proofs.Sources.{AreOfSource, behind, behind2, behind3, name_first, number_first}
use Rattle.scj_show.proofs.Rests.{row_rest, type_rest, result_rest, parameters_rest, header_rest, arguments_rest, members_rest, classes_rest}
use Rattle.scj_show.proofs.Again.{Front, front-then, front-put, front-at}
use Rattle.scj_show.proofs.ExpressionsAgain.{arguments_front}
use Rattle.scj_show.proofs.HeadersAgain.{type_front, result_front}
use Rattle.scj_show.proofs.DeclarationsAgain.{header_front, parameters_front}
use Rattle.scj_show.proofs.StatementsAgain.{statements_front}
use Rattle.scj_show.proofs.MembersAgain.{literal_front, member_front, members_front, class_front}
use Rattle.scj_show.proofs.NodesLexed.{IsLexed, AllLexed, none_lexed, last, whole_part, bare_part, name_part, word_part, sign_part, number_part, node_lexed, bare_lexed, and_then, all-put, maybe_lexed, each_lexed, in_parentheses_lexed, parameters_or_none_lexed}
use Rattle.scj_show.proofs.ExpressionsLexed.{arguments_lexed}
use Rattle.scj_show.proofs.DeclarationsLexed.{type_lexed, result_lexed, flags_lexed, parameters_lexed, header_lexed}
use Rattle.scj_show.proofs.StatementsLexed.{statements_lexed}

literal_lexed : {W N N1 : List Node} {i o : List Lexeme} {id : ℕ} → ChildrenFirst 0 W → LiteralRead N i N1 o id →
    AreOfSource i → Front N1 W → IsLexed W id
unfolding own_symbols parts_of sign_if_set
literal_lexed first (number_literal h) a f = node_lexed first (front-at _ _ f) refl (number_part (number_first a) last)
literal_lexed first negative_literal a f =
    node_lexed first (front-at _ _ f) refl (sign_part refl (number_part (number_first (behind a)) last))
literal_lexed first true_literal a f = node_lexed first (front-at _ _ f) refl (word_part refl last)
literal_lexed first false_literal a f = node_lexed first (front-at _ _ f) refl (word_part refl last)
literal_lexed first null_literal a f = node_lexed first (front-at _ _ f) refl (word_part refl last)

member_lexed : {W N N1 : List Node} {i o : List Lexeme} {id : ℕ} → ChildrenFirst 0 W → MemberRead N i N1 o id →
    AreOfSource i → Front N1 W → IsLexed W id
unfolding own_symbols parts_of bare_parts field_parts method_parts constructor_parts super_call_parts body_or_semicolon
    body_with_call block_end assigned
member_lexed first (field d e) a f =
    let f1 = front-put _ _ f in
    let a1 = row_rest d a in
    let flags = flags_lexed first d a (front-then (type_front e) f1) in
    node_lexed first (front-at _ _ f) refl
    (and_then (maybe_lexed flags)
    (whole_part (type_lexed first e a1 f1) (name_part (name_first (type_rest e a1)) (sign_part refl last))))
member_lexed first (field_with_value d e l) a f =
    let f1 = front-put _ _ f in
    let f2 = front-then (literal_front l) f1 in
    let a1 = row_rest d a in
    let a2 = type_rest e a1 in
    let flags = flags_lexed first d a (front-then (type_front e) f2) in
    node_lexed first (front-at _ _ f) refl
    (and_then (maybe_lexed flags)
    (whole_part (type_lexed first e a1 f2)
    (name_part (name_first a2)
    (sign_part refl (whole_part (literal_lexed first l (behind2 a2) f1) (sign_part refl last))))))
member_lexed first (bare_method d e ps) a f =
    let f1 = front-put _ _ f in
    let f2 = front-then (parameters_front ps) f1 in
    let a1 = row_rest d a in
    let a2 = result_rest e a1 in
    let flags = flags_lexed first d a (front-then (result_front e) f2) in
    node_lexed first (front-at _ _ f) refl
    (and_then (maybe_lexed flags)
    (whole_part (result_lexed first e a1 f2)
    (name_part (name_first a2)
    (and_then (parameters_or_none_lexed (parameters_lexed first ps (behind a2) f1)) (sign_part refl last)))))
member_lexed first (method d e ps s) a f =
    let f1 = front-put _ _ f in
    let f2 = front-put _ _ f1 in
    let f3 = front-then (statements_front s) f2 in
    let f4 = front-then (parameters_front ps) f3 in
    let a1 = row_rest d a in
    let a2 = result_rest e a1 in
    let a3 = behind (parameters_rest ps (behind a2)) in
    let flags = flags_lexed first d a (front-then (result_front e) f4) in
    let body =
    node_lexed first (front-at _ _ f1) refl
    (sign_part refl (and_then (each_lexed (statements_lexed first s a3 f2)) (sign_part refl last))) in
    node_lexed first (front-at _ _ f) refl
    (and_then (maybe_lexed flags)
    (whole_part (result_lexed first e a1 f4)
    (name_part (name_first a2)
    (and_then (parameters_or_none_lexed (parameters_lexed first ps (behind a2) f3)) (whole_part body last)))))
member_lexed first (constructor d ps s) a f =
    let f1 = front-put _ _ f in
    let f2 = front-put _ _ f1 in
    let f3 = front-then (statements_front s) f2 in
    let a1 = row_rest d a in
    let a2 = behind (parameters_rest ps (behind a1)) in
    let flags = flags_lexed first d a (front-then (parameters_front ps) f3) in
    let body =
    node_lexed first (front-at _ _ f1) refl
    (sign_part refl (and_then (each_lexed (statements_lexed first s a2 f2)) (sign_part refl last))) in
    node_lexed first (front-at _ _ f) refl
    (and_then (maybe_lexed flags)
    (name_part (name_first a1)
    (and_then (parameters_or_none_lexed (parameters_lexed first ps (behind a1) f3)) (whole_part body last))))
member_lexed first (constructor_with_super d ps c s) a f =
    let f1 = front-put _ _ f in
    let f2 = front-put _ _ f1 in
    let f3 = front-then (statements_front s) f2 in
    let f4 = front-put _ _ f3 in
    let f5 = front-then (arguments_front c) f4 in
    let a1 = row_rest d a in
    let a2 = behind3 (parameters_rest ps (behind a1)) in
    let a3 = behind (arguments_rest c a2) in
    let flags = flags_lexed first d a (front-then (parameters_front ps) f5) in
    let call =
    node_lexed first (front-at _ _ f3) refl
    (word_part refl (and_then (in_parentheses_lexed (arguments_lexed first c a2 f4)) (sign_part refl last))) in
    let body =
    bare_lexed first (front-at _ _ f1)
    (and_then (each_lexed (statements_lexed first s a3 f2)) (sign_part refl last)) in
    node_lexed first (front-at _ _ f) refl
    (and_then (maybe_lexed flags)
    (name_part (name_first a1)
    (and_then (parameters_or_none_lexed (parameters_lexed first ps (behind a1) f5))
    (sign_part refl (whole_part call (bare_part body last))))))

members_lexed : {W N N1 : List Node} {i o : List Lexeme} {ids : List ℕ} → ChildrenFirst 0 W → MembersRead N i N1 o ids →
    AreOfSource i → Front N1 W → AllLexed W ids
members_lexed first no_member a f = none_lexed
members_lexed first (one_member_more d e) a f =
    all-put (members_lexed first d a (front-then (member_front e) f)) (member_lexed first e (members_rest d a) f)

class_lexed : {W N N1 : List Node} {i o : List Lexeme} {id : ℕ} → ChildrenFirst 0 W → ClassRead N i N1 o id →
    AreOfSource i → Front N1 W → IsLexed W id
unfolding own_symbols parts_of class_parts
class_lexed first (class d h s) a f =
    let f1 = front-put _ _ f in
    let f2 = front-then (members_front s) f1 in
    let a1 = row_rest d a in
    let a2 = behind2 a1 in
    let flags = flags_lexed first d a (front-then (header_front h) f2) in
    node_lexed first (front-at _ _ f) refl
    (and_then (maybe_lexed flags)
    (word_part refl
    (name_part (name_first (behind a1))
    (and_then (maybe_lexed (header_lexed first h a2 f2))
    (sign_part refl (and_then (each_lexed (members_lexed first s (header_rest h a2) f1)) (sign_part refl last)))))))

pub classes_lexed : {W N N1 : List Node} {i o : List Lexeme} {ids : List ℕ} → ChildrenFirst 0 W →
    ClassesRead N i N1 o ids → AreOfSource i → Front N1 W → AllLexed W ids
classes_lexed first no_class a f = none_lexed
classes_lexed first (one_class_more d e) a f =
    all-put (classes_lexed first d a (front-then (class_front e) f)) (class_lexed first e (classes_rest d a) f)
