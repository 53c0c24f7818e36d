-- What is read of members, classes and files has fitting words and places.
use Rattle.std.proofs.Common.{[]}
use Rattle.std.specs.Prelude.{ℕ, List}
use Rattle.scj_base.specs.declared.positions.Position.{Position}
use Rattle.scj_tree.specs.declared.nodes.Node.{Node}
use Rattle.scj_tree.specs.Lexemes.{Lexeme}
use Rattle.scj_tree.specs.Grammar.{LiteralRead, number_literal, negative_literal, true_literal, false_literal, null_literal, MemberRead, field, field_with_value, bare_method, method, constructor, constructor_with_super, MembersRead, no_member, one_member_more, ClassRead, class, ClassesRead, no_class, one_class_more}
use Rattle.scj_tree.specs.Shape.{position_of}
use Rattle.source_nodes.specs.Nodes.{HasWords}
use Rattle.value_operators.specs.Literals.{HasInt}
use Rattle.source_nodes.proofs.Fits.{Fine, behind, behind2, behind3, below, fine_flags, fine_put}
use Rattle.scj_tree.specs.Grammar.{Tree, file, file_of_package}
use Rattle.source_nodes.proofs.HeadersFine.{header_fine, imports_fine, package_fine, parameters_fine, result_fine, row_fine, type_fine}
use Rattle.source_nodes.proofs.ExpressionsFine.{arguments_fine}
use Rattle.source_nodes.proofs.StatementsFine.{statements_fine}

literal_fine : {Q : Position → Type 0} {N N1 : List Node} {i o : List Lexeme} {id : ℕ} → LiteralRead N i N1 o id →
    Fine Q N i → Fine Q N1 o
unfolding position_of HasWords HasInt
literal_fine (number_literal h) f =
    fine_put _ (record { place = f.lexemes.0.0; words = below _ h f.lexemes.0.1 }) (behind f)
literal_fine negative_literal f =
    fine_put _ (record { place = f.lexemes.0; words = (behind f).lexemes.0.1 }) (behind2 f)
literal_fine true_literal f = fine_put _ (record { place = f.lexemes.0; words = tt }) (behind f)
literal_fine false_literal f = fine_put _ (record { place = f.lexemes.0; words = tt }) (behind f)
literal_fine null_literal f = fine_put _ (record { place = f.lexemes.0; words = tt }) (behind f)

member_fine : {Q : Position → Type 0} {N N1 : List Node} {i o : List Lexeme} {id : ℕ} → MemberRead N i N1 o id →
    Fine Q N i → Fine Q N1 o
unfolding position_of HasWords
member_fine (field {flags = flags} d e) f =
    let r = row_fine d f in
    let g = type_fine e (fine_flags flags r.fit r.fine) in
    fine_put _ (record { place = g.lexemes.0.0; words = tt }) (behind2 g)
member_fine (field_with_value {flags = flags} d e v) f =
    let r = row_fine d f in
    let g = type_fine e (fine_flags flags r.fit r.fine) in
    fine_put _ (record { place = g.lexemes.0.0; words = tt }) (behind (literal_fine v (behind2 g)))
member_fine (bare_method {flags = flags} d e ps) f =
    let r = row_fine d f in
    let g = result_fine e (fine_flags flags r.fit r.fine) in
    fine_put _ (record { place = g.lexemes.0.0; words = tt }) (behind (parameters_fine ps (behind g)))
member_fine (method {flags = flags} d e ps s) f =
    let r = row_fine d f in
    let g = result_fine e (fine_flags flags r.fit r.fine) in
    let k = parameters_fine ps (behind g) in
    fine_put _ (record { place = g.lexemes.0.0; words = tt })
    (fine_put _ (record { place = k.lexemes.0; words = tt }) (behind (statements_fine s (behind k))))
member_fine (constructor {flags = flags} d ps s) f =
    let r = row_fine d f in
    let k = parameters_fine ps (fine_flags flags r.fit (behind r.fine)) in
    fine_put _ (record { place = r.fine.lexemes.0.0; words = tt })
    (fine_put _ (record { place = k.lexemes.0; words = tt }) (behind (statements_fine s (behind k))))
member_fine (constructor_with_super {flags = flags} d ps a s) f =
    let r = row_fine d f in
    let k = parameters_fine ps (fine_flags flags r.fit (behind r.fine)) in
    let l = behind (arguments_fine a (behind3 k)) in
    fine_put _ (record { place = r.fine.lexemes.0.0; words = tt })
    (fine_put _ (record { place = k.lexemes.0; words = tt })
    (behind (statements_fine s (fine_put _ (record { place = (behind k).lexemes.0; words = tt }) l))))

members_fine : {Q : Position → Type 0} {N N1 : List Node} {i o : List Lexeme} {ids : List ℕ} → MembersRead N i N1 o ids →
    Fine Q N i → Fine Q N1 o
members_fine no_member f = f
members_fine (one_member_more d e) f = member_fine e (members_fine d f)

class_fine : {Q : Position → Type 0} {N N1 : List Node} {i o : List Lexeme} {id : ℕ} → ClassRead N i N1 o id →
    Fine Q N i → Fine Q N1 o
unfolding position_of HasWords
class_fine (class {flags = flags} d h m) f =
    let r = row_fine d f in
    let name = (behind r.fine).lexemes.0 in
    let g = header_fine h (fine_flags flags r.fit (behind2 r.fine)) in
    fine_put _ (record { place = name.0; words = name.1 }) (behind (members_fine m g))

classes_fine : {Q : Position → Type 0} {N N1 : List Node} {i o : List Lexeme} {ids : List ℕ} → ClassesRead N i N1 o ids →
    Fine Q N i → Fine Q N1 o
classes_fine no_class f = f
classes_fine (one_class_more d e) f = class_fine e (classes_fine d f)

-- a file read from lexemes that fit, behind nodes that fit
pub tree_fine : {Q : Position → Type 0} {N N1 : List Node} {i : List Lexeme} {ids : List ℕ} → Tree N i N1 ids →
    Fine Q N i → Fine Q N1 []
tree_fine (file h d) f = behind (classes_fine d (imports_fine h f))
tree_fine (file_of_package p h d) f = behind (classes_fine d (imports_fine h (behind (package_fine p (behind f)))))
