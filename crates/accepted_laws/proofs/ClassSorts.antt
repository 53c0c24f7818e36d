-- The children of a member or class that was read are of the right sorts, and so are those of all nodes of a program.
use Rattle.std.specs.Prelude.{List, [], length, ℕ, ◌++◌, ◌∷◌, ◌≡◌}
use Rattle.std.proofs.Common.{refl, sym, ap, ◌∙◌, subst, append-nil}
use Rattle.scj_base.specs.declared.positions.Position.{Position}
use Rattle.scj_tree.specs.declared.nodes.Node.{Node}
use Rattle.scj_tree.specs.declared.nodes.Node.TheVariants.{SuperCall, Block}
use Rattle.scj_tree.specs.Forest.{Forest, joined}
use Rattle.scj_tree.specs.Lexemes.{Lexeme}
use Rattle.scj_tree.specs.Nodes.{put, next}
use Rattle.scj_tree.specs.Shape.{children}
use Rattle.scj_tree.specs.Files.{FileRead}
use Rattle.scj_tree.specs.Grammar.{LiteralRead, number_literal, negative_literal, true_literal, false_literal, null_literal, MemberRead, field, field_with_value, bare_method, method, constructor, constructor_with_super, MembersRead, no_member, one_member_more, ClassRead, class, ClassesRead, no_class, one_class_more, Tree, file, file_of_package}
use Rattle.scj_tree.proofs.ForestLemmas.{joined-append}
use Rattle.scj_rules.specs.Contexts.{is_member, is_super_call}
use Rattle.scj_rules.specs.CheckedProgram.{IsReadFromTexts}
use Rattle.scj_rules.specs.Syntax.{FilesRead, no_file, next_file}
use Rattle.accepted_laws.specs.Sorts.{HasRightChildren, IsWellSorted, is_type, is_result, is_literal, is_flags, is_block, is_statement, is_parameter_list, is_header, is_class}
use Rattle.accepted_laws.specs.Intervals.{Subtrees, no_tree, AreIntervals}
use Rattle.accepted_laws.proofs.SortSteps.{trees_more, trees_then, GoesOn, Reads, ReadsAll, made, stays, goes_then, of_later, option_later, one_more}
use Rattle.accepted_laws.proofs.ExpressionSorts.{arguments_sorted}
use Rattle.accepted_laws.proofs.HeaderSorts.{flags_sorted, type_sorted, result_sorted, parameters_sorted, header_sorted}
use Rattle.accepted_laws.proofs.StatementSorts.{statements_sorted}

literal_sorted : {N N1 : List Node} {i o : List Lexeme} {id : ℕ} → LiteralRead N i N1 o id → Reads is_literal N N1 id
unfolding HasRightChildren children is_literal
literal_sorted (number_literal e) = made is_literal _ stays refl tt
literal_sorted negative_literal = made is_literal _ stays refl tt
literal_sorted true_literal = made is_literal _ stays refl tt
literal_sorted false_literal = made is_literal _ stays refl tt
literal_sorted null_literal = made is_literal _ stays refl tt

block_made : {N N1 : List Node} {ids : List ℕ} (q : Position) → ReadsAll is_statement N N1 ids → Reads is_block N (put N1 (Block q ids)) (next N1)
unfolding HasRightChildren children is_block
block_made {N} {N1} {ids} q x = made is_block (Block q ids) x.goes refl x.are

pub member_sorted : {N N1 : List Node} {i o : List Lexeme} {id : ℕ} → MemberRead N i N1 o id → Reads is_member N N1 id
unfolding HasRightChildren children is_member is_super_call
member_sorted (field f t) =
    let a = flags_sorted f in let b = type_sorted t in
    made is_member _ (goes_then a.goes b.goes) refl (option_later is_flags b.goes _ a.is, b.is, tt)
member_sorted (field_with_value f t v) =
    let a = flags_sorted f in let b = type_sorted t in let x = literal_sorted v in
    made is_member _ (goes_then a.goes (goes_then b.goes x.goes)) refl (option_later is_flags (goes_then b.goes x.goes) _ a.is, of_later is_type x.goes b.is, x.is)
member_sorted (bare_method f t ps) =
    let a = flags_sorted f in let b = result_sorted t in let x = parameters_sorted ps in
    made is_member _ (goes_then a.goes (goes_then b.goes (goes_then x.goes stays))) refl (option_later is_flags (goes_then b.goes x.goes) _ a.is, of_later is_result x.goes b.is, x.is, tt)
member_sorted (method {q = q} f t ps s) =
    let a = flags_sorted f in let b = result_sorted t in let x = parameters_sorted ps in let y = block_made q (statements_sorted s) in
    made is_member _ (goes_then a.goes (goes_then b.goes (goes_then x.goes y.goes))) refl
    (option_later is_flags (goes_then b.goes (goes_then x.goes y.goes)) _ a.is, of_later is_result (goes_then x.goes y.goes) b.is, option_later is_parameter_list y.goes _ x.is, y.is)
member_sorted (constructor {q = q} f ps s) =
    let a = flags_sorted f in let x = parameters_sorted ps in let y = block_made q (statements_sorted s) in
    made is_member _ (goes_then a.goes (goes_then x.goes y.goes)) refl
    (option_later is_flags (goes_then x.goes y.goes) _ a.is, option_later is_parameter_list y.goes _ x.is, tt, y.is)
member_sorted (constructor_with_super {N3 = N3} {arguments = arguments} {q = q} {s = r} f ps d s) =
    let a = flags_sorted f in let x = parameters_sorted ps in let v = arguments_sorted d in
    let u : Reads is_super_call _ (put N3 (SuperCall r arguments)) (next N3) = made is_super_call (SuperCall r arguments) v.goes refl v.are in
    let y = block_made q (statements_sorted s) in
    made is_member _ (goes_then a.goes (goes_then x.goes (goes_then u.goes y.goes))) refl
    (option_later is_flags (goes_then x.goes (goes_then u.goes y.goes)) _ a.is, option_later is_parameter_list (goes_then u.goes y.goes) _ x.is, of_later is_super_call y.goes u.is, y.is)

members_sorted : {N N1 : List Node} {i o : List Lexeme} {ids : List ℕ} → MembersRead N i N1 o ids → ReadsAll is_member N N1 ids
members_sorted no_member = record { goes = stays; are = tt }
members_sorted (one_member_more d m) = one_more is_member _ _ (members_sorted d) (member_sorted m)

pub class_sorted : {N N1 : List Node} {i o : List Lexeme} {id : ℕ} → ClassRead N i N1 o id → Reads is_class N N1 id
unfolding HasRightChildren children is_class
class_sorted (class f h m) =
    let a = flags_sorted f in let b = header_sorted h in let x = members_sorted m in
    made is_class _ (goes_then a.goes (goes_then b.goes x.goes)) refl (option_later is_flags (goes_then b.goes x.goes) _ a.is, option_later is_header x.goes _ b.is, x.are)

classes_sorted : {N N1 : List Node} {i o : List Lexeme} {ids : List ℕ} → ClassesRead N i N1 o ids → ReadsAll is_class N N1 ids
classes_sorted no_class = record { goes = stays; are = tt }
classes_sorted (one_class_more d c) = one_more is_class _ _ (classes_sorted d) (class_sorted c)

tree_sorted : {N N1 : List Node} {i : List Lexeme} {ids : List ℕ} → Tree N i N1 ids → GoesOn N N1 ids
tree_sorted (file d c) = (classes_sorted c).goes
tree_sorted (file_of_package e d c) = (classes_sorted c).goes

files_sorted : {before after : Forest} {rows : List (List Lexeme)} → FilesRead before rows after → IsWellSorted before.nodes → IsWellSorted after.nodes
files_sorted no_file w = w
files_sorted (next_file f more) w = files_sorted more ((tree_sorted f.tree).keeps w)

-- a program that is read from texts has children of the right sorts at each node
pub well_sorted : (forest : Forest) → IsReadFromTexts forest → IsWellSorted forest.nodes
well_sorted forest r = files_sorted r.reads.files_read (record { each = λ id node e. absurd (cc (e)) })

file_placed : {before after : Forest} {row : List Lexeme} → FileRead before row after → AreIntervals before → AreIntervals after
unfolding joined
file_placed {before} {after} f w =
    let g = tree_sorted f.tree in
    let t : Subtrees after.nodes 0 (joined before.files) (length before.nodes) = subst (λ M. Subtrees M 0 (joined before.files) (length before.nodes)) (sym g.whole) (trees_more before.nodes g.more w.trees) in
    let e : joined after.files ≡ joined before.files ++ f.classes = ap joined f.files ∙ joined-append before.files (f.classes ∷ []) ∙ ap (λ xs. joined before.files ++ xs) (append-nil f.classes) in
    record { trees = subst (λ ids. Subtrees after.nodes 0 ids (length after.nodes)) (sym e) (trees_then t g.trees) }

files_placed : {before after : Forest} {rows : List (List Lexeme)} → FilesRead before rows after → AreIntervals before → AreIntervals after
files_placed no_file w = w
files_placed (next_file f more) w = files_placed more (file_placed f w)

-- the trees of its classes stand one behind the other
pub are_intervals : (forest : Forest) → IsReadFromTexts forest → AreIntervals forest
unfolding joined
are_intervals forest r = files_placed r.reads.files_read (record { trees = no_tree })
