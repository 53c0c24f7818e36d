-- The numbers of the nodes of a program that is read from texts are ints.
use Rattle.std.proofs.Common.{ℕ, List, [], ◌∷◌, ◌++◌, length, Some}
use Rattle.scj_base.specs.declared.lexemes.Token.{Token}
use Rattle.scj_base.specs.declared.lexemes.TokenKind.{TokenKind}
use Rattle.scj_base.specs.Lexeme.{Lexeme as Shape, Piece}
use Rattle.scj_base.specs.Lexeme.Lexeme.{name, word, number, text, sign}
use Rattle.scj_base.specs.Lexeme.Piece.{lexeme}
use Rattle.scj_base.specs.Lex.{Lexes, token_at}
use Rattle.scj_base.specs.Lex.Lexes.{ends, skips, takes}
use Rattle.scj_tree.specs.declared.nodes.Node.{Node}
use Rattle.scj_tree.specs.Forest.{Forest}
use Rattle.scj_tree.specs.Lexemes.{Lexeme, lexeme_of, lexemes_of}
use Rattle.scj_tree.specs.Grammar.{LiteralRead, number_literal, negative_literal, true_literal, false_literal, null_literal, MemberRead, field, field_with_value, bare_method, method, constructor, constructor_with_super, MembersRead, no_member, one_member_more, ClassRead, class, ClassesRead, no_class, one_class_more, Tree, file, file_of_package}
use Rattle.scj_rules.specs.Syntax.{HaveLexemes, no_text, next_text, FilesRead, no_file, next_file, Reads}
use Rattle.value_operators.specs.Literals.{HasInt}
use Rattle.value_operators.proofs.Numbers.{AllInts, IsSmall, AllSmall, Fits, made, behind, behind2, behind3, number_first, below}
use Rattle.value_operators.proofs.HeaderNumbers.{dotted_fits, imports_fit, row_fits, flags_fit, type_fits, result_fits, parameters_fit, header_fits}
use Rattle.value_operators.proofs.ExpressionNumbers.{arguments_fit}
use Rattle.value_operators.proofs.StatementNumbers.{statements_fit}

-- ---- members and classes

literal_fits : {N N1 : List Node} {i o : List Lexeme} {id : ℕ} → LiteralRead N i N1 o id → Fits N i → Fits N1 o
unfolding HasInt
literal_fits (number_literal e) h = made _ (behind h) (below _ e (number_first h))
literal_fits negative_literal h = made _ (behind2 h) (number_first (behind h))
literal_fits true_literal h = made _ (behind h) tt
literal_fits false_literal h = made _ (behind h) tt
literal_fits null_literal h = made _ (behind h) tt

member_fits : {N N1 : List Node} {i o : List Lexeme} {id : ℕ} → MemberRead N i N1 o id → Fits N i → Fits N1 o
unfolding HasInt
member_fits (field d t) h = made _ (behind2 (type_fits t (flags_fit _ (row_fits d h)))) tt
member_fits (field_with_value d t v) h =
    made _ (behind (literal_fits v (behind2 (type_fits t (flags_fit _ (row_fits d h)))))) tt
member_fits (bare_method d t ps) h =
    made _ (behind (parameters_fit ps (behind (result_fits t (flags_fit _ (row_fits d h)))))) tt
member_fits (method d t ps s) h =
    let head = parameters_fit ps (behind (result_fits t (flags_fit _ (row_fits d h)))) in
    made _ (made _ (behind (statements_fit s (behind head))) tt) tt
member_fits (constructor d ps s) h =
    let head = parameters_fit ps (flags_fit _ (behind (row_fits d h))) in
    made _ (made _ (behind (statements_fit s (behind head))) tt) tt
member_fits (constructor_with_super d ps c s) h =
    let head = parameters_fit ps (flags_fit _ (behind (row_fits d h))) in
    let call = made _ (behind (arguments_fit c (behind3 head))) tt in
    made _ (made _ (behind (statements_fit s call)) tt) tt

members_fit : {N N1 : List Node} {i o : List Lexeme} {ids : List ℕ} → MembersRead N i N1 o ids → Fits N i → Fits N1 o
members_fit no_member h = h
members_fit (one_member_more d e) h = member_fits e (members_fit d h)

class_fits : {N N1 : List Node} {i o : List Lexeme} {id : ℕ} → ClassRead N i N1 o id → Fits N i → Fits N1 o
unfolding HasInt
class_fits (class d k s) h =
    made _ (behind (members_fit s (header_fits k (flags_fit _ (behind2 (row_fits d h)))))) tt

classes_fit : {N N1 : List Node} {i o : List Lexeme} {ids : List ℕ} → ClassesRead N i N1 o ids → Fits N i → Fits N1 o
classes_fit no_class h = h
classes_fit (one_class_more d e) h = class_fits e (classes_fit d h)

-- ---- files

tree_ints : {N N1 : List Node} {i : List Lexeme} {ids : List ℕ} → Tree N i N1 ids → Fits N i → AllInts N1
tree_ints (file d e) h = (classes_fit e (imports_fit d h)).ints
tree_ints (file_of_package c d e) h = (classes_fit e (imports_fit d (behind (dotted_fits c (behind h))))).ints

-- the numbers of the lexemes of a text are ones that it may hold: L2
shape_small : (bytes : List ℕ) (at : ℕ) (before w rest : List ℕ) (kind : TokenKind) → Shape w rest kind →
    IsSmall (lexeme_of bytes (token_at at before kind (length w)))
unfolding IsSmall lexeme_of
shape_small bytes at before _ _ _ (name w rest h l r e) = tt
shape_small bytes at before _ _ _ (word w rest n h e) = tt
shape_small bytes at before _ _ _ (number w rest h l e) = l
shape_small bytes at before _ _ _ (text inside rest a) = tt
shape_small bytes at before _ _ _ (sign w rest n e h o) = tt

piece_small : (bytes : List ℕ) (at : ℕ) (before w rest : List ℕ) (kind : TokenKind) → Piece w rest (Some kind) →
    IsSmall (lexeme_of bytes (token_at at before kind (length w)))
piece_small bytes at before _ _ _ (lexeme w rest kind d) = shape_small bytes at before w rest kind d

lexes_small : (bytes : List ℕ) (at : ℕ) (before rest : List ℕ) (tokens : List Token) → Lexes at before rest tokens →
    AllSmall (lexemes_of bytes tokens)
unfolding AllSmall IsSmall lexemes_of lexeme_of
lexes_small bytes _ _ _ _ (ends at before) = (tt, tt)
lexes_small bytes _ _ _ _ (skips at before w rest tokens p l) = lexes_small bytes at (before ++ w) rest tokens l
lexes_small bytes _ _ _ _ (takes at before w rest kind tokens p l) =
    (piece_small bytes at before w rest kind p, lexes_small bytes at (before ++ w) rest tokens l)

unfoldable AllTextsSmall : List (List Lexeme) → Type 0
AllTextsSmall [] = Unit {0}
AllTextsSmall (x ∷ xs) = AllSmall x × AllTextsSmall xs

texts_small : {at : ℕ} {texts : List (List ℕ)} {lexemes : List (List Lexeme)} → HaveLexemes at texts lexemes →
    AllTextsSmall lexemes
unfolding AllTextsSmall
texts_small no_text = tt
texts_small (next_text {text = bytes} l more) = (lexes_small bytes _ _ _ _ l, texts_small more)

files_ints : {before after : Forest} {lexemes : List (List Lexeme)} → FilesRead before lexemes after →
    AllTextsSmall lexemes → AllInts before.nodes → AllInts after.nodes
unfolding AllTextsSmall
files_ints no_file s h = h
files_ints (next_file d more) s h = files_ints more s.1 (tree_ints d.tree (record { ints = h; small = s.0 }))

pub read_ints : (texts : List (List ℕ)) (forest : Forest) → Reads texts forest → AllInts forest.nodes
unfolding AllInts
read_ints texts forest r = files_ints r.files_read (texts_small r.have_lexemes) tt
