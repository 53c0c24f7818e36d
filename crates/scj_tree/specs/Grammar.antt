-- The grammar, last part: members, classes and files (JLS 7, 8); and where a row of lexemes stops being a file's begin.
use Rattle.std.specs.Prelude.{◌≡◌, ℕ, true, false, List, [], ◌∷◌, ◌++◌, Some, None}
use Rattle.scj_base.specs.declared.positions.Position.{Position}
use Rattle.scj_base.specs.Vocabulary.{word_class, word_false, word_null, word_package, word_super, word_true, sign_left_brace, sign_right_brace, sign_left_parenthesis, sign_semicolon, sign_assign, sign_minus}
use Rattle.scj_tree.specs.declared.nodes.Node.{Node}
use Rattle.scj_tree.specs.declared.nodes.Node.TheVariants.{Class, Field, Method, Constructor, SuperCall, Block, Number, True, False, Null}
use Rattle.scj_tree.specs.Lexemes.{Lexeme, a_name, a_word, a_number, a_sign, the_end, position_of_lexeme}
use Rattle.scj_tree.specs.Nodes.{put, next}
use Rattle.scj_tree.specs.Terminals.{is_minimum, with_flags, flags_number}
use Rattle.scj_tree.specs.Headers.{Dotted, Imports, FlagRow, TypeRead, ResultRead, ParametersRead, HeaderRead}
use Rattle.scj_tree.specs.Expressions.{ArgumentsRead}
use Rattle.scj_tree.specs.Statements.{StatementsRead}

-- the value of a field
pub data LiteralRead : List Node → List Lexeme → List Node → List Lexeme → ℕ → Type 0 where
  number_literal : {N n p o : _} →
      is_minimum n ≡ false →
      LiteralRead N (a_number n p ∷ o) (put N (Number p n false)) o (next N)
  negative_literal : {N n p q o : _} →
      LiteralRead N (a_sign sign_minus p ∷ a_number n q ∷ o) (put N (Number p n true)) o (next N)
  true_literal : {N p o : _} → LiteralRead N (a_word word_true p ∷ o) (put N (True p)) o (next N)
  false_literal : {N p o : _} → LiteralRead N (a_word word_false p ∷ o) (put N (False p)) o (next N)
  null_literal : {N p o : _} → LiteralRead N (a_word word_null p ∷ o) (put N (Null p)) o (next N)

-- what the flags before a member leave: the member without them
pub data MemberRead : List Node → List Lexeme → List Node → List Lexeme → ℕ → Type 0 where
  field : {N N1 N2 i i1 o flags t w p q : _} →
      FlagRow false N i N1 i1 flags →
      TypeRead (with_flags N1 flags) i1 N2 (a_name w p ∷ a_sign sign_semicolon q ∷ o) t →
      MemberRead N i (put N2 (Field p w (flags_number N1 flags) t None None)) o (next N2)
  field_with_value : {N N1 N2 N3 i i1 i2 o flags t v w p q r : _} →
      FlagRow false N i N1 i1 flags → TypeRead (with_flags N1 flags) i1 N2 (a_name w p ∷ a_sign sign_assign q ∷ i2) t →
      LiteralRead N2 i2 N3 (a_sign sign_semicolon r ∷ o) v →
      MemberRead N i (put N3 (Field p w (flags_number N1 flags) t (Some q) (Some v))) o (next N3)
  bare_method : {N N1 N2 N3 i i1 i2 o flags t ps w p q : _} →
      FlagRow false N i N1 i1 flags → ResultRead (with_flags N1 flags) i1 N2 (a_name w p ∷ i2) t →
      ParametersRead N2 i2 N3 (a_sign sign_semicolon q ∷ o) ps →
      MemberRead N i (put N3 (Method p w (flags_number N1 flags) t ps None)) o (next N3)
  method : {N N1 N2 N3 N4 i i1 i2 i3 o flags t ps ids w p q r : _} →
      FlagRow false N i N1 i1 flags → ResultRead (with_flags N1 flags) i1 N2 (a_name w p ∷ i2) t →
      ParametersRead N2 i2 N3 (a_sign sign_left_brace q ∷ i3) ps →
      StatementsRead N3 i3 N4 (a_sign sign_right_brace r ∷ o) ids →
      MemberRead N i (put (put N4 (Block q ids)) (Method p w (flags_number N1 flags) t ps (Some (next N4)))) o
      (next (put N4 (Block q ids)))
  constructor : {N N1 N2 N3 i i1 i2 o flags ps ids w p q r : _} →
      FlagRow false N i N1 (a_name w p ∷ i1) flags →
      ParametersRead (with_flags N1 flags) i1 N2 (a_sign sign_left_brace q ∷ i2) ps →
      StatementsRead N2 i2 N3 (a_sign sign_right_brace r ∷ o) ids →
      MemberRead N i (put (put N3 (Block q ids)) (Constructor p w (flags_number N1 flags) ps None (next N3))) o
      (next (put N3 (Block q ids)))
  constructor_with_super : {N N1 N2 N3 N4 i i1 i2 i3 o flags ps arguments ids w p q r s u v : _} →
      FlagRow false N i N1 (a_name w p ∷ i1) flags →
      ParametersRead (with_flags N1 flags) i1
      N2 (a_sign sign_left_brace q ∷ a_word word_super s ∷ a_sign sign_left_parenthesis u ∷ i2) ps →
      ArgumentsRead N2 i2 N3 (a_sign sign_semicolon v ∷ i3) arguments →
      StatementsRead (put N3 (SuperCall s arguments)) i3 N4 (a_sign sign_right_brace r ∷ o) ids →
      MemberRead N i
      (put (put N4 (Block q ids)) (Constructor p w (flags_number N1 flags) ps (Some (next N3)) (next N4))) o
      (next (put N4 (Block q ids)))

pub data MembersRead : List Node → List Lexeme → List Node → List Lexeme → List ℕ → Type 0 where
  no_member : {N i : _} → MembersRead N i N i []
  one_member_more : {N N1 N2 i i1 o ids id : _} →
      MembersRead N i N1 i1 ids → MemberRead N1 i1 N2 o id →
      MembersRead N i N2 o (ids ++ id ∷ [])

pub data ClassRead : List Node → List Lexeme → List Node → List Lexeme → ℕ → Type 0 where
  class : {N N1 N2 N3 i i1 i2 o flags header ids w p q r : _} →
      FlagRow false N i N1 (a_word word_class q ∷ a_name w p ∷ i1) flags →
      HeaderRead (with_flags N1 flags) i1 N2 i2 header → MembersRead N2 i2 N3 (a_sign sign_right_brace r ∷ o) ids →
      ClassRead N i (put N3 (Class p w (flags_number N1 flags) header ids)) o (next N3)

pub data ClassesRead : List Node → List Lexeme → List Node → List Lexeme → List ℕ → Type 0 where
  no_class : {N i : _} → ClassesRead N i N i []
  one_class_more : {N N1 N2 i i1 o ids id : _} →
      ClassesRead N i N1 i1 ids → ClassRead N1 i1 N2 o id →
      ClassesRead N i N2 o (ids ++ id ∷ [])

-- from the nodes N the lexemes are a file, whose reading ends with the nodes N' and the classes ids
pub data Tree : List Node → List Lexeme → List Node → List ℕ → Type 0 where
  file : {N N1 i i1 ids p : _} → Imports i i1 → ClassesRead N i1 N1 (the_end p ∷ []) ids → Tree N i N1 ids
  file_of_package : {N N1 i i1 i2 ids p q r : _} →
      Dotted i (a_sign sign_semicolon q ∷ i1) → Imports i1 i2 → ClassesRead N i2 N1 (the_end p ∷ []) ids →
      Tree N (a_word word_package r ∷ i) N1 ids

-- some lexemes behind these make a file of them, read from the nodes N
pub record BeginsFile (N : List Node) (tokens : List Lexeme) : Type 0 where
  pub rest : List Lexeme
  pub nodes : List Node
  pub classes : List ℕ
  pub tree : Tree N (tokens ++ rest) nodes classes

-- the first lexeme that no file has behind those before it stands at p
pub record RefusedAt (N : List Node) (tokens : List Lexeme) (p : Position) : Type 0 where
  pub before : List Lexeme
  pub refused : Lexeme
  pub behind : List Lexeme
  pub whole : tokens ≡ before ++ refused ∷ behind
  pub begins : BeginsFile N before
  pub ends : BeginsFile N (before ++ refused ∷ []) → Prim.⊥
  pub place : position_of_lexeme refused ≡ p
