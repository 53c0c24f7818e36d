-- The grammar, first part: imports, annotations and modifiers, types, parameters and the heads of classes.
-- `X N i N' o id` says: from the nodes N and the lexemes i, reading an X ends with the nodes N' and the lexemes o,
-- and what was read is the node id. Nodes come in the order in which reading finishes them.
use Rattle.std.specs.Prelude.{◌≡◌, ℕ, Bool, true, false, List, [], ◌∷◌, ◌++◌, Option, Some, None, codes}
use Rattle.scj_base.specs.Lexeme.{is_name}
use Rattle.scj_base.specs.Vocabulary.{word_boolean, word_extends, word_false, word_implements, word_import, word_int, word_long, word_static, word_true, word_void, sign_left_brace, sign_left_parenthesis, sign_right_parenthesis, sign_left_bracket, sign_right_bracket, sign_semicolon, sign_comma, sign_dot, sign_at, sign_assign, sign_less, sign_greater, sign_star}
use Rattle.scj_tree.specs.declared.nodes.Node.{Node}
use Rattle.scj_tree.specs.declared.nodes.Node.TheVariants.{DefineScope, ScopeName, Supers, SuperType, TypeArgument, IntType, BooleanType, ClassType, VoidType, LongType, Parameters, Parameter}
use Rattle.scj_tree.specs.declared.parsed_parts.FlagSet.{FlagSet}
use Rattle.scj_tree.specs.Lexemes.{Lexeme, a_name, a_word, a_text, a_sign}
use Rattle.scj_tree.specs.Nodes.{put, next}
use Rattle.scj_tree.specs.Terminals.{no_flags, placed, with_define_scope, with_scope, with_runs_in, add_modifier, with_flags, flags_number, is_effectless, has_type_argument}

-- ---- packages and imports (JLS 7.4, 7.5)

pub data Dotted : List Lexeme → List Lexeme → Type 0 where
  dotted_name : {w p o : _} → Dotted (a_name w p ∷ o) o
  dotted_longer : {w p q i o : _} → Dotted i o → Dotted (a_name w p ∷ a_sign sign_dot q ∷ i) o

pub data Imported : List Lexeme → List Lexeme → Type 0 where
  imported_name : {i o : _} → Dotted i o → Imported i o
  imported_all : {i o p q : _} → Dotted i (a_sign sign_dot p ∷ a_sign sign_star q ∷ o) → Imported i o

pub data Imports : List Lexeme → List Lexeme → Type 0 where
  no_imports : {o : _} → Imports o o
  plain_import : {i i1 o p q : _} →
      Imported i (a_sign sign_semicolon q ∷ i1) → Imports i1 o →
      Imports (a_word word_import p ∷ i) o
  static_import : {i i1 o p q r : _} →
      Imported i (a_sign sign_semicolon q ∷ i1) → Imports i1 o →
      Imports (a_word word_import p ∷ a_word word_static r ∷ i) o

-- ---- annotations without effect

pub data PlainValue : List Lexeme → List Lexeme → Type 0 where
  plain_text : {w p o : _} → PlainValue (a_text w p ∷ o) o
  plain_dotted : {i o : _} → Dotted i o → PlainValue i o
  plain_true : {p o : _} → PlainValue (a_word word_true p ∷ o) o
  plain_false : {p o : _} → PlainValue (a_word word_false p ∷ o) o

pub data PlainPair : List Lexeme → List Lexeme → Type 0 where
  value_alone : {i o : _} → PlainValue i o → PlainPair i o
  named_value : {w p q i o : _} → PlainValue i o → PlainPair (a_name w p ∷ a_sign sign_assign q ∷ i) o

-- with the closing parenthesis
pub data PlainPairs : List Lexeme → List Lexeme → Type 0 where
  last_pair : {i o p : _} → PlainPair i (a_sign sign_right_parenthesis p ∷ o) → PlainPairs i o
  more_pairs : {i i1 o p : _} → PlainPair i (a_sign sign_comma p ∷ i1) → PlainPairs i1 o → PlainPairs i o

pub data PlainArguments : List Lexeme → List Lexeme → Type 0 where
  no_parentheses : {o : _} → PlainArguments o o
  empty_parentheses : {p q o : _} →
      PlainArguments (a_sign sign_left_parenthesis p ∷ a_sign sign_right_parenthesis q ∷ o) o
  pairs_in_parentheses : {p i o : _} → PlainPairs i o → PlainArguments (a_sign sign_left_parenthesis p ∷ i) o

-- ---- annotations and modifiers

-- a scope's name: between quotes, bare, or behind `Scope.`
pub data ScopeValue : List Node → List Lexeme → List Node → List Lexeme → ℕ → Type 0 where
  quoted_scope : {N w p o : _} → is_name w ≡ true → ScopeValue N (a_text w p ∷ o) (put N (ScopeName p w)) o (next N)
  bare_scope : {N w p o : _} → ScopeValue N (a_name w p ∷ o) (put N (ScopeName p w)) o (next N)
  qualified_scope : {N w p q r o : _} →
      ScopeValue N (a_name (codes "Scope") p ∷ a_sign sign_dot q ∷ a_name w r ∷ o) (put N (ScopeName p w)) o (next N)

-- a row of annotations and modifiers, before a local or before another declaration: no annotation with effect and no
-- modifier stands twice
pub data FlagRow (is_local : Bool) : List Node → List Lexeme → List Node → List Lexeme → FlagSet → Type 0 where
  no_flag : {N i : _} → FlagRow is_local N i N i no_flags
  modifier : {N N1 i o flags more w p : _} →
      FlagRow is_local N i N1 (a_word w p ∷ o) flags → add_modifier is_local w flags ≡ Some more →
      FlagRow is_local N i N1 o (placed p more)
  effectless : {N N1 i i1 o flags w p q : _} →
      FlagRow is_local N i N1 (a_sign sign_at p ∷ a_name w q ∷ i1) flags → is_effectless w ≡ true →
      PlainArguments i1 o →
      FlagRow is_local N i N1 o (placed p flags)
  scope_flag : {N N1 N2 i i1 o flags id p q r u : _} →
      FlagRow is_local N i
      N1 (a_sign sign_at p ∷ a_name (codes "Scope") q ∷ a_sign sign_left_parenthesis r ∷ i1) flags →
      flags.scope ≡ None → ScopeValue N1 i1 N2 (a_sign sign_right_parenthesis u ∷ o) id →
      FlagRow is_local N i N2 o (with_scope id (placed p flags))
  runs_in_flag : {N N1 N2 i i1 o flags id p q r u : _} →
      FlagRow is_local N i
      N1 (a_sign sign_at p ∷ a_name (codes "RunsIn") q ∷ a_sign sign_left_parenthesis r ∷ i1) flags →
      flags.runs_in ≡ None → ScopeValue N1 i1 N2 (a_sign sign_right_parenthesis u ∷ o) id →
      FlagRow is_local N i N2 o (with_runs_in id (placed p flags))
  define_scope_flag : {N N1 N2 N3 i i1 i2 o flags name_id parent_id p q r s u v x y z : _} →
      FlagRow is_local N i N1 (a_sign sign_at p ∷ a_name (codes "DefineScope") q ∷ a_sign sign_left_parenthesis r ∷
      a_name (codes "name") s ∷ a_sign sign_assign u ∷ i1) flags →
      flags.define_scope ≡ None →
      ScopeValue N1 i1 N2 (a_sign sign_comma v ∷ a_name (codes "parent") x ∷ a_sign sign_assign y ∷ i2) name_id →
      ScopeValue N2 i2 N3 (a_sign sign_right_parenthesis z ∷ o) parent_id →
      FlagRow is_local N i
      (put N3 (DefineScope p name_id parent_id false)) o (with_define_scope (next N3) (placed p flags))
  define_scope_flag_parent_first : {N N1 N2 N3 i i1 i2 o flags name_id parent_id p q r s u v x y z : _} →
      FlagRow is_local N i N1 (a_sign sign_at p ∷ a_name (codes "DefineScope") q ∷ a_sign sign_left_parenthesis r ∷
      a_name (codes "parent") s ∷ a_sign sign_assign u ∷ i1) flags →
      flags.define_scope ≡ None →
      ScopeValue N1 i1 N2 (a_sign sign_comma v ∷ a_name (codes "name") x ∷ a_sign sign_assign y ∷ i2) parent_id →
      ScopeValue N2 i2 N3 (a_sign sign_right_parenthesis z ∷ o) name_id →
      FlagRow is_local N i
      (put N3 (DefineScope p parent_id name_id true)) o (with_define_scope (next N3) (placed p flags))

-- ---- types (JLS 4)

pub data TypeRead : List Node → List Lexeme → List Node → List Lexeme → ℕ → Type 0 where
  int_type : {N p o : _} → TypeRead N (a_word word_int p ∷ o) (put N (IntType p false)) o (next N)
  int_array : {N p q r o : _} →
      TypeRead N (a_word word_int p ∷ a_sign sign_left_bracket q ∷ a_sign sign_right_bracket r ∷ o)
      (put N (IntType p true)) o (next N)
  boolean_type : {N p o : _} → TypeRead N (a_word word_boolean p ∷ o) (put N (BooleanType p false)) o (next N)
  boolean_array : {N p q r o : _} →
      TypeRead N (a_word word_boolean p ∷ a_sign sign_left_bracket q ∷ a_sign sign_right_bracket r ∷ o)
      (put N (BooleanType p true)) o (next N)
  class_type : {N w p o : _} → TypeRead N (a_name w p ∷ o) (put N (ClassType p w None false)) o (next N)
  class_array : {N w p q r o : _} →
      TypeRead N (a_name w p ∷ a_sign sign_left_bracket q ∷ a_sign sign_right_bracket r ∷ o)
      (put N (ClassType p w None true)) o (next N)
  argument_type : {N w v p q r s o : _} →
      has_type_argument w ≡ true →
      TypeRead N (a_name w p ∷ a_sign sign_less q ∷ a_name v r ∷ a_sign sign_greater s ∷ o)
      (put (put N (TypeArgument r v)) (ClassType p w (Some (next N)) false)) o (next (put N (TypeArgument r v)))
  argument_array : {N w v p q r s x y o : _} →
      has_type_argument w ≡ true →
      TypeRead N (a_name w p ∷ a_sign sign_less q ∷ a_name v r ∷ a_sign sign_greater s ∷ a_sign sign_left_bracket x ∷
      a_sign sign_right_bracket y ∷ o) (put (put N (TypeArgument r v)) (ClassType p w (Some (next N)) true)) o
      (next (put N (TypeArgument r v)))

-- the result of a method
pub data ResultRead : List Node → List Lexeme → List Node → List Lexeme → ℕ → Type 0 where
  typed_result : {N N1 i o id : _} → TypeRead N i N1 o id → ResultRead N i N1 o id
  void_result : {N p o : _} → ResultRead N (a_word word_void p ∷ o) (put N (VoidType p)) o (next N)
  long_result : {N p o : _} → ResultRead N (a_word word_long p ∷ o) (put N (LongType p)) o (next N)

-- ---- parameters (JLS 8.4.1)

pub data ParameterRead : List Node → List Lexeme → List Node → List Lexeme → ℕ → Type 0 where
  parameter : {N N1 N2 i i1 o flags t w p : _} →
      FlagRow false N i N1 i1 flags → TypeRead (with_flags N1 flags) i1 N2 (a_name w p ∷ o) t →
      ParameterRead N i (put N2 (Parameter p w (flags_number N1 flags) t)) o (next N2)

-- parameters with the comma behind each
pub data ParametersBegun : List Node → List Lexeme → List Node → List Lexeme → List ℕ → Type 0 where
  no_parameter_yet : {N i : _} → ParametersBegun N i N i []
  parameter_and_comma : {N N1 N2 i i1 o ids id p : _} →
      ParametersBegun N i N1 i1 ids → ParameterRead N1 i1 N2 (a_sign sign_comma p ∷ o) id →
      ParametersBegun N i N2 o (ids ++ id ∷ [])

-- with both parentheses: a node only where a parameter stands between them
pub data ParametersRead : List Node → List Lexeme → List Node → List Lexeme → Option ℕ → Type 0 where
  no_parameters : {N p q o : _} →
      ParametersRead N (a_sign sign_left_parenthesis p ∷ a_sign sign_right_parenthesis q ∷ o) N o None
  parameters : {N N1 N2 i i1 o ids id p q : _} →
      ParametersBegun N i N1 i1 ids → ParameterRead N1 i1 N2 (a_sign sign_right_parenthesis q ∷ o) id →
      ParametersRead N (a_sign sign_left_parenthesis p ∷ i) (put N2 (Parameters p (ids ++ id ∷ []))) o (Some (next N2))

-- ---- what stands behind a class's name (JLS 8.1.4, 8.1.5)

pub data SuperRead : List Node → List Lexeme → List Node → List Lexeme → ℕ → Type 0 where
  super_type : {N w p o : _} → SuperRead N (a_name w p ∷ o) (put N (SuperType p w None)) o (next N)
  super_type_with_argument : {N w v p q r s o : _} →
      has_type_argument w ≡ true →
      SuperRead N (a_name w p ∷ a_sign sign_less q ∷ a_name v r ∷ a_sign sign_greater s ∷ o)
      (put (put N (TypeArgument r v)) (SuperType p w (Some (next N)))) o (next (put N (TypeArgument r v)))

-- interfaces with the comma behind each
pub data InterfacesBegun : List Node → List Lexeme → List Node → List Lexeme → List ℕ → Type 0 where
  no_interface_yet : {N i : _} → InterfacesBegun N i N i []
  interface_and_comma : {N N1 N2 i i1 o ids id p : _} →
      InterfacesBegun N i N1 i1 ids → SuperRead N1 i1 N2 (a_sign sign_comma p ∷ o) id →
      InterfacesBegun N i N2 o (ids ++ id ∷ [])

-- with the brace that opens the class's body
pub data HeaderRead : List Node → List Lexeme → List Node → List Lexeme → Option ℕ → Type 0 where
  no_header : {N p o : _} → HeaderRead N (a_sign sign_left_brace p ∷ o) N o None
  extends_header : {N N1 i o super p q : _} →
      SuperRead N i N1 (a_sign sign_left_brace q ∷ o) super →
      HeaderRead N (a_word word_extends p ∷ i) (put N1 (Supers p (Some super) [])) o (Some (next N1))
  implements_header : {N N1 N2 i i1 o ids id p q : _} →
      InterfacesBegun N i N1 i1 ids → SuperRead N1 i1 N2 (a_sign sign_left_brace q ∷ o) id →
      HeaderRead N (a_word word_implements p ∷ i) (put N2 (Supers p None (ids ++ id ∷ []))) o (Some (next N2))
  extends_implements_header : {N N1 N2 N3 i i1 i2 o super ids id p q r : _} →
      SuperRead N i N1 (a_word word_implements q ∷ i1) super → InterfacesBegun N1 i1 N2 i2 ids →
      SuperRead N2 i2 N3 (a_sign sign_left_brace r ∷ o) id →
      HeaderRead N (a_word word_extends p ∷ i) (put N3 (Supers p (Some super) (ids ++ id ∷ []))) o (Some (next N3))
