-- Members of classes: fields, methods and constructors; and where a statement ends.
use Rattle.std.specs.Prelude.{Bool, List, None, Option, Some, [], false, if◌then◌else◌, length, true, ℕ, ◌++◌, ◌==◌, ◌∷◌}
use Rattle.parser_machine.specs.Blocks.{statements_step}
use Rattle.parser_machine.specs.Declarations.{flags_step}
use Rattle.parser_machine.specs.States.{State, at}
use Rattle.parser_machine.specs.declared.entries.Entry.{Entry}
use Rattle.parser_machine.specs.declared.entries.Entry.TheVariants.{ArgumentsOpen, BlockOpen, ClassBody, ConstructorBody, ConstructorOpen, FieldOpen, FileOpen, ForBody, IfElse, IfThen, MethodBody, MethodOpen, ParametersOpen, SuperCallOpen, WhileBody}
use Rattle.parser_machine.specs.declared.modes.Mode.TheVariants.{ArgumentFirst, ConstructorStart, FlagsRead, InClasses, InMembers, InStatements, LiteralDone, LiteralMinus, LiteralStart, MethodNamed, ParametersDone, ParametersFirst, StatementStart, SuperOpen}
use Rattle.scj_base.specs.Vocabulary.{sign_assign, sign_comma, sign_left_brace, sign_left_parenthesis, sign_minus, sign_right_brace, sign_right_parenthesis, sign_semicolon, word_else, word_false, word_null, word_super, word_true}
use Rattle.scj_base.specs.declared.positions.Position.{Position}
use Rattle.scj_tree.specs.Nodes.{put}
use Rattle.scj_tree.specs.Lexemes.{Lexeme, a_name, a_number, a_sign, a_word}
use Rattle.scj_tree.specs.Terminals.{is_minimum, no_flags}
use Rattle.scj_tree.specs.declared.nodes.Node.{Node}
use Rattle.scj_tree.specs.declared.nodes.Node.TheVariants.{Class, Constructor, False, Field, For, If, Method, Null, Number, Parameters, True, While}

-- a class with one member more
unfoldable pub member_read : ℕ → List Node → List Entry → Option State
member_read id N (ClassBody flags p w header ids ∷ s) =
    Some (at InMembers (ClassBody flags p w header (ids ++ id ∷ []) ∷ s) N)
member_read id N _ = None

-- ---- fields

unfoldable pub member_named_step : Option ℕ → ℕ → Position → List ℕ → List Node → List Entry → Lexeme → Option State
member_named_step flags t p w N s (a_sign n q) =
    if n == sign_semicolon then member_read (length N) (put N (Field p w flags t None None)) s else
    if n == sign_assign then Some (at LiteralStart (FieldOpen flags t p w q ∷ s) N) else
    if n == sign_left_parenthesis then Some (at (ParametersFirst q) (MethodOpen flags t p w ∷ s) N) else
    None
member_named_step flags t p w N s _ = None

unfoldable pub literal_word : ℕ → Position → List Node → List Entry → Option State
literal_word n p N s =
    if n == word_true then Some (at (LiteralDone (length N)) s (put N (True p))) else
    if n == word_false then Some (at (LiteralDone (length N)) s (put N (False p))) else
    if n == word_null then Some (at (LiteralDone (length N)) s (put N (Null p))) else
    None

unfoldable pub literal_step : List Node → List Entry → Lexeme → Option State
literal_step N s (a_word n p) = literal_word n p N s
literal_step N s (a_number n p) =
    if is_minimum n then None else Some (at (LiteralDone (length N)) s (put N (Number p n false)))
literal_step N s (a_sign n p) = if n == sign_minus then Some (at (LiteralMinus p) s N) else None
literal_step N s _ = None

unfoldable pub literal_minus_step : Position → List Node → List Entry → Lexeme → Option State
literal_minus_step p N s (a_number n q) = Some (at (LiteralDone (length N)) s (put N (Number p n true)))
literal_minus_step p N s _ = None

unfoldable pub field_ended : ℕ → List Node → List Entry → Option State
field_ended id N (FieldOpen flags t p w q ∷ s) = member_read (length N) (put N (Field p w flags t (Some q) (Some id))) s
field_ended id N _ = None

unfoldable pub literal_end_step : ℕ → List Node → List Entry → Lexeme → Option State
literal_end_step id N s (a_sign n p) = if n == sign_semicolon then field_ended id N s else None
literal_end_step id N s _ = None

-- ---- methods and constructors

unfoldable pub result_step : Option ℕ → ℕ → List Node → List Entry → Lexeme → Option State
result_step flags t N s (a_name w p) = Some (at (MethodNamed flags t p w) s N)
result_step flags t N s _ = None

unfoldable pub method_named_step : Option ℕ → ℕ → Position → List ℕ → List Node → List Entry → Lexeme → Option State
method_named_step flags t p w N s (a_sign n q) =
    if n == sign_left_parenthesis then Some (at (ParametersFirst q) (MethodOpen flags t p w ∷ s) N) else None
method_named_step flags t p w N s _ = None

unfoldable pub parameters_first_step : Position → List Node → List Entry → Lexeme → Option State
parameters_first_step p N s (a_sign n q) =
    if n == sign_right_parenthesis then Some (at (ParametersDone None) s N) else
    flags_step false no_flags N (ParametersOpen p [] ∷ s) (a_sign n q)
parameters_first_step p N s t = flags_step false no_flags N (ParametersOpen p [] ∷ s) t

unfoldable pub parameter_ended : ℕ → List Node → List Entry → ℕ → Option State
parameter_ended id N (ParametersOpen p ids ∷ s) n =
    if n == sign_comma then Some (at (FlagsRead false no_flags) (ParametersOpen p (ids ++ id ∷ []) ∷ s) N) else
    if n == sign_right_parenthesis then Some
    (at (ParametersDone (Some (length N))) s (put N (Parameters p (ids ++ id ∷ [])))) else
    None
parameter_ended id N _ n = None

unfoldable pub parameter_end_step : ℕ → List Node → List Entry → Lexeme → Option State
parameter_end_step id N s (a_sign n q) = parameter_ended id N s n
parameter_end_step id N s _ = None

unfoldable pub body_step : Option ℕ → List Node → List Entry → ℕ → Position → Option State
body_step parameters N (MethodOpen flags t p w ∷ s) n q =
    if n == sign_left_brace then Some (at InStatements (BlockOpen q [] ∷ MethodBody flags t p w parameters ∷ s) N) else
    if n == sign_semicolon then member_read (length N) (put N (Method p w flags t parameters None)) s else
    None
body_step parameters N (ConstructorOpen flags p w ∷ s) n q =
    if n == sign_left_brace then Some (at (ConstructorStart q) (ConstructorBody flags p w parameters None ∷ s) N) else
    None
body_step parameters N _ n q = None

unfoldable pub parameters_end_step : Option ℕ → List Node → List Entry → Lexeme → Option State
parameters_end_step parameters N s (a_sign n q) = body_step parameters N s n q
parameters_end_step parameters N s _ = None

unfoldable pub constructor_start_step : Position → List Node → List Entry → Lexeme → Option State
constructor_start_step b N s (a_word n p) =
    if n == word_super then Some (at (SuperOpen b p) s N) else
    statements_step N (BlockOpen b [] ∷ s) (a_word n p)
constructor_start_step b N s t = statements_step N (BlockOpen b [] ∷ s) t

unfoldable pub super_open_step : Position → Position → List Node → List Entry → Lexeme → Option State
super_open_step b p N s (a_sign n q) =
    if n == sign_left_parenthesis then Some (at ArgumentFirst (ArgumentsOpen [] ∷ SuperCallOpen b p ∷ s) N) else None
super_open_step b p N s _ = None

unfoldable pub super_end_step : Position → List Node → List Entry → Lexeme → Option State
super_end_step b N s (a_sign n q) = if n == sign_semicolon then Some (at InStatements (BlockOpen b [] ∷ s) N) else None
super_end_step b N s _ = None

-- ---- members in a row

unfoldable pub class_ended : List Node → List Entry → Option State
class_ended N (ClassBody flags p w header ids ∷ FileOpen classes ∷ s) =
    Some (at InClasses (FileOpen (classes ++ length N ∷ []) ∷ s) (put N (Class p w flags header ids)))
class_ended N _ = None

unfoldable pub members_step : List Node → List Entry → Lexeme → Option State
members_step N s (a_sign n p) = if n == sign_right_brace then class_ended N s else flags_step false no_flags N s
    (a_sign n p)
members_step N s t = flags_step false no_flags N s t

-- ---- behind a statement

-- a body ends its member, and what stands behind the member follows
unfoldable pub member_ended : ℕ → List Node → List Entry → Lexeme → Option State
member_ended id N (ClassBody flags p w header ids ∷ s) t =
    members_step N (ClassBody flags p w header (ids ++ id ∷ []) ∷ s) t
member_ended id N _ t = None

unfoldable pub is_else : Lexeme → Bool
is_else (a_word n p) = n == word_else
is_else _ = false

unfoldable pub statement_ended : ℕ → List Node → List Entry → Lexeme → Option State
statement_ended id N [] t = None
statement_ended id N (BlockOpen p ids ∷ s) t = statements_step N (BlockOpen p (ids ++ id ∷ []) ∷ s) t
statement_ended id N (IfThen p c ∷ s) t =
    if is_else t then Some (at StatementStart (IfElse p c id ∷ s) N) else
    statement_ended (length N) (put N (If p c id None)) s t
statement_ended id N (IfElse p c a ∷ s) t = statement_ended (length N) (put N (If p c a (Some id))) s t
statement_ended id N (WhileBody p c ∷ s) t = statement_ended (length N) (put N (While p c id)) s t
statement_ended id N (ForBody p f c u ∷ s) t = statement_ended (length N) (put N (For p f c u id)) s t
statement_ended id N (MethodBody flags r p w parameters ∷ s) t =
    member_ended (length N) (put N (Method p w flags r parameters (Some id))) s t
statement_ended id N (ConstructorBody flags p w parameters super_call ∷ s) t =
    member_ended (length N) (put N (Constructor p w flags parameters super_call id)) s t
statement_ended id N _ t = None
