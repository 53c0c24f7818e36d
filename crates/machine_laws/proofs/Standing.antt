-- What the parser has put aside stands for what was read since the file's begin. `Due r kind s N i`: from the nodes N
-- and the lexemes i on, the entry on top of the stack s awaits what its kind says, and all that was read before
-- stands in the stack. `Stands r mode s N i` says the same of what the mode awaits.
use Rattle.std.specs.Prelude.{Bool, List, None, Option, Some, [], codes, false, length, nat_le, nat_lt, true, ℕ, ◌==◌, ◌∷◌, ◌≡◌}
use Rattle.parser_machine.specs.Declarations.{other_word}
use Rattle.parser_machine.specs.Operands.{awaits_target}
use Rattle.parser_machine.specs.declared.entries.Entry.{Entry}
use Rattle.parser_machine.specs.declared.entries.Entry.TheVariants.{AnnotationOpen, ArgumentsOpen, AssignValue, BinaryLeft, BlockOpen, CallOpen, CastOpen, ClassBody, ClassOpen, CompoundValue, ConstructorBody, ConstructorOpen, DefineFirst, DefineSecond, FieldOpen, FileOpen, ForBody, ForHead, ForStep, ForTest, GroupOpen, IfElse, IfTest, IfThen, IndexOpen, LengthOpen, LocalOpen, LocalValue, MemberOpen, MethodBody, MethodOpen, NewOpen, ParameterOpen, ParametersOpen, ReturnValue, RunsInOpen, ScopeOpen, Simple, SuperCallOpen, SupersOpen, Target, UnaryOpen, WhileBody, WhileTest}
use Rattle.parser_machine.specs.declared.modes.ElementType.{ElementType}
use Rattle.parser_machine.specs.declared.modes.ElementType.TheVariants.{Boolean, Int, Reference}
use Rattle.scj_base.specs.Vocabulary.{sign_assign, sign_at, sign_comma, sign_dot, sign_greater, sign_left_brace, sign_left_bracket, sign_left_parenthesis, sign_less, sign_minus, sign_not, sign_right_brace, sign_right_parenthesis, sign_semicolon, sign_tilde, word_boolean, word_class, word_else, word_extends, word_for, word_if, word_implements, word_int, word_new, word_return, word_super, word_while}
use Rattle.scj_base.specs.declared.positions.Position.{Position}
use Rattle.scj_tree.specs.Expressions.{ArgumentsBegun, ArgumentsRead, Level, PostRead}
use Rattle.scj_tree.specs.Grammar.{ClassesRead, MembersRead, Tree}
use Rattle.scj_tree.specs.Headers.{FlagRow, HeaderRead, InterfacesBegun, ParametersBegun, ParametersRead, ResultRead, ScopeValue, SuperRead, TypeRead}
use Rattle.scj_tree.specs.Nodes.{put}
use Rattle.scj_tree.specs.Lexemes.{Lexeme, a_name, a_sign, a_word, the_end}
use Rattle.scj_tree.specs.Statements.{AssignmentRead, StatementRead, StatementsRead, name_twice}
use Rattle.scj_tree.specs.Terminals.{begins_local_flags, begins_unary1, begins_with_minimum, closes_name, compound, flags_number, indexable, level, placed, has_type_argument, with_flags}
use Rattle.scj_tree.specs.declared.nodes.Node.{Node}
use Rattle.scj_tree.specs.declared.nodes.Node.TheVariants.{Block, BooleanType, ClassType, IntType, LocalWithValue, SimpleName, SuperCall, TypeArgument}
use Rattle.scj_tree.specs.declared.parsed_parts.FlagSet.{FlagSet}
use Rattle.scj_tree.specs.declared.parsed_parts.PostKind.TheVariants.{Variable}

-- ---- parts of productions

-- the flags of a declaration, given to it
pub data FlagsGiven : Option ℕ → List Node → List Lexeme → List Node → List Lexeme → Type 0 where
  given : {N N1 : _} {i o : _} {flags : _} → FlagRow false N i N1 o flags →
      FlagsGiven (flags_number N1 flags) N i (with_flags N1 flags) o

-- where an assignment may stand
pub data Place : Type 0 where
  in_statement : Place
  in_first : Place
  in_step : Place

pub data TakesLocal : Place → Type 0 where
  statement_takes : TakesLocal in_statement
  first_takes : TakesLocal in_first

pub data LocalFlags : Place → Option ℕ → List Node → List Lexeme → List Node → List Lexeme → Type 0 where
  bare : {k : _} {N : _} {i : _} → TakesLocal k → LocalFlags k None N i N i
  flagged : {N N1 : _} {i o : _} {flags : _} → begins_local_flags i ≡ true → FlagRow true N i N1 o flags →
      LocalFlags in_statement (flags_number N1 flags) N i (with_flags N1 flags) o

-- a type without its brackets
pub data ElementRead : Position → ElementType → List Node → List Lexeme → List Node → List Lexeme → Type 0 where
  int_element : {N : _} {p : _} {o : _} → ElementRead p Int N (a_word word_int p ∷ o) N o
  boolean_element : {N : _} {p : _} {o : _} → ElementRead p Boolean N (a_word word_boolean p ∷ o) N o
  plain_element : {N : _} {w : _} {p : _} {o : _} → ElementRead p (Reference w None) N (a_name w p ∷ o) N o
  argument_element : {N : _} {w v : _} {p q x y : _} {o : _} → has_type_argument w ≡ true →
      ElementRead p (Reference w (Some (length N))) N (a_name w p ∷ a_sign sign_less q ∷ a_name v x
      ∷ a_sign sign_greater y ∷ o) (put N (TypeArgument x v)) o

pub data TypeArgumentBegun : Position → List ℕ → ℕ → List Node → List Lexeme → List Node → List Lexeme → Type 0 where
  argument_begun : {N : _} {w v : _} {p q x : _} {o : _} → has_type_argument w ≡ true →
      TypeArgumentBegun p w (length N) N (a_name w p ∷ a_sign sign_less q ∷ a_name v x ∷ o) (put N (TypeArgument x v)) o

-- `new` and the type of the elements
pub data LengthBegun : Position → ℕ → List Node → List Lexeme → List Node → List Lexeme → Type 0 where
  ints : {N : _} {p q : _} {o : _} → LengthBegun p (length N) N (a_word word_new p ∷ a_word word_int q ∷ o)
      (put N (IntType q false)) o
  booleans : {N : _} {p q : _} {o : _} → LengthBegun p (length N) N (a_word word_new p ∷ a_word word_boolean q ∷ o)
      (put N (BooleanType q false)) o
  references : {N : _} {w : _} {p q : _} {o : _} → LengthBegun p (length N) N (a_word word_new p ∷ a_name w q ∷ o)
      (put N (ClassType q w None false)) o

pub data CallBegun : Bool → Position → List ℕ → Option ℕ → List Node → List Lexeme → List Node → List Lexeme → Type 0 where
  simple_begun : {N : _} {w : _} {p q : _} {o : _} →
      CallBegun false p w None N (a_name w p ∷ a_sign sign_left_parenthesis q ∷ o) N o
  call_begun : {minimum : _} {kind : _} {q : _} {N N1 : _} {i o : _} {e : _} {w : _} {p x u : _} →
      PostRead minimum kind q N i N1 (a_sign sign_dot x ∷ a_name w p ∷ a_sign sign_left_parenthesis u ∷ o) e →
      CallBegun minimum p w (Some e) N i N1 o

pub data ForFirstRead : Position → ℕ → List Node → List Lexeme → List Node → List Lexeme → Type 0 where
  first_local : {N N1 N2 : _} {i i1 o : _} {t e : _} {w : _} {p q x a b : _} →
      TypeRead N i N1 (a_name w a ∷ a_sign sign_assign b ∷ i1) t → Level 1 N1 i1 N2 (a_sign sign_semicolon x ∷ o) e →
      ForFirstRead p (length N2) N (a_word word_for p ∷ a_sign sign_left_parenthesis q ∷ i)
      (put N2 (LocalWithValue b a w None t e)) o
  first_assignment : {N N1 : _} {i o : _} {f : _} {p q x : _} → AssignmentRead N i N1 (a_sign sign_semicolon x ∷ o) f →
      ForFirstRead p f N (a_word word_for p ∷ a_sign sign_left_parenthesis q ∷ i) N1 o

pub data SupersBegun : Position → Bool → Option ℕ → List ℕ → List Node → List Lexeme → List Node → List Lexeme → Type 0 where
  extends_begun : {N : _} {p : _} {o : _} → SupersBegun p true None [] N (a_word word_extends p ∷ o) N o
  implements_begun : {N N1 : _} {i o : _} {ids : _} {p : _} → InterfacesBegun N i N1 o ids →
      SupersBegun p false None ids N (a_word word_implements p ∷ i) N1 o
  both_begun : {N N1 N2 : _} {i i1 o : _} {super : _} {ids : _} {p q : _} →
      SuperRead N i N1 (a_word word_implements q ∷ i1) super → InterfacesBegun N1 i1 N2 o ids →
      SupersBegun p false (Some super) ids N (a_word word_extends p ∷ i) N2 o

-- an assignment, or where it may stand a local with its value
pub data SimpleRead : Place → List Node → List Lexeme → List Node → List Lexeme → ℕ → Type 0 where
  assigned_read : {k : _} {N N1 : _} {i o : _} {id : _} → AssignmentRead N i N1 o id → SimpleRead k N i N1 o id
  local_read : {k : _} {N N1 N2 N3 : _} {i i1 i2 o : _} {flags : _} {t e : _} {w : _} {p q : _} →
      LocalFlags k flags N i N1 i1 → TypeRead N1 i1 N2 (a_name w q ∷ a_sign sign_assign p ∷ i2) t →
      Level 1 N2 i2 N3 o e → SimpleRead k N i (put N3 (LocalWithValue p q w flags t e)) o (length N3)

pub data UnaryKind : ℕ → List Lexeme → Type 0 where
  is_not : {i : _} → UnaryKind sign_not i
  is_tilde : {i : _} → UnaryKind sign_tilde i
  is_minus : {i : _} → begins_with_minimum i ≡ false → UnaryKind sign_minus i

-- behind the brace at p
pub data BlockRead : Position → List Node → List Lexeme → List Node → List Lexeme → ℕ → Type 0 where
  block_read : {N N1 : _} {i o : _} {ids : _} {p q : _} → StatementsRead N i N1 (a_sign sign_right_brace q ∷ o) ids →
      BlockRead p N i (put N1 (Block p ids)) o (length N1)

-- what a target may begin with
unfoldable pub starts_target : List Lexeme → Bool
starts_target [] = false
starts_target (a_sign n p ∷ o) = n == sign_left_parenthesis
starts_target (_ ∷ o) = true

-- the words of `@DefineScope` in the order in which they stand
unfoldable pub first_word : Bool → List ℕ
first_word true = codes "parent"
first_word false = codes "name"

-- an operand of this level may stand behind the entry on top
unfoldable pub fits : List Entry → ℕ → Bool
fits (BinaryLeft p op left ∷ s) k = nat_lt (level op) k
fits (UnaryOpen p op ∷ s) k = nat_le 11 k
fits (CastOpen p q w ∷ s) k = nat_le 11 k
fits _ k = nat_le 1 k

-- ---- the stack

-- what was to be read, and from which nodes
pub record Source : Type 0 where
  pub nodes : List Node
  pub lexemes : List Lexeme

abbrev pub Header : Source → List Lexeme → Type 0
Header r i1 = (N1 : List Node) (ids : List ℕ) (p : Position) → ClassesRead r.nodes i1 N1 (the_end p ∷ []) ids →
    Tree r.nodes r.lexemes N1 ids

pub data Kind : Type 0 where
  for_class : Kind
  for_annotation : Position → Kind
  for_value : Kind
  for_header : Kind
  for_super : Kind
  for_member : Kind
  for_type : Kind
  for_literal : Kind
  for_parameters : Kind
  for_parameter : Kind
  for_body : Position → Kind
  for_statement : Kind
  for_simple : Place → Kind
  for_operand : Kind
  for_arguments : Kind

mutual
  pub data Due (r : Source) : Kind → List Entry → List Node → List Lexeme → Type 0 where
    file_open : {N : _} {i1 o : _} {ids : _} → ClassesRead r.nodes i1 N o ids → Header r i1 →
        Due r for_class (FileOpen ids ∷ []) N o
    annotation_open : {b : _} {s : _} {N N1 : _} {i o : _} {flags : _} {p : _} →
        FlagRow b N i N1 (a_sign sign_at p ∷ o) flags → Flagging r b s N i →
        Due r (for_annotation p) (AnnotationOpen b (placed p flags) ∷ s) N1 o
    scope_open : {b : _} {s : _} {N : _} {o : _} {flags : FlagSet} {p q x : _} → flags.scope ≡ None →
        Due r (for_annotation p) (AnnotationOpen b flags ∷ s) N
        (a_name (codes "Scope") q ∷ a_sign sign_left_parenthesis x ∷ o) →
        Due r for_value (ScopeOpen ∷ AnnotationOpen b flags ∷ s) N o
    runs_in_open : {b : _} {s : _} {N : _} {o : _} {flags : FlagSet} {p q x : _} → flags.runs_in ≡ None →
        Due r (for_annotation p) (AnnotationOpen b flags ∷ s) N
        (a_name (codes "RunsIn") q ∷ a_sign sign_left_parenthesis x ∷ o) →
        Due r for_value (RunsInOpen ∷ AnnotationOpen b flags ∷ s) N o
    define_first : {b : _} {s : _} {N : _} {o : _} {flags : FlagSet} {p q x u v : _} {first : Bool} →
        flags.define_scope ≡ None → Due r (for_annotation p) (AnnotationOpen b flags ∷ s) N
        (a_name (codes "DefineScope") q ∷ a_sign sign_left_parenthesis x ∷ a_name (first_word first) u
        ∷ a_sign sign_assign v ∷ o) → Due r for_value (DefineFirst p first ∷ AnnotationOpen b flags ∷ s) N o
    define_second : {b : _} {s : _} {N N1 : _} {i o : _} {flags : FlagSet} {p q x u v y z a : _} {first : Bool}
        {id : _} → flags.define_scope ≡ None → Due r (for_annotation p) (AnnotationOpen b flags ∷ s) N
        (a_name (codes "DefineScope") q ∷ a_sign sign_left_parenthesis x ∷ a_name (first_word first) u
        ∷ a_sign sign_assign v ∷ i) →
        ScopeValue N i N1 (a_sign sign_comma y ∷ a_name (other_word first) z ∷ a_sign sign_assign a ∷ o) id →
        Due r for_value (DefineSecond p first id ∷ AnnotationOpen b flags ∷ s) N1 o
    class_open : {s : _} {N N1 : _} {i o : _} {flags : _} {w : _} {p q : _} →
        FlagsGiven flags N i N1 (a_word word_class q ∷ a_name w p ∷ o) → Due r for_class s N i →
        Due r for_header (ClassOpen flags p w ∷ s) N1 o
    supers_open : {s : _} {N N1 : _} {i o : _} {p : _} {b : _} {superclass : _} {ids : _} →
        SupersBegun p b superclass ids N i N1 o → Due r for_header s N i →
        Due r for_super (SupersOpen p b superclass ids ∷ s) N1 o
    class_body : {s : _} {N N1 N2 N3 : _} {i i1 i2 o : _} {flags header : _} {ids : _} {w : _} {p q : _} →
        FlagsGiven flags N i N1 (a_word word_class q ∷ a_name w p ∷ i1) → HeaderRead N1 i1 N2 i2 header →
        MembersRead N2 i2 N3 o ids → Due r for_class s N i → Due r for_member (ClassBody flags p w header ids ∷ s) N3 o
    member_open : {s : _} {N N1 : _} {i o : _} {flags : _} → FlagsGiven flags N i N1 o → Due r for_member s N i →
        Due r for_type (MemberOpen flags ∷ s) N1 o
    parameter_open : {s : _} {N N1 : _} {i o : _} {flags : _} → FlagsGiven flags N i N1 o → Due r for_parameter s N i →
        Due r for_type (ParameterOpen flags ∷ s) N1 o
    local_open : {s : _} {k : _} {N N1 : _} {i o : _} {flags : _} → LocalFlags k flags N i N1 o →
        Due r (for_simple k) s N i → Due r for_type (LocalOpen flags ∷ s) N1 o
    field_open : {s : _} {N N1 N2 : _} {i i1 o : _} {flags : _} {t : _} {w : _} {p q : _} → FlagsGiven flags N i N1 i1 →
        TypeRead N1 i1 N2 (a_name w p ∷ a_sign sign_assign q ∷ o) t → Due r for_member s N i →
        Due r for_literal (FieldOpen flags t p w q ∷ s) N2 o
    method_open : {s : _} {N N1 N2 : _} {i i1 o : _} {flags : _} {t : _} {w : _} {p : _} → FlagsGiven flags N i N1 i1 →
        ResultRead N1 i1 N2 (a_name w p ∷ o) t → Due r for_member s N i →
        Due r for_parameters (MethodOpen flags t p w ∷ s) N2 o
    constructor_open : {s : _} {N N1 : _} {i o : _} {flags : _} {w : _} {p : _} →
        FlagsGiven flags N i N1 (a_name w p ∷ o) → Due r for_member s N i →
        Due r for_parameters (ConstructorOpen flags p w ∷ s) N1 o
    parameters_open : {s : _} {N N1 : _} {i o : _} {ids : _} {p : _} → ParametersBegun N i N1 o ids →
        Due r for_parameters s N (a_sign sign_left_parenthesis p ∷ i) →
        Due r for_parameter (ParametersOpen p ids ∷ s) N1 o
    method_body : {s : _} {N N1 N2 N3 : _} {i i1 i2 o : _} {flags : _} {t : _} {ps : _} {w : _} {p b : _} →
        FlagsGiven flags N i N1 i1 → ResultRead N1 i1 N2 (a_name w p ∷ i2) t →
        ParametersRead N2 i2 N3 (a_sign sign_left_brace b ∷ o) ps → Due r for_member s N i →
        Due r (for_body b) (MethodBody flags t p w ps ∷ s) N3 o
    constructor_body : {s : _} {N N1 N2 : _} {i i1 o : _} {flags : _} {ps : _} {w : _} {p b : _} →
        FlagsGiven flags N i N1 (a_name w p ∷ i1) → ParametersRead N1 i1 N2 (a_sign sign_left_brace b ∷ o) ps →
        Due r for_member s N i → Due r (for_body b) (ConstructorBody flags p w ps None ∷ s) N2 o
    super_body : {s : _} {N N1 N2 N3 : _} {i i1 i2 o : _} {flags : _} {ps : _} {arguments : _} {w : _} {p b x u v : _} →
        FlagsGiven flags N i N1 (a_name w p ∷ i1) →
        ParametersRead N1 i1 N2 (a_sign sign_left_brace b ∷ a_word word_super x ∷ a_sign sign_left_parenthesis u ∷ i2)
        ps → ArgumentsRead N2 i2 N3 (a_sign sign_semicolon v ∷ o) arguments → Due r for_member s N i →
        Due r (for_body b) (ConstructorBody flags p w ps (Some (length N3)) ∷ s) (put N3 (SuperCall x arguments)) o
    block_open : {s : _} {N N1 : _} {i o : _} {ids : _} {p : _} → StatementsRead N i N1 o ids →
        Due r for_statement s N (a_sign sign_left_brace p ∷ i) → Due r for_statement (BlockOpen p ids ∷ s) N1 o
    body_open : {s : _} {N N1 : _} {i o : _} {ids : _} {p : _} → StatementsRead N i N1 o ids →
        Due r (for_body p) s N i → Due r for_statement (BlockOpen p ids ∷ s) N1 o
    simple_open : {s : _} {N : _} {o : _} → Due r for_statement s N o → Due r (for_simple in_statement) (Simple ∷ s) N o
    for_head : {s : _} {N : _} {o : _} {p q : _} →
        Due r for_statement s N (a_word word_for p ∷ a_sign sign_left_parenthesis q ∷ o) →
        Due r (for_simple in_first) (ForHead p ∷ s) N o
    for_test : {s : _} {N N1 : _} {i o : _} {p : _} {first : _} → ForFirstRead p first N i N1 o →
        Due r for_statement s N i → Due r for_operand (ForTest p first ∷ s) N1 o
    for_step : {s : _} {N N1 N2 : _} {i i1 o : _} {p q : _} {first c : _} → ForFirstRead p first N i N1 i1 →
        Level 1 N1 i1 N2 (a_sign sign_semicolon q ∷ o) c → Due r for_statement s N i →
        Due r (for_simple in_step) (ForStep p first c ∷ s) N2 o
    for_rest : {s : _} {N N1 N2 N3 : _} {i i1 i2 o : _} {p q x : _} {first c u : _} → ForFirstRead p first N i N1 i1 →
        Level 1 N1 i1 N2 (a_sign sign_semicolon q ∷ i2) c →
        AssignmentRead N2 i2 N3 (a_sign sign_right_parenthesis x ∷ o) u → Due r for_statement s N i →
        Due r for_statement (ForBody p first c u ∷ s) N3 o
    if_test : {s : _} {N : _} {o : _} {p q : _} →
        Due r for_statement s N (a_word word_if p ∷ a_sign sign_left_parenthesis q ∷ o) →
        Due r for_operand (IfTest p ∷ s) N o
    if_then : {s : _} {N N1 : _} {i o : _} {p q x : _} {c : _} →
        Level 1 N i N1 (a_sign sign_right_parenthesis x ∷ o) c →
        Due r for_statement s N (a_word word_if p ∷ a_sign sign_left_parenthesis q ∷ i) →
        Due r for_statement (IfThen p c ∷ s) N1 o
    if_rest : {s : _} {N N1 N2 : _} {i i1 o : _} {p q x y : _} {c a : _} →
        Level 1 N i N1 (a_sign sign_right_parenthesis x ∷ i1) c → StatementRead N1 i1 N2 (a_word word_else y ∷ o) a →
        Due r for_statement s N (a_word word_if p ∷ a_sign sign_left_parenthesis q ∷ i) →
        Due r for_statement (IfElse p c a ∷ s) N2 o
    while_test : {s : _} {N : _} {o : _} {p q : _} →
        Due r for_statement s N (a_word word_while p ∷ a_sign sign_left_parenthesis q ∷ o) →
        Due r for_operand (WhileTest p ∷ s) N o
    while_rest : {s : _} {N N1 : _} {i o : _} {p q x : _} {c : _} →
        Level 1 N i N1 (a_sign sign_right_parenthesis x ∷ o) c →
        Due r for_statement s N (a_word word_while p ∷ a_sign sign_left_parenthesis q ∷ i) →
        Due r for_statement (WhileBody p c ∷ s) N1 o
    return_open : {s : _} {N : _} {o : _} {p : _} → Due r for_statement s N (a_word word_return p ∷ o) →
        Due r for_operand (ReturnValue p ∷ s) N o
    target : {s : _} {k : _} {N : _} {o : _} → starts_target o ≡ true → Due r (for_simple k) s N o →
        Due r for_operand (Target ∷ s) N o
    assign_value : {s : _} {k : _} {N N1 : _} {i o : _} {p q : _} {x : _} →
        PostRead false Variable q N i N1 (a_sign sign_assign p ∷ o) x → Due r (for_simple k) s N i →
        Due r for_operand (AssignValue p x ∷ s) N1 o
    compound_value : {s : _} {k : _} {N : _} {o : _} {n op : _} {w : _} {p q : _} → compound n ≡ Some op →
        Due r (for_simple k) s N (a_name w q ∷ a_sign n p ∷ o) →
        Due r for_operand (CompoundValue p op (length N) (length (put N (SimpleName q w))) ∷ s) (name_twice N q w) o
    local_value : {s : _} {k : _} {N N1 N2 : _} {i i1 o : _} {flags : _} {t : _} {w : _} {p q : _} →
        LocalFlags k flags N i N1 i1 → TypeRead N1 i1 N2 (a_name w q ∷ a_sign sign_assign p ∷ o) t →
        Due r (for_simple k) s N i → Due r for_operand (LocalValue p q w flags t ∷ s) N2 o
    binary_left : {s : _} {N N1 : _} {i o : _} {op l : _} {p : _} → nat_le 1 (level op) ≡ true →
        Level (level op) N i N1 (a_sign op p ∷ o) l → fits s (level op) ≡ true → awaits_target s ≡ false →
        Due r for_operand s N i → Due r for_operand (BinaryLeft p op l ∷ s) N1 o
    unary_open : {s : _} {N : _} {o : _} {op : _} {p : _} → UnaryKind op o → awaits_target s ≡ false →
        Due r for_operand s N (a_sign op p ∷ o) → Due r for_operand (UnaryOpen p op ∷ s) N o
    cast_open : {s : _} {N : _} {o : _} {w : _} {p q x : _} → begins_unary1 o ≡ true → awaits_target s ≡ false →
        Due r for_operand s N (a_sign sign_left_parenthesis p ∷ a_name w q ∷ a_sign sign_right_parenthesis x ∷ o) →
        Due r for_operand (CastOpen p q w ∷ s) N o
    group_open : {s : _} {N : _} {o : _} {p : _} → closes_name o ≡ false →
        Due r for_operand s N (a_sign sign_left_parenthesis p ∷ o) → Due r for_operand (GroupOpen p ∷ s) N o
    index_open : {s : _} {minimum : _} {kind : _} {N N1 : _} {i o : _} {p q : _} {x : _} → indexable kind ≡ true →
        PostRead minimum kind q N i N1 (a_sign sign_left_bracket p ∷ o) x → Due r for_operand s N i →
        Due r for_operand (IndexOpen p x ∷ s) N1 o
    length_open : {s : _} {N N1 : _} {i o : _} {p x : _} {element : _} →
        LengthBegun p element N i N1 (a_sign sign_left_bracket x ∷ o) → Due r for_operand s N i →
        Due r for_operand (LengthOpen p element ∷ s) N1 o
    arguments_open : {s : _} {N N1 : _} {i o : _} {ids : _} → ArgumentsBegun N i N1 o ids → Due r for_arguments s N i →
        Due r for_operand (ArgumentsOpen ids ∷ s) N1 o
    call_open : {s : _} {minimum : _} {N N1 : _} {i o : _} {object : _} {w : _} {p : _} →
        CallBegun minimum p w object N i N1 o → Due r for_operand s N i →
        Due r for_arguments (CallOpen p w object ∷ s) N1 o
    new_open : {s : _} {N : _} {o : _} {w : _} {p q x : _} →
        Due r for_operand s N (a_word word_new p ∷ a_name w q ∷ a_sign sign_left_parenthesis x ∷ o) →
        Due r for_arguments (NewOpen p q w ∷ s) N o
    super_call_open : {s : _} {N : _} {o : _} {flags ps : _} {w : _} {b p q u : _} →
        Due r (for_body b) (ConstructorBody flags q w ps None ∷ s) N
        (a_word word_super p ∷ a_sign sign_left_parenthesis u ∷ o) →
        Due r for_arguments (SuperCallOpen b p ∷ ConstructorBody flags q w ps None ∷ s) N o

  -- a declaration with its flags is due
  pub data Flagging (r : Source) : Bool → List Entry → List Node → List Lexeme → Type 0 where
    on_class : {s : _} {N : _} {o : _} → Due r for_class s N o → Flagging r false s N o
    on_member : {s : _} {N : _} {o : _} → Due r for_member s N o → Flagging r false s N o
    on_parameter : {s : _} {N : _} {o : _} → Due r for_parameter s N o → Flagging r false s N o
    on_local : {s : _} {N : _} {o : _} → begins_local_flags o ≡ true → Due r (for_simple in_statement) s N o →
        Flagging r true s N o
