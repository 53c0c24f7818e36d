-- Annotations, modifiers, types and what they stand before.
use Rattle.std.specs.Prelude.{Bool, List, None, Option, Some, codes, false, if◌then◌else◌, length, true, ℕ, ◌==◌, ◌||◌, ◌∷◌}
use Rattle.parser_machine.specs.States.{State, at}
use Rattle.parser_machine.specs.declared.entries.Entry.{Entry}
use Rattle.parser_machine.specs.declared.entries.Entry.TheVariants.{AnnotationOpen, ClassBody, ConstructorOpen, DefineFirst, DefineSecond, FileOpen, LocalOpen, MemberOpen, ParameterOpen, ParametersOpen, RunsInOpen, ScopeOpen, Simple}
use Rattle.parser_machine.specs.declared.modes.ElementType.{ElementType}
use Rattle.parser_machine.specs.declared.modes.ElementType.TheVariants.{Boolean, Int, Reference}
use Rattle.parser_machine.specs.declared.modes.Mode.TheVariants.{At, ClassName, DefineAssign, DefineName, DefineOpen, DefineOther, DefineOtherAssign, FlagsRead, LocalNamed, MemberNamed, ParameterDone, ParametersFirst, PlainAssigned, PlainDot, PlainEnd, PlainFirst, PlainName, PlainNext, PlainOpen, PlainPath, ResultDone, TypeArgumentEnd, TypeArgumentName, TypeBracket, TypeDone, TypeEnd, TypeName, ValueDot, ValueOpen, ValueRead, ValueScope, ValueStart}
use Rattle.scj_base.specs.Vocabulary.{sign_assign, sign_at, sign_comma, sign_dot, sign_greater, sign_left_bracket, sign_left_parenthesis, sign_less, sign_right_bracket, sign_right_parenthesis, word_boolean, word_class, word_false, word_int, word_long, word_true, word_void}
use Rattle.scj_base.specs.declared.positions.Position.{Position}
use Rattle.scj_tree.specs.Nodes.{put}
use Rattle.scj_tree.specs.Lexemes.{Lexeme, a_name, a_sign, a_text, a_word}
use Rattle.scj_base.specs.Lexeme.{is_name}
use Rattle.scj_base.specs.Bytes.{is_same}
use Rattle.scj_tree.specs.Terminals.{add_modifier, flags_number, is_effectless, placed, has_type_argument, with_define_scope, with_flags, with_runs_in, with_scope}
use Rattle.scj_tree.specs.declared.nodes.Node.{Node}
use Rattle.scj_tree.specs.declared.nodes.Node.TheVariants.{BooleanType, ClassType, DefineScope, IntType, LongType, Parameter, ScopeName, TypeArgument, VoidType}
use Rattle.scj_tree.specs.declared.parsed_parts.FlagSet.{FlagSet}

-- ---- types

unfoldable pub element_node : Position → ElementType → Bool → Node
element_node p Int is_array = IntType p is_array
element_node p Boolean is_array = BooleanType p is_array
element_node p (Reference w argument) is_array = ClassType p w argument is_array

-- behind a type: the name of what it is the type of
unfoldable pub typed : ℕ → List Node → List Entry → Lexeme → Option State
typed t N (MemberOpen flags ∷ s) (a_name w p) = Some (at (MemberNamed flags t p w) s N)
typed t N (ParameterOpen flags ∷ s) (a_name w p) =
    Some (at (ParameterDone (length N)) s (put N (Parameter p w flags t)))
typed t N (LocalOpen flags ∷ s) (a_name w p) = Some (at (LocalNamed flags t p w) s N)
typed t N _ _ = None

unfoldable pub type_end_step : Position → ElementType → List Node → List Entry → Lexeme → Option State
type_end_step p element N s (a_sign n q) =
    if n == sign_left_bracket then Some (at (TypeBracket p element) s N) else None
type_end_step p element N s t = typed (length N) (put N (element_node p element false)) s t

unfoldable pub type_bracket_step : Position → ElementType → List Node → List Entry → Lexeme → Option State
type_bracket_step p element N s (a_sign n q) =
    if n == sign_right_bracket then Some (at (TypeDone (length N)) s (put N (element_node p element true))) else None
type_bracket_step p element N s _ = None

-- a member that begins with a name and `(` is a constructor
unfoldable pub constructor_step : Position → List ℕ → Position → List Node → List Entry → Option State
constructor_step p w q N (MemberOpen flags ∷ s) = Some (at (ParametersFirst q) (ConstructorOpen flags p w ∷ s) N)
constructor_step p w q N _ = None

unfoldable pub type_name_step : Position → List ℕ → List Node → List Entry → Lexeme → Option State
type_name_step p w N s (a_sign n q) =
    if n == sign_less then (if has_type_argument w then Some (at (TypeArgumentName p w) s N) else None) else
    if n == sign_left_bracket then Some (at (TypeBracket p (Reference w None)) s N) else
    if n == sign_left_parenthesis then constructor_step p w q N s else
    None
type_name_step p w N s t = typed (length N) (put N (ClassType p w None false)) s t

unfoldable pub type_argument_name_step : Position → List ℕ → List Node → List Entry → Lexeme → Option State
type_argument_name_step p w N s (a_name v q) = Some (at (TypeArgumentEnd p w (length N)) s (put N (TypeArgument q v)))
type_argument_name_step p w N s _ = None

unfoldable pub type_argument_end_step : Position → List ℕ → ℕ → List Node → List Entry → Lexeme → Option State
type_argument_end_step p w argument N s (a_sign n q) =
    if n == sign_greater then Some (at (TypeEnd p (Reference w (Some argument))) s N) else None
type_argument_end_step p w argument N s _ = None

unfoldable pub type_start : List Node → List Entry → Lexeme → Option State
type_start N s (a_name w p) = Some (at (TypeName p w) s N)
type_start N s (a_word n p) =
    if n == word_int then Some (at (TypeEnd p Int) s N) else
    if n == word_boolean then Some (at (TypeEnd p Boolean) s N) else
    None
type_start N s _ = None

-- ---- what stands behind annotations and modifiers

unfoldable pub member_word : Option ℕ → ℕ → Position → List Node → List Entry → Option State
member_word flags n p N s =
    if n == word_void then Some (at (ResultDone flags (length N)) s (put N (VoidType p))) else
    if n == word_long then Some (at (ResultDone flags (length N)) s (put N (LongType p))) else
    type_start N (MemberOpen flags ∷ s) (a_word n p)

unfoldable pub member_start : Option ℕ → List Node → List Entry → Lexeme → Option State
member_start flags N s (a_word n p) = member_word flags n p N s
member_start flags N s t = type_start N (MemberOpen flags ∷ s) t

unfoldable pub class_start : Option ℕ → List Node → List Entry → Lexeme → Option State
class_start flags N s (a_word n p) = if n == word_class then Some (at (ClassName flags) s N) else None
class_start flags N s _ = None

unfoldable pub declaration_start : Option ℕ → List Node → List Entry → Lexeme → Option State
declaration_start flags N (FileOpen classes ∷ s) t = class_start flags N (FileOpen classes ∷ s) t
declaration_start flags N (ClassBody f p w header members ∷ s) t =
    member_start flags N (ClassBody f p w header members ∷ s) t
declaration_start flags N (ParametersOpen p list ∷ s) t =
    type_start N (ParameterOpen flags ∷ ParametersOpen p list ∷ s) t
declaration_start flags N (Simple ∷ s) t = type_start N (LocalOpen flags ∷ Simple ∷ s) t
declaration_start flags N _ t = None

unfoldable pub flags_ended : FlagSet → List Node → List Entry → Lexeme → Option State
flags_ended flags N s t = declaration_start (flags_number N flags) (with_flags N flags) s t

unfoldable pub flags_step : Bool → FlagSet → List Node → List Entry → Lexeme → Option State
flags_step is_local flags N s (a_word w p) =
    elim (add_modifier is_local w flags) [
      | Some more ↦ Some (at (FlagsRead is_local (placed p more)) s N)
      | None ↦ flags_ended flags N s (a_word w p)
    ]
flags_step is_local flags N s (a_sign n p) =
    if n == sign_at then Some (at (At p) (AnnotationOpen is_local (placed p flags) ∷ s) N) else
    flags_ended flags N s (a_sign n p)
flags_step is_local flags N s t = flags_ended flags N s t

-- ---- annotations

unfoldable pub scope_named : Bool → FlagSet → List Node → List Entry → Option State
scope_named is_local flags N s =
    elim flags.scope [ None ↦ Some (at ValueOpen (ScopeOpen ∷ AnnotationOpen is_local flags ∷ s) N) | Some id ↦ None ]

unfoldable pub runs_in_named : Bool → FlagSet → List Node → List Entry → Option State
runs_in_named is_local flags N s =
    elim flags.runs_in [
      | None ↦ Some (at ValueOpen (RunsInOpen ∷ AnnotationOpen is_local flags ∷ s) N)
      | Some id ↦ None
    ]

unfoldable pub define_scope_named : Position → Bool → FlagSet → List Node → List Entry → Option State
define_scope_named p is_local flags N s =
    elim flags.define_scope [ None ↦ Some (at (DefineOpen p) (AnnotationOpen is_local flags ∷ s) N) | Some id ↦ None ]

unfoldable pub annotation_named : Position → List ℕ → Bool → FlagSet → List Node → List Entry → Option State
annotation_named p w is_local flags N s =
    if is_effectless w then Some (at PlainOpen (AnnotationOpen is_local flags ∷ s) N) else
    if is_same w (codes "Scope") then scope_named is_local flags N s else
    if is_same w (codes "RunsIn") then runs_in_named is_local flags N s else
    if is_same w (codes "DefineScope") then define_scope_named p is_local flags N s else
    None

unfoldable pub at_step : Position → List Node → List Entry → Lexeme → Option State
at_step p N (AnnotationOpen is_local flags ∷ s) (a_name w q) = annotation_named p w is_local flags N s
at_step p N _ _ = None

-- behind an annotation without effect, whose flags lie on top
unfoldable pub plain_ended : List Node → List Entry → Option State
plain_ended N (AnnotationOpen is_local flags ∷ s) = Some (at (FlagsRead is_local flags) s N)
plain_ended N _ = None

unfoldable pub plain_without : List Node → List Entry → Lexeme → Option State
plain_without N (AnnotationOpen is_local flags ∷ s) t = flags_step is_local flags N s t
plain_without N _ t = None

unfoldable pub plain_open_step : List Node → List Entry → Lexeme → Option State
plain_open_step N s (a_sign n p) = if n == sign_left_parenthesis then Some (at PlainFirst s N) else plain_without N s
    (a_sign n p)
plain_open_step N s t = plain_without N s t

-- behind a pair
unfoldable pub pair_ended : List Node → List Entry → ℕ → Option State
pair_ended N s n =
    if n == sign_comma then Some (at PlainNext s N) else
    if n == sign_right_parenthesis then plain_ended N s else
    None

unfoldable pub plain_value_step : List Node → List Entry → Lexeme → Option State
plain_value_step N s (a_text w p) = Some (at PlainEnd s N)
plain_value_step N s (a_word n p) = if n == word_true || n == word_false then Some (at PlainEnd s N) else None
plain_value_step N s _ = None

-- where a pair is due
unfoldable pub plain_next_step : List Node → List Entry → Lexeme → Option State
plain_next_step N s (a_name w p) = Some (at PlainName s N)
plain_next_step N s t = plain_value_step N s t

unfoldable pub plain_first_step : List Node → List Entry → Lexeme → Option State
plain_first_step N s (a_sign n p) = if n == sign_right_parenthesis then plain_ended N s else None
plain_first_step N s t = plain_next_step N s t

unfoldable pub plain_path_step : List Node → List Entry → Lexeme → Option State
plain_path_step N s (a_sign n p) = if n == sign_dot then Some (at PlainDot s N) else pair_ended N s n
plain_path_step N s _ = None

unfoldable pub plain_name_step : List Node → List Entry → Lexeme → Option State
plain_name_step N s (a_sign n p) = if n == sign_assign then Some (at PlainAssigned s N) else plain_path_step N s
    (a_sign n p)
plain_name_step N s _ = None

unfoldable pub plain_assigned_step : List Node → List Entry → Lexeme → Option State
plain_assigned_step N s (a_name w p) = Some (at PlainPath s N)
plain_assigned_step N s t = plain_value_step N s t

unfoldable pub plain_dot_step : List Node → List Entry → Lexeme → Option State
plain_dot_step N s (a_name w p) = Some (at PlainPath s N)
plain_dot_step N s _ = None

unfoldable pub plain_end_step : List Node → List Entry → Lexeme → Option State
plain_end_step N s (a_sign n p) = pair_ended N s n
plain_end_step N s _ = None

-- ---- scopes' names

-- behind a scope's name, by what it is the value of
unfoldable pub valued : ℕ → List Node → List Entry → ℕ → Option State
valued id N (ScopeOpen ∷ AnnotationOpen is_local flags ∷ s) n =
    if n == sign_right_parenthesis then Some (at (FlagsRead is_local (with_scope id flags)) s N) else None
valued id N (RunsInOpen ∷ AnnotationOpen is_local flags ∷ s) n =
    if n == sign_right_parenthesis then Some (at (FlagsRead is_local (with_runs_in id flags)) s N) else None
valued id N (DefineFirst p parent_first ∷ s) n =
    if n == sign_comma then Some (at (DefineOther p parent_first id) s N) else None
valued id N (DefineSecond p parent_first first ∷ AnnotationOpen is_local flags ∷ s) n =
    if n == sign_right_parenthesis then Some
    (at (FlagsRead is_local (with_define_scope (length N) flags)) s (put N (DefineScope p first id parent_first)))
    else None
valued id N _ n = None

unfoldable pub value_end_step : ℕ → List Node → List Entry → Lexeme → Option State
value_end_step id N s (a_sign n p) = valued id N s n
value_end_step id N s _ = None

unfoldable pub value_open_step : List Node → List Entry → Lexeme → Option State
value_open_step N s (a_sign n p) = if n == sign_left_parenthesis then Some (at ValueStart s N) else None
value_open_step N s _ = None

unfoldable pub value_start_step : List Node → List Entry → Lexeme → Option State
value_start_step N s (a_text w p) =
    if is_name w then Some (at (ValueRead (length N)) s (put N (ScopeName p w))) else None
value_start_step N s (a_name w p) = if is_same w (codes "Scope") then Some (at (ValueScope p) s N) else Some
    (at (ValueRead (length N)) s (put N (ScopeName p w)))
value_start_step N s _ = None

unfoldable pub value_scope_step : Position → List Node → List Entry → Lexeme → Option State
value_scope_step p N s (a_sign n q) =
    if n == sign_dot then Some (at (ValueDot p) s N) else
    valued (length N) (put N (ScopeName p (codes "Scope"))) s n
value_scope_step p N s _ = None

unfoldable pub value_dot_step : Position → List Node → List Entry → Lexeme → Option State
value_dot_step p N s (a_name w q) = Some (at (ValueRead (length N)) s (put N (ScopeName p w)))
value_dot_step p N s _ = None

unfoldable pub define_open_step : Position → List Node → List Entry → Lexeme → Option State
define_open_step p N s (a_sign n q) = if n == sign_left_parenthesis then Some (at (DefineName p) s N) else None
define_open_step p N s _ = None

unfoldable pub define_name_step : Position → List Node → List Entry → Lexeme → Option State
define_name_step p N s (a_name w q) =
    if is_same w (codes "name") then Some (at (DefineAssign p false) s N) else
    if is_same w (codes "parent") then Some (at (DefineAssign p true) s N) else
    None
define_name_step p N s _ = None

unfoldable pub define_assign_step : Position → Bool → List Node → List Entry → Lexeme → Option State
define_assign_step p parent_first N s (a_sign n q) =
    if n == sign_assign then Some (at ValueStart (DefineFirst p parent_first ∷ s) N) else None
define_assign_step p parent_first N s _ = None

-- the word before the second value
unfoldable pub other_word : Bool → List ℕ
other_word true = codes "name"
other_word false = codes "parent"

unfoldable pub define_other_step : Position → Bool → ℕ → List Node → List Entry → Lexeme → Option State
define_other_step p parent_first first N s (a_name w q) =
    if is_same w (other_word parent_first) then Some (at (DefineOtherAssign p parent_first first) s N) else None
define_other_step p parent_first first N s _ = None

unfoldable pub define_other_assign_step : Position → Bool → ℕ → List Node → List Entry → Lexeme → Option State
define_other_assign_step p parent_first first N s (a_sign n q) =
    if n == sign_assign then Some (at ValueStart (DefineSecond p parent_first first ∷ s) N) else None
define_other_assign_step p parent_first first N s _ = None
