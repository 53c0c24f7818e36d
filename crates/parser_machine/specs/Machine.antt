-- The machine: a step by the mode, a run over lexemes, and what a whole file gives.
use Rattle.std.specs.Prelude.{List, None, Option, Some, [], ℕ, ◌∷◌}
use Rattle.parser_machine.specs.Blocks.{first_start, local_named_step, name_bracket_step, name_first_step, return_step, statement_start, statements_step, target_start, test_open_step}
use Rattle.parser_machine.specs.Closing.{assigned}
use Rattle.parser_machine.specs.Declarations.{at_step, define_assign_step, define_name_step, define_open_step, define_other_assign_step, define_other_step, flags_step, plain_assigned_step, plain_dot_step, plain_end_step, plain_first_step, plain_name_step, plain_next_step, plain_open_step, plain_path_step, type_argument_end_step, type_argument_name_step, type_bracket_step, type_end_step, type_name_step, typed, value_dot_step, value_end_step, value_open_step, value_scope_step, value_start_step}
use Rattle.parser_machine.specs.Files.{class_name_step, class_named_step, classes_step, file_start_step, import_dot_step, import_end_step, import_name_step, import_star_step, import_start_step, imports_step, package_end_step, package_name_step, super_argument_end_step, super_argument_name_step, super_ended, super_name_step, super_named_step}
use Rattle.parser_machine.specs.Members.{constructor_start_step, literal_end_step, literal_minus_step, literal_step, member_named_step, members_step, method_named_step, parameter_end_step, parameters_end_step, parameters_first_step, result_step, statement_ended, super_end_step, super_open_step}
use Rattle.parser_machine.specs.Operands.{argument_first_step, argument_start, closed_name_step, dot_name_step, dot_step, minus_step, name_step, new_element_step, new_name_step, new_step, opened_name_step, opened_step, operand_start, post_step, text_step}
use Rattle.parser_machine.specs.States.{State, at}
use Rattle.parser_machine.specs.declared.entries.Entry.{Entry}
use Rattle.parser_machine.specs.declared.entries.Entry.TheVariants.{FileOpen, ForHead, IfTest, WhileTest}
use Rattle.parser_machine.specs.declared.modes.Mode.{Mode}
use Rattle.parser_machine.specs.declared.modes.Mode.TheVariants.{ArgumentFirst, ArgumentNext, Assigned, At, ClassName, ClassNamed, ClosedName, ConstructorStart, DefineAssign, DefineName, DefineOpen, DefineOther, DefineOtherAssign, Dot, DotName, FileStart, Finished, FlagsRead, ForFirst, ForOpen, ForStepStart, IfOpen, ImportDot, ImportEnd, ImportName, ImportStar, ImportStart, InClasses, InImports, InMembers, InStatements, LiteralDone, LiteralMinus, LiteralStart, LocalNamed, MemberNamed, MethodNamed, Minus, NameBracket, NameFirst, NameRead, NewElement, NewName, NewStart, Opened, OpenedName, Operand, PackageEnd, PackageName, ParameterDone, ParametersDone, ParametersFirst, PlainAssigned, PlainDot, PlainEnd, PlainFirst, PlainName, PlainNext, PlainOpen, PlainPath, PostDone, ResultDone, ReturnStart, StatementEnd, StatementStart, SuperArgumentEnd, SuperArgumentName, SuperDone, SuperEnd, SuperName, SuperNamed, SuperOpen, TextRead, TypeArgumentEnd, TypeArgumentName, TypeBracket, TypeDone, TypeEnd, TypeName, ValueDot, ValueOpen, ValueRead, ValueScope, ValueStart, WhileOpen}
use Rattle.scj_tree.specs.Lexemes.{Lexeme}
use Rattle.scj_tree.specs.declared.nodes.Node.{Node}

unfoldable pub step_mode : Mode → List Node → List Entry → Lexeme → Option State
step_mode FileStart N s t = file_start_step N s t
step_mode PackageName N s t = package_name_step N s t
step_mode PackageEnd N s t = package_end_step N s t
step_mode InImports N s t = imports_step N s t
step_mode ImportStart N s t = import_start_step N s t
step_mode ImportName N s t = import_name_step N s t
step_mode ImportDot N s t = import_dot_step N s t
step_mode ImportEnd N s t = import_end_step N s t
step_mode ImportStar N s t = import_star_step N s t
step_mode InClasses N s t = classes_step N s t
step_mode Finished N s t = None
step_mode (FlagsRead is_local flags) N s t = flags_step is_local flags N s t
step_mode (At p) N s t = at_step p N s t
step_mode PlainOpen N s t = plain_open_step N s t
step_mode PlainFirst N s t = plain_first_step N s t
step_mode PlainNext N s t = plain_next_step N s t
step_mode PlainName N s t = plain_name_step N s t
step_mode PlainAssigned N s t = plain_assigned_step N s t
step_mode PlainPath N s t = plain_path_step N s t
step_mode PlainDot N s t = plain_dot_step N s t
step_mode PlainEnd N s t = plain_end_step N s t
step_mode ValueOpen N s t = value_open_step N s t
step_mode ValueStart N s t = value_start_step N s t
step_mode (ValueScope p) N s t = value_scope_step p N s t
step_mode (ValueDot p) N s t = value_dot_step p N s t
step_mode (ValueRead id) N s t = value_end_step id N s t
step_mode (DefineOpen p) N s t = define_open_step p N s t
step_mode (DefineName p) N s t = define_name_step p N s t
step_mode (DefineAssign p parent_first) N s t = define_assign_step p parent_first N s t
step_mode (DefineOther p parent_first first) N s t = define_other_step p parent_first first N s t
step_mode (DefineOtherAssign p parent_first first) N s t = define_other_assign_step p parent_first first N s t
step_mode (ClassName flags) N s t = class_name_step flags N s t
step_mode ClassNamed N s t = class_named_step N s t
step_mode SuperName N s t = super_name_step N s t
step_mode (SuperNamed p w) N s t = super_named_step p w N s t
step_mode (SuperArgumentName p w) N s t = super_argument_name_step p w N s t
step_mode (SuperArgumentEnd p w argument) N s t = super_argument_end_step p w argument N s t
step_mode (SuperDone id) N s t = super_ended id N s t
step_mode InMembers N s t = members_step N s t
step_mode (TypeName p w) N s t = type_name_step p w N s t
step_mode (TypeArgumentName p w) N s t = type_argument_name_step p w N s t
step_mode (TypeArgumentEnd p w argument) N s t = type_argument_end_step p w argument N s t
step_mode (TypeEnd p element) N s t = type_end_step p element N s t
step_mode (TypeBracket p element) N s t = type_bracket_step p element N s t
step_mode (TypeDone id) N s t = typed id N s t
step_mode (MemberNamed flags declared p w) N s t = member_named_step flags declared p w N s t
step_mode (ResultDone flags result) N s t = result_step flags result N s t
step_mode (MethodNamed flags result p w) N s t = method_named_step flags result p w N s t
step_mode LiteralStart N s t = literal_step N s t
step_mode (LiteralMinus p) N s t = literal_minus_step p N s t
step_mode (LiteralDone id) N s t = literal_end_step id N s t
step_mode (ParametersFirst p) N s t = parameters_first_step p N s t
step_mode (ParameterDone id) N s t = parameter_end_step id N s t
step_mode (ParametersDone parameters) N s t = parameters_end_step parameters N s t
step_mode (ConstructorStart b) N s t = constructor_start_step b N s t
step_mode (SuperOpen b p) N s t = super_open_step b p N s t
step_mode (SuperEnd b) N s t = super_end_step b N s t
step_mode InStatements N s t = statements_step N s t
step_mode StatementStart N s t = statement_start N s t
step_mode (StatementEnd id) N s t = statement_ended id N s t
step_mode (IfOpen p) N s t = test_open_step Operand (IfTest p) N s t
step_mode (WhileOpen p) N s t = test_open_step Operand (WhileTest p) N s t
step_mode (ForOpen p) N s t = test_open_step ForFirst (ForHead p) N s t
step_mode ForFirst N s t = first_start N s t
step_mode ForStepStart N s t = target_start N s t
step_mode (ReturnStart p) N s t = return_step p N s t
step_mode (NameFirst p w) N s t = name_first_step p w N s t
step_mode (NameBracket p w b) N s t = name_bracket_step p w b N s t
step_mode (LocalNamed flags declared p w) N s t = local_named_step flags declared p w N s t
step_mode (Assigned id) N s t = assigned id N s t
step_mode Operand N s t = operand_start N s t
step_mode (NameRead p w) N s t = name_step p w N s t
step_mode (Opened p) N s t = opened_step p N s t
step_mode (OpenedName p q w) N s t = opened_name_step p q w N s t
step_mode (ClosedName p q w) N s t = closed_name_step p q w N s t
step_mode (Minus p) N s t = minus_step p N s t
step_mode (NewStart p) N s t = new_step p N s t
step_mode (NewName p q w) N s t = new_name_step p q w N s t
step_mode (NewElement p element) N s t = new_element_step p element N s t
step_mode (PostDone kind p id) N s t = post_step kind p id N s t
step_mode (Dot object) N s t = dot_step object N s t
step_mode (DotName object p w) N s t = dot_name_step object p w N s t
step_mode ArgumentFirst N s t = argument_first_step N s t
step_mode ArgumentNext N s t = argument_start N s t
step_mode (TextRead id) N s t = text_step id N s t

-- one lexeme; none where it may not stand here
unfoldable pub step : State → Lexeme → Option State
step (at mode s N) t = step_mode mode N s t

-- before the first lexeme of a file
abbrev pub start : List Node → State
start N = at FileStart (FileOpen [] ∷ []) N

-- the lexemes one after the other
unfoldable pub run : State → List Lexeme → Option State
run st [] = Some st
run st (t ∷ o) = elim (step st t) [ Some next ↦ run next o | None ↦ None ]

-- the nodes and the classes of a file that was read to its end
pub record Parsed : Type 0 where
  pub nodes : List Node
  pub classes : List ℕ

abbrev pub parsed : List Node → List ℕ → Parsed
parsed N ids = record { nodes = N; classes = ids }

unfoldable pub finished : State → Option Parsed
finished (at Finished (FileOpen ids ∷ s) N) = Some (parsed N ids)
finished _ = None

-- what the rest of a file gives
unfoldable pub answer : State → List Lexeme → Option Parsed
answer st [] = finished st
answer st (t ∷ o) = elim (step st t) [ Some next ↦ answer next o | None ↦ None ]
