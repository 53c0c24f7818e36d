-- What the machine reads to its end is a tree of what was read.
use Rattle.std.proofs.Common.{refl, subst}
use Rattle.std.specs.Prelude.{Bool, List, None, Option, Some, [], ℕ, ◌∷◌, ◌≡◌}
use Rattle.machine_laws.proofs.DeclarationsStand.{at_stands, define_assign_stands, define_name_stands, define_open_stands, define_other_assign_stands, define_other_stands, flags_step_stands, plain_assigned_stands, plain_dot_stands, plain_end_stands, plain_first_stands, plain_name_stands, plain_next_stands, plain_open_stands, plain_path_stands, type_argument_end_stands, type_argument_name_stands, type_bracket_stands, type_end_stands, type_name_stands, typed_stands, value_dot_stands, value_end_stands, value_open_stands, value_scope_stands, value_start_stands}
use Rattle.machine_laws.proofs.ExpressionsStand.{argument_first_stands, argument_start_stands, assigned_stands, closed_name_stands, dot_name_stands, dot_stands, minus_stands, name_stands, new_element_stands, new_name_stands, new_stands, opened_name_stands, opened_stands, operand_start_stands, post_done_stands, text_stands}
use Rattle.machine_laws.proofs.FilesStand.{class_name_stands, class_named_stands, classes_stands, file_start_stands, import_dot_stands, import_end_stands, import_name_stands, import_star_stands, import_start_stands, imports_stands, package_end_stands, package_name_stands, super_argument_end_stands, super_argument_name_stands, super_ended_stands, super_name_stands, super_named_stands}
use Rattle.machine_laws.proofs.Standing.{Due, Source, file_open, for_class}
use Rattle.machine_laws.proofs.Stands.{AtFile, Leads, Stands, assigned_so, behind, file_due, past}
use Rattle.machine_laws.proofs.StatementsStand.{constructor_start_stands, first_start_stands, for_open_stands, if_open_stands, literal_end_stands, literal_minus_stands, literal_stands, local_named_stands, member_named_stands, members_stands, method_named_stands, name_bracket_stands, name_first_stands, parameter_end_stands, parameters_end_stands, parameters_first_stands, result_stands, return_stands, statement_ended_stands, statement_start_stands, statements_stands, step_start_stands, super_end_stands, super_open_stands, while_open_stands}
use Rattle.machine_laws.proofs.Tools.{next}
use Rattle.parser_machine.specs.Blocks.{first_start, statement_start, statements_step}
use Rattle.parser_machine.specs.Closing.{assigned}
use Rattle.parser_machine.specs.Declarations.{flags_step, plain_next_step, typed}
use Rattle.parser_machine.specs.Files.{classes_step, imports_step, super_ended}
use Rattle.parser_machine.specs.Machine.{Parsed, answer, finished, parsed, start, step, step_mode}
use Rattle.parser_machine.specs.Members.{members_step}
use Rattle.parser_machine.specs.Operands.{argument_start, operand_start}
use Rattle.parser_machine.specs.States.{State, at}
use Rattle.parser_machine.specs.declared.entries.Entry.{Entry}
use Rattle.parser_machine.specs.declared.modes.Mode.{Mode}
use Rattle.parser_machine.specs.declared.modes.Mode.TheVariants.{ArgumentFirst, ArgumentNext, Assigned, At, ClassName, ClassNamed, ClosedName, ConstructorStart, DefineAssign, DefineName, DefineOpen, DefineOther, DefineOtherAssign, Dot, DotName, FileStart, Finished, FlagsRead, ForFirst, ForOpen, ForStepStart, IfOpen, ImportDot, ImportEnd, ImportName, ImportStar, ImportStart, InClasses, InImports, InMembers, InStatements, LiteralDone, LiteralMinus, LiteralStart, LocalNamed, MemberNamed, MethodNamed, Minus, NameBracket, NameFirst, NameRead, NewElement, NewName, NewStart, Opened, OpenedName, Operand, PackageEnd, PackageName, ParameterDone, ParametersDone, ParametersFirst, PlainAssigned, PlainDot, PlainEnd, PlainFirst, PlainName, PlainNext, PlainOpen, PlainPath, PostDone, ResultDone, ReturnStart, StatementEnd, StatementStart, SuperArgumentEnd, SuperArgumentName, SuperDone, SuperEnd, SuperName, SuperNamed, SuperOpen, TextRead, TypeArgumentEnd, TypeArgumentName, TypeBracket, TypeDone, TypeEnd, TypeName, ValueDot, ValueOpen, ValueRead, ValueScope, ValueStart, WhileOpen}
use Rattle.scj_base.specs.declared.positions.Position.{Position}
use Rattle.scj_tree.specs.Grammar.{Tree}
use Rattle.scj_tree.specs.Lexemes.{Lexeme, the_end}
use Rattle.scj_tree.specs.declared.nodes.Node.{Node}
use Rattle.scj_tree.specs.declared.parsed_parts.FlagSet.{FlagSet}

at_imports : (r : Source) (N : List Node) (s : List Entry) (t : Lexeme) (o : List Lexeme) →
    Stands r InImports s N (t ∷ o) → Leads r (imports_step N s t) o
unfolding Stands
at_imports r N s t o h = imports_stands r N s t o h

at_classes : (r : Source) (N : List Node) (s : List Entry) (t : Lexeme) (o : List Lexeme) →
    Stands r InClasses s N (t ∷ o) → Leads r (classes_step N s t) o
unfolding Stands
at_classes r N s t o h = classes_stands r N s t o h

at_pair : (r : Source) (N : List Node) (s : List Entry) (t : Lexeme) (o : List Lexeme) →
    Stands r PlainNext s N (t ∷ o) → Leads r (plain_next_step N s t) o
unfolding Stands
at_pair r N s t o h = plain_next_stands r N s t o h

at_members : (r : Source) (N : List Node) (s : List Entry) (t : Lexeme) (o : List Lexeme) →
    Stands r InMembers s N (t ∷ o) → Leads r (members_step N s t) o
unfolding Stands
at_members r N s t o h = members_stands r N s t o h

at_statements : (r : Source) (N : List Node) (s : List Entry) (t : Lexeme) (o : List Lexeme) →
    Stands r InStatements s N (t ∷ o) → Leads r (statements_step N s t) o
unfolding Stands
at_statements r N s t o h = statements_stands r N s t o h

at_statement : (r : Source) (N : List Node) (s : List Entry) (t : Lexeme) (o : List Lexeme) →
    Stands r StatementStart s N (t ∷ o) → Leads r (statement_start N s t) o
unfolding Stands
at_statement r N s t o h = statement_start_stands r N s t o h

at_first : (r : Source) (N : List Node) (s : List Entry) (t : Lexeme) (o : List Lexeme) →
    Stands r ForFirst s N (t ∷ o) → Leads r (first_start N s t) o
unfolding Stands
at_first r N s t o h = first_start_stands r N s t o h

at_operand : (r : Source) (N : List Node) (s : List Entry) (t : Lexeme) (o : List Lexeme) →
    Stands r Operand s N (t ∷ o) → Leads r (operand_start N s t) o
unfolding Stands
at_operand r N s t o h = operand_start_stands r N s t o h

at_argument : (r : Source) (N : List Node) (s : List Entry) (t : Lexeme) (o : List Lexeme) →
    Stands r ArgumentNext s N (t ∷ o) → Leads r (argument_start N s t) o
unfolding Stands
at_argument r N s t o h = argument_start_stands r N s t o h

nothing_led : (r : Source) (o : List Lexeme) → Leads r None o
unfolding Leads
nothing_led r o = tt

at_flags : (r : Source) (b : Bool) (flags : FlagSet) (N : List Node) (s : List Entry) (t : Lexeme) (o : List Lexeme) →
    Stands r (FlagsRead b flags) s N (t ∷ o) → Leads r (flags_step b flags N s t) o
unfolding Stands
at_flags r b flags N s t o (behind f g) = flags_step_stands r b flags N s t o f g

at_super : (r : Source) (id : ℕ) (N : List Node) (s : List Entry) (t : Lexeme) (o : List Lexeme) →
    Stands r (SuperDone id) s N (t ∷ o) → Leads r (super_ended id N s t) o
unfolding Stands
at_super r id N s t o (behind v d) = super_ended_stands r id N s t o v d

at_type : (r : Source) (id : ℕ) (N : List Node) (s : List Entry) (t : Lexeme) (o : List Lexeme) →
    Stands r (TypeDone id) s N (t ∷ o) → Leads r (typed id N s t) o
unfolding Stands
at_type r id N s t o (behind v d) = typed_stands r id N s t o v d

at_assigned : (r : Source) (id : ℕ) (N : List Node) (s : List Entry) (t : Lexeme) (o : List Lexeme) →
    Stands r (Assigned id) s N (t ∷ o) → Leads r (assigned id N s t) o
unfolding Stands
at_assigned r id N s t o (assigned_so v d) = assigned_stands r id N s t o v d

step_stands : (r : Source) (mode : Mode) (N : List Node) (s : List Entry) (t : Lexeme) (o : List Lexeme) →
    Stands r mode s N (t ∷ o) → Leads r (step_mode mode N s t) o
unfolding step_mode
step_stands r FileStart N s t o h = file_start_stands r N s t o h
step_stands r PackageName N s t o h = package_name_stands r N s t o h
step_stands r PackageEnd N s t o h = package_end_stands r N s t o h
step_stands r InImports N s t o h = at_imports r N s t o h
step_stands r ImportStart N s t o h = import_start_stands r N s t o h
step_stands r ImportName N s t o h = import_name_stands r N s t o h
step_stands r ImportDot N s t o h = import_dot_stands r N s t o h
step_stands r ImportEnd N s t o h = import_end_stands r N s t o h
step_stands r ImportStar N s t o h = import_star_stands r N s t o h
step_stands r InClasses N s t o h = at_classes r N s t o h
step_stands r Finished N s t o h = nothing_led r o
step_stands r (FlagsRead b flags) N s t o h = at_flags r b flags N s t o h
step_stands r (At p) N s t o h = at_stands r p N s t o h
step_stands r PlainOpen N s t o h = plain_open_stands r N s t o h
step_stands r PlainFirst N s t o h = plain_first_stands r N s t o h
step_stands r PlainNext N s t o h = at_pair r N s t o h
step_stands r PlainName N s t o h = plain_name_stands r N s t o h
step_stands r PlainAssigned N s t o h = plain_assigned_stands r N s t o h
step_stands r PlainPath N s t o h = plain_path_stands r N s t o h
step_stands r PlainDot N s t o h = plain_dot_stands r N s t o h
step_stands r PlainEnd N s t o h = plain_end_stands r N s t o h
step_stands r ValueOpen N s t o h = value_open_stands r N s t o h
step_stands r ValueStart N s t o h = value_start_stands r N s t o h
step_stands r (ValueScope p) N s t o h = value_scope_stands r p N s t o h
step_stands r (ValueDot p) N s t o h = value_dot_stands r p N s t o h
step_stands r (ValueRead id) N s t o h = value_end_stands r id N s t o h
step_stands r (DefineOpen p) N s t o h = define_open_stands r p N s t o h
step_stands r (DefineName p) N s t o h = define_name_stands r p N s t o h
step_stands r (DefineAssign p first) N s t o h = define_assign_stands r p first N s t o h
step_stands r (DefineOther p first id) N s t o h = define_other_stands r p first id N s t o h
step_stands r (DefineOtherAssign p first id) N s t o h = define_other_assign_stands r p first id N s t o h
step_stands r (ClassName flags) N s t o h = class_name_stands r flags N s t o h
step_stands r ClassNamed N s t o h = class_named_stands r N s t o h
step_stands r SuperName N s t o h = super_name_stands r N s t o h
step_stands r (SuperNamed p w) N s t o h = super_named_stands r p w N s t o h
step_stands r (SuperArgumentName p w) N s t o h = super_argument_name_stands r p w N s t o h
step_stands r (SuperArgumentEnd p w a) N s t o h = super_argument_end_stands r p w a N s t o h
step_stands r (SuperDone id) N s t o h = at_super r id N s t o h
step_stands r InMembers N s t o h = at_members r N s t o h
step_stands r (TypeName p w) N s t o h = type_name_stands r p w N s t o h
step_stands r (TypeArgumentName p w) N s t o h = type_argument_name_stands r p w N s t o h
step_stands r (TypeArgumentEnd p w a) N s t o h = type_argument_end_stands r p w a N s t o h
step_stands r (TypeEnd p element) N s t o h = type_end_stands r p element N s t o h
step_stands r (TypeBracket p element) N s t o h = type_bracket_stands r p element N s t o h
step_stands r (TypeDone id) N s t o h = at_type r id N s t o h
step_stands r (MemberNamed flags x p w) N s t o h = member_named_stands r flags x p w N s t o h
step_stands r (ResultDone flags x) N s t o h = result_stands r flags x N s t o h
step_stands r (MethodNamed flags x p w) N s t o h = method_named_stands r flags x p w N s t o h
step_stands r LiteralStart N s t o h = literal_stands r N s t o h
step_stands r (LiteralMinus p) N s t o h = literal_minus_stands r p N s t o h
step_stands r (LiteralDone id) N s t o h = literal_end_stands r id N s t o h
step_stands r (ParametersFirst p) N s t o h = parameters_first_stands r p N s t o h
step_stands r (ParameterDone id) N s t o h = parameter_end_stands r id N s t o h
step_stands r (ParametersDone ps) N s t o h = parameters_end_stands r ps N s t o h
step_stands r (ConstructorStart b) N s t o h = constructor_start_stands r b N s t o h
step_stands r (SuperOpen b p) N s t o h = super_open_stands r b p N s t o h
step_stands r (SuperEnd b) N s t o h = super_end_stands r b N s t o h
step_stands r InStatements N s t o h = at_statements r N s t o h
step_stands r StatementStart N s t o h = at_statement r N s t o h
step_stands r (StatementEnd id) N s t o h = statement_ended_stands r id N s t o h
step_stands r (IfOpen p) N s t o h = if_open_stands r p N s t o h
step_stands r (WhileOpen p) N s t o h = while_open_stands r p N s t o h
step_stands r (ForOpen p) N s t o h = for_open_stands r p N s t o h
step_stands r ForFirst N s t o h = at_first r N s t o h
step_stands r ForStepStart N s t o h = step_start_stands r N s t o h
step_stands r (ReturnStart p) N s t o h = return_stands r p N s t o h
step_stands r (NameFirst p w) N s t o h = name_first_stands r p w N s t o h
step_stands r (NameBracket p w b) N s t o h = name_bracket_stands r p w b N s t o h
step_stands r (LocalNamed flags x p w) N s t o h = local_named_stands r flags x p w N s t o h
step_stands r (Assigned id) N s t o h = at_assigned r id N s t o h
step_stands r Operand N s t o h = at_operand r N s t o h
step_stands r (NameRead p w) N s t o h = name_stands r p w N s t o h
step_stands r (Opened p) N s t o h = opened_stands r p N s t o h
step_stands r (OpenedName p q w) N s t o h = opened_name_stands r p q w N s t o h
step_stands r (ClosedName p q w) N s t o h = closed_name_stands r p q w N s t o h
step_stands r (Minus p) N s t o h = minus_stands r p N s t o h
step_stands r (NewStart p) N s t o h = new_stands r p N s t o h
step_stands r (NewName p q w) N s t o h = new_name_stands r p q w N s t o h
step_stands r (NewElement p element) N s t o h = new_element_stands r p element N s t o h
step_stands r (PostDone kind p id) N s t o h = post_done_stands r kind p id N s t o h
step_stands r (Dot object) N s t o h = dot_stands r object N s t o h
step_stands r (DotName object p w) N s t o h = dot_name_stands r object p w N s t o h
step_stands r ArgumentFirst N s t o h = argument_first_stands r N s t o h
step_stands r ArgumentNext N s t o h = at_argument r N s t o h
step_stands r (TextRead id) N s t o h = text_stands r id N s t o h

-- ---- runs

pub StandsSo : Source → State → List Lexeme → Type 0
StandsSo r (at mode s N) i = Stands r mode s N i

leads_so : (r : Source) (next : State) (o : List Lexeme) → Leads r (Some next) o → StandsSo r next o
unfolding Leads StandsSo
leads_so r (at mode s N) o h = h

one_step : (r : Source) (st : State) (t : Lexeme) (o : List Lexeme) → StandsSo r st (t ∷ o) → Leads r (step st t) o
unfolding StandsSo step
one_step r (at mode s N) t o h = step_stands r mode N s t o h

pub starts_so : (N : List Node) (i : List Lexeme) → StandsSo (record { nodes = N; lexemes = i }) (start N) i
unfolding StandsSo Stands AtFile
starts_so N i = file_due refl (λ N1 ids d. d)

file_finished : (r : Source) (s : List Entry) (N : List Node) {N1 : List Node} {ids : List ℕ} {p : Position} →
    Due r for_class s N (the_end p ∷ []) → finished (at Finished s N) ≡ Some (parsed N1 ids) →
    Tree r.nodes r.lexemes N1 ids
unfolding finished
file_finished r s N {N1} {ids} (file_open {ids = these} c h) e =
    let P : Option Parsed → Type 0 = λ x. elim x [ None ↦ Unit {0} | Some y ↦ Tree r.nodes r.lexemes y.nodes y.classes ]
    in
    subst P e (h N these _ c)

none_is_some : {A : Type 0} {x : Parsed} → None ≡ Some x → A
none_is_some {A} {x} e = let P : Option Parsed → Type 0 = λ y. elim y [ None ↦ Unit {0} | Some z ↦ A ] in subst P e tt

finished_so : (r : Source) (st : State) {N1 : List Node} {ids : List ℕ} → StandsSo r st [] →
    finished st ≡ Some (parsed N1 ids) → Tree r.nodes r.lexemes N1 ids
unfolding StandsSo Stands finished
finished_so r (at Finished s N) (past d) e = file_finished r s N d e
finished_so r _ h e = none_is_some e

answer_behind : (r : Source) (o : List Lexeme) (x : Option State) {N1 : List Node} {ids : List ℕ} →
    ((next : State) → StandsSo r next o → answer next o ≡ Some (parsed N1 ids) → Tree r.nodes r.lexemes N1 ids) →
    Leads r x o → elim x [ Some next ↦ answer next o | None ↦ None ] ≡ Some (parsed N1 ids) →
    Tree r.nodes r.lexemes N1 ids
answer_behind r o None f h e = none_is_some e
answer_behind r o (Some next) f h e = f next (leads_so r next o h) e

answer_so : (r : Source) (i : List Lexeme) (st : State) {N1 : List Node} {ids : List ℕ} → StandsSo r st i →
    answer st i ≡ Some (parsed N1 ids) → Tree r.nodes r.lexemes N1 ids
unfolding answer
answer_so r [] st h e = finished_so r st h e
answer_so r (t ∷ o) st h e = answer_behind r o (step st t) (λ next. answer_so r o next) (one_step r st t o h) e

-- soundness: an answer is a tree's
pub answer_is_tree : (N : List Node) (i : List Lexeme) {N1 : List Node} {ids : List ℕ} →
    answer (start N) i ≡ Some (parsed N1 ids) → Tree N i N1 ids
answer_is_tree N i e = answer_so (record { nodes = N; lexemes = i }) i (start N) (starts_so N i) e
