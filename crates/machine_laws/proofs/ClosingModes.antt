-- From each mode some lexemes lead to the end of a file.
use Rattle.std.specs.Prelude.{Bool, List, Option, Some, codes, false, true, ℕ}
use Rattle.machine_laws.proofs.ClosingNeeds.{Awaits, Kept, a_body_owner, a_file, a_first, a_head, a_literal, a_member, a_parameter, a_scope, a_super, a_type, a_value, an_annotation, an_argument, an_operand, annotation_open, argument_here, argument_value, block_open, call_open, class_body, class_open, constructor_body, constructor_open, define_first, define_second, due, field_open, file_open, flagged_thing, flags_of_class, flags_of_local, flags_of_member, flags_of_parameter, for_head, group_open, if_test, kept, length_open, local_open, local_value, member_open, method_open, new_open, of_constructor, of_first, of_simple, of_value, parameter_open, parameters_open, runs_in_open, scope_open, simple_open, super_call_open, supers_open, unary_open, while_test}
use Rattle.machine_laws.proofs.ClosingRuns.{Closes, assigned_closes, block_closes, call_closes, constructor_closes, finished_closes, here, in_classes, in_members, member_closes, more, name_a, operand_closes, sign, statement_end, statement_start_closes, text_a, value_closes, value_ends, zero_read}
use Rattle.machine_laws.proofs.Tools.{machine}
use Rattle.parser_machine.specs.Declarations.{plain_ended, typed}
use Rattle.parser_machine.specs.Files.{class_opened, super_ended}
use Rattle.parser_machine.specs.States.{State, at}
use Rattle.parser_machine.specs.declared.entries.Entry.{Entry}
use Rattle.parser_machine.specs.declared.modes.ElementType.{ElementType}
use Rattle.parser_machine.specs.declared.modes.Mode.{Mode}
use Rattle.parser_machine.specs.declared.modes.Mode.TheVariants.{ArgumentFirst, ArgumentNext, Assigned, At, ClassName, ClassNamed, ClosedName, ConstructorStart, DefineAssign, DefineName, DefineOpen, DefineOther, DefineOtherAssign, Dot, DotName, FileStart, Finished, FlagsRead, ForFirst, ForOpen, ForStepStart, IfOpen, ImportDot, ImportEnd, ImportName, ImportStar, ImportStart, InClasses, InImports, InMembers, InStatements, LiteralDone, LiteralMinus, LiteralStart, LocalNamed, MemberNamed, MethodNamed, Minus, NameBracket, NameFirst, NameRead, NewElement, NewName, NewStart, Opened, OpenedName, Operand, PackageEnd, PackageName, ParameterDone, ParametersDone, ParametersFirst, PlainAssigned, PlainDot, PlainEnd, PlainFirst, PlainName, PlainNext, PlainOpen, PlainPath, PostDone, ResultDone, ReturnStart, StatementEnd, StatementStart, SuperArgumentEnd, SuperArgumentName, SuperDone, SuperEnd, SuperName, SuperNamed, SuperOpen, TextRead, TypeArgumentEnd, TypeArgumentName, TypeBracket, TypeDone, TypeEnd, TypeName, ValueDot, ValueOpen, ValueRead, ValueScope, ValueStart, WhileOpen}
use Rattle.scj_base.specs.Vocabulary.{sign_assign, sign_comma, sign_dot, sign_greater, sign_left_brace, sign_left_bracket, sign_left_parenthesis, sign_right_bracket, sign_right_parenthesis, sign_semicolon, word_class}
use Rattle.scj_base.specs.declared.positions.Position.{Position}
use Rattle.scj_tree.specs.Lexemes.{a_name, a_word, the_end}
use Rattle.scj_tree.specs.declared.nodes.Node.{Node}
use Rattle.scj_tree.specs.declared.parsed_parts.FlagSet.{FlagSet}

-- ---- heads of classes

opened_closes : {s : List Entry} → Awaits a_head s → (h : Option ℕ) (N : List Node) → Closes (class_opened h N s)
unfolding machine
opened_closes (class_open a) h N = in_members (class_body a) N

named_closes : {s : List Entry} → Awaits a_head s → (N : List Node) → Closes (Some (at ClassNamed s N))
unfolding machine
named_closes a N = more (sign sign_left_brace) (opened_closes a _ _)

class_name_closes : {s : List Entry} → Awaits a_file s → (f : Option ℕ) (N : List Node) →
    Closes (Some (at (ClassName f) s N))
unfolding machine
class_name_closes a f N = more name_a (named_closes (class_open a) _)

super_closes : {s : List Entry} → Awaits a_super s → (id : ℕ) (N : List Node) →
    Closes (super_ended id N s (sign sign_left_brace))
unfolding machine
super_closes (supers_open true a) id N = opened_closes a _ _
super_closes (supers_open false a) id N = opened_closes a _ _

super_named_closes : {s : List Entry} → Awaits a_super s → (p : Position) (w : List ℕ) (N : List Node) →
    Closes (Some (at (SuperNamed p w) s N))
unfolding machine
super_named_closes a p w N = more (sign sign_left_brace) (super_closes a _ _)

super_argument_end_closes : {s : List Entry} → Awaits a_super s → (p : Position) (w : List ℕ) (id : ℕ) (N : List Node) →
    Closes (Some (at (SuperArgumentEnd p w id) s N))
unfolding machine
super_argument_end_closes a p w id N = more (sign sign_greater) (more (sign sign_left_brace) (super_closes a _ _))

-- ---- members, parameters and locals

owner_closes : {s : List Entry} → Awaits a_body_owner s → (ps : Option ℕ) (N : List Node) →
    Closes (Some (at (ParametersDone ps) s N))
unfolding machine
owner_closes (method_open a) ps N = more (sign sign_semicolon) (member_closes a _ _)
owner_closes (constructor_open a) ps N = more (sign sign_left_brace) (constructor_closes (constructor_body a) _ _)

first_owner_closes : {s : List Entry} → Awaits a_body_owner s → (p : Position) (N : List Node) →
    Closes (Some (at (ParametersFirst p) s N))
unfolding machine
first_owner_closes a p N = more (sign sign_right_parenthesis) (owner_closes a _ _)

parameter_closes : {s : List Entry} → Awaits a_parameter s → (id : ℕ) (N : List Node) →
    Closes (Some (at (ParameterDone id) s N))
unfolding machine
parameter_closes (parameters_open a) id N = more (sign sign_right_parenthesis) (owner_closes a _ _)

literal_closes : {s : List Entry} → Awaits a_literal s → (id : ℕ) (N : List Node) →
    Closes (Some (at (LiteralDone id) s N))
unfolding machine
literal_closes (field_open a) id N = more (sign sign_semicolon) (member_closes a _ _)

method_named_closes : {s : List Entry} → Awaits a_member s →
    (f : Option ℕ) (t : ℕ) (p : Position) (w : List ℕ) (N : List Node) → Closes (Some (at (MethodNamed f t p w) s N))
unfolding machine
method_named_closes a f t p w N = more (sign sign_left_parenthesis) (first_owner_closes (method_open a) _ _)

member_named_closes : {s : List Entry} → Awaits a_member s →
    (f : Option ℕ) (t : ℕ) (p : Position) (w : List ℕ) (N : List Node) → Closes (Some (at (MemberNamed f t p w) s N))
unfolding machine
member_named_closes a f t p w N = more (sign sign_semicolon) (member_closes a _ _)

local_named_closes : {s : List Entry} → Awaits a_first s →
    (f : Option ℕ) (t : ℕ) (p : Position) (w : List ℕ) (N : List Node) → Closes (Some (at (LocalNamed f t p w) s N))
unfolding machine
local_named_closes a f t p w N =
    more (sign sign_assign) (more zero_read (value_closes (local_value a) (value_ends (local_value a)) _ _ _ _))

type_closes : {s : List Entry} → Awaits a_type s → (t : ℕ) (N : List Node) → Closes (typed t N s name_a)
unfolding machine
type_closes (member_open a) t N = member_named_closes a _ _ _ _ _
type_closes (parameter_open a) t N = parameter_closes a _ _
type_closes (local_open a) t N = local_named_closes a _ _ _ _ _

type_name_closes : {s : List Entry} → Awaits a_type s → (p : Position) (w : List ℕ) (N : List Node) →
    Closes (Some (at (TypeName p w) s N))
unfolding machine
type_name_closes a p w N = more name_a (type_closes a _ _)

type_end_closes : {s : List Entry} → Awaits a_type s → (p : Position) (e : ElementType) (N : List Node) →
    Closes (Some (at (TypeEnd p e) s N))
unfolding machine
type_end_closes a p e N = more name_a (type_closes a _ _)

type_done_closes : {s : List Entry} → Awaits a_type s → (id : ℕ) (N : List Node) → Closes (Some (at (TypeDone id) s N))
unfolding machine
type_done_closes a id N = more name_a (type_closes a _ _)

type_argument_end_closes : {s : List Entry} → Awaits a_type s → (p : Position) (w : List ℕ) (id : ℕ) (N : List Node) →
    Closes (Some (at (TypeArgumentEnd p w id) s N))
unfolding machine
type_argument_end_closes a p w id N = more (sign sign_greater) (type_end_closes a _ _ _)

-- ---- annotations and modifiers

flags_close : {s : List Entry} → Awaits flagged_thing s → (l : Bool) (f : FlagSet) (N : List Node) →
    Closes (Some (at (FlagsRead l f) s N))
unfolding machine
flags_close (flags_of_class file_open) true f N = more (a_word word_class here) (class_name_closes file_open _ _)
flags_close (flags_of_class file_open) false f N = more (a_word word_class here) (class_name_closes file_open _ _)
flags_close (flags_of_member (class_body a)) l f N = more name_a (type_name_closes (member_open (class_body a)) _ _ _)
flags_close (flags_of_parameter (parameters_open a)) l f N =
    more name_a (type_name_closes (parameter_open (parameters_open a)) _ _ _)
flags_close (flags_of_local (simple_open a)) l f N =
    more name_a (type_name_closes (local_open (of_simple (simple_open a))) _ _ _)

plain_ended_closes : {s : List Entry} → Awaits an_annotation s → (N : List Node) → Closes (plain_ended N s)
unfolding machine
plain_ended_closes (annotation_open a) N = flags_close a _ _ N

plain_end_closes : {s : List Entry} → Awaits an_annotation s → (N : List Node) → Closes (Some (at PlainEnd s N))
unfolding machine
plain_end_closes a N = more (sign sign_right_parenthesis) (plain_ended_closes a N)

plain_path_closes : {s : List Entry} → Awaits an_annotation s → (N : List Node) → Closes (Some (at PlainPath s N))
unfolding machine
plain_path_closes a N = more (sign sign_right_parenthesis) (plain_ended_closes a N)

plain_open_closes : {s : List Entry} → Awaits an_annotation s → (N : List Node) → Closes (Some (at PlainOpen s N))
unfolding machine
plain_open_closes a N = more (sign sign_left_parenthesis) (more (sign sign_right_parenthesis) (plain_ended_closes a N))

at_closes : {s : List Entry} → Awaits an_annotation s → (p : Position) (N : List Node) → Closes (Some (at (At p) s N))
unfolding machine
at_closes (annotation_open {l = l} {f = f} a) p N =
    more (a_name (codes "Override") here) (plain_open_closes (annotation_open {l = l} {f = f} a) N)

second_closes : {s : List Entry} → Awaits an_annotation s → (p : Position) (b : Bool) (id : ℕ) (N : List Node) →
    Closes (Some (at (DefineOtherAssign p b id) s N))
unfolding machine
second_closes (annotation_open a) p b id N =
    more (sign sign_assign) (more name_a (more (sign sign_right_parenthesis) (flags_close a _ _ _)))

other_closes : {s : List Entry} → Awaits an_annotation s → (p : Position) (b : Bool) (id : ℕ) (N : List Node) →
    Closes (Some (at (DefineOther p b id) s N))
unfolding machine
other_closes a p true id N = more (a_name (codes "name") here) (second_closes a _ _ _ _)
other_closes a p false id N = more (a_name (codes "parent") here) (second_closes a _ _ _ _)

define_assign_closes : {s : List Entry} → Awaits an_annotation s → (p : Position) (b : Bool) (N : List Node) →
    Closes (Some (at (DefineAssign p b) s N))
unfolding machine
define_assign_closes a p b N = more (sign sign_assign) (more name_a (more (sign sign_comma) (other_closes a _ _ _ _)))

define_name_closes : {s : List Entry} → Awaits an_annotation s → (p : Position) (N : List Node) →
    Closes (Some (at (DefineName p) s N))
unfolding machine
define_name_closes a p N = more (a_name (codes "name") here) (define_assign_closes a _ _ _)

value_read_closes : {s : List Entry} → Awaits a_scope s → (id : ℕ) (N : List Node) →
    Closes (Some (at (ValueRead id) s N))
unfolding machine
value_read_closes (scope_open (annotation_open a)) id N = more (sign sign_right_parenthesis) (flags_close a _ _ _)
value_read_closes (runs_in_open (annotation_open a)) id N = more (sign sign_right_parenthesis) (flags_close a _ _ _)
value_read_closes (define_first a) id N = more (sign sign_comma) (other_closes a _ _ _ _)
value_read_closes (define_second (annotation_open a)) id N = more (sign sign_right_parenthesis) (flags_close a _ _ _)

value_start_closes : {s : List Entry} → Awaits a_scope s → (N : List Node) → Closes (Some (at ValueStart s N))
unfolding machine
value_start_closes a N = more name_a (value_read_closes a _ _)

value_dot_closes : {s : List Entry} → Awaits a_scope s → (p : Position) (N : List Node) → Closes (Some (at (ValueDot p) s N))
unfolding machine
value_dot_closes a p N = more name_a (value_read_closes a _ _)

-- ---- the begins of statements

name_first_closes : {s : List Entry} → Awaits a_first s → (p : Position) (w : List ℕ) (N : List Node) →
    Closes (Some (at (NameFirst p w) s N))
unfolding machine
name_first_closes a p w N = more (sign 34) (assigned_closes (of_first a) _ _)

-- ---- operands

called_closes : {s : List Entry} → Awaits an_argument s → (N : List Node) → Closes (Some (at ArgumentFirst s N))
unfolding machine
called_closes (argument_here a) N = more (sign sign_right_parenthesis) (call_closes a _ _)

dot_name_closes : {s : List Entry} → Awaits an_operand s → (id : ℕ) (p : Position) (w : List ℕ) (N : List Node) →
    Closes (Some (at (DotName id p w) s N))
unfolding machine
dot_name_closes a id p w N = more (sign sign_left_parenthesis) (called_closes (argument_here (call_open a)) _)

dot_closes : {s : List Entry} → Awaits an_operand s → (id : ℕ) (N : List Node) → Closes (Some (at (Dot id) s N))
unfolding machine
dot_closes a id N = more name_a (dot_name_closes a _ _ _ _)

new_name_closes : {s : List Entry} → Awaits an_operand s → (p q : Position) (w : List ℕ) (N : List Node) →
    Closes (Some (at (NewName p q w) s N))
unfolding machine
new_name_closes a p q w N = more (sign sign_left_parenthesis) (called_closes (argument_here (new_open a)) _)

operand_start_closes : {s : List Entry} → Awaits a_value s → (N : List Node) → Closes (Some (at Operand s N))
unfolding machine
operand_start_closes a N = more zero_read (operand_closes (of_value a) _ _ _ _)

value_of_argument : {s : List Entry} → Awaits an_argument s → Awaits a_value s
value_of_argument (argument_here a) = argument_value a

text_closes : {s : List Entry} → Awaits an_argument s → (id : ℕ) (N : List Node) → Closes (Some (at (TextRead id) s N))
unfolding machine
text_closes (argument_here a) id N = more (sign sign_right_parenthesis) (call_closes a _ _)

-- ---- all modes

mode_closes : (m : Mode) {s : List Entry} → Awaits (due m) s → (N : List Node) → Closes (Some (at m s N))
unfolding machine due
mode_closes FileStart a N = more (the_end here) (finished_closes a N)
mode_closes PackageName a N = more name_a (more (sign sign_semicolon) (more (the_end here) (finished_closes a N)))
mode_closes PackageEnd a N = more (sign sign_semicolon) (more (the_end here) (finished_closes a N))
mode_closes InImports a N = more (the_end here) (finished_closes a N)
mode_closes ImportStart a N = more name_a (more (sign sign_semicolon) (more (the_end here) (finished_closes a N)))
mode_closes ImportName a N = more name_a (more (sign sign_semicolon) (more (the_end here) (finished_closes a N)))
mode_closes ImportDot a N = more name_a (more (sign sign_semicolon) (more (the_end here) (finished_closes a N)))
mode_closes ImportEnd a N = more (sign sign_semicolon) (more (the_end here) (finished_closes a N))
mode_closes ImportStar a N = more (sign sign_semicolon) (more (the_end here) (finished_closes a N))
mode_closes InClasses a N = in_classes a N
mode_closes Finished a N = finished_closes a N
mode_closes (FlagsRead l f) a N = flags_close a l f N
mode_closes (At p) a N = at_closes a p N
mode_closes PlainOpen a N = plain_open_closes a N
mode_closes PlainFirst a N = more (sign sign_right_parenthesis) (plain_ended_closes a N)
mode_closes PlainNext a N = more text_a (plain_end_closes a N)
mode_closes PlainName a N = more (sign sign_right_parenthesis) (plain_ended_closes a N)
mode_closes PlainAssigned a N = more text_a (plain_end_closes a N)
mode_closes PlainPath a N = plain_path_closes a N
mode_closes PlainDot a N = more name_a (plain_path_closes a N)
mode_closes PlainEnd a N = plain_end_closes a N
mode_closes ValueOpen a N = more (sign sign_left_parenthesis) (value_start_closes a N)
mode_closes ValueStart a N = value_start_closes a N
mode_closes (ValueScope p) a N = more (sign sign_dot) (value_dot_closes a _ N)
mode_closes (ValueDot p) a N = value_dot_closes a p N
mode_closes (ValueRead id) a N = value_read_closes a id N
mode_closes (DefineOpen p) a N = more (sign sign_left_parenthesis) (define_name_closes a _ N)
mode_closes (DefineName p) a N = define_name_closes a p N
mode_closes (DefineAssign p b) a N = define_assign_closes a p b N
mode_closes (DefineOther p b id) a N = other_closes a p b id N
mode_closes (DefineOtherAssign p b id) a N = second_closes a p b id N
mode_closes (ClassName f) a N = class_name_closes a f N
mode_closes ClassNamed a N = named_closes a N
mode_closes SuperName a N = more name_a (super_named_closes a _ _ N)
mode_closes (SuperNamed p w) a N = super_named_closes a p w N
mode_closes (SuperArgumentName p w) a N = more name_a (super_argument_end_closes a _ _ _ _)
mode_closes (SuperArgumentEnd p w id) a N = super_argument_end_closes a p w id N
mode_closes (SuperDone id) a N = more (sign sign_left_brace) (super_closes a id N)
mode_closes InMembers a N = in_members a N
mode_closes (TypeName p w) a N = type_name_closes a p w N
mode_closes (TypeArgumentName p w) a N = more name_a (type_argument_end_closes a _ _ _ _)
mode_closes (TypeArgumentEnd p w id) a N = type_argument_end_closes a p w id N
mode_closes (TypeEnd p e) a N = type_end_closes a p e N
mode_closes (TypeBracket p e) a N = more (sign sign_right_bracket) (type_done_closes a _ _)
mode_closes (TypeDone id) a N = type_done_closes a id N
mode_closes (MemberNamed f t p w) a N = member_named_closes a f t p w N
mode_closes (ResultDone f t) a N = more name_a (method_named_closes a _ _ _ _ N)
mode_closes (MethodNamed f t p w) a N = method_named_closes a f t p w N
mode_closes LiteralStart a N = more zero_read (literal_closes a _ _)
mode_closes (LiteralMinus p) a N = more zero_read (literal_closes a _ _)
mode_closes (LiteralDone id) a N = literal_closes a id N
mode_closes (ParametersFirst p) a N = first_owner_closes a p N
mode_closes (ParameterDone id) a N = parameter_closes a id N
mode_closes (ParametersDone ps) a N = owner_closes a ps N
mode_closes (ConstructorStart b) a N = constructor_closes a b N
mode_closes (SuperOpen b p) a N =
    more (sign sign_left_parenthesis) (called_closes (argument_here (super_call_open a)) N)
mode_closes (SuperEnd b) a N = more (sign sign_semicolon) (block_closes (block_open (of_constructor a)) N)
mode_closes InStatements a N = block_closes a N
mode_closes StatementStart a N = statement_start_closes a N
mode_closes (StatementEnd id) a N = statement_end a id N
mode_closes (IfOpen p) a N = more (sign sign_left_parenthesis) (operand_start_closes (if_test a) N)
mode_closes (WhileOpen p) a N = more (sign sign_left_parenthesis) (operand_start_closes (while_test a) N)
mode_closes (ForOpen p) a N = more (sign sign_left_parenthesis) (more name_a (name_first_closes (for_head a) _ _ N))
mode_closes ForFirst a N = more name_a (name_first_closes a _ _ N)
mode_closes ForStepStart a N = more name_a (more (sign 34) (assigned_closes a _ _))
mode_closes (ReturnStart p) a N = more (sign sign_semicolon) (statement_end a _ _)
mode_closes (NameFirst p w) a N = name_first_closes a p w N
mode_closes (NameBracket p w b) a N = more (sign sign_right_bracket) (type_done_closes (local_open a) _ _)
mode_closes (LocalNamed f t p w) a N = local_named_closes a f t p w N
mode_closes (Assigned id) a N = assigned_closes a id N
mode_closes Operand a N = operand_start_closes a N
mode_closes (NameRead p w) a N = more (sign sign_left_parenthesis) (called_closes (argument_here (call_open a)) N)
mode_closes (Opened p) a N = more zero_read (operand_closes (of_value (group_open a)) _ _ _ _)
mode_closes (OpenedName p q w) a N =
    more (sign sign_left_parenthesis) (called_closes (argument_here (call_open (of_value (group_open a)))) N)
mode_closes (ClosedName p q w) a N = more (sign sign_dot) (dot_closes a _ _)
mode_closes (Minus p) a N = more zero_read (operand_closes (of_value (unary_open a)) _ _ _ _)
mode_closes (NewStart p) a N = more name_a (new_name_closes a _ _ _ N)
mode_closes (NewName p q w) a N = new_name_closes a p q w N
mode_closes (NewElement p e) a N = more (sign sign_left_bracket) (operand_start_closes (length_open a) N)
mode_closes (PostDone kind p id) a N = operand_closes a kind p id N
mode_closes (Dot id) a N = dot_closes a id N
mode_closes (DotName id p w) a N = dot_name_closes a id p w N
mode_closes ArgumentFirst a N = called_closes a N
mode_closes ArgumentNext a N = more zero_read (operand_closes (of_value (value_of_argument a)) _ _ _ _)
mode_closes (TextRead id) a N = text_closes a id N

pub kept_closes : {st : State} → Kept (Some st) → Closes (Some st)
kept_closes (kept {m = m} {N = N} a) = mode_closes m a N
