-- Each step of the machine leaves entries that await what the mode goes on with.
use Rattle.std.specs.Prelude.{Bool, List, None, Option, Some, [], codes, false, not, true, ℕ, ◌&&◌, ◌==◌, ◌||◌, ◌∷◌}
use Rattle.machine_laws.proofs.ClosingNeeds.{Awaits, Kept, a_body_owner, a_constructor_body, a_file, a_first, a_head, a_literal, a_member, a_parameter, a_scope, a_statement, a_statement_of_block, a_super, a_type, a_value, an_annotation, an_argument, an_assignment, an_operand, annotation_open, argument_here, argument_value, arguments_of, assign_value, binary_left, block_open, call_open, cast_open, chosen, class_body, class_open, compound_value, constructor_body, constructor_open, define_first, define_second, due, either, field_open, file_open, flagged_thing, flags_of_class, flags_of_local, flags_of_member, flags_of_parameter, for_body, for_head, for_step, for_test, group_open, if_other, if_test, if_then, index_open, kept, length_open, local_open, local_value, member_open, method_body, method_open, never_both, new_open, of_block, of_constructor, of_first, of_simple, of_value, parameter_open, parameters_open, refused, return_open, runs_in_open, scope_open, simple_open, super_call_open, supers_open, target_open, unary_open, while_body, while_test}
use Rattle.parser_machine.specs.Blocks.{block_ended, first_start, local_ended, local_named_step, name_bracket_step, name_first_step, return_step, statement_sign, statement_start, statement_word, statements_step, target_start, test_open_step}
use Rattle.parser_machine.specs.Closing.{admits, argument_ended, arguments_ended, assigned, closed, ended, operation, shifted, target_alone, target_assigned, target_ended}
use Rattle.parser_machine.specs.Declarations.{annotation_named, at_step, class_start, constructor_step, declaration_start, define_assign_step, define_name_step, define_open_step, define_other_assign_step, define_other_step, define_scope_named, flags_ended, flags_step, member_start, member_word, pair_ended, plain_assigned_step, plain_dot_step, plain_end_step, plain_ended, plain_first_step, plain_name_step, plain_next_step, plain_open_step, plain_path_step, plain_value_step, plain_without, runs_in_named, scope_named, type_argument_end_step, type_argument_name_step, type_bracket_step, type_end_step, type_name_step, type_start, typed, value_dot_step, value_end_step, value_open_step, value_scope_step, value_start_step, valued}
use Rattle.parser_machine.specs.Files.{class_name_step, class_named_step, class_opened, classes_step, file_start_step, import_dot_step, import_end_step, import_name_step, import_star_step, import_start_step, imports_step, interface_sign, package_end_step, package_name_step, super_argument_end_step, super_argument_name_step, super_ended, super_name_step, super_named_step, superclass_sign}
use Rattle.parser_machine.specs.Machine.{run, start, step, step_mode}
use Rattle.parser_machine.specs.Members.{body_step, class_ended, constructor_start_step, field_ended, literal_end_step, literal_minus_step, literal_step, literal_word, member_ended, member_named_step, member_read, members_step, method_named_step, parameter_end_step, parameter_ended, parameters_end_step, parameters_first_step, result_step, statement_ended, super_end_step, super_open_step}
use Rattle.parser_machine.specs.Operands.{argument_first_step, argument_start, awaits_target, closed_name_step, compound_step, dot_name_step, dot_step, minus_step, name_sign_step, name_step, new_element_step, new_name_step, new_step, no_arguments_step, opened_name_step, opened_step, operand_sign, operand_start, operand_word, post_ended, post_step, stepping_step, target_name_step, text_step}
use Rattle.parser_machine.specs.States.{State}
use Rattle.parser_machine.specs.declared.entries.Entry.{Entry}
use Rattle.parser_machine.specs.declared.entries.Entry.TheVariants.{ForHead, IfTest, WhileTest}
use Rattle.parser_machine.specs.declared.modes.ElementType.{ElementType}
use Rattle.parser_machine.specs.declared.modes.Mode.{Mode}
use Rattle.parser_machine.specs.declared.modes.Mode.TheVariants.{ArgumentFirst, ArgumentNext, Assigned, At, ClassName, ClassNamed, ClosedName, ConstructorStart, DefineAssign, DefineName, DefineOpen, DefineOther, DefineOtherAssign, Dot, DotName, FileStart, Finished, FlagsRead, ForFirst, ForOpen, ForStepStart, IfOpen, ImportDot, ImportEnd, ImportName, ImportStar, ImportStart, InClasses, InImports, InMembers, InStatements, LiteralDone, LiteralMinus, LiteralStart, LocalNamed, MemberNamed, MethodNamed, Minus, NameBracket, NameFirst, NameRead, NewElement, NewName, NewStart, Opened, OpenedName, Operand, PackageEnd, PackageName, ParameterDone, ParametersDone, ParametersFirst, PlainAssigned, PlainDot, PlainEnd, PlainFirst, PlainName, PlainNext, PlainOpen, PlainPath, PostDone, ResultDone, ReturnStart, StatementEnd, StatementStart, SuperArgumentEnd, SuperArgumentName, SuperDone, SuperEnd, SuperName, SuperNamed, SuperOpen, TextRead, TypeArgumentEnd, TypeArgumentName, TypeBracket, TypeDone, TypeEnd, TypeName, ValueDot, ValueOpen, ValueRead, ValueScope, ValueStart, WhileOpen}
use Rattle.scj_base.specs.Vocabulary.{sign_assign, sign_at, sign_comma, sign_dot, sign_left_brace, sign_left_bracket, sign_left_parenthesis, sign_less, sign_minus, sign_not, sign_right_parenthesis, sign_semicolon, sign_tilde, word_boolean, word_extends, word_false, word_final, word_for, word_if, word_implements, word_int, word_long, word_new, word_null, word_return, word_this, word_true, word_void, word_while}
use Rattle.scj_base.specs.declared.positions.Position.{Position}
use Rattle.scj_tree.specs.Lexemes.{Lexeme, a_name, a_number, a_sign, a_text, a_word, the_end}
use Rattle.scj_base.specs.Bytes.{is_same}
use Rattle.scj_tree.specs.Terminals.{compound, indexable, is_effectless, is_unary1_start, stepping, has_type_argument}
use Rattle.scj_tree.specs.declared.nodes.Node.{Node}
use Rattle.scj_tree.specs.declared.parsed_parts.FlagSet.{FlagSet}
use Rattle.scj_tree.specs.declared.parsed_parts.PostKind.{PostKind}
use Rattle.scj_tree.specs.declared.parsed_parts.PostKind.TheVariants.{Invocation, Variable}

-- ---- where statements, assignments, arguments and targets end

assigned_kept : {s : List Entry} → Awaits an_assignment s → (id : ℕ) (N : List Node) (t : Lexeme) →
    Kept (assigned id N s t)
unfolding assigned due
assigned_kept (of_first (of_simple (simple_open a))) id N (a_sign n p) = either _ (kept a) refused
assigned_kept (of_first (for_head a)) id N (a_sign n p) = either _ (kept (for_test a)) refused
assigned_kept (for_step a) id N (a_sign n p) = either _ (kept (for_body a)) refused
assigned_kept a id N t = refused

arguments_ended_kept : {s : List Entry} → Awaits arguments_of s → (ids : List ℕ) (N : List Node) →
    Kept (arguments_ended ids N s)
unfolding arguments_ended due
arguments_ended_kept (call_open a) ids N = kept a
arguments_ended_kept (new_open a) ids N = kept a
arguments_ended_kept (super_call_open (constructor_body a)) ids N = kept (constructor_body a)

argument_ended_kept : {s : List Entry} → Awaits arguments_of s → (id : ℕ) (ids : List ℕ) (N : List Node) (t : Lexeme) →
    Kept (argument_ended id ids N s t)
unfolding argument_ended due
argument_ended_kept a id ids N (a_sign n p) =
    either _ (kept (argument_here a)) (either _ (arguments_ended_kept a _ _) refused)
argument_ended_kept a id ids N t = refused

target_assigned_kept : {s : List Entry} → Awaits an_assignment s →
    (kind : PostKind) (id : ℕ) (q : Position) (N : List Node) → Kept (target_assigned kind id q N s)
unfolding target_assigned due
target_assigned_kept a Variable id q N = kept (assign_value a)
target_assigned_kept a kind id q N = refused

target_alone_kept : {s : List Entry} → Awaits an_assignment s → (kind : PostKind) (p : Position) (id : ℕ) (N : List Node) →
    Kept (target_alone kind p id N s)
unfolding target_alone due
target_alone_kept (of_first (of_simple (simple_open a))) Invocation p id N = kept a
target_alone_kept (of_first (for_head a)) Invocation p id N = refused
target_alone_kept (for_step a) Invocation p id N = refused
target_alone_kept a kind p id N = refused

target_ended_kept : {s : List Entry} → Awaits an_assignment s → (kind : PostKind) (p : Position) (id : ℕ) (N : List Node)
    (t : Lexeme) → Kept (target_ended kind p id N s t)
unfolding target_ended due
target_ended_kept a kind p id N (a_sign n q) =
    either _ (target_assigned_kept a kind id q N) (either _ (target_alone_kept a kind p id N) refused)
target_ended_kept a kind p id N t = refused

-- ---- where an expression ends

ended_kept : {e : Entry} {s : List Entry} → Awaits a_value (e ∷ s) → (id : ℕ) (N : List Node) (t : Lexeme) →
    Kept (ended e id N s t)
unfolding ended due
ended_kept (for_test a) id N (a_sign n q) = either _ (kept (for_step a)) refused
ended_kept (if_test a) id N (a_sign n q) = either _ (kept (if_then a)) refused
ended_kept (while_test a) id N (a_sign n q) = either _ (kept (while_body a)) refused
ended_kept (return_open a) id N (a_sign n q) = either _ (kept a) refused
ended_kept (assign_value a) id N t = assigned_kept a _ _ t
ended_kept (compound_value a) id N t = assigned_kept a _ _ t
ended_kept (local_value a) id N t = assigned_kept (of_first a) _ _ t
ended_kept (group_open a) id N (a_sign n q) = either _ (kept a) refused
ended_kept (index_open a) id N (a_sign n q) = either _ (kept a) refused
ended_kept (length_open a) id N (a_sign n q) = either _ (kept a) refused
ended_kept (argument_value a) id N t = argument_ended_kept a _ _ N t
ended_kept a id N t = refused

shifted_kept : {s : List Entry} → Awaits a_value s → (id : ℕ) (N : List Node) (t : Lexeme) → Kept (shifted id N s t)
unfolding shifted due
shifted_kept a id N (a_sign n p) = kept (binary_left a)
shifted_kept a id N t = refused

closed_kept : {s : List Entry} → Awaits a_value s → (id : ℕ) (N : List Node) (t : Lexeme) → Kept (closed id N s t)
unfolding closed admits operation
closed_kept (binary_left a) id N t = either _ (shifted_kept (binary_left a) id N t) (closed_kept a _ _ t)
closed_kept (unary_open a) id N t = closed_kept a _ _ t
closed_kept (cast_open a) id N t = closed_kept a _ _ t
closed_kept a id N t = either _ (shifted_kept a id N t) (ended_kept a id N t)

post_ended_kept : {s : List Entry} → Awaits an_operand s → (kind : PostKind) (p : Position) (id : ℕ) (N : List Node)
    (t : Lexeme) → Kept (post_ended kind p id N s t)
unfolding post_ended
post_ended_kept (target_open a) kind p id N t = target_ended_kept a kind p id N t
post_ended_kept (of_value (for_test a)) kind p id N t = closed_kept (for_test a) id N t
post_ended_kept (of_value a) kind p id N t = closed_kept a id N t

post_kept : {s : List Entry} → Awaits an_operand s → (kind : PostKind) (p : Position) (id : ℕ) (N : List Node) (t : Lexeme) →
    Kept (post_step kind p id N s t)
unfolding post_step due
post_kept a kind p id N (a_sign n q) =
    either (n == sign_dot) (kept a)
    (either (n == sign_left_bracket && indexable kind) (kept (index_open a))
    (post_ended_kept a kind p id N (a_sign n q)))
post_kept a kind p id N t = post_ended_kept a kind p id N t

dot_kept : {s : List Entry} → Awaits an_operand s → (id : ℕ) (N : List Node) (t : Lexeme) → Kept (dot_step id N s t)
unfolding dot_step due
dot_kept a id N (a_name w p) = kept a
dot_kept a id N t = refused

dot_name_kept : {s : List Entry} → Awaits an_operand s → (id : ℕ) (p : Position) (w : List ℕ) (N : List Node) (t : Lexeme) →
    Kept (dot_name_step id p w N s t)
unfolding dot_name_step due
dot_name_kept a id p w N (a_sign n q) = either _ (kept (argument_here (call_open a))) (post_kept a _ _ _ _ _)
dot_name_kept a id p w N t = post_kept a _ _ _ _ t

-- ---- names

target_name_kept : {s : List Entry} → Awaits an_assignment s →
    (p : Position) (w : List ℕ) (N : List Node) (n : ℕ) (q : Position) → Kept (target_name_step p w N s n q)
unfolding target_name_step compound_step stepping_step due
target_name_kept a p w N n q =
    chosen (compound n) _ _ (λ op. kept (compound_value a))
    (chosen (stepping n) _ _ (λ op. kept a) (post_kept (target_open a) _ _ _ _ _))

name_sign_kept : {s : List Entry} → Awaits an_operand s → (p : Position) (w : List ℕ) (N : List Node) (n : ℕ) (q : Position) →
    Kept (name_sign_step p w N s n q)
unfolding name_sign_step
name_sign_kept (target_open a) p w N n q = target_name_kept a p w N n q
name_sign_kept (of_value (for_test a)) p w N n q = post_kept (of_value (for_test a)) _ _ _ _ _
name_sign_kept (of_value a) p w N n q = post_kept (of_value a) _ _ _ _ _

name_kept : {s : List Entry} → Awaits an_operand s → (p : Position) (w : List ℕ) (N : List Node) (t : Lexeme) →
    Kept (name_step p w N s t)
unfolding name_step due
name_kept a p w N (a_sign n q) = either _ (kept (argument_here (call_open a))) (name_sign_kept a p w N n q)
name_kept a p w N t = post_kept a _ _ _ _ t

-- ---- where an operand is due

operand_word_kept : {s : List Entry} → Awaits an_operand s → (n : ℕ) (p : Position) (N : List Node) →
    Kept (operand_word n p N s)
unfolding operand_word due
operand_word_kept a n p N =
    either (n == word_true) (kept a)
    (either (n == word_false) (kept a)
    (either (n == word_null) (kept a) (either (n == word_this) (kept a) (either (n == word_new) (kept a) refused))))

operand_sign_kept : {s : List Entry} → Awaits a_value s → (n : ℕ) (p : Position) (N : List Node) →
    Kept (operand_sign n p N s)
unfolding operand_sign due
operand_sign_kept a n p N =
    either (n == sign_left_parenthesis) (kept (of_value a))
    (either (n == sign_minus) (kept a) (either (n == sign_not || n == sign_tilde) (kept (unary_open a)) refused))

operand_start_kept : {s : List Entry} → Awaits a_value s → (N : List Node) (t : Lexeme) → Kept (operand_start N s t)
unfolding operand_start due
operand_start_kept a N (a_name w p) = kept (of_value a)
operand_start_kept a N (a_word n p) = operand_word_kept (of_value a) n p N
operand_start_kept a N (a_number n p) = either _ refused (kept (of_value a))
operand_start_kept a N (a_text w p) = refused
operand_start_kept a N (a_sign n p) = operand_sign_kept a n p N
operand_start_kept a N (the_end p) = refused

minus_kept : {s : List Entry} → Awaits a_value s → (p : Position) (N : List Node) (t : Lexeme) → Kept (minus_step p N s t)
unfolding minus_step due
minus_kept a p N (a_number n q) = either _ (kept (of_value a)) (operand_start_kept (unary_open a) N (a_number n q))
minus_kept a p N t = operand_start_kept (unary_open a) N t

opened_kept : {s : List Entry} → Awaits an_operand s → (p : Position) (N : List Node) (t : Lexeme) →
    Kept (opened_step p N s t)
unfolding opened_step due
opened_kept a p N (a_name w q) = kept a
opened_kept a p N t = operand_start_kept (group_open a) N t

opened_name_kept : {s : List Entry} → Awaits an_operand s → (p q : Position) (w : List ℕ) (N : List Node) (t : Lexeme) →
    Kept (opened_name_step p q w N s t)
unfolding opened_name_step due
opened_name_kept a p q w N (a_sign n r) = either _ (kept a) (name_kept (of_value (group_open a)) q w N (a_sign n r))
opened_name_kept a p q w N t = name_kept (of_value (group_open a)) q w N t

closed_name_kept : {s : List Entry} → Awaits an_operand s → (p q : Position) (w : List ℕ) (N : List Node) (t : Lexeme) →
    Kept (closed_name_step p q w N s t)
unfolding closed_name_step awaits_target
closed_name_kept (target_open a) p q w N t = never_both (is_unary1_start t) _ _ (post_kept (target_open a) _ _ _ _ _)
closed_name_kept (of_value a) p q w N t =
    either (is_unary1_start t && not (awaits_target _)) (operand_start_kept (cast_open a) N t)
    (post_kept (of_value a) _ _ _ _ _)

new_kept : {s : List Entry} → Awaits an_operand s → (p : Position) (N : List Node) (t : Lexeme) → Kept (new_step p N s t)
unfolding new_step due
new_kept a p N (a_name w q) = kept a
new_kept a p N (a_word n q) = either (n == word_int) (kept a) (either (n == word_boolean) (kept a) refused)
new_kept a p N t = refused

new_name_kept : {s : List Entry} → Awaits an_operand s → (p q : Position) (w : List ℕ) (N : List Node) (t : Lexeme) →
    Kept (new_name_step p q w N s t)
unfolding new_name_step due
new_name_kept a p q w N (a_sign n r) = either (n == sign_left_parenthesis) (kept (argument_here (new_open a)))
    (either (n == sign_left_bracket) (kept (length_open a)) refused)
new_name_kept a p q w N t = refused

new_element_kept : {s : List Entry} → Awaits an_operand s → (p : Position) (e : ℕ) (N : List Node) (t : Lexeme) →
    Kept (new_element_step p e N s t)
unfolding new_element_step due
new_element_kept a p e N (a_sign n r) = either _ (kept (length_open a)) refused
new_element_kept a p e N t = refused

-- ---- arguments

value_of : {s : List Entry} → Awaits an_argument s → Awaits a_value s
value_of (argument_here a) = argument_value a

argument_start_kept : {s : List Entry} → Awaits an_argument s → (N : List Node) (t : Lexeme) →
    Kept (argument_start N s t)
unfolding argument_start due
argument_start_kept a N (a_text w p) = kept a
argument_start_kept a N t = operand_start_kept (value_of a) N t

no_arguments_kept : {s : List Entry} → Awaits an_argument s → (N : List Node) → Kept (no_arguments_step N s)
unfolding no_arguments_step
no_arguments_kept (argument_here a) N = arguments_ended_kept a [] N

argument_first_kept : {s : List Entry} → Awaits an_argument s → (N : List Node) (t : Lexeme) →
    Kept (argument_first_step N s t)
unfolding argument_first_step
argument_first_kept a N (a_sign n p) = either _ (no_arguments_kept a N) (argument_start_kept a N (a_sign n p))
argument_first_kept a N t = argument_start_kept a N t

text_kept : {s : List Entry} → Awaits an_argument s → (id : ℕ) (N : List Node) (t : Lexeme) → Kept (text_step id N s t)
unfolding text_step
text_kept (argument_here a) id N t = argument_ended_kept a id _ N t

-- ---- types

typed_kept : {s : List Entry} → Awaits a_type s → (id : ℕ) (N : List Node) (t : Lexeme) → Kept (typed id N s t)
unfolding typed due
typed_kept (member_open a) id N (a_name w p) = kept a
typed_kept (parameter_open a) id N (a_name w p) = kept a
typed_kept (local_open a) id N (a_name w p) = kept a
typed_kept a id N t = refused

type_end_kept : {s : List Entry} → Awaits a_type s → (p : Position) (e : ElementType) (N : List Node) (t : Lexeme) →
    Kept (type_end_step p e N s t)
unfolding type_end_step due
type_end_kept a p e N (a_sign n q) = either _ (kept a) refused
type_end_kept a p e N t = typed_kept a _ _ t

type_bracket_kept : {s : List Entry} → Awaits a_type s → (p : Position) (e : ElementType) (N : List Node) (t : Lexeme) →
    Kept (type_bracket_step p e N s t)
unfolding type_bracket_step due
type_bracket_kept a p e N (a_sign n q) = either _ (kept a) refused
type_bracket_kept a p e N t = refused

constructor_kept : {s : List Entry} → Awaits a_type s → (p : Position) (w : List ℕ) (q : Position) (N : List Node) →
    Kept (constructor_step p w q N s)
unfolding constructor_step due
constructor_kept (member_open a) p w q N = kept (constructor_open a)
constructor_kept a p w q N = refused

type_name_kept : {s : List Entry} → Awaits a_type s → (p : Position) (w : List ℕ) (N : List Node) (t : Lexeme) →
    Kept (type_name_step p w N s t)
unfolding type_name_step due
type_name_kept a p w N (a_sign n q) =
    either _ (either _ (kept a) refused) (either _ (kept a) (either _ (constructor_kept a p w q N) refused))
type_name_kept a p w N t = typed_kept a _ _ t

type_argument_name_kept : {s : List Entry} → Awaits a_type s → (p : Position) (w : List ℕ) (N : List Node) (t : Lexeme) →
    Kept (type_argument_name_step p w N s t)
unfolding type_argument_name_step due
type_argument_name_kept a p w N (a_name v q) = kept a
type_argument_name_kept a p w N t = refused

type_argument_end_kept : {s : List Entry} → Awaits a_type s →
    (p : Position) (w : List ℕ) (id : ℕ) (N : List Node) (t : Lexeme) → Kept (type_argument_end_step p w id N s t)
unfolding type_argument_end_step due
type_argument_end_kept a p w id N (a_sign n q) = either _ (kept a) refused
type_argument_end_kept a p w id N t = refused

type_start_kept : {s : List Entry} → Awaits a_type s → (N : List Node) (t : Lexeme) → Kept (type_start N s t)
unfolding type_start due
type_start_kept a N (a_name w p) = kept a
type_start_kept a N (a_word n p) = either (n == word_int) (kept a) (either (n == word_boolean) (kept a) refused)
type_start_kept a N t = refused

-- ---- what stands behind annotations and modifiers

member_word_kept : {s : List Entry} → Awaits a_member s → (f : Option ℕ) (n : ℕ) (p : Position) (N : List Node) →
    Kept (member_word f n p N s)
unfolding member_word due
member_word_kept a f n p N =
    either (n == word_void) (kept a) (either (n == word_long) (kept a) (type_start_kept (member_open a) N (a_word n p)))

member_start_kept : {s : List Entry} → Awaits a_member s → (f : Option ℕ) (N : List Node) (t : Lexeme) →
    Kept (member_start f N s t)
unfolding member_start
member_start_kept a f N (a_word n p) = member_word_kept a f n p N
member_start_kept a f N t = type_start_kept (member_open a) N t

class_start_kept : {s : List Entry} → Awaits a_file s → (f : Option ℕ) (N : List Node) (t : Lexeme) →
    Kept (class_start f N s t)
unfolding class_start due
class_start_kept a f N (a_word n p) = either _ (kept a) refused
class_start_kept a f N t = refused

declaration_kept : {s : List Entry} → Awaits flagged_thing s → (f : Option ℕ) (N : List Node) (t : Lexeme) →
    Kept (declaration_start f N s t)
unfolding declaration_start
declaration_kept (flags_of_class file_open) f N t = class_start_kept file_open f N t
declaration_kept (flags_of_member (class_body a)) f N t = member_start_kept (class_body a) f N t
declaration_kept (flags_of_parameter (parameters_open a)) f N t =
    type_start_kept (parameter_open (parameters_open a)) N t
declaration_kept (flags_of_local (simple_open a)) f N t = type_start_kept (local_open (of_simple (simple_open a))) N t

flags_ended_kept : {s : List Entry} → Awaits flagged_thing s → (f : FlagSet) (N : List Node) (t : Lexeme) →
    Kept (flags_ended f N s t)
unfolding flags_ended
flags_ended_kept a f N t = declaration_kept a _ _ t

flags_kept : {s : List Entry} → Awaits flagged_thing s → (l : Bool) (f : FlagSet) (N : List Node) (t : Lexeme) →
    Kept (flags_step l f N s t)
unfolding flags_step due
flags_kept a l f N (a_word w p) = chosen _ _ _ (λ more. kept a) (flags_ended_kept a f N (a_word w p))
flags_kept a l f N (a_sign n p) = either _ (kept (annotation_open a)) (flags_ended_kept a f N (a_sign n p))
flags_kept a l f N t = flags_ended_kept a f N t

-- ---- annotations

scope_named_kept : {s : List Entry} → Awaits flagged_thing s → (l : Bool) (f : FlagSet) (N : List Node) →
    Kept (scope_named l f N s)
unfolding scope_named due
scope_named_kept a l f N = chosen f.scope _ _ (λ id. refused) (kept (scope_open (annotation_open a)))

runs_in_named_kept : {s : List Entry} → Awaits flagged_thing s → (l : Bool) (f : FlagSet) (N : List Node) →
    Kept (runs_in_named l f N s)
unfolding runs_in_named due
runs_in_named_kept a l f N = chosen f.runs_in _ _ (λ id. refused) (kept (runs_in_open (annotation_open a)))

define_scope_named_kept : {s : List Entry} → Awaits flagged_thing s →
    (p : Position) (l : Bool) (f : FlagSet) (N : List Node) → Kept (define_scope_named p l f N s)
unfolding define_scope_named due
define_scope_named_kept a p l f N = chosen f.define_scope _ _ (λ id. refused) (kept (annotation_open a))

annotation_named_kept : {s : List Entry} → Awaits flagged_thing s →
    (p : Position) (w : List ℕ) (l : Bool) (f : FlagSet) (N : List Node) → Kept (annotation_named p w l f N s)
unfolding annotation_named due
annotation_named_kept a p w l f N =
    either (is_effectless w) (kept (annotation_open a))
    (either (is_same w (codes "Scope")) (scope_named_kept a l f N)
    (either (is_same w (codes "RunsIn")) (runs_in_named_kept a l f N)
    (either (is_same w (codes "DefineScope")) (define_scope_named_kept a p l f N) refused)))

at_kept : {s : List Entry} → Awaits an_annotation s → (p : Position) (N : List Node) (t : Lexeme) → Kept (at_step p N s t)
unfolding at_step
at_kept (annotation_open a) p N (a_name w q) = annotation_named_kept a p w _ _ N
at_kept a p N t = refused

plain_ended_kept : {s : List Entry} → Awaits an_annotation s → (N : List Node) → Kept (plain_ended N s)
unfolding plain_ended due
plain_ended_kept (annotation_open a) N = kept a

plain_without_kept : {s : List Entry} → Awaits an_annotation s → (N : List Node) (t : Lexeme) →
    Kept (plain_without N s t)
unfolding plain_without
plain_without_kept (annotation_open a) N t = flags_kept a _ _ N t

plain_open_kept : {s : List Entry} → Awaits an_annotation s → (N : List Node) (t : Lexeme) →
    Kept (plain_open_step N s t)
unfolding plain_open_step due
plain_open_kept a N (a_sign n p) = either _ (kept a) (plain_without_kept a N (a_sign n p))
plain_open_kept a N t = plain_without_kept a N t

pair_ended_kept : {s : List Entry} → Awaits an_annotation s → (N : List Node) (n : ℕ) → Kept (pair_ended N s n)
unfolding pair_ended due
pair_ended_kept a N n =
    either (n == sign_comma) (kept a) (either (n == sign_right_parenthesis) (plain_ended_kept a N) refused)

plain_value_kept : {s : List Entry} → Awaits an_annotation s → (N : List Node) (t : Lexeme) →
    Kept (plain_value_step N s t)
unfolding plain_value_step due
plain_value_kept a N (a_text w p) = kept a
plain_value_kept a N (a_word n p) = either _ (kept a) refused
plain_value_kept a N t = refused

plain_next_kept : {s : List Entry} → Awaits an_annotation s → (N : List Node) (t : Lexeme) →
    Kept (plain_next_step N s t)
unfolding plain_next_step due
plain_next_kept a N (a_name w p) = kept a
plain_next_kept a N t = plain_value_kept a N t

plain_first_kept : {s : List Entry} → Awaits an_annotation s → (N : List Node) (t : Lexeme) →
    Kept (plain_first_step N s t)
unfolding plain_first_step
plain_first_kept a N (a_sign n p) = either _ (plain_ended_kept a N) refused
plain_first_kept a N t = plain_next_kept a N t

plain_path_kept : {s : List Entry} → Awaits an_annotation s → (N : List Node) (t : Lexeme) →
    Kept (plain_path_step N s t)
unfolding plain_path_step due
plain_path_kept a N (a_sign n p) = either _ (kept a) (pair_ended_kept a N n)
plain_path_kept a N t = refused

plain_name_kept : {s : List Entry} → Awaits an_annotation s → (N : List Node) (t : Lexeme) →
    Kept (plain_name_step N s t)
unfolding plain_name_step due
plain_name_kept a N (a_sign n p) = either _ (kept a) (plain_path_kept a N (a_sign n p))
plain_name_kept a N t = refused

plain_assigned_kept : {s : List Entry} → Awaits an_annotation s → (N : List Node) (t : Lexeme) →
    Kept (plain_assigned_step N s t)
unfolding plain_assigned_step due
plain_assigned_kept a N (a_name w p) = kept a
plain_assigned_kept a N t = plain_value_kept a N t

plain_dot_kept : {s : List Entry} → Awaits an_annotation s → (N : List Node) (t : Lexeme) → Kept (plain_dot_step N s t)
unfolding plain_dot_step due
plain_dot_kept a N (a_name w p) = kept a
plain_dot_kept a N t = refused

plain_end_kept : {s : List Entry} → Awaits an_annotation s → (N : List Node) (t : Lexeme) → Kept (plain_end_step N s t)
unfolding plain_end_step
plain_end_kept a N (a_sign n p) = pair_ended_kept a N n
plain_end_kept a N t = refused

-- ---- scopes' names

valued_kept : {s : List Entry} → Awaits a_scope s → (id : ℕ) (N : List Node) (n : ℕ) → Kept (valued id N s n)
unfolding valued due
valued_kept (scope_open (annotation_open a)) id N n = either _ (kept a) refused
valued_kept (runs_in_open (annotation_open a)) id N n = either _ (kept a) refused
valued_kept (define_first a) id N n = either _ (kept a) refused
valued_kept (define_second (annotation_open a)) id N n = either _ (kept a) refused

value_end_kept : {s : List Entry} → Awaits a_scope s → (id : ℕ) (N : List Node) (t : Lexeme) →
    Kept (value_end_step id N s t)
unfolding value_end_step
value_end_kept a id N (a_sign n p) = valued_kept a id N n
value_end_kept a id N t = refused

value_open_kept : {s : List Entry} → Awaits a_scope s → (N : List Node) (t : Lexeme) → Kept (value_open_step N s t)
unfolding value_open_step due
value_open_kept a N (a_sign n p) = either _ (kept a) refused
value_open_kept a N t = refused

value_start_kept : {s : List Entry} → Awaits a_scope s → (N : List Node) (t : Lexeme) → Kept (value_start_step N s t)
unfolding value_start_step due
value_start_kept a N (a_text w p) = either _ (kept a) refused
value_start_kept a N (a_name w p) = either _ (kept a) (kept a)
value_start_kept a N t = refused

value_scope_kept : {s : List Entry} → Awaits a_scope s → (p : Position) (N : List Node) (t : Lexeme) →
    Kept (value_scope_step p N s t)
unfolding value_scope_step due
value_scope_kept a p N (a_sign n q) = either _ (kept a) (valued_kept a _ _ n)
value_scope_kept a p N t = refused

value_dot_kept : {s : List Entry} → Awaits a_scope s → (p : Position) (N : List Node) (t : Lexeme) →
    Kept (value_dot_step p N s t)
unfolding value_dot_step due
value_dot_kept a p N (a_name w q) = kept a
value_dot_kept a p N t = refused

define_open_kept : {s : List Entry} → Awaits an_annotation s → (p : Position) (N : List Node) (t : Lexeme) →
    Kept (define_open_step p N s t)
unfolding define_open_step due
define_open_kept a p N (a_sign n q) = either _ (kept a) refused
define_open_kept a p N t = refused

define_name_kept : {s : List Entry} → Awaits an_annotation s → (p : Position) (N : List Node) (t : Lexeme) →
    Kept (define_name_step p N s t)
unfolding define_name_step due
define_name_kept a p N (a_name w q) =
    either (is_same w (codes "name")) (kept a) (either (is_same w (codes "parent")) (kept a) refused)
define_name_kept a p N t = refused

define_assign_kept : {s : List Entry} → Awaits an_annotation s → (p : Position) (b : Bool) (N : List Node) (t : Lexeme) →
    Kept (define_assign_step p b N s t)
unfolding define_assign_step due
define_assign_kept a p b N (a_sign n q) = either _ (kept (define_first a)) refused
define_assign_kept a p b N t = refused

define_other_kept : {s : List Entry} → Awaits an_annotation s →
    (p : Position) (b : Bool) (id : ℕ) (N : List Node) (t : Lexeme) → Kept (define_other_step p b id N s t)
unfolding define_other_step due
define_other_kept a p b id N (a_name w q) = either _ (kept a) refused
define_other_kept a p b id N t = refused

define_other_assign_kept : {s : List Entry} → Awaits an_annotation s →
    (p : Position) (b : Bool) (id : ℕ) (N : List Node) (t : Lexeme) → Kept (define_other_assign_step p b id N s t)
unfolding define_other_assign_step due
define_other_assign_kept a p b id N (a_sign n q) = either _ (kept (define_second a)) refused
define_other_assign_kept a p b id N t = refused

-- ---- statements

target_start_kept : {s : List Entry} → Awaits an_assignment s → (N : List Node) (t : Lexeme) → Kept (target_start N s t)
unfolding target_start operand_start due
target_start_kept a N (a_sign n p) = either _ (kept (target_open a)) refused
target_start_kept a N (a_name w p) = kept (target_open a)
target_start_kept a N (a_word n p) = operand_word_kept (target_open a) n p N
target_start_kept a N (a_number n p) = either _ refused (kept (target_open a))
target_start_kept a N (a_text w p) = refused
target_start_kept a N (the_end p) = refused

first_start_kept : {s : List Entry} → Awaits a_first s → (N : List Node) (t : Lexeme) → Kept (first_start N s t)
unfolding first_start due
first_start_kept a N (a_name w p) = kept a
first_start_kept a N (a_word n p) =
    either (n == word_int) (kept (local_open a))
    (either (n == word_boolean) (kept (local_open a)) (target_start_kept (of_first a) N (a_word n p)))
first_start_kept a N t = target_start_kept (of_first a) N t

name_first_kept : {s : List Entry} → Awaits a_first s → (p : Position) (w : List ℕ) (N : List Node) (t : Lexeme) →
    Kept (name_first_step p w N s t)
unfolding name_first_step due
name_first_kept a p w N (a_name v q) = typed_kept (local_open a) _ _ _
name_first_kept a p w N (a_sign n q) =
    either (n == sign_less) (either (has_type_argument w) (kept (local_open a)) refused)
    (either (n == sign_left_bracket) (kept a) (name_kept (target_open (of_first a)) p w N (a_sign n q)))
name_first_kept a p w N t = refused

name_bracket_kept : {s : List Entry} → Awaits a_first s →
    (p : Position) (w : List ℕ) (b : Position) (N : List Node) (t : Lexeme) → Kept (name_bracket_step p w b N s t)
unfolding name_bracket_step due
name_bracket_kept a p w b N (a_sign n q) =
    either _ (kept (local_open a)) (operand_start_kept (index_open (target_open (of_first a))) _ (a_sign n q))
name_bracket_kept a p w b N t = operand_start_kept (index_open (target_open (of_first a))) _ t

local_ended_kept : {s : List Entry} → Awaits a_first s →
    (f : Option ℕ) (id : ℕ) (p : Position) (w : List ℕ) (N : List Node) → Kept (local_ended f id p w N s)
unfolding local_ended due
local_ended_kept (of_simple (simple_open a)) f id p w N = kept a
local_ended_kept (for_head a) f id p w N = refused

local_named_kept : {s : List Entry} → Awaits a_first s → (f : Option ℕ) (id : ℕ) (p : Position) (w : List ℕ) (N : List Node)
    (t : Lexeme) → Kept (local_named_step f id p w N s t)
unfolding local_named_step due
local_named_kept a f id p w N (a_sign n q) =
    either _ (kept (local_value a)) (either _ (local_ended_kept a f id p w N) refused)
local_named_kept a f id p w N t = refused

test_open_kept : (m : Mode) (e : Entry) {s : List Entry} → Awaits (due m) (e ∷ s) → (N : List Node) (t : Lexeme) →
    Kept (test_open_step m e N s t)
unfolding test_open_step
test_open_kept m e a N (a_sign n q) = either _ (kept a) refused
test_open_kept m e a N t = refused

return_kept : {s : List Entry} → Awaits a_statement s → (p : Position) (N : List Node) (t : Lexeme) →
    Kept (return_step p N s t)
unfolding return_step due
return_kept a p N (a_sign n q) = either _ (kept a) (operand_start_kept (return_open a) N (a_sign n q))
return_kept a p N t = operand_start_kept (return_open a) N t

statement_word_kept : {s : List Entry} → Awaits a_statement s → (n : ℕ) (p : Position) (N : List Node) →
    Kept (statement_word n p N s)
unfolding statement_word due
statement_word_kept a n p N =
    either (n == word_if) (kept a)
    (either (n == word_while) (kept a)
    (either (n == word_for) (kept a)
    (either (n == word_return) (kept a)
    (either (n == word_final) (flags_kept (flags_of_local (simple_open a)) _ _ N (a_word n p))
    (first_start_kept (of_simple (simple_open a)) N (a_word n p))))))

statement_sign_kept : {s : List Entry} → Awaits a_statement s → (n : ℕ) (p : Position) (N : List Node) →
    Kept (statement_sign n p N s)
unfolding statement_sign due
statement_sign_kept a n p N =
    either (n == sign_left_brace) (kept (block_open a))
    (either (n == sign_semicolon) (kept a)
    (either (n == sign_at) (flags_kept (flags_of_local (simple_open a)) _ _ N (a_sign n p))
    (first_start_kept (of_simple (simple_open a)) N (a_sign n p))))

statement_start_kept : {s : List Entry} → Awaits a_statement s → (N : List Node) (t : Lexeme) →
    Kept (statement_start N s t)
unfolding statement_start
statement_start_kept a N (a_word n p) = statement_word_kept a n p N
statement_start_kept a N (a_sign n p) = statement_sign_kept a n p N
statement_start_kept a N t = first_start_kept (of_simple (simple_open a)) N t

block_ended_kept : {s : List Entry} → Awaits a_statement_of_block s → (N : List Node) → Kept (block_ended N s)
unfolding block_ended due
block_ended_kept (block_open a) N = kept a

statements_kept : {s : List Entry} → Awaits a_statement_of_block s → (N : List Node) (t : Lexeme) →
    Kept (statements_step N s t)
unfolding statements_step
statements_kept a N (a_sign n p) = either _ (block_ended_kept a N) (statement_start_kept (of_block a) N (a_sign n p))
statements_kept a N t = statement_start_kept (of_block a) N t

-- ---- members

member_read_kept : {s : List Entry} → Awaits a_member s → (id : ℕ) (N : List Node) → Kept (member_read id N s)
unfolding member_read due
member_read_kept (class_body a) id N = kept (class_body a)

member_named_kept : {s : List Entry} → Awaits a_member s →
    (f : Option ℕ) (id : ℕ) (p : Position) (w : List ℕ) (N : List Node) (t : Lexeme) →
    Kept (member_named_step f id p w N s t)
unfolding member_named_step due
member_named_kept a f id p w N (a_sign n q) =
    either (n == sign_semicolon) (member_read_kept a _ _)
    (either (n == sign_assign) (kept (field_open a))
    (either (n == sign_left_parenthesis) (kept (method_open a)) refused))
member_named_kept a f id p w N t = refused

literal_word_kept : {s : List Entry} → Awaits a_literal s → (n : ℕ) (p : Position) (N : List Node) →
    Kept (literal_word n p N s)
unfolding literal_word due
literal_word_kept a n p N =
    either (n == word_true) (kept a) (either (n == word_false) (kept a) (either (n == word_null) (kept a) refused))

literal_kept : {s : List Entry} → Awaits a_literal s → (N : List Node) (t : Lexeme) → Kept (literal_step N s t)
unfolding literal_step due
literal_kept a N (a_word n p) = literal_word_kept a n p N
literal_kept a N (a_number n p) = either _ refused (kept a)
literal_kept a N (a_sign n p) = either _ (kept a) refused
literal_kept a N t = refused

literal_minus_kept : {s : List Entry} → Awaits a_literal s → (p : Position) (N : List Node) (t : Lexeme) →
    Kept (literal_minus_step p N s t)
unfolding literal_minus_step due
literal_minus_kept a p N (a_number n q) = kept a
literal_minus_kept a p N t = refused

field_ended_kept : {s : List Entry} → Awaits a_literal s → (id : ℕ) (N : List Node) → Kept (field_ended id N s)
unfolding field_ended
field_ended_kept (field_open a) id N = member_read_kept a _ _

literal_end_kept : {s : List Entry} → Awaits a_literal s → (id : ℕ) (N : List Node) (t : Lexeme) →
    Kept (literal_end_step id N s t)
unfolding literal_end_step
literal_end_kept a id N (a_sign n p) = either _ (field_ended_kept a id N) refused
literal_end_kept a id N t = refused

result_kept : {s : List Entry} → Awaits a_member s → (f : Option ℕ) (id : ℕ) (N : List Node) (t : Lexeme) →
    Kept (result_step f id N s t)
unfolding result_step due
result_kept a f id N (a_name w p) = kept a
result_kept a f id N t = refused

method_named_kept : {s : List Entry} → Awaits a_member s →
    (f : Option ℕ) (id : ℕ) (p : Position) (w : List ℕ) (N : List Node) (t : Lexeme) →
    Kept (method_named_step f id p w N s t)
unfolding method_named_step due
method_named_kept a f id p w N (a_sign n q) = either _ (kept (method_open a)) refused
method_named_kept a f id p w N t = refused

parameters_first_kept : {s : List Entry} → Awaits a_body_owner s → (p : Position) (N : List Node) (t : Lexeme) →
    Kept (parameters_first_step p N s t)
unfolding parameters_first_step due
parameters_first_kept a p N (a_sign n q) =
    either _ (kept a) (flags_kept (flags_of_parameter (parameters_open a)) _ _ N (a_sign n q))
parameters_first_kept a p N t = flags_kept (flags_of_parameter (parameters_open a)) _ _ N t

parameter_ended_kept : {s : List Entry} → Awaits a_parameter s → (id : ℕ) (N : List Node) (n : ℕ) →
    Kept (parameter_ended id N s n)
unfolding parameter_ended due
parameter_ended_kept (parameters_open a) id N n =
    either (n == sign_comma) (kept (flags_of_parameter (parameters_open a)))
    (either (n == sign_right_parenthesis) (kept a) refused)

parameter_end_kept : {s : List Entry} → Awaits a_parameter s → (id : ℕ) (N : List Node) (t : Lexeme) →
    Kept (parameter_end_step id N s t)
unfolding parameter_end_step
parameter_end_kept a id N (a_sign n q) = parameter_ended_kept a id N n
parameter_end_kept a id N t = refused

body_kept : {s : List Entry} → Awaits a_body_owner s → (ps : Option ℕ) (N : List Node) (n : ℕ) (q : Position) →
    Kept (body_step ps N s n q)
unfolding body_step due
body_kept (method_open a) ps N n q =
    either (n == sign_left_brace) (kept (block_open (method_body a)))
    (either (n == sign_semicolon) (member_read_kept a _ _) refused)
body_kept (constructor_open a) ps N n q = either _ (kept (constructor_body a)) refused

parameters_end_kept : {s : List Entry} → Awaits a_body_owner s → (ps : Option ℕ) (N : List Node) (t : Lexeme) →
    Kept (parameters_end_step ps N s t)
unfolding parameters_end_step
parameters_end_kept a ps N (a_sign n q) = body_kept a ps N n q
parameters_end_kept a ps N t = refused

constructor_start_kept : {s : List Entry} → Awaits a_constructor_body s → (b : Position) (N : List Node) (t : Lexeme) →
    Kept (constructor_start_step b N s t)
unfolding constructor_start_step due
constructor_start_kept a b N (a_word n p) =
    either _ (kept a) (statements_kept (block_open (of_constructor a)) N (a_word n p))
constructor_start_kept a b N t = statements_kept (block_open (of_constructor a)) N t

super_open_kept : {s : List Entry} → Awaits a_constructor_body s → (b p : Position) (N : List Node) (t : Lexeme) →
    Kept (super_open_step b p N s t)
unfolding super_open_step due
super_open_kept a b p N (a_sign n q) = either _ (kept (argument_here (super_call_open a))) refused
super_open_kept a b p N t = refused

super_end_kept : {s : List Entry} → Awaits a_constructor_body s → (b : Position) (N : List Node) (t : Lexeme) →
    Kept (super_end_step b N s t)
unfolding super_end_step due
super_end_kept a b N (a_sign n q) = either _ (kept (block_open (of_constructor a))) refused
super_end_kept a b N t = refused

class_ended_kept : {s : List Entry} → Awaits a_member s → (N : List Node) → Kept (class_ended N s)
unfolding class_ended due
class_ended_kept (class_body file_open) N = kept file_open

members_kept : {s : List Entry} → Awaits a_member s → (N : List Node) (t : Lexeme) → Kept (members_step N s t)
unfolding members_step
members_kept a N (a_sign n p) = either _ (class_ended_kept a N) (flags_kept (flags_of_member a) _ _ N (a_sign n p))
members_kept a N t = flags_kept (flags_of_member a) _ _ N t

member_ended_kept : {s : List Entry} → Awaits a_member s → (id : ℕ) (N : List Node) (t : Lexeme) →
    Kept (member_ended id N s t)
unfolding member_ended
member_ended_kept (class_body a) id N t = members_kept (class_body a) N t

statement_ended_kept : {s : List Entry} → Awaits a_statement s → (id : ℕ) (N : List Node) (t : Lexeme) →
    Kept (statement_ended id N s t)
unfolding statement_ended due
statement_ended_kept (of_block (block_open a)) id N t = statements_kept (block_open a) N t
statement_ended_kept (if_then a) id N t = either _ (kept (if_other a)) (statement_ended_kept a _ _ t)
statement_ended_kept (if_other a) id N t = statement_ended_kept a _ _ t
statement_ended_kept (while_body a) id N t = statement_ended_kept a _ _ t
statement_ended_kept (for_body a) id N t = statement_ended_kept a _ _ t
statement_ended_kept (method_body a) id N t = member_ended_kept a _ _ t
statement_ended_kept (of_constructor (constructor_body a)) id N t = member_ended_kept a _ _ t

-- ---- files

package_name_kept : {s : List Entry} → Awaits a_file s → (N : List Node) (t : Lexeme) → Kept (package_name_step N s t)
unfolding package_name_step due
package_name_kept a N (a_name w p) = kept a
package_name_kept a N t = refused

package_end_kept : {s : List Entry} → Awaits a_file s → (N : List Node) (t : Lexeme) → Kept (package_end_step N s t)
unfolding package_end_step due
package_end_kept a N (a_sign n p) = either (n == sign_dot) (kept a) (either (n == sign_semicolon) (kept a) refused)
package_end_kept a N t = refused

import_name_kept : {s : List Entry} → Awaits a_file s → (N : List Node) (t : Lexeme) → Kept (import_name_step N s t)
unfolding import_name_step due
import_name_kept a N (a_name w p) = kept a
import_name_kept a N t = refused

import_start_kept : {s : List Entry} → Awaits a_file s → (N : List Node) (t : Lexeme) → Kept (import_start_step N s t)
unfolding import_start_step due
import_start_kept a N (a_word n p) = either _ (kept a) refused
import_start_kept a N t = import_name_kept a N t

import_dot_kept : {s : List Entry} → Awaits a_file s → (N : List Node) (t : Lexeme) → Kept (import_dot_step N s t)
unfolding import_dot_step due
import_dot_kept a N (a_sign n p) = either _ (kept a) refused
import_dot_kept a N t = import_name_kept a N t

import_end_kept : {s : List Entry} → Awaits a_file s → (N : List Node) (t : Lexeme) → Kept (import_end_step N s t)
unfolding import_end_step due
import_end_kept a N (a_sign n p) = either (n == sign_dot) (kept a) (either (n == sign_semicolon) (kept a) refused)
import_end_kept a N t = refused

import_star_kept : {s : List Entry} → Awaits a_file s → (N : List Node) (t : Lexeme) → Kept (import_star_step N s t)
unfolding import_star_step due
import_star_kept a N (a_sign n p) = either _ (kept a) refused
import_star_kept a N t = refused

classes_kept : {s : List Entry} → Awaits a_file s → (N : List Node) (t : Lexeme) → Kept (classes_step N s t)
unfolding classes_step due
classes_kept a N (the_end p) = kept a
classes_kept a N t = flags_kept (flags_of_class a) _ _ N t

imports_kept : {s : List Entry} → Awaits a_file s → (N : List Node) (t : Lexeme) → Kept (imports_step N s t)
unfolding imports_step due
imports_kept a N (a_word n p) = either _ (kept a) (classes_kept a N (a_word n p))
imports_kept a N t = classes_kept a N t

file_start_kept : {s : List Entry} → Awaits a_file s → (N : List Node) (t : Lexeme) → Kept (file_start_step N s t)
unfolding file_start_step due
file_start_kept a N (a_word n p) = either _ (kept a) (imports_kept a N (a_word n p))
file_start_kept a N t = imports_kept a N t

class_name_kept : {s : List Entry} → Awaits a_file s → (f : Option ℕ) (N : List Node) (t : Lexeme) →
    Kept (class_name_step f N s t)
unfolding class_name_step due
class_name_kept a f N (a_name w p) = kept (class_open a)
class_name_kept a f N t = refused

class_opened_kept : {s : List Entry} → Awaits a_head s → (h : Option ℕ) (N : List Node) → Kept (class_opened h N s)
unfolding class_opened due
class_opened_kept (class_open a) h N = kept (class_body a)

class_named_kept : {s : List Entry} → Awaits a_head s → (N : List Node) (t : Lexeme) → Kept (class_named_step N s t)
unfolding class_named_step due
class_named_kept a N (a_word n p) =
    either (n == word_extends) (kept (supers_open true a))
    (either (n == word_implements) (kept (supers_open false a)) refused)
class_named_kept a N (a_sign n p) = either _ (class_opened_kept a None N) refused
class_named_kept a N t = refused

super_name_kept : {s : List Entry} → Awaits a_super s → (N : List Node) (t : Lexeme) → Kept (super_name_step N s t)
unfolding super_name_step due
super_name_kept a N (a_name w p) = kept a
super_name_kept a N t = refused

super_ended_kept : {s : List Entry} → Awaits a_super s → (id : ℕ) (N : List Node) (t : Lexeme) →
    Kept (super_ended id N s t)
unfolding super_ended superclass_sign interface_sign due
super_ended_kept (supers_open true a) id N (a_word n q) = either _ (kept (supers_open false a)) refused
super_ended_kept (supers_open true a) id N (a_sign n q) =
    either (n == sign_left_brace) (class_opened_kept a _ _) refused
super_ended_kept (supers_open false a) id N (a_sign n q) =
    either (n == sign_comma) (kept (supers_open false a))
    (either (n == sign_left_brace) (class_opened_kept a _ _) refused)
super_ended_kept a id N t = refused

super_named_kept : {s : List Entry} → Awaits a_super s → (p : Position) (w : List ℕ) (N : List Node) (t : Lexeme) →
    Kept (super_named_step p w N s t)
unfolding super_named_step due
super_named_kept a p w N (a_sign n q) = either _ (either _ (kept a) refused) (super_ended_kept a _ _ _)
super_named_kept a p w N t = super_ended_kept a _ _ t

super_argument_name_kept : {s : List Entry} → Awaits a_super s → (p : Position) (w : List ℕ) (N : List Node) (t : Lexeme) →
    Kept (super_argument_name_step p w N s t)
unfolding super_argument_name_step due
super_argument_name_kept a p w N (a_name v q) = kept a
super_argument_name_kept a p w N t = refused

super_argument_end_kept : {s : List Entry} → Awaits a_super s →
    (p : Position) (w : List ℕ) (id : ℕ) (N : List Node) (t : Lexeme) → Kept (super_argument_end_step p w id N s t)
unfolding super_argument_end_step due
super_argument_end_kept a p w id N (a_sign n q) = either _ (kept a) refused
super_argument_end_kept a p w id N t = refused

-- ---- all steps

step_mode_kept : (m : Mode) {s : List Entry} → Awaits (due m) s → (N : List Node) (t : Lexeme) →
    Kept (step_mode m N s t)
unfolding step_mode due
step_mode_kept FileStart a N t = file_start_kept a N t
step_mode_kept PackageName a N t = package_name_kept a N t
step_mode_kept PackageEnd a N t = package_end_kept a N t
step_mode_kept InImports a N t = imports_kept a N t
step_mode_kept ImportStart a N t = import_start_kept a N t
step_mode_kept ImportName a N t = import_name_kept a N t
step_mode_kept ImportDot a N t = import_dot_kept a N t
step_mode_kept ImportEnd a N t = import_end_kept a N t
step_mode_kept ImportStar a N t = import_star_kept a N t
step_mode_kept InClasses a N t = classes_kept a N t
step_mode_kept Finished a N t = refused
step_mode_kept (FlagsRead is_local flags) a N t = flags_kept a is_local flags N t
step_mode_kept (At p) a N t = at_kept a p N t
step_mode_kept PlainOpen a N t = plain_open_kept a N t
step_mode_kept PlainFirst a N t = plain_first_kept a N t
step_mode_kept PlainNext a N t = plain_next_kept a N t
step_mode_kept PlainName a N t = plain_name_kept a N t
step_mode_kept PlainAssigned a N t = plain_assigned_kept a N t
step_mode_kept PlainPath a N t = plain_path_kept a N t
step_mode_kept PlainDot a N t = plain_dot_kept a N t
step_mode_kept PlainEnd a N t = plain_end_kept a N t
step_mode_kept ValueOpen a N t = value_open_kept a N t
step_mode_kept ValueStart a N t = value_start_kept a N t
step_mode_kept (ValueScope p) a N t = value_scope_kept a p N t
step_mode_kept (ValueDot p) a N t = value_dot_kept a p N t
step_mode_kept (ValueRead id) a N t = value_end_kept a id N t
step_mode_kept (DefineOpen p) a N t = define_open_kept a p N t
step_mode_kept (DefineName p) a N t = define_name_kept a p N t
step_mode_kept (DefineAssign p b) a N t = define_assign_kept a p b N t
step_mode_kept (DefineOther p b id) a N t = define_other_kept a p b id N t
step_mode_kept (DefineOtherAssign p b id) a N t = define_other_assign_kept a p b id N t
step_mode_kept (ClassName flags) a N t = class_name_kept a flags N t
step_mode_kept ClassNamed a N t = class_named_kept a N t
step_mode_kept SuperName a N t = super_name_kept a N t
step_mode_kept (SuperNamed p w) a N t = super_named_kept a p w N t
step_mode_kept (SuperArgumentName p w) a N t = super_argument_name_kept a p w N t
step_mode_kept (SuperArgumentEnd p w id) a N t = super_argument_end_kept a p w id N t
step_mode_kept (SuperDone id) a N t = super_ended_kept a id N t
step_mode_kept InMembers a N t = members_kept a N t
step_mode_kept (TypeName p w) a N t = type_name_kept a p w N t
step_mode_kept (TypeArgumentName p w) a N t = type_argument_name_kept a p w N t
step_mode_kept (TypeArgumentEnd p w id) a N t = type_argument_end_kept a p w id N t
step_mode_kept (TypeEnd p e) a N t = type_end_kept a p e N t
step_mode_kept (TypeBracket p e) a N t = type_bracket_kept a p e N t
step_mode_kept (TypeDone id) a N t = typed_kept a id N t
step_mode_kept (MemberNamed flags id p w) a N t = member_named_kept a flags id p w N t
step_mode_kept (ResultDone flags id) a N t = result_kept a flags id N t
step_mode_kept (MethodNamed flags id p w) a N t = method_named_kept a flags id p w N t
step_mode_kept LiteralStart a N t = literal_kept a N t
step_mode_kept (LiteralMinus p) a N t = literal_minus_kept a p N t
step_mode_kept (LiteralDone id) a N t = literal_end_kept a id N t
step_mode_kept (ParametersFirst p) a N t = parameters_first_kept a p N t
step_mode_kept (ParameterDone id) a N t = parameter_end_kept a id N t
step_mode_kept (ParametersDone ps) a N t = parameters_end_kept a ps N t
step_mode_kept (ConstructorStart b) a N t = constructor_start_kept a b N t
step_mode_kept (SuperOpen b p) a N t = super_open_kept a b p N t
step_mode_kept (SuperEnd b) a N t = super_end_kept a b N t
step_mode_kept InStatements a N t = statements_kept a N t
step_mode_kept StatementStart a N t = statement_start_kept a N t
step_mode_kept (StatementEnd id) a N t = statement_ended_kept a id N t
step_mode_kept (IfOpen p) a N t = test_open_kept Operand (IfTest p) (if_test a) N t
step_mode_kept (WhileOpen p) a N t = test_open_kept Operand (WhileTest p) (while_test a) N t
step_mode_kept (ForOpen p) a N t = test_open_kept ForFirst (ForHead p) (for_head a) N t
step_mode_kept ForFirst a N t = first_start_kept a N t
step_mode_kept ForStepStart a N t = target_start_kept a N t
step_mode_kept (ReturnStart p) a N t = return_kept a p N t
step_mode_kept (NameFirst p w) a N t = name_first_kept a p w N t
step_mode_kept (NameBracket p w b) a N t = name_bracket_kept a p w b N t
step_mode_kept (LocalNamed flags id p w) a N t = local_named_kept a flags id p w N t
step_mode_kept (Assigned id) a N t = assigned_kept a id N t
step_mode_kept Operand a N t = operand_start_kept a N t
step_mode_kept (NameRead p w) a N t = name_kept a p w N t
step_mode_kept (Opened p) a N t = opened_kept a p N t
step_mode_kept (OpenedName p q w) a N t = opened_name_kept a p q w N t
step_mode_kept (ClosedName p q w) a N t = closed_name_kept a p q w N t
step_mode_kept (Minus p) a N t = minus_kept a p N t
step_mode_kept (NewStart p) a N t = new_kept a p N t
step_mode_kept (NewName p q w) a N t = new_name_kept a p q w N t
step_mode_kept (NewElement p e) a N t = new_element_kept a p e N t
step_mode_kept (PostDone kind p id) a N t = post_kept a kind p id N t
step_mode_kept (Dot id) a N t = dot_kept a id N t
step_mode_kept (DotName id p w) a N t = dot_name_kept a id p w N t
step_mode_kept ArgumentFirst a N t = argument_first_kept a N t
step_mode_kept ArgumentNext a N t = argument_start_kept a N t
step_mode_kept (TextRead id) a N t = text_kept a id N t

step_kept : {st : State} → Kept (Some st) → (t : Lexeme) → Kept (step st t)
unfolding step
step_kept (kept {m = m} {N = N} a) t = step_mode_kept m a N t

-- ---- runs

going_on : Option State → List Lexeme → Option State
going_on r i = elim r [ Some last ↦ run last i | None ↦ None ]

going_on_kept : (r : Option State) (i : List Lexeme) → Kept r →
    ((last : State) → Kept (Some last) → Kept (run last i)) → Kept (going_on r i)
unfolding going_on
going_on_kept None i k f = refused
going_on_kept (Some last) i k f = f last k

pub run_kept : (i : List Lexeme) (st : State) → Kept (Some st) → Kept (run st i)
unfolding run going_on
run_kept [] st k = k
run_kept (t ∷ i) st k = going_on_kept (step st t) i (step_kept k t) (λ last h. run_kept i last h)

pub start_kept : (N : List Node) → Kept (Some (start N))
unfolding due
start_kept N = kept file_open
