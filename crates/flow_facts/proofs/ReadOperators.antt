-- The operators in a program that is read from texts are those of the grammar (JLS 3.12, 15).
use Rattle.std.specs.Prelude.{List, ℕ}
use Rattle.std.proofs.Common.{refl, Option, Some, None, Bool, true, false, if◌then◌else◌}
use Rattle.scj_base.specs.declared.positions.Position.{Position}
use Rattle.scj_tree.specs.declared.nodes.Node.{Node}
use Rattle.scj_tree.specs.declared.parsed_parts.FlagSet.{FlagSet}
use Rattle.scj_tree.specs.declared.parsed_parts.PostKind.{PostKind}
use Rattle.scj_tree.specs.Forest.{Forest}
use Rattle.scj_tree.specs.Lexemes.{Lexeme}
use Rattle.scj_tree.specs.Nodes.{put}
use Rattle.scj_tree.specs.Terminals.{has_effect, flags_at, flags_node, with_flags}
use Rattle.scj_tree.specs.Headers.{ScopeValue, quoted_scope, bare_scope, qualified_scope, FlagRow, no_flag, modifier, effectless, scope_flag, runs_in_flag, define_scope_flag, define_scope_flag_parent_first, TypeRead, int_type, int_array, boolean_type, boolean_array, class_type, class_array, argument_type, argument_array, ResultRead, typed_result, void_result, long_result, ParameterRead, parameter, ParametersBegun, no_parameter_yet, parameter_and_comma, ParametersRead, no_parameters, parameters, SuperRead, super_type, super_type_with_argument, InterfacesBegun, no_interface_yet, interface_and_comma, HeaderRead, no_header, extends_header, implements_header, extends_implements_header}
use Rattle.scj_tree.specs.Expressions.{ArgumentRead, ArgumentsBegun, ArgumentsRead, Level, PostRead, Unary1Read, UnaryRead, argument_and_comma, arguments, binary, call_of, cast, complement, element_of, expression_argument, false_value, field_of, minimum_number, minimum_unary, minus, negation, new_booleans, new_ints, new_object, new_references, no_argument_yet, no_arguments, null_value, number, operand, parenthesized, parenthesized_name, plain_unary, post_unary, simple_call, simple_name, text_argument, this_value, tighter, true_value}
use Rattle.scj_tree.specs.Statements.{AssignmentRead, assignment, compound_assignment, step_assignment, LocalTypeRead, plain_local, flagged_local, StatementRead, block, empty, local, local_with_value, assign_statement, call_statement, if_alone, if_else, while_statement, for_local, for_assignment, return_alone, return_value, StatementsRead, no_statement, one_statement_more}
use Rattle.scj_tree.specs.Grammar.{LiteralRead, number_literal, negative_literal, true_literal, false_literal, null_literal, MemberRead, field, field_with_value, bare_method, method, constructor, constructor_with_super, MembersRead, no_member, one_member_more, ClassRead, class, ClassesRead, no_class, one_class_more, Tree, file, file_of_package}
use Rattle.scj_rules.specs.CheckedProgram.{IsReadFromTexts}
use Rattle.scj_rules.specs.Syntax.{FilesRead, no_file, next_file}
use Rattle.flow_facts.proofs.RightOperators.{has_right_operator, OperatorsRight, put_right, compound_binary, stepping_binary}

-- ---- annotations, types and heads of classes have no operators

scope_right : {N N1 : List Node} {i o : List Lexeme} {id : ℕ} → ScopeValue N i N1 o id → OperatorsRight N →
    OperatorsRight N1
unfolding has_right_operator
scope_right (quoted_scope e) w = put_right _ _ w refl
scope_right bare_scope w = put_right _ _ w refl
scope_right qualified_scope w = put_right _ _ w refl

row_right : {is_local : Bool} {N N1 : List Node} {i o : List Lexeme} {flags : FlagSet} →
    FlagRow is_local N i N1 o flags → OperatorsRight N → OperatorsRight N1
unfolding has_right_operator
row_right no_flag w = w
row_right (modifier d e) w = row_right d w
row_right (effectless d e a) w = row_right d w
row_right (scope_flag d e s) w = scope_right s (row_right d w)
row_right (runs_in_flag d e s) w = scope_right s (row_right d w)
row_right (define_scope_flag d e s r) w = put_right _ _ (scope_right r (scope_right s (row_right d w))) refl
row_right (define_scope_flag_parent_first d e s r) w =
    put_right _ _ (scope_right r (scope_right s (row_right d w))) refl

flags_right : (N : List Node) (flags : FlagSet) → OperatorsRight N → OperatorsRight (with_flags N flags)
unfolding with_flags flags_node flags_at has_right_operator
flags_right N flags w = go (has_effect flags) flags.position
  where
    go : (t : Bool) (o : Option Position) →
        OperatorsRight
        (elim (if t then (elim o as (λ _. Option Node) [ None ↦ None | Some p ↦ Some (flags_at p flags) ]) else None) as
        (λ _. List Node) [ None ↦ N | Some node ↦ put N node ])
    go true (Some p) = put_right N (flags_at p flags) w refl
    go true None = w
    go false o = w

type_right : {N N1 : List Node} {i o : List Lexeme} {id : ℕ} → TypeRead N i N1 o id → OperatorsRight N →
    OperatorsRight N1
unfolding has_right_operator
type_right int_type w = put_right _ _ w refl
type_right int_array w = put_right _ _ w refl
type_right boolean_type w = put_right _ _ w refl
type_right boolean_array w = put_right _ _ w refl
type_right class_type w = put_right _ _ w refl
type_right class_array w = put_right _ _ w refl
type_right (argument_type e) w = put_right _ _ (put_right _ _ w refl) refl
type_right (argument_array e) w = put_right _ _ (put_right _ _ w refl) refl

result_right : {N N1 : List Node} {i o : List Lexeme} {id : ℕ} → ResultRead N i N1 o id → OperatorsRight N →
    OperatorsRight N1
unfolding has_right_operator
result_right (typed_result d) w = type_right d w
result_right void_result w = put_right _ _ w refl
result_right long_result w = put_right _ _ w refl

parameter_right : {N N1 : List Node} {i o : List Lexeme} {id : ℕ} → ParameterRead N i N1 o id → OperatorsRight N →
    OperatorsRight N1
unfolding has_right_operator
parameter_right (parameter {N1 = N1} {flags = flags} f t) w =
    put_right _ _ (type_right t (flags_right N1 flags (row_right f w))) refl

begun_right : {N N1 : List Node} {i o : List Lexeme} {ids : List ℕ} → ParametersBegun N i N1 o ids → OperatorsRight N →
    OperatorsRight N1
begun_right no_parameter_yet w = w
begun_right (parameter_and_comma d e) w = parameter_right e (begun_right d w)

parameters_right : {N N1 : List Node} {i o : List Lexeme} {ps : Option ℕ} → ParametersRead N i N1 o ps →
    OperatorsRight N → OperatorsRight N1
unfolding has_right_operator
parameters_right no_parameters w = w
parameters_right (parameters d e) w = put_right _ _ (parameter_right e (begun_right d w)) refl

super_right : {N N1 : List Node} {i o : List Lexeme} {id : ℕ} → SuperRead N i N1 o id → OperatorsRight N →
    OperatorsRight N1
unfolding has_right_operator
super_right super_type w = put_right _ _ w refl
super_right (super_type_with_argument e) w = put_right _ _ (put_right _ _ w refl) refl

interfaces_right : {N N1 : List Node} {i o : List Lexeme} {ids : List ℕ} → InterfacesBegun N i N1 o ids →
    OperatorsRight N → OperatorsRight N1
interfaces_right no_interface_yet w = w
interfaces_right (interface_and_comma d e) w = super_right e (interfaces_right d w)

header_right : {N N1 : List Node} {i o : List Lexeme} {header : Option ℕ} → HeaderRead N i N1 o header →
    OperatorsRight N → OperatorsRight N1
unfolding has_right_operator
header_right no_header w = w
header_right (extends_header d) w = put_right _ _ (super_right d w) refl
header_right (implements_header d e) w = put_right _ _ (super_right e (interfaces_right d w)) refl
header_right (extends_implements_header d e f) w =
    put_right _ _ (super_right f (interfaces_right e (super_right d w))) refl

-- ---- expressions

mutual
  unfolding has_right_operator

  level_right : {n : ℕ} {N N1 : List Node} {i o : List Lexeme} {id : ℕ} → Level n N i N1 o id → OperatorsRight N →
      OperatorsRight N1
  level_right (operand d) w = unary_right d w
  level_right (tighter d) w = level_right d w
  level_right (binary e l r) w = put_right _ _ (level_right r (level_right l w)) e

  unary_right : {N N1 : List Node} {i o : List Lexeme} {id : ℕ} → UnaryRead N i N1 o id → OperatorsRight N →
      OperatorsRight N1
  unary_right (minus e d) w = put_right _ _ (unary_right d w) refl
  unary_right (minimum_unary d) w = post_right d w
  unary_right (plain_unary d) w = unary1_right d w

  unary1_right : {N N1 : List Node} {i o : List Lexeme} {id : ℕ} → Unary1Read N i N1 o id → OperatorsRight N →
      OperatorsRight N1
  unary1_right (negation d) w = put_right _ _ (unary_right d w) refl
  unary1_right (complement d) w = put_right _ _ (unary_right d w) refl
  unary1_right (cast e d) w = put_right _ _ (unary1_right d w) refl
  unary1_right (post_unary d) w = post_right d w

  post_right : {minimum : Bool} {kind : PostKind} {p : Position} {N N1 : List Node} {i o : List Lexeme} {id : ℕ} →
      PostRead minimum kind p N i N1 o id → OperatorsRight N → OperatorsRight N1
  post_right simple_name w = put_right _ _ w refl
  post_right (simple_call a) w = put_right _ _ (arguments_right a w) refl
  post_right (field_of d) w = put_right _ _ (post_right d w) refl
  post_right (call_of d b) w = put_right _ _ (arguments_right b (post_right d w)) refl
  post_right (element_of h d x) w = put_right _ _ (level_right x (post_right d w)) refl
  post_right (number e) w = put_right _ _ w refl
  post_right minimum_number w = put_right _ _ w refl
  post_right true_value w = put_right _ _ w refl
  post_right false_value w = put_right _ _ w refl
  post_right null_value w = put_right _ _ w refl
  post_right this_value w = put_right _ _ w refl
  post_right (parenthesized e d) w = put_right _ _ (level_right d w) refl
  post_right (parenthesized_name e) w = put_right _ _ (put_right _ _ w refl) refl
  post_right (new_object a) w = put_right _ _ (arguments_right a w) refl
  post_right (new_ints d) w = put_right _ _ (level_right d (put_right _ _ w refl)) refl
  post_right (new_booleans d) w = put_right _ _ (level_right d (put_right _ _ w refl)) refl
  post_right (new_references d) w = put_right _ _ (level_right d (put_right _ _ w refl)) refl

  argument_right : {N N1 : List Node} {i o : List Lexeme} {id : ℕ} → ArgumentRead N i N1 o id → OperatorsRight N →
      OperatorsRight N1
  argument_right (expression_argument d) w = level_right d w
  argument_right text_argument w = put_right _ _ w refl

  arguments_begun : {N N1 : List Node} {i o : List Lexeme} {ids : List ℕ} → ArgumentsBegun N i N1 o ids →
      OperatorsRight N → OperatorsRight N1
  arguments_begun no_argument_yet w = w
  arguments_begun (argument_and_comma d e) w = argument_right e (arguments_begun d w)

  arguments_right : {N N1 : List Node} {i o : List Lexeme} {ids : List ℕ} → ArgumentsRead N i N1 o ids →
      OperatorsRight N → OperatorsRight N1
  arguments_right no_arguments w = w
  arguments_right (arguments d e) w = argument_right e (arguments_begun d w)

-- ---- statements

assignment_right : {N N1 : List Node} {i o : List Lexeme} {id : ℕ} → AssignmentRead N i N1 o id → OperatorsRight N →
    OperatorsRight N1
unfolding has_right_operator
assignment_right (assignment t e) w = put_right _ _ (level_right e (post_right t w)) refl
assignment_right (compound_assignment {n = n} {op = op} c d) w =
    put_right _ _ (put_right _ _ (put_right _ _ (level_right d (put_right _ _ (put_right _ _ w refl) refl)) refl)
    (compound_binary n op c)) refl
assignment_right (step_assignment {n = n} {op = op} c) w =
    put_right _ _
    (put_right _ _ (put_right _ _ (put_right _ _ (put_right _ _ w refl) refl) refl) (stepping_binary n op c)) refl

local_right : {N N1 : List Node} {i o : List Lexeme} {flags : Option ℕ} {t : ℕ} → LocalTypeRead N i N1 o flags t →
    OperatorsRight N → OperatorsRight N1
local_right (plain_local t) w = type_right t w
local_right (flagged_local {N1 = N1} {flags = flags} e f t) w = type_right t (flags_right N1 flags (row_right f w))

mutual
  unfolding has_right_operator

  statement_right : {N N1 : List Node} {i o : List Lexeme} {id : ℕ} → StatementRead N i N1 o id → OperatorsRight N →
      OperatorsRight N1
  statement_right (block d) w = put_right _ _ (statements_right d w) refl
  statement_right empty w = put_right _ _ w refl
  statement_right (local d) w = put_right _ _ (local_right d w) refl
  statement_right (local_with_value d e) w = put_right _ _ (level_right e (local_right d w)) refl
  statement_right (assign_statement d) w = assignment_right d w
  statement_right (call_statement d) w = put_right _ _ (post_right d w) refl
  statement_right (if_alone c s e) w = put_right _ _ (statement_right s (level_right c w)) refl
  statement_right (if_else c s e) w = put_right _ _ (statement_right e (statement_right s (level_right c w))) refl
  statement_right (while_statement c s) w = put_right _ _ (statement_right s (level_right c w)) refl
  statement_right (for_local d v c u s) w =
      put_right _ _
      (statement_right s (assignment_right u (level_right c (put_right _ _ (level_right v (type_right d w)) refl))))
      refl
  statement_right (for_assignment d c u s) w =
      put_right _ _ (statement_right s (assignment_right u (level_right c (assignment_right d w)))) refl
  statement_right return_alone w = put_right _ _ w refl
  statement_right (return_value e) w = put_right _ _ (level_right e w) refl

  statements_right : {N N1 : List Node} {i o : List Lexeme} {ids : List ℕ} → StatementsRead N i N1 o ids →
      OperatorsRight N → OperatorsRight N1
  statements_right no_statement w = w
  statements_right (one_statement_more d s) w = statement_right s (statements_right d w)

-- ---- members, classes and files

literal_right : {N N1 : List Node} {i o : List Lexeme} {id : ℕ} → LiteralRead N i N1 o id → OperatorsRight N →
    OperatorsRight N1
unfolding has_right_operator
literal_right (number_literal e) w = put_right _ _ w refl
literal_right negative_literal w = put_right _ _ w refl
literal_right true_literal w = put_right _ _ w refl
literal_right false_literal w = put_right _ _ w refl
literal_right null_literal w = put_right _ _ w refl

member_right : {N N1 : List Node} {i o : List Lexeme} {id : ℕ} → MemberRead N i N1 o id → OperatorsRight N →
    OperatorsRight N1
unfolding has_right_operator
member_right (field {N1 = M} {flags = flags} f t) w =
    put_right _ _ (type_right t (flags_right M flags (row_right f w))) refl
member_right (field_with_value {N1 = M} {flags = flags} f t v) w =
    put_right _ _ (literal_right v (type_right t (flags_right M flags (row_right f w)))) refl
member_right (bare_method {N1 = M} {flags = flags} f t ps) w =
    put_right _ _ (parameters_right ps (result_right t (flags_right M flags (row_right f w)))) refl
member_right (method {N1 = M} {flags = flags} f t ps s) w =
    put_right _ _
    (put_right _ _ (statements_right s (parameters_right ps (result_right t (flags_right M flags (row_right f w)))))
    refl) refl
member_right (constructor {N1 = M} {flags = flags} f ps s) w =
    put_right _ _ (put_right _ _ (statements_right s (parameters_right ps (flags_right M flags (row_right f w)))) refl)
    refl
member_right (constructor_with_super {N1 = M} {flags = flags} f ps d s) w =
    put_right _ _
    (put_right _ _
    (statements_right s
    (put_right _ _ (arguments_right d (parameters_right ps (flags_right M flags (row_right f w)))) refl)) refl) refl

members_right : {N N1 : List Node} {i o : List Lexeme} {ids : List ℕ} → MembersRead N i N1 o ids → OperatorsRight N →
    OperatorsRight N1
members_right no_member w = w
members_right (one_member_more d m) w = member_right m (members_right d w)

class_right : {N N1 : List Node} {i o : List Lexeme} {id : ℕ} → ClassRead N i N1 o id → OperatorsRight N →
    OperatorsRight N1
unfolding has_right_operator
class_right (class {N1 = M} {flags = flags} f h m) w =
    put_right _ _ (members_right m (header_right h (flags_right M flags (row_right f w)))) refl

classes_right : {N N1 : List Node} {i o : List Lexeme} {ids : List ℕ} → ClassesRead N i N1 o ids → OperatorsRight N →
    OperatorsRight N1
classes_right no_class w = w
classes_right (one_class_more d c) w = class_right c (classes_right d w)

tree_right : {N N1 : List Node} {i : List Lexeme} {ids : List ℕ} → Tree N i N1 ids → OperatorsRight N →
    OperatorsRight N1
tree_right (file d c) w = classes_right c w
tree_right (file_of_package e d c) w = classes_right c w

files_right : {before after : Forest} {rows : List (List Lexeme)} → FilesRead before rows after →
    OperatorsRight before.nodes → OperatorsRight after.nodes
files_right no_file w = w
files_right (next_file f more) w = files_right more (tree_right f.tree w)

-- each operator of a program that is read from texts is one of the grammar's
pub operators_right : (forest : Forest) → IsReadFromTexts forest → OperatorsRight forest.nodes
operators_right forest r = files_right r.reads.files_read (λ id node e. absurd (cc (e)))
