-- What is left of the lexemes of a source behind something that is read are lexemes of a source.
use Rattle.std.specs.Prelude.{ℕ, Bool, List, ◌∷◌, Option}
use Rattle.scj_base.specs.Vocabulary.{word_package, sign_semicolon}
use Rattle.scj_base.specs.declared.positions.Position.{Position}
use Rattle.scj_tree.specs.declared.nodes.Node.{Node}
use Rattle.scj_tree.specs.declared.parsed_parts.FlagSet.{FlagSet}
use Rattle.scj_tree.specs.declared.parsed_parts.PostKind.{PostKind}
use Rattle.scj_tree.specs.Lexemes.{Lexeme, a_word, a_sign}
use Rattle.scj_tree.specs.Headers.{Dotted, dotted_name, dotted_longer, Imported, imported_name, imported_all, Imports, no_imports, plain_import, static_import, PlainValue, plain_text, plain_dotted, plain_true, plain_false, PlainPair, value_alone, named_value, PlainPairs, last_pair, more_pairs, PlainArguments, no_parentheses, empty_parentheses, pairs_in_parentheses, ScopeValue, quoted_scope, bare_scope, qualified_scope, FlagRow, no_flag, modifier, effectless, scope_flag, runs_in_flag, define_scope_flag, define_scope_flag_parent_first, TypeRead, int_type, int_array, boolean_type, boolean_array, class_type, class_array, argument_type, argument_array, ResultRead, typed_result, void_result, long_result, ParameterRead, parameter, ParametersBegun, no_parameter_yet, parameter_and_comma, ParametersRead, no_parameters, parameters, SuperRead, super_type, super_type_with_argument, InterfacesBegun, no_interface_yet, interface_and_comma, HeaderRead, no_header, extends_header, implements_header, extends_implements_header}
use Rattle.scj_tree.specs.Expressions.{Level, UnaryRead, Unary1Read, PostRead, ArgumentRead, ArgumentsBegun, ArgumentsRead, operand, tighter, binary, minus, minimum_unary, plain_unary, negation, complement, cast, post_unary, simple_name, simple_call, field_of, call_of, element_of, number, minimum_number, true_value, false_value, null_value, this_value, parenthesized, parenthesized_name, new_object, new_ints, new_booleans, new_references, expression_argument, text_argument, no_argument_yet, argument_and_comma, no_arguments, arguments}
use Rattle.scj_tree.specs.Statements.{AssignmentRead, assignment, compound_assignment, step_assignment, LocalTypeRead, plain_local, flagged_local, StatementRead, block, empty, local, local_with_value, assign_statement, call_statement, if_alone, if_else, while_statement, for_local, for_assignment, return_alone, return_value, StatementsRead, no_statement, one_statement_more}
use Rattle.scj_tree.specs.Grammar.{LiteralRead, number_literal, negative_literal, true_literal, false_literal, null_literal, MemberRead, field, field_with_value, bare_method, method, constructor, constructor_with_super, MembersRead, no_member, one_member_more, ClassRead, class, ClassesRead, no_class, one_class_more}
use Rattle.scj_show.proofs.Sources.{AreOfSource, behind, behind2, behind3}

dotted_rest : {i o : List Lexeme} → Dotted i o → AreOfSource i → AreOfSource o
dotted_rest dotted_name a = behind a
dotted_rest (dotted_longer d) a = dotted_rest d (behind2 a)

imported_rest : {i o : List Lexeme} → Imported i o → AreOfSource i → AreOfSource o
imported_rest (imported_name d) a = dotted_rest d a
imported_rest (imported_all d) a = behind2 (dotted_rest d a)

pub imports_rest : {i o : List Lexeme} → Imports i o → AreOfSource i → AreOfSource o
imports_rest no_imports a = a
imports_rest (plain_import d e) a = imports_rest e (behind (imported_rest d (behind a)))
imports_rest (static_import d e) a = imports_rest e (behind (imported_rest d (behind2 a)))

plain_value_rest : {i o : List Lexeme} → PlainValue i o → AreOfSource i → AreOfSource o
plain_value_rest plain_text a = behind a
plain_value_rest (plain_dotted d) a = dotted_rest d a
plain_value_rest plain_true a = behind a
plain_value_rest plain_false a = behind a

plain_pair_rest : {i o : List Lexeme} → PlainPair i o → AreOfSource i → AreOfSource o
plain_pair_rest (value_alone d) a = plain_value_rest d a
plain_pair_rest (named_value d) a = plain_value_rest d (behind2 a)

plain_pairs_rest : {i o : List Lexeme} → PlainPairs i o → AreOfSource i → AreOfSource o
plain_pairs_rest (last_pair d) a = behind (plain_pair_rest d a)
plain_pairs_rest (more_pairs d e) a = plain_pairs_rest e (behind (plain_pair_rest d a))

plain_arguments_rest : {i o : List Lexeme} → PlainArguments i o → AreOfSource i → AreOfSource o
plain_arguments_rest no_parentheses a = a
plain_arguments_rest empty_parentheses a = behind2 a
plain_arguments_rest (pairs_in_parentheses d) a = plain_pairs_rest d (behind a)

pub value_rest : {N N1 : List Node} {i o : List Lexeme} {id : ℕ} → ScopeValue N i N1 o id → AreOfSource i →
    AreOfSource o
value_rest (quoted_scope h) a = behind a
value_rest bare_scope a = behind a
value_rest qualified_scope a = behind3 a

pub row_rest : {is_local : Bool} {N N1 : List Node} {i o : List Lexeme} {flags : FlagSet} →
    FlagRow is_local N i N1 o flags → AreOfSource i → AreOfSource o
row_rest no_flag a = a
row_rest (modifier d h) a = behind (row_rest d a)
row_rest (effectless d h e) a = plain_arguments_rest e (behind2 (row_rest d a))
row_rest (scope_flag d h v) a = behind (value_rest v (behind3 (row_rest d a)))
row_rest (runs_in_flag d h v) a = behind (value_rest v (behind3 (row_rest d a)))
row_rest (define_scope_flag d h v w) a =
    behind (value_rest w (behind3 (value_rest v (behind2 (behind3 (row_rest d a))))))
row_rest (define_scope_flag_parent_first d h v w) a =
    behind (value_rest w (behind3 (value_rest v (behind2 (behind3 (row_rest d a))))))

pub type_rest : {N N1 : List Node} {i o : List Lexeme} {id : ℕ} → TypeRead N i N1 o id → AreOfSource i → AreOfSource o
type_rest int_type a = behind a
type_rest int_array a = behind3 a
type_rest boolean_type a = behind a
type_rest boolean_array a = behind3 a
type_rest class_type a = behind a
type_rest class_array a = behind3 a
type_rest (argument_type h) a = behind (behind3 a)
type_rest (argument_array h) a = behind3 (behind3 a)

pub result_rest : {N N1 : List Node} {i o : List Lexeme} {id : ℕ} → ResultRead N i N1 o id → AreOfSource i →
    AreOfSource o
result_rest (typed_result d) a = type_rest d a
result_rest void_result a = behind a
result_rest long_result a = behind a

pub parameter_rest : {N N1 : List Node} {i o : List Lexeme} {id : ℕ} → ParameterRead N i N1 o id → AreOfSource i →
    AreOfSource o
parameter_rest (parameter d e) a = behind (type_rest e (row_rest d a))

pub parameters_begun_rest : {N N1 : List Node} {i o : List Lexeme} {ids : List ℕ} → ParametersBegun N i N1 o ids →
    AreOfSource i → AreOfSource o
parameters_begun_rest no_parameter_yet a = a
parameters_begun_rest (parameter_and_comma d e) a = behind (parameter_rest e (parameters_begun_rest d a))

pub parameters_rest : {N N1 : List Node} {i o : List Lexeme} {id : Option ℕ} → ParametersRead N i N1 o id →
    AreOfSource i → AreOfSource o
parameters_rest no_parameters a = behind2 a
parameters_rest (parameters d e) a = behind (parameter_rest e (parameters_begun_rest d (behind a)))

pub super_rest : {N N1 : List Node} {i o : List Lexeme} {id : ℕ} → SuperRead N i N1 o id → AreOfSource i → AreOfSource o
super_rest super_type a = behind a
super_rest (super_type_with_argument h) a = behind (behind3 a)

pub interfaces_rest : {N N1 : List Node} {i o : List Lexeme} {ids : List ℕ} → InterfacesBegun N i N1 o ids →
    AreOfSource i → AreOfSource o
interfaces_rest no_interface_yet a = a
interfaces_rest (interface_and_comma d e) a = behind (super_rest e (interfaces_rest d a))

pub header_rest : {N N1 : List Node} {i o : List Lexeme} {id : Option ℕ} → HeaderRead N i N1 o id → AreOfSource i →
    AreOfSource o
header_rest no_header a = behind a
header_rest (extends_header d) a = behind (super_rest d (behind a))
header_rest (implements_header d e) a = behind (super_rest e (interfaces_rest d (behind a)))
header_rest (extends_implements_header d e g) a =
    behind (super_rest g (interfaces_rest e (behind (super_rest d (behind a)))))

-- ---- expressions

mutual
  pub level_rest : {n : ℕ} {N N1 : List Node} {i o : List Lexeme} {id : ℕ} → Level n N i N1 o id → AreOfSource i →
      AreOfSource o
  level_rest (operand d) a = unary_rest d a
  level_rest (tighter d) a = level_rest d a
  level_rest (binary h d e) a = level_rest e (behind (level_rest d a))

  pub unary_rest : {N N1 : List Node} {i o : List Lexeme} {id : ℕ} → UnaryRead N i N1 o id → AreOfSource i →
      AreOfSource o
  unary_rest (minus h d) a = unary_rest d (behind a)
  unary_rest (minimum_unary d) a = post_rest d a
  unary_rest (plain_unary d) a = unary1_rest d a

  pub unary1_rest : {N N1 : List Node} {i o : List Lexeme} {id : ℕ} → Unary1Read N i N1 o id → AreOfSource i →
      AreOfSource o
  unary1_rest (negation d) a = unary_rest d (behind a)
  unary1_rest (complement d) a = unary_rest d (behind a)
  unary1_rest (cast h d) a = unary1_rest d (behind3 a)
  unary1_rest (post_unary d) a = post_rest d a

  pub post_rest : {minimum : Bool} {kind : PostKind} {p : Position} {N N1 : List Node} {i o : List Lexeme} {id : ℕ} →
      PostRead minimum kind p N i N1 o id → AreOfSource i → AreOfSource o
  post_rest simple_name a = behind a
  post_rest (simple_call d) a = arguments_rest d (behind2 a)
  post_rest (field_of d) a = behind2 (post_rest d a)
  post_rest (call_of d e) a = arguments_rest e (behind3 (post_rest d a))
  post_rest (element_of h d e) a = behind (level_rest e (behind (post_rest d a)))
  post_rest (number h) a = behind a
  post_rest minimum_number a = behind2 a
  post_rest true_value a = behind a
  post_rest false_value a = behind a
  post_rest null_value a = behind a
  post_rest this_value a = behind a
  post_rest (parenthesized h d) a = behind (level_rest d (behind a))
  post_rest (parenthesized_name h) a = behind3 a
  post_rest (new_object d) a = arguments_rest d (behind3 a)
  post_rest (new_ints d) a = behind (level_rest d (behind3 a))
  post_rest (new_booleans d) a = behind (level_rest d (behind3 a))
  post_rest (new_references d) a = behind (level_rest d (behind3 a))

  pub argument_rest : {N N1 : List Node} {i o : List Lexeme} {id : ℕ} → ArgumentRead N i N1 o id → AreOfSource i →
      AreOfSource o
  argument_rest (expression_argument d) a = level_rest d a
  argument_rest text_argument a = behind a

  pub arguments_begun_rest : {N N1 : List Node} {i o : List Lexeme} {ids : List ℕ} → ArgumentsBegun N i N1 o ids →
      AreOfSource i → AreOfSource o
  arguments_begun_rest no_argument_yet a = a
  arguments_begun_rest (argument_and_comma d e) a = behind (argument_rest e (arguments_begun_rest d a))

  pub arguments_rest : {N N1 : List Node} {i o : List Lexeme} {ids : List ℕ} → ArgumentsRead N i N1 o ids →
      AreOfSource i → AreOfSource o
  arguments_rest no_arguments a = behind a
  arguments_rest (arguments d e) a = behind (argument_rest e (arguments_begun_rest d a))

-- ---- statements

pub assignment_rest : {N N1 : List Node} {i o : List Lexeme} {id : ℕ} → AssignmentRead N i N1 o id → AreOfSource i →
    AreOfSource o
assignment_rest (assignment d e) a = level_rest e (behind (post_rest d a))
assignment_rest (compound_assignment h d) a = level_rest d (behind2 a)
assignment_rest (step_assignment h) a = behind2 a

pub local_type_rest : {N N1 : List Node} {i o : List Lexeme} {flags : Option ℕ} {t : ℕ} →
    LocalTypeRead N i N1 o flags t → AreOfSource i → AreOfSource o
local_type_rest (plain_local d) a = type_rest d a
local_type_rest (flagged_local h d e) a = type_rest e (row_rest d a)

mutual
  pub statement_rest : {N N1 : List Node} {i o : List Lexeme} {id : ℕ} → StatementRead N i N1 o id → AreOfSource i →
      AreOfSource o
  statement_rest (block d) a = behind (statements_rest d (behind a))
  statement_rest empty a = behind a
  statement_rest (local d) a = behind2 (local_type_rest d a)
  statement_rest (local_with_value d e) a = behind (level_rest e (behind2 (local_type_rest d a)))
  statement_rest (assign_statement d) a = behind (assignment_rest d a)
  statement_rest (call_statement d) a = behind (post_rest d a)
  statement_rest (if_alone d e h) a = statement_rest e (behind (level_rest d (behind2 a)))
  statement_rest (if_else d e g) a = statement_rest g (behind (statement_rest e (behind (level_rest d (behind2 a)))))
  statement_rest (while_statement d e) a = statement_rest e (behind (level_rest d (behind2 a)))
  statement_rest (for_local t e c u s) a =
      statement_rest s
      (behind (assignment_rest u (behind (level_rest c (behind (level_rest e (behind2 (type_rest t (behind2 a)))))))))
  statement_rest (for_assignment e c u s) a =
      statement_rest s (behind (assignment_rest u (behind (level_rest c (behind (assignment_rest e (behind2 a)))))))
  statement_rest return_alone a = behind2 a
  statement_rest (return_value d) a = behind (level_rest d (behind a))

  pub statements_rest : {N N1 : List Node} {i o : List Lexeme} {ids : List ℕ} → StatementsRead N i N1 o ids →
      AreOfSource i → AreOfSource o
  statements_rest no_statement a = a
  statements_rest (one_statement_more d e) a = statement_rest e (statements_rest d a)

-- ---- members and classes

pub literal_rest : {N N1 : List Node} {i o : List Lexeme} {id : ℕ} → LiteralRead N i N1 o id → AreOfSource i →
    AreOfSource o
literal_rest (number_literal h) a = behind a
literal_rest negative_literal a = behind2 a
literal_rest true_literal a = behind a
literal_rest false_literal a = behind a
literal_rest null_literal a = behind a

pub member_rest : {N N1 : List Node} {i o : List Lexeme} {id : ℕ} → MemberRead N i N1 o id → AreOfSource i →
    AreOfSource o
member_rest (field d e) a = behind2 (type_rest e (row_rest d a))
member_rest (field_with_value d e l) a = behind (literal_rest l (behind2 (type_rest e (row_rest d a))))
member_rest (bare_method d e ps) a = behind (parameters_rest ps (behind (result_rest e (row_rest d a))))
member_rest (method d e ps s) a =
    behind (statements_rest s (behind (parameters_rest ps (behind (result_rest e (row_rest d a))))))
member_rest (constructor d ps s) a = behind (statements_rest s (behind (parameters_rest ps (behind (row_rest d a)))))
member_rest (constructor_with_super d ps c s) a =
    behind (statements_rest s (behind (arguments_rest c (behind3 (parameters_rest ps (behind (row_rest d a)))))))

pub members_rest : {N N1 : List Node} {i o : List Lexeme} {ids : List ℕ} → MembersRead N i N1 o ids → AreOfSource i →
    AreOfSource o
members_rest no_member a = a
members_rest (one_member_more d e) a = member_rest e (members_rest d a)

pub class_rest : {N N1 : List Node} {i o : List Lexeme} {id : ℕ} → ClassRead N i N1 o id → AreOfSource i → AreOfSource o
class_rest (class d h s) a = behind (members_rest s (header_rest h (behind2 (row_rest d a))))

pub classes_rest : {N N1 : List Node} {i o : List Lexeme} {ids : List ℕ} → ClassesRead N i N1 o ids → AreOfSource i →
    AreOfSource o
classes_rest no_class a = a
classes_rest (one_class_more d e) a = class_rest e (classes_rest d a)

-- a file's name of its package and its imports

pub named_package_rest : {i i1 : List Lexeme} {r q : Position} → Dotted i (a_sign sign_semicolon q ∷ i1) →
    AreOfSource (a_word word_package r ∷ i) → AreOfSource i1
named_package_rest d a = behind (dotted_rest d (behind a))
