-- Reading makes few nodes: for each lexeme that it takes three at most.
use Rattle.std.specs.Prelude.{Bool, List, None, Option, Some, [], suc, length, ℕ, ◌*◌, ◌+◌, ◌∷◌, ◌≤◌}
use Rattle.std.proofs.Common.{arith, length-append}
use Rattle.scj_base.specs.declared.positions.Position.{Position}
use Rattle.scj_tree.specs.declared.nodes.Node.{Node}
use Rattle.scj_tree.specs.declared.parsed_parts.FlagSet.{FlagSet}
use Rattle.scj_tree.specs.declared.parsed_parts.PostKind.{PostKind}
use Rattle.scj_tree.specs.Nodes.{put}
use Rattle.scj_tree.specs.Lexemes.{Lexeme}
use Rattle.scj_tree.specs.Expressions.{ArgumentRead, ArgumentsBegun, ArgumentsRead, Level, PostRead, Unary1Read, UnaryRead, argument_and_comma, arguments, binary, call_of, cast, complement, element_of, expression_argument, false_value, field_of, minimum_number, minimum_unary, minus, negation, new_booleans, new_ints, new_object, new_references, no_argument_yet, no_arguments, null_value, number, operand, parenthesized, parenthesized_name, plain_unary, post_unary, simple_call, simple_name, text_argument, this_value, tighter, true_value}
use Rattle.scj_tree.specs.Grammar.{ClassRead, ClassesRead, LiteralRead, MemberRead, MembersRead, Tree, bare_method, class, constructor, constructor_with_super, false_literal, field, field_with_value, file, file_of_package, method, negative_literal, no_class, no_member, null_literal, number_literal, one_class_more, one_member_more, true_literal}
use Rattle.scj_tree.specs.Headers.{FlagRow, HeaderRead, InterfacesBegun, ParameterRead, ParametersBegun, ParametersRead, ResultRead, ScopeValue, SuperRead, TypeRead, argument_array, argument_type, bare_scope, boolean_array, boolean_type, class_array, class_type, define_scope_flag, define_scope_flag_parent_first, effectless, extends_header, extends_implements_header, implements_header, int_array, int_type, interface_and_comma, long_result, modifier, no_flag, no_header, no_interface_yet, no_parameter_yet, no_parameters, parameter, parameter_and_comma, parameters, qualified_scope, quoted_scope, runs_in_flag, scope_flag, super_type, super_type_with_argument, typed_result, void_result}
use Rattle.scj_tree.specs.Statements.{AssignmentRead, LocalTypeRead, StatementRead, StatementsRead, assign_statement, assignment, block, call_statement, compound_assignment, empty, flagged_local, for_assignment, for_local, if_alone, if_else, local, local_with_value, no_statement, one_statement_more, plain_local, return_alone, return_value, step_assignment, while_statement}
use Rattle.scj_tree.specs.Terminals.{flags_node, with_flags}
use Rattle.safe_texts.proofs.Shrinking.{dotted_shrinks, imports_shrink, arguments_shrink}

-- from the nodes N and the lexemes i to the nodes N1 and the lexemes o, with room for so many nodes more
pub record Few (room : ℕ) (N : List Node) (i : List Lexeme) (N1 : List Node) (o : List Lexeme) : Type 0 where
  pub is : length N1 + 3 * length o + room ≤ length N + 3 * length i

made : {room : ℕ} {N N1 : List Node} {i o : List Lexeme} (node : Node) → Few (suc room) N i N1 o →
    Few room N i (put N1 node) o
made {N1 = N1} node f = record { is = omega (arith, f.is, length-append N1 (node ∷ [])) }

-- behind one node that is there already, and behind two
begun : {N1 : List Node} {i o : List Lexeme} (N : List Node) (node : Node) → Few 0 (put N node) i N1 o →
    length N1 + 3 * length o ≤ length N + 3 * length i + 1
begun N node f = omega (arith, f.is, length-append N (node ∷ []))

begun_twice : {N1 : List Node} {i o : List Lexeme} (N : List Node) (first second : Node) →
    Few 0 (put (put N first) second) i N1 o → length N1 + 3 * length o ≤ length N + 3 * length i + 2
begun_twice N first second f =
    omega (arith, f.is, length-append (put N first) (second ∷ []), length-append N (first ∷ []))

-- ---- flags

scope_few : {N N1 : List Node} {i o : List Lexeme} {id : ℕ} → ScopeValue N i N1 o id → Few 0 N i N1 o
scope_few (quoted_scope h) = made _ (record { is = omega arith })
scope_few bare_scope = made _ (record { is = omega arith })
scope_few qualified_scope = made _ (record { is = omega arith })

row_few : {is_local : Bool} {N N1 : List Node} {i o : List Lexeme} {flags : FlagSet} →
    FlagRow is_local N i N1 o flags → Few 0 N i N1 o
row_few no_flag = record { is = omega arith }
row_few (modifier d h) = record { is = omega (arith, (row_few d).is) }
row_few (effectless d h a) = record { is = omega (arith, (row_few d).is, arguments_shrink a) }
row_few (scope_flag d h v) = record { is = omega (arith, (row_few d).is, (scope_few v).is) }
row_few (runs_in_flag d h v) = record { is = omega (arith, (row_few d).is, (scope_few v).is) }
row_few (define_scope_flag d h v w) =
    made _ (record { is = omega (arith, (row_few d).is, (scope_few v).is, (scope_few w).is) })
row_few (define_scope_flag_parent_first d h v w) =
    made _ (record { is = omega (arith, (row_few d).is, (scope_few v).is, (scope_few w).is) })

-- the flags' node, where there is one
one_put : (N : List Node) (o : Option Node) →
    length (elim o as (λ z. List Node) [ None ↦ N | Some node ↦ put N node ]) ≤ length N + 1
one_put N None = omega arith
one_put N (Some node) = omega (arith, length-append N (node ∷ []))

flags_put : (N : List Node) (flags : FlagSet) → length (with_flags N flags) ≤ length N + 1
unfolding with_flags
flags_put N flags = one_put N (flags_node flags)

flags_few : {is_local : Bool} {N N1 : List Node} {i o : List Lexeme} {flags : FlagSet} →
    FlagRow is_local N i N1 o flags →
    length (with_flags N1 flags) + 3 * length o ≤ length N + 3 * length i + 1
flags_few {N1 = N1} {flags = flags} d = omega (arith, (row_few d).is, flags_put N1 flags)

-- ---- types and parameters

type_few : {N N1 : List Node} {i o : List Lexeme} {id : ℕ} → TypeRead N i N1 o id → Few 0 N i N1 o
type_few int_type = made _ (record { is = omega arith })
type_few int_array = made _ (record { is = omega arith })
type_few boolean_type = made _ (record { is = omega arith })
type_few boolean_array = made _ (record { is = omega arith })
type_few class_type = made _ (record { is = omega arith })
type_few class_array = made _ (record { is = omega arith })
type_few (argument_type h) = made _ (made _ (record { is = omega arith }))
type_few (argument_array h) = made _ (made _ (record { is = omega arith }))

result_few : {N N1 : List Node} {i o : List Lexeme} {id : ℕ} → ResultRead N i N1 o id → Few 0 N i N1 o
result_few (typed_result d) = type_few d
result_few void_result = made _ (record { is = omega arith })
result_few long_result = made _ (record { is = omega arith })

parameter_few : {N N1 : List Node} {i o : List Lexeme} {id : ℕ} → ParameterRead N i N1 o id → Few 0 N i N1 o
parameter_few (parameter f t) = made _ (record { is = omega (arith, flags_few f, (type_few t).is) })

parameters_begun_few : {N N1 : List Node} {i o : List Lexeme} {ids : List ℕ} → ParametersBegun N i N1 o ids →
    Few 0 N i N1 o
parameters_begun_few no_parameter_yet = record { is = omega arith }
parameters_begun_few (parameter_and_comma b d) =
    record { is = omega (arith, (parameters_begun_few b).is, (parameter_few d).is) }

parameters_few : {N N1 : List Node} {i o : List Lexeme} {id : Option ℕ} → ParametersRead N i N1 o id →
    Few 0 N i N1 o
parameters_few no_parameters = record { is = omega arith }
parameters_few (parameters b d) =
    made _ (record { is = omega (arith, (parameters_begun_few b).is, (parameter_few d).is) })

-- ---- heads of classes

super_few : {N N1 : List Node} {i o : List Lexeme} {id : ℕ} → SuperRead N i N1 o id → Few 0 N i N1 o
super_few super_type = made _ (record { is = omega arith })
super_few (super_type_with_argument h) = made _ (made _ (record { is = omega arith }))

interfaces_few : {N N1 : List Node} {i o : List Lexeme} {ids : List ℕ} → InterfacesBegun N i N1 o ids →
    Few 0 N i N1 o
interfaces_few no_interface_yet = record { is = omega arith }
interfaces_few (interface_and_comma b d) = record { is = omega (arith, (interfaces_few b).is, (super_few d).is) }

header_few : {N N1 : List Node} {i o : List Lexeme} {id : Option ℕ} → HeaderRead N i N1 o id → Few 0 N i N1 o
header_few no_header = record { is = omega arith }
header_few (extends_header d) = made _ (record { is = omega (arith, (super_few d).is) })
header_few (implements_header b d) =
    made _ (record { is = omega (arith, (interfaces_few b).is, (super_few d).is) })
header_few (extends_implements_header s b d) =
    made _ (record { is = omega (arith, (super_few s).is, (interfaces_few b).is, (super_few d).is) })

-- ---- expressions

mutual
  level_few : {n : ℕ} {N N1 : List Node} {i o : List Lexeme} {id : ℕ} → Level n N i N1 o id → Few 0 N i N1 o
  level_few (operand d) = unary_few d
  level_few (tighter d) = level_few d
  level_few (binary h l r) = made _ (record { is = omega (arith, (level_few l).is, (level_few r).is) })

  unary_few : {N N1 : List Node} {i o : List Lexeme} {id : ℕ} → UnaryRead N i N1 o id → Few 0 N i N1 o
  unary_few (minus h d) = made _ (record { is = omega (arith, (unary_few d).is) })
  unary_few (minimum_unary d) = post_few d
  unary_few (plain_unary d) = unary1_few d

  unary1_few : {N N1 : List Node} {i o : List Lexeme} {id : ℕ} → Unary1Read N i N1 o id → Few 0 N i N1 o
  unary1_few (negation d) = made _ (record { is = omega (arith, (unary_few d).is) })
  unary1_few (complement d) = made _ (record { is = omega (arith, (unary_few d).is) })
  unary1_few (cast h d) = made _ (record { is = omega (arith, (unary1_few d).is) })
  unary1_few (post_unary d) = post_few d

  post_few : {minimum : Bool} {kind : PostKind} {p : Position} {N N1 : List Node} {i o : List Lexeme} {id : ℕ} →
      PostRead minimum kind p N i N1 o id → Few 0 N i N1 o
  post_few simple_name = made _ (record { is = omega arith })
  post_few (simple_call d) = made _ (record { is = omega (arith, (arguments_few d).is) })
  post_few (field_of d) = made _ (record { is = omega (arith, (post_few d).is) })
  post_few (call_of d e) = made _ (record { is = omega (arith, (post_few d).is, (arguments_few e).is) })
  post_few (element_of h d e) = made _ (record { is = omega (arith, (post_few d).is, (level_few e).is) })
  post_few (number h) = made _ (record { is = omega arith })
  post_few minimum_number = made _ (record { is = omega arith })
  post_few true_value = made _ (record { is = omega arith })
  post_few false_value = made _ (record { is = omega arith })
  post_few null_value = made _ (record { is = omega arith })
  post_few this_value = made _ (record { is = omega arith })
  post_few (parenthesized h d) = made _ (record { is = omega (arith, (level_few d).is) })
  post_few (parenthesized_name h) = made _ (made _ (record { is = omega arith }))
  post_few (new_object d) = made _ (record { is = omega (arith, (arguments_few d).is) })
  post_few (new_ints d) = made _ (record { is = omega (arith, begun _ _ (level_few d)) })
  post_few (new_booleans d) = made _ (record { is = omega (arith, begun _ _ (level_few d)) })
  post_few (new_references d) = made _ (record { is = omega (arith, begun _ _ (level_few d)) })

  argument_few : {N N1 : List Node} {i o : List Lexeme} {id : ℕ} → ArgumentRead N i N1 o id → Few 0 N i N1 o
  argument_few (expression_argument d) = level_few d
  argument_few text_argument = made _ (record { is = omega arith })

  arguments_begun_few : {N N1 : List Node} {i o : List Lexeme} {ids : List ℕ} → ArgumentsBegun N i N1 o ids →
      Few 0 N i N1 o
  arguments_begun_few no_argument_yet = record { is = omega arith }
  arguments_begun_few (argument_and_comma b d) =
      record { is = omega (arith, (arguments_begun_few b).is, (argument_few d).is) }

  arguments_few : {N N1 : List Node} {i o : List Lexeme} {ids : List ℕ} → ArgumentsRead N i N1 o ids → Few 0 N i N1 o
  arguments_few no_arguments = record { is = omega arith }
  arguments_few (arguments b d) = record { is = omega (arith, (arguments_begun_few b).is, (argument_few d).is) }

-- ---- statements

assignment_few : {N N1 : List Node} {i o : List Lexeme} {id : ℕ} → AssignmentRead N i N1 o id → Few 0 N i N1 o
assignment_few (assignment x e) = made _ (record { is = omega (arith, (post_few x).is, (level_few e).is) })
assignment_few (compound_assignment h e) =
    made _ (made _ (made _ (record { is = omega (arith, begun_twice _ _ _ (level_few e)) })))
assignment_few (step_assignment h) = made _ (made _ (made _ (made _ (made _ (record { is = omega arith })))))

-- what stands before the name of a local
local_type_few : {N N1 : List Node} {i o : List Lexeme} {flags : Option ℕ} {t : ℕ} → LocalTypeRead N i N1 o flags t →
    length N1 + 3 * length o ≤ length N + 3 * length i + 1
local_type_few (plain_local t) = omega (arith, (type_few t).is)
local_type_few (flagged_local h f t) = omega (arith, flags_few f, (type_few t).is)

mutual
  statement_few : {N N1 : List Node} {i o : List Lexeme} {id : ℕ} → StatementRead N i N1 o id → Few 0 N i N1 o
  statement_few (block d) = made _ (record { is = omega (arith, (statements_few d).is) })
  statement_few empty = made _ (record { is = omega arith })
  statement_few (local t) = made _ (record { is = omega (arith, local_type_few t) })
  statement_few (local_with_value d v) = made _ (record { is = omega (arith, local_type_few d, (level_few v).is) })
  statement_few (assign_statement d) = record { is = omega (arith, (assignment_few d).is) }
  statement_few (call_statement d) = made _ (record { is = omega (arith, (post_few d).is) })
  statement_few (if_alone c s h) = made _ (record { is = omega (arith, (level_few c).is, (statement_few s).is) })
  statement_few (if_else c s e) =
      made _ (record { is = omega (arith, (level_few c).is, (statement_few s).is, (statement_few e).is) })
  statement_few (while_statement c s) =
      made _ (record { is = omega (arith, (level_few c).is, (statement_few s).is) })
  statement_few (for_local t e c u s) =
      made _
      (record {
        is = omega (
          arith,
          (type_few t).is,
          (level_few e).is,
          begun _ _ (level_few c),
          (assignment_few u).is,
          (statement_few s).is,
        );
      })
  statement_few (for_assignment f c u s) =
      made _
      (record {
        is = omega (arith, (assignment_few f).is, (level_few c).is, (assignment_few u).is, (statement_few s).is);
      })
  statement_few return_alone = made _ (record { is = omega arith })
  statement_few (return_value e) = made _ (record { is = omega (arith, (level_few e).is) })

  statements_few : {N N1 : List Node} {i o : List Lexeme} {ids : List ℕ} → StatementsRead N i N1 o ids →
      Few 0 N i N1 o
  statements_few no_statement = record { is = omega arith }
  statements_few (one_statement_more b d) = record { is = omega (arith, (statements_few b).is, (statement_few d).is) }

-- ---- members and classes

literal_few : {N N1 : List Node} {i o : List Lexeme} {id : ℕ} → LiteralRead N i N1 o id → Few 0 N i N1 o
literal_few (number_literal h) = made _ (record { is = omega arith })
literal_few negative_literal = made _ (record { is = omega arith })
literal_few true_literal = made _ (record { is = omega arith })
literal_few false_literal = made _ (record { is = omega arith })
literal_few null_literal = made _ (record { is = omega arith })

member_few : {N N1 : List Node} {i o : List Lexeme} {id : ℕ} → MemberRead N i N1 o id → Few 0 N i N1 o
member_few (field f t) = made _ (record { is = omega (arith, flags_few f, (type_few t).is) })
member_few (field_with_value f t v) =
    made _ (record { is = omega (arith, flags_few f, (type_few t).is, (literal_few v).is) })
member_few (bare_method f t d) =
    made _ (record { is = omega (arith, flags_few f, (result_few t).is, (parameters_few d).is) })
member_few (method f t d s) =
    made _
    (made _
    (record { is = omega (arith, flags_few f, (result_few t).is, (parameters_few d).is, (statements_few s).is) }))
member_few (constructor f d s) =
    made _ (made _ (record { is = omega (arith, flags_few f, (parameters_few d).is, (statements_few s).is) }))
member_few (constructor_with_super f d a s) =
    made _
    (made _
    (record {
      is = omega (arith, flags_few f, (parameters_few d).is, (arguments_few a).is, begun _ _ (statements_few s));
    }))

members_few : {N N1 : List Node} {i o : List Lexeme} {ids : List ℕ} → MembersRead N i N1 o ids → Few 0 N i N1 o
members_few no_member = record { is = omega arith }
members_few (one_member_more b d) = record { is = omega (arith, (members_few b).is, (member_few d).is) }

class_few : {N N1 : List Node} {i o : List Lexeme} {id : ℕ} → ClassRead N i N1 o id → Few 0 N i N1 o
class_few (class f h m) =
    made _ (record { is = omega (arith, flags_few f, (header_few h).is, (members_few m).is) })

classes_few : {N N1 : List Node} {i o : List Lexeme} {ids : List ℕ} → ClassesRead N i N1 o ids → Few 0 N i N1 o
classes_few no_class = record { is = omega arith }
classes_few (one_class_more b d) = record { is = omega (arith, (classes_few b).is, (class_few d).is) }

-- of a file
pub tree_few : {N N1 : List Node} {i : List Lexeme} {ids : List ℕ} → Tree N i N1 ids →
    length N1 ≤ length N + 3 * length i
tree_few (file d c) = omega (arith, imports_shrink d, (classes_few c).is)
tree_few (file_of_package p d c) = omega (arith, dotted_shrinks p, imports_shrink d, (classes_few c).is)
