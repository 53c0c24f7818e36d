-- What the proofs on the machine share.
use Rattle.std.proofs.Common.{ap}
use Rattle.std.specs.Prelude.{Bool, List, None, Option, Some, [], false, if◌then◌else◌, true, ◌∷◌, ◌≡◌}
use Rattle.parser_machine.specs.Blocks.{block_ended, first_start, local_ended, local_named_step, name_bracket_step, name_first_step, return_step, statement_sign, statement_start, statement_word, statements_step, target_start, test_open_step}
use Rattle.parser_machine.specs.Closing.{admits, argument_ended, arguments_ended, assigned, closed, ended, operation, shifted, target_alone, target_assigned, target_ended}
use Rattle.parser_machine.specs.Declarations.{annotation_named, at_step, class_start, constructor_step, declaration_start, define_assign_step, define_name_step, define_open_step, define_other_assign_step, define_other_step, define_scope_named, element_node, flags_ended, flags_step, member_start, member_word, other_word, pair_ended, plain_assigned_step, plain_dot_step, plain_end_step, plain_ended, plain_first_step, plain_name_step, plain_next_step, plain_open_step, plain_path_step, plain_value_step, plain_without, runs_in_named, scope_named, type_argument_end_step, type_argument_name_step, type_bracket_step, type_end_step, type_name_step, type_start, typed, value_dot_step, value_end_step, value_open_step, value_scope_step, value_start_step, valued}
use Rattle.parser_machine.specs.Files.{class_name_step, class_named_step, class_opened, classes_step, file_start_step, import_dot_step, import_end_step, import_name_step, import_star_step, import_start_step, imports_step, interface_sign, package_end_step, package_name_step, super_argument_end_step, super_argument_name_step, super_ended, super_name_step, super_named_step, superclass_sign}
use Rattle.parser_machine.specs.Machine.{Parsed, answer, finished, step, step_mode}
use Rattle.parser_machine.specs.Members.{body_step, class_ended, constructor_start_step, field_ended, is_else, literal_end_step, literal_minus_step, literal_step, literal_word, member_ended, member_named_step, member_read, members_step, method_named_step, parameter_end_step, parameter_ended, parameters_end_step, parameters_first_step, result_step, statement_ended, super_end_step, super_open_step}
use Rattle.parser_machine.specs.Operands.{argument_first_step, argument_start, awaits_target, closed_name_step, compound_step, dot_name_step, dot_step, is_operand_start, minus_step, name_sign_step, name_step, new_element_step, new_name_step, new_step, no_arguments_step, opened_name_step, opened_step, operand_sign, operand_start, operand_word, post_ended, post_step, stepping_step, target_name_step, text_step}
use Rattle.parser_machine.specs.States.{State, level_of}
use Rattle.scj_tree.specs.Lexemes.{Lexeme}
use Rattle.scj_tree.specs.Terminals.{add_modifier, begins_local_flags, begins_unary1, begins_with_minimum, begins_with_sign, begins_with_word, closes_name, compound, indexable, is_effectless, is_unary1_start, level, placed, stepping, has_type_argument, with_define_scope, with_modifier, with_runs_in, with_scope}

-- what a rest of lexemes gives, where the first of them is taken so
unfoldable pub next : (Lexeme → Option State) → List Lexeme → Option Parsed
next f [] = None
next f (t ∷ o) = elim (f t) [ Some st ↦ answer st o | None ↦ None ]

-- and where the state is known or there is none
unfoldable pub after : Option State → List Lexeme → Option Parsed
after r o = elim r [ Some st ↦ answer st o | None ↦ None ]

-- a test that fails, one that holds, and a choice that is known
pub fails : (b : Bool) (x y : Option State) (o : List Lexeme) → b ≡ false → after (if b then x else y) o ≡ after y o
fails b x y o e = ap (λ c. after (if c then x else y) o) e

pub holds : (b : Bool) (x y : Option State) (o : List Lexeme) → b ≡ true → after (if b then x else y) o ≡ after x o
holds b x y o e = ap (λ c. after (if c then x else y) o) e

pub is_some_there : {A : Type 0} (r : Option A) (a : A) (f : A → Option State) (y : Option State) (o : List Lexeme) →
    r ≡ Some a → after (elim r [ Some x ↦ f x | None ↦ y ]) o ≡ after (f a) o
is_some_there r a f y o e = ap (λ c. after (elim c [ Some x ↦ f x | None ↦ y ]) o) e

pub is_none_there : {A : Type 0} (r : Option A) (f : A → Option State) (y : Option State) (o : List Lexeme) → r ≡ None →
    after (elim r [ Some x ↦ f x | None ↦ y ]) o ≡ after y o
is_none_there r f y o e = ap (λ c. after (elim c [ Some x ↦ f x | None ↦ y ]) o) e

-- the definitions of the machine, to be unfolded together
unfoldable pub machine : Type 0
unfolding next after target_start first_start name_first_step name_bracket_step local_ended local_named_step
    test_open_step return_step statement_word statement_sign statement_start block_ended statements_step assigned
    arguments_ended argument_ended target_assigned target_alone target_ended ended admits operation shifted closed
    element_node typed type_end_step type_bracket_step constructor_step type_name_step type_argument_name_step
    type_argument_end_step type_start member_word member_start class_start declaration_start flags_ended flags_step
    scope_named runs_in_named define_scope_named annotation_named at_step plain_ended plain_without plain_open_step
    pair_ended plain_value_step plain_next_step plain_first_step plain_path_step plain_name_step plain_assigned_step
    plain_dot_step plain_end_step valued value_end_step value_open_step value_start_step value_scope_step value_dot_step
    define_open_step define_name_step define_assign_step other_word define_other_step define_other_assign_step
    package_name_step package_end_step import_name_step import_start_step import_dot_step import_end_step
    import_star_step classes_step imports_step file_start_step class_name_step class_opened class_named_step
    super_name_step superclass_sign interface_sign super_ended super_named_step super_argument_name_step
    super_argument_end_step step_mode step finished answer member_read member_named_step literal_word literal_step
    literal_minus_step field_ended literal_end_step result_step method_named_step parameters_first_step parameter_ended
    parameter_end_step body_step parameters_end_step constructor_start_step super_open_step super_end_step class_ended
    members_step member_ended is_else statement_ended awaits_target post_ended post_step dot_step dot_name_step
    compound_step stepping_step target_name_step name_sign_step name_step operand_word operand_sign operand_start
    is_operand_start minus_step opened_step opened_name_step closed_name_step new_step new_name_step new_element_step
    argument_start no_arguments_step argument_first_step text_step level_of level compound stepping indexable placed
    with_define_scope with_scope with_runs_in with_modifier add_modifier is_effectless has_type_argument
    begins_with_word begins_with_sign is_unary1_start begins_unary1 closes_name begins_with_minimum begins_local_flags
machine = Unit {0}
