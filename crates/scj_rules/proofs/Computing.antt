-- All definitions of the rules open, so that small programs compute through them.
use Rattle.scj_tree.specs.Forest.{joined}
use Rattle.scj_tree.specs.Shape.{position_of, children}
use Rattle.scj_tree.specs.Recursion.{listed, joined_below, bottom_up, top_down}
use Rattle.scj_builtins.specs.Framework.{parameter_list, framework_classes, framework_methods}
use Rattle.scj_rules.specs.AnnotationRules.{scoped_variable_at, scoped_declaration_at, a1, a2_position, a2, field_rule, a3_to_a5, seen_in, parameters_differ, scopes_differ, a6_of, a7_and_a8_of, a6_to_a8, a9, annotation_breaks}
use Rattle.scj_rules.specs.Bindings.{array_class, variable_binding, field_binding, meaning_binding, access_binding, class_of_type, second_class, called_on, target, method_binding, binding_of, binding_at, bindings_in}
use Rattle.scj_rules.specs.ClassRules.{c1, c2, c3, c4, c5, is_same_type, class_written, narrower_kind, is_result_of, has_types_of, c6, abstract_methods, is_left_open, c7, safelets_from, c8_of, c8, c9_type, c9_element, c9, c10, inherits_as, numbers_from, is_framework_method, c11, class_breaks, node_breaks}
use Rattle.scj_rules.specs.Classes.{user_classes, class_names, class_number, result_written, parameter_written, framework_method, framework_methods_on, framework_row, framework_rows_from, superclass_written, user_row, written_rows, superclasses, classes_above, all_interfaces, is_super, is_sub, own_field, field_named, own_method, method_named as method_named_of_Classes, method_above, framework_row_named, own_instance_fields, instance_fields, hidden_fields, field_nodes, field_number, method_nodes, method_number, kinds_of, more_than_one, is_extended, is_implemented, forbidden_interfaces, forbidden_supers, is_empty, is_well_headed, counted_row, counted_from}
use Rattle.scj_rules.specs.Contexts.{number_of_class, last_variable, parameter_nodes, declared_before, is_member, is_super_call, object_of, child_context, parent_in, context_of, contexts_in, declarations_of, known_variables, variable_named, member_flags, has_object}
use Rattle.scj_rules.specs.Definitions.{flags_of, define_scope_of, values_of, written_of, definition_with, definition_of, definitions_in, definitions, is_reserved, first_definition}
use Rattle.scj_rules.specs.Guards.{subject_of_meaning, subject_of, are_same_subject, condition_of, asked_by, is_first_part, ifs_around, assigned_by, guard_at, is_guarded, field_of_this, stored_field, is_guarded_store}
use Rattle.scj_rules.specs.LimitRules.{variables_of, k1, k2, k3, k4, class_limits, node_limits}
use Rattle.scj_rules.specs.Phases.{over_nodes, at_class, over_classes, class_phase, type_phase, scope_phase, use_phase}
use Rattle.scj_rules.specs.ScopeRules.{scope_number, definition_in, defined_by, defined_by_chain, parent_scope, is_outer, s1, s2, s3, s4, scope_written_in, scope_written_on_chain, misfits_parent, s5, s6, definition_breaks, scope_breaks}
use Rattle.scj_rules.specs.StaticScopes.{are_same_scope, beside, fits, substitute, is_implied_immortal, differs_from_above, scope_of_right_class, class_scope_under, class_scope_on, class_scope, this_in, written_scope, differs_from, fixed_runs_in, fixed_for, has_unknown_runs_in, is_inherited_by_safelet, has_other_runs_in, default_runs_in, free_runs_in, runs_in, current_in, has_no_scope, type_scope, is_unannotated, is_unknown_scope, contradicts, scope_as_written, declaration_scope, is_outer_of, suits_field, misfits_field, field_scope, resolve_name, denotes_nothing, resolve_at, fixed_scope}
use Rattle.scj_rules.specs.TypeRules.{type_of_meaning, access_type, call_type, type_of, denotes_no_declaration, t1, t2, t3, lacks_field, t4, lacks_method, t5, misfits_method, misfits_new, misfits_class, t6, is_length_target, t7, t8, result_of_member, result_at, t9, t10, t11, t12, is_instance_field, t13, element_class, is_number, returns_number, is_size_body, misfits_size, t14, type_breaks, type_of_right, type_of_next, types_in}
use Rattle.scj_rules.specs.Types.{type_written, are_same, is_reference, is_array, assigns, element_type, array_of, binary_type, unary_type, class_meaning, meaning, class_in, class_at_name, receiver, call_receiver, class_of_receiver, names_class, is_value, type_of_receiver, accepts_arguments, all_types, constructor_in, constructor_parameters, is_concrete, is_form, new_of, periodic_part, release_part, form_parts, form_in, is_form_part, is_true_literal, returns_of}
use Rattle.scj_rules.specs.UseRules.{current_at, receiver_scope, scope_of_field, scope_of_meaning, scope_of_new, scope_in_class, scope_of_call, scope_of_element, scope_of, scope_of_next, scopes_in, e1, misfits_runs_in, e2, misfit_arguments, e3_of_call, e3_of_constructor, e3, target_of_meaning, target_rule, e4_and_e5, result_scope_at, e6, misfits_entered, misfits_enter, e7, is_named_scope, misfits_execute, e8, e9, is_outer_of_current, misfits_element, e10, use_breaks}
use Rattle.scj_rules.specs.Views.{modifiers_of, type_of_node, named_super, named_supers, variable_of, field_of, parameters_of, method_of, super_arguments, constructor_of, callable_name, class_of}
use Rattle.scj_rules.specs.Words.{along, chain, chain_behind, named_twice}

unfoldable pub computing : Unit {0}
unfolding joined position_of children listed joined_below bottom_up top_down framework_classes framework_methods
    scoped_variable_at scoped_declaration_at a1 a2_position a2 field_rule a3_to_a5 seen_in parameters_differ scopes_differ
    a6_of a7_and_a8_of a6_to_a8 a9 annotation_breaks array_class variable_binding field_binding meaning_binding
    access_binding class_of_type second_class called_on target method_binding binding_of binding_at bindings_in c1 c2 c3
    c4 c5 is_same_type class_written narrower_kind is_result_of has_types_of c6 abstract_methods is_left_open c7
    safelets_from c8_of c8 c9_type c9_element c9 c10 inherits_as numbers_from is_framework_method c11 class_breaks
    node_breaks user_classes class_names class_number result_written parameter_written framework_method
    framework_methods_on framework_row framework_rows_from superclass_written user_row written_rows superclasses
    classes_above all_interfaces is_super is_sub own_field field_named own_method method_named_of_Classes method_above
    framework_row_named own_instance_fields instance_fields hidden_fields field_nodes field_number method_nodes
    method_number kinds_of more_than_one is_extended is_implemented forbidden_interfaces forbidden_supers is_empty
    is_well_headed counted_row counted_from number_of_class last_variable parameter_nodes declared_before is_member
    is_super_call object_of child_context parent_in context_of contexts_in declarations_of known_variables
    variable_named member_flags has_object flags_of define_scope_of values_of written_of definition_with definition_of
    definitions_in definitions is_reserved first_definition variables_of k1 k2 k3 k4 class_limits node_limits over_nodes
    at_class over_classes class_phase type_phase scope_phase use_phase scope_number definition_in defined_by
    defined_by_chain parent_scope is_outer s1 s2 s3 s4 scope_written_in scope_written_on_chain misfits_parent s5 s6
    definition_breaks scope_breaks are_same_scope beside fits substitute is_implied_immortal differs_from_above
    scope_of_right_class class_scope_under class_scope_on class_scope this_in written_scope differs_from fixed_runs_in
    fixed_for has_unknown_runs_in is_inherited_by_safelet has_other_runs_in default_runs_in free_runs_in runs_in
    current_in has_no_scope type_scope is_unannotated is_unknown_scope contradicts scope_as_written declaration_scope
    is_outer_of suits_field misfits_field field_scope type_of_meaning access_type call_type type_of
    denotes_no_declaration t1 t2 t3 lacks_field t4 lacks_method t5 misfits_method misfits_new misfits_class t6
    is_length_target t7 t8 result_of_member result_at t9 t10 t11 t12 is_instance_field t13 element_class is_number
    returns_number is_size_body misfits_size t14 type_breaks type_of_right type_of_next types_in type_written are_same
    is_reference is_array assigns element_type array_of binary_type unary_type class_meaning meaning class_in
    class_at_name receiver call_receiver class_of_receiver names_class is_value type_of_receiver accepts_arguments
    all_types constructor_in constructor_parameters is_concrete is_form new_of periodic_part release_part form_parts
    form_in is_form_part is_true_literal returns_of current_at receiver_scope scope_of_field scope_of_meaning
    scope_of_new scope_in_class scope_of_call scope_of_element scope_of scope_of_next scopes_in e1 misfits_runs_in e2
    misfit_arguments e3_of_call e3_of_constructor e3 target_of_meaning target_rule e4_and_e5 result_scope_at e6
    misfits_entered misfits_enter e7 is_named_scope misfits_execute e8 e9 is_outer_of_current misfits_element e10
    use_breaks modifiers_of type_of_node named_super named_supers variable_of field_of parameters_of method_of
    super_arguments constructor_of callable_name class_of along chain chain_behind named_twice resolve_name
    denotes_nothing resolve_at parameter_list fixed_scope subject_of_meaning subject_of are_same_subject condition_of
    asked_by is_first_part ifs_around assigned_by guard_at is_guarded field_of_this stored_field is_guarded_store
computing = tt
