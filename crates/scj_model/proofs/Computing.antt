-- All definitions of the machine open, so that small programs run through them.
use Rattle.std.specs.Fmt.{digits}
use Rattle.scj_base.specs.RunFault.{text_of as fault_text}
use Rattle.scj_model.specs.Code.{code_of}
use Rattle.scj_model.specs.Reading.{row_at, reading}
use Rattle.scj_model.specs.State.{activity_in, activity_of, is_waiting, is_started, with_activity, is_init, is_exec, is_over}
use Rattle.scj_model.specs.Registry.{handler_number, aperiodic_of, number_in, hidden_number, has_period, kind_by}
use Rattle.scj_model.specs.Memory.{literal_value, default_value, hidden_values, new_slots, used, has_room, reserved, has_store_for, closed, lies_in, area_with_scope}
use Rattle.scj_model.specs.Steps.{for_each, closed_all, job_ended, fault_in, opening, allocating}
use Rattle.scj_model.specs.Arithmetic.{entry, int_operators, comparisons, are_equal, of_ints, on_ints, binary_value, is_zero, unary_value}
use Rattle.scj_model.specs.Ops.{name_ops, access_ops, binary_ops, new_ops, receiver_ops, builtin_ops, call_ops, leaves_value, assign_ops, return_ops, method_ops, super_ops, unwritten_super_ops, literal_ops, constructor_ops, node_ops, next_ops, ops_of, body_ops, right_operand, if_parts, optional_ops, iteration_ops, put_in_front, node_of}
use Rattle.scj_model.specs.Effects.{new_frame, monitor_of}
use Rattle.scj_model.specs.Operations.{bound_local, bound_field, bound_static, bound_class, bound_method, bound_static_method, operator_of, assigned_node, argument_count, first_argument, effect_of}
use Rattle.scj_model.specs.Apply.{ceiling_entered, called, opened_in, returned, frame_left, release_taken, registered, released, dropped_release, termination, termination_asked, applied}
use Rattle.scj_model.specs.Sequencer.{innermost, without_innermost, area_opened, safelet_made, body_called, sequencer_op, transition, seq_applied, phase_after}
use Rattle.scj_model.specs.Arrivals.{is_due_after, is_due, comes_at, comes_in, executes_since, numbers_where, handlers_due, fires_due, due_handlers, fired_handler, fired, arrivals}
use Rattle.scj_model.specs.Choice.{candidate, candidates_from, candidates, most_urgent, chosen, by_priority, may_act, by_list}
use Rattle.scj_model.specs.Run.{frame_op, started_with, start_op, release_op_of, sequencer_turn, ref_op, is_same_turn, report_turn, turn_taken, turn_acts, acts, one_unit, first_static, empty_state, continued, one_more_unit, run, trace}
use Rattle.scj_model.specs.LastLine.{is_last_line}
use Rattle.scj_model.specs.TraceText.{bytes_of_text, words_of, unit_of, line_of, text}
use Rattle.scj_rules.proofs.RowsOfLayout.{computing_layout}

unfoldable pub computing_machine : Unit {0}
unfolding computing_layout digits fault_text code_of row_at reading activity_in activity_of is_waiting is_started with_activity is_init is_exec is_over handler_number aperiodic_of number_in hidden_number has_period kind_by literal_value default_value hidden_values new_slots used has_room reserved has_store_for closed lies_in area_with_scope for_each closed_all job_ended fault_in opening allocating entry int_operators comparisons are_equal of_ints on_ints binary_value is_zero unary_value name_ops access_ops binary_ops new_ops receiver_ops builtin_ops call_ops leaves_value assign_ops return_ops method_ops super_ops unwritten_super_ops literal_ops constructor_ops node_ops next_ops ops_of body_ops right_operand if_parts optional_ops iteration_ops put_in_front new_frame monitor_of bound_local bound_field bound_static bound_class bound_method bound_static_method operator_of assigned_node argument_count first_argument effect_of node_of ceiling_entered called opened_in returned frame_left release_taken registered released dropped_release termination termination_asked applied innermost without_innermost area_opened safelet_made body_called sequencer_op transition seq_applied phase_after is_due_after is_due comes_at comes_in executes_since numbers_where handlers_due fires_due due_handlers fired_handler fired arrivals candidate candidates_from candidates most_urgent chosen by_priority may_act by_list frame_op started_with start_op release_op_of sequencer_turn ref_op is_same_turn report_turn turn_taken turn_acts acts one_unit first_static empty_state continued one_more_unit run trace is_last_line bytes_of_text words_of unit_of line_of text
computing_machine = tt
