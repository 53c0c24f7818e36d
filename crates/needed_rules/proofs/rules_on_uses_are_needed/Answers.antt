use Rattle.needed_rules.proofs.Rows.{e1_new_is_needed, e2_call_is_needed, e3_argument_is_needed, e4_assign_is_needed, e5_store_is_needed, e6_return_is_needed, e7_enter_is_needed, e8_execute_is_needed, e10_array_is_needed}
use Rattle.needed_rules.proofs.rules_on_uses_are_needed.Goals as goal

pub returns : goal.returns
returns c =
    record {
      new = e1_new_is_needed;
      call = e2_call_is_needed;
      argument = e3_argument_is_needed;
      assign = e4_assign_is_needed;
      store = e5_store_is_needed;
      return_ = e6_return_is_needed;
      enter = e7_enter_is_needed;
      execute_in_area = e8_execute_is_needed;
      array = e10_array_is_needed;
    }
