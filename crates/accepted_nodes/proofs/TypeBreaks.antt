-- What the rules on types say of a node that breaks none, kind by kind.
use Rattle.std.proofs.Common.{◌≡◌, ℕ, List, [], ◌++◌, Option, Some, false, not, ◌&&◌}
use Rattle.scj_base.specs.declared.findings.Rule.TheVariants.{T1, T3, T4, T5, T6, T7, T9, T11, T12, T13, T14}
use Rattle.scj_base.specs.declared.positions.Position.{Position}
use Rattle.scj_tree.specs.declared.nodes.Node.TheVariants.{SuperCall, Assign, Return, Binary, Unary, Cast, SimpleName, FieldAccess, Call, Element, New, NewArray, This as ThisNode}
use Rattle.scj_rules.specs.Definitions.{read}
use Rattle.scj_rules.specs.Words.{broken, holds}
use Rattle.scj_rules.specs.Contexts.{Declarations, has_object}
use Rattle.scj_rules.specs.Types.{meaning, receiver, call_receiver, is_no_reference, kind_is, is_form}
use Rattle.scj_rules.specs.TypeRules.{Types, t1, t2, t3, t4, t5, t6, t7, t8, t9, t10, t11, t12, t13, t14, type_breaks, denotes_no_declaration, misfits_operands, misfits_operand, misfits_index, misfits_length, typed_call, lacks_field, lacks_method, misfits_method, misfits_new, misfits_super_call, misfits_assignment, misfits_result, makes_no_object, misfits_cast, is_instance_field, lacks_object_of_field, lacks_object_of_method, is_misplaced_form, element_class}
use Rattle.accepted_laws.proofs.Breaks.{both_empty, right}

module _ (p : Declarations) (types : Types) (id : ℕ) where
  pub record RightName (name : List ℕ) : Type 0 where
    pub means_something : denotes_no_declaration (meaning p id name) ≡ false
    pub has_object : (is_instance_field (meaning p id name) && not (has_object p id)) ≡ false

  pub right_name : (position : Position) (name : List ℕ) → type_breaks p types id (SimpleName position name) ≡ [] → RightName name
  unfolding type_breaks t1 t2 t3 t4 t5 t6 t7 t8 t9 t10 t11 t12 t13 t14
  right_name position name e =
      let one = both_empty (broken (denotes_no_declaration (meaning p id name)) T1 position) (broken (is_instance_field (meaning p id name) && not (has_object p id)) T13 position ++ []) e in
      let two = both_empty (broken (is_instance_field (meaning p id name) && not (has_object p id)) T13 position) [] one.1 in
      record { means_something = right _ _ _ one.0; has_object = right _ _ _ two.0 }

  pub right_this : (position : Position) → type_breaks p types id (ThisNode position) ≡ [] → not (has_object p id) ≡ false
  unfolding type_breaks t1 t2 t3 t4 t5 t6 t7 t8 t9 t10 t11 t12 t13 t14
  right_this position e = right _ _ _ (both_empty (broken (not (has_object p id)) T13 position) [] e).0

  pub right_binary : (position : Position) (operator left operand : ℕ) → type_breaks p types id (Binary position operator left operand) ≡ [] → misfits_operands p types operator left operand ≡ false
  unfolding type_breaks t1 t2 t3 t4 t5 t6 t7 t8 t9 t10 t11 t12 t13 t14
  right_binary position operator left operand e = right _ _ _ (both_empty (broken (misfits_operands p types operator left operand) T3 position) [] e).0

  pub right_unary : (position : Position) (operator operand : ℕ) → type_breaks p types id (Unary position operator operand) ≡ [] → misfits_operand types operator operand ≡ false
  unfolding type_breaks t1 t2 t3 t4 t5 t6 t7 t8 t9 t10 t11 t12 t13 t14
  right_unary position operator operand e = right _ _ _ (both_empty (broken (misfits_operand types operator operand) T3 position) [] e).0

  pub right_element : (position : Position) (array index : ℕ) → type_breaks p types id (Element position array index) ≡ [] → misfits_index types array index ≡ false
  unfolding type_breaks t1 t2 t3 t4 t5 t6 t7 t8 t9 t10 t11 t12 t13 t14
  right_element position array index e = right _ _ _ (both_empty (broken (misfits_index types array index) T3 position) [] e).0

  pub right_cast : (position name_position : Position) (name : List ℕ) (operand : ℕ) → type_breaks p types id (Cast position name_position name operand) ≡ [] → misfits_cast p types name operand ≡ false
  unfolding type_breaks t1 t2 t3 t4 t5 t6 t7 t8 t9 t10 t11 t12 t13 t14
  right_cast position name_position name operand e = right _ _ _ (both_empty (broken (misfits_cast p types name operand) T12 position) [] e).0

  pub record RightNewArray (element size : ℕ) : Type 0 where
    pub right_length : misfits_length types size ≡ false
    pub no_form : holds (read p.nodes (element_class p) element) (kind_is is_form p) ≡ false

  pub right_new_array : (position : Position) (element size : ℕ) → type_breaks p types id (NewArray position element size) ≡ [] → RightNewArray element size
  unfolding type_breaks t1 t2 t3 t4 t5 t6 t7 t8 t9 t10 t11 t12 t13 t14
  right_new_array position element size e =
      let one = both_empty (broken (misfits_length types size) T3 position) (broken (holds (read p.nodes (element_class p) element) (kind_is is_form p)) T14 position) e in
      record { right_length = right _ _ _ one.0; no_form = right _ _ _ one.1 }

  pub record RightAccess (object : ℕ) (name : List ℕ) : Type 0 where
    pub of_reference : holds (receiver p types object) is_no_reference ≡ false
    pub has_field : holds (receiver p types object) (λ r. lacks_field p r name) ≡ false
    pub has_object : holds (receiver p types object) (lacks_object_of_field p id name) ≡ false

  pub right_access : (position : Position) (name : List ℕ) (object : ℕ) → type_breaks p types id (FieldAccess position name object) ≡ [] → RightAccess object name
  unfolding type_breaks t1 t2 t3 t4 t5 t6 t7 t8 t9 t10 t11 t12 t13 t14
  right_access position name object e =
      let one = both_empty (broken (holds (receiver p types object) is_no_reference) T3 position) (broken (holds (receiver p types object) (λ r. lacks_field p r name)) T4 position ++ (broken (holds (receiver p types object) (lacks_object_of_field p id name)) T13 position ++ [])) e in
      let two = both_empty (broken (holds (receiver p types object) (λ r. lacks_field p r name)) T4 position) (broken (holds (receiver p types object) (lacks_object_of_field p id name)) T13 position ++ []) one.1 in
      let three = both_empty (broken (holds (receiver p types object) (lacks_object_of_field p id name)) T13 position) [] two.1 in
      record { of_reference = right _ _ _ one.0; has_field = right _ _ _ two.0; has_object = right _ _ _ three.0 }

  pub record RightCall (object : Option ℕ) (arguments : List ℕ) (name : List ℕ) : Type 0 where
    pub of_reference : typed_call p types id object arguments is_no_reference ≡ false
    pub has_method : typed_call p types id object arguments (λ r. lacks_method p r name) ≡ false
    pub arguments_fit : holds (call_receiver p types id object) (λ r. misfits_method p types r name arguments) ≡ false
    pub has_object : typed_call p types id object arguments (lacks_object_of_method p id name) ≡ false

  pub right_call : (position : Position) (name : List ℕ) (object : Option ℕ) (arguments : List ℕ) → type_breaks p types id (Call position name object arguments) ≡ [] → RightCall object arguments name
  unfolding type_breaks t1 t2 t3 t4 t5 t6 t7 t8 t9 t10 t11 t12 t13 t14
  right_call position name object arguments e =
      let one = both_empty (broken (typed_call p types id object arguments is_no_reference) T3 position) (broken (typed_call p types id object arguments (λ r. lacks_method p r name)) T5 position ++ (broken (holds (call_receiver p types id object) (λ r. misfits_method p types r name arguments)) T6 position ++ (broken (typed_call p types id object arguments (lacks_object_of_method p id name)) T13 position ++ []))) e in
      let two = both_empty (broken (typed_call p types id object arguments (λ r. lacks_method p r name)) T5 position) (broken (holds (call_receiver p types id object) (λ r. misfits_method p types r name arguments)) T6 position ++ (broken (typed_call p types id object arguments (lacks_object_of_method p id name)) T13 position ++ [])) one.1 in
      let three = both_empty (broken (holds (call_receiver p types id object) (λ r. misfits_method p types r name arguments)) T6 position) (broken (typed_call p types id object arguments (lacks_object_of_method p id name)) T13 position ++ []) two.1 in
      let four = both_empty (broken (typed_call p types id object arguments (lacks_object_of_method p id name)) T13 position) [] three.1 in
      record { of_reference = right _ _ _ one.0; has_method = right _ _ _ two.0; arguments_fit = right _ _ _ three.0; has_object = right _ _ _ four.0 }

  pub record RightNew (name : List ℕ) (arguments : List ℕ) : Type 0 where
    pub arguments_fit : misfits_new p types id name arguments ≡ false
    pub makes_object : makes_no_object p types name arguments ≡ false
    pub no_form : is_misplaced_form p id name ≡ false

  pub right_new : (position name_position : Position) (name arguments : List ℕ) → type_breaks p types id (New position name_position name arguments) ≡ [] → RightNew name arguments
  unfolding type_breaks t1 t2 t3 t4 t5 t6 t7 t8 t9 t10 t11 t12 t13 t14
  right_new position name_position name arguments e =
      let one = both_empty (broken (misfits_new p types id name arguments) T6 position) (broken (makes_no_object p types name arguments) T11 position ++ broken (is_misplaced_form p id name) T14 position) e in
      let two = both_empty (broken (makes_no_object p types name arguments) T11 position) (broken (is_misplaced_form p id name) T14 position) one.1 in
      record { arguments_fit = right _ _ _ one.0; makes_object = right _ _ _ two.0; no_form = right _ _ _ two.1 }

  pub right_super_call : (position : Position) (arguments : List ℕ) → type_breaks p types id (SuperCall position arguments) ≡ [] → misfits_super_call p types id arguments ≡ false
  unfolding type_breaks t1 t2 t3 t4 t5 t6 t7 t8 t9 t10 t11 t12 t13 t14
  right_super_call position arguments e = right _ _ _ (both_empty (broken (misfits_super_call p types id arguments) T6 position) [] e).0

  pub right_assign : (position : Position) (target value : ℕ) → type_breaks p types id (Assign position target value) ≡ [] → misfits_assignment p types target value ≡ false
  unfolding type_breaks t1 t2 t3 t4 t5 t6 t7 t8 t9 t10 t11 t12 t13 t14
  right_assign position target value e = right _ _ _ (both_empty (broken (misfits_assignment p types target value) T7 position) [] e).0

  pub right_return : (position : Position) (value : ℕ) → type_breaks p types id (Return position (Some value)) ≡ [] → misfits_result p types id value ≡ false
  unfolding type_breaks t1 t2 t3 t4 t5 t6 t7 t8 t9 t10 t11 t12 t13 t14
  right_return position value e = right _ _ _ (both_empty (broken (misfits_result p types id value) T9 position) [] e).0
