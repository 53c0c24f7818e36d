-- What an operation puts in front of the rest, by its choice.
use Rattle.std.proofs.Common.{◌≡◌, ℕ, Bool, true, false, List, [], ◌∷◌, ◌++◌, Option, Some, None, option_map, slice_get, if◌then◌else◌, refl, sym, ap, ◌∙◌, append_assoc}
use Rattle.scj_tree.specs.declared.nodes.Node.{Node}
use Rattle.scj_tree.specs.declared.nodes.Node.TheVariants.{Binary, If, While, For}
use Rattle.scj_rules.specs.Words.{◌>>=◌}
use Rattle.scj_tree.specs.Forest.{Forest}
use Rattle.scj_model.specs.declared.operations.Op.{Op}
use Rattle.scj_model.specs.declared.operations.Op.TheVariants.{And as AND, Or as OR, If as IF, Loop as LOOP}
use Rattle.scj_model.specs.Code.{Code, code_of}
use Rattle.scj_model.specs.Ops.{ops_of, right_operand, if_parts, optional_ops, iteration_ops, put_in_front}
use Rattle.op_list.proofs.CodeLemmas.{nodes_are}
use Rattle.op_list.specs.declared.choices.TwoParts.{TwoParts}
use Rattle.op_list.specs.declared.choices.TurnParts.{TurnParts}
use Rattle.op_list.specs.declared.choices.Choice.{Choice}
use Rattle.op_list.specs.declared.choices.Choice.TheVariants.{Plain, Either, Turn}
use Rattle.op_list.specs.Choices.{and_choice, or_choice, if_choice, loop_choice, choice_at, choice_of}

module _ (code : Code) where
  -- what is put in front by a choice, if anything is asked
  unfoldable pub front_of : Op → Choice → Bool → Option (List Op)
  front_of op Plain condition = None
  front_of op (Either parts) condition =
      Some (if condition then optional_ops code parts.on_true else optional_ops code parts.on_false)
  front_of op (Turn parts) condition =
      Some (if condition then ops_of code parts.body
      ++ (optional_ops code parts.step ++ (ops_of code parts.test ++ op ∷ [])) else [])

  and_front : (op : Op) (condition : Bool) (o : Option Node) →
      option_map (λ right. if condition then ops_of code right else []) (o >>= right_operand)
      ≡ front_of op (elim o [ None ↦ Plain | Some node ↦ and_choice node ]) condition
  unfolding right_operand and_choice front_of optional_ops
  and_front op condition None = refl
  and_front op true (Some (Binary position operator left right)) = refl
  and_front op false (Some (Binary position operator left right)) = refl
  and_front op condition (Some _) = refl

  or_front : (op : Op) (condition : Bool) (o : Option Node) →
      option_map (λ right. if condition then [] else ops_of code right) (o >>= right_operand)
      ≡ front_of op (elim o [ None ↦ Plain | Some node ↦ or_choice node ]) condition
  unfolding right_operand or_choice front_of optional_ops
  or_front op condition None = refl
  or_front op true (Some (Binary position operator left right)) = refl
  or_front op false (Some (Binary position operator left right)) = refl
  or_front op condition (Some _) = refl

  if_front : (op : Op) (condition : Bool) (o : Option Node) →
      option_map (λ (parts : ℕ × Option ℕ). if condition then ops_of code parts.0 else optional_ops code parts.1)
      (o >>= if_parts)
      ≡ front_of op (elim o [ None ↦ Plain | Some node ↦ if_choice node ]) condition
  unfolding if_parts if_choice front_of optional_ops
  if_front op condition None = refl
  if_front op true (Some (If position test then_part else_part)) = refl
  if_front op false (Some (If position test then_part else_part)) = refl
  if_front op condition (Some _) = refl

  loop_front : (id : ℕ) (condition : Bool) (o : Option Node) →
      option_map (λ turn. if condition then turn else []) (o >>= iteration_ops code id)
      ≡ front_of (LOOP id) (elim o [ None ↦ Plain | Some node ↦ loop_choice node ]) condition
  unfolding iteration_ops loop_choice front_of optional_ops
  loop_front id condition None = refl
  loop_front id true (Some (While position test body)) = refl
  loop_front id false (Some (While position test body)) = refl
  loop_front id true (Some (For position first test step body)) = refl
  loop_front id false (Some (For position first test step body)) = refl
  loop_front id condition (Some _) = refl

  pub goes : (op : Op) (condition : Bool) → put_in_front code op condition
      ≡ front_of op (choice_of code.program.nodes op) condition
  unfolding put_in_front choice_of choice_at front_of
  goes (AND id) condition = and_front (AND id) condition (slice_get code.program.nodes id)
  goes (OR id) condition = or_front (OR id) condition (slice_get code.program.nodes id)
  goes (IF id) condition = if_front (IF id) condition (slice_get code.program.nodes id)
  goes (LOOP id) condition = loop_front id condition (slice_get code.program.nodes id)
  goes _ condition = refl

-- the same over the nodes of a forest
pub forest_goes : (forest : Forest) (op : Op) (condition : Bool) →
    put_in_front (code_of forest) op condition ≡ front_of (code_of forest) op (choice_of forest.nodes op) condition
forest_goes forest op condition =
    goes (code_of forest) op condition
    ∙ ap (λ nodes. front_of (code_of forest) op (choice_of nodes op) condition) (nodes_are forest)

pub plain_goes : (forest : Forest) (op : Op) → choice_of forest.nodes op ≡ Plain → (condition : Bool) →
    put_in_front (code_of forest) op condition ≡ None
unfolding front_of
plain_goes forest op e condition =
    forest_goes forest op condition ∙ ap (λ c. front_of (code_of forest) op c condition) e

pub either_true : (forest : Forest) (op : Op) (parts : TwoParts) → choice_of forest.nodes op ≡ Either parts →
    (front : List Op) → put_in_front (code_of forest) op true ≡ Some front →
    optional_ops (code_of forest) parts.on_true ≡ front
unfolding front_of
either_true forest op parts e front put =
    let is = sym (ap (λ c. front_of (code_of forest) op c true) e) ∙ sym (forest_goes forest op true) ∙ put in cc

pub either_false : (forest : Forest) (op : Op) (parts : TwoParts) → choice_of forest.nodes op ≡ Either parts →
    (front : List Op) → put_in_front (code_of forest) op false ≡ Some front →
    optional_ops (code_of forest) parts.on_false ≡ front
unfolding front_of
either_false forest op parts e front put =
    let is = sym (ap (λ c. front_of (code_of forest) op c false) e) ∙ sym (forest_goes forest op false) ∙ put in cc

pub turn_true : (forest : Forest) (op : Op) (parts : TurnParts) →
    choice_of forest.nodes op ≡ Turn parts →
    (front : List Op) → put_in_front (code_of forest) op true ≡ Some front →
    (ops_of (code_of forest) parts.body ++ (optional_ops (code_of forest) parts.step ++ ops_of (code_of forest) parts.test)) ++ op ∷ []
    ≡ front
unfolding front_of
turn_true forest op parts e front put =
    let code = code_of forest in
    let is : Some (ops_of code parts.body ++ (optional_ops code parts.step ++ (ops_of code parts.test ++ op ∷ []))) ≡ Some front =
    sym (ap (λ c. front_of (code_of forest) op c true) e) ∙ sym (forest_goes forest op true) ∙ put in
    let same : ops_of code parts.body ++ (optional_ops code parts.step ++ (ops_of code parts.test ++ op ∷ [])) ≡ front = cc in
    append_assoc (ops_of code parts.body) (optional_ops code parts.step ++ ops_of code parts.test) (op ∷ [])
    ∙ ap (λ (os : List Op). ops_of code parts.body ++ os) (append_assoc (optional_ops code parts.step) (ops_of code parts.test) (op ∷ []))
    ∙ same

pub turn_false : (forest : Forest) (op : Op) (parts : TurnParts) →
    choice_of forest.nodes op ≡ Turn parts →
    (front : List Op) → put_in_front (code_of forest) op false ≡ Some front → [] ≡ front
unfolding front_of
turn_false forest op parts e front put =
    let is : Some [] ≡ Some front =
    sym (ap (λ c. front_of (code_of forest) op c false) e) ∙ sym (forest_goes forest op false) ∙ put in cc
