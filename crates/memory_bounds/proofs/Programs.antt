-- What holds of the code of an accepted program.
use Rattle.std.proofs.Common.{◌≡◌, ℕ}
use Rattle.scj_tree.specs.Forest.{Forest, ChildrenFirst}
use Rattle.scj_rules.specs.declared.views.Body.{Body}
use Rattle.scj_rules.specs.Contexts.{declarations_of}
use Rattle.accepted_laws.specs.Programs.{IsAcceptedProgram}
use Rattle.scj_model.specs.Code.{code_of}
use Rattle.memory_needs.specs.declared.answers.BoundAnswer.{BoundAnswer}
use Rattle.memory_needs.specs.Need.{HasNeed}
use Rattle.memory_needs.specs.Room.{HasRoom}
use Rattle.memory_needs.specs.Rows.{IsAnswer}
use Rattle.memory_needs.proofs.Agree.{need_is_one, room_is_one}
use Rattle.memory_bounds.proofs.OneAnswer.{answers_are_one}

module _ (forest : Forest) (accepted : IsAcceptedProgram forest) where
  pub first : ChildrenFirst 0 (code_of forest).program.nodes
  unfolding code_of declarations_of
  first = accepted.whole.children_first

  pub one_answer_of : (class : ℕ) (a b : BoundAnswer) → IsAnswer (code_of forest) class a →
      IsAnswer (code_of forest) class b → a ≡ b
  one_answer_of class a b x y = answers_are_one (code_of forest) first class a b x y

  pub one_need_of : (body : Body) (m n : ℕ) → HasNeed (code_of forest) body m → HasNeed (code_of forest) body n → m ≡ n
  one_need_of body m n x y = need_is_one (code_of forest) first body m n x y

  pub one_room_of : (body : Body) (m n : ℕ) → HasRoom (code_of forest) body m → HasRoom (code_of forest) body n → m ≡ n
  one_room_of body m n x y = room_is_one (code_of forest) first body m n x y
