-- The last operand of a form is the number of its storage, where that is written as a number.
use Rattle.std.specs.Prelude.{Option, Some, None, pos, slice_get}
use Rattle.std.proofs.Common.{◌≡◌, ℕ, List, [], ◌∷◌, ◌++◌, refl, ◌∙◌, ap, subst}
use Rattle.scj_base.specs.declared.positions.Position.{Position}
use Rattle.scj_base.specs.declared.values.Value.{Value}
use Rattle.scj_base.specs.declared.values.Value.TheVariants.{Int}
use Rattle.scj_tree.specs.declared.nodes.Node.{Node}
use Rattle.scj_tree.specs.declared.nodes.Node.TheVariants.{New, SuperCall}
use Rattle.scj_tree.specs.Forest.{AllBelow}
use Rattle.scj_tree.specs.Shape.{children}
use Rattle.scj_tree.proofs.RecursionLemmas.{by_smaller-is}
use Rattle.scj_rules.specs.Bodies.{number_literal}
use Rattle.scj_rules.specs.Words.{◌>>=◌}
use Rattle.scj_rules.specs.declared.typing.Binding.{Binding}
use Rattle.scj_rules.specs.declared.typing.Binding.TheVariants.{Plain}
use Rattle.accepted_laws.proofs.TypesBelow.{BehindChildren}
use Rattle.scj_model.specs.declared.operations.Op.TheVariants.{Params as PARAMS}
use Rattle.scj_model.specs.Code.{Code, binding, part}
use Rattle.certain_faults.specs.declared.known.Known.TheVariants.{Exactly}
use Rattle.certain_faults.specs.declared.known.Left.{Left}
use Rattle.certain_faults.specs.declared.known.Left.TheVariants.{Forgets, One}
use Rattle.certain_faults.specs.Known.{left_by, left_by_new, left_by_node, left_by_part, next_left}
use Rattle.certain_faults.proofs.Ends.{all_is, below_is}
use Rattle.certain_faults.proofs.Meets.{Operands}
use Rattle.certain_faults.proofs.Passes.{arguments_of, asked, left_below, with_parts}
use Rattle.certain_faults.proofs.Stacks.{Stack, nothing, with_all, with_left}
use Rattle.memory_bounds.proofs.Written.{highest, number_leaves}

all_last : (left : ℕ → Left) (front : List ℕ) (x : ℕ) (s : Stack) →
    with_all left (front ++ x ∷ []) s ≡ with_left (left x) (with_all left front s)
all_last left [] x s = refl
all_last left (y ∷ ys) x s = all_last left ys x (with_left (left y) s)

module _ (code : Code) (behind : BehindChildren code.program) where
  -- a part of a form with one number leaves that number
  pub part_leaves : (x argument n : ℕ) (position name_position : Position) (name : List ℕ) →
      slice_get code.program.nodes x ≡ Some (New position name_position name (argument ∷ [])) → binding code x ≡ Plain →
      part code number_literal argument ≡ Some n → left_by code x ≡ One (Exactly (Int (pos n)))
  unfolding left_by next_left left_by_node left_by_new left_by_part children AllBelow
  part_leaves x argument n position name_position name there plain written =
      by_smaller-is Forgets (next_left code) x
      ∙ (ap (λ (o : Option Node). elim o as (λ z. Left) [
        | None ↦ Forgets
        | Some node ↦ left_by_node code (left_below code x) x node
      ]) there
      ∙ (ap (λ (b : Binding). left_by_new (left_below code x) (argument ∷ []) b) plain
      ∙ (below_is code x argument (behind x (New position name_position name (argument ∷ [])) there).0
      ∙ number_leaves code argument n written)))

  -- and is the highest operand when the form is read
  pub storage_last : (id x n : ℕ) (front : List ℕ) (position : Position) →
      slice_get code.program.nodes id ≡ Some (SuperCall position (front ++ x ∷ [])) →
      left_by code x ≡ One (Exactly (Int (pos n))) → (operands : List Value) →
      Operands (asked code (PARAMS id)) operands → slice_get operands 0 ≡ Some (Int (pos n))
  unfolding asked arguments_of children
  storage_last id x n front position there leaves operands are =
      highest code (left_by code x) (Int (pos n)) (with_all (left_by code) front nothing) operands leaves
      (subst (λ (t : Stack). Operands t operands)
      (ap (with_parts code id) (ap (λ (o : Option Node). o >>= arguments_of) there)
      ∙ (all_is code id (front ++ x ∷ []) nothing (behind id (SuperCall position (front ++ x ∷ [])) there)
      ∙ all_last (left_by code) front x nothing)) are)
