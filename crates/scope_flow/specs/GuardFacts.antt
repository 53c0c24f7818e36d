-- What an accepted program has of guards: the operations of its bodies, and of the parts that conditions put in front.
use Rattle.std.specs.Prelude.{◌≡◌, ℕ, List, [], ◌∷◌, slice_get, Option, Some, None}
use Rattle.scj_tree.specs.declared.nodes.Node.{Node}
use Rattle.scj_rules.specs.declared.views.Body.TheVariants.{Written}
use Rattle.scj_rules.specs.Guards.{ifs_around}
use Rattle.accepted_laws.specs.Judgements.{Inside}
use Rattle.scj_model.specs.declared.operations.Op.{Op}
use Rattle.scj_model.specs.Code.{Code, part}
use Rattle.scj_model.specs.Ops.{right_operand, if_parts, iteration_ops, ops_of}
use Rattle.scope_flow.specs.Flow.{AreLoopParts}
use Rattle.scope_flow.specs.Guards.{Rest, Adds}
use Rattle.scope_flow.specs.Signatures.{Signature, IsBody}

-- a node stands in the first parts of these `if`s
abbrev pub StandingIn : Code → ℕ → List ℕ
StandingIn code id = ifs_around code.program.nodes id

pub record GuardFacts (code : Code) : Type 0 where
  -- a body stands in the first part of no `if`
  pub bodies : (b c : ℕ) (sig : Signature) → IsBody code.program b c sig → Rest code (Written b) [] (ops_of code b)
  -- the right operand of `&&` and `||`, the second part of an `if` and the parts of a loop stand where the node does
  pub rights : (b c id right : ℕ) → part code right_operand id ≡ Some right → Inside code.program b c right →
      Adds code (Written b) (StandingIn code id) (ops_of code right)
  pub seconds : (b c id first second : ℕ) → part code if_parts id ≡ Some (first, Some second) →
      Inside code.program b c second → Adds code (Written b) (StandingIn code id) (ops_of code second)
  pub turns : (b c id : ℕ) (known : List ℕ) (node : Node) (turn : List Op) →
      slice_get code.program.nodes id ≡ Some node → AreLoopParts code.program b c known node →
      iteration_ops code id node ≡ Some turn → Adds code (Written b) (StandingIn code id) turn
  -- the first part of an `if` stands in that too
  pub firsts : (b c id : ℕ) (parts : ℕ × Option ℕ) → part code if_parts id ≡ Some parts →
      Inside code.program b c parts.0 → Adds code (Written b) (id ∷ StandingIn code id) (ops_of code parts.0)
