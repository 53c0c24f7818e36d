-- What the code of a checked program is.
use Rattle.std.proofs.Common.{◌≡◌, ℕ, [], ◌∷◌, ◌++◌, Option, Some, None, refl, ap}
use Rattle.scj_tree.specs.Forest.{Forest}
use Rattle.scj_rules.specs.Bindings.{bindings_in}
use Rattle.scj_rules.specs.Bodies.{class_of_body}
use Rattle.scj_rules.specs.Contexts.{declarations_of}
use Rattle.scj_model.specs.Code.{Code, code_of}
use Rattle.op_list.specs.declared.parts.Part.TheVariants.{Literals}
use Rattle.op_list.specs.Parts.{first_parts, body_parts, constructor_parts}

pub nodes_are : (forest : Forest) → (code_of forest).program.nodes ≡ forest.nodes
unfolding code_of declarations_of
nodes_are forest = refl

pub program_is : (forest : Forest) → (code_of forest).program ≡ declarations_of forest
unfolding code_of
program_is forest = refl

pub bindings_are : (forest : Forest) → (code_of forest).bindings ≡ bindings_in (declarations_of forest)
unfolding code_of
bindings_are forest = refl

pub constructor_is : (code : Code) (id : ℕ) (call body : Option ℕ) (class : ℕ) →
    class_of_body code.program id ≡ Some class →
    constructor_parts code id call body ≡ first_parts code class call ++ (Literals 0 class ∷ body_parts body)
unfolding constructor_parts
constructor_is code id call body class h =
    ap (λ (o : Option ℕ). elim o [
      | None ↦ []
      | Some class ↦ first_parts code class call ++ (Literals 0 class ∷ body_parts body)
    ]) h
