use Rattle.std.proofs.Common.{◌≡◌, ℕ, List, Option, None, length, ap, ◌∙◌, arith}
use Rattle.scj_tree.specs.Recursion.{lookup, listed}
use Rattle.scj_rules.specs.declared.typing.Ty.{Ty}
use Rattle.scj_rules.specs.declared.typing.Binding.{Binding}
use Rattle.scj_rules.specs.Contexts.{Declarations, declarations_of}
use Rattle.scj_rules.specs.Bindings.{binding_at, bindings_in}
use Rattle.node_bindings.proofs.programs.bindings_of.Goals as goal

pub returns : goal.returns
unfolding bindings_in declarations_of
returns c =
    let p : Declarations = declarations_of c.args.facts.now in
    let all : List (Option Ty) → ℕ → List Binding = λ ts. listed (binding_at p (lookup None ts)) in
    let full : c.loop-number.number ≡ length c.args.facts.now.nodes =
    omega (arith, rw c.program-program.ensures at c.len-number-end.ensures.value) in
    c.loop-number.invariant ∙ ap (all c.args.types.now) full ∙ ap (λ ts. all ts (length p.nodes)) c.requires.types
