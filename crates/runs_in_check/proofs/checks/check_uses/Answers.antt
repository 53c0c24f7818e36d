use Rattle.std.proofs.Common.{◌≡◌, ◌++◌, ℕ, List, [], length, Option, None, sym, ap, ◌∙◌, arith}
use Rattle.scj_base.specs.declared.findings.Found.{Found}
use Rattle.scj_tree.specs.Forest.{Forest}
use Rattle.scj_tree.specs.Recursion.{lookup}
use Rattle.scj_tree.proofs.RecursionLemmas.{joined_next}
use Rattle.scj_rules.specs.declared.typing.Scope.{Scope}
use Rattle.scj_rules.specs.Contexts.{Declarations, declarations_of}
use Rattle.scj_rules.specs.Phases.{over_nodes, use_phase}
use Rattle.scj_rules.specs.TypeRules.{Types}
use Rattle.scj_rules.specs.UseRules.{scope_of_next, scopes_in}
use Rattle.type_words.proofs.ReturnLemmas.{bottom_up-more}
use Rattle.runs_in_check.specs.Phase.{breaks_at}
use Rattle.runs_in_check.proofs.UsesBelow.{breaks_so_far}
use Rattle.runs_in_check.proofs.checks.check_uses.Goals as goal

pub loop-number-preserved : goal.loop-number-preserved
loop-number-preserved c =
    let forest : Forest = c.args.facts.now in
    let p : Declarations = declarations_of forest in
    let ts : Types = lookup None c.args.types.now in
    let number : ℕ = c.loop-number.number in
    let whole = rw c.program-program.ensures at c.len-number-end.ensures.whole in
    let s = rw (c.deref.ensures.value, c.at-id.ensures) at c.in_ok-scope.ensures in
    record {
      reported = c.in_ok-push.ensures.items
          ∙ bottom_up-more None (scope_of_next p ts) number c.loop-number.scopes.items c.in_ok-scope.scope
          c.loop-number.invariant.reported s.scope;
      noted = s.found
          ∙ ap (λ (ss : List (Option Scope)). c.loop-number.found.items ++ breaks_at p ts (lookup None ss) number)
          c.loop-number.invariant.reported
          ∙ ap (λ (fs : List Found). c.loop-number.found.items ++ fs) (breaks_so_far forest whole ts number)
          ∙ ap (λ (fs : List Found). fs ++ breaks_at p ts (lookup None (scopes_in p ts)) number)
          c.loop-number.invariant.noted
          ∙ sym (joined_next (breaks_at p ts (lookup None (scopes_in p ts))) number []);
    }

pub returns : goal.returns
unfolding use_phase over_nodes breaks_at declarations_of
returns c =
    let p : Declarations = declarations_of c.args.facts.now in
    let full : c.loop-number.number ≡ length c.args.facts.now.nodes =
    omega (arith, rw c.program-program.ensures at c.len-number-end.ensures.value) in
    let all = rw (full, c.requires) at c.loop-number.invariant.noted in
    record { in_order = c.put_in_order.ensures.in_order; exact = λ f. rw (sym all) (c.put_in_order.ensures.same f) }
