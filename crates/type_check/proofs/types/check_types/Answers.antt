use Rattle.std.proofs.Common.{◌≡◌, ◌++◌, ℕ, List, [], Option, None, ap, ◌∙◌, arith, length, sym}
use Rattle.scj_base.specs.declared.findings.Found.{Found}
use Rattle.scj_tree.specs.Recursion.{lookup, bottom_up, joined_below}
use Rattle.scj_tree.proofs.RecursionLemmas.{joined_next}
use Rattle.scj_rules.specs.declared.typing.Ty.{Ty}
use Rattle.scj_rules.specs.Contexts.{Declarations, declarations_of}
use Rattle.scj_rules.specs.Phases.{over_nodes, type_phase}
use Rattle.scj_rules.specs.TypeRules.{type_of_next, types_in}
use Rattle.type_words.proofs.ReturnLemmas.{bottom_up-more}
use Rattle.type_check.proofs.PassLemmas.{breaks_at, breaks_so_far}
use Rattle.type_check.proofs.RowLemmas.{none_reported}
use Rattle.type_check.proofs.types.check_types.Goals as goal

pub loop-number-init : goal.loop-number-init
unfolding bottom_up joined_below
loop-number-init c = record {
  typed = c.in_ok-types.ensures.items;
  noted = c.new-found.ensures.items;
  right = none_reported c.args.facts.now _ _ c.in_ok-rows.ensures;
}

pub loop-number-preserved : goal.loop-number-preserved
unfolding declarations_of joined_below
loop-number-preserved c =
    let p : Declarations = declarations_of c.args.facts.now in
    let number : ℕ = c.loop-number.number in
    let whole = rw c.program-program.ensures at c.len-number-end.ensures.whole in
    let t = rw (c.deref.ensures.value, c.at-id.ensures) at c.in_ok-t.ensures in
    record {
      typed = c.in_ok-push.ensures.items
          ∙ bottom_up-more None (type_of_next p) number c.loop-number.types.items c.in_ok-t.t c.loop-number.invariant.typed
          t.type_of;
      noted = t.found
          ∙ ap (λ (ts : List (Option Ty)). c.loop-number.found.items ++ breaks_at p (lookup None ts) number)
          c.loop-number.invariant.typed
          ∙ ap (λ (fs : List Found). c.loop-number.found.items ++ fs) (breaks_so_far c.args.facts.now whole number)
          ∙ ap (λ (fs : List Found). fs ++ breaks_at p (lookup None (types_in p)) number) c.loop-number.invariant.noted
          ∙ sym (joined_next (breaks_at p (lookup None (types_in p))) number []);
      right = c.in_ok-t.ensures.rows;
    }

pub returns-clause-types : goal.returns-clause-types
unfolding types_in declarations_of
returns-clause-types c =
    let full : c.loop-number.number ≡ length c.args.facts.now.nodes =
    omega (arith, rw c.program-program.ensures at c.len-number-end.ensures.value) in
    c.loop-number.invariant.typed ∙ ap (bottom_up None (type_of_next (declarations_of c.args.facts.now))) full

pub returns-clause-report : goal.returns-clause-report
unfolding type_phase over_nodes declarations_of
returns-clause-report c =
    let p : Declarations = declarations_of c.args.facts.now in
    let full : c.loop-number.number ≡ length c.args.facts.now.nodes =
    omega (arith, rw c.program-program.ensures at c.len-number-end.ensures.value) in
    let all = c.loop-number.invariant.noted ∙ ap (joined_below (breaks_at p (lookup None (types_in p)))) full in
    record { in_order = c.put_in_order.ensures.in_order; exact = λ f. rw (sym all) (c.put_in_order.ensures.same f) }
