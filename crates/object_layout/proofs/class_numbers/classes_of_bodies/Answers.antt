use Rattle.std.proofs.Common.{◌≡◌, ◌<◌, ◌^◌, ℕ, List, Option, None, set, if◌then◌else◌, length, length-set, ap, sym, ◌∙◌, arith, Bool, true, false, refl}
use Rattle.scj_tree.specs.Recursion.{lookup}
use Rattle.scj_rules.specs.declared.contexts.Context.{Context}
use Rattle.scj_rules.specs.Contexts.{declarations_of, context, outermost}
use Rattle.object_layout.proofs.BodyLemmas.{contexts_are}
use Rattle.object_layout.proofs.ClassLemmas.{known_first, known_last, known_more}
use Rattle.object_layout.proofs.class_numbers.classes_of_bodies.Goals as goal

same_length : (t : Bool) (table : List (Option ℕ)) (n : ℕ) (c : Option ℕ) →
    length (if t then set table n c else table) ≡ length table
same_length true table n c = length-set table n c
same_length false table n c = refl

pub loop-number-init : goal.loop-number-init
loop-number-init c =
    record {
      whole = rw c.program.ensures at c.in_ok-table.ensures.whole;
      exact = λ body. (rw c.program.ensures at (c.in_ok-table.ensures.exact body))
          ∙ known_first c.args.classes.now c.node_count-number-end.ensures.whole body;
    }

pub overflow_cast-number : goal.overflow_cast-number
overflow_cast-number c =
    let small : length c.args.classes.now.nodes < 2 ^ 32 = c.node_count-number-end.ensures.whole.fits in
    omega (arith, c.loop-number-test.true, small, c.node_count-number-end.ensures.value)

pub learn-requires : goal.learn-requires
learn-requires c =
    omega (arith, c.loop-number-test.true, c.loop-number.invariant.whole, c.node_count-number-end.ensures.value)

pub loop-number-preserved : goal.loop-number-preserved
loop-number-preserved c =
    let forest = c.args.classes.now in
    let table = c.loop-number.table.items in
    let inside : c.loop-number.number < length table =
    omega (arith, c.loop-number-test.true, c.loop-number.invariant.whole, c.node_count-number-end.ensures.value) in
    let there : c.get-context.result ≡ context (declarations_of forest) c.loop-number.number =
    c.get-context.ensures
    ∙ ap (λ (rows : List Context). lookup outermost rows c.at.result) (c.requires ∙ sym (contexts_are forest))
    ∙ ap (context (declarations_of forest)) c.at.ensures in
    record {
      whole = ap (λ (xs : List (Option ℕ)). length xs) c.learn.ensures ∙ same_length _ table c.loop-number.number _
          ∙ c.loop-number.invariant.whole;
      exact = λ body. ap (λ (xs : List (Option ℕ)). lookup None xs body) c.learn.ensures
          ∙ known_more (declarations_of forest) c.loop-number.number table c.get-context.result.class
          (ap (λ (row : Context). row.class) there) inside c.loop-number.invariant.exact body;
    }

pub returns : goal.returns
returns c = λ body. c.loop-number.invariant.exact body
    ∙ known_last c.args.classes.now c.node_count-number-end.ensures.whole c.loop-number.number body
    (omega (arith, c.loop-number-test.false, c.loop-number.auto.number-end, c.node_count-number-end.ensures.value))
