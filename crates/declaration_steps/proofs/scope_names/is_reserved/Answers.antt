use Rattle.std.proofs.Common.{◌≡◌, ℕ, ◌+◌, ◌||◌, Bool, true, false, drop, sym, ap, ◌∙◌, arith}
use Rattle.scj_base.specs.Vocabulary.{words}
use Rattle.scj_base.specs.Bytes.{is_one_of, is_same}
use Rattle.declaration_steps.proofs.Reserved.{one_more}
use Rattle.declaration_steps.proofs.scope_names.is_reserved.Goals as goal

pub returns-then-eq : goal.returns-then-eq
returns-then-eq c =
    let e : is_same c.args.bytes.now c.word_text.result.now ≡ true = cc in
    sym (c.loop-i.invariant ∙ (one_more c.args.bytes.now words c.loop-i.i c.word_text.result.now c.word_text.ensures
    ∙ ap (λ (b : Bool). b || is_one_of c.args.bytes.now (drop (c.loop-i.i + 1) words)) e))

pub loop-i-preserved : goal.loop-i-preserved
loop-i-preserved c =
    let e : is_same c.args.bytes.now c.word_text.result.now ≡ false = cc in
    c.loop-i.invariant ∙ (one_more c.args.bytes.now words c.loop-i.i c.word_text.result.now c.word_text.ensures
    ∙ ap (λ (b : Bool). b || is_one_of c.args.bytes.now (drop (c.loop-i.i + 1) words)) e)

pub returns : goal.returns
unfolding words
returns c =
    let e : c.loop-i.i ≡ 53 = omega arith in
    sym (c.loop-i.invariant ∙ ap (λ (i : ℕ). is_one_of c.args.bytes.now (drop i words)) e)
