use Rattle.std.proofs.Common.{◌≡◌, length, refl, arith}
use Rattle.std.proofs.lemmas.List.{length-map}
use Rattle.scj_check.specs.Texts.{texts_of}
use Rattle.scj_check.proofs.StandLaws.{at_the_begin, with_text, at_a_break, at_the_end}
use Rattle.scj_check.proofs.parse_outcomes.read.Goals as goal

pub loop-file-init : goal.loop-file-init
loop-file-init c = (
  rw c.in_ok-program.ensures.files refl,
  at_the_begin _ _ c.in_ok-program.ensures.nodes c.in_ok-program.ensures.files,
)

pub returns-in-Err-Bad : goal.returns-in-Err-Bad
returns-in-Err-Bad c =
    rw c.in-Err-Bad.field-0-is
    (at_a_break _ _ c.text.result.now c.loop-file.outcome _ c.text.ensures.value c.loop-file.invariant.1
    (rw c.in-Err-Bad.field-0-is at c.in-Err-Bad.ensures.refusal))

pub loop-file-preserved : goal.loop-file-preserved
loop-file-preserved c = (
  c.in-Ok.ensures.files,
  with_text _ _ c.text.result.now c.loop-file.outcome _ c.text.ensures.value c.loop-file.invariant.1 c.in-Ok.ensures.ok,
)

pub returns : goal.returns
returns c =
    let count : length (texts_of c.args.sources.now) ≡ length c.args.sources.now =
    length-map c.args.sources.now (λ s. s.1) in
    at_the_end _ _ c.loop-file.outcome (omega arith) c.loop-file.invariant.1
