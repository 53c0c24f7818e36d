use Rattle.std.proofs.Common.{◌∙◌, arith}
use Rattle.scj_rules.specs.Bodies.{size_of}
use Rattle.scj_model.specs.Code.{code_of}
use Rattle.memory_needs.specs.Rows.{is_concrete_mission, mission_bytes, rounded_or_0}
use Rattle.memory_needs.proofs.RowLists.{highest_all}
use Rattle.memory_needs.proofs.SiteLemmas.{classes_are}
use Rattle.memory_needs.proofs.store.mission_bytes.Goals as goal

pub returns : goal.returns
unfolding mission_bytes
returns c =
    c.loop-number.invariant
    ∙ highest_all (λ class. rounded_or_0 (size_of (code_of c.args.code.now).program class))
    (is_concrete_mission (code_of c.args.code.now).program) (code_of c.args.code.now).program.classes
    c.loop-number.number
    (let a = c.loop-number.auto.number-end in
    let b = c.loop-number-test.false in
    let d = rw c.classes.ensures at c.class_count-number-end.ensures in
    let e = classes_are c.args.code.now in
    omega (arith, a, b, d, e))
