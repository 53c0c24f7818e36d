use Rattle.std.proofs.Common.{◌≡◌, drop}
use Rattle.std.specs.List.{list_any}
use Rattle.scj_rules.specs.ClassRules.{numbers_from}
use Rattle.scj_model.specs.Code.{code_of}
use Rattle.memory_needs.specs.Sites.{has_body}
use Rattle.memory_needs.proofs.rooms.any_has_body.Given as goal

abbrev pub invariant-loop-number : goal.invariant-loop-number
invariant-loop-number l =
    list_any (has_body (code_of l.code).program l.on l.asked)
    (numbers_from l.number (drop l.number (code_of l.code).program.classes))
    ≡ list_any (has_body (code_of l.code).program l.on l.asked) (numbers_from 0 (code_of l.code).program.classes)
