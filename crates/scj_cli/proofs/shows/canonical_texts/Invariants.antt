use Rattle.std.proofs.Common.{◌≡◌, ◌++◌, drop}
use Rattle.std.specs.List.{flat_map}
use Rattle.scj_cli.specs.Answers.{shown_from}
use Rattle.scj_cli.proofs.shows.canonical_texts.Given as goal

abbrev pub invariant-loop-file : goal.invariant-loop-file
invariant-loop-file l = flat_map (λ t. t.items) l.texts.items
    ++ shown_from l.program l.file (drop l.file l.program.files) ≡ shown_from l.program 0 l.program.files
