use Rattle.std.proofs.Common.{◌≡◌, ◌∙◌, ◌∷◌, [], List, ap, sym}
use Rattle.parser_machine.specs.States.{at}
use Rattle.parser_machine.specs.declared.entries.Entry.{Entry}
use Rattle.parser_machine.specs.declared.entries.Entry.TheVariants.{FileOpen}
use Rattle.parser_machine.specs.declared.modes.Mode.TheVariants.{FileStart}
use Rattle.scj_tree.specs.Lexemes.{lexemes_of}
use Rattle.parser_steps.specs.Outcomes.{way}
use Rattle.parser_steps.proofs.file_reads.read_file.Goals as goal

pub returns-clause-whole : goal.returns-clause-whole
returns-clause-whole c = λ ids e.
    let s : c.push.new.self ≡ FileOpen [] ∷ [] = cc c.in_ok-push.ensures in
    let i = lexemes_of c.args.bytes.now c.args.tokens.now in
    let same = ap (λ (s : List Entry). way (at FileStart s c.args.nodes.now.all) i) s in
    let reported =
    c.reported_by.ensures.whole c.read-outcome.new.nodes.all (way (at FileStart c.push.new.self c.args.nodes.now.all) i) ids
    c.read-outcome.ensures.way e in
    (reported.0, sym same ∙ reported.1, reported.2)
