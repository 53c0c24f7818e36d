use Rattle.std.proofs.Common.{◌≡◌, Ok, ap, ◌∙◌}
use Rattle.parser_steps.specs.declared.file_reads.FileRead.{FileRead}
use Rattle.scj_base.specs.declared.findings.Rule.TheVariants.{P1}
use Rattle.scj_parser.proofs.ParsingLemmas.{never_unfinished, refused_stop, same_found, whole_tree}
use Rattle.scj_tree.specs.Lexemes.{lexemes_of}
use Rattle.scj_parser.proofs.parses.read_classes.Goals as goal

pub unreachable-requires : goal.unreachable-requires
unreachable-requires c =
    never_unfinished c.args.nodes.now.all (lexemes_of c.args.bytes.now c.args.tokens.now) c.requires.ends
    (c.read_file.ensures.unfinished (c.in_ok-classes.was ∙ ap (λ (r : FileRead). Ok r) c.in-Unfinished.is))

pub returns-in-Whole-clause-ok : goal.returns-in-Whole-clause-ok
returns-in-Whole-clause-ok c = λ classes e.
    let same : c.in-Whole.classes ≡ classes = cc e in
    rw (← same) (whole_tree c.args.nodes.now.all c.read_file.new.nodes.all
    (lexemes_of c.args.bytes.now c.args.tokens.now) c.in-Whole.classes
    (c.read_file.ensures.whole c.in-Whole.classes
    (c.in_ok-classes.was ∙ ap (λ (r : FileRead). Ok r) c.in-Whole.is)))

pub returns-in-Stopped-clause-bad : goal.returns-in-Stopped-clause-bad
returns-in-Stopped-clause-bad c = λ found e.
    let same = same_found (record { pos = c.in-Stopped.pos; rule = P1 }) found e in
    rw (← same) (refused_stop c.args.nodes.now.all (lexemes_of c.args.bytes.now c.args.tokens.now) c.in-Stopped.pos
    (c.read_file.ensures.stopped c.in-Stopped.pos
    (c.in_ok-classes.was ∙ ap (λ (r : FileRead). Ok r) c.in-Stopped.is)))
