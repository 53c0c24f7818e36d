use Rattle.std.proofs.Common.{◌∙◌, sym}
use Rattle.scj_lexer.proofs.Places.{fold_in_line}
use Rattle.scj_lexer.proofs.texts.behind_piece.Goals as goal

pub returns-then-is_in_line : goal.returns-then-is_in_line
returns-then-is_in_line c =
    c.along.ensures
    ∙ sym
    (fold_in_line c.args.pos c.args.piece.now (c.requires.in_line (sym c.is_in_line.ensures ∙ c.if-is_in_line.true)))
