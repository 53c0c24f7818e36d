use Rattle.scj_model.specs.Code.{code_of}
use Rattle.op_list.proofs.Goes.{plain_goes}
use Rattle.op_list.proofs.Layouts.{laid_at, laid_plain}
use Rattle.op_list.proofs.single_rows.lay_plain.Goals as goal

pub returns : goal.returns
returns c =
    laid_at _ _ _ _ _ _ _ _
    c.in_ok-start.ensures.put c.in_ok-start.ensures.index
    (laid_plain (code_of c.args.code.now) c.args.rows.now.items c.args.op c.args.next c.requires.inside
    (plain_goes c.args.code.now c.args.op c.requires.plain))
