use Rattle.std.proofs.Common.{refl}
use Rattle.scj_model.specs.Code.{code_of}
use Rattle.op_list.proofs.Listings.{first_rows, empty_row}
use Rattle.op_list.proofs.op_lists.lay_first.Goals as goal

pub returns-clause-listed : goal.returns-clause-listed
returns-clause-listed c =
    first_rows (code_of c.args.code.now) c.args.rows.now.items c.put_row.new.rows.items c.lay_empty.new.rows.items _ _ _ _
    c.requires c.in_ok-_end.ensures.put c.in_ok-start.ensures

pub returns-clause-empty : goal.returns-clause-empty
returns-clause-empty c =
    empty_row (code_of c.args.code.now) c.put_row.new.rows.items c.lay_empty.new.rows.items _ c.in_ok-start.ensures refl
    refl
