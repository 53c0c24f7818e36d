use Rattle.std.proofs.Common.{◌∙◌, sym}
use Rattle.scj_model.specs.Code.{code_of}
use Rattle.memory_needs.proofs.Stores.{some_no, reports_store}
use Rattle.memory_needs.proofs.bounds.need.Goals as goal

pub returns-then-all_yes : goal.returns-then-all_yes
returns-then-all_yes c =
    reports_store (code_of c.args.code.now) c.children_first.ensures c.args.tables.now c.requires.tables
    c.requires.formed c.args.rows.now c.requires.rows c.in_ok-store_bytes.field-0
    (sym c.all_yes.ensures ∙ c.if-all_yes.true) c.in_ok-store_bytes.ensures

pub returns : goal.returns
returns c = some_no c.args.rows.now (sym c.all_yes.ensures ∙ c.if-all_yes.false)
