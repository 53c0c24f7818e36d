use Rattle.std.proofs.Common.{◌∙◌, ◌++◌, ℕ, List, ap, sym}
use Rattle.scj_rules.specs.Contexts.{Declarations, declarations_of}
use Rattle.scj_tree.specs.Forest.{Forest}
use Rattle.area_tables.specs.declared.rows.NeedRow.{NeedRow}
use Rattle.op_list.proofs.CodeLemmas.{program_is}
use Rattle.plain_machine.specs.AreaTexts.{lines_from, store_line}
use Rattle.plain_machine.proofs.RowTexts.{rows_text_is}
use Rattle.plain_machine.proofs.area_texts.rows_text.Goals as goal

pub returns : goal.returns
returns c = λ last ended.
    c.in_ok-extend_from_slice.ensures.items
    ∙ (ap (λ (bytes : List ℕ). c.in_ok-text.text.items ++ bytes)
    (c.as_bytes.ensures.value
    ∙ (c.in_ok-line.ensures
    ∙ (ap (λ (n : ℕ). store_line n c.store.result) c.reserved.ensures
    ∙ ap (λ (n : ℕ). store_line c.args.run.now.table.reserved n) c.store.ensures.store)))
    ∙ (ap (λ (bytes : List ℕ). bytes ++ store_line c.args.run.now.table.reserved c.args.setting.plan.now.store)
    (c.in_ok-text.ensures
    ∙ (ap (λ (rows : List NeedRow). lines_from (declarations_of c.args.setting.classes.now) 0 rows) c.rows.ensures
    ∙ (ap (λ (forest : Forest). lines_from (declarations_of forest) 0 c.args.run.now.table.rows.items) c.requires.same
    ∙ ap (λ (p : Declarations). lines_from p 0 c.args.run.now.table.rows.items)
    (sym (program_is c.args.setting.code.now.program)))))
    ∙ rows_text_is c.args.setting.code.now.program c.args.setting.plan.now c.args.run.now last ended))
