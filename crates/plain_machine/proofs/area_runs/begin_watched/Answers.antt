use Rattle.std.proofs.Common.{◌∙◌, ℕ, ap, length, refl, subst, sym}
use Rattle.scj_rules.specs.Contexts.{Declarations, declarations_of}
use Rattle.scj_tree.specs.Forest.{Forest}
use Rattle.area_needs.specs.Needs.{no_needs}
use Rattle.area_tables.specs.Standing.{Reports}
use Rattle.op_list.proofs.CodeLemmas.{program_is}
use Rattle.plain_machine.proofs.WatchedRuns.{watched_first}
use Rattle.plain_machine.proofs.area_runs.begin_watched.Goals as goal

pub returns : goal.returns
returns c =
    watched_first c.args.setting.code.now c.args.setting.plan.now _ c.in_ok-at.ensures.between
    c.in_ok-at.ensures.unit
    (λ s none. subst (λ (n : ℕ). Reports n s no_needs c.in_ok-table.table)
    (c.class_count.ensures
    ∙ (ap (λ (forest : Forest). length (declarations_of forest).classes) c.requires.same
    ∙ ap (λ (p : Declarations). length p.classes) (sym (program_is c.args.setting.code.now.program))))
    (c.in_ok-table.ensures s none)) refl
