use Rattle.std.proofs.Common.{◌∙◌, ap, refl}
use Rattle.scj_base.specs.Bytes.{is_same}
use Rattle.class_rows.specs.declared.nearest.Change.{Change}
use Rattle.class_rows.specs.Members.{change as change_of, changes_under, latest}
use Rattle.class_rows.proofs.NearestLemmas.{latest_now, noted}
use Rattle.class_rows.proofs.nearest.NearestMembers.note.Goals as goal

pub returns-clause-now : goal.returns-clause-now
returns-clause-now c = λ other.
    let change : Change = change_of c.args.self.now.count c.args.nearest.now in
    ap latest (c.in_ok-put.ensures other)
    ∙ latest_now (changes_under c.args.self.now.changes other) change (is_same c.args.name.now other)

pub returns-clause-reported : goal.returns-clause-reported
returns-clause-reported c = λ kind a.
    let change : Change = change_of c.args.self.now.count c.args.nearest.now in
    noted kind c.args.program.now c.args.self.now _ c.args.name.now change refl refl refl c.in_ok-put.ensures
    (rw c.if_abstract.ensures at c.in_ok-keep.ensures) a
