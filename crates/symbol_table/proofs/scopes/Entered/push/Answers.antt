use Rattle.std.proofs.Common.{◌∷◌}
use Rattle.class_rows.specs.declared.members.MemberKind.TheVariants.{Field, Method}
use Rattle.symbol_table.specs.Scopes.{classes_of}
use Rattle.symbol_table.proofs.ReportedLemmas.{is_reported_now, one_reported, still_reported}
use Rattle.symbol_table.proofs.scopes.Entered.push.Goals as goal

pub renew-requires : goal.renew-requires
renew-requires c = is_reported_now _ _ c.args.level.class c.in_ok-report.ensures.reported

pub renew-requires-2 : goal.renew-requires-2
renew-requires-2 c = is_reported_now _ _ c.args.level.class c.in_ok-report-2.ensures.reported

pub returns-clause-entered : goal.returns-clause-entered
returns-clause-entered c =
    let e = c.requires.entered in
    let u = c.requires.level in
    let forest = c.args.classes.now in
    let class = c.args.level.class in
    let above = classes_of c.args.self.now.path in
    let fields = c.in_ok-report.ensures.nearest Field forest _ u.chain u.behind u.split e.fields in
    let methods = c.in_ok-report-2.ensures.nearest Method forest _ u.chain u.behind u.split e.methods in
    rw c.in_ok-push.ensures record {
      path = (u, e.path);
      fields = c.in_ok-renew.ensures.named _ u fields;
      methods = c.in_ok-renew-2.ensures.named _ u methods;
      fields_reported = still_reported _ _ (class ∷ above) c.in_ok-renew.ensures.kept
          (one_reported _ _ class c.in_ok-report.ensures.reported above e.fields_reported);
      methods_reported = still_reported _ _ (class ∷ above) c.in_ok-renew-2.ensures.kept
          (one_reported _ _ class c.in_ok-report-2.ensures.reported above e.methods_reported);
    }
