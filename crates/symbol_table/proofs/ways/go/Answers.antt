use Rattle.class_rows.specs.declared.members.MemberKind.TheVariants.{Field, Method}
use Rattle.symbol_table.specs.Scopes.{classes_of}
use Rattle.symbol_table.proofs.ReportedLemmas.{others_reported}
use Rattle.symbol_table.proofs.ways.go.Goals as goal

pub returns-clause-scope : goal.returns-clause-scope
returns-clause-scope c =
    let e = c.in_ok-arrive.ensures in
    let u = c.in_ok-level.ensures.under in
    let forest = c.args.classes.now in
    let path = classes_of c.arrive.new.entered.path in
    record {
      under = u;
      above = record {
        path = e.path;
        fields = c.in_ok-report.ensures.nearest Field forest _ u.chain u.behind u.split e.fields;
        methods = c.in_ok-report-2.ensures.nearest Method forest _ u.chain u.behind u.split e.methods;
        fields_reported = others_reported _ _ _ c.in_ok-report.ensures.reported path e.fields_reported;
        methods_reported = others_reported _ _ _ c.in_ok-report-2.ensures.reported path e.methods_reported;
      };
    }
