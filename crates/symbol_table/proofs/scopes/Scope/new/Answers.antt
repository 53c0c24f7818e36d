use Rattle.std.proofs.Common.{◌≡◌, true}
use Rattle.std.proofs.lemmas.List.Elements.{All-nil}
use Rattle.class_rows.specs.declared.members.MemberKind.TheVariants.{Field, Method}
use Rattle.symbol_table.specs.Scopes.{is_reported}
use Rattle.symbol_table.proofs.LevelLemmas.{object_under}
use Rattle.symbol_table.proofs.scopes.Scope.new.Goals as goal

pub returns-clause-scope : goal.returns-clause-scope
returns-clause-scope c = λ forest.
    let fields = c.new-2.ensures Field forest in
    let methods = c.new-3.ensures Method forest in
    record {
      under = rw (c.new.ensures, c.object_level.ensures) (object_under forest);
      above = rw c.new.ensures record {
        path = tt;
        fields = fields;
        methods = methods;
        fields_reported = All-nil (λ class. is_reported c.new-2.result class ≡ true);
        methods_reported = All-nil (λ class. is_reported c.new-3.result class ≡ true);
      };
    }
