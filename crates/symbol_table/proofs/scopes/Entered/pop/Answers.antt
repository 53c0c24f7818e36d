use Rattle.std.proofs.Common.{◌≡◌, ℕ, true, ◌∷◌}
use Rattle.std.proofs.lemmas.List.Elements.{All-head, All-tail}
use Rattle.symbol_table.specs.Scopes.{classes_of, is_reported, rows_of, AreReported, IsPath}
use Rattle.symbol_table.proofs.ReportedLemmas.{still_reported}
use Rattle.symbol_table.proofs.scopes.Entered.pop.Goals as goal

pub renew-requires : goal.renew-requires
renew-requires c =
    let P : ℕ → Type 0 = λ class. is_reported c.args.self.now.fields class ≡ true in
    All-head P c.in-Some.left.class (classes_of c.pop.new.self) (rw c.in-Some.ensures at c.requires.entered.fields_reported)

pub renew-requires-2 : goal.renew-requires-2
renew-requires-2 c =
    let P : ℕ → Type 0 = λ class. is_reported c.args.self.now.methods class ≡ true in
    All-head P c.in-Some.left.class (classes_of c.pop.new.self)
    (rw c.in-Some.ensures at c.requires.entered.methods_reported)

pub returns-clause-entered : goal.returns-clause-entered
returns-clause-entered c =
    let e = c.requires.entered in
    let path : IsPath (rows_of c.args.classes.now) (c.in-Some.left ∷ c.pop.new.self) =
    rw c.in-Some.ensures at e.path in
    let fields_reported : AreReported c.args.self.now.fields (classes_of c.pop.new.self) =
    All-tail (λ class. is_reported c.args.self.now.fields class ≡ true) c.in-Some.left.class _
    (rw c.in-Some.ensures at e.fields_reported) in
    let methods_reported : AreReported c.args.self.now.methods (classes_of c.pop.new.self) =
    All-tail (λ class. is_reported c.args.self.now.methods class ≡ true) c.in-Some.left.class _
    (rw c.in-Some.ensures at e.methods_reported) in
    record {
      path = path.1;
      fields = c.in_ok-renew.ensures.named _ path.0 (rw c.in-Some.ensures at e.fields);
      methods = c.in_ok-renew-2.ensures.named _ path.0 (rw c.in-Some.ensures at e.methods);
      fields_reported = still_reported _ _ (classes_of c.pop.new.self) c.in_ok-renew.ensures.kept fields_reported;
      methods_reported = still_reported _ _ (classes_of c.pop.new.self) c.in_ok-renew-2.ensures.kept methods_reported;
    }
