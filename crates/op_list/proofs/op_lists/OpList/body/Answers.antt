use Rattle.std.proofs.Common.{◌≡◌, sym, subst}
use Rattle.scj_rules.specs.declared.views.Body.TheVariants.{Written}
use Rattle.op_list.specs.Listed.{Listing}
use Rattle.op_list.proofs.Listings.{Finds, finds_written}
use Rattle.op_list.proofs.op_lists.OpList.body.Goals as goal

pub returns-in-Written-clause-some : goal.returns-in-Written-clause-some
returns-in-Written-clause-some c =
    let listing : Listing =
    record {
      program = c.self.inside.code;
      rows = c.self.inside.rows.items;
      bodies = c.self.inside.bodies.items;
      empty = c.self.inside.empty;
    } in
    let found = finds_written listing c.self.invariant c.in-Written.node _ c.as_slice.ensures.value _ c.listed_at.ensures in
    let same : listing ≡ c.args.self.now = c.self.view_is in
    (subst (λ body. Finds c.args.self.now body c.listed_at.result) (sym c.in-Written.is)
    (subst (λ (l : Listing). Finds l (Written c.in-Written.node) c.listed_at.result) same found)).some

pub returns-in-Written-clause-none : goal.returns-in-Written-clause-none
returns-in-Written-clause-none c =
    let listing : Listing =
    record {
      program = c.self.inside.code;
      rows = c.self.inside.rows.items;
      bodies = c.self.inside.bodies.items;
      empty = c.self.inside.empty;
    } in
    let found = finds_written listing c.self.invariant c.in-Written.node _ c.as_slice.ensures.value _ c.listed_at.ensures in
    let same : listing ≡ c.args.self.now = c.self.view_is in
    (subst (λ body. Finds c.args.self.now body c.listed_at.result) (sym c.in-Written.is)
    (subst (λ (l : Listing). Finds l (Written c.in-Written.node) c.listed_at.result) same found)).none
