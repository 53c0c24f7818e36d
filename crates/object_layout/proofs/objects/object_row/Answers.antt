use Rattle.std.proofs.Common.{◌≡◌, ◌∙◌, ℕ, [], refl, ap, flat_map, map, filter, is_some, length, arith}
use Rattle.scj_tree.specs.Recursion.{lookup}
use Rattle.scj_rules.specs.Definitions.{read}
use Rattle.scj_rules.specs.Layout.{literal_written}
use Rattle.object_layout.proofs.ObjectLemmas.{row_is}
use Rattle.object_layout.proofs.objects.object_row.Goals as goal

pub returns : goal.returns
returns c =
    let lists = map (λ v. v.items) c.args.own.now in
    let count : c.len-2.result ≡ length c.in_ok-fields.fields.items = omega (arith, c.len-2.ensures) in
    row_is c.args.classes.now c.args.class lists _ c.len-2.result c.requires c.hidden_fields-hidden.ensures.value refl
    count
    (c.in_ok-fields.ensures
    ∙ ap (flat_map (λ (class : ℕ). lookup [] lists class)) (c.deref.ensures.value ∙ c.in_ok-chain.ensures))
    (rw (c.program-program.ensures, c.deref-2.ensures.value) at c.in_ok-kinds.ensures)
    ((rw c.program-program.ensures at c.in_ok-literals.ensures)
    ∙ ap (filter (λ id. is_some (read c.args.classes.now.nodes literal_written id))) c.list_at.ensures)
