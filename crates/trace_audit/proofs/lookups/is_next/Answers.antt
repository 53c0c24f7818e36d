use Rattle.std.proofs.Common.{◌≡◌, ◌+◌, ◌-◌, ◌==◌, length, rules, sym, ap, ◌∙◌, arith}
use Rattle.std.specs.Prelude.{ℕ}
use Rattle.trace_audit.proofs.TableLaws.{is_next_none, is_next_some, one_less}
use Rattle.trace_audit.proofs.lookups.is_next.Goals as goal

pub returns-then-number-ne0 : goal.returns-then-number-ne0
returns-then-number-ne0 c =
    let next : c.args.handler ≡ c.args.handler - 1 + 1 = omega arith in
    let len : c.len.result ≡ length c.in-Some.row.now.indices.items = search rules in
    ap (λ (n : ℕ). c.args.number - 1 == n) len
    ∙ (one_less c.args.number (length c.in-Some.row.now.indices.items) c.if-number-ne0.true
    ∙ sym (is_next_some c.args.handlers.now c.args.handler c.args.number (c.args.handler - 1) c.in-Some.row.now next
    (sym c.in-Some.ensures)))

pub returns-in-None : goal.returns-in-None
returns-in-None c =
    let next : c.args.handler ≡ c.args.handler - 1 + 1 = omega arith in
    sym (is_next_none c.args.handlers.now c.args.handler c.args.number (c.args.handler - 1) next
    (sym c.in-None.ensures))
