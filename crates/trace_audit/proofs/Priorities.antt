-- The priority of a handler, by its row.
use Rattle.std.proofs.Common.{◌≡◌, ℕ, suc, ◌+◌, List, Option, None, Some, refl, ap, ◌∙◌, arith, map}
use Rattle.std.specs.Prelude.{slice_get, option_map}
use Rattle.std.proofs.lemmas.Option.{slice_get-map}
use Rattle.trace_audit.specs.declared.handlers.Handler.{Handler}
use Rattle.trace_audit.specs.Replay.{HandlerSeen, handler_at, priority_at}
use Rattle.trace_audit.specs.Index.{handler_seen}

pub handler_at_next : (handlers : List HandlerSeen) (handler i : ℕ) → handler ≡ i + 1 →
    handler_at handlers handler ≡ slice_get handlers i
handler_at_next handlers handler i e =
    let f : handler ≡ suc i = omega (arith, e) in
    ap (handler_at handlers) f

pub handler_at_none : (handlers : List HandlerSeen) (handler : ℕ) → handler ≡ 0 → handler_at handlers handler ≡ None
handler_at_none handlers handler e = ap (handler_at handlers) e

pub handler_seen_at : (rows : List Handler) (handler i : ℕ) → handler ≡ i + 1 →
    handler_at (map handler_seen rows) handler ≡ option_map handler_seen (slice_get rows i)
handler_seen_at rows handler i e =
    handler_at_next (map handler_seen rows) handler i e ∙ slice_get-map handler_seen rows i

abbrev priority_in : Option HandlerSeen → ℕ
priority_in o = elim o as (λ _. ℕ) [ None ↦ 0 | Some h ↦ h.priority ]

pub priority_some : (rows : List Handler) (handler i : ℕ) (h : Handler) → handler ≡ i + 1 →
    slice_get rows i ≡ Some h → priority_at (map handler_seen rows) handler ≡ h.priority
priority_some rows handler i h e f =
    ap priority_in (handler_seen_at rows handler i e ∙ ap (option_map handler_seen) f)

pub priority_none : (rows : List Handler) (handler i : ℕ) → handler ≡ i + 1 →
    slice_get rows i ≡ None → priority_at (map handler_seen rows) handler ≡ 0
priority_none rows handler i e f =
    ap priority_in (handler_seen_at rows handler i e ∙ ap (option_map handler_seen) f)

pub priority_of_zero : (handlers : List HandlerSeen) → priority_at handlers 0 ≡ 0
priority_of_zero handlers = refl
