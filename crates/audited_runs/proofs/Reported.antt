-- The lines of some events, replayed one after the other.
use Rattle.std.proofs.Common.{◌≡◌, ℕ, ◌+◌, true, List, [], ◌∷◌, ◌++◌, Option, Some, None, if◌then◌else◌, refl, ap, ◌∙◌}
use Rattle.std.specs.Prelude.{unwrap_or}
use Rattle.scj_rules.specs.Words.{◌>>=◌}
use Rattle.scj_model.specs.declared.events.Event.{Event}
use Rattle.scj_model.specs.Plan.{Plan}
use Rattle.trace_audit.specs.declared.answers.Audit.{Audit}
use Rattle.trace_audit.specs.declared.answers.Audit.TheVariants.{Yes, No}
use Rattle.trace_audit.specs.Passing.{replayed}
use Rattle.trace_audit.specs.Printed.{audit_reported, line_reported}
use Rattle.trace_audit.specs.Replay.{Replay}

-- the replay behind the lines of some events; none where one of them doesn't pass
unfoldable pub reported : Plan → Replay → List Event → Option Replay
reported plan r [] = Some r
reported plan r (e ∷ es) = replayed plan r (line_reported e) >>= (λ after. reported plan after es)

-- a replay behind a first line, and behind the others
record Both (o : Option Replay) (f : Replay → Option Replay) (t : Replay) : Type 0 where
  first : Replay
  is_first : o ≡ Some first
  is_next : f first ≡ Some t

both : (o : Option Replay) (f : Replay → Option Replay) (t : Replay) → (o >>= f) ≡ Some t → Both o f t
both None f t e = absurd (cc (e))
both (Some r) f t e = record { first = r; is_first = refl; is_next = e }

bound : (o : Option Replay) (f : Replay → Option Replay) (r : Replay) → o ≡ Some r → (o >>= f) ≡ f r
bound o f r e = ap (λ (x : Option Replay). x >>= f) e

pub reported_none : (plan : Plan) (r : Replay) → reported plan r [] ≡ Some r
unfolding reported
reported_none plan r = refl

pub reported_one : (plan : Plan) (r t : Replay) (e : Event) → replayed plan r (line_reported e) ≡ Some t →
    reported plan r (e ∷ []) ≡ Some t
unfolding reported
reported_one plan r t e h = bound (replayed plan r (line_reported e)) (λ after. Some after) t h

pub reported_then : (plan : Plan) (r m t : Replay) (es fs : List Event) → reported plan r es ≡ Some m →
    reported plan m fs ≡ Some t → reported plan r (es ++ fs) ≡ Some t
unfolding reported
reported_then plan r m t [] fs h k =
    let same : r ≡ m = ap (λ (o : Option Replay). unwrap_or o r) h in
    ap (λ (x : Replay). reported plan x fs) same ∙ k
reported_then plan r m t (e ∷ es) fs h k =
    let b : Both (replayed plan r (line_reported e)) (λ after. reported plan after es) m =
    both (replayed plan r (line_reported e)) (λ after. reported plan after es) m h in
    bound (replayed plan r (line_reported e)) (λ after. reported plan after (es ++ fs)) b.first b.is_first
    ∙ reported_then plan b.first m t es fs b.is_next k

pub reported_more : (plan : Plan) (r m t : Replay) (e : Event) (es : List Event) →
    replayed plan r (line_reported e) ≡ Some m → reported plan m es ≡ Some t → reported plan r (e ∷ es) ≡ Some t
unfolding reported
reported_more plan r m t e es h k = bound (replayed plan r (line_reported e)) (λ after. reported plan after es) m h ∙ k

-- a trace whose lines all pass, up to a last one, is answered with yes
pub reported_is_yes : (plan : Plan) (r t : Replay) (n : ℕ) (es : List Event) → reported plan r es ≡ Some t →
    t.is_over ≡ true → audit_reported plan r n es ≡ Yes
unfolding reported audit_reported
reported_is_yes plan r t n [] h over =
    let same : r ≡ t = ap (λ (o : Option Replay). unwrap_or o r) h in
    ap (λ b. if b then Yes else No n) (ap (λ (x : Replay). x.is_over) same ∙ over)
reported_is_yes plan r t n (e ∷ es) h over =
    let b : Both (replayed plan r (line_reported e)) (λ after. reported plan after es) t =
    both (replayed plan r (line_reported e)) (λ after. reported plan after es) t h in
    ap (λ (o : Option Replay). elim o as (λ _. Audit) [
      | None ↦ No n
      | Some after ↦ audit_reported plan after (n + 1) es
    ]) b.is_first
    ∙ reported_is_yes plan b.first t (n + 1) es b.is_next over
