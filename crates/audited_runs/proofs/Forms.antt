-- The events of a trace that is answered with yes have the forms of lines, where the parts do that the audit doesn't look
-- at.
use Rattle.std.proofs.Common.{◌≡◌, ℕ, suc, ◌+◌, ◌^◌, ◌≤◌, ◌<◌, Bool, true, false, not, All, List, [], ◌∷◌, length, get_or, Option, Some, None, if◌then◌else◌, refl, sym, subst, arith}
use Rattle.std.proofs.lemmas.Bool.{and_parts}
use Rattle.std.proofs.lemmas.List.Elements.{All-cons, All-get_or, All-head, All-nil, All-tail}
use Rattle.std.proofs.lemmas.Option.{get_or_from_slice_get}
use Rattle.accepted_laws.proofs.Lists.{get_within}
use Rattle.accepted_laws.proofs.Tools.{some_inj}
use Rattle.scj_base.specs.Lexeme.{is_name}
use Rattle.scj_tree.specs.declared.nodes.Node.{Node}
use Rattle.scj_model.specs.declared.events.Event.{Event}
use Rattle.scj_model.specs.declared.plans.Fire.{Fire}
use Rattle.scj_model.specs.Plan.{Plan}
use Rattle.scj_model.specs.TraceText.{unit_of}
use Rattle.run_plan.specs.Limits.{IsFire, KeepsLimits}
use Rattle.trace_audit.specs.declared.answers.Audit.{Audit}
use Rattle.trace_audit.specs.declared.answers.Audit.TheVariants.{Yes, No}
use Rattle.trace_audit.specs.Passing.{begun, entry_done, entry_passes, is_in_order, is_within, misses_no_choice, passes, replayed}
use Rattle.trace_audit.specs.Printed.{HasForm, HaveForms, audit_reported, entry_reported, line_reported}
use Rattle.trace_audit.specs.Replay.{Replay, nothing_reported}
use Rattle.audited_runs.proofs.PartsFit.{PartsFit}
use Rattle.audited_runs.proofs.Executing.{core_begun}
use Rattle.audited_runs.proofs.Fitting.{EventFits, FiresNamed, event_fits, unit_within}
use Rattle.audited_runs.proofs.Small.{Small}

-- ---- what passes

record Passed (plan : Plan) (r : Replay) (e : Event) (after : Replay) : Type 0 where
  within : is_within plan (line_reported e) ≡ true
  entry : entry_passes plan r (unit_of e) (entry_reported e) ≡ true
  is : after ≡ entry_done (begun r (unit_of e)) (unit_of e) (entry_reported e)

passed : (plan : Plan) (r : Replay) (e : Event) (after : Replay) → replayed plan r (line_reported e) ≡ Some after →
    Passed plan r e after
unfolding replayed
passed plan r e after h = go (passes plan r (line_reported e)) refl h
  where
    done : Replay
    done = entry_done (begun r (unit_of e)) (unit_of e) (entry_reported e)

    go : (b : Bool) → passes plan r (line_reported e) ≡ b → (if b then Some done else None) ≡ Some after →
        Passed plan r e after
    go false t f = absurd (cc (f))
    go true t f =
        let p = and_parts (not r.is_over) _ t in
        let q = and_parts (is_in_order r (unit_of e)) _ p.1 in
        let u = and_parts (is_within plan (line_reported e)) _ q.1 in
        let v = and_parts (misses_no_choice r (unit_of e)) _ u.1 in
        record { within = u.0; entry = v.1; is = sym (some_inj done after f) }

-- ---- all events

module _ (nodes : List Node) (files : List (List ℕ)) (plan : Plan) (named : FiresNamed plan)
    (units : plan.units < 2 ^ 64) where
  one_fits : (most : ℕ) (r after : Replay) (e : Event) → most + 1 < 2 ^ 64 → Small most r.all r.last_choice →
      PartsFit nodes files e → Passed plan r e after → EventFits nodes files most e after
  one_fits most r after e room h alone p =
      subst (λ (x : Replay). EventFits nodes files most e x) (sym p.is)
      (event_fits nodes files plan named most room r (begun r (unit_of e)) (core_begun r (unit_of e)) h e p.entry alone)

  form_of : (most : ℕ) (r after : Replay) (e : Event) → Passed plan r e after → EventFits nodes files most e after →
      HasForm nodes files e
  form_of most r after e p fits =
      record {
        unit = let u = unit_within plan (unit_of e) (entry_reported e) p.within in lt (unit_of e) plan.units u units;
        parts = fits.parts;
      }
    where
      lt : (u n : ℕ) → u ≤ n → n < 2 ^ 64 → u < 2 ^ 64
      lt u n a b = omega (arith, a, b)

  fewer : (most n : ℕ) → most + suc n < 2 ^ 64 → (most + 1 < 2 ^ 64) × (most + 1 + n < 2 ^ 64)
  fewer most n h = (omega (arith, h), omega (arith, h))

  pub all_fit : (es : List Event) (r : Replay) (number most : ℕ) → audit_reported plan r number es ≡ Yes →
      Small most r.all r.last_choice → All (PartsFit nodes files) es → most + length es < 2 ^ 64 →
      All (HasForm nodes files) es
  unfolding audit_reported
  all_fit [] r number most passed_all h alone room = All-nil (HasForm nodes files)
  all_fit (e ∷ es) r number most passed_all h alone room =
      go (replayed plan r (line_reported e)) refl passed_all
      (λ after small answer. all_fit es after (number + 1) (most + 1) answer small
      (All-tail (PartsFit nodes files) e es alone) (fewer most (length es) room).1)
    where
      go : (o : Option Replay) → replayed plan r (line_reported e) ≡ o →
          elim o as (λ _. Audit) [ None ↦ No number | Some after ↦ audit_reported plan after (number + 1) es ] ≡ Yes →
          ((after : Replay) → Small (most + 1) after.all after.last_choice →
          audit_reported plan after (number + 1) es ≡ Yes → All (HasForm nodes files) es) → All (HasForm nodes files) (e ∷ es)
      go None f answer more = absurd (cc (answer))
      go (Some after) f answer more =
          let p : Passed plan r e after = passed plan r e after f in
          let fits : EventFits nodes files most e after =
          one_fits most r after e (fewer most (length es) room).0 h (All-head (PartsFit nodes files) e es alone) p in
          All-cons (HasForm nodes files) e es (form_of most r after e p fits) (more after fits.small answer)

-- ---- a plan that keeps its limits

fires_named : (plan : Plan) → KeepsLimits plan → FiresNamed plan
fires_named plan keeps =
    record {
      is = λ i fire e.
          (let l : i < length plan.fires = get_within plan.fires i fire e in
          let f : IsFire (get_or plan.fires i fire) = All-get_or IsFire plan.fires i fire l keeps.fires.each in
          subst (λ (x : Fire). is_name x.handler ≡ true) (get_or_from_slice_get plan.fires i fire fire e) f.named);
    }

pub forms_of : (nodes : List Node) (files : List (List ℕ)) (plan : Plan) (es : List Event) → KeepsLimits plan →
    audit_reported plan nothing_reported 1 es ≡ Yes → All (PartsFit nodes files) es → length es < 2 ^ 64 →
    HaveForms nodes files es
forms_of nodes files plan es keeps passed_all alone few =
    record {
      is = all_fit nodes files plan (fires_named plan keeps)
          (let u = keeps.units in omega (arith, u)) es nothing_reported 1 0 passed_all
          (record {
            few = omega arith;
            arrivals = λ k x e. absurd (cc (e));
            releases = λ p x e. absurd (cc (e));
            last_one = λ k n e. absurd (cc (e));
          }) alone (zero_more (length es) few);
    }
  where
    zero_more : (n : ℕ) → n < 2 ^ 64 → 0 + n < 2 ^ 64
    zero_more n h = omega (arith, h)
