use Rattle.std.specs.Prelude.{slice_index}
use Rattle.std.proofs.Common.{◌≡◌, ◌∙◌, ◌+◌, [], ◌∷◌, ◌++◌, ap, arith, subst, sym}
use Rattle.scj_model.specs.declared.events.Event.TheVariants.{Arrive, Lost}
use Rattle.scj_model.specs.Steps.{reporting}
use Rattle.scj_model.specs.Apply.{release_taken}
use Rattle.run_releases.specs.Rows.{StoredReleases, with_releases}
use Rattle.run_releases.specs.Releases.{count_of, waiting_row, waiting_count}
use Rattle.run_releases.proofs.Counted.{same_counted, taken_counted}
use Rattle.run_releases.proofs.Seen.{full_seen, room_seen}
use Rattle.run_releases.proofs.history.Releases.take_in.Goals as goal

pub returns-then-waiting-ge-MOST_WAITING-clause-seen : goal.returns-then-waiting-ge-MOST_WAITING-clause-seen
returns-then-waiting-ge-MOST_WAITING-clause-seen c = λ code s.
    let was : StoredReleases = record { rows = c.self.inside.rows.items; earlier = c.self.inside.earlier } in
    let waiting : c.number_at-waiting.result ≡ waiting_count c.self.inside.earlier c.self.inside.rows.items
    c.args.handler =
    c.number_at-waiting.ensures ∙ rw c.deref.ensures.value (c.self.invariant.each_waiting c.args.handler) in
    let P : StoredReleases → Type 0 = λ rs.
    release_taken (with_releases code s rs) c.args.handler ≡ reporting (with_releases code s rs)
    (Lost s.unit c.args.handler ∷ []) in
    subst P c.self.view_is (full_seen code s was c.args.handler c.number_at-waiting.result waiting (omega arith))

pub invariant_of-self-2 : goal.invariant_of-self-2
invariant_of-self-2 c =
    let next : c.in_ok-number.number ≡ slice_index c.reach.new.numbers.items c.args.handler + 1 =
    c.in_ok-number.ensures
    ∙ ap (λ n. n + 1) (c.number_at.ensures ∙ rw c.deref-2.ensures.value (sym (c.reach.ensures.same c.args.handler)))
    in
    let more : c.number_at-waiting.result + 1 ≡ slice_index c.reach-2.new.numbers.items c.args.handler + 1 =
    ap (λ n. n + 1)
    (c.number_at-waiting.ensures ∙ rw c.deref.ensures.value (sym (c.reach-2.ensures.same c.args.handler))) in
    rw (
      c.in_ok-push_release.ensures.live,
      c.set_number.ensures,
      c.set_number-2.ensures,
      c.in_ok-push_release.ensures.rows,
    )
    (taken_counted _ _ _ _ _ c.args.handler c.in_ok-number.number (c.number_at-waiting.result + 1)
    c.in_ok-reach.ensures.there c.in_ok-reach-2.ensures.there next more
    (same_counted c.reach.ensures.same c.reach-2.ensures.same c.self.invariant))

pub returns-clause-seen : goal.returns-clause-seen
returns-clause-seen c = λ code s.
    let was : StoredReleases = record { rows = c.self.inside.rows.items; earlier = c.self.inside.earlier } in
    let waiting : c.number_at-waiting.result ≡ waiting_count c.self.inside.earlier c.self.inside.rows.items
    c.args.handler =
    c.number_at-waiting.ensures ∙ rw c.deref.ensures.value (c.self.invariant.each_waiting c.args.handler) in
    let next : c.in_ok-number.number ≡ count_of c.self.inside.earlier c.self.inside.rows.items c.args.handler + 1 =
    c.in_ok-number.ensures
    ∙ ap (λ n. n + 1)
    (c.number_at.ensures ∙ rw c.deref-2.ensures.value (c.self.invariant.each_taken c.args.handler)) in
    let P : StoredReleases → Type 0 = λ rs.
    release_taken (with_releases code s rs) c.args.handler
    ≡ reporting
    (with_releases code s
    (record was { rows = was.rows ++ waiting_row c.args.handler c.in_ok-number.number ∷ [] }))
    (Arrive s.unit c.args.handler c.in_ok-number.number ∷ []) in
    rw c.in_ok-push_release.ensures.rows
    (subst P c.self.view_is
    (room_seen code s was c.args.handler c.number_at-waiting.result c.in_ok-number.number waiting
    (omega arith) next))
