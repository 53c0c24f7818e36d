use Rattle.std.specs.List.{flat_map}
use Rattle.std.proofs.Common.{◌≡◌, ◌∙◌, ◌++◌, map, ap, subst}
use Rattle.scj_model.specs.Apply.{report_dropped}
use Rattle.run_releases.specs.Rows.{StoredReleases, dropped_row, with_releases}
use Rattle.run_releases.specs.Releases.{all_dropped}
use Rattle.run_releases.specs.Counts.{live_indices, report_at}
use Rattle.run_releases.specs.OtherReleases.{all_let_go, at_unit}
use Rattle.run_releases.proofs.Counted.{dropped_counted, dropped_everywhere}
use Rattle.run_releases.proofs.Seen.{dropped_seen, reported_seen}
use Rattle.run_releases.proofs.history.Releases.drop_waiting.Goals as goal

pub invariant_of-self : goal.invariant_of-self
invariant_of-self c =
    let rows : c.drop_all.new.rows.items ≡ map dropped_row c.self.inside.rows.items =
    c.drop_all.ensures ∙ rw (c.deref-3.ensures.value, c.self.invariant.all_live)
    (dropped_everywhere c.self.inside.rows.items) in
    rw (c.keep_live.ensures, c.deref-4.ensures.value, rows, c.clear.ensures.items)
    (dropped_counted _ _ _ _ _ c.self.invariant)

pub returns-clause-dropped : goal.returns-clause-dropped
returns-clause-dropped c =
    let rows : c.drop_all.new.rows.items ≡ map dropped_row c.self.inside.rows.items =
    c.drop_all.ensures ∙ rw (c.deref-3.ensures.value, c.self.invariant.all_live)
    (dropped_everywhere c.self.inside.rows.items) in
    rw rows (ap all_dropped c.self.view_is)

pub returns-clause-seen : goal.returns-clause-seen
returns-clause-seen c = λ code s.
    let rows : c.drop_all.new.rows.items ≡ map dropped_row c.self.inside.rows.items =
    c.drop_all.ensures ∙ rw (c.deref-3.ensures.value, c.self.invariant.all_live)
    (dropped_everywhere c.self.inside.rows.items) in
    let was : StoredReleases = record { rows = c.self.inside.rows.items; earlier = c.self.inside.earlier } in
    let P : StoredReleases → Type 0 =
    λ rs. all_let_go (with_releases code s rs) ≡ with_releases code s (all_dropped was) in
    rw rows (subst P c.self.view_is (dropped_seen code s was))

pub returns-clause-reported : goal.returns-clause-reported
returns-clause-reported c = λ code s.
    let was : StoredReleases = record { rows = c.self.inside.rows.items; earlier = c.self.inside.earlier } in
    let P : StoredReleases → Type 0 = λ rs.
    flat_map (report_at was.rows c.args.unit) (live_indices was.rows) ≡ report_dropped
    (at_unit (with_releases code s rs) c.args.unit) in
    c.in_ok-report_all.ensures
    ∙ ap (λ es. c.args.reported.now.items ++ es)
    (rw (c.deref.ensures.value, c.deref-2.ensures.value, c.self.invariant.all_live)
    (subst P c.self.view_is (reported_seen code s was c.args.unit)))
