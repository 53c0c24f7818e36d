-- Fewer than 1,794 areas are open before an operation opens one: outside execution, where a release is under way that may
-- have one frame more, and where the chosen one starts.
use Rattle.std.specs.Prelude.{Option, Some, None, option_map, slice_get}
use Rattle.std.proofs.Common.{◌≡◌, ◌∙◌, true, false, ℕ, ◌+◌, ◌<◌, ◌≤◌, List, [], length, ◌⊎◌, inl, inr, refl, ap, sym, subst, arith}
use Rattle.scj_rules.specs.Words.{◌>>=◌}
use Rattle.scj_tree.specs.Forest.{Forest}
use Rattle.scj_model.specs.declared.handlers.HandlerRow.{HandlerRow}
use Rattle.scj_model.specs.Code.{Code, code_of}
use Rattle.scj_model.specs.Choice.{by_priority}
use Rattle.scj_model.specs.Plan.{Plan}
use Rattle.scj_model.specs.Reached.{Moment, Reached}
use Rattle.scj_model.specs.Registry.{handler_row}
use Rattle.scj_model.specs.Safety.{started_activities, started_count}
use Rattle.scj_model.specs.State.{Activity, Frame, Release, ReleaseAt, State, TurnOf, Waits, activity_in, activity_of, is_exec, with_activity}
use Rattle.accepted_laws.specs.Programs.{IsAcceptedProgram}
use Rattle.accepted_laws.proofs.Tools.{some_inj}
use Rattle.priority_laws.specs.Handlers.{PrioritiesAreRight}
use Rattle.priority_laws.specs.InOrder.{IsInOrder}
use Rattle.priority_laws.specs.Started.{StartedRelease, started_as, started_at, started_in}
use Rattle.priority_laws.proofs.AreaLists.{bool_cases}
use Rattle.priority_laws.proofs.AreaMoves.{areas_stay}
use Rattle.priority_laws.proofs.ChosenTurns.{latest_waits}
use Rattle.priority_laws.proofs.FewReleases.{few_started}
use Rattle.priority_laws.proofs.LatestRelease.{order_kept}
use Rattle.priority_laws.proofs.ReachedOrder.{ordered}
use Rattle.priority_laws.proofs.ReleaseMoves.{ReleaseMoves, ceilings_same, moves_on}
use Rattle.priority_laws.proofs.RightRuns.{right_priorities}
use Rattle.priority_laws.proofs.StartedReleases.{started_now}
use Rattle.priority_laws.proofs.Urgency.{IsChosen, is_chosen}
use Rattle.scope_sound.proofs.CallsByTypes.{calls_by_types}
use Rattle.scope_sound.proofs.Safe.{has_facts}
use Rattle.run_sizes.proofs.Deep.{few_frames}
use Rattle.run_sizes.proofs.DeepSteps.{FewFrames, RowsAreFew, row_started, rows_changed}
use Rattle.area_laws.specs.OpenAreas.{open_count}
use Rattle.area_laws.proofs.ClosingOrder.{chosen_of}
use Rattle.area_laws.proofs.CountOpen.{opened_fewer}
use Rattle.area_laws.proofs.FewOpen.{open_inside, open_outside, sequencers, started_few}

-- a started release has fewer frames than it may have
module _ (s : State) (o : IsInOrder s) (rows : RowsAreFew s.releases) (count : started_count s ≤ 28)
    (own : length s.activity.areas ≤ length s.activity.frames + 2) where
  fewer_beside : is_exec s.phase ≡ true → (p : ℕ) (w : StartedRelease) → started_at s.releases p ≡ Some w →
      length w.activity.frames < 64 → open_count s < 1794
  unfolding started_activities
  fewer_beside phase p w there fewer =
      let none : s.activity.frames ≡ [] = o.turns.inside phase in
      let depth : length s.activity.frames ≡ 0 = ap (λ (fs : List Frame). length fs) none in
      let all = open_inside s o in
      let releases = opened_fewer s.releases p w rows there fewer in
      omega (arith, all, releases, own, depth, count)

started_by : (s : State) (index : ℕ) (activity : Activity) → activity_of s (ReleaseAt index) ≡ Some activity →
    (handler : ℕ) × (started_at s.releases index ≡ Some (started_as handler activity))
unfolding activity_of started_at started_in
started_by s index activity e = go (slice_get s.releases index) e
  where
    go : (o : Option Release) → (o >>= (λ r. activity_in r.status)) ≡ Some activity →
        (handler : ℕ) × ((o >>= started_in) ≡ Some (started_as handler activity))
    go None f = absurd (cc)
    go (Some r) f = (r.handler, ap (option_map (started_as r.handler)) f)

-- ---- a release that starts: as if it had started without a frame

module _ (code : Code) (s : State) (o : IsInOrder s) (right : PrioritiesAreRight code s) (rows : RowsAreFew s.releases)
    (own : length s.activity.areas ≤ length s.activity.frames + 2) (exec : is_exec s.phase ≡ true) (index : ℕ)
    (k : IsChosen s index) (row : HandlerRow) (waits : k.release.status ≡ Waits)
    (is_row : handler_row s.registry k.release.handler ≡ Some row) where
  abbrev without_frames : Activity
  without_frames = record { frames = []; areas = []; priority = row.priority }

  abbrev t : State
  t = with_activity s (ReleaseAt index) without_frames

  moves : ReleaseMoves code (Unit {0}) s index k.release.handler row.priority [] t
  moves =
      moves_on code (Unit {0}) s index k.release k.is_there row.priority [] s
      (record {
        phase = refl;
        activity = refl;
        outcome = refl;
        registry = refl;
        releases = refl;
        objects = ceilings_same s.objects;
      })
      without_frames (λ own rises. rises) (λ most low own rises below. below) (λ condition guards. guards)
      (areas_stay s.areas [])

  order : IsInOrder t
  order =
      order_kept code (Unit {0}) s t index k.release.handler row.priority [] o exec
      (latest_waits s o index k row waits is_row) moves

  right_then : PrioritiesAreRight code t
  unfolding with_activity
  right_then =
      record { handlers = right.handlers; rows = right.rows; classes = right.classes; ceilings = right.ceilings }

  rows_then : RowsAreFew t.releases
  unfolding with_activity
  rows_then =
      rows_changed _ index s.releases rows (λ x. row_started x without_frames (omega arith))

  fewer_waits : open_count s < 1794
  unfolding with_activity
  fewer_waits =
      let there : started_at t.releases index ≡ Some (started_as k.release.handler without_frames) =
      started_now s.releases index k.release without_frames k.is_there in
      fewer_beside t order rows_then (few_started code t order right_then) own exec index
      (started_as k.release.handler without_frames) there (omega arith)

-- ---- the states of a run

module _ (forest : Forest) (accepted : IsAcceptedProgram forest) (plan : Plan) (moment : Moment) (s : State)
    (reached : Reached (code_of forest) plan by_priority moment s) where
  o : IsInOrder s
  o = (ordered (code_of forest) plan reached).order

  few : FewFrames s
  few = few_frames (code_of forest) plan by_priority moment s reached

  own : length s.activity.areas ≤ length s.activity.frames + 2
  own = sequencers forest accepted plan moment s reached

  pub fewer_outside : is_exec s.phase ≡ false → open_count s < 1794
  fewer_outside phase =
      let all : open_count s ≤ length s.activity.areas = open_outside s o phase in
      let depth : length s.activity.frames ≤ 64 = few.sequencer in
      let most : length s.activity.areas ≤ length s.activity.frames + 2 = own in
      omega (arith, all, most, depth)

  pub fewer_under_way : (index : ℕ) (activity : Activity) → activity_of s (ReleaseAt index) ≡ Some activity →
      length activity.frames < 64 → open_count s < 1794
  fewer_under_way index activity e fewer = go (bool_cases (is_exec s.phase))
    where
      go : (is_exec s.phase ≡ true) ⊎ (is_exec s.phase ≡ false) → open_count s < 1794
      go (inl phase) =
          let there = started_by s index activity e in
          fewer_beside s o few.releases (started_few forest accepted plan moment s reached) own phase index
          (started_as there.0 activity) there.1 fewer
      go (inr phase) = fewer_outside phase

  pub fewer_at_start : (index : ℕ) (r : Release) (row : HandlerRow) → by_priority s ≡ Some (TurnOf index) →
      slice_get s.releases index ≡ Some r → r.status ≡ Waits → handler_row s.registry r.handler ≡ Some row →
      open_count s < 1794
  fewer_at_start index r row turn there waits is_row = go (bool_cases (is_exec s.phase))
    where
      k : IsChosen s index
      k = is_chosen s index (chosen_of s index turn)

      same : r ≡ k.release
      same = some_inj r k.release (sym there ∙ k.is_there)

      go : (is_exec s.phase ≡ true) ⊎ (is_exec s.phase ≡ false) → open_count s < 1794
      go (inl phase) =
          fewer_waits (code_of forest) s o
          (right_priorities (code_of forest) plan
          (calls_by_types (code_of forest) (has_facts forest accepted)).spares reached)
          few.releases own phase index k row
          (subst (λ (x : Release). x.status ≡ Waits) same waits)
          (subst (λ (x : Release). handler_row s.registry x.handler ≡ Some row) same is_row)
      go (inr phase) = fewer_outside phase
