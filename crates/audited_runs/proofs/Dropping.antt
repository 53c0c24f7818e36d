-- The releases that wait are dropped, each with a line.
use Rattle.std.proofs.Common.{◌≡◌, ℕ, zero, suc, ◌<◌, Bool, true, false, List, [], ◌∷◌, ◌++◌, length, map, drop, inl, inr, Option, Some, None, if◌then◌else◌, refl, sym, ap, ◌∙◌, subst, arith}
use Rattle.std.specs.Prelude.{filter, slice_get}
use Rattle.std.proofs.lemmas.List.{append_assoc}
use Rattle.scj_rules.specs.Words.{holds}
use Rattle.scj_model.specs.declared.events.Event.{Event}
use Rattle.scj_model.specs.declared.events.Event.TheVariants as event
use Rattle.scj_model.specs.Plan.{Plan}
use Rattle.scj_model.specs.TraceText.{unit_of}
use Rattle.scj_model.specs.Choice.{Candidate, candidate, handler_priority}
use Rattle.scj_model.specs.State.{ReleaseStatus, Waits as WaitsNow, Started as StartedNow, Ended, Dropped, Release as ReleaseNow, State, is_waiting as is_waiting_now}
use Rattle.scj_model.specs.Apply.{dropped_release}
use Rattle.trace_audit.specs.declared.lines.Entry.TheVariants.{Drop}
use Rattle.trace_audit.specs.declared.releases.Release.{Release}
use Rattle.trace_audit.specs.declared.releases.Standing.TheVariants.{Waits, Started, Gone}
use Rattle.trace_audit.specs.Passing.{begun, entry_done, entry_passes, replayed, rest_done, table_done}
use Rattle.trace_audit.specs.Printed.{entry_reported, line_reported}
use Rattle.trace_audit.specs.Replay.{Releases, Replay, gone, is_waiting}
use Rattle.trace_audit.specs.StandsFor.{release_seen, standing_of}
use Rattle.audited_runs.proofs.Reported.{reported, reported_more, reported_none}
use Rattle.audited_runs.proofs.InUnit.{Kept, Live, Opened, kept_then, line_opens, line_passes, live_kept}
use Rattle.audited_runs.proofs.Changes.{changed_later}
use Rattle.audited_runs.proofs.Named.{Named, named_restood, release_of_name, restanding_is, restood}
use Rattle.audited_runs.proofs.Stands.{dropped_not}
use Rattle.audited_runs.proofs.Executing.{SameCore, core_begun}

-- ---- which releases wait

waits_both : (status : ReleaseStatus) (b : Bool) → is_waiting_now status ≡ b →
    elim (standing_of status) as (λ _. Bool) [ Waits ↦ true | Started priority ↦ false | Gone ↦ false ] ≡ b
unfolding is_waiting_now
waits_both WaitsNow b e = e
waits_both (StartedNow a) b e = e
waits_both Ended b e = e
waits_both Dropped b e = e

pub waits_seen : (x : ReleaseNow) (b : Bool) → is_waiting_now x.status ≡ b → is_waiting (release_seen x) ≡ b
waits_seen x b e = waits_both x.status b e

-- a release that is no candidate doesn't wait
pub none_waits : (s : State) (index : ℕ) (r : ReleaseNow) → candidate s index r ≡ None → is_waiting_now r.status ≡ false
unfolding candidate is_waiting_now
none_waits s index r h = go r.status h
  where
    go : (status : ReleaseStatus) →
        elim status as (λ _. Option Candidate) [
          | WaitsNow ↦ Some (record { index = index; priority = handler_priority s r.handler; is_started = false })
          | StartedNow activity ↦ Some (record { index = index; priority = activity.priority; is_started = true })
          | Ended ↦ None
          | Dropped ↦ None
        ] ≡ None → is_waiting_now status ≡ false
    go WaitsNow h = absurd (cc (h))
    go (StartedNow a) h = refl
    go Ended h = refl
    go Dropped h = refl

abbrev pub waiting : List ReleaseNow → List ReleaseNow
waiting rs = filter (λ (r : ReleaseNow). is_waiting_now r.status) rs

-- the waiting ones stand behind the first ones, if none of these waits
pub waiting_behind : (e : ℕ) (rs : List ReleaseNow) →
    ((index : ℕ) (r : ReleaseNow) → slice_get rs index ≡ Some r → index < e → is_waiting_now r.status ≡ false) →
    waiting rs ≡ waiting (drop e rs)
waiting_behind zero rs none = refl
waiting_behind (suc e) [] none = refl
waiting_behind (suc e) (r ∷ rs) none =
    ap (λ b. if b then r ∷ waiting rs else waiting rs) (none 0 r refl (omega arith))
    ∙ waiting_behind e rs (λ index x there l. none (suc index) x there (omega (arith, l)))

-- ---- the lines

pub record DropsReported (plan : Plan) (unit : ℕ) (r : Replay) (rs : List ReleaseNow) (es : List Event) : Type 0 where
  pub after : Replay
  pub is : reported plan r es ≡ Some after
  pub kept : Kept unit r after
  pub all : after.all ≡ record r.all { releases = map release_seen rs }
  pub named : Named after.all
  pub last : after.last_choice ≡ r.last_choice
  pub since : after.executes_since ≡ r.executes_since
  pub goes_on : after.is_over ≡ false

at_end : (pre post : List ReleaseNow) (x : ReleaseNow) →
    slice_get (map release_seen (pre ++ x ∷ post)) (length pre) ≡ Some (release_seen x)
at_end [] post x = refl
at_end (y ∷ pre) post x = at_end pre post x

gone_at : (pre post : List ReleaseNow) (x : ReleaseNow) → is_waiting_now x.status ≡ true →
    restood (λ _. Gone) (length pre) (map release_seen (pre ++ x ∷ post))
    ≡ map release_seen (pre ++ dropped_release x ∷ post)
unfolding dropped_release
gone_at [] post x w =
    ap (λ (y : Release). y ∷ map release_seen post)
    (sym (ap (λ (b : Bool). release_seen (if b then record x { status = Dropped } else x)) w))
gone_at (y ∷ pre) post x w =
    changed_later (λ (z : Release). record z { standing = Gone }) (length pre) (release_seen y)
    (map release_seen (pre ++ x ∷ post))
    ∙ ap (λ zs. release_seen y ∷ zs) (gone_at pre post x w)

drop_passes : (plan : Plan) (r : Replay) (unit : ℕ) (pre post : List ReleaseNow) (x : ReleaseNow) → Named r.all →
    r.all.releases ≡ map release_seen (pre ++ x ∷ post) → is_waiting_now x.status ≡ true →
    entry_passes plan r unit (Drop x.handler x.number) ≡ true
unfolding entry_passes
drop_passes plan r unit pre post x named seen w =
    ap (λ o. holds o is_waiting)
    (release_of_name r.all.handlers r.all.releases named (length pre) (release_seen x)
    (ap (λ rs. slice_get rs (length pre)) seen ∙ at_end pre post x))
    ∙ waits_seen x true w

gone_all : (r : Replay) (pre post : List ReleaseNow) (x : ReleaseNow) → Named r.all →
    r.all.releases ≡ map release_seen (pre ++ x ∷ post) → is_waiting_now x.status ≡ true →
    gone x.handler x.number r.all ≡ record r.all { releases = map release_seen (pre ++ dropped_release x ∷ post) }
gone_all r pre post x named seen w =
    restanding_is r.all named (λ _. Gone) (length pre) (release_seen x)
    (ap (λ rs. slice_get rs (length pre)) seen ∙ at_end pre post x)
    ∙ ap (λ rs. record r.all { releases = rs }) (ap (restood (λ _. Gone) (length pre)) seen ∙ gone_at pre post x w)

named_gone : (r : Replay) (pre post : List ReleaseNow) (x : ReleaseNow) → Named r.all →
    r.all.releases ≡ map release_seen (pre ++ x ∷ post) → is_waiting_now x.status ≡ true →
    Named (gone x.handler x.number r.all)
named_gone r pre post x named seen w =
    subst (λ (all : Releases). Named all)
    (sym (restanding_is r.all named (λ _. Gone) (length pre) (release_seen x)
    (ap (λ rs. slice_get rs (length pre)) seen ∙ at_end pre post x)))
    (named_restood r.all.handlers r.all.releases (λ _. Gone) (length pre) named)

-- one line
pub record OneDropped (plan : Plan) (unit : ℕ) (r : Replay) (rs : List ReleaseNow) (e : Event) : Type 0 where
  pub after : Replay
  pub is : replayed plan r (line_reported e) ≡ Some after
  pub kept : Kept unit r after
  pub all : after.all ≡ record r.all { releases = map release_seen rs }
  pub named : Named after.all
  pub last : after.last_choice ≡ r.last_choice
  pub since : after.executes_since ≡ r.executes_since
  pub goes_on : after.is_over ≡ false

drop_done : (plan : Plan) (unit : ℕ) (r b : Replay) (pre post : List ReleaseNow) (x : ReleaseNow) → SameCore r b →
    Live plan unit r → Named r.all → r.all.releases ≡ map release_seen (pre ++ x ∷ post) →
    is_waiting_now x.status ≡ true → b ≡ begun r unit →
    OneDropped plan unit r (pre ++ dropped_release x ∷ post) (event.Drop unit x.handler x.number)
unfolding entry_reported unit_of rest_done table_done
drop_done plan unit r b pre post x core live named seen w same =
    let named_b : Named b.all = subst (λ (all : Releases). Named all) (sym core.all) named in
    let seen_b : b.all.releases ≡ map release_seen (pre ++ x ∷ post) =
    ap (λ (all : Releases). all.releases) core.all ∙ seen in
    record {
      after = entry_done b unit (Drop x.handler x.number);
      is = line_passes plan unit r (event.Drop unit x.handler x.number) live refl (λ e. cc (e))
          (drop_passes plan r unit pre post x named seen w)
          ∙ ap (λ (z : Replay). Some (entry_done z unit (Drop x.handler x.number))) (sym same);
      kept = inr (subst (λ (z : Replay). Opened unit r (entry_done z unit (Drop x.handler x.number))) (sym same)
          (line_opens unit r (Drop x.handler x.number) live.in_order));
      all = gone_all b pre post x named_b seen_b w
          ∙ ap (λ (all : Releases). record all { releases = map release_seen (pre ++ dropped_release x ∷ post) })
          core.all;
      named = named_gone b pre post x named_b seen_b w;
      last = core.last;
      since = core.since;
      goes_on = core.over ∙ live.goes_on;
    }

one_dropped : (plan : Plan) (unit : ℕ) (r : Replay) (pre post : List ReleaseNow) (x : ReleaseNow) →
    Live plan unit r → Named r.all → r.all.releases ≡ map release_seen (pre ++ x ∷ post) →
    is_waiting_now x.status ≡ true →
    OneDropped plan unit r (pre ++ dropped_release x ∷ post) (event.Drop unit x.handler x.number)
one_dropped plan unit r pre post x live named seen w =
    drop_done plan unit r (begun r unit) pre post x (core_begun r unit) live named seen w refl

-- all lines
abbrev pub drops : ℕ → List ReleaseNow → List Event
drops unit rs = map (λ (r : ReleaseNow). event.Drop unit r.handler r.number) rs

-- the next release stands in front of the others
moved_on : (pre post : List ReleaseNow) (x : ReleaseNow) → pre ++ x ∷ post ≡ (pre ++ x ∷ []) ++ post
moved_on pre post x = sym (append_assoc pre (x ∷ []) post)

pub drops_reported : (plan : Plan) (unit : ℕ) (pre post : List ReleaseNow) (r : Replay) → Live plan unit r → Named r.all →
    r.all.releases ≡ map release_seen (pre ++ post) →
    DropsReported plan unit r (pre ++ map dropped_release post) (drops unit (waiting post))
drops_reported plan unit pre [] r live named seen =
    record {
      after = r;
      is = reported_none plan r;
      kept = inl refl;
      all = ap (λ rs. record r.all { releases = rs }) seen;
      named = named;
      last = refl;
      since = refl;
      goes_on = live.goes_on;
    }
drops_reported plan unit pre (x ∷ post) r live named seen =
    go (is_waiting_now x.status) refl (drops_reported plan unit (pre ++ dropped_release x ∷ []) post)
  where
    go : (b : Bool) → is_waiting_now x.status ≡ b →
        ((m : Replay) → Live plan unit m → Named m.all →
        m.all.releases ≡ map release_seen ((pre ++ dropped_release x ∷ []) ++ post) →
        DropsReported plan unit m ((pre ++ dropped_release x ∷ []) ++ map dropped_release post) (drops unit (waiting post))) →
        DropsReported plan unit r (pre ++ dropped_release x ∷ map dropped_release post)
        (drops unit (if b then x ∷ waiting post else waiting post))
    go true w more =
        let one : OneDropped plan unit r (pre ++ dropped_release x ∷ post) (event.Drop unit x.handler x.number) =
        one_dropped plan unit r pre post x live named seen w in
        let rest : DropsReported plan unit one.after ((pre ++ dropped_release x ∷ []) ++ map dropped_release post)
        (drops unit (waiting post)) =
        more one.after (live_kept plan unit r one.after live one.kept one.goes_on) one.named
        (ap (λ (all : Releases). all.releases) one.all
        ∙ ap (map release_seen) (moved_on pre post (dropped_release x))) in
        record {
          after = rest.after;
          is = reported_more plan r one.after rest.after (event.Drop unit x.handler x.number) (drops unit (waiting post))
              one.is rest.is;
          kept = kept_then unit r one.after rest.after one.kept rest.kept;
          all = rest.all
              ∙ (ap (λ (all : Releases). record all {
                releases = map release_seen ((pre ++ dropped_release x ∷ []) ++ map dropped_release post);
              }) one.all
              ∙ ap (λ rs. record r.all { releases = map release_seen rs })
              (sym (moved_on pre (map dropped_release post) (dropped_release x))));
          named = rest.named;
          last = rest.last ∙ one.last;
          since = rest.since ∙ one.since;
          goes_on = rest.goes_on;
        }
    go false w more =
        let rest : DropsReported plan unit r ((pre ++ dropped_release x ∷ []) ++ map dropped_release post)
        (drops unit (waiting post)) =
        more r live named
        (seen ∙ (ap (λ (y : ReleaseNow). map release_seen (pre ++ y ∷ post)) (sym (dropped_not x w))
        ∙ ap (map release_seen) (moved_on pre post (dropped_release x)))) in
        subst (λ rs. DropsReported plan unit r rs (drops unit (waiting post)))
        (sym (moved_on pre (map dropped_release post) (dropped_release x))) rest
