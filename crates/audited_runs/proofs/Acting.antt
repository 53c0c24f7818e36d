-- The lines of a release that acts: that its active priority is another one, and that it has ended; and lines that tell
-- of no release.
use Rattle.std.proofs.Common.{◌≡◌, ℕ, ◌+◌, ◌==◌, Bool, true, false, List, [], ◌∷◌, inl, inr, Some, None, if◌then◌else◌, refl, sym, ap, ◌∙◌, subst, arith}
use Rattle.std.specs.Prelude.{ℤ}
use Rattle.scj_base.specs.declared.positions.Position.{Position}
use Rattle.scj_base.specs.declared.faults.RunFault.{RunFault}
use Rattle.std.specs.Prelude.{slice_get}
use Rattle.std.proofs.lemmas.Bool.Decides.{nat_tests}
use Rattle.scj_rules.specs.Words.{holds}
use Rattle.scj_model.specs.declared.events.Event.{Event}
use Rattle.scj_model.specs.declared.events.Event.TheVariants as event
use Rattle.scj_model.specs.Plan.{Plan}
use Rattle.scj_model.specs.TraceText.{unit_of}
use Rattle.scj_model.specs.State.{is_exec, Activity, ReleaseStatus, Started as StartedNow, Ended, Release as ReleaseNow, ReleaseAt, State, with_status}
use Rattle.scj_model.specs.Steps.{of_release}
use Rattle.scj_model.specs.Apply.{report_priority}
use Rattle.trace_audit.specs.declared.choices.Choice.TheVariants.{Chosen}
use Rattle.trace_audit.specs.declared.lines.Entry.TheVariants.{Prio, End, Stopped}
use Rattle.trace_audit.specs.declared.releases.Release.{Release}
use Rattle.trace_audit.specs.declared.releases.Standing.TheVariants.{Started, Gone}
use Rattle.trace_audit.specs.Passing.{begun, entry_done, entry_passes, is_of, last_number, number_if, rest_done, table_done}
use Rattle.trace_audit.specs.Printed.{entry_reported}
use Rattle.trace_audit.specs.Replay.{Releases, Replay, gone, is_same_choice, is_waiting, raise_to, raised}
use Rattle.trace_audit.specs.StandsFor.{StandsFor, standing_of}
use Rattle.audited_runs.proofs.Reported.{reported, reported_none, reported_one}
use Rattle.audited_runs.proofs.InUnit.{Kept, Live, Opened, line_opens, line_passes}
use Rattle.audited_runs.proofs.Changes.{changed_as, changed_none}
use Rattle.priority_laws.proofs.AreaLists.{get_changed, same_number}
use Rattle.audited_runs.proofs.Named.{Named, named_restood, restanding_is, restood}
use Rattle.audited_runs.proofs.Executing.{Acts, LastIs, Becomes, Executes, SameCore, Reports, acts_core, acts_restood, acts_seen, as_started, becomes_from, beside_same, core_begun, seen_as, since_alike}

-- ---- lines that tell of no release

-- an entry passes anywhere, and leaves all as it is
pub record ReportsOfNone (e : Event) : Type 0 where
  pub passes : (plan : Plan) (r : Replay) (unit : ℕ) → entry_passes plan r unit (entry_reported e) ≡ true
  pub done : (r : Replay) (unit : ℕ) → entry_done r unit (entry_reported e) ≡ r
  pub is_other : entry_reported e ≡ Stopped → ⊥

pub print_reports_none : (unit label : ℕ) (value : ℤ) → ReportsOfNone (event.Print unit label value)
unfolding entry_passes entry_reported rest_done table_done
print_reports_none unit label value =
    record { passes = λ plan r u. refl; done = λ r u. refl; is_other = λ e. cc (e) }

pub fault_reports_none : (unit : ℕ) (fault : RunFault) (position : Position) → ReportsOfNone (event.Fault unit fault position)
unfolding entry_passes entry_reported rest_done table_done
fault_reports_none unit fault position =
    record { passes = λ plan r u. refl; done = λ r u. refl; is_other = λ e. cc (e) }

pub lost_reports_none : (unit handler : ℕ) → ReportsOfNone (event.Lost unit handler)
unfolding entry_passes entry_reported rest_done table_done
lost_reports_none unit handler =
    record { passes = λ plan r u. refl; done = λ r u. refl; is_other = λ e. cc (e) }

pub terminate_reports_none : (unit : ℕ) → ReportsOfNone (event.Terminate unit)
unfolding entry_passes entry_reported rest_done table_done
terminate_reports_none unit = record { passes = λ plan r u. refl; done = λ r u. refl; is_other = λ e. cc (e) }

-- what such a line leaves
pub record Silent (plan : Plan) (unit : ℕ) (r : Replay) (es : List Event) : Type 0 where
  pub after : Replay
  pub is : reported plan r es ≡ Some after
  pub kept : Kept unit r after
  pub core : SameCore r after
  pub goes_on : after.is_over ≡ false

pub none_reported : (plan : Plan) (unit : ℕ) (r : Replay) (e : Event) → ReportsOfNone e → Live plan unit r →
    unit_of e ≡ unit → Silent plan unit r (e ∷ [])
none_reported plan unit r e none live at =
    let same : entry_done (begun r unit) unit (entry_reported e) ≡ begun r unit = none.done (begun r unit) unit in
    let core : SameCore r (begun r unit) = core_begun r unit in
    record {
      after = begun r unit;
      is = reported_one plan r (begun r unit) e
          (line_passes plan unit r e live at none.is_other (none.passes plan r unit) ∙ ap (λ x. Some x) same);
      kept = inr (subst (λ x. Opened unit r x) same (line_opens unit r (entry_reported e) live.in_order));
      core = core;
      goes_on = core.over ∙ live.goes_on;
    }

-- ---- the release that acts in the state and in the replay

module _ (s : State) (p active : ℕ) (r : Replay) (h : Acts s p active r) where
  -- what the release leaves, where its status is another one
  acts_done : (t : State) (status : ReleaseStatus) → Becomes s t p status →
      is_waiting (seen_as h.release (standing_of status)) ≡ false → (after : Replay) →
      after.all ≡ record r.all { releases = restood (λ _. standing_of status) h.q r.all.releases } →
      after.last_choice ≡ r.last_choice → after.executes_since ≡ r.executes_since → Executes t after
  acts_done t status b waits after all last since =
      record {
        stands = subst (λ (x : Releases). StandsFor t x) (sym all) (acts_restood s t p active r status h b);
        named = subst (λ (x : Releases). Named x) (sym all)
            (named_restood r.all.handlers r.all.releases (λ _. standing_of status) h.q h.named);
        last = subst (λ o. LastIs t.earlier_releases after o) (sym (b.alike.last ∙ h.turn))
            (record {
              q = h.q;
              at = h.at ∙ ap (λ n. n + h.q) (sym b.alike.earlier);
              release = seen_as h.release (standing_of status);
              there = ap (λ (x : Releases). slice_get x.releases h.q) all
                  ∙ get_changed (λ (x : Release). record x { standing = standing_of status }) h.q r.all.releases
                  (seen_as h.release (Started active)) (acts_seen s p active r h);
              named = last ∙ h.last;
              has_started = waits;
            });
        exec = ap is_exec b.alike.phase ∙ h.exec;
        since = since ∙ (h.since ∙ sym (since_alike s t b.alike));
      }

  -- it goes on with the same active priority
  pub acts_stays : (t : State) (a : Activity) → a.priority ≡ active → Becomes s t p (StartedNow a) → Executes t r
  acts_stays t a same b =
      acts_done t (StartedNow a) b refl r
      (ap (λ rs. record r.all { releases = rs })
      (sym (changed_none (λ (x : Release). record x { standing = Started a.priority }) h.q r.all.releases
      (seen_as h.release (Started active)) (acts_seen s p active r h)
      (ap (λ n. seen_as h.release (Started n)) same))))
      refl refl

  -- ---- lines of its name

  of_name : is_of h.release.handler (Chosen h.release.handler h.release.number) ≡ true
  of_name = grind (arith, nat_tests)

  same_name : is_same_choice (Chosen h.release.handler h.release.number) (Chosen h.release.handler h.release.number) ≡ true
  same_name = grind (arith, nat_tests)

  raised_is : (priority : ℕ) → raised priority h.release.handler (last_number r) r.all
      ≡ record r.all { releases = restood (λ _. Started priority) h.q r.all.releases }
  raised_is priority =
      ap (λ o. raised priority h.release.handler (number_if o) r.all) h.last
      ∙ (restanding_is r.all h.named (raise_to priority) h.q (seen_as h.release (Started active)) (acts_seen s p active r h)
      ∙ ap (λ rs. record r.all { releases = rs })
      (changed_as (λ (x : Release). record x { standing = raise_to priority x.standing })
      (λ (x : Release). record x { standing = Started priority }) h.q r.all.releases
      (seen_as h.release (Started active)) (acts_seen s p active r h) refl))

  gone_is : gone h.release.handler h.release.number r.all
      ≡ record r.all { releases = restood (λ _. Gone) h.q r.all.releases }
  gone_is =
      restanding_is r.all h.named (λ _. Gone) h.q (seen_as h.release (Started active)) (acts_seen s p active r h)

  -- the replay behind `prio`
  pub acts_raised : (unit priority : ℕ) → Acts s p priority (entry_done r unit (Prio h.release.handler priority))
  unfolding rest_done table_done
  acts_raised unit priority =
      record {
        q = h.q;
        at = h.at;
        release = h.release;
        there = h.there;
        stands = subst (λ (x : Releases). StandsFor (with_status s p (StartedNow (as_started priority))) x)
            (sym (raised_is priority))
            (acts_restood s (with_status s p (StartedNow (as_started priority))) p active r
            (StartedNow (as_started priority)) h
            (becomes_from s s p (StartedNow (as_started priority)) (beside_same s)));
        named = subst (λ (x : Releases). Named x) (sym (raised_is priority))
            (named_restood r.all.handlers r.all.releases (λ _. Started priority) h.q h.named);
        turn = h.turn;
        last = h.last;
        exec = h.exec;
        since = h.since;
      }

  -- and behind `end`
  pub acts_ended : (unit : ℕ) (t : State) → Becomes s t p Ended →
      Executes t (entry_done r unit (End h.release.handler h.release.number))
  unfolding rest_done table_done
  acts_ended unit t b =
      acts_done t Ended b refl (entry_done r unit (End h.release.handler h.release.number)) gone_is refl refl

  pub prio_passes : (plan : Plan) (unit priority : ℕ) →
      entry_passes plan r unit (Prio h.release.handler priority) ≡ true
  unfolding entry_passes
  prio_passes plan unit priority = ap (λ o. holds o (is_of h.release.handler)) h.last ∙ of_name

  pub end_passes : (plan : Plan) (unit : ℕ) →
      entry_passes plan r unit (End h.release.handler h.release.number) ≡ true
  unfolding entry_passes
  end_passes plan unit =
      ap (λ o. holds o (is_same_choice (Chosen h.release.handler h.release.number))) h.last ∙ same_name

-- ---- the active priority is told where it is another one

pub record Raised (plan : Plan) (unit : ℕ) (r : Replay) (s : State) (p priority : ℕ) (es : List Event) : Type 0 where
  pub after : Replay
  pub is : reported plan r es ≡ Some after
  pub kept : Kept unit r after
  pub acts : Acts s p priority after
  pub goes_on : after.is_over ≡ false

over_prio : (b : Replay) (unit handler priority : ℕ) → (entry_done b unit (Prio handler priority)).is_over ≡ b.is_over
unfolding rest_done
over_prio b unit handler priority = refl

over_end : (b : Replay) (unit handler n : ℕ) → (entry_done b unit (End handler n)).is_over ≡ b.is_over
unfolding rest_done
over_end b unit handler n = refl

prio_reported : (plan : Plan) (r : Replay) (s : State) (p active priority : ℕ) → Live plan s.unit r →
    (h : Acts s p active r) → Raised plan s.unit r s p priority (event.Prio s.unit h.release.handler priority ∷ [])
unfolding entry_reported unit_of acts_core
prio_reported plan r s p active priority live h =
    let b : Replay = begun r s.unit in
    let core : SameCore r b = core_begun r s.unit in
    record {
      after = entry_done b s.unit (Prio h.release.handler priority);
      is = reported_one plan r (entry_done b s.unit (Prio h.release.handler priority)) _
          (line_passes plan s.unit r (event.Prio s.unit h.release.handler priority) live refl (λ e. cc (e))
          (prio_passes s p active r h plan s.unit priority));
      kept = inr (line_opens s.unit r (Prio h.release.handler priority) live.in_order);
      acts = acts_raised s p active b (acts_core s p active r b core h) s.unit priority;
      goes_on = over_prio b s.unit h.release.handler priority ∙ (core.over ∙ live.goes_on);
    }

raised_same : (plan : Plan) (r : Replay) (s : State) (p active priority : ℕ) → Live plan s.unit r →
    Acts s p active r → active ≡ priority → Raised plan s.unit r s p priority []
raised_same plan r s p active priority live h same =
    record {
      after = r;
      is = reported_none plan r;
      kept = inl refl;
      acts = subst (λ n. Acts s p n r) same h;
      goes_on = live.goes_on;
    }

pub reported_of : (s : State) (p : ℕ) (x : ReleaseNow) (report : ReleaseNow → List Event) → slice_get s.releases p ≡ Some x →
    of_release s (ReleaseAt p) report ≡ report x
reported_of s p x report there = ap (λ o. elim o as (λ _. List Event) [ None ↦ [] | Some y ↦ report y ]) there

pub priority_reported : (plan : Plan) (r : Replay) (s : State) (p active priority : ℕ) → Live plan s.unit r →
    Acts s p active r → Raised plan s.unit r s p priority (report_priority s (ReleaseAt p) active priority)
priority_reported plan r s p active priority live h = go (active == priority) refl
  where
    go : (b : Bool) → (active == priority) ≡ b →
        Raised plan s.unit r s p priority
        (if b then [] else of_release s (ReleaseAt p) (λ (x : ReleaseNow). event.Prio s.unit x.handler priority ∷ []))
    go true e = raised_same plan r s p active priority live h (same_number active priority e)
    go false e =
        subst (λ es. Raised plan s.unit r s p priority es)
        (sym (reported_of s p h.release (λ (x : ReleaseNow). event.Prio s.unit x.handler priority ∷ []) h.there))
        (prio_reported plan r s p active priority live h)

-- ---- and it has ended

pub end_reported : (plan : Plan) (r : Replay) (s t : State) (p active : ℕ) → Live plan s.unit r → (h : Acts s p active r) →
    Becomes s t p Ended →
    Reports plan s.unit r t (of_release s (ReleaseAt p) (λ (x : ReleaseNow). event.End s.unit x.handler x.number ∷ []))
unfolding entry_reported unit_of acts_core
end_reported plan r s t p active live h ended =
    let b : Replay = begun r s.unit in
    let core : SameCore r b = core_begun r s.unit in
    let acts : Acts s p active b = acts_core s p active r b core h in
    subst (λ es. Reports plan s.unit r t es)
    (sym (reported_of s p h.release (λ (x : ReleaseNow). event.End s.unit x.handler x.number ∷ []) h.there))
    (record {
      after = entry_done b s.unit (End h.release.handler h.release.number);
      is = reported_one plan r (entry_done b s.unit (End h.release.handler h.release.number)) _
          (line_passes plan s.unit r (event.End s.unit h.release.handler h.release.number) live refl (λ e. cc (e))
          (end_passes s p active r h plan s.unit));
      kept = inr (line_opens s.unit r (End h.release.handler h.release.number) live.in_order);
      executes = acts_ended s p active b acts s.unit t ended;
      goes_on = over_end b s.unit h.release.handler h.release.number ∙ (core.over ∙ live.goes_on);
    })

-- ---- steps of it that tell nothing

pub stays_reported : (plan : Plan) (r : Replay) (s t : State) (p active : ℕ) (a : Activity) → Live plan s.unit r →
    Acts s p active r → a.priority ≡ active → Becomes s t p (StartedNow a) → Reports plan s.unit r t []
stays_reported plan r s t p active a live h same b =
    record {
      after = r;
      is = reported_none plan r;
      kept = inl refl;
      executes = acts_stays s p active r h t a same b;
      goes_on = live.goes_on;
    }
