-- Response times of accepted programs: in their runs who may act is of the mission, and no unit is stuck.
use Rattle.std.proofs.Common.{◌≡◌, ℕ, zero, suc, Bool, true, false, not, ◌&&◌, ◌||◌, List, [], ◌∷◌, ◌⊎◌, inl, inr, Option, Some, refl, sym, ap, ◌∙◌}
use Rattle.std.specs.Prelude.{slice_get, unwrap_or}
use Rattle.std.specs.List.{list_any}
use Rattle.std.proofs.lemmas.Bool.{cases_Bool, or_parts}
use Rattle.scj_tree.specs.Forest.{Forest}
use Rattle.accepted_laws.specs.Programs.{IsAcceptedProgram}
use Rattle.scj_model.specs.declared.handlers.HandlerRow.{HandlerRow}
use Rattle.scj_model.specs.Code.{code_of}
use Rattle.scj_model.specs.Plan.{Plan}
use Rattle.scj_model.specs.State.{Activity, ReleaseStatus, Waits, Started, Release, State, is_exec, is_waiting, is_started}
use Rattle.scj_model.specs.Registry.{handler_row}
use Rattle.scj_model.specs.Choice.{may_act, by_priority}
use Rattle.scj_model.specs.Run.{run}
use Rattle.scj_model.specs.Reached.{Between}
use Rattle.scj_model.proofs.Reaching.{reached_run}
use Rattle.scj_model.proofs.Following.{priority_is_fair, fair_listed, by_some_list}
use Rattle.scj_model.proofs.ListedRuns.{safe_run}
use Rattle.mission_sound.specs.Invariant.{HandlersFine, Settled}
use Rattle.mission_sound.proofs.Arrivals.{arrivals_settle}
use Rattle.scope_sound.specs.Sound.{Sound}
use Rattle.scope_sound.proofs.InAnyOrder.{reached_is_sound}
use Rattle.scope_sound.proofs.Operated.{operated}
use Rattle.scope_sound.proofs.Safe.{has_facts, safe}
use Rattle.response_bounds.specs.declared.rows.Declared.{Declared}
use Rattle.response_bounds.specs.declared.responses.Response.{Response}
use Rattle.response_bounds.specs.Responses.{are_bounds}
use Rattle.response_bounds.specs.Rows.{AreDeclared}
use Rattle.response_bounds.proofs.LeastBounds.{claimed_bound}
use Rattle.release_turns.specs.Choices.{state_after, at_choice}
use Rattle.response_times.specs.Runs.{Within, RespondsInTime, RespondsAsClaimed, IsOfMission}
use Rattle.response_times.proofs.Missions.{IsLeft, is_left}
use Rattle.response_times.proofs.Followed.{CandidateCases, candidate_cases}
use Rattle.response_times.proofs.FromMission.{all_from}
use Rattle.response_times.proofs.Bounded.{bounded_if}

none_at : (test : Release → Bool) (rs : List Release) (q : ℕ) (r : Release) → list_any test rs ≡ false →
    slice_get rs q ≡ Some r → test r ≡ false
none_at test [] q r h e = absurd (cc (e))
none_at test (x ∷ rs) zero r h e =
    ap test (sym (ap (λ (o : Option Release). unwrap_or o x) e)) ∙ (or_parts (test x) (list_any test rs) h).0
none_at test (x ∷ rs) (suc q) r h e = none_at test rs q r (or_parts (test x) (list_any test rs) h).1 e

waits_is : (status : ReleaseStatus) → status ≡ Waits → is_waiting status ≡ true
unfolding is_waiting
waits_is status e = ap is_waiting e

started_means : (status : ReleaseStatus) (a : Activity) → status ≡ Started a → is_started status ≡ true
unfolding is_started
started_means status a e = ap is_started e

module _ (forest : Forest) (accepted : IsAcceptedProgram forest) (plan : Plan) where
  sound_after : (t : ℕ) → Sound (code_of forest) (state_after (code_of forest) plan t)
  sound_after t =
      let l = by_some_list (code_of forest) plan Between (state_after (code_of forest) plan t)
      (fair_listed (code_of forest) plan by_priority priority_is_fair (reached_run (code_of forest) plan by_priority t)) in
      reached_is_sound (code_of forest) (has_facts forest accepted) (operated (code_of forest) (has_facts forest accepted).bodies (has_facts forest accepted).sequencer) plan l.0 Between (state_after (code_of forest) plan t) l.1

  settled : (t : ℕ) → Settled (code_of forest) (at_choice (code_of forest) plan t)
  settled t = arrivals_settle (code_of forest) plan (state_after (code_of forest) plan t) (sound_after t).settled

  handlers : (t : ℕ) → HandlersFine (code_of forest) (at_choice (code_of forest) plan t) (settled t).invariant.base
  handlers t = (settled t).invariant.handlers

  exec : (t q : ℕ) → may_act (at_choice (code_of forest) plan t) q ≡ true → is_exec (at_choice (code_of forest) plan t).phase ≡ true
  exec t q e = go (cases_Bool (is_exec s.phase))
    where
      s : State
      s = at_choice (code_of forest) plan t

      k : IsLeft s q
      k = is_left s q e

      go : (is_exec s.phase ≡ true) ⊎ (is_exec s.phase ≡ false) → is_exec s.phase ≡ true
      go (inl f) = f
      go (inr f) = absurd (by (candidate_cases s q k.release k.candidate_of k.is_candidate))
        where
          by : CandidateCases s k.release k.candidate_of → ⊥
          by (inl x) =
              cc (
                waits_is k.release.status x.0,
                none_at (λ (r : Release). is_waiting r.status) s.releases q k.release
                    ((handlers t).none_waits (ap (λ b. b && not s.is_end_asked) f)) k.is_there,
              )
          by (inr x) =
              cc (
                started_means k.release.status x.0 x.1,
                none_at (λ (r : Release). is_started r.status) s.releases q k.release ((handlers t).none_started f) k.is_there,
              )

  free : (t : ℕ) → (run (code_of forest) plan by_priority t).is_stuck ≡ false
  free t = safe_run (code_of forest) plan (safe forest accepted).in_any_order t

  missions : (t : ℕ) → IsOfMission (at_choice (code_of forest) plan t)
  missions t =
      record {
        exec = exec t;
        from = (all_from (code_of forest) plan exec free t).from;
        row = λ q r e f. row q r f (is_left s q e);
      }
    where
      s : State
      s = at_choice (code_of forest) plan t

      row : (q : ℕ) (r : Release) → slice_get s.releases q ≡ Some r → IsLeft s q →
          (row : HandlerRow) × (handler_row s.registry r.handler ≡ Some row)
      row q r f k = (handlers t).handled q r f (by (candidate_cases s q k.release k.candidate_of k.is_candidate))
        where
          same : k.release ≡ r
          same = ap (λ (o : Option Release). unwrap_or o r) (sym k.is_there ∙ f)

          any_left : (a b : Bool) → a ≡ true → (a || b) ≡ true
          any_left true b h = refl
          any_left false b h = absurd (cc (h))

          any_right : (a b : Bool) → b ≡ true → (a || b) ≡ true
          any_right true b h = refl
          any_right false b h = h

          by : CandidateCases s k.release k.candidate_of → (is_waiting r.status || is_started r.status) ≡ true
          by (inl x) =
              any_left (is_waiting r.status) (is_started r.status)
              (ap (λ (y : Release). is_waiting y.status) (sym same) ∙ waits_is k.release.status x.0)
          by (inr x) =
              any_right (is_waiting r.status) (is_started r.status)
              (ap (λ (y : Release). is_started y.status) (sym same) ∙ started_means k.release.status x.0 x.1)

  -- the response times of accepted programs
  pub responses : (rows : List Declared) (n : ℕ) → AreDeclared rows → Within rows (code_of forest) plan n →
      RespondsInTime rows (code_of forest) plan n
  responses rows n declared within =
      bounded_if rows declared (code_of forest) plan n (λ t l. missions t) (free n) within

  -- and as they are claimed
  pub as_claimed : (rows : List Declared) (claims : List Response) (n : ℕ) → AreDeclared rows →
      are_bounds rows claims ≡ true → Within rows (code_of forest) plan n →
      RespondsAsClaimed claims (code_of forest) plan n
  as_claimed rows claims n declared right within i x t index r claimed =
      responses rows n declared within i x t index r (claimed_bound rows claims i x right claimed)
