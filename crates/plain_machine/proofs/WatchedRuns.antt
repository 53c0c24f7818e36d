-- A run whose needs are noted, from one unit to the next and at its end.
use Rattle.std.specs.Prelude.{Bool, true, false, IfNone, IfSome, Option, Some, None, is_some, if◌then◌else◌}
use Rattle.std.specs.List.{last_or}
use Rattle.std.proofs.Common.{◌≡◌, ◌∙◌, ℕ, zero, suc, ◌+◌, ◌-◌, ◌<◌, ◌≤◌, List, [], ◌∷◌, ◌++◌, refl, ap, sym, subst, arith}
use Rattle.scj_rules.specs.Words.{◌>>=◌}
use Rattle.scj_model.specs.declared.events.Event.{Event}
use Rattle.scj_model.specs.declared.events.Event.TheVariants.{Stopped}
use Rattle.scj_model.specs.Choice.{by_priority}
use Rattle.scj_model.specs.Code.{code_of}
use Rattle.op_list.specs.Listed.{Listing}
use Rattle.scj_model.specs.Plan.{Plan}
use Rattle.scj_model.specs.Run.{RunSoFar, empty_state, has_ended, run as run_of}
use Rattle.scj_model.specs.State.{State, is_over}
use Rattle.area_needs.specs.Needs.{Needs, after_one_more, after_unit, needs_after, no_needs}
use Rattle.area_tables.specs.Standing.{Reports}
use Rattle.unit_steps.proofs.RunsOn.{stays_ended}
use Rattle.plain_machine.specs.AreaTexts.{as_fault, last_fault}
use Rattle.plain_machine.specs.Ends.{end_of, end_reported}
use Rattle.plain_machine.specs.Runs.{trace_of}
use Rattle.plain_machine.specs.UnderWay.{HasSpent, IsBetween, run_at}
use Rattle.plain_machine.specs.Watched.{HasEndedWith, IsWatched, ReportsNeeds, class_count}
use Rattle.plain_machine.specs.declared.watched.Watched.{Watched}
use Rattle.plain_machine.proofs.EndLaws.{last_behind}
use Rattle.plain_machine.proofs.LastLaws.{reports_last}
use Rattle.plain_machine.proofs.TextLaws.{ended_trace, stopped_trace}
use Rattle.plain_machine.proofs.UnderLaws.{between_after, ended_after}

fault_more : (known : Option Event) (xs ys : List Event) →
    last_fault known (xs ++ ys) ≡ last_fault (last_fault known xs) ys
unfolding last_fault
fault_more known [] ys = refl
fault_more known (x ∷ xs) ys = fault_more (elim (as_fault x) [ None ↦ known | Some fault ↦ Some fault ]) xs ys

last_of_both : (xs ys : List Event) (last : Event) → last_or None ys ≡ Some last → last_or None (xs ++ ys) ≡ Some last
last_of_both xs [] last e = absurd (cc (e))
last_of_both xs (y ∷ ys) last e = last_behind None xs y ys ∙ e

last_reports : (reported : List Event) (last : Event) → last_or None reported ≡ Some last → is_some (end_of reported) ≡ true →
    is_some (end_reported last) ≡ true
unfolding end_of
last_reports reported last e ends = sym (ap (λ (o : Option Event). is_some (o >>= end_reported)) e) ∙ ends

none_reports : (reported : List Event) → last_or None reported ≡ None → is_some (end_of reported) ≡ true → ⊥
unfolding end_of
none_reports reported e ends =
    let clash : false ≡ true = sym (ap (λ (o : Option Event). is_some (o >>= end_reported)) e) ∙ ends in cc (clash)

module _ (code : Listing) (plan : Plan) where
  abbrev needs : ℕ → Needs
  needs n = needs_after (code_of code.program) plan n

  needs_stay : (n k : ℕ) → has_ended (run_at code.program plan n) ≡ true → needs (n + k) ≡ needs n
  unfolding needs_after after_one_more
  needs_stay n zero e = ap (λ (m : ℕ). needs m) (let h : n + zero ≡ n = omega arith in h)
  needs_stay n (suc k) e =
      let there : has_ended (run_at code.program plan (n + k)) ≡ true =
      ap has_ended (stays_ended (code_of code.program) plan by_priority n k e) ∙ e in
      ap (λ (m : ℕ). needs m) (let h : n + suc k ≡ suc (n + k) = omega arith in h)
      ∙ (ap (λ (b : Bool). if b then needs (n + k)
      else after_unit (code_of code.program) plan (run_at code.program plan (n + k)).state (needs (n + k))) there
      ∙ needs_stay n k e)

  reports_end : (n : ℕ) (run : Watched) → n ≤ plan.units → has_ended (run_at code.program plan n) ≡ true →
      ReportsNeeds code.program plan n run.table → ReportsNeeds code.program plan plan.units run.table
  reports_end n run within ended reports =
      let k : ℕ = plan.units - n in
      let whole : n + k ≡ plan.units = omega (arith, within) in
      subst (λ (m : ℕ). ReportsNeeds code.program plan m run.table) whole
      (subst (λ (s : State). Reports (class_count code.program) s (needs (n + k)) run.table)
      (sym (ap (λ (r : RunSoFar). r.state) (stays_ended (code_of code.program) plan by_priority n k ended)))
      (subst (λ (x : Needs). Reports (class_count code.program) (run_at code.program plan n).state x run.table)
      (sym (needs_stay n k ended)) reports))

  module _ (n : ℕ) (run : Watched) (known : Option Event) (within : n < plan.units)
      (spent : HasSpent code plan n run.at) (reports : ReportsNeeds code.program plan (n + 1) run.table)
      (before : known ≡ last_fault None (run_at code.program plan n).events)
      (goes_on : has_ended (run_at code.program plan n) ≡ false)
      (fault : run.fault ≡ last_fault known run.at.reported.items) where
    fault_next : run.fault ≡ last_fault None (run_at code.program plan (n + 1)).events
    fault_next =
        fault
        ∙ (ap (λ (o : Option Event). last_fault o run.at.reported.items) before
        ∙ (sym (fault_more None (run_at code.program plan n).events run.at.reported.items)
        ∙ ap (λ (events : List Event). last_fault None events) (sym spent.reported)))

    pub watched_on : is_over run.at.state.phase ≡ false → IsWatched code plan run
    watched_on e =
        record {
          between = between_after code plan n run.at spent e within;
          reports = subst (λ (m : ℕ). ReportsNeeds code.program plan m run.table) (sym spent.unit) reports;
          fault = fault_next ∙ ap (λ (m : ℕ). last_fault None (run_at code.program plan m).events) (sym spent.unit);
        }

    ended_with : (last : Event) → is_over run.at.state.phase ≡ true →
        last_or None run.at.reported.items ≡ Some last → HasEndedWith code.program plan run last
    ended_with last e is_last =
        let ended : has_ended (run_at code.program plan (n + 1)) ≡ true = ended_after code plan n run.at spent e in
        let whole : trace_of code.program plan ≡ (run_at code.program plan (n + 1)).events =
        ended_trace code.program plan [] (n + 1) (omega (arith, within)) ended in
        record {
          reports = reports_end (n + 1) run (omega (arith, within)) ended reports;
          fault = fault_next ∙ ap (λ (events : List Event). last_fault None events) (sym whole);
          is_last = ap (λ (events : List Event). last_or None events) (whole ∙ spent.reported)
              ∙ last_of_both (run_at code.program plan n).events run.at.reported.items last is_last;
          ends = last_reports run.at.reported.items last is_last (reports_last code plan n run.at spent goes_on e);
        }

    -- where the run is over the unit told something, and the last of it ends the trace
    pub over_none : (P : Type 0) (last : Option Event) → is_over run.at.state.phase ≡ true →
        last ≡ last_or None run.at.reported.items → IfNone last P
    over_none P None e is = absurd
        (none_reports run.at.reported.items (sym is) (reports_last code plan n run.at spent goes_on e))
    over_none P (Some last) e is = tt

    pub over_some : (last : Option Event) → is_over run.at.state.phase ≡ true →
        last ≡ last_or None run.at.reported.items → IfSome last (λ event. HasEndedWith code.program plan run event)
    over_some None e is = tt
    over_some (Some last) e is = ended_with last e (sym is)

  pub stopped_with : (run : Watched) → IsWatched code plan run → run.at.state.unit ≡ plan.units →
      HasEndedWith code.program plan run (Stopped run.at.state.unit)
  unfolding last_fault as_fault end_reported
  stopped_with run watched spent =
      let goes_on : has_ended (run_at code.program plan plan.units) ≡ false =
      ap (λ (m : ℕ). has_ended (run_at code.program plan m)) (sym spent) ∙ watched.between.goes_on in
      let whole : trace_of code.program plan ≡ (run_at code.program plan plan.units).events ++ Stopped plan.units ∷ [] =
      stopped_trace code.program plan [] goes_on in
      record {
        reports = subst (λ (m : ℕ). ReportsNeeds code.program plan m run.table) spent watched.reports;
        fault = watched.fault
            ∙ (ap (λ (m : ℕ). last_fault None (run_at code.program plan m).events) spent
            ∙ (sym (fault_more None (run_at code.program plan plan.units).events (Stopped plan.units ∷ []))
            ∙ ap (λ (events : List Event). last_fault None events) (sym whole)));
        is_last = ap (λ (events : List Event). last_or None events) whole
            ∙ (last_behind None (run_at code.program plan plan.units).events (Stopped plan.units) []
            ∙ ap (λ (m : ℕ). Some (Stopped m)) (sym spent));
        ends = refl;
      }

  pub watched_first : (run : Watched) → IsBetween code plan run.at → run.at.state.unit ≡ 0 →
      ((s : State) → s.areas ≡ [] → Reports (class_count code.program) s no_needs run.table) → run.fault ≡ None →
      IsWatched code plan run
  unfolding needs_after last_fault run_of empty_state
  watched_first run between unit reports fault =
      record {
        between = between;
        reports = subst (λ (m : ℕ). ReportsNeeds code.program plan m run.table) (sym unit)
            (reports (run_at code.program plan 0).state refl);
        fault = fault ∙ ap (λ (m : ℕ). last_fault None (run_at code.program plan m).events) (sym unit);
      }
