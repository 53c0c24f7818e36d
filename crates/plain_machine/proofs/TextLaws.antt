-- The text of a run, unit by unit.
use Rattle.std.specs.Prelude.{◌++◌, ◌==◌, Some, if◌then◌else◌}
use Rattle.std.proofs.Common.{◌≡◌, ℕ, ◌+◌, ◌-◌, ◌<◌, ◌≤◌, Bool, true, false, List, [], ◌∷◌, refl, sym, ap, ◌∙◌, append_assoc, append-nil, arith}
use Rattle.std.proofs.lemmas.List.Concat.{flat_map-append}
use Rattle.scj_tree.specs.declared.nodes.Node.{Node}
use Rattle.scj_tree.specs.Forest.{Forest}
use Rattle.scj_model.specs.declared.events.Event.{Event}
use Rattle.scj_model.specs.declared.events.Event.TheVariants.{Stopped}
use Rattle.scj_model.specs.Choice.{by_priority}
use Rattle.scj_model.specs.Code.{code_of}
use Rattle.scj_model.specs.Plan.{Plan}
use Rattle.scj_model.specs.Run.{RunSoFar, has_ended, last_line, run, reported_by, trace}
use Rattle.scj_model.specs.TraceText.{line_of, text}
use Rattle.scj_model.proofs.RunLemmas.{run_grows}
use Rattle.unit_steps.proofs.RunsOn.{reported_ended, reported_stopped}
use Rattle.plain_machine.specs.Ends.{end_of, end_reported}
use Rattle.plain_machine.specs.Runs.{trace_of, trace_text}
use Rattle.plain_machine.specs.Reported.{next_text, reported_text}
use Rattle.plain_machine.specs.UnderWay.{run_at}
use Rattle.plain_machine.specs.declared.runs.RunEnd.TheVariants.{Stopped as StoppedEnd}
use Rattle.plain_machine.proofs.EndLaws.{ends_behind}

pub text_append : (nodes : List Node) (names : List (List ℕ)) (xs ys : List Event) →
    text nodes names (xs ++ ys) ≡ text nodes names xs ++ text nodes names ys
unfolding text
text_append nodes names xs ys = flat_map-append (line_of nodes names) xs ys

pub text_one : (nodes : List Node) (names : List (List ℕ)) (event : Event) →
    text nodes names (event ∷ []) ≡ line_of nodes names event
unfolding text
text_one nodes names event = append-nil (line_of nodes names event)

reported_stopping : (n : ℕ) → end_of (Stopped n ∷ []) ≡ Some StoppedEnd
unfolding end_of end_reported
reported_stopping n = refl

module _ (forest : Forest) (plan : Plan) (names : List (List ℕ)) where
  abbrev at : ℕ → RunSoFar
  at n = run_at forest plan n

  abbrev lines : List Event → List ℕ
  lines events = text forest.nodes names events

  -- nothing is told before the first unit
  pub nothing_reported : reported_text forest plan names 0 ≡ []
  unfolding reported_text run text
  nothing_reported = refl

  -- a unit more
  pub reported_more : (n : ℕ) (reported : List Event) → (at (n + 1)).events ≡ (at n).events ++ reported →
      reported_text forest plan names (n + 1) ≡ reported_text forest plan names n ++ lines reported
  unfolding reported_text
  reported_more n reported e = ap lines e ∙ text_append forest.nodes names (at n).events reported

  -- the trace begins with what is told in fewer units
  pub begins_trace : (n : ℕ) → n ≤ plan.units →
      (rest : List ℕ) × (trace_text forest plan names ≡ reported_text forest plan names n ++ rest)
  unfolding reported_text trace_text trace_of trace
  begins_trace n within =
      let k : ℕ = plan.units - n in
      let whole : plan.units ≡ n + k = omega arith in
      let grown = run_grows (code_of forest) plan by_priority n k in
      let last : List Event = last_line plan.units (at plan.units) in
      let parted : (at plan.units).events ++ last ≡ (at n).events ++ (grown.0 ++ last) =
      ap (λ (m : ℕ). (at m).events ++ last) whole
      ∙ (ap (λ (events : List Event). events ++ last) grown.1 ∙ append_assoc (at n).events grown.0 last) in
      (lines (grown.0 ++ last), ap lines parted ∙ text_append forest.nodes names (at n).events (grown.0 ++ last))

  -- where the run has ended, its trace is what it has told
  pub ended_trace : (n : ℕ) → n ≤ plan.units → has_ended (at n) ≡ true → trace_of forest plan ≡ (at n).events
  unfolding trace_of trace
  ended_trace n within e =
      let k : ℕ = plan.units - n in
      let whole : plan.units ≡ n + k = omega arith in
      ap (λ (m : ℕ). reported_by m (at m)) whole ∙ reported_ended (code_of forest) plan by_priority n k e

  pub ended_text : (n : ℕ) → n ≤ plan.units → has_ended (at n) ≡ true →
      trace_text forest plan names ≡ reported_text forest plan names n
  unfolding reported_text trace_text
  ended_text n within e = ap lines (ended_trace n within e)

  -- where all units are spent, one line more says so
  pub stopped_trace : has_ended (at plan.units) ≡ false →
      trace_of forest plan ≡ (at plan.units).events ++ Stopped plan.units ∷ []
  unfolding trace_of trace
  stopped_trace e = reported_stopped (code_of forest) plan by_priority plan.units e

  pub stopped_text : has_ended (at plan.units) ≡ false → trace_text forest plan names
      ≡ reported_text forest plan names plan.units ++ line_of forest.nodes names (Stopped plan.units)
  unfolding reported_text trace_text
  stopped_text e =
      ap lines (stopped_trace e)
      ∙ (text_append forest.nodes names (at plan.units).events (Stopped plan.units ∷ [])
      ∙ ap (λ (bytes : List ℕ). lines (at plan.units).events ++ bytes)
      (text_one forest.nodes names (Stopped plan.units)))

  pub stopped_ends : has_ended (at plan.units) ≡ false → end_of (trace_of forest plan) ≡ Some StoppedEnd
  stopped_ends e =
      ap end_of (stopped_trace e)
      ∙ ends_behind (at plan.units).events (Stopped plan.units ∷ []) StoppedEnd (reported_stopping plan.units)

  -- ---- up to where a step puts

  pub next_last : (n : ℕ) → n ≡ plan.units → next_text forest plan names n ≡ trace_text forest plan names
  unfolding next_text
  next_last n e =
      ap (λ (b : Bool). if b then trace_text forest plan names else reported_text forest plan names (n + 1))
      (let same : (n == plan.units) ≡ true = grind (arith, e) in same)

  pub next_more : (n : ℕ) → n < plan.units →
      next_text forest plan names n ≡ reported_text forest plan names (n + 1)
  unfolding next_text
  next_more n within =
      ap (λ (b : Bool). if b then trace_text forest plan names else reported_text forest plan names (n + 1))
      (let other : (n == plan.units) ≡ false = grind (arith, within) in other)

  -- what is told in a unit more begins with what is told before it
  reported_on : (n : ℕ) → (rest : List ℕ) × (reported_text forest plan names (n + 1) ≡ reported_text forest plan names n ++ rest)
  unfolding reported_text
  reported_on n =
      let grown = run_grows (code_of forest) plan by_priority n 1 in
      (lines grown.0, ap lines grown.1 ∙ text_append forest.nodes names (at n).events grown.0)

  unit_more : (n : ℕ) → (n == plan.units) ≡ false →
      next_text forest plan names n ≡ reported_text forest plan names (n + 1)
  unfolding next_text
  unit_more n e =
      ap (λ (b : Bool). if b then trace_text forest plan names else reported_text forest plan names (n + 1)) e

  next_by : (n : ℕ) (b : Bool) → (n == plan.units) ≡ b →
      (rest : List ℕ) × (next_text forest plan names n ≡ reported_text forest plan names n ++ rest)
  next_by n true e =
      let is_last : n ≡ plan.units = grind (arith, e) in
      let begins = begins_trace n (omega (arith, is_last)) in
      (begins.0, next_last n is_last ∙ begins.1)
  next_by n false e =
      let begins = reported_on n in
      (begins.0, unit_more n e ∙ begins.1)

  pub begins_next : (n : ℕ) →
      (rest : List ℕ) × (next_text forest plan names n ≡ reported_text forest plan names n ++ rest)
  begins_next n = next_by n (n == plan.units) refl

  next_in : (n : ℕ) → n ≤ plan.units → (b : Bool) → (n == plan.units) ≡ b →
      (rest : List ℕ) × (trace_text forest plan names ≡ next_text forest plan names n ++ rest)
  next_in n within true e =
      let is_last : n ≡ plan.units = grind (arith, e) in
      ([], sym (append-nil (next_text forest plan names n) ∙ next_last n is_last))
  next_in n within false e =
      let before : n < plan.units = grind (arith, e, within) in
      let begins = begins_trace (n + 1) (omega (arith, before)) in
      (begins.0, begins.1 ∙ ap (λ (bytes : List ℕ). bytes ++ begins.0) (sym (next_more n before)))

  -- the trace begins with what a step puts up to
  pub next_begins_trace : (n : ℕ) → n ≤ plan.units →
      (rest : List ℕ) × (trace_text forest plan names ≡ next_text forest plan names n ++ rest)
  next_begins_trace n within = next_in n within (n == plan.units) refl
