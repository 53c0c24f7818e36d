-- The text that tells what areas a run needs, in the two parts that are put.
use Rattle.std.specs.Prelude.{Option, Some, None, ◌++◌, option_to_list}
use Rattle.std.specs.List.{last_or}
use Rattle.std.proofs.Common.{◌≡◌, ◌∙◌, ℕ, List, [], ◌∷◌, ap, sym, subst}
use Rattle.scj_io.specs.Puts.{PutFront, PutWhole, sink_run}
use Rattle.scj_io.proofs.PutLaws.{PutFront-more, PutWhole-then, PutWhole-then-front}
use Rattle.scj_rules.specs.Words.{◌>>=◌}
use Rattle.scj_tree.specs.Forest.{Forest}
use Rattle.scj_model.specs.declared.events.Event.{Event}
use Rattle.scj_model.specs.Plan.{Plan}
use Rattle.scj_model.specs.TraceText.{text}
use Rattle.plain_machine.specs.AreaTexts.{ReportsAreas, areas_text, end_events, halting, last_fault, rows_text}
use Rattle.plain_machine.specs.Ends.{end_of, end_reported}
use Rattle.plain_machine.specs.Printing.{BreaksOffIn}
use Rattle.plain_machine.specs.Runs.{PutPart, trace_of}
use Rattle.plain_machine.specs.Watched.{HasEndedWith}
use Rattle.plain_machine.specs.declared.runs.RunEnd.{RunEnd}
use Rattle.plain_machine.specs.declared.runs.RunError.{RunError}
use Rattle.plain_machine.specs.declared.runs.RunError.TheVariants.{Memory, Failed}
use Rattle.plain_machine.specs.declared.watched.Watched.{Watched}
use Rattle.plain_machine.proofs.PartLaws.{PutPart-then}

module _ (forest : Forest) (plan : Plan) (names : List (List ℕ)) (run : Watched) (last : Event)
    (ended : HasEndedWith forest plan run last) (end : RunEnd) (reports : end_reported last ≡ Some end) where
  abbrev whole : List Event
  whole = trace_of forest plan

  abbrev events_at_end : List Event
  events_at_end = option_to_list (halting (Some end) run.fault) ++ last ∷ []

  trace_ends : end_of whole ≡ Some end
  unfolding end_of
  trace_ends = ap (λ (o : Option Event). o >>= end_reported) ended.is_last ∙ reports

  events_are : end_events whole ≡ events_at_end
  events_are =
      ap (λ (o : Option RunEnd). option_to_list (halting o (last_fault None whole))
      ++ option_to_list (last_or None whole)) trace_ends
      ∙ (ap (λ (fault : Option Event). option_to_list (halting (Some end) fault)
      ++ option_to_list (last_or None whole)) (sym ended.fault)
      ∙ ap (λ (o : Option Event). option_to_list (halting (Some end) run.fault) ++ option_to_list o) ended.is_last)

  parts : (rows : List ℕ) (events : List Event) → rows ≡ rows_text forest plan → events ≡ events_at_end →
      areas_text forest plan names ≡ rows ++ text forest.nodes names events
  unfolding areas_text
  parts rows events e f =
      ap (λ (all : List Event). rows_text forest plan ++ text forest.nodes names all) (events_are ∙ sym f)
      ∙ ap (λ (bytes : List ℕ). bytes ++ text forest.nodes names events) (sym e)

  pub breaks_first : (rows : List ℕ) (events : List Event) → rows ≡ rows_text forest plan → events ≡ events_at_end →
      (t u : Option (List ℕ)) (k l : ℕ) → PutFront (sink_run t u k l) rows →
      BreaksOffIn (areas_text forest plan names) (sink_run t u k l) Failed
  breaks_first rows events e f t u k l first =
      subst (λ (bytes : List ℕ). PutFront (sink_run t u k l) bytes) (sym (parts rows events e f))
      (PutFront-more first (text forest.nodes names events))

  module _ (rows : List ℕ) (events : List Event) (e : rows ≡ rows_text forest plan) (f : events ≡ events_at_end)
      (t u v : Option (List ℕ)) (k l m : ℕ) where
    pub both_put : PutWhole (sink_run t u k l) rows →
        PutWhole (sink_run u v l m) (text forest.nodes names events) →
        ReportsAreas forest plan names (sink_run t v k m) end
    both_put first second =
        record {
          put = subst (λ (bytes : List ℕ). PutWhole (sink_run t v k m) bytes) (sym (parts rows events e f))
              (PutWhole-then first second);
          ends = trace_ends;
        }

    pub breaks_behind : PutWhole (sink_run t u k l) rows → (stop : RunError) →
        BreaksOffIn (text forest.nodes names events) (sink_run u v l m) stop →
        BreaksOffIn (areas_text forest plan names) (sink_run t v k m) stop
    breaks_behind first Memory second =
        subst (λ (bytes : List ℕ). PutPart (sink_run t v k m) bytes) (sym (parts rows events e f))
        (PutPart-then first second)
    breaks_behind first Failed second =
        subst (λ (bytes : List ℕ). PutFront (sink_run t v k m) bytes) (sym (parts rows events e f))
        (PutWhole-then-front first second)
