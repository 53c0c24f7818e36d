-- What a Yes says of choices.
use Rattle.std.specs.Prelude.{◌≡◌, ℕ, List, [], ◌∷◌, ◌++◌, Option, Some, None}
use Rattle.scj_rules.specs.Words.{◌>>=◌}
use Rattle.scj_model.specs.Plan.{Plan}
use Rattle.trace_audit.specs.declared.choices.Choice.{Choice}
use Rattle.trace_audit.specs.declared.choices.Choice.TheVariants.{Idle as Nobody, Chosen}
use Rattle.trace_audit.specs.declared.lines.Entry.{Entry}
use Rattle.trace_audit.specs.declared.lines.Entry.TheVariants.{Run, Idle}
use Rattle.trace_audit.specs.declared.lines.Line.{Line}
use Rattle.trace_audit.specs.Lines.{line_of}
use Rattle.trace_audit.specs.Replay.{Replay, nothing_reported, picked}
use Rattle.trace_audit.specs.Audits.{lines_of, read_and_replayed}

-- the replay behind some lines; none where one of them doesn't pass
unfoldable pub replay_behind : Plan → Replay → List (List ℕ) → Option Replay
replay_behind plan replay [] = Some replay
replay_behind plan replay (line ∷ lines) =
    read_and_replayed plan replay line >>= (λ after. replay_behind plan after lines)

-- the choice that an entry names
abbrev pub choice_named : Entry → Option Choice
choice_named (Run handler number) = Some (Chosen handler number)
choice_named Idle = Some Nobody
choice_named _ = None

-- the lines before a line pass, and the line names Pick behind them, if it names a choice
pub record NamesPick (plan : Plan) (before : List (List ℕ)) (line : Line) : Type 0 where
  pub replay : Replay
  pub is_behind : replay_behind plan nothing_reported before ≡ Some replay
  pub names : (choice : Choice) → choice_named line.entry ≡ Some choice → picked replay.all ≡ choice

-- each line of a text names Pick, if it names a choice
abbrev pub AllNamePick : Plan → List ℕ → Type 0
AllNamePick plan trace =
    (before after : List (List ℕ)) (bytes : List ℕ) (line : Line) → lines_of trace ≡ before ++ bytes ∷ after →
    line_of bytes ≡ Some line → NamesPick plan before line
