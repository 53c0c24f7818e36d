-- The audit of a text: the lines of it, and the first one that doesn't pass.
use Rattle.std.specs.Prelude.{ℕ, ◌+◌, ◌==◌, ◌&&◌, List, [], ◌∷◌, length, Option, Some, None, if◌then◌else◌}
use Rattle.scj_rules.specs.Words.{◌>>=◌}
use Rattle.scj_model.specs.Plan.{Plan}
use Rattle.trace_audit.specs.declared.answers.Audit.{Audit}
use Rattle.trace_audit.specs.declared.answers.Audit.TheVariants.{Yes, No}
use Rattle.trace_audit.specs.Lines.{line_of}
use Rattle.trace_audit.specs.Parts.{line_feed}
use Rattle.trace_audit.specs.Replay.{Replay, nothing_reported}
use Rattle.trace_audit.specs.Passing.{replayed}

-- a byte in front of the first of some lines
abbrev pub in_front : ℕ → List (List ℕ) → List (List ℕ)
in_front b [] = (b ∷ []) ∷ []
in_front b (line ∷ lines) = (b ∷ line) ∷ lines

-- the lines of a text without their line feeds, and last what stands behind the last line feed
unfoldable pub lines_of : List ℕ → List (List ℕ)
lines_of [] = [] ∷ []
lines_of (b ∷ bytes) = if b == line_feed then [] ∷ lines_of bytes else in_front b (lines_of bytes)

-- the replay behind a line that is one of a trace and passes
abbrev pub read_and_replayed : Plan → Replay → List ℕ → Option Replay
read_and_replayed plan replay bytes = line_of bytes >>= replayed plan replay

-- lines audited behind those of a replay; the first has this number
unfoldable pub audit_from : Plan → Replay → ℕ → List (List ℕ) → Audit
audit_from plan replay number [] = No number
audit_from plan replay number (rest ∷ []) = if (length rest == 0) && replay.is_over then Yes else No number
audit_from plan replay number (line ∷ next ∷ lines) =
    elim (read_and_replayed plan replay line) [
      | None ↦ No number
      | Some after ↦ audit_from plan after (number + 1) (next ∷ lines)
    ]

-- Yes where each line passes and the last one ends the trace; else No with the first that doesn't pass, or with the
-- number of lines and one more where no line ends the trace
unfoldable pub audit_of : Plan → List ℕ → Audit
audit_of plan trace = audit_from plan nothing_reported 1 (lines_of trace)
