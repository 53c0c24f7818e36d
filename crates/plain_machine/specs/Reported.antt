-- What a run has told up to a unit, as text, and what comes behind it.
use Rattle.std.specs.Prelude.{◌≡◌, ◌+◌, ◌<◌, ◌≤◌, ◌==◌, ℕ, List, ◌++◌, Some, if◌then◌else◌}
use Rattle.scj_io.specs.Puts.{SinkRun, PutWhole}
use Rattle.scj_tree.specs.Forest.{Forest}
use Rattle.scj_model.specs.Choice.{by_priority}
use Rattle.scj_model.specs.Code.{code_of}
use Rattle.scj_model.specs.Plan.{Plan}
use Rattle.scj_model.specs.Run.{run}
use Rattle.scj_model.specs.TraceText.{text}
use Rattle.plain_machine.specs.Ends.{end_of}
use Rattle.plain_machine.specs.Printing.{BreaksOffIn}
use Rattle.plain_machine.specs.Runs.{trace_of, trace_text}
use Rattle.plain_machine.specs.declared.runs.RunEnd.{RunEnd}
use Rattle.plain_machine.specs.declared.runs.RunError.{RunError}

-- what the reference machine has told in so many units; the names are those of the program's files
unfoldable pub reported_text : Forest → Plan → List (List ℕ) → ℕ → List ℕ
reported_text forest plan names n = text forest.nodes names (run (code_of forest) plan by_priority n).events

-- a text is a front and some bytes behind it, of which this holds
pub record Behind (Holds : List ℕ → Type 0) (front whole : List ℕ) : Type 0 where
  pub bytes : List ℕ
  pub parts : whole ≡ front ++ bytes
  pub holds : Holds bytes

-- of a run that was before unit n: exactly what this unit tells was put
pub record PutsUnit (forest : Forest) (plan : Plan) (names : List (List ℕ)) (n : ℕ) (out : SinkRun) : Type 0 where
  pub within : n < plan.units
  pub put : Behind (PutWhole out) (reported_text forest plan names n) (reported_text forest plan names (n + 1))

-- the rest of the trace was put, and its last line tells this end
pub record PutsRest (forest : Forest) (plan : Plan) (names : List (List ℕ)) (n : ℕ) (out : SinkRun) (end : RunEnd) :
    Type 0 where
  pub put : Behind (PutWhole out) (reported_text forest plan names n) (trace_text forest plan names)
  pub ends : end_of (trace_of forest plan) ≡ Some end

-- the text up to which a step from unit n puts: what this unit tells too; where all units are spent, the whole trace
unfoldable pub next_text : Forest → Plan → List (List ℕ) → ℕ → List ℕ
next_text forest plan names n =
    if n == plan.units then trace_text forest plan names else reported_text forest plan names (n + 1)

-- a step from unit n broke off: for want of memory, with a front put of what it puts, or at a put that failed
pub record BreaksOffFrom (forest : Forest) (plan : Plan) (names : List (List ℕ)) (n : ℕ) (out : SinkRun)
    (stop : RunError) : Type 0 where
  pub within : n ≤ plan.units
  pub broke : Behind (λ bytes. BreaksOffIn bytes out stop) (reported_text forest plan names n)
      (next_text forest plan names n)
