-- What a run leaves on a sink.
use Rattle.std.specs.Prelude.{◌≡◌, ℕ, List, ◌++◌, Some}
use Rattle.scj_io.specs.Puts.{SinkRun, PutWhole, PutFront}
use Rattle.scj_tree.specs.Forest.{Forest}
use Rattle.scj_model.specs.declared.events.Event.{Event}
use Rattle.scj_model.specs.Code.{code_of}
use Rattle.scj_model.specs.Plan.{Plan}
use Rattle.scj_model.specs.Run.{trace}
use Rattle.scj_model.specs.TraceText.{text}
use Rattle.plain_machine.specs.Ends.{end_of}
use Rattle.plain_machine.specs.declared.runs.RunEnd.{RunEnd}
use Rattle.plain_machine.specs.declared.runs.RunError.{RunError}
use Rattle.plain_machine.specs.declared.runs.RunError.TheVariants.{Memory, Failed}

-- what the reference machine tells of a program in all units of a plan
unfoldable pub trace_of : Forest → Plan → List Event
trace_of forest plan = trace (code_of forest) plan plan.units

-- the same as text; the names are those of the program's files
unfoldable pub trace_text : Forest → Plan → List (List ℕ) → List ℕ
trace_text forest plan names = text forest.nodes names (trace_of forest plan)

-- between two moments a sink took exactly a front of these bytes, which may be none or all of them, whether it had a
-- fault or not
pub record PutPart (run : SinkRun) (bytes : List ℕ) : Type 0 where
  pub front : List ℕ
  pub rest : List ℕ
  pub parts : bytes ≡ front ++ rest
  pub put : PutWhole run front

-- the whole trace was put, and its last line tells this end
pub record RunsTo (forest : Forest) (plan : Plan) (names : List (List ℕ)) (out : SinkRun) (end : RunEnd) : Type 0 where
  pub put : PutWhole out (trace_text forest plan names)
  pub ends : end_of (trace_of forest plan) ≡ Some end

-- the run broke off: for want of memory, with a front of the trace put, or at a put that failed
abbrev pub BreaksOff : Forest → Plan → List (List ℕ) → SinkRun → RunError → Type 0
BreaksOff forest plan names out Memory = PutPart out (trace_text forest plan names)
BreaksOff forest plan names out Failed = PutFront out (trace_text forest plan names)
