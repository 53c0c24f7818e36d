use Rattle.scj_model.proofs.AcceptedPrograms.{two_handlers_accepted}
use Rattle.scj_model.proofs.ProgramTwoHandlers.{two_handlers}
use Rattle.scj_model.proofs.RowsOfAreas.{store_exactly_filled}
use Rattle.scj_model.proofs.laws.an_accepted_program_runs.Goals as goal

pub returns : goal.returns
returns c = (two_handlers, two_handlers_accepted, store_exactly_filled)
