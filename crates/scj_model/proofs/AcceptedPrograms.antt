-- The programs whose runs are computed break no rule.
use Rattle.std.proofs.Common.{refl}
use Rattle.scj_rules.specs.Phases.{IsAccepted}
use Rattle.scj_rules.proofs.AcceptedLemmas.{accepted}
use Rattle.scj_rules.proofs.Computing.{computing}
use Rattle.scj_model.proofs.ProgramA.{a}
use Rattle.scj_model.proofs.ProgramW.{w}
use Rattle.scj_model.proofs.ProgramZ.{z}
use Rattle.scj_model.proofs.ProgramN.{n}
use Rattle.scj_model.proofs.ProgramWithoutHandlers.{without_handlers}
use Rattle.scj_model.proofs.ProgramEndsItself.{ends_itself}
use Rattle.scj_model.proofs.ProgramCeiling.{ceiling}
use Rattle.scj_model.proofs.ProgramTwoBoxes.{two_boxes}
use Rattle.scj_model.proofs.ProgramTwoHandlers.{two_handlers}
use Rattle.scj_model.proofs.ProgramScopedCycle.{scoped_cycle}
use Rattle.scj_model.proofs.ProgramEmptyHandler.{empty_handler}
use Rattle.scj_model.proofs.ProgramEndlessCalls.{endless_calls}

pub a_accepted : IsAccepted a
unfolding computing
a_accepted = accepted a refl refl refl refl

pub w_accepted : IsAccepted w
unfolding computing
w_accepted = accepted w refl refl refl refl

pub z_accepted : IsAccepted z
unfolding computing
z_accepted = accepted z refl refl refl refl

pub n_accepted : IsAccepted n
unfolding computing
n_accepted = accepted n refl refl refl refl

pub without_handlers_accepted : IsAccepted without_handlers
unfolding computing
without_handlers_accepted = accepted without_handlers refl refl refl refl

pub ends_itself_accepted : IsAccepted ends_itself
unfolding computing
ends_itself_accepted = accepted ends_itself refl refl refl refl

pub ceiling_accepted : IsAccepted ceiling
unfolding computing
ceiling_accepted = accepted ceiling refl refl refl refl

pub two_boxes_accepted : IsAccepted two_boxes
unfolding computing
two_boxes_accepted = accepted two_boxes refl refl refl refl

pub two_handlers_accepted : IsAccepted two_handlers
unfolding computing
two_handlers_accepted = accepted two_handlers refl refl refl refl

pub scoped_cycle_accepted : IsAccepted scoped_cycle
unfolding computing
scoped_cycle_accepted = accepted scoped_cycle refl refl refl refl

pub empty_handler_accepted : IsAccepted empty_handler
unfolding computing
empty_handler_accepted = accepted empty_handler refl refl refl refl

pub endless_calls_accepted : IsAccepted endless_calls
unfolding computing
endless_calls_accepted = accepted endless_calls refl refl refl refl
