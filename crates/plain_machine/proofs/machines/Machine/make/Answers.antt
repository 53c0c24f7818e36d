use Rattle.std.proofs.Common.{◌∙◌, ap}
use Rattle.plain_machine.specs.Printing.{PrinterSeen}
use Rattle.plain_machine.proofs.machines.Machine.make.Goals as goal

pub invariant_of-result : goal.invariant_of-result
invariant_of-result c =
    record {
      same = c.requires.same;
      printed = ap (λ (printer : PrinterSeen). printer.program) c.in_ok-printer.ensures
          ∙ (c.checked-checked.ensures ∙ c.code.ensures);
      never = c.keep_laws.ensures.never;
      lawful = c.keep_laws.ensures.lawful;
      stands = λ e. c.in_ok-at.ensures.between;
    }
