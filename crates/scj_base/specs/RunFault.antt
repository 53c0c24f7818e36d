-- The names of the faults of a run.
use Rattle.std.specs.Prelude.{ℕ, List, codes}
use Rattle.scj_base.specs.declared.faults.RunFault.{RunFault}
use Rattle.scj_base.specs.declared.faults.RunFault.TheVariants.{NullPointer, ArrayIndex, NegativeSize, DivideByZero, ClassCast, MemoryFull, StoreFull, ScopedCycle, CeilingViolation, BadPriority, BadPeriod, BadPort, NotInitializing, TooManyHandlers, DepthFull}

-- a fault's name, as it is printed
unfoldable pub text_of : RunFault → List ℕ
text_of NullPointer = codes "NullPointer"
text_of ArrayIndex = codes "ArrayIndex"
text_of NegativeSize = codes "NegativeSize"
text_of DivideByZero = codes "DivideByZero"
text_of ClassCast = codes "ClassCast"
text_of MemoryFull = codes "MemoryFull"
text_of StoreFull = codes "StoreFull"
text_of ScopedCycle = codes "ScopedCycle"
text_of CeilingViolation = codes "CeilingViolation"
text_of BadPriority = codes "BadPriority"
text_of BadPeriod = codes "BadPeriod"
text_of BadPort = codes "BadPort"
text_of NotInitializing = codes "NotInitializing"
text_of TooManyHandlers = codes "TooManyHandlers"
text_of DepthFull = codes "DepthFull"
