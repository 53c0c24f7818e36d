-- The places of the faults that are certain, each once, in the order of their files, lines and columns.
use Rattle.std.specs.Prelude.{◌≡◌, ◌↔◌, ◌==◌, ℕ, Bool, List, Some}
use Rattle.std.specs.Ordering.{nat_cmp, on, then_cmp, eq_of_both}
use Rattle.std.specs.declared.cmp.Ordering.{Ordering}
use Rattle.std.specs.List.{Contains}
use Rattle.std.specs.List.Sorted.{IsStrictlySortedBy}
use Rattle.scj_base.specs.declared.faults.RunFault.{RunFault}
use Rattle.scj_base.specs.declared.faults.RunFault.TheVariants.{NullPointer, ArrayIndex, NegativeSize, DivideByZero, ClassCast, MemoryFull, StoreFull, ScopedCycle, CeilingViolation, BadPriority, BadPeriod, BadPort, NotInitializing, TooManyHandlers, DepthFull}
use Rattle.scj_model.specs.Code.{Code, position_of_node}
use Rattle.certain_faults.specs.declared.found.CertainFault.{CertainFault}
use Rattle.certain_faults.specs.Faults.{certain_fault}

-- the faults in their order
unfoldable pub number_of : RunFault → ℕ
number_of NullPointer = 0
number_of ArrayIndex = 1
number_of NegativeSize = 2
number_of DivideByZero = 3
number_of ClassCast = 4
number_of MemoryFull = 5
number_of StoreFull = 6
number_of ScopedCycle = 7
number_of CeilingViolation = 8
number_of BadPriority = 9
number_of BadPeriod = 10
number_of BadPort = 11
number_of NotInitializing = 12
number_of TooManyHandlers = 13
number_of DepthFull = 14

-- by file, line and column, and at one place by fault
abbrev pub fault_order : CertainFault → CertainFault → Ordering
fault_order =
    then_cmp
    (then_cmp (on (λ f. f.pos.file) nat_cmp) (then_cmp (on (λ f. f.pos.line) nat_cmp) (on (λ f. f.pos.col) nat_cmp)))
    (on (λ f. number_of f.fault) nat_cmp)

abbrev pub is_same_fault : CertainFault → CertainFault → Bool
is_same_fault =
    eq_of_both
    (eq_of_both (on (λ f. f.pos.file) ◌==◌) (eq_of_both (on (λ f. f.pos.line) ◌==◌) (on (λ f. f.pos.col) ◌==◌)))
    (on (λ f. number_of f.fault) ◌==◌)

-- some node that stands at the place is certain to end with the fault
pub record IsCertain (code : Code) (found : CertainFault) : Type 0 where
  pub id : ℕ
  pub is_position : position_of_node code id ≡ found.pos
  pub is_fault : certain_fault code id ≡ Some found.fault

-- the list has exactly the places and faults that are certain, sorted and without repetition
pub record IsFaultReport (code : Code) (found : List CertainFault) : Type 0 where
  pub in_order : IsStrictlySortedBy fault_order found
  pub exact : (one : CertainFault) → Contains found one ↔ IsCertain code one
