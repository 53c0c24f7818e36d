-- Sorting and dropping repeats puts certain faults in the order of their report, and there is one report.
use Rattle.std.proofs.Common.{◌≡◌, ◌↔◌, ℕ, true, eqb, ◌&&◌, List, [], ◌∷◌, slice_get, Some, ap, ◌∙◌, refl, sym}
use Rattle.std.specs.List.{Contains, dedup}
use Rattle.std.specs.List.Sorted.{IsPermutation, IsSorted, IsStrictlySortedBy}
use Rattle.std.proofs.lemmas.Bool.{and_parts, eqb-true}
use Rattle.std.proofs.lemmas.Option.{same_Some}
use Rattle.std.proofs.lemmas.List.Kept.{Contains-dedup, Contains-from_dedup, IsStrictlySortedBy-dedup}
use Rattle.std.proofs.lemmas.List.Sorted.{Contains-permutation, IsPermutation-sym}
use Rattle.scj_base.specs.declared.faults.RunFault.{RunFault}
use Rattle.scj_base.specs.declared.faults.RunFault.TheVariants.{NullPointer, ArrayIndex, NegativeSize, DivideByZero, ClassCast, MemoryFull, StoreFull, ScopedCycle, CeilingViolation, BadPriority, BadPeriod, BadPort, NotInitializing, TooManyHandlers, DepthFull}
use Rattle.certain_faults.specs.declared.found.CertainFault.{CertainFault}
use Rattle.certain_faults.specs.contracts.found.CertainFaultEq.TheImpl.Laws as same_laws
use Rattle.certain_faults.specs.contracts.found.CertainFaultOrd.TheImpl.Laws as order_laws
use Rattle.certain_faults.specs.Report.{number_of, fault_order, is_same_fault, IsFaultReport}
use Rattle.scj_model.specs.Code.{Code}
use Rattle.scj_rules.proofs.ReportLemmas.{one_sorted}

-- ---- faults of one number are one fault

abbrev in_order : List RunFault
in_order = NullPointer ∷ ArrayIndex ∷ NegativeSize ∷ DivideByZero ∷ ClassCast ∷ MemoryFull
    ∷ StoreFull ∷ ScopedCycle ∷ CeilingViolation ∷ BadPriority
    ∷ BadPeriod ∷ BadPort ∷ NotInitializing ∷ TooManyHandlers ∷ DepthFull ∷ []

at_number : (fault : RunFault) → slice_get in_order (number_of fault) ≡ Some fault
unfolding number_of
at_number NullPointer = refl
at_number ArrayIndex = refl
at_number NegativeSize = refl
at_number DivideByZero = refl
at_number ClassCast = refl
at_number MemoryFull = refl
at_number StoreFull = refl
at_number ScopedCycle = refl
at_number CeilingViolation = refl
at_number BadPriority = refl
at_number BadPeriod = refl
at_number BadPort = refl
at_number NotInitializing = refl
at_number TooManyHandlers = refl
at_number DepthFull = refl

one_name : (a b : RunFault) → number_of a ≡ number_of b → a ≡ b
one_name a b e = same_Some a b (sym (at_number a) ∙ ap (slice_get in_order) e ∙ at_number b)

-- ---- the report

abbrev fault_at : ℕ → ℕ → ℕ → RunFault → CertainFault
fault_at file line col fault = record { pos = record { file = file; line = line; col = col }; fault = fault }

one_fault : (a b : CertainFault) → is_same_fault a b ≡ true → a ≡ b
one_fault a b h =
    let parts = and_parts (eqb a.pos.file b.pos.file && (eqb a.pos.line b.pos.line && eqb a.pos.col b.pos.col))
    (eqb (number_of a.fault) (number_of b.fault)) h in
    let places = and_parts (eqb a.pos.file b.pos.file) (eqb a.pos.line b.pos.line && eqb a.pos.col b.pos.col) parts.0 in
    let within = and_parts (eqb a.pos.line b.pos.line) (eqb a.pos.col b.pos.col) places.1 in
    let fault : a.fault ≡ b.fault = one_name a.fault b.fault
    (eqb-true (number_of a.fault) (number_of b.fault) parts.1) in
    ap (λ n. fault_at n a.pos.line a.pos.col a.fault) (eqb-true a.pos.file b.pos.file places.0)
    ∙ ap (λ n. fault_at b.pos.file n a.pos.col a.fault) (eqb-true a.pos.line b.pos.line within.0)
    ∙ ap (λ n. fault_at b.pos.file b.pos.line n a.fault) (eqb-true a.pos.col b.pos.col within.1)
    ∙ ap (λ f. fault_at b.pos.file b.pos.line b.pos.col f) fault

pub in_fault_order : (sorted : List CertainFault) → IsSorted fault_order sorted →
    IsStrictlySortedBy fault_order (dedup is_same_fault sorted)
in_fault_order sorted h = IsStrictlySortedBy-dedup order_laws.total-law order_laws.matches_eq-law sorted h

pub same_faults : (found sorted : List CertainFault) → IsPermutation found sorted → (one : CertainFault) →
    Contains (dedup is_same_fault sorted) one ↔ Contains found one
same_faults found sorted h one = (
  (λ kept. Contains-permutation sorted found one (IsPermutation-sym found sorted h)
      (Contains-from_dedup is_same_fault sorted one kept)),
  (λ was. Contains-dedup same_laws.laws-law one_fault sorted one (Contains-permutation found sorted one h was)),
)

pub one_fault_report : (code : Code) (xs ys : List CertainFault) → IsFaultReport code xs → IsFaultReport code ys →
    xs ≡ ys
one_fault_report code xs ys h k =
    one_sorted order_laws.total-law xs ys h.in_order k.in_order (λ z m. (k.exact z).1 ((h.exact z).0 m))
    (λ z m. (h.exact z).1 ((k.exact z).0 m))
