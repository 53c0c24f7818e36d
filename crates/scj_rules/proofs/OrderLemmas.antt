-- Sorting and dropping repeats puts findings in the order of a report.
use Rattle.std.proofs.Common.{◌≡◌, ◌↔◌, ℕ, Bool, true, eqb, ◌&&◌, List, ap, ◌∙◌}
use Rattle.std.specs.List.{Contains, dedup}
use Rattle.std.specs.List.Sorted.{IsPermutation, IsSorted, IsStrictlySortedBy}
use Rattle.std.proofs.lemmas.Bool.{and_parts, eqb-true}
use Rattle.std.proofs.lemmas.List.Kept.{Contains-dedup, Contains-from_dedup, IsStrictlySortedBy-dedup}
use Rattle.std.proofs.lemmas.List.Sorted.{Contains-permutation, IsPermutation-sym}
use Rattle.scj_base.specs.declared.findings.Found.{Found}
use Rattle.scj_base.specs.declared.findings.Rule.{Rule}
use Rattle.scj_base.specs.contracts.findings.FoundPartialEq.TheImpl as same
use Rattle.scj_base.specs.contracts.findings.FoundEq.TheImpl.Laws as same_laws
use Rattle.scj_base.specs.contracts.findings.FoundOrd.TheImpl.Laws as order_laws
use Rattle.scj_base.specs.Rule.{number_of}
use Rattle.scj_rules.specs.Report.{report_order}
use Rattle.scj_rules.proofs.RuleNumbers.{one_rule}

abbrev pub is_same_finding : Found → Found → Bool
is_same_finding = same.ghosts.eq

abbrev finding_of : ℕ → ℕ → ℕ → Rule → Found
finding_of file line col rule = record { pos = record { file = file; line = line; col = col }; rule = rule }

one_finding : (a b : Found) → is_same_finding a b ≡ true → a ≡ b
one_finding a b h =
    let parts = and_parts (eqb a.pos.file b.pos.file && (eqb a.pos.line b.pos.line && eqb a.pos.col b.pos.col))
    (eqb (number_of a.rule) (number_of b.rule)) h in
    let places = and_parts (eqb a.pos.file b.pos.file) (eqb a.pos.line b.pos.line && eqb a.pos.col b.pos.col) parts.0 in
    let within = and_parts (eqb a.pos.line b.pos.line) (eqb a.pos.col b.pos.col) places.1 in
    let rule : a.rule ≡ b.rule = one_rule a.rule b.rule (eqb-true (number_of a.rule) (number_of b.rule) parts.1) in
    ap (λ n. finding_of n a.pos.line a.pos.col a.rule) (eqb-true a.pos.file b.pos.file places.0)
    ∙ ap (λ n. finding_of b.pos.file n a.pos.col a.rule) (eqb-true a.pos.line b.pos.line within.0)
    ∙ ap (λ n. finding_of b.pos.file b.pos.line n a.rule) (eqb-true a.pos.col b.pos.col within.1)
    ∙ ap (λ r. finding_of b.pos.file b.pos.line b.pos.col r) rule

pub in_report_order : (sorted : List Found) → IsSorted report_order sorted →
    IsStrictlySortedBy report_order (dedup is_same_finding sorted)
in_report_order sorted h = IsStrictlySortedBy-dedup order_laws.total-law order_laws.matches_eq-law sorted h

pub same_findings : (found sorted : List Found) → IsPermutation found sorted → (finding : Found) →
    Contains (dedup is_same_finding sorted) finding ↔ Contains found finding
same_findings found sorted h finding = (
  (λ kept. Contains-permutation sorted found finding (IsPermutation-sym found sorted h)
      (Contains-from_dedup is_same_finding sorted finding kept)),
  (λ was. Contains-dedup same_laws.laws-law one_finding sorted finding
      (Contains-permutation found sorted finding h was)),
)
