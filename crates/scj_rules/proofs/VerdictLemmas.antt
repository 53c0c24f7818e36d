-- From the report of a phase to the report of a program.
use Rattle.std.proofs.Common.{◌≡◌, ◌<◌, List, [], ◌∷◌, length, None, arith}
use Rattle.scj_base.specs.declared.findings.Found.{Found}
use Rattle.scj_base.specs.declared.findings.Rule.{Rule}
use Rattle.scj_base.specs.declared.positions.Position.{Position}
use Rattle.scj_tree.specs.Forest.{Forest}
use Rattle.scj_rules.specs.Report.{IsReport}
use Rattle.scj_rules.specs.Phases.{Reports, in_classes, in_types, in_scopes, in_uses, NothingBreaks, BreaksClassRules, BreaksTypeRules, BreaksScopeRules, BreaksUseRules}
use Rattle.scj_rules.proofs.ReportLemmas.{none_contained}

-- an empty report says that nothing is broken
pub nothing_found : (breaks : Rule → Position → Type 0) (found : List Found) → length found ≡ 0 → IsReport breaks found →
    NothingBreaks breaks
nothing_found breaks [] e r =
    λ rule position broken. none_contained _ ((r.exact (record { pos = position; rule = rule })).1 broken)
nothing_found breaks (first ∷ more) e r = absurd (omega (arith, e))

pub reported_of_classes : (forest : Forest) (found : List Found) → 0 < length found →
    IsReport (BreaksClassRules forest) found → Reports forest None found
reported_of_classes forest [] some r = absurd (omega (arith, some))
reported_of_classes forest (first ∷ more) some r = in_classes r

pub reported_of_types : (forest : Forest) (found : List Found) → 0 < length found →
    NothingBreaks (BreaksClassRules forest) → IsReport (BreaksTypeRules forest) found → Reports forest None found
reported_of_types forest [] some c r = absurd (omega (arith, some))
reported_of_types forest (first ∷ more) some c r = in_types c r

pub reported_of_scopes : (forest : Forest) (found : List Found) → 0 < length found →
    NothingBreaks (BreaksClassRules forest) → NothingBreaks (BreaksTypeRules forest) →
    IsReport (BreaksScopeRules forest) found → Reports forest None found
reported_of_scopes forest [] some c t r = absurd (omega (arith, some))
reported_of_scopes forest (first ∷ more) some c t r = in_scopes c t r

pub reported_of_uses : (forest : Forest) (found : List Found) → 0 < length found → NothingBreaks (BreaksClassRules forest) →
    NothingBreaks (BreaksTypeRules forest) → NothingBreaks (BreaksScopeRules forest) →
    IsReport (BreaksUseRules forest) found → Reports forest None found
reported_of_uses forest [] some c t s r = absurd (omega (arith, some))
reported_of_uses forest (first ∷ more) some c t s r = in_uses c t s r
