-- Texts have one report at most, a verdict on their program is theirs, and the report of a program by that of its last
-- phase.
use Rattle.std.proofs.Common.{◌≡◌, ℕ, List, [], ◌∷◌, length, refl, ap, sym, subst, None, arith}
use Rattle.scj_base.specs.declared.findings.Found.{Found}
use Rattle.scj_tree.specs.Forest.{Forest, forest_of}
use Rattle.scj_rules.specs.Phases.{Reports, in_classes, in_types, in_scopes, in_uses, nowhere, IsAccepted, NothingBreaks, BreaksClassRules, BreaksTypeRules, BreaksScopeRules, BreaksUseRules}
use Rattle.scj_rules.specs.Report.{IsReport}
use Rattle.scj_rules.specs.Syntax.{Reads, BreaksSyntax}
use Rattle.scj_rules.specs.Verdicts.{IsReportOf, in_texts, in_program}
use Rattle.scj_rules.proofs.ReportsLemmas.{one_of_reports}
use Rattle.scj_rules.proofs.VerdictLemmas.{nothing_found}
use Rattle.scj_check.specs.Verdicts.{IsVerdict, IsVerdictOn}
use Rattle.scj_check.specs.declared.verdicts.Verdict.{Verdict}
use Rattle.scj_check.specs.declared.verdicts.Verdict.TheVariants.{Accepted, Refused}
use Rattle.scj_check.proofs.SyntaxLaws.{one_program, one_break_reported, program_or_break}

pub one_forest : {texts : List (List ℕ)} {forest other : Forest} → Reads texts forest → Reads texts other →
    forest ≡ other
one_forest a b = one_program 0 (forest_of [] []) _ _ _ a b

pub one_break : {texts : List (List ℕ)} {one other : Found} → BreaksSyntax texts one → BreaksSyntax texts other →
    one ≡ other
one_break a b = one_break_reported 0 (forest_of [] []) _ _ _ a b

pub no_break : {texts : List (List ℕ)} {forest : Forest} {found : Found} → Reads texts forest →
    BreaksSyntax texts found → ⊥
no_break a b = program_or_break 0 (forest_of [] []) _ _ _ a b

pub one_report_of_texts : {texts : List (List ℕ)} {xs ys : List Found} → IsReportOf texts xs → IsReportOf texts ys →
    xs ≡ ys
one_report_of_texts (in_texts b) (in_texts c) = ap (λ (h : Found). h ∷ []) (one_break b c)
one_report_of_texts (in_texts b) (in_program r o) = absurd (no_break r b)
one_report_of_texts (in_program r o) (in_texts b) = absurd (no_break r b)
one_report_of_texts {texts} {xs} {ys} (in_program {forest = f} r o) (in_program s p) =
    one_of_reports f None xs ys o (subst (λ (h : Forest). Reports h None ys) (sym (one_forest r s)) p)

-- the verdict on the program of texts is theirs
pub verdict_of_program : (texts : List (List ℕ)) (forest : Forest) (verdict : Verdict) → Reads texts forest →
    IsVerdictOn forest verdict → IsVerdict texts verdict
verdict_of_program texts forest (Accepted checked) reads on =
    (subst (λ (f : Forest). Reads texts f) (sym on.0) reads, subst IsAccepted (sym on.0) on.1)
verdict_of_program texts forest (Refused report) reads on = (on.0, in_program reads on.1)

-- with nothing broken in the phases before it, the report of the last phase is the program's
pub report_behind_scopes : (forest : Forest) (found : List Found) → NothingBreaks (BreaksClassRules forest) →
    NothingBreaks (BreaksTypeRules forest) → NothingBreaks (BreaksScopeRules forest) →
    IsReport (BreaksUseRules forest) found → Reports forest None found
report_behind_scopes forest [] c t s r =
    nowhere (record { classes = c; types = t; scopes = s; uses = nothing_found _ [] refl r })
report_behind_scopes forest (first ∷ more) c t s r = in_uses c t s r

-- a program with an empty report is accepted
pub accepted_of : (forest : Forest) (found : List Found) → length found ≡ 0 → Reports forest None found →
    IsAccepted forest
accepted_of forest found none (nowhere accepted) = accepted
accepted_of forest found none (in_classes r) = absurd (omega (arith, none))
accepted_of forest found none (in_types c r) = absurd (omega (arith, none))
accepted_of forest found none (in_scopes c t r) = absurd (omega (arith, none))
accepted_of forest found none (in_uses c t s r) = absurd (omega (arith, none))
