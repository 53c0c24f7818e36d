-- A program has one report at most.
use Rattle.std.proofs.Common.{◌≡◌, List, ◌∷◌, refl, Option}
use Rattle.scj_base.specs.declared.findings.Found.{Found}
use Rattle.scj_base.specs.declared.findings.Rule.{Rule}
use Rattle.scj_base.specs.declared.positions.Position.{Position}
use Rattle.scj_tree.specs.Forest.{Forest}
use Rattle.scj_rules.specs.Report.{IsReport}
use Rattle.scj_rules.specs.Phases.{Reports, in_the_text, in_classes, in_types, in_scopes, in_uses, nowhere, NothingBreaks, BreaksClassRules, BreaksTypeRules, BreaksScopeRules, BreaksUseRules}
use Rattle.scj_rules.proofs.ReportLemmas.{Contains-head, one_report_of}

breaks_something : (breaks : Rule → Position → Type 0) (first : Found) (more : List Found) → IsReport breaks (first ∷ more) →
    NothingBreaks breaks → ⊥
breaks_something breaks first more r nothing =
    nothing first.rule first.pos ((r.exact first).0 (Contains-head first more))

pub one_of_reports : (forest : Forest) (early : Option Found) (xs ys : List Found) → Reports forest early xs →
    Reports forest early ys → xs ≡ ys
one_of_reports forest early xs ys in_the_text in_the_text = refl
one_of_reports forest early xs ys (in_classes r1) (in_classes r2) = one_report_of (BreaksClassRules forest) xs ys r1 r2
one_of_reports forest early xs ys (in_classes r1) (in_types c2 r2) =
    absurd (breaks_something (BreaksClassRules forest) _ _ r1 c2)
one_of_reports forest early xs ys (in_classes r1) (in_scopes c2 t2 r2) =
    absurd (breaks_something (BreaksClassRules forest) _ _ r1 c2)
one_of_reports forest early xs ys (in_classes r1) (in_uses c2 t2 s2 r2) =
    absurd (breaks_something (BreaksClassRules forest) _ _ r1 c2)
one_of_reports forest early xs ys (in_classes r1) (nowhere a) =
    absurd (breaks_something (BreaksClassRules forest) _ _ r1 a.classes)
one_of_reports forest early xs ys (in_types c1 r1) (in_classes r2) =
    absurd (breaks_something (BreaksClassRules forest) _ _ r2 c1)
one_of_reports forest early xs ys (in_types c1 r1) (in_types c2 r2) = one_report_of (BreaksTypeRules forest) xs ys r1 r2
one_of_reports forest early xs ys (in_types c1 r1) (in_scopes c2 t2 r2) =
    absurd (breaks_something (BreaksTypeRules forest) _ _ r1 t2)
one_of_reports forest early xs ys (in_types c1 r1) (in_uses c2 t2 s2 r2) =
    absurd (breaks_something (BreaksTypeRules forest) _ _ r1 t2)
one_of_reports forest early xs ys (in_types c1 r1) (nowhere a) =
    absurd (breaks_something (BreaksTypeRules forest) _ _ r1 a.types)
one_of_reports forest early xs ys (in_scopes c1 t1 r1) (in_classes r2) =
    absurd (breaks_something (BreaksClassRules forest) _ _ r2 c1)
one_of_reports forest early xs ys (in_scopes c1 t1 r1) (in_types c2 r2) =
    absurd (breaks_something (BreaksTypeRules forest) _ _ r2 t1)
one_of_reports forest early xs ys (in_scopes c1 t1 r1) (in_scopes c2 t2 r2) =
    one_report_of (BreaksScopeRules forest) xs ys r1 r2
one_of_reports forest early xs ys (in_scopes c1 t1 r1) (in_uses c2 t2 s2 r2) =
    absurd (breaks_something (BreaksScopeRules forest) _ _ r1 s2)
one_of_reports forest early xs ys (in_scopes c1 t1 r1) (nowhere a) =
    absurd (breaks_something (BreaksScopeRules forest) _ _ r1 a.scopes)
one_of_reports forest early xs ys (in_uses c1 t1 s1 r1) (in_classes r2) =
    absurd (breaks_something (BreaksClassRules forest) _ _ r2 c1)
one_of_reports forest early xs ys (in_uses c1 t1 s1 r1) (in_types c2 r2) =
    absurd (breaks_something (BreaksTypeRules forest) _ _ r2 t1)
one_of_reports forest early xs ys (in_uses c1 t1 s1 r1) (in_scopes c2 t2 r2) =
    absurd (breaks_something (BreaksScopeRules forest) _ _ r2 s1)
one_of_reports forest early xs ys (in_uses c1 t1 s1 r1) (in_uses c2 t2 s2 r2) =
    one_report_of (BreaksUseRules forest) xs ys r1 r2
one_of_reports forest early xs ys (in_uses c1 t1 s1 r1) (nowhere a) =
    absurd (breaks_something (BreaksUseRules forest) _ _ r1 a.uses)
one_of_reports forest early xs ys (nowhere a) (in_classes r2) =
    absurd (breaks_something (BreaksClassRules forest) _ _ r2 a.classes)
one_of_reports forest early xs ys (nowhere a) (in_types c2 r2) =
    absurd (breaks_something (BreaksTypeRules forest) _ _ r2 a.types)
one_of_reports forest early xs ys (nowhere a) (in_scopes c2 t2 r2) =
    absurd (breaks_something (BreaksScopeRules forest) _ _ r2 a.scopes)
one_of_reports forest early xs ys (nowhere a) (in_uses c2 t2 s2 r2) =
    absurd (breaks_something (BreaksUseRules forest) _ _ r2 a.uses)
one_of_reports forest early xs ys (nowhere a) (nowhere b) = refl
