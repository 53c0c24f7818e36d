-- Two rules of one number are one rule.
use Rattle.std.proofs.Common.{◌≡◌, List, [], ◌∷◌, slice_get, Some, refl, sym, ap, ◌∙◌}
use Rattle.std.proofs.lemmas.Option.{same_Some}
use Rattle.scj_base.specs.declared.findings.Rule.{Rule}
use Rattle.scj_base.specs.declared.findings.Rule.TheVariants.{L1, L2, L3, L4, P1, P2, C1, C2, C3, C4, C5, C6, C7, C8, C9, C10, C11, K1, K2, K3, K4, T1, T2, T3, T4, T5, T6, T7, T8, T9, T10, T11, T12, T13, T14, S1, S2, S3, S4, S5, S6, A1, A2, A3, A4, A5, A6, A7, A8, A9, E1, E2, E3, E4, E5, E6, E7, E8, E9, E10}
use Rattle.scj_base.specs.Rule.{number_of}

abbrev rules_in_order : List Rule
rules_in_order = L1 ∷ L2 ∷ L3 ∷ L4 ∷ P1 ∷ P2 ∷ C1 ∷ C2 ∷ C3 ∷ C4 ∷ C5 ∷ C6 ∷ C7 ∷ C8 ∷ C9 ∷ C10 ∷ C11 ∷ K1 ∷ K2 ∷ K3
    ∷ K4 ∷ T1 ∷ T2 ∷ T3 ∷ T4 ∷ T5 ∷ T6 ∷ T7 ∷ T8 ∷ T9 ∷ T10 ∷ T11 ∷ T12 ∷ T13 ∷ T14 ∷ S1 ∷ S2 ∷ S3 ∷ S4 ∷ S5 ∷ S6 ∷ A1
    ∷ A2 ∷ A3 ∷ A4 ∷ A5 ∷ A6 ∷ A7 ∷ A8 ∷ A9 ∷ E1 ∷ E2 ∷ E3 ∷ E4 ∷ E5 ∷ E6 ∷ E7 ∷ E8 ∷ E9 ∷ E10 ∷ []

rule_at : (rule : Rule) → slice_get rules_in_order (number_of rule) ≡ Some rule
unfolding number_of
rule_at L1 = refl
rule_at L2 = refl
rule_at L3 = refl
rule_at L4 = refl
rule_at P1 = refl
rule_at P2 = refl
rule_at C1 = refl
rule_at C2 = refl
rule_at C3 = refl
rule_at C4 = refl
rule_at C5 = refl
rule_at C6 = refl
rule_at C7 = refl
rule_at C8 = refl
rule_at C9 = refl
rule_at C10 = refl
rule_at C11 = refl
rule_at K1 = refl
rule_at K2 = refl
rule_at K3 = refl
rule_at K4 = refl
rule_at T1 = refl
rule_at T2 = refl
rule_at T3 = refl
rule_at T4 = refl
rule_at T5 = refl
rule_at T6 = refl
rule_at T7 = refl
rule_at T8 = refl
rule_at T9 = refl
rule_at T10 = refl
rule_at T11 = refl
rule_at T12 = refl
rule_at T13 = refl
rule_at T14 = refl
rule_at S1 = refl
rule_at S2 = refl
rule_at S3 = refl
rule_at S4 = refl
rule_at S5 = refl
rule_at S6 = refl
rule_at A1 = refl
rule_at A2 = refl
rule_at A3 = refl
rule_at A4 = refl
rule_at A5 = refl
rule_at A6 = refl
rule_at A7 = refl
rule_at A8 = refl
rule_at A9 = refl
rule_at E1 = refl
rule_at E2 = refl
rule_at E3 = refl
rule_at E4 = refl
rule_at E5 = refl
rule_at E6 = refl
rule_at E7 = refl
rule_at E8 = refl
rule_at E9 = refl
rule_at E10 = refl

pub one_rule : (a b : Rule) → number_of a ≡ number_of b → a ≡ b
one_rule a b h = same_Some a b (sym (rule_at a) ∙ ap (slice_get rules_in_order) h ∙ rule_at b)
