-- Lines and summaries that were worked out by hand: a check of the definitions.
use Rattle.std.proofs.Common.{◌≡◌, [], ◌∷◌, ◌++◌, map, replicate, refl, codes}
use Rattle.std.specs.Fmt.{digits}
use Rattle.scj_base.specs.Lexeme.{is_digit}
use Rattle.run_plan.specs.PlanOf.{not_toml, bad_key, bad_value}
use Rattle.scj_cli.specs.Keys.{shown_key}
use Rattle.scj_cli.specs.Outcomes.{plan_line}
use Rattle.scj_cli.specs.Summaries.{behind_digits, begins_with_print, prints_from, last_line_from, summary_text}

two_prints : summary_text 2 (codes "12 mission Main\n30 print d1 2\n41 print print 3\n42 idle\n50 stopped\n")
    ≡ codes "gen 2\nprints 2\n50 stopped\n"
unfolding summary_text prints_from begins_with_print behind_digits is_digit last_line_from digits
two_prints = refl

one_line : summary_text 250 (codes "0 stopped\n") ≡ codes "gen 250\nprints 0\n0 stopped\n"
unfolding summary_text prints_from begins_with_print behind_digits is_digit last_line_from digits
one_line = refl

no_toml : plan_line not_toml ≡ codes "scj: plan not toml\n"
unfolding plan_line
no_toml = refl

no_store : plan_line (bad_key (codes "store")) ≡ codes "scj: plan bad key store\n"
unfolding plan_line shown_key
no_store = refl

units_with_a_point : plan_line (bad_value (codes "units")) ≡ codes "scj: plan bad value units\n"
unfolding plan_line shown_key
units_with_a_point = refl

-- ---- keys as they are printed

-- control bytes, and the bytes beside them
bytes_shown : shown_key (0 ∷ 9 ∷ 10 ∷ 13 ∷ 31 ∷ 32 ∷ 63 ∷ 126 ∷ 127 ∷ 128 ∷ 255 ∷ [])
    ≡ 63 ∷ 63 ∷ 63 ∷ 63 ∷ 63 ∷ 32 ∷ 63 ∷ 126 ∷ 63 ∷ 128 ∷ 255 ∷ []
unfolding shown_key
bytes_shown = refl

-- a key that would forge a line
one_line_reported : plan_line (bad_key (codes "a\n5 stopped")) ≡ codes "scj: plan bad key a?5 stopped\n"
unfolding plan_line shown_key
one_line_reported = refl

empty_key : plan_line (bad_key []) ≡ codes "scj: plan bad key \n"
unfolding plan_line shown_key
empty_key = refl

-- 256 bytes stand, and a longer key ends behind them
long_keys : map (λ n. shown_key (replicate n 97)) (255 ∷ 256 ∷ 257 ∷ [])
    ≡ map (λ n. replicate n 97) (255 ∷ 256 ∷ 256 ∷ [])
unfolding shown_key
long_keys = refl

-- also within the two bytes of a letter
cut_letter : shown_key (replicate 255 97 ++ (195 ∷ 188 ∷ [])) ≡ replicate 255 97 ++ (195 ∷ [])
unfolding shown_key
cut_letter = refl
