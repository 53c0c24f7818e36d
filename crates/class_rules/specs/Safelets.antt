-- The safelets of a program, one after the other.
use Rattle.std.specs.Prelude.{ℕ, Bool, true, false, List, drop, Option, Some, None, if◌then◌else◌}
use Rattle.scj_base.specs.declared.findings.Found.{Found}
use Rattle.scj_base.specs.declared.findings.Rule.TheVariants.{C8}
use Rattle.scj_rules.specs.Words.{broken_at_each, ◌>>=◌}
use Rattle.scj_rules.specs.Views.{WrittenClass}
use Rattle.scj_rules.specs.Classes.{ClassRow}
use Rattle.scj_rules.specs.ClassRules.{is_safelet, safelets_from, c8_of}
use Rattle.scj_rules.specs.Contexts.{Declarations}
use Rattle.class_rows.specs.Tables.{class_written}

-- the class, if it is a safelet
abbrev pub safelet_if : List ClassRow → ℕ → WrittenClass → Option WrittenClass
safelet_if rows class c = if is_safelet rows class c then Some c else None

unfoldable pub safelet_at : Declarations → ℕ → Option WrittenClass
safelet_at p class = class_written p class >>= safelet_if p.written class

-- what is still to be noted of these safelets, and of those from a number on, where there was one or none before them
unfoldable pub left_over : Bool → List WrittenClass → List Found
left_over true cs = broken_at_each (λ (c : WrittenClass). c.position) C8 cs
left_over false cs = c8_of cs

unfoldable pub left_from : Declarations → ℕ → Bool → List Found
left_from p class is_seen = left_over is_seen (safelets_from p.written class (drop class p.written))
