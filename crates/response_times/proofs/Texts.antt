-- What a text declares, from what `toml` answers.
use Rattle.std.proofs.Common.{◌≡◌, List, ℕ, Some, None, Err, refl, inl, inr, IsUtf8}
use Rattle.std.specs.Str.{is_utf8}
use Rattle.std.proofs.lemmas.Bool.{cases_Bool}
use Rattle.std.proofs.lemmas.Str.{IsUtf8-from_is_utf8, is_utf8-from_IsUtf8}
use Rattle.toml.specs.Data.{Members}
use Rattle.toml.specs.Errors.{IsMemory}
use Rattle.toml.specs.declared.de.error.Error.{Error}
use Rattle.toml.specs.Parse.{parse_document}
use Rattle.run_plan.specs.PlanOf.{not_toml}
use Rattle.response_times.specs.Answers.{ReportsError, ReportsDeclared}
use Rattle.response_times.specs.declared.answers.DeclaredError.{DeclaredError}
use Rattle.response_times.specs.declared.answers.DeclaredError.TheVariants as answer
use Rattle.response_times.specs.DeclaredOf.{refused, declared_of, declared_of_text}

pub read_text : (text : List ℕ) (table : Members) → IsUtf8 text → parse_document text ≡ Some table →
    declared_of_text text ≡ declared_of table
unfolding declared_of_text
read_text text table valid read = rw (is_utf8-from_IsUtf8 text valid, read) refl

unread_text : (text : List ℕ) → (IsUtf8 text → parse_document text ≡ None) → declared_of_text text ≡ refused not_toml
unfolding declared_of_text
unread_text text unread = elim (cases_Bool (is_utf8 text)) [
  | inl valid ↦ rw (valid, unread (IsUtf8-from_is_utf8 text valid)) refl
  | inr other ↦ rw other refl
]

-- the refusal of a text that `toml` refuses
pub refused_text : (text : List ℕ) (error : Error) (e : DeclaredError) →
    (¬ IsMemory error → IsUtf8 text → parse_document text ≡ None) → ReportsError error e →
    ReportsDeclared (declared_of_text text) (Err e)
refused_text text error answer.NotToml unread reports = unread_text text (unread reports)
refused_text text error answer.Memory unread reports = tt
refused_text text error (answer.BadKey key) unread reports = absurd reports
refused_text text error (answer.BadValue key) unread reports = absurd reports
