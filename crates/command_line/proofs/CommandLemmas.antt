-- What `clap` says of the command of the program.
use Rattle.std.proofs.Common.{◌≡◌, ◌∙◌, ◌↔◌, true, false, [], ◌∷◌, refl, ap, sym, arith, inl, inr}
use Rattle.std.proofs.lemmas.Bool.Decides.{nat_tests}
use Rattle.clap.specs.Walk.{is_empty}
use Rattle.clap.specs.Words.{App, HasKind, Kinds, is_simple, is_simple_and_free, kind_of}
use Rattle.clap.specs.declared.error.Error.{Error}
use Rattle.clap.specs.declared.error.kind.ErrorKind.TheVariants.{OutOfMemory}
use Rattle.clap.proofs.OnLiterals.{clap_on_literals}
use Rattle.command_line.specs.Command.{bare_command, command, mode_rule, plan_rule, size_rule, source_rule}
use Rattle.command_line.specs.declared.jobs.WordsError.{WordsError}
use Rattle.command_line.specs.declared.jobs.WordsError.TheVariants.{Usage, Memory}

command_is_free : is_simple_and_free command ≡ true
unfolding clap_on_literals command bare_command mode_rule plan_rule size_rule source_rule
command_is_free = refl

command_is_simple : is_simple command ≡ true
unfolding clap_on_literals command bare_command mode_rule plan_rule size_rule source_rule
command_is_simple = refl

pub free_as : (a : App) → a ≡ command → is_simple_and_free a ≡ true
free_as a same = ap is_simple_and_free same ∙ command_is_free

pub simple_as : (a : App) → a ≡ command → is_simple a ≡ true
simple_as a same = ap is_simple same ∙ command_is_simple

-- an error that is no want of memory is one of the kinds, so there are some
pub refused_by_kind : (kinds : Kinds) (e : Error) (r : WordsError) → HasKind kinds e →
    ((r ≡ Memory) ↔ (kind_of e ≡ OutOfMemory))
    → r ≡ Usage → is_empty kinds ≡ false
refused_by_kind [] e r (inl out) reports is = let both : Usage ≡ Memory = sym is ∙ reports.1 out in cc
refused_by_kind [] e r (inr among) reports is = elim among [ ]
refused_by_kind (k ∷ kinds) e r has reports is = grind (arith, nat_tests)
