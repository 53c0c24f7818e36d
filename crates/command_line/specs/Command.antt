-- The command that the words are read by, in the words of specification of `clap`: what it is is what
-- `clap` reads of it. The definitions `fault_of` and `matches_of` of `clap` say of a command and words
-- which words are refused and what else they give.
use Rattle.std.specs.Prelude.{true, Some, codes}
use Rattle.clap.specs.Words.{App, Rule, new_app, new_rule, with_rule}
use Rattle.clap.specs.declared.builder.action.ArgAction.TheVariants.{Append}

-- the first word that is no option and no value of one
unfoldable pub mode_rule : Rule
mode_rule = record (new_rule (codes "mode")) { required = true }

-- `--plan FILE`
unfoldable pub plan_rule : Rule
plan_rule = record (new_rule (codes "plan")) { long = Some (codes "plan") }

-- `--size N`
unfoldable pub size_rule : Rule
size_rule = record (new_rule (codes "size")) { long = Some (codes "size") }

-- all other words, in their order
unfoldable pub source_rule : Rule
source_rule = record (new_rule (codes "source")) { action = Some Append }

-- the words come without the program's name, and there are no flags for help and the version
unfoldable pub bare_command : App
bare_command = record (new_app (codes "scj")) {
  top = record (new_app (codes "scj")).top {
    no_binary_name = true;
    disable_help_flag = true;
    disable_version_flag = true;
  };
}

unfoldable pub command : App
command = with_rule (with_rule (with_rule (with_rule bare_command mode_rule) plan_rule) size_rule) source_rule
