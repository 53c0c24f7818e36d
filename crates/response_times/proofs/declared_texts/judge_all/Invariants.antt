use Rattle.std.proofs.Common.{◌≡◌}
use Rattle.toml.specs.View.{members_view}
use Rattle.response_times.specs.DeclaredOf.{first_refusal}
use Rattle.response_times.proofs.declared_texts.judge_all.Given as goal

abbrev pub invariant-loop-key : goal.invariant-loop-key
invariant-loop-key l = first_refusal (members_view l.key-iterator) ≡ first_refusal (members_view l.table.entries)
