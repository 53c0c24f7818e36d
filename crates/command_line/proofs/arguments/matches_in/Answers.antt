use Rattle.std.proofs.Common.{◌≡◌, ◌∙◌, ap, sym, map, string_bytes}
use Rattle.clap.specs.Walk.{is_empty}
use Rattle.clap.specs.Words.{App, fault_of, matches_of}
use Rattle.command_line.specs.declared.jobs.WordsError.TheVariants.{Usage}
use Rattle.command_line.proofs.CommandLemmas.{free_as, refused_by_kind, simple_as}
use Rattle.command_line.proofs.arguments.matches_in.Goals as goal

pub returns-in-Ok-clause-taken : goal.returns-in-Ok-clause-taken
returns-in-Ok-clause-taken c =
    let is = c.in_ok-command.ensures in
    ap (λ (a : App). fault_of a (map string_bytes c.args.words.now)) (sym is) ∙ c.in-Ok.ensures.kinds (free_as _ is)

pub returns-in-Ok-clause-rows : goal.returns-in-Ok-clause-rows
returns-in-Ok-clause-rows c =
    let is = c.in_ok-command.ensures in
    (c.in-Ok.ensures.matches (simple_as _ is)).0 ∙ ap (λ (a : App). matches_of a (map string_bytes c.args.words.now)) is

pub returns-in-Err-clause-usage : goal.returns-in-Err-clause-usage
returns-in-Err-clause-usage c refused =
    let is = c.in_ok-command.ensures in
    let reported : c.refusal.result ≡ Usage = cc in
    ap (λ (a : App). is_empty (fault_of a (map string_bytes c.args.words.now))) (sym is)
    ∙ refused_by_kind _ c.in-Err.error c.refusal.result (c.in-Err.ensures.kinds (free_as _ is)) c.refusal.ensures reported
