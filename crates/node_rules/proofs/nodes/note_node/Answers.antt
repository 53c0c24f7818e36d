use Rattle.std.proofs.Common.{◌≡◌, ◌++◌, ℕ, List, sym, ap, ◌∙◌, append_assoc}
use Rattle.scj_base.specs.declared.findings.Found.{Found}
use Rattle.scj_tree.specs.Recursion.{lookup}
use Rattle.scj_rules.specs.Contexts.{declarations_of}
use Rattle.node_contexts.specs.Numbers.{number_before}
use Rattle.node_contexts.proofs.CountLemmas.{number_at}
use Rattle.node_rules.specs.Nodes.{found_there, too_late, noted_at, late_at}
use Rattle.node_rules.proofs.nodes.note_node.Goals as goal

pub returns : goal.returns
unfolding noted_at late_at
returns c =
    let p = declarations_of c.args.classes.now in
    let id = c.args.id in
    let number : c.row_or.result ≡ number_before p id =
    c.row_or.ensures ∙ ap (λ (ns : List ℕ). lookup 0 ns id) c.requires.numbers ∙ sym (number_at p id) in
    let late : c.note_late.new.found.items ≡ c.note_asked.new.found.items ++ too_late p id c.row_or.result =
    rw (← c.program.ensures) c.in_ok-note_late.ensures in
    late ∙ ap (λ n. c.note_asked.new.found.items ++ too_late p id n) number
    ∙ ap (λ (fs : List Found). fs ++ too_late p id (number_before p id)) c.in_ok-note_asked.ensures
    ∙ append_assoc c.args.found.now.items (found_there p id) (too_late p id (number_before p id))
