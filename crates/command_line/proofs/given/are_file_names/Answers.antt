use Rattle.std.proofs.Common.{◌∙◌, rules, tests, sym, List, ℕ}
use Rattle.std.specs.Borrow.{Bor}
use Rattle.std.proofs.lemmas.Iterator.{YieldsList-from_slice}
use Rattle.std.proofs.lemmas.Iterator.Search.{all_from_yields_List}
use Rattle.std.proofs.lemmas.List.Folds.{list_all-map}
use Rattle.command_line.specs.Job.{is_file_name}
use Rattle.command_line.proofs.given.are_file_names.Goals as goal

pub returns : goal.returns
returns c =
    all_from_yields_List (λ (s : Bor (List ℕ)). is_file_name s.now) _ _ _ c.all.ensures.ran
    (YieldsList-from_slice c.args.names.now cc) (λ x b q k. search (rules, tests))
    ∙ sym (list_all-map is_file_name (λ (s : Bor (List ℕ)). s.now) c.args.names.now)
