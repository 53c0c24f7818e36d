-- What rows tell, before any is kept and with one that is.
use Rattle.std.proofs.Common.{◌≡◌, ◌≢◌, ◌<◌, ◌≤◌, ℕ, List, Some, length, replicate, set, sym, ap, ◌∙◌, ⊎_elim}
use Rattle.std.proofs.lemmas.Bool.{cases_lt, cases_eq}
use Rattle.std.proofs.lemmas.List.{get_or-set_same, get_or-set_other, set_past}
use Rattle.std.proofs.lemmas.Option.{same_Some}
use Rattle.scj_tree.specs.Forest.{Forest}
use Rattle.scj_tree.proofs.RecursionLemmas.{lookup-replicate}
use Rattle.scj_rules.specs.Definitions.{read}
use Rattle.scj_rules.specs.Contexts.{declarations_of}
use Rattle.scj_rules.specs.Types.{meaning}
use Rattle.program_facts.specs.declared.meanings.NameMeaning.{NameMeaning}
use Rattle.program_facts.specs.declared.meanings.NodeMeaning.{NodeMeaning}
use Rattle.program_facts.specs.declared.meanings.NodeMeaning.TheVariants.{Name as of_name, Nothing as of_other}
use Rattle.program_facts.specs.Meanings.{meant, simply_named, IsMeaningAt, AreMeanings}

pub none_reported : (forest : Forest) (count : ℕ) (rows : List NodeMeaning) → rows ≡ replicate count of_other →
    AreMeanings forest rows
unfolding IsMeaningAt
none_reported forest count rows e id = rw e (rw (lookup-replicate of_other count id) tt)

-- one more is told
pub one_reported : (forest : Forest) (rows : List NodeMeaning) (id : ℕ) (row : NodeMeaning) → AreMeanings forest rows →
    IsMeaningAt forest id row → AreMeanings forest (set rows id row)
one_reported forest rows id row are is n =
    ⊎_elim
    (λ (same : n ≡ id). rw same (⊎_elim (λ (l : id < length rows). rw (get_or-set_same rows id row of_other l) is)
    (λ (m : length rows ≤ id). rw (set_past rows id row m) (are id)) (cases_lt id (length rows))))
    (λ (other : n ≢ id). rw (get_or-set_other rows id n row of_other other) (are n))
    (cases_eq n id)

-- what the name of a node stands for is told by a row of it
pub name_reported : (forest : Forest) (id : ℕ) (name : List ℕ) (row : NameMeaning)
    → meant forest.nodes row ≡ meaning (declarations_of forest) id name → read forest.nodes simply_named id ≡ Some name
    → IsMeaningAt forest id (of_name row)
unfolding IsMeaningAt
name_reported forest id name row e there other h =
    e ∙ ap (meaning (declarations_of forest) id) (same_Some name other (sym there ∙ h))
