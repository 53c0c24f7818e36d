use Rattle.std.proofs.Common.{map, take, ap, sym, ◌∙◌}
use Rattle.std.proofs.lemmas.List.{take-map}
use Rattle.scj_tree.specs.Kinds.{kind_of}
use Rattle.scj_tree.proofs.arenas.Arena.truncate.Goals as goal

pub invariant_of-self : goal.invariant_of-self
invariant_of-self c =
    c.truncate-2.ensures.items ∙ ap (take c.args.count) c.self.invariant
    ∙ take-map kind_of c.args.count c.self.inside.nodes.items ∙ ap (map kind_of) (sym c.truncate.ensures.items)
