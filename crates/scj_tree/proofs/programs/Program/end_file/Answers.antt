use Rattle.std.proofs.Common.{◌<◌, map, subst, sym, length}
use Rattle.std.proofs.lemmas.List.{map-append}
use Rattle.scj_tree.specs.Forest.{Forest, AreFreshClasses}
use Rattle.scj_tree.proofs.ForestLemmas.{IsForest-with_file}
use Rattle.scj_tree.proofs.programs.Program.end_file.Goals as goal

pub invariant_of-self-2 : goal.invariant_of-self-2
invariant_of-self-2 c =
    let old : Forest = record { nodes = c.self.inside.nodes; files = map (λ f. f.items) c.self.inside.files.items } in
    let P : Forest → Type 0 = λ f. AreFreshClasses f c.args.classes.items in
    let Q : Forest → Type 0 = λ f. length f.files < 16 in
    let room = subst Q (sym c.self.view_is) c.requires.few in
    let whole =
    IsForest-with_file old c.args.classes.items c.self.invariant (subst P (sym c.self.view_is) c.requires.fresh)
    room in
    rw (c.in_ok-push.ensures.items, map-append) whole
