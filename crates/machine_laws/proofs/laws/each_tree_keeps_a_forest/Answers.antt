use Rattle.machine_laws.proofs.GrowthOfFiles.{forest_kept}
use Rattle.machine_laws.proofs.laws.each_tree_keeps_a_forest.Goals as goal

pub returns : goal.returns
returns c = λ before after lexemes classes files d h room fits. forest_kept files d h room fits
