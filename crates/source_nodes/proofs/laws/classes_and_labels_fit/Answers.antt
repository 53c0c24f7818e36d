use Rattle.std.specs.Prelude.{length}
use Rattle.source_nodes.proofs.ClassNames.{classes_are_named, labels_fit}
use Rattle.source_nodes.proofs.Reading.{nodes_fit}
use Rattle.source_nodes.proofs.laws.classes_and_labels_fit.Goals as goal

pub returns-clause-classes : goal.returns-clause-classes
returns-clause-classes c =
    λ texts forest longest reads short class row e.
    classes_are_named forest (length texts) longest (nodes_fit texts forest longest reads short) class row e

pub returns-clause-labels : goal.returns-clause-labels
returns-clause-labels c =
    λ texts forest longest reads short id.
    labels_fit forest.nodes (length texts) longest (nodes_fit texts forest longest reads short) id
