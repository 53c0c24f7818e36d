-- The counts of a shelf over files, which are the same for every name.
use Rattle.std.specs.Prelude.{ℕ, List}
use Rattle.scj_io.specs.Loads.{Held}
use Rattle.scj_io.specs.Loads.Held.{Unreported}
use Rattle.scj_io.specs.declared.file_shelves.FileShelf.{FileShelf}

abbrev pub nothing_reported : List ℕ → Held
nothing_reported name = Unreported

abbrev pub faults_of : {R : Type 0} → FileShelf R → List ℕ → ℕ
faults_of shelf name = shelf.faults

abbrev pub most_of : {R : Type 0} → FileShelf R → List ℕ → ℕ
most_of shelf name = shelf.most
