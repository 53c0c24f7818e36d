use Rattle.std.proofs.Common.{◌≡◌, ℕ, List, take, map, length, string_bytes}
use Rattle.scj_io.specs.Loads.{ShelfGoes, shelf_run}
use Rattle.scj_check.specs.Texts.{texts_of}
use Rattle.scj_cli.specs.Endings.{MayStand}
use Rattle.scj_cli.specs.Jobs.{one_limit}
use Rattle.scj_cli.proofs.loads.load_all.Given as goal

abbrev pub invariant-loop-name : goal.invariant-loop-name
invariant-loop-name g l =
    ShelfGoes (g.H.Shelf.held l.fn.shelf) (g.H.Shelf.held l.shelf) (g.H.Shelf.faults l.fn.shelf)
    (g.H.Shelf.faults l.shelf) (g.H.Shelf.most l.fn.shelf) (g.H.Shelf.most l.shelf)
    × ((f n m : List ℕ → ℕ) → MayStand (shelf_run (g.H.Shelf.held l.fn.shelf) f n m) one_limit
    (map string_bytes (take l.name-index l.names)) (texts_of l.sources))
    × (length l.sources ≡ l.name-index)
