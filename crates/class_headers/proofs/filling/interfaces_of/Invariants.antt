use Rattle.std.proofs.Common.{◌≡◌, map, take}
use Rattle.class_headers.specs.NamedNumbers.{found_under}
use Rattle.class_headers.specs.declared.filling.Header.{Header}
use Rattle.class_headers.specs.Rows.{interfaces_at}
use Rattle.class_headers.proofs.filling.interfaces_of.Given as goal

abbrev pub invariant-loop-row : goal.invariant-loop-row
invariant-loop-row l = map (λ v. v.items) l.lists.items ≡ map
    (λ (h : Header). interfaces_at l.program.nodes (found_under l.names) h.node) (take l.row-index l.rows)
