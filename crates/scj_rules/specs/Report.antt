-- The report: the breaks, each once, in the order of their files, lines, columns and rules.
use Rattle.std.specs.Prelude.{List, ◌↔◌}
use Rattle.std.specs.Ordering.{nat_cmp, ordering_then}
use Rattle.std.specs.declared.cmp.Ordering.{Ordering}
use Rattle.std.specs.List.{Contains}
use Rattle.std.specs.List.Sorted.{IsStrictlySortedBy}
use Rattle.scj_base.specs.declared.findings.Found.{Found}
use Rattle.scj_base.specs.declared.findings.Rule.{Rule}
use Rattle.scj_base.specs.declared.positions.Position.{Position}
use Rattle.scj_base.specs.Rule.{number_of}

-- the order of places: by file, line and column
abbrev pub position_order : Position → Position → Ordering
position_order a b = ordering_then (nat_cmp a.file b.file) (ordering_then (nat_cmp a.line b.line) (nat_cmp a.col b.col))

-- the order of a report: by place, and at one place by rule
abbrev pub report_order : Found → Found → Ordering
report_order a b = ordering_then (position_order a.pos b.pos) (nat_cmp (number_of a.rule) (number_of b.rule))

-- the list has exactly the breaks, sorted and without repetition
pub record IsReport (breaks : Rule → Position → Type 0) (found : List Found) : Type 0 where
  pub in_order : IsStrictlySortedBy report_order found
  pub exact : (finding : Found) → Contains found finding ↔ breaks finding.rule finding.pos
