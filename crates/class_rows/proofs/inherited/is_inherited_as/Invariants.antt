use Rattle.std.proofs.Common.{◌≡◌, [], ◌∷◌, drop}
use Rattle.std.specs.List.{list_any}
use Rattle.scj_rules.specs.ClassRules.{inherits_as, numbers_from}
use Rattle.scj_rules.specs.Contexts.{declarations_of}
use Rattle.class_rows.specs.Inherited.{is_inherited_as}
use Rattle.class_rows.proofs.inherited.is_inherited_as.Given as goal

abbrev pub invariant-loop-number : goal.invariant-loop-number
invariant-loop-number l = list_any (inherits_as (declarations_of l.classes) (l.interface ∷ []) l.node l.name)
    (numbers_from l.number (drop l.number (declarations_of l.classes).classes)) ≡ is_inherited_as
    (declarations_of l.classes) l.interface l.node l.name
