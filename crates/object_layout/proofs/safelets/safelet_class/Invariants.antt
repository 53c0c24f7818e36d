use Rattle.scj_rules.specs.Contexts.{declarations_of}
use Rattle.object_layout.proofs.SafeletLemmas.{NoneBelow}
use Rattle.object_layout.proofs.safelets.safelet_class.Given as goal

-- none of the classes so far
abbrev pub invariant-loop-number : goal.invariant-loop-number
invariant-loop-number l = NoneBelow (declarations_of l.classes) l.number
