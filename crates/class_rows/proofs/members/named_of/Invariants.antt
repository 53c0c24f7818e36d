use Rattle.std.proofs.Common.{◌≡◌}
use Rattle.std.specs.HashMap.{get}
use Rattle.class_headers.specs.NamedNumbers.{found_under}
use Rattle.class_rows.specs.declared.members.OwnKey.{OwnKey}
use Rattle.class_rows.specs.Members.{is_like, is_same_own}
use Rattle.class_rows.proofs.MemberLemmas.{named_below}
use Rattle.class_rows.proofs.members.named_of.Given as goal

-- the classes so far are entered
abbrev pub invariant-loop-number : goal.invariant-loop-number
invariant-loop-number l =
    (key : OwnKey) → get is_same_own l.named key
    ≡ named_below l.classes (is_like l.kind l.classes.nodes (found_under l.firsts) key.first) key.class l.number
