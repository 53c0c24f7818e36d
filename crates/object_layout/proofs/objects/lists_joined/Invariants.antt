use Rattle.std.proofs.Common.{◌≡◌, ◌++◌, ℕ, [], length, map, flat_map}
use Rattle.scj_tree.specs.Recursion.{lookup}
use Rattle.object_layout.proofs.objects.lists_joined.Given as goal

-- those that are left are still to come
abbrev pub invariant-loop-others : goal.invariant-loop-others
invariant-loop-others l =
    l.nodes.items ++ flat_map (λ (class : ℕ). lookup [] (map (λ v. v.items) l.lists) class) l.others ≡ flat_map
    (λ (class : ℕ). lookup [] (map (λ v. v.items) l.lists) class) l.initial.others

abbrev pub decreases-loop-others : goal.decreases-loop-others
decreases-loop-others l = length l.others
