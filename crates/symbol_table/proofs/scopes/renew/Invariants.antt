use Rattle.std.proofs.Common.{◌≡◌, ℕ, not, List, length, None}
use Rattle.class_rows.specs.Members.{first_named, is_reported, nearest_in, nearest_now, AreNearest}
use Rattle.symbol_table.specs.Scopes.{rows_of, with_class, AreNamed, IsUnder}
use Rattle.symbol_table.proofs.scopes.renew.Given as goal

-- what was told stays, and a name that none of the others has stands for what it is to
abbrev pub invariant-loop-others : goal.invariant-loop-others
invariant-loop-others l =
    record {
      kept : (class : ℕ) → is_reported l.nearest class ≡ is_reported l.initial.nearest class;
      named : (path : List ℕ) → IsUnder (rows_of l.classes) l.level path →
          AreNamed l.kind l.classes l.initial.nearest (with_class (not l.is_entered) l.level.class path) → record {
            reported : AreNearest l.kind l.classes l.nearest;
            renewed : (name : List ℕ) → first_named l.kind l.classes.nodes name l.others ≡ None →
                nearest_now l.nearest name ≡ nearest_in l.kind l.classes name
                (with_class l.is_entered l.level.class path);
          };
    }

abbrev pub decreases-loop-others : goal.decreases-loop-others
decreases-loop-others l = length l.others
