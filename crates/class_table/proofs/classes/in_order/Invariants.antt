use Rattle.std.proofs.Common.{◌≡◌, ◌<◌, ℕ, true}
use Rattle.scj_rules.specs.Words.{is_among}
use Rattle.symbol_table.specs.Symbols.{AreClasses}
use Rattle.class_table.proofs.classes.in_order.Given as goal

-- the classes so far are there, those that were there stay, and all are classes
abbrev pub invariant-loop-number : goal.invariant-loop-number
invariant-loop-number l =
    record {
      there : (class : ℕ) → class < l.number → is_among class l.order.items ≡ true;
      kept : (class : ℕ) → is_among class l.initial.order.items ≡ true → is_among class l.order.items ≡ true;
      classes : AreClasses l.classes l.order.items;
    }
