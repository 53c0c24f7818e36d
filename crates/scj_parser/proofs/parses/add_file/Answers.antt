use Rattle.std.proofs.Common.{length, ap, sym, ◌∙◌, arith, refl}
use Rattle.scj_base.specs.declared.findings.Rule.TheVariants.{P2}
use Rattle.scj_parser.proofs.ParsingLemmas.{same_found}
use Rattle.scj_parser.proofs.Within.{tree_longer, tree_within}
use Rattle.scj_tree.specs.Files.{too_high}
use Rattle.scj_parser.proofs.parses.add_file.Goals as goal

pub too_deep-requires-clause-behind : goal.too_deep-requires-clause-behind
too_deep-requires-clause-behind c =
    let longer = tree_longer (c.read_classes.ensures.ok c.in_ok-classes.classes c.in_ok-classes.was) in
    omega (arith, ap length c.requires.begun, longer, c.kept_len-first.ensures, ap length c.items.ensures.all)

pub too_deep-requires-clause-children : goal.too_deep-requires-clause-children
too_deep-requires-clause-children c =
    rw (c.kept_len-first.ensures, ← c.requires.begun, c.items.ensures.all)
    (tree_within (c.read_classes.ensures.ok c.in_ok-classes.classes c.in_ok-classes.was)
    c.requires.whole.children_first)

pub returns-in-Some-clause-bad : goal.returns-in-Some-clause-bad
returns-in-Some-clause-bad c = λ found e.
    let same = same_found (record { pos = c.in-Some.pos; rule = P2 }) found e in
    rw (← same) (too_high refl (record {
      after = c.read_classes.new.nodes.all;
      classes = c.in_ok-classes.classes;
      tree = c.read_classes.ensures.ok c.in_ok-classes.classes c.in_ok-classes.was;
      is_high = rw (c.requires.begun, ← c.kept_len-first.ensures, ← c.items.ensures.all)
          (sym c.in_ok-pos.ensures ∙ c.in-Some.is);
    }))
