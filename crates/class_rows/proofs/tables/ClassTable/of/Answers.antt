use Rattle.std.proofs.Common.{rules, ◌∙◌, sym}
use Rattle.class_rows.specs.declared.members.MemberKind.TheVariants.{Field, Method}
use Rattle.class_rows.proofs.BuildingLemmas.{ways_counted}
use Rattle.class_rows.proofs.RowLemmas.{class_length}
use Rattle.class_rows.proofs.tables.ClassTable.of.Goals as goal

pub invariant_of-result : goal.invariant_of-result
invariant_of-result c =
    record {
      count = c.in_ok-count.ensures ∙ sym (class_length c.in_ok-headers.headers);
      under_object = search rules;
      ways = ways_counted c.in_ok-headers.headers c.in_ok-first.first.items c.in_ok-ways.ways.items (search rules)
          (search rules);
      ancestries = search rules;
      fields = search rules;
      methods = search rules;
      fields_above = (c.new-2.ensures Field c.in_ok-headers.headers).reported;
      methods_above = (c.new-3.ensures Method c.in_ok-headers.headers).reported;
      inherited = search rules;
    }
