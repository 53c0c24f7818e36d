use Rattle.std.proofs.Common.{rules, ◌≡◌, ◌<◌, ◌++◌, [], List, reverse, ap, sym, ◌∙◌}
use Rattle.scj_show.specs.declared.parts.Part.{Part}
use Rattle.scj_show.specs.Symbols.{canonical}
use Rattle.scj_show.specs.Works.{pending, work}
use Rattle.scj_show.proofs.Unfolding.{step_printed, step_smaller, all_printed}
use Rattle.scj_show.proofs.shows.print.Goals as goal

pub loop-part-smaller : goal.loop-part-smaller
loop-part-smaller c =
    let less : work c.args.program.now.nodes (c.pop.new.self ++ reverse c.print_part.new.parts) < work
    c.args.program.now.nodes c.loop-part.waiting =
    step_smaller c.args.program.now.nodes c.loop-part.waiting c.pop.new.self c.in-Some.part
    c.print_part.new.parts c.in-Some.ensures c.in_ok-print_part.ensures.smaller in
    let moved : c.pop.new.self ++ reverse c.print_part.new.parts ≡ c.turn_over.new.waiting =
    sym c.in_ok-turn_over.ensures.moved in
    rw moved at less

pub loop-part-preserved : goal.loop-part-preserved
loop-part-preserved c =
    let one : c.print_part.new.text.items
    ++ canonical (pending c.args.program.now.nodes (c.pop.new.self ++ reverse c.print_part.new.parts))
    ≡ c.loop-part.text.items ++ canonical (pending c.args.program.now.nodes c.loop-part.waiting) =
    step_printed c.args.program.now.nodes c.loop-part.waiting c.pop.new.self c.in-Some.part
    c.print_part.new.parts c.loop-part.text.items c.print_part.new.text.items c.in-Some.ensures
    c.in_ok-print_part.ensures.printed in
    let moved : c.turn_over.new.waiting ≡ c.pop.new.self ++ reverse c.print_part.new.parts =
    c.in_ok-turn_over.ensures.moved in
    record {
      whole = ap (λ (t : List Part). c.print_part.new.text.items ++ canonical (pending c.args.program.now.nodes t))
          moved ∙ one ∙ c.loop-part.invariant.whole;
      empty = c.in_ok-turn_over.ensures.empty;
    }

pub returns : goal.returns
returns c =
    let none : c.loop-part.waiting ≡ [] = search rules in
    all_printed c.args.program.now.nodes c.loop-part.waiting c.loop-part.text.items _ none
    c.loop-part.invariant.whole
