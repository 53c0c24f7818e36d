use Rattle.class_headers.proofs.TableLemmas.{headers_are}
use Rattle.class_headers.proofs.filling.headers_in.Goals as goal

pub invariant_of-result : goal.invariant_of-result
invariant_of-result c =
    headers_are c.args.program.now
    (record {
      program = c.args.program;
      names = c.in_ok-names.names;
      rows = c.in_ok-rows.rows;
      interfaces = c.in_ok-interfaces.interfaces;
      cyclic = c.in_ok-cyclic.cyclic;
      ways = c.in_ok-ways.ways;
    })
    c.in_ok-all.all.items (rw (c.deref.ensures.value, c.in_ok-ids.ensures) at c.in_ok-all.ensures)
    (rw c.deref-2.ensures.value at c.in_ok-names.ensures)
    (rw (c.deref-3.ensures.value, c.in_ok-ids.ensures) at c.in_ok-rows.ensures)
    (rw c.deref-4.ensures.value at c.in_ok-interfaces.ensures)
    (rw (c.deref-5.ensures.value, c.deref-6.ensures.value) at c.in_ok-ways.ensures)
    (rw c.deref-7.ensures.value at c.in_ok-cyclic.ensures.whole)
    (rw c.deref-7.ensures.value at c.in_ok-cyclic.ensures.exact)
