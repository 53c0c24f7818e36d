use Rattle.scj_rules.specs.declared.views.Body.TheVariants.{Empty}
use Rattle.scj_model.specs.Code.{code_of}
use Rattle.op_list.proofs.Listings.{row_stays}
use Rattle.op_list.proofs.op_lists.OpList.of.Goals as goal

pub invariant_of-result : goal.invariant_of-result
invariant_of-result c =
    record {
      listed = c.in_ok-bodies.ensures.listed;
      all = c.in_ok-bodies.ensures.all;
      empty = row_stays (code_of c.args.code) c.lay_first.new.rows.items c.lay_bodies.new.rows.items Empty
          c.in_ok-empty.empty c.in_ok-bodies.ensures.longer c.in_ok-empty.ensures.inside c.in_ok-empty.ensures.empty;
    }
