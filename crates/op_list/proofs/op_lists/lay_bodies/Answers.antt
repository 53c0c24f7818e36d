use Rattle.std.proofs.Common.{◌≡◌, ◌++◌, ◌∷◌, [], ℕ, sym, ap, ◌∙◌, arith, subst, length, length-append, vec_len, rules}
use Rattle.scj_model.specs.Code.{code_of}
use Rattle.op_list.specs.Listed.{IsNodeRow, IsListed}
use Rattle.op_list.proofs.Layouts.{longer_nothing, longer_still}
use Rattle.op_list.proofs.Listings.{one_more}
use Rattle.op_list.proofs.op_lists.lay_bodies.Goals as goal

pub loop-bodies-init : goal.loop-bodies-init
loop-bodies-init c =
    record {
      listed = subst (λ bodies. IsListed (code_of c.args.code.now) c.args.rows.now.items bodies) (sym c.new-bodies.ensures.items)
          c.requires;
      longer = longer_nothing (code_of c.args.code.now) c.args.rows.now.items;
      few = omega arith;
    }

pub loop-bodies-preserved : goal.loop-bodies-preserved
loop-bodies-preserved c =
    let code = code_of c.args.code.now in
    let pushed : c.push.new.self.items ≡ c.loop-bodies.bodies.items ++ c.in_ok-body.body ∷ [] = c.in_ok-push.ensures.items in
    let long : vec_len c.loop-bodies.bodies ≡ length c.loop-bodies.bodies.items = search rules in
    let id : c.at-id.result ≡ length c.loop-bodies.bodies.items =
    c.at-id.ensures ∙ c.len-in-loop-bodies.ensures ∙ long in
    let len = ap length pushed in
    let put = length-append c.loop-bodies.bodies.items (c.in_ok-body.body ∷ []) in
    let less = c.loop-bodies-test.true in
    let counted = c.node_count-count.ensures.value in
    record {
      listed = subst (λ bodies. IsListed code c.lay_body.new.rows.items bodies) (sym pushed)
          (one_more code c.loop-bodies.rows.items c.lay_body.new.rows.items c.loop-bodies.bodies.items c.in_ok-body.body
          c.loop-bodies.invariant.listed c.in_ok-body.ensures.longer
          (subst (λ (n : ℕ). IsNodeRow code c.lay_body.new.rows.items n c.in_ok-body.body) id c.in_ok-body.ensures.body));
      longer = longer_still code c.args.rows.now.items c.loop-bodies.rows.items c.lay_body.new.rows.items
          c.loop-bodies.invariant.longer c.in_ok-body.ensures.longer;
      few = omega (arith, len, put, less, counted, long);
    }
