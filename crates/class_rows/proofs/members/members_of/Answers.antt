use Rattle.std.proofs.Common.{◌≡◌, ◌∙◌, ℕ, List}
use Rattle.scj_rules.specs.Contexts.{declarations_of}
use Rattle.class_headers.specs.NamedNumbers.{found_under}
use Rattle.class_rows.specs.Members.{first_declared, own_key, member_nodes}
use Rattle.class_headers.specs.Members.{members_in}
use Rattle.class_rows.proofs.MemberLemmas.{like_named, numbers_are}
use Rattle.class_rows.proofs.members.members_of.Goals as goal

pub returns : goal.returns
returns c =
    let whole : c.deref.result.now ≡ member_nodes c.args.kind c.args.classes.now =
    c.deref.ensures.value ∙ c.in_ok-nodes.ensures in
    let firsts : (name : List ℕ) → found_under c.in_ok-firsts.firsts name
    ≡ first_declared c.args.kind c.args.classes.now name =
    λ name. rw (c.program.ensures, whole) at (c.in_ok-firsts.ensures name) in
    record {
      nodes = c.in_ok-nodes.ensures;
      firsts = firsts;
      named = λ class first name h. c.in_ok-named.ensures (own_key class first)
          ∙ like_named c.args.kind c.args.classes.now name (found_under c.in_ok-firsts.firsts) firsts first h
          (members_in (declarations_of c.args.classes.now) class);
      numbers = λ id. c.in_ok-numbers.ensures id
          ∙ numbers_are c.args.kind c.args.classes.now id _ _ c.first_number.ensures.value
          (c.deref-2.ensures.value ∙ c.in_ok-nodes.ensures);
    }
