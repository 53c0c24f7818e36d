use Rattle.accepted_laws.proofs.MemberContexts.{member_is}
use Rattle.accepted_laws.proofs.ClassSorts.{well_sorted}
use Rattle.accepted_laws.proofs.nodes.members_hold_their_nodes.Goals as goal

pub returns : goal.returns
returns c = λ forest whole texts id member e. member_is forest whole (well_sorted forest texts) id member e
