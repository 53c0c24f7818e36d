use Rattle.memory_bounds.proofs.Programs.{one_need_of, one_room_of}
use Rattle.memory_bounds.proofs.laws.one_need.Goals as goal

pub returns : goal.returns
returns c =
    record {
      need = λ body m n x y. one_need_of c.args.checked.now.program c.checked_is_accepted.ensures body m n x y;
      room = λ body m n x y. one_room_of c.args.checked.now.program c.checked_is_accepted.ensures body m n x y;
    }
