use Rattle.std.proofs.Common.{◌≡◌, Some, None, refl, arith}
use Rattle.class_rows.proofs.nearest.NearestMembers.new.Goals as goal

pub returns : goal.returns
returns c = λ kind forest.
    record {
      reported = record {
        in_order = λ name. rw c.new.ensures.empty
            (record { rising = λ i j d l m. absurd (omega (arith, m)); past = λ k d l. absurd (omega (arith, l)) });
        reported = λ class n h. absurd (let e : None ≡ Some n = rw c.new-2.ensures.empty at h in cc (e));
        abstracts = λ name. rw (c.new.ensures.empty, c.new-3.ensures.empty) refl;
      };
      nearest = λ name. rw c.new.ensures.empty refl;
    }
