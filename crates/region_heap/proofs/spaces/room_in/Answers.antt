use Rattle.region_heap.proofs.spaces.room_in.Goals as goal

pub returns-in-None : goal.returns-in-None
returns-in-None c =
    absurd (c.in-None.ensures.none c.requires.row.k c.requires.row.is_row.row c.requires.row.is_row.is
    c.requires.row.is_row.of_area)
