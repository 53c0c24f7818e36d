use Rattle.area_laws.proofs.FewOpen.{few_open}
use Rattle.area_laws.proofs.FewerOpen.{fewer_at_start, fewer_outside, fewer_under_way}
use Rattle.area_laws.proofs.few_areas_are_open.Goals as goal

pub returns-clause-all : goal.returns-clause-all
returns-clause-all c =
    λ plan moment s reached. few_open c.args.checked.now.program c.checked_is_accepted.ensures plan moment s reached

pub returns-clause-outside : goal.returns-clause-outside
returns-clause-outside c =
    λ plan moment s reached phase. fewer_outside c.args.checked.now.program c.checked_is_accepted.ensures plan moment s
    reached phase

pub returns-clause-under_way : goal.returns-clause-under_way
returns-clause-under_way c =
    λ plan moment s reached index activity e fewer. fewer_under_way c.args.checked.now.program
    c.checked_is_accepted.ensures plan moment s reached index activity e fewer

pub returns-clause-start : goal.returns-clause-start
returns-clause-start c =
    λ plan moment s reached index r row turn there waits is_row. fewer_at_start c.args.checked.now.program
    c.checked_is_accepted.ensures plan moment s reached index r row turn there waits is_row
