use Rattle.std.specs.Prelude.{List, slice_get, true}
use Rattle.std.proofs.Common.{◌≡◌, ◌∙◌, ap, subst, sym}
use Rattle.region_heap.specs.declared.open_areas.Area.{Area}
use Rattle.plain_machine.specs.Machines.{MachineSeen, areas_in}
use Rattle.plain_machine.specs.UnderWay.{run_at}
use Rattle.plain_machine.proofs.AreaLaws.{areas_seen}
use Rattle.plain_machine.proofs.machines.Machine.area.Goals as goal

pub returns : goal.returns
returns c =
    subst (λ (m : MachineSeen). m.is_live ≡ true →
    c.area.result ≡ slice_get (areas_in (run_at m.program m.plan m.spent).state) c.args.i) c.self.view_is
    (λ live. c.area.ensures
    ∙ ap (λ (xs : List Area). slice_get xs c.args.i)
    (sym (areas_seen c.self.inside.setting.code.now c.self.inside.setting.plan.now c.self.inside.at
    (c.self.invariant.stands live))))
