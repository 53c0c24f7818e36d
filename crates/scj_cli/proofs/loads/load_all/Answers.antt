use Rattle.std.proofs.Common.{refl, subst, map, string_bytes}
use Rattle.std.proofs.lemmas.Result.{err_from_is_err_and}
use Rattle.std.proofs.lemmas.List.{take_all}
use Rattle.scj_io.specs.Loads.{shelf_run}
use Rattle.scj_check.specs.Texts.{texts_of}
use Rattle.scj_cli.specs.Endings.{IsReached, MayStand}
use Rattle.scj_cli.specs.Endings.MayStand.{none}
use Rattle.scj_cli.specs.Jobs.{one_limit}
use Rattle.scj_cli.proofs.LoadLaws.{goes_by, goes_then, reached_at, refused_later, stands_more, one_more_source, held_first}
use Rattle.scj_cli.proofs.loads.load_all.Goals as goal

pub loop-name-init : goal.loop-name-init
loop-name-init g c = (goes_by _ _ _, λ f n m. rw c.new-sources.ensures none, rw c.new-sources.ensures refl)

pub returns-in_err-bytes-clause-refusal : goal.returns-in_err-bytes-clause-refusal
returns-in_err-bytes-clause-refusal g c =
    let p = err_from_is_err_and c.from_residual.result c.from_residual.ensures.1 in
    let held = g.H.Shelf.held c.args.shelf.now in
    let faults = g.H.Shelf.faults c.args.shelf.now in
    let at =
    reached_at (shelf_run held faults faults faults) string_bytes c.args.names.now c.loop-name.name-index
    c.name-item.result
    (texts_of c.loop-name.sources) c.loop-name-test.true (c.loop-name.invariant.1 faults faults faults) in
    let reached : IsReached held one_limit c.deref.result.now (map string_bytes c.args.names.now) =
    rw (c.deref.ensures, c.name-item.is) at in
    rw (p.1, p.2) (refused_later _ _ _ _ _ _ _ _ _ _ _ c.loop-name.invariant.0 reached c.in_err-bytes.ensures.refusal)

pub loop-name-preserved : goal.loop-name-preserved
loop-name-preserved g c =
    let bytes = c.in_ok-bytes.bytes.items in
    let first =
    held_first (g.H.Shelf.held c.args.shelf.now) (g.H.Shelf.held c.loop-name.shelf) _ _ _ _ c.deref.result.now bytes
    c.loop-name.invariant.0 c.in_ok-bytes.ensures.ok.content in (
      goes_then _ _ _ _ _ _ _ _ _ c.loop-name.invariant.0 c.load.ensures.goes,
      λ f n m. stands_more (shelf_run (g.H.Shelf.held c.args.shelf.now) f n m) string_bytes c.args.names.now
          c.loop-name.name-index c.name-item.result c.loop-name.sources c.add.new.self _ bytes c.loop-name-test.true
          (c.loop-name.invariant.1 f n m) c.in_ok-add.ensures.ok (rw (c.deref.ensures, c.name-item.is) at first)
          c.in_ok-bytes.ensures.ok.within,
      one_more_source _ _ _ _ c.in_ok-add.ensures.ok c.loop-name.invariant.2,
    )

pub returns-clause-ok : goal.returns-clause-ok
returns-clause-ok g c =
    let faults = g.H.Shelf.faults c.args.shelf.now in
    let faults_now = g.H.Shelf.faults c.loop-name.shelf in
    let most = g.H.Shelf.most c.loop-name.shelf in
    subst (λ names. MayStand (shelf_run (g.H.Shelf.held c.args.shelf.now) faults faults_now most)
    one_limit (map string_bytes names) (texts_of c.loop-name.sources))
    (take_all c.loop-name.name-index c.args.names.now c.loop-name-test.false)
    (c.loop-name.invariant.1 faults faults_now most)
