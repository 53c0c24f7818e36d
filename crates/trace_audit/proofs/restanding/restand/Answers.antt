use Rattle.std.proofs.Common.{◌≡◌, ◌<◌, Some, None, length, rules, arith}
use Rattle.std.specs.BinaryHeap.{heap_items}
use Rattle.std.specs.Prelude.{slice_get}
use Rattle.std.proofs.lemmas.Option.{slice_get_within}
use Rattle.trace_audit.specs.Index.{index_kept}
use Rattle.trace_audit.proofs.Places.{restanding_at, restanding_nowhere, restanding_past}
use Rattle.trace_audit.proofs.TableLaws.{indexed_restood}
use Rattle.trace_audit.proofs.restanding.restand.Goals as goal

pub returns-in_default-clause-seen : goal.returns-in_default-clause-seen
returns-in_default-clause-seen c =
    let none : index_kept c.args.handlers.now c.args.handler c.args.number ≡ None = cc in
    restanding_nowhere c.args.handlers.now c.args.releases.now.items c.requires.kept.placed c.args.handler c.args.number
    (λ s. c.args.standing) none

pub returns-in_default-release_at-clause-seen : goal.returns-in_default-release_at-clause-seen
returns-in_default-release_at-clause-seen c =
    let at : index_kept c.args.handlers.now c.args.handler c.args.number ≡ Some c.in-Some.index = cc in
    let none : slice_get c.args.releases.now.items c.in-Some.index ≡ None = cc in
    restanding_past c.args.handlers.now c.args.releases.now.items c.requires.kept.placed c.args.handler c.args.number
    (λ s. c.args.standing) c.in-Some.index at none

pub add_key-requires-clause-place : goal.add_key-requires-clause-place
add_key-requires-clause-place c =
    let there : slice_get c.args.releases.now.items c.in-Some.index ≡ Some c.in-Some-release_at.release = cc in
    let within : c.in-Some.index < length c.args.releases.now.items =
    slice_get_within c.args.releases.now.items c.in-Some.index c.in-Some-release_at.release there in
    let few = c.requires.kept.keyed.few in
    omega (arith, within, few)

pub index_mut-requires : goal.index_mut-requires
index_mut-requires c =
    let there : slice_get c.args.releases.now.items c.in-Some.index ≡ Some c.in-Some-release_at.release = cc in
    let within : c.in-Some.index < length c.args.releases.now.items =
    slice_get_within c.args.releases.now.items c.in-Some.index c.in-Some-release_at.release there in
    search rules

pub returns-clause-seen : goal.returns-clause-seen
returns-clause-seen c =
    let at : index_kept c.args.handlers.now c.args.handler c.args.number ≡ Some c.in-Some.index = cc in
    let there : slice_get c.args.releases.now.items c.in-Some.index ≡ Some c.in-Some-release_at.release = cc in
    restanding_at c.args.handlers.now c.args.releases.now.items c.requires.kept.placed c.args.handler c.args.number
    (λ s. c.args.standing) c.in-Some.index c.in-Some-release_at.release at there

pub returns-clause-kept : goal.returns-clause-kept
returns-clause-kept c =
    let there : slice_get c.args.releases.now.items c.in-Some.index ≡ Some c.in-Some-release_at.release = cc in
    indexed_restood c.args.handlers.now c.args.releases.now.items (heap_items c.args.keys.now)
    (heap_items c.add_key.new.keys) c.in-Some.index c.in-Some-release_at.release c.args.standing c.requires.kept there
    c.in_ok-add_key.ensures.heap c.in_ok-add_key.ensures.keys
