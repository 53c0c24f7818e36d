-- What the map holds under each name once the counter of one has been written.
use Rattle.std.proofs.Common.{◌≡◌, ℕ, ◌≤◌, ◌⊎◌, inl, inr, Option, Some, arith}
use Rattle.std.specs.BTreeMap.{get_by_text}
use Rattle.std.proofs.lemmas.Map.Text.{text_keys}
use Rattle.scj_io.specs.MemShelves.{counter_of}
use Rattle.scj_io.specs.declared.mem_shelves.Stored.{Stored}
use Rattle.scj_io.proofs.mem_shelves.count_fault.Goals as goal

pub returns-in-Some-clause-held : goal.returns-in-Some-clause-held
returns-in-Some-clause-held c = λ other. grind (arith, text_keys)

pub returns-in-Some-clause-spared : goal.returns-in-Some-clause-spared
returns-in-Some-clause-spared c = λ other differs. grind (arith, text_keys)

same_or_after : (old new : Option Stored) (before after : Stored) (others : ℕ) → before.faults ≤ after.faults →
    (new ≡ old) ⊎ ((old ≡ Some before) × (new ≡ Some after)) → counter_of old others ≤ counter_of new others
same_or_after old new before after others rises (inl same) = rw same (omega arith)
same_or_after old new before after others rises (inr changed) = rw (changed.0, changed.1) rises

pub returns-in-Some-clause-rises : goal.returns-in-Some-clause-rises
returns-in-Some-clause-rises c = λ other others.
    let after : Stored = record { bytes = c.in-Some.file.now.bytes; faults = c.raised-file.result } in
    let old = get_by_text c.args.stored.now other in
    let new = get_by_text (c.get_mut.follows.lender after) other in
    let split : (new ≡ old) ⊎ ((old ≡ Some c.in-Some.file.now) × (new ≡ Some after)) = grind (arith, text_keys) in
    let higher : c.in-Some.file.now.faults ≤ c.raised-file.result = omega arith in
    same_or_after old new c.in-Some.file.now after others higher split
