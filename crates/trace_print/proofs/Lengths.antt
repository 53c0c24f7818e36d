-- How long the parts of a line are.
use Rattle.std.proofs.Common.{◌≡◌, ℕ, zero, suc, ◌+◌, ◌<◌, ◌≤◌, max, List, [], length, Option, None, Some, refl, ap, arith, add-one, ⊎_elim, inl, inr}
use Rattle.std.proofs.Math.Nat.{eq-or-lt_of_le}
use Rattle.std.proofs.lemmas.Option.{slice_get_past, slice_get_cases}
use Rattle.scj_base.specs.declared.faults.RunFault.{RunFault}
use Rattle.scj_base.specs.declared.faults.RunFault.TheVariants.{NullPointer, ArrayIndex, NegativeSize, DivideByZero, ClassCast, MemoryFull, StoreFull, ScopedCycle, CeilingViolation, BadPriority, BadPeriod, BadPort, NotInitializing, TooManyHandlers, DepthFull}
use Rattle.scj_base.specs.RunFault.{text_of}
use Rattle.scj_tree.specs.declared.nodes.Node.{Node}
use Rattle.scj_rules.specs.Words.{◌>>=◌}
use Rattle.scj_model.specs.TraceText.{bytes_of_text, label, file_name}
use Rattle.trace_print.specs.Room.{greatest, longest_text, longest_name, room_for}

-- a fault's name has at most 16 bytes
pub text_of_is_short : (fault : RunFault) → length (text_of fault) ≤ 16
unfolding text_of
text_of_is_short NullPointer = omega arith
text_of_is_short ArrayIndex = omega arith
text_of_is_short NegativeSize = omega arith
text_of_is_short DivideByZero = omega arith
text_of_is_short ClassCast = omega arith
text_of_is_short MemoryFull = omega arith
text_of_is_short StoreFull = omega arith
text_of_is_short ScopedCycle = omega arith
text_of_is_short CeilingViolation = omega arith
text_of_is_short BadPriority = omega arith
text_of_is_short BadPeriod = omega arith
text_of_is_short BadPort = omega arith
text_of_is_short NotInitializing = omega arith
text_of_is_short TooManyHandlers = omega arith
text_of_is_short DepthFull = omega arith

-- each of the first so many numbers is at most the greatest
pub at_most_greatest : (numbers : ℕ → ℕ) (n i : ℕ) → i < n → numbers i ≤ greatest numbers n
unfolding greatest
at_most_greatest numbers zero i h = absurd (omega arith)
at_most_greatest numbers (suc n) i h =
    let within : i ≤ n = omega arith in
    ⊎_elim (λ (same : i ≡ n). let e : numbers i ≡ numbers n = ap numbers same in omega arith)
    (λ (below : i < n). let earlier : numbers i ≤ greatest numbers n = at_most_greatest numbers n i below in
    omega arith)
    (eq-or-lt_of_le within)

pub greatest_next : (numbers : ℕ → ℕ) (n : ℕ) → greatest numbers (n + 1) ≡ max (numbers n) (greatest numbers n)
unfolding greatest
greatest_next numbers n = rw add-one refl

pub greatest_none : (numbers : ℕ → ℕ) → greatest numbers 0 ≡ 0
unfolding greatest
greatest_none numbers = refl

-- no text stands at a node that isn't there
label_past : (nodes : List Node) (id : ℕ) → length nodes ≤ id → label nodes id ≡ []
label_past nodes id h =
    ap (λ (found : Option Node). elim (found >>= bytes_of_text) as (λ _. List ℕ) [ None ↦ [] | Some bytes ↦ bytes ])
    (slice_get_past nodes id h)

pub label_fits : (nodes : List Node) (id : ℕ) → length (label nodes id) ≤ longest_text nodes
label_fits nodes id = elim ((slice_get_cases nodes id).1) [
  | inl there ↦ at_most_greatest (λ k. length (label nodes k)) (length nodes) id there.1
  | inr past ↦ omega (arith, ap length (label_past nodes id past.0))
]

pub name_fits : (files : List (List ℕ)) (file : ℕ) → file < length files →
    length (file_name files file) ≤ longest_name files
name_fits files file h = at_most_greatest (λ k. length (file_name files k)) (length files) file h

-- a text, and the name of a file, fit into a line besides 256 bytes
pub room_of_label : (nodes : List Node) (files : List (List ℕ)) (id : ℕ) →
    256 + length (label nodes id) ≤ room_for nodes files
unfolding room_for
room_of_label nodes files id = omega (arith, label_fits nodes id)

pub room_of_name : (nodes : List Node) (files : List (List ℕ)) (file : ℕ) → file < length files →
    256 + length (file_name files file) ≤ room_for nodes files
unfolding room_for
room_of_name nodes files file h = omega (arith, name_fits files file h)

pub room_of_words : (nodes : List Node) (files : List (List ℕ)) → 256 ≤ room_for nodes files
unfolding room_for
room_of_words nodes files = omega arith
