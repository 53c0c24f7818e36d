-- The parts of an event that an audit doesn't look at fit: those that the program and its states bound, and the others.
use Rattle.std.proofs.Common.{◌≡◌, ◌≤◌, ◌<◌, ◌+◌, ◌^◌, ℕ, zero, suc, true, All, FitsSigned, List, [], ◌∷◌, length, ℤ, pos, negsuc, sym, subst, arith}
use Rattle.std.specs.Int.{w32}
use Rattle.std.proofs.lemmas.List.Elements.{All-head, All-tail}
use Rattle.source_nodes.specs.Nodes.{IsPosition}
use Rattle.std.specs.List.{list_all}
use Rattle.scj_base.specs.Lexeme.{is_name, is_text_byte}
use Rattle.scj_tree.specs.declared.nodes.Node.{Node}
use Rattle.scj_model.specs.declared.events.Event.{Event}
use Rattle.scj_model.specs.declared.events.Event.TheVariants as event
use Rattle.scj_model.specs.TraceText.{file_name, label}
use Rattle.trace_audit.specs.Parts.{is_file_name}
use Rattle.int_values.specs.Ints.{PrintsInt}
use Rattle.audited_runs.proofs.proper.Steps.{IsProper}
use Rattle.trace_audit.specs.Printed.{Has32Bits, Has64Bits, IsHandlerNumber, IsPriorityNumber}

-- what an event that passes needs besides to have the form of a line
abbrev pub PartsFit : List Node → List (List ℕ) → Event → Type 0
PartsFit nodes files (event.Mission unit class) = is_name class ≡ true
PartsFit nodes files (event.Register unit handler class priority) =
    (handler ≤ 64) × (is_name class ≡ true) × IsPriorityNumber priority
PartsFit nodes files (event.Lost unit handler) = IsHandlerNumber handler
PartsFit nodes files (event.Prio unit handler priority) = IsPriorityNumber priority
PartsFit nodes files (event.Print unit text value) =
    (list_all is_text_byte (label nodes text) ≡ true) × Has32Bits value
PartsFit nodes files (event.Fault unit fault position) =
    (is_file_name (file_name files position.file) ≡ true) × (1 ≤ position.line) × Has64Bits position.line
PartsFit nodes files e = Unit {0}

-- the name of a file that is there
named_file : (names : List (List ℕ)) (n : ℕ) → n < length names → All (λ name. is_file_name name ≡ true) names →
    is_file_name (file_name names n) ≡ true
named_file [] n l h = absurd (omega (arith, l))
named_file (name ∷ names) zero l h = All-head (λ x. is_file_name x ≡ true) name names h
named_file (name ∷ names) (suc n) l h =
    named_file names n (omega (arith, l)) (All-tail (λ x. is_file_name x ≡ true) name names h)

-- a number of 32 bits, as a line has it
bits_fit : (z : ℤ) → FitsSigned w32 z → Has32Bits z
bits_fit (pos n) h = let l = h.sfits in omega (arith, l)
bits_fit (negsuc n) h = let l = h.sfits in omega (arith, l)

-- those that the program and its states bound, and the others, together
pub parts_fit : (nodes : List Node) (names : List (List ℕ)) (files longest : ℕ) → length names ≡ files →
    All (λ name. is_file_name name ≡ true) names → longest + 1 < 2 ^ 64 → (e : Event) →
    IsProper nodes (IsPosition files longest) e → PrintsInt e → PartsFit nodes names e
parts_fit nodes names files longest many named short (event.Mission unit class) h k = h
parts_fit nodes names files longest many named short (event.Register unit handler class priority) h k = h
parts_fit nodes names files longest many named short (event.Lost unit handler) h k = h
parts_fit nodes names files longest many named short (event.Prio unit handler priority) h k = h
parts_fit nodes names files longest many named short (event.Print unit text value) h k = (h, bits_fit value k)
parts_fit nodes names files longest many named short (event.Fault unit fault position) h k = (
  named_file names position.file (subst (λ n. position.file < n) (sym many) h.file) named,
  h.first,
  small position.line h.last,
)
  where
    small : (line : ℕ) → line ≤ longest + 1 → line < 2 ^ 64
    small line l = omega (arith, l, short)
parts_fit nodes names files longest many named short _ h k = tt
