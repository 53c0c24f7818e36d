-- The lines of a trace, read: what each line tells, as far as an audit asks. A line is read as it is printed
-- (`TraceText` of `scj_model`), without its line feed (this project's profile).
use Rattle.std.specs.Prelude.{ℕ, nat_le, Bool, ◌&&◌, List, [], ◌∷◌, Option, Some, None, if◌then◌else◌, codes}
use Rattle.std.specs.List.{list_all}
use Rattle.std.specs.Str.{bytes_eq}
use Rattle.scj_rules.specs.Words.{◌>>=◌, holds}
use Rattle.scj_base.specs.Lexeme.{is_name, is_text_byte}
use Rattle.trace_audit.specs.declared.lines.Entry.{Entry}
use Rattle.trace_audit.specs.declared.lines.Entry.TheVariants.{Mission, Register, Exec, Arrive, Lost, Miss, Run, Idle, Prio, Print, Fault, End, Terminate, Drop, Cleanup, Done, Halted, Stopped}
use Rattle.trace_audit.specs.declared.lines.Line.{Line}
use Rattle.trace_audit.specs.Parts.{blank, colon, before, from, parted, parted_at_last, number_of, handler_of, priority_of, is_value, is_file_name, is_fault_name}

-- ---- what stands behind the word

abbrev pub where_true : Bool → Entry → Option Entry
where_true test entry = if test then Some entry else None

-- CLASS
abbrev pub mission_of : List ℕ → Option Entry
mission_of bytes = where_true (is_name bytes) Mission

-- CLASS P, of a handler
abbrev pub class_of : ℕ → List ℕ → Option Entry
class_of handler bytes =
    parted blank bytes >>= (λ parts. priority_of parts.back >>= (λ priority.
    where_true (is_name parts.front) (Register handler priority)))

-- K CLASS P
abbrev pub register_of : List ℕ → Option Entry
register_of bytes =
    parted blank bytes >>= (λ parts. handler_of parts.front >>= (λ handler. class_of handler parts.back))

-- K N, of a release
abbrev pub release_of : List ℕ → Option (ℕ × ℕ)
release_of bytes =
    parted blank bytes >>= (λ parts. handler_of parts.front >>= (λ handler.
    number_of parts.back >>= (λ number. Some (handler, number))))

-- K
abbrev pub lost_of : List ℕ → Option Entry
lost_of bytes = handler_of bytes >>= (λ handler. Some Lost)

-- NAME
abbrev pub miss_of : List ℕ → Option Entry
miss_of bytes = where_true (is_name bytes) (Miss bytes)

-- K P
abbrev pub prio_of : List ℕ → Option Entry
prio_of bytes =
    parted blank bytes >>= (λ parts. handler_of parts.front >>= (λ handler.
    priority_of parts.back >>= (λ priority. Some (Prio handler priority))))

-- LABEL V: a text may hold blanks, and a value holds none
abbrev pub print_of : List ℕ → Option Entry
print_of bytes =
    parted_at_last blank bytes >>= (λ parts.
    where_true (list_all is_text_byte parts.front && is_value parts.back) Print)

-- FILE:LINE: the name of a file may hold colons
abbrev pub is_position : List ℕ → Bool
is_position bytes =
    holds (parted_at_last colon bytes) (λ parts.
    is_file_name parts.front && holds (number_of parts.back) (λ n. nat_le 1 n))

-- NAME FILE:LINE
abbrev pub fault_of : List ℕ → Option Entry
fault_of bytes =
    parted blank bytes >>= (λ parts. where_true (is_fault_name parts.front && is_position parts.back) Fault)

-- ---- the word, alone or with arguments

unfoldable pub short_entry_of : List ℕ → Option Entry
short_entry_of word =
    if bytes_eq word (codes "exec") then Some Exec
    else if bytes_eq word (codes "idle") then Some Idle
    else if bytes_eq word (codes "terminate") then Some Terminate
    else if bytes_eq word (codes "cleanup") then Some Cleanup
    else if bytes_eq word (codes "done") then Some Done
    else if bytes_eq word (codes "halted") then Some Halted
    else if bytes_eq word (codes "stopped") then Some Stopped
    else None

-- a word that names a release
unfoldable pub release_entry_of : List ℕ → List ℕ → Option Entry
release_entry_of word arguments =
    release_of arguments >>= (λ release.
    if bytes_eq word (codes "arrive") then Some (Arrive release.0 release.1)
    else if bytes_eq word (codes "run") then Some (Run release.0 release.1)
    else if bytes_eq word (codes "end") then Some (End release.0 release.1)
    else if bytes_eq word (codes "drop") then Some (Drop release.0 release.1)
    else None)

unfoldable pub long_entry_of : List ℕ → List ℕ → Option Entry
long_entry_of word arguments =
    if bytes_eq word (codes "mission") then mission_of arguments
    else if bytes_eq word (codes "register") then register_of arguments
    else if bytes_eq word (codes "lost") then lost_of arguments
    else if bytes_eq word (codes "miss") then miss_of arguments
    else if bytes_eq word (codes "prio") then prio_of arguments
    else if bytes_eq word (codes "print") then print_of arguments
    else if bytes_eq word (codes "fault") then fault_of arguments
    else release_entry_of word arguments

-- of a word and what stands behind it: nothing, or a blank and arguments
abbrev pub entry_of : List ℕ → List ℕ → Option Entry
entry_of word [] = short_entry_of word
entry_of word (b ∷ arguments) = long_entry_of word arguments

-- the line that the bytes are, if they are one
unfoldable pub line_of : List ℕ → Option Line
line_of bytes =
    parted blank bytes >>= (λ parts. number_of parts.front >>= (λ unit.
    entry_of (before blank parts.back) (from blank parts.back) >>= (λ entry.
    Some (record { unit = unit; entry = entry }))))
