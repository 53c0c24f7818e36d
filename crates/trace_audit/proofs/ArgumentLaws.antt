-- What stands behind the word of a printed line, read.
use Rattle.std.proofs.Common.{◌≡◌, ℕ, ◌^◌, ◌<◌, ◌≤◌, ◌==◌, Bool, true, false, not, ◌&&◌, List, [], ◌∷◌, ◌++◌, length, Option, Some, refl, ap, ◌∙◌, arith, inl, inr, ◌⊎◌, ℤ, decimal}
use Rattle.std.specs.Fmt.{signed_decimal}
use Rattle.std.specs.List.{list_all}
use Rattle.std.proofs.lemmas.Bool.Decides.{nat_tests}
use Rattle.std.specs.Prelude.{nat_le}
use Rattle.scj_base.specs.Bytes.{is_one_of}
use Rattle.scj_base.specs.Lexeme.{is_letter, is_digit, is_name, is_name_byte, is_text_byte, longest_name}
use Rattle.scj_base.specs.RunFault.{text_of}
use Rattle.scj_base.specs.Vocabulary.{words}
use Rattle.scj_base.specs.declared.faults.RunFault.{RunFault}
use Rattle.scj_base.specs.declared.faults.RunFault.TheVariants.{NullPointer, ArrayIndex, NegativeSize, DivideByZero, ClassCast, MemoryFull, StoreFull, ScopedCycle, CeilingViolation, BadPriority, BadPeriod, BadPort, NotInitializing, TooManyHandlers, DepthFull}
use Rattle.scj_rules.specs.Words.{◌>>=◌, holds}
use Rattle.trace_audit.specs.declared.lines.Entry.{Entry}
use Rattle.trace_audit.specs.declared.lines.Entry.TheVariants.{Register, Prio, Print, Fault}
use Rattle.trace_audit.specs.declared.lines.Line.{Line}
use Rattle.trace_audit.specs.Parts.{Parts, before, blank, colon, from, handler_of, is_fault_name, is_file_name, is_other, is_value, line_feed, number_of, priority_of}
use Rattle.trace_audit.specs.Lines.{class_of, entry_of, fault_of, is_position, line_of, long_entry_of, print_of, prio_of, register_of, release_of, short_entry_of, where_true}
use Rattle.trace_audit.specs.Printed.{Has32Bits, IsHandlerNumber, IsPriorityNumber}
use Rattle.trace_audit.proofs.Decimals.{both_true, no_byte_in_decimal, no_byte_in_value, number_read, number_within_read, value_read}
use Rattle.trace_audit.proofs.Partings.{before_all, before_is, from_all, from_is, parted_at_last_is, parted_is}

pub blank_below : (blank < 48) ⊎ (57 < blank)
blank_below = inl (omega arith)

-- a unit, a blank, and words that aren't read yet
abbrev pub read_words : ℕ → List ℕ → Option Line
read_words unit rest =
    entry_of (before blank rest) (from blank rest) >>= (λ entry. Some (record { unit = unit; entry = entry }))

pub line_with : (unit : ℕ) (rest : List ℕ) → unit < 2 ^ 64 →
    line_of (decimal unit ++ blank ∷ rest) ≡ read_words unit rest
unfolding line_of
line_with unit rest small =
    ap (λ (o : Option Parts). o >>= (λ parts. number_of parts.front >>= (λ u. read_words u parts.back)))
    (parted_is blank (decimal unit) rest (no_byte_in_decimal blank unit small blank_below))
    ∙ ap (λ (o : Option ℕ). o >>= (λ u. read_words u rest)) (number_read unit small)

-- a word with arguments, and one that stands alone
pub words_with : (unit : ℕ) (word arguments : List ℕ) (entry : Entry) → list_all (is_other blank) word ≡ true →
    long_entry_of word arguments ≡ Some entry →
    read_words unit (word ++ blank ∷ arguments) ≡ Some (record { unit = unit; entry = entry })
words_with unit word arguments entry h e =
    ap (λ (l : List ℕ). entry_of l (from blank (word ++ blank ∷ arguments))
    >>= (λ entry. Some (record { unit = unit; entry = entry }))) (before_is blank word arguments h)
    ∙ (ap (λ (l : List ℕ). entry_of word l >>= (λ entry. Some (record { unit = unit; entry = entry })))
    (from_is blank word arguments h)
    ∙ ap (λ (o : Option Entry). o >>= (λ entry. Some (record { unit = unit; entry = entry }))) e)

pub words_alone : (unit : ℕ) (word : List ℕ) (entry : Entry) → list_all (is_other blank) word ≡ true →
    short_entry_of word ≡ Some entry → read_words unit word ≡ Some (record { unit = unit; entry = entry })
words_alone unit word entry h e =
    ap (λ (l : List ℕ). entry_of l (from blank word)
    >>= (λ entry. Some (record { unit = unit; entry = entry }))) (before_all blank word h)
    ∙ (ap (λ (l : List ℕ). entry_of word l >>= (λ entry. Some (record { unit = unit; entry = entry })))
    (from_all blank word h)
    ∙ ap (λ (o : Option Entry). o >>= (λ entry. Some (record { unit = unit; entry = entry }))) e)

-- ---- arguments

pub small_handler : (n : ℕ) → n ≤ 64 → n < 2 ^ 64
small_handler n h = omega (arith, h)

pub handler_read : (n : ℕ) → IsHandlerNumber n → handler_of (decimal n) ≡ Some n
handler_read n h = number_within_read 1 64 n (small_handler n h.1) h.0 h.1

pub priority_read : (n : ℕ) → IsPriorityNumber n → priority_of (decimal n) ≡ Some n
priority_read n h = let k = h.1 in number_within_read 1 28 n (omega (arith, k)) h.0 h.1

pub no_blank : (n : ℕ) → n ≤ 64 → list_all (is_other blank) (decimal n) ≡ true
no_blank n h = no_byte_in_decimal blank n (small_handler n h) blank_below

pub release_read : (handler n : ℕ) → IsHandlerNumber handler → n < 2 ^ 64 →
    release_of (decimal handler ++ blank ∷ decimal n) ≡ Some (handler, n)
release_read handler n h small =
    ap (λ (o : Option Parts). o >>= (λ parts. handler_of parts.front >>= (λ handler.
    number_of parts.back >>= (λ number. Some (handler, number)))))
    (parted_is blank (decimal handler) (decimal n) (no_blank handler h.1))
    ∙ (ap (λ (o : Option ℕ). o >>= (λ handler. number_of (decimal n) >>= (λ number. Some (handler, number))))
    (handler_read handler h)
    ∙ ap (λ (o : Option ℕ). o >>= (λ number. Some (handler, number))) (number_read n small))

-- ---- names, faults and places

pub byte_differs : (b other : ℕ) → is_name_byte b ≡ true → other < 36 → (b == other) ≡ false
unfolding is_name_byte is_letter is_digit
byte_differs b other h l = grind (arith, nat_tests, h, l)

pub names_differ : (other : ℕ) → other < 36 → (bytes : List ℕ) → list_all is_name_byte bytes ≡ true →
    list_all (is_other other) bytes ≡ true
names_differ other l [] h = refl
names_differ other l (b ∷ bytes) h =
    let both = both_true (is_name_byte b) (list_all is_name_byte bytes) h in
    ap (λ (t : Bool). not t && list_all (is_other other) bytes) (byte_differs b other both.0 l)
    ∙ names_differ other l bytes both.1

pub first_differs : (b other : ℕ) → is_letter b ≡ true → other < 36 → (b == other) ≡ false
unfolding is_letter
first_differs b other h l = grind (arith, nat_tests, h, l)

pub name_differs : (other : ℕ) → other < 36 → (name : List ℕ) → is_name name ≡ true →
    list_all (is_other other) name ≡ true
unfolding is_name
name_differs other l [] h = absurd (cc (h))
name_differs other l (b ∷ bytes) h =
    let first = both_true (is_letter b) (list_all is_name_byte bytes && (nat_le (length (b ∷ bytes)) longest_name
    && not (is_one_of (b ∷ bytes) words))) h in
    let rest = both_true (list_all is_name_byte bytes) (nat_le (length (b ∷ bytes)) longest_name
    && not (is_one_of (b ∷ bytes) words)) first.1 in
    ap (λ (t : Bool). not t && list_all (is_other other) bytes) (first_differs b other first.0 l)
    ∙ names_differ other l bytes rest.0

pub name_no_blank : (name : List ℕ) → is_name name ≡ true → list_all (is_other blank) name ≡ true
name_no_blank name h = name_differs blank (omega arith) name h

pub name_no_feed : (name : List ℕ) → is_name name ≡ true → list_all (is_other line_feed) name ≡ true
name_no_feed name h = name_differs line_feed (omega arith) name h

pub fault_no_blank : (fault : RunFault) → list_all (is_other blank) (text_of fault) ≡ true
unfolding text_of
fault_no_blank NullPointer = refl
fault_no_blank ArrayIndex = refl
fault_no_blank NegativeSize = refl
fault_no_blank DivideByZero = refl
fault_no_blank ClassCast = refl
fault_no_blank MemoryFull = refl
fault_no_blank StoreFull = refl
fault_no_blank ScopedCycle = refl
fault_no_blank CeilingViolation = refl
fault_no_blank BadPriority = refl
fault_no_blank BadPeriod = refl
fault_no_blank BadPort = refl
fault_no_blank NotInitializing = refl
fault_no_blank TooManyHandlers = refl
fault_no_blank DepthFull = refl

pub fault_named : (fault : RunFault) → is_fault_name (text_of fault) ≡ true
unfolding text_of
fault_named NullPointer = refl
fault_named ArrayIndex = refl
fault_named NegativeSize = refl
fault_named DivideByZero = refl
fault_named ClassCast = refl
fault_named MemoryFull = refl
fault_named StoreFull = refl
fault_named ScopedCycle = refl
fault_named CeilingViolation = refl
fault_named BadPriority = refl
fault_named BadPeriod = refl
fault_named BadPort = refl
fault_named NotInitializing = refl
fault_named TooManyHandlers = refl
fault_named DepthFull = refl

pub place_read : (file : List ℕ) (line : ℕ) → is_file_name file ≡ true → 1 ≤ line → line < 2 ^ 64 →
    is_position (file ++ colon ∷ decimal line) ≡ true
place_read file line named above small =
    let no_colon : list_all (is_other colon) (decimal line) ≡ true =
    no_byte_in_decimal colon line small (inr (omega arith)) in
    ap (λ (o : Option Parts). holds o (λ parts. is_file_name parts.front && holds (number_of parts.back)
    (λ n. nat_le 1 n))) (parted_at_last_is colon file (decimal line) no_colon)
    ∙ (ap (λ (b : Bool). b && holds (number_of (decimal line)) (λ n. nat_le 1 n)) named
    ∙ (ap (λ (o : Option ℕ). holds o (λ n. nat_le 1 n)) (number_read line small)
    ∙ (let t : nat_le 1 line ≡ true = grind (arith, nat_tests, above) in t)))

pub fault_read : (fault : RunFault) (file : List ℕ) (line : ℕ) → is_file_name file ≡ true → 1 ≤ line → line < 2 ^ 64 →
    fault_of (text_of fault ++ blank ∷ (file ++ colon ∷ decimal line)) ≡ Some Fault
fault_read fault file line named above small =
    ap (λ (o : Option Parts). o >>= (λ parts. where_true (is_fault_name parts.front && is_position parts.back) Fault))
    (parted_is blank (text_of fault) (file ++ colon ∷ decimal line) (fault_no_blank fault))
    ∙ (ap (λ (b : Bool). where_true (b && is_position (file ++ colon ∷ decimal line)) Fault) (fault_named fault)
    ∙ ap (λ (b : Bool). where_true b Fault) (place_read file line named above small))

pub print_read : (text : List ℕ) (z : ℤ) → list_all is_text_byte text ≡ true → Has32Bits z →
    print_of (text ++ blank ∷ signed_decimal z) ≡ Some Print
print_read text z all bits =
    ap (λ (o : Option Parts). o >>= (λ parts. where_true (list_all is_text_byte parts.front && is_value parts.back) Print))
    (parted_at_last_is blank text (signed_decimal z) (no_byte_in_value z bits))
    ∙ (ap (λ (b : Bool). where_true (b && is_value (signed_decimal z)) Print) all
    ∙ ap (λ (b : Bool). where_true b Print) (value_read z bits))

pub register_read : (handler priority : ℕ) (class : List ℕ) → IsHandlerNumber handler → is_name class ≡ true →
    IsPriorityNumber priority →
    register_of (decimal handler ++ blank ∷ (class ++ blank ∷ decimal priority)) ≡ Some (Register handler priority)
register_read handler priority class h named p =
    ap (λ (o : Option Parts). o >>= (λ parts. handler_of parts.front >>= (λ k. class_of k parts.back)))
    (parted_is blank (decimal handler) (class ++ blank ∷ decimal priority) (no_blank handler h.1))
    ∙ (ap (λ (o : Option ℕ). o >>= (λ k. class_of k (class ++ blank ∷ decimal priority))) (handler_read handler h)
    ∙ (ap (λ (o : Option Parts). o >>= (λ parts. priority_of parts.back >>= (λ q.
    where_true (is_name parts.front) (Register handler q))))
    (parted_is blank class (decimal priority) (name_no_blank class named))
    ∙ (ap (λ (o : Option ℕ). o >>= (λ q. where_true (is_name class) (Register handler q))) (priority_read priority p)
    ∙ ap (λ (b : Bool). where_true b (Register handler priority)) named)))

pub prio_read : (handler priority : ℕ) → IsHandlerNumber handler → IsPriorityNumber priority →
    prio_of (decimal handler ++ blank ∷ decimal priority) ≡ Some (Prio handler priority)
prio_read handler priority h p =
    ap (λ (o : Option Parts). o >>= (λ parts. handler_of parts.front >>= (λ k.
    priority_of parts.back >>= (λ q. Some (Prio k q)))))
    (parted_is blank (decimal handler) (decimal priority) (no_blank handler h.1))
    ∙ (ap (λ (o : Option ℕ). o >>= (λ k. priority_of (decimal priority) >>= (λ q. Some (Prio k q))))
    (handler_read handler h)
    ∙ ap (λ (o : Option ℕ). o >>= (λ q. Some (Prio handler q))) (priority_read priority p))
