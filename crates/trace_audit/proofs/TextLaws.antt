-- The text of a trace, audited line by line, is its events audited one by one.
use Rattle.std.proofs.Common.{◌≡◌, ℕ, ◌+◌, ◌^◌, ◌<◌, ◌≤◌, ◌==◌, Bool, true, false, not, ◌&&◌, List, [], ◌∷◌, ◌++◌, length, Option, None, Some, if◌then◌else◌, refl, sym, ap, ◌∙◌, arith, inl, codes, decimal, append_assoc}
use Rattle.std.specs.Fmt.{signed_decimal}
use Rattle.std.specs.List.{All, list_all, flat_map}
use Rattle.std.proofs.lemmas.Bool.Decides.{nat_tests}
use Rattle.std.proofs.lemmas.List.Elements.{All-head, All-tail}
use Rattle.std.proofs.lemmas.List.Folds.{list_all-append}
use Rattle.scj_base.specs.Lexeme.{is_text_byte}
use Rattle.scj_base.specs.RunFault.{text_of}
use Rattle.scj_base.specs.declared.faults.RunFault.{RunFault}
use Rattle.scj_base.specs.declared.faults.RunFault.TheVariants.{NullPointer, ArrayIndex, NegativeSize, DivideByZero, ClassCast, MemoryFull, StoreFull, ScopedCycle, CeilingViolation, BadPriority, BadPeriod, BadPort, NotInitializing, TooManyHandlers, DepthFull}
use Rattle.scj_rules.specs.Words.{◌>>=◌}
use Rattle.scj_tree.specs.declared.nodes.Node.{Node}
use Rattle.scj_model.specs.declared.events.Event.{Event}
use Rattle.scj_model.specs.declared.events.Event.TheVariants as event
use Rattle.scj_model.specs.Plan.{Plan}
use Rattle.scj_model.specs.TraceText.{file_name, label, text, unit_of, words_of, line_of as line_printed}
use Rattle.trace_audit.specs.declared.answers.Audit.{Audit}
use Rattle.trace_audit.specs.declared.answers.Audit.TheVariants.{Yes, No}
use Rattle.trace_audit.specs.declared.lines.Line.{Line}
use Rattle.trace_audit.specs.Parts.{blank, is_file_byte, is_file_name, is_other, line_feed, parted}
use Rattle.trace_audit.specs.Replay.{Replay, nothing_reported}
use Rattle.trace_audit.specs.Passing.{replayed}
use Rattle.trace_audit.specs.Audits.{audit_from, audit_of, lines_of, read_and_replayed}
use Rattle.trace_audit.specs.Printed.{HasForm, HaveForms, audit_reported, line_reported}
use Rattle.trace_audit.proofs.Decimals.{both_true, no_byte_in_decimal, no_feed_in_value}
use Rattle.trace_audit.proofs.LineLaws.{audit_last, audit_next, audit_stops}
use Rattle.trace_audit.proofs.Partings.{parted_is}
use Rattle.trace_audit.proofs.ArgumentLaws.{name_no_feed}
use Rattle.trace_audit.proofs.PrintedLaws.{event_read}

-- ---- no line feed stands in a line

abbrev NoFeed : List ℕ → Type 0
NoFeed bytes = list_all (is_other line_feed) bytes ≡ true

joined : (xs ys : List ℕ) → NoFeed xs → NoFeed ys → NoFeed (xs ++ ys)
joined xs ys h k =
    list_all-append (is_other line_feed) xs ys
    ∙ (ap (λ (b : Bool). b && list_all (is_other line_feed) ys) h ∙ k)

decimal_no_feed : (n : ℕ) → n < 2 ^ 64 → NoFeed (decimal n)
decimal_no_feed n small = no_byte_in_decimal line_feed n small (inl (omega arith))

number_no_feed : (n : ℕ) → n < 2 ^ 64 → NoFeed (blank ∷ decimal n)
number_no_feed n small = decimal_no_feed n small

handler_small : (n : ℕ) → n ≤ 64 → n < 2 ^ 64
handler_small n h = omega (arith, h)

text_byte : (b : ℕ) → is_text_byte b ≡ true → (b == line_feed) ≡ false
unfolding is_text_byte
text_byte b h = grind (arith, nat_tests, h)

text_no_feed : (bytes : List ℕ) → list_all is_text_byte bytes ≡ true → NoFeed bytes
text_no_feed [] h = refl
text_no_feed (b ∷ bytes) h =
    let both = both_true (is_text_byte b) (list_all is_text_byte bytes) h in
    ap (λ (t : Bool). not t && list_all (is_other line_feed) bytes) (text_byte b both.0) ∙ text_no_feed bytes both.1

file_byte : (b : ℕ) → is_file_byte b ≡ true → (b == line_feed) ≡ false
file_byte b h = grind (arith, nat_tests, h)

file_bytes : (bytes : List ℕ) → list_all is_file_byte bytes ≡ true → NoFeed bytes
file_bytes [] h = refl
file_bytes (b ∷ bytes) h =
    let both = both_true (is_file_byte b) (list_all is_file_byte bytes) h in
    ap (λ (t : Bool). not t && list_all (is_other line_feed) bytes) (file_byte b both.0) ∙ file_bytes bytes both.1

file_no_feed : (bytes : List ℕ) → is_file_name bytes ≡ true → NoFeed bytes
file_no_feed [] h = absurd (cc (h))
file_no_feed (b ∷ bytes) h = file_bytes (b ∷ bytes) h

fault_no_feed : (fault : RunFault) → NoFeed (text_of fault)
unfolding text_of
fault_no_feed NullPointer = refl
fault_no_feed ArrayIndex = refl
fault_no_feed NegativeSize = refl
fault_no_feed DivideByZero = refl
fault_no_feed ClassCast = refl
fault_no_feed MemoryFull = refl
fault_no_feed StoreFull = refl
fault_no_feed ScopedCycle = refl
fault_no_feed CeilingViolation = refl
fault_no_feed BadPriority = refl
fault_no_feed BadPeriod = refl
fault_no_feed BadPort = refl
fault_no_feed NotInitializing = refl
fault_no_feed TooManyHandlers = refl
fault_no_feed DepthFull = refl

two_numbers : (word : List ℕ) (k n : ℕ) → NoFeed word → k < 2 ^ 64 → n < 2 ^ 64 →
    NoFeed ((word ++ blank ∷ decimal k) ++ blank ∷ decimal n)
two_numbers word k n h hk hn =
    joined (word ++ blank ∷ decimal k) (blank ∷ decimal n)
    (joined word (blank ∷ decimal k) h (number_no_feed k hk)) (number_no_feed n hn)

words_no_feed : (nodes : List Node) (files : List (List ℕ)) (e : Event) → HasForm nodes files e →
    NoFeed (words_of nodes files e)
unfolding words_of
words_no_feed nodes files (event.Mission unit class) form =
    joined (codes " mission ") class refl (name_no_feed class form.parts)
words_no_feed nodes files (event.Register unit handler class priority) form =
    let p = form.parts.2.1 in
    joined (((codes " register" ++ blank ∷ decimal handler) ++ codes " ") ++ class) (blank ∷ decimal priority)
    (joined ((codes " register" ++ blank ∷ decimal handler) ++ codes " ") class
    (joined (codes " register" ++ blank ∷ decimal handler) (codes " ")
    (joined (codes " register") (blank ∷ decimal handler) refl
    (number_no_feed handler (handler_small handler form.parts.0.1))) refl) (name_no_feed class form.parts.1))
    (number_no_feed priority (omega (arith, p)))
words_no_feed nodes files (event.Exec unit) form = refl
words_no_feed nodes files (event.Arrive unit handler n) form =
    two_numbers (codes " arrive") handler n refl (handler_small handler form.parts.0.1) form.parts.1
words_no_feed nodes files (event.Lost unit handler) form =
    joined (codes " lost") (blank ∷ decimal handler) refl (number_no_feed handler (handler_small handler form.parts.1))
words_no_feed nodes files (event.Miss unit name) form =
    joined (codes " miss ") name refl (name_no_feed name form.parts)
words_no_feed nodes files (event.Run unit handler n) form =
    two_numbers (codes " run") handler n refl (handler_small handler form.parts.0.1) form.parts.1
words_no_feed nodes files (event.Idle unit) form = refl
words_no_feed nodes files (event.Prio unit handler priority) form =
    let p = form.parts.1.1 in
    two_numbers (codes " prio") handler priority refl (handler_small handler form.parts.0.1) (omega (arith, p))
words_no_feed nodes files (event.Print unit text value) form =
    joined ((codes " print " ++ label nodes text) ++ codes " ") (signed_decimal value)
    (joined (codes " print " ++ label nodes text) (codes " ")
    (joined (codes " print ") (label nodes text) refl (text_no_feed (label nodes text) form.parts.0)) refl)
    (no_feed_in_value value form.parts.1)
words_no_feed nodes files (event.Fault unit fault position) form =
    joined ((((codes " fault " ++ text_of fault) ++ codes " ") ++ file_name files position.file) ++ codes ":")
    (decimal position.line)
    (joined (((codes " fault " ++ text_of fault) ++ codes " ") ++ file_name files position.file) (codes ":")
    (joined ((codes " fault " ++ text_of fault) ++ codes " ") (file_name files position.file)
    (joined (codes " fault " ++ text_of fault) (codes " ")
    (joined (codes " fault ") (text_of fault) refl (fault_no_feed fault)) refl)
    (file_no_feed (file_name files position.file) form.parts.0)) refl)
    (decimal_no_feed position.line form.parts.2)
words_no_feed nodes files (event.End unit handler n) form =
    two_numbers (codes " end") handler n refl (handler_small handler form.parts.0.1) form.parts.1
words_no_feed nodes files (event.Terminate unit) form = refl
words_no_feed nodes files (event.Drop unit handler n) form =
    two_numbers (codes " drop") handler n refl (handler_small handler form.parts.0.1) form.parts.1
words_no_feed nodes files (event.Cleanup unit) form = refl
words_no_feed nodes files (event.Done unit) form = refl
words_no_feed nodes files (event.Halted unit) form = refl
words_no_feed nodes files (event.Stopped unit) form = refl

-- ---- texts

abbrev bare : List Node → List (List ℕ) → Event → List ℕ
bare nodes files e = decimal (unit_of e) ++ words_of nodes files e

bare_no_feed : (nodes : List Node) (files : List (List ℕ)) (e : Event) → HasForm nodes files e →
    NoFeed (bare nodes files e)
bare_no_feed nodes files e form =
    joined (decimal (unit_of e)) (words_of nodes files e) (decimal_no_feed (unit_of e) form.unit)
    (words_no_feed nodes files e form)

text_more : (nodes : List Node) (files : List (List ℕ)) (e : Event) (events : List Event) →
    text nodes files (e ∷ events) ≡ bare nodes files e ++ line_feed ∷ text nodes files events
unfolding text line_printed
text_more nodes files e events =
    append_assoc (bare nodes files e) (line_feed ∷ []) (flat_map (line_printed nodes files) events)

text_none : (nodes : List Node) (files : List (List ℕ)) → text nodes files [] ≡ []
unfolding text
text_none nodes files = refl

first_is : (nodes : List Node) (files : List (List ℕ)) (e : Event) (events : List Event) → HasForm nodes files e →
    parted line_feed (text nodes files (e ∷ events))
    ≡ Some (record { front = bare nodes files e; back = text nodes files events })
first_is nodes files e events form =
    ap (parted line_feed) (text_more nodes files e events)
    ∙ parted_is line_feed (bare nodes files e) (text nodes files events) (bare_no_feed nodes files e form)

no_more : (nodes : List Node) (files : List (List ℕ)) → parted line_feed (text nodes files []) ≡ None
unfolding parted
no_more nodes files = ap (parted line_feed) (text_none nodes files)

reported_more : (plan : Plan) (replay : Replay) (number : ℕ) (e : Event) (events : List Event) (o : Option Replay) →
    replayed plan replay (line_reported e) ≡ o → audit_reported plan replay number (e ∷ events)
    ≡ elim o as (λ _. Audit) [ None ↦ No number | Some after ↦ audit_reported plan after (number + 1) events ]
unfolding audit_reported
reported_more plan replay number e events o f =
    ap (λ (x : Option Replay). elim x as (λ _. Audit) [
      | None ↦ No number
      | Some after ↦ audit_reported plan after (number + 1) events
    ]) f

reported_none : (plan : Plan) (replay : Replay) (number : ℕ) →
    audit_reported plan replay number [] ≡ (if replay.is_over then Yes else No number)
unfolding audit_reported
reported_none plan replay number = refl

read_is : (nodes : List Node) (files : List (List ℕ)) (plan : Plan) (replay : Replay) (e : Event) →
    HasForm nodes files e →
    read_and_replayed plan replay (bare nodes files e) ≡ replayed plan replay (line_reported e)
read_is nodes files plan replay e form =
    ap (λ (o : Option Line). o >>= replayed plan replay) (event_read nodes files e form)

one_event : (nodes : List Node) (files : List (List ℕ)) (plan : Plan) (replay : Replay) (number : ℕ) (e : Event)
    (events : List Event) → HasForm nodes files e → ((after : Replay) →
    audit_from plan after (number + 1) (lines_of (text nodes files events))
    ≡ audit_reported plan after (number + 1) events) → (o : Option Replay) →
    replayed plan replay (line_reported e) ≡ o → audit_from plan replay number (lines_of (text nodes files (e ∷ events)))
    ≡ audit_reported plan replay number (e ∷ events)
one_event nodes files plan replay number e events form more None f =
    audit_stops plan replay number (text nodes files (e ∷ events)) (bare nodes files e) (text nodes files events)
    (first_is nodes files e events form) (read_is nodes files plan replay e form ∙ f)
    ∙ sym (reported_more plan replay number e events None f)
one_event nodes files plan replay number e events form more (Some after) f =
    audit_next plan replay after number (text nodes files (e ∷ events)) (bare nodes files e) (text nodes files events)
    (first_is nodes files e events form) (read_is nodes files plan replay e form ∙ f)
    ∙ (more after ∙ sym (reported_more plan replay number e events (Some after) f))

audit_events : (nodes : List Node) (files : List (List ℕ)) (plan : Plan) (replay : Replay) (number : ℕ)
    (events : List Event) → All (HasForm nodes files) events →
    audit_from plan replay number (lines_of (text nodes files events)) ≡ audit_reported plan replay number events
audit_events nodes files plan replay number [] forms =
    audit_last plan replay number (text nodes files []) (no_more nodes files)
    ∙ (ap (λ (l : List ℕ). if (length l == 0) && replay.is_over then Yes else No number) (text_none nodes files)
    ∙ sym (reported_none plan replay number))
audit_events nodes files plan replay number (e ∷ events) forms =
    one_event nodes files plan replay number e events (All-head (HasForm nodes files) e events forms)
    (λ after. audit_events nodes files plan after (number + 1) events
    (All-tail (HasForm nodes files) e events forms)) (replayed plan replay (line_reported e)) refl

pub audit_of_text : (nodes : List Node) (files : List (List ℕ)) (plan : Plan) (events : List Event) →
    HaveForms nodes files events → audit_of plan (text nodes files events) ≡ audit_reported plan nothing_reported 1 events
unfolding audit_of
audit_of_text nodes files plan events forms = audit_events nodes files plan nothing_reported 1 events forms.is
