-- The line of an event, read: it tells the event.
use Rattle.std.proofs.Common.{◌≡◌, ℕ, ◌^◌, ◌<◌, Bool, true, List, [], ◌∷◌, ◌++◌, Option, Some, refl, ap, ◌∙◌, codes, decimal, append_assoc}
use Rattle.std.specs.Fmt.{signed_decimal}
use Rattle.std.specs.List.{list_all}
use Rattle.scj_base.specs.RunFault.{text_of}
use Rattle.scj_base.specs.Vocabulary.{words}
use Rattle.scj_rules.specs.Words.{◌>>=◌}
use Rattle.scj_tree.specs.declared.nodes.Node.{Node}
use Rattle.scj_model.specs.declared.events.Event.{Event}
use Rattle.scj_model.specs.declared.events.Event.TheVariants as event
use Rattle.scj_model.specs.TraceText.{file_name, label, unit_of, words_of}
use Rattle.trace_audit.specs.declared.lines.Entry.{Entry}
use Rattle.trace_audit.specs.declared.lines.Entry.TheVariants.{Mission, Register, Exec, Arrive, Lost, Miss, Run, Idle, Prio, Print, Fault, End, Terminate, Drop, Cleanup, Done, Halted, Stopped}
use Rattle.trace_audit.specs.declared.lines.Line.{Line}
use Rattle.trace_audit.specs.Parts.{blank, colon, is_other}
use Rattle.trace_audit.specs.Lines.{fault_of, line_of, long_entry_of, lost_of, miss_of, mission_of, print_of, prio_of, register_of, release_entry_of, release_of, short_entry_of, where_true}
use Rattle.trace_audit.specs.Printed.{HasForm, IsHandlerNumber, entry_reported, line_reported}
use Rattle.trace_audit.proofs.ArgumentLaws.{fault_read, handler_read, line_with, print_read, prio_read, register_read, release_read, words_alone, words_with}

-- ---- words with their arguments

abbrev line_is : ℕ → Entry → Option Line
line_is unit entry = Some (record { unit = unit; entry = entry })

abbrev Reads : ℕ → List ℕ → Entry → Type 0
Reads unit words entry = line_of (decimal unit ++ words) ≡ line_is unit entry

reads_with : (unit : ℕ) (word arguments : List ℕ) (entry : Entry) → unit < 2 ^ 64 →
    list_all (is_other blank) word ≡ true → long_entry_of word arguments ≡ Some entry →
    Reads unit (blank ∷ (word ++ blank ∷ arguments)) entry
reads_with unit word arguments entry small h e =
    line_with unit (word ++ blank ∷ arguments) small ∙ words_with unit word arguments entry h e

reads_alone : (unit : ℕ) (word : List ℕ) (entry : Entry) → unit < 2 ^ 64 → list_all (is_other blank) word ≡ true →
    short_entry_of word ≡ Some entry → Reads unit (blank ∷ word) entry
reads_alone unit word entry small h e = line_with unit word small ∙ words_alone unit word entry h e

long_mission : (arguments : List ℕ) → long_entry_of (codes "mission") arguments ≡ mission_of arguments
unfolding long_entry_of
long_mission arguments = refl

long_register : (arguments : List ℕ) → long_entry_of (codes "register") arguments ≡ register_of arguments
unfolding long_entry_of
long_register arguments = refl

long_lost : (arguments : List ℕ) → long_entry_of (codes "lost") arguments ≡ lost_of arguments
unfolding long_entry_of
long_lost arguments = refl

long_miss : (arguments : List ℕ) → long_entry_of (codes "miss") arguments ≡ miss_of arguments
unfolding long_entry_of
long_miss arguments = refl

long_prio : (arguments : List ℕ) → long_entry_of (codes "prio") arguments ≡ prio_of arguments
unfolding long_entry_of
long_prio arguments = refl

long_print : (arguments : List ℕ) → long_entry_of (codes "print") arguments ≡ print_of arguments
unfolding long_entry_of
long_print arguments = refl

long_fault : (arguments : List ℕ) → long_entry_of (codes "fault") arguments ≡ fault_of arguments
unfolding long_entry_of
long_fault arguments = refl

of_names : (entry : ℕ → ℕ → Entry) → Option (ℕ × ℕ) → Option Entry
of_names entry o = o >>= (λ release. Some (entry release.0 release.1))

long_arrive : (arguments : List ℕ) → long_entry_of (codes "arrive") arguments ≡ of_names Arrive (release_of arguments)
unfolding long_entry_of release_entry_of of_names
long_arrive arguments = refl

long_run : (arguments : List ℕ) → long_entry_of (codes "run") arguments ≡ of_names Run (release_of arguments)
unfolding long_entry_of release_entry_of of_names
long_run arguments = refl

long_end : (arguments : List ℕ) → long_entry_of (codes "end") arguments ≡ of_names End (release_of arguments)
unfolding long_entry_of release_entry_of of_names
long_end arguments = refl

long_drop : (arguments : List ℕ) → long_entry_of (codes "drop") arguments ≡ of_names Drop (release_of arguments)
unfolding long_entry_of release_entry_of of_names
long_drop arguments = refl

named_release : (entry : ℕ → ℕ → Entry) (handler n : ℕ) → IsHandlerNumber handler → n < 2 ^ 64 →
    of_names entry (release_of (decimal handler ++ blank ∷ decimal n)) ≡ Some (entry handler n)
unfolding of_names
named_release entry handler n h small = ap (of_names entry) (release_read handler n h small)

-- ---- each event

three : (a c d : List ℕ) → ((a ++ blank ∷ []) ++ c) ++ d ≡ a ++ blank ∷ (c ++ d)
three a c d = append_assoc (a ++ blank ∷ []) c d ∙ append_assoc a (blank ∷ []) (c ++ d)

placed : (name file line : List ℕ) →
    (((name ++ blank ∷ []) ++ file) ++ colon ∷ []) ++ line ≡ name ++ blank ∷ (file ++ colon ∷ line)
placed name file line =
    append_assoc ((name ++ blank ∷ []) ++ file) (colon ∷ []) line ∙ three name file (colon ∷ line)

lost_read : (handler : ℕ) → IsHandlerNumber handler → lost_of (decimal handler) ≡ Some Lost
lost_read handler h = ap (λ (o : Option ℕ). o >>= (λ k. Some Lost)) (handler_read handler h)

-- the line of an event tells the event
pub event_read : (nodes : List Node) (files : List (List ℕ)) (e : Event) → HasForm nodes files e →
    line_of (decimal (unit_of e) ++ words_of nodes files e) ≡ Some (line_reported e)
unfolding words_of unit_of entry_reported short_entry_of
event_read nodes files (event.Mission unit class) form =
    reads_with unit (codes "mission") class Mission form.unit refl
    (long_mission class ∙ ap (λ (b : Bool). where_true b Mission) form.parts)
event_read nodes files (event.Register unit handler class priority) form =
    ap (λ (l : List ℕ). line_of (decimal unit ++ blank ∷ (codes "register" ++ blank ∷ l)))
    (three (decimal handler) class (blank ∷ decimal priority))
    ∙ reads_with unit (codes "register") (decimal handler ++ blank ∷ (class ++ blank ∷ decimal priority))
    (Register handler priority) form.unit refl
    (long_register (decimal handler ++ blank ∷ (class ++ blank ∷ decimal priority))
    ∙ register_read handler priority class form.parts.0 form.parts.1 form.parts.2)
event_read nodes files (event.Exec unit) form = reads_alone unit (codes "exec") Exec form.unit refl refl
event_read nodes files (event.Arrive unit handler n) form =
    reads_with unit (codes "arrive") (decimal handler ++ blank ∷ decimal n) (Arrive handler n) form.unit refl
    (long_arrive (decimal handler ++ blank ∷ decimal n) ∙ named_release Arrive handler n form.parts.0 form.parts.1)
event_read nodes files (event.Lost unit handler) form =
    reads_with unit (codes "lost") (decimal handler) Lost form.unit refl
    (long_lost (decimal handler) ∙ lost_read handler form.parts)
event_read nodes files (event.Miss unit name) form =
    reads_with unit (codes "miss") name (Miss name) form.unit refl
    (long_miss name ∙ ap (λ (b : Bool). where_true b (Miss name)) form.parts)
event_read nodes files (event.Run unit handler n) form =
    reads_with unit (codes "run") (decimal handler ++ blank ∷ decimal n) (Run handler n) form.unit refl
    (long_run (decimal handler ++ blank ∷ decimal n) ∙ named_release Run handler n form.parts.0 form.parts.1)
event_read nodes files (event.Idle unit) form = reads_alone unit (codes "idle") Idle form.unit refl refl
event_read nodes files (event.Prio unit handler priority) form =
    reads_with unit (codes "prio") (decimal handler ++ blank ∷ decimal priority) (Prio handler priority) form.unit refl
    (long_prio (decimal handler ++ blank ∷ decimal priority)
    ∙ prio_read handler priority form.parts.0 form.parts.1)
event_read nodes files (event.Print unit text value) form =
    ap (λ (l : List ℕ). line_of (decimal unit ++ blank ∷ (codes "print" ++ blank ∷ l)))
    (append_assoc (label nodes text) (blank ∷ []) (signed_decimal value))
    ∙ reads_with unit (codes "print") (label nodes text ++ blank ∷ signed_decimal value) Print form.unit refl
    (long_print (label nodes text ++ blank ∷ signed_decimal value)
    ∙ print_read (label nodes text) value form.parts.0 form.parts.1)
event_read nodes files (event.Fault unit fault position) form =
    ap (λ (l : List ℕ). line_of (decimal unit ++ blank ∷ (codes "fault" ++ blank ∷ l)))
    (placed (text_of fault) (file_name files position.file) (decimal position.line))
    ∙ reads_with unit (codes "fault")
    (text_of fault ++ blank ∷ (file_name files position.file ++ colon ∷ decimal position.line)) Fault form.unit refl
    (long_fault (text_of fault ++ blank ∷ (file_name files position.file ++ colon ∷ decimal position.line))
    ∙ fault_read fault (file_name files position.file) position.line form.parts.0 form.parts.1 form.parts.2)
event_read nodes files (event.End unit handler n) form =
    reads_with unit (codes "end") (decimal handler ++ blank ∷ decimal n) (End handler n) form.unit refl
    (long_end (decimal handler ++ blank ∷ decimal n) ∙ named_release End handler n form.parts.0 form.parts.1)
event_read nodes files (event.Terminate unit) form =
    reads_alone unit (codes "terminate") Terminate form.unit refl refl
event_read nodes files (event.Drop unit handler n) form =
    reads_with unit (codes "drop") (decimal handler ++ blank ∷ decimal n) (Drop handler n) form.unit refl
    (long_drop (decimal handler ++ blank ∷ decimal n) ∙ named_release Drop handler n form.parts.0 form.parts.1)
event_read nodes files (event.Cleanup unit) form = reads_alone unit (codes "cleanup") Cleanup form.unit refl refl
event_read nodes files (event.Done unit) form = reads_alone unit (codes "done") Done form.unit refl refl
event_read nodes files (event.Halted unit) form = reads_alone unit (codes "halted") Halted form.unit refl refl
event_read nodes files (event.Stopped unit) form = reads_alone unit (codes "stopped") Stopped form.unit refl refl
