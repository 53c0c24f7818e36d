-- Where an audit answers Yes, each line that names a choice names Pick.
use Rattle.std.proofs.Common.{◌≡◌, ℕ, ◌+◌, ◌==◌, Bool, true, false, List, [], ◌∷◌, ◌++◌, Option, None, Some, refl, sym, ap, ◌∙◌, arith}
use Rattle.std.proofs.lemmas.Bool.Decides.{nat_tests}
use Rattle.scj_rules.specs.Words.{◌>>=◌}
use Rattle.scj_model.specs.Plan.{Plan}
use Rattle.accepted_laws.proofs.Tools.{some_inj}
use Rattle.trace_audit.specs.declared.answers.Audit.{Audit}
use Rattle.trace_audit.specs.declared.answers.Audit.TheVariants.{Yes, No}
use Rattle.trace_audit.specs.declared.choices.Choice.{Choice}
use Rattle.trace_audit.specs.declared.choices.Choice.TheVariants.{Idle as Nobody, Chosen}
use Rattle.trace_audit.specs.declared.lines.Entry.{Entry}
use Rattle.trace_audit.specs.declared.lines.Entry.TheVariants.{Mission, Register, Exec, Arrive, Lost, Miss, Run, Idle, Prio, Print, Fault, End, Terminate, Drop, Cleanup, Done, Halted, Stopped}
use Rattle.trace_audit.specs.declared.lines.Line.{Line}
use Rattle.trace_audit.specs.Parts.{parted}
use Rattle.trace_audit.specs.Lines.{line_of}
use Rattle.trace_audit.specs.Replay.{Replay, differs, is_same_choice, nothing_reported, picked}
use Rattle.trace_audit.specs.Passing.{entry_passes, is_right_choice, passes, replayed}
use Rattle.trace_audit.specs.Audits.{audit_from, audit_of, read_and_replayed}
use Rattle.trace_audit.specs.PickedNames.{AllNamePick, choice_named, replay_behind}
use Rattle.trace_audit.proofs.LineLaws.{HasLines, audit_more, both_true, last_open, passes_parts, replayed_not, some}

same_choice : (a b : Choice) → is_same_choice a b ≡ true → b ≡ a
same_choice Nobody Nobody h = refl
same_choice Nobody (Chosen k n) h = absurd (cc (h))
same_choice (Chosen k n) Nobody h = absurd (cc (h))
same_choice (Chosen k n) (Chosen j m) h =
    let both = both_true (k == j) (n == m) h in
    let e : j ≡ k = (let t = both.0 in grind (arith, nat_tests, t)) in
    let f : m ≡ n = (let t = both.1 in grind (arith, nat_tests, t)) in
    ap (λ (x : ℕ). Chosen x m) e ∙ ap (λ (x : ℕ). Chosen k x) f

right_is_picked : (replay : Replay) (choice : Choice) → is_right_choice replay choice ≡ true →
    picked replay.all ≡ choice
right_is_picked replay choice h =
    same_choice choice (picked replay.all)
    (both_true (is_same_choice choice (picked replay.all)) (differs replay) h).0

named_is_picked : (plan : Plan) (replay : Replay) (unit : ℕ) (entry : Entry) →
    entry_passes plan replay unit entry ≡ true → (choice : Choice) → choice_named entry ≡ Some choice →
    picked replay.all ≡ choice
unfolding entry_passes
named_is_picked plan replay unit (Run handler number) h choice e =
    right_is_picked replay (Chosen handler number) h ∙ some_inj (Chosen handler number) choice e
named_is_picked plan replay unit Idle h choice e = right_is_picked replay Nobody h ∙ some_inj Nobody choice e
named_is_picked plan replay unit Mission h choice e = absurd (cc (e))
named_is_picked plan replay unit (Register handler priority) h choice e = absurd (cc (e))
named_is_picked plan replay unit Exec h choice e = absurd (cc (e))
named_is_picked plan replay unit (Arrive handler number) h choice e = absurd (cc (e))
named_is_picked plan replay unit Lost h choice e = absurd (cc (e))
named_is_picked plan replay unit (Miss name) h choice e = absurd (cc (e))
named_is_picked plan replay unit (Prio handler priority) h choice e = absurd (cc (e))
named_is_picked plan replay unit Print h choice e = absurd (cc (e))
named_is_picked plan replay unit Fault h choice e = absurd (cc (e))
named_is_picked plan replay unit (End handler number) h choice e = absurd (cc (e))
named_is_picked plan replay unit Terminate h choice e = absurd (cc (e))
named_is_picked plan replay unit (Drop handler number) h choice e = absurd (cc (e))
named_is_picked plan replay unit Cleanup h choice e = absurd (cc (e))
named_is_picked plan replay unit Done h choice e = absurd (cc (e))
named_is_picked plan replay unit Halted h choice e = absurd (cc (e))
named_is_picked plan replay unit Stopped h choice e = absurd (cc (e))

passes_if : (plan : Plan) (replay after : Replay) (line : Line) → replayed plan replay line ≡ Some after →
    entry_passes plan replay line.unit line.entry ≡ true
passes_if plan replay after line e = go (passes plan replay line) refl e
  where
    go : (b : Bool) → passes plan replay line ≡ b → replayed plan replay line ≡ Some after →
        entry_passes plan replay line.unit line.entry ≡ true
    go true f g = passes_parts plan replay line f
    go false f g =
        let none : None ≡ Some after = sym (replayed_not plan replay line f) ∙ g in
        absurd (cc (none))

-- a first line
record Reaches (plan : Plan) (replay : Replay) (before : List (List ℕ)) (line : Line) : Type 0 where
  last : Replay
  is_behind : replay_behind plan replay before ≡ Some last
  names : (choice : Choice) → choice_named line.entry ≡ Some choice → picked last.all ≡ choice

no_line : (line : Line) → line_of [] ≡ Some line → ⊥
unfolding line_of parted
no_line line e = cc (e)

behind_nothing : (plan : Plan) (replay : Replay) → replay_behind plan replay [] ≡ Some replay
unfolding replay_behind
behind_nothing plan replay = refl

behind_more : (plan : Plan) (replay after : Replay) (line : List ℕ) (lines : List (List ℕ)) →
    read_and_replayed plan replay line ≡ Some after →
    replay_behind plan replay (line ∷ lines) ≡ replay_behind plan after lines
unfolding replay_behind
behind_more plan replay after line lines e =
    ap (λ (o : Option Replay). o >>= (λ r. replay_behind plan r lines)) e

record Passed (plan : Plan) (replay : Replay) (number : ℕ) (line : List ℕ) (more : List (List ℕ)) : Type 0 where
  after : Replay
  is_after : read_and_replayed plan replay line ≡ Some after
  rest : audit_from plan after (number + 1) more ≡ Yes

abbrev audited : Plan → ℕ → List (List ℕ) → Option Replay → Audit
audited plan number more o =
    elim o as (λ _. Audit) [ None ↦ No number | Some after ↦ audit_from plan after (number + 1) more ]

passed : (plan : Plan) (replay : Replay) (number : ℕ) (line : List ℕ) (more : List (List ℕ)) → HasLines more →
    audit_from plan replay number (line ∷ more) ≡ Yes → Passed plan replay number line more
passed plan replay number line more has e = go (read_and_replayed plan replay line) refl
  where
    go : (o : Option Replay) → read_and_replayed plan replay line ≡ o → Passed plan replay number line more
    go None f =
        let g : No number ≡ Yes = sym (ap (audited plan number more) f) ∙ (sym (audit_more plan replay number line more has) ∙ e) in
        absurd (cc (g))
    go (Some after) f =
        record {
          after = after;
          is_after = f;
          rest = sym (ap (audited plan number more) f) ∙ (sym (audit_more plan replay number line more has) ∙ e);
        }

at_first : (plan : Plan) (replay : Replay) (number : ℕ) (bytes : List ℕ) (after : List (List ℕ)) (line : Line) →
    audit_from plan replay number (bytes ∷ after) ≡ Yes → line_of bytes ≡ Some line → Reaches plan replay [] line
at_first plan replay number bytes [] line e f = absurd (alone bytes e f)
  where
    alone : (bytes : List ℕ) → audit_from plan replay number (bytes ∷ []) ≡ Yes → line_of bytes ≡ Some line → ⊥
    alone [] e f = no_line line f
    alone (b ∷ bytes) e f = let g : No number ≡ Yes = sym (last_open plan replay number b bytes) ∙ e in cc (g)
at_first plan replay number bytes (next ∷ after) line e f =
    let here = passed plan replay number bytes (next ∷ after) (some next after refl) e in
    let is : replayed plan replay line ≡ Some here.after =
    sym (ap (λ (o : Option Line). o >>= replayed plan replay) f) ∙ here.is_after in
    record {
      last = replay;
      is_behind = behind_nothing plan replay;
      names = named_is_picked plan replay line.unit line.entry (passes_if plan replay here.after line is);
    }

tail_has : (before : List (List ℕ)) (bytes : List ℕ) (after : List (List ℕ)) → HasLines (before ++ bytes ∷ after)
tail_has [] bytes after = some bytes after refl
tail_has (line ∷ before) bytes after = some line (before ++ bytes ∷ after) refl

reaches : (plan : Plan) (before : List (List ℕ)) (replay : Replay) (number : ℕ) (bytes : List ℕ)
    (after : List (List ℕ)) (line : Line) → audit_from plan replay number (before ++ bytes ∷ after) ≡ Yes →
    line_of bytes ≡ Some line → Reaches plan replay before line
reaches plan [] replay number bytes after line e f = at_first plan replay number bytes after line e f
reaches plan (first ∷ before) replay number bytes after line e f =
    let here = passed plan replay number first (before ++ bytes ∷ after) (tail_has before bytes after) e in
    let more = reaches plan before here.after (number + 1) bytes after line here.rest f in
    record {
      last = more.last;
      is_behind = behind_more plan replay here.after first before here.is_after ∙ more.is_behind;
      names = more.names;
    }

pub yes_names_pick : (plan : Plan) (trace : List ℕ) → audit_of plan trace ≡ Yes → AllNamePick plan trace
unfolding audit_of
yes_names_pick plan trace answered before after bytes line e f =
    let here =
    reaches plan before nothing_reported 1 bytes after line (sym (ap (audit_from plan nothing_reported 1) e) ∙ answered) f in
    record { replay = here.last; is_behind = here.is_behind; names = here.names }
