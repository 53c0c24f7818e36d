-- The lines of a text, one after the other.
use Rattle.std.proofs.Common.{◌≡◌, ℕ, suc, ◌+◌, ◌==◌, Bool, true, false, not, ◌&&◌, List, [], ◌∷◌, length, length-drop, ◌-◌, ◌≤◌, take, drop, Option, None, Some, cond, if◌then◌else◌, refl, sym, ap, ◌∙◌, subst, arith}
use Rattle.std.specs.List.{prefix_len}
use Rattle.std.proofs.lemmas.Bool.Decides.{nat_tests}
use Rattle.std.proofs.lemmas.Option.{same_Some}
use Rattle.trace_audit.specs.declared.answers.Audit.{Audit}
use Rattle.trace_audit.specs.declared.answers.Audit.TheVariants.{Yes, No}
use Rattle.scj_model.specs.Plan.{Plan}
use Rattle.trace_audit.specs.Parts.{Parts, before, from, is_other, line_feed, parted, with_front}
use Rattle.scj_rules.specs.Words.{◌>>=◌}
use Rattle.trace_audit.specs.declared.lines.Entry.{Entry}
use Rattle.trace_audit.specs.declared.lines.Entry.TheVariants.{Mission, Register, Exec, Arrive, Lost, Miss, Run, Idle, Prio, Print, Fault, End, Terminate, Drop, Cleanup, Done, Halted, Stopped}
use Rattle.trace_audit.specs.declared.lines.Line.{Line}
use Rattle.trace_audit.specs.Lines.{line_of}
use Rattle.trace_audit.specs.Passing.{begun, entry_done, entry_passes, fits_entry, is_in_order, is_within, misses_no_choice, passes, replayed}
use Rattle.trace_audit.specs.Replay.{Replay}
use Rattle.trace_audit.specs.Audits.{audit_from, in_front, lines_of, read_and_replayed}

-- the first line, and those behind it; where there is no line feed, the text is its own last line
record FirstLine (bytes : List ℕ) : Type 0 where
  at_feed : (front back : List ℕ) → parted line_feed bytes ≡ Some (record { front = front; back = back }) →
      lines_of bytes ≡ front ∷ lines_of back
  without : parted line_feed bytes ≡ None → lines_of bytes ≡ bytes ∷ []

-- a byte in front
parted_behind : (b : ℕ) (bytes : List ℕ) → (b == line_feed) ≡ false → (o : Option Parts) → parted line_feed bytes ≡ o →
    parted line_feed (b ∷ bytes)
    ≡ elim o as (λ _. Option Parts) [ None ↦ None | Some p ↦ Some (record { front = b ∷ p.front; back = p.back }) ]
unfolding parted
parted_behind b bytes other o e =
    ap (λ (t : Bool). with_front (take (cond (not t) (1 + prefix_len (is_other line_feed) bytes) 0) (b ∷ bytes))
    (drop (cond (not t) (1 + prefix_len (is_other line_feed) bytes) 0) (b ∷ bytes))) other
    ∙ (ap (λ (n : ℕ). with_front (take n (b ∷ bytes)) (drop n (b ∷ bytes))) one_more
    ∙ (fronted (take n bytes) (drop n bytes) ∙ ap put e))
  where
    n : ℕ
    n = prefix_len (is_other line_feed) bytes

    one_more : 1 + n ≡ suc n
    one_more = omega arith

    put : Option Parts → Option Parts
    put o = elim o as (λ _. Option Parts) [ None ↦ None | Some p ↦ Some (record { front = b ∷ p.front; back = p.back }) ]

    fronted : (front back : List ℕ) → with_front (b ∷ front) back ≡ put (with_front front back)
    fronted front [] = refl
    fronted front (c ∷ back) = refl

parted_here : (b : ℕ) (bytes : List ℕ) → (b == line_feed) ≡ true →
    parted line_feed (b ∷ bytes) ≡ Some (record { front = []; back = bytes })
unfolding parted
parted_here b bytes e =
    ap (λ (t : Bool). with_front (take (cond (not t) (1 + prefix_len (is_other line_feed) bytes) 0) (b ∷ bytes))
    (drop (cond (not t) (1 + prefix_len (is_other line_feed) bytes) 0) (b ∷ bytes))) e

parted_nothing : parted line_feed [] ≡ None
unfolding parted
parted_nothing = refl

lines_here : (b : ℕ) (bytes : List ℕ) → (b == line_feed) ≡ true → lines_of (b ∷ bytes) ≡ [] ∷ lines_of bytes
unfolding lines_of
lines_here b bytes e = ap (λ (t : Bool). if t then [] ∷ lines_of bytes else in_front b (lines_of bytes)) e

lines_behind : (b : ℕ) (bytes : List ℕ) → (b == line_feed) ≡ false →
    lines_of (b ∷ bytes) ≡ in_front b (lines_of bytes)
unfolding lines_of
lines_behind b bytes e = ap (λ (t : Bool). if t then [] ∷ lines_of bytes else in_front b (lines_of bytes)) e

lines_nothing : lines_of [] ≡ [] ∷ []
unfolding lines_of
lines_nothing = refl

step : (b : ℕ) (bytes : List ℕ) → FirstLine bytes → (t : Bool) → (b == line_feed) ≡ t → FirstLine (b ∷ bytes)
step b bytes rest true e =
    record {
      at_feed = λ front back f.
          let same : ◌≡◌ {A = Option Parts} (Some (record { front = []; back = bytes }))
          (Some (record { front = front; back = back })) = sym (parted_here b bytes e) ∙ f in
          let fronts : [] ≡ front = ap (λ (q : Parts). q.front) (same_Some _ _ same) in
          let backs : bytes ≡ back = ap (λ (q : Parts). q.back) (same_Some _ _ same) in
          lines_here b bytes e ∙ (ap (λ (l : List ℕ). l ∷ lines_of bytes) fronts
          ∙ ap (λ (l : List ℕ). front ∷ lines_of l) backs);
      without = λ f. absurd (let g : ◌≡◌ {A = Option Parts} (Some (record { front = []; back = bytes })) None =
          sym (parted_here b bytes e) ∙ f in cc (g));
    }
step b bytes rest false e = go (parted line_feed bytes) refl
  where
    go : (o : Option Parts) → parted line_feed bytes ≡ o → FirstLine (b ∷ bytes)
    go None f =
        record {
          at_feed = λ front back g. absurd (let h : ◌≡◌ {A = Option Parts} None
              (Some (record { front = front; back = back })) = sym (parted_behind b bytes e None f) ∙ g in cc (h));
          without = λ g. lines_behind b bytes e ∙ ap (in_front b) (rest.without f);
        }
    go (Some p) f =
        record {
          at_feed = λ front back g.
              let same : ◌≡◌ {A = Option Parts} (Some (record { front = b ∷ p.front; back = p.back }))
              (Some (record { front = front; back = back })) = sym (parted_behind b bytes e (Some p) f) ∙ g in
              let fronts : b ∷ p.front ≡ front = ap (λ (q : Parts). q.front) (same_Some _ _ same) in
              let backs : p.back ≡ back = ap (λ (q : Parts). q.back) (same_Some _ _ same) in
              lines_behind b bytes e ∙ (ap (in_front b) (rest.at_feed p.front p.back f)
              ∙ (ap (λ (l : List ℕ). l ∷ lines_of p.back) fronts
              ∙ ap (λ (l : List ℕ). front ∷ lines_of l) backs));
          without = λ g. absurd (let h : ◌≡◌ {A = Option Parts}
              (Some (record { front = b ∷ p.front; back = p.back })) None =
              sym (parted_behind b bytes e (Some p) f) ∙ g in cc (h));
        }

first_line : (bytes : List ℕ) → FirstLine bytes
first_line [] =
    record {
      at_feed = λ front back f. absurd (let g : ◌≡◌ {A = Option Parts} None
          (Some (record { front = front; back = back })) = sym parted_nothing ∙ f in cc (g));
      without = λ f. lines_nothing;
    }
first_line (b ∷ bytes) = step b bytes (first_line bytes) (b == line_feed) refl

-- ---- audits, a line at a time

-- there is always a last line
pub data HasLines (lines : List (List ℕ)) : Type 0 where
  some : (line : List ℕ) (more : List (List ℕ)) → lines ≡ line ∷ more → HasLines lines

some_behind : (b : ℕ) (lines : List (List ℕ)) → HasLines (in_front b lines)
some_behind b [] = some (b ∷ []) [] refl
some_behind b (line ∷ lines) = some (b ∷ line) lines refl

some_by : (b : ℕ) (bytes : List ℕ) (t : Bool) → (b == line_feed) ≡ t → HasLines (lines_of (b ∷ bytes))
some_by b bytes true e = some [] (lines_of bytes) (lines_here b bytes e)
some_by b bytes false e =
    subst HasLines (sym (lines_behind b bytes e)) (some_behind b (lines_of bytes))

pub has_lines : (bytes : List ℕ) → HasLines (lines_of bytes)
has_lines [] = some [] [] lines_nothing
has_lines (b ∷ bytes) = some_by b bytes (b == line_feed) refl

abbrev pub audit_behind : Plan → Replay → ℕ → List ℕ → List (List ℕ) → Audit
audit_behind plan replay number line more =
    elim (read_and_replayed plan replay line) as (λ _. Audit) [
      | None ↦ No number
      | Some after ↦ audit_from plan after (number + 1) more
    ]

-- a line that has more behind it
pub audit_more : (plan : Plan) (replay : Replay) (number : ℕ) (line : List ℕ) (more : List (List ℕ)) → HasLines more →
    audit_from plan replay number (line ∷ more) ≡ audit_behind plan replay number line more
unfolding audit_from
audit_more plan replay number line more (some next lines e) =
    ap (λ (ls : List (List ℕ)). audit_from plan replay number (line ∷ ls)) e
    ∙ ap (λ (ls : List (List ℕ)). audit_behind plan replay number line ls) (sym e)

-- the first line passes or not, and the last one ends the trace or not
pub audit_next : (plan : Plan) (replay after : Replay) (number : ℕ) (bytes front back : List ℕ) →
    parted line_feed bytes ≡ Some (record { front = front; back = back }) →
    read_and_replayed plan replay front ≡ Some after →
    audit_from plan replay number (lines_of bytes) ≡ audit_from plan after (number + 1) (lines_of back)
audit_next plan replay after number bytes front back e f =
    ap (audit_from plan replay number) ((first_line bytes).at_feed front back e)
    ∙ (audit_more plan replay number front (lines_of back) (has_lines back)
    ∙ ap (λ (o : Option Replay). elim o as (λ _. Audit) [
      | None ↦ No number
      | Some after ↦ audit_from plan after (number + 1) (lines_of back)
    ]) f)

pub audit_stops : (plan : Plan) (replay : Replay) (number : ℕ) (bytes front back : List ℕ) →
    parted line_feed bytes ≡ Some (record { front = front; back = back }) →
    read_and_replayed plan replay front ≡ None → audit_from plan replay number (lines_of bytes) ≡ No number
audit_stops plan replay number bytes front back e f =
    ap (audit_from plan replay number) ((first_line bytes).at_feed front back e)
    ∙ (audit_more plan replay number front (lines_of back) (has_lines back)
    ∙ ap (λ (o : Option Replay). elim o as (λ _. Audit) [
      | None ↦ No number
      | Some after ↦ audit_from plan after (number + 1) (lines_of back)
    ]) f)

audit_alone : (plan : Plan) (replay : Replay) (number : ℕ) (bytes : List ℕ) →
    audit_from plan replay number (bytes ∷ [])
    ≡ (if (length bytes == 0) && replay.is_over then Yes else No number)
unfolding audit_from
audit_alone plan replay number bytes = refl

pub last_open : (plan : Plan) (replay : Replay) (number b : ℕ) (bytes : List ℕ) →
    audit_from plan replay number ((b ∷ bytes) ∷ []) ≡ No number
last_open plan replay number b bytes =
    let none : (length (b ∷ bytes) == 0) ≡ false = grind (arith, nat_tests) in
    audit_alone plan replay number (b ∷ bytes)
    ∙ ap (λ (t : Bool). if t && replay.is_over then Yes else No number) none

-- behind the last line feed
pub audit_last : (plan : Plan) (replay : Replay) (number : ℕ) (bytes : List ℕ) → parted line_feed bytes ≡ None →
    audit_from plan replay number (lines_of bytes)
    ≡ (if (length bytes == 0) && replay.is_over then Yes else No number)
audit_last plan replay number bytes e =
    ap (audit_from plan replay number) ((first_line bytes).without e) ∙ audit_alone plan replay number bytes

-- ---- what a step of the audit knows

pub both_true : (a b : Bool) → (a && b) ≡ true → (a ≡ true) × (b ≡ true)
both_true true true h = (refl, refl)
both_true true false h = absurd (cc (h))
both_true false b h = absurd (cc (h))

-- a line that passes
pub passes_parts : (plan : Plan) (replay : Replay) (line : Line) → passes plan replay line ≡ true →
    entry_passes plan replay line.unit line.entry ≡ true
passes_parts plan replay line h =
    let a = (both_true (not replay.is_over) (is_in_order replay line.unit && (is_within plan line
    && (misses_no_choice replay line.unit && entry_passes plan replay line.unit line.entry))) h).1 in
    let b = (both_true (is_in_order replay line.unit) (is_within plan line
    && (misses_no_choice replay line.unit && entry_passes plan replay line.unit line.entry)) a).1 in
    let d = (both_true (is_within plan line)
    (misses_no_choice replay line.unit && entry_passes plan replay line.unit line.entry) b).1 in
    (both_true (misses_no_choice replay line.unit) (entry_passes plan replay line.unit line.entry) d).1

pub fits_of_passes : (plan : Plan) (replay : Replay) (line : Line) → passes plan replay line ≡ true →
    fits_entry replay.all line.entry ≡ true
unfolding entry_passes
fits_of_passes plan replay line h = by_entry line.entry (passes_parts plan replay line h)
  where
    by_entry : (entry : Entry) → entry_passes plan replay line.unit entry ≡ true →
        fits_entry replay.all entry ≡ true
    by_entry Mission h = refl
    by_entry (Register handler priority) h = refl
    by_entry Exec h = refl
    by_entry (Arrive handler number) h = h
    by_entry Lost h = refl
    by_entry (Miss name) h = refl
    by_entry (Run handler number) h = refl
    by_entry Idle h = refl
    by_entry (Prio handler priority) h = refl
    by_entry Print h = refl
    by_entry Fault h = refl
    by_entry (End handler number) h = refl
    by_entry Terminate h = refl
    by_entry (Drop handler number) h = refl
    by_entry Cleanup h = refl
    by_entry Done h = refl
    by_entry Halted h = refl
    by_entry Stopped h = refl

replayed_if : (plan : Plan) (replay : Replay) (line : Line) → passes plan replay line ≡ true →
    replayed plan replay line ≡ Some (entry_done (begun replay line.unit) line.unit line.entry)
unfolding replayed
replayed_if plan replay line e =
    ap (λ (b : Bool). if b then Some (entry_done (begun replay line.unit) line.unit line.entry) else None) e

pub replayed_not : (plan : Plan) (replay : Replay) (line : Line) → passes plan replay line ≡ false →
    replayed plan replay line ≡ None
unfolding replayed
replayed_not plan replay line e =
    ap (λ (b : Bool). if b then Some (entry_done (begun replay line.unit) line.unit line.entry) else None) e

-- a line passes by each of two plans that are the same
pub passes_alike : (kept plan : Plan) (replay : Replay) (line : Line) {b : Bool} → kept ≡ plan →
    b ≡ passes kept replay line → passes plan replay line ≡ b
passes_alike kept plan replay line e h = sym (h ∙ ap (λ (p : Plan). passes p replay line) e)

pub no_line_stops : (plan : Plan) (replay : Replay) (number : ℕ) (bytes front back : List ℕ) →
    parted line_feed bytes ≡ Some (record { front = front; back = back }) → line_of front ≡ None →
    audit_from plan replay number (lines_of bytes) ≡ No number
no_line_stops plan replay number bytes front back e f =
    audit_stops plan replay number bytes front back e (ap (λ (o : Option Line). o >>= replayed plan replay) f)

pub line_stops : (plan : Plan) (replay : Replay) (number : ℕ) (bytes front back : List ℕ) (line : Line) →
    parted line_feed bytes ≡ Some (record { front = front; back = back }) → line_of front ≡ Some line →
    passes plan replay line ≡ false → audit_from plan replay number (lines_of bytes) ≡ No number
line_stops plan replay number bytes front back line e f g =
    audit_stops plan replay number bytes front back e
    (ap (λ (o : Option Line). o >>= replayed plan replay) f ∙ replayed_not plan replay line g)

pub line_goes_on : (plan : Plan) (replay : Replay) (number : ℕ) (bytes front back : List ℕ) (line : Line) →
    parted line_feed bytes ≡ Some (record { front = front; back = back }) → line_of front ≡ Some line →
    passes plan replay line ≡ true → audit_from plan replay number (lines_of bytes)
    ≡ audit_from plan (entry_done (begun replay line.unit) line.unit line.entry) (number + 1) (lines_of back)
line_goes_on plan replay number bytes front back line e f g =
    audit_next plan replay (entry_done (begun replay line.unit) line.unit line.entry) number bytes front back e
    (ap (λ (o : Option Line). o >>= replayed plan replay) f ∙ replayed_if plan replay line g)

-- what is parted off is shorter
pub parted_shorter : (bytes front back : List ℕ) →
    parted line_feed bytes ≡ Some (record { front = front; back = back }) → length back + 1 ≤ length bytes
unfolding parted
parted_shorter bytes front back e = go (from line_feed bytes) refl e
  where
    go : (l : List ℕ) → from line_feed bytes ≡ l →
        with_front (before line_feed bytes) l ≡ Some (record { front = front; back = back }) →
        length back + 1 ≤ length bytes
    go [] f g = absurd (cc (g))
    go (b ∷ rest) f g =
        let same : rest ≡ back = ap (λ (q : Parts). q.back) (same_Some _ _ g) in
        let l : length (from line_feed bytes) ≡ length (b ∷ rest) = ap length f in
        let m : length (drop (prefix_len (is_other line_feed) bytes) bytes)
        ≡ length bytes - prefix_len (is_other line_feed) bytes =
        length-drop (prefix_len (is_other line_feed) bytes) bytes in
        let n : length rest ≡ length back = ap length same in
        omega (arith, l, m, n)
