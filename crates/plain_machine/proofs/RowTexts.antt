-- The lines of a table's rows are those of the scopes of which an area was opened.
use Rattle.std.specs.Prelude.{Some, filter, flat_map, map, nat_lt, slice_get, if◌then◌else◌}
use Rattle.std.specs.List.{range_with_len}
use Rattle.std.proofs.Common.{◌≡◌, ◌∙◌, Bool, true, false, ℕ, zero, suc, ◌+◌, ◌-◌, ◌<◌, ◌≤◌, List, [], ◌∷◌, ◌++◌, append-nil, append_assoc, drop, get_or, length, refl, ap, sym, take, arith}
use Rattle.std.proofs.lemmas.List.{take_all}
use Rattle.scj_rules.specs.Contexts.{Declarations}
use Rattle.scj_tree.specs.Forest.{Forest}
use Rattle.scj_model.specs.declared.events.Event.{Event}
use Rattle.scj_model.specs.Code.{code_of}
use Rattle.scj_model.specs.Plan.{Plan}
use Rattle.scj_model.specs.State.{State}
use Rattle.area_needs.specs.declared.refusals.Refusal.{Refusal}
use Rattle.area_needs.specs.Needs.{needs_after}
use Rattle.area_needs.specs.ScopeRows.{ScopeRow, row_of, rows_of}
use Rattle.area_tables.specs.declared.rows.NeedRow.{NeedRow}
use Rattle.area_tables.specs.Standing.{AreRows, need_of}
use Rattle.plain_machine.specs.AreaTexts.{lines_from, need_line, row_line, row_words, rows_text, scope_name, store_line}
use Rattle.plain_machine.specs.UnderWay.{run_at}
use Rattle.plain_machine.specs.Watched.{HasEndedWith, class_count}
use Rattle.plain_machine.specs.declared.watched.Watched.{Watched}

-- the line of the first row is put behind those before it
pub next_line : (p : Declarations) (scope : ℕ) (row other : NeedRow) (rows : List NeedRow)
    (before after whole : List ℕ) → 1 ≤ length rows → after ≡ before ++ need_line p scope row →
    row ≡ get_or rows 0 other → before ++ lines_from p scope rows ≡ whole →
    after ++ lines_from p (scope + 1) (take (length rows - 1) (drop 1 rows)) ≡ whole
unfolding lines_from
next_line p scope row other [] before after whole some e first h = absurd (omega (arith, some))
next_line p scope row other (x ∷ xs) before after whole some e first h =
    let all_behind : length (x ∷ xs) - 1 ≡ length xs = omega arith in
    let others : take (length (x ∷ xs) - 1) xs ≡ xs =
    ap (λ (k : ℕ). take k xs) all_behind ∙ take_all (length xs) xs (omega arith) in
    ap (λ (rows : List NeedRow). after ++ lines_from p (scope + 1) rows) others
    ∙ (ap (λ (bytes : List ℕ). bytes ++ lines_from p (scope + 1) xs) e
    ∙ (append_assoc before (need_line p scope row) (lines_from p (scope + 1) xs)
    ∙ (ap (λ (r : NeedRow). before ++ (need_line p scope r ++ lines_from p (scope + 1) xs)) first ∙ h)))

-- behind the last row there is no line
pub last_line : (p : Declarations) (scope : ℕ) (rows : List NeedRow) (text whole : List ℕ) → length rows < 1 →
    text ++ lines_from p scope rows ≡ whole → text ≡ whole
unfolding lines_from
last_line p scope [] text whole few h = sym (append-nil text) ∙ h
last_line p scope (x ∷ xs) text whole few h = absurd (omega (arith, few))

module _ (p : Declarations) (s : State) (refusals : List Refusal) where
  abbrev line_at : ℕ → NeedRow → List ℕ
  line_at scope row = scope_name p scope ++ row_words row.opened row.declared row.used row.refused

  abbrev lines : List ScopeRow → List ℕ
  lines rows = flat_map (row_line p) (filter (λ (row : ScopeRow). nat_lt 0 row.opened) rows)

  abbrev opened_behind : ℕ → List NeedRow → List ScopeRow
  opened_behind from rows = filter (λ (row : ScopeRow). nat_lt 0 row.opened)
      (map (row_of s refusals) (range_with_len (from + 1) (length rows)))

  lines_are : (from : ℕ) (rows : List NeedRow) →
      ((i scope : ℕ) (row : NeedRow) → scope ≡ from + i → slice_get rows i ≡ Some row → row ≡ need_of s refusals scope) →
      lines_from p from rows ≡ lines (map (row_of s refusals) (range_with_len from (length rows)))
  unfolding lines_from need_line row_line
  lines_are from [] each = refl
  lines_are from (row ∷ rows) each =
      ap (λ (r : NeedRow). (if nat_lt 0 r.opened then line_at from r else []) ++ lines_from p (from + 1) rows)
      (each 0 from row (omega arith) refl)
      ∙ go (lines_are (from + 1) rows (λ i scope r e there. each (suc i) scope r (omega (arith, e)) there))
      (nat_lt 0 (need_of s refusals from).opened)
    where
      go : lines_from p (from + 1) rows
          ≡ lines (map (row_of s refusals) (range_with_len (from + 1) (length rows))) → (b : Bool) →
          (if b then line_at from (need_of s refusals from) else []) ++ lines_from p (from + 1) rows
          ≡ flat_map (row_line p) (if b then row_of s refusals from ∷ opened_behind from rows else opened_behind from rows)
      go more true = ap (λ (bytes : List ℕ). line_at from (need_of s refusals from) ++ bytes) more
      go more false = more

  pub lines_of_rows : (count : ℕ) (rows : List NeedRow) → AreRows count (need_of s refusals) rows →
      lines_from p 0 rows ≡ flat_map (row_line p) (rows_of count s refusals)
  unfolding rows_of
  lines_of_rows count rows r =
      lines_are 0 rows each ∙ ap (λ (n : ℕ). lines (map (row_of s refusals) (range_with_len 0 n))) r.long
    where
      within : (rows : List NeedRow) (i : ℕ) (row : NeedRow) → slice_get rows i ≡ Some row → i < length rows
      within [] i row e = absurd (cc (e))
      within (x ∷ xs) zero row e = omega arith
      within (x ∷ xs) (suc i) row e = let h = within xs i row e in omega (arith, h)

      each : (i scope : ℕ) (row : NeedRow) → scope ≡ 0 + i → slice_get rows i ≡ Some row →
          row ≡ need_of s refusals scope
      each i scope row e there =
          let k : i ≡ scope = omega (arith, e) in
          let l : i < count = (let w = within rows i row there in let n = r.long in omega (arith, w, n)) in
          let found : Some row ≡ Some (need_of s refusals i) = sym there ∙ r.each i l in
          let is : row ≡ need_of s refusals i = cc in
          is ∙ ap (λ (n : ℕ). need_of s refusals n) k

-- the text of the rows and of the store
pub rows_text_is : (forest : Forest) (plan : Plan) (run : Watched) (last : Event) → HasEndedWith forest plan run last →
    lines_from (code_of forest).program 0 run.table.rows.items ++ store_line run.table.reserved plan.store
    ≡ rows_text forest plan
unfolding rows_text
rows_text_is forest plan run last ended =
    ap (λ (bytes : List ℕ). bytes ++ store_line run.table.reserved plan.store)
    (lines_of_rows (code_of forest).program (run_at forest plan plan.units).state
    (needs_after (code_of forest) plan plan.units).refusals (class_count forest) run.table.rows.items ended.reports.rows)
    ∙ ap (λ (n : ℕ). flat_map (row_line (code_of forest).program)
    (rows_of (class_count forest) (run_at forest plan plan.units).state
    (needs_after (code_of forest) plan plan.units).refusals) ++ store_line n plan.store) ended.reports.reserved
