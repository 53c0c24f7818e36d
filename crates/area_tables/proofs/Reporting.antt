-- A table tells what a run has needed up to the state that it looks at.
use Rattle.std.specs.Prelude.{Option, Some, None, nat_lt, replicate, slice_get, if◌then◌else◌, ◌==◌}
use Rattle.std.proofs.Common.{◌≡◌, ◌∙◌, ◌⊎◌, inl, inr, Bool, true, false, ℕ, zero, suc, ◌+◌, ◌-◌, ◌<◌, ◌≤◌, max, List, [], ◌∷◌, ◌++◌, length, refl, ap, sym, subst, arith, length-append}
use Rattle.std.proofs.lemmas.List.{length-replicate}
use Rattle.std.proofs.lemmas.Bool.Decides.{nat_tests}
use Rattle.scj_rules.specs.Words.{holds}
use Rattle.scj_model.specs.State.{MemoryArea, Object, State, changed}
use Rattle.scj_model.specs.Memory.{reserved, used}
use Rattle.region_heap.specs.declared.open_areas.Area.{Area}
use Rattle.region_heap.specs.Kept.{used_bytes}
use Rattle.region_heap.specs.OpenAreas.{open_areas}
use Rattle.region_heap.proofs.Lists.{get_last, same_or}
use Rattle.area_needs.specs.declared.refusals.Refusal.{Refusal}
use Rattle.area_needs.specs.Needs.{Needs, no_needs, with_refusal}
use Rattle.area_needs.specs.ScopeRows.{declared_of, opened_of, refused_of, used_of}
use Rattle.area_growth.specs.Growth.{AreasStay, GoesOn, still, makes, opens}
use Rattle.area_growth.proofs.Growing.{stay}
use Rattle.area_tables.specs.declared.rows.NeedRow.{NeedRow}
use Rattle.area_tables.specs.Rows.{all_used, newest_noted, opening, refusing, reserved_by}
use Rattle.area_tables.specs.Standing.{AreRows, Reports, need_of, open_in}
use Rattle.area_tables.specs.declared.tables.AreaTable.{AreaTable}
use Rattle.area_tables.proofs.Going.{declared_more, declared_stays, go_by_opening, go_by_staying, GoTo, opened_more, opened_stays, refused_more, used_goes, used_same}
use Rattle.area_tables.proofs.Noting.{all_noted, most_used, row_changed, rows_as, rows_changed, with_used}
use Rattle.area_tables.proofs.OpenLists.{abbrev_area, count, count_stays, open_length, open_more, reserved_is, used_there}

-- ---- what is in use

module _ (s t : State) (grows : (a : ℕ) → used_bytes s.objects a ≤ used_bytes t.objects a) (scope : ℕ)
    (go : GoTo scope s.areas t.areas)
    (same : (m : ℕ) (y : MemoryArea) → slice_get t.areas m ≡ Some y → y.is_open ≡ false →
    used_bytes t.objects m ≡ used_bytes s.objects m) where
  pub in_use : used_of (used t) scope 0 t.areas ≡ max (used_of (used s) scope 0 s.areas) (most_used scope (open_in t))
  in_use =
      used_same scope (used t) (used_bytes t.objects) (used_there t) 0 t.areas
      ∙ (used_goes scope t.objects (used_bytes s.objects) grows 0 s.areas t.areas go
      (λ i m y e there shut.
      (let k : i ≡ m = omega (arith, e) in
      same m y (ap (λ (n : ℕ). slice_get t.areas n) (sym k) ∙ there) shut))
      ∙ ap (λ (n : ℕ). max n (most_used scope (open_in t)))
      (sym (used_same scope (used s) (used_bytes s.objects) (used_there s) 0 s.areas)))

abbrev Used : State → State → ℕ → Type 0
Used s t scope =
    used_of (used t) scope 0 t.areas ≡ max (used_of (used s) scope 0 s.areas) (most_used scope (open_in t))

-- ---- rows

row : ℕ → ℕ → ℕ → ℕ → NeedRow
row opened declared used refused =
    record { opened = opened; declared = declared; used = used; refused = refused }

same_row : (refused a b c x y z : ℕ) → a ≡ x → b ≡ y → c ≡ z → row a b c refused ≡ row x y z refused
same_row refused a b c x y z p q r =
    ap (λ (n : ℕ). row n b c refused) p
    ∙ (ap (λ (n : ℕ). row x n c refused) q ∙ ap (λ (n : ℕ). row x y n refused) r)

-- ---- nothing is opened

module _ (s t : State) (refusals : List Refusal) (stays : AreasStay s.areas t.areas) where
  row_stays : (scope : ℕ) → Used s t scope →
      with_used (open_in t) (need_of s refusals) scope ≡ need_of t refusals scope
  unfolding row
  row_stays scope e =
      same_row (refused_of scope refusals) (opened_of scope s.areas) (declared_of scope s.areas)
      (max (used_of (used s) scope 0 s.areas) (most_used scope (open_in t))) (opened_of scope t.areas)
      (declared_of scope t.areas) (used_of (used t) scope 0 t.areas)
      (sym (opened_stays scope s.areas t.areas stays)) (sym (declared_stays scope s.areas t.areas stays)) (sym e)

  as_few_open : length (open_in t) ≤ length (open_in s)
  as_few_open =
      let a = open_length t.objects 0 t.areas in
      let b = open_length s.objects 0 s.areas in
      let c = count_stays s.areas t.areas stays in
      omega (arith, a, b, c)

-- nothing newer is noted
pub none_newer : (areas : List Area) (before : ℕ) (rows : List NeedRow) → length areas ≤ before →
    newest_noted areas before rows ≡ rows
unfolding newest_noted
none_newer areas before rows l =
    let t : nat_lt before (length areas) ≡ false = grind (arith, nat_tests) in
    ap (λ (b : Bool). if b then (elim (slice_get areas (length areas - 1)) as (λ o. List NeedRow) [
      | None ↦ rows
      | Some a ↦ changed (opening a.bytes) a.name rows
    ]) else rows) t

-- the place of the newest area
module _ (areas : List Area) (before count : ℕ) (rows : List NeedRow) (long : count ≡ length areas)
    (less : before < count) where
  abbrev noted_of : Option Area → List NeedRow
  noted_of found =
      elim found as (λ o. List NeedRow) [ None ↦ rows | Some a ↦ changed (opening a.bytes) a.name rows ]

  newest_by : (found : Option Area) → found ≡ slice_get areas (count - 1) →
      newest_noted areas before rows ≡ noted_of found
  unfolding newest_noted
  newest_by found there =
      let t : nat_lt before (length areas) ≡ true = grind (arith, nat_tests) in
      ap (λ (b : Bool). if b then noted_of (slice_get areas (length areas - 1)) else rows) t
      ∙ ap noted_of (ap (λ (n : ℕ). slice_get areas (n - 1)) (sym long) ∙ sym there)

  pub newest_some : (a : Area) → Some a ≡ slice_get areas (count - 1) →
      newest_noted areas before rows ≡ changed (opening a.bytes) a.name rows
  newest_some a there = newest_by (Some a) there

  pub newest_none : None ≡ slice_get areas (count - 1) → newest_noted areas before rows ≡ rows
  newest_none there = newest_by None there

-- ---- one area is opened

one_newer : (areas : List Area) (a : Area) (rows : List NeedRow) →
    newest_noted (areas ++ a ∷ []) (length areas) rows ≡ changed (opening a.bytes) a.name rows
unfolding newest_noted
one_newer areas a rows =
    let long : length (areas ++ a ∷ []) ≡ length areas + 1 = length-append areas (a ∷ []) in
    let last : length (areas ++ a ∷ []) - 1 ≡ length areas = omega (arith, long) in
    let t : nat_lt (length areas) (length (areas ++ a ∷ [])) ≡ true = grind (arith, nat_tests) in
    ap (λ (b : Bool). if b then (elim (slice_get (areas ++ a ∷ []) (length (areas ++ a ∷ []) - 1)) as (λ o. List NeedRow) [
      | None ↦ rows
      | Some a ↦ changed (opening a.bytes) a.name rows
    ]) else rows) t
    ∙ ap (λ (o : Option Area). elim o as (λ o. List NeedRow) [
      | None ↦ rows
      | Some a ↦ changed (opening a.bytes) a.name rows
    ]) (ap (λ (n : ℕ). slice_get (areas ++ a ∷ []) n) last ∙ get_last areas a)

module _ (s t : State) (refusals : List Refusal) (area : MemoryArea) (more : t.areas ≡ s.areas ++ area ∷ []) where
  row_opens : (scope : ℕ) → Used s t scope →
      row_changed (opening area.bytes) area.scope (with_used (open_in t) (need_of s refusals)) scope
      ≡ need_of t refusals scope
  unfolding row
  row_opens scope e = go (scope == area.scope) (area.scope == scope) refl refl
    where
      o : (c : Bool) → (area.scope == scope) ≡ c →
          opened_of scope t.areas ≡ (if c then opened_of scope s.areas + 1 else opened_of scope s.areas)
      o c k =
          ap (λ (xs : List MemoryArea). opened_of scope xs) more
          ∙ (opened_more scope s.areas area
          ∙ ap (λ (b : Bool). if b then opened_of scope s.areas + 1 else opened_of scope s.areas) k)

      d : (c : Bool) → (area.scope == scope) ≡ c → declared_of scope t.areas
          ≡ (if c then max (declared_of scope s.areas) area.bytes else declared_of scope s.areas)
      d c k =
          ap (λ (xs : List MemoryArea). declared_of scope xs) more
          ∙ (declared_more scope s.areas area
          ∙ ap (λ (b : Bool). if b then max (declared_of scope s.areas) area.bytes else declared_of scope s.areas) k)

      go : (b c : Bool) → (scope == area.scope) ≡ b → (area.scope == scope) ≡ c →
          (if b then opening area.bytes (with_used (open_in t) (need_of s refusals) scope)
          else with_used (open_in t) (need_of s refusals) scope)
          ≡ need_of t refusals scope
      go true true f k =
          same_row (refused_of scope refusals) (opened_of scope s.areas + 1)
          (max (declared_of scope s.areas) area.bytes)
          (max (used_of (used s) scope 0 s.areas) (most_used scope (open_in t))) (opened_of scope t.areas)
          (declared_of scope t.areas) (used_of (used t) scope 0 t.areas) (sym (o true k)) (sym (d true k)) (sym e)
      go false false f k =
          same_row (refused_of scope refusals) (opened_of scope s.areas) (declared_of scope s.areas)
          (max (used_of (used s) scope 0 s.areas) (most_used scope (open_in t))) (opened_of scope t.areas)
          (declared_of scope t.areas) (used_of (used t) scope 0 t.areas) (sym (o false k)) (sym (d false k)) (sym e)
      go true false f k = absurd (grind (arith, nat_tests))
      go false true f k = absurd (grind (arith, nat_tests))

-- ---- the table

module _ (count : ℕ) (s t : State) (needs : Needs) (old new : AreaTable) (reports : Reports count s needs old)
    (rows : new.rows.items ≡ newest_noted (open_in t) old.open_count (all_used (open_in t) old.rows.items))
    (counted : new.open_count ≡ length (open_in t))
    (most : new.reserved ≡ max old.reserved (reserved_by (open_in t))) where
  abbrev seen : List NeedRow
  seen = all_used (open_in t) old.rows.items

  seen_rows : AreRows count (with_used (open_in t) (need_of s needs.refusals)) seen
  seen_rows = all_noted (open_in t) count (need_of s needs.refusals) old.rows.items reports.rows

  reported : AreRows count (need_of t needs.refusals) new.rows.items →
      Reports count t (record needs { reserved = max needs.reserved (reserved t) }) new
  reported r = record {
    rows = r;
    open_count = counted;
    reserved = most ∙ (ap (λ (n : ℕ). max n (reserved_by (open_in t))) reports.reserved
        ∙ ap (λ (n : ℕ). max needs.reserved n) (sym (reserved_is t)));
  }

  when_staying : AreasStay s.areas t.areas → ((scope : ℕ) → Used s t scope) →
      Reports count t (record needs { reserved = max needs.reserved (reserved t) }) new
  when_staying stays filled =
      reported (subst (λ (xs : List NeedRow). AreRows count (need_of t needs.refusals) xs)
      (sym (rows ∙ none_newer (open_in t) old.open_count seen
      (let few = as_few_open s t needs.refusals stays in
      let was = reports.open_count in
      omega (arith, few, was))))
      (rows_as count _ _ seen (λ scope. row_stays s t needs.refusals stays scope (filled scope)) seen_rows))

  when_opening : (area : MemoryArea) → area.is_open ≡ true → t.areas ≡ s.areas ++ area ∷ [] →
      ((scope : ℕ) → Used s t scope) → Reports count t (record needs { reserved = max needs.reserved (reserved t) }) new
  when_opening area is_open more filled =
      reported (subst (λ (xs : List NeedRow). AreRows count (need_of t needs.refusals) xs) (sym (rows ∙ noted))
      (rows_as count _ _ (changed (opening area.bytes) area.scope seen)
      (λ scope. row_opens s t needs.refusals area more scope (filled scope))
      (rows_changed count _ seen (opening area.bytes) area.scope seen_rows)))
    where
      listed : open_in t ≡ open_areas t.objects 0 s.areas ++ abbrev_area t.objects (0 + length s.areas) area ∷ []
      listed =
          ap (λ (xs : List MemoryArea). open_areas t.objects 0 xs) more
          ∙ open_more t.objects 0 s.areas area is_open

      as_before : old.open_count ≡ length (open_areas t.objects 0 s.areas)
      as_before =
          reports.open_count ∙ (open_length s.objects 0 s.areas ∙ sym (open_length t.objects 0 s.areas))

      noted : newest_noted (open_in t) old.open_count seen ≡ changed (opening area.bytes) area.scope seen
      noted =
          ap (λ (areas : List Area). newest_noted areas old.open_count seen) listed
          ∙ (ap (λ (n : ℕ). newest_noted
          (open_areas t.objects 0 s.areas ++ abbrev_area t.objects (0 + length s.areas) area ∷ []) n seen) as_before
          ∙ one_newer (open_areas t.objects 0 s.areas) (abbrev_area t.objects (0 + length s.areas) area) seen)

  pub reports_on : GoesOn s t → Reports count t (record needs { reserved = max needs.reserved (reserved t) }) new
  reports_on (still g) =
      when_staying g.areas (λ scope. in_use s t (λ a. (let e = g.used a in omega (arith, e))) scope
      (go_by_staying scope s.areas t.areas g.areas) (λ m y there shut. g.used m))
  reports_on (makes area is_open e grows others) =
      when_staying stays (λ scope. in_use s t all scope (go_by_staying scope s.areas t.areas stays) same)
    where
      stays : AreasStay s.areas t.areas
      stays = subst (λ (xs : List MemoryArea). AreasStay s.areas xs) (sym e) (stay s.areas)

      all : (a : ℕ) → used_bytes s.objects a ≤ used_bytes t.objects a
      all a = of_both (same_or a area)
        where
          of_both : (a ≡ area) ⊎ (a ≡ area → ⊥) → used_bytes s.objects a ≤ used_bytes t.objects a
          of_both (inl k) =
              subst (λ (n : ℕ). used_bytes s.objects n ≤ used_bytes t.objects n) (sym k) grows
          of_both (inr d) = let h = others a d in omega (arith, h)

      same : (m : ℕ) (y : MemoryArea) → slice_get t.areas m ≡ Some y → y.is_open ≡ false →
          used_bytes t.objects m ≡ used_bytes s.objects m
      same m y there shut = others m (λ k. opposite m y there shut k)
        where
          opposite : (m : ℕ) (y : MemoryArea) → slice_get t.areas m ≡ Some y → y.is_open ≡ false → m ≡ area → ⊥
          opposite m y there shut k =
              let found : slice_get s.areas area ≡ Some y =
              ap (λ (xs : List MemoryArea). slice_get xs area) (sym e)
              ∙ (ap (λ (n : ℕ). slice_get t.areas n) (sym k) ∙ there) in
              let is : y.is_open ≡ true =
              ap (λ (o : Option MemoryArea). holds o (λ x. x.is_open)) (sym found) ∙ is_open in
              cc (is, shut)
  reports_on (opens area is_open e same) =
      when_opening area is_open e (λ scope.
      in_use s t (λ a. (let h = same a in omega (arith, h))) scope
      (subst (λ (xs : List MemoryArea). GoTo scope s.areas xs) (sym e) (go_by_opening scope s.areas area is_open))
      (λ m y there shut. same m))

-- ---- at first, and a refusal

abbrev no_row : NeedRow
no_row = record { opened = 0; declared = 0; used = 0; refused = 0 }

get_replicate : (n k : ℕ) (x : NeedRow) → k < n → slice_get (replicate n x) k ≡ Some x
get_replicate zero k x l = absurd (omega (arith, l))
get_replicate (suc n) zero x l = refl
get_replicate (suc n) (suc k) x l = get_replicate n k x (omega (arith, l))

pub reports_first : (count : ℕ) (s : State) (table : AreaTable) → s.areas ≡ [] →
    table.rows.items ≡ replicate count no_row → table.open_count ≡ 0 → table.reserved ≡ 0 → Reports count s no_needs table
unfolding opened_of declared_of used_of refused_of row open_areas
reports_first count s table none rows counted most = record {
  rows = record {
    long = ap (λ (xs : List NeedRow). length xs) rows ∙ length-replicate count no_row;
    each = λ scope l. ap (λ (xs : List NeedRow). slice_get xs scope) rows
        ∙ (get_replicate count scope no_row l ∙ ap (λ (r : NeedRow). Some r) (first scope));
  };
  open_count = counted ∙ sym (ap (λ (xs : List MemoryArea). length (open_areas s.objects 0 xs)) none);
  reserved = most;
}
  where
    first : (scope : ℕ) → no_row ≡ need_of s [] scope
    first scope =
        same_row 0 0 0 0 (opened_of scope s.areas) (declared_of scope s.areas) (used_of (used s) scope 0 s.areas)
        (sym (ap (λ (xs : List MemoryArea). opened_of scope xs) none))
        (sym (ap (λ (xs : List MemoryArea). declared_of scope xs) none))
        (sym (ap (λ (xs : List MemoryArea). used_of (used s) scope 0 xs) none))

abbrev with_refused : State → ℕ → ℕ → NeedRow
with_refused s scope n =
    record {
      opened = opened_of scope s.areas;
      declared = declared_of scope s.areas;
      used = used_of (used s) scope 0 s.areas;
      refused = n;
    }

row_refused : (s : State) (rs : List Refusal) (r : Refusal) (scope : ℕ) →
    row_changed (refusing r.bytes) r.scope (need_of s rs) scope ≡ need_of s (rs ++ r ∷ []) scope
row_refused s rs r scope = go (scope == r.scope) (r.scope == scope) refl refl
  where
    go : (b c : Bool) → (scope == r.scope) ≡ b → (r.scope == scope) ≡ c →
        (if b then refusing r.bytes (need_of s rs scope) else need_of s rs scope) ≡ need_of s (rs ++ r ∷ []) scope
    go true true f k =
        ap (with_refused s scope) (sym (refused_more scope rs r
        ∙ ap (λ (b : Bool). if b then max (refused_of scope rs) r.bytes else refused_of scope rs) k))
    go false false f k =
        ap (with_refused s scope) (sym (refused_more scope rs r
        ∙ ap (λ (b : Bool). if b then max (refused_of scope rs) r.bytes else refused_of scope rs) k))
    go true false f k = absurd (grind (arith, nat_tests))
    go false true f k = absurd (grind (arith, nat_tests))

pub reports_refusal : (count : ℕ) (s : State) (needs : Needs) (old new : AreaTable) (r : Refusal) →
    Reports count s needs old → new.rows.items ≡ changed (refusing r.bytes) r.scope old.rows.items →
    new.open_count ≡ old.open_count → new.reserved ≡ old.reserved → Reports count s (with_refusal (Some r) needs) new
unfolding with_refusal
reports_refusal count s needs old new r reports rows counted most = record {
  rows = subst (λ (xs : List NeedRow). AreRows count (need_of s (needs.refusals ++ r ∷ [])) xs) (sym rows)
      (rows_as count _ _ (changed (refusing r.bytes) r.scope old.rows.items) (row_refused s needs.refusals r)
      (rows_changed count (need_of s needs.refusals) old.rows.items (refusing r.bytes) r.scope reports.rows));
  open_count = counted ∙ reports.open_count;
  reserved = most ∙ reports.reserved;
}

-- ---- a look at a memory

pub look_reports : (count : ℕ) (s t : State) (needs : Needs) (old new : AreaTable) (objects : List Object)
    (areas : List MemoryArea) → Reports count s needs old → GoesOn s t → areas ≡ t.areas → objects ≡ t.objects →
    new.rows.items
    ≡ newest_noted (open_areas objects 0 areas) old.open_count (all_used (open_areas objects 0 areas) old.rows.items) →
    new.open_count ≡ length (open_areas objects 0 areas) →
    new.reserved ≡ max old.reserved (reserved_by (open_areas objects 0 areas)) →
    Reports count t (record needs { reserved = max needs.reserved (reserved t) }) new
look_reports count s t needs old new objects areas reports goes is_areas is_objects rows counted most =
    let e : open_areas objects 0 areas ≡ open_in t =
    ap (λ (xs : List MemoryArea). open_areas objects 0 xs) is_areas
    ∙ ap (λ (os : List Object). open_areas os 0 t.areas) is_objects in
    reports_on count s t needs old new reports
    (rows ∙ ap (λ (found : List Area). newest_noted found old.open_count (all_used found old.rows.items)) e)
    (counted ∙ ap (λ (found : List Area). length found) e)
    (most ∙ ap (λ (found : List Area). max old.reserved (reserved_by found)) e) goes
