-- The lines of one unit: what a line asks besides what it tells, and what it leaves of the choice that is owed.
use Rattle.std.proofs.Common.{◌≡◌, ℕ, ◌+◌, ◌<◌, ◌==◌, nat_lt, Bool, true, false, not, ◌&&◌, ◌||◌, ◌⊎◌, inl, inr, Option, Some, None, if◌then◌else◌, refl, sym, ap, ◌∙◌, subst, arith}
use Rattle.std.specs.Prelude.{nat_le}
use Rattle.std.proofs.lemmas.Bool.Decides.{nat_tests}
use Rattle.scj_model.specs.declared.events.Event.{Event}
use Rattle.scj_model.specs.Plan.{Plan}
use Rattle.scj_model.specs.TraceText.{unit_of}
use Rattle.trace_audit.specs.declared.lines.Entry.{Entry}
use Rattle.trace_audit.specs.declared.lines.Entry.TheVariants.{Mission, Register, Exec, Arrive, Lost, Miss, Run, Idle, Prio, Print, Fault, End, Terminate, Drop, Cleanup, Done, Halted, Stopped}
use Rattle.trace_audit.specs.Passing.{begun, entry_done, is_above, entry_passes, is_first, is_from, is_in_order, is_within, misses_no_choice, replayed, rest_done}
use Rattle.trace_audit.specs.Printed.{entry_reported, line_reported}
use Rattle.trace_audit.specs.Replay.{Replay, differs, is_executing}

-- a line of this unit may come: no last line stood, the unit isn't below that of the line before, and no choice was
-- missed
pub record Live (plan : Plan) (unit : ℕ) (r : Replay) : Type 0 where
  pub goes_on : r.is_over ≡ false
  pub in_order : is_in_order r unit ≡ true
  pub ready : misses_no_choice r unit ≡ true
  pub within : unit < plan.units

-- a line of this unit stood, and what is owed is what was owed when the unit began; a choice that stood stands
pub record Opened (unit : ℕ) (r after : Replay) : Type 0 where
  pub is_unit : after.unit ≡ Some unit
  pub owes : after.owes_choice ≡ (begun r unit).owes_choice
  pub has : (begun r unit).has_choice ≡ true → after.has_choice ≡ true

-- ---- what a line leaves

pub record RestKeeps (r after : Replay) : Type 0 where
  pub is_unit : after.unit ≡ r.unit
  pub owes : after.owes_choice ≡ r.owes_choice
  pub has : r.has_choice ≡ true → after.has_choice ≡ true

keeps_same : (r after : Replay) → after.unit ≡ r.unit → after.owes_choice ≡ r.owes_choice → after.has_choice ≡ r.has_choice →
    RestKeeps r after
keeps_same r after u o h = record { is_unit = u; owes = o; has = λ e. h ∙ e }

pub rest_keeps : (r : Replay) (unit : ℕ) (e : Entry) → RestKeeps r (entry_done r unit e)
unfolding rest_done
rest_keeps r unit Mission = keeps_same r _ refl refl refl
rest_keeps r unit (Register h p) = keeps_same r _ refl refl refl
rest_keeps r unit Exec = keeps_same r _ refl refl refl
rest_keeps r unit (Arrive h n) = keeps_same r _ refl refl refl
rest_keeps r unit Lost = keeps_same r _ refl refl refl
rest_keeps r unit (Miss name) = keeps_same r _ refl refl refl
rest_keeps r unit (Run h n) = record { is_unit = refl; owes = refl; has = λ e. refl }
rest_keeps r unit Idle = record { is_unit = refl; owes = refl; has = λ e. refl }
rest_keeps r unit (Prio h p) = keeps_same r _ refl refl refl
rest_keeps r unit Print = keeps_same r _ refl refl refl
rest_keeps r unit Fault = keeps_same r _ refl refl refl
rest_keeps r unit (End h n) = keeps_same r _ refl refl refl
rest_keeps r unit Terminate = keeps_same r _ refl refl refl
rest_keeps r unit (Drop h n) = keeps_same r _ refl refl refl
rest_keeps r unit Cleanup = keeps_same r _ refl refl refl
rest_keeps r unit Done = keeps_same r _ refl refl refl
rest_keeps r unit Halted = keeps_same r _ refl refl refl
rest_keeps r unit Stopped = keeps_same r _ refl refl refl

-- ---- the unit of the lines

lt_same : (n : ℕ) → nat_lt n n ≡ false
lt_same n = grind (arith, nat_tests)

le_same : (n : ℕ) → nat_le n n ≡ true
le_same n = grind (arith, nat_tests)

not_lt : (u v : ℕ) → nat_le u v ≡ true → nat_lt u v ≡ false → u ≡ v
not_lt u v h k = grind (arith, nat_tests, h, k)

-- what misses_no_choice asks, by the unit of the line before
unfoldable pub asks : Replay → ℕ → Option ℕ → Bool
asks r unit o =
    elim o [
      | None ↦ true
      | Some u ↦
          if is_executing r && nat_lt u unit
          then (not r.owes_choice || r.has_choice) && (not (differs r) || (unit == u + 1))
          else true
    ]

asks_same : (r : Replay) (unit : ℕ) → asks r unit (Some unit) ≡ true
unfolding asks
asks_same r unit = go (nat_lt unit unit) (lt_same unit) (is_executing r)
  where
    go : (b : Bool) → b ≡ false → (x : Bool) →
        (if x && b then (not r.owes_choice || r.has_choice) && (not (differs r) || (unit == unit + 1)) else true) ≡ true
    go true e x = absurd (cc (e))
    go false e true = refl
    go false e false = refl

pub asks_is : (r : Replay) (unit : ℕ) → misses_no_choice r unit ≡ asks r unit r.unit
unfolding asks
asks_is r unit = refl

-- in a unit that has a line, another one may come
pub opened_order : (r : Replay) (unit : ℕ) → r.unit ≡ Some unit → is_in_order r unit ≡ true
opened_order r unit e = ap (λ (o : Option ℕ). is_from o unit) e ∙ le_same unit

pub opened_ready : (r : Replay) (unit : ℕ) → r.unit ≡ Some unit → misses_no_choice r unit ≡ true
opened_ready r unit e = asks_is r unit ∙ (ap (asks r unit) e ∙ asks_same r unit)

-- the unit begins with its first line alone
unit_by : (r : Replay) (unit : ℕ) (o : Option ℕ) → r.unit ≡ o → is_from r.unit unit ≡ true → (b : Bool) →
    is_first r unit ≡ b → (begun r unit).unit ≡ Some unit
unit_by r unit o e from true f =
    ap (λ (b : Bool). (if b
    then record r { unit = Some unit; owes_choice = is_executing r && differs r; has_choice = false }
    else r).unit) f
unit_by r unit None e from false f = absurd (cc (f, ap (λ (o : Option ℕ). is_above o unit) e))
unit_by r unit (Some u) e from_u false f =
    ap (λ (b : Bool). (if b
    then record r { unit = Some unit; owes_choice = is_executing r && differs r; has_choice = false }
    else r).unit) f
    ∙ (e ∙ ap (λ (n : ℕ). Some n) (not_lt u unit (sym (ap (λ (o : Option ℕ). is_from o unit) e) ∙ from_u) (sym (ap (λ (o : Option ℕ). is_above o unit) e) ∙ f)))

pub begun_unit : (r : Replay) (unit : ℕ) → is_in_order r unit ≡ true → (begun r unit).unit ≡ Some unit
begun_unit r unit order = unit_by r unit r.unit refl order (is_first r unit) refl

pub begun_same : (r : Replay) (unit : ℕ) → r.unit ≡ Some unit → begun r unit ≡ r
begun_same r unit e =
    ap (λ (b : Bool). if b
    then record r { unit = Some unit; owes_choice = is_executing r && differs r; has_choice = false }
    else r) (ap (λ (o : Option ℕ). is_above o unit) e ∙ lt_same unit)

-- ---- a line

within_by : (plan : Plan) (unit : ℕ) (entry : Entry) → (entry ≡ Stopped → ⊥) → unit < plan.units →
    is_within plan (record { unit = unit; entry = entry }) ≡ true
within_by plan unit Mission n l = grind (arith, nat_tests, l)
within_by plan unit (Register h p) n l = grind (arith, nat_tests, l)
within_by plan unit Exec n l = grind (arith, nat_tests, l)
within_by plan unit (Arrive h k) n l = grind (arith, nat_tests, l)
within_by plan unit Lost n l = grind (arith, nat_tests, l)
within_by plan unit (Miss name) n l = grind (arith, nat_tests, l)
within_by plan unit (Run h k) n l = grind (arith, nat_tests, l)
within_by plan unit Idle n l = grind (arith, nat_tests, l)
within_by plan unit (Prio h p) n l = grind (arith, nat_tests, l)
within_by plan unit Print n l = grind (arith, nat_tests, l)
within_by plan unit Fault n l = grind (arith, nat_tests, l)
within_by plan unit (End h k) n l = grind (arith, nat_tests, l)
within_by plan unit Terminate n l = grind (arith, nat_tests, l)
within_by plan unit (Drop h k) n l = grind (arith, nat_tests, l)
within_by plan unit Cleanup n l = grind (arith, nat_tests, l)
within_by plan unit Done n l = grind (arith, nat_tests, l)
within_by plan unit Halted n l = grind (arith, nat_tests, l)
within_by plan unit Stopped n l = absurd (n refl)

pub five : (a b c d e : Bool) → a ≡ false → b ≡ true → c ≡ true → d ≡ true → e ≡ true →
    (not a && (b && (c && (d && e)))) ≡ true
five true b c d e p q r s t = absurd (cc (p))
five false true true true true p q r s t = refl
five false false c d e p q r s t = absurd (cc (q))
five false true false d e p q r s t = absurd (cc (r))
five false true true false e p q r s t = absurd (cc (s))
five false true true true false p q r s t = absurd (cc (t))

-- the replay behind a line of the unit
abbrev pub behind : Replay → Event → Replay
behind r e = entry_done (begun r (unit_of e)) (unit_of e) (entry_reported e)

pub line_passes : (plan : Plan) (unit : ℕ) (r : Replay) (e : Event) → Live plan unit r → unit_of e ≡ unit →
    (entry_reported e ≡ Stopped → ⊥) → entry_passes plan r unit (entry_reported e) ≡ true →
    replayed plan r (line_reported e) ≡ Some (entry_done (begun r unit) unit (entry_reported e))
unfolding replayed
line_passes plan unit r e live at other passes_so =
    subst (λ (u : ℕ). replayed plan r (record { unit = u; entry = entry_reported e })
    ≡ Some (entry_done (begun r unit) unit (entry_reported e))) (sym at)
    (ap (λ (b : Bool). if b then Some (entry_done (begun r unit) unit (entry_reported e)) else None)
    (five r.is_over (is_in_order r unit) _ (misses_no_choice r unit) _ live.goes_on live.in_order
    (within_by plan unit (entry_reported e) other live.within) live.ready passes_so))

pub line_opens : (unit : ℕ) (r : Replay) (e : Entry) → is_in_order r unit ≡ true →
    Opened unit r (entry_done (begun r unit) unit e)
line_opens unit r e order =
    let k : RestKeeps (begun r unit) (entry_done (begun r unit) unit e) = rest_keeps (begun r unit) unit e in
    record { is_unit = k.is_unit ∙ begun_unit r unit order; owes = k.owes; has = k.has }

-- ---- from line to line

-- either no line came, or some did
abbrev pub Kept : ℕ → Replay → Replay → Type 0
Kept unit r after = (r ≡ after) ⊎ Opened unit r after

opened_then : (unit : ℕ) (r m t : Replay) → Opened unit r m → Opened unit m t → Opened unit r t
opened_then unit r m t h k =
    let same : begun m unit ≡ m = begun_same m unit h.is_unit in
    record {
      is_unit = k.is_unit;
      owes = k.owes ∙ (ap (λ (x : Replay). x.owes_choice) same ∙ h.owes);
      has = λ e. k.has (ap (λ (x : Replay). x.has_choice) same ∙ h.has e);
    }

pub kept_then : (unit : ℕ) (r m t : Replay) → Kept unit r m → Kept unit m t → Kept unit r t
kept_then unit r m t (inl e) k = subst (λ (x : Replay). Kept unit x t) (sym e) k
kept_then unit r m t (inr h) (inl e) = inr (subst (λ (x : Replay). Opened unit r x) e h)
kept_then unit r m t (inr h) (inr k) = inr (opened_then unit r m t h k)

pub kept_order : (plan : Plan) (unit : ℕ) (r after : Replay) → Live plan unit r → Kept unit r after →
    is_in_order after unit ≡ true
kept_order plan unit r after live (inl e) = subst (λ (x : Replay). is_in_order x unit ≡ true) e live.in_order
kept_order plan unit r after live (inr h) = opened_order after unit h.is_unit

pub kept_ready : (plan : Plan) (unit : ℕ) (r after : Replay) → Live plan unit r → Kept unit r after →
    misses_no_choice after unit ≡ true
kept_ready plan unit r after live (inl e) = subst (λ (x : Replay). misses_no_choice x unit ≡ true) e live.ready
kept_ready plan unit r after live (inr h) = opened_ready after unit h.is_unit

pub live_kept : (plan : Plan) (unit : ℕ) (r after : Replay) → Live plan unit r → Kept unit r after →
    after.is_over ≡ false → Live plan unit after
live_kept plan unit r after live kept over =
    record {
      goes_on = over;
      in_order = kept_order plan unit r after live kept;
      ready = kept_ready plan unit r after live kept;
      within = live.within;
    }
