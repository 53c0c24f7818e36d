-- The handlers and the fires that are due in a unit; and the line of a fire without effect.
use Rattle.std.proofs.Common.{◌≡◌, ℕ, zero, suc, ◌+◌, Bool, true, false, ◌&&◌, ◌||◌, List, [], ◌∷◌, ◌++◌, inr, Option, Some, if◌then◌else◌, refl, ap, ◌∙◌, subst, arith}
use Rattle.std.specs.Prelude.{slice_get}
use Rattle.std.specs.List.{list_any}
use Rattle.std.specs.Str.{bytes_eq}
use Rattle.std.proofs.lemmas.Bool.{or_right}
use Rattle.scj_model.specs.declared.events.Event.TheVariants as event
use Rattle.scj_model.specs.declared.handlers.HandlerRow.{HandlerRow}
use Rattle.scj_model.specs.declared.plans.Fire.{Fire}
use Rattle.scj_model.specs.Plan.{Plan}
use Rattle.scj_model.specs.TraceText.{unit_of}
use Rattle.scj_model.specs.State.{State}
use Rattle.scj_model.specs.Apply.{takes_releases}
use Rattle.scj_model.specs.Arrivals.{comes_in, due_handlers, fires_due, handlers_due, is_due, numbers_where}
use Rattle.trace_audit.specs.declared.lines.Entry.TheVariants.{Miss}
use Rattle.trace_audit.specs.Passing.{begun, entry_done, entry_passes, is_fire, rest_done, table_done}
use Rattle.trace_audit.specs.Printed.{entry_reported}
use Rattle.trace_audit.specs.Replay.{Replay}
use Rattle.audited_runs.proofs.Reported.{reported_one}
use Rattle.audited_runs.proofs.InUnit.{Live, Opened, line_opens, line_passes}
use Rattle.accepted_laws.proofs.Tools.{some_inj}
use Rattle.priority_laws.proofs.AreaLists.{same_test}
use Rattle.audited_runs.proofs.Executing.{SameCore, core_begun}
use Rattle.audited_runs.proofs.Acting.{Silent}
use Rattle.audited_runs.proofs.Arriving.{HasRow}

-- ---- numbers of those of which a test holds

abbrev pub AllAre : (ℕ → Type 0) → List ℕ → Type 0
AllAre P [] = Unit {0}
AllAre P (n ∷ ns) = P n × AllAre P ns

pub all_where : {A : Type 0} (P : ℕ → Type 0) (test : A → Bool) (number : ℕ) (xs : List A) →
    ((i : ℕ) (x : A) → slice_get xs i ≡ Some x → test x ≡ true → P (number + i)) → AllAre P (numbers_where test number xs)
unfolding numbers_where
all_where P test number [] h = tt
all_where {A} P test number (x ∷ xs) h =
    go (test x) refl
    (all_where P test (number + 1) xs
    (λ i y there t. (let e : number + suc i ≡ number + 1 + i = omega arith in
    subst P e (h (suc i) y there t))))
  where
    go : (b : Bool) → test x ≡ b → AllAre P (numbers_where test (number + 1) xs) →
        AllAre P ((if b then number ∷ [] else []) ++ numbers_where test (number + 1) xs)
    go true e more = (let f : number + 0 ≡ number = omega arith in subst P f (h 0 x refl e), more)
    go false e more = more

pub row_at_number : (registry : List HandlerRow) (i : ℕ) (row : HandlerRow) → slice_get registry i ≡ Some row →
    HasRow registry (1 + i)
row_at_number registry i row there = record { k = i; row = row; is_next = omega arith; there = there }

pub due_have_rows : (s : State) → AllAre (HasRow s.registry) (due_handlers s)
unfolding due_handlers handlers_due
due_have_rows s = go (takes_releases s)
  where
    go : (b : Bool) → AllAre (HasRow s.registry)
        (if b then numbers_where (is_due s.origin s.unit) 1 s.registry else [])
    go true = all_where (HasRow s.registry) (is_due s.origin s.unit) 1 s.registry
        (λ i row there t. row_at_number s.registry i row there)
    go false = tt

-- the fire at a place of the plan comes
pub record Comes (fires : List Fire) (origin : Option ℕ) (unit index : ℕ) : Type 0 where
  pub fire : Fire
  pub there : slice_get fires index ≡ Some fire
  pub comes : comes_in origin unit fire ≡ true

pub due_come : (fires : List Fire) (origin : Option ℕ) (unit : ℕ) → AllAre (Comes fires origin unit) (fires_due origin unit fires)
unfolding fires_due
due_come fires origin unit =
    all_where (Comes fires origin unit) (comes_in origin unit) 0 fires
    (λ i fire there t. (let e : i ≡ 0 + i = omega arith in
    subst (Comes fires origin unit) e (record { fire = fire; there = there; comes = t })))

-- ---- `miss`

bytes_same : (bytes : List ℕ) → bytes_eq bytes bytes ≡ true
bytes_same [] = refl
bytes_same (b ∷ bytes) = ap (λ c. c && bytes_eq bytes bytes) (same_test b) ∙ bytes_same bytes

any_at : {A : Type 0} (test : A → Bool) (xs : List A) (i : ℕ) (x : A) → slice_get xs i ≡ Some x → test x ≡ true →
    list_any test xs ≡ true
any_at test [] i x there t = absurd (cc (there))
any_at test (y ∷ xs) zero x there t = ap (λ (b : Bool). b || list_any test xs) (ap test (some_inj y x there) ∙ t)
any_at test (y ∷ xs) (suc i) x there t = or_right (test y) (list_any test xs) (any_at test xs i x there t)

miss_passes : (plan : Plan) (r : Replay) (origin : Option ℕ) (unit index : ℕ) → r.executes_since ≡ origin →
    (c : Comes plan.fires origin unit index) → entry_passes plan r unit (Miss c.fire.handler) ≡ true
unfolding entry_passes
miss_passes plan r origin unit index since c =
    any_at (is_fire r.executes_since unit c.fire.handler) plan.fires index c.fire c.there
    (ap (λ o. comes_in o unit c.fire && bytes_eq c.fire.handler c.fire.handler) since
    ∙ (ap (λ b. b && bytes_eq c.fire.handler c.fire.handler) c.comes ∙ bytes_same c.fire.handler))

miss_done : (b : Replay) (unit : ℕ) (name : List ℕ) → entry_done b unit (Miss name) ≡ b
unfolding rest_done table_done
miss_done b unit name = refl

pub miss_reported : (plan : Plan) (r : Replay) (origin : Option ℕ) (unit index : ℕ) → r.executes_since ≡ origin →
    (c : Comes plan.fires origin unit index) → Live plan unit r →
    Silent plan unit r (event.Miss unit c.fire.handler ∷ [])
unfolding entry_reported unit_of
miss_reported plan r origin unit index since c live =
    let same : entry_done (begun r unit) unit (Miss c.fire.handler) ≡ begun r unit =
    miss_done (begun r unit) unit c.fire.handler in
    let core : SameCore r (begun r unit) = core_begun r unit in
    record {
      after = begun r unit;
      is = reported_one plan r (begun r unit) (event.Miss unit c.fire.handler)
          (line_passes plan unit r (event.Miss unit c.fire.handler) live refl (λ e. cc (e))
          (miss_passes plan r origin unit index since c) ∙ ap (λ x. Some x) same);
      kept = inr (subst (λ x. Opened unit r x) same (line_opens unit r (Miss c.fire.handler) live.in_order));
      core = core;
      goes_on = core.over ∙ live.goes_on;
    }
