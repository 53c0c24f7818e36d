-- An event that passes has the form of a line, as far as the audit looks at it.
use Rattle.std.proofs.Common.{◌≡◌, ℕ, zero, suc, ◌+◌, ◌^◌, ◌≤◌, ◌<◌, ◌==◌, Bool, true, false, ◌||◌, List, [], ◌∷◌, length, Option, Some, None, refl, sym, ap, ◌∙◌, subst, arith}
use Rattle.std.specs.Prelude.{slice_get}
use Rattle.std.specs.List.{list_any}
use Rattle.std.specs.Str.{bytes_eq}
use Rattle.std.proofs.lemmas.Bool.{and_parts}
use Rattle.std.proofs.lemmas.Bool.Decides.{nat_tests}
use Rattle.accepted_laws.proofs.Tools.{some_inj}
use Rattle.trace_audit.specs.declared.releases.Standing.TheVariants.{Gone}
use Rattle.priority_laws.proofs.AreaLists.{same_number}
use Rattle.scj_base.specs.Lexeme.{is_name}
use Rattle.scj_rules.specs.Words.{holds}
use Rattle.scj_tree.specs.declared.nodes.Node.{Node}
use Rattle.scj_model.specs.declared.events.Event.{Event}
use Rattle.scj_model.specs.declared.events.Event.TheVariants as event
use Rattle.scj_model.specs.declared.plans.Fire.{Fire}
use Rattle.scj_model.specs.Arrivals.{comes_in}
use Rattle.scj_model.specs.Plan.{Plan}
use Rattle.scj_model.specs.TraceText.{unit_of}
use Rattle.trace_audit.specs.declared.choices.Choice.{Choice}
use Rattle.trace_audit.specs.declared.choices.Choice.TheVariants.{Idle as Nobody, Chosen}
use Rattle.trace_audit.specs.declared.lines.Entry.{Entry}
use Rattle.trace_audit.specs.declared.lines.Entry.TheVariants.{Mission, Register, Exec, Arrive, Lost, Miss, Run, Idle, Prio, Print, Fault, End, Terminate, Drop, Cleanup, Done, Halted, Stopped}
use Rattle.trace_audit.specs.Passing.{entry_done, entry_passes, is_fire, is_of, is_within, last_number, rest_done, table_done}
use Rattle.trace_audit.specs.Printed.{Has64Bits, HasParts, IsHandlerNumber, entry_reported}
use Rattle.trace_audit.specs.Replay.{Releases, Replay, raise_to, start_with, priority_at}
use Rattle.audited_runs.proofs.PartsFit.{PartsFit}
use Rattle.audited_runs.proofs.Executing.{SameCore}
use Rattle.audited_runs.proofs.Small.{InRange, Small, arrival_range, arrived_small, last_range, named_range, picked_range, registered_small, restanding_small, small_last, small_more}

-- ---- units

pub unit_within : (plan : Plan) (unit : ℕ) (entry : Entry) → is_within plan (record { unit = unit; entry = entry }) ≡ true →
    unit ≤ plan.units
unit_within plan unit Mission h = grind (arith, nat_tests, h)
unit_within plan unit (Register k p) h = grind (arith, nat_tests, h)
unit_within plan unit Exec h = grind (arith, nat_tests, h)
unit_within plan unit (Arrive k n) h = grind (arith, nat_tests, h)
unit_within plan unit Lost h = grind (arith, nat_tests, h)
unit_within plan unit (Miss name) h = grind (arith, nat_tests, h)
unit_within plan unit (Run k n) h = grind (arith, nat_tests, h)
unit_within plan unit Idle h = grind (arith, nat_tests, h)
unit_within plan unit (Prio k p) h = grind (arith, nat_tests, h)
unit_within plan unit Print h = grind (arith, nat_tests, h)
unit_within plan unit Fault h = grind (arith, nat_tests, h)
unit_within plan unit (End k n) h = grind (arith, nat_tests, h)
unit_within plan unit Terminate h = grind (arith, nat_tests, h)
unit_within plan unit (Drop k n) h = grind (arith, nat_tests, h)
unit_within plan unit Cleanup h = grind (arith, nat_tests, h)
unit_within plan unit Done h = grind (arith, nat_tests, h)
unit_within plan unit Halted h = grind (arith, nat_tests, h)
unit_within plan unit Stopped h = grind (arith, nat_tests, h)

-- ---- names of fires

-- each fire of a plan has a name
pub record FiresNamed (plan : Plan) : Type 0 where
  pub is : (i : ℕ) (fire : Fire) → slice_get plan.fires i ≡ Some fire → is_name fire.handler ≡ true

bytes_are : (xs ys : List ℕ) → bytes_eq xs ys ≡ true → xs ≡ ys
bytes_are [] [] e = refl
bytes_are [] (y ∷ ys) e = absurd (cc (e))
bytes_are (x ∷ xs) [] e = absurd (cc (e))
bytes_are (x ∷ xs) (y ∷ ys) e =
    let p = and_parts (x == y) (bytes_eq xs ys) e in
    ap (λ z. z ∷ xs) (same_number x y p.0) ∙ ap (λ zs. y ∷ zs) (bytes_are xs ys p.1)

record FoundIn {A : Type 0} (test : A → Bool) (xs : List A) : Type 0 where
  i : ℕ
  found : A
  there : slice_get xs i ≡ Some found
  passes_so : test found ≡ true

found_in : {A : Type 0} (test : A → Bool) (xs : List A) → list_any test xs ≡ true → FoundIn test xs
found_in test [] e = absurd (cc (e))
found_in {A} test (x ∷ xs) e = go (test x) refl e (λ h. found_in test xs h)
  where
    go : (b : Bool) → test x ≡ b → (b || list_any test xs) ≡ true → (list_any test xs ≡ true → FoundIn test xs) →
        FoundIn test (x ∷ xs)
    go true t h more = record { i = 0; found = x; there = refl; passes_so = t }
    go false t h more =
        let f : FoundIn test xs = more h in
        record { i = suc f.i; found = f.found; there = f.there; passes_so = f.passes_so }

miss_named : (plan : Plan) (origin : Option ℕ) (unit : ℕ) (name : List ℕ) → FiresNamed plan →
    list_any (is_fire origin unit name) plan.fires ≡ true → is_name name ≡ true
miss_named plan origin unit name named e =
    let f : FoundIn (is_fire origin unit name) plan.fires = found_in (is_fire origin unit name) plan.fires e in
    let p = and_parts (comes_in origin unit f.found) (bytes_eq f.found.handler name) f.passes_so in
    ap is_name (sym (bytes_are f.found.handler name p.1)) ∙ named.is f.i f.found f.there

-- ---- one event

pub record EventFits (nodes : List Node) (files : List (List ℕ)) (most : ℕ) (e : Event) (after : Replay) : Type 0 where
  pub parts : HasParts nodes files e
  pub small : Small (most + 1) after.all after.last_choice

number_bits : (most handler number : ℕ) → most < 2 ^ 64 → InRange most handler number →
    IsHandlerNumber handler × Has64Bits number
number_bits most handler number l r =
    let s = r.small in
    ((r.low, r.high), lt most number s l)
  where
    lt : (m n : ℕ) → n ≤ m → m < 2 ^ 64 → n < 2 ^ 64
    lt m n a b = omega (arith, a, b)

-- the last choice was a release of this handler
handler_of_last : (most : ℕ) (all : Releases) (last : Option Choice) (handler : ℕ) → Small most all last →
    holds last (is_of handler) ≡ true → IsHandlerNumber handler
handler_of_last most all None handler h e = absurd (cc (e))
handler_of_last most all (Some Nobody) handler h e = absurd (cc (e))
handler_of_last most all (Some (Chosen k n)) handler h e =
    let r : InRange most k n = h.last_one k n refl in
    subst IsHandlerNumber (same_number k handler e) (r.low, r.high)

module _ (nodes : List Node) (files : List (List ℕ)) (plan : Plan) (named : FiresNamed plan) (most : ℕ)
    (room : most + 1 < 2 ^ 64) (r b : Replay) (core : SameCore r b) (h : Small most r.all r.last_choice) where
  behind : Small most b.all b.last_choice
  behind =
      subst (λ (all : Releases). Small most all b.last_choice) (sym core.all)
      (subst (λ (last : Option Choice). Small most r.all last) (sym core.last) h)

  later : Small (most + 1) b.all b.last_choice
  later = small_more most b.all b.last_choice behind

  range_more : (handler number : ℕ) → InRange most handler number → InRange (most + 1) handler number
  range_more handler number k =
      record { low = k.low; high = k.high; small = let s = k.small in omega (arith, s) }

  -- the release of this name is the last choice from now on
  chosen_last : (handler number : ℕ) → InRange most handler number → (k n : ℕ) →
      Some (Chosen handler number) ≡ Some (Chosen k n) → InRange (most + 1) k n
  chosen_last handler number range k n e =
      subst (λ (c : Choice). InRange (most + 1) (handler_in c) (number_of c)) (some_inj _ _ e)
      (range_more handler number range)
    where
      handler_in : Choice → ℕ
      handler_in Nobody = 0
      handler_in (Chosen k n) = k

      number_of : Choice → ℕ
      number_of Nobody = 0
      number_of (Chosen k n) = n

  pub event_fits : (e : Event) → entry_passes plan r (unit_of e) (entry_reported e) ≡ true → PartsFit nodes files e →
      EventFits nodes files most e (entry_done b (unit_of e) (entry_reported e))
  unfolding entry_passes entry_reported unit_of rest_done table_done
  event_fits (event.Mission unit class) p alone =
      record {
        parts = alone;
        small = record {
          few = omega arith;
          arrivals = λ k x e. absurd (cc (e));
          releases = λ k x e. absurd (cc (e));
          last_one = later.last_one;
        };
      }
  event_fits (event.Register unit handler class priority) p alone =
      let at : handler ≡ length r.all.handlers + 1 = same_number handler (length r.all.handlers + 1) p in
      let top = alone.0 in
      let few : length r.all.handlers + 1 ≤ 64 = omega (arith, at, top) in
      record {
        parts = ((omega (arith, at), alone.0), alone.1, alone.2);
        small = registered_small (most + 1) b.all b.last_choice priority later
            (subst (λ (all : Releases). length all.handlers + 1 ≤ 64) (sym core.all) few);
      }
  event_fits (event.Exec unit) p alone =
      record { parts = tt; small = small_last (most + 1) b.all b.last_choice None later (λ k n e. absurd (cc (e))) }
  event_fits (event.Arrive unit zero number) p alone = absurd (cc (p))
  event_fits (event.Arrive unit (suc k) number) p alone =
      let range : InRange (most + 1) (suc k) number =
      arrival_range most r.all r.last_choice (suc k) number h p in
      record {
        parts = number_bits (most + 1) (suc k) number room range;
        small = arrived_small most b.all b.last_choice k number behind range;
      }
  event_fits (event.Lost unit handler) p alone = record { parts = alone; small = later }
  event_fits (event.Miss unit name) p alone =
      record { parts = miss_named plan r.executes_since unit name named p; small = later }
  event_fits (event.Run unit handler number) p alone =
      let range : InRange most handler number =
      picked_range most r.all r.last_choice handler number h (and_parts _ _ p).0 in
      record {
        parts = number_bits (most + 1) handler number room (range_more handler number range);
        small = small_last (most + 1) _ b.last_choice (Some (Chosen handler number))
            (restanding_small (most + 1) b.all b.last_choice (start_with (priority_at b.all.handlers handler)) handler
            number later)
            (chosen_last handler number range);
      }
  event_fits (event.Idle unit) p alone =
      record {
        parts = tt;
        small = small_last (most + 1) b.all b.last_choice (Some Nobody) later (λ k n e. absurd (cc (e)));
      }
  event_fits (event.Prio unit handler priority) p alone =
      record {
        parts = (handler_of_last most r.all r.last_choice handler h p, alone);
        small = restanding_small (most + 1) b.all b.last_choice (raise_to priority) handler (last_number b) later;
      }
  event_fits (event.Print unit text value) p alone = record { parts = alone; small = later }
  event_fits (event.Fault unit fault place) p alone = record { parts = alone; small = later }
  event_fits (event.End unit handler number) p alone =
      let range : InRange most handler number = last_range most r.all r.last_choice handler number h p in
      record {
        parts = number_bits (most + 1) handler number room (range_more handler number range);
        small = restanding_small (most + 1) b.all b.last_choice (λ _. Gone) handler number later;
      }
  event_fits (event.Terminate unit) p alone = record { parts = tt; small = later }
  event_fits (event.Drop unit handler number) p alone =
      let range : InRange most handler number = named_range most r.all r.last_choice handler number h p in
      record {
        parts = number_bits (most + 1) handler number room (range_more handler number range);
        small = restanding_small (most + 1) b.all b.last_choice (λ _. Gone) handler number later;
      }
  event_fits (event.Cleanup unit) p alone = record { parts = tt; small = later }
  event_fits (event.Done unit) p alone = record { parts = tt; small = later }
  event_fits (event.Halted unit) p alone = record { parts = tt; small = later }
  event_fits (event.Stopped unit) p alone = record { parts = tt; small = later }
