-- What is pushed for a store that a guard allows lies in one area: both are subjects of a guard in whose first part the
-- store stands.
use Rattle.std.specs.List.{list_any}
use Rattle.std.specs.Prelude.{Option, Some, None, ◌||◌, ◌&&◌}
use Rattle.std.proofs.Common.{◌≡◌, ℕ, List, [], ◌∷◌, Bool, true, false, refl, sym, subst, true≢false, ◌⊎◌, inl, inr}
use Rattle.scj_base.specs.declared.values.Value.{Value}
use Rattle.scj_rules.specs.declared.typing.Guard.{Guard}
use Rattle.scj_rules.specs.declared.typing.Subject.{Subject}
use Rattle.scj_rules.specs.Words.{is_among, holds}
use Rattle.scj_rules.specs.Guards.{are_same_subject, are_subjects, ifs_around, is_guarded}
use Rattle.accepted_laws.specs.Kinds.{Kind}
use Rattle.scj_model.specs.declared.operations.Op.{Op}
use Rattle.scj_model.specs.declared.operations.Op.TheVariants.{Put as PUT}
use Rattle.scope_flow.specs.Guards.{guard_of, PushesSubject, pushes_this, pushes_variable, PutsByGuard, IsPlain, StandsIn, Rest, at_end, outside, plain, asking, putting}
use Rattle.scope_flow.specs.Needs.{IsGuardedAssign}
use Rattle.scope_flow.proofs.Rests.{here, later}
use Rattle.frame_sound.specs.Guards.{IsValueOf, AreTogether, GuardHolds, Progress, on_no_way, asks_second, asks_both, is_answered, puts_value, puts_both}
use Rattle.frame_sound.specs.Places.{World}
use Rattle.frame_sound.proofs.GuardSteps.{one_value}
use Rattle.frame_sound.proofs.Scenes.{Scene, memory}

-- two objects lie in one area in either order
together_back : (w : World) (a b : Value) → AreTogether w a b → AreTogether w b a
together_back w a b t =
    record {
      r = t.s;
      s = t.r;
      is_first = t.is_second;
      is_second = t.is_first;
      first = t.second;
      second = t.first;
      first_found = t.second_found;
      second_found = t.first_found;
      one_area = sym t.one_area;
    }

-- one of a list passes a test
record AnyOf (test : ℕ → Bool) (xs : List ℕ) : Type 0 where
  x : ℕ
  among : is_among x xs ≡ true
  passes : test x ≡ true

pub head_is : (x y : Op) (xs ys : List Op) → (x ∷ xs) ≡ (y ∷ ys) → x ≡ y
head_is x y xs ys e = cc (e)

pub tail_is : (x y : Op) (xs ys : List Op) → (x ∷ xs) ≡ (y ∷ ys) → xs ≡ ys
tail_is x y xs ys e = cc (e)

pub first_is : (a b : Value) (vs us : List Value) → (a ∷ vs) ≡ (b ∷ us) → a ≡ b
first_is a b vs us e = cc (e)

pub below_is : (a b : Value) (vs us : List Value) → (a ∷ vs) ≡ (b ∷ us) → vs ≡ us
below_is a b vs us e = cc (e)

module _ (m : Scene) (around : List ℕ)
    (holding : (number : ℕ) (guard : Guard) → is_among number around ≡ true → guard_of m.code number ≡ Some guard →
    GuardHolds m.code.program (memory m) m.frame.body m.frame.this m.frame.locals guard) where
  abbrev HasValue : Subject → Value → Type 0
  HasValue s v = IsValueOf m.code.program m.frame.body m.frame.this m.frame.locals s v

  either_cases : (a b : Bool) → (a || b) ≡ true → (a ≡ true) ⊎ (b ≡ true)
  either_cases true b e = inl refl
  either_cases false b e = inr e

  both_true : (a b : Bool) → (a && b) ≡ true → (a ≡ true) × (b ≡ true)
  both_true true b e = (refl, e)
  both_true false b e = absurd (true≢false (sym e))

  any_of : (test : ℕ → Bool) (xs : List ℕ) → list_any test xs ≡ true → AnyOf test xs
  any_of test [] e = absurd (true≢false (sym e))
  any_of test (x ∷ xs) e =
      elim (either_cases (test x) (list_any test xs) e) as (λ _. AnyOf test (x ∷ xs)) [
        | inl h ↦ record { x = x; among = here x xs; passes = h }
        | inr h ↦ (let y = any_of test xs h in
            record { x = y.x; among = later y.x x xs y.among; passes = y.passes })
      ]

  subjects_together : (s t : Subject) (a b : Value) (guard : Guard) → are_subjects s t guard ≡ true → HasValue s a →
      HasValue t b → GuardHolds m.code.program (memory m) m.frame.body m.frame.this m.frame.locals guard →
      AreTogether (memory m) a b
  subjects_together s t a b guard e is_a is_b h =
      elim (either_cases (are_same_subject s guard.first && are_same_subject t guard.second)
      (are_same_subject t guard.first && are_same_subject s guard.second) e) as (λ _. AreTogether (memory m) a b) [
        | inl x ↦ (let y = both_true (are_same_subject s guard.first) (are_same_subject t guard.second) x in
            subst (λ v. AreTogether (memory m) v b) (sym (same s guard.first a h.first y.0 is_a h.first_is))
            (subst (λ v. AreTogether (memory m) h.first v) (sym (same t guard.second b h.second y.1 is_b h.second_is))
            h.together))
        | inr x ↦ (let y = both_true (are_same_subject t guard.first) (are_same_subject s guard.second) x in
            subst (λ v. AreTogether (memory m) v b) (sym (same s guard.second a h.second y.1 is_a h.second_is))
            (subst (λ v. AreTogether (memory m) h.second v) (sym (same t guard.first b h.first y.0 is_b h.first_is))
            (together_back (memory m) h.first h.second h.together)))
      ]
    where
      same : (s t : Subject) (a b : Value) → are_same_subject s t ≡ true → HasValue s a → HasValue t b → a ≡ b
      same s t a b e x y = one_value m.code.program m.frame.body m.frame.this m.frame.locals s t a b e x y

  pub put_together : (id : ℕ) (object value : Op) (puts : PutsByGuard m.code m.frame.body id object value) →
      ifs_around m.code.program.nodes id ≡ around → (a b : Value) → HasValue puts.holder a → HasValue puts.stored b →
      AreTogether (memory m) a b
  unfolding is_guarded
  put_together id object value puts stands a b is_a is_b =
      let x =
      any_of (λ number. holds (guard_of m.code number) (are_subjects puts.holder puts.stored))
      (ifs_around m.code.program.nodes id) puts.is_guarded in
      by_guard x.x (subst (λ xs. is_among x.x xs ≡ true) stands x.among) (guard_of m.code x.x) refl x.passes
    where
      by_guard : (number : ℕ) → is_among number around ≡ true → (o : Option Guard) → guard_of m.code number ≡ o →
          holds o (are_subjects puts.holder puts.stored) ≡ true → AreTogether (memory m) a b
      by_guard number among None is e = absurd (true≢false (sym e))
      by_guard number among (Some guard) is e =
          subjects_together puts.holder puts.stored a b guard e is_a is_b (holding number guard among is)

  -- ---- a store that is next

  no_subject : (id : ℕ) (s : Subject) (op : Op) → PushesSubject m.code m.frame.body s op → op ≡ PUT id → ⊥
  no_subject id _ _ (pushes_this q) e = absurd (cc (e))
  no_subject id _ _ (pushes_variable q v local bound there) e = absurd (cc (e))

  never_plain : (id : ℕ) → IsGuardedAssign m.code.program id → (rest : List Op) (outer : List ℕ) (ops : List Op) →
      Rest m.code m.frame.body outer ops → ops ≡ PUT id ∷ rest → ⊥
  unfolding IsPlain
  never_plain id g rest _ _ (at_end a) e = absurd (cc (e))
  never_plain id g rest _ _ (outside a outer ops among r) e = never_plain id g rest outer ops r e
  never_plain id g rest _ _ (plain a x ops is_plain stands r) e =
      subst (IsPlain m.code) (head_is x (PUT id) ops rest e) is_plain g
  never_plain id g rest _ _ (asking a number q first second ops guard stands r) e =
      no_subject id guard.guard.first first guard.first_is (head_is first (PUT id) _ rest e)
  never_plain id g rest _ _ (putting a q object value ops puts stands r) e =
      no_subject id puts.holder object puts.object_is (head_is object (PUT id) _ rest e)

  same_store : (q id : ℕ) (ops rest : List Op) → (PUT q ∷ ops) ≡ (PUT id ∷ rest) → q ≡ id
  same_store q id ops rest e = let h : PUT q ≡ PUT id = head_is (PUT q) (PUT id) ops rest e in cc (h)

  -- the object and the value are there, and lie in one area
  pub stored_together : (id : ℕ) → IsGuardedAssign m.code.program id → (t : Option Kind) (vs : List Value)
      (ops rest : List Op) →
      Progress m.code (memory m) m.frame.body m.frame.this m.frame.locals around t vs ops → ops ≡ PUT id ∷ rest →
      (a b : Value) (below : List Value) → vs ≡ b ∷ (a ∷ below) → AreTogether (memory m) a b
  unfolding StandsIn
  stored_together id g _ _ _ rest (on_no_way t vs ops r) e a b below ev =
      absurd (never_plain id g rest around ops r e)
  stored_together id g _ _ _ rest (asks_second number q first second ops x vs guard stands r is) e a b below ev =
      absurd (no_subject id guard.guard.second second guard.second_is (head_is second (PUT id) _ rest e))
  stored_together id g _ _ _ rest (asks_both number q first second ops x y vs guard stands r is_x is_y) e a b below ev =
      absurd (cc (e))
  stored_together id g _ _ _ rest (is_answered number guard answer ops vs is stands r h) e a b below ev =
      absurd (cc (e))
  stored_together id g _ _ _ rest (puts_value q object value ops x vs puts stands r is) e a b below ev =
      absurd (no_subject id puts.stored value puts.value_is (head_is value (PUT id) _ rest e))
  stored_together id g _ _ _ rest (puts_both q object value ops x y vs puts stands r is_x is_y) e a b below ev =
      let under = below_is y b (x ∷ vs) (a ∷ below) ev in
      subst (λ v. AreTogether (memory m) a v) (first_is y b (x ∷ vs) (a ∷ below) ev)
      (subst (λ v. AreTogether (memory m) v y) (first_is x a vs below under)
      (put_together q object value puts stands x y is_x is_y))
