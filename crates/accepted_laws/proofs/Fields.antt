-- Each object of a class or of a class under it has the fields of the class.
use Rattle.std.proofs.Common.{◌≡◌, ℕ, ◌<◌, ◌≤◌, suc, List, [], ◌∷◌, ◌++◌, length, filter, flat_map, find, reverse, position, refl, sym, ap, ◌∙◌, subst, arith, Option, Some, None, Bool, true, false, not, ◌||◌, true≢false, ◌⊎◌, inl, inr, ⊎_elim, ◌==◌, option_and_then, option_map, if◌then◌else◌, slice_get}
use Rattle.std.proofs.lemmas.Bool.Decides.{nat_tests}
use Rattle.scj_rules.specs.declared.views.Declared.{Declared}
use Rattle.scj_rules.specs.declared.typing.FoundField.{FoundField}
use Rattle.scj_rules.specs.Chains.{Follows, one, more}
use mathlib.Core.List.{reverse_aux}
use Rattle.std.specs.List.{position_or_len}
use Rattle.std.proofs.Common.{nat_lt, cond, ◌+◌}
use Rattle.std.proofs.lemmas.Bool.{cases_lt, lt-ltb, le-ltb}
use Rattle.scj_base.specs.Bytes.{is_same}
use Rattle.scj_rules.specs.Words.{is_among, along, chain, StaysBelow}
use Rattle.scj_rules.specs.Classes.{ClassRow, superclass_in, superclasses, own_field, field_named, own_instance_fields, instance_fields, hidden_fields}
use Rattle.scj_rules.specs.Layout.{slot_of, field_numbered, index_among}
use Rattle.scj_rules.specs.Contexts.{Declarations}
use Rattle.scj_rules.proofs.ChainLemmas.{chain_reaches, or_cases}
use Rattle.accepted_laws.proofs.Tools.{some_inj}

pub data In {A : Type 0} (x : A) : List A → Type 0 where
  here : {xs : List A} → In x (x ∷ xs)
  there : {y : A} {xs : List A} → In x xs → In x (y ∷ xs)

pub in_left : {A : Type 0} (x : A) (xs ys : List A) → In x xs → In x (xs ++ ys)
in_left x [] ys h = elim h [ ]
in_left x (y ∷ xs) ys here = here
in_left x (y ∷ xs) ys (there h) = there (in_left x xs ys h)

in_right : {A : Type 0} (x : A) (xs ys : List A) → In x ys → In x (xs ++ ys)
in_right x [] ys h = h
in_right x (y ∷ xs) ys h = there (in_right x xs ys h)

pub in_flat : {A B : Type 0} (f : A → List B) (x : B) (a : A) (as' : List A) → In a as' → In x (f a) → In x (flat_map f as')
in_flat f x a [] i h = elim i [ ]
in_flat f x a (b ∷ as') here h = in_left x (f a) (flat_map f as') h
in_flat f x a (b ∷ as') (there i) h = in_right x (f b) (flat_map f as') (in_flat f x a as' i h)

in_aux : {A : Type 0} (x : A) (xs ys : List A) → In x xs ⊎ In x ys → In x (reverse_aux xs ys)
in_aux x [] ys (inl h) = elim h [ ]
in_aux x [] ys (inr h) = h
in_aux x (y ∷ xs) ys (inl here) = in_aux x xs (x ∷ ys) (inr here)
in_aux x (y ∷ xs) ys (inl (there h)) = in_aux x xs (y ∷ ys) (inl h)
in_aux x (y ∷ xs) ys (inr h) = in_aux x xs (y ∷ ys) (inr (there h))

in_reverse : {A : Type 0} (x : A) (xs : List A) → In x xs → In x (reverse xs)
in_reverse x xs h = in_aux x xs [] (inl h)

pub in_filter : {A : Type 0} (test : A → Bool) (x : A) (xs : List A) → In x xs → test x ≡ true → In x (filter test xs)
in_filter test x [] i t = elim i [ ]
in_filter test x (y ∷ xs) here t = ap_in t
  where
    ap_in : test x ≡ true → In x (filter test (x ∷ xs))
    ap_in t = rw t here
in_filter test x (y ∷ xs) (there i) t = go (test y) refl (in_filter test x xs i t)
  where
    go : (b : Bool) → test y ≡ b → In x (filter test xs) → In x (filter test (y ∷ xs))
    go true e h = rw e (there h)
    go false e h = rw e h

pub in_find : {A : Type 0} (test : A → Bool) (x : A) (xs : List A) → find test xs ≡ Some x → In x xs
in_find test x [] e = absurd (cc (e))
in_find test x (y ∷ xs) e = go (test y) refl e (in_find test x xs)
  where
    go : (b : Bool) → test y ≡ b → find test (y ∷ xs) ≡ Some x → (find test xs ≡ Some x → In x xs) → In x (y ∷ xs)
    go true t e ih = (let q : y ≡ x = some_inj y x (rw t at e) in subst (λ z. In z (y ∷ xs)) q here)
    go false t e ih = there (ih (rw t at e))

pub in_among : (x : ℕ) (xs : List ℕ) → is_among x xs ≡ true → In x xs
in_among x [] e = absurd (true≢false (sym e))
in_among x (y ∷ xs) e = elim (or_cases (x == y) (is_among x xs) e) as (λ z. In x (y ∷ xs))
    [ inl s ↦ (let q : y ≡ x = grind (arith, nat_tests) in subst (λ z. In z (y ∷ xs)) q here) | inr h ↦ there (in_among x xs h) ]

pub along_in : {A B : Type 0} (f : A → Option B) (xs : List A) (y : B) → along f xs ≡ Some y → (x : A) × In x xs × (f x ≡ Some y)
unfolding along
along_in f [] y e = absurd (cc (e))
along_in {A} {B} f (x ∷ xs) y e = go (f x) refl e (along_in f xs y)
  where
    go : (o : Option B) → f x ≡ o → (elim o as (λ _. Option B) [ None ↦ along f xs | Some z ↦ Some z ]) ≡ Some y → (along f xs ≡ Some y → (x : A) × In x xs × (f x ≡ Some y)) → (z : A) × In z (x ∷ xs) × (f z ≡ Some y)
    go None e h ih = let q = ih h in (q.0, there q.1, q.2)
    go (Some z) e h ih = (x, here, e ∙ h)

pub position-cons : {A : Type 0} (p : A → Bool) (x : A) (xs : List A) → position p (x ∷ xs) ≡ (if p x then Some 0 else option_map (λ k. 1 + k) (position p xs))
position-cons p x xs = go (p x)
  where
    tail : (a n : ℕ) → cond (nat_lt (1 + a) (suc n)) (Some (1 + a)) None ≡ option_map (λ k. 1 + k) (cond (nat_lt a n) (Some a) None)
    tail a n = ⊎_elim (λ (l : a < n). rw (lt-ltb (1 + a) (suc n) (omega (arith, l)), lt-ltb a n l) refl) (λ (m : n ≤ a). rw (le-ltb (1 + a) (suc n) (omega (arith, m)), le-ltb a n m) refl) (cases_lt a n)

    go : (b : Bool) → cond (nat_lt (cond (not b) (1 + position_or_len p xs) 0) (suc (length xs))) (Some (cond (not b) (1 + position_or_len p xs) 0)) None ≡ (if b then Some 0 else option_map (λ k. 1 + k) (position p xs))
    go true = rw (lt-ltb 0 (suc (length xs)) (omega arith)) refl
    go false = tail (position_or_len p xs) (length xs)

record Placed {A : Type 0} (test : A → Bool) (xs : List A) : Type 0 where
  i : ℕ
  y : A
  is : position test xs ≡ Some i
  at : slice_get xs i ≡ Some y
  passes : test y ≡ true
  member : In y xs

in_position : {A : Type 0} (test : A → Bool) (x : A) (xs : List A) → In x xs → test x ≡ true → Placed test xs
in_position test x [] h t = elim h [ ]
in_position test x (y ∷ xs) here t = record { i = 0; y = x; is = position-cons test x xs ∙ ap (λ b. if b then Some 0 else option_map (λ k. 1 + k) (position test xs)) t; at = refl; passes = t; member = here }
in_position test x (y ∷ xs) (there h) t = go (test y) refl (in_position test x xs h t)
  where
    go : (b : Bool) → test y ≡ b → Placed test xs → Placed test (y ∷ xs)
    go true e q = record { i = 0; y = y; is = position-cons test y xs ∙ ap (λ b. if b then Some 0 else option_map (λ k. 1 + k) (position test xs)) e; at = refl; passes = e; member = here }
    go false e q =
        let n : 1 + q.i ≡ suc q.i = omega arith in
        record { i = suc q.i; y = q.y; is = position-cons test y xs ∙ ap (λ b. if b then Some 0 else option_map (λ k. 1 + k) (position test xs)) e ∙ ap (option_map (λ k. 1 + k)) q.is ∙ ap (λ k. Some k) n; at = q.at; passes = q.passes; member = there q.member }

follows_on : (next : ℕ → Option ℕ) (a b c : ℕ) → Follows next a b → Follows next b c → Follows next a c
follows_on next a b c (one e) g = more e g
follows_on next a b c (more e f) g = more e (follows_on next _ b c f g)

module _ (p : Declarations) (stays : StaysBelow (superclass_in p.classes) (length p.classes)) where
  -- what is above the class above is above
  pub chain_on : (a b x : ℕ) → a < length p.classes → b < length p.classes → is_among b (superclasses p.classes a) ≡ true → is_among x (superclasses p.classes b) ≡ true → is_among x (superclasses p.classes a) ≡ true
  unfolding superclasses
  chain_on a b x la lb h k = go ((chain_reaches (superclass_in p.classes) (length p.classes) a b stays la).0 h) ((chain_reaches (superclass_in p.classes) (length p.classes) b x stays lb).0 k)
    where
      back : (a ≡ x) ⊎ Follows (superclass_in p.classes) a x → is_among x (chain (superclass_in p.classes) (length p.classes) a) ≡ true
      back = (chain_reaches (superclass_in p.classes) (length p.classes) a x stays la).1

      go : (a ≡ b) ⊎ Follows (superclass_in p.classes) a b → (b ≡ x) ⊎ Follows (superclass_in p.classes) b x → is_among x (chain (superclass_in p.classes) (length p.classes) a) ≡ true
      go (inl e) (inl f) = back (inl (e ∙ f))
      go (inl e) (inr f) = back (inr (subst (λ y. Follows (superclass_in p.classes) y x) (sym e) f))
      go (inr e) (inl f) = back (inr (subst (λ y. Follows (superclass_in p.classes) a y) f e))
      go (inr e) (inr f) = back (inr (follows_on (superclass_in p.classes) a b x e f))

  own_in : (name : List ℕ) (class : ℕ) (f : FoundField) → own_field p.classes name class ≡ Some f → f.field.modifiers.is_static ≡ false → In f.field (own_instance_fields p.classes class)
  unfolding own_field own_instance_fields
  own_in name class f e plain = go (slice_get p.classes class) refl e
    where
      found : (row : ClassRow) (o : Option Declared) → find (λ (d : Declared). is_same name d.name) row.fields ≡ o → option_map (λ (d : Declared). record { on = class; field = d }) o ≡ Some f → In f.field (filter (λ (d : Declared). not d.modifiers.is_static) row.fields)
      found row None e h = absurd (cc (h))
      found row (Some d) e h =
          let q : d ≡ f.field = ap (λ (g : FoundField). g.field) (some_inj _ f h) in
          in_filter (λ (d : Declared). not d.modifiers.is_static) f.field row.fields (subst (λ z. In z row.fields) q (in_find (λ (d : Declared). is_same name d.name) d row.fields e)) (ap not plain)

      go : (o : Option ClassRow) → slice_get p.classes class ≡ o → option_map (λ (d : Declared). record { on = class; field = d }) (option_and_then (λ (row : ClassRow). find (λ (d : Declared). is_same name d.name) row.fields) o) ≡ Some f
          → In f.field (elim (slice_get p.classes class) as (λ _. List Declared) [ None ↦ [] | Some row ↦ filter (λ (d : Declared). not d.modifiers.is_static) row.fields ])
      go None at h = absurd (cc (h))
      go (Some row) at h = subst (λ o. In f.field (elim o as (λ _. List Declared) [ None ↦ [] | Some row ↦ filter (λ (d : Declared). not d.modifiers.is_static) row.fields ])) (sym at) (found row _ refl h)

  -- a field of a class is among those of each class under it
  pub field_in : (class : ℕ) (name : List ℕ) (f : FoundField) → class < length p.classes → field_named p.classes class name ≡ Some f → f.field.modifiers.is_static ≡ false → (c : ℕ) → c < length p.classes → is_among class (superclasses p.classes c) ≡ true → In f.field (instance_fields p.classes c)
  unfolding field_named instance_fields
  field_in class name f l e plain c lc sub =
      let q = along_in (own_field p.classes name) (superclasses p.classes class) f e in
      in_flat (own_instance_fields p.classes) f.field q.0 (reverse (superclasses p.classes c))
      (in_reverse q.0 (superclasses p.classes c) (in_among q.0 (superclasses p.classes c) (chain_on c class q.0 lc l sub (among_in q.0 (superclasses p.classes class) q.1)))) (own_in name q.0 f q.2 plain)
    where
      among_in : (x : ℕ) (xs : List ℕ) → In x xs → is_among x xs ≡ true
      among_in x [] h = elim h [ ]
      among_in x (y ∷ xs) here = (let t : (x == x) ≡ true = grind (arith, nat_tests) in ap (λ b. b || is_among x xs) t)
      among_in x (y ∷ xs) (there h) = elim (x == y) as (λ b. (b || is_among x xs) ≡ true) [ true ↦ refl | false ↦ among_in x xs h ]

  -- where no two fields have one node, the field has a slot in each object of a class under it
  pub slot_in : ((c : ℕ) (d e : Declared) → In d (instance_fields p.classes c) → In e (instance_fields p.classes c) → d.node ≡ e.node → d ≡ e) → (class k : ℕ) (name : List ℕ) (f : FoundField) → class < length p.classes → field_named p.classes class name ≡ Some f → f.field.modifiers.is_static ≡ false
      → field_numbered p k ≡ Some f.field → (c : ℕ) → c < length p.classes → is_among class (superclasses p.classes c) ≡ true → (i : ℕ) × (slot_of p c k ≡ Some (hidden_fields p.classes c + i)) × (slice_get (instance_fields p.classes c) i ≡ Some f.field)
  unfolding slot_of
  slot_in one_node class k name f l e plain number c lc sub =
      let member = field_in class name f l e plain c lc sub in
      let t : (f.field.node == f.field.node) ≡ true = grind (arith, nat_tests) in
      let q = in_position (λ (d : Declared). d.node == f.field.node) f.field (instance_fields p.classes c) member t in
      let node : q.y.node ≡ f.field.node = (let h = q.passes in grind (arith, nat_tests)) in
      (q.i, ap (λ (o : Option Declared). option_and_then (λ (f : Declared). option_map (λ k. hidden_fields p.classes c + k) (index_among (instance_fields p.classes c) f)) o) number ∙ ap (option_map (λ k. hidden_fields p.classes c + k)) q.is, q.at ∙ ap (λ d. Some d) (one_node c q.y f.field q.member member node))
