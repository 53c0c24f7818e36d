-- Where scopes lie: what is named on a list stands on it, and what lies around an area of the list is what the list has
-- of its scope. So what a slot holds is seen by a frame as the rules see it.
use Rattle.std.specs.Prelude.{Option, Some, None, ◌||◌, ◌==◌, if◌then◌else◌}
use Rattle.std.proofs.Common.{◌≡◌, ℕ, zero, suc, List, [], ◌∷◌, Bool, true, false, refl, sym, ◌∙◌, ap, subst, arith, inl, inr}
use Rattle.std.proofs.lemmas.Bool.Decides.{nat_tests}
use Rattle.scj_base.specs.declared.values.Value.{Value}
use Rattle.scj_base.specs.declared.values.Value.TheVariants.{Null}
use Rattle.scj_rules.specs.declared.typing.Ty.{Ty}
use Rattle.scj_rules.specs.declared.typing.Scope.{Scope}
use Rattle.scj_rules.specs.declared.typing.Scope.TheVariants.{Any, This, Caller, In, Unknown, Lost}
use Rattle.scj_rules.specs.declared.views.Body.{Body}
use Rattle.scj_rules.specs.Words.{is_among, holds, ◌>>=◌}
use Rattle.scj_rules.specs.Contexts.{Declarations}
use Rattle.scj_rules.specs.StaticScopes.{beside}
use Rattle.accepted_laws.specs.Kinds.{Kind, number, truth, yes, reference, fresh, Fits, GoesTo, NamesArea, seen_as, seen_kind}
use Rattle.accepted_laws.proofs.Tools.{some_inj}
use Rattle.scj_model.specs.Code.{Code}
use Rattle.scj_model.specs.State.{MemoryArea, Object}
use Rattle.scope_flow.specs.Slots.{IsSlotKind}
use Rattle.scope_flow.specs.Signatures.{Signature}
use Rattle.scope_flow.specs.Facts.{Facts}
use Rattle.frame_sound.specs.Places.{World, Place, in_one, the_area, LiesAt, area_named, denote, area_around, within, an_object, held, Has}
use Rattle.frame_sound.specs.Fine.{ListFine, Home, IsInside}

module _ (areas : ℕ → Option MemoryArea) where
  named_step : (n a x : ℕ) (list : List ℕ) → (area_named areas n list ≡ Some a → is_among a list ≡ true) →
      (t : Bool) → (if t then Some x else area_named areas n list) ≡ Some a → is_among a (x ∷ list) ≡ true
  named_step n a x list ih true e =
      let same : x ≡ a = some_inj x a e in
      let t : (a == x) ≡ true = grind (arith, nat_tests) in
      ap (λ b. b || is_among a list) t
  named_step n a x list ih false e =
      elim (a == x) as (λ t. (t || is_among a list) ≡ true) [ true ↦ refl | false ↦ ih e ]

  -- what is named stands on the list
  pub named_among : (n a : ℕ) (list : List ℕ) → area_named areas n list ≡ Some a → is_among a list ≡ true
  unfolding area_named
  named_among n a [] e = absurd (cc (e))
  named_among n a (x ∷ list) e = named_step n a x list (named_among n a list) _ e

  pub record IsNamed (n a : ℕ) : Type 0 where
    pub area : MemoryArea
    pub is_there : areas a ≡ Some area
    pub is_named : area.scope ≡ n

  -- and has the scope
  pub named_is : (n a : ℕ) (list : List ℕ) → area_named areas n list ≡ Some a → IsNamed n a
  unfolding area_named
  named_is n a [] e = absurd (cc (e))
  named_is n a (y ∷ list) e = go (areas y) refl e (named_is n a list)
    where
      pick : (x : MemoryArea) → areas y ≡ Some x → (t : Bool) → (x.scope == n) ≡ t →
          (if t then Some y else area_named areas n list) ≡ Some a → (area_named areas n list ≡ Some a → IsNamed n a) →
          IsNamed n a
      pick x there true t e ih =
          record {
            area = x;
            is_there = ap areas (sym (some_inj y a e)) ∙ there;
            is_named = (let same : x.scope ≡ n = grind (arith, nat_tests) in same);
          }
      pick x there false t e ih = ih e

      go : (o : Option MemoryArea) → areas y ≡ o →
          (if holds o (λ x. x.scope == n) then Some y else area_named areas n list) ≡ Some a →
          (area_named areas n list ≡ Some a → IsNamed n a) → IsNamed n a
      go None there e ih = ih e
      go (Some x) there e ih = pick x there (x.scope == n) refl e ih

  module _ (list : List ℕ) (fine : ListFine areas list) where
    around_step : (n r bound a : ℕ) → is_among a list ≡ true →
        ((b : ℕ) → is_among b list ≡ true → area_around areas n bound b ≡ Some r → area_named areas n list ≡ Some r) →
        area_around areas n (suc bound) a ≡ Some r → area_named areas n list ≡ Some r
    unfolding area_around
    around_step n r bound a on ih e =
        let x = fine.found a on in
        pick x.0 x.1 x.2 (x.0.scope == n) refl
        (ap (λ (o : Option MemoryArea). o
        >>= (λ x. if x.scope == n then Some a else (x.parent >>= area_around areas n bound))) (sym x.1) ∙ e)
      where
        up : (x : MemoryArea) → areas a ≡ Some x → (o : Option ℕ) → x.parent ≡ o →
            o >>= area_around areas n bound ≡ Some r → area_named areas n list ≡ Some r
        up x there None p e = absurd (cc (e))
        up x there (Some b) p e = ih b (fine.closed_up a b x on there p) e

        pick : (x : MemoryArea) → areas a ≡ Some x → area_named areas x.scope list ≡ Some a → (t : Bool) →
            (x.scope == n) ≡ t → (if t then Some a else (x.parent >>= area_around areas n bound)) ≡ Some r →
            area_named areas n list ≡ Some r
        pick x there f true t e =
            let same : x.scope ≡ n = grind (arith, nat_tests) in
            subst (λ m. area_named areas m list ≡ Some r) same (f ∙ e)
        pick x there f false t e = up x there x.parent refl e

    -- what lies around an area of the list is what the list has of that scope
    pub around_named : (n r bound a : ℕ) → is_among a list ≡ true → area_around areas n bound a ≡ Some r →
        area_named areas n list ≡ Some r
    unfolding area_around
    around_named n r zero a on e = absurd (cc (e))
    around_named n r (suc bound) a on e = around_step n r bound a on (λ b o e. around_named n r bound b o e) e

-- the area of its own scope
pub around_itself : (areas : ℕ → Option MemoryArea) (a : ℕ) (x : MemoryArea) → areas a ≡ Some x → (n : ℕ) →
    x.scope ≡ n → area_around areas n (suc a) a ≡ Some a
unfolding area_around
around_itself areas a x there n e =
    ap (λ (o : Option MemoryArea). o
    >>= (λ x. if x.scope == n then Some a else (x.parent >>= area_around areas n a))) there
    ∙ ap (λ t. if t then Some a else (x.parent >>= area_around areas n a)) yes
  where
    yes : (x.scope == n) ≡ true
    yes = grind (arith, nat_tests)

-- what lies where a scope says lies on the list
pub denote_on : (p : Declarations) (w : World) (list : List ℕ) (c : ℕ) (sig : Signature) (body : Body) (this : Option ℕ)
    (now : ℕ) → Home p w list c sig body this now → (s : Scope) (a : ℕ) → LiesAt (denote w list this now s) a →
    is_among a list ≡ true
unfolding denote
denote_on p w list c sig body this now h Any a e = absurd (cc (e))
denote_on p w list c sig body this now h This a e = go this refl e
  where
    go : (o : Option ℕ) → this ≡ o → o >>= w.objects >>= (λ o. Some o.area) ≡ Some a → is_among a list ≡ true
    go None is e = absurd (cc (e))
    go (Some r) is e =
        let x = h.on_list r is in
        subst (λ x. is_among x list ≡ true)
        (some_inj x.object.area a (ap (λ (o : Option Object). o >>= (λ o. Some o.area)) (sym x.found) ∙ e)) x.on_list
denote_on p w list c sig body this now h Caller a e =
    subst (λ x. is_among x list ≡ true) (some_inj now a e) h.now_on_list
denote_on p w list c sig body this now h (In s) a e = named_among w.areas s a list e
denote_on p w list c sig body this now h Unknown a e = e
denote_on p w list c sig body this now h Lost a e = e

-- where an object of a scope lies that names an area
pub denotes_area : (w : World) (list : List ℕ) (this : Option ℕ) (now : ℕ) (s : Scope) (a : ℕ) → NamesArea s →
    LiesAt (denote w list this now s) a → denote w list this now s ≡ the_area a
unfolding denote
denotes_area w list this now This a h e = ap (λ x. in_one x) e
denotes_area w list this now Caller a h e = ap (λ x. in_one x) e
denotes_area w list this now (In s) a h e = ap (λ x. in_one x) e
denotes_area w list this now Any a h e = absurd h
denotes_area w list this now Unknown a h e = absurd h
denotes_area w list this now Lost a h e = absurd h

-- ---- places

one_is : (o : Option ℕ) (a : ℕ) → in_one o ≡ the_area a → o ≡ Some a
one_is o a e = cc (e)

-- at an area
pub at_area : (q : Place) (a : ℕ) → q ≡ the_area a → LiesAt q a
at_area q a e = subst (λ q. LiesAt q a) (sym e) refl

-- two places of one area
pub one_area : (a b : ℕ) → the_area a ≡ the_area b → a ≡ b
one_area a b e = some_inj a b (one_is (Some a) b e)

pub area_at : (q : Place) (a b : ℕ) → q ≡ the_area a → LiesAt q b → a ≡ b
area_at q a b e h = some_inj a b (subst (λ q. LiesAt q b) e h)

-- ---- values

-- a value that lies nowhere is null
pub has_none : (p : Declarations) (w : World) (t : Ty) (v : Value) → Has p w (an_object t (in_one None)) v → v ≡ Null
has_none p w t v (inl e) = e
has_none p w t v (inr o) = absurd (let e = o.lies in cc (e))

pub has_where : (p : Declarations) (w : World) (t : Ty) (a b : Place) (v : Value) → IsInside a b →
    Has p w (an_object t a) v → Has p w (an_object t b) v
has_where p w t a b v g (inl e) = inl e
has_where p w t a b v g (inr o) =
    inr (record {
      r = o.r;
      is = o.is;
      object = o.object;
      found = o.found;
      of_type = o.of_type;
      lies = g o.object.area o.lies;
    })

-- a view of scopes that is right on a list: null is nowhere, a scope is the list's area of it, and what lies beside an
-- object lies where that does
pub record IsView (areas : ℕ → Option MemoryArea) (list : List ℕ) (den : Scope → Place) : Type 0 where
  pub none : den Any ≡ in_one None
  pub named : (s : ℕ) → den (In s) ≡ in_one (area_named areas s list)
  pub beside_there : (s : Scope) → IsInside (den s) (den (beside s))

-- what a slot holds, seen from a frame that has its object in this scope
pub slot_seen : (p : Declarations) (w : World) (list : List ℕ) (fine : ListFine w.areas list) (den : Scope → Place) →
    IsView w.areas list den → (a : ℕ) → is_among a list ≡ true → (scope : Scope) →
    LiesAt (den scope) a → (k : Kind) → IsSlotKind k → (v : Value) → Has p w (held (within w.areas a) k) v →
    Has p w (held den (seen_kind scope Caller k)) v
unfolding held seen_kind seen_as within IsSlotKind
slot_seen p w list fine den view a on scope here number fs v h = h
slot_seen p w list fine den view a on scope here truth fs v h = h
slot_seen p w list fine den view a on scope here yes fs v h = h
slot_seen p w list fine den view a on scope here (fresh class s) fs v h = absurd fs
slot_seen p w list fine den view a on scope here (reference t This) fs v h =
    has_where p w t (the_area a) (den (beside scope)) v
    (λ n e. view.beside_there scope n (subst (LiesAt (den scope)) (some_inj a n e) here)) h
slot_seen p w list fine den view a on scope here (reference t (In s)) fs v h =
    has_where p w t (in_one (area_around w.areas s (suc a) a)) (den (In s)) v
    (λ n e. subst (λ q. LiesAt q n) (sym (view.named s)) (around_named w.areas list fine s n (suc a) a on e)) h
slot_seen p w list fine den view a on scope here (reference t Caller) fs v h = absurd fs
slot_seen p w list fine den view a on scope here (reference t Any) fs v h = absurd fs
slot_seen p w list fine den view a on scope here (reference t Unknown) fs v h = absurd fs
slot_seen p w list fine den view a on scope here (reference t Lost) fs v h = absurd fs

-- a value that fits a place has what is asked there: den is the frame's view, and den2 the place's. What is unknown lies
-- on the frame's list, and so where the place's view says of it
module _ (code : Code) (facts : Facts code) (w : World) (den den2 : Scope → Place) (home now : Scope)
    (none : den Any ≡ in_one None) (real : home ≡ Any → ⊥) where
  abbrev AgreesOn : Kind → Type 0
  AgreesOn k =
      (t : Ty) (r : Scope) → k ≡ reference t r → NamesArea (seen_as home now r) → IsInside (den (seen_as home now r)) (den2 r)

  -- what may go to an unknown place of the kind lies there
  abbrev TakesUnknown : Kind → Type 0
  TakesUnknown k = (t : Ty) → k ≡ reference t Unknown → (s : Scope) → IsInside (den s) (den2 Unknown)

  place_fits : (j k : Kind) → TakesUnknown k → AgreesOn k → Fits code.program home now j k → (v : Value) →
      Has code.program w (held den j) v → Has code.program w (held den2 k) v
  unfolding held
  place_fits number number unknown agree f v h = h
  place_fits truth truth unknown agree f v h = h
  place_fits yes truth unknown agree f v h = (true, h)
  place_fits (reference t s) (reference u r) unknown agree f v (inl e) = inl e
  place_fits (reference t s) (reference u r) unknown agree f v (inr o) = go f.1
    where
      moved : LiesAt (den2 r) o.object.area → Has code.program w (an_object u (den2 r)) v
      moved e =
          inr (record {
            r = o.r;
            is = o.is;
            object = o.object;
            found = o.found;
            of_type = facts.assigned o.object.class t u o.of_type f.0;
            lies = e;
          })

      nowhere : s ≡ Any → ⊥
      nowhere e =
          let x : LiesAt (in_one None) o.object.area =
          subst (λ q. LiesAt q o.object.area) (ap den e ∙ none) o.lies in
          absurd (cc (x))

      go : GoesTo home now s r → Has code.program w (an_object u (den2 r)) v
      go (inl e) = absurd (nowhere e)
      go (inr (inl e)) =
          moved (subst (λ r. LiesAt (den2 r) o.object.area) (sym e)
          (unknown u (ap (λ r. reference u r) e) s o.object.area o.lies))
      go (inr (inr (inl e))) =
          moved (agree u r refl (subst NamesArea e.1 e.0) o.object.area
          (subst (λ s. LiesAt (den s) o.object.area) e.1 o.lies))
      go (inr (inr (inr e))) = absurd (real e.1)
  place_fits _ _ unknown agree f v h = absurd f

  pub has_fits : ((s : Scope) → IsInside (den s) (den2 Unknown)) → (j k : Kind) → AgreesOn k →
      Fits code.program home now j k → (v : Value) → Has code.program w (held den j) v →
      Has code.program w (held den2 k) v
  has_fits unknown j k agree f v h = place_fits j k (λ t e. unknown) agree f v h

  -- of a place that is never unknown
  pub known_fits : (j k : Kind) → ((t : Ty) → k ≡ reference t Unknown → ⊥) → AgreesOn k →
      Fits code.program home now j k → (v : Value) → Has code.program w (held den j) v →
      Has code.program w (held den2 k) v
  known_fits j k known agree f v h = place_fits j k (λ t e. absurd (known t e)) agree f v h
