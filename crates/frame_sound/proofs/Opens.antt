-- A new area: what lay somewhere still lies there, on each list of areas that were there.
use Rattle.std.specs.Prelude.{Option, Some, None, slice_get, ◌||◌, ◌==◌, ◌++◌, if◌then◌else◌}
use Rattle.std.proofs.Common.{◌≡◌, ℕ, zero, suc, ◌<◌, List, [], ◌∷◌, length, Bool, true, false, refl, sym, ◌∙◌, ap, arith, ◌⊎◌, inl, inr}
use Rattle.std.proofs.lemmas.Bool.Decides.{nat_tests}
use Rattle.scj_base.specs.declared.values.Value.{Value}
use Rattle.scj_rules.specs.declared.typing.Scope.{Scope}
use Rattle.scj_rules.specs.declared.typing.Scope.TheVariants.{Any, This, Caller, In, Unknown, Lost}
use Rattle.scj_rules.specs.declared.views.Body.{Body}
use Rattle.scj_rules.specs.Words.{is_among, holds, ◌>>=◌}
use Rattle.scj_rules.specs.Contexts.{Declarations}
use Rattle.accepted_laws.specs.Kinds.{Kind, number, truth, yes, reference, fresh}
use Rattle.accepted_laws.proofs.Lists.{get_left, get_last, get_within}
use Rattle.accepted_laws.proofs.Tools.{some_inj}
use Rattle.scj_model.specs.Code.{Code}
use Rattle.scj_model.specs.State.{MemoryArea, Object, Frame}
use Rattle.frame_sound.specs.Places.{World, Held, area_named, area_around, within, held, Has}
use Rattle.frame_sound.specs.Fine.{IsInside, ListFine, HeapFine, StaticsFine, IsOn, Under}
use Rattle.frame_sound.proofs.ListsStay.{Stay, are_there, list_stays, named_stays}
use Rattle.frame_sound.proofs.Places.{has_where}
use Rattle.frame_sound.proofs.Keeps.{ObjectsAreKept, Keeps, has_kept, under_kept, on_kept}

module _ (areas : List MemoryArea) (new : MemoryArea) where
  abbrev pub old_areas : ℕ → Option MemoryArea
  old_areas = λ b. slice_get areas b

  abbrev pub more_areas : ℕ → Option MemoryArea
  more_areas = λ b. slice_get (areas ++ new ∷ []) b

  pub still : (b : ℕ) (x : MemoryArea) → old_areas b ≡ Some x → more_areas b ≡ Some x
  still b x e = get_left areas (new ∷ []) b x e

  stay : (list : List ℕ) → Stay old_areas more_areas list
  stay list b x on e = still b x e

  pub around_more : (s bound a r : ℕ) → area_around old_areas s bound a ≡ Some r →
      area_around more_areas s bound a ≡ Some r
  unfolding area_around
  around_more s zero a r e = absurd (cc (e))
  around_more s (suc bound) a r e = go (old_areas a) refl e (around_more s bound)
    where
      up : (o : Option ℕ) → o >>= area_around old_areas s bound ≡ Some r →
          ((b r : ℕ) → area_around old_areas s bound b ≡ Some r → area_around more_areas s bound b ≡ Some r) →
          o >>= area_around more_areas s bound ≡ Some r
      up None e ih = absurd (cc (e))
      up (Some b) e ih = ih b r e

      pick : (x : MemoryArea) (t : Bool) →
          (if t then Some a else (x.parent >>= area_around old_areas s bound)) ≡ Some r →
          ((b r : ℕ) → area_around old_areas s bound b ≡ Some r → area_around more_areas s bound b ≡ Some r) →
          (if t then Some a else (x.parent >>= area_around more_areas s bound)) ≡ Some r
      pick x true e ih = e
      pick x false e ih = up x.parent e ih

      go : (o : Option MemoryArea) → old_areas a ≡ o →
          o >>= (λ x. if x.scope == s then Some a else (x.parent >>= area_around old_areas s bound)) ≡ Some r →
          ((b r : ℕ) → area_around old_areas s bound b ≡ Some r → area_around more_areas s bound b ≡ Some r) →
          more_areas a >>= (λ x. if x.scope == s then Some a else (x.parent >>= area_around more_areas s bound))
          ≡ Some r
      go None there e ih = absurd (cc (e))
      go (Some x) there e ih =
          ap (λ (o : Option MemoryArea). o
          >>= (λ x. if x.scope == s then Some a else (x.parent >>= area_around more_areas s bound)))
          (still a x there)
          ∙ pick x (x.scope == s) e ih

  within_more : (a : ℕ) (s : Scope) → IsInside (within old_areas a s) (within more_areas a s)
  unfolding within
  within_more a This n e = e
  within_more a (In s) n e = around_more s (suc a) a n e
  within_more a Caller n e = absurd (cc (e))
  within_more a Any n e = absurd (cc (e))
  within_more a Unknown n e = absurd (cc (e))
  within_more a Lost n e = absurd (cc (e))

  pub list_more : (list : List ℕ) → ListFine old_areas list → ListFine more_areas list
  list_more list fine = list_stays old_areas more_areas list fine (stay list)

  module _ (objects : ℕ → Option Object) where
    abbrev pub low_world : World
    low_world = record { areas = old_areas; objects = objects }

    abbrev pub more_world : World
    more_world = record { areas = more_areas; objects = objects }

    pub more_keeps : (list : List ℕ) → Unit {0} → ListFine old_areas list → Keeps low_world more_world list
    more_keeps list u fine =
        record {
          named = λ s. named_stays old_areas more_areas s list (are_there old_areas more_areas list fine) (stay list);
          fine = list_more list fine;
        }

    pub objects_are : ObjectsAreKept low_world more_world
    objects_are r o e = record { object = o; found = e; class = refl; area = refl }

    pub under_more : (code : Code) (base : List ℕ) (fs : List Frame) (given : Option Held) →
        Under code low_world base fs given → Under code more_world base fs given
    under_more code base fs given u =
        under_kept code low_world more_world objects_are (λ list. Unit {0}) (λ xs ys h. tt) more_keeps base fs given tt
        u

    pub on_more : (code : Code) (base : List ℕ) (body : Body) (called_at this : Option ℕ) (area : ℕ) (fs : List Frame)
        (given : Option Held) → Under code low_world base fs given →
        IsOn code low_world base body called_at this area fs → IsOn code more_world base body called_at this area fs
    on_more code base body called_at this area fs given u on =
        on_kept code low_world more_world objects_are (λ list. Unit {0}) (λ xs ys h. tt) more_keeps base body called_at
        this area fs given tt u on

    held_more : (p : Declarations) (a : ℕ) (k : Kind) (v : Value) → Has p low_world (held (within old_areas a) k) v →
        Has p more_world (held (within more_areas a) k) v
    unfolding held
    held_more p a number v h = h
    held_more p a truth v h = h
    held_more p a yes v h = h
    held_more p a (reference t s) v h =
        has_where p more_world t (within old_areas a s) (within more_areas a s) v (within_more a s)
        (has_kept p low_world more_world objects_are (held (within old_areas a) (reference t s)) v h)
    held_more p a (fresh c s) v o =
        record {
          r = o.r;
          is = o.is;
          object = o.object;
          found = o.found;
          of_type = o.of_type;
          lies = within_more a s o.object.area o.lies;
        }

    pub heap_more : (p : Declarations) → HeapFine p low_world → HeapFine p more_world
    heap_more p heap r o e =
        let f = heap r o e in
        record {
          is_instance = f.is_instance;
          area = f.area;
          is_area = still o.area f.area f.is_area;
          is_placed = f.is_placed;
          reach = λ slot t n is. (let q = f.reach slot t n is in (q.0, around_more n (suc o.area) o.area q.0 q.1));
          is_full = f.is_full;
          has = λ slot k v is there. held_more p o.area k v (f.has slot k v is there);
        }

    pub statics_more : (p : Declarations) (statics : List Value) → StaticsFine p low_world statics →
        StaticsFine p more_world statics
    statics_more p statics h place k is =
        let s = h place k is in record { value = s.value; is = s.is; has = held_more p 0 k s.value s.has }

  -- ---- the list with the new area in front

  abbrev pub a : ℕ
  a = length areas

  pub list_open : (list : List ℕ) → ListFine old_areas list → new.is_open ≡ true →
      area_named old_areas new.scope list ≡ None → ((b : ℕ) → new.parent ≡ Some b → is_among b list ≡ true) →
      ListFine more_areas (a ∷ list)
  unfolding area_named
  list_open list fine opens fresh_ up =
      record {
        found = found;
        closed_up = closed_up;
        are_open = are_open;
        are_distinct = (not_there, fine.are_distinct);
        immortal = low.immortal;
        has_immortal = later_on 0 low.has_immortal;
      }
    where
      low : ListFine more_areas list
      low = list_more list fine

      first : area_named more_areas new.scope (a ∷ list) ≡ Some a
      first =
          let t : (new.scope == new.scope) ≡ true = grind (arith, nat_tests) in
          ap (λ (o : Option MemoryArea). if holds o (λ y. y.scope == new.scope) then Some a else area_named more_areas
          new.scope list) (get_last areas new)
          ∙ ap (λ t. if t then Some a else area_named more_areas new.scope list) t

      later : (s : ℕ) → (new.scope == s) ≡ false →
          area_named more_areas s (a ∷ list) ≡ area_named more_areas s list
      later s f =
          ap (λ (o : Option MemoryArea). if holds o (λ y. y.scope == s) then Some a else area_named more_areas s list)
          (get_last areas new)
          ∙ ap (λ t. if t then Some a else area_named more_areas s list) f

      cases : (b : ℕ) (t : Bool) → (b == a) ≡ t → (t || is_among b list) ≡ true → (b ≡ a) ⊎ (is_among b list ≡ true)
      cases b true e h = inl (grind (arith, nat_tests))
      cases b false e h = inr h

      other : (s b : ℕ) → area_named more_areas s list ≡ Some b → (t : Bool) → (new.scope == s) ≡ t →
          (new.scope == s) ≡ false
      other s b e true t =
          absurd (let same : new.scope ≡ s = grind (arith, nat_tests) in
          let x : None ≡ Some b =
          sym fresh_
          ∙ (sym (named_stays old_areas more_areas new.scope list (are_there old_areas more_areas list fine)
          (stay list)) ∙ (ap (λ n. area_named more_areas n list) same ∙ e)) in cc (x))
      other s b e false t = t

      later_on : (b : ℕ) → is_among b list ≡ true → is_among b (a ∷ list) ≡ true
      later_on b h = elim (b == a) as (λ t. (t || is_among b list) ≡ true) [ true ↦ refl | false ↦ h ]

      found : (b : ℕ) → is_among b (a ∷ list) ≡ true →
          (x : MemoryArea) × (more_areas b ≡ Some x) × (area_named more_areas x.scope (a ∷ list) ≡ Some b)
      found b on =
          elim (cases b (b == a) refl on) as (λ z. (x : MemoryArea) × (more_areas b ≡ Some x) ×
          (area_named more_areas x.scope (a ∷ list) ≡ Some b)) [
            | inl e ↦ (new, ap more_areas e ∙ get_last areas new, first ∙ ap (λ n. Some n) (sym e))
            | inr h ↦ (let x = low.found b h in
                (x.0, x.1, later x.0.scope (other x.0.scope b x.2 (new.scope == x.0.scope) refl) ∙ x.2))
          ]

      are_open : (b : ℕ) (x : MemoryArea) → is_among b (a ∷ list) ≡ true → more_areas b ≡ Some x → x.is_open ≡ true
      are_open b x on e =
          elim (cases b (b == a) refl on) as (λ z. x.is_open ≡ true) [
            | inl s ↦ ap (λ (y : MemoryArea). y.is_open)
                (some_inj x new (sym e ∙ (ap more_areas s ∙ get_last areas new))) ∙ opens
            | inr h ↦ low.are_open b x h e
          ]

      not_there : is_among a list ≡ false
      not_there = go (is_among a list) refl
        where
          go : (t : Bool) → is_among a list ≡ t → is_among a list ≡ false
          go false e = e
          go true e =
              absurd (let y = fine.found a e in let l : a < length areas = get_within areas a y.0 y.1 in
              omega (arith, l))

      closed_up : (b d : ℕ) (x : MemoryArea) → is_among b (a ∷ list) ≡ true → more_areas b ≡ Some x →
          x.parent ≡ Some d → is_among d (a ∷ list) ≡ true
      closed_up b d x on e p =
          later_on d (elim (cases b (b == a) refl on) as (λ z. is_among d list ≡ true) [
            | inl s ↦ up d
                (ap (λ (y : MemoryArea). y.parent)
                (some_inj new x (sym (get_last areas new) ∙ (ap more_areas (sym s) ∙ e))) ∙ p)
            | inr h ↦ low.closed_up b d x h e p
          ])
