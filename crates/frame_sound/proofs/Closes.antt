-- An area that is closed keeps its scope and its parent: what lies somewhere still lies there, and the lists without it
-- are as fine as before.
use Rattle.std.specs.Prelude.{Option, Some, None, slice_get, slice_set, ◌||◌, ◌==◌, ◌++◌, if◌then◌else◌}
use Rattle.std.proofs.Common.{◌≡◌, ℕ, zero, suc, List, [], ◌∷◌, Bool, true, false, refl, sym, ◌∙◌, ap, subst, true≢false, ◌⊎◌, inl, inr}
use Rattle.std.proofs.Common.{arith}
use Rattle.std.proofs.lemmas.Bool.Decides.{nat_tests}
use Rattle.scj_base.specs.declared.values.Value.{Value}
use Rattle.scj_rules.specs.declared.typing.Scope.{Scope}
use Rattle.scj_rules.specs.declared.typing.Scope.TheVariants.{Any, This, Caller, In, Unknown, Lost}
use Rattle.scj_rules.specs.Words.{is_among, holds, ◌>>=◌}
use Rattle.scj_rules.specs.Contexts.{Declarations}
use Rattle.scj_rules.specs.ScopeRules.{immortal_scope, is_outer, parent_scope}
use Rattle.accepted_laws.specs.Kinds.{Kind}
use Rattle.accepted_laws.proofs.Tools.{some_inj}
use Rattle.scj_model.specs.Code.{Code}
use Rattle.scj_model.specs.State.{MemoryArea, Object, Frame, changed}
use Rattle.frame_sound.specs.Places.{World, Held, in_one, area_named, area_around, within, held, Has}
use Rattle.frame_sound.specs.Fine.{ListFine, IsInParent, AreasFine, HeapFine, StaticsFine, Under, list_of}
use Rattle.frame_sound.proofs.Keeps.{ObjectsAreKept, Keeps, has_kept, under_kept}
use Rattle.frame_sound.proofs.Changes.{changed_at, changed_off, changed_from}

abbrev pub with_closed : MemoryArea → MemoryArea
with_closed x = record x { is_open = false }

module _ (areas : List MemoryArea) (a : ℕ) where
  abbrev pub old_areas : ℕ → Option MemoryArea
  old_areas = λ b. slice_get areas b

  abbrev pub new_areas : ℕ → Option MemoryArea
  new_areas = λ b. slice_get (changed with_closed a areas) b

  -- an area behind the closing was there, with the same scope and parent
  pub record Was (b : ℕ) (y : MemoryArea) : Type 0 where
    pub area : MemoryArea
    pub is_there : old_areas b ≡ Some area
    pub scope : y.scope ≡ area.scope
    pub parent : y.parent ≡ area.parent
    pub is_open : (b ≡ a → ⊥) → y.is_open ≡ area.is_open

  pub was : (b : ℕ) (y : MemoryArea) → new_areas b ≡ Some y → Was b y
  was b y e =
      elim (changed_from with_closed a areas b y e) as (λ z. Was b y) [
        | inl g ↦ record { area = y; is_there = g; scope = refl; parent = refl; is_open = λ n. refl }
        | inr g ↦ record {
          area = g.0;
          is_there = ap old_areas g.3 ∙ g.1;
          scope = ap (λ (x : MemoryArea). x.scope) (sym g.2);
          parent = ap (λ (x : MemoryArea). x.parent) (sym g.2);
          is_open = λ n. absurd (n g.3);
        }
      ]

  -- and each that was there is there
  pub record Stays (b : ℕ) (x : MemoryArea) : Type 0 where
    pub area : MemoryArea
    pub is_there : new_areas b ≡ Some area
    pub scope : area.scope ≡ x.scope
    pub parent : area.parent ≡ x.parent

  pub stays : (b : ℕ) (x : MemoryArea) → old_areas b ≡ Some x → Stays b x
  stays b x e = go (new_areas b) refl
    where
      back : (o : Option MemoryArea) → slice_get areas a ≡ o → new_areas b ≡ None → ⊥
      back None g h =
          let same : new_areas b ≡ old_areas b =
          ap
          (λ (o : Option MemoryArea). slice_get
          (elim o as (λ z. List MemoryArea) [ None ↦ areas | Some y ↦ slice_set areas a (with_closed y) ]) b) g in
          cc (same, h, e)
      back (Some y) g h = found_still (a == b) refl
        where
          found_still : (t : Bool) → (a == b) ≡ t → ⊥
          found_still true t =
              let s : a ≡ b = grind (arith, nat_tests) in
              let n = changed_at with_closed a areas y g in
              let m : new_areas b ≡ Some (with_closed y) = ap new_areas (sym s) ∙ n in cc (m, h)
          found_still false t =
              let n = changed_off with_closed a areas b (λ s. grind (arith, nat_tests)) in cc (n, h, e)

      go : (o : Option MemoryArea) → new_areas b ≡ o → Stays b x
      go None h = absurd (back (slice_get areas a) refl h)
      go (Some y) h =
          let q = was b y h in
          let same : q.area ≡ x = some_inj q.area x (sym q.is_there ∙ e) in
          record {
            area = y;
            is_there = h;
            scope = q.scope ∙ ap (λ (z : MemoryArea). z.scope) same;
            parent = q.parent ∙ ap (λ (z : MemoryArea). z.parent) same;
          }

  missing : (b : ℕ) → old_areas b ≡ None → new_areas b ≡ None
  missing b e = go (new_areas b) refl
    where
      go : (o : Option MemoryArea) → new_areas b ≡ o → new_areas b ≡ None
      go None h = h
      go (Some y) h = absurd (let q = was b y h in let z = q.is_there in cc (z, e))

  pub named_still : (n : ℕ) (list : List ℕ) → area_named new_areas n list ≡ area_named old_areas n list
  unfolding area_named
  named_still n [] = refl
  named_still n (b ∷ list) = go (old_areas b) refl (named_still n list)
    where
      go : (o : Option MemoryArea) → old_areas b ≡ o → area_named new_areas n list ≡ area_named old_areas n list →
          (if holds (new_areas b) (λ x. x.scope == n) then Some b else area_named new_areas n list)
          ≡ (if holds (old_areas b) (λ x. x.scope == n) then Some b else area_named old_areas n list)
      go None e ih =
          ap (λ (o : Option MemoryArea). if holds o (λ x. x.scope == n) then Some b else area_named new_areas n list)
          (missing b e)
          ∙ (ih
          ∙ sym
          (ap
          (λ (o : Option MemoryArea). if holds o (λ x. x.scope == n) then Some b else area_named old_areas n list)
          e))
      go (Some x) e ih =
          let q = stays b x e in
          ap (λ (o : Option MemoryArea). if holds o (λ x. x.scope == n) then Some b else area_named new_areas n list)
          q.is_there
          ∙ (ap (λ s. if s == n then Some b else area_named new_areas n list) q.scope
          ∙ (ap (λ r. if x.scope == n then Some b else r) ih
          ∙ sym
          (ap
          (λ (o : Option MemoryArea). if holds o (λ x. x.scope == n) then Some b else area_named old_areas n list)
          e)))

  pub around_still : (n bound b : ℕ) → area_around new_areas n bound b ≡ area_around old_areas n bound b
  unfolding area_around
  around_still n zero b = refl
  around_still n (suc bound) b = go (old_areas b) refl (around_still n bound)
    where
      parents_still : ((c : ℕ) → area_around new_areas n bound c ≡ area_around old_areas n bound c) → (o : Option ℕ) →
          o >>= area_around new_areas n bound ≡ o >>= area_around old_areas n bound
      parents_still ih None = refl
      parents_still ih (Some c) = ih c

      go : (o : Option MemoryArea) → old_areas b ≡ o →
          ((c : ℕ) → area_around new_areas n bound c ≡ area_around old_areas n bound c) →
          new_areas b >>= (λ x. if x.scope == n then Some b else (x.parent >>= area_around new_areas n bound))
          ≡ old_areas b >>= (λ x. if x.scope == n then Some b else (x.parent >>= area_around old_areas n bound))
      go None e ih =
          ap (λ (o : Option MemoryArea). o
          >>= (λ x. if x.scope == n then Some b else (x.parent >>= area_around new_areas n bound))) (missing b e)
          ∙ sym
          (ap
          (λ (o : Option MemoryArea). o
          >>= (λ x. if x.scope == n then Some b else (x.parent >>= area_around old_areas n bound))) e)
      go (Some x) e ih =
          let q = stays b x e in
          ap (λ (o : Option MemoryArea). o
          >>= (λ x. if x.scope == n then Some b else (x.parent >>= area_around new_areas n bound))) q.is_there
          ∙ (ap (λ s. if s == n then Some b else (q.area.parent >>= area_around new_areas n bound)) q.scope
          ∙ (ap (λ (o : Option ℕ). if x.scope == n then Some b else (o >>= area_around new_areas n bound)) q.parent
          ∙ (ap (λ r. if x.scope == n then Some b else r) (parents_still ih x.parent)
          ∙ sym
          (ap
          (λ (o : Option MemoryArea). o
          >>= (λ x. if x.scope == n then Some b else (x.parent >>= area_around old_areas n bound))) e))))

  within_still : (b : ℕ) → within new_areas b ≡ within old_areas b
  unfolding within
  within_still b = λ i s. same s i
    where
      same : (s : Scope) → within new_areas b s ≡ within old_areas b s
      same This = refl
      same (In n) = ap (λ o. in_one o) (around_still n (suc b) b)
      same Caller = refl
      same Any = refl
      same Unknown = refl
      same Lost = refl

  -- a list on which the area doesn't stand
  pub list_closed : (list : List ℕ) → is_among a list ≡ false → ListFine old_areas list → ListFine new_areas list
  list_closed list off fine =
      record {
        found = λ b on. (let x = fine.found b on in let q = stays b x.0 x.1 in
            (q.area, q.is_there, ap (λ m. area_named new_areas m list) q.scope ∙ (named_still x.0.scope list ∙ x.2)));
        closed_up = λ b c y on there up. (let x = was b y there in
            fine.closed_up b c x.area on x.is_there (sym x.parent ∙ up));
        are_open = λ b y on there. (let x = was b y there in
            x.is_open (λ s. true≢false (sym on ∙ ap (λ z. is_among z list) s ∙ off))
            ∙ fine.are_open b x.area on x.is_there);
        are_distinct = fine.are_distinct;
        immortal = (let q = stays 0 fine.immortal.area fine.immortal.is_there in
            record { area = q.area; is_there = q.is_there; is_immortal = q.scope ∙ fine.immortal.is_immortal });
        has_immortal = fine.has_immortal;
      }

  module _ (objects : ℕ → Option Object) where
    abbrev pub open_world : World
    open_world = record { areas = old_areas; objects = objects }

    abbrev pub closed_world : World
    closed_world = record { areas = new_areas; objects = objects }

    pub closed_keeps : (list : List ℕ) → is_among a list ≡ false → ListFine old_areas list →
        Keeps open_world closed_world list
    closed_keeps list off fine = record { named = λ s. named_still s list; fine = list_closed list off fine }

    pub objects_stay : ObjectsAreKept open_world closed_world
    objects_stay r o e = record { object = o; found = e; class = refl; area = refl }

    off_tail : (xs ys : List ℕ) → is_among a (xs ++ ys) ≡ false → is_among a ys ≡ false
    off_tail [] ys h = h
    off_tail (x ∷ xs) ys h = off_tail xs ys (second (a == x) (is_among a (xs ++ ys)) h)
      where
        second : (s t : Bool) → (s || t) ≡ false → t ≡ false
        second true t e = absurd (true≢false e)
        second false t e = e

    -- the frames whose lists don't have the area
    pub under_closed : (code : Code) (base : List ℕ) (fs : List Frame) (given : Option Held) →
        is_among a (list_of base fs) ≡ false → Under code open_world base fs given →
        Under code closed_world base fs given
    under_closed code base fs given off u =
        under_kept code open_world closed_world objects_stay (λ list. is_among a list ≡ false) off_tail closed_keeps
        base
        fs given off u

    in_parent : (p : Declarations) (b : ℕ) (y : MemoryArea) (x : Was b y) → IsInParent p old_areas x.area →
        IsInParent p new_areas y
    in_parent p b y x i =
        let q = stays i.parent i.around i.is_there in
        record {
          parent = i.parent;
          is = x.parent ∙ i.is;
          around = q.area;
          is_there = q.is_there;
          of_scope = ap (parent_scope p) x.scope ∙ (i.of_scope ∙ ap (λ n. Some n) (sym q.scope));
        }

    pub areas_closed : (p : Declarations) → AreasFine p old_areas → AreasFine p new_areas
    areas_closed p fine =
        record {
          parents = λ b y there. (let x = was b y there in
              elim (fine.parents b x.area x.is_there) as (λ z. (b ≡ 0) ⊎ IsInParent p new_areas y) [
                | inl e ↦ inl e
                | inr i ↦ inr (in_parent p b y x i)
              ]);
          reach = λ b n y there h. (let x = was b y there in
              let q =
              fine.reach b n x.area x.is_there
              (elim h as (λ z. (n ≡ immortal_scope) ⊎ (is_outer p n x.area.scope ≡ true)) [
                | inl i ↦ inl i
                | inr o ↦ inr (subst (λ m. is_outer p n m ≡ true) x.scope o)
              ]) in
              (q.0, around_still n (suc b) b ∙ q.1));
        }

    held_closed : (p : Declarations) (b : ℕ) (k : Kind) (v : Value) → Has p open_world (held (within old_areas b) k) v →
        Has p closed_world (held (within new_areas b) k) v
    held_closed p b k v h =
        subst (λ d. Has p closed_world (held d k) v) (sym (within_still b))
        (has_kept p open_world closed_world objects_stay (held (within old_areas b) k) v h)

    pub heap_closed : (p : Declarations) → HeapFine p open_world → HeapFine p closed_world
    heap_closed p heap r o e =
        let f = heap r o e in
        let q = stays o.area f.area f.is_area in
        record {
          is_instance = f.is_instance;
          area = q.area;
          is_area = q.is_there;
          is_placed = λ n is. q.scope ∙ f.is_placed n is;
          reach = λ slot t n is. (let z = f.reach slot t n is in (z.0, around_still n (suc o.area) o.area ∙ z.1));
          is_full = f.is_full;
          has = λ slot k v is there. held_closed p o.area k v (f.has slot k v is there);
        }

    pub statics_closed : (p : Declarations) (statics : List Value) → StaticsFine p open_world statics →
        StaticsFine p closed_world statics
    statics_closed p statics h place k is =
        let s = h place k is in
        record { value = s.value; is = s.is; has = held_closed p 0 k s.value s.has }
