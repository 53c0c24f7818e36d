-- The scope of an open area, found among the open areas.
use Rattle.std.specs.Prelude.{Option, Some, None, option_map, slice_get, if◌then◌else◌, ◌==◌, is_some}
use Rattle.std.proofs.Common.{◌≡◌, ◌∙◌, Bool, true, false, ℕ, zero, suc, ◌+◌, ◌<◌, ◌≤◌, ◌⊎◌, inl, inr, nat_lt, List, [], ◌∷◌, length, refl, ap, sym, arith}
use Rattle.std.proofs.lemmas.Bool.Decides.{nat_tests}
use Rattle.scj_rules.specs.Words.{◌>>=◌, holds}
use Rattle.scj_rules.specs.Layout.{size_with_slots}
use Rattle.scj_model.specs.declared.operations.SeqOp.TheVariants.{AllocSafelet, Finished}
use Rattle.scj_model.specs.declared.phases.Phase.TheVariants.{Over}
use Rattle.scj_model.specs.State.{MemoryArea, Object, State}
use Rattle.scj_model.specs.Memory.{area_with_scope, has_room, new_slots, used}
use Rattle.scj_model.specs.Sequencer.{innermost}
use Rattle.scj_model.specs.Code.{Code}
use Rattle.scj_rules.specs.Bodies.{safelet_class}
use Rattle.area_needs.specs.declared.refusals.Refusal.{Refusal}
use Rattle.area_needs.specs.Refusals.{refused_in, refused_own}
use Rattle.scj_model.specs.Run.{no_activity}
use Rattle.region_heap.specs.declared.open_areas.Area.{Area}
use Rattle.region_heap.specs.Contents.{Contents, is_open_area, with_memory}
use Rattle.region_heap.specs.Kept.{used_bytes}
use Rattle.region_heap.specs.OpenAreas.{open_areas}
use Rattle.region_heap.proofs.Lists.{get_within}

abbrev refusal_of : ℕ → ℕ → Refusal
refusal_of scope bytes = record { scope = scope; bytes = bytes }

-- an open area is listed
pub record IsListed (objects : List Object) (n : ℕ) (areas : List MemoryArea) (x : MemoryArea) : Type 0 where
  pub index : ℕ
  pub area : Area
  pub there : slice_get (open_areas objects n areas) index ≡ Some area
  pub of_scope : area.name ≡ x.scope

abbrev either : List Object → ℕ → MemoryArea → List MemoryArea → Bool → List Area
either objects n y areas b =
    if b then record { name = y.scope; bytes = y.bytes; used = used_bytes objects n }
    ∷ open_areas objects (n + 1) areas else open_areas objects (n + 1) areas

pub listed : (objects : List Object) (n : ℕ) (areas : List MemoryArea) (a : ℕ) (x : MemoryArea) →
    slice_get areas a ≡ Some x → x.is_open ≡ true → IsListed objects n areas x
unfolding open_areas
listed objects n [] a x e h = absurd (cc (e))
listed objects n (y ∷ areas) zero x e h =
    let same : y ≡ x = cc in
    let is_open : y.is_open ≡ true = ap (λ (z : MemoryArea). z.is_open) same ∙ h in
    record {
      index = 0;
      area = record { name = y.scope; bytes = y.bytes; used = used_bytes objects n };
      there = ap (λ (b : Bool). slice_get (if b then record { name = y.scope; bytes = y.bytes; used = used_bytes objects n }
          ∷ open_areas objects (n + 1) areas else open_areas objects (n + 1) areas) 0) is_open;
      of_scope = ap (λ (z : MemoryArea). z.scope) same;
    }
listed objects n (y ∷ areas) (suc a) x e h = go (listed objects (n + 1) areas a x e h) y.is_open refl
  where
    go : IsListed objects (n + 1) areas x → (b : Bool) → y.is_open ≡ b → IsListed objects n (y ∷ areas) x
    go more true k = record {
      index = suc more.index;
      area = more.area;
      there = ap (λ (b : Bool). slice_get (either objects n y areas b) (suc more.index)) k ∙ more.there;
      of_scope = more.of_scope;
    }
    go more false k = record {
      index = more.index;
      area = more.area;
      there = ap (λ (b : Bool). slice_get (either objects n y areas b) more.index) k ∙ more.there;
      of_scope = more.of_scope;
    }

-- none of the first areas has the scope
abbrev pub NoneHas : Contents → ℕ → ℕ → Type 0
NoneHas m area i =
    (x : MemoryArea) → slice_get m.areas area ≡ Some x → (j : ℕ) (y : Area) → j < i →
    slice_get (open_areas m.objects 0 m.areas) j ≡ Some y → y.name ≡ x.scope → ⊥

ends : (areas : List Area) (i : ℕ) → slice_get areas i ≡ None → length areas ≤ i
ends [] i e = omega arith
ends (a ∷ more) zero e = absurd (cc (e))
ends (a ∷ more) (suc i) e = let h : length more ≤ i = ends more i e in omega (arith, h)

-- there is always one that has it
pub one_has : (m : Contents) (area i : ℕ) → is_open_area m area ≡ true → NoneHas m area i →
    None ≡ slice_get (open_areas m.objects 0 m.areas) i → i ≤ length (open_areas m.objects 0 m.areas) → ⊥
one_has m area i is_open none past within = go (slice_get m.areas area) refl
  where
    go : (o : Option MemoryArea) → slice_get m.areas area ≡ o → ⊥
    go None e = let h : false ≡ true = ap (λ (o : Option MemoryArea). holds o (λ x. x.is_open)) (sym e) ∙ is_open in cc (h)
    go (Some x) e =
        let h : x.is_open ≡ true = ap (λ (o : Option MemoryArea). holds o (λ x. x.is_open)) (sym e) ∙ is_open in
        let l : IsListed m.objects 0 m.areas x = listed m.objects 0 m.areas area x e h in
        let w : l.index < length (open_areas m.objects 0 m.areas) =
        get_within (open_areas m.objects 0 m.areas) l.index l.area l.there in
        none x e l.index l.area (omega (arith, w, ends (open_areas m.objects 0 m.areas) i (sym past))) l.there l.of_scope

-- ---- whether an area has a scope

-- any state
pub any_state : State
any_state =
    record {
      store = 0;
      unit = 0;
      phase = Over;
      operation = Finished;
      outcome = None;
      safelet = None;
      mission_sequencer = None;
      mission = None;
      is_end_asked = false;
      origin = 0;
      earlier_releases = 0;
      last_choice = None;
      statics = [];
      objects = [];
      areas = [];
      releases = [];
      registry = [];
      activity = no_activity;
    }

abbrev found_by : Bool → ℕ → Option ℕ
found_by b area = if b then Some area else None

-- what is found of the area alone
pub has_scope : (m : Contents) (area scope : ℕ) (found : Option ℕ) →
    ((s : State) → found ≡ area_with_scope (with_memory s m) scope (area ∷ [])) → is_some found ≡ true →
    option_map (λ (x : MemoryArea). x.scope) (slice_get m.areas area) ≡ Some scope
unfolding area_with_scope
has_scope m area scope found is some = go (slice_get m.areas area) refl
  where
    go : (o : Option MemoryArea) → slice_get m.areas area ≡ o →
        option_map (λ (x : MemoryArea). x.scope) (slice_get m.areas area) ≡ Some scope
    go None e =
        absurd (let h : found ≡ None = is any_state ∙ ap (λ (o : Option MemoryArea).
        found_by (holds o (λ x. x.scope == scope)) area) e in
        let k : false ≡ true = ap is_some (sym h) ∙ some in cc (k))
    go (Some x) e = of (x.scope == scope) refl
      where
        of : (b : Bool) → (x.scope == scope) ≡ b →
            option_map (λ (x : MemoryArea). x.scope) (slice_get m.areas area) ≡ Some scope
        of true t =
            let same : x.scope ≡ scope = grind (arith, nat_tests) in
            ap (option_map (λ (x : MemoryArea). x.scope)) e ∙ ap (λ (n : ℕ). Some n) same
        of false t =
            absurd (let h : found ≡ None = is any_state
            ∙ (ap (λ (o : Option MemoryArea). found_by (holds o (λ x. x.scope == scope)) area) e
            ∙ ap (λ (b : Bool). found_by b area) t) in
            let k : false ≡ true = ap is_some (sym h) ∙ some in cc (k))

pub lacks_scope : (m : Contents) (area scope : ℕ) (found : Option ℕ) →
    ((s : State) → found ≡ area_with_scope (with_memory s m) scope (area ∷ [])) → is_some found ≡ false →
    (x : MemoryArea) → slice_get m.areas area ≡ Some x → scope ≡ x.scope → ⊥
unfolding area_with_scope
lacks_scope m area scope found is none x e same =
    let t : (x.scope == scope) ≡ true = grind (arith, nat_tests) in
    let h : found ≡ Some area = is any_state
    ∙ (ap (λ (o : Option MemoryArea). found_by (holds o (λ x. x.scope == scope)) area) e
    ∙ ap (λ (b : Bool). found_by b area) t) in
    let k : true ≡ false = ap is_some (sym h) ∙ none in
    cc (k)

-- the next area doesn't have it either
pub none_more : (m : Contents) (area i : ℕ) (other : Area) (found : Option ℕ) → NoneHas m area i →
    slice_get (open_areas m.objects 0 m.areas) i ≡ Some other →
    ((s : State) → found ≡ area_with_scope (with_memory s m) other.name (area ∷ [])) → is_some found ≡ false →
    NoneHas m area (i + 1)
none_more m area i other found none there is lacks = λ x e j y l at same. go x e j y l at same (split j i l)
  where
    split : (j i : ℕ) → j < i + 1 → (j < i) ⊎ (j ≡ i)
    split j i l = of_test (nat_lt j i) refl
      where
        of_test : (b : Bool) → nat_lt j i ≡ b → (j < i) ⊎ (j ≡ i)
        of_test true t = inl (grind (arith, nat_tests))
        of_test false t = inr (let h : i ≤ j = grind (arith, nat_tests) in omega (arith, h, l))

    go : (x : MemoryArea) → slice_get m.areas area ≡ Some x → (j : ℕ) (y : Area) → j < i + 1 →
        slice_get (open_areas m.objects 0 m.areas) j ≡ Some y → y.name ≡ x.scope → (j < i) ⊎ (j ≡ i) → ⊥
    go x e j y l at same (inl k) = none x e j y k at same
    go x e j y l at same (inr k) =
        let one : Some y ≡ Some other =
        sym at ∙ (ap (λ (n : ℕ). slice_get (open_areas m.objects 0 m.areas) n) k ∙ there) in
        let is_it : y ≡ other = cc in
        lacks_scope m area other.name found is lacks x e (ap (λ (a : Area). a.name) (sym is_it) ∙ same)

-- ---- what is refused

pub refused_is : (s : State) (m : Contents) (area count scope bytes : ℕ) →
    has_room (with_memory s m) area count ≡ false →
    option_map (λ (x : MemoryArea). x.scope) (slice_get m.areas area) ≡ Some scope →
    bytes ≡ used (with_memory s m) area + size_with_slots count →
    (let refusal : Refusal = record { scope = scope; bytes = bytes } in Some refusal)
    ≡ refused_in (with_memory s m) area count
unfolding refused_in
refused_is s m area count scope bytes full named is =
    go (slice_get m.areas area) named
    ∙ sym (ap (λ (b : Bool). if b then None else (slice_get m.areas area >>= (λ (x : MemoryArea). Some (refusal_of x.scope
    (used (with_memory s m) area + size_with_slots count))))) full)
  where
    go : (o : Option MemoryArea) → option_map (λ (x : MemoryArea). x.scope) o ≡ Some scope →
        Some (refusal_of scope bytes)
        ≡ (o >>= (λ (x : MemoryArea). Some (refusal_of x.scope (used (with_memory s m) area + size_with_slots count))))
    go None e = absurd (cc (e))
    go (Some x) e =
        let same : x.scope ≡ scope = cc in
        ap (λ (n : ℕ). Some (refusal_of scope n)) is
        ∙ ap (λ (n : ℕ). Some (refusal_of n (used (with_memory s m) area + size_with_slots count))) (sym same)

-- ---- the safelet

module _ (code : Code) (s : State) where
  abbrev refused_of : Option ℕ → Option ℕ → Option Refusal
  refused_of class area =
      class >>= (λ (c : ℕ). area >>= (λ (a : ℕ). refused_in s a (length (new_slots code.program c))))

  pub none_made : None ≡ safelet_class code.program → None ≡ refused_own code s AllocSafelet
  unfolding refused_own
  none_made e = ap (λ (o : Option ℕ). refused_of o (innermost s.activity.areas)) e

  pub none_there : (class : ℕ) → Some class ≡ safelet_class code.program → None ≡ innermost s.activity.areas →
      None ≡ refused_own code s AllocSafelet
  unfolding refused_own
  none_there class e f =
      ap (λ (o : Option ℕ). refused_of (Some class) o) f
      ∙ ap (λ (o : Option ℕ). refused_of o (innermost s.activity.areas)) e

  pub safelet_refused : (class area : ℕ) (refusal : Option Refusal) → Some class ≡ safelet_class code.program →
      Some area ≡ innermost s.activity.areas → refusal ≡ refused_in s area (length (new_slots code.program class)) →
      refusal ≡ refused_own code s AllocSafelet
  unfolding refused_own
  safelet_refused class area refusal e f r =
      r ∙ (ap (λ (o : Option ℕ). refused_of (Some class) o) f
      ∙ ap (λ (o : Option ℕ). refused_of o (innermost s.activity.areas)) e)
