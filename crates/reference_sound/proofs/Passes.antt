-- What the next operation of a job stores may be stored: the area in which the object lies to which it refers is around
-- that of the object that gets it.
use Rattle.std.specs.Prelude.{Option, Some, None, slice_get, ◌||◌, ◌==◌}
use Rattle.std.proofs.Common.{◌≡◌, ℕ, zero, suc, ◌<◌, List, [], ◌∷◌, length, Bool, true, false, refl, ◌∙◌, ap, subst, arith}
use Rattle.std.proofs.lemmas.Bool.Decides.{nat_tests}
use Rattle.std.proofs.lemmas.List.Elements.{All-nil, All-cons}
use Rattle.scj_base.specs.declared.values.Value.{Value}
use Rattle.scj_base.specs.declared.values.Value.TheVariants.{Int, Bool as Truth, Null, At}
use Rattle.scj_rules.specs.Words.{is_among, chain, holds, ◌>>=◌}
use Rattle.scj_rules.specs.ScopeRules.{immortal_scope}
use Rattle.scj_rules.specs.Contexts.{Declarations}
use Rattle.accepted_laws.specs.Kinds.{Kind}
use Rattle.accepted_laws.proofs.Lists.{get_within}
use Rattle.scj_model.specs.declared.operations.Op.{Op}
use Rattle.scj_model.specs.declared.plans.ReadingRow.{ReadingRow}
use Rattle.scj_model.specs.Code.{Code}
use Rattle.scj_model.specs.State.{MemoryArea, Object, Frame, Activity, State, Job, activity_of}
use Rattle.scj_model.specs.Memory.{lies_in}
use Rattle.scj_model.specs.Effects.{Effect, Stores, StoresStatic}
use Rattle.scj_model.specs.Run.{environment, effect_at}
use Rattle.scj_model.specs.Safety.{may_hold, static_may_hold, effect_passes, frame_passes, passes}
use Rattle.scope_flow.specs.Facts.{Facts}
use Rattle.frame_sound.specs.Places.{World, world_of, denote}
use Rattle.frame_sound.specs.Fine.{HeapFine, IsImmortalMemory, WaitsFor, Ready, GivenFits, held_option, FramesFine, list_of, MemoryFine, JobFine}
use Rattle.reference_sound.specs.References.{IfReference, EachReference, LiesIn, is_itself, lies_deeper, ParentsAreEarlier, LiesAround, LiesInImmortal, ReferencesHold}
use Rattle.reference_sound.proofs.NextHolds.{next_holds}
use Rattle.reference_sound.specs.EffectsHold.{Holding}

-- ---- areas in areas, as the machine looks for them

module _ (areas : ℕ → Option MemoryArea) (order : ParentsAreEarlier areas) where
  abbrev parent_of : ℕ → Option ℕ
  parent_of a = areas a >>= (λ x. x.parent)

  first_of_chain : (n a : ℕ) → is_among a (chain parent_of (suc n) a) ≡ true
  unfolding chain
  first_of_chain n a =
      let t : (a == a) ≡ true = grind (arith, nat_tests) in
      ap (λ b. b || is_among a (elim (parent_of a) [ None ↦ [] | Some b ↦ chain parent_of n b ])) t

  further_in_chain : (n a b c : ℕ) (x : MemoryArea) → areas a ≡ Some x → x.parent ≡ Some b →
      is_among c (chain parent_of n b) ≡ true → is_among c (chain parent_of (suc n) a) ≡ true
  unfolding chain
  further_in_chain n a b c x there up h =
      let next : parent_of a ≡ Some b = ap (λ (o : Option MemoryArea). o >>= (λ x. x.parent)) there ∙ up in
      later (c == a) (ap (λ (o : Option ℕ). is_among c (elim o [ None ↦ [] | Some d ↦ chain parent_of n d ])) next ∙ h)
    where
      later : (t : Bool) → is_among c (elim (parent_of a) [ None ↦ [] | Some d ↦ chain parent_of n d ]) ≡ true →
          (t || is_among c (elim (parent_of a) [ None ↦ [] | Some d ↦ chain parent_of n d ])) ≡ true
      later true h = refl
      later false h = h

  pub chain_reaches : (a b : ℕ) → LiesIn areas a b → (n : ℕ) → a < n → is_among b (chain parent_of n a) ≡ true
  chain_reaches _ _ lies zero l = absurd (omega (arith, l))
  chain_reaches _ _ (is_itself a) (suc n) l = first_of_chain n a
  chain_reaches _ _ (lies_deeper a b c x there up deep) (suc n) l =
      let e : b < a = order.earlier a b x there up in
      further_in_chain n a b c x there up (chain_reaches b c deep n (omega (arith, e, l)))

-- ---- effects

module _ (p : Declarations) (s : State) (order : ParentsAreEarlier (world_of s).areas) (heap : HeapFine p (world_of s))
    (immortal : IsImmortalMemory (world_of s).areas) (Q : ℕ → Type 0) where
  in_area : (area r : ℕ) → area < length s.areas → LiesAround (world_of s) area r →
      holds (slice_get s.objects r) (λ o. lies_in s area o.area) ≡ true
  unfolding lies_in
  in_area area r l h =
      ap (λ (o : Option Object). holds o (λ o. lies_in s area o.area)) h.found
      ∙ chain_reaches (world_of s).areas order area h.object.area h.around (length s.areas) l

  may : (area : ℕ) → area < length s.areas → (v : Value) → IfReference (LiesAround (world_of s) area) v →
      may_hold s area v ≡ true
  unfolding may_hold
  may area l (Int z) h = refl
  may area l (Truth b) h = refl
  may area l Null h = refl
  may area l (At r) h = in_area area r l h

  in_immortal : (r : ℕ) → LiesInImmortal (world_of s) r →
      holds (slice_get s.objects r) (λ o. holds (slice_get s.areas o.area) (λ x. x.scope == immortal_scope)) ≡ true
  in_immortal r h =
      ap (λ (o : Option Object). holds o (λ o. holds (slice_get s.areas o.area) (λ x. x.scope == immortal_scope)))
      h.found
      ∙ (ap (λ a. holds (slice_get s.areas a) (λ x. x.scope == immortal_scope)) h.in_first
      ∙ (ap (λ (o : Option MemoryArea). holds o (λ x. x.scope == immortal_scope)) immortal.is_there ∙ same))
    where
      same : (immortal.area.scope == immortal_scope) ≡ true
      same = let e = immortal.is_immortal in grind (arith, nat_tests, e)

  static_may : (v : Value) → IfReference (LiesInImmortal (world_of s)) v → static_may_hold s v ≡ true
  unfolding static_may_hold
  static_may (Int z) h = refl
  static_may (Truth b) h = refl
  static_may Null h = refl
  static_may (At r) h = in_immortal r h

  pub holding_passes : (e : Effect) → Holding (world_of s) Q e → effect_passes s e ≡ true
  unfolding effect_passes
  holding_passes (Stores f r slot v) h =
      let m = h.is.1 in
      let o = heap r m.object m.found in
      ap (λ (o : Option Object). holds o (λ o. may_hold s o.area v)) m.found
      ∙ may m.object.area (get_within s.areas m.object.area o.area o.is_area) v m.around
  holding_passes (StoresStatic f place v) h = static_may v h.is.1
  holding_passes _ h = refl

-- ---- the highest frame of a job waits for nothing

module _ (code : Code) (w : World) (list : List ℕ) (f : Frame) where
  pub highest_ready : (waits : WaitsFor code w list f None) → Ready code w list waits.class waits.sig f None
  unfolding held_option
  highest_ready waits = go waits.kind waits.fits waits.ready
    where
      go : (kind : Option Kind) → GivenFits code.program None (held_option (denote w list f.this f.area) kind) →
          Ready code w list waits.class waits.sig f kind → Ready code w list waits.class waits.sig f None
      go None fits ready = ready
      go (Some k) fits ready = absurd fits

module _ (code : Code) (facts : Facts code) (rows : List ReadingRow) (s : State) (base : List ℕ)
    (order : ParentsAreEarlier (world_of s).areas) (memory : MemoryFine code s) where
  anything : (vs : List Value) → EachReference (λ r. Unit {0}) vs
  anything [] = All-nil (IfReference (λ r. Unit {0}))
  anything (v ∷ vs) = All-cons (IfReference (λ r. Unit {0})) v vs (one v) (anything vs)
    where
      one : (v : Value) → IfReference (λ r. Unit {0}) v
      one (Int z) = tt
      one (Truth b) = tt
      one Null = tt
      one (At r) = tt

  frames_pass : (activity : Activity) (frames : List Frame) → activity.frames ≡ frames →
      FramesFine code (world_of s) base frames → frame_passes code rows s activity ≡ true
  unfolding frame_passes
  frames_pass activity [] e fine =
      ap (λ (fs : List Frame). elim fs as (λ z. Bool) [
        | [] ↦ true
        | f ∷ below ↦ elim f.rest [ [] ↦ true | op ∷ rest ↦ effect_passes s (effect_at code rows s f op rest) ]
      ]) e
  frames_pass activity (f ∷ below) e fine =
      ap (λ (fs : List Frame). elim fs as (λ z. Bool) [
        | [] ↦ true
        | f ∷ below ↦ elim f.rest [ [] ↦ true | op ∷ rest ↦ effect_passes s (effect_at code rows s f op rest) ]
      ]) e
      ∙ next f.rest refl
    where
      list : List ℕ
      list = list_of base (f ∷ below)

      ready : Ready code (world_of s) list fine.0.class fine.0.sig f None
      ready = highest_ready code (world_of s) list f fine.0

      next : (ops : List Op) → f.rest ≡ ops →
          (elim ops as (λ z. Bool) [ [] ↦ true | op ∷ rest ↦ effect_passes s (effect_at code rows s f op rest) ]) ≡ true
      next [] e = refl
      next (op ∷ rest) e =
          holding_passes code.program s order memory.heap fine.1.immortal (λ r. Unit {0})
          (effect_at code rows s f op rest)
          (next_holds code facts (world_of s).areas (environment rows s) list fine.0.class fine.0.sig f op rest
          (λ r. Unit {0}) (λ r h. tt) fine.1 memory.heap memory.statics
          (subst (λ ops. Ready code (world_of s) list fine.0.class fine.0.sig (record f { rest = ops }) None) e ready)
          (anything f.locals))

  pub stores_pass : (activity : Activity) → JobFine code (world_of s) base activity →
      frame_passes code rows s activity ≡ true
  stores_pass activity job = frames_pass activity activity.frames refl job.frames

pub job_passes : (code : Code) → Facts code → (rows : List ReadingRow) (s : State) (base : List ℕ) (job : Job) →
    ReferencesHold s base → MemoryFine code s →
    ((activity : Activity) → activity_of s job ≡ Some activity → JobFine code (world_of s) base activity) →
    passes code rows s job ≡ true
unfolding passes
job_passes code facts rows s base job held memory fine = go (activity_of s job) refl
  where
    go : (o : Option Activity) → activity_of s job ≡ o →
        (elim o as (λ z. Bool) [ None ↦ true | Some activity ↦ frame_passes code rows s activity ]) ≡ true
    go None e = refl
    go (Some activity) e = stores_pass code facts rows s base held.order memory activity (fine activity e)
