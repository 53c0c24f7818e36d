-- The memory of a mission is opened, in immortal memory.
use Rattle.std.specs.Prelude.{Option, Some, None, slice_get, ◌||◌, ◌==◌, ◌++◌, if◌then◌else◌}
use Rattle.std.proofs.Common.{◌≡◌, ℕ, zero, suc, List, [], ◌∷◌, length, Bool, true, false, refl, sym, ◌∙◌, ap, subst, arith, true≢false, ◌⊎◌, inl, inr}
use Rattle.std.proofs.lemmas.Bool.Decides.{nat_tests}
use Rattle.scj_base.specs.declared.values.Value.TheVariants.{Null}
use Rattle.scj_builtins.specs.Framework.{mission as mission_class}
use Rattle.scj_rules.specs.Words.{is_among, holds, ◌>>=◌}
use Rattle.scj_rules.specs.ScopeRules.{immortal_scope, parent_scope, defined_by_chain}
use Rattle.scj_rules.specs.Bodies.{size_of, class_position}
use Rattle.accepted_laws.proofs.Lists.{get_last}
use Rattle.accepted_laws.proofs.Tools.{some_inj}
use Rattle.scj_model.specs.declared.operations.SeqOp.TheVariants.{OpenMission}
use Rattle.scj_model.specs.Code.{Code}
use Rattle.scj_model.specs.State.{MemoryArea, Object, State, area_at, is_open_area}
use Rattle.scj_model.specs.Sequencer.{innermost, sequencer_op, area_opened}
use Rattle.frame_sound.specs.Places.{area_named, world_of}
use Rattle.frame_sound.specs.Fine.{ListFine}
use Rattle.frame_sound.proofs.Opens.{still, heap_more, statics_more, list_more, list_open}
use Rattle.frame_sound.proofs.OpenAreas.{areas_open}
use Rattle.mission_sound.specs.Bases.{in_immortal, in_mission, BaseBefore, BaseAfter, BaseFine, areas_of}
use Rattle.mission_sound.specs.Invariant.{IsImmortalOf, IsThere, OperandThere, AfterOperation, ValueSuits, Operates}
use Rattle.mission_sound.specs.SequencerFacts.{SequencerFacts, MissionFact}
use Rattle.mission_sound.proofs.Jobs.{Quiet}
use Rattle.mission_sound.proofs.MissionClosed.{immortal_is_open}
use Rattle.mission_sound.proofs.Free.{Free, before, quiet, is_list, done_with, opens, finishes, no_rows}

-- an element was there, or is the last
get_split : {A : Type 0} (xs : List A) (y : A) (i : ℕ) (x : A) → slice_get (xs ++ y ∷ []) i ≡ Some x →
    (slice_get xs i ≡ Some x) ⊎ ((i ≡ length xs) × (y ≡ x))
get_split [] y zero x e = inr (refl, some_inj y x e)
get_split [] y (suc i) x e = absurd (cc (e))
get_split (z ∷ xs) y zero x e = inl e
get_split (z ∷ xs) y (suc i) x e =
    elim (get_split xs y i x e) as (λ t. (slice_get xs i ≡ Some x) ⊎ ((suc i ≡ suc (length xs)) × (y ≡ x))) [
      | inl h ↦ inl h
      | inr h ↦ inr (ap suc h.0, h.1)
    ]

module _ (code : Code) (facts : SequencerFacts code) (s : State) (f : Free code s) (r : ℕ)
    (e : s.operation ≡ OpenMission r) where
  is_immortal : f.invariant.base ≡ in_immortal
  is_immortal = subst (λ o. BaseBefore o f.invariant.base) e (before code s f)

  low : ListFine (world_of s).areas (0 ∷ [])
  low = subst (BaseFine code s) is_immortal f.invariant.sequencer.base_fine

  the_list : s.activity.areas ≡ 0 ∷ []
  the_list = is_list code s f ∙ ap areas_of is_immortal

  there : (s.mission ≡ Some r) × IsThere s.mission_sequencer
  there = subst (OperandThere s) e f.invariant.sequencer.there

  mission : IsImmortalOf code.program (world_of s) mission_class r
  mission = f.invariant.sequencer.mission r there.0

  fact : MissionFact code.program mission.object.class
  fact = facts.missions mission.object.class mission.concrete mission.is_under

  q : Quiet code s f.invariant.base
  q = quiet code s f

  abbrev memory : ℕ
  memory = length s.areas

  abbrev new : MemoryArea
  new = record { scope = fact.scope; parent = Some 0; bytes = fact.bytes; is_open = true }

  abbrev opened : State
  opened = done_with code s f (s.areas ++ new ∷ []) s.objects (memory ∷ (0 ∷ [])) Null

  -- the mission's scope isn't the root
  is_inner : (immortal_scope == fact.scope) ≡ false
  is_inner = go (immortal_scope == fact.scope) refl
    where
      go : (t : Bool) → (immortal_scope == fact.scope) ≡ t → (immortal_scope == fact.scope) ≡ false
      go false h = h
      go true h =
          absurd (let same : immortal_scope ≡ fact.scope = grind (arith, nat_tests) in
          let x : None ≡ Some immortal_scope = sym facts.root ∙ (ap (parent_scope code.program) same ∙ fact.is_parent)
          in cc (x))

  unnamed : area_named (world_of s).areas fact.scope (0 ∷ []) ≡ None
  unfolding area_named
  unnamed =
      ap (λ (o : Option MemoryArea). if holds o (λ x. x.scope == fact.scope) then Some 0 else None)
      low.immortal.is_there
      ∙ (ap (λ n. if n == fact.scope then Some 0 else None) low.immortal.is_immortal
      ∙ ap (λ (b : Bool). if b then Some 0 else None) is_inner)

  low_more : ListFine (world_of opened).areas (0 ∷ [])
  low_more = list_more s.areas new (0 ∷ []) low

  high : ListFine (world_of opened).areas (memory ∷ (0 ∷ []))
  high =
      list_open s.areas new (0 ∷ []) low refl unnamed
      (λ b h. subst (λ b. is_among b (0 ∷ []) ≡ true) (some_inj 0 b h) refl)

  only_base : (a : ℕ) (x : MemoryArea) → area_at opened a ≡ Some x → x.is_open ≡ true →
      is_among a (memory ∷ (0 ∷ [])) ≡ true
  only_base a x h opens =
      elim (get_split s.areas new a x h) as (λ z. is_among a (memory ∷ (0 ∷ [])) ≡ true) [
        | inl old ↦ (let on : is_among a (0 ∷ []) ≡ true = subst (λ base. is_among a (areas_of base) ≡ true) is_immortal
            (q.only_base a x old opens) in
            elim (a == memory) as (λ t. (t || is_among a (0 ∷ [])) ≡ true) [ true ↦ refl | false ↦ on ])
        | inr last ↦ (let t : (a == memory) ≡ true = (let same = last.0 in grind (arith, nat_tests)) in
            ap (λ b. b || is_among a (0 ∷ [])) t)
      ]

  open_still : (b : ℕ) → is_open_area s b ≡ true → is_open_area opened b ≡ true
  open_still b h = go (area_at s b) refl h
    where
      go : (o : Option MemoryArea) → area_at s b ≡ o → holds o (λ x. x.is_open) ≡ true → is_open_area opened b ≡ true
      go None e h = absurd (true≢false (sym h))
      go (Some x) e h = ap (λ (o : Option MemoryArea). holds o (λ x. x.is_open)) (still s.areas new b x e) ∙ h

  nested : (a b : ℕ) (x : MemoryArea) → area_at opened a ≡ Some x → x.is_open ≡ true → x.parent ≡ Some b →
      is_open_area opened b ≡ true
  nested a b x h opens up =
      elim (get_split s.areas new a x h) as (λ z. is_open_area opened b ≡ true) [
        | inl old ↦ open_still b (q.nested a b x old opens up)
        | inr last ↦ ap (is_open_area opened) (sym (some_inj 0 b (ap (λ (y : MemoryArea). y.parent) last.1 ∙ up)))
            ∙ immortal_is_open (world_of opened).areas low_more
      ]

  opened_fine : AfterOperation code opened
  opened_fine =
      finishes code s f (s.areas ++ new ∷ []) s.objects (memory ∷ (0 ∷ [])) Null (in_mission memory)
      (record {
        areas = areas_open code.program s.areas q.memory.areas fact.scope 0 immortal_scope fact.bytes low.immortal.area
            low.immortal.is_there low.immortal.is_immortal fact.is_parent;
        heap = heap_more s.areas new (λ r. slice_get s.objects r) code.program q.memory.heap;
        statics = statics_more s.areas new (λ r. slice_get s.objects r) code.program s.statics q.memory.statics;
      })
      (λ n o h. record { object = o; found = h; class = refl; area = refl }) refl only_base nested
      (subst (λ o. BaseAfter o (in_mission memory)) (sym e) (memory, refl)) (
        low_more,
        high,
        record {
          area = new;
          is_there = get_last s.areas new;
          inside = refl;
          r = r;
          is = there.0;
          object = mission.object;
          found = mission.found;
          defines = fact.defines;
        },
      )
      (λ k row h. absurd (no_rows code s f is_immortal k row h))
      (subst (λ o. ValueSuits code.program (world_of opened) o Null) (sym e) tt)

  pub mission_opens : Operates code (sequencer_op code s (OpenMission r))
  unfolding sequencer_op innermost
  mission_opens =
      subst (λ (o : Option Object). Operates code (o >>= (λ o. defined_by_chain code.program o.class >>= (λ scope.
      size_of code.program o.class
      >>= (λ bytes. Some (area_opened s (class_position code.program o.class) scope bytes)))))) (sym mission.found)
      (subst (λ (o : Option ℕ). Operates code (o >>= (λ scope. size_of code.program mission.object.class >>= (λ bytes.
      Some (area_opened s (class_position code.program mission.object.class) scope bytes))))) (sym fact.defines)
      (subst (λ (o : Option ℕ). Operates code (o >>= (λ bytes.
      Some (area_opened s (class_position code.program mission.object.class) fact.scope bytes)))) (sym fact.size)
      (opens code s f (class_position code.program mission.object.class) fact.scope fact.bytes
      (0 ∷ []) the_list opened_fine)))
