-- Immortal memory is opened: it is the first area, and the root of all.
use Rattle.std.specs.Prelude.{Option, Some, None, slice_get, ◌||◌, ◌==◌, ◌++◌}
use Rattle.std.proofs.Common.{◌≡◌, ℕ, zero, suc, List, [], ◌∷◌, length, Bool, true, false, refl, sym, ◌∙◌, ap, subst, arith, true≢false, ◌⊎◌, inl, inr}
use Rattle.std.proofs.lemmas.Bool.Decides.{nat_tests}
use Rattle.scj_base.specs.declared.values.Value.TheVariants.{Null}
use Rattle.scj_rules.specs.Words.{is_among, chain, ◌>>=◌}
use Rattle.scj_rules.specs.Contexts.{Declarations}
use Rattle.scj_rules.specs.ScopeRules.{immortal_scope, is_outer, parent_scope}
use Rattle.scj_rules.specs.Bodies.{size_of, class_position}
use Rattle.accepted_laws.proofs.Tools.{some_inj}
use Rattle.scj_model.specs.declared.handlers.HandlerRow.{HandlerRow}
use Rattle.scj_model.specs.declared.operations.SeqOp.TheVariants.{OpenImmortal}
use Rattle.scj_model.specs.Code.{Code}
use Rattle.scj_model.specs.State.{MemoryArea, State, area_at}
use Rattle.scj_model.specs.Sequencer.{sequencer_op, area_opened, innermost}
use Rattle.frame_sound.specs.Places.{area_named, area_around, world_of}
use Rattle.frame_sound.specs.Fine.{AreasFine, ListFine}
use Rattle.frame_sound.proofs.Opens.{heap_more, statics_more}
use Rattle.mission_sound.specs.Bases.{unopened, in_immortal, in_mission, BaseBefore, BaseAfter, BaseFine, areas_of}
use Rattle.mission_sound.specs.Invariant.{AfterOperation, ValueSuits, Operates}
use Rattle.mission_sound.specs.SequencerFacts.{SequencerFacts, SafeletThere}
use Rattle.mission_sound.proofs.MissionClosed.{among_immortal}
use Rattle.mission_sound.proofs.Jobs.{Quiet}
use Rattle.mission_sound.proofs.Free.{Free, before, quiet, is_list, done_with, opens, finishes}

-- ---- the first area

module _ (bytes : ℕ) where
  abbrev first : MemoryArea
  first = record { scope = immortal_scope; parent = None; bytes = bytes; is_open = true }

  abbrev first_areas : ℕ → Option MemoryArea
  first_areas = λ a. slice_get (first ∷ []) a

  is_first : (a : ℕ) (x : MemoryArea) → first_areas a ≡ Some x → (a ≡ 0) × (first ≡ x)
  is_first zero x e = (refl, some_inj first x e)
  is_first (suc a) x e = absurd (cc (e))

  -- what is around the root is the root
  outer_is_root : (p : Declarations) → parent_scope p immortal_scope ≡ None → (n : ℕ) →
      is_outer p n immortal_scope ≡ true → n ≡ immortal_scope
  unfolding is_outer chain
  outer_is_root p root n h = go (length p.classes) (n == 0) refl h
    where
      in_chain : (bound : ℕ) → (n == 0) ≡ false → is_among n (chain (parent_scope p) bound 0) ≡ true → ⊥
      in_chain zero f h = true≢false (sym h)
      in_chain (suc bound) f h =
          let e : is_among n (chain (parent_scope p) (suc bound) 0) ≡ ((n == 0) || false) =
          ap (λ o. (n == 0) || is_among n (elim o [ None ↦ [] | Some b ↦ chain (parent_scope p) bound b ])) root in
          true≢false (sym h ∙ (e ∙ ap (λ b. b || false) f))

      go : (bound : ℕ) (t : Bool) → (n == 0) ≡ t → (t || is_among n (chain (parent_scope p) bound 0)) ≡ true → n ≡ 0
      go bound true e h = grind (arith, nat_tests)
      go bound false e h = absurd (in_chain bound e h)

  first_fine : (p : Declarations) → parent_scope p immortal_scope ≡ None → AreasFine p first_areas
  unfolding area_around
  first_fine p root = record { parents = λ a x there. inl (is_first a x there).0; reach = reach }
    where
      root_named : (n : ℕ) → n ≡ immortal_scope → (r : ℕ) × (area_around first_areas n (suc 0) 0 ≡ Some r)
      root_named n e = subst (λ n. (r : ℕ) × (area_around first_areas n (suc 0) 0 ≡ Some r)) (sym e) (0, refl)

      reach : (a n : ℕ) (x : MemoryArea) → first_areas a ≡ Some x →
          (n ≡ immortal_scope) ⊎ (is_outer p n x.scope ≡ true) →
          (r : ℕ) × (area_around first_areas n (suc a) a ≡ Some r)
      reach a n x there h =
          let e = is_first a x there in
          let named : n ≡ immortal_scope = elim h as (λ z. n ≡ immortal_scope) [
            | inl i ↦ i
            | inr o ↦ outer_is_root p root n (ap (λ (y : MemoryArea). is_outer p n y.scope) e.1 ∙ o)
          ] in
          subst (λ a. (r : ℕ) × (area_around first_areas n (suc a) a ≡ Some r)) (sym e.0) (root_named n named)

  first_list : ListFine first_areas (0 ∷ [])
  unfolding area_named
  first_list =
      record {
        found = λ a on. (let e = among_immortal a on in
            (first, ap first_areas e, ap (λ n. Some n) (sym e)));
        closed_up = λ a b x on there up. absurd (let e = is_first a x there in
            let y : None ≡ Some b = ap (λ (z : MemoryArea). z.parent) e.1 ∙ up in cc (y));
        are_open = λ a x on there. sym (ap (λ (z : MemoryArea). z.is_open) (is_first a x there).1);
        are_distinct = (refl, tt);
        immortal = record { area = first; is_there = refl; is_immortal = refl };
        has_immortal = refl;
      }

-- ---- the operation

module _ (code : Code) (facts : SequencerFacts code) (s : State) (f : Free code s)
    (e : s.operation ≡ OpenImmortal) where
  is_unopened : f.invariant.base ≡ unopened
  is_unopened = subst (λ o. BaseBefore o f.invariant.base) e (before code s f)

  none_yet : (s.areas ≡ []) × (s.objects ≡ [])
  none_yet = subst (BaseFine code s) is_unopened f.invariant.sequencer.base_fine

  no_list : s.activity.areas ≡ []
  no_list = is_list code s f ∙ ap areas_of is_unopened

  module _ (bytes : ℕ) where
    abbrev new : State
    new = done_with code s f (s.areas ++ first bytes ∷ []) s.objects (length s.areas ∷ []) Null

    alone : s.areas ++ first bytes ∷ [] ≡ first bytes ∷ []
    alone = ap (λ (areas : List MemoryArea). areas ++ first bytes ∷ []) none_yet.0

    list_new : ListFine (world_of new).areas (0 ∷ [])
    list_new = subst (λ (areas : List MemoryArea). ListFine (λ a. slice_get areas a) (0 ∷ [])) (sym alone)
        (first_list bytes)

    is_new : (a : ℕ) (x : MemoryArea) → area_at new a ≡ Some x → (a ≡ 0) × (first bytes ≡ x)
    is_new a x there = is_first bytes a x (sym (ap (λ (areas : List MemoryArea). slice_get areas a) alone) ∙ there)

    finished : AfterOperation code new
    finished =
        finishes code s f (s.areas ++ first bytes ∷ []) s.objects (length s.areas ∷ []) Null in_immortal
        (record {
          areas = subst (λ (areas : List MemoryArea). AreasFine code.program (λ a. slice_get areas a)) (sym alone)
              (first_fine bytes code.program facts.root);
          heap = heap_more s.areas (first bytes) (λ r. slice_get s.objects r) code.program q.memory.heap;
          statics =
              statics_more s.areas (first bytes) (λ r. slice_get s.objects r) code.program s.statics q.memory.statics;
        })
        (λ r o there. record { object = o; found = there; class = refl; area = refl })
        (ap (λ (areas : List MemoryArea). length areas ∷ []) none_yet.0)
        (λ a x there opens. subst (λ a. is_among a (0 ∷ []) ≡ true) (sym (is_new a x there).0) refl)
        (λ a b x there opens up. absurd (let y : None ≡ Some b = ap (λ (z : MemoryArea). z.parent) (is_new a x there).1
        ∙ up in cc (y)))
        (subst (λ o. BaseAfter o in_immortal) (sym e) refl) list_new
        (λ k row there. absurd (no_row k row there))
        (subst (λ o. ValueSuits code.program (world_of new) o Null) (sym e) tt)
      where
        q : Quiet code s f.invariant.base
        q = quiet code s f

        no_row : (k : ℕ) (row : HandlerRow) → slice_get s.registry k ≡ Some row → ⊥
        no_row k row there =
            let x = f.invariant.handlers.rows k row there in
            let y : unopened ≡ in_mission x.object.area = sym is_unopened ∙ x.in_memory in cc (y)

  pub immortal_opens : Operates code (sequencer_op code s OpenImmortal)
  unfolding sequencer_op innermost
  immortal_opens =
      subst (λ (o : Option ℕ). Operates code (o >>= (λ class. size_of code.program class >>= (λ bytes.
      Some (area_opened s (class_position code.program class) immortal_scope bytes))))) (sym there.is)
      (subst (λ (o : Option ℕ). Operates code (o >>= (λ bytes.
      Some (area_opened s (class_position code.program there.class) immortal_scope bytes)))) (sym there.size)
      (opens code s f (class_position code.program there.class) immortal_scope there.bytes [] no_list
      (finished there.bytes)))
    where
      there : SafeletThere code.program
      there = facts.safelet_there
