-- Stores, new objects and arrays: what is stored lies where the slot says, and new slots begin with values of their
-- kinds.
use Rattle.std.specs.Prelude.{Option, Some, None, slice_get, ◌==◌, if◌then◌else◌, ℤ}
use Rattle.std.proofs.Common.{◌≡◌, ℕ, ◌<◌, List, ◌∷◌, length, true, sym, ◌∙◌, ap, subst, arith, ◌⊎◌, inl, inr}
use Rattle.std.proofs.lemmas.Bool.Decides.{nat_tests}
use Rattle.scj_base.specs.declared.faults.RunFault.TheVariants.{ArrayIndex}
use Rattle.scj_base.specs.declared.values.Value.{Value}
use Rattle.scj_rules.specs.declared.typing.Ty.{Ty}
use Rattle.scj_rules.specs.declared.typing.Ty.TheVariants.{Class as ClassTy}
use Rattle.scj_rules.specs.declared.typing.Scope.{Scope}
use Rattle.scj_rules.specs.declared.typing.Scope.TheVariants.{Any, This, Caller, In, Unknown, Lost}
use Rattle.scj_rules.specs.Words.{◌>>=◌}
use Rattle.scj_rules.specs.ScopeRules.{immortal_scope}
use Rattle.scj_rules.specs.StaticScopes.{beside}
use Rattle.accepted_laws.specs.Kinds.{Kind, number, reference, Fits, NamesArea, seen_as}
use Rattle.accepted_laws.proofs.Tools.{some_inj}
use Rattle.scj_model.specs.declared.operations.Op.TheVariants.{Init as INIT, Put as PUT, PutStatic as PUTSTATIC, PutElem as PUTELEM}
use Rattle.scj_model.specs.Code.{part}
use Rattle.scj_model.specs.State.{MemoryArea, Object}
use Rattle.scj_model.specs.Effects.{Stores, Faults}
use Rattle.scj_model.specs.Memory.{literal_value}
use Rattle.scj_model.specs.Operations.{effect_of, index_in}
use Rattle.scj_rules.specs.Layout.{literal_written}
use Rattle.scope_flow.specs.Slots.{array_type, kind_of_slot, IsSlotKind, IsImmortal, IsOfType, kind_of_literal}
use Rattle.scope_flow.specs.Guards.{IsPlain}
use Rattle.scope_flow.specs.Needs.{IsGuardedAssign}
use Rattle.frame_sound.specs.Guards.{AreTogether}
use Rattle.frame_sound.specs.Places.{LiesAt, denote, area_around, within, held, Has}
use Rattle.frame_sound.specs.EffectsFine.{StoreFine}
use Rattle.frame_sound.specs.Fine.{IsInside}
use Rattle.frame_sound.proofs.Places.{around_named, known_fits, denotes_area, area_at, at_area}
use Rattle.frame_sound.proofs.Scenes.{Scene, memory, den, Holds, HoldAll, FlowsOn, LeftGuards, Ok, take, next_taken, pop_fine, given_fine, int_fine, object_fine, on_with, on_list, no_any, never_any, beside_there}
use Rattle.frame_sound.proofs.ActsOnValues.{NeedsNext, Does, DoesStanding, ValueOf, literal_of_node, is_array_of, element_kind_is, elements_are_slots, index_cases}
use Rattle.frame_sound.proofs.StoredBeside.{stored_beside}

module _ (m : Scene) where
  -- a slot's scope is never unknown
  slot_known : (k : Kind) → IsSlotKind k → (t : Ty) → k ≡ reference t Unknown → ⊥
  unfolding IsSlotKind
  slot_known k fs t e = subst IsSlotKind e fs

  -- where the scope of a slot lies for its object is where the frame sees it
  slot_lies : (o : Object) (r : ℕ) → m.world.object_at r ≡ Some o → (scope : Scope) → LiesAt (den m scope) o.area →
      (slot : ℕ) (k : Kind) → kind_of_slot m.code.program o.class slot ≡ Some k → IsSlotKind k → (t : Ty) (s : Scope) →
      k ≡ reference t s → NamesArea (seen_as scope Caller s) →
      IsInside (den m (seen_as scope Caller s)) (within m.areas o.area s)
  unfolding seen_as denote within IsSlotKind
  slot_lies o r found scope lies slot k is fs t This e names n d =
      let x = denotes_area (memory m) m.list m.frame.this m.frame.area (beside scope) o.area names
      (beside_there m scope o.area lies) in
      ap (λ a. Some a) (area_at (den m (beside scope)) o.area n x d)
  slot_lies o r found scope lies slot k is fs t (In a) e names n d =
      let q = (m.heap r o found).reach slot t a (is ∙ ap (λ k. Some k) e) in
      q.1 ∙ (sym (around_named m.areas m.list m.fine a q.0 _ o.area (on_list m scope o.area lies) q.1) ∙ d)
  slot_lies o r found scope lies slot k is fs t Caller e names n d = absurd (subst IsSlotKind e fs)
  slot_lies o r found scope lies slot k is fs t Any e names n d = absurd (subst IsSlotKind e fs)
  slot_lies o r found scope lies slot k is fs t Unknown e names n d = absurd (subst IsSlotKind e fs)
  slot_lies o r found scope lies slot k is fs t Lost e names n d = absurd (subst IsSlotKind e fs)

  -- a value that fits a slot of an object may be stored in it
  pub stored : (o : Object) (r : ℕ) → m.world.object_at r ≡ Some o → (scope : Scope) → LiesAt (den m scope) o.area →
      (slot : ℕ) (k : Kind) → kind_of_slot m.code.program o.class slot ≡ Some k → IsSlotKind k → (j : Kind) →
      Fits m.code.program scope Caller j k → (v : Value) → Holds m j v → StoreFine m.code.program (memory m) r slot v
  stored o r found scope lies slot k is fs j fit v h =
      record {
        object = o;
        found = found;
        has = λ l e. subst (λ k. Has m.code.program (memory m) (held (within m.areas o.area) k) v)
            (some_inj k l (sym is ∙ e))
            (known_fits m.code m.facts (memory m) (den m) (within m.areas o.area) scope Caller (no_any m)
            (never_any m scope o.area lies) j k (slot_known k fs) (slot_lies o r found scope lies slot k is fs) fit v h);
      }

  -- what a guard allows is stored beside its object
  pub put_guarded : (id : ℕ) → LeftGuards m m.frame.rest →
      ((a b : Value) (rest : List Value) → m.frame.operands ≡ b ∷ (a ∷ rest) → IsGuardedAssign m.code.program id →
      AreTogether (memory m) a b) → NeedsNext m (PUT id) → Ok m (effect_of m.code m.world m.frame (PUT id))
  unfolding effect_of held IsOfType
  put_guarded id l g r =
      let n = r.needed in
      let x = take m n.value (reference (ClassTy n.class) n.scope ∷ r.out) n.takes in
      let y = next_taken m (reference (ClassTy n.class) n.scope) r.out x.rest x.have in
      given_fine m _ _ n.field n.is
      (pop_fine m m.frame.operands _ x.v x.rest x.is
      (pop_fine m x.rest _ y.v y.rest y.is
      (object_fine m (ClassTy n.class) (den m n.scope) y.v _ y.has (λ o.
      let s = n.has.each o.object.class o.of_type.0 o.of_type.1 in
      given_fine m _ _ o.object o.found
      (given_fine m _ _ s.slot s.is
      (record {
        is = (
          on_with m l y.rest r.out y.have r.goes,
          elim n.fit as (λ _. StoreFine m.code.program (memory m) o.r s.slot x.v) [
            | inl fit ↦ stored o.object o.r o.found n.scope o.lies s.slot n.has.kind s.holds n.has.is_slot_kind n.value
                fit x.v x.has
            | inr guarded ↦ stored_beside m o.object o.r o.found n.class o.of_type.1 s.slot n.has.kind s.holds guarded.1
                n.scope n.value guarded.0 x.v x.has
                (subst (λ v. AreTogether (memory m) v x.v) o.is
                (g y.v x.v y.rest (x.is ∙ ap (λ vs. x.v ∷ vs) y.is) guarded.2))
          ],
        );
      }))))))

  pub put_fine : (id : ℕ) → DoesStanding m (PUT id)
  unfolding IsPlain
  put_fine id l plain stands way = put_guarded id l (λ a b rest e guarded. absurd (plain guarded)) way.1

  pub put_elem_fine : (id : ℕ) → Does m (PUTELEM id)
  unfolding effect_of held
  put_elem_fine id l r =
      let n = r.needed in
      let x = take m n.value (number ∷ (reference n.type n.scope ∷ r.out)) n.takes in
      let y = next_taken m number (reference n.type n.scope ∷ r.out) x.rest x.have in
      let z = next_taken m (reference n.type n.scope) r.out y.rest y.have in
      pop_fine m m.frame.operands _ x.v x.rest x.is
      (pop_fine m x.rest _ y.v y.rest y.is
      (pop_fine m y.rest _ z.v z.rest z.is
      (object_fine m n.type (den m n.scope) z.v _ z.has (λ o.
      int_fine m y.v _ y.has (λ i.
      given_fine m _ _ o.object o.found
      (at_index x.v x.has z.rest z.have o.object o.r o.found
      (is_array_of m o.object.class n.type n.kind n.elements o.of_type) o.lies i (index_cases m o.object.slots i)))))))
    where
      at_index : (v : Value) → Holds m r.needed.value v → (rest : List Value) → HoldAll m r.out rest → (o : Object)
          (q : ℕ) → m.world.object_at q ≡ Some o → array_type m.code.program o.class ≡ Some r.needed.type →
          LiesAt (den m r.needed.scope) o.area → (i : ℤ) →
          (index_in o.slots i ≡ None) ⊎ ((k : ℕ) × (index_in o.slots i ≡ Some k) × (k < length o.slots)) →
          Ok m (elim (index_in o.slots i) [
            | None ↦ Faults ArrayIndex
            | Some k ↦ Stores (record m.frame { operands = rest }) q k v
          ])
      at_index v h rest have o q found is lies i (inl e) =
          subst (λ (j : Option ℕ). Ok m (elim j [
            | None ↦ Faults ArrayIndex
            | Some k ↦ Stores (record m.frame { operands = rest }) q k v
          ])) (sym e) (record { is = tt })
      at_index v h rest have o q found is lies i (inr k) =
          subst (λ (j : Option ℕ). Ok m (elim j [
            | None ↦ Faults ArrayIndex
            | Some k ↦ Stores (record m.frame { operands = rest }) q k v
          ])) (sym k.1)
          (record {
            is = (
              on_with m l rest r.out have r.goes,
              stored o q found r.needed.scope lies k.0 r.needed.kind
                  (element_kind_is m o.class r.needed.type r.needed.kind k.0 r.needed.elements is)
                  (elements_are_slots m r.needed.type r.needed.kind r.needed.elements) r.needed.value r.needed.fit v h,
            );
          })

  -- ---- static fields

  immortal_reached : (a : ℕ) → a ≡ immortal_scope → area_around m.areas a 1 0 ≡ Some 0
  unfolding area_around
  immortal_reached a e =
      ap (λ (o : Option MemoryArea). o
      >>= (λ x. if x.scope == a then Some 0 else (x.parent >>= area_around m.areas a 0)))
      m.fine.immortal.is_there
      ∙ ap (λ t. if t then Some 0 else (m.fine.immortal.area.parent >>= area_around m.areas a 0)) same
    where
      same : (m.fine.immortal.area.scope == a) ≡ true
      same = let f = m.fine.immortal.is_immortal in grind (arith, nat_tests, e, f)

  static_known : (k : Kind) → IsImmortal k → (t : Ty) → k ≡ reference t Unknown → ⊥
  unfolding IsImmortal
  static_known k fs t e = subst IsImmortal e fs

  static_lies : (k : Kind) → IsImmortal k → (t : Ty) (s : Scope) → k ≡ reference t s →
      NamesArea (seen_as This Caller s) → IsInside (den m (seen_as This Caller s)) (within m.areas 0 s)
  unfolding seen_as denote within IsImmortal
  static_lies k fs t (In a) e names n d =
      let reached = immortal_reached a (subst IsImmortal e fs) in
      reached ∙ (sym (around_named m.areas m.list m.fine a 0 1 0 m.fine.has_immortal reached) ∙ d)
  static_lies k fs t This e names n d = absurd (subst IsImmortal e fs)
  static_lies k fs t Caller e names n d = absurd (subst IsImmortal e fs)
  static_lies k fs t Any e names n d = absurd (subst IsImmortal e fs)
  static_lies k fs t Unknown e names n d = absurd (subst IsImmortal e fs)
  static_lies k fs t Lost e names n d = absurd (subst IsImmortal e fs)

  -- what is stored in a static field lies in immortal memory
  pub static_stored : (id : ℕ) (r : NeedsNext m (PUTSTATIC id)) (v : Value) → Holds m r.needed.value v →
      Has m.code.program (memory m) (held (within m.areas 0) r.needed.has.kind) v
  static_stored id r v h =
      let n = r.needed in
      known_fits m.code m.facts (memory m) (den m) (within m.areas 0) This Caller (no_any m) (λ e. cc (e)) n.value
      n.has.kind (static_known n.has.kind n.has.is_immortal) (static_lies n.has.kind n.has.is_immortal) n.fit v h

  pub put_static_fine : (id : ℕ) → Does m (PUTSTATIC id)
  unfolding effect_of
  put_static_fine id l r =
      let n = r.needed in
      let x = take m n.value r.out n.takes in
      given_fine m _ _ n.field n.is
      (given_fine m _ _ n.has.index n.has.is
      (pop_fine m m.frame.operands _ x.v x.rest x.is
      (record {
        is = (
          on_with m l x.rest r.out x.have r.goes,
          (λ k e. subst (λ k. Has m.code.program (memory m) (held (within m.areas 0) k) x.v)
              (some_inj n.has.kind k (sym n.has.holds ∙ e)) (static_stored id r x.v x.has)),
        );
      })))

  -- ---- the literals of fields

  pub init_fine : (id : ℕ) → Does m (INIT id)
  unfolding effect_of IsOfType
  init_fine id l r =
      let n = r.needed in
      let own = m.home.own n.for_object in
      let s = n.has.each own.object.class own.of_type.0 own.of_type.1 in
      let v = literal_of (slice_get m.code.program.nodes id >>= literal_written) n.literal n.is_literal in
      given_fine m _ _ v.value v.is
      (given_fine m _ _ n.field n.is
      (given_fine m _ _ own.r own.is
      (given_fine m _ _ own.object own.found
      (given_fine m _ _ s.slot s.is
      (record {
        is = (
          on_with m l m.frame.operands m.kinds m.operands (subst (FlowsOn m m.frame.rest m.known) n.leaves r.goes),
          stored own.object own.r own.found n.home
              (at_area (den m n.home) own.object.area (own.lies n.home n.is_home)) s.slot n.has.kind s.holds
              n.has.is_slot_kind n.literal n.fit v.value v.has,
        );
      })))))
    where
      literal_of : (o : Option ℕ) (exact : Kind) → o >>= part m.code kind_of_literal ≡ Some exact →
          ValueOf m (o >>= part m.code literal_value) exact
      literal_of None exact e = absurd (cc (e))
      literal_of (Some x) exact e = literal_of_node m (slice_get m.code.program.nodes x) exact e
