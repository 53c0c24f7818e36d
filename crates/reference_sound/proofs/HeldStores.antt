-- Stores: what a slot or a static field gets lies around it.
use Rattle.std.specs.Prelude.{Option, Some, None, ℤ}
use Rattle.std.proofs.Common.{◌≡◌, ℕ, ◌<◌, List, [], ◌∷◌, length, refl, sym, ◌∙◌, ap, subst, ◌⊎◌, inl, inr}
use Rattle.scj_base.specs.declared.faults.RunFault.TheVariants.{ArrayIndex}
use Rattle.scj_base.specs.declared.values.Value.{Value}
use Rattle.scj_rules.specs.declared.typing.Ty.{Ty}
use Rattle.scj_rules.specs.declared.typing.Ty.TheVariants.{Class as ClassTy}
use Rattle.scj_rules.specs.declared.typing.Scope.{Scope}
use Rattle.scj_rules.specs.declared.typing.Scope.TheVariants.{Caller}
use Rattle.scj_rules.specs.Layout.{static_index}
use Rattle.accepted_laws.specs.Kinds.{Kind, number, reference, Fits}
use Rattle.accepted_laws.proofs.Tools.{some_inj}
use Rattle.scj_model.specs.declared.operations.Op.{Op}
use Rattle.scj_model.specs.declared.operations.Op.TheVariants.{Put as PUT, PutStatic as PUTSTATIC, PutElem as PUTELEM}
use Rattle.scj_model.specs.State.{Object}
use Rattle.scj_model.specs.Effects.{Effect, Stores, StoresStatic, Faults, Stuck, given, pop, as_object}
use Rattle.scj_model.specs.Operations.{effect_of, index_in}
use Rattle.scope_flow.specs.Flow.{Needs}
use Rattle.scope_flow.specs.Slots.{array_type, kind_of_slot, IsSlotKind, IsOfType}
use Rattle.frame_sound.specs.Places.{Place, LiesAt, Has, IsObject, an_object, held}
use Rattle.scope_flow.specs.Needs.{IsGuardedAssign}
use Rattle.frame_sound.specs.EffectsFine.{StoreFine}
use Rattle.frame_sound.specs.Guards.{AreTogether}
use Rattle.frame_sound.proofs.Scenes.{Scene, memory, den, Holds, FlowsOn, Taken, take, next_taken}
use Rattle.frame_sound.proofs.ActsOnValues.{is_array_of, element_kind_is, elements_are_slots, index_cases}
use Rattle.frame_sound.proofs.ActsOnStores.{stored, static_stored}
use Rattle.frame_sound.proofs.StoredBeside.{stored_beside}
use Rattle.reference_sound.specs.References.{IfReference, EachReference, LiesInImmortal}
use Rattle.reference_sound.proofs.Around.{has_around, has_in_first}
use Rattle.reference_sound.proofs.EffectSteps.{known_given, known_pop, any_int}
use Rattle.reference_sound.specs.EffectsHold.{MayStore, Holding}

-- the object and the value of a store that a guard allows lie in one area
abbrev pub GuardedStores : Scene → ℕ → Op → Type 0
GuardedStores m id op =
    op ≡ PUT id → IsGuardedAssign m.code.program id → (a b : Value) (below : List Value) →
    m.frame.operands ≡ b ∷ (a ∷ below) → AreTogether (memory m) a b

module _ (m : Scene) (Q : ℕ → Type 0) (locals : EachReference Q m.frame.locals) where
  -- what the operation needs, and that its effect holds
  abbrev pub Does : Op → Type 0
  Does op =
      Needs m.code m.frame.body m.class m.sig op m.known m.kinds (FlowsOn m m.frame.rest) →
      Holding (memory m) Q (effect_of m.code m.world m.frame op)

  known_object : (t : Ty) (a : Place) (v : Value) (next : ℕ → Effect) →
      Has m.code.program (memory m) (an_object t a) v →
      ((o : IsObject m.code.program (memory m) t a v) → Holding (memory m) Q (next o.r)) →
      Holding (memory m) Q (as_object v next)
  known_object t a v next (inl e) go = subst (λ x. Holding (memory m) Q (as_object x next)) (sym e) (record { is = tt })
  known_object t a v next (inr o) go = subst (λ x. Holding (memory m) Q (as_object x next)) (sym o.is) (go o)

  stored_around : (o : Object) (r : ℕ) → m.world.object_at r ≡ Some o → (slot : ℕ) (k : Kind) →
      kind_of_slot m.code.program o.class slot ≡ Some k → (v : Value) →
      StoreFine m.code.program (memory m) r slot v → MayStore (memory m) r v
  stored_around o r found slot k is v s =
      let same : s.object ≡ o = some_inj s.object o (sym s.found ∙ found) in
      record {
        object = s.object;
        found = s.found;
        around = has_around m.code.program (memory m) s.object.area k v
            (s.has k (ap (λ (o : Object). kind_of_slot m.code.program o.class slot) same ∙ is));
      }

  may_store : (o : Object) (r : ℕ) → m.world.object_at r ≡ Some o → (scope : Scope) → LiesAt (den m scope) o.area →
      (slot : ℕ) (k : Kind) → kind_of_slot m.code.program o.class slot ≡ Some k → IsSlotKind k → (j : Kind) →
      Fits m.code.program scope Caller j k → (v : Value) → Holds m j v → MayStore (memory m) r v
  may_store o r found scope lies slot k is fs j fit v h =
      stored_around o r found slot k is v (stored m o r found scope lies slot k is fs j fit v h)

  pub put_holds : (id : ℕ) → GuardedStores m id (PUT id) → Does (PUT id)
  unfolding effect_of held IsOfType
  put_holds id g r =
      let n = r.needed in
      let x = take m n.value (reference (ClassTy n.class) n.scope ∷ r.out) n.takes in
      let y = next_taken m (reference (ClassTy n.class) n.scope) r.out x.rest x.have in
      known_given (memory m) Q _ _ n.field n.is
      (known_pop (memory m) Q m.frame.operands _ x.v x.rest x.is
      (known_pop (memory m) Q x.rest _ y.v y.rest y.is
      (known_object (ClassTy n.class) (den m n.scope) y.v _ y.has (λ o.
      let s = n.has.each o.object.class o.of_type.0 o.of_type.1 in
      known_given (memory m) Q _ _ o.object o.found
      (known_given (memory m) Q _ _ s.slot s.is
      (record {
        is = (
          locals,
          elim n.fit as (λ _. MayStore (memory m) o.r x.v) [
            | inl fit ↦ may_store o.object o.r o.found n.scope o.lies s.slot n.has.kind s.holds n.has.is_slot_kind n.value
                fit x.v x.has
            | inr guarded ↦ stored_around o.object o.r o.found s.slot n.has.kind s.holds x.v
                (stored_beside m o.object o.r o.found n.class o.of_type.1 s.slot n.has.kind s.holds guarded.1 n.scope n.value
                guarded.0 x.v x.has
                (subst (λ v. AreTogether (memory m) v x.v) o.is
                (g refl guarded.2 y.v x.v y.rest (x.is ∙ ap (λ vs. x.v ∷ vs) y.is))))
          ],
        );
      }))))))

  pub put_elem_holds : (id : ℕ) → Does (PUTELEM id)
  unfolding effect_of held
  put_elem_holds id r =
      let n = r.needed in
      let x = take m n.value (number ∷ (reference n.type n.scope ∷ r.out)) n.takes in
      let y = next_taken m number (reference n.type n.scope ∷ r.out) x.rest x.have in
      let z = next_taken m (reference n.type n.scope) r.out y.rest y.have in
      known_pop (memory m) Q m.frame.operands _ x.v x.rest x.is
      (known_pop (memory m) Q x.rest _ y.v y.rest y.is
      (known_pop (memory m) Q y.rest _ z.v z.rest z.is
      (known_object n.type (den m n.scope) z.v _ z.has (λ o.
      any_int (memory m) Q y.v _ (λ i.
      known_given (memory m) Q _ _ o.object o.found
      (at_index x.v x.has z.rest o.object o.r o.found
      (is_array_of m o.object.class n.type n.kind n.elements o.of_type) o.lies i (index_cases m o.object.slots i)))))))
    where
      at_index : (v : Value) → Holds m r.needed.value v → (rest : List Value) → (o : Object) (q : ℕ) →
          m.world.object_at q ≡ Some o → array_type m.code.program o.class ≡ Some r.needed.type →
          LiesAt (den m r.needed.scope) o.area → (i : ℤ) →
          (index_in o.slots i ≡ None) ⊎ ((k : ℕ) × (index_in o.slots i ≡ Some k) × (k < length o.slots)) →
          Holding (memory m) Q (elim (index_in o.slots i) [
            | None ↦ Faults ArrayIndex
            | Some k ↦ Stores (record m.frame { operands = rest }) q k v
          ])
      at_index v h rest o q found is lies i (inl e) =
          subst (λ (j : Option ℕ). Holding (memory m) Q (elim j [
            | None ↦ Faults ArrayIndex
            | Some k ↦ Stores (record m.frame { operands = rest }) q k v
          ])) (sym e) (record { is = tt })
      at_index v h rest o q found is lies i (inr k) =
          subst (λ (j : Option ℕ). Holding (memory m) Q (elim j [
            | None ↦ Faults ArrayIndex
            | Some k ↦ Stores (record m.frame { operands = rest }) q k v
          ])) (sym k.1)
          (record {
            is = (
              locals,
              may_store o q found r.needed.scope lies k.0 r.needed.kind
                  (element_kind_is m o.class r.needed.type r.needed.kind k.0 r.needed.elements is)
                  (elements_are_slots m r.needed.type r.needed.kind r.needed.elements) r.needed.value r.needed.fit v h,
            );
          })

  pub put_static_holds : (id : ℕ) → Does (PUTSTATIC id)
  unfolding effect_of
  put_static_holds id r = subst (Holding (memory m) Q) (sym stores) (record { is = (locals, lies) })
    where
      x : Taken m r.needed.value r.out m.frame.operands
      x = take m r.needed.value r.out r.needed.takes

      stores : effect_of m.code m.world m.frame (PUTSTATIC id)
          ≡ StoresStatic (record m.frame { operands = x.rest }) r.needed.has.index x.v
      stores =
          ap (λ (o : Option ℕ). given o (λ field. given (static_index m.code.program field) (λ place.
          pop m.frame (λ value f. StoresStatic f place value)))) r.needed.is
          ∙ (ap (λ (o : Option ℕ). given o (λ place. pop m.frame (λ value f. StoresStatic f place value)))
          r.needed.has.is
          ∙ ap (λ (ops : List Value). elim ops as (λ z. Effect) [
            | [] ↦ Stuck
            | v ∷ below ↦ StoresStatic (record m.frame { operands = below }) r.needed.has.index v
          ]) x.is)

      lies : IfReference (LiesInImmortal (memory m)) x.v
      lies =
          has_in_first m.code.program (memory m) r.needed.has.kind x.v (static_stored m id r x.v x.has)
