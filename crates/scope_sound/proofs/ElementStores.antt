-- What has elements assigned is an array, and a class is none.
use Rattle.std.specs.Prelude.{Option, ◌-◌, Some, None, nat_lt, not, ◌||◌, ◌==◌, if◌then◌else◌, ℤ, IsSome, option_map}
use Rattle.std.proofs.Common.{◌≡◌, ℕ, ◌+◌, List, [], ◌∷◌, length, Bool, true, false, refl, sym, ◌∙◌, ap, subst, arith, inl, inr}
use Rattle.std.proofs.lemmas.Bool.Decides.{nat_tests}
use Rattle.scj_base.specs.declared.faults.RunFault.TheVariants.{ArrayIndex}
use Rattle.scj_base.specs.declared.values.Value.{Value}
use Rattle.scj_base.specs.declared.values.Value.TheVariants.{Int, Bool as Truth, Null, At}
use Rattle.scj_rules.specs.declared.typing.Ty.{Ty}
use Rattle.scj_rules.specs.declared.typing.Ty.TheVariants.{ClassArray}
use Rattle.scj_rules.specs.declared.views.SlotKind.{SlotKind}
use Rattle.scj_rules.specs.declared.views.SlotKind.TheVariants.{Number as NumberSlot, Truth as TruthSlot, Reference as ReferenceSlot}
use Rattle.scj_rules.specs.Words.{◌>>=◌}
use Rattle.scj_rules.specs.Contexts.{Declarations}
use Rattle.scj_rules.specs.Layout.{element_kind, class_of_elements, first_array_class}
use Rattle.accepted_laws.specs.Kinds.{number, reference}
use Rattle.accepted_laws.proofs.Tools.{some_inj}
use Rattle.scj_model.specs.declared.operations.Op.{Op}
use Rattle.scj_model.specs.declared.operations.Op.TheVariants.{PutElem as PUTELEM}
use Rattle.scj_model.specs.Code.{Code}
use Rattle.scj_model.specs.State.{MemoryArea, Object, Frame}
use Rattle.scj_model.specs.Effects.{Effect, Stores, Faults, Stuck, given, as_int, as_object}
use Rattle.scj_model.specs.Operations.{Environment, effect_of, index_in}
use Rattle.scope_flow.specs.Facts.{Facts}
use Rattle.scope_flow.specs.Flow.{Needs}
use Rattle.scope_flow.specs.Needs.{pushed}
use Rattle.scope_flow.specs.Signatures.{Signature}
use Rattle.scope_flow.specs.Slots.{array_type, array_type_by}
use Rattle.frame_sound.specs.Places.{World, Place, Has, IsObject, an_object, held}
use Rattle.frame_sound.specs.Fine.{ListFine, HeapFine, StaticsFine, Ready}
use Rattle.frame_sound.proofs.Scenes.{Scene, memory, den, FlowsOn, take, next_taken}
use Rattle.frame_sound.proofs.ActsOnValues.{is_array_of}

-- ---- the classes of arrays

-- what has the type of an array has elements
has_elements : (p : Declarations) (class : ℕ) (t : Ty) → array_type p class ≡ Some t → IsSome (element_kind p class)
unfolding array_type
has_elements p class t e = go (element_kind p class) e
  where
    go : (o : Option SlotKind) → o >>= array_type_by p class ≡ Some t → IsSome o
    go None e = absurd (cc (e))
    go (Some k) e = refl

-- what is no array has no elements: an array of references has the class of its elements
module _ (p : Declarations) (class : ℕ) where
  abbrev behind_all : ℕ
  behind_all = first_array_class p + 2 + length p.names

  record IsOfReferences : Type 0 where
    pub is_array : nat_lt class (first_array_class p) ≡ false
    pub no_ints : (class == first_array_class p) ≡ false
    pub no_truths : (class == first_array_class p + 1) ≡ false
    pub is_inside : nat_lt class behind_all ≡ true

  is_of_references : element_kind p class ≡ Some ReferenceSlot → IsOfReferences
  unfolding element_kind
  is_of_references =
      go (nat_lt class (first_array_class p)) (class == first_array_class p) (class == first_array_class p + 1)
      (nat_lt class behind_all) refl refl refl refl
    where
      go : (a b c d : Bool) → nat_lt class (first_array_class p) ≡ a → (class == first_array_class p) ≡ b →
          (class == first_array_class p + 1) ≡ c → nat_lt class behind_all ≡ d →
          (if a then None else (if b then Some NumberSlot
          else (if c then Some TruthSlot else (if d then Some ReferenceSlot else None)))) ≡ Some ReferenceSlot →
          IsOfReferences
      go true b c d ea eb ec ed e = absurd (cc (e))
      go false true c d ea eb ec ed e = absurd (cc (e))
      go false false true d ea eb ec ed e = absurd (cc (e))
      go false false false true ea eb ec ed e =
          record { is_array = ea; no_ints = eb; no_truths = ec; is_inside = ed }
      go false false false false ea eb ec ed e = absurd (cc (e))

  class_of_references : IsOfReferences →
      class_of_elements p class ≡ Some (class - (first_array_class p + 2))
  unfolding class_of_elements
  class_of_references h =
      ap (λ t. if t || not (nat_lt class behind_all) then None else Some (class - (first_array_class p + 2)))
      (behind (first_array_class p) h.is_array h.no_ints h.no_truths)
      ∙ ap (λ t. if not t then None else Some (class - (first_array_class p + 2))) h.is_inside
    where
      behind : (n : ℕ) → nat_lt class n ≡ false → (class == n) ≡ false → (class == n + 1) ≡ false →
          nat_lt class (n + 2) ≡ false
      behind n a b c = grind (arith, nat_tests, a, b, c)

  pub no_elements : array_type p class ≡ None → element_kind p class ≡ None
  unfolding array_type array_type_by
  no_elements none = go (element_kind p class) refl none
    where
      go : (o : Option SlotKind) → element_kind p class ≡ o → o >>= array_type_by p class ≡ None →
          element_kind p class ≡ None
      go None e h = e
      go (Some NumberSlot) e h = absurd (cc (h))
      go (Some TruthSlot) e h = absurd (cc (h))
      go (Some ReferenceSlot) e h =
          absurd (let some : Some (ClassArray (class - (first_array_class p + 2))) ≡ None =
          sym (ap (option_map (λ c. ClassArray c)) (class_of_references (is_of_references e))) ∙ h in cc (some))

-- ---- stores

-- where the effect is a store, what gets the value has elements
record OnlyIntoArrays (p : Declarations) (objects : ℕ → Option Object) (e : Effect) : Type 0 where
  pub is : (f : Frame) (r slot : ℕ) (v : Value) → e ≡ Stores f r slot v → (o : Object) → objects r ≡ Some o →
      IsSome (element_kind p o.class)

module _ (m : Scene) where
  abbrev Ok : Effect → Type 0
  Ok e = OnlyIntoArrays m.code.program m.world.object_at e

  stops : Ok Stuck
  stops = record { is = λ f r slot v e o found. absurd (cc (e)) }

  known_given : {A : Type 0} (o : Option A) (next : A → Effect) (x : A) → o ≡ Some x → Ok (next x) → Ok (given o next)
  known_given o next x e h = subst (λ y. Ok (given y next)) (sym e) h

  -- `pop`, as it is defined
  known_pop : (vs : List Value) (next : Value → List Value → Effect) (v : Value) (below : List Value) →
      vs ≡ v ∷ below → Ok (next v below) → Ok (elim vs [ [] ↦ Stuck | x ∷ xs ↦ next x xs ])
  known_pop vs next v below e h =
      subst (λ (ops : List Value). Ok (elim ops [ [] ↦ Stuck | x ∷ xs ↦ next x xs ])) (sym e) h

  any_int : (v : Value) (next : ℤ → Effect) → ((z : ℤ) → Ok (next z)) → Ok (as_int v next)
  any_int (Int z) next h = h z
  any_int (Truth b) next h = stops
  any_int Null next h = stops
  any_int (At r) next h = stops

  known_object : (t : Ty) (a : Place) (v : Value) (next : ℕ → Effect) →
      Has m.code.program (memory m) (an_object t a) v →
      ((o : IsObject m.code.program (memory m) t a v) → Ok (next o.r)) → Ok (as_object v next)
  known_object t a v next (inl e) go =
      subst (λ x. Ok (as_object x next)) (sym e) (record { is = λ f r slot v e o found. absurd (cc (e)) })
  known_object t a v next (inr o) go = subst (λ x. Ok (as_object x next)) (sym o.is) (go o)

  at_index : (rest : List Value) (v : Value) (o : Object) (q : ℕ) → m.world.object_at q ≡ Some o →
      IsSome (element_kind m.code.program o.class) → (index : Option ℕ) →
      Ok (elim index [
        | None ↦ Faults ArrayIndex
        | Some k ↦ Stores (record m.frame { operands = rest }) q k v
      ])
  at_index rest v o q found elements None = record { is = λ f r slot v e o found. absurd (cc (e)) }
  at_index rest v o q found elements (Some k) = record { is = stored }
    where
      stored : (f : Frame) (r slot : ℕ) (x : Value) →
          Stores (record m.frame { operands = rest }) q k v ≡ Stores f r slot x → (other : Object) →
          m.world.object_at r ≡ Some other → IsSome (element_kind m.code.program other.class)
      stored f r slot x e other there =
          let at : q ≡ r = cc (e) in
          let same : o ≡ other = some_inj o other (sym found ∙ (ap m.world.object_at at ∙ there)) in
          subst (λ (y : Object). IsSome (element_kind m.code.program y.class)) same elements

  put_elem_into_arrays : (id : ℕ) →
      Needs m.code m.frame.body m.class m.sig (PUTELEM id) m.known m.kinds
      (FlowsOn m m.frame.rest) →
      Ok (effect_of m.code m.world m.frame (PUTELEM id))
  unfolding effect_of held
  put_elem_into_arrays id r =
      let n = r.needed in
      let x = take m n.value (number ∷ (reference n.type n.scope ∷ r.out)) n.takes in
      let y = next_taken m number (reference n.type n.scope ∷ r.out) x.rest x.have in
      let z = next_taken m (reference n.type n.scope) r.out y.rest y.have in
      known_pop m.frame.operands _ x.v x.rest x.is
      (known_pop x.rest _ y.v y.rest y.is
      (known_pop y.rest _ z.v z.rest z.is
      (known_object n.type (den m n.scope) z.v _ z.has (λ o.
      any_int y.v _ (λ i.
      known_given _ _ o.object o.found
      (at_index z.rest x.v o.object o.r o.found
      (has_elements m.code.program o.object.class n.type
      (is_array_of m o.object.class n.type n.kind n.elements o.of_type)) (index_in o.object.slots i)))))))

-- ---- the next operation of a frame that is ready

module _ (code : Code) (facts : Facts code) (areas : ℕ → Option MemoryArea) (world : Environment) (list : List ℕ)
    (class : ℕ) (sig : Signature) (f : Frame) (id : ℕ) (rest : List Op) where
  abbrev w : World
  w = record { areas = areas; objects = world.object_at }

  pub elements_of_arrays : ListFine areas list → HeapFine code.program w → StaticsFine code.program w world.statics →
      Ready code w list class sig (record f { rest = PUTELEM id ∷ rest }) None → (h : Frame) (r slot : ℕ) (v : Value) →
      effect_of code world (record f { rest = rest }) (PUTELEM id) ≡ Stores h r slot v → (o : Object) →
      world.object_at r ≡ Some o → IsSome (element_kind code.program o.class)
  unfolding pushed
  elements_of_arrays fine heap statics r = (put_elem_into_arrays scene id r.flow.1).is
    where
      scene : Scene
      scene =
          record {
            code = code;
            facts = facts;
            areas = areas;
            world = world;
            list = list;
            class = class;
            sig = sig;
            frame = record f { rest = rest };
            known = r.known;
            kinds = r.kinds;
            fine = fine;
            heap = heap;
            statics = statics;
            runs = r.runs;
            home = r.home;
            operands = r.operands;
            locals = r.locals;
          }
