-- The operations on values, variables, fields and elements: each finds what it needs, and what it leaves is of its
-- kind.
use Rattle.std.specs.Prelude.{Option, Some, None, slice_get, nat_lt, if◌then◌else◌, ℤ, pos, negsuc, neg_ℤ, option_map}
use Rattle.std.proofs.Common.{◌≡◌, ℕ, zero, suc, ◌<◌, List, [], ◌∷◌, length, Bool, true, false, refl, sym, ap, subst, arith, ◌⊎◌, inl, inr}
use Rattle.std.proofs.lemmas.Bool.Decides.{nat_tests}
use Rattle.scj_base.specs.declared.faults.RunFault.TheVariants.{ArrayIndex}
use Rattle.scj_base.specs.declared.values.Value.{Value}
use Rattle.scj_base.specs.declared.values.Value.TheVariants.{Int, Bool as Truth, Null, At}
use Rattle.scj_tree.specs.declared.nodes.Node.{Node}
use Rattle.scj_tree.specs.declared.nodes.Node.TheVariants.{Number, True, False, Null as NullNode}
use Rattle.scj_rules.specs.declared.typing.Ty.{Ty}
use Rattle.scj_rules.specs.declared.typing.Ty.TheVariants.{NullTy, Class as ClassTy, IntArray, BoolArray, ClassArray}
use Rattle.scj_rules.specs.declared.typing.Scope.{Scope}
use Rattle.scj_rules.specs.declared.typing.Scope.TheVariants.{Any, This, Caller, In, Unknown, Lost}
use Rattle.scj_rules.specs.Words.{◌>>=◌}
use Rattle.scj_rules.specs.StaticScopes.{this_in}
use Rattle.accepted_laws.specs.Kinds.{Kind, number, truth, yes, reference, fresh, seen_kind}
use Rattle.accepted_laws.proofs.Tools.{some_inj}
use Rattle.scj_model.specs.declared.operations.Op.{Op}
use Rattle.scj_model.specs.declared.operations.Op.TheVariants.{Push as PUSH, This as THIS, Load as LOAD, Get as GET, GetStatic as GETSTATIC, Length as LENGTH, Elem as ELEM}
use Rattle.scj_model.specs.State.{Object}
use Rattle.scj_model.specs.Memory.{literal_value}
use Rattle.scj_model.specs.Effects.{Faults, given, pushes}
use Rattle.scj_model.specs.Operations.{effect_of, index_in}
use Rattle.scope_flow.specs.Slots.{array_type, kind_of_own_slot, kind_of_slot, kind_of_elements, IsSlotKind, IsImmortal, IsOfType, kind_of_literal}
use Rattle.scope_flow.specs.Needs.{Loosely}
use Rattle.scope_flow.specs.Flow.{Needs}
use Rattle.scope_flow.specs.Guards.{IsPlain, StandsIn}
use Rattle.frame_sound.specs.Places.{in_one, LiesAt, denote, area_around, within, held, IsObject, Has}
use Rattle.frame_sound.proofs.Places.{at_area, around_named, has_where, slot_seen}
use Rattle.frame_sound.proofs.Begins.{home_cases}
use Rattle.frame_sound.proofs.Scenes.{Scene, memory, den, Holds, HoldAll, FlowsOn, LeftGuards, GuardedWith, Ok, take, next_taken, pop_fine, given_fine, int_fine, object_fine, guards_left, goes_guarded, goes_fine, on_list, view}

abbrev pub NeedsNext : Scene → Op → Type 0
NeedsNext m op = Needs m.code m.frame.body m.class m.sig op m.known m.kinds (FlowsOn m m.frame.rest)

-- what an operation needs, and that its effect is fine
abbrev pub Does : Scene → Op → Type 0
Does m op =
    LeftGuards m m.frame.rest → NeedsNext m op → Ok m (effect_of m.code m.world m.frame op)

-- the same where it is known on which way through the body the operation stands
abbrev pub DoesThere : Scene → Op → Type 0
DoesThere m op =
    LeftGuards m m.frame.rest → FlowsOn m (op ∷ m.frame.rest) m.known m.kinds →
    Ok m (effect_of m.code m.world m.frame op)

-- the same of one that leads into a part, sets a variable or stores in a field, and has nothing to do with a guard itself
abbrev pub DoesStanding : Scene → Op → Type 0
DoesStanding m op =
    (l : LeftGuards m m.frame.rest) → IsPlain m.code op → StandsIn m.code l.around op →
    FlowsOn m (op ∷ m.frame.rest) m.known m.kinds → Ok m (effect_of m.code m.world m.frame op)

-- a value that is there, of a kind
pub record ValueOf (m : Scene) (o : Option Value) (k : Kind) : Type 0 where
  pub value : Value
  pub is : o ≡ Some value
  pub has : Holds m k value

module _ (m : Scene) where
  -- ---- literals

  literal_loose : (exact kind : Kind) → Loosely exact kind → (v : Value) → Holds m exact v → Holds m kind v
  unfolding held
  literal_loose exact kind (inl e) v h = subst (λ k. Holds m k v) e h
  literal_loose exact kind (inr e) v h =
      subst (λ k. Holds m k v) (sym e.1) (true, subst (λ k. Holds m k v) e.0 h)

  literal_exact : (n : Node) (exact : Kind) → kind_of_literal n ≡ Some exact → ValueOf m (literal_value n) exact
  unfolding literal_value kind_of_literal held
  literal_exact (Number position value negative) exact e = of_number (if negative then neg_ℤ (pos value) else pos value)
    where
      of_number : (z : ℤ) → ValueOf m (Some (Int z)) exact
      of_number z =
          record { value = Int z; is = refl; has = subst (λ k. Holds m k (Int z)) (some_inj number exact e) (z, refl) }
  literal_exact (True position) exact e =
      record { value = Truth true; is = refl; has = subst (λ k. Holds m k (Truth true)) (some_inj yes exact e) refl }
  literal_exact (False position) exact e =
      record {
        value = Truth false;
        is = refl;
        has = subst (λ k. Holds m k (Truth false)) (some_inj truth exact e) (false, refl);
      }
  literal_exact (NullNode position) exact e =
      record {
        value = Null;
        is = refl;
        has = subst (λ k. Holds m k Null) (some_inj (reference NullTy Any) exact e) (inl refl);
      }
  literal_exact _ exact e = absurd (cc (e))

  pub literal_of_node : (o : Option Node) (exact : Kind) → o >>= kind_of_literal ≡ Some exact →
      ValueOf m (o >>= literal_value) exact
  literal_of_node None exact e = absurd (cc (e))
  literal_of_node (Some n) exact e = literal_exact n exact e

  pub push_fine : (id : ℕ) → Does m (PUSH id)
  unfolding effect_of
  push_fine id l r =
      let v = literal_of_node (slice_get m.code.program.nodes id) r.needed.exact r.needed.is in
      given_fine m _ _ v.value v.is
      (goes_fine m l _ (r.needed.kind ∷ m.kinds)
      (literal_loose r.needed.exact r.needed.kind r.needed.loose v.value v.has, m.operands)
      (subst (FlowsOn m m.frame.rest m.known) r.needed.leaves r.goes))

  -- ---- variables

  pub this_guarded : (id : ℕ) → ((q : ℕ) → m.frame.this ≡ Some q → GuardedWith m (At q ∷ m.frame.operands)) →
      NeedsNext m (THIS id) → Ok m (effect_of m.code m.world m.frame (THIS id))
  unfolding effect_of held
  this_guarded id g r =
      let o = m.home.own r.needed.for_object in
      given_fine m _ _ o.r o.is
      (goes_guarded m _ (r.needed.kind ∷ m.kinds) (holds (At o.r) (is_object o.r refl), m.operands)
      (subst (FlowsOn m m.frame.rest m.known) r.needed.leaves r.goes) (g o.r o.is))
    where
      is_object : (q : ℕ) → q ≡ (m.home.own r.needed.for_object).r →
          IsObject m.code.program (memory m) (ClassTy m.class) (den m r.needed.home) (At q)
      is_object q e =
          let o = m.home.own r.needed.for_object in
          record {
            r = o.r;
            is = ap (λ x. At x) e;
            object = o.object;
            found = o.found;
            of_type = o.of_type;
            lies = at_area (den m r.needed.home) o.object.area (o.lies r.needed.home r.needed.is_home);
          }

      holds : (v : Value) → IsObject m.code.program (memory m) (ClassTy m.class) (den m r.needed.home) v →
          Holds m r.needed.kind v
      holds v o =
          elim r.needed.loose as (λ z. Holds m r.needed.kind v) [
            | inl e ↦ subst (λ k. Holds m k v) (sym e) o
            | inr e ↦ subst (λ k. Holds m k v) (sym e) (inr o)
          ]

  pub this_fine : (id : ℕ) → Does m (THIS id)
  this_fine id l r = this_guarded id (λ q e. guards_left m l (At q ∷ m.frame.operands) None) r

  pub load_guarded : (id : ℕ) (r : NeedsNext m (LOAD id)) →
      ((value : Value) → slice_get m.frame.locals r.needed.local ≡ Some value →
      GuardedWith m (value ∷ m.frame.operands)) → Ok m (effect_of m.code m.world m.frame (LOAD id))
  unfolding effect_of
  load_guarded id r g =
      let v = r.needed.is_variable in
      let x = m.locals.each r.needed.local r.needed.variable v.kind v.is_there v.is_kind r.needed.is_set in
      given_fine m _ _ r.needed.local r.needed.is
      (given_fine m _ _ x.value x.is
      (goes_guarded m _ (v.kind ∷ m.kinds) (x.has, m.operands)
      (subst (FlowsOn m m.frame.rest m.known) r.needed.leaves r.goes) (g x.value x.is)))

  pub load_fine : (id : ℕ) → Does m (LOAD id)
  load_fine id l r = load_guarded id r (λ value e. guards_left m l (value ∷ m.frame.operands) None)

  -- ---- slots

  get_at : (xs : List Value) (i : ℕ) → i < length xs → (v : Value) × (slice_get xs i ≡ Some v)
  get_at [] i l = absurd (omega (arith, l))
  get_at (x ∷ xs) zero l = (x, refl)
  get_at (x ∷ xs) (suc i) l = get_at xs i (omega (arith, l))

  -- a value of a slot, as the frame sees it that has the object in this scope
  pub seen_value : (o : Object) (r : ℕ) → m.world.object_at r ≡ Some o → (scope : Scope) →
      LiesAt (den m scope) o.area → (slot : ℕ) (k : Kind) → kind_of_slot m.code.program o.class slot ≡ Some k → IsSlotKind k → (v : Value) →
      slice_get o.slots slot ≡ Some v → Holds m (seen_kind scope Caller k) v
  seen_value o r found scope lies slot k is fs v there =
      slot_seen m.code.program (memory m) m.list m.fine (den m) (view m) o.area (on_list m scope o.area lies) scope
      lies k fs v ((m.heap r o found).has slot k v is there)

  pub get_fine : (id : ℕ) → Does m (GET id)
  unfolding effect_of held IsOfType
  get_fine id l r =
      let n = r.needed in
      let x = take m (reference (ClassTy n.class) n.scope) n.others n.takes in
      given_fine m _ _ n.field n.is
      (pop_fine m m.frame.operands _ x.v x.rest x.is
      (object_fine m (ClassTy n.class) (den m n.scope) x.v _ x.has (λ o.
      let s = n.has.each o.object.class o.of_type.0 o.of_type.1 in
      let full = (m.heap o.r o.object o.found).is_full s.is_no_array in
      let v = get_at o.object.slots s.slot (let w = s.within in omega (arith, full, w)) in
      given_fine m _ _ o.object o.found
      (given_fine m _ _ s.slot s.is
      (given_fine m _ _ v.0 v.1
      (goes_fine m l (v.0 ∷ x.rest) (seen_kind n.scope Caller n.has.kind ∷ n.others)
      (seen_value o.object o.r o.found n.scope o.lies s.slot n.has.kind s.holds n.has.is_slot_kind v.0 v.1, x.have)
      (subst (FlowsOn m m.frame.rest m.known) n.leaves r.goes)))))))

  -- ---- static fields: their values lie in immortal memory, which stands on every list

  static_seen : (k : Kind) → IsImmortal k → (v : Value) → Has m.code.program (memory m) (held (within m.areas 0) k) v →
      Holds m k v
  unfolding held within denote IsImmortal
  static_seen number fs v h = h
  static_seen truth fs v h = h
  static_seen yes fs v h = h
  static_seen (fresh c s) fs v h = absurd fs
  static_seen (reference t (In n)) fs v h =
      has_where m.code.program (memory m) t (in_one (area_around m.areas n 1 0)) (den m (In n)) v
      (λ r e. around_named m.areas m.list m.fine n r 1 0 m.fine.has_immortal e) h
  static_seen (reference t This) fs v h = absurd fs
  static_seen (reference t Caller) fs v h = absurd fs
  static_seen (reference t Any) fs v h = absurd fs
  static_seen (reference t Unknown) fs v h = absurd fs
  static_seen (reference t Lost) fs v h = absurd fs

  pub get_static_fine : (id : ℕ) → Does m (GETSTATIC id)
  unfolding effect_of
  get_static_fine id l r =
      let n = r.needed in
      let s = m.statics n.has.index n.has.kind n.has.holds in
      given_fine m _ _ n.field n.is
      (given_fine m _ _ n.has.index n.has.is
      (given_fine m _ _ s.value s.is
      (goes_fine m l _ (n.has.kind ∷ m.kinds) (static_seen n.has.kind n.has.is_immortal s.value s.has, m.operands)
      (subst (FlowsOn m m.frame.rest m.known) n.leaves r.goes))))

  -- ---- arrays

  -- the class of an array's object, by its type
  pub is_array_of : (class : ℕ) (t : Ty) (k : Kind) → kind_of_elements m.code.program t ≡ Some k →
      IsOfType m.code.program class t → array_type m.code.program class ≡ Some t
  unfolding kind_of_elements IsOfType
  is_array_of class IntArray k e h = h
  is_array_of class BoolArray k e h = h
  is_array_of class (ClassArray c) k e h = h
  is_array_of class _ k e h = absurd (cc (e))

  pub element_kind_is : (class : ℕ) (t : Ty) (k : Kind) (i : ℕ) → kind_of_elements m.code.program t ≡ Some k →
      array_type m.code.program class ≡ Some t → kind_of_slot m.code.program class i ≡ Some k
  unfolding kind_of_slot
  element_kind_is class t k i e f =
      subst
      (λ (o : Option Ty). (elim o as (λ z. Option Kind) [
        | None ↦ kind_of_own_slot m.code.program class i
        | Some t ↦ kind_of_elements m.code.program t
      ]) ≡ Some k)
      (sym f) e

  -- the scopes that elements have
  pub elements_are_slots : (t : Ty) (k : Kind) → kind_of_elements m.code.program t ≡ Some k → IsSlotKind k
  unfolding kind_of_elements IsSlotKind
  elements_are_slots IntArray k e = subst IsSlotKind (some_inj number k e) tt
  elements_are_slots BoolArray k e = subst IsSlotKind (some_inj truth k e) tt
  elements_are_slots (ClassArray c) k e = go (this_in m.code.program c) refl e
    where
      in_home : (h : Scope) → (h ≡ This) ⊎ ((n : ℕ) × (h ≡ In n)) → IsSlotKind (reference (ClassTy c) h)
      in_home h (inl x) = subst (λ s. IsSlotKind (reference (ClassTy c) s)) (sym x) tt
      in_home h (inr x) = subst (λ s. IsSlotKind (reference (ClassTy c) s)) (sym x.1) tt

      go : (o : Option Scope) → this_in m.code.program c ≡ o →
          option_map (λ s. reference (ClassTy c) s) o ≡ Some k → IsSlotKind k
      go None f e = absurd (cc (e))
      go (Some h) f e =
          subst IsSlotKind (some_inj (reference (ClassTy c) h) k e) (in_home h (home_cases m.code.program c h f))
  elements_are_slots _ k e = absurd (cc (e))

  pub length_fine : (id : ℕ) → Does m (LENGTH id)
  unfolding effect_of held
  length_fine id l r =
      let n = r.needed in
      let x = take m (reference n.type n.scope) n.others n.takes in
      pop_fine m m.frame.operands _ x.v x.rest x.is
      (object_fine m n.type (den m n.scope) x.v _ x.has (λ o.
      given_fine m _ _ o.object o.found
      (goes_fine m l (Int (pos (length o.object.slots)) ∷ x.rest) (number ∷ n.others)
      ((pos (length o.object.slots), refl), x.have)
      (subst (FlowsOn m m.frame.rest m.known) n.leaves r.goes))))

  -- an index is there, or it isn't one
  pub index_cases : (xs : List Value) (z : ℤ) →
      (index_in xs z ≡ None) ⊎ ((i : ℕ) × (index_in xs z ≡ Some i) × (i < length xs))
  index_cases xs (pos i) = go (nat_lt i (length xs)) refl
    where
      go : (t : Bool) → nat_lt i (length xs) ≡ t →
          ((if t then Some i else None) ≡ None) ⊎ ((j : ℕ) × ((if t then Some i else None) ≡ Some j) × (j < length xs))
      go true e = inr (i, refl, (let l : i < length xs = grind (arith, nat_tests) in l))
      go false e = inl refl
  index_cases xs (negsuc i) = inl refl

  pub elem_fine : (id : ℕ) → Does m (ELEM id)
  unfolding effect_of held
  elem_fine id l r =
      let n = r.needed in
      let x = take m number (reference n.type n.scope ∷ n.others) n.takes in
      let y = next_taken m (reference n.type n.scope) n.others x.rest x.have in
      pop_fine m m.frame.operands _ x.v x.rest x.is
      (pop_fine m x.rest _ y.v y.rest y.is
      (object_fine m n.type (den m n.scope) y.v _ y.has (λ o.
      int_fine m x.v _ x.has (λ z.
      given_fine m _ _ o.object o.found
      (at_index y.rest y.have o.object o.r o.found (is_array_of o.object.class n.type n.kind n.elements o.of_type)
      o.lies z (index_cases o.object.slots z))))))
    where
      at_index : (rest : List Value) → HoldAll m r.needed.others rest → (o : Object) (q : ℕ) →
          m.world.object_at q ≡ Some o → array_type m.code.program o.class ≡ Some r.needed.type →
          LiesAt (den m r.needed.scope) o.area → (z : ℤ) →
          (index_in o.slots z ≡ None) ⊎ ((i : ℕ) × (index_in o.slots z ≡ Some i) × (i < length o.slots)) →
          Ok m (elim (index_in o.slots z) [
            | None ↦ Faults ArrayIndex
            | Some k ↦ given (slice_get o.slots k) (λ value. pushes (record m.frame { operands = rest }) value)
          ])
      at_index rest have o q found is lies z (inl e) =
          subst (λ (i : Option ℕ). Ok m (elim i [
            | None ↦ Faults ArrayIndex
            | Some k ↦ given (slice_get o.slots k) (λ value. pushes (record m.frame { operands = rest }) value)
          ])) (sym e) (record { is = tt })
      at_index rest have o q found is lies z (inr i) =
          let v = get_at o.slots i.0 i.2 in
          let n = r.needed in
          subst (λ (i : Option ℕ). Ok m (elim i [
            | None ↦ Faults ArrayIndex
            | Some k ↦ given (slice_get o.slots k) (λ value. pushes (record m.frame { operands = rest }) value)
          ])) (sym i.1)
          (given_fine m _ _ v.0 v.1
          (goes_fine m l (v.0 ∷ rest) (seen_kind n.scope Caller n.kind ∷ n.others) (
            seen_value o q found n.scope lies i.0 n.kind (element_kind_is o.class n.type n.kind i.0 n.elements is)
                (elements_are_slots n.type n.kind n.elements) v.0 v.1,
            have,
          )
          (subst (FlowsOn m m.frame.rest m.known) n.leaves r.goes)))
