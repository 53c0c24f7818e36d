-- What the next operation of a job takes and sets, where its frames are as the rules say: ELEM takes an array, and the
-- hidden fields that PARAMS sets are hidden ones of the object.
use Rattle.std.proofs.Common.{◌≡◌, ℕ, zero, suc, ◌≤◌, ◌<◌, List, ◌∷◌, length, Some, None, sym, ◌∙◌, subst, arith, inl, inr}
use Rattle.std.specs.Prelude.{slice_get}
use Rattle.scj_base.specs.declared.values.Value.{Value}
use Rattle.scj_base.specs.declared.values.Value.TheVariants.{At, Null}
use Rattle.scj_rules.specs.declared.typing.Scope.{Scope}
use Rattle.scj_rules.specs.declared.typing.Ty.{Ty}
use Rattle.scj_rules.specs.declared.typing.Ty.TheVariants.{IntArray, BoolArray, ClassArray}
use Rattle.scj_rules.specs.declared.views.Body.{Body}
use Rattle.scj_rules.specs.Classes.{hidden_fields}
use Rattle.scj_rules.specs.Contexts.{Declarations}
use Rattle.accepted_laws.specs.Kinds.{Kind, number, reference}
use Rattle.accepted_laws.proofs.Tools.{some_inj}
use Rattle.scj_model.specs.declared.operations.Op.{Op}
use Rattle.scj_model.specs.declared.operations.Op.TheVariants.{Elem as ELEM}
use Rattle.scj_model.specs.declared.plans.ReadingRow.{ReadingRow}
use Rattle.scj_model.specs.Code.{Code}
use Rattle.scj_model.specs.Effects.{Effect, SetsHidden}
use Rattle.scj_model.specs.Operations.{Environment}
use Rattle.scj_model.specs.Run.{effect_at, environment}
use Rattle.scj_model.specs.State.{Frame, Object, State}
use Rattle.scope_flow.specs.Facts.{Facts}
use Rattle.scope_flow.specs.Flow.{Goals, Needs}
use Rattle.scope_flow.specs.Needs.{ElemNeeds, pushed}
use Rattle.scope_flow.specs.Signatures.{Signature}
use Rattle.scope_flow.specs.Slots.{array_type, kind_of_elements, IsOfType}
use Rattle.frame_sound.specs.EffectsFine.{EffectFine, HiddenFine}
use Rattle.frame_sound.specs.Fine.{FramesFine, MemoryFine, Ready, list_of}
use Rattle.frame_sound.specs.Places.{AllHave, Has, Place, World, an_object, denote, held, world_of}
use Rattle.frame_sound.proofs.NextOperation.{next_fine}
use Rattle.reference_sound.proofs.Passes.{highest_ready}
use Rattle.int_values.proofs.Applied.{SetsItsHidden}
use Rattle.int_values.proofs.Operations.{Takes}

-- ---- arrays

-- a type whose elements have a kind is that of an array
array_of : (p : Declarations) (class : ℕ) (t : Ty) (kind : Kind) → kind_of_elements p t ≡ Some kind →
    IsOfType p class t → (u : Ty) × (array_type p class ≡ Some u)
unfolding kind_of_elements IsOfType
array_of p class IntArray kind e h = (IntArray, h)
array_of p class BoolArray kind e h = (BoolArray, h)
array_of p class (ClassArray c) kind e h = (ClassArray c, h)
array_of p class _ kind e h = absurd (cc (e))

same_reference : (r q : ℕ) → At r ≡ At q → r ≡ q
same_reference r q e = cc (e)

no_null : (r : ℕ) → At r ≡ Null → ⊥
no_null r e = cc (e)

module _ (p : Declarations) (w : World) (den : Scope → Place) where
  element_of : (id : ℕ) (kinds out : List Kind) (values : List Value) → AllHave p w den kinds values →
      ElemNeeds p id kinds out → (index : Value) (r : ℕ) (below : List Value) (o : Object) →
      values ≡ index ∷ At r ∷ below → w.objects r ≡ Some o → (t : Ty) × (array_type p o.class ≡ Some t)
  unfolding held
  element_of id kinds out values have n index r below o e found = is_array all.1.0
    where
      all : AllHave p w den (number ∷ (reference n.type n.scope ∷ n.others)) (index ∷ At r ∷ below)
      all =
          subst (λ vs. AllHave p w den (number ∷ (reference n.type n.scope ∷ n.others)) vs) e
          (subst (λ ks. AllHave p w den ks values) n.takes have)

      is_array : Has p w (an_object n.type (den n.scope)) (At r) → (t : Ty) × (array_type p o.class ≡ Some t)
      is_array (inl none) = absurd (no_null r none)
      is_array (inr x) =
          let there : w.objects r ≡ Some x.object =
          subst (λ q. w.objects q ≡ Some x.object) (sym (same_reference r x.r x.is)) x.found in
          let same : x.object ≡ o = some_inj x.object o (sym there ∙ found) in
          array_of p o.class n.type n.kind n.elements
          (subst (λ (y : Object). IsOfType p y.class n.type) same x.of_type)

-- ---- hidden fields

all_below : (n most : ℕ) → ((i : ℕ) → i < n → i < most) → n ≤ most
all_below zero most h = omega arith
all_below (suc n) most h = let l = h n (omega arith) in omega (arith, l)

hidden_of : (p : Declarations) (s : State) (r : ℕ) (values : List Value) → HiddenFine p (world_of s) r values →
    (o : Object) → slice_get s.objects r ≡ Some o →
    (array_type p o.class ≡ None) × (length values ≤ hidden_fields p.classes o.class)
hidden_of p s r values x o there =
    subst (λ (y : Object). (array_type p y.class ≡ None) × (length values ≤ hidden_fields p.classes y.class))
    (some_inj x.object o (sym x.found ∙ there))
    (x.is_no_array, all_below (length values) (hidden_fields p.classes x.object.class) (λ i l. (x.are_hidden i l).0))

sets_of : (code : Code) (s : State) (list : List ℕ) (c : ℕ) (sig : Signature) (f : Frame) (e : Effect) →
    EffectFine code (world_of s) list c sig f e → SetsItsHidden code.program s e
sets_of code s list c sig f (SetsHidden h r values) x = hidden_of code.program s r values x.1
sets_of code s list c sig f _ x = tt

takes_of : (code : Code) (world : Environment) (areas : _) (den : Scope → Place) (body : Body) (c : ℕ)
    (sig : Signature) (f : Frame) (op : Op) (known : List ℕ) (kinds : List Kind) (next : Goals) →
    AllHave code.program (record { areas = areas; objects = world.object_at }) den kinds f.operands →
    Needs code body c sig op known kinds next → Takes code world f op
takes_of code world areas den body c sig f (ELEM id) known kinds next have r =
    element_of code.program (record { areas = areas; objects = world.object_at }) den id kinds r.out f.operands have
    r.needed
takes_of code world areas den body c sig f _ known kinds next have r = tt

-- ---- the next operation of the highest frame

module _ (code : Code) (facts : Facts code) (rows : List ReadingRow) (s : State) (base : List ℕ)
    (memory : MemoryFine code s) (f : Frame) (below : List Frame)
    (fine : FramesFine code (world_of s) base (f ∷ below)) (op : Op) (rest : List Op) (ops : f.rest ≡ op ∷ rest) where
  abbrev list : List ℕ
  list = list_of base (f ∷ below)

  ready : Ready code (world_of s) list fine.0.class fine.0.sig (record f { rest = op ∷ rest }) None
  ready =
      subst (λ xs. Ready code (world_of s) list fine.0.class fine.0.sig (record f { rest = xs }) None) ops
      (highest_ready code (world_of s) list f fine.0)

  pub next_sets : SetsItsHidden code.program s (effect_at code rows s f op rest)
  next_sets =
      sets_of code s list fine.0.class fine.0.sig (record f { rest = rest }) (effect_at code rows s f op rest)
      (next_fine code facts (world_of s).areas (environment rows s) list fine.0.class fine.0.sig f op rest fine.1
      memory.heap memory.statics ready).is

  pub next_takes : Takes code (environment rows s) (record f { rest = rest }) op
  unfolding pushed
  next_takes =
      takes_of code (environment rows s) (world_of s).areas (denote (world_of s) list f.this f.area) f.body
      fine.0.class fine.0.sig (record f { rest = rest }) op ready.known ready.kinds _ ready.operands ready.flow.1
