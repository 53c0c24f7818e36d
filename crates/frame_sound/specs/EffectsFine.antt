-- What an operation's effect has to keep.
use Rattle.std.specs.Prelude.{◌≡◌, ℕ, ◌<◌, true, ◌⊎◌, List, [], ◌∷◌, length, slice_get, Option, Some, None, ℤ}
use Rattle.scj_base.specs.declared.values.Value.{Value}
use Rattle.scj_base.specs.declared.values.Value.TheVariants.{Int}
use Rattle.scj_rules.specs.declared.typing.Ty.{Ty}
use Rattle.scj_rules.specs.declared.typing.Scope.{Scope}
use Rattle.scj_rules.specs.Classes.{hidden_fields}
use Rattle.scj_rules.specs.Contexts.{Declarations}
use Rattle.scj_rules.specs.Layout.{slots}
use Rattle.scj_rules.specs.ScopeRules.{parent_scope, is_handler}
use Rattle.scj_rules.specs.declared.views.Body.TheVariants.{Written}
use Rattle.accepted_laws.specs.Kinds.{Kind, number, reference, fresh}
use Rattle.scj_model.specs.Code.{Code}
use Rattle.scj_model.specs.State.{MemoryArea, Object, Frame}
use Rattle.scj_model.specs.Effects.{Effect, Goes, Prints, Makes, Stores, StoresStatic, SetsHidden, SetsCeiling, Calls, Opens, Leaves, AsksRegistration, AsksRelease, AsksTermination, Faults, Stuck, new_frame}
use Rattle.scope_flow.specs.Slots.{array_type, kind_of_slot, kind_of_static}
use Rattle.scope_flow.specs.Signatures.{Signature, IsConcrete, IsEntered, LiesHere, SlotsReach}
use Rattle.frame_sound.specs.Calls.{IsCalledIn}
use Rattle.frame_sound.specs.Places.{World, Place, denote, within, held, Has}
use Rattle.frame_sound.specs.Fine.{Ready, held_option, GivenFits, IsOnList}

-- the frame stands where it stood
pub record IsSame (f h : Frame) : Type 0 where
  pub body : h.body ≡ f.body
  pub called_at : h.called_at ≡ f.called_at
  pub this : h.this ≡ f.this
  pub area : h.area ≡ f.area
  pub saved : h.saved ≡ f.saved
  pub opened : h.opened ≡ f.opened

-- the frame goes on, once it has a value of this kind if any
pub record GoesOn (code : Code) (w : World) (list : List ℕ) (c : ℕ) (sig : Signature) (f h : Frame)
    (kind : Option Kind) : Type 0 where
  pub same : IsSame f h
  pub ready : Ready code w list c sig h kind

-- what a new object is to the frame that makes it
abbrev pub IsNewKind : Declarations → ℕ → Scope → Kind → Type 0
IsNewKind p class now kind =
    ((kind ≡ fresh class now) × IsConcrete p class)
    ⊎ ((t : Ty) × (kind ≡ reference t now) × (array_type p class ≡ Some t))

pub record MakeFine (code : Code) (w : World) (list : List ℕ) (c : ℕ) (sig : Signature) (f h : Frame) (class : ℕ)
    (values : List Value) : Type 0 where
  pub kind : Kind
  pub is_kind : IsNewKind code.program class sig.runs_in kind
  pub goes : GoesOn code w list c sig f h (Some kind)
  pub lies : LiesHere code.program class sig.runs_in
  pub reach : SlotsReach code.program class sig.runs_in
  pub is_full : array_type code.program class ≡ None → length values ≡ slots code.program class
  -- the values with which it begins are right wherever it lies
  pub begins : (u : World) (den : Scope → Place) (slot : ℕ) (k : Kind) (v : Value) →
      kind_of_slot code.program class slot ≡ Some k → slice_get values slot ≡ Some v →
      Has code.program u (held den k) v

pub record StoreFine (p : Declarations) (w : World) (r slot : ℕ) (v : Value) : Type 0 where
  pub object : Object
  pub found : w.objects r ≡ Some object
  pub has : (k : Kind) → kind_of_slot p object.class slot ≡ Some k →
      Has p w (held (within w.areas object.area) k) v

abbrev pub AreInts : List Value → Type 0
AreInts [] = Unit {0}
AreInts (v ∷ vs) = ((z : ℤ) × (v ≡ Int z)) × AreInts vs

pub record HiddenFine (p : Declarations) (w : World) (r : ℕ) (values : List Value) : Type 0 where
  pub object : Object
  pub found : w.objects r ≡ Some object
  pub is_no_array : array_type p object.class ≡ None
  pub are_ints : AreInts values
  pub are_hidden : (slot : ℕ) → slot < length values →
      (slot < hidden_fields p.classes object.class) × (kind_of_slot p object.class slot ≡ Some number)

pub record CallFine (code : Code) (w : World) (list : List ℕ) (c : ℕ) (sig : Signature) (f h g : Frame) : Type 0 where
  pub kind : Option Kind
  pub goes : GoesOn code w list c sig f h kind
  pub class : ℕ
  pub own : Signature
  pub begins : Ready code w list class own g None
  pub unopened : g.opened ≡ None
  pub fits : GivenFits code.program (held_option (denote w list g.this g.area) own.gives)
      (held_option (denote w list h.this h.area) kind)
  pub on : IsCalledIn code w list h g.body g.called_at g.this g.area

-- a frame that runs in a new area of this scope
pub record OpenFine (code : Code) (w : World) (list : List ℕ) (c : ℕ) (sig : Signature) (f h g : Frame)
    (scope : ℕ) : Type 0 where
  pub goes : GoesOn code w list c sig f h None
  pub parent : ℕ
  pub is_parent : parent_scope code.program scope ≡ Some parent
  pub around : MemoryArea
  pub is_area : w.areas h.area ≡ Some around
  pub named : around.scope ≡ parent
  pub r : ℕ
  pub on_list : IsOnList w list r
  pub is_class : on_list.object.class < length code.program.classes
  pub entered : IsEntered code.program on_list.object.class scope
  pub called_at : Option ℕ
  pub is : g ≡ new_frame code (Written entered.run.body) called_at (Some r) f.area []
  -- whichever area is opened for it
  pub on : (area : ℕ) → IsCalledIn code w list h g.body g.called_at g.this area

abbrev pub ReturnFine : Declarations → World → (Scope → Place) → Option Kind → Option Value → Type 0
ReturnFine p w den None None = Unit {0}
ReturnFine p w den (Some k) (Some v) = Has p w (held den k) v
ReturnFine p w den _ _ = ⊥

-- an object that is there
pub record IsThere (w : World) (r : ℕ) : Type 0 where
  pub object : Object
  pub found : w.objects r ≡ Some object

-- a handler's object, in an area of the list
pub record RegistrationFine (p : Declarations) (w : World) (list : List ℕ) (r : ℕ) : Type 0 where
  pub there : IsOnList w list r
  pub is_handler : is_handler p there.object.class ≡ true

abbrev pub EffectFine : Code → World → List ℕ → ℕ → Signature → Frame → Effect → Type 0
EffectFine code w list c sig f (Goes h) = GoesOn code w list c sig f h None
EffectFine code w list c sig f (Prints h label value) = GoesOn code w list c sig f h None
EffectFine code w list c sig f (Makes h class values) = MakeFine code w list c sig f h class values
EffectFine code w list c sig f (Stores h r slot v) =
    GoesOn code w list c sig f h None × StoreFine code.program w r slot v
EffectFine code w list c sig f (StoresStatic h index v) =
    GoesOn code w list c sig f h None
    × ((k : Kind) → kind_of_static code.program index ≡ Some k → Has code.program w (held (within w.areas 0) k) v)
EffectFine code w list c sig f (SetsHidden h r values) =
    GoesOn code w list c sig f h None × HiddenFine code.program w r values
EffectFine code w list c sig f (SetsCeiling h r ceiling) = GoesOn code w list c sig f h None × IsThere w r
EffectFine code w list c sig f (Calls h g) = CallFine code w list c sig f h g
EffectFine code w list c sig f (Opens h g scope bytes) = OpenFine code w list c sig f h g scope
EffectFine code w list c sig f (Leaves h v) =
    IsSame f h × ReturnFine code.program w (denote w list f.this f.area) sig.gives v
EffectFine code w list c sig f (AsksRegistration h r) =
    GoesOn code w list c sig f h None × RegistrationFine code.program w list r
EffectFine code w list c sig f (AsksRelease h r) = GoesOn code w list c sig f h None × IsThere w r
EffectFine code w list c sig f (AsksTermination h r) = GoesOn code w list c sig f h None × IsThere w r
EffectFine code w list c sig f (Faults fault) = Unit {0}
EffectFine code w list c sig f Stuck = ⊥

-- as a record, so that it can be the end of a lemma
pub record Fine (code : Code) (w : World) (list : List ℕ) (c : ℕ) (sig : Signature) (f : Frame)
    (e : Effect) : Type 0 where
  pub is : EffectFine code w list c sig f e
