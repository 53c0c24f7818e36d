-- The invariant of a state: areas, objects, static fields, and the frames of each job. Types and places at once.
use Rattle.std.specs.Prelude.{◌≡◌, ℕ, suc, true, false, ◌⊎◌, List, [], ◌∷◌, ◌++◌, length, slice_get, Option, Some, None, option_to_list}
use Rattle.scj_base.specs.declared.values.Value.{Value}
use Rattle.scj_base.specs.declared.values.Value.TheVariants.{Null}
use Rattle.scj_rules.specs.declared.typing.Ty.{Ty}
use Rattle.scj_rules.specs.declared.typing.Ty.TheVariants.{Class as ClassTy}
use Rattle.scj_rules.specs.declared.typing.Scope.{Scope}
use Rattle.scj_rules.specs.declared.typing.Scope.TheVariants.{In}
use Rattle.scj_rules.specs.declared.views.Body.{Body}
use Rattle.scj_rules.specs.Words.{is_among}
use Rattle.scj_rules.specs.Contexts.{Declarations}
use Rattle.scj_rules.specs.Layout.{slots}
use Rattle.scj_rules.specs.ScopeRules.{immortal_scope, is_outer, parent_scope}
use Rattle.scj_rules.specs.StaticScopes.{this_in}
use Rattle.scj_rules.specs.Types.{assigns}
use Rattle.accepted_laws.specs.Kinds.{Kind, reference, kind_of_variable}
use Rattle.scj_model.specs.Code.{Code}
use Rattle.scj_model.specs.State.{MemoryArea, Object, Frame, Activity, State}
use Rattle.scope_flow.specs.Slots.{array_type, kind_of_slot, kind_of_static, IsOfType}
use Rattle.scope_flow.specs.Signatures.{Signature, Runs, variables_in, runs_for_object, IsConcrete}
use Rattle.scope_flow.specs.Needs.{pushed}
use Rattle.scope_flow.specs.Ways.{Course}
use Rattle.frame_sound.specs.Calls.{IsCalledIn}
use Rattle.frame_sound.specs.Guards.{GuardsFine}
use Rattle.frame_sound.specs.Places.{World, world_of, area_named, Place, the_area, LiesAt, denote, area_around, within, Held, a_number, a_truth, a_yes, an_object, held, Has, AllHave}

-- ---- a job's list of areas

-- each area on it is the first of its scope there: no scope stands on it twice
abbrev pub HoldsNoScopeTwice : (ℕ → Option MemoryArea) → List ℕ → Type 0
HoldsNoScopeTwice areas list =
    (a : ℕ) → is_among a list ≡ true →
    (x : MemoryArea) × (areas a ≡ Some x) × (area_named areas x.scope list ≡ Some a)

-- what an area on it lies in stands on it
abbrev pub IsClosedUnderParents : (ℕ → Option MemoryArea) → List ℕ → Type 0
IsClosedUnderParents areas list =
    (a b : ℕ) (x : MemoryArea) → is_among a list ≡ true → areas a ≡ Some x → x.parent ≡ Some b →
    is_among b list ≡ true

-- its areas are open
abbrev pub HoldsOpenAreas : (ℕ → Option MemoryArea) → List ℕ → Type 0
HoldsOpenAreas areas list = (a : ℕ) (x : MemoryArea) → is_among a list ≡ true → areas a ≡ Some x → x.is_open ≡ true

-- no area stands on it twice
abbrev pub AreDistinct : List ℕ → Type 0
AreDistinct [] = Unit {0}
AreDistinct (x ∷ xs) = (is_among x xs ≡ false) × AreDistinct xs

-- immortal memory, which is the first area of all
pub record IsImmortalMemory (areas : ℕ → Option MemoryArea) : Type 0 where
  pub area : MemoryArea
  pub is_there : areas 0 ≡ Some area
  pub is_immortal : area.scope ≡ immortal_scope

pub record ListFine (areas : ℕ → Option MemoryArea) (list : List ℕ) : Type 0 where
  pub found : HoldsNoScopeTwice areas list
  pub closed_up : IsClosedUnderParents areas list
  pub are_open : HoldsOpenAreas areas list
  pub are_distinct : AreDistinct list
  pub immortal : IsImmortalMemory areas
  pub has_immortal : is_among 0 list ≡ true

-- the areas that frames opened, the last opened first, before those that the job had without frames
abbrev pub list_of : List ℕ → List Frame → List ℕ
list_of base [] = base
list_of base (f ∷ fs) = option_to_list f.opened ++ list_of base fs

-- ---- areas

-- an area lies in one whose scope is the parent of its own
pub record IsInParent (p : Declarations) (areas : ℕ → Option MemoryArea) (x : MemoryArea) : Type 0 where
  pub parent : ℕ
  pub is : x.parent ≡ Some parent
  pub around : MemoryArea
  pub is_there : areas parent ≡ Some around
  pub of_scope : parent_scope p x.scope ≡ Some around.scope

-- from each area all scopes around its own are reached
pub record AreasFine (p : Declarations) (areas : ℕ → Option MemoryArea) : Type 0 where
  -- each area but immortal memory, also of those that are closed
  pub parents : (a : ℕ) (x : MemoryArea) → areas a ≡ Some x → (a ≡ 0) ⊎ IsInParent p areas x
  pub reach : (a n : ℕ) (x : MemoryArea) → areas a ≡ Some x → (n ≡ immortal_scope) ⊎ (is_outer p n x.scope ≡ true) →
      (r : ℕ) × (area_around areas n (suc a) a ≡ Some r)

-- ---- objects and static fields

-- an object is of a concrete class, or an array
abbrev pub IsInstance : Declarations → ℕ → Type 0
IsInstance p class = IsConcrete p class ⊎ ((t : Ty) × (array_type p class ≡ Some t))

pub record ObjectFine (p : Declarations) (w : World) (o : Object) : Type 0 where
  pub is_instance : IsInstance p o.class
  pub area : MemoryArea
  pub is_area : w.areas o.area ≡ Some area
  -- an object of an annotated class lies in an area of the class's scope
  pub is_placed : (n : ℕ) → this_in p o.class ≡ Some (In n) → area.scope ≡ n
  -- the scopes that its slots name are around it
  pub reach : (slot : ℕ) (t : Ty) (n : ℕ) → kind_of_slot p o.class slot ≡ Some (reference t (In n)) →
      (r : ℕ) × (area_around w.areas n (suc o.area) o.area ≡ Some r)
  pub is_full : array_type p o.class ≡ None → length o.slots ≡ slots p o.class
  -- each slot's value lies where the slot's scope says
  pub has : (slot : ℕ) (k : Kind) (v : Value) → kind_of_slot p o.class slot ≡ Some k →
      slice_get o.slots slot ≡ Some v → Has p w (held (within w.areas o.area) k) v

abbrev pub HeapFine : Declarations → World → Type 0
HeapFine p w = (r : ℕ) (o : Object) → w.objects r ≡ Some o → ObjectFine p w o

-- each static field's value lies in immortal memory
pub record StaticFine (p : Declarations) (w : World) (statics : List Value) (index : ℕ) (k : Kind) : Type 0 where
  pub value : Value
  pub is : slice_get statics index ≡ Some value
  pub has : Has p w (held (within w.areas 0) k) value

abbrev pub StaticsFine : Declarations → World → List Value → Type 0
StaticsFine p w statics = (index : ℕ) (k : Kind) → kind_of_static p index ≡ Some k → StaticFine p w statics index k

-- ---- frames

-- the object of a frame, whose class is c or one under it, lies where THIS says in c
pub record OwnObject (p : Declarations) (w : World) (list : List ℕ) (c : ℕ) (this : Option ℕ) (now : ℕ) : Type 0 where
  pub r : ℕ
  pub is : this ≡ Some r
  pub object : Object
  pub found : w.objects r ≡ Some object
  pub of_type : IsOfType p object.class (ClassTy c)
  pub lies : (home : Scope) → this_in p c ≡ Some home → denote w list this now home ≡ the_area object.area

-- an object lies in an area of the list
pub record IsOnList (w : World) (list : List ℕ) (r : ℕ) : Type 0 where
  pub object : Object
  pub found : w.objects r ≡ Some object
  pub on_list : is_among object.area list ≡ true

-- where a frame stands: the current area is the one that the method's current scope names
pub record Home (p : Declarations) (w : World) (list : List ℕ) (c : ℕ) (sig : Signature) (body : Body) (this : Option ℕ)
    (now : ℕ) : Type 0 where
  pub own : runs_for_object p body ≡ true → OwnObject p w list c this now
  pub on_list : (r : ℕ) → this ≡ Some r → IsOnList w list r
  pub now_on_list : is_among now list ≡ true
  pub is_now : denote w list this now sig.runs_in ≡ the_area now

pub record LocalFine (p : Declarations) (w : World) (den : Scope → Place) (locals : List Value) (i : ℕ)
    (k : Kind) : Type 0 where
  pub value : Value
  pub is : slice_get locals i ≡ Some value
  pub has : Has p w (held den k) value

-- null, or a value as the variable says
abbrev pub HoldsNullOr : Declarations → World → (Scope → Place) → ℕ → Value → Type 0
HoldsNullOr p w den v value =
    (value ≡ Null) ⊎ ((k : Kind) × (kind_of_variable p v ≡ Some k) × Has p w (held den k) value)

pub record LocalsFine (p : Declarations) (w : World) (den : Scope → Place) (body : Body) (known : List ℕ)
    (locals : List Value) : Type 0 where
  pub long : length locals ≡ length (variables_in p body)
  pub each : (i v : ℕ) (k : Kind) → slice_get (variables_in p body) i ≡ Some v → kind_of_variable p v ≡ Some k →
      is_among v known ≡ true → LocalFine p w den locals i k
  -- also of blocks that are over. A local that isn't set is null
  pub fits : (i v : ℕ) (value : Value) → slice_get (variables_in p body) i ≡ Some v →
      slice_get locals i ≡ Some value → HoldsNullOr p w den v value

-- the frame goes on, once it has a value of this kind if any
pub record Ready (code : Code) (w : World) (list : List ℕ) (c : ℕ) (sig : Signature) (f : Frame)
    (t : Option Kind) : Type 0 where
  pub runs : Runs code.program f.body c sig
  pub home : Home code.program w list c sig f.body f.this f.area
  pub known : List ℕ
  pub kinds : List Kind
  pub operands : AllHave code.program w (denote w list f.this f.area) kinds f.operands
  pub locals : LocalsFine code.program w (denote w list f.this f.area) f.body known f.locals
  pub flow : Course code f.body c sig f.rest known (pushed t kinds)
  pub guards : GuardsFine code w f.body f.this f.locals t f.operands f.rest

-- what lies at the first place lies at the second
abbrev pub IsInside : Place → Place → Type 0
IsInside a b = (n : ℕ) → LiesAt a n → LiesAt b n

-- what one gives is what another waits for
abbrev pub HeldFits : Declarations → Held → Held → Type 0
HeldFits p a_number a_number = Unit {0}
HeldFits p a_truth a_truth = Unit {0}
HeldFits p a_yes a_truth = Unit {0}
HeldFits p (an_object t a) (an_object u b) = IsInside a b × (assigns p.classes t u ≡ true)
HeldFits p _ _ = ⊥

unfoldable pub held_option : (Scope → Place) → Option Kind → Option Held
held_option den None = None
held_option den (Some k) = Some (held den k)

abbrev pub GivenFits : Declarations → Option Held → Option Held → Type 0
GivenFits p None None = Unit {0}
GivenFits p (Some h) (Some k) = HeldFits p h k
GivenFits p _ _ = ⊥

-- a frame under one that gives this
pub record WaitsFor (code : Code) (w : World) (list : List ℕ) (f : Frame) (given : Option Held) : Type 0 where
  pub class : ℕ
  pub sig : Signature
  pub kind : Option Kind
  pub fits : GivenFits code.program given (held_option (denote w list f.this f.area) kind)
  pub ready : Ready code w list class sig f kind

-- a frame on these frames: the one directly under it called it
abbrev pub IsOn : Code → World → List ℕ → Body → Option ℕ → Option ℕ → ℕ → List Frame → Type 0
IsOn code w base body called_at this area [] = Unit {0}
IsOn code w base body called_at this area (f ∷ fs) =
    IsCalledIn code w (list_of base (f ∷ fs)) f body called_at this area

-- frames under one that gives this: each waits for what the one above it gives
abbrev pub Under : Code → World → List ℕ → List Frame → Option Held → Type 0
Under code w base [] given = Unit {0}
Under code w base (f ∷ fs) given =
    (waits : WaitsFor code w (list_of base (f ∷ fs)) f given) × ListFine w.areas (list_of base (f ∷ fs))
    × Under code w base fs (held_option (denote w (list_of base (f ∷ fs)) f.this f.area) waits.sig.gives)
    × IsOn code w base f.body f.called_at f.this f.area fs

abbrev pub FramesFine : Code → World → List ℕ → List Frame → Type 0
FramesFine code w base [] = Unit {0}
FramesFine code w base (f ∷ fs) = Under code w base (f ∷ fs) None

-- ---- jobs

-- a job's list is what it had without frames, behind the areas that its frames opened
pub record JobFine (code : Code) (w : World) (base : List ℕ) (activity : Activity) : Type 0 where
  pub is_list : activity.areas ≡ list_of base activity.frames
  pub frames : FramesFine code w base activity.frames

-- what all jobs share
pub record MemoryFine (code : Code) (s : State) : Type 0 where
  pub areas : AreasFine code.program (world_of s).areas
  pub heap : HeapFine code.program (world_of s)
  pub statics : StaticsFine code.program (world_of s) s.statics

-- areas, objects, static fields and the frames of one job stand as the rules say
pub record Stands (code : Code) (areas : List MemoryArea) (objects : List Object) (statics : List Value) (base : List ℕ)
    (frames : List Frame) : Type 0 where
  pub areas_fine : AreasFine code.program (λ a. slice_get areas a)
  pub heap : HeapFine code.program (record { areas = (λ a. slice_get areas a); objects = (λ r. slice_get objects r) })
  pub statics_fine : StaticsFine code.program
      (record { areas = (λ a. slice_get areas a); objects = (λ r. slice_get objects r) }) statics
  pub frames_fine : FramesFine code
      (record { areas = (λ a. slice_get areas a); objects = (λ r. slice_get objects r) }) base frames
