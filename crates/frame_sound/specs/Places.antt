-- Where scopes lie: on the list of a job's areas for a frame, and within the area of an object for its slots; and what
-- a value of a kind is.
use Rattle.std.specs.Prelude.{◌≡◌, ℕ, zero, suc, ◌==◌, Bool, true, ◌⊎◌, List, [], ◌∷◌, Option, Some, None, if◌then◌else◌, ℤ}
use Rattle.scj_base.specs.declared.values.Value.{Value}
use Rattle.scj_base.specs.declared.values.Value.TheVariants.{Int, Bool as Truth, Null, At}
use Rattle.scj_rules.specs.declared.typing.Ty.{Ty}
use Rattle.scj_rules.specs.declared.typing.Ty.TheVariants.{Class as ClassTy}
use Rattle.scj_rules.specs.declared.typing.Scope.{Scope}
use Rattle.scj_rules.specs.declared.typing.Scope.TheVariants.{Any, This, Caller, In, Unknown, Lost}
use Rattle.scj_rules.specs.Words.{is_among, holds, ◌>>=◌}
use Rattle.scj_rules.specs.Contexts.{Declarations}
use Rattle.accepted_laws.specs.Kinds.{Kind, number, truth, yes, reference, fresh}
use Rattle.scj_model.specs.State.{MemoryArea, Object, State, area_at, object_at}
use Rattle.scope_flow.specs.Slots.{IsOfType}

-- ---- areas and objects, by their numbers

pub record World : Type 0 where
  pub areas : ℕ → Option MemoryArea
  pub objects : ℕ → Option Object

abbrev pub world_of : State → World
world_of s = record { areas = (λ a. area_at s a); objects = (λ r. object_at s r) }

-- ---- scopes

-- the first area of this scope on a list
unfoldable pub area_named : (ℕ → Option MemoryArea) → ℕ → List ℕ → Option ℕ
area_named areas scope [] = None
area_named areas scope (a ∷ list) =
    if holds (areas a) (λ x. x.scope == scope) then Some a else area_named areas scope list

-- where an object lies: in one area, if any, or in some area of a list
pub data Place : Type 0 where
  in_one : (area : Option ℕ) → Place
  in_some : (list : List ℕ) → Place

abbrev pub the_area : ℕ → Place
the_area a = in_one (Some a)

abbrev pub LiesAt : Place → ℕ → Type 0
LiesAt (in_one area) a = area ≡ Some a
LiesAt (in_some list) a = is_among a list ≡ true

-- where a static scope lies, for a frame with this object and this current area, whose job has this list: in the area
-- that it names, or somewhere on the list where that is unknown or lost
unfoldable pub denote : World → List ℕ → Option ℕ → ℕ → Scope → Place
denote w list this now Any = in_one None
denote w list this now This = in_one (this >>= w.objects >>= (λ o. Some o.area))
denote w list this now Caller = the_area now
denote w list this now (In s) = in_one (area_named w.areas s list)
denote w list this now Unknown = in_some list
denote w list this now Lost = in_some list

-- the area of a scope among an area and those in which it lies
unfoldable pub area_around : (ℕ → Option MemoryArea) → ℕ → ℕ → ℕ → Option ℕ
area_around areas scope zero a = None
area_around areas scope (suc bound) a =
    areas a >>= (λ x. if x.scope == scope then Some a else (x.parent >>= area_around areas scope bound))

-- the area that the scope of a slot names, for an object of this area
unfoldable pub within : (ℕ → Option MemoryArea) → ℕ → Scope → Place
within areas a This = the_area a
within areas a (In s) = in_one (area_around areas s (suc a) a)
within areas a _ = in_one None

-- ---- values

-- what a value is, with the place at which its object lies
pub data Held : Type 0 where
  a_number : Held
  a_truth : Held
  a_yes : Held
  an_object : (type : Ty) (place : Place) → Held
  a_fresh : (class : ℕ) (place : Place) → Held

unfoldable pub held : (Scope → Place) → Kind → Held
held den number = a_number
held den truth = a_truth
held den yes = a_yes
held den (reference t s) = an_object t (den s)
held den (fresh c s) = a_fresh c (den s)

-- a reference to an object of a type at a place
pub record IsObject (p : Declarations) (w : World) (t : Ty) (place : Place) (v : Value) : Type 0 where
  pub r : ℕ
  pub is : v ≡ At r
  pub object : Object
  pub found : w.objects r ≡ Some object
  pub of_type : IsOfType p object.class t
  pub lies : LiesAt place object.area

abbrev pub Has : Declarations → World → Held → Value → Type 0
Has p w a_number v = (z : ℤ) × (v ≡ Int z)
Has p w a_truth v = (b : Bool) × (v ≡ Truth b)
Has p w a_yes v = v ≡ Truth true
Has p w (an_object t a) v = (v ≡ Null) ⊎ IsObject p w t a v
Has p w (a_fresh c a) v = IsObject p w (ClassTy c) a v

abbrev pub AllHave : Declarations → World → (Scope → Place) → List Kind → List Value → Type 0
AllHave p w den [] [] = Unit {0}
AllHave p w den (k ∷ ks) (v ∷ vs) = Has p w (held den k) v × AllHave p w den ks vs
AllHave p w den [] (v ∷ vs) = ⊥
AllHave p w den (k ∷ ks) [] = ⊥
