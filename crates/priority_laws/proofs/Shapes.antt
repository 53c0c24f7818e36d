-- The shape of an effect: the frame that acts stands where it stood, and one that is called has saved and opened
-- nothing.
use Rattle.std.proofs.Common.{◌≡◌, ℕ, true, false, Bool, List, ◌⊎◌, Option, Some, None}
use Rattle.std.specs.Prelude.{is_some, codes}
use Rattle.scj_base.specs.declared.values.Value.{Value}
use Rattle.scj_model.specs.declared.operations.Op.{Op}
use Rattle.scj_model.specs.declared.operations.Op.TheVariants.{PutElem as PUTELEM}
use Rattle.scj_rules.specs.Layout.{priority_slot}
use Rattle.scj_rules.specs.Bodies.{body_named}
use Rattle.scj_model.specs.Code.{Code}
use Rattle.scj_model.specs.State.{Object, Frame, State, object_at}
use Rattle.scj_model.specs.Effects.{Effect, Goes, Prints, Makes, Stores, StoresStatic, SetsHidden, SetsCeiling, Calls, Opens, Leaves, AsksRegistration, AsksRelease, AsksTermination, Faults, Stuck, monitor_of}
use Rattle.scj_model.specs.Operations.{Environment}
use Rattle.priority_laws.specs.Premises.{ConstructorsEnterNothing}
use Rattle.priority_laws.specs.Handlers.{IsPriority, IsHandlerClass, BeginWithPriority}
use Rattle.priority_laws.proofs.ReleaseMoves.{StandsAs}

pub record IsNew (g : Frame) : Type 0 where
  pub saved : g.saved ≡ None
  pub opened : g.opened ≡ None

abbrev pub IsShaped : Frame → Effect → Type 0
IsShaped f (Goes h) = StandsAs f h
IsShaped f (Prints h label value) = StandsAs f h
IsShaped f (Makes h class slots) = StandsAs f h
IsShaped f (Stores h r slot value) = StandsAs f h
IsShaped f (StoresStatic h place value) = StandsAs f h
IsShaped f (SetsHidden h r values) = StandsAs f h
IsShaped f (SetsCeiling h r ceiling) = StandsAs f h
IsShaped f (Calls h g) = StandsAs f h × IsNew g
IsShaped f (Opens h g scope bytes) = StandsAs f h × IsNew g
IsShaped f (Leaves h value) = StandsAs f h
IsShaped f (AsksRegistration h r) = StandsAs f h
IsShaped f (AsksRelease h r) = StandsAs f h
IsShaped f (AsksTermination h r) = StandsAs f h
IsShaped f (Faults fault) = Unit {0}
IsShaped f Stuck = Unit {0}

pub record Shaped (f : Frame) (e : Effect) : Type 0 where
  pub is : IsShaped f e

-- the condition under which monitors stay guarded
abbrev pub Enters : Code → State → Effect → Type 0
Enters code s (Calls f g) = (r : ℕ) → monitor_of code g ≡ Some r → is_some (object_at s r) ≡ true
Enters code s (Opens f g scope bytes) = monitor_of code g ≡ None
Enters code s _ = Unit {0}

-- ---- more of the form of an effect: what objects are made with, where is stored, and which priorities are set

-- the values with which a new handler begins
pub record MakesRightly (code : Code) (class : ℕ) (slots : List Value) : Type 0 where
  pub is : IsHandlerClass code.program class → BeginWithPriority slots

-- a synchronized method is called on an object that is there, if constructors aren't synchronized
pub record CallsRightly (code : Code) (objects : ℕ → Option Object) (g : Frame) : Type 0 where
  pub is : ConstructorsEnterNothing code → (r : ℕ) → monitor_of code g ≡ Some r → is_some (objects r) ≡ true

-- what runs in an area that is opened is the `run` of an object that is there
pub record OpensRightly (code : Code) (objects : ℕ → Option Object) (g : Frame) : Type 0 where
  pub runnable : ℕ
  pub object : Object
  pub is_there : objects runnable ≡ Some object
  pub is_this : g.this ≡ Some runnable
  pub is_run : body_named code.program object.class (codes "run") ≡ Some g.body

-- the slot in an object isn't the one in which a handler has its priority
pub record SparesPriority (code : Code) (objects : ℕ → Option Object) (r slot : ℕ) : Type 0 where
  pub is : (o : Object) → objects r ≡ Some o → IsHandlerClass code.program o.class → slot ≡ priority_slot → ⊥

abbrev pub is_put_element : Op → Bool
is_put_element (PUTELEM id) = true
is_put_element _ = false

-- an operation of a frame: what it sees besides, and whether it may store elements of arrays
pub record Scene : Type 0 where
  pub code : Code
  pub world : Environment
  pub elements : Bool
  pub frame : Frame

abbrev pub IsFormed : Scene → Effect → Type 0
IsFormed m (Makes h class slots) = StandsAs m.frame h × MakesRightly m.code class slots
IsFormed m (Stores h r slot value) =
    StandsAs m.frame h × ((m.elements ≡ true) ⊎ SparesPriority m.code m.world.object_at r slot)
IsFormed m (SetsHidden h r values) = StandsAs m.frame h × BeginWithPriority values
IsFormed m (SetsCeiling h r ceiling) = StandsAs m.frame h × IsPriority ceiling
IsFormed m (Calls h g) = (StandsAs m.frame h × IsNew g) × CallsRightly m.code m.world.object_at g
IsFormed m (Opens h g scope bytes) = (StandsAs m.frame h × IsNew g) × OpensRightly m.code m.world.object_at g
IsFormed m e = IsShaped m.frame e

pub record Formed (m : Scene) (e : Effect) : Type 0 where
  pub is : IsFormed m e

pub formed_shape : (m : Scene) (e : Effect) → Formed m e → Shaped m.frame e
formed_shape m (Goes h) x = record { is = x.is }
formed_shape m (Prints h label value) x = record { is = x.is }
formed_shape m (Makes h class slots) x = record { is = x.is.0 }
formed_shape m (Stores h r slot value) x = record { is = x.is.0 }
formed_shape m (StoresStatic h place value) x = record { is = x.is }
formed_shape m (SetsHidden h r values) x = record { is = x.is.0 }
formed_shape m (SetsCeiling h r ceiling) x = record { is = x.is.0 }
formed_shape m (Calls h g) x = record { is = x.is.0 }
formed_shape m (Opens h g scope bytes) x = record { is = x.is.0 }
formed_shape m (Leaves h value) x = record { is = x.is }
formed_shape m (AsksRegistration h r) x = record { is = x.is }
formed_shape m (AsksRelease h r) x = record { is = x.is }
formed_shape m (AsksTermination h r) x = record { is = x.is }
formed_shape m (Faults fault) x = record { is = tt }
formed_shape m Stuck x = record { is = tt }
