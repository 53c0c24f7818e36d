-- What the mission sequencer asks of a program, besides what its bodies ask: of the classes of the safelet, of
-- sequencers, missions and handlers, of the scopes that they define, and of static fields (JSR 302: Safelet,
-- MissionSequencer, Mission, ManagedEventHandler, DefineScope).
use Rattle.std.specs.Prelude.{◌≡◌, ◌<◌, ℕ, true, false, ◌⊎◌, List, [], length, slice_get, Option, Some, None, codes}
use Rattle.scj_builtins.specs.Framework.{runnable, safelet as safelet_interface, mission as mission_class, mission_sequencer as sequencer_class}
use Rattle.scj_rules.specs.declared.typing.Scope.{Scope}
use Rattle.scj_rules.specs.declared.typing.Scope.TheVariants.{This, Caller, In}
use Rattle.scj_rules.specs.declared.typing.Ty.TheVariants.{Class as ClassTy}
use Rattle.scj_rules.specs.declared.views.Body.{Body}
use Rattle.scj_rules.specs.declared.views.Declared.{Declared}
use Rattle.scj_rules.specs.Classes.{is_sub}
use Rattle.scj_rules.specs.Contexts.{Declarations}
use Rattle.scj_rules.specs.Layout.{static_fields, field_literal}
use Rattle.scj_rules.specs.ScopeRules.{immortal_scope, definer, parent_scope, defined_by_chain, is_mission, is_handler}
use Rattle.scj_rules.specs.StaticScopes.{this_in}
use Rattle.scj_rules.specs.Bodies.{body_named, size_of, safelet_class}
use Rattle.accepted_laws.specs.Kinds.{Kind, reference, kind_of_field, Fits}
use Rattle.scj_model.specs.Code.{Code, part}
use Rattle.scope_flow.specs.Slots.{kind_of_literal}
use Rattle.scope_flow.specs.Signatures.{Signature, Runs, IsConcrete, LiesHere, SlotsReach}
use Rattle.scope_flow.specs.Needs.{CallsConstructor}

-- ---- bodies that the framework calls

-- the body that the framework calls on an object of a class: of this class or of one above it. It takes nothing
pub record IsCalledOn (p : Declarations) (class : ℕ) (found : Option Body) : Type 0 where
  pub body : Body
  pub is : found ≡ Some body
  pub on : ℕ
  pub above : is_sub p.classes class on ≡ true
  pub sig : Signature
  pub runs : Runs p body on sig
  pub takes : sig.takes ≡ []

-- a body that runs in this scope is called on an object of immortal memory, in immortal memory
abbrev pub RunsInImmortal : Scope → Type 0
RunsInImmortal This = Unit {0}
RunsInImmortal Caller = Unit {0}
RunsInImmortal (In n) = n ≡ immortal_scope
RunsInImmortal _ = ⊥

-- a body that runs in this scope is called in a memory that is named so
abbrev pub RunsInNamed : ℕ → Scope → Type 0
RunsInNamed name scope = (scope ≡ Caller) ⊎ (scope ≡ In name)

-- a method of this name, called in immortal memory
pub record HasImmortalMethod (p : Declarations) (class : ℕ) (name : List ℕ) : Type 0 where
  pub called : IsCalledOn p class (body_named p class name)
  pub runs : RunsInImmortal called.sig.runs_in

-- a method of this name, called in the memory of a scope
pub record HasMethodIn (p : Declarations) (scope class : ℕ) (name : List ℕ) : Type 0 where
  pub called : IsCalledOn p class (body_named p class name)
  pub runs : RunsInNamed scope called.sig.runs_in

-- what is given is of a class under this one
pub record GivesUnder (p : Declarations) (above : ℕ) (gives : Option Kind) : Type 0 where
  pub class : ℕ
  pub scope : Scope
  pub is : gives ≡ Some (reference (ClassTy class) scope)
  pub is_under : is_sub p.classes class above ≡ true

-- ---- classes

-- of a concrete class under Safelet: its object is made in immortal memory
pub record SafeletFact (p : Declarations) (class : ℕ) : Type 0 where
  pub lies : LiesHere p class (In immortal_scope)
  pub reach : SlotsReach p class (In immortal_scope)
  pub constructor : CallsConstructor p class (In immortal_scope) []
  pub application : HasImmortalMethod p class (codes "initializeApplication")
  pub sequencer : HasImmortalMethod p class (codes "getSequencer")
  pub gives : GivesUnder p sequencer_class sequencer.called.sig.gives

-- of a concrete class under MissionSequencer
pub record MissionSequencerFact (p : Declarations) (class : ℕ) : Type 0 where
  pub next_mission : HasImmortalMethod p class (codes "getNextMission")
  pub gives : GivesUnder p mission_class next_mission.called.sig.gives

-- of a concrete class under Mission: its scope is in immortal memory, and its methods run in the memory of the scope
pub record MissionFact (p : Declarations) (class : ℕ) : Type 0 where
  pub scope : ℕ
  pub defines : defined_by_chain p class ≡ Some scope
  pub is_parent : parent_scope p scope ≡ Some immortal_scope
  pub is_missions : is_mission p (definer scope) ≡ true
  pub bytes : ℕ
  pub size : size_of p class ≡ Some bytes
  pub initialize : HasMethodIn p scope class (codes "initialize")
  -- where no class declares it, it is the framework's
  pub clean_up : HasMethodIn p scope class (codes "cleanUp")

-- of a concrete handler class: its objects lie in a mission's memory, and its own scope is inside that one's
pub record HandlerFact (p : Declarations) (class : ℕ) : Type 0 where
  pub scope : ℕ
  pub defines : defined_by_chain p class ≡ Some scope
  pub is_no_missions : is_mission p (definer scope) ≡ false
  pub parent : ℕ
  pub is_parent : parent_scope p scope ≡ Some parent
  pub parent_is_missions : is_mission p (definer parent) ≡ true
  pub lies_in_parent : this_in p class ≡ Some (In parent)
  pub handle : HasMethodIn p scope class (codes "handleAsyncEvent")

-- ---- static fields

-- a static field that is declared with a literal
pub record StaticLiteralFact (code : Code) (d : Declared) (id : ℕ) : Type 0 where
  pub literal : Kind
  pub is_literal : part code kind_of_literal id ≡ Some literal
  pub kind : Kind
  pub is_kind : kind_of_field code.program d ≡ Some kind
  pub fit : Fits code.program This Caller literal kind

-- ---- all of it

-- the class of the safelet, of which the first object is made
pub record SafeletThere (p : Declarations) : Type 0 where
  pub class : ℕ
  pub is : safelet_class p ≡ Some class
  pub concrete : IsConcrete p class
  pub is_under : is_sub p.classes class safelet_interface ≡ true
  pub bytes : ℕ
  pub size : size_of p class ≡ Some bytes

pub record SequencerFacts (code : Code) : Type 0 where
  -- IMMORTAL is the root of all scopes, and no mission defines it
  pub root : parent_scope code.program immortal_scope ≡ None
  pub root_is_no_missions : is_mission code.program (definer immortal_scope) ≡ false
  pub safelet_there : SafeletThere code.program
  pub safelets : (class : ℕ) → IsConcrete code.program class →
      is_sub code.program.classes class safelet_interface ≡ true → SafeletFact code.program class
  pub sequencers : (class : ℕ) → IsConcrete code.program class →
      is_sub code.program.classes class sequencer_class ≡ true → MissionSequencerFact code.program class
  pub missions : (class : ℕ) → IsConcrete code.program class →
      is_sub code.program.classes class mission_class ≡ true → MissionFact code.program class
  pub handlers : (class : ℕ) → IsConcrete code.program class → is_handler code.program class ≡ true →
      HandlerFact code.program class
  -- a handler class is a class, and a Runnable's scope is no mission's
  pub handlers_are_classes : (class : ℕ) → is_handler code.program class ≡ true → class < length code.program.classes
  pub runnables : (class scope : ℕ) → is_sub code.program.classes class runnable ≡ true →
      defined_by_chain code.program class ≡ Some scope → is_mission code.program (definer scope) ≡ false
  pub statics : (index : ℕ) (d : Declared) (id : ℕ) → slice_get (static_fields code.program) index ≡ Some d →
      field_literal code.program d ≡ Some id → StaticLiteralFact code d id
