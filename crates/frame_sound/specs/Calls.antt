-- What a frame has to do with the one under it: the operation at which that one stands, what it calls, on which object
-- and where (JLS 15.12.4, 15.9.4, 8.8.7; JSR 302: ManagedMemory).
use Rattle.std.specs.Prelude.{◌≡◌, ℕ, List, ◌∷◌, Option, Some, None, codes}
use Rattle.scj_rules.specs.declared.typing.Scope.{Scope}
use Rattle.scj_rules.specs.declared.views.Body.{Body}
use Rattle.scj_rules.specs.StaticScopes.{this_in}
use Rattle.scj_rules.specs.Bodies.{body_named, body_of, constructor_body}
use Rattle.scj_model.specs.declared.operations.Op.{Op}
use Rattle.scj_model.specs.declared.operations.Op.TheVariants.{Construct as CONSTRUCT, Call as CALL, CallStatic as CALLSTATIC, Enter as ENTER, ExecuteIn as EXECUTEIN, Super as SUPER}
use Rattle.scj_model.specs.Code.{Code, binding, part}
use Rattle.scj_model.specs.State.{Object, Frame}
use Rattle.scj_model.specs.Ops.{node_of}
use Rattle.scj_model.specs.Operations.{bound_class, bound_method, bound_static_method}
use Rattle.scope_flow.specs.Signatures.{Signature, Runs}
use Rattle.scope_flow.specs.Pushers.{Pusher, IsScopeOfExpression, IsScopeOfReceiver}
use Rattle.scope_flow.specs.CallNeeds.{receiver_of}
use Rattle.scope_flow.specs.Ways.{Comes}
use Rattle.frame_sound.specs.Places.{World, Place, LiesAt, denote}

-- the object of a frame is there
pub record HasThis (w : World) (this : Option ℕ) : Type 0 where
  pub r : ℕ
  pub is : this ≡ Some r
  pub object : Object
  pub found : w.objects r ≡ Some object

-- In all of these `den` says where scopes lie for the lower frame, whose body stands in the class c, and `now` is its
-- current area; body, this and area are the upper frame's.

-- a call: the body is what the class of the object has for the method that is called. The object lies where the scope of
-- the receiver says
pub record ByCall (code : Code) (w : World) (den : Scope → Place) (c now id : ℕ) (body : Body) (this : Option ℕ)
    (area : ℕ) : Type 0 where
  pub method : ℕ
  pub is : bound_method (binding code id) ≡ Some method
  pub on : HasThis w this
  pub runs : body_of code.program on.object.class method ≡ Some body
  pub receiver : Option ℕ
  pub is_receiver : part code receiver_of id ≡ Some receiver
  pub scope : Scope
  pub of_receiver : IsScopeOfReceiver code.program c receiver scope
  pub lies : LiesAt (den scope) on.object.area
  pub same_area : area ≡ now

-- a static call: the body is that of the method that is called
pub record ByStaticCall (code : Code) (now id : ℕ) (body : Body) (this : Option ℕ) (area : ℕ) : Type 0 where
  pub method : ℕ × ℕ
  pub is : bound_static_method (binding code id) ≡ Some method
  pub runs : body_of code.program method.0 method.1 ≡ Some body
  pub without : this ≡ None
  pub same_area : area ≡ now

-- a `new`: the body is the constructor of its class. The object lies where the scope of the `new` says
pub record ByNew (code : Code) (w : World) (den : Scope → Place) (now id : ℕ) (body : Body) (this : Option ℕ)
    (area : ℕ) : Type 0 where
  pub class : ℕ
  pub is : bound_class (binding code id) ≡ Some class
  pub runs : constructor_body code.program class ≡ Some body
  pub on : HasThis w this
  pub scope : Scope
  pub of_new : IsScopeOfExpression code.program id scope
  pub lies : LiesAt (den scope) on.object.area
  pub same_area : area ≡ now

-- a super part: the body is the constructor of the superclass. The object lies where the scope of `this` says
pub record BySuper (code : Code) (w : World) (den : Scope → Place) (c now id : ℕ) (body : Body) (this : Option ℕ)
    (area : ℕ) : Type 0 where
  pub superclass : ℕ
  pub is : bound_class (binding code id) ≡ Some superclass
  pub runs : constructor_body code.program superclass ≡ Some body
  pub on : HasThis w this
  pub scope : Scope
  pub of_this : this_in code.program c ≡ Some scope
  pub lies : LiesAt (den scope) on.object.area
  pub same_area : area ≡ now

-- ENTER and EXECUTEIN: the body is the `run` of the object
pub record ByRun (code : Code) (w : World) (body : Body) (this : Option ℕ) : Type 0 where
  pub on : HasThis w this
  pub runs : body_named code.program on.object.class (codes "run") ≡ Some body

unfoldable pub IsCalledBy : Code → World → (Scope → Place) → ℕ → ℕ → Op → Body → Option ℕ → ℕ → Type 0
IsCalledBy code w den c now (CALL id) body this area = ByCall code w den c now id body this area
IsCalledBy code w den c now (CALLSTATIC id) body this area = ByStaticCall code now id body this area
IsCalledBy code w den c now (CONSTRUCT id) body this area = ByNew code w den now id body this area
IsCalledBy code w den c now (SUPER id) body this area = BySuper code w den c now id body this area
IsCalledBy code w den c now (ENTER id) body this area = ByRun code w body this
IsCalledBy code w den c now (EXECUTEIN id) body this area = ByRun code w body this
IsCalledBy code w den c now _ body this area = ⊥

-- the operation at which the lower frame f stands called the upper frame's body; f no longer has it
pub record IsCalledIn (code : Code) (w : World) (list : List ℕ) (f : Frame) (body : Body) (called_at : Option ℕ)
    (this : Option ℕ) (area : ℕ) : Type 0 where
  pub op : Op
  pub at : called_at ≡ node_of op
  pub pushers : List Pusher
  pub came : Comes code f.body (op ∷ f.rest) pushers
  pub class : ℕ
  pub sig : Signature
  pub in_class : Runs code.program f.body class sig
  pub by : IsCalledBy code w (denote w list f.this f.area) class f.area op body this area
