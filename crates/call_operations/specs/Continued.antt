-- How operations go on once their last operands are taken: parts of their definitions, which the functions that do them
-- cite.
use Rattle.std.specs.Prelude.{ℕ, Bool, List, [], ◌∷◌, Some, None, if◌then◌else◌}
use Rattle.scj_base.specs.declared.values.Value.{Value}
use Rattle.scj_base.specs.declared.values.Value.TheVariants.{Int}
use Rattle.scj_rules.specs.declared.views.Body.{Body}
use Rattle.scj_rules.specs.Bodies.{body_of}
use Rattle.scj_rules.specs.ScopeRules.{defined_by_chain}
use Rattle.scj_model.specs.Code.{Code}
use Rattle.scj_model.specs.State.{Frame}
use Rattle.scj_model.specs.Effects.{Effect, Calls, Goes, Opens, SetsHidden, as_object, as_reference, given, new_frame, pop}
use Rattle.scj_model.specs.Operations.{Environment, right_parameters, with_run}
use Rattle.region_heap.specs.Contents.{Contents}
use Rattle.job_frames.specs.EffectsSeen.{world}

-- what an operation sees that asks for objects alone, at whatever the ports read
abbrev pub objects_of : Contents → Environment
objects_of m = world m [] 0

-- a method is called on the next operand, with these arguments
abbrev pub calling : Code → Environment → ℕ → ℕ → List Value → Frame → Effect
calling code world id method arguments f =
    pop f (λ object f. as_object object (λ r.
    given (world.object_at r) (λ o. given (body_of code.program o.class method) (λ body.
    Calls f (new_frame code body (Some id) (Some r) f.area arguments)))))

-- a static method is called
abbrev pub calling_static : Code → ℕ → Body → List Value → Frame → Effect
calling_static code id body arguments f = Calls f (new_frame code body (Some id) None f.area arguments)

-- a constructor is called on the next operand, which stays or not
abbrev pub constructing : Code → ℕ → Body → Bool → List Value → Frame → Effect
constructing code id body stays arguments f =
    pop f (λ object g. as_reference object (λ r.
    Calls (if stays then f else g) (new_frame code body (Some id) (Some r) f.area arguments)))

-- `run` is called on an object in an area that is opened, or in the one of another object
abbrev pub entering : Code → Environment → ℕ → ℕ → ℕ → Frame → Effect
entering code world id r bytes f =
    with_run code world r (λ o body. given (defined_by_chain code.program o.class) (λ scope.
    Opens f (new_frame code body (Some id) (Some r) f.area []) scope bytes))

abbrev pub running : Code → Environment → ℕ → ℕ → ℕ → Frame → Effect
running code world id index r f =
    given (world.object_at index) (λ there. with_run code world r (λ o body.
    Calls f (new_frame code body (Some id) (Some r) there.area [])))

-- the priority and the storage of an aperiodic handler are kept, those of a sequencer are not
abbrev pub keeping : ℕ → List Value → Frame → Effect
keeping r values f =
    right_parameters values (λ priority storage. SetsHidden f r (Int priority ∷ Int storage ∷ []))

abbrev pub passing : List Value → Frame → Effect
passing values f = right_parameters values (λ priority storage. Goes f)
