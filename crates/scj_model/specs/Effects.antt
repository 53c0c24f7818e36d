-- Effects: what one operation does, before it is done to the state; and the small steps of which operations are made.
use Rattle.std.specs.Prelude.{ℕ, zero, suc, Bool, List, [], ◌∷◌, ◌++◌, ◌-◌, length, replicate, ℤ, Option, Some, None, if◌then◌else◌}
use Rattle.scj_base.specs.declared.faults.RunFault.{RunFault}
use Rattle.scj_base.specs.declared.faults.RunFault.TheVariants.{NullPointer}
use Rattle.scj_base.specs.declared.values.Value.{Value}
use Rattle.scj_base.specs.declared.values.Value.TheVariants.{Int, Bool as Truth, Null, At}
use Rattle.scj_rules.specs.declared.views.Body.{Body}
use Rattle.scj_rules.specs.declared.views.Body.TheVariants.{Written, Empty}
use Rattle.scj_rules.specs.Bodies.{locals, is_synchronized_body}
use Rattle.scj_model.specs.declared.operations.Op.{Op}
use Rattle.scj_model.specs.Code.{Code}
use Rattle.scj_model.specs.State.{Frame}
use Rattle.scj_model.specs.Ops.{body_ops, put_in_front}

-- in all of these f is the frame as the operation leaves it
pub data Effect : Type 0 where
  -- the frame goes on
  Goes : (f : Frame) → Effect
  -- it prints
  Prints : (f : Frame) (label : ℕ) (value : ℤ) → Effect
  -- it makes an object or an array in its area, and has the reference as its last operand
  Makes : (f : Frame) (class : ℕ) (slots : List Value) → Effect
  -- it stores a value into a slot or an element, or into a static field
  Stores : (f : Frame) (r slot : ℕ) (value : Value) → Effect
  StoresStatic : (f : Frame) (index : ℕ) (value : Value) → Effect
  -- it sets the first slots of an object, which are its hidden ones, or an object's ceiling
  SetsHidden : (f : Frame) (r : ℕ) (values : List Value) → Effect
  SetsCeiling : (f : Frame) (r ceiling : ℕ) → Effect
  -- it calls: g is the new frame
  Calls : (f g : Frame) → Effect
  -- it opens an area of this scope and so many bytes inside its own, and calls g in it
  Opens : (f g : Frame) (scope bytes : ℕ) → Effect
  -- it leaves, with a value if it has one
  Leaves : (f : Frame) (value : Option Value) → Effect
  -- it asks that a handler is registered or released, or that a mission ends
  AsksRegistration : (f : Frame) (r : ℕ) → Effect
  AsksRelease : (f : Frame) (r : ℕ) → Effect
  AsksTermination : (f : Frame) (r : ℕ) → Effect
  -- a fault
  Faults : (fault : RunFault) → Effect
  -- nothing is said of it: this never happens in a program that breaks no rule
  Stuck : Effect

-- ---- the steps of operations

-- with what is there
abbrev pub given : {A : Type 0} → Option A → (A → Effect) → Effect
given None next = Stuck
given (Some a) next = next a

-- with the last operand taken
abbrev pub pop : Frame → (Value → Frame → Effect) → Effect
pop f next = elim f.operands [ [] ↦ Stuck | value ∷ below ↦ next value (record f { operands = below }) ]

-- with so many operands taken, in the order in which they were pushed
abbrev pub pop_from : ℕ → Frame → List Value → (List Value → Frame → Effect) → Effect
pop_from zero f taken next = next taken f
pop_from (suc count) f taken next = pop f (λ value g. pop_from count g (value ∷ taken) next)

abbrev pub pop_all : ℕ → Frame → (List Value → Frame → Effect) → Effect
pop_all count f next = pop_from count f [] next

-- with the number, the truth value, the reference that a value is; null is a fault where an object is asked for
abbrev pub as_int : Value → (ℤ → Effect) → Effect
as_int (Int z) next = next z
as_int _ next = Stuck

abbrev pub as_truth : Value → (Bool → Effect) → Effect
as_truth (Truth b) next = next b
as_truth _ next = Stuck

abbrev pub as_reference : Value → (ℕ → Effect) → Effect
as_reference (At r) next = next r
as_reference _ next = Stuck

abbrev pub as_object : Value → (ℕ → Effect) → Effect
as_object (At r) next = next r
as_object Null next = Faults NullPointer
as_object _ next = Stuck

-- the frame goes on with one more operand
abbrev pub pushes : Frame → Value → Effect
pushes f value = Goes (record f { operands = value ∷ f.operands })

-- with the condition that AND, OR, IF and LOOP find, and with the operations that it puts in front of those left
abbrev pub branch : Code → Op → Frame → (Bool → Frame → Effect) → Effect
branch code op f next =
    pop f (λ condition f. as_truth condition (λ b.
    given (put_in_front code op b) (λ ops. next b (record f { rest = ops ++ f.rest }))))

-- ---- new frames

abbrev pub locals_of : Code → Body → ℕ
locals_of code (Written node) = locals code.program node
locals_of code Empty = 0

-- the arguments are the first locals; each further local is null until it is set
abbrev pub first_locals : Code → Body → List Value → List Value
first_locals code body arguments = arguments ++ replicate (locals_of code body - length arguments) Null

-- the frame of a body, called at a node, with `this`, in an area, with arguments
unfoldable pub new_frame : Code → Body → Option ℕ → Option ℕ → ℕ → List Value → Frame
new_frame code body called_at this area arguments =
    record {
      body = body;
      called_at = called_at;
      locals = first_locals code body arguments;
      operands = [];
      rest = body_ops code body;
      this = this;
      area = area;
      saved = None;
      opened = None;
    }

-- the object whose monitor a frame holds: that of a synchronized method's (JLS 8.4.3.6)
unfoldable pub monitor_of : Code → Frame → Option ℕ
monitor_of code f =
    elim f.body [ Written node ↦ if is_synchronized_body code.program node then f.this else None | Empty ↦ None ]
