-- Instructions: what each operation asks of the code, and what an instruction does. In place of a node's number it has
-- what the definitions of the operations read there.
use Rattle.std.specs.Prelude.{ℕ, Option, Some, None}
use Rattle.scj_rules.specs.declared.views.Body.{Body}
use Rattle.scj_rules.specs.declared.views.Declared.{Declared}
use Rattle.scj_rules.specs.Words.{◌>>=◌}
use Rattle.scj_rules.specs.Views.{variable_at}
use Rattle.scj_rules.specs.Layout.{element_kind, kind_of_type, literal_written, static_index}
use Rattle.scj_rules.specs.Bodies.{body_of, constructor_body}
use Rattle.scj_model.specs.declared.operations.Op.{Op}
use Rattle.scj_model.specs.declared.operations.Op.TheVariants.{Push as PUSH, This as THIS, Load as LOAD, Get as GET, GetStatic as GETSTATIC, Length as LENGTH, Elem as ELEM, Unary as UNARY, Bin as BIN, And as AND, Or as OR, Alloc as ALLOC, Construct as CONSTRUCT, AllocArray as ALLOCARRAY, Call as CALL, CallStatic as CALLSTATIC, Cast as CAST, Enter as ENTER, ExecuteIn as EXECUTEIN, Same as SAME, SetCeiling as SETCEILING, Print as PRINT, Read as READ, Register as REGISTER, Release as RELEASE, Terminate as TERMINATE, Zero as ZERO, Store as STORE, Put as PUT, PutStatic as PUTSTATIC, PutElem as PUTELEM, If as IF, Loop as LOOP, LeaveWith as LEAVEWITH, Leave as LEAVE, Drop as DROP, Init as INIT, Super as SUPER, Params as PARAMS}
use Rattle.scj_model.specs.Code.{Code, binding, part}
use Rattle.scj_model.specs.Memory.{literal_value}
use Rattle.scj_model.specs.Operations.{argument_count, assigned, bound_class, bound_field, bound_local, bound_method, bound_static, bound_static_method, first_argument, operator_of, super_count}
use Rattle.scj_model.specs.Ops.{right_operand, if_parts, iteration_ops}
use Rattle.op_list.specs.declared.instructions.Instruction.{Instruction}
use Rattle.op_list.specs.declared.instructions.Instruction.TheVariants as instruction

-- ---- what an operation asks of the code

-- with what is there
abbrev pub asked : {A : Type 0} → Option A → (A → Instruction) → Instruction
asked None next = instruction.Stuck
asked (Some a) next = next a

-- an operation that chooses, where its node has parts between which it chooses
abbrev pub chosen : {A : Type 0} → Option A → Instruction → Instruction
chosen parts choice = asked parts (λ _. choice)

unfoldable pub instruction_of : Code → Op → Instruction
instruction_of code (PUSH id) = asked (part code literal_value id) (λ value. instruction.Push (record { value = value }))
instruction_of code (THIS id) = instruction.This
instruction_of code (LOAD id) = asked (bound_local (binding code id)) instruction.Load
instruction_of code (GET id) = asked (bound_field (binding code id)) instruction.Get
instruction_of code (GETSTATIC id) =
    asked (bound_static (binding code id) >>= static_index code.program) instruction.GetStatic
instruction_of code (LENGTH id) = instruction.Length
instruction_of code (ELEM id) = instruction.Elem
instruction_of code (UNARY id) = asked (part code operator_of id) instruction.Unary
instruction_of code (BIN id) = asked (part code operator_of id) instruction.Bin
instruction_of code (AND id) = chosen (part code right_operand id) instruction.And
instruction_of code (OR id) = chosen (part code right_operand id) instruction.Or
instruction_of code (ALLOC id) = asked (bound_class (binding code id)) instruction.Alloc
instruction_of code (CONSTRUCT id) =
    asked (bound_class (binding code id) >>= constructor_body code.program) (λ body.
    asked (part code argument_count id) (λ count. instruction.Construct (record { body = body; count = count })))
instruction_of code (ALLOCARRAY id) =
    asked (bound_class (binding code id)) (λ class.
    asked (element_kind code.program class) (λ kind. instruction.AllocArray (record { class = class; kind = kind })))
instruction_of code (CALL id) =
    asked (bound_method (binding code id)) (λ method.
    asked (part code argument_count id) (λ count. instruction.Call (record { method = method; count = count })))
instruction_of code (CALLSTATIC id) =
    asked (bound_static_method (binding code id) >>= (λ (method : ℕ × ℕ). body_of code.program method.0 method.1))
    (λ body. asked (part code argument_count id) (λ count. instruction.CallStatic (record { body = body; count = count })))
instruction_of code (CAST id) = asked (bound_class (binding code id)) instruction.Cast
instruction_of code (ENTER id) = instruction.Enter
instruction_of code (EXECUTEIN id) = instruction.ExecuteIn
instruction_of code (SAME id) = instruction.Same
instruction_of code (SETCEILING id) = instruction.SetCeiling
instruction_of code (PRINT id) = asked (part code first_argument id) instruction.Print
instruction_of code (READ id) = instruction.Read
instruction_of code (REGISTER id) = instruction.Register
instruction_of code (RELEASE id) = instruction.Release
instruction_of code (TERMINATE id) = instruction.Terminate
instruction_of code (ZERO id) =
    asked (bound_local (binding code id)) (λ k. asked (variable_at code.program.nodes id)
    (λ (d : Declared). instruction.Zero (record { local = k; kind = kind_of_type d.declared_type })))
instruction_of code (STORE id) = asked (assigned code id >>= bound_local) instruction.Store
instruction_of code (PUT id) = asked (assigned code id >>= bound_field) instruction.Put
instruction_of code (PUTSTATIC id) =
    asked (assigned code id >>= bound_static >>= static_index code.program) instruction.PutStatic
instruction_of code (PUTELEM id) = instruction.PutElem
instruction_of code (IF id) = chosen (part code if_parts id) instruction.If
instruction_of code (LOOP id) = chosen (part code (iteration_ops code id) id) instruction.Loop
instruction_of code (LEAVEWITH id) = instruction.LeaveWith
instruction_of code LEAVE = instruction.Leave
instruction_of code (DROP id) = instruction.Drop
instruction_of code (INIT id) =
    asked (part code literal_written id >>= part code literal_value) (λ value.
    asked (bound_field (binding code id)) (λ field. instruction.Init (record { value = value; field = field })))
instruction_of code (SUPER id) =
    asked (bound_class (binding code id) >>= constructor_body code.program)
    (λ body. instruction.Super (record { body = body; count = super_count code id }))
instruction_of code (PARAMS id) = asked (bound_class (binding code id)) instruction.Params

-- the body that an instruction calls, where it is the same for all objects
unfoldable pub callee_of : Instruction → Option Body
callee_of (instruction.Construct callee) = Some callee.body
callee_of (instruction.CallStatic callee) = Some callee.body
callee_of (instruction.Super callee) = Some callee.body
callee_of _ = None
