-- What an instruction does is what its operation does.
use Rattle.std.proofs.Common.{◌≡◌, ℕ, Bool, true, false, List, [], ◌∷◌, ◌++◌, Option, Some, None, option_map, if◌then◌else◌, refl, ◌∙◌}
use Rattle.scj_base.specs.declared.values.Value.{Value}
use Rattle.scj_base.specs.declared.values.Value.TheVariants.{Int, Bool as Truth, Null, At}
use Rattle.scj_rules.specs.declared.views.Declared.{Declared}
use Rattle.scj_rules.specs.Words.{◌>>=◌}
use Rattle.scj_rules.specs.Layout.{element_kind, kind_of_type, literal_written, static_index}
use Rattle.scj_rules.specs.Bodies.{body_of, constructor_body}
use Rattle.scj_rules.specs.Views.{variable_at}
use Rattle.scj_model.specs.declared.operations.Op.{Op}
use Rattle.scj_model.specs.declared.operations.Op.TheVariants.{Push as PUSH, This as THIS, Load as LOAD, Get as GET, GetStatic as GETSTATIC, Length as LENGTH, Elem as ELEM, Unary as UNARY, Bin as BIN, And as AND, Or as OR, Alloc as ALLOC, Construct as CONSTRUCT, AllocArray as ALLOCARRAY, Call as CALL, CallStatic as CALLSTATIC, Cast as CAST, Enter as ENTER, ExecuteIn as EXECUTEIN, Same as SAME, SetCeiling as SETCEILING, Print as PRINT, Read as READ, Register as REGISTER, Release as RELEASE, Terminate as TERMINATE, Zero as ZERO, Store as STORE, Put as PUT, PutStatic as PUTSTATIC, PutElem as PUTELEM, If as IF, Loop as LOOP, LeaveWith as LEAVEWITH, Leave as LEAVE, Drop as DROP, Init as INIT, Super as SUPER, Params as PARAMS}
use Rattle.scj_model.specs.Code.{Code, binding, part}
use Rattle.scj_model.specs.State.{Frame}
use Rattle.scj_model.specs.Memory.{literal_value}
use Rattle.scj_model.specs.Effects.{Effect, Goes, Stuck, given, pop, as_truth, pushes}
use Rattle.scj_model.specs.Operations.{Environment, effect_of, argument_count, assigned, bound_class, bound_field, bound_local, bound_method, bound_static, bound_static_method, super_count}
use Rattle.scj_model.specs.Ops.{node_of, ops_of, right_operand, if_parts, optional_ops, iteration_ops, put_in_front}
use Rattle.op_list.specs.declared.instructions.Instruction.{Instruction}
use Rattle.op_list.specs.declared.instructions.Instruction.TheVariants as instruction
use Rattle.op_list.specs.Instructions.{asked, chosen, instruction_of}
use Rattle.op_list.specs.Meanings.{effect_by, node_number, construct, call_static, get_static, put_static}

-- what is asked first is asked of the code
once : {A : Type 0} (code : Code) (world : Environment) (f : Frame) (id : ℕ) (o : Option A) (next : A → Instruction)
    (does : A → Effect) → ((a : A) → does a ≡ effect_by code world f id (next a)) →
    given o does ≡ effect_by code world f id (asked o next)
unfolding effect_by
once code world f id None next does same = refl
once code world f id (Some a) next does same = same a

twice : {A B : Type 0} (code : Code) (world : Environment) (f : Frame) (id : ℕ) (o : Option A) (of : A → Option B)
    (next : A → B → Instruction) (does : A → B → Effect) →
    ((a : A) (b : B) → does a b ≡ effect_by code world f id (next a b)) →
    given o (λ a. given (of a) (does a)) ≡ effect_by code world f id (asked o (λ a. asked (of a) (next a)))
twice code world f id o of next does same =
    once code world f id o _ _ (λ a. once code world f id (of a) (next a) (does a) (same a))

-- one reading behind another
behind : {A B : Type 0} (o : Option A) (of : A → Option B) (does : B → Effect) →
    given o (λ a. given (of a) does) ≡ given (o >>= of) does
behind None of does = refl
behind (Some a) of does = refl

-- the number of arguments is asked before the body, or behind it
turned : {A B C : Type 0} (o : Option A) (count : Option C) (of : A → Option B) (does : B → C → Effect) →
    given o (λ a. given count (λ n. given (of a) (λ b. does b n)))
    ≡ given (o >>= of) (λ b. given count (λ n. does b n))
turned {A} {B} None count of does = refl
turned {A} {B} {C} (Some a) None of does = go (of a)
  where
    go : (o : Option B) → Stuck ≡ given o (λ b. Stuck)
    go None = refl
    go (Some b) = refl
turned (Some a) (Some n) of does = refl

-- where an operation has no parts between which it chooses, it is stuck
stuck_truth : (value : Value) → as_truth value (λ b. Stuck) ≡ Stuck
stuck_truth (Int z) = refl
stuck_truth (Truth b) = refl
stuck_truth Null = refl
stuck_truth (At r) = refl

stuck : (f : Frame) → pop f (λ condition f. as_truth condition (λ b. Stuck)) ≡ Stuck
stuck f =
    elim f.operands as (λ (values : List Value). elim values [
      | [] ↦ Stuck
      | value ∷ below ↦ as_truth value (λ b. Stuck)
    ] ≡ Stuck) [
      | [] ↦ refl
      | value ∷ below ↦ stuck_truth value
    ]

choice : {A : Type 0} (code : Code) (world : Environment) (f : Frame) (id : ℕ) (parts : Option A) (make : Instruction)
    (front : A → Bool → List Op) (next : Bool → Frame → Effect) →
    pop f (λ condition f. as_truth condition (λ b.
    given (option_map (λ (p : A). front p b) parts) (λ ops. next b (record f { rest = ops ++ f.rest }))))
    ≡ effect_by code world f id make →
    pop f (λ condition f. as_truth condition (λ b.
    given (option_map (λ (p : A). front p b) parts) (λ ops. next b (record f { rest = ops ++ f.rest }))))
    ≡ effect_by code world f id (chosen parts make)
unfolding effect_by
choice code world f id None make front next same = stuck f
choice code world f id (Some p) make front next same = same

-- the law
pub means : (code : Code) (world : Environment) (f : Frame) (op : Op) →
    effect_of code world f op ≡ effect_by code world f (node_number op) (instruction_of code op)
unfolding effect_of instruction_of effect_by node_number node_of put_in_front
means code world f (PUSH id) = once code world f id _ (λ value. instruction.Push (record { value = value })) _ (λ value. refl)
means code world f (THIS id) = refl
means code world f (LOAD id) = once code world f id _ instruction.Load _ (λ k. refl)
means code world f (GET id) = once code world f id _ instruction.Get _ (λ field. refl)
means code world f (GETSTATIC id) =
    behind (bound_static (binding code id)) (static_index code.program) (get_static world f)
    ∙ once code world f id _ instruction.GetStatic _ (λ place. refl)
means code world f (LENGTH id) = refl
means code world f (ELEM id) = refl
means code world f (UNARY id) = once code world f id _ instruction.Unary _ (λ operator. refl)
means code world f (BIN id) = once code world f id _ instruction.Bin _ (λ operator. refl)
means code world f (AND id) =
    choice code world f id (part code right_operand id) instruction.And (λ right b. if b then ops_of code right else [])
    (λ b f. if b then Goes f else pushes f (Truth false)) refl
means code world f (OR id) =
    choice code world f id (part code right_operand id) instruction.Or (λ right b. if b then [] else ops_of code right)
    (λ b f. if b then pushes f (Truth true) else Goes f) refl
means code world f (ALLOC id) = once code world f id _ instruction.Alloc _ (λ class. refl)
means code world f (CONSTRUCT id) =
    turned (bound_class (binding code id)) (part code argument_count id) (constructor_body code.program)
    (λ body count. construct code f id body count true)
    ∙ twice code world f id (bound_class (binding code id) >>= constructor_body code.program)
    (λ body. part code argument_count id) (λ body count. instruction.Construct (record { body = body; count = count })) _ (λ body count. refl)
means code world f (ALLOCARRAY id) =
    twice code world f id (bound_class (binding code id)) (element_kind code.program)
    (λ class kind. instruction.AllocArray (record { class = class; kind = kind })) _ (λ class kind. refl)
means code world f (CALL id) =
    twice code world f id (bound_method (binding code id)) (λ method. part code argument_count id)
    (λ method count. instruction.Call (record { method = method; count = count })) _ (λ method count. refl)
means code world f (CALLSTATIC id) =
    turned (bound_static_method (binding code id)) (part code argument_count id)
    (λ (method : ℕ × ℕ). body_of code.program method.0 method.1) (λ body count. call_static code f id body count)
    ∙ twice code world f id
    (bound_static_method (binding code id) >>= (λ (method : ℕ × ℕ). body_of code.program method.0 method.1))
    (λ body. part code argument_count id) (λ body count. instruction.CallStatic (record { body = body; count = count })) _ (λ body count. refl)
means code world f (CAST id) = once code world f id _ instruction.Cast _ (λ class. refl)
means code world f (ENTER id) = refl
means code world f (EXECUTEIN id) = refl
means code world f (SAME id) = refl
means code world f (SETCEILING id) = refl
means code world f (PRINT id) = once code world f id _ instruction.Print _ (λ label. refl)
means code world f (READ id) = refl
means code world f (REGISTER id) = refl
means code world f (RELEASE id) = refl
means code world f (TERMINATE id) = refl
means code world f (ZERO id) =
    twice code world f id (bound_local (binding code id)) (λ k. variable_at code.program.nodes id)
    (λ (k : ℕ) (d : Declared). instruction.Zero (record { local = k; kind = kind_of_type d.declared_type })) _ (λ k d. refl)
means code world f (STORE id) = once code world f id _ instruction.Store _ (λ k. refl)
means code world f (PUT id) = once code world f id _ instruction.Put _ (λ field. refl)
means code world f (PUTSTATIC id) =
    behind (assigned code id >>= bound_static) (static_index code.program) (put_static f)
    ∙ once code world f id _ instruction.PutStatic _ (λ place. refl)
means code world f (PUTELEM id) = refl
means code world f (IF id) =
    choice code world f id (part code if_parts id) instruction.If
    (λ (parts : ℕ × Option ℕ) b. if b then ops_of code parts.0 else optional_ops code parts.1) (λ b f. Goes f) refl
means code world f (LOOP id) =
    choice code world f id (part code (iteration_ops code id) id) instruction.Loop (λ turn b. if b then turn else [])
    (λ b f. Goes f) refl
means code world f (LEAVEWITH id) = refl
means code world f LEAVE = refl
means code world f (DROP id) = refl
means code world f (INIT id) =
    twice code world f id (part code literal_written id >>= part code literal_value)
    (λ value. bound_field (binding code id)) (λ value field. instruction.Init (record { value = value; field = field })) _ (λ value field. refl)
means code world f (SUPER id) =
    behind (bound_class (binding code id)) (constructor_body code.program)
    (λ body. construct code f id body (super_count code id) false)
    ∙ once code world f id _ (λ body. instruction.Super (record { body = body; count = super_count code id })) _ (λ body. refl)
means code world f (PARAMS id) = once code world f id _ instruction.Params _ (λ class. refl)
