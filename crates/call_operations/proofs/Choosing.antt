-- What an instruction that chooses tells of its operation.
use Rattle.std.proofs.Common.{◌≡◌, ℕ, Bool, List, Option, Some, None, option_map, if◌then◌else◌, refl, sym, ap, ◌∙◌, []}
use Rattle.scj_model.specs.declared.operations.Op.{Op}
use Rattle.scj_model.specs.declared.operations.Op.TheVariants.{Push as PUSH, This as THIS, Load as LOAD, Get as GET, GetStatic as GETSTATIC, Length as LENGTH, Elem as ELEM, Unary as UNARY, Bin as BIN, And as AND, Or as OR, Alloc as ALLOC, Construct as CONSTRUCT, AllocArray as ALLOCARRAY, Call as CALL, CallStatic as CALLSTATIC, Cast as CAST, Enter as ENTER, ExecuteIn as EXECUTEIN, Same as SAME, SetCeiling as SETCEILING, Print as PRINT, Read as READ, Register as REGISTER, Release as RELEASE, Terminate as TERMINATE, Zero as ZERO, Store as STORE, Put as PUT, PutStatic as PUTSTATIC, PutElem as PUTELEM, If as IF, Loop as LOOP, LeaveWith as LEAVEWITH, Leave as LEAVE, Drop as DROP, Init as INIT, Super as SUPER, Params as PARAMS}
use Rattle.scj_rules.specs.declared.views.Declared.{Declared}
use Rattle.scj_rules.specs.Words.{◌>>=◌}
use Rattle.scj_rules.specs.Views.{variable_at}
use Rattle.scj_rules.specs.Layout.{element_kind, kind_of_type, literal_written, static_index}
use Rattle.scj_rules.specs.Bodies.{body_of, constructor_body}
use Rattle.scj_model.specs.Code.{Code, binding, code_of, part}
use Rattle.scj_model.specs.Memory.{literal_value}
use Rattle.scj_model.specs.Operations.{argument_count, assigned, bound_class, bound_field, bound_local, bound_method, bound_static, bound_static_method, first_argument, operator_of, super_count}
use Rattle.scj_model.specs.Ops.{if_parts, node_of, ops_of, optional_ops, put_in_front, right_operand, iteration_ops}
use Rattle.op_list.specs.declared.instructions.Instruction.{Instruction}
use Rattle.op_list.specs.declared.instructions.Instruction.TheVariants as instruction
use Rattle.op_list.specs.declared.rows.Row.{Row}
use Rattle.op_list.specs.Instructions.{asked, chosen, instruction_of}
use Rattle.op_list.specs.Listed.{Listing}
use Rattle.op_list.specs.Meanings.{node_number}
use Rattle.op_list.specs.Rows.{GoesBy}
use Rattle.value_operations.specs.Choosing.{Chooses}
use Rattle.call_operations.specs.Choosing.{ChoosesIfAny, choosing}

-- the operation is this one, and puts something in front of the rest whatever its condition is
record IsChosen (code : Code) (op other : Op) : Type 0 where
  same : op ≡ other
  front : Bool → List Op
  puts : (condition : Bool) → put_in_front code op condition ≡ Some (front condition)

-- an operation that asks for what chooses nothing
never : {A : Type 0} (id : ℕ) (o : Option A) (next : A → Instruction) → ((a : A) → choosing id (next a) ≡ None) →
    choosing id (asked o next) ≡ None
unfolding choosing
never id None next h = refl
never id (Some a) next h = h a

nothing : (code : Code) (op other : Op) (i : Instruction) (id : ℕ) → choosing id i ≡ None →
    choosing id i ≡ Some other → IsChosen code op other
nothing code op other i id e h = absurd (let k : None ≡ Some other = sym e ∙ h in cc)

-- an operation that chooses where its node has parts
some_of : {A : Type 0} (code : Code) (op other : Op) (i : Instruction) (id : ℕ) (parts : Option A)
    (front : A → Bool → List Op) → choosing id i ≡ Some op →
    ((condition : Bool) → put_in_front code op condition ≡ option_map (λ (p : A). front p condition) parts) →
    choosing id (chosen parts i) ≡ Some other → IsChosen code op other
unfolding choosing
some_of code op other i id None front is puts h = absurd (cc (h))
some_of code op other i id (Some p) front is puts h = record {
  same = let k : Some op ≡ Some other = sym is ∙ h in cc;
  front = front p;
  puts = puts;
}

chosen_is : (code : Code) (op other : Op) → choosing (node_number op) (instruction_of code op) ≡ Some other →
    IsChosen code op other
unfolding choosing instruction_of node_number node_of put_in_front
chosen_is code (PUSH id) other h =
    nothing code (PUSH id) other (asked (part code literal_value id) (λ value. instruction.Push (record { value = value }))) id
    (never id (part code literal_value id) (λ value. instruction.Push (record { value = value })) (λ a. refl)) h
chosen_is code (THIS id) other h = absurd (cc (h))
chosen_is code (LOAD id) other h =
    nothing code (LOAD id) other (asked (bound_local (binding code id)) instruction.Load) id
    (never id (bound_local (binding code id)) instruction.Load (λ a. refl)) h
chosen_is code (GET id) other h =
    nothing code (GET id) other (asked (bound_field (binding code id)) instruction.Get) id
    (never id (bound_field (binding code id)) instruction.Get (λ a. refl)) h
chosen_is code (GETSTATIC id) other h =
    nothing code (GETSTATIC id) other (asked (bound_static (binding code id) >>= static_index code.program) instruction.GetStatic) id
    (never id (bound_static (binding code id) >>= static_index code.program) instruction.GetStatic (λ a. refl)) h
chosen_is code (LENGTH id) other h = absurd (cc (h))
chosen_is code (ELEM id) other h = absurd (cc (h))
chosen_is code (UNARY id) other h =
    nothing code (UNARY id) other (asked (part code operator_of id) instruction.Unary) id
    (never id (part code operator_of id) instruction.Unary (λ a. refl)) h
chosen_is code (BIN id) other h =
    nothing code (BIN id) other (asked (part code operator_of id) instruction.Bin) id
    (never id (part code operator_of id) instruction.Bin (λ a. refl)) h
chosen_is code (AND id) other h =
    some_of code (AND id) other instruction.And id (part code right_operand id)
    (λ right condition. if condition then ops_of code right else []) refl (λ condition. refl) h
chosen_is code (OR id) other h =
    some_of code (OR id) other instruction.Or id (part code right_operand id)
    (λ right condition. if condition then [] else ops_of code right) refl (λ condition. refl) h
chosen_is code (ALLOC id) other h =
    nothing code (ALLOC id) other (asked (bound_class (binding code id)) instruction.Alloc) id
    (never id (bound_class (binding code id)) instruction.Alloc (λ a. refl)) h
chosen_is code (CONSTRUCT id) other h =
    nothing code (CONSTRUCT id) other (asked (bound_class (binding code id) >>= constructor_body code.program) (λ a. asked (part code argument_count id) (λ count. instruction.Construct (record { body = a; count = count })))) id
    (never id (bound_class (binding code id) >>= constructor_body code.program) (λ a. asked (part code argument_count id) (λ count. instruction.Construct (record { body = a; count = count })))
    (λ a. never id (part code argument_count id) (λ count. instruction.Construct (record { body = a; count = count })) (λ b. refl))) h
chosen_is code (ALLOCARRAY id) other h =
    nothing code (ALLOCARRAY id) other (asked (bound_class (binding code id)) (λ a. asked (element_kind code.program a) (λ kind. instruction.AllocArray (record { class = a; kind = kind })))) id
    (never id (bound_class (binding code id)) (λ a. asked (element_kind code.program a) (λ kind. instruction.AllocArray (record { class = a; kind = kind })))
    (λ a. never id (element_kind code.program a) (λ kind. instruction.AllocArray (record { class = a; kind = kind })) (λ b. refl))) h
chosen_is code (CALL id) other h =
    nothing code (CALL id) other (asked (bound_method (binding code id)) (λ a. asked (part code argument_count id) (λ count. instruction.Call (record { method = a; count = count })))) id
    (never id (bound_method (binding code id)) (λ a. asked (part code argument_count id) (λ count. instruction.Call (record { method = a; count = count })))
    (λ a. never id (part code argument_count id) (λ count. instruction.Call (record { method = a; count = count })) (λ b. refl))) h
chosen_is code (CALLSTATIC id) other h =
    nothing code (CALLSTATIC id) other (asked (bound_static_method (binding code id) >>= (λ (method : ℕ × ℕ). body_of code.program method.0 method.1)) (λ a. asked (part code argument_count id) (λ count. instruction.CallStatic (record { body = a; count = count })))) id
    (never id (bound_static_method (binding code id) >>= (λ (method : ℕ × ℕ). body_of code.program method.0 method.1)) (λ a. asked (part code argument_count id) (λ count. instruction.CallStatic (record { body = a; count = count })))
    (λ a. never id (part code argument_count id) (λ count. instruction.CallStatic (record { body = a; count = count })) (λ b. refl))) h
chosen_is code (CAST id) other h =
    nothing code (CAST id) other (asked (bound_class (binding code id)) instruction.Cast) id
    (never id (bound_class (binding code id)) instruction.Cast (λ a. refl)) h
chosen_is code (ENTER id) other h = absurd (cc (h))
chosen_is code (EXECUTEIN id) other h = absurd (cc (h))
chosen_is code (SAME id) other h = absurd (cc (h))
chosen_is code (SETCEILING id) other h = absurd (cc (h))
chosen_is code (PRINT id) other h =
    nothing code (PRINT id) other (asked (part code first_argument id) instruction.Print) id
    (never id (part code first_argument id) instruction.Print (λ a. refl)) h
chosen_is code (READ id) other h = absurd (cc (h))
chosen_is code (REGISTER id) other h = absurd (cc (h))
chosen_is code (RELEASE id) other h = absurd (cc (h))
chosen_is code (TERMINATE id) other h = absurd (cc (h))
chosen_is code (ZERO id) other h =
    nothing code (ZERO id) other (asked (bound_local (binding code id)) (λ a. asked (variable_at code.program.nodes id) (λ (d : Declared). instruction.Zero (record { local = a; kind = kind_of_type d.declared_type })))) id
    (never id (bound_local (binding code id)) (λ a. asked (variable_at code.program.nodes id) (λ (d : Declared). instruction.Zero (record { local = a; kind = kind_of_type d.declared_type })))
    (λ a. never id (variable_at code.program.nodes id) (λ (d : Declared). instruction.Zero (record { local = a; kind = kind_of_type d.declared_type })) (λ b. refl))) h
chosen_is code (STORE id) other h =
    nothing code (STORE id) other (asked (assigned code id >>= bound_local) instruction.Store) id
    (never id (assigned code id >>= bound_local) instruction.Store (λ a. refl)) h
chosen_is code (PUT id) other h =
    nothing code (PUT id) other (asked (assigned code id >>= bound_field) instruction.Put) id
    (never id (assigned code id >>= bound_field) instruction.Put (λ a. refl)) h
chosen_is code (PUTSTATIC id) other h =
    nothing code (PUTSTATIC id) other (asked (assigned code id >>= bound_static >>= static_index code.program) instruction.PutStatic) id
    (never id (assigned code id >>= bound_static >>= static_index code.program) instruction.PutStatic (λ a. refl)) h
chosen_is code (PUTELEM id) other h = absurd (cc (h))
chosen_is code (IF id) other h =
    some_of code (IF id) other instruction.If id (part code if_parts id)
    (λ (parts : ℕ × Option ℕ) condition. if condition then ops_of code parts.0 else optional_ops code parts.1)
    refl (λ condition. refl) h
chosen_is code (LOOP id) other h =
    some_of code (LOOP id) other instruction.Loop id (part code (iteration_ops code id) id)
    (λ turn condition. if condition then turn else []) refl (λ condition. refl) h
chosen_is code (LEAVEWITH id) other h = absurd (cc (h))
chosen_is code LEAVE other h = absurd (cc (h))
chosen_is code (DROP id) other h = absurd (cc (h))
chosen_is code (INIT id) other h =
    nothing code (INIT id) other (asked (part code literal_written id >>= part code literal_value) (λ a. asked (bound_field (binding code id)) (λ field. instruction.Init (record { value = a; field = field })))) id
    (never id (part code literal_written id >>= part code literal_value) (λ a. asked (bound_field (binding code id)) (λ field. instruction.Init (record { value = a; field = field })))
    (λ a. never id (bound_field (binding code id)) (λ field. instruction.Init (record { value = a; field = field })) (λ b. refl))) h
chosen_is code (SUPER id) other h =
    nothing code (SUPER id) other (asked (bound_class (binding code id) >>= constructor_body code.program) (λ body. instruction.Super (record { body = body; count = super_count code id }))) id
    (never id (bound_class (binding code id) >>= constructor_body code.program) (λ body. instruction.Super (record { body = body; count = super_count code id })) (λ a. refl)) h
chosen_is code (PARAMS id) other h =
    nothing code (PARAMS id) other (asked (bound_class (binding code id)) instruction.Params) id
    (never id (bound_class (binding code id)) instruction.Params (λ a. refl)) h

pub chooses : (code : Listing) (row : Row) (id index : ℕ) → id ≡ node_number row.op →
    row.instruction ≡ instruction_of (code_of code.program) row.op →
    GoesBy (code_of code.program) code.rows row index → ChoosesIfAny code row id index
unfolding ChoosesIfAny GoesBy
chooses code row id index of_node asks goes = go (choosing id row.instruction) refl
  where
    go : (o : Option Op) → choosing id row.instruction ≡ o →
        elim o as (λ z. Type 0) [ None ↦ Unit {0} | Some op ↦ Chooses code row op index ]
    go None e = tt
    go (Some op) e =
        let is : IsChosen (code_of code.program) row.op op =
        chosen_is (code_of code.program) row.op op
        (ap (λ n. choosing n (instruction_of (code_of code.program) row.op)) (sym of_node)
        ∙ ap (choosing id) (sym asks) ∙ e) in
        let found : Chooses code row op index = record {
          front = is.front;
          puts = λ condition.
              ap (λ (o : Op). put_in_front (code_of code.program) o condition) (sym is.same) ∙ is.puts condition;
          goes = λ condition. goes condition (is.front condition) (is.puts condition);
        } in
        found
