-- The body that an instruction calls is one of the program.
use Rattle.std.proofs.Common.{◌≡◌, ℕ, Option, Some, None, refl, sym, ◌∙◌}
use Rattle.scj_tree.specs.Forest.{Forest}
use Rattle.scj_rules.specs.declared.views.Body.{Body}
use Rattle.scj_rules.specs.Words.{◌>>=◌}
use Rattle.scj_rules.specs.Contexts.{Declarations, declarations_of}
use Rattle.scj_rules.specs.Bodies.{body_of, constructor_body}
use Rattle.scj_rules.specs.declared.views.Declared.{Declared}
use Rattle.scj_rules.specs.Layout.{element_kind, kind_of_type, literal_written, static_index}
use Rattle.scj_rules.specs.Views.{variable_at}
use Rattle.scj_model.specs.Memory.{literal_value}
use Rattle.scj_model.specs.Ops.{right_operand, if_parts, iteration_ops}
use Rattle.accepted_laws.specs.Programs.{IsAcceptedProgram}
use Rattle.scj_model.specs.declared.operations.Op.{Op}
use Rattle.scj_model.specs.declared.operations.Op.TheVariants.{Push as PUSH, This as THIS, Load as LOAD, Get as GET, GetStatic as GETSTATIC, Length as LENGTH, Elem as ELEM, Unary as UNARY, Bin as BIN, And as AND, Or as OR, Alloc as ALLOC, Construct as CONSTRUCT, AllocArray as ALLOCARRAY, Call as CALL, CallStatic as CALLSTATIC, Cast as CAST, Enter as ENTER, ExecuteIn as EXECUTEIN, Same as SAME, SetCeiling as SETCEILING, Print as PRINT, Read as READ, Register as REGISTER, Release as RELEASE, Terminate as TERMINATE, Zero as ZERO, Store as STORE, Put as PUT, PutStatic as PUTSTATIC, PutElem as PUTELEM, If as IF, Loop as LOOP, LeaveWith as LEAVEWITH, Leave as LEAVE, Drop as DROP, Init as INIT, Super as SUPER, Params as PARAMS}
use Rattle.scj_model.specs.Code.{Code, binding, code_of, part}
use Rattle.scj_model.specs.Operations.{argument_count, assigned, bound_class, bound_field, bound_local, bound_method, bound_static, bound_static_method, first_argument, operator_of, super_count}
use Rattle.op_list.specs.Listed.{IsBodyAmong}
use Rattle.op_list.specs.declared.instructions.Instruction.{Instruction}
use Rattle.op_list.specs.declared.instructions.Instruction.TheVariants as instruction
use Rattle.op_list.specs.Instructions.{asked, callee_of, instruction_of}
use Rattle.op_list.proofs.BodyLemmas.{called_among, constructor_among}

-- what calls no body that is the same for all objects, with whatever it asks
none : {A : Type 0} (o : Option A) (next : A → Instruction) → ((a : A) → callee_of (next a) ≡ None) → (body : Body) →
    callee_of (asked o next) ≡ Some body → ⊥
unfolding callee_of
none None next h body e = cc (e)
none (Some a) next h body e = let n = h a in cc (n, e)

none_of_two : {A B : Type 0} (o : Option A) (of : A → Option B) (next : A → B → Instruction) →
    ((a : A) (b : B) → callee_of (next a b) ≡ None) → (body : Body) →
    callee_of (asked o (λ a. asked (of a) (next a))) ≡ Some body → ⊥
unfolding callee_of
none_of_two None of next h body e = cc (e)
none_of_two (Some a) of next h body e = none (of a) (next a) (h a) body e

-- the body that is asked, beside a count that is asked too
called : (o : Option Body) (count : Option ℕ) (next : Body → ℕ → Instruction) (body : Body) →
    ((b : Body) (n : ℕ) → callee_of (next b n) ≡ Some b) →
    callee_of (asked o (λ b. asked count (next b))) ≡ Some body → o ≡ Some body
unfolding callee_of
called None count next body is e = absurd (cc (e))
called (Some b) None next body is e = absurd (cc (e))
called (Some b) (Some n) next body is e = sym (is b n) ∙ e

-- a body that is asked of what is asked first
behind : {A : Type 0} (o : Option A) (of : A → Option Body) (body : Body) → (o >>= of) ≡ Some body →
    (a : A) × (of a ≡ Some body)
behind None of body e = absurd (cc (e))
behind (Some a) of body e = (a, e)

module _ (forest : Forest) (accepted : IsAcceptedProgram forest) where
  abbrev p : Declarations
  p = declarations_of forest

  abbrev code : Code
  code = code_of forest

  constructed : (o : Option ℕ) (body : Body) → (o >>= constructor_body p) ≡ Some body → IsBodyAmong p.nodes body
  constructed o body e =
      let by = behind o (constructor_body p) body e in constructor_among forest accepted by.0 body by.1

  called_statically : (o : Option (ℕ × ℕ)) (body : Body) →
      (o >>= (λ (method : ℕ × ℕ). body_of p method.0 method.1)) ≡ Some body → IsBodyAmong p.nodes body
  called_statically o body e =
      let by = behind o (λ (method : ℕ × ℕ). body_of p method.0 method.1) body e in
      called_among forest accepted by.0.0 by.0.1 body by.1

  pub callee_among : (op : Op) (body : Body) → callee_of (instruction_of code op) ≡ Some body →
      IsBodyAmong p.nodes body
  unfolding callee_of instruction_of code_of
  callee_among (PUSH id) body e = absurd (none (part code literal_value id) (λ value. instruction.Push (record { value = value })) (λ _. refl) body e)
  callee_among (THIS id) body e = absurd (cc (e))
  callee_among (LOAD id) body e = absurd (none (bound_local (binding code id)) instruction.Load (λ _. refl) body e)
  callee_among (GET id) body e = absurd (none (bound_field (binding code id)) instruction.Get (λ _. refl) body e)
  callee_among (GETSTATIC id) body e = absurd (none (bound_static (binding code id) >>= static_index code.program) instruction.GetStatic (λ _. refl) body e)
  callee_among (LENGTH id) body e = absurd (cc (e))
  callee_among (ELEM id) body e = absurd (cc (e))
  callee_among (UNARY id) body e = absurd (none (part code operator_of id) instruction.Unary (λ _. refl) body e)
  callee_among (BIN id) body e = absurd (none (part code operator_of id) instruction.Bin (λ _. refl) body e)
  callee_among (AND id) body e = absurd (none (part code right_operand id) (λ _. instruction.And) (λ _. refl) body e)
  callee_among (OR id) body e = absurd (none (part code right_operand id) (λ _. instruction.Or) (λ _. refl) body e)
  callee_among (ALLOC id) body e = absurd (none (bound_class (binding code id)) instruction.Alloc (λ _. refl) body e)
  callee_among (CONSTRUCT id) body e =
      constructed (bound_class (binding code id)) body
      (called (bound_class (binding code id) >>= constructor_body p) (part code argument_count id)
      (λ body count. instruction.Construct (record { body = body; count = count })) body (λ b n. refl) e)
  callee_among (ALLOCARRAY id) body e =
      absurd (none_of_two (bound_class (binding code id)) (λ class. element_kind code.program class) (λ class kind. instruction.AllocArray (record { class = class; kind = kind })) (λ _ _. refl) body e)
  callee_among (CALL id) body e =
      absurd (none_of_two (bound_method (binding code id)) (λ method. part code argument_count id) (λ method count. instruction.Call (record { method = method; count = count })) (λ _ _. refl) body e)
  callee_among (CALLSTATIC id) body e =
      called_statically (bound_static_method (binding code id)) body
      (called (bound_static_method (binding code id) >>= (λ (method : ℕ × ℕ). body_of p method.0 method.1))
      (part code argument_count id) (λ body count. instruction.CallStatic (record { body = body; count = count })) body
      (λ b n. refl) e)
  callee_among (CAST id) body e = absurd (none (bound_class (binding code id)) instruction.Cast (λ _. refl) body e)
  callee_among (ENTER id) body e = absurd (cc (e))
  callee_among (EXECUTEIN id) body e = absurd (cc (e))
  callee_among (SAME id) body e = absurd (cc (e))
  callee_among (SETCEILING id) body e = absurd (cc (e))
  callee_among (PRINT id) body e = absurd (none (part code first_argument id) instruction.Print (λ _. refl) body e)
  callee_among (READ id) body e = absurd (cc (e))
  callee_among (REGISTER id) body e = absurd (cc (e))
  callee_among (RELEASE id) body e = absurd (cc (e))
  callee_among (TERMINATE id) body e = absurd (cc (e))
  callee_among (ZERO id) body e =
      absurd (none_of_two (bound_local (binding code id)) (λ k. variable_at code.program.nodes id) (λ k (d : Declared). instruction.Zero (record { local = k; kind = kind_of_type d.declared_type })) (λ _ _. refl) body e)
  callee_among (STORE id) body e = absurd (none (assigned code id >>= bound_local) instruction.Store (λ _. refl) body e)
  callee_among (PUT id) body e = absurd (none (assigned code id >>= bound_field) instruction.Put (λ _. refl) body e)
  callee_among (PUTSTATIC id) body e = absurd (none (assigned code id >>= bound_static >>= static_index code.program) instruction.PutStatic (λ _. refl) body e)
  callee_among (PUTELEM id) body e = absurd (cc (e))
  callee_among (IF id) body e = absurd (none (part code if_parts id) (λ _. instruction.If) (λ _. refl) body e)
  callee_among (LOOP id) body e = absurd (none (part code (iteration_ops code id) id) (λ _. instruction.Loop) (λ _. refl) body e)
  callee_among (LEAVEWITH id) body e = absurd (cc (e))
  callee_among LEAVE body e = absurd (cc (e))
  callee_among (DROP id) body e = absurd (cc (e))
  callee_among (INIT id) body e =
      absurd (none_of_two (part code literal_written id >>= part code literal_value) (λ value. bound_field (binding code id)) (λ value field. instruction.Init (record { value = value; field = field })) (λ _ _. refl) body e)
  callee_among (SUPER id) body e =
      constructed (bound_class (binding code id)) body
      (called (bound_class (binding code id) >>= constructor_body p) (Some (super_count code id))
      (λ body count. instruction.Super (record { body = body; count = count })) body (λ b n. refl) e)
  callee_among (PARAMS id) body e = absurd (none (bound_class (binding code id)) instruction.Params (λ _. refl) body e)
