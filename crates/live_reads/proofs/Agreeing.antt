-- An operation reads nothing but the objects to which its frame refers.
use Rattle.std.specs.Prelude.{Option}
use Rattle.std.proofs.Common.{◌≡◌, ℕ, [], refl}
use Rattle.scj_base.specs.declared.values.Value.{Value}
use Rattle.scj_base.specs.declared.values.Value.TheVariants.{Bool as Truth}
use Rattle.scj_model.specs.declared.operations.Op.{Op}
use Rattle.scj_model.specs.declared.operations.Op.TheVariants.{Push as PUSH, This as THIS, Load as LOAD, Get as GET, GetStatic as GETSTATIC, Length as LENGTH, Elem as ELEM, Unary as UNARY, Bin as BIN, And as AND, Or as OR, Alloc as ALLOC, Construct as CONSTRUCT, AllocArray as ALLOCARRAY, Call as CALL, CallStatic as CALLSTATIC, Cast as CAST, Enter as ENTER, ExecuteIn as EXECUTEIN, Same as SAME, SetCeiling as SETCEILING, Print as PRINT, Read as READ, Register as REGISTER, Release as RELEASE, Terminate as TERMINATE, Zero as ZERO, Store as STORE, Put as PUT, PutStatic as PUTSTATIC, PutElem as PUTELEM, If as IF, Loop as LOOP, LeaveWith as LEAVEWITH, Leave as LEAVE, Drop as DROP, Init as INIT, Super as SUPER, Params as PARAMS}
use Rattle.scj_model.specs.Code.{Code, binding, part}
use Rattle.scj_model.specs.State.{Object, Frame}
use Rattle.scj_rules.specs.Words.{◌>>=◌}
use Rattle.scj_rules.specs.Layout.{literal_written}
use Rattle.scj_model.specs.Memory.{literal_value}
use Rattle.scj_model.specs.Effects.{given, pop, pop_all, pushes}
use Rattle.scj_model.specs.Operations.{Environment, bound_field, bound_class, bound_method, assigned, argument_count, effect_of, get_op, length_op, elem_op, call_op, cast_op, enter_op, execute_in_op, same_op, with_area, are_one_area, put_op, put_elem_op, init_op}
use Rattle.live_reads.proofs.Looks.{Agrees, FrameAgrees, given_same, found_same, pop_same, pop_from_same, Look, get_of, length_of, elem_of, call_of, enter_of, execute_of, one_area_of, put_of, put_elem_of, init_of, given_at, cast_of, get_value, length_value, call_value, put_value, cast_value, elem_value, put_elem_value, enter_value, execute_value, area_value}

module _ (code : Code) (w : Environment) (h : ℕ → Option Object) where
  abbrev w2 : Environment
  w2 = record w { object_at = h }

  abbrev g : Look
  g = w.object_at

  get_same : (f : Frame) (id : ℕ) → FrameAgrees g h f → get_op code w f id ≡ get_op code w2 f id
  get_same f id a =
      given_same (bound_field (binding code id)) (λ field. pop f (get_of code g field)) (λ field. pop f (get_of code h field))
      (λ field. pop_same g h f (get_of code g field) (get_of code h field) a.operands (λ v x q rest. get_value code w h field v x q))

  length_same : (f : Frame) → FrameAgrees g h f → length_op w f ≡ length_op w2 f
  length_same f a = pop_same g h f (length_of g) (length_of h) a.operands (λ v x q rest. length_value code w h v x q)

  elem_same : (f : Frame) → FrameAgrees g h f → elem_op w f ≡ elem_op w2 f
  elem_same f a =
      pop_same g h f (λ index x. pop x (elem_of g index)) (λ index x. pop x (elem_of h index)) a.operands (λ index x q rest.
      pop_same g h x (elem_of g index) (elem_of h index) rest (λ v y p more. elem_value code w h index v y p))

  call_same : (f : Frame) (id : ℕ) → FrameAgrees g h f → call_op code w f id ≡ call_op code w2 f id
  call_same f id a =
      given_same (bound_method (binding code id))
      (λ method. given (part code argument_count id) (λ count. pop_all count f (λ arguments x. pop x (call_of code g id method arguments))))
      (λ method. given (part code argument_count id) (λ count. pop_all count f (λ arguments x. pop x (call_of code h id method arguments))))
      (λ method. given_same (part code argument_count id)
      (λ count. pop_all count f (λ arguments x. pop x (call_of code g id method arguments)))
      (λ count. pop_all count f (λ arguments x. pop x (call_of code h id method arguments)))
      (λ count. pop_from_same g h count f [] (λ arguments x. pop x (call_of code g id method arguments))
      (λ arguments x. pop x (call_of code h id method arguments)) a.operands (λ arguments x rest.
      pop_same g h x (call_of code g id method arguments) (call_of code h id method arguments) rest (λ v y q more.
      call_value code w h id method arguments v y q))))

  cast_same : (f : Frame) (id : ℕ) → FrameAgrees g h f → cast_op code w f id ≡ cast_op code w2 f id
  cast_same f id a =
      given_same (bound_class (binding code id)) (λ class. pop f (cast_of code g class)) (λ class. pop f (cast_of code h class))
      (λ class. pop_same g h f (cast_of code g class) (cast_of code h class) a.operands (λ v x q rest. cast_value code w h class v x q))

  enter_same : (f : Frame) (id : ℕ) → FrameAgrees g h f → enter_op code w f id ≡ enter_op code w2 f id
  enter_same f id a =
      pop_same g h f (λ v x. pop x (λ size y. enter_of code g id v size y)) (λ v x. pop x (λ size y. enter_of code h id v size y))
      a.operands (λ v x q rest.
      pop_same g h x (λ size y. enter_of code g id v size y) (λ size y. enter_of code h id v size y) rest (λ size y p more.
      enter_value code w h id size v y q))

  execute_in_same : (f : Frame) (id : ℕ) → FrameAgrees g h f → execute_in_op code w f id ≡ execute_in_op code w2 f id
  execute_in_same f id a =
      pop_same g h f (λ v x. pop x (execute_of code g id v)) (λ v x. pop x (execute_of code h id v)) a.operands (λ v x q rest.
      pop_same g h x (execute_of code g id v) (execute_of code h id v) rest (λ object y p more.
      execute_value code w h id v object y q p))

  same_same : (f : Frame) → FrameAgrees g h f → same_op w f ≡ same_op w2 f
  same_same f a =
      pop_same g h f (λ second x. pop x (one_area_of w second)) (λ second x. pop x (one_area_of w2 second)) a.operands
      (λ second x q rest.
      pop_same g h x (one_area_of w second) (one_area_of w2 second) rest (λ first y p more.
      one_area second first y q p))
    where
      one_area : (second first : Value) (y : Frame) → Agrees g h second → Agrees g h first →
          one_area_of w second first y ≡ one_area_of w2 second first y
      one_area second first y q p =
          area_value code w h first (λ b. with_area w second (λ d. pushes y (Truth (are_one_area b d))))
          (λ b. with_area w2 second (λ d. pushes y (Truth (are_one_area b d)))) p (λ b.
          area_value code w h second (λ d. pushes y (Truth (are_one_area b d)))
          (λ d. pushes y (Truth (are_one_area b d))) q (λ d. refl))

  put_same : (f : Frame) (id : ℕ) → FrameAgrees g h f → put_op code w f id ≡ put_op code w2 f id
  put_same f id a =
      given_same (assigned code id >>= bound_field)
      (λ field. pop f (λ value x. pop x (put_of code g field value)))
      (λ field. pop f (λ value x. pop x (put_of code h field value))) (λ field.
      pop_same g h f (λ value x. pop x (put_of code g field value)) (λ value x. pop x (put_of code h field value)) a.operands
      (λ value x q rest.
      pop_same g h x (put_of code g field value) (put_of code h field value) rest (λ v y p more. put_value code w h field value v y p)))

  put_elem_same : (f : Frame) → FrameAgrees g h f → put_elem_op w f ≡ put_elem_op w2 f
  put_elem_same f a =
      pop_same g h f (λ value x. pop x (λ index y. pop y (put_elem_of g value index)))
      (λ value x. pop x (λ index y. pop y (put_elem_of h value index))) a.operands (λ value x q rest.
      pop_same g h x (λ index y. pop y (put_elem_of g value index)) (λ index y. pop y (put_elem_of h value index)) rest
      (λ index y p more.
      pop_same g h y (put_elem_of g value index) (put_elem_of h value index) more (λ v z s last.
      put_elem_value code w h value index v z s)))

  init_same : (f : Frame) (id : ℕ) → FrameAgrees g h f → init_op code w f id ≡ init_op code w2 f id
  init_same f id a =
      given_same (part code literal_written id >>= part code literal_value)
      (λ value. given (bound_field (binding code id)) (λ field. given f.this (init_of code g f value field)))
      (λ value. given (bound_field (binding code id)) (λ field. given f.this (init_of code h f value field))) (λ value.
      given_same (bound_field (binding code id)) (λ field. given f.this (init_of code g f value field))
      (λ field. given f.this (init_of code h f value field)) (λ field.
      given_at f.this (init_of code g f value field) (init_of code h f value field) (λ r e.
      found_same (g r) (h r) _ (a.this r e))))

  -- the effect of an operation is the same where two look-ups agree at the frame's references
  pub reads_alike : (f : Frame) (op : Op) → FrameAgrees w.object_at h f → effect_of code w f op ≡ effect_of code w2 f op
  unfolding effect_of
  reads_alike f (GET id) a = get_same f id a
  reads_alike f (LENGTH id) a = length_same f a
  reads_alike f (ELEM id) a = elem_same f a
  reads_alike f (CALL id) a = call_same f id a
  reads_alike f (CAST id) a = cast_same f id a
  reads_alike f (ENTER id) a = enter_same f id a
  reads_alike f (EXECUTEIN id) a = execute_in_same f id a
  reads_alike f (SAME id) a = same_same f a
  reads_alike f (PUT id) a = put_same f id a
  reads_alike f (PUTELEM id) a = put_elem_same f a
  reads_alike f (INIT id) a = init_same f id a
  reads_alike f (PUSH id) a = refl
  reads_alike f (THIS id) a = refl
  reads_alike f (LOAD id) a = refl
  reads_alike f (GETSTATIC id) a = refl
  reads_alike f (UNARY id) a = refl
  reads_alike f (BIN id) a = refl
  reads_alike f (AND id) a = refl
  reads_alike f (OR id) a = refl
  reads_alike f (ALLOC id) a = refl
  reads_alike f (CONSTRUCT id) a = refl
  reads_alike f (ALLOCARRAY id) a = refl
  reads_alike f (CALLSTATIC id) a = refl
  reads_alike f (SETCEILING id) a = refl
  reads_alike f (PRINT id) a = refl
  reads_alike f (READ id) a = refl
  reads_alike f (REGISTER id) a = refl
  reads_alike f (RELEASE id) a = refl
  reads_alike f (TERMINATE id) a = refl
  reads_alike f (ZERO id) a = refl
  reads_alike f (STORE id) a = refl
  reads_alike f (PUTSTATIC id) a = refl
  reads_alike f (IF id) a = refl
  reads_alike f (LOOP id) a = refl
  reads_alike f (LEAVEWITH id) a = refl
  reads_alike f (DROP id) a = refl
  reads_alike f (SUPER id) a = refl
  reads_alike f (PARAMS id) a = refl
  reads_alike f LEAVE a = refl
