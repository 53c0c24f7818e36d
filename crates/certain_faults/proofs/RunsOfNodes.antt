-- The operations of each node go through, and leave what is told of the node.
use Rattle.std.specs.Prelude.{Option, Some, None, slice_get, flat_map, map, nat_lt, ◌==◌, ◌&&◌}
use Rattle.std.proofs.Common.{◌≡◌, ℕ, ◌<◌, zero, suc, List, [], ◌∷◌, ◌++◌, length, Bool, true, false, refl, sym, ap, ◌∙◌, subst, arith, if◌then◌else◌}
use Rattle.std.proofs.lemmas.Bool.Decides.{nat_tests}
use Rattle.scj_base.specs.Vocabulary.{sign_and_and, sign_or_or}
use Rattle.scj_builtins.specs.Framework.{mission_request_termination, periodic_handler_register, aperiodic_handler_register, aperiodic_handler_release, managed_memory_enter_private_memory, managed_memory_execute_in_area_of, managed_memory_alloc_in_same, services_set_ceiling, trace_print, device_read}
use Rattle.scj_tree.specs.declared.nodes.Node.{Node}
use Rattle.scj_tree.specs.declared.nodes.Node.TheVariants.{Class, Method as MethodNode, Constructor, SuperCall, Block, Local as LocalNode, LocalWithValue, Assign, ExpressionStatement, If, While, For, Return, Binary, Unary, Cast, Parenthesized, SimpleName, FieldAccess, Call, Element, New, NewArray, Number, True, False, Null, This}
use Rattle.scj_tree.specs.Recursion.{below}
use Rattle.scj_tree.proofs.RecursionLemmas.{by_smaller-is}
use Rattle.scj_rules.specs.declared.typing.Binding.{Binding}
use Rattle.scj_rules.specs.declared.typing.Binding.TheVariants.{Plain, Local, Field, Static, Length, Class as ClassNamed, Method, StaticMethod, Builtin}
use Rattle.scj_rules.specs.declared.typing.Target.{Target}
use Rattle.scj_rules.specs.declared.views.Declared.{Declared}
use Rattle.scj_rules.specs.declared.views.WrittenType.TheVariants.{Void as void_type}
use Rattle.scj_rules.specs.Words.{is_among, ◌>>=◌}
use Rattle.scj_rules.specs.Views.{type_at}
use Rattle.scj_rules.specs.Classes.{is_user_class}
use Rattle.scj_rules.specs.ClassRules.{is_same_type}
use Rattle.scj_rules.specs.Types.{has_form}
use Rattle.scj_rules.specs.Layout.{fields_with_literal}
use Rattle.scj_rules.specs.Bodies.{class_node, class_of_body}
use Rattle.scj_model.specs.declared.operations.Op.{Op}
use Rattle.scj_model.specs.declared.operations.Op.TheVariants.{Push as PUSH, This as THIS, Load as LOAD, Get as GET, GetStatic as GETSTATIC, Length as LENGTH, Elem as ELEM, Unary as UNARY, Bin as BIN, And as AND, Or as OR, Alloc as ALLOC, Construct as CONSTRUCT, AllocArray as ALLOCARRAY, Call as CALL, CallStatic as CALLSTATIC, Cast as CAST, Enter as ENTER, ExecuteIn as EXECUTEIN, Same as SAME, SetCeiling as SETCEILING, Print as PRINT, Read as READ, Register as REGISTER, Release as RELEASE, Terminate as TERMINATE, Zero as ZERO, Store as STORE, Put as PUT, PutStatic as PUTSTATIC, PutElem as PUTELEM, If as IF, Loop as LOOP, LeaveWith as LEAVEWITH, Leave as LEAVE, Drop as DROP, Init as INIT, Super as SUPER, Params as PARAMS}
use Rattle.scj_model.specs.Code.{Code, binding, part}
use Rattle.scj_model.specs.Ops.{name_ops, access_ops, binary_ops, new_ops, receiver_ops, builtin_ops, call_ops, leaves_value, assign_ops, return_ops, method_ops, super_ops, unwritten_super_ops, literal_ops, constructor_ops, node_ops, next_ops, ops_of, right_operand}
use Rattle.scj_model.specs.Operations.{operator_of, argument_count}
use Rattle.certain_faults.specs.declared.known.Known.{Known}
use Rattle.certain_faults.specs.declared.known.Known.TheVariants.{Unknown, Object}
use Rattle.certain_faults.specs.declared.known.Left.{Left}
use Rattle.certain_faults.specs.declared.known.Left.TheVariants.{Forgets, Zero, One, Two, Four}
use Rattle.certain_faults.specs.Known.{unary_known, binary_known, is_conditional, operator_known, in_place_of, in_place_of_two, left_by_name, left_by_access, leaves_one, all_leave_one, end_to_end, left_by_part, left_by_new, leaves_receiver, left_by_method, left_by_read, left_by_same, left_by_builtin, left_by_call, left_by_node, next_left, left_by}
use Rattle.certain_faults.proofs.Stacks.{Stack, nothing, put, taken, dropped, with_left, with_all, Less, less_same, less_nothing, less_left, less_all}
use Rattle.certain_faults.proofs.Passes.{array_length, arguments_of, left_below, part_left, with_parts, asked, unary_by, binary_by, behind_right, behind_arguments, with_result, behind_call, behind_static_call, step, Runs, runs_none, runs_op, runs_then, runs_less, Any, any_of, any_none, any_then, any_op, any_if, IsAnywhere, made_with, runs_new}

-- a class has no arguments of its own
pub record ClassesAskNothing (code : Code) : Type 0 where
  pub is : (class node : ℕ) → class_node code.program class ≡ Some node → part code arguments_of node ≡ None

-- ---- what nodes leave is no more than what is known behind their operations

one_less : (l : Left) (f : Known → Known) (k : Stack → Known) (s : Stack) →
    ((a : Known) → f a ≡ k (put a s)) → Less (with_left (in_place_of l f) s) (put (k (with_left l s)) (taken (with_left l s)))
unfolding in_place_of with_left
one_less Forgets f k s e = less_nothing _
one_less Zero f k s e = less_nothing _
one_less (One a) f k s e = subst (λ (x : Known). Less (put (f a) s) (put x s)) (e a) (less_same (put (f a) s))
one_less (Two a b) f k s e = less_nothing _
one_less (Four a b c d) f k s e = less_nothing _

two_less : (l r : Left) (f : Known → Known → Known) (k : Stack → Known) (s : Stack) →
    ((a b : Known) → f a b ≡ k (put b (put a s))) →
    Less (with_left (in_place_of_two l r f) s)
    (put (k (with_left r (with_left l s))) (taken (taken (with_left r (with_left l s)))))
unfolding in_place_of_two with_left
two_less (One a) (One b) f k s e =
    subst (λ (x : Known). Less (put (f a b) s) (put x s)) (e a b) (less_same (put (f a b) s))
two_less (One a) Forgets f k s e = less_nothing _
two_less (One a) Zero f k s e = less_nothing _
two_less (One a) (Two b c) f k s e = less_nothing _
two_less (One a) (Four b c d g) f k s e = less_nothing _
two_less Forgets r f k s e = less_nothing _
two_less Zero r f k s e = less_nothing _
two_less (Two a b) r f k s e = less_nothing _
two_less (Four a b c d) r f k s e = less_nothing _

-- behind the operands of `&&` and `||`
short_less : (l r : Left) (f : Known → Known → Known) (s : Stack) → ((a b : Known) → f a b ≡ Unknown) →
    Less (with_left (in_place_of_two l r f) s) (behind_right r (with_left l s))
unfolding in_place_of_two with_left
short_less (One a) (One b) f s e =
    subst (λ (x : Known). Less (put x s) (put Unknown s)) (sym (e a b)) (less_same (put Unknown s))
short_less (One a) Forgets f s e = less_nothing _
short_less (One a) Zero f s e = less_nothing _
short_less (One a) (Two b c) f s e = less_nothing _
short_less (One a) (Four b c d g) f s e = less_nothing _
short_less Forgets r f s e = less_nothing _
short_less Zero r f s e = less_nothing _
short_less (Two a b) r f s e = less_nothing _
short_less (Four a b c d) r f s e = less_nothing _

both_true : (a b : Bool) → (a && b) ≡ true → (a ≡ true) × (b ≡ true)
both_true true true e = (refl, refl)
both_true true false e = absurd (cc (e))
both_true false b e = absurd (cc (e))

-- the arguments of a new object are dropped, and what was there before is there again
all_dropped : (left : ℕ → Left) (xs : List ℕ) (s : Stack) → all_leave_one left xs ≡ true →
    dropped (length xs) (with_all left xs s) ≡ s
unfolding leaves_one with_left
all_dropped left [] s e = refl
all_dropped left (x ∷ xs) s e =
    go (left x) (both_true (leaves_one (left x)) (all_leave_one left xs) e).0
    (λ a. all_dropped left xs (put a s) (both_true (leaves_one (left x)) (all_leave_one left xs) e).1)
  where
    go : (l : Left) → leaves_one l ≡ true →
        ((a : Known) → dropped (length xs) (with_all left xs (put a s)) ≡ put a s) →
        taken (dropped (length xs) (with_all left xs (with_left l s))) ≡ s
    go (One a) k h = ap taken (h a)
    go Forgets k h = absurd (cc (k))
    go Zero k h = absurd (cc (k))
    go (Two a b) k h = absurd (cc (k))
    go (Four a b c d) k h = absurd (cc (k))

part_less : (left : ℕ → Left) (xs : List ℕ) (s : Stack) → Less (with_left (left_by_part left xs) s) (with_all left xs s)
unfolding left_by_part end_to_end with_left
part_less left [] s = less_same _
part_less left (x ∷ []) s = less_same _
part_less left (x ∷ y ∷ []) s = go (left x) (left y)
  where
    go : (l r : Left) → Less (with_left (end_to_end l r) s) (with_left r (with_left l s))
    go (One a) (One b) = less_same _
    go (One a) Forgets = less_nothing _
    go (One a) Zero = less_nothing _
    go (One a) (Two b c) = less_nothing _
    go (One a) (Four b c d e) = less_nothing _
    go (Two a b) (Two c d) = less_same _
    go (Two a b) Forgets = less_nothing _
    go (Two a b) Zero = less_nothing _
    go (Two a b) (One c) = less_nothing _
    go (Two a b) (Four c d e f) = less_nothing _
    go Forgets r = less_nothing _
    go Zero r = less_nothing _
    go (Four a b c d) r = less_nothing _
part_less left (x ∷ y ∷ z ∷ xs) s = less_nothing _

-- ---- the nodes

module _ (code : Code) (bare : ClassesAskNothing code) (id : ℕ) where
  abbrev ops : ℕ → List Op
  ops = below [] id (ops_of code)

  abbrev left : ℕ → Left
  left = left_below code id

  -- the operations of the parts go through
  abbrev pub PartsRun : Type 0
  PartsRun = (x : ℕ) (s : Stack) → Runs code (ops x) s (with_left (left x) s)

  module _ (parts : PartsRun) where
    any_part : (x : ℕ) → Any code (ops x)
    any_part x = any_of code (ops x) (λ s. (with_left (left x) s, parts x s))

    all_run : (xs : List ℕ) (s : Stack) → Runs code (flat_map ops xs) s (with_all left xs s)
    all_run [] s = runs_none code s
    all_run (x ∷ xs) s =
        runs_then code (ops x) (flat_map ops xs) s (with_left (left x) s) (with_all left (x ∷ xs) s) (parts x s)
        (all_run xs (with_left (left x) s))

    any_all : (xs : List ℕ) → Any code (flat_map ops xs)
    any_all xs = any_of code (flat_map ops xs) (λ s. (with_all left xs s, all_run xs s))

    -- an operation behind those of a part, of two parts, and of several
    behind : (xs : List Op) (op : Op) (s t : Stack) → Runs code xs s t → Less (asked code op) t →
        IsAnywhere code op → Runs code (xs ++ op ∷ []) s (step code op t)
    behind xs op s t a l w = runs_then code xs (op ∷ []) s t (step code op t) a (runs_op code op t l w)

    any_behind : (xs : List Op) (op : Op) → Any code xs → asked code op ≡ nothing → IsAnywhere code op →
        Any code (xs ++ op ∷ [])
    any_behind xs op a e w = any_then code xs (op ∷ []) a (any_op code op e w)

    -- an operation of the framework asks for what is known of its arguments
    asked_behind : (op : Op) (xs : List ℕ) → asked code op ≡ with_parts code id (Some xs) → IsAnywhere code op →
        (s : Stack) → Runs code (flat_map ops xs ++ op ∷ []) s (step code op (with_all left xs s))
    asked_behind op xs e w s =
        behind (flat_map ops xs) op s (with_all left xs s) (all_run xs s)
        (subst (λ t. Less t (with_all left xs s)) (sym e) (less_all left xs nothing s (less_nothing s))) w

    any_asked : (op : Op) (xs : List ℕ) → asked code op ≡ with_parts code id (Some xs) → IsAnywhere code op →
        Any code (flat_map ops xs ++ op ∷ [])
    any_asked op xs e w =
        any_of code (flat_map ops xs ++ op ∷ []) (λ s. (step code op (with_all left xs s), asked_behind op xs e w s))

    -- ---- values

    name_runs : (b : Binding) (s : Stack) → Runs code (name_ops id b) s (with_left (left_by_name b) s)
    unfolding name_ops left_by_name with_left step asked
    name_runs (Local k) s = runs_op code (LOAD id) s (less_nothing s) (λ r. tt)
    name_runs (Field k) s =
        behind (THIS id ∷ []) (GET id) s (put Object s) (runs_op code (THIS id) s (less_nothing s) (λ r. tt)) (less_nothing _) (λ r. tt)
    name_runs (Static k) s = runs_op code (GETSTATIC id) s (less_nothing s) (λ r. tt)
    name_runs Plain s = (any_none code).is s
    name_runs Length s = (any_none code).is s
    name_runs (ClassNamed class) s = (any_none code).is s
    name_runs (Method t) s = (any_none code).is s
    name_runs (StaticMethod t) s = (any_none code).is s
    name_runs (Builtin t) s = (any_none code).is s

    access_runs : (object : ℕ) (b : Binding) (s : Stack) →
        Runs code (access_ops ops id object b) s (with_left (left_by_access b (left object)) s)
    unfolding access_ops left_by_access step asked with_left
    access_runs object (Field k) s =
        runs_less code (ops object ++ GET id ∷ []) s _ _ (one_less (left object) (λ a. Unknown) (λ t. Unknown) s (λ a. refl))
        (behind (ops object) (GET id) s (with_left (left object) s) (parts object s) (less_nothing _) (λ r. tt))
    access_runs object Length s =
        runs_less code (ops object ++ LENGTH id ∷ []) s _ _
        (one_less (left object) (λ a. Unknown) (λ t. Unknown) s (λ a. refl))
        (behind (ops object) (LENGTH id) s (with_left (left object) s) (parts object s) (less_nothing _) (λ r. tt))
    access_runs object (Static k) s = runs_op code (GETSTATIC id) s (less_nothing s) (λ r. tt)
    access_runs object Plain s = (any_none code).is s
    access_runs object (Local k) s = (any_none code).is s
    access_runs object (ClassNamed class) s = (any_none code).is s
    access_runs object (Method t) s = (any_none code).is s
    access_runs object (StaticMethod t) s = (any_none code).is s
    access_runs object (Builtin t) s = (any_none code).is s

    element_runs : (array index : ℕ) (s : Stack) →
        Runs code (ops array ++ (ops index ++ ELEM id ∷ [])) s
        (with_left (in_place_of_two (left array) (left index) (λ a b. Unknown)) s)
    unfolding step asked
    element_runs array index s =
        runs_less code (ops array ++ (ops index ++ ELEM id ∷ [])) s _ _
        (two_less (left array) (left index) (λ a b. Unknown) (λ t. Unknown) s (λ a b. refl))
        (runs_then code (ops array) (ops index ++ ELEM id ∷ []) s (with_left (left array) s) _ (parts array s)
        (behind (ops index) (ELEM id) (with_left (left array) s) (with_left (left index) (with_left (left array) s))
        (parts index (with_left (left array) s)) (less_nothing _) (λ r. tt)))

    unary_runs : (operator operand : ℕ) → part code operator_of id ≡ Some operator → (s : Stack) →
        Runs code (ops operand ++ UNARY id ∷ []) s (with_left (in_place_of (left operand) (unary_known operator)) s)
    unfolding step asked
    unary_runs operator operand e s =
        runs_less code (ops operand ++ UNARY id ∷ []) s _ _
        (one_less (left operand) (unary_known operator) (λ t. unary_by (part code operator_of id) (t 0)) s
        (λ a. sym (ap (λ (o : Option ℕ). unary_by o a) e)))
        (behind (ops operand) (UNARY id) s (with_left (left operand) s) (parts operand s) (less_nothing _) (λ r. tt))

    new_array_runs : (size : ℕ) → part code array_length id ≡ Some size → (s : Stack) →
        Runs code (ops size ++ ALLOCARRAY id ∷ []) s (with_left (in_place_of (left size) (λ a. Object)) s)
    unfolding step asked
    new_array_runs size e s =
        runs_less code (ops size ++ ALLOCARRAY id ∷ []) s _ _
        (one_less (left size) (λ a. Object) (λ t. Object) s (λ a. refl))
        (behind (ops size) (ALLOCARRAY id) s (with_left (left size) s) (parts size s)
        (subst (λ (o : Option ℕ). Less (with_left (part_left code id o) nothing) (with_left (left size) s)) (sym e)
        (less_left (left size) nothing s (less_nothing s))) (λ r. tt))

    cast_runs : (operand : ℕ) (s : Stack) →
        Runs code (ops operand ++ CAST id ∷ []) s (with_left (in_place_of (left operand) (λ a. Unknown)) s)
    unfolding step asked
    cast_runs operand s =
        runs_less code (ops operand ++ CAST id ∷ []) s _ _
        (one_less (left operand) (λ a. Unknown) (λ t. Unknown) s (λ a. refl))
        (behind (ops operand) (CAST id) s (with_left (left operand) s) (parts operand s) (less_nothing _) (λ r. tt))

    literal_runs : (s : Stack) → Runs code (PUSH id ∷ []) s (step code (PUSH id) s)
    unfolding asked
    literal_runs s = runs_op code (PUSH id) s (less_nothing s) (λ r. tt)

    -- ---- operators on two operands

    module _ (operator l r : ℕ) (is_operator : part code operator_of id ≡ Some operator)
        (is_right : part code right_operand id ≡ Some r) where
      abbrev target : Stack → Stack
      target s = with_left (in_place_of_two (left l) (left r) (operator_known operator)) s

      conditional : is_conditional operator ≡ true → (a b : Known) → operator_known operator a b ≡ Unknown
      unfolding operator_known
      conditional e a b = ap (λ (t : Bool). if t then Unknown else binary_known operator a b) e

      and_runs : is_conditional operator ≡ true → (s : Stack) → Runs code (ops l ++ AND id ∷ []) s (target s)
      unfolding step asked
      and_runs e s =
          runs_less code (ops l ++ AND id ∷ []) s _ _
          (subst (λ (o : Option ℕ). Less (target s) (behind_right (part_left code id o) (with_left (left l) s)))
          (sym is_right) (short_less (left l) (left r) (operator_known operator) s (conditional e)))
          (behind (ops l) (AND id) s (with_left (left l) s) (parts l s) (less_nothing _) (λ r. tt))

      or_runs : is_conditional operator ≡ true → (s : Stack) → Runs code (ops l ++ OR id ∷ []) s (target s)
      unfolding step asked
      or_runs e s =
          runs_less code (ops l ++ OR id ∷ []) s _ _
          (subst (λ (o : Option ℕ). Less (target s) (behind_right (part_left code id o) (with_left (left l) s)))
          (sym is_right) (short_less (left l) (left r) (operator_known operator) s (conditional e)))
          (behind (ops l) (OR id) s (with_left (left l) s) (parts l s) (less_nothing _) (λ r. tt))

      plain : is_conditional operator ≡ false → (a b : Known) → operator_known operator a b ≡ binary_known operator a b
      unfolding operator_known
      plain e a b = ap (λ (t : Bool). if t then Unknown else binary_known operator a b) e

      bin_runs : is_conditional operator ≡ false → (s : Stack) →
          Runs code (ops l ++ (ops r ++ BIN id ∷ [])) s (target s)
      unfolding step asked
      bin_runs e s =
          runs_less code (ops l ++ (ops r ++ BIN id ∷ [])) s _ _
          (two_less (left l) (left r) (operator_known operator)
          (λ t. binary_by (part code operator_of id) (t 1) (t 0)) s
          (λ a b. plain e a b ∙ sym (ap (λ (o : Option ℕ). binary_by o a b) is_operator)))
          (runs_then code (ops l) (ops r ++ BIN id ∷ []) s (with_left (left l) s) _ (parts l s)
          (behind (ops r) (BIN id) (with_left (left l) s) (with_left (left r) (with_left (left l) s))
          (parts r (with_left (left l) s))
          (subst (λ (o : Option ℕ). Less (with_left (part_left code id o) nothing)
          (with_left (left r) (with_left (left l) s))) (sym is_right)
          (less_left (left r) nothing (with_left (left l) s) (less_nothing _))) (λ r. tt)))

      binary_runs : (s : Stack) → Runs code (binary_ops ops id operator l r) s (target s)
      unfolding binary_ops
      binary_runs s = go (operator == sign_and_and) refl (operator == sign_or_or) refl
        where
          go : (a : Bool) → (operator == sign_and_and) ≡ a → (b : Bool) → (operator == sign_or_or) ≡ b →
              Runs code
              (if a then ops l ++ AND id ∷ []
              else (if b then ops l ++ OR id ∷ [] else (ops l ++ (ops r ++ BIN id ∷ [])))) s (target s)
          go true e b k = and_runs (let same : operator ≡ sign_and_and = grind (arith, nat_tests) in ap is_conditional same) s
          go false e true k = or_runs (let same : operator ≡ sign_or_or = grind (arith, nat_tests) in ap is_conditional same) s
          go false e false k = bin_runs (cc (e, k)) s

    -- ---- new objects

    object_runs : (arguments : List ℕ) (class : ℕ) → part code argument_count id ≡ Some (length arguments) →
        part code made_with id ≡ Some arguments → (s : Stack) →
        Runs code ((ALLOC id ∷ flat_map ops arguments) ++ CONSTRUCT id ∷ []) s
        (with_left (if all_leave_one left arguments then One Object else Forgets) s)
    unfolding step asked with_left
    object_runs arguments class e are s = go (all_leave_one left arguments) refl
      where
        -- the object is there again, as it was
        again : Stack
        again = put Object (taken (dropped (length arguments) (with_all left arguments (put Object s))))

        built : Runs code (flat_map ops arguments ++ CONSTRUCT id ∷ []) (put Object s)
            (put Object (taken (dropped (length arguments) (with_all left arguments (put Object s)))))
        built =
            subst (λ (o : Option ℕ). Runs code (flat_map ops arguments ++ CONSTRUCT id ∷ []) (put Object s)
            (behind_arguments o (with_all left arguments (put Object s)))) e
            (behind (flat_map ops arguments) (CONSTRUCT id) (put Object s) (with_all left arguments (put Object s))
            (all_run arguments (put Object s)) (less_nothing (with_all left arguments (put Object s))) (λ r. tt))

        all : Runs code ((ALLOC id ∷ flat_map ops arguments) ++ CONSTRUCT id ∷ []) s
            (put Object (taken (dropped (length arguments) (with_all left arguments (put Object s)))))
        all = runs_new code id arguments s again are (less_nothing s) built

        go : (b : Bool) → all_leave_one left arguments ≡ b →
            Runs code ((ALLOC id ∷ flat_map ops arguments) ++ CONSTRUCT id ∷ []) s
            (with_left (if b then One Object else Forgets) s)
        go true k =
            subst (λ (t : Stack). Runs code ((ALLOC id ∷ flat_map ops arguments) ++ CONSTRUCT id ∷ []) s t)
            (ap (λ (t : Stack). put Object (taken t)) (all_dropped left arguments (put Object s) k)) all
        go false k =
            runs_less code ((ALLOC id ∷ flat_map ops arguments) ++ CONSTRUCT id ∷ []) s nothing again (less_nothing _) all

    part_runs : (arguments : List ℕ) (s : Stack) →
        Runs code (flat_map ops arguments) s (with_left (left_by_part left arguments) s)
    part_runs arguments s =
        runs_less code (flat_map ops arguments) s (with_left (left_by_part left arguments) s) (with_all left arguments s)
        (part_less left arguments s) (all_run arguments s)

    new_runs : (arguments : List ℕ) (b : Binding) → part code argument_count id ≡ Some (length arguments) →
        part code made_with id ≡ Some arguments → (s : Stack) → Runs code (new_ops ops id arguments b) s (with_left (left_by_new left arguments b) s)
    unfolding new_ops left_by_new
    new_runs arguments (ClassNamed class) e are s = object_runs arguments class e are s
    new_runs arguments Plain e are s = part_runs arguments s
    new_runs arguments (Local k) e are s = part_runs arguments s
    new_runs arguments (Field k) e are s = part_runs arguments s
    new_runs arguments (Static k) e are s = part_runs arguments s
    new_runs arguments Length e are s = part_runs arguments s
    new_runs arguments (Method t) e are s = part_runs arguments s
    new_runs arguments (StaticMethod t) e are s = part_runs arguments s
    new_runs arguments (Builtin t) e are s = part_runs arguments s

    -- ---- calls

    any_receiver : (object : Option ℕ) → Any code (receiver_ops ops id object)
    unfolding receiver_ops asked
    any_receiver None = any_op code (THIS id) refl (λ r. tt)
    any_receiver (Some x) = any_part x

    module _ (object : Option ℕ) (arguments : List ℕ) (are : part code arguments_of id ≡ Some arguments) where
      asks : (op : Op) → asked code op ≡ with_parts code id (part code arguments_of id) →
          asked code op ≡ with_parts code id (Some arguments)
      asks op e = e ∙ ap (with_parts code id) are

      any_builtin : (method : ℕ) → Any code (builtin_ops ops id object arguments method)
      unfolding builtin_ops asked
      any_builtin method =
          any_if code (method == managed_memory_enter_private_memory) _ _
          (any_asked (ENTER id) arguments (asks (ENTER id) refl) (λ r. tt))
          (any_if code (method == managed_memory_execute_in_area_of) _ _
          (any_behind (flat_map ops arguments) (EXECUTEIN id) (any_all arguments) refl (λ r. tt))
          (any_if code (method == managed_memory_alloc_in_same) _ _
          (any_behind (flat_map ops arguments) (SAME id) (any_all arguments) refl (λ r. tt))
          (any_if code (method == services_set_ceiling) _ _
          (any_asked (SETCEILING id) arguments (asks (SETCEILING id) refl) (λ r. tt))
          (any_if code (method == trace_print) _ _
          (any_behind (flat_map ops arguments) (PRINT id) (any_all arguments) refl (λ r. tt))
          (any_if code (method == device_read) _ _
          (any_asked (READ id) arguments (asks (READ id) refl) (λ r. tt))
          (any_if code (method == mission_request_termination) _ _
          (any_behind (receiver_ops ops id object) (TERMINATE id) (any_receiver object) refl (λ r. tt))
          (any_if code (method == aperiodic_handler_release) _ _
          (any_behind (receiver_ops ops id object) (RELEASE id) (any_receiver object) refl (λ r. tt))
          (any_if code (is_among method (periodic_handler_register ∷ aperiodic_handler_register ∷ [])) _ _
          (any_behind (receiver_ops ops id object) (REGISTER id) (any_receiver object) refl (λ r. tt)) (any_none code)))))))))

      read_less : (xs : List ℕ) (s : Stack) → Less (with_left (left_by_read left xs) s) (put Unknown (taken (with_all left xs s)))
      unfolding left_by_read with_left
      read_less [] s = less_nothing _
      read_less (x ∷ []) s = one_less (left x) (λ a. Unknown) (λ t. Unknown) s (λ a. refl)
      read_less (x ∷ y ∷ xs) s = less_nothing _

      read_runs : (s : Stack) →
          Runs code (flat_map ops arguments ++ READ id ∷ []) s (with_left (left_by_read left arguments) s)
      unfolding step asked
      read_runs s =
          runs_less code (flat_map ops arguments ++ READ id ∷ []) s (with_left (left_by_read left arguments) s)
          (put Unknown (taken (with_all left arguments s))) (read_less arguments s)
          (asked_behind (READ id) arguments (asks (READ id) refl) (λ r. tt) s)

      same_less : (xs : List ℕ) (s : Stack) →
          Less (with_left (left_by_same left xs) s) (put Unknown (taken (taken (with_all left xs s))))
      unfolding left_by_same with_left
      same_less [] s = less_nothing _
      same_less (x ∷ []) s = less_nothing _
      same_less (x ∷ y ∷ []) s = two_less (left x) (left y) (λ a b. Unknown) (λ t. Unknown) s (λ a b. refl)
      same_less (x ∷ y ∷ z ∷ xs) s = less_nothing _

      same_runs : (s : Stack) →
          Runs code (flat_map ops arguments ++ SAME id ∷ []) s (with_left (left_by_same left arguments) s)
      unfolding step asked
      same_runs s =
          runs_less code (flat_map ops arguments ++ SAME id ∷ []) s (with_left (left_by_same left arguments) s)
          (put Unknown (taken (taken (with_all left arguments s)))) (same_less arguments s)
          (behind (flat_map ops arguments) (SAME id) s (with_all left arguments s) (all_run arguments s)
          (less_nothing _) (λ r. tt))

      builtin_runs : (method : ℕ) (s : Stack) →
          Runs code (builtin_ops ops id object arguments method) s (with_left (left_by_builtin left arguments method) s)
      unfolding builtin_ops left_by_builtin with_left
      builtin_runs method s = go (method == device_read) refl (method == managed_memory_alloc_in_same) refl
        where
          go : (b : Bool) → (method == device_read) ≡ b → (c : Bool) → (method == managed_memory_alloc_in_same) ≡ c →
              Runs code (builtin_ops ops id object arguments method) s
              (with_left
              (if b then left_by_read left arguments else (if c then left_by_same left arguments else Forgets)) s)
          go true e c k =
              (let read : method ≡ device_read = grind (arith, nat_tests) in
              subst (λ (m : ℕ). Runs code (builtin_ops ops id object arguments m) s
              (with_left (left_by_read left arguments) s)) (sym read) (read_runs s))
          go false e true k =
              (let same : method ≡ managed_memory_alloc_in_same = grind (arith, nat_tests) in
              subst (λ (m : ℕ). Runs code (builtin_ops ops id object arguments m) s
              (with_left (left_by_same left arguments) s)) (sym same) (same_runs s))
          go false e false k = (any_builtin method).is s

      -- behind the object of a call, and behind the arguments that come then
      abbrev behind_receiver : Option ℕ → Stack → Stack
      behind_receiver None s = put Object s
      behind_receiver (Some x) s = with_left (left x) s

      receiver_runs : (o : Option ℕ) (s : Stack) → Runs code (receiver_ops ops id o) s (behind_receiver o s)
      unfolding receiver_ops step asked
      receiver_runs None s = runs_op code (THIS id) s (less_nothing s) (λ r. tt)
      receiver_runs (Some x) s = parts x s

      static_less : (gives : Bool) (s : Stack) →
          Less (with_left (left_by_method left arguments gives) s)
          (with_result gives (dropped (length arguments) (with_all left arguments s)))
      unfolding left_by_method with_left
      static_less gives s = go gives (all_leave_one left arguments) refl
        where
          go : (g b : Bool) → all_leave_one left arguments ≡ b →
              Less (with_left (if g && b then One Unknown else Forgets) s)
              (with_result g (dropped (length arguments) (with_all left arguments s)))
          go true true e =
              subst (λ (t : Stack). Less (put Unknown s) (put Unknown t)) (sym (all_dropped left arguments s e))
              (less_same (put Unknown s))
          go true false e = less_nothing _
          go false b e = less_nothing _

      taken_less : (a : Known) (s : Stack) (b : Bool) → all_leave_one left arguments ≡ b →
          Less (with_left (if b then One Unknown else Forgets) s)
          (put Unknown (taken (dropped (length arguments) (with_all left arguments (put a s)))))
      unfolding with_left
      taken_less a s true e =
          subst (λ (t : Stack). Less (put Unknown s) (put Unknown (taken t)))
          (sym (all_dropped left arguments (put a s) e)) (less_same (put Unknown s))
      taken_less a s false e = less_nothing _

      receiver_less : (o : Option ℕ) (gives : Bool) (s : Stack) →
          Less (with_left (left_by_method left arguments (gives && leaves_receiver left o)) s)
          (with_result gives (taken (dropped (length arguments) (with_all left arguments (behind_receiver o s)))))
      unfolding left_by_method leaves_receiver leaves_one with_left
      receiver_less o false s = less_nothing _
      receiver_less None true s = taken_less Object s (all_leave_one left arguments) refl
      receiver_less (Some x) true s = go (left x)
        where
          go : (l : Left) →
              Less (with_left (if leaves_one l && all_leave_one left arguments then One Unknown else Forgets) s)
              (put Unknown (taken (dropped (length arguments) (with_all left arguments (with_left l s)))))
          go (One a) = taken_less a s (all_leave_one left arguments) refl
          go Forgets = less_nothing _
          go Zero = less_nothing _
          go (Two a b) = less_nothing _
          go (Four a b c d) = less_nothing _

      module _ (count : part code argument_count id ≡ Some (length arguments)) where
        static_runs : (t : Target) → binding code id ≡ StaticMethod t → (s : Stack) →
            Runs code (flat_map ops arguments ++ CALLSTATIC id ∷ []) s
            (with_left (left_by_method left arguments t.gives) s)
        unfolding step asked leaves_value
        static_runs t bound s =
            runs_less code (flat_map ops arguments ++ CALLSTATIC id ∷ []) s
            (with_left (left_by_method left arguments t.gives) s)
            (step code (CALLSTATIC id) (with_all left arguments s)) less
            (behind (flat_map ops arguments) (CALLSTATIC id) s (with_all left arguments s) (all_run arguments s)
            (less_nothing _) (λ r. tt))
          where
            reported : Stack
            reported = with_left (left_by_method left arguments t.gives) s

            less : Less (with_left (left_by_method left arguments t.gives) s)
                (step code (CALLSTATIC id) (with_all left arguments s))
            less =
                subst (λ (g : Bool). Less reported
                (behind_static_call g (part code argument_count id) (with_all left arguments s)))
                (sym (ap leaves_value bound))
                (subst (λ (o : Option ℕ). Less reported (behind_static_call t.gives o (with_all left arguments s)))
                (sym count) (static_less t.gives s))

        method_runs : (t : Target) → binding code id ≡ Method t → (s : Stack) →
            Runs code (receiver_ops ops id object ++ (flat_map ops arguments ++ CALL id ∷ [])) s
            (with_left (left_by_method left arguments (t.gives && leaves_receiver left object)) s)
        unfolding step asked leaves_value
        method_runs t bound s =
            runs_less code (receiver_ops ops id object ++ (flat_map ops arguments ++ CALL id ∷ [])) s reported
            (step code (CALL id) (with_all left arguments (behind_receiver object s))) less
            (runs_then code (receiver_ops ops id object) (flat_map ops arguments ++ CALL id ∷ []) s
            (behind_receiver object s) (step code (CALL id) (with_all left arguments (behind_receiver object s)))
            (receiver_runs object s)
            (behind (flat_map ops arguments) (CALL id) (behind_receiver object s)
            (with_all left arguments (behind_receiver object s)) (all_run arguments (behind_receiver object s))
            (less_nothing _) (λ r. tt)))
          where
            reported : Stack
            reported = with_left (left_by_method left arguments (t.gives && leaves_receiver left object)) s

            less : Less (with_left (left_by_method left arguments (t.gives && leaves_receiver left object)) s)
                (step code (CALL id) (with_all left arguments (behind_receiver object s)))
            less =
                subst (λ (g : Bool). Less reported
                (behind_call g (part code argument_count id) (with_all left arguments (behind_receiver object s))))
                (sym (ap leaves_value bound))
                (subst (λ (o : Option ℕ). Less reported
                (behind_call t.gives o (with_all left arguments (behind_receiver object s)))) (sym count)
                (receiver_less object t.gives s))

        call_runs : (b : Binding) → binding code id ≡ b → (s : Stack) →
            Runs code (call_ops ops id object arguments b) s (with_left (left_by_call left object arguments b) s)
        unfolding call_ops left_by_call with_left
        call_runs (Builtin t) bound s = builtin_runs t.id s
        call_runs (Method t) bound s = method_runs t bound s
        call_runs (StaticMethod t) bound s = static_runs t bound s
        call_runs Plain bound s = (any_none code).is s
        call_runs (Local k) bound s = (any_none code).is s
        call_runs (Field k) bound s = (any_none code).is s
        call_runs (Static k) bound s = (any_none code).is s
        call_runs Length bound s = (any_none code).is s
        call_runs (ClassNamed class) bound s = (any_none code).is s

    -- ---- super parts, of the node itself or of a class that has no arguments

    any_super : (node : ℕ) (arguments : List ℕ) → ((s : Stack) → Less (asked code (PARAMS node)) (with_all left arguments s))
        → (b : Binding) → Any code (super_ops ops node arguments b)
    unfolding super_ops asked
    any_super node arguments l (ClassNamed superclass) =
        any_if code (is_user_class superclass) _ _
        (any_behind (THIS node ∷ flat_map ops arguments) (SUPER node)
        (any_then code (THIS node ∷ []) (flat_map ops arguments) (any_op code (THIS node) refl (λ r. tt)) (any_all arguments)) refl (λ r. tt))
        (any_if code (has_form superclass) _ _
        (any_of code (flat_map ops arguments ++ PARAMS node ∷ []) (λ s. (
          step code (PARAMS node) (with_all left arguments s),
          behind (flat_map ops arguments) (PARAMS node) s (with_all left arguments s) (all_run arguments s) (l s) (λ r. tt),
        ))) (any_none code))
    any_super node arguments l Plain = any_none code
    any_super node arguments l (Local k) = any_none code
    any_super node arguments l (Field k) = any_none code
    any_super node arguments l (Static k) = any_none code
    any_super node arguments l Length = any_none code
    any_super node arguments l (Method t) = any_none code
    any_super node arguments l (StaticMethod t) = any_none code
    any_super node arguments l (Builtin t) = any_none code

    any_super_call : (arguments : List ℕ) → part code arguments_of id ≡ Some arguments →
        Any code (super_ops ops id arguments (binding code id))
    unfolding asked
    any_super_call arguments are =
        any_super id arguments (λ s.
        subst (λ (o : Option (List ℕ)). Less (with_parts code id o) (with_all left arguments s)) (sym are)
        (less_all left arguments nothing s (less_nothing s))) (binding code id)

    any_unwritten : (class : ℕ) → Any code (unwritten_super_ops code ops class)
    unfolding unwritten_super_ops asked
    any_unwritten class = go (class_node code.program class) refl
      where
        go : (o : Option ℕ) → class_node code.program class ≡ o →
            Any code (elim o as (λ z. List Op) [ None ↦ [] | Some node ↦ super_ops ops node [] (binding code node) ])
        go None e = any_none code
        go (Some node) e =
            any_super node [] (λ s.
            subst (λ (o : Option (List ℕ)). Less (with_parts code node o) s) (sym (bare.is class node e)) (less_nothing s))
            (binding code node)

    any_literals : (fields : List Declared) → Any code (map (λ (f : Declared). INIT f.node) fields)
    unfolding asked
    any_literals [] = any_none code
    any_literals (f ∷ fs) =
        any_then code (INIT f.node ∷ []) (map (λ (f : Declared). INIT f.node) fs) (any_op code (INIT f.node) refl (λ r. tt))
        (any_literals fs)

    any_first : (super_call : Option ℕ) (class : ℕ) →
        Any code (elim super_call as (λ z. List Op) [ None ↦ unwritten_super_ops code ops class | Some call ↦ ops call ])
    any_first None class = any_unwritten class
    any_first (Some call) class = any_part call

    any_constructor : (super_call : Option ℕ) (body : List Op) → Any code body →
        Any code (constructor_ops code ops id super_call body)
    unfolding constructor_ops literal_ops asked
    any_constructor super_call body a = go (class_of_body code.program id)
      where
        go : (o : Option ℕ) →
            Any code (elim o as (λ z. List Op) [
              | None ↦ []
              | Some class ↦
                  (elim super_call as (λ z. List Op)
                  [ None ↦ unwritten_super_ops code ops class | Some call ↦ ops call ])
                  ++ (literal_ops code class ++ (body ++ LEAVE ∷ []))
            ])
        go None = any_none code
        go (Some class) =
            any_then code _ _ (any_first super_call class)
            (any_then code _ _ (any_literals (fields_with_literal code.program class))
            (any_behind body LEAVE a refl (λ r. tt)))

    -- ---- statements

    any_assign : (value : ℕ) (b : Binding) (target : Node) → Any code (assign_ops ops id value b target)
    unfolding assign_ops asked
    any_assign value (Local k) (SimpleName position name) = any_behind (ops value) (STORE id) (any_part value) refl (λ r. tt)
    any_assign value (Field k) (SimpleName position name) =
        any_behind (THIS id ∷ ops value) (PUT id)
        (any_then code (THIS id ∷ []) (ops value) (any_op code (THIS id) refl (λ r. tt)) (any_part value)) refl (λ r. tt)
    any_assign value (Field k) (FieldAccess position name object) =
        any_then code (ops object) (ops value ++ PUT id ∷ []) (any_part object)
        (any_behind (ops value) (PUT id) (any_part value) refl (λ r. tt))
    any_assign value (Static k) target = any_behind (ops value) (PUTSTATIC id) (any_part value) refl (λ r. tt)
    any_assign value b (Element position array index) =
        any_then code (ops array) (ops index ++ (ops value ++ PUTELEM id ∷ [])) (any_part array)
        (any_then code (ops index) (ops value ++ PUTELEM id ∷ []) (any_part index)
        (any_behind (ops value) (PUTELEM id) (any_part value) refl (λ r. tt)))
    any_assign value b target = any_none code

    any_assignment : (target value : ℕ) (o : Option Node) →
        Any code (elim o as (λ z. List Op)
        [ None ↦ [] | Some node ↦ assign_ops ops id value (binding code target) node ])
    any_assignment target value None = any_none code
    any_assignment target value (Some node) = any_assign value (binding code target) node

    any_return : (value : Option ℕ) → Any code (return_ops ops id value)
    unfolding return_ops asked
    any_return None = any_op code LEAVE refl (λ r. tt)
    any_return (Some value) = any_behind (ops value) (LEAVEWITH id) (any_part value) refl (λ r. tt)

    any_method : (result_type : ℕ) (body : Option ℕ) → Any code (method_ops code ops result_type body)
    unfolding method_ops asked
    any_method result_type None = any_none code
    any_method result_type (Some body) =
        any_if code (is_same_type (type_at code.program.nodes result_type) void_type) _ _
        (any_behind (ops body) LEAVE (any_part body) refl (λ r. tt)) (any_part body)

    any_statement : (expression : ℕ) →
        Any code (ops expression ++ (if leaves_value (binding code expression) then DROP id ∷ [] else []))
    unfolding asked
    any_statement expression =
        any_then code (ops expression) _ (any_part expression)
        (any_if code (leaves_value (binding code expression)) (DROP id ∷ []) [] (any_op code (DROP id) refl (λ r. tt)) (any_none code))

    -- ---- all of them

    module _ (node : Node) (there : slice_get code.program.nodes id ≡ Some node) where
      read_part : {A : Type 0} (reading : Node → Option A) → part code reading id ≡ reading node
      read_part reading = ap (λ (o : Option Node). o >>= reading) there

    node_runs : (node : Node) → slice_get code.program.nodes id ≡ Some node → (s : Stack) →
        Runs code (node_ops code ops id node) s (with_left (left_by_node code left id node) s)
    unfolding node_ops left_by_node step asked with_left operator_of right_operand array_length arguments_of argument_count made_with
    node_runs (Number position value is_negative) there s = literal_runs s
    node_runs (True position) there s = literal_runs s
    node_runs (False position) there s = literal_runs s
    node_runs (Null position) there s = literal_runs s
    node_runs (This position) there s = runs_op code (THIS id) s (less_nothing s) (λ r. tt)
    node_runs (SimpleName position name) there s = name_runs (binding code id) s
    node_runs (FieldAccess position name object) there s = access_runs object (binding code id) s
    node_runs (Element position array index) there s = element_runs array index s
    node_runs (Parenthesized position inner) there s = parts inner s
    node_runs (Unary position operator operand) there s =
        unary_runs operator operand (read_part (Unary position operator operand) there operator_of) s
    node_runs (Binary position operator l r) there s =
        binary_runs operator l r (read_part (Binary position operator l r) there operator_of)
        (read_part (Binary position operator l r) there right_operand) s
    node_runs (New position name_position name arguments) there s =
        new_runs arguments (binding code id) (read_part (New position name_position name arguments) there argument_count)
        (read_part (New position name_position name arguments) there made_with) s
    node_runs (NewArray position element size) there s =
        new_array_runs size (read_part (NewArray position element size) there array_length) s
    node_runs (Call position name object arguments) there s =
        call_runs object arguments (read_part (Call position name object arguments) there arguments_of)
        (read_part (Call position name object arguments) there argument_count) (binding code id) refl s
    node_runs (Cast position name_position name operand) there s = cast_runs operand s
    node_runs (LocalNode position name flags declared_type) there s = (any_op code (ZERO id) refl (λ r. tt)).is s
    node_runs (LocalWithValue position name_position name flags declared_type value) there s =
        (any_behind (ops value) (STORE id) (any_part value) refl (λ r. tt)).is s
    node_runs (Assign position target value) there s =
        (any_assignment target value (slice_get code.program.nodes target)).is s
    node_runs (ExpressionStatement position expression) there s = (any_statement expression).is s
    node_runs (Block position statements) there s = (any_all statements).is s
    node_runs (If position condition then_part else_part) there s =
        (any_behind (ops condition) (IF id) (any_part condition) refl (λ r. tt)).is s
    node_runs (While position condition body) there s =
        (any_behind (ops condition) (LOOP id) (any_part condition) refl (λ r. tt)).is s
    node_runs (For position first condition step body) there s =
        (any_then code (ops first) (ops condition ++ LOOP id ∷ []) (any_part first)
        (any_behind (ops condition) (LOOP id) (any_part condition) refl (λ r. tt))).is s
    node_runs (Return position value) there s = (any_return value).is s
    node_runs (MethodNode position name flags result_type parameters body) there s = (any_method result_type body).is s
    node_runs (SuperCall position arguments) there s =
        (any_super_call arguments (read_part (SuperCall position arguments) there arguments_of)).is s
    node_runs (Constructor position name flags parameters super_call body) there s =
        (any_constructor super_call (ops body) (any_part body)).is s
    node_runs (Class position name flags header members) there s = (any_constructor None [] (any_none code)).is s
    node_runs _ there s = (any_none code).is s

    next_runs : (s : Stack) → Runs code (next_ops code id ops) s (with_left (next_left code id left) s)
    unfolding next_ops next_left with_left
    next_runs s = go (slice_get code.program.nodes id) refl
      where
        go : (o : Option Node) → slice_get code.program.nodes id ≡ o →
            Runs code (elim o as (λ z. List Op) [ None ↦ [] | Some node ↦ node_ops code ops id node ]) s
            (with_left (elim o as (λ z. Left) [ None ↦ Forgets | Some node ↦ left_by_node code left id node ]) s)
        go None e = (any_none code).is s
        go (Some node) e = node_runs node e s

-- ---- by recursion over the nodes

module _ (code : Code) (bare : ClassesAskNothing code) where
  abbrev NodeRuns : ℕ → Type 0
  NodeRuns id = (s : Stack) → Runs code (ops_of code id) s (with_left (left_by code id) s)

  parts_run : (id : ℕ) → ((x : ℕ) → x < id → NodeRuns x) → PartsRun code bare id
  unfolding with_left
  parts_run id h x s = go (nat_lt x id) refl
    where
      go : (b : Bool) → nat_lt x id ≡ b →
          Runs code (if b then ops_of code x else []) s (with_left (if b then left_by code x else Forgets) s)
      go true e = h x (let l : x < id = grind (arith, nat_tests) in l) s
      go false e = (any_none code).is s

  one_runs : (id : ℕ) → ((x : ℕ) → x < id → NodeRuns x) → NodeRuns id
  unfolding ops_of left_by
  one_runs id h s =
      subst (λ (xs : List Op). Runs code xs s (with_left (left_by code id) s)) (sym (by_smaller-is [] (next_ops code) id))
      (subst (λ (l : Left). Runs code (next_ops code id (below [] id (ops_of code))) s (with_left l s))
      (sym (by_smaller-is Forgets (next_left code) id)) (next_runs code bare id (parts_run id h) s))

  all_below : (n : ℕ) (x : ℕ) → x < n → NodeRuns x
  all_below zero x l = absurd (omega (arith, l))
  all_below (suc n) x l = one_runs x (λ y k. all_below n y (omega (arith, l, k)))

  -- the operations of a node go through
  pub nodes_run : (id : ℕ) (s : Stack) → Runs code (ops_of code id) s (with_left (left_by code id) s)
  nodes_run id s = all_below (suc id) id (omega arith) s

  pub nodes_run_anywhere : (id : ℕ) → Any code (ops_of code id)
  nodes_run_anywhere id = any_of code (ops_of code id) (λ s. (with_left (left_by code id) s, nodes_run id s))
