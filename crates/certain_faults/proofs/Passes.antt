-- The operations that are left of a frame meet what is known of their operands: what each operation makes of that, and
-- that the operations of nodes, one after the other, go through.
use Rattle.std.specs.Prelude.{Option, Some, None, flat_map}
use Rattle.std.proofs.Common.{◌≡◌, ℕ, List, [], ◌∷◌, ◌++◌, Bool, true, false, inl, refl, sym, subst, append_assoc, if◌then◌else◌, inr, ◌∙◌, ◌⊎◌}
use Rattle.scj_tree.specs.declared.nodes.Node.{Node}
use Rattle.scj_tree.specs.declared.nodes.Node.TheVariants.{Call as CallNode, NewArray, SuperCall, New}
use Rattle.scj_tree.specs.Recursion.{below}
use Rattle.scj_model.specs.declared.operations.Op.{Op}
use Rattle.scj_model.specs.declared.operations.Op.TheVariants.{Push as PUSH, This as THIS, Load as LOAD, Get as GET, GetStatic as GETSTATIC, Length as LENGTH, Elem as ELEM, Unary as UNARY, Bin as BIN, And as AND, Or as OR, Alloc as ALLOC, Construct as CONSTRUCT, AllocArray as ALLOCARRAY, Call as CALL, CallStatic as CALLSTATIC, Cast as CAST, Enter as ENTER, Same as SAME, SetCeiling as SETCEILING, Read as READ, Params as PARAMS}
use Rattle.scj_model.specs.Code.{Code, binding, part}
use Rattle.scj_model.specs.Memory.{literal_value}
use Rattle.scj_model.specs.Ops.{leaves_value, right_operand, ops_of}
use Rattle.scj_model.specs.Operations.{operator_of, argument_count}
use Rattle.certain_faults.specs.declared.known.Known.{Known}
use Rattle.certain_faults.specs.declared.known.Known.TheVariants.{Unknown, Object, Exactly}
use Rattle.certain_faults.specs.declared.known.Left.{Left}
use Rattle.certain_faults.specs.declared.known.Left.TheVariants.{Forgets, Zero, One, Two, Four}
use Rattle.certain_faults.specs.Known.{unary_known, binary_known, left_by_literal, left_by}
use Rattle.certain_faults.proofs.Stacks.{Stack, nothing, put, taken, dropped, with_left, with_all, NoMore, Less, less_nothing, less_then, less_top, less_put, less_taken, less_dropped, less_left, unary_no_more, binary_no_more}
use Rattle.scj_base.specs.declared.values.Value.TheVariants.{At}

-- ---- parts of nodes

unfoldable pub array_length : Node → Option ℕ
array_length (NewArray position element length) = Some length
array_length _ = None

unfoldable pub arguments_of : Node → Option (List ℕ)
arguments_of (CallNode position name object arguments) = Some arguments
arguments_of (SuperCall position arguments) = Some arguments
arguments_of _ = None

-- what a part of a node leaves
abbrev pub left_below : Code → ℕ → ℕ → Left
left_below code id = below Forgets id (left_by code)

abbrev pub part_left : Code → ℕ → Option ℕ → Left
part_left code id None = Forgets
part_left code id (Some x) = left_below code id x

abbrev pub with_parts : Code → ℕ → Option (List ℕ) → Stack
with_parts code id None = nothing
with_parts code id (Some xs) = with_all (left_below code id) xs nothing

-- ---- what an operation asks to be known, and what is known behind it

unfoldable pub asked : Code → Op → Stack
asked code (BIN id) = with_left (part_left code id (part code right_operand id)) nothing
asked code (ALLOCARRAY id) = with_left (part_left code id (part code array_length id)) nothing
asked code (READ id) = with_parts code id (part code arguments_of id)
asked code (ENTER id) = with_parts code id (part code arguments_of id)
asked code (SETCEILING id) = with_parts code id (part code arguments_of id)
asked code (PARAMS id) = with_parts code id (part code arguments_of id)
asked code _ = nothing

abbrev pub unary_by : Option ℕ → Known → Known
unary_by None a = Unknown
unary_by (Some operator) a = unary_known operator a

abbrev pub binary_by : Option ℕ → Known → Known → Known
binary_by None a b = Unknown
binary_by (Some operator) a b = binary_known operator a b

-- the right operand may come next: what is known behind it has to be known without it
abbrev pub behind_right : Left → Stack → Stack
behind_right (One a) s = put Unknown (taken s)
behind_right _ s = nothing

abbrev pub behind_arguments : Option ℕ → Stack → Stack
behind_arguments None s = nothing
behind_arguments (Some count) s = put Object (taken (dropped count s))

-- what a call gives, if anything, comes in the place of the arguments and of the object
abbrev pub with_result : Bool → Stack → Stack
with_result true s = put Unknown s
with_result false s = nothing

abbrev pub behind_call : Bool → Option ℕ → Stack → Stack
behind_call gives None s = nothing
behind_call gives (Some count) s = with_result gives (taken (dropped count s))

abbrev pub behind_static_call : Bool → Option ℕ → Stack → Stack
behind_static_call gives None s = nothing
behind_static_call gives (Some count) s = with_result gives (dropped count s)

unfoldable pub step : Code → Op → Stack → Stack
step code (PUSH id) s = with_left (left_by_literal (part code literal_value id)) s
step code (THIS id) s = put Object s
step code (LOAD id) s = put Unknown s
step code (GET id) s = put Unknown (taken s)
step code (GETSTATIC id) s = put Unknown s
step code (LENGTH id) s = put Unknown (taken s)
step code (ELEM id) s = put Unknown (taken (taken s))
step code (UNARY id) s = put (unary_by (part code operator_of id) (s 0)) (taken s)
step code (BIN id) s = put (binary_by (part code operator_of id) (s 1) (s 0)) (taken (taken s))
step code (AND id) s = behind_right (part_left code id (part code right_operand id)) s
step code (OR id) s = behind_right (part_left code id (part code right_operand id)) s
step code (ALLOC id) s = put Object s
step code (CONSTRUCT id) s = behind_arguments (part code argument_count id) s
step code (ALLOCARRAY id) s = put Object (taken s)
step code (CALL id) s = behind_call (leaves_value (binding code id)) (part code argument_count id) s
step code (CALLSTATIC id) s = behind_static_call (leaves_value (binding code id)) (part code argument_count id) s
step code (CAST id) s = put Unknown (taken s)
step code (READ id) s = put Unknown (taken s)
step code (SAME id) s = put Unknown (taken (taken s))
step code _ s = nothing

-- ---- more is known

unary_less : (o : Option ℕ) (a b : Known) → NoMore a b → NoMore (unary_by o a) (unary_by o b)
unary_less None a b h = inl refl
unary_less (Some operator) a b h = unary_no_more operator a b h

binary_less : (o : Option ℕ) (a b c d : Known) → NoMore a b → NoMore c d → NoMore (binary_by o a c) (binary_by o b d)
binary_less None a b c d h k = inl refl
binary_less (Some operator) a b c d h k = binary_no_more operator a b c d h k

right_less : (l : Left) (s t : Stack) → Less s t → Less (behind_right l s) (behind_right l t)
right_less Forgets s t h = less_nothing nothing
right_less Zero s t h = less_nothing nothing
right_less (One a) s t h = less_put Unknown (taken s) (taken t) (less_taken s t h)
right_less (Two a b) s t h = less_nothing nothing
right_less (Four a b c d) s t h = less_nothing nothing

arguments_less : (o : Option ℕ) (s t : Stack) → Less s t → Less (behind_arguments o s) (behind_arguments o t)
arguments_less None s t h = less_nothing nothing
arguments_less (Some count) s t h =
    less_put Object (taken (dropped count s)) (taken (dropped count t))
    (less_taken (dropped count s) (dropped count t) (less_dropped count s t h))

result_less : (gives : Bool) (s t : Stack) → Less s t → Less (with_result gives s) (with_result gives t)
result_less true s t h = less_put Unknown s t h
result_less false s t h = less_nothing nothing

call_less : (gives : Bool) (o : Option ℕ) (s t : Stack) → Less s t → Less (behind_call gives o s) (behind_call gives o t)
call_less gives None s t h = less_nothing nothing
call_less gives (Some count) s t h =
    result_less gives (taken (dropped count s)) (taken (dropped count t))
    (less_taken (dropped count s) (dropped count t) (less_dropped count s t h))

static_call_less : (gives : Bool) (o : Option ℕ) (s t : Stack) → Less s t →
    Less (behind_static_call gives o s) (behind_static_call gives o t)
static_call_less gives None s t h = less_nothing nothing
static_call_less gives (Some count) s t h =
    result_less gives (dropped count s) (dropped count t) (less_dropped count s t h)

-- ---- what is to be known behind operations

-- nothing, or that this operand is a reference to this object
abbrev pub Mark : Type 0
Mark = Option (ℕ × ℕ)

abbrev pub HasMark : Mark → Stack → Type 0
HasMark None s = Unit {0}
HasMark (Some m) s = s m.0 ≡ Exactly (At m.1)

pub mark_less : (m : Mark) (s t : Stack) → Less s t → HasMark m s → HasMark m t
mark_less None s t h k = tt
mark_less (Some m) s t h k = of (h.is m.0)
  where
    of : NoMore (s m.0) (t m.0) → t m.0 ≡ Exactly (At m.1)
    of (inl e) = absurd (let none : Unknown ≡ Exactly (At m.1) = sym e ∙ k in cc (none))
    of (inr e) = sym e ∙ k

-- the arguments of a `new`
unfoldable pub made_with : Node → Option (List ℕ)
made_with (New position name_position name arguments) = Some arguments
made_with _ = None

-- a `new` stands before its arguments and the call of its constructor
pub record BeginsNew (code : Code) (id : ℕ) (rest : List Op) : Type 0 where
  pub arguments : List ℕ
  pub are : part code made_with id ≡ Some arguments
  pub more : List Op
  pub is : rest ≡ flat_map (below [] id (ops_of code)) arguments ++ CONSTRUCT id ∷ more

abbrev pub Begins : Code → Op → List Op → Type 0
Begins code (ALLOC id) rest = BeginsNew code id rest
Begins code _ rest = Unit {0}

module _ (code : Code) where
  pub step_less : (op : Op) (s t : Stack) → Less s t → Less (step code op s) (step code op t)
  unfolding step
  step_less (PUSH id) s t h = less_left (left_by_literal (part code literal_value id)) s t h
  step_less (THIS id) s t h = less_put Object s t h
  step_less (LOAD id) s t h = less_put Unknown s t h
  step_less (GET id) s t h = less_put Unknown (taken s) (taken t) (less_taken s t h)
  step_less (GETSTATIC id) s t h = less_put Unknown s t h
  step_less (LENGTH id) s t h = less_put Unknown (taken s) (taken t) (less_taken s t h)
  step_less (ELEM id) s t h =
      less_put Unknown (taken (taken s)) (taken (taken t)) (less_taken (taken s) (taken t) (less_taken s t h))
  step_less (UNARY id) s t h =
      less_top (unary_by (part code operator_of id) (s 0)) (unary_by (part code operator_of id) (t 0)) (taken s)
      (taken t) (unary_less (part code operator_of id) (s 0) (t 0) (h.is 0)) (less_taken s t h)
  step_less (BIN id) s t h =
      less_top (binary_by (part code operator_of id) (s 1) (s 0)) (binary_by (part code operator_of id) (t 1) (t 0))
      (taken (taken s)) (taken (taken t))
      (binary_less (part code operator_of id) (s 1) (t 1) (s 0) (t 0) (h.is 1) (h.is 0))
      (less_taken (taken s) (taken t) (less_taken s t h))
  step_less (AND id) s t h = right_less (part_left code id (part code right_operand id)) s t h
  step_less (OR id) s t h = right_less (part_left code id (part code right_operand id)) s t h
  step_less (ALLOC id) s t h = less_put Object s t h
  step_less (CONSTRUCT id) s t h = arguments_less (part code argument_count id) s t h
  step_less (ALLOCARRAY id) s t h = less_put Object (taken s) (taken t) (less_taken s t h)
  step_less (CALL id) s t h = call_less (leaves_value (binding code id)) (part code argument_count id) s t h
  step_less (CALLSTATIC id) s t h = static_call_less (leaves_value (binding code id)) (part code argument_count id) s t h
  step_less (CAST id) s t h = less_put Unknown (taken s) (taken t) (less_taken s t h)
  step_less (READ id) s t h = less_put Unknown (taken s) (taken t) (less_taken s t h)
  step_less (SAME id) s t h =
      less_put Unknown (taken (taken s)) (taken (taken t)) (less_taken (taken s) (taken t) (less_taken s t h))
  step_less _ s t h = less_nothing nothing

  -- ---- operations in a row

  -- behind them the mark is known
  abbrev pub PassesTo : Mark → List Op → Stack → Type 0
  PassesTo m [] s = HasMark m s
  PassesTo m (op ∷ rest) s = Less (asked code op) s × Begins code op rest × PassesTo m rest (step code op s)

  abbrev pub Passes : List Op → Stack → Type 0
  Passes rest s = PassesTo None rest s

  pub passes_less : (m : Mark) (rest : List Op) (s t : Stack) → Less s t → PassesTo m rest s → PassesTo m rest t
  passes_less m [] s t h p = mark_less m s t h p
  passes_less m (op ∷ rest) s t h p = (
    less_then (asked code op) s t p.0 h,
    p.1,
    passes_less m rest (step code op s) (step code op t) (step_less op s t h) p.2,
  )

  -- operations behind which this is known, where that is known before them
  pub record Runs (xs : List Op) (s t : Stack) : Type 0 where
    pub is : (m : Mark) (rest : List Op) → PassesTo m rest t → PassesTo m (xs ++ rest) s

  pub runs_none : (s : Stack) → Runs [] s s
  runs_none s = record { is = λ m rest h. h }

  -- an operation that begins no `new`
  abbrev pub IsAnywhere : Op → Type 0
  IsAnywhere op = (rest : List Op) → Begins code op rest

  pub runs_op : (op : Op) (s : Stack) → Less (asked code op) s → IsAnywhere op → Runs (op ∷ []) s (step code op s)
  runs_op op s l a = record { is = λ m rest h. (l, a rest, h) }

  pub runs_then : (xs ys : List Op) (s t u : Stack) → Runs xs s t → Runs ys t u → Runs (xs ++ ys) s u
  runs_then xs ys s t u a b =
      record {
        is = λ m rest h. subst (λ (zs : List Op). PassesTo m zs s) (sym (append_assoc xs ys rest))
            (a.is m (ys ++ rest) (b.is m rest h));
      }

  pub runs_less : (xs : List Op) (s t u : Stack) → Less t u → Runs xs s u → Runs xs s t
  runs_less xs s t u l a = record { is = λ m rest h. a.is m rest (passes_less m rest t u l h) }

  -- a `new`, by its arguments and the call of its constructor
  pub runs_new : (id : ℕ) (arguments : List ℕ) (s t : Stack) → part code made_with id ≡ Some arguments →
      Less (asked code (ALLOC id)) s →
      Runs (flat_map (below [] id (ops_of code)) arguments ++ CONSTRUCT id ∷ []) (step code (ALLOC id) s) t →
      Runs (ALLOC id ∷ (flat_map (below [] id (ops_of code)) arguments ++ CONSTRUCT id ∷ [])) s t
  runs_new id arguments s t are l a =
      record {
        is = λ m rest h. (
          l,
          record {
            arguments = arguments;
            are = are;
            more = rest;
            is = append_assoc (flat_map (below [] id (ops_of code)) arguments) (CONSTRUCT id ∷ []) rest;
          },
          a.is m rest h,
        );
      }

  -- wherever they begin, and with nothing known behind them
  pub record Any (xs : List Op) : Type 0 where
    pub is : (s : Stack) → Runs xs s nothing

  pub any_of : (xs : List Op) → ((s : Stack) → (t : Stack) × Runs xs s t) → Any xs
  any_of xs h = record { is = λ s. runs_less xs s nothing (h s).0 (less_nothing (h s).0) (h s).1 }

  pub any_none : Any []
  any_none = any_of [] (λ s. (s, runs_none s))

  pub any_then : (xs ys : List Op) → Any xs → Any ys → Any (xs ++ ys)
  any_then xs ys a b = record { is = λ s. runs_then xs ys s nothing nothing (a.is s) (b.is nothing) }

  pub any_op : (op : Op) → asked code op ≡ nothing → IsAnywhere op → Any (op ∷ [])
  any_op op e a =
      any_of (op ∷ []) (λ s. (step code op s, runs_op op s (subst (λ t. Less t s) (sym e) (less_nothing s)) a))

  pub any_if : (b : Bool) (xs ys : List Op) → Any xs → Any ys → Any (if b then xs else ys)
  any_if true xs ys a c = a
  any_if false xs ys a c = c
