-- Where a reference is known behind an operation, it was known before the operation, under what that takes.
use Rattle.std.specs.Prelude.{Option, Some, None, if◌then◌else◌, slice_get}
use Rattle.std.proofs.Common.{◌≡◌, ℕ, zero, suc, ◌+◌, ◌≤◌, List, [], ◌∷◌, Bool, true, false, refl, ◌∙◌, ap, subst, arith}
use Rattle.scj_base.specs.declared.values.Value.{Value}
use Rattle.scj_base.specs.declared.values.Value.TheVariants.{At}
use Rattle.scj_model.specs.declared.operations.Op.{Op}
use Rattle.scj_model.specs.declared.operations.Op.TheVariants.{Push as PUSH, This as THIS, Load as LOAD, Get as GET, GetStatic as GETSTATIC, Length as LENGTH, Elem as ELEM, Unary as UNARY, Bin as BIN, And as AND, Or as OR, Alloc as ALLOC, Construct as CONSTRUCT, AllocArray as ALLOCARRAY, Call as CALL, CallStatic as CALLSTATIC, Cast as CAST, Read as READ, Same as SAME}
use Rattle.scj_model.specs.Code.{Code, binding, part}
use Rattle.scj_model.specs.Memory.{literal_value}
use Rattle.scj_model.specs.Ops.{leaves_value, right_operand}
use Rattle.scj_model.specs.Operations.{operator_of, argument_count, super_count}
use Rattle.certain_faults.specs.declared.known.Known.{Known}
use Rattle.certain_faults.specs.declared.known.Known.TheVariants.{Unknown, Exactly, Object}
use Rattle.certain_faults.specs.declared.known.Left.{Left}
use Rattle.certain_faults.specs.declared.known.Left.TheVariants.{Forgets, Zero, One, Two, Four}
use Rattle.certain_faults.specs.Known.{known, unary_known, binary_known, left_by_literal}
use Rattle.certain_faults.proofs.Stacks.{Stack, nothing, put, taken, dropped, with_left}
use Rattle.certain_faults.proofs.Passes.{PassesTo, behind_arguments, behind_call, behind_right, behind_static_call, binary_by, part_left, step, unary_by}
use Rattle.memory_bounds.proofs.Above.{binary_lacks, literal_in, unary_lacks}
use Rattle.scj_model.specs.Arithmetic.{unary_value, binary_value, divides_by_zero}

-- how many operands lie above one that the operation leaves where it is
unfoldable pub takes : Code → Op → ℕ
takes code (GET id) = 1
takes code (LENGTH id) = 1
takes code (ELEM id) = 2
takes code (UNARY id) = 1
takes code (BIN id) = 2
takes code (AND id) = 1
takes code (OR id) = 1
takes code (CONSTRUCT id) = super_count code id + 1
takes code (ALLOCARRAY id) = 1
takes code (CALL id) = super_count code id + 1
takes code (CALLSTATIC id) = super_count code id
takes code (CAST id) = 1
takes code (READ id) = 1
takes code (SAME id) = 2
takes code _ = 0

module _ (r : ℕ) where
  -- the reference is known under n operands
  pub record Under (n : ℕ) (s : Stack) : Type 0 where
    pub index : ℕ
    pub enough : n ≤ index
    pub is : s index ≡ Exactly (At r)

  abbrev pub Unmarked : Known → Type 0
  Unmarked k = k ≡ Exactly (At r) → ⊥

  under_taken : (n : ℕ) (s : Stack) → Under n (taken s) → Under (suc n) s
  under_taken n s u =
      record { index = suc u.index; enough = (let e = u.enough in omega (arith, e)); is = u.is }

  under_dropped : (count n : ℕ) (s : Stack) → Under n (dropped count s) → Under (n + count) s
  under_dropped zero n s u = record { index = u.index; enough = (let e = u.enough in omega (arith, e)); is = u.is }
  under_dropped (suc count) n s u = more (under_dropped count (suc n) s (under_taken n (dropped count s) u))
    where
      more : Under (suc n + count) s → Under (n + suc count) s
      more v = record { index = v.index; enough = (let e = v.enough in omega (arith, e)); is = v.is }

  under_put : (k : Known) (s : Stack) (m : ℕ) → Unmarked k → put k s m ≡ Exactly (At r) → Under 0 s
  under_put k s zero n e = absurd (n e)
  under_put k s (suc m) n e = record { index = m; enough = omega arith; is = e }

  never : (m : ℕ) → nothing m ≡ Exactly (At r) → ⊥
  never m e = cc (e)

  value_of : (v : Value) → Exactly v ≡ Exactly (At r) → v ≡ At r
  value_of v e = cc (e)

  known_unmarked : (o : Option Value) → ((v : Value) → o ≡ Some v → v ≡ At r → ⊥) → Unmarked (known o)
  unfolding known
  known_unmarked None n e = cc (e)
  known_unmarked (Some v) n e = n v refl (value_of v e)

  unary_unmarked : (o : Option ℕ) (k : Known) → Unmarked (unary_by o k)
  unfolding unary_known
  unary_unmarked None k e = cc (e)
  unary_unmarked (Some operator) (Exactly v) e =
      known_unmarked (unary_value operator v) (λ w q. unary_lacks r operator v w q) e
  unary_unmarked (Some operator) Unknown e = cc (e)
  unary_unmarked (Some operator) Object e = cc (e)

  binary_unmarked : (o : Option ℕ) (j k : Known) → Unmarked (binary_by o j k)
  unfolding binary_known
  binary_unmarked None j k e = cc (e)
  binary_unmarked (Some operator) (Exactly v) (Exactly w) e =
      of (divides_by_zero operator w) e
    where
      of : (b : Bool) → (if b then Unknown else known (binary_value operator v w)) ≡ Exactly (At r) → ⊥
      of true q = cc (q)
      of false q = known_unmarked (binary_value operator v w) (λ x h. binary_lacks r operator v w x h) q
  binary_unmarked (Some operator) Unknown k e = cc (e)
  binary_unmarked (Some operator) Object k e = cc (e)
  binary_unmarked (Some operator) (Exactly v) Unknown e = cc (e)
  binary_unmarked (Some operator) (Exactly v) Object e = cc (e)

  unknown : Unmarked Unknown
  unknown e = cc (e)

  object : Unmarked Object
  object e = cc (e)

  literal_before : (o : Option Value) (s : Stack) (m : ℕ) → ((v : Value) → o ≡ Some v → v ≡ At r → ⊥) →
      with_left (left_by_literal o) s m ≡ Exactly (At r) → Under 0 s
  unfolding with_left left_by_literal
  literal_before None s m n e = absurd (never m e)
  literal_before (Some v) s m n e = under_put (Exactly v) s m (λ q. n v refl (value_of v q)) e

  right_before : (l : Left) (s : Stack) (m : ℕ) → behind_right l s m ≡ Exactly (At r) → Under 1 s
  right_before (One a) s m e = under_taken 0 s (under_put Unknown (taken s) m unknown e)
  right_before Forgets s m e = absurd (never m e)
  right_before Zero s m e = absurd (never m e)
  right_before (Two a b) s m e = absurd (never m e)
  right_before (Four a b c d) s m e = absurd (never m e)

  here : (s : Stack) (m : ℕ) → s m ≡ Exactly (At r) → Under 0 s
  here s m e = record { index = m; enough = omega arith; is = e }

  module _ (code : Code) where
    counted : (id count : ℕ) (o : Option ℕ) → part code argument_count id ≡ o → o ≡ Some count →
        super_count code id ≡ count
    counted id count o p q = ap (λ (x : Option ℕ). elim x as (λ z. ℕ) [ None ↦ 0 | Some c ↦ c ]) (p ∙ q)

    as_many : (n k : ℕ) (s : Stack) → n ≡ k → Under n s → Under k s
    as_many n k s e u = subst (λ x. Under x s) e u

    arguments_before : (id : ℕ) (o : Option ℕ) (s : Stack) (m : ℕ) → part code argument_count id ≡ o →
        behind_arguments o s m ≡ Exactly (At r) → Under (super_count code id + 1) s
    arguments_before id None s m p e = absurd (never m e)
    arguments_before id (Some count) s m p e =
        as_many (1 + count) (super_count code id + 1) s
        (let c = counted id count (Some count) p refl in omega (arith, c))
        (under_dropped count 1 s (under_taken 0 (dropped count s)
        (under_put Object (taken (dropped count s)) m object e)))

    static_before : (gives : Bool) (id : ℕ) (o : Option ℕ) (s : Stack) (m : ℕ) → part code argument_count id ≡ o →
        behind_static_call gives o s m ≡ Exactly (At r) → Under (super_count code id) s
    static_before gives id None s m p e = absurd (never m e)
    static_before true id (Some count) s m p e =
        as_many (0 + count) (super_count code id) s
        (let c = counted id count (Some count) p refl in omega (arith, c))
        (under_dropped count 0 s (under_put Unknown (dropped count s) m unknown e))
    static_before false id (Some count) s m p e = absurd (never m e)

    call_before : (gives : Bool) (id : ℕ) (o : Option ℕ) (s : Stack) (m : ℕ) → part code argument_count id ≡ o →
        behind_call gives o s m ≡ Exactly (At r) → Under (super_count code id + 1) s
    call_before gives id None s m p e = absurd (never m e)
    call_before true id (Some count) s m p e =
        as_many (1 + count) (super_count code id + 1) s
        (let c = counted id count (Some count) p refl in omega (arith, c))
        (under_dropped count 1 s (under_taken 0 (dropped count s)
        (under_put Unknown (taken (dropped count s)) m unknown e)))
    call_before false id (Some count) s m p e = absurd (never m e)

    pub marked_before : (op : Op) (s : Stack) (m : ℕ) → step code op s m ≡ Exactly (At r) → Under (takes code op) s
    unfolding step takes
    marked_before (PUSH id) s m e =
        literal_before (part code literal_value id) s m (λ v q. literal_in r (slice_get code.program.nodes id) v q) e
    marked_before (THIS id) s m e = under_put Object s m object e
    marked_before (LOAD id) s m e = under_put Unknown s m unknown e
    marked_before (GET id) s m e = under_taken 0 s (under_put Unknown (taken s) m unknown e)
    marked_before (GETSTATIC id) s m e = under_put Unknown s m unknown e
    marked_before (LENGTH id) s m e = under_taken 0 s (under_put Unknown (taken s) m unknown e)
    marked_before (ELEM id) s m e =
        under_taken 1 s (under_taken 0 (taken s) (under_put Unknown (taken (taken s)) m unknown e))
    marked_before (UNARY id) s m e =
        under_taken 0 s
        (under_put (unary_by (part code operator_of id) (s 0)) (taken s) m
        (unary_unmarked (part code operator_of id) (s 0)) e)
    marked_before (BIN id) s m e =
        under_taken 1 s (under_taken 0 (taken s)
        (under_put (binary_by (part code operator_of id) (s 1) (s 0)) (taken (taken s)) m
        (binary_unmarked (part code operator_of id) (s 1) (s 0)) e))
    marked_before (AND id) s m e = right_before (part_left code id (part code right_operand id)) s m e
    marked_before (OR id) s m e = right_before (part_left code id (part code right_operand id)) s m e
    marked_before (ALLOC id) s m e = under_put Object s m object e
    marked_before (CONSTRUCT id) s m e = arguments_before id (part code argument_count id) s m refl e
    marked_before (ALLOCARRAY id) s m e = under_taken 0 s (under_put Object (taken s) m object e)
    marked_before (CALL id) s m e =
        call_before (leaves_value (binding code id)) id (part code argument_count id) s m refl e
    marked_before (CALLSTATIC id) s m e =
        static_before (leaves_value (binding code id)) id (part code argument_count id) s m refl e
    marked_before (CAST id) s m e = under_taken 0 s (under_put Unknown (taken s) m unknown e)
    marked_before (READ id) s m e = under_taken 0 s (under_put Unknown (taken s) m unknown e)
    marked_before (SAME id) s m e =
        under_taken 1 s (under_taken 0 (taken s) (under_put Unknown (taken (taken s)) m unknown e))
    marked_before _ s m e = absurd (never m e)

    -- the reference is known somewhere as long as it comes to be known at a place
    pub somewhere : (n : ℕ) (ops : List Op) (s : Stack) → PassesTo code (Some (n, r)) ops s → Under 0 s
    somewhere n [] s p = here s n p
    somewhere n (op ∷ ops) s p =
        let u = somewhere n ops (step code op s) p.2 in
        let v = marked_before op s u.index u.is in
        record { index = v.index; enough = omega arith; is = v.is }

    -- it lies under what the next operation takes
    pub next_under : (n : ℕ) (op : Op) (ops : List Op) (s : Stack) → PassesTo code (Some (n, r)) (op ∷ ops) s →
        Under (takes code op) s
    next_under n op ops s p =
        let u = somewhere n ops (step code op s) p.2 in marked_before op s u.index u.is
