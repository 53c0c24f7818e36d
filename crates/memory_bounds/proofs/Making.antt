-- A frame that has made an object and evaluates the arguments of its constructor: no operation takes the object before the
-- constructor is called on it.
use Rattle.std.specs.Prelude.{Option, Some, slice_get}
use Rattle.std.proofs.Common.{◌≡◌, ◌⊎◌, ℕ, zero, suc, ◌≤◌, List, [], ◌∷◌, ◌++◌, length, refl, sym, ◌∙◌, ap, subst, arith, inl, inr, append_assoc}
use Rattle.scj_base.specs.declared.values.Value.{Value}
use Rattle.scj_base.specs.declared.values.Value.TheVariants.{At}
use Rattle.scj_model.specs.declared.operations.Op.{Op}
use Rattle.scj_model.specs.declared.operations.Op.TheVariants.{Push as PUSH, This as THIS, Load as LOAD, Get as GET, GetStatic as GETSTATIC, Length as LENGTH, Elem as ELEM, Unary as UNARY, Bin as BIN, And as AND, Or as OR, Alloc as ALLOC, Construct as CONSTRUCT, AllocArray as ALLOCARRAY, Call as CALL, CallStatic as CALLSTATIC, Cast as CAST, Read as READ, Same as SAME, If as IF, Loop as LOOP, LeaveWith as LEAVEWITH, Leave as LEAVE, Super as SUPER}
use Rattle.scj_model.specs.Code.{Code, binding, part}
use Rattle.scj_model.specs.State.{Frame}
use Rattle.scj_model.specs.Ops.{ops_of, right_operand}
use Rattle.scj_model.specs.Operations.{bound_class, super_count}
use Rattle.certain_faults.specs.declared.known.Known.{Known}
use Rattle.certain_faults.specs.declared.known.Known.TheVariants.{Exactly}
use Rattle.certain_faults.proofs.Stacks.{Less, Stack, nothing}
use Rattle.certain_faults.proofs.Passes.{PassesTo, passes_less, step}
use Rattle.certain_faults.proofs.RunsOfNodes.{ClassesAskNothing, nodes_run}
use Rattle.certain_faults.proofs.Frames.{AnyInFront, ExplainedBy, GoesInFront, Holds, InFront}
use Rattle.memory_bounds.proofs.Above.{AllLack, Kept, pops}
use Rattle.memory_bounds.proofs.Marks.{Under, next_under, somewhere, takes}

-- ---- where the object lies among the operands

module _ (u : ℕ) where
  -- an object that the operands above and those below don't name lies between them alone
  only_there : (above lower : List Value) (k : ℕ) → AllLack u above → AllLack u lower →
      slice_get (above ++ At u ∷ lower) k ≡ Some (At u) → k ≡ length above
  only_there [] lower zero a l e = refl
  only_there [] lower (suc k) a l e = absurd (elsewhere lower k l e)
    where
      elsewhere : (vs : List Value) (k : ℕ) → AllLack u vs → slice_get vs k ≡ Some (At u) → ⊥
      elsewhere [] k l e = cc (e)
      elsewhere (v ∷ vs) zero l e = (let same : v ≡ At u = cc (e) in l.0 same)
      elsewhere (v ∷ vs) (suc k) l e = elsewhere vs k l.1 e
  only_there (v ∷ above) lower zero a l e = absurd (let same : v ≡ At u = cc (e) in a.0 same)
  only_there (v ∷ above) lower (suc k) a l e = ap suc (only_there above lower k a.1 l e)

-- ---- the operations before the call of the constructor

-- `Inner` is said of the operations of the arguments of a super call
module _ (code : Code) (Inner : Op → Type 0) where
  abbrev pub AllInner : List Op → Type 0
  AllInner [] = Unit {0}
  AllInner (op ∷ ops) = Inner op × AllInner ops

  pub inner_both : (xs ys : List Op) → AllInner xs → AllInner ys → AllInner (xs ++ ys)
  inner_both [] ys a b = b
  inner_both (x ∷ xs) ys a b = (a.0, inner_both xs ys a.1 b)

  -- a part that comes next in the arguments of a super call stands there too
  abbrev pub KeepsInner : Type 0
  KeepsInner =
      (op : Op) (id x : ℕ) → (op ≡ AND id) ⊎ (op ≡ OR id) → Inner op → part code right_operand id ≡ Some x →
      AllInner (ops_of code x)

-- `OnWay` is said of classes whose constructors come to a form
module _ (code : Code) (Inner : Op → Type 0) (OnWay : ℕ → Type 0) where
  -- the operations come to the call of a constructor on the object u, which the arguments lie above. Where it is the own
  -- object they stand in a super call
  pub record Pending (u : ℕ) (this : Option ℕ) (rest : List Op) (s : Stack) : Type 0 where
    pub front : List Op
    pub last : Op
    pub more : List Op
    pub id : ℕ
    pub is : rest ≡ front ++ last ∷ more
    pub calls : (last ≡ CONSTRUCT id) ⊎ (last ≡ SUPER id)
    pub class : ℕ
    pub bound : bound_class (binding code id) ≡ Some class
    pub way : OnWay class
    pub passes : PassesTo code (Some (super_count code id, u)) front s
    pub calm : this ≡ Some u → AllInner code Inner front

  module _ (u : ℕ) (this : Option ℕ) where
    abbrev P : List Op → Stack → Type 0
    P = Pending u this

    pub pending_less : (rest : List Op) (s t : Stack) → Less s t → Pending u this rest s → Pending u this rest t
    pending_less rest s t l p = record {
      front = p.front;
      last = p.last;
      more = p.more;
      id = p.id;
      is = p.is;
      calls = p.calls;
      class = p.class;
      bound = p.bound;
      way = p.way;
      passes = passes_less code (Some (super_count code p.id, u)) p.front s t l p.passes;
      calm = p.calm;
    }

    -- nothing is known of the object where nothing is known
    pub nothing_pending : (rest : List Op) → Pending u this rest nothing → ⊥
    nothing_pending rest p =
        none (somewhere u code (super_count code p.id) p.front nothing p.passes)
      where
        none : Under u 0 nothing → ⊥
        none k = (let e = k.is in cc (e))

    module _ (bare : ClassesAskNothing code) (keeps : KeepsInner code Inner) (rest : List Op) (op : Op)
        (calm : this ≡ Some u → Inner op) where
      right_pending : (id : ℕ) → (op ≡ AND id) ⊎ (op ≡ OR id) → GoesInFront code (Pending u this) rest id
      right_pending id which x e s p = record {
        front = ops_of code x ++ p.front;
        last = p.last;
        more = p.more;
        id = p.id;
        is =
            ap (λ (ys : List Op). ops_of code x ++ ys) p.is
            ∙ sym (append_assoc (ops_of code x) p.front (p.last ∷ p.more));
        calls = p.calls;
        class = p.class;
        bound = p.bound;
        way = p.way;
        passes = (nodes_run code bare x s).is (Some (super_count code p.id, u)) p.front p.passes;
        calm = λ t. inner_both code Inner (ops_of code x) p.front (keeps op id x which (calm t) e) (p.calm t);
      }

      any_pending : AnyInFront code (Pending u this) rest
      any_pending xs a p = absurd (nothing_pending rest p)

      -- what the operation needs besides; it doesn't leave
      pub pending_in_front : (s : Stack) → Pending u this rest (step code op s) → (x : Op) → op ≡ x →
          InFront code (Pending u this) ⊥ rest x
      unfolding step
      pending_in_front s p (AND id) e = right_pending id (inl e)
      pending_in_front s p (OR id) e = right_pending id (inr e)
      pending_in_front s p (IF id) e = any_pending
      pending_in_front s p (LOOP id) e = any_pending
      pending_in_front s p (LEAVEWITH id) e =
          nothing_pending rest (subst (λ (t : Stack). Pending u this rest t) (ap (λ o. step code o s) e) p)
      pending_in_front s p LEAVE e =
          nothing_pending rest (subst (λ (t : Stack). Pending u this rest t) (ap (λ o. step code o s) e) p)
      pending_in_front s p _ e = tt

  -- ---- what the next operation takes

  module _ (u n : ℕ) (front : List Op) (s : Stack) where
    -- the operation takes no more than what lies above an operand that it leaves
    taking : (op : Op) → PassesTo code (Some (n, u)) front (step code op s) → pops code op ≤ takes code op
    unfolding step pops takes
    taking (PUSH id) p = omega arith
    taking (THIS id) p = omega arith
    taking (LOAD id) p = omega arith
    taking (GET id) p = omega arith
    taking (GETSTATIC id) p = omega arith
    taking (LENGTH id) p = omega arith
    taking (ELEM id) p = omega arith
    taking (UNARY id) p = omega arith
    taking (BIN id) p = omega arith
    taking (AND id) p = omega arith
    taking (OR id) p = omega arith
    taking (ALLOC id) p = omega arith
    taking (CONSTRUCT id) p = omega arith
    taking (ALLOCARRAY id) p = omega arith
    taking (CALL id) p = omega arith
    taking (CALLSTATIC id) p = omega arith
    taking (CAST id) p = omega arith
    taking (READ id) p = omega arith
    taking (SAME id) p = omega arith
    taking _ p = absurd (none (somewhere u code n front nothing p))
      where
        none : Under u 0 nothing → ⊥
        none k = (let e = k.is in cc (e))

  -- ---- the frame

  -- a frame that holds the object under the arguments that there are so far
  pub record Holder (u : ℕ) (f : Frame) : Type 0 where
    pub lower : List Value
    pub lacks : AllLack u lower
    pub kept : Kept u (At u ∷ lower) f.this 0 f
    pub by : ExplainedBy (Pending u f.this) f

  -- what comes next in it: an operation that takes what lies above, or the call of a constructor on the object
  pub data Next (u : ℕ) (f : Frame) (lower : List Value) (op : Op) (rest : List Op) (s : Stack) : Type 0 where
    Goes_on : Kept u (At u ∷ lower) f.this (pops code op) f → Pending u f.this rest (step code op s) →
        (f.this ≡ Some u → Inner op) → Next u f lower op rest s
    Calls_on : (id class : ℕ) (above : List Value) → (op ≡ CONSTRUCT id) ⊎ (op ≡ SUPER id) →
        bound_class (binding code id) ≡ Some class → OnWay class → AllLack u above →
        f.operands ≡ above ++ At u ∷ lower → super_count code id ≡ length above → Next u f lower op rest s

  module _ (u : ℕ) (f : Frame) (op : Op) (rest : List Op) (ops : f.rest ≡ op ∷ rest) where
    pub next_of : (h : Holder u f) → Next u f h.lower op rest h.by.stack
    unfolding pops takes
    next_of h = of p.front refl
      where
        p : Pending u f.this f.rest h.by.stack
        p = h.by.passes

        -- where the reference is known there the object lies
        at : (k : ℕ) → h.by.stack k ≡ Exactly (At u) → k ≡ length h.kept.above
        at k e =
            only_there u h.kept.above h.lower k h.kept.lack h.lacks
            (ap (λ (vs : List Value). slice_get vs k) (sym h.kept.is)
            ∙ subst (λ (known : Known). Holds known (slice_get f.operands k)) e (h.by.shadows.is k))

        of : (front : List Op) → p.front ≡ front → Next u f h.lower op rest h.by.stack
        of [] e =
            Calls_on p.id p.class h.kept.above (by p.calls) p.bound p.way h.kept.lack h.kept.is
            (at (super_count code p.id) marked)
          where
            first : p.last ≡ op
            first =
                (let same : p.last ∷ p.more ≡ op ∷ rest =
                sym (p.is ∙ ap (λ (xs : List Op). xs ++ p.last ∷ p.more) e) ∙ ops in cc (same))

            by : (p.last ≡ CONSTRUCT p.id) ⊎ (p.last ≡ SUPER p.id) → (op ≡ CONSTRUCT p.id) ⊎ (op ≡ SUPER p.id)
            by (inl q) = inl (sym first ∙ q)
            by (inr q) = inr (sym first ∙ q)

            marked : h.by.stack (super_count code p.id) ≡ Exactly (At u)
            marked = subst (λ (xs : List Op). PassesTo code (Some (super_count code p.id, u)) xs h.by.stack) e p.passes
        of (x ∷ front) e =
            with_pops
            (let least = taking u (super_count code p.id) front h.by.stack op whole.2 in
            let most = enough in
            omega (arith, least, most))
          where
            same : x ∷ (front ++ p.last ∷ p.more) ≡ op ∷ rest
            same = sym (p.is ∙ ap (λ (xs : List Op). xs ++ p.last ∷ p.more) e) ∙ ops

            head : x ≡ op
            head = cc (same)

            tail : front ++ p.last ∷ p.more ≡ rest
            tail = cc (same)

            whole : PassesTo code (Some (super_count code p.id, u)) (op ∷ front) h.by.stack
            whole =
                subst (λ (y : Op). PassesTo code (Some (super_count code p.id, u)) (y ∷ front) h.by.stack) head
                (subst (λ (xs : List Op). PassesTo code (Some (super_count code p.id, u)) xs h.by.stack) e p.passes)

            all_calm : f.this ≡ Some u → AllInner code Inner (op ∷ front)
            all_calm t =
                subst (λ (y : Op). AllInner code Inner (y ∷ front)) head (subst (AllInner code Inner) e (p.calm t))

            enough : takes code op ≤ length h.kept.above
            enough =
                (let k = next_under u code (super_count code p.id) op front h.by.stack whole in
                let place = at k.index k.is in
                let least = k.enough in
                omega (arith, place, least))

            with_pops : pops code op ≤ length h.kept.above → Next u f h.lower op rest h.by.stack
            with_pops le =
                Goes_on (record {
                  locals = h.kept.locals;
                  above = h.kept.above;
                  lack = h.kept.lack;
                  is = h.kept.is;
                  enough = inr le;
                  is_this = h.kept.is_this;
                })
                (record {
                  front = front;
                  last = p.last;
                  more = p.more;
                  id = p.id;
                  class = p.class;
                  bound = p.bound;
                  way = p.way;
                  is = sym tail;
                  calls = p.calls;
                  passes = whole.2;
                  calm = λ t. (all_calm t).1;
                }) (λ t. (all_calm t).0)
