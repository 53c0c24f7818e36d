-- The body that an operation runs is one of its targets, and a private memory has the size that is written.
use Rattle.std.specs.Prelude.{Option, Some, None, Contains, max, pos, slice_get, unsigned_abs, codes, if◌then◌else◌}
use Rattle.std.specs.Int.{is_negative}
use Rattle.std.proofs.Common.{◌≡◌, ℕ, suc, ◌≤◌, ◌==◌, List, [], ◌∷◌, Bool, true, false, true≢false, refl, sym, ◌∙◌, ap, subst, arith}
use Rattle.std.proofs.lemmas.Bool.Decides.{nat_tests}
use Rattle.scj_base.specs.declared.faults.RunFault.{RunFault}
use Rattle.scj_base.specs.declared.faults.RunFault.TheVariants.{NegativeSize, NullPointer}
use Rattle.scj_base.specs.declared.values.Value.{Value}
use Rattle.scj_base.specs.declared.values.Value.TheVariants.{Int, Null, At}
use Rattle.scj_rules.specs.declared.views.Body.{Body}
use Rattle.scj_rules.specs.declared.views.Body.TheVariants.{Written, Empty}
use Rattle.scj_rules.specs.declared.views.SlotKind.{SlotKind}
use Rattle.scj_rules.specs.Bodies.{body_named, number_literal}
use Rattle.scj_rules.specs.Layout.{element_kind}
use Rattle.scj_rules.specs.ScopeRules.{defined_by_chain}
use Rattle.scj_rules.specs.Words.{◌>>=◌}
use Rattle.scj_rules.proofs.ChainLemmas.{same_number}
use Rattle.scj_rules.proofs.ReportLemmas.{Contains-head, Contains-tail}
use Rattle.accepted_laws.proofs.Tools.{some_inj}
use Rattle.scj_model.specs.declared.operations.Op.{Op}
use Rattle.scj_model.specs.declared.operations.Op.TheVariants.{Alloc as ALLOC, AllocArray as ALLOCARRAY, Enter as ENTER, ExecuteIn as EXECUTEIN}
use Rattle.scj_model.specs.Code.{Code, binding, part}
use Rattle.scj_model.specs.State.{Object, Frame}
use Rattle.scj_model.specs.Memory.{new_elements, new_slots}
use Rattle.scj_model.specs.Effects.{Effect, Makes, Calls, Opens, Faults, Stuck, given, pop, as_int, as_object, new_frame}
use Rattle.scj_model.specs.Operations.{Environment, alloc_array_op, alloc_op, bound_class, enter_op, execute_in_op, with_run}
use Rattle.memory_needs.specs.Targets.{entered_targets, runs_under}
use Rattle.memory_needs.specs.Need.{Table, greatest}
use Rattle.memory_bounds.specs.Weights.{op_weight, size_node}
use Rattle.memory_bounds.proofs.Counted.{Knows, RunnableIsTyped, SizeIsWritten, is_memory_fault, of_fault, runs_are}
use Rattle.memory_bounds.proofs.RunBodies.{op_targets, opens_memory}

-- ---- a body that every table counts among others is one of them

same_body : Body → Body → Bool
same_body (Written m) (Written n) = m == n
same_body Empty Empty = true
same_body _ _ = false

itself_same : (b : Body) → same_body b b ≡ true
unfolding same_body
itself_same (Written m) = grind (arith, nat_tests)
itself_same Empty = refl

same_is : (b c : Body) → same_body b c ≡ true → b ≡ c
unfolding same_body
same_is (Written m) (Written n) e = ap (λ k. Written k) (same_number m n e)
same_is Empty Empty e = refl
same_is (Written m) Empty e = absurd (true≢false (sym e))
same_is Empty (Written n) e = absurd (true≢false (sym e))

abbrev only_of : Body → Table
only_of b c = if same_body b c then 1 else 0

found_among : (b : Body) (bodies : List Body) → 1 ≤ greatest (only_of b) bodies → Contains bodies b
unfolding greatest
found_among b [] l = absurd (omega (arith, l))
found_among b (c ∷ cs) l = of (same_body b c) refl l (λ k. found_among b cs k)
  where
    of : (t : Bool) → same_body b c ≡ t → 1 ≤ max (if t then 1 else 0) (greatest (only_of b) cs) →
        (1 ≤ greatest (only_of b) cs → Contains cs b) → Contains (c ∷ cs) b
    of true e k later = subst (Contains (c ∷ cs)) (sym (same_is b c e)) (Contains-head c cs)
    of false e k later = Contains-tail c cs b (later (omega (arith, k)))

pub among : (bodies : List Body) (b : Body) → ((t : Table) → t b ≤ greatest t bodies) → Contains bodies b
among bodies b h =
    (let one : only_of b b ≡ 1 = ap (λ (t : Bool). if t then 1 else 0) (itself_same b) in
    let k = h (only_of b) in
    found_among b bodies (omega (arith, one, k)))

-- ---- what an effect runs

-- where the operation enters a memory with a number, that is its size
abbrev pub HasSize : Code → Op → ℕ → Type 0
HasSize code op bytes =
    (id n : ℕ) → op ≡ ENTER id → part code size_node id >>= part code number_literal ≡ Some n → bytes ≡ n

pub record RunsRight (code : Code) (op : Op) (e : Effect) : Type 0 where
  pub calls : (h g : Frame) → e ≡ Calls h g → Contains (op_targets code op) g.body
  pub opens : (h g : Frame) (scope bytes : ℕ) → e ≡ Opens h g scope bytes →
      (opens_memory op ≡ true) × Contains (op_targets code op) g.body × HasSize code op bytes
  -- and it is no fault of memory of its own accord
  pub full : (x : RunFault) → e ≡ Faults x → is_memory_fault x ≡ false

-- by what is counted, whatever the table is
pub by_tables : (code : Code) (op : Op) (e : Effect) → ((t : Table) → op_weight code t op ≡ greatest t (op_targets code op)) →
    ((t : Table) → Knows code t op e) → RunsRight code op e
by_tables code op e weighs knows = record {
  calls = λ h g q. among (op_targets code op) g.body (λ t.
      (let k = (knows t).is.calls h g q in let w = weighs t in omega (arith, k, w)));
  opens = λ h g scope bytes q. absurd
      (let k = ((knows (λ b. suc bytes)).is.opens h g scope bytes q).0 in omega (arith, k));
  full = (knows (λ b. 0)).full;
}

called : Effect → Option Body
called (Calls h g) = Some g.body
called _ = None

opened : Effect → Option (Body × ℕ)
opened (Opens h g scope bytes) = Some (g.body, bytes)
opened _ = None

module _ (code : Code) (op : Op) where
  none : (e : Effect) → ((h g : Frame) → e ≡ Calls h g → ⊥) →
      ((h g : Frame) (scope bytes : ℕ) → e ≡ Opens h g scope bytes → ⊥) →
      ((x : RunFault) → e ≡ Faults x → is_memory_fault x ≡ false) → RunsRight code op e
  none e calls opens full = record {
    calls = λ h g q. absurd (calls h g q);
    opens = λ h g scope bytes q. absurd (opens h g scope bytes q);
    full = full;
  }

  stuck : RunsRight code op Stuck
  stuck = none Stuck (λ h g q. cc (q)) (λ h g scope bytes q. cc (q)) (λ x q. absurd (cc (q)))

  fault : (x : RunFault) → is_memory_fault x ≡ false → RunsRight code op (Faults x)
  fault x other =
      none (Faults x) (λ h g q. cc (q)) (λ h g scope bytes q. cc (q)) (λ y q. of_fault x y q other)

  makes : (h : Frame) (class : ℕ) (values : List Value) → RunsRight code op (Makes h class values)
  makes h class values =
      none (Makes h class values) (λ k g q. cc (q)) (λ k g scope bytes q. cc (q)) (λ x q. absurd (cc (q)))

  calls : (h g : Frame) → Contains (op_targets code op) g.body → RunsRight code op (Calls h g)
  unfolding called
  calls h g c = record {
    calls = λ k x q. subst (Contains (op_targets code op)) (some_inj g.body x.body (ap called q)) c;
    opens = λ k x scope bytes q. absurd (cc (q));
    full = λ x q. absurd (cc (q));
  }

  opens : (h g : Frame) (scope bytes : ℕ) → opens_memory op ≡ true → Contains (op_targets code op) g.body →
      HasSize code op bytes → RunsRight code op (Opens h g scope bytes)
  unfolding opened
  opens h g scope bytes enters c size = record {
    calls = λ k x q. absurd (cc (q));
    opens = λ k x other n q.
        (let same : (g.body, bytes) ≡ (x.body, n) = some_inj (g.body, bytes) (x.body, n) (ap opened q) in
        let both = subst (λ (z : Body × ℕ). Contains (op_targets code op) z.0 × HasSize code op z.1) same (c, size) in
        (enters, both.0, both.1));
    full = λ y q. absurd (cc (q));
  }

  with_given : {A : Type 0} (o : Option A) (next : A → Effect) → ((x : A) → o ≡ Some x → RunsRight code op (next x)) →
      RunsRight code op (given o next)
  with_given None next k = stuck
  with_given (Some x) next k = k x refl

  with_pop : (f : Frame) (next : Value → Frame → Effect) →
      ((v : Value) (h : Frame) → f.operands ≡ v ∷ h.operands → RunsRight code op (next v h)) →
      RunsRight code op (pop f next)
  with_pop f next k = of f.operands refl
    where
      of : (vs : List Value) → f.operands ≡ vs →
          RunsRight code op (elim vs [ [] ↦ Stuck | value ∷ below ↦ next value (record f { operands = below }) ])
      of [] e = stuck
      of (v ∷ vs) e = k v (record f { operands = vs }) e

  with_object : (v : Value) (next : ℕ → Effect) → ((r : ℕ) → v ≡ At r → RunsRight code op (next r)) →
      RunsRight code op (as_object v next)
  with_object (At r) next k = k r refl
  with_object Null next k = fault NullPointer refl
  with_object _ next k = stuck

-- ---- ENTER, EXECUTEIN and ALLOCARRAY

module _ (code : Code) (world : Environment) (f : Frame) (id : ℕ) where
  module _ (typed : RunnableIsTyped code world f id) where
    run_among : (r : ℕ) (o : Object) (body : Body) → slice_get f.operands 0 ≡ Some (At r) →
        world.object_at r ≡ Some o → body_named code.program o.class (codes "run") ≡ Some body →
        Contains (entered_targets code.program (binding code id)) body
    run_among r o body head there is =
        (let k = typed.typed r o head there in
        subst (λ (bs : List Body). Contains bs body) (sym typed.targets)
        (among (runs_under code.program typed.on) body (λ t. runs_are code.program t typed.on o.class body k.0 k.1 is)))

    pub execute_runs : RunsRight code (EXECUTEIN id) (execute_in_op code world f id)
    unfolding op_targets new_frame
    execute_runs =
        with_pop code (EXECUTEIN id) f _ (λ runnable g top.
        with_pop code (EXECUTEIN id) g _ (λ object h q.
        with_object code (EXECUTEIN id) object _ (λ place e.
        with_object code (EXECUTEIN id) runnable _ (λ r at_.
        with_given code (EXECUTEIN id) (world.object_at place) _ (λ there w.
        with_given code (EXECUTEIN id) (world.object_at r) _ (λ o found.
        with_given code (EXECUTEIN id) (body_named code.program o.class (codes "run")) _ (λ body is.
        calls code (EXECUTEIN id) h (new_frame code body (Some id) (Some r) there.area [])
        (run_among r o body
        (ap (λ (vs : List Value). slice_get vs 0) top ∙ ap (λ (v : Value). Some v) at_) found is))))))))

    pub enter_runs : SizeIsWritten code f id 1 size_node → RunsRight code (ENTER id) (enter_op code world f id)
    unfolding op_targets opens_memory new_frame
    enter_runs written =
        with_pop code (ENTER id) f _ (λ runnable g top.
        with_pop code (ENTER id) g _ (λ size h q.
        with_object code (ENTER id) runnable _ (λ r at_. ints g h runnable size top q r at_ size refl)))
      where
        ints : (g h : Frame) (runnable size : Value) → f.operands ≡ runnable ∷ g.operands →
            g.operands ≡ size ∷ h.operands → (r : ℕ) → runnable ≡ At r → (v : Value) → v ≡ size →
            RunsRight code (ENTER id) (as_int v (λ bytes.
            if is_negative bytes then Faults NegativeSize
            else with_run code world r (λ o body. given (defined_by_chain code.program o.class) (λ scope.
            Opens h (new_frame code body (Some id) (Some r) h.area []) scope (unsigned_abs bytes)))))
        ints g h runnable size top q r at_ (Int z) e = of (is_negative z)
          where
            head : slice_get f.operands 1 ≡ Some (Int z)
            head =
                ap (λ (vs : List Value). slice_get vs 1) top
                ∙ (ap (λ (vs : List Value). slice_get vs 0) q ∙ ap (λ (v : Value). Some v) (sym e))

            sized : HasSize code (ENTER id) (unsigned_abs z)
            sized k n same is =
                (let one : id ≡ k = cc (same) in
                let there : part code size_node id >>= part code number_literal ≡ Some n =
                ap (λ i. part code size_node i >>= part code number_literal) one ∙ is in
                let number : z ≡ pos n =
                (let a = some_inj (Int z) (Int (pos n)) (sym head ∙ written.written n there) in cc (a)) in
                ap unsigned_abs number)

            of : (b : Bool) → RunsRight code (ENTER id) (if b then Faults NegativeSize
                else with_run code world r (λ o body. given (defined_by_chain code.program o.class) (λ scope.
                Opens h (new_frame code body (Some id) (Some r) h.area []) scope (unsigned_abs z))))
            of true = fault code (ENTER id) NegativeSize refl
            of false =
                with_given code (ENTER id) (world.object_at r) _ (λ o found.
                with_given code (ENTER id) (body_named code.program o.class (codes "run")) _ (λ body is.
                with_given code (ENTER id) (defined_by_chain code.program o.class) _ (λ scope named.
                opens code (ENTER id) h (new_frame code body (Some id) (Some r) h.area []) scope (unsigned_abs z) refl
                (run_among r o body
                (ap (λ (vs : List Value). slice_get vs 0) top ∙ ap (λ (v : Value). Some v) at_) found is) sized)))
        ints g h runnable size top q r at_ Null e = stuck code (ENTER id)
        ints g h runnable size top q r at_ _ e = stuck code (ENTER id)

  pub alloc_runs : RunsRight code (ALLOC id) (alloc_op code f id)
  alloc_runs =
      with_given code (ALLOC id) (bound_class (binding code id)) _ (λ class e.
      makes code (ALLOC id) f class (new_slots code.program class))

  pub alloc_array_runs : RunsRight code (ALLOCARRAY id) (alloc_array_op code f id)
  alloc_array_runs =
      with_given code (ALLOCARRAY id) (bound_class (binding code id)) _ (λ class e.
      with_given code (ALLOCARRAY id) (element_kind code.program class) _ (λ kind k.
      with_pop code (ALLOCARRAY id) f _ (λ count g top. ints class kind g count)))
    where
      ints : (class : ℕ) (kind : SlotKind) (g : Frame) (v : Value) →
          RunsRight code (ALLOCARRAY id) (as_int v (λ n.
          if is_negative n then Faults NegativeSize else Makes g class (new_elements kind (unsigned_abs n))))
      ints class kind g (Int z) = of (is_negative z)
        where
          of : (b : Bool) → RunsRight code (ALLOCARRAY id)
              (if b then Faults NegativeSize else Makes g class (new_elements kind (unsigned_abs z)))
          of true = fault code (ALLOCARRAY id) NegativeSize refl
          of false = makes code (ALLOCARRAY id) g class (new_elements kind (unsigned_abs z))
      ints class kind g _ = stuck code (ALLOCARRAY id)
