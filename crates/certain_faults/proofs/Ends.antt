-- The operation of a node that is certain to end with a fault ends with it, in each state that a run of an accepted
-- program comes to.
use Rattle.std.specs.Prelude.{Option, Some, None, slice_get, ℤ, pos, ◌==◌, nat_lt}
use Rattle.std.proofs.Common.{◌≡◌, ℕ, ◌<◌, List, [], ◌∷◌, Bool, true, false, refl, sym, ap, ◌∙◌, subst, arith, if◌then◌else◌}
use Rattle.std.proofs.lemmas.Bool.Decides.{nat_tests}
use Rattle.scj_base.specs.declared.faults.RunFault.{RunFault}
use Rattle.scj_base.specs.declared.values.Value.{Value}
use Rattle.scj_base.specs.declared.values.Value.TheVariants.{Int}
use Rattle.scj_builtins.specs.Framework.{mission_sequencer, periodic_handler, managed_memory_enter_private_memory, services_set_ceiling, device_read}
use Rattle.scj_tree.specs.declared.nodes.Node.{Node}
use Rattle.scj_tree.specs.declared.nodes.Node.TheVariants.{Binary, Call, NewArray, SuperCall}
use Rattle.scj_tree.specs.Forest.{AllBelow}
use Rattle.scj_tree.specs.Shape.{children, optional}
use Rattle.scj_rules.specs.declared.typing.Binding.{Binding}
use Rattle.scj_rules.specs.declared.typing.Binding.TheVariants.{Plain, Local, Field, Static, Length, Class as ClassNamed, Method, StaticMethod, Builtin}
use Rattle.scj_rules.specs.Words.{◌>>=◌}
use Rattle.scj_rules.specs.Classes.{is_user_class}
use Rattle.scj_rules.specs.Types.{has_form}
use Rattle.accepted_laws.proofs.TypesBelow.{BehindChildren, below-right}
use Rattle.scj_model.specs.declared.operations.Op.{Op}
use Rattle.scj_model.specs.declared.operations.Op.TheVariants.{Bin as BIN, AllocArray as ALLOCARRAY, Enter as ENTER, SetCeiling as SETCEILING, Read as READ, Params as PARAMS}
use Rattle.scj_model.specs.Code.{Code, binding, part}
use Rattle.scj_model.specs.State.{Frame}
use Rattle.scj_model.specs.Ops.{right_operand}
use Rattle.scj_model.specs.Effects.{Effect, Goes, SetsHidden, pop, pop_from, pop_all}
use Rattle.scj_model.specs.Operations.{Environment, effect_of, bound_class, operator_of, periodic_parameters, right_parameters}
use Rattle.certain_faults.specs.declared.known.Known.{Known}
use Rattle.certain_faults.specs.declared.known.Known.TheVariants.{Unknown}
use Rattle.certain_faults.specs.declared.known.Left.{Left}
use Rattle.certain_faults.specs.declared.known.Left.TheVariants.{Forgets, Zero, One, Two, Four}
use Rattle.certain_faults.specs.Known.{left_by}
use Rattle.certain_faults.specs.Faults.{port_fault, size_fault, ceiling_fault, times_fault, storage_fault, priority_fault, periodic_fault, parameters_fault, aperiodic_fault, form_fault, super_fault, call_fault, fault_at_node, certain_fault, call_operation, operation_of, FaultsFor}
use Rattle.certain_faults.proofs.Stacks.{Stack, nothing, put, with_left, with_all, Less}
use Rattle.certain_faults.proofs.Passes.{array_length, arguments_of, left_below, part_left, with_parts, asked}
use Rattle.certain_faults.proofs.Frames.{Holds, Shadows}
use Rattle.certain_faults.proofs.Meets.{Ends, Operands, operands_are, ends_stuck, ends_given, ends_pop, none_some, bin_ends, array_ends, read_ends, enter_ends, ceiling_ends, periodic_ends, parameters_end}

-- ---- the numbers of a form, whatever they are

module _ (fault : RunFault) (r : ℕ) (g : Frame) (kp ka kb kc kd ks : Known) where
  six : (p a b c d s : Value) → Holds kp (Some p) → Holds ka (Some a) → Holds kb (Some b) → Holds kc (Some c) →
      Holds kd (Some d) → Holds ks (Some s) →
      priority_fault kp (times_fault ka kb kc kd (storage_fault ks)) ≡ Some fault →
      Ends fault (periodic_parameters g r (p ∷ a ∷ b ∷ c ∷ d ∷ s ∷ []))
  six (Int p) (Int a) (Int b) (Int c) (Int d) (Int s) hp ha hb hc hd hs e =
      periodic_ends fault r g kp ka kb kc kd ks p a b c d s hp ha hb hc hd hs e
  six (Int p) (Int a) (Int b) (Int c) (Int d) _ hp ha hb hc hd hs e = ends_stuck fault
  six (Int p) (Int a) (Int b) (Int c) _ s hp ha hb hc hd hs e = ends_stuck fault
  six (Int p) (Int a) (Int b) _ d s hp ha hb hc hd hs e = ends_stuck fault
  six (Int p) (Int a) _ c d s hp ha hb hc hd hs e = ends_stuck fault
  six (Int p) _ b c d s hp ha hb hc hd hs e = ends_stuck fault
  six _ a b c d s hp ha hb hc hd hs e = ends_stuck fault

module _ (fault : RunFault) (kp ks : Known) (f : Frame) (next : ℤ → ℤ → Effect) where
  two : (p s : Value) → Holds kp (Some p) → Holds ks (Some s) → priority_fault kp (storage_fault ks) ≡ Some fault →
      Ends fault (right_parameters (p ∷ s ∷ []) next)
  two (Int p) (Int s) hp hs e =
      parameters_end fault 0 f kp Unknown Unknown Unknown Unknown ks p (pos 0) (pos 0) (pos 0) (pos 0) s hp tt tt tt tt
      hs next e
  two (Int p) _ hp hs e = ends_stuck fault
  two _ s hp hs e = ends_stuck fault

module _ (fault : RunFault) (f : Frame) (kp ks : Known) (x : Operands (put ks (put kp nothing)) f.operands)
    (e : priority_fault kp (storage_fault ks) ≡ Some fault) where
  two_end : (next : Frame → ℤ → ℤ → Effect) → Ends fault (pop_all 2 f (λ values g. right_parameters values (next g)))
  two_end next =
      ends_pop fault (put ks (put kp nothing)) f
      (λ v g. pop g (λ w k. right_parameters (w ∷ v ∷ []) (next k))) x (λ v g hv y.
      ends_pop fault (put kp nothing) g (λ w k. right_parameters (w ∷ v ∷ []) (next k)) y
      (λ w k hw z. two fault kp ks f (next k) w v hw hv e))

module _ (fault : RunFault) (f : Frame) (r : ℕ) (kp ka kb kc kd ks : Known)
    (x : Operands (put ks (put kd (put kc (put kb (put ka (put kp nothing)))))) f.operands)
    (e : priority_fault kp (times_fault ka kb kc kd (storage_fault ks)) ≡ Some fault) where
  six_end : Ends fault (pop_all 6 f (λ values g. periodic_parameters g r values))
  six_end =
      ends_pop fault (put ks (put kd (put kc (put kb (put ka (put kp nothing)))))) f
      (λ v g. pop_from 5 g (v ∷ []) (λ values g. periodic_parameters g r values)) x
      (λ v5 b5 h5 y5.
      ends_pop fault (put kd (put kc (put kb (put ka (put kp nothing))))) b5
      (λ v g. pop_from 4 g (v ∷ v5 ∷ []) (λ values g. periodic_parameters g r values)) y5
      (λ v4 b4 h4 y4.
      ends_pop fault (put kc (put kb (put ka (put kp nothing)))) b4
      (λ v g. pop_from 3 g (v ∷ v4 ∷ v5 ∷ []) (λ values g. periodic_parameters g r values)) y4
      (λ v3 b3 h3 y3.
      ends_pop fault (put kb (put ka (put kp nothing))) b3
      (λ v g. pop_from 2 g (v ∷ v3 ∷ v4 ∷ v5 ∷ []) (λ values g. periodic_parameters g r values)) y3
      (λ v2 b2 h2 y2.
      ends_pop fault (put ka (put kp nothing)) b2
      (λ v g. pop_from 1 g (v ∷ v2 ∷ v3 ∷ v4 ∷ v5 ∷ []) (λ values g. periodic_parameters g r values)) y2
      (λ v1 b1 h1 y1.
      ends_pop fault (put kp nothing) b1
      (λ v g. pop_from 0 g (v ∷ v1 ∷ v2 ∷ v3 ∷ v4 ∷ v5 ∷ []) (λ values g. periodic_parameters g r values)) y1
      (λ v0 b0 h0 y0.
      six fault r b0 kp ka kb kc kd ks v0 v1 v2 v3 v4 v5 h0 h1 h2 h3 h4 h5 e))))))

-- ---- the super part

module _ (code : Code) (world : Environment) (f : Frame) (id superclass : ℕ)
    (bound : binding code id ≡ ClassNamed superclass) (fault : RunFault) where
  same_class : (c : ℕ) → bound_class (binding code id) ≡ Some c → c ≡ superclass
  unfolding bound_class
  same_class c e = (let t : Some c ≡ Some superclass = sym e ∙ ap bound_class bound in cc (t))

  if_ends : (b : Bool) (x y : Effect) → (b ≡ true → Ends fault x) → (b ≡ false → Ends fault y) →
      Ends fault (if b then x else y)
  if_ends true x y h k = h refl
  if_ends false x y h k = k refl

  periodic_form : (a b c : Left) → (superclass == periodic_handler) ≡ true → periodic_fault a b c ≡ Some fault →
      Operands (with_left c (with_left b (with_left a nothing))) f.operands →
      Ends fault (effect_of code world f (PARAMS id))
  unfolding effect_of periodic_fault with_left
  periodic_form (One p) (Four sms sns pms pns) (One s) is e x =
      ends_given fault (bound_class (binding code id)) _ (λ c bound_to.
      ends_given fault f.this _ (λ r there.
      if_ends (c == periodic_handler) _ _ (λ t. six_end fault f r p sms sns pms pns s x e)
      (λ t. absurd (let u : (c == periodic_handler) ≡ true =
      ap (λ n. n == periodic_handler) (same_class c bound_to) ∙ is in cc (t, u)))))
  periodic_form (One p) (Four sms sns pms pns) Forgets is e x = absurd (none_some fault e)
  periodic_form (One p) (Four sms sns pms pns) Zero is e x = absurd (none_some fault e)
  periodic_form (One p) (Four sms sns pms pns) (Two u v) is e x = absurd (none_some fault e)
  periodic_form (One p) (Four sms sns pms pns) (Four u v w z) is e x = absurd (none_some fault e)
  periodic_form (One p) Forgets c is e x = absurd (none_some fault e)
  periodic_form (One p) Zero c is e x = absurd (none_some fault e)
  periodic_form (One p) (One q) c is e x = absurd (none_some fault e)
  periodic_form (One p) (Two u v) c is e x = absurd (none_some fault e)
  periodic_form Forgets b c is e x = absurd (none_some fault e)
  periodic_form Zero b c is e x = absurd (none_some fault e)
  periodic_form (Two u v) b c is e x = absurd (none_some fault e)
  periodic_form (Four u v w z) b c is e x = absurd (none_some fault e)

  other_form : (a b : Left) → (superclass == periodic_handler) ≡ false → parameters_fault a b ≡ Some fault →
      Operands (with_left b (with_left a nothing)) f.operands → Ends fault (effect_of code world f (PARAMS id))
  unfolding effect_of parameters_fault with_left
  other_form (One p) (One s) is e x =
      ends_given fault (bound_class (binding code id)) _ (λ c bound_to.
      ends_given fault f.this _ (λ r there.
      if_ends (c == periodic_handler) _ _
      (λ t. absurd (let u : (c == periodic_handler) ≡ false =
      ap (λ n. n == periodic_handler) (same_class c bound_to) ∙ is in cc (t, u)))
      (λ t. if_ends (c == mission_sequencer) _ _
      (λ u. two_end fault f p s x e (λ g priority storage. Goes g))
      (λ u. two_end fault f p s x e (λ g priority storage. SetsHidden g r (Int priority ∷ Int storage ∷ []))))))
  other_form (One p) Forgets is e x = absurd (none_some fault e)
  other_form (One p) Zero is e x = absurd (none_some fault e)
  other_form (One p) (Two u v) is e x = absurd (none_some fault e)
  other_form (One p) (Four u v w z) is e x = absurd (none_some fault e)
  other_form Forgets b is e x = absurd (none_some fault e)
  other_form Zero b is e x = absurd (none_some fault e)
  other_form (Two u v) b is e x = absurd (none_some fault e)
  other_form (Four u v w z) b is e x = absurd (none_some fault e)

  aperiodic_form : (a b c : Left) → (superclass == periodic_handler) ≡ false → aperiodic_fault a b c ≡ Some fault →
      Operands (with_left c (with_left b (with_left a nothing))) f.operands →
      Ends fault (effect_of code world f (PARAMS id))
  unfolding aperiodic_fault with_left
  aperiodic_form a Zero c is e x = other_form a c is e x
  aperiodic_form a Forgets c is e x = absurd (none_some fault e)
  aperiodic_form a (One p) c is e x = absurd (none_some fault e)
  aperiodic_form a (Two u v) c is e x = absurd (none_some fault e)
  aperiodic_form a (Four u v w z) c is e x = absurd (none_some fault e)

  form_ends : (left : ℕ → Left) (xs : List ℕ) → form_fault left superclass xs ≡ Some fault →
      Operands (with_all left xs nothing) f.operands → Ends fault (effect_of code world f (PARAMS id))
  unfolding form_fault
  form_ends left (a ∷ b ∷ c ∷ []) e x = go (superclass == periodic_handler) refl e
    where
      go : (t : Bool) → (superclass == periodic_handler) ≡ t →
          (if t then periodic_fault (left a) (left b) (left c)
          else aperiodic_fault (left a) (left b) (left c)) ≡ Some fault →
          Ends fault (effect_of code world f (PARAMS id))
      go true is k = periodic_form (left a) (left b) (left c) is k x
      go false is k = aperiodic_form (left a) (left b) (left c) is k x
  form_ends left (a ∷ b ∷ []) e x = go (superclass == periodic_handler) refl e
    where
      go : (t : Bool) → (superclass == periodic_handler) ≡ t →
          (if t then None else parameters_fault (left a) (left b)) ≡ Some fault →
          Ends fault (effect_of code world f (PARAMS id))
      go true is k = absurd (none_some fault k)
      go false is k = other_form (left a) (left b) is k x
  form_ends left [] e x = absurd (none_some fault e)
  form_ends left (a ∷ []) e x = absurd (none_some fault e)
  form_ends left (a ∷ b ∷ c ∷ d ∷ xs) e x = absurd (none_some fault e)

-- ---- the parts of a node stand before it

module _ (code : Code) (id : ℕ) where
  pub below_is : (x : ℕ) → x < id → left_below code id x ≡ left_by code x
  below_is x l = go (nat_lt x id) refl
    where
      go : (b : Bool) → nat_lt x id ≡ b → (if b then left_by code x else Forgets) ≡ left_by code x
      go true e = refl
      go false e = absurd (let no : x < id = l in grind (arith, nat_tests))

  pub all_is : (xs : List ℕ) (s : Stack) → AllBelow id xs →
      with_all (left_below code id) xs s ≡ with_all (left_by code) xs s
  unfolding AllBelow
  all_is [] s h = refl
  all_is (x ∷ xs) s h =
      ap (λ (l : Left). with_all (left_below code id) xs (with_left l s)) (below_is x h.0)
      ∙ all_is xs (with_left (left_by code x) s) h.1

-- ---- all nodes

module _ (code : Code) (behind : BehindChildren code.program) (world : Environment) (f : Frame) (s : Stack)
    (shadows : Shadows s f.operands) (fault : RunFault) where
  abbrev Result : Op → Type 0
  Result op = Less (asked code op) s → Ends fault (effect_of code world f op)

  some_op : (a b : Op) → Some a ≡ Some b → a ≡ b
  some_op a b e = cc (e)

  module _ (id : ℕ) where
    -- the arguments are what is known of them
    pub arguments_are : (op : Op) (xs : List ℕ) → asked code op ≡ with_parts code id (part code arguments_of id) →
        part code arguments_of id ≡ Some xs → AllBelow id xs → Less (asked code op) s →
        Operands (with_all (left_by code) xs nothing) f.operands
    arguments_are op xs e are h l =
        subst (λ (t : Stack). Operands t f.operands)
        (e ∙ ap (with_parts code id) are ∙ all_is code id xs nothing h)
        (operands_are (asked code op) s f.operands l shadows)

    call_ends : (xs : List ℕ) → part code arguments_of id ≡ Some xs → AllBelow id xs → (b : Binding) →
        binding code id ≡ b → call_fault (left_by code) xs b ≡ Some fault → (op : Op) →
        (elim b as (λ z. Option Op) [ Builtin t ↦ call_operation id t.id | _ ↦ None ]) ≡ Some op → Result op
    unfolding call_fault call_operation asked
    call_ends (x ∷ []) are h (Builtin t) bound e op is = go (t.id == device_read) refl e
      where
        go : (b : Bool) → (t.id == device_read) ≡ b →
            (if b then port_fault (left_by code x) else None) ≡ Some fault → Result op
        go true same k =
            (let read : t.id ≡ device_read = grind (arith, nat_tests) in
            subst Result (some_op (READ id) op (sym (ap (call_operation id) read) ∙ is))
            (λ l. read_ends fault code world f id (left_by code x) k
            (arguments_are (READ id) (x ∷ []) refl are h l)))
        go false same k = absurd (none_some fault k)
    call_ends (x ∷ y ∷ []) are h (Builtin t) bound e op is =
        go (t.id == managed_memory_enter_private_memory) refl (t.id == services_set_ceiling) refl e
      where
        go : (b : Bool) → (t.id == managed_memory_enter_private_memory) ≡ b → (c : Bool) →
            (t.id == services_set_ceiling) ≡ c →
            (if b then size_fault (left_by code x) (left_by code y)
            else (if c then ceiling_fault (left_by code x) (left_by code y) else None)) ≡ Some fault → Result op
        go true same c other k =
            (let enter : t.id ≡ managed_memory_enter_private_memory = grind (arith, nat_tests) in
            subst Result (some_op (ENTER id) op (sym (ap (call_operation id) enter) ∙ is))
            (λ l. enter_ends fault code world f id (left_by code x) (left_by code y) k
            (arguments_are (ENTER id) (x ∷ y ∷ []) refl are h l)))
        go false other true same k =
            (let set : t.id ≡ services_set_ceiling = grind (arith, nat_tests) in
            subst Result (some_op (SETCEILING id) op (sym (ap (call_operation id) set) ∙ is))
            (λ l. ceiling_ends fault code world f id (left_by code x) (left_by code y) k
            (arguments_are (SETCEILING id) (x ∷ y ∷ []) refl are h l)))
        go false other false same k = absurd (none_some fault k)
    call_ends [] are h (Builtin t) bound e op is = absurd (none_some fault e)
    call_ends (x ∷ y ∷ z ∷ xs) are h (Builtin t) bound e op is = absurd (none_some fault e)
    call_ends xs are h Plain bound e op is = absurd (cc (is))
    call_ends xs are h (Local k) bound e op is = absurd (cc (is))
    call_ends xs are h (Field k) bound e op is = absurd (cc (is))
    call_ends xs are h (Static k) bound e op is = absurd (cc (is))
    call_ends xs are h Length bound e op is = absurd (cc (is))
    call_ends xs are h (ClassNamed c) bound e op is = absurd (cc (is))
    call_ends xs are h (Method t) bound e op is = absurd (cc (is))
    call_ends xs are h (StaticMethod t) bound e op is = absurd (cc (is))

    super_ends : (xs : List ℕ) → part code arguments_of id ≡ Some xs → AllBelow id xs → (b : Binding) →
        binding code id ≡ b → super_fault (left_by code) xs b ≡ Some fault → Result (PARAMS id)
    unfolding super_fault asked
    super_ends xs are h (ClassNamed superclass) bound e = go (is_user_class superclass) (has_form superclass) e
      where
        go : (b c : Bool) →
            (if b then None else (if c then form_fault (left_by code) superclass xs else None)) ≡ Some fault →
            Result (PARAMS id)
        go true c k = absurd (none_some fault k)
        go false true k =
            λ l. form_ends code world f id superclass bound fault (left_by code) xs k
            (arguments_are (PARAMS id) xs refl are h l)
        go false false k = absurd (none_some fault k)
    super_ends xs are h Plain bound e = absurd (none_some fault e)
    super_ends xs are h (Local k) bound e = absurd (none_some fault e)
    super_ends xs are h (Field k) bound e = absurd (none_some fault e)
    super_ends xs are h (Static k) bound e = absurd (none_some fault e)
    super_ends xs are h Length bound e = absurd (none_some fault e)
    super_ends xs are h (Method t) bound e = absurd (none_some fault e)
    super_ends xs are h (StaticMethod t) bound e = absurd (none_some fault e)
    super_ends xs are h (Builtin t) bound e = absurd (none_some fault e)

    node_ends : (node : Node) → slice_get code.program.nodes id ≡ Some node →
        fault_at_node code id node ≡ Some fault → (op : Op) → operation_of code id node ≡ Some op → Result op
    unfolding fault_at_node operation_of children AllBelow asked right_operand array_length arguments_of operator_of
    node_ends (Binary position operator l r) there e op is =
        subst Result (some_op (BIN id) op is) (λ less.
        bin_ends fault code world f id operator (left_by code r) (ap (λ (o : Option Node). o >>= operator_of) there) e
        (subst (λ (t : Stack). Operands t f.operands)
        (ap (λ (o : Option ℕ). with_left (part_left code id o) nothing)
        (ap (λ (o : Option Node). o >>= right_operand) there)
        ∙ ap (λ (l : Left). with_left l nothing) (below_is code id r (behind id (Binary position operator l r) there).1.0))
        (operands_are (asked code (BIN id)) s f.operands less shadows)))
    node_ends (NewArray position element size) there e op is =
        subst Result (some_op (ALLOCARRAY id) op is) (λ less.
        array_ends fault code world f id (left_by code size) e
        (subst (λ (t : Stack). Operands t f.operands)
        (ap (λ (o : Option ℕ). with_left (part_left code id o) nothing)
        (ap (λ (o : Option Node). o >>= array_length) there)
        ∙ ap (λ (l : Left). with_left l nothing)
        (below_is code id size (behind id (NewArray position element size) there).1.0))
        (operands_are (asked code (ALLOCARRAY id)) s f.operands less shadows)))
    node_ends (Call position name object xs) there e op is =
        call_ends xs (ap (λ (o : Option Node). o >>= arguments_of) there)
        (below-right id (optional object) xs (behind id (Call position name object xs) there)) (binding code id) refl e op is
    node_ends (SuperCall position xs) there e op is =
        subst Result (some_op (PARAMS id) op is)
        (super_ends xs (ap (λ (o : Option Node). o >>= arguments_of) there) (behind id (SuperCall position xs) there)
        (binding code id) refl e)
    node_ends _ there e op is = absurd (none_some fault e)

  pub certain_ends : (op : Op) → FaultsFor code op fault → Result op
  unfolding certain_fault
  certain_ends op x =
      node_ends x.id x.node x.is_there
      (sym (ap (λ (o : Option Node). o >>= fault_at_node code x.id) x.is_there) ∙ x.is_certain) op x.is_operation
