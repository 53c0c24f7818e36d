-- The reading of a form sets the storage of the own object to the last operand.
use Rattle.std.specs.Prelude.{Option, Some, None, ℤ, pos, if◌then◌else◌, slice_get, not, ◌==◌, ◌++◌}
use Rattle.std.specs.Int.{is_negative}
use Rattle.std.proofs.Common.{◌≡◌, ℕ, zero, suc, List, [], ◌∷◌, Bool, true, false, refl, sym, ◌∙◌, ap, subst, arith}
use Rattle.std.proofs.lemmas.Bool.Decides.{nat_tests}
use Rattle.scj_base.specs.declared.faults.RunFault.{RunFault}
use Rattle.scj_base.specs.declared.faults.RunFault.TheVariants.{BadPeriod, BadPriority, NegativeSize}
use Rattle.scj_base.specs.declared.values.Value.{Value}
use Rattle.scj_base.specs.declared.values.Value.TheVariants.{Int}
use Rattle.scj_builtins.specs.Framework.{mission_sequencer, periodic_handler}
use Rattle.scj_rules.specs.Layout.{storage_slot}
use Rattle.scj_model.specs.declared.operations.Op.TheVariants.{Params as PARAMS}
use Rattle.scj_model.specs.Code.{Code, binding}
use Rattle.scj_model.specs.State.{Frame}
use Rattle.scj_model.specs.Effects.{Effect, Faults, Goes, SetsHidden, Stuck, given, pop_from}
use Rattle.scj_model.specs.Operations.{Environment, bound_class, effect_of, is_priority, periodic_parameters, right_parameters, times_of}

module _ (code : Code) (f : Frame) (id : ℕ) where
  -- a fault, or the hidden fields of the own object, of which the storage is the last operand. A sequencer's are not kept
  pub data ReadsForm : Effect → Type 0 where
    Unread : ReadsForm Stuck
    Fault : (x : RunFault) → ReadsForm (Faults x)
    Not_kept : (h : Frame) → bound_class (binding code id) ≡ Some mission_sequencer → ReadsForm (Goes h)
    Sets : (h : Frame) (r : ℕ) (values : List Value) (storage : ℤ) → f.this ≡ Some r →
        slice_get f.operands 0 ≡ Some (Int storage) → slice_get values storage_slot ≡ Some (Int storage) →
        ReadsForm (SetsHidden h r values)

  on_given : {A : Type 0} (o : Option A) (next : A → Effect) → ((a : A) → o ≡ Some a → ReadsForm (next a)) →
      ReadsForm (given o next)
  on_given None next h = Unread
  on_given (Some a) next h = h a refl

  on_test : (b : Bool) (x y : Effect) → (b ≡ true → ReadsForm x) → (b ≡ false → ReadsForm y) →
      ReadsForm (if b then x else y)
  on_test true x y h k = h refl
  on_test false x y h k = k refl

  on_pops : (n : ℕ) (g : Frame) (taken : List Value) (next : List Value → Frame → Effect) →
      ((front : List Value) (h : Frame) → ReadsForm (next (front ++ taken) h)) → ReadsForm (pop_from n g taken next)
  on_pops zero g taken next k = k [] g
  on_pops (suc n) g taken next k =
      of g.operands (λ v below. on_pops n (record g { operands = below }) (v ∷ taken) next
      (λ front h. subst (λ (vs : List Value). ReadsForm (next vs h)) (over front v) (k (front ++ v ∷ []) h)))
    where
      over : (front : List Value) (v : Value) → (front ++ v ∷ []) ++ taken ≡ front ++ v ∷ taken
      over [] v = refl
      over (x ∷ front) v = ap (λ (ys : List Value). x ∷ ys) (over front v)

      of : (vs : List Value) → ((v : Value) (below : List Value) →
          ReadsForm (pop_from n (record g { operands = below }) (v ∷ taken) next)) →
          ReadsForm (elim vs as (λ z. Effect) [
            | [] ↦ Stuck
            | v ∷ below ↦ pop_from n (record g { operands = below }) (v ∷ taken) next
          ])
      of [] h = Unread
      of (v ∷ below) h = h v below

  -- n operands and one more are taken; the last one is the highest operand
  on_all : (n : ℕ) (next : List Value → Frame → Effect) →
      ((v : Value) (front : List Value) (h : Frame) → slice_get f.operands 0 ≡ Some v →
      ReadsForm (next (front ++ v ∷ []) h)) → ReadsForm (pop_from (suc n) f [] next)
  on_all n next k = of f.operands refl
    where
      of : (vs : List Value) → f.operands ≡ vs → ReadsForm (elim vs as (λ z. Effect) [
        | [] ↦ Stuck
        | v ∷ below ↦ pop_from n (record f { operands = below }) (v ∷ []) next
      ])
      of [] e = Unread
      of (v ∷ below) e =
          on_pops n (record f { operands = below }) (v ∷ []) next
          (λ front h. k v front h (ap (λ (vs : List Value). slice_get vs 0) e))

  module _ (r : ℕ) (own : f.this ≡ Some r) where
    -- a list that ends with a value, of these lengths
    last_two : (front : List Value) (v a b : Value) → front ++ v ∷ [] ≡ a ∷ (b ∷ []) → v ≡ b
    last_two [] v a b e = absurd (cc (e))
    last_two (x ∷ []) v a b e = cc (e)
    last_two (x ∷ y ∷ []) v a b e = absurd (cc (e))
    last_two (x ∷ y ∷ z ∷ front) v a b e = absurd (cc (e))

    last_six : (front : List Value) (v a b c d i j : Value) →
        front ++ v ∷ [] ≡ a ∷ (b ∷ (c ∷ (d ∷ (i ∷ (j ∷ []))))) → v ≡ j
    last_six [] v a b c d i j e = absurd (cc (e))
    last_six (x ∷ []) v a b c d i j e = absurd (cc (e))
    last_six (x ∷ y ∷ []) v a b c d i j e = absurd (cc (e))
    last_six (x ∷ y ∷ z ∷ []) v a b c d i j e = absurd (cc (e))
    last_six (x ∷ y ∷ z ∷ k ∷ []) v a b c d i j e = absurd (cc (e))
    last_six (x ∷ y ∷ z ∷ k ∷ l ∷ []) v a b c d i j e = cc (e)
    last_six (x ∷ y ∷ z ∷ k ∷ l ∷ m ∷ []) v a b c d i j e = absurd (cc (e))
    last_six (x ∷ y ∷ z ∷ k ∷ l ∷ m ∷ n ∷ front) v a b c d i j e = absurd (cc (e))

    periodic : (values : List Value) (v : Value) (front : List Value) (h : Frame) → slice_get f.operands 0 ≡ Some v →
        values ≡ front ++ v ∷ [] → ReadsForm (periodic_parameters h r values)
    periodic (Int priority ∷ Int sms ∷ Int sns ∷ Int pms ∷ Int pns ∷ Int storage ∷ []) v front h top e =
        on_test (not (is_priority priority)) _ _ (λ t. Fault BadPriority) (λ t. at (times_of sms sns pms pns))
      where
        value : v ≡ Int storage
        value =
            last_six front v (Int priority) (Int sms) (Int sns) (Int pms) (Int pns) (Int storage) (sym e)

        at : (o : Option (ℕ × ℕ)) → ReadsForm (elim o as (λ z. Effect) [
          | None ↦ Faults BadPeriod
          | Some times ↦
              if is_negative storage then Faults NegativeSize
              else SetsHidden h r (Int priority ∷ Int storage ∷ Int (pos times.0) ∷ Int (pos times.1) ∷ [])
        ])
        at None = Fault BadPeriod
        at (Some times) =
            on_test (is_negative storage) _ _ (λ t. Fault NegativeSize)
            (λ t. Sets h r (Int priority ∷ Int storage ∷ Int (pos times.0) ∷ Int (pos times.1) ∷ []) storage own
            (top ∙ ap (λ (x : Value). Some x) value) refl)
    periodic _ v front h top e = Unread

    right : (values : List Value) (v : Value) (front : List Value) (next : ℤ → ℤ → Effect) →
        slice_get f.operands 0 ≡ Some v → values ≡ front ++ v ∷ [] →
        ((priority storage : ℤ) → slice_get f.operands 0 ≡ Some (Int storage) → ReadsForm (next priority storage)) →
        ReadsForm (right_parameters values next)
    right (Int priority ∷ Int storage ∷ []) v front next top e k =
        on_test (not (is_priority priority)) _ _ (λ t. Fault BadPriority)
        (λ t. on_test (is_negative storage) _ _ (λ q. Fault NegativeSize)
        (λ q. k priority storage
        (top ∙ ap (λ (x : Value). Some x) (last_two front v (Int priority) (Int storage) (sym e)))))
    right _ v front next top e k = Unread

  number_is : (a b : ℕ) → (a == b) ≡ true → a ≡ b
  number_is a b e = grind (arith, nat_tests)

  pub reads_form : (world : Environment) → ReadsForm (effect_of code world f (PARAMS id))
  unfolding effect_of
  reads_form world =
      on_given (bound_class (binding code id)) _ (λ superclass e. on_given f.this _ (λ r own.
      on_test (superclass == periodic_handler) _ _
      (λ t. on_all 5 (λ values h. periodic_parameters h r values) (λ v front h top. periodic r own (front ++ v ∷ []) v front h top refl))
      (λ t. on_test (superclass == mission_sequencer) _ _
      (λ q. on_all 1 (λ values h. right_parameters values (λ priority storage. Goes h)) (λ v front h top.
      right r own (front ++ v ∷ []) v front (λ priority storage. Goes h) top refl
      (λ a b k. Not_kept h (e ∙ ap (λ x. Some x) (number_is superclass mission_sequencer q)))))
      (λ q. on_all 1
      (λ values h. right_parameters values (λ priority storage. SetsHidden h r (Int priority ∷ Int storage ∷ [])))
      (λ v front h top. right r own (front ++ v ∷ []) v front
      (λ priority storage. SetsHidden h r (Int priority ∷ Int storage ∷ [])) top refl
      (λ a b k. Sets h r (Int a ∷ Int b ∷ []) b own k refl))))))
