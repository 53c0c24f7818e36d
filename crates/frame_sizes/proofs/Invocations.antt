-- Calls leave an operand where they give a value.
use Rattle.std.specs.Prelude.{Option, Some, None, is_some, slice_get, flat_map}
use Rattle.std.proofs.Common.{◌≡◌, ◌≤◌, ◌<◌, ℕ, suc, List, [], ◌∷◌, ◌++◌, length, ◌⊎◌, inl, inr, refl, sym, ◌∙◌, ap, subst, arith}
use Rattle.scj_base.specs.declared.positions.Position.{Position}
use Rattle.scj_builtins.specs.Framework.{periodic_handler_register, aperiodic_handler_register, managed_memory_enter_private_memory, managed_memory_execute_in_area_of, managed_memory_alloc_in_same, services_set_ceiling, trace_print, device_read}
use Rattle.scj_tree.specs.declared.nodes.Node.TheVariants.{Call, Text}
use Rattle.scj_tree.specs.Heights.{height}
use Rattle.scj_tree.specs.Shape.{optional}
use Rattle.scj_rules.specs.declared.typing.Binding.{Binding}
use Rattle.scj_rules.specs.declared.typing.Scope.{Scope}
use Rattle.accepted_laws.specs.Kinds.{Kind, number}
use Rattle.scj_model.specs.declared.operations.Op.{Op}
use Rattle.scj_model.specs.declared.operations.Op.TheVariants.{This as THIS, Call as CALL, CallStatic as CALLSTATIC, Enter as ENTER, ExecuteIn as EXECUTEIN, Same as SAME, SetCeiling as SETCEILING, Print as PRINT, Read as READ, Register as REGISTER, Release as RELEASE, Terminate as TERMINATE}
use Rattle.scj_model.specs.Code.{Code, binding}
use Rattle.scj_model.specs.Ops.{receiver_ops, builtin_ops, call_ops}
use Rattle.scj_model.specs.Operations.{argument_count, super_count}
use Rattle.scope_flow.specs.CallFacts.{ReceiverIs, CallFact, StaticCallFact, BuiltinFact, BuiltinCases, ReceiverFact}
use Rattle.scope_flow.specs.Signatures.{Signature}
use Rattle.scope_flow.specs.ValueFacts.{HasValue}
use Rattle.frame_sizes.proofs.Counts.{fewer, dropped, with_result, after, Asked, Brings, brings_op, brings_then, behind, more, more_is, dropped_more}
use Rattle.frame_sizes.proofs.Places.{with_kind, Place, value, with_more, alone, done, done_void, arguments, counted, Roomy, AllRoomy}

module _ (code : Code) (at : Place code) (o : Option Kind) where
  abbrev b : ℕ
  b = at.member

  abbrev c : ℕ
  c = at.class

  abbrev sig : Signature
  sig = at.sig

  abbrev id : ℕ
  id = at.id

  abbrev sub : ℕ → List Op
  sub = at.sub

  abbrev d : ℕ
  d = at.depth

  abbrev H : ℕ → ℕ
  H = height code.program.nodes

  abbrev B : List Op → ℕ → ℕ → Type 0
  B xs e g = Brings code xs e g

  -- ---- calls

  pub receiver_brings : (object : Option ℕ) (class : ℕ) (scope : Scope) → AllRoomy code at (optional object) → Roomy code at 0 →
      ReceiverIs code.program b c id object class scope → B (receiver_ops sub id object) d (suc d)
  unfolding receiver_ops after
  receiver_brings None class scope r z h = brings_op code (THIS id) d (alone code at d 0 (omega arith) z) tt
  receiver_brings (Some x) class scope r z h = value code at x _ h d (with_more code at d (H x) (omega arith) r.0)

  pub call_brings : (position : Position) (name : List ℕ) (object : Option ℕ) (xs : List ℕ) →
      slice_get code.program.nodes id ≡ Some (Call position name object xs) → AllRoomy code at (optional object) →
      AllRoomy code at xs → Roomy code at 0 → length xs ≤ 8 → CallFact code b c sig id object xs o →
      B (call_ops sub id object xs (binding code id)) d (with_kind o d)
  unfolding call_ops after argument_count
  call_brings position name object xs there q r z few f =
      subst (λ (y : Binding). Brings code (call_ops sub id object xs y) d (with_kind o d)) (sym f.is)
      (subst (λ e. Brings code (receiver_ops sub id object ++ (flat_map sub xs ++ CALL id ∷ [])) d e)
      (ap (λ g. with_result g (fewer (dropped (super_count code id) (more (length xs) (suc d))))) f.is_left
      ∙ ap (λ n. with_result (is_some o) (fewer (dropped n (more (length xs) (suc d)))))
      (counted code at (Call position name object xs) (length xs) there refl)
      ∙ ap (λ n. with_result (is_some o) (fewer n)) (dropped_more (length xs) (suc d)))
      (brings_then code (receiver_ops sub id object) (flat_map sub xs ++ CALL id ∷ []) d (suc d)
      (after code (CALL id) (more (length xs) (suc d)))
      (receiver_brings object f.class f.scope q z f.receiver_is)
      (behind code (flat_map sub xs) (CALL id) (suc d) (more (length xs) (suc d))
      (arguments code at xs f.kinds f.arguments_are r (suc d) (omega (arith, few)))
      (alone code at (more (length xs) (suc d)) 0 (omega (arith, few, more_is (length xs) (suc d))) z) tt)))

  pub static_brings : (position : Position) (name : List ℕ) (object : Option ℕ) (xs : List ℕ) →
      slice_get code.program.nodes id ≡ Some (Call position name object xs) → AllRoomy code at xs → Roomy code at 0 →
      length xs ≤ 8 → StaticCallFact code b c sig id xs o →
      B (call_ops sub id object xs (binding code id)) d (with_kind o d)
  unfolding call_ops after argument_count
  static_brings position name object xs there r z few f =
      subst (λ (y : Binding). Brings code (call_ops sub id object xs y) d (with_kind o d)) (sym f.is)
      (subst (λ e. Brings code (flat_map sub xs ++ CALLSTATIC id ∷ []) d e)
      (ap (λ g. with_result g (dropped (super_count code id) (more (length xs) d))) f.is_left
      ∙ ap (λ n. with_result (is_some o) (dropped n (more (length xs) d)))
      (counted code at (Call position name object xs) (length xs) there refl)
      ∙ ap (λ n. with_result (is_some o) n) (dropped_more (length xs) d))
      (behind code (flat_map sub xs) (CALLSTATIC id) d (more (length xs) d)
      (arguments code at xs f.kinds f.arguments_are r d (omega (arith, few)))
      (alone code at (more (length xs) d) 0 (omega (arith, few, more_is (length xs) d)) z) tt))

  -- ---- calls of the framework

  abbrev pub Framed : Option ℕ → List ℕ → ℕ → Type 0
  Framed object xs m = Brings code (builtin_ops sub id object xs m) d (with_kind o d)

  -- with one argument, and with two
  pub of_one : (x : ℕ) (k : Kind) (op : Op) → AllRoomy code at (x ∷ []) → HasValue code.program b c id x (Some k) →
      Asked code op (suc d) → B (flat_map sub (x ∷ []) ++ op ∷ []) d (after code op (suc d))
  of_one x k op r h a =
      behind code (flat_map sub (x ∷ [])) op d (suc d) (arguments code at (x ∷ []) (k ∷ []) (h, tt) r d (omega arith))
      (alone code at (suc d) (H x) (omega arith) r.0) a

  pub of_two : (x y : ℕ) (j k : Kind) (op : Op) → AllRoomy code at (x ∷ y ∷ []) → HasValue code.program b c id x (Some j) →
      HasValue code.program b c id y (Some k) → Asked code op (suc (suc d)) →
      B (flat_map sub (x ∷ y ∷ []) ++ op ∷ []) d (after code op (suc (suc d)))
  of_two x y j k op r h i a =
      behind code (flat_map sub (x ∷ y ∷ [])) op d (suc (suc d))
      (arguments code at (x ∷ y ∷ []) (j ∷ k ∷ []) (h, (i, tt)) r d (omega arith))
      (alone code at (suc (suc d)) (H x) (omega arith) r.0) a

  pub of_receiver : (object : Option ℕ) (op : Op) → AllRoomy code at (optional object) → Roomy code at 0 →
      (f : ReceiverFact code b c id object o) → Asked code op (suc d) → after code op (suc d) ≡ d →
      B (receiver_ops sub id object ++ op ∷ []) d (with_kind o d)
  of_receiver object op q z f a e =
      done_void code at (receiver_ops sub id object ++ op ∷ []) o f.is_given
      (subst (λ n. Brings code (receiver_ops sub id object ++ op ∷ []) d n) e
      (behind code (receiver_ops sub id object) op d (suc d)
      (receiver_brings object f.class f.scope q z f.receiver_is) (alone code at (suc d) 0 (omega arith) z) a))

  pub of_print : (label x : ℕ) (position : Position) (text : List ℕ) → label < id →
      slice_get code.program.nodes label ≡ Some (Text position text) → AllRoomy code at (label ∷ x ∷ []) →
      HasValue code.program b c id x (Some number) → B (flat_map sub (label ∷ x ∷ []) ++ PRINT id ∷ []) d d
  unfolding after
  of_print label x position text l there r h =
      behind code (flat_map sub (label ∷ x ∷ [])) (PRINT id) d (suc d)
      (subst (λ ys. Brings code (ys ++ (sub x ++ [])) d (suc d)) (sym (at.hyp.texts label l position text there))
      (arguments code at (x ∷ []) (number ∷ []) (h, tt) r.1 d (omega arith)))
      (alone code at (suc d) (H x) (omega arith) r.1.0) tt

  pub framed : (object : Option ℕ) (xs : List ℕ) (m on : ℕ) → AllRoomy code at (optional object) → AllRoomy code at xs → Roomy code at 0 →
      BuiltinCases code b c sig id object xs m on o → Framed object xs m
  unfolding builtin_ops after
  framed object xs m on q r z (inl f) =
      subst (λ k. Framed object xs k) (sym f.is_method)
      (subst (λ ys. Framed object ys managed_memory_enter_private_memory) (sym f.are)
      (done_void code at _ o f.is_given
      (of_two f.size f.object _ _ (ENTER id) (subst (AllRoomy code at) f.are r) f.size_is f.object_is tt)))
  framed object xs m on q r z (inr (inl f)) =
      subst (λ k. Framed object xs k) (sym f.is_method)
      (subst (λ ys. Framed object ys managed_memory_execute_in_area_of) (sym f.are)
      (done_void code at _ o f.is_given
      (of_two f.place f.object _ _ (EXECUTEIN id) (subst (AllRoomy code at) f.are r) f.place_is f.object_is tt)))
  framed object xs m on q r z (inr (inr (inl f))) =
      subst (λ k. Framed object xs k) (sym f.is_method)
      (subst (λ ys. Framed object ys services_set_ceiling) (sym f.are)
      (done_void code at _ o f.is_given
      (of_two f.object f.ceiling _ _ (SETCEILING id) (subst (AllRoomy code at) f.are r) f.object_is f.ceiling_is tt)))
  framed object xs m on q r z (inr (inr (inr (inl f)))) =
      subst (λ k. Framed object xs k) (sym f.is_method)
      (subst (λ ys. Framed object ys trace_print) (sym f.are)
      (done_void code at _ o f.is_given
      (of_print f.label f.value f.position f.text f.is_smaller f.is_text (subst (AllRoomy code at) f.are r) f.value_is)))
  framed object xs m on q r z (inr (inr (inr (inr (inl f))))) =
      subst (λ k. Framed object xs k) (sym f.is_method)
      (subst (λ ys. Framed object ys device_read) (sym f.are)
      (done code at _ o _ f.is_given (of_one f.port _ (READ id) (subst (AllRoomy code at) f.are r) f.port_is tt)))
  framed object xs m on q r z (inr (inr (inr (inr (inr (inl f)))))) =
      subst (λ k. Framed object xs k) (sym f.0) (of_receiver object (TERMINATE id) q z f.1 tt refl)
  framed object xs m on q r z (inr (inr (inr (inr (inr (inr (inl f))))))) =
      subst (λ k. Framed object xs k) (sym f.0) (of_receiver object (RELEASE id) q z f.1 tt refl)
  framed object xs m on q r z (inr (inr (inr (inr (inr (inr (inr (inl f)))))))) = go f.0
    where
      go : (m ≡ periodic_handler_register) ⊎ (m ≡ aperiodic_handler_register) → Framed object xs m
      go (inl e) =
          subst (λ k. Framed object xs k) (sym e) (of_receiver object (REGISTER id) q z f.1.receiver tt refl)
      go (inr e) =
          subst (λ k. Framed object xs k) (sym e) (of_receiver object (REGISTER id) q z f.1.receiver tt refl)
  framed object xs m on q r z (inr (inr (inr (inr (inr (inr (inr (inr f)))))))) =
      subst (λ k. Framed object xs k) (sym f.is_method)
      (subst (λ ys. Framed object ys managed_memory_alloc_in_same) (sym f.are)
      (done code at _ o _ f.is_given
      (of_two f.first f.second _ _ (SAME id) (subst (AllRoomy code at) f.are r) f.first_is f.second_is tt)))

  pub builtin_brings : (object : Option ℕ) (xs : List ℕ) → AllRoomy code at (optional object) → AllRoomy code at xs → Roomy code at 0 →
      BuiltinFact code b c sig id object xs o → B (call_ops sub id object xs (binding code id)) d (with_kind o d)
  unfolding call_ops
  builtin_brings object xs q r z f =
      subst (λ (y : Binding). Brings code (call_ops sub id object xs y) d (with_kind o d)) (sym f.is)
      (framed object xs f.target.id f.target.on q r z f.cases)
