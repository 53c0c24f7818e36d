-- Each expression leaves one operand, and a call without a value none.
use Rattle.std.specs.Prelude.{Option, Some, None, is_some, slice_get}
use Rattle.std.proofs.Common.{◌≡◌, ℕ, ◌+◌, List, [], ◌∷◌, ◌++◌, true, ◌⊎◌, inl, inr, refl, arith}
use Rattle.scj_tree.specs.declared.nodes.Node.{Node}
use Rattle.scj_tree.specs.declared.nodes.Node.TheVariants.{Binary, Unary, Cast, Parenthesized, SimpleName, FieldAccess, Call, Element, New, NewArray, Number, True, False, Null, This}
use Rattle.scj_tree.specs.Heights.{highest, weight, height}
use Rattle.scj_tree.specs.Shape.{children, optional}
use Rattle.accepted_laws.specs.Judgements.{Inside, Judged}
use Rattle.accepted_laws.specs.Kinds.{Kind, number}
use Rattle.scj_model.specs.declared.operations.Op.{Op}
use Rattle.scj_model.specs.declared.operations.Op.TheVariants.{This as THIS, Elem as ELEM, Unary as UNARY, AllocArray as ALLOCARRAY, Cast as CAST}
use Rattle.scj_model.specs.Code.{Code, binding}
use Rattle.scj_model.specs.Ops.{call_ops, node_ops}
use Rattle.scope_flow.specs.CallFacts.{CallFact, StaticCallFact, BuiltinFact, ExpressionFact}
use Rattle.scope_flow.specs.Signatures.{Signature}
use Rattle.scope_flow.specs.ValueFacts.{HasValue}
use Rattle.frame_sizes.proofs.Heights.{height_at}
use Rattle.frame_sizes.proofs.Counts.{after, Brings, brings_op}
use Rattle.frame_sizes.proofs.Places.{with_kind, as_many, as_many_fit, Place, takes_few, roomy, less_roomy, with_more, alone, all_roomy, one_roomy, done, Roomy, AllRoomy}
use Rattle.frame_sizes.proofs.Values.{literal_brings, name_brings, access_brings, one_brings, two_brings, binary_brings, new_brings}
use Rattle.frame_sizes.proofs.Invocations.{call_brings, static_brings, builtin_brings}

module _ (code : Code) (at : Place code) (o : Option Kind) where
  abbrev b : ℕ
  b = at.member

  abbrev c : ℕ
  c = at.class

  abbrev sig : Signature
  sig = at.sig

  abbrev id : ℕ
  id = at.id

  abbrev sub : ℕ → List Op
  sub = at.sub

  abbrev d : ℕ
  d = at.depth

  abbrev H : ℕ → ℕ
  H = height code.program.nodes

  abbrev B : List Op → ℕ → ℕ → Type 0
  B xs e g = Brings code xs e g

  -- ---- all expressions

  pub node_brings : (node : Node) → slice_get code.program.nodes id ≡ Some node → Inside code.program b c id →
      Judged code.program id o → ExpressionFact code b c sig id node o →
      B (node_ops code sub id node) d (with_kind o d)
  unfolding node_ops ExpressionFact weight children highest after
  node_brings (Number position n is_negative) there i j f =
      literal_brings code at o number f (roomy code at 0 (height_at code.program at.limits.behind id _ there))
  node_brings (True position) there i j f =
      literal_brings code at o _ f (roomy code at 0 (height_at code.program at.limits.behind id _ there))
  node_brings (False position) there i j f =
      literal_brings code at o _ f (roomy code at 0 (height_at code.program at.limits.behind id _ there))
  node_brings (Null position) there i j f =
      literal_brings code at o _ f (roomy code at 0 (height_at code.program at.limits.behind id _ there))
  node_brings (This position) there i j f =
      done code at (THIS id ∷ []) o _ f.is_given
      (brings_op code (THIS id) d
      (alone code at d 0 (omega arith) (roomy code at 0 (height_at code.program at.limits.behind id _ there))) tt)
  node_brings (SimpleName position name) there i j f =
      name_brings code at o (roomy code at 0 (height_at code.program at.limits.behind id _ there)) f
  node_brings (Parenthesized position inner) there i j f =
      at.hyp.values inner f.0.smaller o f.0.inside f.1 d
      (with_more code at d (H inner) (omega arith) (one_roomy code at inner (height_at code.program at.limits.behind id _ there)))
  node_brings (FieldAccess position name object) there i j f =
      access_brings code at o object (one_roomy code at object (height_at code.program at.limits.behind id _ there)) f
  node_brings (Element position array index) there i j f =
      done code at _ o _ f.is_given
      (two_brings code at o array index _ _ (ELEM id)
      (all_roomy code at (array ∷ index ∷ []) (roomy code at _ (height_at code.program at.limits.behind id _ there)))
      f.array_is f.index_is tt)
  node_brings (Unary position operator operand) there i j f =
      unary operand f.kind f.operand_is (one_roomy code at operand (height_at code.program at.limits.behind id _ there)) o
      refl f.is_some
    where
      unary : (x : ℕ) (k : Kind) → HasValue code.program b c id x (Some k) → Roomy code at (H x) → (q : Option Kind) →
          o ≡ q → is_some o ≡ true → B (sub x ++ UNARY id ∷ []) d (with_kind o d)
      unary x k h r None e s = absurd (cc (e, s))
      unary x k h r (Some g) e s = done code at (sub x ++ UNARY id ∷ []) o g e (one_brings code at o x k (UNARY id) r h tt)
  node_brings (Binary position operator left right) there i j (inl f) =
      done code at _ o _ f.1.is_given
      (binary_brings code at o position operator left right _ _ there
      (all_roomy code at (left ∷ right ∷ []) (roomy code at _ (height_at code.program at.limits.behind id _ there)))
      f.1.left_is f.1.right_is)
  node_brings (Binary position operator left right) there i j (inr f) =
      done code at _ o _ f.is_given
      (binary_brings code at o position operator left right _ _ there
      (all_roomy code at (left ∷ right ∷ []) (roomy code at _ (height_at code.program at.limits.behind id _ there)))
      f.left_is f.right_is)
  node_brings (New position name_position name xs) there i j f =
      let r = roomy code at (highest H xs) (height_at code.program at.limits.behind id _ there) in
      let same = as_many code.program b c id xs f.kinds f.arguments_are in
      let fit = as_many_fit code.program sig.runs_in sig.runs_in f.kinds f.constructor.sig.takes f.constructor.fit in
      let few = at.limits.takes f.constructor.body f.class f.constructor.sig f.constructor.runs in
      done code at _ o _ f.is_given
      (new_brings code at o position name_position name xs f.class f.kinds there (all_roomy code at xs r)
      (less_roomy code at 0 (highest H xs) (omega arith) r) f.is f.arguments_are (omega (arith, same, fit, few)))
  node_brings (NewArray position element count) there i j f =
      let r = all_roomy code at (element ∷ count ∷ []) (roomy code at _ (height_at code.program at.limits.behind id _ there)) in
      done code at _ o _ f.is_given (one_brings code at o count _ (ALLOCARRAY id) r.1.0 f.count_is tt)
  node_brings (Cast position name_position name operand) there i j f =
      done code at _ o _ f.is_given
      (one_brings code at o operand _ (CAST id) (one_roomy code at operand (height_at code.program at.limits.behind id _ there))
      f.operand_is tt)
  node_brings (Call position name object xs) there i j f =
      by_fact f (all_parts object (height_at code.program at.limits.behind id _ there))
      (less_roomy code at 0 _ (omega arith) (roomy code at _ (height_at code.program at.limits.behind id _ there)))
    where
      all_parts : (object : Option ℕ) → H id ≡ 1 + highest H (optional object ++ xs) →
          AllRoomy code at (optional object) × AllRoomy code at xs
      all_parts None e = (tt, all_roomy code at xs (roomy code at (highest H xs) e))
      all_parts (Some x) e =
          (let r = all_roomy code at (x ∷ xs) (roomy code at (highest H (x ∷ xs)) e) in ((r.0, tt), r.1))

      by_fact : CallFact code b c sig id object xs o
          ⊎ (StaticCallFact code b c sig id xs o ⊎ BuiltinFact code b c sig id object xs o) →
          AllRoomy code at (optional object) × AllRoomy code at xs → Roomy code at 0 →
          B (call_ops sub id object xs (binding code id)) d (with_kind o d)
      by_fact (inl r) q z =
          call_brings code at o position name object xs there q.0 q.1 z
          (at.limits.called b c sig id position name object xs o at.body i there j r) r
      by_fact (inr (inl r)) q z =
          let same = as_many code.program b c id xs r.kinds r.arguments_are in
          let fit = as_many_fit code.program _ sig.runs_in r.kinds r.static.takes r.fit in
          let few = takes_few code at r.body r.on r.static r.has_signature in
          static_brings code at o position name object xs there q.1 z (omega (arith, same, fit, few)) r
      by_fact (inr (inr r)) q z = builtin_brings code at o object xs q.0 q.1 z r
  node_brings _ there i j f = absurd f
