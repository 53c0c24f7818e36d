-- Each statement leaves as many operands as there were.
use Rattle.std.specs.Prelude.{Option, Some, None, is_some, slice_get, flat_map, if◌then◌else◌}
use Rattle.std.proofs.Common.{◌≡◌, ℕ, ◌+◌, suc, List, [], ◌∷◌, ◌++◌, Bool, true, false, inl, inr, refl, sym, ◌∙◌, ap, subst, arith}
use Rattle.scj_tree.specs.declared.nodes.Node.{Node}
use Rattle.scj_tree.specs.declared.nodes.Node.TheVariants.{Block, Empty as EmptyStatement, Local as LocalNode, LocalWithValue, Assign, ExpressionStatement, If, While, For, Return, SimpleName, FieldAccess, Element}
use Rattle.scj_tree.specs.Heights.{highest, weight, height}
use Rattle.scj_tree.specs.Shape.{children, optional}
use Rattle.scj_rules.specs.declared.typing.Binding.{Binding}
use Rattle.scj_rules.specs.Words.{◌>>=◌}
use Rattle.accepted_laws.specs.Kinds.{Kind}
use Rattle.accepted_laws.proofs.Tools.{some_inj}
use Rattle.scj_model.specs.declared.operations.Op.{Op}
use Rattle.scj_model.specs.declared.operations.Op.TheVariants.{This as THIS, Zero as ZERO, Store as STORE, Put as PUT, PutStatic as PUTSTATIC, PutElem as PUTELEM, If as IF, Loop as LOOP, LeaveWith as LEAVEWITH, Leave as LEAVE, Drop as DROP}
use Rattle.scj_model.specs.Code.{Code, binding}
use Rattle.scj_model.specs.Ops.{leaves_value, assign_ops, return_ops, node_ops, if_parts}
use Rattle.scope_flow.specs.Signatures.{Signature}
use Rattle.scope_flow.specs.StatementFacts.{AssignFact, InvocationFact, StatementFact, ReturnFact}
use Rattle.scope_flow.specs.ValueFacts.{HasValue, HasOptionStatement, HaveStatements}
use Rattle.frame_sizes.proofs.Heights.{height_at}
use Rattle.frame_sizes.proofs.Counts.{with_result, after, Value, Statement, OptionStatement, LoopParts, Asked, Brings, brings_none, brings_op, brings_then, behind}
use Rattle.frame_sizes.proofs.Places.{with_kind, Place, value, statement, value_part, statement_part, roomy, less_roomy, with_more, alone, all_roomy, one_roomy, Roomy, AllRoomy}

module _ (code : Code) (at : Place code) where
  abbrev b : ℕ
  b = at.member

  abbrev c : ℕ
  c = at.class

  abbrev sig : Signature
  sig = at.sig

  abbrev id : ℕ
  id = at.id

  abbrev sub : ℕ → List Op
  sub = at.sub

  abbrev d : ℕ
  d = at.depth

  abbrev H : ℕ → ℕ
  H = height code.program.nodes

  abbrev B : List Op → ℕ → ℕ → Type 0
  B xs e g = Brings code xs e g

  -- ---- statements

  -- statements of a block
  all_bring : (xs known : List ℕ) → HaveStatements code.program b c id known xs → AllRoomy code at xs →
      B (flat_map sub xs) d d
  all_bring [] known h r = brings_none code d
  all_bring (x ∷ xs) known h r =
      brings_then code (sub x) (flat_map sub xs) d d d
      (at.hyp.statements x h.0.smaller h.0.is d (with_more code at d (H x) (omega arith) r.0)) (all_bring xs _ h.1 r.1)

  -- a value, and an operation that takes it
  taken_bring : (x : ℕ) (k : Kind) (op : Op) → Roomy code at (H x) → HasValue code.program b c id x (Some k) →
      Asked code op (suc d) → after code op (suc d) ≡ d → B (sub x ++ op ∷ []) d d
  taken_bring x k op r h a e =
      subst (λ n. Brings code (sub x ++ op ∷ []) d n) e
      (behind code (sub x) op d (suc d) (value code at x k h d (with_more code at d (H x) (omega arith) r))
      (alone code at (suc d) (H x) (omega arith) r) a)

  assign_brings : (target x : ℕ) → AllRoomy code at (target ∷ x ∷ []) → AssignFact code b c id target x →
      B (elim (slice_get code.program.nodes target) as (λ z. List Op)
      [ None ↦ [] | Some node ↦ assign_ops sub id x (binding code target) node ]) d d
  unfolding assign_ops after weight children highest
  assign_brings target x r (inl f) =
      subst (λ (n : Option Node). B (elim n as (λ z. List Op)
      [ None ↦ [] | Some node ↦ assign_ops sub id x (binding code target) node ]) d d) (sym f.is_there)
      (subst (λ (y : Binding). B (assign_ops sub id x y (SimpleName f.position f.name)) d d) (sym f.is)
      (taken_bring x _ (STORE id) r.1.0 f.fits.value_is tt refl))
  assign_brings target x r (inr (inl f)) =
      subst (λ (n : Option Node). B (elim n as (λ z. List Op)
      [ None ↦ [] | Some node ↦ assign_ops sub id x (binding code target) node ]) d d) (sym f.is_there)
      (subst (λ (y : Binding). B (assign_ops sub id x y (SimpleName f.position f.name)) d d) (sym f.is)
      (behind code (THIS id ∷ sub x) (PUT id) d (suc (suc d))
      (brings_then code (THIS id ∷ []) (sub x) d (suc d) (suc (suc d))
      (brings_op code (THIS id) d (alone code at d (H x) (omega arith) r.1.0) tt)
      (value code at x _ f.fits.value_is (suc d) (with_more code at (suc d) (H x) (omega arith) r.1.0)))
      (alone code at (suc (suc d)) (H x) (omega arith) r.1.0) tt))
  assign_brings target x r (inr (inr (inl f))) =
      let l = less_roomy code at (H f.object) (H target)
      (let e = height_at code.program at.limits.behind target _ f.is_there in omega (arith, e)) r.0 in
      subst (λ (n : Option Node). B (elim n as (λ z. List Op)
      [ None ↦ [] | Some node ↦ assign_ops sub id x (binding code target) node ]) d d) (sym f.is_there)
      (subst (λ (y : Binding). B (assign_ops sub id x y (FieldAccess f.position f.name f.object)) d d) (sym f.is)
      (brings_then code (sub f.object) (sub x ++ PUT id ∷ []) d (suc d) d
      (value code at f.object _ f.object_is d (with_more code at d (H f.object) (omega arith) l))
      (behind code (sub x) (PUT id) (suc d) (suc (suc d))
      (value code at x _ f.fits.value_is (suc d) (with_more code at (suc d) (H x) (omega arith) r.1.0))
      (alone code at (suc (suc d)) (H x) (omega arith) r.1.0) tt)))
  assign_brings target x r (inr (inr (inr (inl f)))) =
      subst (λ (n : Option Node). B (elim n as (λ z. List Op)
      [ None ↦ [] | Some node ↦ assign_ops sub id x (binding code target) node ]) d d) (sym f.is_there)
      (subst (λ (y : Binding). B (assign_ops sub id x y f.node) d d) (sym f.is)
      (taken_bring x _ (PUTSTATIC id) r.1.0 f.fits.value_is tt refl))
  assign_brings target x r (inr (inr (inr (inr f)))) =
      let e = height_at code.program at.limits.behind target _ f.is_there in
      let l = less_roomy code at (H f.array) (H target) (omega (arith, e)) r.0 in
      let m = less_roomy code at (H f.index) (H target) (omega (arith, e)) r.0 in
      subst (λ (n : Option Node). B (elim n as (λ z. List Op)
      [ None ↦ [] | Some node ↦ assign_ops sub id x (binding code target) node ]) d d) (sym f.is_there)
      (subst (λ (y : Binding). B (assign_ops sub id x y (Element f.position f.array f.index)) d d) (sym f.is)
      (brings_then code (sub f.array) (sub f.index ++ (sub x ++ PUTELEM id ∷ [])) d (suc d) d
      (value code at f.array _ f.array_is d (with_more code at d (H f.array) (omega arith) l))
      (brings_then code (sub f.index) (sub x ++ PUTELEM id ∷ []) (suc d) (suc (suc d)) d
      (value code at f.index _ f.index_is (suc d) (with_more code at (suc d) (H f.index) (omega arith) m))
      (behind code (sub x) (PUTELEM id) (suc (suc d)) (suc (suc (suc d)))
      (value code at x _ f.fits.value_is (suc (suc d)) (with_more code at (suc (suc d)) (H x) (omega arith) r.1.0))
      (alone code at (suc (suc (suc d))) (H x) (omega arith) r.1.0) tt))))

  invocation_brings : (x : ℕ) → Roomy code at (H x) → InvocationFact code b c id x →
      B (sub x ++ (if leaves_value (binding code x) then DROP id ∷ [] else [])) d d
  unfolding after
  invocation_brings x r f =
      brings_then code (sub x) (if leaves_value (binding code x) then DROP id ∷ [] else []) d (with_kind f.gives d) d
      (at.hyp.values x f.expression_is.0.smaller f.gives f.expression_is.0.inside f.expression_is.1 d
      (with_more code at d (H x) (omega arith) r))
      (subst (λ (t : Bool). B (if t then DROP id ∷ [] else []) (with_kind f.gives d) d) (sym f.is)
      (go (is_some f.gives)))
    where
      go : (t : Bool) → B (if t then DROP id ∷ [] else []) (with_result t d) d
      go true = brings_op code (DROP id) (suc d) (alone code at (suc d) (H x) (omega arith) r) tt
      go false = brings_none code d

  return_brings : (o : Option ℕ) → AllRoomy code at (optional o) → Roomy code at 0 → ReturnFact code.program b c sig id o →
      B (return_ops sub id o) d d
  unfolding return_ops ReturnFact after
  return_brings None r z f = brings_op code LEAVE d (alone code at d 0 (omega arith) z) tt
  return_brings (Some x) r z f = taken_bring x _ (LEAVEWITH id) r.0 f.fits.value_is tt refl

  option_part : (o : Option ℕ) → HasOptionStatement code.program b c id o → AllRoomy code at (optional o) →
      OptionStatement code o d
  option_part None h r = tt
  option_part (Some x) h r = statement_part code at x h.1 d (with_more code at d (H x) (omega arith) r.0)

  pub statement_brings : (node : Node) → slice_get code.program.nodes id ≡ Some node →
      StatementFact code b c sig id node → B (node_ops code sub id node) d d
  unfolding node_ops StatementFact weight children highest after if_parts
  statement_brings (Block position xs) there f =
      all_bring xs _ f (all_roomy code at xs (roomy code at (highest H xs) (height_at code.program at.limits.behind id _ there)))
  statement_brings (EmptyStatement position) there f = brings_none code d
  statement_brings (LocalNode position name flags declared_type) there f =
      brings_op code (ZERO id) d (let l = at.room in omega (arith, l)) tt
  statement_brings (LocalWithValue position name_position name flags declared_type x) there f =
      taken_bring x _ (STORE id)
      (local_roomy flags (height_at code.program at.limits.behind id _ there)) f.fits.value_is tt refl
    where
      local_roomy : (flags : Option ℕ) → H id ≡ 1 + highest H (optional flags ++ (declared_type ∷ x ∷ [])) →
          Roomy code at (H x)
      local_roomy None e = (all_roomy code at (declared_type ∷ x ∷ []) (roomy code at _ e)).1.0
      local_roomy (Some y) e = (all_roomy code at (y ∷ declared_type ∷ x ∷ []) (roomy code at _ e)).1.1.0
  statement_brings (Assign position target x) there f =
      assign_brings target x
      (all_roomy code at (target ∷ x ∷ []) (roomy code at _ (height_at code.program at.limits.behind id _ there))) f
  statement_brings (ExpressionStatement position x) there f =
      invocation_brings x (one_roomy code at x (height_at code.program at.limits.behind id _ there)) f
  statement_brings (If position condition then_part else_part) there f =
      let r = all_roomy code at (condition ∷ then_part ∷ optional else_part)
      (roomy code at _ (height_at code.program at.limits.behind id _ there)) in
      taken_bring condition _ (IF id) r.0 f.condition_is
      (λ parts e. subst (λ (q : ℕ × Option ℕ). Statement code q.0 d × OptionStatement code q.1 d)
      (some_inj (then_part, else_part) parts (sym (ap (λ (n : Option Node). n >>= if_parts) there) ∙ e)) (
        statement_part code at then_part f.then_is.1 d (with_more code at d (H then_part) (omega arith) r.1.0),
        option_part else_part f.else_is r.1.1,
      )) refl
  statement_brings (While position condition x) there f =
      let r = all_roomy code at (condition ∷ x ∷ []) (roomy code at _ (height_at code.program at.limits.behind id _ there)) in
      taken_bring condition _ (LOOP id) r.0 f.condition_is
      (λ node e. subst (λ (n : Node). LoopParts code n d)
      (some_inj (While position condition x) node (sym there ∙ e)) (
        statement_part code at x f.body_is.1 d (with_more code at d (H x) (omega arith) r.1.0),
        value_part code at condition _ f.condition_is d (with_more code at d (H condition) (omega arith) r.0),
      )) refl
  statement_brings (For position start condition step x) there f =
      let r = all_roomy code at (start ∷ condition ∷ step ∷ x ∷ [])
      (roomy code at _ (height_at code.program at.limits.behind id _ there)) in
      let again : Value code condition d =
      record {
        body = b;
        class = c;
        sig = sig;
        is_body = at.body;
        inside = f.condition_inside;
        kind = _;
        judged = f.condition_judged;
        room = with_more code at d (H condition) (omega arith) r.1.0;
      } in
      brings_then code (sub start) (sub condition ++ LOOP id ∷ []) d d d
      (statement code at start f.first_is d (with_more code at d (H start) (omega arith) r.0))
      (behind code (sub condition) (LOOP id) d (suc d)
      (at.hyp.values condition f.condition_smaller _ f.condition_inside f.condition_judged d
      (with_more code at d (H condition) (omega arith) r.1.0)) (alone code at (suc d) (H condition) (omega arith) r.1.0)
      (λ node e. subst (λ (n : Node). LoopParts code n d)
      (some_inj (For position start condition step x) node (sym there ∙ e)) (
        statement_part code at x f.body_is.is d (with_more code at d (H x) (omega arith) r.1.1.1.0),
        statement_part code at step f.step_is.is d (with_more code at d (H step) (omega arith) r.1.1.0),
        again,
      )))
  statement_brings (Return position o) there f =
      go o (height_at code.program at.limits.behind id _ there) f
    where
      go : (o : Option ℕ) → H id ≡ 1 + highest H (optional o) → ReturnFact code.program b c sig id o →
          B (return_ops sub id o) d d
      go o e f = return_brings o (all_roomy code at (optional o) (roomy code at (highest H (optional o)) e))
          (less_roomy code at 0 (highest H (optional o)) (omega arith) (roomy code at (highest H (optional o)) e)) f
  statement_brings _ there f = absurd f
