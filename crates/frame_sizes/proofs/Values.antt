-- Literals, names, operators and new objects leave one operand.
use Rattle.std.specs.Prelude.{Option, Some, slice_get, flat_map, ◌==◌, if◌then◌else◌}
use Rattle.std.proofs.Common.{◌≡◌, ◌≤◌, ℕ, suc, List, [], ◌∷◌, ◌++◌, length, Bool, true, false, ◌⊎◌, inl, inr, refl, sym, ◌∙◌, ap, subst, arith}
use Rattle.scj_base.specs.Vocabulary.{sign_and_and, sign_or_or}
use Rattle.scj_base.specs.declared.positions.Position.{Position}
use Rattle.scj_tree.specs.declared.nodes.Node.{Node}
use Rattle.scj_tree.specs.declared.nodes.Node.TheVariants.{Binary, New}
use Rattle.scj_tree.specs.Heights.{height}
use Rattle.scj_rules.specs.declared.typing.Binding.{Binding}
use Rattle.scj_rules.specs.declared.typing.Binding.TheVariants.{Class as ClassNamed}
use Rattle.scj_rules.specs.Words.{◌>>=◌}
use Rattle.accepted_laws.specs.Kinds.{Kind}
use Rattle.accepted_laws.proofs.Tools.{some_inj}
use Rattle.scj_model.specs.declared.operations.Op.{Op}
use Rattle.scj_model.specs.declared.operations.Op.TheVariants.{Push as PUSH, This as THIS, Load as LOAD, Get as GET, GetStatic as GETSTATIC, Length as LENGTH, Bin as BIN, And as AND, Or as OR, Alloc as ALLOC, Construct as CONSTRUCT}
use Rattle.scj_model.specs.Code.{Code, binding, part}
use Rattle.scj_model.specs.Ops.{name_ops, access_ops, binary_ops, new_ops, right_operand}
use Rattle.scj_model.specs.Operations.{argument_count}
use Rattle.scope_flow.specs.Signatures.{Signature}
use Rattle.scope_flow.specs.ValueFacts.{HasValue, HaveValues, LocalFact, OwnFieldFact, StaticFact, FieldFact, LengthFact}
use Rattle.frame_sizes.proofs.Counts.{dropped, after, Value, Asked, Brings, brings_op, brings_then, behind, more, more_is, dropped_more}
use Rattle.frame_sizes.proofs.Places.{with_kind, Place, value, value_part, with_more, alone, done, arguments, counted, Roomy, AllRoomy}

module _ (code : Code) (at : Place code) (o : Option Kind) where
  abbrev b : ℕ
  b = at.member

  abbrev c : ℕ
  c = at.class

  abbrev sig : Signature
  sig = at.sig

  abbrev id : ℕ
  id = at.id

  abbrev sub : ℕ → List Op
  sub = at.sub

  abbrev d : ℕ
  d = at.depth

  abbrev H : ℕ → ℕ
  H = height code.program.nodes

  abbrev B : List Op → ℕ → ℕ → Type 0
  B xs e g = Brings code xs e g

  pub literal_brings : (k : Kind) → o ≡ Some k → Roomy code at 0 → B (PUSH id ∷ []) d (with_kind o d)
  unfolding after
  literal_brings k e r = done code at (PUSH id ∷ []) o k e (brings_op code (PUSH id) d (alone code at d 0 (omega arith) r) tt)

  pub name_brings : Roomy code at 0 → LocalFact code b id o ⊎ (OwnFieldFact code b c id o ⊎ StaticFact code id o) →
      B (name_ops id (binding code id)) d (with_kind o d)
  unfolding name_ops after
  name_brings r (inl f) =
      subst (λ (y : Binding). Brings code (name_ops id y) d (with_kind o d)) (sym f.is)
      (done code at (LOAD id ∷ []) o _ f.is_given (brings_op code (LOAD id) d (alone code at d 0 (omega arith) r) tt))
  name_brings r (inr (inl f)) =
      subst (λ (y : Binding). Brings code (name_ops id y) d (with_kind o d)) (sym f.is)
      (done code at (THIS id ∷ GET id ∷ []) o _ f.is_given
      (behind code (THIS id ∷ []) (GET id) d (suc d)
      (brings_op code (THIS id) d (alone code at d 0 (omega arith) r) tt) (alone code at (suc d) 0 (omega arith) r) tt))
  name_brings r (inr (inr f)) =
      subst (λ (y : Binding). Brings code (name_ops id y) d (with_kind o d)) (sym f.is)
      (done code at (GETSTATIC id ∷ []) o _ f.is_given (brings_op code (GETSTATIC id) d (alone code at d 0 (omega arith) r) tt))

  pub access_brings : (object : ℕ) → Roomy code at (H object) →
      FieldFact code b c id object o ⊎ (StaticFact code id o ⊎ LengthFact code b c id object o) →
      B (access_ops sub id object (binding code id)) d (with_kind o d)
  unfolding access_ops after
  access_brings object r (inl f) =
      subst (λ (y : Binding). Brings code (access_ops sub id object y) d (with_kind o d)) (sym f.is)
      (done code at (sub object ++ GET id ∷ []) o _ f.is_given
      (behind code (sub object) (GET id) d (suc d)
      (value code at object _ f.object_is d (with_more code at d (H object) (omega arith) r))
      (alone code at (suc d) (H object) (omega arith) r) tt))
  access_brings object r (inr (inl f)) =
      subst (λ (y : Binding). Brings code (access_ops sub id object y) d (with_kind o d)) (sym f.is)
      (done code at (GETSTATIC id ∷ []) o _ f.is_given
      (brings_op code (GETSTATIC id) d (alone code at d (H object) (omega arith) r) tt))
  access_brings object r (inr (inr f)) =
      subst (λ (y : Binding). Brings code (access_ops sub id object y) d (with_kind o d)) (sym f.is)
      (done code at (sub object ++ LENGTH id ∷ []) o _ f.is_given
      (behind code (sub object) (LENGTH id) d (suc d)
      (value code at object _ f.array_is d (with_more code at d (H object) (omega arith) r))
      (alone code at (suc d) (H object) (omega arith) r) tt))

  -- an operation in the place of one operand, and of two
  pub one_brings : (x : ℕ) (k : Kind) (op : Op) → Roomy code at (H x) → HasValue code.program b c id x (Some k) →
      Asked code op (suc d) → B (sub x ++ op ∷ []) d (after code op (suc d))
  one_brings x k op r h a =
      behind code (sub x) op d (suc d) (value code at x k h d (with_more code at d (H x) (omega arith) r))
      (alone code at (suc d) (H x) (omega arith) r) a

  pub two_brings : (x y : ℕ) (j k : Kind) (op : Op) → AllRoomy code at (x ∷ y ∷ []) →
      HasValue code.program b c id x (Some j) → HasValue code.program b c id y (Some k) →
      Asked code op (suc (suc d)) → B (sub x ++ (sub y ++ op ∷ [])) d (after code op (suc (suc d)))
  two_brings x y j k op r h i a =
      brings_then code (sub x) (sub y ++ op ∷ []) d (suc d) (after code op (suc (suc d)))
      (value code at x j h d (with_more code at d (H x) (omega arith) r.0))
      (behind code (sub y) op (suc d) (suc (suc d))
      (value code at y k i (suc d) (with_more code at (suc d) (H y) (omega arith) r.1.0))
      (alone code at (suc (suc d)) (H y) (omega arith) r.1.0) a)

  pub binary_brings : (position : Position) (operator left right : ℕ) (j k : Kind) →
      slice_get code.program.nodes id ≡ Some (Binary position operator left right) → AllRoomy code at (left ∷ right ∷ []) →
      HasValue code.program b c id left (Some j) → HasValue code.program b c id right (Some k) →
      B (binary_ops sub id operator left right) d (suc d)
  unfolding binary_ops after right_operand
  binary_brings position operator left right j k there r h i =
      go (operator == sign_and_and) (operator == sign_or_or)
    where
      asks : (x : ℕ) → part code right_operand id ≡ Some x → Value code x d
      asks x e =
          subst (λ y. Value code y d)
          (some_inj right x (sym (ap (λ (o : Option Node). o >>= right_operand) there) ∙ e))
          (value_part code at right k i d (with_more code at d (H right) (omega arith) r.1.0))

      go : (a b : Bool) →
          B (if a then sub left ++ AND id ∷ []
          else (if b then sub left ++ OR id ∷ [] else (sub left ++ (sub right ++ BIN id ∷ [])))) d (suc d)
      go true b = one_brings left j (AND id) r.0 h asks
      go false true = one_brings left j (OR id) r.0 h asks
      go false false = two_brings left right j k (BIN id) r h i tt

  pub new_brings : (position name_position : Position) (name xs : List ℕ) (class : ℕ) (ks : List Kind) →
      slice_get code.program.nodes id ≡ Some (New position name_position name xs) → AllRoomy code at xs → Roomy code at 0 →
      binding code id ≡ ClassNamed class → HaveValues code.program b c id xs ks → length xs ≤ 8 →
      B (new_ops sub id xs (binding code id)) d (suc d)
  unfolding new_ops after argument_count
  new_brings position name_position name xs class ks there r z is h few =
      subst (λ (y : Binding). Brings code (new_ops sub id xs y) d (suc d)) (sym is)
      (subst (λ e. Brings code ((ALLOC id ∷ flat_map sub xs) ++ CONSTRUCT id ∷ []) d e)
      (ap (λ n. dropped n (more (length xs) (suc d))) (counted code at (New position name_position name xs) (length xs) there refl)
      ∙ dropped_more (length xs) (suc d))
      (behind code (ALLOC id ∷ flat_map sub xs) (CONSTRUCT id) d (more (length xs) (suc d))
      (brings_then code (ALLOC id ∷ []) (flat_map sub xs) d (suc d) (more (length xs) (suc d))
      (brings_op code (ALLOC id) d (alone code at d 0 (omega arith) z) tt)
      (arguments code at xs ks h r (suc d) (omega (arith, few))))
      (alone code at (more (length xs) (suc d)) 0 (omega (arith, few, more_is (length xs) (suc d))) z) tt))
