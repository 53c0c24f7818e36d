-- A literal that may be assigned to a field goes to the field's kind, wherever the object lies.
use Rattle.std.proofs.Common.{◌≡◌, ℕ, refl, sym, ap, ◌∙◌, subst, Option, Some, true, true≢false, inl}
use Rattle.scj_tree.specs.declared.nodes.Node.{Node}
use Rattle.scj_tree.specs.declared.nodes.Node.TheVariants.{Number, True, False, Null}
use Rattle.scj_rules.specs.declared.typing.Scope.{Scope}
use Rattle.scj_rules.specs.declared.typing.Scope.TheVariants.{Any, Caller}
use Rattle.scj_rules.specs.declared.typing.Ty.{Ty}
use Rattle.scj_rules.specs.declared.typing.Ty.TheVariants.{Int, Bool as Boolean, NullTy, Class as ClassTy, IntArray, BoolArray, ClassArray}
use Rattle.scj_rules.specs.Contexts.{Declarations}
use Rattle.scj_rules.specs.Types.{assigns, are_same, is_reference}
use Rattle.scj_rules.specs.TypeRules.{Types, type_of}
use Rattle.accepted_laws.specs.Kinds.{Kind, number, truth, yes, reference, kind_of, Fits}
use Rattle.accepted_laws.specs.Sorts.{is_literal}
use Rattle.accepted_laws.proofs.Tools.{some_inj}
use Rattle.scope_flow.specs.Slots.{kind_of_literal}

pub record LiteralOf (node : Node) (t : Ty) : Type 0 where
  pub kind : Kind
  pub is : kind_of_literal node ≡ Some kind
  pub fits : (p : Declarations) (home : Scope) (s : Option Scope) (k : Kind) → kind_of (Some t) s ≡ Some k →
      Fits p home Caller kind k

null_fits : (t : Ty) → is_reference t ≡ true → (p : Declarations) (home : Scope) (s : Option Scope) (k : Kind) →
    kind_of (Some t) s ≡ Some k → Fits p home Caller (reference NullTy Any) k
unfolding kind_of is_reference assigns
null_fits NullTy r p home s k e =
    subst (Fits p home Caller (reference NullTy Any)) (some_inj (reference NullTy Any) k e) (refl, inl refl)
null_fits (ClassTy c) r p home (Some s) k e =
    subst (Fits p home Caller (reference NullTy Any)) (some_inj (reference (ClassTy c) s) k e) (refl, inl refl)
null_fits IntArray r p home (Some s) k e =
    subst (Fits p home Caller (reference NullTy Any)) (some_inj (reference IntArray s) k e) (refl, inl refl)
null_fits BoolArray r p home (Some s) k e =
    subst (Fits p home Caller (reference NullTy Any)) (some_inj (reference BoolArray s) k e) (refl, inl refl)
null_fits (ClassArray c) r p home (Some s) k e =
    subst (Fits p home Caller (reference NullTy Any)) (some_inj (reference (ClassArray c) s) k e) (refl, inl refl)
null_fits _ r p home s k e = absurd (cc (r, e))

same_int : (t : Ty) → are_same Int t ≡ true → t ≡ Int
unfolding are_same
same_int Int e = refl
same_int _ e = absurd (true≢false (sym e))

same_boolean : (t : Ty) → are_same Boolean t ≡ true → t ≡ Boolean
unfolding are_same
same_boolean Boolean e = refl
same_boolean _ e = absurd (true≢false (sym e))

int_kind : (s : Option Scope) (k : Kind) → kind_of (Some Int) s ≡ Some k → number ≡ k
unfolding kind_of
int_kind s k e = some_inj number k e

boolean_kind : (s : Option Scope) (k : Kind) → kind_of (Some Boolean) s ≡ Some k → truth ≡ k
unfolding kind_of
boolean_kind s k e = some_inj truth k e

pub literal_of : (p : Declarations) (types : Types) (x : ℕ) (node : Node) (t : Ty) → is_literal node ≡ true →
    ((u : Ty) → type_of p types x node ≡ Some u → assigns p.classes u t ≡ true) → LiteralOf node t
unfolding is_literal type_of kind_of_literal assigns
literal_of p types x (Number position value is_negative) t l h =
    record {
      kind = number;
      is = refl;
      fits =
          λ q home s k e. subst (Fits q home Caller number)
          (int_kind s k (ap (λ t. kind_of (Some t) s) (sym (same_int t (h Int refl))) ∙ e)) tt;
    }
literal_of p types x (True position) t l h =
    record {
      kind = yes;
      is = refl;
      fits =
          λ q home s k e. subst (Fits q home Caller yes)
          (boolean_kind s k (ap (λ t. kind_of (Some t) s) (sym (same_boolean t (h Boolean refl))) ∙ e)) tt;
    }
literal_of p types x (False position) t l h =
    record {
      kind = truth;
      is = refl;
      fits =
          λ q home s k e. subst (Fits q home Caller truth)
          (boolean_kind s k (ap (λ t. kind_of (Some t) s) (sym (same_boolean t (h Boolean refl))) ∙ e)) tt;
    }
literal_of p types x (Null position) t l h =
    record { kind = reference NullTy Any; is = refl; fits = null_fits t (h NullTy refl) }
literal_of p types x _ t l h = absurd (true≢false (sym l))
