-- The values with which variables and slots begin are of their kinds, wherever they lie.
use Rattle.std.specs.Prelude.{Option, Some, None, option_map, pos}
use Rattle.std.proofs.Common.{◌≡◌, ℕ, List, false, refl, subst, inl}
use Rattle.scj_base.specs.declared.values.Value.TheVariants.{Int, Bool as Truth, Null}
use Rattle.scj_rules.specs.declared.typing.Ty.{Ty}
use Rattle.scj_rules.specs.declared.typing.Ty.TheVariants.{Class as ClassTy, IntArray, BoolArray, ClassArray}
use Rattle.scj_rules.specs.declared.typing.Scope.{Scope}
use Rattle.scj_rules.specs.declared.views.WrittenType.{WrittenType}
use Rattle.scj_rules.specs.declared.views.WrittenType.TheVariants.{Boolean as boolean_type, BooleanArray as boolean_array, Class as class_type, ClassArray as class_array, Int as int_type, IntArray as int_array, Long as long_type, Text as text_type, Void as void_type}
use Rattle.scj_rules.specs.Classes.{class_number}
use Rattle.scj_rules.specs.Contexts.{Declarations}
use Rattle.scj_rules.specs.Layout.{kind_of_type}
use Rattle.scj_rules.specs.Types.{type_written}
use Rattle.accepted_laws.specs.Kinds.{Kind, number, truth, reference, kind_of}
use Rattle.accepted_laws.proofs.Tools.{some_inj}
use Rattle.scj_model.specs.Memory.{default_value}
use Rattle.frame_sound.specs.Places.{World, Place, held, Has}

module _ (p : Declarations) (w : World) (den : Scope → Place) where
  null_has : (t : Ty) (s : Scope) (k : Kind) → Some (reference t s) ≡ Some k → Has p w (held den k) Null
  unfolding held
  null_has t s k e = subst (λ k. Has p w (held den k) Null) (some_inj (reference t s) k e) (refl_null t s)
    where
      refl_null : (t : Ty) (s : Scope) → Has p w (held den (reference t s)) Null
      refl_null t s = inl refl

  pub default_has : (names : List (List ℕ)) (t : WrittenType) (s : Option Scope) (k : Kind) →
      kind_of (type_written names t) s ≡ Some k → Has p w (held den k) (default_value (kind_of_type t))
  unfolding kind_of type_written kind_of_type default_value held
  default_has names int_type s k e =
      subst (λ k. Has p w (held den k) (Int (pos 0))) (some_inj number k e) (pos 0, refl)
  default_has names boolean_type s k e =
      subst (λ k. Has p w (held den k) (Truth false)) (some_inj truth k e) (false, refl)
  default_has names void_type s k e = absurd (cc (e))
  default_has names long_type s k e = absurd (cc (e))
  default_has names text_type s k e = absurd (cc (e))
  default_has names int_array None k e = absurd (cc (e))
  default_has names int_array (Some s) k e = null_has IntArray s k e
  default_has names boolean_array None k e = absurd (cc (e))
  default_has names boolean_array (Some s) k e = null_has BoolArray s k e
  default_has names (class_type name) s k e = go (class_number names name) s e
    where
      go : (o : Option ℕ) (s : Option Scope) → kind_of (option_map (λ class. ClassTy class) o) s ≡ Some k →
          Has p w (held den k) Null
      go None s e = absurd (cc (e))
      go (Some c) None e = absurd (cc (e))
      go (Some c) (Some s) e = null_has (ClassTy c) s k e
  default_has names (class_array name) s k e = go (class_number names name) s e
    where
      go : (o : Option ℕ) (s : Option Scope) → kind_of (option_map (λ class. ClassArray class) o) s ≡ Some k →
          Has p w (held den k) Null
      go None s e = absurd (cc (e))
      go (Some c) None e = absurd (cc (e))
      go (Some c) (Some s) e = null_has (ClassArray c) s k e
