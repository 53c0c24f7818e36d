-- What a frame leaves with: it stays so where the objects do, and a reference is one to an object on the frame's list.
-- And a body has one signature.
use Rattle.std.specs.Prelude.{Option, Some, None}
use Rattle.std.proofs.Common.{◌≡◌, ℕ, List, sym, ◌∙◌, ap, inl, inr}
use Rattle.scj_base.specs.declared.values.Value.{Value}
use Rattle.scj_base.specs.declared.values.Value.TheVariants.{At}
use Rattle.scj_rules.specs.Contexts.{Declarations}
use Rattle.scj_rules.specs.declared.typing.Scope.{Scope}
use Rattle.scj_rules.specs.declared.typing.Ty.{Ty}
use Rattle.scj_rules.specs.declared.typing.Ty.TheVariants.{Class as ClassTy}
use Rattle.scj_rules.specs.declared.views.Body.{Body}
use Rattle.scj_rules.specs.declared.views.Body.TheVariants.{Written, Empty}
use Rattle.scj_rules.specs.StaticScopes.{current_in}
use Rattle.accepted_laws.specs.Kinds.{Kind, number, truth, yes, reference, fresh}
use Rattle.accepted_laws.proofs.Tools.{some_inj}
use Rattle.scope_flow.specs.Signatures.{kind_given, Runs, Signature}
use Rattle.frame_sound.specs.Places.{Has, IsObject, World, Place, denote, held}
use Rattle.frame_sound.specs.Fine.{Home, IsOnList}
use Rattle.frame_sound.specs.EffectsFine.{ReturnFine}
use Rattle.frame_sound.proofs.Places.{denote_on}
use Rattle.frame_sound.proofs.Keeps.{ObjectsAreKept, has_kept}

-- what a frame leaves with stays so where the objects do
pub returns_kept : (p : Declarations) (w w2 : World) → ObjectsAreKept w w2 → (den : Scope → Place) (o : Option Kind)
    (v : Option Value) → ReturnFine p w den o v → ReturnFine p w2 den o v
returns_kept p w w2 kept den None None h = h
returns_kept p w w2 kept den (Some k) (Some v) h = has_kept p w w2 kept (held den k) v h
returns_kept p w w2 kept den None (Some v) h = h
returns_kept p w w2 kept den (Some k) None h = h

-- a reference that a frame leaves with is one to an object on its list
module _ (p : Declarations) (w : World) (list : List ℕ) (c : ℕ) (sig : Signature) (body : Body) (this : Option ℕ)
    (now : ℕ) (home : Home p w list c sig body this now) where
  object_lies : (t : Ty) (s : Scope) (v : Value) (r : ℕ) → IsObject p w t (denote w list this now s) v → v ≡ At r →
      IsOnList w list r
  object_lies t s v r o e =
      let same : o.r ≡ r = (let a = o.is in cc (a, e)) in
      record {
        object = o.object;
        found = ap w.objects (sym same) ∙ o.found;
        on_list = denote_on p w list c sig body this now home s o.object.area o.lies;
      }

  value_lies : (k : Kind) (v : Value) (r : ℕ) → Has p w (held (denote w list this now) k) v → v ≡ At r →
      IsOnList w list r
  unfolding held
  value_lies number v r h e = absurd (let a = h.1 in cc (a, e))
  value_lies truth v r h e = absurd (let a = h.1 in cc (a, e))
  value_lies yes v r h e = absurd (cc (h, e))
  value_lies (reference t s) v r (inl h) e = absurd (cc (h, e))
  value_lies (reference t s) v r (inr o) e = object_lies t s v r o e
  value_lies (fresh class s) v r o e = object_lies (ClassTy class) s v r o e

  pub given_lies : (o : Option Kind) (value : Option Value) → ReturnFine p w (denote w list this now) o value →
      (r : ℕ) →
      value ≡ Some (At r) → IsOnList w list r
  given_lies None None h r e = absurd (cc (e))
  given_lies (Some k) (Some v) h r e = value_lies k v r h (some_inj v (At r) e)
  given_lies None (Some v) h r e = absurd h
  given_lies (Some k) None h r e = absurd h

-- ---- signatures

-- a body stands in one class, and has one signature
pub record IsOne (c d : ℕ) (sig own : Signature) : Type 0 where
  pub class : c ≡ d
  pub signature : sig ≡ own

pub one_signature : (p : Declarations) (body : Body) (c d : ℕ) (sig own : Signature) → Runs p body c sig →
    Runs p body d own → IsOne c d sig own
unfolding Runs
one_signature p Empty c d sig own x y = record { class = x.0 ∙ sym y.0; signature = x.1 ∙ sym y.1 }
one_signature p (Written b) c d sig own x y =
    record {
      class = class;
      signature = same (some_inj sig.takes own.takes (sym x.takes ∙ y.takes))
          (sym x.gives ∙ (ap (λ n. kind_given p n b) class ∙ y.gives))
          (some_inj sig.runs_in own.runs_in (sym x.runs_in ∙ (ap (λ n. current_in p n b) class ∙ y.runs_in)));
    }
  where
    class : c ≡ d
    class = some_inj c d (sym x.is_class ∙ y.is_class)

    same : sig.takes ≡ own.takes → sig.gives ≡ own.gives → sig.runs_in ≡ own.runs_in → sig ≡ own
    same e f g = λ i. record { takes = e i; gives = f i; runs_in = g i }
