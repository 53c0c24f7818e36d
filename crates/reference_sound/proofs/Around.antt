-- Where the objects of references lie: what a kind says of a value, in words of areas.
use Rattle.std.specs.Prelude.{Option, Some, None, ◌==◌, if◌then◌else◌}
use Rattle.std.proofs.Common.{◌≡◌, ℕ, zero, suc, List, [], ◌∷◌, Bool, true, false, refl, sym, subst, inl, inr}
use Rattle.std.proofs.lemmas.List.Elements.{All-nil, All-cons}
use Rattle.scj_base.specs.declared.values.Value.{Value}
use Rattle.scj_rules.specs.declared.typing.Scope.{Scope}
use Rattle.scj_rules.specs.declared.typing.Scope.TheVariants.{Any, This, Caller, In, Unknown, Lost}
use Rattle.scj_rules.specs.declared.typing.Ty.{Ty}
use Rattle.scj_rules.specs.declared.typing.Ty.TheVariants.{Class as ClassTy}
use Rattle.scj_rules.specs.Words.{is_among, ◌>>=◌}
use Rattle.scj_rules.specs.Contexts.{Declarations}
use Rattle.accepted_laws.specs.Kinds.{Kind, number, truth, yes, reference, fresh}
use Rattle.accepted_laws.proofs.Tools.{some_inj}
use Rattle.scj_model.specs.State.{MemoryArea}
use Rattle.frame_sound.specs.Places.{World, Place, LiesAt, area_around, within, held, IsObject, Has, AllHave}
use Rattle.frame_sound.specs.Fine.{IsOnList}
use Rattle.reference_sound.specs.References.{IfReference, EachReference, LiesIn, is_itself, lies_deeper, LiesAround, LiesInImmortal}

-- what holds of each object that lies where a kind says, holds of what a value of the kind refers to
module _ (p : Declarations) (w : World) (den : Scope → Place) (Q : ℕ → Type 0)
    (lies : (t : Ty) (s : Scope) (v : Value) (o : IsObject p w t (den s) v) → Q o.r) where
  referred : (t : Ty) (s : Scope) (v : Value) → IsObject p w t (den s) v → IfReference Q v
  referred t s v o = subst (IfReference Q) (sym o.is) (lies t s v o)

  pub has_referred : (k : Kind) (v : Value) → Has p w (held den k) v → IfReference Q v
  unfolding held
  has_referred number v h = subst (IfReference Q) (sym h.1) tt
  has_referred truth v h = subst (IfReference Q) (sym h.1) tt
  has_referred yes v h = subst (IfReference Q) (sym h) tt
  has_referred (reference t s) v (inl e) = subst (IfReference Q) (sym e) tt
  has_referred (reference t s) v (inr o) = referred t s v o
  has_referred (fresh c s) v o = referred (ClassTy c) s v o

  pub all_referred : (ks : List Kind) (vs : List Value) → AllHave p w den ks vs → EachReference Q vs
  all_referred [] [] h = All-nil (IfReference Q)
  all_referred [] (v ∷ vs) h = absurd h
  all_referred (k ∷ ks) [] h = absurd h
  all_referred (k ∷ ks) (v ∷ vs) h = All-cons (IfReference Q) v vs (has_referred k v h.0) (all_referred ks vs h.1)

-- ---- around an area

module _ (areas : ℕ → Option MemoryArea) where
  around_step : (n r bound a : ℕ) →
      ((b : ℕ) → area_around areas n bound b ≡ Some r → LiesIn areas b r) →
      areas a >>= (λ x. if x.scope == n then Some a else (x.parent >>= area_around areas n bound)) ≡ Some r →
      LiesIn areas a r
  around_step n r bound a ih e = go (areas a) refl e
    where
      up : (x : MemoryArea) → areas a ≡ Some x → (o : Option ℕ) → x.parent ≡ o →
          o >>= area_around areas n bound ≡ Some r → LiesIn areas a r
      up x there None up_ e = absurd (cc (e))
      up x there (Some b) up_ e = lies_deeper a b r x there up_ (ih b e)

      pick : (x : MemoryArea) → areas a ≡ Some x → (t : Bool) →
          (if t then Some a else (x.parent >>= area_around areas n bound)) ≡ Some r → LiesIn areas a r
      pick x there true e = subst (LiesIn areas a) (some_inj a r e) (is_itself a)
      pick x there false e = up x there x.parent refl e

      go : (o : Option MemoryArea) → areas a ≡ o →
          o >>= (λ x. if x.scope == n then Some a else (x.parent >>= area_around areas n bound)) ≡ Some r →
          LiesIn areas a r
      go None there e = absurd (cc (e))
      go (Some x) there e = pick x there (x.scope == n) e

  pub around_lies : (n r bound a : ℕ) → area_around areas n bound a ≡ Some r → LiesIn areas a r
  unfolding area_around
  around_lies n r zero a e = absurd (cc (e))
  around_lies n r (suc bound) a e = around_step n r bound a (λ b e. around_lies n r bound b e) e

  pub within_lies : (a : ℕ) (s : Scope) (b : ℕ) → LiesAt (within areas a s) b → LiesIn areas a b
  unfolding within
  within_lies a This b e = subst (LiesIn areas a) (some_inj a b e) (is_itself a)
  within_lies a (In n) b e = around_lies n b (suc a) a e
  within_lies a Caller b e = absurd (cc (e))
  within_lies a Any b e = absurd (cc (e))
  within_lies a Unknown b e = absurd (cc (e))
  within_lies a Lost b e = absurd (cc (e))

  -- around the first area there is only itself
  pub within_first : (s : Scope) (b : ℕ) → LiesAt (within areas 0 s) b → b ≡ 0
  unfolding within area_around
  within_first This b e = sym (some_inj 0 b e)
  within_first (In n) b e = go (areas 0) e
    where
      up : (o : Option ℕ) → o >>= area_around areas n 0 ≡ Some b → b ≡ 0
      up None e = absurd (cc (e))
      up (Some c) e = absurd (cc (e))

      pick : (x : MemoryArea) (t : Bool) → (if t then Some 0 else (x.parent >>= area_around areas n 0)) ≡ Some b → b ≡ 0
      pick x true e = sym (some_inj 0 b e)
      pick x false e = up x.parent e

      go : (o : Option MemoryArea) →
          o >>= (λ x. if x.scope == n then Some 0 else (x.parent >>= area_around areas n 0)) ≡ Some b → b ≡ 0
      go None e = absurd (cc (e))
      go (Some x) e = pick x (x.scope == n) e
  within_first Caller b e = absurd (cc (e))
  within_first Any b e = absurd (cc (e))
  within_first Unknown b e = absurd (cc (e))
  within_first Lost b e = absurd (cc (e))

-- ---- what slots and static fields refer to

module _ (p : Declarations) (w : World) where
  pub has_around : (a : ℕ) (k : Kind) (v : Value) → Has p w (held (within w.areas a) k) v →
      IfReference (LiesAround w a) v
  has_around a k v h =
      has_referred p w (within w.areas a) (LiesAround w a) (λ t s v o. record {
        object = o.object;
        found = o.found;
        around = within_lies w.areas a s o.object.area o.lies;
      }) k v h

  pub has_in_first : (k : Kind) (v : Value) → Has p w (held (within w.areas 0) k) v → IfReference (LiesInImmortal w) v
  has_in_first k v h =
      has_referred p w (within w.areas 0) (LiesInImmortal w) (λ t s v o. record {
        object = o.object;
        found = o.found;
        in_first = within_first w.areas s o.object.area o.lies;
      }) k v h

  -- what a frame sees lies on its list
  pub all_on_list : (list : List ℕ) (den : Scope → Place) →
      ((s : Scope) (a : ℕ) → LiesAt (den s) a → is_among a list ≡ true) → (ks : List Kind) (vs : List Value) →
      AllHave p w den ks vs → EachReference (IsOnList w list) vs
  all_on_list list den on ks vs h =
      all_referred p w den (IsOnList w list) (λ t s v o. record {
        object = o.object;
        found = o.found;
        on_list = on s o.object.area o.lies;
      }) ks vs h
