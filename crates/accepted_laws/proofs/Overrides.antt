-- What a class has for a method that a class above it has: the same, or an override with the same scopes as the class sees
-- them.
use Rattle.std.proofs.Common.{◌≡◌, ℕ, ◌<◌, List, [], ◌∷◌, ◌++◌, length, refl, sym, ap, ◌∙◌, arith, Option, Some, None, Bool, true, false, not, ◌||◌, ◌&&◌, true≢false, ◌⊎◌, is_some}
use Rattle.scj_rules.specs.declared.typing.Scope.{Scope}
use Rattle.scj_rules.specs.declared.typing.Scope.TheVariants.{This, Caller}
use Rattle.scj_rules.specs.declared.views.Declared.{Declared}
use Rattle.scj_rules.specs.Chains.{ComesBack}
use Rattle.scj_rules.specs.Words.{chain, chain_behind, along, holds, StaysBelow}
use Rattle.scj_rules.specs.Views.{DeclaredMethod}
use Rattle.scj_rules.specs.Classes.{FoundMethod, is_user_class, superclass_in, superclasses, classes_above, all_interfaces, own_method, method_named, method_above}
use Rattle.scj_rules.specs.Contexts.{Declarations}
use Rattle.scj_rules.specs.StaticScopes.{this_in, runs_in, parameter_scope}
use Rattle.scj_rules.specs.AnnotationRules.{seen_in, differ, parameters_differ, scopes_differ, a6_of}
use Rattle.accepted_laws.specs.Kinds.{seen_as}
use Rattle.accepted_laws.proofs.ChainSteps.{unroll}
use Rattle.accepted_laws.proofs.ClassScopes.{override_same, seen_in_as, seen_twice}
use Rattle.accepted_laws.proofs.Breaks.{right}

along_both : {A B : Type 0} (f : A → Option B) (xs ys : List A) → along f (xs ++ ys) ≡ elim (along f xs) as (λ _. Option B) [ None ↦ along f ys | Some y ↦ Some y ]
unfolding along
along_both f [] ys = refl
along_both {A} {B} f (x ∷ xs) ys = go (f x) (along_both f xs ys)
  where
    go : (o : Option B) → along f (xs ++ ys) ≡ elim (along f xs) as (λ _. Option B) [ None ↦ along f ys | Some y ↦ Some y ]
        → elim o as (λ _. Option B) [ None ↦ along f (xs ++ ys) | Some y ↦ Some y ] ≡ elim (elim o as (λ _. Option B) [ None ↦ along f xs | Some y ↦ Some y ]) as (λ _. Option B) [ None ↦ along f ys | Some y ↦ Some y ]
    go None e = e
    go (Some y) e = refl

pub seen_list : Scope → List Scope → List Scope
seen_list home [] = []
seen_list home (s ∷ ss) = seen_as home Caller s ∷ seen_list home ss

or_false : (a b : Bool) → (a || b) ≡ false → (a ≡ false) × (b ≡ false)
or_false true b e = absurd (true≢false e)
or_false false b e = (refl, e)

module _ (p : Declarations) (stays : StaysBelow (superclass_in p.classes) (length p.classes)) (acyclic : (a : ℕ) → ComesBack (superclass_in p.classes) a → ⊥)
    (interfaces : (class : ℕ) (name : List ℕ) (f : FoundMethod) → along (own_method p.classes name) (all_interfaces p.classes class) ≡ Some f → is_some f.method.builtin ≡ true) where
  abbrev own : List ℕ → ℕ → Option FoundMethod
  own name = own_method p.classes name

  -- what is a user's stands on the chain of superclasses
  pub on_chain : (class : ℕ) (name : List ℕ) (f : FoundMethod) → method_named p.classes class name ≡ Some f → is_some f.method.builtin ≡ false → along (own name) (superclasses p.classes class) ≡ Some f
  unfolding method_named
  on_chain class name f e user = go (along (own name) (superclasses p.classes class)) (sym (along_both (own name) (superclasses p.classes class) (all_interfaces p.classes class)) ∙ e)
    where
      go : (o : Option FoundMethod) → (elim o as (λ _. Option FoundMethod) [ None ↦ along (own name) (all_interfaces p.classes class) | Some y ↦ Some y ]) ≡ Some f → o ≡ Some f
      go None e = absurd (true≢false (sym (interfaces class name f e) ∙ user))
      go (Some y) e = e

  chain_is : (class above : ℕ) → class < length p.classes → superclass_in p.classes class ≡ Some above → superclasses p.classes class ≡ class ∷ superclasses p.classes above
  unfolding superclasses
  chain_is class above l up =
      unroll (superclass_in p.classes) (length p.classes) stays acyclic class l
      ∙ ap (λ o. class ∷ (elim o [ None ↦ [] | Some b ↦ chain (superclass_in p.classes) (length p.classes) b ])) up

  -- the method above is what the superclass has
  pub above_is : (class above : ℕ) (name : List ℕ) (f : FoundMethod) → superclass_in p.classes class ≡ Some above → method_named p.classes above name ≡ Some f → is_some f.method.builtin ≡ false → method_above p.classes class name ≡ Some f
  unfolding method_above classes_above chain_behind superclasses
  above_is class above name f up e user =
      ap (λ o. along (own name) ((elim o as (λ _. List ℕ) [ None ↦ [] | Some b ↦ chain (superclass_in p.classes) (length p.classes) b ]) ++ all_interfaces p.classes class)) up
      ∙ along_both (own name) (superclasses p.classes above) (all_interfaces p.classes class)
      ∙ ap (λ o. elim o as (λ _. Option FoundMethod) [ None ↦ along (own name) (all_interfaces p.classes class) | Some y ↦ Some y ]) (on_chain above name f e user)

  -- what a class has: its own, else what the superclass has
  pub named_is : (class above : ℕ) (name : List ℕ) (f : FoundMethod) → class < length p.classes → superclass_in p.classes class ≡ Some above → method_named p.classes above name ≡ Some f → is_some f.method.builtin ≡ false
      → method_named p.classes class name ≡ elim (own name class) as (λ _. Option FoundMethod) [ None ↦ Some f | Some g ↦ Some g ]
  unfolding method_named along
  named_is class above name f l up e user =
      ap (λ cs. along (own name) (cs ++ all_interfaces p.classes class)) (chain_is class above l up)
      ∙ ap (λ o. elim (own name class) as (λ _. Option FoundMethod) [ None ↦ o | Some g ↦ Some g ])
      (along_both (own name) (superclasses p.classes above) (all_interfaces p.classes class)
      ∙ ap (λ o. elim o as (λ _. Option FoundMethod) [ None ↦ along (own name) (all_interfaces p.classes class) | Some y ↦ Some y ]) (on_chain above name f e user))

  -- A6 at an override
  pub scopes_same : (class : ℕ) (m : DeclaredMethod) (f : FoundMethod) → a6_of p class m ≡ [] → m.declared.modifiers.is_static ≡ false → method_above p.classes class m.declared.name ≡ Some f → is_user_class f.on ≡ true → scopes_differ p class m f.on f.method ≡ false
  unfolding a6_of
  scopes_same class m f none static_ up user =
      let e = right _ _ _ none in
      sym (ap (λ t. not t && holds (method_above p.classes class m.declared.name) (λ (f : FoundMethod). is_user_class f.on && scopes_differ p class m f.on f.method)) static_
      ∙ ap (λ o. holds o (λ (f : FoundMethod). is_user_class f.on && scopes_differ p class m f.on f.method)) up ∙ ap (λ t. t && scopes_differ p class m f.on f.method) user) ∙ e

  -- the scope in which a method runs, as the class of an override sees it
  pub record Runs (r : Scope) (f : FoundMethod) : Type 0 where
    pub home : Scope
    pub is_home : this_in p f.on ≡ Some home
    pub is : runs_in p f.on f.method ≡ Some (seen_as home Caller r)

  pub runs_next : (class : ℕ) (m : DeclaredMethod) (f : FoundMethod) (r : Scope) → scopes_differ p class m f.on f.method ≡ false → Runs r f → (home now : Scope) → this_in p class ≡ Some home → runs_in p class m ≡ Some now
      → ((g : Scope) → this_in p f.on ≡ Some g → (g ≡ This) ⊎ (g ≡ home)) → Runs r (record { on = class; method = m })
  unfolding scopes_differ
  runs_next class m f r same w home now is_home is_now inherits =
      record {
        home = home;
        is_home = is_home;
        is = is_now ∙ ap (λ s. Some s) (override_same now (seen_as home Caller (seen_as w.home Caller r)) (runs_in p class m) (seen_in p class (runs_in p f.on f.method)) is_now
            (ap (seen_in p class) w.is ∙ seen_in_as p class home is_home (seen_as w.home Caller r)) (or_false _ _ same).0
            ∙ seen_twice home w.home (inherits w.home w.is_home) r);
      }

  -- and of the parameters
  pub Takes : (class : ℕ) → DeclaredMethod → List Declared → List Scope → Type 0
  Takes class m [] [] = Unit {0}
  Takes class m (d ∷ ds) (s ∷ ss) = (parameter_scope p class m d ≡ Some s) × Takes class m ds ss
  Takes class m [] (s ∷ ss) = ⊥
  Takes class m (d ∷ ds) [] = ⊥

  -- reference parameters alone have scopes; here all have one
  pub takes_next : (class : ℕ) (m : DeclaredMethod) (on : ℕ) (above : DeclaredMethod) (home : Scope) → this_in p class ≡ Some home → (ds es : List Declared) (ss ts : List Scope) → parameters_differ p class m on above ds es ≡ false → Takes class m ds ss → Takes on above es ts
      → length ds ≡ length es → ss ≡ (seen_list home ts)
  unfolding parameters_differ Takes seen_list
  takes_next class m on above home is_home [] [] [] [] e h k l = refl
  takes_next class m on above home is_home (d ∷ ds) (x ∷ es) (s ∷ ss) (t ∷ ts) e h k l =
      let parts = or_false (differ (parameter_scope p class m d) (seen_in p class (parameter_scope p on above x))) (parameters_differ p class m on above ds es) e in
      let same : s ≡ seen_as home Caller t = override_same s (seen_as home Caller t) (parameter_scope p class m d) (seen_in p class (parameter_scope p on above x)) h.0 (ap (seen_in p class) k.0 ∙ seen_in_as p class home is_home t) parts.0 in
      cc (same, takes_next class m on above home is_home ds es ss ts parts.1 h.1 k.1 (omega (arith, l)))
  takes_next class m on above home is_home [] [] (s ∷ ss) ts e h k l = absurd h
  takes_next class m on above home is_home [] [] [] (t ∷ ts) e h k l = absurd k
  takes_next class m on above home is_home [] (x ∷ es) ss ts e h k l = absurd (omega (arith, l))
  takes_next class m on above home is_home (d ∷ ds) [] ss ts e h k l = absurd (omega (arith, l))
  takes_next class m on above home is_home (d ∷ ds) (x ∷ es) [] ts e h k l = absurd h
  takes_next class m on above home is_home (d ∷ ds) (x ∷ es) (s ∷ ss) [] e h k l = absurd k
