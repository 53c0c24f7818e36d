-- A frame that begins in an area that was opened for it.
use Rattle.std.specs.Prelude.{Option, Some, None, slice_get, ◌||◌, ◌==◌, ◌++◌}
use Rattle.std.proofs.Common.{◌≡◌, ℕ, List, [], ◌∷◌, length, true, false, refl, sym, ◌∙◌, ap, subst, arith, true≢false, ◌⊎◌, inl, inr}
use Rattle.std.proofs.lemmas.Bool.Decides.{nat_tests}
use Rattle.scj_rules.specs.declared.typing.Scope.{Scope}
use Rattle.scj_rules.specs.declared.typing.Scope.TheVariants.{Caller, In}
use Rattle.scj_rules.specs.declared.typing.Ty.TheVariants.{Class as ClassTy}
use Rattle.scj_rules.specs.declared.views.Body.{Body}
use Rattle.scj_rules.specs.declared.views.Body.TheVariants.{Written, Empty}
use Rattle.scj_rules.specs.Words.{is_among}
use Rattle.accepted_laws.proofs.Lists.{get_last}
use Rattle.accepted_laws.proofs.Tools.{some_inj}
use Rattle.scj_model.specs.Code.{Code}
use Rattle.scj_model.specs.State.{MemoryArea, Object}
use Rattle.scj_model.specs.Ops.{body_ops}
use Rattle.scj_model.specs.Effects.{new_frame}
use Rattle.scope_flow.specs.Facts.{Facts}
use Rattle.scope_flow.specs.Needs.{pushed}
use Rattle.scope_flow.specs.Signatures.{Runs, Signature}
use Rattle.scope_flow.specs.Slots.{IsOfType}
use Rattle.scope_flow.proofs.Courses.{entry_stood}
use Rattle.frame_sound.specs.Places.{AllHave, World, in_one, the_area, area_named, denote}
use Rattle.frame_sound.specs.Fine.{HeapFine, ListFine, Ready}
use Rattle.frame_sound.proofs.Begins.{begins, on_this}
use Rattle.frame_sound.proofs.Changes.{look}
use Rattle.frame_sound.proofs.GuardSteps.{leaves_guarded}
use Rattle.frame_sound.proofs.Opens.{list_open}

-- ---- a body without arguments on an object, written or the framework's

module _ (code : Code) (facts : Facts code) (w : World) (list : List ℕ) (fine : ListFine w.areas list)
    (heap : HeapFine code.program w) (now : ℕ) (now_on : is_among now list ≡ true) (r : ℕ) (object : Object)
    (found : w.objects r ≡ Some object) (on_list : is_among object.area list ≡ true) (on : ℕ)
    (of_type : IsOfType code.program object.class (ClassTy on)) where
  pub body_begins : (body : Body) (sig : Signature) → Runs code.program body on sig → (called_at : Option ℕ) →
      denote w list (Some r) now sig.runs_in ≡ the_area now → sig.takes ≡ [] →
      Ready code w list on sig (new_frame code body called_at (Some r) now []) None
  unfolding Runs new_frame body_ops pushed
  body_begins (Written b) sig body called_at runs takes =
      begins code facts w list fine heap now now_on r object found on_list on of_type b sig body called_at runs []
      (subst (λ ks. AllHave code.program w (denote w list (Some r) now) ks []) (sym takes) tt)
  body_begins Empty sig body called_at runs takes =
      record {
        runs = body;
        home = record {
          own = λ f. absurd (true≢false (sym f));
          on_list = on_this code facts w list fine heap now now_on r object found on_list on of_type;
          now_on_list = now_on;
          is_now = runs;
        };
        known = [];
        kinds = [];
        operands = tt;
        locals = record { long = refl; each = λ i v k there is known. absurd (cc (there)); fits = λ i v value there has. absurd (cc (there)) };
        flow = (entry_stood code Empty on, ap (λ (s : Signature). s.gives) body.1);
        guards = leaves_guarded code w Empty (Some r) _ None [];
      }

  -- in an area that was opened for the frame
  pub body_begins_in : (body : Body) (sig : Signature) → Runs code.program body on sig → (called_at : Option ℕ) →
      denote w list (Some r) now sig.runs_in ≡ the_area now → sig.takes ≡ [] → (from : ℕ) →
      Ready code w list on sig
      (record (new_frame code body called_at (Some r) from []) { area = now; opened = Some now }) None
  unfolding new_frame
  body_begins_in body sig is called_at runs takes from =
      let x = body_begins body sig is called_at runs takes in
      record {
        runs = x.runs;
        home = x.home;
        known = x.known;
        kinds = x.kinds;
        operands = x.operands;
        locals = x.locals;
        flow = x.flow;
        guards = x.guards;
      }

-- ---- the list with a new area in front, inside one that stands on it

module _ (areas : List MemoryArea) (objects : List Object) (low : List ℕ) (scope inner bytes : ℕ)
    (fine : ListFine (λ b. slice_get areas b) low) (inner_on : is_among inner low ≡ true)
    (unnamed : area_named (λ b. slice_get areas b) scope low ≡ None) where
  abbrev pub new : MemoryArea
  new = record { scope = scope; parent = Some inner; bytes = bytes; is_open = true }

  abbrev pub more : World
  more = look (λ b. slice_get (areas ++ new ∷ []) b) objects

  abbrev pub a : ℕ
  a = length areas

  pub list_fine : ListFine more.areas (a ∷ low)
  list_fine =
      list_open areas new low fine refl unnamed
      (λ b e. subst (λ y. is_among y low ≡ true) (some_inj inner b e) inner_on)

  pub new_on : is_among a (a ∷ low) ≡ true
  new_on = let t : (a == a) ≡ true = grind (arith, nat_tests) in ap (λ b. b || is_among a low) t

  pub still_on : (b : ℕ) → is_among b low ≡ true → is_among b (a ∷ low) ≡ true
  still_on b e = elim (b == a) as (λ t. (t || is_among b low) ≡ true) [ true ↦ refl | false ↦ e ]

  found_new : area_named more.areas scope (a ∷ low) ≡ Some a
  found_new =
      let q = list_fine.found a new_on in
      let one : q.0 ≡ new = some_inj q.0 new (sym q.1 ∙ get_last areas new) in
      subst (λ (y : MemoryArea). area_named more.areas y.scope (a ∷ low) ≡ Some a) one q.2

  pub runs_in_new : (this : Option ℕ) (s : Scope) → (s ≡ Caller) ⊎ (s ≡ In scope) →
      denote more (a ∷ low) this a s ≡ the_area a
  unfolding denote
  runs_in_new this s (inl e) = ap (denote more (a ∷ low) this a) e
  runs_in_new this s (inr e) = ap (denote more (a ∷ low) this a) e ∙ ap (λ o. in_one o) found_new
