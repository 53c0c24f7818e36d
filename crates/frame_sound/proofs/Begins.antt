-- The frame with which a body begins.
use Rattle.std.specs.Prelude.{Option, Some, None, slice_get, replicate, ◌-◌, ◌+◌}
use Rattle.std.proofs.Common.{◌≡◌, ℕ, zero, suc, ◌<◌, List, [], ◌∷◌, ◌++◌, length, true, refl, sym, ◌∙◌, ap, subst, arith, ◌⊎◌, inl, inr, length-append}
use Rattle.scj_base.specs.declared.values.Value.{Value}
use Rattle.scj_base.specs.declared.values.Value.TheVariants.{Null}
use Rattle.scj_rules.specs.declared.typing.Scope.{Scope}
use Rattle.scj_rules.specs.declared.typing.Scope.TheVariants.{This, In}
use Rattle.scj_rules.specs.declared.typing.Ty.TheVariants.{Class as ClassTy}
use Rattle.scj_rules.specs.declared.scopes.ClassScope.{ClassScope}
use Rattle.scj_rules.specs.declared.scopes.ClassScope.TheVariants.{Unannotated, Annotated, Missing}
use Rattle.scj_rules.specs.declared.views.Body.TheVariants.{Written}
use Rattle.scj_rules.specs.Words.{is_among, ◌>>=◌}
use Rattle.scj_rules.specs.Classes.{is_sub}
use Rattle.scj_rules.specs.Contexts.{Declarations}
use Rattle.scj_rules.specs.LimitRules.{variables_of}
use Rattle.scj_rules.specs.StaticScopes.{class_scope, this_in}
use Rattle.accepted_laws.specs.Kinds.{Kind, kind_of_variable}
use Rattle.accepted_laws.proofs.Tools.{some_inj}
use Rattle.accepted_laws.proofs.Lists.{get_within}
use Rattle.scj_model.specs.Code.{Code}
use Rattle.scj_model.specs.State.{Object}
use Rattle.scj_model.specs.Ops.{body_ops}
use Rattle.scj_model.specs.Effects.{new_frame}
use Rattle.scope_flow.specs.Slots.{IsOfType}
use Rattle.scope_flow.specs.Signatures.{Signature, IsBody, Runs, kinds_of_variables, parameters_of}
use Rattle.scope_flow.specs.Needs.{pushed}
use Rattle.scope_flow.specs.Facts.{Facts}
use Rattle.scope_flow.proofs.Courses.{entry_courses}
use Rattle.frame_sound.specs.Places.{World, Place, in_one, the_area, area_named, denote, held, Has, AllHave}
use Rattle.frame_sound.specs.Fine.{ListFine, HeapFine, IsOnList, HoldsNullOr, LocalFine, LocalsFine, Ready}
use Rattle.frame_sound.proofs.GuardSteps.{begins_guarded}

-- ---- locals

get_left : (xs ys : List Value) (i : ℕ) (x : Value) → slice_get xs i ≡ Some x → slice_get (xs ++ ys) i ≡ Some x
get_left [] ys i x e = absurd (cc (e))
get_left (y ∷ xs) ys zero x e = e
get_left (y ∷ xs) ys (suc i) x e = get_left xs ys i x e

-- what stands in two lists, one behind the other, stands in one of them
get_of_both : (xs ys : List Value) (i : ℕ) (x : Value) → slice_get (xs ++ ys) i ≡ Some x →
    (slice_get xs i ≡ Some x) ⊎ (slice_get ys (i - length xs) ≡ Some x)
get_of_both [] ys i x e = let z : i ≡ i - 0 = omega arith in inr (ap (slice_get ys) (sym z) ∙ e)
get_of_both (y ∷ xs) ys zero x e = inl e
get_of_both (y ∷ xs) ys (suc i) x e =
    elim (get_of_both xs ys i x e) as
    (λ z. (slice_get xs i ≡ Some x) ⊎ (slice_get ys (suc i - length (y ∷ xs)) ≡ Some x)) [
      | inl h ↦ inl h
      | inr h ↦ (let z : i - length xs ≡ suc i - suc (length xs) = omega arith in
          inr (ap (slice_get ys) (sym z) ∙ h))
    ]

get_left_only : (xs ys : List ℕ) (i : ℕ) → i < length xs → slice_get (xs ++ ys) i ≡ slice_get xs i
get_left_only [] ys i l = absurd (omega (arith, l))
get_left_only (x ∷ xs) ys zero l = refl
get_left_only (x ∷ xs) ys (suc i) l = get_left_only xs ys i (omega (arith, l))

get_replicated : (n i : ℕ) (x : Value) → slice_get (replicate n Null) i ≡ Some x → x ≡ Null
get_replicated zero i x e = absurd (cc (e))
get_replicated (suc n) zero x e = sym (some_inj Null x e)
get_replicated (suc n) (suc i) x e = get_replicated n i x e

pub length_replicate : {A : Type 0} (n : ℕ) (x : A) → length (replicate n x) ≡ n
length_replicate zero x = refl
length_replicate (suc n) x = ap suc (length_replicate n x)

pub record FirstKind (p : Declarations) (v : ℕ) (vs : List ℕ) (ks : List Kind) : Type 0 where
  pub kind : Kind
  pub others : List Kind
  pub is : ks ≡ kind ∷ others
  pub is_kind : kind_of_variable p v ≡ Some kind
  pub rest : kinds_of_variables p vs ≡ Some others

pub kinds_first : (p : Declarations) (v : ℕ) (vs : List ℕ) (ks : List Kind) →
    kinds_of_variables p (v ∷ vs) ≡ Some ks → FirstKind p v vs ks
unfolding kinds_of_variables
kinds_first p v vs ks e = go (kind_of_variable p v) refl e
  where
    more : (k : Kind) → kind_of_variable p v ≡ Some k → (o : Option (List Kind)) → kinds_of_variables p vs ≡ o →
        o >>= (λ ks. Some (k ∷ ks)) ≡ Some ks → FirstKind p v vs ks
    more k is None o e = absurd (cc (e))
    more k is (Some others) o e =
        record { kind = k; others = others; is = sym (some_inj _ _ e); is_kind = is; rest = o }

    go : (o : Option Kind) → kind_of_variable p v ≡ o →
        o >>= (λ k. kinds_of_variables p vs >>= (λ ks. Some (k ∷ ks))) ≡ Some ks → FirstKind p v vs ks
    go None o e = absurd (cc (e))
    go (Some k) o e = more k o (kinds_of_variables p vs) refl e

pub as_many_kinds : (p : Declarations) (vs : List ℕ) (ks : List Kind) → kinds_of_variables p vs ≡ Some ks →
    length vs ≡ length ks
unfolding kinds_of_variables
as_many_kinds p [] ks e = ap length (some_inj [] ks e)
as_many_kinds p (v ∷ vs) ks e =
    let q = kinds_first p v vs ks e in ap suc (as_many_kinds p vs q.others q.rest) ∙ ap length (sym q.is)

module _ (p : Declarations) (w : World) (den : Scope → Place) where
  all_as_many : (ks : List Kind) (vs : List Value) → AllHave p w den ks vs → length ks ≡ length vs
  all_as_many [] [] h = refl
  all_as_many [] (v ∷ vs) h = absurd h
  all_as_many (k ∷ ks) [] h = absurd h
  all_as_many (k ∷ ks) (v ∷ vs) h = ap suc (all_as_many ks vs h.1)

  -- the arguments are the first locals
  argument_is : (params : List ℕ) (ks : List Kind) (args : List Value) → kinds_of_variables p params ≡ Some ks →
      AllHave p w den ks args → (i v : ℕ) (k : Kind) → slice_get params i ≡ Some v → kind_of_variable p v ≡ Some k →
      LocalFine p w den args i k
  argument_is [] ks args e h i v k there is = absurd (cc (there))
  argument_is (x ∷ params) ks args e h i v k there is =
      go (kinds_first p x params ks e) args h i there (argument_is params)
    where
      go : (q : FirstKind p x params ks) (args : List Value) → AllHave p w den ks args → (i : ℕ) →
          slice_get (x ∷ params) i ≡ Some v →
          ((ks : List Kind) (args : List Value) → kinds_of_variables p params ≡ Some ks → AllHave p w den ks args →
          (i v : ℕ) (k : Kind) → slice_get params i ≡ Some v → kind_of_variable p v ≡ Some k →
          LocalFine p w den args i k) → LocalFine p w den args i k
      go q [] h i there ih = absurd (subst (λ x. AllHave p w den x []) q.is h)
      go q (a ∷ args) h zero there ih =
          let all : AllHave p w den (q.kind ∷ q.others) (a ∷ args) = subst (λ x. AllHave p w den x (a ∷ args)) q.is h in
          let same : q.kind ≡ k = some_inj q.kind k (sym q.is_kind ∙ ap (kind_of_variable p) (some_inj x v there) ∙ is)
          in
          record { value = a; is = refl; has = subst (λ x. Has p w (held den x) a) same all.0 }
      go q (a ∷ args) h (suc i) there ih =
          let all : AllHave p w den (q.kind ∷ q.others) (a ∷ args) = subst (λ x. AllHave p w den x (a ∷ args)) q.is h in
          let r = ih q.others args q.rest all.1 i v k there is in
          record { value = r.value; is = r.is; has = r.has }

  kind_there : (params : List ℕ) (ks : List Kind) → kinds_of_variables p params ≡ Some ks → (i v : ℕ) →
      slice_get params i ≡ Some v → (k : Kind) × (kind_of_variable p v ≡ Some k)
  kind_there [] ks e i v there = absurd (cc (there))
  kind_there (x ∷ params) ks e zero v there =
      let q = kinds_first p x params ks e in (q.kind, ap (kind_of_variable p) (sym (some_inj x v there)) ∙ q.is_kind)
  kind_there (x ∷ params) ks e (suc i) v there =
      let q = kinds_first p x params ks e in kind_there params q.others q.rest i v there

  pub locals_begin : (b c : ℕ) (sig : Signature) → IsBody p b c sig → (args : List Value) →
      AllHave p w den sig.takes args →
      LocalsFine p w den (Written b) (parameters_of p b)
      (args ++ replicate (length (variables_of p b) - length args) Null)
  locals_begin b c sig body args h =
      record {
        long = long;
        each = λ i v k there is known.
            (let r = argument_is (parameters_of p b) sig.takes args body.takes h i v k (body.first i v there known) is
            in
            record { value = r.value; is = get_left args _ i r.value r.is; has = r.has });
        fits = λ i v value there has.
            elim (get_of_both args (replicate (length (variables_of p b) - length args) Null) i value has) as
            (λ z. HoldsNullOr p w den v value) [
              | inl e ↦ (let param = parameter i v there (get_within args i value e) in
                  let k = kind_there (parameters_of p b) sig.takes body.takes i v param in
                  let r = argument_is (parameters_of p b) sig.takes args body.takes h i v k.0 param k.1 in
                  let same : r.value ≡ value = some_inj r.value value (sym r.is ∙ e) in
                  inr (k.0, k.1, subst (λ x. Has p w (held den k.0) x) same r.has))
              | inr e ↦ inl (get_replicated (length (variables_of p b) - length args) (i - length args) value e)
            ];
      }
    where
      many : length args ≡ length (parameters_of p b)
      many = sym (as_many_kinds p (parameters_of p b) sig.takes body.takes ∙ all_as_many sig.takes args h)

      all : length (variables_of p b) ≡ length (parameters_of p b) + length body.more
      all = ap length body.variables ∙ length-append (parameters_of p b) body.more

      -- the variable of an argument is a parameter
      parameter : (i v : ℕ) → slice_get (variables_of p b) i ≡ Some v → i < length args →
          slice_get (parameters_of p b) i ≡ Some v
      parameter i v there l =
          sym (get_left_only (parameters_of p b) body.more i (let m = many in omega (arith, l, m)))
          ∙ (ap (λ vs. slice_get vs i) (sym body.variables) ∙ there)

      long : length (args ++ replicate (length (variables_of p b) - length args) Null) ≡ length (variables_of p b)
      long =
          let e = length-append args (replicate (length (variables_of p b) - length args) Null) in
          let r = length_replicate (length (variables_of p b) - length args) Null in
          omega (arith, e, r, many, all)

-- ---- where the callee's own object lies

-- THIS in a class is THIS or a named scope
pub home_cases : (p : Declarations) (c : ℕ) (h : Scope) → this_in p c ≡ Some h → (h ≡ This) ⊎ ((n : ℕ) × (h ≡ In n))
unfolding this_in
home_cases p c h e = go (class_scope p c) e
  where
    go : (s : ClassScope) → (elim s [ Unannotated ↦ Some This | Annotated s ↦ Some (In s) | Missing ↦ None ]) ≡ Some h →
        (h ≡ This) ⊎ ((n : ℕ) × (h ≡ In n))
    go Unannotated e = inl (sym (some_inj This h e))
    go (Annotated n) e = inr (n, sym (some_inj (In n) h e))
    go Missing e = absurd (cc (e))

module _ (code : Code) (facts : Facts code) (w : World) (list : List ℕ) (fine : ListFine w.areas list)
    (heap : HeapFine code.program w) (now : ℕ) (now_on : is_among now list ≡ true) (r : ℕ) (object : Object)
    (found : w.objects r ≡ Some object) (on_list : is_among object.area list ≡ true) (on : ℕ)
    (of_type : IsOfType code.program object.class (ClassTy on)) where
  abbrev there : Scope → Place
  there = denote w list (Some r) now

  is_sub_of : is_sub code.program.classes object.class on ≡ true
  unfolding IsOfType
  is_sub_of = of_type.1

  -- scopes in normal form meet here: THIS, as the class of a callee has it, is where its object lies
  pub home_denotes : (h : Scope) → this_in code.program on ≡ Some h → there h ≡ the_area object.area
  unfolding denote
  home_denotes h is = go (home_cases code.program on h is)
    where
      here : Some r >>= w.objects >>= (λ o. Some o.area) ≡ Some object.area
      here = ap (λ (o : Option Object). o >>= (λ o. Some o.area)) found

      placed : (n : ℕ) → h ≡ In n → area_named w.areas n list ≡ Some object.area
      placed n e =
          let o = heap r object found in
          let x = fine.found object.area on_list in
          let named : o.area.scope ≡ n =
          o.is_placed n (facts.inherits object.class on n is_sub_of (is ∙ ap (λ s. Some s) e)) in
          let one : x.0 ≡ o.area = some_inj x.0 o.area (sym x.1 ∙ o.is_area) in
          subst (λ m. area_named w.areas m list ≡ Some object.area) (ap (λ y. y.scope) one ∙ named) x.2

      go : (h ≡ This) ⊎ ((n : ℕ) × (h ≡ In n)) → denote w list (Some r) now h ≡ the_area object.area
      go (inl e) = ap (denote w list (Some r) now) e ∙ ap (λ o. in_one o) here
      go (inr e) = ap (denote w list (Some r) now) e.1 ∙ ap (λ o. in_one o) (placed e.0 e.1)

  pub on_this : (s : ℕ) → Some r ≡ Some s → IsOnList w list s
  on_this s e =
      record { object = object; found = ap w.objects (sym (some_inj r s e)) ∙ found; on_list = on_list }

  -- a body that begins on the object
  pub begins : (b : ℕ) (sig : Signature) (body : IsBody code.program b on sig) (called_at : Option ℕ) →
      there sig.runs_in ≡ the_area now → (args : List Value) → AllHave code.program w there sig.takes args →
      Ready code w list on sig (new_frame code (Written b) called_at (Some r) now args) None
  unfolding pushed new_frame body_ops Runs
  begins b sig body called_at runs args h =
      record {
        runs = body;
        home = record {
          own = λ e. record {
            r = r;
            is = refl;
            object = object;
            found = found;
            of_type = of_type;
            lies = home_denotes;
          };
          on_list = on_this;
          now_on_list = now_on;
          is_now = runs;
        };
        known = parameters_of code.program b;
        kinds = [];
        operands = tt;
        locals = locals_begin code.program w there b on sig body args h;
        flow = entry_courses code facts b on sig body;
        guards = begins_guarded code facts w b on sig body (Some r) _ None [];
      }
