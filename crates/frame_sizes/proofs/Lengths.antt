-- Lists of which one has an element for each of another one's, and lists of which nothing is beyond a limit.
use Rattle.std.specs.Prelude.{Option, Some, None, is_some, filter, filter_map, drop, map, ◌&&◌, if◌then◌else◌}
use Rattle.std.specs.List.{cons_option}
use Rattle.std.proofs.Common.{◌≡◌, ◌≤◌, ℕ, zero, suc, List, [], ◌∷◌, length, Bool, true, false, refl, ◌∙◌, ap, arith}
use Rattle.scj_tree.specs.declared.nodes.Node.{Node}
use Rattle.scj_rules.specs.declared.typing.Ty.{Ty}
use Rattle.scj_rules.specs.declared.views.Declared.{Declared}
use Rattle.scj_rules.specs.Words.{◌>>=◌}
use Rattle.scj_rules.specs.Contexts.{Declarations}
use Rattle.scj_rules.specs.Types.{all_types, accepts_arguments}
use Rattle.accepted_laws.specs.Kinds.{Kind, kind_of_variable}
use Rattle.accepted_laws.proofs.Tools.{some_inj}
use Rattle.scope_flow.specs.Signatures.{kinds_of_variables}
use Rattle.flow_facts.proofs.Bodies.{AreDeclared}

pub none_mapped : {A B : Type 0} (f : A → B) (xs : List A) → map f xs ≡ [] → xs ≡ []
none_mapped f [] e = refl
none_mapped f (x ∷ xs) e = absurd (cc (e))

pub none_dropped : {A : Type 0} (n : ℕ) (xs : List A) → drop n xs ≡ [] → length xs ≤ n
none_dropped zero [] e = omega arith
none_dropped zero (x ∷ xs) e = absurd (cc (e))
none_dropped (suc n) [] e = omega arith
none_dropped (suc n) (x ∷ xs) e = (let l = none_dropped n xs e in omega (arith, l))

abbrev pub AllGive : {A B : Type 0} → (A → Option B) → List A → Type 0
AllGive f [] = Unit {0}
AllGive f (x ∷ xs) = (is_some (f x) ≡ true) × AllGive f xs

pub filtered_give : {A B : Type 0} (f : A → Option B) (t : A → Bool) → ((x : A) → t x ≡ true → is_some (f x) ≡ true) →
    (xs : List A) → AllGive f (filter t xs)
filtered_give f t h [] = tt
filtered_give f t h (x ∷ xs) = go (t x) refl (filtered_give f t h xs)
  where
    go : (b : Bool) → t x ≡ b → AllGive f (filter t xs) → AllGive f (if b then x ∷ filter t xs else filter t xs)
    go true e g = (h x e, g)
    go false e g = g

pub dropped_give : {A B : Type 0} (f : A → Option B) (n : ℕ) (xs : List A) → AllGive f xs → AllGive f (drop n xs)
dropped_give f zero xs h = h
dropped_give f (suc n) [] h = tt
dropped_give f (suc n) (x ∷ xs) h = dropped_give f n xs h.1

pub none_give : {A B : Type 0} (f : A → Option B) (xs : List A) → AllGive f xs → filter_map f xs ≡ [] → xs ≡ []
none_give f [] h e = refl
none_give {B = B} f (x ∷ xs) h e = go (f x) h.0 e
  where
    go : (o : Option B) → is_some o ≡ true → cons_option o (filter_map f xs) ≡ [] → x ∷ xs ≡ []
    go (Some y) s k = absurd (cc (k))
    go None s k = absurd (cc (s))

pub none_pass : {A : Type 0} (t : A → Bool) → ((x : A) → t x ≡ true → ⊥) → (xs : List A) → filter t xs ≡ []
none_pass t h [] = refl
none_pass t h (x ∷ xs) = go (t x) refl (none_pass t h xs)
  where
    go : (b : Bool) → t x ≡ b → filter t xs ≡ [] → (if b then x ∷ filter t xs else filter t xs) ≡ []
    go true e g = absurd (h x e)
    go false e g = g

pub first_true : (a b : Bool) → (a && b) ≡ true → a ≡ true
first_true true b e = refl
first_true false b e = absurd (cc (e))

pub second_true : (a b : Bool) → (a && b) ≡ true → b ≡ true
second_true true b e = e
second_true false b e = absurd (cc (e))

pub as_many_kinds : (p : Declarations) (vs : List ℕ) (ks : List Kind) → kinds_of_variables p vs ≡ Some ks →
    length vs ≡ length ks
unfolding kinds_of_variables
as_many_kinds p [] ks e = ap length (some_inj [] ks e)
as_many_kinds p (v ∷ vs) ks e =
    by_kind (kind_of_variable p v) (kinds_of_variables p vs) (λ js s. as_many_kinds p vs js s) e
  where
    by_kind : (o : Option Kind) (q : Option (List Kind)) → ((js : List Kind) → q ≡ Some js → length vs ≡ length js) →
        (o >>= (λ k. q >>= (λ ks. Some (k ∷ ks)))) ≡ Some ks → length (v ∷ vs) ≡ length ks
    by_kind None q s h = absurd (cc (h))
    by_kind (Some k) None s h = absurd (cc (h))
    by_kind (Some k) (Some js) s h =
        ap suc (s js refl) ∙ ap length (some_inj (k ∷ js) ks h)

pub as_many_declared : (nodes : List Node) (xs : List ℕ) (ds : List Declared) → AreDeclared nodes xs ds →
    length xs ≡ length ds
as_many_declared nodes [] [] h = refl
as_many_declared nodes (x ∷ xs) (d ∷ ds) h = ap suc (as_many_declared nodes xs ds h.2)
as_many_declared nodes [] (d ∷ ds) h = absurd h
as_many_declared nodes (x ∷ xs) [] h = absurd h

pub as_many_typed : (types : ℕ → Option Ty) (xs : List ℕ) (ts : List Ty) → all_types types xs ≡ Some ts →
    length xs ≡ length ts
unfolding all_types
as_many_typed types [] ts e = ap length (some_inj [] ts e)
as_many_typed types (x ∷ xs) ts e =
    by_type (types x) (all_types types xs) (λ us s. as_many_typed types xs us s) e
  where
    by_type : (o : Option Ty) (q : Option (List Ty)) → ((us : List Ty) → q ≡ Some us → length xs ≡ length us) →
        (o >>= (λ t. elim q as (λ z. Option (List Ty)) [ None ↦ None | Some us ↦ Some (t ∷ us) ])) ≡ Some ts →
        length (x ∷ xs) ≡ length ts
    by_type None q s h = absurd (cc (h))
    by_type (Some t) None s h = absurd (cc (h))
    by_type (Some t) (Some us) s h = ap suc (s us refl) ∙ ap length (some_inj (t ∷ us) ts h)

pub as_many_taken : (p : Declarations) (ds : List Declared) (ts : List Ty) → accepts_arguments p ds ts ≡ true →
    length ds ≡ length ts
unfolding accepts_arguments
as_many_taken p [] [] e = refl
as_many_taken p [] (t ∷ ts) e = absurd (cc (e))
as_many_taken p (d ∷ ds) [] e = absurd (cc (e))
as_many_taken p (d ∷ ds) (t ∷ ts) e = ap suc (as_many_taken p ds ts (second_true _ (accepts_arguments p ds ts) e))
