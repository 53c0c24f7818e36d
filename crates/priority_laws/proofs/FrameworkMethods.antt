-- In an accepted program a method that overrides or implements one of the framework isn't synchronized: C11 is broken
-- at one that is.
use Rattle.std.proofs.Common.{◌≡◌, ℕ, zero, suc, ◌+◌, ◌<◌, ◌==◌, Bool, true, false, ◌||◌, ◌&&◌, List, [], ◌∷◌, length, ◌⊎◌, inl, inr, Option, Some, None, if◌then◌else◌, refl, sym, ap, ◌∙◌, subst, arith}
use Rattle.std.specs.Prelude.{slice_get, is_some}
use Rattle.std.specs.List.{list_any}
use Rattle.std.proofs.lemmas.Bool.Decides.{nat_tests}
use Rattle.scj_base.specs.declared.findings.Rule.TheVariants.{C11}
use Rattle.scj_builtins.specs.Framework.{mission_clean_up}
use Rattle.scj_tree.specs.declared.nodes.Node.{Node}
use Rattle.scj_tree.specs.declared.nodes.Node.TheVariants.{Method}
use Rattle.scj_tree.specs.Forest.{Forest}
use Rattle.scj_rules.specs.declared.views.Body.{Body}
use Rattle.scj_rules.specs.declared.views.Body.TheVariants.{Written as written, Empty as empty}
use Rattle.scj_rules.specs.declared.views.Modifiers.{Modifiers}
use Rattle.scj_rules.specs.Words.{along, holds, ◌>>=◌}
use Rattle.scj_rules.specs.Views.{DeclaredMethod, method_of, modifiers_at}
use Rattle.scj_rules.specs.Classes.{FoundMethod, superclasses, method_named}
use Rattle.scj_rules.specs.Contexts.{Declarations, declarations_of, context, member_flags}
use Rattle.scj_rules.specs.ClassRules.{c9, c11, node_breaks, has_class_words, is_misplaced_on_method, is_wrongly_synchronized, is_framework_method, numbers_from}
use Rattle.scj_rules.specs.Bodies.{body_named, body_of_method, is_synchronized_body}
use Rattle.scj_rules.specs.Phases.{IsAccepted}
use Rattle.accepted_laws.specs.Overriding.{IsUserMethod}
use Rattle.accepted_laws.specs.Programs.{IsAcceptedProgram}
use Rattle.accepted_laws.specs.Sorts.{IsWellSorted}
use Rattle.accepted_laws.proofs.Breaks.{both_empty, right, no_break_at_node}
use Rattle.accepted_laws.proofs.ClassSorts.{well_sorted}
use Rattle.accepted_laws.proofs.Dispatch.{OwnDeclaration, own_declaration, user_method, on_superclass}
use Rattle.accepted_laws.proofs.Fields.{In, here, there}
use Rattle.accepted_laws.proofs.Tools.{some_inj}
use Rattle.scj_model.specs.Code.{code_of}
use Rattle.priority_laws.specs.Premises.{is_synchronized}
use Rattle.priority_laws.proofs.AcceptedConstructors.{found}

-- ---- tests

unsynchronized : (s first second framework : Bool) → (s && (first || second || framework)) ≡ false → framework ≡ true →
    s ≡ false
unsynchronized false first second framework h f = refl
unsynchronized true true second framework h f = absurd (cc (h))
unsynchronized true false true framework h f = absurd (cc (h))
unsynchronized true false false framework h f = absurd (cc (h, f))

last_of_three : (a b c : Bool) → (a || b || c) ≡ false → c ≡ false
last_of_three true b c h = absurd (cc (h))
last_of_three false true c h = absurd (cc (h))
last_of_three false false c h = h

pub any_passes : {A : Type 0} (test : A → Bool) (x : A) (xs : List A) → In x xs → test x ≡ true →
    list_any test xs ≡ true
any_passes test x [] i t = elim i [ ]
any_passes test x (y ∷ xs) here t = ap (λ b. b || list_any test xs) t
any_passes test x (y ∷ xs) (there i) t = or_right (test y) (list_any test xs) (any_passes test x xs i t)
  where
    or_right : (a b : Bool) → b ≡ true → (a || b) ≡ true
    or_right true b h = refl
    or_right false b h = h

pub in_numbers : {A : Type 0} (xs : List A) (n k : ℕ) → k < length xs → In (n + k) (numbers_from n xs)
unfolding numbers_from
in_numbers [] n k l = absurd (omega (arith, l))
in_numbers (x ∷ xs) n zero l = let e : n ≡ n + 0 = omega arith in subst (λ m. In m (n ∷ numbers_from (n + 1) xs)) e here
in_numbers (x ∷ xs) n (suc k) l =
    let e : n + 1 + k ≡ n + suc k = omega arith in
    subst (λ m. In m (n ∷ numbers_from (n + 1) xs)) e (there (in_numbers xs (n + 1) k (omega (arith, l))))

picked : {B : Type 0} (o rest : Option B) → (is_some o ≡ true) ⊎ (is_some rest ≡ true) →
    is_some (elim o as (λ z. Option B) [ None ↦ rest | Some z ↦ Some z ]) ≡ true
picked None rest (inl e) = absurd (cc (e))
picked None rest (inr e) = e
picked (Some z) rest e = refl

pub along_some : {A B : Type 0} (f : A → Option B) (x : A) (xs : List A) → In x xs → is_some (f x) ≡ true →
    is_some (along f xs) ≡ true
unfolding along
along_some f x [] i h = elim i [ ]
along_some f x (y ∷ xs) here h = picked (f x) (along f xs) (inl h)
along_some f x (y ∷ xs) (there i) h = picked (f y) (along f xs) (inr (along_some f x xs i h))

pub head_same : (x y : ℕ) (xs ys : List ℕ) → x ∷ xs ≡ y ∷ ys → x ≡ y
head_same x y xs ys e = cc (e)

pub tail_same : (x y : ℕ) (xs ys : List ℕ) → x ∷ xs ≡ y ∷ ys → xs ≡ ys
tail_same x y xs ys e = cc (e)

pub in_cases : (y x : ℕ) (xs : List ℕ) → In y (x ∷ xs) → (y ≡ x) ⊎ In y xs
in_cases y x xs here = inl refl
in_cases y x xs (there i) = inr i

pub same_is : (n : ℕ) → (n == n) ≡ true
same_is n = grind (arith, nat_tests)

module _ (forest : Forest) (a : IsAcceptedProgram forest) where
  abbrev p : Declarations
  p = declarations_of forest

  pub accepted : IsAccepted forest
  accepted = a.is_accepted

  pub sorted : IsWellSorted forest.nodes
  sorted = well_sorted forest a.is_read

  -- ---- a method that overrides or implements one of the framework isn't synchronized

  at_method : (id : ℕ) (node : Node) (m : DeclaredMethod) → slice_get p.nodes id ≡ Some node →
      method_of p.nodes id node ≡ Some m → is_framework_method p (context p id).class id m.declared.name ≡ true →
      is_synchronized_body p id ≡ false
  unfolding method_of is_synchronized_body node_breaks c11 member_flags
  at_method id (Method position name flags result_type parameters body) m stands e h =
      let w : Modifiers = modifiers_at p.nodes flags in
      let n = no_break_at_node forest accepted id (Method position name flags result_type parameters body) stands in
      let none =
      (both_empty (c9 p (Method position name flags result_type parameters body))
      (c11 p id (Method position name flags result_type parameters body)) n.no_class_rule).1 in
      let test : is_misplaced_on_method p id name w ≡ false = right (is_misplaced_on_method p id name w) C11 position none
      in
      let wrong : is_wrongly_synchronized p id name w ≡ false =
      last_of_three (has_class_words w) (w.is_static && w.is_abstract) (is_wrongly_synchronized p id name w) test in
      let named : m.declared.name ≡ name = ap (λ (x : DeclaredMethod). x.declared.name) (sym (some_inj _ m e)) in
      let framework : is_framework_method p (context p id).class id name ≡ true =
      ap (λ n. is_framework_method p (context p id).class id n) (sym named) ∙ h in
      let plain : w.is_synchronized ≡ false =
      unsynchronized w.is_synchronized w.is_static w.is_abstract
      (is_framework_method p (context p id).class id name) wrong framework in
      ap (λ (o : Option Node). holds (o >>= member_flags) (λ flags. (modifiers_at p.nodes flags).is_synchronized))
      stands ∙ plain
  at_method id _ m stands e h = absurd (cc (e))

  user_plain : (f : FoundMethod) → IsUserMethod p f →
      is_framework_method p (Some f.on) f.method.declared.node f.method.declared.name ≡ true →
      is_synchronized_body p f.method.declared.node ≡ false
  user_plain f u h =
      let n = found (slice_get p.nodes f.method.declared.node) (method_of p.nodes f.method.declared.node) f.method
      u.is_there in
      at_method f.method.declared.node n.0 f.method n.1 n.2
      (ap (λ (o : Option ℕ). is_framework_method p o f.method.declared.node f.method.declared.name) u.stands_in_class
      ∙ h)

  -- what a user class declares, as a class of the framework or an interface of it does
  pub record IsOfUser (class : ℕ) (name : List ℕ) (f : FoundMethod) : Type 0 where
    pub is : method_named p.classes class name ≡ Some f
    pub user : IsUserMethod p f
    pub on_chain : In f.on (superclasses p.classes class)
    pub named : f.method.declared.name ≡ name

  of_user : (class : ℕ) (name : List ℕ) (f : FoundMethod) → method_named p.classes class name ≡ Some f →
      f.method.builtin ≡ None → IsOfUser class name f
  of_user class name f e n =
      let q = on_superclass forest accepted a.whole sorted class name f e (ap is_some n) in
      let d : OwnDeclaration forest accepted q.0 name f = own_declaration forest accepted q.0 name f q.2 in
      record {
        is = e;
        user = user_method forest accepted a.whole sorted q.0 name f q.2 (ap is_some n);
        on_chain = subst (λ y. In y (superclasses p.classes class)) (sym d.on) q.1;
        named = sym d.same_name;
      }

  -- the body of a name isn't synchronized, if a user's method of that name is a framework method
  pub body_plain : (class : ℕ) (name : List ℕ) (body : Body) → body_named p class name ≡ Some body →
      ((f : FoundMethod) → IsOfUser class name f →
      is_framework_method p (Some f.on) f.method.declared.node name ≡ true) →
      is_synchronized (code_of forest) body ≡ false
  unfolding body_named body_of_method code_of
  body_plain class name body e h =
      let f = found (method_named p.classes class name) body_of_method body e in go f.0 f.1 f.0.method.builtin refl f.2
    where
      plain : (f : FoundMethod) → IsOfUser class name f → is_synchronized_body p f.method.declared.node ≡ false
      plain f u =
          user_plain f u.user (ap (λ n. is_framework_method p (Some f.on) f.method.declared.node n) u.named ∙ h f u)

      framework : (f : FoundMethod) (t : Bool) → (if t then Some empty else None) ≡ Some body →
          is_synchronized (code_of forest) body ≡ false
      framework f true k = subst (λ b. is_synchronized (code_of forest) b ≡ false) (some_inj empty body k) refl
      framework f false k = absurd (cc (k))

      go : (f : FoundMethod) → method_named p.classes class name ≡ Some f → (o : Option ℕ) → f.method.builtin ≡ o →
          body_of_method f ≡ Some body → is_synchronized (code_of forest) body ≡ false
      go f is None n k =
          let same : written f.method.declared.node ≡ body =
          some_inj (written f.method.declared.node) body
          (sym
          (ap
          (λ (o : Option ℕ). elim o as (λ z. Option Body) [
            | None ↦ Some (written f.method.declared.node)
            | Some method ↦ if method == mission_clean_up then Some empty else None
          ]) n) ∙ k) in
          subst (λ b. is_synchronized (code_of forest) b ≡ false) same (plain f (of_user class name f is n))
      go f is (Some method) n k =
          framework f (method == mission_clean_up)
          (sym
          (ap
          (λ (o : Option ℕ). elim o as (λ z. Option Body) [
            | None ↦ Some (written f.method.declared.node)
            | Some method ↦ if method == mission_clean_up then Some empty else None
          ]) n) ∙ k)
