-- The scope in which `run` runs in the classes under one: that of an override above, or else the scope that the class
-- defines.
use Rattle.std.proofs.Common.{◌≡◌, ℕ, ◌<◌, List, ◌++◌, length, filter, refl, sym, ap, ◌∙◌, subst, arith, Option, Some, None, Bool, true, false, not, ◌==◌, true≢false, ◌⊎◌, inl, inr, option_and_then, option_map, is_some, if◌then◌else◌}
use Rattle.std.proofs.lemmas.Bool.{le-ltb}
use Rattle.scj_base.specs.Bytes.{is_same}
use Rattle.scj_builtins.specs.Framework.{framework_methods, runnable, runnable_run}
use Rattle.scj_tree.specs.Forest.{Forest, IsForest}
use Rattle.scj_rules.specs.declared.typing.Scope.{Scope}
use Rattle.scj_rules.specs.declared.typing.Scope.TheVariants.{Caller, In}
use Rattle.scj_rules.specs.Words.{is_among, along}
use Rattle.scj_rules.specs.Views.{DeclaredMethod}
use Rattle.scj_rules.specs.CheckedProgram.{IsReadFromTexts}
use Rattle.scj_rules.specs.Classes.{FoundMethod, framework_method, first_user_class, is_user_class, superclass_in, superclasses, all_interfaces, is_sub, own_method, method_named, framework_row_named}
use Rattle.scj_rules.specs.ClassRules.{both_static}
use Rattle.scj_rules.specs.Contexts.{Declarations, declarations_of}
use Rattle.scj_rules.specs.ScopeRules.{defined_by_chain}
use Rattle.scj_rules.specs.StaticScopes.{has_wrong_runs_in, fixed_scope, fixed_runs_in, fixed_for, free_runs_in, runs_in}
use Rattle.scj_rules.specs.UseRules.{of_user, run_of}
use Rattle.scj_rules.specs.Phases.{IsAccepted}
use Rattle.scj_rules.proofs.ChainLemmas.{or_left, or_right}
use Rattle.scj_rules.proofs.WithinLemmas.{counted-stays}
use Rattle.accepted_laws.specs.Judgements.{HasScope}
use Rattle.accepted_laws.specs.Kinds.{seen_as}
use Rattle.accepted_laws.specs.Overriding.{IsUserMethod, OverridesInSteps, itself, by_step}
use Rattle.accepted_laws.specs.Sorts.{IsWellSorted}
use Rattle.accepted_laws.proofs.ClassChains.{acyclic}
use Rattle.accepted_laws.proofs.ClassNumbers.{framework_count}
use Rattle.accepted_laws.proofs.DeclarationScopes.{runs_in_has_scope}
use Rattle.accepted_laws.proofs.Dispatch.{dispatches, own_declaration, user_method}
use Rattle.accepted_laws.proofs.DispatchScopes.{runs_as}
use Rattle.accepted_laws.proofs.Fields.{along_in, in_filter}
use Rattle.accepted_laws.proofs.Interfaces.{interfaces_give_framework_methods, row_is, own_of_framework}
use Rattle.accepted_laws.proofs.Overrides.{on_chain}
use Rattle.accepted_laws.proofs.Positions.{same_name}
use Rattle.accepted_laws.proofs.Subtypes.{is_sub_on}
use Rattle.accepted_laws.proofs.Tools.{some_inj}
use Rattle.accepted_nodes.proofs.FoundMembers.{own_found}
use Rattle.accepted_nodes.proofs.ScopesComplete.{of_option}
use Rattle.flow_facts.proofs.ChainInduction.{along_some, along_left, chain_next, under}
use Rattle.flow_facts.proofs.DefinedScopes.{defined_under}
use Rattle.flow_facts.proofs.FrameworkMethods.{of_framework, run_is}
use Rattle.flow_facts.proofs.RunMethods.{run_name, own_run, runnable_above, RunOf}
use Rattle.flow_facts.proofs.SlotScopes.{filter_passes}

plain_above : (g h : DeclaredMethod) → both_static g h ≡ true → g.declared.modifiers.is_static ≡ false →
    h.declared.modifiers.is_static ≡ false
plain_above g h b e =
    not_true h.declared.modifiers.is_static
    (sym (ap (λ t. if t then h.declared.modifiers.is_static else not h.declared.modifiers.is_static) e) ∙ b)
  where
    not_true : (t : Bool) → not t ≡ true → t ≡ false
    not_true true e = absurd (true≢false (sym e))
    not_true false e = refl

-- what is overridden by a method that isn't static isn't static itself
steps_plain : (p : Declarations) (f g : FoundMethod) → OverridesInSteps p f g →
    g.method.declared.modifiers.is_static ≡ false → f.method.declared.modifiers.is_static ≡ false
steps_plain p f g itself e = e
steps_plain p f g (by_step {h = h} o own above steps) e =
    steps_plain p f h steps (plain_above g.method h.method o.both_are_static e)

plain_if : (t : Bool) (f g : FoundMethod) → (if t then None else Some f) ≡ Some g → (t ≡ false) × (f ≡ g)
plain_if true f g e = absurd (cc (e))
plain_if false f g e = (refl, some_inj f g e)

-- a method that isn't static runs in the scope that is fixed for it, where it runs in any
fixed_runs : (p : Declarations) (class : ℕ) (m : DeclaredMethod) (s : Scope) → m.declared.modifiers.is_static ≡ false →
    HasScope (runs_in p class m) → fixed_for p class m.declared.name ≡ Some s → runs_in p class m ≡ Some s
unfolding runs_in
fixed_runs p class m s plain h f = go (has_wrong_runs_in p class m) h
  where
    inner : Option Scope → Option Scope
    inner o =
        elim o as (λ _. Option Scope) [ Some s ↦ Some s | None ↦ free_runs_in p class m.declared.modifiers.runs_in ]

    go : (t : Bool) →
        HasScope
        (if t then None else (if m.declared.modifiers.is_static then Some Caller else inner
        (fixed_for p class m.declared.name))) →
        (if t then None else (if m.declared.modifiers.is_static then Some Caller else inner
        (fixed_for p class m.declared.name))) ≡ Some s
    go true h = absurd (let e : None ≡ Some h.0 = h.1 in cc (e))
    go false h = ap (λ t. if t then Some Caller else inner (fixed_for p class m.declared.name)) plain ∙ ap inner f

module _ (forest : Forest) (accepted : IsAccepted forest) (whole : IsForest forest) (sorted : IsWellSorted forest.nodes)
    (is_read : IsReadFromTexts forest) where
  abbrev p : Declarations
  p = declarations_of forest

  -- the user's `run` of a class
  pub record UserRun (class : ℕ) (f : FoundMethod) : Type 0 where
    pub named : method_named p.classes class run_name ≡ Some f
    pub user : IsUserMethod p f

  pub user_run : (class : ℕ) (f : FoundMethod) → run_of p class ≡ Some f → UserRun class f
  user_run class f e =
      let m =
      of_option (method_named p.classes class run_name)
      (λ (f : FoundMethod). if is_some f.method.builtin then None else Some f) f e in
      let q = plain_if (is_some m.0.method.builtin) m.0 f m.2 in
      let y = own_found forest accepted whole sorted class run_name m.0 m.1 in
      let user = user_method forest accepted whole sorted y.0 run_name m.0 y.1 q.0 in
      record { named = m.1 ∙ ap (λ f. Some f) q.1; user = subst (IsUserMethod p) q.1 user }

  run_there : (class : ℕ) (f : FoundMethod) → method_named p.classes class run_name ≡ Some f → IsUserMethod p f →
      run_of p class ≡ Some f
  run_there class f m user = ap of_user m ∙ ap (λ (o : Option ℕ). if is_some o then None else Some f) user.not_builtin

  -- ---- where a class above has a user's `run`

  pub run_below : (on class : ℕ) (f : FoundMethod) (s : Scope) → on < length p.classes →
      is_among class (superclasses p.classes on) ≡ true → (q : RunOf forest accepted whole sorted is_read on) →
      UserRun class f → runs_in p f.on f.method ≡ Some s
      → (home : Scope) × (runs_in p q.method.on q.method.method ≡ Some (seen_as home Caller s))
  run_below on class f s l above q u e =
      let d = dispatches forest accepted whole sorted on class run_name f l above u.named u.user in
      let same : d.method ≡ q.method = some_inj d.method q.method (sym d.is ∙ q.is) in
      let plain = steps_plain p f q.method (subst (OverridesInSteps p f) same d.overrides) q.plain in
      let r = runs_as forest accepted whole sorted f d.method s u.user plain e d.overrides in
      (r.home, ap (λ (g : FoundMethod). runs_in p g.on g.method) (sym same) ∙ r.is)

  -- ---- where it has none

  -- the class that declares a method stands above the other class, or below it
  abbrev Stands : ℕ → FoundMethod → ℕ → Type 0
  Stands class g on = along (own_method p.classes run_name) (superclasses p.classes on) ≡ Some g →
      (along (own_method p.classes run_name) (superclasses p.classes class) ≡ Some g) ⊎
      ((y : ℕ) × (own_method p.classes run_name y ≡ Some g) × (is_among class (superclasses p.classes y) ≡ true) ×
      (y < length p.classes))

  stands_step : (class : ℕ) (g : FoundMethod) (on x : ℕ) → on < length p.classes → superclass_in p.classes on ≡ Some x →
      is_among class (superclasses p.classes x) ≡ true → Stands class g x → Stands class g on
  unfolding along
  stands_step class g on x l s above ih e =
      go (own_method p.classes run_name on) refl
      (sym (ap (along (own_method p.classes run_name)) (chain_next forest accepted on x l s)) ∙ e)
    where
      go : (o : Option FoundMethod) → own_method p.classes run_name on ≡ o →
          (elim (own_method p.classes run_name on) as (λ _. Option FoundMethod)
          [ None ↦ along (own_method p.classes run_name) (superclasses p.classes x) | Some z ↦ Some z ]) ≡ Some g
          → (along (own_method p.classes run_name) (superclasses p.classes class) ≡ Some g) ⊎
          ((y : ℕ) × (own_method p.classes run_name y ≡ Some g) ×
          (is_among class (superclasses p.classes y) ≡ true) × (y < length p.classes))
      go None k e =
          ih
          (sym
          (ap
          (λ (o : Option FoundMethod). elim o as (λ _. Option FoundMethod)
          [ None ↦ along (own_method p.classes run_name) (superclasses p.classes x) | Some z ↦ Some z ]) k) ∙ e)
      go (Some z) k e =
          inr (
            on,
            k
                ∙ sym
                (ap
                (λ (o : Option FoundMethod). elim o as (λ _. Option FoundMethod)
                [ None ↦ along (own_method p.classes run_name) (superclasses p.classes x) | Some z ↦ Some z ]) k) ∙ e,
            ap (is_among class) (chain_next forest accepted on x l s) ∙ or_right (class == on) _ above,
            l,
          )

  named_there : (class : ℕ) (g : FoundMethod) → along (own_method p.classes run_name) (superclasses p.classes class)
      ≡ Some g → method_named p.classes class run_name ≡ Some g
  unfolding method_named
  named_there class g e = along_left (own_method p.classes run_name) (superclasses p.classes class)
      (all_interfaces p.classes class) g e

  -- a class that isn't the user's gives the framework's `run`
  framework_run : (y : ℕ) (z : FoundMethod) → not (is_user_class y) ≡ true → own_method p.classes run_name y ≡ Some z →
      z.method.builtin ≡ Some runnable_run
  unfolding framework_method
  framework_run y z few own =
      let d = own_declaration forest accepted y run_name z own in
      let b : is_some z.method.builtin ≡ true =
      elim (row_is forest accepted y d.row d.is_row) as (λ w. is_some z.method.builtin ≡ true) [
        | inl k ↦ own_of_framework forest accepted y d.row run_name z d.is_row k own
        | inr u ↦ absurd (
            let c = framework_count in
            let e = u.1 in
            let user : is_user_class y ≡ true = ap not (le-ltb y first_user_class (omega (arith, c, e))) in
            true≢false (sym few ∙ ap not user))
      ] in
      let f = of_framework forest accepted whole sorted y run_name z own b in
      let name : f.row.name ≡ run_name = ap (λ (m : DeclaredMethod). m.declared.name) f.is ∙ sym d.same_name in
      let r = run_is f.row f.among (ap (is_same run_name) name ∙ same_name run_name) in
      ap (λ (m : DeclaredMethod). m.builtin) (sym f.is) ∙ ap (λ n. Some n) r.number

  row_found : (on : ℕ) → is_sub p.classes on runnable ≡ true → (z : FoundMethod) ×
      (framework_row_named p.classes on run_name ≡ Some z) × (z.method.builtin ≡ Some runnable_run)
  unfolding framework_row_named
  row_found on sub =
      let all : List ℕ = superclasses p.classes on ++ all_interfaces p.classes on in
      let test : ℕ → Bool = λ c. not (is_user_class c) in
      let r = own_run forest accepted whole sorted is_read in
      let z = along_some (own_method p.classes run_name) runnable _ (filter test all)
      (in_filter test runnable all (runnable_above forest accepted whole sorted is_read on sub) refl) r in
      let q = along_in (own_method p.classes run_name) (filter test all) z.0 z.1 in
      (z.0, z.1, framework_run q.0 z.0 (filter_passes test q.0 all q.1) q.2)

  fixed_run : (on entered : ℕ) → is_sub p.classes on runnable ≡ true → defined_by_chain p on ≡ Some entered →
      fixed_for p on run_name ≡ Some (In entered)
  unfolding fixed_for fixed_runs_in fixed_scope framework_methods
  fixed_run on entered sub e =
      let z = row_found on sub in
      ap (λ (o : Option FoundMethod). option_and_then (fixed_runs_in p on)
      (option_and_then (λ (f : FoundMethod). f.method.builtin) o)) z.1
      ∙ ap (option_and_then (fixed_runs_in p on)) z.2 ∙ ap (option_map (λ s. In s)) e

  below_class : (class y entered : ℕ) (g : FoundMethod) → own_method p.classes run_name y ≡ Some g →
      is_among class (superclasses p.classes y) ≡ true → y < length p.classes → IsUserMethod p g →
      g.method.declared.modifiers.is_static ≡ false → is_sub p.classes class runnable ≡ true →
      defined_by_chain p class ≡ Some entered → runs_in p g.on g.method ≡ Some (In entered)
  unfolding is_sub
  below_class class y entered g own above l user plain sub e =
      let d = own_declaration forest accepted y run_name g own in
      let under_class : is_sub p.classes y class ≡ true =
      or_left (is_among class (superclasses p.classes y)) (is_among class (all_interfaces p.classes y)) above in
      let sub_y = is_sub_on forest accepted y class runnable l under_class sub in
      let fixed = fixed_run y entered sub_y (defined_under forest accepted class entered e y l above) in
      fixed_runs p g.on g.method (In entered) plain
      (runs_in_has_scope forest accepted whole sorted g.on g.method.declared.node g.method user.is_there
      user.stands_in_class)
      (ap (λ n. fixed_for p g.on n) (sym d.same_name) ∙ ap (λ k. fixed_for p k run_name) d.on ∙ fixed)

  -- ---- both

  pub record Entering (entered : ℕ) (g : FoundMethod) : Type 0 where
    pub scope : Scope
    pub runs : runs_in p g.on g.method ≡ Some scope
    pub is : (scope ≡ Caller) ⊎ (scope ≡ In entered)

  by_above : (on class entered : ℕ) (f : FoundMethod) (s : Scope) → on < length p.classes →
      is_among class (superclasses p.classes on) ≡ true → (q : RunOf forest accepted whole sorted is_read on) →
      UserRun class f → runs_in p f.on f.method ≡ Some s → (s ≡ Caller) ⊎ (s ≡ In entered) → Entering entered q.method
  unfolding seen_as
  by_above on class entered f s l above q u e (inl k) =
      (let r = run_below on class f s l above q u e in
      record { scope = Caller; runs = r.1 ∙ ap (λ s. Some (seen_as r.0 Caller s)) k; is = inl refl })
  by_above on class entered f s l above q u e (inr k) =
      (let r = run_below on class f s l above q u e in
      record { scope = In entered; runs = r.1 ∙ ap (λ s. Some (seen_as r.0 Caller s)) k; is = inr refl })

  pub entering : (on class entered : ℕ) → on < length p.classes → is_among class (superclasses p.classes on) ≡ true →
      (q : RunOf forest accepted whole sorted is_read on) → is_sub p.classes class runnable ≡ true →
      defined_by_chain p class ≡ Some entered
      → ((f : FoundMethod) (s : Scope) → run_of p class ≡ Some f → runs_in p f.on f.method ≡ Some s →
      (s ≡ Caller) ⊎ (s ≡ In entered)) → Entering entered q.method
  entering on class entered l above q sub e runs = go (run_of p class) refl
    where
      found : along (own_method p.classes run_name) (superclasses p.classes on) ≡ Some q.method
      found =
          on_chain p (counted-stays forest) (acyclic forest accepted)
          (interfaces_give_framework_methods forest accepted) on run_name q.method q.is
          (let user = q.user in ap is_some user.not_builtin)

      go : (o : Option FoundMethod) → run_of p class ≡ o → Entering entered q.method
      go (Some f) k =
          let u = user_run class f k in
          let user = u.user in
          let s =
          runs_in_has_scope forest accepted whole sorted f.on f.method.declared.node f.method user.is_there
          user.stands_in_class in
          by_above on class entered f s.0 l above q u s.1 (runs f s.0 k s.1)
      go None k =
          elim (under forest accepted class (Stands class q.method) (λ e. inl e) (stands_step class q.method) on l above
          found) as (λ z. Entering entered q.method) [
            | inl h ↦ absurd (let z : None ≡ Some q.method = sym k
                ∙ run_there class q.method (named_there class q.method h) q.user in cc (z))
            | inr h ↦ record {
              scope = In entered;
              runs = below_class class h.0 entered q.method h.1 h.2 h.3 q.user
                  q.plain sub e;
              is = inr refl;
            }
          ]
