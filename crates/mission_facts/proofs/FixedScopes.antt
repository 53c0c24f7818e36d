-- Where the framework's methods run in an accepted program: in the scope that the framework fixes for each declaration
-- of them (A8).
use Rattle.std.proofs.Common.{arith, ◌≡◌, ℕ, suc, ◌<◌, List, [], ◌++◌, filter, sym, ap, ◌∙◌, refl, Option, Some, None, Bool, true, false, not, ◌||◌, true≢false, ◌⊎◌, inl, inr, option_and_then, slice_get, if◌then◌else◌, nat_lt}
use Rattle.std.proofs.lemmas.Bool.Decides.{nat_tests}
use Rattle.scj_base.specs.Bytes.{is_same}
use Rattle.scj_base.specs.declared.findings.Rule.TheVariants.{A7, A8}
use Rattle.scj_builtins.specs.declared.kinds.RunsInKind.{RunsInKind}
use Rattle.scj_builtins.specs.declared.kinds.RunsInKind.TheVariants.{Immortal as in_immortal, DefinedOrCaller as in_defined_or_caller}
use Rattle.scj_builtins.specs.declared.methods.FrameworkMethod.{FrameworkMethod}
use Rattle.scj_builtins.specs.Framework.{framework_methods}
use Rattle.scj_tree.specs.Forest.{Forest, IsForest}
use Rattle.scj_rules.specs.declared.scopes.Written.{Written}
use Rattle.scj_rules.specs.declared.typing.Scope.{Scope}
use Rattle.scj_rules.specs.declared.typing.Scope.TheVariants.{Caller, In}
use Rattle.scj_rules.specs.Words.{is_among, broken, holds}
use Rattle.scj_rules.specs.Views.{DeclaredMethod}
use Rattle.scj_rules.specs.Classes.{FoundMethod, is_user_class, superclasses, all_interfaces, framework_method, own_method, framework_row_named}
use Rattle.scj_rules.specs.Contexts.{Declarations, declarations_of}
use Rattle.scj_rules.specs.ScopeRules.{immortal_scope, defined_by_chain}
use Rattle.scj_rules.specs.StaticScopes.{fixed_scope, fixed_runs_in, fixed_for, has_unknown_runs_in, has_other_runs_in, free_runs_in, has_wrong_runs_in, runs_in}
use Rattle.scj_rules.specs.AnnotationRules.{broken_value, a6_of, a7_and_a8_of}
use Rattle.scj_rules.specs.Phases.{IsAccepted}
use Rattle.accepted_laws.specs.Overriding.{IsUserMethod}
use Rattle.accepted_laws.specs.Sorts.{IsWellSorted}
use Rattle.accepted_laws.proofs.Breaks.{both_empty, right}
use Rattle.accepted_laws.proofs.Dispatch.{own_declaration, methods_unbroken}
use Rattle.accepted_laws.proofs.Fields.{in_filter, in_left, in_among, along_in}
use Rattle.accepted_laws.proofs.Interfaces.{own_of_framework}
use Rattle.accepted_laws.proofs.MethodNodes.{method_node}
use Rattle.accepted_laws.proofs.Positions.{same_name}
use Rattle.flow_facts.proofs.FrameworkMethods.{of_framework as row_of_framework}
use Rattle.flow_facts.proofs.SlotScopes.{filter_passes}
use Rattle.mission_facts.proofs.Lines.{of_framework}
use Rattle.mission_facts.proofs.Searches.{along_there, all_pass, each_passes}
use Rattle.accepted_nodes.proofs.FormParts.{held}
use Rattle.mission_facts.proofs.Tests.{not_or}

-- a declaration runs in immortal memory; in the scope that the class defines
unfoldable pub is_in_immortal : RunsInKind → Bool
is_in_immortal in_immortal = true
is_in_immortal _ = false

unfoldable pub is_in_defined : RunsInKind → Bool
is_in_defined in_defined_or_caller = true
is_in_defined _ = false

pub immortal_is : (k : RunsInKind) → is_in_immortal k ≡ true → k ≡ in_immortal
unfolding is_in_immortal
immortal_is in_immortal e = refl
immortal_is _ e = absurd (true≢false (sym e))

defined_is : (k : RunsInKind) → is_in_defined k ≡ true → k ≡ in_defined_or_caller
unfolding is_in_defined
defined_is in_defined_or_caller e = refl
defined_is _ e = absurd (true≢false (sym e))

-- each method of a name in the table runs so
abbrev pub runs_so_if_named : (RunsInKind → Bool) → List ℕ → FrameworkMethod → Bool
runs_so_if_named test name m =
    not (is_same name m.name)
    || holds (slice_get framework_methods m.number) (λ (n : FrameworkMethod). test n.runs_in)

both_fine : (o : Option Written) (f g : Written → Bool) → broken_value o f A7 ++ broken_value o g A8 ≡ [] →
    (holds o (λ w. f w || g w) ≡ false) × (holds o g ≡ false)
both_fine None f g e = (refl, refl)
both_fine (Some w) f g e =
    let parts = both_empty (broken (f w) A7 w.position) (broken (g w) A8 w.position) e in
    let second = right (g w) A8 w.position parts.1 in
    (ap (λ t. t || g w) (right (f w) A7 w.position parts.0) ∙ second, second)

module _ (forest : Forest) (accepted : IsAccepted forest) (whole : IsForest forest) (sorted : IsWellSorted forest.nodes)
  where
    abbrev p : Declarations
    p = declarations_of forest

    -- neither A7 nor A8 is broken at a user's method
    pub runs_right : (f : FoundMethod) → IsUserMethod p f →
        (has_wrong_runs_in p f.on f.method ≡ false)
        × (holds f.method.declared.modifiers.runs_in (has_other_runs_in p f.on f.method) ≡ false)
    unfolding a7_and_a8_of
    runs_right f u =
        let n = method_node p.nodes f.method.declared.node f.method u.is_there in
        let e =
        both_empty (a6_of p f.on f.method) (a7_and_a8_of p f.on f.method)
        (methods_unbroken forest accepted whole sorted f.on f.method.declared.node n.node f.method n.is_there n.is
        u.stands_in_class) in
        both_fine f.method.declared.modifiers.runs_in (has_unknown_runs_in p f.method)
        (has_other_runs_in p f.on f.method) e.1

    -- a class that the framework declares the method for has its row
    pub fixed_is : (on : ℕ) (name : List ℕ) (h : FoundMethod) (test : RunsInKind → Bool) (k : RunsInKind) →
        all_pass (runs_so_if_named test name) framework_methods ≡ true → ((k' : RunsInKind) → test k' ≡ true → k' ≡ k) →
        framework_row_named p.classes on name ≡ Some h → fixed_for p on name ≡ fixed_scope p on k
    unfolding fixed_for framework_row_named fixed_runs_in framework_method
    fixed_is on name h test k all is e =
        let lines : List ℕ = superclasses p.classes on ++ all_interfaces p.classes on in
        let q = along_in (own_method p.classes name) (filter (λ c. not (is_user_class c)) lines) h e in
        let plain = filter_passes (λ c. not (is_user_class c)) q.0 lines q.1 in
        let few : q.0 < 16 = below q.0 (nat_lt q.0 16) refl plain in
        let f = of_framework forest accepted whole sorted q.0 few in
        let b = own_of_framework forest accepted q.0 f.0 name h f.1 f.2 q.2 in
        let r = row_of_framework forest accepted whole sorted q.0 name h q.2 b in
        let d = own_declaration forest accepted q.0 name h q.2 in
        let same : name ≡ r.row.name = d.same_name ∙ ap (λ (m : DeclaredMethod). m.declared.name) (sym r.is) in
        let passes =
        not_or (is_same name r.row.name)
        (holds (slice_get framework_methods r.row.number) (λ (n : FrameworkMethod). test n.runs_in))
        (ap (is_same name) (sym same) ∙ same_name name)
        (each_passes (runs_so_if_named test name) framework_methods all r.row r.among) in
        let n = held (slice_get framework_methods r.row.number) (λ (n : FrameworkMethod). test n.runs_in) passes in
        ap (λ (o : Option FoundMethod). option_and_then (fixed_runs_in p on)
        (option_and_then (λ (f : FoundMethod). f.method.builtin) o)) e
        ∙ ap (option_and_then (fixed_runs_in p on)) (ap (λ (m : DeclaredMethod). m.builtin) (sym r.is))
        ∙ ap (option_and_then (λ (m : FrameworkMethod). fixed_scope p on m.runs_in)) n.1
        ∙ ap (fixed_scope p on) (is n.0.runs_in n.2)
      where
        below : (i : ℕ) (t : Bool) → nat_lt i 16 ≡ t → not (not t) ≡ true → i < 16
        below i true e h = grind (arith, nat_tests)
        below i false e h = absurd (true≢false (sym h))

    -- where the framework fixes a scope a user's method runs there
    pub fixed_runs : (f : FoundMethod) (s : Scope) → IsUserMethod p f → f.method.declared.modifiers.is_static ≡ false →
        fixed_for p f.on f.method.declared.name ≡ Some s → runs_in p f.on f.method ≡ Some s
    unfolding runs_in
    fixed_runs f s u plain e =
        ap (λ t. if t then None
        else (if f.method.declared.modifiers.is_static then Some Caller else (elim (fixed_for p f.on
        f.method.declared.name) as (λ _. Option Scope) [
          | Some s ↦ Some s
          | None ↦ free_runs_in p f.on f.method.declared.modifiers.runs_in
        ]))) (runs_right f u).0
        ∙ ap (λ t. if t then Some Caller else (elim (fixed_for p f.on f.method.declared.name) as (λ _. Option Scope) [
          | Some s ↦ Some s
          | None ↦ free_runs_in p f.on f.method.declared.modifiers.runs_in
        ])) plain
        ∙ ap (λ (o : Option Scope). elim o as (λ _. Option Scope) [
          | Some s ↦ Some s
          | None ↦ free_runs_in p f.on f.method.declared.modifiers.runs_in
        ]) e

    pub free_runs : (f : FoundMethod) → IsUserMethod p f → f.method.declared.modifiers.is_static ≡ false →
        fixed_for p f.on f.method.declared.name ≡ None →
        runs_in p f.on f.method ≡ free_runs_in p f.on f.method.declared.modifiers.runs_in
    unfolding runs_in
    free_runs f u plain e =
        ap (λ t. if t then None
        else (if f.method.declared.modifiers.is_static then Some Caller else (elim (fixed_for p f.on
        f.method.declared.name) as (λ _. Option Scope) [
          | Some s ↦ Some s
          | None ↦ free_runs_in p f.on f.method.declared.modifiers.runs_in
        ]))) (runs_right f u).0
        ∙ ap (λ t. if t then Some Caller else (elim (fixed_for p f.on f.method.declared.name) as (λ _. Option Scope) [
          | Some s ↦ Some s
          | None ↦ free_runs_in p f.on f.method.declared.modifiers.runs_in
        ])) plain
        ∙ ap (λ (o : Option Scope). elim o as (λ _. Option Scope) [
          | Some s ↦ Some s
          | None ↦ free_runs_in p f.on f.method.declared.modifiers.runs_in
        ]) e

    -- ---- under a class of the framework

    -- the framework's row is there for a class under the one that declares the method
    pub row_there : (on i : ℕ) (name : List ℕ) (g : FoundMethod) → i < 16 → own_method p.classes name i ≡ Some g →
        is_among i (superclasses p.classes on) ≡ true →
        (h : FoundMethod) × (framework_row_named p.classes on name ≡ Some h)
    unfolding framework_row_named
    row_there on i name g few own h =
        along_there (own_method p.classes name) i g
        (filter (λ c. not (is_user_class c)) (superclasses p.classes on ++ all_interfaces p.classes on))
        (in_filter (λ c. not (is_user_class c)) i (superclasses p.classes on ++ all_interfaces p.classes on)
        (in_left i (superclasses p.classes on) (all_interfaces p.classes on)
        (in_among i (superclasses p.classes on) h)) (plain (nat_lt i 16) refl)) own
      where
        plain : (t : Bool) → nat_lt i 16 ≡ t → not (not (nat_lt i 16)) ≡ true
        plain true e = ap (λ t. not (not t)) e
        plain false e = absurd (let no : 16 < suc i = grind (arith, nat_tests) in omega (arith, no, few))

    pub runs_in_immortal : (f : FoundMethod) (i : ℕ) (g : FoundMethod) → IsUserMethod p f →
        f.method.declared.modifiers.is_static ≡ false → i < 16 →
        own_method p.classes f.method.declared.name i ≡ Some g → is_among i (superclasses p.classes f.on) ≡ true →
        all_pass (runs_so_if_named is_in_immortal f.method.declared.name) framework_methods ≡ true →
        runs_in p f.on f.method ≡ Some (In immortal_scope)
    unfolding fixed_scope
    runs_in_immortal f i g u plain few own above all =
        let h = row_there f.on i f.method.declared.name g few own above in
        fixed_runs f (In immortal_scope) u plain
        (fixed_is f.on f.method.declared.name h.0 is_in_immortal in_immortal all immortal_is h.1)

    pub runs_in_defined : (f : FoundMethod) (i : ℕ) (g : FoundMethod) → IsUserMethod p f →
        f.method.declared.modifiers.is_static ≡ false → i < 16 →
        own_method p.classes f.method.declared.name i ≡ Some g → is_among i (superclasses p.classes f.on) ≡ true →
        all_pass (runs_so_if_named is_in_defined f.method.declared.name) framework_methods ≡ true →
        (runs_in p f.on f.method ≡ Some Caller)
        ⊎ ((s : ℕ) × (defined_by_chain p f.on ≡ Some s) × (runs_in p f.on f.method ≡ Some (In s)))
    unfolding fixed_scope
    runs_in_defined f i g u plain few own above all =
        let h = row_there f.on i f.method.declared.name g few own above in
        go (defined_by_chain p f.on) refl
        (fixed_is f.on f.method.declared.name h.0 is_in_defined in_defined_or_caller all defined_is h.1)
      where
        go : (o : Option ℕ) → defined_by_chain p f.on ≡ o →
            fixed_for p f.on f.method.declared.name
            ≡ elim (defined_by_chain p f.on) as (λ _. Option Scope) [ None ↦ Some Caller | Some s ↦ Some (In s) ] →
            (runs_in p f.on f.method ≡ Some Caller)
            ⊎ ((s : ℕ) × (defined_by_chain p f.on ≡ Some s) × (runs_in p f.on f.method ≡ Some (In s)))
        go None d e =
            inl (fixed_runs f Caller u plain (e ∙ ap (λ (o : Option ℕ). elim o as (λ _. Option Scope)
            [ None ↦ Some Caller | Some s ↦ Some (In s) ]) d))
        go (Some s) d e =
            inr (
              s,
              d,
              fixed_runs f (In s) u plain (e ∙ ap (λ (o : Option ℕ). elim o as (λ _. Option Scope)
                  [ None ↦ Some Caller | Some s ↦ Some (In s) ]) d),
            )
