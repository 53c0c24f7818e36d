-- Where a safelet's methods run in an accepted program: a class that is no safelet may declare them too, but then in no
-- scope inside IMMORTAL (A8).
use Rattle.std.proofs.Common.{arith, ◌≡◌, ℕ, ◌+◌, ◌<◌, List, [], ◌∷◌, length, sym, ap, ◌∙◌, subst, refl, Option, Some, None, Bool, true, false, not, ◌&&◌, ◌==◌, true≢false, option_and_then, is_some, if◌then◌else◌}
use Rattle.scj_base.specs.Bytes.{is_same}
use Rattle.scj_builtins.specs.declared.kinds.RunsInKind.TheVariants.{Immortal as in_immortal}
use Rattle.scj_builtins.specs.Framework.{framework_methods, safelet}
use Rattle.scj_tree.specs.Forest.{Forest, IsForest}
use Rattle.scj_rules.specs.declared.scopes.ClassScope.{ClassScope}
use Rattle.scj_rules.specs.declared.scopes.ClassScope.TheVariants.{Unannotated as unannotated, Annotated as annotated, Missing as scopeless}
use Rattle.scj_rules.specs.declared.scopes.Resolution.{Resolution}
use Rattle.scj_rules.specs.declared.scopes.Resolution.TheVariants.{Resolved as resolved, Unresolved as unresolved}
use Rattle.scj_rules.specs.declared.scopes.Written.{Written}
use Rattle.scj_rules.specs.declared.typing.Scope.{Scope}
use Rattle.scj_rules.specs.declared.typing.Scope.TheVariants.{This, Caller, In}
use Rattle.scj_rules.specs.Words.{is_among, holds}
use Rattle.scj_rules.specs.Classes.{FoundMethod, superclasses, all_interfaces, own_method, method_named, framework_row_named}
use Rattle.scj_rules.specs.ClassRules.{implements_method, has_method_of_node, inherits_as, numbers_from}
use Rattle.scj_rules.specs.Contexts.{Declarations, declarations_of}
use Rattle.scj_rules.specs.ScopeRules.{immortal_scope, scope_number}
use Rattle.scj_rules.specs.StaticScopes.{class_scope, scope_or, this_in, this_name, caller_name, resolve_name, resolved_scope, resolved_or_missing, written_scope, fixed_scope, fixed_runs_in, fixed_for, is_inherited_by_safelet, differs_from_fixed, names_inner_scope, has_other_runs_in, default_runs_in, free_runs_in, runs_in}
use Rattle.scj_rules.specs.Phases.{IsAccepted}
use Rattle.scj_rules.proofs.ChainLemmas.{is_same_number}
use Rattle.accepted_laws.specs.Overriding.{IsUserMethod}
use Rattle.accepted_laws.specs.Sorts.{IsWellSorted}
use Rattle.accepted_laws.proofs.Fields.{in_among}
use Rattle.accepted_laws.proofs.ScopesOfClasses.{scope_of_above}
use Rattle.accepted_laws.proofs.Tools.{some_inj}
use Rattle.accepted_facts.proofs.OverridingKinds.{or_false}
use Rattle.mission_facts.proofs.Searches.{there_any, all_pass, in_numbers}
use Rattle.mission_sound.specs.SequencerFacts.{RunsInImmortal}
use Rattle.mission_facts.proofs.Tests.{not_other}
-- a declaration runs in immortal memory; in the scope that the class defines
use Rattle.mission_facts.proofs.FixedScopes.{runs_so_if_named, is_in_immortal, immortal_is, runs_right, fixed_is, fixed_runs, free_runs}

module _ (forest : Forest) (accepted : IsAccepted forest) (whole : IsForest forest) (sorted : IsWellSorted forest.nodes)
  where
    abbrev p : Declarations
    p = declarations_of forest

    -- a class whose objects lie in immortal memory, if in one
    scope_of_this : (class on : ℕ) (n : ℕ) → class < length p.classes →
        is_among on (superclasses p.classes class) ≡ true → class_scope p class ≡ annotated immortal_scope →
        class_scope p on ≡ annotated n → n ≡ immortal_scope
    scope_of_this class on n l h e k =
        let same : annotated n ≡ annotated immortal_scope =
        sym (scope_of_above forest accepted whole sorted class on n l h k) ∙ e in
        cc (same)

    this_immortal : (class on : ℕ) (s : Scope) → class < length p.classes →
        is_among on (superclasses p.classes class) ≡ true → class_scope p class ≡ annotated immortal_scope →
        this_in p on ≡ Some s → RunsInImmortal s
    unfolding this_in
    this_immortal class on s l h e k = go (class_scope p on) refl k
      where
        go : (c : ClassScope) → class_scope p on ≡ c → scope_or c (Some This) ≡ Some s → RunsInImmortal s
        go unannotated a k = subst RunsInImmortal (some_inj This s k) tt
        go (annotated n) a k =
            subst RunsInImmortal (some_inj (In n) s k) (scope_of_this class on n l h e a)
        go scopeless a k = absurd (cc (k))

    default_immortal : (class on : ℕ) (s : Scope) → class < length p.classes →
        is_among on (superclasses p.classes class) ≡ true → class_scope p class ≡ annotated immortal_scope →
        default_runs_in p on ≡ Some s → RunsInImmortal s
    unfolding default_runs_in
    default_immortal class on s l h e k = go (class_scope p on) refl k
      where
        go : (c : ClassScope) → class_scope p on ≡ c → scope_or c (Some Caller) ≡ Some s → RunsInImmortal s
        go unannotated a k = subst RunsInImmortal (some_inj Caller s k) tt
        go (annotated n) a k =
            subst RunsInImmortal (some_inj (In n) s k) (scope_of_this class on n l h e a)
        go scopeless a k = absurd (cc (k))

    -- the name of a scope that isn't inside IMMORTAL
    written_immortal : (class on : ℕ) (name : List ℕ) (s : Scope) → class < length p.classes →
        is_among on (superclasses p.classes class) ≡ true → class_scope p class ≡ annotated immortal_scope →
        names_inner_scope p name ≡ false → written_scope p on (Some Caller) name ≡ Some s → RunsInImmortal s
    unfolding written_scope resolve_name
    written_immortal class on name s l h e outer k = go (is_same name this_name) (is_same name caller_name) k
      where
        resolved_is : (o : Option Scope) → resolved_scope (resolved_or_missing o) ≡ o
        resolved_is None = refl
        resolved_is (Some s) = refl

        number : (o : Option ℕ) → holds o (λ s. not (s == immortal_scope)) ≡ false →
            resolved_scope (elim o as (λ _. Resolution) [ None ↦ unresolved | Some s ↦ resolved (In s) ]) ≡ Some s →
            RunsInImmortal s
        number None f k = absurd (cc (k))
        number (Some n) f k = subst RunsInImmortal (some_inj (In n) s k) (not_other n immortal_scope f)

        go : (a b : Bool) →
            resolved_scope (if a then resolved_or_missing (this_in p on) else (if b then resolved_or_missing
            (Some Caller) else (elim (scope_number p name) as (λ _. Resolution)
            [ None ↦ unresolved | Some s ↦ resolved (In s) ]))) ≡ Some s → RunsInImmortal s
        go true b k = this_immortal class on s l h e (sym (resolved_is (this_in p on)) ∙ k)
        go false true k = subst RunsInImmortal (some_inj Caller s k) tt
        go false false k = number (scope_number p name) outer k

    -- a class has it as a method of Safelet
    inherited : (class : ℕ) (f g : FoundMethod) → class < length p.classes →
        is_among safelet (all_interfaces p.classes class) ≡ true →
        own_method p.classes f.method.declared.name safelet ≡ Some g →
        method_named p.classes class f.method.declared.name ≡ Some f → IsUserMethod p f →
        is_inherited_by_safelet p f.method ≡ true
    unfolding is_inherited_by_safelet inherits_as
    inherited class f g l under own named u =
        let name : List ℕ = f.method.declared.name in
        let node : ℕ = f.method.declared.node in
        let implements : implements_method p (safelet ∷ []) name class ≡ true =
        there_any (λ i. is_among i (safelet ∷ []) && is_some (own_method p.classes name i)) safelet
        (all_interfaces p.classes class) (in_among safelet (all_interfaces p.classes class) under)
        (ap is_some own) in
        let has : has_method_of_node p node name class ≡ true =
        ap (λ (o : Option FoundMethod). holds o (λ (f : FoundMethod). not (is_some f.method.builtin)
        && (f.method.declared.node == node))) named
        ∙ ap (λ (o : Option ℕ). not (is_some o) && (node == node)) u.not_builtin
        ∙ is_same_number node node refl in
        let zero_first : 0 + class ≡ class = omega arith in
        there_any (inherits_as p (safelet ∷ []) node name) class (numbers_from 0 p.classes)
        (in_among class (numbers_from 0 p.classes)
        (subst (λ n. is_among n (numbers_from 0 p.classes) ≡ true) zero_first (in_numbers 0 class p.classes l)))
        (ap (λ t. t && has_method_of_node p node name class) implements ∙ has)

    pub safelet_runs : (class : ℕ) (f g : FoundMethod) (s : Scope) → class < length p.classes →
        is_among safelet (all_interfaces p.classes class) ≡ true → class_scope p class ≡ annotated immortal_scope →
        own_method p.classes f.method.declared.name safelet ≡ Some g →
        method_named p.classes class f.method.declared.name ≡ Some f → IsUserMethod p f →
        f.method.declared.modifiers.is_static ≡ false → is_among f.on (superclasses p.classes class) ≡ true →
        all_pass (runs_so_if_named is_in_immortal f.method.declared.name) framework_methods ≡ true →
        runs_in p f.on f.method ≡ Some s → RunsInImmortal s
    unfolding fixed_for free_runs_in fixed_scope has_other_runs_in
    safelet_runs class f g s l under lies own named u plain above all e =
        go (framework_row_named p.classes f.on f.method.declared.name) refl
      where
        written : (o : Option Written) → holds o (has_other_runs_in p f.on f.method) ≡ false →
            free_runs_in p f.on o ≡ Some s → RunsInImmortal s
        written None h k = default_immortal class f.on s l above lies k
        written (Some w) h k =
            let inner = (or_false (differs_from_fixed p f.on f.method.declared.name w.name) _ h).1 in
            let outer : names_inner_scope p w.name ≡ false =
            first (names_inner_scope p w.name) (is_inherited_by_safelet p f.method)
            (inherited class f g l under own named u) inner in
            written_immortal class f.on w.name s l above lies outer k
          where
            first : (a b : Bool) → b ≡ true → (a && b) ≡ false → a ≡ false
            first true b e h = absurd (true≢false (sym e ∙ h))
            first false b e h = refl

        go : (o : Option FoundMethod) → framework_row_named p.classes f.on f.method.declared.name ≡ o → RunsInImmortal s
        go (Some h) k =
            let fixed =
            fixed_runs forest accepted whole sorted f (In immortal_scope) u plain
            (fixed_is forest accepted whole sorted f.on f.method.declared.name h is_in_immortal in_immortal all
            immortal_is k) in
            subst RunsInImmortal (some_inj (In immortal_scope) s (sym fixed ∙ e)) refl
        go None k =
            let none : fixed_for p f.on f.method.declared.name ≡ None =
            ap (λ (o : Option FoundMethod). option_and_then (fixed_runs_in p f.on)
            (option_and_then (λ (f : FoundMethod). f.method.builtin) o)) k in
            written f.method.declared.modifiers.runs_in (runs_right forest accepted whole sorted f u).1
            (sym (free_runs forest accepted whole sorted f u plain none) ∙ e)
