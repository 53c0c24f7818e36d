-- In an accepted program each class has a scope or none, as its annotation and its superclass say: no scope of a class is
-- missing, and a class has the scope of an annotated class above it.
use Rattle.std.proofs.Common.{◌≡◌, ℕ, ◌<◌, ◌≤◌, zero, suc, List, [], ◌∷◌, ◌++◌, length, refl, sym, ap, ◌∙◌, arith, Option, Some, None, Bool, true, false, not, ◌||◌, true≢false, slice_get, ◌==◌, option_and_then, is_some, if◌then◌else◌, ◌⊎◌, inl, inr}
use Rattle.std.proofs.lemmas.Option.{slice_get_within}
use Rattle.scj_base.specs.declared.findings.Rule.TheVariants.{A1, A2}
use Rattle.scj_builtins.specs.Framework.{object}
use Rattle.scj_tree.specs.declared.nodes.Node.{Node}
use Rattle.scj_tree.specs.Forest.{Forest, IsForest}
use Rattle.scj_rules.specs.declared.scopes.ClassScope.{ClassScope}
use Rattle.scj_rules.specs.declared.scopes.ClassScope.TheVariants.{Unannotated as unannotated, Annotated as annotated, Missing as scopeless}
use Rattle.scj_rules.specs.declared.scopes.Written.{Written}
use Rattle.scj_rules.specs.Words.{is_among, broken, found_at}
use Rattle.scj_rules.specs.Views.{WrittenClass}
use Rattle.scj_rules.specs.Classes.{ClassRow, user_row, class_number, superclass_in, superclasses}
use Rattle.scj_rules.specs.Contexts.{Declarations, declarations_of}
use Rattle.scj_rules.specs.ScopeRules.{immortal_scope, scope_number, scope_written_in}
use Rattle.scj_rules.specs.StaticScopes.{has_unknown_scope, differs_from_above, is_implied_immortal, scope_of_right_class, class_scope_under, class_scope_on, class_scope}
use Rattle.scj_rules.specs.AnnotationRules.{scope_above, a1, a2, a2_position, a3_to_a5, a6_to_a8, a9, annotation_breaks, broken_value, has_other_scope}
use Rattle.scj_rules.specs.Phases.{IsAccepted}
use Rattle.scj_rules.proofs.ChainLemmas.{or_cases, same_number}
use Rattle.scj_rules.proofs.WithinLemmas.{counted-stays}
use Rattle.accepted_laws.specs.Sorts.{IsWellSorted}
use Rattle.accepted_laws.specs.Unbroken.{NoAnnotationBreak}
use Rattle.accepted_laws.proofs.Breaks.{both_empty, right, no_break_at_node}
use Rattle.accepted_laws.proofs.ChainSteps.{unroll}
use Rattle.accepted_laws.proofs.ClassNumbers.{class_node, user_class_is, name_denotes}
use Rattle.accepted_laws.proofs.ClassScopes.{keeps_scope}
use Rattle.accepted_laws.proofs.Interfaces.{row_is}
use Rattle.accepted_laws.proofs.Rows.{IsFrameworkRow, IsUserRow, get_from_within}
use Rattle.accepted_laws.proofs.ClassChains.{acyclic, top_row}

-- ---- the rules on annotations, one by one

pub no_annotation_break : (p : Declarations) (id : ℕ) (node : Node) → annotation_breaks p id node ≡ [] → NoAnnotationBreak p id node
unfolding annotation_breaks
no_annotation_break p id node e =
    let b1 = both_empty (a1 p id node) (a2 p id node ++ (a3_to_a5 p id node ++ (a6_to_a8 p id node ++ a9 p id node))) e in
    let b2 = both_empty (a2 p id node) (a3_to_a5 p id node ++ (a6_to_a8 p id node ++ a9 p id node)) b1.1 in
    let b3 = both_empty (a3_to_a5 p id node) (a6_to_a8 p id node ++ a9 p id node) b2.1 in
    let b4 = both_empty (a6_to_a8 p id node) (a9 p id node) b3.1 in
    record { unknown_scope = b1.0; class_scope = b2.0; field_scope = b3.0; methods = b4.0; contradicting_scope = b4.1 }

-- neither A1 nor A2 is broken at a class
pub record IsRightClass (p : Declarations) (class : ℕ) : Type 0 where
  pub known : has_unknown_scope p (scope_written_in p class) ≡ false
  pub same : differs_from_above p (scope_written_in p class) (scope_above p class) (is_implied_immortal p class) ≡ false

module _ (forest : Forest) (accepted : IsAccepted forest) where
  abbrev p : Declarations
  p = declarations_of forest

  abbrev next : ℕ → Option ℕ
  next = superclass_in p.classes

  next_is : (a : ℕ) (row : ClassRow) → slice_get p.classes a ≡ Some row → next a ≡ row.superclass
  next_is a row e = ap (λ (o : Option ClassRow). option_and_then (λ (row : ClassRow). row.superclass) o) e

  pub chain_is : (a : ℕ) → a < length p.classes → superclasses p.classes a ≡ a ∷ (elim (next a) as (λ _. List ℕ) [ None ↦ [] | Some b ↦ superclasses p.classes b ])
  unfolding superclasses
  chain_is a l = unroll next (length p.classes) (counted-stays forest) (acyclic forest accepted) a l

  written_is : (class : ℕ) (row : ClassRow) → slice_get p.classes class ≡ Some row → scope_written_in p class ≡ option_and_then (λ (c : WrittenClass). c.modifiers.scope) row.written
  unfolding scope_written_in
  written_is class row e = ap (λ (o : Option ClassRow). option_and_then (λ (c : WrittenClass). c.modifiers.scope) (option_and_then (λ (row : ClassRow). row.written) o)) e

  none_written : (class : ℕ) (row : ClassRow) → slice_get p.classes class ≡ Some row → row.written ≡ None → scope_written_in p class ≡ None
  none_written class row e w = written_is class row e ∙ ap (option_and_then (λ (c : WrittenClass). c.modifiers.scope)) w

  -- Object is unannotated
  object_scope : class_scope p object ≡ unannotated
  unfolding class_scope class_scope_on class_scope_under differs_from_above scope_of_right_class is_implied_immortal
  object_scope =
      let r = top_row forest accepted in
      let w = none_written object r.0 r.1 r.4 in
      ap (class_scope_on p) (chain_is object (slice_get_within p.classes object r.0 r.1) ∙ ap (λ (o : Option ℕ). object ∷ (elim o as (λ _. List ℕ) [ None ↦ [] | Some b ↦ superclasses p.classes b ])) (next_is object r.0 r.1 ∙ r.2))
      ∙ ap (λ w. if has_unknown_scope p w || differs_from_above p w unannotated (is_implied_immortal p object) then scopeless else scope_of_right_class p w unannotated (is_implied_immortal p object)) w

  above_of_framework : (class : ℕ) (row : ClassRow) → slice_get p.classes class ≡ Some row → IsFrameworkRow class row → scope_above p class ≡ unannotated
  above_of_framework class row e k = elim k.extends_object as (λ z. scope_above p class ≡ unannotated) [
    | inl s ↦ ap (λ (o : Option ℕ). elim o as (λ _. ClassScope) [ None ↦ unannotated | Some a ↦ class_scope p a ]) (next_is class row e ∙ s) ∙ object_scope
    | inr s ↦ ap (λ (o : Option ℕ). elim o as (λ _. ClassScope) [ None ↦ unannotated | Some a ↦ class_scope p a ]) (next_is class row e ∙ s.0)
  ]

  framework_right : (class : ℕ) (row : ClassRow) → slice_get p.classes class ≡ Some row → IsFrameworkRow class row → IsRightClass p class
  unfolding differs_from_above
  framework_right class row e k =
      let w = none_written class row e k.unwritten in
      record {
        known = ap (has_unknown_scope p) w;
        same = ap (λ w. differs_from_above p w (scope_above p class) (is_implied_immortal p class)) w ∙ ap (λ s. differs_from_above p None s (is_implied_immortal p class)) (above_of_framework class row e k);
      }

  module _ (whole : IsForest forest) (sorted : IsWellSorted forest.nodes) where
    user_right : (class : ℕ) (row : ClassRow) (c : WrittenClass) → slice_get p.classes class ≡ Some row → row.written ≡ Some c → IsRightClass p class
    unfolding a1 a2 declarations_of
    user_right class row c e w =
        let u = user_class_is forest whole accepted sorted class row c e w in
        let node : Node = class_node forest.nodes c.node c u.node in
        let n = no_break_at_node forest accepted c.node node u.node.is_there in
        let b = no_annotation_break p c.node node n.no_annotation_rule in
        let name : class_number p.names c.name ≡ Some class = name_denotes forest whole accepted sorted class row c e w in
        record {
          known = unknown_not (scope_written_in p class) (sym (ap (λ (o : Option ℕ). found_at o (λ class. broken_value (scope_written_in p class) (λ w. has_unknown_scope p (Some w)) A1)) name) ∙ b.unknown_scope);
          same = right (has_other_scope p class) A2 (a2_position u.node.position (scope_written_in p class))
              (sym (ap (λ (o : Option ℕ). found_at o (λ class. broken (has_other_scope p class) A2 (a2_position u.node.position (scope_written_in p class)))) name) ∙ b.class_scope);
        }
      where
        unknown_not : (o : Option Written) → broken_value o (λ w. has_unknown_scope p (Some w)) A1 ≡ [] → has_unknown_scope p o ≡ false
        unknown_not None e = refl
        unknown_not (Some w) e = right (has_unknown_scope p (Some w)) A1 w.position e

    -- neither A1 nor A2 is broken at any class
    pub right_class : (class : ℕ) → class < length p.classes → IsRightClass p class
    unfolding user_row
    right_class class l =
        let r = get_from_within p.classes class l in
        elim (row_is forest accepted class r.0 r.1) as (λ z. IsRightClass p class)
        [ inl k ↦ framework_right class r.0 r.1 k | inr u ↦ user_right class r.0 u.2.class r.1 (written_of u.0 r.0 u.2) ]
      where
        written_of : (j : ℕ) (row : ClassRow) → (u : IsUserRow p.nodes p.users j row) → row.written ≡ Some u.class
        written_of j row u = ap (λ (r : ClassRow). r.written) u.is

    above_is : (class : ℕ) → class < length p.classes → class_scope p class ≡ class_scope_under p (scope_above p class) class
    unfolding class_scope class_scope_on
    above_is class l = ap (class_scope_on p) (chain_is class l) ∙ ap (λ s. class_scope_under p s class) (go (next class))
      where
        go : (o : Option ℕ) → class_scope_on p (elim o as (λ _. List ℕ) [ None ↦ [] | Some b ↦ superclasses p.classes b ]) ≡ (elim o as (λ _. ClassScope) [ None ↦ unannotated | Some above ↦ class_scope p above ])
        go None = refl
        go (Some b) = refl

    -- the scope of a class, from that of its superclass
    under_is : (class : ℕ) → class < length p.classes → class_scope p class ≡ scope_of_right_class p (scope_written_in p class) (scope_above p class) (is_implied_immortal p class)
    unfolding class_scope_under
    under_is class l =
        let r = right_class class l in
        above_is class l
        ∙ ap (λ t. if t || differs_from_above p (scope_written_in p class) (scope_above p class) (is_implied_immortal p class) then scopeless else scope_of_right_class p (scope_written_in p class) (scope_above p class) (is_implied_immortal p class)) r.known
        ∙ ap (λ t. if t then scopeless else scope_of_right_class p (scope_written_in p class) (scope_above p class) (is_implied_immortal p class)) r.same

    known_under : (w : Option Written) (above : ClassScope) (implied : Bool) → has_unknown_scope p w ≡ false → scope_of_right_class p w above implied ≡ scopeless → above ≡ scopeless
    unfolding scope_of_right_class
    known_under (Some w) above implied k e = named (scope_number p w.name) k e
      where
        named : (o : Option ℕ) → not (is_some o) ≡ false → (elim o as (λ _. ClassScope) [ None ↦ scopeless | Some s ↦ annotated s ]) ≡ scopeless → above ≡ scopeless
        named None k e = absurd (true≢false k)
        named (Some s) k e = absurd (cc (e))
    known_under None unannotated true k e = absurd (cc (e))
    known_under None unannotated false k e = e
    known_under None (annotated s) implied k e = e
    known_under None scopeless implied k e = refl

    known_down : (d class : ℕ) → class < length p.classes → length (superclasses p.classes class) ≤ d → class_scope p class ≡ scopeless → ⊥
    known_down zero class l m e = (let c : length (superclasses p.classes class) ≡ suc (length (elim (next class) as (λ _. List ℕ) [ None ↦ [] | Some b ↦ superclasses p.classes b ])) = ap length (chain_is class l) in omega (arith, c, m))
    known_down (suc d) class l m e = go (next class) refl (known_under (scope_written_in p class) (scope_above p class) (is_implied_immortal p class) (right_class class l).known (sym (under_is class l) ∙ e)) (known_down d)
      where
        go : (o : Option ℕ) → next class ≡ o → (elim (next class) as (λ _. ClassScope) [ None ↦ unannotated | Some a ↦ class_scope p a ]) ≡ scopeless → ((class : ℕ) → class < length p.classes → length (superclasses p.classes class) ≤ d → class_scope p class ≡ scopeless → ⊥) → ⊥
        go None s h ih = (let z : unannotated ≡ scopeless = sym (ap (λ (o : Option ℕ). elim o as (λ _. ClassScope) [ None ↦ unannotated | Some a ↦ class_scope p a ]) s) ∙ h in cc (z))
        go (Some b) s h ih =
            let c : length (superclasses p.classes class) ≡ suc (length (superclasses p.classes b)) = ap length (chain_is class l) ∙ ap (λ (o : Option ℕ). suc (length (elim o as (λ _. List ℕ) [ None ↦ [] | Some b ↦ superclasses p.classes b ]))) s in
            ih b (counted-stays forest class b s) (omega (arith, c, m)) (sym (ap (λ (o : Option ℕ). elim o as (λ _. ClassScope) [ None ↦ unannotated | Some a ↦ class_scope p a ]) s) ∙ h)

    -- no scope of a class is missing
    pub class_scope_known : (class : ℕ) → class < length p.classes → class_scope p class ≡ scopeless → ⊥
    class_scope_known class l e = known_down (length (superclasses p.classes class)) class l (omega arith) e

    scope_down : (d a b n : ℕ) → a < length p.classes → length (superclasses p.classes a) ≤ d → is_among b (superclasses p.classes a) ≡ true → class_scope p b ≡ annotated n → class_scope p a ≡ annotated n
    scope_down zero a b n l m h e = absurd (let c : length (superclasses p.classes a) ≡ suc (length (elim (next a) as (λ _. List ℕ) [ None ↦ [] | Some b ↦ superclasses p.classes b ])) = ap length (chain_is a l) in omega (arith, c, m))
    scope_down (suc d) a b n l m h e = go (next a) refl (or_cases (b == a) _ (sym (ap (is_among b) (chain_is a l)) ∙ h)) (scope_down d)
      where
        go : (o : Option ℕ) → next a ≡ o → ((b == a) ≡ true) ⊎ (is_among b (elim (next a) as (λ _. List ℕ) [ None ↦ [] | Some b ↦ superclasses p.classes b ]) ≡ true)
            → ((a b n : ℕ) → a < length p.classes → length (superclasses p.classes a) ≤ d → is_among b (superclasses p.classes a) ≡ true → class_scope p b ≡ annotated n → class_scope p a ≡ annotated n) → class_scope p a ≡ annotated n
        go o s (inl k) ih = ap (class_scope p) (sym (same_number b a k)) ∙ e
        go None s (inr k) ih = absurd (true≢false (sym (sym (ap (λ (o : Option ℕ). is_among b (elim o as (λ _. List ℕ) [ None ↦ [] | Some b ↦ superclasses p.classes b ])) s) ∙ k)))
        go (Some x) s (inr k) ih =
            let c : length (superclasses p.classes a) ≡ suc (length (superclasses p.classes x)) = ap length (chain_is a l) ∙ ap (λ (o : Option ℕ). suc (length (elim o as (λ _. List ℕ) [ None ↦ [] | Some b ↦ superclasses p.classes b ]))) s in
            let above : class_scope p x ≡ annotated n = ih x b n (counted-stays forest a x s) (omega (arith, c, m)) (sym (ap (λ (o : Option ℕ). is_among b (elim o as (λ _. List ℕ) [ None ↦ [] | Some b ↦ superclasses p.classes b ])) s) ∙ k) e in
            let r = right_class a l in
            keeps_scope p (counted-stays forest) (acyclic forest accepted) a x n l s above r.known r.same

    -- a class has the scope of an annotated class above it
    pub scope_of_above : (a b n : ℕ) → a < length p.classes → is_among b (superclasses p.classes a) ≡ true → class_scope p b ≡ annotated n → class_scope p a ≡ annotated n
    scope_of_above a b n l h e = scope_down (length (superclasses p.classes a)) a b n l (omega arith) h e

    framework_scope : (class : ℕ) (row : ClassRow) → slice_get p.classes class ≡ Some row → IsFrameworkRow class row → (n : ℕ) → class_scope p class ≡ annotated n → n ≡ immortal_scope
    unfolding scope_of_right_class
    framework_scope class row e k n s =
        implied (is_implied_immortal p class) (sym (under_is class (slice_get_within p.classes class row e) ∙ ap (λ w. scope_of_right_class p w (scope_above p class) (is_implied_immortal p class)) (none_written class row e k.unwritten) ∙ ap (λ s. scope_of_right_class p None s (is_implied_immortal p class)) (above_of_framework class row e k)) ∙ s)
      where
        implied : (t : Bool) → (if t then annotated immortal_scope else unannotated) ≡ annotated n → n ≡ immortal_scope
        implied true e = cc (e)
        implied false e = absurd (cc (e))
