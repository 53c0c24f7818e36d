-- Nothing is broken at any node or class of an accepted program.
use Rattle.std.proofs.Common.{◌≡◌, ◌<◌, ◌+◌, ℕ, zero, suc, Bool, true, false, List, [], ◌∷◌, ◌++◌, length, flat_map, Option, Some, None, slice_get, refl, sym, ap, ◌∙◌, subst, arith, nat_lt}
use Rattle.std.proofs.lemmas.Bool.Decides.{nat_tests}
use Rattle.std.proofs.lemmas.Option.{slice_get_within}
use Rattle.scj_base.specs.declared.findings.Found.{Found}
use Rattle.scj_base.specs.declared.findings.Rule.{Rule}
use Rattle.scj_base.specs.declared.positions.Position.{Position}
use Rattle.scj_tree.specs.declared.nodes.Node.{Node}
use Rattle.scj_tree.specs.Forest.{Forest}
use Rattle.scj_tree.specs.Recursion.{lookup, joined_below}
use Rattle.scj_rules.specs.Words.{broken, found_at}
use Rattle.scj_rules.specs.Views.{WrittenClass}
use Rattle.scj_rules.specs.Classes.{ClassRow}
use Rattle.scj_rules.specs.Contexts.{Declarations, declarations_of}
use Rattle.scj_rules.specs.ClassRules.{c8, class_breaks, node_breaks, numbers_from}
use Rattle.scj_rules.specs.LimitRules.{class_limits, node_limits}
use Rattle.scj_rules.specs.TypeRules.{types_in, type_breaks}
use Rattle.scj_rules.specs.ScopeRules.{scope_breaks}
use Rattle.scj_rules.specs.AnnotationRules.{annotation_breaks}
use Rattle.scj_rules.specs.UseRules.{scopes_in, use_breaks}
use Rattle.scj_rules.specs.Phases.{IsFound, NothingBreaks, IsAccepted, over_nodes, at_class, over_classes, class_phase, type_phase, scope_phase, use_phase}
use Rattle.scj_rules.proofs.ReportLemmas.{Contains-head}
use Rattle.accepted_laws.specs.Unbroken.{NoBreakAtNode, NoBreakAtClass}

pub nothing_found : (found : List Found) → NothingBreaks (IsFound found) → found ≡ []
nothing_found [] h = refl
nothing_found (x ∷ xs) h = absurd (h x.rule x.pos (Contains-head x xs))

pub both_empty : {A : Type 0} (xs ys : List A) → xs ++ ys ≡ [] → (xs ≡ []) × (ys ≡ [])
both_empty [] ys e = (refl, e)
both_empty (x ∷ xs) ys e = absurd (cc (e))

empty_below : (f : ℕ → List Found) (n k : ℕ) → joined_below f n ≡ [] → k < n → f k ≡ []
unfolding joined_below
empty_below f zero k e l = absurd (omega (arith, l))
empty_below f (suc n) k e l = go (empty_below f n k) (nat_lt k n) refl
  where
    parts : (joined_below f n ≡ []) × (f n ≡ [])
    parts = both_empty (joined_below f n) (f n) e

    go : (joined_below f n ≡ [] → k < n → f k ≡ []) → (t : Bool) → nat_lt k n ≡ t → f k ≡ []
    go ih true h = ih parts.0 (grind (arith, nat_tests))
    go ih false h = let same : n ≡ k = grind (arith, nat_tests) in subst (λ m. f m ≡ []) same parts.1

pub nothing_at : (p : Declarations) (rule : ℕ → Node → List Found) → over_nodes p rule ≡ [] → (id : ℕ) (node : Node) → slice_get p.nodes id ≡ Some node → rule id node ≡ []
unfolding over_nodes
nothing_at p rule e id node at =
    sym (ap (λ o. elim o as (λ _. List Found) [ None ↦ [] | Some node ↦ rule id node ]) at)
    ∙ empty_below (λ id. elim (slice_get p.nodes id) as (λ _. List Found) [ None ↦ [] | Some node ↦ rule id node ]) (length p.nodes) id e (slice_get_within p.nodes id node at)

pub right : (test : Bool) (rule : Rule) (position : Position) → broken test rule position ≡ [] → test ≡ false
right true rule position e = absurd (cc (e))
right false rule position e = refl

numbers_empty : {A : Type 0} (f : ℕ → List Found) (xs : List A) (n k : ℕ) → flat_map f (numbers_from n xs) ≡ [] → k < length xs → f (n + k) ≡ []
unfolding numbers_from
numbers_empty f [] n k e l = absurd (omega (arith, l))
numbers_empty f (x ∷ xs) n zero e l = let a : n ≡ n + 0 = omega arith in subst (λ m. f m ≡ []) a (both_empty (f n) (flat_map f (numbers_from (n + 1) xs)) e).0
numbers_empty f (x ∷ xs) n (suc k) e l =
    let a : (n + 1) + k ≡ n + suc k = omega arith in
    subst (λ m. f m ≡ []) a (numbers_empty f xs (n + 1) k (both_empty (f n) (flat_map f (numbers_from (n + 1) xs)) e).1 (omega (arith, l)))

pub nothing_at_class : (p : Declarations) (rule : ℕ → ClassRow → WrittenClass → List Found) → over_classes p rule ≡ []
    → (class : ℕ) (row : ClassRow) (c : WrittenClass) → slice_get p.classes class ≡ Some row → row.written ≡ Some c → rule class row c ≡ []
unfolding over_classes at_class
nothing_at_class p rule e class row c there is =
    sym (ap (λ (o : Option ClassRow). found_at o (λ (row : ClassRow). found_at row.written (rule class row))) there
    ∙ ap (λ (o : Option WrittenClass). found_at o (rule class row)) is)
    ∙ (let a : 0 + class ≡ class = omega arith in subst (λ m. at_class p rule m ≡ []) a (numbers_empty (at_class p rule) p.classes 0 class e (slice_get_within p.classes class row there)))

-- ---- the phases of an accepted program

pub class_phase_empty : (forest : Forest) → IsAccepted forest → class_phase (declarations_of forest) ≡ []
class_phase_empty forest a = nothing_found _ a.classes

pub type_phase_empty : (forest : Forest) → IsAccepted forest → type_phase (declarations_of forest) ≡ []
type_phase_empty forest a = nothing_found _ a.types

pub scope_phase_empty : (forest : Forest) → IsAccepted forest → scope_phase (declarations_of forest) ≡ []
scope_phase_empty forest a = nothing_found _ a.scopes

pub use_phase_empty : (forest : Forest) → IsAccepted forest → use_phase (declarations_of forest) ≡ []
use_phase_empty forest a = nothing_found _ a.uses

-- the parts of the first phase
record ClassPhase (p : Declarations) : Type 0 where
  safelets : c8 p ≡ []
  at_classes : over_classes p (λ class row c. class_breaks p class row c ++ class_limits p class c) ≡ []
  at_nodes : over_nodes p (λ id node. node_breaks p id node ++ node_limits p id node) ≡ []

class_parts : (p : Declarations) → class_phase p ≡ [] → ClassPhase p
unfolding class_phase
class_parts p e =
    let one = both_empty (c8 p) (over_classes p (λ class row c. class_breaks p class row c ++ class_limits p class c) ++ over_nodes p (λ id node. node_breaks p id node ++ node_limits p id node)) e in
    let two = both_empty (over_classes p (λ class row c. class_breaks p class row c ++ class_limits p class c)) (over_nodes p (λ id node. node_breaks p id node ++ node_limits p id node)) one.1 in
    record { safelets = one.0; at_classes = two.0; at_nodes = two.1 }

pub one_safelet : (forest : Forest) → IsAccepted forest → c8 (declarations_of forest) ≡ []
one_safelet forest a = (class_parts (declarations_of forest) (class_phase_empty forest a)).safelets

pub no_break_at_node : (forest : Forest) → IsAccepted forest → (id : ℕ) (node : Node) → slice_get (declarations_of forest).nodes id ≡ Some node → NoBreakAtNode (declarations_of forest) id node
unfolding type_phase use_phase
no_break_at_node forest a id node there =
    let p : Declarations = declarations_of forest in
    let types = lookup None (types_in p) in
    let scopes = lookup None (scopes_in p types) in
    let classes = class_parts p (class_phase_empty forest a) in
    let one = both_empty (node_breaks p id node) (node_limits p id node) (nothing_at p (λ id node. node_breaks p id node ++ node_limits p id node) classes.at_nodes id node there) in
    let two = both_empty (annotation_breaks p id node) (use_breaks p types scopes id node) (nothing_at p (λ id node. annotation_breaks p id node ++ use_breaks p types scopes id node) (use_phase_empty forest a) id node there) in
    record {
      no_class_rule = one.0;
      no_limit = one.1;
      no_type_rule = nothing_at p (type_breaks p types) (type_phase_empty forest a) id node there;
      no_annotation_rule = two.0;
      no_use_rule = two.1;
    }

pub no_break_at_class : (forest : Forest) → IsAccepted forest → (class : ℕ) (row : ClassRow) (c : WrittenClass) → slice_get (declarations_of forest).classes class ≡ Some row → row.written ≡ Some c
    → NoBreakAtClass (declarations_of forest) class row c
unfolding scope_phase
no_break_at_class forest a class row c there is =
    let p : Declarations = declarations_of forest in
    let classes = class_parts p (class_phase_empty forest a) in
    let one = both_empty (class_breaks p class row c) (class_limits p class c) (nothing_at_class p (λ class row c. class_breaks p class row c ++ class_limits p class c) classes.at_classes class row c there is) in
    record {
      no_class_rule = one.0;
      no_limit = one.1;
      no_scope_rule = nothing_at_class p (λ class row c. scope_breaks p class c) (scope_phase_empty forest a) class row c there is;
    }
