-- What is noted at the nodes is what the rules find there.
use Rattle.std.proofs.Common.{◌≡◌, ◌∙◌, ℕ, nat_le, Bool, ◌&&◌, false, List, [], ◌++◌, length, slice_get, Option, Some, None, option_map, refl, sym, ap, append_assoc, append-nil, if◌then◌else◌}
use Rattle.scj_base.specs.declared.findings.Found.{Found}
use Rattle.scj_tree.specs.declared.nodes.Node.{Node}
use Rattle.scj_tree.specs.declared.nodes.Node.TheVariants.{Class, Method, Constructor}
use Rattle.scj_tree.specs.declared.kinds.NodeKind.{NodeKind}
use Rattle.scj_tree.specs.declared.kinds.NodeKind.TheVariants.{Parameter}
use Rattle.scj_tree.specs.Forest.{Forest}
use Rattle.scj_tree.specs.Kinds.{kind_of}
use Rattle.scj_tree.specs.Recursion.{joined_below}
use Rattle.scj_rules.specs.Words.{found_at, holds}
use Rattle.scj_rules.specs.Views.{method_of, constructor_of}
use Rattle.scj_rules.specs.Classes.{is_callable}
use Rattle.scj_rules.specs.ClassRules.{c9, c11, node_breaks}
use Rattle.scj_rules.specs.LimitRules.{k2, most_locals, node_limits}
use Rattle.scj_rules.specs.Contexts.{Declarations, context, declarations_of}
use Rattle.scj_rules.specs.Phases.{over_nodes}
use Rattle.node_views.specs.Kinds.{is_variable_kind}
use Rattle.node_views.proofs.KindLemmas.{variable_kind}
use Rattle.node_contexts.specs.Numbers.{owner_of, number_before}
use Rattle.node_rules.specs.Findings.{FindSame}
use Rattle.node_rules.specs.Nodes.{parameter_limit, broken_at_variable, found_there, late_at, noted_at, nodes_broken, is_asked_kind}
use Rattle.node_rules.proofs.FindingLemmas.{same_lists, same_then, same_back, both_same, swapped, joined_parts}
use Rattle.node_rules.proofs.LateLemmas.{late_of, all_late}

-- no rule asks a node of another kind, and it declares no variable
asked : (p : Declarations) (id : ℕ) (o : Option Node) →
    let found = found_at o (λ node. node_breaks p id node ++ parameter_limit p node) in
    (if is_asked_kind (option_map kind_of o) then found else []) ≡ found
unfolding node_breaks c9 c11 parameter_limit is_asked_kind kind_of
asked p id None = refl
asked p id (Some (Class position name flags header members)) = refl
asked p id (Some _) = refl

asked_variable : (kind : Option NodeKind) →
    (if is_asked_kind kind then is_variable_kind kind else false) ≡ is_variable_kind kind
unfolding is_asked_kind is_variable_kind
asked_variable None = refl
asked_variable (Some Parameter) = refl
asked_variable (Some _) = refl

otherwise : {A : Type 0} (b : Bool) (x y : A) → (if b then x else y) ≡ x → b ≡ false → x ≡ y
otherwise b x y e h = sym e ∙ ap (λ c. if c then x else y) h

module _ (forest : Forest) (id : ℕ) (h : is_asked_kind (option_map kind_of (slice_get forest.nodes id)) ≡ false) where
  abbrev p : Declarations
  p = declarations_of forest

  no_owner : owner_of p id ≡ None
  unfolding declarations_of
  no_owner = ap (λ b. if b then (context p id).member else None)
      (variable_kind forest.nodes id ∙ otherwise _ _ _ (asked_variable _) h)

  pub unasked : (before : List Found) → before ≡ before ++ noted_at p id
  unfolding found_there noted_at late_at declarations_of
  unasked before =
      sym (ap (λ fs. before ++ fs) (ap (λ fs. fs ++ late_at p id) (otherwise _ _ _ (asked p id _) h)
      ∙ ap (λ o. if holds o (is_callable p.nodes) && nat_le most_locals (number_before p id)
      then broken_at_variable p.nodes id else []) no_owner) ∙ append-nil before)

-- the limits at a node
limits_split : (p : Declarations) (id : ℕ) (node : Node) → slice_get p.nodes id ≡ Some node →
    node_limits p id node ≡ (if is_callable p.nodes id then k2 p id else []) ++ parameter_limit p node
unfolding node_limits parameter_limit method_of constructor_of
limits_split p id (Method position name flags result_type parameters body) e = rw e refl
limits_split p id (Constructor position name flags parameters super_call body) e = rw e refl
limits_split p id _ e = rw e refl

-- the rules at a node, with the limit on variables behind the others
parts_at : (p : Declarations) (id : ℕ) →
    FindSame (found_at (slice_get p.nodes id) (λ node. node_breaks p id node ++ node_limits p id node))
    (found_there p id ++ late_of p id)
unfolding found_there
parts_at p id = go (slice_get p.nodes id) refl
  where
    go : (o : Option Node) → slice_get p.nodes id ≡ o →
        FindSame (found_at o (λ node. node_breaks p id node ++ node_limits p id node))
        (found_at o (λ node. node_breaks p id node ++ parameter_limit p node) ++ late_of p id)
    go None e = same_lists (let none : [] ≡ late_of p id = rw e refl in none)
    go (Some node) e =
        same_then (both_same (same_lists refl) (same_then (same_lists (limits_split p id node e))
        (swapped (late_of p id) (parameter_limit p node))))
        (same_lists (sym (append_assoc (node_breaks p id node) (parameter_limit p node) (late_of p id))))

pub all_noted : (p : Declarations) (before found : List Found) →
    found ≡ before ++ joined_below (noted_at p) (length p.nodes) → FindSame found (before ++ nodes_broken p)
unfolding over_nodes noted_at
all_noted p before found e =
    same_then (same_lists e)
    (both_same (same_lists refl)
    (same_then (joined_parts (noted_at p) (found_there p) (late_at p) (length p.nodes) (λ id. same_lists refl))
    (same_then (both_same (same_lists refl) (all_late p))
    (same_back (joined_parts (λ id. found_at (slice_get p.nodes id)
    (λ node. node_breaks p id node ++ node_limits p id node)) (found_there p) (late_of p) (length p.nodes)
    (parts_at p))))))
