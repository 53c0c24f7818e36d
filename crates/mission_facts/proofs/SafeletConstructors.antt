-- The constructor of a safelet in an accepted program takes nothing (T6): the machine calls it without arguments.
use Rattle.std.proofs.Common.{◌≡◌, ℕ, List, [], ◌∷◌, map, sym, ap, ◌∙◌, refl, Option, true, Bool, false, not, ◌&&◌, true≢false}
use Rattle.scj_base.specs.declared.findings.Rule.TheVariants.{T6, T14}
use Rattle.scj_base.specs.declared.positions.Position.{Position}
use Rattle.scj_tree.specs.declared.nodes.Node.{Node}
use Rattle.scj_tree.specs.declared.nodes.Node.TheVariants.{Class}
use Rattle.scj_tree.specs.Forest.{Forest, IsForest}
use Rattle.scj_rules.specs.CheckedProgram.{IsReadFromTexts}
use Rattle.scj_rules.specs.declared.typing.Scope.TheVariants.{In}
use Rattle.scj_rules.specs.declared.views.Declared.{Declared}
use Rattle.scj_rules.specs.Words.{holds, broken}
use Rattle.scj_rules.specs.Classes.{class_number, superclass_in, is_empty}
use Rattle.scj_rules.specs.Contexts.{Declarations, declarations_of}
use Rattle.scj_rules.specs.ScopeRules.{immortal_scope}
use Rattle.scj_rules.specs.Types.{constructor_parameters}
use Rattle.scj_rules.specs.TypeRules.{calls_unwritten, takes_arguments, misfits_class, lacks_form, is_concrete_safelet, type_breaks, t1, t2, t3, t4, t5, t6, t7, t8, t9, t10, t11, t12, t13, t14}
use Rattle.scj_rules.specs.Phases.{IsAccepted}
use Rattle.accepted_laws.specs.Judgements.{type_at_node}
use Rattle.accepted_laws.specs.Sorts.{IsWellSorted}
use Rattle.accepted_laws.proofs.Breaks.{both_empty, right}
use Rattle.accepted_laws.proofs.ClassNumbers.{user_class_is, name_denotes}
use Rattle.accepted_nodes.proofs.TypesComplete.{unbroken}
use Rattle.accepted_facts.specs.Calls.{ConstructorTakes, AllFitAsSeen, kind_of_constructor_parameter}
use Rattle.accepted_facts.proofs.OverridingKinds.{or_false}
use Rattle.scope_flow.specs.Needs.{CallsConstructor}
use Rattle.accepted_laws.specs.Kinds.{seen_kinds}
use Rattle.flow_facts.proofs.ConcreteClasses.{IsWritten}
use Rattle.flow_facts.proofs.NewObjects.{user_constructor}

empty_is : (ds : List Declared) → not (is_empty ds) ≡ false → ds ≡ []
unfolding is_empty
empty_is [] e = refl
empty_is (d ∷ ds) e = absurd (true≢false e)

second : (a b : Bool) → a ≡ true → (a && b) ≡ false → b ≡ false
second true b e h = h
second false b e h = absurd (true≢false (sym e))

module _ (forest : Forest) (accepted : IsAccepted forest) (whole : IsForest forest) (sorted : IsWellSorted forest.nodes)
  where
    abbrev p : Declarations
    p = declarations_of forest

    class_breaks : (id : ℕ) (position : Position) (name : List ℕ) (flags header : Option ℕ) (members : List ℕ) →
        type_breaks p (type_at_node p) id (Class position name flags header members) ≡ [] →
        holds (class_number p.names name) (misfits_class p) ≡ false
    unfolding type_breaks t1 t2 t3 t4 t5 t6 t7 t8 t9 t10 t11 t12 t13 t14
    class_breaks id position name flags header members e =
        right (holds (class_number p.names name) (misfits_class p)) T6 position
        (both_empty (broken (holds (class_number p.names name) (misfits_class p)) T6 position)
        (broken (holds (class_number p.names name) (lacks_form p)) T14 position) e).0

    takes_none : (class : ℕ) → IsWritten p class → is_concrete_safelet p class ≡ true →
        constructor_parameters p.classes class ≡ []
    unfolding misfits_class
    takes_none class w safelet =
        let u = user_class_is forest whole accepted sorted class w.row w.declared w.stands w.is in
        let n = u.node in
        let node : Node = Class n.position w.declared.name n.flags n.header w.declared.members in
        let name = name_denotes forest whole accepted sorted class w.row w.declared w.stands w.is in
        let fits : misfits_class p class ≡ false =
        ap (λ (o : Option ℕ). holds o (misfits_class p)) (sym name)
        ∙ class_breaks w.declared.node n.position w.declared.name n.flags n.header w.declared.members
        (unbroken forest accepted whole sorted w.declared.node node n.is_there) in
        let both =
        or_false (calls_unwritten p class && holds (superclass_in p.classes class) (takes_arguments p))
        (is_concrete_safelet p class && takes_arguments p class) fits in
        empty_is (constructor_parameters p.classes class)
        (second (is_concrete_safelet p class) (takes_arguments p class) safelet both.1)

    module _ (is_read : IsReadFromTexts forest) where
      nothing_fits : AllFitAsSeen p [] (seen_kinds (In immortal_scope) (In immortal_scope) [])
      unfolding seen_kinds
      nothing_fits = tt

      pub safelet_constructor : (class : ℕ) → IsWritten p class → is_concrete_safelet p class ≡ true →
          CallsConstructor p class (In immortal_scope) []
      safelet_constructor class w safelet =
          let takes : ConstructorTakes p class [] =
          record { are = ap (map (kind_of_constructor_parameter p class)) (takes_none class w safelet) } in
          user_constructor forest accepted whole sorted is_read class (In immortal_scope) [] [] w w.is_users takes tt
          nothing_fits
