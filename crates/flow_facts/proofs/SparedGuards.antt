-- What is assigned to is no subject of a guard in whose first part the assignment stands.
use Rattle.std.specs.List.{list_any}
use Rattle.std.proofs.Common.{◌≡◌, ℕ, ◌+◌, List, [], ◌∷◌, position, refl, sym, ap, ◌∙◌, subst, arith, true≢false, Option, Some, None, option_and_then, Bool, true, false, ◌==◌, ◌&&◌, ◌||◌, if◌then◌else◌, slice_get}
use Rattle.std.proofs.lemmas.Option.{slice_get_within}
use Rattle.scj_base.specs.declared.positions.Position.{Position}
use Rattle.scj_tree.specs.declared.nodes.Node.TheVariants.{Assign, SimpleName}
use Rattle.scj_tree.specs.Forest.{Forest, IsForest}
use Rattle.scj_rules.specs.declared.typing.Binding.TheVariants.{Local as LocalVariable, Field as InstanceField, Static}
use Rattle.scj_rules.specs.declared.typing.Guard.{Guard}
use Rattle.scj_rules.specs.declared.typing.Meaning.{Meaning}
use Rattle.scj_rules.specs.declared.typing.Meaning.TheVariants.{Class as a_class, Field as a_field, Nothing as nothing, Variable as a_variable}
use Rattle.scj_rules.specs.declared.typing.Subject.{Subject}
use Rattle.scj_rules.specs.declared.typing.Subject.TheVariants.{Variable as the_variable}
use Rattle.scj_rules.specs.Words.{is_among, holds}
use Rattle.scj_rules.specs.Classes.{field_number}
use Rattle.scj_rules.specs.ClassRules.{numbers_from}
use Rattle.scj_rules.specs.Contexts.{Declarations, declarations_of}
use Rattle.scj_rules.specs.LimitRules.{variables_of}
use Rattle.scj_rules.specs.Types.{meaning}
use Rattle.scj_rules.specs.Bindings.{plain_or, field_binding, variable_binding, meaning_binding, binding_of, bindings_in}
use Rattle.scj_rules.specs.Guards.{subject_of_meaning, subject_of, subject_at, asked_at, assigned_by, assigned_at, is_subject, undoes, is_undone, guard_at, ifs_around}
use Rattle.scj_rules.specs.Phases.{IsAccepted}
use Rattle.accepted_laws.specs.Judgements.{Inside, binding_at_node, type_at_node}
use Rattle.accepted_laws.specs.Sorts.{IsWellSorted}
use Rattle.accepted_laws.proofs.Fields.{In as Element, here as at_head, there as in_tail}
use Rattle.accepted_laws.proofs.Tools.{some_inj}
use Rattle.accepted_nodes.proofs.Slots.{position_stands}
use Rattle.accepted_facts.proofs.NameFacts.{binding_is}
use Rattle.scj_model.specs.Code.{Code}
use Rattle.scope_flow.specs.Guards.{SparesGuards}
use Rattle.flow_facts.proofs.Locals.{number_in, position_turned}

-- what none of a list passes
none_passes : (test : ℕ → Bool) (xs : List ℕ) (x : ℕ) → list_any test xs ≡ false → Element x xs → test x ≡ false
none_passes test [] x e i = elim i [ ]
none_passes test (y ∷ xs) x e at_head = first (test x) (list_any test xs) e
  where
    first : (a b : Bool) → (a || b) ≡ false → a ≡ false
    first true b e = e
    first false b e = refl
none_passes test (y ∷ xs) x e (in_tail i) = none_passes test xs x (second (test y) (list_any test xs) e) i
  where
    second : (a b : Bool) → (a || b) ≡ false → b ≡ false
    second true b e = absurd (true≢false e)
    second false b e = e

-- a guard that an `if` is, isn't undone
is_kept : (t : Bool) (g guard : Guard) → (if t then None else Some g) ≡ Some guard → (t ≡ false) × (g ≡ guard)
is_kept true g guard e = absurd (cc (e))
is_kept false g guard e = (refl, some_inj g guard e)

module _ (forest : Forest) (accepted : IsAccepted forest) (whole : IsForest forest) (sorted : IsWellSorted forest.nodes)
  where
    abbrev p : Declarations
    p = declarations_of forest

    abbrev code : Code
    code = record { program = p; bindings = bindings_in p }

    -- a name that is bound to a local means its variable
    subject_bound : (b c y n v : ℕ) (place : Position) (name : List ℕ) →
        slice_get forest.nodes y ≡ Some (SimpleName place name) → Inside p b c y →
        binding_at_node p y ≡ LocalVariable n → slice_get (variables_of p b) n ≡ Some v →
        subject_at p y ≡ Some (the_variable v)
    unfolding subject_of subject_of_meaning binding_of meaning_binding variable_binding field_binding declarations_of
    subject_bound b c y n v place name there inside bound stands =
        ap (option_and_then (subject_of p y)) there
        ∙ by_meaning (meaning p y name)
        (sym (binding_is forest accepted whole sorted y (SimpleName place name) there) ∙ bound)
      where
        at_position : (o : Option ℕ) → plain_or (λ k. LocalVariable k) o ≡ LocalVariable n → o ≡ Some n
        at_position None e = absurd (cc (e))
        at_position (Some k) e = let same : k ≡ n = cc (e) in ap (λ k. Some k) same

        no_local : (static_ : Bool) (o : Option ℕ) →
            plain_or (λ k. if static_ then Static k else InstanceField k) o ≡ LocalVariable n → ⊥
        no_local t None e = absurd (cc (e))
        no_local true (Some k) e = absurd (cc (e))
        no_local false (Some k) e = absurd (cc (e))

        one_variable : (u : ℕ) → position (λ w. w == u) (variables_of p b) ≡ Some n → u ≡ v
        one_variable u e =
            some_inj u v
            (sym (position_stands u (variables_of p b) n (sym (position_turned u (variables_of p b)) ∙ e)) ∙ stands)

        by_meaning : (m : Meaning) → meaning_binding p y m ≡ LocalVariable n →
            subject_of_meaning m ≡ Some (the_variable v)
        by_meaning (a_variable u) e =
            ap (λ u. Some (the_variable u))
            (one_variable u (at_position (position (λ w. w == u) (variables_of p b))
            (sym (ap (λ (o : Option ℕ). plain_or (λ k. LocalVariable k)
            (option_and_then (λ member. position (λ w. w == u) (variables_of p member)) o)) inside.member) ∙ e)))
        by_meaning (a_field f) e =
            absurd (no_local f.field.modifiers.is_static (field_number p.classes f.field.node) e)
        by_meaning (a_class class) e = absurd (cc (e))
        by_meaning nothing e = absurd (cc (e))

    pub assignment_spares : (b c id target value n v : ℕ) (place position2 : Position) (name : List ℕ) →
        slice_get p.nodes id ≡ Some (Assign place target value) →
        slice_get forest.nodes target ≡ Some (SimpleName position2 name) → Inside p b c target →
        binding_at_node p target ≡ LocalVariable n → slice_get (variables_of p b) n ≡ Some v → SparesGuards code id v
    unfolding guard_at assigned_by declarations_of
    assignment_spares b c id target value n v place position2 name there named inside bound stands number guard among is =
        by_asked (asked_at p (type_at_node p) number) is
      where
        assigned : assigned_at p id ≡ Some (the_variable v)
        assigned =
            ap (option_and_then (assigned_by p)) there
            ∙ subject_bound b c target n v position2 name named inside bound stands

        numbered : Element id (numbers_from 0 p.nodes)
        numbered =
            let a : 0 + id ≡ id = omega arith in
            subst (λ m. Element m (numbers_from 0 p.nodes)) a
            (number_in p.nodes 0 id (slice_get_within p.nodes id (Assign place target value) there))

        left : (a b : Bool) → b ≡ true → (a && b) ≡ false → a ≡ false
        left a true e h = first a h
          where
            first : (a : Bool) → (a && true) ≡ false → a ≡ false
            first true h = h
            first false h = refl
        left a false e h = absurd (true≢false (sym e))

        by_asked : (o : Option Guard) →
            option_and_then (λ g. if is_undone p number g then None else Some g) o ≡ Some guard →
            is_subject guard (the_variable v) ≡ false
        by_asked None e = absurd (cc (e))
        by_asked (Some g) e =
            let k = is_kept (is_undone p number g) g guard e in
            let none : undoes p number g id ≡ false =
            none_passes (undoes p number g) (numbers_from 0 p.nodes) id k.0 numbered in
            let spared : holds (assigned_at p id) (is_subject g) ≡ false =
            left (holds (assigned_at p id) (is_subject g)) (is_among number (ifs_around p.nodes id)) among none in
            ap (λ (g : Guard). is_subject g (the_variable v)) (sym k.1)
            ∙ (sym (ap (λ (o : Option Subject). holds o (is_subject g)) assigned) ∙ spared)
