-- In an accepted program each concrete handler class has a storage: the argument of the last part of its chain's form.
use Rattle.std.specs.Prelude.{Option, Some, None, is_some, slice_get, if◌then◌else◌}
use Rattle.std.proofs.Common.{◌≡◌, ℕ, ◌<◌, ◌==◌, ◌&&◌, List, [], ◌∷◌, length, Bool, true, false, true≢false, inl, inr, refl, sym, ◌∙◌, ap, arith}
use Rattle.std.proofs.lemmas.Bool.Decides.{nat_tests}
use Rattle.std.proofs.lemmas.Option.{slice_get_within}
use Rattle.scj_builtins.specs.Framework.{aperiodic_handler, periodic_handler, storage_parameters}
use Rattle.scj_tree.specs.declared.nodes.Node.{Node}
use Rattle.scj_tree.specs.declared.nodes.Node.TheVariants.{New}
use Rattle.scj_tree.specs.Forest.{Forest}
use Rattle.scj_rules.specs.Classes.{ClassRow, class_number, is_user_class, superclass_in, superclasses}
use Rattle.scj_rules.specs.Contexts.{Declarations, declarations_of}
use Rattle.scj_rules.specs.Definitions.{read}
use Rattle.scj_rules.specs.ScopeRules.{is_handler}
use Rattle.scj_rules.specs.Types.{form_in, has_form, is_new, kind_is, is_concrete, new_of}
use Rattle.scj_rules.specs.Words.{holds, is_among, ◌>>=◌}
use Rattle.scj_rules.proofs.ChainLemmas.{or_cases}
use Rattle.accepted_laws.specs.Programs.{IsAcceptedProgram}
use Rattle.accepted_laws.specs.Sorts.{IsWellSorted}
use Rattle.accepted_laws.proofs.ClassNumbers.{user_class_is}
use Rattle.accepted_laws.proofs.ClassSorts.{well_sorted}
use Rattle.accepted_laws.proofs.Dispatch.{written_of}
use Rattle.accepted_laws.proofs.Interfaces.{row_is}
use Rattle.accepted_laws.proofs.Rows.{get_from_within}
use Rattle.accepted_nodes.proofs.FormParts.{bound, form_of, held}
use Rattle.flow_facts.proofs.ClassFacts.{framework_number}
use Rattle.flow_facts.proofs.ClassNodes.{ClassAt}
use Rattle.flow_facts.proofs.ConcreteClasses.{IsWritten}
use Rattle.flow_facts.proofs.SuperConstructors.{user_no_form}
use Rattle.flow_facts.proofs.SuperParts.{form_there}
use Rattle.mission_facts.proofs.MethodsUnder.{concrete_under}
use Rattle.memory_needs.specs.Causes.{class_with_form, only_argument, storage_node}
use Rattle.memory_bounds.proofs.FormClass.{OnWay, formed, under_form, way_user}
use Rattle.memory_bounds.proofs.FormSaid.{last_is}

-- ---- `new` with one argument

no_other : (b c : Bool) (arguments : List ℕ) → c ≡ false →
    is_some (if b && c then Some arguments else None) ≡ true → ⊥
no_other true true arguments e k = absurd (true≢false e)
no_other true false arguments e k = true≢false (sym k)
no_other false c arguments e k = true≢false (sym k)

one_argument : (p : Declarations) (class : ℕ) (node : Node) → is_some (new_of p class 1 node) ≡ true →
    (argument : ℕ) × (only_argument node ≡ Some argument)
unfolding new_of only_argument
one_argument p class (New position name_position name (argument ∷ [])) e = (argument, refl)
one_argument p class (New position name_position name []) e =
    absurd (no_other (holds (class_number p.names name) (λ c. c == class)) (0 == 1) [] refl e)
one_argument p class (New position name_position name (x ∷ y ∷ more)) e =
    absurd (no_other (holds (class_number p.names name) (λ c. c == class)) (length (x ∷ y ∷ more) == 1)
    (x ∷ y ∷ more) (grind (arith, nat_tests)) e)
one_argument p class _ e = absurd (true≢false (sym e))

argument_there : (p : Declarations) (class x : ℕ) → is_new p class 1 x ≡ true →
    (argument : ℕ) × (read p.nodes only_argument x ≡ Some argument)
argument_there p class x e = of (slice_get p.nodes x) e
  where
    of : (o : Option Node) → is_some (o >>= new_of p class 1) ≡ true →
        (argument : ℕ) × (o >>= only_argument ≡ Some argument)
    of None k = absurd (true≢false (sym k))
    of (Some node) k = one_argument p class node k

module _ (forest : Forest) (a : IsAcceptedProgram forest) where
  abbrev p : Declarations
  p = declarations_of forest

  sorted : IsWellSorted forest.nodes
  sorted = well_sorted forest a.is_read

  -- ---- the class with the form

  module _ (d h : ℕ) (up : superclass_in p.classes d ≡ Some h) (form : has_form h ≡ true) where
    within : d < length p.classes
    within =
        (let row = bound (slice_get p.classes d) (λ (r : ClassRow). r.superclass) h up in
        slice_get_within p.classes d row.0 row.1)

    way : OnWay forest a d
    way = record { within = within; of = d; is = formed forest a d h within up form }

    class_at : (k : ℕ) × ClassAt forest a.is_accepted a.whole sorted d k
    class_at =
        elim (row_is forest a.is_accepted d r.0 r.1) as (λ z. (k : ℕ) × ClassAt forest a.is_accepted a.whole sorted d k) [
          | inl f ↦ absurd (true≢false (sym (way_user forest a d way)
              ∙ framework_number forest a.is_accepted d r.0 r.1 f.unwritten))
          | inr u ↦ (
            u.2.class.node,
            record {
              class = u.2.class;
              row = r.0;
              is_row = r.1;
              of_class = u.2.is;
              written = written_of forest a.is_accepted a.whole sorted u.0 r.0 u.2;
              node = refl;
              user = user_class_is forest a.whole a.is_accepted sorted d r.0 u.2.class r.1
                  (written_of forest a.is_accepted a.whole sorted u.0 r.0 u.2);
            },
          )
        ]
      where
        r : (row : ClassRow) × (slice_get p.classes d ≡ Some row)
        r = get_from_within p.classes d within

    -- it has the form, with a storage
    record Stored : Type 0 where
      parts : List ℕ
      is_form : form_in p d ≡ Some parts
      x : ℕ
      second : slice_get parts 1 ≡ Some x
      argument : ℕ
      is : read p.nodes only_argument x ≡ Some argument

    stored_there : Stored
    stored_there =
        (let c = class_at in
        let parts = form_there forest a.is_accepted a.whole sorted a.is_read d c.0 h c.1 up form in
        let f = form_of forest a.whole a.is_accepted d parts.0 parts.1 in
        let last = last_is p f.superclass f.arguments parts.0 f.parts_are in
        let argument = argument_there p storage_parameters last.last last.storage in
        record {
          parts = parts.0;
          is_form = parts.1;
          x = last.last;
          second = last.second;
          argument = argument.0;
          is = argument.1;
        })

  -- ---- a handler class

  of_form : (class d : ℕ) → class_with_form p class ≡ Some d → (h : ℕ) → superclass_in p.classes d ≡ Some h →
      has_form h ≡ true → (number : ℕ) × (storage_node p class ≡ Some number)
  unfolding storage_node
  of_form class d is h up form =
      (let s = stored_there d h up form in (
        s.argument,
        ap (λ (o : Option ℕ). o >>= form_in p >>= (λ (parts : List ℕ). slice_get parts 1) >>= read p.nodes only_argument)
            is
            ∙ (ap (λ (o : Option (List ℕ)). o >>= (λ (parts : List ℕ). slice_get parts 1) >>= read p.nodes only_argument)
            s.is_form
            ∙ (ap (λ (o : Option ℕ). o >>= read p.nodes only_argument) s.second ∙ s.is)),
      ))

  no_framework : (h : ℕ) → has_form h ≡ true → is_user_class h ≡ true → ⊥
  no_framework h form user = true≢false (sym form ∙ user_no_form h user)

  under_one : (class h : ℕ) → has_form h ≡ true → is_user_class class ≡ true → class < length p.classes →
      is_among h (superclasses p.classes class) ≡ true → (number : ℕ) × (storage_node p class ≡ Some number)
  under_one class h form user l among =
      elim (under_form forest a class h form l among) as (λ z. (number : ℕ) × (storage_node p class ≡ Some number)) [
        | inl same ↦ absurd (no_framework h form (ap is_user_class (sym same) ∙ user))
        | inr d ↦ of_form class d.0 d.1 h d.2 form
      ]

  pub has_storage : (class : ℕ) → kind_is is_concrete p class ≡ true → is_handler p class ≡ true →
      (number : ℕ) × (storage_node p class ≡ Some number)
  has_storage class concrete handler =
      elim (or_cases (is_among periodic_handler (superclasses p.classes class))
      (is_among aperiodic_handler (superclasses p.classes class)) handler) as
      (λ z. (number : ℕ) × (storage_node p class ≡ Some number)) [
        | inl among ↦ under_one class periodic_handler refl (user periodic_handler (λ e. omega (arith, e)) among) within
            among
        | inr among ↦ under_one class aperiodic_handler refl (user aperiodic_handler (λ e. omega (arith, e)) among)
            within among
      ]
    where
      within : class < length p.classes
      within =
          (let row = held (slice_get p.classes class) (λ (r : ClassRow). is_concrete r.kind) concrete in
          slice_get_within p.classes class row.0 row.1)

      user : (h : ℕ) → (h ≡ 0 → ⊥) → is_among h (superclasses p.classes class) ≡ true → is_user_class class ≡ true
      user h other among =
          (let w : IsWritten p class =
          concrete_under forest a.is_accepted a.whole sorted a.is_read class h other concrete among in
          w.is_users)
