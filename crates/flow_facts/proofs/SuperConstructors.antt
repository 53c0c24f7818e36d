-- The constructor of a user class that a constructor of a class under it calls.
use Rattle.std.proofs.Common.{◌≡◌, ℕ, ◌<◌, List, [], ◌∷◌, length, refl, sym, ap, ◌∙◌, Some, None, Bool, true, false, true≢false, inl, inr, ◌==◌, slice_get}
use Rattle.scj_builtins.specs.Framework.{object, mission_sequencer, periodic_handler, aperiodic_handler}
use Rattle.scj_tree.specs.Forest.{Forest, IsForest}
use Rattle.scj_rules.specs.CheckedProgram.{IsReadFromTexts}
use Rattle.scj_rules.specs.declared.typing.Scope.{Scope}
use Rattle.scj_rules.specs.declared.views.Body.TheVariants.{Written}
use Rattle.scj_rules.specs.Words.{is_among}
use Rattle.scj_rules.specs.Views.{WrittenClass}
use Rattle.scj_rules.specs.Classes.{ClassRow, is_user_class}
use Rattle.scj_rules.specs.Contexts.{Declarations, declarations_of}
use Rattle.scj_rules.specs.Types.{has_form}
use Rattle.scj_rules.specs.Phases.{IsAccepted}
use Rattle.scj_rules.proofs.ChainLemmas.{or_cases, same_number}
use Rattle.accepted_laws.specs.Kinds.{Kind, seen_kinds, NamesArea}
use Rattle.accepted_laws.specs.Sorts.{IsWellSorted}
use Rattle.accepted_laws.proofs.Dispatch.{written_of}
use Rattle.accepted_laws.proofs.Interfaces.{row_is}
use Rattle.accepted_laws.proofs.Rows.{get_from_within}
use Rattle.accepted_facts.specs.Calls.{AllFitAsSeen, ConstructorTakes}
use Rattle.scope_flow.specs.Needs.{CallsConstructor}
use Rattle.scope_flow.specs.Signatures.{Runs}
use Rattle.flow_facts.proofs.ArrayClasses.{differ}
use Rattle.flow_facts.proofs.Bodies.{signature, taken_real}
use Rattle.flow_facts.proofs.ClassFacts.{framework_number}
use Rattle.flow_facts.proofs.Constructors.{constructs}
use Rattle.flow_facts.proofs.NewObjects.{all_go}

-- a class of the sources asks for no form
pub user_no_form : (s : ℕ) → is_user_class s ≡ true → has_form s ≡ false
user_no_form s user = go (has_form s) refl
  where
    at : (k : ℕ) → s ≡ k → is_user_class k ≡ true
    at k e = ap is_user_class (sym e) ∙ user

    last : is_among s (mission_sequencer ∷ []) ≡ true → ⊥
    last h = elim (or_cases (s == mission_sequencer) (is_among s []) h) as (λ z. ⊥) [
      | inl e ↦ true≢false (sym (at mission_sequencer (same_number s mission_sequencer e)))
      | inr e ↦ true≢false (sym e)
    ]

    second : is_among s (aperiodic_handler ∷ mission_sequencer ∷ []) ≡ true → ⊥
    second h = elim (or_cases (s == aperiodic_handler) (is_among s (mission_sequencer ∷ [])) h) as (λ z. ⊥)
        [ inl e ↦ true≢false (sym (at aperiodic_handler (same_number s aperiodic_handler e))) | inr e ↦ last e ]

    go : (t : Bool) → has_form s ≡ t → has_form s ≡ false
    go false e = e
    go true e =
        absurd (elim (or_cases (s == periodic_handler) (is_among s (aperiodic_handler ∷ mission_sequencer ∷ [])) e) as
        (λ z. ⊥) [
          | inl k ↦ true≢false (sym (at periodic_handler (same_number s periodic_handler k)))
          | inr k ↦ second k
        ])

module _ (forest : Forest) (accepted : IsAccepted forest) (whole : IsForest forest) (sorted : IsWellSorted forest.nodes)
    (is_read : IsReadFromTexts forest) where
  abbrev p : Declarations
  p = declarations_of forest

  record IsUserRowAt (class : ℕ) : Type 0 where
    row : ClassRow
    stands : slice_get p.classes class ≡ Some row
    declared : WrittenClass
    is : row.written ≡ Some declared

  user_row_at : (class : ℕ) → class < length p.classes → is_user_class class ≡ true → IsUserRowAt class
  user_row_at class l user =
      let r = get_from_within p.classes class l in
      elim (row_is forest accepted class r.0 r.1) as (λ z. IsUserRowAt class) [
        | inl k ↦ absurd (true≢false (sym user ∙ framework_number forest accepted class r.0 r.1 k.unwritten))
        | inr u ↦ record {
          row = r.0;
          stands = r.1;
          declared = u.2.class;
          is = written_of forest accepted whole sorted
              u.0 r.0 u.2;
        }
      ]

  pub called : (class : ℕ) (home : Scope) (given taken : List Kind) → class < length p.classes →
      is_user_class class ≡ true → ConstructorTakes p class taken → NamesArea home →
      AllFitAsSeen p given (seen_kinds home home taken) → CallsConstructor p class home given
  unfolding Runs
  called class home given taken l user t real fit =
      let w = user_row_at class l user in
      let k = constructs forest accepted whole sorted is_read class w.row w.declared taken w.stands w.is t in
      let other : (class == object) ≡ false = differ class object (λ e. true≢false (sym user ∙ ap is_user_class e)) in
      record {
        body = Written k.b;
        is = k.is other;
        sig = signature taken None k.home;
        runs = k.body;
        gives_nothing = refl;
        runs_in_home = inr k.is_home;
        fit =
            all_go p home home given taken (taken_real p _ taken k.takes) real fit;
      }
