-- The safelet of an accepted program: there is one (C8), its object lies in immortal memory, and it has what the
-- framework calls on it.
use Rattle.std.proofs.Common.{arith, ◌≡◌, ℕ, zero, suc, ◌+◌, ◌<◌, List, [], ◌∷◌, ◌++◌, length, sym, ap, ◌∙◌, subst, refl, Option, Some, None, Bool, true, false, not, ◌&&◌, ◌||◌, true≢false, inl, inr, slice_get, if◌then◌else◌, codes}
use Rattle.std.proofs.lemmas.Option.{slice_get_within}
use Rattle.scj_builtins.specs.declared.kinds.ClassKind.TheVariants.{Concrete as concrete_class, Abstract as abstract_class}
use Rattle.scj_builtins.specs.Framework.{safelet, mission, mission_sequencer}
use Rattle.scj_tree.specs.Forest.{Forest, IsForest}
use Rattle.scj_rules.specs.CheckedProgram.{IsReadFromTexts}
use Rattle.scj_rules.specs.declared.scopes.ClassScope.TheVariants.{Annotated as annotated}
use Rattle.scj_rules.specs.declared.typing.Scope.TheVariants.{In}
use Rattle.scj_rules.specs.Words.{is_among, holds}
use Rattle.scj_rules.specs.Views.{WrittenClass}
use Rattle.scj_rules.specs.Classes.{ClassRow, superclasses, all_interfaces, is_sub, is_user_class, result_written, user_row}
use Rattle.scj_rules.specs.ClassRules.{is_safelet, safelets_from, c8, c8_of, numbers_from}
use Rattle.scj_rules.specs.Contexts.{Declarations, declarations_of}
use Rattle.scj_rules.specs.ScopeRules.{immortal_scope, is_mission}
use Rattle.scj_rules.specs.StaticScopes.{class_scope, is_implied_immortal, this_in}
use Rattle.scj_rules.specs.Types.{kind_is, is_concrete}
use Rattle.scj_rules.specs.TypeRules.{is_concrete_safelet}
use Rattle.scj_rules.specs.Bodies.{declared_size, size_of, safelet_class}
use Rattle.scj_rules.specs.Phases.{IsAccepted}
use Rattle.scj_rules.proofs.ChainLemmas.{or_right}
use Rattle.accepted_laws.specs.Sorts.{IsWellSorted}
use Rattle.accepted_laws.proofs.Breaks.{one_safelet}
use Rattle.accepted_laws.proofs.Dispatch.{written_of}
use Rattle.accepted_laws.proofs.Fields.{in_among}
use Rattle.accepted_laws.proofs.Interfaces.{row_is}
use Rattle.accepted_laws.proofs.MethodNodes.{find_passes}
use Rattle.accepted_laws.proofs.Rows.{IsUserRow, counted_is_written}
use Rattle.accepted_laws.proofs.Tools.{some_inj}
use Rattle.accepted_facts.proofs.OverridingKinds.{and_true}
use Rattle.scope_flow.specs.Signatures.{IsConcrete}
use Rattle.flow_facts.proofs.ConcreteClasses.{IsWritten, concrete_is}
use Rattle.flow_facts.proofs.SlotScopes.{slots_reach}
use Rattle.mission_facts.proofs.CalledBodies.{gives_under, sequencer_named}
use Rattle.mission_facts.proofs.FrameworkTable.{get_sequencer, immortal_memory_size, initialize_application, get_sequencer_there, immortal_memory_size_there, initialize_application_there, get_sequencer_runs, initialize_application_runs}
use Rattle.mission_facts.proofs.HeaderKinds.{under_safelet, object_no_safelet}
use Rattle.mission_facts.proofs.Implemented.{implemented}
use Rattle.mission_facts.proofs.ImpliedScopes.{implied_class_scope, lies_in}
use Rattle.mission_facts.proofs.MethodsUnder.{IsAsked, class_within, safelet_method}
use Rattle.mission_facts.proofs.OneKind.{not_two_kinds}
use Rattle.mission_facts.proofs.SafeletConstructors.{safelet_constructor}
use Rattle.mission_facts.proofs.Searches.{found_there, in_back, in_numbers}
use Rattle.mission_facts.proofs.Sizes.{declares_size}
use Rattle.mission_sound.specs.SequencerFacts.{GivesUnder, SafeletFact, SafeletThere}
use Rattle.mission_facts.proofs.Tests.{not_true}

-- where there are safelets, one of the rows is one's
record IsSafeletRow (all : List ClassRow) (from : ℕ) (rows : List ClassRow) : Type 0 where
  index : ℕ
  row : ClassRow
  stands : slice_get rows index ≡ Some row
  written : WrittenClass
  is : row.written ≡ Some written
  passes : is_safelet all (from + index) written ≡ true

safelet_row : (all : List ClassRow) (from : ℕ) (rows : List ClassRow) → (safelets_from all from rows ≡ [] → ⊥) →
    IsSafeletRow all from rows
unfolding safelets_from
safelet_row all from [] there_are = absurd (there_are refl)
safelet_row all from (row ∷ more) there_are = go row.written refl there_are (safelet_row all (from + 1) more)
  where
    later : IsSafeletRow all (from + 1) more → IsSafeletRow all from (row ∷ more)
    later x =
        let same : (from + 1) + x.index ≡ from + suc x.index = omega arith in
        record {
          index = suc x.index;
          row = x.row;
          stands = x.stands;
          written = x.written;
          is = x.is;
          passes = ap (λ n. is_safelet all n x.written) (sym same) ∙ x.passes;
        }

    by_test : (c : WrittenClass) → row.written ≡ Some c → (t : Bool) → is_safelet all from c ≡ t →
        ((if t then c ∷ [] else []) ++ safelets_from all (from + 1) more ≡ [] → ⊥) →
        ((safelets_from all (from + 1) more ≡ [] → ⊥) → IsSafeletRow all (from + 1) more) →
        IsSafeletRow all from (row ∷ more)
    by_test c e true t there_are ih =
        let same : from ≡ from + 0 = omega arith in
        record {
          index = zero;
          row = row;
          stands = refl;
          written = c;
          is = e;
          passes = ap (λ n. is_safelet all n c) (sym same) ∙ t;
        }
    by_test c e false t there_are ih = later (ih there_are)

    go : (o : Option WrittenClass) → row.written ≡ o →
        ((elim o as (λ _. List WrittenClass) [
          | None ↦ safelets_from all (from + 1) more
          | Some c ↦ (if is_safelet all from c then c ∷ [] else []) ++ safelets_from all (from + 1) more
        ]) ≡ [] →
        ⊥) →
        ((safelets_from all (from + 1) more ≡ [] → ⊥) → IsSafeletRow all (from + 1) more) →
        IsSafeletRow all from (row ∷ more)
    go None e there_are ih = later (ih there_are)
    go (Some c) e there_are ih = by_test c e (is_safelet all from c) refl there_are ih

-- C8 is broken where there is none
none_breaks : (cs : List WrittenClass) → c8_of cs ≡ [] → cs ≡ [] → ⊥
unfolding c8_of
none_breaks [] e n = absurd (cc (e))
none_breaks (c ∷ cs) e n = absurd (cc (n))

module _ (forest : Forest) (accepted : IsAccepted forest) (whole : IsForest forest) (sorted : IsWellSorted forest.nodes)
    (is_read : IsReadFromTexts forest) where
  abbrev p : Declarations
  p = declarations_of forest

  -- ---- a concrete class under Safelet

  record IsSafelet (class : ℕ) : Type 0 where
    written : IsWritten p class
    implements : is_among safelet (all_interfaces p.classes class) ≡ true
    lies : class_scope p class ≡ annotated immortal_scope

  lies_immortal : (class : ℕ) → IsWritten p class → is_among safelet (all_interfaces p.classes class) ≡ true →
      class_scope p class ≡ annotated immortal_scope
  unfolding is_implied_immortal
  lies_immortal class w h =
      implied_class_scope forest accepted whole sorted class (class_within forest accepted whole sorted is_read class w)
      (ap (λ t. t && (is_among mission (superclasses p.classes class)
      || (is_among mission_sequencer (superclasses p.classes class)
      || is_among safelet (all_interfaces p.classes class)))) w.is_users
      ∙ or_right (is_among mission (superclasses p.classes class)) _
      (or_right (is_among mission_sequencer (superclasses p.classes class))
      (is_among safelet (all_interfaces p.classes class)) h))

  safelet_is : (class : ℕ) → IsConcrete p class → is_sub p.classes class safelet ≡ true → IsSafelet class
  safelet_is class concrete sub =
      elim (concrete_is forest accepted whole sorted class concrete) as (λ z. IsSafelet class) [
        | inl w ↦
            (let h = under_safelet forest accepted whole sorted class (λ e. not_users (sym w.is_users
            ∙ ap is_user_class e)) sub in
            record { written = w; implements = h; lies = lies_immortal class w h })
        | inr e ↦ absurd (no_object e)
      ]
    where
      not_users : true ≡ is_user_class safelet → ⊥
      not_users e = true≢false e

      no_object : class ≡ 0 → ⊥
      no_object e = object_no_safelet forest accepted whole sorted (ap (λ c. is_sub p.classes c safelet) (sym e) ∙ sub)

  asks_application : IsAsked forest accepted whole sorted is_read initialize_application
  unfolding result_written
  asks_application =
      record {
        there = initialize_application_there;
        few = omega arith;
        is_abstract = refl;
        takes_none = refl;
        not_long = λ e. cc (e);
      }

  asks_sequencer : IsAsked forest accepted whole sorted is_read get_sequencer
  unfolding result_written
  asks_sequencer =
      record {
        there = get_sequencer_there;
        few = omega arith;
        is_abstract = refl;
        takes_none = refl;
        not_long = λ e. cc (e);
      }

  is_the_kind : (class : ℕ) → IsConcrete p class → is_among safelet (all_interfaces p.classes class) ≡ true →
      is_concrete_safelet p class ≡ true
  is_the_kind class concrete h =
      ap (λ t. t && is_among safelet (all_interfaces p.classes class)) concrete ∙ h

  pub safelet_fact : (class : ℕ) → IsConcrete p class → is_sub p.classes class safelet ≡ true → SafeletFact p class
  unfolding result_written
  safelet_fact class concrete sub =
      let s = safelet_is class concrete sub in
      let here : this_in p class ≡ Some (In immortal_scope) =
      lies_in forest accepted whole sorted class immortal_scope s.lies in
      let l = class_within forest accepted whole sorted is_read class s.written in
      let application =
      safelet_method forest accepted whole sorted is_read class initialize_application s.written asks_application
      refl s.implements s.lies initialize_application_runs in
      let x =
      safelet_method forest accepted whole sorted is_read class get_sequencer s.written asks_sequencer refl
      s.implements s.lies get_sequencer_runs in
      record {
        lies = λ home e. inr (some_inj home (In immortal_scope) (sym e ∙ here));
        reach = slots_reach forest accepted whole sorted class (In immortal_scope) l (inr here);
        constructor = safelet_constructor forest accepted whole sorted is_read class s.written
            (is_the_kind class concrete s.implements);
        application = application.has;
        sequencer = x.has;
        gives = subst (GivesUnder p mission_sequencer) (sym x.gives)
            (gives_under forest accepted whole sorted class mission_sequencer x.method.method
            (result_written get_sequencer.gives) x.method.is_user (sequencer_named forest accepted whole sorted)
            x.method.result);
      }

  -- ---- there is one

  safelet_size : (class : ℕ) → IsWritten p class → is_among safelet (all_interfaces p.classes class) ≡ true →
      (bytes : ℕ) × (size_of p class ≡ Some bytes)
  unfolding size_of result_written
  safelet_size class w h =
      let x =
      implemented forest accepted whole sorted class w immortal_memory_size immortal_memory_size_there.among
      (omega arith) refl refl immortal_memory_size_there.abstract_all
      (in_back safelet (superclasses p.classes class) (all_interfaces p.classes class)
      (in_among safelet (all_interfaces p.classes class) h)) in
      let s = declares_size forest accepted whole sorted class immortal_memory_size x refl in (
        s.0,
        ap (λ t. declared_size p class (if t then codes "missionMemorySize" else codes "immortalMemorySize"))
            (no_mission (is_mission p class) refl) ∙ s.1,
      )
    where
      no_mission : (t : Bool) → is_among mission (superclasses p.classes class) ≡ t →
          is_among mission (superclasses p.classes class) ≡ false
      no_mission false e = e
      no_mission true e =
          absurd (not_two_kinds forest accepted whole sorted class safelet
          (class_within forest accepted whole sorted is_read class w) (omega arith) refl
          (λ e. omega (arith, e)) e h)

  -- a class that isn't abstract is of the concrete kind
  user_concrete : (class j : ℕ) (row : ClassRow) (c : WrittenClass) → slice_get p.classes class ≡ Some row →
      IsUserRow p.nodes p.users j row → row.written ≡ Some c → c.modifiers.is_abstract ≡ false → IsConcrete p class
  unfolding user_row is_concrete
  user_concrete class j row c stands u is plain =
      let same : u.class ≡ c =
      some_inj u.class c (sym (written_of forest accepted whole sorted j row u) ∙ is) in
      ap (λ (o : Option ClassRow). holds o (λ (row : ClassRow). is_concrete row.kind)) stands
      ∙ ap (λ (r : ClassRow). is_concrete r.kind) u.is
      ∙ ap (λ (t : Bool). is_concrete (if t then abstract_class else concrete_class))
      (ap (λ (c : WrittenClass). c.modifiers.is_abstract) same ∙ plain)

  -- one of the classes is a concrete safelet
  a_safelet : (class : ℕ) × (class < length p.classes) × (is_concrete_safelet p class ≡ true)
  unfolding c8
  a_safelet =
      let x = safelet_row p.written 0 p.written (none_breaks (safelets_from p.written 0 p.written)
      (one_safelet forest accepted)) in
      let zero_first : 0 + x.index ≡ x.index = omega arith in
      let parts =
      and_true (not x.written.modifiers.is_abstract) (is_among safelet (all_interfaces p.written x.index))
      (ap (λ n. is_safelet p.written n x.written) (sym zero_first) ∙ x.passes) in
      let stands : slice_get p.classes x.index ≡ Some x.row =
      ap (λ rows. slice_get rows x.index) (counted_is_written forest accepted) ∙ x.stands in
      let implements : is_among safelet (all_interfaces p.classes x.index) ≡ true =
      ap (λ rows. is_among safelet (all_interfaces rows x.index)) (counted_is_written forest accepted) ∙ parts.1 in
      let concrete : IsConcrete p x.index =
      elim (row_is forest accepted x.index x.row stands) as (λ z. IsConcrete p x.index) [
        | inl f ↦ absurd (let z : None ≡ Some x.written = sym f.unwritten ∙ x.is in cc (z))
        | inr u ↦ user_concrete x.index u.0 x.row x.written stands u.2 x.is
            (not_true x.written.modifiers.is_abstract parts.0)
      ] in
      (x.index, slice_get_within p.classes x.index x.row stands, is_the_kind x.index concrete implements)

  pub safelet_there : SafeletThere p
  unfolding safelet_class is_sub
  safelet_there =
      let s = a_safelet in
      let zero_first : 0 + s.0 ≡ s.0 = omega arith in
      let found =
      found_there (is_concrete_safelet p) s.0 (numbers_from 0 p.classes)
      (in_among s.0 (numbers_from 0 p.classes)
      (subst (λ n. is_among n (numbers_from 0 p.classes) ≡ true) zero_first (in_numbers 0 s.0 p.classes s.1)))
      s.2 in
      let passes =
      and_true (kind_is is_concrete p found.0) (is_among safelet (all_interfaces p.classes found.0))
      (find_passes (is_concrete_safelet p) found.0 (numbers_from 0 p.classes) found.1) in
      let under : is_sub p.classes found.0 safelet ≡ true =
      or_right (is_among safelet (superclasses p.classes found.0))
      (is_among safelet (all_interfaces p.classes found.0)) passes.1 in
      let size = safelet_size found.0 (safelet_is found.0 passes.0 under).written passes.1 in
      record {
        class = found.0;
        is = found.1;
        concrete = passes.0;
        is_under = under;
        bytes = size.0;
        size = size.1;
      }
