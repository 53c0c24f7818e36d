-- What the framework's form of a handler or a sequencer has in an accepted program: so many numbers, and so many hidden
-- slots in each object.
use Rattle.std.proofs.Common.{◌≡◌, ℕ, ◌+◌, ◌<◌, List, [], ◌∷◌, length, refl, sym, ap, ◌∙◌, subst, Option, Some, None, Bool, true, false, not, ◌&&◌, true≢false, ◌⊎◌, inl, inr, ◌==◌, option_and_then, option_map, if◌then◌else◌}
use Rattle.scj_builtins.specs.Framework.{mission_sequencer, periodic_handler, priority_parameters, periodic_parameters, aperiodic_parameters, storage_parameters, relative_time}
use Rattle.scj_tree.specs.Forest.{Forest, IsForest}
use Rattle.scj_rules.specs.Words.{is_among}
use Rattle.scj_rules.specs.Classes.{superclass_in}
use Rattle.scj_rules.specs.Contexts.{Declarations, declarations_of, known_variables}
use Rattle.scj_rules.specs.Types.{is_new, new_of, periodic_part, release_part, have_priority_and_storage, form_parts, has_form}
use Rattle.scj_rules.specs.Bindings.{bindings_in}
use Rattle.scj_rules.specs.Definitions.{read}
use Rattle.scj_rules.specs.Phases.{IsAccepted}
use Rattle.scj_rules.proofs.ChainLemmas.{or_cases, or_left, or_right, same_number}
use Rattle.accepted_laws.specs.Sorts.{IsWellSorted}
use Rattle.accepted_laws.proofs.MethodNodes.{and_true}
use Rattle.accepted_laws.proofs.Tools.{some_inj}
use Rattle.accepted_nodes.proofs.FormParts.{bound, if_some}
use Rattle.accepted_nodes.proofs.TypesComplete.{same_first, same_second}
use Rattle.scj_model.specs.Code.{Code}
use Rattle.scope_flow.specs.Facts.{AllNumbers, no_numbers, more_numbers, FormFact, Numbers}
use Rattle.scope_flow.specs.Needs.{parameter_count}
use Rattle.flow_facts.proofs.NewParts.{NewPart, read_part, new_part}
use Rattle.flow_facts.proofs.FormNumbers.{InForm, PartsStand, Below, at_argument, leaf, periodic}
use Rattle.flow_facts.proofs.HiddenSlots.{has_hidden}

module _ (forest : Forest) (accepted : IsAccepted forest) (whole : IsForest forest) (sorted : IsWellSorted forest.nodes)
  where
    abbrev p : Declarations
    p = declarations_of forest

    abbrev code : Code
    code = record { program = p; bindings = bindings_in p }

    abbrev Form : ℕ → ℕ → ℕ → List ℕ → List ℕ → Type 0
    Form b c call arguments parts = InForm forest accepted whole sorted b c call arguments parts

    abbrev Stand : List ℕ → List ℕ → Type 0
    Stand arguments parts = PartsStand forest accepted whole sorted arguments parts

    second_of : (x y : ℕ) (ids : List ℕ) → is_among y (x ∷ y ∷ ids) ≡ true
    second_of x y ids = same_second forest accepted whole sorted x y ids

    first_of : (x : ℕ) (ids : List ℕ) → is_among x (x ∷ ids) ≡ true
    first_of x ids = same_first forest accepted whole sorted x ids

    third_of : (x y z : ℕ) (ids : List ℕ) → is_among z (x ∷ y ∷ z ∷ ids) ≡ true
    third_of x y z ids = or_right (z == x) (is_among z (y ∷ z ∷ ids)) (second_of y z ids)

    behind_two : (x y z : ℕ) (ids : List ℕ) → is_among z ids ≡ true → is_among z (x ∷ y ∷ ids) ≡ true
    behind_two x y z ids h = or_right (z == x) (is_among z (y ∷ ids)) (or_right (z == y) (is_among z ids) h)

    -- ---- so many numbers

    both_parts : (priority storage : ℕ) → have_priority_and_storage p priority storage ≡ true →
        NewPart p priority_parameters 1 priority × NewPart p storage_parameters 1 storage
    both_parts priority storage e =
        let b = and_true (is_new p priority_parameters 1 priority) (is_new p storage_parameters 1 storage) e in
        (new_part p priority_parameters 1 priority b.0, new_part p storage_parameters 1 storage b.1)

    -- of a sequencer
    sequencer_numbers : (b c call priority storage : ℕ) →
        Form b c call (priority ∷ storage ∷ []) (priority ∷ storage ∷ []) →
        have_priority_and_storage p priority storage ≡ true →
        AllNumbers code b c (known_variables p call) (priority ∷ storage ∷ []) 2
    sequencer_numbers b c call priority storage s e =
        let parts : List ℕ = priority ∷ storage ∷ [] in
        let n = both_parts priority storage e in
        let stands : Stand parts parts = λ e h. inl h in
        more_numbers
        (leaf forest accepted whole sorted b c call priority priority_parameters 1 parts parts s stands n.0 refl
        (at_argument forest accepted whole sorted b c call priority parts parts s
        (first_of priority (storage ∷ []))).0 (first_of priority (storage ∷ [])))
        (more_numbers
        (leaf forest accepted whole sorted b c call storage storage_parameters 1 parts parts s stands n.1 refl
        (at_argument forest accepted whole sorted b c call storage parts parts s (second_of priority storage [])).0
        (second_of priority storage [])) no_numbers)

    -- of a handler, by its release parameters
    module _ (b c call priority release storage : ℕ) (rest : List ℕ)
        (s : Form b c call (priority ∷ release ∷ storage ∷ []) (priority ∷ storage ∷ rest))
        (e : have_priority_and_storage p priority storage ≡ true) where
      abbrev arguments : List ℕ
      arguments = priority ∷ release ∷ storage ∷ []

      abbrev parts : List ℕ
      parts = priority ∷ storage ∷ rest

      abbrev known : List ℕ
      known = known_variables p call

      below : (x : ℕ) → is_among x arguments ≡ true → Below forest accepted whole sorted b c call x
      below x h = (at_argument forest accepted whole sorted b c call x arguments parts s h).0

      -- the parts stand where the rest does
      stand : ((x : ℕ) → is_among x rest ≡ true →
          (is_among x arguments ≡ true) ⊎ ((r : ℕ) × (n : NewPart p periodic_parameters 2 r) ×
          (is_among x n.list ≡ true))) → Stand arguments parts
      stand h x a =
          elim (or_cases (x == priority) (is_among x (storage ∷ rest)) a) as
          (λ z. (is_among x arguments ≡ true) ⊎ ((r : ℕ) × (n : NewPart p periodic_parameters 2 r) ×
          (is_among x n.list ≡ true))) [
            | inl k ↦ inl (or_left (x == priority) _ k)
            | inr k ↦ elim (or_cases (x == storage) (is_among x rest) k) as
                (λ z. (is_among x arguments ≡ true) ⊎ ((r : ℕ) × (n : NewPart p periodic_parameters 2 r) ×
                (is_among x n.list ≡ true))) [
                  | inl m ↦ inl (or_right (x == priority) _ (or_right (x == release) _ (or_left (x == storage) _ m)))
                  | inr m ↦ h x m
                ]
          ]

      around : (n : ℕ) → Stand arguments parts → Numbers code b c known release n →
          AllNumbers code b c known arguments (1 + (n + (1 + 0)))
      around n stands middle =
          let q = both_parts priority storage e in
          more_numbers
          (leaf forest accepted whole sorted b c call priority priority_parameters 1 arguments parts s stands q.0 refl
          (below priority (first_of priority (release ∷ storage ∷ []))) (first_of priority (storage ∷ rest)))
          (more_numbers middle
          (more_numbers
          (leaf forest accepted whole sorted b c call storage storage_parameters 1 arguments parts s stands q.1 refl
          (below storage (third_of priority release storage [])) (second_of priority storage rest)) no_numbers))

      aperiodic_numbers : is_new p aperiodic_parameters 0 release ≡ true → rest ≡ release ∷ [] →
          AllNumbers code b c known arguments 2
      aperiodic_numbers k r =
          let stands = stand (λ x h. alone x h) in
          around 0 stands
          (leaf forest accepted whole sorted b c call release aperiodic_parameters 0 arguments parts s stands
          (new_part p aperiodic_parameters 0 release k) refl
          (below release (second_of priority release (storage ∷ [])))
          (behind_two priority storage release rest (ap (is_among release) r ∙ first_of release [])))
        where
          alone : (x : ℕ) → is_among x rest ≡ true →
              (is_among x arguments ≡ true) ⊎ ((r : ℕ) × (n : NewPart p periodic_parameters 2 r) ×
              (is_among x n.list ≡ true))
          alone x h =
              inl
              (elim (or_cases (x == release) (is_among x []) (ap (is_among x) (sym r) ∙ h)) as
              (λ z. is_among x arguments ≡ true) [
                | inl m ↦ or_right (x == priority) _ (or_left (x == release) _ m)
                | inr m ↦ absurd (true≢false (sym m))
              ])

      periodic_numbers : (start period : ℕ) → (n : NewPart p periodic_parameters 2 release) → n.list ≡ start ∷ period
          ∷ [] → is_new p relative_time 2 start ≡ true → is_new p relative_time 2 period ≡ true → rest ≡ release ∷ start
          ∷ period ∷ [] → AllNumbers code b c known arguments 6
      periodic_numbers start period n l x y r =
          let stands = stand (λ x h. times x h) in
          around 4 stands
          (periodic forest accepted whole sorted b c call release start period arguments parts s stands n l
          (new_part p relative_time 2 start x) (new_part p relative_time 2 period y)
          (below release (second_of priority release (storage ∷ [])))
          (behind_two priority storage release rest (ap (is_among release) r ∙ first_of release (start ∷ period ∷ [])))
          (behind_two priority storage start rest (ap (is_among start) r ∙ second_of release start (period ∷ [])))
          (behind_two priority storage period rest (ap (is_among period) r ∙ third_of release start period [])))
        where
          times : (x : ℕ) → is_among x rest ≡ true →
              (is_among x arguments ≡ true) ⊎ ((r : ℕ) × (n : NewPart p periodic_parameters 2 r) ×
              (is_among x n.list ≡ true))
          times x h =
              elim (or_cases (x == release) (is_among x (start ∷ period ∷ [])) (ap (is_among x) (sym r) ∙ h)) as
              (λ z. (is_among x arguments ≡ true) ⊎ ((r : ℕ) × (n : NewPart p periodic_parameters 2 r) ×
              (is_among x n.list ≡ true))) [
                | inl m ↦ inl (or_right (x == priority) _ (or_left (x == release) _ m))
                | inr m ↦ inr (release, n, ap (is_among x) l ∙ m)
              ]

      -- by the superclass
      release_numbers : (superclass : ℕ) → release_part p superclass release ≡ Some rest →
          AllNumbers code b c known arguments (parameter_count superclass)
      unfolding release_part parameter_count periodic_part
      release_numbers superclass k = go (superclass == periodic_handler) k
        where
          times : (list : List ℕ) → (n : NewPart p periodic_parameters 2 release) × (n.list ≡ list) →
              periodic_part p release list ≡ Some rest → AllNumbers code b c known arguments 6
          times (start ∷ period ∷ []) n k =
              let a = if_some (is_new p relative_time 2 start && is_new p relative_time 2 period)
              (Some (release ∷ start ∷ period ∷ [])) rest k in
              let b2 = and_true (is_new p relative_time 2 start) (is_new p relative_time 2 period) a.0 in
              periodic_numbers start period n.0 n.1 b2.0 b2.1 (sym (some_inj (release ∷ start ∷ period ∷ []) rest a.1))
          times _ n k = absurd (cc (k))

          go : (t : Bool) →
              (if t then option_and_then (periodic_part p release) (read p.nodes (new_of p periodic_parameters 2) release)
              else (if is_new p aperiodic_parameters 0 release then Some (release ∷ []) else None)) ≡ Some rest →
              AllNumbers code b c known arguments (if t then 6 else 2)
          go true k =
              (let a = bound (read p.nodes (new_of p periodic_parameters 2) release) (periodic_part p release) rest k in
              times a.0 (read_part p periodic_parameters 2 release a.0 a.1) a.2)
          go false k =
              (let a = if_some (is_new p aperiodic_parameters 0 release) (Some (release ∷ [])) rest k in
              aperiodic_numbers a.0 (sym (some_inj (release ∷ []) rest a.1)))

    sequencer_count : (superclass : ℕ) → superclass ≡ mission_sequencer → 2 ≡ parameter_count superclass
    unfolding parameter_count
    sequencer_count superclass e = sym (ap (λ n. if n == periodic_handler then 6 else 2) e)

    -- the form of a class stands for as many numbers as are read of it
    pub form_numbers : (b c call superclass : ℕ) (arguments parts : List ℕ) → Form b c call arguments parts →
        form_parts p superclass arguments ≡ Some parts → AllNumbers code b c (known_variables p call) arguments
        (parameter_count superclass)
    unfolding form_parts
    form_numbers b c call superclass (priority ∷ storage ∷ []) parts s e =
        let a = if_some ((superclass == mission_sequencer) && have_priority_and_storage p priority storage)
        (Some (priority ∷ storage ∷ [])) parts e in
        let d = and_true (superclass == mission_sequencer) (have_priority_and_storage p priority storage) a.0 in
        subst (AllNumbers code b c (known_variables p call) (priority ∷ storage ∷ []))
        (sequencer_count superclass (same_number superclass mission_sequencer d.0))
        (sequencer_numbers b c call priority storage
        (subst (Form b c call (priority ∷ storage ∷ [])) (sym (some_inj (priority ∷ storage ∷ []) parts a.1)) s) d.1)
    form_numbers b c call superclass (priority ∷ release ∷ storage ∷ []) parts s e =
        let a = if_some (not (superclass == mission_sequencer) && have_priority_and_storage p priority storage)
        (option_map (λ parts. priority ∷ storage ∷ parts) (release_part p superclass release)) parts e in
        mapped (and_true (not (superclass == mission_sequencer)) (have_priority_and_storage p priority storage) a.0).1
        (release_part p superclass release) refl a.1
      where
        mapped : have_priority_and_storage p priority storage ≡ true → (o : Option (List ℕ)) →
            release_part p superclass release ≡ o →
            option_map (λ (parts : List ℕ). priority ∷ storage ∷ parts) o ≡ Some parts →
            AllNumbers code b c (known_variables p call) (priority ∷ release ∷ storage ∷ []) (parameter_count superclass)
        mapped d None r f = absurd (cc (f))
        mapped d (Some rest) r f =
            release_numbers b c call priority release storage rest
            (subst (Form b c call (priority ∷ release ∷ storage ∷ []))
            (sym (some_inj (priority ∷ storage ∷ rest) parts f)) s) d superclass r
    form_numbers b c call superclass _ parts s e = absurd (cc (e))

    pub form_fact : (b c call superclass : ℕ) (arguments parts : List ℕ) → c < length p.classes →
        superclass_in p.classes c ≡ Some superclass → has_form superclass ≡ true → Form b c call arguments parts →
        form_parts p superclass arguments ≡ Some parts → FormFact code b c call arguments superclass
    form_fact b c call superclass arguments parts l up form s e =
        record {
          are = form_numbers b c call superclass arguments parts s e;
          hidden = has_hidden forest accepted whole
              sorted c superclass l up form;
        }
