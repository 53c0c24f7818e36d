-- In each state that a run of an accepted program comes to, the rows of handlers tell the storage of their forms.
use Rattle.std.specs.Prelude.{Option, Some, None, if◌then◌else◌, nat_lt, slice_get}
use Rattle.std.proofs.lemmas.Bool.Decides.{nat_tests}
use Rattle.std.proofs.lemmas.Option.{slice_get_within}
use Rattle.std.proofs.Common.{◌≡◌, ℕ, zero, suc, ◌+◌, ◌<◌, ◌≤◌, ◌==◌, not, ◌&&◌, ◌||◌, List, length, Bool, true, false, refl, ◌∙◌, ap, arith, inl, inr}
use Rattle.scj_builtins.specs.Framework.{aperiodic_handler, mission_sequencer, periodic_handler}
use Rattle.scj_tree.specs.Forest.{Forest}
use Rattle.scj_rules.specs.declared.views.SlotKind.{SlotKind}
use Rattle.scj_rules.specs.declared.views.SlotKind.TheVariants.{Number, Reference as ReferenceSlot, Truth as TruthKind}
use Rattle.scj_rules.specs.Words.{holds, is_among, ◌>>=◌}
use Rattle.scj_rules.specs.Classes.{ClassRow, hidden_fields, superclass_in, superclasses}
use Rattle.scj_rules.specs.Contexts.{Declarations, declarations_of}
use Rattle.scj_rules.specs.Definitions.{read}
use Rattle.scj_rules.specs.Layout.{element_kind, first_array_class}
use Rattle.scj_rules.specs.ScopeRules.{is_handler}
use Rattle.scj_rules.specs.Bodies.{number_literal}
use Rattle.scj_rules.specs.Types.{form_in, is_concrete}
use Rattle.scj_rules.proofs.ChainLemmas.{or_cases}
use Rattle.accepted_laws.specs.Programs.{IsAcceptedProgram}
use Rattle.accepted_laws.specs.Sorts.{IsWellSorted}
use Rattle.accepted_laws.proofs.ClassSorts.{well_sorted}
use Rattle.accepted_laws.proofs.MethodNodes.{and_true}
use Rattle.accepted_laws.proofs.Typed.{behind_children}
use Rattle.accepted_nodes.proofs.FormParts.{bound, held, if_some}
use Rattle.accepted_facts.proofs.ClassBounds.{names_and_classes}
use Rattle.scj_model.specs.declared.operations.Op.{Op}
use Rattle.scj_model.specs.Code.{code_of}
use Rattle.scj_model.specs.Plan.{Plan}
use Rattle.scj_model.specs.State.{State}
use Rattle.scj_model.specs.Choice.{by_list}
use Rattle.scj_model.specs.Reached.{Arrived, Reached}
use Rattle.mission_sound.specs.Invariant.{Invariant, RowFine}
use Rattle.frame_sound.specs.Places.{world_of}
use Rattle.scope_sound.specs.Sound.{HasFacts}
use Rattle.scope_sound.proofs.Safe.{has_facts}
use Rattle.certain_faults.proofs.RunsOfNodes.{ClassesAskNothing}
use Rattle.certain_faults.proofs.Runs.{classes_ask_nothing, invariant_of}
use Rattle.memory_needs.specs.Causes.{class_with_form, only_argument, storage, storage_node}
use Rattle.memory_bounds.specs.Theorem.{RowsReport, Storage}
use Rattle.memory_bounds.proofs.FormBodies.{constructors}
use Rattle.memory_bounds.proofs.FormClass.{OnWay, handler_form}
use Rattle.memory_bounds.proofs.Forms.{FormFacts}
use Rattle.memory_bounds.proofs.FormSaid.{form_says}
use Rattle.memory_bounds.proofs.FormWays.{on_the_way}
use Rattle.memory_bounds.proofs.Inner.{Inner, StandWithoutObject, inner_laws}
use Rattle.memory_bounds.proofs.RowsReporting.{always_reports}
use Rattle.memory_bounds.proofs.WithoutObject.{InSuper, without_object}

module _ (forest : Forest) (a : IsAcceptedProgram forest) where
  abbrev p : Declarations
  p = declarations_of forest

  sorted : IsWellSorted forest.nodes
  sorted = well_sorted forest a.is_read

  -- ---- the storage of handler classes

  abbrev of_handler : ℕ → Bool
  of_handler class =
      holds (class_with_form p class >>= superclass_in p.classes) (λ s. not (s == mission_sequencer))

  abbrev is_reported : ℕ → Bool
  is_reported class = nat_lt class (length p.classes) && (is_handler p class && of_handler class)

  abbrev reported_storage : Storage
  reported_storage class = if is_reported class then storage p class else None

  record Reported (class n : ℕ) : Type 0 where
    within : class < length p.classes
    handler : is_handler p class ≡ true
    kept : of_handler class ≡ true
    is : storage p class ≡ Some n

  reported_is : (class n : ℕ) → reported_storage class ≡ Some n → Reported class n
  reported_is class n e =
      (let q = if_some (is_reported class) (storage p class) n e in
      let first = and_true (nat_lt class (length p.classes)) (is_handler p class && of_handler class) q.0 in
      let second = and_true (is_handler p class) (of_handler class) first.1 in
      let test = first.0 in
      record {
        within = grind (arith, nat_tests, test);
        handler = second.0;
        kept = second.1;
        is = q.1;
      })

  with_form : (class n : ℕ) → storage p class ≡ Some n → (d : ℕ) × (class_with_form p class ≡ Some d)
  unfolding storage storage_node
  with_form class n e =
      (let q = bound (storage_node p class) (read p.nodes number_literal) n e in
      let r = bound (class_with_form p class >>= form_in p >>= (λ parts. slice_get parts 1)) (read p.nodes only_argument)
      q.0 q.1 in
      let s = bound (class_with_form p class >>= form_in p) (λ parts. slice_get parts 1) r.0 r.1 in
      let t = bound (class_with_form p class) (form_in p) s.0 s.1 in
      (t.0, t.1))

  -- a handler class has the form of a handler
  reported_of : (class n : ℕ) → class < length p.classes → is_handler p class ≡ true → storage p class ≡ Some n →
      reported_storage class ≡ Some n
  reported_of class n l handler e =
      ap (λ t. if t then storage p class else None) all ∙ e
    where
      d : (d : ℕ) × (class_with_form p class ≡ Some d)
      d = with_form class n e

      up : (h : ℕ) → superclass_in p.classes d.0 ≡ Some h → not (h == mission_sequencer) ≡ true → of_handler class ≡ true
      up h q k =
          ap (λ (o : Option ℕ). holds (o >>= superclass_in p.classes) (λ s. not (s == mission_sequencer))) d.1
          ∙ (ap (λ (o : Option ℕ). holds o (λ s. not (s == mission_sequencer))) q ∙ k)

      kept : of_handler class ≡ true
      kept =
          elim (or_cases (is_among periodic_handler (superclasses p.classes class))
          (is_among aperiodic_handler (superclasses p.classes class)) handler) as (λ z. of_handler class ≡ true) [
            | inl k ↦ up periodic_handler (handler_form forest a class periodic_handler d.0 refl l k d.1) refl
            | inr k ↦ up aperiodic_handler (handler_form forest a class aperiodic_handler d.0 refl l k d.1) refl
          ]

      less : nat_lt class (length p.classes) ≡ true
      less = grind (arith, nat_tests, l)

      all : is_reported class ≡ true
      all =
          ap (λ t. t && (is_handler p class && of_handler class)) less
          ∙ (ap (λ t. t && of_handler class) handler ∙ kept)

  -- ---- the facts on forms

  facts : HasFacts (code_of forest)
  facts = has_facts forest a

  bare : ClassesAskNothing (code_of forest)
  bare = classes_ask_nothing forest a

  stand : StandWithoutObject (code_of forest) (InSuper forest a.is_accepted a.whole sorted)
  stand = without_object forest a.is_accepted a.whole sorted

  abbrev I : Op → Type 0
  I = Inner (code_of forest) facts.bodies (InSuper forest a.is_accepted a.whole sorted) stand

  hides : (class n : ℕ) → reported_storage class ≡ Some n → 2 ≤ hidden_fields p.classes class
  unfolding hidden_fields
  hides class n e =
      of (is_among periodic_handler (superclasses p.classes class))
      (is_among aperiodic_handler (superclasses p.classes class)) (reported_is class n e).handler
    where
      of : (x y : Bool) → (x || y) ≡ true → 2 ≤ (if x then 4 else (if y then 2 else 0))
      of true y h = omega arith
      of false true h = omega arith
      of false false h = absurd (cc (h))

  no_array : (class n : ℕ) → reported_storage class ≡ Some n → element_kind p class ≡ None
  unfolding element_kind
  no_array class n e = ap (λ t. if t then None else behind) less
    where
      l : class < length p.names
      l =
          (let w = (reported_is class n e).within in
          let same = names_and_classes forest in
          omega (arith, w, same))

      less : nat_lt class (length p.names) ≡ true
      less = grind (arith, nat_tests, l)

      behind : Option SlotKind
      behind =
          if class == first_array_class p then Some Number
          else (if class == first_array_class p + 1 then Some TruthKind
          else (if nat_lt class (first_array_class p + 2 + length p.names) then Some ReferenceSlot else None))

  forms : FormFacts (code_of forest) reported_storage I (OnWay forest a)
  unfolding code_of
  forms = record {
    laws = inner_laws (code_of forest) facts.bodies (InSuper forest a.is_accepted a.whole sorted) stand;
    starts = λ class n e. (let t = reported_is class n e in let d = with_form class n t.is in
        record { within = t.within; of = d.0; is = d.1 });
    constructors = constructors (code_of forest) facts.bodies bare (InSuper forest a.is_accepted a.whole sorted) stand
        (OnWay forest a) (on_the_way forest a);
    form = λ b c sig body id call superclass bound_to form class n sub e. (let t = reported_is class n e in
        form_says forest a facts.bodies (behind_children forest a.whole) b c sig body id call superclass bound_to form class n
        t.within sub t.is t.kept);
    hides = hides;
    no_array = no_array;
  }

  -- ---- all states

  pub rows_report : (plan : Plan) (choices : List ℕ) (s : State) →
      Reached (code_of forest) plan (by_list choices) Arrived s → RowsReport (storage p) s
  unfolding code_of is_concrete
  rows_report plan choices s h zero row bytes there reported = absurd (cc (there))
  rows_report plan choices s h (suc k) row bytes there reported =
      (always_reports (code_of forest) facts bare reported_storage I (OnWay forest a) forms plan choices Arrived s h).rows (suc k)
      row bytes there (reported_of row.class bytes within handler reported)
    where
      i : Invariant (code_of forest) s
      i = invariant_of (code_of forest) facts bare plan choices Arrived s h

      fine : RowFine p (world_of s) i.base row
      fine = i.handlers.rows k row there

      handler : is_handler p row.class ≡ true
      handler = ap (is_handler p) fine.is_class ∙ fine.is_a_handler

      within : row.class < length p.classes
      within =
          (let c = held (slice_get p.classes fine.object.class) (λ (r : ClassRow). is_concrete r.kind) fine.concrete in
          let l = slice_get_within p.classes fine.object.class c.0 c.1 in
          let same = fine.is_class in
          omega (arith, l, same))
