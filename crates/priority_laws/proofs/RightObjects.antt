-- Priorities stay right when an object is made or has another slot or ceiling, and when a handler is registered.
use Rattle.std.proofs.Common.{◌≡◌, ℕ, ◌<◌, true, List, [], ◌∷◌, ◌++◌, length, ◌⊎◌, inl, inr, Option, Some, None, if◌then◌else◌, refl, sym, ap, ◌∙◌, subst, arith}
use Rattle.std.specs.Prelude.{slice_get, slice_set, drop, nat_lt}
use Rattle.std.proofs.lemmas.Bool.Decides.{nat_tests}
use Rattle.scj_base.specs.declared.values.Value.{Value}
use Rattle.scj_rules.specs.Classes.{hidden_fields}
use Rattle.scj_rules.specs.Contexts.{Declarations}
use Rattle.accepted_laws.proofs.Lists.{get_left, get_either, get_set_other}
use Rattle.accepted_laws.proofs.Tools.{some_inj}
use Rattle.scj_model.specs.declared.handlers.HandlerRow.{HandlerRow}
use Rattle.scj_model.specs.Code.{Code}
use Rattle.scj_model.specs.State.{Object, State, changed}
use Rattle.scj_model.specs.Registry.{number_in, hidden_number, new_row}
use Rattle.scj_model.specs.Memory.{new_object}
use Rattle.scj_model.specs.Apply.{with_first, with_ceiling}
use Rattle.priority_laws.specs.Handlers.{RowsAreOfHandlers, IsPriority, IsHandlerClass, BeginWithPriority, HandlersHavePriorities, RowsHavePriorities, CeilingsArePriorities, PrioritiesAreRight}
use Rattle.priority_laws.proofs.AreaLists.{number_cases, get_changed, get_changed_other}
use Rattle.priority_laws.proofs.Shapes.{MakesRightly, SparesPriority}
use Rattle.priority_laws.proofs.HandlerSlots.{handler_hides}

-- ---- an element of a changed list

pub record IsChangedFrom {A : Type 0} (f : A → A) (index : ℕ) (xs : List A) (i : ℕ) (y : A) : Type 0 where
  pub before : A
  pub was_there : slice_get xs i ≡ Some before
  pub is : (y ≡ before) ⊎ ((index ≡ i) × (y ≡ f before))

changed_from : {A : Type 0} (f : A → A) (index : ℕ) (xs : List A) (i : ℕ) (y : A) →
    slice_get (changed f index xs) i ≡ Some y → IsChangedFrom f index xs i y
changed_from {A} f index xs i y e = go (number_cases index i)
  where
    here : (o : Option A) → slice_get xs index ≡ o → index ≡ i → IsChangedFrom f index xs i y
    here None g h =
        let same : slice_get xs i ≡ None = sym (ap (slice_get xs) h) ∙ g in
        let all : changed f index xs ≡ xs =
        ap (λ (o : Option A). elim o as (λ z. List A) [ None ↦ xs | Some x ↦ slice_set xs index (f x) ]) g in
        absurd (cc (sym (ap (λ ys. slice_get ys i) all) ∙ e, same))
    here (Some x) g h =
        record {
          before = x;
          was_there = sym (ap (slice_get xs) h) ∙ g;
          is = inr (
            h,
            some_inj y (f x) (sym e ∙ (sym (ap (slice_get (changed f index xs)) h) ∙ get_changed f index xs x g)),
          );
        }

    go : (index ≡ i) ⊎ (index ≡ i → ⊥) → IsChangedFrom f index xs i y
    go (inl h) = here (slice_get xs index) refl h
    go (inr n) = record { before = y; was_there = sym (get_changed_other f index i xs n) ∙ e; is = inl refl }

-- ---- objects

module _ (p : Declarations) (f : Object → Object) (index : ℕ) (objects : List Object)
    (same : (x : Object) → (f x).class ≡ x.class) where
  pub handlers_changed : ((x : Object) → slice_get objects index ≡ Some x → IsHandlerClass p x.class →
      BeginWithPriority x.slots → BeginWithPriority (f x).slots) → HandlersHavePriorities p objects →
      HandlersHavePriorities p (changed f index objects)
  handlers_changed keeps h = record { is = λ r o e c. go r o c (changed_from f index objects r o e) }
    where
      go : (r : ℕ) (o : Object) → IsHandlerClass p o.class → IsChangedFrom f index objects r o →
          BeginWithPriority o.slots
      go r o c k = by k.is
        where
          by : (o ≡ k.before) ⊎ ((index ≡ r) × (o ≡ f k.before)) → BeginWithPriority o.slots
          by (inl e) = h.is r o (k.was_there ∙ ap (λ (x : Object). Some x) (sym e)) c
          by (inr e) =
              let class : IsHandlerClass p k.before.class =
              subst (λ n. IsHandlerClass p n) (ap (λ (x : Object). x.class) e.1 ∙ same k.before) c in
              subst (λ (x : Object). BeginWithPriority x.slots) (sym e.1)
              (keeps k.before (ap (slice_get objects) e.0 ∙ k.was_there) class (h.is r k.before k.was_there class))

pub ceilings_changed : (f : Object → Object) (index : ℕ) (objects : List Object) →
    ((x : Object) → IsPriority x.ceiling → IsPriority (f x).ceiling) → CeilingsArePriorities objects →
    CeilingsArePriorities (changed f index objects)
ceilings_changed f index objects keeps h = record { is = λ r o e. go r o (changed_from f index objects r o e) }
  where
    go : (r : ℕ) (o : Object) → IsChangedFrom f index objects r o → IsPriority o.ceiling
    go r o k = by k.is
      where
        by : (o ≡ k.before) ⊎ ((index ≡ r) × (o ≡ f k.before)) → IsPriority o.ceiling
        by (inl e) = h.is r o (k.was_there ∙ ap (λ (x : Object). Some x) (sym e))
        by (inr e) =
            subst (λ (x : Object). IsPriority x.ceiling) (sym e.1) (keeps k.before (h.is r k.before k.was_there))

-- ---- states with other objects

module _ (code : Code) (s : State) (h : PrioritiesAreRight code s) where
  pub right_same : (t : State) → t.objects ≡ s.objects → t.registry ≡ s.registry → PrioritiesAreRight code t
  right_same t objects registry =
      record {
        handlers = subst (λ xs. HandlersHavePriorities code.program xs) (sym objects) h.handlers;
        rows = subst (λ xs. RowsHavePriorities xs) (sym registry) h.rows;
        classes = subst (λ xs. RowsAreOfHandlers code.program xs) (sym registry) h.classes;
        ceilings = subst (λ xs. CeilingsArePriorities xs) (sym objects) h.ceilings;
      }

  pub right_slot : (r slot : ℕ) (value : Value) → SparesPriority code (λ q. slice_get s.objects q) r slot →
      PrioritiesAreRight code
      (record s { objects = changed (λ o. record o { slots = slice_set o.slots slot value }) r s.objects })
  right_slot r slot value spares =
      record {
        handlers = handlers_changed code.program (λ o. record o { slots = slice_set o.slots slot value }) r s.objects
            (λ x. refl)
            (λ x there c b. kept x b (spares.is x there c)) h.handlers;
        rows = h.rows;
        classes = h.classes;
        ceilings = ceilings_changed (λ o. record o { slots = slice_set o.slots slot value }) r s.objects
            (λ x c. c) h.ceilings;
      }
    where
      kept : (x : Object) → BeginWithPriority x.slots → (slot ≡ 0 → ⊥) →
          BeginWithPriority (slice_set x.slots slot value)
      kept x b n =
          record {
            priority = b.priority;
            is_priority = b.is_priority;
            is_first = get_set_other x.slots slot 0 value n ∙ b.is_first;
          }

  pub right_hidden : (r : ℕ) (values : List Value) → BeginWithPriority values →
      PrioritiesAreRight code (record s { objects = changed (with_first values) r s.objects })
  right_hidden r values b =
      record {
        handlers = handlers_changed code.program (with_first values) r s.objects (λ x. refl)
            (λ x there c old. record {
              priority = b.priority;
              is_priority = b.is_priority;
              is_first = get_left values (drop (length values) x.slots) 0 _ b.is_first;
            }) h.handlers;
        rows = h.rows;
        classes = h.classes;
        ceilings = ceilings_changed (with_first values) r s.objects (λ x c. c) h.ceilings;
      }

  pub right_ceiling : (r ceiling : ℕ) → IsPriority ceiling →
      PrioritiesAreRight code (record s { objects = changed (with_ceiling ceiling) r s.objects })
  right_ceiling r ceiling right =
      record {
        handlers = handlers_changed code.program (with_ceiling ceiling) r s.objects (λ x. refl)
            (λ x there c b. b) h.handlers;
        rows = h.rows;
        classes = h.classes;
        ceilings = ceilings_changed (with_ceiling ceiling) r s.objects (λ x c. right) h.ceilings;
      }

  pub right_object : (class area : ℕ) (slots : List Value) → MakesRightly code class slots →
      PrioritiesAreRight code (record s { objects = s.objects ++ new_object class area slots ∷ [] })
  right_object class area slots m =
      record {
        handlers = record { is = λ r o e c. handler r o c (get_either s.objects (new_object class area slots) r o e) };
        rows = h.rows;
        classes = h.classes;
        ceilings = record { is = λ r o e. ceiling r o (get_either s.objects (new_object class area slots) r o e) };
      }
    where
      handler : (r : ℕ) (o : Object) → IsHandlerClass code.program o.class →
          (slice_get s.objects r ≡ Some o) ⊎ (new_object class area slots ≡ o) → BeginWithPriority o.slots
      handler r o c (inl e) = h.handlers.is r o e c
      handler r o c (inr e) =
          subst (λ (x : Object). BeginWithPriority x.slots) e
          (m.is (subst (λ (x : Object). IsHandlerClass code.program x.class) (sym e) c))

      ceiling : (r : ℕ) (o : Object) → (slice_get s.objects r ≡ Some o) ⊎ (new_object class area slots ≡ o) →
          IsPriority o.ceiling
      ceiling r o (inl e) = h.ceilings.is r o e
      ceiling r o (inr e) = subst (λ (x : Object). IsPriority x.ceiling) e (omega arith, omega arith)

  -- ---- the registry

  row_priority : (r : ℕ) (o : Object) → IsHandlerClass code.program o.class → BeginWithPriority o.slots →
      IsPriority (new_row code.program r o).priority
  unfolding hidden_number number_in
  row_priority r o c b =
      let hides : nat_lt 0 (hidden_fields code.program.classes o.class) ≡ true =
      tested _ (handler_hides code.program o.class c.is_handler) in
      let first : (elim (slice_get o.slots 0) as (λ z. ℕ) [ None ↦ 0 | Some value ↦ number_in value ]) ≡ b.priority =
      ap (λ (x : Option Value). elim x as (λ z. ℕ) [ None ↦ 0 | Some value ↦ number_in value ]) b.is_first in
      subst IsPriority
      (sym
      (ap
      (λ t. if t then (elim (slice_get o.slots 0) as (λ z. ℕ) [ None ↦ 0 | Some value ↦ number_in value ]) else 0)
      hides ∙ first)) b.is_priority
    where
      tested : (n : ℕ) → 0 < n → nat_lt 0 n ≡ true
      tested n l = grind (arith, nat_tests)

  pub right_row : (t : State) → t.objects ≡ s.objects → (r : ℕ) (o : Object) → slice_get s.objects r ≡ Some o →
      IsHandlerClass code.program o.class → t.registry ≡ s.registry ++ new_row code.program r o ∷ [] →
      PrioritiesAreRight code t
  right_row t objects r o there c registry =
      record {
        handlers = subst (λ xs. HandlersHavePriorities code.program xs) (sym objects) h.handlers;
        rows = subst (λ xs. RowsHavePriorities xs) (sym registry)
            (record { is = λ k row e. go k row (get_either s.registry (new_row code.program r o) k row e) });
        classes = subst (λ xs. RowsAreOfHandlers code.program xs) (sym registry)
            (record { is = λ k row e. of k row (get_either s.registry (new_row code.program r o) k row e) });
        ceilings = subst (λ xs. CeilingsArePriorities xs) (sym objects) h.ceilings;
      }
    where
      of : (k : ℕ) (row : HandlerRow) → (slice_get s.registry k ≡ Some row) ⊎ (new_row code.program r o ≡ row) →
          IsHandlerClass code.program row.class
      of k row (inl e) = h.classes.is k row e
      of k row (inr e) = subst (λ (x : HandlerRow). IsHandlerClass code.program x.class) e c

      go : (k : ℕ) (row : HandlerRow) → (slice_get s.registry k ≡ Some row) ⊎ (new_row code.program r o ≡ row) →
          IsPriority row.priority
      go k row (inl e) = h.rows.is k row e
      go k row (inr e) =
          subst (λ (x : HandlerRow). IsPriority x.priority) e (row_priority r o c (h.handlers.is r o there c))

  pub right_cleared : (t : State) → t.objects ≡ s.objects → t.registry ≡ [] → PrioritiesAreRight code t
  right_cleared t objects registry =
      record {
        handlers = subst (λ xs. HandlersHavePriorities code.program xs) (sym objects) h.handlers;
        rows = subst (λ xs. RowsHavePriorities xs) (sym registry) (record { is = λ k row e. absurd (cc (e)) });
        classes =
            subst (λ xs. RowsAreOfHandlers code.program xs) (sym registry) (record { is = λ k row e. absurd (cc (e)) });
        ceilings = subst (λ xs. CeilingsArePriorities xs) (sym objects) h.ceilings;
      }
