-- The slot in which a handler has its priority: how it begins, and that no declared field has it.
use Rattle.std.proofs.Common.{◌≡◌, ℕ, ◌+◌, ◌<◌, ◌≤◌, Bool, true, false, ◌||◌, List, [], ◌∷◌, ◌++◌, Option, Some, None, if◌then◌else◌, refl, sym, ap, ◌∙◌, subst, arith}
use Rattle.std.specs.Prelude.{ℤ, pos, negsuc, unsigned_abs, option_map, map, nat_le, ◌&&◌}
use Rattle.std.proofs.lemmas.Bool.Decides.{nat_tests}
use Rattle.scj_base.specs.declared.values.Value.{Value}
use Rattle.scj_base.specs.declared.values.Value.TheVariants.{Int}
use Rattle.scj_builtins.specs.Framework.{periodic_handler, aperiodic_handler}
use Rattle.scj_rules.specs.declared.views.Declared.{Declared}
use Rattle.scj_rules.specs.declared.views.SlotKind.{SlotKind}
use Rattle.scj_rules.specs.Words.{is_among, ◌>>=◌}
use Rattle.scj_rules.specs.Classes.{superclasses, hidden_fields, instance_fields}
use Rattle.scj_rules.specs.Contexts.{Declarations}
use Rattle.scj_rules.specs.Layout.{field_numbered, kind_of_type, index_among, slot_of, element_kind}
use Rattle.scj_rules.specs.ScopeRules.{is_handler}
use Rattle.accepted_laws.proofs.Tools.{some_inj}
use Rattle.scj_model.specs.Code.{Code}
use Rattle.scj_model.specs.State.{Object}
use Rattle.scj_model.specs.Memory.{hidden_values, new_slots, default_value}
use Rattle.scj_model.specs.Operations.{is_priority}
use Rattle.priority_laws.specs.Handlers.{IsPriority, IsHandlerClass, BeginWithPriority}
use Rattle.priority_laws.proofs.Shapes.{MakesRightly, SparesPriority}

-- ---- a handler has hidden fields, and its priority is 1 at first

pub handler_hides : (p : Declarations) (class : ℕ) → is_handler p class ≡ true → 0 < hidden_fields p.classes class
unfolding hidden_fields
handler_hides p class h =
    go (is_among periodic_handler (superclasses p.classes class))
    (is_among aperiodic_handler (superclasses p.classes class)) h
  where
    go : (a b : Bool) → (a || b) ≡ true → 0 < (if a then 4 else (if b then 2 else 0))
    go true b h = omega arith
    go false true h = omega arith
    go false false h = absurd (cc (h))

pub new_begins : (code : Code) (class : ℕ) → MakesRightly code class (new_slots code.program class)
unfolding new_slots hidden_values
new_begins code class =
    record {
      is = λ h. go (is_among periodic_handler (superclasses code.program.classes class))
          (is_among aperiodic_handler (superclasses code.program.classes class)) h.is_handler;
    }
  where
    rest : List Value
    rest = map (λ (f : Declared). default_value (kind_of_type f.declared_type))
        (instance_fields code.program.classes class)

    go : (a b : Bool) → (a || b) ≡ true →
        BeginWithPriority
        ((if a then Int (pos 1) ∷ Int (pos 0) ∷ Int (pos 0) ∷ Int (pos 1)
        ∷ [] else (if b then Int (pos 1) ∷ Int (pos 0) ∷ [] else [])) ++ rest)
    go true b h = record { priority = 1; is_priority = (omega arith, omega arith); is_first = refl }
    go false true h = record { priority = 1; is_priority = (omega arith, omega arith); is_first = refl }
    go false false h = absurd (cc (h))

pub array_begins : (code : Code) (class : ℕ) (kind : SlotKind) (slots : List Value) →
    element_kind code.program class ≡ Some kind → MakesRightly code class slots
array_begins code class kind slots e = record { is = λ h. absurd (cc (e, h.is_no_array)) }

-- ---- the slots of declared fields stand behind the hidden ones

slot_behind : (p : Declarations) (class field slot : ℕ) → slot_of p class field ≡ Some slot →
    hidden_fields p.classes class ≤ slot
unfolding slot_of
slot_behind p class field slot e = go (field_numbered p field) refl
  where
    placed : (f : Declared) (o : Option ℕ) → option_map (λ k. hidden_fields p.classes class + k) o ≡ Some slot →
        hidden_fields p.classes class ≤ slot
    placed f None g = absurd (cc (g))
    placed f (Some k) g =
        let same : hidden_fields p.classes class + k ≡ slot = some_inj (hidden_fields p.classes class + k) slot g in
        omega (arith, same)

    go : (o : Option Declared) → field_numbered p field ≡ o → hidden_fields p.classes class ≤ slot
    go None f = absurd (cc (e, f))
    go (Some d) f =
        placed d (index_among (instance_fields p.classes class) d)
        (sym (ap
        (λ (o : Option Declared). o
        >>= (λ f. option_map (λ k. hidden_fields p.classes class + k)
        (index_among (instance_fields p.classes class) f))) f) ∙ e)

pub field_spares : (code : Code) (objects : ℕ → Option Object) (r : ℕ) (o : Object) (field slot : ℕ) →
    objects r ≡ Some o → slot_of code.program o.class field ≡ Some slot → SparesPriority code objects r slot
field_spares code objects r o field slot there e =
    record { is = λ x found h same. go x (some_inj x o (sym found ∙ there)) h same }
  where
    go : (x : Object) → x ≡ o → IsHandlerClass code.program x.class → slot ≡ 0 → ⊥
    go x f h same =
        let a : 0 < hidden_fields code.program.classes o.class =
        handler_hides code.program o.class
        (subst (λ (y : Object). is_handler code.program y.class ≡ true) f h.is_handler) in
        let b : hidden_fields code.program.classes o.class ≤ slot = slot_behind code.program o.class field slot e in
        omega (arith, a, b, same)

-- ---- a number that passes as a priority

pub passes_as_priority : (z : ℤ) → is_priority z ≡ true → (n : ℕ) × (z ≡ pos n) × IsPriority n
passes_as_priority (pos n) h = (n, refl, in_range n h)
  where
    in_range : (n : ℕ) → (nat_le 1 n && nat_le n 28) ≡ true → IsPriority n
    in_range n h = (grind (arith, nat_tests), grind (arith, nat_tests))
passes_as_priority (negsuc n) h = absurd (cc (h))

pub begin_with : (z : ℤ) (more : List Value) → is_priority z ≡ true → BeginWithPriority (Int z ∷ more)
begin_with z more h =
    let n = passes_as_priority z h in
    record { priority = n.0; is_priority = n.2; is_first = ap (λ (y : ℤ). Some (Int y)) n.1 }

pub priority_abs : (z : ℤ) → is_priority z ≡ true → IsPriority (unsigned_abs z)
priority_abs z h =
    let n = passes_as_priority z h in subst (λ (y : ℤ). IsPriority (unsigned_abs y)) (sym n.1) n.2
