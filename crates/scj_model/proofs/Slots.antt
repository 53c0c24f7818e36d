-- A new object has as many values as its class has slots.
use Rattle.std.proofs.Common.{◌≡◌, ℕ, Bool, true, false, ◌+◌, List, [], ◌∷◌, length, map, length-append, if◌then◌else◌, refl, ap, ◌∙◌}
use Rattle.std.specs.Prelude.{pos}
use Rattle.std.proofs.lemmas.List.{length-map}
use Rattle.scj_base.specs.declared.values.Value.{Value}
use Rattle.scj_base.specs.declared.values.Value.TheVariants.{Int}
use Rattle.scj_builtins.specs.Framework.{periodic_handler, aperiodic_handler}
use Rattle.scj_rules.specs.declared.views.Declared.{Declared}
use Rattle.scj_rules.specs.Words.{is_among}
use Rattle.scj_rules.specs.Classes.{superclasses, instance_fields, hidden_fields}
use Rattle.scj_rules.specs.Contexts.{Declarations}
use Rattle.scj_rules.specs.Layout.{kind_of_type, slots}
use Rattle.scj_model.specs.Memory.{default_value, hidden_values, new_slots}

by_kind : (is_periodic is_aperiodic : Bool) → length {A = Value} (if is_periodic then Int (pos 1) ∷ Int (pos 0) ∷ Int (pos 0) ∷ Int (pos 1) ∷ [] else (if is_aperiodic then Int (pos 1) ∷ Int (pos 0) ∷ [] else [])) ≡ (if is_periodic then 4 else (if is_aperiodic then 2 else 0))
by_kind true is_aperiodic = refl
by_kind false true = refl
by_kind false false = refl

pub hidden_counted : (p : Declarations) (class : ℕ) → length (hidden_values p class) ≡ hidden_fields p.classes class
unfolding hidden_values hidden_fields
hidden_counted p class =
    by_kind (is_among periodic_handler (superclasses p.classes class)) (is_among aperiodic_handler (superclasses p.classes class))

pub slots_counted : (p : Declarations) (class : ℕ) → length (new_slots p class) ≡ slots p class
unfolding new_slots slots
slots_counted p class =
    let fields : List Declared = instance_fields p.classes class in
    let start : Declared → Value = λ f. default_value (kind_of_type f.declared_type) in
    length-append (hidden_values p class) (map start fields)
    ∙ (ap (λ n. n + length (map start fields)) (hidden_counted p class)
    ∙ ap (λ n. hidden_fields p.classes class + n) (length-map fields start))
