-- The slots with which a new object begins.
use Rattle.std.proofs.Common.{◌≡◌, ℕ, Bool, true, false, List, [], ◌∷◌, ◌++◌, map, if◌then◌else◌, refl, ap, ◌∙◌, pos}
use Rattle.std.proofs.lemmas.Simd.{map-map}
use Rattle.scj_base.specs.declared.values.Value.{Value}
use Rattle.scj_base.specs.declared.values.Value.TheVariants.{Int}
use Rattle.scj_builtins.specs.Framework.{periodic_handler, aperiodic_handler}
use Rattle.scj_rules.specs.declared.views.Declared.{Declared}
use Rattle.scj_rules.specs.declared.views.SlotKind.{SlotKind}
use Rattle.scj_rules.specs.Words.{is_among}
use Rattle.scj_rules.specs.Classes.{superclasses, instance_fields, hidden_fields}
use Rattle.scj_tree.specs.Forest.{Forest}
use Rattle.scj_rules.specs.Contexts.{Declarations, declarations_of}
use Rattle.scj_model.specs.Code.{code_of}
use Rattle.scj_rules.specs.Layout.{kind_of_type}
use Rattle.object_layout.specs.Fields.{kind_of_field}
use Rattle.scj_model.specs.Memory.{default_value, hidden_values, new_slots}
use Rattle.object_slots.specs.Slots.{hidden_start}

by_kind : (is_periodic is_aperiodic : Bool) →
    hidden_start (if is_periodic then 4 else (if is_aperiodic then 2 else 0))
    ≡ (if is_periodic then Int (pos 1) ∷ Int (pos 0) ∷ Int (pos 0) ∷ Int (pos 1) ∷ []
    else (if is_aperiodic then Int (pos 1) ∷ Int (pos 0) ∷ [] else []))
unfolding hidden_start
by_kind true is_aperiodic = refl
by_kind false true = refl
by_kind false false = refl

hidden_are : (p : Declarations) (class : ℕ) → hidden_start (hidden_fields p.classes class) ≡ hidden_values p class
unfolding hidden_values hidden_fields
hidden_are p class =
    by_kind (is_among periodic_handler (superclasses p.classes class))
    (is_among aperiodic_handler (superclasses p.classes class))

-- a new object's hidden fields and its other slots
slots_are : (p : Declarations) (class count : ℕ) (hidden slots : List Value) (kinds : List SlotKind) →
    count ≡ hidden_fields p.classes class → hidden ≡ hidden_start count →
    kinds ≡ map kind_of_field (instance_fields p.classes class) → slots ≡ hidden ++ map default_value kinds →
    slots ≡ new_slots p class
unfolding new_slots
slots_are p class count hidden slots kinds c h k s =
    let fields : List Declared = instance_fields p.classes class in
    let own : map default_value kinds ≡ map (λ (f : Declared). default_value (kind_of_type f.declared_type)) fields =
    ap (map default_value) k ∙ map-map default_value kind_of_field fields in
    let own_hidden : hidden ≡ hidden_values p class = h ∙ (ap hidden_start c ∙ hidden_are p class) in
    s
    ∙ (ap (λ (vs : List Value). vs ++ map default_value kinds) own_hidden
    ∙ ap (λ (vs : List Value). hidden_values p class ++ vs) own)

-- the same for the classes of a program, as a machine asks for them
pub made_is : (forest : Forest) (class count : ℕ) (hidden slots : List Value) (kinds : List SlotKind) →
    count ≡ hidden_fields (declarations_of forest).classes class → hidden ≡ hidden_start count →
    kinds ≡ map kind_of_field (instance_fields (declarations_of forest).classes class) →
    slots ≡ hidden ++ map default_value kinds → slots ≡ new_slots (code_of forest).program class
unfolding code_of
made_is forest class count hidden slots kinds c h k s =
    slots_are (declarations_of forest) class count hidden slots kinds c h k s
