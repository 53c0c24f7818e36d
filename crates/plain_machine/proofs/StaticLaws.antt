-- The values of the static fields before a run: those of the definitions.
use Rattle.std.proofs.Common.{◌≡◌, List, [], ◌∷◌, map, refl, ap, ◌∙◌}
use Rattle.scj_base.specs.declared.values.Value.{Value}
use Rattle.scj_tree.specs.Forest.{Forest}
use Rattle.scj_rules.specs.declared.views.Declared.{Declared}
use Rattle.scj_rules.specs.Contexts.{declarations_of}
use Rattle.scj_rules.specs.Layout.{static_fields}
use Rattle.scj_model.specs.Code.{code_of}
use Rattle.scj_model.specs.Run.{first_static}
use Rattle.object_layout.specs.declared.fields.StaticField.{StaticField}
use Rattle.object_layout.specs.Fields.{static_row}
use Rattle.plain_machine.specs.Statics.{start_of}

row_starts : (forest : Forest) (f : Declared) →
    start_of forest.nodes (static_row (declarations_of forest).nodes f) ≡ first_static (code_of forest) f
unfolding static_row first_static code_of declarations_of
row_starts forest f = refl

rows_start : (forest : Forest) (fields : List Declared) →
    map (start_of forest.nodes) (map (static_row (declarations_of forest).nodes) fields)
    ≡ map (first_static (code_of forest)) fields
rows_start forest [] = refl
rows_start forest (f ∷ fs) =
    ap (λ (value : Value). value
    ∷ map (start_of forest.nodes) (map (static_row (declarations_of forest).nodes) fs)) (row_starts forest f)
    ∙ ap (λ (values : List Value). first_static (code_of forest) f ∷ values) (rows_start forest fs)

pub statics_begin : (forest : Forest) (rows : List StaticField) (values : List Value) →
    rows ≡ map (static_row (declarations_of forest).nodes) (static_fields (declarations_of forest)) →
    values ≡ map (start_of forest.nodes) rows →
    values ≡ map (first_static (code_of forest)) (static_fields (code_of forest).program)
unfolding code_of
statics_begin forest rows values e h =
    h ∙ (ap (map (start_of forest.nodes)) e ∙ rows_start forest (static_fields (declarations_of forest)))
