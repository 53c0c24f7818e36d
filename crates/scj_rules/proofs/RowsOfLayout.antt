-- Layout and bodies of small programs: a whole controller, a class under another with arrays and a static field, and
-- fields with literals.
use Rattle.std.proofs.Common.{◌≡◌, ℕ, [], ◌∷◌, refl, Some, None, codes, true, false}
use Rattle.std.specs.Prelude.{map}
use Rattle.scj_base.specs.declared.positions.Position.{Position}
use Rattle.scj_tree.specs.declared.nodes.Node.TheVariants.{Class, Field, Flags, IntType, BooleanType, Number as NumberNode, True}
use Rattle.scj_tree.specs.Forest.{Forest}
use Rattle.scj_builtins.specs.Framework.{object, mission, mission_clean_up, mission_initialize, periodic_handler_handle_async_event, aperiodic_handler_handle_async_event, safelet_get_sequencer}
use Rattle.scj_rules.specs.declared.views.Declared.{Declared}
use Rattle.scj_rules.specs.declared.views.SlotKind.TheVariants.{Number, Truth, Reference}
use Rattle.scj_rules.specs.Words.{◌>>=◌}
use Rattle.scj_rules.specs.Contexts.{Declarations, declarations_of}
use Rattle.scj_rules.specs.Layout.{kind_of_type, declared_fields, field_kind, literal_written, field_literal, slots, slot_of, fields_with_literal, declaring_class, size_with_slots, element_kind, class_of_elements, static_fields, static_index, index_of_field}
use Rattle.scj_rules.specs.declared.views.Body.TheVariants.{Written as written, Empty as empty}
use Rattle.scj_rules.specs.Bodies.{method_node, method_name, number_of_method, body_of_method, body_named, invoked_method, body_of, class_of_body, constructor_body, locals, is_synchronized_body, number_literal, number_returned, size_constant, declared_size, size_of, safelet_class, class_position}
use Rattle.scj_rules.proofs.Computing.{computing}
use Rattle.scj_rules.proofs.RowOfUse.{controller}
use Rattle.scj_rules.proofs.RowOfBindings.{small_program}

unfoldable pub computing_layout : Unit {0}
unfolding computing kind_of_type declared_fields field_kind literal_written slots slot_of declaring_class
    fields_with_literal size_with_slots element_kind class_of_elements static_fields static_index index_of_field
    method_node method_name number_of_method body_of_method body_named invoked_method body_of class_of_body
    constructor_body is_synchronized_body number_literal number_returned size_constant declared_size size_of
    safelet_class class_position
computing_layout = tt

abbrev p : Declarations
p = declarations_of controller

-- App, Seq, Main, Tank, Box, Alarm, Sensor and Pump have the numbers 16 to 23

slots_of_controller : map (slots p) (16 ∷ 17 ∷ 18 ∷ 19 ∷ 20 ∷ 21 ∷ 22 ∷ 23 ∷ []) ≡ 0 ∷ 1 ∷ 0 ∷ 1 ∷ 1 ∷ 3 ∷ 6 ∷ 5 ∷ []
unfolding computing_layout
slots_of_controller = refl

sizes_of_controller : map (λ class. size_with_slots (slots p class)) (object ∷ 18 ∷ 20 ∷ 21 ∷ 22 ∷ []) ≡ 16 ∷ 16 ∷ 24
    ∷ 40 ∷ 64 ∷ []
unfolding computing_layout
sizes_of_controller = refl

-- the second field of Sensor behind its four hidden ones, and the level of a tank, which a box hasn't
slots_of_fields :
    slot_of p 22 5 ∷ slot_of p 19 1 ∷ slot_of p 20 1 ∷ slot_of p 20 7 ∷ [] ≡ Some 5 ∷ Some 0 ∷ None ∷ None ∷ []
unfolding computing_layout
slots_of_fields = refl

kinds_of_fields : field_kind p 1 ∷ field_kind p 5 ∷ field_kind p 7 ∷ [] ≡ Some Number ∷ Some Reference ∷ None ∷ []
unfolding computing_layout
kinds_of_fields = refl

sizes_of_areas :
    safelet_class p ∷ size_of p 16 ∷ size_of p 18 ∷ size_of p 19 ∷ [] ≡ Some 16 ∷ Some 400 ∷ Some 200 ∷ None ∷ []
unfolding computing_layout
sizes_of_areas = refl

-- getSequencer, handleAsyncEvent of two handlers, Tank's get (number 27), which a box hasn't, and the framework's
-- cleanUp
bodies_of_controller :
    body_of p 16 safelet_get_sequencer
    ∷ body_of p 22 periodic_handler_handle_async_event
    ∷ body_of p 21 aperiodic_handler_handle_async_event
    ∷ body_of p 19 28
    ∷ body_of p 20 28
    ∷ body_of p 18 mission_clean_up
    ∷ body_of p mission mission_initialize
    ∷ []
    ≡ Some (written 6) ∷ Some (written 215) ∷ Some (written 156) ∷ Some (written 112) ∷ None ∷ Some empty ∷ None ∷ []
unfolding computing_layout
bodies_of_controller = refl

-- Tank's get has the node 112 and the number 28, the framework's methods have no node
numbers_of_methods :
    method_node p 28
    ∷ method_node p safelet_get_sequencer
    ∷ (invoked_method p 19 28 >>= number_of_method p)
    ∷ (invoked_method p mission mission_initialize >>= number_of_method p)
    ∷ []
    ≡ Some 112 ∷ None ∷ Some 28 ∷ Some mission_initialize ∷ []
unfolding computing_layout
numbers_of_methods = refl

constructors_of_controller :
    constructor_body p 20 ∷ constructor_body p 16 ∷ constructor_body p object ∷ constructor_body p mission ∷ []
    ≡ Some (written 123) ∷ Some (written 15) ∷ Some empty ∷ None ∷ []
unfolding computing_layout
constructors_of_controller = refl

-- Sensor's constructor has its two parameters, its handler a local, and `initialize` four; a class has none
locals_of_controller : map (locals p) (193 ∷ 215 ∷ 89 ∷ 15 ∷ []) ≡ 2 ∷ 1 ∷ 4 ∷ 0 ∷ []
unfolding computing_layout
locals_of_controller = refl

synchronized_bodies : map (is_synchronized_body p) (105 ∷ 112 ∷ 89 ∷ 15 ∷ []) ≡ true ∷ true ∷ false ∷ false ∷ []
unfolding computing_layout
synchronized_bodies = refl

-- the body of Tank's get, Box's constructor, and App, whose constructor isn't written
classes_of_bodies : map (class_of_body p) (112 ∷ 123 ∷ 15 ∷ []) ≡ Some 19 ∷ Some 20 ∷ Some 16 ∷ []
unfolding computing_layout
classes_of_bodies = refl

place_of_sensor : class_position p 22 ≡ record { file = 1; line = 26; col = 55 }
unfolding computing_layout
place_of_sensor = refl

-- ---- class Q (16) has the fields f, q and the static s, class A (17) under it two arrays; the numbers of fields are
-- f 0, s 1, q 2, a 3 and b 4

abbrev q : Declarations
q = declarations_of small_program

slots_below : slots q 17 ∷ slots q 16 ∷ [] ≡ 4 ∷ 2 ∷ []
unfolding computing_layout
slots_below = refl

slots_of_inherited_fields :
    slot_of q 17 0 ∷ slot_of q 17 3 ∷ slot_of q 17 1 ∷ slot_of q 16 3 ∷ [] ≡ Some 0 ∷ Some 2 ∷ None ∷ None ∷ []
unfolding computing_layout
slots_of_inherited_fields = refl

statics : static_index q 1 ∷ static_index q 0 ∷ [] ≡ Some 0 ∷ None ∷ []
unfolding computing_layout
statics = refl

places_of_fields : map (index_of_field q) (0 ∷ 1 ∷ 2 ∷ 3 ∷ 5 ∷ []) ≡ Some 0 ∷ Some 0 ∷ Some 1 ∷ Some 2 ∷ None ∷ []
unfolding computing_layout
places_of_fields = refl

-- there are 18 classes; behind them come the arrays of int, of boolean and of the classes 0 to 17
elements :
    map (element_kind q) (17 ∷ 18 ∷ 19 ∷ 36 ∷ 37 ∷ 38 ∷ [])
    ≡ None ∷ Some Number ∷ Some Truth ∷ Some Reference ∷ Some Reference ∷ None ∷ []
unfolding computing_layout
elements = refl

classes_of_elements : map (class_of_elements q) (18 ∷ 19 ∷ 36 ∷ 38 ∷ []) ≡ None ∷ None ∷ Some 16 ∷ None ∷ []
unfolding computing_layout
classes_of_elements = refl

-- A inherits Q's method g (number 20)
inherited_body : body_of q 17 20 ≡ Some (written 25)
unfolding computing_layout
inherited_body = refl

-- ---- class L { int a; int b = 5; static boolean c = true; }

abbrev at : ℕ → Position
at col = record { file = 0; line = 1; col = col }

abbrev with_literals : Forest
with_literals =
    record {
      nodes =
          IntType (at 11) false
          ∷ Field (at 15) (codes "a") None 0 None None
          ∷ IntType (at 18) false
          ∷ NumberNode (at 26) 5 false
          ∷ Field (at 22) (codes "b") None 2 (Some (at 24)) (Some 3)
          ∷ Flags (at 29) None None None true false false
          ∷ BooleanType (at 36) false
          ∷ True (at 48)
          ∷ Field (at 44) (codes "c") (Some 5) 6 (Some (at 46)) (Some 7)
          ∷ Class (at 7) (codes "L") None None (1 ∷ 4 ∷ 8 ∷ [])
          ∷ [];
      files = ((9 ∷ []) ∷ []);
    }

abbrev l : Declarations
l = declarations_of with_literals

literals_of_fields : map (λ (f : Declared). f.node) (fields_with_literal l 16) ≡ 4 ∷ []
unfolding computing_layout
literals_of_fields = refl

literals_of_statics : map (field_literal l) (static_fields l) ≡ Some 7 ∷ []
unfolding computing_layout
literals_of_statics = refl

kind_of_static : field_kind l 2 ≡ Some Truth
unfolding computing_layout
kind_of_static = refl
