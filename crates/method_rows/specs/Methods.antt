-- The method for which a short row stands.
use Rattle.std.specs.Prelude.{ℕ, false, List, [], slice_get, find, Option, None, option_map, unwrap_or}
use Rattle.scj_builtins.specs.Framework.{framework_methods}
use Rattle.scj_tree.specs.declared.nodes.Node.{Node}
use Rattle.scj_rules.specs.declared.views.WrittenType.TheVariants.{Void as void_type}
use Rattle.scj_rules.specs.Views.{nowhere, no_modifiers, DeclaredMethod, method_at}
use Rattle.scj_base.specs.Bytes.{is_same}
use Rattle.scj_rules.specs.Classes.{FoundMethod, framework_method, framework_methods_on}
use Rattle.method_rows.specs.declared.refs.MethodRef.{MethodRef}
use Rattle.method_rows.specs.declared.refs.MethodSource.{MethodSource}
use Rattle.method_rows.specs.declared.refs.MethodSource.TheVariants.{Framework as framework_source, Declared as declared_source}

-- a method that stands for none
abbrev pub no_method : DeclaredMethod
no_method =
    record {
      declared = record { node = 0; position = nowhere; name = []; modifiers = no_modifiers; declared_type = void_type };
      parameters = [];
      body = None;
      builtin = None;
      callable = false;
      overridable = false;
    }

-- the framework's method of a number
unfoldable pub framework_numbered : ℕ → Option DeclaredMethod
framework_numbered number = option_map framework_method (slice_get framework_methods number)

unfoldable pub method_from : List Node → MethodSource → DeclaredMethod
method_from nodes (framework_source number) = unwrap_or (framework_numbered number) no_method
method_from nodes (declared_source node) = unwrap_or (method_at nodes node) no_method

-- the method that a row stands for, with the class that declares it
unfoldable pub found_method : List Node → MethodRef → FoundMethod
found_method nodes m = record { on = m.on; method = method_from nodes m.source }

-- the method of a name that a framework class declares itself
unfoldable pub framework_method_on : ℕ → List ℕ → Option DeclaredMethod
framework_method_on class name =
    find (λ (m : DeclaredMethod). is_same name m.declared.name) (framework_methods_on class)
