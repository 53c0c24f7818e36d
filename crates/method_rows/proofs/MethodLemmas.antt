-- What is declared of a method that a row names.
use Rattle.std.proofs.Common.{◌≡◌, ℕ, Bool, true, false, ◌&&◌, ◌==◌, List, [], ◌∷◌, map, filter, find, Option, Some, None, if◌then◌else◌, refl, sym, ap, ◌∙◌, is_some, unwrap_or, option_map, option_and_then, slice_get}
use Rattle.std.proofs.lemmas.Option.{slice_get-map}
use Rattle.scj_base.specs.Bytes.{is_same}
use Rattle.scj_tree.specs.declared.nodes.Node.{Node}
use Rattle.scj_tree.specs.declared.nodes.Node.TheVariants.{Method}
use Rattle.scj_rules.specs.declared.views.Declared.{Declared}
use Rattle.scj_rules.specs.declared.views.WrittenType.TheVariants.{Void as void_type}
use Rattle.scj_rules.specs.Words.{holds}
use Rattle.scj_rules.specs.Views.{DeclaredMethod, method_at, method_of}
use Rattle.scj_rules.specs.Classes.{framework_method, framework_methods_on, of_framework, parameter_written}
use Rattle.scj_builtins.specs.declared.methods.FrameworkMethod.{FrameworkMethod}
use Rattle.scj_builtins.specs.declared.kinds.ParameterKind.{ParameterKind}
use Rattle.scj_builtins.specs.Framework.{framework_methods, parameter_list, method_named, number_named}
use Rattle.scj_builtins.proofs.Places.{named_there}
use Rattle.method_rows.specs.Methods.{no_method, framework_numbered, framework_method_on}

pub part_of_some : (o : Option DeclaredMethod) (d : Declared) →
    option_map (λ (m : DeclaredMethod). m.declared) o ≡ Some d → (unwrap_or o no_method).declared ≡ d
part_of_some None d h = cc
part_of_some (Some m) d h = cc

pub none_of_none : (o : Option DeclaredMethod) → option_map (λ (m : DeclaredMethod). m.declared) o ≡ None →
    unwrap_or o no_method ≡ no_method
none_of_none None h = refl
none_of_none (Some m) h = cc

pub name_of : (o : Option DeclaredMethod) →
    unwrap_or (option_map (λ (m : DeclaredMethod). m.declared.name) o) [] ≡ (unwrap_or o no_method).declared.name
name_of None = refl
name_of (Some m) = refl

pub type_of : (o : Option DeclaredMethod) →
    unwrap_or (option_map (λ (m : DeclaredMethod). m.declared.declared_type) o) void_type
    ≡ (unwrap_or o no_method).declared.declared_type
type_of None = refl
type_of (Some m) = refl

pub is_static_where_declared : (o : Option DeclaredMethod) →
    (unwrap_or o no_method).declared.modifiers.is_static ≡ holds o
    (λ (m : DeclaredMethod). m.declared.modifiers.is_static)
is_static_where_declared None = refl
is_static_where_declared (Some m) = refl

pub body_of_source : (o : Option DeclaredMethod) →
    (unwrap_or o no_method).body ≡ option_and_then (λ (m : DeclaredMethod). m.body) o
body_of_source None = refl
body_of_source (Some m) = refl

pub parameters_of_source : (o : Option DeclaredMethod) →
    (unwrap_or o no_method).parameters ≡ unwrap_or (option_map (λ (m : DeclaredMethod). m.parameters) o) []
parameters_of_source None = refl
parameters_of_source (Some m) = refl

no_number_of : (nodes : List Node) (id : ℕ) (node : Option Node) →
    (unwrap_or (option_and_then (method_of nodes id) node) no_method).builtin ≡ None
unfolding method_of
no_number_of nodes id None = refl
no_number_of nodes id (Some (Method position name flags result_type parameters body)) = refl
no_number_of nodes id (Some _) = refl

pub no_number : (nodes : List Node) (id : ℕ) → (unwrap_or (method_at nodes id) no_method).builtin ≡ None
no_number nodes id = no_number_of nodes id (slice_get nodes id)

callable_of : (nodes : List Node) (id : ℕ) (node : Option Node) →
    (unwrap_or (option_and_then (method_of nodes id) node) no_method).callable ≡ is_some
    (option_and_then (method_of nodes id) node)
unfolding method_of
callable_of nodes id None = refl
callable_of nodes id (Some (Method position name flags result_type parameters body)) = refl
callable_of nodes id (Some _) = refl

pub is_callable_where_declared : (nodes : List Node) (id : ℕ) →
    (unwrap_or (method_at nodes id) no_method).callable ≡ is_some (method_at nodes id)
is_callable_where_declared nodes id = callable_of nodes id (slice_get nodes id)

open_of : (nodes : List Node) (id : ℕ) (node : Option Node) →
    (unwrap_or (option_and_then (method_of nodes id) node) no_method).overridable ≡ is_some
    (option_and_then (method_of nodes id) node)
unfolding method_of
open_of nodes id None = refl
open_of nodes id (Some (Method position name flags result_type parameters body)) = refl
open_of nodes id (Some _) = refl

pub is_open_where_declared : (nodes : List Node) (id : ℕ) →
    (unwrap_or (method_at nodes id) no_method).overridable ≡ is_some (method_at nodes id)
is_open_where_declared nodes id = open_of nodes id (slice_get nodes id)

node_of : (nodes : List Node) (id : ℕ) (node : Option Node) →
    (unwrap_or (option_and_then (method_of nodes id) node) no_method).declared.node
    ≡ (if is_some (option_and_then (method_of nodes id) node) then id else 0)
unfolding method_of
node_of nodes id None = refl
node_of nodes id (Some (Method position name flags result_type parameters body)) = refl
node_of nodes id (Some _) = refl

pub node_where_declared : (nodes : List Node) (id : ℕ) →
    (unwrap_or (method_at nodes id) no_method).declared.node ≡ (if is_some (method_at nodes id) then id else 0)
node_where_declared nodes id = node_of nodes id (slice_get nodes id)

no_node_of : (o : Option FrameworkMethod) → (unwrap_or (option_map framework_method o) no_method).declared.node ≡ 0
unfolding framework_method
no_node_of None = refl
no_node_of (Some m) = refl

pub no_node : (number : ℕ) → (unwrap_or (framework_numbered number) no_method).declared.node ≡ 0
unfolding framework_numbered
no_node number = no_node_of (slice_get framework_methods number)

no_body_of : (o : Option FrameworkMethod) → (unwrap_or (option_map framework_method o) no_method).body ≡ None
unfolding framework_method
no_body_of None = refl
no_body_of (Some m) = refl

pub no_body : (number : ℕ) → (unwrap_or (framework_numbered number) no_method).body ≡ None
unfolding framework_numbered
no_body number = no_body_of (slice_get framework_methods number)

-- the parameters of a framework's method
abbrev as_declared : ParameterKind → Declared
as_declared kind = of_framework [] false false (parameter_written kind)

row_numbered : (number : ℕ) (o : Option FrameworkMethod) → slice_get framework_methods number ≡ o
    → (unwrap_or (framework_numbered number) no_method).parameters ≡ elim o
    [ None ↦ [] | Some m ↦ map as_declared (parameter_list m.parameters) ]
unfolding framework_numbered framework_method
row_numbered number o h = rw h (go o)
  where
    go : (o : Option FrameworkMethod) → (unwrap_or (option_map framework_method o) no_method).parameters ≡ elim o
        [ None ↦ [] | Some m ↦ map as_declared (parameter_list m.parameters) ]
    go None = refl
    go (Some m) = refl

pub parameter_of_row : (number i : ℕ) (m : FrameworkMethod) → slice_get framework_methods number ≡ Some m
    → slice_get (unwrap_or (framework_numbered number) no_method).parameters i ≡ option_map as_declared
    (slice_get (parameter_list m.parameters) i)
parameter_of_row number i m h = ap (λ (ds : List Declared). slice_get ds i) (row_numbered number (Some m) h)
    ∙ slice_get-map as_declared (parameter_list m.parameters) i

pub parameter_of_none : (number i : ℕ) → slice_get framework_methods number ≡ None →
    slice_get (unwrap_or (framework_numbered number) no_method).parameters i ≡ None
parameter_of_none number i h = ap (λ (ds : List Declared). slice_get ds i) (row_numbered number None h)

-- the method that is found by its class and its name
abbrev is_named : List ℕ → DeclaredMethod → Bool
is_named name m = is_same name m.declared.name

either : (name : List ℕ) (class : ℕ) (m : FrameworkMethod) (rest : List FrameworkMethod) (on named : Bool) →
    (m.on == class) ≡ on → is_same name m.name ≡ named →
    find (is_named name) (map framework_method (filter (λ (r : FrameworkMethod). r.on == class) rest))
    ≡ option_map framework_method (find (λ (r : FrameworkMethod). (r.on == class) && is_same name r.name) rest) →
    find (is_named name) (map framework_method (filter (λ (r : FrameworkMethod). r.on == class) (m ∷ rest)))
    ≡ option_map framework_method (find (λ (r : FrameworkMethod). (r.on == class) && is_same name r.name) (m ∷ rest))
unfolding framework_method
either name class m rest true true e f h = rw (e, f) refl
either name class m rest true false e f h = rw (e, f) h
either name class m rest false named e f h = rw e h

found_among : (name : List ℕ) (class : ℕ) (rows : List FrameworkMethod)
    → find (is_named name) (map framework_method (filter (λ (m : FrameworkMethod). m.on == class) rows))
    ≡ option_map framework_method (find (λ (m : FrameworkMethod). (m.on == class) && is_same name m.name) rows)
found_among name class [] = refl
found_among name class (m ∷ rows) = either name class m rows (m.on == class) (is_same name m.name) refl refl
    (found_among name class rows)

at_number : (class : ℕ) (name : List ℕ) (o : Option FrameworkMethod) → method_named class name ≡ o
    → option_map (λ number. unwrap_or (framework_numbered number) no_method)
    (option_map (λ (m : FrameworkMethod). m.number) o) ≡ option_map framework_method o
unfolding framework_numbered
at_number class name None h = refl
at_number class name (Some m) h = rw (named_there class name m h) refl

pub named_row : (class : ℕ) (name : List ℕ) → option_map (λ number. unwrap_or (framework_numbered number) no_method)
    (number_named class name) ≡ framework_method_on class name
unfolding number_named method_named framework_method_on framework_methods_on
named_row class name = at_number class name (method_named class name) refl
    ∙ sym (found_among name class framework_methods)
