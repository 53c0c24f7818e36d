-- Reading imports, annotations and modifiers, types, parameters and the heads of classes keeps what fits.
use Rattle.std.proofs.Common.{ℕ, Bool, true, false, List, Option, Some, None, if◌then◌else◌}
use Rattle.scj_base.specs.declared.positions.Position.{Position}
use Rattle.scj_tree.specs.declared.nodes.Node.{Node}
use Rattle.scj_tree.specs.declared.parsed_parts.FlagSet.{FlagSet}
use Rattle.scj_tree.specs.Lexemes.{Lexeme}
use Rattle.scj_tree.specs.Nodes.{put}
use Rattle.scj_tree.specs.Terminals.{flags_at, flags_node, has_effect, with_flags}
use Rattle.scj_tree.specs.Headers.{Dotted, dotted_name, dotted_longer, Imported, imported_name, imported_all, Imports, no_imports, plain_import, static_import, PlainValue, plain_text, plain_dotted, plain_true, plain_false, PlainPair, value_alone, named_value, PlainPairs, last_pair, more_pairs, PlainArguments, no_parentheses, empty_parentheses, pairs_in_parentheses, ScopeValue, quoted_scope, bare_scope, qualified_scope, FlagRow, no_flag, modifier, effectless, scope_flag, runs_in_flag, define_scope_flag, define_scope_flag_parent_first, TypeRead, int_type, int_array, boolean_type, boolean_array, class_type, class_array, argument_type, argument_array, ResultRead, typed_result, void_result, long_result, ParameterRead, parameter, ParametersBegun, no_parameter_yet, parameter_and_comma, ParametersRead, no_parameters, parameters, SuperRead, super_type, super_type_with_argument, InterfacesBegun, no_interface_yet, interface_and_comma, HeaderRead, no_header, extends_header, implements_header, extends_implements_header}
use Rattle.value_operators.specs.Literals.{HasInt}
use Rattle.value_operators.proofs.Numbers.{Fits, made, behind, behind2, behind3}

-- ---- imports

pub dotted_fits : {N : List Node} {i o : List Lexeme} → Dotted i o → Fits N i → Fits N o
dotted_fits dotted_name h = behind h
dotted_fits (dotted_longer d) h = dotted_fits d (behind2 h)

imported_fits : {N : List Node} {i o : List Lexeme} → Imported i o → Fits N i → Fits N o
imported_fits (imported_name d) h = dotted_fits d h
imported_fits (imported_all d) h = behind2 (dotted_fits d h)

pub imports_fit : {N : List Node} {i o : List Lexeme} → Imports i o → Fits N i → Fits N o
imports_fit no_imports h = h
imports_fit (plain_import d e) h = imports_fit e (behind (imported_fits d (behind h)))
imports_fit (static_import d e) h = imports_fit e (behind (imported_fits d (behind2 h)))

-- ---- annotations and modifiers

plain_value_fits : {N : List Node} {i o : List Lexeme} → PlainValue i o → Fits N i → Fits N o
plain_value_fits plain_text h = behind h
plain_value_fits (plain_dotted d) h = dotted_fits d h
plain_value_fits plain_true h = behind h
plain_value_fits plain_false h = behind h

plain_pair_fits : {N : List Node} {i o : List Lexeme} → PlainPair i o → Fits N i → Fits N o
plain_pair_fits (value_alone d) h = plain_value_fits d h
plain_pair_fits (named_value d) h = plain_value_fits d (behind2 h)

plain_pairs_fit : {N : List Node} {i o : List Lexeme} → PlainPairs i o → Fits N i → Fits N o
plain_pairs_fit (last_pair d) h = behind (plain_pair_fits d h)
plain_pairs_fit (more_pairs d e) h = plain_pairs_fit e (behind (plain_pair_fits d h))

plain_arguments_fit : {N : List Node} {i o : List Lexeme} → PlainArguments i o → Fits N i → Fits N o
plain_arguments_fit no_parentheses h = h
plain_arguments_fit empty_parentheses h = behind2 h
plain_arguments_fit (pairs_in_parentheses d) h = plain_pairs_fit d (behind h)

scope_fits : {N N1 : List Node} {i o : List Lexeme} {id : ℕ} → ScopeValue N i N1 o id → Fits N i → Fits N1 o
unfolding HasInt
scope_fits (quoted_scope e) h = made _ (behind h) tt
scope_fits bare_scope h = made _ (behind h) tt
scope_fits qualified_scope h = made _ (behind3 h) tt

pub row_fits : {is_local : Bool} {N N1 : List Node} {i o : List Lexeme} {flags : FlagSet} →
    FlagRow is_local N i N1 o flags → Fits N i → Fits N1 o
unfolding HasInt
row_fits no_flag h = h
row_fits (modifier d e) h = behind (row_fits d h)
row_fits (effectless d e a) h = plain_arguments_fit a (behind2 (row_fits d h))
row_fits (scope_flag d e v) h = behind (scope_fits v (behind3 (row_fits d h)))
row_fits (runs_in_flag d e v) h = behind (scope_fits v (behind3 (row_fits d h)))
row_fits (define_scope_flag d e v w) h =
    made _ (behind (scope_fits w (behind3 (scope_fits v (behind2 (behind3 (row_fits d h))))))) tt
row_fits (define_scope_flag_parent_first d e v w) h =
    made _ (behind (scope_fits w (behind3 (scope_fits v (behind2 (behind3 (row_fits d h))))))) tt

-- the node of the flags
pub flags_fit : {N : List Node} {i : List Lexeme} (flags : FlagSet) → Fits N i → Fits (with_flags N flags) i
unfolding with_flags flags_node flags_at HasInt
flags_fit {N} {i} flags h = go (has_effect flags) flags.position
  where
    row : Position → Node
    row p = flags_at p flags

    flag_node : Bool → Option Position → Option Node
    flag_node t o = if t then (elim o as (λ _. Option Node) [ None ↦ None | Some p ↦ Some (row p) ]) else None

    go : (t : Bool) (o : Option Position) →
        Fits (elim (flag_node t o) as (λ _. List Node) [ None ↦ N | Some node ↦ put N node ]) i
    go false o = h
    go true None = h
    go true (Some p) = made _ h tt

-- ---- types, results and parameters

pub type_fits : {N N1 : List Node} {i o : List Lexeme} {id : ℕ} → TypeRead N i N1 o id → Fits N i → Fits N1 o
unfolding HasInt
type_fits int_type h = made _ (behind h) tt
type_fits int_array h = made _ (behind3 h) tt
type_fits boolean_type h = made _ (behind h) tt
type_fits boolean_array h = made _ (behind3 h) tt
type_fits class_type h = made _ (behind h) tt
type_fits class_array h = made _ (behind3 h) tt
type_fits (argument_type e) h = made _ (made _ (behind (behind3 h)) tt) tt
type_fits (argument_array e) h = made _ (made _ (behind3 (behind3 h)) tt) tt

pub result_fits : {N N1 : List Node} {i o : List Lexeme} {id : ℕ} → ResultRead N i N1 o id → Fits N i → Fits N1 o
unfolding HasInt
result_fits (typed_result d) h = type_fits d h
result_fits void_result h = made _ (behind h) tt
result_fits long_result h = made _ (behind h) tt

parameter_fits : {N N1 : List Node} {i o : List Lexeme} {id : ℕ} → ParameterRead N i N1 o id → Fits N i → Fits N1 o
unfolding HasInt
parameter_fits (parameter d t) h = made _ (behind (type_fits t (flags_fit _ (row_fits d h)))) tt

parameters_begun_fit : {N N1 : List Node} {i o : List Lexeme} {ids : List ℕ} → ParametersBegun N i N1 o ids →
    Fits N i → Fits N1 o
parameters_begun_fit no_parameter_yet h = h
parameters_begun_fit (parameter_and_comma d e) h = behind (parameter_fits e (parameters_begun_fit d h))

pub parameters_fit : {N N1 : List Node} {i o : List Lexeme} {id : Option ℕ} → ParametersRead N i N1 o id →
    Fits N i → Fits N1 o
unfolding HasInt
parameters_fit no_parameters h = behind2 h
parameters_fit (parameters d e) h = made _ (behind (parameter_fits e (parameters_begun_fit d (behind h)))) tt

-- ---- heads of classes

super_fits : {N N1 : List Node} {i o : List Lexeme} {id : ℕ} → SuperRead N i N1 o id → Fits N i → Fits N1 o
unfolding HasInt
super_fits super_type h = made _ (behind h) tt
super_fits (super_type_with_argument e) h = made _ (made _ (behind (behind3 h)) tt) tt

interfaces_fit : {N N1 : List Node} {i o : List Lexeme} {ids : List ℕ} → InterfacesBegun N i N1 o ids →
    Fits N i → Fits N1 o
interfaces_fit no_interface_yet h = h
interfaces_fit (interface_and_comma d e) h = behind (super_fits e (interfaces_fit d h))

pub header_fits : {N N1 : List Node} {i o : List Lexeme} {id : Option ℕ} → HeaderRead N i N1 o id →
    Fits N i → Fits N1 o
unfolding HasInt
header_fits no_header h = behind h
header_fits (extends_header d) h = made _ (behind (super_fits d (behind h))) tt
header_fits (implements_header d e) h = made _ (behind (super_fits e (interfaces_fit d (behind h)))) tt
header_fits (extends_implements_header s d e) h =
    made _ (behind (super_fits e (interfaces_fit d (behind (super_fits s (behind h)))))) tt
