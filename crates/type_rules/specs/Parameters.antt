-- The parameters that arguments are compared with, and what is broken at a call.
use Rattle.std.specs.Prelude.{ℕ, suc, nat_lt, Bool, not, ◌&&◌, List, [], ◌∷◌, ◌++◌, length, slice_get, Option, None, Some, is_some, option_map}
use Rattle.scj_base.specs.declared.findings.Found.{Found}
use Rattle.scj_base.specs.declared.findings.Rule.TheVariants.{T3, T5, T6, T13}
use Rattle.scj_base.specs.declared.positions.Position.{Position}
use Rattle.scj_tree.specs.declared.nodes.Node.{Node}
use Rattle.scj_rules.specs.declared.views.Declared.{Declared}
use Rattle.scj_rules.specs.declared.views.WrittenType.{WrittenType}
use Rattle.scj_rules.specs.declared.typing.Receiver.{Receiver}
use Rattle.scj_rules.specs.declared.typing.Ty.{Ty}
use Rattle.scj_rules.specs.Words.{broken, holds}
use Rattle.scj_rules.specs.Views.{parameters_at}
use Rattle.scj_rules.specs.Classes.{FoundMethod}
use Rattle.scj_rules.specs.Contexts.{Declarations}
use Rattle.scj_rules.specs.Types.{type_written, assigns, all_types, is_no_reference}
use Rattle.scj_rules.specs.TypeRules.{Types, cannot_be_called, misfit, lacks_object}
use Rattle.method_rows.specs.Methods.{found_method}
use Rattle.type_rules.specs.declared.arguments.Takes.{Takes}
use Rattle.type_rules.specs.declared.arguments.Takes.TheVariants.{Method, Listed}

-- the parameters of a method, or those of a list
unfoldable pub taken : List Node → Takes → List Declared
taken nodes (Method m) = (found_method nodes m).method.parameters
taken nodes (Listed parameters) = parameters_at nodes parameters

-- a value of the type fits what is written
abbrev pub takes_value : Declarations → Ty → WrittenType → Bool
takes_value p t written = holds (type_written p.names written) (assigns p.classes t)

-- the argument has a type that fits the parameter of the number, if there is one
abbrev pub parameter_type : List Declared → ℕ → Option WrittenType
parameter_type ds i = option_map (λ (d : Declared). d.declared_type) (slice_get ds i)

abbrev pub fits : Declarations → Types → List Declared → ℕ → ℕ → Bool
fits p types ds i id = holds (types id) (λ t. holds (parameter_type ds i) (takes_value p t))

-- each argument fits the parameter of its number, from this one on, and there are as many
unfoldable pub all_fit : Declarations → Types → List Declared → ℕ → List ℕ → Bool
all_fit p types ds i [] = not (nat_lt i (length ds))
all_fit p types ds i (id ∷ ids) = fits p types ds i id && all_fit p types ds (suc i) ids

-- what is broken at a call on a receiver, by the method that is found for it
unfoldable pub breaks_on : Declarations → Types → ℕ → Position → Receiver → Option FoundMethod → List ℕ → List Found
breaks_on p types id position r None arguments =
    let typed = is_some (all_types types arguments) in
    broken (is_no_reference r && typed) T3 position ++ (broken (not (is_no_reference r) && typed) T5 position ++ [])
breaks_on p types id position r (Some f) arguments =
    let typed = is_some (all_types types arguments) in
    let lacks = not (is_no_reference r) && cannot_be_called p r f in
    broken (is_no_reference r && typed) T3 position ++ (broken (lacks && typed) T5 position
    ++ (broken (not lacks && misfit p types f.method.parameters arguments) T6 position
    ++ (broken ((lacks_object p id r && (not lacks && not f.method.declared.modifiers.is_static)) && typed) T13 position
    ++ [])))
