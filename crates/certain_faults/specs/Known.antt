-- What is known before a run of the values that the operations of a node leave: the value of a constant, and of `this`
-- and of a new object that it isn't null. A constant is a literal, or operators and parentheses on constants, by the
-- arithmetic of runs. Of what a method gives it is known that it is one operand, and nothing more.
use Rattle.std.specs.Prelude.{ℕ, ◌==◌, ◌&&◌, Bool, true, false, List, [], ◌∷◌, slice_get, Option, Some, None, if◌then◌else◌}
use Rattle.std.specs.List.{list_all}
use Rattle.scj_base.specs.Vocabulary.{sign_and_and, sign_or_or}
use Rattle.scj_base.specs.declared.values.Value.{Value}
use Rattle.scj_builtins.specs.Framework.{managed_memory_alloc_in_same, device_read}
use Rattle.scj_tree.specs.declared.nodes.Node.{Node}
use Rattle.scj_tree.specs.declared.nodes.Node.TheVariants.{Binary, Unary, Cast, Parenthesized, SimpleName, FieldAccess, Call, Element, New, NewArray, Number, True, False, Null, This}
use Rattle.scj_tree.specs.Recursion.{by_smaller}
use Rattle.scj_rules.specs.declared.typing.Binding.{Binding}
use Rattle.scj_rules.specs.declared.typing.Binding.TheVariants.{Local, Field, Static, Length, Class as ClassNamed, Method, StaticMethod, Builtin}
use Rattle.scj_rules.specs.Words.{is_among}
use Rattle.scj_model.specs.Code.{Code, binding, part}
use Rattle.scj_model.specs.Arithmetic.{binary_value, divides_by_zero, unary_value}
use Rattle.scj_model.specs.Memory.{literal_value}
use Rattle.certain_faults.specs.declared.known.Known.{Known}
use Rattle.certain_faults.specs.declared.known.Known.TheVariants.{Unknown, Exactly, Object}
use Rattle.certain_faults.specs.declared.known.Left.{Left}
use Rattle.certain_faults.specs.declared.known.Left.TheVariants.{Forgets, Zero, One, Two, Four}

-- ---- values

-- the value, where there is one
unfoldable pub known : Option Value → Known
known None = Unknown
known (Some value) = Exactly value

-- what an operator gives of constants (JLS 15.28). A division by zero gives nothing
unfoldable pub unary_known : ℕ → Known → Known
unary_known operator (Exactly value) = known (unary_value operator value)
unary_known operator _ = Unknown

unfoldable pub binary_known : ℕ → Known → Known → Known
binary_known operator (Exactly left) (Exactly right) =
    if divides_by_zero operator right then Unknown else known (binary_value operator left right)
binary_known operator _ _ = Unknown

-- `&&` and `||` may leave out their right operand. What they give is a truth value, on which no fault depends
abbrev pub is_conditional : ℕ → Bool
is_conditional operator = is_among operator (sign_and_and ∷ sign_or_or ∷ [])

unfoldable pub operator_known : ℕ → Known → Known → Known
operator_known operator left right =
    if is_conditional operator then Unknown else binary_known operator left right

-- ---- what nodes leave, by what their parts leave

-- one operand in the place of one, and of two
unfoldable pub in_place_of : Left → (Known → Known) → Left
in_place_of (One a) value = One (value a)
in_place_of _ value = Forgets

unfoldable pub in_place_of_two : Left → Left → (Known → Known → Known) → Left
in_place_of_two (One a) (One b) value = One (value a b)
in_place_of_two _ _ value = Forgets

unfoldable pub left_by_literal : Option Value → Left
left_by_literal None = Forgets
left_by_literal (Some value) = One (Exactly value)

-- a name, and an access, leave nothing that is known; the name of a class leaves no operand
unfoldable pub left_by_name : Binding → Left
left_by_name (Local k) = One Unknown
left_by_name (Field k) = One Unknown
left_by_name (Static k) = One Unknown
left_by_name _ = Forgets

unfoldable pub left_by_access : Binding → Left → Left
left_by_access (Field k) object = in_place_of object (λ a. Unknown)
left_by_access Length object = in_place_of object (λ a. Unknown)
left_by_access (Static k) object = One Unknown
left_by_access _ object = Forgets

-- each of the nodes leaves one operand
unfoldable pub leaves_one : Left → Bool
leaves_one (One a) = true
leaves_one _ = false

abbrev pub all_leave_one : (ℕ → Left) → List ℕ → Bool
all_leave_one left xs = list_all (λ x. leaves_one (left x)) xs

-- a part of a form leaves the numbers of its arguments: none, one or two, or the two of each of two times
unfoldable pub end_to_end : Left → Left → Left
end_to_end (One a) (One b) = Two a b
end_to_end (Two a b) (Two c d) = Four a b c d
end_to_end _ _ = Forgets

unfoldable pub left_by_part : (ℕ → Left) → List ℕ → Left
left_by_part left [] = Zero
left_by_part left (x ∷ []) = left x
left_by_part left (x ∷ y ∷ []) = end_to_end (left x) (left y)
left_by_part left _ = Forgets

unfoldable pub left_by_new : (ℕ → Left) → List ℕ → Binding → Left
left_by_new left arguments (ClassNamed class) = if all_leave_one left arguments then One Object else Forgets
left_by_new left arguments _ = left_by_part left arguments

-- a call of a method leaves its result, where there is one, in the place of the object and the arguments
unfoldable pub leaves_receiver : (ℕ → Left) → Option ℕ → Bool
leaves_receiver left None = true
leaves_receiver left (Some object) = leaves_one (left object)

unfoldable pub left_by_method : (ℕ → Left) → List ℕ → Bool → Left
left_by_method left arguments gives = if gives && all_leave_one left arguments then One Unknown else Forgets

-- of the calls of the framework those of `Device.read` and of `allocInSame` alone leave an operand
unfoldable pub left_by_read : (ℕ → Left) → List ℕ → Left
left_by_read left (x ∷ []) = in_place_of (left x) (λ a. Unknown)
left_by_read left _ = Forgets

unfoldable pub left_by_same : (ℕ → Left) → List ℕ → Left
left_by_same left (x ∷ y ∷ []) = in_place_of_two (left x) (left y) (λ a b. Unknown)
left_by_same left _ = Forgets

unfoldable pub left_by_builtin : (ℕ → Left) → List ℕ → ℕ → Left
left_by_builtin left arguments method =
    if method == device_read then left_by_read left arguments
    else (if method == managed_memory_alloc_in_same then left_by_same left arguments else Forgets)

unfoldable pub left_by_call : (ℕ → Left) → Option ℕ → List ℕ → Binding → Left
left_by_call left object arguments (Method t) =
    left_by_method left arguments (t.gives && leaves_receiver left object)
left_by_call left object arguments (StaticMethod t) = left_by_method left arguments t.gives
left_by_call left object arguments (Builtin t) = left_by_builtin left arguments t.id
left_by_call left object arguments _ = Forgets

-- ---- all nodes

unfoldable pub left_by_node : Code → (ℕ → Left) → ℕ → Node → Left
left_by_node code left id (Number position value is_negative) = left_by_literal (part code literal_value id)
left_by_node code left id (True position) = left_by_literal (part code literal_value id)
left_by_node code left id (False position) = left_by_literal (part code literal_value id)
left_by_node code left id (Null position) = left_by_literal (part code literal_value id)
left_by_node code left id (This position) = One Object
left_by_node code left id (SimpleName position name) = left_by_name (binding code id)
left_by_node code left id (FieldAccess position name object) = left_by_access (binding code id) (left object)
left_by_node code left id (Element position array index) =
    in_place_of_two (left array) (left index) (λ a b. Unknown)
left_by_node code left id (Parenthesized position inner) = left inner
left_by_node code left id (Unary position operator operand) = in_place_of (left operand) (unary_known operator)
left_by_node code left id (Binary position operator l r) = in_place_of_two (left l) (left r) (operator_known operator)
left_by_node code left id (New position name_position name arguments) = left_by_new left arguments (binding code id)
left_by_node code left id (NewArray position element length) = in_place_of (left length) (λ a. Object)
left_by_node code left id (Cast position name_position name operand) = in_place_of (left operand) (λ a. Unknown)
left_by_node code left id (Call position name object arguments) =
    left_by_call left object arguments (binding code id)
left_by_node code left id _ = Forgets

unfoldable pub next_left : Code → ℕ → (ℕ → Left) → Left
next_left code id left =
    elim (slice_get code.program.nodes id) [ None ↦ Forgets | Some node ↦ left_by_node code left id node ]

-- what the operations of a node leave
unfoldable pub left_by : Code → ℕ → Left
left_by code id = by_smaller Forgets (next_left code) id
