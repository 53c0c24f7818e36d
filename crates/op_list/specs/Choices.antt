-- Between what an operation chooses, by the node whose operation it is; and what is laid out below a bound.
use Rattle.std.specs.Prelude.{◌≡◌, ℕ, ◌<◌, List, [], ◌∷◌, slice_get, Option, Some, None}
use Rattle.scj_tree.specs.declared.nodes.Node.{Node}
use Rattle.scj_tree.specs.declared.nodes.Node.TheVariants.{If, While, For, Binary}
use Rattle.scj_model.specs.declared.operations.Op.{Op}
use Rattle.scj_model.specs.declared.operations.Op.TheVariants.{And as AND, Or as OR, If as IF, Loop as LOOP}
use Rattle.op_list.specs.declared.parts.Part.{Part}
use Rattle.op_list.specs.declared.parts.Part.TheVariants.{Visit, Emit, Items, Literals}
use Rattle.op_list.specs.Parts.{items_at}
use Rattle.op_list.specs.declared.choices.Choice.{Choice}
use Rattle.op_list.specs.declared.choices.Choice.TheVariants.{Plain, Either, Turn}

unfoldable pub and_choice : Node → Choice
and_choice (Binary position operator left right) = Either (record { on_true = Some right; on_false = None })
and_choice _ = Plain

unfoldable pub or_choice : Node → Choice
or_choice (Binary position operator left right) = Either (record { on_true = None; on_false = Some right })
or_choice _ = Plain

unfoldable pub if_choice : Node → Choice
if_choice (If position condition then_part else_part) =
    Either (record { on_true = Some then_part; on_false = else_part })
if_choice _ = Plain

unfoldable pub loop_choice : Node → Choice
loop_choice (While position condition body) = Turn (record { body = body; step = None; test = condition })
loop_choice (For position first condition step body) = Turn (record { body = body; step = Some step; test = condition })
loop_choice _ = Plain

unfoldable pub choice_at : List Node → (Node → Choice) → ℕ → Choice
choice_at nodes by id = elim (slice_get nodes id) [ None ↦ Plain | Some node ↦ by node ]

unfoldable pub choice_of : List Node → Op → Choice
choice_of nodes (AND id) = choice_at nodes and_choice id
choice_of nodes (OR id) = choice_at nodes or_choice id
choice_of nodes (IF id) = choice_at nodes if_choice id
choice_of nodes (LOOP id) = choice_at nodes loop_choice id
choice_of nodes _ = Plain

-- ---- what is laid out below a bound

unfoldable pub IsBelowIfAny : ℕ → Option ℕ → Type 0
IsBelowIfAny bound None = Unit {0}
IsBelowIfAny bound (Some id) = id < bound

-- the parts of a choice are below a bound
unfoldable pub IsChoiceBelow : ℕ → Choice → Type 0
IsChoiceBelow bound Plain = Unit {0}
IsChoiceBelow bound (Either parts) = IsBelowIfAny bound parts.on_true × IsBelowIfAny bound parts.on_false
IsChoiceBelow bound (Turn parts) =
    (parts.body < bound) × IsBelowIfAny bound parts.step × (parts.test < bound)

unfoldable pub IsPartBelow : List Node → ℕ → Part → Type 0
IsPartBelow nodes bound (Visit id) = id < bound
IsPartBelow nodes bound (Emit op) = IsChoiceBelow bound (choice_of nodes op)
IsPartBelow nodes bound (Items index list) =
    (k item : ℕ) → slice_get (items_at nodes list) k ≡ Some item → item < bound
IsPartBelow nodes bound (Literals index class) = Unit {0}

-- each of these parts is
unfoldable pub AreBelow : List Node → ℕ → List Part → Type 0
AreBelow nodes bound [] = Unit {0}
AreBelow nodes bound (part ∷ parts) = IsPartBelow nodes bound part × AreBelow nodes bound parts
