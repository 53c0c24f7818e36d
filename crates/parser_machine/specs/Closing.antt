-- What follows an expression, by what it is a part of.
use Rattle.std.specs.Prelude.{Bool, List, None, Option, Some, [], false, if◌then◌else◌, length, nat_lt, ℕ, ◌++◌, ◌==◌, ◌∷◌}
use Rattle.parser_machine.specs.States.{State, at, level_of}
use Rattle.parser_machine.specs.declared.entries.Entry.{Entry}
use Rattle.parser_machine.specs.declared.entries.Entry.TheVariants.{ArgumentsOpen, AssignValue, BinaryLeft, CallOpen, CastOpen, CompoundValue, ConstructorBody, ForBody, ForHead, ForStep, ForTest, GroupOpen, IfTest, IfThen, IndexOpen, LengthOpen, LocalValue, NewOpen, ReturnValue, Simple, SuperCallOpen, Target, UnaryOpen, WhileBody, WhileTest}
use Rattle.parser_machine.specs.declared.modes.Mode.TheVariants.{ArgumentNext, ForStepStart, Operand, PostDone, StatementEnd, StatementStart, SuperEnd}
use Rattle.scj_base.specs.Vocabulary.{sign_assign, sign_comma, sign_right_bracket, sign_right_parenthesis, sign_semicolon}
use Rattle.scj_base.specs.declared.positions.Position.{Position}
use Rattle.scj_tree.specs.Nodes.{put}
use Rattle.scj_tree.specs.Lexemes.{Lexeme, a_sign}
use Rattle.scj_tree.specs.Statements.{operated}
use Rattle.scj_tree.specs.Terminals.{level}
use Rattle.scj_tree.specs.declared.nodes.Node.{Node}
use Rattle.scj_tree.specs.declared.nodes.Node.TheVariants.{Assign, Binary, Call, Cast, Element, ExpressionStatement, LocalWithValue, New, NewArray, Parenthesized, Return, SuperCall, Unary}
use Rattle.scj_tree.specs.declared.parsed_parts.PostKind.{PostKind}
use Rattle.scj_tree.specs.declared.parsed_parts.PostKind.TheVariants.{Variable, Invocation, NewArray as NewArrayKind, Value}

-- ---- where an assignment, the arguments of a call or a target end

-- behind an assignment or a local with a value
unfoldable pub assigned : ℕ → List Node → List Entry → Lexeme → Option State
assigned id N (Simple ∷ s) (a_sign n p) = if n == sign_semicolon then Some (at (StatementEnd id) s N) else None
assigned id N (ForHead q ∷ s) (a_sign n p) =
    if n == sign_semicolon then Some (at Operand (ForTest q id ∷ s) N) else None
assigned id N (ForStep q first condition ∷ s) (a_sign n p) =
    if n == sign_right_parenthesis then Some (at StatementStart (ForBody q first condition id ∷ s) N) else None
assigned id N _ _ = None

-- behind the closing parenthesis of arguments
unfoldable pub arguments_ended : List ℕ → List Node → List Entry → Option State
arguments_ended ids N (CallOpen p w object ∷ s) =
    Some (at (PostDone Invocation p (length N)) s (put N (Call p w object ids)))
arguments_ended ids N (NewOpen p q w ∷ s) = Some (at (PostDone Invocation p (length N)) s (put N (New p q w ids)))
arguments_ended ids N (SuperCallOpen b p ∷ ConstructorBody flags q w parameters super_call ∷ s) =
    Some (at (SuperEnd b) (ConstructorBody flags q w parameters (Some (length N)) ∷ s) (put N (SuperCall p ids)))
arguments_ended ids N _ = None

-- behind an argument
unfoldable pub argument_ended : ℕ → List ℕ → List Node → List Entry → Lexeme → Option State
argument_ended id ids N s (a_sign n p) =
    if n == sign_comma then Some (at ArgumentNext (ArgumentsOpen (ids ++ id ∷ []) ∷ s) N) else
    if n == sign_right_parenthesis then arguments_ended (ids ++ id ∷ []) N s else
    None
argument_ended id ids N s _ = None

-- behind a target: `=`, or `;` where it is a statement by itself
unfoldable pub target_assigned : PostKind → ℕ → Position → List Node → List Entry → Option State
target_assigned Variable id q N s = Some (at Operand (AssignValue q id ∷ s) N)
target_assigned _ id q N s = None

unfoldable pub target_alone : PostKind → Position → ℕ → List Node → List Entry → Option State
target_alone Invocation p id N (Simple ∷ s) = Some (at (StatementEnd (length N)) s (put N (ExpressionStatement p id)))
target_alone _ p id N _ = None

unfoldable pub target_ended : PostKind → Position → ℕ → List Node → List Entry → Lexeme → Option State
target_ended kind p id N s (a_sign n q) =
    if n == sign_assign then target_assigned kind id q N s else
    if n == sign_semicolon then target_alone kind p id N s else
    None
target_ended kind p id N s _ = None

-- ---- where an expression ends

-- the nodes from an operand in parentheses to the assignment
abbrev pub compounded : List Node → Position → ℕ → ℕ → ℕ → ℕ → List Node
compounded N p op target left e = operated (put N (Parenthesized p e)) p op target left (length N)

abbrev pub compounded_number : List Node → Position → ℕ → ℕ → ℕ → ℕ
compounded_number N p op left e = length (put (put N (Parenthesized p e)) (Binary p op left (length N)))

-- behind an expression that is a part of no other expression's operators
unfoldable pub ended : Entry → ℕ → List Node → List Entry → Lexeme → Option State
ended (GroupOpen p) id N s (a_sign n q) =
    if n == sign_right_parenthesis then Some (at (PostDone Value p (length N)) s (put N (Parenthesized p id))) else None
ended (IndexOpen p array) id N s (a_sign n q) =
    if n == sign_right_bracket then Some (at (PostDone Variable p (length N)) s (put N (Element p array id))) else None
ended (LengthOpen p element) id N s (a_sign n q) =
    if n == sign_right_bracket then Some (at (PostDone NewArrayKind p (length N)) s (put N (NewArray p element id)))
    else None
ended (ArgumentsOpen ids) id N s t = argument_ended id ids N s t
ended (AssignValue p target) id N s t = assigned (length N) (put N (Assign p target id)) s t
ended (CompoundValue p op target left) id N s t =
    assigned (compounded_number N p op left id) (compounded N p op target left id) s t
ended (LocalValue p q w flags declared) id N s t =
    assigned (length N) (put N (LocalWithValue p q w flags declared id)) s t
ended (ForTest p first) id N s (a_sign n q) =
    if n == sign_semicolon then Some (at ForStepStart (ForStep p first id ∷ s) N) else None
ended (IfTest p) id N s (a_sign n q) =
    if n == sign_right_parenthesis then Some (at StatementStart (IfThen p id ∷ s) N) else None
ended (WhileTest p) id N s (a_sign n q) =
    if n == sign_right_parenthesis then Some (at StatementStart (WhileBody p id ∷ s) N) else None
ended (ReturnValue p) id N s (a_sign n q) =
    if n == sign_semicolon then Some (at (StatementEnd (length N)) s (put N (Return p (Some id)))) else None
ended _ id N s t = None

-- an operator that binds so tightly takes the operand behind the entry for its own: no such operator has level 0
unfoldable pub admits : Entry → ℕ → Bool
admits (BinaryLeft p op left) n = nat_lt (level op) n
admits (UnaryOpen p op) n = false
admits (CastOpen p q w) n = false
admits Target n = false
admits _ n = nat_lt 0 n

-- the operation of an operator on its last operand
unfoldable pub operation : Entry → ℕ → Option Node
operation (BinaryLeft p op left) id = Some (Binary p op left id)
operation (UnaryOpen p op) id = Some (Unary p op id)
operation (CastOpen p q w) id = Some (Cast p q w id)
operation _ id = None

-- with the operator behind its left operand
unfoldable pub shifted : ℕ → List Node → List Entry → Lexeme → Option State
shifted id N s (a_sign op p) = Some (at Operand (BinaryLeft p op id ∷ s) N)
shifted id N s _ = None

-- behind an operand: the operators before it that bind at least as tightly are done first
unfoldable pub closed : ℕ → List Node → List Entry → Lexeme → Option State
closed id N [] t = None
closed id N (e ∷ s) t =
    if admits e (level_of t) then shifted id N (e ∷ s) t else
    elim (operation e id) [ Some node ↦ closed (length N) (put N node) s t | None ↦ ended e id N s t ]
