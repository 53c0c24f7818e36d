-- Operands: what they begin with, and names, calls and brackets behind them.
use Rattle.std.specs.Prelude.{Bool, List, None, Option, Some, [], false, if◌then◌else◌, length, not, true, ℕ, ◌&&◌, ◌==◌, ◌||◌, ◌∷◌}
use Rattle.parser_machine.specs.Closing.{argument_ended, arguments_ended, closed, target_ended}
use Rattle.parser_machine.specs.States.{State, at}
use Rattle.parser_machine.specs.declared.entries.Entry.{Entry}
use Rattle.parser_machine.specs.declared.entries.Entry.TheVariants.{ArgumentsOpen, CallOpen, CastOpen, CompoundValue, GroupOpen, IndexOpen, LengthOpen, NewOpen, Target, UnaryOpen}
use Rattle.parser_machine.specs.declared.modes.Mode.TheVariants.{ArgumentFirst, Assigned, ClosedName, Dot, DotName, Minus, NameRead, NewElement, NewName, NewStart, Opened, OpenedName, Operand, PostDone, TextRead}
use Rattle.scj_base.specs.Vocabulary.{sign_dot, sign_left_bracket, sign_left_parenthesis, sign_minus, sign_not, sign_right_parenthesis, sign_tilde, word_boolean, word_false, word_int, word_new, word_null, word_this, word_true}
use Rattle.scj_base.specs.declared.positions.Position.{Position}
use Rattle.scj_tree.specs.Nodes.{put}
use Rattle.scj_tree.specs.Lexemes.{Lexeme, a_name, a_number, a_sign, a_text, a_word, the_end}
use Rattle.scj_tree.specs.Statements.{name_twice, operated}
use Rattle.scj_tree.specs.Terminals.{compound, indexable, is_minimum, is_unary1_start, stepping}
use Rattle.scj_tree.specs.declared.nodes.Node.{Node}
use Rattle.scj_tree.specs.declared.nodes.Node.TheVariants.{Binary, BooleanType, ClassType, False, FieldAccess, IntType, Null, Number, Parenthesized, SimpleName, Text, This, True}
use Rattle.scj_tree.specs.declared.parsed_parts.PostKind.{PostKind}
use Rattle.scj_tree.specs.declared.parsed_parts.PostKind.TheVariants.{Value, Variable}

-- ---- behind an expression of names, calls and brackets

-- the entry on top is a target's
unfoldable pub awaits_target : List Entry → Bool
awaits_target (Target ∷ s) = true
awaits_target _ = false

unfoldable pub post_ended : PostKind → Position → ℕ → List Node → List Entry → Lexeme → Option State
post_ended kind p id N (Target ∷ s) t = target_ended kind p id N s t
post_ended kind p id N s t = closed id N s t

unfoldable pub post_step : PostKind → Position → ℕ → List Node → List Entry → Lexeme → Option State
post_step kind p id N s (a_sign n q) =
    if n == sign_dot then Some (at (Dot id) s N) else
    if n == sign_left_bracket && indexable kind then Some (at Operand (IndexOpen q id ∷ s) N) else
    post_ended kind p id N s (a_sign n q)
post_step kind p id N s t = post_ended kind p id N s t

unfoldable pub dot_step : ℕ → List Node → List Entry → Lexeme → Option State
dot_step object N s (a_name w p) = Some (at (DotName object p w) s N)
dot_step object N s _ = None

unfoldable pub dot_name_step : ℕ → Position → List ℕ → List Node → List Entry → Lexeme → Option State
dot_name_step object p w N s (a_sign n q) =
    if n == sign_left_parenthesis then Some (at ArgumentFirst (ArgumentsOpen [] ∷ CallOpen p w (Some object) ∷ s) N)
    else
    post_step Variable p (length N) (put N (FieldAccess p w object)) s (a_sign n q)
dot_name_step object p w N s t = post_step Variable p (length N) (put N (FieldAccess p w object)) s t

-- ---- names

-- `x op=` and `x++`, where x is a target
unfoldable pub compound_step : Position → List ℕ → Position → ℕ → List Node → List Entry → Option State
compound_step p w q op N s =
    Some (at Operand (CompoundValue q op (length N) (length (put N (SimpleName p w))) ∷ s) (name_twice N p w))

unfoldable pub stepping_step : Position → List ℕ → Position → ℕ → List Node → List Entry → Option State
stepping_step p w q op N s =
    Some (at
    (Assigned
    (length
    (put (put (name_twice N p w) (Number q 1 false))
    (Binary q op (length (put N (SimpleName p w))) (length (name_twice N p w)))))) s
    (operated (put (name_twice N p w) (Number q 1 false)) q op (length N) (length (put N (SimpleName p w)))
    (length (name_twice N p w))))

-- a name where a target is due, and a sign behind it
unfoldable pub target_name_step : Position → List ℕ → List Node → List Entry → ℕ → Position → Option State
target_name_step p w N s n q =
    elim (compound n) [
      | Some op ↦ compound_step p w q op N s
      | None ↦ elim (stepping n) [
        | Some op ↦ stepping_step p w q op N s
        | None ↦ post_step Variable p (length N) (put N (SimpleName p w)) (Target ∷ s) (a_sign n q)
      ]
    ]

unfoldable pub name_sign_step : Position → List ℕ → List Node → List Entry → ℕ → Position → Option State
name_sign_step p w N (Target ∷ s) n q = target_name_step p w N s n q
name_sign_step p w N s n q = post_step Variable p (length N) (put N (SimpleName p w)) s (a_sign n q)

unfoldable pub name_step : Position → List ℕ → List Node → List Entry → Lexeme → Option State
name_step p w N s (a_sign n q) =
    if n == sign_left_parenthesis then Some (at ArgumentFirst (ArgumentsOpen [] ∷ CallOpen p w None ∷ s) N) else
    name_sign_step p w N s n q
name_step p w N s t = post_step Variable p (length N) (put N (SimpleName p w)) s t

-- ---- where an operand is due

unfoldable pub operand_word : ℕ → Position → List Node → List Entry → Option State
operand_word n p N s =
    if n == word_true then Some (at (PostDone Value p (length N)) s (put N (True p))) else
    if n == word_false then Some (at (PostDone Value p (length N)) s (put N (False p))) else
    if n == word_null then Some (at (PostDone Value p (length N)) s (put N (Null p))) else
    if n == word_this then Some (at (PostDone Value p (length N)) s (put N (This p))) else
    if n == word_new then Some (at (NewStart p) s N) else
    None

unfoldable pub operand_sign : ℕ → Position → List Node → List Entry → Option State
operand_sign n p N s =
    if n == sign_left_parenthesis then Some (at (Opened p) s N) else
    if n == sign_minus then Some (at (Minus p) s N) else
    if n == sign_not || n == sign_tilde then Some (at Operand (UnaryOpen p n ∷ s) N) else
    None

unfoldable pub operand_start : List Node → List Entry → Lexeme → Option State
operand_start N s (a_name w p) = Some (at (NameRead p w) s N)
operand_start N s (a_word n p) = operand_word n p N s
operand_start N s (a_number n p) =
    if is_minimum n then None else Some (at (PostDone Value p (length N)) s (put N (Number p n false)))
operand_start N s (a_text w p) = None
operand_start N s (a_sign n p) = operand_sign n p N s
operand_start N s (the_end p) = None

-- what an expression may begin with
unfoldable pub is_operand_start : Lexeme → Bool
is_operand_start (a_sign n p) = is_unary1_start (a_sign n p) || n == sign_minus
is_operand_start t = is_unary1_start t

unfoldable pub minus_step : Position → List Node → List Entry → Lexeme → Option State
minus_step p N s (a_number n q) =
    if is_minimum n then Some (at (PostDone Value p (length N)) s (put N (Number p n true))) else
    operand_start N (UnaryOpen p sign_minus ∷ s) (a_number n q)
minus_step p N s t = operand_start N (UnaryOpen p sign_minus ∷ s) t

-- behind `(`
unfoldable pub opened_step : Position → List Node → List Entry → Lexeme → Option State
opened_step p N s (a_name w q) = Some (at (OpenedName p q w) s N)
opened_step p N s t = operand_start N (GroupOpen p ∷ s) t

unfoldable pub opened_name_step : Position → Position → List ℕ → List Node → List Entry → Lexeme → Option State
opened_name_step p q w N s (a_sign n r) =
    if n == sign_right_parenthesis then Some (at (ClosedName p q w) s N) else name_step q w N (GroupOpen p ∷ s)
    (a_sign n r)
opened_name_step p q w N s t = name_step q w N (GroupOpen p ∷ s) t

-- behind `( Name )`: a cast where the next lexeme begins its operand; no cast is a target
unfoldable pub closed_name_step : Position → Position → List ℕ → List Node → List Entry → Lexeme → Option State
closed_name_step p q w N s t =
    if is_unary1_start t && not (awaits_target s) then operand_start N (CastOpen p q w ∷ s) t else
    post_step Value p (length (put N (SimpleName q w))) (put (put N (SimpleName q w)) (Parenthesized p (length N))) s t

-- ---- behind `new`

unfoldable pub new_step : Position → List Node → List Entry → Lexeme → Option State
new_step p N s (a_name w q) = Some (at (NewName p q w) s N)
new_step p N s (a_word n q) =
    if n == word_int then Some (at (NewElement p (length N)) s (put N (IntType q false))) else
    if n == word_boolean then Some (at (NewElement p (length N)) s (put N (BooleanType q false))) else
    None
new_step p N s _ = None

unfoldable pub new_name_step : Position → Position → List ℕ → List Node → List Entry → Lexeme → Option State
new_name_step p q w N s (a_sign n r) =
    if n == sign_left_parenthesis then Some (at ArgumentFirst (ArgumentsOpen [] ∷ NewOpen p q w ∷ s) N) else
    if n == sign_left_bracket then Some (at Operand (LengthOpen p (length N) ∷ s) (put N (ClassType q w None false)))
    else
    None
new_name_step p q w N s _ = None

unfoldable pub new_element_step : Position → ℕ → List Node → List Entry → Lexeme → Option State
new_element_step p element N s (a_sign n r) =
    if n == sign_left_bracket then Some (at Operand (LengthOpen p element ∷ s) N) else None
new_element_step p element N s _ = None

-- ---- arguments

unfoldable pub argument_start : List Node → List Entry → Lexeme → Option State
argument_start N s (a_text w p) = Some (at (TextRead (length N)) s (put N (Text p w)))
argument_start N s t = operand_start N s t

unfoldable pub no_arguments_step : List Node → List Entry → Option State
no_arguments_step N (ArgumentsOpen ids ∷ s) = arguments_ended [] N s
no_arguments_step N _ = None

unfoldable pub argument_first_step : List Node → List Entry → Lexeme → Option State
argument_first_step N s (a_sign n p) = if n == sign_right_parenthesis then no_arguments_step N s else argument_start N s
    (a_sign n p)
argument_first_step N s t = argument_start N s t

unfoldable pub text_step : ℕ → List Node → List Entry → Lexeme → Option State
text_step id N (ArgumentsOpen ids ∷ s) t = argument_ended id ids N s t
text_step id N _ t = None
