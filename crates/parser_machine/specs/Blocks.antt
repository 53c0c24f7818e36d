-- Statements.
use Rattle.std.specs.Prelude.{List, None, Option, Some, [], false, if◌then◌else◌, length, true, ℕ, ◌==◌, ◌∷◌}
use Rattle.parser_machine.specs.Declarations.{flags_step, typed}
use Rattle.parser_machine.specs.Operands.{name_step, operand_start}
use Rattle.parser_machine.specs.States.{State, at}
use Rattle.parser_machine.specs.declared.entries.Entry.{Entry}
use Rattle.parser_machine.specs.declared.entries.Entry.TheVariants.{BlockOpen, IndexOpen, LocalOpen, LocalValue, ReturnValue, Simple, Target}
use Rattle.parser_machine.specs.declared.modes.ElementType.TheVariants.{Boolean, Int}
use Rattle.parser_machine.specs.declared.modes.Mode.{Mode}
use Rattle.parser_machine.specs.declared.modes.Mode.TheVariants.{ForOpen, IfOpen, InStatements, NameBracket, NameFirst, Opened, Operand, ReturnStart, StatementEnd, TypeArgumentName, TypeDone, TypeEnd, WhileOpen}
use Rattle.scj_base.specs.Vocabulary.{sign_assign, sign_at, sign_left_brace, sign_left_bracket, sign_left_parenthesis, sign_less, sign_right_brace, sign_right_bracket, sign_semicolon, word_boolean, word_final, word_for, word_if, word_int, word_return, word_while}
use Rattle.scj_base.specs.declared.positions.Position.{Position}
use Rattle.scj_tree.specs.Nodes.{put}
use Rattle.scj_tree.specs.Lexemes.{Lexeme, a_name, a_sign, a_word}
use Rattle.scj_tree.specs.Terminals.{no_flags, has_type_argument}
use Rattle.scj_tree.specs.declared.nodes.Node.{Node}
use Rattle.scj_tree.specs.declared.nodes.Node.TheVariants.{Block, ClassType, Empty, Local, Return, SimpleName}

-- ---- locals, assignments and calls

-- where a target is due: what an expression of names, calls and brackets begins with
unfoldable pub target_start : List Node → List Entry → Lexeme → Option State
target_start N s (a_sign n p) = if n == sign_left_parenthesis then Some (at (Opened p) (Target ∷ s) N) else None
target_start N s t = operand_start N (Target ∷ s) t

-- where a local without flags, an assignment or a call is due
unfoldable pub first_start : List Node → List Entry → Lexeme → Option State
first_start N s (a_name w p) = Some (at (NameFirst p w) s N)
first_start N s (a_word n p) =
    if n == word_int then Some (at (TypeEnd p Int) (LocalOpen None ∷ s) N) else
    if n == word_boolean then Some (at (TypeEnd p Boolean) (LocalOpen None ∷ s) N) else
    target_start N s (a_word n p)
first_start N s t = target_start N s t

unfoldable pub name_first_step : Position → List ℕ → List Node → List Entry → Lexeme → Option State
name_first_step p w N s (a_name v q) = typed (length N) (put N (ClassType p w None false)) (LocalOpen None ∷ s)
    (a_name v q)
name_first_step p w N s (a_sign n q) =
    if n == sign_less then (if has_type_argument w then Some (at (TypeArgumentName p w) (LocalOpen None ∷ s) N)
    else None) else
    if n == sign_left_bracket then Some (at (NameBracket p w q) s N) else
    name_step p w N (Target ∷ s) (a_sign n q)
name_first_step p w N s t = None

unfoldable pub name_bracket_step : Position → List ℕ → Position → List Node → List Entry → Lexeme → Option State
name_bracket_step p w b N s (a_sign n q) =
    if n == sign_right_bracket then Some
    (at (TypeDone (length N)) (LocalOpen None ∷ s) (put N (ClassType p w None true))) else
    operand_start (put N (SimpleName p w)) (IndexOpen b (length N) ∷ Target ∷ s) (a_sign n q)
name_bracket_step p w b N s t = operand_start (put N (SimpleName p w)) (IndexOpen b (length N) ∷ Target ∷ s) t

-- a local without a value is a statement
unfoldable pub local_ended : Option ℕ → ℕ → Position → List ℕ → List Node → List Entry → Option State
local_ended flags t p w N (Simple ∷ s) = Some (at (StatementEnd (length N)) s (put N (Local p w flags t)))
local_ended flags t p w N _ = None

unfoldable pub local_named_step : Option ℕ → ℕ → Position → List ℕ → List Node → List Entry → Lexeme → Option State
local_named_step flags t p w N s (a_sign n q) =
    if n == sign_assign then Some (at Operand (LocalValue q p w flags t ∷ s) N) else
    if n == sign_semicolon then local_ended flags t p w N s else
    None
local_named_step flags t p w N s _ = None

-- ---- where a statement is due

-- `(` behind `if`, `while` and `for`
unfoldable pub test_open_step : Mode → Entry → List Node → List Entry → Lexeme → Option State
test_open_step mode e N s (a_sign n q) = if n == sign_left_parenthesis then Some (at mode (e ∷ s) N) else None
test_open_step mode e N s _ = None

unfoldable pub return_step : Position → List Node → List Entry → Lexeme → Option State
return_step p N s (a_sign n q) =
    if n == sign_semicolon then Some (at (StatementEnd (length N)) s (put N (Return p None))) else
    operand_start N (ReturnValue p ∷ s) (a_sign n q)
return_step p N s t = operand_start N (ReturnValue p ∷ s) t

unfoldable pub statement_word : ℕ → Position → List Node → List Entry → Option State
statement_word n p N s =
    if n == word_if then Some (at (IfOpen p) s N) else
    if n == word_while then Some (at (WhileOpen p) s N) else
    if n == word_for then Some (at (ForOpen p) s N) else
    if n == word_return then Some (at (ReturnStart p) s N) else
    if n == word_final then flags_step true no_flags N (Simple ∷ s) (a_word n p) else
    first_start N (Simple ∷ s) (a_word n p)

unfoldable pub statement_sign : ℕ → Position → List Node → List Entry → Option State
statement_sign n p N s =
    if n == sign_left_brace then Some (at InStatements (BlockOpen p [] ∷ s) N) else
    if n == sign_semicolon then Some (at (StatementEnd (length N)) s (put N (Empty p))) else
    if n == sign_at then flags_step true no_flags N (Simple ∷ s) (a_sign n p) else
    first_start N (Simple ∷ s) (a_sign n p)

unfoldable pub statement_start : List Node → List Entry → Lexeme → Option State
statement_start N s (a_word n p) = statement_word n p N s
statement_start N s (a_sign n p) = statement_sign n p N s
statement_start N s t = first_start N (Simple ∷ s) t

-- ---- statements in a row

unfoldable pub block_ended : List Node → List Entry → Option State
block_ended N (BlockOpen p ids ∷ s) = Some (at (StatementEnd (length N)) s (put N (Block p ids)))
block_ended N _ = None

unfoldable pub statements_step : List Node → List Entry → Lexeme → Option State
statements_step N s (a_sign n p) = if n == sign_right_brace then block_ended N s else statement_start N s (a_sign n p)
statements_step N s t = statement_start N s t
