-- The grammar, third part: statements (JLS 14).
use Rattle.std.specs.Prelude.{◌≡◌, ℕ, true, false, List, [], ◌∷◌, ◌++◌, Option, Some, None}
use Rattle.scj_base.specs.declared.positions.Position.{Position}
use Rattle.scj_base.specs.Vocabulary.{word_else, word_for, word_if, word_return, word_while, sign_left_brace, sign_right_brace, sign_left_parenthesis, sign_right_parenthesis, sign_semicolon, sign_assign}
use Rattle.scj_tree.specs.declared.nodes.Node.{Node}
use Rattle.scj_tree.specs.declared.nodes.Node.TheVariants.{Block, Empty, Local, LocalWithValue, Assign, ExpressionStatement, If, While, For, Return, Binary, Parenthesized, SimpleName, Number}
use Rattle.scj_tree.specs.declared.parsed_parts.PostKind.TheVariants.{Variable, Invocation}
use Rattle.scj_tree.specs.Lexemes.{Lexeme, a_name, a_word, a_sign}
use Rattle.scj_tree.specs.Nodes.{put, next}
use Rattle.scj_tree.specs.Terminals.{compound, stepping, begins_with_word, begins_local_flags, with_flags, flags_number}
use Rattle.scj_tree.specs.Headers.{FlagRow, TypeRead}
use Rattle.scj_tree.specs.Expressions.{ExpressionRead, PostRead}

-- the name twice, as the target and as the left operand
abbrev pub name_twice : List Node → Position → List ℕ → List Node
name_twice N q w = put (put N (SimpleName q w)) (SimpleName q w)

-- the number of the second
abbrev pub second_name : List Node → Position → List ℕ → ℕ
second_name N q w = next (put N (SimpleName q w))

-- the operation on two operands, and the assignment of it
abbrev pub operation : List Node → Position → ℕ → ℕ → ℕ → List Node
operation N p op left right = put N (Binary p op left right)

abbrev pub operated : List Node → Position → ℕ → ℕ → ℕ → ℕ → List Node
operated N p op target left right = put (operation N p op left right) (Assign p target (next N))

-- an assignment (JLS 15.26); `x op= e` reads as `x = x op (e)`, `x++` as `x = x + 1`
pub data AssignmentRead : List Node → List Lexeme → List Node → List Lexeme → ℕ → Type 0 where
  assignment : {N N1 N2 i i1 o x e p q : _} →
      PostRead false Variable q N i N1 (a_sign sign_assign p ∷ i1) x → ExpressionRead N1 i1 N2 o e →
      AssignmentRead N i (put N2 (Assign p x e)) o (next N2)
  compound_assignment : {N N1 i o e w n op p q : _} →
      compound n ≡ Some op → ExpressionRead (name_twice N q w) i N1 o e →
      AssignmentRead N (a_name w q ∷ a_sign n p ∷ i)
      (operated (put N1 (Parenthesized p e)) p op (next N) (second_name N q w) (next N1)) o
      (next (operation (put N1 (Parenthesized p e)) p op (second_name N q w) (next N1)))
  step_assignment : {N w n op p q o : _} →
      stepping n ≡ Some op →
      AssignmentRead N (a_name w q ∷ a_sign n p ∷ o)
      (operated (put (name_twice N q w) (Number p 1 false)) p op
      (next N) (second_name N q w) (next (name_twice N q w))) o
      (next (operation (put (name_twice N q w) (Number p 1 false)) p op
      (second_name N q w) (next (name_twice N q w))))

-- what stands before the name of a local: flags, if there are some, and its type
pub data LocalTypeRead : List Node → List Lexeme → List Node → List Lexeme → Option ℕ → ℕ → Type 0 where
  plain_local : {N N1 i o t : _} → TypeRead N i N1 o t → LocalTypeRead N i N1 o None t
  flagged_local : {N N1 N2 i i1 o flags t : _} →
      begins_local_flags i ≡ true → FlagRow true N i N1 i1 flags → TypeRead (with_flags N1 flags) i1 N2 o t →
      LocalTypeRead N i N2 o (flags_number N1 flags) t

mutual
  -- an `else` belongs to the nearest open `if`
  pub data StatementRead : List Node → List Lexeme → List Node → List Lexeme → ℕ → Type 0 where
    block : {N N1 i o ids p q : _} →
        StatementsRead N i N1 (a_sign sign_right_brace q ∷ o) ids →
        StatementRead N (a_sign sign_left_brace p ∷ i) (put N1 (Block p ids)) o (next N1)
    empty : {N p o : _} → StatementRead N (a_sign sign_semicolon p ∷ o) (put N (Empty p)) o (next N)
    local : {N N1 i o flags t w p q : _} →
        LocalTypeRead N i N1 (a_name w p ∷ a_sign sign_semicolon q ∷ o) flags t →
        StatementRead N i (put N1 (Local p w flags t)) o (next N1)
    local_with_value : {N N1 N2 i i1 o flags t e w p q r : _} →
        LocalTypeRead N i N1 (a_name w q ∷ a_sign sign_assign p ∷ i1) flags t →
        ExpressionRead N1 i1 N2 (a_sign sign_semicolon r ∷ o) e →
        StatementRead N i (put N2 (LocalWithValue p q w flags t e)) o (next N2)
    assign_statement : {N N1 i o id p : _} →
        AssignmentRead N i N1 (a_sign sign_semicolon p ∷ o) id →
        StatementRead N i N1 o id
    call_statement : {N N1 i o e p q : _} →
        PostRead false Invocation p N i N1 (a_sign sign_semicolon q ∷ o) e →
        StatementRead N i (put N1 (ExpressionStatement p e)) o (next N1)
    if_alone : {N N1 N2 i i1 o c s p q r : _} →
        ExpressionRead N i N1 (a_sign sign_right_parenthesis r ∷ i1) c → StatementRead N1 i1 N2 o s →
        begins_with_word word_else o ≡ false →
        StatementRead N (a_word word_if p ∷ a_sign sign_left_parenthesis q ∷ i) (put N2 (If p c s None)) o (next N2)
    if_else : {N N1 N2 N3 i i1 i2 o c s e p q r u : _} →
        ExpressionRead N i N1 (a_sign sign_right_parenthesis r ∷ i1) c →
        StatementRead N1 i1 N2 (a_word word_else u ∷ i2) s → StatementRead N2 i2 N3 o e →
        StatementRead N (a_word word_if p ∷ a_sign sign_left_parenthesis q ∷ i) (put N3 (If p c s (Some e))) o (next N3)
    while_statement : {N N1 N2 i i1 o c s p q r : _} →
        ExpressionRead N i N1 (a_sign sign_right_parenthesis r ∷ i1) c → StatementRead N1 i1 N2 o s →
        StatementRead N (a_word word_while p ∷ a_sign sign_left_parenthesis q ∷ i) (put N2 (While p c s)) o (next N2)
    for_local : {N N1 N2 N3 N4 N5 i i1 i2 i3 i4 o t e c u s w p q r a b v x : _} →
        TypeRead N i N1 (a_name w a ∷ a_sign sign_assign b ∷ i1) t →
        ExpressionRead N1 i1 N2 (a_sign sign_semicolon r ∷ i2) e →
        ExpressionRead (put N2 (LocalWithValue b a w None t e)) i2 N3 (a_sign sign_semicolon v ∷ i3) c →
        AssignmentRead N3 i3 N4 (a_sign sign_right_parenthesis x ∷ i4) u → StatementRead N4 i4 N5 o s →
        StatementRead N (a_word word_for p ∷ a_sign sign_left_parenthesis q ∷ i)
        (put N5 (For p (next N2) c u s)) o (next N5)
    for_assignment : {N N1 N2 N3 N4 i i1 i2 i3 o f c u s p q r v x : _} →
        AssignmentRead N i N1 (a_sign sign_semicolon r ∷ i1) f →
        ExpressionRead N1 i1 N2 (a_sign sign_semicolon v ∷ i2) c →
        AssignmentRead N2 i2 N3 (a_sign sign_right_parenthesis x ∷ i3) u → StatementRead N3 i3 N4 o s →
        StatementRead N (a_word word_for p ∷ a_sign sign_left_parenthesis q ∷ i) (put N4 (For p f c u s)) o (next N4)
    return_alone : {N p q o : _} →
        StatementRead N (a_word word_return p ∷ a_sign sign_semicolon q ∷ o) (put N (Return p None)) o (next N)
    return_value : {N N1 i o e p q : _} →
        ExpressionRead N i N1 (a_sign sign_semicolon q ∷ o) e →
        StatementRead N (a_word word_return p ∷ i) (put N1 (Return p (Some e))) o (next N1)

  pub data StatementsRead : List Node → List Lexeme → List Node → List Lexeme → List ℕ → Type 0 where
    no_statement : {N i : _} → StatementsRead N i N i []
    one_statement_more : {N N1 N2 i i1 o ids id : _} →
        StatementsRead N i N1 i1 ids → StatementRead N1 i1 N2 o id →
        StatementsRead N i N2 o (ids ++ id ∷ [])
