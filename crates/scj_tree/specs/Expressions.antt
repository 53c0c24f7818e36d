-- The grammar, second part: expressions and the arguments of calls (JLS 15).
use Rattle.std.specs.Prelude.{◌≡◌, ℕ, suc, Bool, true, false, List, [], ◌∷◌, ◌++◌, Some, None}
use Rattle.scj_base.specs.declared.positions.Position.{Position}
use Rattle.scj_base.specs.Lexeme.{greatest_number}
use Rattle.scj_base.specs.Vocabulary.{word_boolean, word_false, word_int, word_new, word_null, word_this, word_true, sign_left_parenthesis, sign_right_parenthesis, sign_left_bracket, sign_right_bracket, sign_comma, sign_dot, sign_minus, sign_not, sign_tilde}
use Rattle.scj_tree.specs.declared.nodes.Node.{Node}
use Rattle.scj_tree.specs.declared.nodes.Node.TheVariants.{IntType, BooleanType, ClassType, Binary, Unary, Cast, Parenthesized, SimpleName, FieldAccess, Call, Element, New, NewArray, Text, Number, True, False, Null, This}
use Rattle.scj_tree.specs.declared.parsed_parts.PostKind.{PostKind}
use Rattle.scj_tree.specs.declared.parsed_parts.PostKind.TheVariants.{Variable, Invocation, NewArray as ArrayKind, Value}
use Rattle.scj_tree.specs.Lexemes.{Lexeme, a_name, a_word, a_number, a_text, a_sign}
use Rattle.scj_tree.specs.Nodes.{put, next}
use Rattle.scj_tree.specs.Terminals.{unary, loosest, level, is_binary, is_minimum, indexable, begins_unary1, closes_name, begins_with_minimum}

mutual
  -- an expression whose binary operators have the level n or a tighter one; operators of one level are read left to
  -- right
  pub data Level : ℕ → List Node → List Lexeme → List Node → List Lexeme → ℕ → Type 0 where
    operand : {N N1 i o id : _} → UnaryRead N i N1 o id → Level unary N i N1 o id
    tighter : {n N N1 i o id : _} → Level (suc n) N i N1 o id → Level n N i N1 o id
    binary : {N N1 N2 i i1 o l r op p : _} →
        is_binary op ≡ true → Level (level op) N i N1 (a_sign op p ∷ i1) l → Level (suc (level op)) N1 i1 N2 o r →
        Level (level op) N i (put N2 (Binary p op l r)) o (next N2)

  pub data UnaryRead : List Node → List Lexeme → List Node → List Lexeme → ℕ → Type 0 where
    minus : {N N1 i o e p : _} →
        begins_with_minimum i ≡ false → UnaryRead N i N1 o e →
        UnaryRead N (a_sign sign_minus p ∷ i) (put N1 (Unary p sign_minus e)) o (next N1)
    minimum_unary : {N N1 i o e kind p : _} → PostRead true kind p N i N1 o e → UnaryRead N i N1 o e
    plain_unary : {N N1 i o e : _} → Unary1Read N i N1 o e → UnaryRead N i N1 o e

  -- what may stand behind the `( Name )` of a cast: `( Name )` is a cast exactly where the next lexeme begins this
  pub data Unary1Read : List Node → List Lexeme → List Node → List Lexeme → ℕ → Type 0 where
    negation : {N N1 i o e p : _} →
        UnaryRead N i N1 o e →
        Unary1Read N (a_sign sign_not p ∷ i) (put N1 (Unary p sign_not e)) o (next N1)
    complement : {N N1 i o e p : _} →
        UnaryRead N i N1 o e →
        Unary1Read N (a_sign sign_tilde p ∷ i) (put N1 (Unary p sign_tilde e)) o (next N1)
    cast : {N N1 i o e w p q r : _} →
        begins_unary1 i ≡ true → Unary1Read N i N1 o e →
        Unary1Read N (a_sign sign_left_parenthesis p ∷ a_name w q ∷ a_sign sign_right_parenthesis r ∷ i)
        (put N1 (Cast p q w e)) o (next N1)
    post_unary : {N N1 i o e kind p : _} → PostRead false kind p N i N1 o e → Unary1Read N i N1 o e

  -- what stands at p; `true` where it begins with the literal -2147483648, which stands only where a unary `-` may
  pub data PostRead : Bool → PostKind → Position → List Node → List Lexeme → List Node → List Lexeme → ℕ → Type 0 where
    simple_name : {N w p o : _} → PostRead false Variable p N (a_name w p ∷ o) (put N (SimpleName p w)) o (next N)
    simple_call : {N N1 i o ids w p q : _} →
        ArgumentsRead N i N1 o ids →
        PostRead false Invocation p N (a_name w p ∷ a_sign sign_left_parenthesis q ∷ i)
        (put N1 (Call p w None ids)) o (next N1)
    field_of : {minimum kind q N N1 i o e w p r : _} →
        PostRead minimum kind q N i N1 (a_sign sign_dot r ∷ a_name w p ∷ o) e →
        PostRead minimum Variable p N i (put N1 (FieldAccess p w e)) o (next N1)
    call_of : {minimum kind q N N1 N2 i i1 o e ids w p r u : _} →
        PostRead minimum kind q N i N1 (a_sign sign_dot r ∷ a_name w p ∷ a_sign sign_left_parenthesis u ∷ i1) e →
        ArgumentsRead N1 i1 N2 o ids →
        PostRead minimum Invocation p N i (put N2 (Call p w (Some e) ids)) o (next N2)
    element_of : {minimum kind q N N1 N2 i i1 o e x p r : _} →
        indexable kind ≡ true → PostRead minimum kind q N i N1 (a_sign sign_left_bracket p ∷ i1) e →
        Level loosest N1 i1 N2 (a_sign sign_right_bracket r ∷ o) x →
        PostRead minimum Variable p N i (put N2 (Element p e x)) o (next N2)
    number : {N n p o : _} →
        is_minimum n ≡ false →
        PostRead false Value p N (a_number n p ∷ o) (put N (Number p n false)) o (next N)
    minimum_number : {N p q o : _} →
        PostRead true Value p N (a_sign sign_minus p ∷ a_number greatest_number q ∷ o)
        (put N (Number p greatest_number true)) o (next N)
    true_value : {N p o : _} → PostRead false Value p N (a_word word_true p ∷ o) (put N (True p)) o (next N)
    false_value : {N p o : _} → PostRead false Value p N (a_word word_false p ∷ o) (put N (False p)) o (next N)
    null_value : {N p o : _} → PostRead false Value p N (a_word word_null p ∷ o) (put N (Null p)) o (next N)
    this_value : {N p o : _} → PostRead false Value p N (a_word word_this p ∷ o) (put N (This p)) o (next N)
    parenthesized : {N N1 i o e p q : _} →
        closes_name i ≡ false → Level loosest N i N1 (a_sign sign_right_parenthesis q ∷ o) e →
        PostRead false Value p N (a_sign sign_left_parenthesis p ∷ i) (put N1 (Parenthesized p e)) o (next N1)
    parenthesized_name : {N w p q r o : _} →
        begins_unary1 o ≡ false →
        PostRead false Value p N (a_sign sign_left_parenthesis p ∷ a_name w q ∷ a_sign sign_right_parenthesis r ∷ o)
        (put (put N (SimpleName q w)) (Parenthesized p (next N))) o (next (put N (SimpleName q w)))
    new_object : {N N1 i o ids w p q r : _} →
        ArgumentsRead N i N1 o ids →
        PostRead false Invocation p N (a_word word_new p ∷ a_name w q ∷ a_sign sign_left_parenthesis r ∷ i)
        (put N1 (New p q w ids)) o (next N1)
    new_ints : {N N1 i o e p q r s : _} →
        Level loosest (put N (IntType q false)) i N1 (a_sign sign_right_bracket s ∷ o) e →
        PostRead false ArrayKind p N (a_word word_new p ∷ a_word word_int q ∷ a_sign sign_left_bracket r ∷ i)
        (put N1 (NewArray p (next N) e)) o (next N1)
    new_booleans : {N N1 i o e p q r s : _} →
        Level loosest (put N (BooleanType q false)) i N1 (a_sign sign_right_bracket s ∷ o) e →
        PostRead false ArrayKind p N (a_word word_new p ∷ a_word word_boolean q ∷ a_sign sign_left_bracket r ∷ i)
        (put N1 (NewArray p (next N) e)) o (next N1)
    new_references : {N N1 i o e w p q r s : _} →
        Level loosest (put N (ClassType q w None false)) i N1 (a_sign sign_right_bracket s ∷ o) e →
        PostRead false ArrayKind p N (a_word word_new p ∷ a_name w q ∷ a_sign sign_left_bracket r ∷ i)
        (put N1 (NewArray p (next N) e)) o (next N1)

  pub data ArgumentRead : List Node → List Lexeme → List Node → List Lexeme → ℕ → Type 0 where
    expression_argument : {N N1 i o e : _} → Level loosest N i N1 o e → ArgumentRead N i N1 o e
    text_argument : {N w p o : _} → ArgumentRead N (a_text w p ∷ o) (put N (Text p w)) o (next N)

  -- arguments with the comma behind each
  pub data ArgumentsBegun : List Node → List Lexeme → List Node → List Lexeme → List ℕ → Type 0 where
    no_argument_yet : {N i : _} → ArgumentsBegun N i N i []
    argument_and_comma : {N N1 N2 i i1 o ids id p : _} →
        ArgumentsBegun N i N1 i1 ids → ArgumentRead N1 i1 N2 (a_sign sign_comma p ∷ o) id →
        ArgumentsBegun N i N2 o (ids ++ id ∷ [])

  -- with the closing parenthesis
  pub data ArgumentsRead : List Node → List Lexeme → List Node → List Lexeme → List ℕ → Type 0 where
    no_arguments : {N p o : _} → ArgumentsRead N (a_sign sign_right_parenthesis p ∷ o) N o []
    arguments : {N N1 N2 i i1 o ids id p : _} →
        ArgumentsBegun N i N1 i1 ids → ArgumentRead N1 i1 N2 (a_sign sign_right_parenthesis p ∷ o) id →
        ArgumentsRead N i N2 o (ids ++ id ∷ [])

abbrev pub ExpressionRead : List Node → List Lexeme → List Node → List Lexeme → ℕ → Type 0
ExpressionRead = Level loosest
