-- The reserved words and the signs of the language, each with its place in its list as its number, and names
-- for the numbers that the grammar speaks of.
use Rattle.std.specs.Prelude.{ℕ, List, [], ◌∷◌, codes}

-- the reserved words (JLS 3.9, 3.10.3, 3.10.7)
unfoldable pub words : List (List ℕ)
words =
    codes "abstract" ∷ codes "assert" ∷ codes "boolean" ∷ codes "break" ∷ codes "byte" ∷ codes "case" ∷
    codes "catch" ∷ codes "char" ∷ codes "class" ∷ codes "const" ∷ codes "continue" ∷ codes "default" ∷
    codes "do" ∷ codes "double" ∷ codes "else" ∷ codes "enum" ∷ codes "extends" ∷ codes "false" ∷
    codes "final" ∷ codes "finally" ∷ codes "float" ∷ codes "for" ∷ codes "goto" ∷ codes "if" ∷
    codes "implements" ∷ codes "import" ∷ codes "instanceof" ∷ codes "int" ∷ codes "interface" ∷ codes "long" ∷
    codes "native" ∷ codes "new" ∷ codes "null" ∷ codes "package" ∷ codes "private" ∷ codes "protected" ∷
    codes "public" ∷ codes "return" ∷ codes "short" ∷ codes "static" ∷ codes "strictfp" ∷ codes "super" ∷
    codes "switch" ∷ codes "synchronized" ∷ codes "this" ∷ codes "throw" ∷ codes "throws" ∷ codes "transient" ∷
    codes "true" ∷ codes "try" ∷ codes "void" ∷ codes "volatile" ∷ codes "while" ∷ []

-- the separators and operators (JLS 3.11, 3.12), and `@`, `->`, `::` and `...`
unfoldable pub signs : List (List ℕ)
signs =
    codes "{" ∷ codes "}" ∷ codes "(" ∷ codes ")" ∷ codes "[" ∷ codes "]" ∷ codes ";" ∷ codes "," ∷
    codes "." ∷ codes "@" ∷ codes "=" ∷ codes "==" ∷ codes "!=" ∷ codes "<" ∷ codes ">" ∷ codes "<=" ∷
    codes ">=" ∷ codes "+" ∷ codes "-" ∷ codes "*" ∷ codes "/" ∷ codes "%" ∷ codes "!" ∷ codes "&&" ∷
    codes "||" ∷ codes "&" ∷ codes "|" ∷ codes "^" ∷ codes "~" ∷ codes "<<" ∷ codes ">>" ∷ codes ">>>" ∷
    codes "?" ∷ codes ":" ∷ codes "++" ∷ codes "--" ∷ codes "+=" ∷ codes "-=" ∷ codes "*=" ∷ codes "/=" ∷
    codes "%=" ∷ codes "&=" ∷ codes "|=" ∷ codes "^=" ∷ codes "<<=" ∷ codes ">>=" ∷ codes ">>>=" ∷ codes "->" ∷
    codes "::" ∷ codes "..." ∷ []

abbrev pub word_abstract : ℕ
word_abstract = 0

abbrev pub word_boolean : ℕ
word_boolean = 2

abbrev pub word_class : ℕ
word_class = 8

abbrev pub word_else : ℕ
word_else = 14

abbrev pub word_extends : ℕ
word_extends = 16

abbrev pub word_false : ℕ
word_false = 17

abbrev pub word_final : ℕ
word_final = 18

abbrev pub word_for : ℕ
word_for = 21

abbrev pub word_if : ℕ
word_if = 23

abbrev pub word_implements : ℕ
word_implements = 24

abbrev pub word_import : ℕ
word_import = 25

abbrev pub word_int : ℕ
word_int = 27

abbrev pub word_long : ℕ
word_long = 29

abbrev pub word_new : ℕ
word_new = 31

abbrev pub word_null : ℕ
word_null = 32

abbrev pub word_package : ℕ
word_package = 33

abbrev pub word_private : ℕ
word_private = 34

abbrev pub word_protected : ℕ
word_protected = 35

abbrev pub word_public : ℕ
word_public = 36

abbrev pub word_return : ℕ
word_return = 37

abbrev pub word_static : ℕ
word_static = 39

abbrev pub word_super : ℕ
word_super = 41

abbrev pub word_synchronized : ℕ
word_synchronized = 43

abbrev pub word_this : ℕ
word_this = 44

abbrev pub word_true : ℕ
word_true = 48

abbrev pub word_void : ℕ
word_void = 50

abbrev pub word_while : ℕ
word_while = 52

abbrev pub sign_left_brace : ℕ
sign_left_brace = 0

abbrev pub sign_right_brace : ℕ
sign_right_brace = 1

abbrev pub sign_left_parenthesis : ℕ
sign_left_parenthesis = 2

abbrev pub sign_right_parenthesis : ℕ
sign_right_parenthesis = 3

abbrev pub sign_left_bracket : ℕ
sign_left_bracket = 4

abbrev pub sign_right_bracket : ℕ
sign_right_bracket = 5

abbrev pub sign_semicolon : ℕ
sign_semicolon = 6

abbrev pub sign_comma : ℕ
sign_comma = 7

abbrev pub sign_dot : ℕ
sign_dot = 8

abbrev pub sign_at : ℕ
sign_at = 9

abbrev pub sign_assign : ℕ
sign_assign = 10

abbrev pub sign_equal : ℕ
sign_equal = 11

abbrev pub sign_not_equal : ℕ
sign_not_equal = 12

abbrev pub sign_less : ℕ
sign_less = 13

abbrev pub sign_greater : ℕ
sign_greater = 14

abbrev pub sign_less_equal : ℕ
sign_less_equal = 15

abbrev pub sign_greater_equal : ℕ
sign_greater_equal = 16

abbrev pub sign_plus : ℕ
sign_plus = 17

abbrev pub sign_minus : ℕ
sign_minus = 18

abbrev pub sign_star : ℕ
sign_star = 19

abbrev pub sign_slash : ℕ
sign_slash = 20

abbrev pub sign_percent : ℕ
sign_percent = 21

abbrev pub sign_not : ℕ
sign_not = 22

abbrev pub sign_and_and : ℕ
sign_and_and = 23

abbrev pub sign_or_or : ℕ
sign_or_or = 24

abbrev pub sign_and : ℕ
sign_and = 25

abbrev pub sign_or : ℕ
sign_or = 26

abbrev pub sign_xor : ℕ
sign_xor = 27

abbrev pub sign_tilde : ℕ
sign_tilde = 28

abbrev pub sign_shift_left : ℕ
sign_shift_left = 29

abbrev pub sign_shift_right : ℕ
sign_shift_right = 30

abbrev pub sign_shift_right_unsigned : ℕ
sign_shift_right_unsigned = 31

abbrev pub sign_plus_plus : ℕ
sign_plus_plus = 34

abbrev pub sign_minus_minus : ℕ
sign_minus_minus = 35

abbrev pub sign_plus_assign : ℕ
sign_plus_assign = 36

abbrev pub sign_minus_assign : ℕ
sign_minus_assign = 37

abbrev pub sign_star_assign : ℕ
sign_star_assign = 38

abbrev pub sign_slash_assign : ℕ
sign_slash_assign = 39

abbrev pub sign_percent_assign : ℕ
sign_percent_assign = 40

abbrev pub sign_and_assign : ℕ
sign_and_assign = 41

abbrev pub sign_or_assign : ℕ
sign_or_assign = 42

abbrev pub sign_xor_assign : ℕ
sign_xor_assign = 43

abbrev pub sign_shift_left_assign : ℕ
sign_shift_left_assign = 44

abbrev pub sign_shift_right_assign : ℕ
sign_shift_right_assign = 45

abbrev pub sign_shift_right_unsigned_assign : ℕ
sign_shift_right_unsigned_assign = 46
