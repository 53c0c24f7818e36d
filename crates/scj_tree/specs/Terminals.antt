-- The tests on lexemes by which the grammar tells its productions apart.
use Rattle.std.specs.Prelude.{ℕ, Bool, true, false, ◌&&◌, ◌||◌, not, List, [], ◌∷◌, Option, Some, None, ◌==◌, if◌then◌else◌, nat_le, codes}
use Rattle.scj_base.specs.declared.positions.Position.{Position}
use Rattle.scj_base.specs.Bytes.{is_one_of}
use Rattle.scj_base.specs.Lexeme.{greatest_number}
use Rattle.scj_base.specs.Vocabulary.{word_abstract, word_false, word_final, word_new, word_null, word_private, word_protected, word_public, word_static, word_synchronized, word_this, word_true, sign_left_parenthesis, sign_right_parenthesis, sign_at, sign_equal, sign_not_equal, sign_less, sign_greater, sign_less_equal, sign_greater_equal, sign_plus, sign_minus, sign_star, sign_slash, sign_percent, sign_not, sign_and_and, sign_or_or, sign_and, sign_or, sign_xor, sign_tilde, sign_shift_left, sign_shift_right, sign_shift_right_unsigned, sign_plus_plus, sign_minus_minus, sign_plus_assign, sign_minus_assign, sign_star_assign, sign_slash_assign, sign_percent_assign, sign_and_assign, sign_or_assign, sign_xor_assign, sign_shift_left_assign, sign_shift_right_assign, sign_shift_right_unsigned_assign}
use Rattle.scj_tree.specs.declared.nodes.Node.{Node}
use Rattle.scj_tree.specs.declared.nodes.Node.TheVariants.{Flags}
use Rattle.scj_tree.specs.declared.parsed_parts.FlagSet.{FlagSet}
use Rattle.scj_tree.specs.declared.parsed_parts.PostKind.{PostKind}
use Rattle.scj_tree.specs.declared.parsed_parts.PostKind.TheVariants.{Variable, Invocation, NewArray, Value}
use Rattle.scj_tree.specs.Nodes.{put, next}
use Rattle.scj_tree.specs.Lexemes.{Lexeme, a_name, a_word, a_number, a_text, a_sign, the_end}

-- ---- operators

-- the levels of the binary operators, the loosest first (JLS 15.24 to 15.17), and that of an operand (JLS 15.15)
abbrev pub conditional_or : ℕ
conditional_or = 1

abbrev pub conditional_and : ℕ
conditional_and = 2

abbrev pub inclusive_or : ℕ
inclusive_or = 3

abbrev pub exclusive_or : ℕ
exclusive_or = 4

abbrev pub bitwise_and : ℕ
bitwise_and = 5

abbrev pub equality : ℕ
equality = 6

abbrev pub relational : ℕ
relational = 7

abbrev pub shift : ℕ
shift = 8

abbrev pub additive : ℕ
additive = 9

abbrev pub multiplicative : ℕ
multiplicative = 10

abbrev pub unary : ℕ
unary = 11

-- that of all expressions
abbrev pub loosest : ℕ
loosest = conditional_or

-- the operators of a level that has several
abbrev pub is_equality : ℕ → Bool
is_equality n = n == sign_equal || n == sign_not_equal

abbrev pub is_relational : ℕ → Bool
is_relational n = n == sign_less || (n == sign_greater || (n == sign_less_equal || n == sign_greater_equal))

abbrev pub is_shift : ℕ → Bool
is_shift n = n == sign_shift_left || (n == sign_shift_right || n == sign_shift_right_unsigned)

abbrev pub is_additive : ℕ → Bool
is_additive n = n == sign_plus || n == sign_minus

abbrev pub is_multiplicative : ℕ → Bool
is_multiplicative n = n == sign_star || (n == sign_slash || n == sign_percent)

-- the level of a binary operator; 0 of any other sign
unfoldable pub level : ℕ → ℕ
level n =
    if n == sign_or_or then conditional_or else
    if n == sign_and_and then conditional_and else
    if n == sign_or then inclusive_or else
    if n == sign_xor then exclusive_or else
    if n == sign_and then bitwise_and else
    if is_equality n then equality else
    if is_relational n then relational else
    if is_shift n then shift else
    if is_additive n then additive else
    if is_multiplicative n then multiplicative else
    0

-- the sign is a binary operator
abbrev pub is_binary : ℕ → Bool
is_binary n = nat_le loosest (level n)

-- the operator of a compound assignment (JLS 15.26.2)
unfoldable pub compound : ℕ → Option ℕ
compound n =
    if n == sign_plus_assign then Some sign_plus else
    if n == sign_minus_assign then Some sign_minus else
    if n == sign_star_assign then Some sign_star else
    if n == sign_slash_assign then Some sign_slash else
    if n == sign_percent_assign then Some sign_percent else
    if n == sign_and_assign then Some sign_and else
    if n == sign_or_assign then Some sign_or else
    if n == sign_xor_assign then Some sign_xor else
    if n == sign_shift_left_assign then Some sign_shift_left else
    if n == sign_shift_right_assign then Some sign_shift_right else
    if n == sign_shift_right_unsigned_assign then Some sign_shift_right_unsigned else
    None

-- the operator of `++` and `--` (JLS 15.14.2)
unfoldable pub stepping : ℕ → Option ℕ
stepping n =
    if n == sign_plus_plus then Some sign_plus else
    if n == sign_minus_minus then Some sign_minus else
    None

-- the number that stands only behind a `-`
abbrev pub is_minimum : ℕ → Bool
is_minimum n = n == greatest_number

-- an element may be taken of it
unfoldable pub indexable : PostKind → Bool
indexable Variable = true
indexable Invocation = true
indexable NewArray = false
indexable Value = true

-- ---- annotations and modifiers

-- no annotation and no modifier
abbrev pub no_flags : FlagSet
no_flags = record {
  position = None;
  define_scope = None;
  scope = None;
  runs_in = None;
  is_public = false;
  is_protected = false;
  is_private = false;
  is_static = false;
  is_final = false;
  is_abstract = false;
  is_synchronized = false;
}

-- with one that stands at p: the first gives the place
unfoldable pub placed : Position → FlagSet → FlagSet
placed p flags = record flags { position = elim flags.position [ None ↦ Some p | Some q ↦ Some q ] }

unfoldable pub with_define_scope : ℕ → FlagSet → FlagSet
with_define_scope id flags = record flags { define_scope = Some id }

unfoldable pub with_scope : ℕ → FlagSet → FlagSet
with_scope id flags = record flags { scope = Some id }

unfoldable pub with_runs_in : ℕ → FlagSet → FlagSet
with_runs_in id flags = record flags { runs_in = Some id }

-- the flags with a modifier more, unless it was there before
abbrev pub unless_there : Bool → FlagSet → Option FlagSet
unless_there was_there flags = if was_there then None else Some flags

-- with one modifier more: none stands twice
unfoldable pub with_modifier : ℕ → FlagSet → Option FlagSet
with_modifier w flags =
    if w == word_public then unless_there flags.is_public (record flags { is_public = true }) else
    if w == word_protected then unless_there flags.is_protected (record flags { is_protected = true }) else
    if w == word_private then unless_there flags.is_private (record flags { is_private = true }) else
    if w == word_static then unless_there flags.is_static (record flags { is_static = true }) else
    if w == word_final then unless_there flags.is_final (record flags { is_final = true }) else
    if w == word_abstract then unless_there flags.is_abstract (record flags { is_abstract = true }) else
    if w == word_synchronized then unless_there flags.is_synchronized (record flags { is_synchronized = true }) else
    None

-- before a local the one modifier is `final` (JLS 14.4)
unfoldable pub add_modifier : Bool → ℕ → FlagSet → Option FlagSet
add_modifier is_local w flags = if is_local && not (w == word_final) then None else with_modifier w flags

-- at least one has an effect
unfoldable pub has_effect : FlagSet → Bool
has_effect flags =
    is_there flags.define_scope || (is_there flags.scope || (is_there flags.runs_in ||
    (flags.is_static || (flags.is_abstract || flags.is_synchronized))))
  where
    is_there : Option ℕ → Bool
    is_there None = false
    is_there (Some id) = true

unfoldable pub flags_at : Position → FlagSet → Node
flags_at p flags =
    Flags p flags.define_scope flags.scope flags.runs_in flags.is_static flags.is_abstract flags.is_synchronized

-- the node of the flags, where at least one has an effect
unfoldable pub flags_node : FlagSet → Option Node
flags_node flags =
    if has_effect flags then elim flags.position [ None ↦ None | Some p ↦ Some (flags_at p flags) ] else None

-- the nodes with the node of the flags, and its number
unfoldable pub with_flags : List Node → FlagSet → List Node
with_flags N flags = elim (flags_node flags) [ None ↦ N | Some node ↦ put N node ]

unfoldable pub flags_number : List Node → FlagSet → Option ℕ
flags_number N flags = elim (flags_node flags) [ None ↦ None | Some node ↦ Some (next N) ]

-- the annotations without effect
unfoldable pub is_effectless : List ℕ → Bool
is_effectless w =
    is_one_of w (codes "Override" ∷ codes "SCJAllowed" ∷ codes "SCJRestricted" ∷ codes "SuppressWarnings" ∷ [])

-- the classes that take a type argument
unfoldable pub has_type_argument : List ℕ → Bool
has_type_argument w = is_one_of w (codes "MissionSequencer" ∷ codes "Safelet" ∷ [])

-- ---- what a row of lexemes begins with

unfoldable pub begins_with_word : ℕ → List Lexeme → Bool
begins_with_word n (a_word w p ∷ o) = w == n
begins_with_word n _ = false

unfoldable pub begins_with_sign : ℕ → List Lexeme → Bool
begins_with_sign n (a_sign m p ∷ o) = m == n
begins_with_sign n _ = false

-- what may stand directly behind the `( Name )` of a cast
unfoldable pub is_unary1_start : Lexeme → Bool
is_unary1_start (a_name w p) = true
is_unary1_start (a_word w p) =
    w == word_true || (w == word_false || (w == word_null || (w == word_this || w == word_new)))
is_unary1_start (a_number n p) = true
is_unary1_start (a_text w p) = false
is_unary1_start (a_sign n p) = n == sign_not || (n == sign_tilde || n == sign_left_parenthesis)
is_unary1_start (the_end p) = false

unfoldable pub begins_unary1 : List Lexeme → Bool
begins_unary1 [] = false
begins_unary1 (t ∷ o) = is_unary1_start t

-- a name and a `)` behind it
unfoldable pub closes_name : List Lexeme → Bool
closes_name (a_name w p ∷ a_sign n q ∷ o) = n == sign_right_parenthesis
closes_name _ = false

-- the number that stands only behind a `-`
unfoldable pub begins_with_minimum : List Lexeme → Bool
begins_with_minimum (a_number n p ∷ o) = is_minimum n
begins_with_minimum _ = false

-- an annotation or a `final` before a local
unfoldable pub begins_local_flags : List Lexeme → Bool
begins_local_flags (a_word w p ∷ o) = w == word_final
begins_local_flags (a_sign n p ∷ o) = n == sign_at
begins_local_flags _ = false
