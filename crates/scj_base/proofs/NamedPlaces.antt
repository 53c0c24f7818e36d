-- The code's lists and numbers are those of the definition, and each number is the place of its word or sign.
use Rattle.std.proofs.Common.{◌≡◌, Some, codes, slice_get, map, refl}
use Rattle.scj_base.specs.declared.vocabulary.TheConstants.{WORDS, SIGNS, ABSTRACT, BOOLEAN, CLASS, ELSE, EXTENDS, FALSE, FINAL, FOR, IF, IMPLEMENTS, IMPORT, INT, LONG, NEW, NULL, PACKAGE, PRIVATE, PROTECTED, PUBLIC, RETURN, STATIC, SUPER, SYNCHRONIZED, THIS, TRUE, VOID, WHILE, LEFT_BRACE, RIGHT_BRACE, LEFT_PARENTHESIS, RIGHT_PARENTHESIS, LEFT_BRACKET, RIGHT_BRACKET, SEMICOLON, COMMA, DOT, AT, ASSIGN, EQUAL, NOT_EQUAL, LESS, GREATER, LESS_EQUAL, GREATER_EQUAL, PLUS, MINUS, STAR, SLASH, PERCENT, NOT, AND_AND, OR_OR, AND, OR, XOR, TILDE, SHIFT_LEFT, SHIFT_RIGHT, SHIFT_RIGHT_UNSIGNED, PLUS_PLUS, MINUS_MINUS, PLUS_ASSIGN, MINUS_ASSIGN, STAR_ASSIGN, SLASH_ASSIGN, PERCENT_ASSIGN, AND_ASSIGN, OR_ASSIGN, XOR_ASSIGN, SHIFT_LEFT_ASSIGN, SHIFT_RIGHT_ASSIGN, SHIFT_RIGHT_UNSIGNED_ASSIGN}
use Rattle.scj_base.specs.Vocabulary.{words, signs, word_abstract, word_boolean, word_class, word_else, word_extends, word_false, word_final, word_for, word_if, word_implements, word_import, word_int, word_long, word_new, word_null, word_package, word_private, word_protected, word_public, word_return, word_static, word_super, word_synchronized, word_this, word_true, word_void, word_while, sign_left_brace, sign_right_brace, sign_left_parenthesis, sign_right_parenthesis, sign_left_bracket, sign_right_bracket, sign_semicolon, sign_comma, sign_dot, sign_at, sign_assign, sign_equal, sign_not_equal, sign_less, sign_greater, sign_less_equal, sign_greater_equal, sign_plus, sign_minus, sign_star, sign_slash, sign_percent, sign_not, sign_and_and, sign_or_or, sign_and, sign_or, sign_xor, sign_tilde, sign_shift_left, sign_shift_right, sign_shift_right_unsigned, sign_plus_plus, sign_minus_minus, sign_plus_assign, sign_minus_assign, sign_star_assign, sign_slash_assign, sign_percent_assign, sign_and_assign, sign_or_assign, sign_xor_assign, sign_shift_left_assign, sign_shift_right_assign, sign_shift_right_unsigned_assign}

pub words-are : map (λ w. w.now) WORDS ≡ words
unfolding words
words-are = refl

pub signs-are : map (λ w. w.now) SIGNS ≡ signs
unfolding signs
signs-are = refl

abstract-is : (ABSTRACT ≡ word_abstract) × (slice_get words ABSTRACT ≡ Some (codes "abstract"))
unfolding words
abstract-is = (refl, refl)

boolean-is : (BOOLEAN ≡ word_boolean) × (slice_get words BOOLEAN ≡ Some (codes "boolean"))
unfolding words
boolean-is = (refl, refl)

class-is : (CLASS ≡ word_class) × (slice_get words CLASS ≡ Some (codes "class"))
unfolding words
class-is = (refl, refl)

else-is : (ELSE ≡ word_else) × (slice_get words ELSE ≡ Some (codes "else"))
unfolding words
else-is = (refl, refl)

extends-is : (EXTENDS ≡ word_extends) × (slice_get words EXTENDS ≡ Some (codes "extends"))
unfolding words
extends-is = (refl, refl)

false-is : (FALSE ≡ word_false) × (slice_get words FALSE ≡ Some (codes "false"))
unfolding words
false-is = (refl, refl)

final-is : (FINAL ≡ word_final) × (slice_get words FINAL ≡ Some (codes "final"))
unfolding words
final-is = (refl, refl)

for-is : (FOR ≡ word_for) × (slice_get words FOR ≡ Some (codes "for"))
unfolding words
for-is = (refl, refl)

if-is : (IF ≡ word_if) × (slice_get words IF ≡ Some (codes "if"))
unfolding words
if-is = (refl, refl)

implements-is : (IMPLEMENTS ≡ word_implements) × (slice_get words IMPLEMENTS ≡ Some (codes "implements"))
unfolding words
implements-is = (refl, refl)

import-is : (IMPORT ≡ word_import) × (slice_get words IMPORT ≡ Some (codes "import"))
unfolding words
import-is = (refl, refl)

int-is : (INT ≡ word_int) × (slice_get words INT ≡ Some (codes "int"))
unfolding words
int-is = (refl, refl)

long-is : (LONG ≡ word_long) × (slice_get words LONG ≡ Some (codes "long"))
unfolding words
long-is = (refl, refl)

new-is : (NEW ≡ word_new) × (slice_get words NEW ≡ Some (codes "new"))
unfolding words
new-is = (refl, refl)

null-is : (NULL ≡ word_null) × (slice_get words NULL ≡ Some (codes "null"))
unfolding words
null-is = (refl, refl)

package-is : (PACKAGE ≡ word_package) × (slice_get words PACKAGE ≡ Some (codes "package"))
unfolding words
package-is = (refl, refl)

private-is : (PRIVATE ≡ word_private) × (slice_get words PRIVATE ≡ Some (codes "private"))
unfolding words
private-is = (refl, refl)

protected-is : (PROTECTED ≡ word_protected) × (slice_get words PROTECTED ≡ Some (codes "protected"))
unfolding words
protected-is = (refl, refl)

public-is : (PUBLIC ≡ word_public) × (slice_get words PUBLIC ≡ Some (codes "public"))
unfolding words
public-is = (refl, refl)

return-is : (RETURN ≡ word_return) × (slice_get words RETURN ≡ Some (codes "return"))
unfolding words
return-is = (refl, refl)

static-is : (STATIC ≡ word_static) × (slice_get words STATIC ≡ Some (codes "static"))
unfolding words
static-is = (refl, refl)

super-is : (SUPER ≡ word_super) × (slice_get words SUPER ≡ Some (codes "super"))
unfolding words
super-is = (refl, refl)

synchronized-is : (SYNCHRONIZED ≡ word_synchronized) × (slice_get words SYNCHRONIZED ≡ Some (codes "synchronized"))
unfolding words
synchronized-is = (refl, refl)

this-is : (THIS ≡ word_this) × (slice_get words THIS ≡ Some (codes "this"))
unfolding words
this-is = (refl, refl)

true-is : (TRUE ≡ word_true) × (slice_get words TRUE ≡ Some (codes "true"))
unfolding words
true-is = (refl, refl)

void-is : (VOID ≡ word_void) × (slice_get words VOID ≡ Some (codes "void"))
unfolding words
void-is = (refl, refl)

while-is : (WHILE ≡ word_while) × (slice_get words WHILE ≡ Some (codes "while"))
unfolding words
while-is = (refl, refl)

left_brace-is : (LEFT_BRACE ≡ sign_left_brace) × (slice_get signs LEFT_BRACE ≡ Some (codes "{"))
unfolding signs
left_brace-is = (refl, refl)

right_brace-is : (RIGHT_BRACE ≡ sign_right_brace) × (slice_get signs RIGHT_BRACE ≡ Some (codes "}"))
unfolding signs
right_brace-is = (refl, refl)

left_parenthesis-is : (LEFT_PARENTHESIS ≡ sign_left_parenthesis) × (slice_get signs LEFT_PARENTHESIS ≡ Some (codes "("))
unfolding signs
left_parenthesis-is = (refl, refl)

right_parenthesis-is : (RIGHT_PARENTHESIS ≡ sign_right_parenthesis) ×
    (slice_get signs RIGHT_PARENTHESIS ≡ Some (codes ")"))
unfolding signs
right_parenthesis-is = (refl, refl)

left_bracket-is : (LEFT_BRACKET ≡ sign_left_bracket) × (slice_get signs LEFT_BRACKET ≡ Some (codes "["))
unfolding signs
left_bracket-is = (refl, refl)

right_bracket-is : (RIGHT_BRACKET ≡ sign_right_bracket) × (slice_get signs RIGHT_BRACKET ≡ Some (codes "]"))
unfolding signs
right_bracket-is = (refl, refl)

semicolon-is : (SEMICOLON ≡ sign_semicolon) × (slice_get signs SEMICOLON ≡ Some (codes ";"))
unfolding signs
semicolon-is = (refl, refl)

comma-is : (COMMA ≡ sign_comma) × (slice_get signs COMMA ≡ Some (codes ","))
unfolding signs
comma-is = (refl, refl)

dot-is : (DOT ≡ sign_dot) × (slice_get signs DOT ≡ Some (codes "."))
unfolding signs
dot-is = (refl, refl)

at-is : (AT ≡ sign_at) × (slice_get signs AT ≡ Some (codes "@"))
unfolding signs
at-is = (refl, refl)

assign-is : (ASSIGN ≡ sign_assign) × (slice_get signs ASSIGN ≡ Some (codes "="))
unfolding signs
assign-is = (refl, refl)

equal-is : (EQUAL ≡ sign_equal) × (slice_get signs EQUAL ≡ Some (codes "=="))
unfolding signs
equal-is = (refl, refl)

not_equal-is : (NOT_EQUAL ≡ sign_not_equal) × (slice_get signs NOT_EQUAL ≡ Some (codes "!="))
unfolding signs
not_equal-is = (refl, refl)

less-is : (LESS ≡ sign_less) × (slice_get signs LESS ≡ Some (codes "<"))
unfolding signs
less-is = (refl, refl)

greater-is : (GREATER ≡ sign_greater) × (slice_get signs GREATER ≡ Some (codes ">"))
unfolding signs
greater-is = (refl, refl)

less_equal-is : (LESS_EQUAL ≡ sign_less_equal) × (slice_get signs LESS_EQUAL ≡ Some (codes "<="))
unfolding signs
less_equal-is = (refl, refl)

greater_equal-is : (GREATER_EQUAL ≡ sign_greater_equal) × (slice_get signs GREATER_EQUAL ≡ Some (codes ">="))
unfolding signs
greater_equal-is = (refl, refl)

plus-is : (PLUS ≡ sign_plus) × (slice_get signs PLUS ≡ Some (codes "+"))
unfolding signs
plus-is = (refl, refl)

minus-is : (MINUS ≡ sign_minus) × (slice_get signs MINUS ≡ Some (codes "-"))
unfolding signs
minus-is = (refl, refl)

star-is : (STAR ≡ sign_star) × (slice_get signs STAR ≡ Some (codes "*"))
unfolding signs
star-is = (refl, refl)

slash-is : (SLASH ≡ sign_slash) × (slice_get signs SLASH ≡ Some (codes "/"))
unfolding signs
slash-is = (refl, refl)

percent-is : (PERCENT ≡ sign_percent) × (slice_get signs PERCENT ≡ Some (codes "%"))
unfolding signs
percent-is = (refl, refl)

not-is : (NOT ≡ sign_not) × (slice_get signs NOT ≡ Some (codes "!"))
unfolding signs
not-is = (refl, refl)

and_and-is : (AND_AND ≡ sign_and_and) × (slice_get signs AND_AND ≡ Some (codes "&&"))
unfolding signs
and_and-is = (refl, refl)

or_or-is : (OR_OR ≡ sign_or_or) × (slice_get signs OR_OR ≡ Some (codes "||"))
unfolding signs
or_or-is = (refl, refl)

and-is : (AND ≡ sign_and) × (slice_get signs AND ≡ Some (codes "&"))
unfolding signs
and-is = (refl, refl)

or-is : (OR ≡ sign_or) × (slice_get signs OR ≡ Some (codes "|"))
unfolding signs
or-is = (refl, refl)

xor-is : (XOR ≡ sign_xor) × (slice_get signs XOR ≡ Some (codes "^"))
unfolding signs
xor-is = (refl, refl)

tilde-is : (TILDE ≡ sign_tilde) × (slice_get signs TILDE ≡ Some (codes "~"))
unfolding signs
tilde-is = (refl, refl)

shift_left-is : (SHIFT_LEFT ≡ sign_shift_left) × (slice_get signs SHIFT_LEFT ≡ Some (codes "<<"))
unfolding signs
shift_left-is = (refl, refl)

shift_right-is : (SHIFT_RIGHT ≡ sign_shift_right) × (slice_get signs SHIFT_RIGHT ≡ Some (codes ">>"))
unfolding signs
shift_right-is = (refl, refl)

shift_right_unsigned-is : (SHIFT_RIGHT_UNSIGNED ≡ sign_shift_right_unsigned) ×
    (slice_get signs SHIFT_RIGHT_UNSIGNED ≡ Some (codes ">>>"))
unfolding signs
shift_right_unsigned-is = (refl, refl)

plus_plus-is : (PLUS_PLUS ≡ sign_plus_plus) × (slice_get signs PLUS_PLUS ≡ Some (codes "++"))
unfolding signs
plus_plus-is = (refl, refl)

minus_minus-is : (MINUS_MINUS ≡ sign_minus_minus) × (slice_get signs MINUS_MINUS ≡ Some (codes "--"))
unfolding signs
minus_minus-is = (refl, refl)

plus_assign-is : (PLUS_ASSIGN ≡ sign_plus_assign) × (slice_get signs PLUS_ASSIGN ≡ Some (codes "+="))
unfolding signs
plus_assign-is = (refl, refl)

minus_assign-is : (MINUS_ASSIGN ≡ sign_minus_assign) × (slice_get signs MINUS_ASSIGN ≡ Some (codes "-="))
unfolding signs
minus_assign-is = (refl, refl)

star_assign-is : (STAR_ASSIGN ≡ sign_star_assign) × (slice_get signs STAR_ASSIGN ≡ Some (codes "*="))
unfolding signs
star_assign-is = (refl, refl)

slash_assign-is : (SLASH_ASSIGN ≡ sign_slash_assign) × (slice_get signs SLASH_ASSIGN ≡ Some (codes "/="))
unfolding signs
slash_assign-is = (refl, refl)

percent_assign-is : (PERCENT_ASSIGN ≡ sign_percent_assign) × (slice_get signs PERCENT_ASSIGN ≡ Some (codes "%="))
unfolding signs
percent_assign-is = (refl, refl)

and_assign-is : (AND_ASSIGN ≡ sign_and_assign) × (slice_get signs AND_ASSIGN ≡ Some (codes "&="))
unfolding signs
and_assign-is = (refl, refl)

or_assign-is : (OR_ASSIGN ≡ sign_or_assign) × (slice_get signs OR_ASSIGN ≡ Some (codes "|="))
unfolding signs
or_assign-is = (refl, refl)

xor_assign-is : (XOR_ASSIGN ≡ sign_xor_assign) × (slice_get signs XOR_ASSIGN ≡ Some (codes "^="))
unfolding signs
xor_assign-is = (refl, refl)

shift_left_assign-is : (SHIFT_LEFT_ASSIGN ≡ sign_shift_left_assign) ×
    (slice_get signs SHIFT_LEFT_ASSIGN ≡ Some (codes "<<="))
unfolding signs
shift_left_assign-is = (refl, refl)

shift_right_assign-is : (SHIFT_RIGHT_ASSIGN ≡ sign_shift_right_assign) ×
    (slice_get signs SHIFT_RIGHT_ASSIGN ≡ Some (codes ">>="))
unfolding signs
shift_right_assign-is = (refl, refl)

shift_right_unsigned_assign-is : (SHIFT_RIGHT_UNSIGNED_ASSIGN ≡ sign_shift_right_unsigned_assign) ×
    (slice_get signs SHIFT_RIGHT_UNSIGNED_ASSIGN ≡ Some (codes ">>>="))
unfolding signs
shift_right_unsigned_assign-is = (refl, refl)
