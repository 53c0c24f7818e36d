-- Steps of statements, members and classes keep what the stack stands for.
use Rattle.std.proofs.Common.{refl, subst, sym}
use Rattle.std.proofs.lemmas.Bool.{eqb-true}
use Rattle.std.specs.Prelude.{List, None, Option, Some, [], false, length, true, ℕ, ◌==◌, ◌∷◌, ◌≡◌}
use Rattle.machine_laws.proofs.DeclarationsStand.{flags_step_stands, typed_stands}
use Rattle.machine_laws.proofs.ExpressionsStand.{name_stands, operand_start_stands}
use Rattle.machine_laws.proofs.Standing.{BlockRead, Due, FlagsGiven, ForFirstRead, Place, Source, bare, block_open, block_read, body_open, boolean_element, class_body, constructor_body, constructor_open, field_open, file_open, first_assignment, first_local, first_takes, flagged, for_body, for_head, for_literal, for_member, for_operand, for_parameter, for_parameters, for_rest, for_simple, for_statement, for_step, given, if_rest, if_test, if_then, in_statement, index_open, int_element, local_open, local_value, method_body, method_open, on_local, on_member, on_parameter, parameters_open, return_open, simple_open, starts_target, statement_takes, super_body, super_call_open, target, while_rest, while_test}
use Rattle.machine_laws.proofs.Stands.{ConstructorDue, FirstArgument, FirstDue, Leads, LocalTyped, ResultGiven, Stands, SuperEnds, TypeGiven, behind, body_done, constructor_due, first_argument, first_due, leads_if, local_named_so, local_typed, on_number, past, result_given, simple_due, statement_done, type_given}
use Rattle.machine_laws.proofs.Tools.{machine}
use Rattle.parser_machine.specs.Blocks.{block_ended, first_start, local_ended, local_named_step, name_bracket_step, name_first_step, return_step, statement_sign, statement_start, statement_word, statements_step, target_start, test_open_step}
use Rattle.parser_machine.specs.Members.{body_step, class_ended, constructor_start_step, field_ended, is_else, literal_end_step, literal_minus_step, literal_step, member_ended, member_named_step, member_read, members_step, method_named_step, parameter_end_step, parameter_ended, parameters_end_step, parameters_first_step, result_step, statement_ended, super_end_step, super_open_step}
use Rattle.parser_machine.specs.Operands.{operand_start}
use Rattle.parser_machine.specs.declared.entries.Entry.{Entry}
use Rattle.parser_machine.specs.declared.entries.Entry.TheVariants.{ArgumentsOpen, BlockOpen, FieldOpen, ForHead, IfElse, IfTest, IndexOpen, LocalOpen, LocalValue, MethodOpen, Simple, SuperCallOpen, Target, WhileTest}
use Rattle.parser_machine.specs.declared.modes.Mode.TheVariants.{ConstructorStart, ForFirst, ForOpen, ForStepStart, IfOpen, LiteralDone, LiteralMinus, LiteralStart, LocalNamed, MemberNamed, MethodNamed, NameBracket, NameFirst, Operand, ParameterDone, ParametersDone, ParametersFirst, ResultDone, ReturnStart, StatementEnd, SuperEnd, SuperOpen, WhileOpen}
use Rattle.scj_base.specs.Vocabulary.{sign_assign, sign_at, sign_comma, sign_left_brace, sign_left_bracket, sign_left_parenthesis, sign_less, sign_minus, sign_right_brace, sign_right_bracket, sign_right_parenthesis, sign_semicolon, word_boolean, word_class, word_else, word_false, word_final, word_for, word_if, word_int, word_null, word_return, word_super, word_true, word_while}
use Rattle.scj_base.specs.declared.positions.Position.{Position}
use Rattle.scj_tree.specs.Expressions.{ArgumentsRead, Level, simple_name}
use Rattle.scj_tree.specs.Grammar.{ClassRead, LiteralRead, MemberRead, MembersRead, bare_method, class, constructor, constructor_with_super, false_literal, field, field_with_value, method, negative_literal, null_literal, number_literal, one_class_more, one_member_more, true_literal}
use Rattle.scj_tree.specs.Headers.{HeaderRead, ParameterRead, ParametersRead, ResultRead, TypeRead, class_array, class_type, no_flag, no_parameter_yet, no_parameters, parameter_and_comma, parameters, typed_result}
use Rattle.scj_tree.specs.Nodes.{put}
use Rattle.scj_tree.specs.Lexemes.{Lexeme, a_name, a_number, a_sign, a_text, a_word, the_end}
use Rattle.scj_tree.specs.Statements.{AssignmentRead, LocalTypeRead, StatementRead, block, empty, flagged_local, for_assignment, for_local, if_alone, if_else, local, no_statement, one_statement_more, plain_local, return_alone, while_statement}
use Rattle.scj_tree.specs.Terminals.{begins_with_word, indexable, is_minimum, no_flags, has_type_argument}
use Rattle.scj_tree.specs.declared.nodes.Node.{Node}
use Rattle.scj_tree.specs.declared.nodes.Node.TheVariants.{Class, Constructor, Field, For, Method, SimpleName, SuperCall}
use mathlib.Core.Bool.{true≢false}

-- ---- locals, assignments and calls

target_start_stands : (r : Source) (N : List Node) (s : List Entry) (t : Lexeme) (o : List Lexeme) {k : Place} →
    Due r (for_simple k) s N (t ∷ o) → Leads r (target_start N s t) o
unfolding machine Leads Stands starts_target
target_start_stands r N s (a_sign n p) o {k} d =
    on_number r (λ m. Due r (for_simple k) s N (a_sign m p ∷ o)) n sign_left_parenthesis d _ _ o (λ l. target refl l) tt
target_start_stands r N s (a_name n p) o d = operand_start_stands r N (Target ∷ s) (a_name n p) o (target refl d)
target_start_stands r N s (a_word n p) o d = operand_start_stands r N (Target ∷ s) (a_word n p) o (target refl d)
target_start_stands r N s (a_number n p) o d = operand_start_stands r N (Target ∷ s) (a_number n p) o (target refl d)
target_start_stands r N s _ o d = tt

pub step_start_stands : (r : Source) (N : List Node) (s : List Entry) (t : Lexeme) (o : List Lexeme) →
    Stands r ForStepStart s N (t ∷ o) → Leads r (target_start N s t) o
unfolding Stands
step_start_stands r N s t o (simple_due d) = target_start_stands r N s t o d

pub first_start_stands : (r : Source) (N : List Node) (s : List Entry) (t : Lexeme) (o : List Lexeme) →
    FirstDue r s N (t ∷ o) → Leads r (first_start N s t) o
unfolding machine Leads Stands
first_start_stands r N s (a_name w p) o h = h
first_start_stands r N s (a_word n p) o (first_due {k = k} h d) =
    on_number r (λ m. Due r (for_simple k) s N (a_word m p ∷ o)) n word_int d _ _ o
    (λ l. behind int_element (local_open (bare h) l))
    (on_number r (λ m. Due r (for_simple k) s N (a_word m p ∷ o)) n word_boolean d _ _ o
    (λ l. behind boolean_element (local_open (bare h) l))
    (target_start_stands r N s (a_word n p) o d))
first_start_stands r N s (a_number n p) o (first_due h d) = target_start_stands r N s (a_number n p) o d
first_start_stands r N s (a_text n p) o (first_due h d) = target_start_stands r N s (a_text n p) o d
first_start_stands r N s (a_sign n p) o (first_due h d) = target_start_stands r N s (a_sign n p) o d
first_start_stands r N s (the_end p) o (first_due h d) = target_start_stands r N s (the_end p) o d

pub name_first_stands : (r : Source) (p : Position) (w : List ℕ) (N : List Node) (s : List Entry) (t : Lexeme)
    (o : List Lexeme) → Stands r (NameFirst p w) s N (t ∷ o) → Leads r (name_first_step p w N s t) o
unfolding machine Leads Stands starts_target
name_first_stands r p w N s (a_name v q) o (first_due h d) =
    typed_stands r _ _ (LocalOpen None ∷ s) (a_name v q) o class_type (local_open (bare h) d)
name_first_stands r p w N s (a_sign n q) o (first_due {k = k} h d) =
    on_number r (λ m. Due r (for_simple k) s N (a_name w p ∷ a_sign m q ∷ o)) n sign_less d _ _ o
    (λ l. leads_if r (has_type_argument w) _ _ o (λ e. (e, past (local_open (bare h) l))) (λ e. tt))
    (on_number r (λ m. Due r (for_simple k) s N (a_name w p ∷ a_sign m q ∷ o)) n sign_left_bracket d _ _ o
    (λ l. first_due h l)
    (name_stands r p w N (Target ∷ s) (a_sign n q) o (target refl d)))
name_first_stands r p w N s _ o h = tt

bracket_index : (r : Source) (p : Position) (w : List ℕ) (b : Position) (N : List Node) (s : List Entry) (t : Lexeme)
    (o : List Lexeme) {k : Place} → Due r (for_simple k) s N (a_name w p ∷ a_sign sign_left_bracket b ∷ t ∷ o) →
    Leads r (operand_start (put N (SimpleName p w)) (IndexOpen b (length N) ∷ Target ∷ s) t) o
unfolding starts_target indexable
bracket_index r p w b N s t o d = operand_start_stands r _ _ t o (index_open refl simple_name (target refl d))

pub name_bracket_stands : (r : Source) (p : Position) (w : List ℕ) (b : Position) (N : List Node) (s : List Entry) (t : Lexeme)
    (o : List Lexeme) → Stands r (NameBracket p w b) s N (t ∷ o) → Leads r (name_bracket_step p w b N s t) o
unfolding machine Leads Stands
name_bracket_stands r p w b N s (a_sign n q) o (first_due {k = k} h d) =
    on_number r (λ m. Due r (for_simple k) s N (a_name w p ∷ a_sign sign_left_bracket b ∷ a_sign m q ∷ o)) n
    sign_right_bracket d _ _ o (λ l. behind class_array (local_open (bare h) l))
    (bracket_index r p w b N s (a_sign n q) o d)
name_bracket_stands r p w b N s (a_name n q) o (first_due h d) = bracket_index r p w b N s (a_name n q) o d
name_bracket_stands r p w b N s (a_word n q) o (first_due h d) = bracket_index r p w b N s (a_word n q) o d
name_bracket_stands r p w b N s (a_number n q) o (first_due h d) = bracket_index r p w b N s (a_number n q) o d
name_bracket_stands r p w b N s (a_text n q) o (first_due h d) = bracket_index r p w b N s (a_text n q) o d
name_bracket_stands r p w b N s (the_end q) o (first_due h d) = bracket_index r p w b N s (the_end q) o d

local_type_of : {flags : Option ℕ} {t : ℕ} {M N : List Node} {j o : List Lexeme} →
    LocalTyped in_statement flags t M j N o → LocalTypeRead M j N o flags t
local_type_of (local_typed (bare h) d) = plain_local d
local_type_of (local_typed (flagged h f) d) = flagged_local h f d

local_ended_stands : (r : Source) (flags : Option ℕ) (t : ℕ) (p : Position) (w : List ℕ) (q : Position) (N : List Node)
    (s : List Entry) (o : List Lexeme) {k : Place} {M : List Node} {j : List Lexeme} →
    LocalTyped k flags t M j N (a_name w p ∷ a_sign sign_semicolon q ∷ o) → Due r (for_simple k) s M j →
    Leads r (local_ended flags t p w N s) o
unfolding machine Leads Stands
local_ended_stands r flags t p w q N s o l (simple_open d) = statement_done (local (local_type_of l)) d
local_ended_stands r flags t p w q N s o l (for_head d) = tt
local_ended_stands r flags t p w q N s o l (for_step f c d) = tt

local_opened : (r : Source) {flags : Option ℕ} {t : ℕ} {p q : Position} {w : List ℕ} {k : Place} {s : List Entry}
    {M N : List Node} {j o : List Lexeme} → LocalTyped k flags t M j N (a_name w p ∷ a_sign sign_assign q ∷ o) →
    Due r (for_simple k) s M j → Due r for_operand (LocalValue q p w flags t ∷ s) N o
local_opened r (local_typed l x) d = local_value l x d

pub local_named_stands : (r : Source) (flags : Option ℕ) (t : ℕ) (p : Position) (w : List ℕ) (N : List Node) (s : List Entry)
    (x : Lexeme) (o : List Lexeme) → Stands r (LocalNamed flags t p w) s N (x ∷ o) →
    Leads r (local_named_step flags t p w N s x) o
unfolding machine Leads Stands
local_named_stands r flags t p w N s (a_sign n q) o (local_named_so {k = k} {M = M} {i = j} l d) =
    on_number r (λ m. LocalTyped k flags t M j N (a_name w p ∷ a_sign m q ∷ o)) n sign_assign l _ _ o
    (λ u. local_opened r u d)
    (on_number r (λ m. LocalTyped k flags t M j N (a_name w p ∷ a_sign m q ∷ o)) n sign_semicolon l _ _ o
    (λ u. local_ended_stands r flags t p w q N s o u d) tt)
local_named_stands r flags t p w N s _ o h = tt

-- ---- where a statement is due

pub if_open_stands : (r : Source) (p : Position) (N : List Node) (s : List Entry) (t : Lexeme) (o : List Lexeme) →
    Stands r (IfOpen p) s N (t ∷ o) → Leads r (test_open_step Operand (IfTest p) N s t) o
unfolding machine Leads Stands
if_open_stands r p N s (a_sign n q) o d =
    on_number r (λ m. Due r for_statement s N (a_word word_if p ∷ a_sign m q ∷ o)) n sign_left_parenthesis d _ _ o
    (λ k. if_test k) tt
if_open_stands r p N s _ o d = tt

pub while_open_stands : (r : Source) (p : Position) (N : List Node) (s : List Entry) (t : Lexeme) (o : List Lexeme) →
    Stands r (WhileOpen p) s N (t ∷ o) → Leads r (test_open_step Operand (WhileTest p) N s t) o
unfolding machine Leads Stands
while_open_stands r p N s (a_sign n q) o d =
    on_number r (λ m. Due r for_statement s N (a_word word_while p ∷ a_sign m q ∷ o)) n sign_left_parenthesis d _ _ o
    (λ k. while_test k) tt
while_open_stands r p N s _ o d = tt

pub for_open_stands : (r : Source) (p : Position) (N : List Node) (s : List Entry) (t : Lexeme) (o : List Lexeme) →
    Stands r (ForOpen p) s N (t ∷ o) → Leads r (test_open_step ForFirst (ForHead p) N s t) o
unfolding machine Leads Stands
for_open_stands r p N s (a_sign n q) o d =
    on_number r (λ m. Due r for_statement s N (a_word word_for p ∷ a_sign m q ∷ o)) n sign_left_parenthesis d _ _ o
    (λ k. first_due first_takes (for_head k)) tt
for_open_stands r p N s _ o d = tt

pub return_stands : (r : Source) (p : Position) (N : List Node) (s : List Entry) (t : Lexeme) (o : List Lexeme) →
    Stands r (ReturnStart p) s N (t ∷ o) → Leads r (return_step p N s t) o
unfolding machine Leads Stands
return_stands r p N s (a_sign n q) o d =
    on_number r (λ m. Due r for_statement s N (a_word word_return p ∷ a_sign m q ∷ o)) n sign_semicolon d _ _ o
    (λ k. statement_done return_alone k) (operand_start_stands r N _ (a_sign n q) o (return_open d))
return_stands r p N s (a_name n q) o d = operand_start_stands r N _ (a_name n q) o (return_open d)
return_stands r p N s (a_word n q) o d = operand_start_stands r N _ (a_word n q) o (return_open d)
return_stands r p N s (a_number n q) o d = operand_start_stands r N _ (a_number n q) o (return_open d)
return_stands r p N s (a_text n q) o d = operand_start_stands r N _ (a_text n q) o (return_open d)
return_stands r p N s (the_end q) o d = operand_start_stands r N _ (the_end q) o (return_open d)

statement_word_stands : (r : Source) (n : ℕ) (p : Position) (N : List Node) (s : List Entry) (o : List Lexeme) →
    Due r for_statement s N (a_word n p ∷ o) → Leads r (statement_word n p N s) o
unfolding machine Leads Stands
statement_word_stands r n p N s o d =
    on_number r (λ m. Due r for_statement s N (a_word m p ∷ o)) n word_if d _ _ o (λ k. k)
    (on_number r (λ m. Due r for_statement s N (a_word m p ∷ o)) n word_while d _ _ o (λ k. k)
    (on_number r (λ m. Due r for_statement s N (a_word m p ∷ o)) n word_for d _ _ o (λ k. k)
    (on_number r (λ m. Due r for_statement s N (a_word m p ∷ o)) n word_return d _ _ o (λ k. k)
    (leads_if r (n == word_final) _ _ o
    (λ e. flags_step_stands r true no_flags N (Simple ∷ s) (a_word n p) o no_flag (on_local e (simple_open d)))
    (λ e. first_start_stands r N (Simple ∷ s) (a_word n p) o (first_due statement_takes (simple_open d)))))))

statement_sign_stands : (r : Source) (n : ℕ) (p : Position) (N : List Node) (s : List Entry) (o : List Lexeme) →
    Due r for_statement s N (a_sign n p ∷ o) → Leads r (statement_sign n p N s) o
unfolding machine Leads Stands
statement_sign_stands r n p N s o d =
    on_number r (λ m. Due r for_statement s N (a_sign m p ∷ o)) n sign_left_brace d _ _ o
    (λ k. block_open no_statement k)
    (on_number r (λ m. Due r for_statement s N (a_sign m p ∷ o)) n sign_semicolon d _ _ o (λ k. statement_done empty k)
    (leads_if r (n == sign_at) _ _ o
    (λ e. flags_step_stands r true no_flags N (Simple ∷ s) (a_sign n p) o no_flag (on_local e (simple_open d)))
    (λ e. first_start_stands r N (Simple ∷ s) (a_sign n p) o (first_due statement_takes (simple_open d)))))

pub statement_start_stands : (r : Source) (N : List Node) (s : List Entry) (t : Lexeme) (o : List Lexeme) →
    Due r for_statement s N (t ∷ o) → Leads r (statement_start N s t) o
unfolding statement_start
statement_start_stands r N s (a_word n p) o d = statement_word_stands r n p N s o d
statement_start_stands r N s (a_sign n p) o d = statement_sign_stands r n p N s o d
statement_start_stands r N s (a_name n p) o d =
    first_start_stands r N (Simple ∷ s) (a_name n p) o (first_due statement_takes (simple_open d))
statement_start_stands r N s (a_number n p) o d =
    first_start_stands r N (Simple ∷ s) (a_number n p) o (first_due statement_takes (simple_open d))
statement_start_stands r N s (a_text n p) o d =
    first_start_stands r N (Simple ∷ s) (a_text n p) o (first_due statement_takes (simple_open d))
statement_start_stands r N s (the_end p) o d =
    first_start_stands r N (Simple ∷ s) (the_end p) o (first_due statement_takes (simple_open d))

block_ended_stands : (r : Source) (p : Position) (N : List Node) (s : List Entry) (o : List Lexeme) →
    Due r for_statement s N (a_sign sign_right_brace p ∷ o) → Leads r (block_ended N s) o
unfolding machine Leads Stands
block_ended_stands r p N s o (block_open b d) = statement_done (block b) d
block_ended_stands r p N s o (body_open b d) = body_done (block_read b) d
block_ended_stands r p N s o (if_then c d) = tt
block_ended_stands r p N s o (if_rest c v d) = tt
block_ended_stands r p N s o (while_rest c d) = tt
block_ended_stands r p N s o (for_rest f c u d) = tt

pub statements_stands : (r : Source) (N : List Node) (s : List Entry) (t : Lexeme) (o : List Lexeme) →
    Due r for_statement s N (t ∷ o) → Leads r (statements_step N s t) o
unfolding machine Leads Stands
statements_stands r N s (a_sign n p) o d =
    on_number r (λ m. Due r for_statement s N (a_sign m p ∷ o)) n sign_right_brace d _ _ o
    (λ k. block_ended_stands r p N s o k) (statement_start_stands r N s (a_sign n p) o d)
statements_stands r N s (a_name n p) o d = statement_start_stands r N s (a_name n p) o d
statements_stands r N s (a_word n p) o d = statement_start_stands r N s (a_word n p) o d
statements_stands r N s (a_number n p) o d = statement_start_stands r N s (a_number n p) o d
statements_stands r N s (a_text n p) o d = statement_start_stands r N s (a_text n p) o d
statements_stands r N s (the_end p) o d = statement_start_stands r N s (the_end p) o d

-- ---- members

pub member_read_stands : (r : Source) (id : ℕ) (N : List Node) (s : List Entry) (o : List Lexeme) {M : List Node}
    {j : List Lexeme} → MemberRead M j N o id → Due r for_member s M j → Leads r (member_read id N s) o
unfolding machine Leads Stands
member_read_stands r id N s o v (class_body g h m d) = class_body g h (one_member_more m v) d

field_of_given : {flags : Option ℕ} {t : ℕ} {p q : Position} {w : List ℕ} {M N : List Node} {j o : List Lexeme} →
    TypeGiven flags t M j N (a_name w p ∷ a_sign sign_semicolon q ∷ o) →
    MemberRead M j (put N (Field p w flags t None None)) o (length N)
field_of_given (type_given (given f) x) = field f x

valued_field : {flags : Option ℕ} {t v : ℕ} {p q x : Position} {w : List ℕ} {M N N1 N2 : List Node}
    {j i i1 o : List Lexeme} → FlagsGiven flags M j N i → TypeRead N i N1 (a_name w p ∷ a_sign sign_assign q ∷ i1) t →
    LiteralRead N1 i1 N2 (a_sign sign_semicolon x ∷ o) v →
    MemberRead M j (put N2 (Field p w flags t (Some q) (Some v))) o (length N2)
valued_field (given f) d v = field_with_value f d v

field_begun : (r : Source) {flags : Option ℕ} {t : ℕ} {p q : Position} {w : List ℕ} {s : List Entry} {M N : List Node}
    {j o : List Lexeme} → TypeGiven flags t M j N (a_name w p ∷ a_sign sign_assign q ∷ o) → Due r for_member s M j →
    Due r for_literal (FieldOpen flags t p w q ∷ s) N o
field_begun r (type_given g x) d = field_open g x d

method_begun : (r : Source) {flags : Option ℕ} {t : ℕ} {p : Position} {w : List ℕ} {s : List Entry} {M N : List Node}
    {j o : List Lexeme} → TypeGiven flags t M j N (a_name w p ∷ o) → Due r for_member s M j →
    Due r for_parameters (MethodOpen flags t p w ∷ s) N o
method_begun r (type_given g x) d = method_open g (typed_result x) d

pub member_named_stands : (r : Source) (flags : Option ℕ) (t : ℕ) (p : Position) (w : List ℕ) (N : List Node)
    (s : List Entry) (x : Lexeme) (o : List Lexeme) → Stands r (MemberNamed flags t p w) s N (x ∷ o) →
    Leads r (member_named_step flags t p w N s x) o
unfolding machine Leads Stands
member_named_stands r flags t p w N s (a_sign n q) o (behind {N = M} {i = j} g d) =
    on_number r (λ m. TypeGiven flags t M j N (a_name w p ∷ a_sign m q ∷ o)) n sign_semicolon g _ _ o
    (λ k. member_read_stands r _ _ s o (field_of_given k) d)
    (on_number r (λ m. TypeGiven flags t M j N (a_name w p ∷ a_sign m q ∷ o)) n sign_assign g _ _ o
    (λ k. field_begun r k d)
    (on_number r (λ m. TypeGiven flags t M j N (a_name w p ∷ a_sign m q ∷ o)) n sign_left_parenthesis g _ _ o
    (λ k. method_begun r k d) tt))
member_named_stands r flags t p w N s _ o h = tt

pub literal_stands : (r : Source) (N : List Node) (s : List Entry) (t : Lexeme) (o : List Lexeme) →
    Stands r LiteralStart s N (t ∷ o) → Leads r (literal_step N s t) o
unfolding machine Leads Stands
literal_stands r N s (a_word n p) o d =
    on_number r (λ m. Due r for_literal s N (a_word m p ∷ o)) n word_true d _ _ o (λ k. behind true_literal k)
    (on_number r (λ m. Due r for_literal s N (a_word m p ∷ o)) n word_false d _ _ o (λ k. behind false_literal k)
    (on_number r (λ m. Due r for_literal s N (a_word m p ∷ o)) n word_null d _ _ o (λ k. behind null_literal k) tt))
literal_stands r N s (a_number n p) o d = leads_if r (is_minimum n) _ _ o (λ e. tt) (λ e. behind (number_literal e) d)
literal_stands r N s (a_sign n p) o d = on_number r (λ m. Due r for_literal s N (a_sign m p ∷ o)) n sign_minus d _ _ o
    (λ k. k) tt
literal_stands r N s _ o d = tt

pub literal_minus_stands : (r : Source) (p : Position) (N : List Node) (s : List Entry) (t : Lexeme) (o : List Lexeme) →
    Stands r (LiteralMinus p) s N (t ∷ o) → Leads r (literal_minus_step p N s t) o
unfolding machine Leads Stands
literal_minus_stands r p N s (a_number n q) o d = behind negative_literal d
literal_minus_stands r p N s _ o d = tt

field_ended_stands : (r : Source) (id : ℕ) (x : Position) (N : List Node) (s : List Entry) (o : List Lexeme) {M : List Node}
    {j : List Lexeme} → LiteralRead M j N (a_sign sign_semicolon x ∷ o) id → Due r for_literal s M j →
    Leads r (field_ended id N s) o
unfolding machine Leads Stands
field_ended_stands r id x N s o v (field_open g t d) = member_read_stands r _ _ _ o (valued_field g t v) d

pub literal_end_stands : (r : Source) (id : ℕ) (N : List Node) (s : List Entry) (t : Lexeme) (o : List Lexeme) →
    Stands r (LiteralDone id) s N (t ∷ o) → Leads r (literal_end_step id N s t) o
unfolding machine Leads Stands
literal_end_stands r id N s (a_sign n x) o (behind {N = M} {i = j} v d) =
    on_number r (λ m. LiteralRead M j N (a_sign m x ∷ o) id) n sign_semicolon v _ _ o
    (λ k. field_ended_stands r id x N s o k d) tt
literal_end_stands r id N s _ o h = tt

pub result_stands : (r : Source) (flags : Option ℕ) (t : ℕ) (N : List Node) (s : List Entry) (x : Lexeme)
    (o : List Lexeme) → Stands r (ResultDone flags t) s N (x ∷ o) → Leads r (result_step flags t N s x) o
unfolding machine Leads Stands
result_stands r flags t N s (a_name w p) o h = h
result_stands r flags t N s _ o h = tt

result_begun : (r : Source) {flags : Option ℕ} {t : ℕ} {p : Position} {w : List ℕ} {s : List Entry} {M N : List Node}
    {j o : List Lexeme} → ResultGiven flags t M j N (a_name w p ∷ o) → Due r for_member s M j →
    Due r for_parameters (MethodOpen flags t p w ∷ s) N o
result_begun r (result_given g x) d = method_open g x d

pub method_named_stands : (r : Source) (flags : Option ℕ) (t : ℕ) (p : Position) (w : List ℕ) (N : List Node)
    (s : List Entry) (x : Lexeme) (o : List Lexeme) → Stands r (MethodNamed flags t p w) s N (x ∷ o) →
    Leads r (method_named_step flags t p w N s x) o
unfolding machine Leads Stands
method_named_stands r flags t p w N s (a_sign n q) o (behind {N = M} {i = j} g d) =
    on_number r (λ m. ResultGiven flags t M j N (a_name w p ∷ a_sign m q ∷ o)) n sign_left_parenthesis g _ _ o
    (λ k. result_begun r k d) tt
method_named_stands r flags t p w N s _ o h = tt

pub parameters_first_stands : (r : Source) (p : Position) (N : List Node) (s : List Entry) (t : Lexeme) (o : List Lexeme) →
    Stands r (ParametersFirst p) s N (t ∷ o) → Leads r (parameters_first_step p N s t) o
unfolding machine Leads Stands
parameters_first_stands r p N s (a_sign n q) o d =
    on_number r (λ m. Due r for_parameters s N (a_sign sign_left_parenthesis p ∷ a_sign m q ∷ o)) n
    sign_right_parenthesis d _ _ o (λ k. behind no_parameters k)
    (flags_step_stands r false no_flags N _ (a_sign n q) o no_flag (on_parameter (parameters_open no_parameter_yet d)))
parameters_first_stands r p N s (a_name n q) o d =
    flags_step_stands r false no_flags N _ (a_name n q) o no_flag (on_parameter (parameters_open no_parameter_yet d))
parameters_first_stands r p N s (a_word n q) o d =
    flags_step_stands r false no_flags N _ (a_word n q) o no_flag (on_parameter (parameters_open no_parameter_yet d))
parameters_first_stands r p N s (a_number n q) o d =
    flags_step_stands r false no_flags N _ (a_number n q) o no_flag (on_parameter (parameters_open no_parameter_yet d))
parameters_first_stands r p N s (a_text n q) o d =
    flags_step_stands r false no_flags N _ (a_text n q) o no_flag (on_parameter (parameters_open no_parameter_yet d))
parameters_first_stands r p N s (the_end q) o d =
    flags_step_stands r false no_flags N _ (the_end q) o no_flag (on_parameter (parameters_open no_parameter_yet d))

parameter_ended_stands : (r : Source) (id : ℕ) (N : List Node) (s : List Entry) (n : ℕ) (x : Position)
    (o : List Lexeme) {M : List Node} {j : List Lexeme} → ParameterRead M j N (a_sign n x ∷ o) id →
    Due r for_parameter s M j → Leads r (parameter_ended id N s n) o
unfolding machine Leads Stands
parameter_ended_stands r id N s n x o {M} {j} v (parameters_open ps d) =
    on_number r (λ m. ParameterRead M j N (a_sign m x ∷ o) id) n sign_comma v _ _ o
    (λ k. behind no_flag (on_parameter (parameters_open (parameter_and_comma ps k) d)))
    (on_number r (λ m. ParameterRead M j N (a_sign m x ∷ o) id) n sign_right_parenthesis v _ _ o
    (λ k. behind (parameters ps k) d) tt)

pub parameter_end_stands : (r : Source) (id : ℕ) (N : List Node) (s : List Entry) (t : Lexeme) (o : List Lexeme) →
    Stands r (ParameterDone id) s N (t ∷ o) → Leads r (parameter_end_step id N s t) o
unfolding machine Leads Stands
parameter_end_stands r id N s (a_sign n x) o (behind v d) = parameter_ended_stands r id N s n x o v d
parameter_end_stands r id N s _ o h = tt

bare_method_of : {flags ps : Option ℕ} {t : ℕ} {p q : Position} {w : List ℕ} {M N N1 N2 : List Node}
    {j i i1 o : List Lexeme} → FlagsGiven flags M j N i → ResultRead N i N1 (a_name w p ∷ i1) t →
    ParametersRead N1 i1 N2 (a_sign sign_semicolon q ∷ o) ps → MemberRead M j (put N2 (Method p w flags t ps None)) o
    (length N2)
bare_method_of (given f) d v = bare_method f d v

body_stands : (r : Source) (ps : Option ℕ) (N : List Node) (s : List Entry) (n : ℕ) (q : Position)
    (o : List Lexeme) {M : List Node} {j : List Lexeme} → ParametersRead M j N (a_sign n q ∷ o) ps →
    Due r for_parameters s M j → Leads r (body_step ps N s n q) o
unfolding machine Leads Stands
body_stands r ps N s n q o {M} {j} v (method_open g x d) =
    on_number r (λ m. ParametersRead M j N (a_sign m q ∷ o) ps) n sign_left_brace v _ _ o
    (λ k. body_open no_statement (method_body g x k d))
    (on_number r (λ m. ParametersRead M j N (a_sign m q ∷ o) ps) n sign_semicolon v _ _ o
    (λ k. member_read_stands r _ _ _ o (bare_method_of g x k) d) tt)
body_stands r ps N s n q o {M} {j} v (constructor_open g d) =
    on_number r (λ m. ParametersRead M j N (a_sign m q ∷ o) ps) n sign_left_brace v _ _ o
    (λ k. constructor_due (constructor_body g k d)) tt

pub parameters_end_stands : (r : Source) (ps : Option ℕ) (N : List Node) (s : List Entry) (t : Lexeme)
    (o : List Lexeme) → Stands r (ParametersDone ps) s N (t ∷ o) → Leads r (parameters_end_step ps N s t) o
unfolding machine Leads Stands
parameters_end_stands r ps N s (a_sign n q) o (behind v d) = body_stands r ps N s n q o v d
parameters_end_stands r ps N s _ o h = tt

pub constructor_start_stands : (r : Source) (b : Position) (N : List Node) (s : List Entry) (t : Lexeme) (o : List Lexeme) →
    Stands r (ConstructorStart b) s N (t ∷ o) → Leads r (constructor_start_step b N s t) o
unfolding machine Leads Stands
constructor_start_stands r b N s (a_word n p) o h =
    on_number r (λ m. ConstructorDue r b s N (a_word m p ∷ o)) n word_super h _ _ o (λ k. k)
    (statements_stands r N _ (a_word n p) o (body_of r h))
  where
    body_of : (r : Source) {s : List Entry} {N : List Node} {i : List Lexeme} → ConstructorDue r b s N i →
        Due r for_statement (BlockOpen b [] ∷ s) N i
    body_of r (constructor_due d) = body_open no_statement d
constructor_start_stands r b N s (a_name n p) o (constructor_due d) =
    statements_stands r N _ (a_name n p) o (body_open no_statement d)
constructor_start_stands r b N s (a_number n p) o (constructor_due d) =
    statements_stands r N _ (a_number n p) o (body_open no_statement d)
constructor_start_stands r b N s (a_text n p) o (constructor_due d) =
    statements_stands r N _ (a_text n p) o (body_open no_statement d)
constructor_start_stands r b N s (a_sign n p) o (constructor_due d) =
    statements_stands r N _ (a_sign n p) o (body_open no_statement d)
constructor_start_stands r b N s (the_end p) o (constructor_due d) =
    statements_stands r N _ (the_end p) o (body_open no_statement d)

super_begun : (r : Source) {b p q : Position} {s : List Entry} {N : List Node} {o : List Lexeme} →
    ConstructorDue r b s N (a_word word_super p ∷ a_sign sign_left_parenthesis q ∷ o) →
    FirstArgument r (ArgumentsOpen [] ∷ SuperCallOpen b p ∷ s) N o
super_begun r (constructor_due d) = first_argument (super_call_open d)

pub super_open_stands : (r : Source) (b p : Position) (N : List Node) (s : List Entry) (t : Lexeme) (o : List Lexeme) →
    Stands r (SuperOpen b p) s N (t ∷ o) → Leads r (super_open_step b p N s t) o
unfolding machine Leads Stands
super_open_stands r b p N s (a_sign n q) o h =
    on_number r (λ m. ConstructorDue r b s N (a_word word_super p ∷ a_sign m q ∷ o)) n sign_left_parenthesis h _ _ o
    (λ k. super_begun r k) tt
super_open_stands r b p N s _ o h = tt

pub super_end_stands : (r : Source) (b : Position) (N : List Node) (s : List Entry) (t : Lexeme) (o : List Lexeme) →
    Stands r (SuperEnd b) s N (t ∷ o) → Leads r (super_end_step b N s t) o
unfolding machine Leads Stands
super_end_stands r b N s (a_sign n q) o h =
    on_number r (λ m. SuperEnds r b s N (a_sign m q ∷ o)) n sign_semicolon h _ _ o
    (λ k. body_open no_statement (k q o refl)) tt
super_end_stands r b N s _ o h = tt

-- ---- classes

class_of : {flags header : Option ℕ} {ids : List ℕ} {p q x : Position} {w : List ℕ} {M N N1 N2 : List Node}
    {j i i1 o : List Lexeme} → FlagsGiven flags M j N (a_word word_class q ∷ a_name w p ∷ i) →
    HeaderRead N i N1 i1 header → MembersRead N1 i1 N2 (a_sign sign_right_brace x ∷ o) ids →
    ClassRead M j (put N2 (Class p w flags header ids)) o (length N2)
class_of (given f) h m = class f h m

class_ended_stands : (r : Source) (x : Position) (N : List Node) (s : List Entry) (o : List Lexeme) →
    Due r for_member s N (a_sign sign_right_brace x ∷ o) → Leads r (class_ended N s) o
unfolding machine Leads Stands
class_ended_stands r x N s o (class_body g h m (file_open c d)) = file_open (one_class_more c (class_of g h m)) d

pub members_stands : (r : Source) (N : List Node) (s : List Entry) (t : Lexeme) (o : List Lexeme) →
    Due r for_member s N (t ∷ o) → Leads r (members_step N s t) o
unfolding machine Leads Stands
members_stands r N s (a_sign n p) o d =
    on_number r (λ m. Due r for_member s N (a_sign m p ∷ o)) n sign_right_brace d _ _ o
    (λ k. class_ended_stands r p N s o k) (flags_step_stands r false no_flags N s (a_sign n p) o no_flag (on_member d))
members_stands r N s (a_name n p) o d = flags_step_stands r false no_flags N s (a_name n p) o no_flag (on_member d)
members_stands r N s (a_word n p) o d = flags_step_stands r false no_flags N s (a_word n p) o no_flag (on_member d)
members_stands r N s (a_number n p) o d = flags_step_stands r false no_flags N s (a_number n p) o no_flag (on_member d)
members_stands r N s (a_text n p) o d = flags_step_stands r false no_flags N s (a_text n p) o no_flag (on_member d)
members_stands r N s (the_end p) o d = flags_step_stands r false no_flags N s (the_end p) o no_flag (on_member d)

-- ---- behind a statement

member_ended_stands : (r : Source) (id : ℕ) (N : List Node) (s : List Entry) (t : Lexeme)
    (o : List Lexeme) {M : List Node} {j : List Lexeme} → MemberRead M j N (t ∷ o) id → Due r for_member s M j →
    Leads r (member_ended id N s t) o
unfolding member_ended
member_ended_stands r id N s t o v (class_body g h m d) =
    members_stands r N _ t o (class_body g h (one_member_more m v) d)

method_of : {flags ps : Option ℕ} {t id : ℕ} {p b : Position} {w : List ℕ} {M N N1 N2 N3 : List Node}
    {j i i1 i2 o : List Lexeme} → FlagsGiven flags M j N i → ResultRead N i N1 (a_name w p ∷ i1) t →
    ParametersRead N1 i1 N2 (a_sign sign_left_brace b ∷ i2) ps → BlockRead b N2 i2 N3 o id →
    MemberRead M j (put N3 (Method p w flags t ps (Some id))) o (length N3)
method_of (given f) d v (block_read s) = method f d v s

constructor_of : {flags ps : Option ℕ} {id : ℕ} {p b : Position} {w : List ℕ} {M N N1 N2 : List Node}
    {j i i1 o : List Lexeme} → FlagsGiven flags M j N (a_name w p ∷ i) →
    ParametersRead N i N1 (a_sign sign_left_brace b ∷ i1) ps → BlockRead b N1 i1 N2 o id →
    MemberRead M j (put N2 (Constructor p w flags ps None id)) o (length N2)
constructor_of (given f) v (block_read s) = constructor f v s

super_constructor_of : {flags ps : Option ℕ} {arguments : List ℕ} {id : ℕ} {p b x u y : Position} {w : List ℕ}
    {M N N1 N2 N3 : List Node} {j i i1 i2 o : List Lexeme} → FlagsGiven flags M j N (a_name w p ∷ i) →
    ParametersRead N i N1 (a_sign sign_left_brace b ∷ a_word word_super x ∷ a_sign sign_left_parenthesis u ∷ i1) ps →
    ArgumentsRead N1 i1 N2 (a_sign sign_semicolon y ∷ i2) arguments →
    BlockRead b (put N2 (SuperCall x arguments)) i2 N3 o id →
    MemberRead M j (put N3 (Constructor p w flags ps (Some (length N2)) id)) o (length N3)
super_constructor_of (given f) v a (block_read s) = constructor_with_super f v a s

body_done_stands : (r : Source) (id : ℕ) (N : List Node) (s : List Entry) (t : Lexeme)
    (o : List Lexeme) {b : Position} {M : List Node} {j : List Lexeme} → BlockRead b M j N (t ∷ o) id →
    Due r (for_body b) s M j → Leads r (statement_ended id N s t) o
unfolding statement_ended
body_done_stands r id N s t o v (method_body g x ps d) = member_ended_stands r _ _ _ t o (method_of g x ps v) d
body_done_stands r id N s t o v (constructor_body g ps d) = member_ended_stands r _ _ _ t o (constructor_of g ps v) d
body_done_stands r id N s t o v (super_body g ps a d) =
    member_ended_stands r _ _ _ t o (super_constructor_of g ps a v) d

not_else : (t : Lexeme) (o : List Lexeme) → is_else t ≡ false → begins_with_word word_else (t ∷ o) ≡ false
unfolding is_else begins_with_word
not_else (a_word n p) o e = e
not_else _ o e = refl

else_begun : (r : Source) {p q x : Position} {c id : ℕ} {s : List Entry} {L M N : List Node} {i j o : List Lexeme}
    (t : Lexeme) → is_else t ≡ true → Level 1 L i M (a_sign sign_right_parenthesis x ∷ j) c →
    StatementRead M j N (t ∷ o) id → Due r for_statement s L (a_word word_if p ∷ a_sign sign_left_parenthesis q ∷ i) →
    Due r for_statement (IfElse p c id ∷ s) N o
unfolding is_else
else_begun r {id = id} {M = M} {N = N} {j = j} {o = o} (a_word n y) e c v d =
    if_rest c (subst (λ m. StatementRead M j N (a_word m y ∷ o) id) (eqb-true n word_else e) v) d
else_begun r _ e c v d = absurd (true≢false (sym e))

for_of : {p q x : Position} {first c u s : ℕ} {L M N N1 N2 : List Node} {i i1 i2 i3 o : List Lexeme} →
    ForFirstRead p first L i M i1 → Level 1 M i1 N (a_sign sign_semicolon q ∷ i2) c →
    AssignmentRead N i2 N1 (a_sign sign_right_parenthesis x ∷ i3) u → StatementRead N1 i3 N2 o s →
    StatementRead L i (put N2 (For p first c u s)) o (length N2)
for_of (first_local t e) c u s = for_local t e c u s
for_of (first_assignment f) c u s = for_assignment f c u s

pub statement_done_stands : (r : Source) (id : ℕ) (N : List Node) (s : List Entry) (t : Lexeme)
    (o : List Lexeme) {M : List Node} {j : List Lexeme} → StatementRead M j N (t ∷ o) id → Due r for_statement s M j →
    Leads r (statement_ended id N s t) o
unfolding machine Leads Stands
statement_done_stands r id N s t o v (block_open b d) =
    statements_stands r N _ t o (block_open (one_statement_more b v) d)
statement_done_stands r id N s t o v (body_open b d) =
    statements_stands r N _ t o (body_open (one_statement_more b v) d)
statement_done_stands r id N s t o v (if_then c d) =
    leads_if r (is_else t) _ _ o (λ e. else_begun r t e c v d)
    (λ e. statement_done_stands r _ _ _ t o (if_alone c v (not_else t o e)) d)
statement_done_stands r id N s t o v (if_rest c a d) = statement_done_stands r _ _ _ t o (if_else c a v) d
statement_done_stands r id N s t o v (while_rest c d) = statement_done_stands r _ _ _ t o (while_statement c v) d
statement_done_stands r id N s t o v (for_rest f c u d) = statement_done_stands r _ _ _ t o (for_of f c u v) d

pub statement_ended_stands : (r : Source) (id : ℕ) (N : List Node) (s : List Entry) (t : Lexeme) (o : List Lexeme) →
    Stands r (StatementEnd id) s N (t ∷ o) → Leads r (statement_ended id N s t) o
unfolding Stands
statement_ended_stands r id N s t o (statement_done v d) = statement_done_stands r id N s t o v d
statement_ended_stands r id N s t o (body_done v d) = body_done_stands r id N s t o v d
