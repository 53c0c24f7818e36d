-- The machine runs statements, second part: locals and statements in a row.
use Rattle.std.proofs.Common.{refl, ◌∙◌}
use Rattle.std.specs.Prelude.{Bool, List, None, Option, Some, [], false, length, not, true, ℕ, ◌++◌, ◌==◌, ◌∷◌, ◌≡◌}
use Rattle.machine_laws.proofs.Begins.{begins_operand, calls_on, continues, differs, ends, follows, level_begins, never, not_false, not_true}
use Rattle.machine_laws.proofs.ExpressionsRun.{level_run, opens_at, post_run}
use Rattle.machine_laws.proofs.HeadersRun.{flags_run, local_type, type_opens, type_run}
use Rattle.machine_laws.proofs.StatementsRun.{assignment_begins, assignment_no_local, assignment_run, begins_target, first_target_run, is_target_start, name_goes_on, post_no_local, statement_target_run, step_target_run, target_begins}
use Rattle.machine_laws.proofs.Tools.{fails, holds, machine, next}
use Rattle.parser_machine.specs.Blocks.{first_start}
use Rattle.parser_machine.specs.Declarations.{typed}
use Rattle.parser_machine.specs.Machine.{answer}
use Rattle.parser_machine.specs.Operands.{is_operand_start}
use Rattle.parser_machine.specs.States.{at}
use Rattle.parser_machine.specs.declared.entries.Entry.{Entry}
use Rattle.parser_machine.specs.declared.entries.Entry.TheVariants.{BlockOpen, ForBody, ForHead, ForStep, ForTest, IfElse, IfTest, IfThen, LocalOpen, LocalValue, ReturnValue, Simple, Target, WhileBody, WhileTest}
use Rattle.parser_machine.specs.declared.modes.Mode.TheVariants.{FlagsRead, ForStepStart, InStatements, LocalNamed, Operand, ReturnStart, StatementEnd, StatementStart}
use Rattle.scj_base.specs.Vocabulary.{sign_at, sign_greater, sign_left_brace, sign_left_bracket, sign_left_parenthesis, sign_right_brace, sign_right_bracket, sign_right_parenthesis, sign_semicolon, word_else, word_final, word_for, word_if, word_return, word_super, word_while}
use Rattle.scj_base.specs.declared.positions.Position.{Position}
use Rattle.scj_tree.specs.Expressions.{PostRead}
use Rattle.scj_tree.specs.Headers.{TypeRead, argument_array, argument_type, boolean_array, boolean_type, class_array, class_type, int_array, int_type}
use Rattle.scj_tree.specs.Nodes.{put}
use Rattle.scj_tree.specs.Lexemes.{Lexeme, a_name, a_number, a_sign, a_text, a_word, the_end}
use Rattle.scj_tree.specs.Statements.{AssignmentRead, LocalTypeRead, StatementRead, StatementsRead, assign_statement, block, call_statement, empty, flagged_local, for_assignment, for_local, if_alone, if_else, local, local_with_value, no_statement, one_statement_more, plain_local, return_alone, return_value, while_statement}
use Rattle.scj_tree.specs.Terminals.{begins_local_flags, begins_with_word, is_unary1_start, no_flags}
use Rattle.scj_tree.specs.declared.nodes.Node.{Node}
use Rattle.scj_tree.specs.declared.nodes.Node.TheVariants.{ExpressionStatement, For, If, While}
use Rattle.scj_tree.specs.declared.parsed_parts.PostKind.TheVariants.{Invocation}

-- ---- locals

pub first_type : {N N1 : List Node} {i o : List Lexeme} {t : ℕ} {w : List ℕ} {p : Position} →
    TypeRead N i N1 (a_name w p ∷ o) t → (s : List Entry) →
    next (first_start N s) i ≡ answer (at (LocalNamed None t p w) s N1) o
unfolding machine
first_type int_type s = refl
first_type int_array s = refl
first_type boolean_type s = refl
first_type boolean_array s = refl
first_type class_type s = refl
first_type class_array s = refl
first_type {o = o} {w = x} {p = y} (argument_type {v = v} {r = r} {s = u} e) s =
    holds _ _ _ (a_name v r ∷ a_sign sign_greater u ∷ a_name x y ∷ o) e
first_type {o = o} {w = x} {p = y} (argument_array {v = v} {r = r} {s = u} {x = a} {y = b} e) s =
    holds _ _ _ (a_name v r ∷ a_sign sign_greater u ∷ a_sign sign_left_bracket a ∷ a_sign sign_right_bracket b
    ∷ a_name x y ∷ o) e

statement_type : {N N1 : List Node} {i o : List Lexeme} {t : ℕ} → TypeRead N i N1 o t → (s : List Entry) →
    answer (at StatementStart s N) i ≡ next (first_start N (Simple ∷ s)) i
unfolding machine
statement_type int_type s = refl
statement_type int_array s = refl
statement_type boolean_type s = refl
statement_type boolean_array s = refl
statement_type class_type s = refl
statement_type class_array s = refl
statement_type (argument_type e) s = refl
statement_type (argument_array e) s = refl

local_flags_run : (N : List Node) (s : List Entry) (i : List Lexeme) → begins_local_flags i ≡ true →
    answer (at StatementStart s N) i ≡ answer (at (FlagsRead true no_flags) (Simple ∷ s) N) i
unfolding machine
local_flags_run N s [] e = refl
local_flags_run N s (a_name w p ∷ o) e = never e
local_flags_run N s (a_word n p ∷ o) e = fails _ _ _ o (d word_if refl)
    ∙ (fails _ _ _ o (d word_while refl)
    ∙ (fails _ _ _ o (d word_for refl) ∙ (fails _ _ _ o (d word_return refl) ∙ holds _ _ _ o e)))
  where
    d : (k : ℕ) → (k == word_final) ≡ false → (n == k) ≡ false
    d k = differs (λ m. m == word_final) n k e
local_flags_run N s (a_number n p ∷ o) e = never e
local_flags_run N s (a_text w p ∷ o) e = never e
local_flags_run N s (a_sign n p ∷ o) e = fails _ _ _ o (d sign_left_brace refl)
    ∙ (fails _ _ _ o (d sign_semicolon refl) ∙ holds _ _ _ o e)
  where
    d : (k : ℕ) → (k == sign_at) ≡ false → (n == k) ≡ false
    d k = differs (λ m. m == sign_at) n k e
local_flags_run N s (the_end p ∷ o) e = never e

typed_local : (t : ℕ) (N : List Node) (flags : Option ℕ) (s : List Entry) (w : List ℕ) (p : Position) (o : List Lexeme) →
    next (typed t N (LocalOpen flags ∷ s)) (a_name w p ∷ o) ≡ answer (at (LocalNamed flags t p w) s N) o
unfolding machine
typed_local t N flags s w p o = refl

local_type_run : {N N1 : List Node} {i o : List Lexeme} {flags : Option ℕ} {t : ℕ} {w : List ℕ} {p : Position} →
    LocalTypeRead N i N1 (a_name w p ∷ o) flags t → (s : List Entry) →
    answer (at StatementStart s N) i ≡ answer (at (LocalNamed flags t p w) (Simple ∷ s) N1) o
local_type_run (plain_local d) s = statement_type d s ∙ first_type d (Simple ∷ s)
local_type_run {N = N} {i = i} (flagged_local h f d) s = local_flags_run N s i h
    ∙ (flags_run f (Simple ∷ s) (type_opens d)
    ∙ (local_type d _ s _ ∙ (type_run d _ ∙ typed_local _ _ _ (Simple ∷ s) _ _ _)))

-- ---- single steps

-- the lexemes end no block and call no superclass's constructor
unfoldable pub begins_statement : List Lexeme → Bool
begins_statement (a_word n p ∷ o) = not (n == word_super)
begins_statement (a_sign n p ∷ o) = not (n == sign_right_brace)
begins_statement _ = true

target_is_statement : (i : List Lexeme) → begins_target i ≡ true → begins_statement i ≡ true
unfolding begins_target is_target_start is_unary1_start begins_statement
target_is_statement [] e = refl
target_is_statement (a_name w p ∷ o) e = refl
target_is_statement (a_word n p ∷ o) e = not_false _ (differs (λ m. is_unary1_start (a_word m p)) n word_super e refl)
target_is_statement (a_number n p ∷ o) e = refl
target_is_statement (a_text w p ∷ o) e = refl
target_is_statement (a_sign n p ∷ o) e =
    not_false _ (differs (λ m. m == sign_left_parenthesis) n sign_right_brace e refl)
target_is_statement (the_end p ∷ o) e = refl

flags_are_statement : (i : List Lexeme) → begins_local_flags i ≡ true → begins_statement i ≡ true
unfolding begins_local_flags begins_statement
flags_are_statement [] e = refl
flags_are_statement (a_name w p ∷ o) e = refl
flags_are_statement (a_word n p ∷ o) e = not_false _ (differs (λ m. m == word_final) n word_super e refl)
flags_are_statement (a_number n p ∷ o) e = refl
flags_are_statement (a_text w p ∷ o) e = refl
flags_are_statement (a_sign n p ∷ o) e = not_false _ (differs (λ m. m == sign_at) n sign_right_brace e refl)
flags_are_statement (the_end p ∷ o) e = refl

type_is_statement : {N N1 : List Node} {i o : List Lexeme} {t : ℕ} → TypeRead N i N1 o t → begins_statement i ≡ true
unfolding begins_statement
type_is_statement int_type = refl
type_is_statement int_array = refl
type_is_statement boolean_type = refl
type_is_statement boolean_array = refl
type_is_statement class_type = refl
type_is_statement class_array = refl
type_is_statement (argument_type e) = refl
type_is_statement (argument_array e) = refl

local_is_statement : {N N1 : List Node} {i o : List Lexeme} {flags : Option ℕ} {t : ℕ} →
    LocalTypeRead N i N1 o flags t → begins_statement i ≡ true
local_is_statement (plain_local d) = type_is_statement d
local_is_statement {i = i} (flagged_local h f d) = flags_are_statement i h

pub statement_begins : {N N1 : List Node} {i o : List Lexeme} {id : ℕ} → StatementRead N i N1 o id →
    begins_statement i ≡ true
unfolding begins_statement
statement_begins (block b) = refl
statement_begins empty = refl
statement_begins (local d) = local_is_statement d
statement_begins (local_with_value d v) = local_is_statement d
statement_begins {i = i} (assign_statement d) = target_is_statement i (assignment_begins d)
statement_begins {i = i} (call_statement d) = target_is_statement i (target_begins d)
statement_begins (if_alone c d h) = refl
statement_begins (if_else c d e) = refl
statement_begins (while_statement c d) = refl
statement_begins (for_local t e c u d) = refl
statement_begins (for_assignment f c u d) = refl
statement_begins return_alone = refl
statement_begins (return_value v) = refl

pub no_super : (i : List Lexeme) → begins_statement i ≡ true → begins_with_word word_super i ≡ false
unfolding begins_statement begins_with_word
no_super [] e = refl
no_super (a_name w p ∷ o) e = refl
no_super (a_word n p ∷ o) e = not_true _ e
no_super (a_number n p ∷ o) e = refl
no_super (a_text w p ∷ o) e = refl
no_super (a_sign n p ∷ o) e = refl
no_super (the_end p ∷ o) e = refl

pub in_statements_run : (N : List Node) (s : List Entry) (i : List Lexeme) → begins_statement i ≡ true →
    answer (at InStatements s N) i ≡ answer (at StatementStart s N) i
unfolding machine begins_statement
in_statements_run N s [] e = refl
in_statements_run N s (a_name w p ∷ o) e = refl
in_statements_run N s (a_word n p ∷ o) e = refl
in_statements_run N s (a_number n p ∷ o) e = refl
in_statements_run N s (a_text w p ∷ o) e = refl
in_statements_run N s (a_sign n p ∷ o) e = fails _ _ _ o (not_true _ e)
in_statements_run N s (the_end p ∷ o) e = refl

-- where a statement ends, by what it is a part of
block_goes_on : (id : ℕ) (p : Position) (ids : List ℕ) (N : List Node) (s : List Entry) (o : List Lexeme) →
    answer (at (StatementEnd id) (BlockOpen p ids ∷ s) N) o ≡ answer
    (at InStatements (BlockOpen p (ids ++ id ∷ []) ∷ s) N) o
unfolding machine
block_goes_on id p ids N s [] = refl
block_goes_on id p ids N s (t ∷ o) = refl

if_ends : (id : ℕ) (p : Position) (c : ℕ) (N : List Node) (s : List Entry) (o : List Lexeme) →
    begins_with_word word_else o ≡ false → answer (at (StatementEnd id) (IfThen p c ∷ s) N) o ≡ answer
    (at (StatementEnd (length N)) s (put N (If p c id None))) o
unfolding machine
if_ends id p c N s [] e = refl
if_ends id p c N s (a_name w q ∷ o) e = refl
if_ends id p c N s (a_word n q ∷ o) e = fails _ _ _ o e
if_ends id p c N s (a_number n q ∷ o) e = refl
if_ends id p c N s (a_text w q ∷ o) e = refl
if_ends id p c N s (a_sign n q ∷ o) e = refl
if_ends id p c N s (the_end q ∷ o) e = refl

else_ends : (id : ℕ) (p : Position) (c a : ℕ) (N : List Node) (s : List Entry) (o : List Lexeme) →
    answer (at (StatementEnd id) (IfElse p c a ∷ s) N) o ≡ answer
    (at (StatementEnd (length N)) s (put N (If p c a (Some id)))) o
unfolding machine
else_ends id p c a N s [] = refl
else_ends id p c a N s (t ∷ o) = refl

while_ends : (id : ℕ) (p : Position) (c : ℕ) (N : List Node) (s : List Entry) (o : List Lexeme) →
    answer (at (StatementEnd id) (WhileBody p c ∷ s) N) o ≡ answer
    (at (StatementEnd (length N)) s (put N (While p c id))) o
unfolding machine
while_ends id p c N s [] = refl
while_ends id p c N s (t ∷ o) = refl

for_ends : (id : ℕ) (p : Position) (f c u : ℕ) (N : List Node) (s : List Entry) (o : List Lexeme) →
    answer (at (StatementEnd id) (ForBody p f c u ∷ s) N) o ≡ answer
    (at (StatementEnd (length N)) s (put N (For p f c u id))) o
unfolding machine
for_ends id p f c u N s [] = refl
for_ends id p f c u N s (t ∷ o) = refl

return_run : (p : Position) (N : List Node) (s : List Entry) (i : List Lexeme) → begins_operand i ≡ true →
    answer (at (ReturnStart p) s N) i ≡ answer (at Operand (ReturnValue p ∷ s) N) i
unfolding machine begins_operand
return_run p N s [] e = refl
return_run p N s (a_name w q ∷ o) e = refl
return_run p N s (a_word n q ∷ o) e = refl
return_run p N s (a_number n q ∷ o) e = refl
return_run p N s (a_text w q ∷ o) e = refl
return_run p N s (a_sign n q ∷ o) e =
    fails _ _ _ o (differs (λ m. is_operand_start (a_sign m q)) n sign_semicolon e refl)
return_run p N s (the_end q ∷ o) e = refl

-- ---- assignments and calls, by where they stand

assign_statement_run : {N N1 : List Node} {i o : List Lexeme} {id : ℕ} {p : Position} →
    AssignmentRead N i N1 (a_sign sign_semicolon p ∷ o) id → (s : List Entry) →
    answer (at StatementStart s N) i ≡ answer (at (StatementEnd id) s N1) o
unfolding machine ends continues calls_on
assign_statement_run {N = N} {i = i} d s = statement_target_run N s i (assignment_begins d)
    ∙ (first_target_run N (Simple ∷ s) i (assignment_begins d) (assignment_no_local d)
    ∙ assignment_run d refl (Simple ∷ s))

assign_first_run : {N N1 : List Node} {i o : List Lexeme} {id : ℕ} {r : Position} →
    AssignmentRead N i N1 (a_sign sign_semicolon r ∷ o) id → (p : Position) (s : List Entry) →
    next (first_start N (ForHead p ∷ s)) i ≡ answer (at Operand (ForTest p id ∷ s) N1) o
unfolding machine ends continues calls_on
assign_first_run {N = N} {i = i} d p s =
    first_target_run N (ForHead p ∷ s) i (assignment_begins d) (assignment_no_local d)
    ∙ assignment_run d refl (ForHead p ∷ s)

assign_step_run : {N N1 : List Node} {i o : List Lexeme} {id : ℕ} {r : Position} →
    AssignmentRead N i N1 (a_sign sign_right_parenthesis r ∷ o) id → (p : Position) (f c : ℕ) (s : List Entry) →
    answer (at ForStepStart (ForStep p f c ∷ s) N) i ≡ answer (at StatementStart (ForBody p f c id ∷ s) N1) o
unfolding machine ends continues calls_on
assign_step_run {N = N} {i = i} d p f c s = step_target_run N (ForStep p f c ∷ s) i (assignment_begins d)
    ∙ assignment_run d refl (ForStep p f c ∷ s)

call_statement_run : {N N1 : List Node} {i o : List Lexeme} {e : ℕ} {p q : Position} →
    PostRead false Invocation p N i N1 (a_sign sign_semicolon q ∷ o) e → (s : List Entry) →
    answer (at StatementStart s N) i ≡ answer (at (StatementEnd (length N1)) s (put N1 (ExpressionStatement p e))) o
unfolding machine follows calls_on name_goes_on
call_statement_run {N = N} {i = i} d s = statement_target_run N s i (target_begins d)
    ∙ (first_target_run N (Simple ∷ s) i (target_begins d) (post_no_local d refl)
    ∙ post_run d refl (Target ∷ Simple ∷ s))

for_open_run : (p q : Position) (N : List Node) (s : List Entry) (i : List Lexeme) →
    answer (at StatementStart s N) (a_word word_for p ∷ a_sign sign_left_parenthesis q ∷ i) ≡ next
    (first_start N (ForHead p ∷ s)) i
unfolding machine
for_open_run p q N s [] = refl
for_open_run p q N s (t ∷ i) = refl

-- ---- statements

mutual
  unfolding machine ends continues calls_on opens_at

  pub statement_run : {N N1 : List Node} {i o : List Lexeme} {id : ℕ} → StatementRead N i N1 o id → (s : List Entry) →
      answer (at StatementStart s N) i ≡ answer (at (StatementEnd id) s N1) o
  statement_run (block {p = p} b) s = statements_run b p s
  statement_run empty s = refl
  statement_run (local d) s = local_type_run d s
  statement_run (local_with_value {flags = flags} {t = t} {w = w} {p = p} {q = q} d v) s = local_type_run d s
      ∙ level_run v refl (LocalValue p q w flags t ∷ Simple ∷ s) refl
  statement_run (assign_statement d) s = assign_statement_run d s
  statement_run (call_statement d) s = call_statement_run d s
  statement_run {o = o} (if_alone {N2 = N2} {c = c} {s = x} {p = p} d b h) s = level_run d refl (IfTest p ∷ s) refl
      ∙ (statement_run b (IfThen p c ∷ s) ∙ if_ends x p c N2 s o h)
  statement_run {o = o} (if_else {N3 = N3} {c = c} {s = x} {e = e} {p = p} d b f) s =
      level_run d refl (IfTest p ∷ s) refl
      ∙ (statement_run b (IfThen p c ∷ s) ∙ (statement_run f (IfElse p c x ∷ s) ∙ else_ends e p c x N3 s o))
  statement_run {o = o} (while_statement {N2 = N2} {c = c} {s = x} {p = p} d b) s =
      level_run d refl (WhileTest p ∷ s) refl ∙ (statement_run b (WhileBody p c ∷ s) ∙ while_ends x p c N2 s o)
  statement_run {N = N} {o = o}
      (for_local {N2 = N2} {N5 = N5} {i = i} {t = t} {c = c} {u = u} {s = x} {w = w} {p = p} {q = q} {a = a} {b = b} d v
      e f g) s =
      for_open_run p q N s i
      ∙ (first_type d (ForHead p ∷ s)
      ∙ (level_run v refl (LocalValue b a w None t ∷ ForHead p ∷ s) refl
      ∙ (level_run e refl (ForTest p (length N2) ∷ s) refl
      ∙ (assign_step_run f p (length N2) c s
      ∙ (statement_run g (ForBody p (length N2) c u ∷ s)
      ∙ for_ends x p (length N2) c u N5 s o)))))
  statement_run {N = N} {o = o}
      (for_assignment {N4 = N4} {i = i} {f = f} {c = c} {u = u} {s = x} {p = p} {q = q} d e v g) s =
      for_open_run p q N s i
      ∙ (assign_first_run d p s
      ∙ (level_run e refl (ForTest p f ∷ s) refl
      ∙ (assign_step_run v p f c s
      ∙ (statement_run g (ForBody p f c u ∷ s)
      ∙ for_ends x p f c u N4 s o))))
  statement_run return_alone s = refl
  statement_run {N = N} (return_value {i = i} {p = p} d) s = return_run p N s i (level_begins d)
      ∙ level_run d refl (ReturnValue p ∷ s) refl

  pub statements_run : {N N1 : List Node} {i o : List Lexeme} {ids : List ℕ} → StatementsRead N i N1 o ids →
      (p : Position) (s : List Entry) → answer (at InStatements (BlockOpen p [] ∷ s) N) i ≡ answer
      (at InStatements (BlockOpen p ids ∷ s) N1) o
  statements_run no_statement p s = refl
  statements_run {o = o} (one_statement_more {N1 = N1} {N2 = N2} {i1 = i1} {ids = ids} {id = id} b d) p s =
      statements_run b p s
      ∙ (in_statements_run N1 (BlockOpen p ids ∷ s) i1 (statement_begins d)
      ∙ (statement_run d (BlockOpen p ids ∷ s)
      ∙ block_goes_on id p ids N2 s o))
