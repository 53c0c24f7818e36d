-- From each state whose entries await what its mode goes on with, some lexemes lead to the end of a file.
use Rattle.std.proofs.Common.{arith, refl, subst, sym}
use Rattle.std.proofs.lemmas.Bool.{ltb-true}
use Rattle.std.specs.Prelude.{Bool, List, Option, Some, [], false, if◌then◌else◌, nat_lt, true, ℕ, ◌<◌, ◌∷◌, ◌≡◌}
use Rattle.machine_laws.proofs.ClosingNeeds.{Awaits, a_constructor_body, a_file, a_member, a_statement, a_statement_of_block, a_value, an_assignment, an_operand, argument_value, arguments_of, assign_value, binary_left, block_open, call_open, cast_open, class_body, compound_value, constructor_body, file_open, for_body, for_head, for_step, for_test, group_open, if_other, if_test, if_then, index_open, length_open, local_value, method_body, new_open, of_block, of_constructor, of_first, of_simple, of_value, return_open, simple_open, super_call_open, target_open, unary_open, while_body, while_test}
use Rattle.machine_laws.proofs.Tools.{after, machine}
use Rattle.parser_machine.specs.Closing.{admits, arguments_ended, assigned, closed, operation}
use Rattle.parser_machine.specs.Machine.{parsed, step_mode}
use Rattle.parser_machine.specs.Members.{class_ended, member_read, statement_ended}
use Rattle.parser_machine.specs.Operands.{post_ended, post_step}
use Rattle.parser_machine.specs.States.{State, at, level_of}
use Rattle.parser_machine.specs.declared.entries.Entry.{Entry}
use Rattle.parser_machine.specs.declared.entries.Entry.TheVariants.{AssignValue, BinaryLeft, CompoundValue, ForStep, LocalValue, Target}
use Rattle.parser_machine.specs.declared.modes.Mode.{Mode}
use Rattle.parser_machine.specs.declared.modes.Mode.TheVariants.{Assigned, ConstructorStart, Finished, ForStepStart, InClasses, InMembers, InStatements, PostDone, StatementEnd, StatementStart}
use Rattle.scj_base.specs.Vocabulary.{sign_assign, sign_dot, sign_right_brace, sign_right_bracket, sign_right_parenthesis, sign_semicolon}
use Rattle.scj_base.specs.declared.positions.Position.{Position}
use Rattle.scj_tree.specs.Lexemes.{Lexeme, a_name, a_number, a_sign, a_text, the_end}
use Rattle.scj_tree.specs.Terminals.{level}
use Rattle.scj_tree.specs.declared.nodes.Node.{Node}
use Rattle.scj_tree.specs.declared.parsed_parts.PostKind.{PostKind}

-- from a state, if there is one, some lexemes lead to the end
pub record Closes (r : Option State) : Type 0 where
  pub rest : List Lexeme
  pub nodes : List Node
  pub classes : List ℕ
  pub reached : after r rest ≡ Some (parsed nodes classes)

-- the lexemes that the proofs go on with stand anywhere
pub here : Position
here = record { file = 0; line = 1; col = 1 }

abbrev pub sign : ℕ → Lexeme
sign n = a_sign n here

abbrev pub name_a : Lexeme
name_a = a_name (97 ∷ []) here

abbrev pub zero_read : Lexeme
zero_read = a_number 0 here

abbrev pub text_a : Lexeme
text_a = a_text (97 ∷ []) here

-- one lexeme more
pub more : {m : Mode} {s : List Entry} {N : List Node} (t : Lexeme) → Closes (step_mode m N s t) →
    Closes (Some (at m s N))
unfolding machine
more t c = record { rest = t ∷ c.rest; nodes = c.nodes; classes = c.classes; reached = c.reached }

-- the sign that ends an expression, by what it is a part of
pub data Ender : Type 0 where
  semicolon : Ender
  parenthesis : Ender
  bracket : Ender

unfoldable pub ender : Ender → Lexeme
ender semicolon = sign sign_semicolon
ender parenthesis = sign sign_right_parenthesis
ender bracket = sign sign_right_bracket

-- ---- files, members and statements

pub finished_closes : {s : List Entry} → Awaits a_file s → (N : List Node) → Closes (Some (at Finished s N))
unfolding machine
finished_closes (file_open {ids = ids}) N = record { rest = []; nodes = N; classes = ids; reached = refl }

pub in_classes : {s : List Entry} → Awaits a_file s → (N : List Node) → Closes (Some (at InClasses s N))
unfolding machine
in_classes a N = more (the_end here) (finished_closes a N)

class_closes : {s : List Entry} → Awaits a_member s → (N : List Node) → Closes (class_ended N s)
unfolding machine
class_closes (class_body file_open) N = in_classes file_open _

pub in_members : {s : List Entry} → Awaits a_member s → (N : List Node) → Closes (Some (at InMembers s N))
unfolding machine
in_members a N = more (sign sign_right_brace) (class_closes a N)

pub member_closes : {s : List Entry} → Awaits a_member s → (id : ℕ) (N : List Node) → Closes (member_read id N s)
unfolding machine
member_closes (class_body a) id N = in_members (class_body a) N

-- a `}` behind a statement
statement_closes : {s : List Entry} → Awaits a_statement s → (id : ℕ) (N : List Node) →
    Closes (statement_ended id N s (sign sign_right_brace))
unfolding machine
statement_closes (of_block (block_open a)) id N = more (sign sign_right_brace) (statement_closes a _ _)
statement_closes (if_then a) id N = statement_closes a _ _
statement_closes (if_other a) id N = statement_closes a _ _
statement_closes (while_body a) id N = statement_closes a _ _
statement_closes (for_body a) id N = statement_closes a _ _
statement_closes (method_body (class_body file_open)) id N = in_classes file_open _
statement_closes (of_constructor (constructor_body (class_body file_open))) id N = in_classes file_open _

pub statement_end : {s : List Entry} → Awaits a_statement s → (id : ℕ) (N : List Node) →
    Closes (Some (at (StatementEnd id) s N))
unfolding machine
statement_end a id N = more (sign sign_right_brace) (statement_closes a id N)

pub statement_start_closes : {s : List Entry} → Awaits a_statement s → (N : List Node) →
    Closes (Some (at StatementStart s N))
unfolding machine
statement_start_closes a N = more (sign sign_semicolon) (statement_end a _ _)

pub block_closes : {s : List Entry} → Awaits a_statement_of_block s → (N : List Node) →
    Closes (Some (at InStatements s N))
unfolding machine
block_closes (block_open a) N = more (sign sign_right_brace) (statement_end a _ _)

pub constructor_closes : {s : List Entry} → Awaits a_constructor_body s → (b : Position) (N : List Node) →
    Closes (Some (at (ConstructorStart b) s N))
unfolding machine
constructor_closes a b N = more (sign sign_right_brace) (statement_end (of_constructor a) _ _)

-- ---- assignments

pub record AssignmentEnds (s : List Entry) : Type 0 where
  pub mark : Ender
  pub closes : (id : ℕ) (N : List Node) → Closes (assigned id N s (ender mark))

for_step_closes : {s : List Entry} → Awaits a_statement s → (p : Position) (f c : ℕ) (N : List Node) →
    Closes (Some (at ForStepStart (ForStep p f c ∷ s) N))
unfolding machine
for_step_closes a p f c N =
    more name_a (more (sign 34) (more (sign sign_right_parenthesis) (statement_start_closes (for_body a) _)))

assignment_ends : {s : List Entry} → Awaits an_assignment s → AssignmentEnds s
unfolding machine ender
assignment_ends (of_first (of_simple (simple_open a))) =
    record { mark = semicolon; closes = λ id N. statement_end a id N }
assignment_ends (of_first (for_head {p = p} a)) =
    record {
      mark = semicolon;
      closes = λ id N. more zero_read
          (more (sign sign_semicolon) (for_step_closes a p id _ _));
    }
assignment_ends (for_step a) = record { mark = parenthesis; closes = λ id N. statement_start_closes (for_body a) N }

pub assigned_closes : {s : List Entry} → Awaits an_assignment s → (id : ℕ) (N : List Node) →
    Closes (Some (at (Assigned id) s N))
unfolding machine
assigned_closes a id N = let e = assignment_ends a in more (ender e.mark) (e.closes id N)

-- ---- expressions

-- behind an expression
pub record ValueEnds (s : List Entry) : Type 0 where
  pub mark : Ender
  pub closes : (id : ℕ) (N : List Node) → Closes (closed id N s (ender mark))

through_assign : (e : Ender) (p : Position) (t : ℕ) (s : List Entry) →
    ((id : ℕ) (N : List Node) → Closes (assigned id N s (ender e))) → (id : ℕ) (N : List Node) →
    Closes (closed id N (AssignValue p t ∷ s) (ender e))
unfolding machine ender
through_assign semicolon p t s f id N = f _ _
through_assign parenthesis p t s f id N = f _ _
through_assign bracket p t s f id N = f _ _

through_compound : (e : Ender) (p : Position) (o t l : ℕ) (s : List Entry) →
    ((id : ℕ) (N : List Node) → Closes (assigned id N s (ender e))) → (id : ℕ) (N : List Node) →
    Closes (closed id N (CompoundValue p o t l ∷ s) (ender e))
unfolding machine ender
through_compound semicolon p o t l s f id N = f _ _
through_compound parenthesis p o t l s f id N = f _ _
through_compound bracket p o t l s f id N = f _ _

through_local : (e : Ender) (p q : Position) (w : List ℕ) (g : Option ℕ) (t : ℕ) (s : List Entry) →
    ((id : ℕ) (N : List Node) → Closes (assigned id N s (ender e))) → (id : ℕ) (N : List Node) →
    Closes (closed id N (LocalValue p q w g t ∷ s) (ender e))
unfolding machine ender
through_local semicolon p q w g t s f id N = f _ _
through_local parenthesis p q w g t s f id N = f _ _
through_local bracket p q w g t s f id N = f _ _

not_below : (n : ℕ) → nat_lt n 0 ≡ false
not_below n = decide (nat_lt n 0) (λ h. let k : n < 0 = ltb-true n 0 h in absurd (omega arith))
  where
    decide : (b : Bool) → (b ≡ true → Prim.⊥) → b ≡ false
    decide true impossible = absurd (impossible refl)
    decide false impossible = refl

passed : (b : Bool) (x y : Option State) → b ≡ false → Closes y → Closes (if b then x else y)
passed b x y e c = subst (λ v. Closes (if v then x else y)) (sym e) c

through_binary : (e : Ender) (p : Position) (o l : ℕ) (s : List Entry) →
    ((id : ℕ) (N : List Node) → Closes (closed id N s (ender e))) → (id : ℕ) (N : List Node) →
    Closes (closed id N (BinaryLeft p o l ∷ s) (ender e))
unfolding closed admits operation level_of level ender
through_binary semicolon p o l s f id N = passed (nat_lt (level o) 0) _ _ (not_below (level o)) (f _ _)
through_binary parenthesis p o l s f id N = passed (nat_lt (level o) 0) _ _ (not_below (level o)) (f _ _)
through_binary bracket p o l s f id N = passed (nat_lt (level o) 0) _ _ (not_below (level o)) (f _ _)

no_target : {s : List Entry} → Awaits a_value s → (kind : PostKind) (p : Position) (id : ℕ) (N : List Node) (t : Lexeme) →
    post_ended kind p id N s t ≡ closed id N s t
unfolding post_ended
no_target (for_test a) kind p id N t = refl
no_target a kind p id N t = refl

post_closes : (e : Ender) {s : List Entry} → Awaits a_value s → (kind : PostKind) (p : Position) (id : ℕ) (N : List Node) →
    Closes (closed id N s (ender e)) → Closes (post_step kind p id N s (ender e))
unfolding post_step ender
post_closes semicolon a kind p id N c = subst Closes (sym (no_target a kind p id N _)) c
post_closes parenthesis a kind p id N c = subst Closes (sym (no_target a kind p id N _)) c
post_closes bracket a kind p id N c = subst Closes (sym (no_target a kind p id N _)) c

pub value_closes : {s : List Entry} → Awaits a_value s → ValueEnds s →
    (kind : PostKind) (p : Position) (id : ℕ) (N : List Node) → Closes (Some (at (PostDone kind p id) s N))
unfolding step_mode
value_closes a e kind p id N = more (ender e.mark) (post_closes e.mark a kind p id N (e.closes id N))

-- a target that is no variable goes on with a field's name
target_closes : {s : List Entry} → Awaits an_assignment s → (kind : PostKind) (p : Position) (id : ℕ) (N : List Node) →
    Closes (Some (at (PostDone kind p id) (Target ∷ s) N))
unfolding machine
target_closes {s = s} a kind p id N =
    more (sign sign_dot)
    (more name_a
    (more (sign sign_assign)
    (more zero_read
    (value_closes (assign_value a)
    (let e = assignment_ends a in record { mark = e.mark; closes = through_assign e.mark here _ s e.closes }) _ _ _
    _))))

mutual
  unfolding machine ender

  pub value_ends : {s : List Entry} → Awaits a_value s → ValueEnds s
  value_ends (for_test {p = p} {f = f} a) = record { mark = semicolon; closes = λ id N. for_step_closes a p f id N }
  value_ends (if_test a) = record { mark = parenthesis; closes = λ id N. statement_start_closes (if_then a) N }
  value_ends (while_test a) = record { mark = parenthesis; closes = λ id N. statement_start_closes (while_body a) N }
  value_ends (return_open a) = record { mark = semicolon; closes = λ id N. statement_end a _ _ }
  value_ends (assign_value {s = s} a) = let e = assignment_ends a in
      record { mark = e.mark; closes = through_assign e.mark _ _ s e.closes }
  value_ends (compound_value {s = s} a) = let e = assignment_ends a in
      record { mark = e.mark; closes = through_compound e.mark _ _ _ _ s e.closes }
  value_ends (local_value {s = s} a) = let e = assignment_ends (of_first a) in
      record { mark = e.mark; closes = through_local e.mark _ _ _ _ _ s e.closes }
  value_ends (binary_left {p = p} {o = o} {l = l} {s = s} a) = let e =
      value_ends a in record { mark = e.mark; closes = through_binary e.mark p o l s e.closes }
  value_ends (unary_open a) = let e = value_ends a in record { mark = e.mark; closes = λ id N. e.closes _ _ }
  value_ends (cast_open a) = let e = value_ends a in record { mark = e.mark; closes = λ id N. e.closes _ _ }
  value_ends (group_open a) = record { mark = parenthesis; closes = λ id N. operand_closes a _ _ _ _ }
  value_ends (index_open a) = record { mark = bracket; closes = λ id N. operand_closes a _ _ _ _ }
  value_ends (length_open a) = record { mark = bracket; closes = λ id N. operand_closes a _ _ _ _ }
  value_ends (argument_value a) = record { mark = parenthesis; closes = λ id N. call_closes a _ _ }

  pub operand_closes : {s : List Entry} → Awaits an_operand s → (kind : PostKind) (p : Position) (id : ℕ) (N : List Node) →
      Closes (Some (at (PostDone kind p id) s N))
  operand_closes (of_value a) kind p id N = value_closes a (value_ends a) kind p id N
  operand_closes (target_open a) kind p id N = target_closes a kind p id N

  pub call_closes : {s : List Entry} → Awaits arguments_of s → (ids : List ℕ) (N : List Node) →
      Closes (arguments_ended ids N s)
  call_closes (call_open a) ids N = operand_closes a _ _ _ _
  call_closes (new_open a) ids N = operand_closes a _ _ _ _
  call_closes (super_call_open (constructor_body a)) ids N =
      more (sign sign_semicolon) (block_closes (block_open (of_constructor (constructor_body a))) _)
