-- Steps of expressions keep what the stack stands for.
use Rattle.std.proofs.Common.{ap, arith, refl, subst, sym, ◌∙◌}
use Rattle.std.proofs.lemmas.Bool.{eqb-true, le-leb, leb-true, lt-ltb, ltb-false, ltb-true}
use Rattle.std.specs.Prelude.{Bool, List, None, Option, Some, [], false, if◌then◌else◌, length, nat_le, nat_lt, not, suc, true, zero, ℕ, ◌&&◌, ◌+◌, ◌-◌, ◌<◌, ◌==◌, ◌||◌, ◌∷◌, ◌≡◌, ◌≤◌}
use Rattle.machine_laws.proofs.Begins.{and_left, and_right, differs}
use Rattle.machine_laws.proofs.Standing.{CallBegun, Due, ForFirstRead, LengthBegun, LocalFlags, Place, SimpleRead, Source, TakesLocal, UnaryKind, arguments_open, assign_value, assigned_read, bare, binary_left, booleans, call_begun, call_open, cast_open, compound_value, constructor_body, first_assignment, first_local, fits, flagged, for_arguments, for_body, for_head, for_operand, for_rest, for_simple, for_step, for_test, group_open, if_test, if_then, in_first, in_statement, in_step, index_open, ints, is_minus, is_not, is_tilde, length_open, local_read, local_value, new_open, references, return_open, simple_begun, simple_open, starts_target, super_body, super_call_open, target, unary_open, while_rest, while_test}
use Rattle.machine_laws.proofs.Stands.{Behind, Leads, NextArgument, PostSo, Stands, SuperEnds, assigned_so, behind, first_argument, leads_if, leads_option, next_argument, object_so, on_number, past, post_so, simple_due, statement_done, text_so}
use Rattle.machine_laws.proofs.Tools.{machine}
use Rattle.parser_machine.specs.Closing.{argument_ended, arguments_ended, assigned, closed, ended, shifted, target_alone, target_assigned, target_ended}
use Rattle.parser_machine.specs.Operands.{argument_first_step, argument_start, awaits_target, closed_name_step, dot_name_step, dot_step, minus_step, name_sign_step, name_step, new_element_step, new_name_step, new_step, opened_name_step, opened_step, operand_sign, operand_start, operand_word, post_ended, post_step, target_name_step, text_step}
use Rattle.parser_machine.specs.States.{level_of}
use Rattle.parser_machine.specs.declared.entries.Entry.{Entry}
use Rattle.parser_machine.specs.declared.entries.Entry.TheVariants.{ArgumentsOpen, BinaryLeft, CastOpen, ConstructorBody, GroupOpen, Target, UnaryOpen}
use Rattle.parser_machine.specs.declared.modes.Mode.TheVariants.{ArgumentFirst, ClosedName, Dot, DotName, Minus, NameRead, NewElement, NewName, NewStart, Opened, OpenedName, PostDone, TextRead}
use Rattle.scj_base.specs.Vocabulary.{sign_and, sign_and_and, sign_assign, sign_comma, sign_dot, sign_equal, sign_greater, sign_greater_equal, sign_left_bracket, sign_left_parenthesis, sign_less, sign_less_equal, sign_minus, sign_not, sign_not_equal, sign_or, sign_or_or, sign_percent, sign_plus, sign_right_bracket, sign_right_parenthesis, sign_semicolon, sign_shift_left, sign_shift_right, sign_shift_right_unsigned, sign_slash, sign_star, sign_tilde, sign_xor, word_boolean, word_false, word_for, word_int, word_new, word_null, word_super, word_this, word_true}
use Rattle.scj_base.specs.declared.positions.Position.{Position}
use Rattle.scj_tree.specs.Expressions.{ArgumentRead, ArgumentsRead, Level, PostRead, Unary1Read, UnaryRead, argument_and_comma, arguments, binary, call_of, cast, complement, element_of, expression_argument, false_value, field_of, minimum_number, minimum_unary, minus, negation, new_booleans, new_ints, new_object, new_references, no_argument_yet, no_arguments, null_value, number, operand, parenthesized, parenthesized_name, plain_unary, post_unary, simple_call, simple_name, text_argument, this_value, tighter, true_value}
use Rattle.scj_tree.specs.Nodes.{put}
use Rattle.scj_tree.specs.Lexemes.{Lexeme, a_name, a_number, a_sign, a_text, a_word, the_end}
use Rattle.scj_tree.specs.Statements.{AssignmentRead, StatementRead, assign_statement, assignment, call_statement, compound_assignment, flagged_local, local_with_value, plain_local, return_value, step_assignment}
use Rattle.scj_tree.specs.Terminals.{begins_unary1, compound, indexable, is_minimum, is_unary1_start, level, stepping}
use Rattle.scj_tree.specs.declared.nodes.Node.{Node}
use Rattle.scj_tree.specs.declared.nodes.Node.TheVariants.{Call, NewArray, Number, Parenthesized, SimpleName, SuperCall, Unary}
use Rattle.scj_tree.specs.declared.parsed_parts.PostKind.{PostKind}
use Rattle.scj_tree.specs.declared.parsed_parts.PostKind.TheVariants.{Invocation, Value, Variable}
use mathlib.Core.Bool.{true≢false}
use Rattle.scj_tree.specs.declared.parsed_parts.PostKind.TheVariants.{NewArray as NewArrayKind}

-- ---- what an operand may be a part of

-- an operand that is read so tightly
pub record Read (k : ℕ) (M : List Node) (j : List Lexeme) (N : List Node) (o : List Lexeme) (id : ℕ) : Type 0 where
  pub levels : (n : ℕ) → n ≤ k → Level n M j N o id
  pub unary : 11 ≤ k → UnaryRead M j N o id
  pub unary1 : 11 ≤ k → begins_unary1 j ≡ true → Unary1Read M j N o id

loosened : (n d : ℕ) {M N : List Node} {j o : List Lexeme} {id : ℕ} → Level (n + d) M j N o id → Level n M j N o id
loosened n zero {M} {N} {j} {o} {id} h = subst (λ m. Level m M j N o id) (let e : n + 0 ≡ n = omega arith in e) h
loosened n (suc d) {M} {N} {j} {o} {id} h =
    loosened n d (tighter (subst (λ m. Level m M j N o id) (let e : n + suc d ≡ suc (n + d) = omega arith in e) h))

looser : (n k : ℕ) {M N : List Node} {j o : List Lexeme} {id : ℕ} → n ≤ k → Level k M j N o id → Level n M j N o id
looser n k {M} {N} {j} {o} {id} e h =
    loosened n (k - n) (subst (λ m. Level m M j N o id) (let f : k ≡ n + (k - n) = omega arith in f) h)

read_unary : {M N : List Node} {j o : List Lexeme} {id : ℕ} → UnaryRead M j N o id → begins_unary1 j ≡ false →
    Read 11 M j N o id
read_unary d e =
    record {
      levels = λ n h. looser n 11 h (operand d);
      unary = λ h. d;
      unary1 = λ h f. absurd
          (true≢false (sym f ∙ e));
    }

read_unary1 : {M N : List Node} {j o : List Lexeme} {id : ℕ} → Unary1Read M j N o id → Read 11 M j N o id
read_unary1 d =
    record { levels = λ n h. looser n 11 h (operand (plain_unary d)); unary = λ h. plain_unary d; unary1 = λ h f. d }

minimum_begins : {kind : PostKind} {p : Position} {M N : List Node} {j o : List Lexeme} {id : ℕ} →
    PostRead true kind p M j N o id → begins_unary1 j ≡ false
unfolding begins_unary1 is_unary1_start
minimum_begins (field_of d) = minimum_begins d
minimum_begins (call_of d a) = minimum_begins d
minimum_begins (element_of h d x) = minimum_begins d
minimum_begins minimum_number = refl

minimum_no_target : {kind : PostKind} {p : Position} {M N : List Node} {j o : List Lexeme} {id : ℕ} →
    PostRead true kind p M j N o id → starts_target j ≡ false
unfolding starts_target
minimum_no_target (field_of d) = minimum_no_target d
minimum_no_target (call_of d a) = minimum_no_target d
minimum_no_target (element_of h d x) = minimum_no_target d
minimum_no_target minimum_number = refl

read_post : {minimum : Bool} {kind : PostKind} {p : Position} {M N : List Node} {j o : List Lexeme} {id : ℕ} →
    PostRead minimum kind p M j N o id → Read 11 M j N o id
read_post {minimum = true} d = read_unary (minimum_unary d) (minimum_begins d)
read_post {minimum = false} d = read_unary1 (post_unary d)

few_levels : (n : ℕ) → level n ≤ 10
unfolding level
few_levels n =
    at_most (n == sign_or_or) _ _ (omega arith)
    (at_most (n == sign_and_and) _ _ (omega arith)
    (at_most (n == sign_or) _ _ (omega arith) (at_most (n == sign_xor) _ _ (omega arith)
    (at_most (n == sign_and) _ _ (omega arith) (at_most (n == sign_equal || n == sign_not_equal) _ _ (omega arith)
    (at_most (n == sign_less || (n == sign_greater || (n == sign_less_equal || n == sign_greater_equal))) _ _
    (omega arith)
    (at_most (n == sign_shift_left || (n == sign_shift_right || n == sign_shift_right_unsigned)) _ _ (omega arith)
    (at_most (n == sign_plus || n == sign_minus) _ _ (omega arith)
    (at_most (n == sign_star || (n == sign_slash || n == sign_percent)) _ _ (omega arith) (omega arith))))))))))
  where
    at_most : (b : Bool) (x y : ℕ) → x ≤ 10 → y ≤ 10 → (if b then x else y) ≤ 10
    at_most true x y f g = f
    at_most false x y f g = g

read_binary : (op : ℕ) {M N : List Node} {j o : List Lexeme} {id : ℕ} → Level (level op) M j N o id →
    Read (level op) M j N o id
read_binary op d =
    record {
      levels = λ n h. looser n (level op) h d;
      unary = λ h. absurd (omega (arith, few_levels op, h));
      unary1 = λ h f. absurd (omega (arith, few_levels op, h));
    }

-- ---- where assignments and arguments end

no_place : {A : Type 0} → TakesLocal in_step → A
no_place h = elim h [ ]

no_local : {A : Type 0} {flags : Option ℕ} {M N : List Node} {j o : List Lexeme} → LocalFlags in_step flags M j N o → A
no_local (bare h) = no_place h

assignment_of : {M N : List Node} {j o : List Lexeme} {id : ℕ} → SimpleRead in_step M j N o id →
    AssignmentRead M j N o id
assignment_of (assigned_read d) = d
assignment_of (local_read l t v) = no_local l

statement_of : {M N : List Node} {j o : List Lexeme} {id : ℕ} {p : Position} →
    SimpleRead in_statement M j N (a_sign sign_semicolon p ∷ o) id → StatementRead M j N o id
statement_of (assigned_read d) = assign_statement d
statement_of (local_read (bare h) t v) = local_with_value (plain_local t) v
statement_of (local_read (flagged h f) t v) = local_with_value (flagged_local h f t) v

first_of_for : {M N : List Node} {j o : List Lexeme} {id : ℕ} {p q x : Position} →
    SimpleRead in_first M j N (a_sign sign_semicolon x ∷ o) id →
    ForFirstRead p id M (a_word word_for p ∷ a_sign sign_left_parenthesis q ∷ j) N o
first_of_for (assigned_read d) = first_assignment d
first_of_for (local_read (bare h) t v) = first_local t v

pub assigned_stands : (r : Source) (id : ℕ) (N : List Node) (s : List Entry) (t : Lexeme)
    (o : List Lexeme) {k : Place} {M : List Node} {j : List Lexeme} → SimpleRead k M j N (t ∷ o) id →
    Due r (for_simple k) s M j → Leads r (assigned id N s t) o
unfolding machine Leads Stands
assigned_stands r id N s (a_sign n p) o {M = M} {j = j} v (simple_open d) =
    on_number r (λ m. SimpleRead in_statement M j N (a_sign m p ∷ o) id) n sign_semicolon v _ _ o
    (λ k. statement_done (statement_of k) d) tt
assigned_stands r id N s (a_sign n p) o {M = M} {j = j} v (for_head d) =
    on_number r (λ m. SimpleRead in_first M j N (a_sign m p ∷ o) id) n sign_semicolon v _ _ o
    (λ k. for_test (first_of_for k) d) tt
assigned_stands r id N s (a_sign n p) o {M = M} {j = j} v (for_step f c d) =
    on_number r (λ m. SimpleRead in_step M j N (a_sign m p ∷ o) id) n sign_right_parenthesis v _ _ o
    (λ k. for_rest f c (assignment_of k) d) tt
assigned_stands r id N s _ o v (simple_open d) = tt
assigned_stands r id N s _ o v (for_head d) = tt
assigned_stands r id N s _ o v (for_step f c d) = tt

call_of_begun : {minimum : Bool} {p : Position} {w : List ℕ} {object : Option ℕ} {M N N1 : List Node} {j i o : List Lexeme}
    {ids : List ℕ} → CallBegun minimum p w object M j N i → ArgumentsRead N i N1 o ids →
    PostRead minimum Invocation p M j (put N1 (Call p w object ids)) o (length N1)
call_of_begun simple_begun a = simple_call a
call_of_begun (call_begun d) a = call_of d a

super_called : (r : Source) {b p u : Position} {flags ps : Option ℕ} {q : Position} {w : List ℕ} {s : List Entry}
    {M N : List Node} {i j : List Lexeme} {ids : List ℕ} → ArgumentsRead M i N j ids →
    Due r (for_body b) (ConstructorBody flags q w ps None ∷ s) M (a_word word_super p ∷ a_sign sign_left_parenthesis u
    ∷ i) → SuperEnds r b (ConstructorBody flags q w ps (Some (length N)) ∷ s) (put N (SuperCall p ids)) j
super_called r {M = M} {N = N} {i = i} {ids = ids} a (constructor_body g v d) x o e =
    super_body g v (subst (λ t. ArgumentsRead M i N t ids) e a) d

pub arguments_ended_stands : (r : Source) (ids : List ℕ) (N : List Node) (s : List Entry)
    (o : List Lexeme) {M : List Node} {i : List Lexeme} → ArgumentsRead M i N o ids → Due r for_arguments s M i →
    Leads r (arguments_ended ids N s) o
unfolding machine Leads Stands
arguments_ended_stands r ids N s o a (call_open c d) = behind (post_so (call_of_begun c a)) d
arguments_ended_stands r ids N s o a (new_open d) = behind (post_so (new_object a)) d
arguments_ended_stands r ids N s o a (super_call_open d) = super_called r a d

pub argument_ended_stands : (r : Source) (id : ℕ) (ids : List ℕ) (N : List Node) (s : List Entry) (t : Lexeme)
    (o : List Lexeme) {M : List Node} {i : List Lexeme} → ArgumentRead M i N (t ∷ o) id →
    Due r for_operand (ArgumentsOpen ids ∷ s) M i → Leads r (argument_ended id ids N s t) o
unfolding machine Leads Stands
argument_ended_stands r id ids N s (a_sign n p) o {M} {i} a (arguments_open b d) =
    on_number r (λ m. ArgumentRead M i N (a_sign m p ∷ o) id) n sign_comma a _ _ o
    (λ k. next_argument (arguments_open (argument_and_comma b k) d))
    (on_number r (λ m. ArgumentRead M i N (a_sign m p ∷ o) id) n sign_right_parenthesis a _ _ o
    (λ k. arguments_ended_stands r _ N s o (arguments b k) d) tt)
argument_ended_stands r id ids N s _ o a d = tt

target_alone_stands : (r : Source) (kind : PostKind) (p q : Position) (id : ℕ) (N : List Node) (s : List Entry)
    (o : List Lexeme) {k : Place} {M : List Node} {j : List Lexeme} →
    PostRead false kind p M j N (a_sign sign_semicolon q ∷ o) id → Due r (for_simple k) s M j →
    Leads r (target_alone kind p id N s) o
unfolding machine Leads Stands
target_alone_stands r Invocation p q id N s o v (simple_open d) = statement_done (call_statement v) d
target_alone_stands r Invocation p q id N s o v (for_head d) = tt
target_alone_stands r Invocation p q id N s o v (for_step f c d) = tt
target_alone_stands r _ p q id N s o v d = tt

target_assigned_stands : (r : Source) (kind : PostKind) (p q : Position) (id : ℕ) (N : List Node) (s : List Entry)
    (o : List Lexeme) {k : Place} {M : List Node} {j : List Lexeme} →
    PostRead false kind p M j N (a_sign sign_assign q ∷ o) id → Due r (for_simple k) s M j →
    Leads r (target_assigned kind id q N s) o
unfolding machine Leads Stands
target_assigned_stands r Variable p q id N s o v d = assign_value v d
target_assigned_stands r _ p q id N s o v d = tt

target_ended_stands : (r : Source) (kind : PostKind) (p : Position) (id : ℕ) (N : List Node) (s : List Entry) (t : Lexeme)
    (o : List Lexeme) {k : Place} {M : List Node} {j : List Lexeme} → PostRead false kind p M j N (t ∷ o) id →
    Due r (for_simple k) s M j → Leads r (target_ended kind p id N s t) o
unfolding machine Leads Stands
target_ended_stands r kind p id N s (a_sign n q) o {M = M} {j = j} v d =
    on_number r (λ m. PostRead false kind p M j N (a_sign m q ∷ o) id) n sign_assign v _ _ o
    (λ k. target_assigned_stands r kind p q id N s o k d)
    (on_number r (λ m. PostRead false kind p M j N (a_sign m q ∷ o) id) n sign_semicolon v _ _ o
    (λ k. target_alone_stands r kind p q id N s o k d) tt)
target_ended_stands r kind p id N s _ o v d = tt

-- ---- where expressions end

elements_read : {p : Position} {element e : ℕ} {M N N1 : List Node} {j i o : List Lexeme} {x y : Position} →
    LengthBegun p element M j N (a_sign sign_left_bracket x ∷ i) → Level 1 N i N1 (a_sign sign_right_bracket y ∷ o) e →
    PostRead false NewArrayKind p M j (put N1 (NewArray p element e)) o (length N1)
elements_read ints d = new_ints d
elements_read booleans d = new_booleans d
elements_read references d = new_references d

-- what the entry on top is a part of, where it is no operator
ended_stands : (r : Source) (e : Entry) (id : ℕ) (N : List Node) (s : List Entry) (t : Lexeme)
    (o : List Lexeme) {M : List Node} {j : List Lexeme} → Level 1 M j N (t ∷ o) id → Due r for_operand (e ∷ s) M j →
    Leads r (ended e id N s t) o
unfolding machine Leads Stands
ended_stands r e id N s (a_sign n q) o {M} {j} v (group_open h d) =
    on_number r (λ m. Level 1 M j N (a_sign m q ∷ o) id) n sign_right_parenthesis v _ _ o
    (λ k. behind (post_so (parenthesized h k)) d) tt
ended_stands r e id N s (a_sign n q) o {M} {j} v (index_open h x d) =
    on_number r (λ m. Level 1 M j N (a_sign m q ∷ o) id) n sign_right_bracket v _ _ o
    (λ k. behind (post_so (element_of h x k)) d) tt
ended_stands r e id N s (a_sign n q) o {M} {j} v (length_open x d) =
    on_number r (λ m. Level 1 M j N (a_sign m q ∷ o) id) n sign_right_bracket v _ _ o
    (λ k. behind (post_so (elements_read x k)) d) tt
ended_stands r e id N s t o v (arguments_open b d) =
    argument_ended_stands r id _ N s t o (expression_argument v) (arguments_open b d)
ended_stands r e id N s t o v (assign_value x d) = assigned_stands r _ _ s t o (assigned_read (assignment x v)) d
ended_stands r e id N s t o v (compound_value h d) =
    assigned_stands r _ _ s t o (assigned_read (compound_assignment h v)) d
ended_stands r e id N s t o v (local_value l x d) = assigned_stands r _ _ s t o (local_read l x v) d
ended_stands r e id N s (a_sign n q) o {M} {j} v (for_test f d) =
    on_number r (λ m. Level 1 M j N (a_sign m q ∷ o) id) n sign_semicolon v _ _ o (λ k. simple_due (for_step f k d)) tt
ended_stands r e id N s (a_sign n q) o {M} {j} v (if_test d) =
    on_number r (λ m. Level 1 M j N (a_sign m q ∷ o) id) n sign_right_parenthesis v _ _ o (λ k. if_then k d) tt
ended_stands r e id N s (a_sign n q) o {M} {j} v (while_test d) =
    on_number r (λ m. Level 1 M j N (a_sign m q ∷ o) id) n sign_right_parenthesis v _ _ o (λ k. while_rest k d) tt
ended_stands r e id N s (a_sign n q) o {M} {j} v (return_open d) =
    on_number r (λ m. Level 1 M j N (a_sign m q ∷ o) id) n sign_semicolon v _ _ o
    (λ k. statement_done (return_value k) d) tt
ended_stands r e id N s _ o v (group_open h d) = tt
ended_stands r e id N s _ o v (index_open h x d) = tt
ended_stands r e id N s _ o v (length_open x d) = tt
ended_stands r e id N s _ o v (for_test f d) = tt
ended_stands r e id N s _ o v (if_test d) = tt
ended_stands r e id N s _ o v (while_test d) = tt
ended_stands r e id N s _ o v (return_open d) = tt
ended_stands r e id N s _ o v (target h d) = tt
ended_stands r e id N s _ o v (binary_left h l f a d) = tt
ended_stands r e id N s _ o v (unary_open h a d) = tt
ended_stands r e id N s _ o v (cast_open h a d) = tt

-- ---- operators

-- what a lexeme of a level is: an operator
shifted_stands : (r : Source) (id : ℕ) (N : List Node) (s : List Entry) (t : Lexeme) (o : List Lexeme) {M : List Node}
    {j : List Lexeme} → Level (level_of t) M j N (t ∷ o) id → nat_le 1 (level_of t) ≡ true →
    fits s (level_of t) ≡ true → awaits_target s ≡ false → Due r for_operand s M j → Leads r (shifted id N s t) o
unfolding machine Leads Stands
shifted_stands r id N s (a_sign n p) o v h f a d = binary_left h v f a d
shifted_stands r id N s _ o v h f a d = tt

below_more : (a b : ℕ) → nat_lt a b ≡ true → nat_le 1 b ≡ true
below_more a b e = let f : a < b = ltb-true a b e in le-leb 1 b (omega arith)

one_more : (b : ℕ) → nat_lt 0 b ≡ true → nat_le 1 b ≡ true
one_more b e = below_more 0 b e

unary_made : {op : ℕ} {p : Position} {M N : List Node} {j o : List Lexeme} {id : ℕ} → UnaryKind op j → UnaryRead M j N o id →
    Read 11 M (a_sign op p ∷ j) (put N (Unary p op id)) o (length N)
unfolding begins_unary1 is_unary1_start
unary_made is_not d = read_unary1 (negation d)
unary_made is_tilde d = read_unary1 (complement d)
unary_made (is_minus h) d = read_unary (minus h d) refl

level_at_most : (t : Lexeme) → level_of t ≤ 11
unfolding level_of
level_at_most (a_sign n p) = omega (arith, few_levels n)
level_at_most _ = omega arith

fits_all : (s : List Entry) → fits s 11 ≡ true
unfolding fits
fits_all (BinaryLeft p op l ∷ s) = lt-ltb (level op) 11 (omega (arith, few_levels op))
fits_all (UnaryOpen p op ∷ s) = refl
fits_all (CastOpen p q w ∷ s) = refl
fits_all _ = refl

-- at an entry that is no operator
closed_at : (r : Source) (k id : ℕ) (N : List Node) (e : Entry) (s : List Entry) (t : Lexeme)
    (o : List Lexeme) {M : List Node} {j : List Lexeme} → Read k M j N (t ∷ o) id → nat_le 1 k ≡ true → level_of t ≤ k →
    ((n : ℕ) → nat_le 1 n ≡ true → fits (e ∷ s) n ≡ true) → awaits_target (e ∷ s) ≡ false →
    Due r for_operand (e ∷ s) M j → Leads r (if nat_lt 0 (level_of t) then shifted id N (e ∷ s) t else ended e id N s t)
    o
closed_at r k id N e s t o v f h g a d =
    leads_if r (nat_lt 0 (level_of t)) _ _ o
    (λ c. shifted_stands r id N (e ∷ s) t o (v.levels (level_of t) h) (one_more (level_of t) c)
    (g (level_of t) (one_more (level_of t) c)) a d)
    (λ c. ended_stands r e id N s t o (v.levels 1 (leb-true 1 k f)) d)

-- an operand is done with, up to the lexeme t
pub closed_stands : (r : Source) (k id : ℕ) (N : List Node) (s : List Entry) (t : Lexeme)
    (o : List Lexeme) {M : List Node} {j : List Lexeme} → Read k M j N (t ∷ o) id → fits s k ≡ true → level_of t ≤ k →
    Due r for_operand s M j → Leads r (closed id N s t) o
unfolding machine Leads Stands fits
closed_stands r k id N s t o v f h (binary_left {op = op} g l e a d) =
    leads_if r (nat_lt (level op) (level_of t)) _ _ o
    (λ c. shifted_stands r id N _ t o (v.levels (level_of t) h) (below_more (level op) (level_of t) c) c refl
    (binary_left g l e a d))
    (λ c. closed_stands r (level op) _ _ _ t o
    (read_binary op
    (binary g l (v.levels (suc (level op)) (let b : level op < k = ltb-true (level op) k f in omega arith)))) e
    (ltb-false (level op) (level_of t) c) d)
closed_stands r k id N s t o v f h (unary_open {s = z} u a d) =
    closed_stands r 11 _ _ z t o (unary_made u (v.unary (leb-true 11 k f))) (fits_all z) (level_at_most t) d
closed_stands r k id N s t o v f h (cast_open {s = z} b a d) =
    closed_stands r 11 _ _ z t o (read_unary1 (cast b (v.unary1 (leb-true 11 k f) b))) (fits_all z) (level_at_most t) d
closed_stands r k id N s t o v f h (target e d) = tt
closed_stands r k id N s t o v f h (group_open e d) = closed_at r k id N _ _ t o v f h (λ n c. c) refl (group_open e d)
closed_stands r k id N s t o v f h (index_open e x d) =
    closed_at r k id N _ _ t o v f h (λ n c. c) refl (index_open e x d)
closed_stands r k id N s t o v f h (length_open x d) =
    closed_at r k id N _ _ t o v f h (λ n c. c) refl (length_open x d)
closed_stands r k id N s t o v f h (arguments_open b d) =
    closed_at r k id N _ _ t o v f h (λ n c. c) refl (arguments_open b d)
closed_stands r k id N s t o v f h (assign_value x d) =
    closed_at r k id N _ _ t o v f h (λ n c. c) refl (assign_value x d)
closed_stands r k id N s t o v f h (compound_value e d) =
    closed_at r k id N _ _ t o v f h (λ n c. c) refl (compound_value e d)
closed_stands r k id N s t o v f h (local_value l x d) =
    closed_at r k id N _ _ t o v f h (λ n c. c) refl (local_value l x d)
closed_stands r k id N s t o v f h (for_test x d) = closed_at r k id N _ _ t o v f h (λ n c. c) refl (for_test x d)
closed_stands r k id N s t o v f h (if_test d) = closed_at r k id N _ _ t o v f h (λ n c. c) refl (if_test d)
closed_stands r k id N s t o v f h (while_test d) = closed_at r k id N _ _ t o v f h (λ n c. c) refl (while_test d)
closed_stands r k id N s t o v f h (return_open d) = closed_at r k id N _ _ t o v f h (λ n c. c) refl (return_open d)

-- ---- behind names, calls and brackets

post_ended_stands : (r : Source) (kind : PostKind) (p : Position) (id : ℕ) (N : List Node) (s : List Entry) (t : Lexeme)
    (o : List Lexeme) {minimum : Bool} {M : List Node} {j : List Lexeme} → PostRead minimum kind p M j N (t ∷ o) id →
    Due r for_operand s M j → Leads r (post_ended kind p id N s t) o
unfolding post_ended
post_ended_stands r kind p id N s t o {minimum = false} v (target e d) = target_ended_stands r kind p id N _ t o v d
post_ended_stands r kind p id N s t o {minimum = true} v (target e d) =
    absurd (true≢false (sym e ∙ minimum_no_target v))
post_ended_stands r kind p id N s t o v (binary_left g l e a d) =
    closed_stands r 11 id N _ t o (read_post v) (fits_all _) (level_at_most t) (binary_left g l e a d)
post_ended_stands r kind p id N s t o v (unary_open u a d) =
    closed_stands r 11 id N _ t o (read_post v) (fits_all _) (level_at_most t) (unary_open u a d)
post_ended_stands r kind p id N s t o v (cast_open b a d) =
    closed_stands r 11 id N _ t o (read_post v) (fits_all _) (level_at_most t) (cast_open b a d)
post_ended_stands r kind p id N s t o v (group_open e d) =
    closed_stands r 11 id N _ t o (read_post v) (fits_all _) (level_at_most t) (group_open e d)
post_ended_stands r kind p id N s t o v (index_open e x d) =
    closed_stands r 11 id N _ t o (read_post v) (fits_all _) (level_at_most t) (index_open e x d)
post_ended_stands r kind p id N s t o v (length_open x d) =
    closed_stands r 11 id N _ t o (read_post v) (fits_all _) (level_at_most t) (length_open x d)
post_ended_stands r kind p id N s t o v (arguments_open b d) =
    closed_stands r 11 id N _ t o (read_post v) (fits_all _) (level_at_most t) (arguments_open b d)
post_ended_stands r kind p id N s t o v (assign_value x d) =
    closed_stands r 11 id N _ t o (read_post v) (fits_all _) (level_at_most t) (assign_value x d)
post_ended_stands r kind p id N s t o v (compound_value e d) =
    closed_stands r 11 id N _ t o (read_post v) (fits_all _) (level_at_most t) (compound_value e d)
post_ended_stands r kind p id N s t o v (local_value l x d) =
    closed_stands r 11 id N _ t o (read_post v) (fits_all _) (level_at_most t) (local_value l x d)
post_ended_stands r kind p id N s t o v (for_test x d) =
    closed_stands r 11 id N _ t o (read_post v) (fits_all _) (level_at_most t) (for_test x d)
post_ended_stands r kind p id N s t o v (if_test d) =
    closed_stands r 11 id N _ t o (read_post v) (fits_all _) (level_at_most t) (if_test d)
post_ended_stands r kind p id N s t o v (while_test d) =
    closed_stands r 11 id N _ t o (read_post v) (fits_all _) (level_at_most t) (while_test d)
post_ended_stands r kind p id N s t o v (return_open d) =
    closed_stands r 11 id N _ t o (read_post v) (fits_all _) (level_at_most t) (return_open d)

pub post_stands : (r : Source) (kind : PostKind) (p : Position) (id : ℕ) (N : List Node) (s : List Entry) (t : Lexeme)
    (o : List Lexeme) {minimum : Bool} {M : List Node} {j : List Lexeme} → PostRead minimum kind p M j N (t ∷ o) id →
    Due r for_operand s M j → Leads r (post_step kind p id N s t) o
unfolding machine Leads Stands
post_stands r kind p id N s (a_sign n q) o {minimum} {M} {j} v d =
    on_number r (λ m. PostRead minimum kind p M j N (a_sign m q ∷ o) id) n sign_dot v _ _ o
    (λ k. past (behind (object_so k) d))
    (leads_if r (n == sign_left_bracket && indexable kind) _ _ o
    (λ e. index_open (and_right (n == sign_left_bracket) (indexable kind) e)
    (subst (λ m. PostRead minimum kind p M j N (a_sign m q ∷ o) id)
    (eqb-true n sign_left_bracket (and_left (n == sign_left_bracket) (indexable kind) e)) v) d)
    (λ e. post_ended_stands r kind p id N s (a_sign n q) o v d))
post_stands r kind p id N s (a_name n q) o v d = post_ended_stands r kind p id N s (a_name n q) o v d
post_stands r kind p id N s (a_word n q) o v d = post_ended_stands r kind p id N s (a_word n q) o v d
post_stands r kind p id N s (a_number n q) o v d = post_ended_stands r kind p id N s (a_number n q) o v d
post_stands r kind p id N s (a_text n q) o v d = post_ended_stands r kind p id N s (a_text n q) o v d
post_stands r kind p id N s (the_end q) o v d = post_ended_stands r kind p id N s (the_end q) o v d

pub post_done_stands : (r : Source) (kind : PostKind) (p : Position) (id : ℕ) (N : List Node) (s : List Entry) (t : Lexeme)
    (o : List Lexeme) → Stands r (PostDone kind p id) s N (t ∷ o) → Leads r (post_step kind p id N s t) o
unfolding Stands
post_done_stands r kind p id N s t o (behind (post_so v) d) = post_stands r kind p id N s t o v d

pub dot_stands : (r : Source) (object : ℕ) (N : List Node) (s : List Entry) (t : Lexeme) (o : List Lexeme) →
    Stands r (Dot object) s N (t ∷ o) → Leads r (dot_step object N s t) o
unfolding machine Leads Stands
dot_stands r object N s (a_name w p) o h = h
dot_stands r object N s _ o h = tt

pub dot_name_stands : (r : Source) (object : ℕ) (p : Position) (w : List ℕ) (N : List Node) (s : List Entry) (t : Lexeme)
    (o : List Lexeme) → Stands r (DotName object p w) s N (t ∷ o) → Leads r (dot_name_step object p w N s t) o
unfolding machine Leads Stands
dot_name_stands r object p w N s (a_sign n q) o
    (past {p = x} (behind {N = M} {i = j} (object_so {minimum = minimum} {kind = kind} {p = y} v) d)) =
    on_number r (λ m. PostRead minimum kind y M j N (a_sign sign_dot x ∷ a_name w p ∷ a_sign m q ∷ o) object) n
    sign_left_parenthesis v _ _ o (λ k. first_argument (call_open (call_begun k) d))
    (post_stands r Variable p _ _ s (a_sign n q) o (field_of v) d)
dot_name_stands r object p w N s (a_name n q) o (past (behind (object_so v) d)) =
    post_stands r Variable p _ _ s (a_name n q) o (field_of v) d
dot_name_stands r object p w N s (a_word n q) o (past (behind (object_so v) d)) =
    post_stands r Variable p _ _ s (a_word n q) o (field_of v) d
dot_name_stands r object p w N s (a_number n q) o (past (behind (object_so v) d)) =
    post_stands r Variable p _ _ s (a_number n q) o (field_of v) d
dot_name_stands r object p w N s (a_text n q) o (past (behind (object_so v) d)) =
    post_stands r Variable p _ _ s (a_text n q) o (field_of v) d
dot_name_stands r object p w N s (the_end q) o (past (behind (object_so v) d)) =
    post_stands r Variable p _ _ s (the_end q) o (field_of v) d

-- ---- names

target_name_stands : (r : Source) (p : Position) (w : List ℕ) (N : List Node) (s : List Entry) (n : ℕ) (q : Position)
    (o : List Lexeme) {k : Place} → starts_target (a_name w p ∷ a_sign n q ∷ o) ≡ true →
    Due r (for_simple k) s N (a_name w p ∷ a_sign n q ∷ o) → Leads r (target_name_step p w N s n q) o
unfolding machine Leads Stands
target_name_stands r p w N s n q o h d =
    leads_option r (compound n) _ _ o (λ op e. compound_value e d)
    (λ e. leads_option r (stepping n) _ _ o (λ op f. assigned_so (assigned_read (step_assignment f)) d)
    (λ f. post_stands r Variable p _ _ (Target ∷ s) (a_sign n q) o simple_name (target h d)))

name_sign_stands : (r : Source) (p : Position) (w : List ℕ) (N : List Node) (s : List Entry) (n : ℕ) (q : Position)
    (o : List Lexeme) → Due r for_operand s N (a_name w p ∷ a_sign n q ∷ o) → Leads r (name_sign_step p w N s n q) o
unfolding name_sign_step
name_sign_stands r p w N (Target ∷ s) n q o (target h d) = target_name_stands r p w N s n q o h d
name_sign_stands r p w N s n q o d = post_stands r Variable p _ _ s (a_sign n q) o simple_name d

pub name_stands : (r : Source) (p : Position) (w : List ℕ) (N : List Node) (s : List Entry) (t : Lexeme) (o : List Lexeme) →
    Stands r (NameRead p w) s N (t ∷ o) → Leads r (name_step p w N s t) o
unfolding machine Leads Stands
name_stands r p w N s (a_sign n q) o d =
    on_number r (λ m. Due r for_operand s N (a_name w p ∷ a_sign m q ∷ o)) n sign_left_parenthesis d _ _ o
    (λ k. first_argument (call_open simple_begun k)) (name_sign_stands r p w N s n q o d)
name_stands r p w N s (a_name n q) o d = post_stands r Variable p _ _ s (a_name n q) o simple_name d
name_stands r p w N s (a_word n q) o d = post_stands r Variable p _ _ s (a_word n q) o simple_name d
name_stands r p w N s (a_number n q) o d = post_stands r Variable p _ _ s (a_number n q) o simple_name d
name_stands r p w N s (a_text n q) o d = post_stands r Variable p _ _ s (a_text n q) o simple_name d
name_stands r p w N s (the_end q) o d = post_stands r Variable p _ _ s (the_end q) o simple_name d

-- ---- where an operand is due

-- a target begins with no sign but `(`
no_target : (r : Source) {s : List Entry} {N : List Node} {n : ℕ} {p : Position} {o : List Lexeme} →
    Due r for_operand s N (a_sign n p ∷ o) → (n == sign_left_parenthesis) ≡ false → awaits_target s ≡ false
unfolding starts_target awaits_target
no_target r (target h d) e = absurd (true≢false (sym h ∙ e))
no_target r (binary_left g l f a d) e = refl
no_target r (unary_open u a d) e = refl
no_target r (cast_open b a d) e = refl
no_target r (group_open f d) e = refl
no_target r (index_open f x d) e = refl
no_target r (length_open x d) e = refl
no_target r (arguments_open b d) e = refl
no_target r (assign_value x d) e = refl
no_target r (compound_value f d) e = refl
no_target r (local_value l x d) e = refl
no_target r (for_test x d) e = refl
no_target r (if_test d) e = refl
no_target r (while_test d) e = refl
no_target r (return_open d) e = refl

unary_at : (r : Source) {s : List Entry} {N : List Node} {n : ℕ} {p : Position} {o : List Lexeme} → UnaryKind n o →
    Due r for_operand s N (a_sign n p ∷ o) → Due r for_operand (UnaryOpen p n ∷ s) N o
unary_at r is_not d = unary_open is_not (no_target r d refl) d
unary_at r is_tilde d = unary_open is_tilde (no_target r d refl) d
unary_at r (is_minus h) d = unary_open (is_minus h) (no_target r d refl) d

operand_sign_stands : (r : Source) (n : ℕ) (p : Position) (N : List Node) (s : List Entry) (o : List Lexeme) →
    Due r for_operand s N (a_sign n p ∷ o) → Leads r (operand_sign n p N s) o
unfolding machine Leads Stands
operand_sign_stands r n p N s o d =
    on_number r (λ m. Due r for_operand s N (a_sign m p ∷ o)) n sign_left_parenthesis d _ _ o (λ k. k)
    (on_number r (λ m. Due r for_operand s N (a_sign m p ∷ o)) n sign_minus d _ _ o (λ k. (no_target r k refl, k))
    (leads_if r (n == sign_not || n == sign_tilde) _ _ o (λ e. unary_at r (either_kind (n == sign_not) refl e) d)
    (λ e. tt)))
  where
    either_kind : (b : Bool) → (n == sign_not) ≡ b → (n == sign_not || n == sign_tilde) ≡ true → UnaryKind n o
    either_kind true c e = subst (λ m. UnaryKind m o) (sym (eqb-true n sign_not c)) is_not
    either_kind false c e =
        subst (λ m. UnaryKind m o) (sym (eqb-true n sign_tilde (ap (λ b. b || n == sign_tilde) (sym c) ∙ e))) is_tilde

operand_word_stands : (r : Source) (n : ℕ) (p : Position) (N : List Node) (s : List Entry) (o : List Lexeme) →
    Due r for_operand s N (a_word n p ∷ o) → Leads r (operand_word n p N s) o
unfolding machine Leads Stands
operand_word_stands r n p N s o d =
    on_number r (λ m. Due r for_operand s N (a_word m p ∷ o)) n word_true d _ _ o (λ k. behind (post_so true_value) k)
    (on_number r (λ m. Due r for_operand s N (a_word m p ∷ o)) n word_false d _ _ o
    (λ k. behind (post_so false_value) k)
    (on_number r (λ m. Due r for_operand s N (a_word m p ∷ o)) n word_null d _ _ o (λ k. behind (post_so null_value) k)
    (on_number r (λ m. Due r for_operand s N (a_word m p ∷ o)) n word_this d _ _ o (λ k. behind (post_so this_value) k)
    (on_number r (λ m. Due r for_operand s N (a_word m p ∷ o)) n word_new d _ _ o (λ k. k) tt))))

pub operand_start_stands : (r : Source) (N : List Node) (s : List Entry) (t : Lexeme) (o : List Lexeme) →
    Due r for_operand s N (t ∷ o) → Leads r (operand_start N s t) o
unfolding machine Leads Stands
operand_start_stands r N s (a_name w p) o d = d
operand_start_stands r N s (a_word n p) o d = operand_word_stands r n p N s o d
operand_start_stands r N s (a_number n p) o d =
    leads_if r (is_minimum n) _ _ o (λ e. tt) (λ e. behind (post_so (number e)) d)
operand_start_stands r N s (a_text w p) o d = tt
operand_start_stands r N s (a_sign n p) o d = operand_sign_stands r n p N s o d
operand_start_stands r N s (the_end p) o d = tt

minus_number : (r : Source) {n : ℕ} {p q : Position} {s : List Entry} {N : List Node} {o : List Lexeme} →
    (n == 2147483648) ≡ true → Due r for_operand s N (a_sign sign_minus p ∷ a_number n q ∷ o) →
    Behind (Due r for_operand s) (PostSo Value p (length N) (put N (Number p n true)) o)
minus_number r {n} {p} {q} {s} {N} {o} e d =
    let c : n ≡ 2147483648 = eqb-true n 2147483648 e in
    subst (λ m. Behind (Due r for_operand s) (PostSo Value p (length N) (put N (Number p m true)) o)) (sym c)
    (behind (post_so minimum_number)
    (subst (λ m. Due r for_operand s N (a_sign sign_minus p ∷ a_number m q ∷ o)) c d))

pub minus_stands : (r : Source) (p : Position) (N : List Node) (s : List Entry) (t : Lexeme) (o : List Lexeme) →
    Stands r (Minus p) s N (t ∷ o) → Leads r (minus_step p N s t) o
unfolding machine Leads Stands
minus_stands r p N s (a_number n q) o (a, d) =
    leads_if r (is_minimum n) _ _ o (λ e. minus_number r e d)
    (λ e. operand_start_stands r N (UnaryOpen p sign_minus ∷ s) (a_number n q) o (unary_open (is_minus e) a d))
minus_stands r p N s (a_name n q) o (a, d) = operand_start_stands r N (UnaryOpen p sign_minus ∷ s) (a_name n q) o
    (unary_open (is_minus refl) a d)
minus_stands r p N s (a_word n q) o (a, d) = operand_start_stands r N (UnaryOpen p sign_minus ∷ s) (a_word n q) o
    (unary_open (is_minus refl) a d)
minus_stands r p N s (a_sign n q) o (a, d) = operand_start_stands r N (UnaryOpen p sign_minus ∷ s) (a_sign n q) o
    (unary_open (is_minus refl) a d)
minus_stands r p N s _ o (a, d) = tt

pub opened_stands : (r : Source) (p : Position) (N : List Node) (s : List Entry) (t : Lexeme) (o : List Lexeme) →
    Stands r (Opened p) s N (t ∷ o) → Leads r (opened_step p N s t) o
unfolding machine Leads Stands
opened_stands r p N s (a_name w q) o d = d
opened_stands r p N s (a_word n q) o d = operand_start_stands r N _ (a_word n q) o (group_open refl d)
opened_stands r p N s (a_number n q) o d = operand_start_stands r N _ (a_number n q) o (group_open refl d)
opened_stands r p N s (a_sign n q) o d = operand_start_stands r N _ (a_sign n q) o (group_open refl d)
opened_stands r p N s _ o d = tt

pub opened_name_stands : (r : Source) (p q : Position) (w : List ℕ) (N : List Node) (s : List Entry) (t : Lexeme)
    (o : List Lexeme) → Stands r (OpenedName p q w) s N (t ∷ o) → Leads r (opened_name_step p q w N s t) o
unfolding machine Leads Stands
opened_name_stands r p q w N s (a_sign n x) o d = leads_if r (n == sign_right_parenthesis) _ _ o
    (λ e. past (subst (λ m. Due r for_operand s N (a_sign sign_left_parenthesis p ∷ a_name w q ∷ a_sign m x ∷ o))
    (eqb-true n sign_right_parenthesis e) d))
    (λ e. name_stands r q w N (GroupOpen p ∷ s) (a_sign n x) o (group_open e d))
opened_name_stands r p q w N s (a_name n x) o d =
    name_stands r q w N (GroupOpen p ∷ s) (a_name n x) o (group_open refl d)
opened_name_stands r p q w N s (a_word n x) o d =
    name_stands r q w N (GroupOpen p ∷ s) (a_word n x) o (group_open refl d)
opened_name_stands r p q w N s (a_number n x) o d =
    name_stands r q w N (GroupOpen p ∷ s) (a_number n x) o (group_open refl d)
opened_name_stands r p q w N s (a_text n x) o d =
    name_stands r q w N (GroupOpen p ∷ s) (a_text n x) o (group_open refl d)
opened_name_stands r p q w N s (the_end x) o d = name_stands r q w N (GroupOpen p ∷ s) (the_end x) o (group_open refl d)

-- behind a target no cast follows
not_cast_stands : (r : Source) (p : Position) (id : ℕ) (N : List Node) (s : List Entry) (t : Lexeme) (o : List Lexeme) →
    awaits_target s ≡ true → is_unary1_start t ≡ true → Leads r (post_step Value p id N s t) o
unfolding machine Leads Stands
not_cast_stands r p id N (Target ∷ s) (a_sign n x) o a h =
    leads_if r (n == sign_dot) _ _ o
    (λ e. absurd (true≢false (sym e ∙ differs (λ m. is_unary1_start (a_sign m x)) n sign_dot h refl)))
    (λ f. leads_if r (n == sign_left_bracket && indexable Value) _ _ o
    (λ e. absurd
    (true≢false (sym (and_left (n == sign_left_bracket) true e)
    ∙ differs (λ m. is_unary1_start (a_sign m x)) n sign_left_bracket h refl)))
    (λ g. leads_if r (n == sign_assign) _ _ o
    (λ e. absurd (true≢false (sym e ∙ differs (λ m. is_unary1_start (a_sign m x)) n sign_assign h refl)))
    (λ k. leads_if r (n == sign_semicolon) _ _ o
    (λ e. absurd (true≢false (sym e ∙ differs (λ m. is_unary1_start (a_sign m x)) n sign_semicolon h refl)))
    (λ l. tt))))
not_cast_stands r p id N (Target ∷ s) _ o a h = tt
not_cast_stands r p id N _ t o a h = absurd (true≢false (sym a))

closed_name_at : (r : Source) (b c : Bool) (p q : Position) (w : List ℕ) (N : List Node) (s : List Entry) (t : Lexeme)
    (o : List Lexeme) → is_unary1_start t ≡ b → awaits_target s ≡ c → Stands r (ClosedName p q w) s N (t ∷ o) →
    Leads r
    (if b && not c then operand_start N (CastOpen p q w ∷ s) t else post_step Value p (length (put N (SimpleName q w)))
    (put (put N (SimpleName q w)) (Parenthesized p (length N))) s t) o
unfolding Stands begins_unary1
closed_name_at r true false p q w N s t o e f (past d) =
    operand_start_stands r N (CastOpen p q w ∷ s) t o (cast_open e f d)
closed_name_at r true true p q w N s t o e f (past d) = not_cast_stands r p _ _ s t o f e
closed_name_at r false c p q w N s t o e f (past d) = post_stands r Value p _ _ s t o (parenthesized_name e) d

pub closed_name_stands : (r : Source) (p q : Position) (w : List ℕ) (N : List Node) (s : List Entry) (t : Lexeme)
    (o : List Lexeme) → Stands r (ClosedName p q w) s N (t ∷ o) → Leads r (closed_name_step p q w N s t) o
unfolding closed_name_step
closed_name_stands r p q w N s t o h = closed_name_at r (is_unary1_start t) (awaits_target s) p q w N s t o refl refl h

-- ---- behind `new`

pub new_stands : (r : Source) (p : Position) (N : List Node) (s : List Entry) (t : Lexeme) (o : List Lexeme) →
    Stands r (NewStart p) s N (t ∷ o) → Leads r (new_step p N s t) o
unfolding machine Leads Stands
new_stands r p N s (a_name w q) o d = d
new_stands r p N s (a_word n q) o d =
    on_number r (λ m. Due r for_operand s N (a_word word_new p ∷ a_word m q ∷ o)) n word_int d _ _ o
    (λ k. behind ints k)
    (on_number r (λ m. Due r for_operand s N (a_word word_new p ∷ a_word m q ∷ o)) n word_boolean d _ _ o
    (λ k. behind booleans k) tt)
new_stands r p N s _ o d = tt

pub new_name_stands : (r : Source) (p q : Position) (w : List ℕ) (N : List Node) (s : List Entry) (t : Lexeme)
    (o : List Lexeme) → Stands r (NewName p q w) s N (t ∷ o) → Leads r (new_name_step p q w N s t) o
unfolding machine Leads Stands
new_name_stands r p q w N s (a_sign n x) o d =
    on_number r (λ m. Due r for_operand s N (a_word word_new p ∷ a_name w q ∷ a_sign m x ∷ o)) n sign_left_parenthesis d
    _ _ o (λ k. first_argument (new_open k))
    (on_number r (λ m. Due r for_operand s N (a_word word_new p ∷ a_name w q ∷ a_sign m x ∷ o)) n sign_left_bracket d _
    _ o (λ k. length_open references k) tt)
new_name_stands r p q w N s _ o d = tt

pub new_element_stands : (r : Source) (p : Position) (element : ℕ) (N : List Node) (s : List Entry) (t : Lexeme)
    (o : List Lexeme) → Stands r (NewElement p element) s N (t ∷ o) → Leads r (new_element_step p element N s t) o
unfolding machine Leads Stands
new_element_stands r p element N s (a_sign n x) o (behind {N = M} {i = j} b d) =
    on_number r (λ m. LengthBegun p element M j N (a_sign m x ∷ o)) n sign_left_bracket b _ _ o
    (λ k. length_open k d) tt
new_element_stands r p element N s _ o h = tt

-- ---- arguments

pub argument_start_stands : (r : Source) (N : List Node) (s : List Entry) (t : Lexeme) (o : List Lexeme) →
    NextArgument r s N (t ∷ o) → Leads r (argument_start N s t) o
unfolding machine Leads Stands
argument_start_stands r N s (a_text w p) o (next_argument d) = text_so text_argument d
argument_start_stands r N s (a_name w p) o (next_argument d) = operand_start_stands r N _ (a_name w p) o d
argument_start_stands r N s (a_word w p) o (next_argument d) = operand_start_stands r N _ (a_word w p) o d
argument_start_stands r N s (a_number w p) o (next_argument d) = operand_start_stands r N _ (a_number w p) o d
argument_start_stands r N s (a_sign w p) o (next_argument d) = operand_start_stands r N _ (a_sign w p) o d
argument_start_stands r N s (the_end p) o (next_argument d) = tt

pub argument_first_stands : (r : Source) (N : List Node) (s : List Entry) (t : Lexeme) (o : List Lexeme) →
    Stands r ArgumentFirst s N (t ∷ o) → Leads r (argument_first_step N s t) o
unfolding machine Leads Stands
argument_first_stands r N s (a_sign n p) o (first_argument {s = z} d) =
    on_number r (λ m. Due r for_arguments z N (a_sign m p ∷ o)) n sign_right_parenthesis d _ _ o
    (λ k. arguments_ended_stands r [] N _ o no_arguments k)
    (argument_start_stands r N _ (a_sign n p) o (next_argument (arguments_open no_argument_yet d)))
argument_first_stands r N s (a_name n p) o (first_argument d) =
    argument_start_stands r N _ (a_name n p) o (next_argument (arguments_open no_argument_yet d))
argument_first_stands r N s (a_word n p) o (first_argument d) =
    argument_start_stands r N _ (a_word n p) o (next_argument (arguments_open no_argument_yet d))
argument_first_stands r N s (a_number n p) o (first_argument d) =
    argument_start_stands r N _ (a_number n p) o (next_argument (arguments_open no_argument_yet d))
argument_first_stands r N s (a_text n p) o (first_argument d) =
    argument_start_stands r N _ (a_text n p) o (next_argument (arguments_open no_argument_yet d))
argument_first_stands r N s (the_end p) o (first_argument d) = tt

pub text_stands : (r : Source) (id : ℕ) (N : List Node) (s : List Entry) (t : Lexeme) (o : List Lexeme) →
    Stands r (TextRead id) s N (t ∷ o) → Leads r (text_step id N s t) o
unfolding machine Leads Stands
text_stands r id N s t o (text_so a d) = argument_ended_stands r id _ N _ t o a d
