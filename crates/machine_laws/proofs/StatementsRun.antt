-- The machine runs statements.
use Rattle.std.proofs.Common.{ap, refl, subst, sym, ◌∙◌}
use Rattle.std.proofs.lemmas.Bool.{eqb-true}
use Rattle.std.specs.Prelude.{Bool, List, None, Option, Some, [], false, if◌then◌else◌, is_some, length, not, true, ℕ, ◌&&◌, ◌==◌, ◌∷◌, ◌≡◌}
use Rattle.machine_laws.proofs.Begins.{and_left, begins_operand, both, calls_on, differs, ends, ends_up, follows, level_begins, never, not_false, not_true}
use Rattle.machine_laws.proofs.ExpressionsRun.{below_level, level_run, opens_at, post_run}
use Rattle.machine_laws.proofs.Tools.{after, fails, holds, is_none_there, is_some_there, machine, next}
use Rattle.parser_machine.specs.Blocks.{first_start}
use Rattle.parser_machine.specs.Closing.{assigned, closed, compounded, compounded_number}
use Rattle.parser_machine.specs.Machine.{answer}
use Rattle.parser_machine.specs.Operands.{is_operand_start, stepping_step}
use Rattle.parser_machine.specs.States.{at}
use Rattle.parser_machine.specs.declared.entries.Entry.{Entry}
use Rattle.parser_machine.specs.declared.entries.Entry.TheVariants.{AssignValue, CompoundValue, IndexOpen, LocalOpen, Simple, Target}
use Rattle.parser_machine.specs.declared.modes.Mode.TheVariants.{Assigned, ForStepStart, NameBracket, NameFirst, NameRead, Operand, StatementStart, TypeArgumentName}
use Rattle.scj_base.specs.Vocabulary.{sign_at, sign_left_brace, sign_left_bracket, sign_left_parenthesis, sign_less, sign_right_bracket, sign_semicolon, word_boolean, word_final, word_for, word_if, word_int, word_return, word_while}
use Rattle.scj_base.specs.declared.positions.Position.{Position}
use Rattle.scj_tree.specs.Expressions.{PostRead, call_of, element_of, false_value, field_of, new_booleans, new_ints, new_object, new_references, null_value, number, parenthesized, parenthesized_name, simple_call, simple_name, this_value, true_value}
use Rattle.scj_tree.specs.Nodes.{put}
use Rattle.scj_tree.specs.Lexemes.{Lexeme, a_name, a_number, a_sign, a_text, a_word, the_end}
use Rattle.scj_tree.specs.Statements.{AssignmentRead, assignment, compound_assignment, name_twice, step_assignment}
use Rattle.scj_tree.specs.Terminals.{begins_with_sign, compound, is_unary1_start, level, stepping, has_type_argument}
use Rattle.scj_tree.specs.declared.nodes.Node.{Node}
use Rattle.scj_tree.specs.declared.nodes.Node.TheVariants.{Assign, SimpleName}
use Rattle.scj_tree.specs.declared.parsed_parts.PostKind.{PostKind}

-- ---- what a target begins with

unfoldable pub is_target_start : Lexeme → Bool
is_target_start (a_sign n p) = n == sign_left_parenthesis
is_target_start t = is_unary1_start t

unfoldable pub begins_target : List Lexeme → Bool
begins_target [] = false
begins_target (t ∷ o) = is_target_start t

pub target_begins : {k : PostKind} {p : Position} {N N1 : List Node} {i o : List Lexeme} {e : ℕ} →
    PostRead false k p N i N1 o e → begins_target i ≡ true
unfolding begins_target is_target_start is_unary1_start
target_begins simple_name = refl
target_begins (simple_call a) = refl
target_begins (field_of d) = target_begins d
target_begins (call_of d a) = target_begins d
target_begins (element_of h d x) = target_begins d
target_begins (number h) = refl
target_begins true_value = refl
target_begins false_value = refl
target_begins null_value = refl
target_begins this_value = refl
target_begins (parenthesized h d) = refl
target_begins (parenthesized_name h) = refl
target_begins (new_object a) = refl
target_begins (new_ints d) = refl
target_begins (new_booleans d) = refl
target_begins (new_references d) = refl

-- behind a name that is no type
unfoldable pub name_goes_on : List Lexeme → Bool
name_goes_on (a_name w p ∷ o) = false
name_goes_on (a_sign n p ∷ o) = not (n == sign_less)
    && not (n == sign_left_bracket && begins_with_sign sign_right_bracket o)
name_goes_on _ = true

unfoldable pub no_local : List Lexeme → Bool
no_local (a_name w p ∷ o) = name_goes_on o
no_local _ = true

no_bracket : (i : List Lexeme) → begins_operand i ≡ true → begins_with_sign sign_right_bracket i ≡ false
unfolding begins_with_sign begins_operand is_operand_start is_unary1_start
no_bracket [] e = refl
no_bracket (a_sign n p ∷ o) e = differs (λ m. is_operand_start (a_sign m p)) n sign_right_bracket e refl
no_bracket (a_name w p ∷ o) e = refl
no_bracket (a_word w p ∷ o) e = refl
no_bracket (a_number w p ∷ o) e = refl
no_bracket (a_text w p ∷ o) e = refl
no_bracket (the_end p ∷ o) e = refl

pub post_no_local : {k : PostKind} {p : Position} {N N1 : List Node} {i o : List Lexeme} {e : ℕ} →
    PostRead false k p N i N1 o e → name_goes_on o ≡ true → no_local i ≡ true
unfolding no_local name_goes_on
post_no_local simple_name g = g
post_no_local (simple_call a) g = refl
post_no_local (field_of d) g = post_no_local d refl
post_no_local (call_of d a) g = post_no_local d refl
post_no_local (element_of {i1 = i1} h d x) g = post_no_local d (not_false _ (no_bracket i1 (level_begins x)))
post_no_local (number h) g = refl
post_no_local true_value g = refl
post_no_local false_value g = refl
post_no_local null_value g = refl
post_no_local this_value g = refl
post_no_local (parenthesized h d) g = refl
post_no_local (parenthesized_name h) g = refl
post_no_local (new_object a) g = refl
post_no_local (new_ints d) g = refl
post_no_local (new_booleans d) g = refl
post_no_local (new_references d) g = refl

-- ---- where a target is due

bracket_run : (p : Position) (w : List ℕ) (q : Position) (N : List Node) (s : List Entry) (o : List Lexeme) →
    begins_with_sign sign_right_bracket o ≡ false →
    answer (at (NameBracket p w q) s N) o ≡ answer
    (at Operand (IndexOpen q (length N) ∷ Target ∷ s) (put N (SimpleName p w))) o
unfolding machine
bracket_run p w q N s [] e = refl
bracket_run p w q N s (a_name v r ∷ o) e = refl
bracket_run p w q N s (a_word v r ∷ o) e = refl
bracket_run p w q N s (a_number v r ∷ o) e = refl
bracket_run p w q N s (a_text v r ∷ o) e = refl
bracket_run p w q N s (a_sign n r ∷ o) e = fails _ _ _ o e
bracket_run p w q N s (the_end r ∷ o) e = refl

-- `[` behind a name
bracket_sign_run : (p : Position) (w : List ℕ) (q : Position) (N : List Node) (s : List Entry) (o : List Lexeme) →
    begins_with_sign sign_right_bracket o ≡ false →
    answer (at (NameFirst p w) s N) (a_sign sign_left_bracket q ∷ o) ≡ answer (at (NameRead p w) (Target ∷ s) N)
    (a_sign sign_left_bracket q ∷ o)
unfolding machine
bracket_sign_run p w q N s o e = bracket_run p w q N s o e

at_bracket : (p : Position) (w : List ℕ) (n : ℕ) (q : Position) (N : List Node) (s : List Entry) (o : List Lexeme) →
    n ≡ sign_left_bracket → name_goes_on (a_sign n q ∷ o) ≡ true →
    answer (at (NameFirst p w) s N) (a_sign n q ∷ o) ≡ answer (at (NameRead p w) (Target ∷ s) N) (a_sign n q ∷ o)
unfolding name_goes_on
at_bracket p w n q N s o h =
    subst (λ m. name_goes_on (a_sign m q ∷ o) ≡ true → answer (at (NameFirst p w) s N) (a_sign m q ∷ o) ≡ answer
    (at (NameRead p w) (Target ∷ s) N) (a_sign m q ∷ o)) (sym h) (λ e. bracket_sign_run p w q N s o (not_true _ e))

other_sign_run : (p : Position) (w : List ℕ) (n : ℕ) (q : Position) (N : List Node) (s : List Entry) (o : List Lexeme)
    (b : Bool) → (n == sign_left_bracket) ≡ b → name_goes_on (a_sign n q ∷ o) ≡ true →
    answer (at (NameFirst p w) s N) (a_sign n q ∷ o) ≡ answer (at (NameRead p w) (Target ∷ s) N) (a_sign n q ∷ o)
unfolding machine name_goes_on
other_sign_run p w n q N s o false h e =
    fails (n == sign_less)
    (if has_type_argument w then Some (at (TypeArgumentName p w) (LocalOpen None ∷ s) N) else None) _ o
    (not_true (n == sign_less)
    (and_left (not (n == sign_less)) (not (n == sign_left_bracket && begins_with_sign sign_right_bracket o)) e))
    ∙ fails (n == sign_left_bracket) (Some (at (NameBracket p w q) s N)) _ o h
other_sign_run p w n q N s o true h e = at_bracket p w n q N s o (eqb-true n sign_left_bracket h) e

no_name : {A : Type 0} (v : List ℕ) (q : Position) (o : List Lexeme) → name_goes_on (a_name v q ∷ o) ≡ true → A
unfolding name_goes_on
no_name v q o e = never e

name_first_run : (p : Position) (w : List ℕ) (N : List Node) (s : List Entry) (o : List Lexeme) → name_goes_on o ≡ true →
    answer (at (NameFirst p w) s N) o ≡ answer (at (NameRead p w) (Target ∷ s) N) o
unfolding machine
name_first_run p w N s [] e = refl
name_first_run p w N s (a_name v q ∷ o) e = no_name v q o e
name_first_run p w N s (a_word v q ∷ o) e = refl
name_first_run p w N s (a_number v q ∷ o) e = refl
name_first_run p w N s (a_text v q ∷ o) e = refl
name_first_run p w N s (a_sign n q ∷ o) e = other_sign_run p w n q N s o (n == sign_left_bracket) refl e
name_first_run p w N s (the_end q ∷ o) e = refl

pub first_target_run : (N : List Node) (s : List Entry) (i : List Lexeme) → begins_target i ≡ true → no_local i ≡ true →
    next (first_start N s) i ≡ answer (at Operand (Target ∷ s) N) i
unfolding machine begins_target is_target_start no_local
first_target_run N s [] e g = refl
first_target_run N s (a_name w p ∷ o) e g = name_first_run p w N s o g
first_target_run N s (a_word n p ∷ o) e g =
    fails _ _ _ o (differs (λ m. is_unary1_start (a_word m p)) n word_int e refl)
    ∙ fails _ _ _ o (differs (λ m. is_unary1_start (a_word m p)) n word_boolean e refl)
first_target_run N s (a_number n p ∷ o) e g = refl
first_target_run N s (a_text w p ∷ o) e g = never e
first_target_run N s (a_sign n p ∷ o) e g = holds _ _ _ o e ∙ sym (holds _ _ _ o e)
first_target_run N s (the_end p ∷ o) e g = never e

pub step_target_run : (N : List Node) (s : List Entry) (i : List Lexeme) → begins_target i ≡ true →
    answer (at ForStepStart s N) i ≡ answer (at Operand (Target ∷ s) N) i
unfolding machine begins_target is_target_start
step_target_run N s [] e = refl
step_target_run N s (a_name w p ∷ o) e = refl
step_target_run N s (a_word n p ∷ o) e = refl
step_target_run N s (a_number n p ∷ o) e = refl
step_target_run N s (a_text w p ∷ o) e = never e
step_target_run N s (a_sign n p ∷ o) e = holds _ _ _ o e ∙ sym (holds _ _ _ o e)
step_target_run N s (the_end p ∷ o) e = never e

pub statement_target_run : (N : List Node) (s : List Entry) (i : List Lexeme) → begins_target i ≡ true →
    answer (at StatementStart s N) i ≡ next (first_start N (Simple ∷ s)) i
unfolding machine begins_target is_target_start
statement_target_run N s [] e = refl
statement_target_run N s (a_name w p ∷ o) e = refl
statement_target_run N s (a_word n p ∷ o) e = fails _ _ _ o (d word_if refl)
    ∙ (fails _ _ _ o (d word_while refl)
    ∙ (fails _ _ _ o (d word_for refl) ∙ (fails _ _ _ o (d word_return refl) ∙ fails _ _ _ o (d word_final refl))))
  where
    d : (k : ℕ) → is_unary1_start (a_word k p) ≡ false → (n == k) ≡ false
    d k = differs (λ m. is_unary1_start (a_word m p)) n k e
statement_target_run N s (a_number n p ∷ o) e = refl
statement_target_run N s (a_text w p ∷ o) e = never e
statement_target_run N s (a_sign n p ∷ o) e = fails _ _ _ o (d sign_left_brace refl)
    ∙ (fails _ _ _ o (d sign_semicolon refl) ∙ fails _ _ _ o (d sign_at refl))
  where
    d : (k : ℕ) → (k == sign_left_parenthesis) ≡ false → (n == k) ≡ false
    d k = differs (λ m. m == sign_left_parenthesis) n k e
statement_target_run N s (the_end p ∷ o) e = never e

-- ---- assignments

unfoldable steps : ℕ → Bool
steps n = is_some (stepping n)

steps_no_compound : (n : ℕ) → steps n ≡ true → compound n ≡ None
unfolding steps stepping compound
steps_no_compound n e =
    rw (d 36 refl)
    (rw (d 37 refl)
    (rw (d 38 refl)
    (rw (d 39 refl)
    (rw (d 40 refl)
    (rw (d 41 refl) (rw (d 42 refl) (rw (d 43 refl) (rw (d 44 refl) (rw (d 45 refl) (rw (d 46 refl) refl))))))))))
  where
    d : (k : ℕ) → steps k ≡ false → (n == k) ≡ false
    d k = differs steps n k e

some_of : (r : Option ℕ) (x : ℕ) → r ≡ Some x → is_some r ≡ true
some_of r x e = ap is_some e

value_end_run : (p : Position) (x e : ℕ) (N : List Node) (s : List Entry) (o : List Lexeme) → ends 0 o ≡ true →
    next (closed e N (AssignValue p x ∷ s)) o ≡ next (assigned (length N) (put N (Assign p x e)) s) o
unfolding machine ends
value_end_run p x e N s [] h = refl
value_end_run p x e N s (a_name w q ∷ o) h = refl
value_end_run p x e N s (a_word w q ∷ o) h = refl
value_end_run p x e N s (a_number w q ∷ o) h = refl
value_end_run p x e N s (a_text w q ∷ o) h = refl
value_end_run p x e N s (a_sign m q ∷ o) h = fails _ _ _ o (below_level 0 (level m) (and_left _ _ h))
value_end_run p x e N s (the_end q ∷ o) h = refl

compound_end_run : (p : Position) (op x l e : ℕ) (N : List Node) (s : List Entry) (o : List Lexeme) → ends 0 o ≡ true →
    next (closed e N (CompoundValue p op x l ∷ s)) o ≡ next
    (assigned (compounded_number N p op l e) (compounded N p op x l e) s) o
unfolding machine ends
compound_end_run p op x l e N s [] h = refl
compound_end_run p op x l e N s (a_name w q ∷ o) h = refl
compound_end_run p op x l e N s (a_word w q ∷ o) h = refl
compound_end_run p op x l e N s (a_number w q ∷ o) h = refl
compound_end_run p op x l e N s (a_text w q ∷ o) h = refl
compound_end_run p op x l e N s (a_sign m q ∷ o) h = fails _ _ _ o (below_level 0 (level m) (and_left _ _ h))
compound_end_run p op x l e N s (the_end q ∷ o) h = refl

assigned_run : (id : ℕ) (N : List Node) (s : List Entry) (o : List Lexeme) →
    answer (at (Assigned id) s N) o ≡ next (assigned id N s) o
unfolding machine
assigned_run id N s [] = refl
assigned_run id N s (t ∷ o) = refl

compound_begin_run : (n op : ℕ) (w : List ℕ) (p q : Position) (N : List Node) (s : List Entry) (i : List Lexeme) →
    compound n ≡ Some op → answer (at (NameRead q w) (Target ∷ s) N) (a_sign n p ∷ i) ≡ answer
    (at Operand (CompoundValue p op (length N) (length (put N (SimpleName q w))) ∷ s) (name_twice N q w)) i
unfolding machine
compound_begin_run n op w p q N s i u =
    fails _ _ _ i (differs (λ m. is_some (compound m)) n sign_left_parenthesis (some_of _ _ u) refl)
    ∙ is_some_there _ _ _ _ i u

stepping_run : (n op : ℕ) (w : List ℕ) (p q : Position) (N : List Node) (s : List Entry) (i : List Lexeme) →
    stepping n ≡ Some op → answer (at (NameRead q w) (Target ∷ s) N) (a_sign n p ∷ i) ≡ after
    (stepping_step q w p op N s) i
unfolding machine steps
stepping_run n op w p q N s i u = fails _ _ _ i (differs steps n sign_left_parenthesis (some_of _ _ u) refl)
    ∙ (is_none_there _ _ _ i (steps_no_compound n (some_of _ _ u)) ∙ is_some_there _ _ _ _ i u)

pub assignment_run : {N N1 : List Node} {i o : List Lexeme} {id : ℕ} → AssignmentRead N i N1 o id → ends 0 o ≡ true →
    (s : List Entry) → answer (at Operand (Target ∷ s) N) i ≡ next (assigned id N1 s) o
unfolding machine follows calls_on opens_at
assignment_run {o = o} (assignment {N2 = N2} {x = x} {e = e} {p = p} d v) h s = post_run d refl (Target ∷ s)
    ∙ (level_run v (ends_up 0 o h) (AssignValue p x ∷ s) refl ∙ value_end_run p x e N2 s o h)
assignment_run {N = N} {o = o}
    (compound_assignment {N1 = N1} {i = i} {e = e} {w = w} {n = n} {op = op} {p = p} {q = q} u v) h s =
    compound_begin_run n op w p q N s i u
    ∙ (level_run v (ends_up 0 o h) (CompoundValue p op (length N) (length (put N (SimpleName q w))) ∷ s) refl
    ∙ compound_end_run p op (length N) (length (put N (SimpleName q w))) e N1 s o h)
assignment_run {N = N} {N1 = N1} {o = o} {id = id} (step_assignment {w = w} {n = n} {op = op} {p = p} {q = q} u) h s =
    stepping_run n op w p q N s o u ∙ assigned_run id N1 s o

pub assignment_begins : {N N1 : List Node} {i o : List Lexeme} {id : ℕ} → AssignmentRead N i N1 o id →
    begins_target i ≡ true
unfolding begins_target is_target_start is_unary1_start
assignment_begins (assignment d v) = target_begins d
assignment_begins (compound_assignment u v) = refl
assignment_begins (step_assignment u) = refl

sign_goes_on : (f : ℕ → Bool) (n : ℕ) (p : Position) (o : List Lexeme) → f n ≡ true → f sign_less ≡ false →
    f sign_left_bracket ≡ false → name_goes_on (a_sign n p ∷ o) ≡ true
unfolding name_goes_on
sign_goes_on f n p o e g h =
    both _ _ (not_false _ (differs f n sign_less e g))
    (not_false _ (ap (λ b. b && begins_with_sign sign_right_bracket o) (differs f n sign_left_bracket e h)))

pub assignment_no_local : {N N1 : List Node} {i o : List Lexeme} {id : ℕ} → AssignmentRead N i N1 o id →
    no_local i ≡ true
unfolding no_local name_goes_on compound stepping
assignment_no_local (assignment d v) = post_no_local d refl
assignment_no_local (compound_assignment {i = i} {n = n} {p = p} u v) =
    sign_goes_on (λ m. is_some (compound m)) n p i (some_of _ _ u) refl refl
assignment_no_local {o = o} (step_assignment {n = n} {p = p} u) =
    sign_goes_on (λ m. is_some (stepping m)) n p o (some_of _ _ u) refl refl
