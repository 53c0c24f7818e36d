-- The machine runs expressions: from where an operand is due to where it is followed by what ends it.
use Rattle.std.proofs.Common.{ap, arith, refl, sym, ◌∙◌}
use Rattle.std.proofs.lemmas.Bool.{le-ltb, leb-true, lt-ltb, ltb-true}
use Rattle.std.specs.Prelude.{Bool, List, None, Option, Some, [], false, is_some, length, nat_le, nat_lt, not, suc, true, ℕ, ◌&&◌, ◌<◌, ◌==◌, ◌∷◌, ◌≡◌}
use Rattle.machine_laws.proofs.Begins.{and_left, and_right, begins_operand, both, calls_on, continues, differs, ends, ends_up, follows, follows_of, level_begins, never, none_of, not_false, not_true, operator_rest, or_left, or_right}
use Rattle.machine_laws.proofs.Tools.{after, fails, holds, is_none_there, machine, next}
use Rattle.parser_machine.specs.Closing.{admits, arguments_ended, closed}
use Rattle.parser_machine.specs.Machine.{answer}
use Rattle.parser_machine.specs.Operands.{awaits_target, is_operand_start, name_sign_step, post_ended, post_step, target_name_step}
use Rattle.parser_machine.specs.States.{State, at}
use Rattle.parser_machine.specs.declared.entries.Entry.{Entry}
use Rattle.parser_machine.specs.declared.entries.Entry.TheVariants.{ArgumentsOpen, BinaryLeft, CallOpen, CastOpen, GroupOpen, IndexOpen, LengthOpen, NewOpen, Target, UnaryOpen}
use Rattle.parser_machine.specs.declared.modes.Mode.TheVariants.{ArgumentFirst, ArgumentNext, ClosedName, DotName, Minus, NameRead, Opened, Operand, PostDone, TextRead}
use Rattle.scj_base.specs.Vocabulary.{sign_dot, sign_left_bracket, sign_left_parenthesis, sign_minus, sign_not, sign_right_parenthesis, sign_tilde}
use Rattle.scj_base.specs.declared.positions.Position.{Position}
use Rattle.scj_tree.specs.Expressions.{ArgumentRead, ArgumentsBegun, ArgumentsRead, Level, PostRead, Unary1Read, UnaryRead, argument_and_comma, arguments, binary, call_of, cast, complement, element_of, expression_argument, false_value, field_of, minimum_number, minimum_unary, minus, negation, new_booleans, new_ints, new_object, new_references, no_argument_yet, no_arguments, null_value, number, operand, parenthesized, parenthesized_name, plain_unary, post_unary, simple_call, simple_name, text_argument, this_value, tighter, true_value}
use Rattle.scj_tree.specs.Nodes.{put}
use Rattle.scj_tree.specs.Lexemes.{Lexeme, a_name, a_number, a_sign, a_text, a_word, the_end}
use Rattle.scj_tree.specs.Terminals.{begins_unary1, begins_with_minimum, closes_name, compound, indexable, is_unary1_start, level, stepping}
use Rattle.scj_tree.specs.declared.nodes.Node.{Node}
use Rattle.scj_tree.specs.declared.nodes.Node.TheVariants.{Binary, FieldAccess, Parenthesized, SimpleName}
use Rattle.scj_tree.specs.declared.parsed_parts.PostKind.{PostKind}
use Rattle.scj_tree.specs.declared.parsed_parts.PostKind.TheVariants.{Value, Variable}
use mathlib.Core.Bool.{true≢false}

-- ---- single steps

post_ended_is : (kind : PostKind) (p : Position) (id : ℕ) (N : List Node) (s : List Entry) (t : Lexeme) →
    awaits_target s ≡ false → post_ended kind p id N s t ≡ closed id N s t
unfolding post_ended awaits_target
post_ended_is kind p id N (Target ∷ s) t e = absurd (true≢false e)
post_ended_is kind p id N s t e = refl

post_done_run : (kind : PostKind) (p : Position) (id : ℕ) (N : List Node) (s : List Entry) (o : List Lexeme) →
    ends 11 o ≡ true → awaits_target s ≡ false → answer (at (PostDone kind p id) s N) o ≡ next (closed id N s) o
unfolding machine ends continues
post_done_run kind p id N s [] e h = refl
post_done_run kind p id N s (a_name w q ∷ o) e h = ap (λ r. after r o) (post_ended_is kind p id N s (a_name w q) h)
post_done_run kind p id N s (a_word w q ∷ o) e h = ap (λ r. after r o) (post_ended_is kind p id N s (a_word w q) h)
post_done_run kind p id N s (a_number w q ∷ o) e h = ap (λ r. after r o) (post_ended_is kind p id N s (a_number w q) h)
post_done_run kind p id N s (a_text w q ∷ o) e h = ap (λ r. after r o) (post_ended_is kind p id N s (a_text w q) h)
post_done_run kind p id N s (a_sign m q ∷ o) e h =
    fails _ _ _ o (or_left (m == sign_dot) _ (not_true _ (and_right _ _ e)))
    ∙ (fails (m == sign_left_bracket && indexable kind) _ _ o
    (ap (λ b. b && indexable kind)
    (or_left (m == sign_left_bracket) (calls_on m) (or_right (m == sign_dot) _ (not_true _ (and_right _ _ e)))))
    ∙ ap (λ r. after r o) (post_ended_is kind p id N s (a_sign m q) h))
post_done_run kind p id N s (the_end q ∷ o) e h = ap (λ r. after r o) (post_ended_is kind p id N s (the_end q) h)

name_sign_is : (p : Position) (w : List ℕ) (N : List Node) (s : List Entry) (m : ℕ) (q : Position) (o : List Lexeme) →
    compound m ≡ None → stepping m ≡ None →
    after (name_sign_step p w N s m q) o ≡ after
    (post_step Variable p (length N) (put N (SimpleName p w)) s (a_sign m q)) o
unfolding name_sign_step target_name_step
name_sign_is p w N (Target ∷ s) m q o e f = is_none_there _ _ _ o e ∙ is_none_there _ _ _ o f
name_sign_is p w N s m q o e f = refl

name_run : (p : Position) (w : List ℕ) (N : List Node) (s : List Entry) (o : List Lexeme) → follows o ≡ true →
    answer (at (NameRead p w) s N) o ≡ answer (at (PostDone Variable p (length N)) s (put N (SimpleName p w))) o
unfolding machine follows calls_on
name_run p w N s [] e = refl
name_run p w N s (a_name v q ∷ o) e = refl
name_run p w N s (a_word v q ∷ o) e = refl
name_run p w N s (a_number v q ∷ o) e = refl
name_run p w N s (a_text v q ∷ o) e = refl
name_run p w N s (a_sign m q ∷ o) e =
    fails _ _ _ o (or_left (m == sign_left_parenthesis) _ (not_true _ e))
    ∙ name_sign_is p w N s m q o
    (none_of _ (or_left (is_some (compound m)) _ (or_right (m == sign_left_parenthesis) _ (not_true _ e))))
    (none_of _ (or_right (is_some (compound m)) _ (or_right (m == sign_left_parenthesis) _ (not_true _ e))))
name_run p w N s (the_end q ∷ o) e = refl

dot_name_run : (x : ℕ) (p : Position) (w : List ℕ) (N : List Node) (s : List Entry) (o : List Lexeme) → follows o ≡ true →
    answer (at (DotName x p w) s N) o ≡ answer (at (PostDone Variable p (length N)) s (put N (FieldAccess p w x))) o
unfolding machine follows calls_on
dot_name_run x p w N s [] e = refl
dot_name_run x p w N s (a_name v q ∷ o) e = refl
dot_name_run x p w N s (a_word v q ∷ o) e = refl
dot_name_run x p w N s (a_number v q ∷ o) e = refl
dot_name_run x p w N s (a_text v q ∷ o) e = refl
dot_name_run x p w N s (a_sign m q ∷ o) e = fails _ _ _ o (or_left (m == sign_left_parenthesis) _ (not_true _ e))
dot_name_run x p w N s (the_end q ∷ o) e = refl

minus_run : (p : Position) (N : List Node) (s : List Entry) (i : List Lexeme) → begins_with_minimum i ≡ false →
    answer (at (Minus p) s N) i ≡ answer (at Operand (UnaryOpen p sign_minus ∷ s) N) i
unfolding machine
minus_run p N s [] e = refl
minus_run p N s (a_name w q ∷ o) e = refl
minus_run p N s (a_word w q ∷ o) e = refl
minus_run p N s (a_number n q ∷ o) e = fails _ _ _ o e
minus_run p N s (a_text w q ∷ o) e = refl
minus_run p N s (a_sign n q ∷ o) e = refl
minus_run p N s (the_end q ∷ o) e = refl

opened_run : (p : Position) (N : List Node) (s : List Entry) (i : List Lexeme) → closes_name i ≡ false →
    answer (at (Opened p) s N) i ≡ answer (at Operand (GroupOpen p ∷ s) N) i
unfolding machine
opened_run p N s [] e = refl
opened_run p N s (a_name w q ∷ []) e = refl
opened_run p N s (a_name w q ∷ a_name v r ∷ o) e = refl
opened_run p N s (a_name w q ∷ a_word v r ∷ o) e = refl
opened_run p N s (a_name w q ∷ a_number v r ∷ o) e = refl
opened_run p N s (a_name w q ∷ a_text v r ∷ o) e = refl
opened_run p N s (a_name w q ∷ a_sign n r ∷ o) e = fails _ _ _ o e
opened_run p N s (a_name w q ∷ the_end r ∷ o) e = refl
opened_run p N s (a_word w q ∷ o) e = refl
opened_run p N s (a_number n q ∷ o) e = refl
opened_run p N s (a_text w q ∷ o) e = refl
opened_run p N s (a_sign n q ∷ o) e = refl
opened_run p N s (the_end q ∷ o) e = refl

closed_name_run : (p q : Position) (w : List ℕ) (N : List Node) (s : List Entry) (o : List Lexeme) →
    begins_unary1 o ≡ false →
    answer (at (ClosedName p q w) s N) o ≡ answer
    (at (PostDone Value p (length (put N (SimpleName q w)))) s
    (put (put N (SimpleName q w)) (Parenthesized p (length N)))) o
unfolding machine
closed_name_run p q w N s [] e = refl
closed_name_run p q w N s (t ∷ o) e =
    fails (is_unary1_start t && not (awaits_target s)) _ _ o (ap (λ b. b && not (awaits_target s)) e)

cast_run : (p q : Position) (w : List ℕ) (N : List Node) (s : List Entry) (i : List Lexeme) → begins_unary1 i ≡ true →
    awaits_target s ≡ false → answer (at (ClosedName p q w) s N) i ≡ answer (at Operand (CastOpen p q w ∷ s) N) i
unfolding machine
cast_run p q w N s [] e h = refl
cast_run p q w N s (t ∷ o) e h = holds (is_unary1_start t && not (awaits_target s)) _ _ o (both _ _ e (not_false _ h))

-- what an argument begins with
unfoldable begins_argument : List Lexeme → Bool
begins_argument (a_text w p ∷ o) = true
begins_argument i = begins_operand i

operand_is_argument : (i : List Lexeme) → begins_operand i ≡ true → begins_argument i ≡ true
unfolding begins_argument
operand_is_argument [] h = h
operand_is_argument (a_text w p ∷ o) h = refl
operand_is_argument (_ ∷ o) h = h

argument_begins : {N N1 : List Node} {i o : List Lexeme} {e : ℕ} → ArgumentRead N i N1 o e → begins_argument i ≡ true
unfolding begins_argument
argument_begins {i = i} (expression_argument d) = operand_is_argument i (level_begins d)
argument_begins text_argument = refl

arguments_begin : {N N1 : List Node} {i o : List Lexeme} {ids : List ℕ} → ArgumentsBegun N i N1 o ids →
    begins_argument o ≡ true → begins_argument i ≡ true
arguments_begin no_argument_yet h = h
arguments_begin (argument_and_comma b a) h = arguments_begin b (argument_begins a)

first_argument_run : (N : List Node) (s : List Entry) (i : List Lexeme) → begins_argument i ≡ true →
    answer (at ArgumentFirst s N) i ≡ answer (at ArgumentNext s N) i
unfolding machine begins_operand begins_argument
first_argument_run N s [] e = refl
first_argument_run N s (a_name w q ∷ o) e = refl
first_argument_run N s (a_word w q ∷ o) e = refl
first_argument_run N s (a_number w q ∷ o) e = refl
first_argument_run N s (a_text w q ∷ o) e = refl
first_argument_run N s (a_sign n q ∷ o) e =
    fails _ _ _ o (differs (λ m. is_operand_start (a_sign m q)) n sign_right_parenthesis e refl)
first_argument_run N s (the_end q ∷ o) e = refl

next_argument_run : (N : List Node) (s : List Entry) (i : List Lexeme) → begins_operand i ≡ true →
    answer (at ArgumentNext s N) i ≡ answer (at Operand s N) i
unfolding machine begins_operand
next_argument_run N s [] e = refl
next_argument_run N s (a_name w q ∷ o) e = refl
next_argument_run N s (a_word w q ∷ o) e = refl
next_argument_run N s (a_number w q ∷ o) e = refl
next_argument_run N s (a_text w q ∷ o) e = never e
next_argument_run N s (a_sign n q ∷ o) e = refl
next_argument_run N s (the_end q ∷ o) e = refl

-- ---- operators

-- the entry on top leaves an operator of the level its left operand
unfoldable pub opens_at : ℕ → List Entry → Bool
opens_at n [] = false
opens_at n (e ∷ s) = admits e n

admits_up : (e : Entry) (n : ℕ) → admits e n ≡ true → admits e (suc n) ≡ true
unfolding admits
admits_up (BinaryLeft p op l) n h = let g : level op < n = ltb-true _ _ h in lt-ltb _ _ (omega (arith, g))
admits_up (UnaryOpen p op) n h = h
admits_up (CastOpen p q w) n h = h
admits_up Target n h = h
admits_up _ n h = let g : 0 < n = ltb-true _ _ h in lt-ltb _ _ (omega (arith, g))

opens_up : (n : ℕ) (s : List Entry) → opens_at n s ≡ true → opens_at (suc n) s ≡ true
unfolding opens_at
opens_up n [] h = h
opens_up n (e ∷ s) h = admits_up e n h

no_target : (n : ℕ) (s : List Entry) → opens_at n s ≡ true → awaits_target s ≡ false
unfolding opens_at admits awaits_target
no_target n [] h = refl
no_target n (Target ∷ s) h = never h
no_target n (_ ∷ s) h = refl

shift_run : (l : ℕ) (N : List Node) (s : List Entry) (op : ℕ) (p : Position) (i : List Lexeme) →
    opens_at (level op) s ≡ true → next (closed l N s) (a_sign op p ∷ i) ≡ answer (at Operand (BinaryLeft p op l ∷ s) N)
    i
unfolding machine opens_at
shift_run l N [] op p i h = never h
shift_run l N (e ∷ s) op p i h = holds _ _ _ i h

no_less : (n : ℕ) → nat_lt n 0 ≡ false
no_less n = le-ltb n 0 (omega arith)

pub below_level : (n m : ℕ) → nat_le m n ≡ true → nat_lt n m ≡ false
below_level n m h = le-ltb _ _ (leb-true _ _ h)

reduce_run : (r : ℕ) (N : List Node) (s : List Entry) (l op : ℕ) (p : Position) (o : List Lexeme) →
    ends (level op) o ≡ true → next (closed r N (BinaryLeft p op l ∷ s)) o ≡ next
    (closed (length N) (put N (Binary p op l r)) s) o
unfolding machine ends
reduce_run r N s l op p [] e = refl
reduce_run r N s l op p (a_name w q ∷ o) e = fails _ _ _ o (no_less (level op))
reduce_run r N s l op p (a_word w q ∷ o) e = fails _ _ _ o (no_less (level op))
reduce_run r N s l op p (a_number w q ∷ o) e = fails _ _ _ o (no_less (level op))
reduce_run r N s l op p (a_text w q ∷ o) e = fails _ _ _ o (no_less (level op))
reduce_run r N s l op p (a_sign m q ∷ o) e = fails _ _ _ o (below_level (level op) (level m) (and_left _ _ e))
reduce_run r N s l op p (the_end q ∷ o) e = fails _ _ _ o (no_less (level op))

-- ---- arguments

abbrev argument_closed : ℕ → List ℕ → List Node → List Entry → Lexeme → Option State
argument_closed e ids N s t = closed e N (ArgumentsOpen ids ∷ s) t

-- a text is followed as an expression is where no operator may stand
text_run : (e : ℕ) (ids : List ℕ) (N : List Node) (s : List Entry) (o : List Lexeme) → ends 0 o ≡ true →
    answer (at (TextRead e) (ArgumentsOpen ids ∷ s) N) o ≡ next (argument_closed e ids N s) o
unfolding machine ends
text_run e ids N s [] h = refl
text_run e ids N s (a_name w q ∷ o) h = refl
text_run e ids N s (a_word w q ∷ o) h = refl
text_run e ids N s (a_number w q ∷ o) h = refl
text_run e ids N s (a_text w q ∷ o) h = refl
text_run e ids N s (a_sign m q ∷ o) h = sym (fails _ _ _ o (below_level 0 (level m) (and_left _ _ h)))
text_run e ids N s (the_end q ∷ o) h = refl

-- ---- expressions

mutual
  unfolding machine follows calls_on ends continues opens_at

  pub level_run : {n : ℕ} {N N1 : List Node} {i o : List Lexeme} {e : ℕ} → Level n N i N1 o e → ends n o ≡ true →
      (s : List Entry) → opens_at n s ≡ true → answer (at Operand s N) i ≡ next (closed e N1 s) o
  level_run (operand d) h s g = unary_run d h s (no_target 11 s g)
  level_run {n = n} {o = o} (tighter d) h s g = level_run d (ends_up n o h) s (opens_up n s g)
  level_run {o = o} (binary {N1 = N1} {N2 = N2} {i1 = i1} {l = l} {r = r} {op = op} {p = p} u d f) h s g =
      level_run d (operator_rest op p i1 u) s g
      ∙ (shift_run l N1 s op p i1 g
      ∙ (level_run f (ends_up (level op) o h) (BinaryLeft p op l ∷ s) (lt-ltb (level op) (suc (level op)) (omega arith))
      ∙ reduce_run r N2 s l op p o h))

  unary_run : {N N1 : List Node} {i o : List Lexeme} {e : ℕ} → UnaryRead N i N1 o e → ends 11 o ≡ true →
      (s : List Entry) → awaits_target s ≡ false → answer (at Operand s N) i ≡ next (closed e N1 s) o
  unary_run {N = N} (minus {i = i} {p = p} u d) h s g = minus_run p N s i u
      ∙ unary_run d h (UnaryOpen p sign_minus ∷ s) refl
  unary_run {N1 = N1} {o = o} {e = e} (minimum_unary {kind = kind} {p = p} d) h s g = post_run d (follows_of 11 o h) s
      ∙ post_done_run kind p e N1 s o h g
  unary_run (plain_unary d) h s g = unary1_run d h s g

  unary1_run : {N N1 : List Node} {i o : List Lexeme} {e : ℕ} → Unary1Read N i N1 o e → ends 11 o ≡ true →
      (s : List Entry) → awaits_target s ≡ false → answer (at Operand s N) i ≡ next (closed e N1 s) o
  unary1_run (negation {p = p} d) h s g = unary_run d h (UnaryOpen p sign_not ∷ s) refl
  unary1_run (complement {p = p} d) h s g = unary_run d h (UnaryOpen p sign_tilde ∷ s) refl
  unary1_run {N = N} (cast {i = i} {w = w} {p = p} {q = q} u d) h s g = cast_run p q w N s i u g
      ∙ unary1_run d h (CastOpen p q w ∷ s) refl
  unary1_run {N1 = N1} {o = o} {e = e} (post_unary {kind = kind} {p = p} d) h s g = post_run d (follows_of 11 o h) s
      ∙ post_done_run kind p e N1 s o h g

  pub post_run : {m : Bool} {k : PostKind} {q : Position} {N N1 : List Node} {i o : List Lexeme} {e : ℕ} →
      PostRead m k q N i N1 o e → follows o ≡ true → (s : List Entry) →
      answer (at Operand s N) i ≡ answer (at (PostDone k q e) s N1) o
  post_run {N = N} {o = o} (simple_name {w = w} {p = p}) h s = name_run p w N s o h
  post_run (simple_call {w = w} {p = p} a) h s = arguments_run a (CallOpen p w None ∷ s)
  post_run {o = o} (field_of {N1 = N1} {e = e} {w = w} {p = p} d) h s = post_run d refl s ∙ dot_name_run e p w N1 s o h
  post_run (call_of {e = e} {w = w} {p = p} d a) h s = post_run d refl s ∙ arguments_run a (CallOpen p w (Some e) ∷ s)
  post_run (element_of {i1 = i1} {e = e} {p = p} u d x) h s = post_run d refl s
      ∙ (holds _ _ _ i1 u ∙ level_run x refl (IndexOpen p e ∷ s) refl)
  post_run {o = o} (number u) h s = fails _ _ _ o u
  post_run minimum_number h s = refl
  post_run true_value h s = refl
  post_run false_value h s = refl
  post_run null_value h s = refl
  post_run this_value h s = refl
  post_run {N = N} (parenthesized {i = i} {p = p} u d) h s = opened_run p N s i u
      ∙ level_run d refl (GroupOpen p ∷ s) refl
  post_run {N = N} {o = o} (parenthesized_name {w = w} {p = p} {q = q} u) h s = closed_name_run p q w N s o u
  post_run (new_object {w = w} {p = p} {q = q} a) h s = arguments_run a (NewOpen p q w ∷ s)
  post_run {N = N} (new_ints {p = p} d) h s = level_run d refl (LengthOpen p (length N) ∷ s) refl
  post_run {N = N} (new_booleans {p = p} d) h s = level_run d refl (LengthOpen p (length N) ∷ s) refl
  post_run {N = N} (new_references {p = p} d) h s = level_run d refl (LengthOpen p (length N) ∷ s) refl

  argument_run : {N N1 : List Node} {i o : List Lexeme} {e : ℕ} → ArgumentRead N i N1 o e → ends 0 o ≡ true →
      (ids : List ℕ) (s : List Entry) → answer (at ArgumentNext (ArgumentsOpen ids ∷ s) N) i ≡ next
      (argument_closed e ids N1 s) o
  argument_run {N = N} {N1 = N1} {i = i} {o = o} {e = e} (expression_argument d) h ids s =
      next_argument_run N (ArgumentsOpen ids ∷ s) i (level_begins d)
      ∙ level_run d (ends_up 0 o h) (ArgumentsOpen ids ∷ s) refl
  argument_run {N1 = N1} {o = o} {e = e} text_argument h ids s = text_run e ids N1 s o h

  arguments_begun_run : {N N1 : List Node} {i o : List Lexeme} {ids : List ℕ} → ArgumentsBegun N i N1 o ids →
      (s : List Entry) → answer (at ArgumentNext (ArgumentsOpen [] ∷ s) N) i ≡ answer
      (at ArgumentNext (ArgumentsOpen ids ∷ s) N1) o
  arguments_begun_run no_argument_yet s = refl
  arguments_begun_run (argument_and_comma {ids = ids} b a) s = arguments_begun_run b s ∙ argument_run a refl ids s

  pub arguments_run : {N N1 : List Node} {i o : List Lexeme} {ids : List ℕ} → ArgumentsRead N i N1 o ids →
      (s : List Entry) → answer (at ArgumentFirst (ArgumentsOpen [] ∷ s) N) i ≡ after (arguments_ended ids N1 s) o
  arguments_run no_arguments s = refl
  arguments_run {N = N} {i = i} (arguments {ids = ids} b a) s =
      first_argument_run N (ArgumentsOpen [] ∷ s) i (arguments_begin b (argument_begins a))
      ∙ (arguments_begun_run b s ∙ argument_run a refl ids s)
