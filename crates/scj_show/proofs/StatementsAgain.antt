-- The canonical lexemes of a statement are read as the same statement.
use Rattle.std.proofs.Common.{append_assoc, ◌≡◌, ℕ, Bool, true, false, ◌==◌, not, ◌&&◌, ◌⊎◌, inl, inr, List, [], ◌∷◌, ◌++◌, Option, Some, None, slice_get, length, refl, sym, ap, subst, ◌∙◌}
use Rattle.std.specs.Prelude.{if◌then◌else◌}
use Rattle.std.proofs.lemmas.Bool.{false≢true, eqb-true}
use Rattle.scj_base.specs.Vocabulary.{word_else, word_final, word_for, word_if, word_return, word_while, sign_left_brace, sign_right_brace, sign_left_parenthesis, sign_right_parenthesis, sign_semicolon, sign_assign}
use Rattle.scj_base.specs.declared.positions.Position.{Position}
use Rattle.scj_base.specs.Lex.{position_behind}
use Rattle.scj_tree.specs.declared.nodes.Node.{Node}
use Rattle.scj_tree.specs.declared.nodes.Node.TheVariants.{Block, Empty, Local, LocalWithValue, ExpressionStatement, If, While, For, Return}
use Rattle.scj_tree.specs.declared.parsed_parts.FlagSet.{FlagSet}
use Rattle.scj_tree.specs.declared.parsed_parts.PostKind.{PostKind}
use Rattle.scj_tree.specs.Lexemes.{Lexeme, a_name as name_at, a_word as word_at, a_number as number_at, a_text as text_at, a_sign as sign_at, the_end}
use Rattle.scj_tree.specs.Terminals.{no_flags, with_flags, flags_number, flags_node, has_effect, add_modifier, begins_with_word, begins_local_flags, begins_unary1, is_unary1_start}
use Rattle.scj_tree.specs.Headers.{FlagRow, no_flag, modifier, effectless, scope_flag, runs_in_flag, define_scope_flag, define_scope_flag_parent_first, TypeRead, int_type, int_array, boolean_type, boolean_array, class_type, class_array, argument_type, argument_array}
use Rattle.scj_tree.specs.Nodes.{put}
use Rattle.scj_tree.specs.Expressions.{PostRead, simple_name, simple_call, field_of, call_of, element_of, number, minimum_number, true_value, false_value, null_value, this_value, parenthesized, parenthesized_name, new_object, new_ints, new_booleans, new_references}
use Rattle.scj_tree.specs.Statements.{AssignmentRead, assignment, compound_assignment, step_assignment, LocalTypeRead, plain_local, flagged_local, StatementRead, block, empty, local, local_with_value, assign_statement, call_statement, if_alone, if_else, while_statement, for_local, for_assignment, return_alone, return_value, StatementsRead, no_statement, one_statement_more}
use Rattle.scj_tree.specs.Forest.{ChildrenFirst}
use Rattle.scj_tree.specs.Shape.{children}
use Rattle.scj_show.specs.declared.parts.Part.TheVariants.{Whole, Named, Sign}
use Rattle.scj_show.specs.Parts.{parts_of, maybe, each, alternative, block_end, return_parts}
use Rattle.scj_show.specs.Symbols.{Symbol, a_name, a_word, a_sign, canonical, own_symbols, symbols_of_part, symbols_of_parts, written, symbols_of}
use Rattle.scj_show.specs.Placed.{printed, lexeme_at}
use Rattle.scj_show.specs.Alike.{nowhere, Alike, shape, in_order, alike, none_alike, one_alike}
use Rattle.scj_show.proofs.Printing.{symbols_of_parts-append}
use Rattle.scj_show.proofs.Again.{Front, front-none, front-one, front-then, front-put, front-at, whole, whole_at, laid, laid-append, each-put, Reported, reported_of, reported_moved, AllAgain, all_again_of, all_moved, alike-put, counted-same, MaybeAlike, both_missing, there-same, optional-alike}
use Rattle.scj_show.proofs.ExpressionsAgain.{level_front, post_front, level_again, post_again}
use Rattle.scj_show.proofs.HeadersAgain.{type_front, type_again}
use Rattle.scj_show.proofs.Sources.{AreOfSource, behind, behind2}
use Rattle.scj_show.proofs.Rests.{type_rest, level_rest, assignment_rest, statement_rest, statements_rest}
use Rattle.scj_show.proofs.FlagsAgain.{flags_again, flags_front, row_front, maybe_symbols}
use Rattle.scj_show.proofs.AssignmentsAgain.{bare, assignment_front, assignment_statement, assignment_again}

-- ---- reading puts nodes behind the others

local_type_front : {N N1 : List Node} {i o : List Lexeme} {flags : Option ℕ} {t : ℕ} → LocalTypeRead N i N1 o flags t →
    Front N N1
local_type_front (plain_local d) = type_front d
local_type_front (flagged_local {N1 = N1} {flags = flags} h d e) =
    front-then (row_front d) (front-then (flags_front N1 flags) (type_front e))

mutual
  pub statement_front : {N N1 : List Node} {i o : List Lexeme} {id : ℕ} → StatementRead N i N1 o id → Front N N1
  statement_front (block d) = front-then (statements_front d) (front-one _)
  statement_front empty = front-one _
  statement_front (local d) = front-then (local_type_front d) (front-one _)
  statement_front (local_with_value d e) = front-then (local_type_front d) (front-then (level_front e) (front-one _))
  statement_front (assign_statement d) = assignment_front d
  statement_front (call_statement d) = front-then (post_front d) (front-one _)
  statement_front (if_alone c s h) = front-then (level_front c) (front-then (statement_front s) (front-one _))
  statement_front (if_else c s e) =
      front-then (level_front c) (front-then (statement_front s) (front-then (statement_front e) (front-one _)))
  statement_front (while_statement c s) = front-then (level_front c) (front-then (statement_front s) (front-one _))
  statement_front (for_local t e c u s) =
      front-then (type_front t)
      (front-then (level_front e)
      (front-then (front-one _)
      (front-then (level_front c) (front-then (assignment_front u) (front-then (statement_front s) (front-one _))))))
  statement_front (for_assignment a c u s) =
      front-then (assignment_front a)
      (front-then (level_front c) (front-then (assignment_front u) (front-then (statement_front s) (front-one _))))
  statement_front return_alone = front-one _
  statement_front (return_value d) = front-then (level_front d) (front-one _)

  pub statements_front : {N N1 : List Node} {i o : List Lexeme} {ids : List ℕ} → StatementsRead N i N1 o ids →
      Front N N1
  statements_front no_statement = front-none
  statements_front (one_statement_more d e) = front-then (statements_front d) (statement_front e)

-- ---- nothing but an `if` is followed by `else`

abbrev Starts : List Lexeme → Type 0
Starts i = begins_with_word word_else i ≡ false

begun_by : {i j : List Lexeme} → i ≡ j → Starts j → Starts i
begun_by e h = ap (begins_with_word word_else) e ∙ h

mutual
  unfolding begins_with_word

  post_starts : {minimum : Bool} {kind : PostKind} {p : Position} {N N1 : List Node} {i o : List Lexeme} {id : ℕ} →
      PostRead minimum kind p N i N1 o id → Starts i
  post_starts simple_name = refl
  post_starts (simple_call d) = refl
  post_starts (field_of d) = post_starts d
  post_starts (call_of d e) = post_starts d
  post_starts (element_of h d e) = post_starts d
  post_starts (number h) = refl
  post_starts minimum_number = refl
  post_starts true_value = refl
  post_starts false_value = refl
  post_starts null_value = refl
  post_starts this_value = refl
  post_starts (parenthesized h d) = refl
  post_starts (parenthesized_name h) = refl
  post_starts (new_object d) = refl
  post_starts (new_ints d) = refl
  post_starts (new_booleans d) = refl
  post_starts (new_references d) = refl

type_starts : {N N1 : List Node} {i o : List Lexeme} {id : ℕ} → TypeRead N i N1 o id → Starts i
unfolding begins_with_word
type_starts int_type = refl
type_starts int_array = refl
type_starts boolean_type = refl
type_starts boolean_array = refl
type_starts class_type = refl
type_starts class_array = refl
type_starts (argument_type h) = refl
type_starts (argument_array h) = refl

flags_start : (i : List Lexeme) → begins_local_flags i ≡ true → Starts i
unfolding begins_local_flags begins_with_word
flags_start [] h = absurd (false≢true h)
flags_start (name_at w p ∷ o) h = refl
flags_start (word_at w p ∷ o) h = let is : w ≡ word_final = eqb-true w word_final h in ap (λ (v : ℕ). v == word_else) is
flags_start (number_at n p ∷ o) h = refl
flags_start (text_at w p ∷ o) h = refl
flags_start (sign_at n p ∷ o) h = refl
flags_start (the_end p ∷ o) h = refl

local_starts : {N N1 : List Node} {i o : List Lexeme} {flags : Option ℕ} {t : ℕ} → LocalTypeRead N i N1 o flags t →
    Starts i
local_starts (plain_local d) = type_starts d
local_starts (flagged_local h d e) = flags_start _ h

assignment_starts : {N N1 : List Node} {i o : List Lexeme} {id : ℕ} → AssignmentRead N i N1 o id → Starts i
unfolding begins_with_word
assignment_starts (assignment d e) = post_starts d
assignment_starts (compound_assignment h d) = refl
assignment_starts (step_assignment h) = refl

statement_starts : {N N1 : List Node} {i o : List Lexeme} {id : ℕ} → StatementRead N i N1 o id → Starts i
unfolding begins_with_word
statement_starts (block d) = refl
statement_starts empty = refl
statement_starts (local d) = local_starts d
statement_starts (local_with_value d e) = local_starts d
statement_starts (assign_statement d) = assignment_starts d
statement_starts (call_statement d) = post_starts d
statement_starts (if_alone c s h) = refl
statement_starts (if_else c s e) = refl
statement_starts (while_statement c s) = refl
statement_starts (for_local t e c u s) = refl
statement_starts (for_assignment a c u s) = refl
statement_starts return_alone = refl
statement_starts (return_value d) = refl

-- ---- locals

record NoFlags (M : List Node) (i : List Lexeme) (N : List Node) (o : List Lexeme) (flags : FlagSet) : Type 0 where
  lexemes : i ≡ o
  nodes : N ≡ M
  none : flags ≡ no_flags

final_word : {A : Type 0} (w : ℕ) (flags : FlagSet) (more : A) (x : Option A) →
    (if true && not (w == word_final) then None else x) ≡ Some more → (w == word_final) ≡ true
final_word w flags more x = at (w == word_final)
  where
    at : (b : Bool) → (if true && not b then None else x) ≡ Some more → b ≡ true
    at true e = refl
    at false e = absurd (cc)

then_flags : {A : Type 0} (M : List Node) (i j : List Lexeme) (N : List Node) (flags : FlagSet) →
    NoFlags M i N j flags ⊎ (begins_local_flags i ≡ true) → begins_local_flags j ≡ true →
    A ⊎ (begins_local_flags i ≡ true)
then_flags M i j N flags (inl k) b = inr (ap begins_local_flags k.lexemes ∙ b)
then_flags M i j N flags (inr k) b = inr k

row_begins : {N N1 : List Node} {i o : List Lexeme} {flags : FlagSet} → FlagRow true N i N1 o flags →
    NoFlags N i N1 o flags ⊎ (begins_local_flags i ≡ true)
unfolding begins_local_flags add_modifier
row_begins no_flag = inl (record { lexemes = refl; nodes = refl; none = refl })
row_begins (modifier {flags = flags} {more = more} {w = w} d h) =
    then_flags _ _ _ _ flags (row_begins d) (final_word w flags more _ h)
row_begins (effectless {flags = flags} d h a) = then_flags _ _ _ _ flags (row_begins d) refl
row_begins (scope_flag {flags = flags} d h v) = then_flags _ _ _ _ flags (row_begins d) refl
row_begins (runs_in_flag {flags = flags} d h v) = then_flags _ _ _ _ flags (row_begins d) refl
row_begins (define_scope_flag {flags = flags} d h v u) = then_flags _ _ _ _ flags (row_begins d) refl
row_begins (define_scope_flag_parent_first {flags = flags} d h v u) = then_flags _ _ _ _ flags (row_begins d) refl

local_from : (M : List Node) (i2 : List Lexeme) (N1 : List Node) (t1 : List Lexeme) (flags : FlagSet) (N2 : List Node)
    (o2 : List Lexeme) (t : ℕ) → FlagRow true M i2 N1 t1 flags → TypeRead (with_flags N1 flags) t1 N2 o2 t →
    NoFlags M i2 N1 t1 flags ⊎ (begins_local_flags i2 ≡ true) → LocalTypeRead M i2 N2 o2 (flags_number N1 flags) t
unfolding with_flags flags_number flags_node has_effect
local_from M i2 N1 t1 flags N2 o2 t row d (inr b) = flagged_local b row d
local_from M i2 N1 t1 flags N2 o2 t row d (inl k) =
    let e : TypeRead (with_flags N1 no_flags) t1 N2 o2 t =
    subst (λ (f : FlagSet). TypeRead (with_flags N1 f) t1 N2 o2 t) k.none d in
    let at : TypeRead M i2 N2 o2 t =
    subst (λ (x : List Lexeme). TypeRead M x N2 o2 t) (sym k.lexemes)
    (subst (λ (N : List Node). TypeRead N t1 N2 o2 t) k.nodes e) in
    subst (λ (f : FlagSet). LocalTypeRead M i2 N2 o2 (flags_number N1 f) t) (sym k.none) (plain_local at)

record LocalReported (W M : List Node) (i2 o2 : List Lexeme) (flags : Option ℕ) (t : ℕ) : Type 0 where
  nodes : List Node
  number : Option ℕ
  place : ℕ
  grown : Front M nodes
  read : LocalTypeRead M i2 nodes o2 number place
  same_flags : (V : List Node) → Front nodes V → MaybeAlike W V flags number
  same_type : (V : List Node) → Front nodes V → Alike W V t place

local_type_again : (W : List Node) → ChildrenFirst 0 W →
    (file : ℕ) (M : List Node) (b : List ℕ) (o2 : List Lexeme) {N N1 : List Node} {i o : List Lexeme} {flags : Option ℕ}
    {t : ℕ} → LocalTypeRead N i N1 o flags t → AreOfSource i → Front N1 W →
    LocalReported W M
    (laid file b (maybe_symbols W flags) (laid file (b ++ canonical (maybe_symbols W flags)) (whole W t) o2)) o2 flags t
unfolding maybe_symbols maybe symbols_of_parts laid canonical
local_type_again W first file M b o2 (plain_local d) src f =
    let a = type_again W first file M (b ++ []) o2 d f in
    record {
      nodes = a.nodes;
      number = None;
      place = a.place;
      grown = a.grown;
      read = plain_local a.read;
      same_flags = λ V g. both_missing;
      same_type = a.alike;
    }
local_type_again W first file M b o2 (flagged_local {N1 = N1} {flags = flags} {t = t} h d e) src f =
    let b1 : List ℕ = b ++ canonical (maybe_symbols W (flags_number N1 flags)) in
    let t1 : List Lexeme = laid file b1 (whole W t) o2 in
    let a1 = flags_again true W first file M b t1 d src (front-then (type_front e) f) in
    let a2 = type_again W first file (with_flags a1.nodes a1.flags) b1 o2 e f in
    record {
      nodes = a2.nodes;
      number = flags_number a1.nodes a1.flags;
      place = a2.place;
      grown = front-then a1.grown
          (front-then (flags_front a1.nodes a1.flags) a2.grown);
      read =
          local_from _ _ _ _ a1.flags _ _ _ a1.read a2.read (row_begins a1.read);
      same_flags =
          λ V g. a1.alike V (front-then a2.grown g);
      same_type = a2.alike;
    }

-- ---- statements

mutual
  unfolding maybe_symbols maybe each symbols_of symbols_of_parts symbols_of_part own_symbols parts_of alternative
      block_end return_parts lexeme_at begins_unary1 is_unary1_start begins_with_word shape in_order children laid

  pub statement_again : (W : List Node) → ChildrenFirst 0 W →
      (file : ℕ) (M : List Node) (b : List ℕ) (o2 : List Lexeme) {N N1 : List Node} {i o : List Lexeme} {id : ℕ} →
      StatementRead N i N1 o id → AreOfSource i → Front N1 W → (Starts o → Starts o2) →
      Reported StatementRead W M (laid file b (whole W id) o2) o2 id
  statement_again W first file M b o2 (block {N1 = N1} {ids = ids} {p = p} d) src f h =
      let at : slice_get W (length N1) ≡ Some (Block p ids) = front-at _ _ f in
      let opened : whole W (length N1) ≡ a_sign sign_left_brace
      ∷ symbols_of_parts (written W) (each ids ++ Sign sign_right_brace ∷ []) = whole_at W _ _ first at in
      let b1 : List ℕ = b ++ printed (a_sign sign_left_brace) in
      let b2 : List ℕ = b1 ++ canonical (symbols_of W ids) in
      let t2 : List Lexeme = sign_at sign_right_brace (position_behind file b2) ∷ o2 in
      let t1 : List Lexeme = laid file b1 (symbols_of W ids) t2 in
      let t0 : List Lexeme = sign_at sign_left_brace (position_behind file b) ∷ t1 in
      let a1 = statements_again W first file M b1 t2 d (behind src) (front-put _ _ f) (λ c. refl) in
      let made : Node = Block (position_behind file b) a1.places in
      let said : whole W (length N1) ≡ a_sign sign_left_brace ∷ (symbols_of W ids ++ (a_sign sign_right_brace ∷ ([]))) =
      opened ∙ ap (λ (ss : List Symbol). a_sign sign_left_brace ∷ ss)
      (symbols_of_parts-append (written W) (each ids) (Sign sign_right_brace ∷ [])) in
      let same : laid file b (whole W (length N1)) o2 ≡ t0 = ap (λ (ss : List Symbol). laid file b ss o2) said
      ∙ simp laid-append in
      reported_moved same (reported_of (put a1.nodes made) (length a1.nodes) (front-then a1.grown (front-one _)) (block a1.read)
      (λ V g. let all = a1.alike V (front-put _ _ g) in
      alike at (front-at _ _ g) (ap (λ (t : List ℕ). Block nowhere t) (counted-same all)) all))
  statement_again W first file M b o2 (empty {N = N} {p = p}) src f h =
      let at : slice_get W (length N) ≡ Some (Empty p) = front-at _ _ f in
      let t0 : List Lexeme = sign_at sign_semicolon (position_behind file b) ∷ o2 in
      let made : Node = Empty (position_behind file b) in
      let said : whole W (length N) ≡ a_sign sign_semicolon ∷ ([]) = whole_at W _ _ first at in
      let same : laid file b (whole W (length N)) o2 ≡ t0 = ap (λ (ss : List Symbol). laid file b ss o2) said in
      reported_moved same
      (reported_of (put M made) (length M) (front-one _) (empty) (λ V g. alike at (front-at _ _ g) refl none_alike))
  statement_again W first file M b o2 (local {N1 = N1} {flags = flags} {t = t} {w = w} {p = p} d) src f h =
      let at : slice_get W (length N1) ≡ Some (Local p w flags t) = front-at _ _ f in
      let opened : whole W (length N1) ≡ symbols_of_parts (written W)
      (maybe flags ++ (Whole t ∷ Named w ∷ Sign sign_semicolon ∷ [])) = whole_at W _ _ first at in
      let b1 : List ℕ = b ++ canonical (maybe_symbols W flags) in
      let b2 : List ℕ = b1 ++ canonical (whole W t) in
      let b3 : List ℕ = b2 ++ printed (a_name w) in
      let t3 : List Lexeme = sign_at sign_semicolon (position_behind file b3) ∷ o2 in
      let t2 : List Lexeme = name_at w (position_behind file b2) ∷ t3 in
      let t1 : List Lexeme = laid file b1 (whole W t) t2 in
      let t0 : List Lexeme = laid file b (maybe_symbols W flags) t1 in
      let a1 = local_type_again W first file M b t2 d src (front-put _ _ f) in
      let made : Node = Local (position_behind file b2) w a1.number a1.place in
      let said : whole W (length N1) ≡ maybe_symbols W flags
      ++ (whole W t ++ (a_name w ∷ (a_sign sign_semicolon ∷ ([])))) =
      opened ∙ symbols_of_parts-append (written W) (maybe flags) (Whole t ∷ Named w ∷ Sign sign_semicolon ∷ []) in
      let same : laid file b (whole W (length N1)) o2 ≡ t0 = ap (λ (ss : List Symbol). laid file b ss o2) said
      ∙ simp laid-append in
      reported_moved same (reported_of (put a1.nodes made) (length a1.nodes) (front-then a1.grown (front-one _)) (local a1.read)
      (λ V g. let fs = a1.same_flags V (front-put _ _ g) in
      alike at (front-at _ _ g) (ap (λ (x : Option ℕ). Local nowhere w x 0) (there-same fs))
      (optional-alike fs (one_alike (a1.same_type V (front-put _ _ g)) none_alike))))
  statement_again W first file M b o2
      (local_with_value {N1 = N1} {N2 = N2} {flags = flags} {t = t} {e = e} {w = w} {p = p} {q = q} d1 d2) src f h =
      let at : slice_get W (length N2) ≡ Some (LocalWithValue p q w flags t e) = front-at _ _ f in
      let opened : whole W (length N2) ≡ symbols_of_parts (written W)
      (maybe flags ++ (Whole t ∷ Named w ∷ Sign sign_assign ∷ Whole e ∷ Sign sign_semicolon ∷ [])) =
      whole_at W _ _ first at in
      let b1 : List ℕ = b ++ canonical (maybe_symbols W flags) in
      let b2 : List ℕ = b1 ++ canonical (whole W t) in
      let b3 : List ℕ = b2 ++ printed (a_name w) in
      let b4 : List ℕ = b3 ++ printed (a_sign sign_assign) in
      let b5 : List ℕ = b4 ++ canonical (whole W e) in
      let t5 : List Lexeme = sign_at sign_semicolon (position_behind file b5) ∷ o2 in
      let t4 : List Lexeme = laid file b4 (whole W e) t5 in
      let t3 : List Lexeme = sign_at sign_assign (position_behind file b3) ∷ t4 in
      let t2 : List Lexeme = name_at w (position_behind file b2) ∷ t3 in
      let t1 : List Lexeme = laid file b1 (whole W t) t2 in
      let t0 : List Lexeme = laid file b (maybe_symbols W flags) t1 in
      let a1 = local_type_again W first file M b t2 d1 src (front-then (level_front d2) (front-put _ _ f)) in
      let a2 = level_again W first file a1.nodes b4 t5 d2 (front-put _ _ f) (λ c. c) in
      let made : Node = LocalWithValue (position_behind file b3) (position_behind file b2) w a1.number a1.place a2.place in
      let said : whole W (length N2) ≡ maybe_symbols W flags
      ++ (whole W t ++ (a_name w ∷ (a_sign sign_assign ∷ (whole W e ++ (a_sign sign_semicolon ∷ ([])))))) =
      opened ∙ symbols_of_parts-append (written W) (maybe flags) (Whole t ∷ Named w ∷ Sign sign_assign ∷ Whole e
      ∷ Sign sign_semicolon ∷ []) in
      let same : laid file b (whole W (length N2)) o2 ≡ t0 = ap (λ (ss : List Symbol). laid file b ss o2) said
      ∙ simp laid-append in
      reported_moved same
      (reported_of (put a2.nodes made) (length a2.nodes) (front-then a1.grown (front-then a2.grown (front-one _)))
      (local_with_value a1.read a2.read) (λ V g. let fs = a1.same_flags V (front-then a2.grown (front-put _ _ g)) in
      alike at (front-at _ _ g) (ap (λ (x : Option ℕ). LocalWithValue nowhere nowhere w x 0 0) (there-same fs))
      (optional-alike fs
      (one_alike (a1.same_type V (front-then a2.grown (front-put _ _ g)))
      (one_alike (a2.alike V (front-put _ _ g)) none_alike)))))
  statement_again W first file M b o2 (assign_statement {id = id} d) src f h =
      let b1 : List ℕ = b ++ canonical (bare W id) in
      let t1 : List Lexeme = sign_at sign_semicolon (position_behind file b1) ∷ o2 in
      let a = assignment_again W first file M b t1 d f refl in
      let same : laid file b (whole W id) o2 ≡ laid file b (bare W id) t1 =
      ap (λ (ss : List Symbol). laid file b ss o2) (assignment_statement first d f) ∙ simp laid-append in
      reported_moved same (reported_of a.nodes a.place a.grown (assign_statement a.read) a.alike)
  statement_again W first file M b o2 (call_statement {N1 = N1} {e = e} {p = p} d) src f h =
      let at : slice_get W (length N1) ≡ Some (ExpressionStatement p e) = front-at _ _ f in
      let b1 : List ℕ = b ++ canonical (whole W e) in
      let t1 : List Lexeme = sign_at sign_semicolon (position_behind file b1) ∷ o2 in
      let t0 : List Lexeme = laid file b (whole W e) t1 in
      let a1 = post_again W first file M b t1 d (front-put _ _ f) (λ c. c) in
      let made : Node = ExpressionStatement a1.read.at a1.place in
      let said : whole W (length N1) ≡ whole W e ++ (a_sign sign_semicolon ∷ ([])) = whole_at W _ _ first at in
      let same : laid file b (whole W (length N1)) o2 ≡ t0 = ap (λ (ss : List Symbol). laid file b ss o2) said
      ∙ simp laid-append in
      reported_moved same
      (reported_of (put a1.nodes made) (length a1.nodes) (front-then a1.grown (front-one _))
      (call_statement a1.read.read)
      (λ V g. alike at (front-at _ _ g) refl (one_alike (a1.alike V (front-put _ _ g)) none_alike)))
  statement_again W first file M b o2 (if_alone {N1 = N1} {N2 = N2} {c = c} {s = s} {p = p} d1 d2 e) src f h =
      let at : slice_get W (length N2) ≡ Some (If p c s None) = front-at _ _ f in
      let b1 : List ℕ = b ++ printed (a_word word_if) in
      let b2 : List ℕ = b1 ++ printed (a_sign sign_left_parenthesis) in
      let b3 : List ℕ = b2 ++ canonical (whole W c) in
      let b4 : List ℕ = b3 ++ printed (a_sign sign_right_parenthesis) in
      let t4 : List Lexeme = laid file b4 (whole W s) o2 in
      let t3 : List Lexeme = sign_at sign_right_parenthesis (position_behind file b3) ∷ t4 in
      let t2 : List Lexeme = laid file b2 (whole W c) t3 in
      let t1 : List Lexeme = sign_at sign_left_parenthesis (position_behind file b1) ∷ t2 in
      let t0 : List Lexeme = word_at word_if (position_behind file b) ∷ t1 in
      let a1 = level_again W first file M b2 t3 d1 (front-then (statement_front d2) (front-put _ _ f)) (λ c. c) in
      let a2 = statement_again W first file a1.nodes b4 o2 d2 (behind (level_rest d1 (behind2 src))) (front-put _ _ f) h
      in
      let made : Node = If (position_behind file b) a1.place a2.place None in
      let said : whole W (length N2) ≡ a_word word_if
      ∷ (a_sign sign_left_parenthesis ∷ (whole W c ++ (a_sign sign_right_parenthesis ∷ (whole W s ++ ([]))))) =
      whole_at W _ _ first at in
      let same : laid file b (whole W (length N2)) o2 ≡ t0 = ap (λ (ss : List Symbol). laid file b ss o2) said
      ∙ simp laid-append in
      reported_moved same
      (reported_of (put a2.nodes made) (length a2.nodes) (front-then a1.grown (front-then a2.grown (front-one _)))
      (if_alone a1.read a2.read (h e))
      (λ V g. alike at (front-at _ _ g) refl
      (one_alike (a1.alike V (front-then a2.grown (front-put _ _ g)))
      (one_alike (a2.alike V (front-put _ _ g)) none_alike))))
  statement_again W first file M b o2 (if_else {N1 = N1} {N2 = N2} {N3 = N3} {c = c} {s = s} {e = e} {p = p} d1 d2 d3)
      src f h =
      let at : slice_get W (length N3) ≡ Some (If p c s (Some e)) = front-at _ _ f in
      let b1 : List ℕ = b ++ printed (a_word word_if) in
      let b2 : List ℕ = b1 ++ printed (a_sign sign_left_parenthesis) in
      let b3 : List ℕ = b2 ++ canonical (whole W c) in
      let b4 : List ℕ = b3 ++ printed (a_sign sign_right_parenthesis) in
      let b5 : List ℕ = b4 ++ canonical (whole W s) in
      let b6 : List ℕ = b5 ++ printed (a_word word_else) in
      let t6 : List Lexeme = laid file b6 (whole W e) o2 in
      let t5 : List Lexeme = word_at word_else (position_behind file b5) ∷ t6 in
      let t4 : List Lexeme = laid file b4 (whole W s) t5 in
      let t3 : List Lexeme = sign_at sign_right_parenthesis (position_behind file b3) ∷ t4 in
      let t2 : List Lexeme = laid file b2 (whole W c) t3 in
      let t1 : List Lexeme = sign_at sign_left_parenthesis (position_behind file b1) ∷ t2 in
      let t0 : List Lexeme = word_at word_if (position_behind file b) ∷ t1 in
      let a1 =
      level_again W first file M b2 t3 d1
      (front-then (statement_front d2) (front-then (statement_front d3) (front-put _ _ f))) (λ c. c) in
      let a2 = statement_again W first file a1.nodes b4 t5 d2 (behind (level_rest d1 (behind2 src)))
      (front-then (statement_front d3) (front-put _ _ f)) (λ c. c) in
      let a3 =
      statement_again W first file a2.nodes b6 o2 d3
      (behind (statement_rest d2 (behind (level_rest d1 (behind2 src))))) (front-put _ _ f) h in
      let made : Node = If (position_behind file b) a1.place a2.place (Some a3.place) in
      let said : whole W (length N3) ≡ a_word word_if
      ∷ (a_sign sign_left_parenthesis
      ∷ (whole W c ++ (a_sign sign_right_parenthesis ∷ (whole W s ++ (a_word word_else ∷ (whole W e ++ ([]))))))) =
      whole_at W _ _ first at in
      let same : laid file b (whole W (length N3)) o2 ≡ t0 = ap (λ (ss : List Symbol). laid file b ss o2) said
      ∙ simp laid-append in
      reported_moved same
      (reported_of (put a3.nodes made) (length a3.nodes)
      (front-then a1.grown (front-then a2.grown (front-then a3.grown (front-one _))))
      (if_else a1.read a2.read a3.read)
      (λ V g. alike at (front-at _ _ g) refl
      (one_alike (a1.alike V (front-then a2.grown (front-then a3.grown (front-put _ _ g))))
      (one_alike (a2.alike V (front-then a3.grown (front-put _ _ g)))
      (one_alike (a3.alike V (front-put _ _ g)) none_alike)))))
  statement_again W first file M b o2 (while_statement {N1 = N1} {N2 = N2} {c = c} {s = s} {p = p} d1 d2) src f h =
      let at : slice_get W (length N2) ≡ Some (While p c s) = front-at _ _ f in
      let b1 : List ℕ = b ++ printed (a_word word_while) in
      let b2 : List ℕ = b1 ++ printed (a_sign sign_left_parenthesis) in
      let b3 : List ℕ = b2 ++ canonical (whole W c) in
      let b4 : List ℕ = b3 ++ printed (a_sign sign_right_parenthesis) in
      let t4 : List Lexeme = laid file b4 (whole W s) o2 in
      let t3 : List Lexeme = sign_at sign_right_parenthesis (position_behind file b3) ∷ t4 in
      let t2 : List Lexeme = laid file b2 (whole W c) t3 in
      let t1 : List Lexeme = sign_at sign_left_parenthesis (position_behind file b1) ∷ t2 in
      let t0 : List Lexeme = word_at word_while (position_behind file b) ∷ t1 in
      let a1 = level_again W first file M b2 t3 d1 (front-then (statement_front d2) (front-put _ _ f)) (λ c. c) in
      let a2 = statement_again W first file a1.nodes b4 o2 d2 (behind (level_rest d1 (behind2 src))) (front-put _ _ f) h
      in
      let made : Node = While (position_behind file b) a1.place a2.place in
      let said : whole W (length N2) ≡ a_word word_while
      ∷ (a_sign sign_left_parenthesis ∷ (whole W c ++ (a_sign sign_right_parenthesis ∷ (whole W s ++ ([]))))) =
      whole_at W _ _ first at in
      let same : laid file b (whole W (length N2)) o2 ≡ t0 = ap (λ (ss : List Symbol). laid file b ss o2) said
      ∙ simp laid-append in
      reported_moved same
      (reported_of (put a2.nodes made) (length a2.nodes) (front-then a1.grown (front-then a2.grown (front-one _)))
      (while_statement a1.read a2.read)
      (λ V g. alike at (front-at _ _ g) refl
      (one_alike (a1.alike V (front-then a2.grown (front-put _ _ g)))
      (one_alike (a2.alike V (front-put _ _ g)) none_alike))))
  statement_again W first file M b o2
      (for_local {N1 = N1} {N2 = N2} {N3 = N3} {N4 = N4} {N5 = N5} {t = t} {e = e} {c = c} {u = u} {s = s} {w = w}
      {p = p} {a = a} {b = b'} d1 d2 d3 d4 d5) src f h =
      let at : slice_get W (length N5) ≡ Some (For p (length N2) c u s) = front-at _ _ f in
      let ff : Front (put N2 (LocalWithValue b' a w None t e)) W =
      (front-then (level_front d3)
      (front-then (assignment_front d4) (front-then (statement_front d5) (front-put _ _ f)))) in
      let under : slice_get W (length N2) ≡ Some (LocalWithValue b' a w None t e) = front-at _ _ ff in
      let inner : whole W (length N2) ≡ whole W t
      ++ (a_name w ∷ a_sign sign_assign ∷ (whole W e ++ a_sign sign_semicolon ∷ [])) = whole_at W _ _ first under in
      let opened : whole W (length N5) ≡ a_word word_for ∷ a_sign sign_left_parenthesis
      ∷ (whole W (length N2)
      ++ (whole W c
      ++ (a_sign sign_semicolon ∷ (bare W u ++ (a_sign sign_right_parenthesis ∷ (whole W s ++ [])))))) = whole_at W
      _ _ first at in
      let flat : (whole W t ++ (a_name w ∷ a_sign sign_assign ∷ (whole W e ++ a_sign sign_semicolon ∷ [])))
      ++ (whole W c ++ (a_sign sign_semicolon ∷ (bare W u ++ (a_sign sign_right_parenthesis ∷ (whole W s ++ [])))))
      ≡ whole W t
      ++ (a_name w ∷ a_sign sign_assign
      ∷ (whole W e
      ++ (a_sign sign_semicolon
      ∷ (whole W c
      ++ (a_sign sign_semicolon ∷ (bare W u ++ (a_sign sign_right_parenthesis ∷ (whole W s ++ [])))))))) =
      append_assoc (whole W t) _ _ ∙ ap (λ (ss : List Symbol). whole W t ++ (a_name w ∷ a_sign sign_assign ∷ ss))
      (append_assoc (whole W e) (a_sign sign_semicolon ∷ []) _) in
      let b1 : List ℕ = b ++ printed (a_word word_for) in
      let b2 : List ℕ = b1 ++ printed (a_sign sign_left_parenthesis) in
      let b3 : List ℕ = b2 ++ canonical (whole W t) in
      let b4 : List ℕ = b3 ++ printed (a_name w) in
      let b5 : List ℕ = b4 ++ printed (a_sign sign_assign) in
      let b6 : List ℕ = b5 ++ canonical (whole W e) in
      let b7 : List ℕ = b6 ++ printed (a_sign sign_semicolon) in
      let b8 : List ℕ = b7 ++ canonical (whole W c) in
      let b9 : List ℕ = b8 ++ printed (a_sign sign_semicolon) in
      let b10 : List ℕ = b9 ++ canonical (bare W u) in
      let b11 : List ℕ = b10 ++ printed (a_sign sign_right_parenthesis) in
      let t11 : List Lexeme = laid file b11 (whole W s) o2 in
      let t10 : List Lexeme = sign_at sign_right_parenthesis (position_behind file b10) ∷ t11 in
      let t9 : List Lexeme = laid file b9 (bare W u) t10 in
      let t8 : List Lexeme = sign_at sign_semicolon (position_behind file b8) ∷ t9 in
      let t7 : List Lexeme = laid file b7 (whole W c) t8 in
      let t6 : List Lexeme = sign_at sign_semicolon (position_behind file b6) ∷ t7 in
      let t5 : List Lexeme = laid file b5 (whole W e) t6 in
      let t4 : List Lexeme = sign_at sign_assign (position_behind file b4) ∷ t5 in
      let t3 : List Lexeme = name_at w (position_behind file b3) ∷ t4 in
      let t2 : List Lexeme = laid file b2 (whole W t) t3 in
      let t1 : List Lexeme = sign_at sign_left_parenthesis (position_behind file b1) ∷ t2 in
      let t0 : List Lexeme = word_at word_for (position_behind file b) ∷ t1 in
      let a1 = type_again W first file M b2 t3 d1 (front-then (level_front d2) (front-put _ _ ff)) in
      let a2 = level_again W first file a1.nodes b5 t6 d2 (front-put _ _ ff) (λ c. c) in
      let a3 =
      level_again W first file
      (put a2.nodes (LocalWithValue (position_behind file b4) (position_behind file b3) w None a1.place a2.place)) b7 t8
      d3 (front-then (assignment_front d4) (front-then (statement_front d5) (front-put _ _ f))) (λ c. c) in
      let a4 = assignment_again W first file a3.nodes b9 t10 d4 (front-then (statement_front d5) (front-put _ _ f)) refl
      in
      let a5 =
      statement_again W first file a4.nodes b11 o2 d5
      (behind
      (assignment_rest d4 (behind (level_rest d3 (behind (level_rest d2 (behind2 (type_rest d1 (behind2 src)))))))))
      (front-put _ _ f) h in
      let made : Node = For (position_behind file b) (length a2.nodes) a3.place a4.place a5.place in
      let said : whole W (length N5) ≡ a_word word_for
      ∷ (a_sign sign_left_parenthesis
      ∷ (whole W t
      ++ (a_name w
      ∷ (a_sign sign_assign
      ∷ (whole W e
      ++ (a_sign sign_semicolon
      ∷ (whole W c
      ++ (a_sign sign_semicolon ∷ (bare W u ++ (a_sign sign_right_parenthesis ∷ (whole W s ++ ([])))))))))))) =
      opened
      ∙ ap (λ (ss : List Symbol). a_word word_for ∷ a_sign sign_left_parenthesis
      ∷ (ss
      ++ (whole W c
      ++ (a_sign sign_semicolon ∷ (bare W u ++ (a_sign sign_right_parenthesis ∷ (whole W s ++ []))))))) inner
      ∙ ap (λ (ss : List Symbol). a_word word_for ∷ a_sign sign_left_parenthesis ∷ ss) flat in
      let same : laid file b (whole W (length N5)) o2 ≡ t0 = ap (λ (ss : List Symbol). laid file b ss o2) said
      ∙ simp laid-append in
      reported_moved same
      (reported_of (put a5.nodes made) (length a5.nodes)
      (front-then a1.grown
      (front-then a2.grown
      (front-then (front-one _) (front-then a3.grown (front-then a4.grown (front-then a5.grown (front-one _)))))))
      (for_local a1.read a2.read a3.read a4.read a5.read)
      (λ V g. let g2 : Front
      (put a2.nodes (LocalWithValue (position_behind file b4) (position_behind file b3) w None a1.place a2.place)) V =
      (front-then a3.grown (front-then a4.grown (front-then a5.grown (front-put _ _ g)))) in
      alike at (front-at _ _ g) refl
      (one_alike
      (alike under (front-at _ _ g2) refl
      (one_alike (a1.alike V (front-then a2.grown (front-put _ _ g2)))
      (one_alike (a2.alike V (front-put _ _ g2)) none_alike)))
      (one_alike (a3.alike V (front-then a4.grown (front-then a5.grown (front-put _ _ g))))
      (one_alike (a4.alike V (front-then a5.grown (front-put _ _ g)))
      (one_alike (a5.alike V (front-put _ _ g)) none_alike))))))
  statement_again W first file M b o2
      (for_assignment {N1 = N1} {N2 = N2} {N3 = N3} {N4 = N4} {f = z} {c = c} {u = u} {s = s} {p = p} d1 d2 d3 d4) src f
      h =
      let at : slice_get W (length N4) ≡ Some (For p z c u s) = front-at _ _ f in
      let inner : whole W z ≡ bare W z ++ a_sign sign_semicolon ∷ [] =
      assignment_statement first d1
      (front-then (level_front d2)
      (front-then (assignment_front d3) (front-then (statement_front d4) (front-put _ _ f)))) in
      let opened : whole W (length N4) ≡ a_word word_for ∷ a_sign sign_left_parenthesis
      ∷ (whole W z
      ++ (whole W c
      ++ (a_sign sign_semicolon ∷ (bare W u ++ (a_sign sign_right_parenthesis ∷ (whole W s ++ [])))))) = whole_at W
      _ _ first at in
      let b1 : List ℕ = b ++ printed (a_word word_for) in
      let b2 : List ℕ = b1 ++ printed (a_sign sign_left_parenthesis) in
      let b3 : List ℕ = b2 ++ canonical (bare W z) in
      let b4 : List ℕ = b3 ++ printed (a_sign sign_semicolon) in
      let b5 : List ℕ = b4 ++ canonical (whole W c) in
      let b6 : List ℕ = b5 ++ printed (a_sign sign_semicolon) in
      let b7 : List ℕ = b6 ++ canonical (bare W u) in
      let b8 : List ℕ = b7 ++ printed (a_sign sign_right_parenthesis) in
      let t8 : List Lexeme = laid file b8 (whole W s) o2 in
      let t7 : List Lexeme = sign_at sign_right_parenthesis (position_behind file b7) ∷ t8 in
      let t6 : List Lexeme = laid file b6 (bare W u) t7 in
      let t5 : List Lexeme = sign_at sign_semicolon (position_behind file b5) ∷ t6 in
      let t4 : List Lexeme = laid file b4 (whole W c) t5 in
      let t3 : List Lexeme = sign_at sign_semicolon (position_behind file b3) ∷ t4 in
      let t2 : List Lexeme = laid file b2 (bare W z) t3 in
      let t1 : List Lexeme = sign_at sign_left_parenthesis (position_behind file b1) ∷ t2 in
      let t0 : List Lexeme = word_at word_for (position_behind file b) ∷ t1 in
      let a1 =
      assignment_again W first file M b2 t3 d1
      (front-then (level_front d2)
      (front-then (assignment_front d3) (front-then (statement_front d4) (front-put _ _ f)))) refl in
      let a2 =
      level_again W first file a1.nodes b4 t5 d2
      (front-then (assignment_front d3) (front-then (statement_front d4) (front-put _ _ f))) (λ c. c) in
      let a3 = assignment_again W first file a2.nodes b6 t7 d3 (front-then (statement_front d4) (front-put _ _ f)) refl
      in
      let a4 =
      statement_again W first file a3.nodes b8 o2 d4
      (behind (assignment_rest d3 (behind (level_rest d2 (behind (assignment_rest d1 (behind2 src)))))))
      (front-put _ _ f) h in
      let made : Node = For (position_behind file b) a1.place a2.place a3.place a4.place in
      let said : whole W (length N4) ≡ a_word word_for
      ∷ (a_sign sign_left_parenthesis
      ∷ (bare W z
      ++ (a_sign sign_semicolon
      ∷ (whole W c
      ++ (a_sign sign_semicolon ∷ (bare W u ++ (a_sign sign_right_parenthesis ∷ (whole W s ++ ([]))))))))) = opened
      ∙ ap (λ (ss : List Symbol). a_word word_for ∷ a_sign sign_left_parenthesis
      ∷ (ss
      ++ (whole W c
      ++ (a_sign sign_semicolon ∷ (bare W u ++ (a_sign sign_right_parenthesis ∷ (whole W s ++ []))))))) inner
      ∙ ap (λ (ss : List Symbol). a_word word_for ∷ a_sign sign_left_parenthesis ∷ ss)
      (append_assoc (bare W z) (a_sign sign_semicolon ∷ []) _) in
      let same : laid file b (whole W (length N4)) o2 ≡ t0 = ap (λ (ss : List Symbol). laid file b ss o2) said
      ∙ simp laid-append in
      reported_moved same
      (reported_of (put a4.nodes made) (length a4.nodes)
      (front-then a1.grown (front-then a2.grown (front-then a3.grown (front-then a4.grown (front-one _)))))
      (for_assignment a1.read a2.read a3.read a4.read)
      (λ V g. alike at (front-at _ _ g) refl
      (one_alike (a1.alike V (front-then a2.grown (front-then a3.grown (front-then a4.grown (front-put _ _ g)))))
      (one_alike (a2.alike V (front-then a3.grown (front-then a4.grown (front-put _ _ g))))
      (one_alike (a3.alike V (front-then a4.grown (front-put _ _ g)))
      (one_alike (a4.alike V (front-put _ _ g)) none_alike))))))
  statement_again W first file M b o2 (return_alone {N = N} {p = p}) src f h =
      let at : slice_get W (length N) ≡ Some (Return p None) = front-at _ _ f in
      let b1 : List ℕ = b ++ printed (a_word word_return) in
      let t1 : List Lexeme = sign_at sign_semicolon (position_behind file b1) ∷ o2 in
      let t0 : List Lexeme = word_at word_return (position_behind file b) ∷ t1 in
      let made : Node = Return (position_behind file b) None in
      let said : whole W (length N) ≡ a_word word_return ∷ (a_sign sign_semicolon ∷ ([])) = whole_at W _ _ first at in
      let same : laid file b (whole W (length N)) o2 ≡ t0 = ap (λ (ss : List Symbol). laid file b ss o2) said in
      reported_moved same
      (reported_of (put M made) (length M) (front-one _) (return_alone)
      (λ V g. alike at (front-at _ _ g) refl none_alike))
  statement_again W first file M b o2 (return_value {N1 = N1} {e = e} {p = p} d) src f h =
      let at : slice_get W (length N1) ≡ Some (Return p (Some e)) = front-at _ _ f in
      let b1 : List ℕ = b ++ printed (a_word word_return) in
      let b2 : List ℕ = b1 ++ canonical (whole W e) in
      let t2 : List Lexeme = sign_at sign_semicolon (position_behind file b2) ∷ o2 in
      let t1 : List Lexeme = laid file b1 (whole W e) t2 in
      let t0 : List Lexeme = word_at word_return (position_behind file b) ∷ t1 in
      let a1 = level_again W first file M b1 t2 d (front-put _ _ f) (λ c. c) in
      let made : Node = Return (position_behind file b) (Some a1.place) in
      let said : whole W (length N1) ≡ a_word word_return ∷ (whole W e ++ (a_sign sign_semicolon ∷ ([]))) =
      whole_at W _ _ first at in
      let same : laid file b (whole W (length N1)) o2 ≡ t0 = ap (λ (ss : List Symbol). laid file b ss o2) said
      ∙ simp laid-append in
      reported_moved same
      (reported_of (put a1.nodes made) (length a1.nodes) (front-then a1.grown (front-one _)) (return_value a1.read)
      (λ V g. alike at (front-at _ _ g) refl (one_alike (a1.alike V (front-put _ _ g)) none_alike)))

  pub statements_again : (W : List Node) → ChildrenFirst 0 W →
      (file : ℕ) (M : List Node) (b : List ℕ) (o2 : List Lexeme) {N N1 : List Node} {i o : List Lexeme} {ids : List ℕ} →
      StatementsRead N i N1 o ids → AreOfSource i → Front N1 W → (Starts o → Starts o2) →
      AllAgain StatementsRead W M (laid file b (symbols_of W ids) o2) o2 ids
  statements_again W first file M b o2 no_statement src f h =
      all_again_of M [] front-none no_statement (λ V g. none_alike)
  statements_again W first file M b o2 (one_statement_more {ids = ids} {id = id} d1 d2) src f h =
      let b1 : List ℕ = b ++ canonical (symbols_of W ids) in
      let t1 : List Lexeme = laid file b1 (whole W id) o2 in
      let probe = statement_again W first file M b1 o2 d2 (statements_rest d1 src) f h in
      let a1 = statements_again W first file M b t1 d1 src (front-then (statement_front d2) f)
      (λ c. statement_starts probe.read) in
      let a2 = statement_again W first file a1.nodes b1 o2 d2 (statements_rest d1 src) f h in
      let same : laid file b (symbols_of W (ids ++ id ∷ [])) o2 ≡ laid file b (symbols_of W ids) t1 =
      ap (λ (ss : List Symbol). laid file b ss o2) (each-put W ids id)
      ∙ laid-append file b (symbols_of W ids) (whole W id) o2 in
      all_moved same
      (all_again_of a2.nodes (a1.places ++ a2.place ∷ []) (front-then a1.grown a2.grown)
      (one_statement_more a1.read a2.read) (λ V g. alike-put (a1.alike V (front-then a2.grown g)) (a2.alike V g)))
