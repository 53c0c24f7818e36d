-- The canonical lexemes of an expression are read as the same expression.
use Rattle.std.proofs.Common.{◌≡◌, ℕ, Bool, true, false, List, [], ◌∷◌, ◌++◌, Some, None, slice_get, length, refl, sym, ap, ◌∙◌}
use Rattle.scj_base.specs.Vocabulary.{word_boolean, word_false, word_int, word_new, word_null, word_this, word_true, sign_left_parenthesis, sign_right_parenthesis, sign_left_bracket, sign_right_bracket, sign_comma, sign_dot, sign_minus, sign_not, sign_tilde}
use Rattle.scj_base.specs.declared.positions.Position.{Position}
use Rattle.scj_base.specs.Lex.{position_behind}
use Rattle.scj_tree.specs.declared.nodes.Node.{Node}
use Rattle.scj_tree.specs.declared.nodes.Node.TheVariants.{IntType, BooleanType, ClassType, Binary, Unary, Cast, Parenthesized, SimpleName, FieldAccess, Call, Element, New, NewArray, Text, Number, True, False, Null, This}
use Rattle.scj_tree.specs.declared.parsed_parts.PostKind.{PostKind}
use Rattle.scj_tree.specs.Lexemes.{Lexeme, a_name as name_at, a_word as word_at, a_number as number_at, a_text as text_at, a_sign as sign_at}
use Rattle.scj_tree.specs.Terminals.{closes_name, begins_unary1, is_unary1_start}
use Rattle.scj_tree.specs.Nodes.{put}
use Rattle.scj_tree.specs.Expressions.{Level, UnaryRead, Unary1Read, PostRead, ArgumentRead, ArgumentsBegun, ArgumentsRead, operand, tighter, binary, minus, minimum_unary, plain_unary, negation, complement, cast, post_unary, simple_name, simple_call, field_of, call_of, element_of, number, minimum_number, true_value, false_value, null_value, this_value, parenthesized, parenthesized_name, new_object, new_ints, new_booleans, new_references, expression_argument, text_argument, no_argument_yet, argument_and_comma, no_arguments, arguments}
use Rattle.scj_tree.specs.Forest.{ChildrenFirst}
use Rattle.scj_tree.specs.Shape.{children}
use Rattle.scj_show.specs.Parts.{parts_of, listed, call_parts, in_parentheses, argument_in_brackets, brackets, class_type_parts, object_and_dot, sign_if_set}
use Rattle.scj_show.specs.Symbols.{Symbol, a_name, a_word, a_sign, a_number, canonical, own_symbols, symbols_of_part, symbols_of_parts}
use Rattle.scj_show.specs.Placed.{printed, lexeme_at}
use Rattle.scj_show.specs.Alike.{nowhere, shape, in_order, alike, none_alike, one_alike}
use Rattle.scj_show.proofs.Again.{Front, front-none, front-one, front-then, front-put, front-at, whole, whole_at, laid, laid-append, head, minimum_of_heads, unary1_of_heads, right_of_heads, Calm, followed, followed-put, arguments_of, arguments_of-put, Again, again_of, moved, AllAgain, all_again_of, all_moved, alike-put, counted-same, PostHere, post_here}

-- ---- reading puts nodes behind the others

mutual
  pub level_front : {n : ℕ} {N N1 : List Node} {i o : List Lexeme} {id : ℕ} → Level n N i N1 o id → Front N N1
  level_front (operand d) = unary_front d
  level_front (tighter d) = level_front d
  level_front (binary h l r) = front-then (level_front l) (front-then (level_front r) (front-one _))

  pub unary_front : {N N1 : List Node} {i o : List Lexeme} {id : ℕ} → UnaryRead N i N1 o id → Front N N1
  unary_front (minus h d) = front-then (unary_front d) (front-one _)
  unary_front (minimum_unary d) = post_front d
  unary_front (plain_unary d) = unary1_front d

  pub unary1_front : {N N1 : List Node} {i o : List Lexeme} {id : ℕ} → Unary1Read N i N1 o id → Front N N1
  unary1_front (negation d) = front-then (unary_front d) (front-one _)
  unary1_front (complement d) = front-then (unary_front d) (front-one _)
  unary1_front (cast h d) = front-then (unary1_front d) (front-one _)
  unary1_front (post_unary d) = post_front d

  pub post_front : {minimum : Bool} {kind : PostKind} {p : Position} {N N1 : List Node} {i o : List Lexeme} {id : ℕ} →
      PostRead minimum kind p N i N1 o id → Front N N1
  post_front simple_name = (front-one _)
  post_front (simple_call d) = front-then (arguments_front d) (front-one _)
  post_front (field_of d) = front-then (post_front d) (front-one _)
  post_front (call_of d e) = front-then (post_front d) (front-then (arguments_front e) (front-one _))
  post_front (element_of h d e) = front-then (post_front d) (front-then (level_front e) (front-one _))
  post_front (number h) = (front-one _)
  post_front minimum_number = (front-one _)
  post_front true_value = (front-one _)
  post_front false_value = (front-one _)
  post_front null_value = (front-one _)
  post_front this_value = (front-one _)
  post_front (parenthesized h d) = front-then (level_front d) (front-one _)
  post_front (parenthesized_name h) = front-then (front-one _) (front-one _)
  post_front (new_object d) = front-then (arguments_front d) (front-one _)
  post_front (new_ints d) = front-then (front-one _) (front-then (level_front d) (front-one _))
  post_front (new_booleans d) = front-then (front-one _) (front-then (level_front d) (front-one _))
  post_front (new_references d) = front-then (front-one _) (front-then (level_front d) (front-one _))

  pub argument_front : {N N1 : List Node} {i o : List Lexeme} {id : ℕ} → ArgumentRead N i N1 o id → Front N N1
  argument_front (expression_argument d) = level_front d
  argument_front text_argument = (front-one _)

  pub arguments_begun_front : {N N1 : List Node} {i o : List Lexeme} {ids : List ℕ} → ArgumentsBegun N i N1 o ids →
      Front N N1
  arguments_begun_front no_argument_yet = front-none
  arguments_begun_front (argument_and_comma d e) = front-then (arguments_begun_front d) (argument_front e)

  pub arguments_front : {N N1 : List Node} {i o : List Lexeme} {ids : List ℕ} → ArgumentsRead N i N1 o ids → Front N N1
  arguments_front no_arguments = front-none
  arguments_front (arguments d e) = front-then (arguments_begun_front d) (argument_front e)

-- ---- and again

mutual
  unfolding symbols_of_parts symbols_of_part own_symbols parts_of call_parts in_parentheses argument_in_brackets
      brackets class_type_parts object_and_dot sign_if_set lexeme_at begins_unary1 is_unary1_start shape in_order
      children laid head closes_name arguments_of followed listed

  pub level_again : (W : List Node) → ChildrenFirst 0 W →
      (file : ℕ) (M : List Node) (b : List ℕ) (o2 : List Lexeme) {n : ℕ} {N N1 : List Node} {i o : List Lexeme}
      {id : ℕ} → Level n N i N1 o id → Front N1 W → Calm o o2 →
      Again (Level n) W M i o (laid file b (whole W id) o2) o2 id
  level_again W first file M b o2 (operand d) f h =
      let a = unary_again W first file M b o2 d f h in
      again_of a.nodes a.place a.grown (operand a.read) a.heads a.closes a.alike
  level_again W first file M b o2 (tighter d) f h =
      let a = level_again W first file M b o2 d f h in
      again_of a.nodes a.place a.grown (tighter a.read) a.heads a.closes a.alike
  level_again W first file M b o2 (binary {N1 = N1} {N2 = N2} {l = l} {r = r} {op = op} {p = p} e d1 d2) f h =
      let at : slice_get W (length N2) ≡ Some (Binary p op l r) = front-at _ _ f in
      let b1 : List ℕ = b ++ canonical (whole W l) in
      let b2 : List ℕ = b1 ++ printed (a_sign op) in
      let t2 : List Lexeme = laid file b2 (whole W r) o2 in
      let t1 : List Lexeme = sign_at op (position_behind file b1) ∷ t2 in
      let t0 : List Lexeme = laid file b (whole W l) t1 in
      let a1 = level_again W first file M b t1 d1 (front-then (level_front d2) (front-put _ _ f)) (λ c. c) in
      let a2 = level_again W first file a1.nodes b2 o2 d2 (front-put _ _ f) h in
      let made : Node = Binary (position_behind file b1) op a1.place a2.place in
      let said : whole W (length N2) ≡ whole W l ++ (a_sign op ∷ (whole W r ++ ([]))) = whole_at W _ _ first at in
      let same : laid file b (whole W (length N2)) o2 ≡ t0 = ap (λ (ss : List Symbol). laid file b ss o2) said
      ∙ simp laid-append in
      moved same
      (again_of (put a2.nodes made) (length a2.nodes) (front-then a1.grown (front-then a2.grown (front-one _)))
      (binary e a1.read a2.read) (a1.heads) (λ s. a1.closes refl)
      (λ V g. alike at (front-at _ _ g) refl
      (one_alike (a1.alike V (front-then a2.grown (front-put _ _ g)))
      (one_alike (a2.alike V (front-put _ _ g)) none_alike))))

  pub unary_again : (W : List Node) → ChildrenFirst 0 W →
      (file : ℕ) (M : List Node) (b : List ℕ) (o2 : List Lexeme) {N N1 : List Node} {i o : List Lexeme} {id : ℕ} →
      UnaryRead N i N1 o id → Front N1 W → Calm o o2 → Again UnaryRead W M i o (laid file b (whole W id) o2) o2 id
  unary_again W first file M b o2 (minus {N1 = N1} {i = i} {e = e} {p = p} m d) f h =
      let at : slice_get W (length N1) ≡ Some (Unary p sign_minus e) = front-at _ _ f in
      let b1 : List ℕ = b ++ printed (a_sign sign_minus) in
      let t1 : List Lexeme = laid file b1 (whole W e) o2 in
      let t0 : List Lexeme = sign_at sign_minus (position_behind file b) ∷ t1 in
      let a1 = unary_again W first file M b1 o2 d (front-put _ _ f) h in
      let made : Node = Unary (position_behind file b) sign_minus a1.place in
      let said : whole W (length N1) ≡ a_sign sign_minus ∷ (whole W e ++ ([])) = whole_at W _ _ first at in
      let same : laid file b (whole W (length N1)) o2 ≡ t0 = ap (λ (ss : List Symbol). laid file b ss o2) said
      ∙ simp laid-append in
      moved same (again_of (put a1.nodes made) (length a1.nodes) (front-then a1.grown (front-one _))
      (minus (sym (minimum_of_heads _ _ a1.heads) ∙ m) a1.read) (refl) (λ s. refl)
      (λ V g. alike at (front-at _ _ g) refl (one_alike (a1.alike V (front-put _ _ g)) none_alike)))
  unary_again W first file M b o2 (minimum_unary d) f h =
      let a = post_again W first file M b o2 d f h in
      again_of a.nodes a.place a.grown (minimum_unary a.read.read) a.heads a.closes a.alike
  unary_again W first file M b o2 (plain_unary d) f h =
      let a = unary1_again W first file M b o2 d f h in
      again_of a.nodes a.place a.grown (plain_unary a.read) a.heads a.closes a.alike

  pub unary1_again : (W : List Node) → ChildrenFirst 0 W →
      (file : ℕ) (M : List Node) (b : List ℕ) (o2 : List Lexeme) {N N1 : List Node} {i o : List Lexeme} {id : ℕ} →
      Unary1Read N i N1 o id → Front N1 W → Calm o o2 → Again Unary1Read W M i o (laid file b (whole W id) o2) o2 id
  unary1_again W first file M b o2 (negation {N1 = N1} {e = e} {p = p} d) f h =
      let at : slice_get W (length N1) ≡ Some (Unary p sign_not e) = front-at _ _ f in
      let b1 : List ℕ = b ++ printed (a_sign sign_not) in
      let t1 : List Lexeme = laid file b1 (whole W e) o2 in
      let t0 : List Lexeme = sign_at sign_not (position_behind file b) ∷ t1 in
      let a1 = unary_again W first file M b1 o2 d (front-put _ _ f) h in
      let made : Node = Unary (position_behind file b) sign_not a1.place in
      let said : whole W (length N1) ≡ a_sign sign_not ∷ (whole W e ++ ([])) = whole_at W _ _ first at in
      let same : laid file b (whole W (length N1)) o2 ≡ t0 = ap (λ (ss : List Symbol). laid file b ss o2) said
      ∙ simp laid-append in
      moved same (again_of (put a1.nodes made) (length a1.nodes) (front-then a1.grown (front-one _)) (negation a1.read)
      (refl) (λ s. refl)
      (λ V g. alike at (front-at _ _ g) refl (one_alike (a1.alike V (front-put _ _ g)) none_alike)))
  unary1_again W first file M b o2 (complement {N1 = N1} {e = e} {p = p} d) f h =
      let at : slice_get W (length N1) ≡ Some (Unary p sign_tilde e) = front-at _ _ f in
      let b1 : List ℕ = b ++ printed (a_sign sign_tilde) in
      let t1 : List Lexeme = laid file b1 (whole W e) o2 in
      let t0 : List Lexeme = sign_at sign_tilde (position_behind file b) ∷ t1 in
      let a1 = unary_again W first file M b1 o2 d (front-put _ _ f) h in
      let made : Node = Unary (position_behind file b) sign_tilde a1.place in
      let said : whole W (length N1) ≡ a_sign sign_tilde ∷ (whole W e ++ ([])) = whole_at W _ _ first at in
      let same : laid file b (whole W (length N1)) o2 ≡ t0 = ap (λ (ss : List Symbol). laid file b ss o2) said
      ∙ simp laid-append in
      moved same (again_of (put a1.nodes made) (length a1.nodes) (front-then a1.grown (front-one _))
      (complement a1.read) (refl) (λ s. refl)
      (λ V g. alike at (front-at _ _ g) refl (one_alike (a1.alike V (front-put _ _ g)) none_alike)))
  unary1_again W first file M b o2 (cast {N1 = N1} {i = i} {e = e} {w = w} {p = p} {q = q} m d) f h =
      let at : slice_get W (length N1) ≡ Some (Cast p q w e) = front-at _ _ f in
      let b1 : List ℕ = b ++ printed (a_sign sign_left_parenthesis) in
      let b2 : List ℕ = b1 ++ printed (a_name w) in
      let b3 : List ℕ = b2 ++ printed (a_sign sign_right_parenthesis) in
      let t3 : List Lexeme = laid file b3 (whole W e) o2 in
      let t2 : List Lexeme = sign_at sign_right_parenthesis (position_behind file b2) ∷ t3 in
      let t1 : List Lexeme = name_at w (position_behind file b1) ∷ t2 in
      let t0 : List Lexeme = sign_at sign_left_parenthesis (position_behind file b) ∷ t1 in
      let a1 = unary1_again W first file M b3 o2 d (front-put _ _ f) h in
      let made : Node = Cast (position_behind file b) (position_behind file b1) w a1.place in
      let said : whole W (length N1) ≡ a_sign sign_left_parenthesis
      ∷ (a_name w ∷ (a_sign sign_right_parenthesis ∷ (whole W e ++ ([])))) = whole_at W _ _ first at in
      let same : laid file b (whole W (length N1)) o2 ≡ t0 = ap (λ (ss : List Symbol). laid file b ss o2) said
      ∙ simp laid-append in
      moved same (again_of (put a1.nodes made) (length a1.nodes) (front-then a1.grown (front-one _))
      (cast (sym (unary1_of_heads _ _ a1.heads) ∙ m) a1.read) (refl) (λ s. refl)
      (λ V g. alike at (front-at _ _ g) refl (one_alike (a1.alike V (front-put _ _ g)) none_alike)))
  unary1_again W first file M b o2 (post_unary d) f h =
      let a = post_again W first file M b o2 d f h in
      again_of a.nodes a.place a.grown (post_unary a.read.read) a.heads a.closes a.alike

  pub post_again : (W : List Node) → ChildrenFirst 0 W →
      (file : ℕ) (M : List Node) (b : List ℕ) (o2 : List Lexeme) {minimum : Bool} {kind : PostKind} {p : Position}
      {N N1 : List Node} {i o : List Lexeme} {id : ℕ} → PostRead minimum kind p N i N1 o id → Front N1 W → Calm o o2 →
      Again (PostHere minimum kind) W M i o (laid file b (whole W id) o2) o2 id
  post_again W first file M b o2 (simple_name {N = N} {w = w} {p = p} {o = o}) f h =
      let at : slice_get W (length N) ≡ Some (SimpleName p w) = front-at _ _ f in
      let t0 : List Lexeme = name_at w (position_behind file b) ∷ o2 in
      let made : Node = SimpleName (position_behind file b) w in
      let said : whole W (length N) ≡ a_name w ∷ ([]) = whole_at W _ _ first at in
      let same : laid file b (whole W (length N)) o2 ≡ t0 = ap (λ (ss : List Symbol). laid file b ss o2) said in
      moved same
      (again_of (put M made) (length M) (front-one _) (post_here (simple_name)) (refl)
      (λ s. right_of_heads w p (position_behind file b) o o2 s) (λ V g. alike at (front-at _ _ g) refl none_alike))
  post_again W first file M b o2 (simple_call {N1 = N1} {ids = ids} {w = w} {p = p} d) f h =
      let at : slice_get W (length N1) ≡ Some (Call p w None ids) = front-at _ _ f in
      let b1 : List ℕ = b ++ printed (a_name w) in
      let b2 : List ℕ = b1 ++ printed (a_sign sign_left_parenthesis) in
      let t2 : List Lexeme = laid file b2 (arguments_of W ids) o2 in
      let t1 : List Lexeme = sign_at sign_left_parenthesis (position_behind file b1) ∷ t2 in
      let t0 : List Lexeme = name_at w (position_behind file b) ∷ t1 in
      let a1 = arguments_again W first file M b2 o2 d (front-put _ _ f) h in
      let made : Node = Call (position_behind file b) w None a1.places in
      let said : whole W (length N1) ≡ a_name w ∷ (a_sign sign_left_parenthesis ∷ (arguments_of W ids)) =
      whole_at W _ _ first at in
      let same : laid file b (whole W (length N1)) o2 ≡ t0 = ap (λ (ss : List Symbol). laid file b ss o2) said in
      moved same (again_of (put a1.nodes made) (length a1.nodes) (front-then a1.grown (front-one _))
      (post_here (simple_call a1.read)) (refl) (λ s. refl)
      (λ V g. alike at (front-at _ _ g)
      (ap (λ (t : List ℕ). Call nowhere w None t) (counted-same (a1.alike V (front-put _ _ g))))
      (a1.alike V (front-put _ _ g))))
  post_again W first file M b o2 (field_of {N1 = N1} {e = e} {w = w} {p = p} d) f h =
      let at : slice_get W (length N1) ≡ Some (FieldAccess p w e) = front-at _ _ f in
      let b1 : List ℕ = b ++ canonical (whole W e) in
      let b2 : List ℕ = b1 ++ printed (a_sign sign_dot) in
      let t2 : List Lexeme = name_at w (position_behind file b2) ∷ o2 in
      let t1 : List Lexeme = sign_at sign_dot (position_behind file b1) ∷ t2 in
      let t0 : List Lexeme = laid file b (whole W e) t1 in
      let a1 = post_again W first file M b t1 d (front-put _ _ f) (λ c. c) in
      let made : Node = FieldAccess (position_behind file b2) w a1.place in
      let said : whole W (length N1) ≡ whole W e ++ (a_sign sign_dot ∷ (a_name w ∷ ([]))) = whole_at W _ _ first at in
      let same : laid file b (whole W (length N1)) o2 ≡ t0 = ap (λ (ss : List Symbol). laid file b ss o2) said
      ∙ simp laid-append in
      moved same (again_of (put a1.nodes made) (length a1.nodes) (front-then a1.grown (front-one _))
      (post_here (field_of a1.read.read)) (a1.heads) (λ s. a1.closes refl)
      (λ V g. alike at (front-at _ _ g) refl (one_alike (a1.alike V (front-put _ _ g)) none_alike)))
  post_again W first file M b o2 (call_of {N1 = N1} {N2 = N2} {e = e} {ids = ids} {w = w} {p = p} d1 d2) f h =
      let at : slice_get W (length N2) ≡ Some (Call p w (Some e) ids) = front-at _ _ f in
      let b1 : List ℕ = b ++ canonical (whole W e) in
      let b2 : List ℕ = b1 ++ printed (a_sign sign_dot) in
      let b3 : List ℕ = b2 ++ printed (a_name w) in
      let b4 : List ℕ = b3 ++ printed (a_sign sign_left_parenthesis) in
      let t4 : List Lexeme = laid file b4 (arguments_of W ids) o2 in
      let t3 : List Lexeme = sign_at sign_left_parenthesis (position_behind file b3) ∷ t4 in
      let t2 : List Lexeme = name_at w (position_behind file b2) ∷ t3 in
      let t1 : List Lexeme = sign_at sign_dot (position_behind file b1) ∷ t2 in
      let t0 : List Lexeme = laid file b (whole W e) t1 in
      let a1 = post_again W first file M b t1 d1 (front-then (arguments_front d2) (front-put _ _ f)) (λ c. c) in
      let a2 = arguments_again W first file a1.nodes b4 o2 d2 (front-put _ _ f) h in
      let made : Node = Call (position_behind file b2) w (Some a1.place) a2.places in
      let said : whole W (length N2) ≡ whole W e
      ++ (a_sign sign_dot ∷ (a_name w ∷ (a_sign sign_left_parenthesis ∷ (arguments_of W ids)))) =
      whole_at W _ _ first at in
      let same : laid file b (whole W (length N2)) o2 ≡ t0 = ap (λ (ss : List Symbol). laid file b ss o2) said
      ∙ simp laid-append in
      moved same
      (again_of (put a2.nodes made) (length a2.nodes) (front-then a1.grown (front-then a2.grown (front-one _)))
      (post_here (call_of a1.read.read a2.read)) (a1.heads) (λ s. a1.closes refl)
      (λ V g. alike at (front-at _ _ g)
      (ap (λ (t : List ℕ). Call nowhere w (Some 0) t) (counted-same (a2.alike V (front-put _ _ g))))
      (one_alike (a1.alike V (front-then a2.grown (front-put _ _ g))) (a2.alike V (front-put _ _ g)))))
  post_again W first file M b o2 (element_of {N1 = N1} {N2 = N2} {e = e} {x = x} {p = p} m d1 d2) f h =
      let at : slice_get W (length N2) ≡ Some (Element p e x) = front-at _ _ f in
      let b1 : List ℕ = b ++ canonical (whole W e) in
      let b2 : List ℕ = b1 ++ printed (a_sign sign_left_bracket) in
      let b3 : List ℕ = b2 ++ canonical (whole W x) in
      let t3 : List Lexeme = sign_at sign_right_bracket (position_behind file b3) ∷ o2 in
      let t2 : List Lexeme = laid file b2 (whole W x) t3 in
      let t1 : List Lexeme = sign_at sign_left_bracket (position_behind file b1) ∷ t2 in
      let t0 : List Lexeme = laid file b (whole W e) t1 in
      let a1 = post_again W first file M b t1 d1 (front-then (level_front d2) (front-put _ _ f)) (λ c. c) in
      let a2 = level_again W first file a1.nodes b2 t3 d2 (front-put _ _ f) (λ c. c) in
      let made : Node = Element (position_behind file b1) a1.place a2.place in
      let said : whole W (length N2) ≡ whole W e
      ++ (a_sign sign_left_bracket ∷ (whole W x ++ (a_sign sign_right_bracket ∷ ([])))) = whole_at W _ _ first at in
      let same : laid file b (whole W (length N2)) o2 ≡ t0 = ap (λ (ss : List Symbol). laid file b ss o2) said
      ∙ simp laid-append in
      moved same
      (again_of (put a2.nodes made) (length a2.nodes) (front-then a1.grown (front-then a2.grown (front-one _)))
      (post_here (element_of m a1.read.read a2.read)) (a1.heads) (λ s. a1.closes refl)
      (λ V g. alike at (front-at _ _ g) refl
      (one_alike (a1.alike V (front-then a2.grown (front-put _ _ g)))
      (one_alike (a2.alike V (front-put _ _ g)) none_alike))))
  post_again W first file M b o2 (number {N = N} {n = n} {p = p} m) f h =
      let at : slice_get W (length N) ≡ Some (Number p n false) = front-at _ _ f in
      let t0 : List Lexeme = number_at n (position_behind file b) ∷ o2 in
      let made : Node = Number (position_behind file b) n false in
      let said : whole W (length N) ≡ a_number n ∷ ([]) = whole_at W _ _ first at in
      let same : laid file b (whole W (length N)) o2 ≡ t0 = ap (λ (ss : List Symbol). laid file b ss o2) said in
      moved same (again_of (put M made) (length M) (front-one _) (post_here (number m)) (refl) (λ s. refl)
      (λ V g. alike at (front-at _ _ g) refl none_alike))
  post_again W first file M b o2 (minimum_number {N = N} {p = p}) f h =
      let at : slice_get W (length N) ≡ Some (Number p 2147483648 true) = front-at _ _ f in
      let b1 : List ℕ = b ++ printed (a_sign sign_minus) in
      let t1 : List Lexeme = number_at 2147483648 (position_behind file b1) ∷ o2 in
      let t0 : List Lexeme = sign_at sign_minus (position_behind file b) ∷ t1 in
      let made : Node = Number (position_behind file b) 2147483648 true in
      let said : whole W (length N) ≡ a_sign sign_minus ∷ (a_number 2147483648 ∷ ([])) = whole_at W _ _ first at in
      let same : laid file b (whole W (length N)) o2 ≡ t0 = ap (λ (ss : List Symbol). laid file b ss o2) said in
      moved same (again_of (put M made) (length M) (front-one _) (post_here (minimum_number)) (refl) (λ s. refl)
      (λ V g. alike at (front-at _ _ g) refl none_alike))
  post_again W first file M b o2 (true_value {N = N} {p = p}) f h =
      let at : slice_get W (length N) ≡ Some (True p) = front-at _ _ f in
      let t0 : List Lexeme = word_at word_true (position_behind file b) ∷ o2 in
      let made : Node = True (position_behind file b) in
      let said : whole W (length N) ≡ a_word word_true ∷ ([]) = whole_at W _ _ first at in
      let same : laid file b (whole W (length N)) o2 ≡ t0 = ap (λ (ss : List Symbol). laid file b ss o2) said in
      moved same (again_of (put M made) (length M) (front-one _) (post_here (true_value)) (refl) (λ s. refl)
      (λ V g. alike at (front-at _ _ g) refl none_alike))
  post_again W first file M b o2 (false_value {N = N} {p = p}) f h =
      let at : slice_get W (length N) ≡ Some (False p) = front-at _ _ f in
      let t0 : List Lexeme = word_at word_false (position_behind file b) ∷ o2 in
      let made : Node = False (position_behind file b) in
      let said : whole W (length N) ≡ a_word word_false ∷ ([]) = whole_at W _ _ first at in
      let same : laid file b (whole W (length N)) o2 ≡ t0 = ap (λ (ss : List Symbol). laid file b ss o2) said in
      moved same (again_of (put M made) (length M) (front-one _) (post_here (false_value)) (refl) (λ s. refl)
      (λ V g. alike at (front-at _ _ g) refl none_alike))
  post_again W first file M b o2 (null_value {N = N} {p = p}) f h =
      let at : slice_get W (length N) ≡ Some (Null p) = front-at _ _ f in
      let t0 : List Lexeme = word_at word_null (position_behind file b) ∷ o2 in
      let made : Node = Null (position_behind file b) in
      let said : whole W (length N) ≡ a_word word_null ∷ ([]) = whole_at W _ _ first at in
      let same : laid file b (whole W (length N)) o2 ≡ t0 = ap (λ (ss : List Symbol). laid file b ss o2) said in
      moved same (again_of (put M made) (length M) (front-one _) (post_here (null_value)) (refl) (λ s. refl)
      (λ V g. alike at (front-at _ _ g) refl none_alike))
  post_again W first file M b o2 (this_value {N = N} {p = p}) f h =
      let at : slice_get W (length N) ≡ Some (This p) = front-at _ _ f in
      let t0 : List Lexeme = word_at word_this (position_behind file b) ∷ o2 in
      let made : Node = This (position_behind file b) in
      let said : whole W (length N) ≡ a_word word_this ∷ ([]) = whole_at W _ _ first at in
      let same : laid file b (whole W (length N)) o2 ≡ t0 = ap (λ (ss : List Symbol). laid file b ss o2) said in
      moved same (again_of (put M made) (length M) (front-one _) (post_here (this_value)) (refl) (λ s. refl)
      (λ V g. alike at (front-at _ _ g) refl none_alike))
  post_again W first file M b o2 (parenthesized {N1 = N1} {i = i} {e = e} {p = p} m d) f h =
      let at : slice_get W (length N1) ≡ Some (Parenthesized p e) = front-at _ _ f in
      let b1 : List ℕ = b ++ printed (a_sign sign_left_parenthesis) in
      let b2 : List ℕ = b1 ++ canonical (whole W e) in
      let t2 : List Lexeme = sign_at sign_right_parenthesis (position_behind file b2) ∷ o2 in
      let t1 : List Lexeme = laid file b1 (whole W e) t2 in
      let t0 : List Lexeme = sign_at sign_left_parenthesis (position_behind file b) ∷ t1 in
      let a1 = level_again W first file M b1 t2 d (front-put _ _ f) (λ c. c) in
      let made : Node = Parenthesized (position_behind file b) a1.place in
      let said : whole W (length N1) ≡ a_sign sign_left_parenthesis
      ∷ (whole W e ++ (a_sign sign_right_parenthesis ∷ ([]))) = whole_at W _ _ first at in
      let same : laid file b (whole W (length N1)) o2 ≡ t0 = ap (λ (ss : List Symbol). laid file b ss o2) said
      ∙ simp laid-append in
      moved same (again_of (put a1.nodes made) (length a1.nodes) (front-then a1.grown (front-one _))
      (post_here (parenthesized (sym (a1.closes refl) ∙ m) a1.read)) (refl) (λ s. refl)
      (λ V g. alike at (front-at _ _ g) refl (one_alike (a1.alike V (front-put _ _ g)) none_alike)))
  post_again W first file M b o2 (parenthesized_name {N = N} {w = w} {p = p} {q = q} {o = o} m) f h =
      let at : slice_get W (length (put N (SimpleName q w))) ≡ Some (Parenthesized p (length N)) = front-at _ _ f in
      let under : slice_get W (length N) ≡ Some (SimpleName q w) = front-at _ _ (front-put _ _ f) in
      let b1 : List ℕ = b ++ printed (a_sign sign_left_parenthesis) in
      let b2 : List ℕ = b1 ++ printed (a_name w) in
      let name : whole W (length N) ≡ a_name w ∷ [] = whole_at W _ _ first under in
      let made : Node = SimpleName (position_behind file b1) w in
      let said : whole W (length (put N (SimpleName q w))) ≡ a_sign sign_left_parenthesis
      ∷ (whole W (length N) ++ a_sign sign_right_parenthesis ∷ []) = whole_at W _ _ first at in
      let same : laid file b (whole W (length (put N (SimpleName q w)))) o2 ≡ sign_at sign_left_parenthesis
      (position_behind file b) ∷ name_at w (position_behind file b1)
      ∷ sign_at sign_right_parenthesis (position_behind file b2) ∷ o2 =
      ap (λ (ss : List Symbol). laid file b ss o2)
      (said ∙ ap (λ (ss : List Symbol). a_sign sign_left_parenthesis ∷ (ss ++ a_sign sign_right_parenthesis ∷ []))
      name) in
      moved same (again_of (put (put M made) (Parenthesized (position_behind file b) (length M))) (length (put M made))
      (front-then (front-one _) (front-one _)) (post_here (parenthesized_name (h m))) refl (λ s. refl)
      (λ V g. alike at (front-at _ _ g) refl
      (one_alike (alike under (front-at _ _ (front-put _ _ g)) refl none_alike) none_alike)))
  post_again W first file M b o2 (new_object {N1 = N1} {ids = ids} {w = w} {p = p} {q = q} d) f h =
      let at : slice_get W (length N1) ≡ Some (New p q w ids) = front-at _ _ f in
      let b1 : List ℕ = b ++ printed (a_word word_new) in
      let b2 : List ℕ = b1 ++ printed (a_name w) in
      let b3 : List ℕ = b2 ++ printed (a_sign sign_left_parenthesis) in
      let t3 : List Lexeme = laid file b3 (arguments_of W ids) o2 in
      let t2 : List Lexeme = sign_at sign_left_parenthesis (position_behind file b2) ∷ t3 in
      let t1 : List Lexeme = name_at w (position_behind file b1) ∷ t2 in
      let t0 : List Lexeme = word_at word_new (position_behind file b) ∷ t1 in
      let a1 = arguments_again W first file M b3 o2 d (front-put _ _ f) h in
      let made : Node = New (position_behind file b) (position_behind file b1) w a1.places in
      let said : whole W (length N1) ≡ a_word word_new
      ∷ (a_name w ∷ (a_sign sign_left_parenthesis ∷ (arguments_of W ids))) = whole_at W _ _ first at in
      let same : laid file b (whole W (length N1)) o2 ≡ t0 = ap (λ (ss : List Symbol). laid file b ss o2) said in
      moved same (again_of (put a1.nodes made) (length a1.nodes) (front-then a1.grown (front-one _))
      (post_here (new_object a1.read)) (refl) (λ s. refl)
      (λ V g. alike at (front-at _ _ g)
      (ap (λ (t : List ℕ). New nowhere nowhere w t) (counted-same (a1.alike V (front-put _ _ g))))
      (a1.alike V (front-put _ _ g))))
  post_again W first file M b o2 (new_ints {N = N} {N1 = N1} {e = e} {p = p} {q = q} d) f h =
      let at : slice_get W (length N1) ≡ Some (NewArray p (length N) e) = front-at _ _ f in
      let under : slice_get W (length N) ≡ Some (IntType q false) =
      front-at _ _ (front-then (level_front d) (front-put _ _ f)) in
      let element : whole W (length N) ≡ a_word word_int ∷ [] = whole_at W _ _ first under in
      let b1 : List ℕ = b ++ printed (a_word word_new) in
      let b2 : List ℕ = b1 ++ printed (a_word word_int) in
      let b3 : List ℕ = b2 ++ printed (a_sign sign_left_bracket) in
      let b4 : List ℕ = b3 ++ canonical (whole W e) in
      let t4 : List Lexeme = sign_at sign_right_bracket (position_behind file b4) ∷ o2 in
      let made : Node = IntType (position_behind file b1) false in
      let a1 = level_again W first file (put M made) b3 t4 d (front-put _ _ f) (λ c. c) in
      let said : whole W (length N1) ≡ a_word word_new
      ∷ (whole W (length N) ++ (a_sign sign_left_bracket ∷ (whole W e ++ a_sign sign_right_bracket ∷ []))) =
      whole_at W _ _ first at in
      let same : laid file b (whole W (length N1)) o2 ≡ word_at word_new (position_behind file b)
      ∷ word_at word_int (position_behind file b1) ∷ sign_at sign_left_bracket (position_behind file b2)
      ∷ laid file b3 (whole W e) t4 =
      ap (λ (ss : List Symbol). laid file b ss o2)
      (said
      ∙ ap (λ (ss : List Symbol). a_word word_new
      ∷ (ss ++ (a_sign sign_left_bracket ∷ (whole W e ++ a_sign sign_right_bracket ∷ [])))) element)
      ∙ simp laid-append in
      moved same (again_of (put a1.nodes (NewArray (position_behind file b) (length M) a1.place)) (length a1.nodes)
      (front-then (front-one _) (front-then a1.grown (front-one _))) (post_here (new_ints a1.read)) refl (λ s. refl)
      (λ V g. alike at (front-at _ _ g) refl
      (one_alike (alike under (front-at _ _ (front-then a1.grown (front-put _ _ g))) refl none_alike)
      (one_alike (a1.alike V (front-put _ _ g)) none_alike))))
  post_again W first file M b o2 (new_booleans {N = N} {N1 = N1} {e = e} {p = p} {q = q} d) f h =
      let at : slice_get W (length N1) ≡ Some (NewArray p (length N) e) = front-at _ _ f in
      let under : slice_get W (length N) ≡ Some (BooleanType q false) =
      front-at _ _ (front-then (level_front d) (front-put _ _ f)) in
      let element : whole W (length N) ≡ a_word word_boolean ∷ [] = whole_at W _ _ first under in
      let b1 : List ℕ = b ++ printed (a_word word_new) in
      let b2 : List ℕ = b1 ++ printed (a_word word_boolean) in
      let b3 : List ℕ = b2 ++ printed (a_sign sign_left_bracket) in
      let b4 : List ℕ = b3 ++ canonical (whole W e) in
      let t4 : List Lexeme = sign_at sign_right_bracket (position_behind file b4) ∷ o2 in
      let made : Node = BooleanType (position_behind file b1) false in
      let a1 = level_again W first file (put M made) b3 t4 d (front-put _ _ f) (λ c. c) in
      let said : whole W (length N1) ≡ a_word word_new
      ∷ (whole W (length N) ++ (a_sign sign_left_bracket ∷ (whole W e ++ a_sign sign_right_bracket ∷ []))) =
      whole_at W _ _ first at in
      let same : laid file b (whole W (length N1)) o2 ≡ word_at word_new (position_behind file b)
      ∷ word_at word_boolean (position_behind file b1) ∷ sign_at sign_left_bracket (position_behind file b2)
      ∷ laid file b3 (whole W e) t4 =
      ap (λ (ss : List Symbol). laid file b ss o2)
      (said
      ∙ ap (λ (ss : List Symbol). a_word word_new
      ∷ (ss ++ (a_sign sign_left_bracket ∷ (whole W e ++ a_sign sign_right_bracket ∷ [])))) element)
      ∙ simp laid-append in
      moved same (again_of (put a1.nodes (NewArray (position_behind file b) (length M) a1.place)) (length a1.nodes)
      (front-then (front-one _) (front-then a1.grown (front-one _))) (post_here (new_booleans a1.read)) refl
      (λ s. refl)
      (λ V g. alike at (front-at _ _ g) refl
      (one_alike (alike under (front-at _ _ (front-then a1.grown (front-put _ _ g))) refl none_alike)
      (one_alike (a1.alike V (front-put _ _ g)) none_alike))))
  post_again W first file M b o2 (new_references {N = N} {N1 = N1} {e = e} {w = w} {p = p} {q = q} d) f h =
      let at : slice_get W (length N1) ≡ Some (NewArray p (length N) e) = front-at _ _ f in
      let under : slice_get W (length N) ≡ Some (ClassType q w None false) =
      front-at _ _ (front-then (level_front d) (front-put _ _ f)) in
      let element : whole W (length N) ≡ a_name w ∷ [] = whole_at W _ _ first under in
      let b1 : List ℕ = b ++ printed (a_word word_new) in
      let b2 : List ℕ = b1 ++ printed (a_name w) in
      let b3 : List ℕ = b2 ++ printed (a_sign sign_left_bracket) in
      let b4 : List ℕ = b3 ++ canonical (whole W e) in
      let t4 : List Lexeme = sign_at sign_right_bracket (position_behind file b4) ∷ o2 in
      let made : Node = ClassType (position_behind file b1) w None false in
      let a1 = level_again W first file (put M made) b3 t4 d (front-put _ _ f) (λ c. c) in
      let said : whole W (length N1) ≡ a_word word_new
      ∷ (whole W (length N) ++ (a_sign sign_left_bracket ∷ (whole W e ++ a_sign sign_right_bracket ∷ []))) =
      whole_at W _ _ first at in
      let same : laid file b (whole W (length N1)) o2 ≡ word_at word_new (position_behind file b)
      ∷ name_at w (position_behind file b1) ∷ sign_at sign_left_bracket (position_behind file b2)
      ∷ laid file b3 (whole W e) t4 =
      ap (λ (ss : List Symbol). laid file b ss o2)
      (said
      ∙ ap (λ (ss : List Symbol). a_word word_new
      ∷ (ss ++ (a_sign sign_left_bracket ∷ (whole W e ++ a_sign sign_right_bracket ∷ [])))) element)
      ∙ simp laid-append in
      moved same (again_of (put a1.nodes (NewArray (position_behind file b) (length M) a1.place)) (length a1.nodes)
      (front-then (front-one _) (front-then a1.grown (front-one _))) (post_here (new_references a1.read)) refl
      (λ s. refl)
      (λ V g. alike at (front-at _ _ g) refl
      (one_alike (alike under (front-at _ _ (front-then a1.grown (front-put _ _ g))) refl none_alike)
      (one_alike (a1.alike V (front-put _ _ g)) none_alike))))

  pub argument_again : (W : List Node) → ChildrenFirst 0 W →
      (file : ℕ) (M : List Node) (b : List ℕ) (o2 : List Lexeme) {N N1 : List Node} {i o : List Lexeme} {id : ℕ} →
      ArgumentRead N i N1 o id → Front N1 W → Calm o o2 → Again ArgumentRead W M i o (laid file b (whole W id) o2) o2 id
  argument_again W first file M b o2 (expression_argument d) f h =
      let a = level_again W first file M b o2 d f h in
      again_of a.nodes a.place a.grown (expression_argument a.read) a.heads a.closes a.alike
  argument_again W first file M b o2 (text_argument {N = N} {w = w} {p = p}) f h =
      let at : slice_get W (length N) ≡ Some (Text p w) = front-at _ _ f in
      let same : laid file b (whole W (length N)) o2 ≡ text_at w (position_behind file b) ∷ o2 =
      ap (λ (ss : List Symbol). laid file b ss o2) (whole_at W _ _ first at) in
      moved same (again_of (put M (Text (position_behind file b) w)) (length M) (front-one _) text_argument refl
      (λ s. refl) (λ V g. alike at (front-at _ _ g) refl none_alike))

  arguments_begun_again : (W : List Node) → ChildrenFirst 0 W →
      (file : ℕ) (M : List Node) (b : List ℕ) (o2 : List Lexeme) {N N1 : List Node} {i o : List Lexeme} {ids : List ℕ} →
      ArgumentsBegun N i N1 o ids → Front N1 W → AllAgain ArgumentsBegun W M (laid file b (followed W ids) o2) o2 ids
  arguments_begun_again W first file M b o2 no_argument_yet f =
      all_again_of M [] front-none no_argument_yet (λ V g. none_alike)
  arguments_begun_again W first file M b o2 (argument_and_comma {ids = ids} {id = id} d1 d2) f =
      let b1 : List ℕ = b ++ canonical (followed W ids) in
      let b2 : List ℕ = b1 ++ canonical (whole W id) in
      let t2 : List Lexeme = sign_at sign_comma (position_behind file b2) ∷ o2 in
      let t1 : List Lexeme = laid file b1 (whole W id) t2 in
      let a1 = arguments_begun_again W first file M b t1 d1 (front-then (argument_front d2) f) in
      let a2 = argument_again W first file a1.nodes b1 t2 d2 f (λ c. c) in
      let same : laid file b (followed W (ids ++ id ∷ [])) o2 ≡ laid file b (followed W ids) t1 =
      ap (λ (ss : List Symbol). laid file b ss o2) (followed-put W ids id) ∙ simp laid-append in
      all_moved same
      (all_again_of a2.nodes (a1.places ++ a2.place ∷ []) (front-then a1.grown a2.grown)
      (argument_and_comma a1.read a2.read) (λ V g. alike-put (a1.alike V (front-then a2.grown g)) (a2.alike V g)))

  pub arguments_again : (W : List Node) → ChildrenFirst 0 W →
      (file : ℕ) (M : List Node) (b : List ℕ) (o2 : List Lexeme) {N N1 : List Node} {i o : List Lexeme} {ids : List ℕ} →
      ArgumentsRead N i N1 o ids → Front N1 W → Calm o o2 →
      AllAgain ArgumentsRead W M (laid file b (arguments_of W ids) o2) o2 ids
  arguments_again W first file M b o2 no_arguments f h = all_again_of M [] front-none no_arguments (λ V g. none_alike)
  arguments_again W first file M b o2 (arguments {ids = ids} {id = id} d1 d2) f h =
      let b1 : List ℕ = b ++ canonical (followed W ids) in
      let b2 : List ℕ = b1 ++ canonical (whole W id) in
      let t2 : List Lexeme = sign_at sign_right_parenthesis (position_behind file b2) ∷ o2 in
      let t1 : List Lexeme = laid file b1 (whole W id) t2 in
      let a1 = arguments_begun_again W first file M b t1 d1 (front-then (argument_front d2) f) in
      let a2 = argument_again W first file a1.nodes b1 t2 d2 f (λ c. c) in
      let same : laid file b (arguments_of W (ids ++ id ∷ [])) o2 ≡ laid file b (followed W ids) t1 =
      ap (λ (ss : List Symbol). laid file b ss o2) (arguments_of-put W ids id) ∙ simp laid-append in
      all_moved same
      (all_again_of a2.nodes (a1.places ++ a2.place ∷ []) (front-then a1.grown a2.grown) (arguments a1.read a2.read)
      (λ V g. alike-put (a1.alike V (front-then a2.grown g)) (a2.alike V g)))
