-- The canonical lexemes of an assignment are read as the same assignment.
use Rattle.std.proofs.Common.{nat_lt, append-nil, append_assoc, ◌≡◌, ℕ, zero, suc, ◌+◌, ◌-◌, ◌≤◌, Bool, true, false, ◌==◌, List, [], ◌∷◌, ◌++◌, Option, Some, None, slice_get, length, refl, sym, ap, subst, ◌∙◌, arith}
use Rattle.std.specs.Prelude.{if◌then◌else◌, nat_le}
use Rattle.std.proofs.lemmas.Bool.{false≢true, eqb-true, le-leb}
use Rattle.scj_base.specs.Vocabulary.{sign_left_parenthesis, sign_right_parenthesis, sign_semicolon, sign_assign, sign_plus, sign_minus, sign_star, sign_slash, sign_percent, sign_and, sign_or, sign_xor, sign_shift_left, sign_shift_right, sign_shift_right_unsigned, sign_plus_plus, sign_minus_minus, sign_plus_assign, sign_minus_assign, sign_star_assign, sign_slash_assign, sign_percent_assign, sign_and_assign, sign_or_assign, sign_xor_assign, sign_shift_left_assign, sign_shift_right_assign, sign_shift_right_unsigned_assign}
use Rattle.scj_base.specs.declared.positions.Position.{Position}
use Rattle.scj_base.specs.Lex.{position_behind}
use Rattle.scj_tree.specs.declared.nodes.Node.{Node}
use Rattle.scj_tree.specs.declared.nodes.Node.TheVariants.{Assign, Binary, Parenthesized, SimpleName, Number}
use Rattle.scj_tree.specs.declared.parsed_parts.PostKind.{PostKind}
use Rattle.scj_tree.specs.declared.parsed_parts.PostKind.TheVariants.{Value}
use Rattle.scj_tree.specs.Lexemes.{Lexeme, a_name as name_at, a_number as number_at, a_sign as sign_at}
use Rattle.scj_tree.specs.Terminals.{level, compound, stepping, closes_name, begins_unary1, is_unary1_start}
use Rattle.scj_tree.specs.Nodes.{put}
use Rattle.scj_tree.specs.Expressions.{Level, UnaryRead, Unary1Read, PostRead, operand, tighter, binary, minus, minimum_unary, plain_unary, negation, complement, cast, post_unary, simple_name, simple_call, field_of, call_of, element_of, number, minimum_number, true_value, false_value, null_value, this_value, parenthesized, parenthesized_name, new_object, new_ints, new_booleans, new_references}
use Rattle.scj_tree.specs.Statements.{AssignmentRead, assignment, compound_assignment, step_assignment, name_twice}
use Rattle.scj_tree.specs.Forest.{ChildrenFirst}
use Rattle.scj_tree.specs.Shape.{children}
use Rattle.scj_show.specs.Parts.{parts_of, bare_parts, sign_if_set}
use Rattle.scj_show.specs.Symbols.{Symbol, a_name, a_sign, a_number, Written, canonical, own_symbols, symbols_of_part, symbols_of_parts, written_node, written}
use Rattle.scj_show.specs.Placed.{printed, lexeme_at}
use Rattle.scj_show.specs.Alike.{Alike, shape, in_order, alike, none_alike, one_alike}
use Rattle.scj_show.proofs.Unfolding.{written_at}
use Rattle.scj_show.proofs.Again.{Front, front-one, front-then, front-put, front-at, whole, whole_at, laid, laid-append, Reported, reported_of, reported_moved}
use Rattle.scj_show.proofs.ExpressionsAgain.{level_front, post_front, level_again, post_again}

-- ---- an expression that begins with a name and a `)` is that name

record LoneName (N : List Node) (i : List Lexeme) (N1 : List Node) (o : List Lexeme) (id : ℕ) : Type 0 where
  name : List ℕ
  at : Position
  begins : i ≡ name_at name at ∷ o
  nodes : N1 ≡ put N (SimpleName at name)
  is : id ≡ length N

other_sign : {A : Type 0} (i o : List Lexeme) (name : List ℕ) (q p : Position) (n : ℕ) → i ≡ name_at name q ∷ sign_at n p
    ∷ o → (n == sign_right_parenthesis) ≡ false → closes_name i ≡ true → A
unfolding closes_name
other_sign i o name q p n e f c = absurd (false≢true (sym f ∙ (ap closes_name (sym e) ∙ c)))

no_operator : {A : Type 0} (i o : List Lexeme) (name : List ℕ) (q p : Position) (n : ℕ) → i ≡ name_at name q ∷ sign_at n p
    ∷ o → nat_le 1 (level n) ≡ true → closes_name i ≡ true → A
unfolding closes_name level
no_operator i o name q p n e h c =
    let right : n ≡ sign_right_parenthesis = eqb-true n sign_right_parenthesis (ap closes_name (sym e) ∙ c) in
    absurd (false≢true (sym (ap (λ (t : ℕ). nat_le 1 (level t)) right) ∙ h))

mutual
  unfolding closes_name

  level_lone : {n : ℕ} {N N1 : List Node} {i o : List Lexeme} {id : ℕ} → Level n N i N1 o id → closes_name i ≡ true →
      LoneName N i N1 o id
  level_lone (operand d) c = unary_lone d c
  level_lone (tighter d) c = level_lone d c
  level_lone (binary h l r) c = let k = level_lone l c in no_operator _ _ k.name k.at _ _ k.begins h c

  unary_lone : {N N1 : List Node} {i o : List Lexeme} {id : ℕ} → UnaryRead N i N1 o id → closes_name i ≡ true →
      LoneName N i N1 o id
  unary_lone (minus h d) c = absurd (false≢true c)
  unary_lone (minimum_unary d) c = post_lone d c
  unary_lone (plain_unary d) c = unary1_lone d c

  unary1_lone : {N N1 : List Node} {i o : List Lexeme} {id : ℕ} → Unary1Read N i N1 o id → closes_name i ≡ true →
      LoneName N i N1 o id
  unary1_lone (negation d) c = absurd (false≢true c)
  unary1_lone (complement d) c = absurd (false≢true c)
  unary1_lone (cast h d) c = absurd (false≢true c)
  unary1_lone (post_unary d) c = post_lone d c

  post_lone : {minimum : Bool} {kind : PostKind} {p : Position} {N N1 : List Node} {i o : List Lexeme} {id : ℕ} →
      PostRead minimum kind p N i N1 o id → closes_name i ≡ true → LoneName N i N1 o id
  post_lone simple_name c = record { name = _; at = _; begins = refl; nodes = refl; is = refl }
  post_lone (simple_call d) c = absurd (false≢true c)
  post_lone (field_of d) c = let k = post_lone d c in other_sign _ _ k.name k.at _ _ k.begins refl c
  post_lone (call_of d e) c = let k = post_lone d c in other_sign _ _ k.name k.at _ _ k.begins refl c
  post_lone (element_of h d e) c = let k = post_lone d c in other_sign _ _ k.name k.at _ _ k.begins refl c
  post_lone (number h) c = absurd (false≢true c)
  post_lone minimum_number c = absurd (false≢true c)
  post_lone true_value c = absurd (false≢true c)
  post_lone false_value c = absurd (false≢true c)
  post_lone null_value c = absurd (false≢true c)
  post_lone this_value c = absurd (false≢true c)
  post_lone (parenthesized h d) c = absurd (false≢true c)
  post_lone (parenthesized_name h) c = absurd (false≢true c)
  post_lone (new_object d) c = absurd (false≢true c)
  post_lone (new_ints d) c = absurd (false≢true c)
  post_lone (new_booleans d) c = absurd (false≢true c)
  post_lone (new_references d) c = absurd (false≢true c)

lone_read : (M nodes : List Node) (i2 o2 : List Lexeme) (index : ℕ) (p q at : Position) (name : List ℕ) →
    i2 ≡ name_at name at ∷ sign_at sign_right_parenthesis q ∷ o2 → nodes ≡ put M (SimpleName at name) →
    index ≡ length M → begins_unary1 o2 ≡ false → PostRead false Value p M (sign_at sign_left_parenthesis p ∷ i2)
    (put nodes (Parenthesized p index)) o2 (length nodes)
lone_read M nodes i2 o2 index p q at name e n s u = rw (e, n, s) (parenthesized_name u)

-- any expression in parentheses
in_parentheses_read : (M nodes : List Node) (i2 o2 : List Lexeme) (index : ℕ) (p q : Position) (c : Bool) →
    closes_name i2 ≡ c → Level 1 M i2 nodes (sign_at sign_right_parenthesis q ∷ o2) index → begins_unary1 o2 ≡ false →
    PostRead false Value p M (sign_at sign_left_parenthesis p ∷ i2) (put nodes (Parenthesized p index)) o2
    (length nodes)
in_parentheses_read M nodes i2 o2 index p q false e d u = parenthesized e d
in_parentheses_read M nodes i2 o2 index p q true e d u =
    let k = level_lone d e in
    lone_read M nodes i2 o2 index p q k.at k.name k.begins k.nodes k.is u

-- ---- the operators of assignments

pub record IsOperator (op : ℕ) : Type 0 where
  pub low : 1 ≤ level op
  pub high : level op ≤ 10
  pub listed : nat_lt op 50 ≡ true

operator_at : (n op : ℕ) → IsOperator n → Some n ≡ Some op → IsOperator op
operator_at n op k e = let same : n ≡ op = cc in subst IsOperator same k

choose : {A : Type 0} {B : Type 0} (b : Bool) (x y : Option A) (r : Option A) → (x ≡ r → B) → (y ≡ r → B) →
    (if b then x else y) ≡ r → B
choose true x y r f g e = f e
choose false x y r f g e = g e

some_is_none : {A : Type 0} {B : Type 0} (a : A) → None ≡ Some a → B
some_is_none {A} {B} a e = let P : Option A → Type 0 = λ x. elim x [ None ↦ Unit {0} | Some y ↦ B ] in subst P e tt

pub compound_operator : (n op : ℕ) → compound n ≡ Some op → IsOperator op
unfolding compound level
compound_operator n op =
    choose (n == sign_plus_assign) _ _ (Some op)
    (operator_at sign_plus op (record { low = omega arith; high = omega arith; listed = refl }))
    (choose (n == sign_minus_assign) _ _ (Some op)
    (operator_at sign_minus op (record { low = omega arith; high = omega arith; listed = refl }))
    (choose (n == sign_star_assign) _ _ (Some op)
    (operator_at sign_star op (record { low = omega arith; high = omega arith; listed = refl }))
    (choose (n == sign_slash_assign) _ _ (Some op)
    (operator_at sign_slash op (record { low = omega arith; high = omega arith; listed = refl }))
    (choose (n == sign_percent_assign) _ _ (Some op)
    (operator_at sign_percent op (record { low = omega arith; high = omega arith; listed = refl }))
    (choose (n == sign_and_assign) _ _ (Some op)
    (operator_at sign_and op (record { low = omega arith; high = omega arith; listed = refl }))
    (choose (n == sign_or_assign) _ _ (Some op)
    (operator_at sign_or op (record { low = omega arith; high = omega arith; listed = refl }))
    (choose (n == sign_xor_assign) _ _ (Some op)
    (operator_at sign_xor op (record { low = omega arith; high = omega arith; listed = refl }))
    (choose (n == sign_shift_left_assign) _ _ (Some op)
    (operator_at sign_shift_left op (record { low = omega arith; high = omega arith; listed = refl }))
    (choose (n == sign_shift_right_assign) _ _ (Some op)
    (operator_at sign_shift_right op (record { low = omega arith; high = omega arith; listed = refl }))
    (choose (n == sign_shift_right_unsigned_assign) _ _ (Some op)
    (operator_at sign_shift_right_unsigned op (record { low = omega arith; high = omega arith; listed = refl }))
    (some_is_none op)))))))))))

pub stepping_operator : (n op : ℕ) → stepping n ≡ Some op → IsOperator op
unfolding stepping level
stepping_operator n op =
    choose (n == sign_plus_plus) _ _ (Some op)
    (operator_at sign_plus op (record { low = omega arith; high = omega arith; listed = refl }))
    (choose (n == sign_minus_minus) _ _ (Some op)
    (operator_at sign_minus op (record { low = omega arith; high = omega arith; listed = refl }))
    (some_is_none op))

-- an operand is an expression of any level
raised : (k n : ℕ) {N N1 : List Node} {i o : List Lexeme} {id : ℕ} → k + n ≡ 11 → UnaryRead N i N1 o id →
    Level n N i N1 o id
raised zero n {N} {N1} {i} {o} {id} e d = let same : 11 ≡ n =
    omega arith in subst (λ (m : ℕ). Level m N i N1 o id) same (operand d)
raised (suc k) n e d = tighter (raised k (suc n) (omega arith) d)

lowered : (k n : ℕ) {N N1 : List Node} {i o : List Lexeme} {id : ℕ} → n ≡ suc k → Level n N i N1 o id →
    Level 1 N i N1 o id
lowered zero n {N} {N1} {i} {o} {id} e d = subst (λ (m : ℕ). Level m N i N1 o id) e d
lowered (suc k) n {N} {N1} {i} {o} {id} e d =
    lowered k (suc k) refl (tighter (subst (λ (m : ℕ). Level m N i N1 o id) e d))

operation : (op : ℕ) {N N1 N2 : List Node} {i i1 o : List Lexeme} {l r : ℕ} {p : Position} → IsOperator op →
    UnaryRead N i N1 (sign_at op p ∷ i1) l → UnaryRead N1 i1 N2 o r →
    Level 1 N i (put N2 (Binary p op l r)) o (length N2)
operation op k l r =
    lowered (level op - 1) (level op) (omega (arith, k.low))
    (binary (le-leb _ _ k.low) (raised (11 - level op) (level op) (omega (arith, k.high)) l)
    (raised (11 - suc (level op)) (suc (level op)) (omega (arith, k.high)) r))

-- ---- assignments

abbrev pub bare : List Node → ℕ → List Symbol
bare W id = (written W id).bare

pub bare_at : (W : List Node) (id : ℕ) (node : Node) → ChildrenFirst 0 W → slice_get W id ≡ Some node →
    bare W id ≡ symbols_of_parts (written W) (bare_parts node)
unfolding written_node
bare_at W id node first e = ap (λ (t : Written). t.bare) (written_at W id node first e)

pub assignment_front : {N N1 : List Node} {i o : List Lexeme} {id : ℕ} → AssignmentRead N i N1 o id → Front N N1
assignment_front (assignment d e) = front-then (post_front d) (front-then (level_front e) (front-one _))
assignment_front (compound_assignment h d) =
    front-then (front-one _)
    (front-then (front-one _)
    (front-then (level_front d) (front-then (front-one _) (front-then (front-one _) (front-one _)))))
assignment_front (step_assignment h) =
    front-then (front-one _)
    (front-then (front-one _) (front-then (front-one _) (front-then (front-one _) (front-one _))))

statement_of : (W : List Node) (id x e : ℕ) (p : Position) → ChildrenFirst 0 W → slice_get W id ≡ Some (Assign p x e) →
    whole W id ≡ bare W id ++ a_sign sign_semicolon ∷ []
unfolding symbols_of_parts symbols_of_part own_symbols parts_of bare_parts
statement_of W id x e p first at =
    let said : whole W id ≡ whole W x ++ (a_sign sign_assign ∷ (whole W e ++ a_sign sign_semicolon ∷ [])) =
    whole_at W _ _ first at in
    let short : bare W id ≡ whole W x ++ (a_sign sign_assign ∷ (whole W e ++ [])) = bare_at W _ _ first at in
    said ∙ sym (ap (λ (ss : List Symbol). ss ++ a_sign sign_semicolon ∷ []) short ∙ append_assoc (whole W x) _ _
    ∙ ap (λ (ss : List Symbol). whole W x ++ (a_sign sign_assign ∷ ss))
    (append_assoc (whole W e) [] (a_sign sign_semicolon ∷ [])))

-- an assignment as a statement has the `;` behind it
pub assignment_statement : {W N N1 : List Node} {i o : List Lexeme} {id : ℕ} → ChildrenFirst 0 W →
    AssignmentRead N i N1 o id → Front N1 W → whole W id ≡ bare W id ++ a_sign sign_semicolon ∷ []
assignment_statement {W} first (assignment d e) f = statement_of W _ _ _ _ first (front-at _ _ f)
assignment_statement {W} first (compound_assignment h d) f = statement_of W _ _ _ _ first (front-at _ _ f)
assignment_statement {W} first (step_assignment h) f = statement_of W _ _ _ _ first (front-at _ _ f)

simple_read : {M : List Node} {w : List ℕ} {p : Position} {o : List Lexeme} →
    UnaryRead M (name_at w p ∷ o) (put M (SimpleName p w)) o (length M)
simple_read = plain_unary (post_unary simple_name)

name_alike : {W V : List Node} {x y : ℕ} {p q : Position} (w : List ℕ) → slice_get W x ≡ Some (SimpleName p w) →
    slice_get V y ≡ Some (SimpleName q w) → Alike W V x y
unfolding shape in_order children
name_alike w e h = alike e h refl none_alike

binary_alike : {W V : List Node} {x y l r m s : ℕ} {p q : Position} (op : ℕ) → slice_get W x ≡ Some (Binary p op l r) →
    slice_get V y ≡ Some (Binary q op m s) → Alike W V l m → Alike W V r s → Alike W V x y
unfolding shape in_order children
binary_alike op e h a b = alike e h refl (one_alike a (one_alike b none_alike))

assign_alike : {W V : List Node} {x y l r m s : ℕ} {p q : Position} → slice_get W x ≡ Some (Assign p l r) →
    slice_get V y ≡ Some (Assign q m s) → Alike W V l m → Alike W V r s → Alike W V x y
unfolding shape in_order children
assign_alike e h a b = alike e h refl (one_alike a (one_alike b none_alike))

paren_alike : {W V : List Node} {x y l m : ℕ} {p q : Position} → slice_get W x ≡ Some (Parenthesized p l) →
    slice_get V y ≡ Some (Parenthesized q m) → Alike W V l m → Alike W V x y
unfolding shape in_order children
paren_alike e h a = alike e h refl (one_alike a none_alike)

number_alike : {W V : List Node} {x y : ℕ} {p q : Position} (n : ℕ) → slice_get W x ≡ Some (Number p n false) →
    slice_get V y ≡ Some (Number q n false) → Alike W V x y
unfolding shape in_order children
number_alike n e h = alike e h refl none_alike

-- an expression that a `)` follows
closed_again : (W : List Node) → ChildrenFirst 0 W →
    (file : ℕ) (M : List Node) (b b1 : List ℕ) (o2 : List Lexeme) {N N1 : List Node} {i o : List Lexeme} {id : ℕ} →
    Level 1 N i N1 o id → Front N1 W →
    Reported (Level 1) W M (laid file b (whole W id) (sign_at sign_right_parenthesis (position_behind file b1) ∷ o2))
    (sign_at sign_right_parenthesis (position_behind file b1) ∷ o2) id
unfolding begins_unary1 is_unary1_start
closed_again W first file M b b1 o2 d f = let a =
    level_again W first file M b (sign_at sign_right_parenthesis (position_behind file b1) ∷ o2) d f (λ c. refl) in
    reported_of a.nodes a.place a.grown a.read a.alike

pub assignment_again : (W : List Node) → ChildrenFirst 0 W →
    (file : ℕ) (M : List Node) (b : List ℕ) (o2 : List Lexeme) {N N1 : List Node} {i o : List Lexeme} {id : ℕ} →
    AssignmentRead N i N1 o id → Front N1 W → begins_unary1 o2 ≡ false →
    Reported AssignmentRead W M (laid file b (bare W id) o2) o2 id
unfolding symbols_of_parts symbols_of_part own_symbols parts_of bare_parts sign_if_set lexeme_at begins_unary1
    is_unary1_start laid
assignment_again W first file M b o2 (assignment {N1 = N1} {N2 = N2} {x = x} {e = e} {p = p} d1 d2) f u =
    let at : slice_get W (length N2) ≡ Some (Assign p x e) = front-at _ _ f in
    let said : bare W (length N2) ≡ whole W x ++ (a_sign sign_assign ∷ (whole W e ++ [])) = bare_at W _ _ first at in
    let b1 : List ℕ = b ++ canonical (whole W x) in
    let b2 : List ℕ = b1 ++ printed (a_sign sign_assign) in
    let t2 : List Lexeme = laid file b2 (whole W e) o2 in
    let t1 : List Lexeme = sign_at sign_assign (position_behind file b1) ∷ t2 in
    let a1 = post_again W first file M b t1 d1 (front-then (level_front d2) (front-put _ _ f)) (λ c. c) in
    let a2 = level_again W first file a1.nodes b2 o2 d2 (front-put _ _ f) (λ c. u) in
    let same : laid file b (bare W (length N2)) o2 ≡ laid file b (whole W x) t1 =
    ap (λ (ss : List Symbol). laid file b ss o2) said ∙ simp laid-append in
    reported_moved same (reported_of (put a2.nodes (Assign (position_behind file b1) a1.place a2.place)) (length a2.nodes)
    (front-then a1.grown (front-then a2.grown (front-one _))) (assignment a1.read.read a2.read)
    (λ V g. assign_alike at (front-at _ _ g) (a1.alike V (front-then a2.grown (front-put _ _ g)))
    (a2.alike V (front-put _ _ g))))
assignment_again W first file M b o2
    (compound_assignment {N = N} {N1 = N1} {e = e} {w = w} {n = n} {op = op} {p = p} {q = q} k d) f u =
    let P3 : List Node = put N1 (Parenthesized p e) in
    let f4 = front-put P3 (Binary p op (length (put N (SimpleName q w))) (length N1)) (front-put _ _ f) in
    let f3 : Front N1 W = front-put N1 (Parenthesized p e) f4 in
    let f2 : Front (name_twice N q w) W = front-then (level_front d) f3 in
    let f1 : Front (put N (SimpleName q w)) W = front-put _ _ f2 in
    let at : slice_get W (length (put P3 (Binary p op (length (put N (SimpleName q w))) (length N1)))) ≡ Some
    (Assign p (length N) (length P3)) = front-at _ _ f in
    let at_binary : slice_get W (length P3) ≡ Some (Binary p op (length (put N (SimpleName q w))) (length N1)) =
    front-at _ _ (front-put _ _ f) in
    let at_paren : slice_get W (length N1) ≡ Some (Parenthesized p e) = front-at _ _ f4 in
    let at_left : slice_get W (length (put N (SimpleName q w))) ≡ Some (SimpleName q w) = front-at _ _ f2 in
    let at_target : slice_get W (length N) ≡ Some (SimpleName q w) = front-at _ _ f1 in
    let target : whole W (length N) ≡ a_name w ∷ [] = whole_at W _ _ first at_target in
    let left : whole W (length (put N (SimpleName q w))) ≡ a_name w ∷ [] = whole_at W _ _ first at_left in
    let right : whole W (length N1) ≡ a_sign sign_left_parenthesis ∷ (whole W e ++ a_sign sign_right_parenthesis ∷ []) =
    whole_at W _ _ first at_paren in
    let both : whole W (length P3) ≡ whole W (length (put N (SimpleName q w)))
    ++ (a_sign op ∷ (whole W (length N1) ++ [])) = whole_at W _ _ first at_binary in
    let value : whole W (length P3) ≡ a_name w ∷ a_sign op ∷ a_sign sign_left_parenthesis
    ∷ (whole W e ++ a_sign sign_right_parenthesis ∷ []) =
    both ∙ ap (λ (ss : List Symbol). ss ++ (a_sign op ∷ (whole W (length N1) ++ []))) left
    ∙ ap (λ (ss : List Symbol). a_name w ∷ a_sign op ∷ ss) (append-nil (whole W (length N1)) ∙ right) in
    let said0 : bare W (length (put P3 (Binary p op (length (put N (SimpleName q w))) (length N1)))) ≡ whole W
    (length N) ++ (a_sign sign_assign ∷ (whole W (length P3) ++ [])) = bare_at W _ _ first at in
    let said : bare W (length (put P3 (Binary p op (length (put N (SimpleName q w))) (length N1)))) ≡ a_name w
    ∷ a_sign sign_assign ∷ a_name w ∷ a_sign op ∷ a_sign sign_left_parenthesis
    ∷ (whole W e ++ a_sign sign_right_parenthesis ∷ []) =
    said0 ∙ ap (λ (ss : List Symbol). ss ++ (a_sign sign_assign ∷ (whole W (length P3) ++ []))) target
    ∙ ap (λ (ss : List Symbol). a_name w ∷ a_sign sign_assign ∷ ss) (append-nil (whole W (length P3)) ∙ value) in
    let b1 : List ℕ = b ++ printed (a_name w) in
    let b2 : List ℕ = b1 ++ printed (a_sign sign_assign) in
    let b3 : List ℕ = b2 ++ printed (a_name w) in
    let b4 : List ℕ = b3 ++ printed (a_sign op) in
    let b5 : List ℕ = b4 ++ printed (a_sign sign_left_parenthesis) in
    let b6 : List ℕ = b5 ++ canonical (whole W e) in
    let t6 : List Lexeme = sign_at sign_right_parenthesis (position_behind file b6) ∷ o2 in
    let t5 : List Lexeme = laid file b5 (whole W e) t6 in
    let i2 : List Lexeme = name_at w (position_behind file b) ∷ sign_at sign_assign (position_behind file b1)
    ∷ name_at w (position_behind file b2) ∷ sign_at op (position_behind file b3)
    ∷ sign_at sign_left_parenthesis (position_behind file b4) ∷ t5 in
    let M1 : List Node = put M (SimpleName (position_behind file b) w) in
    let M2 : List Node = put M1 (SimpleName (position_behind file b2) w) in
    let a = closed_again W first file M2 b5 b6 o2 d f3 in
    let paren : UnaryRead M2 (sign_at sign_left_parenthesis (position_behind file b4) ∷ t5)
    (put a.nodes (Parenthesized (position_behind file b4) a.place)) o2 (length a.nodes) =
    plain_unary
    (post_unary
    (in_parentheses_read M2 a.nodes t5 o2 a.place (position_behind file b4) (position_behind file b6) _ refl a.read u)) in
    let M3 : List Node = put a.nodes (Parenthesized (position_behind file b4) a.place) in
    let made : Node = Binary (position_behind file b3) op (length M1) (length a.nodes) in
    let opened : laid file b (bare W (length (put P3 (Binary p op (length (put N (SimpleName q w))) (length N1))))) o2
    ≡ name_at w (position_behind file b) ∷ sign_at sign_assign (position_behind file b1)
    ∷ name_at w (position_behind file b2) ∷ sign_at op (position_behind file b3)
    ∷ sign_at sign_left_parenthesis (position_behind file b4)
    ∷ laid file b5 (whole W e ++ a_sign sign_right_parenthesis ∷ []) o2 =
    ap (λ (ss : List Symbol). laid file b ss o2) said in
    let same : laid file b (bare W (length (put P3 (Binary p op (length (put N (SimpleName q w))) (length N1))))) o2
    ≡ i2 = opened ∙ simp laid-append in
    reported_moved same (reported_of (put (put M3 made) (Assign (position_behind file b1) (length M) (length M3)))
    (length (put M3 made))
    (front-then (front-one _)
    (front-then (front-one _)
    (front-then a.grown (front-then (front-one _) (front-then (front-one _) (front-one _))))))
    (assignment simple_name (operation op (compound_operator n op k) simple_read paren)) (λ V g.
    let g3 : Front a.nodes V = front-put _ _ (front-put _ _ (front-put _ _ g)) in
    let g2 : Front M2 V = front-then a.grown g3 in
    assign_alike at (front-at _ _ g) (name_alike w at_target (front-at _ _ (front-put _ _ g2)))
    (binary_alike op at_binary (front-at _ _ (front-put _ _ g)) (name_alike w at_left (front-at _ _ g2))
    (paren_alike at_paren (front-at _ _ (front-put _ _ (front-put _ _ g))) (a.alike V g3)))))
assignment_again W first file M b o2 (step_assignment {N = N} {w = w} {n = n} {op = op} {p = p} {q = q} k) f u =
    let P3 : List Node = put (name_twice N q w) (Number p 1 false) in
    let f4 : Front P3 W = front-put P3 (Binary p op (length (put N (SimpleName q w))) (length (name_twice N q w)))
    (front-put _ _ f) in
    let f2 : Front (name_twice N q w) W = front-put _ _ f4 in
    let f1 : Front (put N (SimpleName q w)) W = front-put _ _ f2 in
    let at : slice_get W (length (put P3 (Binary p op (length (put N (SimpleName q w))) (length (name_twice N q w)))))
    ≡ Some (Assign p (length N) (length P3)) = front-at _ _ f in
    let at_binary : slice_get W (length P3) ≡ Some
    (Binary p op (length (put N (SimpleName q w))) (length (name_twice N q w))) = front-at _ _ (front-put _ _ f) in
    let at_one : slice_get W (length (name_twice N q w)) ≡ Some (Number p 1 false) = front-at _ _ f4 in
    let at_left : slice_get W (length (put N (SimpleName q w))) ≡ Some (SimpleName q w) = front-at _ _ f2 in
    let at_target : slice_get W (length N) ≡ Some (SimpleName q w) = front-at _ _ f1 in
    let target : whole W (length N) ≡ a_name w ∷ [] = whole_at W _ _ first at_target in
    let left : whole W (length (put N (SimpleName q w))) ≡ a_name w ∷ [] = whole_at W _ _ first at_left in
    let right : whole W (length (name_twice N q w)) ≡ a_number 1 ∷ [] = whole_at W _ _ first at_one in
    let both : whole W (length P3) ≡ whole W (length (put N (SimpleName q w)))
    ++ (a_sign op ∷ (whole W (length (name_twice N q w)) ++ [])) = whole_at W _ _ first at_binary in
    let value : whole W (length P3) ≡ a_name w ∷ a_sign op ∷ a_number 1 ∷ [] =
    both ∙ ap (λ (ss : List Symbol). ss ++ (a_sign op ∷ (whole W (length (name_twice N q w)) ++ []))) left
    ∙ ap (λ (ss : List Symbol). a_name w ∷ a_sign op ∷ (ss ++ [])) right in
    let said0 : bare W (length (put P3 (Binary p op (length (put N (SimpleName q w))) (length (name_twice N q w)))))
    ≡ whole W (length N) ++ (a_sign sign_assign ∷ (whole W (length P3) ++ [])) = bare_at W _ _ first at in
    let said : bare W (length (put P3 (Binary p op (length (put N (SimpleName q w))) (length (name_twice N q w)))))
    ≡ a_name w ∷ a_sign sign_assign ∷ a_name w ∷ a_sign op ∷ a_number 1 ∷ [] =
    said0 ∙ ap (λ (ss : List Symbol). ss ++ (a_sign sign_assign ∷ (whole W (length P3) ++ []))) target
    ∙ ap (λ (ss : List Symbol). a_name w ∷ a_sign sign_assign ∷ (ss ++ [])) value in
    let b1 : List ℕ = b ++ printed (a_name w) in
    let b2 : List ℕ = b1 ++ printed (a_sign sign_assign) in
    let b3 : List ℕ = b2 ++ printed (a_name w) in
    let b4 : List ℕ = b3 ++ printed (a_sign op) in
    let M1 : List Node = put M (SimpleName (position_behind file b) w) in
    let M2 : List Node = put M1 (SimpleName (position_behind file b2) w) in
    let M3 : List Node = put M2 (Number (position_behind file b4) 1 false) in
    let one : UnaryRead M2 (number_at 1 (position_behind file b4) ∷ o2) M3 o2 (length M2) =
    plain_unary (post_unary (number refl)) in
    let made : Node = Binary (position_behind file b3) op (length M1) (length M2) in
    reported_moved (ap (λ (ss : List Symbol). laid file b ss o2) said)
    (reported_of (put (put M3 made) (Assign (position_behind file b1) (length M) (length M3))) (length (put M3 made))
    (front-then (front-one _)
    (front-then (front-one _) (front-then (front-one _) (front-then (front-one _) (front-one _)))))
    (assignment simple_name (operation op (stepping_operator n op k) simple_read one)) (λ V g.
    let g3 : Front M3 V = front-put _ _ (front-put _ _ g) in
    let g2 : Front M2 V = front-put _ _ g3 in
    assign_alike at (front-at _ _ g) (name_alike w at_target (front-at _ _ (front-put _ _ g2)))
    (binary_alike op at_binary (front-at _ _ (front-put _ _ g)) (name_alike w at_left (front-at _ _ g2))
    (number_alike 1 at_one (front-at _ _ g3)))))
