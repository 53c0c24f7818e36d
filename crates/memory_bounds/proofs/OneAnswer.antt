-- There is one answer for a class.
use Rattle.std.specs.Prelude.{Option, Some, None, nat_lt, Contains}
use Rattle.std.specs.Ordering.{nat_cmp, ordering_then}
use Rattle.std.specs.declared.cmp.Ordering.{Ordering}
use Rattle.std.specs.declared.cmp.Ordering.TheVariants.{Less, Equal}
use Rattle.std.proofs.Common.{◌≡◌, ℕ, ◌<◌, ◌==◌, List, [], ◌++◌, Bool, true, false, refl, sym, ◌∙◌, ap, subst, arith}
use Rattle.std.proofs.lemmas.Bool.Decides.{nat_tests}
use Rattle.std.proofs.lemmas.List.Elements.{Contains-append_right}
use Rattle.scj_base.specs.declared.positions.Position.{Position}
use Rattle.scj_tree.specs.declared.nodes.Node.{Node}
use Rattle.scj_tree.specs.Forest.{ChildrenFirst}
use Rattle.scj_rules.specs.declared.views.Body.{Body}
use Rattle.scj_rules.specs.Report.{position_order}
use Rattle.accepted_laws.proofs.Tools.{some_inj}
use Rattle.scj_model.specs.Code.{Code}
use Rattle.memory_needs.specs.declared.answers.BoundAnswer.{BoundAnswer}
use Rattle.memory_needs.specs.declared.answers.BoundAnswer.TheVariants.{Yes, No}
use Rattle.memory_needs.specs.declared.answers.NoBound.{NoBound}
use Rattle.memory_needs.specs.declared.answers.NoBound.TheVariants.{Recursion, NotLiteral, OuterArea, NewInLoop, TooSmall}
use Rattle.memory_needs.specs.Targets.{targets_here, targets_entered, targets}
use Rattle.memory_needs.specs.Reach.{Reaches, begins, goes_on, ReachesNode}
use Rattle.memory_needs.specs.Need.{Table, AreNeeds}
use Rattle.memory_needs.specs.Causes.{Recurs, entered, stored, Shows, order_of, IsNowhere, IsFirst, IsFirstCause}
use Rattle.memory_needs.specs.Rows.{IsAnswerBy, IsAnswer}
use Rattle.memory_needs.proofs.Agree.{need_agrees, need_is_one, runs_here}

-- ---- places

data Rank (m n : ℕ) : Type 0 where
  below : nat_cmp m n ≡ Less → Rank m n
  same : m ≡ n → nat_cmp m n ≡ Equal → nat_cmp n m ≡ Equal → Rank m n
  above : nat_cmp n m ≡ Less → Rank m n

itself_equal : (m : ℕ) → nat_cmp m m ≡ Equal
itself_equal m =
    let a : nat_lt m m ≡ false = grind (arith, nat_tests) in
    let b : (m == m) ≡ true = grind (arith, nat_tests) in
    rw (a, b) refl

rank : (m n : ℕ) → Rank m n
rank m n = of (nat_lt m n) (nat_lt n m) refl refl
  where
    of : (a b : Bool) → nat_lt m n ≡ a → nat_lt n m ≡ b → Rank m n
    of true b p q = below (rw p refl)
    of false true p q = above (rw q refl)
    of false false p q =
        let e : m ≡ n = grind (arith, nat_tests) in
        same e (subst (λ k. nat_cmp m k ≡ Equal) e (itself_equal m)) (subst (λ k. nat_cmp k m ≡ Equal) e (itself_equal m))

abbrev pos_of : ℕ → ℕ → ℕ → Position
pos_of file line col = record { file = file; line = line; col = col }

abbrev lines : Position → Position → Ordering
lines x y = ordering_then (nat_cmp x.line y.line) (nat_cmp x.col y.col)

-- neither stands before the other one
one_place : (a b : Position) → (position_order a b ≡ Less → ⊥) → (position_order b a ≡ Less → ⊥) → a ≡ b
one_place a b h k = by_file (rank a.file b.file)
  where
    by_col : a.file ≡ b.file → nat_cmp a.file b.file ≡ Equal → nat_cmp b.file a.file ≡ Equal → a.line ≡ b.line →
        nat_cmp a.line b.line ≡ Equal → nat_cmp b.line a.line ≡ Equal → Rank a.col b.col → a ≡ b
    by_col e p q f r s (below l) =
        absurd (h (ap (λ z. ordering_then z (lines a b)) p ∙ (ap (λ z. ordering_then z (nat_cmp a.col b.col)) r ∙ l)))
    by_col e p q f r s (above l) =
        absurd (k (ap (λ z. ordering_then z (lines b a)) q ∙ (ap (λ z. ordering_then z (nat_cmp b.col a.col)) s ∙ l)))
    by_col e p q f r s (same g l m) =
        ap (λ n. pos_of n a.line a.col) e ∙ (ap (λ n. pos_of b.file n a.col) f ∙ ap (λ n. pos_of b.file b.line n) g)

    by_line : a.file ≡ b.file → nat_cmp a.file b.file ≡ Equal → nat_cmp b.file a.file ≡ Equal → Rank a.line b.line →
        a ≡ b
    by_line e p q (below l) =
        absurd (h (ap (λ z. ordering_then z (lines a b)) p ∙ ap (λ z. ordering_then z (nat_cmp a.col b.col)) l))
    by_line e p q (above l) =
        absurd (k (ap (λ z. ordering_then z (lines b a)) q ∙ ap (λ z. ordering_then z (nat_cmp b.col a.col)) l))
    by_line e p q (same f r s) = by_col e p q f r s (rank a.col b.col)

    by_file : Rank a.file b.file → a ≡ b
    by_file (below l) = absurd (h (ap (λ z. ordering_then z (lines a b)) l))
    by_file (above l) = absurd (k (ap (λ z. ordering_then z (lines b a)) l))
    by_file (same e p q) = by_line e p q (rank a.line b.line)

-- ---- causes, by two tables that tell the same of what is reached

module _ (code : Code) (first : ChildrenFirst 0 code.program.nodes) (class : ℕ) (t u : Table)
    (agree : (body : Body) → Reaches code class body → t body ≡ u body) where
  entered_reached : (id : ℕ) (node : Node) → ReachesNode code class id node → (target : Body) →
      Contains (targets_entered code id node) target → Reaches code class target
  unfolding targets
  entered_reached id node r target c =
      let all : targets code id ≡ targets_here code id node ++ targets_entered code id node =
      ap (λ (o : Option Node). elim o [ None ↦ [] | Some n ↦ targets_here code id n ++ targets_entered code id n ]) r.is in
      goes_on r.body target r.reached (record {
        id = id;
        is_in = r.is_in;
        is_target = subst (λ (bs : List Body). Contains bs target) (sym all)
            (Contains-append_right (targets_here code id node) (targets_entered code id node) target c);
      })

  shows_too : (cause : NoBound) (at : Position) → Shows code class t cause at → Shows code class u cause at
  unfolding Shows
  shows_too Recursion at x = x
  shows_too NotLiteral at x = x
  shows_too OuterArea at x =
      record {
        id = x.id;
        node = x.node;
        reached = x.reached;
        executes = x.executes;
        target = x.target;
        is_target = x.is_target;
        needs = subst (λ n. 0 < n) (agree x.target (entered_reached x.id x.node x.reached x.target x.is_target)) x.needs;
        is_position = x.is_position;
      }
  shows_too NewInLoop at x =
      record {
        id = x.id;
        node = x.node;
        reached = x.reached;
        loops = x.loops;
        needs =
            subst (λ n. 0 < n)
            (need_agrees code first t u x.reached.body
            (λ target r. agree target (goes_on x.reached.body target x.reached.reached (runs_here code x.reached.body target r)))
            x.id x.reached.is_in) x.needs;
        is_position = x.is_position;
      }
  shows_too TooSmall at (entered id node size target r written c l place) =
      entered id node size target r written c
      (subst (λ n. size < n) (agree target (entered_reached id node r target c)) l) place
  shows_too TooSmall at (stored bytes body is_storage is_body l place) =
      stored bytes body is_storage is_body (subst (λ n. bytes < n) (agree body (begins body is_body)) l) place

-- ---- answers

abbrev cause_order : NoBound → NoBound → Bool
cause_order a b = nat_lt (order_of a) (order_of b)

one_cause : (a b : NoBound) → order_of a ≡ order_of b → a ≡ b
unfolding order_of
one_cause Recursion Recursion e = refl
one_cause NotLiteral NotLiteral e = refl
one_cause OuterArea OuterArea e = refl
one_cause NewInLoop NewInLoop e = refl
one_cause TooSmall TooSmall e = refl
one_cause Recursion NotLiteral e = absurd (omega (arith, e))
one_cause Recursion OuterArea e = absurd (omega (arith, e))
one_cause Recursion NewInLoop e = absurd (omega (arith, e))
one_cause Recursion TooSmall e = absurd (omega (arith, e))
one_cause NotLiteral Recursion e = absurd (omega (arith, e))
one_cause NotLiteral OuterArea e = absurd (omega (arith, e))
one_cause NotLiteral NewInLoop e = absurd (omega (arith, e))
one_cause NotLiteral TooSmall e = absurd (omega (arith, e))
one_cause OuterArea Recursion e = absurd (omega (arith, e))
one_cause OuterArea NotLiteral e = absurd (omega (arith, e))
one_cause OuterArea NewInLoop e = absurd (omega (arith, e))
one_cause OuterArea TooSmall e = absurd (omega (arith, e))
one_cause NewInLoop Recursion e = absurd (omega (arith, e))
one_cause NewInLoop NotLiteral e = absurd (omega (arith, e))
one_cause NewInLoop OuterArea e = absurd (omega (arith, e))
one_cause NewInLoop TooSmall e = absurd (omega (arith, e))
one_cause TooSmall Recursion e = absurd (omega (arith, e))
one_cause TooSmall NotLiteral e = absurd (omega (arith, e))
one_cause TooSmall OuterArea e = absurd (omega (arith, e))
one_cause TooSmall NewInLoop e = absurd (omega (arith, e))

module _ (code : Code) (class : ℕ) (t u : Table)
    (there : (cause : NoBound) (at : Position) → Shows code class t cause at → Shows code class u cause at)
    (back : (cause : NoBound) (at : Position) → Shows code class u cause at → Shows code class t cause at) where
  one_first : (a b : NoBound) (x y : Position) → IsFirstCause code class t a x → IsFirstCause code class u b y →
      No a x ≡ No b y
  one_first a b x y f g = of (cause_order a b) (cause_order b a) refl refl
    where
      at_one : a ≡ b → No a x ≡ No b y
      at_one e =
          let here : Shows code class u b x = subst (λ c. Shows code class u c x) e (there a x f.first.here) in
          let p : x ≡ y =
          one_place x y (λ l. g.first.none_before x here l)
          (λ l. f.first.none_before y (subst (λ c. Shows code class t c y) (sym e) (back b y g.first.here)) l) in
          ap (λ c. No c x) e ∙ ap (No b) p

      of : (l m : Bool) → cause_order a b ≡ l → cause_order b a ≡ m → No a x ≡ No b y
      of true m p q =
          let k : order_of a < order_of b = grind (arith, nat_tests) in
          absurd (g.none_before a k x (there a x f.first.here))
      of false true p q =
          let k : order_of b < order_of a = grind (arith, nat_tests) in
          absurd (f.none_before b k y (back b y g.first.here))
      of false false p q =
          let k : order_of a ≡ order_of b = grind (arith, nat_tests) in at_one (one_cause a b k)

  one_of_two : (a b : BoundAnswer) → ((body : Body) → Reaches code class body → t body ≡ u body) →
      IsAnswerBy code class t a → IsAnswerBy code class u b → a ≡ b
  one_of_two (Yes m) (Yes n) agree f g =
      let same_body : f.body ≡ g.body = some_inj f.body g.body (sym f.is_body ∙ g.is_body) in
      let bytes : m ≡ n =
      sym f.is_need
      ∙ (agree f.body (begins f.body f.is_body) ∙ (ap (λ (z : Body). u z) same_body ∙ g.is_need)) in
      ap (λ k. Yes k) bytes
  one_of_two (Yes m) (No c y) agree f g = absurd (f.no_cause c y (back c y g.first.here))
  one_of_two (No c x) (Yes n) agree f g = absurd (g.no_cause c x (there c x f.first.here))
  one_of_two (No c x) (No d y) agree f g = one_first c d x y f g

-- an answer that tells a recursion, and any other one
data Sorted (code : Code) (class : ℕ) (a : BoundAnswer) : Type 0 where
  recurs : (at : Position) → a ≡ No Recursion at → IsFirst (Recurs code class) at → Sorted code class a
  plain : IsNowhere (Recurs code class) → Sorted code class a

module _ (code : Code) (class : ℕ) (t : Table) where
  nowhere : (c : NoBound) (at : Position) → order_of Recursion < order_of c → IsFirstCause code class t c at →
      IsNowhere (Recurs code class)
  unfolding Shows
  nowhere c at l f other x = f.none_before Recursion l other x

  sorted : (a : BoundAnswer) → IsAnswerBy code class t a → Sorted code class a
  unfolding Shows order_of
  sorted (Yes n) s = plain (λ at x. s.no_cause Recursion at x)
  sorted (No Recursion at) f =
      recurs at refl (record { here = f.first.here; none_before = λ other x l. f.first.none_before other x l })
  sorted (No NotLiteral at) f = plain (nowhere NotLiteral at (omega arith) f)
  sorted (No OuterArea at) f = plain (nowhere OuterArea at (omega arith) f)
  sorted (No NewInLoop at) f = plain (nowhere NewInLoop at (omega arith) f)
  sorted (No TooSmall at) f = plain (nowhere TooSmall at (omega arith) f)

pub answers_are_one : (code : Code) → ChildrenFirst 0 code.program.nodes → (class : ℕ) (a b : BoundAnswer) →
    IsAnswer code class a → IsAnswer code class b → a ≡ b
unfolding Shows
answers_are_one code first class a b x y = of (sorted code class x.table a x.is) (sorted code class y.table b y.is)
  where
    of : Sorted code class a → Sorted code class b → a ≡ b
    of (recurs p e f) (recurs q g h) =
        e ∙ (ap (No Recursion) (one_place p q (λ l. h.none_before p f.here l) (λ l. f.none_before q h.here l)) ∙ sym g)
    of (recurs p e f) (plain n) = absurd (n p f.here)
    of (plain n) (recurs q g h) = absurd (n q h.here)
    of (plain n) (plain m) =
        let s : AreNeeds code class x.table = x.are_needs n in
        let r : AreNeeds code class y.table = y.are_needs m in
        let agree : (body : Body) → Reaches code class body → x.table body ≡ y.table body =
        λ body reached.
        need_is_one code first body (x.table body) (y.table body) (s.each body reached) (r.each body reached) in
        one_of_two code class x.table y.table (shows_too code first class x.table y.table agree)
        (shows_too code first class y.table x.table (λ body reached. sym (agree body reached))) a b agree x.is y.is
