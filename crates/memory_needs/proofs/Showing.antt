-- What a node is found to show is all that it shows.
use Rattle.std.specs.Prelude.{◌⊎◌, max, Option, Some, None, Contains, nat_lt, if◌then◌else◌}
use Rattle.std.proofs.Common.{◌≡◌, inl, inr, ℕ, ◌<◌, ◌≤◌, ◌==◌, List, [], ◌∷◌, Bool, true, false, true≢false, refl, sym, ◌∙◌, ap, subst, arith}
use Rattle.std.proofs.lemmas.Bool.Decides.{nat_tests}
use Rattle.scj_base.specs.declared.positions.Position.{Position}
use Rattle.scj_builtins.specs.Framework.{managed_memory_enter_private_memory, managed_memory_execute_in_area_of}
use Rattle.scj_tree.specs.declared.nodes.Node.{Node}
use Rattle.scj_tree.specs.declared.nodes.Node.TheVariants.{Call, NewArray, While, For}
use Rattle.scj_rules.proofs.ReportLemmas.{Contains-head, Contains-tail, Contains-cases, none_contained}
use Rattle.scj_rules.specs.Definitions.{read}
use Rattle.scj_rules.specs.Words.{◌>>=◌}
use Rattle.scj_rules.specs.declared.typing.Target.{Target}
use Rattle.scj_rules.specs.declared.typing.Binding.{Binding}
use Rattle.scj_rules.specs.declared.typing.Binding.TheVariants.{Builtin}
use Rattle.scj_rules.specs.declared.views.Body.{Body}
use Rattle.scj_rules.specs.Bodies.{number_literal}
use Rattle.scj_model.specs.Code.{Code, binding, position_of_node}
use Rattle.memory_needs.specs.declared.answers.NoBound.{NoBound}
use Rattle.memory_needs.specs.declared.answers.NoBound.TheVariants.{NotLiteral, OuterArea, NewInLoop, TooSmall}
use Rattle.memory_needs.specs.declared.shown.Shown.{Shown}
use Rattle.memory_needs.specs.Targets.{targets_entered}
use Rattle.memory_needs.specs.Need.{Table, greatest}
use Rattle.memory_needs.specs.Room.{entered_with, size_entered}
use Rattle.memory_needs.specs.Causes.{number_asked, executes_in_area, is_loop}
use Rattle.memory_needs.specs.Shown.{IsShown, no_number, fills, makes, small, ShowsOne, number_shown, shown_if_needed, size_shown, entered_shown, call_shown, node_shown}

-- ---- the greatest of some bodies

pub greatest_upper : (t : Table) (bodies : List Body) (b : Body) → Contains bodies b → t b ≤ greatest t bodies
unfolding greatest
greatest_upper t [] b c = absurd (none_contained b c)
greatest_upper t (x ∷ bodies) b c = of (Contains-cases x bodies b c) (λ h. greatest_upper t bodies b h)
  where
    of : (x ≡ b) ⊎ Contains bodies b → (Contains bodies b → t b ≤ greatest t bodies) →
        t b ≤ max (t x) (greatest t bodies)
    of (inl e) u = let a = ap t e in omega (arith, a)
    of (inr h) u = let a = u h in omega (arith, a)

pub greatest_there : (t : Table) (bodies : List Body) (n : ℕ) → n < greatest t bodies →
    (b : Body) × Contains bodies b × (n < t b)
unfolding greatest
greatest_there t [] n l = absurd (omega (arith, l))
greatest_there t (x ∷ bodies) n l = of (nat_lt n (t x)) refl (λ k. greatest_there t bodies n k)
  where
    of : (c : Bool) → nat_lt n (t x) ≡ c → (n < greatest t bodies → (b : Body) × Contains bodies b × (n < t b)) →
        (b : Body) × Contains (x ∷ bodies) b × (n < t b)
    of true e u = (x, Contains-head x bodies, grind (arith, nat_tests))
    of false e u =
        let h = u (grind (arith, nat_tests, l)) in
        (h.0, Contains-tail x bodies h.0 h.1, h.2)

-- where no number is asked, no size is entered with
sized_none : (code : Code) (id : ℕ) (node : Node) → entered_with (binding code id) node ≡ None →
    size_entered code id node ≡ None
sized_none code id node a = ap (λ (m : Option ℕ). m >>= read code.program.nodes number_literal) a

module _ (code : Code) (table : Table) (needs : ℕ → ℕ) (id : ℕ) where
  abbrev Shows : Node → NoBound → Position → Type 0
  Shows node cause at = IsShown code table needs id node cause at

  one : (node : Node) (o : Option Shown) → Type 0
  one node o = ShowsOne code table needs id node o

  shows_none : (node : Node) → number_asked code id node ≡ None → targets_entered code id node ≡ [] →
      is_loop node ≡ false → ShowsOne code table needs id node None
  shows_none node a t l = record { nothing = λ cause at s. of cause at s; that = tt; alone = tt }
    where
      of : (cause : NoBound) (at : Position) → IsShown code table needs id node cause at → ⊥
      of _ _ (no_number number e n) = cc (a, e)
      of _ _ (fills target e c n) = none_contained target (subst (λ bs. Contains bs target) t c)
      of _ _ (makes e n) = cc (l, e)
      of _ _ (small size target e c n) = none_contained target (subst (λ bs. Contains bs target) t c)

  -- ---- an array

  shows_array : (node : Node) (count : ℕ) → number_asked code id node ≡ Some count →
      targets_entered code id node ≡ [] → is_loop node ≡ false →
      ShowsOne code table needs id node (number_shown code count)
  unfolding number_shown
  shows_array node count a t l = of (read code.program.nodes number_literal count) refl
    where
      of : (o : Option ℕ) → read code.program.nodes number_literal count ≡ o →
          ShowsOne code table needs id node
          (elim o [ None ↦ Some (record { cause = NotLiteral; at = position_of_node code count }) | Some n ↦ None ])
      of None e = record { nothing = tt; that = no_number count a e; alone = alone }
        where
          alone : (cause : NoBound) (at : Position) → IsShown code table needs id node cause at →
              (cause ≡ NotLiteral) × (at ≡ position_of_node code count)
          alone _ _ (no_number number b n) =
              (let same : number ≡ count = cc (a, b) in (refl, ap (position_of_node code) same))
          alone _ _ (fills target b c n) = absurd (none_contained target (subst (λ bs. Contains bs target) t c))
          alone _ _ (makes b n) = absurd (cc (l, b))
          alone _ _ (small size target b c n) = absurd (none_contained target (subst (λ bs. Contains bs target) t c))
      of (Some n) e = record { nothing = nothing; that = tt; alone = tt }
        where
          nothing : (cause : NoBound) (at : Position) → IsShown code table needs id node cause at → ⊥
          nothing _ _ (no_number number b m) =
              (let same : number ≡ count = cc (a, b) in
              let f = ap (read code.program.nodes number_literal) same in cc (f, m, e))
          nothing _ _ (fills target b c m) = none_contained target (subst (λ bs. Contains bs target) t c)
          nothing _ _ (makes b m) = cc (l, b)
          nothing _ _ (small size target b c m) = none_contained target (subst (λ bs. Contains bs target) t c)

  -- ---- a loop

  shows_loop : (node : Node) → number_asked code id node ≡ None → targets_entered code id node ≡ [] →
      is_loop node ≡ true → ShowsOne code table needs id node (shown_if_needed code id NewInLoop (needs id))
  unfolding shown_if_needed
  shows_loop node a t l = of (nat_lt 0 (needs id)) refl
    where
      of : (b : Bool) → nat_lt 0 (needs id) ≡ b →
          ShowsOne code table needs id node
          (if b then Some (record { cause = NewInLoop; at = position_of_node code id }) else None)
      of true e = record { nothing = tt; that = makes l (grind (arith, nat_tests)); alone = alone }
        where
          alone : (cause : NoBound) (at : Position) → IsShown code table needs id node cause at →
              (cause ≡ NewInLoop) × (at ≡ position_of_node code id)
          alone _ _ (no_number number b n) = absurd (cc (a, b))
          alone _ _ (fills target b c n) = absurd (none_contained target (subst (λ bs. Contains bs target) t c))
          alone _ _ (makes b n) = (refl, refl)
          alone _ _ (small size target b c n) = absurd (none_contained target (subst (λ bs. Contains bs target) t c))
      of false e = record { nothing = nothing; that = tt; alone = tt }
        where
          nothing : (cause : NoBound) (at : Position) → IsShown code table needs id node cause at → ⊥
          nothing _ _ (no_number number b n) = cc (a, b)
          nothing _ _ (fills target b c n) = none_contained target (subst (λ bs. Contains bs target) t c)
          nothing _ _ (makes b n) = grind (arith, nat_tests, e, n)
          nothing _ _ (small size target b c n) = none_contained target (subst (λ bs. Contains bs target) t c)

  -- ---- a call, by what it stands for

  module _ (node : Node) (loop : is_loop node ≡ false) where
    -- one that asks no number, and runs nothing in the area of another object
    by_none : number_asked code id node ≡ None → entered_with (binding code id) node ≡ None →
        executes_in_area (binding code id) ≡ false → ShowsOne code table needs id node None
    by_none a w x = record { nothing = λ cause at s. of cause at s; that = tt; alone = tt }
      where
        of : (cause : NoBound) (at : Position) → IsShown code table needs id node cause at → ⊥
        of _ _ (no_number number e n) = cc (a, e)
        of _ _ (fills target e c n) = true≢false (sym e ∙ x)
        of _ _ (makes e n) = cc (loop, e)
        of _ _ (small size target e c n) = (let u = sized_none code id node w in cc (u, e))

    -- one that runs a body in the area of another object
    by_area : number_asked code id node ≡ None → entered_with (binding code id) node ≡ None →
        executes_in_area (binding code id) ≡ true →
        ShowsOne code table needs id node
        (shown_if_needed code id OuterArea (greatest table (targets_entered code id node)))
    unfolding shown_if_needed
    by_area a w x = of (nat_lt 0 (greatest table (targets_entered code id node))) refl
      where
        unsized : size_entered code id node ≡ None
        unsized = sized_none code id node w

        of : (b : Bool) → nat_lt 0 (greatest table (targets_entered code id node)) ≡ b →
            ShowsOne code table needs id node
            (if b then Some (record { cause = OuterArea; at = position_of_node code id }) else None)
        of true e =
            let h = greatest_there table (targets_entered code id node) 0 (grind (arith, nat_tests)) in
            record { nothing = tt; that = fills h.0 x h.1 h.2; alone = alone }
          where
            alone : (cause : NoBound) (at : Position) → IsShown code table needs id node cause at →
                (cause ≡ OuterArea) × (at ≡ position_of_node code id)
            alone _ _ (no_number number b n) = absurd (cc (a, b))
            alone _ _ (fills target b c n) = (refl, refl)
            alone _ _ (makes b n) = absurd (cc (loop, b))
            alone _ _ (small size target b c n) = absurd (cc (unsized, b))
        of false e = record { nothing = nothing; that = tt; alone = tt }
          where
            nothing : (cause : NoBound) (at : Position) → IsShown code table needs id node cause at → ⊥
            nothing _ _ (no_number number b n) = cc (a, b)
            nothing _ _ (fills target b c n) =
                (let l = greatest_upper table (targets_entered code id node) target c in
                grind (arith, nat_tests, e, n, l))
            nothing _ _ (makes b n) = cc (loop, b)
            nothing _ _ (small size target b c n) = cc (unsized, b)

    -- one that enters a private memory
    by_size : (size : ℕ) → number_asked code id node ≡ Some size → entered_with (binding code id) node ≡ Some size →
        executes_in_area (binding code id) ≡ false →
        ShowsOne code table needs id node (size_shown code id size (greatest table (targets_entered code id node)))
    unfolding size_shown
    by_size size a w x = of (read code.program.nodes number_literal size) refl
      where
        sized : (o : Option ℕ) → read code.program.nodes number_literal size ≡ o → size_entered code id node ≡ o
        sized o e = ap (λ (m : Option ℕ). m >>= read code.program.nodes number_literal) w ∙ e

        of : (o : Option ℕ) → read code.program.nodes number_literal size ≡ o →
            ShowsOne code table needs id node
            (elim o [
              | None ↦ Some (record { cause = NotLiteral; at = position_of_node code size })
              | Some bytes ↦
                  if nat_lt bytes (greatest table (targets_entered code id node))
                  then Some (record { cause = TooSmall; at = position_of_node code id }) else None
            ])
        of None e = record { nothing = tt; that = no_number size a e; alone = alone }
          where
            alone : (cause : NoBound) (at : Position) → IsShown code table needs id node cause at →
                (cause ≡ NotLiteral) × (at ≡ position_of_node code size)
            alone _ _ (no_number number b n) =
                (let same : number ≡ size = cc (a, b) in (refl, ap (position_of_node code) same))
            alone _ _ (fills target b c n) = absurd (true≢false (sym b ∙ x))
            alone _ _ (makes b n) = absurd (cc (loop, b))
            alone _ _ (small bytes target b c n) = absurd (let k = sized None e in cc (k, b))
        of (Some bytes) e = by_test (nat_lt bytes (greatest table (targets_entered code id node))) refl
          where
            by_test : (b : Bool) → nat_lt bytes (greatest table (targets_entered code id node)) ≡ b →
                ShowsOne code table needs id node
                (if b then Some (record { cause = TooSmall; at = position_of_node code id }) else None)
            by_test true q =
                let h = greatest_there table (targets_entered code id node) bytes (grind (arith, nat_tests)) in
                record { nothing = tt; that = small bytes h.0 (sized (Some bytes) e) h.1 h.2; alone = alone }
              where
                alone : (cause : NoBound) (at : Position) → IsShown code table needs id node cause at →
                    (cause ≡ TooSmall) × (at ≡ position_of_node code id)
                alone _ _ (no_number number b n) =
                    absurd (let same : number ≡ size = cc (a, b) in
                    let f = ap (read code.program.nodes number_literal) same in cc (f, n, e))
                alone _ _ (fills target b c n) = absurd (true≢false (sym b ∙ x))
                alone _ _ (makes b n) = absurd (cc (loop, b))
                alone _ _ (small other target b c n) = (refl, refl)
            by_test false q = record { nothing = nothing; that = tt; alone = tt }
              where
                nothing : (cause : NoBound) (at : Position) → IsShown code table needs id node cause at → ⊥
                nothing _ _ (no_number number b n) =
                    (let same : number ≡ size = cc (a, b) in
                    let f = ap (read code.program.nodes number_literal) same in cc (f, n, e))
                nothing _ _ (fills target b c n) = true≢false (sym b ∙ x)
                nothing _ _ (makes b n) = cc (loop, b)
                nothing _ _ (small other target b c n) =
                    (let k = sized (Some bytes) e in
                    let same : other ≡ bytes = cc (k, b) in
                    let l = greatest_upper table (targets_entered code id node) target c in
                    grind (arith, nat_tests, q, n, l, same))

  -- ---- any node

  -- whether it is a call
  is_call : Node → Bool
  is_call (Call position name object arguments) = true
  is_call node = false

  not_entered : (b : Binding) (node : Node) → is_call node ≡ false → entered_with b node ≡ None
  unfolding entered_with is_call
  not_entered (Builtin t) (Call position name object arguments) e = absurd (true≢false e)
  not_entered (Builtin t) node e = refl
  not_entered b node e = refl

  apart : (n : ℕ) → (n == managed_memory_execute_in_area_of) ≡ true →
      (n == managed_memory_enter_private_memory) ≡ false
  apart n e = grind (arith, nat_tests)

  -- the size that is asked, where the call is one that enters a private memory
  asked_in : Bool → List ℕ → Option ℕ
  asked_in enters [] = None
  asked_in enters (size ∷ more) = if enters then Some size else None

  module _ (position : Position) (name : List ℕ) (object : Option ℕ) (arguments : List ℕ) where
    abbrev call : Node
    call = Call position name object arguments

    entered_is : (t : Target) → binding code id ≡ Builtin t → (y : Bool) →
        (t.id == managed_memory_enter_private_memory) ≡ y → (given : List ℕ) → arguments ≡ given →
        entered_with (binding code id) (Call position name object arguments) ≡ asked_in y given
    unfolding entered_with asked_in
    entered_is t e y q given a =
        ap (λ b. entered_with b (Call position name object arguments)) e
        ∙ (ap (λ xs. entered_with (Builtin t) (Call position name object xs)) a ∙ of given)
      where
        of : (xs : List ℕ) → entered_with (Builtin t) (Call position name object xs) ≡ asked_in y xs
        of [] = refl
        of (size ∷ more) = ap (λ b. if b then Some size else None) q

    by_builtin : (t : Target) → binding code id ≡ Builtin t → (x y : Bool) →
        (t.id == managed_memory_execute_in_area_of) ≡ x → (t.id == managed_memory_enter_private_memory) ≡ y →
        (given : List ℕ) → arguments ≡ given →
        ShowsOne code table needs id (Call position name object arguments)
        (if x then shown_if_needed code id OuterArea
        (greatest table (targets_entered code id (Call position name object arguments)))
        else (if y then entered_shown code id given
        (greatest table (targets_entered code id (Call position name object arguments))) else None))
    unfolding number_asked executes_in_area is_loop entered_shown asked_in
    by_builtin t e true true p q given a = absurd (let n = apart t.id p in true≢false (sym q ∙ n))
    by_builtin t e true false p q [] a =
        by_area (Call position name object arguments) refl (entered_is t e false q [] a) (entered_is t e false q [] a)
        (ap executes_in_area e ∙ p)
    by_builtin t e true false p q (size ∷ more) a =
        by_area (Call position name object arguments) refl (entered_is t e false q (size ∷ more) a)
        (entered_is t e false q (size ∷ more) a) (ap executes_in_area e ∙ p)
    by_builtin t e false true p q [] a =
        by_none (Call position name object arguments) refl (entered_is t e true q [] a) (entered_is t e true q [] a)
        (ap executes_in_area e ∙ p)
    by_builtin t e false true p q (size ∷ more) a =
        by_size (Call position name object arguments) refl size (entered_is t e true q (size ∷ more) a)
        (entered_is t e true q (size ∷ more) a) (ap executes_in_area e ∙ p)
    by_builtin t e false false p q [] a =
        by_none (Call position name object arguments) refl (entered_is t e false q [] a) (entered_is t e false q [] a)
        (ap executes_in_area e ∙ p)
    by_builtin t e false false p q (size ∷ more) a =
        by_none (Call position name object arguments) refl (entered_is t e false q (size ∷ more) a)
        (entered_is t e false q (size ∷ more) a) (ap executes_in_area e ∙ p)

    call_of : (b : Binding) → binding code id ≡ b →
        ShowsOne code table needs id (Call position name object arguments)
        (call_shown code id b arguments (greatest table (targets_entered code id (Call position name object arguments))))
    unfolding call_shown number_asked executes_in_area is_loop entered_with
    call_of (Builtin t) e =
        by_builtin t e (t.id == managed_memory_execute_in_area_of) (t.id == managed_memory_enter_private_memory) refl refl
        arguments refl
    call_of b e =
        by_none (Call position name object arguments) refl (ap (λ d. entered_with d (Call position name object arguments)) e)
        (ap (λ d. entered_with d (Call position name object arguments)) e) (ap executes_in_area e)

  pub shows_one : (node : Node) →
      ShowsOne code table needs id node (node_shown code needs (greatest table (targets_entered code id node)) id node)
  unfolding node_shown number_asked targets_entered is_loop is_call
  shows_one (NewArray position element count) = shows_array (NewArray position element count) count refl refl refl
  shows_one (While position condition body) =
      shows_loop (While position condition body) (not_entered (binding code id) (While position condition body) refl) refl refl
  shows_one (For position first condition step body) =
      shows_loop (For position first condition step body)
      (not_entered (binding code id) (For position first condition step body) refl) refl refl
  shows_one (Call position name object arguments) = call_of position name object arguments (binding code id) refl
  shows_one node = shows_none node (not_entered (binding code id) node refl) refl refl
