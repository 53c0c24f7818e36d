-- The statements below a statement of an accepted program: they stand in the same body, and know the variables that are
-- declared before them; and what a block has.
use Rattle.std.proofs.Common.{◌≡◌, ℕ, ◌+◌, ◌<◌, ◌≤◌, List, [], ◌∷◌, refl, sym, ap, ◌∙◌, subst, arith, Option, Some, None, Bool, true, false, not, ◌==◌, is_some, slice_get, if◌then◌else◌, inl, length, suc, inr}
use Rattle.std.specs.List.{prefix_len}
use Rattle.scj_base.specs.declared.positions.Position.{Position}
use Rattle.scj_tree.specs.declared.nodes.Node.{Node}
use Rattle.scj_tree.specs.declared.nodes.Node.TheVariants.{Block}
use Rattle.scj_tree.specs.Counts.{times}
use Rattle.scj_tree.specs.Forest.{Forest, IsForest}
use Rattle.scj_tree.specs.Shape.{children}
use Rattle.scj_rules.specs.Words.{is_among, chain}
use Rattle.scj_rules.specs.Views.{variable_at}
use Rattle.scj_rules.specs.Contexts.{Declarations, declarations_of, context, child_context, last_variable, those_before, declared_before, known_variables, variable_before}
use Rattle.scj_rules.specs.Phases.{IsAccepted}
use Rattle.scj_rules.proofs.ChainLemmas.{or_cases, or_left, or_right, same_number, is_same_number}
use Rattle.scj_rules.proofs.ParentLemmas.{children_apart, child-less, times-among}
use Rattle.accepted_laws.specs.Judgements.{Inside, Among, known_behind}
use Rattle.accepted_laws.specs.Sorts.{Of, AllOf, HasRightChildren, IsWellSorted, is_statement}
use Rattle.accepted_laws.proofs.Contexts.{child_context_is, known_next, known_same}
use Rattle.accepted_laws.proofs.InnerNodes.{is_inner}
use Rattle.accepted_nodes.proofs.ValueChildren.{inside_child}
use Rattle.scope_flow.specs.Needs.{IsStatement}
use Rattle.scope_flow.specs.ValueFacts.{HasStatement, HaveStatements}

before_same : (v x : ℕ) (ids : List ℕ) → (x == v) ≡ true → those_before v (x ∷ ids) ≡ []
before_same v x ids e = rw e refl

before_other : (v x : ℕ) (ids : List ℕ) → (x == v) ≡ false → those_before v (x ∷ ids) ≡ x ∷ those_before v ids
before_other v x ids e =
    let one : 1 + prefix_len (λ y. not (y == v)) ids ≡ suc (prefix_len (λ y. not (y == v)) ids) = omega arith in
    rw (e, one) refl

not_head : (x v : ℕ) (ids : List ℕ) → times v (x ∷ ids) ≤ 1 → is_among v ids ≡ true → (x == v) ≡ false
unfolding times
not_head x v ids once among = go (x == v) refl
  where
    go : (t : Bool) → (x == v) ≡ t → (x == v) ≡ false
    go false e = e
    go true e =
        let first : (v == x) ≡ true = (let s : x ≡ v = same_number x v e in is_same_number v x (sym s)) in
        let counted : (if true then 1 else 0) + times v ids ≤ 1 =
        subst (λ t. (if t then 1 else 0) + times v ids ≤ 1) first once in
        absurd (let l = times-among v ids among in omega (arith, l, counted))

tail_apart : (x : ℕ) (ids : List ℕ) → ((v : ℕ) → times v (x ∷ ids) ≤ 1) → (v : ℕ) → times v ids ≤ 1
unfolding times
tail_apart x ids once v = (let l = once v in omega (arith, l))

behind_more : (p : Declarations) (x : ℕ) (ks ls : List ℕ) → Among ks ls →
    Among (known_behind p x ks) (known_behind p x ls)
behind_more p x ks ls h = go (is_some (variable_at p.nodes x))
  where
    go : (t : Bool) → Among (if t then x ∷ ks else ks) (if t then x ∷ ls else ls)
    go false v a = h v a
    go true v a = elim (or_cases (v == x) (is_among v ks) a) as (λ z. is_among v (x ∷ ls) ≡ true)
        [ inl e ↦ or_left (v == x) (is_among v ls) e | inr e ↦ or_right (v == x) (is_among v ls) (h v e) ]

module _ (forest : Forest) (accepted : IsAccepted forest) (whole : IsForest forest) (sorted : IsWellSorted forest.nodes)
  where
    abbrev p : Declarations
    p = declarations_of forest

    abbrev nodes : List Node
    nodes = forest.nodes

    -- ---- what is known at a node

    -- what is known is told by the last variable
    pub same_last : (x y : ℕ) → (context p x).last ≡ (context p y).last →
        Among (known_variables p x) (known_variables p y)
    unfolding known_variables
    same_last x y e v h =
        sym
        (ap
        (λ (o : Option ℕ). is_among v
        (elim o as (λ _. List ℕ) [ None ↦ [] | Some last ↦ chain (variable_before p) (length p.nodes) last ])) e) ∙ h

    -- each node of a row knows what the row declares before it, besides what was known
    abbrev pub Follow : Option ℕ → List ℕ → Type 0
    Follow last [] = Unit {0}
    Follow last (x ∷ xs) =
        ((context p x).last ≡ last) × Follow (if is_some (variable_at nodes x) then Some x else last) xs

    follow : (last : Option ℕ) (xs : List ℕ) → ((x : ℕ) → times x xs ≤ 1) →
        ((x : ℕ) → is_among x xs ≡ true → (context p x).last ≡ last_variable nodes last (those_before x xs)) →
        Follow last xs
    unfolding last_variable
    follow last [] once h = tt
    follow last (x ∷ xs) once h = (
      h x (or_left (x == x) (is_among x xs) (is_same_number x x refl))
          ∙ ap (last_variable nodes last) (before_same x x xs (is_same_number x x refl)),
      follow (if is_some (variable_at nodes x) then Some x else last) xs (tail_apart x xs once)
          (λ v a. h v (or_right (v == x) (is_among v xs) a)
          ∙ ap (last_variable nodes last) (before_other v x xs (not_head x v xs (once v) a))),
    )

    -- the children of a node that declares in a row
    pub row_follows : (id : ℕ) (node : Node) (xs : List ℕ) → slice_get nodes id ≡ Some node → children node ≡ xs →
        ((x : ℕ) → declared_before nodes node x ≡ those_before x xs) → Follow (context p id).last xs
    unfolding child_context
    row_follows id node xs there are declares =
        follow (context p id).last xs
        (λ x. subst (λ ids. times x ids ≤ 1) are (children_apart forest whole id node there x))
        (λ x among. ap (λ c. c.last) (child_context_is forest whole id x node there (ap (is_among x) are ∙ among))
        ∙ ap (last_variable nodes (context p id).last) (declares x))

    -- what is known behind x, where x knows what y knows
    pub known_after : (x y z : ℕ) → (context p x).last ≡ (context p y).last →
        (context p z).last ≡ (if is_some (variable_at nodes x) then Some x else (context p y).last) →
        Among (known_variables p z) (known_behind p x (known_variables p y))
    known_after x y z e h v a =
        behind_more p x (known_variables p x) (known_variables p y) (same_last x y e) v
        (known_next forest whole x z
        (h ∙ ap (λ (o : Option ℕ). if is_some (variable_at nodes x) then Some x else o) (sym e)) v a)

    -- ---- a statement below a statement

    pub statement_child : (b c id x : ℕ) (node : Node) → slice_get nodes id ≡ Some node → Inside p b c id →
        is_inner node ≡ true → is_among x (children node) ≡ true → Of is_statement nodes x → IsStatement p b c x
    unfolding declarations_of
    statement_child b c id x node there inside inner among o =
        record {
          node = o.node;
          is_there = o.is_there;
          is_statement = o.passes;
          inside = inside_child forest whole
              accepted b c id x node o.node inside there inner among o.is_there;
        }

    -- one before which nothing is declared
    pub statement_below : (b c id x : ℕ) (node : Node) → slice_get nodes id ≡ Some node → Inside p b c id →
        is_inner node ≡ true → is_among x (children node) ≡ true → Of is_statement nodes x →
        declared_before nodes node x ≡ [] → HasStatement p b c id x
    statement_below b c id x node there inside inner among o none =
        let s = statement_child b c id x node there inside inner among o in (
          record {
            smaller = child-less forest whole id x node there among;
            inside = s.inside;
            known = known_same forest
                whole id x node there among none;
          },
          s,
        )

    -- ---- blocks

    abbrev AllBelow : ℕ → ℕ → ℕ → List ℕ → Type 0
    AllBelow b c id [] = Unit {0}
    AllBelow b c id (x ∷ xs) = (x < id) × IsStatement p b c x × AllBelow b c id xs

    all_below : (b c id : ℕ) (xs : List ℕ) → AllOf is_statement nodes xs →
        ((x : ℕ) → is_among x xs ≡ true → Of is_statement nodes x → (x < id) × IsStatement p b c x) → AllBelow b c id xs
    all_below b c id [] all h = tt
    all_below b c id (x ∷ xs) all h =
        let q = h x (or_left (x == x) (is_among x xs) (is_same_number x x refl)) all.0 in
        (q.0, q.1, all_below b c id xs all.1 (λ y a. h y (or_right (y == x) (is_among y xs) a)))

    in_row : (b c id : ℕ) (xs known : List ℕ) (last : Option ℕ) → Follow last xs →
        ((x : ℕ) → (context p x).last ≡ last → Among (known_variables p x) known) → AllBelow b c id xs →
        HaveStatements p b c id known xs
    in_row b c id [] known last f h all = tt
    in_row b c id (x ∷ xs) known last f h all = (
      record { smaller = all.0; is = all.1; known = h x f.0 },
      in_row b c id xs (known_behind p x known) (if is_some (variable_at nodes x) then Some x else last) f.1 next all.2,
    )
      where
        next : (y : ℕ) → (context p y).last ≡ (if is_some (variable_at nodes x) then Some x else last) →
            Among (known_variables p y) (known_behind p x known)
        next y e v a =
            behind_more p x (known_variables p x) known (h x f.0) v
            (known_next forest whole x y
            (e ∙ ap (λ (o : Option ℕ). if is_some (variable_at nodes x) then Some x else o) (sym f.0)) v a)

    -- the statements of a block
    pub block_statements : (b c id : ℕ) (position : Position) (statements : List ℕ) →
        slice_get nodes id ≡ Some (Block position statements) → Inside p b c id →
        HaveStatements p b c id (known_variables p id) statements
    unfolding HasRightChildren children declared_before is_inner
    block_statements b c id position statements there inside =
        let node : Node = Block position statements in
        in_row b c id statements (known_variables p id) (context p id).last
        (row_follows id node statements there refl (λ x. refl)) (λ x e. same_last x id e)
        (all_below b c id statements (sorted.each id node there)
        (λ x among o. (
          child-less forest whole id x node there among,
          statement_child b c id x node there inside refl among o,
        )))
