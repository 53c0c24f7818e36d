-- The contexts of the nodes of a forest, parent after parent from the last one down, and child after child.
use Rattle.std.proofs.Common.{◌≡◌, ◌≢◌, ℕ, ◌+◌, ◌<◌, ◌≤◌, ◌==◌, List, [], ◌∷◌, ◌++◌, length, set, refl, sym, ap, ◌∙◌, subst, arith, Option, Some, None, Bool, true, false, ◌||◌, if◌then◌else◌, slice_get, replicate, is_some, append_assoc, ◌⊎◌, ⊎_elim}
use Rattle.std.proofs.lemmas.Bool.{cases_Bool, cases_eq, cases_lt, eq-eqb, ne_eqb, true≢false}
use Rattle.std.proofs.lemmas.Bool.Decides.{nat_tests}
use Rattle.std.proofs.lemmas.List.{get_or-replicate, get_or-set_same, get_or-set_other, length-replicate, length-set, ext_get_or}
use Rattle.std.proofs.lemmas.Option.{slice_get_within, same_Some}
use Rattle.scj_tree.specs.declared.nodes.Node.{Node}
use Rattle.scj_tree.specs.Counts.{times}
use Rattle.scj_tree.specs.Forest.{Forest, IsForest, joined}
use Rattle.scj_tree.specs.Shape.{children}
use Rattle.scj_tree.specs.Recursion.{lookup}
use Rattle.scj_tree.proofs.RecursionLemmas.{length-top_down}
use Rattle.scj_rules.specs.Definitions.{read}
use Rattle.scj_rules.specs.Words.{is_among}
use Rattle.scj_rules.specs.Views.{variable_at}
use Rattle.scj_rules.specs.Contexts.{outermost, parent_in, child_context, context_of, contexts_in, object_of, last_variable, declared_before, those_before, parameter_nodes}
use Rattle.scj_rules.specs.declared.contexts.Context.{Context}
use Rattle.scj_rules.proofs.InScopeLemmas.{before-same, before-other}
use Rattle.scj_rules.proofs.ParentLemmas.{child-is, child-less, children_apart, no-parent, parent-is, times-among}
use Rattle.scj_rules.proofs.WithinLemmas.{position-below}
use Rattle.node_contexts.specs.declared.kinds.Difference.{Difference}
use Rattle.node_contexts.specs.declared.kinds.Difference.TheVariants.{Nothing, InTurn, Parameters, Object}
use Rattle.node_contexts.specs.declared.rows.Family.{Family}
use Rattle.node_contexts.specs.Steps.{declared_by, declared_behind, last_at, last_behind, object_in, of_child, shared, AreReported, AreSpread}

-- ---- parent after parent

module _ (forest : Forest) (whole : IsForest forest) where
  abbrev nodes : List Node
  nodes = forest.nodes

  abbrev all : List Context
  all = contexts_in forest

  -- the context of a node whose parents are done
  pub own : (k : ℕ) (node : Node) (rows : List Context) → slice_get nodes k ≡ Some node → AreReported forest (k + 1) [] rows
      → lookup outermost rows k ≡ lookup outermost all k
  own k node rows there t =
      t.exact k (slice_get_within nodes k node there)
      (λ q e. let is = parent-is forest whole k q e node in
      omega (arith, child-less forest whole q k is.node is.there is.among)) refl

  -- a parent more, before its children
  pub begun : (k : ℕ) (node : Node) (rows : List Context) → slice_get nodes k ≡ Some node →
      AreReported forest (k + 1) [] rows → AreReported forest k (children node) rows
  begun k node rows there t =
      record { whole = t.whole; exact = λ id l above other. t.exact id l (λ q e. later id q other e (above q e)) refl }
    where
      later : (id q : ℕ) → is_among id (children node) ≡ false → parent_in nodes id ≡ Some q → k ≤ q → k + 1 ≤ q
      later id q other e up =
          let is = parent-is forest whole id q e node in
          let apart : q ≡ k → ⊥ = λ same. (
          let one : is.node ≡ node = same_Some is.node node (sym is.there ∙ ap (slice_get nodes) same ∙ there) in
          true≢false (sym (ap (λ n. is_among id (children n)) (sym one) ∙ is.among) ∙ other)) in
          ⊎_elim (λ (l : k < q). omega (arith, l)) (λ (l : q ≤ k). absurd (apart (omega (arith, l, up)))) (cases_lt k q)

  pub started : (rows : List Context) → rows ≡ replicate (length nodes) outermost →
      AreReported forest (length nodes) [] rows
  unfolding parent_in
  started rows e =
      record {
        whole = ap length e ∙ length-replicate (length nodes) outermost;
        exact = λ id l above h. ap (λ rs. lookup outermost rs id) e
            ∙ get_or-replicate (length nodes) id outermost outermost l
            ∙ sym (none id l above (parent_in nodes id) refl);
      }
    where
      none : (id : ℕ) → id < length nodes → ((q : ℕ) → parent_in nodes id ≡ Some q → length nodes ≤ q) → (o : Option ℕ)
          → parent_in nodes id ≡ o → lookup outermost all id ≡ outermost
      none id l above None f = no-parent forest whole id l f
      none id l above (Some q) f =
          absurd (omega (arith, above q f, position-below (λ (n : Node). is_among id (children n)) nodes q f))

  pub ended : (rows : List Context) → AreReported forest 0 [] rows → rows ≡ contexts_in forest
  unfolding contexts_in
  ended rows t =
      ext_get_or outermost rows all
      (t.whole ∙ sym (length-top_down outermost (context_of nodes (joined forest.files)) 0 (length nodes)))
      (λ j l. t.exact j (omega (arith, l, t.whole)) (λ q e. omega arith) refl)

-- ---- child after child

-- before the first child
pub spread_first : (forest : Forest) → IsForest forest → (parent : ℕ) (node : Node) (family : Family) (rest : List ℕ)
    (known : Option ℕ) (above : Context) (rows : List Context) → slice_get forest.nodes parent ≡ Some node →
    AreReported forest (parent + 1) [] rows → family.base ≡ shared (joined forest.files) parent node above →
    above ≡ lookup outermost rows parent → object_in family.difference ≡ object_of node →
    ((child : ℕ) → declared_before forest.nodes node child ≡ declared_by forest.nodes (children node) family.difference
    child) → rest ≡ children node → known ≡ last_variable forest.nodes family.base.last
    (declared_behind forest.nodes family.difference []) → AreSpread forest parent node family rest known rows
spread_first forest whole parent node family rest known above rows there t b a o k e l =
    record {
      shared = record {
        whole = whole;
        there = there;
        base = b ∙ ap (shared (joined forest.files) parent node) (a ∙ own forest whole parent node rows there t);
        object = o;
        known = k;
      };
      done = [];
      parts = e;
      is_last = l;
      reported = subst (λ ids. AreReported forest parent ids rows) (sym e) (begun forest whole parent node rows there t);
    }

among-middle : (done rest : List ℕ) (c : ℕ) → is_among c (done ++ c ∷ rest) ≡ true
among-middle [] rest c = grind (arith, nat_tests)
among-middle (x ∷ done) rest c = grind (arith, nat_tests, among-middle done rest c)

-- the children before one
those_before-at : (done rest : List ℕ) (c : ℕ) → times c (done ++ c ∷ rest) ≤ 1 →
    those_before c (done ++ c ∷ rest) ≡ done
unfolding times
those_before-at [] rest c once = before-same c c rest (eq-eqb c c refl)
those_before-at (x ∷ done) rest c once =
    let inside : 1 ≤ times c (done ++ c ∷ rest) = times-among c (done ++ c ∷ rest) (among-middle done rest c) in
    ⊎_elim (λ (same : (c == x) ≡ true). let once' = rw same at once in absurd (omega (arith, once', inside)))
    (λ (other : (c == x) ≡ false).
    let apart : (x == c) ≡ false = grind (arith, nat_tests) in
    let later : times c (done ++ c ∷ rest) ≤ 1 = omega (arith, once) in
    before-other c x (done ++ c ∷ rest) apart ∙ ap (λ ids. x ∷ ids) (those_before-at done rest c later))
    (cases_Bool (c == x))

last_variable-push : (arena : List Node) (known : Option ℕ) (ids : List ℕ) (x : ℕ) →
    last_variable arena known
    (ids ++ x ∷ []) ≡ (if is_some (variable_at arena x) then Some x else last_variable arena known ids)
unfolding last_variable
last_variable-push arena known [] x = refl
last_variable-push arena known (y ∷ ids) x =
    last_variable-push arena (if is_some (variable_at arena y) then Some y else known) ids x

-- the last variable behind a child, and at it
behind-is : (arena : List Node) (d : Difference) (done : List ℕ) (before known : Option ℕ) (child : ℕ) →
    known ≡ last_variable arena before (declared_behind arena d done)
    → last_behind arena d known child ≡ last_variable arena before (declared_behind arena d (done ++ child ∷ []))
behind-is arena InTurn done before known child k =
    ap (λ (o : Option ℕ). if is_some (variable_at arena child) then Some child else o) k
    ∙ sym (last_variable-push arena before done child)
behind-is arena _ done before known child k = k

at-is : (arena : List Node) (d : Difference) (ids done : List ℕ) (before known : Option ℕ) (child : ℕ) →
    known ≡ last_variable arena before (declared_behind arena d done) → those_before child ids ≡ done
    → last_at d before known child ≡ last_variable arena before (declared_by arena ids d child)
unfolding last_variable
at-is arena InTurn ids done before known child k b = k ∙ ap (last_variable arena before) (sym b)
at-is arena Nothing ids done before known child k b = k
at-is arena (Object object) ids done before known child k b = k
at-is arena (Parameters list) ids done before known child k b = go (child == list)
  where
    go : (b : Bool) → (if b then before else known) ≡ last_variable arena before (if b then [] else
        (elim (read arena parameter_nodes list) as (λ _. List ℕ) [ None ↦ [] | Some parameters ↦ parameters ]))
    go true = refl
    go false = k

-- the context of a child, from what all children share
child-from : (arena : List Node) (classes : List ℕ) (parent : ℕ) (node : Node) (above base : Context)
    (object : Option ℕ) (known : List ℕ) (child : ℕ)
    → base ≡ shared classes parent node above → object ≡ object_of node → known ≡ declared_before arena node child
    → of_child base object (last_variable arena base.last known) child ≡ child_context arena classes parent node above
    child
unfolding child_context shared
child-from arena classes parent node above base object known child e f g = rw (e, f, g) refl

-- a child more
pub spread_next : (forest : Forest) (parent : ℕ) (node : Node) (family : Family) (rest : List ℕ)
    (known next : Option ℕ) (rows : List Context) (child : ℕ) (row : Context)
    → row ≡ of_child family.base (object_in family.difference) (last_at family.difference family.base.last known child)
    child → next ≡ last_behind forest.nodes family.difference known child → child < length rows
    → AreSpread forest parent node family (child ∷ rest) known rows
    → AreSpread forest parent node family rest next (set rows child row)
spread_next forest parent node family rest known next rows child row e f l s =
    record {
      shared = s.shared;
      done = s.done ++ child ∷ [];
      parts = append_assoc s.done (child ∷ []) rest ∙ s.parts;
      is_last = f ∙ behind-is forest.nodes family.difference s.done family.base.last known child s.is_last;
      reported = record {
        whole = length-set rows child row ∙ s.reported.whole;
        exact = λ id m above other. at id m above other (cases_eq id child);
      };
    }
  where
    once : times child (s.done ++ child ∷ rest) ≤ 1
    once = subst (λ ids. times child ids ≤ 1) (sym s.parts)
        (children_apart forest s.shared.whole parent node s.shared.there child)

    among : is_among child (children node) ≡ true
    among = ap (is_among child) (sym s.parts) ∙ among-middle s.done rest child

    value : row ≡ lookup outermost (contexts_in forest) child
    value = e ∙ ap (λ (o : Option ℕ). of_child family.base (object_in family.difference) o child)
        (at-is forest.nodes family.difference (children node) s.done family.base.last known child s.is_last
        (ap (those_before child) (sym s.parts) ∙ those_before-at s.done rest child once))
        ∙ child-from forest.nodes (joined forest.files) parent node (lookup outermost (contexts_in forest) parent)
        family.base (object_in family.difference) (declared_by forest.nodes (children node) family.difference child)
        child s.shared.base s.shared.object (sym (s.shared.known child))
        ∙ sym (child-is forest s.shared.whole parent child node s.shared.there among)

    at : (id : ℕ) → id < length forest.nodes → ((q : ℕ) → parent_in forest.nodes id ≡ Some q → parent ≤ q) →
        is_among id rest ≡ false → (id ≡ child) ⊎ (id ≢ child) →
        lookup outermost (set rows child row) id ≡ lookup outermost (contexts_in forest) id
    at id m above other =
        ⊎_elim (λ (same : id ≡ child). ap (lookup outermost (set rows child row)) same
        ∙ get_or-set_same rows child row outermost l ∙ value ∙ ap (lookup outermost (contexts_in forest)) (sym same))
        (λ (apart : id ≢ child). get_or-set_other rows child id row outermost apart
        ∙ s.reported.exact id m above (ap (λ b. b || is_among id rest) (ne_eqb id child apart) ∙ other))
