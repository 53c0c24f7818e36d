-- Forests keep their shape when a node or a file is put last.
use Rattle.std.proofs.Common.{◌≡◌, ℕ, ◌+◌, ◌<◌, ◌≤◌, ◌^◌, zero, suc, List, [], ◌∷◌, ◌++◌, length, refl, sym, ap, ◌∙◌, arith, take, slice_get, Some, zero-add, add-zero, append_assoc, length-append, append-nil, subst}
use Rattle.std.proofs.lemmas.List.{take_more}
use Rattle.std.proofs.lemmas.Option.{slice_get_within, get_or_from_slice_get}
use Rattle.scj_tree.specs.declared.nodes.Node.{Node}
use Rattle.scj_tree.specs.Shape.{children}
use Rattle.scj_tree.specs.Counts.{times}
use Rattle.scj_tree.specs.Forest.{Forest, joined, all_children, placed, AllBelow, ChildrenFirst, AllClasses, IsForest, HasFreshChildren, AreFreshClasses, with_node, with_file}

pub times-append : (x : ℕ) (xs ys : List ℕ) → times x (xs ++ ys) ≡ times x xs + times x ys
unfolding times
times-append x [] ys = sym (zero-add (times x ys))
times-append x (y ∷ xs) ys = omega (arith, times-append x xs ys)

pub all_children-append : (ns ms : List Node) → all_children (ns ++ ms) ≡ all_children ns ++ all_children ms
unfolding all_children
all_children-append [] ms = refl
all_children-append (n ∷ ns) ms = ap (λ t. children n ++ t) (all_children-append ns ms)
    ∙ sym (append_assoc (children n) (all_children ns) (all_children ms))

pub joined-append : (xss yss : List (List ℕ)) → joined (xss ++ yss) ≡ joined xss ++ joined yss
unfolding joined
joined-append [] yss = refl
joined-append (xs ∷ xss) yss = ap (λ t. xs ++ t) (joined-append xss yss)
    ∙ sym (append_assoc xs (joined xss) (joined yss))

-- one file's classes more
pub joined_more : (files : List (List ℕ)) (i : ℕ) (classes ids : List ℕ) → slice_get files i ≡ Some classes →
    ids ≡ joined (take i files) → ids ++ classes ≡ joined (take (i + 1) files)
unfolding joined
joined_more files i classes ids h e =
    rw e (sym (ap joined (take_more files i classes (slice_get_within files i classes h)
    ∙ ap (λ t. take i files ++ t ∷ []) (get_or_from_slice_get files i classes classes h))
    ∙ joined-append (take i files) (classes ∷ []) ∙ ap (λ t. joined (take i files) ++ t) (append-nil classes)))

pub ChildrenFirst-push : (from : ℕ) (ns : List Node) (node : Node) → ChildrenFirst from ns →
    AllBelow (from + length ns) (children node) → ChildrenFirst from (ns ++ node ∷ [])
unfolding ChildrenFirst
ChildrenFirst-push from [] node h below =
    let e : from + 0 ≡ from = add-zero from in
    (let P : ℕ → Type 0 = λ n. AllBelow n (children node) in subst P e below, tt)
ChildrenFirst-push from (n ∷ ns) node h below =
    let e : from + suc (length ns) ≡ (from + 1) + length ns = omega arith in (
      h.0,
      ChildrenFirst-push (from + 1) ns node h.1 (let P : ℕ → Type 0 = λ m. AllBelow m (children node) in
          subst P e below),
    )

get-append : (ns ms : List Node) (x : ℕ) (node : Node) → slice_get ns x ≡ Some node → slice_get (ns ++ ms) x ≡ Some node
get-append [] ms x node h = cc
get-append (n ∷ ns) ms zero node h = h
get-append (n ∷ ns) ms (suc x) node h = get-append ns ms x node h

pub AllClasses-more : (ns ms : List Node) (ids : List ℕ) → AllClasses ns ids → AllClasses (ns ++ ms) ids
unfolding AllClasses
AllClasses-more ns ms [] h = tt
AllClasses-more ns ms (x ∷ ids) h = ((h.0.0, get-append ns ms x h.0.0 h.0.1, h.0.2), AllClasses-more ns ms ids h.1)

pub AllClasses-append : (ns : List Node) (xs ys : List ℕ) → AllClasses ns xs → AllClasses ns ys →
    AllClasses ns (xs ++ ys)
unfolding AllClasses
AllClasses-append ns [] ys h k = k
AllClasses-append ns (x ∷ xs) ys h k = (h.0, AllClasses-append ns xs ys h.1 k)

pub empty_forest : IsForest (record { nodes = []; files = [] })
unfolding joined all_children ChildrenFirst AllClasses times
empty_forest =
    record { children_first = tt; one_place = λ x. omega arith; classes = tt; fits = omega arith; few = omega arith }

one_place-with_node : (x : ℕ) (forest : Forest) (node : Node) → times x (children node) + times x (placed forest) ≤ 1 →
    times x (placed (with_node forest node)) ≤ 1
unfolding times all_children
one_place-with_node x forest node free =
    let old = times-append x (joined forest.files) (all_children forest.nodes) in
    let new = times-append x (joined forest.files) (all_children (forest.nodes ++ node ∷ [])) in
    let more : times x (all_children (forest.nodes ++ node ∷ [])) ≡ times x (all_children forest.nodes) + times x
    (children node) =
    ap (times x) (all_children-append forest.nodes (node ∷ []))
    ∙ times-append x (all_children forest.nodes) (children node ++ [])
    ∙ ap (λ (t : ℕ). times x (all_children forest.nodes) + t) (times-append x (children node) [] ∙ add-zero _) in
    omega (arith, old, new, more, free)

one_place-with_file : (x : ℕ) (forest : Forest) (ids : List ℕ) → times x ids + times x (placed forest) ≤ 1 →
    times x (placed (with_file forest ids)) ≤ 1
unfolding times joined
one_place-with_file x forest ids free =
    let old = times-append x (joined forest.files) (all_children forest.nodes) in
    let new = times-append x (joined (forest.files ++ ids ∷ [])) (all_children forest.nodes) in
    let more : times x (joined (forest.files ++ ids ∷ [])) ≡ times x (joined forest.files) + times x ids =
    ap (times x) (joined-append forest.files (ids ∷ [])) ∙ times-append x (joined forest.files) (ids ++ [])
    ∙ ap (λ (t : ℕ). times x (joined forest.files) + t) (times-append x ids [] ∙ add-zero _) in
    omega (arith, old, new, more, free)

AllClasses-joined-push : (nodes : List Node) (files : List (List ℕ)) (ids : List ℕ) → AllClasses nodes (joined files) →
    AllClasses nodes ids → AllClasses nodes (joined (files ++ ids ∷ []))
unfolding joined
AllClasses-joined-push nodes files ids h k =
    let whole : joined (files ++ ids ∷ []) ≡ joined files ++ ids = joined-append files (ids ∷ [])
    ∙ ap (λ (t : List ℕ). joined files ++ t) (append-nil ids) in
    rw whole (AllClasses-append nodes (joined files) ids h k)

pub IsForest-with_node : (forest : Forest) (node : Node) → IsForest forest → HasFreshChildren forest node →
    length forest.nodes + 1 < 2 ^ 32 → IsForest (with_node forest node)
unfolding all_children
IsForest-with_node forest node h fresh room =
    record {
      children_first =
          ChildrenFirst-push 0 forest.nodes node h.children_first
          (let e : length forest.nodes ≡ 0 + length forest.nodes = sym (zero-add _) in
          let P : ℕ → Type 0 = λ n. AllBelow n (children node) in
          subst P e fresh.earlier);
      one_place = λ x. one_place-with_node x forest node (fresh.free x);
      classes = AllClasses-more forest.nodes (node ∷ []) _ h.classes;
      fits = rw length-append (omega (arith, room));
      few = h.few;
    }

pub IsForest-with_file : (forest : Forest) (ids : List ℕ) → IsForest forest → AreFreshClasses forest ids →
    length forest.files < 16 → IsForest (with_file forest ids)
unfolding joined
IsForest-with_file forest ids h fresh room =
    record {
      children_first = h.children_first;
      one_place = λ x. one_place-with_file x forest ids (fresh.free x);
      classes = AllClasses-joined-push forest.nodes forest.files ids h.classes fresh.classes;
      fits = h.fits;
      few = rw length-append (omega (arith, room));
    }
