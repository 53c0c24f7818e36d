-- Classes and their nodes: a member of a class is one of the members that are written in it, and a class of a number
-- has one node and one row.
use Rattle.std.proofs.Common.{◌≡◌, ℕ, ◌+◌, ◌<◌, zero, suc, List, [], ◌∷◌, ◌++◌, length, map, filter_map, position, refl, sym, ap, ◌∙◌, subst, Option, Some, None, Bool, true, false, true≢false, inl, inr, ◌==◌, option_and_then, option_map, slice_get}
use Rattle.std.specs.List.{cons_option}
use Rattle.std.proofs.lemmas.Option.{slice_get_within}
use Rattle.scj_builtins.specs.Framework.{framework_classes}
use Rattle.scj_base.specs.declared.positions.Position.{Position}
use Rattle.scj_tree.specs.declared.nodes.Node.{Node}
use Rattle.scj_tree.specs.declared.nodes.Node.TheVariants.{Class, Flags, Supers}
use Rattle.scj_tree.specs.Forest.{Forest, IsForest, IsClass, is_class, AllClasses, joined}
use Rattle.scj_tree.specs.Shape.{children, optional}
use Rattle.scj_rules.specs.Words.{is_among, or_else}
use Rattle.scj_rules.specs.Views.{WrittenClass, class_at, class_of}
use Rattle.scj_rules.specs.Classes.{ClassRow, first_user_class, framework_rows_from, user_row, user_classes, class_names, written_rows}
use Rattle.scj_rules.specs.Contexts.{Declarations, declarations_of, outermost, context, child_context, is_member, number_of_class, parent_in}
use Rattle.scj_rules.specs.Bodies.{class_node, class_of_body}
use Rattle.scj_rules.specs.Phases.{IsAccepted}
use Rattle.scj_rules.proofs.ChainLemmas.{among-cases, or_cases, same_number}
use Rattle.scj_rules.proofs.ParentLemmas.{parent-is, no-parent}
use Rattle.accepted_laws.specs.Sorts.{Of, OptionOf, HasRightChildren, IsWellSorted, is_flags, is_header}
use Rattle.accepted_laws.proofs.Children.{class_outermost, parent_of_member}
use Rattle.accepted_laws.proofs.ClassNumbers.{UserClass, user_class_is, framework_count, no_class_number}
use Rattle.accepted_laws.proofs.Contexts.{child_context_is}
use Rattle.accepted_laws.proofs.InnerNodes.{is_no_class, member_no_class}
use Rattle.accepted_laws.proofs.Positions.{get_right, get_map}
use Rattle.accepted_laws.proofs.Rows.{counted_is_written}
use Rattle.accepted_laws.proofs.Tools.{some_inj}
use Rattle.accepted_nodes.proofs.Slots.{position_stands}

made_class : (nodes : List Node) (x : ℕ) (node : Node) → IsClass node → (c : WrittenClass) ×
    (class_of nodes x node ≡ Some c) × (c.node ≡ x)
unfolding class_of
made_class nodes x _ is_class = (_, refl, refl)

nodes_of_classes : (nodes : List Node) (ids : List ℕ) → AllClasses nodes ids →
    map (λ (c : WrittenClass). c.node) (filter_map (class_at nodes) ids) ≡ ids
unfolding AllClasses
nodes_of_classes nodes [] all = refl
nodes_of_classes nodes (x ∷ ids) all =
    let k = made_class nodes x all.0.0 all.0.2 in
    ap (λ (o : Option WrittenClass). map (λ (c : WrittenClass). c.node)
    (cons_option o (filter_map (class_at nodes) ids))) (ap (option_and_then (class_of nodes x)) all.0.1 ∙ k.1)
    ∙ ap (λ n. n ∷ map (λ (c : WrittenClass). c.node) (filter_map (class_at nodes) ids)) k.2
    ∙ ap (λ ns. x ∷ ns) (nodes_of_classes nodes ids all.1)

mapped_get : {A B : Type 0} (f : A → B) (xs : List A) (j : ℕ) (y : B) → slice_get (map f xs) j ≡ Some y →
    (x : A) × (slice_get xs j ≡ Some x) × (f x ≡ y)
mapped_get f [] j y e = absurd (cc (e))
mapped_get f (x ∷ xs) zero y e = (x, refl, some_inj (f x) y e)
mapped_get f (x ∷ xs) (suc j) y e = mapped_get f xs j y e

none_or : {A : Type 0} (o : Option A) (x : A) → or_else o None ≡ Some x → o ≡ Some x
none_or None x e = absurd (cc (e))
none_or (Some y) x e = e

module _ (forest : Forest) (accepted : IsAccepted forest) (whole : IsForest forest) (sorted : IsWellSorted forest.nodes)
  where
    abbrev p : Declarations
    p = declarations_of forest

    abbrev nodes : List Node
    nodes = forest.nodes

    pub users_nodes : map (λ (c : WrittenClass). c.node) p.users ≡ joined forest.files
    unfolding declarations_of user_classes
    users_nodes = nodes_of_classes nodes (joined forest.files) whole.classes

    -- the class of a number, its node and its row
    pub record ClassAt (c k : ℕ) : Type 0 where
      pub class : WrittenClass
      pub row : ClassRow
      pub is_row : slice_get p.classes c ≡ Some row
      pub of_class : row ≡ user_row p.nodes (class_names p.users) class
      pub written : row.written ≡ Some class
      pub node : class.node ≡ k
      pub user : UserClass forest c class

    row_at : (c j : ℕ) (w : WrittenClass) → c ≡ first_user_class + j → slice_get p.users j ≡ Some w →
        slice_get p.classes c ≡ Some (user_row p.nodes (class_names p.users) w)
    unfolding declarations_of written_rows
    row_at c j w n e =
        ap (λ rows. slice_get rows c) (counted_is_written forest accepted)
        ∙ ap (slice_get p.written) (n ∙ ap (λ m. m + j) (sym framework_count))
        ∙ get_right (framework_rows_from 0 framework_classes)
        (map (user_row nodes (class_names (user_classes forest))) (user_classes forest)) j
        (user_row nodes (class_names (user_classes forest)) w)
        (get_map (user_row nodes (class_names (user_classes forest))) (user_classes forest) j w e)

    user_written : (w : WrittenClass) → (user_row p.nodes (class_names p.users) w).written ≡ Some w
    unfolding user_row
    user_written w = refl

    pub class_numbered : (c k : ℕ) → number_of_class (joined forest.files) k ≡ Some c → ClassAt c k
    unfolding number_of_class
    class_numbered c k e = go (position (λ other. k == other) (joined forest.files)) refl e
      where
        go : (o : Option ℕ) → position (λ other. k == other) (joined forest.files) ≡ o →
            option_map (λ k. first_user_class + k) o ≡ Some c → ClassAt c k
        go None h e = absurd (cc (e))
        go (Some j) h e =
            let number : c ≡ first_user_class + j = sym (some_inj (first_user_class + j) c e) in
            let w =
            mapped_get (λ (c : WrittenClass). c.node) p.users j k (ap (λ ids. slice_get ids j) users_nodes
            ∙ position_stands k (joined forest.files) j h) in
            let row = row_at c j w.0 number w.1 in
            record {
              class = w.0;
              row = user_row p.nodes (class_names p.users) w.0;
              is_row = row;
              of_class = refl;
              written = user_written w.0;
              node = w.2;
              user = user_class_is forest whole accepted sorted c _ w.0 row (user_written w.0);
            }

    -- ---- members

    -- the class in which a member stands, with the member among its members
    pub record MemberAt (b c : ℕ) : Type 0 where
      pub k : ℕ
      pub at : ClassAt c k
      pub among : is_among b at.class.members ≡ true

    member_of_children : (b : ℕ) (node : Node) (flags header : Option ℕ) (members : List ℕ) →
        slice_get nodes b ≡ Some node → is_member node ≡ true → OptionOf is_flags nodes flags →
        OptionOf is_header nodes header → is_among b (optional flags ++ (optional header ++ members)) ≡ true →
        is_among b members ≡ true
    unfolding is_member is_flags is_header
    member_of_children b node flags header members there member f h among =
        elim (among-cases b (optional flags) (optional header ++ members) among) as (λ z. is_among b members ≡ true) [
          | inl e ↦ absurd (not_flags flags f e)
          | inr e ↦ elim (among-cases b (optional header) members e) as (λ z. is_among b members ≡ true)
              [ inl e ↦ absurd (not_header header h e) | inr e ↦ e ]
        ]
      where
        flags_no_member : (n : Node) → is_flags n ≡ true → is_member n ≡ true → ⊥
        flags_no_member (Flags place define_scope scope runs_in is_static is_abstract is_synchronized) e m =
            true≢false (sym m)
        flags_no_member _ e m = true≢false (sym e)

        header_no_member : (n : Node) → is_header n ≡ true → is_member n ≡ true → ⊥
        header_no_member (Supers place superclass interfaces) e m = true≢false (sym m)
        header_no_member _ e m = true≢false (sym e)

        same : (test : Node → Bool) (x : ℕ) → Of test nodes x → (b == x) ≡ true → test node ≡ true
        same test x o e =
            ap test (some_inj node o.node (sym there ∙ ap (slice_get nodes) (same_number b x e) ∙ o.is_there)) ∙ o.passes

        one : (x : ℕ) → is_among b (x ∷ []) ≡ true → (b == x) ≡ true
        one x e = elim (or_cases (b == x) (is_among b []) e) as (λ z. (b == x) ≡ true)
            [ inl s ↦ s | inr s ↦ absurd (true≢false (sym s)) ]

        not_flags : (o : Option ℕ) → OptionOf is_flags nodes o → is_among b (optional o) ≡ true → ⊥
        not_flags None f e = true≢false (sym e)
        not_flags (Some x) f e = flags_no_member node (same is_flags x f (one x e)) member

        not_header : (o : Option ℕ) → OptionOf is_header nodes o → is_among b (optional o) ≡ true → ⊥
        not_header None f e = true≢false (sym e)
        not_header (Some x) f e = header_no_member node (same is_header x f (one x e)) member

    no_parent_is : (x : ℕ) → x < length nodes → parent_in nodes x ≡ None → context p x ≡ outermost
    unfolding declarations_of
    no_parent_is x l q = no-parent forest whole x l q

    in_members : (b k : ℕ) (node : Node) (place : Position) (name : List ℕ) (flags header : Option ℕ) (members : List ℕ) →
        slice_get nodes b ≡ Some node → is_member node ≡ true →
        slice_get nodes k ≡ Some (Class place name flags header members) →
        is_among b (children (Class place name flags header members)) ≡ true → is_among b members ≡ true
    unfolding children HasRightChildren
    in_members b k node place name flags header members there member at among =
        (let s = sorted.each k (Class place name flags header members) at in
        member_of_children b node flags header members there member s.0 s.1 among)

    pub member_at : (b c : ℕ) (node : Node) → slice_get nodes b ≡ Some node → is_member node ≡ true →
        class_of_body p b ≡ Some c → MemberAt b c × ((context p b).class ≡ Some c)
    unfolding class_of_body child_context
    member_at b c node there member e = go (parent_in nodes b) refl
      where
        none : number_of_class (map (λ (c : WrittenClass). c.node) p.users) b ≡ None
        none = ap (λ ids. number_of_class ids b) users_nodes
            ∙ no_class_number forest whole b node there (member_no_class node member)

        class_is : (context p b).class ≡ Some c
        class_is = none_or (context p b).class c (sym (ap (or_else (context p b).class) none) ∙ e)

        go : (o : Option ℕ) → parent_in nodes b ≡ o → MemberAt b c × ((context p b).class ≡ Some c)
        go None h =
            absurd
            (let z : None ≡ Some c = sym (ap (λ c. c.class) (no_parent_is b (slice_get_within nodes b node there) h))
            ∙ class_is in cc (z))
        go (Some k) h =
            let is = parent-is forest whole b k h node in
            let parent_class = parent_of_member forest whole sorted k b is.node node is.there is.among there member in
            let above : (context p k).class ≡ None =
            ap (λ c. c.class) (class_outermost forest whole sorted k is.node is.there parent_class) in
            let number : number_of_class (joined forest.files) k ≡ Some c =
            none_or (number_of_class (joined forest.files) k) c
            (sym (ap (or_else (number_of_class (joined forest.files) k)) above)
            ∙ sym (ap (λ c. c.class) (child_context_is forest whole k b is.node is.there is.among)) ∙ class_is) in
            let at = class_numbered c k number in
            (record { k = k; at = at; among = members k is.node is.there is.among at }, class_is)
          where
            members : (k : ℕ) (parent : Node) → slice_get nodes k ≡ Some parent → is_among b (children parent) ≡ true →
                (at : ClassAt c k) → is_among b at.class.members ≡ true
            members k parent at_k among at =
                let n = at.user.node in
                let node_is : parent ≡ Class n.position at.class.name n.flags n.header at.class.members =
                some_inj parent _ (sym at_k ∙ ap (slice_get nodes) (sym at.node) ∙ n.is_there) in
                in_members b at.class.node node n.position at.class.name n.flags n.header at.class.members there member
                n.is_there (subst (λ (n : Node). is_among b (children n) ≡ true) node_is among)

    -- the node of a class stands for its class
    pub class_body_at : (k c : ℕ) (node : Node) → slice_get nodes k ≡ Some node → is_no_class node ≡ false →
        class_of_body p k ≡ Some c → ClassAt c k
    unfolding class_of_body
    class_body_at k c node there not_other e =
        class_numbered c k (ap (λ ids. number_of_class ids k) (sym users_nodes)
        ∙ sym (ap (λ (o : Option ℕ). or_else o (number_of_class (map (λ (c : WrittenClass). c.node) p.users) k))
        (ap (λ c. c.class) (class_outermost forest whole sorted k node there not_other))) ∙ e)

    -- the class node of the class
    pub class_node_is : (c k : ℕ) → ClassAt c k → class_node p c ≡ Some k
    class_node_is c k a =
        ap (option_map (λ (c : WrittenClass). c.node))
        (ap (λ (o : Option ClassRow). option_and_then (λ (row : ClassRow). row.written) o) a.is_row ∙ a.written)
        ∙ ap (λ n. Some n) a.node
