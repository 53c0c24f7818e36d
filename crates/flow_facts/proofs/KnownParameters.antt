-- What a member of an accepted program knows at its block and its super call: its parameters and nothing else.
use Rattle.std.proofs.Common.{◌≡◌, ℕ, List, [], ◌∷◌, ◌++◌, refl, sym, ap, ◌∙◌, subst, Option, Some, None, Bool, true, false, true≢false, inl, inr, ◌==◌, is_some, option_and_then, slice_get, if◌then◌else◌, length}
use Rattle.scj_base.specs.declared.positions.Position.{Position}
use Rattle.scj_tree.specs.declared.nodes.Node.{Node}
use Rattle.scj_tree.specs.declared.nodes.Node.TheVariants.{Method as MethodNode, Constructor, Parameters}
use Rattle.scj_tree.specs.Forest.{Forest, IsForest}
use Rattle.scj_tree.specs.Shape.{children, optional}
use Rattle.scj_rules.specs.declared.contexts.Context.{Context}
use Rattle.scj_rules.specs.Definitions.{read}
use Rattle.scj_rules.specs.Words.{is_among, chain}
use Rattle.scj_rules.specs.Views.{variable_at}
use Rattle.scj_rules.specs.Contexts.{Declarations, declarations_of, context, child_context, declared_before, is_member, known_variables, last_variable, parameter_nodes, parameters_before, variable_before}
use Rattle.scj_rules.specs.Phases.{IsAccepted}
use Rattle.scj_rules.proofs.ChainLemmas.{or_cases, or_left, or_right, is_same_number, among-behind, among-front}
use Rattle.accepted_laws.specs.Judgements.{Among}
use Rattle.accepted_laws.specs.Sorts.{Of, AllOf, OptionOf, HasRightChildren, IsWellSorted, is_parameter, is_parameter_list}
use Rattle.accepted_laws.specs.Variables.{parameter_list}
use Rattle.accepted_laws.proofs.Children.{member_knows_none}
use Rattle.accepted_laws.proofs.Contexts.{child_context_is, known_next}
use Rattle.accepted_nodes.proofs.TypesComplete.{same_first}
use Rattle.scope_flow.specs.Signatures.{parameters_of}
use Rattle.flow_facts.proofs.Blocks.{Follow, row_follows}

of_some : (test : Node → Bool) (nodes : List Node) (o : Option ℕ) (q : ℕ) → o ≡ Some q → OptionOf test nodes o →
    Of test nodes q
of_some test nodes o q e h = subst (OptionOf test nodes) e h

-- the list of parameters of a member
pub record ParameterList (nodes : List Node) (node : Node) (q : ℕ) : Type 0 where
  pub position : Position
  pub list : List ℕ
  pub is_there : slice_get nodes q ≡ Some (Parameters position list)
  pub all : AllOf is_parameter nodes list
  pub among : is_among q (children node) ≡ true
  pub alone : declared_before nodes node q ≡ parameters_before nodes (Some q) q

module _ (forest : Forest) (accepted : IsAccepted forest) (whole : IsForest forest) (sorted : IsWellSorted forest.nodes)
  where
    abbrev p : Declarations
    p = declarations_of forest

    abbrev nodes : List Node
    nodes = forest.nodes

    -- ---- the list

    list_at : (q : ℕ) (node : Node) → slice_get nodes q ≡ Some node → is_parameter_list node ≡ true →
        HasRightChildren nodes node → (position : Position) × (list : List ℕ) ×
        (slice_get nodes q ≡ Some (Parameters position list)) × AllOf is_parameter nodes list
    unfolding is_parameter_list HasRightChildren
    list_at q (Parameters position list) there e h = (position, list, there, h)
    list_at q _ there e h = absurd (true≢false (sym e))

    as_list : (node : Node) (q : ℕ) → Of is_parameter_list nodes q → is_among q (children node) ≡ true →
        declared_before nodes node q ≡ parameters_before nodes (Some q) q → ParameterList nodes node q
    as_list node q o among alone =
        let l = list_at q o.node o.is_there o.passes (sorted.each q o.node o.is_there) in
        record { position = l.0; list = l.1; is_there = l.2; all = l.3; among = among; alone = alone }

    optional_there : (o : Option ℕ) (q : ℕ) → o ≡ Some q → is_among q (optional o) ≡ true
    optional_there o q e = ap (λ o. is_among q (optional o)) e ∙ same_first forest accepted whole sorted q []

    pub list_of : (b : ℕ) (node : Node) (q : ℕ) → slice_get nodes b ≡ Some node → parameter_list node ≡ Some q →
        ParameterList nodes node q
    unfolding parameter_list HasRightChildren children declared_before
    list_of b (MethodNode position name flags result_type parameters body) q there e =
        let s = sorted.each b (MethodNode position name flags result_type parameters body) there in
        as_list _ q (of_some is_parameter_list nodes parameters q e s.2)
        (among-behind q (optional flags) _
        (or_right (q == result_type) _
        (among-front q (optional parameters) (optional body) (optional_there parameters q e))))
        (ap (λ (o : Option ℕ). parameters_before nodes o q) e)
    list_of b (Constructor position name flags parameters super_call body) q there e =
        let s = sorted.each b (Constructor position name flags parameters super_call body) there in
        as_list _ q (of_some is_parameter_list nodes parameters q e s.1)
        (among-behind q (optional flags) _
        (among-front q (optional parameters) (optional super_call ++ body ∷ []) (optional_there parameters q e)))
        (ap (λ (o : Option ℕ). parameters_before nodes o q) e)
    list_of b _ q there e = absurd (cc (e))

    -- ---- the parameters are those of the list

    pub listed_nodes : (b : ℕ) (node : Node) (q : ℕ) → slice_get nodes b ≡ Some node → parameter_list node ≡ Some q →
        (l : ParameterList nodes node q) → parameters_of p b ≡ l.list
    unfolding parameters_of parameter_nodes declarations_of
    listed_nodes b node q there e l =
        ap (λ (o : Option Node). elim (option_and_then (read nodes parameter_nodes) (option_and_then parameter_list o)) as
        (λ _. List ℕ) [ None ↦ [] | Some list ↦ list ]) there
        ∙ ap (λ (o : Option ℕ). elim (option_and_then (read nodes parameter_nodes) o) as (λ _. List ℕ)
        [ None ↦ [] | Some list ↦ list ]) e
        ∙ ap (λ (o : Option Node). elim (option_and_then parameter_nodes o) as (λ _. List ℕ)
        [ None ↦ [] | Some list ↦ list ]) l.is_there

    pub no_nodes : (b : ℕ) (node : Node) → slice_get nodes b ≡ Some node → parameter_list node ≡ None →
        parameters_of p b ≡ []
    unfolding parameters_of declarations_of
    no_nodes b node there e =
        ap (λ (o : Option Node). elim (option_and_then (read nodes parameter_nodes) (option_and_then parameter_list o)) as
        (λ _. List ℕ) [ None ↦ [] | Some list ↦ list ]) there
        ∙ ap (λ (o : Option ℕ). elim (option_and_then (read nodes parameter_nodes) o) as (λ _. List ℕ)
        [ None ↦ [] | Some list ↦ list ]) e

    -- ---- they are what is known in the member

    -- behind a row that is known
    behind_row : (full xs : List ℕ) (last : Option ℕ) → ((v : ℕ) → is_among v xs ≡ true → is_among v full ≡ true) →
        Follow forest accepted whole sorted last xs →
        ((z : ℕ) → (context p z).last ≡ last → Among (known_variables p z) full)
        → (y : ℕ) → (context p y).last ≡ last_variable nodes last xs → Among (known_variables p y) full
    unfolding last_variable declarations_of
    behind_row full [] last within f h y e = h y e
    behind_row full (x ∷ xs) last within f h y e =
        behind_row full xs (if is_some (variable_at nodes x) then Some x else last)
        (λ v a. within v (or_right (v == x) (is_among v xs) a)) f.1 next y e
      where
        among : (t : Bool) (v : ℕ) → is_among v (if t then x ∷ known_variables p x else known_variables p x) ≡ true →
            is_among v full ≡ true
        among false v a = h x f.0 v a
        among true v a = elim (or_cases (v == x) (is_among v (known_variables p x)) a) as (λ z. is_among v full ≡ true) [
          | inl s ↦ within v (or_left (v == x) (is_among v xs) s)
          | inr s ↦ h x f.0 v s
        ]

        next : (z : ℕ) → (context p z).last ≡ (if is_some (variable_at nodes x) then Some x else last) →
            Among (known_variables p z) full
        next z g v a =
            among (is_some (variable_at nodes x)) v
            (known_next forest whole x z
            (g ∙ ap (λ (o : Option ℕ). if is_some (variable_at nodes x) then Some x else o) (sym f.0)) v a)

    pub none_known : (ids : List ℕ) (z : ℕ) → (context p z).last ≡ None → Among (known_variables p z) ids
    unfolding known_variables
    none_known ids z e v a =
        absurd
        (true≢false
        (sym a
        ∙ ap
        (λ (o : Option ℕ). is_among v
        (elim o as (λ _. List ℕ) [ None ↦ [] | Some last ↦ chain (variable_before p) (length p.nodes) last ])) e))

    own_list : (last : Option ℕ) (q : ℕ) → last_variable nodes last (parameters_before nodes (Some q) q) ≡ last
    unfolding last_variable
    own_list last q = (let self : (q == q) ≡ true = is_same_number q q refl in rw self refl)

    parameter_row : (q : ℕ) (position : Position) (list : List ℕ) → slice_get nodes q ≡ Some (Parameters position list) →
        Follow forest accepted whole sorted (context p q).last list
    unfolding children declared_before
    parameter_row q position list there = row_follows forest accepted whole sorted q (Parameters position list) list there refl
        (λ x. refl)

    of_parameters : (position : Position) (list : List ℕ) →
        (elim (parameter_nodes (Parameters position list)) as (λ _. List ℕ) [ None ↦ [] | Some list ↦ list ]) ≡ list
    unfolding parameter_nodes
    of_parameters position list = refl

    -- a child of a member knows nothing but parameters
    pub member_child_known : (b x : ℕ) (node : Node) → slice_get nodes b ≡ Some node → is_member node ≡ true →
        is_among x (children node) ≡ true → declared_before nodes node x ≡ parameters_before nodes
        (parameter_list node) x → Among (known_variables p x) (parameters_of p b)
    unfolding child_context last_variable
    member_child_known b x node there member among declares = go (parameter_list node) refl
      where
        last : (context p x).last ≡ last_variable nodes None (parameters_before nodes (parameter_list node) x)
        last =
            ap (λ (c : Context). c.last) (child_context_is forest whole b x node there among)
            ∙ ap (last_variable nodes (context p b).last) declares
            ∙ ap (λ (o : Option ℕ). last_variable nodes o (parameters_before nodes (parameter_list node) x))
            (member_knows_none forest whole sorted b node there member)

        listed : (q : ℕ) → parameter_list node ≡ Some q → (l : ParameterList nodes node q) → (t : Bool) →
            (context p x).last ≡ last_variable nodes None (if t then [] else l.list) →
            Among (known_variables p x) (parameters_of p b)
        listed q e l true h = none_known (parameters_of p b) x h
        listed q e l false h =
            let at_list : (context p q).last ≡ None =
            ap (λ (c : Context). c.last) (child_context_is forest whole b q node there l.among)
            ∙ ap (last_variable nodes (context p b).last) l.alone
            ∙ own_list (context p b).last q ∙ member_knows_none forest whole sorted b node there member in
            let f = parameter_row q l.position l.list l.is_there in
            subst (Among (known_variables p x)) (sym (listed_nodes b node q there e l))
            (behind_row l.list l.list (context p q).last (λ v a. a) f (λ z g. none_known l.list z (g ∙ at_list)) x
            (h ∙ ap (λ (o : Option ℕ). last_variable nodes o l.list) (sym at_list)))

        go : (o : Option ℕ) → parameter_list node ≡ o → Among (known_variables p x) (parameters_of p b)
        go None e =
            none_known (parameters_of p b) x
            (last ∙ ap (λ (o : Option ℕ). last_variable nodes None (parameters_before nodes o x)) e)
        go (Some q) e =
            let l = list_of b node q there e in
            listed q e l (x == q)
            (last ∙ ap (λ (o : Option ℕ). last_variable nodes None (parameters_before nodes o x)) e
            ∙ ap (λ (o : Option Node). last_variable nodes None
            (if x == q then [] else (elim (option_and_then parameter_nodes o) as (λ _. List ℕ)
            [ None ↦ [] | Some list ↦ list ]))) l.is_there
            ∙ ap (λ ids. last_variable nodes None (if x == q then [] else ids)) (of_parameters l.position l.list))
