-- What an `if`, a `while` and a `for` of an accepted program have: their conditions and their parts.
use Rattle.std.proofs.Common.{◌≡◌, ℕ, List, [], ◌∷◌, refl, sym, ap, ◌∙◌, Option, Some, None, Bool, true, false, true≢false, ◌==◌, is_some, option_and_then, slice_get, if◌then◌else◌}
use Rattle.scj_base.specs.declared.positions.Position.{Position}
use Rattle.scj_tree.specs.declared.nodes.Node.{Node}
use Rattle.scj_tree.specs.declared.nodes.Node.TheVariants.{Parameter, Local, LocalWithValue, Assign, If, While, For}
use Rattle.scj_tree.specs.Forest.{Forest, IsForest}
use Rattle.scj_tree.specs.Shape.{children, optional}
use Rattle.scj_rules.specs.Words.{is_among}
use Rattle.scj_rules.specs.Views.{variable_at, variable_of}
use Rattle.scj_rules.specs.Contexts.{Declarations, declarations_of, context, declared_before}
use Rattle.scj_rules.specs.Phases.{IsAccepted}
use Rattle.scj_rules.proofs.ChainLemmas.{or_right}
use Rattle.scj_rules.proofs.ParentLemmas.{child-less}
use Rattle.accepted_laws.specs.Judgements.{Inside}
use Rattle.accepted_laws.specs.Sorts.{Of, OptionOf, HasRightChildren, IsWellSorted, is_expression, is_statement, is_assignment, is_for_start}
use Rattle.accepted_laws.proofs.InnerNodes.{is_inner}
use Rattle.accepted_laws.proofs.SortSteps.{assignment_is_statement}
use Rattle.accepted_nodes.proofs.TypesComplete.{same_first, same_second}
use Rattle.accepted_facts.proofs.StatementFacts.{if_condition, while_condition, for_condition}
use Rattle.scope_flow.specs.ValueFacts.{HasOptionStatement}
use Rattle.scope_flow.specs.StatementFacts.{IfFact, WhileFact, ForFact}
use Rattle.flow_facts.proofs.Blocks.{row_follows, same_last, known_after, statement_child, statement_below}

-- neither an expression nor an assignment declares a variable
expression_no_variable : (nodes : List Node) (x : ℕ) (node : Node) → is_expression node ≡ true →
    is_some (variable_of nodes x node) ≡ false
unfolding is_expression variable_of
expression_no_variable nodes x (Parameter position name flags declared_type) e = absurd (true≢false (sym e))
expression_no_variable nodes x (Local position name flags declared_type) e = absurd (true≢false (sym e))
expression_no_variable nodes x (LocalWithValue position name_position name flags declared_type value) e =
    absurd (true≢false (sym e))
expression_no_variable nodes x _ e = refl

assignment_no_variable : (nodes : List Node) (x : ℕ) (node : Node) → is_assignment node ≡ true →
    is_some (variable_of nodes x node) ≡ false
unfolding is_assignment variable_of
assignment_no_variable nodes x (Parameter position name flags declared_type) e = absurd (true≢false (sym e))
assignment_no_variable nodes x (Local position name flags declared_type) e = absurd (true≢false (sym e))
assignment_no_variable nodes x (LocalWithValue position name_position name flags declared_type value) e =
    absurd (true≢false (sym e))
assignment_no_variable nodes x _ e = refl

start_is_statement : (node : Node) → is_for_start node ≡ true → is_statement node ≡ true
unfolding is_for_start is_statement
start_is_statement (Assign position target value) e = refl
start_is_statement (LocalWithValue position name_position name flags declared_type value) e = refl
start_is_statement _ e = absurd (true≢false (sym e))

module _ (forest : Forest) (accepted : IsAccepted forest) (whole : IsForest forest) (sorted : IsWellSorted forest.nodes)
  where
    abbrev p : Declarations
    p = declarations_of forest

    abbrev nodes : List Node
    nodes = forest.nodes

    third : (x y z : ℕ) (ids : List ℕ) → is_among z (x ∷ y ∷ z ∷ ids) ≡ true
    third x y z ids = or_right (z == x) (is_among z (y ∷ z ∷ ids)) (same_second forest accepted whole sorted y z ids)

    fourth : (w x y z : ℕ) (ids : List ℕ) → is_among z (w ∷ x ∷ y ∷ z ∷ ids) ≡ true
    fourth w x y z ids = or_right (z == w) (is_among z (x ∷ y ∷ z ∷ ids)) (third x y z ids)

    pub if_fact : (b c id condition then_part : ℕ) (position : Position) (else_part : Option ℕ) →
        slice_get nodes id ≡ Some (If position condition then_part else_part) → Inside p b c id →
        IfFact p b c id condition then_part else_part
    unfolding HasRightChildren children declared_before is_inner
    if_fact b c id condition then_part position else_part there inside =
        let node : Node = If position condition then_part else_part in
        let s = sorted.each id node there in
        let o = if_condition forest accepted whole sorted b c id condition then_part position else_part there inside in
        record {
          condition_is = (o.child, o.judged);
          then_is = statement_below forest accepted whole sorted b c id then_part node there inside refl
              (same_second forest accepted whole sorted condition then_part (optional else_part)) s.1 refl;
          else_is = other else_part refl s.2;
        }
      where
        other : (o : Option ℕ) → else_part ≡ o → OptionOf is_statement nodes o → HasOptionStatement p b c id o
        other None e s = tt
        other (Some x) e s =
            let there2 : slice_get nodes id ≡ Some (If position condition then_part (Some x)) =
            there ∙ ap (λ o. Some (If position condition then_part o)) e in
            statement_below forest accepted whole sorted b c id x (If position condition then_part (Some x)) there2 inside
            refl (third condition then_part x []) s refl

    pub while_fact : (b c id condition body : ℕ) (position : Position) → slice_get nodes id ≡ Some (While position condition body) →
        Inside p b c id → WhileFact p b c id condition body
    unfolding HasRightChildren children declared_before is_inner
    while_fact b c id condition body position there inside =
        let node : Node = While position condition body in
        let s = sorted.each id node there in
        let o = while_condition forest accepted whole sorted b c id condition body position there inside in
        record {
          condition_is = (o.child, o.judged);
          body_is = statement_below forest accepted whole sorted b c id body node there inside refl
              (same_second forest accepted whole sorted condition body []) s.1 refl;
        }

    no_variable_at : (test : Node → Bool) (x : ℕ) →
        ((node : Node) → test node ≡ true → is_some (variable_of nodes x node) ≡ false) → Of test nodes x →
        is_some (variable_at nodes x) ≡ false
    no_variable_at test x h o = ap (λ (n : Option Node). is_some (option_and_then (variable_of nodes x) n)) o.is_there
        ∙ h o.node o.passes

    pub for_fact : (b c id first condition step body : ℕ) (position : Position) →
        slice_get nodes id ≡ Some (For position first condition step body) → Inside p b c id →
        ForFact p b c id first condition step body
    unfolding HasRightChildren children declared_before is_inner
    for_fact b c id first condition step body position there inside =
        let node : Node = For position first condition step body in
        let row : List ℕ = first ∷ condition ∷ step ∷ body ∷ [] in
        let s = sorted.each id node there in
        let f = row_follows forest accepted whole sorted id node row there refl (λ x. refl) in
        let o = for_condition forest accepted whole sorted b c id first condition step body position there inside in
        let start : Of is_statement nodes first =
        record { node = s.0.node; is_there = s.0.is_there; passes = start_is_statement s.0.node s.0.passes } in
        let next : Of is_statement nodes step =
        record { node = s.2.node; is_there = s.2.is_there; passes = assignment_is_statement s.2.node s.2.passes } in
        let first_below =
        child-less forest whole id first node there
        (same_first forest accepted whole sorted first (condition ∷ step ∷ body ∷ [])) in
        let first_is = statement_child forest accepted whole sorted b c id first node there inside refl
        (same_first forest accepted whole sorted first (condition ∷ step ∷ body ∷ [])) start in
        let at_step : (context p step).last
        ≡ (if is_some (variable_at nodes first) then Some first else (context p id).last)
        = f.1.1.0
        ∙ ap
        (λ t. if t then Some condition
        else (if is_some (variable_at nodes first) then Some first else (context p id).last))
        (no_variable_at is_expression condition (expression_no_variable nodes condition) s.1) in
        let at_body : (context p body).last
        ≡ (if is_some (variable_at nodes first) then Some first else (context p id).last)
        = f.1.1.1.0
        ∙ ap
        (λ t. if t then Some step
        else (if is_some (variable_at nodes condition) then Some condition
        else (if is_some (variable_at nodes first) then Some first else (context p id).last)))
        (no_variable_at is_assignment step (assignment_no_variable nodes step) s.2)
        ∙ sym f.1.1.0 ∙ at_step in
        record {
          first_is = (
            record {
              smaller = first_below;
              inside = first_is.inside;
              known = same_last forest accepted whole sorted
                  first id f.0;
            },
            first_is,
          );
          condition_smaller = o.smaller;
          condition_inside = o.inside;
          condition_judged = o.judged;
          condition_known = known_after forest accepted whole sorted first id condition f.0 f.1.0;
          step_is = record {
            smaller = child-less forest whole id step node there (third first condition step (body ∷ []));
            is = statement_child forest accepted whole sorted b c id step node there inside refl
                (third first condition step (body ∷ [])) next;
            known = known_after forest accepted whole sorted first id step f.0 at_step;
          };
          body_is = record {
            smaller = child-less forest whole id body node there (fourth first condition step body []);
            is = statement_child forest accepted whole sorted b c id body node there inside refl
                (fourth first condition step body []) s.3;
            known = known_after forest accepted whole sorted first id body f.0 at_body;
          };
        }
