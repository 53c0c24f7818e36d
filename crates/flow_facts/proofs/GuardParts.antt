-- An accepted program has what is asked of guards.
use Rattle.std.proofs.Common.{◌≡◌, ℕ, ◌+◌, ◌≤◌, List, [], ◌∷◌, ◌++◌, arith, if◌then◌else◌, refl, sym, ap, ◌∙◌, subst, Option, Some, None, option_and_then, Bool, true, false, ◌==◌, slice_get}
use Rattle.scj_tree.specs.declared.nodes.Node.{Node}
use Rattle.scj_tree.specs.declared.nodes.Node.TheVariants.{Binary, If, While, For}
use Rattle.scj_tree.specs.Counts.{times}
use Rattle.scj_tree.specs.Forest.{Forest, IsForest}
use Rattle.scj_tree.specs.Shape.{optional, children}
use Rattle.scj_rules.specs.declared.views.Body.TheVariants.{Written}
use Rattle.scj_rules.specs.CheckedProgram.{IsReadFromTexts}
use Rattle.scj_rules.specs.Words.{is_among}
use Rattle.scj_rules.specs.Contexts.{Declarations, declarations_of}
use Rattle.scj_rules.specs.Bindings.{bindings_in}
use Rattle.scj_rules.specs.Guards.{is_first_part, ifs_around}
use Rattle.scj_rules.specs.Phases.{IsAccepted}
use Rattle.scj_rules.proofs.ChainLemmas.{is_same_number, same_number}
use Rattle.scj_rules.proofs.ParentLemmas.{children_apart}
use Rattle.accepted_laws.specs.Judgements.{Inside}
use Rattle.accepted_laws.specs.Sorts.{IsWellSorted, HasRightChildren, Of}
use Rattle.accepted_laws.proofs.InnerNodes.{is_inner, inner_expression, inner_statement, inner_assignment}
use Rattle.accepted_laws.proofs.Tools.{some_inj}
use Rattle.scj_model.specs.declared.operations.Op.{Op}
use Rattle.scj_model.specs.declared.operations.Op.TheVariants.{Loop as LOOP}
use Rattle.scj_model.specs.Code.{Code}
use Rattle.scj_model.specs.Ops.{right_operand, if_parts, iteration_ops, ops_of}
use Rattle.scope_flow.specs.Flow.{AreLoopParts}
use Rattle.scope_flow.specs.GuardFacts.{GuardFacts}
use Rattle.scope_flow.specs.Guards.{IsPlain, StandsIn, Adds}
use Rattle.scope_flow.proofs.Rests.{here, later, adds_both, adds_behind}
use Rattle.flow_facts.proofs.GuardBodies.{body_rest}
use Rattle.flow_facts.proofs.GuardRests.{first_around, other_around, inner_adds}

module _ (forest : Forest) (accepted : IsAccepted forest) (whole : IsForest forest) (sorted : IsWellSorted forest.nodes)
    (is_read : IsReadFromTexts forest) where
  abbrev p : Declarations
  p = declarations_of forest

  abbrev code : Code
  code = record { program = p; bindings = bindings_in p }

  abbrev around : ℕ → List ℕ
  around x = ifs_around forest.nodes x

  -- a part of a node that is no first part
  beside : (b c id x : ℕ) (node : Node) → slice_get forest.nodes id ≡ Some node → is_among x (children node) ≡ true →
      is_first_part x node ≡ false → Inside p b c x → Of is_inner forest.nodes x →
      Adds code (Written b) (around id) (ops_of code x)
  beside b c id x node there among first inside o =
      subst (λ a. Adds code (Written b) a (ops_of code x))
      (other_around forest accepted whole sorted is_read id x node there among first)
      (inner_adds forest accepted whole sorted is_read b c x inside o)

  of_sort : (test : Node → Bool) → ((n : Node) → test n ≡ true → is_inner n ≡ true) → (x : ℕ) →
      Of test forest.nodes x → Of is_inner forest.nodes x
  of_sort test within x o = record { node = o.node; is_there = o.is_there; passes = within o.node o.passes }

  right_adds : (b c id right : ℕ) → option_and_then right_operand (slice_get forest.nodes id) ≡ Some right →
      Inside p b c right → Adds code (Written b) (around id) (ops_of code right)
  unfolding right_operand children is_first_part HasRightChildren
  right_adds b c id right e inside = go (slice_get forest.nodes id) refl e
    where
      go : (o : Option Node) → slice_get forest.nodes id ≡ o → option_and_then right_operand o ≡ Some right →
          Adds code (Written b) (around id) (ops_of code right)
      go None there e = absurd (cc (e))
      go (Some (Binary position operator left r)) there e =
          let same : r ≡ right = some_inj r right e in
          let node : Node = Binary position operator left r in
          subst (λ x. Adds code (Written b) (around id) (ops_of code x)) same
          (beside b c id r node there (later r left (r ∷ []) (here r [])) refl (subst (Inside p b c) (sym same) inside)
          (of_sort _ inner_expression r (sorted.each id node there).1))
      go (Some _) there e = absurd (cc (e))

  -- the second part of an `if` is another than the first
  apart : (id condition first second : ℕ) (position : _) →
      slice_get forest.nodes id ≡ Some (If position condition first (Some second)) → (second == first) ≡ false
  unfolding children times
  apart id condition first second position there = go (second == first) refl
    where
      go : (t : Bool) → (second == first) ≡ t → (second == first) ≡ false
      go false e = e
      go true e =
          let same : second ≡ first = same_number second first e in
          let ids : List ℕ = condition ∷ first ∷ second ∷ [] in
          let once : times second ids ≤ 1 =
          children_apart forest whole id (If position condition first (Some second)) there second in
          let one : (second == second) ≡ true = is_same_number second second refl in
          let counted : (if second == condition then 1 else 0) + ((if true then 1 else 0) + ((if true then 1 else 0) + 0)) ≤ 1 =
          subst (λ t. (if second == condition then 1 else 0) + ((if t then 1 else 0) + ((if true then 1 else 0) + 0)) ≤ 1) e
          (subst (λ t. (if second == condition then 1 else 0)
          + ((if second == first then 1 else 0) + ((if t then 1 else 0) + 0)) ≤ 1) one once) in
          absurd (omega (arith, counted))

  second_adds : (b c id first second : ℕ) →
      option_and_then if_parts (slice_get forest.nodes id) ≡ Some (first, Some second) → Inside p b c second →
      Adds code (Written b) (around id) (ops_of code second)
  unfolding if_parts children is_first_part HasRightChildren
  second_adds b c id first second e inside = go (slice_get forest.nodes id) refl e
    where
      with_second : (position : _) (condition : ℕ) →
          slice_get forest.nodes id ≡ Some (If position condition first (Some second)) →
          Adds code (Written b) (around id) (ops_of code second)
      with_second position condition there =
          let node : Node = If position condition first (Some second) in
          beside b c id second node there
          (later second condition (first ∷ second ∷ []) (later second first (second ∷ []) (here second [])))
          (apart id condition first second position there) inside
          (of_sort _ inner_statement second (sorted.each id node there).2)

      go : (o : Option Node) → slice_get forest.nodes id ≡ o → option_and_then if_parts o ≡ Some (first, Some second) →
          Adds code (Written b) (around id) (ops_of code second)
      go None there e = absurd (cc (e))
      go (Some (If position condition f s)) there e =
          let h : (f, s) ≡ (first, Some second) = some_inj (f, s) (first, Some second) e in
          let one : f ≡ first = ap (λ (q : ℕ × Option ℕ). q.0) h in
          let two : s ≡ Some second = ap (λ (q : ℕ × Option ℕ). q.1) h in
          with_second position condition
          (there ∙ (ap (λ f. Some (If position condition f s)) one ∙ ap (λ s. Some (If position condition first s)) two))
      go (Some _) there e = absurd (cc (e))

  first_adds : (b c id : ℕ) (parts : ℕ × Option ℕ) →
      option_and_then if_parts (slice_get forest.nodes id) ≡ Some parts → Inside p b c parts.0 →
      Adds code (Written b) (id ∷ around id) (ops_of code parts.0)
  unfolding if_parts children is_first_part HasRightChildren
  first_adds b c id parts e inside = go (slice_get forest.nodes id) refl e
    where
      go : (o : Option Node) → slice_get forest.nodes id ≡ o → option_and_then if_parts o ≡ Some parts →
          Adds code (Written b) (id ∷ around id) (ops_of code parts.0)
      go None there e = absurd (cc (e))
      go (Some (If position condition f s)) there e =
          let node : Node = If position condition f s in
          let one : f ≡ parts.0 = ap (λ (q : ℕ × Option ℕ). q.0) (some_inj (f, s) parts e) in
          subst (λ x. Adds code (Written b) (id ∷ around id) (ops_of code x)) one
          (subst (λ a. Adds code (Written b) a (ops_of code f))
          (first_around forest accepted whole sorted is_read id f node there
          (later f condition (f ∷ optional s) (here f (optional s))) (is_same_number f f refl))
          (inner_adds forest accepted whole sorted is_read b c f (subst (Inside p b c) (sym one) inside)
          (of_sort _ inner_statement f (sorted.each id node there).1)))
      go (Some _) there e = absurd (cc (e))

  turn_adds : (b c id : ℕ) (known : List ℕ) (node : Node) (turn : List Op) → slice_get forest.nodes id ≡ Some node →
      AreLoopParts p b c known node → iteration_ops code id node ≡ Some turn → Adds code (Written b) (around id) turn
  unfolding AreLoopParts iteration_ops children is_first_part HasRightChildren IsPlain StandsIn declarations_of
  turn_adds b c id known (While position condition body) turn there parts e =
      let node : Node = While position condition body in
      let sorts = sorted.each id node there in
      let k =
      beside b c id condition node there (here condition (body ∷ [])) refl parts.0.inside
      (of_sort _ inner_expression condition sorts.0) in
      let s =
      beside b c id body node there (later body condition (body ∷ []) (here body [])) refl parts.1.is.inside
      (of_sort _ inner_statement body sorts.1) in
      subst (Adds code (Written b) (around id))
      (some_inj (ops_of code body ++ (ops_of code condition ++ LOOP id ∷ [])) turn e)
      (adds_both code (Written b) (around id) (ops_of code body) (ops_of code condition ++ LOOP id ∷ []) s
      (adds_behind code (Written b) (around id) (ops_of code condition) (LOOP id) k tt refl))
  turn_adds b c id known (For position first condition step body) turn there parts e =
      let node : Node = For position first condition step body in
      let sorts = sorted.each id node there in
      let k =
      beside b c id condition node there
      (later condition first (condition ∷ step ∷ body ∷ []) (here condition (step ∷ body ∷ []))) refl parts.0.inside
      (of_sort _ inner_expression condition sorts.1) in
      let n =
      beside b c id step node there
      (later step first (condition ∷ step ∷ body ∷ [])
      (later step condition (step ∷ body ∷ []) (here step (body ∷ [])))) refl parts.1.is.inside
      (of_sort _ inner_assignment step sorts.2) in
      let s =
      beside b c id body node there
      (later body first (condition ∷ step ∷ body ∷ [])
      (later body condition (step ∷ body ∷ []) (later body step (body ∷ []) (here body [])))) refl parts.2.is.inside
      (of_sort _ inner_statement body sorts.3) in
      subst (Adds code (Written b) (around id))
      (some_inj (ops_of code body ++ (ops_of code step ++ (ops_of code condition ++ LOOP id ∷ []))) turn e)
      (adds_both code (Written b) (around id) (ops_of code body)
      (ops_of code step ++ (ops_of code condition ++ LOOP id ∷ [])) s
      (adds_both code (Written b) (around id) (ops_of code step) (ops_of code condition ++ LOOP id ∷ []) n
      (adds_behind code (Written b) (around id) (ops_of code condition) (LOOP id) k tt refl)))
  turn_adds b c id known _ turn there parts e = absurd parts

  pub guard_facts : GuardFacts code
  unfolding declarations_of
  guard_facts =
      record {
        bodies = λ b c sig body. body_rest forest accepted whole sorted is_read b c sig body;
        rights = λ b c id right e inside. right_adds b c id right e inside;
        seconds = λ b c id first second e inside. second_adds b c id first second e inside;
        turns = λ b c id known node turn there parts e. turn_adds b c id known node turn there parts e;
        firsts = λ b c id parts e inside. first_adds b c id parts e inside;
      }
