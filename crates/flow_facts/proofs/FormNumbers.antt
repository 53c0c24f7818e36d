-- In an accepted program each argument of a framework's form counts: the form stands for as many numbers as are read of
-- it.
use Rattle.std.proofs.Common.{◌≡◌, ℕ, ◌+◌, ◌<◌, List, [], ◌∷◌, length, refl, sym, ap, ◌∙◌, subst, arith, Option, Some, Bool, true, false, not, ◌&&◌, true≢false, ◌⊎◌, inl, inr, ◌==◌, is_some, slice_get, if◌then◌else◌}
use Rattle.scj_base.specs.declared.positions.Position.{Position}
use Rattle.scj_builtins.specs.Framework.{periodic_parameters, relative_time}
use Rattle.scj_tree.specs.declared.nodes.Node.{Node}
use Rattle.scj_tree.specs.declared.nodes.Node.TheVariants.{SuperCall, New}
use Rattle.scj_tree.specs.Forest.{Forest, IsForest}
use Rattle.scj_tree.specs.Shape.{children}
use Rattle.scj_rules.specs.declared.contexts.Context.{Context}
use Rattle.scj_rules.specs.declared.typing.Binding.TheVariants.{Plain}
use Rattle.scj_rules.specs.declared.typing.Ty.{Ty}
use Rattle.scj_rules.specs.declared.typing.Ty.TheVariants.{Int}
use Rattle.scj_rules.specs.Words.{is_among, holds}
use Rattle.scj_rules.specs.Classes.{class_number}
use Rattle.scj_rules.specs.Contexts.{Declarations, declarations_of, context, child_context, declared_before, is_super_call, known_variables, object_of}
use Rattle.scj_rules.specs.Types.{is_int, form_in, is_form_part}
use Rattle.scj_rules.specs.TypeRules.{Types, has_untyped_argument, has_other_than_int, misfits_form_part, misfits_constructor, misfits_new}
use Rattle.scj_rules.specs.Bindings.{binding_of, bindings_in, class_binding}
use Rattle.scj_rules.specs.Phases.{IsAccepted}
use Rattle.scj_rules.proofs.ChainLemmas.{or_left, or_right, is_same_number}
use Rattle.scj_rules.proofs.ParentLemmas.{child-less, parent-of}
use Rattle.accepted_laws.specs.Judgements.{type_at_node, binding_at_node, HasType, Inside, Among}
use Rattle.accepted_laws.specs.Sorts.{HasRightChildren, IsWellSorted, is_argument}
use Rattle.accepted_laws.proofs.Children.{among_of}
use Rattle.accepted_laws.proofs.Contexts.{child_context_is, known_same}
use Rattle.accepted_laws.proofs.InnerNodes.{is_inner}
use Rattle.accepted_laws.proofs.MethodNodes.{and_true}
use Rattle.accepted_laws.proofs.Tools.{some_inj}
use Rattle.accepted_nodes.proofs.TypeBreaks.{right_new}
use Rattle.accepted_nodes.proofs.TypesComplete.{unbroken, same_first, same_second, value_has_type}
use Rattle.accepted_nodes.proofs.ValueChildren.{inside_child, no_class_name}
use Rattle.accepted_facts.proofs.AccessFacts.{int_judged}
use Rattle.accepted_facts.proofs.NameFacts.{binding_is}
use Rattle.accepted_facts.proofs.ReturnFacts.{is_int_type}
use Rattle.accepted_facts.proofs.StatementFacts.{not_false}
use Rattle.scj_model.specs.Code.{Code}
use Rattle.scope_flow.specs.Facts.{AreSmaller, Numbers, one_number, form_part, AllNumbers, no_numbers, more_numbers}
use Rattle.flow_facts.proofs.NewParts.{NewPart, none_passes, each_fails, second_false}

module _ (forest : Forest) (accepted : IsAccepted forest) (whole : IsForest forest) (sorted : IsWellSorted forest.nodes)
  where
    abbrev p : Declarations
    p = declarations_of forest

    abbrev nodes : List Node
    nodes = forest.nodes

    abbrev types : Types
    types = type_at_node p

    abbrev code : Code
    code = record { program = p; bindings = bindings_in p }

    -- a super call in a class whose form has these parts, and where the parts stand
    pub record InForm (b c call : ℕ) (arguments parts : List ℕ) : Type 0 where
      pub position : Position
      pub is_there : slice_get nodes call ≡ Some (SuperCall position arguments)
      pub inside : Inside p b c call
      pub form : form_in p c ≡ Some parts

    abbrev pub PartsStand : List ℕ → List ℕ → Type 0
    PartsStand arguments parts = (e : ℕ) → is_among e parts ≡ true →
        (is_among e arguments ≡ true) ⊎ ((r : ℕ) × (n : NewPart p periodic_parameters 2 r) × (is_among e n.list ≡ true))

    -- ---- what stands below the super call

    pub record Below (b c call x : ℕ) : Type 0 where
      pub in_super : (context p x).in_super_call ≡ true
      pub inside : Inside p b c x
      pub known : Among (known_variables p x) (known_variables p call)

    pub at_argument : (b c call x : ℕ) (arguments parts : List ℕ) → InForm b c call arguments parts →
        is_among x arguments ≡ true → Below b c call x × (x < call)
    unfolding child_context children declared_before is_super_call HasRightChildren is_inner
    at_argument b c call x arguments parts s among =
        let node : Node = SuperCall s.position arguments in
        let o = among_of nodes is_argument x arguments (sorted.each call node s.is_there) among in (
          record {
            in_super = ap (λ (c : Context). c.in_super_call) (child_context_is forest whole call x node s.is_there among);
            inside = inside_child forest whole accepted b c call x node o.node s.inside s.is_there refl among o.is_there;
            known = known_same forest whole call x node s.is_there among refl;
          },
          child-less forest whole call x node s.is_there among,
        )

    at_below : (b c call x e : ℕ) (position name_position : Position) (name list : List ℕ) →
        slice_get nodes x ≡ Some (New position name_position name list) → Below b c call x → is_among e list ≡ true →
        Below b c call e × (e < x)
    unfolding child_context children declared_before is_super_call HasRightChildren is_inner
    at_below b c call x e position name_position name list there h among =
        let node : Node = New position name_position name list in
        let o = among_of nodes is_argument e list (sorted.each x node there) among in (
          record {
            in_super = ap (λ (c : Context). c.in_super_call) (child_context_is forest whole x e node there among)
                ∙ h.in_super;
            inside = inside_child forest whole accepted b c x e node o.node h.inside there refl among o.is_there;
            known = λ v a. h.known v (known_same forest whole x e node there among refl v a);
          },
          child-less forest whole x e node there among,
        )

    -- ---- a part of the form

    is_part : (b c call x : ℕ) (arguments parts : List ℕ) → InForm b c call arguments parts → Below b c call x →
        is_among x parts ≡ true → is_form_part p x ≡ true
    unfolding is_form_part
    is_part b c call x arguments parts s h among =
        ap (λ t. t && holds (context p x).class (λ class. holds (form_in p class) (is_among x))) h.in_super
        ∙ ap (λ (o : Option ℕ). holds o (λ class. holds (form_in p class) (is_among x))) h.inside.class
        ∙ ap (λ (o : Option (List ℕ)). holds o (is_among x)) s.form ∙ among

    among_parts : (b c call x : ℕ) (arguments parts : List ℕ) → InForm b c call arguments parts → Below b c call x →
        is_form_part p x ≡ true → is_among x parts ≡ true
    unfolding is_form_part
    among_parts b c call x arguments parts s h e =
        sym (ap (λ (o : Option (List ℕ)). holds o (is_among x)) s.form)
        ∙ sym (ap (λ (o : Option ℕ). holds o (λ class. holds (form_in p class) (is_among x))) h.inside.class)
        ∙ (and_true (context p x).in_super_call
        (holds (context p x).class (λ class. holds (form_in p class) (is_among x))) e).1

    new_is_no_call : (x call : ℕ) (position name_position position2 : Position) (name list arguments : List ℕ) → x ≡ call →
        slice_get nodes x ≡ Some (New position name_position name list) →
        slice_get nodes call ≡ Some (SuperCall position2 arguments) → ⊥
    new_is_no_call x call position name_position position2 name list arguments same there other =
        (let z : New position name_position name list ≡ SuperCall position2 arguments = some_inj _ _
        (sym there ∙ ap (slice_get nodes) same ∙ other) in cc (z))

    -- an argument of a part that isn't the release parameters is no part itself
    no_part_below : (b c call x e class count : ℕ) (arguments parts : List ℕ) → InForm b c call arguments parts →
        PartsStand arguments parts → (n : NewPart p class count x) → (class == periodic_parameters) ≡ false →
        Below b c call e → is_among e n.list ≡ true → is_form_part p e ≡ false
    unfolding children declarations_of
    no_part_below b c call x e class count arguments parts s stands n other h among = go (is_form_part p e) refl
      where
        parent : (k : ℕ) (node : Node) → slice_get nodes k ≡ Some node → is_among e (children node) ≡ true → x ≡ k
        parent k node there a =
            some_inj x k (sym (parent-of forest whole x e (New n.position n.name_position n.name n.list) n.is_there among)
            ∙ parent-of forest whole k e node there a)

        contradiction : (is_among e arguments ≡ true) ⊎ ((r : ℕ) × (m : NewPart p periodic_parameters 2 r) ×
            (is_among e m.list ≡ true)) → ⊥
        contradiction (inl a) = new_is_no_call x call n.position n.name_position s.position n.name n.list arguments
            (parent call (SuperCall s.position arguments) s.is_there a) n.is_there s.is_there
        contradiction (inr q) =
            let m = q.1 in
            let same = parent q.0 (New m.position m.name_position m.name m.list) m.is_there q.2 in
            let node : New n.position n.name_position n.name n.list ≡ New m.position m.name_position m.name m.list =
            some_inj _ _ (sym n.is_there ∙ ap (slice_get nodes) same ∙ m.is_there) in
            let name : n.name ≡ m.name = cc (node) in
            let classes : class ≡ periodic_parameters =
            some_inj class periodic_parameters (sym n.names ∙ ap (class_number p.names) name ∙ m.names) in
            true≢false (sym (is_same_number class periodic_parameters classes) ∙ other)

        go : (t : Bool) → is_form_part p e ≡ t → is_form_part p e ≡ false
        go false k = k
        go true k = absurd (contradiction (stands e (among_parts b c call e arguments parts s h k)))

    part_bound : (x class count : ℕ) → (n : NewPart p class count x) → is_form_part p x ≡ true →
        binding_at_node p x ≡ Plain
    unfolding binding_of declarations_of
    part_bound x class count n part =
        binding_is forest accepted whole sorted x (New n.position n.name_position n.name n.list) n.is_there
        ∙ ap (λ t. if t then Plain else class_binding (class_number p.names n.name)) part

    -- ---- its arguments are ints

    argument_value : (b c call x e class count : ℕ) → (n : NewPart p class count x) → Below b c call e →
        is_among e n.list ≡ true → is_form_part p e ≡ false → HasType (types e)
    unfolding children child_context object_of HasRightChildren declarations_of
    argument_value b c call x e class count n h among plain =
        let node : Node = New n.position n.name_position n.name n.list in
        let o = among_of nodes is_argument e n.list (sorted.each x node n.is_there) among in
        value_has_type forest accepted whole sorted b c e o.node o.is_there h.inside
        (record {
          is_argument = o.passes;
          no_class = no_class_name p e o.node
              (ap (λ (c : Context). c.before_dot) (child_context_is forest whole x e node n.is_there among));
          no_form_part =
              plain;
        })

    fits_part : (x class count : ℕ) → (n : NewPart p class count x) → is_form_part p x ≡ true →
        misfits_form_part p types n.list ≡ false
    unfolding misfits_new declarations_of
    fits_part x class count n part =
        sym (ap (λ t. if t then misfits_form_part p types n.list else holds (class_number p.names n.name)
        (misfits_constructor p types n.list)) part)
        ∙ (right_new p types x n.position n.name_position n.name n.list
        (unbroken forest accepted whole sorted x (New n.position n.name_position n.name n.list) n.is_there)).arguments_fit

    abbrev IsInt : ℕ → Type 0
    IsInt e = types e ≡ Some Int

    all_ints : (list : List ℕ) → ((e : ℕ) → is_among e list ≡ true → (is_form_part p e ≡ false) × HasType (types e)) →
        misfits_form_part p types list ≡ false → (e : ℕ) → is_among e list ≡ true → IsInt e
    all_ints list h m e among =
        let untyped : has_untyped_argument p types list ≡ false =
        none_passes (λ a. not (is_form_part p a) && not (is_some (types a))) list
        (λ a k. (let t = (h a k).1 in ap (λ (o : Option Ty). not (is_form_part p a) && not (is_some o)) t.1
        ∙ last (not (is_form_part p a)))) in
        let other = second_false (has_untyped_argument p types list) (has_other_than_int p types list) m untyped in
        let q = h e among in
        let t = q.1 in
        let one = each_fails (λ a. not (is_form_part p a) && holds (types a) (λ t. not (is_int t))) list other e among in
        let int : not (is_int t.0) ≡ false =
        sym (ap (λ b. not b && holds (types e) (λ t. not (is_int t))) q.0
        ∙ ap (λ (o : Option Ty). holds o (λ t. not (is_int t))) t.1) ∙ one in
        t.1 ∙ ap (λ t. Some t) (is_int_type t.0 (not_false (is_int t.0) int))
      where
        last : (a : Bool) → (a && false) ≡ false
        last true = refl
        last false = refl

    -- ---- and count

    pub smaller : (x : ℕ) (xs : List ℕ) → ((e : ℕ) → is_among e xs ≡ true → e < x) → AreSmaller x xs
    smaller x [] h = tt
    smaller x (e ∷ xs) h = (
      h e (or_left (e == e) (is_among e xs) (is_same_number e e refl)),
      smaller x xs (λ y a. h y (or_right (y == e) (is_among y xs) a)),
    )

    all_ones : (b c : ℕ) (known xs : List ℕ) → ((e : ℕ) → is_among e xs ≡ true → Numbers code b c known e 1) →
        AllNumbers code b c known xs (length xs)
    all_ones b c known [] h = no_numbers
    all_ones b c known (e ∷ xs) h =
        let one : 1 + length xs ≡ length (e ∷ xs) = omega arith in
        subst (AllNumbers code b c known (e ∷ xs)) one
        (more_numbers (h e (or_left (e == e) (is_among e xs) (is_same_number e e refl)))
        (all_ones b c known xs (λ y a. h y (or_right (y == e) (is_among y xs) a))))

    -- a part whose arguments are no parts
    pub leaf : (b c call x class count : ℕ) (arguments parts : List ℕ) → InForm b c call arguments parts →
        PartsStand arguments parts → (n : NewPart p class count x) → (class == periodic_parameters) ≡ false →
        Below b c call x → is_among x parts ≡ true → Numbers code b c (known_variables p call) x count
    unfolding declarations_of
    leaf b c call x class count arguments parts s stands n other h among =
        let part = is_part b c call x arguments parts s h among in
        let below : (e : ℕ) → is_among e n.list ≡ true → Below b c call e × (e < x) =
        λ e a. at_below b c call x e n.position n.name_position n.name n.list n.is_there h a in
        let plain : (e : ℕ) → is_among e n.list ≡ true → is_form_part p e ≡ false =
        λ e a. no_part_below b c call x e class count arguments parts s stands n other (below e a).0 a in
        let ints =
        all_ints n.list (λ e a. (plain e a, argument_value b c call x e class count n (below e a).0 a (plain e a)))
        (fits_part x class count n part) in
        form_part n.is_there (part_bound x class count n part) (smaller x n.list (λ e a. (below e a).1))
        (subst (AllNumbers code b c (known_variables p call) n.list) n.counted
        (all_ones b c (known_variables p call) n.list
        (λ e a. one_number (below e a).0.inside (int_judged forest accepted whole sorted e (ints e a))
        (below e a).0.known)))

    -- the release parameters of a periodic handler: two times
    pub periodic : (b c call r start period : ℕ) (arguments parts : List ℕ) → InForm b c call arguments parts →
        PartsStand arguments parts → (n : NewPart p periodic_parameters 2 r) → n.list ≡ start ∷ period ∷ [] →
        NewPart p relative_time 2 start → NewPart p relative_time 2 period → Below b c call r
        → is_among r parts ≡ true → is_among start parts ≡ true → is_among period parts ≡ true →
        Numbers code b c (known_variables p call) r 4
    unfolding declarations_of
    periodic b c call r start period arguments parts s stands n e x y h among first second =
        let below : (e : ℕ) → is_among e n.list ≡ true → Below b c call e × (e < r) =
        λ e a. at_below b c call r e n.position n.name_position n.name n.list n.is_there h a in
        let at_start = below start (ap (is_among start) e ∙ same_first forest accepted whole sorted start (period ∷ []))
        in
        let at_period = below period (ap (is_among period) e ∙ same_second forest accepted whole sorted start period [])
        in
        form_part n.is_there (part_bound r periodic_parameters 2 n (is_part b c call r arguments parts s h among))
        (smaller r n.list (λ e a. (below e a).1))
        (subst (λ xs. AllNumbers code b c (known_variables p call) xs 4) (sym e)
        (more_numbers (leaf b c call start relative_time 2 arguments parts s stands x refl at_start.0 first)
        (more_numbers (leaf b c call period relative_time 2 arguments parts s stands y refl at_period.0 second)
        no_numbers)))
