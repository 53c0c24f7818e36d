-- The variables of bodies of an accepted program: each has one number and a kind, and what a declaration of a local
-- has.
use Rattle.std.proofs.Common.{◌≡◌, ℕ, ◌+◌, ◌<◌, zero, suc, List, [], ◌∷◌, length, filter, position, refl, sym, ap, ◌∙◌, subst, arith, Option, Some, Bool, true, false, ◌&&◌, true≢false, ◌==◌, option_and_then, is_some, slice_get}
use Rattle.std.proofs.lemmas.Option.{slice_get_within}
use Rattle.scj_base.specs.declared.positions.Position.{Position}
use Rattle.scj_tree.specs.declared.nodes.Node.{Node}
use Rattle.scj_tree.specs.declared.nodes.Node.TheVariants.{Local as LocalNode, LocalWithValue}
use Rattle.scj_tree.specs.Forest.{Forest, IsForest}
use Rattle.scj_rules.specs.declared.typing.Binding.{Binding}
use Rattle.scj_rules.specs.declared.typing.Binding.TheVariants.{Local as LocalVariable}
use Rattle.scj_rules.specs.declared.typing.Scope.TheVariants.{This, Caller, In, Any, Unknown, Lost}
use Rattle.scj_rules.specs.declared.typing.Ty.{Ty}
use Rattle.scj_rules.specs.declared.views.Body.TheVariants.{Written}
use Rattle.scj_rules.specs.declared.views.Declared.{Declared}
use Rattle.scj_rules.specs.Words.{holds}
use Rattle.scj_rules.specs.Views.{variable_at, variable_of}
use Rattle.scj_rules.specs.ClassRules.{numbers_from}
use Rattle.scj_rules.specs.Contexts.{Declarations, declarations_of, context}
use Rattle.scj_rules.specs.LimitRules.{is_variable_of, variables_of}
use Rattle.scj_rules.specs.TypeRules.{declared_type_of}
use Rattle.scj_rules.specs.UseRules.{variable_scope_at}
use Rattle.scj_rules.specs.Bindings.{variable_binding, plain_or, binding_of, bindings_in}
use Rattle.scj_rules.specs.Phases.{IsAccepted}
use Rattle.scj_rules.proofs.ChainLemmas.{is_same_number, same_number}
use Rattle.accepted_laws.specs.Judgements.{Inside, binding_at_node}
use Rattle.scj_rules.specs.StaticScopes.{beside}
use Rattle.accepted_laws.specs.Kinds.{Kind, number, truth, reference, kind_of, kind_of_variable, seen_as, seen_kind, Fits, IsRealKind, fresh, yes}
use Rattle.accepted_laws.specs.Sorts.{IsWellSorted}
use Rattle.accepted_laws.proofs.Fields.{In as Element, here as at_head, there as in_tail, in_filter}
use Rattle.accepted_laws.proofs.MemberVariables.{variable_once}
use Rattle.accepted_laws.proofs.RealScopes.{variable_is_real}
use Rattle.accepted_nodes.proofs.DeclaredScopes.{variable_has_scope}
use Rattle.accepted_nodes.proofs.DeclaredTypes.{variable_has_type}
use Rattle.accepted_nodes.proofs.Slots.{position_there, position_stands}
use Rattle.accepted_facts.specs.Statements.{FitsAsSeen}
use Rattle.accepted_facts.proofs.DeclaredKinds.{has_kind, variable_holds}
use Rattle.accepted_facts.proofs.NameFacts.{binding_is}
use Rattle.accepted_facts.proofs.ReturnFacts.{initial_value_facts}
use Rattle.accepted_facts.proofs.StatementFacts.{fits_go}
use Rattle.scj_model.specs.Code.{Code, binding}
use Rattle.scj_model.specs.Operations.{bound_local}
use Rattle.scope_flow.specs.Guards.{SparesGuards}
use Rattle.scope_flow.specs.Needs.{IsVariable}
use Rattle.scope_flow.specs.StatementFacts.{DeclaredFact, InitialValueFact}

pub number_in : {A : Type 0} (xs : List A) (n k : ℕ) → k < length xs → Element (n + k) (numbers_from n xs)
unfolding numbers_from
number_in [] n k l = absurd (omega (arith, l))
number_in (x ∷ xs) n zero l =
    (let e : n ≡ n + 0 = omega arith in subst (λ m. Element m (n ∷ numbers_from (n + 1) xs)) e at_head)
number_in (x ∷ xs) n (suc k) l =
    let e : (n + 1) + k ≡ n + suc k = omega arith in
    subst (λ m. Element m (n ∷ numbers_from (n + 1) xs)) e (in_tail (number_in xs (n + 1) k (omega (arith, l))))

turned : (w v : ℕ) → (w == v) ≡ (v == w)
turned w v = go (w == v) refl (v == w) refl
  where
    go : (a : Bool) → (w == v) ≡ a → (b : Bool) → (v == w) ≡ b → (w == v) ≡ (v == w)
    go true e true f = e ∙ sym f
    go false e false f = e ∙ sym f
    go true e false f = absurd (true≢false (sym (is_same_number v w (sym (same_number w v e))) ∙ f))
    go false e true f = absurd (true≢false (sym (is_same_number w v (sym (same_number v w f))) ∙ e))

pub position_turned : (v : ℕ) (xs : List ℕ) → position (λ w. w == v) xs ≡ position (λ w. v == w) xs
position_turned v xs = ap (λ (test : ℕ → Bool). position test xs) (λ i w. turned w v i)

-- a kind as one sees it in its own body
pub own_kind : (k : Kind) → seen_kind This Caller k ≡ k
unfolding seen_kind seen_as beside
own_kind number = refl
own_kind truth = refl
own_kind yes = refl
own_kind (fresh c s) = refl
own_kind (reference t Any) = refl
own_kind (reference t This) = refl
own_kind (reference t Caller) = refl
own_kind (reference t (In n)) = refl
own_kind (reference t Unknown) = refl
own_kind (reference t Lost) = refl

-- what fits a kind goes to a place of the kind in the same body
pub goes_here : (p : Declarations) (j k : Kind) → IsRealKind k → FitsAsSeen p j k → Fits p This Caller j k
goes_here p j k real h = fits_go p This Caller j k real tt (subst (FitsAsSeen p j) (sym (own_kind k)) h)

module _ (forest : Forest) (accepted : IsAccepted forest) (whole : IsForest forest) (sorted : IsWellSorted forest.nodes)
  where
    abbrev p : Declarations
    p = declarations_of forest

    abbrev code : Code
    code = record { program = p; bindings = bindings_in p }

    -- ---- variables

    pub is_variable_at : (b n v : ℕ) (k : Kind) → slice_get (variables_of p b) n ≡ Some v →
        kind_of_variable p v ≡ Some k → (i : IsVariable p (Written b) n v) × (i.kind ≡ k)
    is_variable_at b n v k stands kind = (
      record { is_there = stands; only = λ j e. variable_once forest b j n v e stands; kind = k; is_kind = kind },
      refl,
    )

    -- each variable has a kind
    pub variable_kind : (b c v : ℕ) (d : Declared) → (context p v).class ≡ Some c → (context p v).member ≡ Some b →
        variable_at p.nodes v ≡ Some d → (k : Kind) × (kind_of_variable p v ≡ Some k)
    unfolding kind_of_variable
    variable_kind b c v d class member e =
        let t = variable_has_type forest accepted sorted v d e in
        let k = has_kind t.0 (variable_scope_at p v) (variable_holds forest sorted v d t.0 e t.1)
        (λ r. variable_has_scope forest accepted whole sorted v b c d t.0 e class member t.1 r) in (
          k.0,
          ap (λ (o : Option Declared). kind_of (option_and_then (declared_type_of p) o) (variable_scope_at p v)) e
              ∙ ap (λ (o : Option Ty). kind_of o (variable_scope_at p v)) t.1 ∙ k.1,
        )

    -- a variable of a member has a number in it
    pub variable_numbered : (b v : ℕ) (d : Declared) → (context p v).member ≡ Some b → variable_at p.nodes v ≡ Some d →
        v < length p.nodes → (n : ℕ) × (slice_get (variables_of p b) n ≡ Some v) ×
        (variable_binding p v v ≡ LocalVariable n)
    unfolding variables_of variable_binding
    variable_numbered b v d member e l =
        let xs : List ℕ = filter (is_variable_of p b) (numbers_from 0 p.nodes) in
        let a : 0 + v ≡ v = omega arith in
        let is : is_variable_of p b v ≡ true =
        ap (λ (o : Option Declared). is_some o && holds (context p v).member (λ m. m == b)) e
        ∙ ap (λ (o : Option ℕ). holds o (λ m. m == b)) member ∙ is_same_number b b refl in
        let n =
        position_there v xs
        (in_filter (is_variable_of p b) v (numbers_from 0 p.nodes)
        (subst (λ m. Element m (numbers_from 0 p.nodes)) a (number_in p.nodes 0 v l)) is) in (
          n.0,
          position_stands v xs n.0 n.1,
          ap (λ (o : Option ℕ). plain_or (λ k. LocalVariable k)
              (option_and_then
              (λ member. position (λ w. w == v) (filter (is_variable_of p member) (numbers_from 0 p.nodes))) o)) member
              ∙ ap (plain_or (λ k. LocalVariable k)) (position_turned v xs ∙ n.1),
        )

    local_of : (o : Binding) (n : ℕ) → o ≡ LocalVariable n → bound_local o ≡ Some n
    unfolding bound_local
    local_of o n e = ap bound_local e

    -- ---- declarations of locals

    record IsLocalNode (id : ℕ) (node : Node) : Type 0 where
      declared : Declared
      is_declared : variable_at p.nodes id ≡ Some declared
      is_bound : binding_at_node p id ≡ variable_binding p id id

    declared_at : (b c id : ℕ) (node : Node) → slice_get p.nodes id ≡ Some node → Inside p b c id → IsLocalNode id node →
        SparesGuards code id id → (k : Kind) → kind_of_variable p id ≡ Some k → (d : DeclaredFact code b id) × (d.is_variable.kind ≡ k)
    declared_at b c id node there inside x spares k kind =
        let n = variable_numbered b id x.declared inside.member x.is_declared (slice_get_within p.nodes id node there) in
        let i = is_variable_at b n.0 id k n.1 kind in
        (record { local = n.0; is = local_of (binding code id) n.0 (x.is_bound ∙ n.2); is_variable = i.0; spares = spares }, i.1)

    pub local_fact : (b c id declared_type : ℕ) (place : Position) (name : List ℕ) (flags : Option ℕ) →
        slice_get forest.nodes id ≡ Some (LocalNode place name flags declared_type) → Inside p b c id →
        SparesGuards code id id → DeclaredFact code b id
    unfolding variable_of binding_of declarations_of
    local_fact b c id declared_type place name flags there inside spares =
        let node : Node = LocalNode place name flags declared_type in
        let e = ap (λ (o : Option Node). option_and_then (variable_of p.nodes id) o) there in
        let k = variable_kind b c id _ inside.class inside.member e in
        (declared_at b c id node there inside
        (record { declared = _; is_declared = e; is_bound = binding_is forest accepted whole sorted id node there })
        spares k.0 k.1).0

    pub initial_value_fact : (b c id value declared_type : ℕ) (place name_position : Position) (name : List ℕ)
        (flags : Option ℕ) →
        slice_get forest.nodes id ≡ Some (LocalWithValue place name_position name flags declared_type value) →
        Inside p b c id → SparesGuards code id id → InitialValueFact code b c id value
    unfolding variable_of binding_of declarations_of
    initial_value_fact b c id value declared_type place name_position name flags there inside spares =
        let node : Node = LocalWithValue place name_position name flags declared_type value in
        let e = ap (λ (o : Option Node). option_and_then (variable_of p.nodes id) o) there in
        let f = initial_value_facts forest accepted whole sorted b c id value declared_type place name_position name flags
        there inside in
        let d =
        declared_at b c id node there inside
        (record { declared = _; is_declared = e; is_bound = binding_is forest accepted whole sorted id node there })
        spares f.expected f.variable_is in
        record {
          declared = d.0;
          fits = record {
            kind = f.given;
            value_is = (f.value_is.child, f.value_is.judged);
            fits =
                subst (Fits p This Caller f.given) (sym d.1)
                (goes_here p f.given f.expected (variable_is_real p id f.expected f.variable_is) f.fit);
          };
        }
