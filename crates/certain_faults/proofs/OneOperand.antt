-- An expression of a body that has a value leaves one operand.
use Rattle.std.specs.Prelude.{Option, Some, None, is_some, slice_get, ◌&&◌, ◌==◌, if◌then◌else◌}
use Rattle.std.proofs.Common.{◌≡◌, ℕ, zero, suc, ◌<◌, List, [], ◌∷◌, Bool, true, false, refl, sym, ◌∙◌, ap, subst, arith, ◌⊎◌, inl, inr}
use Rattle.scj_base.specs.declared.positions.Position.{Position}
use Rattle.scj_base.specs.declared.values.Value.{Value}
use Rattle.scj_builtins.specs.Framework.{managed_memory_alloc_in_same, device_read}
use Rattle.scj_tree.specs.declared.nodes.Node.{Node}
use Rattle.scj_tree.specs.declared.nodes.Node.TheVariants.{Binary, Unary, Cast, Parenthesized, SimpleName, FieldAccess, Call, Element, New, NewArray, Number, True, False, Null, This}
use Rattle.scj_tree.proofs.RecursionLemmas.{by_smaller-is}
use Rattle.scj_rules.specs.declared.typing.Binding.{Binding}
use Rattle.scj_rules.specs.declared.typing.Binding.TheVariants.{Local, Field, Static, Length, Class as ClassNamed, Method, StaticMethod, Builtin}
use Rattle.scj_rules.specs.declared.typing.Scope.{Scope}
use Rattle.scj_rules.specs.declared.typing.Target.{Target}
use Rattle.scj_rules.specs.Words.{◌>>=◌}
use Rattle.accepted_laws.specs.Judgements.{Inside, Judged}
use Rattle.accepted_laws.specs.Kinds.{Kind}
use Rattle.scj_model.specs.Code.{Code, binding, part}
use Rattle.scj_model.specs.Memory.{literal_value}
use Rattle.scj_model.specs.Ops.{leaves_value}
use Rattle.scope_flow.specs.CallFacts.{ReceiverIs, CallFact, StaticCallFact, BuiltinFact, BuiltinCases, ExpressionFact}
use Rattle.scope_flow.specs.Facts.{Facts}
use Rattle.scope_flow.specs.Signatures.{Signature, IsBody}
use Rattle.scope_flow.specs.ValueFacts.{HasValue, HaveValues}
use Rattle.certain_faults.specs.declared.known.Known.{Known}
use Rattle.certain_faults.specs.declared.known.Known.TheVariants.{Unknown, Object}
use Rattle.certain_faults.specs.declared.known.Left.{Left}
use Rattle.certain_faults.specs.declared.known.Left.TheVariants.{Forgets, Zero, One, Two, Four}
use Rattle.certain_faults.specs.Known.{unary_known, operator_known, in_place_of, in_place_of_two, left_by_literal, left_by_name, left_by_access, leaves_one, all_leave_one, left_by_new, leaves_receiver, left_by_method, left_by_read, left_by_same, left_by_builtin, left_by_call, left_by_node, next_left, left_by}
use Rattle.certain_faults.proofs.Passes.{left_below}
use Rattle.certain_faults.proofs.Ends.{below_is}

-- ---- in the place of other operands

one_again : (l : Left) (f : Known → Known) → leaves_one l ≡ true → leaves_one (in_place_of l f) ≡ true
unfolding leaves_one in_place_of
one_again (One a) f e = refl
one_again Forgets f e = absurd (cc (e))
one_again Zero f e = absurd (cc (e))
one_again (Two a b) f e = absurd (cc (e))
one_again (Four a b c d) f e = absurd (cc (e))

one_of_two : (l r : Left) (f : Known → Known → Known) → leaves_one l ≡ true → leaves_one r ≡ true →
    leaves_one (in_place_of_two l r f) ≡ true
unfolding leaves_one in_place_of_two
one_of_two (One a) (One b) f e k = refl
one_of_two (One a) Forgets f e k = absurd (cc (k))
one_of_two (One a) Zero f e k = absurd (cc (k))
one_of_two (One a) (Two b c) f e k = absurd (cc (k))
one_of_two (One a) (Four b c d g) f e k = absurd (cc (k))
one_of_two Forgets r f e k = absurd (cc (e))
one_of_two Zero r f e k = absurd (cc (e))
one_of_two (Two a b) r f e k = absurd (cc (e))
one_of_two (Four a b c d) r f e k = absurd (cc (e))

both : (a b : Bool) → a ≡ true → b ≡ true → (a && b) ≡ true
both true true e k = refl
both true false e k = absurd (cc (k))
both false b e k = absurd (cc (e))

method_leaves : (left : ℕ → Left) (arguments : List ℕ) (gives : Bool) → gives ≡ true →
    all_leave_one left arguments ≡ true → leaves_one (left_by_method left arguments gives) ≡ true
unfolding leaves_one left_by_method
method_leaves left arguments gives g a =
    ap (λ (b : Bool). leaves_one (if b then One Unknown else Forgets)) (both gives (all_leave_one left arguments) g a)

-- a call that gives a value is bound to a method that leaves one
gives_method : (b : Binding) (t : Target) (o : Option Kind) (k : Kind) → b ≡ Method t → o ≡ Some k →
    leaves_value b ≡ is_some o → t.gives ≡ true
unfolding leaves_value
gives_method b t o k e s h = sym (ap leaves_value e) ∙ h ∙ ap is_some s

gives_static : (b : Binding) (t : Target) (o : Option Kind) (k : Kind) → b ≡ StaticMethod t → o ≡ Some k →
    leaves_value b ≡ is_some o → t.gives ≡ true
unfolding leaves_value
gives_static b t o k e s h = sym (ap leaves_value e) ∙ h ∙ ap is_some s

-- ---- all expressions

module _ (code : Code) (facts : Facts code) (b c : ℕ) (sig : Signature) (body : IsBody code.program b c sig) where
  -- those of smaller numbers
  abbrev Before : ℕ → Type 0
  Before id =
      (x : ℕ) → x < id → (k : Kind) → Inside code.program b c x → Judged code.program x (Some k) →
      leaves_one (left_by code x) ≡ true

  module _ (id : ℕ) (before : Before id) where
    abbrev left : ℕ → Left
    left = left_below code id

    child : (x : ℕ) (k : Kind) → HasValue code.program b c id x (Some k) → leaves_one (left_below code id x) ≡ true
    child x k h = ap leaves_one (below_is code id x h.0.smaller) ∙ before x h.0.smaller k h.0.inside h.1

    children : (xs : List ℕ) (ks : List Kind) → HaveValues code.program b c id xs ks →
        all_leave_one (left_below code id) xs ≡ true
    children [] [] h = refl
    children (x ∷ xs) (k ∷ ks) h =
        both (leaves_one (left_below code id x)) (all_leave_one (left_below code id) xs) (child x k h.0) (children xs ks h.1)
    children [] (k ∷ ks) h = absurd h
    children (x ∷ xs) [] h = absurd h

    receiver : (object : Option ℕ) (class : ℕ) (scope : Scope) → ReceiverIs code.program b c id object class scope →
        leaves_receiver (left_below code id) object ≡ true
    unfolding leaves_receiver
    receiver None class scope r = refl
    receiver (Some object) class scope r = child object _ r

    literal : (node : Node) (v : Value) → slice_get code.program.nodes id ≡ Some node → literal_value node ≡ Some v →
        leaves_one (left_by_literal (part code literal_value id)) ≡ true
    unfolding leaves_one left_by_literal
    literal node v there e =
        ap (λ (o : Option Value). leaves_one (left_by_literal o)) (ap (λ (o : Option Node). o >>= literal_value) there ∙ e)

    name_leaves : (x : Binding) → binding code id ≡ x → leaves_one (left_by_name x) ≡ true →
        leaves_one (left_by_name (binding code id)) ≡ true
    name_leaves x e h = ap (λ (y : Binding). leaves_one (left_by_name y)) e ∙ h

    read_leaves : (xs : List ℕ) (x : ℕ) (k : Kind) → xs ≡ x ∷ [] → HasValue code.program b c id x (Some k) → (m : ℕ) →
        m ≡ device_read → leaves_one (left_by_builtin (left_below code id) xs m) ≡ true
    unfolding left_by_builtin left_by_read
    read_leaves xs x k are h m e =
        ap (λ (n : ℕ). leaves_one (left_by_builtin (left_below code id) xs n)) e
        ∙ (ap (λ (ys : List ℕ). leaves_one (left_by_builtin (left_below code id) ys device_read)) are
        ∙ one_again (left_below code id x) (λ a. Unknown) (child x k h))

    same_leaves : (xs : List ℕ) (x y : ℕ) (k l : Kind) → xs ≡ x ∷ (y ∷ []) → HasValue code.program b c id x (Some k) →
        HasValue code.program b c id y (Some l) → (m : ℕ) → m ≡ managed_memory_alloc_in_same →
        leaves_one (left_by_builtin (left_below code id) xs m) ≡ true
    unfolding left_by_builtin left_by_same
    same_leaves xs x y k l are h i m e =
        ap (λ (n : ℕ). leaves_one (left_by_builtin (left_below code id) xs n)) e
        ∙ (ap (λ (ys : List ℕ). leaves_one (left_by_builtin (left_below code id) ys managed_memory_alloc_in_same)) are
        ∙ one_of_two (left_below code id x) (left_below code id y) (λ a z. Unknown) (child x k h) (child y l i))

    builtin_leaves : (object : Option ℕ) (xs : List ℕ) (m on : ℕ) (k : Kind) →
        BuiltinCases code b c sig id object xs m on (Some k) → leaves_one (left_by_builtin (left_below code id) xs m) ≡ true
    builtin_leaves object xs m on k (inl r) = absurd (let e = r.is_given in cc (e))
    builtin_leaves object xs m on k (inr (inl r)) = absurd (let e = r.is_given in cc (e))
    builtin_leaves object xs m on k (inr (inr (inl r))) = absurd (let e = r.is_given in cc (e))
    builtin_leaves object xs m on k (inr (inr (inr (inl r)))) = absurd (let e = r.is_given in cc (e))
    builtin_leaves object xs m on k (inr (inr (inr (inr (inl r))))) = read_leaves xs r.port _ r.are r.port_is m r.is_method
    builtin_leaves object xs m on k (inr (inr (inr (inr (inr (inl r)))))) = absurd (let e = r.1.is_given in cc (e))
    builtin_leaves object xs m on k (inr (inr (inr (inr (inr (inr (inl r))))))) = absurd (let e = r.1.is_given in cc (e))
    builtin_leaves object xs m on k (inr (inr (inr (inr (inr (inr (inr (inl r)))))))) =
        absurd (let e = r.1.receiver.is_given in cc (e))
    builtin_leaves object xs m on k (inr (inr (inr (inr (inr (inr (inr (inr r)))))))) =
        same_leaves xs r.first r.second _ _ r.are r.first_is r.second_is m r.is_method

    call_leaves : (object : Option ℕ) (xs : List ℕ) (k : Kind) →
        CallFact code b c sig id object xs (Some k)
        ⊎ (StaticCallFact code b c sig id xs (Some k) ⊎ BuiltinFact code b c sig id object xs (Some k)) →
        leaves_one (left_by_call (left_below code id) object xs (binding code id)) ≡ true
    unfolding left_by_call
    call_leaves object xs k (inl r) =
        ap (λ (y : Binding). leaves_one (left_by_call (left_below code id) object xs y)) r.is
        ∙ method_leaves (left_below code id) xs (r.target.gives && leaves_receiver (left_below code id) object)
        (both r.target.gives (leaves_receiver (left_below code id) object)
        (gives_method (binding code id) r.target (Some k) k r.is refl r.is_left)
        (receiver object r.class r.scope r.receiver_is)) (children xs r.kinds r.arguments_are)
    call_leaves object xs k (inr (inl r)) =
        ap (λ (y : Binding). leaves_one (left_by_call (left_below code id) object xs y)) r.is
        ∙ method_leaves (left_below code id) xs r.target.gives
        (gives_static (binding code id) r.target (Some k) k r.is refl r.is_left) (children xs r.kinds r.arguments_are)
    call_leaves object xs k (inr (inr r)) =
        ap (λ (y : Binding). leaves_one (left_by_call (left_below code id) object xs y)) r.is
        ∙ builtin_leaves object xs r.target.id r.target.on k r.cases

    new_leaves : (xs : List ℕ) (class : ℕ) (ks : List Kind) → binding code id ≡ ClassNamed class →
        HaveValues code.program b c id xs ks → leaves_one (left_by_new (left_below code id) xs (binding code id)) ≡ true
    unfolding left_by_new leaves_one
    new_leaves xs class ks e h =
        ap (λ (y : Binding). leaves_one (left_by_new (left_below code id) xs y)) e
        ∙ ap (λ (z : Bool). leaves_one (if z then One Object else Forgets)) (children xs ks h)

    node_leaves : (node : Node) (k : Kind) → slice_get code.program.nodes id ≡ Some node →
        ExpressionFact code b c sig id node (Some k) → leaves_one (left_by_node code (left_below code id) id node) ≡ true
    unfolding ExpressionFact left_by_node literal_value left_by_name left_by_access leaves_one
    node_leaves (Number position value negative) k there r = literal (Number position value negative) _ there refl
    node_leaves (True position) k there r = literal (True position) _ there refl
    node_leaves (False position) k there r = literal (False position) _ there refl
    node_leaves (Null position) k there r = literal (Null position) _ there refl
    node_leaves (This position) k there r = refl
    node_leaves (SimpleName position name) k there (inl r) = name_leaves (Local r.local) r.is refl
    node_leaves (SimpleName position name) k there (inr (inl r)) = name_leaves (Field r.field) r.is refl
    node_leaves (SimpleName position name) k there (inr (inr r)) = name_leaves (Static r.field) r.is refl
    node_leaves (Parenthesized position inner) k there r = child inner k r
    node_leaves (FieldAccess position name object) k there (inl r) =
        ap (λ (y : Binding). leaves_one (left_by_access y (left_below code id object))) r.is
        ∙ one_again (left_below code id object) (λ a. Unknown) (child object _ r.object_is)
    node_leaves (FieldAccess position name object) k there (inr (inl r)) =
        ap (λ (y : Binding). leaves_one (left_by_access y (left_below code id object))) r.is
    node_leaves (FieldAccess position name object) k there (inr (inr r)) =
        ap (λ (y : Binding). leaves_one (left_by_access y (left_below code id object))) r.is
        ∙ one_again (left_below code id object) (λ a. Unknown) (child object _ r.array_is)
    node_leaves (Element position array index) k there r =
        one_of_two (left_below code id array) (left_below code id index) (λ a z. Unknown) (child array _ r.array_is)
        (child index _ r.index_is)
    node_leaves (Unary position operator operand) k there r =
        one_again (left_below code id operand) (unary_known operator) (child operand _ r.operand_is)
    node_leaves (Binary position operator l x) k there (inl r) =
        one_of_two (left_below code id l) (left_below code id x) (operator_known operator) (child l _ r.1.left_is)
        (child x _ r.1.right_is)
    node_leaves (Binary position operator l x) k there (inr r) =
        one_of_two (left_below code id l) (left_below code id x) (operator_known operator) (child l _ r.left_is)
        (child x _ r.right_is)
    node_leaves (New position name_position name xs) k there r = new_leaves xs r.class r.kinds r.is r.arguments_are
    node_leaves (NewArray position element count) k there r =
        one_again (left_below code id count) (λ a. Object) (child count _ r.count_is)
    node_leaves (Cast position name_position name operand) k there r =
        one_again (left_below code id operand) (λ a. Unknown) (child operand _ r.operand_is)
    node_leaves (Call position name object xs) k there r = call_leaves object xs k r
    node_leaves _ k there r = absurd r

    one : (k : Kind) → Inside code.program b c id → Judged code.program id (Some k) → leaves_one (left_by code id) ≡ true
    unfolding next_left left_by
    one k i j =
        ap leaves_one (by_smaller-is Forgets (next_left code) id)
        ∙ (ap (λ (o : Option Node). leaves_one (elim o as (λ z. Left) [
          | None ↦ Forgets
          | Some node ↦ left_by_node code (left_below code id) id node
        ])) i.here.1
        ∙ node_leaves i.here.0 k i.here.1 (facts.expressions b c sig id i.here.0 (Some k) body i i.here.1 j))

  all_before : (n : ℕ) → Before n
  all_before zero x l k i j = absurd (omega (arith, l))
  all_before (suc n) x l k i j = one x (λ y m h. all_before n y (omega (arith, l, m)) h) k i j

  pub value_leaves : (x : ℕ) (k : Kind) → Inside code.program b c x → Judged code.program x (Some k) →
      leaves_one (left_by code x) ≡ true
  value_leaves x k i j = all_before (suc x) x (omega arith) k i j
