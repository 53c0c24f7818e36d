-- The operations of the arguments of a super call: none looks at the object that is being made.
use Rattle.std.specs.Prelude.{Option, Some, None, flat_map, slice_get, if◌then◌else◌, ◌==◌}
use Rattle.std.proofs.Common.{◌≡◌, ◌⊎◌, ℕ, zero, suc, ◌<◌, List, [], ◌∷◌, ◌++◌, Bool, true, false, refl, sym, ◌∙◌, ap, subst, arith, inl, inr, ◌||◌}
use Rattle.scj_base.specs.declared.positions.Position.{Position}
use Rattle.scj_base.specs.Vocabulary.{sign_and_and, sign_or_or}
use Rattle.scj_tree.specs.declared.nodes.Node.{Node}
use Rattle.scj_tree.specs.declared.nodes.Node.TheVariants.{Binary, Unary, Cast, Parenthesized, SimpleName, FieldAccess, Call, Element, New, NewArray, Number, True, False, Null, SuperCall, This}
use Rattle.scj_tree.specs.Recursion.{below}
use Rattle.scj_tree.specs.Shape.{children, optional}
use Rattle.scj_rules.specs.declared.typing.Binding.{Binding}
use Rattle.scj_rules.specs.declared.typing.Binding.TheVariants.{Local, Field, Static, Length, Method}
use Rattle.scj_rules.specs.declared.typing.Target.{Target}
use Rattle.scj_rules.specs.Words.{is_among}
use Rattle.accepted_laws.specs.Kinds.{Kind, number, reference}
use Rattle.accepted_laws.specs.Judgements.{Inside, Judged}
use Rattle.scj_model.specs.declared.operations.Op.{Op}
use Rattle.scj_model.specs.declared.operations.Op.TheVariants.{Push as PUSH, Load as LOAD, Get as GET, GetStatic as GETSTATIC, Length as LENGTH, Elem as ELEM, Unary as UNARY, Bin as BIN, And as AND, Or as OR, Alloc as ALLOC, Construct as CONSTRUCT, AllocArray as ALLOCARRAY, Call as CALL, CallStatic as CALLSTATIC, Cast as CAST, Read as READ, Same as SAME}
use Rattle.scj_model.specs.Code.{Code, binding, part}
use Rattle.scj_model.specs.Ops.{access_ops, binary_ops, builtin_ops, call_ops, name_ops, new_ops, node_ops, ops_of, receiver_ops, right_operand}
use Rattle.scope_flow.specs.CallFacts.{BuiltinCases, BuiltinFact, CallFact, ExpressionFact, ReceiverIs, StaticCallFact}
use Rattle.scope_flow.specs.Facts.{Facts}
use Rattle.scope_flow.specs.Signatures.{Signature, IsBody}
use Rattle.scope_flow.specs.ValueFacts.{FieldFact, HasValue, HaveValues, LengthFact, StaticFact}
use Rattle.scope_flow.proofs.Flows.{ops_at}
use Rattle.scope_flow.proofs.Known.{among_first, below_lt}
use Rattle.memory_bounds.proofs.Above.{UsesThis}
use Rattle.memory_bounds.proofs.Making.{AllInner, inner_both}
use Rattle.memory_bounds.proofs.Makers.{InnerLaws, IsStraight}

-- what is asked of the nodes that stand in a super call: their parts stand there too, and no object is at hand
pub record StandWithoutObject (code : Code) (InSuper : ℕ → Type 0) : Type 0 where
  pub first : (call x : ℕ) (position : Position) (arguments : List ℕ) →
      slice_get code.program.nodes call ≡ Some (SuperCall position arguments) → is_among x arguments ≡ true → InSuper x
  pub down : (id x : ℕ) (node : Node) → slice_get code.program.nodes id ≡ Some node →
      is_among x (children node) ≡ true → InSuper id → InSuper x
  pub this : (id : ℕ) (position : Position) → slice_get code.program.nodes id ≡ Some (This position) → InSuper id → ⊥
  pub field : (id k : ℕ) (position : Position) (name : List ℕ) →
      slice_get code.program.nodes id ≡ Some (SimpleName position name) → binding code id ≡ Field k → InSuper id → ⊥
  pub call : (b c id : ℕ) (position : Position) (name arguments : List ℕ) (t : Target) →
      slice_get code.program.nodes id ≡ Some (Call position name None arguments) → Inside code.program b c id →
      binding code id ≡ Method t → InSuper id → ⊥

pub later : (x y : ℕ) (xs : List ℕ) → is_among x xs ≡ true → is_among x (y ∷ xs) ≡ true
later x y xs h = go (x == y)
  where
    go : (t : Bool) → (t || is_among x xs) ≡ true
    go true = refl
    go false = h

module _ (code : Code) (facts : Facts code) (InSuper : ℕ → Type 0) (laws : StandWithoutObject code InSuper) where
  -- a value in a super call
  pub record Clean (id : ℕ) : Type 0 where
    pub body : ℕ
    pub class : ℕ
    pub sig : Signature
    pub is_body : IsBody code.program body class sig
    pub kind : Kind
    pub inside : Inside code.program body class id
    pub judged : Judged code.program id (Some kind)
    pub stands : InSuper id

  pub record Inner (op : Op) : Type 0 where
    pub own : UsesThis op → ⊥
    pub straight : IsStraight op
    pub right : (id x : ℕ) → (op ≡ AND id) ⊎ (op ≡ OR id) → part code right_operand id ≡ Some x → Clean x

  abbrev All : List Op → Type 0
  All ops = AllInner code Inner ops

  -- an operation that puts nothing in front
  plain : (op : Op) → (UsesThis op → ⊥) → IsStraight op → ((id : ℕ) → op ≡ AND id → ⊥) → ((id : ℕ) → op ≡ OR id → ⊥) →
      Inner op
  plain op own straight a o = record {
    own = own;
    straight = straight;
    right = λ id x w e. absurd (either id w);
  }
    where
      either : (id : ℕ) → (op ≡ AND id) ⊎ (op ≡ OR id) → ⊥
      either id (inl e) = a id e
      either id (inr e) = o id e

  alone : (op : Op) → Inner op → All (op ∷ [])
  alone op i = (i, tt)

  followed : (xs : List Op) (op : Op) → All xs → Inner op → All (xs ++ op ∷ [])
  followed xs op a i = inner_both code Inner xs (op ∷ []) a (i, tt)

  -- ---- the parts of a node

  module _ (b c : ℕ) (sig : Signature) (body : IsBody code.program b c sig) (id : ℕ)
      (before : (x : ℕ) → x < id → Clean x → All (ops_of code x)) (stands : InSuper id)
      (inside : Inside code.program b c id) where
    abbrev sub : ℕ → List Op
    sub = below [] id (ops_of code)

    child : (x : ℕ) (k : Kind) → HasValue code.program b c id x (Some k) → InSuper x → All (below [] id (ops_of code) x)
    child x k h i =
        subst All (sym (below_lt [] id (ops_of code) x h.0.smaller))
        (before x h.0.smaller (record {
          body = b;
          class = c;
          sig = sig;
          is_body = body;
          kind = k;
          inside = h.0.inside;
          judged = h.1;
          stands = i;
        }))

    all_children : (xs : List ℕ) (ks : List Kind) → HaveValues code.program b c id xs ks →
        ((x : ℕ) → is_among x xs ≡ true → InSuper x) → All (flat_map (below [] id (ops_of code)) xs)
    all_children [] ks h i = tt
    all_children (x ∷ xs) [] h i = absurd h
    all_children (x ∷ xs) (k ∷ ks) h i =
        inner_both code Inner (below [] id (ops_of code) x) (flat_map (below [] id (ops_of code)) xs)
        (child x k h.0 (i x (among_first xs x)))
        (all_children xs ks h.1 (λ y a. i y (later y x xs a)))

    module _ (node : Node) (there : slice_get code.program.nodes id ≡ Some node) where
      below_it : (x : ℕ) → is_among x (children node) ≡ true → InSuper x
      below_it x a = laws.down id x node there a stands

    -- ---- operators on two operands

    right_is : (position : Position) (operator l r : ℕ) → slice_get code.program.nodes id ≡ Some (Binary position operator l r) →
        part code right_operand id ≡ Some r
    unfolding right_operand
    right_is position operator l r there =
        ap (λ (o : Option Node). elim o as (λ z. Option ℕ) [ None ↦ None | Some n ↦ right_operand n ]) there

    short_inner : (op : Op) → (op ≡ AND id) ⊎ (op ≡ OR id) → (UsesThis op → ⊥) → IsStraight op →
        (position : Position) (operator l r : ℕ) → slice_get code.program.nodes id ≡ Some (Binary position operator l r) →
        (k : Kind) → HasValue code.program b c id r (Some k) → InSuper r → Inner op
    short_inner op which own straight position operator l r there k h i = record {
      own = own;
      straight = straight;
      right = λ n x w e. at n x (number n w) e;
    }
      where
        number : (n : ℕ) → (op ≡ AND n) ⊎ (op ≡ OR n) → n ≡ id
        number n w = by which w
          where
            by : (op ≡ AND id) ⊎ (op ≡ OR id) → (op ≡ AND n) ⊎ (op ≡ OR n) → n ≡ id
            by (inl e) (inl q) = cc (e, q)
            by (inr e) (inr q) = cc (e, q)
            by (inl e) (inr q) = absurd (cc (e, q))
            by (inr e) (inl q) = absurd (cc (e, q))

        at : (n x : ℕ) → n ≡ id → part code right_operand n ≡ Some x → Clean x
        at n x same e =
            let one : r ≡ x =
            (let z : Some r ≡ Some x =
            sym (right_is position operator l r there) ∙ (ap (λ m. part code right_operand m) (sym same) ∙ e) in cc (z)) in
            subst Clean one (record {
              body = b;
              class = c;
              sig = sig;
              is_body = body;
              kind = k;
              inside = h.0.inside;
              judged = h.1;
              stands = i;
            })

    binary_inner : (position : Position) (operator l r : ℕ) (j k : Kind) →
        slice_get code.program.nodes id ≡ Some (Binary position operator l r) →
        HasValue code.program b c id l (Some j) → HasValue code.program b c id r (Some k) →
        All (binary_ops (below [] id (ops_of code)) id operator l r)
    unfolding binary_ops children IsStraight UsesThis
    binary_inner position operator l r j k there hl hr =
        go (operator == sign_and_and) (operator == sign_or_or)
      where
        in_left : InSuper l
        in_left = laws.down id l (Binary position operator l r) there (among_first (r ∷ []) l) stands

        in_right : InSuper r
        in_right =
            laws.down id r (Binary position operator l r) there (later r l (r ∷ []) (among_first [] r)) stands

        go : (a o : Bool) → All
            (if a then below [] id (ops_of code) l ++ AND id ∷ []
            else (if o then below [] id (ops_of code) l ++ OR id ∷ []
            else (below [] id (ops_of code) l ++ (below [] id (ops_of code) r ++ BIN id ∷ []))))
        go true o =
            followed (below [] id (ops_of code) l) (AND id) (child l j hl in_left)
            (short_inner (AND id) (inl refl) (λ x. x) tt position operator l r there k hr in_right)
        go false true =
            followed (below [] id (ops_of code) l) (OR id) (child l j hl in_left)
            (short_inner (OR id) (inr refl) (λ x. x) tt position operator l r there k hr in_right)
        go false false =
            inner_both code Inner (below [] id (ops_of code) l) (below [] id (ops_of code) r ++ BIN id ∷ [])
            (child l j hl in_left)
            (followed (below [] id (ops_of code) r) (BIN id) (child r k hr in_right)
            (plain (BIN id) (λ x. x) tt (λ n e. cc (e)) (λ n e. cc (e))))

    -- ---- names, and calls

    name_inner : (position : Position) (name : List ℕ) (x : Binding) →
        slice_get code.program.nodes id ≡ Some (SimpleName position name) → binding code id ≡ x →
        All (name_ops id x)
    unfolding name_ops IsStraight UsesThis
    name_inner position name (Local k) there e =
        alone (LOAD id) (plain (LOAD id) (λ x. x) tt (λ n e. cc (e)) (λ n e. cc (e)))
    name_inner position name (Field k) there e = absurd (laws.field id k position name there e stands)
    name_inner position name (Static k) there e =
        alone (GETSTATIC id) (plain (GETSTATIC id) (λ x. x) tt (λ n e. cc (e)) (λ n e. cc (e)))
    name_inner position name _ there e = tt

    access_inner : (object : ℕ) (x : Binding) → ((k : Kind) → HasValue code.program b c id object (Some k) →
        All (below [] id (ops_of code) object)) →
        (binding code id ≡ x) → ((k : Kind) × HasValue code.program b c id object (Some k)) ⊎ ((n : ℕ) × (x ≡ Static n)) →
        All (access_ops (below [] id (ops_of code)) id object x)
    unfolding access_ops IsStraight UsesThis
    access_inner object (Field k) own e (inl h) =
        followed (below [] id (ops_of code) object) (GET id) (own h.0 h.1)
        (plain (GET id) (λ x. x) tt (λ n e. cc (e)) (λ n e. cc (e)))
    access_inner object (Field k) own e (inr h) = absurd (let q = h.1 in cc (q))
    access_inner object (Static k) own e h =
        alone (GETSTATIC id) (plain (GETSTATIC id) (λ x. x) tt (λ n e. cc (e)) (λ n e. cc (e)))
    access_inner object Length own e (inl h) =
        followed (below [] id (ops_of code) object) (LENGTH id) (own h.0 h.1)
        (plain (LENGTH id) (λ x. x) tt (λ n e. cc (e)) (λ n e. cc (e)))
    access_inner object Length own e (inr h) = absurd (let q = h.1 in cc (q))
    access_inner object _ own e h = tt

    -- a call of a method
    receiver_inner : (position : Position) (name : List ℕ) (object : Option ℕ) (xs : List ℕ) (t : Target) (class : ℕ) (scope : _) →
        slice_get code.program.nodes id ≡ Some (Call position name object xs) → binding code id ≡ Method t →
        ReceiverIs code.program b c id object class scope → All (receiver_ops (below [] id (ops_of code)) id object)
    unfolding receiver_ops children
    receiver_inner position name None xs t class scope there e r = absurd (laws.call b c id position name xs t there inside e stands)
    receiver_inner position name (Some object) xs t class scope there e r =
        child object _ r (laws.down id object (Call position name (Some object) xs) there (among_first xs object) stands)

    among_arguments : (object : Option ℕ) (xs : List ℕ) (x : ℕ) → is_among x xs ≡ true →
        is_among x (optional object ++ xs) ≡ true
    among_arguments None xs x h = h
    among_arguments (Some object) xs x h = later x object xs h

    arguments_inner : (position : Position) (name : List ℕ) (object : Option ℕ) (xs : List ℕ) (ks : List Kind) →
        slice_get code.program.nodes id ≡ Some (Call position name object xs) → HaveValues code.program b c id xs ks →
        All (flat_map (below [] id (ops_of code)) xs)
    unfolding children
    arguments_inner position name object xs ks there h =
        all_children xs ks h (λ x a. laws.down id x (Call position name object xs) there (among_arguments object xs x a) stands)

    -- of the calls of the framework two give a value
    builtin_inner : (position : Position) (name : List ℕ) (object : Option ℕ) (xs : List ℕ) (m on : ℕ) (k : Kind) →
        slice_get code.program.nodes id ≡ Some (Call position name object xs) →
        BuiltinCases code b c sig id object xs m on (Some k) →
        All (builtin_ops (below [] id (ops_of code)) id object xs m)
    unfolding builtin_ops IsStraight UsesThis
    builtin_inner position name object xs m on k there (inl r) = absurd (let e = r.is_given in cc (e))
    builtin_inner position name object xs m on k there (inr (inl r)) = absurd (let e = r.is_given in cc (e))
    builtin_inner position name object xs m on k there (inr (inr (inl r))) = absurd (let e = r.is_given in cc (e))
    builtin_inner position name object xs m on k there (inr (inr (inr (inl r)))) = absurd (let e = r.is_given in cc (e))
    builtin_inner position name object xs m on k there (inr (inr (inr (inr (inl r))))) =
        subst (λ n. All (builtin_ops (below [] id (ops_of code)) id object xs n)) (sym r.is_method)
        (followed (flat_map (below [] id (ops_of code)) xs) (READ id)
        (arguments_inner position name object xs (number ∷ []) there
        (subst (λ (ys : List ℕ). HaveValues code.program b c id ys (number ∷ [])) (sym r.are) (r.port_is, tt)))
        (plain (READ id) (λ x. x) tt (λ n e. cc (e)) (λ n e. cc (e))))
    builtin_inner position name object xs m on k there (inr (inr (inr (inr (inr (inl r)))))) =
        absurd (let e = r.1.is_given in cc (e))
    builtin_inner position name object xs m on k there (inr (inr (inr (inr (inr (inr (inl r))))))) =
        absurd (let e = r.1.is_given in cc (e))
    builtin_inner position name object xs m on k there (inr (inr (inr (inr (inr (inr (inr (inl r)))))))) =
        absurd (let e = r.1.receiver.is_given in cc (e))
    builtin_inner position name object xs m on k there (inr (inr (inr (inr (inr (inr (inr (inr r)))))))) =
        subst (λ n. All (builtin_ops (below [] id (ops_of code)) id object xs n)) (sym r.is_method)
        (followed (flat_map (below [] id (ops_of code)) xs) (SAME id)
        (arguments_inner position name object xs
        (reference r.first_type r.first_scope ∷ (reference r.second_type r.second_scope ∷ [])) there
        (subst (λ (ys : List ℕ). HaveValues code.program b c id ys
        (reference r.first_type r.first_scope ∷ (reference r.second_type r.second_scope ∷ []))) (sym r.are)
        (r.first_is, (r.second_is, tt))))
        (plain (SAME id) (λ x. x) tt (λ n e. cc (e)) (λ n e. cc (e))))

    call_inner : (position : Position) (name : List ℕ) (object : Option ℕ) (xs : List ℕ) (k : Kind) →
        slice_get code.program.nodes id ≡ Some (Call position name object xs) →
        CallFact code b c sig id object xs (Some k)
        ⊎ (StaticCallFact code b c sig id xs (Some k) ⊎ BuiltinFact code b c sig id object xs (Some k)) →
        All (call_ops (below [] id (ops_of code)) id object xs (binding code id))
    unfolding call_ops IsStraight UsesThis
    call_inner position name object xs k there (inl r) =
        subst (λ (x : Binding). All (call_ops (below [] id (ops_of code)) id object xs x)) (sym r.is)
        (inner_both code Inner (receiver_ops (below [] id (ops_of code)) id object)
        (flat_map (below [] id (ops_of code)) xs ++ CALL id ∷ [])
        (receiver_inner position name object xs r.target r.class r.scope there r.is r.receiver_is)
        (followed (flat_map (below [] id (ops_of code)) xs) (CALL id)
        (arguments_inner position name object xs r.kinds there r.arguments_are)
        (plain (CALL id) (λ x. x) tt (λ n e. cc (e)) (λ n e. cc (e)))))
    call_inner position name object xs k there (inr (inl r)) =
        subst (λ (x : Binding). All (call_ops (below [] id (ops_of code)) id object xs x)) (sym r.is)
        (followed (flat_map (below [] id (ops_of code)) xs) (CALLSTATIC id)
        (arguments_inner position name object xs r.kinds there r.arguments_are)
        (plain (CALLSTATIC id) (λ x. x) tt (λ n e. cc (e)) (λ n e. cc (e))))
    call_inner position name object xs k there (inr (inr r)) =
        subst (λ (x : Binding). All (call_ops (below [] id (ops_of code)) id object xs x)) (sym r.is)
        (builtin_inner position name object xs r.target.id r.target.on k there r.cases)

    node_inner : (node : Node) (k : Kind) → slice_get code.program.nodes id ≡ Some node →
        ExpressionFact code b c sig id node (Some k) → All (node_ops code (below [] id (ops_of code)) id node)
    unfolding ExpressionFact node_ops children IsStraight UsesThis new_ops
    node_inner (Number position value negative) k there r =
        alone (PUSH id) (plain (PUSH id) (λ x. x) tt (λ n e. cc (e)) (λ n e. cc (e)))
    node_inner (True position) k there r =
        alone (PUSH id) (plain (PUSH id) (λ x. x) tt (λ n e. cc (e)) (λ n e. cc (e)))
    node_inner (False position) k there r =
        alone (PUSH id) (plain (PUSH id) (λ x. x) tt (λ n e. cc (e)) (λ n e. cc (e)))
    node_inner (Null position) k there r =
        alone (PUSH id) (plain (PUSH id) (λ x. x) tt (λ n e. cc (e)) (λ n e. cc (e)))
    node_inner (This position) k there r = absurd (laws.this id position there stands)
    node_inner (SimpleName position name) k there r = name_inner position name (binding code id) there refl
    node_inner (Parenthesized position inner) k there r =
        child inner k r (laws.down id inner (Parenthesized position inner) there (among_first [] inner) stands)
    node_inner (FieldAccess position name object) k there r = access_inner object (binding code id) own refl (by r)
      where
        own : (j : Kind) → HasValue code.program b c id object (Some j) → All (below [] id (ops_of code) object)
        own j h =
            child object j h (laws.down id object (FieldAccess position name object) there (among_first [] object) stands)

        by : FieldFact code b c id object (Some k) ⊎ (StaticFact code id (Some k) ⊎ LengthFact code b c id object (Some k)) →
            ((j : Kind) × HasValue code.program b c id object (Some j)) ⊎ ((n : ℕ) × (binding code id ≡ Static n))
        by (inl x) = inl (_, x.object_is)
        by (inr (inl x)) = inr (x.field, x.is)
        by (inr (inr x)) = inl (_, x.array_is)
    node_inner (Element position array index) k there r =
        inner_both code Inner (below [] id (ops_of code) array) (below [] id (ops_of code) index ++ ELEM id ∷ [])
        (child array _ r.array_is
        (laws.down id array (Element position array index) there (among_first (index ∷ []) array) stands))
        (followed (below [] id (ops_of code) index) (ELEM id)
        (child index _ r.index_is
        (laws.down id index (Element position array index) there (later index array (index ∷ []) (among_first [] index)) stands))
        (plain (ELEM id) (λ x. x) tt (λ n e. cc (e)) (λ n e. cc (e))))
    node_inner (Unary position operator operand) k there r =
        followed (below [] id (ops_of code) operand) (UNARY id)
        (child operand _ r.operand_is
        (laws.down id operand (Unary position operator operand) there (among_first [] operand) stands))
        (plain (UNARY id) (λ x. x) tt (λ n e. cc (e)) (λ n e. cc (e)))
    node_inner (Binary position operator l x) k there (inl r) =
        binary_inner position operator l x _ _ there r.1.left_is r.1.right_is
    node_inner (Binary position operator l x) k there (inr r) =
        binary_inner position operator l x _ _ there r.left_is r.right_is
    node_inner (New position name_position name xs) k there r =
        subst (λ (x : Binding). All (new_ops (below [] id (ops_of code)) id xs x)) (sym r.is) (
          plain (ALLOC id) (λ x. x) tt (λ n e. cc (e)) (λ n e. cc (e)),
          followed (flat_map (below [] id (ops_of code)) xs) (CONSTRUCT id)
              (all_children xs r.kinds r.arguments_are
              (λ x a. laws.down id x (New position name_position name xs) there a stands))
              (plain (CONSTRUCT id) (λ x. x) tt (λ n e. cc (e)) (λ n e. cc (e))),
        )
    node_inner (NewArray position element count) k there r =
        followed (below [] id (ops_of code) count) (ALLOCARRAY id)
        (child count _ r.count_is
        (laws.down id count (NewArray position element count) there (later count element (count ∷ []) (among_first [] count)) stands))
        (plain (ALLOCARRAY id) (λ x. x) tt (λ n e. cc (e)) (λ n e. cc (e)))
    node_inner (Cast position name_position name operand) k there r =
        followed (below [] id (ops_of code) operand) (CAST id)
        (child operand _ r.operand_is
        (laws.down id operand (Cast position name_position name operand) there (among_first [] operand) stands))
        (plain (CAST id) (λ x. x) tt (λ n e. cc (e)) (λ n e. cc (e)))
    node_inner (Call position name object xs) k there r = call_inner position name object xs k there r
    node_inner _ k there r = absurd r

  -- ---- all values in super calls

  one_inner : (id : ℕ) → ((x : ℕ) → x < id → Clean x → All (ops_of code x)) → Clean id → All (ops_of code id)
  one_inner id before clean =
      subst All (sym (ops_at code id clean.inside.here.0 clean.inside.here.1))
      (node_inner clean.body clean.class clean.sig clean.is_body id before clean.stands clean.inside clean.inside.here.0
      clean.kind clean.inside.here.1
      (facts.expressions clean.body clean.class clean.sig id clean.inside.here.0 (Some clean.kind) clean.is_body clean.inside
      clean.inside.here.1 clean.judged))

  all_before : (n x : ℕ) → x < n → Clean x → All (ops_of code x)
  all_before zero x l clean = absurd (omega (arith, l))
  all_before (suc n) x l clean = one_inner x (λ y m k. all_before n y (omega (arith, l, m)) k) clean

  pub clean_inner : (x : ℕ) → Clean x → AllInner code Inner (ops_of code x)
  clean_inner x clean = all_before (suc x) x (omega arith) clean

  pub inner_laws : InnerLaws code Inner
  inner_laws = record {
    own = λ op i. i.own;
    straight = λ op i. i.straight;
    keeps = λ op id x w i e. clean_inner x (i.right id x w e);
  }
