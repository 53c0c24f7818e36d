-- The operations of a program stand at nodes of it, but for the one that ends a body; so do those on a way through a body.
use Rattle.std.proofs.Common.{◌≡◌, ℕ, zero, suc, ◌<◌, nat_lt, Bool, true, false, List, [], ◌∷◌, ◌++◌, map, Option, Some, None, if◌then◌else◌, refl, sym, ap, subst, arith}
use Rattle.std.specs.Prelude.{is_some, option_map, slice_get}
use Rattle.std.proofs.lemmas.Bool.Decides.{nat_tests}
use Rattle.accepted_laws.proofs.Tools.{some_inj}
use Rattle.scj_tree.specs.declared.nodes.Node.{Node}
use Rattle.scj_tree.specs.declared.nodes.Node.TheVariants.{Class, Method as MethodNode, Constructor, SuperCall, Block, Local as LocalNode, LocalWithValue, Assign, ExpressionStatement, If, While, For, Return, Binary, Unary, Cast, Parenthesized, SimpleName, FieldAccess, Call, Element, New, NewArray, Number, True, False, Null, This}
use Rattle.scj_tree.specs.Recursion.{below}
use Rattle.scj_tree.proofs.RecursionLemmas.{by_smaller-is}
use Rattle.scj_rules.specs.declared.views.Body.{Body}
use Rattle.scj_rules.specs.declared.views.Body.TheVariants.{Written, Empty}
use Rattle.scj_rules.specs.declared.views.Declared.{Declared}
use Rattle.scj_rules.specs.declared.views.WrittenType.TheVariants.{Void as void_type}
use Rattle.scj_rules.specs.Bodies.{class_node, class_of_body}
use Rattle.scj_rules.specs.ClassRules.{is_same_type}
use Rattle.scj_rules.specs.Layout.{fields_with_literal}
use Rattle.scj_rules.specs.Views.{type_at}
use Rattle.scj_rules.specs.Words.{◌>>=◌}
use Rattle.scj_model.specs.declared.operations.Op.{Op}
use Rattle.scj_model.specs.declared.operations.Op.TheVariants.{Push as PUSH, This as THIS, Elem as ELEM, Unary as UNARY, And as AND, Or as OR, AllocArray as ALLOCARRAY, Cast as CAST, Zero as ZERO, Store as STORE, If as IF, Loop as LOOP, Leave as LEAVE, Drop as DROP, Init as INIT}
use Rattle.scj_model.specs.Code.{Code, binding, part}
use Rattle.scj_model.specs.Ops.{assign_ops, body_ops, constructor_ops, if_parts, leaves_value, literal_ops, method_ops, next_ops, node_of, node_ops, ops_of, optional_ops, put_in_front, right_operand, super_ops, iteration_ops, unwritten_super_ops}
use Rattle.scope_flow.specs.Pushers.{Pusher}
use Rattle.scope_flow.specs.Ways.{Comes, at_entry, behind, into}
use Rattle.audited_runs.proofs.proper.Nodes.{AllDeclared, AllStand, Stands, all_of, behind_part, both, either, leave, of_access, of_assign, of_binary, of_call, of_name, of_new, of_return, of_super, one}

module _ (code : Code)
    (classes : (class node : ℕ) → class_node code.program class ≡ Some node → Stands code.program.nodes node)
    (fields : (class : ℕ) → AllDeclared code.program.nodes (fields_with_literal code.program class)) where
  module _ (ops : ℕ → List Op) (h : (k : ℕ) → AllStand code (ops k)) where
    of_method : (result_type : ℕ) (body : Option ℕ) → AllStand code (method_ops code ops result_type body)
    unfolding method_ops
    of_method result_type None = tt
    of_method result_type (Some body) =
        either code (is_same_type (type_at code.program.nodes result_type) void_type) _ _
        (both code (ops body) _ (h body) (leave code)) (h body)

    of_literals : (fs : List Declared) → AllDeclared code.program.nodes fs →
        AllStand code (map (λ (f : Declared). INIT f.node) fs)
    unfolding node_of
    of_literals [] k = tt
    of_literals (f ∷ fs) k =
        ((λ i e. subst (Stands code.program.nodes) (some_inj f.node i e) k.0), of_literals fs k.1)

    of_unwritten : (class : ℕ) → AllStand code (unwritten_super_ops code ops class)
    unfolding unwritten_super_ops
    of_unwritten class = go (class_node code.program class) refl
      where
        go : (o : Option ℕ) → class_node code.program class ≡ o →
            AllStand code (elim o as (λ _. List Op) [ None ↦ [] | Some node ↦ super_ops ops node [] (binding code node) ])
        go None e = tt
        go (Some node) e = of_super code ops h node (classes class node e) [] (binding code node)

    of_constructor : (id : ℕ) (super_call : Option ℕ) (body : List Op) → AllStand code body →
        AllStand code (constructor_ops code ops id super_call body)
    unfolding constructor_ops literal_ops
    of_constructor id super_call body k = go (class_of_body code.program id)
      where
        before : (class : ℕ) (o : Option ℕ) →
            AllStand code (elim o as (λ _. List Op) [ None ↦ unwritten_super_ops code ops class | Some call ↦ ops call ])
        before class None = of_unwritten class
        before class (Some call) = h call

        go : (o : Option ℕ) →
            AllStand code (elim o as (λ _. List Op) [
              | None ↦ []
              | Some class ↦
                  (elim super_call [ None ↦ unwritten_super_ops code ops class | Some call ↦ ops call ])
                  ++ (map (λ (f : Declared). INIT f.node) (fields_with_literal code.program class) ++ (body ++ LEAVE ∷ []))
            ])
        go None = tt
        go (Some class) =
            both code _ _ (before class super_call)
            (both code _ _ (of_literals (fields_with_literal code.program class) (fields class)) (both code body _ k (leave code)))

    of_node : (id : ℕ) → Stands code.program.nodes id → (node : Node) → AllStand code (node_ops code ops id node)
    unfolding node_ops node_of
    of_node id here (Number position value is_negative) = one code ops h id here (PUSH id) refl
    of_node id here (True position) = one code ops h id here (PUSH id) refl
    of_node id here (False position) = one code ops h id here (PUSH id) refl
    of_node id here (Null position) = one code ops h id here (PUSH id) refl
    of_node id here (This position) = one code ops h id here (THIS id) refl
    of_node id here (SimpleName position name) = of_name code ops h id here (binding code id)
    of_node id here (FieldAccess position name object) = of_access code ops h id here object (binding code id)
    of_node id here (Element position array index) =
        both code (ops array) _ (h array) (behind_part code ops h id here index (ELEM id) refl)
    of_node id here (Parenthesized position inner) = h inner
    of_node id here (Unary position operator operand) = behind_part code ops h id here operand (UNARY id) refl
    of_node id here (Binary position operator left right) = of_binary code ops h id here operator left right
    of_node id here (New position name_position name arguments) = of_new code ops h id here arguments (binding code id)
    of_node id here (NewArray position element length) = behind_part code ops h id here length (ALLOCARRAY id) refl
    of_node id here (Call position name object arguments) = of_call code ops h id here object arguments (binding code id)
    of_node id here (Cast position name_position name operand) = behind_part code ops h id here operand (CAST id) refl
    of_node id here (LocalNode position name flags declared_type) = one code ops h id here (ZERO id) refl
    of_node id here (LocalWithValue position name_position name flags declared_type value) =
        behind_part code ops h id here value (STORE id) refl
    of_node id here (Assign position target value) = go (slice_get code.program.nodes target)
      where
        go : (o : Option Node) →
            AllStand code (elim o as (λ _. List Op) [
              | None ↦ []
              | Some node ↦ assign_ops ops id value (binding code target) node
            ])
        go None = tt
        go (Some node) = of_assign code ops h id here value (binding code target) node
    of_node id here (ExpressionStatement position expression) =
        both code (ops expression) _ (h expression)
        (either code (leaves_value (binding code expression)) _ _ (one code ops h id here (DROP id) refl) tt)
    of_node id here (Block position statements) = all_of code ops h statements
    of_node id here (If position condition then_part else_part) = behind_part code ops h id here condition (IF id) refl
    of_node id here (While position condition body) = behind_part code ops h id here condition (LOOP id) refl
    of_node id here (For position first condition step body) =
        both code (ops first) _ (h first) (behind_part code ops h id here condition (LOOP id) refl)
    of_node id here (Return position value) = of_return code ops h id here value
    of_node id here (MethodNode position name flags result_type parameters body) = of_method result_type body
    of_node id here (SuperCall position arguments) = of_super code ops h id here arguments (binding code id)
    of_node id here (Constructor position name flags parameters super_call body) =
        of_constructor id super_call (ops body) (h body)
    of_node id here (Class position name flags header members) = of_constructor id None [] tt
    of_node id here _ = tt

    of_next : (id : ℕ) → AllStand code (next_ops code id ops)
    unfolding next_ops
    of_next id = go (slice_get code.program.nodes id) refl
      where
        go : (o : Option Node) → slice_get code.program.nodes id ≡ o →
            AllStand code (elim o as (λ _. List Op) [ None ↦ [] | Some node ↦ node_ops code ops id node ])
        go None e = tt
        go (Some node) e = of_node id (ap is_some e) node

  -- ---- all nodes

  from_below : (id : ℕ) → ops_of code id ≡ next_ops code id (below [] id (ops_of code))
  unfolding ops_of
  from_below id = by_smaller-is [] (next_ops code) id

  up_to : (n k : ℕ) → k < n → AllStand code (ops_of code k)
  up_to zero k l = absurd (omega (arith, l))
  up_to (suc n) k l =
      subst (AllStand code) (sym (from_below k)) (of_next (below [] k (ops_of code)) (λ j. smaller j (λ m. up_to n j m)) k)
    where
      fewer : (j : ℕ) → nat_lt j k ≡ true → j < n
      fewer j e = let m : j < k = grind (arith, nat_tests, e) in omega (arith, m, l)

      smaller : (j : ℕ) → (j < n → AllStand code (ops_of code j)) → AllStand code (if nat_lt j k then ops_of code j else [])
      smaller j more = go (nat_lt j k) refl
        where
          go : (b : Bool) → nat_lt j k ≡ b → AllStand code (if b then ops_of code j else [])
          go true e = more (fewer j e)
          go false e = tt

  all_stand : (id : ℕ) → AllStand code (ops_of code id)
  all_stand id = up_to (suc id) id (omega arith)

  -- ---- what is put in front

  record Fronts (o : Option (List Op)) : Type 0 where
    is : (front : List Op) → o ≡ Some front → AllStand code front

  fronts : (ops : List Op) → AllStand code ops → Fronts (Some ops)
  fronts ops h = record { is = λ front e. subst (AllStand code) (some_inj ops front e) h }

  no_front : Fronts None
  no_front = record { is = λ front e. absurd (cc (e)) }

  of_turn : (id : ℕ) → Stands code.program.nodes id → (node : Node) → Fronts (iteration_ops code id node)
  unfolding iteration_ops node_of
  of_turn id here (While position condition body) =
      fronts _ (both code _ _ (all_stand body) (behind_part code (ops_of code) all_stand id here condition (LOOP id) refl))
  of_turn id here (For position first condition step body) =
      fronts _
      (both code _ _ (all_stand body)
      (both code _ _ (all_stand step) (behind_part code (ops_of code) all_stand id here condition (LOOP id) refl)))
  of_turn id here _ = no_front

  of_optional : (o : Option ℕ) → AllStand code (optional_ops code o)
  unfolding optional_ops
  of_optional None = tt
  of_optional (Some id) = all_stand id

  right_front : (b : Bool) (o : Option ℕ) →
      Fronts (option_map (λ right. if b then ops_of code right else []) o)
  right_front b None = no_front
  right_front b (Some right) = fronts _ (either code b _ _ (all_stand right) tt)

  left_front : (b : Bool) (o : Option ℕ) →
      Fronts (option_map (λ right. if b then [] else ops_of code right) o)
  left_front b None = no_front
  left_front b (Some right) = fronts _ (either code b _ _ tt (all_stand right))

  parts_front : (b : Bool) (o : Option (ℕ × Option ℕ)) →
      Fronts (option_map (λ (parts : ℕ × Option ℕ). if b then ops_of code parts.0 else optional_ops code parts.1) o)
  parts_front b None = no_front
  parts_front b (Some parts) = fronts _ (either code b _ _ (all_stand parts.0) (of_optional parts.1))

  turn_front : (b : Bool) (o : Option (List Op)) → Fronts o →
      Fronts (option_map (λ (turn : List Op). if b then turn else []) o)
  turn_front b None h = no_front
  turn_front b (Some turn) h = fronts _ (either code b _ _ (h.is turn refl) tt)

  of_part : (id : ℕ) → Fronts (part code (iteration_ops code id) id)
  of_part id = go (slice_get code.program.nodes id) refl
    where
      go : (o : Option Node) → slice_get code.program.nodes id ≡ o → Fronts (o >>= iteration_ops code id)
      go None e = no_front
      go (Some node) e = of_turn id (ap is_some e) node

  of_front : (op : Op) (condition : Bool) → Fronts (put_in_front code op condition)
  unfolding put_in_front
  of_front (AND id) condition = right_front condition (part code right_operand id)
  of_front (OR id) condition = left_front condition (part code right_operand id)
  of_front (IF id) condition = parts_front condition (part code if_parts id)
  of_front (LOOP id) condition = turn_front condition (part code (iteration_ops code id) id) (of_part id)
  of_front _ condition = no_front

  -- ---- on a way through a body

  of_body : (body : Body) → AllStand code (body_ops code body)
  unfolding body_ops
  of_body (Written node) = all_stand node
  of_body Empty = (leave code)

  pub come_standing : (body : Body) (ops : List Op) (pushers : List Pusher) → Comes code body ops pushers → AllStand code ops
  come_standing body _ _ at_entry = of_body body
  come_standing body _ _ (behind op ops taken left given came many pushes) =
      (come_standing body (op ∷ ops) (taken ++ left) came).1
  come_standing body _ _ (into op condition front ops pusher left came goes is) =
      both code front ops ((of_front op condition).is front is) (come_standing body (op ∷ ops) (pusher ∷ left) came).1
