-- What an operation of a body runs, a node in the body may run; and a private memory takes the bytes that stand there.
use Rattle.std.specs.Prelude.{Option, Some, None, Contains, flat_map, map, slice_get, if◌then◌else◌}
use Rattle.std.proofs.Common.{◌≡◌, ◌⊎◌, inl, ℕ, ◌==◌, Bool, true, false, List, [], ◌∷◌, ◌++◌, refl, sym, ◌∙◌, subst}
use Rattle.std.proofs.lemmas.List.Elements.{Contains-append_left, Contains-append_right}
use Rattle.scj_base.specs.Vocabulary.{sign_and_and, sign_or_or}
use Rattle.scj_builtins.specs.Framework.{managed_memory_enter_private_memory}
use Rattle.scj_tree.specs.declared.nodes.Node.{Node}
use Rattle.scj_tree.specs.declared.nodes.Node.TheVariants.{SimpleName, FieldAccess, Element}
use Rattle.scj_tree.specs.Shape.{children, optional}
use Rattle.scj_rules.specs.declared.typing.Binding.{Binding}
use Rattle.scj_rules.specs.declared.typing.Binding.TheVariants.{Local, Field, Static, Length, Class as ClassNamed, Builtin}
use Rattle.scj_rules.specs.declared.typing.Target.{Target}
use Rattle.scj_rules.specs.declared.views.Body.{Body}
use Rattle.scj_rules.specs.declared.views.Declared.{Declared}
use Rattle.scj_rules.specs.declared.views.WrittenType.TheVariants.{Void as void_type}
use Rattle.scj_rules.specs.Bodies.{class_node, class_of_body}
use Rattle.scj_rules.specs.ClassRules.{is_same_type}
use Rattle.scj_rules.specs.Classes.{is_user_class}
use Rattle.scj_rules.specs.Layout.{fields_with_literal}
use Rattle.scj_rules.specs.Types.{has_form}
use Rattle.scj_rules.specs.Views.{type_at}
use Rattle.scj_rules.specs.Words.{◌>>=◌}
use Rattle.scj_rules.proofs.ReportLemmas.{Contains-head, Contains-tail, none_contained}
use Rattle.accepted_laws.proofs.Tools.{some_inj}
use Rattle.scj_model.specs.declared.operations.Op.{Op}
use Rattle.scj_model.specs.declared.operations.Op.TheVariants.{This as THIS, Load as LOAD, Get as GET, GetStatic as GETSTATIC, Length as LENGTH, Bin as BIN, And as AND, Or as OR, Construct as CONSTRUCT, Call as CALL, CallStatic as CALLSTATIC, Enter as ENTER, ExecuteIn as EXECUTEIN, Store as STORE, Put as PUT, PutStatic as PUTSTATIC, PutElem as PUTELEM, If as IF, Loop as LOOP, LeaveWith as LEAVEWITH, Leave as LEAVE, Init as INIT, Super as SUPER, Params as PARAMS}
use Rattle.scj_model.specs.Code.{Code, binding, part}
use Rattle.scj_model.specs.Ops.{access_ops, assign_ops, binary_ops, constructor_ops, literal_ops, method_ops, name_ops, receiver_ops, return_ops, super_ops, unwritten_super_ops}
use Rattle.memory_needs.specs.Targets.{call_targets, constructor_targets, super_targets, unwritten_super_targets, entered_targets, targets_here, targets_entered, targets}
use Rattle.memory_needs.specs.Reach.{run_parts, IsIn, itself, in_part}
use Rattle.memory_needs.proofs.Settled.{in_then}

-- the bodies that an operation may run
unfoldable pub op_targets : Code → Op → List Body
op_targets code (CALL id) = call_targets code.program (binding code id)
op_targets code (CALLSTATIC id) = call_targets code.program (binding code id)
op_targets code (CONSTRUCT id) = constructor_targets code.program (binding code id)
op_targets code (SUPER id) = constructor_targets code.program (binding code id)
op_targets code (ENTER id) = entered_targets code.program (binding code id)
op_targets code (EXECUTEIN id) = entered_targets code.program (binding code id)
op_targets code _ = []

-- whether it opens a private memory
unfoldable pub opens_memory : Op → Bool
opens_memory (ENTER id) = true
opens_memory _ = false

-- the node whose parts it puts in front
unfoldable pub branches_at : Op → Option ℕ
branches_at (AND id) = Some id
branches_at (OR id) = Some id
branches_at (IF id) = Some id
branches_at (LOOP id) = Some id
branches_at _ = None

-- the operation enters a private memory at this node
pub record EntersAt (code : Code) (op : Op) (id : ℕ) : Type 0 where
  pub is : op ≡ ENTER id
  pub target : Target
  pub bound : binding code id ≡ Builtin target
  pub enters : (target.id == managed_memory_enter_private_memory) ≡ true

module _ (code : Code) where
  -- a node in another one may run the body
  pub record RunsTarget (whole : ℕ) (op : Op) (target : Body) : Type 0 where
    pub id : ℕ
    pub node : Node
    pub is_in : IsIn code.program.nodes whole id
    pub is : slice_get code.program.nodes id ≡ Some node
    pub is_target : Contains (targets code id) target
    pub opens : (opens_memory op ≡ false) ⊎ EntersAt code op id

  pub record OpRuns (whole : ℕ) (op : Op) : Type 0 where
    pub branches : (id : ℕ) → branches_at op ≡ Some id → IsIn code.program.nodes whole id
    pub runs : (target : Body) → Contains (op_targets code op) target → RunsTarget whole op target

  abbrev pub AllRun : ℕ → List Op → Type 0
  AllRun whole [] = Unit {0}
  AllRun whole (op ∷ ops) = OpRuns whole op × AllRun whole ops

  -- what a part runs the whole does
  pub all_in : (whole part : ℕ) → IsIn code.program.nodes whole part → (ops : List Op) → AllRun part ops →
      AllRun whole ops
  all_in whole part inside [] h = tt
  all_in whole part inside (op ∷ ops) h = (
    record {
      branches = λ id e. in_then code.program.nodes whole part id inside (h.0.branches id e);
      runs = λ target c. (let r = h.0.runs target c in record {
        id = r.id;
        node = r.node;
        is_in = in_then code.program.nodes whole part r.id inside r.is_in;
        is = r.is;
        is_target = r.is_target;
        opens = r.opens;
      });
    },
    all_in whole part inside ops h.1,
  )

  pub both : (whole : ℕ) (xs ys : List Op) → AllRun whole xs → AllRun whole ys → AllRun whole (xs ++ ys)
  both whole [] ys h k = k
  both whole (x ∷ xs) ys h k = (h.0, both whole xs ys h.1 k)

  pub either : (whole : ℕ) (b : Bool) (xs ys : List Op) → AllRun whole xs → AllRun whole ys →
      AllRun whole (if b then xs else ys)
  either whole true xs ys h k = h
  either whole false xs ys h k = k

  -- ---- the operations of one node

  module _ (id : ℕ) where
    pub plain : (op : Op) → branches_at op ≡ None → op_targets code op ≡ [] → OpRuns id op
    plain op none empty = record {
      branches = λ k e. absurd (cc (none, e));
      runs = λ target c. absurd (none_contained target (subst (λ (bs : List Body). Contains bs target) empty c));
    }

    pub one : (op : Op) → branches_at op ≡ None → op_targets code op ≡ [] → AllRun id (op ∷ [])
    one op none empty = (plain op none empty, tt)

    pub branch : (op : Op) → branches_at op ≡ Some id → op_targets code op ≡ [] → AllRun id (op ∷ [])
    branch op here empty = (
      record {
        branches = λ k e. subst (IsIn code.program.nodes id) (some_inj id k (sym here ∙ e)) itself;
        runs = λ target c. absurd (none_contained target (subst (λ (bs : List Body). Contains bs target) empty c));
      },
      tt,
    )

    pub leave : AllRun id (LEAVE ∷ [])
    unfolding branches_at op_targets
    leave = one LEAVE refl refl

  module _ (ops : ℕ → List Op) (id : ℕ) (node : Node) (is : slice_get code.program.nodes id ≡ Some node)
      (h : (k : ℕ) → IsIn code.program.nodes id k → AllRun id (ops k)) where
    abbrev IsPart : ℕ → Type 0
    IsPart k = Contains (run_parts node) k

    pub of_part : (k : ℕ) → Contains (run_parts node) k → AllRun id (ops k)
    of_part k c = h k (in_part id k node itself is c)

    pub all_of : (ks : List ℕ) → ((k : ℕ) → Contains ks k → Contains (run_parts node) k) → AllRun id (flat_map ops ks)
    all_of [] are = tt
    all_of (k ∷ ks) are =
        both id (ops k) (flat_map ops ks) (of_part k (are k (Contains-head k ks)))
        (all_of ks (λ x c. are x (Contains-tail k ks x c)))

    pub behind_part : (k : ℕ) → Contains (run_parts node) k → (op : Op) → branches_at op ≡ None →
        op_targets code op ≡ [] → AllRun id (ops k ++ op ∷ [])
    behind_part k c op none empty = both id (ops k) (op ∷ []) (of_part k c) (one id op none empty)

    pub behind_all : (ks : List ℕ) → ((k : ℕ) → Contains ks k → Contains (run_parts node) k) → (op : Op) →
        AllRun id (op ∷ []) → AllRun id (flat_map ops ks ++ op ∷ [])
    behind_all ks are op last = both id (flat_map ops ks) (op ∷ []) (all_of ks are) last

    pub plain_behind : (ks : List ℕ) → ((k : ℕ) → Contains ks k → Contains (run_parts node) k) → (op : Op) →
        branches_at op ≡ None → op_targets code op ≡ [] → AllRun id (flat_map ops ks ++ op ∷ [])
    plain_behind ks are op none empty = behind_all ks are op (one id op none empty)

    -- an operation that runs what the node may run
    here : (target : Body) → Contains (targets_here code id node ++ targets_entered code id node) target →
        Contains (targets code id) target
    unfolding targets
    here target c =
        subst (λ (o : Option Node). Contains (elim o [
          | None ↦ []
          | Some n ↦ targets_here code id n ++ targets_entered code id n
        ]) target) (sym is) c

    pub runs_here : (op : Op) → branches_at op ≡ None → opens_memory op ≡ false →
        ((target : Body) → Contains (op_targets code op) target → Contains (targets_here code id node) target) →
        AllRun id (op ∷ [])
    runs_here op none unopened are = (
      record {
        branches = λ k e. absurd (cc (none, e));
        runs = λ target c. record {
          id = id;
          node = node;
          is_in = itself;
          is = is;
          is_target = here target
              (Contains-append_left (targets_here code id node) (targets_entered code id node) target (are target c));
          opens = inl unopened;
        };
      },
      tt,
    )

    pub runs_entered : (op : Op) → branches_at op ≡ None → (opens_memory op ≡ false) ⊎ EntersAt code op id →
        ((target : Body) → Contains (op_targets code op) target → Contains (targets_entered code id node) target) →
        AllRun id (op ∷ [])
    runs_entered op none opens are = (
      record {
        branches = λ k e. absurd (cc (none, e));
        runs = λ target c. record {
          id = id;
          node = node;
          is_in = itself;
          is = is;
          is_target = here target
              (Contains-append_right (targets_here code id node) (targets_entered code id node) target (are target c));
          opens = opens;
        };
      },
      tt,
    )

    pub of_name : (b : Binding) → AllRun id (name_ops id b)
    unfolding name_ops branches_at op_targets
    of_name (Local k) = one id (LOAD id) refl refl
    of_name (Field k) = (plain id (THIS id) refl refl, one id (GET id) refl refl)
    of_name (Static k) = one id (GETSTATIC id) refl refl
    of_name _ = tt

    pub of_access : (object : ℕ) → Contains (run_parts node) object → (b : Binding) → AllRun id (access_ops ops id object b)
    unfolding access_ops branches_at op_targets
    of_access object c (Field k) = behind_part object c (GET id) refl refl
    of_access object c (Static k) = one id (GETSTATIC id) refl refl
    of_access object c Length = behind_part object c (LENGTH id) refl refl
    of_access object c _ = tt

    pub of_binary : (operator left right : ℕ) → Contains (run_parts node) left → Contains (run_parts node) right →
        AllRun id (binary_ops ops id operator left right)
    unfolding binary_ops branches_at op_targets
    of_binary operator left right c d =
        either id (operator == sign_and_and) _ _
        (both id (ops left) (AND id ∷ []) (of_part left c) (branch id (AND id) refl refl))
        (either id (operator == sign_or_or) _ _
        (both id (ops left) (OR id ∷ []) (of_part left c) (branch id (OR id) refl refl))
        (both id (ops left) _ (of_part left c) (behind_part right d (BIN id) refl refl)))

    pub of_receiver : (object : Option ℕ) → ((k : ℕ) → Contains (optional object) k → Contains (run_parts node) k) →
        AllRun id (receiver_ops ops id object)
    unfolding receiver_ops branches_at op_targets
    of_receiver None are = one id (THIS id) refl refl
    of_receiver (Some object) are = of_part object (are object (Contains-head object []))

    pub on_receiver : (object : Option ℕ) → ((k : ℕ) → Contains (optional object) k → Contains (run_parts node) k) →
        (op : Op) → branches_at op ≡ None → op_targets code op ≡ [] → AllRun id (receiver_ops ops id object ++ op ∷ [])
    on_receiver object are op none empty =
        both id (receiver_ops ops id object) (op ∷ []) (of_receiver object are) (one id op none empty)

    pub of_return : (value : Option ℕ) → ((k : ℕ) → Contains (optional value) k → Contains (run_parts node) k) →
        AllRun id (return_ops ops id value)
    unfolding return_ops branches_at op_targets
    of_return None are = leave id
    of_return (Some value) are = behind_part value (are value (Contains-head value [])) (LEAVEWITH id) refl refl

    -- the target of an assignment is a part, and has parts of its own
    pub of_assign : (target value : ℕ) → Contains (run_parts node) target → Contains (run_parts node) value →
        (b : Binding) (n : Node) → slice_get code.program.nodes target ≡ Some n → AllRun id (assign_ops ops id value b n)
    unfolding assign_ops branches_at op_targets run_parts children
    of_assign target value c d (Local k) (SimpleName position name) e = behind_part value d (STORE id) refl refl
    of_assign target value c d (Field k) (SimpleName position name) e =
        (plain id (THIS id) refl refl, behind_part value d (PUT id) refl refl)
    of_assign target value c d (Field k) (FieldAccess position name object) e =
        both id (ops object) _
        (h object (in_part target object (FieldAccess position name object) (in_part id target node itself is c) e
        (Contains-head object [])))
        (behind_part value d (PUT id) refl refl)
    of_assign target value c d (Static k) _ e = behind_part value d (PUTSTATIC id) refl refl
    of_assign target value c d _ (Element position array index) e =
        both id (ops array) _
        (h array (in_part target array (Element position array index) (in_part id target node itself is c) e
        (Contains-head array (index ∷ []))))
        (both id (ops index) _
        (h index (in_part target index (Element position array index) (in_part id target node itself is c) e
        (Contains-tail array (index ∷ []) index (Contains-head index []))))
        (behind_part value d (PUTELEM id) refl refl))
    of_assign target value c d _ _ e = tt

    pub of_method : (result_type : ℕ) (body : Option ℕ) →
        ((k : ℕ) → Contains (optional body) k → Contains (run_parts node) k) →
        AllRun id (method_ops code ops result_type body)
    unfolding method_ops
    of_method result_type None are = tt
    of_method result_type (Some body) are =
        either id (is_same_type (type_at code.program.nodes result_type) void_type) _ _
        (both id (ops body) _ (of_part body (are body (Contains-head body []))) (leave id))
        (of_part body (are body (Contains-head body [])))

    of_literals : (fs : List Declared) → AllRun id (map (λ (f : Declared). INIT f.node) fs)
    unfolding branches_at op_targets
    of_literals [] = tt
    of_literals (f ∷ fs) = (plain id (INIT f.node) refl refl, of_literals fs)

    -- a super part, by the node at which it stands
    pub of_super : (at : ℕ) (arguments : List ℕ) (b : Binding) → binding code at ≡ b →
        ((k : ℕ) → Contains arguments k → Contains (run_parts node) k) →
        ((target : Body) → Contains (super_targets code.program b) target →
        Contains (targets_here code id node) target) → AllRun id (super_ops ops at arguments b)
    unfolding super_ops branches_at op_targets opens_memory super_targets
    of_super at arguments (ClassNamed superclass) e are runs = go (is_user_class superclass) runs
      where
        go : (u : Bool) → ((target : Body) → Contains (if u then constructor_targets code.program (ClassNamed superclass)
            else []) target → Contains (targets_here code id node) target) →
            AllRun id (if u then THIS at ∷ flat_map ops arguments ++ SUPER at ∷ []
            else (if has_form superclass then flat_map ops arguments ++ PARAMS at ∷ [] else []))
        go true are_here = (
          plain id (THIS at) refl refl,
          behind_all arguments are (SUPER at)
              (runs_here (SUPER at) refl refl (λ target c. are_here target
              (subst (λ (b : Binding). Contains (constructor_targets code.program b) target) e c))),
        )
        go false are_here =
            either id (has_form superclass) _ _ (plain_behind arguments are (PARAMS at) refl refl) tt
    of_super at arguments _ e are runs = tt

    none_of : (k : ℕ) → Contains [] k → Contains (run_parts node) k
    none_of k c = absurd (none_contained k c)

    pub of_constructor : (super_call : Option ℕ) (body : List Op) →
        ((k : ℕ) → Contains (optional super_call) k → Contains (run_parts node) k) →
        (super_call ≡ None → (target : Body) → Contains (unwritten_super_targets code id) target →
        Contains (targets_here code id node) target) → AllRun id body →
        AllRun id (constructor_ops code ops id super_call body)
    unfolding constructor_ops literal_ops unwritten_super_targets unwritten_super_ops
    of_constructor super_call body are runs k = go (class_of_body code.program id) runs
      where
        unwritten : (o : Option ℕ) → ((target : Body) → Contains (elim o [
          | None ↦ []
          | Some at ↦ super_targets code.program (binding code at)
        ]) target → Contains (targets_here code id node) target) →
            AllRun id (elim o as (λ z. List Op) [ None ↦ [] | Some at ↦ super_ops ops at [] (binding code at) ])
        unwritten None runs = tt
        unwritten (Some at) runs = of_super at [] (binding code at) refl none_of runs

        before : (class : ℕ) (o : Option ℕ) → ((j : ℕ) → Contains (optional o) j → Contains (run_parts node) j) →
            (o ≡ None → (target : Body) → Contains (elim (class_node code.program class) [
              | None ↦ []
              | Some at ↦ super_targets code.program (binding code at)
            ]) target → Contains (targets_here code id node) target) →
            AllRun id (elim o as (λ z. List Op) [
              | None ↦ elim (class_node code.program class) [ None ↦ [] | Some at ↦ super_ops ops at [] (binding code at) ]
              | Some call ↦ ops call
            ])
        before class None are runs = unwritten (class_node code.program class) (runs refl)
        before class (Some call) are runs = of_part call (are call (Contains-head call []))

        go : (o : Option ℕ) → (super_call ≡ None → (target : Body) → Contains (elim (o >>= class_node code.program) [
          | None ↦ []
          | Some at ↦ super_targets code.program (binding code at)
        ]) target → Contains (targets_here code id node) target) →
            AllRun id (elim o as (λ z. List Op) [
              | None ↦ []
              | Some class ↦
                  (elim super_call [
                    | None ↦ elim (class_node code.program class) [
                      | None ↦ []
                      | Some at ↦ super_ops ops at [] (binding code at)
                    ]
                    | Some call ↦ ops call
                  ])
                  ++ (map (λ (f : Declared). INIT f.node) (fields_with_literal code.program class) ++ (body ++ LEAVE ∷ []))
            ])
        go None runs = tt
        go (Some class) runs =
            both id _ _ (before class super_call are runs)
            (both id _ _ (of_literals (fields_with_literal code.program class)) (both id body _ k (leave id)))
