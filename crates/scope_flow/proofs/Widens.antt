-- A rest that flows does so where more variables are set.
use Rattle.std.specs.Prelude.{Option, Some, None}
use Rattle.std.proofs.Common.{ℕ, List, [], ◌∷◌, ◌⊎◌, inl, inr}
use Rattle.scj_tree.specs.declared.nodes.Node.{Node}
use Rattle.scj_tree.specs.declared.nodes.Node.TheVariants.{While, For}
use Rattle.scj_rules.specs.declared.views.Body.{Body}
use Rattle.scj_rules.specs.declared.views.Body.TheVariants.{Written, Empty}
use Rattle.scj_rules.specs.Contexts.{Declarations}
use Rattle.accepted_laws.specs.Kinds.{Kind, truth}
use Rattle.accepted_laws.specs.Judgements.{Among}
use Rattle.scj_model.specs.declared.operations.Op.{Op}
use Rattle.scj_model.specs.declared.operations.Op.TheVariants.{Push as PUSH, This as THIS, Load as LOAD, Get as GET, GetStatic as GETSTATIC, Length as LENGTH, Elem as ELEM, Unary as UNARY, Bin as BIN, And as AND, Or as OR, Alloc as ALLOC, Construct as CONSTRUCT, AllocArray as ALLOCARRAY, Call as CALL, CallStatic as CALLSTATIC, Cast as CAST, Enter as ENTER, ExecuteIn as EXECUTEIN, Same as SAME, SetCeiling as SETCEILING, Print as PRINT, Read as READ, Register as REGISTER, Release as RELEASE, Terminate as TERMINATE, Zero as ZERO, Store as STORE, Put as PUT, PutStatic as PUTSTATIC, PutElem as PUTELEM, If as IF, Loop as LOOP, LeaveWith as LEAVEWITH, Leave as LEAVE, Drop as DROP, Init as INIT, Super as SUPER, Params as PARAMS}
use Rattle.scj_model.specs.Code.{Code}
use Rattle.scope_flow.specs.Signatures.{Signature}
use Rattle.scope_flow.specs.Flow.{Goals, Steps, IfNeeds, LoopNeeds, AreLoopParts, InNode, Needs, Flow}
use Rattle.scope_flow.specs.Needs.{ShortNeeds, IsValuePart, IsStatementPart, IsOptionPart}
use Rattle.scope_flow.proofs.Known.{among_trans, among_both}

abbrev pub Widens : Goals → Type 0
Widens next = (ks ls : List ℕ) (s : List Kind) → Among ks ls → next ks s → next ls s

steps_widen : (Needed : List Kind → Type 0) (next : Goals) → Widens next → (ks ls : List ℕ) → Among ks ls →
    Steps Needed ks next → Steps Needed ls next
steps_widen Needed next w ks ls a r = record { out = r.out; needed = r.needed; goes = w ks ls r.out a r.goes }

pub value_widens : (p : Declarations) (b c : ℕ) (ks ls : List ℕ) (id : ℕ) (k : Kind) → Among ks ls →
    IsValuePart p b c ks id k → IsValuePart p b c ls id k
value_widens p b c ks ls id k a r =
    record { inside = r.inside; judged = r.judged; are_set = among_trans _ ks ls r.are_set a }

pub statement_widens : (p : Declarations) (b c : ℕ) (ks ls : List ℕ) (id : ℕ) → Among ks ls →
    IsStatementPart p b c ks id → IsStatementPart p b c ls id
statement_widens p b c ks ls id a r = record { is = r.is; are_set = among_trans _ ks ls r.are_set a }

pub option_widens : (p : Declarations) (b c : ℕ) (ks ls : List ℕ) (o : Option ℕ) → Among ks ls →
    IsOptionPart p b c ks o → IsOptionPart p b c ls o
option_widens p b c ks ls None a r = tt
option_widens p b c ks ls (Some id) a r = statement_widens p b c ks ls id a r

pub loop_widens : (p : Declarations) (b c : ℕ) (ks ls : List ℕ) (node : Node) → Among ks ls →
    AreLoopParts p b c ks node → AreLoopParts p b c ls node
unfolding AreLoopParts
loop_widens p b c ks ls (While position condition body) a r =
    (value_widens p b c ks ls condition truth a r.0, statement_widens p b c ks ls body a r.1)
loop_widens p b c ks ls (For position first condition step body) a r = (
  value_widens p b c ks ls condition truth a r.0,
  statement_widens p b c ks ls step a r.1,
  statement_widens p b c ks ls body a r.2,
)
loop_widens p b c ks ls _ a r = absurd r

either_widens : {A B C : Type 0} → (B → C) → A ⊎ B → A ⊎ C
either_widens h (inl a) = inl a
either_widens h (inr b) = inr (h b)

module _ (code : Code) (c : ℕ) (next : Goals) (w : Widens next) (ks ls : List ℕ) (s : List Kind) (a : Among ks ls) where
  short_widens : (body : Body) (id : ℕ) → Steps (λ out. InNode body (λ b. ShortNeeds code b c id ks s out)) ks next →
      Steps (λ out. InNode body (λ b. ShortNeeds code b c id ls s out)) ls next
  short_widens (Written b) id r =
      record {
        out = r.out;
        needed = record {
          right = r.needed.right;
          is = r.needed.is;
          others = r.needed.others;
          left = r.needed.left;
          right_part = value_widens code.program b c ks ls r.needed.right truth a r.needed.right_part;
          leaves = r.needed.leaves;
        };
        goes = w ks ls r.out a r.goes;
      }
  short_widens Empty id r = absurd r.needed

  if_widens : (body : Body) (id : ℕ) → InNode body (λ b. IfNeeds code b c id ks s next) →
      InNode body (λ b. IfNeeds code b c id ls s next)
  if_widens (Written b) id r =
      record {
        parts = r.parts;
        is = r.is;
        others = r.others;
        condition = r.condition;
        first = statement_widens code.program b c ks ls r.parts.0 a r.first;
        second = option_widens code.program b c ks ls r.parts.1 a r.second;
        goes = either_widens (λ h. w ks ls r.others a h) r.goes;
      }
  if_widens Empty id r = absurd r

  loop_needs_widen : (body : Body) (id : ℕ) → InNode body (λ b. LoopNeeds code b c id ks s next) →
      InNode body (λ b. LoopNeeds code b c id ls s next)
  loop_needs_widen (Written b) id r =
      record {
        node = r.node;
        is = r.is;
        parts = loop_widens code.program b c ks ls r.node a r.parts;
        others = r.others;
        condition = r.condition;
        goes = either_widens (λ h. w ks ls r.others a h) r.goes;
      }
  loop_needs_widen Empty id r = absurd r

needs_widen : (code : Code) (body : Body) (c : ℕ) (sig : Signature) (op : Op) (next : Goals) → Widens next →
    (ks ls : List ℕ) (s : List Kind) → Among ks ls → Needs code body c sig op ks s next →
    Needs code body c sig op ls s next
needs_widen code body c sig (PUSH id) next w ks ls s a r = steps_widen _ next w ks ls a r
needs_widen code body c sig (THIS id) next w ks ls s a r = steps_widen _ next w ks ls a r
needs_widen code body c sig (LOAD id) next w ks ls s a r =
    record {
      out = r.out;
      needed = record {
        local = r.needed.local;
        is = r.needed.is;
        variable = r.needed.variable;
        is_variable = r.needed.is_variable;
        is_set = a r.needed.variable r.needed.is_set;
        by_expression = r.needed.by_expression;
        leaves = r.needed.leaves;
      };
      goes = w ks ls r.out a r.goes;
    }
needs_widen code body c sig (GET id) next w ks ls s a r = steps_widen _ next w ks ls a r
needs_widen code body c sig (GETSTATIC id) next w ks ls s a r = steps_widen _ next w ks ls a r
needs_widen code body c sig (LENGTH id) next w ks ls s a r = steps_widen _ next w ks ls a r
needs_widen code body c sig (ELEM id) next w ks ls s a r = steps_widen _ next w ks ls a r
needs_widen code body c sig (UNARY id) next w ks ls s a r = steps_widen _ next w ks ls a r
needs_widen code body c sig (BIN id) next w ks ls s a r = steps_widen _ next w ks ls a r
needs_widen code body c sig (AND id) next w ks ls s a r = short_widens code c next w ks ls s a body id r
needs_widen code body c sig (OR id) next w ks ls s a r = short_widens code c next w ks ls s a body id r
needs_widen code body c sig (ALLOC id) next w ks ls s a r = steps_widen _ next w ks ls a r
needs_widen code body c sig (CONSTRUCT id) next w ks ls s a r = steps_widen _ next w ks ls a r
needs_widen code body c sig (ALLOCARRAY id) next w ks ls s a r = steps_widen _ next w ks ls a r
needs_widen code body c sig (CALL id) next w ks ls s a r = steps_widen _ next w ks ls a r
needs_widen code body c sig (CALLSTATIC id) next w ks ls s a r = steps_widen _ next w ks ls a r
needs_widen code body c sig (CAST id) next w ks ls s a r = steps_widen _ next w ks ls a r
needs_widen code body c sig (ENTER id) next w ks ls s a r = steps_widen _ next w ks ls a r
needs_widen code body c sig (EXECUTEIN id) next w ks ls s a r = steps_widen _ next w ks ls a r
needs_widen code body c sig (SAME id) next w ks ls s a r = steps_widen _ next w ks ls a r
needs_widen code body c sig (SETCEILING id) next w ks ls s a r = steps_widen _ next w ks ls a r
needs_widen code body c sig (PRINT id) next w ks ls s a r = steps_widen _ next w ks ls a r
needs_widen code body c sig (READ id) next w ks ls s a r = steps_widen _ next w ks ls a r
needs_widen code body c sig (REGISTER id) next w ks ls s a r = steps_widen _ next w ks ls a r
needs_widen code body c sig (RELEASE id) next w ks ls s a r = steps_widen _ next w ks ls a r
needs_widen code body c sig (TERMINATE id) next w ks ls s a r = steps_widen _ next w ks ls a r
needs_widen code body c sig (ZERO id) next w ks ls s a r =
    record {
      local = r.local;
      is = r.is;
      is_variable = r.is_variable;
      spares = r.spares;
      goes = w _ _ s (among_both ks ls id a) r.goes;
    }
needs_widen code body c sig (STORE id) next w ks ls s a r =
    record {
      local = r.local;
      is = r.is;
      variable = r.variable;
      is_variable = r.is_variable;
      spares = r.spares;
      value = r.value;
      others = r.others;
      takes = r.takes;
      fit = r.fit;
      goes = w _ _ r.others (among_both ks ls r.variable a) r.goes;
    }
needs_widen code body c sig (PUT id) next w ks ls s a r = steps_widen _ next w ks ls a r
needs_widen code body c sig (PUTSTATIC id) next w ks ls s a r = steps_widen _ next w ks ls a r
needs_widen code body c sig (PUTELEM id) next w ks ls s a r = steps_widen _ next w ks ls a r
needs_widen code body c sig (IF id) next w ks ls s a r = if_widens code c next w ks ls s a body id r
needs_widen code body c sig (LOOP id) next w ks ls s a r = loop_needs_widen code c next w ks ls s a body id r
needs_widen code body c sig (LEAVEWITH id) next w ks ls s a r = r
needs_widen code body c sig LEAVE next w ks ls s a r = r
needs_widen code body c sig (DROP id) next w ks ls s a r = steps_widen _ next w ks ls a r
needs_widen code body c sig (INIT id) next w ks ls s a r = steps_widen _ next w ks ls a r
needs_widen code body c sig (SUPER id) next w ks ls s a r = steps_widen _ next w ks ls a r
needs_widen code body c sig (PARAMS id) next w ks ls s a r = steps_widen _ next w ks ls a r

pub flow_widens : (code : Code) (body : Body) (c : ℕ) (sig : Signature) (ops : List Op) →
    Widens (Flow code body c sig ops)
flow_widens code body c sig [] ks ls s a f = f
flow_widens code body c sig (op ∷ ops) ks ls s a f =
    needs_widen code body c sig op (Flow code body c sig ops) (flow_widens code body c sig ops) ks ls s a f
