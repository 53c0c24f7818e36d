-- What an operation needs it still needs where something else is known of what comes behind it.
use Rattle.std.proofs.Common.{ℕ, List, ◌⊎◌, inl, inr}
use Rattle.scj_rules.specs.declared.views.Body.{Body}
use Rattle.scj_rules.specs.declared.views.Body.TheVariants.{Written, Empty}
use Rattle.accepted_laws.specs.Kinds.{Kind}
use Rattle.scj_model.specs.declared.operations.Op.{Op}
use Rattle.scj_model.specs.declared.operations.Op.TheVariants.{Push as PUSH, This as THIS, Load as LOAD, Get as GET, GetStatic as GETSTATIC, Length as LENGTH, Elem as ELEM, Unary as UNARY, Bin as BIN, And as AND, Or as OR, Alloc as ALLOC, Construct as CONSTRUCT, AllocArray as ALLOCARRAY, Call as CALL, CallStatic as CALLSTATIC, Cast as CAST, Enter as ENTER, ExecuteIn as EXECUTEIN, Same as SAME, SetCeiling as SETCEILING, Print as PRINT, Read as READ, Register as REGISTER, Release as RELEASE, Terminate as TERMINATE, Zero as ZERO, Store as STORE, Put as PUT, PutStatic as PUTSTATIC, PutElem as PUTELEM, If as IF, Loop as LOOP, LeaveWith as LEAVEWITH, Leave as LEAVE, Drop as DROP, Init as INIT, Super as SUPER, Params as PARAMS}
use Rattle.scj_model.specs.Code.{Code}
use Rattle.scope_flow.specs.Signatures.{Signature}
use Rattle.scope_flow.specs.Flow.{Goals, Steps, InNode, IfNeeds, LoopNeeds, Needs}

-- ---- what comes behind may be said otherwise

module _ (next more : Goals) (h : (ks : List ℕ) (s : List Kind) → next ks s → more ks s) where
  steps_more : (Needed : List Kind → Type 0) (ks : List ℕ) → Steps Needed ks next → Steps Needed ks more
  steps_more Needed ks r = record { out = r.out; needed = r.needed; goes = h ks r.out r.goes }

  either_more : {A : Type 0} (ks : List ℕ) (s : List Kind) → A ⊎ next ks s → A ⊎ more ks s
  either_more ks s (inl a) = inl a
  either_more ks s (inr b) = inr (h ks s b)

  if_more : (code : Code) (body : Body) (c id : ℕ) (ks : List ℕ) (s : List Kind) →
      InNode body (λ b. IfNeeds code b c id ks s next) → InNode body (λ b. IfNeeds code b c id ks s more)
  if_more code (Written b) c id ks s r =
      record {
        parts = r.parts;
        is = r.is;
        others = r.others;
        condition = r.condition;
        first = r.first;
        second = r.second;
        goes = either_more ks r.others r.goes;
      }
  if_more code Empty c id ks s r = absurd r

  loop_more : (code : Code) (body : Body) (c id : ℕ) (ks : List ℕ) (s : List Kind) →
      InNode body (λ b. LoopNeeds code b c id ks s next) → InNode body (λ b. LoopNeeds code b c id ks s more)
  loop_more code (Written b) c id ks s r =
      record {
        node = r.node;
        is = r.is;
        parts = r.parts;
        others = r.others;
        condition = r.condition;
        goes = either_more ks r.others r.goes;
      }
  loop_more code Empty c id ks s r = absurd r

  pub needs_more : (code : Code) (body : Body) (c : ℕ) (sig : Signature) (op : Op) (ks : List ℕ) (s : List Kind) →
      Needs code body c sig op ks s next → Needs code body c sig op ks s more
  needs_more code body c sig (PUSH id) ks s r = steps_more _ ks r
  needs_more code body c sig (THIS id) ks s r = steps_more _ ks r
  needs_more code body c sig (LOAD id) ks s r = steps_more _ ks r
  needs_more code body c sig (GET id) ks s r = steps_more _ ks r
  needs_more code body c sig (GETSTATIC id) ks s r = steps_more _ ks r
  needs_more code body c sig (LENGTH id) ks s r = steps_more _ ks r
  needs_more code body c sig (ELEM id) ks s r = steps_more _ ks r
  needs_more code body c sig (UNARY id) ks s r = steps_more _ ks r
  needs_more code body c sig (BIN id) ks s r = steps_more _ ks r
  needs_more code body c sig (AND id) ks s r = steps_more _ ks r
  needs_more code body c sig (OR id) ks s r = steps_more _ ks r
  needs_more code body c sig (ALLOC id) ks s r = steps_more _ ks r
  needs_more code body c sig (CONSTRUCT id) ks s r = steps_more _ ks r
  needs_more code body c sig (ALLOCARRAY id) ks s r = steps_more _ ks r
  needs_more code body c sig (CALL id) ks s r = steps_more _ ks r
  needs_more code body c sig (CALLSTATIC id) ks s r = steps_more _ ks r
  needs_more code body c sig (CAST id) ks s r = steps_more _ ks r
  needs_more code body c sig (ENTER id) ks s r = steps_more _ ks r
  needs_more code body c sig (EXECUTEIN id) ks s r = steps_more _ ks r
  needs_more code body c sig (SAME id) ks s r = steps_more _ ks r
  needs_more code body c sig (SETCEILING id) ks s r = steps_more _ ks r
  needs_more code body c sig (PRINT id) ks s r = steps_more _ ks r
  needs_more code body c sig (READ id) ks s r = steps_more _ ks r
  needs_more code body c sig (REGISTER id) ks s r = steps_more _ ks r
  needs_more code body c sig (RELEASE id) ks s r = steps_more _ ks r
  needs_more code body c sig (TERMINATE id) ks s r = steps_more _ ks r
  needs_more code body c sig (ZERO id) ks s r =
      record { local = r.local; is = r.is; is_variable = r.is_variable; spares = r.spares; goes = h _ s r.goes }
  needs_more code body c sig (STORE id) ks s r =
      record {
        local = r.local;
        is = r.is;
        variable = r.variable;
        is_variable = r.is_variable;
        spares = r.spares;
        value = r.value;
        others = r.others;
        takes = r.takes;
        fit = r.fit;
        goes = h _ r.others r.goes;
      }
  needs_more code body c sig (PUT id) ks s r = steps_more _ ks r
  needs_more code body c sig (PUTSTATIC id) ks s r = steps_more _ ks r
  needs_more code body c sig (PUTELEM id) ks s r = steps_more _ ks r
  needs_more code body c sig (IF id) ks s r = if_more code body c id ks s r
  needs_more code body c sig (LOOP id) ks s r = loop_more code body c id ks s r
  needs_more code body c sig (LEAVEWITH id) ks s r = r
  needs_more code body c sig LEAVE ks s r = r
  needs_more code body c sig (DROP id) ks s r = steps_more _ ks r
  needs_more code body c sig (INIT id) ks s r = steps_more _ ks r
  needs_more code body c sig (SUPER id) ks s r = steps_more _ ks r
  needs_more code body c sig (PARAMS id) ks s r = steps_more _ ks r
