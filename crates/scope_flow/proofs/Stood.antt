-- On a way to an operation that finds what it needs one comes to what is behind it.
use Rattle.std.specs.Prelude.{Option, Some, None}
use Rattle.std.proofs.Common.{◌≡◌, ℕ, zero, suc, ◌+◌, List, [], ◌∷◌, length, true, refl, sym, ◌∙◌, ap, subst, arith, ◌⊎◌, inl, inr}
use Rattle.scj_rules.specs.declared.typing.Scope.{Scope}
use Rattle.scj_rules.specs.declared.typing.Ty.TheVariants.{Class as ClassTy}
use Rattle.scj_rules.specs.declared.views.Body.{Body}
use Rattle.scj_rules.specs.declared.views.Body.TheVariants.{Written, Empty}
use Rattle.scj_rules.specs.StaticScopes.{this_in}
use Rattle.scj_rules.specs.TypeRules.{always_returns}
use Rattle.accepted_laws.specs.Kinds.{Kind, number, truth, yes, reference, fresh}
use Rattle.accepted_laws.proofs.Tools.{some_inj}
use Rattle.scj_model.specs.declared.operations.Op.{Op}
use Rattle.scj_model.specs.declared.operations.Op.TheVariants.{Push as PUSH, This as THIS, Load as LOAD, Get as GET, GetStatic as GETSTATIC, Length as LENGTH, Elem as ELEM, Unary as UNARY, Bin as BIN, And as AND, Or as OR, Alloc as ALLOC, Construct as CONSTRUCT, AllocArray as ALLOCARRAY, Call as CALL, CallStatic as CALLSTATIC, Cast as CAST, Enter as ENTER, ExecuteIn as EXECUTEIN, Same as SAME, SetCeiling as SETCEILING, Print as PRINT, Read as READ, Register as REGISTER, Release as RELEASE, Terminate as TERMINATE, Zero as ZERO, Store as STORE, Put as PUT, PutStatic as PUTSTATIC, PutElem as PUTELEM, If as IF, Loop as LOOP, LeaveWith as LEAVEWITH, Leave as LEAVE, Drop as DROP, Init as INIT, Super as SUPER, Params as PARAMS}
use Rattle.scj_model.specs.Code.{Code, part}
use Rattle.scj_model.specs.Operations.{argument_count, super_count}
use Rattle.scope_flow.specs.Signatures.{Signature}
use Rattle.scope_flow.specs.Pushers.{Pusher, expression, own_object, scope_in, IsPushed, ArePushed, IsGivenBy, IsScopeOfExpression}
use Rattle.scope_flow.specs.Needs.{pushed, stacked, numbers, parameter_count, ShortNeeds}
use Rattle.scope_flow.specs.Flow.{Goals, Steps, InNode, both_return, IfNeeds, LoopNeeds, Needs}
use Rattle.scope_flow.specs.Ways.{taken_by, Pushes, Stood}
use Rattle.scope_flow.proofs.PlainValues.{plain_unary, plain_binary}
use Rattle.scope_flow.proofs.Taken.{Taken, none, one, all, nothing_left, one_left, number_pushed, truth_pushed}

-- ---- each operation

-- how many numbers stand for a form
as_many_numbers : (n : ℕ) → length (numbers n) ≡ n
as_many_numbers zero = refl
as_many_numbers (suc n) = ap suc (as_many_numbers n)

counted : (code : Code) (id n : ℕ) → part code argument_count id ≡ Some n → super_count code id ≡ n
counted code id n e = ap (λ (o : Option ℕ). elim o as (λ z. ℕ) [ None ↦ 0 | Some count ↦ count ]) e

module _ (code : Code) (body : Body) (c : ℕ) (sig : Signature) (ops : List Op) (next : Goals) where
  abbrev St : List Kind → Type 0
  St s = Stood code body c ops s

  abbrev both : Goals
  both ks s = Stood code body c ops s × next ks s

  steps_stood : (Needed : List Kind → Type 0) (ks : List ℕ) → Steps Needed ks next →
      ((out : List Kind) → Needed out → St out) → Steps Needed ks both
  steps_stood Needed ks r h = record { out = r.out; needed = r.needed; goes = (h r.out r.needed, r.goes) }

  -- no operand is taken, one is, two are
  abbrev From : Op → List Kind → Type 0
  From op s = Stood code body c (op ∷ ops) s

  after_none : (op : Op) (s : List Kind) → From op s → Taken code body c op ops s 0
  after_none op s st = none code body c op ops s st

  after_one : (op : Op) (s : List Kind) → From op s → (k : Kind) (others : List Kind) → s ≡ k ∷ others →
      Taken code body c op ops others 1
  after_one op s st k others e =
      one code body c op ops k others 0 (none code body c op ops (k ∷ others) (subst (From op) e st))

  after_two : (op : Op) (s : List Kind) → From op s → (k m : Kind) (others : List Kind) → s ≡ k ∷ (m ∷ others) →
      Taken code body c op ops others 2
  after_two op s st k m others e = one code body c op ops m others 1 (after_one op s st k (m ∷ others) e)

  after_three : (op : Op) (s : List Kind) → From op s → (k m n : Kind) (others : List Kind) →
      s ≡ k ∷ (m ∷ (n ∷ others)) → Taken code body c op ops others 3
  after_three op s st k m n others e = one code body c op ops n others 2 (after_two op s st k m (n ∷ others) e)

  after_all : (op : Op) (s : List Kind) → From op s → (us others : List Kind) → s ≡ stacked us others →
      Taken code body c op ops others (length us)
  after_all op s st us others e =
      let z : length us + 0 ≡ length us = omega arith in
      subst (Taken code body c op ops others) z
      (all code body c op ops us others 0 (none code body c op ops (stacked us others) (subst (From op) e st)))

  after_all_and_one : (op : Op) (s : List Kind) → From op s → (us : List Kind) (k : Kind) (others : List Kind) →
      s ≡ stacked us (k ∷ others) → Taken code body c op ops others (suc (length us))
  after_all_and_one op s st us k others e =
      one code body c op ops k others (length us) (after_all op s st us (k ∷ others) e)

  -- what is left
  leaves : (op : Op) (others : List Kind) (n : ℕ) → Taken code body c op ops others n → n ≡ taken_by code op →
      Pushes op [] → St others
  leaves op others n x e p = nothing_left code body c op ops others n x e p

  puts : (op : Op) (out others : List Kind) (n : ℕ) (k : Kind) (q : Pusher) → out ≡ k ∷ others →
      Taken code body c op ops others n → n ≡ taken_by code op → Pushes op (q ∷ []) → IsPushed code.program c q k →
      St out
  puts op out others n k q is x e p pushed = subst St (sym is) (one_left code body c op ops others n k q x e p pushed)

  own_pushed : (k : Kind) (home : Scope) → this_in code.program c ≡ Some home → (class : ℕ) →
      (k ≡ fresh class home) ⊎ (k ≡ reference (ClassTy class) home) → IsPushed code.program c own_object k
  unfolding scope_in
  own_pushed k home is class (inl e) s h =
      is ∙ ap (λ x. Some x) (some_inj home s (sym (ap scope_in e) ∙ h))
  own_pushed k home is class (inr e) s h =
      is ∙ ap (λ x. Some x) (some_inj home s (sym (ap scope_in e) ∙ h))

  fresh_pushed : (id class : ℕ) (now : Scope) → IsScopeOfExpression code.program id now →
      IsPushed code.program c (expression id) (fresh class now)
  unfolding scope_in
  fresh_pushed id class now x s h = subst (IsScopeOfExpression code.program id) (some_inj now s h) x

  array_pushed : (id : ℕ) (type : _) (now : Scope) → IsScopeOfExpression code.program id now →
      IsPushed code.program c (expression id) (reference type now)
  unfolding scope_in
  array_pushed id type now x s h = subst (IsScopeOfExpression code.program id) (some_inj now s h) x

  -- the object that a constructor was called on keeps its scope
  constructed : (class : ℕ) (now : Scope) (others : List Kind) (left : List Pusher) →
      ArePushed code.program c left (fresh class now ∷ others) →
      ArePushed code.program c left (reference (ClassTy class) now ∷ others)
  unfolding scope_in
  constructed class now others [] h = h
  constructed class now others (q ∷ left) h = ((λ s e. h.0 s e), h.1)

  -- a call leaves a value, or none
  given_stood : (op : Op) (id : ℕ) (out others : List Kind) (n : ℕ) (o : Option Kind) → out ≡ pushed o others →
      Taken code body c op ops others n → n ≡ taken_by code op → Pushes op (expression id ∷ []) → Pushes op [] →
      IsGivenBy code.program id o → St out
  unfolding pushed
  given_stood op id out others n None is x e p q by = subst St (sym is) (leaves op others n x e q)
  given_stood op id out others n (Some k) is x e p q by = puts op out others n k (expression id) is x e p (by k refl)

  -- AND and OR, with the left operand
  short_stood : (op : Op) (id : ℕ) (s : List Kind) → From op s → taken_by code op ≡ 1 →
      Pushes op (expression id ∷ []) → (ks : List ℕ) (out : List Kind) →
      InNode body (λ b. ShortNeeds code b c id ks s out) → St out
  short_stood op id s st one_ p ks out r = go body r refl
    where
      go : (x : Body) → InNode x (λ b. ShortNeeds code b c id ks s out) → x ≡ body → St out
      go (Written b) r e =
          puts op out r.others 1 truth (expression id) r.leaves
          (after_one op s st r.left.kind r.others r.left.takes) (sym one_) p
          (truth_pushed code body c op ops (expression id))
      go Empty r e = absurd r

  if_stood : (id : ℕ) (ks : List ℕ) (s : List Kind) → From (IF id) s → (x : Body) → x ≡ body →
      InNode x (λ b. IfNeeds code b c id ks s next) → InNode x (λ b. IfNeeds code b c id ks s both)
  unfolding taken_by Pushes
  if_stood id ks s st (Written b) e r =
      record {
        parts = r.parts;
        is = r.is;
        others = r.others;
        condition = r.condition;
        first = r.first;
        second = r.second;
        goes = elim r.goes as (λ z. (both_return code.program r.parts ≡ true) ⊎ both ks r.others) [ inl x ↦ inl x | inr x ↦ inr (here, x) ];
      }
    where
      here : St r.others
      here =
          leaves (IF id) r.others 1 (after_one (IF id) s st r.condition.kind r.others r.condition.takes) refl refl
  if_stood id ks s st Empty e r = absurd r

  loop_stood : (id : ℕ) (ks : List ℕ) (s : List Kind) → From (LOOP id) s → (x : Body) → x ≡ body →
      InNode x (λ b. LoopNeeds code b c id ks s next) → InNode x (λ b. LoopNeeds code b c id ks s both)
  unfolding taken_by Pushes
  loop_stood id ks s st (Written b) e r =
      record {
        node = r.node;
        is = r.is;
        parts = r.parts;
        others = r.others;
        condition = r.condition;
        goes = elim r.goes as
            (λ z. ((r.condition.kind ≡ yes) × (always_returns code.program id ≡ true)) ⊎ both ks r.others) [
              | inl x ↦ inl x
              | inr x ↦ inr (here, x)
            ];
      }
    where
      here : St r.others
      here =
          leaves (LOOP id) r.others 1 (after_one (LOOP id) s st r.condition.kind r.others r.condition.takes) refl refl
  loop_stood id ks s st Empty e r = absurd r

  -- on a way to an operation that finds what it needs, one comes to what is behind it
  pub needs_stood : (op : Op) (ks : List ℕ) (s : List Kind) → From op s → Needs code body c sig op ks s next →
      Needs code body c sig op ks s both
  unfolding taken_by Pushes scope_in
  needs_stood (PUSH id) ks s st r =
      steps_stood _ ks r (λ out n. puts (PUSH id) out s 0 n.kind (expression id) n.leaves (after_none (PUSH id) s st) refl
      refl n.by_expression)
  needs_stood (THIS id) ks s st r =
      steps_stood _ ks r (λ out n. puts (THIS id) out s 0 n.kind own_object n.leaves (after_none (THIS id) s st) refl refl
      (own_pushed n.kind n.home n.is_home c n.loose))
  needs_stood (LOAD id) ks s st r =
      steps_stood _ ks r (λ out n. puts (LOAD id) out s 0 n.is_variable.kind (expression id) n.leaves
      (after_none (LOAD id) s st) refl refl n.by_expression)
  needs_stood (GET id) ks s st r =
      steps_stood _ ks r (λ out n. puts (GET id) out n.others 1 _ (expression id) n.leaves
      (after_one (GET id) s st _ n.others n.takes) refl refl n.by_expression)
  needs_stood (GETSTATIC id) ks s st r =
      steps_stood _ ks r (λ out n. puts (GETSTATIC id) out s 0 n.has.kind (expression id) n.leaves
      (after_none (GETSTATIC id) s st) refl refl n.by_expression)
  needs_stood (LENGTH id) ks s st r =
      steps_stood _ ks r (λ out n. puts (LENGTH id) out n.others 1 number (expression id) n.leaves
      (after_one (LENGTH id) s st _ n.others n.takes) refl refl
      (number_pushed code body c (LENGTH id) ops (expression id)))
  needs_stood (ELEM id) ks s st r =
      steps_stood _ ks r (λ out n. puts (ELEM id) out n.others 2 _ (expression id) n.leaves
      (after_two (ELEM id) s st _ _ n.others n.takes) refl refl n.by_expression)
  needs_stood (UNARY id) ks s st r =
      steps_stood _ ks r (λ out n. puts (UNARY id) out n.others 1 n.kind (expression id) n.leaves
      (after_one (UNARY id) s st _ n.others n.takes) refl refl (plain_unary code c id n.operator n.operand n.kind n.gives))
  needs_stood (BIN id) ks s st r =
      steps_stood _ ks r (λ out n. puts (BIN id) out n.others 2 n.kind (expression id) n.leaves
      (after_two (BIN id) s st _ _ n.others n.takes) refl refl
      (plain_binary code c id n.operator n.left n.right n.kind n.gives))
  needs_stood (AND id) ks s st r =
      steps_stood _ ks r (λ out n. short_stood (AND id) id s st refl refl ks out n)
  needs_stood (OR id) ks s st r =
      steps_stood _ ks r (λ out n. short_stood (OR id) id s st refl refl ks out n)
  needs_stood (ALLOC id) ks s st r =
      steps_stood _ ks r (λ out n. puts (ALLOC id) out s 0 _ (expression id) n.leaves (after_none (ALLOC id) s st) refl
      refl (fresh_pushed id n.class sig.runs_in n.by_expression))
  needs_stood (CONSTRUCT id) ks s st r =
      steps_stood _ ks r (λ out n. (let x =
      after_all (CONSTRUCT id) s st n.arguments (fresh n.class sig.runs_in ∷ n.others) n.takes in
      let y = leaves (CONSTRUCT id) _ (length n.arguments) x (sym (counted code id (length n.arguments) n.count)) refl in
      subst St (sym n.leaves) (record {
        pushers = y.pushers;
        came = y.came;
        pushed = constructed n.class sig.runs_in n.others y.pushers y.pushed;
      })))
  needs_stood (ALLOCARRAY id) ks s st r =
      steps_stood _ ks r (λ out n. puts (ALLOCARRAY id) out n.others 1 _ (expression id) n.leaves
      (after_one (ALLOCARRAY id) s st _ n.others n.takes) refl refl
      (array_pushed id n.type sig.runs_in n.by_expression))
  needs_stood (CALL id) ks s st r =
      steps_stood _ ks r (λ out n. given_stood (CALL id) id out n.others (suc (length n.arguments)) _ n.leaves
      (after_all_and_one (CALL id) s st n.arguments _ n.others n.takes)
      (ap suc (sym (counted code id (length n.arguments) n.count))) (inl refl) (inr refl) n.by_expression)
  needs_stood (CALLSTATIC id) ks s st r =
      steps_stood _ ks r (λ out n. given_stood (CALLSTATIC id) id out n.others (length n.arguments) _ n.leaves
      (after_all (CALLSTATIC id) s st n.arguments n.others n.takes)
      (sym (counted code id (length n.arguments) n.count)) (inl refl) (inr refl) n.by_expression)
  needs_stood (CAST id) ks s st r =
      steps_stood _ ks r (λ out n. puts (CAST id) out n.others 1 _ (expression id) n.leaves
      (after_one (CAST id) s st _ n.others n.takes) refl refl n.by_expression)
  needs_stood (ENTER id) ks s st r =
      steps_stood _ ks r (λ out n. leaves (ENTER id) out 2 (after_two (ENTER id) s st _ _ out n.takes) refl refl)
  needs_stood (EXECUTEIN id) ks s st r =
      steps_stood _ ks r (λ out n. leaves (EXECUTEIN id) out 2 (after_two (EXECUTEIN id) s st _ _ out n.takes) refl refl)
  needs_stood (SAME id) ks s st r =
      steps_stood _ ks r (λ out n. puts (SAME id) out n.others 2 truth (expression id) n.leaves
      (after_two (SAME id) s st _ _ n.others n.takes) refl refl (truth_pushed code body c (SAME id) ops (expression id)))
  needs_stood (SETCEILING id) ks s st r =
      steps_stood _ ks r
      (λ out n. leaves (SETCEILING id) out 2 (after_two (SETCEILING id) s st _ _ out n.takes) refl refl)
  needs_stood (PRINT id) ks s st r =
      steps_stood _ ks r (λ out n. leaves (PRINT id) out 1 (after_one (PRINT id) s st _ out n.takes) refl refl)
  needs_stood (READ id) ks s st r =
      steps_stood _ ks r (λ out n. puts (READ id) out n.others 1 number (expression id) n.leaves
      (after_one (READ id) s st _ n.others n.takes) refl refl
      (number_pushed code body c (READ id) ops (expression id)))
  needs_stood (REGISTER id) ks s st r =
      steps_stood _ ks r
      (λ out n. leaves (REGISTER id) out 1 (after_one (REGISTER id) s st _ out n.receiver.takes) refl refl)
  needs_stood (RELEASE id) ks s st r =
      steps_stood _ ks r (λ out n. leaves (RELEASE id) out 1 (after_one (RELEASE id) s st _ out n.takes) refl refl)
  needs_stood (TERMINATE id) ks s st r =
      steps_stood _ ks r (λ out n. leaves (TERMINATE id) out 1 (after_one (TERMINATE id) s st _ out n.takes) refl refl)
  needs_stood (ZERO id) ks s st r =
      record {
        local = r.local;
        is = r.is;
        is_variable = r.is_variable;
        spares = r.spares;
        goes = (leaves (ZERO id) s 0 (after_none (ZERO id) s st) refl refl, r.goes);
      }
  needs_stood (STORE id) ks s st r =
      record {
        local = r.local;
        is = r.is;
        variable = r.variable;
        is_variable = r.is_variable;
        spares = r.spares;
        value = r.value;
        others = r.others;
        takes = r.takes;
        fit = r.fit;
        goes = (leaves (STORE id) r.others 1 (after_one (STORE id) s st _ r.others r.takes) refl refl, r.goes);
      }
  needs_stood (PUT id) ks s st r =
      steps_stood _ ks r (λ out n. leaves (PUT id) out 2 (after_two (PUT id) s st _ _ out n.takes) refl refl)
  needs_stood (PUTSTATIC id) ks s st r =
      steps_stood _ ks r (λ out n. leaves (PUTSTATIC id) out 1 (after_one (PUTSTATIC id) s st _ out n.takes) refl refl)
  needs_stood (PUTELEM id) ks s st r =
      steps_stood _ ks r (λ out n. leaves (PUTELEM id) out 3 (after_three (PUTELEM id) s st _ _ _ out n.takes) refl refl)
  needs_stood (IF id) ks s st r = if_stood id ks s st body refl r
  needs_stood (LOOP id) ks s st r = loop_stood id ks s st body refl r
  needs_stood (LEAVEWITH id) ks s st r = r
  needs_stood LEAVE ks s st r = r
  needs_stood (DROP id) ks s st r =
      steps_stood _ ks r (λ out n. leaves (DROP id) out 1 (after_one (DROP id) s st _ out n.takes) refl refl)
  needs_stood (INIT id) ks s st r =
      steps_stood _ ks r
      (λ out n. subst St (sym n.leaves) (leaves (INIT id) s 0 (after_none (INIT id) s st) refl refl))
  needs_stood (SUPER id) ks s st r =
      steps_stood _ ks r (λ out n. leaves (SUPER id) out (suc (length n.arguments))
      (after_all_and_one (SUPER id) s st n.arguments _ out n.takes) (ap suc (sym n.count)) refl)
  needs_stood (PARAMS id) ks s st r =
      steps_stood _ ks r (λ out n. leaves (PARAMS id) out (length (numbers (parameter_count n.superclass)))
      (after_all (PARAMS id) s st (numbers (parameter_count n.superclass)) out n.takes)
      (as_many_numbers (parameter_count n.superclass)
      ∙ sym (ap (λ (o : Option ℕ). elim o as (λ z. ℕ) [ None ↦ 0 | Some class ↦ parameter_count class ]) n.is)) refl)
