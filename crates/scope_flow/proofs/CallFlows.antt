-- The operations of each call flow, where those of the nodes before it do.
use Rattle.std.specs.Prelude.{Option, Some, None, is_some, slice_get, flat_map}
use Rattle.std.proofs.Common.{◌≡◌, ℕ, List, [], ◌∷◌, ◌++◌, refl, sym, ◌∙◌, ap, subst, ◌⊎◌, inl, inr}
use Rattle.scj_base.specs.declared.positions.Position.{Position}
use Rattle.scj_tree.specs.declared.nodes.Node.{Node}
use Rattle.scj_tree.specs.declared.nodes.Node.TheVariants.{Call}
use Rattle.scj_rules.specs.declared.typing.Binding.{Binding}
use Rattle.scj_rules.specs.declared.typing.Binding.TheVariants.{Method, Builtin}
use Rattle.scj_rules.specs.declared.typing.Target.{Target}
use Rattle.scj_rules.specs.declared.typing.Scope.{Scope}
use Rattle.scj_rules.specs.declared.typing.Scope.TheVariants.{Any, In}
use Rattle.scj_rules.specs.declared.typing.Ty.TheVariants.{Class as ClassTy}
use Rattle.scj_rules.specs.declared.views.Body.TheVariants.{Written}
use Rattle.scj_rules.specs.Contexts.{known_variables}
use Rattle.accepted_laws.specs.Kinds.{Kind, number, truth, reference, seen_option}
use Rattle.accepted_laws.specs.Judgements.{Among, Judged}
use Rattle.accepted_laws.proofs.Tools.{some_inj}
use Rattle.scj_model.specs.declared.operations.Op.{Op}
use Rattle.scj_model.specs.declared.operations.Op.TheVariants.{Call as CALL, CallStatic as CALLSTATIC, Enter as ENTER, ExecuteIn as EXECUTEIN, Same as SAME, SetCeiling as SETCEILING, Print as PRINT, Read as READ, Register as REGISTER, Release as RELEASE, Terminate as TERMINATE}
use Rattle.scj_model.specs.Code.{Code, binding}
use Rattle.scj_model.specs.Ops.{receiver_ops, builtin_ops, call_ops}
use Rattle.scj_model.specs.Operations.{bound_method, bound_static_method, argument_count, first_argument}
use Rattle.scope_flow.specs.Signatures.{Signature}
use Rattle.scope_flow.specs.Flow.{Flow}
use Rattle.scope_flow.specs.Pushers.{IsGivenBy}
use Rattle.scope_flow.specs.Needs.{pushed, stacked}
use Rattle.scope_flow.specs.CallNeeds.{receiver_of}
use Rattle.scope_flow.specs.ValueFacts.{HaveValues}
use Rattle.scope_flow.specs.CallFacts.{ReceiverIs, CallFact, StaticCallFact, EnterFact, ExecuteInFact, SameFact, SetCeilingFact, PrintFact, ReadFact, ReceiverFact, RegisterFact, BuiltinCases, BuiltinFact}
use Rattle.scope_flow.proofs.Known.{among_self, among_trans}
use Rattle.scope_flow.proofs.FlowTools.{After, FlowsBelow, value, join2, join3, arguments, as_many, behind_option, own_reference, scope_of_receiver}

-- seen from elsewhere it is a value still
seen_is_some : (home now : Scope) (o : Option Kind) → is_some (seen_option home now o) ≡ is_some o
unfolding seen_option
seen_is_some home now None = refl
seen_is_some home now (Some k) = refl

-- a node stands for one method
bound_target : Binding → Option Target
bound_target (Method t) = Some t
bound_target _ = None

method_on : (t u : Target) → Method t ≡ Method u → t.on ≡ u.on
unfolding bound_target
method_on t u e =
    (let same : t ≡ u = some_inj t u (ap bound_target e) in ap (λ (x : Target). x.on) same)

module _ (code : Code) (b c : ℕ) (sig : Signature) (id : ℕ) (sub : ℕ → List Op) (hyp : FlowsBelow code b c sig id sub) (o : Option Kind) (j : Judged code.program id o) (ls : List ℕ) (am : Among (known_variables code.program id) ls) (os : List Op) (s : List Kind) (a : After code b c sig o ls os s) where
  abbrev F : List Op → List ℕ → List Kind → Type 0
  F xs ms t = Flow code (Written b) c sig xs ms t

  abbrev at_reading : {A : Type 0} → (Node → Option A) → Option Node → Option A
  at_reading f node = elim node [ None ↦ None | Some x ↦ f x ]

  next : (k : Option Kind) → o ≡ k → (ms : List ℕ) → Among ls ms → F os ms (pushed k s)
  next k e ms m = behind_option code b c sig id sub hyp o k e ls os s a ms m

  -- the scope of what the node gives is the node's
  given : (k : Option Kind) → o ≡ k → IsGivenBy code.program id k
  given k e kind is s has = (kind, subst (Judged code.program id) (e ∙ is) j, has)

  by_binding : (f : Binding → List Op) (x : Binding) → binding code id ≡ x → F (f x ++ os) ls s →
      F (f (binding code id) ++ os) ls s
  by_binding f x e h = subst (λ y. F (f y ++ os) ls s) (sym e) h

  receiver : (object : Option ℕ) (class : ℕ) (scope : Scope) → ReceiverIs code.program b c id object class scope →
      (xs : List Op) (t : List Kind) →
      ((ms : List ℕ) → Among ls ms → F xs ms (reference (ClassTy class) scope ∷ t)) →
      F (receiver_ops sub id object ++ xs) ls t
  unfolding receiver_ops
  receiver None class scope r xs t h =
      own_reference code b c sig id sub hyp r.0 ls xs t id
      (let e : reference (ClassTy class) scope ≡ reference (ClassTy c) r.0.home = cc (r.1, r.2) in
      subst (λ k. F xs ls (k ∷ t)) e (h ls (among_self ls)))
  receiver (Some object) class scope r xs t h = value code b c sig id sub hyp object _ r ls am xs t h

  -- ---- calls of methods

  method_flow : (position : _) (name : List ℕ) (object : Option ℕ) (xs : List ℕ) →
      slice_get code.program.nodes id ≡ Some (Call position name object xs) → CallFact code b c sig id object xs o →
      F (call_ops sub id object xs (binding code id) ++ os) ls s
  unfolding call_ops bound_method argument_count receiver_of
  method_flow position name object xs there r =
      by_binding (call_ops sub id object xs) _ r.is
      (join3 code b c sig id sub hyp (receiver_ops sub id object) (flat_map sub xs) (CALL id ∷ []) os ls s
      (receiver object r.class r.scope r.receiver_is _ s (λ ms m.
      arguments code b c sig id sub hyp xs r.kinds r.arguments_are ms (among_trans _ ls ms am m) (CALL id ∷ os) _ (λ ns n.
      record {
        out = pushed (seen_option r.scope sig.runs_in r.static.gives) s;
        needed = record {
          method = r.target.id;
          is = ap bound_method r.is;
          arguments = r.kinds;
          count =
              ap (at_reading argument_count) there
              ∙ ap (λ n. Some n) (as_many code b c sig id sub hyp xs r.kinds r.arguments_are);
          class = r.class;
          is_on = λ t e. method_on t r.target (sym e ∙ r.is) ∙ r.is_on;
          scope = r.scope;
          receiver = object;
          is_receiver = ap (at_reading receiver_of) there;
          of_receiver = scope_of_receiver code b c sig id sub hyp object r.class r.scope r.receiver_is;
          others = s;
          takes = refl;
          static = r.static;
          fit = r.fit;
          runs = r.runs;
          each = r.each;
          by_expression = given _ r.is_given;
          is_left = r.is_left ∙ ap is_some r.is_given ∙ seen_is_some r.scope sig.runs_in r.static.gives;
          leaves = refl;
        };
        goes = next _ r.is_given ns (among_trans ls ms ns m n);
      }))))

  static_flow : (position : _) (name : List ℕ) (object : Option ℕ) (xs : List ℕ) →
      slice_get code.program.nodes id ≡ Some (Call position name object xs) → StaticCallFact code b c sig id xs o →
      F (call_ops sub id object xs (binding code id) ++ os) ls s
  unfolding call_ops bound_static_method argument_count
  static_flow position name object xs there r =
      by_binding (call_ops sub id object xs) _ r.is
      (join2 code b c sig id sub hyp (flat_map sub xs) (CALLSTATIC id ∷ []) os ls s
      (arguments code b c sig id sub hyp xs r.kinds r.arguments_are ls am (CALLSTATIC id ∷ os) s (λ ms m. record {
        out = pushed (seen_option Any sig.runs_in r.static.gives) s;
        needed = record {
          method = (r.target.on, r.target.id);
          is = ap bound_static_method r.is;
          arguments = r.kinds;
          count =
              ap (at_reading argument_count) there
              ∙ ap (λ n. Some n) (as_many code b c sig id sub hyp xs r.kinds r.arguments_are);
          others = s;
          takes = refl;
          body = r.body;
          is_body = r.is_body;
          on = r.on;
          static = r.static;
          has_signature = r.has_signature;
          for_no_object = r.for_no_object;
          runs = r.runs;
          fit = r.fit;
          takes_no_this = r.takes_no_this;
          gives_no_this = r.gives_no_this;
          gives_itself = r.gives_itself;
          by_expression = given _ r.is_given;
          is_left = r.is_left ∙ ap is_some r.is_given ∙ seen_is_some Any sig.runs_in r.static.gives;
          leaves = refl;
        };
        goes = next _ r.is_given ms m;
      })))

  -- ---- calls of the framework

  -- the arguments told, and then the operation
  with_arguments : (xs ys : List ℕ) → xs ≡ ys → (ks : List Kind) → HaveValues code.program b c id ys ks →
      (op : Op) → ((ms : List ℕ) → Among ls ms → F (op ∷ os) ms (stacked ks s)) →
      F ((flat_map sub xs ++ op ∷ []) ++ os) ls s
  with_arguments xs ys e ks are op h =
      subst (λ zs. F ((flat_map sub zs ++ op ∷ []) ++ os) ls s) (sym e)
      (join2 code b c sig id sub hyp (flat_map sub ys) (op ∷ []) os ls s
      (arguments code b c sig id sub hyp ys ks are ls am (op ∷ os) s h))

  enter_flow : (position : Position) (name : List ℕ) (object : Option ℕ) (xs : List ℕ) (t : Target) →
      slice_get code.program.nodes id ≡ Some (Call position name object xs) → binding code id ≡ Builtin t →
      EnterFact code b c sig id t.id t.on xs o → F ((flat_map sub xs ++ ENTER id ∷ []) ++ os) ls s
  unfolding pushed
  enter_flow position name object xs t there is r =
      with_arguments xs _ r.are (number ∷ (reference (ClassTy r.class) r.scope ∷ [])) (r.size_is, (r.object_is, tt)) (ENTER id)
      (λ ms m. record {
        out = s;
        needed = record {
          position = position;
          name = name;
          object = object;
          size = r.size;
          runnable = r.object;
          is_there = there ∙ ap (λ zs. Some (Call position name object zs)) r.are;
          target = t;
          is = is;
          class = r.class;
          is_on = r.is_on;
          scope = r.scope;
          takes = refl;
          entered = r.entered;
          parent = r.parent;
          is_parent = r.is_parent;
          now = r.now;
          each = r.each;
          is_value = r.object_is;
        };
        goes = next None r.is_given ms m;
      })

  execute_flow : (xs : List ℕ) (t : Target) → binding code id ≡ Builtin t → ExecuteInFact code b c id t.id t.on xs o →
      F ((flat_map sub xs ++ EXECUTEIN id ∷ []) ++ os) ls s
  unfolding pushed
  execute_flow xs t is r =
      with_arguments xs _ r.are (reference r.type (In r.area) ∷ (reference (ClassTy r.class) r.scope ∷ []))
      (r.place_is, (r.object_is, tt)) (EXECUTEIN id)
      (λ ms m. record {
        out = s;
        needed = record {
          target = t;
          is = is;
          class = r.class;
          is_on = r.is_on;
          scope = r.scope;
          type = r.type;
          area = r.area;
          takes = refl;
          each = r.each;
        };
        goes = next None r.is_given ms m;
      })

  ceiling_flow : (xs : List ℕ) (method : ℕ) → SetCeilingFact code b c id method xs o →
      F ((flat_map sub xs ++ SETCEILING id ∷ []) ++ os) ls s
  unfolding pushed
  ceiling_flow xs method r =
      with_arguments xs _ r.are (reference r.type r.scope ∷ (number ∷ [])) (r.object_is, (r.ceiling_is, tt)) (SETCEILING id)
      (λ ms m. record {
        out = s;
        needed = record { type = r.type; scope = r.scope; takes = refl };
        goes = next None r.is_given ms m;
      })

  same_flow : (xs : List ℕ) (method : ℕ) → SameFact code b c id method xs o →
      F ((flat_map sub xs ++ SAME id ∷ []) ++ os) ls s
  unfolding pushed
  same_flow xs method r =
      with_arguments xs _ r.are (reference r.first_type r.first_scope ∷ (reference r.second_type r.second_scope ∷ []))
      (r.first_is, (r.second_is, tt)) (SAME id)
      (λ ms m. record {
        out = truth ∷ s;
        needed = record {
          first_type = r.first_type;
          first_scope = r.first_scope;
          second_type = r.second_type;
          second_scope = r.second_scope;
          others = s;
          takes = refl;
          leaves = refl;
        };
        goes = next (Some truth) r.is_given ms m;
      })

  -- a text has no operation
  print_flow : (position : _) (name : List ℕ) (object : Option ℕ) (xs : List ℕ) (method : ℕ) →
      slice_get code.program.nodes id ≡ Some (Call position name object xs) → PrintFact code b c id method xs o →
      F ((flat_map sub xs ++ PRINT id ∷ []) ++ os) ls s
  unfolding pushed first_argument
  print_flow position name object xs method there r =
      subst (λ zs. F ((flat_map sub zs ++ PRINT id ∷ []) ++ os) ls s) (sym r.are)
      (subst (λ (zs : List Op). F (((zs ++ (sub r.value ++ [])) ++ PRINT id ∷ []) ++ os) ls s) (sym (hyp.texts r.label r.is_smaller r.position r.text r.is_text))
      (join2 code b c sig id sub hyp (sub r.value ++ []) (PRINT id ∷ []) os ls s
      (join2 code b c sig id sub hyp (sub r.value) [] (PRINT id ∷ os) ls s
      (value code b c sig id sub hyp r.value number r.value_is ls am (PRINT id ∷ os) s (λ ms m. record {
        out = s;
        needed = record {
          label = r.label;
          is =
              ap (at_reading first_argument) there
              ∙ ap (λ zs. first_argument (Call position name object zs)) r.are;
          takes = refl;
        };
        goes = next None r.is_given ms m;
      })))))

  read_flow : (xs : List ℕ) (method : ℕ) → ReadFact code b c id method xs o →
      F ((flat_map sub xs ++ READ id ∷ []) ++ os) ls s
  unfolding pushed
  read_flow xs method r =
      with_arguments xs _ r.are (number ∷ []) (r.port_is, tt) (READ id)
      (λ ms m. record {
        out = number ∷ s;
        needed = record { others = s; takes = refl; leaves = refl };
        goes = next (Some number) r.is_given ms m;
      })

  on_receiver : (object : Option ℕ) (op : Op) (r : ReceiverFact code b c id object o) →
      ((ms : List ℕ) → Among ls ms → F (op ∷ os) ms (reference (ClassTy r.class) r.scope ∷ s)) →
      F ((receiver_ops sub id object ++ op ∷ []) ++ os) ls s
  on_receiver object op r h =
      join2 code b c sig id sub hyp (receiver_ops sub id object) (op ∷ []) os ls s
      (receiver object r.class r.scope r.receiver_is (op ∷ os) s h)

  release_flow : (object : Option ℕ) → ReceiverFact code b c id object o →
      F ((receiver_ops sub id object ++ RELEASE id ∷ []) ++ os) ls s
  unfolding pushed
  release_flow object r =
      on_receiver object (RELEASE id) r (λ ms m. record {
        out = s;
        needed = record { class = r.class; scope = r.scope; takes = refl };
        goes = next None r.is_given ms m;
      })

  terminate_flow : (object : Option ℕ) → ReceiverFact code b c id object o →
      F ((receiver_ops sub id object ++ TERMINATE id ∷ []) ++ os) ls s
  unfolding pushed
  terminate_flow object r =
      on_receiver object (TERMINATE id) r (λ ms m. record {
        out = s;
        needed = record { class = r.class; scope = r.scope; takes = refl };
        goes = next None r.is_given ms m;
      })

  register_flow : (object : Option ℕ) → RegisterFact code b c id object o →
      F ((receiver_ops sub id object ++ REGISTER id ∷ []) ++ os) ls s
  unfolding pushed
  register_flow object r =
      on_receiver object (REGISTER id) r.receiver (λ ms m. record {
        out = s;
        needed = record {
          receiver = record { class = r.receiver.class; scope = r.receiver.scope; takes = refl };
          are_handlers = r.are_handlers;
        };
        goes = next None r.receiver.is_given ms m;
      })

  -- by the number of the method
  by_method : (object : Option ℕ) (xs : List ℕ) (method is : ℕ) → method ≡ is →
      F (builtin_ops sub id object xs is ++ os) ls s → F (builtin_ops sub id object xs method ++ os) ls s
  by_method object xs method is e h = subst (λ x. F (builtin_ops sub id object xs x ++ os) ls s) (sym e) h

  builtin_cases : (position : _) (name : List ℕ) (object : Option ℕ) (xs : List ℕ) (t : Target) →
      slice_get code.program.nodes id ≡ Some (Call position name object xs) → binding code id ≡ Builtin t →
      BuiltinCases code b c sig id object xs t.id t.on o → F (builtin_ops sub id object xs t.id ++ os) ls s
  unfolding builtin_ops
  builtin_cases position name object xs t there is (inl r) = by_method object xs t.id _ r.is_method (enter_flow position name object xs t there is r)
  builtin_cases position name object xs t there is (inr (inl r)) =
      by_method object xs t.id _ r.is_method (execute_flow xs t is r)
  builtin_cases position name object xs t there is (inr (inr (inl r))) =
      by_method object xs t.id _ r.is_method (ceiling_flow xs t.id r)
  builtin_cases position name object xs t there is (inr (inr (inr (inl r)))) =
      by_method object xs t.id _ r.is_method (print_flow position name object xs t.id there r)
  builtin_cases position name object xs t there is (inr (inr (inr (inr (inl r))))) =
      by_method object xs t.id _ r.is_method (read_flow xs t.id r)
  builtin_cases position name object xs t there is (inr (inr (inr (inr (inr (inl r)))))) =
      by_method object xs t.id _ r.0 (terminate_flow object r.1)
  builtin_cases position name object xs t there is (inr (inr (inr (inr (inr (inr (inl r))))))) =
      by_method object xs t.id _ r.0 (release_flow object r.1)
  builtin_cases position name object xs t there is (inr (inr (inr (inr (inr (inr (inr (inl (inl e, r))))))))) =
      by_method object xs t.id _ e (register_flow object r)
  builtin_cases position name object xs t there is (inr (inr (inr (inr (inr (inr (inr (inl (inr e, r))))))))) =
      by_method object xs t.id _ e (register_flow object r)
  builtin_cases position name object xs t there is (inr (inr (inr (inr (inr (inr (inr (inr r)))))))) =
      by_method object xs t.id _ r.is_method (same_flow xs t.id r)

  pub call_flow : (position : _) (name : List ℕ) (object : Option ℕ) (xs : List ℕ) →
      slice_get code.program.nodes id ≡ Some (Call position name object xs) →
      CallFact code b c sig id object xs o ⊎ (StaticCallFact code b c sig id xs o ⊎ BuiltinFact code b c sig id object xs o) →
      F (call_ops sub id object xs (binding code id) ++ os) ls s
  unfolding call_ops
  call_flow position name object xs there (inl r) = method_flow position name object xs there r
  call_flow position name object xs there (inr (inl r)) = static_flow position name object xs there r
  call_flow position name object xs there (inr (inr r)) =
      by_binding (call_ops sub id object xs) _ r.is (builtin_cases position name object xs r.target there r.is r.cases)
