-- What it means that the operations of a node flow, and how the operations of its children come one behind the other.
use Rattle.std.specs.Prelude.{Option, Some, None, slice_get, flat_map}
use Rattle.std.proofs.Common.{◌≡◌, ℕ, suc, ◌<◌, List, [], ◌∷◌, ◌++◌, true, refl, sym, ◌∙◌, ap, subst, append_assoc, length, ◌⊎◌, inl, inr}
use Rattle.scj_base.specs.declared.positions.Position.{Position}
use Rattle.scj_tree.specs.declared.nodes.Node.{Node}
use Rattle.scj_tree.specs.declared.nodes.Node.TheVariants.{Text}
use Rattle.scj_rules.specs.declared.typing.Scope.{Scope}
use Rattle.scj_rules.specs.declared.typing.Ty.TheVariants.{Class as ClassTy}
use Rattle.scj_rules.specs.declared.views.Body.TheVariants.{Written}
use Rattle.scj_rules.specs.Contexts.{known_variables}
use Rattle.scj_rules.specs.TypeRules.{always_returns}
use Rattle.accepted_laws.specs.Kinds.{Kind, yes, reference, fresh}
use Rattle.accepted_laws.specs.Judgements.{Judged, Inside, Among}
use Rattle.scj_model.specs.declared.operations.Op.{Op}
use Rattle.scj_model.specs.declared.operations.Op.TheVariants.{Push as PUSH, This as THIS}
use Rattle.scj_model.specs.Code.{Code}
use Rattle.scope_flow.specs.Slots.{kind_of_literal}
use Rattle.scope_flow.specs.Signatures.{Signature}
use Rattle.scope_flow.specs.CallFacts.{ReceiverIs}
use Rattle.scope_flow.specs.Pushers.{scope_in, IsScopeOfReceiver}
use Rattle.scope_flow.specs.Flow.{Flow}
use Rattle.scope_flow.specs.Needs.{pushed, stacked, IsStatement}
use Rattle.scope_flow.specs.ValueFacts.{HasValue, HaveValues, HasStatement, HasObject}
use Rattle.scope_flow.proofs.Known.{among_self, among_trans, IsSetBy}

module _ (code : Code) (b c : ℕ) (sig : Signature) where
  -- what comes behind a value of this kind
  abbrev pub After : Option Kind → List ℕ → List Op → List Kind → Type 0
  After o ls os s = (ms : List ℕ) → Among ls ms → Flow code (Written b) c sig os ms (pushed o s)

  -- what comes behind a statement, if its end is reached
  abbrev pub Behind : ℕ → List ℕ → List Op → List Kind → Type 0
  Behind id ls os s =
      (always_returns code.program id ≡ true)
      ⊎ ((ms : List ℕ) → Among ls ms → IsSetBy code.program id ms → Flow code (Written b) c sig os ms s)

  abbrev pub ValueFlows : List Op → ℕ → Type 0
  ValueFlows xs id =
      (o : Option Kind) → Inside code.program b c id → Judged code.program id o → (ls : List ℕ) →
      Among (known_variables code.program id) ls → (os : List Op) (s : List Kind) → After o ls os s →
      Flow code (Written b) c sig (xs ++ os) ls s

  abbrev pub StatementFlows : List Op → ℕ → Type 0
  StatementFlows xs id =
      IsStatement code.program b c id → (ls : List ℕ) → Among (known_variables code.program id) ls →
      (os : List Op) (s : List Kind) → Behind id ls os s → Flow code (Written b) c sig (xs ++ os) ls s

  -- the operations of the nodes before one
  pub record FlowsBelow (id : ℕ) (sub : ℕ → List Op) : Type 0 where
    pub values : (x : ℕ) → x < id → ValueFlows (sub x) x
    pub statements : (x : ℕ) → x < id → StatementFlows (sub x) x
    pub literals : (x : ℕ) → x < id → (node : Node) → slice_get code.program.nodes x ≡ Some node →
        kind_of_literal node ≡ Some yes → sub x ≡ PUSH x ∷ []
    pub texts : (x : ℕ) → x < id → (position : Position) (text : List ℕ) →
        slice_get code.program.nodes x ≡ Some (Text position text) → sub x ≡ []

module _ (code : Code) (b c : ℕ) (sig : Signature) (id : ℕ) (sub : ℕ → List Op) (hyp : FlowsBelow code b c sig id sub) where
  -- a child that gives something
  pub expression : (x : ℕ) (o : Option Kind) → HasValue code.program b c id x o → (ls : List ℕ) →
      Among (known_variables code.program id) ls → (os : List Op) (s : List Kind) → After code b c sig o ls os s →
      Flow code (Written b) c sig (sub x ++ os) ls s
  expression x o e ls am os s a =
      hyp.values x e.0.smaller o e.0.inside e.1 ls (among_trans _ _ ls e.0.known am) os s a

  pub value : (x : ℕ) (k : Kind) → HasValue code.program b c id x (Some k) → (ls : List ℕ) →
      Among (known_variables code.program id) ls → (os : List Op) (s : List Kind) →
      ((ms : List ℕ) → Among ls ms → Flow code (Written b) c sig os ms (k ∷ s)) →
      Flow code (Written b) c sig (sub x ++ os) ls s
  unfolding pushed
  value x k e ls am os s a = expression x (Some k) e ls am os s a

  pub statement : (x : ℕ) → HasStatement code.program b c id x → (ls : List ℕ) →
      Among (known_variables code.program id) ls → (os : List Op) (s : List Kind) → Behind code b c sig x ls os s →
      Flow code (Written b) c sig (sub x ++ os) ls s
  statement x e ls am os s a = hyp.statements x e.0.smaller e.1 ls (among_trans _ _ ls e.0.known am) os s a

  pub join2 : (x y z : List Op) (ls : List ℕ) (s : List Kind) → Flow code (Written b) c sig (x ++ (y ++ z)) ls s →
      Flow code (Written b) c sig ((x ++ y) ++ z) ls s
  join2 x y z ls s f = subst (λ o. Flow code (Written b) c sig o ls s) (sym (append_assoc x y z)) f

  pub join3 : (x y z w : List Op) (ls : List ℕ) (s : List Kind) →
      Flow code (Written b) c sig (x ++ (y ++ (z ++ w))) ls s →
      Flow code (Written b) c sig ((x ++ (y ++ z)) ++ w) ls s
  join3 x y z w ls s f =
      subst (λ o. Flow code (Written b) c sig o ls s)
      (sym (append_assoc x (y ++ z) w ∙ ap (λ o. x ++ o) (append_assoc y z w))) f

  pub arguments : (xs : List ℕ) (ks : List Kind) → HaveValues code.program b c id xs ks → (ls : List ℕ) →
      Among (known_variables code.program id) ls → (os : List Op) (s : List Kind) →
      ((ms : List ℕ) → Among ls ms → Flow code (Written b) c sig os ms (stacked ks s)) →
      Flow code (Written b) c sig (flat_map sub xs ++ os) ls s
  arguments [] [] e ls am os s a = a ls (among_self ls)
  arguments [] (k ∷ ks) e ls am os s a = absurd e
  arguments (x ∷ xs) [] e ls am os s a = absurd e
  arguments (x ∷ xs) (k ∷ ks) e ls am os s a =
      join2 (sub x) (flat_map sub xs) os ls s
      (value x k e.0 ls am (flat_map sub xs ++ os) s (λ ms m.
      arguments xs ks e.1 ms (among_trans _ ls ms am m) os (k ∷ s) (λ ns n. a ns (among_trans ls ms ns m n))))

  pub as_many : (xs : List ℕ) (ks : List Kind) → HaveValues code.program b c id xs ks → length xs ≡ length ks
  as_many [] [] e = refl
  as_many [] (k ∷ ks) e = absurd e
  as_many (x ∷ xs) [] e = absurd e
  as_many (x ∷ xs) (k ∷ ks) e = ap suc (as_many xs ks e.1)

  -- what comes behind something that gives this
  pub behind : (o : Option Kind) (k : Kind) → o ≡ Some k → (ls : List ℕ) (os : List Op) (s : List Kind) →
      After code b c sig o ls os s → (ms : List ℕ) → Among ls ms → Flow code (Written b) c sig os ms (k ∷ s)
  unfolding pushed
  behind o k e ls os s a ms m = subst (λ o. Flow code (Written b) c sig os ms (pushed o s)) e (a ms m)

  pub behind_option : (o k : Option Kind) → o ≡ k → (ls : List ℕ) (os : List Op) (s : List Kind) →
      After code b c sig o ls os s → (ms : List ℕ) → Among ls ms → Flow code (Written b) c sig os ms (pushed k s)
  behind_option o k e ls os s a ms m = subst (λ o. Flow code (Written b) c sig os ms (pushed o s)) e (a ms m)

  -- the own object, as a reference and as one that isn't null
  pub own_reference : (own : HasObject code.program b c) (ls : List ℕ) (os : List Op) (s : List Kind) (at_ : ℕ) →
      Flow code (Written b) c sig os ls (reference (ClassTy c) own.home ∷ s) →
      Flow code (Written b) c sig (THIS at_ ∷ os) ls s
  own_reference own ls os s at_ f =
      record {
        out = reference (ClassTy c) own.home ∷ s;
        needed = record {
          for_object = own.for_object;
          home = own.home;
          is_home = own.is_home;
          kind = reference (ClassTy c) own.home;
          loose = inr refl;
          leaves = refl;
        };
        goes = f;
      }

  pub own_fresh : (own : HasObject code.program b c) (ls : List ℕ) (os : List Op) (s : List Kind) (at_ : ℕ) →
      Flow code (Written b) c sig os ls (fresh c own.home ∷ s) → Flow code (Written b) c sig (THIS at_ ∷ os) ls s
  own_fresh own ls os s at_ f =
      record {
        out = fresh c own.home ∷ s;
        needed = record {
          for_object = own.for_object;
          home = own.home;
          is_home = own.is_home;
          kind = fresh c own.home;
          loose = inl refl;
          leaves = refl;
        };
        goes = f;
      }

  -- the scope of a receiver that is one of a class and a scope
  pub scope_of_receiver : (object : Option ℕ) (class : ℕ) (scope : Scope) →
      ReceiverIs code.program b c id object class scope → IsScopeOfReceiver code.program c object scope
  unfolding scope_in
  scope_of_receiver None class scope r = r.0.is_home ∙ ap (λ x. Some x) (sym r.2)
  scope_of_receiver (Some object) class scope r = (reference (ClassTy class) scope, r.1, refl)
