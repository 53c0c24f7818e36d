-- The operations of assignments flow, where those of the nodes before them do.
use Rattle.std.specs.Prelude.{Option, Some, None, slice_get}
use Rattle.std.proofs.Common.{◌≡◌, ℕ, List, [], ◌∷◌, ◌++◌, refl, sym, ◌∙◌, ap, subst, inl, inr}
use Rattle.scj_tree.specs.declared.nodes.Node.{Node}
use Rattle.scj_tree.specs.declared.nodes.Node.TheVariants.{Assign}
use Rattle.scj_rules.specs.declared.typing.Binding.{Binding}
use Rattle.scj_rules.specs.declared.typing.Ty.TheVariants.{Class as ClassTy}
use Rattle.scj_rules.specs.declared.views.Body.TheVariants.{Written}
use Rattle.scj_rules.specs.Words.{◌>>=◌}
use Rattle.scj_rules.specs.Contexts.{known_variables}
use Rattle.accepted_laws.specs.Kinds.{Kind, number, reference}
use Rattle.accepted_laws.specs.Judgements.{Among}
use Rattle.scj_model.specs.declared.operations.Op.{Op}
use Rattle.scj_model.specs.declared.operations.Op.TheVariants.{Store as STORE, Put as PUT, PutStatic as PUTSTATIC, PutElem as PUTELEM}
use Rattle.scj_model.specs.Code.{Code, binding}
use Rattle.scj_model.specs.Ops.{assign_ops}
use Rattle.scj_model.specs.Operations.{assigned, assigned_node, bound_local, bound_field, bound_static}
use Rattle.scope_flow.specs.Signatures.{Signature}
use Rattle.scope_flow.specs.Flow.{Flow}
use Rattle.scope_flow.specs.StatementFacts.{SetLocalFact, SetOwnFieldFact, SetFieldFact, SetStaticFact, SetElementFact, AssignFact}
use Rattle.scope_flow.proofs.Known.{among_trans, among_more}
use Rattle.scope_flow.proofs.FlowTools.{FlowsBelow, value, join2, join3, own_reference}

module _ (code : Code) (b c : ℕ) (sig : Signature) (id : ℕ) (sub : ℕ → List Op) (hyp : FlowsBelow code b c sig id sub) (position : _) (target v : ℕ) (there : slice_get code.program.nodes id ≡ Some (Assign position target v)) where
  abbrev F : List Op → List ℕ → List Kind → Type 0
  F xs ms t = Flow code (Written b) c sig xs ms t

  abbrev at_reading : {A : Type 0} → (Node → Option A) → Option Node → Option A
  at_reading f node = elim node [ None ↦ None | Some x ↦ f x ]

  -- what is assigned is told by the target
  is_target : {A : Type 0} (f : Binding → Option A) (x : Binding) (y : A) → binding code target ≡ x → f x ≡ Some y →
      assigned code id >>= f ≡ Some y
  unfolding assigned_node
  is_target f x y e g =
      ap (λ (o : Option ℕ). o >>= (λ node. Some (binding code node)) >>= f) (ap (at_reading (assigned_node id)) there)
      ∙ (ap f e ∙ g)

  abbrev target_ops : List Op
  target_ops =
      elim (slice_get code.program.nodes target) [
        | None ↦ []
        | Some node ↦ assign_ops sub id v (binding code target) node
      ]

  module _ (ls : List ℕ) (am : Among (known_variables code.program id) ls) (os : List Op) (s : List Kind) (next : (ms : List ℕ) → Among ls ms → F os ms s) where
    by_target : (node : Node) (x : Binding) → slice_get code.program.nodes target ≡ Some node →
        binding code target ≡ x → F (assign_ops sub id v x node ++ os) ls s → F (target_ops ++ os) ls s
    by_target node x e f h =
        subst
        (λ (o : Option Node). F ((elim o [ None ↦ [] | Some n ↦ assign_ops sub id v (binding code target) n ]) ++ os) ls s)
        (sym e) (subst (λ (y : Binding). F (assign_ops sub id v y node ++ os) ls s) (sym f) h)

    local_flow : SetLocalFact code b c id target v → F (target_ops ++ os) ls s
    unfolding assign_ops bound_local
    local_flow r =
        by_target _ _ r.is_there r.is
        (join2 code b c sig id sub hyp (sub v) (STORE id ∷ []) os ls s
        (value code b c sig id sub hyp v r.fits.kind r.fits.value_is ls am (STORE id ∷ os) s (λ ms m. record {
          local = r.local;
          is = is_target bound_local _ r.local r.is refl;
          variable = r.variable;
          is_variable = r.is_variable;
          spares = r.spares;
          value = r.fits.kind;
          others = s;
          takes = refl;
          fit = r.fits.fits;
          goes = next (r.variable ∷ ms) (among_trans ls ms (r.variable ∷ ms) m (among_more ms r.variable));
        })))

    own_field_flow : SetOwnFieldFact code b c id target v → F (target_ops ++ os) ls s
    unfolding assign_ops bound_field
    own_field_flow r =
        by_target _ _ r.is_there r.is
        (own_reference code b c sig id sub hyp r.own ls ((sub v ++ PUT id ∷ []) ++ os) s id
        (join2 code b c sig id sub hyp (sub v) (PUT id ∷ []) os ls (reference (ClassTy c) r.own.home ∷ s)
        (value code b c sig id sub hyp v r.fits.kind r.fits.value_is ls am (PUT id ∷ os)
        (reference (ClassTy c) r.own.home ∷ s) (λ ms m. record {
          out = s;
          needed = record {
            field = r.field;
            is = is_target bound_field _ r.field r.is refl;
            value = r.fits.kind;
            class = c;
            scope = r.own.home;
            takes = refl;
            has = r.has;
            fit = r.fits.fits;
          };
          goes = next ms m;
        }))))

    field_flow : SetFieldFact code b c id target v → F (target_ops ++ os) ls s
    unfolding assign_ops bound_field
    field_flow r =
        by_target _ _ r.is_there r.is
        (join3 code b c sig id sub hyp (sub r.object) (sub v) (PUT id ∷ []) os ls s
        (value code b c sig id sub hyp r.object _ r.object_is ls am _ s (λ ms m.
        value code b c sig id sub hyp v r.fits.kind r.fits.value_is ms (among_trans _ ls ms am m) (PUT id ∷ os) _ (λ ns n.
        record {
          out = s;
          needed = record {
            field = r.field;
            is = is_target bound_field _ r.field r.is refl;
            value = r.fits.kind;
            class = r.class;
            scope = r.scope;
            takes = refl;
            has = r.has;
            fit = r.fits.fits;
          };
          goes = next ns (among_trans ls ms ns m n);
        }))))

    static_flow : SetStaticFact code b c id target v → F (target_ops ++ os) ls s
    unfolding assign_ops bound_static
    static_flow r =
        by_target _ _ r.is_there r.is
        (join2 code b c sig id sub hyp (sub v) (PUTSTATIC id ∷ []) os ls s
        (value code b c sig id sub hyp v r.fits.kind r.fits.value_is ls am (PUTSTATIC id ∷ os) s (λ ms m. record {
          out = s;
          needed = record {
            field = r.field;
            is = is_target bound_static _ r.field r.is refl;
            value = r.fits.kind;
            takes = refl;
            has = r.has;
            fit = r.fits.fits;
          };
          goes = next ms m;
        })))

    element_flow : SetElementFact code b c id target v → F (target_ops ++ os) ls s
    unfolding assign_ops
    element_flow r =
        by_target _ _ r.is_there r.is
        (join2 code b c sig id sub hyp (sub r.array) (sub r.index ++ (sub v ++ PUTELEM id ∷ [])) os ls s
        (value code b c sig id sub hyp r.array _ r.array_is ls am _ s (λ ms m.
        join3 code b c sig id sub hyp (sub r.index) (sub v) (PUTELEM id ∷ []) os ms _
        (value code b c sig id sub hyp r.index number r.index_is ms (among_trans _ ls ms am m) _ _ (λ ns n.
        value code b c sig id sub hyp v r.fits.kind r.fits.value_is ns
        (among_trans _ ms ns (among_trans _ ls ms am m) n) (PUTELEM id ∷ os) _ (λ ps q.
        record {
          out = s;
          needed = record {
            value = r.fits.kind;
            type = r.type;
            scope = r.scope;
            takes = refl;
            kind = r.kind;
            elements = r.elements;
            fit = r.fits.fits;
          };
          goes = next ps (among_trans ls ns ps (among_trans ls ms ns m n) q);
        }))))))

    pub assignment_flow_by : AssignFact code b c id target v → F (target_ops ++ os) ls s
    assignment_flow_by (inl r) = local_flow r
    assignment_flow_by (inr (inl r)) = own_field_flow r
    assignment_flow_by (inr (inr (inl r))) = field_flow r
    assignment_flow_by (inr (inr (inr (inl r)))) = static_flow r
    assignment_flow_by (inr (inr (inr (inr r)))) = element_flow r

  pub assignment_flow : AssignFact code b c id target v → (ls : List ℕ) →
      Among (known_variables code.program id) ls → (os : List Op) (s : List Kind) →
      ((ms : List ℕ) → Among ls ms → F os ms s) → F (target_ops ++ os) ls s
  assignment_flow r ls am os s next = assignment_flow_by ls am os s next r
