-- A new object: nothing names its number before it is made, and the frame that makes it holds it under the arguments of its
-- constructor.
use Rattle.std.specs.Prelude.{Option, Some, None, flat_map, slice_get}
use Rattle.std.proofs.Common.{◌≡◌, ℕ, suc, List, [], ◌∷◌, ◌++◌, length, refl, sym, ◌∙◌, ap, subst, arith, inl, inr}
use Rattle.scj_base.specs.declared.values.Value.{Value}
use Rattle.scj_base.specs.declared.values.Value.TheVariants.{At}
use Rattle.scj_tree.specs.declared.nodes.Node.{Node}
use Rattle.scj_tree.specs.declared.nodes.Node.TheVariants.{New}
use Rattle.scj_tree.specs.Recursion.{below}
use Rattle.scj_rules.specs.declared.typing.Scope.{Scope}
use Rattle.accepted_laws.specs.Kinds.{Kind, number, truth, yes, reference, fresh}
use Rattle.accepted_laws.specs.Judgements.{Inside, Judged}
use Rattle.scj_model.specs.declared.operations.Op.{Op}
use Rattle.scj_model.specs.declared.operations.Op.TheVariants.{Construct as CONSTRUCT}
use Rattle.scj_model.specs.Code.{Code, binding}
use Rattle.scj_model.specs.State.{Frame}
use Rattle.scj_model.specs.Ops.{ops_of}
use Rattle.scj_model.specs.Operations.{argument_count, bound_class, super_count}
use Rattle.scope_flow.specs.Facts.{Facts}
use Rattle.scope_flow.specs.Signatures.{Signature, IsBody}
use Rattle.scope_flow.specs.CallFacts.{ExpressionFact}
use Rattle.scope_flow.specs.ValueFacts.{NewFact}
use Rattle.frame_sound.specs.Places.{AllHave, Has, IsObject, Place, World, held}
use Rattle.reference_sound.specs.References.{EachReference, IfReference}
use Rattle.certain_faults.specs.declared.known.Known.TheVariants.{Exactly}
use Rattle.certain_faults.proofs.Stacks.{Stack, put}
use Rattle.certain_faults.proofs.Passes.{BeginsNew, PassesTo, made_with}
use Rattle.certain_faults.proofs.RunsOfNodes.{ClassesAskNothing}
use Rattle.certain_faults.proofs.Frames.{Shadows, shadows_put}
use Rattle.memory_bounds.proofs.Above.{AllLack}
use Rattle.memory_bounds.proofs.Arguments.{arguments_pass, values_below, values_leave}
use Rattle.memory_bounds.proofs.Making.{Holder, Pending}

-- ---- what refers to an object doesn't name a number that none has

module _ (u : ℕ) where
  pub each_lacks : (Q : ℕ → Type 0) → (Q u → ⊥) → (vs : List Value) → EachReference Q vs → AllLack u vs
  each_lacks Q n [] h = tt
  each_lacks Q n (v ∷ vs) h =
      (one v (h 0 v (omega arith)), each_lacks Q n vs (λ k d l. h (suc k) d (omega (arith, l))))
    where
      one : (w : Value) → IfReference Q w → w ≡ At u → ⊥
      one (At r) k e = (let same : r ≡ u = cc (e) in n (subst Q same k))
      one _ k e = cc (e)

  module _ (code : Code) (w : World) (none : w.objects u ≡ None) (den : Scope → Place) where
    no_object : (v : Value) (t : _) (a : Place) → IsObject code.program w t a v → v ≡ At u → ⊥
    no_object v t a o e =
        (let same : o.r ≡ u = (let q : At o.r ≡ At u = sym o.is ∙ e in cc (q)) in
        let found : None ≡ Some o.object = sym none ∙ (ap w.objects (sym same) ∙ o.found) in cc (found))

    value_lacks : (k : Kind) (v : Value) → Has code.program w (held den k) v → v ≡ At u → ⊥
    unfolding held
    value_lacks number v h e = (let q = h.1 in cc (q, e))
    value_lacks truth v h e = (let q = h.1 in cc (q, e))
    value_lacks yes v h e = cc (h, e)
    value_lacks (reference t s) v (inl q) e = cc (q, e)
    value_lacks (reference t s) v (inr o) e = no_object v t (den s) o e
    value_lacks (fresh c s) v o e = no_object v _ (den s) o e

    pub all_have_lack : (ks : List Kind) (vs : List Value) → AllHave code.program w den ks vs → AllLack u vs
    all_have_lack [] [] h = tt
    all_have_lack [] (v ∷ vs) h = absurd h
    all_have_lack (k ∷ ks) [] h = absurd h
    all_have_lack (k ∷ ks) (v ∷ vs) h = (value_lacks k v h.0, all_have_lack ks vs h.1)

-- ---- the frame that makes it

module _ (code : Code) (facts : Facts code) (bare : ClassesAskNothing code) (Inner : Op → Type 0)
    (OnWay : ℕ → Type 0) (u : ℕ) where
  -- the operations behind ALLOC come to the call of the constructor
  module _ (b c : ℕ) (sig : Signature) (body : IsBody code.program b c sig) (id : ℕ) (kind : Kind)
      (inside : Inside code.program b c id) (judged : Judged code.program id (Some kind)) (rest : List Op)
      (begins : BeginsNew code id rest) (s : Stack) (class : ℕ) (bound : bound_class (binding code id) ≡ Some class)
      (way : OnWay class) where
    abbrev Result : Type 0
    Result = (this : Option ℕ) → (this ≡ Some u → ⊥) → Pending code Inner OnWay u this rest (put (Exactly (At u)) s)

    of_fact : (position name_position : _) (name xs : List ℕ) →
        slice_get code.program.nodes id ≡ Some (New position name_position name xs) → begins.arguments ≡ xs →
        NewFact code b c sig id xs (Some kind) → Result
    unfolding argument_count
    of_fact position name_position name xs there are r this other = record {
      front = flat_map (ops_of code) xs;
      last = CONSTRUCT id;
      more = begins.more;
      id = id;
      class = class;
      bound = bound;
      way = way;
      is =
          begins.is
          ∙ ap (λ (ys : List Op). ys ++ CONSTRUCT id ∷ begins.more)
          (ap (λ (zs : List ℕ). flat_map (below [] id (ops_of code)) zs) are
          ∙ values_below code bare facts b c sig body id xs r.kinds r.arguments_are);
      calls = inl refl;
      passes =
          subst (λ n. PassesTo code (Some (n, u)) (flat_map (ops_of code) xs) (put (Exactly (At u)) s))
          (sym count) (arguments_pass code bare u xs s
          (values_leave code bare facts b c sig body id xs r.kinds r.arguments_are));
      calm = λ e. absurd (other e);
    }
      where
        count : super_count code id ≡ length xs
        count =
            ap (λ (o : Option Node). elim (elim o as (λ z. Option ℕ) [ None ↦ None | Some n ↦ argument_count n ]) as (λ z. ℕ)
            [ None ↦ 0 | Some n ↦ n ]) there

    of_node : (node : Node) → slice_get code.program.nodes id ≡ Some node → made_with node ≡ Some begins.arguments →
        ExpressionFact code b c sig id node (Some kind) → Result
    unfolding made_with ExpressionFact
    of_node (New position name_position name xs) there e r =
        of_fact position name_position name xs there (let same : begins.arguments ≡ xs = cc (e) in same) r
    of_node _ there e r = absurd (cc (e))

    pub pending_begins : Result
    pending_begins =
        of_node inside.here.0 inside.here.1
        (sym (ap (λ (o : Option Node). elim o as (λ z. Option (List ℕ)) [ None ↦ None | Some n ↦ made_with n ])
        inside.here.1) ∙ begins.are)
        (facts.expressions b c sig id inside.here.0 (Some kind) body inside inside.here.1 judged)

  -- the frame with the new object as an operand
  pub holds_new : (f : Frame) (rest : List Op) (s : Stack) → Shadows s f.operands → AllLack u f.locals →
      AllLack u f.operands → Pending code Inner OnWay u f.this rest (put (Exactly (At u)) s) →
      Holder code Inner OnWay u (record f { rest = rest; operands = At u ∷ f.operands })
  holds_new f rest s shadows locals operands p = record {
    lower = f.operands;
    lacks = operands;
    kept = record {
      locals = locals;
      above = [];
      lack = tt;
      is = refl;
      enough = inr (omega arith);
      is_this = refl;
    };
    by = record {
      stack = put (Exactly (At u)) s;
      passes = p;
      shadows = shadows_put (Exactly (At u)) s (At u) f.operands refl shadows;
    };
  }
