-- The steps of operations: operands are taken and pushed, frames are called, and parts come in front.
use Rattle.std.specs.Prelude.{Option, Some, None, slice_get, length}
use Rattle.std.proofs.Common.{◌≡◌, ◌≤◌, ℕ, zero, suc, ◌+◌, List, [], ◌∷◌, ◌++◌, Bool, false, refl, sym, ap, ◌∙◌, subst, arith}
use Rattle.scj_base.specs.declared.faults.RunFault.{RunFault}
use Rattle.scj_base.specs.declared.faults.RunFault.TheVariants.{NullPointer}
use Rattle.scj_base.specs.declared.values.Value.{Value}
use Rattle.scj_base.specs.declared.values.Value.TheVariants.{Int, Bool as Truth, Null, At}
use Rattle.scj_tree.specs.declared.nodes.Node.{Node}
use Rattle.scj_tree.specs.declared.nodes.Node.TheVariants.{While, For}
use Rattle.scj_rules.specs.declared.views.Body.{Body}
use Rattle.scj_model.specs.declared.operations.Op.{Op}
use Rattle.scj_model.specs.declared.operations.Op.TheVariants.{Loop as LOOP}
use Rattle.scj_model.specs.Code.{Code}
use Rattle.scj_model.specs.State.{Frame}
use Rattle.scj_model.specs.Ops.{ops_of, iteration_ops, optional_ops}
use Rattle.scj_model.specs.Effects.{Effect, Goes, Makes, Calls, Opens, Faults, Stuck, pop, pop_from, pop_all, pushes, as_object, new_frame}
use Rattle.frame_sizes.proofs.Counts.{fewer, dropped, with_result, after, OptionStatement, LoopParts, Fits, Brings, brings_none, brings_then, behind}
use Rattle.frame_sizes.proofs.Frames.{Explained, Waits, BodiesFit, few_left, given_few, some_is, Fine as FineOf, stuck as stuck_of, faults as faults_of}

module _ (code : Code) (G : Body → Bool → Type 0) (static : BodiesFit code) (rest : List Op) where
  abbrev Fine : Effect → Type 0
  Fine e = FineOf code G e

  stuck : Fine Stuck
  stuck = stuck_of code G

  faults : (x : RunFault) → Fine (Faults x)
  faults x = faults_of code G x

  -- a frame on the way, which has so many operands at most
  pub record Stands (d : ℕ) (h : Frame) : Type 0 where
    pub same : h.rest ≡ rest
    pub few : length h.operands ≤ d

  pub explained : (d : ℕ) (h : Frame) → Stands d h → Fits code rest d → Explained code h
  explained d h x p =
      record {
        is = λ c sig runs. record {
          depth = d;
          fits = subst (λ (xs : List Op). Fits code xs d) (sym x.same) p;
          few = x.few;
        };
      }

  pub on_popped : (d : ℕ) (h : Frame) (next : Value → Frame → Effect) → Stands d h →
      ((v : Value) (k : Frame) → h.operands ≡ v ∷ k.operands → Stands (fewer d) k → Fine (next v k)) →
      Fine (pop h next)
  on_popped d h next x more = go h.operands refl
    where
      go : (vs : List Value) → h.operands ≡ vs →
          Fine (elim vs as (λ z. Effect)
          [ [] ↦ Stuck | value ∷ below ↦ next value (record h { operands = below }) ])
      go [] e = stuck
      go (v ∷ below) e =
          more v (record h { operands = below }) e
          (record {
            same = x.same;
            few = few_left (length below) d (subst (λ (vs : List Value). length vs ≤ d) e x.few);
          })

  pub on_pop : (d : ℕ) (h : Frame) (next : Value → Frame → Effect) → Stands d h →
      ((v : Value) (k : Frame) → Stands (fewer d) k → Fine (next v k)) → Fine (pop h next)
  on_pop d h next x more = on_popped d h next x (λ v k e y. more v k y)

  -- the operands that are left stood behind those that are popped
  abbrev pub StoodBehind : ℕ → Frame → Frame → Type 0
  StoodBehind count h k = (n : ℕ) → slice_get h.operands (count + n) ≡ slice_get k.operands n

  pub on_popped_from : (count d : ℕ) (h : Frame) (got : List Value) (next : List Value → Frame → Effect) →
      Stands d h →
      ((vs : List Value) (k : Frame) → StoodBehind count h k → Stands (dropped count d) k → Fine (next vs k)) →
      Fine (pop_from count h got next)
  on_popped_from zero d h got next x more =
      more got h (λ n. ap (slice_get h.operands) (let same : zero + n ≡ n = omega arith in same)) x
  on_popped_from (suc count) d h got next x more =
      on_popped d h (λ v g. pop_from count g (v ∷ got) next) x
      (λ v k e y. on_popped_from count (fewer d) k (v ∷ got) next y
      (λ vs l b z. more vs l (λ n. ap (λ (us : List Value). slice_get us (suc count + n)) e
      ∙ ap (slice_get (v ∷ k.operands)) (let same : suc count + n ≡ suc (count + n) = omega arith in same) ∙ b n)
      z))

  pub on_pop_all : (count d : ℕ) (h : Frame) (next : List Value → Frame → Effect) → Stands d h →
      ((vs : List Value) (k : Frame) → Stands (dropped count d) k → Fine (next vs k)) →
      Fine (pop_all count h next)
  on_pop_all count d h next x more = on_popped_from count d h [] next x (λ vs k b z. more vs k z)

  pub on_object_at : (v : Value) (next : ℕ → Effect) → ((r : ℕ) → v ≡ At r → Fine (next r)) → Fine (as_object v next)
  on_object_at (At r) next h = h r refl
  on_object_at Null next h = faults NullPointer
  on_object_at (Int z) next h = stuck
  on_object_at (Truth b) next h = stuck

  pub pushed : (d : ℕ) (h : Frame) (v : Value) → Stands d h → Fits code rest (suc d) → Fine (pushes h v)
  pushed d h v x p =
      record {
        is = record {
          is = λ c sig runs. record {
            depth = suc d;
            fits = subst (λ (xs : List Op). Fits code xs (suc d)) (sym x.same) p;
            few = (let few = x.few in omega (arith, few));
          };
        };
      }

  pub made : (d : ℕ) (k : Frame) (class : ℕ) (slots : List Value) → Stands d k → Fits code rest (suc d) →
      Fine (Makes k class slots)
  made d k class slots x p =
      record {
        is = λ r. record {
          is = λ c sig runs. record {
            depth = suc d;
            fits = subst (λ (xs : List Op). Fits code xs (suc d)) (sym x.same) p;
            few = (let few = x.few in omega (arith, few));
          };
        };
      }

  pub waits : (gives : Bool) (d : ℕ) (h : Frame) (body : Body) → G body gives → Stands d h →
      Fits code rest (with_result gives d) → Waits code G h body
  waits gives d h body g x p =
      record {
        is = λ c sig runs. record {
          depth = with_result gives d;
          fits = subst (λ (xs : List Op). Fits code xs (with_result gives d)) (sym x.same) p;
          returns = λ v e. given_few gives d h.operands v (e gives g) x.few;
        };
      }

  pub calls : (gives : Bool) (d : ℕ) (h : Frame) (body : Body) (called_at this : Option ℕ) (area : ℕ)
      (arguments : List Value) → G body gives → Stands d h → Fits code rest (with_result gives d) →
      Fine (Calls h (new_frame code body called_at this area arguments))
  unfolding new_frame
  calls gives d h body called_at this area arguments g x p =
      record {
        is = (
          waits gives d h body g x p,
          record { is = λ c sig runs. record { depth = 0; fits = static.bodies body c sig runs; few = omega arith } },
        );
      }

  pub opens : (d : ℕ) (h : Frame) (body : Body) (called_at this : Option ℕ) (area scope bytes : ℕ) → G body false →
      Stands d h → Fits code rest d →
      Fine (Opens h (new_frame code body called_at this area []) scope bytes)
  unfolding new_frame
  opens d h body called_at this area scope bytes g x p =
      record {
        is = (
          waits false d h body g x p,
          record { is = λ c sig runs. record { depth = 0; fits = static.bodies body c sig runs; few = omega arith } },
        );
      }

  -- ---- parts that are put in front

  pub in_front : (xs : List Op) (d e : ℕ) (k : Frame) → Stands d k → Brings code xs d e → Fits code rest e →
      Fine (Goes (record k { rest = xs ++ k.rest }))
  in_front xs d e k x a p =
      record {
        is = record {
          is = λ c sig runs. record {
            depth = d;
            fits = subst (λ (ys : List Op). Fits code (xs ++ ys) d) (sym x.same) (a.is rest p);
            few = x.few;
          };
        };
      }

  pub option_brings : (o : Option ℕ) (d : ℕ) → OptionStatement code o d → Brings code (optional_ops code o) d d
  unfolding optional_ops
  option_brings None d h = brings_none code d
  option_brings (Some x) d h = static.statements x d h

  -- a turn of a loop begins and ends with as many operands
  pub iteration_brings : (id : ℕ) (node : Node) (turn : List Op) (d : ℕ) → LoopParts code node (fewer d) →
      ((n : Node) → slice_get code.program.nodes id ≡ Some n → LoopParts code n (fewer d)) →
      suc (fewer d) ≤ 640 → iteration_ops code id node ≡ Some turn → Brings code turn (fewer d) (fewer d)
  unfolding iteration_ops after
  iteration_brings id (While position condition body) turn d h a l e =
      subst (λ (xs : List Op). Brings code xs (fewer d) (fewer d)) (some_is _ turn e)
      (brings_then code (ops_of code body) (ops_of code condition ++ LOOP id ∷ []) (fewer d) (fewer d) (fewer d)
      (static.statements body (fewer d) h.0)
      (behind code (ops_of code condition) (LOOP id) (fewer d) (suc (fewer d)) (static.values condition (fewer d) h.1) l a))
  iteration_brings id (For position first condition step body) turn d h a l e =
      subst (λ (xs : List Op). Brings code xs (fewer d) (fewer d)) (some_is _ turn e)
      (brings_then code (ops_of code body) (ops_of code step ++ (ops_of code condition ++ LOOP id ∷ [])) (fewer d)
      (fewer d) (fewer d) (static.statements body (fewer d) h.0)
      (brings_then code (ops_of code step) (ops_of code condition ++ LOOP id ∷ []) (fewer d) (fewer d) (fewer d)
      (static.statements step (fewer d) h.1)
      (behind code (ops_of code condition) (LOOP id) (fewer d) (suc (fewer d)) (static.values condition (fewer d) h.2) l a)))
  iteration_brings id node turn d h a l e = absurd (cc (e))
