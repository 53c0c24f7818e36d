-- AND, OR, IF and LOOP put parts in front, for whose operands there is room.
use Rattle.std.specs.Prelude.{Option, Some, None, slice_get, option_map}
use Rattle.std.proofs.Common.{◌≡◌, ◌≤◌, ℕ, suc, List, [], ◌++◌, Bool, true, false, refl, subst, if◌then◌else◌}
use Rattle.scj_base.specs.declared.faults.RunFault.{RunFault}
use Rattle.scj_base.specs.declared.values.Value.TheVariants.{Bool as Truth}
use Rattle.scj_tree.specs.declared.nodes.Node.{Node}
use Rattle.scj_rules.specs.declared.views.Body.{Body}
use Rattle.scj_rules.specs.Words.{◌>>=◌}
use Rattle.scj_model.specs.declared.operations.Op.{Op}
use Rattle.scj_model.specs.declared.operations.Op.TheVariants.{And as AND, Or as OR, If as IF, Loop as LOOP}
use Rattle.scj_model.specs.Code.{Code, part}
use Rattle.scj_model.specs.State.{Frame}
use Rattle.scj_model.specs.Ops.{ops_of, put_in_front, right_operand, if_parts, iteration_ops, optional_ops}
use Rattle.scj_model.specs.Effects.{Effect, Goes, Faults, Stuck, pushes}
use Rattle.scj_model.specs.Operations.{Environment, effect_of}
use Rattle.priority_laws.proofs.OperationCases.{on_given, on_truth}
use Rattle.frame_sizes.proofs.Counts.{fewer, Asked, Fits, Brings, brings_none}
use Rattle.frame_sizes.proofs.Frames.{BodiesFit, some_is, Fine as FineOf, stuck as stuck_of, faults as faults_of}
use Rattle.frame_sizes.proofs.Steps.{Stands, on_pop, pushed, in_front, option_brings, iteration_brings}

module _ (code : Code) (G : Body → Bool → Type 0) (static : BodiesFit code) (rest : List Op) (world : Environment)
    (f : Frame) (d : ℕ) (x : Stands code G static rest d f) where
  abbrev Fine : Effect → Type 0
  Fine e = FineOf code G e

  stuck : Fine Stuck
  stuck = stuck_of code G

  faults : (x : RunFault) → Fine (Faults x)
  faults x = faults_of code G x

  pub and_fine : (id : ℕ) → Asked code (AND id) d → Fits code rest (suc (fewer d)) →
      Fine (effect_of code world f (AND id))
  unfolding effect_of put_in_front
  and_fine id a p =
      on_pop code G static rest d f _ x (λ v k y. on_truth Fine stuck faults v _ (λ b.
      on_given Fine stuck faults
      (option_map (λ right. if b then ops_of code right else []) (part code right_operand id)) _
      (λ ops e. chosen b k y (part code right_operand id) refl ops e)))
    where
      chosen : (b : Bool) (k : Frame) → Stands code G static rest (fewer d) k → (o : Option ℕ) → part code right_operand id ≡ o →
          (ops : List Op) → option_map (λ right. if b then ops_of code right else []) o ≡ Some ops →
          Fine (if b then Goes (record k { rest = ops ++ k.rest })
          else pushes (record k { rest = ops ++ k.rest }) (Truth false))
      chosen b k y None q ops e = absurd (cc (e))
      chosen true k y (Some right) q ops e =
          subst (λ (xs : List Op). Fine (Goes (record k { rest = xs ++ k.rest })))
          (some_is (ops_of code right) ops e)
          (in_front code G static rest (ops_of code right) (fewer d) (suc (fewer d)) k y (static.values right (fewer d) (a right q)) p)
      chosen false k y (Some right) q ops e =
          subst (λ (xs : List Op). Fine (pushes (record k { rest = xs ++ k.rest }) (Truth false)))
          (some_is [] ops e)
          (pushed code G static rest (fewer d) (record k { rest = [] ++ k.rest }) (Truth false)
          (record { same = y.same; few = y.few }) p)

  pub or_fine : (id : ℕ) → Asked code (OR id) d → Fits code rest (suc (fewer d)) →
      Fine (effect_of code world f (OR id))
  unfolding effect_of put_in_front
  or_fine id a p =
      on_pop code G static rest d f _ x (λ v k y. on_truth Fine stuck faults v _ (λ b.
      on_given Fine stuck faults
      (option_map (λ right. if b then [] else ops_of code right) (part code right_operand id)) _
      (λ ops e. chosen b k y (part code right_operand id) refl ops e)))
    where
      chosen : (b : Bool) (k : Frame) → Stands code G static rest (fewer d) k → (o : Option ℕ) → part code right_operand id ≡ o →
          (ops : List Op) → option_map (λ right. if b then [] else ops_of code right) o ≡ Some ops →
          Fine (if b then pushes (record k { rest = ops ++ k.rest }) (Truth true)
          else Goes (record k { rest = ops ++ k.rest }))
      chosen b k y None q ops e = absurd (cc (e))
      chosen false k y (Some right) q ops e =
          subst (λ (xs : List Op). Fine (Goes (record k { rest = xs ++ k.rest })))
          (some_is (ops_of code right) ops e)
          (in_front code G static rest (ops_of code right) (fewer d) (suc (fewer d)) k y (static.values right (fewer d) (a right q)) p)
      chosen true k y (Some right) q ops e =
          subst (λ (xs : List Op). Fine (pushes (record k { rest = xs ++ k.rest }) (Truth true)))
          (some_is [] ops e)
          (pushed code G static rest (fewer d) (record k { rest = [] ++ k.rest }) (Truth true)
          (record { same = y.same; few = y.few }) p)

  pub if_fine : (id : ℕ) → Asked code (IF id) d → Fits code rest (fewer d) →
      Fine (effect_of code world f (IF id))
  unfolding effect_of put_in_front
  if_fine id a p =
      on_pop code G static rest d f _ x (λ v k y. on_truth Fine stuck faults v _ (λ b.
      on_given Fine stuck faults
      (option_map (λ (parts : ℕ × Option ℕ). if b then ops_of code parts.0 else optional_ops code parts.1)
      (part code if_parts id)) _
      (λ ops e. in_front code G static rest ops (fewer d) (fewer d) k y (chosen b (part code if_parts id) refl ops e) p)))
    where
      chosen : (b : Bool) (o : Option (ℕ × Option ℕ)) → part code if_parts id ≡ o → (ops : List Op) →
          option_map (λ (parts : ℕ × Option ℕ). if b then ops_of code parts.0 else optional_ops code parts.1) o
          ≡ Some ops → Brings code ops (fewer d) (fewer d)
      chosen b None q ops e = absurd (cc (e))
      chosen true (Some parts) q ops e =
          subst (λ (xs : List Op). Brings code xs (fewer d) (fewer d)) (some_is (ops_of code parts.0) ops e)
          (static.statements parts.0 (fewer d) (a parts q).0)
      chosen false (Some parts) q ops e =
          subst (λ (xs : List Op). Brings code xs (fewer d) (fewer d))
          (some_is (optional_ops code parts.1) ops e) (option_brings code G static rest parts.1 (fewer d) (a parts q).1)

  pub loop_fine : (id : ℕ) → Asked code (LOOP id) d → suc (fewer d) ≤ 640 → Fits code rest (fewer d) →
      Fine (effect_of code world f (LOOP id))
  unfolding effect_of put_in_front
  loop_fine id a l p =
      on_pop code G static rest d f _ x (λ v k y. on_truth Fine stuck faults v _ (λ b.
      on_given Fine stuck faults
      (option_map (λ turn. if b then turn else []) (part code (iteration_ops code id) id)) _
      (λ ops e. in_front code G static rest ops (fewer d) (fewer d) k y
      (chosen b (part code (iteration_ops code id) id)
      (λ turn q. of_node (slice_get code.program.nodes id) refl turn q) ops e) p)))
    where
      of_node : (o : Option Node) → slice_get code.program.nodes id ≡ o → (turn : List Op) →
          (o >>= iteration_ops code id) ≡ Some turn → Brings code turn (fewer d) (fewer d)
      of_node None there turn e = absurd (cc (e))
      of_node (Some node) there turn e = iteration_brings code G static rest id node turn d (a node there) a l e

      chosen : (b : Bool) (o : Option (List Op)) →
          ((turn : List Op) → o ≡ Some turn → Brings code turn (fewer d) (fewer d)) → (ops : List Op) →
          option_map (λ turn. if b then turn else []) o ≡ Some ops → Brings code ops (fewer d) (fewer d)
      chosen b None h ops e = absurd (cc (e))
      chosen true (Some turn) h ops e =
          subst (λ (xs : List Op). Brings code xs (fewer d) (fewer d)) (some_is turn ops e) (h turn refl)
      chosen false (Some turn) h ops e =
          subst (λ (xs : List Op). Brings code xs (fewer d) (fewer d)) (some_is [] ops e)
          (brings_none code (fewer d))
