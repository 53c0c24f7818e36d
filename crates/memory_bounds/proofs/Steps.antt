-- One operation of a release that is bounded.
use Rattle.std.specs.Prelude.{Some}
use Rattle.std.proofs.Common.{◌≡◌, ℕ, List, ◌∷◌, ap, subst, arith, length, true}
use Rattle.scj_base.specs.declared.values.Value.{Value}
use Rattle.scj_tree.specs.Forest.{ChildrenFirst}
use Rattle.scj_model.specs.declared.operations.Op.{Op}
use Rattle.scj_model.specs.declared.plans.ReadingRow.{ReadingRow}
use Rattle.scj_model.specs.Code.{Code}
use Rattle.scj_model.specs.State.{Frame, Activity, ReleaseAt, State, activity_of}
use Rattle.scj_model.specs.Memory.{has_room}
use Rattle.scj_model.specs.Steps.{Step}
use Rattle.scj_model.specs.Effects.{Makes}
use Rattle.scj_model.specs.Apply.{applied}
use Rattle.scj_model.specs.Run.{environment, effect_at, position_of_op}
use Rattle.memory_needs.specs.Need.{Table}
use Rattle.memory_bounds.specs.Weights.{IsBound, ops_weight}
use Rattle.memory_bounds.specs.Accounting.{IsCounted, EffectWithin}
use Rattle.memory_bounds.specs.Bounded.{IsBounded}
use Rattle.memory_bounds.proofs.EffectWeights.{effect_within}
use Rattle.memory_bounds.proofs.Kept.{weight_is_small}
use Rattle.memory_bounds.proofs.Applied.{BoundedAfter, make_bounded}
use Rattle.memory_bounds.proofs.Others.{Situated, own_step}

module _ (code : Code) (table : Table) (bound : IsBound code table) (first : ChildrenFirst 0 code.program.nodes)
    (rows : List ReadingRow) (s : State) (index : ℕ) (activity : Activity)
    (is : activity_of s (ReleaseAt index) ≡ Some activity) (f : Frame) (below : List Frame)
    (b : IsBounded code table s (f ∷ below)) (op : Op) (rest : List Op) (next : f.rest ≡ op ∷ rest)
    (counted : IsCounted code table op (effect_at code rows s f op rest)) where
  pub within : EffectWithin code table (ops_weight code table f.rest) f (effect_at code rows s f op rest)
  unfolding ops_weight
  within =
      let e = ap (ops_weight code table) next in
      effect_within code table bound first (environment rows s) (record f { rest = rest }) op (ops_weight code table f.rest)
      (omega (arith, e)) (weight_is_small code table s f below b) counted

  -- its new object finds room
  pub finds : (h : Frame) (class : ℕ) (values : List Value) → effect_at code rows s f op rest ≡ Makes h class values →
      has_room s h.area (length values) ≡ true
  finds h class values e =
      make_bounded code table index s activity is (position_of_op code op) f below b h class values
      (subst (EffectWithin code table (ops_weight code table f.rest) f) e within)

  -- and it leaves the release bounded
  pub keeps : Situated s (effect_at code rows s f op rest) → (step : Step) →
      applied code s (ReleaseAt index) activity below (position_of_op code op) (effect_at code rows s f op rest) ≡ Some step →
      BoundedAfter code table index step
  keeps situated step q =
      own_step code table index s activity is (position_of_op code op) f below b (effect_at code rows s f op rest) situated within
      step q
