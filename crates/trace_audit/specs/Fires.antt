-- The fires of a plan by their units and names, so that a `miss` is found quickly among them.
use Rattle.std.specs.Prelude.{◌≡◌, ℕ, ◌+◌, ◌-◌, ◌*◌, ◌%◌, ◌==◌, nat_le, Bool, true, false, ◌&&◌, List, [], ◌∷◌, Option, Some, None}
use Rattle.std.specs.BTreeSet.{BTreeSet, contains}
use Rattle.std.specs.Cmp.Lexicographic.{slice_cmp}
use Rattle.std.specs.List.{list_any}
use Rattle.std.specs.Ordering.{nat_cmp, ordering_then}
use Rattle.std.specs.Str.{bytes_eq}
use Rattle.std.specs.declared.cmp.Ordering.{Ordering}
use Rattle.scj_model.specs.declared.plans.Fire.{Fire}
use Rattle.scj_model.specs.declared.plans.FireFrom.{FireFrom}
use Rattle.scj_model.specs.declared.plans.FireFrom.TheVariants.{Start, Mission}

-- ---- fires of one kind

abbrev pub is_same_from : FireFrom → FireFrom → Bool
is_same_from Start Start = true
is_same_from Mission Mission = true
is_same_from _ _ = false

-- the fire is counted so, has this unit there, and names the handler's class
abbrev pub is_fire_of : FireFrom → ℕ → List ℕ → Fire → Bool
is_fire_of from at name fire = is_same_from from fire.from && ((fire.at == at) && bytes_eq fire.handler name)

-- some fire that is counted from the origin comes in the unit and names the handler's class; the origin is that of a
-- mission that executes
abbrev pub is_fired_since : Option ℕ → ℕ → List ℕ → List Fire → Bool
is_fired_since None unit name fires = false
is_fired_since (Some origin) unit name fires =
    nat_le origin unit && list_any (is_fire_of Mission (unit - origin) name) fires

-- ---- keys

-- a number that is mostly another one for another name, so that names themselves are seldom compared
unfoldable pub mixed_with : ℕ → List ℕ → ℕ
mixed_with mix [] = mix
mixed_with mix (b ∷ bytes) = mixed_with ((mix * 257 + b) % 36028797018963968) bytes

-- the number of the handler's name of a fire, its unit, as the plan counts it, and the name itself
abbrev pub FireKey : Type 0
FireKey = ℕ × ℕ × List ℕ

abbrev pub key_cmp : FireKey → FireKey → Ordering
key_cmp a b = ordering_then (ordering_then (nat_cmp a.0 b.0) (nat_cmp a.1 b.1)) (slice_cmp nat_cmp a.2 b.2)

abbrev pub key_at : ℕ → List ℕ → FireKey
key_at at name = (mixed_with 0 name, at, name)

-- the keys are those of the fires that are counted so
pub record AreFireKeys (from : FireFrom) (fires : List Fire) (keys : BTreeSet FireKey) : Type 0 where
  pub are : (at : ℕ) (name : List ℕ) →
      contains key_cmp keys (key_at at name) ≡ list_any (is_fire_of from at name) fires
