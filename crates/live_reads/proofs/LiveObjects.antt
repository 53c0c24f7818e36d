-- Where no reference of a frame leads into a closed area, an operation reads objects of open areas alone.
use Rattle.std.specs.Prelude.{Option, Some, IsTrue, Contains}
use Rattle.std.proofs.Common.{◌≡◌, ℕ, suc, List, [], ◌∷◌, refl, arith}
use Rattle.scj_base.specs.declared.values.Value.{Value}
use Rattle.scj_base.specs.declared.values.Value.TheVariants.{Int, Bool as Truth, Null, At}
use Rattle.scj_model.specs.declared.operations.Op.{Op}
use Rattle.scj_model.specs.declared.plans.ReadingRow.{ReadingRow}
use Rattle.scj_model.specs.Code.{Code}
use Rattle.scj_model.specs.Run.{environment}
use Rattle.scj_model.specs.State.{Object, Frame, State, object_at}
use Rattle.scj_model.specs.Safety.{is_of_open_area, reference_in, references}
use Rattle.scj_model.specs.Operations.{effect_of}
use Rattle.live_reads.specs.Live.{FindsOpenObjects, looked_up}
use Rattle.live_reads.proofs.Agreeing.{reads_alike}
use Rattle.live_reads.proofs.Looks.{AllAgree}

module _ (s : State) (look : ℕ → Option Object) (finds : FindsOpenObjects s look) where
  values_agree : (vs : List Value) → ((r : ℕ) → Contains (references vs) r → IsTrue (is_of_open_area s r)) →
      AllAgree (λ r. object_at s r) look vs
  unfolding reference_in
  values_agree [] live = tt
  values_agree (Int z ∷ vs) live = (tt, values_agree vs live)
  values_agree (Truth b ∷ vs) live = (tt, values_agree vs live)
  values_agree (Null ∷ vs) live = (tt, values_agree vs live)
  values_agree (At r ∷ vs) live = (
    finds r (live r (0, omega arith, refl)),
    values_agree vs (λ q c. live q (suc c.0, omega (arith, c.1), c.2)),
  )

  -- where the references of a frame's operands and its own object lie in open areas
  pub reads_live : (code : Code) (rows : List ReadingRow) (f : Frame) (op : Op) →
      ((r : ℕ) → Contains (references f.operands) r → IsTrue (is_of_open_area s r)) →
      ((r : ℕ) → f.this ≡ Some r → IsTrue (is_of_open_area s r)) →
      effect_of code (environment rows s) f op ≡ effect_of code (looked_up (environment rows s) look) f op
  reads_live code rows f op operands this =
      reads_alike code (environment rows s) look f op
      (record { operands = values_agree f.operands operands; this = λ r e. finds r (this r e) })
