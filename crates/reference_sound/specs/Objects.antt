-- Objects stay: they keep their class and their area.
use Rattle.std.specs.Prelude.{◌≡◌, ℕ, Some}
use Rattle.scj_model.specs.State.{Object}
use Rattle.frame_sound.specs.Places.{World}

-- an object is still there, of its class and in its area
pub record IsStillThere (w : World) (r : ℕ) (o : Object) : Type 0 where
  pub object : Object
  pub found : w.objects r ≡ Some object
  pub class : object.class ≡ o.class
  pub area : object.area ≡ o.area

abbrev pub ObjectsStay : World → World → Type 0
ObjectsStay w w2 = (r : ℕ) (o : Object) → w.objects r ≡ Some o → IsStillThere w2 r o
