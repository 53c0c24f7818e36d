-- Look-ups that find the objects of open areas.
use Rattle.std.specs.Prelude.{◌≡◌, ℕ, Option, IsTrue}
use Rattle.scj_model.specs.State.{Object, State, object_at}
use Rattle.scj_model.specs.Operations.{Environment}
use Rattle.scj_model.specs.Safety.{is_of_open_area}

-- each object of an open area is found; of others nothing is said
abbrev pub FindsOpenObjects : State → (ℕ → Option Object) → Type 0
FindsOpenObjects s look = (r : ℕ) → IsTrue (is_of_open_area s r) → object_at s r ≡ look r

-- the environment in which objects are looked up so
abbrev pub looked_up : Environment → (ℕ → Option Object) → Environment
looked_up world look = record world { object_at = look }
