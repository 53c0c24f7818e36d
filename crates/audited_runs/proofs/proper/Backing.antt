-- What the events of an effect need to have proper parts.
use Rattle.std.specs.Prelude.{◌≡◌, ℕ, true, List, slice_get, Some, unwrap_or}
use Rattle.scj_base.specs.declared.positions.Position.{Position}
use Rattle.scj_base.specs.Lexeme.{is_name}
use Rattle.scj_model.specs.Apply.{class_name}
use Rattle.scj_model.specs.Code.{Code}
use Rattle.scj_model.specs.Effects.{Effect, Goes, Prints, Leaves, AsksRegistration}
use Rattle.scj_model.specs.Registry.{new_row}
use Rattle.scj_model.specs.State.{Object, Activity, Job, ReleaseAt}
use Rattle.priority_laws.specs.Handlers.{IsPriority}

-- the class of an object has a name, and its row a priority
pub record RegistersWell (code : Code) (r : ℕ) (o : Object) : Type 0 where
  pub named : is_name (class_name code o.class) ≡ true
  pub priority : IsPriority (new_row code.program r o).priority

-- a place for a fault, where the effect may have one; the priority that comes back to a release that a frame leaves
abbrev pub Backs : (Position → Type 0) → Code → List Object → Job → Activity → Position → Effect → Type 0
Backs F code objects job a position (Goes f) = Unit {0}
Backs F code objects job a position (Prints f label value) = Unit {0}
Backs F code objects job a position (Leaves f value) =
    (p : ℕ) → job ≡ ReleaseAt p → IsPriority (unwrap_or f.saved a.priority)
Backs F code objects job a position (AsksRegistration f r) =
    F position × ((o : Object) → slice_get objects r ≡ Some o → RegistersWell code r o)
Backs F code objects job a position e = F position
