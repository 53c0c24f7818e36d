-- The first state of a run, and the operation of a unit, where memory and the frames of all jobs are as the rules say.
use Rattle.std.proofs.Common.{◌≡◌, ℕ, ◌≤◌, All, List, ◌∷◌, Option, Some, None, refl, subst}
use Rattle.std.proofs.lemmas.List.Elements.{All-map, All-nil}
use Rattle.scj_base.specs.declared.values.Value.{Value}
use Rattle.scj_rules.specs.declared.views.Declared.{Declared}
use Rattle.scj_rules.specs.Definitions.{read}
use Rattle.scj_rules.specs.Layout.{field_literal, kind_of_type, static_fields}
use Rattle.scj_rules.specs.Words.{◌>>=◌}
use Rattle.scj_model.specs.declared.plans.ReadingRow.{ReadingRow}
use Rattle.scj_model.specs.Choice.{Policy}
use Rattle.scj_model.specs.Code.{Code}
use Rattle.scj_model.specs.Memory.{default_value, literal_value}
use Rattle.scj_model.specs.Plan.{Plan}
use Rattle.scj_model.specs.Run.{acts, empty_state, environment, first_static}
use Rattle.scj_model.specs.State.{Activity, Frame, Job, State, activity_of}
use Rattle.run_plan.specs.Limits.{IsReading, largest_store}
use Rattle.scope_flow.specs.Facts.{Facts}
use Rattle.frame_sound.specs.Fine.{FramesFine, JobFine, MemoryFine}
use Rattle.frame_sound.specs.Places.{world_of}
use Rattle.int_values.specs.Ints.{FitsInt, HasInts, ObjectFits, StateFits, StepFits}
use Rattle.int_values.proofs.Begins.{default_fits, written_fits}
use Rattle.int_values.proofs.Known.{Known, all_at}
use Rattle.int_values.proofs.Readings.{reading_fits}
use Rattle.int_values.proofs.Steps.{GoodIf}
use Rattle.int_values.proofs.Taken.{next_sets, next_takes}
use Rattle.int_values.proofs.Turns.{Promised, acts_fit}

module _ (code : Code) (ints : HasInts code.program.nodes) where
  -- ---- the first state

  static_fits : (f : Declared) → FitsInt (first_static code f)
  unfolding first_static
  static_fits f = go (field_literal code.program f >>= read code.program.nodes literal_value) refl
    where
      go : (o : Option Value) → field_literal code.program f >>= read code.program.nodes literal_value ≡ o →
          FitsInt (elim o as (λ _. Value) [
            | Some value ↦ value
            | None ↦ default_value (kind_of_type f.declared_type)
          ])
      go None e = default_fits (kind_of_type f.declared_type)
      go (Some value) e = written_fits code.program.nodes ints (field_literal code.program f) value e

  pub first_fits : (plan : Plan) → plan.store ≤ largest_store → StateFits code.program (empty_state code plan)
  unfolding empty_state
  first_fits plan store =
      record {
        store = store;
        areas = All-nil _;
        objects = All-nil _;
        statics = All-map FitsInt (first_static code) (static_fields code.program) (λ k d l. static_fits _);
        sequencer = All-nil _;
        releases = All-nil _;
      }

  -- ---- the operation of a unit

  module _ (facts : Facts code) (rows : List ReadingRow) (readings : All IsReading rows) (s : State) (base : List ℕ)
      (memory : MemoryFine code s)
      (jobs : (job : Job) (a : Activity) → activity_of s job ≡ Some a → JobFine code (world_of s) base a)
      (h : StateFits code.program s) where
    known : Known code (environment rows s)
    known =
        record {
          nodes = ints;
          objects = λ r o e. all_at (ObjectFits code.program) s.objects r o h.objects e;
          statics = h.statics;
          reading = λ port. reading_fits rows port s.unit readings;
        }

    fine : (job : Job) (a : Activity) (f : Frame) (below : List Frame) → activity_of s job ≡ Some a →
        a.frames ≡ f ∷ below → FramesFine code (world_of s) base (f ∷ below)
    fine job a f below is frames = subst (FramesFine code (world_of s) base) frames (jobs job a is).frames

    promised : Promised code rows s
    promised =
        record {
          takes = λ job a f below op rest is frames ops.
              next_takes code facts rows s base memory f below (fine job a f below is frames) op rest ops;
          sets = λ job a f below op rest is frames ops.
              next_sets code facts rows s base memory f below (fine job a f below is frames) op rest ops;
        }

    pub operation_fits : (policy : Policy) → GoodIf (StepFits code.program) (acts code rows policy s)
    operation_fits policy = acts_fit code rows s h known promised policy
