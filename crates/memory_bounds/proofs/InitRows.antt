-- While a mission is initialised, the handlers that are registered tell their storage.
use Rattle.std.specs.Prelude.{Option, Some, None, option_to_list, if◌then◌else◌, nat_lt, pos, slice_get}
use Rattle.std.proofs.Common.{◌≡◌, ◌⊎◌, ℕ, zero, suc, ◌≤◌, Bool, true, false, List, [], ◌∷◌, ◌++◌, refl, sym, ◌∙◌, ap, subst, arith, inl, inr}
use Rattle.std.proofs.lemmas.Bool.Decides.{nat_tests}
use Rattle.scj_base.specs.declared.values.Value.{Value}
use Rattle.scj_base.specs.declared.values.Value.TheVariants.{Int}
use Rattle.scj_rules.specs.Classes.{hidden_fields}
use Rattle.scj_rules.specs.Layout.{storage_slot}
use Rattle.accepted_laws.proofs.Lists.{get_either}
use Rattle.accepted_laws.proofs.Tools.{some_inj}
use Rattle.scj_model.specs.declared.operations.Op.{Op}
use Rattle.scj_model.specs.declared.operations.Op.TheVariants.{Params as PARAMS}
use Rattle.scj_model.specs.declared.plans.ReadingRow.{ReadingRow}
use Rattle.scj_model.specs.declared.handlers.HandlerRow.{HandlerRow}
use Rattle.scj_model.specs.Code.{Code}
use Rattle.scj_model.specs.State.{Object, Frame, Activity, TheSequencer, State, activity_of, is_init}
use Rattle.scj_model.specs.Registry.{handler_row, hidden_number, new_row, number_in}
use Rattle.scj_model.specs.Steps.{Step, fault_in}
use Rattle.scj_model.specs.Effects.{Effect}
use Rattle.scj_model.specs.Apply.{applied}
use Rattle.scj_model.specs.Operations.{effect_of}
use Rattle.scj_model.specs.Run.{environment, frame_op, position_of_op}
use Rattle.frame_sound.specs.Fine.{FramesFine, list_of}
use Rattle.frame_sound.specs.OwnJob.{HasFaulted, HasLeft, JobGoesOn, JobStands, KeepsItsJob, NewRow, RegistryIsKept}
use Rattle.frame_sound.specs.Places.{world_of}
use Rattle.frame_sound.proofs.OwnSteps.{op_is, operation_kept}
use Rattle.mission_sound.specs.Bases.{Base, IsInMission, areas_of, in_immortal, in_mission, unopened}
use Rattle.mission_sound.specs.Invariant.{Invariant, RowFine}
use Rattle.reference_sound.specs.References.{ReferencesHold}
use Rattle.scope_sound.specs.Sound.{HasFacts}
use Rattle.scope_sound.proofs.Registers.{handler_row_fine}
use Rattle.certain_faults.proofs.GivenAsBound.{GivesSo}
use Rattle.certain_faults.proofs.Jobs.{Jobs}
use Rattle.certain_faults.proofs.Runs.{All}
use Rattle.certain_faults.proofs.RunsOfNodes.{ClassesAskNothing}
use Rattle.memory_bounds.specs.Theorem.{RowsReport, Storage}
use Rattle.memory_bounds.proofs.Forms.{FormFacts}
use Rattle.memory_bounds.proofs.InitSteps.{InInit, Making, Stands, Reported, begin, environment_lacks, gives, objects_stand, says, stays}
use Rattle.memory_bounds.proofs.MadeMoves.{Is_made, Is_read, MovesOn, moves_on}
use Rattle.memory_bounds.proofs.Makers.{Made}
use Rattle.memory_bounds.proofs.Params.{Fault, Not_kept, ReadsForm, Sets, Unread, reads_form}
use Rattle.memory_bounds.proofs.RegistryKept.{form_registers_none}
use Rattle.memory_bounds.proofs.Unnamed.{Clean}

-- ---- lists of areas

after_first : List ℕ → List ℕ
after_first [] = []
after_first (x ∷ xs) = xs

behind_opened : (o : Option ℕ) (xs ys : List ℕ) → option_to_list o ++ xs ≡ option_to_list o ++ ys → xs ≡ ys
unfolding after_first
behind_opened None xs ys e = e
behind_opened (Some a) xs ys e = ap after_first e

pub behind_frames : (fs : List Frame) (xs ys : List ℕ) → list_of xs fs ≡ list_of ys fs → xs ≡ ys
behind_frames [] xs ys e = e
behind_frames (f ∷ fs) xs ys e = behind_frames fs xs ys (behind_opened f.opened (list_of xs fs) (list_of ys fs) e)

-- ---- rows

-- a row by an object that tells its storage has it
bytes_reported : (code : Code) (storage : Storage) (r : ℕ) (o : Object) (n : ℕ) →
    2 ≤ hidden_fields code.program.classes o.class → slice_get o.slots storage_slot ≡ Some (Int (pos n)) →
    (new_row code.program r o).bytes ≡ n
unfolding hidden_number number_in
bytes_reported code storage r o n two reported = of (nat_lt storage_slot (hidden_fields code.program.classes o.class)) refl
  where
    of : (b : Bool) → nat_lt storage_slot (hidden_fields code.program.classes o.class) ≡ b →
        (if b then (elim (slice_get o.slots storage_slot) as (λ z. ℕ) [ None ↦ 0 | Some value ↦ number_in value ]) else 0)
        ≡ n
    of true e = ap (λ (v : Option Value). elim v as (λ z. ℕ) [ None ↦ 0 | Some value ↦ number_in value ]) reported
    of false e = absurd (grind (arith, nat_tests))

-- one more row tells what the others tell
rows_more : (storage : Storage) (registry : List HandlerRow) (row : HandlerRow) →
    ((handler : ℕ) (old : HandlerRow) (bytes : ℕ) → handler_row registry handler ≡ Some old →
    storage old.class ≡ Some bytes → old.bytes ≡ bytes) →
    ((bytes : ℕ) → storage row.class ≡ Some bytes → row.bytes ≡ bytes) →
    (handler : ℕ) (x : HandlerRow) (bytes : ℕ) → handler_row (registry ++ row ∷ []) handler ≡ Some x →
    storage x.class ≡ Some bytes → x.bytes ≡ bytes
rows_more storage registry row old new zero x bytes e reported = absurd (cc (e))
rows_more storage registry row old new (suc k) x bytes e reported = of (get_either registry row k x e)
  where
    of : (slice_get registry k ≡ Some x) ⊎ (row ≡ x) → x.bytes ≡ bytes
    of (inl there) = old (suc k) x bytes there reported
    of (inr same) =
        ap (λ (y : HandlerRow). y.bytes) (sym same)
        ∙ new bytes (ap (λ (y : HandlerRow). storage y.class) same ∙ reported)

more_is_other : (xs : List HandlerRow) (y : HandlerRow) → xs ++ y ∷ [] ≡ xs → ⊥
more_is_other [] y e = cc (e)
more_is_other (x ∷ xs) y e = more_is_other xs y (let tail : xs ++ y ∷ [] ≡ xs = cc (e) in tail)

last_row : (xs : List HandlerRow) (y : HandlerRow) → (k : ℕ) × (slice_get (xs ++ y ∷ []) k ≡ Some y)
last_row [] y = (0, refl)
last_row (x ∷ xs) y = (let q = last_row xs y in (suc q.0, q.1))

module _ (code : Code) (facts : HasFacts code) (bare : ClassesAskNothing code) (storage : Storage)
    (Inner : Op → Type 0) (OnWay : ℕ → Type 0) (forms : FormFacts code storage Inner OnWay) (rows : List ReadingRow)
    (s : State) (i : Invariant code s) (refs : ReferencesHold s (areas_of i.base)) (held : Jobs (All code) s)
    (outcome : s.outcome ≡ None) (f : Frame) (below : List Frame) (acts : s.activity.frames ≡ f ∷ below) where
  pub job : JobStands code s TheSequencer (areas_of i.base)
  unfolding activity_of
  job = record {
    activity = s.activity;
    is = refl;
    is_list = (i.memories.jobs TheSequencer s.activity refl).is_list;
    stands = record {
      areas_fine = i.memories.memory.areas;
      heap = i.memories.memory.heap;
      statics_fine = i.memories.memory.statics;
      frames_fine = (i.memories.jobs TheSequencer s.activity refl).frames;
    };
  }

  pub job_acts : job.activity.frames ≡ f ∷ below
  unfolding job
  job_acts = acts

  pub kept : KeepsItsJob code s TheSequencer s.activity (areas_of i.base) f below
      (frame_op code rows s TheSequencer s.activity)
  unfolding job
  kept = operation_kept code facts.bodies rows s TheSequencer (areas_of i.base) job f below job_acts

  module _ (step : Step) (done : frame_op code rows s TheSequencer s.activity ≡ Some step) where
    same_step : kept.step ≡ step
    same_step = some_inj kept.step step (sym kept.is ∙ done)

    -- the memory of the mission is the same one
    pub base_stays : is_init step.state.phase ≡ true → (j : Invariant code step.state) →
        areas_of j.base ≡ areas_of i.base
    unfolding activity_of fault_in is_init
    base_stays init j =
        of (subst (λ (x : Step). JobGoesOn code s TheSequencer (areas_of i.base) f below x.state
        ⊎ (((below ≡ []) × HasLeft code s TheSequencer (areas_of i.base) f x.state)
        ⊎ HasFaulted code s TheSequencer s.activity x)) same_step kept.either)
      where
        now : step.state.activity.areas ≡ list_of (areas_of j.base) step.state.activity.frames
        now = (j.memories.jobs TheSequencer step.state.activity refl).is_list

        of : JobGoesOn code s TheSequencer (areas_of i.base) f below step.state
            ⊎ (((below ≡ []) × HasLeft code s TheSequencer (areas_of i.base) f step.state)
            ⊎ HasFaulted code s TheSequencer s.activity step) → areas_of j.base ≡ areas_of i.base
        of (inl g) =
            behind_frames step.state.activity.frames (areas_of j.base) (areas_of i.base)
            (sym now
            ∙ (ap (λ (a : Activity). a.areas) same
            ∙ (g.stands.is_list
            ∙ ap (λ (a : Activity). list_of (areas_of i.base) a.frames) (sym same))))
          where
            same : step.state.activity ≡ g.stands.activity
            same = some_inj step.state.activity g.stands.activity g.stands.is
        of (inr (inl x)) =
            ap (list_of (areas_of j.base)) (sym x.1.ends.frames) ∙ (sym now ∙ x.1.ends.areas)
        of (inr (inr x)) =
            absurd (let over : is_init step.state.phase ≡ false =
            ap (λ (y : Step). is_init y.state.phase) x.is in cc (init, over))

    module _ (op : Op) (rest : List Op) (ops : f.rest ≡ op ∷ rest) where
      pub does : applied code s TheSequencer s.activity below (position_of_op code op)
          (effect_of code (environment rows s) (record f { rest = rest }) op) ≡ Some step
      unfolding job
      does = sym (op_is code facts.bodies rows s TheSequencer (areas_of i.base) job f below job_acts op rest ops) ∙ done

      -- no row is of an object that is being made
      no_row : (u : ℕ) (o : Object) (n : ℕ) → storage o.class ≡ Some n →
          Clean u o (Made code Inner OnWay (GivesSo code) u) s → (row : HandlerRow) → row.at ≡ u →
          step.state.registry ≡ s.registry ++ row ∷ [] → ⊥
      unfolding applied fault_in
      no_row u o n reported c row at more =
          of (moves_on code Inner OnWay forms.laws (GivesSo code) bare u o s c.heap s.activity (position_of_op code op)
          (environment rows s)
          (environment_lacks code facts bare storage Inner OnWay forms rows s i refs held outcome f below acts op rest ops u o
          c.heap) c.heap.statics f below acts op rest ops
          (stays code facts bare storage Inner OnWay forms rows s i refs held outcome f below acts op rest ops)
          (gives code facts bare storage Inner OnWay forms rows s i refs held outcome f below acts op rest ops)
          (begin code facts bare storage Inner OnWay forms rows s i refs held outcome f below acts op rest ops u o c.heap n
          reported) c.frames)
        where
          same_rows : step.state.registry ≡ s.registry → ⊥
          same_rows e = more_is_other s.registry row (sym more ∙ e)

          read : (id : ℕ) (d : Effect) → effect_of code (environment rows s) (record f { rest = rest }) (PARAMS id) ≡ d →
              op ≡ PARAMS id → f.this ≡ Some u → ReadsForm code (record f { rest = rest }) id d →
              applied code s TheSequencer s.activity below (position_of_op code op) d ≡ Some step → ⊥
          read id _ q e own Unread k = cc (k)
          read id _ q e own (Fault x) k =
              same_rows (ap (λ (y : Step). y.state.registry)
              (sym (some_inj (fault_in s TheSequencer s.activity (position_of_op code op) x) step k)))
          read id _ q e own (Not_kept h sequencer) k =
              (says code facts bare storage Inner OnWay forms rows s i refs held outcome f below acts op rest ops id e u o n own
              c.heap.object reported).kept sequencer
          read id _ q e own (Sets h r vs z this top sets) k =
              same_rows ((form_registers_none code s s.activity below (position_of_op code op) h r vs).is step k)

          of : MovesOn code Inner OnWay forms.laws (GivesSo code) bare u o s c.heap s.activity (position_of_op code op)
              (environment rows s)
              (environment_lacks code facts bare storage Inner OnWay forms rows s i refs held outcome f below acts op rest ops u
              o c.heap) c.heap.statics f below acts op rest ops
              (stays code facts bare storage Inner OnWay forms rows s i refs held outcome f below acts op rest ops)
              (gives code facts bare storage Inner OnWay forms rows s i refs held outcome f below acts op rest ops)
              (begin code facts bare storage Inner OnWay forms rows s i refs held outcome f below acts op rest ops u o c.heap n
              reported) → ⊥
          of (Is_made g) =
              (let q = last_row s.registry row in
              (g.is step does).heap.rows q.0 row (ap (λ (xs : List HandlerRow). slice_get xs q.0) more ∙ q.1) at)
          of (Is_read id e own) =
              read id (effect_of code (environment rows s) (record f { rest = rest }) (PARAMS id)) refl e own
              (reads_form code (record f { rest = rest }) id (environment rows s))
              (ap (λ y. applied code s TheSequencer s.activity below (position_of_op code op)
              (effect_of code (environment rows s) (record f { rest = rest }) y)) (sym e) ∙ does)

      -- the rows tell the storage afterwards
      pub rows_report : InInit code facts bare storage Inner OnWay forms s → RowsReport storage s →
          RowsReport storage step.state
      unfolding activity_of
      rows_report h reports =
          of (subst (λ (x : Step). RegistryIsKept code s (list_of (areas_of i.base) (f ∷ below)) x.state) same_step
          kept.registry)
        where
          fine : FramesFine code (world_of s) (areas_of i.base) (f ∷ below)
          fine =
              subst (FramesFine code (world_of s) (areas_of i.base)) acts
              (i.memories.jobs TheSequencer s.activity refl).frames

          in_memory : IsInMission i.base
          in_memory = by i.base refl
            where
              by : (b : Base) → i.base ≡ b → IsInMission i.base
              by unopened e = absurd (let q = h.base i in let r = ap areas_of e in cc (q, r))
              by in_immortal e = absurd (let q = h.base i in let r = ap areas_of e in cc (q, r))
              by (in_mission m) e = (m, e)

          new : (r : NewRow code s (list_of (areas_of i.base) (f ∷ below)) step.state) → RowsReport storage step.state
          new r handler x bytes there reported =
              rows_more storage s.registry (new_row code.program r.r o) reports (λ n k. by n k) handler x bytes
              (ap (λ (xs : List HandlerRow). handler_row xs handler) (sym r.is) ∙ there) reported
            where
              o : Object
              o = r.fine.there.object

              row : RowFine code.program (world_of s) i.base (new_row code.program r.r r.fine.there.object)
              row =
                  handler_row_fine code facts.bodies facts.sequencer s i (list_of (areas_of i.base) (f ∷ below)) fine.1 r.r
                  r.fine.there.object r.fine.there.found r.fine.there.on_list r.fine.is_handler in_memory

              lies : h.first ≤ r.fine.there.object.area
              lies =
                  (let same : row.object ≡ r.fine.there.object =
                  some_inj row.object r.fine.there.object (sym row.found ∙ r.fine.there.found) in
                  let area : row.object.area ≡ h.first =
                  (let q = h.base i in let p = ap areas_of row.in_memory in cc (q, p)) in
                  let there : r.fine.there.object.area ≡ h.first = ap (λ (y : Object). y.area) (sym same) ∙ area in
                  omega (arith, there))

              by : (n : ℕ) → storage r.fine.there.object.class ≡ Some n →
                  (new_row code.program r.r r.fine.there.object).bytes ≡ n
              by n k = stood (h.objects r.r r.fine.there.object n r.fine.there.found lies k)
                where
                  stood : Stands code facts bare storage Inner OnWay forms s r.r r.fine.there.object →
                      (new_row code.program r.r r.fine.there.object).bytes ≡ n
                  stood (Reported t) =
                      bytes_reported code storage r.r r.fine.there.object n (forms.hides r.fine.there.object.class n k)
                      (t.is n k)
                  stood (Making c) =
                      absurd (no_row r.r r.fine.there.object n k c (new_row code.program r.r r.fine.there.object) refl r.is)

          of : RegistryIsKept code s (list_of (areas_of i.base) (f ∷ below)) step.state → RowsReport storage step.state
          of (inl e) handler x bytes there reported =
              reports handler x bytes (ap (λ (xs : List HandlerRow). handler_row xs handler) (sym e) ∙ there) reported
          of (inr r) handler x bytes there reported = new r handler x bytes there reported

      -- in initialisation all goes on
      pub init_stays : InInit code facts bare storage Inner OnWay forms s → is_init step.state.phase ≡ true →
          InInit code facts bare storage Inner OnWay forms step.state
      init_stays h init = record {
        first = h.first;
        base = λ j. base_stays init j ∙ h.base i;
        objects =
            objects_stand code facts bare storage Inner OnWay forms rows s i refs held outcome f below acts op rest ops h step
            does init;
      }
