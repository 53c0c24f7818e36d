-- A call, and a call in a new area, keep the invariant for the job that acts, in the state, or end in a fault.
use Rattle.std.specs.Prelude.{Option, Some, None, slice_get, ◌==◌, ◌++◌, option_to_list, if◌then◌else◌, nat_lt, is_some}
use Rattle.std.proofs.Common.{◌≡◌, ℕ, List, [], ◌∷◌, length, Bool, true, false, refl, sym, ◌∙◌, ap, subst, inl}
use Rattle.scj_base.specs.declared.faults.RunFault.{RunFault}
use Rattle.scj_base.specs.declared.faults.RunFault.TheVariants.{ScopedCycle, CeilingViolation, DepthFull, StoreFull}
use Rattle.scj_base.specs.declared.positions.Position.{Position}
use Rattle.scj_rules.specs.Words.{holds}
use Rattle.scj_model.specs.declared.events.Event.{Event}
use Rattle.scj_model.specs.Code.{Code}
use Rattle.scj_model.specs.State.{MemoryArea, Frame, Activity, Job, State, activity_of, with_activity}
use Rattle.scj_model.specs.Memory.{has_store_for, with_area, area_with_scope}
use Rattle.scj_model.specs.Steps.{Step, silently, reporting, fault_in, opening}
use Rattle.scj_model.specs.Effects.{Calls, Opens, new_frame}
use Rattle.scj_model.specs.Apply.{is_full, ceiling_entered, report_priority, called, opened_in, applied}
use Rattle.scope_flow.specs.Signatures.{Signature}
use Rattle.scope_flow.specs.Facts.{Facts}
use Rattle.frame_sound.specs.Places.{area_named}
use Rattle.frame_sound.specs.Fine.{list_of, Stands}
use Rattle.frame_sound.specs.EffectsFine.{IsSame, CallFine, OpenFine}
use Rattle.frame_sound.specs.OwnJob.{IsForEntered, KeepsItsAreas, KeepsItsJob, lowest, opened_by}
use Rattle.frame_sound.proofs.Changes.{look}
use Rattle.frame_sound.proofs.Kept.{ActsHere, calls_keep}
use Rattle.frame_sound.proofs.KeptAreas.{opens_keep}
use Rattle.frame_sound.proofs.OwnedAreas.{new_area_owned}
use Rattle.frame_sound.proofs.OwnEnds.{same_areas}
use Rattle.frame_sound.proofs.OwnJobs.{operation_stays, operation_then, outcome_stays, areas_stay, faults_so, lowest_same, memory_stays, registry_stays, same_activity, set_activity}

-- the areas of a job whose new frame opened an area
new_area_opened : (code : Code) (s : State) (frames : List Frame) (t : State) (g : Frame) (low : List Frame)
    (new : MemoryArea) → t.areas ≡ s.areas ++ new ∷ [] → g.opened ≡ Some (length s.areas) →
    opened_by low ≡ opened_by frames → IsForEntered code new → KeepsItsAreas code s frames t (g ∷ low)
new_area_opened code s frames t g low new are opens same entered =
    let o = new_area_owned s frames t g low new are opens same in
    record {
      has = o.has;
      lost = o.lost;
      new = λ a x none there.
          (let n = o.new a x none there in
          record { on_list = n.0; for_entered = subst (IsForEntered code) n.1 entered });
    }

module _ (code : Code) (facts : Facts code) (s : State) (job : Job) (activity : Activity)
    (is : activity_of s job ≡ Some activity) (base : List ℕ) (f : Frame) (below : List Frame)
    (is_list : activity.areas ≡ list_of base (f ∷ below)) (c : ℕ) (sig : Signature)
    (m : ActsHere code s.areas s.objects s.statics base f below c sig) (position : Position) where
  abbrev Outcome : Option Step → Type 0
  Outcome o = KeepsItsJob code s job activity base f below o

  -- the job goes on with another activity, in a state in which at most areas, objects and static fields are others
  pub goes_in : (t : State) → t ≡ record s { areas = t.areas; objects = t.objects; statics = t.statics } →
      (a : Activity) →
      a.areas ≡ list_of base a.frames → Stands code t.areas t.objects t.statics base a.frames →
      (top : Frame) (others : List Frame) → a.frames ≡ top ∷ others → IsSame (lowest f below) (lowest top others) →
      KeepsItsAreas code s (f ∷ below) (with_activity t job a) (top ∷ others) → (events : List Event) →
      Outcome (Some (reporting (with_activity t job a) events))
  goes_in t only a list stands top others are same areas events =
      record {
        step = _;
        is = refl;
        either = inl (record {
          stands = record {
            activity = a;
            is = set_activity t job activity a
                (same_activity s t job (ap (λ (u : State). u.releases) only) (ap (λ (u : State). u.activity) only)
                ∙ is);
            is_list = list;
            stands = memory_stays code t job a base a.frames stands;
          };
          top = top;
          others = others;
          are = are;
          same = same;
          operation = operation_then s t (with_activity t job a)
              (record { phase = ap (λ (u : State). u.phase) only; operation = ap (λ (u : State). u.operation) only })
              (operation_stays t job a);
          outcome = outcome_stays t job a ∙ ap (λ (u : State). u.outcome) only;
          areas = areas;
        });
        registry = inl (registry_stays t job a ∙ ap (λ (u : State). u.registry) only);
      }

  faults : (fault : RunFault) → Outcome (Some (fault_in s job activity position fault))
  faults fault = faults_so code facts s job activity is base f below is_list c sig m position fault

  -- ---- calls

  module _ (h g : Frame)
      (x : CallFine code (look (λ a. slice_get s.areas a) s.objects) (list_of base (f ∷ below)) c sig f h g) where
    pushed_list : activity.areas ≡ list_of base (g ∷ h ∷ below)
    pushed_list =
        is_list
        ∙ (ap (λ (o : Option ℕ). option_to_list o ++ list_of base below) (sym x.goes.same.opened)
        ∙ ap (λ (o : Option ℕ). option_to_list o ++ list_of base (h ∷ below)) (sym x.unopened))

    pushed : (saved : Option ℕ) (priority : ℕ) (events : List Event) →
        Outcome (Some (reporting (with_activity s job (record activity {
          frames = record g { saved = saved } ∷ (h ∷ below);
          priority = priority;
        })) events))
    unfolding lowest
    pushed saved priority events =
        goes_in s refl
        (record activity { frames = record g { saved = saved } ∷ (h ∷ below); priority = priority }) pushed_list
        (calls_keep code facts s.areas s.objects s.statics base f below c sig m h g saved x) _ _ refl
        (lowest_same f h below x.goes.same)
        (same_areas code s (with_activity s job pushed_activity) (f ∷ below) pushed_activity.frames
        (areas_stay s job pushed_activity) opened_same) events
      where
        pushed_activity : Activity
        pushed_activity = record activity { frames = record g { saved = saved } ∷ (h ∷ below); priority = priority }

        opened_same : opened_by (g ∷ h ∷ below) ≡ opened_by (f ∷ below)
        opened_same =
            ap (λ (o : Option ℕ). option_to_list o ++ opened_by (h ∷ below)) x.unopened
            ∙ ap (λ (o : Option ℕ). option_to_list o ++ opened_by below) x.goes.same.opened

    pub calls_kept : Outcome (applied code s job activity below position (Calls h g))
    unfolding applied called
    calls_kept = go (is_full (h ∷ below)) (ceiling_entered code s g)
      where
        entered : (ceiling : ℕ) (t : Bool) (events : List Event) → Outcome (Some (if t
            then fault_in s job activity position CeilingViolation
            else reporting
            (with_activity s job (record activity {
              frames = record g { saved = Some activity.priority } ∷ (h ∷ below);
              priority = ceiling;
            })) events))
        entered ceiling true events = faults CeilingViolation
        entered ceiling false events = pushed (Some activity.priority) ceiling events

        go : (t : Bool) (o : Option ℕ) → Outcome (Some (if t then fault_in s job activity position DepthFull
            else (elim o [
              | None ↦ silently (with_activity s job (record activity { frames = g ∷ (h ∷ below) }))
              | Some ceiling ↦
                  if nat_lt ceiling activity.priority then fault_in s job activity position CeilingViolation
                  else reporting
                  (with_activity s job (record activity {
                    frames = record g { saved = Some activity.priority } ∷ (h ∷ below);
                    priority = ceiling;
                  })) (report_priority s job activity.priority ceiling)
            ])))
        go true o = faults DepthFull
        go false None = pushed g.saved activity.priority []
        go false (Some ceiling) =
            entered ceiling (nat_lt ceiling activity.priority) (report_priority s job activity.priority ceiling)

  -- ---- a call in a new area

  -- the machine's search for an area of a scope
  searched : (scope : ℕ) (list : List ℕ) →
      area_with_scope s scope list ≡ area_named (λ a. slice_get s.areas a) scope list
  unfolding area_with_scope area_named
  searched scope [] = refl
  searched scope (a ∷ list) =
      ap (λ r. if holds (slice_get s.areas a) (λ x. x.scope == scope) then Some a else r) (searched scope list)

  module _ (h g : Frame) (scope bytes : ℕ)
      (x : OpenFine code (look (λ a. slice_get s.areas a) s.objects) (list_of base (f ∷ below)) c sig f h g scope) where
    in_caller : g.area ≡ h.area
    unfolding new_frame
    in_caller = ap (λ (q : Frame). q.area) x.is ∙ sym x.goes.same.area

    low_list : activity.areas ≡ list_of base (h ∷ below)
    low_list = is_list ∙ ap (λ (o : Option ℕ). option_to_list o ++ list_of base below) (sym x.goes.same.opened)

    abbrev opened_activity : Activity
    opened_activity =
        record activity {
          frames = record g { area = length s.areas; opened = Some (length s.areas) } ∷ (h ∷ below);
          areas = length s.areas ∷ activity.areas;
        }

    opened : area_with_scope s scope activity.areas ≡ None →
        Outcome (Some (silently (with_activity (with_area s scope (Some g.area) bytes) job opened_activity)))
    unfolding lowest
    opened e =
        goes_in (with_area s scope (Some g.area) bytes) refl opened_activity
        (ap (λ (l : List ℕ). length s.areas ∷ l) low_list)
        (subst
        (λ a. Stands code (s.areas ++ new_area_in a ∷ []) s.objects s.statics base
        (record g { area = length s.areas; opened = Some (length s.areas) } ∷ (h ∷ below)))
        (sym in_caller)
        (opens_keep code facts s.areas s.objects s.statics base f below c sig m h g scope bytes x
        (ap (area_named (λ a. slice_get s.areas a) scope) (sym low_list) ∙ (sym (searched scope activity.areas) ∙ e))))
        _ _ refl (lowest_same f h below x.goes.same)
        (new_area_opened code s (f ∷ below) (with_activity (with_area s scope (Some g.area) bytes) job opened_activity)
        (record g { area = length s.areas; opened = Some (length s.areas) }) (h ∷ below)
        (record { scope = scope; parent = Some g.area; bytes = bytes; is_open = true })
        (areas_stay (with_area s scope (Some g.area) bytes) job opened_activity) refl
        (ap (λ (o : Option ℕ). option_to_list o ++ opened_by below) x.goes.same.opened)
        (record { class = x.on_list.object.class; is_class = x.is_class; entered = x.entered })) []
      where
        new_area_in : ℕ → MemoryArea
        new_area_in a = record { scope = scope; parent = Some a; bytes = bytes; is_open = true }

    pub opens_kept : Outcome (applied code s job activity below position (Opens h g scope bytes))
    unfolding applied opened_in opening
    opens_kept = go (area_with_scope s scope activity.areas) refl (is_full (h ∷ below)) (has_store_for s bytes)
      where
        go : (o : Option ℕ) → area_with_scope s scope activity.areas ≡ o → (t u : Bool) →
            Outcome (Some (if is_some o then fault_in s job activity position ScopedCycle
            else (if t then fault_in s job activity position DepthFull
            else (if u then silently (with_activity (with_area s scope (Some g.area) bytes) job opened_activity)
            else fault_in s job activity position StoreFull))))
        go (Some a) e t u = faults ScopedCycle
        go None e true u = faults DepthFull
        go None e false true = opened e
        go None e false false = faults StoreFull
