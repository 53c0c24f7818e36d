-- The sequencer's own operations keep all references where they may be: what they open, make and call refers to
-- nothing.
use Rattle.std.specs.Prelude.{Some, None, if◌then◌else◌, length, codes}
use Rattle.std.proofs.Common.{ℕ, List, [], ◌∷◌, Bool, true, false, refl}
use Rattle.scj_base.specs.declared.faults.RunFault.TheVariants.{MemoryFull, StoreFull}
use Rattle.scj_base.specs.declared.positions.Position.{Position}
use Rattle.scj_base.specs.declared.values.Value.TheVariants.{Null, At}
use Rattle.scj_rules.specs.declared.views.Body.{Body}
use Rattle.scj_rules.specs.ScopeRules.{immortal_scope, defined_by_chain}
use Rattle.scj_rules.specs.Bodies.{body_named, constructor_body, size_of, safelet_class, class_position}
use Rattle.scj_model.specs.declared.operations.SeqOp.{SeqOp}
use Rattle.scj_model.specs.declared.operations.SeqOp.TheVariants.{OpenImmortal, AllocSafelet, ConstructSafelet, InitializeApplication, GetSequencer, GetNextMission, OpenMission, Initialize, CleanUp, Execute, Finished}
use Rattle.scj_model.specs.Code.{Code}
use Rattle.scj_model.specs.State.{TheSequencer, State, object_at}
use Rattle.scj_model.specs.Memory.{with_area, with_object, new_object, new_slots, has_room, has_store_for}
use Rattle.scj_model.specs.Steps.{silently, allocating, opening, fault_in}
use Rattle.scj_model.specs.Sequencer.{innermost, done, area_opened, safelet_made, body_called, method_called, sequencer_op}
use Rattle.scj_model.specs.Effects.{new_frame}
use Rattle.frame_sound.specs.Places.{world_of}
use Rattle.reference_sound.specs.References.{ReferencesHold}
use Rattle.reference_sound.specs.Roots.{InnermostIsThere}
use Rattle.reference_sound.proofs.Plain.{slots_plain}
use Rattle.reference_sound.proofs.Memory.{memory_made}
use Rattle.reference_sound.proofs.Held.{AllLead, all_lead, none_leads, any_leads, held_after, held_still, jobs_of, sequencer_holds, faults_hold}
use Rattle.reference_sound.proofs.OwnAreas.{order_opens, memory_opens}
use Rattle.reference_sound.proofs.RunHolds.{first_holds}
use Rattle.reference_sound.proofs.Objects.{objects_opened, objects_made}

module _ (code : Code) (s : State) (base : List ℕ) (held : ReferencesHold s base) where
  module _ (inside : InnermostIsThere s) where
    opened_holds : (position : Position) (scope bytes : ℕ) → ReferencesHold (area_opened s position scope bytes).state base
    unfolding area_opened opening
    opened_holds position scope bytes = go (has_store_for s bytes)
      where
        t : State
        t = with_area s scope (innermost s.activity.areas) bytes

        go : (b : Bool) → ReferencesHold (if b
            then silently
            (done
            (record (with_area s scope (innermost s.activity.areas) bytes)
            { activity = record s.activity { areas = length s.areas ∷ s.activity.areas } }) Null)
            else fault_in s TheSequencer s.activity position StoreFull).state base
        go true =
            held_after s
            (done
            (record (with_area s scope (innermost s.activity.areas) bytes)
            { activity = record s.activity { areas = length s.areas ∷ s.activity.areas } }) Null)
            base held
            (memory_opens s scope (innermost s.activity.areas) bytes held.memory)
            (order_opens s scope (innermost s.activity.areas) bytes inside held.order)
            (objects_opened s scope (innermost s.activity.areas) bytes)
            (jobs_of s
            (done
            (record (with_area s scope (innermost s.activity.areas) bytes)
            { activity = record s.activity { areas = length s.areas ∷ s.activity.areas } }) Null)
            base held refl (sequencer_holds s s base held))
        go false = faults_hold s base held TheSequencer s.activity position StoreFull

    made_holds : (position : Position) (class area : ℕ) → ReferencesHold (safelet_made code s position class area).state base
    unfolding safelet_made allocating
    made_holds position class area = go (has_room s area (length (new_slots code.program class)))
      where
        go : (b : Bool) → ReferencesHold (if b
            then silently (done (with_object s class area (new_slots code.program class)) (At (length s.objects)))
            else fault_in s TheSequencer s.activity position MemoryFull).state base
        go true =
            let stay = objects_made s class area (new_slots code.program class) in
            held_after s (done (with_object s class area (new_slots code.program class)) (At (length s.objects))) base
            held
            (memory_made (world_of s).areas s.objects s.statics held.memory
            (new_object class area (new_slots code.program class)) (slots_plain (λ r. ⊥) code.program class) stay)
            held.order stay
            (jobs_of s (done (with_object s class area (new_slots code.program class)) (At (length s.objects))) base
            held refl
            (sequencer_holds s s base held))
        go false = faults_hold s base held TheSequencer s.activity position MemoryFull

    called_holds : (r : ℕ) (body : Body) → AllLead base (body_called code s r body)
    unfolding body_called
    called_holds r body =
        any_leads base (innermost s.activity.areas) _ (λ area.
        all_lead base _
        (held_still s (called area) base held refl refl refl
        (jobs_of s (called area) base held refl
        (first_holds (world_of s) base code body None (Some r) area (new_frame code body None (Some r) area []) refl))))
      where
        called : ℕ → State
        called area =
            record s { activity = record s.activity { frames = new_frame code body None (Some r) area [] ∷ [] } }

    method_holds : (r : ℕ) (name : List ℕ) → AllLead base (method_called code s r name)
    method_holds r name =
        any_leads base (object_at s r) _ (λ o.
        any_leads base (body_named code.program o.class name) _ (λ body. called_holds r body))

    pub sequencer_keeps : (op : SeqOp) → AllLead base (sequencer_op code s op)
    unfolding sequencer_op
    sequencer_keeps OpenImmortal =
        any_leads base (safelet_class code.program) _ (λ class.
        any_leads base (size_of code.program class) _ (λ bytes.
        all_lead base _ (opened_holds (class_position code.program class) immortal_scope bytes)))
    sequencer_keeps AllocSafelet =
        any_leads base (safelet_class code.program) _ (λ class.
        any_leads base (innermost s.activity.areas) _ (λ area.
        all_lead base _ (made_holds (class_position code.program class) class area)))
    sequencer_keeps (ConstructSafelet r) =
        any_leads base (object_at s r) _ (λ o.
        any_leads base (constructor_body code.program o.class) _ (λ body. called_holds r body))
    sequencer_keeps (InitializeApplication r) = method_holds r (codes "initializeApplication")
    sequencer_keeps (GetSequencer r) = method_holds r (codes "getSequencer")
    sequencer_keeps (GetNextMission r) = method_holds r (codes "getNextMission")
    sequencer_keeps (OpenMission r) =
        any_leads base (object_at s r) _ (λ o.
        any_leads base (defined_by_chain code.program o.class) _ (λ scope.
        any_leads base (size_of code.program o.class) _ (λ bytes.
        all_lead base _ (opened_holds (class_position code.program o.class) scope bytes))))
    sequencer_keeps (Initialize r) = method_holds r (codes "initialize")
    sequencer_keeps (CleanUp r) = method_holds r (codes "cleanUp")
    sequencer_keeps Execute = none_leads base
    sequencer_keeps Finished = none_leads base
