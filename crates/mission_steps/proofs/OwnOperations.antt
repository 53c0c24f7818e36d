-- The sequencer's own operations by their cases.
use Rattle.std.specs.Prelude.{true, Option, Some, None, option_map, slice_get}
use Rattle.std.proofs.Common.{◌≡◌, ◌∙◌, ℕ, List, [], ◌∷◌, refl, ap, sym}
use Rattle.scj_rules.specs.declared.views.Body.{Body}
use Rattle.scj_rules.specs.Words.{◌>>=◌}
use Rattle.scj_rules.specs.Bodies.{body_named, class_position, constructor_body, safelet_class, size_of}
use Rattle.scj_rules.specs.ScopeRules.{defined_by_chain, immortal_scope}
use Rattle.scj_model.specs.declared.events.Event.{Event}
use Rattle.scj_model.specs.declared.operations.SeqOp.TheVariants.{AllocSafelet, ConstructSafelet, OpenImmortal, OpenMission}
use Rattle.scj_model.specs.Code.{code_of}
use Rattle.op_list.specs.Listed.{Listing}
use Rattle.scj_model.specs.State.{Frame, Object, State}
use Rattle.scj_model.specs.Steps.{Step, silently}
use Rattle.scj_model.specs.Effects.{new_frame}
use Rattle.scj_model.specs.Sequencer.{area_opened, body_called, innermost, method_called, safelet_made, sequencer_op}
use Rattle.job_frames.specs.declared.frames.Frame.{Frame as StoredFrame}
use Rattle.job_frames.specs.Frames.{frames_of}
use Rattle.run_state.specs.declared.states.RunState.{RunState}
use Rattle.run_state.specs.Seen.{state_of}
use Rattle.run_state.specs.Steps.{IsTry}
use Rattle.run_state.proofs.StepLemmas.{try_of}
use Rattle.mission_steps.proofs.Going.{quietly}

module _ (code : Listing) (s : State) where
  -- ---- immortal memory and the safelet

  pub no_safelet : safelet_class (code_of code.program).program ≡ None → sequencer_op (code_of code.program) s OpenImmortal ≡ None
  unfolding sequencer_op
  no_safelet e = rw e refl

  pub no_immortal : (class : ℕ) → safelet_class (code_of code.program).program ≡ Some class → size_of (code_of code.program).program class ≡ None →
      sequencer_op (code_of code.program) s OpenImmortal ≡ None
  unfolding sequencer_op
  no_immortal class e f = rw (e, f) refl

  pub immortal_opened : (class bytes : ℕ) → safelet_class (code_of code.program).program ≡ Some class →
      size_of (code_of code.program).program class ≡ Some bytes →
      sequencer_op (code_of code.program) s OpenImmortal
      ≡ Some (area_opened s (class_position (code_of code.program).program class) immortal_scope bytes)
  unfolding sequencer_op
  immortal_opened class bytes e f = rw (e, f) refl

  pub no_safelet_made : safelet_class (code_of code.program).program ≡ None → sequencer_op (code_of code.program) s AllocSafelet ≡ None
  unfolding sequencer_op
  no_safelet_made e = rw e refl

  pub no_area : (class : ℕ) → safelet_class (code_of code.program).program ≡ Some class → innermost s.activity.areas ≡ None →
      sequencer_op (code_of code.program) s AllocSafelet ≡ None
  unfolding sequencer_op
  no_area class e f = rw (e, f) refl

  pub safelet_allocated : (class area : ℕ) → safelet_class (code_of code.program).program ≡ Some class →
      innermost s.activity.areas ≡ Some area →
      sequencer_op (code_of code.program) s AllocSafelet
      ≡ Some (safelet_made (code_of code.program) s (class_position (code_of code.program).program class) class area)
  unfolding sequencer_op
  safelet_allocated class area e f = rw (e, f) refl

  -- ---- objects whose class is known

  abbrev ClassAt : ℕ → Option ℕ → Type 0
  ClassAt r class = class ≡ option_map (λ (o : Object). o.class) (slice_get s.objects r)

  with_object : {A : Type 0} (r class : ℕ) (next : ℕ → Option A) → ClassAt r (Some class) →
      (slice_get s.objects r >>= (λ (o : Object). next o.class)) ≡ next class
  with_object {A} r class next e = go (slice_get s.objects r) e
    where
      go : (o : Option Object) → Some class ≡ option_map (λ (x : Object). x.class) o →
          (o >>= (λ (x : Object). next x.class)) ≡ next class
      go None h = absurd (cc)
      go (Some x) h = ap next (let k : class ≡ x.class = cc in sym k)

  without_object : {A : Type 0} (r : ℕ) (next : ℕ → Option A) → ClassAt r None →
      (slice_get s.objects r >>= (λ (o : Object). next o.class)) ≡ None
  without_object {A} r next e = go (slice_get s.objects r) e
    where
      go : (o : Option Object) → None ≡ option_map (λ (x : Object). x.class) o →
          (o >>= (λ (x : Object). next x.class)) ≡ None
      go None h = refl
      go (Some x) h = absurd (cc)

  -- ---- the memory of a mission

  abbrev opening_mission : ℕ → Option Step
  opening_mission class =
      defined_by_chain (code_of code.program).program class >>= (λ scope.
      size_of (code_of code.program).program class >>= (λ bytes. Some (area_opened s (class_position (code_of code.program).program class) scope bytes)))

  pub no_mission : (r : ℕ) → ClassAt r None → sequencer_op (code_of code.program) s (OpenMission r) ≡ None
  unfolding sequencer_op
  no_mission r e = without_object r opening_mission e

  pub no_scope : (r class : ℕ) → ClassAt r (Some class) → defined_by_chain (code_of code.program).program class ≡ None →
      sequencer_op (code_of code.program) s (OpenMission r) ≡ None
  unfolding sequencer_op
  no_scope r class e f = with_object r class opening_mission e ∙ (rw f refl)

  pub no_size : (r class scope : ℕ) → ClassAt r (Some class) → defined_by_chain (code_of code.program).program class ≡ Some scope →
      size_of (code_of code.program).program class ≡ None → sequencer_op (code_of code.program) s (OpenMission r) ≡ None
  unfolding sequencer_op
  no_size r class scope e f g = with_object r class opening_mission e ∙ (rw (f, g) refl)

  pub mission_opened : (r class scope bytes : ℕ) → ClassAt r (Some class) →
      defined_by_chain (code_of code.program).program class ≡ Some scope → size_of (code_of code.program).program class ≡ Some bytes →
      sequencer_op (code_of code.program) s (OpenMission r) ≡ Some (area_opened s (class_position (code_of code.program).program class) scope bytes)
  unfolding sequencer_op
  mission_opened r class scope bytes e f g = with_object r class opening_mission e ∙ (rw (f, g) refl)

  -- ---- bodies that are called

  abbrev calling : ℕ → Option Body → Option Step
  calling r found = found >>= body_called (code_of code.program) s r

  pub no_constructed : (r : ℕ) → ClassAt r None → sequencer_op (code_of code.program) s (ConstructSafelet r) ≡ None
  unfolding sequencer_op
  no_constructed r e = without_object r (λ class. calling r (constructor_body (code_of code.program).program class)) e

  pub no_constructor : (r class : ℕ) → ClassAt r (Some class) → constructor_body (code_of code.program).program class ≡ None →
      sequencer_op (code_of code.program) s (ConstructSafelet r) ≡ None
  unfolding sequencer_op
  no_constructor r class e f =
      with_object r class (λ class. calling r (constructor_body (code_of code.program).program class)) e ∙ ap (calling r) f

  pub constructed : (r class : ℕ) (body : Body) → ClassAt r (Some class) →
      constructor_body (code_of code.program).program class ≡ Some body →
      sequencer_op (code_of code.program) s (ConstructSafelet r) ≡ body_called (code_of code.program) s r body
  unfolding sequencer_op
  constructed r class body e f =
      with_object r class (λ class. calling r (constructor_body (code_of code.program).program class)) e ∙ ap (calling r) f

  pub no_method_called : (r : ℕ) (name : List ℕ) → ClassAt r None → method_called (code_of code.program) s r name ≡ None
  no_method_called r name e = without_object r (λ class. calling r (body_named (code_of code.program).program class name)) e

  pub no_method : (r class : ℕ) (name : List ℕ) → ClassAt r (Some class) →
      body_named (code_of code.program).program class name ≡ None → method_called (code_of code.program) s r name ≡ None
  no_method r class name e f =
      with_object r class (λ class. calling r (body_named (code_of code.program).program class name)) e ∙ ap (calling r) f

  pub method_found : (r class : ℕ) (name : List ℕ) (body : Body) → ClassAt r (Some class) →
      body_named (code_of code.program).program class name ≡ Some body → method_called (code_of code.program) s r name ≡ body_called (code_of code.program) s r body
  method_found r class name body e f =
      with_object r class (λ class. calling r (body_named (code_of code.program).program class name)) e ∙ ap (calling r) f

  pub no_area_for : (r : ℕ) (body : Body) → innermost s.activity.areas ≡ None → body_called (code_of code.program) s r body ≡ None
  unfolding body_called
  no_area_for r body e = rw e refl

-- a body is called: its frame is the sequencer's only one
pub called_step : (code : Listing) (st : RunState) (r : ℕ) (body : Body) (area : ℕ) (frames : List StoredFrame)
    (reported : List Event) → innermost st.activity.areas ≡ Some area →
    frames_of code frames ≡ record (new_frame (code_of code.program) body None (Some r) area []) { opened = None } ∷ [] →
    IsTry code (body_called (code_of code.program) (state_of code st) r body) true
    (record st { activity = record st.activity { frames = frames } }) reported reported
unfolding state_of body_called new_frame
called_step code st r body area frames reported e seen =
    let s : State = state_of code st in
    let after : List Frame → State = λ fs. record s { activity = record s.activity { frames = fs } } in
    let now : RunState = record st { activity = record st.activity { frames = frames } } in
    let frame : Frame = new_frame (code_of code.program) body None (Some r) area [] in
    try_of code now reported reported (body_called (code_of code.program) s r body) (silently (after (frame ∷ []))) (rw e refl)
    (quietly code now reported (after (frame ∷ [])) (ap after seen))
