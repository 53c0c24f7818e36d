-- What an operation of the sequencer makes of the objects: each that was there is there, and the storage that it tells it
-- tells still; one may be new.
use Rattle.std.specs.Prelude.{Option, Some, None, slice_get, slice_set, nat_lt, drop, is_some, not, pos, unwrap_or}
use Rattle.std.proofs.Common.{◌≡◌, ◌⊎◌, ℕ, List, [], ◌∷◌, length, refl, sym, ◌∙◌, ap, subst, inl, inr}
use Rattle.std.proofs.lemmas.Bool.{cases_eq}
use Rattle.scj_base.specs.declared.faults.RunFault.{RunFault}
use Rattle.scj_base.specs.declared.positions.Position.{Position}
use Rattle.scj_base.specs.declared.values.Value.{Value}
use Rattle.scj_base.specs.declared.values.Value.TheVariants.{Int, At}
use Rattle.scj_rules.specs.Layout.{storage_slot}
use Rattle.accepted_laws.proofs.Lists.{get_left, get_set_other}
use Rattle.accepted_laws.proofs.Tools.{some_inj}
use Rattle.scj_model.specs.Code.{Code}
use Rattle.scj_model.specs.State.{Object, Frame, Activity, TheSequencer, State, object_at, changed, with_activity, is_init, is_exec}
use Rattle.scj_model.specs.Registry.{handler_number, most_handlers}
use Rattle.scj_model.specs.Memory.{closed, has_room, has_store_for, area_with_scope, with_object, new_object, with_slot}
use Rattle.scj_model.specs.Steps.{Step, fault_in, allocating, opening, job_ended, silently}
use Rattle.scj_model.specs.Effects.{Effect, Goes, Prints, Makes, Stores, StoresStatic, SetsHidden, SetsCeiling, Calls, Opens, Leaves, AsksRegistration, AsksRelease, AsksTermination, Faults, Stuck}
use Rattle.scj_model.specs.Apply.{is_full, ceiling_entered, called, opened_in, frame_left, returned, without, registered, takes_releases, release_taken, released, waiting_of, most_waiting, asks_for_end, termination, termination_asked, with_first, with_ceiling, with_frame, applied}
use Rattle.scj_model.proofs.Reaching.{Gives as StepGives, gives_some}
use Rattle.priority_laws.proofs.StepCases.{step_if, step_option, gives_nothing, gives_mapped}
use Rattle.frame_sound.proofs.Changes.{changed_at, changed_off}
use Rattle.reference_sound.proofs.Lists.{last_or_before}
use Rattle.memory_bounds.specs.Theorem.{Storage}

-- the storage slot has what the form of the class says
pub record Reports (storage : Storage) (o : Object) : Type 0 where
  pub is : (n : ℕ) → storage o.class ≡ Some n → slice_get o.slots storage_slot ≡ Some (Int (pos n))

-- what an effect has to spare of the objects
abbrev pub SparesStorage : Storage → State → Effect → Type 0
SparesStorage storage s (Stores f r slot v) =
    (o : Object) (n : ℕ) → object_at s r ≡ Some o → storage o.class ≡ Some n → slot ≡ storage_slot → ⊥
SparesStorage storage s (SetsHidden f r values) =
    (o : Object) (n : ℕ) → object_at s r ≡ Some o → storage o.class ≡ Some n →
    slice_get values storage_slot ≡ Some (Int (pos n))
SparesStorage storage s _ = Unit {0}

-- the object was there, or the effect has made it
pub data Later (storage : Storage) (s : State) (e : Effect) (r : ℕ) (x : Object) : Type 0 where
  Was : (o : Object) → object_at s r ≡ Some o → x.class ≡ o.class → x.area ≡ o.area →
      (Reports storage o → Reports storage x) → Later storage s e r x
  New : (f : Frame) (class : ℕ) (slots : List Value) → e ≡ Makes f class slots → r ≡ length s.objects →
      x ≡ new_object class f.area slots → Later storage s e r x

pub record AllLater (storage : Storage) (s : State) (e : Effect) (t : State) : Type 0 where
  pub is : (r : ℕ) (x : Object) → object_at t r ≡ Some x → Later storage s e r x

module _ (storage : Storage) (s : State) (e : Effect) where
  abbrev After : State → Type 0
  After t = AllLater storage s e t

  same : (t : State) → t.objects ≡ s.objects → AllLater storage s e t
  same t objects = record {
    is = λ r x h. Was x (ap (λ (xs : List Object). slice_get xs r) (sym objects) ∙ h) refl refl (λ k. k);
  }

  -- the same objects as those of another state
  like : (t v : State) → AllLater storage s e t → v.objects ≡ t.objects → AllLater storage s e v
  like t v a objects = record { is = λ r x h. a.is r x (ap (λ (xs : List Object). slice_get xs r) (sym objects) ∙ h) }

  -- one object has changed
  one_changed : (f : Object → Object) (index : ℕ) → ((x : Object) → (f x).class ≡ x.class) →
      ((x : Object) → (f x).area ≡ x.area) →
      ((x : Object) → object_at s index ≡ Some x → Reports storage x → Reports storage (f x)) → (t : State) →
      t.objects ≡ changed f index s.objects → AllLater storage s e t
  one_changed f index class area keeps t objects = record {
    is = λ r x h. of r x (ap (λ (xs : List Object). slice_get xs r) (sym objects) ∙ h) (cases_eq index r);
  }
    where
      here : (r : ℕ) (x : Object) → slice_get (changed f index s.objects) r ≡ Some x → (found : Option Object) →
          slice_get s.objects index ≡ found → index ≡ r → Later storage s e r x
      here r x h None none one =
          let whole : changed f index s.objects ≡ s.objects =
          ap (λ (y : Option Object). elim y as (λ z. List Object) [ None ↦ s.objects | Some z ↦ slice_set s.objects index (f z) ])
          none in
          Was x (ap (λ (ys : List Object). slice_get ys r) (sym whole) ∙ h) refl refl (λ k. k)
      here r x h (Some o) there one =
          let now : x ≡ f o =
          some_inj x (f o)
          (sym h ∙ (ap (slice_get (changed f index s.objects)) (sym one) ∙ changed_at f index s.objects o there)) in
          Was o (ap (slice_get s.objects) (sym one) ∙ there) (ap (λ (y : Object). y.class) now ∙ class o)
          (ap (λ (y : Object). y.area) now ∙ area o)
          (λ k. subst (Reports storage) (sym now) (keeps o there k))

      of : (r : ℕ) (x : Object) → slice_get (changed f index s.objects) r ≡ Some x →
          (index ≡ r) ⊎ (index ≡ r → ⊥) → Later storage s e r x
      of r x h (inl one) = here r x h (slice_get s.objects index) refl one
      of r x h (inr n) = Was x (sym (changed_off f index s.objects r n) ∙ h) refl refl (λ k. k)

  module _ (code : Code) (activity : Activity) (below : List Frame) (position : Position) where
    framed : (t : State) → AllLater storage s e t → (f : Frame) →
        AllLater storage s e (with_frame t TheSequencer activity f below)
    unfolding with_activity
    framed t a f = like t (record t { activity = record activity { frames = f ∷ below } }) a refl

    faults : (fault : RunFault) → AllLater storage s e (fault_in s TheSequencer activity position fault).state
    unfolding fault_in
    faults fault = same _ refl

    made : (f : Frame) (class : ℕ) (slots : List Value) → e ≡ Makes f class slots →
        AllLater storage s e (allocating s TheSequencer activity position class f.area slots (λ t r.
        silently (with_frame t TheSequencer activity (record f { operands = At r ∷ f.operands }) below))).state
    unfolding allocating
    made f class slots q =
        step_if (AllLater storage s e) (has_room s f.area (length slots)) _ _
        (λ k. framed (with_object s class f.area slots) (record {
          is = λ r x h. of r x (last_or_before s.objects (new_object class f.area slots) r x h);
        }) (record f { operands = At (length s.objects) ∷ f.operands }))
        (λ k. faults _)
      where
        of : (r : ℕ) (x : Object) → (slice_get s.objects r ≡ Some x)
            ⊎ ((r ≡ length s.objects) × (new_object class f.area slots ≡ x)) → Later storage s e r x
        of r x (inl h) = Was x h refl refl (λ k. k)
        of r x (inr h) = New f class slots q h.0 (sym h.1)

    call : (f g : Frame) → AllLater storage s e (called code s TheSequencer activity (f ∷ below) position g).state
    unfolding called with_activity
    call f g =
        step_if (AllLater storage s e) (is_full (f ∷ below)) _ _ (λ k. faults _)
        (λ k. step_option (AllLater storage s e) (ceiling_entered code s g) _ _ (λ k. same _ refl)
        (λ ceiling k. step_if (AllLater storage s e) (nat_lt ceiling activity.priority) _ _ (λ k. faults _)
        (λ k. same _ refl)))

    entering : (f g : Frame) (scope bytes : ℕ) →
        AllLater storage s e (opened_in s TheSequencer activity (f ∷ below) position g scope bytes).state
    unfolding opened_in opening with_activity
    entering f g scope bytes =
        step_if (AllLater storage s e) (is_some (area_with_scope s scope activity.areas)) _ _ (λ k. faults _)
        (λ k. step_if (AllLater storage s e) (is_full (f ∷ below)) _ _ (λ k. faults _)
        (λ k. step_if (AllLater storage s e) (has_store_for s bytes) _ _ (λ k. same _ refl) (λ k. faults _)))

    closed_same : (a : Option ℕ) → (closed s a).objects ≡ s.objects
    unfolding closed
    closed_same None = refl
    closed_same (Some a) = refl

    leave : (f : Frame) (value : Option Value) →
        AllLater storage s e (frame_left s TheSequencer activity f below value).state
    unfolding frame_left job_ended with_activity
    leave f value = of below
      where
        t : State
        t = closed s f.opened

        after : Activity
        after =
            record activity {
              frames = returned value below;
              areas = without f.opened activity.areas;
              priority = unwrap_or f.saved activity.priority;
            }

        of : (fs : List Frame) → AllLater storage s e
            (elim fs as (λ z. Step) [
              | [] ↦ job_ended t TheSequencer after value
              | g ∷ gs ↦ silently (with_activity t TheSequencer after)
            ]).state
        of [] = same _ (closed_same f.opened)
        of (g ∷ gs) = same _ (closed_same f.opened)

    register : (f : Frame) (r : ℕ) (x : Object) → AllLater storage s e
        (registered code s TheSequencer activity position r x (with_frame s TheSequencer activity f below)).state
    unfolding registered with_activity
    register f r x =
        step_if (AllLater storage s e) (not (is_init s.phase)) _ _ (λ k. faults _)
        (λ k. step_if (AllLater storage s e) (is_some (handler_number s.registry r)) _ _ (λ k. same _ refl)
        (λ k. step_if (AllLater storage s e) (not (nat_lt (length s.registry) most_handlers)) _ _ (λ k. faults _)
        (λ k. same _ refl)))

    release : (t : State) (r : ℕ) → t.objects ≡ s.objects → AllLater storage s e (released t r).state
    unfolding released release_taken
    release t r q =
        step_if (AllLater storage s e) (takes_releases t) _ _
        (λ k. step_option (AllLater storage s e) (handler_number t.registry r) _ _ (λ k. same _ q)
        (λ handler k. step_if (AllLater storage s e) (not (nat_lt (length (waiting_of t handler)) most_waiting)) _ _
        (λ k. same _ q) (λ k. same _ q)))
        (λ k. same _ q)

    terminate : (t : State) (r : ℕ) → t.objects ≡ s.objects → AllLater storage s e (termination_asked t r).state
    unfolding termination_asked termination
    terminate t r q =
        step_if (AllLater storage s e) (asks_for_end t.mission t.phase t.is_end_asked r) _ _
        (λ k. step_if (AllLater storage s e) (is_exec t.phase) _ _ (λ k. same _ q) (λ k. same _ q))
        (λ k. same _ q)

    framed_same : (f : Frame) → (with_frame s TheSequencer activity f below).objects ≡ s.objects
    unfolding with_activity
    framed_same f = refl

    -- a slot that isn't the storage's leaves it
    slot_kept : (r slot : ℕ) (v : Value) (x : Object) →
        ((n : ℕ) → storage x.class ≡ Some n → slot ≡ storage_slot → ⊥) → Reports storage x →
        Reports storage (record x { slots = slice_set x.slots slot v })
    slot_kept r slot v x other k = record {
      is = λ n h. get_set_other x.slots slot storage_slot v (λ q. other n h q) ∙ k.is n h;
    }

    hidden_kept : (values : List Value) (x : Object) →
        ((n : ℕ) → storage x.class ≡ Some n → slice_get values storage_slot ≡ Some (Int (pos n))) → Reports storage x →
        Reports storage (with_first values x)
    hidden_kept values x sets k = record {
      is = λ n h. get_left values (drop (length values) x.slots) storage_slot _ (sets n h);
    }

    -- the hidden fields that are set tell the storage
    pub hidden_reports : (f : Frame) (r : ℕ) (values : List Value) → ((o : Object) (n : ℕ) → object_at s r ≡ Some o →
        storage o.class ≡ Some n → slice_get values storage_slot ≡ Some (Int (pos n))) →
        StepGives (λ t. (x : Object) → object_at t r ≡ Some x → Reports storage x)
        (applied code s TheSequencer activity below position (SetsHidden f r values))
    unfolding applied with_activity
    hidden_reports f r values w = gives_some _ _ (λ x h. of x h (slice_get s.objects r) refl)
      where
        of : (x : Object) → slice_get (changed (with_first values) r s.objects) r ≡ Some x → (found : Option Object) →
            slice_get s.objects r ≡ found → Reports storage x
        of x h None none =
            let whole : changed (with_first values) r s.objects ≡ s.objects =
            ap (λ (y : Option Object). elim y as (λ z. List Object)
            [ None ↦ s.objects | Some z ↦ slice_set s.objects r (with_first values z) ]) none in
            absurd (let q : None ≡ Some x = sym none ∙ (ap (λ (ys : List Object). slice_get ys r) (sym whole) ∙ h) in cc (q))
        of x h (Some o) there =
            let now : x ≡ with_first values o =
            some_inj x (with_first values o) (sym h ∙ changed_at (with_first values) r s.objects o there) in
            subst (Reports storage) (sym now) (record {
              is = λ n q. get_left values (drop (length values) o.slots) storage_slot _ (w o n there q);
            })

    pub objects_later : (d : Effect) → e ≡ d → SparesStorage storage s d →
        StepGives (AllLater storage s e) (applied code s TheSequencer activity below position d)
    unfolding applied
    objects_later (Goes f) q w = gives_some _ _ (framed s (same s refl) f)
    objects_later (Prints f label value) q w = gives_some _ _ (framed s (same s refl) f)
    objects_later (Makes f class slots) q w = gives_some _ _ (made f class slots q)
    objects_later (Stores f r slot v) q w =
        gives_some _ _
        (framed (with_slot s r slot v) (one_changed (λ (x : Object). record x { slots = slice_set x.slots slot v }) r
        (λ x. refl) (λ x. refl) (λ x there k. slot_kept r slot v x (λ n h. w x n there h) k) (with_slot s r slot v) refl) f)
    objects_later (StoresStatic f n v) q w =
        gives_some _ _ (framed (record s { statics = slice_set s.statics n v }) (same _ refl) f)
    objects_later (SetsHidden f r values) q w =
        gives_some _ _
        (framed (record s { objects = changed (with_first values) r s.objects })
        (one_changed (with_first values) r (λ x. refl) (λ x. refl)
        (λ x there k. hidden_kept values x (λ n h. w x n there h) k) _ refl) f)
    objects_later (SetsCeiling f r ceiling) q w =
        gives_some _ _
        (framed (record s { objects = changed (with_ceiling ceiling) r s.objects })
        (one_changed (with_ceiling ceiling) r (λ x. refl) (λ x. refl) (λ x there k. record { is = k.is }) _ refl) f)
    objects_later (Calls f g) q w = gives_some _ _ (call f g)
    objects_later (Opens f g scope bytes) q w = gives_some _ _ (entering f g scope bytes)
    objects_later (Leaves f value) q w = gives_some _ _ (leave f value)
    objects_later (AsksRegistration f r) q w = gives_mapped _ (object_at s r) _ (λ x k. register f r x)
    objects_later (AsksRelease f r) q w =
        gives_some _ _ (release (with_frame s TheSequencer activity f below) r (framed_same f))
    objects_later (AsksTermination f r) q w =
        gives_some _ _ (terminate (with_frame s TheSequencer activity f below) r (framed_same f))
    objects_later (Faults fault) q w = gives_some _ _ (faults fault)
    objects_later Stuck q w = gives_nothing _
