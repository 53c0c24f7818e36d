-- Where an operation of the sequencer moves nothing that names an object, the heap names it afterwards as little as before,
-- the object is as it was, and of the frames holds what holds of the top one and of what lies under it.
use Rattle.std.specs.Prelude.{Option, Some, None, slice_get, slice_set, nat_lt, drop, is_some, unwrap_or, not}
use Rattle.std.proofs.Common.{◌≡◌, ◌⊎◌, ℕ, zero, suc, List, [], ◌∷◌, ◌++◌, length, refl, sym, ◌∙◌, ap, subst, arith, inl, inr, ⊎_elim}
use Rattle.std.proofs.lemmas.Bool.{cases_eq}
use Rattle.scj_base.specs.declared.faults.RunFault.{RunFault}
use Rattle.scj_base.specs.declared.positions.Position.{Position}
use Rattle.scj_base.specs.declared.values.Value.{Value}
use Rattle.scj_base.specs.declared.values.Value.TheVariants.{Null, At}
use Rattle.accepted_laws.proofs.Lists.{get_left, get_either}
use Rattle.accepted_laws.proofs.Tools.{some_inj}
use Rattle.scj_rules.specs.declared.views.Body.{Body}
use Rattle.scj_model.specs.Code.{Code}
use Rattle.scj_model.specs.State.{Object, Frame, Activity, TheSequencer, State, object_at, changed, with_activity, is_init, is_exec}
use Rattle.scj_model.specs.declared.handlers.HandlerRow.{HandlerRow}
use Rattle.scj_model.specs.Registry.{handler_number, most_handlers, new_row}
use Rattle.scj_model.specs.Memory.{closed, has_room, has_store_for, area_with_scope, with_area, with_object, new_object}
use Rattle.scj_model.specs.Steps.{Step, fault_in, allocating, opening, job_ended, silently}
use Rattle.scj_model.specs.Effects.{Effect, Goes, Prints, Makes, Stores, StoresStatic, SetsHidden, SetsCeiling, Calls, Opens, Leaves, AsksRegistration, AsksRelease, AsksTermination, Faults, Stuck}
use Rattle.scj_model.specs.Apply.{is_full, ceiling_entered, called, opened_in, returned, without, frame_left, registered, takes_releases, release_taken, released, waiting_of, most_waiting, asks_for_end, termination, termination_asked, with_frame, with_first, with_ceiling, applied}
use Rattle.scj_model.proofs.Reaching.{Gives as StepGives, gives_some}
use Rattle.priority_laws.proofs.StepCases.{step_if, step_option, gives_nothing, gives_mapped}
use Rattle.frame_sound.proofs.Changes.{changed_at, changed_off}
use Rattle.memory_bounds.proofs.Above.{AllLack, Lack, Kept, Spares, pops, UsesThis, joined, set, operation_spares}
use Rattle.scj_model.specs.declared.operations.Op.{Op}
use Rattle.scj_model.specs.Operations.{Environment, effect_of}

-- no row of a handler is of the object u
abbrev pub RowsLack : ℕ → List HandlerRow → Type 0
RowsLack u registry = (k : ℕ) (row : HandlerRow) → slice_get registry k ≡ Some row → row.at ≡ u → ⊥

-- no slot, no static field, no result and no row names the object u, and it is this one
pub record Heap (u : ℕ) (o : Object) (s : State) : Type 0 where
  pub statics : AllLack u s.statics
  pub objects : (r : ℕ) (x : Object) → object_at s r ≡ Some x → AllLack u x.slots
  pub object : object_at s u ≡ Some o
  pub outcome : s.outcome ≡ Some (At u) → ⊥
  pub rows : RowsLack u s.registry

-- what is known of an effect besides: of the frame that goes on, of one that waits for a body, of a value that is given
abbrev pub More : (Frame → Type 0) → (Frame → Body → Type 0) → (Option Value → Type 0) → Effect → Type 0
More Stays Waits Gives (Goes f) = Stays f
More Stays Waits Gives (Prints f label z) = Stays f
More Stays Waits Gives (Makes f class slots) = (r : ℕ) → Stays (record f { operands = At r ∷ f.operands })
More Stays Waits Gives (Stores f r slot v) = Stays f
More Stays Waits Gives (StoresStatic f place v) = Stays f
More Stays Waits Gives (SetsHidden f r vs) = Stays f
More Stays Waits Gives (SetsCeiling f r ceiling) = Stays f
More Stays Waits Gives (Calls f g) = Waits f g.body
More Stays Waits Gives (Opens f g scope bytes) = Waits f g.body
More Stays Waits Gives (Leaves f v) = Gives v
More Stays Waits Gives (AsksRegistration f r) = Stays f
More Stays Waits Gives (AsksRelease f r) = Stays f
More Stays Waits Gives (AsksTermination f r) = Stays f
More Stays Waits Gives (Faults x) = Unit {0}
More Stays Waits Gives Stuck = Unit {0}

pub record Further (Stays : Frame → Type 0) (Waits : Frame → Body → Type 0) (Gives : Option Value → Type 0)
    (e : Effect) : Type 0 where
  pub is : More Stays Waits Gives e

-- the heap, and what is asked of the frames
pub record Clean (u : ℕ) (o : Object) (Good : List Frame → Type 0) (s : State) : Type 0 where
  pub heap : Heap u o s
  pub frames : Good s.activity.frames

module _ (u : ℕ) (o : Object) where
  pub heap_same : (s t : State) → Heap u o s → t.statics ≡ s.statics → t.objects ≡ s.objects → t.outcome ≡ s.outcome →
      t.registry ≡ s.registry → Heap u o t
  heap_same s t h statics objects outcome registry = record {
    statics = subst (AllLack u) (sym statics) h.statics;
    objects = λ r x e. h.objects r x (ap (λ (xs : List Object). slice_get xs r) (sym objects) ∙ e);
    object = ap (λ (xs : List Object). slice_get xs u) objects ∙ h.object;
    outcome = λ e. h.outcome (sym outcome ∙ e);
    rows = subst (RowsLack u) (sym registry) h.rows;
  }

  dropped : (n : ℕ) (vs : List Value) → AllLack u vs → AllLack u (drop n vs)
  dropped zero vs l = l
  dropped (suc n) [] l = tt
  dropped (suc n) (v ∷ vs) l = dropped n vs l.1

  -- objects of which one has changed
  changed_lack : (f : Object → Object) (index : ℕ) (xs : List Object) →
      ((r : ℕ) (x : Object) → slice_get xs r ≡ Some x → AllLack u x.slots) →
      ((x : Object) → AllLack u x.slots → AllLack u (f x).slots) →
      (r : ℕ) (y : Object) → slice_get (changed f index xs) r ≡ Some y → AllLack u y.slots
  changed_lack f index xs all keeps r y e = of (cases_eq index r)
    where
      here : (found : Option Object) → slice_get xs index ≡ found → index ≡ r → AllLack u y.slots
      here None none same =
          let whole : changed f index xs ≡ xs =
          ap (λ (x : Option Object). elim x as (λ z. List Object) [ None ↦ xs | Some z ↦ slice_set xs index (f z) ]) none in
          all r y (ap (λ (ys : List Object). slice_get ys r) (sym whole) ∙ e)
      here (Some x) there same =
          let now : Some y ≡ Some (f x) =
          sym e ∙ (ap (slice_get (changed f index xs)) (sym same) ∙ changed_at f index xs x there) in
          subst (λ (z : Object). AllLack u z.slots) (sym (some_inj y (f x) now)) (keeps x (all index x there))

      of : (index ≡ r) ⊎ (index ≡ r → ⊥) → AllLack u y.slots
      of (inl same) = here (slice_get xs index) refl same
      of (inr n) = all r y (sym (changed_off f index xs r n) ∙ e)

  heap_changed : (s : State) (f : Object → Object) (index : ℕ) → Heap u o s → (index ≡ u → ⊥) →
      ((x : Object) → AllLack u x.slots → AllLack u (f x).slots) →
      Heap u o (record s { objects = changed f index s.objects })
  heap_changed s f index h n keeps = record {
    statics = h.statics;
    objects = changed_lack f index s.objects h.objects keeps;
    object = changed_off f index s.objects u n ∙ h.object;
    outcome = h.outcome;
    rows = h.rows;
  }

  heap_more : (s : State) (class area : ℕ) (slots : List Value) → Heap u o s → AllLack u slots →
      Heap u o (with_object s class area slots)
  heap_more s class area slots h l = record {
    statics = h.statics;
    objects = λ r x e. ⊎_elim (h.objects r x) (λ q. subst (λ (z : Object). AllLack u z.slots) q l)
        (get_either s.objects (new_object class area slots) r x e);
    object = get_left s.objects (new_object class area slots ∷ []) u o h.object;
    outcome = h.outcome;
    rows = h.rows;
  }

  heap_closed : (s : State) (a : Option ℕ) → Heap u o s → Heap u o (closed s a)
  unfolding closed
  heap_closed s None h = h
  heap_closed s (Some a) h = heap_same s (closed s (Some a)) h refl refl refl refl

  -- Good is what is asked of the frames: it holds of a frame that was kept, with a new frame over it or not, and of those
  -- under it when it has left, by what is known of the effect besides
  module _ (under : List Value) (this : Option ℕ) (below : List Frame) (Good : List Frame → Type 0)
      (Stays : Frame → Type 0) (Waits : Frame → Body → Type 0) (Gives : Option Value → Type 0)
      (one : (f : Frame) → Kept u under this 0 f → Stays f → Good (f ∷ below))
      (two : (g f : Frame) → Lack u g → Kept u under this 0 f → Waits f g.body → Good (g ∷ f ∷ below))
      (back : (value : Option Value) → (value ≡ Some (At u) → ⊥) → Gives value → Good (returned value below)) where
    clean_same : (s t : State) → Clean u o Good s → t.statics ≡ s.statics → t.objects ≡ s.objects →
        t.outcome ≡ s.outcome → t.registry ≡ s.registry → t.activity ≡ s.activity → Clean u o Good t
    clean_same s t h statics objects outcome registry activity = record {
      heap = heap_same s t h.heap statics objects outcome registry;
      frames = subst (λ (a : Activity). Good a.frames) (sym activity) h.frames;
    }

    module _ (code : Code) (s : State) (heap : Heap u o s) (held : Good s.activity.frames) (activity : Activity)
        (position : Position) where
      with_frames : (t : State) → Heap u o t → (a : Activity) → Good a.frames →
          Clean u o Good (with_activity t TheSequencer a)
      unfolding with_activity
      with_frames t h a g = record { heap = heap_same t (record t { activity = a }) h refl refl refl refl; frames = g }

      goes : (t : State) → Heap u o t → (f : Frame) → Kept u under this 0 f → Stays f →
          Clean u o Good (with_frame t TheSequencer activity f below)
      goes t h f l x = with_frames t h (record activity { frames = f ∷ below }) (one f l x)

      faults : (fault : RunFault) → Clean u o Good (fault_in s TheSequencer activity position fault).state
      unfolding fault_in
      faults fault = record {
        heap = record {
          statics = heap.statics;
          objects = heap.objects;
          object = heap.object;
          outcome = λ e. cc (e);
          rows = heap.rows;
        };
        frames = held;
      }

      made : (f : Frame) (class : ℕ) (slots : List Value) → Kept u under this 0 f → AllLack u slots →
          ((r : ℕ) → Stays (record f { operands = At r ∷ f.operands })) →
          Clean u o Good (allocating s TheSequencer activity position class f.area slots (λ t r.
          silently (with_frame t TheSequencer activity (record f { operands = At r ∷ f.operands }) below))).state
      unfolding allocating
      made f class slots l a x =
          step_if (Clean u o Good) (has_room s f.area (length slots)) _ _
          (λ e. goes (with_object s class f.area slots) (heap_more s class f.area slots heap a)
          (record f { operands = At (length s.objects) ∷ f.operands })
          (record {
            locals = l.locals;
            above = At (length s.objects) ∷ l.above;
            lack = (new, l.lack);
            is = ap (λ (vs : List Value). At (length s.objects) ∷ vs) l.is;
            enough = inr (omega arith);
            is_this = l.is_this;
          }) (x (length s.objects)))
          (λ e. faults _)
        where
          past : (xs : List Object) (x : Object) → slice_get xs (length xs) ≡ Some x → ⊥
          past [] x e = cc (e)
          past (y ∷ xs) x e = past xs x e

          position_of : Value → ℕ
          position_of (At r) = r
          position_of _ = 0

          -- it is another object
          new : At (length s.objects) ≡ At u → ⊥
          new e =
              let same : length s.objects ≡ u = ap position_of e in
              past s.objects o (ap (slice_get s.objects) same ∙ heap.object)

      call : (f g : Frame) → Kept u under this 0 f → Lack u g → Waits f g.body →
          Clean u o Good (called code s TheSequencer activity (f ∷ below) position g).state
      unfolding called
      call f g l m x =
          step_if (Clean u o Good) (is_full (f ∷ below)) _ _ (λ e. faults _)
          (λ e. step_option (Clean u o Good) (ceiling_entered code s g) _ _
          (λ e. with_frames s heap _ (two g f m l x))
          (λ ceiling e. step_if (Clean u o Good) (nat_lt ceiling activity.priority) _ _ (λ e. faults _)
          (λ e. with_frames s heap _ (two (record g { saved = Some activity.priority }) f
          (record { locals = m.locals; operands = m.operands; this = m.this }) l x))))

      entering : (f g : Frame) (scope bytes : ℕ) → Kept u under this 0 f → Lack u g → Waits f g.body →
          Clean u o Good (opened_in s TheSequencer activity (f ∷ below) position g scope bytes).state
      unfolding opened_in opening
      entering f g scope bytes l m x =
          step_if (Clean u o Good) (is_some (area_with_scope s scope activity.areas)) _ _ (λ e. faults _)
          (λ e. step_if (Clean u o Good) (is_full (f ∷ below)) _ _ (λ e. faults _)
          (λ e. step_if (Clean u o Good) (has_store_for s bytes) _ _
          (λ e. with_frames (with_area s scope (Some g.area) bytes)
          (heap_same s (with_area s scope (Some g.area) bytes) heap refl refl refl refl) _
          (two (record g { area = length s.areas; opened = Some (length s.areas) }) f
          (record { locals = m.locals; operands = m.operands; this = m.this }) l x))
          (λ e. faults _)))

      leave : (f : Frame) (value : Option Value) → (value ≡ Some (At u) → ⊥) → Gives value →
          Clean u o Good (frame_left s TheSequencer activity f below value).state
      unfolding frame_left job_ended with_activity
      leave f value n x = of below refl
        where
          t : State
          t = closed s f.opened

          after : Activity
          after =
              record activity {
                frames = returned value below;
                areas = without f.opened activity.areas;
                priority = unwrap_or f.saved activity.priority;
              }

          result : (v : Option Value) → (v ≡ Some (At u) → ⊥) → Some (unwrap_or v Null) ≡ Some (At u) → ⊥
          result None m e = cc (e)
          result (Some v) m e = m e

          of : (fs : List Frame) → below ≡ fs → Clean u o Good
              (elim fs as (λ z. Step) [
                | [] ↦ job_ended t TheSequencer after value
                | g ∷ gs ↦ silently (with_activity t TheSequencer after)
              ]).state
          of [] e = record {
            heap = record {
              statics = (heap_closed s f.opened heap).statics;
              objects = (heap_closed s f.opened heap).objects;
              object = (heap_closed s f.opened heap).object;
              outcome = result value n;
              rows = (heap_closed s f.opened heap).rows;
            };
            frames = back value n x;
          }
          of (g ∷ gs) e = record {
            heap = heap_same t (record t { activity = after }) (heap_closed s f.opened heap) refl refl refl refl;
            frames = back value n x;
          }

      -- ---- what is asked of the framework

      register : (f : Frame) (r : ℕ) (x : Object) → Kept u under this 0 f → Stays f → (r ≡ u → ⊥) →
          Clean u o Good (registered code s TheSequencer activity position r x (with_frame s TheSequencer activity f below)).state
      unfolding registered
      register f r x l y n =
          step_if (Clean u o Good) (not (is_init s.phase)) _ _ (λ e. faults _)
          (λ e. step_if (Clean u o Good) (is_some (handler_number s.registry r)) _ _ (λ e. goes s heap f l y)
          (λ e. step_if (Clean u o Good) (not (nat_lt (length s.registry) most_handlers)) _ _ (λ e. faults _)
          (λ e. record {
            heap = with_row (goes s heap f l y).heap;
            frames = (goes s heap f l y).frames;
          })))
        where
          with_row : Heap u o (with_frame s TheSequencer activity f below) →
              Heap u o (record (with_frame s TheSequencer activity f below) {
                registry = (with_frame s TheSequencer activity f below).registry ++ new_row code.program r x ∷ [];
              })
          with_row h = record {
            statics = h.statics;
            objects = h.objects;
            object = h.object;
            outcome = h.outcome;
            rows = λ k row e q. ⊎_elim (λ b. h.rows k row b q) (λ b. n (ap (λ (z : HandlerRow). z.at) b ∙ q))
                (get_either (with_frame s TheSequencer activity f below).registry (new_row code.program r x) k row e);
          }

      release : (t : State) (r : ℕ) → Clean u o Good t → Clean u o Good (released t r).state
      unfolding released release_taken
      release t r h =
          step_if (Clean u o Good) (takes_releases t) _ _
          (λ e. step_option (Clean u o Good) (handler_number t.registry r) _ _ (λ e. h)
          (λ handler e. step_if (Clean u o Good) (not (nat_lt (length (waiting_of t handler)) most_waiting)) _ _ (λ e. h)
          (λ e. clean_same t _ h refl refl refl refl refl)))
          (λ e. h)

      terminate : (t : State) (r : ℕ) → Clean u o Good t → Clean u o Good (termination_asked t r).state
      unfolding termination_asked termination
      terminate t r h =
          step_if (Clean u o Good) (asks_for_end t.mission t.phase t.is_end_asked r) _ _
          (λ e. step_if (Clean u o Good) (is_exec t.phase) _ _ (λ e. clean_same t _ h refl refl refl refl refl)
          (λ e. clean_same t _ h refl refl refl refl refl))
          (λ e. h)

      -- ---- each effect that doesn't name the object

      pub stays_clean : (e : Effect) → Spares u under this e → Further Stays Waits Gives e →
          StepGives (Clean u o Good) (applied code s TheSequencer activity below position e)
      unfolding applied
      stays_clean (Goes f) w x = gives_some _ _ (goes s heap f w.is x.is)
      stays_clean (Prints f label value) w x = gives_some _ _ (goes s heap f w.is x.is)
      stays_clean (Makes f class slots) w x = gives_some _ _ (made f class slots w.is.0 w.is.1 x.is)
      stays_clean (Stores f r slot value) w x =
          gives_some _ _
          (goes _ (heap_changed s (λ (x : Object). record x { slots = slice_set x.slots slot value }) r heap w.is.1
          (λ x l. set u x.slots slot value l w.is.2)) f w.is.0 x.is)
      stays_clean (StoresStatic f n value) w x =
          gives_some _ _
          (goes (record s { statics = slice_set s.statics n value })
          (record {
            statics = set u s.statics n value heap.statics w.is.1;
            objects = heap.objects;
            object = heap.object;
            outcome = heap.outcome;
            rows = heap.rows;
          }) f w.is.0 x.is)
      stays_clean (SetsHidden f r values) w x =
          gives_some _ _
          (goes _ (heap_changed s (with_first values) r heap w.is.1
          (λ x l. joined u values (drop (length values) x.slots) w.is.2 (dropped (length values) x.slots l))) f w.is.0 x.is)
      stays_clean (SetsCeiling f r ceiling) w x =
          gives_some _ _ (goes _ (heap_changed s (with_ceiling ceiling) r heap w.is.1 (λ x l. l)) f w.is.0 x.is)
      stays_clean (Calls f g) w x = gives_some _ _ (call f g w.is.0 w.is.1 x.is)
      stays_clean (Opens f g scope bytes) w x = gives_some _ _ (entering f g scope bytes w.is.0 w.is.1 x.is)
      stays_clean (Leaves f value) w x = gives_some _ _ (leave f value w.is.1 x.is)
      stays_clean (AsksRegistration f r) w x = gives_mapped _ (object_at s r) _ (λ y e. register f r y w.is.0 x.is w.is.1)
      stays_clean (AsksRelease f r) w x =
          gives_some _ _ (release (with_frame s TheSequencer activity f below) r (goes s heap f w.is x.is))
      stays_clean (AsksTermination f r) w x =
          gives_some _ _ (terminate (with_frame s TheSequencer activity f below) r (goes s heap f w.is x.is))
      stays_clean (Faults fault) w x = gives_some _ _ (faults fault)
      stays_clean Stuck w x = gives_nothing _

-- ---- frames that don't name it

abbrev pub AllBare : ℕ → List Frame → Type 0
AllBare u [] = Unit {0}
AllBare u (f ∷ fs) = Lack u f × AllBare u fs

-- the body of the lowest of these frames
abbrev pub lowest_body : Body → List Frame → Body
lowest_body body [] = body
lowest_body body (f ∷ fs) = lowest_body f.body fs

-- the frames over the tail don't name it, and the lowest of them runs this body; or it has left, and the tail has got the
-- value
pub data Held (u : ℕ) (Gives : Option Value → Type 0) (body : Body) (tail frames : List Frame) : Type 0 where
  Upper : (f : Frame) (upper : List Frame) → Lack u f → AllBare u upper → lowest_body f.body upper ≡ body →
      frames ≡ f ∷ (upper ++ tail) → Held u Gives body tail frames
  Back : (value : Option Value) → (value ≡ Some (At u) → ⊥) → Gives value → frames ≡ returned value tail →
      Held u Gives body tail frames

module _ (u : ℕ) (top : Frame) (l : Lack u top) where
  bare : (f : Frame) → Kept u [] top.this 0 f → Lack u f
  bare f k = record {
    locals = k.locals;
    operands = subst (AllLack u) (sym k.is) (joined u k.above [] k.lack tt);
    this = λ e. l.this (sym k.is_this ∙ e);
  }

  kept : (n : ℕ) → Kept u [] top.this n top
  kept n = record {
    locals = l.locals;
    above = top.operands;
    lack = l.operands;
    is = with_nothing top.operands;
    enough = inl refl;
    is_this = refl;
  }
    where
      with_nothing : (vs : List Value) → vs ≡ vs ++ []
      with_nothing [] = refl
      with_nothing (v ∷ vs) = ap (λ (ws : List Value). v ∷ ws) (with_nothing vs)

  -- an operation of a frame that doesn't name it, over frames that don't, over the tail
  module _ (Gives : Option Value → Type 0) (upper tail : List Frame) (others : AllBare u upper) (code : Code)
      (o : Object) (s : State) (heap : Heap u o s) (activity : Activity)
      (now : Held u Gives (lowest_body top.body upper) tail s.activity.frames) (position : Position) where
    abbrev Next : List Frame → Type 0
    Next frames = Held u Gives (lowest_body top.body upper) tail frames

    lowest_same : (f : Frame) (fs : List Frame) → f.body ≡ top.body → lowest_body f.body fs ≡ lowest_body top.body fs
    lowest_same f fs e = ap (λ b. lowest_body b fs) e

    given_back : (us : List Frame) → upper ≡ us → (value : Option Value) → (value ≡ Some (At u) → ⊥) →
        (upper ≡ [] → Gives value) → Next (returned value (us ++ tail))
    unfolding returned
    given_back [] e value n g = Back value n (g e) refl
    given_back (f ∷ fs) e None n g =
        Upper f fs (here e).0 (here e).1 (ap (λ us. lowest_body top.body us) (sym e)) refl
      where
        here : upper ≡ f ∷ fs → AllBare u (f ∷ fs)
        here e = subst (AllBare u) e others
    given_back (f ∷ fs) e (Some v) n g =
        Upper (record f { operands = v ∷ f.operands }) fs
        (record {
          locals = (here e).0.locals;
          operands = ((λ q. n (ap (λ x. Some x) q)), (here e).0.operands);
          this = (here e).0.this;
        }) (here e).1 (ap (λ us. lowest_body top.body us) (sym e)) refl
      where
        here : upper ≡ f ∷ fs → AllBare u (f ∷ fs)
        here e = subst (AllBare u) e others

    pub upper_acts : (world : Environment) →
        ((r : ℕ) (x : Object) → world.object_at r ≡ Some x → AllLack u x.slots) → AllLack u world.statics → (op : Op) →
        Further (λ f. f.body ≡ top.body) (λ f b. f.body ≡ top.body) (λ v. upper ≡ [] → Gives v)
        (effect_of code world top op) →
        StepGives (Clean u o Next)
        (applied code s TheSequencer activity (upper ++ tail) position (effect_of code world top op))
    upper_acts world objects statics op more =
        stays_clean u o [] top.this (upper ++ tail) Next
        (λ f. f.body ≡ top.body) (λ f b. f.body ≡ top.body) (λ v. upper ≡ [] → Gives v)
        (λ f k e. Upper f upper (bare f k) others (lowest_same f upper e) refl)
        (λ g f m k e. Upper g (f ∷ upper) m (bare f k, others) (lowest_same f upper e) refl)
        (λ value n g. given_back upper refl value n g)
        code s heap now activity position (effect_of code world top op)
        (operation_spares u [] top.this code top world objects statics op (λ x. l.this) (kept (pops code op))) more

-- ---- the frame that holds it among its operands, under those that the operation takes

pub data Holds (u : ℕ) (under : List Value) (this : Option ℕ) (Stays : Frame → Type 0) (Waits : Frame → Body → Type 0)
    (below frames : List Frame) : Type 0 where
  Top : (f : Frame) → Kept u under this 0 f → Stays f → frames ≡ f ∷ below → Holds u under this Stays Waits below frames
  Called : (g f : Frame) → Lack u g → Kept u under this 0 f → Waits f g.body → frames ≡ g ∷ f ∷ below →
      Holds u under this Stays Waits below frames

module _ (u : ℕ) (under : List Value) (Stays : Frame → Type 0) (Waits : Frame → Body → Type 0) (code : Code)
    (o : Object) (s : State) (heap : Heap u o s) (activity : Activity) (top : Frame) (below : List Frame)
    (now : Holds u under top.this Stays Waits below s.activity.frames) (position : Position) where
  -- the operation doesn't look at `this` where that is the object; the frame doesn't leave
  pub holder_acts : (world : Environment) →
      ((r : ℕ) (x : Object) → world.object_at r ≡ Some x → AllLack u x.slots) → AllLack u world.statics → (op : Op) →
      (UsesThis op → top.this ≡ Some u → ⊥) → Kept u under top.this (pops code op) top →
      Further Stays Waits (λ v. ⊥) (effect_of code world top op) →
      StepGives (Clean u o (Holds u under top.this Stays Waits below))
      (applied code s TheSequencer activity below position (effect_of code world top op))
  holder_acts world objects statics op own k more =
      stays_clean u o under top.this below (Holds u under top.this Stays Waits below) Stays Waits (λ v. ⊥)
      (λ f m x. Top f m x refl) (λ g f n m x. Called g f n m x refl) (λ value n x. absurd x)
      code s heap now activity position (effect_of code world top op)
      (operation_spares u under top.this code top world objects statics op own k) more
