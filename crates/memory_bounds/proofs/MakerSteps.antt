-- One operation of the sequencer while an object is being made: the object is still being made, unless its form is read.
use Rattle.std.specs.Prelude.{Option, Some, None}
use Rattle.std.proofs.Common.{◌≡◌, ◌⊎◌, ℕ, Bool, length, arith, List, [], ◌∷◌, ◌++◌, refl, sym, ◌∙◌, ap, subst, inl, inr, append-nil, append_assoc}
use Rattle.scj_base.specs.declared.positions.Position.{Position}
use Rattle.scj_base.specs.declared.values.Value.{Value}
use Rattle.scj_base.specs.declared.values.Value.TheVariants.{At}
use Rattle.scj_rules.specs.declared.views.Body.{Body}
use Rattle.scj_rules.specs.Bodies.{constructor_body}
use Rattle.accepted_laws.proofs.Tools.{some_inj}
use Rattle.scj_model.specs.declared.operations.Op.{Op}
use Rattle.scj_model.specs.declared.operations.Op.TheVariants.{This as THIS, And as AND, Or as OR, If as IF, Loop as LOOP, LeaveWith as LEAVEWITH, Leave as LEAVE, Construct as CONSTRUCT, Super as SUPER, Params as PARAMS}
use Rattle.scj_model.specs.Code.{Code, binding}
use Rattle.scj_model.specs.State.{Object, Frame, Activity, TheSequencer, State, with_activity}
use Rattle.scj_model.specs.Steps.{Step, silently}
use Rattle.scj_model.specs.Ops.{ops_of}
use Rattle.scj_model.specs.Effects.{Effect, given, new_frame, pushes}
use Rattle.scj_model.specs.Apply.{applied, called, returned, with_frame}
use Rattle.scj_model.specs.Operations.{Environment, bound_class, effect_of, super_count}
use Rattle.scj_model.proofs.Reaching.{Gives as StepGives, gives_some}
use Rattle.priority_laws.proofs.StepCases.{gives_nothing}
use Rattle.certain_faults.proofs.Stacks.{Less, Stack, nothing, put}
use Rattle.certain_faults.specs.declared.known.Known.TheVariants.{Exactly}
use Rattle.certain_faults.proofs.Passes.{step}
use Rattle.certain_faults.proofs.RunsOfNodes.{ClassesAskNothing}
use Rattle.certain_faults.proofs.Frames.{ExplainedBy, Fine, GivesAsBound, GoesInFront, InFront, WaitsBy, operation_fine, shadows_nothing, shadows_put}
use Rattle.certain_faults.proofs.Kept.{KeepsBody}
use Rattle.memory_bounds.proofs.Above.{AllLack, Kept, Lack, pops}
use Rattle.memory_bounds.proofs.Constructing.{A_call, Begun, CalledOn, Faulted, HasCalled, IsNew, Nothing, OnObject, called_on, constructor_called}
use Rattle.memory_bounds.proofs.Making.{AllInner, Holder, Pending, inner_both, pending_in_front, pending_less}
use Rattle.memory_bounds.proofs.Makers.{Given, HolderWaits, Holding, InnerLaws, IsStraight, Made, Nowhere, Reader, ReaderWaits, Reading, Reads, Starts, Waiting, body_stays, explained_stays, of_held}
use Rattle.memory_bounds.proofs.Unnamed.{AllBare, Back, Called, Clean, Further, Heap, Held, Holds, Top, Upper, heap_same, holder_acts, lowest_body, upper_acts}

module _ (code : Code) (Inner : Op → Type 0) (OnWay : ℕ → Type 0) (laws : InnerLaws code Inner) (G : Body → Bool → Type 0)
    (bare : ClassesAskNothing code) (u : ℕ) (o : Object) (s : State) (heap : Heap u o s) (activity : Activity)
    (position : Position) (world : Environment)
    (objects : (r : ℕ) (x : Object) → world.object_at r ≡ Some x → AllLack u x.slots)
    (statics : AllLack u world.statics) where
  -- the object is being made, and the heap doesn't name it
  abbrev pub Made_in : State → Type 0
  Made_in t = Clean u o (Made code Inner OnWay G u) t

  mapped : {P Q : State → Type 0} (x : Option Step) → ((t : State) → P t → Q t) → StepGives P x → StepGives Q x
  mapped x f g = record { is = λ step e. f step.state (g.is step e) }

  cleaned : (Good Better : List Frame → Type 0) → ((fs : List Frame) → Good fs → Better fs) → (t : State) →
      Clean u o Good t → Clean u o Better t
  cleaned Good Better f t c = record { heap = c.heap; frames = f t.activity.frames c.frames }

  -- ---- frames that don't name it

  module _ (top : Frame) (lacks : Lack u top) (upper : List Frame) (others : AllBare u upper) (op : Op)
      (stays : KeepsBody code G top.body (effect_of code world top op)) where
    abbrev low : Body
    low = lowest_body top.body upper

    further : Further (λ f. f.body ≡ top.body) (λ f b. f.body ≡ top.body)
        (λ v. upper ≡ [] → Given code Inner OnWay G u (lowest_body top.body upper) v) (effect_of code world top op)
    further = record {
      is =
          body_stays code G top.body (λ v. upper ≡ [] → Given code Inner OnWay G u (lowest_body top.body upper) v)
          (λ v g e. subst (λ (us : List Frame). Given code Inner OnWay G u (lowest_body top.body us) v) (sym e) g)
          (effect_of code world top op) stays;
    }

    -- over the one that makes it
    pub upper_step : (f : Frame) (below : List Frame) →
        HolderWaits code Inner OnWay G u f (lowest_body top.body upper) ⊎ ReaderWaits code Inner OnWay G u f (lowest_body top.body upper) →
        (was : Frame) → Lack u was → was.body ≡ top.body → s.activity.frames ≡ was ∷ (upper ++ f ∷ below) →
        StepGives Made_in
        (applied code s TheSequencer activity (upper ++ f ∷ below) position (effect_of code world top op))
    upper_step f below w was l same acts =
        mapped _
        (cleaned _ _ (λ fs h. of_held code Inner OnWay G u (lowest_body top.body upper) f below fs w h))
        (upper_acts u top lacks (Given code Inner OnWay G u (lowest_body top.body upper)) upper (f ∷ below) others code o s heap
        activity (Upper was upper l others (ap (λ b. lowest_body b upper) same) acts) position world objects statics op
        further)

    -- where no frame names it
    free : (frames : List Frame) →
        Held u (Given code Inner OnWay G u (lowest_body top.body upper)) (lowest_body top.body upper) [] frames →
        Made code Inner OnWay G u frames
    unfolding returned
    free frames (Upper f fs l a same e) =
        Nowhere (subst (AllBare u) (sym (e ∙ ap (λ (gs : List Frame). f ∷ gs) (append-nil fs))) (l, a))
    free frames (Back None n g e) = Nowhere (subst (AllBare u) (sym e) tt)
    free frames (Back (Some v) n g e) = Nowhere (subst (AllBare u) (sym e) tt)

    pub free_step : (was : Frame) → Lack u was → was.body ≡ top.body → s.activity.frames ≡ was ∷ upper →
        StepGives Made_in (applied code s TheSequencer activity upper position (effect_of code world top op))
    free_step was l same acts =
        subst (λ (fs : List Frame). StepGives Made_in
        (applied code s TheSequencer activity fs position (effect_of code world top op))) (append-nil upper)
        (mapped _ (cleaned _ _ free)
        (upper_acts u top lacks (Given code Inner OnWay G u (lowest_body top.body upper)) upper [] others code o s heap
        activity (Upper was upper l others (ap (λ b. lowest_body b upper) same)
        (acts ∙ ap (λ (gs : List Frame). was ∷ gs) (sym (append-nil upper)))) position world objects statics op
        further))

  -- ---- the frame that holds it

  module _ (f : Frame) (op : Op) (rest : List Op) (below : List Frame) (acts : s.activity.frames ≡ f ∷ below)
      (gives : GivesAsBound code G world (record f { rest = rest }) op) where
    abbrev top : Frame
    top = record f { rest = rest }

    moved : (under : List Value) (n : ℕ) → Kept u under f.this n f → Kept u under f.this n (record f { rest = rest })
    moved under n k = record {
      locals = k.locals;
      above = k.above;
      lack = k.lack;
      is = k.is;
      enough = k.enough;
      is_this = k.is_this;
    }

    own_kept : (under : List Value) (g : Frame) → Kept u under f.this 0 g → Kept u under g.this 0 g
    own_kept under g k = record {
      locals = k.locals;
      above = k.above;
      lack = k.lack;
      is = k.is;
      enough = k.enough;
      is_this = refl;
    }

    module _ (h : Holder code Inner OnWay u f) (more : Pending code Inner OnWay u f.this rest (step code op h.by.stack))
        (calm : f.this ≡ Some u → Inner op) where
      abbrev P : List Op → Stack → Type 0
      P = Pending code Inner OnWay u f.this

      fine : Fine code G (Pending code Inner OnWay u f.this) ⊥ (effect_of code world (record f { rest = rest }) op)
      fine =
          operation_fine code G (Pending code Inner OnWay u f.this) ⊥ bare rest (pending_less code Inner OnWay u f.this rest) world
          (record f { rest = rest }) h.by.stack (record { same = refl; shadows = h.by.shadows }) op more gives
          (pending_in_front code Inner OnWay u f.this bare laws.keeps rest op calm h.by.stack more op refl)

      held : (frames : List Frame) →
          Holds u (At u ∷ h.lower) f.this (λ g. ExplainedBy (Pending code Inner OnWay u f.this) g)
          (λ g b. WaitsBy (Pending code Inner OnWay u f.this) G g b) below frames → Made code Inner OnWay G u frames
      held frames (Top g k x e) =
          Holding g below (record {
            lower = h.lower;
            lacks = h.lacks;
            kept = own_kept (At u ∷ h.lower) g k;
            by = subst (λ t. ExplainedBy (Pending code Inner OnWay u t) g) (sym k.is_this) x;
          }) e
      held frames (Called g f l k x e) =
          Waiting g [] f below l tt (inl (record {
            lower = h.lower;
            lacks = h.lacks;
            kept = own_kept (At u ∷ h.lower) f k;
            by = subst (λ t. WaitsBy (Pending code Inner OnWay u t) G f g.body) (sym k.is_this) x;
          })) e

      pub holder_step : Kept u (At u ∷ h.lower) f.this (pops code op) f →
          StepGives Made_in
          (applied code s TheSequencer activity below position (effect_of code world (record f { rest = rest }) op))
      holder_step k =
          mapped _ (cleaned _ _ held)
          (holder_acts u (At u ∷ h.lower) (λ g. ExplainedBy (Pending code Inner OnWay u f.this) g)
          (λ g b. WaitsBy (Pending code Inner OnWay u f.this) G g b) code o s heap activity (record f { rest = rest }) below
          (Top f h.kept h.by acts) position world objects statics op
          (λ uses own. laws.own op (calm own) uses) (moved (At u ∷ h.lower) (pops code op) k)
          (record {
            is = explained_stays code G (Pending code Inner OnWay u f.this) (effect_of code world (record f { rest = rest }) op) fine;
          }))

    -- ---- the constructor that comes to its form

    module _ (r : Reader code Inner OnWay G u f) (front ops : List Op) (id : ℕ) (is : rest ≡ front ++ PARAMS id ∷ ops)
        (inner : Inner op) (calm : AllInner code Inner front) where
      abbrev R : List Op → Stack → Type 0
      R = Reading code Inner OnWay G

      reads_less : (x y : Stack) → Less x y → Reading code Inner OnWay G rest x → Reading code Inner OnWay G rest y
      reads_less x y l p = record { front = p.front; more = p.more; id = p.id; is = p.is; calm = p.calm }

      right_reads : (n : ℕ) → (op ≡ AND n) ⊎ (op ≡ OR n) → GoesInFront code (Reading code Inner OnWay G) rest n
      right_reads n which x e t p = record {
        front = ops_of code x ++ p.front;
        more = p.more;
        id = p.id;
        is =
            ap (λ (ys : List Op). ops_of code x ++ ys) p.is
            ∙ sym (append_assoc (ops_of code x) p.front (PARAMS p.id ∷ p.more));
        calm = inner_both code Inner (ops_of code x) p.front (laws.keeps op n x which inner e) p.calm;
      }

      reads_in_front : (x : Op) → op ≡ x → InFront code (Reading code Inner OnWay G) ⊥ rest x
      unfolding IsStraight
      reads_in_front (AND n) e = right_reads n (inl e)
      reads_in_front (OR n) e = right_reads n (inr e)
      reads_in_front (IF n) e = absurd (subst IsStraight e (laws.straight op inner))
      reads_in_front (LOOP n) e = absurd (subst IsStraight e (laws.straight op inner))
      reads_in_front (LEAVEWITH n) e = subst IsStraight e (laws.straight op inner)
      reads_in_front LEAVE e = subst IsStraight e (laws.straight op inner)
      reads_in_front _ e = tt

      reads_fine : Fine code G (Reading code Inner OnWay G) ⊥ (effect_of code world (record f { rest = rest }) op)
      reads_fine =
          operation_fine code G (Reading code Inner OnWay G) ⊥ bare rest reads_less world
          (record f { rest = rest }) r.by.stack (record { same = refl; shadows = r.by.shadows }) op
          (record { front = front; more = ops; id = id; is = is; calm = calm }) gives (reads_in_front op refl)

      read : (frames : List Frame) →
          Holds u [] f.this (λ g. ExplainedBy (Reading code Inner OnWay G) g) (λ g b. WaitsBy (Reading code Inner OnWay G) G g b) below
          frames → Made code Inner OnWay G u frames
      read frames (Top g k x e) =
          Reads g below (record { own = k.is_this ∙ r.own; kept = own_kept [] g k; by = x }) e
      read frames (Called g f l k x e) =
          Waiting g [] f below l tt (inr (record { own = k.is_this ∙ r.own; kept = own_kept [] f k; by = x })) e

      none_under : (n : ℕ) → Kept u [] f.this n f
      none_under n = record {
        locals = r.kept.locals;
        above = r.kept.above;
        lack = r.kept.lack;
        is = r.kept.is;
        enough = inl refl;
        is_this = refl;
      }

      pub reader_step : StepGives Made_in
          (applied code s TheSequencer activity below position (effect_of code world (record f { rest = rest }) op))
      reader_step =
          mapped _ (cleaned _ _ read)
          (holder_acts u [] (λ g. ExplainedBy (Reading code Inner OnWay G) g) (λ g b. WaitsBy (Reading code Inner OnWay G) G g b) code o s
          heap activity (record f { rest = rest }) below (Top f r.kept r.by acts) position world objects statics op
          (λ uses own. laws.own op inner uses) (moved [] (pops code op) (none_under (pops code op)))
          (record {
            is = explained_stays code G (Reading code Inner OnWay G) (effect_of code world (record f { rest = rest }) op) reads_fine;
          }))

  -- ---- the constructor is called

  -- a constructor of the class begins to make the object
  abbrev pub CanBegin : ℕ → Type 0
  CanBegin class =
      (body : Body) (f : Frame) (below : List Frame) → constructor_body code.program class ≡ Some body →
      IsNew code u body f → Made code Inner OnWay G u (f ∷ below)

  module _ (f : Frame) (rest : List Op) (below : List Frame) (id class : ℕ) (op : Op)
      (calls : (op ≡ CONSTRUCT id) ⊎ (op ≡ SUPER id)) (bound : bound_class (binding code id) ≡ Some class)
      (begin : CanBegin class) (still : Made code Inner OnWay G u s.activity.frames) (above lower : List Value)
      (is : f.operands ≡ above ++ At u ∷ lower) (lacks : AllLack u above) where
    begun : (tail : List Frame) (other : ℕ) (body : Body) → bound_class (binding code id) ≡ Some other →
        constructor_body code.program other ≡ Some body → (t : State) →
        CalledOn code u o body s.activity.frames tail t → Made_in t
    begun tail other body b c t x = record { heap = x.heap; frames = by x.frames }
      where
        same : other ≡ class
        same = some_inj other class (sym b ∙ bound)

        by : HasCalled code u body s.activity.frames tail t.activity.frames → Made code Inner OnWay G u t.activity.frames
        by (Begun g n e) =
            subst (Made code Inner OnWay G u) (sym e)
            (begin body g tail (ap (constructor_body code.program) (sym same) ∙ c) n)
        by (Faulted e) = subst (Made code Inner OnWay G u) (sym e) still

    of_effect : (e : Effect) → OnObject code u id e →
        StepGives Made_in (applied code s TheSequencer activity below position e)
    unfolding applied
    of_effect _ Nothing = gives_nothing Made_in
    of_effect _ (A_call other g body area arguments b c l) =
        gives_some Made_in
        (called code s TheSequencer activity (g ∷ below) position (new_frame code body (Some id) (Some u) area arguments))
        (begun (g ∷ below) other body b c _
        (constructor_called code u o s heap activity position (g ∷ below) body (Some id) area arguments l))

    pub call_step : super_count code id ≡ length above →
        StepGives Made_in
        (applied code s TheSequencer activity below position (effect_of code world (record f { rest = rest }) op))
    call_step count =
        of_effect (effect_of code world (record f { rest = rest }) op)
        (called_on code u id (record f { rest = rest }) above lower is lacks count world op calls)

  -- ---- the constructor that begins with a super call has its object as an operand

  module _ (f : Frame) (below : List Frame) (b : Starts code Inner OnWay G u f) where
    holder : Holder code Inner OnWay u (record f { rest = b.front ++ SUPER b.id ∷ b.more; operands = At u ∷ f.operands })
    holder = record {
      lower = f.operands;
      lacks = subst (AllLack u) (sym b.operands) tt;
      kept = record {
        locals = b.locals;
        above = [];
        lack = tt;
        is = refl;
        enough = inr (omega arith);
        is_this = refl;
      };
      by = record {
        stack = put (Exactly (At u)) nothing;
        passes = record {
          front = b.front;
          last = SUPER b.id;
          more = b.more;
          id = b.id;
          class = b.class;
          bound = b.bound;
          way = b.way;
          is = refl;
          calls = inr refl;
          passes = b.passes;
          calm = λ e. b.calm;
        };
        shadows = shadows_put (Exactly (At u)) nothing (At u) f.operands refl (shadows_nothing f.operands);
      };
    }

    pub begins_step : StepGives Made_in
        (applied code s TheSequencer activity below position
        (effect_of code world (record f { rest = b.front ++ SUPER b.id ∷ b.more }) (THIS b.id)))
    unfolding effect_of applied with_activity
    begins_step =
        subst (λ (t : Option ℕ). StepGives Made_in
        (applied code s TheSequencer activity below position
        (given t (λ r. pushes (record f { rest = b.front ++ SUPER b.id ∷ b.more }) (At r))))) (sym b.own)
        (gives_some Made_in
        (silently (with_frame s TheSequencer activity
        (record f { rest = b.front ++ SUPER b.id ∷ b.more; operands = At u ∷ f.operands }) below))
        (record {
          heap = heap_same u o s _ heap refl refl refl refl;
          frames = Holding (record f { rest = b.front ++ SUPER b.id ∷ b.more; operands = At u ∷ f.operands }) below holder refl;
        }))
