-- A constructor is called on an object that lies under its arguments: the new frame has it as `this`, and the arguments don't
-- name it.
use Rattle.std.specs.Prelude.{Option, Some, None, if◌then◌else◌, nat_lt}
use Rattle.std.proofs.Common.{◌≡◌, ◌⊎◌, ℕ, List, [], ◌∷◌, ◌++◌, length, Bool, true, false, refl, sym, ◌∙◌, ap, subst, inl, inr}
use Rattle.scj_base.specs.declared.faults.RunFault.{RunFault}
use Rattle.scj_base.specs.declared.positions.Position.{Position}
use Rattle.scj_base.specs.declared.values.Value.{Value}
use Rattle.scj_base.specs.declared.values.Value.TheVariants.{At}
use Rattle.scj_rules.specs.declared.views.Body.{Body}
use Rattle.scj_rules.specs.Bodies.{constructor_body}
use Rattle.scj_model.specs.declared.operations.Op.{Op}
use Rattle.scj_model.specs.declared.operations.Op.TheVariants.{Construct as CONSTRUCT, Super as SUPER}
use Rattle.scj_model.specs.Code.{Code, binding, part}
use Rattle.scj_model.specs.State.{Object, Frame, Activity, TheSequencer, State, with_activity}
use Rattle.scj_model.specs.Steps.{fault_in}
use Rattle.scj_model.specs.Effects.{Effect, Calls, Stuck, as_reference, given, new_frame, pop, pop_from}
use Rattle.scj_model.specs.Apply.{called, ceiling_entered, is_full}
use Rattle.scj_model.specs.Operations.{Environment, argument_count, bound_class, constructs, effect_of, super_count}
use Rattle.priority_laws.proofs.StepCases.{step_if, step_option}
use Rattle.memory_bounds.proofs.Above.{AllLack}
use Rattle.memory_bounds.proofs.Unnamed.{Heap, heap_same}

module _ (code : Code) (u : ℕ) where
  -- the constructor of the class that is bound at the node is called on the object, if anything happens
  pub data OnObject (id : ℕ) : Effect → Type 0 where
    Nothing : OnObject id Stuck
    A_call : (class : ℕ) (f : Frame) (body : Body) (area : ℕ) (arguments : List Value) →
        bound_class (binding code id) ≡ Some class → constructor_body code.program class ≡ Some body →
        AllLack u arguments →
        OnObject id (Calls f (new_frame code body (Some id) (Some u) area arguments))

  module _ (id : ℕ) where
    abbrev C : Effect → Type 0
    C e = OnObject id e

    on_given : {A : Type 0} (o : Option A) (next : A → Effect) → ((a : A) → o ≡ Some a → C (next a)) → C (given o next)
    on_given None next h = Nothing
    on_given (Some a) next h = h a refl

    on_pop : (f : Frame) (v : Value) (below : List Value) (next : Value → Frame → Effect) → f.operands ≡ v ∷ below →
        C (next v (record f { operands = below })) → C (pop f next)
    on_pop f v below next e h =
        subst (λ (vs : List Value). C (elim vs as (λ z. Effect)
        [ [] ↦ Stuck | value ∷ rest ↦ next value (record f { operands = rest }) ])) (sym e) h

    on_all : (above : List Value) (f : Frame) (taken lower : List Value) (next : List Value → Frame → Effect) →
        f.operands ≡ above ++ At u ∷ lower → AllLack u above → AllLack u taken →
        ((arguments : List Value) (g : Frame) → AllLack u arguments → g.operands ≡ At u ∷ lower → C (next arguments g)) →
        C (pop_from (length above) f taken next)
    on_all [] f taken lower next e a t h = h taken f t e
    on_all (v ∷ above) f taken lower next e a t h =
        on_pop f v (above ++ At u ∷ lower) (λ value g. pop_from (length above) g (value ∷ taken) next) e
        (on_all above (record f { operands = above ++ At u ∷ lower }) (v ∷ taken) lower next refl a.1 (a.0, t) h)

    module _ (f : Frame) (above lower : List Value) (is : f.operands ≡ above ++ At u ∷ lower) (lacks : AllLack u above)
        (count : super_count code id ≡ length above) where
      constructed : (class n : ℕ) (keeps : Bool) → n ≡ length above → bound_class (binding code id) ≡ Some class →
          C (constructs code f id class n keeps)
      constructed class n keeps e bound =
          on_given (constructor_body code.program class) _ (λ body k.
          subst (λ m. C (pop_from m f [] (λ arguments f. pop f (λ object g. as_reference object (λ r.
          Calls (if keeps then f else g) (new_frame code body (Some id) (Some r) f.area arguments)))))) (sym e)
          (on_all above f [] lower _ is lacks tt (λ arguments g l q.
          on_pop g (At u) lower (λ object h. as_reference object (λ r.
          Calls (if keeps then g else h) (new_frame code body (Some id) (Some r) g.area arguments))) q
          (of keeps body k g (record g { operands = lower }) arguments l))))
        where
          of : (keeps : Bool) (body : Body) → constructor_body code.program class ≡ Some body → (g h : Frame)
              (arguments : List Value) → AllLack u arguments →
              C (Calls (if keeps then g else h) (new_frame code body (Some id) (Some u) g.area arguments))
          of true body k g h arguments l = A_call class g body g.area arguments bound k l
          of false body k g h arguments l = A_call class h body g.area arguments bound k l

      counted : (n : ℕ) → part code argument_count id ≡ Some n → n ≡ length above
      counted n e =
          sym (ap (λ (o : Option ℕ). elim o as (λ z. ℕ) [ None ↦ 0 | Some c ↦ c ]) e) ∙ count

      pub called_on : (world : Environment) (op : Op) → (op ≡ CONSTRUCT id) ⊎ (op ≡ SUPER id) →
          C (effect_of code world f op)
      unfolding effect_of
      called_on world op (inl e) =
          subst (λ x. C (effect_of code world f x)) (sym e)
          (on_given (bound_class (binding code id)) _ (λ class k. on_given (part code argument_count id) _ (λ n q.
          constructed class n true (counted n q) k)))
      called_on world op (inr e) =
          subst (λ x. C (effect_of code world f x)) (sym e)
          (on_given (bound_class (binding code id)) _ (λ class k. constructed class (super_count code id) false count k))

-- ---- the state after the call

-- a new frame has this body and this object, and has done nothing yet
pub record IsNew (code : Code) (u : ℕ) (body : Body) (f : Frame) : Type 0 where
  pub at : Option ℕ
  pub area : ℕ
  pub arguments : List Value
  pub lacks : AllLack u arguments
  pub body_is : f.body ≡ body
  pub this_is : f.this ≡ Some u
  pub locals_are : f.locals ≡ (new_frame code body at (Some u) area arguments).locals
  pub operands_are : f.operands ≡ []
  pub rest_is : f.rest ≡ (new_frame code body at (Some u) area arguments).rest

-- the new frame lies over the others, or a fault has left the frames as they were
pub data HasCalled (code : Code) (u : ℕ) (body : Body) (before tail after : List Frame) : Type 0 where
  Begun : (f : Frame) → IsNew code u body f → after ≡ f ∷ tail → HasCalled code u body before tail after
  Faulted : after ≡ before → HasCalled code u body before tail after

pub record CalledOn (code : Code) (u : ℕ) (o : Object) (body : Body) (before tail : List Frame) (s : State) : Type 0 where
  pub heap : Heap u o s
  pub frames : HasCalled code u body before tail s.activity.frames

module _ (code : Code) (u : ℕ) (o : Object) (s : State) (heap : Heap u o s) (activity : Activity) (position : Position)
    (tail : List Frame) (body : Body) (at : Option ℕ) (area : ℕ) (arguments : List Value)
    (lacks : AllLack u arguments) where
  abbrev g : Frame
  g = new_frame code body at (Some u) area arguments

  abbrev After : State → Type 0
  After t = CalledOn code u o body s.activity.frames tail t

  faults : (fault : RunFault) → After (fault_in s TheSequencer activity position fault).state
  unfolding fault_in
  faults fault = record {
    heap = record {
      statics = heap.statics;
      objects = heap.objects;
      object = heap.object;
      outcome = λ e. cc (e);
      rows = heap.rows;
    };
    frames = Faulted refl;
  }

  begun : (f : Frame) → IsNew code u body f → (a : Activity) → a.frames ≡ f ∷ tail →
      After (with_activity s TheSequencer a)
  unfolding with_activity
  begun f n a e = record {
    heap = heap_same u o s (record s { activity = a }) heap refl refl refl refl;
    frames = Begun f n e;
  }

  pub constructor_called : After
      (called code s TheSequencer activity tail position (new_frame code body at (Some u) area arguments)).state
  unfolding called new_frame
  constructor_called =
      step_if After (is_full tail) _ _ (λ e. faults _)
      (λ e. step_option After (ceiling_entered code s (new_frame code body at (Some u) area arguments)) _ _
      (λ e. begun (new_frame code body at (Some u) area arguments) now (record activity {
        frames = new_frame code body at (Some u) area arguments ∷ tail;
      }) refl)
      (λ ceiling e. step_if After (nat_lt ceiling activity.priority) _ _ (λ e. faults _)
      (λ e. begun (record g { saved = Some activity.priority }) saved (record activity {
        frames = record g { saved = Some activity.priority } ∷ tail;
        priority = ceiling;
      }) refl)))
    where
      now : IsNew code u body (new_frame code body at (Some u) area arguments)
      now = record {
        at = at;
        area = area;
        arguments = arguments;
        lacks = lacks;
        body_is = refl;
        this_is = refl;
        locals_are = refl;
        operands_are = refl;
        rest_is = refl;
      }

      saved : IsNew code u body (record g { saved = Some activity.priority })
      saved = record {
        at = at;
        area = area;
        arguments = arguments;
        lacks = lacks;
        body_is = refl;
        this_is = refl;
        locals_are = refl;
        operands_are = refl;
        rest_is = refl;
      }
