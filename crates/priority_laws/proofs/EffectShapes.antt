-- The effects to which the small steps of operations lead have their form.
use Rattle.std.specs.Prelude.{is_some, codes}
use Rattle.scj_rules.specs.declared.views.Body.TheVariants.{Written, Empty}
use Rattle.scj_rules.specs.Bodies.{body_named, constructor_body, is_synchronized_body}
use Rattle.accepted_laws.proofs.Tools.{some_inj}
use Rattle.priority_laws.specs.Premises.{is_synchronized}
use Rattle.scj_model.specs.Code.{Code}
use Rattle.std.proofs.Common.{ap, subst, ◌≡◌, ◌⊎◌, ℕ, Bool, true, false, List, [], Option, Some, None, refl, if◌then◌else◌}
use Rattle.std.specs.Prelude.{ℤ}
use Rattle.scj_base.specs.declared.faults.RunFault.{RunFault}
use Rattle.scj_base.specs.declared.values.Value.{Value}
use Rattle.scj_rules.specs.declared.views.Body.{Body}
use Rattle.scj_model.specs.declared.operations.Op.{Op}
use Rattle.scj_model.specs.State.{Object, Frame}
use Rattle.scj_model.specs.Effects.{monitor_of, Effect, Goes, Prints, Makes, Stores, StoresStatic, SetsCeiling, Calls, Opens, Leaves, AsksRegistration, AsksRelease, AsksTermination, Faults, Stuck, new_frame, pushes, given, pop, pop_all, as_int, as_object, as_reference, branch}
use Rattle.scj_model.specs.Operations.{constructs}
use Rattle.priority_laws.proofs.ReleaseMoves.{StandsAs}
use Rattle.priority_laws.proofs.Shapes.{CallsRightly, IsNew, MakesRightly, SparesPriority, Scene, Formed}
use Rattle.priority_laws.specs.Handlers.{IsPriority}
use Rattle.priority_laws.proofs.OperationCases.{stands_same, stands_then, on_given, on_if, on_pop, on_pop_all, on_int, on_reference, on_object, on_branch}

-- ---- whose monitor a call enters

module _ (code : Code) (objects : ℕ → Option Object) (body : Body) (called_at : Option ℕ) (area : ℕ)
    (arguments : List Value) where
  entered : (this : Option ℕ) (r : ℕ) → monitor_of code (new_frame code body called_at this area arguments) ≡ Some r →
      (this ≡ Some r) × (is_synchronized code body ≡ true)
  unfolding monitor_of new_frame
  entered this r e = go body e
    where
      by : (b : Bool) → (if b then this else None) ≡ Some r → (this ≡ Some r) × (b ≡ true)
      by true k = (k, refl)
      by false k = absurd (cc (k))

      go : (body : Body) →
          (elim body as (λ z. Option ℕ) [
            | Written node ↦ if is_synchronized_body code.program node then this else None
            | Empty ↦ None
          ]) ≡ Some r → (this ≡ Some r) × (is_synchronized code body ≡ true)
      go (Written node) k = by (is_synchronized_body code.program node) k
      go Empty k = absurd (cc (k))

  -- on an object that is there, on none, and of a constructor
  pub calls_there : (r : ℕ) (o : Object) → objects r ≡ Some o →
      CallsRightly code objects (new_frame code body called_at (Some r) area arguments)
  calls_there r o there =
      record {
        is = λ c q e.
            let same : r ≡ q = some_inj r q (entered (Some r) q e).0 in
            subst (λ n. is_some (objects n) ≡ true) same (ap (λ (x : Option Object). is_some x) there);
      }

  pub calls_on_none : CallsRightly code objects (new_frame code body called_at None area arguments)
  calls_on_none = record { is = λ c q e. absurd (cc ((entered None q e).0)) }

pub calls_constructor : (code : Code) (objects : ℕ → Option Object) (class : ℕ) (body : Body) (called_at : Option ℕ)
    (r area : ℕ) (arguments : List Value) → constructor_body code.program class ≡ Some body →
    CallsRightly code objects (new_frame code body called_at (Some r) area arguments)
calls_constructor code objects class body called_at r area arguments e =
    record {
      is = λ c q f. absurd
          (cc (c.is class body e, (entered code objects body called_at area arguments (Some r) q f).1));
    }

module _ (m : Scene) where
  pub shaped_stuck : Formed m Stuck
  shaped_stuck = record { is = tt }

  pub shaped_fault : (x : RunFault) → Formed m (Faults x)
  shaped_fault x = record { is = tt }

  pub shaped_given : {A : Type 0} (o : Option A) (next : A → Effect) → ((a : A) → Formed m (next a)) →
      Formed m (given o next)
  shaped_given o next h = on_given (Formed m) shaped_stuck shaped_fault o next (λ a e. h a)

  pub shaped_if : (b : Bool) (x y : Effect) → Formed m x → Formed m y → Formed m (if b then x else y)
  shaped_if b x y h k = on_if (Formed m) shaped_stuck shaped_fault b x y (λ e. h) (λ e. k)

  pub shaped_given_is : {A : Type 0} (o : Option A) (next : A → Effect) → ((a : A) → o ≡ Some a → Formed m (next a)) →
      Formed m (given o next)
  shaped_given_is o next h = on_given (Formed m) shaped_stuck shaped_fault o next h

  pub shaped_if_is : (b : Bool) (x y : Effect) → (b ≡ true → Formed m x) → (b ≡ false → Formed m y) →
      Formed m (if b then x else y)
  shaped_if_is b x y h k = on_if (Formed m) shaped_stuck shaped_fault b x y h k

  pub shaped_pop : (g : Frame) → StandsAs m.frame g → (next : Value → Frame → Effect) →
      ((v : Value) (h : Frame) → StandsAs m.frame h → Formed m (next v h)) → Formed m (pop g next)
  shaped_pop g s next h =
      on_pop (Formed m) shaped_stuck shaped_fault g next (λ v k t. h v k (stands_then m.frame g k s t))

  pub shaped_pop_all : (count : ℕ) (g : Frame) → StandsAs m.frame g → (next : List Value → Frame → Effect) →
      ((vs : List Value) (h : Frame) → StandsAs m.frame h → Formed m (next vs h)) → Formed m (pop_all count g next)
  shaped_pop_all count g s next h =
      on_pop_all (Formed m) shaped_stuck shaped_fault count g next (λ vs k t. h vs k (stands_then m.frame g k s t))

  pub shaped_int : (v : Value) (next : ℤ → Effect) → ((z : ℤ) → Formed m (next z)) → Formed m (as_int v next)
  shaped_int v next h = on_int (Formed m) shaped_stuck shaped_fault v next h

  pub shaped_object : (v : Value) (next : ℕ → Effect) → ((r : ℕ) → Formed m (next r)) → Formed m (as_object v next)
  shaped_object v next h = on_object (Formed m) shaped_stuck shaped_fault v next h

  pub shaped_reference : (v : Value) (next : ℕ → Effect) → ((r : ℕ) → Formed m (next r)) →
      Formed m (as_reference v next)
  shaped_reference v next h = on_reference (Formed m) shaped_stuck shaped_fault v next h

  pub shaped_branch : (op : Op) (next : Bool → Frame → Effect) →
      ((b : Bool) (h : Frame) → StandsAs m.frame h → Formed m (next b h)) → Formed m (branch m.code op m.frame next)
  shaped_branch op next h = on_branch (Formed m) shaped_stuck shaped_fault m.code op m.frame next h

  pub shaped_pushes : (g : Frame) → StandsAs m.frame g → (v : Value) → Formed m (pushes g v)
  shaped_pushes g s v = record { is = record { body = s.body; this = s.this; saved = s.saved; opened = s.opened } }

  pub shaped_goes : (g : Frame) → StandsAs m.frame g → Formed m (Goes g)
  shaped_goes g s = record { is = s }

  pub shaped_new : (body : Body) (called_at this : Option ℕ) (area : ℕ) (arguments : List Value) →
      IsNew (new_frame m.code body called_at this area arguments)
  unfolding new_frame
  shaped_new body called_at this area arguments = record { saved = refl; opened = refl }

  pub shaped_calls : (g : Frame) → StandsAs m.frame g → (body : Body) (called_at this : Option ℕ) (area : ℕ)
      (arguments : List Value) →
      CallsRightly m.code m.world.object_at (new_frame m.code body called_at this area arguments) →
      Formed m (Calls g (new_frame m.code body called_at this area arguments))
  shaped_calls g s body called_at this area arguments c =
      record { is = ((s, shaped_new body called_at this area arguments), c) }

  pub shaped_opens : (g : Frame) → StandsAs m.frame g → (body : Body) (called_at : Option ℕ) (r : ℕ)
      (area scope bytes : ℕ) (o : Object) → m.world.object_at r ≡ Some o →
      body_named m.code.program o.class (codes "run") ≡ Some body →
      Formed m (Opens g (new_frame m.code body called_at (Some r) area []) scope bytes)
  unfolding new_frame
  shaped_opens g s body called_at r area scope bytes o there is_run =
      record {
        is = (
          (s, shaped_new body called_at (Some r) area []),
          record { runnable = r; object = o; is_there = there; is_this = refl; is_run = is_run },
        );
      }

  pub shaped_made : (g : Frame) → StandsAs m.frame g → (class : ℕ) (slots : List Value) →
      MakesRightly m.code class slots → Formed m (Makes g class slots)
  shaped_made g s class slots m = record { is = (s, m) }

  pub shaped_locals : (g : Frame) → StandsAs m.frame g → (locals : List Value) →
      Formed m (Goes (record g { locals = locals }))
  shaped_locals g s locals = record { is = record { body = s.body; this = s.this; saved = s.saved; opened = s.opened } }

  pub shaped_prints : (g : Frame) → StandsAs m.frame g → (label : ℕ) (z : ℤ) → Formed m (Prints g label z)
  shaped_prints g s label z = record { is = s }

  pub shaped_stores : (g : Frame) → StandsAs m.frame g → (r slot : ℕ) (v : Value) →
      (m.elements ≡ true) ⊎ SparesPriority m.code m.world.object_at r slot → Formed m (Stores g r slot v)
  shaped_stores g s r slot v x = record { is = (s, x) }

  pub shaped_stores_static : (g : Frame) → StandsAs m.frame g → (index : ℕ) (v : Value) →
      Formed m (StoresStatic g index v)
  shaped_stores_static g s index v = record { is = s }

  pub shaped_ceiling : (g : Frame) → StandsAs m.frame g → (r ceiling : ℕ) → IsPriority ceiling →
      Formed m (SetsCeiling g r ceiling)
  shaped_ceiling g s r ceiling x = record { is = (s, x) }

  pub shaped_leaves : (g : Frame) → StandsAs m.frame g → (v : Option Value) → Formed m (Leaves g v)
  shaped_leaves g s v = record { is = s }

  pub shaped_registration : (g : Frame) → StandsAs m.frame g → (r : ℕ) → Formed m (AsksRegistration g r)
  shaped_registration g s r = record { is = s }

  pub shaped_release : (g : Frame) → StandsAs m.frame g → (r : ℕ) → Formed m (AsksRelease g r)
  shaped_release g s r = record { is = s }

  pub shaped_termination : (g : Frame) → StandsAs m.frame g → (r : ℕ) → Formed m (AsksTermination g r)
  shaped_termination g s r = record { is = s }

  pub here : StandsAs m.frame m.frame
  here = stands_same m.frame

  pub shaped_constructs : (id class count : ℕ) (keeps : Bool) →
      Formed m (constructs m.code m.frame id class count keeps)
  shaped_constructs id class count keeps =
      shaped_given_is (constructor_body m.code.program class) _
      (λ body is_body. shaped_pop_all count m.frame here _
      (λ arguments g s. shaped_pop g s _ (λ object h t. shaped_reference object _ (λ r.
      kept g h s t keeps (new_frame m.code body (Some id) (Some r) h.area arguments)
      (shaped_new body (Some id) (Some r) h.area arguments)
      (calls_constructor m.code m.world.object_at class body (Some id) r h.area arguments is_body)))))
    where
      kept : (g h : Frame) → StandsAs m.frame g → StandsAs m.frame h → (b : Bool) (k : Frame) → IsNew k →
          CallsRightly m.code m.world.object_at k →
          Formed m (Calls (if b then g else h) k)
      kept g h s t true k n c = record { is = ((s, n), c) }
      kept g h s t false k n c = record { is = ((t, n), c) }

  pub shaped_elements : (o : Option ℕ) (x : Effect) (next : ℕ → Effect) → Formed m x → ((k : ℕ) → Formed m (next k)) →
      Formed m (elim o as (λ z. Effect) [ None ↦ x | Some k ↦ next k ])
  shaped_elements None x next h m = h
  shaped_elements (Some k) x next h m = m k
