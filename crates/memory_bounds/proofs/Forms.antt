-- What is asked of a program so that the rows of handlers tell the storage of their forms; and that a constructor comes to its
-- form.
use Rattle.std.specs.Prelude.{Some, None, pos, replicate, slice_get}
use Rattle.std.proofs.Common.{◌≡◌, ◌≤◌, ℕ, Bool, true, inl, List, [], ◌∷◌, ◌++◌, length, ◌-◌, refl, sym, ◌∙◌, subst}
use Rattle.scj_base.specs.declared.values.Value.{Value}
use Rattle.scj_base.specs.declared.values.Value.TheVariants.{At, Int, Null}
use Rattle.scj_builtins.specs.Framework.{mission_sequencer}
use Rattle.scj_rules.specs.declared.views.Body.{Body}
use Rattle.scj_rules.specs.Bodies.{constructor_body}
use Rattle.scj_rules.specs.Classes.{hidden_fields, is_sub}
use Rattle.scj_rules.specs.Layout.{element_kind}
use Rattle.scj_rules.specs.Types.{has_form}
use Rattle.scj_model.specs.declared.operations.Op.{Op}
use Rattle.scj_model.specs.declared.operations.Op.TheVariants.{This as THIS, Params as PARAMS, Super as SUPER}
use Rattle.scj_model.specs.Code.{Code, binding}
use Rattle.scj_model.specs.State.{Frame}
use Rattle.scj_model.specs.Effects.{locals_of, new_frame}
use Rattle.scj_model.specs.Ops.{body_ops}
use Rattle.scj_model.specs.Operations.{bound_class, super_count}
use Rattle.scope_flow.specs.Needs.{IsSuperCall}
use Rattle.scope_flow.specs.Signatures.{Signature, IsBody, Runs}
use Rattle.certain_faults.specs.declared.known.Known.TheVariants.{Exactly}
use Rattle.certain_faults.proofs.Stacks.{nothing, put}
use Rattle.certain_faults.proofs.Passes.{PassesTo, asked}
use Rattle.certain_faults.proofs.Meets.{Operands}
use Rattle.certain_faults.proofs.Frames.{shadows_nothing}
use Rattle.memory_bounds.specs.Theorem.{Storage}
use Rattle.memory_bounds.proofs.Above.{AllLack, copies, joined}
use Rattle.memory_bounds.proofs.Constructing.{IsNew}
use Rattle.memory_bounds.proofs.Making.{AllInner}
use Rattle.memory_bounds.proofs.Makers.{Begins, InnerLaws, Made, Reads}

-- a body of a constructor begins with a super call of a class on the way, or with a form
pub data ComesToForm (code : Code) (Inner : Op → Type 0) (OnWay : ℕ → Type 0) (body : Body) : Type 0 where
  By_super : (id : ℕ) (front more : List Op) (superclass : ℕ) →
      body_ops code body ≡ THIS id ∷ (front ++ SUPER id ∷ more) → AllInner code Inner front →
      ((u : ℕ) → PassesTo code (Some (super_count code id, u)) front (put (Exactly (At u)) nothing)) →
      bound_class (binding code id) ≡ Some superclass → OnWay superclass → ComesToForm code Inner OnWay body
  By_form : (id : ℕ) (front more : List Op) → body_ops code body ≡ front ++ PARAMS id ∷ more →
      AllInner code Inner front → ComesToForm code Inner OnWay body

-- the last operand of a form is this number, and the form is a handler's
pub record FormSays (code : Code) (id n : ℕ) : Type 0 where
  pub last : (operands : List Value) → Operands (asked code (PARAMS id)) operands →
      slice_get operands 0 ≡ Some (Int (pos n))
  pub kept : bound_class (binding code id) ≡ Some mission_sequencer → ⊥

pub record FormFacts (code : Code) (storage : Storage) (Inner : Op → Type 0) (OnWay : ℕ → Type 0) : Type 0 where
  pub laws : InnerLaws code Inner
  pub starts : (class n : ℕ) → storage class ≡ Some n → OnWay class
  pub constructors : (class : ℕ) (body : Body) (sig : Signature) → OnWay class →
      constructor_body code.program class ≡ Some body → Runs code.program body class sig →
      ComesToForm code Inner OnWay body
  pub form : (b c : ℕ) (sig : Signature) → IsBody code.program b c sig → (id : ℕ) → IsSuperCall code.program b id →
      (superclass : ℕ) → bound_class (binding code id) ≡ Some superclass → has_form superclass ≡ true → (class n : ℕ) →
      is_sub code.program.classes class c ≡ true → storage class ≡ Some n →
      FormSays code id n
  pub hides : (class n : ℕ) → storage class ≡ Some n → 2 ≤ hidden_fields code.program.classes class
  pub no_array : (class n : ℕ) → storage class ≡ Some n → element_kind code.program class ≡ None

-- a new frame of such a body makes the object of which it is a constructor
module _ (code : Code) (Inner : Op → Type 0) (OnWay : ℕ → Type 0) (G : Body → Bool → Type 0) (u : ℕ) (body : Body)
    (f : Frame) (new : IsNew code u body f) where
  locals_lack : AllLack u f.locals
  unfolding new_frame
  locals_lack =
      subst (AllLack u) (sym new.locals_are)
      (joined u new.arguments (replicate (locals_of code body - length new.arguments) Null) new.lacks
      (copies u (locals_of code body - length new.arguments) Null (λ q. cc (q))))

  rest_is : f.rest ≡ body_ops code body
  unfolding new_frame
  rest_is = new.rest_is

  pub begins_made : ComesToForm code Inner OnWay body → (below : List Frame) → Made code Inner OnWay G u (f ∷ below)
  begins_made (By_super id front more superclass is calm passes bound way) below =
      Begins f below (record {
        own = new.this_is;
        locals = locals_lack;
        operands = new.operands_are;
        id = id;
        class = superclass;
        bound = bound;
        way = way;
        front = front;
        more = more;
        is = rest_is ∙ is;
        passes = passes u;
        calm = calm;
      }) refl
  begins_made (By_form id front more is calm) below =
      Reads f below (record {
        own = new.this_is;
        kept = record {
          locals = locals_lack;
          above = [];
          lack = tt;
          is = new.operands_are;
          enough = inl refl;
          is_this = refl;
        };
        by = record {
          stack = nothing;
          passes = record { front = front; more = more; id = id; is = rest_is ∙ is; calm = calm };
          shadows = shadows_nothing f.operands;
        };
      }) refl
