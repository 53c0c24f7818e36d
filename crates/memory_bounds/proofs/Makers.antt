-- An object that is being made, and the frames over which it is: no frame above the one that makes it names it, and that one
-- has it under the arguments of the constructor that it calls next.
use Rattle.std.specs.Prelude.{Option, Some, None, is_some}
use Rattle.std.proofs.Common.{◌≡◌, ◌⊎◌, ℕ, List, [], ◌∷◌, ◌++◌, Bool, refl, sym, ap, subst, arith, inl, inr}
use Rattle.scj_base.specs.declared.values.Value.{Value}
use Rattle.scj_base.specs.declared.values.Value.TheVariants.{At}
use Rattle.scj_rules.specs.declared.views.Body.{Body}
use Rattle.scj_model.specs.declared.operations.Op.{Op}
use Rattle.scj_model.specs.declared.operations.Op.TheVariants.{This as THIS, If as IF, Loop as LOOP, LeaveWith as LEAVEWITH, Leave as LEAVE, Super as SUPER, Params as PARAMS}
use Rattle.scj_model.specs.Code.{Code, binding}
use Rattle.scj_model.specs.State.{Frame}
use Rattle.scj_model.specs.Effects.{Effect, Goes, Prints, Makes, Stores, StoresStatic, SetsHidden, SetsCeiling, Calls, Opens, Leaves, AsksRegistration, AsksRelease, AsksTermination, Faults, Stuck}
use Rattle.scj_model.specs.Apply.{returned}
use Rattle.scj_model.specs.Operations.{bound_class, super_count}
use Rattle.certain_faults.specs.declared.known.Known.TheVariants.{Exactly}
use Rattle.certain_faults.proofs.Stacks.{Stack, nothing, put}
use Rattle.certain_faults.proofs.Passes.{PassesTo}
use Rattle.certain_faults.proofs.Frames.{ExplainedBy, Fine, WaitsBy}
use Rattle.certain_faults.proofs.Kept.{KeepsBody}
use Rattle.memory_bounds.proofs.Above.{AllLack, Kept, Lack, UsesThis}
use Rattle.memory_bounds.proofs.Making.{AllInner, Holder, KeepsInner, Pending}
use Rattle.memory_bounds.proofs.Unnamed.{AllBare, Back, Held, More, Upper, lowest_body}

-- ---- what is asked of the operations of the arguments of a super call

unfoldable pub IsStraight : Op → Type 0
IsStraight (IF id) = ⊥
IsStraight (LOOP id) = ⊥
IsStraight (LEAVEWITH id) = ⊥
IsStraight LEAVE = ⊥
IsStraight _ = Unit {0}

pub record InnerLaws (code : Code) (Inner : Op → Type 0) : Type 0 where
  pub own : (op : Op) → Inner op → UsesThis op → ⊥
  pub straight : (op : Op) → Inner op → IsStraight op
  pub keeps : KeepsInner code Inner

-- ---- what is known of an effect

module _ (code : Code) (G : Body → Bool → Type 0) where
  -- the body of the frame that acts stays, and a value is given as it says
  pub body_stays : (body : Body) (Gives : Option Value → Type 0) →
      ((v : Option Value) → ((b : Bool) → G body b → is_some v ≡ b) → Gives v) → (e : Effect) →
      KeepsBody code G body e → More (λ f. f.body ≡ body) (λ f b. f.body ≡ body) Gives e
  body_stays body Gives h (Goes f) k = k
  body_stays body Gives h (Prints f label z) k = k
  body_stays body Gives h (Makes f class slots) k = λ r. k
  body_stays body Gives h (Stores f r slot v) k = k
  body_stays body Gives h (StoresStatic f place v) k = k
  body_stays body Gives h (SetsHidden f r vs) k = k
  body_stays body Gives h (SetsCeiling f r ceiling) k = k
  body_stays body Gives h (Calls f g) k = k
  body_stays body Gives h (Opens f g scope bytes) k = k
  body_stays body Gives h (Leaves f v) k = h v k
  body_stays body Gives h (AsksRegistration f r) k = k
  body_stays body Gives h (AsksRelease f r) k = k
  body_stays body Gives h (AsksTermination f r) k = k
  body_stays body Gives h (Faults x) k = tt
  body_stays body Gives h Stuck k = tt

  -- the frame is explained, or waits
  pub explained_stays : (P : List Op → Stack → Type 0) (e : Effect) → Fine code G P ⊥ e →
      More (λ f. ExplainedBy P f) (λ f b. WaitsBy P G f b) (λ v. ⊥) e
  explained_stays P (Goes f) x = x.is
  explained_stays P (Prints f label z) x = x.is
  explained_stays P (Makes f class slots) x = x.is
  explained_stays P (Stores f r slot v) x = x.is
  explained_stays P (StoresStatic f place v) x = x.is
  explained_stays P (SetsHidden f r vs) x = x.is
  explained_stays P (SetsCeiling f r ceiling) x = x.is
  explained_stays P (Calls f g) x = x.is.0
  explained_stays P (Opens f g scope bytes) x = x.is.0
  explained_stays P (Leaves f v) x = x.is
  explained_stays P (AsksRegistration f r) x = x.is
  explained_stays P (AsksRelease f r) x = x.is
  explained_stays P (AsksTermination f r) x = x.is
  explained_stays P (Faults x) y = tt
  explained_stays P Stuck x = tt

-- ---- the frames that make an object

module _ (code : Code) (Inner : Op → Type 0) (OnWay : ℕ → Type 0) (G : Body → Bool → Type 0) where
  -- the operations come to the reading of a form, and stand in its super call
  pub record Reading (rest : List Op) (s : Stack) : Type 0 where
    pub front : List Op
    pub more : List Op
    pub id : ℕ
    pub is : rest ≡ front ++ PARAMS id ∷ more
    pub calm : AllInner code Inner front

  module _ (u : ℕ) where
    -- a frame that holds the object waits for one that runs this body
    pub record HolderWaits (f : Frame) (body : Body) : Type 0 where
      pub lower : List Value
      pub lacks : AllLack u lower
      pub kept : Kept u (At u ∷ lower) f.this 0 f
      pub by : WaitsBy (Pending code Inner OnWay u f.this) G f body

    -- a constructor of the object that has not read the form yet
    pub record Reader (f : Frame) : Type 0 where
      pub own : f.this ≡ Some u
      pub kept : Kept u [] f.this 0 f
      pub by : ExplainedBy Reading f

    pub record ReaderWaits (f : Frame) (body : Body) : Type 0 where
      pub own : f.this ≡ Some u
      pub kept : Kept u [] f.this 0 f
      pub by : WaitsBy Reading G f body

    -- a constructor of the object that begins with a super call
    pub record Starts (f : Frame) : Type 0 where
      pub own : f.this ≡ Some u
      pub locals : AllLack u f.locals
      pub operands : f.operands ≡ []
      pub id : ℕ
      pub class : ℕ
      pub bound : bound_class (binding code id) ≡ Some class
      pub way : OnWay class
      pub front : List Op
      pub more : List Op
      pub is : f.rest ≡ THIS id ∷ (front ++ SUPER id ∷ more)
      pub passes : PassesTo code (Some (super_count code id, u)) front (put (Exactly (At u)) nothing)
      pub calm : AllInner code Inner front

    pub data Made (frames : List Frame) : Type 0 where
      Nowhere : AllBare u frames → Made frames
      Holding : (f : Frame) (below : List Frame) → Holder code Inner OnWay u f → frames ≡ f ∷ below → Made frames
      Reads : (f : Frame) (below : List Frame) → Reader f → frames ≡ f ∷ below → Made frames
      Begins : (f : Frame) (below : List Frame) → Starts f → frames ≡ f ∷ below → Made frames
      Waiting : (g : Frame) (upper : List Frame) (f : Frame) (below : List Frame) → Lack u g → AllBare u upper →
          HolderWaits f (lowest_body g.body upper) ⊎ ReaderWaits f (lowest_body g.body upper) →
          frames ≡ g ∷ (upper ++ f ∷ below) → Made frames

    -- ---- a value comes back

    -- what the body gives
    abbrev pub Given : Body → Option Value → Type 0
    Given body v = (b : Bool) → G body b → is_some v ≡ b

    over : (f : Frame) (under : List Value) (v : Value) → (v ≡ At u → ⊥) → Kept u under f.this 0 f →
        Kept u under f.this 0 (record f { operands = v ∷ f.operands })
    over f under v n k = record {
      locals = k.locals;
      above = v ∷ k.above;
      lack = (n, k.lack);
      is = ap (λ (vs : List Value). v ∷ vs) k.is;
      enough = inr (omega arith);
      is_this = k.is_this;
    }

    holder_back : (f : Frame) (below : List Frame) (body : Body) → HolderWaits f body → (v : Option Value) →
        (v ≡ Some (At u) → ⊥) → Given body v → Made (returned v (f ∷ below))
    unfolding returned
    holder_back f below body h None n g =
        Holding f below (record {
          lower = h.lower;
          lacks = h.lacks;
          kept = h.kept;
          by = record { stack = h.by.stack; passes = h.by.passes; shadows = h.by.returns None g };
        }) refl
    holder_back f below body h (Some v) n g =
        Holding (record f { operands = v ∷ f.operands }) below (record {
          lower = h.lower;
          lacks = h.lacks;
          kept = over f (At u ∷ h.lower) v (λ e. n (ap (λ x. Some x) e)) h.kept;
          by = record { stack = h.by.stack; passes = h.by.passes; shadows = h.by.returns (Some v) g };
        }) refl

    reader_back : (f : Frame) (below : List Frame) (body : Body) → ReaderWaits f body → (v : Option Value) →
        (v ≡ Some (At u) → ⊥) → Given body v → Made (returned v (f ∷ below))
    unfolding returned
    reader_back f below body h None n g =
        Reads f below (record {
          own = h.own;
          kept = h.kept;
          by = record { stack = h.by.stack; passes = h.by.passes; shadows = h.by.returns None g };
        }) refl
    reader_back f below body h (Some v) n g =
        Reads (record f { operands = v ∷ f.operands }) below (record {
          own = h.own;
          kept = over f [] v (λ e. n (ap (λ x. Some x) e)) h.kept;
          by = record { stack = h.by.stack; passes = h.by.passes; shadows = h.by.returns (Some v) g };
        }) refl

    -- frames over the one that makes it
    pub of_held : (body : Body) (f : Frame) (below frames : List Frame) →
        HolderWaits f body ⊎ ReaderWaits f body → Held u (Given body) body (f ∷ below) frames → Made frames
    of_held body f below frames w (Upper g upper l a same e) =
        Waiting g upper f below l a (waits w) e
      where
        waits : HolderWaits f body ⊎ ReaderWaits f body →
            HolderWaits f (lowest_body g.body upper) ⊎ ReaderWaits f (lowest_body g.body upper)
        waits (inl h) = inl (subst (HolderWaits f) (sym same) h)
        waits (inr h) = inr (subst (ReaderWaits f) (sym same) h)
    of_held body f below frames w (Back v n g e) = subst Made (sym e) (by w)
      where
        by : HolderWaits f body ⊎ ReaderWaits f body → Made (returned v (f ∷ below))
        by (inl h) = holder_back f below body h v n g
        by (inr h) = reader_back f below body h v n g
