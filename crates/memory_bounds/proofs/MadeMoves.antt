-- The next operation of the sequencer while an object is being made: it is being made afterwards, or its form is read now.
use Rattle.std.specs.Prelude.{Some}
use Rattle.std.proofs.Common.{◌≡◌, ◌⊎◌, ℕ, Bool, List, [], ◌∷◌, ◌++◌, refl, sym, ◌∙◌, ap, subst}
use Rattle.scj_base.specs.declared.positions.Position.{Position}
use Rattle.scj_rules.specs.declared.views.Body.{Body}
use Rattle.scj_model.specs.declared.operations.Op.{Op}
use Rattle.scj_model.specs.declared.operations.Op.TheVariants.{This as THIS, Construct as CONSTRUCT, Params as PARAMS, Super as SUPER}
use Rattle.scj_model.specs.Code.{Code, binding}
use Rattle.scj_model.specs.State.{Object, Frame, Activity, TheSequencer, State}
use Rattle.scj_model.specs.Apply.{applied}
use Rattle.scj_model.specs.Operations.{Environment, bound_class, effect_of}
use Rattle.scj_model.proofs.Reaching.{Gives as StepGives}
use Rattle.certain_faults.proofs.RunsOfNodes.{ClassesAskNothing}
use Rattle.certain_faults.proofs.Frames.{GivesAsBound}
use Rattle.certain_faults.proofs.Kept.{KeepsBody}
use Rattle.memory_bounds.proofs.Above.{AllLack, Lack}
use Rattle.memory_bounds.proofs.Making.{AllInner, Calls_on, Goes_on, Holder, Next, next_of}
use Rattle.memory_bounds.proofs.Makers.{Begins, HolderWaits, Holding, InnerLaws, Made, Nowhere, Reader, ReaderWaits, Reading, Reads, Starts, Waiting}
use Rattle.memory_bounds.proofs.MakerSteps.{CanBegin, Made_in, begins_step, call_step, free_step, holder_step, reader_step, upper_step}
use Rattle.memory_bounds.proofs.Unnamed.{AllBare, Heap, lowest_body}

-- the heads and the tails of lists that are one
pub record SameLists {A : Type 0} (x y : A) (xs ys : List A) : Type 0 where
  pub head : x ≡ y
  pub tail : xs ≡ ys

pub split : {A : Type 0} (x y : A) (xs ys : List A) → (x ∷ xs) ≡ (y ∷ ys) → SameLists x y xs ys
split x y xs ys e = record { head = cc (e); tail = cc (e) }

module _ (code : Code) (Inner : Op → Type 0) (OnWay : ℕ → Type 0) (laws : InnerLaws code Inner)
    (G : Body → Bool → Type 0) (bare : ClassesAskNothing code) (u : ℕ) (o : Object) (s : State) (heap : Heap u o s)
    (activity : Activity) (position : Position) (world : Environment)
    (objects : (r : ℕ) (x : Object) → world.object_at r ≡ Some x → AllLack u x.slots)
    (statics : AllLack u world.statics) (f : Frame) (below : List Frame) (acts : s.activity.frames ≡ f ∷ below)
    (op : Op) (rest : List Op) (ops : f.rest ≡ op ∷ rest)
    (stays : KeepsBody code G f.body (effect_of code world (record f { rest = rest }) op))
    (gives : GivesAsBound code G world (record f { rest = rest }) op)
    (begin : (id class : ℕ) → (op ≡ CONSTRUCT id) ⊎ (op ≡ SUPER id) → bound_class (binding code id) ≡ Some class →
    OnWay class → CanBegin code Inner OnWay laws G bare u o s heap activity position world objects statics class) where
  -- afterwards
  abbrev pub Still : Type 0
  Still =
      StepGives (Made_in code Inner OnWay laws G bare u o s heap activity position world objects statics)
      (applied code s TheSequencer activity below position (effect_of code world (record f { rest = rest }) op))

  pub data MovesOn : Type 0 where
    Is_made : Still → MovesOn
    Is_read : (id : ℕ) → op ≡ PARAMS id → f.this ≡ Some u → MovesOn

  moved : Lack u f → Lack u (record f { rest = rest })
  moved l = record { locals = l.locals; operands = l.operands; this = l.this }

  by_holder : (still : Made code Inner OnWay G u s.activity.frames) (h : Holder code Inner OnWay u f) →
      Next code Inner OnWay u f h.lower op rest h.by.stack → MovesOn
  by_holder still h (Goes_on k p calm) =
      Is_made
      (holder_step code Inner OnWay laws G bare u o s heap activity position world objects statics f op rest below acts gives
      h p calm k)
  by_holder still h (Calls_on id class above calls bound way lacks is count) =
      Is_made
      (call_step code Inner OnWay laws G bare u o s heap activity position world objects statics f rest below id class op calls
      bound (begin id class calls bound way) still above h.lower is lacks count)

  by_reader : (r : Reader code Inner OnWay G u f) → MovesOn
  by_reader r = of p.front refl
    where
      p : Reading code Inner OnWay G f.rest r.by.stack
      p = r.by.passes

      of : (front : List Op) → p.front ≡ front → MovesOn
      of [] e =
          Is_read p.id
          (split op (PARAMS p.id) rest p.more
          (sym ops ∙ (p.is ∙ ap (λ (xs : List Op). xs ++ PARAMS p.id ∷ p.more) e))).head r.own
      of (x ∷ front) e =
          Is_made
          (reader_step code Inner OnWay laws G bare u o s heap activity position world objects statics f op rest below acts gives
          r front p.more p.id lists.tail (subst Inner (sym lists.head) calm.0) calm.1)
        where
          lists : SameLists op x rest (front ++ PARAMS p.id ∷ p.more)
          lists =
              split op x rest (front ++ PARAMS p.id ∷ p.more)
              (sym ops ∙ (p.is ∙ ap (λ (xs : List Op). xs ++ PARAMS p.id ∷ p.more) e))

          calm : AllInner code Inner (x ∷ front)
          calm = subst (AllInner code Inner) e p.calm

  by_start : Starts code Inner OnWay G u f → MovesOn
  by_start b =
      Is_made (subst (λ (x : Op). StepGives (Made_in code Inner OnWay laws G bare u o s heap activity position world objects statics)
      (applied code s TheSequencer activity below position (effect_of code world (record f { rest = rest }) x))) (sym lists.head)
      (subst (λ (xs : List Op). StepGives
      (Made_in code Inner OnWay laws G bare u o s heap activity position world objects statics)
      (applied code s TheSequencer activity below position (effect_of code world (record f { rest = xs }) (THIS b.id))))
      (sym lists.tail)
      (begins_step code Inner OnWay laws G bare u o s heap activity position world objects statics f below b)))
    where
      lists : SameLists op (THIS b.id) rest (b.front ++ SUPER b.id ∷ b.more)
      lists = split op (THIS b.id) rest (b.front ++ SUPER b.id ∷ b.more) (sym ops ∙ b.is)

  by_upper : (upper : List Frame) (g : Frame) (tail : List Frame) → Lack u f → AllBare u upper →
      HolderWaits code Inner OnWay G u g (lowest_body f.body upper)
      ⊎ ReaderWaits code Inner OnWay G u g (lowest_body f.body upper) → below ≡ upper ++ g ∷ tail → MovesOn
  by_upper upper g tail l others w e =
      Is_made (subst (λ (fs : List Frame). StepGives
      (Made_in code Inner OnWay laws G bare u o s heap activity position world objects statics)
      (applied code s TheSequencer activity fs position (effect_of code world (record f { rest = rest }) op))) (sym e)
      (upper_step code Inner OnWay laws G bare u o s heap activity position world objects statics (record f { rest = rest })
      (moved l) upper others op stays g tail w f l refl (acts ∙ ap (λ (fs : List Frame). f ∷ fs) e)))

  pub moves_on : Made code Inner OnWay G u s.activity.frames → MovesOn
  moves_on made = of made
    where
      of : Made code Inner OnWay G u s.activity.frames → MovesOn
      of (Nowhere a) =
          Is_made
          (free_step code Inner OnWay laws G bare u o s heap activity position world objects statics (record f { rest = rest })
          (moved all.0) below all.1 op stays f all.0 refl acts)
        where
          all : AllBare u (f ∷ below)
          all = subst (AllBare u) acts a
      of (Holding g tail h e) = by_holder made own (next_of code Inner OnWay u f op rest ops own)
        where
          own : Holder code Inner OnWay u f
          own = subst (Holder code Inner OnWay u) (sym (split f g below tail (sym acts ∙ e)).head) h
      of (Reads g tail r e) =
          by_reader (subst (Reader code Inner OnWay G u) (sym (split f g below tail (sym acts ∙ e)).head) r)
      of (Begins g tail b e) =
          by_start (subst (Starts code Inner OnWay G u) (sym (split f g below tail (sym acts ∙ e)).head) b)
      of (Waiting g upper h tail l a w e) =
          by_upper upper h tail (subst (Lack u) (sym lists.head) l) a
          (subst (λ (x : Frame). HolderWaits code Inner OnWay G u h (lowest_body x.body upper)
          ⊎ ReaderWaits code Inner OnWay G u h (lowest_body x.body upper)) (sym lists.head) w) lists.tail
        where
          lists : SameLists f g below (upper ++ h ∷ tail)
          lists = split f g below (upper ++ h ∷ tail) (sym acts ∙ e)
