-- Frames over frames: one in the place of another, one that gets the value it waited for, and those that are left when
-- the upper one leaves.
use Rattle.std.specs.Prelude.{Option, Some, None, ◌++◌, option_to_list}
use Rattle.std.proofs.Common.{◌≡◌, ℕ, List, [], ◌∷◌, true, refl, sym, ◌∙◌, ap, subst, inl, inr}
use Rattle.scj_base.specs.declared.values.Value.{Value}
use Rattle.scj_rules.specs.declared.typing.Scope.{Scope}
use Rattle.scj_rules.specs.Contexts.{Declarations}
use Rattle.accepted_laws.specs.Kinds.{Kind}
use Rattle.accepted_laws.proofs.Tools.{some_inj}
use Rattle.scj_model.specs.Code.{Code}
use Rattle.scj_model.specs.State.{Frame}
use Rattle.scj_model.specs.Apply.{returned}
use Rattle.scope_flow.specs.Signatures.{Signature}
use Rattle.scope_flow.specs.Needs.{pushed}
use Rattle.scope_flow.specs.Facts.{Facts}
use Rattle.frame_sound.specs.Places.{World, Place, denote, Held, a_number, a_truth, a_yes, an_object, held, Has}
use Rattle.frame_sound.specs.Fine.{ListFine, list_of, Ready, HeldFits, held_option, GivenFits, IsOn, Under, FramesFine}
use Rattle.frame_sound.specs.EffectsFine.{IsSame, ReturnFine}
use Rattle.frame_sound.proofs.GuardSteps.{answered_guarded}

module _ (code : Code) (w : World) (base : List ℕ) (f h : Frame) (fs : List Frame) (same : IsSame f h) where
  abbrev old : List ℕ
  old = list_of base (f ∷ fs)

  abbrev new : List ℕ
  new = list_of base (h ∷ fs)

  pub same_list : old ≡ new
  same_list = ap (λ (o : Option ℕ). option_to_list o ++ list_of base fs) (sym same.opened)

  pub same_denotes : denote w old f.this f.area ≡ denote w new h.this h.area
  same_denotes =
      ap (λ l. denote w l f.this f.area) same_list
      ∙ (ap (λ t. denote w new t f.area) (sym same.this) ∙ ap (λ a. denote w new h.this a) (sym same.area))

  on_same : IsOn code w base f.body f.called_at f.this f.area fs →
      IsOn code w base h.body h.called_at h.this h.area fs
  on_same on =
      subst (λ a. IsOn code w base h.body h.called_at h.this a fs) (sym same.area)
      (subst (λ t. IsOn code w base h.body h.called_at t f.area fs) (sym same.this)
      (subst (λ n. IsOn code w base h.body n f.this f.area fs) (sym same.called_at)
      (subst (λ b. IsOn code w base b f.called_at f.this f.area fs) (sym same.body) on)))

  -- a frame in the place of another of the same job
  pub replaced : (c : ℕ) (sig : Signature) (kind : Option Kind) (given : Option Held) → Ready code w old c sig h kind →
      GivenFits code.program given (held_option (denote w old h.this h.area) kind) → ListFine w.areas old →
      Under code w base fs (held_option (denote w old f.this f.area) sig.gives) →
      IsOn code w base f.body f.called_at f.this f.area fs → Under code w base (h ∷ fs) given
  replaced c sig kind given ready fits fine under on = (
    record {
      class = c;
      sig = sig;
      kind = kind;
      fits = subst (λ l. GivenFits code.program given (held_option (denote w l h.this h.area) kind)) same_list fits;
      ready = subst (λ l. Ready code w l c sig h kind) same_list ready;
    },
    subst (ListFine w.areas) same_list fine,
    subst (λ d. Under code w base fs (held_option d sig.gives)) same_denotes under,
    on_same on,
  )

-- a value comes that a frame waits for
pub answered : (code : Code) (w : World) (list : List ℕ) (c : ℕ) (sig : Signature) (f : Frame) (k : Kind) (v : Value) →
    Has code.program w (held (denote w list f.this f.area) k) v → Ready code w list c sig f (Some k) →
    Ready code w list c sig (record f { operands = v ∷ f.operands }) None
unfolding pushed
answered code w list c sig f k v h r =
    record {
      runs = r.runs;
      home = r.home;
      known = r.known;
      kinds = k ∷ r.kinds;
      operands = (h, r.operands);
      locals = r.locals;
      flow = r.flow;
      guards = answered_guarded code w f.body f.this f.locals k v f.operands f.rest r.guards;
    }

-- a value that one gives is what the other waits for
given_has : (code : Code) → Facts code → (w : World) (h k : Held) (v : Value) → HeldFits code.program h k →
    Has code.program w h v → Has code.program w k v
given_has code facts w a_number a_number v f h = h
given_has code facts w a_truth a_truth v f h = h
given_has code facts w a_yes a_truth v f h = (true, h)
given_has code facts w (an_object t a) (an_object u b) v f (inl e) = inl e
given_has code facts w (an_object t a) (an_object u b) v f (inr o) =
    inr (record {
      r = o.r;
      is = o.is;
      object = o.object;
      found = o.found;
      of_type = facts.assigned o.object.class t u o.of_type f.1;
      lies = f.0 o.object.area o.lies;
    })
given_has code facts w _ _ v f h = absurd f

-- what a frame leaves with is what it gives
abbrev Answers : Declarations → World → Option Held → Option Value → Type 0
Answers p w None v = v ≡ None
Answers p w (Some h) v = (x : Value) × (v ≡ Some x) × Has p w h x

answers : (p : Declarations) (w : World) (den : Scope → Place) (o : Option Kind) (v : Option Value) →
    ReturnFine p w den o v → Answers p w (held_option den o) v
unfolding held_option
answers p w den None None h = refl
answers p w den (Some k) (Some v) h = (v, refl, h)
answers p w den None (Some v) h = absurd h
answers p w den (Some k) None h = absurd h

module _ (code : Code) (facts : Facts code) (w : World) (base : List ℕ) where
  given_back : (fs : List Frame) (given : Option Held) (v : Option Value) → Under code w base fs given →
      Answers code.program w given v → FramesFine code w base (returned v fs)
  unfolding returned held_option
  given_back [] given None u r = tt
  given_back [] given (Some x) u r = tt
  given_back (f ∷ fs) None None u r = u
  given_back (f ∷ fs) None (Some x) u r = absurd (cc (r))
  given_back (f ∷ fs) (Some h) None u r = absurd (let x = r.1 in cc (x))
  given_back (f ∷ fs) (Some h) (Some x) u r = (
    record {
      class = u.0.class;
      sig = u.0.sig;
      kind = None;
      fits = tt;
      ready = go u.0.kind u.0.fits u.0.ready;
    },
    u.1,
    u.2,
    u.3,
  )
    where
      has : Has code.program w h x
      has = subst (λ y. Has code.program w h y) (sym (some_inj x r.0 r.1)) r.2

      go : (kind : Option Kind) →
          GivenFits code.program (Some h) (held_option (denote w (list_of base (f ∷ fs)) f.this f.area) kind) →
          Ready code w (list_of base (f ∷ fs)) u.0.class u.0.sig f kind →
          Ready code w (list_of base (f ∷ fs)) u.0.class u.0.sig (record f { operands = x ∷ f.operands }) None
      go None fits ready = absurd fits
      go (Some k) fits ready =
          answered code w (list_of base (f ∷ fs)) u.0.class u.0.sig f k x (given_has code facts w h _ x fits has) ready

  -- a frame leaves: the one below it gets the value
  pub returned_fine : (fs : List Frame) (den : Scope → Place) (gives : Option Kind) (v : Option Value) →
      Under code w base fs (held_option den gives) → ReturnFine code.program w den gives v →
      FramesFine code w base (returned v fs)
  returned_fine fs den gives v u r = given_back fs (held_option den gives) v u (answers code.program w den gives v r)
