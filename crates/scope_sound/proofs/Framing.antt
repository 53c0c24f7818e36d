-- What is known of the frames of a job says where each reference lies: by its variable, or by what pushed it.
use Rattle.std.specs.Prelude.{Option, Some, None, slice_get, ◌++◌}
use Rattle.std.proofs.Common.{◌≡◌, ℕ, zero, suc, ◌<◌, List, [], ◌∷◌, length, refl, sym, ◌∙◌, ap, subst, arith, inl, inr}
use Rattle.scj_base.specs.declared.values.Value.{Value}
use Rattle.scj_base.specs.declared.values.Value.TheVariants.{At}
use Rattle.scj_rules.specs.declared.typing.Scope.{Scope}
use Rattle.scj_rules.specs.declared.typing.Ty.{Ty}
use Rattle.scj_rules.specs.declared.typing.Ty.TheVariants.{Class as ClassTy}
use Rattle.accepted_laws.specs.Kinds.{Kind, number, truth, yes, reference, fresh, kind_of_variable}
use Rattle.accepted_laws.proofs.Lists.{get_within}
use Rattle.accepted_laws.proofs.Tools.{some_inj}
use Rattle.scj_model.specs.Code.{Code}
use Rattle.scj_model.specs.State.{Frame}
use Rattle.scope_flow.specs.Signatures.{Signature, variables_in}
use Rattle.scope_flow.specs.Pushers.{Pusher, scope_in, IsPushed, ArePushed}
use Rattle.scope_flow.specs.Needs.{pushed}
use Rattle.scope_flow.specs.Ways.{Comes, Stood}
use Rattle.scope_flow.proofs.Courses.{course_stood}
use Rattle.frame_sound.specs.Places.{World, Place, Held, denote, held, IsObject, Has, AllHave}
use Rattle.frame_sound.specs.Fine.{list_of, Ready, GivenFits, held_option, Under, FramesFine}
use Rattle.frame_sound.proofs.Places.{denote_on}
use Rattle.scope_sound.specs.FramedAndPlaced.{LiesWhere, LocalLies, OperandLies, FrameFramed, FramedUnder, FramesFramed}

-- a place of a list has an element
element_there : (xs : List ℕ) (i : ℕ) → i < length xs → (x : ℕ) × (slice_get xs i ≡ Some x)
element_there [] i l = absurd (omega (arith, l))
element_there (x ∷ xs) zero l = (x, refl)
element_there (x ∷ xs) (suc i) l = element_there xs i (omega (arith, l))

module _ (code : Code) (w : World) (list : List ℕ) (c : ℕ) (sig : Signature) (f : Frame) (t : Option Kind)
    (r : Ready code w list c sig f t) where
  abbrev den : Scope → Place
  den = denote w list f.this f.area

  lies_where : (ty : Ty) (scope : Scope) (q : ℕ) → IsObject code.program w ty (den scope) (At q) →
      LiesWhere w list f scope q
  lies_where ty scope q o =
      let same : o.r ≡ q = cc (o.is) in
      record {
        object = o.object;
        found = ap w.objects (sym same) ∙ o.found;
        named = o.lies;
        on_list = denote_on code.program w list c sig f.body f.this f.area r.home scope o.object.area o.lies;
      }

  -- ---- locals

  local_of_kind : (i q variable : ℕ) → slice_get (variables_in code.program f.body) i ≡ Some variable → (k : Kind) →
      kind_of_variable code.program variable ≡ Some k → Has code.program w (held den k) (At q) →
      LocalLies code w list f i q
  unfolding held scope_in
  local_of_kind i q variable there number is h = absurd (let e = h.1 in cc (e))
  local_of_kind i q variable there truth is h = absurd (let e = h.1 in cc (e))
  local_of_kind i q variable there yes is h = absurd (cc (h))
  local_of_kind i q variable there (reference ty s) is (inl e) = absurd (cc (e))
  local_of_kind i q variable there (reference ty s) is (inr o) =
      record {
        variable = variable;
        is = there;
        scope = s;
        is_scope = (reference ty s, is, refl);
        lies = lies_where ty s q o;
      }
  local_of_kind i q variable there (fresh d s) is o =
      record {
        variable = variable;
        is = there;
        scope = s;
        is_scope = (fresh d s, is, refl);
        lies = lies_where (ClassTy d) s q o;
      }

  local_lies : (i q : ℕ) → slice_get f.locals i ≡ Some (At q) → LocalLies code w list f i q
  local_lies i q e =
      let v = element_there (variables_in code.program f.body) i
      (let l : i < length f.locals = get_within f.locals i (At q) e in let many = r.locals.long in
      omega (arith, l, many)) in
      elim (r.locals.fits i v.0 (At q) v.1 e) as (λ z. LocalLies code w list f i q) [
        | inl null ↦ absurd (cc (null))
        | inr h ↦ local_of_kind i q v.0 v.1 h.0 h.1 h.2
      ]

  -- ---- operands

  operand_of_kind : (pusher : Pusher) (pushers : List Pusher) (i q : ℕ) → slice_get pushers i ≡ Some pusher →
      (k : Kind) → IsPushed code.program c pusher k → Has code.program w (held den k) (At q) →
      OperandLies code w list f c pushers i q
  unfolding held scope_in
  operand_of_kind pusher pushers i q there number p h = absurd (let e = h.1 in cc (e))
  operand_of_kind pusher pushers i q there truth p h = absurd (let e = h.1 in cc (e))
  operand_of_kind pusher pushers i q there yes p h = absurd (cc (h))
  operand_of_kind pusher pushers i q there (reference ty s) p (inl e) = absurd (cc (e))
  operand_of_kind pusher pushers i q there (reference ty s) p (inr o) =
      record { pusher = pusher; is = there; scope = s; is_scope = p s refl; lies = lies_where ty s q o }
  operand_of_kind pusher pushers i q there (fresh d s) p o =
      record { pusher = pusher; is = there; scope = s; is_scope = p s refl; lies = lies_where (ClassTy d) s q o }

  record At_ (pushers : List Pusher) (i q : ℕ) : Type 0 where
    pusher : Pusher
    is : slice_get pushers i ≡ Some pusher
    kind : Kind
    is_pushed : IsPushed code.program c pusher kind
    has : Has code.program w (held den kind) (At q)

  operand_at : (qs : List Pusher) (ks : List Kind) (vs : List Value) → ArePushed code.program c qs ks →
      AllHave code.program w den ks vs → (i q : ℕ) → slice_get vs i ≡ Some (At q) → At_ qs i q
  operand_at qs ks [] p h i q e = absurd (cc (e))
  operand_at qs [] (v ∷ vs) p h i q e = absurd h
  operand_at [] (k ∷ ks) (v ∷ vs) p h i q e = absurd p
  operand_at (x ∷ qs) (k ∷ ks) (v ∷ vs) p h zero q e =
      record {
        pusher = x;
        is = refl;
        kind = k;
        is_pushed = p.0;
        has = subst (λ y. Has code.program w (held den k) y) (some_inj v (At q) e) h.0;
      }
  operand_at (x ∷ qs) (k ∷ ks) (v ∷ vs) p h (suc i) q e =
      let y = operand_at qs ks vs p.1 h.1 i q e in
      record { pusher = y.pusher; is = y.is; kind = y.kind; is_pushed = y.is_pushed; has = y.has }

  as_many_pushed : (qs : List Pusher) (ks : List Kind) (vs : List Value) → ArePushed code.program c qs ks →
      AllHave code.program w den ks vs → length qs ≡ length vs
  as_many_pushed [] [] [] p h = refl
  as_many_pushed qs [] (v ∷ vs) p h = absurd h
  as_many_pushed qs (k ∷ ks) [] p h = absurd h
  as_many_pushed (q ∷ qs) [] [] p h = absurd p
  as_many_pushed [] (k ∷ ks) (v ∷ vs) p h = absurd p
  as_many_pushed (q ∷ qs) (k ∷ ks) (v ∷ vs) p h = ap suc (as_many_pushed qs ks vs p.1 h.1)

  -- ---- the frame

  stood : Stood code f.body c f.rest (pushed t r.kinds)
  stood = course_stood code f.body c sig f.rest r.known (pushed t r.kinds) r.flow

  framed_by : (given pushers : List Pusher) → Comes code f.body f.rest (given ++ pushers) →
      ArePushed code.program c pushers r.kinds → FrameFramed code w list f given
  framed_by given pushers came are =
      record {
        class = c;
        sig = sig;
        runs = r.runs;
        now = r.home.is_now;
        locals = local_lies;
        pushers = pushers;
        came = came;
        as_many = as_many_pushed pushers r.kinds f.operands are r.operands;
        operands = λ i q e. (let x = operand_at pushers r.kinds f.operands are r.operands i q e in
            operand_of_kind x.pusher pushers i q x.is x.kind x.is_pushed x.has);
      }

  pub frame_framed : (given : List Pusher) × FrameFramed code w list f given
  unfolding pushed
  frame_framed = go t stood
    where
      with_one : (qs : List Pusher) (k : Kind) → ArePushed code.program c qs (k ∷ r.kinds) →
          Comes code f.body f.rest qs → (given : List Pusher) × FrameFramed code w list f given
      with_one [] k are came = absurd are
      with_one (q ∷ qs) k are came = (q ∷ [], framed_by (q ∷ []) qs came are.1)

      go : (o : Option Kind) → Stood code f.body c f.rest (pushed o r.kinds) →
          (given : List Pusher) × FrameFramed code w list f given
      go None st = ([], framed_by [] st.pushers st.came st.pushed)
      go (Some k) st = with_one st.pushers k st.pushed st.came

  pub highest_framed : t ≡ None → FrameFramed code w list f []
  unfolding pushed
  highest_framed e =
      let st = subst (λ o. Stood code f.body c f.rest (pushed o r.kinds)) e stood in
      framed_by [] st.pushers st.came st.pushed

-- ---- the frames of a job

none_given : (code : Code) (den : Scope → Place) (kind : Option Kind) →
    GivenFits code.program None (held_option den kind) → kind ≡ None
unfolding held_option
none_given code den None h = refl
none_given code den (Some k) h = absurd h

module _ (code : Code) (w : World) (base : List ℕ) where
  framed_under : (fs : List Frame) (given : Option Held) → Under code w base fs given → FramedUnder code w base fs
  framed_under [] given u = tt
  framed_under (f ∷ fs) given u = (
    frame_framed code w (list_of base (f ∷ fs)) u.0.class u.0.sig f u.0.kind u.0.ready,
    u.3,
    framed_under fs _ u.2,
  )

  pub frames_framed : (fs : List Frame) → FramesFine code w base fs → FramesFramed code w base fs
  frames_framed [] u = tt
  frames_framed (f ∷ fs) u = (
    highest_framed code w (list_of base (f ∷ fs)) u.0.class u.0.sig f u.0.kind u.0.ready
        (none_given code (denote w (list_of base (f ∷ fs)) f.this f.area) u.0.kind u.0.fits),
    u.3,
    framed_under fs _ u.2,
  )
