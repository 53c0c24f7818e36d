-- The frame rule: where objects keep their classes and areas, and a list names what it named, each frame on that list
-- is as ready as before. It serves the frames under the one that acts, and all other jobs alike.
use Rattle.std.specs.Prelude.{Option, Some, None, ◌++◌, option_to_list, codes}
use Rattle.std.proofs.Common.{◌≡◌, ℕ, List, [], ◌∷◌, true, refl, sym, ◌∙◌, ap, subst, inl, inr}
use Rattle.scj_base.specs.declared.values.Value.{Value}
use Rattle.scj_rules.specs.declared.typing.Scope.{Scope}
use Rattle.scj_rules.specs.declared.typing.Scope.TheVariants.{Any, This, Caller, In, Unknown, Lost}
use Rattle.scj_rules.specs.declared.typing.Ty.{Ty}
use Rattle.scj_rules.specs.declared.typing.Ty.TheVariants.{Class as ClassTy}
use Rattle.scj_rules.specs.declared.views.Body.{Body}
use Rattle.scj_rules.specs.Words.{is_among, ◌>>=◌}
use Rattle.scj_rules.specs.Contexts.{Declarations}
use Rattle.scj_rules.specs.Bodies.{body_named, body_of}
use Rattle.accepted_laws.specs.Kinds.{Kind}
use Rattle.scj_model.specs.declared.operations.Op.{Op}
use Rattle.scj_model.specs.declared.operations.Op.TheVariants.{Construct as CONSTRUCT, Call as CALL, CallStatic as CALLSTATIC, Enter as ENTER, ExecuteIn as EXECUTEIN, Super as SUPER}
use Rattle.scj_model.specs.Code.{Code}
use Rattle.scj_model.specs.State.{Object, Frame}
use Rattle.scope_flow.specs.Slots.{IsOfType}
use Rattle.scope_flow.specs.Signatures.{Signature}
use Rattle.frame_sound.specs.Calls.{HasThis, ByRun, IsCalledBy, IsCalledIn}
use Rattle.frame_sound.specs.Places.{World, Place, in_one, the_area, LiesAt, area_named, denote, Held, a_number, a_truth, a_yes, an_object, a_fresh, held, IsObject, Has, AllHave}
use Rattle.frame_sound.specs.Fine.{ListFine, list_of, Home, HoldsNullOr, LocalsFine, Ready, held_option, GivenFits, IsOn, Under, FramesFine}
use Rattle.frame_sound.proofs.GuardSteps.{guards_kept}

-- an object that has its class and its area as before
pub record IsKept (w : World) (r : ℕ) (o : Object) : Type 0 where
  pub object : Object
  pub found : w.objects r ≡ Some object
  pub class : object.class ≡ o.class
  pub area : object.area ≡ o.area

abbrev pub ObjectsAreKept : World → World → Type 0
ObjectsAreKept w w2 = (r : ℕ) (o : Object) → w.objects r ≡ Some o → IsKept w2 r o

pub record Keeps (w w2 : World) (list : List ℕ) : Type 0 where
  pub named : (s : ℕ) → area_named w2.areas s list ≡ area_named w.areas s list
  pub fine : ListFine w2.areas list

module _ (p : Declarations) (w w2 : World) (kept : ObjectsAreKept w w2) where
  object_kept : (t : Ty) (a : Place) (v : Value) → IsObject p w t a v → IsObject p w2 t a v
  object_kept t a v o =
      let k = kept o.r o.object o.found in
      record {
        r = o.r;
        is = o.is;
        object = k.object;
        found = k.found;
        of_type = subst (λ c. IsOfType p c t) (sym k.class) o.of_type;
        lies = subst (LiesAt a) (sym k.area) o.lies;
      }

  pub has_kept : (h : Held) (v : Value) → Has p w h v → Has p w2 h v
  has_kept a_number v x = x
  has_kept a_truth v x = x
  has_kept a_yes v x = x
  has_kept (an_object t a) v (inl e) = inl e
  has_kept (an_object t a) v (inr o) = inr (object_kept t a v o)
  has_kept (a_fresh c a) v o = object_kept (ClassTy c) a v o

  pub all_kept : (den : Scope → Place) (ks : List Kind) (vs : List Value) → AllHave p w den ks vs →
      AllHave p w2 den ks vs
  all_kept den [] [] h = tt
  all_kept den [] (v ∷ vs) h = h
  all_kept den (k ∷ ks) [] h = h
  all_kept den (k ∷ ks) (v ∷ vs) h = (has_kept (held den k) v h.0, all_kept den ks vs h.1)

  pub locals_kept : (den : Scope → Place) (body : Body) (known : List ℕ) (locals : List Value) →
      LocalsFine p w den body known locals → LocalsFine p w2 den body known locals
  locals_kept den body known locals l =
      record {
        long = l.long;
        each = λ i v k there is set.
            (let x = l.each i v k there is set in
            record { value = x.value; is = x.is; has = has_kept (held den k) x.value x.has });
        fits = λ i v value there is. elim (l.fits i v value there is) as (λ z. HoldsNullOr p w2 den v value) [
          | inl e ↦ inl e
          | inr h ↦ inr (h.0, h.1, has_kept (held den h.0) value h.2)
        ];
      }

  -- a static scope names what it named
  module _ (list : List ℕ) (keeps : Keeps w w2 list) (c : ℕ) (sig : Signature) (body : Body) (this : Option ℕ) (now : ℕ)
      (home : Home p w list c sig body this now) where
    pub denote_kept : denote w2 list this now ≡ denote w list this now
    unfolding denote
    denote_kept = λ i s. same s i
      where
        own : (o : Option ℕ) → this ≡ o →
            o >>= w2.objects >>= (λ o. Some o.area) ≡ o >>= w.objects >>= (λ o. Some o.area)
        own None e = refl
        own (Some r) e =
            let x = home.on_list r e in
            let k = kept r x.object x.found in
            ap (λ (o : Option Object). o >>= (λ o. Some o.area)) k.found
            ∙ (ap (λ a. Some a) k.area ∙ sym (ap (λ (o : Option Object). o >>= (λ o. Some o.area)) x.found))

        same : (s : Scope) → denote w2 list this now s ≡ denote w list this now s
        same Any = refl
        same This = ap (λ o. in_one o) (own this refl)
        same Caller = refl
        same (In s) = ap (λ o. in_one o) (keeps.named s)
        same Unknown = refl
        same Lost = refl

    pub home_kept : Home p w2 list c sig body this now
    home_kept =
        record {
          own = λ e. (let o = home.own e in let k = kept o.r o.object o.found in
              record {
                r = o.r;
                is = o.is;
                object = k.object;
                found = k.found;
                of_type = subst (λ d. IsOfType p d (ClassTy c)) (sym k.class) o.of_type;
                lies = λ h is. ap (λ d. d h) denote_kept ∙ (o.lies h is ∙ ap the_area (sym k.area));
              });
          on_list = λ r e. (let x = home.on_list r e in let k = kept r x.object x.found in
              record {
                object = k.object;
                found = k.found;
                on_list = subst (λ a. is_among a list ≡ true) (sym k.area) x.on_list;
              });
          now_on_list = home.now_on_list;
          is_now = ap (λ d. d sig.runs_in) denote_kept ∙ home.is_now;
        }

module _ (code : Code) (w w2 : World) (kept : ObjectsAreKept w w2) where
  -- the upper of two frames is called as it was
  abbrev this_kept : (this : Option ℕ) → HasThis w this → HasThis w2 this
  this_kept this h =
      let k = kept h.r h.object h.found in record { r = h.r; is = h.is; object = k.object; found = k.found }

  run_kept : (body : Body) (this : Option ℕ) → ByRun code w body this → ByRun code w2 body this
  run_kept body this b =
      record {
        on = this_kept this b.on;
        runs =
            ap (λ d. body_named code.program d (codes "run")) (kept b.on.r b.on.object b.on.found).class ∙ b.runs;
      }

  by_kept : (den : Scope → Place) (c now : ℕ) (op : Op) (body : Body) (this : Option ℕ) (area : ℕ) →
      IsCalledBy code w den c now op body this area → IsCalledBy code w2 den c now op body this area
  unfolding IsCalledBy
  by_kept den c now (CALL id) body this area b =
      let k = kept b.on.r b.on.object b.on.found in
      record {
        method = b.method;
        is = b.is;
        on = this_kept this b.on;
        runs = ap (λ d. body_of code.program d b.method) k.class ∙ b.runs;
        receiver = b.receiver;
        is_receiver = b.is_receiver;
        scope = b.scope;
        of_receiver = b.of_receiver;
        lies = subst (LiesAt (den b.scope)) (sym k.area) b.lies;
        same_area = b.same_area;
      }
  by_kept den c now (CALLSTATIC id) body this area b = b
  by_kept den c now (CONSTRUCT id) body this area b =
      record {
        class = b.class;
        is = b.is;
        runs = b.runs;
        on = this_kept this b.on;
        scope = b.scope;
        of_new = b.of_new;
        lies = subst (LiesAt (den b.scope)) (sym (kept b.on.r b.on.object b.on.found).area) b.lies;
        same_area = b.same_area;
      }
  by_kept den c now (SUPER id) body this area b =
      record {
        superclass = b.superclass;
        is = b.is;
        runs = b.runs;
        on = this_kept this b.on;
        scope = b.scope;
        of_this = b.of_this;
        lies = subst (LiesAt (den b.scope)) (sym (kept b.on.r b.on.object b.on.found).area) b.lies;
        same_area = b.same_area;
      }
  by_kept den c now (ENTER id) body this area b = run_kept body this b
  by_kept den c now (EXECUTEIN id) body this area b = run_kept body this b
  by_kept den c now _ body this area b = absurd b

  pub called_kept : (list : List ℕ) (f : Frame) (body : Body) (called_at this : Option ℕ) (area : ℕ) →
      denote w2 list f.this f.area ≡ denote w list f.this f.area → IsCalledIn code w list f body called_at this area →
      IsCalledIn code w2 list f body called_at this area
  called_kept list f body called_at this area e x =
      record {
        op = x.op;
        at = x.at;
        pushers = x.pushers;
        came = x.came;
        class = x.class;
        sig = x.sig;
        in_class = x.in_class;
        by = subst (λ d. IsCalledBy code w2 d x.class f.area x.op body this area) (sym e)
            (by_kept (denote w list f.this f.area) x.class f.area x.op body this area x.by);
      }

  pub ready_kept : (list : List ℕ) → Keeps w w2 list → (c : ℕ) (sig : Signature) (f : Frame) (t : Option Kind) →
      Ready code w list c sig f t → Ready code w2 list c sig f t
  ready_kept list keeps c sig f t r =
      let e = sym (denote_kept code.program w w2 kept list keeps c sig f.body f.this f.area r.home) in
      record {
        runs = r.runs;
        home = home_kept code.program w w2 kept list keeps c sig f.body f.this f.area r.home;
        known = r.known;
        kinds = r.kinds;
        operands = subst (λ d. AllHave code.program w2 d r.kinds f.operands) e
            (all_kept code.program w w2 kept _ r.kinds f.operands r.operands);
        locals = subst (λ d. LocalsFine code.program w2 d f.body r.known f.locals) e
            (locals_kept code.program w w2 kept _ f.body r.known f.locals r.locals);
        flow = r.flow;
        guards = guards_kept code w w2 f.body f.this f.locals (λ q o found. (let k = kept q o found in (k.object, k.found, k.area))) t
            f.operands f.rest r.guards;
      }

  -- of the lists of which a property holds, as of all behind them
  module _ (P : List ℕ → Type 0) (behind : (xs ys : List ℕ) → P (xs ++ ys) → P ys) (keeps : (list : List ℕ) → P list →
      ListFine w.areas list → Keeps w w2 list) where
    -- a frame on others
    pub on_kept : (base : List ℕ) (body : Body) (called_at this : Option ℕ) (area : ℕ) (fs : List Frame)
        (given : Option Held) → P (list_of base fs) → Under code w base fs given →
        IsOn code w base body called_at this area fs → IsOn code w2 base body called_at this area fs
    on_kept base body called_at this area [] given h u on = tt
    on_kept base body called_at this area (f ∷ fs) given h u on =
        called_kept (list_of base (f ∷ fs)) f body called_at this area
        (denote_kept code.program w w2 kept (list_of base (f ∷ fs)) (keeps (list_of base (f ∷ fs)) h u.1) u.0.class
        u.0.sig f.body f.this f.area u.0.ready.home) on

    pub under_kept : (base : List ℕ) (fs : List Frame) (given : Option Held) → P (list_of base fs) →
        Under code w base fs given → Under code w2 base fs given
    under_kept base [] given h u = tt
    under_kept base (f ∷ fs) given h u =
        let k = keeps (list_of base (f ∷ fs)) h u.1 in
        let r = u.0.ready in
        let e =
        sym
        (denote_kept code.program w w2 kept (list_of base (f ∷ fs)) k u.0.class u.0.sig f.body f.this f.area r.home)
        in (
          record {
            class = u.0.class;
            sig = u.0.sig;
            kind = u.0.kind;
            fits = subst (λ d. GivenFits code.program given (held_option d u.0.kind)) e u.0.fits;
            ready = ready_kept (list_of base (f ∷ fs)) k u.0.class u.0.sig f u.0.kind r;
          },
          k.fine,
          subst (λ d. Under code w2 base fs (held_option d u.0.sig.gives)) e
              (under_kept base fs _ (behind (option_to_list f.opened) (list_of base fs) h) u.2),
          on_kept base f.body f.called_at f.this f.area fs _ (behind (option_to_list f.opened) (list_of base fs) h) u.2
              u.3,
        )

    pub frames_kept : (base : List ℕ) (fs : List Frame) → P (list_of base fs) → FramesFine code w base fs →
        FramesFine code w2 base fs
    frames_kept base [] h u = tt
    frames_kept base (f ∷ fs) h u = under_kept base (f ∷ fs) None h u
