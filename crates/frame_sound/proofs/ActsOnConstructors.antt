-- Calls of constructors: the new frame begins as the rules say, and the caller waits for its end.
use Rattle.std.specs.Prelude.{Option, Some, None, replicate, ◌-◌, ◌++◌}
use Rattle.std.proofs.Common.{◌≡◌, ℕ, List, [], ◌∷◌, length, true, false, refl, sym, ◌∙◌, ap, subst, true≢false, inl, inr}
use Rattle.scj_base.specs.declared.values.Value.{Value}
use Rattle.scj_base.specs.declared.values.Value.TheVariants.{Null}
use Rattle.scj_rules.specs.declared.typing.Ty.{Ty}
use Rattle.scj_rules.specs.declared.typing.Ty.TheVariants.{Class as ClassTy}
use Rattle.scj_rules.specs.declared.typing.Scope.{Scope}
use Rattle.scj_rules.specs.declared.typing.Scope.TheVariants.{Any, This, Caller, In, Unknown, Lost}
use Rattle.scj_rules.specs.declared.views.Body.{Body}
use Rattle.scj_rules.specs.declared.views.Body.TheVariants.{Written, Empty}
use Rattle.scj_rules.specs.Words.{is_among, ◌>>=◌}
use Rattle.scj_rules.specs.Types.{assigns}
use Rattle.scj_rules.specs.StaticScopes.{beside}
use Rattle.accepted_laws.specs.Kinds.{Kind, reference, fresh, NamesArea, seen_as}
use Rattle.scj_model.specs.declared.operations.Op.TheVariants.{Construct as CONSTRUCT, Super as SUPER}
use Rattle.scj_model.specs.State.{Object, Frame}
use Rattle.scj_model.specs.Ops.{body_ops, node_of}
use Rattle.scj_model.specs.Effects.{Calls, pop, as_reference, new_frame}
use Rattle.scj_model.specs.Operations.{effect_of, constructs}
use Rattle.scope_flow.specs.Slots.{IsOfType}
use Rattle.scope_flow.specs.Signatures.{Signature, Runs, empty_signature}
use Rattle.scope_flow.specs.Needs.{pushed, stacked, CallsConstructor}
use Rattle.scope_flow.proofs.Courses.{entry_stood}
use Rattle.frame_sound.specs.Places.{Place, the_area, LiesAt, denote, held, IsObject, AllHave}
use Rattle.frame_sound.specs.Fine.{LocalsFine, Ready, held_option, GivenFits, IsInside}
use Rattle.frame_sound.specs.Calls.{IsCalledBy, IsCalledIn}
use Rattle.frame_sound.specs.EffectsFine.{GoesOn}
use Rattle.frame_sound.proofs.Places.{denotes_area, at_area, area_at}
use Rattle.frame_sound.proofs.Begins.{begins, home_denotes, on_this}
use Rattle.frame_sound.proofs.GuardSteps.{leaves_guarded}
use Rattle.frame_sound.proofs.Scenes.{Scene, memory, den, HoldAll, FlowsOn, LeftGuards, Ok, Taken, next_taken, pop_fine, given_fine, reference_fine, arguments_fine, on_with, on_list, never_any, beside_there}
use Rattle.frame_sound.proofs.ActsOnValues.{DoesThere}
use Rattle.frame_sound.proofs.ActsOnCalls.{all_fit, denote_caller}

module _ (m : Scene) where
  module _ (id : ℕ) (class : ℕ) (us : List Kind) (k : CallsConstructor m.code.program class m.sig.runs_in us) (t : Ty)
      (v : Value) (o : IsObject m.code.program (memory m) t (den m m.sig.runs_in) v)
      (of_type : IsOfType m.code.program o.object.class (ClassTy class)) (args : List Value)
      (have : HoldAll m us args) where
    abbrev there : Scope → Place
    there = denote (memory m) m.list (Some o.r) m.frame.area

    here : o.object.area ≡ m.frame.area
    here = sym (area_at (den m m.sig.runs_in) m.frame.area o.object.area m.home.is_now o.lies)

    on : is_among o.object.area m.list ≡ true
    on = on_list m m.sig.runs_in o.object.area o.lies

    agree : (s : Scope) → NamesArea (seen_as m.sig.runs_in m.sig.runs_in s) →
        IsInside (den m (seen_as m.sig.runs_in m.sig.runs_in s)) (there s)
    unfolding seen_as denote
    agree This h n e =
        own_lies n (here ∙ area_at (den m (beside m.sig.runs_in)) m.frame.area n beside_now e)
      where
        beside_now : den m (beside m.sig.runs_in) ≡ the_area m.frame.area
        beside_now =
            denotes_area (memory m) m.list m.frame.this m.frame.area (beside m.sig.runs_in) m.frame.area h
            (beside_there m m.sig.runs_in m.frame.area (at_area (den m m.sig.runs_in) m.frame.area m.home.is_now))

        own_lies : (n : ℕ) → o.object.area ≡ n → LiesAt (there This) n
        own_lies n same = ap (λ (x : Option Object). x >>= (λ o. Some o.area)) o.found ∙ ap (λ a. Some a) same
    agree Caller h n e = at_now n (area_at (den m m.sig.runs_in) m.frame.area n m.home.is_now e)
      where
        at_now : (n : ℕ) → m.frame.area ≡ n → LiesAt (there Caller) n
        at_now n same = ap (λ a. Some a) same
    agree (In a) h n e = same_name n e
      where
        same_name : (n : ℕ) → LiesAt (den m (In a)) n → LiesAt (there (In a)) n
        same_name n e = e
    agree Any h n e = absurd h
    agree Unknown h n e = absurd h
    agree Lost h n e = absurd h

    unknown : (s : Scope) → IsInside (den m s) (there Unknown)
    unfolding denote
    unknown s a e = on_list m s a e

    takes : AllHave m.code.program (memory m) there k.sig.takes args
    takes =
        all_fit m there m.sig.runs_in m.sig.runs_in
        (never_any m m.sig.runs_in m.frame.area (at_area (den m m.sig.runs_in) m.frame.area m.home.is_now)) unknown agree
        us k.sig.takes k.fit args have

    runs_there : there k.sig.runs_in ≡ the_area m.frame.area
    runs_there =
        elim k.runs_in_home as (λ z. there k.sig.runs_in ≡ the_area m.frame.area) [
          | inl e ↦ ap there e ∙ caller
          | inr e ↦ home_denotes m.code m.facts (memory m) m.list m.fine m.heap m.frame.area m.home.now_on_list o.r
              o.object o.found on class of_type k.sig.runs_in e ∙ ap the_area here
        ]
      where
        caller : denote (memory m) m.list (Some o.r) m.frame.area Caller ≡ the_area m.frame.area
        caller = denote_caller m (Some o.r)

    empty_args : (sig : Signature) → sig ≡ empty_signature → AllHave m.code.program (memory m) there sig.takes args →
        args ≡ []
    empty_args sig e h = go args (subst (λ (s : Signature). AllHave m.code.program (memory m) there s.takes args) e h)
      where
        go : (vs : List Value) → AllHave m.code.program (memory m) there [] vs → vs ≡ []
        go [] h = refl
        go (v ∷ vs) h = absurd h

    starts : (body : Body) (sig : Signature) → Runs m.code.program body class sig →
        there sig.runs_in ≡ the_area m.frame.area →
        AllHave m.code.program (memory m) there sig.takes args →
        Ready m.code (memory m) m.list class sig (new_frame m.code body (Some id) (Some o.r) m.frame.area args) None
    unfolding Runs new_frame body_ops pushed
    starts (Written b) sig runs e h =
        begins m.code m.facts (memory m) m.list m.fine m.heap m.frame.area m.home.now_on_list o.r o.object o.found on
        class
        of_type b sig runs (Some id) e args h
    starts Empty sig runs e h =
        record {
          runs = runs;
          home = record {
            own = λ f. absurd (true≢false (sym f));
            on_list = on_this m.code m.facts (memory m) m.list m.fine m.heap m.frame.area m.home.now_on_list o.r
                o.object o.found on class of_type;
            now_on_list = m.home.now_on_list;
            is_now = e;
          };
          known = [];
          kinds = [];
          operands = tt;
          locals =
              subst
              (λ (vs : List Value). LocalsFine m.code.program (memory m) there Empty []
              (vs ++ replicate (0 - length vs) Null))
              (sym (empty_args sig runs.1 h))
              (record { long = refl; each = λ i v k there_ is known. absurd (cc (there_)); fits = λ i v value there_ has. absurd (cc (there_)) });
          flow = (entry_stood m.code Empty class, ap (λ (s : Signature). s.gives) runs.1);
          guards = leaves_guarded m.code (memory m) Empty (Some o.r) _ None [];
        }

    pub constructed : (h : Frame) → GoesOn m.code (memory m) m.list m.class m.sig m.frame h None →
        IsCalledIn m.code (memory m) m.list h k.body (Some id) (Some o.r) m.frame.area →
        Ok m (Calls h (new_frame m.code k.body (Some id) (Some o.r) m.frame.area args))
    unfolding held_option new_frame
    constructed h goes on_ =
        record {
          is = record {
            kind = None;
            goes = goes;
            class = class;
            own = k.sig;
            begins = starts k.body k.sig k.runs runs_there takes;
            unopened = refl;
            fits = subst (λ x. GivenFits m.code.program (held_option there x) None) (sym k.gives_nothing) tt;
            on = on_;
          };
        }

  -- the arguments and the object below them are popped
  module _ (l : LeftGuards m m.frame.rest) (id : ℕ) (class : ℕ) (us : List Kind)
      (k : CallsConstructor m.code.program class m.sig.runs_in us) (new : ℕ)
      (others : List Kind) (e : m.kinds ≡ stacked us (fresh new m.sig.runs_in ∷ others))
      (below : (c : ℕ) → IsOfType m.code.program c (ClassTy new) → IsOfType m.code.program c (ClassTy class))
      (calls : (v : Value) (o : IsObject m.code.program (memory m) (ClassTy new) (den m m.sig.runs_in) v)
      (vs : List Value) → IsCalledIn m.code (memory m) m.list (record m.frame { operands = vs }) k.body (Some id)
      (Some o.r) m.frame.area) where
    taken_all : HoldAll m (stacked us (fresh new m.sig.runs_in ∷ others)) m.frame.operands
    taken_all = subst (λ x. HoldAll m x m.frame.operands) e m.operands

    keeps_fine : FlowsOn m m.frame.rest m.known (reference (ClassTy new) m.sig.runs_in ∷ others) →
        Ok m (constructs m.code m.frame id class (length us) true)
    unfolding held
    keeps_fine w =
        given_fine m _ _ k.body k.is
        (arguments_fine m us (fresh new m.sig.runs_in ∷ others) m.frame _ taken_all (λ args rest ah rh.
        last args rest ah (next_taken m (fresh new m.sig.runs_in) others rest rh)))
      where
        last : (args rest : List Value) → HoldAll m us args → Taken m (fresh new m.sig.runs_in) others rest →
            Ok m (pop (record m.frame { operands = rest }) (λ object g. as_reference object (λ r.
            Calls (record m.frame { operands = rest }) (new_frame m.code k.body (Some id) (Some r) m.frame.area args))))
        last args rest ah x =
            pop_fine m rest _ x.v x.rest x.is
            (reference_fine m (ClassTy new) (den m m.sig.runs_in) x.v _ x.has
            (constructed id class us k (ClassTy new) x.v x.has (below x.has.object.class x.has.of_type) args ah
            (record m.frame { operands = rest })
            (on_with m l rest (reference (ClassTy new) m.sig.runs_in ∷ others)
            (subst (λ vs. HoldAll m (reference (ClassTy new) m.sig.runs_in ∷ others) vs) (sym x.is) (inr x.has, x.have))
            w) (calls x.v x.has rest)))

    drops_fine : FlowsOn m m.frame.rest m.known others → Ok m (constructs m.code m.frame id class (length us) false)
    unfolding held
    drops_fine w =
        given_fine m _ _ k.body k.is
        (arguments_fine m us (fresh new m.sig.runs_in ∷ others) m.frame _ taken_all (λ args rest ah rh.
        last args rest ah (next_taken m (fresh new m.sig.runs_in) others rest rh)))
      where
        last : (args rest : List Value) → HoldAll m us args → Taken m (fresh new m.sig.runs_in) others rest →
            Ok m (pop (record m.frame { operands = rest }) (λ object g. as_reference object (λ r.
            Calls g (new_frame m.code k.body (Some id) (Some r) m.frame.area args))))
        last args rest ah x =
            pop_fine m rest _ x.v x.rest x.is
            (reference_fine m (ClassTy new) (den m m.sig.runs_in) x.v _ x.has
            (constructed id class us k (ClassTy new) x.v x.has (below x.has.object.class x.has.of_type) args ah
            (record m.frame { operands = x.rest }) (on_with m l x.rest others x.have w) (calls x.v x.has x.rest)))

  pub construct_fine : (id : ℕ) → DoesThere m (CONSTRUCT id)
  unfolding effect_of IsCalledBy node_of
  construct_fine id l r =
      let n = r.1.needed in
      given_fine m _ _ n.class n.is
      (given_fine m _ _ (length n.arguments) n.count
      (keeps_fine l id n.class n.arguments n.constructor n.class n.others n.takes (λ c h. h) (λ v o vs. calls v o vs)
      (subst (FlowsOn m m.frame.rest m.known) n.leaves r.1.goes)))
    where
      calls : (v : Value)
          (o : IsObject m.code.program (memory m) (ClassTy r.1.needed.class) (den m m.sig.runs_in) v)
          (vs : List Value) → IsCalledIn m.code (memory m) m.list (record m.frame { operands = vs })
          r.1.needed.constructor.body (Some id) (Some o.r) m.frame.area
      calls v o vs =
          record {
            op = CONSTRUCT id;
            at = refl;
            pushers = r.0.pushers;
            came = r.0.came;
            class = m.class;
            sig = m.sig;
            in_class = m.runs;
            by = record {
              class = r.1.needed.class;
              is = r.1.needed.is;
              runs = r.1.needed.constructor.is;
              on = record { r = o.r; is = refl; object = o.object; found = o.found };
              scope = m.sig.runs_in;
              of_new = r.1.needed.by_expression;
              lies = o.lies;
              same_area = refl;
            };
          }

  pub super_fine : (id : ℕ) → DoesThere m (SUPER id)
  unfolding effect_of assigns IsCalledBy node_of
  super_fine id l r =
      let n = r.1.needed in
      given_fine m _ _ n.superclass n.is
      (subst (λ count. Ok m (constructs m.code m.frame id n.superclass count false)) (sym n.count)
      (drops_fine l id n.superclass n.arguments n.constructor m.class r.1.out n.takes
      (λ c h. m.facts.assigned c (ClassTy m.class) (ClassTy n.superclass) h n.above) (λ v o vs. calls v o vs)
      r.1.goes))
    where
      calls : (v : Value) (o : IsObject m.code.program (memory m) (ClassTy m.class) (den m m.sig.runs_in) v)
          (vs : List Value) → IsCalledIn m.code (memory m) m.list (record m.frame { operands = vs })
          r.1.needed.constructor.body (Some id) (Some o.r) m.frame.area
      calls v o vs =
          record {
            op = SUPER id;
            at = refl;
            pushers = r.0.pushers;
            came = r.0.came;
            class = m.class;
            sig = m.sig;
            in_class = m.runs;
            by = record {
              superclass = r.1.needed.superclass;
              is = r.1.needed.is;
              runs = r.1.needed.constructor.is;
              on = record { r = o.r; is = refl; object = o.object; found = o.found };
              scope = m.sig.runs_in;
              of_this = r.1.needed.own;
              lies = o.lies;
              same_area = refl;
            };
          }
