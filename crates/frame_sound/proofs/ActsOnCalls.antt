-- Calls: the new frame begins as the rules say, and the caller waits for what it gives.
use Rattle.std.specs.Prelude.{Option, Some, None}
use Rattle.std.proofs.Common.{◌≡◌, ℕ, List, [], ◌∷◌, length, true, refl, sym, ◌∙◌, ap, subst, inl, inr}
use Rattle.scj_base.specs.declared.values.Value.{Value}
use Rattle.scj_rules.specs.declared.typing.Ty.TheVariants.{Class as ClassTy}
use Rattle.scj_rules.specs.declared.typing.Scope.{Scope}
use Rattle.scj_rules.specs.declared.typing.Scope.TheVariants.{Any, This, Caller, In, Unknown, Lost}
use Rattle.scj_rules.specs.declared.views.Body.TheVariants.{Written}
use Rattle.scj_rules.specs.Words.{is_among}
use Rattle.scj_rules.specs.Types.{assigns}
use Rattle.scj_rules.specs.Bodies.{body_of}
use Rattle.scj_rules.specs.StaticScopes.{beside}
use Rattle.accepted_laws.specs.Kinds.{Kind, number, truth, yes, reference, fresh, Fits, AllFit, GoesTo, NamesArea, RunsHere, seen_as, seen_kind, seen_kinds, seen_option}
use Rattle.accepted_laws.proofs.RealScopes.{this_beside}
use Rattle.accepted_laws.proofs.Tools.{some_inj}
use Rattle.scj_model.specs.declared.operations.Op.TheVariants.{Call as CALL}
use Rattle.scj_model.specs.State.{Object}
use Rattle.scj_model.specs.Ops.{node_of}
use Rattle.scj_model.specs.Effects.{Calls, given, pop, as_object, new_frame}
use Rattle.scj_model.specs.Operations.{effect_of}
use Rattle.scope_flow.specs.Slots.{array_type, IsOfType}
use Rattle.scope_flow.specs.Signatures.{Signature, IsConcrete, IsDispatched, IsKnownResult, Gives}
use Rattle.frame_sound.specs.Places.{Place, in_one, the_area, LiesAt, denote, held, IsObject, Has, AllHave}
use Rattle.frame_sound.specs.Fine.{held_option, GivenFits, IsInside}
use Rattle.frame_sound.specs.Calls.{IsCalledBy, IsCalledIn}
use Rattle.frame_sound.specs.EffectsFine.{GoesOn}
use Rattle.frame_sound.proofs.Places.{has_fits, denotes_area, at_area, area_at}
use Rattle.frame_sound.proofs.Begins.{begins, home_denotes}
use Rattle.frame_sound.proofs.Scenes.{Scene, memory, den, HoldAll, FlowsOn, Ok, Taken, next_taken, pop_fine, given_fine, object_fine, arguments_fine, ready, guards_left, on_list, no_any, never_any, beside_there}
use Rattle.frame_sound.proofs.ActsOnValues.{DoesThere}

module _ (m : Scene) where
  -- ---- arguments, in the scopes of the callee

  pub all_fit : (den2 : Scope → Place) (home now : Scope) → (home ≡ Any → ⊥) →
      ((s : Scope) → IsInside (den m s) (den2 Unknown)) →
      ((s : Scope) → NamesArea (seen_as home now s) → IsInside (den m (seen_as home now s)) (den2 s)) →
      (js ks : List Kind) → AllFit m.code.program home now js ks → (vs : List Value) → HoldAll m js vs →
      AllHave m.code.program (memory m) den2 ks vs
  all_fit den2 home now real unknown agree [] [] fit [] h = tt
  all_fit den2 home now real unknown agree [] [] fit (v ∷ vs) h = h
  all_fit den2 home now real unknown agree [] (k ∷ ks) fit vs h = absurd fit
  all_fit den2 home now real unknown agree (j ∷ js) [] fit vs h = absurd fit
  all_fit den2 home now real unknown agree (j ∷ js) (k ∷ ks) fit [] h = absurd h
  all_fit den2 home now real unknown agree (j ∷ js) (k ∷ ks) fit (v ∷ vs) h = (
    has_fits m.code m.facts (memory m) (den m) den2 home now (no_any m) real unknown j k (λ t r e n. agree r n) fit.0 v
        h.0,
    all_fit den2 home now real unknown agree js ks fit.1 vs h.1,
  )

  -- a place of a kind, in the scopes of the class of an override
  has_seen : (home now : Scope) (den2 : Scope → Place) (h : Scope) (j k : Kind) → Fits m.code.program home now j k →
      (v : Value) → Has m.code.program (memory m) (held (λ s. den2 (seen_as h Caller s)) k) v →
      Has m.code.program (memory m) (held den2 (seen_kind h Caller k)) v
  unfolding held seen_kind
  has_seen home now den2 h j number fit v x = x
  has_seen home now den2 h j truth fit v x = x
  has_seen home now den2 h j yes fit v x = x
  has_seen home now den2 h j (reference t s) fit v x = x
  has_seen home now den2 h number (fresh c s) fit v x = absurd fit
  has_seen home now den2 h truth (fresh c s) fit v x = absurd fit
  has_seen home now den2 h yes (fresh c s) fit v x = absurd fit
  has_seen home now den2 h (reference t r) (fresh c s) fit v x = absurd fit
  has_seen home now den2 h (fresh d r) (fresh c s) fit v x = absurd fit

  all_seen : (home now : Scope) (den2 : Scope → Place) (h : Scope) (js ks : List Kind) →
      AllFit m.code.program home now js ks → (vs : List Value) →
      AllHave m.code.program (memory m) (λ s. den2 (seen_as h Caller s)) ks vs →
      AllHave m.code.program (memory m) den2 (seen_kinds h Caller ks) vs
  unfolding seen_kinds
  all_seen home now den2 h [] [] fit [] x = tt
  all_seen home now den2 h [] [] fit (v ∷ vs) x = x
  all_seen home now den2 h [] (k ∷ ks) fit vs x = absurd fit
  all_seen home now den2 h (j ∷ js) [] fit vs x = absurd fit
  all_seen home now den2 h (j ∷ js) (k ∷ ks) fit [] x = absurd x
  all_seen home now den2 h (j ∷ js) (k ∷ ks) fit (v ∷ vs) x =
      (has_seen home now den2 h j k fit.0 v x.0, all_seen home now den2 h js ks fit.1 vs x.1)

  -- what the callee gives is what the caller waits for
  pub gives_fit : (den2 : Scope → Place) (h home now : Scope) → (h ≡ Any → ⊥) → den2 Any ≡ in_one None →
      ((s : Scope) → NamesArea (seen_as h Caller s) → IsInside (den2 (seen_as h Caller s)) (den m (seen_as home now s)))
      → (own static : Option Kind) → Gives m.code.program h own static →
      GivenFits m.code.program (held_option den2 own) (held_option (den m) (seen_option home now static))
  unfolding held_option held seen_option seen_kind
  gives_fit den2 h home now real none agree None None x = tt
  gives_fit den2 h home now real none agree None (Some k) x = absurd x
  gives_fit den2 h home now real none agree (Some j) None x = absurd x
  gives_fit den2 h home now real none agree (Some number) (Some number) x = tt
  gives_fit den2 h home now real none agree (Some truth) (Some truth) x = tt
  gives_fit den2 h home now real none agree (Some yes) (Some truth) x = tt
  gives_fit den2 h home now real none agree (Some (reference t s)) (Some (reference u r)) x = (go x.0.1, x.0.0)
    where
      nowhere : s ≡ Any → (n : ℕ) → LiesAt (den2 s) n → ⊥
      nowhere e n l =
          absurd (let x : LiesAt (in_one None) n = subst (λ q. LiesAt q n) (ap den2 e ∙ none) l in cc (x))

      go : GoesTo h Caller s r → IsInside (den2 s) (den m (seen_as home now r))
      go (inl e) n l = absurd (nowhere e n l)
      go (inr (inl e)) n l = absurd (subst (λ r. IsKnownResult (reference u r)) e x.1)
      go (inr (inr (inl e))) n l =
          agree r (subst NamesArea e.1 e.0) n (subst (λ s. LiesAt (den2 s) n) e.1 l)
      go (inr (inr (inr e))) n l = absurd (real e.1)
  gives_fit den2 h home now real none agree (Some _) (Some _) x = absurd x.0

  pub denote_caller : (this : Option ℕ) → denote (memory m) m.list this m.frame.area Caller ≡ the_area m.frame.area
  unfolding denote
  denote_caller this = refl

  -- ---- methods

  called : (id class : ℕ) (scope : Scope) (method : ℕ) (static : Signature) (v : Value)
      (o : IsObject m.code.program (memory m) (ClassTy class) (den m scope) v)
      (d : IsDispatched m.code.program o.object.class method static) → RunsHere scope m.sig.runs_in static.runs_in →
      (us : List Kind) → AllFit m.code.program scope m.sig.runs_in us static.takes → (args : List Value) →
      HoldAll m us args → (vs : List Value) →
      GoesOn m.code (memory m) m.list m.class m.sig m.frame (record m.frame { operands = vs })
      (seen_option scope m.sig.runs_in static.gives) →
      IsCalledIn m.code (memory m) m.list (record m.frame { operands = vs }) (Written d.body) (Some id) (Some o.r)
      m.frame.area → Ok m (Calls (record m.frame { operands = vs })
      (new_frame m.code (Written d.body) (Some id) (Some o.r) m.frame.area args))
  unfolding assigns new_frame IsOfType denote seen_as
  called id class scope method static v o d runs us fit args ah vs goes on_ =
      record {
        is = record {
          kind = seen_option scope m.sig.runs_in static.gives;
          goes = goes;
          class = d.own.on;
          own = d.own.sig;
          begins = begins m.code m.facts (memory m) m.list m.fine m.heap m.frame.area m.home.now_on_list o.r o.object
              o.found on d.own.on of_type d.body d.own.sig d.own.is_body (Some id) (ap den3 d.runs ∙ now_runs) args
              (subst (λ ks. AllHave m.code.program (memory m) den3 ks args) (sym d.takes)
              (all_seen scope m.sig.runs_in den3 d.own.is_body.home us static.takes fit args
              (all_fit (λ s. den3 (seen_as d.own.is_body.home Caller s)) scope m.sig.runs_in
              (never_any m scope o.object.area o.lies) unknown there us static.takes fit args ah)));
          unopened = refl;
          fits =
              gives_fit den3 d.own.is_body.home scope m.sig.runs_in real nowhere back d.own.sig.gives static.gives
              d.gives;
          on = on_;
        };
      }
    where
      on : is_among o.object.area m.list ≡ true
      on = on_list m scope o.object.area o.lies

      of_type : IsOfType m.code.program o.object.class (ClassTy d.own.on)
      of_type = (o.of_type.0, d.own.above)

      den3 : Scope → Place
      den3 = denote (memory m) m.list (Some o.r) m.frame.area

      -- THIS of the callee's class is where the object lies, and its caller sees it there, too
      here : den3 d.own.is_body.home ≡ the_area o.object.area
      here =
          home_denotes m.code m.facts (memory m) m.list m.fine m.heap m.frame.area m.home.now_on_list o.r o.object
          o.found
          on d.own.on of_type d.own.is_body.home d.own.is_body.is_home

      beside_here : den3 (beside d.own.is_body.home) ≡ the_area o.object.area
      beside_here =
          ap den3 (this_beside m.code.program d.own.on d.own.is_body.home d.own.is_body.is_home) ∙ here

      seen_there : LiesAt (den m (beside scope)) o.object.area
      seen_there = beside_there m scope o.object.area o.lies

      nowhere : den3 Any ≡ in_one None
      nowhere = refl

      real : d.own.is_body.home ≡ Any → ⊥
      real e =
          let x : LiesAt (in_one None) o.object.area =
          subst (λ q. LiesAt q o.object.area) (ap den3 e ∙ nowhere) (at_area (den3 d.own.is_body.home) o.object.area here)
          in
          absurd (cc (x))

      unknown : (s : Scope) → IsInside (den m s) (den3 (seen_as d.own.is_body.home Caller Unknown))
      unknown s a e = on_list m s a e

      -- what the caller sees in an area, the callee finds there
      there : (s : Scope) → NamesArea (seen_as scope m.sig.runs_in s) →
          IsInside (den m (seen_as scope m.sig.runs_in s)) (den3 (seen_as d.own.is_body.home Caller s))
      there This h n e =
          let x = denotes_area (memory m) m.list m.frame.this m.frame.area (beside scope) o.object.area h seen_there in
          let same : o.object.area ≡ n = area_at (den m (beside scope)) o.object.area n x e in
          subst (LiesAt (den3 (beside d.own.is_body.home))) same
          (at_area (den3 (beside d.own.is_body.home)) o.object.area beside_here)
      there Caller h n e = at_now n (area_at (den m m.sig.runs_in) m.frame.area n m.home.is_now e)
        where
          at_now : (n : ℕ) → m.frame.area ≡ n → LiesAt (den3 Caller) n
          at_now n same = ap (λ a. Some a) same
      there (In a) h n e = same_name n e
        where
          same_name : (n : ℕ) → LiesAt (den m (In a)) n → LiesAt (den3 (In a)) n
          same_name n e = e
      there Any h n e = absurd h
      there Unknown h n e = absurd h
      there Lost h n e = absurd h

      -- what the callee finds in an area, lies where its caller sees it
      back : (s : Scope) → NamesArea (seen_as d.own.is_body.home Caller s) →
          IsInside (den3 (seen_as d.own.is_body.home Caller s)) (den m (seen_as scope m.sig.runs_in s))
      back This h n e =
          let same : o.object.area ≡ n = area_at (den3 (beside d.own.is_body.home)) o.object.area n beside_here e in
          subst (LiesAt (den m (beside scope))) same seen_there
      back Caller h n e = subst (LiesAt (den m m.sig.runs_in)) (from_now n e) (at_area (den m m.sig.runs_in) m.frame.area m.home.is_now)
        where
          from_now : (n : ℕ) → LiesAt (den3 Caller) n → m.frame.area ≡ n
          from_now n e = some_inj m.frame.area n e
      back (In a) h n e = same_name n e
        where
          same_name : (n : ℕ) → LiesAt (den3 (In a)) n → LiesAt (den m (In a)) n
          same_name n e = e
      back Any h n e = absurd h
      back Unknown h n e = absurd h
      back Lost h n e = absurd h

      now_runs : den3 (seen_as d.own.is_body.home Caller static.runs_in) ≡ the_area m.frame.area
      now_runs = go runs
        where
          caller : den3 (seen_as d.own.is_body.home Caller Caller) ≡ the_area m.frame.area
          caller = refl

          this_ : scope ≡ m.sig.runs_in → den3 (seen_as d.own.is_body.home Caller This) ≡ the_area m.frame.area
          this_ e =
              let same : m.frame.area ≡ o.object.area = area_at (den m scope) m.frame.area o.object.area
              (ap (den m) e ∙ m.home.is_now) o.lies in
              beside_here ∙ ap the_area (sym same)

          named : (n : ℕ) → m.sig.runs_in ≡ In n →
              den3 (seen_as d.own.is_body.home Caller (In n)) ≡ the_area m.frame.area
          named n e = ap (den m) (sym e) ∙ m.home.is_now

          go : RunsHere scope m.sig.runs_in static.runs_in →
              den3 (seen_as d.own.is_body.home Caller static.runs_in) ≡ the_area m.frame.area
          go (inl e) = ap (λ s. den3 (seen_as d.own.is_body.home Caller s)) e ∙ caller
          go (inr (inl e)) =
              elim e.1 as (λ z. den3 (seen_as d.own.is_body.home Caller static.runs_in) ≡ the_area m.frame.area) [
                | inl a ↦ absurd (never_any m scope o.object.area o.lies a)
                | inr a ↦ ap (λ s. den3 (seen_as d.own.is_body.home Caller s)) e.0 ∙ this_ a
              ]
          go (inr (inr e)) = ap (λ s. den3 (seen_as d.own.is_body.home Caller s)) e.1 ∙ named e.0 e.2

  -- the class of an object is concrete, since it isn't an array's
  pub concrete : (r : ℕ) (o : Object) → m.world.object_at r ≡ Some o → array_type m.code.program o.class ≡ None →
      IsConcrete m.code.program o.class
  concrete r o found e =
      elim (m.heap r o found).is_instance as (λ z. IsConcrete m.code.program o.class) [
        | inl h ↦ h
        | inr h ↦ absurd (let x = sym e ∙ h.1 in cc (x))
      ]

  pub call_fine : (id : ℕ) → DoesThere m (CALL id)
  unfolding effect_of held IsOfType IsCalledBy node_of
  call_fine id l r =
      let n = r.1.needed in
      given_fine m _ _ n.method n.is
      (given_fine m _ _ (length n.arguments) n.count
      (arguments_fine m n.arguments (reference (ClassTy n.class) n.scope ∷ n.others) m.frame _
      (subst (λ x. HoldAll m x m.frame.operands) n.takes m.operands) (λ args rest ah rh.
      last args rest ah (next_taken m (reference (ClassTy n.class) n.scope) n.others rest rh))))
    where
      calls : {v : Value}
          (o : IsObject m.code.program (memory m) (ClassTy r.1.needed.class) (den m r.1.needed.scope) v)
          (d : IsDispatched m.code.program o.object.class r.1.needed.method r.1.needed.static) (vs : List Value) →
          IsCalledIn m.code (memory m) m.list (record m.frame { operands = vs }) (Written d.body) (Some id) (Some o.r)
          m.frame.area
      calls o d vs =
          record {
            op = CALL id;
            at = refl;
            pushers = r.0.pushers;
            came = r.0.came;
            class = m.class;
            sig = m.sig;
            in_class = m.runs;
            by = record {
              method = r.1.needed.method;
              is = r.1.needed.is;
              on = record { r = o.r; is = refl; object = o.object; found = o.found };
              runs = d.is;
              receiver = r.1.needed.receiver;
              is_receiver = r.1.needed.is_receiver;
              scope = r.1.needed.scope;
              of_receiver = r.1.needed.of_receiver;
              lies = o.lies;
              same_area = refl;
            };
          }

      last : (args rest : List Value) → HoldAll m r.1.needed.arguments args →
          Taken m (reference (ClassTy r.1.needed.class) r.1.needed.scope) r.1.needed.others rest →
          Ok m (pop (record m.frame { operands = rest }) (λ object f. as_object object (λ q.
          given (m.world.object_at q) (λ o. given (body_of m.code.program o.class r.1.needed.method) (λ body.
          Calls f (new_frame m.code body (Some id) (Some q) m.frame.area args))))))
      last args rest ah x =
          let n = r.1.needed in
          pop_fine m rest _ x.v x.rest x.is
          (object_fine m (ClassTy n.class) (den m n.scope) x.v _ x.has (λ o.
          let d =
          n.each o.object.class o.of_type.1
          (concrete o.r o.object o.found (m.facts.classes o.object.class o.of_type.0)) in
          given_fine m _ _ o.object o.found
          (given_fine m _ _ (Written d.body) d.is
          (called id n.class n.scope n.method n.static x.v o d n.runs n.arguments n.fit args ah x.rest
          (ready m x.rest m.frame.locals m.frame.rest (seen_option n.scope m.sig.runs_in n.static.gives) m.known
          n.others
          x.have m.locals (subst (FlowsOn m m.frame.rest m.known) n.leaves r.1.goes)
          (guards_left m l x.rest (seen_option n.scope m.sig.runs_in n.static.gives)))
          (calls o d x.rest)))))
