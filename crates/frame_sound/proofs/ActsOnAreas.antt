-- Calls of static methods, and `run` in a new area or in that of an object.
use Rattle.std.specs.Prelude.{Option, Some, None, if◌then◌else◌, ℤ, unsigned_abs}
use Rattle.std.specs.Int.{is_negative}
use Rattle.std.proofs.Common.{◌≡◌, ℕ, List, [], ◌∷◌, length, Bool, true, false, refl, sym, ◌∙◌, ap, subst, true≢false, inl, inr}
use Rattle.scj_base.specs.declared.faults.RunFault.TheVariants.{NegativeSize}
use Rattle.scj_base.specs.declared.values.Value.{Value}
use Rattle.scj_rules.specs.declared.typing.Ty.TheVariants.{Class as ClassTy}
use Rattle.scj_rules.specs.declared.typing.Scope.{Scope}
use Rattle.scj_rules.specs.declared.typing.Scope.TheVariants.{Any, This, Caller, In, Unknown, Lost}
use Rattle.scj_rules.specs.declared.views.Body.TheVariants.{Written}
use Rattle.scj_rules.specs.ScopeRules.{defined_by_chain}
use Rattle.accepted_laws.specs.Kinds.{Kind, number, truth, yes, reference, fresh, Fits, AllFit, GoesTo, seen_as, seen_kind, seen_option}
use Rattle.scj_model.specs.declared.operations.Op.TheVariants.{CallStatic as CALLSTATIC, Enter as ENTER, ExecuteIn as EXECUTEIN}
use Rattle.scj_model.specs.Ops.{body_ops, node_of}
use Rattle.scj_model.specs.Effects.{Opens, Faults, given, new_frame}
use Rattle.scj_model.specs.Operations.{effect_of, with_run}
use Rattle.scope_flow.specs.Slots.{IsOfType}
use Rattle.scope_flow.specs.Signatures.{Signature, IsBody, Runs, parameters_of, runs_for_object, IsWithoutThis, AreWithoutThis, Gives}
use Rattle.scope_flow.specs.Needs.{pushed}
use Rattle.scope_flow.proofs.Courses.{entry_courses}
use Rattle.frame_sound.specs.Places.{Place, in_one, the_area, LiesAt, area_named, denote, held, IsObject, Has, AllHave}
use Rattle.frame_sound.specs.Calls.{IsCalledBy}
use Rattle.frame_sound.specs.Fine.{Ready, held_option, GivenFits, IsInside}
use Rattle.frame_sound.proofs.Places.{IsNamed, named_is, at_area}
use Rattle.frame_sound.proofs.Begins.{locals_begin, begins}
use Rattle.frame_sound.proofs.GuardSteps.{begins_guarded}
use Rattle.frame_sound.proofs.Scenes.{Scene, memory, den, Holds, HoldAll, FlowsOn, Ok, take, next_taken, pop_fine, given_fine, int_fine, object_fine, arguments_fine, ready, guards_left, on_with, on_list, never_any}
use Rattle.frame_sound.proofs.ActsOnValues.{DoesThere}
use Rattle.frame_sound.proofs.ActsOnCalls.{concrete}

caller_is : (m : Scene) → denote (memory m) m.list None m.frame.area Caller ≡ the_area m.frame.area
unfolding denote
caller_is m = refl

as_named : (m : Scene) (a : ℕ) → LiesAt (den m (In a)) m.frame.area → area_named m.areas a m.list ≡ Some m.frame.area
unfolding denote
as_named m a h = h

named_now : (m : Scene) (a : ℕ) → m.sig.runs_in ≡ In a → area_named m.areas a m.list ≡ Some m.frame.area
named_now m a e =
    as_named m a
    (subst (λ s. LiesAt (den m s) m.frame.area) e (at_area (den m m.sig.runs_in) m.frame.area m.home.is_now))

named_there : (m : Scene) (a : ℕ) (this : Option ℕ) (now : ℕ) → LiesAt (den m (In a)) now →
    denote (memory m) m.list this now (In a) ≡ the_area now
unfolding denote
named_there m a this now e = ap (λ o. in_one o) e

gives_none : (m : Scene) (r now : ℕ) (sig : Signature) → sig.gives ≡ None →
    GivenFits m.code.program (held_option (denote (memory m) m.list (Some r) now) sig.gives) (held_option (den m) None)
unfolding held_option
gives_none m r now sig e =
    subst (λ x. GivenFits m.code.program (held_option (denote (memory m) m.list (Some r) now) x) None) (sym e) tt

first_without : (k : Kind) (ks : List Kind) → AreWithoutThis (k ∷ ks) → AreWithoutThis (k ∷ []) × AreWithoutThis ks
first_without (reference t s) ks w = ((w.0, tt), w.1)
first_without number ks w = (tt, w)
first_without truth ks w = (tt, w)
first_without yes ks w = (tt, w)
first_without (fresh c s) ks w = (tt, w)

module _ (m : Scene) where
  -- ---- static methods: no object, and CALLER is where they are called

  abbrev static_den : Scope → Place
  static_den = denote (memory m) m.list None m.frame.area

  -- a scope that isn't THIS lies at the same place for both
  static_agrees : (s : Scope) → IsWithoutThis s → static_den s ≡ den m (seen_as Any m.sig.runs_in s)
  unfolding denote seen_as
  static_agrees This w = absurd w
  static_agrees Caller w = sym m.home.is_now
  static_agrees (In a) w = refl
  static_agrees Any w = refl
  static_agrees Unknown w = refl
  static_agrees Lost w = refl

  static_unknown : (s : Scope) → IsInside (den m s) (static_den Unknown)
  unfolding denote
  static_unknown s a e = on_list m s a e

  static_fit : (j k : Kind) → AreWithoutThis (k ∷ []) → Fits m.code.program Any m.sig.runs_in j k → (v : Value) →
      Holds m j v → Has m.code.program (memory m) (held static_den k) v
  unfolding held
  static_fit number number w fit v h = h
  static_fit truth truth w fit v h = h
  static_fit yes truth w fit v h = (true, h)
  static_fit (reference t s) (reference u r) w fit v (inl e) = inl e
  static_fit (reference t s) (reference u r) w fit v (inr o) = go fit.1
    where
      moved : LiesAt (static_den r) o.object.area → Has m.code.program (memory m) (held static_den (reference u r)) v
      moved e =
          inr (record {
            r = o.r;
            is = o.is;
            object = o.object;
            found = o.found;
            of_type = m.facts.assigned o.object.class t u o.of_type fit.0;
            lies = e;
          })

      go : GoesTo Any m.sig.runs_in s r → Has m.code.program (memory m) (held static_den (reference u r)) v
      go (inl e) = absurd (never_any m s o.object.area o.lies e)
      go (inr (inl e)) =
          moved (subst (λ r. LiesAt (static_den r) o.object.area) (sym e) (static_unknown s o.object.area o.lies))
      go (inr (inr (inl e))) =
          moved (subst (λ q. LiesAt q o.object.area) (ap (den m) e.1 ∙ sym (static_agrees r w.0)) o.lies)
      go (inr (inr (inr e))) = absurd (subst IsWithoutThis e.0 w.0)
  static_fit _ _ w fit v h = absurd fit

  static_fits : (js ks : List Kind) → AreWithoutThis ks → AllFit m.code.program Any m.sig.runs_in js ks →
      (vs : List Value) → HoldAll m js vs → AllHave m.code.program (memory m) static_den ks vs
  static_fits [] [] w fit [] h = tt
  static_fits [] [] w fit (v ∷ vs) h = h
  static_fits [] (k ∷ ks) w fit vs h = absurd fit
  static_fits (j ∷ js) [] w fit vs h = absurd fit
  static_fits (j ∷ js) (k ∷ ks) w fit [] h = absurd h
  static_fits (j ∷ js) (k ∷ ks) w fit (v ∷ vs) h =
      let x = first_without k ks w in
      (static_fit j k x.0 fit.0 v h.0, static_fits js ks x.1 fit.1 vs h.1)

  static_gives : (o : Option Kind) → AreWithoutThis (pushed o []) → Gives m.code.program Any o o →
      GivenFits m.code.program (held_option static_den o) (held_option (den m) (seen_option Any m.sig.runs_in o))
  unfolding pushed held_option held seen_option seen_kind
  static_gives None w g = tt
  static_gives (Some number) w g = tt
  static_gives (Some truth) w g = tt
  static_gives (Some (reference t s)) w g = (λ n e. subst (λ q. LiesAt q n) (static_agrees s w.0) e, g.0.0)
  static_gives (Some yes) w g = absurd g.0
  static_gives (Some (fresh c s)) w g = absurd g.0

  static_begins : (id b on : ℕ) (sig : Signature) → IsBody m.code.program b on sig →
      runs_for_object m.code.program (Written b) ≡ false → sig.runs_in ≡ Caller → (args : List Value) →
      AllHave m.code.program (memory m) static_den sig.takes args →
      Ready m.code (memory m) m.list on sig (new_frame m.code (Written b) (Some id) None m.frame.area args) None
  unfolding Runs new_frame body_ops pushed
  static_begins id b on sig body without e args h =
      record {
        runs = body;
        home = record {
          own = λ f. absurd (true≢false (sym f ∙ without));
          on_list = λ r f. absurd (cc (f));
          now_on_list = m.home.now_on_list;
          is_now = ap static_den e ∙ caller_is m;
        };
        known = parameters_of m.code.program b;
        kinds = [];
        operands = tt;
        locals = locals_begin m.code.program (memory m) static_den b on sig body args h;
        flow = entry_courses m.code m.facts b on sig body;
        guards = begins_guarded m.code m.facts (memory m) b on sig body None _ None [];
      }

  pub call_static_fine : (id : ℕ) → DoesThere m (CALLSTATIC id)
  unfolding effect_of new_frame IsCalledBy node_of
  call_static_fine id l r =
      let n = r.1.needed in
      given_fine m _ _ n.method n.is
      (given_fine m _ _ (length n.arguments) n.count
      (given_fine m _ _ (Written n.body) n.is_body
      (arguments_fine m n.arguments n.others m.frame _
      (subst (λ x. HoldAll m x m.frame.operands) n.takes m.operands) (λ args rest ah rh.
      record {
        is = record {
          kind = seen_option Any m.sig.runs_in n.static.gives;
          goes =
              ready m rest m.frame.locals m.frame.rest (seen_option Any m.sig.runs_in n.static.gives) m.known n.others
              rh
              m.locals (subst (FlowsOn m m.frame.rest m.known) n.leaves r.1.goes)
              (guards_left m l rest (seen_option Any m.sig.runs_in n.static.gives));
          class = n.on;
          own = n.static;
          begins = static_begins id n.body n.on n.static n.has_signature n.for_no_object n.runs args
              (static_fits n.arguments n.static.takes n.takes_no_this n.fit args ah);
          unopened = refl;
          fits = static_gives n.static.gives n.gives_no_this n.gives_itself;
          on = record {
            op = CALLSTATIC id;
            at = refl;
            pushers = r.0.pushers;
            came = r.0.came;
            class = m.class;
            sig = m.sig;
            in_class = m.runs;
            by = record { method = n.method; is = n.is; runs = n.is_body; without = refl; same_area = refl };
          };
        };
      }))))

  -- ---- `run` in a new area

  pub enter_fine : (id : ℕ) → DoesThere m (ENTER id)
  unfolding effect_of held IsOfType new_frame IsCalledBy node_of
  enter_fine id l r =
      let n = r.1.needed in
      let x = take m (reference (ClassTy n.class) n.scope) (number ∷ r.1.out) n.takes in
      let y = next_taken m number r.1.out x.rest x.have in
      pop_fine m m.frame.operands _ x.v x.rest x.is
      (pop_fine m x.rest _ y.v y.rest y.is
      (object_fine m (ClassTy n.class) (den m n.scope) x.v _ x.has (λ o.
      int_fine m y.v _ y.has (λ z. go z (is_negative z) y.rest y.have x.v o))))
    where
      around : IsNamed m.areas r.1.needed.parent m.frame.area
      around = named_is m.areas r.1.needed.parent m.frame.area m.list (named_now m r.1.needed.parent r.1.needed.now)

      go : (z : ℤ) (t : Bool) (rest : List Value) → HoldAll m r.1.out rest → (v : Value)
          (o : IsObject m.code.program (memory m) (ClassTy r.1.needed.class) (den m r.1.needed.scope) v) →
          Ok m (if t then Faults NegativeSize
          else with_run m.code m.world o.r (λ p body. given (defined_by_chain m.code.program p.class) (λ scope.
          Opens (record m.frame { operands = rest }) (new_frame m.code body (Some id) (Some o.r) m.frame.area []) scope
          (unsigned_abs z))))
      go z true rest have v o = record { is = tt }
      go z false rest have v o =
          let e =
          r.1.needed.each o.object.class o.of_type.1
          (concrete m o.r o.object o.found (m.facts.classes o.object.class o.of_type.0)) in
          given_fine m _ _ o.object o.found
          (given_fine m _ _ (Written e.run.body) e.run.is
          (given_fine m _ _ r.1.needed.entered e.defines
          (record {
            is = record {
              goes = on_with m l rest r.1.out have r.1.goes;
              parent = r.1.needed.parent;
              is_parent = r.1.needed.is_parent;
              around = around.area;
              is_area = around.is_there;
              named = around.is_named;
              r = o.r;
              on_list = record {
                object = o.object;
                found = o.found;
                on_list = on_list m r.1.needed.scope o.object.area o.lies;
              };
              is_class = o.of_type.0;
              entered = e;
              called_at = Some id;
              is = refl;
              on = λ area. record {
                op = ENTER id;
                at = refl;
                pushers = r.0.pushers;
                came = r.0.came;
                class = m.class;
                sig = m.sig;
                in_class = m.runs;
                by = record {
                  on = record { r = o.r; is = refl; object = o.object; found = o.found };
                  runs = e.run.is;
                };
              };
            };
          })))

  -- ---- `run` in the area of an object

  pub execute_in_fine : (id : ℕ) → DoesThere m (EXECUTEIN id)
  unfolding effect_of held IsOfType new_frame IsCalledBy node_of
  execute_in_fine id l r =
      let n = r.1.needed in
      let x = take m (reference (ClassTy n.class) n.scope) (reference n.type (In n.area) ∷ r.1.out) n.takes in
      let y = next_taken m (reference n.type (In n.area)) r.1.out x.rest x.have in
      pop_fine m m.frame.operands _ x.v x.rest x.is
      (pop_fine m x.rest _ y.v y.rest y.is
      (object_fine m n.type (den m (In n.area)) y.v _ y.has (λ there.
      object_fine m (ClassTy n.class) (den m n.scope) x.v _ x.has (λ o.
      let e =
      n.each o.object.class o.of_type.1
      (concrete m o.r o.object o.found (m.facts.classes o.object.class o.of_type.0)) in
      given_fine m _ _ there.object there.found
      (given_fine m _ _ o.object o.found
      (given_fine m _ _ (Written e.run.body) e.run.is
      (record {
        is = record {
          kind = None;
          goes = on_with m l y.rest r.1.out y.have r.1.goes;
          class = e.run.own.on;
          own = e.run.own.sig;
          begins = begins m.code m.facts (memory m) m.list m.fine m.heap there.object.area
              (on_list m (In n.area) there.object.area there.lies) o.r o.object o.found
              (on_list m n.scope o.object.area o.lies) e.run.own.on (o.of_type.0, e.run.own.above) e.run.body
              e.run.own.sig
              e.run.own.is_body (Some id)
              (ap (denote (memory m) m.list (Some o.r) there.object.area) e.runs
              ∙ named_there m n.area (Some o.r) there.object.area there.lies) []
              (subst (λ ks. AllHave m.code.program (memory m) (denote (memory m) m.list (Some o.r) there.object.area) ks
              []) (sym e.run.takes) tt);
          unopened = refl;
          fits = gives_none m o.r there.object.area e.run.own.sig e.run.gives;
          on = record {
            op = EXECUTEIN id;
            at = refl;
            pushers = r.0.pushers;
            came = r.0.came;
            class = m.class;
            sig = m.sig;
            in_class = m.runs;
            by = record {
              on = record { r = o.r; is = refl; object = o.object; found = o.found };
              runs = e.run.is;
            };
          };
        };
      })))))))
