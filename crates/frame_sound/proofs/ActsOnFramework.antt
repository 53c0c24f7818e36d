-- Casts, and the operations that the framework's methods are: ceilings, the trace, ports, handlers, missions,
-- parameters.
use Rattle.std.specs.Prelude.{Option, Some, None, ◌==◌, not, map, if◌then◌else◌, ℤ, pos, unsigned_abs}
use Rattle.std.specs.Int.{is_negative}
use Rattle.std.proofs.Common.{◌≡◌, ℕ, zero, suc, ◌<◌, List, [], ◌∷◌, length, Bool, true, false, refl, sym, ◌∙◌, ap, subst, arith, true≢false, inl, inr}
use Rattle.std.proofs.lemmas.Bool.Decides.{nat_tests}
use Rattle.scj_base.specs.declared.faults.RunFault.TheVariants.{ClassCast, NegativeSize, BadPriority, BadPeriod, BadPort}
use Rattle.scj_base.specs.declared.values.Value.{Value}
use Rattle.scj_base.specs.declared.values.Value.TheVariants.{Int, Bool as Truth, Null, At}
use Rattle.scj_builtins.specs.Framework.{mission_sequencer, periodic_handler}
use Rattle.scj_rules.specs.declared.typing.Ty.{Ty}
use Rattle.scj_rules.specs.declared.typing.Ty.TheVariants.{Class as ClassTy, IntArray, BoolArray, ClassArray}
use Rattle.scj_rules.specs.Classes.{is_sub}
use Rattle.scj_rules.specs.Types.{is_array}
use Rattle.accepted_laws.specs.Kinds.{Kind, number, truth, reference}
use Rattle.scj_model.specs.declared.operations.Op.TheVariants.{Cast as CAST, Same as SAME, SetCeiling as SETCEILING, Print as PRINT, Read as READ, Register as REGISTER, Release as RELEASE, Terminate as TERMINATE, Params as PARAMS}
use Rattle.scj_model.specs.State.{Object, Frame}
use Rattle.scj_model.specs.Effects.{Effect, Goes, SetsHidden, SetsCeiling, Faults, Stuck, given, pushes, pop_all}
use Rattle.scj_model.specs.Operations.{effect_of, with_area, are_one_area, is_priority, is_port, times_of, periodic_parameters, right_parameters}
use Rattle.scope_flow.specs.Slots.{IsOfType}
use Rattle.scope_flow.specs.Signatures.{runs_for_object}
use Rattle.scope_flow.specs.Needs.{numbers, stacked, parameter_count, hidden_count, HasHidden}
use Rattle.frame_sound.specs.Guards.{AreTogether}
use Rattle.frame_sound.specs.Places.{Place, LiesAt, held, an_object, IsObject, Has}
use Rattle.frame_sound.specs.EffectsFine.{AreInts, IsThere}
use Rattle.frame_sound.proofs.Scenes.{on_list, Scene, memory, den, Holds, HoldAll, FlowsOn, LeftGuards, Ok, take, next_taken, pop_fine, given_fine, int_fine, object_fine, arguments_fine, on_with, goes_fine, never_any, guards_left, goes_guarded, GuardedWith}
use Rattle.frame_sound.proofs.ActsOnValues.{NeedsNext, Does}

module _ (m : Scene) where
  -- ---- casts

  -- an object of a type that is no array's is an object of a class
  is_class : (class : ℕ) (t : Ty) → is_array t ≡ false → IsOfType m.code.program class t →
      class < length m.code.program.classes
  unfolding is_array IsOfType
  is_class class (ClassTy c) e h = h.0
  is_class class IntArray e h = absurd (true≢false e)
  is_class class BoolArray e h = absurd (true≢false e)
  is_class class (ClassArray c) e h = absurd (true≢false e)
  is_class class _ e h = absurd h

  pub cast_fine : (id : ℕ) → Does m (CAST id)
  unfolding effect_of held IsOfType
  cast_fine id l r =
      let n = r.needed in
      let x = take m (reference n.type n.scope) n.others n.takes in
      given_fine m _ _ n.class n.is
      (pop_fine m m.frame.operands _ x.v x.rest x.is (go x.v x.has x.rest x.have))
    where
      passes : (v : Value) → Holds m (reference (ClassTy r.needed.class) r.needed.seen) v → (rest : List Value) →
          HoldAll m r.needed.others rest → Ok m (pushes (record m.frame { operands = rest }) v)
      passes v h rest have =
          goes_fine m l (v ∷ rest) (reference (ClassTy r.needed.class) r.needed.seen ∷ r.needed.others) (h, have)
          (subst (FlowsOn m m.frame.rest m.known) r.needed.leaves r.goes)

      lies : (o : Object) → LiesAt (den m r.needed.scope) o.area → LiesAt (den m r.needed.seen) o.area
      lies o e =
          elim r.needed.lies as (λ z. LiesAt (den m r.needed.seen) o.area) [
            | inl f ↦ absurd (never_any m r.needed.scope o.area e f)
            | inr f ↦ subst (λ s. LiesAt (den m s) o.area) (sym f) e
          ]

      tested : (t : Bool) (v : Value) (o : IsObject m.code.program (memory m) r.needed.type (den m r.needed.scope) v) →
          is_sub m.code.program.classes o.object.class r.needed.class ≡ t → (rest : List Value) →
          HoldAll m r.needed.others rest →
          Ok m (if t then pushes (record m.frame { operands = rest }) (At o.r) else Faults ClassCast)
      tested true v o e rest have =
          passes (At o.r)
          (inr (record {
            r = o.r;
            is = refl;
            object = o.object;
            found = o.found;
            of_type = (is_class o.object.class r.needed.type r.needed.is_no_array o.of_type, e);
            lies = lies o.object o.lies;
          })) rest have
      tested false v o e rest have = record { is = tt }

      go : (v : Value) → Holds m (reference r.needed.type r.needed.scope) v → (rest : List Value) →
          HoldAll m r.needed.others rest →
          Ok m (elim v [
            | Null ↦ pushes (record m.frame { operands = rest }) Null
            | At q ↦ given (m.world.object_at q) (λ o.
                if is_sub m.code.program.classes o.class r.needed.class then pushes (record m.frame { operands = rest })
                (At q)
                else Faults ClassCast)
            | Int z ↦ Stuck
            | Truth b ↦ Stuck
          ])
      go v (inl e) rest have =
          subst (λ x. Ok m (elim x [
            | Null ↦ pushes (record m.frame { operands = rest }) Null
            | At q ↦ given (m.world.object_at q) (λ o.
                if is_sub m.code.program.classes o.class r.needed.class then pushes (record m.frame { operands = rest })
                (At q)
                else Faults ClassCast)
            | Int z ↦ Stuck
            | Truth b ↦ Stuck
          ])) (sym e) (passes Null (inl refl) rest have)
      go v (inr o) rest have =
          subst (λ x. Ok m (elim x [
            | Null ↦ pushes (record m.frame { operands = rest }) Null
            | At q ↦ given (m.world.object_at q) (λ o.
                if is_sub m.code.program.classes o.class r.needed.class then pushes (record m.frame { operands = rest })
                (At q)
                else Faults ClassCast)
            | Int z ↦ Stuck
            | Truth b ↦ Stuck
          ])) (sym o.is) (given_fine m _ _ o.object o.found (tested _ v o refl rest have))

  -- ---- calls of the framework

  -- the area in which the object of a value lies
  record LiesThere (v : Value) (area : ℕ) : Type 0 where
    r : ℕ
    is : v ≡ At r
    object : Object
    found : m.world.object_at r ≡ Some object
    lies : object.area ≡ area

  abbrev IsAreaOf : Value → Option ℕ → Type 0
  IsAreaOf v None = Unit {0}
  IsAreaOf v (Some area) = LiesThere v area

  area_fine : (t : Ty) (a : Place) (v : Value) (next : Option ℕ → Effect) →
      Has m.code.program (memory m) (an_object t a) v → ((area : Option ℕ) → IsAreaOf v area → Ok m (next area)) →
      Ok m (with_area m.world v next)
  area_fine t a v next (inl e) go = subst (λ x. Ok m (with_area m.world x next)) (sym e) (go None tt)
  area_fine t a v next (inr o) go =
      subst (λ x. Ok m (with_area m.world x next)) (sym o.is)
      (given_fine m (m.world.object_at o.r) _ o.object o.found (go (Some o.object.area)
      (record { r = o.r; is = o.is; object = o.object; found = o.found; lies = refl })))

  together : (u v : Value) (a b : Option ℕ) → IsAreaOf u a → IsAreaOf v b → are_one_area a b ≡ true →
      AreTogether (memory m) u v
  together u v None b x y e = absurd (true≢false (sym e))
  together u v (Some a) None x y e = absurd (true≢false (sym e))
  together u v (Some a) (Some b) x y e =
      record {
        r = x.r;
        s = y.r;
        is_first = x.is;
        is_second = y.is;
        first = x.object;
        second = y.object;
        first_found = x.found;
        second_found = y.found;
        one_area = (let h = x.lies in let k = y.lies in grind (arith, nat_tests));
      }

  pub same_guarded : (id : ℕ) →
      ((a b : Value) (rest : List Value) (t : Bool) → m.frame.operands ≡ b ∷ (a ∷ rest) →
      (t ≡ true → AreTogether (memory m) a b) → GuardedWith m (Truth t ∷ rest)) → NeedsNext m (SAME id) →
      Ok m (effect_of m.code m.world m.frame (SAME id))
  unfolding effect_of held
  same_guarded id g r =
      let n = r.needed in
      let x =
      take m (reference n.second_type n.second_scope) (reference n.first_type n.first_scope ∷ n.others) n.takes in
      let y = next_taken m (reference n.first_type n.first_scope) n.others x.rest x.have in
      pop_fine m m.frame.operands _ x.v x.rest x.is
      (pop_fine m x.rest _ y.v y.rest y.is
      (area_fine n.first_type (den m n.first_scope) y.v _ y.has (λ a is_a.
      area_fine n.second_type (den m n.second_scope) x.v _ x.has (λ b is_b.
      answers (are_one_area a b) y.rest y.have (g y.v x.v y.rest (are_one_area a b)
      (x.is ∙ ap (λ vs. x.v ∷ vs) y.is) (together y.v x.v a b is_a is_b))))))
    where
      answers : (t : Bool) (rest : List Value) → HoldAll m r.needed.others rest → GuardedWith m (Truth t ∷ rest) →
          Ok m (pushes (record m.frame { operands = rest }) (Truth t))
      answers t rest have guarded =
          goes_guarded m (Truth t ∷ rest) (truth ∷ r.needed.others) ((t, refl), have)
          (subst (FlowsOn m m.frame.rest m.known) r.needed.leaves r.goes) guarded

  pub same_fine : (id : ℕ) → Does m (SAME id)
  same_fine id l r = same_guarded id (λ a b rest t e h. guards_left m l (Truth t ∷ rest) None) r

  pub set_ceiling_fine : (id : ℕ) → Does m (SETCEILING id)
  unfolding effect_of held
  set_ceiling_fine id l r =
      let n = r.needed in
      let x = take m number (reference n.type n.scope ∷ r.out) n.takes in
      let y = next_taken m (reference n.type n.scope) r.out x.rest x.have in
      pop_fine m m.frame.operands _ x.v x.rest x.is
      (pop_fine m x.rest _ y.v y.rest y.is
      (object_fine m n.type (den m n.scope) y.v _ y.has (λ o.
      int_fine m x.v _ x.has
      (λ z. go z (is_priority z) y.rest y.have o.r (record { object = o.object; found = o.found })))))
    where
      go : (z : ℤ) (t : Bool) (rest : List Value) → HoldAll m r.out rest → (q : ℕ) → IsThere (memory m) q →
          Ok m (if t then SetsCeiling (record m.frame { operands = rest }) q (unsigned_abs z) else Faults BadPriority)
      go z true rest have q there = record { is = (on_with m l rest r.out have r.goes, there) }
      go z false rest have q there = record { is = tt }

  pub print_fine : (id : ℕ) → Does m (PRINT id)
  unfolding effect_of held
  print_fine id l r =
      let n = r.needed in
      let x = take m number r.out n.takes in
      given_fine m _ _ n.label n.is
      (pop_fine m m.frame.operands _ x.v x.rest x.is
      (int_fine m x.v _ x.has (λ z. record { is = on_with m l x.rest r.out x.have r.goes })))

  pub read_fine : (id : ℕ) → Does m (READ id)
  unfolding effect_of held
  read_fine id l r =
      let n = r.needed in
      let x = take m number n.others n.takes in
      pop_fine m m.frame.operands _ x.v x.rest x.is
      (int_fine m x.v _ x.has (λ z. go (is_port z) (m.world.reading (unsigned_abs z)) x.rest x.have))
    where
      go : (t : Bool) (z : ℤ) (rest : List Value) → HoldAll m r.needed.others rest →
          Ok m (if t then pushes (record m.frame { operands = rest }) (Int z) else Faults BadPort)
      go true z rest have =
          goes_fine m l (Int z ∷ rest) (number ∷ r.needed.others) ((z, refl), have)
          (subst (FlowsOn m m.frame.rest m.known) r.needed.leaves r.goes)
      go false z rest have = record { is = tt }

  pub register_fine : (id : ℕ) → Does m (REGISTER id)
  unfolding effect_of held IsOfType
  register_fine id l r =
      let n = r.needed.receiver in
      let x = take m (reference (ClassTy n.class) n.scope) r.out n.takes in
      pop_fine m m.frame.operands _ x.v x.rest x.is
      (object_fine m (ClassTy n.class) (den m n.scope) x.v _ x.has (λ o.
      record {
        is = (
          on_with m l x.rest r.out x.have r.goes,
          record {
            there = record {
              object = o.object;
              found = o.found;
              on_list = on_list m n.scope o.object.area o.lies;
            };
            is_handler = r.needed.are_handlers o.object.class o.of_type.1;
          },
        );
      }))

  pub release_fine : (id : ℕ) → Does m (RELEASE id)
  unfolding effect_of held
  release_fine id l r =
      let n = r.needed in
      let x = take m (reference (ClassTy n.class) n.scope) r.out n.takes in
      pop_fine m m.frame.operands _ x.v x.rest x.is
      (object_fine m (ClassTy n.class) (den m n.scope) x.v _ x.has (λ o.
      record { is = (on_with m l x.rest r.out x.have r.goes, record { object = o.object; found = o.found }) }))

  pub terminate_fine : (id : ℕ) → Does m (TERMINATE id)
  unfolding effect_of held
  terminate_fine id l r =
      let n = r.needed in
      let x = take m (reference (ClassTy n.class) n.scope) r.out n.takes in
      pop_fine m m.frame.operands _ x.v x.rest x.is
      (object_fine m (ClassTy n.class) (den m n.scope) x.v _ x.has (λ o.
      record { is = (on_with m l x.rest r.out x.have r.goes, record { object = o.object; found = o.found }) }))

  -- ---- the parameters of handlers and sequencers

  record Ints (n : ℕ) (args : List Value) : Type 0 where
    ints : List ℤ
    are : args ≡ map (λ (z : ℤ). Int z) ints
    many : length ints ≡ n

  ints_of : (n : ℕ) (args : List Value) → HoldAll m (numbers n) args → Ints n args
  unfolding held
  ints_of zero [] h = record { ints = []; are = refl; many = refl }
  ints_of zero (v ∷ vs) h = absurd h
  ints_of (suc n) [] h = absurd h
  ints_of (suc n) (v ∷ vs) h =
      let q = ints_of n vs h.1 in
      record {
        ints = h.0.0 ∷ q.ints;
        are = ap (λ x. x ∷ vs) h.0.1 ∙ ap (λ (xs : List Value). Int h.0.0 ∷ xs) q.are;
        many = ap suc q.many;
      }

  module _ (l : LeftGuards m m.frame.rest) (body : runs_for_object m.code.program m.frame.body ≡ true)
      (superclass : ℕ)
      (hidden : HasHidden m.code.program m.class (hidden_count superclass)) (rest : List Value) (out : List Kind)
      (have : HoldAll m out rest) (goes : FlowsOn m m.frame.rest m.known out) where
    abbrev after : Frame
    after = record m.frame { operands = rest }

    -- the hidden slots of the own object are set
    hides : (values : List Value) → AreInts values → length values ≡ hidden_count superclass →
        Ok m (SetsHidden after (m.home.own body).r values)
    unfolding IsOfType
    hides values ints many =
        let own = m.home.own body in
        record {
          is = (
            on_with m l rest out have goes,
            record {
              object = own.object;
              found = own.found;
              is_no_array = m.facts.classes own.object.class own.of_type.0;
              are_ints = ints;
              are_hidden = λ slot l. hidden own.object.class slot own.of_type.0 own.of_type.1 (omega (arith, l, many));
            },
          );
        }

    right_fine : (args : List Value) → Ints 2 args → (next : ℤ → ℤ → Effect) → ((x y : ℤ) → Ok m (next x y)) →
        Ok m (right_parameters args next)
    right_fine args q next h = subst (λ xs. Ok m (right_parameters xs next)) (sym q.are) (go q.ints q.many)
      where
        checked : (x y : ℤ) (s t : Bool) →
            Ok m (if s then Faults BadPriority else (if t then Faults NegativeSize else next x y))
        checked x y true t = record { is = tt }
        checked x y false true = record { is = tt }
        checked x y false false = h x y

        go : (zs : List ℤ) → length zs ≡ 2 → Ok m (right_parameters (map (λ (z : ℤ). Int z) zs) next)
        go [] l = absurd (omega (arith, l))
        go (x ∷ []) l = absurd (omega (arith, l))
        go (x ∷ y ∷ []) l = checked x y (not (is_priority x)) (is_negative y)
        go (x ∷ y ∷ z ∷ zs) l = absurd (omega (arith, l))

    periodic_fine : hidden_count superclass ≡ 4 → (args : List Value) → Ints 6 args →
        Ok m (periodic_parameters after (m.home.own body).r args)
    periodic_fine four args q =
        subst (λ xs. Ok m (periodic_parameters after (m.home.own body).r xs)) (sym q.are) (go q.ints q.many)
      where
        checked : (p s : ℤ) (x y : Bool) (o : Option (ℕ × ℕ)) →
            Ok m (if x then Faults BadPriority
            else (elim o [
              | None ↦ Faults BadPeriod
              | Some times ↦
                  if y then Faults NegativeSize
                  else SetsHidden after (m.home.own body).r
                  (Int p ∷ Int s ∷ Int (pos times.0) ∷ Int (pos times.1) ∷ [])
            ]))
        checked p s true y o = record { is = tt }
        checked p s false y None = record { is = tt }
        checked p s false true (Some times) = record { is = tt }
        checked p s false false (Some times) =
            hides (Int p ∷ Int s ∷ Int (pos times.0) ∷ Int (pos times.1) ∷ [])
            ((p, refl), ((s, refl), ((pos times.0, refl), ((pos times.1, refl), tt)))) (sym four)

        go : (zs : List ℤ) → length zs ≡ 6 →
            Ok m (periodic_parameters after (m.home.own body).r (map (λ (z : ℤ). Int z) zs))
        go [] l = absurd (omega (arith, l))
        go (a ∷ []) l = absurd (omega (arith, l))
        go (a ∷ b ∷ []) l = absurd (omega (arith, l))
        go (a ∷ b ∷ c ∷ []) l = absurd (omega (arith, l))
        go (a ∷ b ∷ c ∷ d ∷ []) l = absurd (omega (arith, l))
        go (a ∷ b ∷ c ∷ d ∷ e ∷ []) l = absurd (omega (arith, l))
        go (a ∷ b ∷ c ∷ d ∷ e ∷ f ∷ []) l = checked a f (not (is_priority a)) (is_negative f) (times_of b c d e)
        go (a ∷ b ∷ c ∷ d ∷ e ∷ f ∷ g ∷ zs) l = absurd (omega (arith, l))

  pub params_fine : (id : ℕ) → Does m (PARAMS id)
  unfolding effect_of parameter_count hidden_count
  params_fine id l r =
      let n = r.needed in
      let own = m.home.own n.for_object in
      given_fine m _ _ n.superclass n.is
      (given_fine m _ _ own.r own.is
      (by_class (n.superclass == periodic_handler) refl (n.superclass == mission_sequencer) refl))
    where
      by_class : (s : Bool) → (r.needed.superclass == periodic_handler) ≡ s → (t : Bool) →
          (r.needed.superclass == mission_sequencer) ≡ t →
          Ok m (if s then pop_all 6 m.frame
          (λ values f. periodic_parameters f (m.home.own r.needed.for_object).r values)
          else (if t then pop_all 2 m.frame (λ values f. right_parameters values (λ priority storage. Goes f))
          else (pop_all 2 m.frame (λ values f.
          right_parameters values (λ priority storage.
          SetsHidden f (m.home.own r.needed.for_object).r (Int priority ∷ Int storage ∷ []))))))
      by_class true e t f =
          let k : parameter_count r.needed.superclass ≡ 6 = ap (λ x. if x then 6 else 2) e in
          arguments_fine m (numbers 6) r.out m.frame
          (λ values f. periodic_parameters f (m.home.own r.needed.for_object).r values)
          (subst (λ k. HoldAll m (stacked (numbers k) r.out) m.frame.operands) k
          (subst (λ ks. HoldAll m ks m.frame.operands) r.needed.takes m.operands)) (λ args rest ah rh.
          periodic_fine l r.needed.for_object r.needed.superclass r.needed.hidden rest r.out rh r.goes
          (ap (λ (x : Bool). if x then 4 else (if r.needed.superclass == mission_sequencer then 0 else 2)) e) args
          (ints_of 6 args ah))
      by_class false e true f =
          let k : parameter_count r.needed.superclass ≡ 2 = ap (λ x. if x then 6 else 2) e in
          arguments_fine m (numbers 2) r.out m.frame
          (λ values f. right_parameters values (λ priority storage. Goes f))
          (subst (λ k. HoldAll m (stacked (numbers k) r.out) m.frame.operands) k
          (subst (λ ks. HoldAll m ks m.frame.operands) r.needed.takes m.operands)) (λ args rest ah rh.
          right_fine l r.needed.for_object r.needed.superclass r.needed.hidden rest r.out rh r.goes args
          (ints_of 2 args ah)
          (λ x y. Goes (record m.frame { operands = rest })) (λ x y. goes_fine m l rest r.out rh r.goes))
      by_class false e false f =
          let k : parameter_count r.needed.superclass ≡ 2 = ap (λ x. if x then 6 else 2) e in
          let two : hidden_count r.needed.superclass ≡ 2 =
          ap (λ (x : Bool). if x then 4 else (if r.needed.superclass == mission_sequencer then 0 else 2)) e
          ∙ ap (λ (x : Bool). if x then 0 else 2) f in
          arguments_fine m (numbers 2) r.out m.frame
          (λ values f. right_parameters values (λ priority storage.
          SetsHidden f (m.home.own r.needed.for_object).r (Int priority ∷ Int storage ∷ [])))
          (subst (λ k. HoldAll m (stacked (numbers k) r.out) m.frame.operands) k
          (subst (λ ks. HoldAll m ks m.frame.operands) r.needed.takes m.operands)) (λ args rest ah rh.
          right_fine l r.needed.for_object r.needed.superclass r.needed.hidden rest r.out rh r.goes args
          (ints_of 2 args ah)
          (λ x y. SetsHidden (record m.frame { operands = rest }) (m.home.own r.needed.for_object).r
          (Int x ∷ Int y ∷ []))
          (λ x y. hides l r.needed.for_object r.needed.superclass r.needed.hidden rest r.out rh r.goes
          (Int x ∷ Int y ∷ [])
          ((x, refl), ((y, refl), tt)) (sym two)))
