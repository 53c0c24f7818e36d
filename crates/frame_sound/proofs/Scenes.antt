-- A frame that is about to act, with all that is known of it; and the small steps of operations: what each finds is
-- there.
use Rattle.std.specs.Prelude.{Option, Some, None, slice_get, slice_set, ◌==◌, ℤ}
use Rattle.std.proofs.Common.{◌≡◌, ℕ, zero, suc, ◌<◌, List, [], ◌∷◌, length, Bool, true, refl, sym, ◌∙◌, ap, subst, arith, inl, inr}
use Rattle.std.proofs.lemmas.Bool.Decides.{nat_tests}
use Rattle.scj_base.specs.declared.values.Value.{Value}
use Rattle.scj_base.specs.declared.values.Value.TheVariants.{Bool as Truth}
use Rattle.scj_rules.specs.declared.typing.Scope.{Scope}
use Rattle.scj_rules.specs.declared.typing.Scope.TheVariants.{Any, This, Caller, In, Unknown, Lost}
use Rattle.scj_rules.specs.declared.typing.Ty.{Ty}
use Rattle.scj_rules.specs.Words.{is_among}
use Rattle.scj_rules.specs.StaticScopes.{beside}
use Rattle.accepted_laws.specs.Kinds.{Kind, kind_of_variable, Fits, seen_as}
use Rattle.accepted_laws.proofs.Lists.{get_set_same, get_set_other, length_set, get_within}
use Rattle.accepted_laws.proofs.Tools.{some_inj}
use Rattle.scj_model.specs.declared.operations.Op.{Op}
use Rattle.scj_model.specs.Code.{Code}
use Rattle.scj_model.specs.State.{MemoryArea, Frame}
use Rattle.scj_model.specs.Effects.{Effect, Goes, Stuck, given, pop, pop_from, pop_all, as_int, as_truth, as_reference, as_object}
use Rattle.scj_model.specs.Operations.{Environment}
use Rattle.scope_flow.specs.Signatures.{Signature, Runs, variables_in}
use Rattle.scope_flow.specs.Needs.{pushed, stacked, IsVariable}
use Rattle.scope_flow.specs.Ways.{Course}
use Rattle.scope_flow.specs.Facts.{Facts}
use Rattle.scope_flow.proofs.Known.{bool_cases, or_cases}
use Rattle.scj_rules.specs.declared.typing.Guard.{Guard}
use Rattle.scope_flow.specs.Guards.{guard_of, Rest}
use Rattle.frame_sound.specs.Guards.{GuardHolds, GuardsFine, on_no_way}
use Rattle.frame_sound.specs.Places.{World, Place, in_one, LiesAt, denote, held, a_number, an_object, IsObject, Has, AllHave}
use Rattle.frame_sound.specs.Fine.{ListFine, HeapFine, StaticsFine, Home, HoldsNullOr, LocalFine, LocalsFine, IsInside}
use Rattle.frame_sound.specs.EffectsFine.{IsSame, GoesOn, Fine}
use Rattle.frame_sound.proofs.Places.{IsView, denote_on, has_fits}

-- a frame without the operation that is next, in a body of a class
pub record Scene : Type 0 where
  pub code : Code
  pub facts : Facts code
  pub areas : ℕ → Option MemoryArea
  pub world : Environment
  pub list : List ℕ
  pub class : ℕ
  pub sig : Signature
  pub frame : Frame
  pub known : List ℕ
  pub kinds : List Kind
  pub fine : ListFine areas list
  pub heap : HeapFine code.program (record { areas = areas; objects = world.object_at })
  pub statics : StaticsFine code.program (record { areas = areas; objects = world.object_at }) world.statics
  pub runs : Runs code.program frame.body class sig
  pub home : Home code.program (record { areas = areas; objects = world.object_at }) list class sig frame.body
      frame.this frame.area
  pub operands : AllHave code.program (record { areas = areas; objects = world.object_at })
      (denote (record { areas = areas; objects = world.object_at }) list frame.this frame.area) kinds frame.operands
  pub locals : LocalsFine code.program (record { areas = areas; objects = world.object_at })
      (denote (record { areas = areas; objects = world.object_at }) list frame.this frame.area) frame.body known
      frame.locals

abbrev pub memory : Scene → World
memory m = record { areas = m.areas; objects = m.world.object_at }

abbrev pub den : Scene → Scope → Place
den m = denote (memory m) m.list m.frame.this m.frame.area

abbrev pub Holds : Scene → Kind → Value → Type 0
Holds m k v = Has m.code.program (memory m) (held (den m) k) v

abbrev pub HoldAll : Scene → List Kind → List Value → Type 0
HoldAll m ks vs = AllHave m.code.program (memory m) (den m) ks vs

abbrev pub FlowsOn : Scene → List Op → List ℕ → List Kind → Type 0
FlowsOn m ops ks s = Course m.code m.frame.body m.class m.sig ops ks s

-- the frame is on no way to a guard where these operations are left: they stand in the first parts of `if`s, of which
-- those that are guards hold
pub record LeftGuards (m : Scene) (ops : List Op) : Type 0 where
  pub around : List ℕ
  pub holds : (number : ℕ) (guard : Guard) → is_among number around ≡ true → guard_of m.code number ≡ Some guard →
      GuardHolds m.code.program (memory m) m.frame.body m.frame.this m.frame.locals guard
  pub rest : Rest m.code m.frame.body around ops

-- what the frame knows of guards where it goes on with these operands
abbrev pub GuardedWith : Scene → List Value → Type 0
GuardedWith m vs =
    GuardsFine m.code (memory m) m.frame.body m.frame.this m.frame.locals None vs m.frame.rest

abbrev pub Ok : Scene → Effect → Type 0
Ok m e = Fine m.code (memory m) m.list m.class m.sig m.frame e

module _ (m : Scene) where
  -- ---- what is taken

  pub record Taken (k : Kind) (others : List Kind) (vs : List Value) : Type 0 where
    pub v : Value
    pub rest : List Value
    pub is : vs ≡ v ∷ rest
    pub has : Holds m k v
    pub have : HoldAll m others rest

  pub taken : (ks : List Kind) (k : Kind) (others : List Kind) → ks ≡ k ∷ others → (vs : List Value) →
      HoldAll m ks vs → Taken k others vs
  taken ks k others e vs h = go vs (subst (λ x. HoldAll m x vs) e h)
    where
      go : (vs : List Value) → HoldAll m (k ∷ others) vs → Taken k others vs
      go [] h = absurd h
      go (v ∷ vs) h = record { v = v; rest = vs; is = refl; has = h.0; have = h.1 }

  pub take : (k : Kind) (others : List Kind) → m.kinds ≡ k ∷ others → Taken k others m.frame.operands
  take k others e = taken m.kinds k others e m.frame.operands m.operands

  pub next_taken : (k : Kind) (others : List Kind) (vs : List Value) → HoldAll m (k ∷ others) vs → Taken k others vs
  next_taken k others vs h = taken (k ∷ others) k others refl vs h

  -- ---- steps of operations

  -- `pop`, as it is defined
  pub pop_fine : (vs : List Value) (next : Value → List Value → Effect) (v : Value) (below : List Value) →
      vs ≡ v ∷ below → Ok m (next v below) → Ok m (elim vs [ [] ↦ Stuck | x ∷ xs ↦ next x xs ])
  pop_fine vs next v below e h =
      subst (λ (ops : List Value). Ok m (elim ops [ [] ↦ Stuck | x ∷ xs ↦ next x xs ])) (sym e) h

  pub given_fine : {A : Type 0} (o : Option A) (next : A → Effect) (x : A) → o ≡ Some x → Ok m (next x) →
      Ok m (given o next)
  given_fine o next x e h = subst (λ y. Ok m (given y next)) (sym e) h

  pub int_fine : (v : Value) (next : ℤ → Effect) → Has m.code.program (memory m) a_number v →
      ((z : ℤ) → Ok m (next z)) → Ok m (as_int v next)
  int_fine v next h a = subst (λ x. Ok m (as_int x next)) (sym h.1) (a h.0)

  pub truth_fine : (v : Value) (next : Bool → Effect) (t : Bool) → v ≡ Truth t → Ok m (next t) → Ok m (as_truth v next)
  truth_fine v next t e a = subst (λ x. Ok m (as_truth x next)) (sym e) a

  pub object_fine : (t : Ty) (a : Place) (v : Value) (next : ℕ → Effect) →
      Has m.code.program (memory m) (an_object t a) v →
      ((o : IsObject m.code.program (memory m) t a v) → Ok m (next o.r)) → Ok m (as_object v next)
  object_fine t a v next (inl e) go = subst (λ x. Ok m (as_object x next)) (sym e) (record { is = tt })
  object_fine t a v next (inr o) go = subst (λ x. Ok m (as_object x next)) (sym o.is) (go o)

  pub reference_fine : (t : Ty) (a : Place) (v : Value) (next : ℕ → Effect)
      (o : IsObject m.code.program (memory m) t a v) → Ok m (next o.r) → Ok m (as_reference v next)
  reference_fine t a v next o go = subst (λ x. Ok m (as_reference x next)) (sym o.is) go

  -- the arguments are popped one by one, the last one first
  pop_more : (n : ℕ) (f : Frame) (acc : List Value) (next : List Value → Frame → Effect) →
      pop_from (suc n) f acc next ≡ pop_from n f acc (λ args g. pop g (λ v h. next (v ∷ args) h))
  pop_more zero f acc next = refl
  pop_more (suc n) f acc next = go f.operands (λ v below. pop_more n (record f { operands = below }) (v ∷ acc) next)
    where
      go : (ops : List Value) →
          ((v : Value) (below : List Value) →
          pop_from (suc n) (record f { operands = below }) (v ∷ acc) next
          ≡ pop_from n (record f { operands = below }) (v ∷ acc) (λ args g. pop g (λ v h. next (v ∷ args) h))) →
          (elim ops as (λ z. Effect) [
            | [] ↦ Stuck
            | x ∷ xs ↦ pop_from (suc n) (record f { operands = xs }) (x ∷ acc) next
          ]) ≡ (elim ops as (λ z. Effect) [
            | [] ↦ Stuck
            | x ∷ xs ↦ pop_from n (record f { operands = xs }) (x ∷ acc) (λ args g. pop g (λ v h. next (v ∷ args) h))
          ])
      go [] ih = refl
      go (x ∷ xs) ih = ih x xs

  pub arguments_fine : (us under : List Kind) (f : Frame) (next : List Value → Frame → Effect) →
      HoldAll m (stacked us under) f.operands →
      ((args rest : List Value) → HoldAll m us args → HoldAll m under rest →
      Ok m (next args (record f { operands = rest }))) → Ok m (pop_all (length us) f next)
  arguments_fine [] under f next h go = go [] f.operands tt h
  arguments_fine (u ∷ us) under f next h go =
      subst (λ e. Ok m e) (sym (pop_more (length us) f [] next))
      (arguments_fine us (u ∷ under) f _ h (λ args rest a r. last args rest a r))
    where
      last : (args rest : List Value) → HoldAll m us args → HoldAll m (u ∷ under) rest →
          Ok m (pop (record f { operands = rest }) (λ v g. next (v ∷ args) g))
      last args [] a r = absurd r
      last args (v ∷ rest) a r = go (v ∷ args) rest (r.0, a) r.1

  -- ---- the frame goes on

  pub same : (vs locals : List Value) (rest : List Op) →
      IsSame m.frame (record m.frame { operands = vs; locals = locals; rest = rest })
  same vs locals rest = record { body = refl; called_at = refl; this = refl; area = refl; saved = refl; opened = refl }

  pub ready : (vs locals : List Value) (rest : List Op) (t : Option Kind) (ks : List ℕ) (ts : List Kind) →
      HoldAll m ts vs → LocalsFine m.code.program (memory m) (den m) m.frame.body ks locals →
      FlowsOn m rest ks (pushed t ts) →
      GuardsFine m.code (memory m) m.frame.body m.frame.this locals t vs rest →
      GoesOn m.code (memory m) m.list m.class m.sig m.frame
      (record m.frame { operands = vs; locals = locals; rest = rest }) t
  ready vs locals rest t ks ts h l w g =
      record {
        same = same vs locals rest;
        ready = record {
          runs = m.runs;
          home = m.home;
          known = ks;
          kinds = ts;
          operands = h;
          locals = l;
          flow = w;
          guards = g;
        };
      }

  -- on no way to a guard the operands don't matter
  pub guards_left : {ops : List Op} → LeftGuards m ops → (vs : List Value) (t : Option Kind) →
      GuardsFine m.code (memory m) m.frame.body m.frame.this m.frame.locals t vs ops
  guards_left {ops} l vs t =
      record { around = l.around; holds = l.holds; progress = on_no_way t vs ops l.rest }

  -- with other operands alone
  guarded_on : (vs : List Value) (ts : List Kind) → HoldAll m ts vs → FlowsOn m m.frame.rest m.known ts →
      GuardedWith m vs → GoesOn m.code (memory m) m.list m.class m.sig m.frame (record m.frame { operands = vs }) None
  unfolding pushed
  guarded_on vs ts h w g = ready vs m.frame.locals m.frame.rest None m.known ts h m.locals w g

  pub on_with : LeftGuards m m.frame.rest → (vs : List Value) (ts : List Kind) → HoldAll m ts vs →
      FlowsOn m m.frame.rest m.known ts →
      GoesOn m.code (memory m) m.list m.class m.sig m.frame (record m.frame { operands = vs }) None
  on_with l vs ts h w = guarded_on vs ts h w (guards_left l vs None)

  pub goes_guarded : (vs : List Value) (ts : List Kind) → HoldAll m ts vs → FlowsOn m m.frame.rest m.known ts →
      GuardedWith m vs → Ok m (Goes (record m.frame { operands = vs }))
  goes_guarded vs ts h w g = record { is = guarded_on vs ts h w g }

  pub goes_fine : LeftGuards m m.frame.rest → (vs : List Value) (ts : List Kind) → HoldAll m ts vs →
      FlowsOn m m.frame.rest m.known ts → Ok m (Goes (record m.frame { operands = vs }))
  goes_fine l vs ts h w = record { is = on_with l vs ts h w }

  -- ---- where values go

  pub on_list : (s : Scope) (a : ℕ) → LiesAt (den m s) a → is_among a m.list ≡ true
  on_list s a e =
      denote_on m.code.program (memory m) m.list m.class m.sig m.frame.body m.frame.this m.frame.area m.home s a e

  pub no_any : den m Any ≡ in_one None
  unfolding denote
  no_any = refl

  pub never_any : (s : Scope) (a : ℕ) → LiesAt (den m s) a → s ≡ Any → ⊥
  never_any s a e h =
      absurd (let x : LiesAt (in_one None) a = subst (λ q. LiesAt q a) (ap (den m) h ∙ no_any) e in cc (x))

  -- what is unknown lies somewhere on the list, and what lies beside an object lies where that does
  pub to_unknown : (s : Scope) → IsInside (den m s) (den m Unknown)
  unfolding denote
  to_unknown s a e = on_list s a e

  pub beside_there : (s : Scope) → IsInside (den m s) (den m (beside s))
  unfolding denote beside
  beside_there Any a e = e
  beside_there This a e = e
  beside_there Caller a e = e
  beside_there (In n) a e = e
  beside_there Unknown a e = e
  beside_there Lost a e = e

  pub view : IsView m.areas m.list (den m)
  unfolding denote
  view = record { none = refl; named = λ s. refl; beside_there = beside_there }

  -- to a place of the same frame
  pub fits_here : (j k : Kind) → Fits m.code.program This Caller j k → (v : Value) → Holds m j v → Holds m k v
  unfolding seen_as beside
  fits_here j k fit v h =
      has_fits m.code m.facts (memory m) (den m) (den m) This Caller no_any (λ e. cc (e)) to_unknown j k
      (λ t r e n. agree r) fit v h
    where
      agree : (r : Scope) → IsInside (den m (seen_as This Caller r)) (den m r)
      agree Any a e = e
      agree This a e = e
      agree Caller a e = e
      agree (In s) a e = e
      agree Unknown a e = e
      agree Lost a e = e

  -- a local that is set
  pub locals_set : (i v : ℕ) (slot : IsVariable m.code.program m.frame.body i v) (x : Value) → Holds m slot.kind x →
      LocalsFine m.code.program (memory m) (den m) m.frame.body (v ∷ m.known) (slice_set m.frame.locals i x)
  locals_set i v slot x h =
      record { long = length_set m.frame.locals i x ∙ m.locals.long; each = each; fits = fits }
    where
      vars : List ℕ
      vars = variables_in m.code.program m.frame.body

      in_range : i < length m.frame.locals
      in_range =
          let r : i < length vars = get_within vars i v slot.is_there in
          let e = m.locals.long in omega (arith, r, e)

      each : (j u : ℕ) (k : Kind) → slice_get vars j ≡ Some u → kind_of_variable m.code.program u ≡ Some k →
          is_among u (v ∷ m.known) ≡ true →
          LocalFine m.code.program (memory m) (den m) (slice_set m.frame.locals i x) j k
      each j u k there is known =
          elim (bool_cases (i == j)) as
          (λ z. LocalFine m.code.program (memory m) (den m) (slice_set m.frame.locals i x) j k) [
            | inl e ↦ (let s : i ≡ j = grind (arith, nat_tests) in
                let vu : v ≡ u = some_inj v u (sym slot.is_there ∙ ap (slice_get vars) s ∙ there) in
                let kk : slot.kind ≡ k =
                some_inj slot.kind k (sym slot.is_kind ∙ ap (kind_of_variable m.code.program) vu ∙ is) in
                record {
                  value = x;
                  is = ap (slice_get (slice_set m.frame.locals i x)) (sym s) ∙ get_set_same m.frame.locals i x in_range;
                  has = subst (λ k. Holds m k x) kk h;
                })
            | inr e ↦ (let other : i ≡ j → ⊥ = λ s. grind (arith, nat_tests) in
                let y =
                elim (or_cases (u == v) (is_among u m.known) known) as
                (λ z. LocalFine m.code.program (memory m) (den m) m.frame.locals j k) [
                  | inl s ↦ absurd (let uv : u ≡ v = grind (arith, nat_tests) in
                      other (sym (slot.only j (there ∙ ap (λ z. Some z) uv))))
                  | inr s ↦ m.locals.each j u k there is s
                ] in
                record { value = y.value; is = get_set_other m.frame.locals i j x other ∙ y.is; has = y.has })
          ]

      fits : (j u : ℕ) (value : Value) → slice_get vars j ≡ Some u →
          slice_get (slice_set m.frame.locals i x) j ≡ Some value →
          HoldsNullOr m.code.program (memory m) (den m) u value
      fits j u value there has =
          elim (bool_cases (i == j)) as (λ z. HoldsNullOr m.code.program (memory m) (den m) u value) [
            | inl e ↦ (let s : i ≡ j = grind (arith, nat_tests) in
                let vu : v ≡ u = some_inj v u (sym slot.is_there ∙ ap (slice_get vars) s ∙ there) in
                let same : x ≡ value =
                some_inj x value (sym (get_set_same m.frame.locals i x in_range)
                ∙ (ap (slice_get (slice_set m.frame.locals i x)) s ∙ has)) in
                inr (
                  slot.kind,
                  ap (kind_of_variable m.code.program) (sym vu) ∙ slot.is_kind,
                  subst (λ y. Holds m slot.kind y) same h,
                ))
            | inr e ↦ (let other : i ≡ j → ⊥ = λ s. grind (arith, nat_tests) in
                m.locals.fits j u value there (sym (get_set_other m.frame.locals i j x other) ∙ has))
          ]
