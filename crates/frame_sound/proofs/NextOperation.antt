-- The next operation of a frame that is ready: by how far the frame is on the way to a guard, or to a store that one
-- allows.
use Rattle.std.specs.Prelude.{Option, Some, None, slice_get}
use Rattle.std.proofs.Common.{◌≡◌, ℕ, List, ◌∷◌, true, refl, sym, ◌∙◌, ap, subst}
use Rattle.scj_base.specs.declared.values.Value.{Value}
use Rattle.scj_base.specs.declared.values.Value.TheVariants.{Bool as Truth, At}
use Rattle.scj_rules.specs.declared.typing.Guard.{Guard}
use Rattle.scj_rules.specs.declared.typing.Subject.{Subject}
use Rattle.scj_rules.specs.Words.{is_among}
use Rattle.accepted_laws.specs.Kinds.{Kind}
use Rattle.accepted_laws.proofs.Tools.{some_inj}
use Rattle.scj_model.specs.declared.operations.Op.{Op}
use Rattle.scj_model.specs.declared.operations.Op.TheVariants.{Same as SAME, Put as PUT, If as IF}
use Rattle.scj_model.specs.Code.{Code}
use Rattle.scj_model.specs.Operations.{Environment, effect_of}
use Rattle.scj_model.specs.State.{MemoryArea, Frame}
use Rattle.scope_flow.specs.Facts.{Facts}
use Rattle.scope_flow.specs.Guards.{guard_of, PushesSubject, pushes_this, pushes_variable, AsksGuard, PutsByGuard, IsPlain, StandsIn, Rest, at_end, outside, plain, asking, putting}
use Rattle.scope_flow.specs.Signatures.{Signature, variables_in}
use Rattle.scope_flow.specs.Needs.{pushed}
use Rattle.frame_sound.specs.Guards.{IsValueOf, of_this, of_variable, AreTogether, GuardHolds, Progress, on_no_way, asks_second, asks_both, is_answered, puts_value, puts_both}
use Rattle.frame_sound.specs.Places.{World}
use Rattle.frame_sound.specs.Fine.{ListFine, HeapFine, StaticsFine, Ready}
use Rattle.frame_sound.specs.EffectsFine.{Fine}
use Rattle.frame_sound.proofs.GuardedPuts.{head_is, tail_is, first_is, below_is, put_together}
use Rattle.frame_sound.proofs.Scenes.{Scene, memory, FlowsOn, LeftGuards, GuardedWith, Ok}
use Rattle.frame_sound.proofs.ActsOnValues.{this_guarded, load_guarded}
use Rattle.frame_sound.proofs.ActsOnFramework.{same_guarded}
use Rattle.frame_sound.proofs.ActsOnStatements.{if_guarded}
use Rattle.frame_sound.proofs.ActsOnStores.{put_guarded}
use Rattle.frame_sound.proofs.Acts.{effect_fine}

module _ (m : Scene) (around : List ℕ)
    (holding : (number : ℕ) (guard : Guard) → is_among number around ≡ true → guard_of m.code number ≡ Some guard →
    GuardHolds m.code.program (memory m) m.frame.body m.frame.this m.frame.locals guard) where
  abbrev HasValue : Subject → Value → Type 0
  HasValue s v = IsValueOf m.code.program m.frame.body m.frame.this m.frame.locals s v

  abbrev Going : List Value → List Op → Type 0
  Going vs ops = Progress m.code (memory m) m.frame.body m.frame.this m.frame.locals around None vs ops

  abbrev OkNext : Op → Type 0
  OkNext op = Ok m (effect_of m.code m.world m.frame op)

  -- the progress behind the next operation
  goes_on : (vs : List Value) (ops : List Op) → Going vs ops → ops ≡ m.frame.rest → GuardedWith m vs
  goes_on vs ops g e =
      record { around = around; holds = holding; progress = subst (λ ops. Going vs ops) e g }

  -- the operation pushes the value of a subject
  pushes_value : (s : Subject) (op : Op) → PushesSubject m.code m.frame.body s op →
      FlowsOn m (op ∷ m.frame.rest) m.known m.kinds →
      ((v : Value) → HasValue s v → GuardedWith m (v ∷ m.frame.operands)) → OkNext op
  pushes_value _ _ (pushes_this id) way g = this_guarded m id (λ q e. g (At q) (of_this q e)) way.1
  pushes_value _ _ (pushes_variable id v local bound there) way g =
      let r = way.1.needed in
      let same : r.local ≡ local = some_inj r.local local (sym r.is ∙ bound) in
      let one : r.variable ≡ v =
      some_inj r.variable v (sym r.is_variable.is_there
      ∙ (ap (slice_get (variables_in m.code.program m.frame.body)) same ∙ there)) in
      load_guarded m id way.1 (λ value e.
      g value (of_variable v r.local value (r.is_variable.is_there ∙ ap (λ n. Some n) one)
      (λ j k. r.is_variable.only j (k ∙ ap (λ n. Some n) (sym one))) e))

  -- ---- the next operation

  abbrev left : (ops : List Op) → Rest m.code m.frame.body around ops → ops ≡ m.frame.rest → LeftGuards m m.frame.rest
  left ops r e = record { around = around; holds = holding; rest = subst (Rest m.code m.frame.body around) e r }

  module _ (op : Op) (way : FlowsOn m (op ∷ m.frame.rest) m.known m.kinds) where
    way_of : (x : Op) → op ≡ x → FlowsOn m (x ∷ m.frame.rest) m.known m.kinds
    way_of x e = subst (λ y. FlowsOn m (y ∷ m.frame.rest) m.known m.kinds) e way

    okay : (x : Op) → x ≡ op → OkNext x → OkNext op
    okay x e h = subst OkNext e h

    pushing : (s : Subject) (x : Op) → PushesSubject m.code m.frame.body s x → x ≡ op →
        ((v : Value) → HasValue s v → GuardedWith m (v ∷ m.frame.operands)) → OkNext op
    pushing s x pushes e g = okay x e (pushes_value s x pushes (way_of x (sym e)) g)

    by_progress : (t : Option Kind) (vs : List Value) (ops : List Op) →
        Progress m.code (memory m) m.frame.body m.frame.this m.frame.locals around t vs ops → t ≡ None →
        vs ≡ m.frame.operands → ops ≡ op ∷ m.frame.rest →
        ((ops : List Op) → Rest m.code m.frame.body around ops → ops ≡ op ∷ m.frame.rest → OkNext op) → OkNext op
    unfolding StandsIn
    by_progress _ _ _ (on_no_way t vs ops r) et ev eo by_rest = by_rest ops r eo
    by_progress _ _ _ (asks_second number id first second ops a vs guard stands r is_a) et ev eo by_rest =
        pushing guard.guard.second second guard.second_is (head_is second op _ m.frame.rest eo) (λ v is_v.
        goes_on (v ∷ m.frame.operands) (SAME id ∷ (IF number ∷ ops))
        (subst (λ us. Going (v ∷ us) (SAME id ∷ (IF number ∷ ops))) ev
        (asks_both number id first second ops a v vs guard stands r is_a is_v))
        (tail_is second op _ m.frame.rest eo))
    by_progress _ _ _ (asks_both number id first second ops a b vs guard stands r is_a is_b) et ev eo by_rest =
        okay (SAME id) (head_is (SAME id) op _ m.frame.rest eo)
        (same_guarded m id (λ x y rest t e h.
        let all : (b ∷ (a ∷ vs)) ≡ (y ∷ (x ∷ rest)) = ev ∙ e in
        let under = below_is b y (a ∷ vs) (x ∷ rest) all in
        goes_on (Truth t ∷ rest) (IF number ∷ ops)
        (is_answered number guard.guard t ops rest guard.is stands r (λ yes.
        record {
          first = a;
          second = b;
          first_is = is_a;
          second_is = is_b;
          together =
              subst (λ v. AreTogether (memory m) a v) (sym (first_is b y (a ∷ vs) (x ∷ rest) all))
              (subst (λ v. AreTogether (memory m) v y) (sym (first_is a x vs rest under)) (h yes));
        })) (tail_is (SAME id) op _ m.frame.rest eo))
        (way_of (SAME id) (sym (head_is (SAME id) op _ m.frame.rest eo))).1)
    by_progress _ _ _ (is_answered number guard answer ops vs is stands r holds_if) et ev eo by_rest =
        okay (IF number) (head_is (IF number) op _ m.frame.rest eo)
        (if_guarded m number (left ops r (tail_is (IF number) op _ m.frame.rest eo)) stands (λ t rest e yes g is_g.
        let truths : Truth answer ≡ Truth t = first_is (Truth answer) (Truth t) vs rest (ev ∙ e) in
        let one : answer ≡ t = cc (truths) in
        subst (λ guard. GuardHolds m.code.program (memory m) m.frame.body m.frame.this m.frame.locals guard)
        (some_inj guard g (sym is ∙ is_g)) (holds_if (one ∙ yes)))
        (way_of (IF number) (sym (head_is (IF number) op _ m.frame.rest eo))))
    by_progress _ _ _ (puts_value id object value ops a vs puts stands r is_a) et ev eo by_rest =
        pushing puts.stored value puts.value_is (head_is value op _ m.frame.rest eo) (λ v is_v.
        goes_on (v ∷ m.frame.operands) (PUT id ∷ ops)
        (subst (λ us. Going (v ∷ us) (PUT id ∷ ops)) ev
        (puts_both id object value ops a v vs puts stands r is_a is_v))
        (tail_is value op _ m.frame.rest eo))
    by_progress _ _ _ (puts_both id object value ops a b vs puts stands r is_a is_b) et ev eo by_rest =
        okay (PUT id) (head_is (PUT id) op _ m.frame.rest eo)
        (put_guarded m id (left ops r (tail_is (PUT id) op _ m.frame.rest eo)) (λ x y rest e guarded.
        let all : (b ∷ (a ∷ vs)) ≡ (y ∷ (x ∷ rest)) = ev ∙ e in
        let under = below_is b y (a ∷ vs) (x ∷ rest) all in
        subst (λ v. AreTogether (memory m) x v) (first_is b y (a ∷ vs) (x ∷ rest) all)
        (subst (λ v. AreTogether (memory m) v b) (first_is a x vs rest under)
        (put_together m around holding id object value puts stands a b is_a is_b)))
        (way_of (PUT id) (sym (head_is (PUT id) op _ m.frame.rest eo))).1)

    -- on no way to a guard
    plain_fine : (x : Op) (ops : List Op) → IsPlain m.code x → StandsIn m.code around x →
        Rest m.code m.frame.body around ops → (x ∷ ops) ≡ (op ∷ m.frame.rest) → OkNext op
    plain_fine x ops is_plain stands r eo =
        let e = head_is x op ops m.frame.rest eo in
        okay x e (effect_fine m x (left ops r (tail_is x op ops m.frame.rest eo)) is_plain stands (way_of x (sym e)))

    asking_fine : (number id : ℕ) (first second : Op) (ops : List Op)
        (guard : AsksGuard m.code m.frame.body number first second) → StandsIn m.code around (IF number) →
        Rest m.code m.frame.body around ops →
        (first ∷ (second ∷ (SAME id ∷ (IF number ∷ ops)))) ≡ (op ∷ m.frame.rest) → OkNext op
    asking_fine number id first second ops guard stands r eo =
        pushing guard.guard.first first guard.first_is (head_is first op _ m.frame.rest eo) (λ v is_v.
        goes_on (v ∷ m.frame.operands) (second ∷ (SAME id ∷ (IF number ∷ ops)))
        (asks_second number id first second ops v m.frame.operands guard stands r is_v)
        (tail_is first op _ m.frame.rest eo))

    putting_fine : (id : ℕ) (object value : Op) (ops : List Op)
        (puts : PutsByGuard m.code m.frame.body id object value) → StandsIn m.code around (PUT id) →
        Rest m.code m.frame.body around ops → (object ∷ (value ∷ (PUT id ∷ ops))) ≡ (op ∷ m.frame.rest) → OkNext op
    putting_fine id object value ops puts stands r eo =
        pushing puts.holder object puts.object_is (head_is object op _ m.frame.rest eo) (λ v is_v.
        goes_on (v ∷ m.frame.operands) (value ∷ (PUT id ∷ ops))
        (puts_value id object value ops v m.frame.operands puts stands r is_v)
        (tail_is object op _ m.frame.rest eo))

-- in the first parts of these `if`s, or of fewer
rest_fine : (m : Scene) (op : Op) → FlowsOn m (op ∷ m.frame.rest) m.known m.kinds → (around : List ℕ) (ops : List Op) →
    Rest m.code m.frame.body around ops → ops ≡ op ∷ m.frame.rest →
    ((number : ℕ) (guard : Guard) → is_among number around ≡ true → guard_of m.code number ≡ Some guard →
    GuardHolds m.code.program (memory m) m.frame.body m.frame.this m.frame.locals guard) →
    Ok m (effect_of m.code m.world m.frame op)
rest_fine m op way _ _ (at_end around) eo holding = absurd (cc (eo))
rest_fine m op way _ _ (outside around outer ops among r) eo holding =
    rest_fine m op way outer ops r eo (λ n guard a e. holding n guard (among n a) e)
rest_fine m op way _ _ (plain around x ops is_plain stands r) eo holding =
    plain_fine m around holding op way x ops is_plain stands r eo
rest_fine m op way _ _ (asking around number id first second ops guard stands r) eo holding =
    asking_fine m around holding op way number id first second ops guard stands r eo
rest_fine m op way _ _ (putting around id object value ops puts stands r) eo holding =
    putting_fine m around holding op way id object value ops puts stands r eo

module _ (code : Code) (facts : Facts code) (areas : ℕ → Option MemoryArea) (world : Environment) (list : List ℕ)
    (class : ℕ) (sig : Signature) (f : Frame) (op : Op) (rest : List Op) where
  abbrev w : World
  w = record { areas = areas; objects = world.object_at }

  pub next_fine : ListFine areas list → HeapFine code.program (record { areas = areas; objects = world.object_at }) →
      StaticsFine code.program (record { areas = areas; objects = world.object_at }) world.statics →
      Ready code (record { areas = areas; objects = world.object_at }) list class sig
      (record f { rest = op ∷ rest }) None →
      Fine code (record { areas = areas; objects = world.object_at }) list class sig (record f { rest = rest })
      (effect_of code world (record f { rest = rest }) op)
  unfolding pushed
  next_fine fine heap statics r =
      by_progress scene r.guards.around r.guards.holds op r.flow None f.operands (op ∷ rest) r.guards.progress refl refl
      refl (λ ops left e. rest_fine scene op r.flow r.guards.around ops left e r.guards.holds)
    where
      scene : Scene
      scene =
          record {
            code = code;
            facts = facts;
            areas = areas;
            world = world;
            list = list;
            class = class;
            sig = sig;
            frame = record f { rest = rest };
            known = r.known;
            kinds = r.kinds;
            fine = fine;
            heap = heap;
            statics = statics;
            runs = r.runs;
            home = r.home;
            operands = r.operands;
            locals = r.locals;
          }
