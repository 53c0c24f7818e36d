-- The operations of statements and conditions: each finds what it needs, and what it puts in front of the rest flows.
use Rattle.std.specs.Prelude.{Option, Some, None, slice_get, slice_set, ◌&&◌, ◌==◌, if◌then◌else◌, option_map}
use Rattle.std.proofs.Common.{◌≡◌, ℕ, List, [], ◌∷◌, ◌++◌, Bool, true, false, refl, sym, ◌∙◌, ap, subst, true≢false, arith, ◌⊎◌, inl, inr}
use Rattle.std.proofs.lemmas.Bool.Decides.{nat_tests}
use Rattle.scj_base.specs.declared.values.Value.{Value}
use Rattle.scj_base.specs.declared.values.Value.TheVariants.{Bool as Truth}
use Rattle.scj_tree.specs.declared.nodes.Node.{Node}
use Rattle.scj_tree.specs.declared.nodes.Node.TheVariants.{While, For}
use Rattle.scj_rules.specs.declared.typing.Scope.{Scope}
use Rattle.scj_rules.specs.declared.typing.Scope.TheVariants.{This, Caller}
use Rattle.scj_rules.specs.declared.views.Body.{Body}
use Rattle.scj_rules.specs.declared.views.Body.TheVariants.{Written, Empty}
use Rattle.scj_rules.specs.declared.views.Declared.{Declared}
use Rattle.scj_rules.specs.declared.typing.Guard.{Guard}
use Rattle.scj_rules.specs.Guards.{ifs_around}
use Rattle.scj_rules.specs.Words.{is_among, ◌>>=◌}
use Rattle.scj_rules.specs.Views.{variable_at}
use Rattle.scj_rules.specs.Layout.{kind_of_type}
use Rattle.scj_rules.specs.TypeRules.{declared_type_of, always_returns}
use Rattle.scj_rules.specs.UseRules.{variable_scope_at}
use Rattle.accepted_laws.specs.Kinds.{Kind, truth, yes, kind_of, kind_of_variable, Fits}
use Rattle.accepted_laws.specs.Judgements.{Among}
use Rattle.scj_model.specs.declared.operations.Op.{Op}
use Rattle.scj_model.specs.declared.operations.Op.TheVariants.{And as AND, Or as OR, If as IF, Loop as LOOP, Zero as ZERO, Store as STORE, Drop as DROP, LeaveWith as LEAVEWITH, Leave as LEAVE}
use Rattle.scj_model.specs.Code.{part}
use Rattle.scj_model.specs.Memory.{default_value}
use Rattle.scj_model.specs.Ops.{if_parts, ops_of, optional_ops, iteration_ops, put_in_front}
use Rattle.scj_model.specs.Effects.{Goes, given, pushes}
use Rattle.scj_model.specs.Operations.{effect_of}
use Rattle.scope_flow.specs.Signatures.{IsBody, Runs, variables_in}
use Rattle.scope_flow.specs.Needs.{pushed, ShortNeeds, IsStatementPart, IsOptionPart}
use Rattle.scope_flow.specs.Ways.{Stood, goes_into}
use Rattle.scope_flow.specs.Flow.{Flow, InNode, both_return, IfNeeds, LoopNeeds, AreLoopParts}
use Rattle.scope_flow.specs.Guards.{guard_of, IsPlain, StandsIn, outside, Adds, SparesGuards}
use Rattle.scope_flow.proofs.Known.{or_cases}
use Rattle.scope_flow.proofs.Rests.{among_later}
use Rattle.scope_flow.proofs.Widens.{flow_widens}
use Rattle.scope_flow.proofs.Courses.{courses, flow_of_course, into_stood}
use Rattle.scope_flow.proofs.Turns.{value_part_flows, statement_part_flows, turn_flow}
use Rattle.frame_sound.specs.Places.{held}
use Rattle.frame_sound.specs.EffectsFine.{ReturnFine}
use Rattle.frame_sound.proofs.Defaults.{default_has}
use Rattle.frame_sound.specs.Guards.{GuardHolds, GuardsFine, on_no_way}
use Rattle.frame_sound.proofs.GuardSteps.{holds_spared}
use Rattle.frame_sound.proofs.Scenes.{Scene, memory, den, HoldAll, FlowsOn, LeftGuards, Ok, Taken, take, pop_fine, given_fine, same, ready, guards_left, goes_fine, fits_here, locals_set}
use Rattle.frame_sound.proofs.ActsOnValues.{NeedsNext, Does, DoesStanding}

-- what has parts runs a written body
pub record InBody (m : Scene) (P : ℕ → Type 0) : Type 0 where
  pub b : ℕ
  pub is : m.frame.body ≡ Written b
  pub needed : P b
  pub body : IsBody m.code.program b m.class m.sig

module _ (m : Scene) where
  in_body : (P : ℕ → Type 0) → InNode m.frame.body P → InBody m P
  unfolding Runs
  in_body P h = go m.frame.body refl h
    where
      go : (body : Body) → m.frame.body ≡ body → InNode body P → InBody m P
      go (Written b) e h =
          record { b = b; is = e; needed = h; body = subst (λ x. Runs m.code.program x m.class m.sig) e m.runs }
      go Empty e h = absurd h

  -- from a written body to the frame's
  at_body : (b : ℕ) → m.frame.body ≡ Written b → (ops : List Op) (ks : List ℕ) (s : List Kind) →
      Stood m.code m.frame.body m.class ops s → Flow m.code (Written b) m.class m.sig ops ks s → FlowsOn m ops ks s
  at_body b e ops ks s st f =
      courses m.code m.frame.body m.class m.sig ops ks s st
      (subst (λ x. Flow m.code x m.class m.sig ops ks s) (sym e) f)

  of_body : (b : ℕ) → m.frame.body ≡ Written b → (ops : List Op) (ks : List ℕ) (s : List Kind) →
      FlowsOn m ops ks s → Flow m.code (Written b) m.class m.sig ops ks s
  of_body b e ops ks s f =
      subst (λ x. Flow m.code x m.class m.sig ops ks s) e (flow_of_course m.code m.frame.body m.class m.sig ops ks s f)

  -- the parts that are put in front are reached on the way to the operation
  front_stood : (op : Op) (t : Bool) (front : List Op) (k : Kind) (others : List Kind) → m.kinds ≡ k ∷ others →
      Stood m.code m.frame.body m.class (op ∷ m.frame.rest) m.kinds → goes_into op t ≡ true →
      put_in_front m.code op t ≡ Some front → Stood m.code m.frame.body m.class (front ++ m.frame.rest) others
  front_stood op t front k others e st goes is =
      into_stood m.code m.frame.body m.class op t front m.frame.rest k m.kinds others e st goes is

  widened : (b : ℕ) → m.frame.body ≡ Written b → (s : List Kind) → FlowsOn m m.frame.rest m.known s →
      (ms : List ℕ) → Among m.known ms → Flow m.code (Written b) m.class m.sig m.frame.rest ms s
  widened b e s f ms a =
      flow_widens m.code (Written b) m.class m.sig m.frame.rest m.known ms s a (of_body b e m.frame.rest m.known s f)

  -- a condition, which is a truth value
  pub record Condition (k : Kind) (others : List Kind) : Type 0 where
    pub t : Bool
    pub rest : List Value
    pub is : m.frame.operands ≡ Truth t ∷ rest
    pub have : HoldAll m others rest
    pub if_yes : k ≡ yes → t ≡ true

  condition_of : (k : Kind) (others : List Kind) → m.kinds ≡ k ∷ others → Fits m.code.program This Caller k truth →
      Condition k others
  unfolding held
  condition_of k others e fit = go k fit (take m k others e)
    where
      go : (k : Kind) → Fits m.code.program This Caller k truth → Taken m k others m.frame.operands → Condition k others
      go truth fit x =
          record {
            t = x.has.0;
            rest = x.rest;
            is = x.is ∙ ap (λ v. v ∷ x.rest) x.has.1;
            have = x.have;
            if_yes = λ e. absurd (cc (e));
          }
      go yes fit x =
          record {
            t = true;
            rest = x.rest;
            is = x.is ∙ ap (λ v. v ∷ x.rest) x.has;
            have = x.have;
            if_yes = λ e. refl;
          }
      go _ fit x = absurd fit

  -- the frame goes on behind operations that are put in front
  front_fine : (ops : List Op) (rest : List Value) (ts : List Kind) → HoldAll m ts rest →
      FlowsOn m (ops ++ m.frame.rest) m.known ts → LeftGuards m (ops ++ m.frame.rest) →
      Ok m (Goes (record m.frame { operands = rest; rest = ops ++ m.frame.rest }))
  unfolding pushed
  front_fine ops rest ts h w g =
      record {
        is = ready m rest m.frame.locals (ops ++ m.frame.rest) None m.known ts h m.locals w (guards_left m g rest None);
      }

  -- ---- in the first parts of which `if`s the parts stand

  abbrev around : ℕ → List ℕ
  around x = ifs_around m.code.program.nodes x

  -- operations in the first parts of the same `if`s
  in_front : (l : LeftGuards m m.frame.rest) (ops : List Op) → Adds m.code m.frame.body l.around ops →
      LeftGuards m (ops ++ m.frame.rest)
  in_front l ops adds = record { around = l.around; holds = l.holds; rest = adds m.frame.rest l.rest }

  -- from a written body to the frame's, where the operation stands
  frame_adds : (b : ℕ) → m.frame.body ≡ Written b → (id : ℕ) (outer : List ℕ) → around id ≡ outer → (ops : List Op) →
      Adds m.code (Written b) (around id) ops → Adds m.code m.frame.body outer ops
  frame_adds b is id outer e ops a =
      subst (λ body. Adds m.code body outer ops) (sym is) (subst (λ xs. Adds m.code (Written b) xs ops) e a)

  -- a local is set that is no subject of a guard in whose first part the operation stands
  guards_set : (l : LeftGuards m m.frame.rest) (id local v : ℕ) →
      slice_get (variables_in m.code.program m.frame.body) local ≡ Some v → SparesGuards m.code id v →
      around id ≡ l.around → (x : Value) (vs : List Value) →
      GuardsFine m.code (memory m) m.frame.body m.frame.this (slice_set m.frame.locals local x) None vs m.frame.rest
  guards_set l id local v is_there spares stands x vs =
      record {
        around = l.around;
        holds = λ number guard a e.
            holds_spared m.code.program (memory m) m.frame.body m.frame.this m.frame.locals local v is_there x guard
            (spares number guard (subst (λ xs. is_among number xs ≡ true) (sym stands) a) e)
            (l.holds number guard a e);
        progress = on_no_way None vs m.frame.rest l.rest;
      }

  -- ---- `&&` and `||`

  module _ (id : ℕ) (out : List Kind) (q : InBody m (λ b. ShortNeeds m.code b m.class id m.known m.kinds out))
      (goes : FlowsOn m m.frame.rest m.known out) (rest : List Value) (have : HoldAll m q.needed.others rest)
      (l : LeftGuards m m.frame.rest) (stands : around id ≡ l.around) where
    behind : FlowsOn m m.frame.rest m.known (truth ∷ q.needed.others)
    behind = subst (FlowsOn m m.frame.rest m.known) q.needed.leaves goes

    -- the right operand decides
    right_fine : Stood m.code m.frame.body m.class (ops_of m.code q.needed.right ++ m.frame.rest) q.needed.others →
        Ok m (Goes (record m.frame { operands = rest; rest = ops_of m.code q.needed.right ++ m.frame.rest }))
    right_fine st =
        front_fine (ops_of m.code q.needed.right) rest q.needed.others have
        (at_body q.b q.is _ m.known q.needed.others st
        (value_part_flows m.code m.facts q.b m.class m.sig q.body m.known q.needed.right truth q.needed.right_part
        m.frame.rest q.needed.others (widened q.b q.is (truth ∷ q.needed.others) behind)))
        (in_front l (ops_of m.code q.needed.right)
        (frame_adds q.b q.is id l.around stands (ops_of m.code q.needed.right)
        (m.facts.guards.rights q.b m.class id q.needed.right q.needed.is q.needed.right_part.inside)))

    -- the left one does
    left_fine : (t : Bool) → Ok m (Goes (record m.frame { operands = Truth t ∷ rest }))
    unfolding held
    left_fine t = goes_fine m l (Truth t ∷ rest) (truth ∷ q.needed.others) ((t, refl), have) behind

    and_goes : Stood m.code m.frame.body m.class (AND id ∷ m.frame.rest) m.kinds → (t : Bool) →
        Ok m (given (put_in_front m.code (AND id) t) (λ ops.
        if t then Goes (record m.frame { operands = rest; rest = ops ++ m.frame.rest })
        else pushes (record m.frame { operands = rest; rest = ops ++ m.frame.rest }) (Truth false)))
    unfolding put_in_front goes_into
    and_goes st true =
        given_fine m _ _ (ops_of m.code q.needed.right) (ap (option_map (λ (x : ℕ). ops_of m.code x)) q.needed.is)
        (right_fine (front_stood (AND id) true (ops_of m.code q.needed.right) q.needed.left.kind q.needed.others
        q.needed.left.takes st refl (ap (option_map (λ (x : ℕ). ops_of m.code x)) q.needed.is)))
    and_goes st false = given_fine m _ _ [] (ap (option_map (λ (x : ℕ). [])) q.needed.is) (left_fine false)

    or_goes : Stood m.code m.frame.body m.class (OR id ∷ m.frame.rest) m.kinds → (t : Bool) →
        Ok m (given (put_in_front m.code (OR id) t) (λ ops.
        if t then pushes (record m.frame { operands = rest; rest = ops ++ m.frame.rest }) (Truth true)
        else Goes (record m.frame { operands = rest; rest = ops ++ m.frame.rest })))
    unfolding put_in_front goes_into
    or_goes st true = given_fine m _ _ [] (ap (option_map (λ (x : ℕ). [])) q.needed.is) (left_fine true)
    or_goes st false =
        given_fine m _ _ (ops_of m.code q.needed.right) (ap (option_map (λ (x : ℕ). ops_of m.code x)) q.needed.is)
        (right_fine (front_stood (OR id) false (ops_of m.code q.needed.right) q.needed.left.kind q.needed.others
        q.needed.left.takes st refl (ap (option_map (λ (x : ℕ). ops_of m.code x)) q.needed.is)))

  pub and_fine : (id : ℕ) → DoesStanding m (AND id)
  unfolding effect_of StandsIn
  and_fine id l plain stands r =
      let q = in_body (λ b. ShortNeeds m.code b m.class id m.known m.kinds r.1.out) r.1.needed in
      let x = condition_of q.needed.left.kind q.needed.others q.needed.left.takes q.needed.left.fits in
      pop_fine m m.frame.operands _ (Truth x.t) x.rest x.is (and_goes id r.1.out q r.1.goes x.rest x.have l stands r.0 x.t)

  pub or_fine : (id : ℕ) → DoesStanding m (OR id)
  unfolding effect_of StandsIn
  or_fine id l plain stands r =
      let q = in_body (λ b. ShortNeeds m.code b m.class id m.known m.kinds r.1.out) r.1.needed in
      let x = condition_of q.needed.left.kind q.needed.others q.needed.left.takes q.needed.left.fits in
      pop_fine m m.frame.operands _ (Truth x.t) x.rest x.is (or_goes id r.1.out q r.1.goes x.rest x.have l stands r.0 x.t)

  -- ---- `if`

  abbrev HoldsHere : ℕ → Type 0
  HoldsHere id =
      (guard : Guard) → guard_of m.code id ≡ Some guard →
      GuardHolds m.code.program (memory m) m.frame.body m.frame.this m.frame.locals guard

  both_first : (a b : Bool) → (a && b) ≡ true → a ≡ true
  both_first true b e = refl
  both_first false b e = e

  both_second : (a b : Bool) → (a && b) ≡ true → b ≡ true
  both_second true b e = e
  both_second false b e = absurd (true≢false (sym e))

  first_returns : (x : ℕ) (o : Option ℕ) → both_return m.code.program (x, o) ≡ true →
      always_returns m.code.program x ≡ true
  first_returns x None e = absurd (true≢false (sym e))
  first_returns x (Some y) e = both_first _ _ e

  module _ (id : ℕ)
      (q : InBody m
      (λ b. IfNeeds m.code b m.class id m.known m.kinds (FlowsOn m m.frame.rest)))
      (rest : List Value) (have : HoldAll m q.needed.others rest)
      (l : LeftGuards m m.frame.rest) (stands : around id ≡ l.around) where
    abbrev n : IfNeeds m.code q.b m.class id m.known m.kinds (FlowsOn m m.frame.rest)
    n = q.needed

    part_fine : (x : ℕ) → IsStatementPart m.code.program q.b m.class m.known x →
        Stood m.code m.frame.body m.class (ops_of m.code x ++ m.frame.rest) n.others →
        (always_returns m.code.program x ≡ true) ⊎ FlowsOn m m.frame.rest m.known n.others →
        FlowsOn m (ops_of m.code x ++ m.frame.rest) m.known n.others
    part_fine x part st k =
        at_body q.b q.is _ m.known n.others st
        (statement_part_flows m.code m.facts q.b m.class m.sig q.body m.known x part m.frame.rest n.others (go k))
      where
        go : (always_returns m.code.program x ≡ true) ⊎ FlowsOn m m.frame.rest m.known n.others →
            (always_returns m.code.program x ≡ true)
            ⊎ ((ms : List ℕ) → Among m.known ms → Flow m.code (Written q.b) m.class m.sig m.frame.rest ms n.others)
        go (inl h) = inl h
        go (inr h) = inr (widened q.b q.is n.others h)

    option_flows : (x : ℕ) (o : Option ℕ) → IsOptionPart m.code.program q.b m.class m.known o →
        Stood m.code m.frame.body m.class (optional_ops m.code o ++ m.frame.rest) n.others →
        (both_return m.code.program (x, o) ≡ true) ⊎ FlowsOn m m.frame.rest m.known n.others →
        FlowsOn m (optional_ops m.code o ++ m.frame.rest) m.known n.others
    unfolding optional_ops
    option_flows x None part st (inl h) = absurd (true≢false (sym h))
    option_flows x None part st (inr w) = w
    option_flows x (Some y) part st (inl h) = part_fine y part st (inl (both_second _ _ h))
    option_flows x (Some y) part st (inr w) = part_fine y part st (inr w)

    first_ends : (both_return m.code.program n.parts ≡ true) ⊎ FlowsOn m m.frame.rest m.known n.others →
        (always_returns m.code.program n.parts.0 ≡ true) ⊎ FlowsOn m m.frame.rest m.known n.others
    first_ends (inl h) = inl (first_returns n.parts.0 n.parts.1 h)
    first_ends (inr w) = inr w

    -- the first part stands in the first part of this `if` too, where the guard holds that it is
    first_guards : HoldsHere id → LeftGuards m (ops_of m.code n.parts.0 ++ m.frame.rest)
    first_guards here =
        record {
          around = id ∷ l.around;
          holds = holds;
          rest =
              subst (λ body. Adds m.code body (id ∷ l.around) (ops_of m.code n.parts.0)) (sym q.is)
              (subst (λ xs. Adds m.code (Written q.b) (id ∷ xs) (ops_of m.code n.parts.0)) stands
              (m.facts.guards.firsts q.b m.class id n.parts n.is n.first.is.inside)) m.frame.rest
              (outside (id ∷ l.around) l.around m.frame.rest (among_later id l.around) l.rest);
        }
      where
        holds : (number : ℕ) (guard : Guard) → is_among number (id ∷ l.around) ≡ true →
            guard_of m.code number ≡ Some guard →
            GuardHolds m.code.program (memory m) m.frame.body m.frame.this m.frame.locals guard
        holds number guard a e =
            elim (or_cases (number == id) (is_among number l.around) a) as
            (λ z. GuardHolds m.code.program (memory m) m.frame.body m.frame.this m.frame.locals guard) [
              | inl h ↦ (let same : number ≡ id = grind (arith, nat_tests) in
                  here guard (subst (λ x. guard_of m.code x ≡ Some guard) same e))
              | inr h ↦ l.holds number guard h e
            ]

    option_guards : (o : Option ℕ) → part m.code if_parts id ≡ Some (n.parts.0, o) →
        IsOptionPart m.code.program q.b m.class m.known o → LeftGuards m (optional_ops m.code o ++ m.frame.rest)
    unfolding optional_ops
    option_guards None is part = l
    option_guards (Some x) is part =
        in_front l (ops_of m.code x)
        (frame_adds q.b q.is id l.around stands (ops_of m.code x)
        (m.facts.guards.seconds q.b m.class id n.parts.0 x is part.is.inside))

    if_goes : Stood m.code m.frame.body m.class (IF id ∷ m.frame.rest) m.kinds → (t : Bool) →
        (t ≡ true → HoldsHere id) → Ok m (given (put_in_front m.code (IF id) t) (λ ops.
        Goes (record m.frame { operands = rest; rest = ops ++ m.frame.rest })))
    unfolding put_in_front goes_into
    if_goes st true here =
        given_fine m _ _ (ops_of m.code n.parts.0) (ap (option_map (λ (x : ℕ × Option ℕ). ops_of m.code x.0)) n.is)
        (front_fine (ops_of m.code n.parts.0) rest n.others have (part_fine n.parts.0 n.first
        (front_stood (IF id) true (ops_of m.code n.parts.0) n.condition.kind n.others n.condition.takes st refl
        (ap (option_map (λ (x : ℕ × Option ℕ). ops_of m.code x.0)) n.is)) (first_ends n.goes))
        (first_guards (here refl)))
    if_goes st false here =
        given_fine m _ _ (optional_ops m.code n.parts.1)
        (ap (option_map (λ (x : ℕ × Option ℕ). optional_ops m.code x.1)) n.is)
        (front_fine (optional_ops m.code n.parts.1) rest n.others have
        (option_flows n.parts.0 n.parts.1 n.second
        (front_stood (IF id) false (optional_ops m.code n.parts.1) n.condition.kind n.others n.condition.takes st refl
        (ap (option_map (λ (x : ℕ × Option ℕ). optional_ops m.code x.1)) n.is)) n.goes)
        (option_guards n.parts.1 n.is n.second))

  pub if_guarded : (id : ℕ) (l : LeftGuards m m.frame.rest) → around id ≡ l.around →
      ((t : Bool) (rest : List Value) → m.frame.operands ≡ Truth t ∷ rest → t ≡ true → HoldsHere id) →
      FlowsOn m (IF id ∷ m.frame.rest) m.known m.kinds → Ok m (effect_of m.code m.world m.frame (IF id))
  unfolding effect_of
  if_guarded id l stands here r =
      let q =
      in_body
      (λ b. IfNeeds m.code b m.class id m.known m.kinds (FlowsOn m m.frame.rest)) r.1 in
      let x = condition_of q.needed.condition.kind q.needed.others q.needed.condition.takes q.needed.condition.fits in
      pop_fine m m.frame.operands _ (Truth x.t) x.rest x.is
      (if_goes id q x.rest x.have l stands r.0 x.t (here x.t x.rest x.is))

  pub if_fine : (id : ℕ) → DoesStanding m (IF id)
  unfolding IsPlain StandsIn
  if_fine id l plain stands r =
      if_guarded id l stands (λ t rest is e guard h. absurd (let x : None ≡ Some guard = sym plain ∙ h in cc (x))) r

  -- ---- loops

  turn_is : (b id : ℕ) (node : Node) → AreLoopParts m.code.program b m.class m.known node →
      (turn : List Op) × (iteration_ops m.code id node ≡ Some turn)
  unfolding iteration_ops AreLoopParts
  turn_is b id (While position condition body) parts = (_, refl)
  turn_is b id (For position first condition step body) parts = (_, refl)
  turn_is b id _ parts = absurd parts

  module _ (id : ℕ)
      (q : InBody m
      (λ b. LoopNeeds m.code b m.class id m.known m.kinds (FlowsOn m m.frame.rest)))
      (rest : List Value) (have : HoldAll m q.needed.others rest)
      (g : LeftGuards m m.frame.rest) (stands : around id ≡ g.around) where
    abbrev l : LoopNeeds m.code q.b m.class id m.known m.kinds (FlowsOn m m.frame.rest)
    l = q.needed

    abbrev Ends : Type 0
    Ends = ((l.condition.kind ≡ yes) × (always_returns m.code.program id ≡ true)) ⊎ FlowsOn m m.frame.rest m.known
        l.others

    again : Ends → (always_returns m.code.program id ≡ true)
        ⊎ ((ms : List ℕ) → Among m.known ms → Flow m.code (Written q.b) m.class m.sig m.frame.rest ms l.others)
    again (inl h) = inl h.1
    again (inr w) = inr (widened q.b q.is l.others w)

    ends : (l.condition.kind ≡ yes → false ≡ true) → Ends → FlowsOn m m.frame.rest m.known l.others
    ends y (inl h) = absurd (true≢false (sym (y h.0)))
    ends y (inr w) = w

    loop_goes : Stood m.code m.frame.body m.class (LOOP id ∷ m.frame.rest) m.kinds → (t : Bool) → (l.condition.kind ≡ yes → t ≡ true) →
        Ok m (given (put_in_front m.code (LOOP id) t) (λ ops.
        Goes (record m.frame { operands = rest; rest = ops ++ m.frame.rest })))
    unfolding put_in_front goes_into
    loop_goes st true y =
        let turn = turn_is q.b id l.node l.parts in
        given_fine m _ _ turn.0
        (ap (option_map (λ (x : List Op). x)) (ap (λ (o : Option Node). o >>= iteration_ops m.code id) l.is ∙ turn.1))
        (front_fine turn.0 rest l.others have
        (at_body q.b q.is _ m.known l.others
        (front_stood (LOOP id) true turn.0 l.condition.kind l.others l.condition.takes st refl
        (ap (option_map (λ (x : List Op). x)) (ap (λ (o : Option Node). o >>= iteration_ops m.code id) l.is ∙ turn.1)))
        (turn_flow m.code m.facts q.b m.class m.sig q.body id l.node l.is m.known l.parts m.frame.rest l.others
        (again l.goes) turn.0 turn.1))
        (in_front g turn.0
        (frame_adds q.b q.is id g.around stands turn.0
        (m.facts.guards.turns q.b m.class id m.known l.node turn.0 l.is l.parts turn.1))))
    loop_goes st false y =
        let turn = turn_is q.b id l.node l.parts in
        given_fine m _ _ []
        (ap (option_map (λ (x : List Op). [])) (ap (λ (o : Option Node). o >>= iteration_ops m.code id) l.is ∙ turn.1))
        (front_fine [] rest l.others have (ends y l.goes) g)

  pub loop_fine : (id : ℕ) → DoesStanding m (LOOP id)
  unfolding effect_of StandsIn
  loop_fine id l plain stands r =
      let q =
      in_body
      (λ b. LoopNeeds m.code b m.class id m.known m.kinds (FlowsOn m m.frame.rest)) r.1
      in
      let x = condition_of q.needed.condition.kind q.needed.others q.needed.condition.takes q.needed.condition.fits in
      pop_fine m m.frame.operands _ (Truth x.t) x.rest x.is (loop_goes id q x.rest x.have l stands r.0 x.t x.if_yes)

  -- ---- locals

  pub zero_fine : (id : ℕ) → DoesStanding m (ZERO id)
  unfolding effect_of kind_of_variable kind_of pushed StandsIn
  zero_fine id l plain stands way =
      let r = way.1 in
      given_fine m _ _ r.local r.is
      (go (variable_at m.code.program.nodes id) (variable_scope_at m.code.program id) r.is_variable.is_kind)
    where
      r : NeedsNext m (ZERO id)
      r = way.1

      go : (o : Option Declared) (s : Option Scope) →
          kind_of (o >>= declared_type_of m.code.program) s ≡ Some r.is_variable.kind →
          Ok m (given o (λ (d : Declared).
          Goes (record m.frame
          { locals = slice_set m.frame.locals r.local (default_value (kind_of_type d.declared_type)) })))
      go None s e = absurd (let x = no_kind s in cc (e, x))
        where
          no_kind : (s : Option Scope) → kind_of None s ≡ None
          no_kind None = refl
          no_kind (Some s) = refl
      go (Some d) s e =
          record {
            is = ready m m.frame.operands _ m.frame.rest None (id ∷ m.known) m.kinds m.operands
                (locals_set m r.local id r.is_variable _
                (default_has m.code.program (memory m) (den m) m.code.program.names d.declared_type s r.is_variable.kind
                e)) r.goes
                (guards_set l id r.local id r.is_variable.is_there r.spares stands _ m.frame.operands);
          }

  pub store_fine : (id : ℕ) → DoesStanding m (STORE id)
  unfolding effect_of pushed StandsIn
  store_fine id l plain stands way =
      let r = way.1 in
      let x = take m r.value r.others r.takes in
      given_fine m _ _ r.local r.is
      (pop_fine m m.frame.operands _ x.v x.rest x.is
      (record {
        is = ready m x.rest _ m.frame.rest None (r.variable ∷ m.known) r.others x.have
            (locals_set m r.local r.variable r.is_variable x.v (fits_here m r.value r.is_variable.kind r.fit x.v x.has))
            r.goes (guards_set l id r.local r.variable r.is_variable.is_there r.spares stands x.v x.rest);
      }))

  pub drop_fine : (id : ℕ) → Does m (DROP id)
  unfolding effect_of
  drop_fine id l r =
      let x = take m r.needed.kind r.out r.needed.takes in
      pop_fine m m.frame.operands _ x.v x.rest x.is (goes_fine m l x.rest r.out x.have r.goes)

  -- ---- the end of bodies

  pub leave_with_fine : (id : ℕ) → Does m (LEAVEWITH id)
  unfolding effect_of
  leave_with_fine id l r =
      let x = take m r.kind r.others r.takes in
      pop_fine m m.frame.operands _ x.v x.rest x.is
      (record {
        is = (
          same m x.rest m.frame.locals m.frame.rest,
          subst (λ o. ReturnFine m.code.program (memory m) (den m) o (Some x.v)) (sym r.is)
              (fits_here m r.kind r.wanted r.fit x.v x.has),
        );
      })

  pub leave_fine : Does m LEAVE
  unfolding effect_of
  leave_fine l r =
      record {
        is = (
          same m m.frame.operands m.frame.locals m.frame.rest,
          subst (λ o. ReturnFine m.code.program (memory m) (den m) o None) (sym r) tt,
        );
      }
