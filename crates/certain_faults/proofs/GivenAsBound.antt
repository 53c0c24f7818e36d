-- The body that an operation calls gives a value exactly where what is bound leaves one.
use Rattle.std.specs.Prelude.{Option, Some, None, is_some, slice_get}
use Rattle.std.proofs.Common.{◌≡◌, ℕ, zero, suc, ◌+◌, ◌<◌, List, [], ◌∷◌, length, Bool, true, false, ◌⊎◌, inl, inr, refl, sym, ap, ◌∙◌, subst, arith}
use Rattle.scj_base.specs.declared.values.Value.{Value}
use Rattle.scj_base.specs.declared.values.Value.TheVariants.{Null, At}
use Rattle.scj_rules.specs.declared.typing.Scope.{Scope}
use Rattle.scj_rules.specs.declared.typing.Ty.TheVariants.{Class as ClassTy}
use Rattle.scj_rules.specs.declared.views.Body.{Body}
use Rattle.scj_rules.specs.declared.views.Body.TheVariants.{Written}
use Rattle.scj_rules.specs.Classes.{is_sub}
use Rattle.scj_rules.specs.Bodies.{body_of, constructor_body}
use Rattle.accepted_laws.specs.Kinds.{Kind, reference}
use Rattle.accepted_laws.proofs.Tools.{some_inj}
use Rattle.scj_model.specs.declared.operations.Op.{Op}
use Rattle.scj_model.specs.declared.operations.Op.TheVariants.{Call as CALL, CallStatic as CALLSTATIC, Construct as CONSTRUCT}
use Rattle.scj_model.specs.Code.{Code, binding, part}
use Rattle.scj_model.specs.State.{Object, Frame}
use Rattle.scj_model.specs.Ops.{leaves_value}
use Rattle.scj_model.specs.Operations.{Environment, bound_class, bound_method, bound_static_method, argument_count}
use Rattle.scope_flow.specs.CallNeeds.{CallNeeds}
use Rattle.scope_flow.specs.Facts.{Facts}
use Rattle.scope_flow.specs.Needs.{pushed, stacked}
use Rattle.scope_flow.specs.Signatures.{Signature, Runs, Gives, IsConcrete}
use Rattle.scope_flow.specs.Slots.{IsOfType}
use Rattle.frame_sound.specs.Places.{World, Place, denote, held, IsObject, Has, AllHave}
use Rattle.frame_sound.specs.Fine.{Ready, HeapFine, IsInstance}
use Rattle.frame_sound.proofs.GivenValues.{one_signature}
use Rattle.certain_faults.proofs.Frames.{GivesAsBound}

module _ (code : Code) where
  -- whether a body gives a value
  abbrev pub GivesSo : Body → Bool → Type 0
  GivesSo body b = (c : ℕ) (sig : Signature) → Runs code.program body c sig → is_some sig.gives ≡ b

  by_signature : (body : Body) (class : ℕ) (own : Signature) (b : Bool) → Runs code.program body class own →
      is_some own.gives ≡ b → GivesSo body b
  by_signature body class own b its e c sig runs =
      ap (λ (s : Signature). is_some s.gives) (one_signature code.program body c class sig own runs its).signature ∙ e

  same_gives : (home : Scope) (own static : Option Kind) → Gives code.program home own static →
      is_some own ≡ is_some static
  same_gives home None None g = refl
  same_gives home (Some j) (Some k) g = refl
  same_gives home None (Some k) g = absurd g
  same_gives home (Some j) None g = absurd g

  -- ---- the object of a call

  module _ (w : World) (den : Scope → Place) where
    operand_has : (ks : List Kind) (vs : List Value) (n : ℕ) (k : Kind) (v : Value) → AllHave code.program w den ks vs →
        slice_get ks n ≡ Some k → slice_get vs n ≡ Some v → Has code.program w (held den k) v
    operand_has [] vs n k v h e u = absurd (cc (e))
    operand_has (j ∷ ks) [] n k v h e u = absurd h
    operand_has (j ∷ ks) (x ∷ vs) zero k v h e u =
        subst (λ (i : Kind). Has code.program w (held den i) v) (some_inj j k e)
        (subst (Has code.program w (held den j)) (some_inj x v u) h.0)
    operand_has (j ∷ ks) (x ∷ vs) (suc n) k v h e u = operand_has ks vs n k v h.1 e u

  stands_behind : (us under : List Kind) (n : ℕ) (k : Kind) → slice_get under n ≡ Some k →
      slice_get (stacked us under) (length us + n) ≡ Some k
  stands_behind [] under n k e = ap (slice_get under) (let same : zero + n ≡ n = omega arith in same) ∙ e
  stands_behind (u ∷ us) under n k e =
      ap (slice_get (stacked us (u ∷ under))) (let same : suc (length us) + n ≡ length us + suc n = omega arith in same)
      ∙ stands_behind us (u ∷ under) (suc n) k e

  -- ---- what an operation calls

  module _ (facts : Facts code) (w : World) (heap : HeapFine code.program w) (list : List ℕ) (c : ℕ) (sig : Signature)
      (f : Frame) (rest : List Op) where
    abbrev Before : Op → Type 0
    Before op = Ready code w list c sig (record f { rest = op ∷ rest }) None

    of_constructor : (id : ℕ) → Before (CONSTRUCT id) → (class : ℕ) (body : Body) →
        bound_class (binding code id) ≡ Some class → constructor_body code.program class ≡ Some body →
        GivesSo body false
    of_constructor id ready class body e k =
        let need = ready.flow.1.needed in
        let same : need.class ≡ class = some_inj need.class class (sym need.is ∙ e) in
        let body_is : need.constructor.body ≡ body =
        some_inj need.constructor.body body
        (sym need.constructor.is ∙ ap (constructor_body code.program) same ∙ k) in
        by_signature body need.class need.constructor.sig false
        (subst (λ b. Runs code.program b need.class need.constructor.sig) body_is need.constructor.runs)
        (ap is_some need.constructor.gives_nothing)

    of_static : (id : ℕ) → Before (CALLSTATIC id) → (method : ℕ × ℕ) (body : Body) →
        bound_static_method (binding code id) ≡ Some method → body_of code.program method.0 method.1 ≡ Some body →
        GivesSo body (leaves_value (binding code id))
    unfolding Runs
    of_static id ready method body e k =
        let need = ready.flow.1.needed in
        let same : need.method ≡ method = some_inj need.method method (sym need.is ∙ e) in
        let body_is : Written need.body ≡ body =
        some_inj (Written need.body) body
        (sym need.is_body ∙ ap (λ (m : ℕ × ℕ). body_of code.program m.0 m.1) same ∙ k) in
        by_signature body need.on need.static (leaves_value (binding code id))
        (subst (λ b. Runs code.program b need.on need.static) body_is need.has_signature) (sym need.is_left)

    concrete : (r : ℕ) (o : Object) → w.objects r ≡ Some o → o.class < length code.program.classes →
        IsConcrete code.program o.class
    concrete r o found less = go (heap r o found).is_instance
      where
        go : IsInstance code.program o.class → IsConcrete code.program o.class
        go (inl h) = h
        go (inr h) = absurd (let none = facts.classes o.class less in let some = h.1 in cc (none, some))

    of_method : (id : ℕ) → Before (CALL id) → (method count r : ℕ) (o : Object) (body : Body) →
        bound_method (binding code id) ≡ Some method → part code argument_count id ≡ Some count →
        slice_get f.operands count ≡ Some (At r) → w.objects r ≡ Some o →
        body_of code.program o.class method ≡ Some body → GivesSo body (leaves_value (binding code id))
    unfolding held Runs IsOfType pushed
    of_method id ready method count r o body e counted stands found k = by_object object
      where
        need : CallNeeds code c sig id ready.kinds ready.flow.1.out
        need = ready.flow.1.needed

        place : count ≡ length need.arguments + 0
        place =
            let same : length need.arguments ≡ count =
            some_inj (length need.arguments) count (sym need.count ∙ counted) in
            omega (arith, same)

        kind_is : slice_get ready.kinds count ≡ Some (reference (ClassTy need.class) need.scope)
        kind_is =
            ap (λ (ks : List Kind). slice_get ks count) need.takes
            ∙ ap (slice_get (stacked need.arguments (reference (ClassTy need.class) need.scope ∷ need.others))) place
            ∙ stands_behind need.arguments (reference (ClassTy need.class) need.scope ∷ need.others) 0
            (reference (ClassTy need.class) need.scope) refl

        object : Has code.program w (held (denote w list f.this f.area) (reference (ClassTy need.class) need.scope)) (At r)
        object =
            operand_has w (denote w list f.this f.area) ready.kinds f.operands count
            (reference (ClassTy need.class) need.scope) (At r) ready.operands kind_is stands

        by_class : o.class < length code.program.classes → is_sub code.program.classes o.class need.class ≡ true →
            GivesSo body (leaves_value (binding code id))
        by_class less above =
            let d = need.each o.class above (concrete r o found less) in
            let same : need.method ≡ method = some_inj need.method method (sym need.is ∙ e) in
            let body_is : Written d.body ≡ body =
            some_inj (Written d.body) body (sym d.is ∙ ap (body_of code.program o.class) same ∙ k) in
            by_signature body d.own.on d.own.sig (leaves_value (binding code id))
            (subst (λ b. Runs code.program b d.own.on d.own.sig) body_is d.own.is_body)
            (same_gives d.own.is_body.home d.own.sig.gives need.static.gives d.gives ∙ sym need.is_left)

        by_object : (At r ≡ Null) ⊎ IsObject code.program w (ClassTy need.class)
            (denote w list f.this f.area need.scope) (At r) → GivesSo body (leaves_value (binding code id))
        by_object (inl n) = absurd (cc (n))
        by_object (inr x) =
            let same : r ≡ x.r = (let a = x.is in cc (a)) in
            let it : x.object ≡ o = some_inj x.object o (sym x.found ∙ ap w.objects (sym same) ∙ found) in
            by_class (subst (λ (q : Object). q.class < length code.program.classes) it x.of_type.0)
            (subst (λ (q : Object). is_sub code.program.classes q.class need.class ≡ true) it x.of_type.1)

  pub given_as_bound : (facts : Facts code) (world : Environment) (w : World) (heap : HeapFine code.program w) →
      w.objects ≡ world.object_at → (list : List ℕ) (c : ℕ) (sig : Signature) (f : Frame) (rest : List Op) (op : Op) →
      Ready code w list c sig (record f { rest = op ∷ rest }) None →
      GivesAsBound code GivesSo world (record f { rest = rest }) op
  given_as_bound facts world w heap same list c sig f rest (CONSTRUCT id) ready =
      of_constructor facts w heap list c sig f rest id ready
  given_as_bound facts world w heap same list c sig f rest (CALLSTATIC id) ready =
      of_static facts w heap list c sig f rest id ready
  given_as_bound facts world w heap same list c sig f rest (CALL id) ready =
      λ method count r o body e counted stands found k.
      of_method facts w heap list c sig f rest id ready method count r o body e counted stands
      (ap (λ (objects : ℕ → Option Object). objects r) same ∙ found) k
  given_as_bound facts world w heap same list c sig f rest _ ready = tt
