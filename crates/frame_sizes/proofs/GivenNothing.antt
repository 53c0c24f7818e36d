-- A constructor that is called, and a `run`, give no value.
use Rattle.std.specs.Prelude.{Option, Some, None, is_some, slice_get, codes}
use Rattle.std.proofs.Common.{◌≡◌, ℕ, ◌<◌, length, true, false, ◌⊎◌, inl, inr, sym, ap, ◌∙◌, subst, List, [], ◌∷◌}
use Rattle.scj_base.specs.declared.values.Value.{Value}
use Rattle.scj_base.specs.declared.values.Value.TheVariants.{Null, At}
use Rattle.scj_rules.specs.declared.typing.Scope.{Scope}
use Rattle.scj_rules.specs.declared.typing.Ty.TheVariants.{Class as ClassTy}
use Rattle.scj_rules.specs.declared.views.Body.{Body}
use Rattle.scj_rules.specs.declared.views.Body.TheVariants.{Written}
use Rattle.scj_rules.specs.Classes.{is_sub}
use Rattle.scj_rules.specs.Bodies.{body_named, constructor_body}
use Rattle.accepted_laws.specs.Kinds.{Kind, reference}
use Rattle.accepted_laws.proofs.Tools.{some_inj}
use Rattle.scj_model.specs.declared.operations.Op.{Op}
use Rattle.scj_model.specs.declared.operations.Op.TheVariants.{Enter as ENTER, ExecuteIn as EXECUTEIN, Super as SUPER}
use Rattle.scj_model.specs.Code.{Code, binding}
use Rattle.scj_model.specs.State.{Object, Frame}
use Rattle.scj_model.specs.Operations.{Environment, bound_class}
use Rattle.scope_flow.specs.Facts.{Facts}
use Rattle.scope_flow.specs.Needs.{pushed}
use Rattle.scope_flow.specs.Signatures.{Signature, Runs, IsConcrete, HasRun}
use Rattle.scope_flow.specs.Slots.{IsOfType}
use Rattle.frame_sound.specs.Places.{World, denote, held, IsObject, Has, AllHave}
use Rattle.frame_sound.specs.Fine.{Ready, HeapFine, IsInstance}
use Rattle.frame_sound.proofs.GivenValues.{one_signature}
use Rattle.certain_faults.proofs.GivenAsBound.{GivesSo}
use Rattle.frame_sizes.proofs.Frames.{GivesNothing}

module _ (code : Code) where
  by_signature : (body : Body) (class : ℕ) (own : Signature) → Runs code.program body class own → own.gives ≡ None →
      GivesSo code body false
  by_signature body class own its e c sig runs =
      ap (λ (s : Signature). is_some s.gives) (one_signature code.program body c class sig own runs its).signature
      ∙ ap is_some e

  module _ (facts : Facts code) (w : World) (heap : HeapFine code.program w) (list : List ℕ) (c : ℕ) (sig : Signature)
      (f : Frame) (rest : List Op) where
    abbrev Before : Op → Type 0
    Before op = Ready code w list c sig (record f { rest = op ∷ rest }) None

    of_super : (id : ℕ) → Before (SUPER id) → (class : ℕ) (body : Body) →
        bound_class (binding code id) ≡ Some class → constructor_body code.program class ≡ Some body →
        GivesSo code body false
    of_super id ready class body e k =
        let need = ready.flow.1.needed in
        let same : need.superclass ≡ class = some_inj need.superclass class (sym need.is ∙ e) in
        let body_is : need.constructor.body ≡ body =
        some_inj need.constructor.body body
        (sym need.constructor.is ∙ ap (constructor_body code.program) same ∙ k) in
        by_signature body need.superclass need.constructor.sig
        (subst (λ b. Runs code.program b need.superclass need.constructor.sig) body_is need.constructor.runs)
        need.constructor.gives_nothing

    concrete : (r : ℕ) (o : Object) → w.objects r ≡ Some o → o.class < length code.program.classes →
        IsConcrete code.program o.class
    concrete r o found less = go (heap r o found).is_instance
      where
        go : IsInstance code.program o.class → IsConcrete code.program o.class
        go (inl h) = h
        go (inr h) = absurd (let none = facts.classes o.class less in let some = h.1 in cc (none, some))

    top_has : (ks : List Kind) (vs : List Value) (k : Kind) (v : Value) →
        AllHave code.program w (denote w list f.this f.area) ks vs → slice_get ks 0 ≡ Some k →
        slice_get vs 0 ≡ Some v → Has code.program w (held (denote w list f.this f.area) k) v
    top_has [] vs k v h e u = absurd (cc (e))
    top_has (j ∷ ks) [] k v h e u = absurd h
    top_has (j ∷ ks) (x ∷ vs) k v h e u =
        subst (λ (i : Kind). Has code.program w (held (denote w list f.this f.area) i) v) (some_inj j k e)
        (subst (Has code.program w (held (denote w list f.this f.area) j)) (some_inj x v u) h.0)

    -- the last operand is an object of a class whose `run` gives nothing
    module _ (kinds : List Kind) (have : AllHave code.program w (denote w list f.this f.area) kinds f.operands)
        (class : ℕ) (scope : Scope) (is_top : slice_get kinds 0 ≡ Some (reference (ClassTy class) scope))
        (each : (on : ℕ) → is_sub code.program.classes on class ≡ true → IsConcrete code.program on →
        HasRun code.program on) where
      of_run : (r : ℕ) (o : Object) (body : Body) → slice_get f.operands 0 ≡ Some (At r) → w.objects r ≡ Some o →
          body_named code.program o.class (codes "run") ≡ Some body → GivesSo code body false
      unfolding held Runs IsOfType
      of_run r o body stands found k =
          by_object (top_has kinds f.operands (reference (ClassTy class) scope) (At r) have is_top stands)
        where
          by_class : o.class < length code.program.classes → is_sub code.program.classes o.class class ≡ true →
              GivesSo code body false
          by_class less above =
              let d = each o.class above (concrete r o found less) in
              let body_is : Written d.body ≡ body = some_inj (Written d.body) body (sym d.is ∙ k) in
              by_signature body d.own.on d.own.sig
              (subst (λ b. Runs code.program b d.own.on d.own.sig) body_is d.own.is_body) d.gives

          by_object : (At r ≡ Null) ⊎ IsObject code.program w (ClassTy class)
              (denote w list f.this f.area scope) (At r) → GivesSo code body false
          by_object (inl n) = absurd (cc (n))
          by_object (inr x) =
              let same : r ≡ x.r = (let a = x.is in cc (a)) in
              let it : x.object ≡ o = some_inj x.object o (sym x.found ∙ ap w.objects (sym same) ∙ found) in
              by_class (subst (λ (q : Object). q.class < length code.program.classes) it x.of_type.0)
              (subst (λ (q : Object). is_sub code.program.classes q.class class ≡ true) it x.of_type.1)

    of_enter : (id : ℕ) → Before (ENTER id) → (r : ℕ) (o : Object) (body : Body) →
        slice_get f.operands 0 ≡ Some (At r) → w.objects r ≡ Some o →
        body_named code.program o.class (codes "run") ≡ Some body → GivesSo code body false
    unfolding pushed
    of_enter id ready r o body stands found k =
        let need = ready.flow.1.needed in
        of_run ready.kinds ready.operands need.class need.scope (ap (λ (ks : List Kind). slice_get ks 0) need.takes)
        (λ on above is. (need.each on above is).run) r o body stands found k

    of_execute : (id : ℕ) → Before (EXECUTEIN id) → (r : ℕ) (o : Object) (body : Body) →
        slice_get f.operands 0 ≡ Some (At r) → w.objects r ≡ Some o →
        body_named code.program o.class (codes "run") ≡ Some body → GivesSo code body false
    unfolding pushed
    of_execute id ready r o body stands found k =
        let need = ready.flow.1.needed in
        of_run ready.kinds ready.operands need.class need.scope (ap (λ (ks : List Kind). slice_get ks 0) need.takes)
        (λ on above is. (need.each on above is).run) r o body stands found k

  pub given_nothing : (facts : Facts code) (world : Environment) (w : World) (heap : HeapFine code.program w) →
      w.objects ≡ world.object_at → (list : List ℕ) (c : ℕ) (sig : Signature) (f : Frame) (rest : List Op) (op : Op) →
      Ready code w list c sig (record f { rest = op ∷ rest }) None →
      GivesNothing code (GivesSo code) world (record f { rest = rest }) op
  given_nothing facts world w heap same list c sig f rest (ENTER id) ready =
      λ r o body stands found k. of_enter facts w heap list c sig f rest id ready r o body stands
      (ap (λ (objects : ℕ → Option Object). objects r) same ∙ found) k
  given_nothing facts world w heap same list c sig f rest (EXECUTEIN id) ready =
      λ r o body stands found k. of_execute facts w heap list c sig f rest id ready r o body stands
      (ap (λ (objects : ℕ → Option Object). objects r) same ∙ found) k
  given_nothing facts world w heap same list c sig f rest (SUPER id) ready =
      of_super facts w heap list c sig f rest id ready
  given_nothing facts world w heap same list c sig f rest _ ready = tt
