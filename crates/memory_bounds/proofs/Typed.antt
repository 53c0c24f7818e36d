-- From what is known of frames: the receiver of CALL is an object of a concrete class under the static type, and the
-- Runnable of ENTER and EXECUTEIN one of a concrete class under the class that the binding tells.
use Rattle.std.specs.Prelude.{Some, slice_get}
use Rattle.std.proofs.Common.{◌≡◌, ℕ, ◌+◌, ◌<◌, List, [], ◌∷◌, ◌++◌, length, true, sym, ◌∙◌, ap, subst, arith, inl, inr}
use Rattle.scj_base.specs.declared.values.Value.{Value}
use Rattle.scj_base.specs.declared.values.Value.TheVariants.{At}
use Rattle.scj_rules.specs.declared.typing.Binding.TheVariants.{Method, Builtin}
use Rattle.scj_rules.specs.declared.typing.Target.{Target}
use Rattle.scj_rules.specs.declared.typing.Scope.{Scope}
use Rattle.scj_rules.specs.declared.typing.Ty.TheVariants.{Class as ClassTy}
use Rattle.scj_rules.specs.Classes.{is_sub}
use Rattle.scj_rules.specs.Contexts.{Declarations}
use Rattle.accepted_laws.specs.Kinds.{Kind, reference}
use Rattle.accepted_laws.proofs.Tools.{some_inj}
use Rattle.scj_model.specs.Code.{Code, binding, part}
use Rattle.scj_model.specs.State.{Object, Frame}
use Rattle.scj_model.specs.Operations.{Environment, argument_count}
use Rattle.scope_flow.specs.Signatures.{Signature, IsConcrete}
use Rattle.scope_flow.specs.Slots.{IsOfType}
use Rattle.scope_flow.specs.Needs.{stacked}
use Rattle.scope_flow.specs.CallNeeds.{CallNeeds}
use Rattle.frame_sound.specs.Places.{World, Place, held, Has, AllHave}
use Rattle.memory_needs.specs.Targets.{entered_targets, runs_under}
use Rattle.memory_bounds.proofs.Counted.{ReceiverIsTyped, RunnableIsTyped}

-- the operand under these many others
behind : (p : Declarations) (w : World) (den : Scope → Place) (front : List Kind) (k : Kind) (others : List Kind)
    (vs : List Value) (v : Value) → AllHave p w den (front ++ k ∷ others) vs → slice_get vs (length front) ≡ Some v →
    Has p w (held den k) v
behind p w den [] k others [] v h e = absurd h
behind p w den [] k others (x ∷ vs) v h e = subst (λ (y : Value). Has p w (held den k) y) (some_inj x v e) h.0
behind p w den (j ∷ front) k others [] v h e = absurd h
behind p w den (j ∷ front) k others (x ∷ vs) v h e = behind p w den front k others vs v h.1 e

under_all : (p : Declarations) (w : World) (den : Scope → Place) (ks front : List Kind) (k : Kind) (others : List Kind)
    (vs : List Value) (v : Value) → AllHave p w den (stacked ks (front ++ k ∷ others)) vs →
    slice_get vs (length ks + length front) ≡ Some v → Has p w (held den k) v
under_all p w den [] front k others vs v h e =
    behind p w den front k others vs v h (ap (slice_get vs) (omega arith) ∙ e)
under_all p w den (j ∷ ks) front k others vs v h e =
    under_all p w den ks (j ∷ front) k others vs v h (ap (slice_get vs) (omega arith) ∙ e)

module _ (code : Code) (w : World) (den : Scope → Place) (world : Environment)
    (sees : (r : ℕ) → world.object_at r ≡ w.objects r)
    (concrete : (r : ℕ) (o : Object) → w.objects r ≡ Some o → o.class < length code.program.classes →
    IsConcrete code.program o.class) where
  -- an operand of a class type that isn't null is an object of a concrete class under it
  object_is_typed : (class : ℕ) (scope : Scope) (r : ℕ) (o : Object) →
      Has code.program w (held den (reference (ClassTy class) scope)) (At r) → world.object_at r ≡ Some o →
      (is_sub code.program.classes o.class class ≡ true) × IsConcrete code.program o.class
  unfolding held IsOfType
  object_is_typed class scope r o (inl null) there = absurd (cc (null))
  object_is_typed class scope r o (inr x) there =
      let one : r ≡ x.r = (let a = x.is in cc (a)) in
      let object : o ≡ x.object =
      some_inj o x.object (sym there ∙ (sees r ∙ (ap w.objects one ∙ x.found))) in (
        ap (λ (z : Object). is_sub code.program.classes z.class class) object ∙ x.of_type.1,
        concrete r o (sym (sees r) ∙ there)
            (subst (λ (z : Object). z.class < length code.program.classes) (sym object) x.of_type.0),
      )

  -- the receiver of CALL
  pub receiver_is_typed : (f : Frame) (id c : ℕ) (sig : Signature) (kinds out : List Kind)
      (needed : CallNeeds code c sig id kinds out) →
      AllHave code.program w den kinds f.operands → ReceiverIsTyped code world f id
  receiver_is_typed f id c sig kinds out needed have =
      record { typed = λ t count r o is counted head there. typed t count r o is counted head there }
    where
      typed : (t : Target) (count r : ℕ) (o : Object) → binding code id ≡ Method t →
          part code argument_count id ≡ Some count → slice_get f.operands count ≡ Some (At r) →
          world.object_at r ≡ Some o →
          (is_sub code.program.classes o.class t.on ≡ true) × IsConcrete code.program o.class
      typed t count r o is counted head there =
          let same : length needed.arguments ≡ count = some_inj (length needed.arguments) count (sym needed.count ∙ counted) in
          let all : AllHave code.program w den
          (stacked needed.arguments ([] ++ reference (ClassTy needed.class) needed.scope ∷ needed.others)) f.operands =
          subst (λ (ks : List Kind). AllHave code.program w den ks f.operands) needed.takes have in
          let k = object_is_typed needed.class needed.scope r o
          (under_all code.program w den needed.arguments [] (reference (ClassTy needed.class) needed.scope) needed.others
          f.operands (At r) all (ap (slice_get f.operands) (omega (arith, same)) ∙ head)) there in
          (ap (is_sub code.program.classes o.class) (needed.is_on t is) ∙ k.0, k.1)

  -- and the Runnable of ENTER and EXECUTEIN, whose class is the one that the binding tells
  pub runnable_is_typed : (f : Frame) (id : ℕ) (t : Target) → binding code id ≡ Builtin t → (class : ℕ) → t.on ≡ class →
      (scope : Scope) (others : List Kind) →
      AllHave code.program w den (reference (ClassTy class) scope ∷ others) f.operands → RunnableIsTyped code world f id
  unfolding entered_targets
  runnable_is_typed f id t is class on scope others have =
      record {
        on = class;
        targets = ap (entered_targets code.program) is ∙ ap (runs_under code.program) on;
        typed = λ r o head there.
            object_is_typed class scope r o
            (behind code.program w den [] (reference (ClassTy class) scope) others f.operands (At r) have head) there;
      }
