-- The operations of assignments to fields, of those that no guard allows and of those that one does.
use Rattle.std.proofs.Common.{◌≡◌, ℕ, List, [], ◌∷◌, ◌++◌, refl, sym, ap, ◌∙◌, subst, true≢false, Option, Some, None, option_and_then, option_map, Bool, true, false, slice_get}
use Rattle.scj_base.specs.declared.positions.Position.{Position}
use Rattle.scj_tree.specs.declared.nodes.Node.TheVariants.{Assign, SimpleName, FieldAccess}
use Rattle.scj_tree.specs.Forest.{Forest, IsForest}
use Rattle.scj_rules.specs.declared.typing.FoundField.{FoundField}
use Rattle.scj_rules.specs.declared.typing.Meaning.{Meaning}
use Rattle.scj_rules.specs.declared.typing.Meaning.TheVariants.{Field as a_field}
use Rattle.scj_rules.specs.declared.typing.Receiver.{Receiver}
use Rattle.scj_rules.specs.declared.typing.Subject.{Subject}
use Rattle.scj_rules.specs.declared.typing.Subject.TheVariants.{This as this_object}
use Rattle.scj_rules.specs.declared.views.Body.TheVariants.{Written}
use Rattle.scj_rules.specs.CheckedProgram.{IsReadFromTexts}
use Rattle.scj_rules.specs.Contexts.{Declarations, declarations_of}
use Rattle.scj_rules.specs.Types.{meaning, receiver, accessed_field}
use Rattle.scj_rules.specs.Bindings.{bindings_in}
use Rattle.scj_rules.specs.Guards.{ifs_around, field_of_this, stored_field, subject_at, is_guarded, is_guarded_store}
use Rattle.scj_rules.specs.Phases.{IsAccepted}
use Rattle.accepted_laws.specs.Judgements.{Inside, type_at_node}
use Rattle.accepted_laws.specs.Sorts.{IsWellSorted}
use Rattle.accepted_laws.proofs.Tools.{some_inj}
use Rattle.scj_model.specs.declared.operations.Op.{Op}
use Rattle.scj_model.specs.declared.operations.Op.TheVariants.{This as THIS, Put as PUT}
use Rattle.scj_model.specs.Code.{Code}
use Rattle.scj_model.specs.Ops.{ops_of}
use Rattle.scope_flow.specs.Guards.{PushesSubject, pushes_this, IsPlain, StandsIn, Rest, putting, Adds}
use Rattle.scope_flow.specs.Needs.{IsGuardedAssign}
use Rattle.scope_flow.proofs.Rests.{adds_op, adds_both, adds_behind}
use Rattle.flow_facts.proofs.GuardedFields.{guarded_subjects}
use Rattle.flow_facts.proofs.Subjects.{Pushed, subject_pushed}

module _ (forest : Forest) (accepted : IsAccepted forest) (whole : IsForest forest) (sorted : IsWellSorted forest.nodes)
    (is_read : IsReadFromTexts forest) (b c x : ℕ) (sub : ℕ → List Op) where
  abbrev p : Declarations
  p = declarations_of forest

  abbrev code : Code
  code = record { program = p; bindings = bindings_in p }

  abbrev around : ℕ → List ℕ
  around x = ifs_around forest.nodes x

  abbrev A : List Op → Type 0
  A ops = Adds code (Written b) (around x) ops

  -- a store that no guard allows, and one that a guard allows
  plain_put : (position : Position) (target value : ℕ) → slice_get forest.nodes x ≡ Some (Assign position target value) →
      is_guarded_store p (type_at_node p) x target value ≡ false → (objects : List Op) → A objects → A (sub value) →
      A (objects ++ (sub value ++ PUT x ∷ []))
  unfolding IsPlain StandsIn declarations_of
  plain_put position target value there none objects o v =
      adds_both code (Written b) (around x) objects (sub value ++ PUT x ∷ []) o
      (adds_behind code (Written b) (around x) (sub value) (PUT x) v not_guarded refl)
    where
      not_guarded : IsGuardedAssign p x → ⊥
      not_guarded g =
          let e : Assign g.position g.target g.value ≡ Assign position target value =
          some_inj (Assign g.position g.target g.value) (Assign position target value) (sym g.is_there ∙ there) in
          let t : g.target ≡ target = cc (e) in
          let v : g.value ≡ value = cc (e) in
          absurd (true≢false
          (sym g.is_guarded ∙ (ap (λ n. is_guarded_store p (type_at_node p) x n g.value) t
          ∙ (ap (is_guarded_store p (type_at_node p) x target) v ∙ none))))

  guarded_put : (objects : List Op) (value : ℕ) (holder stored : Subject) (object : Op) →
      PushesSubject code (Written b) holder object → objects ≡ object ∷ [] → Pushed forest accepted whole sorted is_read b value stored →
      sub value ≡ ops_of code value → is_guarded p (type_at_node p) x holder stored ≡ true →
      A (objects ++ (sub value ++ PUT x ∷ []))
  unfolding StandsIn declarations_of
  guarded_put objects value holder stored object pushes is v same guarded rest r =
      subst (λ os. Rest code (Written b) (around x) ((os ++ (sub value ++ PUT x ∷ [])) ++ rest)) (sym is)
      (subst (λ vs. Rest code (Written b) (around x) (object ∷ ((vs ++ PUT x ∷ []) ++ rest))) (sym (same ∙ v.ops))
      (putting (around x) x object v.op rest
      (record { holder = holder; stored = stored; object_is = pushes; value_is = v.pushes; is_guarded = guarded }) refl
      r))

  pub own_put : (position position2 : Position) (name : List ℕ) (target value : ℕ) →
      slice_get forest.nodes x ≡ Some (Assign position target value) →
      slice_get forest.nodes target ≡ Some (SimpleName position2 name) → Inside p b c value → sub value ≡ ops_of code value →
      A (sub value) → A (THIS x ∷ sub value ++ PUT x ∷ [])
  unfolding stored_field field_of_this IsPlain StandsIn
  own_put position position2 name target value there named inside_value same v =
      by_guard (is_guarded_store p (type_at_node p) x target value) refl
    where
      holder_is : (m : Meaning) (s : Subject) (f : FoundField) → field_of_this m ≡ Some (Some s, f) → this_object ≡ s
      holder_is (a_field g) s f e =
          let h : (Some this_object, g) ≡ (Some s, f) = some_inj (Some this_object, g) (Some s, f) e in
          some_inj this_object s (ap (λ (q : Option Subject × FoundField). q.0) h)
      holder_is _ s f e = absurd (cc (e))

      by_guard : (t : Bool) → is_guarded_store p (type_at_node p) x target value ≡ t →
          A (THIS x ∷ sub value ++ PUT x ∷ [])
      by_guard false e = plain_put position target value there e (THIS x ∷ [])
          (adds_op code (Written b) (around x) (THIS x) tt tt) v
      by_guard true e =
          let g = guarded_subjects forest accepted whole sorted x target value (SimpleName position2 name) named e in
          guarded_put (THIS x ∷ []) value this_object g.stored (THIS x) (pushes_this x) refl
          (subject_pushed forest accepted whole sorted is_read b c value g.stored inside_value g.is_stored) same
          (ap (λ s. is_guarded p (type_at_node p) x s g.stored) (holder_is (meaning p target name) g.holder g.field g.is)
          ∙ g.guarded)

  pub field_put : (position position2 : Position) (name : List ℕ) (target value object : ℕ) →
      slice_get forest.nodes x ≡ Some (Assign position target value) →
      slice_get forest.nodes target ≡ Some (FieldAccess position2 name object) → Inside p b c value →
      sub value ≡ ops_of code value → Inside p b c object → sub object ≡ ops_of code object → A (sub object) →
      A (sub value) → A (sub object ++ (sub value ++ PUT x ∷ []))
  unfolding stored_field
  field_put position position2 name target value object there named inside_value same inside_object same_object o v =
      by_guard (is_guarded_store p (type_at_node p) x target value) refl
    where
      of_field : (m : Option FoundField) (s : Subject) (f : FoundField) →
          option_map {U = Option Subject × FoundField} (λ f. (subject_at p object, f)) m ≡ Some (Some s, f) →
          subject_at p object ≡ Some s
      of_field None s f e = absurd (cc (e))
      of_field (Some g) s f e =
          ap (λ (q : Option Subject × FoundField). q.0) (some_inj (subject_at p object, g) (Some s, f) e)

      holder_is : (r : Option Receiver) (s : Subject) (f : FoundField) →
          option_and_then (λ r. option_map {U = Option Subject × FoundField} (λ f. (subject_at p object, f))
          (accessed_field p r name)) r ≡ Some (Some s, f) → subject_at p object ≡ Some s
      holder_is None s f e = absurd (cc (e))
      holder_is (Some r) s f e = of_field (accessed_field p r name) s f e

      by_guard : (t : Bool) → is_guarded_store p (type_at_node p) x target value ≡ t →
          A (sub object ++ (sub value ++ PUT x ∷ []))
      by_guard false e = plain_put position target value there e (sub object) o v
      by_guard true e =
          let g = guarded_subjects forest accepted whole sorted x target value (FieldAccess position2 name object) named e in
          let q =
          subject_pushed forest accepted whole sorted is_read b c object g.holder inside_object
          (holder_is (receiver p (type_at_node p) object) g.holder g.field g.is) in
          guarded_put (sub object) value g.holder g.stored q.op q.pushes (same_object ∙ q.ops)
          (subject_pushed forest accepted whole sorted is_read b c value g.stored inside_value g.is_stored) same
          g.guarded
