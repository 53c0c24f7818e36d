-- What is stored under a guard: in a field whose scope is where its object lies, an object that lies there too.
use Rattle.std.specs.Prelude.{Some}
use Rattle.std.proofs.Common.{◌≡◌, ℕ, suc, true, refl, sym, ◌∙◌, ap, subst, inl, inr}
use Rattle.scj_base.specs.declared.values.Value.{Value}
use Rattle.scj_base.specs.declared.values.Value.TheVariants.{Null, At}
use Rattle.scj_rules.specs.declared.typing.Ty.{Ty}
use Rattle.scj_rules.specs.declared.typing.Scope.{Scope}
use Rattle.scj_rules.specs.declared.typing.Scope.TheVariants.{This, Caller, In, Unknown}
use Rattle.scj_rules.specs.Classes.{is_sub}
use Rattle.scj_rules.specs.StaticScopes.{this_in}
use Rattle.accepted_laws.specs.Kinds.{Kind, reference, unscoped, Fits}
use Rattle.accepted_laws.proofs.Tools.{some_inj}
use Rattle.scj_model.specs.State.{Object}
use Rattle.scope_flow.specs.Slots.{kind_of_slot, IsOfType}
use Rattle.scope_flow.specs.Needs.{LiesWithObject}
use Rattle.frame_sound.specs.Guards.{AreTogether}
use Rattle.frame_sound.specs.Places.{Place, LiesAt, area_around, within, an_object, held, IsObject, Has}
use Rattle.frame_sound.specs.EffectsFine.{StoreFine}
use Rattle.frame_sound.proofs.Places.{around_itself}
use Rattle.frame_sound.proofs.Scenes.{Scene, memory, den, Holds}

module _ (m : Scene) where
  -- in a field whose scope is where its object lies an object may be stored that lies there too
  pub stored_beside : (o : Object) (r : ℕ) → m.world.object_at r ≡ Some o → (class : ℕ) →
      is_sub m.code.program.classes o.class class ≡ true → (slot : ℕ) (k : Kind) →
      kind_of_slot m.code.program o.class slot ≡ Some k → LiesWithObject m.code.program class k → (scope : Scope)
      (j : Kind) → Fits m.code.program scope Caller j (unscoped k) → (v : Value) → Holds m j v →
      AreTogether (memory m) (At r) v → StoreFine m.code.program (memory m) r slot v
  unfolding held unscoped LiesWithObject within IsOfType
  stored_beside o r found class sub slot k is lies scope j fit v h t =
      record {
        object = o;
        found = found;
        has = λ l e. subst (λ k. Has m.code.program (memory m) (held (within m.areas o.area) k) v)
            (some_inj k l (sym is ∙ e)) (go k lies fit is);
      }
    where
      -- the object that is stored in lies in the area of the one that is stored
      one_reference : r ≡ t.r
      one_reference = let e : At r ≡ At t.r = t.is_first in cc (e)

      one_object : o ≡ t.first
      one_object = some_inj o t.first (sym found ∙ (ap m.world.object_at one_reference ∙ t.first_found))

      area : t.second.area ≡ o.area
      area = sym (ap (λ (x : Object). x.area) one_object ∙ t.one_area)

      in_scope : (x : Object) (q n c : ℕ) → m.world.object_at q ≡ Some x → is_sub m.code.program.classes x.class c ≡ true →
          this_in m.code.program c ≡ Some (In n) → x.area ≡ o.area →
          area_around m.areas n (suc o.area) o.area ≡ Some o.area
      in_scope x q n c there under names same =
          let f = m.heap q x there in
          around_itself m.areas o.area f.area (ap m.areas (sym same) ∙ f.is_area) n
          (f.is_placed n (m.facts.inherits x.class c n under names))

      value : (u : Ty) (s : Scope) → IsOfType m.code.program t.second.class u → LiesAt (within m.areas o.area s) o.area →
          Has m.code.program (memory m) (held (within m.areas o.area) (reference u s)) v
      value u s of_type there =
          inr (record {
            r = t.s;
            is = t.is_second;
            object = t.second;
            found = t.second_found;
            of_type = of_type;
            lies = subst (LiesAt (within m.areas o.area s)) (sym area) there;
          })

      of_type : (u : Ty) (s : Scope) → Fits m.code.program scope Caller j (unscoped (reference u s)) →
          IsOfType m.code.program t.second.class u
      of_type u s fit = stored_type j fit h
        where
          of_object : (a : Ty) (at : Place) → IsObject m.code.program (memory m) a at v →
              IsOfType m.code.program t.second.class a
          of_object a at q =
              let e : At q.r ≡ At t.s = sym q.is ∙ t.is_second in
              let one : q.r ≡ t.s = cc (e) in
              let same : q.object ≡ t.second =
              some_inj q.object t.second (sym q.found ∙ (ap m.world.object_at one ∙ t.second_found)) in
              subst (λ (x : Object). IsOfType m.code.program x.class a) same q.of_type

          type_of : (a : Ty) (at : Place) → Has m.code.program (memory m) (an_object a at) v →
              IsOfType m.code.program t.second.class a
          type_of a at (inl e) = absurd (let x : At t.s ≡ Null = sym t.is_second ∙ e in cc (x))
          type_of a at (inr q) = of_object a at q

          stored_type : (j : Kind) → Fits m.code.program scope Caller j (reference u Unknown) → Holds m j v →
              IsOfType m.code.program t.second.class u
          stored_type (reference a r) fit h =
              m.facts.assigned t.second.class a u (type_of a (den m r) h) fit.0
          stored_type _ fit h = absurd fit

      go : (k : Kind) → LiesWithObject m.code.program class k → Fits m.code.program scope Caller j (unscoped k) →
          kind_of_slot m.code.program o.class slot ≡ Some k →
          Has m.code.program (memory m) (held (within m.areas o.area) k) v
      go (reference u This) lies fit is = value u This (of_type u This fit) refl
      go (reference u (In n)) (inl names) fit is =
          value u (In n) (of_type u (In n) fit) (in_scope o r n class found sub names refl)
      go (reference u (In n)) (inr own) fit is =
          value u (In n) (of_type u (In n) fit)
          (in_scope t.second t.s n own.0 t.second_found
          (subst (IsOfType m.code.program t.second.class) own.1 (of_type u (In n) fit)).1 own.2 area)
      go _ lies fit is = absurd lies
