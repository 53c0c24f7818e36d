-- What overrides a method in right steps takes what that takes, gives what that gives or something narrower, and a call runs
-- it with its body.
use Rattle.std.proofs.Common.{◌≡◌, ℕ, ◌<◌, List, length, map, refl, sym, ap, ◌∙◌, Option, Some, None, Bool, true, false, not, ◌||◌, ◌&&◌, true≢false, ◌⊎◌, inl, inr, option_map, slice_get, if◌then◌else◌}
use Rattle.std.proofs.lemmas.Option.{slice_get_within}
use Rattle.scj_tree.specs.Forest.{Forest, IsForest}
use Rattle.scj_rules.specs.declared.scopes.ClassScope.{ClassScope}
use Rattle.scj_rules.specs.declared.scopes.ClassScope.TheVariants.{Unannotated as unannotated, Annotated as annotated, Missing as scopeless}
use Rattle.scj_rules.specs.declared.typing.Scope.{Scope}
use Rattle.scj_rules.specs.declared.typing.Scope.TheVariants.{This, Caller}
use Rattle.scj_rules.specs.declared.typing.Ty.{Ty}
use Rattle.scj_rules.specs.declared.typing.Ty.TheVariants.{Class as ClassTy}
use Rattle.scj_rules.specs.declared.views.WrittenType.{WrittenType}
use Rattle.scj_rules.specs.declared.views.WrittenType.TheVariants.{Class as class_type}
use Rattle.scj_rules.specs.Words.{is_among, holds}
use Rattle.scj_rules.specs.Views.{WrittenClass}
use Rattle.scj_rules.specs.Classes.{ClassRow, FoundMethod, class_number, is_sub, is_user_class, superclasses, method_named}
use Rattle.scj_rules.specs.ClassRules.{is_same_type, class_written, narrower_kind, is_narrower, is_result_of, both_static}
use Rattle.scj_rules.specs.Contexts.{Declarations, declarations_of}
use Rattle.scj_rules.specs.StaticScopes.{class_scope, scope_or, this_in, runs_in, has_no_scope}
use Rattle.scj_rules.specs.AnnotationRules.{seen_in, differ, parameters_differ, result_scope, runs_in_differs, result_differs, scopes_differ}
use Rattle.scj_rules.specs.Types.{type_written, is_reference}
use Rattle.scj_rules.specs.TypeRules.{declared_type_of}
use Rattle.scj_rules.specs.Phases.{IsAccepted}
use Rattle.accepted_laws.specs.Judgements.{HasScope}
use Rattle.accepted_laws.specs.Kinds.{Kind, reference, kind_of, seen_as, seen_kind, seen_option}
use Rattle.accepted_laws.specs.Overriding.{IsUserMethod, OverridesInSteps, itself, by_step}
use Rattle.accepted_laws.specs.Sorts.{IsWellSorted}
use Rattle.accepted_laws.proofs.Bodies.{concrete_has_body}
use Rattle.accepted_laws.proofs.ClassScopes.{override_same, seen_in_as}
use Rattle.accepted_laws.proofs.DeclarationScopes.{this_has_scope}
use Rattle.accepted_laws.proofs.Dispatch.{dispatches}
use Rattle.accepted_laws.proofs.DispatchScopes.{runs_as}
use Rattle.accepted_laws.proofs.MemberScopes.{result_has_scope}
use Rattle.accepted_laws.proofs.ScopesOfClasses.{scope_of_above}
use Rattle.accepted_laws.proofs.Subtypes.{is_sub_on}
use Rattle.accepted_laws.proofs.Tools.{some_inj}
use Rattle.accepted_nodes.proofs.DeclaredScopes.{reference_has_scope}
use Rattle.accepted_nodes.proofs.FormParts.{held}
use Rattle.accepted_facts.specs.Methods.{kinds_taken, kind_given, TakesAs, IsNarrower, GivesAs, Dispatched}
use Rattle.accepted_facts.proofs.ClassBounds.{named_is_class}
use Rattle.accepted_facts.proofs.OverridingKinds.{or_false, same_type, map_twice, seen_option_twice, same_scoped, own_parameters, own_result, parameters_step}
use Rattle.accepted_facts.proofs.Parameters.{parameter_has_kind}

class_of_type : (names : List (List ℕ)) (w : WrittenType) (c : ℕ) → class_written names w ≡ Some c → (type_written names w ≡ Some (ClassTy c)) × (has_no_scope w ≡ false) × ((name : List ℕ) × (class_number names name ≡ Some c))
unfolding class_written type_written has_no_scope
class_of_type names (class_type name) c e = (ap (option_map (λ class. ClassTy class)) e, refl, (name, e))
class_of_type names _ c e = absurd (cc (e))

three : (a b c : Bool) → (a && b && c) ≡ true → (a ≡ true) × (b ≡ true) × (c ≡ true)
three true true c e = (refl, refl, e)
three true false c e = absurd (true≢false (sym e))
three false b c e = absurd (true≢false (sym e))

module _ (forest : Forest) (accepted : IsAccepted forest) (whole : IsForest forest) (sorted : IsWellSorted forest.nodes) where
  abbrev p : Declarations
  p = declarations_of forest

  -- ---- results, one step

  result_scoped : (f : FoundMethod) (u : Ty) → IsUserMethod p f → declared_type_of p f.method.declared ≡ Some u → is_reference u ≡ true → HasScope (result_scope p f.on f.method)
  result_scoped f u user e r = result_has_scope forest accepted whole sorted f.on f.method.declared.node f.method user.is_there user.stands_in_class (reference_has_scope p.names f.method.declared.declared_type u e r)

  -- of a class type, of which there is a class
  class_scoped : (f : FoundMethod) (c : ℕ) → IsUserMethod p f → class_written p.names f.method.declared.declared_type ≡ Some c → HasScope (result_scope p f.on f.method)
  class_scoped f c user e =
      result_has_scope forest accepted whole sorted f.on f.method.declared.node f.method user.is_there user.stands_in_class (class_of_type p.names f.method.declared.declared_type c e).1

  kind_of_class : (f : FoundMethod) (c : ℕ) (s : Scope) → class_written p.names f.method.declared.declared_type ≡ Some c → result_scope p f.on f.method ≡ Some s → kind_given p f ≡ Some (reference (ClassTy c) s)
  unfolding kind_given kind_of
  kind_of_class f c s e h = ap (λ t. kind_of t (result_scope p f.on f.method)) (class_of_type p.names f.method.declared.declared_type c e).0 ∙ ap (kind_of (Some (ClassTy c))) h

  narrower_step : (g h : FoundMethod) (home : Scope) (a b : ℕ) → this_in p g.on ≡ Some home → IsUserMethod p g → IsUserMethod p h → class_written p.names g.method.declared.declared_type ≡ Some a → class_written p.names h.method.declared.declared_type ≡ Some b → is_sub p.classes a b ≡ true
      → differ (result_scope p g.on g.method) (seen_in p g.on (result_scope p h.on h.method)) ≡ false → IsNarrower p (kind_given p g) (seen_option home Caller (kind_given p h))
  unfolding seen_option seen_kind
  narrower_step g h home a b is ug uh ca cb sub d =
      let s = class_scoped g a ug ca in
      let r = class_scoped h b uh cb in
      let same : s.0 ≡ seen_as home Caller r.0 = override_same s.0 (seen_as home Caller r.0) (result_scope p g.on g.method) (seen_in p g.on (result_scope p h.on h.method)) s.1 (ap (seen_in p g.on) r.1 ∙ seen_in_as p g.on home is r.0) d in
      let n = (class_of_type p.names g.method.declared.declared_type a ca).2 in
      inr (a, b, s.0, kind_of_class g a s.0 ca s.1, ap (seen_option home Caller) (kind_of_class h b r.0 cb r.1) ∙ ap (λ x. Some (reference (ClassTy b) x)) (sym same), named_is_class forest n.0 a n.1, sub)

  given_same : (g h : FoundMethod) (home : Scope) → this_in p g.on ≡ Some home → IsUserMethod p g → IsUserMethod p h → g.method.declared.declared_type ≡ h.method.declared.declared_type
      → differ (result_scope p g.on g.method) (seen_in p g.on (result_scope p h.on h.method)) ≡ false → kind_given p g ≡ seen_option home Caller (kind_given p h)
  unfolding kind_given
  given_same g h home is ug uh t d =
      let typed : declared_type_of p g.method.declared ≡ declared_type_of p h.method.declared = ap (type_written p.names) t in
      ap (λ o. kind_of o (result_scope p g.on g.method)) typed
      ∙ same_scoped p g.on home is (declared_type_of p h.method.declared) (result_scope p g.on g.method) (result_scope p h.on h.method) (λ u e r. (result_scoped g u ug (typed ∙ e) r, result_scoped h u uh e r)) d

  given_step : (g h : FoundMethod) (home : Scope) (name : List ℕ) → this_in p g.on ≡ Some home → IsUserMethod p g → IsUserMethod p h → is_result_of p g.on name g.method.declared.declared_type h.method.declared.declared_type ≡ true
      → differ (result_scope p g.on g.method) (seen_in p g.on (result_scope p h.on h.method)) ≡ false → IsNarrower p (kind_given p g) (seen_option home Caller (kind_given p h))
  unfolding is_result_of
  given_step g h home name is ug uh t d = go (is_same_type g.method.declared.declared_type h.method.declared.declared_type) refl t
    where
      narrower : holds (narrower_kind p g.on name) (λ kind. is_narrower p kind g.method.declared.declared_type h.method.declared.declared_type) ≡ true → IsNarrower p (kind_given p g) (seen_option home Caller (kind_given p h))
      narrower e =
          let k = held (narrower_kind p g.on name) (λ kind. is_narrower p kind g.method.declared.declared_type h.method.declared.declared_type) e in
          let a = held (class_written p.names g.method.declared.declared_type) (λ r. holds (class_written p.names h.method.declared.declared_type) (λ a. is_user_class r && is_sub p.classes r k.0 && is_sub p.classes r a)) k.2 in
          let b = held (class_written p.names h.method.declared.declared_type) (λ b. is_user_class a.0 && is_sub p.classes a.0 k.0 && is_sub p.classes a.0 b) a.2 in
          narrower_step g h home a.0 b.0 is ug uh a.1 b.1 (three (is_user_class a.0) (is_sub p.classes a.0 k.0) (is_sub p.classes a.0 b.0) b.2).2 d

      go : (b : Bool) → is_same_type g.method.declared.declared_type h.method.declared.declared_type ≡ b → (b || holds (narrower_kind p g.on name) (λ kind. is_narrower p kind g.method.declared.declared_type h.method.declared.declared_type)) ≡ true
          → IsNarrower p (kind_given p g) (seen_option home Caller (kind_given p h))
      go true b e = inl (given_same g h home is ug uh (same_type g.method.declared.declared_type h.method.declared.declared_type b) d)
      go false b e = narrower e

  -- ---- narrower kinds, one behind the other

  one_reference : (a b : ℕ) (s r : Scope) → Some (reference (ClassTy a) s) ≡ Some (reference (ClassTy b) r) → (a ≡ b) × (s ≡ r)
  one_reference a b s r e = (let f : reference (ClassTy a) s ≡ reference (ClassTy b) r = some_inj _ _ e in let t : ClassTy a ≡ ClassTy b = cc (f) in (cc (t), cc (f)))

  narrower_on : (home above : Scope) → (above ≡ This) ⊎ (above ≡ home) → (j k l : Option Kind) → IsNarrower p j (seen_option home Caller k) → IsNarrower p k (seen_option above Caller l) → IsNarrower p j (seen_option home Caller l)
  unfolding seen_option seen_kind
  narrower_on home above h j k l (inl e) (inl f) = inl (e ∙ ap (seen_option home Caller) f ∙ seen_option_twice home above h l)
  narrower_on home above h j k l (inr x) (inl f) = inr (x.0, x.1, x.2, x.3, sym (seen_option_twice home above h l) ∙ sym (ap (seen_option home Caller) f) ∙ x.4, x.5, x.6)
  narrower_on home above h j k l (inl e) (inr y) =
      inr (y.0, y.1, seen_as home Caller y.2, e ∙ ap (seen_option home Caller) y.3, sym (seen_option_twice home above h l) ∙ ap (seen_option home Caller) y.4, y.5, y.6)
  narrower_on home above h j k l (inr x) (inr y) =
      let same = one_reference y.0 x.1 (seen_as home Caller y.2) x.2 (sym (ap (seen_option home Caller) y.3) ∙ x.4) in
      inr (
        x.0,
        y.1,
        x.2,
        x.3,
        sym (seen_option_twice home above h l) ∙ ap (seen_option home Caller) y.4 ∙ ap (λ s. Some (reference (ClassTy y.1) s)) same.1,
        x.5,
        is_sub_on forest accepted x.0 y.0 y.1 x.5 (ap (is_sub p.classes x.0) same.0 ∙ x.6) y.6,
      )

  -- ---- along the chain

  -- THIS of a class above is THIS, or that of the class
  above_is : (class above : ℕ) (home : Scope) → class < length p.classes → is_among above (superclasses p.classes class) ≡ true → this_in p class ≡ Some home → (g : Scope) → this_in p above ≡ Some g → (g ≡ This) ⊎ (g ≡ home)
  unfolding this_in
  above_is class above home l h e g f = go (class_scope p above) refl f
    where
      go : (s : ClassScope) → class_scope p above ≡ s → scope_or s (Some This) ≡ Some g → (g ≡ This) ⊎ (g ≡ home)
      go unannotated k f = inl (sym (some_inj This g f))
      go (annotated n) k f = inr (
          let a : class_scope p class ≡ annotated n = scope_of_above forest accepted whole sorted class above n l h k in
          some_inj g home (sym f ∙ sym (ap (λ s. scope_or s (Some This)) a) ∙ e))
      go scopeless k f = absurd (let z : None ≡ Some g = f in cc (z))

  plain_too : (g h : FoundMethod) → both_static g.method h.method ≡ true → h.method.declared.modifiers.is_static ≡ false → g.method.declared.modifiers.is_static ≡ false
  plain_too g h b e = go g.method.declared.modifiers.is_static refl b
    where
      go : (t : Bool) → g.method.declared.modifiers.is_static ≡ t → (if t then h.method.declared.modifiers.is_static else not h.method.declared.modifiers.is_static) ≡ true → g.method.declared.modifiers.is_static ≡ false
      go true s b = absurd (true≢false (sym b ∙ e))
      go false s b = s

  -- A6 in parts
  record SameScopes (g h : FoundMethod) : Type 0 where
    parameters : parameters_differ p g.on g.method h.on h.method g.method.parameters h.method.parameters ≡ false
    result : differ (result_scope p g.on g.method) (seen_in p g.on (result_scope p h.on h.method)) ≡ false

  in_parts : (g h : FoundMethod) → scopes_differ p g.on g.method h.on h.method ≡ false → SameScopes g h
  unfolding scopes_differ
  in_parts g h e =
      let a = or_false (runs_in_differs p g.on g.method h.on h.method) (parameters_differ p g.on g.method h.on h.method g.method.parameters h.method.parameters || result_differs p g.on g.method h.on h.method) e in
      let b = or_false (parameters_differ p g.on g.method h.on h.method g.method.parameters h.method.parameters) (result_differs p g.on g.method h.on h.method) a.1 in
      record { parameters = b.0; result = b.1 }

  -- what a chain of overriding says of its lower end
  record Down (f g : FoundMethod) : Type 0 where
    plain : g.method.declared.modifiers.is_static ≡ false
    user : IsUserMethod p g
    takes : TakesAs p f g
    gives : GivesAs p f g

  down : (f g : FoundMethod) → IsUserMethod p f → f.method.declared.modifiers.is_static ≡ false → OverridesInSteps p f g → Down f g
  unfolding kinds_taken
  down f g u plain itself =
      let h = this_has_scope forest accepted whole sorted f.on in
      record {
        plain = plain;
        user = u;
        takes = record { home = h.0; is_home = h.1; are = own_parameters p f h.0 h.1 f.method.parameters };
        gives = record { home = h.0; is_home = h.1; is = inl (own_result p f h.0 h.1) };
      }
  down f g u plain (by_step {h = h} o own above steps) =
      let w = down f h u plain steps in
      let t = w.takes in
      let v = w.gives in
      let home = this_has_scope forest accepted whole sorted g.on in
      let plain_here = plain_too g h o.both_are_static w.plain in
      let same = in_parts g h (o.same_scopes plain_here w.user.on_user_class) in
      let step = parameters_step p g h home.0 home.1 g.method.parameters h.method.parameters o.same_parameters same.parameters
      (λ d i. parameter_has_kind forest accepted whole sorted g d own i) (λ d i. parameter_has_kind forest accepted whole sorted h d w.user i) in
      record {
        plain = plain_here;
        user = own;
        takes = record {
          home = home.0;
          is_home = home.1;
          are = step ∙ ap (map (seen_option home.0 Caller)) t.are ∙ map_twice home.0 t.home (above_is g.on h.on home.0 own.is_class above home.1 t.home t.is_home) (kinds_taken p f);
        };
        gives = record {
          home = home.0;
          is_home = home.1;
          is = narrower_on home.0 v.home (above_is g.on h.on home.0 own.is_class above home.1 v.home v.is_home) (kind_given p g) (kind_given p h) (kind_given p f)
              (given_step g h home.0 g.method.declared.name home.1 own w.user o.right_result same.result) v.is;
        };
      }

  pub takes_as : (f g : FoundMethod) → IsUserMethod p f → f.method.declared.modifiers.is_static ≡ false → OverridesInSteps p f g → TakesAs p f g
  takes_as f g u plain steps = (down f g u plain steps).takes

  pub gives_as : (f g : FoundMethod) → IsUserMethod p f → f.method.declared.modifiers.is_static ≡ false → OverridesInSteps p f g → GivesAs p f g
  gives_as f g u plain steps = (down f g u plain steps).gives

  -- what a call of a user's method runs on an object of a concrete class
  pub dispatched : (class above : ℕ) (row : ClassRow) (c : WrittenClass) (name : List ℕ) (f : FoundMethod) (r : Scope) → slice_get p.classes class ≡ Some row → row.written ≡ Some c → c.modifiers.is_abstract ≡ false → is_among above (superclasses p.classes class) ≡ true
      → method_named p.classes above name ≡ Some f → IsUserMethod p f → f.method.declared.modifiers.is_static ≡ false → runs_in p f.on f.method ≡ Some r → Dispatched p class name f r
  dispatched class above row c name f r stands is concrete h e u plain k =
      let d = dispatches forest accepted whole sorted class above name f (slice_get_within p.classes class row stands) h e u in
      record {
        method = d.method;
        is = d.is;
        is_user = d.is_user;
        has_body = concrete_has_body forest accepted whole sorted class row c name d.method stands is concrete d.is d.is_user;
        runs = runs_as forest accepted whole sorted f d.method r u plain k d.overrides;
        takes = takes_as f d.method u plain d.overrides;
        gives = gives_as f d.method u plain d.overrides;
      }
