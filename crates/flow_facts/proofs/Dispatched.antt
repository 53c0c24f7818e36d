-- What a call of a user's method runs on an object of a class of which objects are made.
use Rattle.std.proofs.Common.{◌≡◌, ℕ, ◌+◌, ◌-◌, nat_lt, List, [], ◌∷◌, length, map, position, refl, sym, ap, ◌∙◌, subst, arith, Option, Some, None, Bool, true, false, ◌||◌, ◌==◌, true≢false, inl, inr, option_and_then, option_map, is_some, slice_get, if◌then◌else◌}
use Rattle.std.proofs.lemmas.Bool.{le-ltb}
use Rattle.std.proofs.lemmas.Option.{slice_get_within}
use Rattle.scj_builtins.specs.declared.methods.FrameworkMethod.{FrameworkMethod}
use Rattle.scj_builtins.specs.Framework.{framework_methods, object, mission_clean_up}
use Rattle.scj_tree.specs.declared.nodes.Node.{Node}
use Rattle.scj_tree.specs.declared.nodes.Node.TheVariants.{Method as MethodNode}
use Rattle.scj_tree.specs.Forest.{Forest, IsForest}
use Rattle.scj_rules.specs.declared.scopes.Written.{Written as WrittenName}
use Rattle.scj_rules.specs.declared.typing.Scope.{Scope}
use Rattle.scj_rules.specs.declared.typing.Scope.TheVariants.{Any, This, Caller, In, Unknown, Lost}
use Rattle.scj_rules.specs.declared.typing.Ty.{Ty}
use Rattle.scj_rules.specs.declared.typing.Ty.TheVariants.{Int, Bool as Boolean, Void, NullTy, Label, Class as ClassTy, IntArray, BoolArray, ClassArray}
use Rattle.scj_rules.specs.declared.views.Body.{Body}
use Rattle.scj_rules.specs.declared.views.Body.TheVariants.{Written, Empty}
use Rattle.scj_rules.specs.declared.views.WrittenType.{WrittenType}
use Rattle.scj_rules.specs.declared.views.WrittenType.TheVariants.{Long as long_type}
use Rattle.scj_rules.specs.Definitions.{read}
use Rattle.scj_rules.specs.Words.{is_among, holds}
use Rattle.scj_rules.specs.Views.{DeclaredMethod, method_of, callable_name}
use Rattle.scj_rules.specs.Bodies.{method_node, method_name, invoked_method, body_of_method, body_of}
use Rattle.scj_rules.specs.CheckedProgram.{IsReadFromTexts}
use Rattle.scj_rules.specs.Classes.{FoundMethod, superclasses, all_interfaces, is_sub, method_named, method_nodes, method_number}
use Rattle.scj_rules.specs.ClassRules.{is_same_type, class_written, narrower_kind, is_narrower, is_result_of}
use Rattle.scj_rules.specs.Contexts.{Declarations, declarations_of}
use Rattle.scj_rules.specs.StaticScopes.{runs_in}
use Rattle.scj_rules.specs.AnnotationRules.{result_scope}
use Rattle.scj_rules.specs.Types.{assigns, are_same, is_reference}
use Rattle.scj_rules.specs.TypeRules.{declared_type_of}
use Rattle.scj_rules.specs.Phases.{IsAccepted}
use Rattle.scj_rules.proofs.ChainLemmas.{or_left, is_same_number}
use Rattle.accepted_laws.specs.Kinds.{Kind, number, truth, reference, kind_of, seen_as, seen_kind, seen_kinds, seen_option, GoesTo, NamesArea}
use Rattle.accepted_laws.specs.Overriding.{IsUserMethod, OverridesInSteps, itself, by_step}
use Rattle.accepted_laws.specs.Sorts.{IsWellSorted}
use Rattle.accepted_laws.proofs.Bodies.{concrete_has_body}
use Rattle.accepted_laws.proofs.DeclarationScopes.{this_has_scope}
use Rattle.accepted_laws.proofs.Dispatch.{dispatches, on_superclass, own_declaration}
use Rattle.accepted_laws.proofs.DispatchScopes.{runs_as}
use Rattle.accepted_laws.proofs.MethodNodes.{method_node as method_at_node}
use Rattle.accepted_laws.proofs.RealScopes.{named_beside, result_named, this_named}
use Rattle.accepted_laws.proofs.Subtypes.{among_in, assigns_itself}
use Rattle.accepted_laws.proofs.Tools.{some_inj}
use Rattle.accepted_nodes.proofs.FormParts.{held}
use Rattle.accepted_nodes.proofs.Slots.{position_stands}
use Rattle.accepted_facts.specs.Methods.{Takes, IsNarrower, kinds_taken, kind_given as kind_given_by}
use Rattle.accepted_facts.proofs.MethodKinds.{takes_as, gives_as}
use Rattle.accepted_facts.proofs.OverridingKinds.{same_type}
use Rattle.scope_flow.specs.Signatures.{Gives, IsConcrete, IsDispatched}
use Rattle.flow_facts.proofs.RealKinds.{known_result}
use Rattle.flow_facts.proofs.Bodies.{signature, method_body}
use Rattle.flow_facts.proofs.ConcreteClasses.{IsWritten, concrete_is}
use Rattle.flow_facts.proofs.FrameworkRows.{object_of_framework, above_framework, no_user_method, method_reached}

-- ---- kinds that are seen

map_seen : (home : Scope) (ks : List Kind) → map (seen_option home Caller) (map (λ (k : Kind). Some k) ks) ≡ map
    (λ (k : Kind). Some k) (seen_kinds home Caller ks)
unfolding seen_option seen_kinds
map_seen home [] = refl
map_seen home (k ∷ ks) = ap (λ os. Some (seen_kind home Caller k) ∷ os) (map_seen home ks)

-- ---- results of type long

result_long : (p : Declarations) (class : ℕ) (name : List ℕ) (a b : WrittenType) →
    is_result_of p class name a b ≡ true → a ≡ long_type → b ≡ long_type
unfolding is_result_of class_written
result_long p class name a b e l = go (is_same_type a b) refl e
  where
    none : holds (class_written p.names a) (λ r. holds (class_written p.names b) (λ x. true)) ≡ true → ⊥
    none e =
        true≢false
        (sym e ∙ ap (λ w. holds (class_written p.names w) (λ r. holds (class_written p.names b) (λ x. true))) l)

    narrow : holds (narrower_kind p class name) (λ kind. is_narrower p kind a b) ≡ true → ⊥
    narrow e =
        let k = held (narrower_kind p class name) (λ kind. is_narrower p kind a b) e in
        let r = held (class_written p.names a) _ k.2 in
        let z : None ≡ Some r.0 = ap (class_written p.names) (sym l) ∙ r.1 in cc (z)

    go : (t : Bool) → is_same_type a b ≡ t → (t || holds (narrower_kind p class name) (λ kind. is_narrower p kind a b))
        ≡ true → b ≡ long_type
    go true s e = sym (same_type a b s) ∙ l
    go false s e = absurd (narrow e)

steps_long : (p : Declarations) (f g : FoundMethod) → OverridesInSteps p f g →
    g.method.declared.declared_type ≡ long_type → f.method.declared.declared_type ≡ long_type
steps_long p f g itself l = l
steps_long p f g (by_step {h = h} o own above steps) l =
    steps_long p f h steps
    (result_long p g.on g.method.declared.name g.method.declared.declared_type h.method.declared.declared_type
    o.right_result l)

-- ---- numbers of methods

numbered_node : (p : Declarations) (node n : ℕ) → method_number p.nodes p.users node ≡ Some n →
    method_node p n ≡ Some node
unfolding method_number method_node
numbered_node p node n e = go (position (λ other. node == other) (method_nodes p.nodes p.users)) refl e
  where
    count : ℕ
    count = length framework_methods

    go : (o : Option ℕ) → position (λ other. node == other) (method_nodes p.nodes p.users) ≡ o →
        option_map (λ k. count + k) o ≡ Some n →
        (if nat_lt n count then None else slice_get (method_nodes p.nodes p.users) (n - count)) ≡ Some node
    go None q e = absurd (cc (e))
    go (Some k) q e =
        let s : count + k ≡ n = some_inj (count + k) n e in
        let d : n - count ≡ k = omega (arith, s) in
        ap (λ t. if t then None else slice_get (method_nodes p.nodes p.users) (n - count))
        (le-ltb n count (omega (arith, s)))
        ∙ ap (slice_get (method_nodes p.nodes p.users)) d ∙ position_stands node (method_nodes p.nodes p.users) k q

callable : (nodes : List Node) (id : ℕ) (node : Node) (m : DeclaredMethod) → method_of nodes id node ≡ Some m →
    option_map (λ (w : WrittenName). w.name) (callable_name node) ≡ Some m.declared.name
unfolding method_of callable_name
callable nodes id (MethodNode position name flags result_type parameters body) m e =
    ap (λ (m : DeclaredMethod). Some m.declared.name) (some_inj _ m e)
callable nodes id _ m e = absurd (cc (e))

module _ (forest : Forest) (accepted : IsAccepted forest) (whole : IsForest forest) (sorted : IsWellSorted forest.nodes)
    (is_read : IsReadFromTexts forest) where
  abbrev p : Declarations
  p = declarations_of forest

  -- ---- what an override gives

  -- what lies in a scope that names an area goes, as it is seen from another such one, to where it lies
  goes_as_seen : (home r : Scope) → NamesArea home → NamesArea r → GoesTo home Caller (seen_as home Caller r) r
  unfolding seen_as
  goes_as_seen home This h k = inr (inr (inl (subst NamesArea (sym (named_beside home h)) h, refl)))
  goes_as_seen home Caller h k = inr (inr (inl (tt, refl)))
  goes_as_seen home (In n) h k = inr (inr (inl (tt, refl)))
  goes_as_seen home Any h k = absurd k
  goes_as_seen home Unknown h k = absurd k
  goes_as_seen home Lost h k = absurd k

  seen_null : (home : Scope) → GoesTo home Caller (seen_as home Caller Any) Any
  unfolding seen_as
  seen_null home = inl refl

  abbrev Named : Option Scope → Type 0
  Named o = (r : Scope) → o ≡ Some r → NamesArea r

  own_fits : (home : Scope) (t : Option Ty) (s : Option Scope) → NamesArea home → Named s →
      Gives p home (seen_option home Caller (kind_of t s)) (kind_of t s)
  unfolding kind_of seen_option seen_kind assigns are_same is_reference
  own_fits home (Some Int) s h n = (tt, tt)
  own_fits home (Some Boolean) s h n = (tt, tt)
  own_fits home (Some NullTy) s h n = ((refl, seen_null home), tt)
  own_fits home (Some (ClassTy c)) (Some r) h n =
      ((assigns_itself forest accepted c, goes_as_seen home r h (n r refl)), known_result (ClassTy c) r (n r refl))
  own_fits home (Some IntArray) (Some r) h n =
      ((refl, goes_as_seen home r h (n r refl)), known_result IntArray r (n r refl))
  own_fits home (Some BoolArray) (Some r) h n =
      ((refl, goes_as_seen home r h (n r refl)), known_result BoolArray r (n r refl))
  own_fits home (Some (ClassArray c)) (Some r) h n =
      ((is_same_number c c refl, goes_as_seen home r h (n r refl)), known_result (ClassArray c) r (n r refl))
  own_fits home (Some (ClassTy c)) None h n = tt
  own_fits home (Some IntArray) None h n = tt
  own_fits home (Some BoolArray) None h n = tt
  own_fits home (Some (ClassArray c)) None h n = tt
  own_fits home (Some Void) s h n = tt
  own_fits home (Some Label) s h n = tt
  own_fits home None s h n = tt

  narrower_fits : (home : Scope) (a b : ℕ) (s : Scope) (t : Option Ty) (r : Option Scope) →
      seen_option home Caller (kind_of t r) ≡ Some (reference (ClassTy b) s) → is_sub p.classes a b ≡ true →
      NamesArea home → Named r → Gives p home (Some (reference (ClassTy a) s)) (kind_of t r)
  unfolding kind_of seen_option seen_kind assigns
  narrower_fits home a b s (Some (ClassTy c)) (Some r) e sub h n =
      let f : reference (ClassTy c) (seen_as home Caller r) ≡ reference (ClassTy b) s = some_inj _ _ e in
      let t : ClassTy c ≡ ClassTy b = cc (f) in
      let same : c ≡ b = cc (t) in
      let there : seen_as home Caller r ≡ s = cc (f) in (
        (ap (is_sub p.classes a) same ∙ sub, subst (λ s. GoesTo home Caller s r) there (goes_as_seen home r h (n r refl))),
        known_result (ClassTy c) r (n r refl),
      )
  narrower_fits home a b s (Some Int) r e sub h n =
      absurd (let f : number ≡ reference (ClassTy b) s = some_inj _ _ e in cc (f))
  narrower_fits home a b s (Some Boolean) r e sub h n =
      absurd (let f : truth ≡ reference (ClassTy b) s = some_inj _ _ e in cc (f))
  narrower_fits home a b s (Some NullTy) r e sub h n =
      absurd (let f : reference NullTy (seen_as home Caller Any) ≡ reference (ClassTy b) s = some_inj _ _ e in
      let t : NullTy ≡ ClassTy b = cc (f) in cc (t))
  narrower_fits home a b s (Some IntArray) (Some r) e sub h n =
      absurd (let f : reference IntArray (seen_as home Caller r) ≡ reference (ClassTy b) s = some_inj _ _ e in
      let t : IntArray ≡ ClassTy b = cc (f) in cc (t))
  narrower_fits home a b s (Some BoolArray) (Some r) e sub h n =
      absurd (let f : reference BoolArray (seen_as home Caller r) ≡ reference (ClassTy b) s = some_inj _ _ e in
      let t : BoolArray ≡ ClassTy b = cc (f) in cc (t))
  narrower_fits home a b s (Some (ClassArray c)) (Some r) e sub h n =
      absurd (let f : reference (ClassArray c) (seen_as home Caller r) ≡ reference (ClassTy b) s = some_inj _ _ e in
      let t : ClassArray c ≡ ClassTy b = cc (f) in cc (t))
  narrower_fits home a b s (Some (ClassTy c)) None e sub h n = absurd (cc (e))
  narrower_fits home a b s (Some IntArray) None e sub h n = absurd (cc (e))
  narrower_fits home a b s (Some BoolArray) None e sub h n = absurd (cc (e))
  narrower_fits home a b s (Some (ClassArray c)) None e sub h n = absurd (cc (e))
  narrower_fits home a b s (Some Void) r e sub h n = absurd (cc (e))
  narrower_fits home a b s (Some Label) r e sub h n = absurd (cc (e))
  narrower_fits home a b s None r e sub h n = absurd (cc (e))

  result_fits : (home : Scope) (j : Option Kind) (f : FoundMethod) → NamesArea home →
      IsNarrower p j (seen_option home Caller (kind_given_by p f)) → Gives p home j (kind_given_by p f)
  unfolding kind_given_by
  result_fits home j f h (inl e) =
      subst (λ j. Gives p home j (kind_of (declared_type_of p f.method.declared) (result_scope p f.on f.method)))
      (sym e)
      (own_fits home (declared_type_of p f.method.declared) (result_scope p f.on f.method) h
      (λ r k. result_named p r f.on f.method k))
  result_fits home j f h (inr x) =
      subst (λ j. Gives p home j (kind_of (declared_type_of p f.method.declared) (result_scope p f.on f.method)))
      (sym x.3)
      (narrower_fits home x.0 x.1 x.2 (declared_type_of p f.method.declared) (result_scope p f.on f.method) x.4 x.6 h
      (λ r k. result_named p r f.on f.method k))

  -- ---- the body that is found

  pub named_method : (f : FoundMethod) (n : ℕ) → IsUserMethod p f →
      method_number p.nodes p.users f.method.declared.node ≡ Some n → method_name p n ≡ Some f.method.declared.name
  unfolding method_name
  named_method f n user e =
      let m = method_at_node p.nodes f.method.declared.node f.method user.is_there in
      ap (λ (o : Option ℕ). elim o as (λ _. Option (List ℕ)) [
        | Some node ↦ option_map (λ (w : WrittenName). w.name) (read p.nodes callable_name node)
        | None ↦ option_map (λ (m : FrameworkMethod). m.name) (slice_get framework_methods n)
      ])
      (numbered_node p f.method.declared.node n e)
      ∙ ap (λ (o : Option Node). option_map (λ (w : WrittenName). w.name) (option_and_then callable_name o)) m.is_there
      ∙ callable p.nodes f.method.declared.node m.node f.method m.is

  pub body_is_of : (g : FoundMethod) → IsUserMethod p g → body_of_method g ≡ Some (Written g.method.declared.node)
  unfolding body_of_method
  body_is_of g user =
      ap
      (λ (o : Option ℕ). elim o as (λ _. Option Body) [
        | None ↦ Some (Written g.method.declared.node)
        | Some method ↦ if method == mission_clean_up then Some Empty else None
      ]) user.not_builtin

  pub body_found : (on n : ℕ) (f g : FoundMethod) → IsUserMethod p f → IsUserMethod p g →
      method_number p.nodes p.users f.method.declared.node ≡ Some n →
      method_named p.classes on f.method.declared.name ≡ Some g → body_of p on n ≡ Some (Written g.method.declared.node)
  unfolding body_of invoked_method
  body_found on n f g uf ug e m =
      ap (λ (o : Option (List ℕ)). option_and_then body_of_method (option_and_then (method_named p.classes on) o))
      (named_method f n uf e)
      ∙ ap (option_and_then body_of_method) m ∙ body_is_of g ug

  -- a method that a class has is declared by the class or by one above it
  pub declared_above : (on : ℕ) (name : List ℕ) (g : FoundMethod) → IsUserMethod p g →
      method_named p.classes on name ≡ Some g → is_sub p.classes on g.on ≡ true
  unfolding is_sub
  declared_above on name g user m =
      let q = on_superclass forest accepted whole sorted on name g m (ap is_some user.not_builtin) in
      let d = own_declaration forest accepted q.0 name g q.2 in
      or_left (is_among g.on (superclasses p.classes on)) (is_among g.on (all_interfaces p.classes on))
      (ap (λ y. is_among y (superclasses p.classes on)) d.on ∙ among_in q.0 (superclasses p.classes on) q.1)

  pub is_dispatched : (on class n : ℕ) (f : FoundMethod) (taken : List Kind) (r : Scope) → IsWritten p on →
      is_among class (superclasses p.classes on) ≡ true → method_named p.classes class f.method.declared.name ≡ Some f →
      IsUserMethod p f → f.method.declared.modifiers.is_static ≡ false
      → runs_in p f.on f.method ≡ Some r → Takes p f taken →
      method_number p.nodes p.users f.method.declared.node ≡ Some n →
      (f.method.declared.declared_type ≡ long_type → ⊥) →
      IsDispatched p on n (signature taken (kind_given_by p f) r)
  is_dispatched on class n f taken r w above m user plain runs takes numbered short =
      let name : List ℕ = f.method.declared.name in
      let d = dispatches forest accepted whole sorted on class name f (slice_get_within p.classes on w.row w.stands)
      above m user in
      let g : FoundMethod = d.method in
      let has = concrete_has_body forest accepted whole sorted on w.row w.declared name g w.stands w.is w.plain d.is
      d.is_user in
      let s = runs_as forest accepted whole sorted f g r user plain runs d.overrides in
      let t = takes_as forest accepted whole sorted f g user plain d.overrides in
      let v = gives_as forest accepted whole sorted f g user plain d.overrides in
      let home = this_has_scope forest accepted whole sorted g.on in
      let taken_there : Takes p g (seen_kinds home.0 Caller taken) =
      record {
        are = t.are ∙ ap (λ h. map (seen_option h Caller) (kinds_taken p f))
            (some_inj t.home home.0 (sym t.is_home ∙ home.1)) ∙ ap (map (seen_option home.0 Caller)) takes.are
            ∙ map_seen home.0 taken;
      } in
      let runs_there : runs_in p g.on g.method ≡ Some (seen_as home.0 Caller r) =
      s.is ∙ ap (λ h. Some (seen_as h Caller r)) (some_inj s.home home.0 (sym s.is_home ∙ home.1)) in
      let body = method_body forest accepted whole sorted is_read g (seen_kinds home.0 Caller taken)
      (seen_as home.0 Caller r) d.is_user has taken_there (λ l. short (steps_long p f g d.overrides l)) runs_there
      in
      let same : home.0 ≡ body.home = some_inj home.0 body.home (sym home.1 ∙ body.is_home) in
      record {
        body = g.method.declared.node;
        is = body_found on n f g user d.is_user numbered d.is;
        own =
            record {
              on = g.on;
              above = declared_above on name g d.is_user d.is;
              sig = signature
                  (seen_kinds home.0 Caller taken) (kind_given_by p g) (seen_as home.0 Caller r);
              is_body = body;
            };
        takes = ap (λ h. seen_kinds h Caller taken) same;
        gives =
            subst (λ h. Gives p h (kind_given_by p g) (kind_given_by p f))
            (some_inj v.home body.home (sym v.is_home ∙ body.is_home)) (result_fits v.home (kind_given_by p g) f (this_named p v.home g.on v.is_home) v.is);
        runs = ap (λ h. seen_as h Caller r) same;
      }

  -- in each class under that of the receiver
  pub each_dispatched : (class n : ℕ) (f : FoundMethod) (taken : List Kind) (r : Scope) →
      method_named p.classes class f.method.declared.name ≡ Some f → IsUserMethod p f →
      f.method.declared.modifiers.is_static ≡ false → runs_in p f.on f.method ≡ Some r → Takes p f taken
      → method_number p.nodes p.users f.method.declared.node ≡ Some n →
      (f.method.declared.declared_type ≡ long_type → ⊥) → (on : ℕ) → is_sub p.classes on class ≡ true →
      IsConcrete p on → IsDispatched p on n (signature taken (kind_given_by p f) r)
  each_dispatched class n f taken r m user plain runs takes numbered short on sub concrete =
      let builtin : is_some f.method.builtin ≡ false = ap is_some user.not_builtin in
      let above = method_reached forest accepted whole sorted on class f.method.declared.name f sub m builtin in
      elim (concrete_is forest accepted whole sorted on concrete) as
      (λ z. IsDispatched p on n (signature taken (kind_given_by p f) r)) [
        | inl w ↦ is_dispatched on class n f taken r w above m user plain runs takes numbered short
        | inr o ↦ absurd
            (no_user_method forest accepted whole sorted class f.method.declared.name f
            (above_framework forest accepted whole sorted object class
            (object_of_framework forest accepted whole sorted)
            (ap (λ y. is_among class (superclasses p.classes y)) (sym o) ∙ above)) m builtin)
      ]
