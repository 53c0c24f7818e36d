-- What a concrete class has for a method that the framework declares abstract: a user's method with a body, of the
-- types that the framework's has (C7).
use Rattle.std.proofs.Common.{◌≡◌, ℕ, ◌<◌, List, [], ◌++◌, filter, find, flat_map, sym, ap, ◌∙◌, subst, refl, Option, Some, None, Bool, true, false, not, ◌||◌, ◌&&◌, ◌==◌, true≢false, option_and_then, option_map, slice_get, is_some}
use Rattle.std.specs.List.{list_any}
use Rattle.scj_base.specs.Bytes.{is_same}
use Rattle.scj_base.specs.declared.findings.Rule.TheVariants.{C7}
use Rattle.scj_builtins.specs.declared.kinds.Parameters.TheVariants.{Empty as no_parameters}
use Rattle.scj_builtins.specs.declared.methods.FrameworkMethod.{FrameworkMethod}
use Rattle.scj_builtins.specs.Framework.{framework_methods, parameter_list}
use Rattle.scj_tree.specs.Forest.{Forest, IsForest}
use Rattle.scj_rules.specs.Words.{is_among, broken, holds}
use Rattle.scj_rules.specs.Views.{DeclaredMethod}
use Rattle.scj_rules.specs.Classes.{ClassRow, FoundMethod, framework_method, framework_methods_on, result_written, superclasses, all_interfaces, own_method, method_named}
use Rattle.scj_rules.specs.ClassRules.{have_same_types, is_result_of, has_types_of, own_abstract_methods, abstract_methods, stays_open, is_left_open, leaves_open, has_wrong_body, c7}
use Rattle.scj_rules.specs.Contexts.{Declarations, declarations_of}
use Rattle.scj_rules.specs.Phases.{IsAccepted}
use Rattle.scj_rules.proofs.ChainLemmas.{is_same_number}
use Rattle.accepted_laws.specs.Overriding.{IsUserMethod}
use Rattle.accepted_laws.specs.Sorts.{IsWellSorted}
use Rattle.accepted_laws.proofs.Bodies.{concrete_has_body}
use Rattle.accepted_laws.proofs.Breaks.{both_empty, right}
use Rattle.accepted_laws.proofs.Dispatch.{own_declaration, on_superclass, user_method}
use Rattle.accepted_laws.proofs.Fields.{In as Element, in_filter, in_flat}
use Rattle.accepted_laws.proofs.Positions.{same_name}
use Rattle.accepted_laws.proofs.Rows.{at_class_unbroken}
use Rattle.accepted_laws.proofs.Subtypes.{among_in}
use Rattle.accepted_nodes.proofs.FoundMembers.{own_found}
use Rattle.accepted_facts.proofs.OverridingKinds.{or_false, and_true}
use Rattle.flow_facts.proofs.ConcreteClasses.{IsWritten}
use Rattle.flow_facts.proofs.FrameworkMethods.{of_framework as row_of_framework}
use Rattle.mission_facts.proofs.Lines.{of_framework}
use Rattle.mission_facts.proofs.Searches.{found_there, along_there, none_passes, all_pass, each_passes, in_map}
use Rattle.accepted_laws.proofs.MethodNodes.{not_false}
-- the framework declares the methods of a name abstract alone
use Rattle.mission_facts.proofs.Tests.{not_or, none_taken, parameters_written}

abbrev pub is_abstract_if_named : List ℕ → FrameworkMethod → Bool
is_abstract_if_named name m = not (is_same name m.name) || m.is_abstract

module _ (forest : Forest) (accepted : IsAccepted forest) (whole : IsForest forest) (sorted : IsWellSorted forest.nodes)
  where
    abbrev p : Declarations
    p = declarations_of forest

    -- the method of a class that implements one of the framework
    pub record IsImplemented (class : ℕ) (m : FrameworkMethod) : Type 0 where
      pub method : FoundMethod
      pub is : method_named p.classes class m.name ≡ Some method
      pub named : method.method.declared.name ≡ m.name
      pub is_user : IsUserMethod p method
      pub has_body : is_some method.method.body ≡ true
      pub for_object : method.method.declared.modifiers.is_static ≡ false
      pub above : is_among method.on (superclasses p.classes class) ≡ true
      pub takes_none : method.method.parameters ≡ []
      pub result :
          is_result_of p class method.method.declared.name method.method.declared.declared_type (result_written m.gives)
          ≡ true

    -- ---- the framework's declaration

    row_has : (m : FrameworkMethod) → Element m framework_methods → m.on < 16 →
        (row : ClassRow) × (slice_get p.classes m.on ≡ Some row) × Element (framework_method m) row.methods
    unfolding framework_methods_on
    row_has m among l =
        let f = of_framework forest accepted whole sorted m.on l in (
          f.0,
          f.1,
          subst (Element (framework_method m)) (sym f.2.methods)
              (in_map framework_method m (filter (λ (n : FrameworkMethod). n.on == m.on) framework_methods)
              (in_filter (λ (n : FrameworkMethod). n.on == m.on) m framework_methods among
              (is_same_number m.on m.on refl))),
        )

    -- a class of the framework has its method itself
    pub has_itself : (m : FrameworkMethod) → Element m framework_methods → m.on < 16 →
        (g : FoundMethod) × (own_method p.classes m.name m.on ≡ Some g)
    unfolding own_method framework_method
    has_itself m among l =
        let r = row_has m among l in
        let g = found_there (λ (n : DeclaredMethod). is_same m.name n.declared.name)
        (framework_method m) r.0.methods r.2
        (same_name m.name) in (
          _,
          ap (λ (o : Option ClassRow). option_map (λ (n : DeclaredMethod). record { on = m.on; method = n })
              (option_and_then (λ (row : ClassRow). find (λ (n : DeclaredMethod). is_same m.name n.declared.name)
              row.methods) o)) r.1
              ∙ ap (option_map (λ (n : DeclaredMethod). record { on = m.on; method = n })) g.1,
        )

    left_open : (m : FrameworkMethod) → Element m framework_methods → m.on < 16 → m.is_abstract ≡ true →
        Element (framework_method m) (own_abstract_methods p.classes m.on)
    unfolding framework_method
    left_open m among l abstract =
        let r = row_has m among l in
        subst (λ (o : Option ClassRow). Element (framework_method m) (elim o as (λ _. List DeclaredMethod)
        [ None ↦ [] | Some row ↦ filter (λ (m : DeclaredMethod). m.declared.modifiers.is_abstract) row.methods ]))
        (sym r.1)
        (in_filter (λ (m : DeclaredMethod). m.declared.modifiers.is_abstract) (framework_method m) r.0.methods r.2
        abstract)

    -- ---- the class's

    is_open : (class : ℕ) (m : DeclaredMethod) (g : FoundMethod) →
        method_named p.classes class m.declared.name ≡ Some g → is_left_open p class m ≡ false →
        stays_open p class m g.method ≡ false
    unfolding is_left_open
    is_open class m g e h =
        ap (λ (o : Option FoundMethod). holds o (λ (f : FoundMethod). stays_open p class m f.method)) (sym e) ∙ h

    -- what stands for a name in the table is abstract
    abstract_of_framework : (class : ℕ) (name : List ℕ) (g : FoundMethod) →
        all_pass (is_abstract_if_named name) framework_methods ≡ true → method_named p.classes class name ≡ Some g →
        is_some g.method.builtin ≡ true → g.method.declared.modifiers.is_abstract ≡ true
    unfolding framework_method
    abstract_of_framework class name g all e b =
        let y = own_found forest accepted whole sorted class name g e in
        let r = row_of_framework forest accepted whole sorted y.0 name g y.1 b in
        let d = own_declaration forest accepted y.0 name g y.1 in
        let same : name ≡ r.row.name =
        d.same_name ∙ ap (λ (m : DeclaredMethod). m.declared.name) (sym r.is) in
        let passes = each_passes (is_abstract_if_named name) framework_methods all r.row r.among in
        ap (λ (m : DeclaredMethod). m.declared.modifiers.is_abstract) (sym r.is)
        ∙ not_or (is_same name r.row.name) r.row.is_abstract
        (ap (is_same name) (sym same) ∙ same_name name) passes

    pub implemented : (class : ℕ) → IsWritten p class → (m : FrameworkMethod) → Element m framework_methods →
        m.on < 16 →
        m.is_abstract ≡ true → m.parameters ≡ no_parameters →
        all_pass (is_abstract_if_named m.name) framework_methods ≡ true →
        Element m.on (superclasses p.classes class ++ all_interfaces p.classes class) → IsImplemented class m
    unfolding method_named c7 abstract_methods has_types_of framework_method parameter_list
    implemented class w m among l abstract none all under =
        let own = has_itself m among l in
        let found =
        along_there (own_method p.classes m.name) m.on own.0
        (superclasses p.classes class ++ all_interfaces p.classes class) under own.1 in
        of_found found.0 found.1
      where
        left : list_any (is_left_open p class) (abstract_methods p.classes class) ≡ false
        left =
            let n = at_class_unbroken forest accepted class w.row w.declared w.stands w.is in
            ap (λ t. not t && list_any (is_left_open p class) (abstract_methods p.classes class)) (sym w.plain)
            ∙ right (leaves_open p class w.declared) C7 w.declared.position
            (both_empty (broken (leaves_open p class w.declared) C7 w.declared.position)
            (flat_map (λ (m : DeclaredMethod). broken (has_wrong_body m) C7 m.declared.position) w.row.methods)
            n.left_open).0

        closed : is_left_open p class (framework_method m) ≡ false
        closed =
            none_passes (is_left_open p class) (abstract_methods p.classes class) left (framework_method m)
            (in_flat (own_abstract_methods p.classes) (framework_method m) m.on
            (superclasses p.classes class ++ all_interfaces p.classes class) under (left_open m among l abstract))

        of_found : (g : FoundMethod) → method_named p.classes class m.name ≡ Some g → IsImplemented class m
        of_found g e =
            let open_there : stays_open p class (framework_method m) g.method ≡ false =
            is_open class (framework_method m) g e closed in
            let a =
            or_false g.method.declared.modifiers.is_abstract
            (g.method.declared.modifiers.is_static || not (has_types_of p class g.method (framework_method m)))
            open_there in
            let s =
            or_false g.method.declared.modifiers.is_static
            (not (has_types_of p class g.method (framework_method m))) a.1 in
            let types =
            and_true (have_same_types g.method.parameters (framework_method m).parameters)
            (is_result_of p class g.method.declared.name g.method.declared.declared_type (result_written m.gives))
            (not_false (has_types_of p class g.method (framework_method m)) s.1) in
            let user : is_some g.method.builtin ≡ false = by_builtin (is_some g.method.builtin) refl a.0 in
            let y = own_found forest accepted whole sorted class m.name g e in
            let is_user = user_method forest accepted whole sorted y.0 m.name g y.1 user in
            let z = on_superclass forest accepted whole sorted class m.name g e user in
            let d = own_declaration forest accepted z.0 m.name g z.2 in
            record {
              method = g;
              is = e;
              named = sym d.same_name;
              is_user = is_user;
              has_body =
                  concrete_has_body forest accepted whole sorted class w.row w.declared m.name g w.stands w.is w.plain e
                  is_user;
              for_object = s.0;
              above = ap (λ y. is_among y (superclasses p.classes class)) d.on
                  ∙ among_in z.0 (superclasses p.classes class) z.1;
              takes_none = none_taken g.method.parameters
                  (ap (λ ps. have_same_types g.method.parameters (parameters_written (parameter_list ps))) (sym none)
                  ∙ types.0);
              result = types.1;
            }
          where
            by_builtin : (t : Bool) → is_some g.method.builtin ≡ t → g.method.declared.modifiers.is_abstract ≡ false →
                is_some g.method.builtin ≡ false
            by_builtin false b n = b
            by_builtin true b n = absurd (true≢false (sym (abstract_of_framework class m.name g all e b) ∙ n))
