-- A class of which objects are made has a `run` of its user where it is a Runnable: without parameters and result (C6,
-- C7).
use Rattle.std.proofs.Common.{◌≡◌, ℕ, List, [], ◌∷◌, ◌++◌, map, filter, flat_map, find, refl, sym, ap, ◌∙◌, subst, Option, Some, None, Bool, true, false, not, ◌||◌, ◌&&◌, true≢false, inl, inr, option_and_then, option_map, is_some, slice_get, codes}
use Rattle.std.specs.List.{list_any}
use Rattle.scj_base.specs.Bytes.{is_same}
use Rattle.scj_base.specs.declared.findings.Rule.TheVariants.{C7}
use Rattle.scj_builtins.specs.declared.kinds.ClassKind.TheVariants.{Interface as interface_type}
use Rattle.scj_builtins.specs.declared.kinds.GivesKind.TheVariants.{Nothing}
use Rattle.scj_builtins.specs.declared.kinds.RunsInKind.TheVariants.{DefinedOrDeclared as in_defined_or_declared}
use Rattle.scj_builtins.specs.Framework.{runnable, runnable_name, runnable_run, class_row, declared_below, framework_classes, framework_methods, parameter_list}
use Rattle.scj_tree.specs.Forest.{Forest, IsForest}
use Rattle.scj_rules.specs.declared.views.Body.TheVariants.{Written}
use Rattle.scj_rules.specs.declared.typing.Scope.{Scope}
use Rattle.scj_rules.specs.declared.views.Declared.{Declared}
use Rattle.scj_rules.specs.declared.views.WrittenType.{WrittenType}
use Rattle.scj_rules.specs.declared.views.WrittenType.TheVariants.{Void as void_type, Long as long_type}
use Rattle.scj_rules.specs.Words.{is_among, holds, broken}
use Rattle.scj_rules.specs.Views.{DeclaredMethod}
use Rattle.scj_rules.specs.Bodies.{body_of_method, body_named}
use Rattle.scj_rules.specs.CheckedProgram.{IsReadFromTexts}
use Rattle.scj_rules.specs.Classes.{ClassRow, FoundMethod, result_written, framework_method, framework_methods_on, framework_row, framework_rows_from, written_rows, superclasses, all_interfaces, is_sub, own_method, method_named}
use Rattle.scj_rules.specs.ClassRules.{c7, is_same_type, have_same_types, class_written, narrower_kind, is_narrower, is_result_of, has_types_of, own_abstract_methods, abstract_methods, misfits_framework, stays_open, is_left_open, leaves_open, has_wrong_body}
use Rattle.scj_rules.specs.Contexts.{Declarations, declarations_of}
use Rattle.scj_rules.specs.StaticScopes.{runs_in}
use Rattle.scj_rules.specs.AnnotationRules.{result_scope}
use Rattle.scj_rules.specs.Types.{type_written}
use Rattle.scj_rules.specs.Phases.{IsAccepted}
use Rattle.scj_rules.proofs.ChainLemmas.{or_cases}
use Rattle.accepted_laws.specs.Kinds.{kind_of}
use Rattle.accepted_laws.specs.Overriding.{IsUserMethod}
use Rattle.accepted_laws.specs.Sorts.{IsWellSorted}
use Rattle.accepted_laws.proofs.Bodies.{concrete_has_body}
use Rattle.accepted_laws.proofs.Breaks.{both_empty, right}
use Rattle.accepted_laws.proofs.Dispatch.{own_declaration, user_method}
use Rattle.accepted_laws.proofs.Fields.{In as Element, here, there, in_left, in_flat, in_filter, in_among}
use Rattle.accepted_laws.proofs.MethodNodes.{and_true, not_false}
use Rattle.accepted_laws.proofs.Positions.{same_name}
use Rattle.accepted_laws.proofs.Rows.{at_class_unbroken, counted_is_written}
use Rattle.accepted_nodes.proofs.FormParts.{held}
use Rattle.accepted_nodes.proofs.FoundMembers.{own_found}
use Rattle.accepted_facts.specs.Methods.{Takes, kind_of_parameter, kinds_taken, kind_given as kind_given_by}
use Rattle.accepted_facts.proofs.OverridingKinds.{same_type}
use Rattle.accepted_facts.proofs.StatementFacts.{or_false}
use Rattle.scope_flow.specs.Signatures.{HasRun}
use Rattle.flow_facts.proofs.Bodies.{signature, method_body}
use Rattle.flow_facts.proofs.ChainInduction.{along_some}
use Rattle.flow_facts.proofs.ConcreteClasses.{IsWritten}
use Rattle.flow_facts.proofs.Dispatched.{body_is_of, declared_above}
use Rattle.flow_facts.proofs.FrameworkMethods.{of_framework, run_is}

-- ---- lists

in_right : {A : Type 0} (x : A) (xs ys : List A) → Element x ys → Element x (xs ++ ys)
in_right x [] ys h = h
in_right x (y ∷ xs) ys h = there (in_right x xs ys h)

none_passes : {A : Type 0} (test : A → Bool) (xs : List A) (x : A) → list_any test xs ≡ false → Element x xs →
    test x ≡ false
none_passes test [] x e h = elim h [ ]
none_passes test (y ∷ xs) x e here = (or_false (test x) (list_any test xs) e).0
none_passes test (y ∷ xs) x e (there h) = none_passes test xs x (or_false (test y) (list_any test xs) e).1 h

-- ---- the framework's `run`

abbrev pub run_name : List ℕ
run_name = codes "run"

abbrev run_method : DeclaredMethod
run_method = framework_method (declared_below runnable_run runnable run_name Nothing in_defined_or_declared)

abbrev runnable_row : ClassRow
runnable_row = framework_row runnable (class_row runnable runnable_name interface_type)

-- ---- what overrides it

no_parameters : (ds : List Declared) → have_same_types ds [] ≡ true → ds ≡ []
no_parameters [] e = refl
no_parameters (d ∷ ds) e = absurd (true≢false (sym e))

no_result : (p : Declarations) (class : ℕ) (name : List ℕ) (t : WrittenType) →
    is_result_of p class name t void_type ≡ true → t ≡ void_type
unfolding is_result_of class_written
no_result p class name t e = go (is_same_type t void_type) refl e
  where
    narrow : holds (narrower_kind p class name) (λ kind. is_narrower p kind t void_type) ≡ true → ⊥
    narrow e =
        let k = held (narrower_kind p class name) (λ kind. is_narrower p kind t void_type) e in
        let r = held (class_written p.names t) _ k.2 in true≢false (sym r.2)

    go : (b : Bool) → is_same_type t void_type ≡ b →
        (b || holds (narrower_kind p class name) (λ kind. is_narrower p kind t void_type)) ≡ true → t ≡ void_type
    go true s e = same_type t void_type s
    go false s e = absurd (narrow e)

module _ (forest : Forest) (accepted : IsAccepted forest) (whole : IsForest forest) (sorted : IsWellSorted forest.nodes)
    (is_read : IsReadFromTexts forest) where
  abbrev p : Declarations
  p = declarations_of forest

  runnable_there : slice_get p.classes runnable ≡ Some runnable_row
  unfolding declarations_of written_rows framework_rows_from framework_classes
  runnable_there = ap (λ rows. slice_get rows runnable) (counted_is_written forest accepted)

  pub own_run : own_method p.classes run_name runnable ≡ Some (record { on = runnable; method = run_method })
  unfolding own_method framework_row framework_methods_on framework_method framework_methods
  own_run =
      ap (λ (o : Option ClassRow). option_map (λ (m : DeclaredMethod). record { on = runnable; method = m })
      (option_and_then (λ (row : ClassRow). find (λ (m : DeclaredMethod). is_same run_name m.declared.name) row.methods)
      o)) runnable_there

  run_is_abstract : run_method.declared.modifiers.is_abstract ≡ true
  unfolding framework_method
  run_is_abstract = refl

  abstract_run : Element run_method (own_abstract_methods p.classes runnable)
  abstract_run =
      let d = own_declaration forest accepted runnable run_name (record { on = runnable; method = run_method }) own_run
      in
      subst
      (λ (o : Option ClassRow). Element run_method
      (elim o as (λ _. List DeclaredMethod)
      [ None ↦ [] | Some row ↦ filter (λ (m : DeclaredMethod). m.declared.modifiers.is_abstract) row.methods ]))
      (sym d.is_row)
      (in_filter (λ (m : DeclaredMethod). m.declared.modifiers.is_abstract) run_method d.row.methods d.among
      run_is_abstract)

  pub runnable_above : (on : ℕ) → is_sub p.classes on runnable ≡ true →
      Element runnable (superclasses p.classes on ++ all_interfaces p.classes on)
  unfolding is_sub
  runnable_above on sub =
      elim
      (or_cases (is_among runnable (superclasses p.classes on)) (is_among runnable (all_interfaces p.classes on)) sub)
      as (λ z. Element runnable (superclasses p.classes on ++ all_interfaces p.classes on)) [
        | inl h ↦ in_left runnable (superclasses p.classes on) (all_interfaces p.classes on)
            (in_among runnable (superclasses p.classes on) h)
        | inr h ↦ in_right runnable (superclasses p.classes on)
            (all_interfaces p.classes on) (in_among runnable (all_interfaces p.classes on) h)
      ]

  -- C7: nothing is left open
  closed : (on : ℕ) → IsWritten p on → is_sub p.classes on runnable ≡ true → is_left_open p on run_method ≡ false
  unfolding c7 abstract_methods
  closed on w sub =
      let n = at_class_unbroken forest accepted on w.row w.declared w.stands w.is in
      let left : list_any (is_left_open p on) (abstract_methods p.classes on) ≡ false =
      sym (ap (λ t. not t && list_any (is_left_open p on) (abstract_methods p.classes on)) w.plain)
      ∙ right (leaves_open p on w.declared) C7 w.declared.position
      (both_empty (broken (leaves_open p on w.declared) C7 w.declared.position)
      (flat_map (λ (m : DeclaredMethod). broken (has_wrong_body m) C7 m.declared.position) w.row.methods)
      n.left_open).0 in
      none_passes (is_left_open p on) (abstract_methods p.classes on) run_method left
      (in_flat (own_abstract_methods p.classes) run_method runnable
      (superclasses p.classes on ++ all_interfaces p.classes on) (runnable_above on sub) abstract_run)

  named_run : (on : ℕ) → is_sub p.classes on runnable ≡ true → (g : FoundMethod) ×
      (method_named p.classes on run_name ≡ Some g)
  unfolding method_named
  named_run on sub = along_some (own_method p.classes run_name) runnable (record { on = runnable; method = run_method })
      (superclasses p.classes on ++ all_interfaces p.classes on) (runnable_above on sub) own_run

  -- what a class has for `run`, and that it is right
  record Right (on : ℕ) (g : FoundMethod) : Type 0 where
    concrete : g.method.declared.modifiers.is_abstract ≡ false
    plain : g.method.declared.modifiers.is_static ≡ false
    parameters : g.method.parameters ≡ []
    void : g.method.declared.declared_type ≡ void_type

  right_run : (on : ℕ) (g : FoundMethod) → method_named p.classes on run_name ≡ Some g →
      is_left_open p on run_method ≡ false → Right on g
  unfolding is_left_open framework_method parameter_list has_types_of result_written
  right_run on g m e =
      let open_there : stays_open p on run_method g.method ≡ false =
      sym (ap (λ (o : Option FoundMethod). holds o (λ (f : FoundMethod). stays_open p on run_method f.method)) m)
      ∙ e in
      let a = or_false g.method.declared.modifiers.is_abstract (misfits_framework p on g.method run_method) open_there
      in
      let b = or_false g.method.declared.modifiers.is_static (not (has_types_of p on g.method run_method)) a.1 in
      let types =
      and_true (have_same_types g.method.parameters [])
      (is_result_of p on g.method.declared.name g.method.declared.declared_type void_type)
      (not_false (has_types_of p on g.method run_method) b.1) in
      record {
        concrete = a.0;
        plain = b.0;
        parameters = no_parameters g.method.parameters types.0;
        void = no_result p
            on g.method.declared.name g.method.declared.declared_type types.1;
      }

  -- it is a user's, since the framework's is abstract
  users_run : (on : ℕ) (g : FoundMethod) → method_named p.classes on run_name ≡ Some g →
      g.method.declared.modifiers.is_abstract ≡ false → is_some g.method.builtin ≡ false
  unfolding framework_method
  users_run on g m c = go (is_some g.method.builtin) refl
    where
      go : (t : Bool) → is_some g.method.builtin ≡ t → is_some g.method.builtin ≡ false
      go false e = e
      go true e =
          absurd (
          let y = own_found forest accepted whole sorted on run_name g m in
          let d = own_declaration forest accepted y.0 run_name g y.1 in
          let f = of_framework forest accepted whole sorted y.0 run_name g y.1 e in
          let name : f.row.name ≡ run_name = ap (λ (m : DeclaredMethod). m.declared.name) f.is ∙ sym d.same_name in
          let r = run_is f.row f.among (ap (is_same run_name) name ∙ same_name run_name) in
          true≢false (sym r.abstract_one ∙ ap (λ (m : DeclaredMethod). m.declared.modifiers.is_abstract) f.is ∙ c))

  pub record RunOf (on : ℕ) : Type 0 where
    pub method : FoundMethod
    pub is : method_named p.classes on run_name ≡ Some method
    pub user : IsUserMethod p method
    pub plain : method.method.declared.modifiers.is_static ≡ false
    pub parameters : method.method.parameters ≡ []
    pub void : method.method.declared.declared_type ≡ void_type
    pub body : is_some method.method.body ≡ true

  pub run_of_class : (on : ℕ) → IsWritten p on → is_sub p.classes on runnable ≡ true → RunOf on
  run_of_class on w sub =
      let g = named_run on sub in
      let r = right_run on g.0 g.1 (closed on w sub) in
      let y = own_found forest accepted whole sorted on run_name g.0 g.1 in
      let user = user_method forest accepted whole sorted y.0 run_name g.0 y.1 (users_run on g.0 g.1 r.concrete) in
      record {
        method = g.0;
        is = g.1;
        user = user;
        plain = r.plain;
        parameters = r.parameters;
        void = r.void;
        body = concrete_has_body forest accepted whole sorted on w.row w.declared run_name g.0 w.stands w.is w.plain g.1
            user;
      }

  -- ---- its body

  takes_nothing : (g : FoundMethod) → g.method.parameters ≡ [] → Takes p g []
  unfolding kinds_taken
  takes_nothing g e = record { are = ap (map (kind_of_parameter p g)) e }

  gives_nothing : (g : FoundMethod) → g.method.declared.declared_type ≡ void_type → kind_given_by p g ≡ None
  unfolding kind_given_by kind_of type_written
  gives_nothing g e = ap (λ t. kind_of (type_written p.names t) (result_scope p g.on g.method)) e

  void_not_long : (t : WrittenType) → t ≡ void_type → t ≡ long_type → ⊥
  void_not_long t e l = (let f : void_type ≡ long_type = sym e ∙ l in cc (f))

  run_named : (on : ℕ) (g : FoundMethod) → method_named p.classes on run_name ≡ Some g → IsUserMethod p g →
      body_named p on run_name ≡ Some (Written g.method.declared.node)
  unfolding body_named
  run_named on g m user = ap (option_and_then body_of_method) m ∙ body_is_of forest accepted whole sorted is_read g user

  pub has_run : (on : ℕ) (q : RunOf on) (r : Scope) → runs_in p q.method.on q.method.method ≡ Some r →
      (h : HasRun p on) × (h.own.sig.runs_in ≡ r)
  has_run on q r e =
      let g = q.method in (
        record {
          body = g.method.declared.node;
          is = run_named on g q.is q.user;
          own = record {
            on = g.on;
            above = declared_above forest accepted whole sorted is_read on run_name g q.user q.is;
            sig = signature [] (kind_given_by p g) r;
            is_body = method_body forest accepted whole sorted is_read g [] r q.user q.body
                (takes_nothing g q.parameters) (void_not_long g.method.declared.declared_type q.void) e;
          };
          takes = refl;
          gives = gives_nothing g q.void;
        },
        refl,
      )
