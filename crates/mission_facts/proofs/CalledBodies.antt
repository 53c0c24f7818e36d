-- The bodies that the framework calls on objects of concrete classes, with what they give.
use Rattle.std.proofs.Common.{◌≡◌, ℕ, [], map, ap, ◌∙◌, refl, Option, Some, None, true, ◌==◌, option_and_then, if◌then◌else◌}
use Rattle.scj_base.specs.Bytes.{is_same}
use Rattle.scj_builtins.specs.declared.classes.FrameworkClass.{FrameworkClass}
use Rattle.scj_builtins.specs.declared.methods.FrameworkMethod.{FrameworkMethod}
use Rattle.scj_builtins.specs.Framework.{framework_classes, mission, mission_name, mission_sequencer, mission_sequencer_name, mission_clean_up}
use Rattle.scj_tree.specs.Forest.{Forest, IsForest}
use Rattle.scj_rules.specs.CheckedProgram.{IsReadFromTexts}
use Rattle.scj_rules.specs.declared.typing.Ty.TheVariants.{Class as ClassTy}
use Rattle.scj_rules.specs.declared.views.Body.{Body}
use Rattle.scj_rules.specs.declared.views.Body.TheVariants.{Written, Empty}
use Rattle.scj_rules.specs.declared.views.WrittenType.{WrittenType}
use Rattle.scj_rules.specs.declared.views.WrittenType.TheVariants.{Long as long_type, Class as class_type}
use Rattle.scj_rules.specs.Words.{is_among}
use Rattle.scj_rules.specs.Views.{WrittenClass}
use Rattle.scj_rules.specs.Classes.{FoundMethod, class_names, class_number, superclasses, all_interfaces, is_sub, result_written, user_classes}
use Rattle.scj_rules.specs.ClassRules.{class_written, is_result_of}
use Rattle.scj_rules.specs.Contexts.{Declarations, declarations_of}
use Rattle.scj_rules.specs.StaticScopes.{runs_in}
use Rattle.scj_rules.specs.AnnotationRules.{result_scope}
use Rattle.scj_rules.specs.Bodies.{body_of_method, body_named}
use Rattle.scj_rules.specs.Phases.{IsAccepted}
use Rattle.scj_rules.proofs.ChainLemmas.{or_left}
use Rattle.accepted_laws.specs.Kinds.{kind_of}
use Rattle.accepted_laws.specs.Overriding.{IsUserMethod}
use Rattle.accepted_laws.specs.Sorts.{IsWellSorted}
use Rattle.accepted_laws.proofs.DeclarationScopes.{runs_in_has_scope}
use Rattle.accepted_laws.proofs.MemberScopes.{result_has_scope}
use Rattle.accepted_laws.proofs.Subtypes.{is_sub_itself}
use Rattle.accepted_facts.specs.Methods.{Takes, kind_of_parameter, kinds_taken, kind_given as kind_given_by}
use Rattle.scope_flow.specs.Signatures.{Runs}
use Rattle.flow_facts.proofs.Bodies.{signature, method_body}
use Rattle.mission_facts.proofs.Implemented.{IsImplemented}
use Rattle.mission_facts.proofs.Searches.{position_front}
use Rattle.mission_sound.specs.SequencerFacts.{IsCalledOn, GivesUnder}
use Rattle.mission_facts.proofs.Results.{not_long, under_result, class_is}

module _ (forest : Forest) (accepted : IsAccepted forest) (whole : IsForest forest) (sorted : IsWellSorted forest.nodes)
  where
    abbrev p : Declarations
    p = declarations_of forest

    pub gives_under : (class a : ℕ) (f : FoundMethod) (above : WrittenType) → IsUserMethod p f →
        class_written p.names above ≡ Some a →
        is_result_of p class f.method.declared.name f.method.declared.declared_type above ≡ true →
        GivesUnder p a (kind_given_by p f)
    unfolding kind_given_by kind_of
    gives_under class a f above u n e =
        let r = under_result p (is_sub_itself forest accepted) class a f.method.declared.name
        f.method.declared.declared_type above n e in
        let c = class_is p f.method.declared.declared_type r.0 r.1 in
        let s = result_has_scope forest accepted whole sorted f.on f.method.declared.node f.method u.is_there
        u.stands_in_class c.1 in
        record {
          class = r.0;
          scope = s.0;
          is = ap (λ t. kind_of t (result_scope p f.on f.method)) c.0 ∙ ap (kind_of (Some (ClassTy r.0))) s.1;
          is_under = r.2;
        }

    -- the names of the framework's classes denote them
    pub sequencer_named : class_written p.names (class_type mission_sequencer_name) ≡ Some mission_sequencer
    unfolding class_written class_number class_names declarations_of framework_classes
    sequencer_named =
        position_front (is_same mission_sequencer_name) (map (λ (c : FrameworkClass). c.name) framework_classes)
        (map (λ (c : WrittenClass). c.name) (user_classes forest)) mission_sequencer refl

    pub mission_named : class_written p.names (class_type mission_name) ≡ Some mission
    unfolding class_written class_number class_names declarations_of framework_classes
    mission_named =
        position_front (is_same mission_name) (map (λ (c : FrameworkClass). c.name) framework_classes)
        (map (λ (c : WrittenClass). c.name) (user_classes forest)) mission refl

    -- ---- bodies

    module _ (is_read : IsReadFromTexts forest) where
      -- the body of a user's method without parameters, where it runs and what it gives
      pub record BodyCalled (class : ℕ) (f : FoundMethod) (found : Option Body) : Type 0 where
        pub called : IsCalledOn p class found
        pub runs : runs_in p f.on f.method ≡ Some called.sig.runs_in
        pub gives : called.sig.gives ≡ kind_given_by p f

      pub body_called : (class : ℕ) (m : FrameworkMethod) (x : IsImplemented forest accepted whole sorted class m) →
          (result_written m.gives ≡ long_type → ⊥) → BodyCalled class x.method (body_named p class m.name)
      unfolding Runs body_named body_of_method is_sub kinds_taken
      body_called class m x other =
          let f : FoundMethod = x.method in
          let r = runs_in_has_scope forest accepted whole sorted f.on f.method.declared.node f.method x.is_user.is_there
          x.is_user.stands_in_class in
          let takes : Takes p f [] = record { are = ap (map (kind_of_parameter p f)) x.takes_none } in
          let n = not_long p class f.method.declared.name f.method.declared.declared_type (result_written m.gives) other
          x.result in
          record {
            called = record {
              body = Written f.method.declared.node;
              is = ap (option_and_then body_of_method) x.is
                  ∙ ap (λ (o : Option ℕ). elim o as (λ _. Option Body) [
                    | None ↦ Some (Written f.method.declared.node)
                    | Some method ↦ if method == mission_clean_up then Some Empty else None
                  ]) x.is_user.not_builtin;
              on = f.on;
              above = or_left (is_among f.on (superclasses p.classes class))
                  (is_among f.on (all_interfaces p.classes class)) x.above;
              sig = signature [] (kind_given_by p f) r.0;
              runs = method_body forest accepted whole sorted is_read f [] r.0 x.is_user x.has_body takes n r.1;
              takes = refl;
            };
            runs = r.1;
            gives = refl;
          }
