-- What a mission class has for `cleanUp`: a user's method that takes and gives nothing, or the framework's empty one.
use Rattle.std.proofs.Common.{arith, ◌≡◌, ℕ, ◌<◌, List, length, sym, ap, ◌∙◌, refl, Option, Some, None, Bool, true, false, ◌==◌, inl, option_and_then, is_some, if◌then◌else◌, codes}
use Rattle.scj_builtins.specs.Framework.{object, mission, mission_clean_up}
use Rattle.scj_tree.specs.Forest.{Forest, IsForest}
use Rattle.scj_rules.specs.CheckedProgram.{IsReadFromTexts}
use Rattle.scj_rules.specs.declared.views.Body.{Body}
use Rattle.scj_rules.specs.declared.views.Body.TheVariants.{Written, Empty}
use Rattle.scj_rules.specs.Words.{is_among, along}
use Rattle.scj_rules.specs.Classes.{FoundMethod, superclasses, all_interfaces, is_sub, own_method, method_named, result_written}
use Rattle.scj_rules.specs.Contexts.{Declarations, declarations_of}
use Rattle.scj_rules.specs.Bodies.{body_of_method, body_named}
use Rattle.scj_rules.specs.Phases.{IsAccepted}
use Rattle.scj_rules.proofs.ChainLemmas.{or_left}
use Rattle.accepted_laws.specs.Sorts.{IsWellSorted}
use Rattle.accepted_laws.proofs.Bodies.{concrete_has_body}
use Rattle.accepted_laws.proofs.Dispatch.{own_declaration, user_method, on_superclass}
use Rattle.accepted_laws.proofs.Fields.{in_among}
use Rattle.accepted_laws.proofs.Subtypes.{among_in, under_object}
use Rattle.accepted_laws.proofs.Tools.{some_inj}
use Rattle.accepted_nodes.proofs.FoundMembers.{own_found}
use Rattle.scope_flow.specs.Signatures.{Runs, empty_signature}
use Rattle.flow_facts.proofs.ConcreteClasses.{IsWritten}
use Rattle.mission_facts.proofs.FrameworkTable.{clean_up, clean_up_among, clean_up_runs}
use Rattle.mission_facts.proofs.Implemented.{IsImplemented, has_itself}
use Rattle.mission_facts.proofs.MethodsUnder.{class_within, defined_method}
use Rattle.mission_facts.proofs.ScopeDefinitions.{IsDefiner}
use Rattle.mission_facts.proofs.Searches.{along_there, along_front}
use Rattle.mission_sound.specs.SequencerFacts.{HasMethodIn}
-- ---- what the table has
use Rattle.mission_facts.proofs.Results.{result_void}
use Rattle.mission_facts.proofs.PlainMethods.{of_table, plain_down}

module _ (forest : Forest) (accepted : IsAccepted forest) (whole : IsForest forest) (sorted : IsWellSorted forest.nodes)
  where
    abbrev p : Declarations
    p = declarations_of forest

    abbrev name : List ℕ
    name = codes "cleanUp"

    abbrev own : ℕ → Option FoundMethod
    own = own_method p.classes name

    on_chain : (class : ℕ) (f : FoundMethod) → is_among mission (superclasses p.classes class) ≡ true →
        method_named p.classes class name ≡ Some f → along own (superclasses p.classes class) ≡ Some f
    unfolding method_named
    on_chain class f h e =
        let m = has_itself forest accepted whole sorted clean_up clean_up_among (omega arith) in
        let found = along_there own mission m.0 (superclasses p.classes class)
        (in_among mission (superclasses p.classes class) h) m.1 in
        let same : found.0 ≡ f =
        some_inj found.0 f
        (sym (along_front own (superclasses p.classes class) (all_interfaces p.classes class) found.0 found.1) ∙ e) in
        found.1 ∙ ap (λ f. Some f) same

    module _ (is_read : IsReadFromTexts forest) where
      of_framework : (class scope : ℕ) (f : FoundMethod) → class < length p.classes →
          method_named p.classes class name ≡ Some f → f.method.builtin ≡ Some mission_clean_up →
          HasMethodIn p scope class name
      unfolding Runs body_named body_of_method is_sub
      of_framework class scope f l e b =
          record {
            called = record {
              body = Empty;
              is = ap (option_and_then body_of_method) e
                  ∙ ap (λ (o : Option ℕ). elim o as (λ _. Option Body) [
                    | None ↦ Some (Written f.method.declared.node)
                    | Some method ↦ if method == mission_clean_up then Some Empty else None
                  ]) b;
              on = object;
              above = or_left (is_among object (superclasses p.classes class))
                  (is_among object (all_interfaces p.classes class)) (under_object forest accepted class l);
              sig = empty_signature;
              runs = (refl, refl);
              takes = refl;
            };
            runs = inl refl;
          }

      of_user : (class : ℕ) (f : FoundMethod) → IsWritten p class →
          is_among mission (superclasses p.classes class) ≡ true → method_named p.classes class name ≡ Some f →
          is_some f.method.builtin ≡ false → IsImplemented forest accepted whole sorted class clean_up
      unfolding result_written
      of_user class f w h e user =
          let l = class_within forest accepted whole sorted is_read class w in
          let y = own_found forest accepted whole sorted class name f e in
          let u = user_method forest accepted whole sorted y.0 name f y.1 user in
          let z = on_superclass forest accepted whole sorted class name f e user in
          let d = own_declaration forest accepted z.0 name f z.2 in
          let x =
          plain_down forest accepted whole sorted (length (superclasses p.classes class)) class f l (omega arith) h
          (on_chain class f h e) in
          record {
            method = f;
            is = e;
            named = sym d.same_name;
            is_user = u;
            has_body =
                concrete_has_body forest accepted whole sorted class w.row w.declared name f w.stands w.is w.plain e u;
            for_object = x.for_object;
            above = ap (λ y. is_among y (superclasses p.classes class)) d.on
                ∙ among_in z.0 (superclasses p.classes class) z.1;
            takes_none = x.takes_none;
            result = result_void p class f.method.declared.name f.method.declared.declared_type x.gives_none;
          }

      pub cleans_up : (class scope : ℕ) → IsWritten p class → is_among mission (superclasses p.classes class) ≡ true →
          IsDefiner forest accepted whole sorted class scope → HasMethodIn p scope class name
      unfolding method_named result_written
      cleans_up class scope w h definer =
          let m = has_itself forest accepted whole sorted clean_up clean_up_among (omega arith) in
          let found = along_there own mission m.0 (superclasses p.classes class)
          (in_among mission (superclasses p.classes class) h) m.1 in
          of_found found.0
          (along_front own (superclasses p.classes class) (all_interfaces p.classes class) found.0 found.1)
        where
          of_found : (f : FoundMethod) → method_named p.classes class name ≡ Some f → HasMethodIn p scope class name
          of_found f e = go (is_some f.method.builtin) refl
            where
              go : (t : Bool) → is_some f.method.builtin ≡ t → HasMethodIn p scope class name
              go true b =
                  let y = own_found forest accepted whole sorted class name f e in
                  of_framework class scope f (class_within forest accepted whole sorted is_read class w) e
                  (of_table forest accepted whole sorted y.0 f y.1 b).number
              go false b =
                  defined_method forest accepted whole sorted is_read class scope clean_up w (of_user class f w h e b)
                  clean_up_among (omega arith) (λ e. cc (e)) h clean_up_runs definer
