-- The methods of the framework, one by one: those that a program calls, and `run`.
use Rattle.std.proofs.Common.{◌≡◌, ℕ, List, [], ◌∷◌, filter, refl, sym, ◌∙◌, subst, Some, true, false, true≢false, inl, inr, is_some, ◌==◌, codes}
use Rattle.scj_base.specs.Bytes.{is_same}
use Rattle.scj_builtins.specs.declared.kinds.GivesKind.TheVariants.{Nothing, Number, Truth}
use Rattle.scj_builtins.specs.declared.kinds.ParameterKind.TheVariants.{Int as int_parameter, Text as text_parameter, Object as object_parameter, Runnable as runnable_parameter}
use Rattle.scj_builtins.specs.declared.kinds.Parameters.TheVariants.{One as one_parameter, Two as two_parameters}
use Rattle.scj_builtins.specs.declared.methods.FrameworkMethod.{FrameworkMethod}
use Rattle.scj_builtins.specs.Framework.{mission, periodic_handler, aperiodic_handler, managed_memory, services, trace, device, mission_request_termination, periodic_handler_register, aperiodic_handler_register, aperiodic_handler_release, managed_memory_enter_private_memory, managed_memory_execute_in_area_of, managed_memory_alloc_in_same, services_set_ceiling, trace_print, device_read, runnable_run, called_on_object, called_on_class, framework_methods}
use Rattle.scj_tree.specs.Forest.{Forest, IsForest}
use Rattle.scj_rules.specs.Classes.{FoundMethod, framework_method, framework_methods_on, own_method}
use Rattle.scj_rules.specs.Contexts.{Declarations, declarations_of}
use Rattle.scj_rules.specs.Phases.{IsAccepted}
use Rattle.scj_rules.proofs.ChainLemmas.{same_number}
use Rattle.accepted_laws.specs.Sorts.{IsWellSorted}
use Rattle.accepted_laws.proofs.Dispatch.{own_declaration}
use Rattle.accepted_laws.proofs.Fields.{In as Element}
use Rattle.accepted_laws.proofs.Interfaces.{row_is}
use Rattle.accepted_nodes.proofs.FoundMembers.{in_filtered, in_mapped, none_of_user}
use Rattle.flow_facts.proofs.SlotScopes.{in_head, filter_passes}

-- ---- what a program calls

abbrev pub terminate_row : FrameworkMethod
terminate_row = called_on_object mission_request_termination mission (codes "requestTermination")

abbrev pub periodic_row : FrameworkMethod
periodic_row = called_on_object periodic_handler_register periodic_handler (codes "register")

abbrev pub aperiodic_row : FrameworkMethod
aperiodic_row = called_on_object aperiodic_handler_register aperiodic_handler (codes "register")

abbrev pub release_row : FrameworkMethod
release_row = called_on_object aperiodic_handler_release aperiodic_handler (codes "release")

abbrev pub enter_row : FrameworkMethod
enter_row = called_on_class managed_memory_enter_private_memory managed_memory (codes "enterPrivateMemory")
    (two_parameters int_parameter runnable_parameter) Nothing

abbrev pub execute_row : FrameworkMethod
execute_row = called_on_class managed_memory_execute_in_area_of managed_memory (codes "executeInAreaOf")
    (two_parameters object_parameter runnable_parameter) Nothing

abbrev pub ceiling_row : FrameworkMethod
ceiling_row = called_on_class services_set_ceiling services (codes "setCeiling")
    (two_parameters object_parameter int_parameter) Nothing

abbrev pub print_row : FrameworkMethod
print_row = called_on_class trace_print trace (codes "print") (two_parameters text_parameter int_parameter) Nothing

abbrev pub read_row : FrameworkMethod
read_row = called_on_class device_read device (codes "read") (one_parameter int_parameter) Number

abbrev pub same_row : FrameworkMethod
same_row = called_on_class managed_memory_alloc_in_same managed_memory (codes "allocInSame")
    (two_parameters object_parameter object_parameter) Truth

-- a method that a program calls is one of these
pub data IsCalled : FrameworkMethod → Type 0 where
  terminates : IsCalled terminate_row
  registers_periodic : IsCalled periodic_row
  registers_aperiodic : IsCalled aperiodic_row
  releases : IsCalled release_row
  enters : IsCalled enter_row
  executes : IsCalled execute_row
  sets_ceiling : IsCalled ceiling_row
  prints : IsCalled print_row
  reads : IsCalled read_row
  compares : IsCalled same_row

-- what holds of each element of a list
abbrev EachOf : (FrameworkMethod → Type 0) → List FrameworkMethod → Type 0
EachOf P [] = Unit {0}
EachOf P (m ∷ ms) = P m × EachOf P ms

each_of : (P : FrameworkMethod → Type 0) (ms : List FrameworkMethod) → EachOf P ms → (m : FrameworkMethod) →
    Element m ms → P m
each_of P [] h m i = elim i [ ]
each_of P (x ∷ ms) h m i =
    elim (in_head m x ms i) as (λ z. P m) [ inl e ↦ subst P e h.0 | inr k ↦ each_of P ms h.1 m k ]

no_call : {m : FrameworkMethod} → m.callable ≡ false → m.callable ≡ true → IsCalled m
no_call f t = absurd (true≢false (sym t ∙ f))

pub callable_is : (m : FrameworkMethod) → Element m framework_methods → m.callable ≡ true → IsCalled m
unfolding framework_methods
callable_is m i = each_of (λ m. m.callable ≡ true → IsCalled m) framework_methods (
  no_call refl,
  (
    no_call refl,
    (
      no_call refl,
      (
        no_call refl,
        (
          no_call refl,
          (
            no_call refl,
            (
              no_call refl,
              (
                (λ e. terminates),
                (
                  no_call refl,
                  (
                    no_call refl,
                    (
                      (λ e. registers_periodic),
                      (
                        no_call refl,
                        (
                          (λ e. registers_aperiodic),
                          (
                            (λ e. releases),
                            (
                              (λ e. enters),
                              (
                                (λ e. executes),
                                ((λ e. sets_ceiling), ((λ e. prints), ((λ e. reads), ((λ e. compares), (tt))))),
                              ),
                            ),
                          ),
                        ),
                      ),
                    ),
                  ),
                ),
              ),
            ),
          ),
        ),
      ),
    ),
  ),
) m
    i

-- ---- `run`

pub record IsRun (m : FrameworkMethod) : Type 0 where
  pub number : m.number ≡ runnable_run
  pub abstract_one : m.is_abstract ≡ true

abbrev OfName : FrameworkMethod → Type 0
OfName m = is_same (codes "run") m.name ≡ true → IsRun m

no_run : {m : FrameworkMethod} → is_same (codes "run") m.name ≡ false → OfName m
no_run f t = absurd (true≢false (sym t ∙ f))

pub run_is : (m : FrameworkMethod) → Element m framework_methods → is_same (codes "run") m.name ≡ true → IsRun m
unfolding framework_methods
run_is m i = each_of OfName framework_methods (
  (λ e. record { number = refl; abstract_one = refl }),
  (
    no_run refl,
    (
      no_run refl,
      (
        no_run refl,
        (
          no_run refl,
          (
            no_run refl,
            (
              no_run refl,
              (
                no_run refl,
                (
                  no_run refl,
                  (
                    no_run refl,
                    (
                      no_run refl,
                      (
                        no_run refl,
                        (
                          no_run refl,
                          (
                            no_run refl,
                            (no_run refl, (no_run refl, (no_run refl, (no_run refl, (no_run refl, (no_run refl, (tt))))))),
                          ),
                        ),
                      ),
                    ),
                  ),
                ),
              ),
            ),
          ),
        ),
      ),
    ),
  ),
) m i

module _ (forest : Forest) (accepted : IsAccepted forest) (whole : IsForest forest) (sorted : IsWellSorted forest.nodes)
  where
    abbrev p : Declarations
    p = declarations_of forest

    -- a method of the framework, as it is found
    pub record OfFramework (y : ℕ) (f : FoundMethod) : Type 0 where
      pub row : FrameworkMethod
      pub is : framework_method row ≡ f.method
      pub among : Element row framework_methods
      pub on : row.on ≡ y
      pub found_on : f.on ≡ y

    pub of_framework : (y : ℕ) (name : List ℕ) (f : FoundMethod) → own_method p.classes name y ≡ Some f →
        is_some f.method.builtin ≡ true → OfFramework y f
    unfolding framework_methods_on
    of_framework y name f own b =
        let d = own_declaration forest accepted y name f own in
        elim (row_is forest accepted y d.row d.is_row) as (λ z. OfFramework y f) [
          | inl k ↦ (
              let m = in_mapped framework_method f.method (filter (λ (m : FrameworkMethod). m.on == y) framework_methods)
              (subst (Element f.method) k.methods d.among) in
              record {
                row = m.0;
                is = m.2;
                among = in_filtered (λ (m : FrameworkMethod). m.on == y) m.0 framework_methods m.1;
                on = same_number m.0.on y (filter_passes (λ (m : FrameworkMethod). m.on == y) m.0 framework_methods m.1);
                found_on = d.on;
              })
          | inr u ↦ absurd (true≢false (sym b ∙ none_of_user forest accepted whole sorted u.0 d.row u.2 f.method d.among))
        ]
