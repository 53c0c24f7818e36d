-- A call of a method of the framework, and the methods that take values: `allocInSame`, ceilings, prints and reads.
use Rattle.std.proofs.Common.{◌≡◌, ℕ, List, [], ◌∷◌, refl, sym, ap, ◌∙◌, Option, Some, None, true, slice_get}
use Rattle.scj_base.specs.declared.positions.Position.{Position}
use Rattle.scj_builtins.specs.declared.methods.FrameworkMethod.{FrameworkMethod}
use Rattle.scj_builtins.specs.Framework.{object as object_class, object_name, managed_memory_alloc_in_same, services_set_ceiling, trace_print, device_read}
use Rattle.scj_tree.specs.declared.nodes.Node.TheVariants.{Call}
use Rattle.scj_tree.specs.Forest.{Forest, IsForest}
use Rattle.scj_rules.specs.declared.typing.Ty.{Ty}
use Rattle.scj_rules.specs.declared.typing.Ty.TheVariants.{Int, Void, Label, Class as ClassTy}
use Rattle.scj_rules.specs.declared.views.Declared.{Declared}
use Rattle.scj_rules.specs.declared.views.WrittenType.TheVariants.{Class as class_type, Int as int_type, Text as text_type}
use Rattle.scj_rules.specs.Words.{holds, is_among}
use Rattle.scj_rules.specs.Views.{DeclaredMethod}
use Rattle.scj_rules.specs.CheckedProgram.{IsReadFromTexts}
use Rattle.scj_rules.specs.Classes.{FoundMethod, framework_method}
use Rattle.scj_rules.specs.Contexts.{Declarations, declarations_of}
use Rattle.scj_rules.specs.Types.{type_written, assigns, method_called}
use Rattle.scj_rules.specs.TypeRules.{Types, declared_type_of}
use Rattle.scj_rules.specs.Phases.{IsAccepted}
use Rattle.accepted_laws.specs.Judgements.{type_at_node, Inside, Judged}
use Rattle.accepted_laws.specs.Kinds.{number, truth}
use Rattle.accepted_laws.specs.Sorts.{IsWellSorted}
use Rattle.scj_model.specs.Code.{Code, code_of}
use Rattle.scope_flow.specs.CallFacts.{SameFact, SetCeilingFact, PrintFact, ReadFact}
use Rattle.flow_facts.proofs.CallParts.{CallParts}
use Rattle.flow_facts.proofs.EnteringCalls.{object_type}
use Rattle.flow_facts.proofs.FrameworkArguments.{label_taken, class_taken, AllTaken, Two, One, first_among, second_among, number_argument, ReferenceArgument, reference_argument, text_argument}

module _ (forest : Forest) (accepted : IsAccepted forest) (whole : IsForest forest) (sorted : IsWellSorted forest.nodes)
    (is_read : IsReadFromTexts forest) where
  abbrev p : Declarations
  p = declarations_of forest

  abbrev types : Types
  types = type_at_node p

  abbrev code : Code
  code = code_of forest

  -- ---- the call

  -- a call of a method of the framework, with what is known of it
  pub record Called (b c id : ℕ) (name : List ℕ) (object : Option ℕ) (arguments : List ℕ) (f : FoundMethod)
      (row : FrameworkMethod) : Type 0 where
    pub position : Position
    pub stands : slice_get forest.nodes id ≡ Some (Call position name object arguments)
    pub inside : Inside p b c id
    pub method : method_called p types id object name ≡ Some f
    pub is : framework_method row ≡ f.method
    pub on : f.on ≡ row.on
    pub parts : CallParts forest accepted whole sorted b c id name object arguments
    pub taken : AllTaken forest accepted whole sorted arguments (framework_method row).parameters
    pub given : types id ≡ declared_type_of p (framework_method row).declared

  pub number_is : (f : FoundMethod) (row : FrameworkMethod) → framework_method row ≡ f.method →
      f.method.builtin ≡ Some row.number
  unfolding framework_method
  number_is f row e = ap (λ (m : DeclaredMethod). m.builtin) (sym e)

  pub plain_is : (f : FoundMethod) (row : FrameworkMethod) → framework_method row ≡ f.method →
      f.method.declared.modifiers.is_static ≡ row.is_static
  unfolding framework_method
  plain_is f row e = ap (λ (m : DeclaredMethod). m.declared.modifiers.is_static) (sym e)

  pub nothing_judged : (id : ℕ) → types id ≡ Some Void → Judged p id None
  unfolding Judged
  nothing_judged id e = e

  -- ---- each method

  written_int : (d : Declared) → d.declared_type ≡ int_type → declared_type_of p d ≡ Some Int
  unfolding type_written
  written_int d e = ap (type_written p.names) e

  written_text : (d : Declared) → d.declared_type ≡ text_type → declared_type_of p d ≡ Some Label
  unfolding type_written
  written_text d e = ap (type_written p.names) e

  -- an argument where an object of any class may stand
  object_argument : (b c id : ℕ) (name : List ℕ) (object : Option ℕ) (arguments : List ℕ)
      (x : CallParts forest accepted whole sorted b c id name object arguments) (y : ℕ) (t : Ty) (d : Declared) →
      is_among y arguments ≡ true → types y ≡ Some t → d.declared_type ≡ class_type object_name →
      holds (declared_type_of p d) (assigns p.classes t) ≡ true →
      ReferenceArgument forest accepted whole sorted b c id name object arguments x y
  object_argument b c id name object arguments x y t d among typed any h =
      let taken : assigns p.classes t (ClassTy object_class) ≡ true =
      sym (ap (λ w. holds (type_written p.names w) (assigns p.classes t)) any
      ∙ ap (λ (o : Option Ty). holds o (assigns p.classes t)) (object_type forest accepted whole sorted is_read))
      ∙ h in
      reference_argument forest accepted whole sorted b c id name object arguments x y t among typed
      (class_taken p.classes t object_class taken)

  pub same_case : (b c id : ℕ) (name : List ℕ) (object : Option ℕ) (arguments : List ℕ) (d e : Declared) →
      CallParts forest accepted whole sorted b c id name object arguments → d.declared_type ≡ class_type object_name →
      e.declared_type ≡ class_type object_name → Two forest accepted whole sorted arguments d e →
      SameFact code b c id managed_memory_alloc_in_same arguments (Some truth)
  unfolding code_of
  same_case b c id name object arguments d e x any other h =
      let r =
      object_argument b c id name object arguments x h.first h.t d
      (first_among forest accepted whole sorted h.first (h.second ∷ []) arguments h.are) h.first_typed any
      h.first_taken in
      let s =
      object_argument b c id name object arguments x h.second h.u e
      (second_among forest accepted whole sorted h.first h.second [] arguments h.are) h.second_typed other
      h.second_taken in
      record {
        is_method = refl;
        first = h.first;
        second = h.second;
        are = h.are;
        first_type = r.type;
        first_scope = r.scope;
        first_is = r.is;
        second_type = s.type;
        second_scope = s.scope;
        second_is = s.is;
        is_given = refl;
      }

  pub ceiling_case : (b c id : ℕ) (name : List ℕ) (object : Option ℕ) (arguments : List ℕ) (d e : Declared) (n : ℕ) →
      CallParts forest accepted whole sorted b c id name object arguments → d.declared_type ≡ class_type object_name →
      e.declared_type ≡ int_type → Two forest accepted whole sorted arguments d e →
      SetCeilingFact code b c id services_set_ceiling arguments None
  unfolding code_of
  ceiling_case b c id name object arguments d e n x any int h =
      let r =
      object_argument b c id name object arguments x h.first h.t d
      (first_among forest accepted whole sorted h.first (h.second ∷ []) arguments h.are) h.first_typed any
      h.first_taken in
      record {
        is_method = refl;
        object = h.first;
        ceiling = h.second;
        are = h.are;
        type = r.type;
        scope = r.scope;
        object_is = r.is;
        ceiling_is = number_argument forest accepted whole sorted b c id name object arguments x h.second h.u e
            (second_among forest accepted whole sorted h.first h.second [] arguments h.are) h.second_typed
            (written_int e int) h.second_taken;
        is_given = refl;
      }

  pub print_case : (b c id : ℕ) (name : List ℕ) (object : Option ℕ) (arguments : List ℕ) (d e : Declared) →
      CallParts forest accepted whole sorted b c id name object arguments → d.declared_type ≡ text_type →
      e.declared_type ≡ int_type → Two forest accepted whole sorted arguments d e →
      PrintFact code b c id trace_print arguments None
  unfolding code_of declarations_of
  print_case b c id name object arguments d e x text int h =
      let first = first_among forest accepted whole sorted h.first (h.second ∷ []) arguments h.are in
      let label : h.t ≡ Label =
      label_taken p.classes h.t (sym (ap (λ (o : Option Ty). holds o (assigns p.classes h.t)) (written_text d text))
      ∙ h.first_taken) in
      let t = text_argument forest accepted whole sorted b c id name object arguments x h.first first
      (h.first_typed ∙ ap (λ t. Some t) label) in
      let v = x.values h.first first in
      record {
        is_method = refl;
        label = h.first;
        value = h.second;
        are = h.are;
        position = t.0;
        text = t.1;
        is_smaller = v.less;
        is_text = t.2;
        value_is = number_argument forest accepted whole sorted b c id name object arguments x h.second h.u e
            (second_among forest accepted whole sorted h.first h.second [] arguments h.are) h.second_typed
            (written_int e int) h.second_taken;
        is_given = refl;
      }

  pub read_case : (b c id : ℕ) (name : List ℕ) (object : Option ℕ) (arguments : List ℕ) (d : Declared) →
      CallParts forest accepted whole sorted b c id name object arguments → d.declared_type ≡ int_type →
      One forest accepted whole sorted arguments d → ReadFact code b c id device_read arguments (Some number)
  unfolding code_of
  read_case b c id name object arguments d x int h =
      record {
        is_method = refl;
        port = h.first;
        are = h.are;
        port_is = number_argument forest accepted whole sorted b c id name object arguments x h.first h.t d
            (first_among forest accepted whole sorted h.first [] arguments h.are) h.first_typed
            (written_int d int) h.first_taken;
        is_given = refl;
      }
