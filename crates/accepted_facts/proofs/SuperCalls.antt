-- What a call of a superclass's constructor has.
use Rattle.std.proofs.Common.{◌≡◌, ℕ, List, [], refl, sym, ap, ◌∙◌, Option, Some, None, Bool, true, false, not, ◌&&◌, option_and_then, slice_get, if◌then◌else◌}
use Rattle.scj_base.specs.declared.positions.Position.{Position}
use Rattle.scj_tree.specs.declared.nodes.Node.{Node}
use Rattle.scj_tree.specs.declared.nodes.Node.TheVariants.{SuperCall}
use Rattle.scj_tree.specs.Forest.{Forest, IsForest}
use Rattle.scj_tree.specs.Shape.{children}
use Rattle.scj_rules.specs.declared.typing.Binding.TheVariants.{Class as ClassNamed}
use Rattle.scj_rules.specs.declared.typing.Scope.{Scope}
use Rattle.scj_rules.specs.declared.typing.Ty.{Ty}
use Rattle.scj_rules.specs.Words.{is_among, holds, found_at}
use Rattle.scj_rules.specs.Classes.{superclass_in}
use Rattle.scj_rules.specs.Contexts.{Declarations, declarations_of, context, child_context, object_of, declared_before}
use Rattle.scj_rules.specs.StaticScopes.{this_in, substitute, constructor_parameter_scope}
use Rattle.scj_rules.specs.Types.{all_types, accepts_arguments, constructor_parameters, has_form, super_call_in, form_parts, form_in, is_form_part}
use Rattle.scj_rules.specs.TypeRules.{Types, misfit, superclass_at, misfits_super_call}
use Rattle.scj_rules.specs.UseRules.{Scopes, this_at, misfit_arguments, e3_of_constructor, use_breaks, e1, e2, e3, e4_and_e5, e6, e7, e8, e9, e10}
use Rattle.scj_rules.specs.Bindings.{plain_or, binding_of}
use Rattle.scj_rules.specs.Phases.{IsAccepted}
use Rattle.accepted_laws.specs.Judgements.{type_at_node, scope_at_node, Inside}
use Rattle.accepted_laws.specs.Sorts.{Of, HasRightChildren, IsWellSorted, is_argument}
use Rattle.accepted_laws.proofs.Breaks.{both_empty}
use Rattle.accepted_laws.proofs.Children.{among_of}
use Rattle.accepted_laws.proofs.Contexts.{child_context_is}
use Rattle.accepted_laws.proofs.DeclarationScopes.{this_has_scope}
use Rattle.accepted_laws.proofs.InnerNodes.{is_inner}
use Rattle.scj_rules.proofs.ParentLemmas.{child-less}
use Rattle.accepted_nodes.proofs.ScopesComplete.{arguments_typed}
use Rattle.accepted_nodes.proofs.TypeBreaks.{right_super_call}
use Rattle.accepted_nodes.proofs.TypesComplete.{unbroken, ValueAt}
use Rattle.accepted_nodes.proofs.ValueChildren.{inside_child, no_class_name}
use Rattle.accepted_facts.specs.Calls.{SuperCallFacts}
use Rattle.accepted_facts.proofs.AccessFacts.{operand_at}
use Rattle.accepted_facts.proofs.Arguments.{pass}
use Rattle.accepted_facts.proofs.NameFacts.{binding_is}
use Rattle.accepted_facts.proofs.NewFacts.{parameters_kinds, takes_are}
use Rattle.accepted_facts.proofs.StatementFacts.{not_false, use_unbroken}

and_none : (a b : Bool) → b ≡ false → (a && b) ≡ false
and_none true b e = e
and_none false b e = refl

module _ (forest : Forest) (accepted : IsAccepted forest) (whole : IsForest forest) (sorted : IsWellSorted forest.nodes) where
  abbrev p : Declarations
  p = declarations_of forest

  abbrev types : Types
  types = type_at_node p

  abbrev scopes : Scopes
  scopes = scope_at_node p

  -- where no form is due there are no parts of one
  no_parts : (b c x superclass : ℕ) → Inside p b c x → superclass_in p.classes c ≡ Some superclass → has_form superclass ≡ false → is_form_part p x ≡ false
  unfolding form_in is_form_part declarations_of
  no_parts b c x superclass inside up none =
      let form : form_in p c ≡ None = ap (option_and_then (λ superclass. if has_form superclass then option_and_then (form_parts p superclass) (super_call_in p c) else None)) up
      ∙ ap (λ t. if t then option_and_then (form_parts p superclass) (super_call_in p c) else None) none in
      and_none (context p x).in_super_call (holds (context p x).class (λ class. holds (form_in p class) (is_among x)))
      (ap (λ (o : Option ℕ). holds o (λ class. holds (form_in p class) (is_among x))) inside.class ∙ ap (λ (o : Option (List ℕ)). holds o (is_among x)) form)

  argument_at : (b c id x superclass : ℕ) (position : Position) (arguments : List ℕ) → slice_get forest.nodes id ≡ Some (SuperCall position arguments) → Inside p b c id → superclass_in p.classes c ≡ Some superclass → has_form superclass ≡ false → is_among x arguments ≡ true → ValueAt forest accepted whole sorted b c id x
  unfolding children is_inner object_of HasRightChildren child_context
  argument_at b c id x superclass position arguments there inside up none among =
      let node : Node = SuperCall position arguments in
      let o : Of is_argument forest.nodes x = among_of forest.nodes is_argument x arguments (sorted.each id node there) among in
      let i = inside_child forest whole accepted b c id x node o.node inside there refl among o.is_there in
      record {
        node = o.node;
        is_there = o.is_there;
        less = child-less forest whole id x node there among;
        inside = i;
        value = record {
          is_argument = o.passes;
          no_class = no_class_name p x o.node (ap (λ c. c.before_dot) (child_context_is forest whole id x node there among));
          no_form_part = no_parts b c x superclass i up none;
        };
      }

  use_of_super : (id : ℕ) (position : Position) (arguments : List ℕ) → use_breaks p types scopes id (SuperCall position arguments) ≡ [] → found_at (superclass_at p id) (e3_of_constructor p scopes (this_at p id) arguments) ≡ []
  unfolding use_breaks e1 e2 e3 e4_and_e5 e6 e7 e8 e9 e10
  use_of_super id position arguments e = (both_empty (found_at (superclass_at p id) (e3_of_constructor p scopes (this_at p id) arguments)) [] e).0

  super_scoped : (id superclass : ℕ) (arguments : List ℕ) (home : Scope) → superclass_at p id ≡ Some superclass → this_at p id ≡ Some home → found_at (superclass_at p id) (e3_of_constructor p scopes (this_at p id) arguments) ≡ []
      → misfit_arguments p scopes (λ d. option_and_then (substitute (Some home) (Some home)) (constructor_parameter_scope p superclass d)) (constructor_parameters p.classes superclass) arguments ≡ []
  unfolding e3_of_constructor
  super_scoped id superclass arguments home up h e =
      sym (ap (λ (o : Option ℕ). found_at o (e3_of_constructor p scopes (this_at p id) arguments)) up
      ∙ ap (λ (x : Option Scope). misfit_arguments p scopes (λ d. option_and_then (substitute x x) (constructor_parameter_scope p superclass d)) (constructor_parameters p.classes superclass) arguments) h) ∙ e

  super_accepts : (id superclass : ℕ) (arguments : List ℕ) (ts : List Ty) → superclass_at p id ≡ Some superclass → all_types types arguments ≡ Some ts → has_form superclass ≡ false → misfits_super_call p types id arguments ≡ false → accepts_arguments p (constructor_parameters p.classes superclass) ts ≡ true
  super_accepts id superclass arguments ts up k none e =
      not_false _ (sym (ap (λ (o : Option ℕ). holds o (λ superclass. not (has_form superclass) && misfit p types (constructor_parameters p.classes superclass) arguments)) up
      ∙ ap (λ t. not t && misfit p types (constructor_parameters p.classes superclass) arguments) none
      ∙ ap (λ (o : Option (List Ty)). holds o (λ ts. not (accepts_arguments p (constructor_parameters p.classes superclass) ts))) k) ∙ e)

  pub super_call_facts : (b c id superclass : ℕ) (position : Position) (arguments : List ℕ) → slice_get forest.nodes id ≡ Some (SuperCall position arguments) → Inside p b c id → superclass_at p id ≡ Some superclass → SuperCallFacts p b c id superclass arguments
  unfolding binding_of children declared_before
  super_call_facts b c id superclass position arguments there inside up =
      let node : Node = SuperCall position arguments in
      let above : superclass_in p.classes c ≡ Some superclass = sym (ap (option_and_then (superclass_in p.classes)) inside.class) ∙ up in
      let h = this_has_scope forest accepted whole sorted c in
      let here : this_at p id ≡ Some h.0 = ap (option_and_then (this_in p)) inside.class ∙ h.1 in
      record {
        binding = binding_is forest accepted whole sorted id node there ∙ ap (plain_or (λ c. ClassNamed c)) up;
        home = h.0;
        is_home = h.1;
        passes = λ none. (
            let values : (x : ℕ) → is_among x arguments ≡ true → ValueAt forest accepted whole sorted b c id x = λ x among. argument_at b c id x superclass position arguments there inside above none among in
            let ts = arguments_typed forest accepted whole sorted b c id arguments values in
            let passed = pass forest accepted whole sorted b c id arguments ts.0 (constructor_parameters p.classes superclass) (constructor_parameter_scope p superclass) h.0 h.0 values
            (λ x k among j. operand_at forest accepted whole sorted b c id x node k there among refl (values x among) j) ts.1
            (super_accepts id superclass arguments ts.0 up ts.1 none (right_super_call p types id position arguments (unbroken forest accepted whole sorted id node there)))
            (super_scoped id superclass arguments h.0 up here (use_of_super id position arguments (use_unbroken forest accepted whole sorted id node there))) (λ d i. parameters_kinds forest accepted whole sorted superclass d i) in
            record { taken = passed.0; takes = takes_are forest accepted whole sorted superclass passed.0 passed.1; passes = passed.2 });
      }
