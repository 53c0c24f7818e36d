-- The super part of a constructor of an accepted program, where it isn't written; the superclass, and the form that is
-- due.
use Rattle.std.proofs.Common.{◌≡◌, ℕ, ◌<◌, List, [], ◌∷◌, length, map, refl, sym, ap, ◌∙◌, subst, arith, Option, Some, None, Bool, true, false, not, ◌&&◌, true≢false, ◌==◌, is_some, option_and_then}
use Rattle.std.proofs.lemmas.Option.{slice_get_within}
use Rattle.scj_base.specs.declared.findings.Rule.TheVariants.{T6, T14}
use Rattle.scj_base.specs.declared.positions.Position.{Position}
use Rattle.scj_tree.specs.declared.nodes.Node.{Node}
use Rattle.scj_tree.specs.declared.nodes.Node.TheVariants.{Class}
use Rattle.scj_tree.specs.Forest.{Forest, IsForest}
use Rattle.scj_rules.specs.CheckedProgram.{IsReadFromTexts}
use Rattle.scj_rules.specs.declared.contexts.Context.{Context}
use Rattle.scj_rules.specs.declared.typing.Binding.TheVariants.{Class as ClassNamed}
use Rattle.scj_rules.specs.declared.typing.Scope.{Scope}
use Rattle.scj_rules.specs.Words.{is_among, holds, broken}
use Rattle.scj_rules.specs.Views.{DeclaredConstructor}
use Rattle.scj_rules.specs.Classes.{class_number, is_user_class, superclass_in, superclasses, all_interfaces, is_sub, is_empty}
use Rattle.scj_rules.specs.Contexts.{Declarations, declarations_of, context}
use Rattle.scj_rules.specs.StaticScopes.{this_in}
use Rattle.scj_rules.specs.Types.{constructor_in, constructor_parameters, form_in, has_form}
use Rattle.scj_rules.specs.TypeRules.{calls_unwritten, takes_arguments, misfits_class, lacks_form, type_breaks, t1, t2, t3, t4, t5, t6, t7, t8, t9, t10, t11, t12, t13, t14, is_concrete_safelet}
use Rattle.scj_rules.specs.Bindings.{binding_of, bindings_in, class_binding}
use Rattle.scj_rules.specs.Bodies.{class_node}
use Rattle.scj_rules.specs.Phases.{IsAccepted}
use Rattle.scj_rules.proofs.ChainLemmas.{or_left, or_right, is_same_number}
use Rattle.scj_rules.proofs.WithinLemmas.{counted-stays}
use Rattle.accepted_laws.specs.Judgements.{type_at_node, binding_at_node}
use Rattle.accepted_laws.specs.Kinds.{seen_kinds, NamesArea}
use Rattle.accepted_laws.specs.Sorts.{IsWellSorted}
use Rattle.accepted_laws.proofs.Breaks.{both_empty, right}
use Rattle.accepted_laws.proofs.Children.{class_outermost}
use Rattle.accepted_laws.proofs.ClassChains.{object_alone_is_top}
use Rattle.accepted_laws.proofs.ClassNumbers.{name_denotes}
use Rattle.accepted_laws.proofs.InnerNodes.{is_no_class}
use Rattle.accepted_laws.proofs.RealScopes.{this_named}
use Rattle.accepted_laws.proofs.ScopesOfClasses.{chain_is}
use Rattle.accepted_laws.proofs.Tools.{some_inj}
use Rattle.accepted_nodes.proofs.FormParts.{form_of}
use Rattle.accepted_nodes.proofs.TypesComplete.{unbroken}
use Rattle.accepted_facts.specs.Calls.{AllFitAsSeen, ConstructorTakes, kind_of_constructor_parameter}
use Rattle.accepted_facts.proofs.NameFacts.{binding_is}
use Rattle.accepted_facts.proofs.StatementFacts.{or_false, not_false}
use Rattle.scj_model.specs.Code.{Code}
use Rattle.scj_model.specs.Operations.{argument_count, super_count}
use Rattle.scope_flow.specs.Facts.{SuperCallFact, UnwrittenSuperFact}
use Rattle.scope_flow.specs.Signatures.{Signature}
use Rattle.flow_facts.proofs.ClassNodes.{ClassAt, class_node_is}
use Rattle.flow_facts.proofs.KnownParameters.{none_known}
use Rattle.flow_facts.proofs.SuperConstructors.{called}

empty_is : {A : Type 0} (xs : List A) → is_empty xs ≡ true → xs ≡ []
unfolding is_empty
empty_is [] e = refl
empty_is (x ∷ xs) e = absurd (true≢false (sym e))

and_false : (a b : Bool) → (a && b) ≡ false → a ≡ true → b ≡ false
and_false true b e h = e
and_false false b e h = absurd (true≢false (sym h))

some_there : {A : Type 0} (o : Option A) → is_some o ≡ true → (x : A) × (o ≡ Some x)
some_there None e = absurd (true≢false (sym e))
some_there (Some x) e = (x, refl)

class_no_other : (position : Position) (name : List ℕ) (flags header : Option ℕ) (members : List ℕ) →
    is_no_class (Class position name flags header members) ≡ false
unfolding is_no_class
class_no_other position name flags header members = refl

module _ (forest : Forest) (accepted : IsAccepted forest) (whole : IsForest forest) (sorted : IsWellSorted forest.nodes)
    (is_read : IsReadFromTexts forest) where
  abbrev p : Declarations
  p = declarations_of forest

  abbrev nodes : List Node
  nodes = forest.nodes

  abbrev code : Code
  code = record { program = p; bindings = bindings_in p }

  abbrev At : ℕ → ℕ → Type 0
  At c k = ClassAt forest accepted whole sorted c k

  -- ---- the superclass

  pub record HasSuper (c : ℕ) : Type 0 where
    pub superclass : ℕ
    pub up : superclass_in p.classes c ≡ Some superclass
    pub within : c < length p.classes
    pub above_within : superclass < length p.classes
    pub above : is_sub p.classes c superclass ≡ true

  above_is : (c superclass : ℕ) → c < length p.classes → superclass_in p.classes c ≡ Some superclass →
      is_sub p.classes c superclass ≡ true
  unfolding is_sub
  above_is c superclass l up =
      or_left (is_among superclass (superclasses p.classes c)) (is_among superclass (all_interfaces p.classes c))
      (ap (is_among superclass)
      (chain_is forest accepted c l
      ∙ ap (λ (o : Option ℕ). c ∷ (elim o as (λ _. List ℕ) [ None ↦ [] | Some b ↦ superclasses p.classes b ])) up)
      ∙ or_right (superclass == c) (is_among superclass (superclasses p.classes superclass))
      (ap (is_among superclass) (chain_is forest accepted superclass (counted-stays forest c superclass up))
      ∙ or_left (superclass == superclass) _ (is_same_number superclass superclass refl)))

  pub has_super : (c k : ℕ) → At c k → HasSuper c
  has_super c k a = go (superclass_in p.classes c) refl
    where
      l : c < length p.classes
      l = slice_get_within p.classes c a.row a.is_row

      go : (o : Option ℕ) → superclass_in p.classes c ≡ o → HasSuper c
      go None e =
          absurd (let top = object_alone_is_top forest accepted c l e in let n = a.user.number in omega (arith, top, n))
      go (Some s) e =
          record {
            superclass = s;
            up = e;
            within = l;
            above_within = counted-stays forest c s e;
            above = above_is c s l
                e;
          }

  -- ---- the rules on types at a class

  record ClassRules (c : ℕ) : Type 0 where
    fits : misfits_class p c ≡ false
    form : lacks_form p c ≡ false

  class_breaks_none : (k : ℕ) (position : Position) (name : List ℕ) (flags header : Option ℕ) (members : List ℕ) →
      type_breaks p (type_at_node p) k (Class position name flags header members) ≡ [] →
      (holds (class_number p.names name) (misfits_class p) ≡ false) ×
      (holds (class_number p.names name) (lacks_form p) ≡ false)
  unfolding type_breaks t1 t2 t3 t4 t5 t6 t7 t8 t9 t10 t11 t12 t13 t14
  class_breaks_none k position name flags header members e =
      let both = both_empty (broken (holds (class_number p.names name) (misfits_class p)) T6 position)
      (broken (holds (class_number p.names name) (lacks_form p)) T14 position) e in (
        right (holds (class_number p.names name) (misfits_class p)) T6 position both.0,
        right (holds (class_number p.names name) (lacks_form p)) T14 position both.1,
      )

  class_rules : (c k : ℕ) → At c k → ClassRules c
  class_rules c k a =
      let n = a.user.node in
      let name = name_denotes forest whole accepted sorted c a.row a.class a.is_row a.written in
      let e = class_breaks_none a.class.node n.position a.class.name n.flags n.header a.class.members
      (unbroken forest accepted whole sorted a.class.node
      (Class n.position a.class.name n.flags n.header a.class.members) n.is_there) in
      record {
        fits = sym (ap (λ (o : Option ℕ). holds o (misfits_class p)) name)
            ∙ e.0;
        form = sym (ap (λ (o : Option ℕ). holds o (lacks_form p)) name) ∙ e.1;
      }

  -- where a form is due there is one
  pub form_there : (c k superclass : ℕ) → At c k → superclass_in p.classes c ≡ Some superclass →
      has_form superclass ≡ true → (parts : List ℕ) × (form_in p c ≡ Some parts)
  form_there c k superclass a up form =
      some_there (form_in p c)
      (not_false (is_some (form_in p c)) (and_false (has_form superclass) (not (is_some (form_in p c)))
      (sym (ap (λ (o : Option ℕ). holds o has_form && not (is_some (form_in p c))) up) ∙ (class_rules c k a).form)
      form))

  -- ---- where it isn't written

  -- no super call is written in the class's constructor
  abbrev pub Unwritten : ℕ → Type 0
  Unwritten c = holds (constructor_in p.classes c) (λ (con : DeclaredConstructor). is_some con.super_call) ≡ false

  takes_nothing : (c k superclass : ℕ) → At c k → superclass_in p.classes c ≡ Some superclass → Unwritten c →
      constructor_parameters p.classes superclass ≡ []
  unfolding misfits_class
  takes_nothing c k superclass a up none =
      let both = or_false (calls_unwritten p c && holds (superclass_in p.classes c) (takes_arguments p))
      (is_concrete_safelet p c && takes_arguments p c) (class_rules c k a).fits in
      let takes =
      and_false (calls_unwritten p c) (takes_arguments p superclass)
      (ap (λ (o : Option ℕ). calls_unwritten p c && holds o (takes_arguments p)) (sym up) ∙ both.0) (ap not none) in
      empty_is (constructor_parameters p.classes superclass)
      (not_false (is_empty (constructor_parameters p.classes superclass)) takes)

  nothing_taken : (superclass : ℕ) → constructor_parameters p.classes superclass ≡ [] → ConstructorTakes p superclass []
  nothing_taken superclass e = record { are = ap (map (kind_of_constructor_parameter p superclass)) e }

  no_form : (c k superclass : ℕ) → At c k → superclass_in p.classes c ≡ Some superclass → has_form superclass ≡ true →
      Unwritten c → ⊥
  no_form c k superclass a up form none =
      let parts = form_there c k superclass a up form in
      let f = form_of forest whole accepted c parts.0 parts.1 in
      true≢false
      (sym
      (ap (λ (o : Option DeclaredConstructor). holds o (λ (con : DeclaredConstructor). is_some con.super_call))
      f.is_constructor ∙ ap is_some f.are_arguments) ∙ none)

  class_bound : (c k superclass : ℕ) → At c k → superclass_in p.classes c ≡ Some superclass →
      binding_at_node p k ≡ ClassNamed superclass
  unfolding binding_of
  class_bound c k superclass a up =
      let n = a.user.node in
      let name = name_denotes forest whole accepted sorted c a.row a.class a.is_row a.written in
      ap (binding_at_node p) (sym a.node) ∙ binding_is forest accepted whole sorted a.class.node
      (Class n.position a.class.name n.flags n.header a.class.members) n.is_there
      ∙ ap (λ (o : Option ℕ). class_binding (option_and_then (superclass_in p.classes) o)) name ∙ ap class_binding up

  no_count : (c k : ℕ) → At c k → super_count code k ≡ 0
  unfolding argument_count declarations_of
  no_count c k a =
      let n = a.user.node in
      ap (super_count code) (sym a.node)
      ∙ ap
      (λ (o : Option Node). elim (option_and_then argument_count o) as (λ _. ℕ) [ None ↦ 0 | Some count ↦ count ])
      n.is_there

  nothing_fits : (home : Scope) → AllFitAsSeen p [] (seen_kinds home home [])
  unfolding seen_kinds
  nothing_fits home = tt

  pub home_named : (c : ℕ) (home : Scope) → this_in p c ≡ Some home → NamesArea home
  home_named c home e = this_named p home c e

  pub unwritten_super_fact : (b c k node : ℕ) (sig : Signature) → At c k → Unwritten c →
      this_in p c ≡ Some sig.runs_in → class_node p c ≡ Some node → UnwrittenSuperFact code b c sig node
  unwritten_super_fact b c k node sig a none home is =
      subst (UnwrittenSuperFact code b c sig)
      (some_inj k node (sym (class_node_is forest accepted whole sorted c k a) ∙ is)) at_class
    where
      s : HasSuper c
      s = has_super c k a

      last_none : (context p k).last ≡ None
      last_none =
          (let n = a.user.node in ap (λ k. (context p k).last) (sym a.node)
          ∙ ap (λ (c : Context). c.last)
          (class_outermost forest whole sorted a.class.node
          (Class n.position a.class.name n.flags n.header a.class.members) n.is_there
          (class_no_other n.position a.class.name n.flags n.header a.class.members)))

      user_part : is_user_class s.superclass ≡ true → SuperCallFact code b c sig k [] s.superclass
      user_part user =
          record {
            kinds = [];
            arguments_are = tt;
            above = s.above;
            constructor =
                called forest accepted whole sorted is_read s.superclass sig.runs_in [] [] s.above_within user
                (nothing_taken s.superclass (takes_nothing c k s.superclass a s.up none)) (home_named c sig.runs_in home)
                (nothing_fits sig.runs_in);
          }

      at_class : UnwrittenSuperFact code b c sig k
      at_class =
          record {
            count = no_count c k a;
            known = none_known forest accepted whole sorted [] k last_none;
            super_fact =
                record {
                  superclass = s.superclass;
                  is = class_bound c k s.superclass a s.up;
                  user = user_part;
                  form = λ e form. absurd (no_form c k s.superclass a s.up form none);
                };
          }
