-- An accepted program is as the pass asks, and as the theorems on its answers do.
use Rattle.std.specs.Prelude.{Option, Some, None, slice_get, if◌then◌else◌, codes}
use Rattle.std.proofs.lemmas.Option.{slice_get_within}
use Rattle.std.proofs.Common.{◌≡◌, ℕ, ◌<◌, ◌==◌, length, true, false, inl, inr, refl, ◌∙◌, ap, arith}
use Rattle.scj_builtins.specs.Framework.{aperiodic_handler, mission_clean_up, periodic_handler}
use Rattle.scj_tree.specs.declared.nodes.Node.{Node}
use Rattle.scj_tree.specs.declared.nodes.Node.TheVariants.{Number}
use Rattle.scj_tree.specs.Forest.{Forest}
use Rattle.scj_rules.specs.declared.views.Body.{Body}
use Rattle.scj_rules.specs.declared.views.Body.TheVariants.{Written, Empty}
use Rattle.scj_rules.specs.Bodies.{body_named, body_of_method, number_literal}
use Rattle.scj_rules.specs.Classes.{FoundMethod, method_named, result_written, superclasses}
use Rattle.scj_rules.specs.Contexts.{Declarations, declarations_of}
use Rattle.scj_rules.specs.Definitions.{read}
use Rattle.scj_rules.specs.ScopeRules.{is_handler}
use Rattle.scj_rules.specs.Types.{kind_is, is_concrete}
use Rattle.scj_rules.specs.Views.{method_of}
use Rattle.scj_rules.specs.Words.{is_among, ◌>>=◌}
use Rattle.scj_rules.proofs.ChainLemmas.{or_cases}
use Rattle.accepted_laws.specs.Overriding.{IsUserMethod}
use Rattle.accepted_laws.specs.Programs.{IsAcceptedProgram}
use Rattle.accepted_laws.specs.Sorts.{IsWellSorted}
use Rattle.accepted_laws.proofs.ClassSorts.{well_sorted}
use Rattle.accepted_laws.proofs.Tools.{some_inj}
use Rattle.accepted_nodes.proofs.FormParts.{bound}
use Rattle.value_operators.specs.Literals.{HasInt}
use Rattle.source_nodes.proofs.Reading.{numbers_are_ints}
use Rattle.scj_model.specs.Code.{code_of}
use Rattle.mission_facts.proofs.FrameworkTable.{handle_aperiodic, handle_aperiodic_there, handle_periodic, handle_periodic_there}
use Rattle.mission_facts.proofs.MethodsUnder.{IsAsked, concrete_under, implements_below}
use Rattle.memory_needs.specs.Need.{too_much}
use Rattle.memory_needs.specs.Reach.{handler_body}
use Rattle.memory_needs.specs.WellFormed.{IsWellFormed}
use Rattle.memory_bounds.proofs.BareEntries.{no_bare_entry}
use Rattle.memory_bounds.proofs.HandlerClasses.{listed_is}
use Rattle.memory_bounds.proofs.Programs.{first}
use Rattle.memory_bounds.proofs.StoredForms.{has_storage}
use Rattle.memory_bounds.proofs.Suffices.{IsPlain}

number_small : (node : Node) (n : ℕ) → HasInt node → number_literal node ≡ Some n → n < too_much
unfolding number_literal HasInt
number_small (Number position value true) n h e = absurd (cc (e))
number_small (Number position value false) n h e = (let same = some_inj value n e in omega (arith, h, same))
number_small _ n h e = absurd (cc (e))

module _ (forest : Forest) (a : IsAcceptedProgram forest) where
  abbrev p : Declarations
  p = declarations_of forest

  sorted : IsWellSorted forest.nodes
  sorted = well_sorted forest a.is_read

  numbers : (id n : ℕ) → read p.nodes number_literal id ≡ Some n → n < too_much
  unfolding declarations_of
  numbers id n e = of (slice_get forest.nodes id) refl e
    where
      of : (o : Option Node) → slice_get forest.nodes id ≡ o → o >>= number_literal ≡ Some n → n < too_much
      of None there k = absurd (cc (k))
      of (Some node) there k =
          number_small node n (numbers_are_ints a.is_read.texts forest a.is_read.reads id node there) k

  -- ---- the body of handleAsyncEvent

  record Handled (class : ℕ) : Type 0 where
    node : ℕ
    is : body_named p class (codes "handleAsyncEvent") ≡ Some (Written node)
    within : node < length p.nodes

  asks_periodic : IsAsked forest a.is_accepted a.whole sorted a.is_read handle_periodic
  unfolding result_written
  asks_periodic = record {
    there = handle_periodic_there;
    few = omega arith;
    is_abstract = refl;
    takes_none = refl;
    not_long = λ e. cc (e);
  }

  asks_aperiodic : IsAsked forest a.is_accepted a.whole sorted a.is_read handle_aperiodic
  unfolding result_written
  asks_aperiodic = record {
    there = handle_aperiodic_there;
    few = omega arith;
    is_abstract = refl;
    takes_none = refl;
    not_long = λ e. cc (e);
  }

  body_of_user : (class : ℕ) (f : FoundMethod) → method_named p.classes class (codes "handleAsyncEvent") ≡ Some f →
      IsUserMethod p f → Handled class
  unfolding body_named body_of_method
  body_of_user class f is user =
      (let there = bound (slice_get p.nodes f.method.declared.node) (method_of p.nodes f.method.declared.node) f.method
      user.is_there in
      record {
        node = f.method.declared.node;
        is = ap (λ (o : Option FoundMethod). o >>= body_of_method) is
            ∙ ap (λ (o : Option ℕ). elim o as (λ z. Option Body) [
              | None ↦ Some (Written f.method.declared.node)
              | Some method ↦ if method == mission_clean_up then Some Empty else None
            ]) user.not_builtin;
        within = slice_get_within p.nodes f.method.declared.node there.0 there.1;
      })

  handled : (class : ℕ) → kind_is is_concrete p class ≡ true → is_handler p class ≡ true → Handled class
  handled class concrete handler =
      elim (or_cases (is_among periodic_handler (superclasses p.classes class))
      (is_among aperiodic_handler (superclasses p.classes class)) handler) as (λ z. Handled class) [
        | inl among ↦
            (let w = concrete_under forest a.is_accepted a.whole sorted a.is_read class periodic_handler
            (λ e. omega (arith, e)) concrete among in
            let x = implements_below forest a.is_accepted a.whole sorted a.is_read class handle_periodic w asks_periodic
            among in
            body_of_user class x.method x.is x.is_user)
        | inr among ↦
            (let w = concrete_under forest a.is_accepted a.whole sorted a.is_read class aperiodic_handler
            (λ e. omega (arith, e)) concrete among in
            let x = implements_below forest a.is_accepted a.whole sorted a.is_read class handle_aperiodic w
            asks_aperiodic among in
            body_of_user class x.method x.is x.is_user)
      ]

  pub well_formed : IsWellFormed (code_of forest)
  unfolding code_of handler_body
  well_formed = record {
    small = numbers;
    handles = λ class c. (let k = listed_is p class c in let h = handled class k.concrete k.handler in
        (h.node, h.is, h.within));
    stored = λ class c. (let k = listed_is p class c in has_storage forest a class k.concrete k.handler);
  }

  pub is_plain : IsPlain (code_of forest)
  unfolding code_of declarations_of
  is_plain = record {
    first = first forest a;
    small = numbers;
    sized = λ id position name object x there bound enters. no_bare_entry forest a id position name object x there enters bound;
  }
