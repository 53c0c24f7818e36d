-- New objects: they lie in the current scope, and their constructors take the arguments.
use Rattle.std.proofs.Common.{◌≡◌, ℕ, List, [], ◌∷◌, refl, sym, ap, ◌∙◌, subst, Option, Some, None, Bool, true, false, not, ◌||◌, ◌&&◌, ◌==◌, true≢false, ◌⊎◌, inl, inr, option_and_then, option_map, slice_get, if◌then◌else◌}
use Rattle.scj_base.specs.declared.positions.Position.{Position}
use Rattle.scj_builtins.specs.Framework.{object}
use Rattle.scj_tree.specs.declared.nodes.Node.{Node}
use Rattle.scj_tree.specs.declared.nodes.Node.TheVariants.{New}
use Rattle.scj_tree.specs.Forest.{Forest, IsForest}
use Rattle.scj_tree.specs.Shape.{children}
use Rattle.scj_rules.specs.declared.typing.Scope.{Scope}
use Rattle.scj_rules.specs.declared.typing.Scope.TheVariants.{This}
use Rattle.scj_rules.specs.declared.typing.Ty.{Ty}
use Rattle.scj_rules.specs.declared.typing.Ty.TheVariants.{Class as ClassTy}
use Rattle.scj_rules.specs.declared.views.Body.{Body}
use Rattle.scj_rules.specs.declared.views.Body.TheVariants.{Written, Empty}
use Rattle.scj_rules.specs.declared.views.Declared.{Declared}
use Rattle.scj_rules.specs.Words.{is_among, holds}
use Rattle.scj_rules.specs.Views.{DeclaredConstructor}
use Rattle.scj_rules.specs.Bodies.{constructor_body, class_node}
use Rattle.scj_rules.specs.CheckedProgram.{IsReadFromTexts}
use Rattle.scj_rules.specs.Classes.{ClassRow, class_number, is_user_class}
use Rattle.scj_rules.specs.Contexts.{Declarations, declarations_of, object_of, declared_before}
use Rattle.scj_rules.specs.StaticScopes.{this_in, current_in}
use Rattle.scj_rules.specs.Types.{all_types, accepts_arguments, constructor_in, constructor_parameters, is_form_part}
use Rattle.scj_rules.specs.TypeRules.{Types, type_of, misfits_constructor, misfits_form_part, misfits_new, class_type_named}
use Rattle.scj_rules.specs.Phases.{IsAccepted}
use Rattle.scj_rules.proofs.ChainLemmas.{is_same_number}
use Rattle.accepted_laws.specs.Judgements.{type_at_node, Inside, Judged}
use Rattle.accepted_laws.specs.Kinds.{Kind, reference, seen_kinds, AllFit, NamesArea}
use Rattle.accepted_laws.specs.Sorts.{HasRightChildren, IsWellSorted, is_argument, is_expression}
use Rattle.accepted_laws.proofs.RealScopes.{current_named}
use Rattle.accepted_laws.proofs.Tools.{some_inj}
use Rattle.accepted_nodes.proofs.FormParts.{takes_parts}
use Rattle.accepted_nodes.proofs.ScopesComplete.{of_option, arguments_typed}
use Rattle.accepted_nodes.proofs.TypeBreaks.{right_new}
use Rattle.accepted_nodes.proofs.TypesComplete.{type_is, unbroken, ValueAt, child_at, all_of}
use Rattle.accepted_nodes.proofs.ValueFacts.{typed_of}
use Rattle.accepted_facts.specs.Calls.{AllFitAsSeen, ConstructorTakes, PassesToConstructor}
use Rattle.accepted_facts.proofs.NewFacts.{new_facts}
use Rattle.accepted_facts.proofs.StatementFacts.{not_false, fits_go}
use Rattle.scj_model.specs.Code.{Code, code_of}
use Rattle.scope_flow.specs.Needs.{CallsConstructor}
use Rattle.scope_flow.specs.Signatures.{Signature, IsBody, Runs, empty_signature, LiesHere, SlotsReach}
use Rattle.scope_flow.specs.ValueFacts.{HaveValues, NewFact}
use Rattle.flow_facts.proofs.ArrayClasses.{differ}
use Rattle.flow_facts.proofs.Arrays.{is_current}
use Rattle.flow_facts.proofs.Bodies.{AllReal, taken_real, signature}
use Rattle.flow_facts.proofs.ConcreteClasses.{IsWritten, concrete_is}
use Rattle.flow_facts.proofs.Constructors.{constructs}
use Rattle.flow_facts.proofs.FrameworkRows.{object_of_framework}
use Rattle.flow_facts.proofs.GivenKinds.{gives_value, valued}
use Rattle.flow_facts.proofs.Literals.{values_of}
use Rattle.flow_facts.proofs.SlotScopes.{slots_reach}

-- ---- arguments

-- arguments that fit as they are seen go to what is taken
pub all_go : (p : Declarations) (home now : Scope) (js ks : List Kind) → AllReal ks → NamesArea now →
    AllFitAsSeen p js (seen_kinds home now ks) → AllFit p home now js ks
unfolding seen_kinds
all_go p home now [] [] r n h = tt
all_go p home now (j ∷ js) (k ∷ ks) r n h = (fits_go p home now j k r.0 n h.0, all_go p home now js ks r.1 n h.1)
all_go p home now [] (k ∷ ks) r n h = absurd h
all_go p home now (j ∷ js) [] r n h = absurd h

-- the current scope names an area
pub names_now : (p : Declarations) (b c : ℕ) (now : Scope) → current_in p c b ≡ Some now → NamesArea now
names_now p b c now e = current_named p now c b e

no_types : (p : Declarations) (ts : List Ty) → accepts_arguments p [] ts ≡ true → ts ≡ []
unfolding accepts_arguments
no_types p [] e = refl
no_types p (t ∷ ts) e = absurd (true≢false (sym e))

no_arguments : (types : Types) (xs : List ℕ) → all_types types xs ≡ Some [] → xs ≡ []
unfolding all_types
no_arguments types [] e = refl
no_arguments types (x ∷ xs) e =
    let a = of_option (types x) (λ t. option_map (λ ts. t ∷ ts) (all_types types xs)) [] e in
    absurd (go (all_types types xs) a.0 a.2)
  where
    go : (o : Option (List Ty)) (t : Ty) → option_map (λ ts. t ∷ ts) o ≡ Some [] → ⊥
    go None t e = cc (e)
    go (Some ts) t e = (let f : t ∷ ts ≡ [] = some_inj (t ∷ ts) [] e in cc (f))

module _ (forest : Forest) (accepted : IsAccepted forest) (whole : IsForest forest) (sorted : IsWellSorted forest.nodes)
    (is_read : IsReadFromTexts forest) where
  abbrev p : Declarations
  p = declarations_of forest

  abbrev types : Types
  types = type_at_node p

  abbrev code : Code
  code = code_of forest

  -- ---- the constructor that is called

  -- of a user class
  pub user_constructor : (class : ℕ) (home : Scope) (given taken : List Kind) → IsWritten p class →
      is_user_class class ≡ true → ConstructorTakes p class taken → NamesArea home →
      AllFitAsSeen p given (seen_kinds home home taken) → CallsConstructor p class home given
  unfolding Runs
  user_constructor class home given taken w user t real fit =
      let k = constructs forest accepted whole sorted is_read class w.row w.declared taken w.stands w.is t in
      let other : (class == object) ≡ false = differ class object (λ e. true≢false (sym user ∙ ap is_user_class e)) in
      record {
        body = Written k.b;
        is = k.is other;
        sig = signature taken None k.home;
        runs = k.body;
        gives_nothing = refl;
        runs_in_home = inr k.is_home;
        fit = all_go p home home given taken (taken_real p _ taken k.takes) real fit;
      }

  -- and Object's, which is empty
  pub object_constructor : (class : ℕ) (home : Scope) → class ≡ object → CallsConstructor p class home []
  unfolding Runs constructor_body
  object_constructor class home e =
      record {
        body = Empty;
        is = ap
            (λ t. if t then Some Empty else (elim (constructor_in p.classes class) as (λ _. Option Body)
            [ Some c ↦ Some (Written c.node) | None ↦ option_map (λ node. Written node) (class_node p class) ]))
            (is_same_number class object e);
        sig = empty_signature;
        runs = (e, refl);
        gives_nothing = refl;
        runs_in_home = inl refl;
        fit = tt;
      }

  object_takes_none : constructor_parameters p.classes object ≡ []
  unfolding constructor_parameters constructor_in
  object_takes_none =
      let r = object_of_framework forest accepted whole sorted in
      ap (λ (o : Option ClassRow). elim
      (option_and_then
      (λ (row : ClassRow). elim row.constructors as (λ _. Option DeclaredConstructor)
      [ [] ↦ None | c ∷ cs ↦ Some c ]) o) as (λ _. List Declared) [ None ↦ [] | Some c ↦ c.parameters ]) r.1
      ∙ ap (λ (cs : List DeclaredConstructor). elim
      (elim cs as (λ _. Option DeclaredConstructor) [ [] ↦ None | c ∷ cs ↦ Some c ]) as (λ _. List Declared)
      [ None ↦ [] | Some c ↦ c.parameters ]) r.2.constructs_nothing

  -- Object is made without arguments
  none_passed : (b c id : ℕ) (position name_position : Position) (name arguments : List ℕ) (class : ℕ) →
      slice_get forest.nodes id ≡ Some (New position name_position name arguments) → Inside p b c id →
      is_form_part p id ≡ false → class_number p.names name ≡ Some class → class ≡ object → arguments ≡ []
  unfolding children is_argument is_expression object_of takes_parts HasRightChildren declared_before misfits_new
  none_passed b c id position name_position name arguments class there inside part n e =
      let node : Node = New position name_position name arguments in
      let s = sorted.each id node there in
      let values : (x : ℕ) → is_among x arguments ≡ true → ValueAt forest accepted whole sorted b c id x =
      λ x among. child_at forest accepted whole sorted b c id node there inside refl x among
      (all_of forest accepted whole sorted x arguments s among) refl part in
      let ts = arguments_typed forest accepted whole sorted b c id arguments values in
      let w = right_new p types id position name_position name arguments (unbroken forest accepted whole sorted id node there)
      in
      let fit : accepts_arguments p (constructor_parameters p.classes class) ts.0 ≡ true =
      not_false _
      (sym
      (ap (λ t. if t then misfits_form_part p types arguments else holds (class_number p.names name)
      (misfits_constructor p types arguments)) part
      ∙ ap (λ (o : Option ℕ). holds o (misfits_constructor p types arguments)) n
      ∙ ap (λ t. (is_user_class class || t)
      && holds (all_types types arguments)
      (λ ts. not (accepts_arguments p (constructor_parameters p.classes class) ts))) (is_same_number class object e)
      ∙ ap (λ t. t
      && holds (all_types types arguments)
      (λ ts. not (accepts_arguments p (constructor_parameters p.classes class) ts))) (or_true (is_user_class class))
      ∙ ap (λ (o : Option (List Ty)). holds o
      (λ ts. not (accepts_arguments p (constructor_parameters p.classes class) ts))) ts.1) ∙ w.arguments_fit) in
      let none : accepts_arguments p [] ts.0 ≡ true =
      sym (ap (λ ds. accepts_arguments p ds ts.0) (ap (constructor_parameters p.classes) e ∙ object_takes_none))
      ∙ fit in
      no_arguments types arguments (ts.1 ∙ ap (λ ts. Some ts) (no_types p ts.0 none))
    where
      or_true : (t : Bool) → (t || true) ≡ true
      or_true true = refl
      or_true false = refl

  -- ---- `new`

  -- what has a type is no part of a form
  no_part : (id : ℕ) (position name_position : Position) (name arguments : List ℕ) (k : Kind) →
      slice_get forest.nodes id ≡ Some (New position name_position name arguments) → Judged p id (Some k) →
      is_form_part p id ≡ false
  unfolding Judged type_of
  no_part id position name_position name arguments k there j =
      let t = typed_of (types id) _ k j in
      go (is_form_part p id) t.0
      (sym (type_is forest accepted whole sorted id (New position name_position name arguments) there) ∙ t.1)
    where
      go : (x : Bool) (t : Ty) →
          (if x then None else option_and_then (λ ts. class_type_named p name) (all_types types arguments)) ≡ Some t →
          x ≡ false
      go true t e = absurd (cc (e))
      go false t e = refl

  lies_here : (class : ℕ) (now : Scope) → (this_in p class ≡ Some This) ⊎ (this_in p class ≡ Some now) →
      LiesHere p class now
  lies_here class now (inl h) home e = inl (some_inj home This (sym e ∙ h))
  lies_here class now (inr h) home e = inr (some_inj home now (sym e ∙ h))

  record Constructed (b c id class : ℕ) (arguments : List ℕ) (now : Scope) : Type 0 where
    kinds : List Kind
    arguments_are : HaveValues p b c id arguments kinds
    constructor : CallsConstructor p class now kinds

  of_user : (b c id : ℕ) (arguments : List ℕ) (class : ℕ) (now : Scope) → IsWritten p class →
      is_user_class class ≡ true → PassesToConstructor p b c id class arguments now → NamesArea now →
      Constructed b c id class arguments now
  of_user b c id arguments class now w user t real =
      let q = t.passes in
      record {
        kinds = q.given;
        arguments_are = values_of p b c id arguments q.given q.operands;
        constructor = user_constructor class now q.given t.taken w user t.takes real q.fit;
      }

  of_object : (b c id : ℕ) (arguments : List ℕ) (class : ℕ) (now : Scope) → arguments ≡ [] → class ≡ object →
      Constructed b c id class arguments now
  of_object b c id arguments class now none e =
      record {
        kinds = [];
        arguments_are = subst (λ xs. HaveValues p b c id xs [])
            (sym none) tt;
        constructor = object_constructor class now e;
      }

  pub new_fact : (b c : ℕ) (sig : Signature) (id : ℕ) (position name_position : Position) (name arguments : List ℕ)
      (o : Option Kind) → IsBody p b c sig → slice_get forest.nodes id ≡ Some (New position name_position name arguments) →
      Inside p b c id → Judged p id o → NewFact code b c sig id arguments o
  unfolding code_of gives_value
  new_fact b c sig id position name_position name arguments o body there inside j =
      let v = valued forest accepted whole sorted id (New position name_position name arguments) o there refl j in
      let part = no_part id position name_position name arguments v.0 there v.2 in
      let f = new_facts forest accepted whole sorted b c id position name_position name arguments v.0 there inside part v.2 in
      let now : f.now ≡ sig.runs_in = is_current forest accepted whole sorted b c sig f.now body f.is_now in
      let k : Constructed b c id f.class arguments f.now =
      elim (concrete_is forest accepted whole sorted f.class f.concrete) as
      (λ z. Constructed b c id f.class arguments f.now) [
        | inl w ↦ (let user = w.is_users in of_user b c id arguments f.class f.now w user (f.passes user)
            (names_now p b c f.now f.is_now))
        | inr e ↦ of_object b c id arguments f.class f.now
            (none_passed b c id position name_position name arguments f.class there inside part f.named e) e
      ] in
      record {
        class = f.class;
        is = f.binding;
        is_concrete = f.concrete;
        lies = subst (LiesHere p f.class) now (lies_here f.class f.now f.lies);
        reach =
            subst (SlotsReach p f.class) now (slots_reach forest accepted whole sorted f.class f.now f.is_class f.lies);
        kinds = k.kinds;
        arguments_are = k.arguments_are;
        constructor = subst (λ s. CallsConstructor p f.class s k.kinds) now k.constructor;
        is_given = v.1 ∙ ap (λ k. Some k) (f.gives ∙ ap (reference (ClassTy f.class)) now);
      }
