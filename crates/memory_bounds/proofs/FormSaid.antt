-- In an accepted program the last argument of a form is the storage that is told of the classes under it.
use Rattle.std.specs.Prelude.{Option, Some, None, if◌then◌else◌, option_map, slice_get}
use Rattle.std.proofs.lemmas.Option.{slice_get_within}
use Rattle.std.proofs.Common.{◌≡◌, ℕ, ◌<◌, ◌==◌, not, ◌&&◌, ◌||◌, List, [], ◌∷◌, ◌++◌, length, Bool, true, false, refl, sym, ◌∙◌, ap, subst, true≢false}
use Rattle.scj_base.specs.declared.positions.Position.{Position}
use Rattle.scj_builtins.specs.Framework.{mission_sequencer, priority_parameters, storage_parameters}
use Rattle.scj_tree.specs.declared.nodes.Node.{Node}
use Rattle.scj_tree.specs.declared.nodes.Node.TheVariants.{Constructor, New, SuperCall}
use Rattle.scj_tree.specs.Forest.{Forest}
use Rattle.scj_tree.specs.Shape.{children}
use Rattle.scj_rules.specs.declared.contexts.Context.{Context}
use Rattle.scj_rules.specs.declared.typing.Binding.TheVariants.{Plain}
use Rattle.scj_rules.specs.Words.{holds, is_among, or_else, ◌>>=◌}
use Rattle.scj_rules.specs.Bindings.{binding_of, bindings_in, class_binding}
use Rattle.scj_rules.specs.Bodies.{class_of_body, number_literal}
use Rattle.scj_rules.specs.Classes.{ClassRow, class_number, is_sub, superclass_in}
use Rattle.scj_rules.specs.Contexts.{Declarations, child_context, context, declarations_of, is_member, is_super_call}
use Rattle.scj_rules.specs.Definitions.{read}
use Rattle.scj_rules.specs.Types.{constructor_in, form_in, form_parts, has_form, have_priority_and_storage, is_form_part, is_new, release_part}
use Rattle.scj_rules.specs.Views.{DeclaredConstructor, constructor_of, modifiers_at, parameters_at, super_arguments}
use Rattle.scj_rules.proofs.ChainLemmas.{is_same_number}
use Rattle.accepted_laws.specs.Judgements.{binding_at_node}
use Rattle.accepted_laws.specs.Programs.{IsAcceptedProgram}
use Rattle.accepted_laws.specs.Sorts.{IsWellSorted}
use Rattle.accepted_laws.proofs.ClassNumbers.{no_class_number}
use Rattle.accepted_laws.proofs.ClassSorts.{well_sorted}
use Rattle.accepted_laws.proofs.Contexts.{child_context_is}
use Rattle.accepted_laws.proofs.InnerNodes.{is_no_class}
use Rattle.accepted_laws.proofs.MethodNodes.{and_true}
use Rattle.accepted_laws.proofs.Tools.{some_inj}
use Rattle.accepted_laws.proofs.TypesBelow.{BehindChildren}
use Rattle.accepted_nodes.proofs.FormParts.{HasForm, bound, form_of, if_some}
use Rattle.accepted_facts.proofs.NameFacts.{binding_is}
use Rattle.flow_facts.proofs.ClassNodes.{MemberAt, member_at}
use Rattle.flow_facts.proofs.OneConstructor.{one_constructor}
use Rattle.scj_model.specs.Code.{Code, binding}
use Rattle.scj_model.specs.Operations.{bound_class}
use Rattle.scope_flow.specs.Facts.{EntryFact, Facts, WrittenSuperFact}
use Rattle.scope_flow.specs.Needs.{IsSuperCall, super_call_of}
use Rattle.scope_flow.specs.Signatures.{IsBody, Signature}
use Rattle.memory_needs.specs.Causes.{class_with_form, only_argument, storage, storage_node}
use Rattle.memory_bounds.proofs.FormClass.{one_class}
use Rattle.memory_bounds.proofs.Forms.{FormSays}
use Rattle.memory_bounds.proofs.FormStorage.{part_leaves, storage_last}
use Rattle.memory_bounds.proofs.FormWays.{before_others, behind_others, call_stands, up_of_call}

-- ---- nodes

constructor_with : (node : Node) (id : ℕ) → super_call_of node ≡ Some id →
    (position : Position) × (name : List ℕ) × (flags parameters : Option ℕ) × (inner : ℕ) ×
    (node ≡ Constructor position name flags parameters (Some id) inner)
unfolding super_call_of
constructor_with (Constructor position name flags parameters call inner) id e =
    (position, name, flags, parameters, inner, ap (λ (o : Option ℕ). Constructor position name flags parameters o inner) e)
constructor_with _ id e = absurd (cc (e))

only_new : (node : Node) (argument : ℕ) → only_argument node ≡ Some argument →
    (position name_position : Position) × (name : List ℕ) × (node ≡ New position name_position name (argument ∷ []))
unfolding only_argument
only_new (New position name_position name (x ∷ [])) argument e =
    (position, name_position, name, ap (λ (y : ℕ). New position name_position name (y ∷ [])) (some_inj x argument e))
only_new _ argument e = absurd (cc (e))

second_among : (x : ℕ) (parts : List ℕ) → slice_get parts 1 ≡ Some x → is_among x parts ≡ true
second_among x [] e = absurd (cc (e))
second_among x (y ∷ []) e = absurd (cc (e))
second_among x (y ∷ (z ∷ parts)) e = go (x == y)
  where
    same : (x == z) ≡ true
    same = is_same_number x z (sym (some_inj z x e))

    go : (t : Bool) → (t || ((x == z) || is_among x parts)) ≡ true
    go true = refl
    go false = ap (λ t. t || is_among x parts) same

-- ---- the arguments of a form

pub record LastIs (p : Declarations) (arguments parts : List ℕ) : Type 0 where
  pub front : List ℕ
  pub last : ℕ
  pub are : arguments ≡ front ++ last ∷ []
  pub second : slice_get parts 1 ≡ Some last
  pub storage : is_new p storage_parameters 1 last ≡ true

-- where the parts are those of a form, the last argument is `new StorageParameters(..)`
said : (p : Declarations) (priority storage : ℕ) (b : Bool) →
    (b && have_priority_and_storage p priority storage) ≡ true → is_new p storage_parameters 1 storage ≡ true
said p priority storage true e =
    (and_true (is_new p priority_parameters 1 priority) (is_new p storage_parameters 1 storage) e).1
said p priority storage false e = absurd (true≢false (sym e))

pub last_is : (p : Declarations) (superclass : ℕ) (arguments parts : List ℕ) →
    form_parts p superclass arguments ≡ Some parts → LastIs p arguments parts
unfolding form_parts
last_is p superclass (priority ∷ storage ∷ []) parts e =
    let q = if_some ((superclass == mission_sequencer) && have_priority_and_storage p priority storage)
    (Some (priority ∷ storage ∷ [])) parts e in
    record {
      front = priority ∷ [];
      last = storage;
      are = refl;
      second = ap (λ (xs : List ℕ). slice_get xs 1) (sym (some_inj (priority ∷ storage ∷ []) parts q.1));
      storage = said p priority storage (superclass == mission_sequencer) q.0;
    }
last_is p superclass (priority ∷ release ∷ storage ∷ []) parts e =
    (let q = if_some (not (superclass == mission_sequencer) && have_priority_and_storage p priority storage)
    (option_map (λ parts. priority ∷ storage ∷ parts) (release_part p superclass release)) parts e in
    of (said p priority storage (not (superclass == mission_sequencer)) q.0) (release_part p superclass release) q.1)
  where
    of : is_new p storage_parameters 1 storage ≡ true → (o : Option (List ℕ)) →
        option_map (λ (parts : List ℕ). priority ∷ storage ∷ parts) o ≡ Some parts →
        LastIs p (priority ∷ release ∷ storage ∷ []) parts
    of new None k = absurd (cc (k))
    of new (Some rest) k = record {
      front = priority ∷ release ∷ [];
      last = storage;
      are = refl;
      second = ap (λ (xs : List ℕ). slice_get xs 1) (sym (some_inj (priority ∷ storage ∷ rest) parts k));
      storage = new;
    }
last_is p superclass _ parts e = absurd (cc (e))

module _ (forest : Forest) (a : IsAcceptedProgram forest) where
  abbrev p : Declarations
  p = declarations_of forest

  abbrev code : Code
  code = record { program = p; bindings = bindings_in p }

  sorted : IsWellSorted forest.nodes
  sorted = well_sorted forest a.is_read

  module _ (facts : Facts code) (behind : BehindChildren p) (b c : ℕ) (sig : Signature) (body : IsBody p b c sig)
      (id : ℕ) (call : IsSuperCall p b id) (superclass : ℕ) (bound_to : bound_class (binding code id) ≡ Some superclass)
      (form : has_form superclass ≡ true) where
    -- the constructor
    abbrev k : (position : Position) × (name : List ℕ) × (flags parameters : Option ℕ) × (inner : ℕ) ×
        (call.node ≡ Constructor position name flags parameters (Some id) inner)
    k = constructor_with call.node id call.is_call

    abbrev node : Node
    node = Constructor k.0 k.1 k.2 k.3 (Some id) k.4

    there : slice_get p.nodes b ≡ Some node
    there = call.is_body ∙ ap (λ (n : Node). Some n) k.5

    entry : EntryFact code b c sig node
    entry =
        subst (EntryFact code b c sig) (some_inj body.node node (sym body.is_there ∙ there)) (facts.entries b c sig body)

    class_is : class_of_body p b ≡ Some c
    unfolding EntryFact
    class_is = entry.0.is_class

    written : WrittenSuperFact code b c sig id
    unfolding EntryFact
    written = entry.0.super_fact

    up : superclass_in p.classes c ≡ Some superclass
    unfolding bound_class declarations_of
    up =
        up_of_call forest a b c id written.super_fact.superclass k.0 k.1 k.2 k.3 k.4 class_is there call.position call.arguments
        call.is_there written.super_fact.is
        ∙ (sym (ap bound_class written.super_fact.is) ∙ bound_to)

    within : c < length p.classes
    within =
        (let row = bound (slice_get p.classes c) (λ (row : ClassRow). row.superclass) superclass up in
        slice_get_within p.classes c row.0 row.1)

    -- its arguments are those of the class's form
    same_arguments : (parts : List ℕ) (f : HasForm forest a.whole a.is_accepted c parts) → f.arguments ≡ call.arguments
    unfolding constructor_of super_arguments declarations_of is_member
    same_arguments parts f =
        some_inj f.arguments call.arguments
        (sym f.are_arguments
        ∙ (ap (λ (o : Option DeclaredConstructor). elim o as (λ z. Option (List ℕ)) [ None ↦ None | Some x ↦ x.super_call ])
        (sym f.is_constructor ∙ mine)
        ∙ ap (λ (o : Option Node). o >>= super_arguments) call.is_there))
      where
        con : DeclaredConstructor
        con = record {
          node = b;
          position = k.0;
          name = k.1;
          modifiers = modifiers_at p.nodes k.2;
          parameters = parameters_at p.nodes k.3;
          super_call = read p.nodes super_arguments id;
          body = k.4;
        }

        member : MemberAt forest a.is_accepted a.whole sorted b c × ((context p b).class ≡ Some c)
        member = member_at forest a.is_accepted a.whole sorted b c node there refl class_is

        mine : constructor_in p.classes c ≡ Some con
        mine =
            one_constructor forest a.is_accepted a.whole sorted b c con
            (ap (λ (o : Option Node). o >>= constructor_of p.nodes b) there) member.0 member.1

    -- ---- what the form says

    module _ (class n : ℕ) (l : class < length p.classes) (sub : is_sub p.classes class c ≡ true)
        (reported : storage p class ≡ Some n) where
      one : class_with_form p class ≡ Some c
      one = one_class forest a class c superclass l within up form sub

      record Storage : Type 0 where
        parts : List ℕ
        is_form : form_in p c ≡ Some parts
        x : ℕ
        second : slice_get parts 1 ≡ Some x
        argument : ℕ
        position : Position
        name_position : Position
        name : List ℕ
        is_new : slice_get p.nodes x ≡ Some (New position name_position name (argument ∷ []))
        number : read p.nodes number_literal argument ≡ Some n

      stored : Storage
      unfolding storage storage_node
      stored =
          let d = bound (class_with_form p class >>= form_in p >>= (λ (parts : List ℕ). slice_get parts 1)
          >>= read p.nodes only_argument) (read p.nodes number_literal) n reported in
          let e = bound (class_with_form p class >>= form_in p >>= (λ (parts : List ℕ). slice_get parts 1))
          (read p.nodes only_argument) d.0 d.1 in
          let f = bound (class_with_form p class >>= form_in p) (λ (parts : List ℕ). slice_get parts 1) e.0 e.1 in
          let g = bound (slice_get p.nodes e.0) only_argument d.0 e.2 in
          let h = only_new g.0 d.0 g.2 in
          record {
            parts = f.0;
            is_form = sym (ap (λ (o : Option ℕ). o >>= form_in p) one) ∙ f.1;
            x = e.0;
            second = f.2;
            argument = d.0;
            position = h.0;
            name_position = h.1;
            name = h.2;
            is_new = g.1 ∙ ap (λ (m : Node). Some m) h.3;
            number = d.2;
          }

      arguments_are : (s : Storage) → (front : List ℕ) × (call.arguments ≡ front ++ s.x ∷ [])
      arguments_are s =
          (let f = form_of forest a.whole a.is_accepted c s.parts s.is_form in
          let q = last_is p f.superclass f.arguments s.parts f.parts_are in (
            q.front,
            sym (same_arguments s.parts f)
                ∙ (q.are ∙ ap (λ (y : ℕ). q.front ++ y ∷ []) (some_inj q.last s.x (sym q.second ∙ s.second))),
          ))

      part_is : (s : Storage) → is_among s.x call.arguments ≡ true → is_form_part p s.x ≡ true
      unfolding is_form_part child_context children is_super_call is_no_class declarations_of
      part_is s among =
          ap (λ t. t && holds (context p s.x).class (λ class. holds (form_in p class) (is_among s.x))) in_super
          ∙ (ap (λ (o : Option ℕ). holds o (λ class. holds (form_in p class) (is_among s.x))) stands
          ∙ (ap (λ (o : Option (List ℕ)). holds o (is_among s.x)) s.is_form ∙ second_among s.x s.parts s.second))
        where
          in_super : (context p s.x).in_super_call ≡ true
          in_super =
              ap (λ (x : Context). x.in_super_call)
              (child_context_is forest a.whole id s.x (SuperCall call.position call.arguments) call.is_there among)

          stands : (context p s.x).class ≡ Some c
          stands =
              ap (λ (x : Context). x.class)
              (child_context_is forest a.whole id s.x (SuperCall call.position call.arguments) call.is_there among)
              ∙ (ap (λ (o : Option ℕ). or_else o (context p id).class)
              (no_class_number forest a.whole id (SuperCall call.position call.arguments) call.is_there refl)
              ∙ call_stands forest a b c id k.0 k.1 k.2 k.3 k.4 class_is there)

      plain : (s : Storage) → is_form_part p s.x ≡ true → binding_at_node p s.x ≡ Plain
      unfolding binding_of declarations_of
      plain s part =
          binding_is forest a.is_accepted a.whole sorted s.x (New s.position s.name_position s.name (s.argument ∷ [])) s.is_new
          ∙ ap (λ t. if t then Plain else class_binding (class_number p.names s.name)) part

      pub form_says : (holds (class_with_form p class >>= superclass_in p.classes) (λ s. not (s == mission_sequencer)) ≡ true)
          → FormSays code id n
      form_says kept =
          (let s = stored in
          let q = arguments_are s in
          let among : is_among s.x call.arguments ≡ true =
          ap (is_among s.x) q.1 ∙ behind_others s.x q.0 (s.x ∷ []) (before_others s.x []) in
          record {
            last = storage_last code behind id s.x n q.0 call.position
                (call.is_there ∙ ap (λ (xs : List ℕ). Some (SuperCall call.position xs)) q.1)
                (part_leaves code behind s.x s.argument n s.position s.name_position s.name s.is_new (plain s (part_is s among))
                s.number);
            kept = λ e. no_sequencer (some_inj superclass mission_sequencer (sym bound_to ∙ e));
          })
        where
          no_sequencer : superclass ≡ mission_sequencer → ⊥
          no_sequencer e =
              true≢false
              (sym kept
              ∙ (ap (λ (o : Option ℕ). holds (o >>= superclass_in p.classes) (λ s. not (s == mission_sequencer))) one
              ∙ (ap (λ (o : Option ℕ). holds o (λ s. not (s == mission_sequencer))) up
              ∙ ap (λ s. not (s == mission_sequencer)) e)))
