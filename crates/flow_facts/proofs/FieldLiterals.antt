-- The literals of fields in an accepted program: each is the value of a field of its class, and fits it.
use Rattle.std.proofs.Common.{◌≡◌, ℕ, List, [], ◌∷◌, filter, find, refl, sym, ap, ◌∙◌, subst, Option, Some, None, Bool, true, false, not, true≢false, is_some, option_and_then, option_map, slice_get, flat_map}
use Rattle.scj_base.specs.Bytes.{is_same}
use Rattle.scj_base.specs.declared.findings.Rule.TheVariants.{C4, T7}
use Rattle.scj_base.specs.declared.positions.Position.{Position}
use Rattle.scj_tree.specs.declared.nodes.Node.{Node}
use Rattle.scj_tree.specs.declared.nodes.Node.TheVariants.{Field}
use Rattle.scj_tree.specs.Forest.{Forest, IsForest}
use Rattle.scj_rules.specs.CheckedProgram.{IsReadFromTexts}
use Rattle.scj_rules.specs.declared.typing.Binding.{Binding}
use Rattle.scj_rules.specs.declared.typing.Binding.TheVariants.{Field as InstanceField}
use Rattle.scj_rules.specs.declared.typing.FoundField.{FoundField}
use Rattle.scj_rules.specs.declared.typing.Receiver.TheVariants.{Class as the_class}
use Rattle.scj_rules.specs.declared.typing.Scope.{Scope}
use Rattle.scj_rules.specs.declared.typing.Scope.TheVariants.{Caller}
use Rattle.scj_rules.specs.declared.typing.Ty.{Ty}
use Rattle.scj_rules.specs.declared.views.Declared.{Declared}
use Rattle.scj_rules.specs.Words.{holds, broken, along, named_twice, broken_at_each}
use Rattle.scj_rules.specs.Views.{field_at, field_of}
use Rattle.scj_rules.specs.Classes.{ClassRow, superclass_in, superclasses, own_field, field_named, own_instance_fields}
use Rattle.scj_rules.specs.ClassRules.{c4, hides_field}
use Rattle.scj_rules.specs.Contexts.{Declarations, declarations_of, context}
use Rattle.scj_rules.specs.StaticScopes.{field_scope}
use Rattle.scj_rules.specs.Types.{assigns, accessed_field, class_of_receiver}
use Rattle.scj_rules.specs.TypeRules.{Types, declared_type_of, written_type, misfits_initial_value, type_breaks, t1, t2, t3, t4, t5, t6, t7, t8, t9, t10, t11, t12, t13, t14}
use Rattle.scj_rules.specs.Bindings.{binding_of, bindings_in, field_binding, plain_or}
use Rattle.scj_rules.specs.Layout.{literal_written, field_literal, fields_with_literal}
use Rattle.scj_rules.specs.Phases.{IsAccepted}
use Rattle.accepted_laws.specs.Judgements.{type_at_node, binding_at_node}
use Rattle.accepted_laws.specs.Kinds.{kind_of_field, Fits}
use Rattle.accepted_laws.specs.Sorts.{HasRightChildren, IsWellSorted}
use Rattle.accepted_laws.proofs.Breaks.{both_empty, right}
use Rattle.accepted_laws.proofs.Fields.{In as Element, here as at_head, there as in_tail}
use Rattle.accepted_laws.proofs.Rows.{at_class_unbroken, none_broken}
use Rattle.accepted_laws.proofs.ScopesOfClasses.{chain_is}
use Rattle.accepted_laws.proofs.Tools.{some_inj}
use Rattle.accepted_nodes.proofs.FormParts.{bound}
use Rattle.accepted_nodes.proofs.FoundMembers.{row_field, in_filtered}
use Rattle.accepted_nodes.proofs.TypesComplete.{type_is, unbroken, at_p}
use Rattle.accepted_facts.proofs.NameFacts.{field_kind, instance_of, instance_binding, binding_is}
use Rattle.accepted_facts.proofs.StatementFacts.{not_false}
use Rattle.scj_model.specs.Code.{Code, binding, part}
use Rattle.scj_model.specs.Operations.{bound_field}
use Rattle.scope_flow.specs.Facts.{LiteralFact, LiteralFacts}
use Rattle.scope_flow.specs.Slots.{kind_of_literal}
use Rattle.flow_facts.proofs.ClassNodes.{ClassAt}
use Rattle.flow_facts.proofs.HeldFields.{has_field}
use Rattle.flow_facts.proofs.LiteralKinds.{literal_of}
use Rattle.flow_facts.proofs.NamesOnce.{passes_in, find_once}
use Rattle.flow_facts.proofs.ReadOperators.{operators_right}
use Rattle.flow_facts.proofs.RightOperators.{has_right_operator}
use Rattle.std.proofs.lemmas.Option.{slice_get_within}

abbrev name_of : Declared → List ℕ
name_of f = f.name

-- of a field that is declared with a value T7 alone is asked
t7_alone : (p : Declarations) (types : Types) (id : ℕ) (position : Position) (name : List ℕ) (flags : Option ℕ)
    (declared_type value : ℕ) (equals : Position) →
    type_breaks p types id (Field position name flags declared_type (Some equals) (Some value)) ≡ [] →
    misfits_initial_value p types declared_type value ≡ false
unfolding type_breaks t1 t2 t3 t4 t5 t6 t7 t8 t9 t10 t11 t12 t13 t14
t7_alone p types id position name flags declared_type value equals e =
    right (misfits_initial_value p types declared_type value) T7 equals
    (both_empty (broken (misfits_initial_value p types declared_type value) T7 equals) [] e).0

module _ (forest : Forest) (accepted : IsAccepted forest) (whole : IsForest forest) (sorted : IsWellSorted forest.nodes)
    (is_read : IsReadFromTexts forest) where
  abbrev p : Declarations
  p = declarations_of forest

  abbrev nodes : List Node
  nodes = forest.nodes

  abbrev types : Types
  types = type_at_node p

  abbrev code : Code
  code = record { program = p; bindings = bindings_in p }

  abbrev At : ℕ → ℕ → Type 0
  At c k = ClassAt forest accepted whole sorted c k

  -- ---- a field with a literal, at its node

  record FieldWithLiteral (f : Declared) (value : ℕ) : Type 0 where
    position : Position
    name : List ℕ
    flags : Option ℕ
    declared_type : ℕ
    equals : Position
    is_there : slice_get nodes f.node ≡ Some (Field position name flags declared_type (Some equals) (Some value))
    same_name : f.name ≡ name
    typed : declared_type_of p f ≡ written_type p declared_type

  field_node : (f : Declared) (value : ℕ) (node : Node) → slice_get nodes f.node ≡ Some node →
      field_of p.nodes f.node node ≡ Some f → literal_written node ≡ Some value → has_right_operator node ≡ true →
      FieldWithLiteral f value
  unfolding field_of literal_written has_right_operator
  field_node f value (Field position name flags declared_type (Some equals) (Some own)) there is written e =
      let same : own ≡ value = some_inj own value written in
      record {
        position = position;
        name = name;
        flags = flags;
        declared_type = declared_type;
        equals = equals;
        is_there = there ∙ ap (λ v. Some (Field position name flags declared_type (Some equals) (Some v))) same;
        same_name = sym (ap (λ (d : Declared). d.name) (some_inj _ f is));
        typed = ap (declared_type_of p) (sym (some_inj _ f is));
      }
  field_node f value (Field position name flags declared_type None (Some own)) there is written e =
      absurd (true≢false (sym e))
  field_node f value (Field position name flags declared_type equals None) there is written e = absurd (cc (written))
  field_node f value _ there is written e = absurd (cc (is))

  field_there : (f : Declared) (value : ℕ) → field_at p.nodes f.node ≡ Some f → field_literal p f ≡ Some value →
      FieldWithLiteral f value
  unfolding declarations_of
  field_there f value at written =
      let a = bound (slice_get nodes f.node) (field_of nodes f.node) f at in
      let b = bound (slice_get nodes f.node) literal_written value written in
      let same : b.0 ≡ a.0 = some_inj b.0 a.0 (sym b.1 ∙ a.1) in
      field_node f value a.0 a.1 a.2 (ap literal_written (sym same) ∙ b.2)
      (operators_right forest is_read f.node a.0 a.1)

  -- T7: the literal may be assigned to the field
  assignable : (f : Declared) (value : ℕ) (t u : Ty) → FieldWithLiteral f value → declared_type_of p f ≡ Some t →
      types value ≡ Some u → assigns p.classes u t ≡ true
  assignable f value t u x typed e =
      not_false (assigns p.classes u t)
      (sym (ap (λ (o : Option Ty). holds o (λ t. holds (types value) (λ v. not (assigns p.classes v t))))
      (sym x.typed ∙ typed) ∙ ap (λ (o : Option Ty). holds o (λ v. not (assigns p.classes v t))) e)
      ∙ t7_alone p types f.node x.position x.name x.flags x.declared_type value x.equals
      (unbroken forest accepted whole sorted f.node
      (Field x.position x.name x.flags x.declared_type (Some x.equals) (Some value)) x.is_there))

  -- ---- the field that its binding names

  twice_none : (c k : ℕ) → (a : At c k) → named_twice name_of [] a.row.fields ≡ []
  unfolding c4
  twice_none c k a =
      none_broken (λ (f : Declared). f.position) C4 (named_twice name_of [] a.row.fields)
      (both_empty (broken_at_each (λ (f : Declared). f.position) C4 (named_twice name_of [] a.row.fields))
      (flat_map (λ (f : Declared). broken (hides_field p c f) C4 f.position) a.row.fields)
      (at_class_unbroken forest accepted c a.row a.class a.is_row a.written).field_twice).0

  named_field : (c k : ℕ) (f : Declared) → (a : At c k) → Element f a.row.fields →
      field_named p.classes c f.name ≡ Some (record { on = c; field = f })
  unfolding field_named along own_field
  named_field c k f a h =
      let own : own_field p.classes f.name c ≡ Some (record { on = c; field = f }) =
      ap (λ (o : Option ClassRow). option_map (λ (d : Declared). record { on = c; field = d })
      (option_and_then (λ (row : ClassRow). find (λ (d : Declared). is_same f.name d.name) row.fields) o)) a.is_row
      ∙ ap (option_map (λ (d : Declared). record { on = c; field = d }))
      (find_once name_of a.row.fields [] (twice_none c k a) f h) in
      ap (along (own_field p.classes f.name)) (chain_is forest accepted c (slice_get_within p.classes c a.row a.is_row))
      ∙ ap (λ (o : Option FoundField). elim o as (λ _. Option FoundField) [
        | None ↦ along (own_field p.classes f.name)
            (elim (superclass_in p.classes c) as (λ _. List ℕ) [ None ↦ [] | Some b ↦ superclasses p.classes b ])
        | Some y ↦ Some y
      ]) own

  bound_at : (c : ℕ) (f : Declared) (value n : ℕ) → FieldWithLiteral f value → (context p f.node).class ≡ Some c →
      field_named p.classes c f.name ≡ Some (record { on = c; field = f }) → field_binding p f ≡ InstanceField n →
      binding_at_node p f.node ≡ InstanceField n
  unfolding binding_of class_of_receiver
  bound_at c f value n x class named field =
      binding_is forest accepted whole sorted f.node
      (Field x.position x.name x.flags x.declared_type (Some x.equals) (Some value)) x.is_there
      ∙ ap (λ (o : Option ℕ). plain_or (λ (row : FoundField). field_binding p row.field)
      (option_and_then (λ class. accessed_field p (the_class class) x.name) o)) class
      ∙ ap (λ name. plain_or (λ (row : FoundField). field_binding p row.field) (field_named p.classes c name))
      (sym x.same_name)
      ∙ ap (plain_or (λ (row : FoundField). field_binding p row.field)) named ∙ field

  as_bound : (o : Binding) (n : ℕ) → o ≡ InstanceField n → bound_field o ≡ Some n
  unfolding bound_field
  as_bound o n e = ap bound_field e

  -- ---- the literal of a field

  literal_fact : (c k value : ℕ) (home : Scope) (f : Declared) → (a : At c k) → Element f a.row.fields →
      f.modifiers.is_static ≡ false → field_literal p f ≡ Some value → LiteralFact code c home f.node
  unfolding HasRightChildren literal_written kind_of_field
  literal_fact c k value home f a h plain written =
      let r = row_field forest accepted whole sorted c a.row f a.is_row h in
      let x = field_there f value r.is_there written in
      let found : FoundField = record { on = c; field = f } in
      let named = named_field c k f a h in
      let q = field_kind forest accepted whole sorted c f.name found named in
      let o =
      (sorted.each f.node (Field x.position x.name x.flags x.declared_type (Some x.equals) (Some value)) x.is_there).2
      in
      let l =
      literal_of p types value o.node q.type o.passes
      (λ u e. assignable f value q.type u x q.typed (type_is forest accepted whole sorted value o.node o.is_there
      ∙ e)) in
      let has =
      has_field forest accepted whole sorted c q.n f.name q.kind
      (instance_of forest accepted whole sorted c f.name found named plain q) in
      record {
        literal = l.kind;
        is_literal = ap (option_and_then (part code kind_of_literal)) written
            ∙ ap (option_and_then kind_of_literal) (at_p forest accepted whole sorted value o.node o.is_there) ∙ l.is;
        field = q.n;
        is = as_bound (binding code f.node) q.n
            (bound_at c f value q.n x r.stands_in_class named
            (instance_binding forest accepted whole sorted c found plain q));
        has = has.0;
        fit = subst (Fits p home Caller l.kind) (sym has.1) (l.fits p home (field_scope p c f) q.kind q.is_kind);
      }

  not_true : (t : Bool) → not t ≡ true → t ≡ false
  not_true true e = absurd (true≢false (sym e))
  not_true false e = refl

  some_written : (o : Option ℕ) → is_some o ≡ true → (x : ℕ) × (o ≡ Some x)
  some_written None e = absurd (true≢false (sym e))
  some_written (Some x) e = (x, refl)

  all_facts : (c : ℕ) (home : Scope) (fs : List Declared) →
      ((f : Declared) → Element f fs → LiteralFact code c home f.node) → LiteralFacts code c home fs
  all_facts c home [] h = tt
  all_facts c home (f ∷ fs) h = (h f at_head, all_facts c home fs (λ g i. h g (in_tail i)))

  -- of all fields of a class that are declared with one
  pub literal_facts : (c k : ℕ) (home : Scope) → At c k → LiteralFacts code c home (fields_with_literal p c)
  unfolding fields_with_literal own_instance_fields
  literal_facts c k home a = all_facts c home (filter (λ f. is_some (field_literal p f)) instances) (λ f h. at f h)
    where
      instances : List Declared
      instances =
          elim (slice_get p.classes c) as (λ _. List Declared)
          [ None ↦ [] | Some row ↦ filter (λ (f : Declared). not f.modifiers.is_static) row.fields ]

      own : instances ≡ filter (λ (f : Declared). not f.modifiers.is_static) a.row.fields
      own =
          ap
          (λ (o : Option ClassRow). elim o as (λ _. List Declared)
          [ None ↦ [] | Some row ↦ filter (λ (f : Declared). not f.modifiers.is_static) row.fields ]) a.is_row

      at : (f : Declared) → Element f (filter (λ f. is_some (field_literal p f)) instances) →
          LiteralFact code c home f.node
      at f h =
          let i = subst (Element f) own (in_filtered (λ f. is_some (field_literal p f)) f instances h) in
          let value = some_written (field_literal p f) (passes_in (λ f. is_some (field_literal p f)) f instances h) in
          literal_fact c k value.0 home f a (in_filtered (λ (f : Declared). not f.modifiers.is_static) f a.row.fields i)
          (not_true f.modifiers.is_static
          (passes_in (λ (f : Declared). not f.modifiers.is_static) f a.row.fields i)) value.1
