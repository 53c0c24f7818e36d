-- The literals of static fields in an accepted program: each fits its field (T7).
use Rattle.std.proofs.Common.{◌≡◌, ℕ, List, [], sym, ap, ◌∙◌, Option, Some, None, true, false, not, true≢false, option_and_then, slice_get}
use Rattle.scj_base.specs.declared.findings.Rule.TheVariants.{T7}
use Rattle.scj_base.specs.declared.positions.Position.{Position}
use Rattle.scj_tree.specs.declared.nodes.Node.{Node}
use Rattle.scj_tree.specs.declared.nodes.Node.TheVariants.{Field}
use Rattle.scj_tree.specs.Forest.{Forest, IsForest}
use Rattle.scj_rules.specs.CheckedProgram.{IsReadFromTexts}
use Rattle.scj_rules.specs.declared.typing.Scope.TheVariants.{This}
use Rattle.scj_rules.specs.declared.typing.Ty.{Ty}
use Rattle.scj_rules.specs.declared.views.Declared.{Declared}
use Rattle.scj_rules.specs.Words.{holds, broken}
use Rattle.scj_rules.specs.Views.{field_at, field_of}
use Rattle.scj_rules.specs.Classes.{ClassRow}
use Rattle.scj_rules.specs.Contexts.{Declarations, declarations_of, in_class}
use Rattle.scj_rules.specs.StaticScopes.{field_scope}
use Rattle.scj_rules.specs.Types.{assigns, is_reference}
use Rattle.scj_rules.specs.TypeRules.{Types, declared_type_of, written_type, misfits_initial_value, type_breaks, t1, t2, t3, t4, t5, t6, t7, t8, t9, t10, t11, t12, t13, t14}
use Rattle.scj_rules.specs.Layout.{literal_written, field_literal, declared_fields, static_fields}
use Rattle.scj_rules.specs.Phases.{IsAccepted}
use Rattle.accepted_laws.specs.Judgements.{type_at_node, HasScope}
use Rattle.accepted_laws.specs.Kinds.{kind_of, kind_of_field}
use Rattle.accepted_laws.specs.Sorts.{HasRightChildren, IsWellSorted}
use Rattle.accepted_laws.proofs.Breaks.{both_empty, right}
use Rattle.accepted_laws.proofs.Interfaces.{flat_in}
use Rattle.accepted_laws.proofs.MemberScopes.{field_has_scope}
use Rattle.accepted_laws.proofs.Tools.{some_inj}
use Rattle.accepted_nodes.proofs.DeclaredScopes.{reference_has_scope}
use Rattle.accepted_nodes.proofs.DeclaredTypes.{field_has_type}
use Rattle.accepted_nodes.proofs.FormParts.{bound}
use Rattle.accepted_nodes.proofs.FoundMembers.{FieldAt, row_field, in_filtered}
use Rattle.accepted_nodes.proofs.Slots.{get_in}
use Rattle.accepted_nodes.proofs.TypesComplete.{type_is, unbroken, at_p}
use Rattle.accepted_facts.proofs.DeclaredKinds.{field_holds, has_kind}
use Rattle.scj_model.specs.Code.{code_of}
use Rattle.scope_flow.specs.Slots.{kind_of_literal}
use Rattle.flow_facts.proofs.HeldFields.{in_get}
use Rattle.flow_facts.proofs.LiteralKinds.{literal_of}
use Rattle.flow_facts.proofs.RightOperators.{has_right_operator}
use Rattle.flow_facts.proofs.ReadOperators.{operators_right}
use Rattle.mission_sound.specs.SequencerFacts.{StaticLiteralFact}
use Rattle.accepted_laws.proofs.MethodNodes.{not_false}

-- of a field that is declared with a value T7 alone is asked
t7_alone : (p : Declarations) (types : Types) (id : ℕ) (position : Position) (name : List ℕ) (flags : Option ℕ)
    (declared_type value : ℕ) (equals : Position) →
    type_breaks p types id (Field position name flags declared_type (Some equals) (Some value)) ≡ [] →
    misfits_initial_value p types declared_type value ≡ false
unfolding type_breaks t1 t2 t3 t4 t5 t6 t7 t8 t9 t10 t11 t12 t13 t14
t7_alone p types id position name flags declared_type value equals e =
    right (misfits_initial_value p types declared_type value) T7 equals
    (both_empty (broken (misfits_initial_value p types declared_type value) T7 equals) [] e).0

module _ (forest : Forest) (accepted : IsAccepted forest) (whole : IsForest forest) (sorted : IsWellSorted forest.nodes)
    (is_read : IsReadFromTexts forest) where
  abbrev p : Declarations
  p = declarations_of forest

  abbrev nodes : List Node
  nodes = forest.nodes

  abbrev types : Types
  types = type_at_node p

  -- a static field is one of a class
  record StaticAt (d : Declared) : Type 0 where
    class : ℕ
    stands : FieldAt forest accepted whole sorted class d

  static_at : (index : ℕ) (d : Declared) → slice_get (static_fields p) index ≡ Some d → StaticAt d
  unfolding static_fields declared_fields
  static_at index d e =
      let h =
      in_filtered (λ (f : Declared). f.modifiers.is_static) d (declared_fields p)
      (get_in (static_fields p) index d e) in
      let q = flat_in (λ (row : ClassRow). row.fields) d p.classes h in
      let k = in_get p.classes q.0 q.1 in
      record { class = k.0; stands = row_field forest accepted whole sorted k.0 q.0 d k.1 q.2 }

  -- ---- the field at its node

  record FieldWithLiteral (f : Declared) (value : ℕ) : Type 0 where
    position : Position
    name : List ℕ
    flags : Option ℕ
    declared_type : ℕ
    equals : Position
    is_there : slice_get nodes f.node ≡ Some (Field position name flags declared_type (Some equals) (Some value))
    typed : declared_type_of p f ≡ written_type p declared_type

  field_node : (f : Declared) (value : ℕ) (node : Node) → slice_get nodes f.node ≡ Some node →
      field_of p.nodes f.node node ≡ Some f → literal_written node ≡ Some value → has_right_operator node ≡ true →
      FieldWithLiteral f value
  unfolding field_of literal_written has_right_operator
  field_node f value (Field position name flags declared_type (Some equals) (Some own)) there is written e =
      let same : own ≡ value = some_inj own value written in
      record {
        position = position;
        name = name;
        flags = flags;
        declared_type = declared_type;
        equals = equals;
        is_there = there ∙ ap (λ v. Some (Field position name flags declared_type (Some equals) (Some v))) same;
        typed = ap (declared_type_of p) (sym (some_inj _ f is));
      }
  field_node f value (Field position name flags declared_type None (Some own)) there is written e =
      absurd (true≢false (sym e))
  field_node f value (Field position name flags declared_type equals None) there is written e = absurd (cc (written))
  field_node f value _ there is written e = absurd (cc (is))

  field_there : (f : Declared) (value : ℕ) → field_at p.nodes f.node ≡ Some f → field_literal p f ≡ Some value →
      FieldWithLiteral f value
  unfolding declarations_of
  field_there f value at written =
      let a = bound (slice_get nodes f.node) (field_of nodes f.node) f at in
      let b = bound (slice_get nodes f.node) literal_written value written in
      let same : b.0 ≡ a.0 = some_inj b.0 a.0 (sym b.1 ∙ a.1) in
      field_node f value a.0 a.1 a.2 (ap literal_written (sym same) ∙ b.2)
      (operators_right forest is_read f.node a.0 a.1)

  -- T7: the literal may be assigned to the field
  assignable : (f : Declared) (value : ℕ) (t u : Ty) → FieldWithLiteral f value → declared_type_of p f ≡ Some t →
      types value ≡ Some u → assigns p.classes u t ≡ true
  assignable f value t u x typed e =
      not_false (assigns p.classes u t)
      (sym (ap (λ (o : Option Ty). holds o (λ t. holds (types value) (λ v. not (assigns p.classes v t))))
      (sym x.typed ∙ typed) ∙ ap (λ (o : Option Ty). holds o (λ v. not (assigns p.classes v t))) e)
      ∙ t7_alone p types f.node x.position x.name x.flags x.declared_type value x.equals
      (unbroken forest accepted whole sorted f.node
      (Field x.position x.name x.flags x.declared_type (Some x.equals) (Some value)) x.is_there))

  -- the scope of a field of reference type
  scoped : (class : ℕ) (d : Declared) (t : Ty) → FieldAt forest accepted whole sorted class d →
      declared_type_of p d ≡ Some t → is_reference t ≡ true → HasScope (field_scope p class d)
  scoped class d t s typed r =
      let n = bound (slice_get p.nodes d.node) (field_of p.nodes d.node) d s.is_there in
      field_has_scope forest accepted whole sorted class d.node n.0 d n.1 n.2 s.stands_in_class
      (reference_has_scope p.names d.declared_type t typed r)

  pub static_literal : (index : ℕ) (d : Declared) (id : ℕ) → slice_get (static_fields p) index ≡ Some d →
      field_literal p d ≡ Some id → StaticLiteralFact (code_of forest) d id
  unfolding HasRightChildren kind_of_field code_of
  static_literal index d value e written =
      let a = static_at index d e in
      let s = a.stands in
      let x = field_there d value s.is_there written in
      let t = field_has_type forest accepted sorted d.node d s.is_there in
      let v = field_holds forest sorted d.node d t.0 s.is_there t.1 in
      let k = has_kind t.0 (field_scope p a.class d) v (scoped a.class d t.0 s t.1) in
      let o =
      (sorted.each d.node (Field x.position x.name x.flags x.declared_type (Some x.equals) (Some value)) x.is_there).2
      in
      let l =
      literal_of p types value o.node t.0 o.passes
      (λ u f. assignable d value t.0 u x t.1 (type_is forest accepted whole sorted value o.node o.is_there ∙ f)) in
      record {
        literal = l.kind;
        is_literal =
            ap (option_and_then kind_of_literal) (at_p forest accepted whole sorted value o.node o.is_there) ∙ l.is;
        kind = k.0;
        is_kind =
            ap (λ (o : Option Ty). kind_of o (in_class p d.node (λ class. field_scope p class d))) t.1
            ∙ ap (λ (o : Option ℕ). kind_of (Some t.0) (option_and_then (λ class. field_scope p class d) o))
            s.stands_in_class ∙ k.1;
        fit = l.fits p This (field_scope p a.class d) k.0 k.1;
      }
