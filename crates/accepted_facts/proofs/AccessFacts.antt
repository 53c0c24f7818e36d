-- What field accesses, operators, array elements and casts of an accepted program have.
use Rattle.std.proofs.Common.{◌≡◌, ℕ, List, [], refl, sym, ap, ◌∙◌, subst, Option, Some, None, Bool, true, false, not, ◌||◌, ◌&&◌, true≢false, inl, inr, option_and_then, slice_get, if◌then◌else◌}
use Rattle.scj_base.specs.declared.positions.Position.{Position}
use Rattle.scj_tree.specs.declared.nodes.Node.{Node}
use Rattle.scj_tree.specs.declared.nodes.Node.TheVariants.{FieldAccess}
use Rattle.scj_tree.specs.Forest.{Forest, IsForest}
use Rattle.scj_tree.specs.Shape.{children}
use Rattle.scj_rules.specs.declared.typing.Binding.TheVariants.{Length}
use Rattle.scj_rules.specs.declared.typing.FoundField.{FoundField}
use Rattle.scj_rules.specs.declared.typing.Receiver.{Receiver}
use Rattle.scj_rules.specs.declared.typing.Receiver.TheVariants.{Class as the_class, Value as the_value}
use Rattle.scj_rules.specs.declared.typing.Scope.{Scope}
use Rattle.scj_rules.specs.declared.typing.Ty.{Ty}
use Rattle.scj_rules.specs.declared.typing.Ty.TheVariants.{Int, Bool as Boolean, Class as ClassTy, IntArray, BoolArray, ClassArray}
use Rattle.scj_rules.specs.Words.{is_among, holds}
use Rattle.scj_rules.specs.Classes.{field_named}
use Rattle.scj_rules.specs.Contexts.{Declarations, declarations_of, object_of, declared_before}
use Rattle.scj_rules.specs.Types.{is_array, is_reference, class_at_name, receiver, accessed_field, class_of_receiver, is_length, is_length_of_array, is_no_reference, is_value, type_of_receiver}
use Rattle.scj_rules.specs.TypeRules.{Types, type_of, access_type, declared_type_of, lacks_field, lacks_object_of_field}
use Rattle.scj_rules.specs.UseRules.{scope_of, scope_of_field}
use Rattle.scj_rules.specs.Bindings.{access_binding, field_binding, plain_or, binding_of}
use Rattle.scj_rules.specs.Phases.{IsAccepted}
use Rattle.accepted_laws.specs.Judgements.{type_at_node, scope_at_node, binding_at_node, HasType, HasScope, Inside, Judged}
use Rattle.accepted_laws.specs.Kinds.{Kind, number, truth, reference, kind_of}
use Rattle.accepted_laws.specs.Sorts.{HasRightChildren, IsWellSorted, is_argument, is_expression}
use Rattle.accepted_laws.proofs.Contexts.{known_same}
use Rattle.accepted_laws.proofs.Tools.{some_inj}
use Rattle.accepted_nodes.proofs.FormParts.{takes_parts}
use Rattle.accepted_nodes.proofs.ScopesComplete.{scope_is, value_has_scope, static_access, class_value, class_is_reference}
use Rattle.accepted_nodes.proofs.TypeBreaks.{right_access}
use Rattle.accepted_nodes.proofs.TypesComplete.{type_is, unbroken, ValueAt, value_at, of_expression, same_first, of_class, value_has_type, ClassOrValue, receiver_cases, found_there}
use Rattle.accepted_facts.specs.Expressions.{Operand, IsFieldOf, IsLengthOf, IsStaticField, AccessFacts, StaticFieldOf}
use Rattle.accepted_facts.proofs.NameFacts.{field_kind, instance_of, static_of, instance_binding, static_binding, instance_seen, static_seen_kind, binding_is}

pub or_false : (a b : Bool) → (a || b) ≡ false → (a ≡ false) × (b ≡ false)
or_false true b e = absurd (true≢false e)
or_false false b e = (refl, e)

pub and_true : (a b : Bool) → (a && b) ≡ true → (a ≡ true) × (b ≡ true)
and_true true b e = (refl, e)
and_true false b e = absurd (true≢false (sym e))

pub class_kind : (c : ℕ) (s : Option Scope) (t : Scope) → s ≡ Some t → kind_of (Some (ClassTy c)) s ≡ Some (reference (ClassTy c) t)
unfolding kind_of
class_kind c s t e = ap (kind_of (Some (ClassTy c))) e

pub array_kind : (u : Ty) (s : Option Scope) (t : Scope) → is_array u ≡ true → s ≡ Some t → kind_of (Some u) s ≡ Some (reference u t)
unfolding kind_of is_array
array_kind IntArray s t k e = ap (kind_of (Some IntArray)) e
array_kind BoolArray s t k e = ap (kind_of (Some BoolArray)) e
array_kind (ClassArray c) s t k e = ap (kind_of (Some (ClassArray c))) e
array_kind _ s t k e = absurd (true≢false (sym k))

pub array_is_reference : (u : Ty) → is_array u ≡ true → is_reference u ≡ true
unfolding is_array is_reference
array_is_reference IntArray k = refl
array_is_reference BoolArray k = refl
array_is_reference (ClassArray c) k = refl
array_is_reference _ k = absurd (true≢false (sym k))

pub int_kind : (o : Option Scope) (k : Kind) → kind_of (Some Int) o ≡ Some k → k ≡ number
unfolding kind_of
int_kind o k e = sym (some_inj number k e)

pub boolean_kind : (o : Option Scope) (k : Kind) → kind_of (Some Boolean) o ≡ Some k → k ≡ truth
unfolding kind_of
boolean_kind o k e = sym (some_inj truth k e)

module _ (forest : Forest) (accepted : IsAccepted forest) (whole : IsForest forest) (sorted : IsWellSorted forest.nodes) where
  abbrev p : Declarations
  p = declarations_of forest

  abbrev types : Types
  types = type_at_node p

  abbrev At : ℕ → ℕ → ℕ → ℕ → Type 0
  At b c id x = ValueAt forest accepted whole sorted b c id x

  -- ---- operands

  -- a child before which nothing is declared is an operand of its kind
  pub operand_at : (b c id x : ℕ) (node : Node) (k : Kind) → slice_get forest.nodes id ≡ Some node → is_among x (children node) ≡ true → declared_before forest.nodes node x ≡ [] → At b c id x → Judged p x (Some k) → Operand p b c id x k
  operand_at b c id x node k there among none v judged =
      record { child = record { smaller = v.less; inside = v.inside; known = known_same forest whole id x node there among none }; judged = judged }

  pub type_of_value : (b c id x : ℕ) → At b c id x → HasType (types x)
  type_of_value b c id x v = value_has_type forest accepted whole sorted b c x v.node v.is_there v.inside v.value

  pub scope_of_value : (b c id x : ℕ) (t : Ty) → At b c id x → types x ≡ Some t → is_reference t ≡ true → HasScope (scope_at_node p x)
  scope_of_value b c id x t v e r = value_has_scope forest accepted whole sorted b c x v.node t v.is_there v.inside v.value e r

  pub class_judged : (x class : ℕ) (s : Scope) → types x ≡ Some (ClassTy class) → scope_at_node p x ≡ Some s → Judged p x (Some (reference (ClassTy class) s))
  unfolding Judged
  class_judged x class s e h = ap (λ (o : Option Ty). kind_of o (scope_at_node p x)) e ∙ class_kind class (scope_at_node p x) s h

  pub array_judged : (x : ℕ) (u : Ty) (s : Scope) → types x ≡ Some u → is_array u ≡ true → scope_at_node p x ≡ Some s → Judged p x (Some (reference u s))
  unfolding Judged
  array_judged x u s e k h = ap (λ (o : Option Ty). kind_of o (scope_at_node p x)) e ∙ array_kind u (scope_at_node p x) s k h

  pub int_judged : (x : ℕ) → types x ≡ Some Int → Judged p x (Some number)
  unfolding Judged kind_of
  int_judged x e = ap (λ (o : Option Ty). kind_of o (scope_at_node p x)) e

  pub boolean_judged : (x : ℕ) → types x ≡ Some Boolean → Judged p x (Some truth)
  unfolding Judged kind_of
  boolean_judged x e = ap (λ (o : Option Ty). kind_of o (scope_at_node p x)) e

  -- ---- accesses

  field_there : (r : Receiver) (name : List ℕ) → is_no_reference r ≡ false → lacks_field p r name ≡ false → is_length_of_array r name ≡ false → (f : FoundField) × (accessed_field p r name ≡ Some f) × ((is_value r && f.field.modifiers.is_static) ≡ false)
  unfolding lacks_field
  field_there r name n l k =
      found_there (accessed_field p r name) (λ (f : FoundField). is_value r && f.field.modifiers.is_static) (inner (is_no_reference r) (is_length_of_array r name) _ n k l)
    where
      inner : (a b c : Bool) → a ≡ false → b ≡ false → (not a && (not b && c)) ≡ false → c ≡ false
      inner true b c n k e = absurd (true≢false n)
      inner false true c n k e = absurd (true≢false k)
      inner false false c n k e = e

  access_kind : (r : Receiver) (name : List ℕ) (f : FoundField) → is_length_of_array r name ≡ false → accessed_field p r name ≡ Some f → access_type p r name ≡ declared_type_of p f.field
  unfolding access_type
  access_kind r name f k e =
      ap (λ t. if t then Some Int else option_and_then (λ (f : FoundField). declared_type_of p f.field) (accessed_field p r name)) k ∙ ap (option_and_then (λ (f : FoundField). declared_type_of p f.field)) e

  access_bound : (r : Receiver) (name : List ℕ) (f : FoundField) → is_length_of_array r name ≡ false → accessed_field p r name ≡ Some f → access_binding p r name ≡ field_binding p f.field
  unfolding access_binding
  access_bound r name f k e =
      ap (λ t. if t then Length else plain_or (λ (f : FoundField). field_binding p f.field) (accessed_field p r name)) k ∙ ap (plain_or (λ (f : FoundField). field_binding p f.field)) e

  -- the three of an access: its type, its scope and what it stands for, by its receiver
  record ByReceiver (id object : ℕ) (name : List ℕ) (r : Receiver) : Type 0 where
    typed : types id ≡ access_type p r name
    scoped : scope_at_node p id ≡ option_and_then (scope_of_field p (scope_at_node p object)) (accessed_field p r name)
    bound : binding_at_node p id ≡ access_binding p r name
    of_reference : is_no_reference r ≡ false
    has_field : lacks_field p r name ≡ false
    has_object : lacks_object_of_field p id name r ≡ false

  by_receiver : (id object : ℕ) (position : Position) (name : List ℕ) (r : Receiver) → slice_get forest.nodes id ≡ Some (FieldAccess position name object) → receiver p types object ≡ Some r → ByReceiver id object name r
  unfolding type_of scope_of binding_of
  by_receiver id object position name r there e =
      let w = right_access p types id position name object (unbroken forest accepted whole sorted id (FieldAccess position name object) there) in
      record {
        typed = type_is forest accepted whole sorted id (FieldAccess position name object) there ∙ ap (option_and_then (λ r. access_type p r name)) e;
        scoped = scope_is forest accepted whole sorted id (FieldAccess position name object) there ∙ ap (option_and_then (λ r. option_and_then (scope_of_field p (scope_at_node p object)) (accessed_field p r name))) e;
        bound = binding_is forest accepted whole sorted id (FieldAccess position name object) there ∙ ap (plain_or (λ r. access_binding p r name)) e;
        of_reference = sym (ap (λ (o : Option Receiver). holds o is_no_reference) e) ∙ w.of_reference;
        has_field = sym (ap (λ (o : Option Receiver). holds o (λ r. lacks_field p r name)) e) ∙ w.has_field;
        has_object = sym (ap (λ (o : Option Receiver). holds o (lacks_object_of_field p id name)) e) ∙ w.has_object;
      }

  field_kind_is : (id object : ℕ) (name : List ℕ) (r : Receiver) (f : FoundField) (k : Kind) → ByReceiver id object name r → is_length_of_array r name ≡ false → accessed_field p r name ≡ Some f → Judged p id (Some k) → kind_of (declared_type_of p f.field) (scope_of_field p (scope_at_node p object) f) ≡ Some k
  unfolding Judged
  field_kind_is id object name r f k y l a judged =
      sym (ap (λ (o : Option Ty). kind_of o (scope_at_node p id)) (y.typed ∙ access_kind r name f l a)
      ∙ ap (kind_of (declared_type_of p f.field)) (y.scoped ∙ ap (option_and_then (scope_of_field p (scope_at_node p object))) a)) ∙ judged

  class_access : (id object class : ℕ) (name : List ℕ) (k : Kind) → ByReceiver id object name (the_class class) → Judged p id (Some k) → IsStaticField p class id name k
  unfolding class_of_receiver type_of_receiver
  class_access id object class name k y judged =
      let f = field_there (the_class class) name y.of_reference y.has_field refl in
      let s = static_access forest accepted whole sorted id class name f.0 f.1 y.has_object in
      let q = field_kind forest accepted whole sorted class name f.0 f.1 in
      let same = static_seen_kind forest accepted whole sorted class name f.0 (scope_at_node p object) k f.1 s q (field_kind_is id object name (the_class class) f.0 k y refl f.1 judged) in
      record {
        n = q.n;
        binding = y.bound ∙ access_bound (the_class class) name f.0 refl f.1 ∙ static_binding forest accepted whole sorted class f.0 s q;
        field = subst (StaticFieldOf p class name q.n) same (static_of forest accepted whole sorted class name f.0 f.1 s q);
      }

  value_access : (b c id object class : ℕ) (name : List ℕ) (k : Kind) (u : Ty) (f : FoundField) (s : Scope) → receiver p types object ≡ Some (the_value u) → types object ≡ Some u → scope_at_node p object ≡ Some s → ByReceiver id object name (the_value u) → is_length_of_array (the_value u) name ≡ false → accessed_field p (the_value u) name ≡ Some f
      → (is_value (the_value u) && f.field.modifiers.is_static) ≡ false → u ≡ ClassTy class → field_named p.classes class name ≡ Some f → Operand p b c id object (reference (ClassTy class) s) → Judged p id (Some k) → IsFieldOf p b c id object name k
  unfolding is_value instance_of
  value_access b c id object class name k u f s ru tu so y l a plain same named operand judged =
      let q = field_kind forest accepted whole sorted class name f named in
      let seen = sym (ap (λ (o : Option Scope). kind_of (declared_type_of p f.field) (scope_of_field p o f)) so) ∙ field_kind_is id object name (the_value u) f k y l a judged in
      record {
        class = class;
        scope = s;
        operand = operand;
        n = q.n;
        binding = y.bound ∙ access_bound (the_value u) name f l a ∙ instance_binding forest accepted whole sorted class f plain q;
        declared = q.kind;
        field = instance_of forest accepted whole sorted class name f named plain q;
        accessed = ap (option_and_then (λ r. accessed_field p r name)) ru ∙ a;
        gives = instance_seen forest accepted whole sorted class name f s k q seen;
      }

  length_access : (b c id object : ℕ) (name : List ℕ) (k : Kind) (u : Ty) (s : Scope) → ByReceiver id object name (the_value u) → is_length_of_array (the_value u) name ≡ true → is_array u ≡ true → Operand p b c id object (reference u s) → Judged p id (Some k) → IsLengthOf p b c id object k
  unfolding access_type access_binding Judged
  length_access b c id object name k u s y l array operand judged =
      record {
        array = u;
        is_an_array = array;
        scope = s;
        operand = operand;
        binding = y.bound ∙ ap (λ t. if t then Length else plain_or (λ (f : FoundField). field_binding p f.field) (accessed_field p (the_value u) name)) l;
        gives = int_kind (scope_at_node p id) k (sym (ap (λ (o : Option Ty). kind_of o (scope_at_node p id)) (y.typed ∙ ap (λ t. if t then Some Int else option_and_then (λ (f : FoundField). declared_type_of p f.field) (accessed_field p (the_value u) name)) l)) ∙ judged);
      }

  array_of_length : (u : Ty) (name : List ℕ) → is_length_of_array (the_value u) name ≡ true → is_array u ≡ true
  unfolding type_of_receiver
  array_of_length u name e = (and_true (is_array u) (is_length name) e).0

  pub access_facts : (b c id object : ℕ) (position : Position) (name : List ℕ) (k : Kind) → slice_get forest.nodes id ≡ Some (FieldAccess position name object) → Inside p b c id → Judged p id (Some k) → AccessFacts p b c id object name k
  unfolding children is_argument is_expression object_of takes_parts HasRightChildren declared_before
  access_facts b c id object position name k there inside judged =
      let s = sorted.each id (FieldAccess position name object) there in
      let o = of_expression forest accepted whole sorted object s in
      let at : class_at_name p object o.node ≡ None → At b c id object = λ k. value_at forest accepted whole sorted b c id (FieldAccess position name object) there inside refl object (same_first forest accepted whole sorted object []) o k refl in
      by_cases o.node at (receiver_cases forest accepted whole sorted object o.node o.is_there (λ k. type_of_value b c id object (at k)))
    where
      operand : (k : Kind) → At b c id object → Judged p object (Some k) → Operand p b c id object k
      operand k v j = operand_at b c id object (FieldAccess position name object) k there (same_first forest accepted whole sorted object []) refl v j

      of_value : (u : Ty) → receiver p types object ≡ Some (the_value u) → types object ≡ Some u → At b c id object → ByReceiver id object name (the_value u) → (l : Bool) → is_length_of_array (the_value u) name ≡ l → AccessFacts p b c id object name k
      of_value u ru tu v y true l =
          let array = array_of_length u name l in
          let s = scope_of_value b c id object u v tu (array_is_reference u array) in
          inr (inl (length_access b c id object name k u s.0 y l array (operand (reference u s.0) v (array_judged object u s.0 tu array s.1)) judged))
      of_value u ru tu v y false l =
          let f = field_there (the_value u) name y.of_reference y.has_field l in
          let q = of_class (class_of_receiver (the_value u)) (λ class. field_named p.classes class name) f.0 f.1 in
          let same = class_value forest accepted whole sorted u q.0 q.1 in
          let s = scope_of_value b c id object u v tu (class_is_reference forest accepted whole sorted u q.0 same) in
          inl (value_access b c id object q.0 name k u f.0 s.0 ru tu s.1 y l f.1 f.2 same q.2 (operand (reference (ClassTy q.0) s.0) v (class_judged object q.0 s.0 (tu ∙ ap (λ t. Some t) same) s.1)) judged)

      by_cases : (n : Node) → (class_at_name p object n ≡ None → At b c id object) → ClassOrValue forest accepted whole sorted object n → AccessFacts p b c id object name k
      by_cases n at (inl q) = inr (inr (q.0, class_access id object q.0 name k (by_receiver id object position name (the_class q.0) there q.2) judged))
      by_cases n at (inr q) = of_value q.0 q.3 q.2 (at q.1) (by_receiver id object position name (the_value q.0) there q.3) (is_length_of_array (the_value q.0) name) refl
