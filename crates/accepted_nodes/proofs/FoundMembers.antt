-- The fields and methods that an access or a call finds in an accepted program: a field stands at a node of the class that
-- declares it, and what may be called has a type.
use Rattle.std.proofs.Common.{◌≡◌, ℕ, ◌+◌, ◌<◌, List, [], ◌∷◌, ◌++◌, length, map, filter, find, refl, sym, ap, ◌∙◌, subst, Option, Some, None, Bool, true, false, not, ◌||◌, ◌&&◌, true≢false, ◌⊎◌, inl, inr, option_and_then, option_map, is_some, slice_get, ◌==◌}
use Rattle.std.proofs.lemmas.Option.{slice_get_within}
use Rattle.scj_base.specs.Bytes.{is_same}
use Rattle.scj_base.specs.declared.findings.Rule.TheVariants.{T10, T14}
use Rattle.scj_base.specs.declared.positions.Position.{Position}
use Rattle.scj_builtins.specs.declared.kinds.GivesKind.{GivesKind}
use Rattle.scj_builtins.specs.declared.kinds.GivesKind.TheVariants.{Nothing, Number, Truth}
use Rattle.scj_builtins.specs.declared.methods.FrameworkMethod.{FrameworkMethod}
use Rattle.scj_builtins.specs.Framework.{framework_classes, framework_methods}
use Rattle.scj_tree.specs.declared.nodes.Node.{Node}
use Rattle.scj_tree.specs.declared.nodes.Node.TheVariants.{Field, Method}
use Rattle.scj_tree.specs.Forest.{Forest, IsForest}
use Rattle.scj_rules.specs.declared.typing.FoundField.{FoundField}
use Rattle.scj_rules.specs.declared.typing.Ty.{Ty}
use Rattle.scj_rules.specs.declared.typing.Ty.TheVariants.{Int, Bool as Boolean, Void}
use Rattle.scj_rules.specs.declared.views.Declared.{Declared}
use Rattle.scj_rules.specs.declared.views.WrittenType.TheVariants.{Long as long_type}
use Rattle.scj_rules.specs.Definitions.{read}
use Rattle.scj_rules.specs.Words.{is_among, broken, holds}
use Rattle.scj_rules.specs.Views.{DeclaredMethod, field_of, field_at, method_of, method_at, type_at}
use Rattle.scj_rules.specs.Classes.{ClassRow, FoundMethod, framework_method, framework_methods_on, framework_rows_from, own_field, field_named, own_method, method_named, superclasses, all_interfaces, user_row, result_written}
use Rattle.scj_rules.specs.ClassRules.{is_same_type}
use Rattle.scj_rules.specs.Contexts.{Declarations, declarations_of, context}
use Rattle.scj_rules.specs.Types.{type_written, is_reference, is_callable, is_size_method}
use Rattle.scj_rules.specs.TypeRules.{declared_type_of, t1, t2, t3, t4, t5, t6, t7, t8, t9, t10, t11, t12, t13, t14, type_breaks, ends_without_return, misfits_long, misfits_size, is_size_body, has_framework_size}
use Rattle.scj_rules.specs.Phases.{IsAccepted}
use Rattle.accepted_laws.specs.Judgements.{type_at_node, HasType}
use Rattle.accepted_laws.specs.Overriding.{IsUserMethod}
use Rattle.accepted_laws.specs.Sorts.{IsWellSorted}
use Rattle.accepted_laws.proofs.Breaks.{both_empty, right, no_break_at_node}
use Rattle.accepted_laws.proofs.ClassNumbers.{member_class}
use Rattle.accepted_nodes.proofs.DeclaredTypes.{field_has_type, result_has_type}
use Rattle.accepted_laws.proofs.Dispatch.{OwnDeclaration, own_declaration, user_method, written_of}
use Rattle.accepted_laws.proofs.MethodNodes.{method_node}
use Rattle.accepted_laws.proofs.Fields.{In, here, there, in_find, along_in}
use Rattle.accepted_laws.proofs.Interfaces.{row_is, mapped_in}
use Rattle.accepted_laws.proofs.Rows.{IsFrameworkRow, IsUserRow}
use Rattle.accepted_laws.proofs.Subtypes.{among_in}
use Rattle.accepted_laws.proofs.Tools.{some_inj}

-- ---- the framework's methods that may be called give nothing, an int or a boolean

unfoldable gives_plain : GivesKind → Bool
gives_plain Nothing = true
gives_plain Number = true
gives_plain Truth = true
gives_plain _ = false

abbrev calls_plain : FrameworkMethod → Bool
calls_plain m = not m.callable || gives_plain m.gives

unfoldable all_plain : List FrameworkMethod → Bool
all_plain [] = true
all_plain (m ∷ ms) = calls_plain m && all_plain ms

and_true : (a b : Bool) → (a && b) ≡ true → (a ≡ true) × (b ≡ true)
and_true true b e = (refl, e)
and_true false b e = absurd (true≢false (sym e))

plain_in : (ms : List FrameworkMethod) (m : FrameworkMethod) → all_plain ms ≡ true → In m ms → calls_plain m ≡ true
unfolding all_plain
plain_in [] m e h = elim h [ ]
plain_in (n ∷ ms) m e here = (and_true (calls_plain m) (all_plain ms) e).0
plain_in (n ∷ ms) m e (there h) = plain_in ms m (and_true (calls_plain n) (all_plain ms) e).1 h

table_plain : all_plain framework_methods ≡ true
unfolding all_plain framework_methods gives_plain
table_plain = refl

plain_type : (names : List (List ℕ)) (g : GivesKind) → gives_plain g ≡ true → (t : Ty) × (type_written names (result_written g) ≡ Some t) × (is_reference t ≡ false)
unfolding gives_plain type_written result_written is_reference
plain_type names Nothing e = (Void, refl, refl)
plain_type names Number e = (Int, refl, refl)
plain_type names Truth e = (Boolean, refl, refl)
plain_type names _ e = absurd (true≢false (sym e))

not_false : (t : Bool) → not t ≡ false → t ≡ true
not_false true e = refl
not_false false e = absurd (true≢false e)

or_first : (a b : Bool) → (a || b) ≡ false → a ≡ false
or_first true b e = e
or_first false b e = refl

in_head : {A : Type 0} (x y : A) (xs : List A) → In x (y ∷ xs) → (y ≡ x) ⊎ In x xs
in_head x y xs here = inl refl
in_head x y xs (there h) = inr h

pub in_filtered : {A : Type 0} (test : A → Bool) (x : A) (xs : List A) → In x (filter test xs) → In x xs
in_filtered test x [] h = h
in_filtered {A} test x (y ∷ xs) h = go (test y) refl (λ h. in_filtered test x xs h)
  where
    head : (y ≡ x) ⊎ In x (filter test xs) → (In x (filter test xs) → In x xs) → In x (y ∷ xs)
    head (inl e) ih = subst (λ z. In z (y ∷ xs)) e here
    head (inr k) ih = there (ih k)

    go : (t : Bool) → test y ≡ t → (In x (filter test xs) → In x xs) → In x (y ∷ xs)
    go true e ih = head (in_head x y (filter test xs) (rw e at h)) ih
    go false e ih = there (ih (rw e at h))

pub in_mapped : {A B : Type 0} (f : A → B) (y : B) (xs : List A) → In y (map f xs) → (x : A) × In x xs × (f x ≡ y)
in_mapped f y [] h = elim h [ ]
in_mapped f y (x ∷ xs) here = (x, here, refl)
in_mapped f y (x ∷ xs) (there h) = (let q = in_mapped f y xs h in (q.0, there q.1, q.2))

module _ (forest : Forest) (accepted : IsAccepted forest) (whole : IsForest forest) (sorted : IsWellSorted forest.nodes) where
  abbrev p : Declarations
  p = declarations_of forest

  -- ---- fields

  field_number : (id : ℕ) (node : Node) (d : Declared) → field_of p.nodes id node ≡ Some d → d.node ≡ id
  unfolding field_of
  field_number id (Field position name flags declared_type equals value) d e = sym (ap (λ (d : Declared). d.node) (some_inj _ d e))
  field_number id _ d e = absurd (cc (e))

  field_number_at : (id : ℕ) (d : Declared) → field_at p.nodes id ≡ Some d → d.node ≡ id
  field_number_at id d e = go (slice_get p.nodes id) e
    where
      go : (o : Option Node) → option_and_then (field_of p.nodes id) o ≡ Some d → d.node ≡ id
      go None e = absurd (cc (e))
      go (Some node) e = field_number id node d e

  -- a field of a class's row stands at a member of the class
  pub record FieldAt (class : ℕ) (d : Declared) : Type 0 where
    pub is_there : field_at p.nodes d.node ≡ Some d
    pub stands_in_class : (context p d.node).class ≡ Some class

  pub row_field : (class : ℕ) (row : ClassRow) (d : Declared) → slice_get p.classes class ≡ Some row → In d row.fields → FieldAt class d
  unfolding user_row
  row_field class row d e h = go (row_is forest accepted class row e)
    where
      none : In d [] → ⊥
      none h = elim h [ ]

      go : IsFrameworkRow class row ⊎ ((j : ℕ) × (class ≡ length (framework_rows_from 0 framework_classes) + j) × IsUserRow p.nodes p.users j row) → FieldAt class d
      go (inl k) = absurd (none (subst (In d) k.declares_nothing h))
      go (inr u) =
          let m = mapped_in (field_at p.nodes) d u.2.class.members (subst (In d) (ap (λ (r : ClassRow). r.fields) u.2.is) h) in
          let n = field_number_at m.0 d m.2 in
          record {
            is_there = ap (field_at p.nodes) n ∙ m.2;
            stands_in_class = ap (λ x. (context p x).class) n ∙ member_class forest whole accepted sorted class row u.2.class e (written_of forest accepted whole sorted u.0 row u.2) m.0 (among_in m.0 u.2.class.members m.1);
          }

  -- the field that a class declares itself
  pub own_field_at : (class : ℕ) (name : List ℕ) (f : FoundField) → own_field p.classes name class ≡ Some f → (f.on ≡ class) × (class < length p.classes) × FieldAt class f.field
  unfolding own_field
  own_field_at class name f e = go (slice_get p.classes class) refl e
    where
      found : (row : ClassRow) → slice_get p.classes class ≡ Some row → (o : Option Declared) → find (λ (d : Declared). is_same name d.name) row.fields ≡ o → option_map (λ (d : Declared). record { on = class; field = d }) o ≡ Some f → (f.on ≡ class) × (class < length p.classes) × FieldAt class f.field
      found row s None h e = absurd (cc (e))
      found row s (Some d) h e =
          let same : d ≡ f.field = ap (λ (f : FoundField). f.field) (some_inj _ f e) in (
            sym (ap (λ (f : FoundField). f.on) (some_inj _ f e)),
            slice_get_within p.classes class row s,
            row_field class row f.field s (subst (λ z. In z row.fields) same (in_find (λ (d : Declared). is_same name d.name) d row.fields h)),
          )

      go : (o : Option ClassRow) → slice_get p.classes class ≡ o → option_map (λ (d : Declared). record { on = class; field = d }) (option_and_then (λ (row : ClassRow). find (λ (d : Declared). is_same name d.name) row.fields) o) ≡ Some f → (f.on ≡ class) × (class < length p.classes) × FieldAt class f.field
      go None s e = absurd (cc (e))
      go (Some row) s e = found row s _ refl e

  -- the field that a class has
  pub record FieldFound (class : ℕ) (f : FoundField) : Type 0 where
    pub is_class : f.on < length p.classes
    pub is_there : field_at p.nodes f.field.node ≡ Some f.field
    pub stands_in_class : (context p f.field.node).class ≡ Some f.on
    pub above : is_among f.on (superclasses p.classes class) ≡ true

  pub field_found : (class : ℕ) (name : List ℕ) (f : FoundField) → field_named p.classes class name ≡ Some f → FieldFound class f
  unfolding field_named
  field_found class name f e =
      let q = along_in (own_field p.classes name) (superclasses p.classes class) f e in
      let o = own_field_at q.0 name f q.2 in
      record {
        is_class = subst (λ c. c < length p.classes) (sym o.0) o.1;
        is_there = o.2.is_there;
        stands_in_class = o.2.stands_in_class ∙ ap (λ c. Some c) (sym o.0);
        above = ap (λ c. is_among c (superclasses p.classes class)) o.0 ∙ among_in q.0 (superclasses p.classes class) q.1;
      }

  pub found_field_type : (class : ℕ) (name : List ℕ) (f : FoundField) → field_named p.classes class name ≡ Some f → HasType (declared_type_of p f.field)
  found_field_type class name f e = field_has_type forest accepted sorted f.field.node f.field (field_found class name f e).is_there

  -- ---- methods

  -- what a class has for a name, a class or an interface declares
  pub own_found : (class : ℕ) (name : List ℕ) (f : FoundMethod) → method_named p.classes class name ≡ Some f → (y : ℕ) × (own_method p.classes name y ≡ Some f)
  unfolding method_named
  own_found class name f e = (let q = along_in (own_method p.classes name) (superclasses p.classes class ++ all_interfaces p.classes class) f e in (q.0, q.2))

  -- a method of the framework that may be called has a type, and its type is plain
  framework_typed : (y : ℕ) (f : FoundMethod) (row : ClassRow) → IsFrameworkRow y row → In f.method row.methods → f.method.callable ≡ true → (t : Ty) × (declared_type_of p f.method.declared ≡ Some t) × (is_reference t ≡ false)
  unfolding framework_methods_on framework_method
  framework_typed y f row k h c =
      let m = in_mapped framework_method f.method (filter (λ (m : FrameworkMethod). m.on == y) framework_methods) (subst (In f.method) k.methods h) in
      let plain = plain_in framework_methods m.0 table_plain (in_filtered (λ (m : FrameworkMethod). m.on == y) m.0 framework_methods m.1) in
      let gives : gives_plain m.0.gives ≡ true = sym (ap (λ t. not t || gives_plain m.0.gives) (ap (λ (m : DeclaredMethod). m.callable) m.2 ∙ c)) ∙ plain in
      let t = plain_type p.names m.0.gives gives in
      (t.0, ap (λ (m : DeclaredMethod). type_written p.names m.declared.declared_type) (sym m.2) ∙ t.1, t.2)

  -- T14: a user's method whose result is `long` is a size method
  method_form : (id result_type : ℕ) (position : Position) (name : List ℕ) (flags parameters body : Option ℕ) → type_breaks p (type_at_node p) id (Method position name flags result_type parameters body) ≡ [] → broken (misfits_long p id name result_type body) T14 position ≡ []
  unfolding type_breaks t1 t2 t3 t4 t5 t6 t7 t8 t9 t10 t11 t12 t13 t14
  method_form id result_type position name flags parameters None e = e
  method_form id result_type position name flags parameters (Some body) e = (both_empty (broken (ends_without_return p result_type body) T10 position) (broken (misfits_long p id name result_type (Some body)) T14 position) e).1

  has_size : (id class : ℕ) (name : List ℕ) (body : Option ℕ) → (context p id).class ≡ Some class → misfits_size p id name body ≡ false → has_framework_size p class name ≡ true
  unfolding misfits_size
  has_size id class name body c e =
      not_false (has_framework_size p class name) (or_first _ _ (sym (ap (λ (o : Option ℕ). not (holds o (λ class. has_framework_size p class name)) || holds body (λ b. not (holds (read p.nodes (is_size_body p.nodes) b) (λ right. right)))) c) ∙ e))

  long_is_size : (id class : ℕ) (node : Node) (m : DeclaredMethod) → slice_get p.nodes id ≡ Some node → method_of p.nodes id node ≡ Some m → (context p id).class ≡ Some class → m.declared.declared_type ≡ long_type → has_framework_size p class m.declared.name ≡ true
  unfolding method_of is_same_type
  long_is_size id class (Method position name flags result_type parameters body) m stands is c long =
      let n = no_break_at_node forest accepted id (Method position name flags result_type parameters body) stands in
      let written : type_at p.nodes result_type ≡ long_type = ap (λ (m : DeclaredMethod). m.declared.declared_type) (some_inj _ m is) ∙ long in
      let size : misfits_size p id name body ≡ false = sym (ap (λ t. is_same_type t long_type && misfits_size p id name body) written)
      ∙ right (misfits_long p id name result_type body) T14 position (method_form id result_type position name flags parameters body n.no_type_rule) in
      ap (has_framework_size p class) (sym (ap (λ (m : DeclaredMethod). m.declared.name) (some_inj _ m is))) ∙ has_size id class name body c size
  long_is_size id class _ m stands is c long = absurd (cc (is))

  user_typed : (f : FoundMethod) → IsUserMethod p f → is_callable p f ≡ true → HasType (declared_type_of p f.method.declared)
  unfolding is_same_type
  user_typed f u c =
      elim (result_has_type forest accepted sorted f.method.declared.node f.method u.is_there) as (λ z. HasType (declared_type_of p f.method.declared)) [
        | inl long ↦ (
            let n = method_node p.nodes f.method.declared.node f.method u.is_there in
            let size = long_is_size f.method.declared.node f.on n.node f.method n.is_there n.is u.stands_in_class long in
            let both : is_size_method p f ≡ true = ap (λ t. is_same_type t long_type && has_framework_size p f.on f.method.declared.name) long ∙ size in
            absurd (true≢false (sym (and_true f.method.callable (not (is_size_method p f)) c).1 ∙ ap not both)))
        | inr t ↦ t
      ]

  -- no method of a user class is the framework's
  pub none_of_user : (j : ℕ) (row : ClassRow) → IsUserRow p.nodes p.users j row → (m : DeclaredMethod) → In m row.methods → is_some m.builtin ≡ false
  unfolding user_row
  none_of_user j row u m h =
      let q = mapped_in (method_at p.nodes) m u.class.members (subst (In m) (ap (λ (r : ClassRow). r.methods) u.is) h) in
      let n = method_node p.nodes q.0 m q.2 in ap is_some n.not_builtin

  -- what may be called has a type
  pub called_has_type : (class : ℕ) (name : List ℕ) (f : FoundMethod) → method_named p.classes class name ≡ Some f → is_callable p f ≡ true → HasType (declared_type_of p f.method.declared)
  called_has_type class name f e c = go (is_some f.method.builtin) refl
    where
      q : (y : ℕ) × (own_method p.classes name y ≡ Some f)
      q = own_found class name f e

      d : OwnDeclaration forest accepted q.0 name f
      d = own_declaration forest accepted q.0 name f q.1

      go : (t : Bool) → is_some f.method.builtin ≡ t → HasType (declared_type_of p f.method.declared)
      go false b = user_typed f (user_method forest accepted whole sorted q.0 name f q.1 b) c
      go true b = elim (row_is forest accepted q.0 d.row d.is_row) as (λ z. HasType (declared_type_of p f.method.declared)) [
        | inl k ↦ (let t = framework_typed q.0 f d.row k d.among (and_true f.method.callable (not (is_size_method p f)) c).0 in (t.0, t.1))
        | inr u ↦ absurd (true≢false (sym b ∙ none_of_user u.0 d.row u.2 f.method d.among))
      ]

  -- what may be called and gives a reference, a user class declares
  pub reference_of_user : (class : ℕ) (name : List ℕ) (f : FoundMethod) (t : Ty) → method_named p.classes class name ≡ Some f → is_callable p f ≡ true → declared_type_of p f.method.declared ≡ Some t → is_reference t ≡ true → IsUserMethod p f
  reference_of_user class name f t e c typed r = go (is_some f.method.builtin) refl
    where
      q : (y : ℕ) × (own_method p.classes name y ≡ Some f)
      q = own_found class name f e

      d : OwnDeclaration forest accepted q.0 name f
      d = own_declaration forest accepted q.0 name f q.1

      plain : IsFrameworkRow q.0 d.row → ⊥
      plain k =
          let u = framework_typed q.0 f d.row k d.among (and_true f.method.callable (not (is_size_method p f)) c).0 in
          true≢false (sym (ap is_reference (some_inj u.0 t (sym u.1 ∙ typed)) ∙ r) ∙ u.2)

      go : (t : Bool) → is_some f.method.builtin ≡ t → IsUserMethod p f
      go false b = user_method forest accepted whole sorted q.0 name f q.1 b
      go true b = elim (row_is forest accepted q.0 d.row d.is_row) as (λ z. IsUserMethod p f)
          [ inl k ↦ absurd (plain k) | inr u ↦ absurd (true≢false (sym b ∙ none_of_user u.0 d.row u.2 f.method d.among)) ]
