-- The parts of a framework's form stand where the form is written: as arguments of a super call, or of a part of the form.
use Rattle.std.proofs.Common.{◌≡◌, ℕ, List, [], ◌∷◌, length, refl, sym, ap, ◌∙◌, subst, Option, Some, None, Bool, true, false, not, ◌&&◌, true≢false, ◌⊎◌, inl, inr, option_and_then, option_map, slice_get, if◌then◌else◌, ◌==◌}
use Rattle.scj_base.specs.declared.positions.Position.{Position}
use Rattle.scj_builtins.specs.Framework.{periodic_handler, mission_sequencer, periodic_parameters, aperiodic_parameters, relative_time}
use Rattle.scj_tree.specs.declared.nodes.Node.{Node}
use Rattle.scj_tree.specs.declared.nodes.Node.TheVariants.{SuperCall, New, Constructor}
use Rattle.scj_tree.specs.Forest.{Forest, IsForest}
use Rattle.scj_tree.specs.Shape.{children}
use Rattle.scj_rules.specs.declared.contexts.Context.{Context}
use Rattle.scj_rules.specs.Definitions.{read}
use Rattle.scj_rules.specs.Words.{is_among, holds, or_else}
use Rattle.scj_rules.specs.Views.{DeclaredConstructor, constructor_at, constructor_of, super_arguments}
use Rattle.scj_rules.specs.Classes.{ClassRow, class_number, superclass_in, user_row}
use Rattle.scj_rules.specs.Contexts.{Declarations, declarations_of, context, child_context, is_super_call}
use Rattle.scj_rules.specs.Types.{new_of, is_new, periodic_part, release_part, have_priority_and_storage, form_parts, has_form, super_call_in, form_in, is_form_part, constructor_in}
use Rattle.scj_rules.specs.Phases.{IsAccepted}
use Rattle.scj_rules.proofs.ChainLemmas.{or_cases, or_left, or_right, same_number, is_same_number}
use Rattle.scj_rules.proofs.ParentLemmas.{parent-of}
use Rattle.accepted_laws.proofs.ClassNumbers.{no_class_number}
use Rattle.accepted_laws.proofs.Contexts.{child_context_is}
use Rattle.accepted_laws.proofs.Fields.{In, here}
use Rattle.accepted_laws.proofs.InnerNodes.{is_no_class}
use Rattle.accepted_laws.proofs.Interfaces.{row_is, mapped_in}
use Rattle.accepted_laws.proofs.Tools.{some_inj}

and_true : (a b : Bool) → (a && b) ≡ true → (a ≡ true) × (b ≡ true)
and_true true b e = (refl, e)
and_true false b e = absurd (true≢false (sym e))

-- what an option that goes on has
pub bound : {A B : Type 0} (o : Option A) (f : A → Option B) (y : B) → option_and_then f o ≡ Some y → (x : A) × (o ≡ Some x) × (f x ≡ Some y)
bound None f y e = absurd (cc (e))
bound (Some x) f y e = (x, refl, e)

pub held : {A : Type 0} (o : Option A) (test : A → Bool) → holds o test ≡ true → (x : A) × (o ≡ Some x) × (test x ≡ true)
held None test e = absurd (true≢false (sym e))
held (Some x) test e = (x, refl, e)

pub if_some : {A : Type 0} (t : Bool) (o : Option A) (y : A) → (if t then o else None) ≡ Some y → (t ≡ true) × (o ≡ Some y)
if_some true o y e = (refl, e)
if_some false o y e = absurd (cc (e))

-- the node at which a super call is written
pub record IsSuperCall (p : Declarations) (arguments : List ℕ) : Type 0 where
  pub node : ℕ
  pub position : Position
  pub is_there : slice_get p.nodes node ≡ Some (SuperCall position arguments)

-- `new` of a form's class at a node
pub record IsNewAt (p : Declarations) (class : ℕ) (id : ℕ) (arguments : List ℕ) : Type 0 where
  pub position : Position
  pub name_position : Position
  pub name : List ℕ
  pub is_there : slice_get p.nodes id ≡ Some (New position name_position name arguments)
  pub names : class_number p.names name ≡ Some class

module _ (p : Declarations) where
  super_at : (sc : ℕ) (node : Node) (arguments : List ℕ) → slice_get p.nodes sc ≡ Some node → super_arguments node ≡ Some arguments → IsSuperCall p arguments
  unfolding super_arguments
  super_at sc (SuperCall position list) arguments there e = (let same = some_inj list arguments e in record { node = sc; position = position; is_there = there ∙ ap (λ xs. Some (SuperCall position xs)) same })
  super_at sc _ arguments there e = absurd (cc (e))

  constructor_super : (id : ℕ) (node : Node) (c : DeclaredConstructor) (arguments : List ℕ) → constructor_of p.nodes id node ≡ Some c → c.super_call ≡ Some arguments → IsSuperCall p arguments
  unfolding constructor_of
  constructor_super id (Constructor position name flags parameters super_call body) c arguments e s =
      let a = bound super_call (read p.nodes super_arguments) arguments (ap (λ (c : DeclaredConstructor). c.super_call) (some_inj _ c e) ∙ s) in
      let b = bound (slice_get p.nodes a.0) super_arguments arguments a.2 in
      super_at a.0 b.0 arguments b.1 b.2
  constructor_super id _ c arguments e s = absurd (cc (e))

  -- a super call of a constructor that is declared at a node
  constructor_super_at : (id : ℕ) (c : DeclaredConstructor) (arguments : List ℕ) → constructor_at p.nodes id ≡ Some c → c.super_call ≡ Some arguments → IsSuperCall p arguments
  constructor_super_at id c arguments e s = (let a = bound (slice_get p.nodes id) (constructor_of p.nodes id) c e in constructor_super id a.0 c arguments a.2 s)

  new_at : (class count id : ℕ) (arguments : List ℕ) (node : Node) → slice_get p.nodes id ≡ Some node → new_of p class count node ≡ Some arguments → IsNewAt p class id arguments
  unfolding new_of
  new_at class count id arguments (New position name_position name list) there e =
      let a = if_some (holds (class_number p.names name) (λ c. c == class) && (length list == count)) (Some list) arguments e in
      let same = some_inj list arguments a.1 in
      let b = and_true (holds (class_number p.names name) (λ c. c == class)) (length list == count) a.0 in
      let c = held (class_number p.names name) (λ c. c == class) b.0 in
      record { position = position; name_position = name_position; name = name; is_there = there ∙ ap (λ xs. Some (New position name_position name xs)) same; names = c.1 ∙ ap (λ n. Some n) (same_number c.0 class c.2) }
  new_at class count id arguments _ there e = absurd (cc (e))

  read_new : (class count id : ℕ) (arguments : List ℕ) → read p.nodes (new_of p class count) id ≡ Some arguments → IsNewAt p class id arguments
  read_new class count id arguments e = (let a = bound (slice_get p.nodes id) (new_of p class count) arguments e in new_at class count id arguments a.0 a.1 a.2)

  -- where a part of the release parameters stands: it is the argument, or an argument of that `new`
  record ReleasePart (id x : ℕ) (parts : List ℕ) : Type 0 where
    itself : is_among id parts ≡ true
    stands : (x ≡ id) ⊎ ((class : ℕ) × (arguments : List ℕ) × IsNewAt p class id arguments × (is_among x arguments ≡ true))

  periodic_parts : (id x : ℕ) (arguments parts : List ℕ) → IsNewAt p periodic_parameters id arguments → periodic_part p id arguments ≡ Some parts → is_among x parts ≡ true → ReleasePart id x parts
  unfolding periodic_part
  periodic_parts id x (start ∷ period ∷ []) parts n e h =
      let a = if_some (is_new p relative_time 2 start && is_new p relative_time 2 period) (Some (id ∷ start ∷ period ∷ [])) parts e in
      let same = some_inj (id ∷ start ∷ period ∷ []) parts a.1 in
      record {
        itself = ap (is_among id) (sym same) ∙ or_left (id == id) _ (is_same_number id id refl);
        stands = elim (or_cases (x == id) (is_among x (start ∷ period ∷ [])) (ap (is_among x) same ∙ h)) as (λ z. (x ≡ id) ⊎ ((class : ℕ) × (arguments : List ℕ) × IsNewAt p class id arguments × (is_among x arguments ≡ true))) [
          | inl s ↦ inl (same_number x id s)
          | inr k ↦ inr (periodic_parameters, start ∷ period ∷ [], n, k)
        ];
      }
  periodic_parts id x _ parts n e h = absurd (cc (e))

  alone : (id x : ℕ) (parts : List ℕ) → id ∷ [] ≡ parts → is_among x parts ≡ true → ReleasePart id x parts
  alone id x parts same h =
      record {
        itself = ap (is_among id) (sym same) ∙ or_left (id == id) _ (is_same_number id id refl);
        stands = elim (or_cases (x == id) (is_among x []) (ap (is_among x) same ∙ h)) as (λ z. (x ≡ id) ⊎ ((class : ℕ) × (arguments : List ℕ) × IsNewAt p class id arguments × (is_among x arguments ≡ true)))
            [ inl s ↦ inl (same_number x id s) | inr k ↦ absurd (true≢false (sym k)) ];
      }

  release_parts : (superclass id x : ℕ) (parts : List ℕ) → release_part p superclass id ≡ Some parts → is_among x parts ≡ true → ReleasePart id x parts
  unfolding release_part
  release_parts superclass id x parts e h = go (superclass == periodic_handler) e
    where
      go : (t : Bool) → (if t then option_and_then (periodic_part p id) (read p.nodes (new_of p periodic_parameters 2) id) else (if is_new p aperiodic_parameters 0 id then Some (id ∷ []) else None)) ≡ Some parts → ReleasePart id x parts
      go true e = (let a = bound (read p.nodes (new_of p periodic_parameters 2) id) (periodic_part p id) parts e in periodic_parts id x a.0 parts (read_new periodic_parameters 2 id a.0 a.1) a.2 h)
      go false e = (let a = if_some (is_new p aperiodic_parameters 0 id) (Some (id ∷ [])) parts e in alone id x parts (some_inj (id ∷ []) parts a.1) h)

  -- where a part of a form stands: it is an argument of the super call, or of a `new` that is one, and itself a part
  abbrev Stands : List ℕ → List ℕ → ℕ → Type 0
  Stands arguments parts x =
      (is_among x arguments ≡ true)
      ⊎ ((id class : ℕ) × (list : List ℕ) × IsNewAt p class id list × (is_among x list ≡ true) × (is_among id parts ≡ true) × (is_among id arguments ≡ true))

  three : (priority release storage x : ℕ) (rest parts : List ℕ) → priority ∷ storage ∷ rest ≡ parts → is_among x parts ≡ true → (is_among x rest ≡ true → ReleasePart release x rest) → Stands (priority ∷ release ∷ storage ∷ []) parts x
  three priority release storage x rest parts same h k = first (or_cases (x == priority) (is_among x (storage ∷ rest)) (ap (is_among x) same ∙ h))
    where
      all : List ℕ
      all = priority ∷ release ∷ storage ∷ []

      at_release : is_among release all ≡ true
      at_release = or_right (release == priority) _ (or_left (release == release) _ (is_same_number release release refl))

      in_rest : is_among x rest ≡ true → Stands all parts x
      in_rest m =
          let r = k m in
          elim r.stands as (λ z. Stands all parts x) [
            | inl s ↦ inl (ap (λ n. is_among n all) s ∙ at_release)
            | inr q ↦ inr (release, q.0, q.1, q.2, q.3, ap (is_among release) (sym same) ∙ or_right (release == priority) _ (or_right (release == storage) _ r.itself), at_release)
          ]

      second : ((x == storage) ≡ true) ⊎ (is_among x rest ≡ true) → Stands all parts x
      second (inl s) = inl (or_right (x == priority) _ (or_right (x == release) _ (or_left (x == storage) _ s)))
      second (inr m) = in_rest m

      first : ((x == priority) ≡ true) ⊎ (is_among x (storage ∷ rest) ≡ true) → Stands all parts x
      first (inl s) = inl (or_left (x == priority) _ s)
      first (inr m) = second (or_cases (x == storage) (is_among x rest) m)

  part_stands : (superclass : ℕ) (arguments parts : List ℕ) (x : ℕ) → form_parts p superclass arguments ≡ Some parts → is_among x parts ≡ true → Stands arguments parts x
  unfolding form_parts
  part_stands superclass (priority ∷ storage ∷ []) parts x e h =
      let a = if_some ((superclass == mission_sequencer) && have_priority_and_storage p priority storage) (Some (priority ∷ storage ∷ [])) parts e in
      inl (ap (is_among x) (some_inj (priority ∷ storage ∷ []) parts a.1) ∙ h)
  part_stands superclass (priority ∷ release ∷ storage ∷ []) parts x e h =
      let a = if_some (not (superclass == mission_sequencer) && have_priority_and_storage p priority storage) (option_map (λ parts. priority ∷ storage ∷ parts) (release_part p superclass release)) parts e in
      mapped (release_part p superclass release) refl a.1
    where
      mapped : (o : Option (List ℕ)) → release_part p superclass release ≡ o → option_map (λ (parts : List ℕ). priority ∷ storage ∷ parts) o ≡ Some parts → Stands (priority ∷ release ∷ storage ∷ []) parts x
      mapped None r f = absurd (cc (f))
      mapped (Some rest) r f = three priority release storage x rest parts (some_inj _ parts f) h (λ m. release_parts superclass release x rest r m)
  part_stands superclass _ parts x e h = absurd (cc (e))

-- a node whose arguments may be parts of a form
unfoldable pub takes_parts : Declarations → ℕ → Node → Bool
takes_parts p id (SuperCall position arguments) = true
takes_parts p id (New position name_position name arguments) = is_form_part p id
takes_parts p id _ = false

module _ (forest : Forest) (whole : IsForest forest) (accepted : IsAccepted forest) where
  abbrev q : Declarations
  q = declarations_of forest

  -- the constructor of a class stands at a node
  constructor_node : (class : ℕ) (c : DeclaredConstructor) → constructor_in q.classes class ≡ Some c → (id : ℕ) × (constructor_at q.nodes id ≡ Some c)
  unfolding constructor_in user_row
  constructor_node class c e =
      let a = bound (slice_get q.classes class) (λ (row : ClassRow). elim row.constructors as (λ _. Option DeclaredConstructor) [ [] ↦ None | c ∷ cs ↦ Some c ]) c e in
      let i = head_in a.0.constructors a.2 in
      elim (row_is forest accepted class a.0 a.1) as (λ z. (id : ℕ) × (constructor_at q.nodes id ≡ Some c)) [
        | inl k ↦ absurd (none_in (subst (In c) (k.constructs_nothing) i))
        | inr u ↦ (let m = mapped_in (constructor_at q.nodes) c u.2.class.members (subst (In c) (ap (λ (r : ClassRow). r.constructors) u.2.is) i) in (m.0, m.2))
      ]
    where
      head_in : (cs : List DeclaredConstructor) → (elim cs as (λ _. Option DeclaredConstructor) [ [] ↦ None | c ∷ cs ↦ Some c ]) ≡ Some c → In c cs
      head_in [] e = absurd (cc (e))
      head_in (d ∷ cs) e = subst (λ x. In x (d ∷ cs)) (some_inj d c e) here

      none_in : In c [] → ⊥
      none_in h = elim h [ ]

  -- the form of a class, and the super call in which it is written
  pub record HasForm (class : ℕ) (parts : List ℕ) : Type 0 where
    pub superclass : ℕ
    pub is_superclass : superclass_in q.classes class ≡ Some superclass
    pub constructor : DeclaredConstructor
    pub is_constructor : constructor_in q.classes class ≡ Some constructor
    pub arguments : List ℕ
    pub are_arguments : constructor.super_call ≡ Some arguments
    pub written : IsSuperCall q arguments
    pub parts_are : form_parts q superclass arguments ≡ Some parts

  pub form_of : (class : ℕ) (parts : List ℕ) → form_in q class ≡ Some parts → HasForm class parts
  unfolding form_in
  form_of class parts e =
      let a = bound (superclass_in q.classes class) (λ superclass. if has_form superclass then option_and_then (form_parts q superclass) (super_call_in q class) else None) parts e in
      let b = if_some (has_form a.0) (option_and_then (form_parts q a.0) (super_call_in q class)) parts a.2 in
      let c = bound (super_call_in q class) (form_parts q a.0) parts b.1 in
      let d = bound (constructor_in q.classes class) (λ (c : DeclaredConstructor). c.super_call) c.0 c.1 in
      let n = constructor_node class d.0 d.1 in
      record {
        superclass = a.0;
        is_superclass = a.1;
        constructor = d.0;
        is_constructor = d.1;
        arguments = c.0;
        are_arguments = d.2;
        written = constructor_super_at q n.0 d.0 c.0 n.1 d.2;
        parts_are = c.2;
      }

  -- the parent of a part of a form
  pub record PartParent (x : ℕ) : Type 0 where
    pub parent : ℕ
    pub node : Node
    pub is_there : slice_get forest.nodes parent ≡ Some node
    pub among : is_among x (children node) ≡ true
    pub takes : takes_parts q parent node ≡ true

  pub part_parent : (x : ℕ) → is_form_part q x ≡ true → PartParent x
  unfolding declarations_of is_form_part child_context takes_parts children is_super_call is_no_class
  part_parent x e =
      let a = and_true (context q x).in_super_call (holds (context q x).class (λ class. holds (form_in q class) (is_among x))) e in
      let b = held (context q x).class (λ class. holds (form_in q class) (is_among x)) a.1 in
      let c = held (form_in q b.0) (is_among x) b.2 in
      let f = form_of b.0 c.0 c.1 in
      elim (part_stands q f.superclass f.arguments c.0 x f.parts_are c.2) as (λ z. PartParent x) [
        | inl h ↦ record { parent = f.written.node; node = SuperCall f.written.position f.arguments; is_there = f.written.is_there; among = h; takes = refl }
        | inr s ↦ (
            let n = s.3 in
            let inside : (context q s.0).in_super_call ≡ true = ap (λ (c : Context). c.in_super_call) (child_context_is forest whole f.written.node s.0 (SuperCall f.written.position f.arguments) f.written.is_there s.6) in
            let same : (context q x).class ≡ (context q s.0).class = ap (λ (c : Context). c.class) (child_context_is forest whole s.0 x (New n.position n.name_position n.name s.2) n.is_there s.4)
            ∙ ap (λ o. or_else o (context q s.0).class) (no_class_number forest whole s.0 (New n.position n.name_position n.name s.2) n.is_there refl) in
            let part : is_form_part q s.0 ≡ true = ap (λ t. t && holds (context q s.0).class (λ class. holds (form_in q class) (is_among s.0))) inside
            ∙ ap (λ (o : Option ℕ). holds o (λ class. holds (form_in q class) (is_among s.0))) (sym same ∙ b.1) ∙ ap (λ (o : Option (List ℕ)). holds o (is_among s.0)) c.1 ∙ s.5 in
            record { parent = s.0; node = New n.position n.name_position n.name s.2; is_there = n.is_there; among = s.4; takes = part })
      ]

  -- what stands elsewhere is no part of a form
  pub no_part : (k x : ℕ) (node : Node) → slice_get forest.nodes k ≡ Some node → is_among x (children node) ≡ true → takes_parts q k node ≡ false → is_form_part q x ≡ false
  no_part k x node there among plain = go (is_form_part q x) refl
    where
      go : (t : Bool) → is_form_part q x ≡ t → is_form_part q x ≡ false
      go false e = e
      go true e =
          let f = part_parent x e in
          let same : k ≡ f.parent = some_inj k f.parent (sym (parent-of forest whole k x node there among) ∙ parent-of forest whole f.parent x f.node f.is_there f.among) in
          let also : node ≡ f.node = some_inj node f.node (sym there ∙ ap (slice_get forest.nodes) same ∙ f.is_there) in
          absurd (true≢false (sym (ap (takes_parts q k) also ∙ ap (λ n. takes_parts q n f.node) same ∙ f.takes) ∙ plain))
