-- What is broken at a node follows from the types of the nodes before it alone.
use Rattle.std.proofs.Common.{◌≡◌, ◌<◌, ◌==◌, ℕ, Bool, not, ◌&&◌, ◌||◌, List, [], ◌∷◌, ◌++◌, length, Option, Some, None, is_some, option_map, option_and_then, if◌then◌else◌, slice_get, refl, ap, ◌∙◌, arith}
use Rattle.std.specs.List.{list_any}
use Rattle.scj_base.specs.declared.findings.Found.{Found}
use Rattle.scj_base.specs.declared.findings.Rule.TheVariants.{T2, T3, T4, T5, T6, T7, T8, T9, T11, T12, T13, T14}
use Rattle.scj_tree.specs.declared.nodes.Node.{Node}
use Rattle.scj_tree.specs.declared.nodes.Node.TheVariants.{Field, Method, SuperCall, LocalWithValue, Assign, If, While, For, Return, Binary, Unary, Cast, FieldAccess, Call, Element, New, NewArray}
use Rattle.scj_tree.specs.Forest.{AllBelow}
use Rattle.scj_tree.specs.Shape.{children, optional}
use Rattle.scj_rules.specs.declared.typing.Ty.{Ty}
use Rattle.scj_rules.specs.declared.typing.Ty.TheVariants.{Class as ClassTy}
use Rattle.scj_rules.specs.declared.typing.FoundField.{FoundField}
use Rattle.scj_rules.specs.declared.typing.Receiver.{Receiver}
use Rattle.scj_rules.specs.declared.typing.Receiver.TheVariants.{Class as the_class, Value as the_value}
use Rattle.scj_rules.specs.Definitions.{read}
use Rattle.scj_rules.specs.Words.{broken, holds}
use Rattle.scj_rules.specs.Classes.{FoundMethod, class_number, is_user_class}
use Rattle.scj_rules.specs.Views.{position_at}
use Rattle.scj_rules.specs.Contexts.{Declarations, variable_named}
use Rattle.scj_rules.specs.Types.{receiver, call_receiver, class_at_name, all_types, accepts_arguments, is_no_reference, called_method, accessed_field, is_int, is_boolean, is_array, is_array_value, is_length, binary_type, unary_type, kind_is, is_form, has_form, is_form_part, constructor_parameters}
use Rattle.scj_rules.specs.TypeRules.{Types, t1, t2, t3, t4, t5, t6, t7, t8, t9, t10, t11, t12, t13, t14, type_breaks, lacks_field, lacks_method, lacks_object, misfits_method, misfits_new, misfits_form_part, is_never_made, are_related, element_class, written_type, misfits_value, is_length_target, superclass_at, result_at, fits_result}

-- the types of the smaller numbers are the same
abbrev pub Same : ℕ → Types → Types → Type 0
Same id t u = (c : ℕ) → c < id → t c ≡ u c

pub below-right : (n : ℕ) (xs ys : List ℕ) → AllBelow n (xs ++ ys) → AllBelow n ys
unfolding AllBelow
below-right n [] ys b = b
below-right n (x ∷ xs) ys b = below-right n xs ys b.1

pub all-same : (id : ℕ) (t u : Types) (ids : List ℕ) → Same id t u → AllBelow id ids → all_types t ids ≡ all_types u ids
unfolding AllBelow all_types
all-same id t u [] same b = refl
all-same id t u (c ∷ cs) same b =
    ap (λ (o : Option Ty). option_and_then (λ (ty : Ty). option_map (λ (ts : List Ty). ty ∷ ts) (all_types t cs)) o) (same c b.0)
    ∙ ap (λ (o : Option (List Ty)). option_and_then (λ (ty : Ty). option_map (λ (ts : List Ty). ty ∷ ts) o) (u c)) (all-same id t u cs same b.1)

module _ (p : Declarations) where
  abbrev no-int : Types → ℕ → Bool
  no-int t a = not (is_form_part p a) && holds (t a) (λ ty. not (is_int ty))

  ints-same : (id : ℕ) (t u : Types) (ids : List ℕ) → Same id t u → AllBelow id ids → list_any (no-int t) ids ≡ list_any (no-int u) ids
  unfolding AllBelow
  ints-same id t u [] same b = refl
  ints-same id t u (c ∷ cs) same b =
      ap (λ (o : Option Ty). (not (is_form_part p c) && holds o (λ ty. not (is_int ty))) || list_any (no-int t) cs) (same c b.0)
      ∙ ap (λ (b : Bool). no-int u c || b) (ints-same id t u cs same b.1)

  abbrev untyped : Types → ℕ → Bool
  untyped t a = not (is_form_part p a) && not (is_some (t a))

  untyped-same : (id : ℕ) (t u : Types) (ids : List ℕ) → Same id t u → AllBelow id ids
      → list_any (untyped t) ids ≡ list_any (untyped u) ids
  unfolding AllBelow
  untyped-same id t u [] same b = refl
  untyped-same id t u (c ∷ cs) same b =
      ap (λ (o : Option Ty). (not (is_form_part p c) && not (is_some o)) || list_any (untyped t) cs) (same c b.0)
      ∙ ap (λ (b : Bool). untyped u c || b) (untyped-same id t u cs same b.1)

  part-same : (id : ℕ) (t u : Types) (ids : List ℕ) → Same id t u → AllBelow id ids
      → misfits_form_part p t ids ≡ misfits_form_part p u ids
  part-same id t u ids same b =
      ap (λ (x : Bool). not x && list_any (no-int t) ids) (untyped-same id t u ids same b)
      ∙ ap (λ (x : Bool). not (list_any (untyped u) ids) && x) (ints-same id t u ids same b)

  pub receiver-same : (t u : Types) (object : ℕ) → t object ≡ u object → receiver p t object ≡ receiver p u object
  unfolding receiver
  receiver-same t u object e =
      ap (λ (o : Option Ty). elim (read p.nodes (class_at_name p object) object) as (λ _. Option Receiver) [ Some class ↦ Some (the_class class) | None ↦ option_map (λ ty. the_value ty) o ]) e

  pub call-receiver-same : (id : ℕ) (t u : Types) (object : Option ℕ) (arguments : List ℕ) → Same id t u → AllBelow id (optional object ++ arguments) → call_receiver p t id object ≡ call_receiver p u id object
  unfolding AllBelow call_receiver
  call-receiver-same id t u None arguments same b = refl
  call-receiver-same id t u (Some object) arguments same b = receiver-same t u object (same object b.0)

  -- each node stands behind its children
  abbrev pub BehindChildren : Type 0
  BehindChildren = (k : ℕ) (node : Node) → slice_get p.nodes k ≡ Some node → AllBelow k (children node)

  length-same : BehindChildren → (id : ℕ) (t u : Types) (target : ℕ) → Same id t u → target < id → read p.nodes (is_length_target p t) target ≡ read p.nodes (is_length_target p u) target
  unfolding AllBelow children is_length_target
  length-same first id t u target same l = go (slice_get p.nodes target) refl
    where
      of : (node : Node) → AllBelow target (children node) → is_length_target p t node ≡ is_length_target p u node
      of (FieldAccess position name object) b =
          ap (λ (o : Option Receiver). Some (holds o (λ r. is_array_value r && is_length name))) (receiver-same t u object (same object (omega (arith, l, b.0))))
      of _ b = refl

      go : (o : Option Node) → slice_get p.nodes target ≡ o → option_and_then (is_length_target p t) o ≡ option_and_then (is_length_target p u) o
      go None there = refl
      go (Some node) there = of node (first target node there)

  pub breaks-same : BehindChildren → (id : ℕ) (t u : Types) (node : Node) → Same id t u → AllBelow id (children node) → type_breaks p t id node ≡ type_breaks p u id node
  unfolding AllBelow children type_breaks t1 t2 t3 t4 t5 t6 t7 t8 t9 t10 t11 t12 t13 t14 misfits_method misfits_new
  breaks-same first id t u (Binary position operator left right) same b =
      let f : Option Ty → Option Ty → List Found = λ l r. broken (holds l (λ x. holds r (λ y. not (is_some (binary_type p.classes operator x y))))) T3 position ++ [] in
      ap (λ l. f l (t right)) (same left b.0) ∙ ap (λ r. f (u left) r) (same right b.1.0)
  breaks-same first id t u (Unary position operator operand) same b =
      ap (λ (o : Option Ty). broken (holds o (λ x. not (is_some (unary_type operator x)))) T3 position ++ []) (same operand b.0)
  breaks-same first id t u (Element position array index) same b =
      let f : Option Ty → Option Ty → List Found = λ l r. broken (holds l (λ x. holds r (λ i. not (is_array x && is_int i)))) T3 position ++ [] in
      ap (λ l. f l (t index)) (same array b.0) ∙ ap (λ r. f (u array) r) (same index b.1.0)
  breaks-same first id t u (NewArray position element length) same b =
      ap (λ (o : Option Ty). broken (holds o (λ n. not (is_int n))) T3 position ++ broken (holds (read p.nodes (element_class p) element) (kind_is is_form p)) T14 position) (same length b.1.0)
  breaks-same first id t u (Cast position name_position name operand) same b =
      ap (λ (o : Option Ty). broken (holds o (λ x. holds (class_number p.names name) (λ class. not (are_related p.classes x (ClassTy class))))) T12 position ++ []) (same operand b.0)
  breaks-same first id t u (FieldAccess position name object) same b =
      ap (λ (o : Option Receiver). broken (holds o is_no_reference) T3 position ++ (broken (holds o (λ r. lacks_field p r name)) T4 position ++ (broken (holds o (λ r. lacks_object p id r && holds (accessed_field p r name) (λ (f : FoundField). not f.field.modifiers.is_static))) T13 position ++ [])))
      (receiver-same t u object (same object b.0))
  breaks-same first id t u (Call position name object arguments) same b =
      let f : Option Receiver → Option (List Ty) → List Found = λ o ts.
      broken (holds o (λ r. holds ts (λ _. is_no_reference r))) T3 position
      ++ (broken (holds o (λ r. holds ts (λ _. lacks_method p r name))) T5 position
      ++ (broken (holds o (λ r. not (lacks_method p r name) && holds (called_method p r name) (λ (m : FoundMethod). holds ts (λ xs. not (accepts_arguments p m.method.parameters xs))))) T6 position
      ++ (broken (holds o (λ r. holds ts (λ _. lacks_object p id r && (not (lacks_method p r name) && holds (called_method p r name) (λ (m : FoundMethod). not m.method.declared.modifiers.is_static))))) T13 position ++ []))) in
      ap (λ o. f o (all_types t arguments)) (call-receiver-same id t u object arguments same b)
      ∙ ap (λ ts. f (call_receiver p u id object) ts) (all-same id t u arguments same (below-right id (optional object) arguments b))
  breaks-same first id t u (New position name_position name arguments) same b =
      let f : Bool → Option (List Ty) → List Found = λ part ts.
      broken (if is_form_part p id then part else holds (class_number p.names name) (λ class. (is_user_class class || (class == 0)) && holds ts (λ xs. not (accepts_arguments p (constructor_parameters p.classes class) xs)))) T6 position
      ++ (broken (holds ts (λ _. holds (class_number p.names name) (kind_is is_never_made p))) T11 position
      ++ broken (holds (class_number p.names name) (kind_is is_form p) && not (is_form_part p id)) T14 position) in
      ap (λ part. f part (all_types t arguments)) (part-same id t u arguments same b)
      ∙ ap (λ ts. f (misfits_form_part p u arguments) ts) (all-same id t u arguments same b)
  breaks-same first id t u (Field position name flags declared_type None value) same b = refl
  breaks-same first id t u (Field position name flags declared_type (Some equals) None) same b = refl
  breaks-same first id t u (Field position name flags declared_type (Some equals) (Some value)) same b =
      ap (λ (o : Option Ty). broken (misfits_value p (written_type p declared_type) o) T7 equals ++ []) (same value (below-right id (optional flags) (declared_type ∷ value ∷ []) b).1.0)
  breaks-same first id t u (Method position name flags result_type parameters None) same b = refl
  breaks-same first id t u (Method position name flags result_type parameters (Some body)) same b = refl
  breaks-same first id t u (SuperCall position arguments) same b =
      ap (λ (o : Option (List Ty)). broken (holds (superclass_at p id) (λ superclass. not (has_form superclass) && holds o (λ ts. not (accepts_arguments p (constructor_parameters p.classes superclass) ts)))) T6 position ++ [])
      (all-same id t u arguments same b)
  breaks-same first id t u (LocalWithValue position name_position name flags declared_type value) same b =
      ap (λ (o : Option Ty). broken (is_some (variable_named p id name)) T2 name_position ++ (broken (misfits_value p (written_type p declared_type) o) T7 position ++ []))
      (same value (below-right id (optional flags) (declared_type ∷ value ∷ []) b).1.0)
  breaks-same first id t u (Assign position target value) same b =
      let f : Option Ty → Option Ty → Option Bool → List Found = λ a v o. broken (is_some a && (is_some v && (misfits_value p a v || holds o (λ h. h)))) T7 position ++ [] in
      ap (λ a. f a (t value) (read p.nodes (is_length_target p t) target)) (same target b.0)
      ∙ ap (λ v. f (u target) v (read p.nodes (is_length_target p t) target)) (same value b.1.0)
      ∙ ap (λ o. f (u target) (u value) o) (length-same first id t u target same b.0)
  breaks-same first id t u (If position condition then_part else_part) same b =
      ap (λ (o : Option Ty). broken (holds o (λ ty. not (is_boolean ty))) T8 (position_at p.nodes condition) ++ []) (same condition b.0)
  breaks-same first id t u (While position condition body) same b =
      ap (λ (o : Option Ty). broken (holds o (λ ty. not (is_boolean ty))) T8 (position_at p.nodes condition) ++ []) (same condition b.0)
  breaks-same first id t u (For position start condition step body) same b =
      ap (λ (o : Option Ty). broken (holds o (λ ty. not (is_boolean ty))) T8 (position_at p.nodes condition) ++ []) (same condition b.1.0)
  breaks-same first id t u (Return position None) same b = refl
  breaks-same first id t u (Return position (Some value)) same b =
      ap (λ (o : Option Ty). broken (holds o (λ ty. not (fits_result p (result_at p id) ty))) T9 position ++ []) (same value b.0)
  breaks-same first id t u _ same b = refl
