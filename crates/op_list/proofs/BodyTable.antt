-- What the parts of methods and constructors stand for.
use Rattle.std.proofs.Common.{◌≡◌, ℕ, ◌<◌, Bool, true, false, List, [], ◌∷◌, ◌++◌, Option, Some, None, if◌then◌else◌, ap}
use Rattle.scj_tree.specs.Forest.{AllBelow}
use Rattle.scj_tree.specs.Shape.{optional}
use Rattle.scj_rules.specs.declared.typing.Binding.{Binding}
use Rattle.scj_rules.specs.declared.typing.Binding.TheVariants.{Class as ClassNamed}
use Rattle.scj_rules.specs.Classes.{is_user_class}
use Rattle.scj_rules.specs.Types.{has_form}
use Rattle.scj_rules.specs.Bodies.{class_node, class_of_body}
use Rattle.scj_model.specs.declared.operations.Op.{Op}
use Rattle.scj_model.specs.declared.operations.Op.TheVariants.{This as THIS, Leave as LEAVE, Super as SUPER, Params as PARAMS}
use Rattle.scj_model.specs.Code.{Code, binding}
use Rattle.scj_model.specs.Ops.{super_ops, unwritten_super_ops, literal_ops, constructor_ops}
use Rattle.op_list.specs.declared.parts.Part.{Part}
use Rattle.op_list.specs.declared.parts.Part.TheVariants.{Literals}
use Rattle.op_list.specs.Parts.{items_at, part_ops, method_parts, super_parts, unwritten_super_parts, first_parts, body_parts, constructor_parts}
use Rattle.op_list.proofs.StandFor.{StandFor, part_ids, ids_of, nothing, pick, visit, emit, last, items, visit_alone}

module _ (code : Code) (id : ℕ) (sub : ℕ → List Op) where
  pub method_stands : (is_void : Bool) (body : ℕ) → body < id →
      StandFor code id sub (method_parts is_void (Some body)) (if is_void then sub body ++ LEAVE ∷ [] else sub body)
  unfolding method_parts
  method_stands true body l = visit code id sub body _ _ l (last code id sub LEAVE)
  method_stands false body l = visit_alone code id sub body l

  pub super_stands : (xs : List ℕ) → items_at code.program.nodes id ≡ xs → AllBelow id xs → (b : Binding) →
      StandFor code id sub (super_parts id b) (super_ops sub id xs b)
  unfolding super_parts super_ops
  super_stands xs e h (ClassNamed superclass) =
      pick code id sub (is_user_class superclass) _ _ _ _
      (emit code id sub (THIS id) _ _ (items code id sub xs _ _ e h (last code id sub (SUPER id))))
      (pick code id sub (has_form superclass) _ _ _ _ (items code id sub xs _ _ e h (last code id sub (PARAMS id)))
      (nothing code id sub))
  super_stands xs e h _ = nothing code id sub

  -- the literals of a class, in front of others
  literals : (class : ℕ) (ps : List Part) (os : List Op) → StandFor code id sub ps os →
      StandFor code id sub (Literals 0 class ∷ ps) (literal_ops code class ++ os)
  unfolding ids_of part_ids part_ops
  literals class ps os t = record { gives = ap (λ (us : List Op). literal_ops code class ++ us) t.gives; below = t.below }

  -- ---- the super part where it isn't written, in front of others

  module _ (ps : List Part) (os : List Op) (t : StandFor code id sub ps os) where
    pick_front : (b : Bool) (qs rs : List Part) (us vs : List Op) → StandFor code id sub (qs ++ ps) (us ++ os) →
        StandFor code id sub (rs ++ ps) (vs ++ os) →
        StandFor code id sub ((if b then qs else rs) ++ ps) ((if b then us else vs) ++ os)
    pick_front true qs rs us vs a b = a
    pick_front false qs rs us vs a b = b

    super_front : (node : ℕ) (b : Binding) →
        StandFor code id sub (unwritten_super_parts node b ++ ps) (super_ops sub node [] b ++ os)
    unfolding unwritten_super_parts super_ops
    super_front node (ClassNamed superclass) =
        pick_front (is_user_class superclass) _ _ _ _
        (emit code id sub (THIS node) _ _ (emit code id sub (SUPER node) _ _ t))
        (pick_front (has_form superclass) _ _ _ _ (emit code id sub (PARAMS node) _ _ t) t)
    super_front node _ = t

    class_front : (o : Option ℕ) →
        StandFor code id sub
        ((elim o [ None ↦ [] | Some node ↦ unwritten_super_parts node (binding code node) ]) ++ ps)
        ((elim o [ None ↦ [] | Some node ↦ super_ops sub node [] (binding code node) ]) ++ os)
    class_front None = t
    class_front (Some node) = super_front node (binding code node)

    first_front : (class : ℕ) (o : Option ℕ) → AllBelow id (optional o) →
        StandFor code id sub (first_parts code class o ++ ps)
        ((elim o [ None ↦ unwritten_super_ops code sub class | Some call ↦ sub call ]) ++ os)
    unfolding first_parts unwritten_super_ops AllBelow
    first_front class None h = class_front (class_node code.program class)
    first_front class (Some call) h = visit code id sub call ps os h.0 t

  -- ---- constructors

  behind_literals : (class : ℕ) (o : Option ℕ) → AllBelow id (optional o) →
      StandFor code id sub (Literals 0 class ∷ body_parts o)
      (literal_ops code class ++ ((elim o [ None ↦ [] | Some body ↦ sub body ]) ++ LEAVE ∷ []))
  unfolding body_parts AllBelow
  behind_literals class None h = literals class _ _ (last code id sub LEAVE)
  behind_literals class (Some body) h = literals class _ _ (visit code id sub body _ _ h.0 (last code id sub LEAVE))

  pub constructor_stands : (call body : Option ℕ) → AllBelow id (optional call) → AllBelow id (optional body) →
      StandFor code id sub (constructor_parts code id call body)
      (constructor_ops code sub id call (elim body [ None ↦ [] | Some b ↦ sub b ]))
  unfolding constructor_parts constructor_ops
  constructor_stands call body h k = at_class (class_of_body code.program id)
    where
      at_class : (o : Option ℕ) →
          StandFor code id sub
          (elim o [ None ↦ [] | Some class ↦ first_parts code class call ++ (Literals 0 class ∷ body_parts body) ])
          (elim o [
            | None ↦ []
            | Some class ↦
                (elim call [ None ↦ unwritten_super_ops code sub class | Some c ↦ sub c ])
                ++ (literal_ops code class ++ ((elim body [ None ↦ [] | Some b ↦ sub b ]) ++ LEAVE ∷ []))
          ])
      at_class None = nothing code id sub
      at_class (Some class) = first_front _ _ (behind_literals class body k) class call h
