-- A constructor of a class on the way to a form begins with the super call of the next class on the way, or with the form.
use Rattle.std.specs.Prelude.{Option, Some, None, flat_map, if◌then◌else◌, slice_get}
use Rattle.std.proofs.Common.{◌≡◌, ◌⊎◌, ℕ, List, [], ◌∷◌, ◌++◌, length, true, false, refl, sym, ◌∙◌, ap, subst, inl, inr, append_assoc, true≢false}
use Rattle.scj_base.specs.declared.positions.Position.{Position}
use Rattle.scj_base.specs.declared.values.Value.TheVariants.{At}
use Rattle.scj_tree.specs.declared.nodes.Node.{Node}
use Rattle.scj_tree.specs.declared.nodes.Node.TheVariants.{Class, Constructor, SuperCall}
use Rattle.scj_tree.specs.Recursion.{below}
use Rattle.scj_rules.specs.declared.typing.Binding.{Binding}
use Rattle.scj_rules.specs.declared.typing.Binding.TheVariants.{Class as ClassNamed}
use Rattle.scj_rules.specs.declared.views.Body.{Body}
use Rattle.scj_rules.specs.declared.views.Body.TheVariants.{Empty, Written}
use Rattle.scj_rules.specs.Words.{is_among}
use Rattle.scj_rules.specs.Bodies.{class_node, class_of_body, constructor_body}
use Rattle.scj_rules.specs.Classes.{is_user_class}
use Rattle.scj_rules.specs.Contexts.{known_variables}
use Rattle.scj_rules.specs.Types.{has_form}
use Rattle.scj_model.specs.declared.operations.Op.{Op}
use Rattle.scj_model.specs.declared.operations.Op.TheVariants.{Leave as LEAVE, Params as PARAMS, Super as SUPER, This as THIS}
use Rattle.scj_model.specs.Code.{Code, binding}
use Rattle.scj_model.specs.Operations.{argument_count, bound_class, super_count}
use Rattle.scj_model.specs.Ops.{body_ops, constructor_ops, literal_ops, node_ops, ops_of, super_ops, unwritten_super_ops}
use Rattle.scope_flow.specs.Facts.{AreSmaller, EntryFact, Facts, FormFact, OptionSuperFact, SuperCallFact, SuperFact, UnwrittenSuperFact, WrittenSuperFact}
use Rattle.scope_flow.specs.Signatures.{IsBody, Runs, Signature}
use Rattle.scope_flow.proofs.Flows.{ops_at}
use Rattle.scope_flow.proofs.Known.{below_lt}
use Rattle.certain_faults.specs.declared.known.Known.TheVariants.{Exactly}
use Rattle.certain_faults.proofs.Passes.{PassesTo}
use Rattle.certain_faults.proofs.RunsOfNodes.{ClassesAskNothing}
use Rattle.certain_faults.proofs.Stacks.{nothing, put}
use Rattle.memory_bounds.proofs.Arguments.{arguments_pass, values_leave}
use Rattle.memory_bounds.proofs.Forms.{By_form, By_super, ComesToForm}
use Rattle.memory_bounds.proofs.Inner.{Inner, StandWithoutObject}
use Rattle.memory_bounds.proofs.InnerArguments.{all_numbers_inner, values_inner}

-- the next class on the way, or that of the form
abbrev pub GoesOn : (ℕ → Type 0) → ℕ → Type 0
GoesOn OnWay superclass =
    ((is_user_class superclass ≡ true) × OnWay superclass)
    ⊎ ((is_user_class superclass ≡ false) × (has_form superclass ≡ true))

-- what is asked of the classes on the way
pub record OnTheWay (code : Code) (OnWay : ℕ → Type 0) : Type 0 where
  -- the constructor of such a class is written, or the class stands for it
  pub node : (class b : ℕ) (node : Node) → OnWay class → constructor_body code.program class ≡ Some (Written b) →
      slice_get code.program.nodes b ≡ Some node →
      ((position : Position) × (name : List ℕ) × (flags : Option ℕ) × (parameters : Option ℕ) × (call : Option ℕ) × (inner : ℕ) ×
      (node ≡ Constructor position name flags parameters call inner))
      ⊎ ((position : Position) × (name : List ℕ) × (flags header : Option ℕ) × (members : List ℕ) ×
      (node ≡ Class position name flags header members))
  pub empty : (class : ℕ) → OnWay class → constructor_body code.program class ≡ Some Empty → ⊥
  pub class_there : (class : ℕ) → OnWay class → (node : ℕ) × (class_node code.program class ≡ Some node)
  -- a super call is bound to the next class
  pub written : (b c call superclass : ℕ) (position : Position) (name : List ℕ) (flags : Option ℕ) (parameters : Option ℕ)
      (inner : ℕ) → OnWay c → class_of_body code.program b ≡ Some c →
      slice_get code.program.nodes b ≡ Some (Constructor position name flags parameters (Some call) inner) → (at : Position)
      (arguments : List ℕ) → slice_get code.program.nodes call ≡ Some (SuperCall at arguments) →
      binding code call ≡ ClassNamed superclass → GoesOn OnWay superclass
  pub unwritten : (c node superclass : ℕ) → OnWay c → class_node code.program c ≡ Some node →
      binding code node ≡ ClassNamed superclass → GoesOn OnWay superclass

module _ (code : Code) (facts : Facts code) (bare : ClassesAskNothing code) (InSuper : ℕ → Type 0)
    (laws : StandWithoutObject code InSuper) (OnWay : ℕ → Type 0) (ways : OnTheWay code OnWay) where
  abbrev I : Op → Type 0
  I = Inner code facts InSuper laws

  -- the operations of a super part by those of its arguments
  same_super : (id : ℕ) (ops : ℕ → List Op) (xs : List ℕ) → flat_map ops xs ≡ flat_map (ops_of code) xs →
      (x : Binding) → super_ops ops id xs x ≡ super_ops (ops_of code) id xs x
  unfolding super_ops
  same_super id ops xs e (ClassNamed superclass) =
      ap (λ (ys : List Op). if is_user_class superclass then THIS id ∷ ys ++ SUPER id ∷ []
      else (if has_form superclass then ys ++ PARAMS id ∷ [] else [])) e
  same_super id ops xs e _ = refl

  same_below : (id : ℕ) (xs : List ℕ) → AreSmaller id xs →
      flat_map (below [] id (ops_of code)) xs ≡ flat_map (ops_of code) xs
  same_below id [] l = refl
  same_below id (x ∷ xs) l = cc (below_lt [] id (ops_of code) x l.0, same_below id xs l.1)

  module _ (b c : ℕ) (sig : Signature) (body : IsBody code.program b c sig) where
    abbrev sub : ℕ → List Op
    sub = below [] b (ops_of code)

    -- a body that begins with a super part
    module _ (id : ℕ) (xs : List ℕ) (count : super_count code id ≡ length xs)
        (stand : (x : ℕ) → is_among x xs ≡ true → InSuper x) (more : List Op)
        (is : body_ops code (Written b) ≡ super_ops (ops_of code) id xs (binding code id) ++ more) where
      called : (superclass : ℕ) → binding code id ≡ ClassNamed superclass → is_user_class superclass ≡ true →
          OnWay superclass → SuperCallFact code b c sig id xs superclass → ComesToForm code I OnWay (Written b)
      unfolding super_ops bound_class
      called superclass bound user way r =
          By_super id (flat_map (ops_of code) xs) more superclass
          (is
          ∙ (ap (λ (x : Binding). super_ops (ops_of code) id xs x ++ more) bound
          ∙ (ap (λ t. (if t then THIS id ∷ flat_map (ops_of code) xs ++ SUPER id ∷ []
          else (if has_form superclass then flat_map (ops_of code) xs ++ PARAMS id ∷ [] else [])) ++ more) user
          ∙ ap (λ (ys : List Op). THIS id ∷ ys) (append_assoc (flat_map (ops_of code) xs) (SUPER id ∷ []) more))))
          (values_inner code facts InSuper laws b c sig body id xs r.kinds r.arguments_are stand)
          (λ u. subst (λ n. PassesTo code (Some (n, u)) (flat_map (ops_of code) xs) (put (Exactly (At u)) nothing))
          (sym count)
          (arguments_pass code bare u xs nothing (values_leave code bare facts b c sig body id xs r.kinds r.arguments_are)))
          (ap bound_class bound) way

      formed : (superclass : ℕ) → binding code id ≡ ClassNamed superclass → is_user_class superclass ≡ false →
          has_form superclass ≡ true → FormFact code b c id xs superclass → ComesToForm code I OnWay (Written b)
      unfolding super_ops
      formed superclass bound user form r =
          By_form id (flat_map (ops_of code) xs) more
          (is
          ∙ (ap (λ (x : Binding). super_ops (ops_of code) id xs x ++ more) bound
          ∙ (ap (λ t. (if t then THIS id ∷ flat_map (ops_of code) xs ++ SUPER id ∷ []
          else (if has_form superclass then flat_map (ops_of code) xs ++ PARAMS id ∷ [] else [])) ++ more) user
          ∙ (ap (λ t. (if t then flat_map (ops_of code) xs ++ PARAMS id ∷ [] else []) ++ more) form
          ∙ append_assoc (flat_map (ops_of code) xs) (PARAMS id ∷ []) more))))
          (all_numbers_inner code facts InSuper laws b c sig body (known_variables code.program id) xs _ r.are stand)

      super_comes : (r : SuperFact code b c sig id xs) → GoesOn OnWay r.superclass → ComesToForm code I OnWay (Written b)
      super_comes r (inl g) = called r.superclass r.is g.0 g.1 (r.user g.0)
      super_comes r (inr g) = formed r.superclass r.is g.0 g.1 (r.form g.0 g.1)

    no_arguments : (x : ℕ) → is_among x [] ≡ true → InSuper x
    no_arguments x a = absurd (true≢false (sym a))

    -- what follows the super part
    abbrev behind : List Op → List Op
    behind inner = literal_ops code c ++ (inner ++ LEAVE ∷ [])

    module _ (class : class_of_body code.program b ≡ Some c) (way : OnWay c) where
      parted : (o : Option ℕ) (inner : List Op) → constructor_ops code sub b o inner ≡
          (elim o as (λ z. List Op) [ None ↦ unwritten_super_ops code sub c | Some call ↦ sub call ]) ++ behind inner
      unfolding constructor_ops
      parted o inner =
          ap (λ (k : Option ℕ). elim k as (λ z. List Op) [
            | None ↦ []
            | Some class ↦
                (elim o as (λ z. List Op) [ None ↦ unwritten_super_ops code sub class | Some call ↦ sub call ])
                ++ (literal_ops code class ++ (inner ++ LEAVE ∷ []))
          ]) class

      of_written : (position : Position) (name : List ℕ) (flags : Option ℕ) (parameters : Option ℕ) (call inner : ℕ) →
          slice_get code.program.nodes b ≡ Some (Constructor position name flags parameters (Some call) inner) →
          WrittenSuperFact code b c sig call → ComesToForm code I OnWay (Written b)
      unfolding body_ops node_ops argument_count
      of_written position name flags parameters call inner there r =
          super_comes call r.arguments
          (ap (λ (o : Option Node). elim (elim o as (λ z. Option ℕ) [ None ↦ None | Some n ↦ argument_count n ])
          as (λ z. ℕ) [ None ↦ 0 | Some n ↦ n ]) r.is_there)
          (λ x a. laws.first call x r.position r.arguments r.is_there a) (behind (sub inner))
          (ops_at code b (Constructor position name flags parameters (Some call) inner) there
          ∙ (parted (Some call) (sub inner)
          ∙ ap (λ (ys : List Op). ys ++ behind (sub inner))
          (below_lt [] b (ops_of code) call r.smaller
          ∙ (ops_at code call (SuperCall r.position r.arguments) r.is_there
          ∙ same_super call (below [] call (ops_of code)) r.arguments (same_below call r.arguments r.are_smaller)
          (binding code call)))))
          r.super_fact
          (ways.written b c call r.super_fact.superclass position name flags parameters inner way class there r.position r.arguments
          r.is_there r.super_fact.is)

      of_unwritten : (inner : List Op) → ops_of code b ≡ constructor_ops code sub b None inner →
          ((node : ℕ) → class_node code.program c ≡ Some node → UnwrittenSuperFact code b c sig node) →
          ComesToForm code I OnWay (Written b)
      unfolding body_ops unwritten_super_ops
      of_unwritten inner is r =
          (let n = ways.class_there c way in
          let f = r n.0 n.1 in
          super_comes n.0 [] f.count no_arguments (behind inner)
          (is
          ∙ (parted None inner
          ∙ ap (λ (ys : List Op). ys ++ behind inner)
          (ap (λ (o : Option ℕ). elim o as (λ z. List Op) [
            | None ↦ []
            | Some node ↦ super_ops sub node [] (binding code node)
          ]) n.1
          ∙ same_super n.0 sub [] refl (binding code n.0))))
          f.super_fact (ways.unwritten c n.0 f.super_fact.superclass way n.1 f.super_fact.is))

      of_constructor : (position : Position) (name : List ℕ) (flags : Option ℕ) (parameters : Option ℕ) (call : Option ℕ) (inner : ℕ) →
          slice_get code.program.nodes b ≡ Some (Constructor position name flags parameters call inner) →
          OptionSuperFact code b c sig call → ComesToForm code I OnWay (Written b)
      unfolding node_ops
      of_constructor position name flags parameters (Some call) inner there r =
          of_written position name flags parameters call inner there r
      of_constructor position name flags parameters None inner there r =
          of_unwritten (sub inner) (ops_at code b (Constructor position name flags parameters None inner) there) r

      of_class : (position : Position) (name : List ℕ) (flags header : Option ℕ) (members : List ℕ) →
          slice_get code.program.nodes b ≡ Some (Class position name flags header members) →
          ((node : ℕ) → class_node code.program c ≡ Some node → UnwrittenSuperFact code b c sig node) →
          ComesToForm code I OnWay (Written b)
      unfolding node_ops
      of_class position name flags header members there r =
          of_unwritten [] (ops_at code b (Class position name flags header members) there) r

    comes : OnWay c → constructor_body code.program c ≡ Some (Written b) → ComesToForm code I OnWay (Written b)
    unfolding EntryFact
    comes way is = of (ways.node c b body.node way is body.is_there)
      where
        entry : EntryFact code b c sig body.node
        entry = facts.entries b c sig body

        of : ((position : Position) × (name : List ℕ) × (flags : Option ℕ) × (parameters : Option ℕ) × (call : Option ℕ) ×
            (inner : ℕ) × (body.node ≡ Constructor position name flags parameters call inner))
            ⊎ ((position : Position) × (name : List ℕ) × (flags header : Option ℕ) × (members : List ℕ) ×
            (body.node ≡ Class position name flags header members)) → ComesToForm code I OnWay (Written b)
        of (inl (position, name, flags, parameters, call, inner, e)) =
            (let r = subst (EntryFact code b c sig) e entry in
            of_constructor r.0.is_class way position name flags parameters call inner
            (body.is_there ∙ ap (λ (n : Node). Some n) e) r.0.super_fact)
        of (inr (position, name, flags, header, members, e)) =
            (let r = subst (EntryFact code b c sig) e entry in
            of_class r.is_class way position name flags header members (body.is_there ∙ ap (λ (n : Node). Some n) e)
            r.super_fact)

  pub constructors : (class : ℕ) (body : Body) (sig : Signature) → OnWay class →
      constructor_body code.program class ≡ Some body → Runs code.program body class sig →
      ComesToForm code I OnWay body
  unfolding Runs
  constructors class (Written b) sig way is runs = comes b class sig runs way is
  constructors class Empty sig way is runs = absurd (ways.empty class way is)
