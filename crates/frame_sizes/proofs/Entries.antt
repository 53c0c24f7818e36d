-- Each body of an accepted program begins without operands, and has room for those of its operations.
use Rattle.std.specs.Prelude.{Option, Some, None, slice_get, flat_map, map, if◌then◌else◌}
use Rattle.std.proofs.Common.{◌≡◌, ◌≤◌, ◌+◌, ℕ, zero, suc, List, [], ◌∷◌, ◌++◌, length, Bool, true, false, refl, sym, ◌∙◌, ap, subst, arith, append-nil}
use Rattle.scj_base.specs.declared.positions.Position.{Position}
use Rattle.scj_tree.specs.declared.nodes.Node.{Node}
use Rattle.scj_tree.specs.declared.nodes.Node.TheVariants.{Class, Method as MethodNode, Constructor, New}
use Rattle.scj_tree.specs.Heights.{highest, weight, height, body_height, super_height}
use Rattle.scj_tree.specs.Recursion.{below}
use Rattle.scj_tree.specs.Shape.{children}
use Rattle.scj_rules.specs.declared.typing.Binding.{Binding}
use Rattle.scj_rules.specs.declared.typing.Binding.TheVariants.{Plain, Class as ClassNamed}
use Rattle.scj_rules.specs.declared.views.Body.{Body}
use Rattle.scj_rules.specs.declared.views.Body.TheVariants.{Written, Empty}
use Rattle.scj_rules.specs.declared.views.Declared.{Declared}
use Rattle.scj_rules.specs.declared.views.WrittenType.TheVariants.{Void as void_type}
use Rattle.scj_rules.specs.Words.{◌>>=◌}
use Rattle.scj_rules.specs.Views.{type_at}
use Rattle.scj_rules.specs.Classes.{is_user_class}
use Rattle.scj_rules.specs.ClassRules.{is_same_type}
use Rattle.scj_rules.specs.Types.{has_form}
use Rattle.scj_rules.specs.Layout.{fields_with_literal}
use Rattle.scj_rules.specs.Bodies.{class_node}
use Rattle.accepted_laws.specs.Kinds.{Kind, number}
use Rattle.scj_model.specs.declared.operations.Op.{Op}
use Rattle.scj_model.specs.declared.operations.Op.TheVariants.{This as THIS, Super as SUPER, Params as PARAMS, Init as INIT, Leave as LEAVE}
use Rattle.scj_model.specs.Code.{Code, binding}
use Rattle.scj_model.specs.Ops.{node_ops, new_ops, super_ops, unwritten_super_ops, literal_ops, constructor_ops, method_ops, ops_of, body_ops}
use Rattle.scj_model.specs.Operations.{bound_class, argument_count, super_count}
use Rattle.scope_flow.specs.Facts.{Facts, AreSmaller, Numbers, one_number, form_part, AllNumbers, no_numbers, more_numbers, SuperCallFact, FormFact, SuperFact, WrittenSuperFact, UnwrittenSuperFact, OptionSuperFact, BodyFact, ConstructorFact, MethodFact, EntryFact}
use Rattle.scope_flow.specs.Needs.{parameter_count}
use Rattle.scope_flow.specs.Signatures.{Signature, Runs, IsBody}
use Rattle.scope_flow.specs.ValueFacts.{HaveValues}
use Rattle.scope_flow.proofs.Known.{below_lt}
use Rattle.scope_flow.proofs.Flows.{ops_at}
use Rattle.frame_sizes.proofs.Heights.{height_at}
use Rattle.frame_sizes.proofs.Counts.{fewer, dropped, after, Value, Statement, Fits, Brings, brings_none, brings_op, brings_then, behind, more, more_is, dropped_more}
use Rattle.frame_sizes.proofs.Places.{Limits, as_many, as_many_fit}
use Rattle.frame_sizes.proofs.Nodes.{value_brings, statement_at}
use Rattle.frame_sizes.proofs.Frames.{BodiesFit}

more_more : (m n d : ℕ) → more n (more m d) ≡ more (m + n) d
more_more zero n d = let e : n ≡ zero + n = omega arith in ap (λ k. more k d) e
more_more (suc m) n d =
    let e : suc (m + n) ≡ suc m + n = omega arith in
    more_more m n (suc d) ∙ ap (λ k. more k d) e

parameters_few : (superclass : ℕ) → parameter_count superclass ≤ 6
unfolding parameter_count
parameters_few superclass = go _
  where
    go : (b : Bool) → (if b then 6 else 2) ≤ 6
    go true = omega arith
    go false = omega arith

module _ (code : Code) (facts : Facts code) (limits : Limits code) (b c : ℕ) (sig : Signature)
    (body : IsBody code.program b c sig) where
  abbrev H : ℕ → ℕ
  H = height code.program.nodes

  abbrev B : List Op → ℕ → ℕ → Type 0
  B xs d e = Brings code xs d e

  abbrev AllLow : List ℕ → Type 0
  AllLow [] = Unit {0}
  AllLow (x ∷ xs) = (H x ≤ 64) × AllLow xs

  all_low : (xs : List ℕ) → highest H xs ≤ 64 → AllLow xs
  unfolding highest
  all_low [] l = tt
  all_low (x ∷ xs) l = (omega (arith, l), all_low xs (omega (arith, l)))

  value : (x : ℕ) (k : Kind) (id : ℕ) → HaveValues code.program b c id (x ∷ []) (k ∷ []) → H x ≤ 64 → (d : ℕ) →
      d ≤ 64 → B (ops_of code x) d (suc d)
  value x k id h l d m =
      value_brings code b c sig body facts limits x (Some k) h.0.0.inside h.0.1 d (omega (arith, l, m))

  arguments : (id : ℕ) (xs : List ℕ) (ks : List Kind) → HaveValues code.program b c id xs ks → AllLow xs → (d : ℕ) →
      d + length xs ≤ 64 → B (flat_map (ops_of code) xs) d (more (length xs) d)
  arguments id [] [] h l d m = brings_none code d
  arguments id (x ∷ xs) (k ∷ ks) h l d m =
      brings_then code (ops_of code x) (flat_map (ops_of code) xs) d (suc d) (more (length xs) (suc d))
      (value x k id (h.0, tt) l.0 d (omega (arith, m))) (arguments id xs ks h.1 l.1 (suc d) (omega (arith, m)))
  arguments id [] (k ∷ ks) h l d m = absurd h
  arguments id (x ∷ xs) [] h l d m = absurd h

  -- ---- forms: each part stands for its arguments

  same_below : (id : ℕ) (xs : List ℕ) → AreSmaller id xs →
      flat_map (below [] id (ops_of code)) xs ≡ flat_map (ops_of code) xs
  same_below id [] l = refl
  same_below id (x ∷ xs) l = cc (below_lt [] id (ops_of code) x l.0, same_below id xs l.1)

  form_ops : (x : ℕ) (position name_position : Position) (name xs : List ℕ) →
      slice_get code.program.nodes x ≡ Some (New position name_position name xs) → binding code x ≡ Plain → AreSmaller x xs →
      ops_of code x ≡ flat_map (ops_of code) xs
  unfolding node_ops new_ops
  form_ops x position name_position name xs there plain l =
      ops_at code x _ there
      ∙ ap (λ (y : Binding). new_ops (below [] x (ops_of code)) x xs y) plain ∙ same_below x xs l

  form_low : (x : ℕ) (position name_position : Position) (name xs : List ℕ) →
      slice_get code.program.nodes x ≡ Some (New position name_position name xs) → H x ≤ 64 → AllLow xs
  unfolding weight children
  form_low x position name_position name xs there l =
      all_low xs (let e = height_at code.program limits.behind x _ there in omega (arith, e, l))

  module _ (known : List ℕ) where
    mutual
      numbers_bring : (x n : ℕ) → Numbers code b c known x n → H x ≤ 64 → (d : ℕ) → d + n ≤ 64 →
          B (ops_of code x) d (more n d)
      numbers_bring x _ (one_number inside judged set) l d m =
          value_brings code b c sig body facts limits x (Some number) inside judged d (omega (arith, l, m))
      numbers_bring _ _ (form_part {x} {n} {position} {name_position} {name} {xs} there plain less all) l d m =
          subst (λ ys. Brings code ys d (more n d)) (sym (form_ops x position name_position name xs there plain less))
          (all_numbers_bring xs n all (form_low x position name_position name xs there l) d m)

      all_numbers_bring : (xs : List ℕ) (n : ℕ) → AllNumbers code b c known xs n → AllLow xs → (d : ℕ) →
          d + n ≤ 64 → B (flat_map (ops_of code) xs) d (more n d)
      all_numbers_bring _ _ no_numbers l d m = brings_none code d
      all_numbers_bring _ _ (more_numbers {x} {m} {n} {xs} first rest) l d r =
          subst (λ e. Brings code (ops_of code x ++ flat_map (ops_of code) xs) d e) (more_more m n d)
          (brings_then code (ops_of code x) (flat_map (ops_of code) xs) d (more m d) (more n (more m d))
          (numbers_bring x m first l.0 d (omega (arith, r)))
          (all_numbers_bring xs n rest l.1 (more m d) (omega (arith, r, more_is m d))))

  -- ---- the super part

  module _ (id : ℕ) (xs : List ℕ) (count : super_count code id ≡ length xs) (low : AllLow xs) where
    called_brings : (superclass : ℕ) → SuperCallFact code b c sig id xs superclass →
        B (THIS id ∷ flat_map (ops_of code) xs ++ SUPER id ∷ []) 0 0
    unfolding after
    called_brings superclass r =
        let same = as_many code.program b c id xs r.kinds r.arguments_are in
        let fit = as_many_fit code.program sig.runs_in sig.runs_in r.kinds r.constructor.sig.takes r.constructor.fit in
        let few = limits.takes r.constructor.body superclass r.constructor.sig r.constructor.runs in
        subst (λ e. Brings code ((THIS id ∷ flat_map (ops_of code) xs) ++ SUPER id ∷ []) 0 e)
        (ap (λ n. fewer (dropped n (more (length xs) 1))) count ∙ ap fewer (dropped_more (length xs) 1))
        (behind code (THIS id ∷ flat_map (ops_of code) xs) (SUPER id) 0 (more (length xs) 1)
        (brings_then code (THIS id ∷ []) (flat_map (ops_of code) xs) 0 1 (more (length xs) 1)
        (brings_op code (THIS id) 0 (omega arith) tt)
        (arguments id xs r.kinds r.arguments_are low 1 (omega (arith, same, fit, few))))
        (omega (arith, same, fit, few, more_is (length xs) 1)) tt)

    form_brings : (superclass : ℕ) → binding code id ≡ ClassNamed superclass → FormFact code b c id xs superclass →
        B (flat_map (ops_of code) xs ++ PARAMS id ∷ []) 0 0
    unfolding after bound_class
    form_brings superclass is r =
        let few = parameters_few superclass in
        subst (λ e. Brings code (flat_map (ops_of code) xs ++ PARAMS id ∷ []) 0 e)
        (ap (λ (y : Binding). dropped (elim (bound_class y) as (λ z. ℕ) [ None ↦ 0 | Some k ↦ parameter_count k ])
        (more (parameter_count superclass) 0)) is ∙ dropped_more (parameter_count superclass) 0)
        (behind code (flat_map (ops_of code) xs) (PARAMS id) 0 (more (parameter_count superclass) 0)
        (all_numbers_bring _ xs (parameter_count superclass) r.are low 0 (omega (arith, few)))
        (omega (arith, few, more_is (parameter_count superclass) 0)) tt)

    super_brings : SuperFact code b c sig id xs → B (super_ops (ops_of code) id xs (binding code id)) 0 0
    unfolding super_ops
    super_brings r =
        subst (λ (y : Binding). Brings code (super_ops (ops_of code) id xs y) 0 0) (sym r.is)
        (go (is_user_class r.superclass) (has_form r.superclass) refl refl)
      where
        go : (user has : Bool) → is_user_class r.superclass ≡ user → has_form r.superclass ≡ has →
            B (if user then THIS id ∷ flat_map (ops_of code) xs ++ SUPER id ∷ []
            else (if has then flat_map (ops_of code) xs ++ PARAMS id ∷ [] else [])) 0 0
        go true has e f = called_brings r.superclass (r.user e)
        go false true e f = form_brings r.superclass r.is (r.form e f)
        go false false e f = brings_none code 0

  -- the operations of a super part by those of its arguments
  same_super : (id : ℕ) (ops : ℕ → List Op) (xs : List ℕ) → flat_map ops xs ≡ flat_map (ops_of code) xs →
      (x : Binding) → super_ops ops id xs x ≡ super_ops (ops_of code) id xs x
  unfolding super_ops
  same_super id ops xs e (ClassNamed superclass) =
      ap (λ (ys : List Op). if is_user_class superclass then THIS id ∷ ys ++ SUPER id ∷ []
      else (if has_form superclass then ys ++ PARAMS id ∷ [] else [])) e
  same_super id ops xs e _ = refl

  written_ops : (call : ℕ) (r : WrittenSuperFact code b c sig call) →
      ops_of code call ≡ super_ops (ops_of code) call r.arguments (binding code call)
  unfolding node_ops
  written_ops call r =
      ops_at code call _ r.is_there
      ∙ same_super call (below [] call (ops_of code)) r.arguments (same_below call r.arguments r.are_smaller)
      (binding code call)

  abbrev sub : ℕ → List Op
  sub = below [] b (ops_of code)

  written_brings : (call : ℕ) → 1 + H call ≤ 64 → WrittenSuperFact code b c sig call → B (sub call) 0 0
  unfolding argument_count weight children
  written_brings call low r =
      subst (λ ys. Brings code ys 0 0) (sym (below_lt [] b (ops_of code) call r.smaller ∙ written_ops call r))
      (super_brings call r.arguments count
      (all_low r.arguments
      (let e = height_at code.program limits.behind call _ r.is_there in omega (arith, e, low))) r.super_fact)
    where
      count : super_count code call ≡ length r.arguments
      count =
          ap (λ (o : Option Node). elim (o >>= argument_count) as (λ z. ℕ) [ None ↦ 0 | Some n ↦ n ]) r.is_there

  unwritten_brings : ((node : ℕ) → class_node code.program c ≡ Some node → UnwrittenSuperFact code b c sig node) →
      B (unwritten_super_ops code sub c) 0 0
  unfolding unwritten_super_ops
  unwritten_brings r = go (class_node code.program c) refl
    where
      go : (o : Option ℕ) → class_node code.program c ≡ o →
          B (elim o as (λ z. List Op) [ None ↦ [] | Some node ↦ super_ops sub node [] (binding code node) ]) 0 0
      go None e = brings_none code 0
      go (Some node) e =
          subst (λ ys. Brings code ys 0 0) (sym (same_super node sub [] refl (binding code node)))
          (super_brings node [] (r node e).count tt (r node e).super_fact)

  part_brings : (o : Option ℕ) → super_height code.program.nodes o ≤ 64 → OptionSuperFact code b c sig o →
      B (elim o as (λ z. List Op) [ None ↦ unwritten_super_ops code sub c | Some call ↦ sub call ]) 0 0
  unfolding super_height
  part_brings None low r = unwritten_brings r
  part_brings (Some call) low r = written_brings call low r

  -- ---- literals and bodies

  literals_bring : (fs : List Declared) → B (map (λ (f : Declared). INIT f.node) fs) 0 0
  unfolding after
  literals_bring [] = brings_none code 0
  literals_bring (f ∷ fs) =
      brings_then code (INIT f.node ∷ []) (map (λ (f : Declared). INIT f.node) fs) 0 0 0
      (brings_op code (INIT f.node) 0 (omega arith) tt) (literals_bring fs)

  body_brings : (x : ℕ) → H x ≤ 64 → BodyFact code.program b c x → B (sub x) 0 0
  body_brings x low r =
      subst (λ ys. Brings code ys 0 0) (sym (below_lt [] b (ops_of code) x r.smaller))
      (statement_at code b c sig body facts limits x r.is 0 (omega (arith, low)))

  with_leave : (xs : List Op) → B xs 0 0 → B (xs ++ LEAVE ∷ []) 0 0
  unfolding after
  with_leave xs h = behind code xs LEAVE 0 0 h (omega arith) tt

  method_brings : (result_type x : ℕ) → H x ≤ 64 → MethodFact code.program b c sig result_type x →
      B (method_ops code sub result_type (Some x)) 0 0
  unfolding method_ops
  method_brings result_type x low r = go (is_same_type (type_at code.program.nodes result_type) void_type)
    where
      go : (t : Bool) → B (if t then sub x ++ LEAVE ∷ [] else sub x) 0 0
      go true = with_leave (sub x) (body_brings x low r.body_is)
      go false = body_brings x low r.body_is

  constructor_brings : (o : Option ℕ) → super_height code.program.nodes o ≤ 64 → ConstructorFact code b c sig o →
      (xs : List Op) → B xs 0 0 → B (constructor_ops code sub b o xs) 0 0
  unfolding constructor_ops literal_ops
  constructor_brings o low r xs h =
      subst
      (λ (k : Option ℕ). Brings code (elim k as (λ z. List Op) [
        | None ↦ []
        | Some class ↦
            (elim o as (λ z. List Op) [ None ↦ unwritten_super_ops code sub class | Some call ↦ sub call ])
            ++ (literal_ops code class ++ (xs ++ LEAVE ∷ []))
      ]) 0 0) (sym r.is_class)
      (brings_then code _ (literal_ops code c ++ (xs ++ LEAVE ∷ [])) 0 0 0 (part_brings o low r.super_fact)
      (brings_then code (literal_ops code c) (xs ++ LEAVE ∷ []) 0 0 0
      (literals_bring (fields_with_literal code.program c)) (with_leave xs h)))

  entry_brings : (n : Node) → body_height code.program.nodes n ≤ 64 → EntryFact code b c sig n →
      B (node_ops code sub b n) 0 0
  unfolding EntryFact node_ops body_height super_height
  entry_brings (MethodNode position name flags result_type parameters (Some x)) low r = method_brings result_type x low r
  entry_brings (MethodNode position name flags result_type parameters None) low r = absurd r
  entry_brings (Constructor position name flags parameters super_call x) low r =
      constructor_brings super_call (omega (arith, low)) r.0 (sub x) (body_brings x (omega (arith, low)) r.1)
  entry_brings (Class position name flags header members) low r =
      constructor_brings None (omega arith) r [] (brings_none code 0)
  entry_brings _ low r = absurd r

  pub written_fits : Fits code (ops_of code b) 0
  written_fits =
      subst (λ ys. Fits code ys 0) (append-nil (ops_of code b))
      ((subst (λ ys. Brings code ys 0 0) (sym (ops_at code b body.node body.is_there))
      (entry_brings body.node (limits.low b c sig body) (facts.entries b c sig body))).is [] (omega arith))

-- ---- all bodies

pub bodies_fit : (code : Code) → Facts code → Limits code → BodiesFit code
unfolding Runs body_ops after
bodies_fit code facts limits = record { bodies = all; values = values; statements = statements }
  where
    all : (body : Body) (c : ℕ) (sig : Signature) → Runs code.program body c sig → Fits code (body_ops code body) 0
    all (Written b) c sig h = written_fits code facts limits b c sig h
    all Empty c sig h = (omega arith, tt, omega arith)

    values : (x d : ℕ) → Value code x d → Brings code (ops_of code x) d (suc d)
    values x d v = value_brings code v.body v.class v.sig v.is_body facts limits x (Some v.kind) v.inside v.judged d v.room

    statements : (x d : ℕ) → Statement code x d → Brings code (ops_of code x) d d
    statements x d v = statement_at code v.body v.class v.sig v.is_body facts limits x v.is d v.room
