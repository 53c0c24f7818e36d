-- The operations of the arguments of a super call, of a user's class or of a form, look at no object that is being made.
use Rattle.std.specs.Prelude.{Some, flat_map, slice_get}
use Rattle.std.proofs.Common.{◌≡◌, ℕ, List, [], ◌∷◌, true, refl, sym, ◌∙◌, ap, subst}
use Rattle.scj_base.specs.declared.positions.Position.{Position}
use Rattle.scj_tree.specs.declared.nodes.Node.TheVariants.{New}
use Rattle.scj_tree.specs.Recursion.{below}
use Rattle.scj_tree.specs.Shape.{children}
use Rattle.scj_rules.specs.declared.typing.Binding.{Binding}
use Rattle.scj_rules.specs.declared.typing.Binding.TheVariants.{Plain}
use Rattle.scj_rules.specs.Words.{is_among}
use Rattle.accepted_laws.specs.Kinds.{Kind, number}
use Rattle.accepted_laws.specs.Judgements.{Inside, Judged}
use Rattle.scj_model.specs.declared.operations.Op.{Op}
use Rattle.scj_model.specs.Code.{Code, binding}
use Rattle.scj_model.specs.Ops.{new_ops, node_ops, ops_of}
use Rattle.scope_flow.specs.Facts.{AllNumbers, AreSmaller, Facts, Numbers, form_part, more_numbers, no_numbers, one_number}
use Rattle.scope_flow.specs.Signatures.{Signature, IsBody}
use Rattle.scope_flow.specs.ValueFacts.{HaveValues}
use Rattle.scope_flow.proofs.Flows.{ops_at}
use Rattle.scope_flow.proofs.Known.{among_first, below_lt}
use Rattle.memory_bounds.proofs.Making.{AllInner, inner_both}
use Rattle.memory_bounds.proofs.Inner.{Inner, StandWithoutObject, clean_inner, later}

module _ (code : Code) (facts : Facts code) (InSuper : ℕ → Type 0) (laws : StandWithoutObject code InSuper)
    (b c : ℕ) (sig : Signature) (body : IsBody code.program b c sig) where
  abbrev All : List Op → Type 0
  All ops = AllInner code (Inner code facts InSuper laws) ops

  value_inner : (x : ℕ) (k : Kind) → Inside code.program b c x → Judged code.program x (Some k) → InSuper x →
      AllInner code (Inner code facts InSuper laws) (ops_of code x)
  value_inner x k inside judged stands =
      clean_inner code facts InSuper laws x (record {
        body = b;
        class = c;
        sig = sig;
        is_body = body;
        kind = k;
        inside = inside;
        judged = judged;
        stands = stands;
      })

  pub values_inner : (id : ℕ) (xs : List ℕ) (ks : List Kind) → HaveValues code.program b c id xs ks →
      ((x : ℕ) → is_among x xs ≡ true → InSuper x) →
      AllInner code (Inner code facts InSuper laws) (flat_map (ops_of code) xs)
  values_inner id [] ks h i = tt
  values_inner id (x ∷ xs) [] h i = absurd h
  values_inner id (x ∷ xs) (k ∷ ks) h i =
      inner_both code (Inner code facts InSuper laws) (ops_of code x) (flat_map (ops_of code) xs)
      (value_inner x k h.0.0.inside h.0.1 (i x (among_first xs x)))
      (values_inner id xs ks h.1 (λ y a. i y (later y x xs a)))

  -- ---- the numbers of a form

  same_below : (id : ℕ) (xs : List ℕ) → AreSmaller id xs →
      flat_map (below [] id (ops_of code)) xs ≡ flat_map (ops_of code) xs
  same_below id [] l = refl
  same_below id (x ∷ xs) l = cc (below_lt [] id (ops_of code) x l.0, same_below id xs l.1)

  part_ops : (x : ℕ) (position name_position : Position) (name xs : List ℕ) →
      slice_get code.program.nodes x ≡ Some (New position name_position name xs) → binding code x ≡ Plain → AreSmaller x xs →
      ops_of code x ≡ flat_map (ops_of code) xs
  unfolding node_ops new_ops
  part_ops x position name_position name xs there e l =
      ops_at code x (New position name_position name xs) there
      ∙ (ap (λ (y : Binding). new_ops (below [] x (ops_of code)) x xs y) e ∙ same_below x xs l)

  mutual
    unfolding children

    numbers_inner : (known : List ℕ) (x n : ℕ) → Numbers code b c known x n → InSuper x →
        AllInner code (Inner code facts InSuper laws) (ops_of code x)
    numbers_inner known x _ (one_number inside judged among) i = value_inner x number inside judged i
    numbers_inner known _ _ (form_part {x} {n} {position} {name_position} {name} {xs} there e l more) i =
        subst All (sym (part_ops x position name_position name xs there e l))
        (all_numbers_inner known xs n more (λ y a. laws.down x y (New position name_position name xs) there (under y a) i))
      where
        under : (y : ℕ) → is_among y xs ≡ true → is_among y (children (New position name_position name xs)) ≡ true
        under y a = a

    pub all_numbers_inner : (known xs : List ℕ) (n : ℕ) → AllNumbers code b c known xs n →
        ((x : ℕ) → is_among x xs ≡ true → InSuper x) →
        AllInner code (Inner code facts InSuper laws) (flat_map (ops_of code) xs)
    all_numbers_inner known _ _ no_numbers i = tt
    all_numbers_inner known _ _ (more_numbers {x} {m} {n} {xs} one rest) i =
        inner_both code (Inner code facts InSuper laws) (ops_of code x) (flat_map (ops_of code) xs)
        (numbers_inner known x m one (i x (among_first xs x)))
        (all_numbers_inner known xs n rest (λ y a. i y (later y x xs a)))
