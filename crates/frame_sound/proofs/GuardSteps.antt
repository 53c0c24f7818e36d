-- What a frame knows of guards stays: while objects lie in the areas where they lay, when a value comes that it waits for,
-- and when a local is set that is no subject of a guard in whose first part the frame is. A frame that begins is in the
-- first part of none.
use Rattle.std.specs.Prelude.{Option, Some, None, slice_get, slice_set, ◌==◌, ◌||◌}
use Rattle.std.proofs.Common.{◌≡◌, ℕ, List, [], ◌∷◌, Bool, true, false, refl, sym, ◌∙◌, ap, true≢false, arith}
use Rattle.std.proofs.lemmas.Bool.Decides.{nat_tests}
use Rattle.scj_base.specs.declared.values.Value.{Value}
use Rattle.scj_base.specs.declared.values.Value.TheVariants.{At}
use Rattle.scj_rules.specs.declared.typing.Guard.{Guard}
use Rattle.scj_rules.specs.declared.typing.Subject.{Subject}
use Rattle.scj_rules.specs.declared.typing.Subject.TheVariants.{Variable as the_variable}
use Rattle.scj_rules.specs.declared.views.Body.{Body}
use Rattle.scj_rules.specs.declared.views.Body.TheVariants.{Written}
use Rattle.scj_rules.specs.Contexts.{Declarations}
use Rattle.scj_rules.specs.Guards.{are_same_subject, is_subject}
use Rattle.accepted_laws.specs.Kinds.{Kind}
use Rattle.accepted_laws.proofs.Lists.{get_set_other}
use Rattle.accepted_laws.proofs.Tools.{some_inj}
use Rattle.scj_model.specs.declared.operations.Op.{Op}
use Rattle.scj_model.specs.declared.operations.Op.TheVariants.{Leave as LEAVE}
use Rattle.scj_model.specs.Code.{Code}
use Rattle.scj_model.specs.Ops.{ops_of}
use Rattle.scj_model.specs.State.{Object}
use Rattle.scope_flow.specs.Facts.{Facts}
use Rattle.scope_flow.specs.Guards.{IsPlain, StandsIn, Rest, at_end, plain}
use Rattle.scope_flow.specs.Signatures.{Signature, IsBody, variables_in}
use Rattle.frame_sound.specs.Guards.{IsValueOf, of_this, of_variable, AreTogether, GuardHolds, Progress, on_no_way, asks_second, asks_both, is_answered, puts_value, puts_both, GuardsFine}
use Rattle.frame_sound.specs.Places.{World}

-- ---- a frame that begins

module _ (code : Code) (w : World) (body : Body) (this : Option ℕ) (locals : List Value) (t : Option Kind)
    (vs : List Value) where
  guarded_by_none : (ops : List Op) → Rest code body [] ops → GuardsFine code w body this locals t vs ops
  guarded_by_none ops r =
      record { around = []; holds = λ n g a e. absurd (cc (a)); progress = on_no_way t vs ops r }

  pub leaves_guarded : GuardsFine code w body this locals t vs (LEAVE ∷ [])
  unfolding IsPlain StandsIn
  leaves_guarded = guarded_by_none (LEAVE ∷ []) (plain [] LEAVE [] tt tt (at_end []))

pub begins_guarded : (code : Code) → Facts code → (w : World) (b c : ℕ) (sig : Signature) → IsBody code.program b c sig →
    (this : Option ℕ) (locals : List Value) (t : Option Kind) (vs : List Value) →
    GuardsFine code w (Written b) this locals t vs (ops_of code b)
begins_guarded code facts w b c sig body this locals t vs =
    guarded_by_none code w (Written b) this locals t vs (ops_of code b) (facts.guards.bodies b c sig body)

-- ---- a value comes

pub answered_guarded : (code : Code) (w : World) (body : Body) (this : Option ℕ) (locals : List Value) (k : Kind)
    (v : Value) (vs : List Value) (ops : List Op) → GuardsFine code w body this locals (Some k) vs ops →
    GuardsFine code w body this locals None (v ∷ vs) ops
answered_guarded code w body this locals k v vs ops g =
    record { around = g.around; holds = g.holds; progress = go (Some k) vs ops g.progress refl }
  where
    go : (t : Option Kind) (us : List Value) (os : List Op) → Progress code w body this locals g.around t us os →
        t ≡ Some k → Progress code w body this locals g.around None (v ∷ us) os
    go _ _ _ (on_no_way t us os r) e = on_no_way None (v ∷ us) os r
    go _ _ _ (asks_second number id first second os a us guard stands r is) e = absurd (cc (e))
    go _ _ _ (asks_both number id first second os a b us guard stands r is_a is_b) e = absurd (cc (e))
    go _ _ _ (is_answered number guard answer os us is stands r holds) e = absurd (cc (e))
    go _ _ _ (puts_value id object value os a us puts stands r is) e = absurd (cc (e))
    go _ _ _ (puts_both id object value os a b us puts stands r is_a is_b) e = absurd (cc (e))

-- ---- objects lie where they lay

abbrev pub LieWhereTheyLay : World → World → Type 0
LieWhereTheyLay w w2 =
    (r : ℕ) (o : Object) → w.objects r ≡ Some o → (x : Object) × (w2.objects r ≡ Some x) × (x.area ≡ o.area)

module _ (code : Code) (w w2 : World) (body : Body) (this : Option ℕ) (locals : List Value)
    (kept : LieWhereTheyLay w w2) where
  together_kept : (a b : Value) → AreTogether w a b → AreTogether w2 a b
  together_kept a b x =
      let f = kept x.r x.first x.first_found in
      let s = kept x.s x.second x.second_found in
      record {
        r = x.r;
        s = x.s;
        is_first = x.is_first;
        is_second = x.is_second;
        first = f.0;
        second = s.0;
        first_found = f.1;
        second_found = s.1;
        one_area = f.2 ∙ (x.one_area ∙ sym s.2);
      }

  holds_kept : (guard : Guard) → GuardHolds code.program w body this locals guard →
      GuardHolds code.program w2 body this locals guard
  holds_kept guard h =
      record {
        first = h.first;
        second = h.second;
        first_is = h.first_is;
        second_is = h.second_is;
        together = together_kept h.first h.second h.together;
      }

  progress_kept : (around : List ℕ) (t : Option Kind) (vs : List Value) (ops : List Op) →
      Progress code w body this locals around t vs ops → Progress code w2 body this locals around t vs ops
  progress_kept around _ _ _ (on_no_way t vs ops r) = on_no_way t vs ops r
  progress_kept around _ _ _ (asks_second number id first second ops a vs guard stands r is) =
      asks_second number id first second ops a vs guard stands r is
  progress_kept around _ _ _ (asks_both number id first second ops a b vs guard stands r is_a is_b) =
      asks_both number id first second ops a b vs guard stands r is_a is_b
  progress_kept around _ _ _ (is_answered number guard answer ops vs is stands r holds) =
      is_answered number guard answer ops vs is stands r (λ e. holds_kept guard (holds e))
  progress_kept around _ _ _ (puts_value id object value ops a vs puts stands r is) =
      puts_value id object value ops a vs puts stands r is
  progress_kept around _ _ _ (puts_both id object value ops a b vs puts stands r is_a is_b) =
      puts_both id object value ops a b vs puts stands r is_a is_b

  pub guards_kept : (t : Option Kind) (vs : List Value) (ops : List Op) →
      GuardsFine code w body this locals t vs ops → GuardsFine code w2 body this locals t vs ops
  guards_kept t vs ops g =
      record {
        around = g.around;
        holds = λ n guard a e. holds_kept guard (g.holds n guard a e);
        progress = progress_kept g.around t vs ops g.progress;
      }

-- ---- a local is set

module _ (p : Declarations) (w : World) (body : Body) (this : Option ℕ) (locals : List Value) (i v : ℕ)
    (is_there : slice_get (variables_in p body) i ≡ Some v) (x : Value) where
  value_spared : (s : Subject) (value : Value) → are_same_subject (the_variable v) s ≡ false →
      IsValueOf p body this locals s value → IsValueOf p body this (slice_set locals i x) s value
  unfolding are_same_subject
  value_spared _ _ e (of_this r is) = of_this r is
  value_spared _ _ e (of_variable u j value there only has) =
      of_variable u j value there only (get_set_other locals i j x other ∙ has)
    where
      other : i ≡ j → ⊥
      other same =
          let one : v ≡ u = some_inj v u (sym is_there ∙ (ap (slice_get (variables_in p body)) same ∙ there)) in
          let yes : (v == u) ≡ true = grind (arith, nat_tests) in
          absurd (true≢false (sym yes ∙ e))

  first_spared : (a b : Bool) → (a || b) ≡ false → a ≡ false
  first_spared true b e = e
  first_spared false b e = refl

  second_spared : (a b : Bool) → (a || b) ≡ false → b ≡ false
  second_spared true b e = absurd (true≢false e)
  second_spared false b e = e

  pub holds_spared : (guard : Guard) → is_subject guard (the_variable v) ≡ false → GuardHolds p w body this locals guard →
      GuardHolds p w body this (slice_set locals i x) guard
  holds_spared guard e h =
      let a = are_same_subject (the_variable v) guard.first in
      let b = are_same_subject (the_variable v) guard.second in
      record {
        first = h.first;
        second = h.second;
        first_is = value_spared guard.first h.first (first_spared a b e) h.first_is;
        second_is = value_spared guard.second h.second (second_spared a b e) h.second_is;
        together = h.together;
      }

-- ---- the values of subjects

module _ (p : Declarations) (body : Body) (this : Option ℕ) (locals : List Value) where
  -- a subject has one value
  pub one_value : (s t : Subject) (a b : Value) → are_same_subject s t ≡ true → IsValueOf p body this locals s a →
      IsValueOf p body this locals t b → a ≡ b
  unfolding are_same_subject
  one_value _ _ _ _ e (of_this r is) (of_this q has) = ap (λ n. At n) (some_inj r q (sym is ∙ has))
  one_value _ _ _ _ e (of_variable v i a there only is) (of_variable u j b there2 only2 has) =
      let same : v ≡ u = grind (arith, nat_tests) in
      let one : i ≡ j = only2 i (there ∙ ap (λ n. Some n) same) in
      some_inj a b (sym is ∙ (ap (slice_get locals) one ∙ has))
  one_value _ _ _ _ e (of_this r is) (of_variable u j b there2 only2 has) = absurd (true≢false (sym e))
  one_value _ _ _ _ e (of_variable v i a there only is) (of_this q has) = absurd (true≢false (sym e))
