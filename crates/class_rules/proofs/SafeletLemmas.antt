-- One safelet more.
use Rattle.std.proofs.Common.{◌≡◌, ◌≤◌, ◌<◌, ℕ, zero, suc, ◌+◌, Bool, true, false, not, List, [], ◌∷◌, ◌++◌, length, drop, slice_get, Option, Some, None, refl, sym, ap, ◌∙◌, arith}
use Rattle.std.specs.List.{cons_option}
use Rattle.std.proofs.lemmas.Grind.{common_steps}
use Rattle.std.proofs.lemmas.List.{drop_all}
use Rattle.scj_base.specs.declared.findings.Found.{Found}
use Rattle.scj_base.specs.declared.findings.Rule.TheVariants.{C8}
use Rattle.scj_tree.specs.Forest.{Forest}
use Rattle.scj_rules.specs.Words.{broken, ◌>>=◌}
use Rattle.scj_rules.specs.Views.{WrittenClass}
use Rattle.scj_rules.specs.Classes.{ClassRow}
use Rattle.scj_rules.specs.ClassRules.{safelets_from, c8_of, c8, first_position}
use Rattle.scj_rules.specs.Contexts.{Declarations, declarations_of}
use Rattle.class_rows.specs.Tables.{class_written}
use Rattle.class_rows.proofs.RowLemmas.{class_length}
use Rattle.class_rules.specs.declared.parts.ClassParts.{ClassParts}
use Rattle.class_rules.specs.Parts.{written_class}
use Rattle.class_rules.specs.Safelets.{safelet_if, safelet_at, left_from, left_over}

-- the safelets from one number on, and from the next
next : (rows : List ClassRow) (class : ℕ) (xs : List ClassRow) (i : ℕ) → i < length xs →
    safelets_from rows class (drop i xs) ≡ cons_option ((slice_get xs i >>= (λ (row : ClassRow). row.written))
    >>= safelet_if rows class) (safelets_from rows (class + 1) (drop (i + 1) xs))
unfolding safelets_from
next rows class [] i l = absurd (omega (arith, l))
next rows class (x ∷ xs) zero l = grind (arith, common_steps)
next rows class (x ∷ xs) (suc i) l =
    let n : suc i + 1 ≡ suc (i + 1) = omega arith in rw n (next rows class xs i (omega (arith, l)))

module _ (forest : Forest) (class : ℕ) where
  abbrev p : Declarations
  p = declarations_of forest

  abbrev left : ℕ → List WrittenClass
  left k = safelets_from p.written k (drop k p.written)

  left_next : (o : Option WrittenClass) → class < length p.classes → o ≡ safelet_at p class →
      left class ≡ cons_option o (left (class + 1))
  unfolding safelet_at class_written
  left_next o l e = next p.written class p.written class (omega (arith, l, class_length forest))
      ∙ ap (λ w. cons_option w (left (class + 1))) (sym e)

  -- what is still to be noted
  pub no_safelet : (is_seen : Bool) (found : List Found) → class < length p.classes → None ≡ safelet_at p class →
      found ++ left_from p (class + 1) is_seen ≡ found ++ left_from p class is_seen
  unfolding left_from
  no_safelet is_seen found l h = ap (λ cs. found ++ left_over is_seen cs) (sym (left_next None l h))

  pub one_safelet : (is_seen : Bool) (found after : List Found) (c : ClassParts) → class < length p.classes →
      Some (written_class forest.nodes c) ≡ safelet_at p class → after ≡ found ++ broken is_seen C8 c.position
      → after ++ left_from p (class + 1) true ≡ found ++ left_from p class is_seen
  unfolding left_from left_over c8_of
  one_safelet is_seen found after c l h a =
      let e = left_next (Some (written_class forest.nodes c)) l h in grind (arith, common_steps, a, e)

  pub all_noted : (is_seen : Bool) → length p.classes ≤ class →
      left_from p class is_seen ≡ broken (not is_seen) C8 first_position
  unfolding left_from left_over safelets_from c8_of
  all_noted is_seen l =
      let none = drop_all class p.written (omega (arith, l, class_length forest)) in
      grind (arith, common_steps, none)

pub all_left : (p : Declarations) → left_from p 0 false ≡ c8 p
unfolding left_from left_over c8
all_left p = refl
