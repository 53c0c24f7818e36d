-- A program whose texts have an empty report is safe: it is read from texts and breaks no rule, and where it is as small
-- as the checker's numbers it is a forest. That of texts within the limits of a call is so small.
use Rattle.std.specs.Prelude.{◌+◌, ◌<◌, ◌≤◌, ◌^◌, None}
use Rattle.std.proofs.Common.{◌≡◌, ℕ, List, [], ◌∷◌, length, sym, ◌∙◌, ap, subst, arith, length-append}
use Rattle.scj_tree.specs.Forest.{Forest, IsForest, forest_of}
use Rattle.scj_tree.specs.Lexemes.{Lexeme}
use Rattle.scj_tree.proofs.ForestLemmas.{empty_forest}
use Rattle.scj_rules.specs.Phases.{IsAccepted, Reports, nowhere}
use Rattle.scj_rules.specs.Syntax.{FilesRead, no_file, next_file, Reads}
use Rattle.scj_rules.specs.Verdicts.{IsReportOf, in_program}
use Rattle.machine_laws.proofs.GrowthOfFiles.{tree_grown, forest_kept}
use Rattle.scj_check.proofs.VerdictLaws.{one_forest}
use Rattle.scope_sound.proofs.Safe.{safe}
use Rattle.scj_model.specs.Code.{code_of}
use Rattle.scj_model.specs.Safety.{IsSafe}
use Rattle.safe_texts.specs.SafePrograms.{AreWithinLimits, IsSmall, IsSafeProgram}
use Rattle.safe_texts.proofs.SmallPrograms.{reads_small}

-- nodes and files only come to those of the files before
nodes_grow : {before after : Forest} {lexemes : List (List Lexeme)} → FilesRead before lexemes after →
    length before.nodes ≤ length after.nodes
nodes_grow no_file = omega arith
nodes_grow {before} {after} (next_file {between = between} r d) =
    let g = tree_grown r.tree in
    let l : length between.nodes ≡ length before.nodes + length g.more =
    ap length g.whole ∙ length-append before.nodes g.more in
    omega (arith, l, nodes_grow d)

files_grow : {before after : Forest} {lexemes : List (List Lexeme)} → FilesRead before lexemes after →
    length before.files ≤ length after.files
files_grow no_file = omega arith
files_grow {before} {after} (next_file {between = between} r d) =
    let l : length between.files ≡ length before.files + 1 =
    ap length r.files ∙ length-append before.files (r.classes ∷ []) in
    omega (arith, l, files_grow d)

files_keep_a_forest : {before after : Forest} {lexemes : List (List Lexeme)} → FilesRead before lexemes after →
    IsForest before → IsSmall after → IsForest after
files_keep_a_forest no_file h small = h
files_keep_a_forest {before} {after} (next_file {between = between} r d) h small =
    files_keep_a_forest d here small
  where
    few : length before.files < 16
    few =
        let l : length between.files ≡ length before.files + 1 =
        ap length r.files ∙ length-append before.files (r.classes ∷ []) in
        let m = small.files in omega (arith, l, files_grow d, m)

    fits : length between.nodes < 2 ^ 32
    fits = let m = small.nodes in omega (arith, nodes_grow d, m)

    here : IsForest between
    here =
        subst (λ files. IsForest (forest_of between.nodes files)) (sym r.files)
        (forest_kept before.files r.tree h few fits)

-- a program that is read from texts is one, if it is small
read_is_forest : {texts : List (List ℕ)} {forest : Forest} → Reads texts forest → IsSmall forest → IsForest forest
read_is_forest r small = files_keep_a_forest r.files_read empty_forest small

accepted_of : (forest : Forest) → Reports forest None [] → IsAccepted forest
accepted_of forest (nowhere accepted) = accepted

module _ (texts : List (List ℕ)) (forest : Forest) (reads : Reads texts forest) (accepted : IsAccepted forest) where
  safe_if_small : IsSmall forest → IsSafe (code_of forest)
  safe_if_small small =
      safe forest (record {
        whole = read_is_forest reads small;
        is_read = record { texts = texts; reads = reads };
        is_accepted = accepted;
      })

-- texts have one report alone, so the program that they are read as is the one of the report
pub small_is_safe : (texts : List (List ℕ)) (forest : Forest) → IsReportOf texts [] → Reads texts forest →
    IsSmall forest → IsSafe (code_of forest)
small_is_safe texts forest (in_program {forest = other} r reports) reads small =
    safe_if_small texts forest reads (subst IsAccepted (one_forest r reads) (accepted_of other reports)) small

pub accepted_is_safe : (texts : List (List ℕ)) → AreWithinLimits texts → IsReportOf texts [] → IsSafeProgram texts
accepted_is_safe texts within (in_program {forest = forest} reads reports) =
    record {
      program = forest;
      reads = reads;
      breaks_none = accepted_of forest reports;
      is_safe = safe_if_small texts forest reads (accepted_of forest reports) (reads_small texts forest within reads);
    }
