-- A program that is read from texts within the limits of a call is small.
use Rattle.std.specs.Prelude.{◌+◌, ◌*◌, ◌≤◌, Some}
use Rattle.std.proofs.Common.{◌≡◌, ℕ, suc, List, [], ◌∷◌, length, refl, ◌∙◌, ap, arith, length-append}
use Rattle.scj_base.specs.declared.lexemes.Token.{Token}
use Rattle.scj_base.specs.Lex.{Lexes, ends, skips, takes}
use Rattle.scj_lexer.proofs.Whole.{piece_len}
use Rattle.scj_tree.specs.Forest.{Forest}
use Rattle.scj_tree.specs.Lexemes.{Lexeme, lexemes_of}
use Rattle.scj_rules.specs.Syntax.{HaveLexemes, no_text, next_text, FilesRead, no_file, next_file, Reads}
use Rattle.safe_texts.specs.SafePrograms.{AreShort, AreWithinLimits, IsSmall}
use Rattle.safe_texts.proofs.FewNodes.{tree_few}

-- each lexeme has a byte, and the end has none
few_tokens : {file : ℕ} {before bytes : List ℕ} {tokens : List Token} → Lexes file before bytes tokens →
    length tokens ≤ length bytes + 1
few_tokens (ends file before) = omega arith
few_tokens (skips file before w rest tokens p d) = omega (arith, few_tokens d, length-append w rest)
few_tokens (takes file before w rest kind tokens p d) =
    omega (arith, few_tokens d, length-append w rest, piece_len w rest (Some kind) p)

as_many : (bytes : List ℕ) (tokens : List Token) → length (lexemes_of bytes tokens) ≡ length tokens
unfolding lexemes_of
as_many bytes [] = refl
as_many bytes (t ∷ tokens) = ap suc (as_many bytes tokens)

-- ---- file after file

few_nodes : {file : ℕ} {before after : Forest} {texts : List (List ℕ)} {lexemes : List (List Lexeme)} →
    HaveLexemes file texts lexemes → FilesRead before lexemes after → AreShort texts →
    length after.nodes ≤ length before.nodes + 3145731 * length texts
few_nodes no_text no_file h = omega arith
few_nodes (next_text {text = text} {texts = texts} {tokens = tokens} l more) (next_file r d) h =
    omega (arith, few_nodes more d h.1, tree_few r.tree, as_many text tokens, few_tokens l, h.0)

as_many_files : {file : ℕ} {before after : Forest} {texts : List (List ℕ)} {lexemes : List (List Lexeme)} →
    HaveLexemes file texts lexemes → FilesRead before lexemes after →
    length after.files ≡ length before.files + length texts
as_many_files no_text no_file = omega arith
as_many_files {before = before} (next_text {texts = texts} l more) (next_file {between = between} r d) =
    let one : length between.files ≡ length before.files + 1 =
    ap length r.files ∙ length-append before.files (r.classes ∷ []) in
    omega (arith, as_many_files more d, one)

pub reads_small : (texts : List (List ℕ)) (forest : Forest) → AreWithinLimits texts → Reads texts forest →
    IsSmall forest
reads_small texts forest within reads =
    record {
      files = omega (arith, as_many_files reads.have_lexemes reads.files_read, within.few);
      nodes = omega (arith, few_nodes reads.have_lexemes reads.files_read within.short, within.few);
    }
