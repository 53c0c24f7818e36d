-- Each file of a program that was read was read from its text.
use Rattle.std.proofs.Common.{◌≡◌, ℕ, zero, suc, ◌+◌, List, [], ◌∷◌, ◌++◌, length, Some, slice_get, slice_index_or, refl, sym, ap, subst, ◌∙◌, arith, append-nil, append_assoc, length-append}
use Rattle.scj_base.specs.declared.lexemes.Token.{Token}
use Rattle.scj_base.specs.Lex.{Lex}
use Rattle.scj_tree.specs.Forest.{Forest}
use Rattle.scj_tree.specs.Lexemes.{Lexeme, lexemes_of}
use Rattle.scj_tree.specs.Grammar.{Tree}
use Rattle.scj_rules.specs.Syntax.{FilesRead, no_file, next_file, HaveLexemes, no_text, next_text, Reads}
use Rattle.scj_tree.specs.Files.{FileRead}
use Rattle.scj_show.specs.Reread.{classes_of, WasReadFrom}
use Rattle.scj_show.proofs.Again.{Front, front-none, front-then}
use Rattle.scj_show.proofs.FilesAgain.{tree_front}

-- a forest with the files and the nodes of another one first
record Kept (before after : Forest) : Type 0 where
  more : List (List ℕ)
  files : after.files ≡ before.files ++ more
  nodes : Front before.nodes after.nodes

kept : {before after : Forest} {lexemes : List (List Lexeme)} → FilesRead before lexemes after → Kept before after
kept {before} no_file = record { more = []; files = sym (append-nil before.files); nodes = front-none }
kept {before} (next_file r d) =
    let k = kept d in
    record {
      more = r.classes ∷ k.more;
      files = k.files ∙ ap (λ (t : List (List ℕ)). t ++ k.more) r.files
          ∙ append_assoc before.files (r.classes ∷ []) k.more;
      nodes = front-then (tree_front r.tree) k.nodes;
    }

classes_at : (files : List (List ℕ)) (ids : List ℕ) (more : List (List ℕ)) →
    slice_index_or (files ++ ids ∷ more) (length files) [] ≡ ids
classes_at [] ids more = refl
classes_at (f ∷ files) ids more = classes_at files ids more

one_file : {before between after : Forest} {number : ℕ} {text : List ℕ} {tokens : List Token} → Lex number text tokens →
    FileRead before (lexemes_of text tokens) between → Kept between after → WasReadFrom after (length before.files) text
one_file {before} {between} {after} {number} {text} {tokens} l r k =
    let files : after.files ≡ before.files ++ (r.classes ∷ k.more) =
    k.files ∙ ap (λ (t : List (List ℕ)). t ++ k.more) r.files ∙ append_assoc before.files (r.classes ∷ []) k.more in
    let same : classes_of after (length before.files) ≡ r.classes =
    ap (λ (t : List (List ℕ)). slice_index_or t (length before.files) []) files
    ∙ classes_at before.files r.classes k.more in
    record {
      number = number;
      tokens = tokens;
      lex = l;
      start = before.nodes;
      nodes = between.nodes;
      tree = subst (λ (ids : List ℕ). Tree before.nodes (lexemes_of text tokens) between.nodes ids) (sym same) r.tree;
      others = k.nodes.rest;
      whole = k.nodes.whole;
    }

each_file : {number : ℕ} {texts : List (List ℕ)} {lexemes : List (List Lexeme)} {before after : Forest} →
    HaveLexemes number texts lexemes → FilesRead before lexemes after → (k : ℕ) (text : List ℕ) →
    slice_get texts k ≡ Some text → WasReadFrom after (length before.files + k) text
each_file no_text no_file k text e = absurd (cc)
each_file {before = before} {after = after} (next_text {text = first} l h) (next_file r d) zero text e =
    let same : first ≡ text = cc in
    let here : length before.files ≡ length before.files + 0 = omega arith in
    subst (λ (n : ℕ). WasReadFrom after n text) here
    (subst (λ (t : List ℕ). WasReadFrom after (length before.files) t) same (one_file l r (kept d)))
each_file {before = before} {after = after} (next_text l h) (next_file {between = between} r d) (suc k) text e =
    let here : length between.files + k ≡ length before.files + suc k =
    omega (arith, ap length r.files, length-append before.files (r.classes ∷ [])) in
    subst (λ (n : ℕ). WasReadFrom after n text) here (each_file h d k text e)

pub read_from : (texts : List (List ℕ)) (forest : Forest) (file : ℕ) (text : List ℕ) → Reads texts forest →
    slice_get texts file ≡ Some text → WasReadFrom forest file text
read_from texts forest file text reads e =
    let here : 0 + file ≡ file = omega arith in
    subst (λ (n : ℕ). WasReadFrom forest n text) here (each_file reads.have_lexemes reads.files_read file text e)
