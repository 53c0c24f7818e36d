-- Texts have one program, or one break that is told.
use Rattle.std.proofs.Common.{◌≡◌, ℕ, List, [], refl, ap, sym, subst, ◌∙◌}
use Rattle.scj_base.specs.declared.findings.Found.{Found}
use Rattle.scj_base.specs.declared.lexemes.Token.{Token}
use Rattle.scj_base.specs.Lex.{Lex, position_of}
use Rattle.scj_tree.specs.Forest.{Forest}
use Rattle.scj_tree.specs.Lexemes.{Lexeme, lexemes_of}
use Rattle.scj_lexer.proofs.Whole.{lexes_unique, not_both, breaks_unique}
use Rattle.scj_rules.specs.Syntax.{BreaksLexemes, HaveLexemes, FirstBreakOfLexemes, FilesRead, FirstBreakOfGrammar, BreaksFrom, ReadsFrom}
use Rattle.scj_rules.specs.Syntax.HaveLexemes.{no_text, next_text}
use Rattle.scj_rules.specs.Syntax.FirstBreakOfLexemes.{in_this, in_another}
use Rattle.scj_rules.specs.Syntax.FilesRead.{no_file, next_file}
use Rattle.scj_rules.specs.Syntax.FirstBreakOfGrammar.{in_this_file, in_another_file}
use Rattle.scj_rules.specs.Syntax.BreaksFrom.{in_lexemes, in_grammar}
use Rattle.scj_check.proofs.GrammarLaws.{same_found, one_outcome, not_read_and_broken, one_break}

-- ---- lexemes

one_row : (file : ℕ) (text : List ℕ) (tokens again : List Token) → Lex file text tokens → Lex file text again →
    lexemes_of text tokens ≡ lexemes_of text again
one_row file text tokens again lexed lexed_again =
    ap (λ (t : List Token). lexemes_of text t) (lexes_unique file [] text tokens again lexed lexed_again)

one_list : {file : ℕ} {texts : List (List ℕ)} {some other : List (List Lexeme)} → HaveLexemes file texts some →
    HaveLexemes file texts other → some ≡ other
one_list no_text no_text = refl
one_list (next_text {file} {text} lexed more) (next_text lexed_again more_again) =
    rw (one_row file text _ _ lexed lexed_again, one_list more more_again) refl

lexed_or_broken : (file : ℕ) (text : List ℕ) (tokens : List Token) (found : Found) → Lex file text tokens →
    BreaksLexemes file text found → ⊥
lexed_or_broken file text tokens found lexed broken =
    not_both file [] text tokens found.rule broken.offset broken.broken lexed

lexemes_or_break : {file : ℕ} {texts : List (List ℕ)} {some : List (List Lexeme)} {found : Found} →
    HaveLexemes file texts some → FirstBreakOfLexemes file texts found → ⊥
lexemes_or_break no_text b = elim b [ ]
lexemes_or_break (next_text lexed more) (in_this broken) = lexed_or_broken _ _ _ _ lexed broken
lexemes_or_break (next_text lexed more) (in_another lexed_again later) = lexemes_or_break more later

one_place : (file : ℕ) (text : List ℕ) (one other : Found) → BreaksLexemes file text one →
    BreaksLexemes file text other → one ≡ other
one_place file text one other a b =
    let both = breaks_unique text one.rule other.rule a.offset b.offset a.broken b.broken in
    same_found one other both.0 (a.is_position ∙ (ap (λ (n : ℕ). position_of file text n) both.1 ∙ sym b.is_position))

one_break_of_lexemes : {file : ℕ} {texts : List (List ℕ)} {one other : Found} → FirstBreakOfLexemes file texts one →
    FirstBreakOfLexemes file texts other → one ≡ other
one_break_of_lexemes (in_this broken) (in_this broken_again) = one_place _ _ _ _ broken broken_again
one_break_of_lexemes (in_this broken) (in_another lexed later) = absurd (lexed_or_broken _ _ _ _ lexed broken)
one_break_of_lexemes (in_another lexed later) (in_this broken) = absurd (lexed_or_broken _ _ _ _ lexed broken)
one_break_of_lexemes (in_another lexed later) (in_another lexed_again later_again) =
    one_break_of_lexemes later later_again

-- ---- files

one_forest : {before one other : Forest} {rows : List (List Lexeme)} → FilesRead before rows one →
    FilesRead before rows other → one ≡ other
one_forest no_file no_file = refl
one_forest {other = other} (next_file {more = more} read rest) (next_file read_again rest_again) =
    one_forest rest
    (subst (λ (f : Forest). FilesRead f more other) (sym (one_outcome _ _ _ _ read read_again)) rest_again)

forest_or_break : {before after : Forest} {rows : List (List Lexeme)} {found : Found} → FilesRead before rows after →
    FirstBreakOfGrammar before rows found → ⊥
forest_or_break no_file b = elim b [ ]
forest_or_break (next_file read rest) (in_this_file broken) = not_read_and_broken _ _ _ _ read broken
forest_or_break {found = found} (next_file {more = more} read rest) (in_another_file read_again later) =
    forest_or_break rest
    (subst (λ (f : Forest). FirstBreakOfGrammar f more found) (sym (one_outcome _ _ _ _ read read_again)) later)

one_break_of_grammar : {before : Forest} {rows : List (List Lexeme)} {one other : Found} →
    FirstBreakOfGrammar before rows one → FirstBreakOfGrammar before rows other → one ≡ other
one_break_of_grammar (in_this_file broken) (in_this_file broken_again) = one_break _ _ _ _ broken broken_again
one_break_of_grammar (in_this_file broken) (in_another_file read later) =
    absurd (not_read_and_broken _ _ _ _ read broken)
one_break_of_grammar (in_another_file read later) (in_this_file broken) =
    absurd (not_read_and_broken _ _ _ _ read broken)
one_break_of_grammar {other = other} (in_another_file {more = more} read later)
    (in_another_file read_again later_again) =
    one_break_of_grammar later
    (subst (λ (f : Forest). FirstBreakOfGrammar f more other) (sym (one_outcome _ _ _ _ read read_again))
    later_again)

-- ---- texts

pub one_program : (file : ℕ) (before : Forest) (texts : List (List ℕ)) (one other : Forest) →
    ReadsFrom file before texts one → ReadsFrom file before texts other → one ≡ other
one_program file before texts one other a b =
    one_forest a.files_read
    (subst (λ (rows : List (List Lexeme)). FilesRead before rows other) (one_list b.have_lexemes a.have_lexemes)
    b.files_read)

pub one_break_reported : (file : ℕ) (before : Forest) (texts : List (List ℕ)) (one other : Found) →
    BreaksFrom file before texts one → BreaksFrom file before texts other → one ≡ other
one_break_reported file before texts one other (in_lexemes a) (in_lexemes b) = one_break_of_lexemes a b
one_break_reported file before texts one other (in_lexemes a) (in_grammar have b) = absurd (lexemes_or_break have a)
one_break_reported file before texts one other (in_grammar have a) (in_lexemes b) = absurd (lexemes_or_break have b)
one_break_reported file before texts one other (in_grammar have a) (in_grammar have_too b) =
    one_break_of_grammar a
    (subst (λ (rows : List (List Lexeme)). FirstBreakOfGrammar before rows other) (one_list have_too have) b)

pub program_or_break : (file : ℕ) (before : Forest) (texts : List (List ℕ)) (after : Forest) (found : Found) →
    ReadsFrom file before texts after → BreaksFrom file before texts found → ⊥
program_or_break file before texts after found a (in_lexemes b) = lexemes_or_break a.have_lexemes b
program_or_break file before texts after found a (in_grammar have b) =
    forest_or_break a.files_read
    (subst (λ (rows : List (List Lexeme)). FirstBreakOfGrammar before rows found) (one_list have a.have_lexemes) b)
