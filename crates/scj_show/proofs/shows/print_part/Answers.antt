use Rattle.std.proofs.Common.{◌≡◌, [], ◌∷◌, List, ℕ, ap, sym, ◌∙◌}
use Rattle.scj_show.specs.Symbols.{a_name, a_text, a_word, a_sign, a_number, symbols_of_part, written}
use Rattle.scj_show.proofs.Unfolding.{none_smaller, lexeme_printed}
use Rattle.scj_show.proofs.shows.print_part.Goals as goal

pub returns-in_ok-put_name-in-Named-clause-printed : goal.returns-in_ok-put_name-in-Named-clause-printed
unfolding symbols_of_part
returns-in_ok-put_name-in-Named-clause-printed c =
    let is : symbols_of_part (written c.args.program.now.nodes) c.args.part ≡ a_name c.bytes.result.now ∷ [] =
    ap (symbols_of_part (written c.args.program.now.nodes)) c.in-Named.is
    ∙ ap (λ (t : List ℕ). a_name t ∷ []) (sym c.bytes.ensures.value) in
    lexeme_printed _ _ (a_name c.bytes.result.now) _ _ _ is c.requires c.in_ok-put_name-in-Named.ensures

pub returns-in_ok-put_name-in-Named-clause-smaller : goal.returns-in_ok-put_name-in-Named-clause-smaller
returns-in_ok-put_name-in-Named-clause-smaller c = none_smaller _ _ _ c.requires

pub returns-in_ok-put_text-in-Quoted-clause-printed : goal.returns-in_ok-put_text-in-Quoted-clause-printed
unfolding symbols_of_part
returns-in_ok-put_text-in-Quoted-clause-printed c =
    let is : symbols_of_part (written c.args.program.now.nodes) c.args.part ≡ a_text c.bytes-in-Quoted.result.now ∷ [] =
    ap (symbols_of_part (written c.args.program.now.nodes)) c.in-Quoted.is
    ∙ ap (λ (t : List ℕ). a_text t ∷ []) (sym c.bytes-in-Quoted.ensures.value) in
    lexeme_printed _ _ (a_text c.bytes-in-Quoted.result.now) _ _ _ is c.requires c.in_ok-put_text-in-Quoted.ensures

pub returns-in_ok-put_text-in-Quoted-clause-smaller : goal.returns-in_ok-put_text-in-Quoted-clause-smaller
returns-in_ok-put_text-in-Quoted-clause-smaller c = none_smaller _ _ _ c.requires

pub returns-in_ok-put_word-in-Word-clause-printed : goal.returns-in_ok-put_word-in-Word-clause-printed
unfolding symbols_of_part
returns-in_ok-put_word-in-Word-clause-printed c =
    let is : symbols_of_part (written c.args.program.now.nodes) c.args.part ≡ a_word c.in-Word.word ∷ [] =
    ap (symbols_of_part (written c.args.program.now.nodes)) c.in-Word.is in
    lexeme_printed _ _ (a_word c.in-Word.word) _ _ _ is c.requires c.in_ok-put_word-in-Word.ensures

pub returns-in_ok-put_word-in-Word-clause-smaller : goal.returns-in_ok-put_word-in-Word-clause-smaller
returns-in_ok-put_word-in-Word-clause-smaller c = none_smaller _ _ _ c.requires

pub returns-in_ok-put_sign-in-Sign-clause-printed : goal.returns-in_ok-put_sign-in-Sign-clause-printed
unfolding symbols_of_part
returns-in_ok-put_sign-in-Sign-clause-printed c =
    let is : symbols_of_part (written c.args.program.now.nodes) c.args.part ≡ a_sign c.in-Sign.sign ∷ [] =
    ap (symbols_of_part (written c.args.program.now.nodes)) c.in-Sign.is in
    lexeme_printed _ _ (a_sign c.in-Sign.sign) _ _ _ is c.requires c.in_ok-put_sign-in-Sign.ensures

pub returns-in_ok-put_sign-in-Sign-clause-smaller : goal.returns-in_ok-put_sign-in-Sign-clause-smaller
returns-in_ok-put_sign-in-Sign-clause-smaller c = none_smaller _ _ _ c.requires

pub returns-in_ok-put_number-in-Digits-clause-printed : goal.returns-in_ok-put_number-in-Digits-clause-printed
unfolding symbols_of_part
returns-in_ok-put_number-in-Digits-clause-printed c =
    let is : symbols_of_part (written c.args.program.now.nodes) c.args.part ≡ a_number c.in-Digits.number ∷ [] =
    ap (symbols_of_part (written c.args.program.now.nodes)) c.in-Digits.is in
    lexeme_printed _ _ (a_number c.in-Digits.number) _ _ _ is c.requires c.in_ok-put_number-in-Digits.ensures

pub returns-in_ok-put_number-in-Digits-clause-smaller : goal.returns-in_ok-put_number-in-Digits-clause-smaller
returns-in_ok-put_number-in-Digits-clause-smaller c = none_smaller _ _ _ c.requires
