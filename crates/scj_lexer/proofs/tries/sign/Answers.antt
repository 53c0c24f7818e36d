use Rattle.std.proofs.Common.{◌≡◌, true, false, arith, get_or, ◌∙◌, sym}
use Rattle.std.specs.Prelude.{◌==◌}
use Rattle.std.specs.List.{starts_with}
use Rattle.scj_lexer.specs.Tries.{is_sign_first}
use Rattle.scj_lexer.proofs.Searches.{find_yes, find_no, is_sign_first_at, signs_in_range, sign_of_is}
use Rattle.scj_lexer.proofs.TableChecks.{sign_of_alone}
use Rattle.scj_lexer.proofs.tries.sign.Goals as goal

pub returns-then-not-may_go_on-clause-value : goal.returns-then-not-may_go_on-clause-value
returns-then-not-may_go_on-clause-value c =
    let whole = sign_of_alone c.args.bytes.now (omega arith) (omega arith) (omega arith)
    (sym c.may_go_on.ensures ∙ c.if-not-may_go_on.true) in
    c.sign_alone.ensures.value ∙ sym whole

pub sign_text-requires : goal.sign_text-requires
sign_text-requires c =
    rw c.candidate_signs-index-items.ensures
    (signs_in_range _ _ (rw (← c.candidate_signs-index-items.ensures) (omega arith)))

pub returns-then-starts_with-clause-value : goal.returns-then-starts_with-clause-value
returns-then-starts_with-clause-value c =
    let items = c.candidate_signs-index-items.result.now in
    let i = c.loop-index.index-index in
    let e : c.starts_with.result ≡ starts_with ◌==◌ c.args.bytes.now c.sign_text.result.now =
    rw c.as_bytes.ensures.value at c.starts_with.ensures.value in
    let t : is_sign_first c.args.bytes.now (get_or items i 0) ≡ true = is_sign_first_at _ _ _ c.sign_text.ensures
    ∙ sym e ∙ c.if-starts_with.true in
    let whole = sign_of_is c.args.bytes.now (omega arith) (omega arith) (omega arith) in
    sym (find_yes (is_sign_first c.args.bytes.now) items i (omega arith) t) ∙ c.loop-index.invariant
    ∙ rw c.candidate_signs-index-items.ensures (sym whole)

pub loop-index-preserved : goal.loop-index-preserved
loop-index-preserved c =
    let items = c.candidate_signs-index-items.result.now in
    let i = c.loop-index.index-index in
    let e : c.starts_with.result ≡ starts_with ◌==◌ c.args.bytes.now c.sign_text.result.now =
    rw c.as_bytes.ensures.value at c.starts_with.ensures.value in
    let t : is_sign_first c.args.bytes.now (get_or items i 0) ≡ false = is_sign_first_at _ _ _ c.sign_text.ensures
    ∙ sym e ∙ c.if-starts_with.false in
    sym (find_no (is_sign_first c.args.bytes.now) items i (omega arith) t) ∙ c.loop-index.invariant

pub returns-then-starts_with-clause-in_range : goal.returns-then-starts_with-clause-in_range
returns-then-starts_with-clause-in_range c =
    rw c.candidate_signs-index-items.ensures
    (signs_in_range _ _ (rw (← c.candidate_signs-index-items.ensures) (omega arith)))
