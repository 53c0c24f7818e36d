use Rattle.std.proofs.Common.{◌≡◌, ◌<◌, ◌≤◌, length, arith, ◌∙◌, sym, refl, eqb-true}
use Rattle.scj_lexer.proofs.Reached.{reached_start, reached_blank, reached_space, reached_small, Small, reached_step, reached_end, reached_break, PieceFits, piece_fits, not_at_end, reported_memory}
use Rattle.scj_lexer.proofs.Places.{reported_in_line}
use Rattle.scj_lexer.proofs.texts.lex.Goals as goal

pub loop-rest-init : goal.loop-rest-init
loop-rest-init c = rw c.new-tokens.ensures (record { reached = reached_start c.args.file c.args.bytes.now })

pub returns-in-Bad-clause-bad : goal.returns-in-Bad-clause-bad
returns-in-Bad-clause-bad c =
    reached_break c.args.file c.args.bytes.now c.loop-rest.rest.now c.loop-rest.pos c.loop-rest.tokens c.in-Bad.rule _
    (not_at_end _ _ c.is_empty.ensures c.loop-rest-test.true) (sym c.first.ensures ∙ c.in-Bad.is) refl refl
    c.loop-rest.invariant.reached

pub returns-in_err-put-in-Piece-clause-bad : goal.returns-in_err-put-in-Piece-clause-bad
returns-in_err-put-in-Piece-clause-bad c =
    reported_memory c.args.file c.args.bytes.now c.from_residual.result c.from_residual.ensures.1

pub returns-in_err-put-clause-bad : goal.returns-in_err-put-clause-bad
returns-in_err-put-clause-bad c =
    reported_memory c.args.file c.args.bytes.now c.from_residual-in_err-put.result c.from_residual-in_err-put.ensures.1

pub put-requires-clause-len_fits : goal.put-requires-clause-len_fits
put-requires-clause-len_fits c =
    let f : PieceFits c.args.bytes.now c.loop-rest.rest.now c.loop-rest.pos c.in-Piece.len =
    (piece_fits c.args.file c.args.bytes.now c.loop-rest.rest.now c.in-Piece.kind c.in-Piece.len c.loop-rest.pos
    c.loop-rest.tokens c.requires (not_at_end _ _ c.is_empty.ensures c.loop-rest-test.true)
    (sym c.first.ensures ∙ c.in-Piece.is) c.loop-rest.invariant.reached) in
    f.len_fits

pub split_at-requires-in-Piece : goal.split_at-requires-in-Piece
split_at-requires-in-Piece c =
    let f : PieceFits c.args.bytes.now c.loop-rest.rest.now c.loop-rest.pos c.in-Piece.len =
    (piece_fits c.args.file c.args.bytes.now c.loop-rest.rest.now c.in-Piece.kind c.in-Piece.len c.loop-rest.pos
    c.loop-rest.tokens c.requires (not_at_end _ _ c.is_empty.ensures c.loop-rest-test.true)
    (sym c.first.ensures ∙ c.in-Piece.is) c.loop-rest.invariant.reached) in
    f.within

pub behind_piece-pos-requires-clause-lines_fit : goal.behind_piece-pos-requires-clause-lines_fit
behind_piece-pos-requires-clause-lines_fit c =
    let f : PieceFits c.args.bytes.now c.loop-rest.rest.now c.loop-rest.pos c.in-Piece.len =
    (piece_fits c.args.file c.args.bytes.now c.loop-rest.rest.now c.in-Piece.kind c.in-Piece.len c.loop-rest.pos
    c.loop-rest.tokens c.requires (not_at_end _ _ c.is_empty.ensures c.loop-rest-test.true)
    (sym c.first.ensures ∙ c.in-Piece.is) c.loop-rest.invariant.reached) in
    rw c.split_at-in-Piece.ensures.front f.line_fits

pub behind_piece-pos-requires-clause-columns_fit : goal.behind_piece-pos-requires-clause-columns_fit
behind_piece-pos-requires-clause-columns_fit c =
    let f : PieceFits c.args.bytes.now c.loop-rest.rest.now c.loop-rest.pos c.in-Piece.len =
    (piece_fits c.args.file c.args.bytes.now c.loop-rest.rest.now c.in-Piece.kind c.in-Piece.len c.loop-rest.pos
    c.loop-rest.tokens c.requires (not_at_end _ _ c.is_empty.ensures c.loop-rest-test.true)
    (sym c.first.ensures ∙ c.in-Piece.is) c.loop-rest.invariant.reached) in
    rw c.split_at-in-Piece.ensures.front f.col_fits

pub loop-rest-smaller : goal.loop-rest-smaller
loop-rest-smaller c =
    let f : PieceFits c.args.bytes.now c.loop-rest.rest.now c.loop-rest.pos c.in-Piece.len =
    (piece_fits c.args.file c.args.bytes.now c.loop-rest.rest.now c.in-Piece.kind c.in-Piece.len c.loop-rest.pos
    c.loop-rest.tokens c.requires (not_at_end _ _ c.is_empty.ensures c.loop-rest-test.true)
    (sym c.first.ensures ∙ c.in-Piece.is) c.loop-rest.invariant.reached) in
    let p : 0 < c.in-Piece.len = f.positive in let w : c.in-Piece.len ≤ length c.loop-rest.rest.now =
    f.within in omega arith

pub loop-rest-preserved : goal.loop-rest-preserved
loop-rest-preserved c =
    rw (
      c.split_at-in-Piece.ensures.back,
      c.behind_piece-pos.ensures,
      c.split_at-in-Piece.ensures.front,
      c.in_ok-put-in-Piece.ensures,
    )
    (record {
      reached = reached_step c.args.file c.args.bytes.now c.loop-rest.rest.now c.in-Piece.kind c.in-Piece.len
          c.loop-rest.pos c.loop-rest.tokens (not_at_end _ _ c.is_empty.ensures c.loop-rest-test.true)
          (sym c.first.ensures ∙ c.in-Piece.is) c.loop-rest.invariant.reached;
    })

pub returns-clause-ok : goal.returns-clause-ok
returns-clause-ok c =
    let empty : length c.loop-rest.rest.now ≡ 0 = eqb-true _ _ (sym c.is_empty.ensures ∙ c.loop-rest-test.false) in
    rw c.in_ok-put.ensures
    (reached_end c.args.file c.args.bytes.now c.loop-rest.rest.now c.loop-rest.pos c.loop-rest.tokens empty
    c.loop-rest.invariant.reached)

pub behind_byte-pos-requires-clause-line_fits : goal.behind_byte-pos-requires-clause-line_fits
behind_byte-pos-requires-clause-line_fits c =
    let f : Small c.loop-rest.pos c.args.bytes.now c.loop-rest.rest.now =
    reached_small c.args.file c.args.bytes.now c.loop-rest.rest.now c.loop-rest.pos c.loop-rest.tokens
    c.loop-rest.invariant.reached in
    omega (arith, f.line, c.requires, not_at_end _ _ c.is_empty.ensures c.loop-rest-test.true)

pub behind_byte-pos-requires-clause-column_fits : goal.behind_byte-pos-requires-clause-column_fits
behind_byte-pos-requires-clause-column_fits c =
    let f : Small c.loop-rest.pos c.args.bytes.now c.loop-rest.rest.now =
    reached_small c.args.file c.args.bytes.now c.loop-rest.rest.now c.loop-rest.pos c.loop-rest.tokens
    c.loop-rest.invariant.reached in
    omega (arith, f.col, c.requires, not_at_end _ _ c.is_empty.ensures c.loop-rest-test.true)

pub loop-rest-preserved-then-is_blank : goal.loop-rest-preserved-then-is_blank
loop-rest-preserved-then-is_blank c =
    rw (c.split_at-then-is_blank.ensures.back, c.behind_byte-pos.ensures.value)
    (record {
      reached = reached_blank c.args.file c.args.bytes.now c.loop-rest.rest.now c.loop-rest.pos
          c.loop-rest.tokens (not_at_end _ _ c.is_empty.ensures c.loop-rest-test.true)
          (sym c.is_blank.ensures ∙ c.if-is_blank.true) c.loop-rest.invariant.reached;
    })

pub behind_piece-pos-requires-clause-in_line : goal.behind_piece-pos-requires-clause-in_line
behind_piece-pos-requires-clause-in_line c =
    rw c.split_at-in-Piece.ensures.front
    (reported_in_line c.loop-rest.rest.now c.in-Piece.kind c.in-Piece.len
    (not_at_end _ _ c.is_empty.ensures c.loop-rest-test.true) (sym c.first.ensures ∙ c.in-Piece.is))

pub along-pos-requires : goal.along-pos-requires
along-pos-requires c =
    let f : Small c.loop-rest.pos c.args.bytes.now c.loop-rest.rest.now =
    reached_small c.args.file c.args.bytes.now c.loop-rest.rest.now c.loop-rest.pos c.loop-rest.tokens
    c.loop-rest.invariant.reached in
    omega (arith, f.col, c.requires, not_at_end _ _ c.is_empty.ensures c.loop-rest-test.true)

pub loop-rest-preserved-then-rest-eq32 : goal.loop-rest-preserved-then-rest-eq32
loop-rest-preserved-then-rest-eq32 c =
    rw (c.split_at.ensures.back, c.along-pos.ensures)
    (record {
      reached = reached_space c.args.file c.args.bytes.now c.loop-rest.rest.now c.loop-rest.pos
          c.loop-rest.tokens (not_at_end _ _ c.is_empty.ensures c.loop-rest-test.true)
          (c.if-rest-eq32.true) c.loop-rest.invariant.reached;
    })
