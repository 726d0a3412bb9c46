use Rattle.std.proofs.Common.{◌≡◌, ◌≤◌, ◌+◌, length, take, drop, ap, sym, ◌∙◌, arith}
use Rattle.std.specs.Prelude.{sum_by}
use Rattle.std.specs.Char.{len_utf8}
use Rattle.lq_lex.proofs.FrontLaws.{head_tail}
use Rattle.lq_lex.proofs.Cutting.{piece_fits, token_found, blank_found, fault_found, end_found, width_split, width_bound}
use Rattle.lq_lex.proofs.lexer.cut.Goals as goal
use Rattle.lq_lex.proofs.lexer.cut.Goals.{In-Some, After-width_of}

-- the piece goes no further than the text
fits : (c : In-Some) → c.in-Some.more + 1 ≤ length c.loop-text.text.now
fits c = piece_fits _ _ _ _ _ (sym c.piece.ensures ∙ c.in-Some.is) (head_tail _ _ c.in-len1-up.len_at_least c.first-item.is)

-- how wide the piece is
piece_width : (c : After-width_of) → c.loop-text.start + c.width_of.result ≡ c.loop-text.start + sum_by len_utf8 (take (c.in-Some.more + 1) c.loop-text.text.now)
piece_width c = ap (λ width. c.loop-text.start + width) (c.width_of.ensures ∙ ap (sum_by len_utf8) c.split_at.ensures.front)

piece_ends : (c : After-width_of) → c.loop-text.start + c.width_of.result + sum_by len_utf8 c.split_at.result.1.now ≡ sum_by len_utf8 c.args.characters.now
piece_ends c =
    let left : sum_by len_utf8 c.split_at.result.1.now ≡ sum_by len_utf8 (drop (c.in-Some.more + 1) c.loop-text.text.now) = ap (sum_by len_utf8) c.split_at.ensures.back in
    omega (arith, left, piece_width c, width_split c.loop-text.text.now (c.in-Some.more + 1), c.loop-text.invariant.1)

shorter : (c : After-width_of) → length c.split_at.result.1.now ≤ length c.args.characters.now
shorter c = omega (arith, c.split_at.ensures.back_len, c.loop-text.invariant.2)

pub returns-in_default-piece : goal.returns-in_default-piece
returns-in_default-piece c = fault_found _ _ _ _ _ _ c.loop-text.invariant.0 (sym c.piece.ensures ∙ c.in_default-piece.is) (head_tail _ _ c.in-len1-up.len_at_least c.first-item.is)

pub overflow_add-more : goal.overflow_add-more
overflow_add-more c = let fit = fits (goal.at.overflow_add-more c).In-Some in omega (arith, fit)

pub split_at-requires : goal.split_at-requires
split_at-requires c = fits (goal.at.split_at-requires c).In-Some

pub overflow_add-end : goal.overflow_add-end
overflow_add-end c = let ends = piece_ends (goal.at.overflow_add-end c).After-width_of in omega (arith, ends, width_bound c.args.characters.now)

pub loop-text-preserved-in_ok-push : goal.loop-text-preserved-in_ok-push
loop-text-preserved-in_ok-push c =
    let w = (goal.at.loop-text-preserved-in_ok-push c).After-width_of in (
      token_found _ _ _ _ _ _ _ _ _ _ _ _ c.loop-text.invariant.0 (sym c.piece.ensures ∙ c.in-Some.is) c.in-Some-kind.is (head_tail _ _ c.in-len1-up.len_at_least c.first-item.is) c.split_at.ensures.back (piece_width w) c.in_ok-push.ensures.items,
      piece_ends w,
      shorter w,
    )

pub loop-text-preserved : goal.loop-text-preserved
loop-text-preserved c =
    let w = (goal.at.loop-text-preserved c).After-width_of in (
      blank_found _ _ _ _ _ _ _ _ _ _ c.loop-text.invariant.0 (sym c.piece.ensures ∙ c.in-Some.is) c.in_default-kind.is (head_tail _ _ c.in-len1-up.len_at_least c.first-item.is) c.split_at.ensures.back (piece_width w),
      piece_ends w,
      shorter w,
    )

pub returns : goal.returns
returns c = end_found _ _ _ _ c.loop-text.invariant.0 (omega arith)
