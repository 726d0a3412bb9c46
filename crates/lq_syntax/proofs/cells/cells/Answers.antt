use Rattle.std.proofs.Common.{rules, arith}
use Rattle.std.proofs.lemmas.Grind.{common_steps}
use Rattle.lq_grammar.specs.Parsing.{cells, more_cells, after}
use Rattle.lq_syntax.proofs.Turns.{one_more, no_more}
use Rattle.lq_syntax.proofs.cells.cells.Goals as goal

pub loop-turn-init : goal.loop-turn-init
unfolding cells
loop-turn-init c = first_of (search rules, grind (arith, common_steps))

pub returns-then-not-eat : goal.returns-then-not-eat
unfolding more_cells after
returns-then-not-eat c =
    let e = one_more (λ n. more_cells c.args.line.now n c.loop-turn.cells c.loop-turn.tokens) _ c.loop-turn._turn c.loop-turn-test.true c.loop-turn.invariant in
    first_of (search rules, grind (arith, common_steps))

pub returns-in_err-next : goal.returns-in_err-next
unfolding more_cells after
returns-in_err-next c =
    let e = one_more (λ n. more_cells c.args.line.now n c.loop-turn.cells c.loop-turn.tokens) _ c.loop-turn._turn c.loop-turn-test.true c.loop-turn.invariant in
    first_of (search rules, grind (arith, common_steps))

pub loop-turn-preserved : goal.loop-turn-preserved
unfolding more_cells after
loop-turn-preserved c =
    let e = one_more (λ n. more_cells c.args.line.now n c.loop-turn.cells c.loop-turn.tokens) _ c.loop-turn._turn c.loop-turn-test.true c.loop-turn.invariant in
    first_of (search rules, grind (arith, common_steps))

pub returns : goal.returns
unfolding more_cells after
returns c =
    let e = no_more (λ n. more_cells c.args.line.now n c.loop-turn.cells c.loop-turn.tokens) _ c.loop-turn._turn c.loop-turn-test.false c.loop-turn.invariant in
    first_of (search rules, grind (arith, common_steps))
