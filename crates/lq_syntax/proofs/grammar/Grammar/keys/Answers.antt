use Rattle.std.proofs.Common.{rules, arith}
use Rattle.std.proofs.lemmas.Grind.{common_steps}
use Rattle.lq_grammar.specs.Parsing.{expression, keys, more_keys, after}
use Rattle.lq_syntax.proofs.Turns.{one_more, no_more}
use Rattle.lq_syntax.proofs.grammar.Grammar.keys.Goals as goal

pub loop-turn-init : goal.loop-turn-init
unfolding keys
loop-turn-init g c = first_of (search rules, grind (arith, common_steps))

pub returns-then-not-eat : goal.returns-then-not-eat
unfolding more_keys after
returns-then-not-eat g c =
    let e = one_more (λ n. more_keys c.args.self.now.line.now (expression c.args.self.now.line.now c.args.self.now.depth) n c.loop-turn.keys c.loop-turn.tokens) _ c.loop-turn._turn c.loop-turn-test.true c.loop-turn.invariant in
    first_of (search rules, grind (arith, common_steps))

pub returns-in_err-next : goal.returns-in_err-next
unfolding more_keys after
returns-in_err-next g c =
    let e = one_more (λ n. more_keys c.args.self.now.line.now (expression c.args.self.now.line.now c.args.self.now.depth) n c.loop-turn.keys c.loop-turn.tokens) _ c.loop-turn._turn c.loop-turn-test.true c.loop-turn.invariant in
    first_of (search rules, grind (arith, common_steps))

pub loop-turn-preserved : goal.loop-turn-preserved
unfolding more_keys after
loop-turn-preserved g c =
    let e = one_more (λ n. more_keys c.args.self.now.line.now (expression c.args.self.now.line.now c.args.self.now.depth) n c.loop-turn.keys c.loop-turn.tokens) _ c.loop-turn._turn c.loop-turn-test.true c.loop-turn.invariant in
    first_of (search rules, grind (arith, common_steps))

pub returns : goal.returns
unfolding more_keys after
returns g c =
    let e = no_more (λ n. more_keys c.args.self.now.line.now (expression c.args.self.now.line.now c.args.self.now.depth) n c.loop-turn.keys c.loop-turn.tokens) _ c.loop-turn._turn c.loop-turn-test.false c.loop-turn.invariant in
    first_of (search rules, grind (arith, common_steps))
