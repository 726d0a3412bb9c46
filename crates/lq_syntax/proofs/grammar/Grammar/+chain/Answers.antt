use Rattle.std.proofs.Common.{◌≡◌, ◌-◌, ◌+◌, ◌∙◌, suc, ap, length, rules, arith}
use Rattle.std.specs.Prelude.{Some, None}
use Rattle.std.proofs.lemmas.Grind.{common_steps}
use Rattle.lq_grammar.specs.Grammar.{operation_of, operator}
use Rattle.lq_grammar.specs.Parsing.{expression, chain, operations, peek, behind}
use Rattle.lq_syntax.proofs.Readers.{chain_reads, chain_refuses, no_operation, no_operand, an_operation}
use Rattle.lq_syntax.proofs.Turns.{one_more, no_more, deeper}
use Rattle.lq_syntax.proofs.grammar.Grammar.+chain.Goals as goal

pub returns-then-level-eq0 : goal.returns-then-level-eq0
unfolding chain
returns-then-level-eq0 g t c = let none : c.args.level ≡ 0 = omega arith in rw none c.prefix.ensures

pub returns-in_err-x : goal.returns-in_err-x
returns-in_err-x g t c =
    let e = deeper (λ n. chain c.args.self.now.line.now (expression c.args.self.now.line.now c.args.self.now.depth) n c.args.tokens.now) c.args.level (omega arith) in
    let refuses = chain_refuses c.args.self.now.line.now (expression c.args.self.now.line.now c.args.self.now.depth) (c.args.level - 1) c.args.tokens.now in
    first_of (search rules, grind (arith, common_steps))

pub loop-turn-init : goal.loop-turn-init
loop-turn-init g t c =
    let e = deeper (λ n. chain c.args.self.now.line.now (expression c.args.self.now.line.now c.args.self.now.depth) n c.args.tokens.now) c.args.level (omega arith) in
    let read : chain c.args.self.now.line.now (expression c.args.self.now.line.now c.args.self.now.depth) (c.args.level - 1) c.args.tokens.now ≡ Some (c.in_ok-x.x, c.chain.new.tokens) = search rules in
    let count : length c.chain.new.tokens ≡ c.left-turn-end.result - 0 = omega (arith, c.left-turn-end.ensures) in
    let more = chain_reads c.args.self.now.line.now (expression c.args.self.now.line.now c.args.self.now.depth) (c.args.level - 1) c.args.tokens.now c.chain.new.tokens c.in_ok-x.x read in
    e ∙ more ∙ ap (λ n. operations c.args.self.now.line.now (expression c.args.self.now.line.now c.args.self.now.depth) (chain c.args.self.now.line.now (expression c.args.self.now.line.now c.args.self.now.depth) (c.args.level - 1)) (c.args.level - 1) n c.in_ok-x.x c.chain.new.tokens) count

pub returns-in_default : goal.returns-in_default
returns-in_default g t c =
    let e = one_more (λ n. operations c.args.self.now.line.now (expression c.args.self.now.line.now c.args.self.now.depth) (chain c.args.self.now.line.now (expression c.args.self.now.line.now c.args.self.now.depth) (c.args.level - 1)) (c.args.level - 1) n c.loop-turn.x c.loop-turn.tokens) _ c.loop-turn._turn c.loop-turn-test.true c.loop-turn.invariant in
    let none : operator (c.args.level - 1) (peek c.loop-turn.tokens) ≡ None = search rules in
    e ∙ no_operation c.args.self.now.line.now (expression c.args.self.now.line.now c.args.self.now.depth) (chain c.args.self.now.line.now (expression c.args.self.now.line.now c.args.self.now.depth) (c.args.level - 1)) (c.args.level - 1) (c.left-turn-end.result - (c.loop-turn._turn + 1)) c.loop-turn.x c.loop-turn.tokens none

pub returns-in_err-chain : goal.returns-in_err-chain
returns-in_err-chain g t c =
    let e = one_more (λ n. operations c.args.self.now.line.now (expression c.args.self.now.line.now c.args.self.now.depth) (chain c.args.self.now.line.now (expression c.args.self.now.line.now c.args.self.now.depth) (c.args.level - 1)) (c.args.level - 1) n c.loop-turn.x c.loop-turn.tokens) _ c.loop-turn._turn c.loop-turn-test.true c.loop-turn.invariant in
    let found : operator (c.args.level - 1) (peek c.loop-turn.tokens) ≡ Some c.in-Some.between = search rules in
    let turn = no_operand c.args.self.now.line.now (expression c.args.self.now.line.now c.args.self.now.depth) (chain c.args.self.now.line.now (expression c.args.self.now.line.now c.args.self.now.depth) (c.args.level - 1)) (c.args.level - 1) (c.left-turn-end.result - (c.loop-turn._turn + 1)) c.loop-turn.x c.loop-turn.tokens c.in-Some.between found in
    first_of (search rules, grind (arith, common_steps))

pub loop-turn-preserved : goal.loop-turn-preserved
loop-turn-preserved g t c =
    let e = one_more (λ n. operations c.args.self.now.line.now (expression c.args.self.now.line.now c.args.self.now.depth) (chain c.args.self.now.line.now (expression c.args.self.now.line.now c.args.self.now.depth) (c.args.level - 1)) (c.args.level - 1) n c.loop-turn.x c.loop-turn.tokens) _ c.loop-turn._turn c.loop-turn-test.true c.loop-turn.invariant in
    let found : operator (c.args.level - 1) (peek c.loop-turn.tokens) ≡ Some c.in-Some.between = search rules in
    let read : chain c.args.self.now.line.now (expression c.args.self.now.line.now c.args.self.now.depth) (c.args.level - 1) (behind c.loop-turn.tokens) ≡ Some (c.in_ok-chain.field-0, c.chain-in-loop-turn.new.tokens) = search rules in
    let made : c.operation_of-x.result ≡ operation_of c.in-Some.between c.loop-turn.x c.in_ok-chain.field-0 = search rules in
    let turn = an_operation c.args.self.now.line.now (expression c.args.self.now.line.now c.args.self.now.depth) (chain c.args.self.now.line.now (expression c.args.self.now.line.now c.args.self.now.depth) (c.args.level - 1)) (c.args.level - 1) (c.left-turn-end.result - (c.loop-turn._turn + 1)) c.loop-turn.x c.in_ok-chain.field-0 c.loop-turn.tokens c.chain-in-loop-turn.new.tokens c.in-Some.between found read in
    rw made (e ∙ turn)

pub returns : goal.returns
unfolding operations
returns g t c =
    let e = no_more (λ n. operations c.args.self.now.line.now (expression c.args.self.now.line.now c.args.self.now.depth) (chain c.args.self.now.line.now (expression c.args.self.now.line.now c.args.self.now.depth) (c.args.level - 1)) (c.args.level - 1) n c.loop-turn.x c.loop-turn.tokens) _ c.loop-turn._turn c.loop-turn-test.false c.loop-turn.invariant in
    first_of (search rules, grind (arith, common_steps))
