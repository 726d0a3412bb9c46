use Rattle.std.proofs.Common.{◌≡◌, ◌-◌, ◌+◌, false, true, rules, arith}
use Rattle.std.specs.Prelude.{is_some}
use Rattle.std.proofs.lemmas.Grind.{common_steps}
use Rattle.lq_grammar.specs.Parsing.{expression, clauses, clause_by, peek}
use Rattle.lq_syntax.proofs.Readers.{no_clause, a_clause}
use Rattle.lq_syntax.proofs.Turns.{one_more, no_more}
use Rattle.lq_syntax.proofs.grammar.Grammar.clauses.Goals as goal

pub returns-then-not-is_clause_start : goal.returns-then-not-is_clause_start
unfolding clauses
returns-then-not-is_clause_start g c =
    let e = one_more (λ n. clauses c.args.self.now.line.now (expression c.args.self.now.line.now c.args.self.now.depth) n c.loop-turn.clauses c.loop-turn.tokens) _ c.loop-turn._turn c.loop-turn-test.true c.loop-turn.invariant in
    let begins : is_some (clause_by c.args.self.now.line.now (expression c.args.self.now.line.now c.args.self.now.depth) (peek c.loop-turn.tokens)) ≡ false = search rules in
    let turn = no_clause c.args.self.now.line.now (expression c.args.self.now.line.now c.args.self.now.depth) (clauses c.args.self.now.line.now (expression c.args.self.now.line.now c.args.self.now.depth) (c.left-turn-end.result - (c.loop-turn._turn + 1))) c.loop-turn.clauses (clause_by c.args.self.now.line.now (expression c.args.self.now.line.now c.args.self.now.depth) (peek c.loop-turn.tokens)) c.loop-turn.tokens begins in
    first_of (search rules, grind (arith, common_steps))

pub returns-in_err-clause : goal.returns-in_err-clause
unfolding clauses
returns-in_err-clause g c =
    let e = one_more (λ n. clauses c.args.self.now.line.now (expression c.args.self.now.line.now c.args.self.now.depth) n c.loop-turn.clauses c.loop-turn.tokens) _ c.loop-turn._turn c.loop-turn-test.true c.loop-turn.invariant in
    let begins : is_some (clause_by c.args.self.now.line.now (expression c.args.self.now.line.now c.args.self.now.depth) (peek c.loop-turn.tokens)) ≡ true = search rules in
    let turn = a_clause c.args.self.now.line.now (expression c.args.self.now.line.now c.args.self.now.depth) (clauses c.args.self.now.line.now (expression c.args.self.now.line.now c.args.self.now.depth) (c.left-turn-end.result - (c.loop-turn._turn + 1))) c.loop-turn.clauses (clause_by c.args.self.now.line.now (expression c.args.self.now.line.now c.args.self.now.depth) (peek c.loop-turn.tokens)) c.loop-turn.tokens begins in
    first_of (search rules, grind (arith, common_steps))

pub loop-turn-preserved : goal.loop-turn-preserved
unfolding clauses
loop-turn-preserved g c =
    let e = one_more (λ n. clauses c.args.self.now.line.now (expression c.args.self.now.line.now c.args.self.now.depth) n c.loop-turn.clauses c.loop-turn.tokens) _ c.loop-turn._turn c.loop-turn-test.true c.loop-turn.invariant in
    let begins : is_some (clause_by c.args.self.now.line.now (expression c.args.self.now.line.now c.args.self.now.depth) (peek c.loop-turn.tokens)) ≡ true = search rules in
    let turn = a_clause c.args.self.now.line.now (expression c.args.self.now.line.now c.args.self.now.depth) (clauses c.args.self.now.line.now (expression c.args.self.now.line.now c.args.self.now.depth) (c.left-turn-end.result - (c.loop-turn._turn + 1))) c.loop-turn.clauses (clause_by c.args.self.now.line.now (expression c.args.self.now.line.now c.args.self.now.depth) (peek c.loop-turn.tokens)) c.loop-turn.tokens begins in
    first_of (search rules, grind (arith, common_steps))

pub returns : goal.returns
unfolding clauses
returns g c =
    let e = no_more (λ n. clauses c.args.self.now.line.now (expression c.args.self.now.line.now c.args.self.now.depth) n c.loop-turn.clauses c.loop-turn.tokens) _ c.loop-turn._turn c.loop-turn-test.false c.loop-turn.invariant in
    first_of (search rules, grind (arith, common_steps))
