use Rattle.std.proofs.Common.{◌≡◌, ◌-◌, ◌+◌, ◌++◌, ◌∷◌, ◌∙◌, [], true, rules, arith}
use Rattle.std.proofs.lemmas.Grind.{common_steps}
use Rattle.std.specs.Prelude.{Some}
use Rattle.lq_grammar.specs.Parsing.{expression, continuations, after, begins_with, body, expect, name}
use Rattle.lq_grammar.specs.declared.token.Kind.TheVariants as k
use Rattle.lq_syntax.specs.Outcome.{next_token}
use Rattle.lq_syntax.proofs.Readers.{a_continuation, continuation_of}
use Rattle.lq_syntax.proofs.Turns.{one_more, no_more}
use Rattle.lq_syntax.proofs.grammar.Grammar.continuations.Goals as goal

pub returns-then-not-eat : goal.returns-then-not-eat
unfolding continuations after
returns-then-not-eat g c =
    let e = one_more (λ n. continuations c.args.self.now.line.now (expression c.args.self.now.line.now c.args.self.now.depth) n c.loop-turn.rest c.loop-turn.tokens) _ c.loop-turn._turn c.loop-turn-test.true c.loop-turn.invariant in
    first_of (search rules, grind (arith, common_steps))

pub returns-in_err-name : goal.returns-in_err-name
unfolding continuations after
returns-in_err-name g c =
    let e = one_more (λ n. continuations c.args.self.now.line.now (expression c.args.self.now.line.now c.args.self.now.depth) n c.loop-turn.rest c.loop-turn.tokens) _ c.loop-turn._turn c.loop-turn-test.true c.loop-turn.invariant in
    first_of (search rules, grind (arith, common_steps))

pub returns-in_err-body : goal.returns-in_err-body
unfolding continuations after
returns-in_err-body g c =
    let e = one_more (λ n. continuations c.args.self.now.line.now (expression c.args.self.now.line.now c.args.self.now.depth) n c.loop-turn.rest c.loop-turn.tokens) _ c.loop-turn._turn c.loop-turn-test.true c.loop-turn.invariant in
    first_of (search rules, grind (arith, common_steps))

pub loop-turn-preserved : goal.loop-turn-preserved
loop-turn-preserved g c =
    let e = one_more (λ n. continuations c.args.self.now.line.now (expression c.args.self.now.line.now c.args.self.now.depth) n c.loop-turn.rest c.loop-turn.tokens) _ c.loop-turn._turn c.loop-turn-test.true c.loop-turn.invariant in
    let begins : begins_with k.Into c.loop-turn.tokens ≡ true = search rules in
    let goes_on : expect k.Into c.loop-turn.tokens ≡ Some (next_token c.loop-turn.tokens, c.eat.new.self) = search rules in
    let named : name c.args.self.now.line.now c.eat.new.self ≡ Some (c.in_ok-name.name, c.name.new.tokens) = search rules in
    let bodied : body c.args.self.now.line.now (expression c.args.self.now.line.now c.args.self.now.depth) c.name.new.tokens ≡ Some (c.in_ok-body.body, c.body.new.tokens) = search rules in
    let pushed : c.push.new.self ≡ c.loop-turn.rest ++ continuation_of c.in_ok-name.name c.in_ok-body.body ∷ [] = search rules in
    let turn = a_continuation c.args.self.now.line.now (expression c.args.self.now.line.now c.args.self.now.depth) (c.left-turn-end.result - (c.loop-turn._turn + 1)) c.loop-turn.rest _ _ _ _ _ _ _ begins goes_on named bodied in
    rw pushed (e ∙ turn)

pub returns : goal.returns
unfolding continuations after
returns g c =
    let e = no_more (λ n. continuations c.args.self.now.line.now (expression c.args.self.now.line.now c.args.self.now.depth) n c.loop-turn.rest c.loop-turn.tokens) _ c.loop-turn._turn c.loop-turn-test.false c.loop-turn.invariant in
    first_of (search rules, grind (arith, common_steps))
