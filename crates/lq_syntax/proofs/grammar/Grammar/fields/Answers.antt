use Rattle.std.proofs.Common.{◌≡◌, ◌-◌, ◌+◌, ◌++◌, ◌∷◌, ◌∙◌, [], false, rules, arith}
use Rattle.std.proofs.lemmas.Grind.{common_steps}
use Rattle.std.specs.Prelude.{Some}
use Rattle.lq_grammar.specs.Parsing.{expression, fields, more_fields, after, begins_with, expect, field}
use Rattle.lq_grammar.specs.declared.token.Kind.TheVariants as k
use Rattle.lq_syntax.proofs.Readers.{a_field}
use Rattle.lq_syntax.proofs.Turns.{one_more, no_more}
use Rattle.lq_syntax.proofs.grammar.Grammar.fields.Goals as goal

pub loop-turn-init : goal.loop-turn-init
unfolding fields after
loop-turn-init g c = first_of (search rules, grind (arith, common_steps))

pub returns-in_err-next : goal.returns-in_err-next
unfolding more_fields after
returns-in_err-next g c =
    let e = one_more (λ n. more_fields c.args.self.now.line.now (expression c.args.self.now.line.now c.args.self.now.depth) n c.loop-turn.fields c.loop-turn.tokens) _ c.loop-turn._turn c.loop-turn-test.true c.loop-turn.invariant in
    first_of (search rules, grind (arith, common_steps))

pub loop-turn-preserved : goal.loop-turn-preserved
loop-turn-preserved g c =
    let e = one_more (λ n. more_fields c.args.self.now.line.now (expression c.args.self.now.line.now c.args.self.now.depth) n c.loop-turn.fields c.loop-turn.tokens) _ c.loop-turn._turn c.loop-turn-test.true c.loop-turn.invariant in
    let open_still : begins_with k.RightBrace c.loop-turn.tokens ≡ false = search rules in
    let commas : expect k.Comma c.loop-turn.tokens ≡ Some (c.in_ok-expect.field-0, c.expect.new.self) = search rules in
    let another : begins_with k.RightBrace c.expect.new.self ≡ false = search rules in
    let read : field c.args.self.now.line.now (expression c.args.self.now.line.now c.args.self.now.depth) c.expect.new.self ≡ Some (c.in_ok-next.next, c.field-in-loop-turn.new.tokens) = search rules in
    let pushed : c.push-in-loop-turn.new.self ≡ c.loop-turn.fields ++ c.in_ok-next.next ∷ [] = search rules in
    let turn = a_field c.args.self.now.line.now (expression c.args.self.now.line.now c.args.self.now.depth) (c.left-turn-end.result - (c.loop-turn._turn + 1)) c.loop-turn.fields _ _ _ _ _ open_still commas another read in
    rw pushed (e ∙ turn)

pub returns-then-eat-2 : goal.returns-then-eat-2
unfolding more_fields after
returns-then-eat-2 g c =
    let e = one_more (λ n. more_fields c.args.self.now.line.now (expression c.args.self.now.line.now c.args.self.now.depth) n c.loop-turn.fields c.loop-turn.tokens) _ c.loop-turn._turn c.loop-turn-test.true c.loop-turn.invariant in
    first_of (search rules, grind (arith, common_steps))

pub returns-in_err-expect : goal.returns-in_err-expect
unfolding more_fields after
returns-in_err-expect g c =
    let e = one_more (λ n. more_fields c.args.self.now.line.now (expression c.args.self.now.line.now c.args.self.now.depth) n c.loop-turn.fields c.loop-turn.tokens) _ c.loop-turn._turn c.loop-turn-test.true c.loop-turn.invariant in
    first_of (search rules, grind (arith, common_steps))

pub returns-then-eat-3 : goal.returns-then-eat-3
unfolding more_fields after
returns-then-eat-3 g c =
    let e = one_more (λ n. more_fields c.args.self.now.line.now (expression c.args.self.now.line.now c.args.self.now.depth) n c.loop-turn.fields c.loop-turn.tokens) _ c.loop-turn._turn c.loop-turn-test.true c.loop-turn.invariant in
    first_of (search rules, grind (arith, common_steps))

pub returns : goal.returns
unfolding more_fields after
returns g c =
    let e = no_more (λ n. more_fields c.args.self.now.line.now (expression c.args.self.now.line.now c.args.self.now.depth) n c.loop-turn.fields c.loop-turn.tokens) _ c.loop-turn._turn c.loop-turn-test.false c.loop-turn.invariant in
    first_of (search rules, grind (arith, common_steps))
