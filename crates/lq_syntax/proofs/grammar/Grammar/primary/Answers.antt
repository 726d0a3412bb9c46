use Rattle.std.proofs.Common.{◌≡◌, ◌-◌, ◌+◌, ◌∙◌, true, false, rules, arith}
use Rattle.std.proofs.lemmas.Grind.{common_steps}
use Rattle.std.specs.Prelude.{Some}
use Rattle.lq_grammar.specs.Grammar.{member_of}
use Rattle.lq_grammar.specs.Parsing.{expression, primary, selections, after, arguments, begins_with, expect, name}
use Rattle.lq_grammar.specs.declared.syntax.Expr.TheVariants as expr
use Rattle.lq_grammar.specs.declared.syntax.Node.TheVariants as node
use Rattle.lq_grammar.specs.declared.token.Kind.TheVariants as k
use Rattle.lq_syntax.specs.Outcome.{next_token}
use Rattle.lq_syntax.proofs.Readers.{a_member, a_method}
use Rattle.lq_syntax.proofs.grammar.Grammar.primary.Goals.{then-eat+in_ok-arguments, else-eat}
use Rattle.lq_syntax.proofs.Turns.{one_more, no_more}
use Rattle.lq_syntax.proofs.grammar.Grammar.primary.Goals as goal

pub loop-turn-init : goal.loop-turn-init
unfolding primary
loop-turn-init g c = first_of (search rules, grind (arith, common_steps))

pub returns-then-not-eat : goal.returns-then-not-eat
unfolding selections after
returns-then-not-eat g c =
    let e = one_more (λ n. selections c.args.self.now.line.now (expression c.args.self.now.line.now c.args.self.now.depth) n c.loop-turn.x c.loop-turn.tokens) _ c.loop-turn._turn c.loop-turn-test.true c.loop-turn.invariant in
    first_of (search rules, grind (arith, common_steps))

pub returns-in_err-name : goal.returns-in_err-name
unfolding selections after
returns-in_err-name g c =
    let e = one_more (λ n. selections c.args.self.now.line.now (expression c.args.self.now.line.now c.args.self.now.depth) n c.loop-turn.x c.loop-turn.tokens) _ c.loop-turn._turn c.loop-turn-test.true c.loop-turn.invariant in
    first_of (search rules, grind (arith, common_steps))

pub returns-in_err-arguments : goal.returns-in_err-arguments
unfolding selections after
returns-in_err-arguments g c =
    let e = one_more (λ n. selections c.args.self.now.line.now (expression c.args.self.now.line.now c.args.self.now.depth) n c.loop-turn.x c.loop-turn.tokens) _ c.loop-turn._turn c.loop-turn-test.true c.loop-turn.invariant in
    first_of (search rules, grind (arith, common_steps))

pub loop-turn-preserved : goal.loop-turn-preserved
loop-turn-preserved g c =
    let e = one_more (λ n. selections c.args.self.now.line.now (expression c.args.self.now.line.now c.args.self.now.depth) n c.loop-turn.x c.loop-turn.tokens) _ c.loop-turn._turn c.loop-turn-test.true c.loop-turn.invariant in
    let begins : begins_with k.Dot c.loop-turn.tokens ≡ true = search rules in
    let dots : expect k.Dot c.loop-turn.tokens ≡ Some (next_token c.loop-turn.tokens, c.eat.new.self) = search rules in
    let named : name c.args.self.now.line.now c.eat.new.self ≡ Some (c.in_ok-name.name, c.name.new.tokens) = search rules in
    elim c.if-eat.branch [
      | then-eat+in_ok-arguments w ↦
          let called : begins_with k.LeftParenthesis c.name.new.tokens ≡ true = search rules in
          let opens : expect k.LeftParenthesis c.name.new.tokens ≡ Some (next_token c.name.new.tokens, c.eat-in-loop-turn.new.self) = search rules in
          let given : arguments c.args.self.now.line.now (expression c.args.self.now.line.now c.args.self.now.depth) c.eat-in-loop-turn.new.self ≡ Some (w.in_ok-arguments.field-0, w.arguments.new.tokens) = search rules in
          let made : c.if-eat.x ≡ expr.Node (node.Method c.loop-turn.x c.in_ok-name.name w.in_ok-arguments.field-0) = search rules in
          let left : c.if-eat.tokens ≡ w.arguments.new.tokens = search rules in
          let turn = a_method c.args.self.now.line.now (expression c.args.self.now.line.now c.args.self.now.depth) (c.left-turn-end.result - (c.loop-turn._turn + 1)) c.loop-turn.x _ _ _ _ _ _ _ _ _ begins dots named called opens given in
          rw (made, left) (e ∙ turn)
      | else-eat w ↦
          let alone : begins_with k.LeftParenthesis c.name.new.tokens ≡ false = search rules in
          let made : c.if-eat.x ≡ member_of c.loop-turn.x c.in_ok-name.name = search rules in
          let left : c.if-eat.tokens ≡ c.name.new.tokens = search rules in
          let turn = a_member c.args.self.now.line.now (expression c.args.self.now.line.now c.args.self.now.depth) (c.left-turn-end.result - (c.loop-turn._turn + 1)) c.loop-turn.x _ _ _ _ _ begins dots named alone in
          rw (made, left) (e ∙ turn)
    ]

pub returns : goal.returns
unfolding selections after
returns g c =
    let e = no_more (λ n. selections c.args.self.now.line.now (expression c.args.self.now.line.now c.args.self.now.depth) n c.loop-turn.x c.loop-turn.tokens) _ c.loop-turn._turn c.loop-turn-test.false c.loop-turn.invariant in
    first_of (search rules, grind (arith, common_steps))
