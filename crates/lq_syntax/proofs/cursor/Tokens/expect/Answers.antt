use Rattle.std.proofs.Common.{sym, ◌∙◌}
use Rattle.lq_grammar.specs.Parsing.{same_kind}
use Rattle.lq_syntax.proofs.Fronts.{expect_other, expect_found}
use Rattle.lq_syntax.proofs.cursor.Tokens.expect.Goals as goal

pub returns-then-eq : goal.returns-then-eq
unfolding same_kind
returns-then-eq c = expect_found c.args.kind c.args.self.now _ _ c.in-Some.ensures (sym c.eq.ensures ∙ c.if-eq.true)

pub returns-else-eq : goal.returns-else-eq
unfolding same_kind
returns-else-eq c = expect_other c.args.kind c.args.self.now _ _ c.in-Some.ensures (sym c.eq.ensures ∙ c.if-eq.false)
