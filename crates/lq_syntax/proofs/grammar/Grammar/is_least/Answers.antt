use Rattle.std.proofs.Common.{sym, ◌∙◌}
use Rattle.lq_grammar.specs.Parsing.{expression, same_kind}
use Rattle.lq_syntax.proofs.Readers.{least_some, least_other}
use Rattle.lq_syntax.proofs.grammar.Grammar.is_least.Goals as goal

pub returns-then-eq : goal.returns-then-eq
unfolding same_kind
returns-then-eq g c =
    c.is_largest.ensures ∙ rw c.bytes_of.ensures (sym (least_some c.args.self.now.line.now (expression c.args.self.now.line.now c.args.self.now.depth) c.args.tokens.now _ _ c.in-Some.ensures (sym c.eq.ensures ∙ c.if-eq.true)))

pub returns-else-eq : goal.returns-else-eq
unfolding same_kind
returns-else-eq g c =
    c.if-eq.false ∙ sym (least_other c.args.self.now.line.now (expression c.args.self.now.line.now c.args.self.now.depth) c.args.tokens.now _ _ c.in-Some.ensures (sym c.eq.ensures ∙ c.if-eq.false))
