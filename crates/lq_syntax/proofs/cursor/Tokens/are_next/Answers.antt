use Rattle.std.proofs.Common.{sym, ◌∙◌}
use Rattle.lq_grammar.specs.Parsing.{same_kind}
use Rattle.lq_syntax.proofs.Fronts.{two_other, two_found}
use Rattle.lq_syntax.proofs.cursor.Tokens.are_next.Goals as goal

pub returns-then-eq : goal.returns-then-eq
unfolding same_kind
returns-then-eq c = c.is_next.ensures ∙ rw c.new.ensures (sym (two_found c.args.first c.args.second c.args.self.now _ _ c.in-Some.ensures (sym c.eq.ensures ∙ c.if-eq.true)))

pub returns-else-eq : goal.returns-else-eq
unfolding same_kind
returns-else-eq c = c.if-eq.false ∙ sym (two_other c.args.first c.args.second c.args.self.now _ _ c.in-Some.ensures (sym c.eq.ensures ∙ c.if-eq.false))
