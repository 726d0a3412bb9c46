use Rattle.std.proofs.Common.{sym, ◌∙◌}
use Rattle.lq_grammar.specs.Parsing.{same_kind}
use Rattle.lq_syntax.proofs.Fronts.{begins_some}
use Rattle.lq_syntax.proofs.cursor.Tokens.is_next.Goals as goal

pub returns-in-Some : goal.returns-in-Some
unfolding same_kind
returns-in-Some c = c.eq.ensures ∙ sym (begins_some c.args.kind c.args.self.now _ _ c.in-Some.ensures)
