use Rattle.lq_syntax.proofs.Fronts.{peek_some}
use Rattle.lq_syntax.proofs.cursor.Tokens.peek.Goals as goal

pub returns-in-Some : goal.returns-in-Some
returns-in-Some c = peek_some c.args.self.now _ _ c.in-Some.ensures
