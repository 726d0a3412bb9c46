-- The item is written behind those that are held.
use Rattle.lq_json.proofs.PushLemmas.{holds_more}
use Rattle.lq_json.proofs.pushing.Writing.push.Goals as goal

pub returns-clause-items : goal.returns-clause-items
returns-clause-items g c = λ ds holds. holds_more c.args.self.now.line c.push.new.self _ ds c.in_ok-push.ensures holds
