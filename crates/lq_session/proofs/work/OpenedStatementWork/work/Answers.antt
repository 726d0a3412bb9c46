-- The statement is performed, and adds calls that it may make.
use Rattle.lq_session.proofs.work.OpenedStatementWork.work.Goals as goal

pub returns : goal.returns
returns g c = (c.perform.ensures.performs, c.perform.ensures.hosts, c.perform.ensures.calls)
