-- The machine's state is that of the session's parts, with the predicates that it is given.
use Rattle.std.proofs.Common.{ap}
use Rattle.lq_host.specs.Hosts.{hosts_of}
use Rattle.lq_run.specs.States.{state_with}
use Rattle.lq_session.proofs.session.Session.new.Goals as goal

pub returns-clause-state : goal.returns-clause-state
returns-clause-state g c = ap (state_with (hosts_of c.args.hosts).predicates) c.new.ensures
