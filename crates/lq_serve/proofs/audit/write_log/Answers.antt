-- The calls and the predicates are those of the session.
use Rattle.std.proofs.Common.{flat_map, subst}
use Rattle.lq_host.specs.Hosts.{Hosts}
use Rattle.lq_machine.specs.States.{schemas_of}
use Rattle.lq_session.specs.States.{state_of}
use Rattle.lq_serve.specs.Audit.{audit_line}
use Rattle.lq_serve.specs.Devices.{WritesUnlessFailed, inner_of, is_failed}
use Rattle.lq_serve.proofs.audit.write_log.Goals as goal

pub returns : goal.returns
returns g c =
    let lines = rw c.store.ensures at c.write_lines.ensures in
    subst (λ (hosts : Hosts). WritesUnlessFailed (is_failed c.args.errors.now) (g.E.Write.contents (inner_of c.args.errors.now))
    (is_failed c.write_lines.new.errors) (g.E.Write.contents (inner_of c.write_lines.new.errors))
    (flat_map (audit_line (schemas_of (state_of c.args.session.now).tables) hosts.predicates) hosts.calls)) c.hosts.ensures lines
