use Rattle.std.proofs.Common.{flat_map, take}
use Rattle.lq_host.specs.Hosts.{hosts_of}
use Rattle.lq_machine.specs.States.{schemas_of}
use Rattle.lq_serve.specs.Audit.{audit_line}
use Rattle.lq_serve.specs.Devices.{WritesUnlessFailed, inner_of, is_failed}
use Rattle.lq_serve.proofs.audit.write_lines.Given as goal

-- the lines of the calls so far are written
abbrev pub invariant-loop-call : goal.invariant-loop-call
invariant-loop-call g l =
    WritesUnlessFailed (is_failed l.fn.errors) (g.E.Write.contents (inner_of l.fn.errors)) (is_failed l.errors) (g.E.Write.contents (inner_of l.errors))
    (flat_map (audit_line (schemas_of l.store) (hosts_of l.hosts).predicates) (take l.call-index (hosts_of l.hosts).calls))
