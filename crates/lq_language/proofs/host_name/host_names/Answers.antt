use Rattle.lq_host.specs.Hosts.{predicates_of}
use Rattle.lq_language.proofs.HostNameLemmas.{next_named}
use Rattle.lq_language.proofs.host_name.host_names.Goals as goal

pub loop-number-preserved : goal.loop-number-preserved
loop-number-preserved g c =
    next_named (predicates_of c.args.hosts.now) c.loop-number.number c.in_ok-name.name c.name.result.now c.arity-arguments.result c.loop-number.names c.push.new.self
    c.name.ensures c.in_ok-name.ensures c.arity-arguments.ensures c.in_ok-push.ensures.ok c.loop-number.invariant
