use Rattle.std.proofs.Common.{◌≡◌, ◌++◌, drop}
use Rattle.lq_host.specs.Hosts.{predicates_of}
use Rattle.lq_language.specs.Worlds.{known_predicates}
use Rattle.lq_language.proofs.host_name.host_names.Given as goal

-- the predicates from this number on follow
abbrev pub invariant-loop-number : goal.invariant-loop-number
invariant-loop-number g l = l.names ++ known_predicates (drop l.number (predicates_of l.hosts)) ≡ known_predicates (predicates_of l.hosts)
