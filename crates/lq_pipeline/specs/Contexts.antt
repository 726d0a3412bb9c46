-- What guarded trees are run over.
use Rattle.std.specs.Prelude.{◌≡◌, [], Result}
use Rattle.lq_value.specs.declared.value.Fault.{Fault}
use Rattle.lq_value.specs.declared.value.Value.{Value}
use Rattle.lq_host.specs.Hosts.{Hosts, hosts_of}
use Rattle.lq_language.specs.TableRows.{TableRow}
use Rattle.lq_policy.specs.Roles.{number_of}
use Rattle.lq_security.specs.declared.policy.Action.TheVariants as action
use Rattle.lq_guard.specs.Guarding.{tree_meaning}
use Rattle.lq_guard.specs.declared.guarded_trees.GuardedTree.{GuardedTree}
use Rattle.lq_pull.specs.Views.{Sight, world_seen}
use Rattle.lq_pipeline.specs.declared.context.Ctx.{Ctx}

-- the tables, the policies and the role
abbrev pub sight_in : {a b c d e f : _} → Ctx a b c d e f → Sight
sight_in context = record { tables = context.store.now; policies = context.policies.now; role = number_of context.role }

-- the host predicates, and the calls that were made
abbrev pub hosts_in : {a b c d e f : _} → Ctx a b c d e f → Hosts
hosts_in context = hosts_of context.hosts.now

-- a tree is guarded for the role that reads
abbrev pub IsGuardedForSelect : Sight → GuardedTree → Type 0
IsGuardedForSelect s g = (number_of g.role ≡ s.role) × (g.action ≡ action.Select)

-- what a guarded tree means there
abbrev pub guarded_value : Sight → Hosts → GuardedTree → Result (Value TableRow) Fault
guarded_value s hosts g = tree_meaning (world_seen s hosts.predicates) s.policies s.tables g []
