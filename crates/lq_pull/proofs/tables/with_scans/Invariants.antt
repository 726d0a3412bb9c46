use Rattle.std.proofs.Common.{◌≡◌, ◌-◌, length, map, take}
use Rattle.lq_policy.specs.Roles.{number_of}
use Rattle.lq_security.specs.Visible.{seen_from}
use Rattle.lq_plan.specs.Worlds.{rows_in, schemas_in}
use Rattle.lq_pull.specs.Readers.{rows_left}
use Rattle.lq_pull.proofs.TableLemmas.{KeptBelow}
use Rattle.lq_pull.proofs.tables.with_scans.Given as goal

abbrev pub invariant-loop-table : goal.invariant-loop-table
invariant-loop-table l =
    (schemas_in l.tables.items ≡ map (λ table. table.schema) (take l.table l.fn.view.store.now))
    × (rows_in rows_left l.tables.items ≡ seen_from l.fn.view.policies.now (number_of l.fn.view.role) 0 (take l.table l.fn.view.store.now))
    × KeptBelow l.table l.fn.view.store.now

abbrev pub decreases-loop-table : goal.decreases-loop-table
decreases-loop-table l = length l.fn.view.store.now - l.table
