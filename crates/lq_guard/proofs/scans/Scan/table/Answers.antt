-- The rows of a scan are of its table.
use Rattle.std.proofs.Common.{filter}
use Rattle.lq_guard.specs.Accesses.{is_visible_to}
use Rattle.lq_guard.proofs.SeenLaws.{all_of_table}
use Rattle.lq_guard.proofs.scans.Scan.table.Goals as goal

pub returns-clause-rows : goal.returns-clause-rows
returns-clause-rows c =
    all_of_table c.args.self.now.access.table (filter (λ row. is_visible_to c.args.self.now.access row.cells) c.args.self.now.rows.now)
