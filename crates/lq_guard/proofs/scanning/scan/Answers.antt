use Rattle.std.proofs.Common.{◌∙◌, ap, slice_get, Some}
use Rattle.lq_policy.specs.Roles.{number_of}
use Rattle.lq_guard.specs.SeenRows.{visible_rows}
use Rattle.lq_guard.proofs.SeenLaws.{of_rows}
use Rattle.lq_guard.proofs.scanning.scan.Goals as goal

pub returns : goal.returns
returns c =
    ap Some c.new.ensures
    ∙ of_rows (visible_rows c.args.policies.now (number_of c.args.role) c.args.action c.args.table) (slice_get c.args.store.now c.args.table)
    c.rows.result.now c.rows.ensures.value
