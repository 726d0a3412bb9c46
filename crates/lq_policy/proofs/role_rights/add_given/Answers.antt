-- A column, after its table.
use Rattle.lq_policy.proofs.RightLemmas.{column_added}
use Rattle.lq_policy.proofs.role_rights.add_given.Goals as goal

pub returns-in_ok-add-in-Column : goal.returns-in_ok-add-in-Column
returns-in_ok-add-in-Column c =
    column_added c.add-in-Column.result c.args.set.now c.add.new.self c.add-in-Column.new.self c.args.right c.in-Column.table c.in-Column.field-1 c.in-Column.is
    c.in_ok-add-in-Column.ensures c.add-in-Column.ensures
