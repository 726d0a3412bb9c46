use Rattle.std.proofs.Common.{◌∙◌, rules, sym}
use Rattle.lq_plan.proofs.PreparedLemmas.{own_cell_at}
use Rattle.lq_plan.proofs.sources.Sources.cell_place_behind.Goals as goal

pub returns : goal.returns
returns g c = λ values so_many.
    own_cell_at g.R.TableRow.table_of g.R.RowRef.shown values g.S.Rows.left (g.H.Asks.known c.args.self.now.hosts.now) c.args.self.now.tables.now c.args.of.now c.get.result.now c.in-Slot.slot c.in-Column.number
    c.args.table c.in-Column.column c.in_ok-_name._name.now c.args.self.now.distinct (search (rules, c.in-Column.is, c.get.ensures)) (search (rules, c.in-Slot.is, c.get.ensures)) (search rules) (c.is_behind.ensures (search rules) ∙ sym so_many) (search (rules, c.in_ok-_name.ensures))
