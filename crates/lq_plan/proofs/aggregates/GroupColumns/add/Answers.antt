use Rattle.std.proofs.Common.{◌≡◌, ◌<◌, ◌∙◌, Some, ap, length, slice_get, sym, subst, arith}
use Rattle.std.proofs.lemmas.Grind.{common_steps}
use Rattle.std.proofs.lemmas.Option.{slice_get-get_or}
use Rattle.lq_value.specs.declared.value.Value.TheVariants as value
use Rattle.lq_operators.specs.GroupTallies.{AddsRow, numbers_at, tallies_in}
use Rattle.lq_plan.specs.Aggregates.{begins_in}
use Rattle.lq_plan.proofs.AggregateLaws.{cell_given, numbers_read}
use Rattle.lq_plan.proofs.aggregates.GroupColumns.add.Goals as goal

pub returns-in_ok-add_row-in-Some-clause-added : goal.returns-in_ok-add_row-in-Some-clause-added
returns-in_ok-add_row-in-Some-clause-added g c given world slots key of begins cols cell nums =
    let here : g.R.TableRow.table_of c.args.row.now ≡ c.args.self.now.table = grind (arith, common_steps, sym c.table.ensures) in
    let wide : c.args.self.now.most < length (g.R.RowRef.shown c.args.row.now) = grind (arith, common_steps, c.cells-cells.ensures) in
    let found : slice_get c.cells-cells.result.now c.args.self.now.key ≡ Some c.in-Some.key.now =
    slice_get-get_or c.cells-cells.result.now c.args.self.now.key c.in-Some.key.now c.in-Some.ensures.lookup.3.0
    ∙ ap Some (sym (c.in-Some.ensures.lookup.3.1 c.in-Some.key.now)) in
    let there : slice_get (g.R.RowRef.shown c.args.row.now) c.args.self.now.key ≡ Some c.in-Some.key.now = ap (λ l. slice_get l c.args.self.now.key) (sym c.cells-cells.ensures) ∙ found in (
      value.Scalar c.in-Some.key.now,
      numbers_at (g.R.RowRef.shown c.args.row.now) c.args.self.now.places.items,
      cell_given g.R.TableRow.table_of g.R.RowRef.shown world slots key.place key.table c.args.self.now.key key.body.now c.args.row.now c.in-Some.key.now cell.cell
          (here ∙ sym cols.0) cols.1 there,
      numbers_read g.R.TableRow.table_of g.R.RowRef.shown world slots c.args.row.now c.args.self.now.table c.args.self.now.most here wide of
          c.args.self.now.places.items cols.3 nums,
      subst (λ b. AddsRow b (tallies_in c.args.tallies.now) (tallies_in c.add_row.new.self) (value.Scalar c.in-Some.key.now) (numbers_at (g.R.RowRef.shown c.args.row.now) c.args.self.now.places.items)) begins
          (subst (λ l. AddsRow c.args.tallies.now.begins (tallies_in c.args.tallies.now) (tallies_in c.add_row.new.self) (value.Scalar c.in-Some.key.now) (numbers_at l c.args.self.now.places.items)) c.cells-cells.ensures
          (subst (λ l. AddsRow c.args.tallies.now.begins (tallies_in c.args.tallies.now) (tallies_in c.add_row.new.self) (value.Scalar c.in-Some.key.now) (numbers_at c.cells-cells.result.now l)) c.as_slice.ensures.value c.in_ok-add_row-in-Some.ensures.row)),
    )
