use Rattle.lq_plan.proofs.sources.Sources.lambda_past.Goals as goal

pub returns-clause-cell : goal.returns-clause-cell
returns-clause-cell g c = λ values so_many.
    record {
      cell = c.cell_place_behind-place.ensures values so_many;
      item = c.is_item_behind-is_item.ensures values so_many;
    }
