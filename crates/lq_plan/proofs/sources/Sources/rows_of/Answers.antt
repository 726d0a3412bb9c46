use Rattle.std.proofs.Common.{[], refl, ◌∙◌}
use Rattle.lq_plan.specs.Plans.{world}
use Rattle.lq_plan.proofs.PullLaws.{rows_found}
use Rattle.lq_plan.proofs.sources.Sources.rows_of.Goals as goal

pub returns-clause-items : goal.returns-clause-items
returns-clause-items g c =
    rows_found (world c.args.self.now) [] _ _ _ _ refl c.reader_at-reader.ensures c.end_at.ensures c.of_rows.ensures.items

pub returns-clause-rows : goal.returns-clause-rows
returns-clause-rows g c = c.of_rows.ensures.rows ∙ c.reader_at-reader.ensures
