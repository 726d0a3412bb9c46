use Rattle.std.proofs.Common.{sym}
use Rattle.lq_plan.proofs.sources.Sources.ask_row.Goals as goal

pub returns-in-Some-clause-grows : goal.returns-in-Some-clause-grows
returns-in-Some-clause-grows g c =
    λ w start p h gr.
    c.answer.ensures.grows w start c.args.row.now p h c.in-Some.ensures.cells.0 (sym c.number-row.ensures) c.in-Some.ensures.cells.1 gr
