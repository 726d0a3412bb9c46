use Rattle.lq_tree.proofs.LogLaws.{grown_asked}
use Rattle.lq_plan.specs.Plans.{world}
use Rattle.lq_plan.specs.Watching.{facts}
use Rattle.lq_plan.proofs.sources.Sources.answer.Goals as goal

pub returns-in-Ok-clause-grows : goal.returns-in-Ok-clause-grows
returns-in-Ok-clause-grows g c =
    λ w start row p h t n a gr.
    grown_asked (world c.args.self.now) (facts c.args.self.now) w start _ _ c.args.question c.ask.result row c.ask.ensures p h t n a gr

pub returns-in-Err-Range-clause-grows : goal.returns-in-Err-Range-clause-grows
returns-in-Err-Range-clause-grows g c =
    λ w start row p h t n a gr.
    grown_asked (world c.args.self.now) (facts c.args.self.now) w start _ _ c.args.question c.ask.result row c.ask.ensures p h t n a gr

pub returns-in-Err-clause-grows : goal.returns-in-Err-clause-grows
returns-in-Err-clause-grows g c =
    λ w start row p h t n a gr.
    grown_asked (world c.args.self.now) (facts c.args.self.now) w start _ _ c.args.question c.ask.result row c.ask.ensures p h t n a gr
