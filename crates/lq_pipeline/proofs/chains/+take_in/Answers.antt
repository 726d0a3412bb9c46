-- Below a sequence, or the form itself.
use Rattle.std.proofs.Common.{◌∙◌, sym}
use Rattle.lq_pipeline.proofs.TakeLemmas.{below_sequence, no_take, take_itself}
use Rattle.lq_pipeline.proofs.chains.+take_in.Goals as goal

pub returns-in-Some : goal.returns-in-Some
returns-in-Some t c = below_sequence c.args.form.now c.in-Some.source.now (sym c.in-Some.ensures) ∙ c.take_in.ensures

pub returns-then-is_take : goal.returns-then-is_take
returns-then-is_take t c = take_itself c.args.form.now (sym c.is_take.ensures ∙ c.if-is_take.true)

pub returns-else-is_take : goal.returns-else-is_take
returns-else-is_take t c = no_take c.args.form.now (sym c.in-None.ensures) (sym c.is_take.ensures ∙ c.if-is_take.false)
