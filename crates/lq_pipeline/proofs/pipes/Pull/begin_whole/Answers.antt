-- The tree is run whole, and its items are there.
use Rattle.std.proofs.Common.{◌∙◌}
use Rattle.lq_pipeline.proofs.WorkLemmas.{lost_begun, no_leaf, whole_found, whole_refused}
use Rattle.lq_pipeline.proofs.pipes.Pull.begin_whole.Goals as goal

pub returns-in-Ok-clause-pulls : goal.returns-in-Ok-clause-pulls
returns-in-Ok-clause-pulls g c =
    whole_found _ _ c.requires.whole _ _ c.run_whole.ensures.calls _ (c.answer.ensures.leaf ∙ c.requires.none) _ _ c.in-Ok.ensures.meant (c.answer.ensures.gives _ _)

pub returns-in-Ok-clause-begun : goal.returns-in-Ok-clause-begun
returns-in-Ok-clause-begun g c = c.answer.ensures.begun _ (no_leaf _ c.requires.none)

pub returns-in-Err-clause-pulls : goal.returns-in-Err-clause-pulls
returns-in-Err-clause-pulls g c = whole_refused _ _ c.requires.whole _ _ c.run_whole.ensures.calls _ c.requires.none _ c.requires.lost

pub returns-in-Err-clause-begun : goal.returns-in-Err-clause-begun
returns-in-Err-clause-begun g c = lost_begun _ _ c.requires.lost (no_leaf _ c.requires.none)
