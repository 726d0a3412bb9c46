use Rattle.lq_render.proofs.ReadingLemmas.{put_keeps_order, shows_data}
use Rattle.lq_render.proofs.reading_laws.lines_of_data.Goals as goal

pub returns-clause-shown : goal.returns-clause-shown
returns-clause-shown c = shows_data

pub returns-clause-ordered : goal.returns-clause-ordered
returns-clause-ordered c = put_keeps_order
