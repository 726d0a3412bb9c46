use Rattle.lq_render.proofs.ReplyLemmas.{shows_memory_line, shows_replies, sorted_is_ordered}
use Rattle.lq_render.proofs.reading_laws.lines_of_replies.Goals as goal

pub returns-clause-ordered : goal.returns-clause-ordered
returns-clause-ordered c = sorted_is_ordered

pub returns-clause-shown : goal.returns-clause-shown
returns-clause-shown c = shows_replies

pub returns-clause-memory : goal.returns-clause-memory
returns-clause-memory c = shows_memory_line
