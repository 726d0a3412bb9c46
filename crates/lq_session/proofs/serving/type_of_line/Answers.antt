-- Where a statement stops before it is served, no type serves its line.
use Rattle.lq_session.proofs.serving.type_of_line.Goals as goal

pub returns-in-Err-Answer : goal.returns-in-Err-Answer
returns-in-Err-Answer c = rw c.in-Err-Answer.field-0-is at c.in-Err-Answer.ensures
