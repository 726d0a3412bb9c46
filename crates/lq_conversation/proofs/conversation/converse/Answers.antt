use Rattle.std.proofs.Common.{refl, true, false}
use Rattle.lq_conversation.specs.Outcomes.{goes_on, has_ended, has_failed}
use Rattle.lq_conversation.proofs.TypedLemmas.{conversation, inputs-is, refused-is, status_by}
use Rattle.lq_conversation.proofs.conversation.converse.Goals as goal

pub answer_inputs-requires-clause-open : goal.answer_inputs-requires-clause-open
answer_inputs-requires-clause-open g c = c.requires.open

pub answer_inputs-requires-clause-lines : goal.answer_inputs-requires-clause-lines
answer_inputs-requires-clause-lines g c = c.requires.lines

pub answer_inputs-requires-clause-writer : goal.answer_inputs-requires-clause-writer
answer_inputs-requires-clause-writer g c = c.requires.writer

pub returns-in-Ok-true-clause-answers : goal.returns-in-Ok-true-clause-answers
returns-in-Ok-true-clause-answers g c =
    conversation _ _ _ _ _ _ _ _ _ _ has_ended (inputs-is _ _ _ _ _ _ _ _ c.in-Ok-true.field-0 true c.in-Ok-true.field-0-test c.in-Ok-true.ensures.ok)
    (refused-is _ c.in-Ok-true.field-0 true c.in-Ok-true.field-0-test c.in-Ok-true.ensures.refused) c.in-Ok-true.ensures.unmarked

pub returns-in-Ok-true-clause-status : goal.returns-in-Ok-true-clause-status
returns-in-Ok-true-clause-status g c =
    status_by _ _ false false 0 (refused-is _ c.in-Ok-true.field-0 true c.in-Ok-true.field-0-test c.in-Ok-true.ensures.refused) c.in-Ok-true.ensures.unmarked refl

pub returns-in-Ok-false-clause-answers : goal.returns-in-Ok-false-clause-answers
returns-in-Ok-false-clause-answers g c =
    conversation _ _ _ _ _ _ _ _ _ _ goes_on (inputs-is _ _ _ _ _ _ _ _ c.in-Ok-false.field-0 false c.in-Ok-false.field-0-test c.in-Ok-false.ensures.ok)
    (refused-is _ c.in-Ok-false.field-0 false c.in-Ok-false.field-0-test c.in-Ok-false.ensures.refused) c.in-Ok-false.ensures.unmarked

pub returns-in-Ok-false-clause-status : goal.returns-in-Ok-false-clause-status
returns-in-Ok-false-clause-status g c =
    status_by _ _ true false 4 (refused-is _ c.in-Ok-false.field-0 false c.in-Ok-false.field-0-test c.in-Ok-false.ensures.refused) c.in-Ok-false.ensures.unmarked refl

pub returns-in-Err-clause-answers : goal.returns-in-Err-clause-answers
returns-in-Err-clause-answers g c =
    conversation _ _ _ _ _ _ _ _ _ _ has_failed c.in-Err.ensures.err c.in-Err.ensures.unrefused c.in-Err.ensures.marked

pub returns-in-Err-clause-status : goal.returns-in-Err-clause-status
returns-in-Err-clause-status g c = status_by _ _ false true 4 c.in-Err.ensures.unrefused c.in-Err.ensures.marked refl
