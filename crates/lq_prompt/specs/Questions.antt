-- What a question asks.
use Rattle.lq_prompt.specs.Reasons.{Question as ReasonQuestion}
use Rattle.lq_prompt.specs.declared.question.Question.{Question}

abbrev pub asked_in : Question → ReasonQuestion
asked_in question = record { role = question.role.now; table = question.table.now; number = question.number; act = question.action }
