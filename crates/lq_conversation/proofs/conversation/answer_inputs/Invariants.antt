use Rattle.std.proofs.Common.{◌≡◌, ◌-◌, ℕ, List, false}
use Rattle.lq_command.specs.Readers.{input_count, is_ended, is_marked, reader_of}
use Rattle.lq_prompt.specs.Desks.{desk_of}
use Rattle.lq_serve.specs.Devices.{inner_of, is_failed}
use Rattle.lq_conversation.specs.Conversations.{AnswersTyped}
use Rattle.lq_conversation.specs.Outcomes.{goes_on}
use Rattle.lq_conversation.specs.Turns.{AnswersEach}
use Rattle.lq_conversation.specs.Writers.{Receives}
use Rattle.lq_conversation.proofs.conversation.answer_inputs.Given as goal

abbrev pub invariant-loop-input : goal.invariant-loop-input
invariant-loop-input g l = record {
  way : Receives (g.W.Write.contents (inner_of l.fn.writer)) (g.W.Write.contents (inner_of l.writer))
      (λ bytes. AnswersEach (AnswersTyped (g.F.Files.holds l.fn.files)) (g.R.Read.remaining (reader_of l.fn.lines))
      (g.R.Read.remaining (reader_of l.lines)) (is_ended l.lines) (input_count l.fn.lines) (input_count l.lines)
      (desk_of l.fn.desk) (desk_of l.desk) bytes goes_on);
  unmarked : is_failed l.writer ≡ false;
  unrefused : is_marked l.lines ≡ false;
  keeps : (name : List ℕ) → g.F.Files.holds l.files name ≡ g.F.Files.holds l.fn.files name;
}

-- how many inputs the line reader can still give
abbrev pub decreases-loop-input : goal.decreases-loop-input
decreases-loop-input g l = 0xFFFFFFFFFFFFFFFF - input_count l.lines
