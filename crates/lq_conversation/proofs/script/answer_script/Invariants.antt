use Rattle.std.proofs.Common.{◌≡◌, false, length}
use Rattle.lq_grammar.specs.Script.{lines_of}
use Rattle.lq_prompt.specs.Desks.{desk_of}
use Rattle.lq_serve.specs.Devices.{inner_of, is_failed}
use Rattle.lq_conversation.specs.Outcomes.{goes_on}
use Rattle.lq_conversation.specs.Writers.{Receives}
use Rattle.lq_conversation.proofs.ScriptLemmas.{UnderWay}
use Rattle.lq_conversation.proofs.script.answer_script.Given as goal

abbrev pub invariant-loop-rest : goal.invariant-loop-rest
invariant-loop-rest g l = record {
  way : Receives (g.W.Write.contents (inner_of l.fn.writer)) (g.W.Write.contents (inner_of l.writer))
      (λ bytes. UnderWay (lines_of l.script) (lines_of l.rest) (desk_of l.fn.desk) (desk_of l.desk) bytes goes_on);
  unmarked : is_failed l.writer ≡ false;
}

abbrev pub decreases-loop-rest : goal.decreases-loop-rest
decreases-loop-rest g l = length l.rest
